-- Laws of renamings, of the values of cells, and of unification: what unification answers is the substitution under a renaming that makes the
-- two values the same, and no renaming that does so is lost. They need no invariant on the substitution. Assumes nothing.
use mathlib.Core.Path.{◌≡◌, refl, sym, ap, subst, fun_ext, ◌∙◌}
use mathlib.Core.Bool.{Bool, true, false}
use mathlib.Core.List.{List, [], ◌∷◌, map, map-map, map-id}
use Rattle.std.specs.declared.result.Result.{Result}
use Rattle.std.specs.declared.result.Result.TheVariants.{Ok, Err}
use Prim.Native.Nat.{ℕ, zero, suc, ◌-◌, ◌/◌, ◌%◌, ◌<◌, ◌≤◌}
use native.Mathlib.Omega.{arith}
use lib.ListN.{get_or}
use lib.Dec.{ltb, eqb}
use borrow.Author.Tests.{ltb-true, ltb-false, eqb-true, eqb-false, eq-eqb, ne_eqb, lt-ltb, le-ltb}
use Rattle.model.specs.Lists.{pick}
use Rattle.model.proofs.Lists.{by_test}
use Rattle.fields.specs.declared.Field.{Field}
use Rattle.unification.specs.Names.{repl, settle, map_field, app, place_of, value_of, either, unify_of, Below, Inside, Refining}

-- what holds of both arms holds of the one that is picked
pub pick_ind : {A : Type 0} (P : A → Type 0) (b : Bool) {x y : A} → (b ≡ true → P x) → (b ≡ false → P y) → P (pick b x y)
pick_ind P true f g = f refl
pick_ind P false f g = g refl

-- by which of two numbers is less
pub by_lt : {P : Type 0} (a b : ℕ) → (a < b → P) → (b ≤ a → P) → P
by_lt a b f g = by_test (ltb a b) (λ e. f (ltb-true a b e)) (λ e. g (ltb-false a b e))

same : Refining (λ x. x)
same = record { letter = λ x h. refl; blank = refl; solid = λ x e. e }

pub after : {s r : ℕ → ℕ} → Refining s → Refining r → Refining (λ x. r (s x))
after {s} {r} p q = record {
  letter = λ x h. ap r (p.letter x h) ∙ q.letter x h;
  blank = ap r p.blank ∙ q.blank;
  solid = λ x e. p.solid x (q.solid (s x) e);
}

repl-hit : (u v : ℕ) → repl u v u ≡ v
repl-hit u v = simp (eq-eqb u u refl)

repl-miss : (u v x : ℕ) → (x ≡ u → ⊥) → repl u v x ≡ x
repl-miss u v x n = simp (ne_eqb x u n)

pub repl_refines : (u v : ℕ) → 8 ≤ u → (u ≡ 255 → ⊥) → (v ≡ 255 → ⊥) → Refining (repl u v)
repl_refines u v h n m = record {
  letter = λ x k. repl-miss u v x (λ e. omega arith);
  blank = repl-miss u v 255 (λ e. n (sym e));
  solid = λ x. pick_ind (λ z. z ≡ 255 → x ≡ 255) (eqb x u) (λ t e. absurd (m e)) (λ t e. e);
}

pub settle_refines : Refining settle
settle_refines = record {
  letter = λ x h. simp (lt-ltb x 8 h);
  blank = refl;
  solid = λ x. pick_ind (λ z. z ≡ 255 → x ≡ 255) (ltb x 8) (λ t e. e)
      (λ t. pick_ind (λ z. z ≡ 255 → x ≡ 255) (eqb x 255) (λ q e. eqb-true x 255 q) (λ q e. absurd (omega arith)));
}

-- two renamings one after the other are one, and the renaming that keeps every place changes nothing
pub app-app : (s r : ℕ → ℕ) (g : List Field) → app r (app s g) ≡ app (λ x. r (s x)) g
unfolding app
app-app s r [] = refl
app-app s r (t ∷ g) = rw (map-map r s t.letters) (ap (λ (z : List Field). map_field (λ x. r (s x)) t ∷ z) (app-app s r g))

app-same : (g : List Field) → app (λ x. x) g ≡ g
unfolding app
app-same [] = refl
app-same (t ∷ g) = rw map-id (ap (λ (z : List Field). t ∷ z) (app-same g))

-- h is g under a renaming
pub record Renamed (g h : List Field) : Type 0 where
  pub by : ℕ → ℕ
  pub refines : Refining by
  pub is : h ≡ app by g

pub unchanged : (g : List Field) → Renamed g g
unchanged g = record { by = λ x. x; refines = same; is = sym (app-same g) }

abbrev pub further : {g k h : List Field} → Renamed g k → Renamed k h → Renamed g h
further {g} p q = record {
  by = λ x. q.by (p.by x);
  refines = after p.refines q.refines;
  is = q.is ∙ ap (app q.by) p.is ∙ app-app p.by q.by g;
}

-- g with every name settled
abbrev pub settled : (g : List Field) → Renamed g (app settle g)
settled g = record { by = settle; refines = settle_refines; is = refl }

get_d_map : (s : ℕ → ℕ) (l : List ℕ) (c : ℕ) → s 0 ≡ 0 → get_or (map s l) c 0 ≡ s (get_or l c 0)
get_d_map s [] c e = sym e
get_d_map s (x ∷ l) zero e = refl
get_d_map s (x ∷ l) (suc c) e = get_d_map s l c e

place-app : (s : ℕ → ℕ) (g : List Field) (f c : ℕ) → s 0 ≡ 0 → place_of (app s g) f c ≡ s (place_of g f c)
unfolding app
place-app s [] f c e = sym e
place-app s (t ∷ g) zero c e = get_d_map s t.letters c e
place-app s (t ∷ g) (suc f) c e = place-app s g f c e

-- a cell that is a place has what stands there, and one that is a letter that letter
pub value-place : (g : List Field) (u : ℕ) → 8 ≤ u → value_of g u ≡ place_of g ((u - 8) / 8) ((u - 8) % 8)
unfolding value_of
value-place g u h = simp (le-ltb u 8 h)

pub value-letter : (g : List Field) (u : ℕ) → u < 8 → value_of g u ≡ u
unfolding value_of
value-letter g u h = simp (lt-ltb u 8 h)

pub value_below : (l : ℕ) (g : List Field) (u : ℕ) → Inside l g → Below l u → Below l (value_of g u)
value_below l g u ins b = by_lt u 8 (λ h. rw (value-letter g u h) b) (λ h. ins u h)

-- the value of a cell after a renaming is its value, renamed
value-app : (s : ℕ → ℕ) → Refining s → (g : List Field) (u : ℕ) → value_of (app s g) u ≡ s (value_of g u)
value-app s p g u = by_lt u 8
    (λ h. rw (value-letter (app s g) u h, value-letter g u h) (sym (p.letter u h)))
    (λ h. rw (value-place (app s g) u h, value-place g u h) (place-app s g ((u - 8) / 8) ((u - 8) % 8) (p.letter 0 (omega arith))))

pub value_renamed : {g h : List Field} (k : Renamed g h) (u : ℕ) → value_of h u ≡ k.by (value_of g u)
value_renamed {g} k u = rw k.is (value-app k.by k.refines g u)

-- what a result says, where it is told
pub same_ok : {A E : Type 0} (x y : A) → ◌≡◌ {A = Result A E} (Ok x) (Ok y) → x ≡ y
same_ok x y e = cc

pub err-ok : {A E P : Type 0} (x : A) (q : E) → ◌≡◌ {A = Result A E} (Err q) (Ok x) → P
err-ok x q e = cc

-- what holds of what is told, failed or not, holds of it where nothing failed
pub of_ok : {A : Type 0} (P : A → Type 0) (r : Result A A) → P (either r) → (x : A) → r ≡ Ok x → P x
of_ok P r k x e = subst (λ z. P (either z)) e k

-- the cases of unification: the two values are the same, or are two letters that differ, or one is a name and becomes the other
pub unify_cases : (P : Result (List Field) (List Field) → Type 0) (g : List Field) (u v : ℕ) → (u ≡ v → P (Ok g)) → ((u ≡ v → ⊥) → u < 8 → v < 8 → P (Err g)) → ((u ≡ v → ⊥) → 8 ≤ u → P (Ok (app (repl u v) g))) → ((v ≡ u → ⊥) → 8 ≤ v → P (Ok (app (repl v u) g))) → P (unify_of g u v)
unfolding unify_of
unify_cases P g u v same differ left right =
    pick_ind P (eqb u v) (λ t. same (eqb-true u v t))
    (λ d. let n = eqb-false u v d in
    pick_ind P (ltb u 8)
    (λ a. pick_ind P (ltb v 8) (λ b. differ n (ltb-true u 8 a) (ltb-true v 8 b)) (λ b. right (λ e. n (sym e)) (ltb-false v 8 b)))
    (λ a. left n (ltb-false u 8 a)))

-- what holds of g, and of g under the replacement of one of the two values by the other, holds of what unification answers
pub unified_by : (P : List Field → Type 0) (g : List Field) (u v : ℕ) → (u ≡ v → P g) → ((u ≡ v → ⊥) → 8 ≤ u → P (app (repl u v) g)) → ((v ≡ u → ⊥) → 8 ≤ v → P (app (repl v u) g)) → (h : List Field) → unify_of g u v ≡ Ok h → P h
unified_by P g u v same left right =
    unify_cases (λ r. (h : List Field) → r ≡ Ok h → P h) g u v
    (λ k h e. subst P (same_ok _ _ e) (same k))
    (λ d a b h e. err-ok h g e)
    (λ d k h e. subst P (same_ok _ _ e) (left d k))
    (λ d k h e. subst P (same_ok _ _ e) (right d k))

-- unification is sound: what it answers is g under a renaming that makes u and v the same
pub record Unified (g : List Field) (u v : ℕ) (h : List Field) : Type 0 where
  pub how : Renamed g h
  pub joins : how.by u ≡ how.by v

repl_unifies : (g : List Field) (u v : ℕ) → (u ≡ 255 → ⊥) → (v ≡ 255 → ⊥) → (u ≡ v → ⊥) → 8 ≤ u → Unified g u v (app (repl u v) g)
repl_unifies g u v n m d h = record {
  how = record { by = repl u v; refines = repl_refines u v h n m; is = refl };
  joins = repl-hit u v ∙ sym (repl-miss u v v (λ e. d (sym e)));
}

exchanged : {g h : List Field} {u v : ℕ} → Unified g u v h → Unified g v u h
exchanged r = record { how = r.how; joins = sym r.joins }

pub unify_sound : (g : List Field) (u v : ℕ) → (u ≡ 255 → ⊥) → (v ≡ 255 → ⊥) → (h : List Field) → unify_of g u v ≡ Ok h → Unified g u v h
unfolding unchanged
unify_sound g u v n m =
    unified_by (Unified g u v) g u v
    (λ e. record { how = unchanged g; joins = e })
    (λ d h. repl_unifies g u v n m d h)
    (λ d h. exchanged (repl_unifies g v u m n d h))

-- a renaming that makes u and v the same does not see that u has become v
repl_absorbed : (s : ℕ → ℕ) (u v : ℕ) → s u ≡ s v → (g : List Field) → app s (app (repl u v) g) ≡ app s g
repl_absorbed s u v e g =
    app-app (repl u v) s g ∙ ap (λ (r : ℕ → ℕ). app r g) (fun_ext (λ x. pick_ind (λ z. s z ≡ s x) (eqb x u) (λ t. sym e ∙ ap s (sym (eqb-true x u t))) (λ t. refl)))

-- unification is complete: where a renaming makes u and v the same, it succeeds, and that renaming does not see what it did
pub unify_complete : (g : List Field) (u v : ℕ) (s : ℕ → ℕ) → Refining s → s u ≡ s v → (h : List Field) × (unify_of g u v ≡ Ok h) × (app s h ≡ app s g)
unify_complete g u v s p e =
    unify_cases (λ r. (h : List Field) × (r ≡ Ok h) × (app s h ≡ app s g)) g u v
    (λ _. (g, refl, refl))
    (λ d a b. absurd (d (sym (p.letter u a) ∙ e ∙ p.letter v b)))
    (λ d h. (app (repl u v) g, refl, repl_absorbed s u v e g))
    (λ d h. (app (repl v u) g, refl, repl_absorbed s v u (sym e) g))

-- letters come from nowhere else: where u and v are below l, so is what unification answers
inside-repl : (l : ℕ) (g : List Field) (u v : ℕ) → Inside l g → (u ≡ 255 → ⊥) → (v ≡ 255 → ⊥) → Below l v → 8 ≤ u → Inside l (app (repl u v) g)
inside-repl l g u v ins n m b h w k = rw (value-app (repl u v) (repl_refines u v h n m) g w) (pick_ind (Below l) (eqb (value_of g w) u) (λ t. b) (λ t. ins w k))

pub unify_inside : (l : ℕ) (g : List Field) (u v : ℕ) → Inside l g → (u ≡ 255 → ⊥) → (v ≡ 255 → ⊥) → Below l u → Below l v → Inside l (either (unify_of g u v))
unify_inside l g u v ins n m p q =
    unify_cases (λ r. Inside l (either r)) g u v
    (λ _. ins)
    (λ d a b. ins)
    (λ d h. inside-repl l g u v ins n m q h)
    (λ d h. inside-repl l g v u ins m n p h)
