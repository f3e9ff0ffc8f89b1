-- The walk in a box loses nothing: of texts that a substitution of the box covers, and whose words from the walk's start on are equal, it does not fail,
-- and its answer covers them. So where it fails, no lengths of the box have such texts. Assumes nothing.
use mathlib.Core.Path.{◌≡◌, refl, sym, ap, subst, ◌∙◌}
use mathlib.Core.Bool.{true, false}
use mathlib.Core.List.{List, [], ◌∷◌, ◌++◌}
use Rattle.std.specs.Prelude.{Bool}
use Rattle.std.specs.declared.result.Result.{Result}
use Rattle.std.specs.declared.result.Result.TheVariants.{Ok, Err}
use mathlib.Core.Logic.{◌⊎◌, inl, inr}
use Prim.Native.Nat.{ℕ, suc, ◌+◌, ◌-◌, ◌≤◌}
use native.Mathlib.Omega.{arith}
use lib.ListN.{length, drop, length-drop}
use lib.Seq.{drop-drop}
use lib.Dec.{eqb}
use borrow.Author.Tests.{eqb-true, eqb-false, eq-eqb, ne_eqb}
use Rattle.model.proofs.Lists.{by_test}
use Rattle.fields.specs.declared.Field.{Field}
use Rattle.unification.specs.Names.{repl, app, value_of, either, unify_of, Refining}
use Rattle.unification.proofs.Laws.{pick_ind, same_ok, err-ok, of_ok, Renamed, value_renamed, unify_cases, unify_complete, repl_refines}
use Rattle.walk.specs.declared.Walked.{Walked}
use Rattle.walk.specs.Walk.{word, Reached, at_cells, reached, is_open, onward, walk_in, in_numbers, told, walk_on}
use Rattle.walk.specs.Reading.{Reads}

-- a cell holds a letter or a name
pub record Solid (g : List Field) (u : ℕ) : Type 0 where
  pub present : value_of g u ≡ 255 → ⊥
  pub closed : value_of g u ≡ 254 → ⊥

-- Induction along the walk: what holds where it stops, and is kept by each way to pass cells, holds of what the walk answers.
pub record Along (P : List ℕ → List ℕ → List Field → Result Reached Reached → Type 0) : Type 0 where
  pub ends : (g : List Field) → P [] [] g (reached true [] [] g)
  pub left_blank : (u : ℕ) (a b : List ℕ) (g : List Field) (r : Result Reached Reached) → value_of g u ≡ 255 → P a b g r → P (u ∷ a) b g r
  pub right_blank : (v : ℕ) (a b : List ℕ) (g : List Field) (r : Result Reached Reached) → value_of g v ≡ 255 → P a b g r → P a (v ∷ b) g r
  pub left_over : (u : ℕ) (a : List ℕ) (g : List Field) → (value_of g u ≡ 255 → ⊥) → P (u ∷ a) [] g (reached (is_open g u) (u ∷ a) [] g)
  pub right_over : (v : ℕ) (b : List ℕ) (g : List Field) → (value_of g v ≡ 255 → ⊥) → P [] (v ∷ b) g (reached (is_open g v) [] (v ∷ b) g)
  pub same_cell : (u v : ℕ) (a b : List ℕ) (g : List Field) (r : Result Reached Reached) → u ≡ v → P a b g r → P (u ∷ a) (v ∷ b) g r
  pub waits : (u v : ℕ) (a b : List ℕ) (g : List Field) → (value_of g u ≡ 254) ⊎ (value_of g v ≡ 254) → P (u ∷ a) (v ∷ b) g (reached true (u ∷ a) (v ∷ b) g)
  pub letters : (u v : ℕ) (a b : List ℕ) (g : List Field) → Solid g u → Solid g v → ((h : List Field) → P a b h (walk_in a b h))
      → P (u ∷ a) (v ∷ b) g (onward (unify_of g (value_of g u) (value_of g v)) (walk_in a b) (reached false (u ∷ a) (v ∷ b) g))

pub along : (P : List ℕ → List ℕ → List Field → Result Reached Reached → Type 0) → Along P → (a b : List ℕ) (g : List Field) → P a b g (walk_in a b g)
unfolding walk_in
along P k [] [] g = k.ends g
along P k [] (v ∷ b) g =
    pick_ind (P [] (v ∷ b) g) (eqb (value_of g v) 255)
    (λ t. k.right_blank v [] b g _ (eqb-true _ _ t) (along P k [] b g))
    (λ t. k.right_over v b g (eqb-false _ _ t))
along P k (u ∷ a) [] g =
    pick_ind (P (u ∷ a) [] g) (eqb (value_of g u) 255)
    (λ t. k.left_blank u a [] g _ (eqb-true _ _ t) (along P k a [] g))
    (λ t. k.left_over u a g (eqb-false _ _ t))
along P k (u ∷ a) (v ∷ b) g =
    pick_ind (P (u ∷ a) (v ∷ b) g) (eqb (value_of g u) 255)
    (λ t. k.left_blank u a (v ∷ b) g _ (eqb-true _ _ t) (along P k a (v ∷ b) g))
    (λ n. pick_ind (P (u ∷ a) (v ∷ b) g) (eqb (value_of g v) 255)
    (λ t. k.right_blank v (u ∷ a) b g _ (eqb-true _ _ t) (along P k (u ∷ a) b g))
    (λ m. pick_ind (P (u ∷ a) (v ∷ b) g) (eqb u v)
    (λ t. k.same_cell u v a b g _ (eqb-true _ _ t) (along P k a b g))
    (λ d. pick_ind (P (u ∷ a) (v ∷ b) g) (is_open g u)
    (λ t. k.waits u v a b g (inl (eqb-true _ _ t)))
    (λ p. pick_ind (P (u ∷ a) (v ∷ b) g) (is_open g v)
    (λ t. k.waits u v a b g (inr (eqb-true _ _ t)))
    (λ q. k.letters u v a b g
    (record { present = eqb-false _ _ n; closed = eqb-false _ _ p })
    (record { present = eqb-false _ _ m; closed = eqb-false _ _ q })
    (along P k a b))))))

-- What a walk tells where it stops, failed or not.
pub told_stop : (P : Reached → Type 0) (t : Bool) {a b : List ℕ} {g : List Field} → P (at_cells a b g) → P (either (reached t a b g))
told_stop P true h = h
told_stop P false h = h

-- What a walk answers where it has not failed: where it stops, or what it answers with what was unified.
pub at_stop : (P : Reached → Type 0) (t : Bool) {a b : List ℕ} {g : List Field} → P (at_cells a b g) → (w : Reached) → reached t a b g ≡ Ok w → P w
at_stop P t h = of_ok P (reached t _ _ _) (told_stop P t h)

pub at_onward : (P : Reached → Type 0) (r : Result (List Field) (List Field)) {go : List Field → Result Reached Reached} (x : Reached) → ((h : List Field) → r ≡ Ok h → (w : Reached) → go h ≡ Ok w → P w) → (w : Reached) → onward r go (Err x) ≡ Ok w → P w
at_onward P (Err h) x f w e = err-ok w _ e
at_onward P (Ok h) x f w e = f h refl w e

-- What it tells with what was unified, failed or not.
pub told_onward : (P : Reached → Type 0) (r : Result (List Field) (List Field)) (go : List Field → Result Reached Reached) (stop : Result Reached Reached) → ((h : List Field) → r ≡ Ok h → P (either (go h))) → P (either stop) → P (either (onward r go stop))
told_onward P (Err h) go stop f s = s
told_onward P (Ok h) go stop f s = f h refl

never_empty : {P : Type 0} {x : ℕ} {xs : List ℕ} → x ∷ xs ≡ [] → P
never_empty e = let z : ◌≡◌ {A = ℕ} 0 1 = cc in absurd (omega arith)

-- a blank adds nothing to the word, and anything else what it holds
pub word_blank : (g : List Field) (u : ℕ) (a : List ℕ) → value_of g u ≡ 255 → word g (u ∷ a) ≡ word g a
unfolding word
word_blank g u a e = simp (eq-eqb _ _ e)

pub word-solid : (g : List Field) (u : ℕ) (a : List ℕ) → (value_of g u ≡ 255 → ⊥) → word g (u ∷ a) ≡ value_of g u ∷ word g a
unfolding word
word-solid g u a n = simp (ne_eqb _ _ n)

-- words of cells one after the other
pub word-append : (g : List Field) (a b : List ℕ) → word g (a ++ b) ≡ word g a ++ word g b
unfolding word
word-append g [] b = refl
word-append g (u ∷ a) b =
    pick_ind (λ (z : List ℕ). word g (u ∷ (a ++ b)) ≡ z ++ word g b) (eqb (value_of g u) 255)
    (λ t. word_blank g u (a ++ b) (eqb-true _ _ t) ∙ word-append g a b)
    (λ t. word-solid g u (a ++ b) (eqb-false _ _ t) ∙ ap (λ (z : List ℕ). value_of g u ∷ z) (word-append g a b))

-- Unification of letters and names leaves open places open, and makes none.
-- the same places are open
abbrev pub SameOpen : List Field → List Field → Type 0
SameOpen g h = (w : ℕ) → ((value_of g w ≡ 254 → value_of h w ≡ 254) × (value_of h w ≡ 254 → value_of g w ≡ 254))

repl_open : (g : List Field) (u v : ℕ) → 8 ≤ u → (u ≡ 255 → ⊥) → (v ≡ 255 → ⊥) → (u ≡ 254 → ⊥) → (v ≡ 254 → ⊥) → SameOpen g (app (repl u v) g)
repl_open g u v h n m p q w =
    let k : Renamed g (app (repl u v) g) = record { by = repl u v; refines = repl_refines u v h n m; is = refl } in
    rw (value_renamed k w)
    (pick_ind (λ z. (value_of g w ≡ 254 → z ≡ 254) × (z ≡ 254 → value_of g w ≡ 254)) (eqb (value_of g w) u)
    (λ t. (λ e. absurd (p (sym (eqb-true _ _ t) ∙ e)), λ e. absurd (q e)))
    (λ t. (λ e. e, λ e. e)))

pub unify_open : (g : List Field) (u v : ℕ) → (u ≡ 255 → ⊥) → (v ≡ 255 → ⊥) → (u ≡ 254 → ⊥) → (v ≡ 254 → ⊥) → SameOpen g (either (unify_of g u v))
unify_open g u v n m p q =
    unify_cases (λ r. SameOpen g (either r)) g u v
    (λ e w. (λ z. z, λ z. z))
    (λ d a b w. (λ z. z, λ z. z))
    (λ d h. repl_open g u v h n m p q)
    (λ d h. repl_open g v u h m n q p)

-- the walk has not failed, s is read by σ from what it answers, and the words from there on are equal
pub record Keeps (σ : ℕ → ℕ) (s : List Field) (r : Result Reached Reached) : Type 0 where
  pub at : Reached
  pub goes : r ≡ Ok at
  pub reads : Reads σ at.substitution s
  pub equal : word s at.left ≡ word s at.right

pub record KeepsOn (σ : ℕ → ℕ) (s : List Field) (a b : List ℕ) (r : Result Walked Walked) : Type 0 where
  pub at : Walked
  pub goes : r ≡ Ok at
  pub reads : Reads σ at.substitution s
  pub equal : word s (drop at.left a) ≡ word s (drop at.right b)

module _ (σ : ℕ → ℕ) (p : Refining σ) (s : List Field) where
  -- what the texts have at a cell that is blank, or that holds a letter or a name
  read-blank : (g : List Field) (u : ℕ) → Reads σ g s → value_of g u ≡ 255 → value_of s u ≡ 255
  unfolding Reads
  read-blank g u h e = sym (h u (λ o. let z : ◌≡◌ {A = ℕ} 254 255 = sym o ∙ e in omega arith)) ∙ ap σ e ∙ p.blank

  read-solid : (g : List Field) (u : ℕ) → Reads σ g s → Solid g u → value_of s u ≡ 255 → ⊥
  unfolding Reads
  read-solid g u h k e = k.present (p.solid (value_of g u) (h u k.closed ∙ e))

  read_word : (g : List Field) (u : ℕ) (a : List ℕ) → Reads σ g s → Solid g u → word s (u ∷ a) ≡ σ (value_of g u) ∷ word s a
  unfolding Reads
  read_word g u a h k = word-solid s u a (read-solid g u h k) ∙ ap (λ (x : ℕ). x ∷ word s a) (sym (h u k.closed))

  -- the same cell in front adds the same to both words
  same_front : (u : ℕ) (a b : List ℕ) → word s (u ∷ a) ≡ word s (u ∷ b) → word s a ≡ word s b
  same_front u a b e =
      by_test (eqb (value_of s u) 255)
      (λ t. sym (word_blank s u a (eqb-true _ _ t)) ∙ e ∙ word_blank s u b (eqb-true _ _ t))
      (λ t. let q = sym (word-solid s u a (eqb-false _ _ t)) ∙ e ∙ word-solid s u b (eqb-false _ _ t) in cc)

  -- what is unified is still read as s
  read_unified : (g k : List Field) → SameOpen g k → app σ k ≡ app σ g → Reads σ g s → Reads σ k s
  unfolding Reads
  read_unified g k o e h u n =
      let from : Renamed g (app σ g) = record { by = σ; refines = p; is = refl } in
      let to : Renamed k (app σ k) = record { by = σ; refines = p; is = refl } in
      sym (value_renamed to u) ∙ ap (λ (z : List Field). value_of z u) e ∙ value_renamed from u ∙ h u (λ z. n ((o u).0 z))

  word_none : word s [] ≡ []
  unfolding word
  word_none = refl

  -- a side used up before a cell: that cell is open, since the texts have nothing there
  over_open : (g : List Field) (u : ℕ) (a : List ℕ) → Reads σ g s → (value_of g u ≡ 255 → ⊥) → word s (u ∷ a) ≡ [] → is_open g u ≡ true
  over_open g u a h n e =
      by_test (is_open g u) (λ t. t)
      (λ t. never_empty (sym (read_word g u a h (record { present = n; closed = eqb-false _ _ t })) ∙ e))

  -- it stops where it stands
  stands : (a b : List ℕ) (g : List Field) (t : Bool) → t ≡ true → Reads σ g s → word s a ≡ word s b → Keeps σ s (reached t a b g)
  stands a b g t k h e = record { at = at_cells a b g; goes = rw k; reads = h; equal = e }

  pub walk_complete : (a b : List ℕ) (g : List Field) → Reads σ g s → word s a ≡ word s b → Keeps σ s (walk_in a b g)
  walk_complete = along (λ a b g r. Reads σ g s → word s a ≡ word s b → Keeps σ s r) record {
    ends = λ g. stands [] [] g true refl;
    left_blank = λ u a b g r z so h e. so h (sym (word_blank s u a (read-blank g u h z)) ∙ e);
    right_blank = λ v a b g r z so h e. so h (e ∙ word_blank s v b (read-blank g v h z));
    left_over = λ u a g n h e. stands (u ∷ a) [] g (is_open g u) (over_open g u a h n (e ∙ word_none)) h e;
    right_over = λ v b g n h e. stands [] (v ∷ b) g (is_open g v) (over_open g v b h n (sym e ∙ word_none)) h e;
    same_cell = λ u v a b g r d so h e. so h (same_front u a b (e ∙ ap (λ (x : ℕ). word s (x ∷ b)) (sym d)));
    waits = λ u v a b g o. stands (u ∷ a) (v ∷ b) g true refl;
    letters = λ u v a b g m n so h e.
        let q = sym (read_word g u a h m) ∙ e ∙ read_word g v b h n in
        let c = unify_complete g (value_of g u) (value_of g v) σ p (cc) in
        let o : SameOpen g c.0 = of_ok (SameOpen g) _ (unify_open g (value_of g u) (value_of g v) m.present n.present m.closed n.closed) c.0 c.1 in
        rw c.1 (so c.0 (read_unified g c.0 o c.2 h) (cc));
  }

-- What is left of a side is an end of it.
record End (a xs : List ℕ) : Type 0 where
  passed : ℕ
  within : passed ≤ length a
  is : xs ≡ drop passed a

whole : (a : List ℕ) → End a a
whole a = record { passed = 0; within = omega arith; is = refl }

one_more : {u : ℕ} {a xs : List ℕ} → End a xs → End (u ∷ a) xs
one_more e = record { passed = suc e.passed; within = let h = e.within in omega arith; is = e.is }

abbrev Ends : List ℕ → List ℕ → Reached → Type 0
Ends a b w = End a w.left × End b w.right

stays : (a b : List ℕ) (g : List Field) (t : Bool) → Ends a b (either (reached t a b g))
stays a b g t = told_stop (Ends a b) t (whole a, whole b)

walk_ends : (a b : List ℕ) (g : List Field) → Ends a b (either (walk_in a b g))
walk_ends = along (λ a b g r. Ends a b (either r)) record {
  ends = λ g. stays [] [] g true;
  left_blank = λ u a b g r z so. (one_more so.0, so.1);
  right_blank = λ v a b g r z so. (so.0, one_more so.1);
  left_over = λ u a g n. stays (u ∷ a) [] g (is_open g u);
  right_over = λ v b g n. stays [] (v ∷ b) g (is_open g v);
  same_cell = λ u v a b g r d so. (one_more so.0, one_more so.1);
  waits = λ u v a b g o. stays (u ∷ a) (v ∷ b) g true;
  letters = λ u v a b g m n so.
      told_onward (Ends (u ∷ a) (v ∷ b)) (unify_of g (value_of g u) (value_of g v)) _ _ (λ h _. let k = so h in (one_more k.0, one_more k.1)) (stays (u ∷ a) (v ∷ b) g false);
}

-- So the cells passed say what is left.
left_is : (a xs : List ℕ) (i : ℕ) → i ≤ length a → End (drop i a) xs → drop (length a - length xs) a ≡ xs
left_is a xs i h e =
    let long = length-drop i a in
    let len : length xs ≡ length a - i - e.passed = rw (e.is, length-drop e.passed (drop i a), length-drop i a) in
    let at : length a - length xs ≡ i + e.passed = omega (arith, e.within) in
    rw at (sym (drop-drop e.passed i a) ∙ sym e.is)

-- The walk in numbers loses nothing.
pub walk_on_complete : (a b : List ℕ) (i j : ℕ) (g : List Field) → i ≤ length a → j ≤ length b → (σ : ℕ → ℕ) → Refining σ → (s : List Field) → Reads σ g s → word s (drop i a) ≡ word s (drop j b) → KeepsOn σ s a b (walk_on a b i j g)
unfolding walk_on
walk_on_complete a b i j g from to σ p s h e =
    let k = walk_complete σ p s (drop i a) (drop j b) g h e in
    let ends = of_ok (Ends (drop i a) (drop j b)) _ (walk_ends (drop i a) (drop j b) g) k.at k.goes in
    record {
      at = in_numbers a b k.at;
      goes = rw k.goes;
      reads = k.reads;
      equal = ap (word s) (left_is a _ i from ends.0) ∙ k.equal ∙ ap (word s) (sym (left_is b _ j to ends.1));
    }

-- what a walk in numbers answers, from where it stops
pub told_ok : (P : Walked → Type 0) (a b : List ℕ) (w : Result Reached Reached) → ((q : Reached) → w ≡ Ok q → P (in_numbers a b q)) → (r : Walked) → told a b w ≡ Ok r → P r
told_ok P a b (Err q) f r e = err-ok r _ e
told_ok P a b (Ok q) f r e = subst P (same_ok _ _ e) (f q refl)

pub told_either : (P : Walked → Type 0) (a b : List ℕ) (w : Result Reached Reached) → P (in_numbers a b (either w)) → P (either (told a b w))
told_either P a b (Err q) h = h
told_either P a b (Ok q) h = h

-- the locations are within the sides
pub walk_on_within : (a b : List ℕ) (i j : ℕ) (g : List Field) → ((either (walk_on a b i j g)).left ≤ length a) × ((either (walk_on a b i j g)).right ≤ length b)
unfolding walk_on
walk_on_within a b i j g = told_either (λ r. (r.left ≤ length a) × (r.right ≤ length b)) a b (walk_in (drop i a) (drop j b) g) (omega arith, omega arith)
