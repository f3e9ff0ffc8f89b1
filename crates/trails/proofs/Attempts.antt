-- An attempt is right: what it answers is a solution with these lengths, none of which has a lower letter anywhere, and where it fails there is none. So where the walk of all equations fails in a
-- box, no attempt at lengths of the box succeeds. Assumes nothing.
use mathlib.Core.Path.{◌≡◌, refl, sym, ap, subst, ◌∙◌}
use Rattle.std.specs.Prelude.{Option, Some, None, is_some, IsSome, IsNone}
use Rattle.std.specs.Result.{result_ok}
use Rattle.std.specs.declared.result.Result.{Result}
use Rattle.std.specs.declared.result.Result.TheVariants.{Ok, Err}
use Rattle.std.proofs.lemmas.Option.{none-some, same_Some}
use mathlib.Core.List.{List, [], ◌∷◌}
use Prim.Native.Nat.{ℕ, ◌+◌, ◌*◌, ◌<◌, ◌≤◌}
use native.Mathlib.Omega.{arith}
use lib.ListN.{get_or, drop}
use lib.Seq.{get_or-drop}
use lib.Dec.{ltb, eqb}
use borrow.Author.Tests.{ltb-true, eqb-true, eqb-false}
use Rattle.model.proofs.Lists.{never, by_test}
use Rattle.fields.specs.declared.Field.{Field}
use Rattle.unification.specs.Names.{settle, app, value_of, either, Below, Refining}
use Rattle.unification.specs.Names as names
use Rattle.unification.proofs.Laws.{pick_ind, same_ok, err-ok, of_ok, Renamed, unchanged, further, settled, value_renamed}
use Rattle.walk.specs.Walk.{Letters, walk_in, walk_on}
use Rattle.walk.specs.Reading.{start_of, Reads, texts, Inside}
use Rattle.walk.proofs.Renewing.{start_is, start-closed, start-letters, start-value}
use Rattle.walk.proofs.Sound.{Closed, Solved, equal_renamed, walk_sound, walk_inside}
use Rattle.trails.specs.declared.Trail.{Trail}
use Rattle.trails.specs.Equations.{Equation, Solves}
use Rattle.trails.specs.Trail.{step_of, walk_all, open_trail, renew_trail, Located, Follows}
use Rattle.trails.specs.Attempt.{start_trail, settled_trail, attempt_of, answer_of}
use Rattle.trails.proofs.Trails.{step_ok, step_either, step_other, on_ok, on_either}
use Rattle.walk.proofs.Right.{told_ok, told_either}
use Rattle.trails.proofs.Box.{KeepsAll, none_passed, located-none, rests_none, all_complete, kept}

-- Several equations: an equality reached earlier survives what is unified later.
solves_renamed : {g h : List Field} → Renamed g h → (es : List Equation) → Solves es g → Solves es h
unfolding Solves
solves_renamed k [] e = tt
solves_renamed k (e ∷ es) h = (equal_renamed k e.left e.right h.0, solves_renamed k es h.1)

-- h is g under a renaming, and solves the equations
record Answer (es : List Equation) (g h : List Field) : Type 0 where
  how : Renamed g h
  solves : Solves es h

answer_next : {e : Equation} {es : List Equation} {g k h : List Field} → Solved e.left e.right g k → Answer es k h → Answer (e ∷ es) g h
unfolding Solves
answer_next {e} a b = record { how = further a.how b.how; solves = (equal_renamed b.how e.left e.right a.equal, b.solves) }

-- the equations from q on stand at their starts
abbrev Unwalked : ℕ → List ℕ → Type 0
Unwalked q at = (k : ℕ) → 2 * q ≤ k → get_or at k 0 ≡ 0

step_sound : (e : Equation) (q : ℕ) (t : Trail) → Unwalked q t.at → Closed t.substitution → (r : Trail) → step_of e q t ≡ Ok r → Solved e.left e.right t.substitution r.substitution
unfolding walk_on
step_sound e q t none c =
    step_ok (λ r. Solved e.left e.right t.substitution r.substitution) e q t
    (λ w is.
    let from_start = rw (none (2 * q) (omega arith), none (2 * q + 1) (omega arith)) at is in
    told_ok (λ v. Solved e.left e.right t.substitution v.substitution) e.left e.right (walk_in e.left e.right t.substitution) (walk_sound e.left e.right t.substitution c) w from_start)

all_sound : (es : List Equation) (q : ℕ) (t : Trail) → Unwalked q t.at → Closed t.substitution → (r : Trail) → walk_all es q t ≡ Ok r → Answer es t.substitution r.substitution
unfolding walk_all Solves
all_sound [] q t none c r is = subst (λ (u : Trail). Answer [] t.substitution u.substitution) (same_ok _ _ is) (record { how = unchanged t.substitution; solves = tt })
all_sound (e ∷ es) q t none c r is =
    on_ok (λ r. Answer (e ∷ es) t.substitution r.substitution) (step_of e q t)
    (λ u is r rest.
    let one = step_sound e q t none c u is in
    answer_next one (all_sound es (q + 1) u (λ i l. of_ok (λ r. get_or r.at i 0 ≡ get_or t.at i 0) _ (step_other e q t i (λ z. omega arith) (λ z. omega arith)) u is ∙ none i (omega arith)) one.closed r rest))
    r is

-- Letters come from the cells alone.
unfoldable pub AllLetters : ℕ → List Equation → Type 0
AllLetters l [] = Unit
AllLetters l (e ∷ es) = Letters l e.left × Letters l e.right × AllLetters l es

pub any-letters : (es : List Equation) → AllLetters 8 es
unfolding AllLetters
any-letters [] = tt
any-letters (e ∷ es) = (λ i h. h, λ i h. h, any-letters es)

letters-left : (l : ℕ) (a : List ℕ) (n : ℕ) → Letters l a → Letters l (drop n a)
letters-left l a n h i = rw (get_or-drop n a i 0) (h (n + i))

step_inside : (l : ℕ) (e : Equation) (q : ℕ) (t : Trail) → Letters l e.left → Letters l e.right → names.Inside l t.substitution → names.Inside l (either (step_of e q t)).substitution
unfolding walk_on
step_inside l e q t p r ins =
    let i : ℕ = get_or t.at (2 * q) 0 in
    let j : ℕ = get_or t.at (2 * q + 1) 0 in
    step_either (λ u. names.Inside l u.substitution) e q t
    (told_either (λ v. names.Inside l v.substitution) e.left e.right (walk_in (drop i e.left) (drop j e.right) t.substitution)
    (walk_inside l (drop i e.left) (drop j e.right) t.substitution (letters-left l e.left i p) (letters-left l e.right j r) ins))

all-inside : (l : ℕ) (es : List Equation) (q : ℕ) (t : Trail) → AllLetters l es → names.Inside l t.substitution → names.Inside l (either (walk_all es q t)).substitution
unfolding walk_all AllLetters
all-inside l [] q t c ins = ins
all-inside l (e ∷ es) q t c ins =
    let w = step_inside l e q t c.0 c.1 ins in
    on_either (λ r. names.Inside l r.substitution) (step_of e q t) (walk_all es (q + 1)) w
    (λ u is. all-inside l es (q + 1) u c.2 (of_ok (λ r. names.Inside l r.substitution) _ w u is))

-- An instance of the start: every place within the lengths n holds a letter below l.
pub record Instance (l : ℕ) (n : List ℕ) (h : List Field) : Type 0 where
  pub by : ℕ → ℕ
  pub refines : Refining by
  pub letter : (f c : ℕ) → f < 6 → c < 8 → c < get_or n f 0 → by (8 + 8 * f + c) < l
  pub is : h ≡ app by (start_of n)

settle-letter : (l x : ℕ) → 0 < l → (x ≡ 255 → ⊥) → Below l x → settle x < l
settle-letter l x z n b = pick_ind (λ y. y < l) (ltb x 8) (λ t. b (ltb-true x 8 t)) (λ t. pick_ind (λ y. y < l) (eqb x 255) (λ q. absurd (n (eqb-true x 255 q))) (λ q. z))

-- the start under a renaming, with letters below l: settled, it is an instance
settled_instance : (l : ℕ) → 0 < l → (n : List ℕ) {h : List Field} → Renamed (start_of n) h → names.Inside l h → Instance l n (app settle h)
settled_instance l z n {h} k ins =
    let both = further k (settled h) in
    record {
      by = both.by;
      refines = both.refines;
      letter = λ f c i j m.
          let held = value_renamed k (8 + 8 * f + c) ∙ ap k.by (start-value n f c i j m) in
          settle-letter l (k.by (8 + 8 * f + c)) z (λ q. let blank = k.refines.solid (8 + 8 * f + c) q in omega arith) (rw held at (ins (8 + 8 * f + c) (omega arith)));
      is = both.is;
    }

-- what an attempt answers: the trail after all equations, with every name settled
settled_some : (P : List Field → Type 0) (r : Result Trail Trail) → ((t : Trail) → r ≡ Ok t → P (app settle t.substitution)) → (h : List Field) → result_ok (settled_trail r) ≡ Some h → P h
settled_some P (Err q) f h e = absurd (none-some h e)
settled_some P (Ok t) f h e = subst P (same_Some _ _ e) (f t refl)

-- The two theorems: what the attempt answers is an instance with these lengths and solves the equations; and it answers one wherever some
-- instance does.
pub attempt_sound : (l : ℕ) → 0 < l → (es : List Equation) → AllLetters l es → (n : List ℕ) → (h : List Field) → answer_of es n ≡ Some h → Instance l n h × Solves es h
unfolding attempt_of
attempt_sound l z es ls n =
    settled_some (λ h. Instance l n h × Solves es h) (walk_all es 0 (start_trail n))
    (λ t is.
    let a = all_sound es 0 (start_trail n) (λ k _. none_passed k) (start-closed n) t is in
    (settled_instance l z n a.how (of_ok (λ r. names.Inside l r.substitution) _ (all-inside l es 0 (start_trail n) ls (start-letters l z n)) t is), solves_renamed (settled _) es a.solves))

walked : (s : ℕ → ℕ) → Refining s → (n : List ℕ) (es : List Equation) → Solves es (texts s n) → KeepsAll es 0 s (texts s n) (walk_all es 0 (start_trail n))
unfolding Reads
walked s p n es h =
    let given : Renamed (start_of n) (texts s n) = record { by = s; refines = p; is = refl } in
    all_complete s p (texts s n) es 0 (start_trail n) (located-none es 0) (λ u _. sym (value_renamed given u)) (rests_none es 0 (texts s n) h)

pub attempt_complete : (es : List Equation) (n : List ℕ) (s : ℕ → ℕ) → Refining s → Solves es (app s (start_of n)) → IsSome (answer_of es n)
unfolding attempt_of
attempt_complete es n s p h = rw (walked s p n es h).goes

-- What it answers is nowhere above a solution with these lengths, since at each place it has a letter that every such solution has there, or letter 0.
settle-least : (s : ℕ → ℕ) → Refining s → (x : ℕ) → settle x ≤ s x
settle-least s p x =
    pick_ind (λ y. y ≤ s x) (ltb x 8)
    (λ t. let e = p.letter x (ltb-true x 8 t) in omega arith)
    (λ _. pick_ind (λ y. y ≤ s x) (eqb x 255) (λ q. let e : s x ≡ 255 = rw (eqb-true x 255 q) p.blank in omega arith) (λ _. omega arith))

pub attempt_least : (es : List Equation) (n : List ℕ) (s : ℕ → ℕ) → Refining s → Solves es (app s (start_of n))
    → (h : List Field) → answer_of es n ≡ Some h → (u : ℕ) → value_of h u ≤ value_of (app s (start_of n)) u
unfolding attempt_of Reads
attempt_least es n s p h =
    let k = walked s p n es h in
    let g = k.trail.substitution in
    settled_some (λ h. (u : ℕ) → value_of h u ≤ value_of (app s (start_of n)) u) (walk_all es 0 (start_trail n))
    (λ t is u.
    let e : k.trail ≡ t = same_ok _ _ (sym k.goes ∙ is) in
    rw (← e, value_renamed (settled g) u) (by_test (eqb (value_of g u) 254)
    (λ e. rw (eqb-true (value_of g u) 254 e) (omega arith))
    (λ e. rw (sym (k.reads u (eqb-false (value_of g u) 254 e))) (settle-least s p (value_of g u)))))

-- an option that has a value has one
pub some_of : {A P : Type 0} (o : Option A) → IsSome o → ((x : A) → o ≡ Some x → P) → P
some_of None k f = never k
some_of (Some x) k f = f x refl

-- The main theorem on boxes: where the walk of all equations fails in a box, no attempt at lengths of the box succeeds.
pub failed-none : (es : List Equation) (lo hi : List ℕ) (t : Trail) → Follows es lo hi t → (q : Trail) → walk_all es 0 t ≡ Err q → (n : List ℕ) → Inside lo hi n → IsNone (answer_of es n)
failed-none es lo hi t f q e n i =
    by_test (is_some (answer_of es n))
    (λ won. some_of (answer_of es n) won
    (λ g is.
    let sound = attempt_sound 8 (omega arith) es (any-letters es) n g is in
    let a = sound.0 in
    let h : Solves es (texts a.by n) = subst (Solves es) a.is sound.1 in
    let k = kept es lo hi t f a.by a.refines n i h in
    err-ok k.trail q (sym e ∙ k.goes)))
    (λ lost. lost)

-- The attempt as the code makes it: from the open trail o, which is r in the box of one vector.
module _ (es : List Equation) (n : List ℕ) {o r : Trail} (opened : o ≡ open_trail) (renewed : r ≡ renew_trail o n n) where
  starts : r ≡ start_trail n
  unfolding open_trail
  starts = renewed ∙ rw (opened, start_is n)

  pub starts_located : Located es 0 r.at
  starts_located = rw starts (located-none es 0)

  attempt_is : settled_trail (walk_all es 0 r) ≡ attempt_of es n
  unfolding attempt_of
  attempt_is = rw starts

  -- w is the trail once it is walked
  module _ (w : Result Trail Trail) (walked : w ≡ walk_all es 0 r) where
    same : settled_trail w ≡ attempt_of es n
    same = ap settled_trail walked ∙ attempt_is

    pub attempt_won : (t : Trail) → w ≡ Ok t → Ok (app settle t.substitution) ≡ attempt_of es n
    attempt_won t e = rw e at same

    pub attempt_lost : (t : Trail) → w ≡ Err t → Err t.substitution ≡ attempt_of es n
    attempt_lost t e = rw e at same
