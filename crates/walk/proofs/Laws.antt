-- Laws of `walk_in` as the code meets it, which passes over all blanks of a side at once and counts cells from the start of a side; of the cells that are
-- lent on; and of the undecided places, which never rise. Assumes nothing.
use mathlib.Core.Path.{◌≡◌, refl, sym, ap, ◌∙◌}
use mathlib.Core.Bool.{Bool, true, false}
use mathlib.Core.List.{List, [], ◌∷◌, map}
use Prim.Native.Nat.{ℕ, zero, suc, ◌+◌, ◌-◌, ◌<◌, ◌≤◌}
use native.Mathlib.Omega.{arith}
use native.Mathlib.Decide.{ℕ_discrete}
use native.Mathlib.Numerals.{add-one}
use lib.ListN.{get_or, length, take, drop, length-drop}
use lib.Seq.{get_or-drop, drop-cons, drop-length}
use lib.Dec.{ltb, eqb}
use borrow.Author.Tests.{eqb-true, eqb-false, eq-eqb, ne_eqb, lt-ltb, le-ltb}
use Rattle.model.specs.Lists.{pick}
use Rattle.model.proofs.Lists.{by_test}
use Rattle.model.proofs.Seams.{tail_lent}
use Rattle.fields.specs.declared.Field.{Field}
use Rattle.std.specs.declared.result.Result.{Result}
use Rattle.std.specs.declared.result.Result.TheVariants.{Ok, Err}
use Rattle.unification.specs.Names.{repl, app, value_of, either, unify_of}
use Rattle.unification.proofs.Laws.{pick_ind, unify_cases}
use Rattle.walk.specs.declared.Walked.{Walked}
use Rattle.walk.specs.Walk.{Cells, named, names, undecided, Skipped, Reached, reached, may_end, alike_of, waits_of, onward, walk_in, told, walk_on}

-- a stretch of cells
cells-take : (k : ℕ) (a : List ℕ) → Cells a → Cells (take k a)
cells-take zero a h i = omega arith
cells-take (suc k) [] h i = omega arith
cells-take (suc k) (u ∷ a) h zero = h 0
cells-take (suc k) (u ∷ a) h (suc i) = cells-take k a (λ j. h (suc j)) i

pub cells_part : (a : List ℕ) (n k : ℕ) → Cells a → Cells (take k (drop n a))
cells_part a n k h = cells-take k (drop n a) (λ i. rw (get_or-drop n a i 0) (h (n + i)))

-- `&a[n..]`: what is lent
pub cells_tail : (a : List ℕ) (n : ℕ) → Cells a → Cells (take (length a - n) (drop n a))
cells_tail a n h = cells_part a n (length a - n) h

pub length_tail : (a : List ℕ) (n : ℕ) → length (take (length a - n) (drop n a)) ≡ length a - n
length_tail a n = rw (tail_lent a n) (length-drop n a)

-- undecided places never rise: a renaming of a name leaves every other place as it is
named-repl : (u v : ℕ) → 8 ≤ u → (u ≡ 255 → ⊥) → (x : ℕ) → named (repl u v x) ≤ named x
named-repl u v h n x = pick_ind (λ z. named z ≤ named x) (eqb x u)
    (λ t. let e : x ≡ u = eqb-true x u t in
    let k : 8 ≤ x = omega arith in
    rw (le-ltb x 8 k, ne_eqb x 255 (λ q. n (sym e ∙ q))) (one_at_most v))
    (λ t. omega arith)
  where
    one_at_most : (y : ℕ) → named y ≤ 1
    one_at_most y = pick_ind (λ z. z ≤ 1) (ltb y 8) (λ t. omega arith) (λ t. pick_ind (λ z. z ≤ 1) (eqb y 255) (λ q. omega arith) (λ q. omega arith))

names-repl : (u v : ℕ) → 8 ≤ u → (u ≡ 255 → ⊥) → (xs : List ℕ) → names (map (repl u v) xs) ≤ names xs
unfolding names
names-repl u v h n [] = omega arith
names-repl u v h n (x ∷ xs) = let one = named-repl u v h n x in let ih = names-repl u v h n xs in omega arith

undecided-repl : (u v : ℕ) → 8 ≤ u → (u ≡ 255 → ⊥) → (g : List Field) → undecided (app (repl u v) g) ≤ undecided g
unfolding undecided app
undecided-repl u v h n [] = omega arith
undecided-repl u v h n (t ∷ g) = let one = names-repl u v h n t.letters in let ih = undecided-repl u v h n g in omega arith

undecided_unify : (g : List Field) (u v : ℕ) → (u ≡ 255 → ⊥) → (v ≡ 255 → ⊥) → undecided (either (unify_of g u v)) ≤ undecided g
undecided_unify g u v n m =
    unify_cases (λ r. undecided (either r) ≤ undecided g) g u v
    (λ e. omega arith)
    (λ d a b. omega arith)
    (λ d h. undecided-repl u v h n g)
    (λ d h. undecided-repl v u h m g)

-- one cell more that keeps what those before it keep
pub blank-more : (P : ℕ → Type 0) (from i : ℕ) → ((k : ℕ) → from ≤ k → k < i → P k) → P i → (k : ℕ) → from ≤ k → k < i + 1 → P k
blank-more P from i so here k l h = by (ℕ_discrete k i)
  where
    by : Dec (k ≡ i) → P k
    by (yes e) = rw e here
    by (no n) = so k l (omega arith)

-- a blank in front may be passed over on either side
blank-left : (u : ℕ) (a b : List ℕ) (g : List Field) → value_of g u ≡ 255 → walk_in a b g ≡ walk_in (u ∷ a) b g
unfolding walk_in
blank-left u a [] g e = simp (eq-eqb _ _ e)
blank-left u a (v ∷ b) g e = simp (eq-eqb _ _ e)

blank-right : (a : List ℕ) (v : ℕ) (b : List ℕ) (g : List Field) → value_of g v ≡ 255 → walk_in a b g ≡ walk_in a (v ∷ b) g
unfolding walk_in
blank-right [] v b g e = simp (eq-eqb _ _ e)
blank-right (u ∷ a) v b g e = by (ℕ_discrete (value_of g u) 255) (blank-right a v b g e)
  where
    by : Dec (value_of g u ≡ 255) → walk_in a b g ≡ walk_in a (v ∷ b) g → walk_in (u ∷ a) b g ≡ walk_in (u ∷ a) (v ∷ b) g
    by (yes t) ih = sym (blank-left u a b g t) ∙ ih ∙ blank-left u a (v ∷ b) g t
    by (no n) ih = simp (ne_eqb _ _ n, eq-eqb _ _ e)

-- and so may any number of them
past_blanks : (W : List ℕ → Result Reached Reached) (g : List Field) → ((u : ℕ) (a : List ℕ) → value_of g u ≡ 255 → W a ≡ W (u ∷ a)) → (a : List ℕ) (from i : ℕ) → from ≤ i → i ≤ length a → ((k : ℕ) → from ≤ k → k < i → value_of g (get_or a k 0) ≡ 255) → W (drop i a) ≡ W (drop from a)
past_blanks W g one a from zero l h e = let z : from ≡ 0 = omega arith in rw z
past_blanks W g one a from (suc i) l h e = by (ℕ_discrete from (suc i)) (past_blanks W g one a from i)
  where
    by : Dec (from ≡ suc i) → (from ≤ i → i ≤ length a → ((k : ℕ) → from ≤ k → k < i → value_of g (get_or a k 0) ≡ 255) → W (drop i a) ≡ W (drop from a)) → W (drop (suc i) a) ≡ W (drop from a)
    by (yes z) ih = rw z
    by (no n) ih =
        one (get_or a i 0) (drop (suc i) a) (e i (omega arith) (omega arith))
        ∙ ap W (sym (drop-cons a i 0 (omega arith)))
        ∙ ih (omega arith) (omega arith) (λ k p q. e k p (omega arith))

-- what is left of a side past its blanks: nothing, or a letter or name and the rest
nothing_left : (a : List ℕ) (i : ℕ) → i ≡ length a → drop i a ≡ []
nothing_left a i e = rw e (drop-length a)

-- how many cells are passed where those from i on are left
passed : (a : List ℕ) (i : ℕ) → i ≤ length a → length a - length (drop i a) ≡ i
passed a i h = rw (length-drop i a) (omega arith)

-- a cell and the rest are left there
module _ {a : List ℕ} {g : List Field} {from i : ℕ} (s : Skipped g a from i) (n : i ≡ length a → ⊥) where
  pub in_range : i < length a
  in_range = let w = s.within in omega arith

  some_left : drop i a ≡ get_or a i 0 ∷ drop (i + 1) a
  some_left = rw add-one (drop-cons a i 0 in_range)

  solid-left : value_of g (get_or a i 0) ≡ 255 → ⊥
  solid-left = s.solid in_range

-- what the code asks of two cells, test by test
test_by_test : (x y u v : ℕ) (pass wait meet : Result Reached Reached) → (u ≡ v → meet ≡ pass)
    → pick (alike_of x y u v) pass (pick (waits_of u v) wait meet) ≡ pick (eqb x y) pass (pick (eqb u 254) wait (pick (eqb v 254) wait meet))
test_by_test x y u v pass wait meet same =
    by_test (eqb x y) (λ t. rw t)
    (λ d. by_test (eqb u 254) (λ t. rw (d, t))
    (λ o. by_test (eqb u v)
    (λ t. let e = eqb-true u v t in rw (d, o, t, ne_eqb v 254 (λ z. eqb-false u 254 o (e ∙ z))) (sym (same e)))
    (λ t. rw (d, o, t))))

-- nothing was unified: the walk stops
stopped : (r : Result (List Field) (List Field)) → ((h : List Field) → r ≡ Ok h → ⊥) → (go : List Field → Result Reached Reached) (stop : Result Reached Reached) → onward r go stop ≡ stop
stopped (Err h) none go stop = refl
stopped (Ok h) none go stop = absurd (none h refl)

-- The code stands past the blanks of both sides, and answers as the walk from the start does.
module _ {a b : List ℕ} {g : List Field} {from to i j : ℕ} (s : Skipped g a from i) (t : Skipped g b to j) where
  skipped : walk_in (drop i a) (drop j b) g ≡ walk_in (drop from a) (drop to b) g
  skipped =
      past_blanks (λ z. walk_in (drop i a) z g) g (λ v z. blank-right (drop i a) v z g) b to j t.past t.within t.blank
      ∙ past_blanks (λ z. walk_in z (drop to b) g) g (λ u z. blank-left u z (drop to b) g) a from i s.past s.within s.blank

  -- the walk stops here
  abbrev at_here : Walked
  at_here = record { left = i; right = j; substitution = g }

  abbrev here : Bool → Result Walked Walked
  here o = pick o (Ok at_here) (Err at_here)

  told_here : (o : Bool) → here o ≡ told a b (reached o (drop i a) (drop j b) g)
  told_here true = rw (passed a i s.within, passed b j t.within)
  told_here false = rw (passed a i s.within, passed b j t.within)

  stops : (o : Bool) → walk_in (drop i a) (drop j b) g ≡ reached o (drop i a) (drop j b) g → here o ≡ walk_on a b from to g
  unfolding walk_on
  stops o e = rw (← skipped, e) (told_here o)

  -- a side is used up
  pub left_end : i ≡ length a → here (may_end b j g) ≡ walk_on a b from to g
  unfolding walk_in
  left_end p = by (ℕ_discrete j (length b))
    where
      by : Dec (j ≡ length b) → here (may_end b j g) ≡ walk_on a b from to g
      by (yes q) = rw (le-ltb j (length b) (omega arith)) (stops true (rw (nothing_left a i p, nothing_left b j q)))
      by (no q) = rw (lt-ltb j (length b) (in_range t q)) (stops _ (rw (nothing_left a i p, some_left t q) (simp (ne_eqb _ _ (solid-left t q)))))

  module _ (p : i ≡ length a → ⊥) where
    pub right_end : j ≡ length b → here (may_end a i g) ≡ walk_on a b from to g
    unfolding walk_in
    right_end q = rw (lt-ltb i (length a) (in_range s p)) (stops _ (rw (some_left s p, nothing_left b j q) (simp (ne_eqb _ _ (solid-left s p)))))

    -- on both sides a cell is left that is not blank; they hold u and v
    module _ (q : j ≡ length b → ⊥) {u v : ℕ} (holds : u ≡ value_of g (get_or a i 0)) (holds-too : v ≡ value_of g (get_or b j 0)) where
      abbrev next_in : List Field → Result Reached Reached
      next_in h = walk_in (drop (i + 1) a) (drop (j + 1) b) h

      abbrev stay : Bool → Result Reached Reached
      stay o = reached o (drop i a) (drop j b) g

      meeting : pick (alike_of (get_or a i 0) (get_or b j 0) u v) (next_in g) (pick (waits_of u v) (stay true) (onward (unify_of g u v) next_in (stay false))) ≡ walk_in (drop i a) (drop j b) g
      unfolding walk_in unify_of
      meeting =
          test_by_test (get_or a i 0) (get_or b j 0) u v (next_in g) (stay true) (onward (unify_of g u v) next_in (stay false)) (λ e. rw (eq-eqb u v e))
          ∙ rw (holds, holds-too, some_left s p, some_left t q) (simp (ne_eqb _ _ (solid-left s p), ne_eqb _ _ (solid-left t q)))

      -- the walk goes on past both cells
      pub passes : alike_of (get_or a i 0) (get_or b j 0) u v ≡ true → walk_on a b (i + 1) (j + 1) g ≡ walk_on a b from to g
      unfolding walk_on
      passes e = ap (told a b) ((rw e at meeting) ∙ skipped)

      module _ (other : alike_of (get_or a i 0) (get_or b j 0) u v ≡ false) where
        pub waits_there : waits_of u v ≡ true → here true ≡ walk_on a b from to g
        waits_there o = stops true (sym meeting ∙ rw (other, o))

        module _ (closed : waits_of u v ≡ false) where
          pub unified : (h : List Field) → unify_of g u v ≡ Ok h → walk_on a b (i + 1) (j + 1) h ≡ walk_on a b from to g
          unfolding walk_on
          unified h k = rw (← skipped, ← meeting, other, closed, k)

          pub refuted : ((h : List Field) → unify_of g u v ≡ Ok h → ⊥) → here false ≡ walk_on a b from to g
          refuted none = stops false (sym meeting ∙ rw (other, closed) (stopped (unify_of g u v) none next_in (stay false)))

      pub fewer_undecided : undecided (either (unify_of g u v)) ≤ undecided g
      fewer_undecided = undecided_unify g u v (λ e. solid-left s p (sym holds ∙ e)) (λ e. solid-left t q (sym holds-too ∙ e))
