-- Which clauses `listed` lists: P of all its names is P of each name in its range. What holds of each clause, apart from order and
-- number, is shown by this, and not by the text of `listed`. Assumes nothing.
use mathlib.Core.Path.{◌≡◌, refl, sym, subst}
use mathlib.Core.Bool.{true, ◌&&◌, ◌||◌}
use mathlib.Core.List.{List, [], ◌∷◌, map}
use Prim.Native.Nat.{ℕ, suc, ◌-◌, ◌<◌, ◌≤◌}
use native.Mathlib.Omega.{arith}
use lib.Dec.{ltb, eqb}
use lib.IntN.{ℤ, pos, ◌+ℤ◌}
use lib.ListN.{length}
use lib.Signed.{lt_z}
use borrow.Author.Tests.{ltb-true, eqb-true, lt-ltb, eq-eqb}
use Rattle.model.specs.Lists.{each, from, up_to, when, All}
use Rattle.model.specs.Sheet.{Constraint, Sheet, limit, constraint}
use Rattle.formula.specs.Clause.{ClauseId, SomeValue, NotBoth, BlankTail, Start, Left, Right, Both, Match, End, Zero, Add, Bound, least, spread, sums, place_ids, location_ids, equation_ids, constraint_ids, listed, stays, ids, blank, fields, left_cells, right_cells, not_both_ids, add_ids}
use Rattle.formula.specs.Count.{IdIn}
use Rattle.model.proofs.Lists.{by_test, or_left, or_right, and_split, and_join, append_out, append_in, weaken, map_out, map_in, each_out, each_in, from_out, below_out}
use Rattle.formula.proofs.Integers.{sum_in}
use Rattle.model.proofs.Keeping.{one_out, one_in, when_out, when_in, keep_in, from_in, below_in, loop_out, loop_in}

-- the clauses of place c of field f
pub record AtPlace (s : Sheet) (P : ClauseId → Type 0) (f c : ℕ) : Type 0 where
  pub some_value : P (SomeValue f c)
  pub not_both : (a b : ℕ) → a < b → b ≤ blank s → P (NotBoth f c a b)
  pub blank_tail : suc c < limit s f → P (BlankTail f c)

-- the clauses of equation p, with m cells on the left and n on the right
pub record AtEquation (s : Sheet) (P : ClauseId → Type 0) (p m n : ℕ) : Type 0 where
  pub start : P (Start p)
  pub go_left : (i j : ℕ) → i < m → j ≤ n → P (Left p i j)
  pub go_right : (i j : ℕ) → i ≤ m → j < n → P (Right p i j)
  pub go_both : (i j : ℕ) → i < m → j < n → P (Both p i j)
  pub matching : (i j a : ℕ) → i < m → j < n → a < blank s → P (Match p i j a)
  pub left_used : (j : ℕ) → j < n → P (End p m j)
  pub right_used : (i : ℕ) → i < m → P (End p i n)

-- the clauses of constraint r
pub record AtConstraint (s : Sheet) (P : ClauseId → Type 0) (r : ℕ) : Type 0 where
  pub nought : P (Zero r)
  pub add : (k n d : ℕ) → k < fields s → n ≤ spread s (constraint s r) k → d ≤ limit s k
      → P (Add r k (least s (constraint s r) k +ℤ pos n) d)
  pub bound : (n : ℕ) → n ≤ spread s (constraint s r) (fields s)
      → lt_z (constraint s r).most (least s (constraint s r) (fields s) +ℤ pos n) ≡ true
      → P (Bound r (least s (constraint s r) (fields s) +ℤ pos n))

pub record Every (s : Sheet) (P : ClauseId → Type 0) : Type 0 where
  pub places : (f c : ℕ) → f < fields s → c < limit s f → AtPlace s P f c
  pub equations : (p : ℕ) → p < length s.equations → AtEquation s P p (length (left_cells s p)) (length (right_cells s p))
  pub constraints : (r : ℕ) → r < length s.constraints → AtConstraint s P r

module _ (s : Sheet) (P : ClauseId → Type 0) where
  place_out : (f c : ℕ) → All P (place_ids s f c) → AtPlace s P f c
  unfolding place_ids
  place_out f c h =
      let pairs : ℕ → List ClauseId = not_both_ids s f c in
      let r = append_out P (SomeValue f c ∷ []) _ h in
      let q = append_out P (each (up_to (suc (blank s))) pairs) _ r.1 in
      record {
        some_value = one_out P r.0;
        not_both = λ a b lt le.
            let of-a = map_out P (NotBoth f c a) (from (suc a) (blank s - a)) (loop_out P (suc (blank s)) pairs q.0 a (omega arith)) in
            from_out (λ b. P (NotBoth f c a b)) (suc a) (blank s - a) of-a b lt (omega arith);
        blank_tail = λ lt. one_out P (when_out P _ _ q.1 (lt-ltb _ _ lt));
      }

  pub place_in : (f c : ℕ) → AtPlace s P f c → All P (place_ids s f c)
  unfolding place_ids
  place_in f c h =
      let pairs : ℕ → List ClauseId = not_both_ids s f c in
      append_in P (SomeValue f c ∷ []) _ (one_in P h.some_value)
      (append_in P (each (up_to (suc (blank s))) pairs) _
      (loop_in P (suc (blank s)) pairs (λ a lt. map_in P (NotBoth f c a) (from (suc a) (blank s - a))
      (from_in (λ b. P (NotBoth f c a b)) (suc a) (blank s - a) (λ b low high. h.not_both a b low (omega arith)))))
      (when_in P _ _ (λ e. one_in P (h.blank_tail (ltb-true _ _ e)))))

  module _ (p m n : ℕ) where
    -- the clauses of one location
    record AtLocation (i j : ℕ) : Type 0 where
      l_left : i < m → P (Left p i j)
      l_right : j < n → P (Right p i j)
      l_both : i < m → j < n → P (Both p i j)
      l_match : (a : ℕ) → i < m → j < n → a < blank s → P (Match p i j a)
      l_end : (eqb i m && ltb j n || ltb i m && eqb j n) ≡ true → P (End p i j)

    location_out : (i j : ℕ) → All P (location_ids s p m n i j) → AtLocation i j
    unfolding location_ids All
    location_out i j h =
        let r1 = append_out P (when (ltb i m) (Left p i j ∷ [])) _ h in
        let r2 = append_out P (when (ltb j n) (Right p i j ∷ [])) _ r1.1 in
        let r3 = append_out P (when (ltb i m && ltb j n) (Both p i j ∷ map (Match p i j) (up_to (blank s)))) _ r2.1 in
        record {
          l_left = λ a. one_out P (when_out P _ _ r1.0 (lt-ltb _ _ a));
          l_right = λ b. one_out P (when_out P _ _ r2.0 (lt-ltb _ _ b));
          l_both = λ a b. (when_out P _ _ r3.0 (and_join (lt-ltb _ _ a) (lt-ltb _ _ b))).0;
          l_match = λ x a b lt.
              let of-all = (when_out P _ _ r3.0 (and_join (lt-ltb _ _ a) (lt-ltb _ _ b))).1 in
              below_out (λ x. P (Match p i j x)) (blank s) (map_out P (Match p i j) (up_to (blank s)) of-all) x lt;
          l_end = λ e. one_out P (when_out P _ _ r3.1 e);
        }

    location_in : (i j : ℕ) → AtLocation i j → All P (location_ids s p m n i j)
    unfolding location_ids All
    location_in i j h =
        append_in P (when (ltb i m) (Left p i j ∷ [])) _ (when_in P _ _ (λ e. one_in P (h.l_left (ltb-true _ _ e))))
        (append_in P (when (ltb j n) (Right p i j ∷ [])) _ (when_in P _ _ (λ e. one_in P (h.l_right (ltb-true _ _ e))))
        (append_in P (when (ltb i m && ltb j n) (Both p i j ∷ map (Match p i j) (up_to (blank s)))) _
        (when_in P _ _ (λ e. let q = and_split (ltb i m) (ltb j n) e in let a = ltb-true _ _ q.0 in let b = ltb-true _ _ q.1 in
        (h.l_both a b, map_in P (Match p i j) (up_to (blank s)) (below_in (λ x. P (Match p i j x)) (blank s) (λ x lt. h.l_match x a b lt)))))
        (when_in P _ _ (λ e. one_in P (h.l_end e)))))

  equation_out : (p : ℕ) → All P (equation_ids s p) → AtEquation s P p (length (left_cells s p)) (length (right_cells s p))
  unfolding equation_ids
  equation_out p h =
      let m : ℕ = length (left_cells s p) in
      let n : ℕ = length (right_cells s p) in
      let r = append_out P (Start p ∷ []) _ h in
      let at : (i j : ℕ) → i ≤ m → j ≤ n → AtLocation p m n i j = λ i j a b.
      location_out p m n i j (loop_out P _ _ (loop_out P _ _ r.1 i (omega arith)) j (omega arith)) in
      record {
        start = one_out P r.0;
        go_left = λ i j a b. (at i j (omega arith) b).l_left a;
        go_right = λ i j a b. (at i j a (omega arith)).l_right b;
        go_both = λ i j a b. (at i j (omega arith) (omega arith)).l_both a b;
        matching = λ i j x a b lt. (at i j (omega arith) (omega arith)).l_match x a b lt;
        left_used = λ j b. (at m j (omega arith) (omega arith)).l_end (or_left _ (and_join (eq-eqb m m refl) (lt-ltb _ _ b)));
        right_used = λ i a. (at i n (omega arith) (omega arith)).l_end (or_right (eqb i m && ltb n n) (and_join (lt-ltb _ _ a) (eq-eqb n n refl)));
      }

  end_of : (p m n i j : ℕ) → AtEquation s P p m n → (eqb i m && ltb j n || ltb i m && eqb j n) ≡ true → P (End p i j)
  end_of p m n i j h e = by_test (eqb i m && ltb j n)
      (λ t.
      let q = and_split (eqb i m) (ltb j n) t in
      subst (λ x. P (End p x j)) (sym (eqb-true _ _ q.0)) (h.left_used j (ltb-true _ _ q.1)))
      (λ t.
      let q = and_split (ltb i m) (eqb j n) (rw t at e) in
      subst (λ x. P (End p i x)) (sym (eqb-true _ _ q.1)) (h.right_used i (ltb-true _ _ q.0)))

  equation_in : (p : ℕ) → AtEquation s P p (length (left_cells s p)) (length (right_cells s p)) → All P (equation_ids s p)
  unfolding equation_ids
  equation_in p h =
      let m : ℕ = length (left_cells s p) in
      let n : ℕ = length (right_cells s p) in
      append_in P (Start p ∷ []) _ (one_in P h.start)
      (loop_in P _ _ (λ i a. loop_in P _ _ (λ j b. location_in p m n i j (record {
        l_left = λ lt. h.go_left i j lt (omega arith);
        l_right = λ lt. h.go_right i j (omega arith) lt;
        l_both = λ k l. h.go_both i j k l;
        l_match = λ x k l lt. h.matching i j x k l lt;
        l_end = λ e. end_of p m n i j h e;
      }))))

  -- every sum of the first k fields
  sums_out : (Q : ℤ → Type 0) (r : Constraint) (k : ℕ) → All Q (sums s r k) → (n : ℕ) → n ≤ spread s r k → Q (least s r k +ℤ pos n)
  unfolding sums
  sums_out Q r k h n le = below_out (λ n. Q (least s r k +ℤ pos n)) _ (map_out Q _ _ h) n (omega arith)

  sums_in : (Q : ℤ → Type 0) (r : Constraint) (k : ℕ) → ((n : ℕ) → n ≤ spread s r k → Q (least s r k +ℤ pos n)) → All Q (sums s r k)
  unfolding sums
  sums_in Q r k f = map_in Q _ _ (below_in (λ n. Q (least s r k +ℤ pos n)) _ (λ n lt. f n (omega arith)))

  module _ (r : ℕ) where
    abbrev q : Constraint
    q = constraint s r

    abbrev adds : ℕ → ℤ → List ClauseId
    adds k n = add_ids s r k n

    abbrev steps : ℕ → List ClauseId
    steps k = each (sums s q k) (adds k)

    abbrev over : ℤ → List ClauseId
    over n = when (lt_z q.most n) (Bound r n ∷ [])

    constraint_out : All P (constraint_ids s r) → AtConstraint s P r
    unfolding constraint_ids
    constraint_out h =
        let r1 = append_out P (Zero r ∷ []) _ h in
        let r2 = append_out P (each (up_to (fields s)) steps) _ r1.1 in
        record {
          nought = one_out P r1.0;
          add = λ k n d lt le ld.
              let of-step = each_out P (sums s q k) (adds k) (loop_out P (fields s) steps r2.0 k lt) in
              let of-sum = sums_out (λ z. All P (adds k z)) q k of-step n le in
              below_out (λ d. P (Add r k (least s q k +ℤ pos n) d)) _ (map_out P (Add r k (least s q k +ℤ pos n)) _ of-sum) d (omega arith);
          bound = λ n le e.
              let of-final = each_out P (sums s q (fields s)) over r2.1 in
              one_out P (when_out P _ _ (sums_out (λ z. All P (over z)) q (fields s) of-final n le) e);
        }

    constraint_in : AtConstraint s P r → All P (constraint_ids s r)
    unfolding constraint_ids
    constraint_in h =
        append_in P (Zero r ∷ []) _ (one_in P h.nought)
        (append_in P (each (up_to (fields s)) steps) _
        (loop_in P (fields s) steps (λ k lt. each_in P (sums s q k) (adds k) (sums_in (λ z. All P (adds k z)) q k (λ n le.
        map_in P (Add r k (least s q k +ℤ pos n)) _
        (below_in (λ d. P (Add r k (least s q k +ℤ pos n) d)) _ (λ d ld. h.add k n d lt le (omega arith)))))))
        (each_in P (sums s q (fields s)) over (sums_in (λ z. All P (over z)) q (fields s) (λ n le. when_in P _ _ (λ e. one_in P (h.bound n le e))))))

  pub listed_out : All P (listed s) → Every s P
  unfolding listed
  listed_out h =
      let r1 = append_out P (each (up_to (fields s)) (λ f. each (up_to (limit s f)) (λ c. place_ids s f c))) _ h in
      let r2 = append_out P (each (up_to (length s.equations)) (equation_ids s)) _ r1.1 in
      record {
        places = λ f c a b. place_out f c (loop_out P _ _ (loop_out P _ _ r1.0 f a) c b);
        equations = λ p a. equation_out p (loop_out P _ _ r2.0 p a);
        constraints = λ r a. constraint_out r (loop_out P _ _ r2.1 r a);
      }

  pub listed_in : Every s P → All P (listed s)
  unfolding listed
  listed_in h =
      append_in P (each (up_to (fields s)) (λ f. each (up_to (limit s f)) (λ c. place_ids s f c))) _
      (loop_in P _ _ (λ f a. loop_in P _ _ (λ c b. place_in f c (h.places f c a b))))
      (append_in P (each (up_to (length s.equations)) (equation_ids s)) _
      (loop_in P _ _ (λ p a. equation_in p (h.equations p a)))
      (loop_in P _ _ (λ r a. constraint_in r (h.constraints r a))))

-- Every clause there is has its name in range.
listed-ids : (s : Sheet) → All (IdIn s) (listed s)
listed-ids s = listed_in s (IdIn s) (record {
  places = λ f c a b. record {
    some_value = (a, b);
    not_both = λ x y lt le. ((a, b), lt, le);
    blank_tail = λ lt. ((a, b), lt);
  };
  equations = λ p h. record {
    start = h;
    go_left = λ i j a b. ((h, omega arith, b), a);
    go_right = λ i j a b. ((h, a, omega arith), b);
    go_both = λ i j a b. ((h, omega arith, omega arith), a, b);
    matching = λ i j x a b lt. ((h, omega arith, omega arith), a, b, lt);
    left_used = λ j b. (h, omega arith, omega arith);
    right_used = λ i a. (h, omega arith, omega arith);
  };
  constraints = λ r h. record {
    nought = h;
    add = λ k n d lt le ld. (h, lt, sum_in s (constraint s r) k n le, ld);
    bound = λ n le e. (h, sum_in s (constraint s r) (fields s) n le);
  };
})

pub ids_in : (s : Sheet) → All (IdIn s) (ids s)
unfolding ids
ids_in s = keep_in (IdIn s) (stays s) (listed s) (weaken (IdIn s) (λ q. stays s q ≡ true → IdIn s q) (listed s) (λ q h e. h) (listed-ids s))
