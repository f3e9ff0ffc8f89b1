-- The S clauses of one equation, over the values of its cells: xs on the left, ys on the right, l for blank. Where they hold, a true location
-- is one from which both sides spell the same; and `rests_same`, that the rests are the same word, makes them hold where the two words are the
-- same. Assumes nothing.
use mathlib.Core.Path.{◌≡◌, refl, sym, ap, subst, ◌∙◌}
use mathlib.Core.Bool.{Bool, true, false, not, ◌&&◌, ◌||◌}
use mathlib.Core.List.{List, [], ◌∷◌}
use Prim.Native.Nat.{ℕ, zero, suc, ◌+◌, ◌-◌, ◌<◌, ◌≤◌}
use native.Mathlib.Omega.{arith}
use lib.Arith.{lt_of_le-ne}
use lib.Dec.{ltb, eqb}
use lib.ListN.{length, get_or, drop, drop_of_length-le}
use lib.Seq.{drop-cons}
use borrow.Author.Tests.{ltb-true, ltb-false, lt-ltb, le-ltb, eqb-true, eqb-false, eq-eqb, ne_eqb}
use Rattle.model.specs.Lists.{same}
use Rattle.model.specs.Cells.{unblank}
use Rattle.model.proofs.Lists.{never, by_test, or_left, or_right, or_else, or_other, or_last, imply, implied, and_split, and_join, same-equal, equal-same}

-- what the values spell from place i on
rest : ℕ → List ℕ → ℕ → List ℕ
rest l xs i = unblank l (drop i xs)

module _ (l : ℕ) (xs : List ℕ) (i : ℕ) where
  rest-blank : i < length xs → eqb (get_or xs i 0) l ≡ true → rest l xs i ≡ rest l xs (suc i)
  unfolding rest unblank
  rest-blank h e = rw (drop-cons xs i 0 h, e)

  rest-letter : i < length xs → eqb (get_or xs i 0) l ≡ false → rest l xs i ≡ get_or xs i 0 ∷ rest l xs (suc i)
  unfolding rest unblank
  rest-letter h e = rw (drop-cons xs i 0 h, e)

  rest_end : length xs ≤ i → rest l xs i ≡ []
  unfolding rest unblank
  rest_end h = rw (drop_of_length-le xs h)

  rest-none : i < length xs → rest l xs i ≡ [] → eqb (get_or xs i 0) l ≡ true
  rest-none h e = by_test (eqb (get_or xs i 0) l) (λ t. t) (λ t. let n = ap length (sym (rest-letter h t) ∙ e) in absurd (omega arith))

-- the rests from location (i, j) on are the same word
pub rests_same : ℕ → List ℕ → List ℕ → ℕ → ℕ → Bool
rests_same l xs ys i j = same (rest l xs i) (rest l ys j)

-- Clauses B to F of a location, with what a cell is in place of its K variables, and St i j for S(p,i,j).
module _ (l : ℕ) (xs ys : List ℕ) (St : ℕ → ℕ → Bool) (i j : ℕ) where
  abbrev pub clause_b : Bool
  clause_b = not (St i j) || (not (eqb (get_or xs i 0) l) || (St (suc i) j || false))

  abbrev pub clause_c : Bool
  clause_c =
      not (St i j) || ((ltb i (length xs) && eqb (get_or xs i 0) l) || (not (eqb (get_or ys j 0) l) || (St i (suc j) || false)))

  abbrev pub clause_d : Bool
  clause_d = not (St i j) || (eqb (get_or xs i 0) l || (eqb (get_or ys j 0) l || (St (suc i) (suc j) || false)))

  abbrev pub clause_e : ℕ → Bool
  clause_e a = not (St i j) || (eqb (get_or ys j 0) l || (not (eqb (get_or xs i 0) a) || (eqb (get_or ys j 0) a || false)))

  abbrev pub clause_f : Bool
  clause_f = not (St i j) || ((ltb j (length ys) && eqb (get_or ys j 0) l) || ((ltb i (length xs) && eqb (get_or xs i 0) l) || false))

-- All of them, where they are, and the first clause.
pub record Locations (l : ℕ) (xs ys : List ℕ) (St : ℕ → ℕ → Bool) : Type 0 where
  pub first : St 0 0 ≡ true
  pub b : (i j : ℕ) → i < length xs → j ≤ length ys → clause_b l xs ys St i j ≡ true
  pub c : (i j : ℕ) → i ≤ length xs → j < length ys → clause_c l xs ys St i j ≡ true
  pub d : (i j : ℕ) → i < length xs → j < length ys → clause_d l xs ys St i j ≡ true
  pub e : (i j a : ℕ) → i < length xs → j < length ys → a < l → clause_e l xs ys St i j a ≡ true
  pub f_left : (j : ℕ) → j < length ys → clause_f l xs ys St (length xs) j ≡ true
  pub f_right : (i : ℕ) → i < length xs → clause_f l xs ys St i (length ys) ≡ true

-- F says that a cell is blank where the other side is used up
module _ (l : ℕ) (xs ys : List ℕ) (St : ℕ → ℕ → Bool) where
  f_left-is : (j : ℕ) → j < length ys → clause_f l xs ys St (length xs) j ≡ (not (St (length xs) j) || (eqb (get_or ys j 0) l || false))
  f_left-is j b = rw (lt-ltb j (length ys) b, le-ltb (length xs) (length xs) (omega arith))

  f_right-is : (i : ℕ) → i < length xs → clause_f l xs ys St i (length ys) ≡ (not (St i (length ys)) || (eqb (get_or xs i 0) l || false))
  f_right-is i a = rw (lt-ltb i (length xs) a, le-ltb (length ys) (length ys) (omega arith))

-- A true S is a location from which both sides spell the same: by the number of cells left, B, C and D move on, E and F exclude.
module _ (l : ℕ) (xs ys : List ℕ) (St : ℕ → ℕ → Bool) (w : Locations l xs ys St) (small : (i : ℕ) → i < length xs → get_or xs i 0 ≤ l) where
  abbrev Same : ℕ → ℕ → Type 0
  Same i j = (rests_same l xs ys i j ≡ true)

  -- C, where the left side is used up or its cell is no blank
  to_right : (i j : ℕ) → i ≤ length xs → j < length ys → (ltb i (length xs) && eqb (get_or xs i 0) l) ≡ false → eqb (get_or ys j 0) l ≡ true → St i j ≡ true → St i (suc j) ≡ true
  to_right i j hi b none bl t = or_last (implied (or_other (implied (w.c i j hi b) t) none) bl)

  -- D and E, where neither cell is blank
  to_both : (i j : ℕ) → i < length xs → j < length ys → eqb (get_or xs i 0) l ≡ false → eqb (get_or ys j 0) l ≡ false → St i j ≡ true → (St (suc i) (suc j) ≡ true) × (get_or xs i 0 ≡ get_or ys j 0)
  to_both i j a b nb nc t =
      let x : ℕ = get_or xs i 0 in
      let lt : x < l = lt_of_le-ne (small i a) (eqb-false x l nb) in
      let q = or_last (implied (or_other (implied (w.e i j x a b lt) t) nc) (eq-eqb x x refl)) in
      (or_last (or_other (or_other (implied (w.d i j a b) t) nb) nc), sym (eqb-true (get_or ys j 0) x q))

  -- one letter on both sides, and the same after it
  letters_join : (i j : ℕ) → i < length xs → j < length ys → eqb (get_or xs i 0) l ≡ false → eqb (get_or ys j 0) l ≡ false → get_or xs i 0 ≡ get_or ys j 0 → Same (suc i) (suc j) → Same i j
  unfolding rests_same same
  letters_join i j a b nb nc e others = rw (rest-letter l xs i a nb, rest-letter l ys j b nc) (and_join (eq-eqb (get_or xs i 0) (get_or ys j 0) e) others)

  true_same : (k i j : ℕ) → (length xs - i) + (length ys - j) < k → i ≤ length xs → j ≤ length ys → St i j ≡ true → Same i j
  unfolding rests_same same
  true_same zero i j h hi hj t = absurd (omega arith)
  true_same (suc k) i j h hi hj t = by_test (ltb i (length xs))
      (λ ti. let a = ltb-true i (length xs) ti in by_test (eqb (get_or xs i 0) l)
      -- the left cell is blank: B
      (λ bl. rw (rest-blank l xs i a bl) (true_same k (suc i) j (omega arith) (omega arith) hj (or_last (implied (implied (w.b i j a hj) t) bl))))
      (λ nb. by_test (ltb j (length ys))
      (λ tj. let b = ltb-true j (length ys) tj in by_test (eqb (get_or ys j 0) l)
      -- the right cell is blank: C
      (λ bl. rw (rest-blank l ys j b bl) (true_same k i (suc j) (omega arith) hi (omega arith) (to_right i j hi b (rw (ti, nb)) bl t)))
      -- neither is: D and E
      (λ nc. let r = to_both i j a b nb nc t in letters_join i j a b nb nc r.1 (true_same k (suc i) (suc j) (omega arith) (omega arith) (omega arith) r.0)))
      -- the right side is used up: F
      (λ tj. let b : j ≡ length ys = let z = ltb-false j (length ys) tj in omega arith in
      never (sym nb ∙ or_last (implied (sym (f_right-is l xs ys St i a) ∙ w.f_right i a) (subst (λ z. St i z ≡ true) b t))))))
      (λ ti. let a : i ≡ length xs = let z = ltb-false i (length xs) ti in omega arith in by_test (ltb j (length ys))
      -- the left side is used up: F, then C
      (λ tj. let b = ltb-true j (length ys) tj in
      let bl = or_last (implied (sym (f_left-is l xs ys St j b) ∙ w.f_left j b) (subst (λ z. St z j ≡ true) a t)) in
      rw (rest-blank l ys j b bl) (true_same k i (suc j) (omega arith) hi (omega arith) (to_right i j hi b (rw ti) bl t)))
      -- both are
      (λ tj. let b = ltb-false j (length ys) tj in rw (rest_end l xs i (omega arith), rest_end l ys j b)))

  pub locations_same : unblank l xs ≡ unblank l ys
  unfolding rests_same rest
  locations_same = same-equal _ _ (true_same (suc (length xs + length ys)) 0 0 (omega arith) (omega arith) (omega arith) w.first)

-- `rests_same` meets the clauses, where the two words are the same.
module _ (l : ℕ) (xs ys : List ℕ) where
  heads_same : (i j : ℕ) → i < length xs → j < length ys → eqb (get_or xs i 0) l ≡ false → eqb (get_or ys j 0) l ≡ false → rests_same l xs ys i j ≡ true
      → (get_or xs i 0 ≡ get_or ys j 0) × (rests_same l xs ys (suc i) (suc j) ≡ true)
  unfolding rests_same same
  heads_same i j a b nb nc t =
      let r = and_split _ _ (rw (rest-letter l xs i a nb, rest-letter l ys j b nc) at t) in
      (eqb-true _ _ r.0, r.1)

  letter-same : (i j x : ℕ) → i < length xs → j < length ys → x < l → eqb (get_or ys j 0) l ≡ false → eqb (get_or xs i 0) x ≡ true → rests_same l xs ys i j ≡ true → eqb (get_or ys j 0) x ≡ true
  letter-same i j x a b lt nc q t =
      let ex = eqb-true _ _ q in
      let nb = ne_eqb (get_or xs i 0) l (λ z. let y : x ≡ l = sym ex ∙ z in omega arith) in
      eq-eqb _ _ (sym (heads_same i j a b nb nc t).0 ∙ ex)

  left_over : (j : ℕ) → j < length ys → rests_same l xs ys (length xs) j ≡ true → eqb (get_or ys j 0) l ≡ true
  unfolding rests_same
  left_over j b t = rest-none l ys j b (sym (same-equal _ _ t) ∙ rest_end l xs (length xs) (omega arith))

  right_over : (i : ℕ) → i < length xs → rests_same l xs ys i (length ys) ≡ true → eqb (get_or xs i 0) l ≡ true
  unfolding rests_same
  right_over i a t = rest-none l xs i a (same-equal _ _ t ∙ rest_end l ys (length ys) (omega arith))

  start-same : unblank l xs ≡ unblank l ys → rests_same l xs ys 0 0 ≡ true
  unfolding rests_same rest
  start-same eq = equal-same _ _ eq

  pub same_locations : unblank l xs ≡ unblank l ys → Locations l xs ys (rests_same l xs ys)
  unfolding rests_same
  same_locations eq = record {
    first = start-same eq;
    b = λ i j a h. imply (rests_same l xs ys i j) (λ t. imply (eqb (get_or xs i 0) l) (λ bl. or_left _ (rw (rest-blank l xs i a bl) at t)));
    c = λ i j h b. imply (rests_same l xs ys i j) (λ t. or_right (ltb i (length xs) && eqb (get_or xs i 0) l) (imply (eqb (get_or ys j 0) l) (λ bl. or_left _ (rw (rest-blank l ys j b bl) at t))));
    d = λ i j a b. imply (rests_same l xs ys i j) (λ t. or_else (eqb (get_or xs i 0) l) (λ nb. or_else (eqb (get_or ys j 0) l) (λ nc. or_left _ (heads_same i j a b nb nc t).1)));
    e = λ i j x a b lt. imply (rests_same l xs ys i j) (λ t. or_else (eqb (get_or ys j 0) l) (λ nc. imply (eqb (get_or xs i 0) x) (λ q. or_left _ (letter-same i j x a b lt nc q t))));
    f_left = λ j b. f_left-is l xs ys (rests_same l xs ys) j b ∙ imply (rests_same l xs ys (length xs) j) (λ t. or_left _ (left_over j b t));
    f_right = λ i a. f_right-is l xs ys (rests_same l xs ys) i a ∙ imply (rests_same l xs ys i (length ys)) (λ t. or_left _ (right_over i a t));
  }
