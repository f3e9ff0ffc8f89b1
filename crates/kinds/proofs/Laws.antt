-- The census of a side, cell by cell, and that by it a row has the clauses of its locations. Assumes nothing.
use mathlib.Core.Path.{◌≡◌, refl, sym, ap, subst, ◌∙◌}
use mathlib.Core.List.{List}
use Prim.Native.Nat.{ℕ, zero, suc, ◌+◌, ◌-◌, ◌*◌, ◌<◌, ◌≤◌}
use native.Mathlib.Nat.{add-mul}
use native.Mathlib.Omega.{arith}
use lib.Dec.{ltb, eqb}
use lib.ListN.{length, get_or, set, replicate, get_or-replicate}
use lib.Seq.{get_or-set_same, get_or-set_other}
use borrow.Author.Tests.{ltb-true, eqb-true, eqb-false}
use Rattle.model.specs.Lists.{total}
use Rattle.formula.specs.Kind.{Side, used, at_letter, at_field, SideIn, field_then_letter, kind_count}
use Rattle.formula.specs.Count.{location_count}
use Rattle.shape.specs.Bytes.{side_of}
use Rattle.kinds.specs.Census.{as_letter, as_place, as_this, own_of, times_of, Few, Added, AllCells, Counted, row_of}
use Rattle.kinds.specs.declared.Census.{Census}
use Rattle.model.proofs.Lists.{by_test}
use Rattle.model.proofs.Keeping.{total-more, total-none, total_grows}
use Rattle.shape.proofs.Sides.{says_letter, says_field}

-- A row with a letter on the left is small.
pub letter-small : (same letters places x y z w : ℕ) → same ≤ letters → letters + places ≤ 24
    → x ≡ same * 1 → y ≡ (letters - same) * 2 → z ≡ places * 3 → w ≡ 1 * 1 → x + y + z + w ≤ 275
letter-small same letters places x y z w h k ex ey ez ew = omega arith

-- One number of a list is one more.
pub set_more : (xs : List ℕ) (a : ℕ) → a < length xs → (b : ℕ) → get_or (set xs a (get_or xs a 0 + 1)) b 0 ≡ get_or xs b 0 + as_this b (at_letter a)
set_more xs a h b = by_test (eqb b a)
    (λ e.
    let q = eqb-true b a e in
    rw e (ap (λ i. get_or (set xs a (get_or xs a 0 + 1)) i 0) q ∙ get_or-set_same xs a (get_or xs a 0 + 1) 0 h ∙ ap (λ i. get_or xs i 0 + 1) (sym q)))
    (λ e.
    let none : get_or xs b 0 ≡ get_or xs b 0 + 0 = omega arith in
    rw e (get_or-set_other xs a b (get_or xs a 0 + 1) 0 (eqb-false b a e) ∙ none))

-- the letter that a byte says is below 8
pub letter_below : (u : ℕ) → SideIn 8 (side_of u)
letter_below u = by_test (ltb u 8)
    (λ e. rw e (ltb-true u 8 e))
    (λ e. by_test (eqb u 255) (λ d. rw (e, d) tt) (λ d. rw (e, d) tt))

-- What is counted of one cell: it is a letter or a place, and letter a is a letter.
one_cell : (v : Side) → as_letter v + as_place v ≤ 1
one_cell used = omega arith
one_cell (at_letter b) = omega arith
one_cell at_field = omega arith

this_letter : (a : ℕ) (v : Side) → as_this a v ≤ as_letter v
this_letter a used = omega arith
this_letter a (at_letter b) = by_test (eqb a b) (λ e. rw e (omega arith)) (λ e. rw e (omega arith))
this_letter a at_field = omega arith

own-small : (l : ℕ) → l ≤ 8 → (v : Side) → own_of l v ≤ as_letter v * 9
own-small l h used = omega arith
own-small l h (at_letter b) = omega arith
own-small l h at_field = omega arith

-- and with it the clauses of a location that has it on the right: with the left template used up, with letter a and with a place on the left
past-cell : (l : ℕ) (v : Side) → (v ≡ used → ⊥) → location_count l used v ≡ as_letter v * 1 + as_place v * 2
past-cell l used n = absurd (n refl)
past-cell l (at_letter b) n = omega arith
past-cell l at_field n = omega arith

letter-cell : (l a : ℕ) (v : Side) → (v ≡ used → ⊥) → location_count l (at_letter a) v + as_this a v ≡ as_letter v * 2 + as_place v * 3
letter-cell l a used n = absurd (n refl)
letter-cell l a (at_letter b) n = by_test (eqb a b) (λ e. rw e (omega arith)) (λ e. rw e (omega arith))
letter-cell l a at_field n = omega arith

open_cell : (l : ℕ) (v : Side) → (v ≡ used → ⊥) → location_count l at_field v ≡ own_of l v + as_place v * (l + 3)
open_cell l used n = absurd (n refl)
open_cell l (at_letter b) n = omega arith
open_cell l at_field n = omega arith

-- The same of the first n cells of a side.
module _ (v : ℕ → Side) where
  cells-few : (n : ℕ) → total n (λ j. as_letter (v j)) + total n (λ j. as_place (v j)) ≤ n
  unfolding total
  cells-few zero = omega arith
  cells-few (suc n) = omega (arith, cells-few n, one_cell (v n))

  this_few : (a n : ℕ) → total n (λ j. as_this a (v j)) ≤ total n (λ j. as_letter (v j))
  this_few a n = total_grows n n (λ j. as_this a (v j)) (λ j. as_letter (v j)) (omega arith) (λ j _. this_letter a (v j))

  own-few : (l : ℕ) → l ≤ 8 → (n : ℕ) → total n (λ j. own_of l (v j)) ≤ total n (λ j. as_letter (v j)) * 9
  unfolding total
  own-few l h zero = omega arith
  own-few l h (suc n) = omega (arith, own-few l h n, own-small l h (v n))

  past-cells : (l n : ℕ) → ((j : ℕ) → j < n → v j ≡ used → ⊥)
      → total n (λ j. location_count l used (v j)) ≡ total n (λ j. as_letter (v j)) * 1 + total n (λ j. as_place (v j)) * 2
  unfolding total
  past-cells l zero h = refl
  past-cells l (suc n) h = omega (arith, past-cells l n (λ j k. h j (omega arith)), past-cell l (v n) (h n (omega arith)))

  letter-cells : (l a n : ℕ) → ((j : ℕ) → j < n → v j ≡ used → ⊥)
      → total n (λ j. location_count l (at_letter a) (v j)) + total n (λ j. as_this a (v j))
      ≡ total n (λ j. as_letter (v j)) * 2 + total n (λ j. as_place (v j)) * 3
  unfolding total
  letter-cells l a zero h = refl
  letter-cells l a (suc n) h = omega (arith, letter-cells l a n (λ j k. h j (omega arith)), letter-cell l a (v n) (h n (omega arith)))

  open_cells : (l n : ℕ) → ((j : ℕ) → j < n → v j ≡ used → ⊥)
      → total n (λ j. location_count l at_field (v j)) ≡ total n (λ j. own_of l (v j)) + total n (λ j. as_place (v j)) * (l + 3)
  unfolding total
  open_cells l zero h = omega arith
  open_cells l (suc n) h =
      let places : ℕ = total n (λ j. as_place (v j)) in
      omega (arith, open_cells l n (λ j k. h j (omega arith)), open_cell l (v n) (h n (omega arith)), add-mul places (as_place (v n)) (l + 3))

-- The census with a letter more, and with a place more.
module _ (l x : ℕ) (c : Census) where
  pub letter_added : (a own : ℕ) (times : List ℕ) → x < 8 → a ≡ x → own ≡ kind_count l field_then_letter
      → ((b : ℕ) → get_or times b 0 ≡ times_of c b + as_this b (at_letter a))
      → Added l (side_of x) c (record { letters = c.letters + 1; places = c.places; own = c.own + own; times = times })
  letter_added a own times h e q f =
      subst (λ v. Added l v c (record { letters = c.letters + 1; places = c.places; own = c.own + own; times = times })) (sym (says_letter x h))
      (record {
        letters = refl;
        places = omega arith;
        own = ap (λ z. c.own + z) q;
        times = λ b _. f b ∙ ap (λ z. times_of c b + as_this b (at_letter z)) e;
      })

  pub place_added : 8 ≤ x → (x ≡ 255 → ⊥)
      → Added l (side_of x) c (record { letters = c.letters; places = c.places + 1; own = c.own; times = c.times })
  place_added h n =
      subst (λ v. Added l v c (record { letters = c.letters; places = c.places + 1; own = c.own; times = c.times })) (sym (says_field x h n))
      (record { letters = omega arith; places = refl; own = omega arith; times = λ b _. omega arith })

-- The census of no cell, and of one more.
module _ (l : ℕ) (right : List ℕ) where
  pub none-counted : Counted l right 0 (record { letters = 0; places = 0; own = 0; times = replicate 8 0 })
  none-counted = record {
    letters = sym (total-none _);
    places = sym (total-none _);
    own = sym (total-none _);
    times = λ a h. get_or-replicate 8 a 0 0 h ∙ sym (total-none _);
  }

  pub more-counted : (n : ℕ) (c d : Census) → Counted l right n c → Added l (side_of (get_or right n 0)) c d → Counted l right (n + 1) d
  more-counted n c d h k = record {
    letters = omega (arith, h.letters, k.letters, total-more n (λ j. as_letter (side_of (get_or right j 0))));
    places = omega (arith, h.places, k.places, total-more n (λ j. as_place (side_of (get_or right j 0))));
    own = omega (arith, h.own, k.own, total-more n (λ j. own_of l (side_of (get_or right j 0))));
    times = λ a b. omega (arith, h.times a b, k.times a b, total-more n (λ j. as_this a (side_of (get_or right j 0))));
  }

  -- how small its numbers are
  pub counted-few : l ≤ 8 → (n : ℕ) → n ≤ 24 → (c : Census) → Counted l right n c → Few c × (c.letters + c.places ≤ n)
  counted-few h n k c d =
      let v : ℕ → Side = λ j. side_of (get_or right j 0) in
      let cells = cells-few v n in (
        record {
          cells = omega (arith, d.letters, d.places);
          at_most = omega (arith, d.letters, d.own, own-few v l h n);
          each = λ a b. omega (arith, d.letters, d.times a b, this_few v a n);
        },
        omega (arith, d.letters, d.places),
      )

  -- A row by the census of the first n cells on the right, past which there is none, has the clauses of its locations.
  module _ (n : ℕ) (c : Census) (d : Counted l right n c) (taken : AllCells right n) (past : side_of (get_or right n 0) ≡ used) where
    abbrev v : ℕ → Side
    v j = side_of (get_or right j 0)

    last : (x : Side) → total (suc n) (λ j. location_count l x (v j)) ≡ total n (λ j. location_count l x (v j)) + location_count l x used
    unfolding total
    last x = ap (λ z. total n (λ j. location_count l x (v j)) + location_count l x z) past

    pub row-counted : (x : Side) → SideIn 8 x → row_of l x c ≡ total (suc n) (λ j. location_count l x (v j))
    row-counted used b = omega (arith, d.letters, d.places, past-cells v l n taken, last used)
    row-counted (at_letter a) b =
        omega (arith, d.letters, d.places, d.times a b, this_few v a n, letter-cells v l a n taken, last (at_letter a))
    row-counted at_field b =
        let e : c.places * (l + 3) ≡ total n (λ j. as_place (v j)) * (l + 3) = ap (λ z. z * (l + 3)) d.places in
        omega (arith, d.own, open_cells v l n taken, last at_field)
