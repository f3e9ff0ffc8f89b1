-- The lines of a location's clauses, by the codes of the location and of its two cells. Assumes nothing.
use mathlib.Core.Path.{◌≡◌, refl, sym, ap, ap₂, ◌∙◌}
use mathlib.Core.Bool.{Bool, true, false}
use mathlib.Core.List.{List, [], ◌∷◌, ◌++◌, map, append-nil}
use Prim.Native.Nat.{ℕ, suc, ◌+◌, ◌-◌, ◌*◌, ◌<◌}
use native.Mathlib.Nat.{suc-mul}
use native.Mathlib.Omega.{arith}
use lib.Dec.{ltb, eqb}
use lib.ListN.{length}
use borrow.Author.Tests.{ltb-true}
use Rattle.model.specs.Lists.{pick, each, from, up_to}
use Rattle.model.specs.Sheet.{Sheet}
use Rattle.model.specs.Cells.{Cell, letter, place}
use Rattle.formula.specs.Clause.{K, S, ClauseId, Left, Right, Both, Match, End, terms, blank, cell, left_cells, right_cells}
use Rattle.formula.specs.Numbering.{number}
use Rattle.formula.specs.Kind.{Side, used, at_letter, at_field, cell_side, side}
use Rattle.formula.specs.Count.{standing}
use Rattle.model.proofs.Lists.{by_test, each_append}
use Rattle.model.proofs.Keeping.{each_map, loop_same}
use Rattle.model.proofs.Pieces.{each_from}
use Rattle.dimacs.specs.Codes.{code_bytes, codes_line}
use Rattle.dimacs.proofs.Coded.{terms-line, same_three, same_four}
use Rattle.literals.specs.Name.{line_of}
use Rattle.codes.specs.Cell.{place_code, cell_code}
use Rattle.codes.proofs.Laws.{holds_code, lacks_code, blank_code, not_blank_code, if_blank_code}
use Rattle.locations.specs.Lines.{lines_of}
use Rattle.matching.specs.Codes.{unlike_line, match_line}
use Rattle.crossings.specs.Codes.{cross_lines}

-- Numbers beside each other.
pub value-number : (s : Sheet) (f c a : ℕ) → number s (K f c a) ≡ number s (K f c 0) + a
unfolding number
value-number s f c a = omega arith

right-number : (s : Sheet) (p i j : ℕ) → number s (S p i (suc j)) ≡ number s (S p i j) + 1
unfolding number
right-number s p i j = omega arith

down_number : (s : Sheet) (p i j : ℕ) → number s (S p (suc i) j) ≡ number s (S p i j) + suc (length (right_cells s p))
unfolding number
down_number s p i j = let e = suc-mul i (suc (length (right_cells s p))) in omega arith

zero_more : (z : ℕ) → z + 0 ≡ z
zero_more z = omega arith

-- codes that are 0 are not written
module _ (a b c d : ℕ) where
  without_second : codes_line (a ∷ 0 ∷ c ∷ d ∷ []) ≡ codes_line (a ∷ c ∷ d ∷ [])
  unfolding codes_line code_bytes each
  without_second = refl

  without_third : codes_line (a ∷ b ∷ 0 ∷ d ∷ []) ≡ codes_line (a ∷ b ∷ d ∷ [])
  unfolding codes_line code_bytes each
  without_third = refl

  without_last : codes_line (a ∷ b ∷ 0 ∷ []) ≡ codes_line (a ∷ b ∷ [])
  unfolding codes_line code_bytes each
  without_last = refl

  without_middle : codes_line (a ∷ 0 ∷ b ∷ []) ≡ codes_line (a ∷ b ∷ [])
  unfolding codes_line code_bytes each
  without_middle = refl

  without_both : codes_line (a ∷ 0 ∷ 0 ∷ []) ≡ codes_line (a ∷ [])
  unfolding codes_line code_bytes each
  without_both = refl

  without_two : codes_line (a ∷ 0 ∷ 0 ∷ d ∷ []) ≡ codes_line (a ∷ d ∷ [])
  unfolding codes_line code_bytes each
  without_two = refl

-- Whether a side is a place, and whether there is anything on it.
abbrev is_open : Side → Bool
is_open used = false
is_open (at_letter a) = false
is_open at_field = true

abbrev is_there : Side → Bool
is_there used = false
is_there (at_letter a) = true
is_there at_field = true

module _ (s : Sheet) (us : List Cell) (i : ℕ) where
  place_open : (u : Cell) (a sign : ℕ) → place_code s u a sign ≡ pick (is_open (cell_side u)) (place_code s u 0 0 + 2 * a + sign) 0
  place_open (letter b) a sign = refl
  place_open (place f c) a sign = let e = value-number s f c a in omega arith

  -- the code of a cell's value, by that of value 0
  code_open : (a sign : ℕ) → cell_code s us i a sign ≡ pick (is_open (side us i)) (cell_code s us i 0 0 + 2 * a + sign) 0
  unfolding cell_code
  code_open a sign = by_test (ltb i (length us))
      (λ e. rw e (place_open (cell us i) a sign))
      (λ e. rw e)

  there-side : (u : Cell) → is_there (cell_side u) ≡ true
  there-side (letter b) = refl
  there-side (place f c) = refl

  is-there : is_there (side us i) ≡ ltb i (length us)
  is-there = by_test (ltb i (length us))
      (λ e. rw e (there-side (cell us i)))
      (λ e. rw e)

  module _ (u : Side) (is : side us i ≡ u) where
    open_code : is_open u ≡ true → (a sign : ℕ) → cell_code s us i a sign ≡ cell_code s us i 0 0 + 2 * a + sign
    open_code t a sign = code_open a sign ∙ ap (λ b. pick b (cell_code s us i 0 0 + 2 * a + sign) 0) (ap is_open is ∙ t)

    shut_code : is_open u ≡ false → (a sign : ℕ) → cell_code s us i a sign ≡ 0
    shut_code t a sign = code_open a sign ∙ ap (λ b. pick b (cell_code s us i 0 0 + 2 * a + sign) 0) (ap is_open is ∙ t)

    there : is_there u ≡ true → i < length us
    there t = ltb-true i (length us) (sym is-there ∙ ap is_there is ∙ t)

module _ (s : Sheet) (p i j here down : ℕ) (at_here : here ≡ 2 * number s (S p i j)) (at-down : down ≡ 2 * suc (length (right_cells s p))) where
  abbrev us : List Cell
  us = left_cells s p

  abbrev vs : List Cell
  vs = right_cells s p

  abbrev l : ℕ
  l = blank s

  -- each clause by the codes of the location and its cells
  left-line : i < length us → line_of s (Left p i j) ≡ codes_line ((here + 1) ∷ cell_code s us i l 1 ∷ (here + down) ∷ [])
  unfolding terms
  left-line h =
      let a : 2 * number s (S p i j) + 1 ≡ here + 1 = omega arith in
      let c : 2 * number s (S p (suc i) j) ≡ here + down = omega (arith, down_number s p i j) in
      sym (terms-line s (Left p i j)) ∙ same_three a (sym (not_blank_code s us i h)) c

  right-line : j < length vs → line_of s (Right p i j) ≡ codes_line ((here + 1) ∷ cell_code s us i l 0 ∷ cell_code s vs j l 1 ∷ (here + 2) ∷ [])
  unfolding terms
  right-line h =
      let a : 2 * number s (S p i j) + 1 ≡ here + 1 = omega arith in
      let c : 2 * number s (S p i (suc j)) ≡ here + 2 = omega (arith, right-number s p i j) in
      sym (terms-line s (Right p i j)) ∙ same_four a (sym (if_blank_code s us i)) (sym (not_blank_code s vs j h)) c

  both_line : i < length us → j < length vs → line_of s (Both p i j) ≡ codes_line ((here + 1) ∷ cell_code s us i l 0 ∷ cell_code s vs j l 0 ∷ (here + down + 2) ∷ [])
  unfolding terms
  both_line h k =
      let a : 2 * number s (S p i j) + 1 ≡ here + 1 = omega arith in
      let c : 2 * number s (S p (suc i) (suc j)) ≡ here + down + 2 = omega (arith, right-number s p (suc i) j, down_number s p i j) in
      sym (terms-line s (Both p i j)) ∙ same_four a (sym (blank_code s us i h)) (sym (blank_code s vs j k)) c

  match_line_lem : i < length us → j < length vs → (a : ℕ) → line_of s (Match p i j a) ≡ codes_line ((here + 1) ∷ cell_code s vs j l 0 ∷ cell_code s us i a 1 ∷ cell_code s vs j a 0 ∷ [])
  unfolding terms
  match_line_lem h k a =
      let b : 2 * number s (S p i j) + 1 ≡ here + 1 = omega arith in
      sym (terms-line s (Match p i j a)) ∙ same_four b (sym (blank_code s vs j k)) (sym (lacks_code s us i a h)) (sym (holds_code s vs j a k))

  end_line : line_of s (End p i j) ≡ codes_line ((here + 1) ∷ cell_code s vs j l 0 ∷ cell_code s us i l 0 ∷ [])
  unfolding terms
  end_line =
      let b : 2 * number s (S p i j) + 1 ≡ here + 1 = omega arith in
      sym (terms-line s (End p i j)) ∙ same_three b (sym (if_blank_code s vs j)) (sym (if_blank_code s us i))

  abbrev x : ℕ
  x = cell_code s us i 0 0

  abbrev y : ℕ
  y = cell_code s vs j 0 0

  -- one line, and one line before others
  one : (q : ClauseId) {w : List ℕ} → line_of s q ≡ w → lines_of s (q ∷ []) ≡ w
  unfolding each
  one q e = append-nil (line_of s q) ∙ e

  then : (q : ClauseId) (qs : List ClauseId) {w v : List ℕ} → line_of s q ≡ w → lines_of s qs ≡ v → lines_of s (q ∷ qs) ≡ w ++ v
  unfolding each
  then q qs e f = ap₂ ◌++◌ e f

  module _ (u : Side) (eu : side us i ≡ u) (v : Side) (ev : side vs j ≡ v) where
    abbrev hi : is_there u ≡ true → i < length us
    hi t = there s us i u eu t

    abbrev hj : is_there v ≡ true → j < length vs
    hj t = there s vs j v ev t

    -- where the right side is a place, and where it is not; the same on the left
    right_open : is_open v ≡ true → is_open u ≡ false → is_there v ≡ true → line_of s (Right p i j) ≡ codes_line ((here + 1) ∷ (y + 2 * l + 1) ∷ (here + 2) ∷ [])
    right_open tv tu hv =
        right-line (hj hv) ∙ same_four refl (shut_code s us i u eu tu l 0) (open_code s vs j v ev tv l 1) refl
        ∙ without_second (here + 1) 0 (y + 2 * l + 1) (here + 2)

    end_open : is_open v ≡ true → is_open u ≡ false → line_of s (End p i j) ≡ codes_line ((here + 1) ∷ (y + 2 * l) ∷ [])
    end_open tv tu =
        end_line ∙ same_three refl (open_code s vs j v ev tv l 0 ∙ zero_more (y + 2 * l)) (shut_code s us i u eu tu l 0)
        ∙ without_last (here + 1) (y + 2 * l) 0 0

    end-left : is_open v ≡ false → is_open u ≡ true → line_of s (End p i j) ≡ codes_line ((here + 1) ∷ (x + 2 * l) ∷ [])
    end-left tv tu =
        end_line ∙ same_three refl (shut_code s vs j v ev tv l 0) (open_code s us i u eu tu l 0 ∙ zero_more (x + 2 * l))
        ∙ without_middle (here + 1) (x + 2 * l) 0 0

    end_shut : is_open v ≡ false → is_open u ≡ false → line_of s (End p i j) ≡ codes_line ((here + 1) ∷ [])
    end_shut tv tu =
        end_line ∙ same_three refl (shut_code s vs j v ev tv l 0) (shut_code s us i u eu tu l 0) ∙ without_both (here + 1) 0 0 0

    left_open : is_open u ≡ true → is_there u ≡ true → line_of s (Left p i j) ≡ codes_line ((here + 1) ∷ (x + 2 * l + 1) ∷ (here + down) ∷ [])
    left_open tu hu = left-line (hi hu) ∙ same_three refl (open_code s us i u eu tu l 1) refl

    both_codes : is_there u ≡ true → is_there v ≡ true → (a b : ℕ) → cell_code s us i l 0 ≡ a → cell_code s vs j l 0 ≡ b
        → line_of s (Both p i j) ≡ codes_line ((here + 1) ∷ a ∷ b ∷ (here + down + 2) ∷ [])
    both_codes hu hv a b ea eb = both_line (hi hu) (hj hv) ∙ same_four refl ea eb refl

    match_codes : is_there u ≡ true → is_there v ≡ true → (k a b c : ℕ) → cell_code s vs j l 0 ≡ a → cell_code s us i k 1 ≡ b → cell_code s vs j k 0 ≡ c
        → line_of s (Match p i j k) ≡ codes_line ((here + 1) ∷ a ∷ b ∷ c ∷ [])
    match_codes hu hv k a b c ea eb ec = match_line_lem (hi hu) (hj hv) k ∙ same_four refl ea eb ec

  lines-pick : (t : Bool) (q : ClauseId) {w : List ℕ} → line_of s q ≡ w → lines_of s (pick t [] (q ∷ [])) ≡ pick t [] w
  unfolding each
  lines-pick true q e = refl
  lines-pick false q e = one q e

  -- E: of two letters, of a letter against a place, of a place against a letter and against a place
  module _ (a : ℕ) (eu : side us i ≡ at_letter a) where
    letters_both : (b : ℕ) → side vs j ≡ at_letter b → line_of s (Both p i j) ≡ codes_line ((here + 1) ∷ (here + down + 2) ∷ [])
    letters_both b ev =
        both_codes (at_letter a) eu (at_letter b) ev refl refl 0 0 (shut_code s us i (at_letter a) eu refl l 0) (shut_code s vs j (at_letter b) ev refl l 0)
        ∙ without_two (here + 1) 0 0 (here + down + 2)

    letters_match : (b : ℕ) → side vs j ≡ at_letter b → line_of s (Match p i j a) ≡ codes_line ((here + 1) ∷ [])
    unfolding codes_line code_bytes each
    letters_match b ev =
        match_codes (at_letter a) eu (at_letter b) ev refl refl a 0 0 0 (shut_code s vs j (at_letter b) ev refl l 0)
        (shut_code s us i (at_letter a) eu refl a 1) (shut_code s vs j (at_letter b) ev refl a 0)

    letter_both : side vs j ≡ at_field → line_of s (Both p i j) ≡ codes_line ((here + 1) ∷ (y + 2 * l) ∷ (here + down + 2) ∷ [])
    letter_both ev =
        both_codes (at_letter a) eu at_field ev refl refl 0 (y + 2 * l) (shut_code s us i (at_letter a) eu refl l 0)
        (open_code s vs j at_field ev refl l 0 ∙ zero_more (y + 2 * l))
        ∙ without_second (here + 1) 0 (y + 2 * l) (here + down + 2)

    letter_match : side vs j ≡ at_field → line_of s (Match p i j a) ≡ codes_line ((here + 1) ∷ (y + 2 * l) ∷ (y + 2 * a) ∷ [])
    letter_match ev =
        match_codes (at_letter a) eu at_field ev refl refl a (y + 2 * l) 0 (y + 2 * a) (open_code s vs j at_field ev refl l 0 ∙ zero_more (y + 2 * l))
        (shut_code s us i (at_letter a) eu refl a 1) (open_code s vs j at_field ev refl a 0 ∙ zero_more (y + 2 * a))
        ∙ without_third (here + 1) (y + 2 * l) 0 (y + 2 * a)

  module _ (eu : side us i ≡ at_field) where
    place_both : (b : ℕ) → side vs j ≡ at_letter b → line_of s (Both p i j) ≡ codes_line ((here + 1) ∷ (x + 2 * l) ∷ (here + down + 2) ∷ [])
    place_both b ev =
        both_codes at_field eu (at_letter b) ev refl refl (x + 2 * l) 0 (open_code s us i at_field eu refl l 0 ∙ zero_more (x + 2 * l))
        (shut_code s vs j (at_letter b) ev refl l 0)
        ∙ without_third (here + 1) (x + 2 * l) 0 (here + down + 2)

    place_match : (b : ℕ) → side vs j ≡ at_letter b → (n k : ℕ) → line_of s (Match p i j (n + k)) ≡ unlike_line here x n k
    unfolding unlike_line codes_line code_bytes each
    place_match b ev n k =
        match_codes at_field eu (at_letter b) ev refl refl (n + k) 0 (x + 2 * (n + k) + 1) 0 (shut_code s vs j (at_letter b) ev refl l 0)
        (open_code s us i at_field eu refl (n + k) 1) (shut_code s vs j (at_letter b) ev refl (n + k) 0)

    place_matches : (b : ℕ) → side vs j ≡ at_letter b → lines_of s (map (Match p i j) (up_to b ++ from (suc b) (l - suc b)))
        ≡ each (up_to b) (unlike_line here x 0) ++ each (up_to (l - b - 1)) (unlike_line here x (b + 1))
    place_matches b ev =
        let line : ℕ → List ℕ = λ a. line_of s (Match p i j a) in
        let first : suc b ≡ b + 1 + 0 = omega arith in
        let count : l - suc b ≡ l - b - 1 = omega arith in
        each_map (Match p i j) (up_to b ++ from (suc b) (l - suc b)) (line_of s)
        ∙ each_append line (up_to b) (from (suc b) (l - suc b))
        ∙ ap₂ ◌++◌
        (loop_same line (unlike_line here x 0) b (λ k _. let e : k ≡ 0 + k = omega arith in ap line e ∙ place_match b ev 0 k))
        (ap₂ (λ m n. each (from m n) line) first count
        ∙ each_from line (b + 1) 0 (l - b - 1)
        ∙ loop_same (λ k. line (b + 1 + k)) (unlike_line here x (b + 1)) (l - b - 1) (λ k _. place_match b ev (b + 1) k))

    module _ (ev : side vs j ≡ at_field) where
      places-right : line_of s (Right p i j) ≡ codes_line ((here + 1) ∷ (x + 2 * l) ∷ (y + 2 * l + 1) ∷ (here + 2) ∷ [])
      places-right =
          right-line (there s vs j at_field ev refl)
          ∙ same_four refl (open_code s us i at_field eu refl l 0 ∙ zero_more (x + 2 * l)) (open_code s vs j at_field ev refl l 1) refl

      places_both : line_of s (Both p i j) ≡ codes_line ((here + 1) ∷ (x + 2 * l) ∷ (y + 2 * l) ∷ (here + down + 2) ∷ [])
      places_both =
          both_codes at_field eu at_field ev refl refl (x + 2 * l) (y + 2 * l) (open_code s us i at_field eu refl l 0 ∙ zero_more (x + 2 * l))
          (open_code s vs j at_field ev refl l 0 ∙ zero_more (y + 2 * l))

      places_match : (a : ℕ) → line_of s (Match p i j a) ≡ match_line l here x y a
      unfolding match_line
      places_match a =
          match_codes at_field eu at_field ev refl refl a (y + 2 * l) (x + 2 * a + 1) (y + 2 * a)
          (open_code s vs j at_field ev refl l 0 ∙ zero_more (y + 2 * l)) (open_code s us i at_field eu refl a 1)
          (open_code s vs j at_field ev refl a 0 ∙ zero_more (y + 2 * a))

      places_matches : lines_of s (map (Match p i j) (up_to l)) ≡ each (up_to l) (match_line l here x y)
      places_matches =
          each_map (Match p i j) (up_to l) (line_of s) ∙ loop_same (λ a. line_of s (Match p i j a)) (match_line l here x y) l (λ a _. places_match a)

  -- the lines of the clauses of a location
  pub cross_is : (u v : Side) → side us i ≡ u → side vs j ≡ v → lines_of s (standing l p i j u v) ≡ cross_lines l down here u x v y
  unfolding each
  cross_is used used eu ev = refl
  cross_is used (at_letter b) eu ev = one (End p i j) (end_shut used eu (at_letter b) ev refl refl)
  cross_is used at_field eu ev =
      then (Right p i j) (End p i j ∷ []) (right_open used eu at_field ev refl refl refl)
      (one (End p i j) (end_open used eu at_field ev refl refl))
  cross_is (at_letter a) used eu ev = one (End p i j) (end_shut (at_letter a) eu used ev refl refl)
  cross_is (at_letter a) (at_letter b) eu ev =
      then (Both p i j) (pick (eqb a b) [] (Match p i j a ∷ [])) (letters_both a eu b ev)
      (lines-pick (eqb a b) (Match p i j a) (letters_match a eu b ev))
  cross_is (at_letter a) at_field eu ev =
      then (Right p i j) (Both p i j ∷ Match p i j a ∷ []) (right_open (at_letter a) eu at_field ev refl refl refl)
      (then (Both p i j) (Match p i j a ∷ []) (letter_both a eu ev)
      (one (Match p i j a) (letter_match a eu ev)))
  cross_is at_field used eu ev =
      then (Left p i j) (End p i j ∷ []) (left_open at_field eu used ev refl refl)
      (one (End p i j) (end-left at_field eu used ev refl refl))
  cross_is at_field (at_letter b) eu ev =
      then (Left p i j) (Both p i j ∷ map (Match p i j) (up_to b ++ from (suc b) (l - suc b))) (left_open at_field eu (at_letter b) ev refl refl)
      (then (Both p i j) (map (Match p i j) (up_to b ++ from (suc b) (l - suc b))) (place_both eu b ev) (place_matches eu b ev))
  cross_is at_field at_field eu ev =
      then (Left p i j) (Right p i j ∷ Both p i j ∷ map (Match p i j) (up_to l)) (left_open at_field eu at_field ev refl refl)
      (then (Right p i j) (Both p i j ∷ map (Match p i j) (up_to l)) (places-right eu ev)
      (then (Both p i j) (map (Match p i j) (up_to l)) (places_both eu ev) (places_matches eu ev)))
