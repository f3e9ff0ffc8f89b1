-- What the text's lines and numbers come to, one after another.
use Rattle.std.specs.Prelude.{◌≡◌, Bool, true, false, not, ◌||◌, List, [], ◌∷◌, ℕ, leb, eqb, ℤ, pos, negsuc, nat_abs, length, get_or, set, drop, Option, Some, None}
use Rattle.model.specs.Lists.{pick, all}
use Rattle.formula.specs.Dimacs.{numbers}
use Rattle.calls.specs.Reply.{split, lines, spaced, is_number, status_line, value_line, known, line_numbers}
use Rattle.tally.specs.declared.Tally.{Tally}

-- A number's mark: 0 where it is not listed, 1 where it is listed without a minus, else 2.
abbrev pub is_marked : List ℕ → ℕ → Bool
is_marked m n = not (eqb (get_or m n 0) 0)

abbrev pub mark_of : ℕ → Bool → ℕ
mark_of was true = 1
mark_of was false = pick (eqb was 0) 2 was

-- One number, given by its magnitude and whether it has no minus. Past the last mark there is none to set.
unfoldable pub noted : List ℕ → Tally → ℕ → Tally
noted m t n = record {
  status = t.status;
  again = t.again;
  early = t.early;
  after = t.after || is_marked m 0;
  above = t.above || leb (length m) n;
  twice = t.twice || is_marked m n;
}

unfoldable pub marked : List ℕ → ℕ → Bool → List ℕ
marked m n plus = set m n (mark_of (get_or m n 0) plus)

-- The tally and the marks together, after one number and after several.
pub record State : Type 0 where
  pub tally : Tally
  pub marks : List ℕ

abbrev pub is_pos : ℤ → Bool
is_pos (pos n) = true
is_pos (negsuc n) = false

unfoldable pub after_number : State → ℤ → State
after_number st z = record { tally = noted st.marks st.tally (nat_abs z); marks = marked st.marks (nat_abs z) (is_pos z) }

unfoldable pub after_numbers : State → List ℤ → State
after_numbers st [] = st
after_numbers st (z ∷ zs) = after_numbers (after_number st z) zs

-- after an s line, at the start of a v line, after a line of a known form, after several
abbrev pub with_status : Tally → Tally
with_status t = record { status = true; again = t.again || t.status; early = t.early; after = t.after; above = t.above; twice = t.twice }

abbrev pub with_values : Tally → Tally
with_values t = record { status = t.status; again = t.again; early = t.early || not t.status; after = t.after; above = t.above; twice = t.twice }

unfoldable pub after_line : State → List ℕ → State
after_line st l =
    pick (status_line l) (record { tally = with_status st.tally; marks = st.marks })
    (pick (value_line l) (after_numbers (record { tally = with_values st.tally; marks = st.marks }) (line_numbers l))
    st)

unfoldable pub after_lines : State → List (List ℕ) → State
after_lines st [] = st
after_lines st (l ∷ ls) = after_lines (after_line st l) ls

abbrev pub nothing : Tally
nothing = record { status = false; again = false; early = false; after = false; above = false; twice = false }

-- the pieces of a v line after `v` and the space
abbrev pub value_pieces : List ℕ → List (List ℕ)
value_pieces l = split 32 (drop 2 (spaced l))

-- What the functions answer that read the numbers of a v line, a line, and all lines: of marks before and after, and the tally before.
abbrev pub ReadValues : List ℕ → Tally → List ℕ → Option Tally → List ℕ → Type 0
ReadValues m t l None m' = all is_number (value_pieces l) ≡ false
ReadValues m t l (Some u) m' =
    (all is_number (value_pieces l) ≡ true)
    × (record { tally = u; marks = m' } ≡ after_numbers (record { tally = t; marks = m }) (numbers (drop 2 (spaced l))))

abbrev pub ReadLine : List ℕ → Tally → List ℕ → Option Tally → List ℕ → Type 0
ReadLine m t l None m' = known l ≡ false
ReadLine m t l (Some u) m' =
    (known l ≡ true) × (record { tally = u; marks = m' } ≡ after_line (record { tally = t; marks = m }) l)

abbrev pub ReadLines : List ℕ → List ℕ → Option Tally → List ℕ → Type 0
ReadLines m text None m' = all known (lines text) ≡ false
ReadLines m text (Some u) m' =
    (all known (lines text) ≡ true) × (record { tally = u; marks = m' } ≡ after_lines (record { tally = nothing; marks = m }) (lines text))
