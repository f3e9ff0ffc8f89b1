-- Books, computed. One is read in full, with parts that differ from each other: what stands where; and the longest there is. Damaged books with the refusal that
-- is given. The questions of two templates, and the pairs of templates that clash. Assumes nothing.
use mathlib.Core.Path.{◌≡◌, refl}
use mathlib.Core.List.{List, [], ◌∷◌, ◌++◌, map}
use Prim.Native.Nat.{ℕ, ◌+◌, ◌*◌}
use lib.ListN.{length}
use Rattle.model.specs.Lists.{starts_with, same, each, from, keep, all, any}
use Rattle.model.specs.Sheet.{letter, field, row, times, width}
use Rattle.model.specs.Word.{spell, same_letter, same_word, equation_holds, constraint_holds, keeps, solves}
use Rattle.model.specs.Solvable.{all_texts, substitutions, solvable}
use Rattle.book.specs.Book.{Book, mark, count, some_symbols, a_template, some_templates, body, opens, accepted, refused, read_book}
use Rattle.book.specs.Pairs.{asked, question, Pair, pairs, clashing, list_bytes}

-- a book of version 1 from its letter count on
abbrev pub book : List ℕ → List ℕ
book xs = mark ++ (0 ∷ 1 ∷ xs)

-- Three templates over A and B: A, a field of limit 1, A; a field of limit 2, B, the same field, beside one that stands nowhere; nothing.
abbrev pub three : Book
three = record {
  letters = 65 ∷ 66 ∷ [];
  templates =
      record { limits = 1 ∷ []; symbols = letter 0 ∷ field 0 ∷ letter 0 ∷ [] }
      ∷ record { limits = 0 ∷ 2 ∷ []; symbols = field 1 ∷ letter 1 ∷ field 1 ∷ [] }
      ∷ record { limits = []; symbols = [] }
      ∷ [];
}

abbrev pub three_bytes : List ℕ
three_bytes =
    book
    (2 ∷ 65 ∷ 66
    ∷ 3
    ∷ 1 ∷ 1 ∷ 3 ∷ 0 ∷ 128 ∷ 0
    ∷ 2 ∷ 0 ∷ 2 ∷ 3 ∷ 129 ∷ 1 ∷ 129
    ∷ 0 ∷ 0
    ∷ [])

pub read_in_full : read_book three_bytes ≡ accepted three
unfolding starts_with row times width count some_symbols a_template some_templates body opens read_book
read_in_full = refl

-- "j's fields numbered after i's": field 1 of the second template is field 2 of the question
pub asked_in_full : question three 0 1 ≡ record {
  letters = 65 ∷ 66 ∷ [];
  limits = 1 ∷ 0 ∷ 2 ∷ [];
  equations = record { left = letter 0 ∷ field 0 ∷ letter 0 ∷ []; right = field 2 ∷ letter 1 ∷ field 2 ∷ [] } ∷ [];
  constraints = [];
}
unfolding asked
asked_in_full = refl

-- and with two fields before it field 0 of the first template is field 2
pub asked_the_other_way : question three 1 0 ≡ record {
  letters = 65 ∷ 66 ∷ [];
  limits = 0 ∷ 2 ∷ 1 ∷ [];
  equations = record { left = field 1 ∷ letter 1 ∷ field 1 ∷ []; right = letter 0 ∷ field 2 ∷ letter 0 ∷ [] } ∷ [];
  constraints = [];
}
unfolding asked
asked_the_other_way = refl

-- "by i then j", i below j
pub pairs_of_three : pairs 3 ≡ record { first = 0; second = 1 } ∷ record { first = 0; second = 2 } ∷ record { first = 1; second = 2 } ∷ []
unfolding pairs each from
pairs_of_three = refl

pub pairs_of_four : map (λ (p : Pair). p.first * 10 + p.second) (pairs 4) ≡ 1 ∷ 2 ∷ 3 ∷ 12 ∷ 13 ∷ 23 ∷ []
unfolding pairs each from
pairs_of_four = refl

-- ABA is spelled by both of the first two, with B and with A for their fields; the third spells the empty text, which neither of them does.
pub clashing_of_three : clashing three ≡ record { first = 0; second = 1 } ∷ []
unfolding clashing pairs keep each from asked solvable substitutions all_texts any all solves equation_holds constraint_holds same_letter same_word keeps same spell
clashing_of_three = refl

-- Field 0 of the one template is not field 0 of the other: A and a text, and a text and B, both spell AB, with B for the one field and A for the other. Were
-- it one field, no text would do.
abbrev pub own-fields : Book
own-fields = record {
  letters = 65 ∷ 66 ∷ [];
  templates =
      record { limits = 1 ∷ []; symbols = letter 0 ∷ field 0 ∷ [] }
      ∷ record { limits = 1 ∷ []; symbols = field 0 ∷ letter 1 ∷ [] }
      ∷ [];
}

pub clashing_of_own : clashing own-fields ≡ record { first = 0; second = 1 } ∷ []
unfolding clashing pairs keep each from asked solvable substitutions all_texts any all solves equation_holds constraint_holds same_letter same_word keeps same spell
clashing_of_own = refl

-- and the list's bytes
pub bytes_of_own : list_bytes (clashing own-fields) ≡ 0 ∷ 1 ∷ []
unfolding list_bytes clashing pairs keep each from asked solvable substitutions all_texts any all solves equation_holds constraint_holds same_letter same_word keeps same spell
bytes_of_own = refl

-- a damaged book and its refusal
pub record Case : Type 0 where
  pub bytes : List ℕ
  pub first : ℕ

abbrev ◌gives◌ : List ℕ → ℕ → Case
◌gives◌ b n = record { bytes = b; first = n }

infix 5 ◌gives◌
abbrev damaged : List Case
damaged =
    -- under five bytes, with a good mark; nothing; another mark, the sheet's; a version in the wrong byte, and version 2: before the letter count, which is bad
    (mark ++ (0 ∷ []) gives 40)
    ∷ ([] gives 40)
    ∷ (84 ∷ 80 ∷ 76 ∷ 0 ∷ 1 ∷ 0 ∷ [] gives 40)
    ∷ (mark ++ (1 ∷ 0 ∷ 0 ∷ []) gives 40)
    ∷ (mark ++ (0 ∷ 2 ∷ 0 ∷ []) gives 40)
    ∷ (mark ++ (1 ∷ 1 ∷ 0 ∷ []) gives 40)
    -- five good bytes and no more
    ∷ (book [] gives 41)
    -- no letter, and nine
    ∷ (book (0 ∷ 1 ∷ 0 ∷ 0 ∷ []) gives 41)
    ∷ (book (9 ∷ 65 ∷ 66 ∷ 67 ∷ 68 ∷ 69 ∷ 70 ∷ 71 ∷ 72 ∷ 73 ∷ 1 ∷ 0 ∷ 0 ∷ []) gives 41)
    -- a letter out of range, below and above; letters that do not rise
    ∷ (book (1 ∷ 32 ∷ 1 ∷ 0 ∷ 0 ∷ []) gives 41)
    ∷ (book (1 ∷ 127 ∷ 1 ∷ 0 ∷ 0 ∷ []) gives 41)
    ∷ (book (2 ∷ 65 ∷ 65 ∷ 1 ∷ 0 ∷ 0 ∷ []) gives 41)
    -- no template, and seventeen
    ∷ (book (1 ∷ 65 ∷ 0 ∷ []) gives 41)
    ∷ (book (1 ∷ 65 ∷ 17 ∷ each (from 0 17) (λ i. 0 ∷ 0 ∷ [])) gives 41)
    -- four fields
    ∷ (book (1 ∷ 65 ∷ 1 ∷ 4 ∷ 1 ∷ 1 ∷ 1 ∷ 1 ∷ 0 ∷ []) gives 41)
    -- a limit of 9
    ∷ (book (1 ∷ 65 ∷ 1 ∷ 1 ∷ 9 ∷ 0 ∷ []) gives 41)
    -- thirteen symbols
    ∷ (book (1 ∷ 65 ∷ 1 ∷ 0 ∷ 13 ∷ each (from 0 13) (λ i. 0 ∷ [])) gives 41)
    -- a letter that there is not; a field that there is not, though the template before it has it
    ∷ (book (1 ∷ 65 ∷ 1 ∷ 0 ∷ 1 ∷ 1 ∷ []) gives 41)
    ∷ (book (1 ∷ 65 ∷ 2 ∷ 1 ∷ 1 ∷ 0 ∷ 0 ∷ 1 ∷ 128 ∷ []) gives 41)
    -- 25 wide
    ∷ (book (1 ∷ 65 ∷ 1 ∷ 1 ∷ 8 ∷ 4 ∷ 128 ∷ 128 ∷ 128 ∷ 0 ∷ []) gives 41)
    -- a symbol, a limit, a template missing; a byte left over
    ∷ (book (1 ∷ 65 ∷ 1 ∷ 0 ∷ 1 ∷ []) gives 41)
    ∷ (book (1 ∷ 65 ∷ 1 ∷ 1 ∷ []) gives 41)
    ∷ (book (1 ∷ 65 ∷ 2 ∷ 0 ∷ 0 ∷ []) gives 41)
    ∷ (book (1 ∷ 65 ∷ 1 ∷ 0 ∷ 0 ∷ 0 ∷ []) gives 41)
    ∷ []

pub refusals : map (λ (c : Case). read_book c.bytes) damaged ≡ map (λ (c : Case). refused c.first) damaged
unfolding starts_with row times width each from count some_symbols a_template some_templates body opens read_book
refusals = refl

-- the longest book, 287 bytes: 8 letters, 16 templates, 3 fields, 12 symbols
abbrev longest : List ℕ
longest = book ((8 ∷ 65 ∷ 66 ∷ 67 ∷ 68 ∷ 69 ∷ 70 ∷ 71 ∷ 72 ∷ 16 ∷ []) ++ each (from 0 16) (λ i. 3 ∷ 8 ∷ 7 ∷ 6 ∷ 12 ∷ 128 ∷ 0 ∷ 1 ∷ 2 ∷ 3 ∷ 4 ∷ 5 ∷ 6 ∷ 7 ∷ 130 ∷ 0 ∷ 0 ∷ []))

pub longest_accepted : (length longest ≡ 287) × (read_book longest ≡ accepted (record {
  letters = 65 ∷ 66 ∷ 67 ∷ 68 ∷ 69 ∷ 70 ∷ 71 ∷ 72 ∷ [];
  templates = each (from 0 16) (λ i. record {
    limits = 8 ∷ 7 ∷ 6 ∷ [];
    symbols = field 0 ∷ letter 0 ∷ letter 1 ∷ letter 2 ∷ letter 3 ∷ letter 4 ∷ letter 5 ∷ letter 6 ∷ letter 7 ∷ field 2 ∷ letter 0 ∷ letter 0 ∷ [];
  } ∷ []);
}))
unfolding starts_with row times width each from count some_symbols a_template some_templates body opens read_book
longest_accepted = (refl, refl)

-- the widest template of all is no fault: 24
pub not_too_wide : read_book (book (1 ∷ 65 ∷ 1 ∷ 1 ∷ 8 ∷ 3 ∷ 128 ∷ 128 ∷ 128 ∷ [])) ≡ accepted (record {
  letters = 65 ∷ [];
  templates = record { limits = 8 ∷ []; symbols = field 0 ∷ field 0 ∷ field 0 ∷ [] } ∷ [];
})
unfolding starts_with row times width count some_symbols a_template some_templates body opens read_book
not_too_wide = refl
