-- The question of two templates of a book within its ranges is a sheet within document 01's, so that its bytes are accepted as that sheet. Assumes
-- nothing.
use mathlib.Core.Path.{◌≡◌, refl}
use mathlib.Core.List.{List, [], ◌∷◌, ◌++◌, map}
use Prim.Native.Nat.{ℕ, ◌+◌, ◌<◌}
use native.Mathlib.Omega.{arith}
use lib.ListN.{length, length-append, length-map}
use Rattle.model.specs.Lists.{All}
use Rattle.model.specs.Sheet.{Symbol, letter, field, cells_of, width, accepted, read, encode}
use Rattle.model.specs.Range.{SymbolIn, TemplateIn, InRange}
use Rattle.model.proofs.Lists.{append_in, weaken, map_in, at}
use Rattle.model.proofs.Keeping.{second_at, first-at}
use Rattle.model.proofs.Reading.{read-encode}
use Rattle.book.specs.Book.{Template, Book, template, OwnIn, BookIn}
use Rattle.book.specs.Pairs.{numbered_after, asked, question}

module _ (l : ℕ) (xs ys : List ℕ) where
  -- template i: its fields are the first
  symbol_first : (s : Symbol) → SymbolIn l (length xs) s → SymbolIn l (length (xs ++ ys)) s
  symbol_first (letter a) h = h
  symbol_first (field f) h = let n = length-append xs ys in omega arith

  cells-first : (s : Symbol) → SymbolIn l (length xs) s → cells_of (xs ++ ys) s ≡ cells_of xs s
  cells-first (letter a) h = refl
  cells-first (field f) h = first-at 0 xs ys (length xs) f refl h

  width-first : (t : List Symbol) → All (SymbolIn l (length xs)) t → width (xs ++ ys) t ≡ width xs t
  unfolding width All
  width-first [] h = refl
  width-first (s ∷ t) h = rw (cells-first s h.0, width-first t h.1)

  pub left_in : (t : List Symbol) → TemplateIn l xs t → TemplateIn l (xs ++ ys) t
  left_in t h = record {
    symbols = weaken _ _ t symbol_first h.symbols;
    count = h.count;
    wide = rw (width-first t h.symbols) h.wide;
  }

  -- template j: its fields come after them
  symbol_second : (s : Symbol) → SymbolIn l (length ys) s → SymbolIn l (length (xs ++ ys)) (numbered_after (length xs) s)
  symbol_second (letter a) h = h
  symbol_second (field f) h = let n = length-append xs ys in omega arith

  cells-second : (s : Symbol) → cells_of (xs ++ ys) (numbered_after (length xs) s) ≡ cells_of ys s
  cells-second (letter a) = refl
  cells-second (field f) = second_at 0 xs ys (length xs) f refl

  width-second : (t : List Symbol) → width (xs ++ ys) (map (numbered_after (length xs)) t) ≡ width ys t
  unfolding width
  width-second [] = refl
  width-second (s ∷ t) = rw (cells-second s, width-second t)

  pub right_in : (t : List Symbol) → TemplateIn l ys t → TemplateIn l (xs ++ ys) (map (numbered_after (length xs)) t)
  right_in t h = record {
    symbols = map_in _ (numbered_after (length xs)) t (weaken _ _ t symbol_second h.symbols);
    count = rw (length-map t (numbered_after (length xs))) h.count;
    wide = rw (width-second t) h.wide;
  }

-- a template of a book within the ranges
pub own_in : (k : Book) → BookIn k → (i : ℕ) → i < length k.templates → OwnIn (length k.letters) (template k i)
own_in k ok i h = at (OwnIn (length k.letters)) k.templates i _ ok.templates_in h

module _ (k : Book) (ok : BookIn k) (i j : ℕ) (hi : i < length k.templates) (hj : j < length k.templates) where
  abbrev t : Template
  t = template k i

  abbrev u : Template
  u = template k j

  t_in : OwnIn (length k.letters) t
  t_in = own_in k ok i hi

  u_in : OwnIn (length k.letters) u
  u_in = own_in k ok j hj

  pub question_in_range : InRange (question k i j)
  unfolding asked All
  question_in_range = record {
    counts_in = record {
      of_letters = ok.of_letters;
      of_fields = let n = length-append t.limits u.limits in omega (arith, t_in.few, u_in.few);
      of_equations = (omega arith, omega arith);
      of_constraints = omega arith;
    };
    letters_in = ok.letters_in;
    rising = ok.rising;
    limits_in = append_in _ t.limits u.limits t_in.limits_in u_in.limits_in;
    equations_in = (
      record {
        left_in = left_in (length k.letters) t.limits u.limits t.symbols t_in.template_in;
        right_in = right_in (length k.letters) t.limits u.limits u.symbols u_in.template_in;
      },
      tt,
    );
    constraints_in = tt;
  }

  -- its bytes are accepted as that sheet
  pub question-read : read (encode (question k i j)) ≡ accepted (question k i j)
  question-read = read-encode (question k i j) question_in_range
