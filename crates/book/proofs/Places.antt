-- Where an accepted book's parts stand in its bytes. All of it is read off `encode_book`, one part after another. Assumes nothing.
use mathlib.Core.Path.{◌≡◌, sym, ap, subst, ◌∙◌}
use mathlib.Core.List.{List, [], ◌∷◌, ◌++◌, map, append-nil}
use Prim.Native.Nat.{ℕ, ◌+◌, ◌<◌, ◌≤◌}
use native.Mathlib.Nat.{add-zero}
use native.Mathlib.Omega.{arith}
use lib.ListN.{length, get_or, drop, length-append, length-map}
use Rattle.model.specs.Lists.{each, Holds, Bytes}
use Rattle.model.specs.Sheet.{symbol_byte, byte, bytes_of}
use Rattle.model.proofs.Places.{holds_fits, holds_at_lem, holds-first, holds_next, holds-from, each_at}
use Rattle.book.specs.Book.{Template, Book, template, mark, encode_template, encode_book, book_of, Admitted}
use Rattle.book.proofs.Reading.{admitted_bytes}

module _ (b : List ℕ) (y : Bytes b) (h : Admitted b) where
  abbrev k : Book
  k = book_of b

  abbrev after_mark : List ℕ
  after_mark = length k.letters ∷ (k.letters ++ (length k.templates ∷ each k.templates encode_template))

  whole : Holds b 0 ((mark ++ bytes_of 1) ++ after_mark)
  unfolding encode_book
  whole = record { others = []; is = admitted_bytes b y h ∙ sym (append-nil _); inside = omega arith }

  from_five : Holds b 5 ((length k.letters ∷ []) ++ (k.letters ++ (length k.templates ∷ each k.templates encode_template)))
  from_five = holds_next (mark ++ bytes_of 1) after_mark whole

  pub letter-count-at : byte b 5 ≡ length k.letters
  letter-count-at = holds_at_lem (length k.letters ∷ []) 0 (holds-first (length k.letters ∷ []) _ from_five) (omega arith)

  from-six : Holds b 6 (k.letters ++ (length k.templates ∷ each k.templates encode_template))
  from-six = holds_next (length k.letters ∷ []) _ from_five

  pub holds-letters : Holds b 6 k.letters
  holds-letters = holds-first k.letters _ from-six

  after_letters : Holds b (6 + length k.letters) ((length k.templates ∷ []) ++ each k.templates encode_template)
  after_letters = holds_next k.letters _ from-six

  pub template-count-at : byte b (6 + length k.letters) ≡ length k.templates
  template-count-at =
      ap (byte b) (sym (add-zero (6 + length k.letters)))
      ∙ holds_at_lem (length k.templates ∷ []) 0 (holds-first (length k.templates ∷ []) _ after_letters) (omega arith)

  pub template-count-fits : 6 + length k.letters + 1 ≤ length b
  template-count-fits = holds_fits (length k.templates ∷ []) (holds-first (length k.templates ∷ []) _ after_letters)

  pub holds-templates : Holds b (6 + length k.letters + 1) (each k.templates encode_template)
  holds-templates = holds_next (length k.templates ∷ []) _ after_letters

-- A template's bytes: its field count and limits, its symbol count and symbols.
pub record TemplateAt (b : List ℕ) (at : ℕ) (t : Template) : Type 0 where
  pub field_count : get_or b at 0 ≡ length t.limits
  pub holds_limits : Holds b (at + 1) t.limits
  pub symbol_count : get_or b (at + 1 + length t.limits) 0 ≡ length t.symbols
  pub holds_symbols : Holds b (at + 1 + length t.limits + 1) (map symbol_byte t.symbols)
  pub fits : at + 1 + length t.limits + 1 + length t.symbols ≤ length b

template-at : (b : List ℕ) (at : ℕ) (t : Template) → Holds b at (encode_template t) → TemplateAt b at t
template-at b at t h =
    let v : List ℕ = length t.limits ∷ [] in
    let n : List ℕ = length t.symbols ∷ [] in
    let limits = holds_next v (t.limits ++ (n ++ map symbol_byte t.symbols)) h in
    let counted = holds_next t.limits (n ++ map symbol_byte t.symbols) limits in
    let symbols = holds_next n (map symbol_byte t.symbols) counted in
    let f = holds_fits (map symbol_byte t.symbols) symbols in
    let m = length-map t.symbols symbol_byte in
    record {
      field_count = ap (λ j. get_or b j 0) (sym (add-zero at)) ∙ holds_at_lem v 0 (holds-first v _ h) (omega arith);
      holds_limits = holds-first t.limits _ limits;
      symbol_count = ap (λ j. get_or b j 0) (sym (add-zero (at + 1 + length t.limits))) ∙ holds_at_lem n 0 (holds-first n _ counted) (omega arith);
      holds_symbols = symbols;
      fits = omega arith;
    }

-- the template at hand, and where the next one starts
module _ (b : List ℕ) (at i : ℕ) (k : Book) (h : i < length k.templates) (now : Holds b at (each (drop i k.templates) encode_template)) where
  here : Holds b at (encode_template (template k i) ++ each (drop (i + 1) k.templates) encode_template)
  here = subst (Holds b at) (each_at k.templates encode_template i (record { limits = []; symbols = [] }) h) now

  pub this_template : TemplateAt b at (template k i)
  this_template = template-at b at (template k i) (holds-first (encode_template (template k i)) _ here)

  pub next_template : Holds b (at + 1 + length (template k i).limits + 1 + length (template k i).symbols) (each (drop (i + 1) k.templates) encode_template)
  next_template =
      let t : Template = template k i in
      let n = length-append t.limits (length t.symbols ∷ map symbol_byte t.symbols) in
      let m = length-map t.symbols symbol_byte in
      let size : at + length (encode_template t) ≡ at + 1 + length t.limits + 1 + length t.symbols = omega arith in
      holds-from size (holds_next (encode_template t) _ here)
