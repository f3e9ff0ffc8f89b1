-- The cells of a template under a legal substitution: their non-blank values are the word that the template spells, and there are as
-- many cells as the template is wide. Assumes nothing.
use mathlib.Core.Path.{◌≡◌, refl, sym, ap, ◌∙◌}
use mathlib.Core.List.{List, [], ◌∷◌, ◌++◌, map, append_assoc}
use Prim.Native.Nat.{ℕ, zero, suc, ◌+◌, ◌<◌, ◌≤◌}
use native.Mathlib.Omega.{arith}
use lib.Dec.{ltb, eqb}
use lib.ListN.{length, get_or, drop, drop_of_length-le, length-append, length-map, get_or-eq_default}
use lib.Seq.{drop-cons}
use borrow.Author.Tests.{ltb-true, ltb-false, eq-eqb, ne_eqb}
use Rattle.model.specs.Lists.{pick, each, from, up_to, All}
use Rattle.model.specs.Sheet as sheet
use Rattle.model.specs.Sheet.{Symbol, Sheet, limit, width}
use Rattle.model.specs.Range.{SymbolIn}
use Rattle.model.specs.Word.{Substitution, text, Legal, symbol_word, spell}
use Rattle.model.specs.Cells.{Cell, letter, place, symbol_cells, cells, value, unblank, values}
use Rattle.model.proofs.Lists.{by_test, at}
use Rattle.model.proofs.Keeping.{length_from, map-append}

-- At a place of a text: a letter, or blank past its end.
pub place-letter : (l : ℕ) (t : List ℕ) (c : ℕ) → All (λ a. a < l) t → c < length t → get_or t c l < l
place-letter l t c h k = at (λ a. a < l) t c l h k

pub place-blank : (l : ℕ) (t : List ℕ) (c : ℕ) → length t ≤ c → get_or t c l ≡ l
place-blank l t c h = get_or-eq_default t l h

-- values of cells put together
unblank-append : (l : ℕ) (xs ys : List ℕ) → unblank l (xs ++ ys) ≡ unblank l xs ++ unblank l ys
unfolding unblank
unblank-append l [] ys = refl
unblank-append l (x ∷ xs) ys = ap (λ z. pick (eqb x l) [] (x ∷ []) ++ z) (unblank-append l xs ys) ∙ sym (append_assoc (pick (eqb x l) [] (x ∷ [])) (unblank l xs) (unblank l ys))

values-append : (l : ℕ) (g : Substitution) (us vs : List Cell) → values l g (us ++ vs) ≡ values l g us ++ values l g vs
values-append l g us vs = ap (unblank l) (map-append (value l g) us vs) ∙ unblank-append l (map (value l g) us) (map (value l g) vs)

-- The places of a field, from c on, spell its text from there on.
module _ (l : ℕ) (g : Substitution) (f : ℕ) (inside : All (λ a. a < l) (text g f)) where
  places-values : (c n : ℕ) → length (text g f) ≤ c + n → values l g (map (place f) (from c n)) ≡ drop c (text g f)
  unfolding from unblank
  places-values c zero h = sym (drop_of_length-le (text g f) {i = c} (omega arith))
  places-values c (suc n) h =
      let others = places-values (suc c) n (omega arith) in
      by_test (ltb c (length (text g f)))
      (λ t.
      let k = ltb-true c (length (text g f)) t in
      let a = place-letter l (text g f) c inside k in
      rw (ne_eqb (get_or (text g f) c l) l (λ e. omega arith), others) (sym (drop-cons (text g f) c l k)))
      (λ t.
      let k = ltb-false c (length (text g f)) t in
      rw (eq-eqb (get_or (text g f) c l) l (place-blank l (text g f) c k), others)
      (drop_of_length-le (text g f) {i = suc c} (omega arith) ∙ sym (drop_of_length-le (text g f) k)))

module _ (s : Sheet) (g : Substitution) (ok : Legal s g) where
  symbol_values : (x : Symbol) → SymbolIn (length s.letters) (length s.limits) x → values (length s.letters) g (symbol_cells s x) ≡ symbol_word g x
  unfolding unblank
  symbol_values (sheet.letter a) k = rw (ne_eqb a (length s.letters) (λ e. omega arith))
  symbol_values (sheet.field f) k =
      let t = ok.admits f k in
      places-values (length s.letters) g f t.over_letters 0 (limit s f) (omega (arith, t.no_longer))

  -- the law of specs/Cells: blanks passed over, the cells are the word
  pub cells-spell : (t : List Symbol) → All (SymbolIn (length s.letters) (length s.limits)) t → values (length s.letters) g (cells s t) ≡ spell g t
  unfolding cells each spell unblank All
  cells-spell [] h = refl
  cells-spell (x ∷ xs) h =
      values-append (length s.letters) g (symbol_cells s x) (each xs (symbol_cells s)) ∙ rw (symbol_values x h.0, cells-spell xs h.1)

-- As many cells as the width says.
pub cells-width : (s : Sheet) (t : List Symbol) → length (cells s t) ≡ width s.limits t
unfolding cells each width
cells-width s [] = refl
cells-width s (sheet.letter a ∷ xs) = let e = cells-width s xs in omega arith
cells-width s (sheet.field f ∷ xs) =
    length-append (map (place f) (up_to (limit s f))) (each xs (symbol_cells s))
    ∙ rw (length-map (up_to (limit s f)) (place f), length_from 0 (limit s f), cells-width s xs)
