-- What a held substitution makes of a template's cells is the word that the template spells: a place holds a letter of its field's text, or
-- 255 past its end. So it solves the equations of cells exactly when the sheet's equations hold. Assumes nothing.
use mathlib.Core.Path.{◌≡◌, refl, sym, ap, ◌∙◌}
use mathlib.Core.List.{List, [], ◌∷◌, map}
use Prim.Native.Nat.{ℕ, zero, suc, ◌+◌, ◌-◌, ◌*◌, ◌/◌, ◌%◌, ◌<◌, ◌≤◌}
use native.Mathlib.Omega.{arith}
use lib.Dec.{ltb, eqb}
use lib.ListN.{length, get_or, get_or-replicate, get_or-map}
use lib.Seq.{get_or-take, get_or-drop, length-take-le}
use borrow.Author.Tests.{ltb-true, ltb-false, eq-eqb, ne_eqb}
use Rattle.model.specs.Lists.{pick, All}
use Rattle.model.specs.Sheet.{Symbol, Sheet, sheet_of}
use Rattle.model.specs.Sheet as sheet
use Rattle.model.specs.Range.{SymbolIn, EquationIn}
use Rattle.model.specs.Word.{Substitution, text, spell, EquationHolds}
use Rattle.model.specs.Cells.{Cell, letter, place, cells, value, unblank, values}
use Rattle.model.proofs.Lists.{by_test, at}
use Rattle.model.proofs.Words.{same-word-equal, equal-same-word}
use Rattle.model.proofs.Values.{place-letter, place-blank, cells-spell}
use Rattle.formula.proofs.Small.{letters-few, fields-few, limit-small}
use Rattle.formula.proofs.Valid.{CellIn, cells_in}
use Rattle.fields.specs.declared.Field.{Field}
use Rattle.fields.specs.Memory.{text_of, texts_of, field, Whole, meaning, Held}
use Rattle.shape.specs.Bytes.{cell_byte}
use Rattle.unification.specs.Names.{no_field, place_of, value_of}
use Rattle.unification.proofs.Laws.{value-place, value-letter}
use Rattle.walk.specs.Walk.{word}
use Rattle.walk.proofs.Right.{word_blank, word-solid}
use Rattle.trails.specs.Equations.{Solves}
use Rattle.trails.specs.Mirror.{template_cells, sides_of}

-- inside a list it plays no part what would stand past its end
any_default : (xs : List ℕ) (i d e : ℕ) → i < length xs → get_or xs i d ≡ get_or xs i e
any_default [] i d e h = absurd (omega arith)
any_default (x ∷ xs) zero d e h = refl
any_default (x ∷ xs) (suc i) d e h = any_default xs i d e (omega arith)

-- A place of a whole field: within the length a letter of its text, past it 255.
module _ (v : Field) (whole : Whole v) where
  pub text-length : length (text_of v) ≡ v.len
  text-length = length-take-le v.len v.letters (let a = whole.eight in let b = whole.short in omega arith)

  place_inside : (c d : ℕ) → c < v.len → get_or v.letters c 0 ≡ get_or (text_of v) c d
  place_inside c d h = sym (get_or-take v.len v.letters c 0 h) ∙ any_default (text_of v) c 0 d (omega (arith, text-length))

  place-past : (c : ℕ) → v.len ≤ c → c < 8 → get_or v.letters c 0 ≡ 255
  place-past c h k =
      let i : ℕ = c - v.len in
      let e : v.len + i ≡ c = omega arith in
      ap (λ j. get_or v.letters j 0) (sym e)
      ∙ sym (get_or-drop v.len v.letters i 0)
      ∙ ap (λ xs. get_or xs i 0) whole.past
      ∙ get_or-replicate (8 - v.len) i 255 0 (omega arith)

-- a cell's value as the walk has it: 255 stands for blank
abbrev shown : ℕ → ℕ → ℕ
shown l x = pick (eqb x l) 255 x

-- the name of a place
pub value-at : (h : List Field) (f c : ℕ) → c < 8 → value_of h (8 + 8 * f + c) ≡ place_of h f c
value-at h f c k =
    let a : (8 + 8 * f + c - 8) / 8 ≡ f = omega arith in
    let b : (8 + 8 * f + c - 8) % 8 ≡ c = omega arith in
    value-place h (8 + 8 * f + c) (omega arith) ∙ rw (a, b)

pub meaning-at : (b : List ℕ) (h : List Field) (f : ℕ) → f < length (sheet_of b).limits → text (meaning b h) f ≡ text_of (field h f)
meaning-at b h f k = get_or-take (length (sheet_of b).limits) (texts_of h) f [] k ∙ get_or-map text_of h f no_field

module _ (b : List ℕ) (h : List Field) (held : Held b h) where
  abbrev s : Sheet
  s = sheet_of b

  abbrev l : ℕ
  l = length s.letters

  abbrev g : Substitution
  g = meaning b h

  cell-value : (u : Cell) → CellIn s u → (value_of h (cell_byte u) ≡ shown l (value l g u)) × (value l g u ≤ l)
  cell-value (letter a) k =
      let few = letters-few s held.in_range in
      (value-letter h a (omega arith) ∙ rw (ne_eqb a l (λ e. omega arith)), omega arith)
  cell-value (place f c) k =
      let few = letters-few s held.in_range in
      let six = fields-few s held.in_range in
      let c8 : c < 8 = let n = limit-small s held.in_range f in let m = k.1 in omega arith in
      let v = field h f in
      let whole : Whole v = at Whole h f no_field held.whole (let n = held.six in let m = k.0 in omega arith) in
      let t = meaning-at b h f k.0 in
      let over = (held.legal.admits f k.0).over_letters in
      by_test (ltb c v.len)
      (λ e.
      let inside = ltb-true c v.len e in
      let small = place-letter l (text g f) c over (rw (t, text-length v whole) inside) in
      (value-at h f c c8 ∙ place_inside v whole c l inside ∙ ap (λ xs. get_or xs c l) (sym t) ∙ rw (ne_eqb (get_or (text g f) c l) l (λ q. omega arith)), omega arith))
      (λ e.
      let past = ltb-false c v.len e in
      let blank = place-blank l (text g f) c (rw (t, text-length v whole) past) in
      (value-at h f c c8 ∙ place-past v whole c past c8 ∙ rw (eq-eqb (get_or (text g f) c l) l blank), omega arith))

  -- the words of cells
  word-values : (us : List Cell) → All (CellIn s) us → word h (map cell_byte us) ≡ values l g us
  unfolding word unblank All
  word-values [] k = refl
  word-values (u ∷ us) k =
      let few = letters-few s held.in_range in
      let here = cell-value u k.0 in
      let others = word-values us k.1 in
      by_test (eqb (value l g u) l)
      (λ e. word_blank h (cell_byte u) (map cell_byte us) (here.0 ∙ rw e) ∙ rw (e, others))
      (λ e.
      let is : value_of h (cell_byte u) ≡ value l g u = here.0 ∙ rw e in
      word-solid h (cell_byte u) (map cell_byte us) (λ q. omega (arith, here.1, sym is ∙ q)) ∙ rw (e, is, others))

  -- a letter of a text is what stands at its place
  pub letter-value : (f c : ℕ) → f < length s.limits → c < length (text g f) → get_or (text g f) c 0 ≡ value_of h (8 + 8 * f + c)
  letter-value f c k l =
      let v = field h f in
      let whole : Whole v = at Whole h f no_field held.whole (let n = held.six in let m = fields-few s held.in_range in omega arith) in
      let t = meaning-at b h f k in
      let size = ap length t ∙ text-length v whole in
      let n = whole.short in
      ap (λ (xs : List ℕ). get_or xs c 0) t ∙ sym (place_inside v whole c 0 (omega arith)) ∙ sym (value-at h f c (omega arith))

  pub word_spells : (t : List Symbol) → All (SymbolIn l (length s.limits)) t → word h (template_cells s t) ≡ spell g t
  word_spells t k = word-values (cells s t) (cells_in s t k) ∙ cells-spell s g held.legal t k

  -- the equations of cells, and the sheet's
  pub solves_in : (es : List sheet.Equation) → All (EquationIn l s.limits) es → All (EquationHolds s g) es → Solves (map (sides_of s) es) h
  unfolding Solves All
  solves_in [] k e = tt
  solves_in (q ∷ es) k e = (
    word_spells q.left k.0.left_in.symbols ∙ same-word-equal s (spell g q.left) (spell g q.right) e.0 ∙ sym (word_spells q.right k.0.right_in.symbols),
    solves_in es k.1 e.1,
  )

  pub solves_out : (es : List sheet.Equation) → All (EquationIn l s.limits) es → Solves (map (sides_of s) es) h → All (EquationHolds s g) es
  unfolding Solves All
  solves_out [] k e = tt
  solves_out (q ∷ es) k e = (
    equal-same-word s (spell g q.left) (spell g q.right) (sym (word_spells q.left k.0.left_in.symbols) ∙ e.0 ∙ word_spells q.right k.0.right_in.symbols),
    solves_out es k.1 e.1,
  )
