-- What a substitution in memory means, field by field and template by template. Assumes nothing.
use mathlib.Core.Path.{◌≡◌, sym, ap, subst, ◌∙◌}
use mathlib.Core.List.{List, [], map}
use Prim.Native.Nat.{ℕ, ◌+◌, ◌<◌, ◌≤◌}
use native.Mathlib.Omega.{arith}
use lib.ListN.{length, get_or-map}
use lib.Seq.{get_or-take}
use Rattle.model.specs.Lists.{All}
use Rattle.model.specs.Sheet.{sheet_of, template, symbol_of, symbol_byte}
use Rattle.model.specs.Word.{text, spell}
use Rattle.model.proofs.Words.{Agree, spell-agree}
use Rattle.model.proofs.Templates.{template_in, template_again, template_bytes_lem, template-room}
use Rattle.fields.specs.declared.Field.{Field}
use Rattle.fields.specs.Memory.{text_of, texts_of, field, Whole, meaning, Held}
use Rattle.words.proofs.Symbols.{whole-at, text-length}

module _ (b : List ℕ) (g : List Field) (ok : Held b g) where
  agree : Agree (length (sheet_of b).limits) (texts_of g) (meaning b g)
  agree f h = sym (get_or-take (length (sheet_of b).limits) (texts_of g) f [] h)

  -- a field's text, and its length
  pub text_at_lem : (f : ℕ) → f < length (sheet_of b).limits → text (meaning b g) f ≡ text_of (field g f)
  text_at_lem f h = sym (agree f h) ∙ get_or-map text_of g f (record { letters = []; len = 0 })

  pub field-whole : (f : ℕ) → f < length (sheet_of b).limits → Whole (field g f)
  field-whole f h = whole-at g f ok.whole (omega (arith, ok.six, ok.in_range.counts_in.of_fields))

  pub length_at : (f : ℕ) → f < length (sheet_of b).limits → length (text (meaning b g) f) ≡ (field g f).len
  length_at f h = ap length (text_at_lem f h) ∙ text-length (field g f) (field-whole f h)

  pub short-at : (f : ℕ) → f < length (sheet_of b).limits → length (text (meaning b g) f) ≤ 8
  short-at f h = omega (arith, length_at f h, field-whole f h)

  -- a template's stretch of the sheet, and the word that it spells
  module _ (p side : ℕ) (h : p < length (sheet_of b).equations) (t : List ℕ) (e : t ≡ map symbol_byte (template (sheet_of b) p side)) where
    pub word-is : spell (texts_of g) (map symbol_of t) ≡ spell (meaning b g) (template (sheet_of b) p side)
    word-is =
        ap (λ x. spell (texts_of g) (map symbol_of x)) e
        ∙ ap (spell (texts_of g)) (template_again (sheet_of b) ok.in_range p h side)
        ∙ spell-agree (length (sheet_of b).limits) (texts_of g) (meaning b g) agree (length (sheet_of b).letters) (template (sheet_of b) p side) (template_in (sheet_of b) ok.in_range p h side).symbols

    pub can_spell : All Whole g × All (λ x. x < 128 + 6) t × (length (spell (texts_of g) (map symbol_of t)) ≤ 24)
    can_spell =
        (ok.whole, subst (All (λ x. x < 128 + 6)) (sym e) (template_bytes_lem (sheet_of b) ok.in_range p h side), rw word-is (template-room (sheet_of b) ok.in_range p h (meaning b g) ok.legal side))
