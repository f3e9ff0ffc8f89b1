-- What a symbol's byte stands for under a substitution in memory: the letter, or the text of a field, which has room for it. Assumes nothing.
use mathlib.Core.Path.{◌≡◌, ap, ◌∙◌}
use mathlib.Core.List.{List, [], ◌∷◌, ◌++◌, map}
use Prim.Native.Nat.{ℕ, ◌+◌, ◌-◌, ◌<◌, ◌≤◌}
use native.Mathlib.Omega.{arith}
use lib.ListN.{length, get_or, take, length-map, length-append, get_or-map}
use lib.Seq.{length-take-le}
use borrow.Author.Tests.{lt-ltb, le-ltb}
use Rattle.model.specs.Lists.{All}
use Rattle.model.specs.Sheet.{symbol_of}
use Rattle.model.specs.Word.{symbol_word, spell}
use Rattle.model.proofs.Lists.{at}
use Rattle.model.proofs.Words.{spell-more, spell_part}
use Rattle.fields.specs.declared.Field.{Field}
use Rattle.fields.specs.Memory.{text_of, texts_of, field, Whole}

pub letter-word : (g : List Field) (x : ℕ) → x < 128 → symbol_word (texts_of g) (symbol_of x) ≡ x ∷ []
letter-word g x h = rw (lt-ltb x 128 h)

pub field-word : (g : List Field) (x : ℕ) → 128 ≤ x → symbol_word (texts_of g) (symbol_of x) ≡ text_of (field g (x - 128))
field-word g x h = rw (le-ltb x 128 h) (get_or-map text_of g (x - 128) (record { letters = []; len = 0 }))

-- one of a whole substitution's fields
pub whole-at : (g : List Field) (f : ℕ) → All Whole g → f < length g → Whole (field g f)
whole-at g f h l = at Whole g f (record { letters = []; len = 0 }) h l

pub text-length : (v : Field) → Whole v → length (text_of v) ≡ v.len
text-length v h = length-take-le v.len v.letters (omega (arith, h))

-- A template's bytes, spelled up to index i and one symbol further; and the room for it.
module _ (g : List Field) (t : List ℕ) (i : ℕ) (more : i < length t) where
  pub spelled-more : spell (texts_of g) (take (i + 1) (map symbol_of t)) ≡ spell (texts_of g) (take i (map symbol_of t)) ++ symbol_word (texts_of g) (symbol_of (get_or t i 0))
  spelled-more =
      let n : i < length (map symbol_of t) = omega (arith, length-map t symbol_of) in
      spell-more (texts_of g) (map symbol_of t) i (symbol_of 0) n
      ∙ ap (λ x. spell (texts_of g) (take i (map symbol_of t)) ++ symbol_word (texts_of g) x) (get_or-map symbol_of t i 0)

  pub spelled-room : length (spell (texts_of g) (take i (map symbol_of t))) + length (symbol_word (texts_of g) (symbol_of (get_or t i 0))) ≤ length (spell (texts_of g) (map symbol_of t))
  spelled-room =
      let e = ap length spelled-more in
      let n = length-append (spell (texts_of g) (take i (map symbol_of t))) (symbol_word (texts_of g) (symbol_of (get_or t i 0))) in
      let h = spell_part (texts_of g) (map symbol_of t) (i + 1) in
      omega arith
