-- What the comparison of two words gives, in the words of document 02's No. 5.
use Rattle.std.specs.Prelude.{◌≡◌, List, ℕ, length}
use Rattle.model.specs.Sheet.{Sheet, equation}
use Rattle.model.specs.Word.{Substitution, spell}
use Rattle.model.specs.Mismatch.{agreeing, rest_side, rest_word}
use Rattle.mismatch.specs.declared.Mismatch.{Mismatch}

-- of two words
pub record Compares (s : Sheet) (u w : List ℕ) (m : Mismatch) : Type 0 where
  pub agree : m.agreeing ≡ agreeing s u w
  pub on_side : m.side ≡ rest_side s u w
  pub left_over : m.rest ≡ length (rest_word s u w)

-- of the two words of equation p
abbrev pub ComparesAt : Sheet → Substitution → ℕ → Mismatch → Type 0
ComparesAt s g p m = Compares s (spell g (equation s p).left) (spell g (equation s p).right) m
