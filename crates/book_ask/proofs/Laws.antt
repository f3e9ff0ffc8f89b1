-- The question of two templates, settled, says whether they clash. Assumes nothing.
use mathlib.Core.Path.{◌≡◌, sym, ap, subst, ◌∙◌}
use mathlib.Core.Bool.{false}
use mathlib.Core.List.{List}
use Prim.Native.Nat.{ℕ, ◌<◌}
use lib.ListN.{length}
use Rattle.model.specs.Sheet.{encode, read, sheet_of}
use Rattle.model.specs.Range.{InRange}
use Rattle.model.specs.Range as range
use Rattle.model.specs.Solvable.{solvable}
use Rattle.model.proofs.Lists.{by_test}
use Rattle.model.proofs.Known.{accepted_as}
use Rattle.model.proofs.Solvable.{solvable_in, none_unsolvable}
use Rattle.std.specs.Prelude.{Option, Some, None, is_some}
use Rattle.fields.specs.declared.Field.{Field}
use Rattle.solution.specs.Whole.{Settles}
use Rattle.book.specs.Book.{Book, BookIn}
use Rattle.book.specs.Pairs.{question, clash}
use Rattle.book.proofs.Question.{question_in_range, question-read}

module _ (k : Book) (ok : BookIn k) (i j : ℕ) (hi : i < length k.templates) (hj : j < length k.templates) (b : List ℕ) (is : b ≡ encode (question k i j)) where
  read_as : (sheet_of b ≡ question k i j)
  read_as = (accepted_as b (ap (λ z. read z) is ∙ question-read k ok i j hi hj)).1

  -- the bytes may be asked
  pub question-admitted : range.Admitted b
  question-admitted = ((accepted_as b (ap (λ z. read z) is ∙ question-read k ok i j hi hj)).0, subst InRange (sym read_as) (question_in_range k ok i j hi hj))

  -- and what settles them says whether the templates clash
  pub settles_clash : (r : Option (List Field)) → Settles b false r → is_some r ≡ clash k i j
  settles_clash (Some g) s = sym (ap solvable (sym read_as) ∙ solvable_in (sheet_of b) _ s.solution)
  settles_clash None s = sym (ap solvable (sym read_as) ∙ none_unsolvable (sheet_of b) s)
