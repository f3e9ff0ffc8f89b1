-- What counting answers of a sheet that is refused, and of one that is accepted. Assumes nothing.
use mathlib.Core.Path.{◌≡◌, sym, ap, ◌∙◌}
use mathlib.Core.List.{List}
use Prim.Native.Nat.{ℕ}
use Rattle.std.specs.Prelude.{Result, Ok, IsErrAnd}
use Rattle.std.proofs.lemmas.Result.{err_from_is_err_and}
use Rattle.calls.specs.Calls.{refused, finished, reading, counting, clause_counts}
use Rattle.calls.proofs.Operations.{counting_sheet, counting_counts}
use Rattle.sheet.specs.declared.Refusal.{Refusal}
use Rattle.sheet.specs.Answer.{number_of}
use Rattle.filing.specs.declared.ClauseCounts.{ClauseCounts}
use Rattle.model.specs.Sheet.{sheet_of}
use Rattle.model.specs.Range.{Admitted}
use Rattle.filing.specs.Answer.{counted, three_counts}

pub count_refused : (b : List ℕ) (r : Result ClauseCounts Refusal) (e : Refusal) → IsErrAnd r (λ p. p ≡ e) → refused (number_of e) ≡ reading b → counted r ≡ counting b
count_refused b r e h told =
    let p = err_from_is_err_and r h in
    rw (p.1, p.2) (sym (counting_sheet b (number_of e) (sym told)))

pub count_accepted : (b : List ℕ) (c : ClauseCounts) → Admitted b → three_counts c ≡ clause_counts (sheet_of b) → counted (Ok c) ≡ counting b
count_accepted b c ok told = ap finished told ∙ sym (counting_counts b ok.0)
