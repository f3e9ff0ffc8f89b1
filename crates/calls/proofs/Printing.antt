-- What the clause program prints: for a refusal, for an accepted sheet, and that the first 160 bytes decide. Assumes nothing.
use mathlib.Core.Path.{◌≡◌, ap}
use mathlib.Core.List.{List}
use Prim.Native.Nat.{ℕ}
use lib.ListN.{take}
use Rattle.model.specs.Sheet.{Accepted, sheet_of}
use Rattle.formula.specs.Dimacs.{file}
use Rattle.calls.specs.Calls.{refused, finished, of_sheet, reading}
use Rattle.calls.specs.Report.{refused_line, answer_text, clauses_printed}
use Rattle.model.proofs.Reading.{read_prefix}
use Rattle.calls.proofs.Operations.{sheet_refused, sheet_accepted}

pub clauses_refused : (b : List ℕ) (n : ℕ) → reading b ≡ refused n → clauses_printed b ≡ refused_line n
unfolding clauses_printed
clauses_refused b n e = ap answer_text (sheet_refused b n (λ s. finished (file s)) e)

pub clauses_accepted : (b : List ℕ) → Accepted b → clauses_printed b ≡ file (sheet_of b)
unfolding clauses_printed
clauses_accepted b ok = ap answer_text (sheet_accepted b (λ s. finished (file s)) ok)

pub clauses_prefix : (b : List ℕ) → clauses_printed b ≡ clauses_printed (take 160 b)
unfolding clauses_printed
clauses_prefix b = ap (λ r. answer_text (of_sheet r (λ s. finished (file s)))) (read_prefix b)
