-- `clauses::show` is safe: the buffer has room for what is printed. How many zeros it starts with is never unfolded: there are too many. Assumes nothing.
use Rattle.std.proofs.Common.{◌≡◌, ℕ, ◌≤◌, List, length, sym, arith}
use lib.ListN.{length-replicate, replicate}
use Rattle.model.proofs.Seams.{front_fits, front_length}
use Rattle.calls.specs.Report.{clauses_printed}
use Rattle.clauses.proofs.show.Goals as goal

abbrev zeros : ℕ → List ℕ
zeros n = replicate n 0

size : (n : ℕ) → n ≡ length (zeros n)
size n = sym (length-replicate n 0)

room : (n : ℕ) → n ≤ length (zeros n)
room n = let e = size n in omega arith

pub slice_bounds-answer-end : goal.slice_bounds-answer-end
slice_bounds-answer-end g c = size 1808838

pub answer-n-requires : goal.answer-n-requires
answer-n-requires g c = room 1808838

pub slice_bounds-out-end : goal.slice_bounds-out-end
slice_bounds-out-end g c = front_fits (zeros 1808838) (clauses_printed c.args.sheet.now) c.answer-n.new.out c.answer-n.result c.answer-n.ensures

pub slice_bounds-write_all-end : goal.slice_bounds-write_all-end
slice_bounds-write_all-end g c = front_length (zeros 1808838) (clauses_printed c.args.sheet.now) c.answer-n.new.out c.answer-n.result c.answer-n.ensures
