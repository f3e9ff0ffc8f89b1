-- `size_sum::bounds_size` meets its contract. Assumes nothing.
use mathlib.Core.Path.{◌≡◌, ap, ◌∙◌}
use Prim.Native.Nat.{ℕ, ◌+◌, ◌-◌, ◌*◌, ◌≤◌}
use native.Mathlib.Omega.{arith}
use Rattle.model.specs.Sheet.{Sheet, Constraint, sheet_of, constraint}
use Rattle.formula.specs.Clause.{T, least, spread, fields}
use Rattle.formula.specs.Numbering.{number}
use Rattle.formula.proofs.Totals.{within_le}
use Rattle.dimacs.specs.Codes.{most_code}
use Rattle.sums.proofs.Summed.{low_code}
use Rattle.size_sum.proofs.Laws.{bound_lines_lem}
use Rattle.size_sum.proofs.bounds_size.Goals as goal
use Rattle.size_sum.proofs.bounds_size.Lts as lts
use Rattle.size_sum.proofs.bounds_size.Reads as reads
use Rattle.size_sum.proofs.bounds_size.Tie as tie

abbrev s : lts.Start tie.the-claims reads.Pre reads.Post → Sheet
s start = sheet_of start.args.sheet.now

abbrev rule : lts.Start tie.the-claims reads.Pre reads.Post → Constraint
rule start = constraint (s start) start.args.r

-- the sums, and the code of the least
module _ (c : lts.After-spread tie.the-claims reads.Pre reads.Post) where
  abbrev all-fields : lts.After-fields tie.the-claims reads.Pre reads.Post
  all-fields = c.before.before.before.before

  abbrev start_of : lts.Start tie.the-claims reads.Pre reads.Post
  start_of = all-fields.before.before

  abbrev first : ℕ
  first = c.sum_code-first.result

  spread-is : c.spread.result ≡ spread (s start_of) (rule start_of) (fields (s start_of))
  spread-is = c.spread.ensures.0 ∙ ap (spread (s start_of) (rule start_of)) all-fields.fields-fields.ensures

  inside : c.within-within.result ≤ c.spread.result + 1
  inside = omega (arith, c.within-within.ensures.0, spread-is, within_le (s start_of) (rule start_of))

  least-code : (first ≡ 2 * number (s start_of) (T start_of.args.r (fields (s start_of)) (least (s start_of) (rule start_of) (fields (s start_of))))) × (first ≤ most_code)
  least-code =
      let at_least_lem = c.least in
      let told = low_code (s start_of) start_of.requires.0.1 start_of.args.r start_of.requires.1 all-fields.fields-fields.result (omega (arith, all-fields.fields-fields.ensures)) at_least_lem.result at_least_lem.ensures first c.sum_code-first.ensures in
      (told.0 ∙ ap (λ k. 2 * number (s start_of) (T start_of.args.r k (least (s start_of) (rule start_of) k))) all-fields.fields-fields.ensures, told.1)

pub overflow_sub-over : goal.overflow_sub-over
overflow_sub-over c = omega (arith, inside c.before)

pub overflow_add-first : goal.overflow_add-first
overflow_add-first c = omega (arith, (least-code c.before).1, inside c.before, c.spread.ensures.1)

pub overflow_add-first-2 : goal.overflow_add-first-2
overflow_add-first-2 c = omega (arith, (least-code c.before).1, inside c.before, c.spread.ensures.1)

pub literals_size-requires : goal.literals_size-requires
literals_size-requires c = (omega arith, omega (arith, (least-code c.before).1, inside c.before, c.spread.ensures.1))

pub returns : goal.returns
returns c =
    let start = start_of c.before.before in
    let all = bound_lines_lem (s start) start.args.r (first c.before.before + 2 * c.within-within.result + 1) (c.spread.result + 1 - c.within-within.result) (omega (arith, (least-code c.before.before).0)) (omega (arith, spread-is c.before.before)) in
    (omega (arith, c.literals_size.ensures.0), omega (arith, c.literals_size.ensures.1, inside c.before.before, c.spread.ensures.1))
