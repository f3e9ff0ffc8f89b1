-- `size_sum::step_size` meets its contract. The loop's invariant: the sum is that of the lines with lengths below d. Assumes nothing.
use mathlib.Core.Path.{◌≡◌, sym, ap₂, ◌∙◌}
use Prim.Native.Nat.{ℕ, suc, ◌+◌}
use native.Mathlib.Omega.{arith}
use lib.ListN.{length}
use lib.IntN.{pos, ◌+ℤ◌}
use Rattle.model.specs.Lists.{total}
use Rattle.model.specs.Sheet.{Sheet, Constraint, sheet_of, constraint}
use Rattle.model.specs.Sheet as model
use Rattle.formula.specs.Clause.{Add, least, spread}
use Rattle.model.proofs.Keeping.{total-none, total-more}
use Rattle.literals.specs.Name.{line_of}
use Rattle.size_sum.proofs.Laws.{step_lines_lem}
use Rattle.size_sum.proofs.step_size.Goals as goal
use Rattle.size_sum.proofs.step_size.Lts as lts
use Rattle.size_sum.proofs.step_size.Reads as reads
use Rattle.size_sum.proofs.step_size.Tie as tie

abbrev s : lts.Start tie.the-claims reads.Pre reads.Post goal.the-invariant-loop-d goal.the-decreases-loop-d → Sheet
s start = sheet_of start.args.sheet.now

abbrev rule : lts.Start tie.the-claims reads.Pre reads.Post goal.the-invariant-loop-d goal.the-decreases-loop-d → Constraint
rule start = constraint (s start) start.args.r

-- what is known before the loop: the codes of the least sums, here and with field k added
module _ (c : lts.After-spread tie.the-claims reads.Pre reads.Post goal.the-invariant-loop-d goal.the-decreases-loop-d) where
  abbrev limit-of : lts.After-limit tie.the-claims reads.Pre reads.Post goal.the-invariant-loop-d goal.the-decreases-loop-d
  limit-of = c.before.before.before.before.before

  abbrev start_of : lts.Start tie.the-claims reads.Pre reads.Post goal.the-invariant-loop-d goal.the-decreases-loop-d
  start_of = limit-of.before.before

  -- the bytes of all lines with length d
  abbrev with-length : ℕ → ℕ
  with-length d = total (c.spread-n.result + 1) (λ m. length (line_of (s start_of) (Add start_of.args.r start_of.args.k (least (s start_of) (rule start_of) start_of.args.k +ℤ pos m) d)))

pub loop-d-init : goal.loop-d-init
loop-d-init c = (sym (total-none (with-length c.before)), omega arith)

pub loop-d-preserved : goal.loop-d-preserved
loop-d-preserved c =
    let l = c.loop-d in
    let more = total-more l.d (with-length c.before.before.before.before) in
    (omega (arith, l.invariant.0, c.length_size-sum.ensures.0), omega (arith, l.invariant.1, c.length_size-sum.ensures.1))

pub returns : goal.returns
returns c =
    let l = c.loop-d in
    let start = start_of c.before.before.before in
    let sums : c.spread-n.result + 1 ≡ suc (spread (s start) (rule start) start.args.k) = omega arith in
    let lengths : l.d ≡ suc (model.limit (s start) start.args.k) = omega (arith, l.auto.d-end, (limit-of c.before.before.before).limit-limit.ensures.0) in
    let all = ap₂ (λ e m. total e (λ d. total m (λ i. length (line_of (s start) (Add start.args.r start.args.k (least (s start) (rule start) start.args.k +ℤ pos i) d))))) lengths sums in
    (l.invariant.0 ∙ all ∙ sym (step_lines_lem (s start) start.args.r start.args.k), omega (arith, l.invariant, (limit-of c.before.before.before).limit-limit.ensures.1))
