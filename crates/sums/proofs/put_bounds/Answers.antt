-- `sums::put_bounds` meets its contract. The loop's invariant: the first n lines have been written. Assumes nothing.
use mathlib.Core.Path.{◌≡◌, sym, ap, subst, ◌∙◌}
use mathlib.Core.List.{List, [], ◌∷◌}
use Prim.Native.Nat.{ℕ, suc, ◌+◌, ◌-◌, ◌*◌, ◌<◌, ◌≤◌}
use native.Mathlib.Omega.{arith}
use lib.ListN.{length}
use Rattle.model.specs.Lists.{each, up_to, Puts}
use Rattle.model.specs.Sheet.{Sheet, Constraint, sheet_of, constraint}
use Rattle.formula.specs.Clause.{T, least, spread, fields}
use Rattle.formula.specs.Count.{within}
use Rattle.formula.specs.Numbering.{number}
use Rattle.model.proofs.Pieces.{loop_none, loop_room, loop_next, loop_done}
use Rattle.formula.proofs.Totals.{within_le}
use Rattle.dimacs.specs.Codes.{codes_line, most_code, large_code}
use Rattle.sums.specs.Lines.{bound_line, bound_lines}
use Rattle.sums.proofs.Summed.{bound_codes, low_code}
use Rattle.sums.proofs.put_bounds.Goals as goal
use Rattle.sums.proofs.put_bounds.Lts as lts
use Rattle.sums.proofs.put_bounds.Reads as reads
use Rattle.sums.proofs.put_bounds.Tie as tie

-- the lines, and how many there are
module _ (start : lts.Start tie.the-claims reads.Pre reads.Post goal.the-invariant-loop-n goal.the-decreases-loop-n) where
  abbrev s : Sheet
  s = sheet_of start.args.sheet.now

  abbrev rule : Constraint
  rule = constraint s start.args.r

  abbrev lines : ℕ → List ℕ
  lines = bound_line s start.args.r

  abbrev count : ℕ
  count = suc (spread s rule (fields s)) - within s rule

  room : start.args.at + length (each (up_to count) lines) ≤ length start.args.buf.now
  unfolding bound_lines
  room = start.requires.2

-- what is known before the loop: the sums, and the code of the least
module _ (c : lts.After-spread tie.the-claims reads.Pre reads.Post goal.the-invariant-loop-n goal.the-decreases-loop-n) where
  abbrev start_of : lts.Start tie.the-claims reads.Pre reads.Post goal.the-invariant-loop-n goal.the-decreases-loop-n
  start_of = c.before.before.before.before.before.before.before

  abbrev all-fields : lts.After-fields tie.the-claims reads.Pre reads.Post goal.the-invariant-loop-n goal.the-decreases-loop-n
  all-fields = c.before.before.before.before

  abbrev first : ℕ
  first = c.sum_code-first.result

  spread-is : c.spread.result ≡ spread (s start_of) (rule start_of) (fields (s start_of))
  spread-is = c.spread.ensures.0 ∙ ap (spread (s start_of) (rule start_of)) all-fields.fields-fields.ensures

  least-code : (first ≡ 2 * number (s start_of) (T start_of.args.r (fields (s start_of)) (least (s start_of) (rule start_of) (fields (s start_of))))) × (first ≤ most_code)
  least-code =
      let at_least_lem = c.least in
      let told = low_code (s start_of) start_of.requires.0.1 start_of.args.r start_of.requires.1 all-fields.fields-fields.result (omega (arith, all-fields.fields-fields.ensures)) at_least_lem.result at_least_lem.ensures first c.sum_code-first.ensures in
      (told.0 ∙ ap (λ k. 2 * number (s start_of) (T start_of.args.r k (least (s start_of) (rule start_of) k))) all-fields.fields-fields.ensures, told.1)

pub overflow_sub-over : goal.overflow_sub-over
overflow_sub-over c = omega (arith, c.within-within.ensures.0, spread-is c.before, within_le (s (start_of c.before)) (rule (start_of c.before)))

pub loop-n-init : goal.loop-n-init
loop-n-init c = loop_none (lines (start_of c.before))

-- a turn: one of the lines, by its code
module _ (c : lts.In-loop tie.the-claims reads.Pre reads.Post goal.the-invariant-loop-n goal.the-decreases-loop-n) where
  abbrev known : lts.After-spread tie.the-claims reads.Pre reads.Post goal.the-invariant-loop-n goal.the-decreases-loop-n
  known = c.before.before

  abbrev code : ℕ
  code = first known + 2 * known.within-within.result + 1 + 2 * c.loop-n.n

  below : c.loop-n.n < count (start_of known)
  below = omega (arith, c.loop-n-test.true, known.within-within.ensures.0, spread-is known)

  codes-few : code ≤ large_code
  codes-few = omega (arith, (least-code known).1, known.within-within.ensures.1, known.spread.ensures.1, c.loop-n-test.true)

  line-is : lines (start_of known) c.loop-n.n ≡ codes_line (code ∷ [])
  line-is = bound_codes (s (start_of known)) (start_of known).args.r (first known + 2 * known.within-within.result + 1) c.loop-n.n (omega (arith, (least-code known).0, known.within-within.ensures.0))

pub overflow_add-first : goal.overflow_add-first
overflow_add-first c = omega (arith, codes-few c.before.before)

pub overflow_add-first-in-loop-n : goal.overflow_add-first-in-loop-n
overflow_add-first-in-loop-n c = omega (arith, codes-few c.before.before)

pub overflow_add-first-in-loop-n-2 : goal.overflow_add-first-in-loop-n-2
overflow_add-first-in-loop-n-2 c = omega (arith, codes-few c.before.before)

pub clause_line-past-requires : goal.clause_line-past-requires
clause_line-past-requires c =
    let start = start_of (known c.before.before.before) in
    let free = loop_room (lines start) (count start) (room start) c.loop-n.invariant (below c.before.before.before) in
    omega (arith, ap length (line-is c.before.before.before))

pub loop-n-preserved : goal.loop-n-preserved
loop-n-preserved c =
    let at-clause-line = c.clause_line-past in
    let at-loop = c.loop-n in
    let start = start_of (known c.before.before.before.before.before.before) in
    let piece = subst (λ w. Puts at-loop.buf at-loop.past w at-clause-line.new.buf at-clause-line.result) (sym (line-is c.before.before.before.before.before.before)) at-clause-line.ensures in
    loop_next (lines start) (count start) (room start) at-loop.invariant (below c.before.before.before.before.before.before) at-clause-line.new.buf at-clause-line.result piece at-clause-line.auto.buf

pub returns : goal.returns
unfolding bound_lines
returns c =
    let start = start_of c.before.before.before in
    loop_done (lines start) (count start) (room start) c.loop-n.invariant (omega (arith, c.within-within.ensures.0, spread-is c.before.before.before))
