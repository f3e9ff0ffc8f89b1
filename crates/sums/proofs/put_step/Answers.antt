-- `sums::put_step` meets its contract. The loop's invariant: the lines of the first m sums have been written. Assumes nothing.
use mathlib.Core.Path.{◌≡◌, sym, ap, subst, ◌∙◌}
use mathlib.Core.List.{List}
use Prim.Native.Nat.{ℕ, suc, ◌+◌, ◌*◌, ◌≤◌}
use native.Mathlib.Omega.{arith}
use lib.IntN.{ℤ, ◌+ℤ◌}
use lib.ListN.{length}
use mir.Syntax.{w8, w16}
use mir.Val.{to_z, of_z}
use Rattle.model.specs.Lists.{each, up_to, Puts}
use Rattle.model.specs.Sheet.{Sheet, Constraint, sheet_of, constraint}
use Rattle.formula.specs.Clause.{T, least, spread, blank}
use Rattle.formula.specs.Numbering.{number}
use Rattle.model.proofs.Pieces.{loop_none, loop_room, loop_next, loop_done}
use Rattle.formula.proofs.Small.{letters-few}
use Rattle.numbering.proofs.Laws.{add_fits, add_back}
use Rattle.dimacs.specs.Codes.{most_code, large_code}
use Rattle.sums.specs.Lines.{sum_lines, step_lines}
use Rattle.sums.specs.Codes.{add_line, Added}
use Rattle.sums.proofs.Summed.{sum_lines_lem, added, low_code, low_back, coefficient_back}
use Rattle.sums.proofs.put_step.Goals as goal
use Rattle.sums.proofs.put_step.Lts as lts
use Rattle.sums.proofs.put_step.Reads as reads
use Rattle.sums.proofs.put_step.Tie as tie

-- the lines of each sum, and how many sums there are
module _ (start : lts.Start tie.the-claims reads.Pre reads.Post goal.the-invariant-loop-m goal.the-decreases-loop-m) where
  abbrev s : Sheet
  s = sheet_of start.args.sheet.now

  abbrev rule : Constraint
  rule = constraint s start.args.r

  abbrev lines : ℕ → List ℕ
  lines = sum_lines s start.args.r start.args.k

  abbrev count : ℕ
  count = suc (spread s rule start.args.k)

  room : start.args.at + length (each (up_to count) lines) ≤ length start.args.buf.now
  unfolding step_lines
  room = start.requires.3

letters-small : (c : lts.After-letters tie.the-claims reads.Pre reads.Post goal.the-invariant-loop-m goal.the-decreases-loop-m) → c.letters.result ≤ 8
letters-small c =
    omega (arith, c.letters.ensures, letters-few (s c.before.before.before.before) c.requires.0.1)

-- what is known before the loop: the codes of the least sums, here and with field k added
module _ (c : lts.After-spread tie.the-claims reads.Pre reads.Post goal.the-invariant-loop-m goal.the-decreases-loop-m) where
  abbrev after_next : lts.After-least2 tie.the-claims reads.Pre reads.Post goal.the-invariant-loop-m goal.the-decreases-loop-m
  after_next = c.before.before.before

  abbrev after-here : lts.After-least tie.the-claims reads.Pre reads.Post goal.the-invariant-loop-m goal.the-decreases-loop-m
  after-here = after_next.before.before

  abbrev after_letters : lts.After-letters tie.the-claims reads.Pre reads.Post goal.the-invariant-loop-m goal.the-decreases-loop-m
  after_letters = after-here.before.before

  abbrev start_of : lts.Start tie.the-claims reads.Pre reads.Post goal.the-invariant-loop-m goal.the-decreases-loop-m
  start_of = after_letters.before.before.before.before

  abbrev here : ℕ
  here = after_next.sum_code-here.result

  abbrev first : ℕ
  first = c.sum_code-first.result

  here_code : (here ≡ 2 * number (s start_of) (T start_of.args.r start_of.args.k (least (s start_of) (rule start_of) start_of.args.k))) × (here ≤ most_code)
  here_code = low_code (s start_of) start_of.requires.0.1 start_of.args.r start_of.requires.1 start_of.args.k (omega (arith, start_of.requires.2)) after-here.least-low.result after-here.least-low.ensures here after_next.sum_code-here.ensures

  first_code : (first ≡ 2 * number (s start_of) (T start_of.args.r (start_of.args.k + 1) (least (s start_of) (rule start_of) (start_of.args.k + 1)))) × (first ≤ most_code)
  first_code = low_code (s start_of) start_of.requires.0.1 start_of.args.r start_of.requires.1 (start_of.args.k + 1) (omega (arith, start_of.requires.2)) after_next.least-next.result after_next.least-next.ensures first c.sum_code-first.ensures

pub loop-m-init : goal.loop-m-init
loop-m-init c = loop_none (lines (start_of c.before))

-- a turn: the sum at hand, and the line of each length, as the machine has them
module _ (c : lts.In-loop tie.the-claims reads.Pre reads.Post goal.the-invariant-loop-m goal.the-decreases-loop-m) where
  abbrev known : lts.After-spread tie.the-claims reads.Pre reads.Post goal.the-invariant-loop-m goal.the-decreases-loop-m
  known = c.before.before

  abbrev start : lts.Start tie.the-claims reads.Pre reads.Post goal.the-invariant-loop-m goal.the-decreases-loop-m
  start = start_of known

  abbrev m : ℕ
  m = c.loop-m.m

  abbrev limit : ℕ
  limit = (after_letters known).limit-limit.result

  abbrev low : ℤ
  low = to_z w16 (of_z w16 (after_next known).least-next.result)

  abbrev factor : ℤ
  factor = to_z w8 (of_z w8 known.coefficient-c.result)

  abbrev sum : ℤ
  sum = to_z w16 (of_z w16 (to_z w16 (of_z w16 (after-here known).least-low.result) +ℤ to_z w16 m))

  abbrev line : ℕ → List ℕ
  line = add_line (here known + 2 * m + 1) (after-here known).first_blank-blank.result (2 * ((after_letters known).letters.result + 1)) limit (first known) low factor sum

  one_of : m ≤ spread (s start) (rule start) start.args.k
  one_of = omega (arith, known.spread-last.ensures.0, c.loop-m-test.true)

  codes-few : here known + 2 * m + 1 ≤ large_code
  codes-few = omega (arith, (here_code known).1, known.spread-last.ensures.1, c.loop-m-test.true)

  told : (lines start m ≡ each (up_to (suc limit)) line) × ((d : ℕ) → d ≤ limit → Added (first known) low factor sum d)
  told =
      let r = start.args.r in
      let k = start.args.k in
      let ok = start.requires.0.1 in
      let hr = start.requires.1 in
      let next : k + 1 ≡ suc k = omega arith in
      let at_here : here known + 2 * m + 1 ≡ 2 * number (s start) (T r k (least (s start) (rule start) k)) + 2 * m + 1 = ap (λ z. z + 2 * m + 1) (here_code known).0 in
      let at-stride : 2 * ((after_letters known).letters.result + 1) ≡ 2 * suc (blank (s start)) = omega (arith, (after_letters known).letters.ensures) in
      let at-limit = (after_letters known).limit-limit.ensures.0 in
      let at-blank = (after-here known).first_blank-blank.ensures.0 in
      let at_first = (first_code known).0 ∙ ap (λ j. 2 * number (s start) (T r j (least (s start) (rule start) j))) next in
      let is-low = low_back (s start) ok r hr (k + 1) (omega (arith, start.requires.2)) (after_next known).least-next.result (after_next known).least-next.ensures ∙ ap (least (s start) (rule start)) next in
      let is-factor = coefficient_back (s start) ok r hr k known.coefficient-c.result known.coefficient-c.ensures in
      let is_sum = add_back (s start) ok r hr k (omega (arith, start.requires.2)) m one_of (after-here known).least-low.result (after-here known).least-low.ensures in (
        sum_lines_lem (s start) r k m _ _ _ _ _ _ _ _ at_here at-stride at-limit at-blank at_first is-low is-factor is_sum,
        added (s start) r k m _ _ _ _ _ _ _ _ at_here at-stride at-limit at-blank at_first is-low is-factor is_sum ok hr start.requires.2 one_of (first_code known).1,
      )

pub overflow_add-here : goal.overflow_add-here
overflow_add-here c = omega (arith, codes-few c.before.before)

pub overflow_add-here-in-loop-m : goal.overflow_add-here-in-loop-m
overflow_add-here-in-loop-m c = omega (arith, codes-few c.before.before)

pub overflow_add-low : goal.overflow_add-low
overflow_add-low c =
    let from = start c.before.before in
    let at_least_lem = (after-here (known c.before.before)).least-low in
    add_fits (s from) from.requires.0.1 from.args.r from.requires.1 from.args.k (omega (arith, from.requires.2)) (m c.before.before) (one_of c.before.before) at_least_lem.result at_least_lem.ensures

pub put_sum-past-requires : goal.put_sum-past-requires
put_sum-past-requires c =
    let from = start c.before.before in
    let facts = known c.before.before in
    let free = loop_room (lines from) (count from) (room from) c.loop-m.invariant (omega (arith, one_of c.before.before)) in
    (codes-few c.before.before, (after-here facts).first_blank-blank.ensures.1, omega (arith, letters-small (after_letters facts)), (after_letters facts).limit-limit.ensures.1, (told c.before.before).1, omega (arith, ap length (told c.before.before).0))

pub loop-m-preserved : goal.loop-m-preserved
loop-m-preserved c =
    let at-put-sum = c.put_sum-past in
    let at-loop = c.loop-m in
    let from = start c.before.before.before.before.before in
    let piece = subst (λ w. Puts at-loop.buf at-loop.past w at-put-sum.new.buf at-put-sum.result) (sym (told c.before.before.before.before.before).0) at-put-sum.ensures in
    loop_next (lines from) (count from) (room from) at-loop.invariant (omega (arith, one_of c.before.before.before.before.before)) at-put-sum.new.buf at-put-sum.result piece at-put-sum.auto.buf

pub returns : goal.returns
unfolding step_lines
returns c =
    let from = start_of c.before.before.before in
    loop_done (lines from) (count from) (room from) c.loop-m.invariant (omega (arith, c.spread-last.ensures.0))
