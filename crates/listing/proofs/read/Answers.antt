-- `listing::read` meets its contract: the tally and the marks decide document 01's tests in number order. Assumes nothing.
use mathlib.Core.Path.{◌≡◌, sym}
use mathlib.Core.Bool.{true}
use mathlib.Core.List.{List}
use Prim.Native.Nat.{ℕ, ◌<◌}
use borrow.Author.Tests.{not-true, not-false}
use lib.ListN.{length, replicate}
use Rattle.std.specs.Prelude.{Some}
use Rattle.calls.specs.Reply.{line_ended}
use Rattle.tally.specs.declared.Tally.{Tally}
use Rattle.tally.specs.Tally.{ReadLines}
use Rattle.listing.proofs.Forms.{Come, come, form_end, form_line, form_none, form_again, form_early, form_after, form_open, form_above, form_twice, form_listed}
use Rattle.listing.proofs.read.Goals as goal
use Rattle.listing.proofs.read.Goals.{then-not-sum-via-then-not-sum, then-not-sum-via-else-not-sum+then-sum, then-not-sum-via-else-not-sum+else-sum+then-sum-2, then-sum-3-via-then-sum-3, then-sum-3-via-else-sum-3+then-marks-eq-UNLISTED}

-- what is known where the lines have been read
told : (m text after : List ℕ) (u : Tally) → 0 < length m → m ≡ replicate (length m) 0 → line_ended text ≡ true → ReadLines m text (Some u) after
    → Come (length m) text u after
told m text after u h z e w = come (length m) text u m after e h z w

pub returns-then-not-ended : goal.returns-then-not-ended
returns-then-not-ended c = form_end (length c.args.marks.now) c.args.text.now c.args.marks.now (sym c.if-not-ended.ensures)

pub returns-in_default : goal.returns-in_default
returns-in_default c =
    form_line (length c.args.marks.now) c.args.text.now c.args.marks.now c.read_lines.new.marks (sym c.if-not-ended.ensures) (c.in_default.ensures {u = tt})

pub returns-then-not-sum : goal.returns-then-not-sum
returns-then-not-sum c =
    let known = told c.args.marks.now c.args.text.now c.read_lines.new.marks c.in-Some.sum c.requires.0 c.requires.1 (sym c.if-not-ended.ensures) (c.in-Some.ensures {u = tt}) in
    elim c.then-not-sum.branch [
      | then-not-sum-via-then-not-sum w ↦ form_none _ _ _ _ known (not-true _ w.if-not-sum.true)
      | then-not-sum-via-else-not-sum+then-sum w ↦ form_again _ _ _ _ known w.if-sum.true
      | then-not-sum-via-else-not-sum+else-sum+then-sum-2 w ↦ form_early _ _ _ _ known w.if-sum-2.true
    ]

pub returns-then-sum-3 : goal.returns-then-sum-3
returns-then-sum-3 c =
    let known = told c.args.marks.now c.args.text.now c.read_lines.new.marks c.in-Some.sum c.requires.0 c.requires.1 (sym c.if-not-ended.ensures) (c.in-Some.ensures {u = tt}) in
    let status = not-false _ c.if-not-sum.false in
    let again = c.if-sum.false in
    let early = c.if-sum-2.false in
    elim c.then-sum-3.branch [
      | then-sum-3-via-then-sum-3 w ↦ form_after _ _ _ _ known status again early w.if-sum-3.true
      | then-sum-3-via-else-sum-3+then-marks-eq-UNLISTED w ↦ form_open _ _ _ _ known status again early w.if-marks-eq-UNLISTED.true
    ]

pub returns-then-sum-4 : goal.returns-then-sum-4
returns-then-sum-4 c =
    let known = told c.args.marks.now c.args.text.now c.read_lines.new.marks c.in-Some.sum c.requires.0 c.requires.1 (sym c.if-not-ended.ensures) (c.in-Some.ensures {u = tt}) in
    let status = not-false _ c.if-not-sum.false in
    let again = c.if-sum.false in
    let early = c.if-sum-2.false in
    let after = c.if-sum-3.false in
    let closing = c.if-marks-eq-UNLISTED.false in
    form_above _ _ _ _ known status again early after closing c.if-sum-4.true

pub returns-then-sum-5 : goal.returns-then-sum-5
returns-then-sum-5 c =
    let known = told c.args.marks.now c.args.text.now c.read_lines.new.marks c.in-Some.sum c.requires.0 c.requires.1 (sym c.if-not-ended.ensures) (c.in-Some.ensures {u = tt}) in
    let status = not-false _ c.if-not-sum.false in
    let again = c.if-sum.false in
    let early = c.if-sum-2.false in
    let after = c.if-sum-3.false in
    let closing = c.if-marks-eq-UNLISTED.false in
    form_twice _ _ _ _ known status again early after closing c.if-sum-4.false c.if-sum-5.true

pub returns : goal.returns
returns c =
    let known = told c.args.marks.now c.args.text.now c.read_lines.new.marks c.in-Some.sum c.requires.0 c.requires.1 (sym c.if-not-ended.ensures) (c.in-Some.ensures {u = tt}) in
    let status = not-false _ c.if-not-sum.false in
    let again = c.if-sum.false in
    let early = c.if-sum-2.false in
    let after = c.if-sum-3.false in
    let closing = c.if-marks-eq-UNLISTED.false in
    form_listed _ _ _ _ known status again early after closing c.if-sum-4.false c.if-sum-5.false
