-- `report::write` meets its contract: three pieces, the first line, the fields' lines and the pairs' lines. Assumes nothing.
use mathlib.Core.Path.{refl, ap}
use mathlib.Core.List.{List, [], ◌∷◌}
use Prim.Native.Nat.{ℕ}
use native.Mathlib.Omega.{arith}
use lib.ListN.{length}
use Rattle.model.specs.Lists.{each, up_to}
use Rattle.model.specs.Sheet.{sheet_of}
use Rattle.model.specs.Filling.{substitution_in}
use Rattle.calls.specs.Report.{clash_line, field_line, pair_line, report}
use Rattle.parts.proofs.Known.{lent_bytes}
use Rattle.fields.specs.Memory.{meaning}
use Rattle.model.proofs.Writing.{Writing, joined, begin, fits, next, ends}
use Rattle.report.proofs.Sizes.{report_size, clash_ready}
use Rattle.report.proofs.write.Goals as goal
use Rattle.report.proofs.write.Lts as lts
use Rattle.report.proofs.write.Reads as reads
use Rattle.report.proofs.write.Tie as tie

pub load-g-requires : goal.load-g-requires
load-g-requires c =
    clash_ready c.args.sheet.now c.args.bytes.now (lent_bytes c.args.sheet.now c.shared_slice_known-1.given) c.requires.0

abbrev start_of : lts.After-load tie.the-claims reads.Pre reads.Post → lts.Start tie.the-claims reads.Pre reads.Post
start_of c = c.before.before.before.before

-- the lines of the fields, and of the pairs
abbrev field-part : lts.After-load tie.the-claims reads.Pre reads.Post → List ℕ
field-part c =
    each (up_to (length (sheet_of (start_of c).args.sheet.now).limits)) (field_line (sheet_of (start_of c).args.sheet.now) (meaning (start_of c).args.sheet.now c.load-g.result))

abbrev pair-part : lts.After-load tie.the-claims reads.Pre reads.Post → List ℕ
pair-part c =
    each (up_to (length (sheet_of (start_of c).args.sheet.now).equations)) (pair_line (sheet_of (start_of c).args.sheet.now) (meaning (start_of c).args.sheet.now c.load-g.result))

-- what is still to be written, and where
abbrev Still : lts.After-load tie.the-claims reads.Pre reads.Post → List ℕ → List (List ℕ) → List ℕ → ℕ → Type 0
Still c = Writing (start_of c).args.buf.now 0 (report (sheet_of (start_of c).args.sheet.now) (meaning (start_of c).args.sheet.now c.load-g.result))

begun : (c : lts.After-load tie.the-claims reads.Pre reads.Post) → Still c clash_line (field-part c ∷ pair-part c ∷ []) (start_of c).args.buf.now 0
unfolding joined report
begun c =
    let start = start_of c in
    begin _ _ _ _ _ refl (omega (arith, report_size start.args.sheet.now c.load-g.result c.load-g.ensures.0, start.requires.1))

abbrev load_of : lts.After-put tie.the-claims reads.Pre reads.Post → lts.After-load tie.the-claims reads.Pre reads.Post
load_of c = c.before.before.before.before

before-fields : (c : lts.After-put tie.the-claims reads.Pre reads.Post) → Still (load_of c) (field-part (load_of c)) (pair-part (load_of c) ∷ []) c.put-a.new.buf c.put-a.result
before-fields c = next (begun (load_of c)) c.put-a.ensures c.put-a.auto.buf

abbrev put_of : lts.After-field_lines tie.the-claims reads.Pre reads.Post → lts.After-put tie.the-claims reads.Pre reads.Post
put_of c = c.before.before.before.before

before-pairs : (c : lts.After-field_lines tie.the-claims reads.Pre reads.Post) → Still (load_of (put_of c)) (pair-part (load_of (put_of c))) [] c.field_lines-b.new.buf c.field_lines-b.result
before-pairs c = next (before-fields (put_of c)) c.field_lines-b.ensures c.field_lines-b.auto.buf

pub put-a-requires : goal.put-a-requires
put-a-requires c = fits (begun c.before.before.before.before)

pub field_lines-b-requires : goal.field_lines-b-requires
field_lines-b-requires c =
    ((load_of c.before.before.before.before).load-g.ensures.0, fits (before-fields c.before.before.before.before))

pub pair_lines-requires : goal.pair_lines-requires
pair_lines-requires c =
    ((load_of (put_of c.before.before.before.before)).load-g.ensures.0, fits (before-pairs c.before.before.before.before))

pub returns : goal.returns
returns c =
    let at-pair-lines = c.pair_lines in
    let after-load = load_of (put_of c.before.before.before.before.before.before.before) in
    let same = ap substitution_in after-load.load-g.ensures.1 in
    rw same (ends _ _ (before-pairs c.before.before.before.before.before.before.before) at-pair-lines.ensures at-pair-lines.auto.buf)
