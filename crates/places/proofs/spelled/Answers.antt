-- `places::spelled` meets its contract. The loop's invariant: the fields passed hold what the marks spell, and all are whole. Assumes nothing.
use Prim.Native.Nat.{◌<◌}
use native.Mathlib.Omega.{arith}
use Rattle.model.specs.Sheet.{sheet_of}
use Rattle.formula.specs.Assignment.{truth}
use Rattle.formula.proofs.Small.{fields-few}
use Rattle.places.proofs.Laws.{filled_start, filled_more, text_at, filled_held}
use Rattle.places.proofs.spelled.Goals as goal
use Rattle.places.proofs.spelled.Lts as lts
use Rattle.places.proofs.spelled.Reads as reads
use Rattle.places.proofs.spelled.Tie as tie

pub fields-fields-requires : goal.fields-fields-requires
fields-fields-requires c = c.requires.0

pub loop-f-init : goal.loop-f-init
loop-f-init c =
    let a = c.args in
    filled_start (text_at (sheet_of a.sheet.now) (truth a.marks.now))

pub field_text-requires : goal.field_text-requires
field_text-requires c =
    (c.requires, omega (arith, c.fields-fields.ensures))

-- there is room for the field
few : (c : lts.After-field_text tie.the-claims reads.Pre reads.Post goal.the-invariant-loop-f goal.the-decreases-loop-f) → c.loop-f.f < 6
few c =
    omega (arith, c.fields-fields.ensures, fields-few (sheet_of c.args.sheet.now) c.requires.0.1)

pub offset_bounds-g-f : goal.offset_bounds-g-f
offset_bounds-g-f c = omega (arith, few c.before)

pub bounds-g-f : goal.bounds-g-f
bounds-g-f c = omega (arith, few c.before)

pub loop-f-preserved : goal.loop-f-preserved
loop-f-preserved c =
    let a = c.args in
    let l = c.loop-f in
    let this = c.field_text.ensures in
    filled_more (text_at (sheet_of a.sheet.now) (truth a.marks.now)) l.f l.g c.field_text.result l.invariant (few c.before) this.0 this.1

pub returns : goal.returns
returns c =
    let a = c.args in
    let l = c.loop-f in
    filled_held a.sheet.now (truth a.marks.now) l.f l.g c.requires.0 (omega (arith, c.fields-fields.ensures)) l.invariant
