-- `question::find` meets its contract: the asked equations are expanded, and reversed too, the rows say what is asked of the lengths, and the first vector
-- at which both hold is an answer, before which none comes if the first is asked for. Assumes nothing.
use mathlib.Core.Path.{◌≡◌, sym, subst, ◌∙◌}
use mathlib.Core.Bool.{true, false}
use mathlib.Core.List.{List, map}
use Prim.Native.Nat.{ℕ, ◌≤◌}
use native.Mathlib.Omega.{arith}
use lib.ListN.{length, take}
use lib.Seq.{length-take-le}
use Rattle.model.specs.Sheet.{sheet_of}
use Rattle.walk.specs.Walk.{Cells}
use Rattle.trails.specs.Equations.{Equation, equations, cell_total}
use Rattle.inequalities.specs.Asked.{asked}
use Rattle.inequalities.specs.Rows.{Within}
use Rattle.inequalities.proofs.Asked.{asked_in}
use Rattle.inequalities.proofs.Agreement.{gathered_agrees}
use Rattle.boxes.specs.Vectors.{Order, First, try_of}
use Rattle.trails.specs.Mirror.{sides_of, mirror_sides}
use Rattle.sides.specs.Sides.{flat_cells, widths}
use Rattle.sides.proofs.Flat.{equations_again, total-widths, facing-widths, flat-cells}
use Rattle.question.proofs.Right.{first_finds}
use Rattle.question.proofs.Twins.{asked_twins}
use Rattle.question.proofs.find.Goals as goal

-- what is lent of expanded equations
module _ (es : List Equation) (x w : List ℕ) (cells_are : x ≡ flat_cells es) (widths_are : w ≡ widths es) where
  lent-equations : equations x w ≡ es
  lent-equations = rw (cells_are, widths_are) (equations_again es)

  lent-room : cell_total w ≤ length x
  lent-room = let e = total-widths es in rw (cells_are, widths_are) (omega arith)

pub first-requires : goal.first-requires
first-requires c =
    let m = sheet_of c.args.sheet.now in
    let p = c.requires in
    let ask = c.args.ask in
    let ahead = c.put_equations-ahead in
    let behind = c.put_equations-behind in
    let gather = c.gather-count in
    let questions = asked ask.equations m.equations in
    let es = map (sides_of m) questions in
    let back = map (mirror_sides m) questions in
    let x = take ahead.result.cells ahead.new.x in
    let y = take behind.result.cells behind.new.x in
    let w = take behind.result.widths behind.new.w in
    let in_range = asked_in _ ask.equations m.equations p.0.1.equations_in in
    let widths-ahead = behind.ensures.widths_are ∙ facing-widths m true questions in
    let few = length-take-le behind.result.widths behind.new.w (omega (arith, behind.auto.w, behind.ensures.few_widths)) in (
      record {
        cells = subst Cells (sym ahead.ensures.cells_are) (flat-cells m p.0.1 false questions in_range);
        cells_too = subst Cells (sym behind.ensures.cells_are) (flat-cells m p.0.1 true questions in_range);
        room = lent-room es x w ahead.ensures.cells_are widths-ahead;
        room_too = lent-room back y w behind.ensures.cells_are behind.ensures.widths_are;
        few = omega (arith, few, behind.ensures.few_widths);
        rows_room = omega (arith, gather.ensures.few, gather.auto);
      },
      p.1.ranges,
      rw (lent-equations es x w ahead.ensures.cells_are widths-ahead, lent-equations back y w behind.ensures.cells_are behind.ensures.widths_are)
          (asked_twins m p.0.1 ask p.1 questions in_range),
    )

pub returns : goal.returns
returns c =
    let m = sheet_of c.args.sheet.now in
    let p = c.requires in
    let ask = c.args.ask in
    let ahead = c.put_equations-ahead in
    let behind = c.put_equations-behind in
    let gather = c.gather-count in
    let questions = asked ask.equations m.equations in
    let es = map (sides_of m) questions in
    let x = take ahead.result.cells ahead.new.x in
    let w = take behind.result.widths behind.new.w in
    let widths-ahead = behind.ensures.widths_are ∙ facing-widths m true questions in
    let rows = gather.new.rows in
    first_finds c.args.sheet.now p.0 ask p.1 rows gather.result
    (λ g legal. gathered_agrees m p.0.1 g ask.equations ask.constraints _ rows gather.result gather.ensures)
    c.args.first c.first.result
    (subst (λ (q : List Equation). First (try_of q rows gather.result) (Within ask.ranges.lo ask.ranges.hi) (Order c.args.first) c.first.result)
    (lent-equations es x w ahead.ensures.cells_are widths-ahead) c.first.ensures)
