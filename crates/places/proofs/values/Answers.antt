-- `places::values` meets its contract. The loop runs down: the values from a on have been counted, and the least of them noted. Assumes nothing.
use Prim.Native.Nat.{◌-◌}
use native.Mathlib.Omega.{arith}
use Rattle.model.specs.Sheet.{sheet_of}
use Rattle.formula.proofs.Small.{letters-few}
use Rattle.places.proofs.Laws.{is_true, in_marks, is_true_lem, is_false, counted_start, counted-yes, counted-no, counted-all}
use Rattle.places.proofs.values.Goals as goal

pub letters-blank-requires : goal.letters-blank-requires
letters-blank-requires c =
    c.requires.0.0

pub place_number-first-requires : goal.place_number-first-requires
place_number-first-requires c =
    (c.requires.0.0, ((c.requires.1, c.requires.2), omega arith))

pub overflow_step-a : goal.overflow_step-a
overflow_step-a c =
    omega (arith, c.letters-blank.ensures, letters-few (sheet_of c.args.sheet.now) c.requires.0.0.1)

pub loop-a-init : goal.loop-a-init
loop-a-init c =
    let a = c.args in
    counted_start (is_true (sheet_of a.sheet.now) a.marks.now a.f a.c) c.letters-blank.result

pub bounds-marks-first : goal.bounds-marks-first
bounds-marks-first c =
    let at-loop = c.loop-a in
    let a = c.args in
    in_marks (sheet_of a.sheet.now) a.marks.now a.f a.c c.place_number-first.result (at-loop.a - 1) c.place_number-first.ensures.0
    c.requires.0.1 c.requires.1 c.requires.2 (omega (arith, c.letters-blank.ensures, at-loop.invariant.inside))

pub loop-a-preserved-then-marks-first-eq-PLUS : goal.loop-a-preserved-then-marks-first-eq-PLUS
loop-a-preserved-then-marks-first-eq-PLUS c =
    let l = c.loop-a in
    let a = c.args in
    let s = sheet_of a.sheet.now in
    let n = c.place_number-first in
    counted-yes (is_true s a.marks.now a.f a.c) c.letters-blank.result l.a l.count l.least l.invariant c.loop-a-test.true
    (is_true_lem s a.marks.now a.f a.c n.result (l.a - 1) n.ensures.0 c.if-marks-first-eq-PLUS.true)

pub loop-a-preserved : goal.loop-a-preserved
loop-a-preserved c =
    let l = c.loop-a in
    let a = c.args in
    let s = sheet_of a.sheet.now in
    let n = c.place_number-first in
    counted-no (is_true s a.marks.now a.f a.c) c.letters-blank.result l.a l.count l.least l.invariant c.loop-a-test.true
    (is_false s a.marks.now a.f a.c n.result (l.a - 1) n.ensures.0 c.if-marks-first-eq-PLUS.false)

pub returns : goal.returns
returns c =
    let l = c.loop-a in
    let a = c.args in
    let b = c.letters-blank in
    counted-all (sheet_of a.sheet.now) a.marks.now a.f a.c b.result l.a l.count l.least b.ensures (omega arith) l.invariant
