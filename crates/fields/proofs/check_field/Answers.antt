-- `fields::check_field` meets its contract. The loop's invariant: the places from c on leave what the whole field leaves. Assumes nothing.
use mathlib.Core.Path.{sym, ◌∙◌}
use Prim.Native.Nat.{◌+◌, ◌<◌}
use native.Mathlib.Omega.{arith}
use lib.ListN.{length, get_or}
use Rattle.model.proofs.Fillings.{text-long, text_starts, letter_stops, letter_goes, past_stops, past_goes, places_done}
use Rattle.fields.proofs.check_field.Goals as goal
use Rattle.fields.proofs.check_field.Goals.{then-c-from+else-x-letters, else-c-from+else-x}

pub returns-then-len-limit : goal.returns-then-len-limit
returns-then-len-limit c =
    let a = c.args in
    let b = a.bytes.now in
    sym (text-long a.letters a.limit b (omega arith) (omega arith))

pub loop-c-init : goal.loop-c-init
loop-c-init c =
    let a = c.args in
    let b = a.bytes.now in
    text_starts a.letters a.limit b (omega arith) (omega arith)

pub returns-then-x-letters : goal.returns-then-x-letters
returns-then-x-letters c =
    let at-loop = c.loop-c in
    let at-loop-test = c.loop-c-test in
    let a = c.args in
    sym (at-loop.invariant ∙ letter_stops a.letters (get_or a.bytes.now 0 0) 8 at-loop.c a.bytes.now at-loop-test.true (omega arith) (omega arith) c.if-x-letters.true)

pub returns-then-x : goal.returns-then-x
returns-then-x c =
    let at-loop = c.loop-c in
    let at-loop-test = c.loop-c-test in
    let a = c.args in
    sym (at-loop.invariant ∙ past_stops a.letters (get_or a.bytes.now 0 0) 8 at-loop.c a.bytes.now at-loop-test.true (omega arith) (omega arith) c.if-x.true)

pub loop-c-preserved : goal.loop-c-preserved
loop-c-preserved c =
    let at-loop = c.loop-c in
    let at-loop-test = c.loop-c-test in
    let a = c.args in
    let b = a.bytes.now in
    let n = get_or b 0 0 in
    let k = at-loop.c in
    let more = at-loop-test.true in
    let there : k + 1 < length b = omega arith in
    elim c.if-c-from.branch [
      | then-c-from+else-x-letters w ↦ (at-loop.invariant ∙ letter_goes a.letters n 8 k b more there (omega arith) w.if-x-letters.false)
      | else-c-from+else-x w ↦ (at-loop.invariant ∙ past_goes a.letters n 8 k b more there (omega arith) w.if-x.false)
    ]

pub returns : goal.returns
returns c =
    let at-loop = c.loop-c in
    let a = c.args in
    sym (at-loop.invariant ∙ places_done a.letters (get_or a.bytes.now 0 0) 8 at-loop.c a.bytes.now (omega arith))
