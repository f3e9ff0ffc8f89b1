-- `book_question::put_numbered` meets its contract. The loop's invariant: the first i symbols are in their place. Assumes nothing.
use mathlib.Core.Path.{◌≡◌, ◌∙◌}
use mathlib.Core.List.{List, map}
use Prim.Native.Nat.{ℕ, ◌+◌, ◌<◌}
use native.Mathlib.Numerals.{add-one}
use native.Mathlib.Omega.{arith}
use lib.ListN.{length, get_or, set, length-map, get_or-map}
use lib.Seq.{paste, paste-zero, paste-suc}
use Rattle.model.proofs.Lists.{at}
use Rattle.model.proofs.Seams.{placed_paste}
use Rattle.book_question.specs.Bytes.{numbered}
use Rattle.book_question.proofs.put_numbered.Goals as goal

-- one symbol more
turn : (n : ℕ) (d : List ℕ) (at : ℕ) (w : List ℕ) (i : ℕ) → at + i < length d → i < length w → set (paste d at (map (numbered n) w) i) (at + i) (numbered n (get_or w i 0)) ≡ paste d at (map (numbered n) w) (i + 1)
turn n d at w i room more =
    let m : i < length (map (numbered n) w) = omega (arith, length-map w (numbered n)) in
    rw (add-one, ← get_or-map (numbered n) w i 0) (paste-suc d at (map (numbered n) w) i (numbered n 0) room m)

pub loop-i-init : goal.loop-i-init
loop-i-init c =
    let a = c.args in
    paste-zero a.buf.now a.at (map (numbered a.n) a.symbols.now)

pub numbered_after-requires : goal.numbered_after-requires
numbered_after-requires c =
    let small = at (λ x. x < 128 + 3) c.args.symbols.now c.loop-i.i 0 c.requires.1 c.loop-i-test.true in
    omega arith

pub loop-i-preserved : goal.loop-i-preserved
loop-i-preserved c =
    let l = c.loop-i in
    let a = c.args in
    rw (l.invariant, c.numbered_after.ensures) (turn a.n a.buf.now a.at a.symbols.now l.i (omega arith) c.loop-i-test.true)

pub returns : goal.returns
returns c =
    let a = c.args in
    let w = map (numbered a.n) a.symbols.now in
    let n = length-map a.symbols.now (numbered a.n) in
    let e : c.loop-i.i ≡ length w = omega arith in
    (omega arith, c.loop-i.invariant ∙ rw e (placed_paste a.buf.now w a.at))
