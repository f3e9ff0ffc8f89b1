-- `words::put_letters` meets its contract. The loop's invariant: the first i letters are in their place. Assumes nothing.
use mathlib.Core.Path.{◌≡◌, refl, ap, ◌∙◌}
use mathlib.Core.List.{List}
use Prim.Native.Nat.{ℕ, ◌+◌, ◌<◌}
use native.Mathlib.Numerals.{add-one}
use native.Mathlib.Omega.{arith}
use lib.ListN.{length, get_or, set, length-set, length-map, get_or-map}
use lib.Seq.{paste, paste-zero, paste-suc}
use Rattle.model.specs.Sheet.{Sheet, sheet_of, letter_of}
use Rattle.model.specs.Word.{letter_bytes}
use Rattle.model.proofs.Lists.{at}
use Rattle.model.proofs.Seams.{placed_paste}
use Rattle.words.proofs.put_letters.Goals as goal

-- one letter more
turn : (s : Sheet) (d : List ℕ) (at : ℕ) (w : List ℕ) (i : ℕ) → at + i < length d → i < length w → set (paste d at (letter_bytes s w) i) (at + i) (letter_of s (get_or w i 0)) ≡ paste d at (letter_bytes s w) (i + 1)
turn s d at w i room more =
    let n : i < length (letter_bytes s w) = omega (arith, length-map w (letter_of s)) in
    rw (add-one, ← get_or-map (letter_of s) w i 0) (paste-suc d at (letter_bytes s w) i (letter_of s 0) room n)

pub loop-i-init : goal.loop-i-init
loop-i-init c =
    (refl, paste-zero c.args.buf.now c.args.at (letter_bytes (sheet_of c.args.sheet.now) c.args.word.now))

pub letter-requires : goal.letter-requires
letter-requires c =
    let at-loop = c.loop-i in
    let at-loop-test = c.loop-i-test in
    let a = c.args in
    let small = at (λ x. x < length (sheet_of a.sheet.now).letters) a.word.now at-loop.i 0 c.requires.1 at-loop-test.true in
    (c.requires.0, omega arith)

pub loop-i-preserved : goal.loop-i-preserved
loop-i-preserved c =
    let at-loop = c.loop-i in
    let at-loop-test = c.loop-i-test in
    let a = c.args in
    let l = at-loop in
    let e = c.letter.ensures ∙ ap (letter_of (sheet_of a.sheet.now)) c.from.ensures in
    (simp length-set l.invariant.0, rw (l.invariant.1, e) (turn (sheet_of a.sheet.now) a.buf.now a.at a.word.now l.i (omega arith) at-loop-test.true))

pub shape_of-buf : goal.shape_of-buf
shape_of-buf c = c.loop-i.invariant.0

pub returns : goal.returns
returns c =
    let a = c.args in
    let w = letter_bytes (sheet_of a.sheet.now) a.word.now in
    let n = length-map a.word.now (letter_of (sheet_of a.sheet.now)) in
    let e : c.loop-i.i ≡ length w = omega arith in
    (omega arith, c.loop-i.invariant.1 ∙ rw e (placed_paste a.buf.now w a.at))
