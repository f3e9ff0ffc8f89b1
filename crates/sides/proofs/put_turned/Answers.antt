-- `sides::put_turned` meets its contract. The loop's invariant: the cells from i on have been written, the last one first. Assumes nothing.
use mathlib.Core.Path.{◌≡◌, sym, ap, subst, ◌∙◌}
use mathlib.Core.List.{List, [], ◌∷◌, ◌++◌, map, reverse, reverse-cons}
use Prim.Native.Nat.{ℕ, suc, ◌+◌, ◌-◌, ◌<◌, ◌≤◌}
use native.Mathlib.Omega.{arith}
use lib.ListN.{length, get_or, drop, set, length-set}
use lib.Seq.{drop-cons}
use Rattle.model.specs.Sheet.{sheet_of}
use Rattle.model.proofs.Lists.{at}
use Rattle.model.proofs.Keeping.{map-append}
use Rattle.model.proofs.Seams.{Written, more, put_one}
use Rattle.sides.specs.Reversal.{ByteIn, turned_byte}
use Rattle.sides.proofs.put_turned.Goals as goal

-- one turn: cell i - 1 goes behind those that are written
module _ (T : ℕ → ℕ) (piece : List ℕ) (i : ℕ) (some : 0 < i) (inside : i ≤ length piece) where
  abbrev here : ℕ
  here = get_or piece (i - 1) 0

  grown : map T (reverse (drop (i - 1) piece)) ≡ map T (reverse (drop i piece)) ++ (T here ∷ [])
  grown =
      let e : suc (i - 1) ≡ i = omega arith in
      ap (λ (z : List ℕ). map T (reverse z)) (drop-cons piece (i - 1) 0 (omega arith) ∙ ap (λ k. here ∷ drop k piece) e)
      ∙ ap (map T) (reverse-cons here (drop i piece))
      ∙ map-append T (reverse (drop i piece)) (here ∷ [])

  turn : (x₀ x : List ℕ) (start end : ℕ) → Written x₀ start (map T (reverse (drop i piece))) x end → end < length x₀ → Written x₀ start (map T (reverse (drop (i - 1) piece))) (set x end (T here)) (end + 1)
  turn x₀ x start end w room =
      subst (λ (z : List ℕ). Written x₀ start z (set x end (T here)) (end + 1)) (sym grown)
      (more (T here ∷ []) (set x end (T here)) (end + 1) w (put_one x end (T here) (omega (arith, w.long))) (length-set x end (T here)) (omega (arith, w.past)))

pub turned-requires : goal.turned-requires
turned-requires c =
    let s = sheet_of c.args.sheet.now in
    (c.requires.0, at (ByteIn s) c.args.piece.now (c.loop-i.i - 1) 0 c.requires.1 (omega arith))

pub loop-i-preserved : goal.loop-i-preserved
loop-i-preserved c =
    let a = c.args in
    let l = c.loop-i in
    (omega arith, rw c.turned.ensures (turn (turned_byte (sheet_of a.sheet.now)) a.piece.now l.i c.loop-i-test.true (omega arith) a.x.now l.x a.at l.end l.invariant.1 (omega (arith, c.requires.2))))
