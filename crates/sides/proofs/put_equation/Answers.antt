-- `sides::put_equation` meets its contract: two pieces, one after the other, are one piece. Assumes nothing.
use mathlib.Core.Path.{◌≡◌, ap₂, subst, ◌∙◌}
use mathlib.Core.List.{List, [], ◌∷◌, ◌++◌}
use Prim.Native.Nat.{ℕ, ◌+◌, ◌-◌, ◌≤◌}
use native.Mathlib.Omega.{arith}
use lib.ListN.{length, set, length-set}
use Rattle.model.specs.Lists.{Puts}
use Rattle.model.specs.Sheet.{sheet_of, equation}
use Rattle.model.proofs.Seams.{put_one, nothing, more}
use Rattle.trails.specs.Mirror.{template_cells}
use Rattle.sides.specs.Sides.{facing}
use Rattle.sides.proofs.put_equation.Goals as goal

two-pieces : (s b b' p q : List ℕ) (at middle end : ℕ) → Puts s at p b middle → Puts b middle q b' end → length b ≡ length s → length b' ≡ length b → at + length p + length q ≤ length s → Puts s at (p ++ q) b' end
two-pieces s b b' p q at middle end f h k l room =
    let one = more p b middle (nothing s at) f k (omega arith) in
    let both = more q b' end one h l room in
    (both.past, both.holds)

two-widths : (w : List ℕ) (k m n : ℕ) → k + 2 ≤ length w → Puts w k (m ∷ n ∷ []) (set (set w k m) (k + 1) n) (k + 2)
two-widths w k m n room =
    let one = length-set w k m in
    let two = two-pieces w (set w k m) (set (set w k m) (k + 1) n) (m ∷ []) (n ∷ []) k (k + 1) (k + 1 + 1) (put_one w k m (omega arith)) (put_one (set w k m) (k + 1) n (omega arith)) one (length-set (set w k m) (k + 1) n) (omega arith) in
    let e : k + 2 ≡ k + 1 + 1 = omega arith in
    (e ∙ two.0, two.1)

pub returns : goal.returns
returns c =
    let second = c.before.before.before in
    let first = second.before.before.before.before in
    let a = first.args in
    let s = sheet_of a.sheet.now in
    let left = template_cells s (facing a.back (equation s a.p).left) in
    let right = template_cells s (facing a.back (equation s a.p).right) in
    let middle = first.put_side-middle.result in
    let end = second.put_side-end.result in
    let one : Puts a.x.now a.there.cells left first.put_side-middle.new.x middle = first.put_side-middle.ensures.0 in
    let two : Puts first.put_side-middle.new.x middle right second.put_side-end.new.x end = second.put_side-end.ensures.0 in
    let k = a.there.widths in
    let last = set (set a.w.now k (middle - a.there.cells)) (k + 1) (end - middle) in
    let m : middle - a.there.cells ≡ length left = omega (arith, one.0) in
    let n : end - middle ≡ length right = omega (arith, two.0) in
    record {
      cells_put = two-pieces a.x.now first.put_side-middle.new.x second.put_side-end.new.x left right a.there.cells middle end one two first.put_side-middle.auto.x second.put_side-end.auto.x
          (omega (arith, one.0, two.0, first.requires.2));
      widths_put = subst (λ (ps : List ℕ). Puts a.w.now k ps last (k + 2)) (ap₂ (λ (x y : ℕ). x ∷ y ∷ []) m n) (two-widths a.w.now k (middle - a.there.cells) (end - middle) first.requires.3);
      few_cells = omega arith;
    }
