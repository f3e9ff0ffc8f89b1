-- `literals::add` meets its contract. Assumes nothing.
use mathlib.Core.Path.{◌≡◌, ap, ◌∙◌}
use Prim.Native.Nat.{suc, ◌+◌, ◌*◌}
use native.Mathlib.Omega.{arith}
use lib.IntN.{ℤ, pos, ◌+ℤ◌, ◌*ℤ◌}
use mir.Syntax.{w16}
use mir.Val.{to_z, of_z}
use Rattle.model.specs.Sheet.{Sheet, Constraint, sheet_of, constraint, coefficient}
use Rattle.formula.specs.Clause.{T, terms}
use Rattle.formula.specs.Numbering.{SumIn, number}
use Rattle.formula.proofs.Integers.{sum_next}
use Rattle.numbering.proofs.Laws.{sum_back}
use Rattle.codes.specs.Nine.{nine}
use Rattle.codes.proofs.Laws.{same-nine}
use Rattle.literals.proofs.add.Goals as goal
use Rattle.literals.proofs.add.Lts as lts
use Rattle.literals.proofs.add.Reads as reads
use Rattle.literals.proofs.add.Tie as tie

-- the sum at hand, and that with field k added, which is one of those that are numbered too
module _ (start : lts.Start tie.the-claims reads.Pre reads.Post) where
  abbrev s : Sheet
  s = sheet_of start.args.sheet.now

  abbrev rule : Constraint
  rule = constraint s start.args.r

  abbrev more : ℤ
  more = coefficient rule start.args.k *ℤ pos start.args.d

  here_back : to_z w16 (of_z w16 start.args.n) ≡ start.args.n
  here_back = sum_back s start.requires.0.1 start.args.r start.args.k start.requires.1.0 (omega (arith, start.requires.1.1)) start.args.n start.requires.1.2

  in-sums : SumIn s rule (suc start.args.k) (start.args.n +ℤ more)
  in-sums = sum_next s rule start.args.k start.args.n start.args.d start.requires.1.2 start.requires.1.3

  next-back : to_z w16 (of_z w16 (start.args.n +ℤ more)) ≡ start.args.n +ℤ more
  next-back = sum_back s start.requires.0.1 start.args.r (suc start.args.k) start.requires.1.0 (omega (arith, start.requires.1.1)) (start.args.n +ℤ more) in-sums

abbrev start_of : lts.After-sum_with tie.the-claims reads.Pre reads.Post → lts.Start tie.the-claims reads.Pre reads.Post
start_of c = c.before.before.before.before.before

next-is : (c : lts.After-sum_with tie.the-claims reads.Pre reads.Post) → to_z w16 (of_z w16 c.sum_with.result) ≡ (start_of c).args.n +ℤ more (start_of c)
next-is c =
    let start = start_of c in
    ap (λ m. to_z w16 (of_z w16 m)) (c.sum_with.ensures ∙ ap (λ m. m +ℤ more start) (here_back start)) ∙ next-back start

pub sum_code-next-requires : goal.sum_code-next-requires
sum_code-next-requires c =
    let start = start_of c.before in
    let e : start.args.k + 1 ≡ suc start.args.k = omega arith in
    rw (next-is c.before, e) (start.requires.0, (start.requires.1.0, omega (arith, start.requires.1.1), in-sums start))

pub returns : goal.returns
unfolding nine terms
returns c =
    let start = start_of c.before.before in
    let at-sum-code = c.sum_code-here in
    let at-shorter = c.shorter-short in
    let at-longer = c.longer-long in
    let a = start.args in
    let e : a.k + 1 ≡ suc a.k = omega arith in
    let here = ap (λ z. 2 * number (s start) (T a.r a.k z) + 1) (here_back start) in
    let next = ap (λ z. number (s start) (T a.r (a.k + 1) z)) (next-is c.before.before) ∙ ap (λ k. number (s start) (T a.r k (a.n +ℤ more start))) e in
    same-nine (at-sum-code.ensures ∙ here) at-shorter.ensures at-longer.ensures (omega (arith, c.sum_code-next.ensures))
