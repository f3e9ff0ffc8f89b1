-- `numbering::lowest` meets its contract: by the coefficient's sign. Assumes nothing.
use mathlib.Core.Path.{◌≡◌, refl, ◌∙◌}
use mathlib.Core.Bool.{true}
use Prim.Native.Nat.{ℕ}
use native.Mathlib.Omega.{arith}
use lib.IntN.{ℤ, pos, negsuc, ◌*ℤ◌}
use lib.Signed.{lt_z}
use mir.Syntax.{w8}
use borrow.Author.Tests.{ltb-true}
use Rattle.formula.specs.Clause.{lowest}
use Rattle.scan.proofs.Machine.{small_back}
use Rattle.scan.proofs.Terms.{product_back}
use Rattle.numbering.proofs.lowest.Goals as goal

negative-lowest : (c : ℤ) (n : ℕ) → lt_z c (pos 0) ≡ true → c *ℤ pos n ≡ lowest c n
negative-lowest (pos a) n h = let k = ltb-true a 0 h in absurd (omega arith)
negative-lowest (negsuc a) n h = refl

pub returns-then-c-lt0 : goal.returns-then-c-lt0
returns-then-c-lt0 c =
    let back = small_back w8 c.args.c (omega (arith, c.requires.0)) in
    rw c.from.ensures (product_back c.args.c c.args.n c.requires.0 c.requires.1 ∙ negative-lowest c.args.c c.args.n (rw back at c.if-c-lt0.true))
