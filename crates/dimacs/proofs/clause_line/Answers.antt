-- `dimacs::clause_line` meets its contract: the literals, and then the end of the line. Assumes nothing.
use mathlib.Core.Path.{refl}
use mathlib.Core.List.{List, [], ◌∷◌}
use Prim.Native.Nat.{ℕ}
use native.Mathlib.Omega.{arith}
use Rattle.model.specs.Lists.{each}
use Rattle.dimacs.specs.Codes.{code_bytes, codes_line}
use Rattle.model.proofs.Writing.{Writing, joined, begin, fits, next, ends}
use Rattle.dimacs.proofs.clause_line.Goals as goal
use Rattle.dimacs.proofs.clause_line.Lts as lts
use Rattle.dimacs.proofs.clause_line.Reads as reads
use Rattle.dimacs.proofs.clause_line.Tie as tie

-- what is still to be written: both pieces, and the second
module _ (c : lts.Start tie.the-claims reads.Pre reads.Post) where
  abbrev Still : List ℕ → List (List ℕ) → List ℕ → ℕ → Type 0
  Still = Writing c.args.buf.now c.args.at (codes_line c.args.codes.now)

  both : Still (each c.args.codes.now code_bytes) ((48 ∷ 10 ∷ []) ∷ []) c.args.buf.now c.args.at
  unfolding codes_line joined
  both = begin c.args.buf.now c.args.at _ _ _ refl (omega (arith, c.requires))

second : (c : lts.After-put_literals tie.the-claims reads.Pre reads.Post)
    → Still c.before.before.before.before (48 ∷ 10 ∷ []) [] c.put_literals-past.new.buf c.put_literals-past.result
second c = next (both c.before.before.before.before) c.put_literals-past.ensures c.put_literals-past.auto.buf

pub put_literals-past-requires : goal.put_literals-past-requires
put_literals-past-requires c = let here = fits (both c.before.before.before.before) in omega arith

pub put-requires : goal.put-requires
put-requires c = fits (second c.before.before.before.before.before.before)

pub returns : goal.returns
returns c =
    ends _ _ (second c.before.before.before.before.before.before.before.before.before) c.put.ensures c.put.auto.buf
