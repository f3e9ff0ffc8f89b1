-- `dimacs::problem_line` meets its contract: five pieces, one after another. Assumes nothing.
use mathlib.Core.Path.{refl}
use mathlib.Core.List.{List, [], ◌∷◌}
use Prim.Native.Nat.{ℕ}
use native.Mathlib.Omega.{arith}
use Rattle.formula.specs.Dimacs.{decimal, problem_line}
use Rattle.model.proofs.Writing.{Writing, joined, begin, fits, next, ends}
use Rattle.dimacs.proofs.problem_line.Goals as goal
use Rattle.dimacs.proofs.problem_line.Lts as lts
use Rattle.dimacs.proofs.problem_line.Reads as reads
use Rattle.dimacs.proofs.problem_line.Tie as tie

-- what is still to be written: all five pieces, four, three, two, one
module _ (c : lts.Start tie.the-claims reads.Pre reads.Post) where
  abbrev Still : List ℕ → List (List ℕ) → List ℕ → ℕ → Type 0
  Still = Writing c.args.buf.now 0 (problem_line c.args.variables c.args.clauses)

  abbrev One : List ℕ → ℕ → Type 0
  One = Still (10 ∷ []) []

  abbrev Two : List ℕ → ℕ → Type 0
  Two = Still (decimal c.args.clauses) ((10 ∷ []) ∷ [])

  abbrev Three : List ℕ → ℕ → Type 0
  Three = Still (32 ∷ []) (decimal c.args.clauses ∷ (10 ∷ []) ∷ [])

  abbrev Four : List ℕ → ℕ → Type 0
  Four = Still (decimal c.args.variables) ((32 ∷ []) ∷ decimal c.args.clauses ∷ (10 ∷ []) ∷ [])

  abbrev mark : List ℕ
  mark = 112 ∷ 32 ∷ 99 ∷ 110 ∷ 102 ∷ 32 ∷ []

  five : Still mark (decimal c.args.variables ∷ (32 ∷ []) ∷ decimal c.args.clauses ∷ (10 ∷ []) ∷ []) c.args.buf.now 0
  unfolding problem_line joined
  five = begin c.args.buf.now 0 _ _ _ refl (omega (arith, c.requires))

-- the place past each piece, from that past the next one
abbrev start : lts.After-put tie.the-claims reads.Pre reads.Post → lts.Start tie.the-claims reads.Pre reads.Post
start c = c.before.before.before.before.before

abbrev marked : lts.After-print tie.the-claims reads.Pre reads.Post → lts.After-put tie.the-claims reads.Pre reads.Post
marked c = c.before.before.before.before

abbrev counted : lts.After-put2 tie.the-claims reads.Pre reads.Post → lts.After-print tie.the-claims reads.Pre reads.Post
counted c = c.before.before.before.before.before.before

abbrev spaced : lts.After-print2 tie.the-claims reads.Pre reads.Post → lts.After-put2 tie.the-claims reads.Pre reads.Post
spaced c = c.before.before.before.before

four : (c : lts.After-put tie.the-claims reads.Pre reads.Post) → Four (start c) c.put-a.new.buf c.put-a.result
four c = next (five (start c)) c.put-a.ensures c.put-a.auto.buf

three : (c : lts.After-print tie.the-claims reads.Pre reads.Post) → Three (start (marked c)) c.print-b.new.buf c.print-b.result
three c = next (four (marked c)) c.print-b.ensures c.print-b.auto.buf

two : (c : lts.After-put2 tie.the-claims reads.Pre reads.Post) → Two (start (marked (counted c))) c.put-c.new.buf c.put-c.result
two c = next (three (counted c)) c.put-c.ensures c.put-c.auto.buf

one : (c : lts.After-print2 tie.the-claims reads.Pre reads.Post) → One (start (marked (counted (spaced c)))) c.print-d.new.buf c.print-d.result
one c = next (two (spaced c)) c.print-d.ensures c.print-d.auto.buf

pub put-a-requires : goal.put-a-requires
put-a-requires c = fits (five c.before.before.before.before)

pub print-b-requires : goal.print-b-requires
print-b-requires c = fits (four c.before.before.before)

pub put-c-requires : goal.put-c-requires
put-c-requires c = fits (three c.before.before.before.before.before)

pub print-d-requires : goal.print-d-requires
print-d-requires c = fits (two c.before.before.before)

pub put-requires : goal.put-requires
put-requires c = fits (one c.before.before.before.before.before)

pub returns : goal.returns
returns c =
    ends _ _ (one c.before.before.before.before.before.before.before.before.before) c.put.ensures c.put.auto.buf
