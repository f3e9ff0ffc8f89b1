-- `sums::put_constraint` meets its contract: three pieces. Assumes nothing.
use mathlib.Core.Path.{refl}
use mathlib.Core.List.{List, [], ◌∷◌}
use Prim.Native.Nat.{ℕ}
use Rattle.model.specs.Lists.{each, up_to}
use Rattle.model.specs.Sheet.{Sheet, sheet_of}
use Rattle.formula.specs.Clause.{Zero, fields}
use Rattle.model.proofs.Writing.{Writing, joined, begin, fits, next, ends}
use Rattle.literals.specs.Name.{line_of}
use Rattle.sums.specs.Lines.{step_lines, bound_lines, constraint_lines}
use Rattle.sums.proofs.put_constraint.Goals as goal
use Rattle.sums.proofs.put_constraint.Lts as lts
use Rattle.sums.proofs.put_constraint.Reads as reads
use Rattle.sums.proofs.put_constraint.Tie as tie

-- the pieces, and what is still to be written of them
module _ (start : lts.Start tie.the-claims reads.Pre reads.Post) where
  abbrev s : Sheet
  s = sheet_of start.args.sheet.now

  abbrev steps : List ℕ
  steps = each (up_to (fields s)) (step_lines s start.args.r)

  abbrev Still : List ℕ → List (List ℕ) → List ℕ → ℕ → Type 0
  Still = Writing start.args.buf.now start.args.at (constraint_lines s start.args.r)

  begun : Still (line_of s (Zero start.args.r)) (steps ∷ bound_lines s start.args.r ∷ []) start.args.buf.now start.args.at
  unfolding joined constraint_lines
  begun = begin _ _ _ _ _ refl start.requires.2

abbrev start_of : lts.After-put_clause tie.the-claims reads.Pre reads.Post → lts.Start tie.the-claims reads.Pre reads.Post
start_of c = c.before.before.before.before

after-zero : (c : lts.After-put_clause tie.the-claims reads.Pre reads.Post) → Still (start_of c) (steps (start_of c)) (bound_lines (s (start_of c)) (start_of c).args.r ∷ []) c.put_clause-zero.new.buf c.put_clause-zero.result
after-zero c = next (begun (start_of c)) c.put_clause-zero.ensures c.put_clause-zero.auto.buf

abbrev zero_of : lts.After-put_steps tie.the-claims reads.Pre reads.Post → lts.After-put_clause tie.the-claims reads.Pre reads.Post
zero_of c = c.before.before.before.before

after-steps : (c : lts.After-put_steps tie.the-claims reads.Pre reads.Post) → Still (start_of (zero_of c)) (bound_lines (s (start_of (zero_of c))) (start_of (zero_of c)).args.r) [] c.put_steps-steps.new.buf c.put_steps-steps.result
after-steps c = next (after-zero (zero_of c)) c.put_steps-steps.ensures c.put_steps-steps.auto.buf

pub put_clause-zero-requires : goal.put_clause-zero-requires
put_clause-zero-requires c =
    (c.requires.0, c.requires.1, fits (begun c.before.before.before.before))

pub put_steps-steps-requires : goal.put_steps-steps-requires
put_steps-steps-requires c =
    let start = start_of c.before.before.before.before in
    (start.requires.0, start.requires.1, fits (after-zero c.before.before.before.before))

pub put_bounds-requires : goal.put_bounds-requires
put_bounds-requires c =
    let start = start_of (zero_of c.before.before.before.before) in
    (start.requires.0, start.requires.1, fits (after-steps c.before.before.before.before))

pub returns : goal.returns
returns c =
    ends _ _ (after-steps c.before.before.before.before.before.before.before) c.put_bounds.ensures c.put_bounds.auto.buf
