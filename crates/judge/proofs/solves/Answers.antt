-- `judge::solves` meets its contract: what the substitution comes to is a solution, or is none. Assumes nothing.
use Rattle.model.specs.Sheet.{sheet_of}
use Rattle.fields.specs.Memory.{meaning}
use Rattle.judge.proofs.Solved.{unsolved}
use Rattle.judge.proofs.solves.Goals as goal

pub returns-in_default : goal.returns-in_default
returns-in_default c = unsolved (sheet_of c.args.sheet.now) (meaning c.args.sheet.now c.args.g) c.judge.result c.judge.ensures c.in_default.not-Solution
