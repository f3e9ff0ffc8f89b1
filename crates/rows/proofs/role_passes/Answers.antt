-- `rows::role_passes` meets its contract: the test of each role. Assumes nothing.
use mathlib.Core.Path.{refl}
use Rattle.rows.proofs.role_passes.Goals as goal

pub returns-in-Letter : goal.returns-in-Letter
returns-in-Letter c = rw c.in-Letter.is c.letter_passes.ensures

pub returns-in-Limit : goal.returns-in-Limit
returns-in-Limit c = rw c.in-Limit.is refl

pub returns-in-SymbolCount : goal.returns-in-SymbolCount
returns-in-SymbolCount c = rw c.in-SymbolCount.is refl

pub returns-in-Symbol : goal.returns-in-Symbol
returns-in-Symbol c = rw c.in-Symbol.is c.symbol_passes.ensures

pub returns-in-Coefficient : goal.returns-in-Coefficient
returns-in-Coefficient c = rw c.in-Coefficient.is c.coefficient_passes.ensures
