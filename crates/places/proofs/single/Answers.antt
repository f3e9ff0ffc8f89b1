-- `places::single` meets its contract. Assumes nothing.
use mathlib.Core.Path.{ap, ◌∙◌}
use mathlib.Core.Bool.{Bool}
use Prim.Native.Nat.{ℕ}
use lib.Dec.{eqb}
use lib.ListN.{length}
use borrow.Author.Rules.{rules}
use Rattle.model.specs.Lists.{all, up_to}
use Rattle.model.specs.Sheet.{sheet_of}
use Rattle.formula.specs.Assignment.{truth, true_values}
use Rattle.places.proofs.Laws.{every_is}
use Rattle.places.proofs.single.Goals as goal

pub returns : goal.returns
returns c =
    let a = c.args in
    let p : ℕ → Bool = λ k. eqb (length (true_values (sheet_of a.sheet.now) (truth a.marks.now) a.f k)) 1 in
    every_is p _ _ (λ t i l. let h = c.every.ensures.all t i l in search rules) (λ t. let k = c.every.ensures.fails t in (k.0, k.1, search rules))
    ∙ ap (λ n. all p (up_to n)) c.limit.ensures.0
