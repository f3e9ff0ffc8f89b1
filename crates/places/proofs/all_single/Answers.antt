-- `places::all_single` meets its contract. Assumes nothing.
use mathlib.Core.Path.{ap, ◌∙◌}
use mathlib.Core.Bool.{Bool}
use Prim.Native.Nat.{ℕ}
use lib.Dec.{eqb}
use lib.ListN.{length}
use borrow.Author.Rules.{rules}
use Rattle.model.specs.Lists.{all, up_to}
use Rattle.model.specs.Sheet.{limit, sheet_of}
use Rattle.formula.specs.Assignment.{truth, true_values}
use Rattle.calls.specs.Reply.{all_single}
use Rattle.places.proofs.Laws.{every_is}
use Rattle.places.proofs.all_single.Goals as goal

pub returns : goal.returns
unfolding all_single
returns c =
    let a = c.args in
    let p : ℕ → Bool = λ f. all (λ k. eqb (length (true_values (sheet_of a.sheet.now) (truth a.marks.now) f k)) 1) (up_to (limit (sheet_of a.sheet.now) f)) in
    every_is p _ _ (λ t i l. let h = c.every.ensures.all t i l in search rules) (λ t. let k = c.every.ensures.fails t in (k.0, k.1, search rules))
    ∙ ap (λ n. all p (up_to n)) c.fields.ensures
