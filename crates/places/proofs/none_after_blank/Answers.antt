-- `places::none_after_blank` meets its contract. Assumes nothing.
use mathlib.Core.Path.{ap, ◌∙◌}
use mathlib.Core.Bool.{Bool}
use mathlib.Core.List.{map}
use Prim.Native.Nat.{ℕ}
use borrow.Author.Rules.{rules}
use Rattle.model.specs.Lists.{all, up_to}
use Rattle.model.specs.Sheet.{limit, sheet_of}
use Rattle.formula.specs.Clause.{blank}
use Rattle.formula.specs.Assignment.{truth, held}
use Rattle.calls.specs.Reply.{blanks_last, none_after_blank}
use Rattle.places.proofs.Laws.{every_is}
use Rattle.places.proofs.none_after_blank.Goals as goal

pub returns : goal.returns
unfolding none_after_blank
returns c =
    let a = c.args in
    let p : ℕ → Bool = λ f. blanks_last (blank (sheet_of a.sheet.now)) (map (held (sheet_of a.sheet.now) (truth a.marks.now) f) (up_to (limit (sheet_of a.sheet.now) f))) in
    every_is p _ _ (λ t i l. let h = c.every.ensures.all t i l in search rules) (λ t. let k = c.every.ensures.fails t in (k.0, k.1, search rules))
    ∙ ap (λ n. all p (up_to n)) c.fields.ensures
