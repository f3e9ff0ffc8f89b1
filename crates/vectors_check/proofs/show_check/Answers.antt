-- `vectors_check::show_check` meets its contract: a filling that solves its sheet checks as a clash. Assumes nothing.
use Rattle.std.proofs.Common.{sym, ap, ◌∙◌}
use Rattle.calls.specs.Calls.{finished, judgement_values}
use Rattle.judge.specs.Answer.{meant}
use Rattle.substitution.specs.Answer.{checked}
use Rattle.vectors_check.proofs.show_check.Goals as goal

pub show_report-requires : goal.show_report-requires
show_report-requires g c = sym c.check.ensures ∙ ap checked c.in-Ok-Solution.is ∙ ap (λ j. finished (judgement_values (meant j))) c.in-Ok-Solution.field-0-is
