-- `size_line::literal_size` meets its contract. Assumes nothing.
use mathlib.Core.Path.{sym, ap, ◌∙◌}
use native.Mathlib.Omega.{arith}
use Rattle.dimacs.specs.Codes.{code_size}
use Rattle.dimacs.proofs.Sizes.{no_size, code_size_lem}
use Rattle.size_line.proofs.literal_size.Goals as goal

pub returns-then-code-eq0 : goal.returns-then-code-eq0
returns-then-code-eq0 c = (sym (ap code_size c.if-code-eq0.true ∙ no_size), omega arith)

pub returns : goal.returns
returns c =
    let size = code_size_lem c.args.code c.if-code-eq0.false in
    (omega (arith, c.figures.ensures.0), omega (arith, c.figures.ensures.1))
