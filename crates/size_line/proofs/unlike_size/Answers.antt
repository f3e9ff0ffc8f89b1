-- `size_line::unlike_size` meets its contract. Assumes nothing.
use mathlib.Core.Path.{ap₂, sym, ◌∙◌}
use Prim.Native.Nat.{◌+◌, ◌*◌}
use native.Mathlib.Omega.{arith}
use Rattle.size_line.proofs.Laws.{unlike_lines, most}
use Rattle.size_line.proofs.unlike_size.Goals as goal

pub overflow_mul-result : goal.overflow_mul-result
overflow_mul-result c = omega (arith, c.requires.2, most c.args.n (c.literal_size.result + 2) 9 (omega (arith, c.literal_size.ensures.1)))

pub overflow_add-result-2 : goal.overflow_add-result-2
overflow_add-result-2 c = omega (arith, c.requires.2, c.literals_size.ensures.1, most c.args.n (c.literal_size.result + 2) 9 (omega (arith, c.literal_size.ensures.1)))

pub returns : goal.returns
returns c =
    let a = c.args in
    let this = ap₂ (λ w z. a.n * (w + 2) + z) c.literal_size.ensures.0 c.literals_size.ensures.0 in
    (this ∙ sym (unlike_lines a.here a.x a.first a.n), omega (arith, c.literals_size.ensures.1, most a.n (c.literal_size.result + 2) 9 (omega (arith, c.literal_size.ensures.1))))
