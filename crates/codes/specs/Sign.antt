-- The sign of a literal as a number, which its code adds.
use Rattle.std.specs.Prelude.{ℕ}
use Rattle.codes.specs.declared.Sign.{Sign}
use Rattle.codes.specs.declared.Sign.TheVariants.{Is, IsNot}

abbrev pub sign_number : Sign → ℕ
sign_number Is = 0
sign_number IsNot = 1
