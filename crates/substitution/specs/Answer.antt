-- What the refusals and answers of this crate say in document 01's numbers.
use Rattle.std.specs.Prelude.{[], ◌∷◌, ℕ, Result, Ok, Err}
use Rattle.calls.specs.Calls.{Answer, refused, finished, judgement_values}
use Rattle.sheet.specs.Answer as sheet
use Rattle.fields.specs.Answer as fields
use Rattle.judge.specs.declared.Judgement.{Judgement}
use Rattle.judge.specs.Answer.{meant}
use Rattle.substitution.specs.declared.Refusal.{Refusal}
use Rattle.substitution.specs.declared.Refusal.TheVariants.{Sheet, Filling, Equation, Side, Room}

-- "24 pair number not below E; 25 side not 0 (left) or 1 (right); 20 to 23; 26 buffer shorter than the text."
abbrev pub number_of : Refusal → ℕ
number_of (Sheet f) = sheet.number_of f
number_of (Filling f) = fields.number_of f
number_of Equation = 24
number_of Side = 25
number_of Room = 26

-- "The answer is clash or no clash", and document 02's No. 5: the pair that differs, with what is left over, or the rule broken
abbrev pub checked : Result Judgement Refusal → Answer
checked (Ok j) = finished (judgement_values (meant j))
checked (Err f) = refused (number_of f)

-- "the answer is its length"
abbrev pub spelled : Result ℕ Refusal → Answer
spelled (Ok n) = finished (n ∷ [])
spelled (Err f) = refused (number_of f)
