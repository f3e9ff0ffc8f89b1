-- What the enums of this crate say in the model's words.
use Rattle.formula.specs.Kind as model
use Rattle.kinds.specs.declared.Kind.{Kind}
use Rattle.kinds.specs.declared.Kind.TheVariants.{SameLetterTwice, DifferentLetters, LetterThenField, FieldThenLetter, TwoFields, UsedUpBeforeLetter, UsedUpBeforeField, BothUsedUp}
use Rattle.kinds.specs.declared.Side.{Side}
use Rattle.kinds.specs.declared.Side.TheVariants.{Used, Letter, Place}

abbrev pub kind_of : Kind → model.Kind
kind_of SameLetterTwice = model.same_letter_twice
kind_of DifferentLetters = model.different_letters
kind_of LetterThenField = model.letter_then_field
kind_of FieldThenLetter = model.field_then_letter
kind_of TwoFields = model.two_fields
kind_of UsedUpBeforeLetter = model.used_up_before_letter
kind_of UsedUpBeforeField = model.used_up_before_field
kind_of BothUsedUp = model.both_used_up

-- and what a side of a location has
abbrev pub stands : Side → model.Side
stands Used = model.used
stands (Letter a) = model.at_letter a
stands Place = model.at_field
