-- What the refusals and answers of this crate say in document 01's numbers.
use Rattle.std.specs.Prelude.{[], ℕ, Result, Ok, Err}
use Rattle.calls.specs.Calls.{Answer, refused, finished}
use Rattle.sheet.specs.Answer as sheet
use Rattle.listing.specs.Answer as listing
use Rattle.decoding.specs.declared.Refusal.{Refusal}
use Rattle.decoding.specs.declared.Refusal.TheVariants.{Sheet, Room, Long, Text, Place, Blank, NoClash}

-- "27; 30 over 65,536 bytes; .. 37 a place of a field .. without just one true value; 38 a letter after a blank in a field; 39 the filling does
-- not clash"
abbrev pub number_of : Refusal → ℕ
number_of (Sheet f) = sheet.number_of f
number_of Room = 27
number_of Long = 30
number_of (Text f) = listing.number_of f
number_of Place = 37
number_of Blank = 38
number_of NoClash = 39

-- "Accepted, the filling fills the first 9 × V bytes": no value besides
abbrev pub replied : Result Unit Refusal → Answer
replied (Ok _) = finished []
replied (Err f) = refused (number_of f)
