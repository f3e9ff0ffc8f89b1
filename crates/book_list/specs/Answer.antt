-- What the refusals and the answers of this crate say in document 02's numbers.
use Rattle.std.specs.Prelude.{[], ◌∷◌, ℕ, Result, Ok, Err}
use Rattle.calls.specs.Calls.{Answer, refused, finished}
use Rattle.book_read.specs.Walk as book
use Rattle.schedule_read.specs.Answer as hours
use Rattle.book_list.specs.declared.Refusal.{Refusal}
use Rattle.book_list.specs.declared.Refusal.TheVariants.{Book, Hours, Room}

-- "42 when the list's buffer is shorter than the list"
abbrev pub number_of : Refusal → ℕ
number_of (Book f) = book.number_of f
number_of (Hours f) = hours.number_of f
number_of Room = 42

-- "gives their number"
abbrev pub compared : Result ℕ Refusal → Answer
compared (Ok n) = finished (n ∷ [])
compared (Err f) = refused (number_of f)
