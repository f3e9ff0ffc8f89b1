-- How far a book's walk came, and the answer of reading, in the words of the definitions. What was read is not said again: the bytes passed over say it.
use Rattle.std.specs.Prelude.{◌≡◌, List, ℕ, ◌+◌, ◌<◌, ◌≤◌, length, drop, ⊤, Option, Some, None, Result, Ok, Err}
use Rattle.model.specs.Sheet.{Step, got, fault, rest, byte}
use Rattle.book.specs.Book.{refused, read_book, Admitted}
use Rattle.book_read.specs.declared.Refusal.{Refusal}
use Rattle.book_read.specs.declared.Refusal.TheVariants as faults

-- the bytes from this offset on are left; or there was a fault, whatever its number
abbrev pub Came : {A : Type 0} → List ℕ → Step A → Option ℕ → Type 0
Came b s (Some e) = (rest s ≡ got tt (drop e b)) × (e ≤ length b)
Came b s None = (n : ℕ) × (rest s ≡ fault n)

-- this is the byte at an offset, and those after it are left; or there was a fault
abbrev pub Counted : {A : Type 0} → List ℕ → Step A → ℕ → Option ℕ → Type 0
Counted b s k (Some n) = (rest s ≡ got tt (drop (k + 1) b)) × (k < length b) × (n ≡ byte b k)
Counted b s k None = (n : ℕ) × (rest s ≡ fault n)

-- "40 when the book is under five bytes or mark or version is wrong. 41 when .."
abbrev pub number_of : Refusal → ℕ
number_of faults.Mark = 40
number_of faults.Book = 41

abbrev pub Reads : List ℕ → Result ⊤ Refusal → Type 0
Reads b (Ok x) = Admitted b
Reads b (Err f) = read_book b ≡ refused (number_of f)
