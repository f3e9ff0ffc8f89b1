-- `book_repeats::first_alike` meets its contract: a template that is the same, or template j itself. Assumes nothing.
use mathlib.Core.Path.{◌≡◌, refl}
use mathlib.Core.Bool.{true}
use Prim.Native.Nat.{ℕ, ◌<◌, ◌≤◌}
use native.Mathlib.Omega.{arith}
use lib.ListN.{length}
use Rattle.std.proofs.Common.{rules, tests, Option, Some, None}
use Rattle.std.specs.Option.{MatchOption, unwrap_or}
use Rattle.std.proofs.lemmas.Iterator.{first_from_Range}
use Rattle.book.specs.Book.{Book, BookIn, template, book_of}
use Rattle.book_repeats.specs.Repeats.{same_template}
use Rattle.book_repeats.proofs.Laws.{alike_equal}
use Rattle.book_repeats.proofs.first_alike.Goals as goal

-- the number that was found, or j
found : (k : Book) (from j : ℕ) (r : Option ℕ) (None_of : Type 0) (Before : ℕ → Type 0) → BookIn k → from ≤ j → j < length k.templates
    → MatchOption r None_of (λ i. (from ≤ i) × (i < j) × (same_template (template k i) (template k j) ≡ true) × Before i)
    → (from ≤ unwrap_or r j) × (unwrap_or r j ≤ j) × (template k (unwrap_or r j) ≡ template k j)
found k from j None N P ok low inside h = (low, omega arith, refl)
found k from j (Some i) N P ok low inside h = (h.0, omega arith, alike_equal k ok i j (omega arith) inside h.2)

pub returns : goal.returns
returns c =
    let a = c.args in
    let k = book_of a.book.now in
    let f = first_from_Range _ _ _ c.find.result (λ i. same_template (template k i) (template k a.j) ≡ true) (λ i. Unit) c.find.ensures.ran (λ x q h. search (rules, tests)) (λ x q h. search (rules, tests)) in
    rw c.unwrap_or.ensures (found k a.from a.j c.find.result _ _ c.requires.0.1 c.requires.1 c.requires.2 f)
