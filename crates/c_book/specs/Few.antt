-- A list of at most 120 pairs, each two of 16 templates, or a refusal.
use Rattle.std.specs.Prelude.{ℕ, ◌≤◌, Result, Ok, Err}
use Rattle.book_list.specs.declared.Refusal.{Refusal}

abbrev pub Few : Result ℕ Refusal → Type 0
Few (Ok n) = n ≤ 120
Few (Err f) = Unit
