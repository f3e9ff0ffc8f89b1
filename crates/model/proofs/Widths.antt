-- The width of a template's symbols from index i on: one symbol at a time. Assumes nothing.
use mathlib.Core.Path.{◌≡◌}
use mathlib.Core.List.{List, map}
use Prim.Native.Nat.{ℕ, ◌+◌, ◌<◌, ◌≤◌}
use native.Mathlib.Numerals.{add-one}
use lib.ListN.{length, get_or, drop, drop_of_length-le}
use lib.Seq.{drop-cons}
use Rattle.model.specs.Sheet.{symbol_of, cells_of, width}

module _ (limits us : List ℕ) (i : ℕ) where
  pub width_turn : i < length us → width limits (map symbol_of (drop i us)) ≡ cells_of limits (symbol_of (get_or us i 0)) + width limits (map symbol_of (drop (i + 1) us))
  unfolding width
  width_turn h = rw (add-one, drop-cons us i 0)

  pub width_done : length us ≤ i → width limits (map symbol_of (drop i us)) ≡ 0
  unfolding width
  width_done h = rw (drop_of_length-le us h)
