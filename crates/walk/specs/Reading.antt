-- What a substitution of a box says of the texts with lengths in the box.
--
-- Texts of lengths n are what σ makes of the start of these lengths: σ gives each name of a place its letter.
use Rattle.std.specs.Prelude.{◌≡◌, List, [], ◌∷◌, ℕ, ◌+◌, ◌*◌, ◌<◌, ◌≤◌, get_or, ltb}
use Rattle.model.specs.Lists.{pick}
use Rattle.fields.specs.declared.Field.{Field}
use Rattle.unification.specs.Names.{app, value_of}

-- the start of lengths n: a place within its field's length holds its own name, and one past it is blank
abbrev pub name_of : ℕ → ℕ → ℕ → ℕ
name_of f n c = pick (ltb c n) (8 + 8 * f + c) 255

unfoldable pub fresh_of : ℕ → ℕ → Field
fresh_of f n = record {
  letters = name_of f n 0 ∷ name_of f n 1 ∷ name_of f n 2 ∷ name_of f n 3 ∷ name_of f n 4 ∷ name_of f n 5 ∷ name_of f n 6 ∷ name_of f n 7 ∷ [];
  len = n;
}

unfoldable pub start_of : List ℕ → List Field
start_of n = fresh_of 0 (get_or n 0 0) ∷ fresh_of 1 (get_or n 1 0) ∷ fresh_of 2 (get_or n 2 0) ∷ fresh_of 3 (get_or n 3 0) ∷ fresh_of 4 (get_or n 4 0) ∷ fresh_of 5 (get_or n 5 0) ∷ []

-- σ reads g as s: what stands at a place that is not open is, under σ, what s has there
unfoldable pub Reads : (ℕ → ℕ) → List Field → List Field → Type 0
Reads σ g s = (u : ℕ) → (value_of g u ≡ 254 → ⊥) → σ (value_of g u) ≡ value_of s u

-- the texts of lengths n that σ gives
abbrev pub texts : (ℕ → ℕ) → List ℕ → List Field
texts σ n = app σ (start_of n)

-- g holds of the texts of lengths n that σ gives
abbrev pub Covers : List Field → (ℕ → ℕ) → List ℕ → Type 0
Covers g σ n = Reads σ g (texts σ n)

-- lengths from lo to hi, field by field (as `Within` of `inequalities`)
abbrev pub Inside : List ℕ → List ℕ → List ℕ → Type 0
Inside lo hi n = (f : ℕ) → f < 6 → (get_or lo f 0 ≤ get_or n f 0) × (get_or n f 0 ≤ get_or hi f 0)

-- all places are open
abbrev pub open_field : Field
open_field = record { letters = 254 ∷ 254 ∷ 254 ∷ 254 ∷ 254 ∷ 254 ∷ 254 ∷ 254 ∷ []; len = 0 }

unfoldable pub all_open : List Field
all_open = open_field ∷ open_field ∷ open_field ∷ open_field ∷ open_field ∷ open_field ∷ []
