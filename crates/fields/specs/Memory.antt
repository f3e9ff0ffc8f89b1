-- A substitution in memory: what it says, its bytes, and what is known of one that holds a filling.
use Rattle.std.specs.Prelude.{◌≡◌, List, [], ◌∷◌, ◌++◌, map, ℕ, zero, suc, ◌+◌, ◌-◌, ◌*◌, ◌≤◌, length, get_or, take, drop, set, replicate}
use Rattle.model.specs.Lists.{All}
use Rattle.model.specs.Sheet.{Accepted, sheet_of}
use Rattle.model.specs.Range.{InRange}
use Rattle.model.specs.Word.{Substitution, Legal}
use Rattle.fields.specs.declared.Field.{Field}

-- A field's text, and the fields' texts: "a filling held as six fields of eight letter places, with six lengths".
abbrev pub text_of : Field → List ℕ
text_of v = take v.len v.letters

abbrev pub texts_of : List Field → Substitution
texts_of g = map text_of g

-- one of the fields; past their end stands what the language reads there
abbrev pub field : List Field → ℕ → Field
field g f = get_or g f (record { letters = []; len = 0 })

-- eight places, a length that they have room for, and 255 past it
pub record Whole (v : Field) : Type 0 where
  pub eight : length v.letters ≡ 8
  pub short : v.len ≤ 8
  pub past : drop v.len v.letters ≡ replicate (8 - v.len) 255

-- The substitution that is meant for a sheet: the texts of as many fields as it has.
abbrev pub meaning : List ℕ → List Field → Substitution
meaning b g = take (length (sheet_of b).limits) (texts_of g)

-- g holds a filling of the accepted sheet b.
pub record Held (b : List ℕ) (g : List Field) : Type 0 where
  pub accepted : Accepted b
  pub in_range : InRange (sheet_of b)
  pub six : length g ≡ 6
  pub whole : All Whole g
  pub legal : Legal (sheet_of b) (meaning b g)

-- What the loops of this crate make, one element or one field at a time.

-- the first n elements of a list, 0 where it has none
unfoldable pub firsts : ℕ → List ℕ → List ℕ
firsts zero xs = []
firsts (suc n) xs = firsts n xs ++ (get_or xs n 0 ∷ [])

-- a field's bytes
unfoldable pub field_bytes : Field → List ℕ
field_bytes v = v.len ∷ firsts 8 v.letters

-- the field whose nine bytes stand at that offset; and the first n fields from their bytes, the others empty
unfoldable pub field_at : List ℕ → ℕ → Field
field_at b at = record { letters = firsts 8 (drop (at + 1) b); len = get_or b at 0 }

unfoldable pub loaded : ℕ → List ℕ → List Field
loaded zero b = replicate 6 (record { letters = replicate 8 255; len = 0 })
loaded (suc n) b = set (loaded n b) n (field_at b (9 * n))
