-- Substitutions with names, what cells hold under them, and unification of two values.
use Rattle.std.specs.Prelude.{◌≡◌, ℕ, ◌-◌, ◌/◌, ◌%◌, ◌<◌, ◌≤◌, List, [], map, get_or, ltb, eqb}
use Rattle.std.specs.declared.result.Result.{Result}
use Rattle.std.specs.declared.result.Result.TheVariants.{Ok, Err}
use Rattle.model.specs.Lists.{pick}
use Rattle.fields.specs.declared.Field.{Field}
use Rattle.fields.specs.Memory.{field}

-- x, or v where x is u
abbrev pub repl : ℕ → ℕ → ℕ → ℕ
repl u v x = pick (eqb x u) v x

-- a name that is left takes letter 0
abbrev pub settle : ℕ → ℕ
settle x = pick (ltb x 8) x (pick (eqb x 255) 255 0)

-- s is what calls with the results `post` compute
abbrev pub Computes : (ℕ → ℕ → Type 0) → (ℕ → ℕ) → Type 0
Computes post s = (x y : ℕ) → post x y → y ≡ s x

-- s applied to every place
abbrev pub map_field : (ℕ → ℕ) → Field → Field
map_field s t = record { letters = map s t.letters; len = t.len }

unfoldable pub app : (ℕ → ℕ) → List Field → List Field
app s g = map (map_field s) g

-- what the language reads past the end of an array of fields
abbrev pub no_field : Field
no_field = record { letters = []; len = 0 }

abbrev pub place_of : List Field → ℕ → ℕ → ℕ
place_of g f c = get_or (field g f).letters c 0

-- what a cell holds: its letter, or what stands at its place
unfoldable pub value_of : List Field → ℕ → ℕ
value_of g u = pick (ltb u 8) u (place_of g ((u - 8) / 8) ((u - 8) % 8))

-- what a call tells, failed or not
abbrev pub either : {A : Type 0} → Result A A → A
either (Ok x) = x
either (Err x) = x

-- the most general way to make u and v, letters or names, the same; g as it was, where they are two letters that differ
unfoldable pub unify_of : List Field → ℕ → ℕ → Result (List Field) (List Field)
unify_of g u v =
    pick (eqb u v) (Ok g)
    (pick (ltb u 8) (pick (ltb v 8) (Err g) (Ok (app (repl v u) g)))
    (Ok (app (repl u v) g)))

-- x is a letter below l, or no letter
abbrev pub Below : ℕ → ℕ → Type 0
Below l x = x < 8 → x < l

-- all letters of a substitution are below l
abbrev pub Inside : ℕ → List Field → Type 0
Inside l g = (u : ℕ) → 8 ≤ u → Below l (value_of g u)

-- what may be applied to every place: letters and blanks stay, and nothing else becomes blank (names become other names, or letters)
pub record Refining (s : ℕ → ℕ) : Type 0 where
  pub letter : (x : ℕ) → x < 8 → s x ≡ x
  pub blank : s 255 ≡ 255
  pub solid : (x : ℕ) → s x ≡ 255 → x ≡ 255
