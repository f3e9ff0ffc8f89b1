-- The equation automaton in a box of lengths: a location is the cells that are left on both sides.
use Rattle.std.specs.Prelude.{◌≡◌, Bool, true, false, List, [], ◌∷◌, ℕ, ◌+◌, ◌-◌, ◌<◌, ◌≤◌, get_or, length, drop, ltb, eqb}
use Rattle.model.specs.Lists.{pick}
use Rattle.fields.specs.declared.Field.{Field}
use Rattle.std.specs.declared.result.Result.{Result}
use Rattle.std.specs.declared.result.Result.TheVariants.{Ok, Err}
use Rattle.unification.specs.Names.{value_of, unify_of, Below}
use Rattle.walk.specs.declared.Walked.{Walked}

-- a letter, or the name of a place
abbrev pub Cells : List ℕ → Type 0
Cells a = (i : ℕ) → get_or a i 0 < 56

-- its letters are below l
abbrev pub Letters : ℕ → List ℕ → Type 0
Letters l a = (i : ℕ) → Below l (get_or a i 0)

-- the word that the cells spell: blanks are passed over
unfoldable pub word : List Field → List ℕ → List ℕ
word g [] = []
word g (u ∷ a) = pick (eqb (value_of g u) 255) (word g a) (value_of g u ∷ word g a)

-- places that hold a name, or are open
abbrev pub named : ℕ → ℕ
named x = pick (ltb x 8) 0 (pick (eqb x 255) 0 1)

unfoldable pub names : List ℕ → ℕ
names [] = 0
names (x ∷ xs) = named x + names xs

unfoldable pub undecided : List Field → ℕ
undecided [] = 0
undecided (t ∷ g) = names t.letters + undecided g

-- the cells from `from` to r are blank, and the next one is not
pub record Skipped (g : List Field) (a : List ℕ) (from r : ℕ) : Type 0 where
  pub past : from ≤ r
  pub within : r ≤ length a
  pub blank : (k : ℕ) → from ≤ k → k < r → value_of g (get_or a k 0) ≡ 255
  pub solid : r < length a → value_of g (get_or a r 0) ≡ 255 → ⊥

-- where a walk stands: the cells left on both sides, and the substitution there
pub record Reached : Type 0 where
  pub left : List ℕ
  pub right : List ℕ
  pub substitution : List Field

abbrev pub at_cells : List ℕ → List ℕ → List Field → Reached
at_cells a b g = record { left = a; right = b; substitution = g }

-- where a walk stops, and whether it has not failed
abbrev pub reached : Bool → List ℕ → List ℕ → List Field → Result Reached Reached
reached t a b g = pick t (Ok (at_cells a b g)) (Err (at_cells a b g))

-- whether cell u holds 254: it is open whether there is such a place
abbrev pub is_open : List Field → ℕ → Bool
is_open g u = eqb (value_of g u) 254

-- whether nothing may be left of a side from cell i on, which is not blank
abbrev pub may_end : List ℕ → ℕ → List Field → Bool
may_end a i g = pick (ltb i (length a)) (is_open g (get_or a i 0)) true

-- whether cells x and y, which hold u and v, are passed as they stand: it is the same cell, or they hold the same letter or name
abbrev pub alike_of : ℕ → ℕ → ℕ → ℕ → Bool
alike_of x y u v = pick (eqb x y) true (pick (eqb u 254) false (eqb u v))

-- whether one of two values is open
abbrev pub waits_of : ℕ → ℕ → Bool
waits_of u v = pick (eqb u 254) true (eqb v 254)

-- the walk goes on with what was unified, where it could be
abbrev pub onward : Result (List Field) (List Field) → (List Field → Result Reached Reached) → Result Reached Reached → Result Reached Reached
onward (Err h) go stop = stop
onward (Ok h) go stop = go h

-- Blank heads are dropped (document 01's B and C), and so is the same cell on both sides. An open place stops the walk. A side used up before a letter or
-- name fails (F). Else the two are unified (E), and both dropped (D), where they can be.
unfoldable pub walk_in : List ℕ → List ℕ → List Field → Result Reached Reached
walk_in [] [] g = reached true [] [] g
walk_in [] (v ∷ b) g = pick (eqb (value_of g v) 255) (walk_in [] b g) (reached (is_open g v) [] (v ∷ b) g)
walk_in (u ∷ a) [] g = pick (eqb (value_of g u) 255) (walk_in a [] g) (reached (is_open g u) (u ∷ a) [] g)
walk_in (u ∷ a) (v ∷ b) g =
    pick (eqb (value_of g u) 255) (walk_in a (v ∷ b) g)
    (pick (eqb (value_of g v) 255) (walk_in (u ∷ a) b g)
    (pick (eqb u v) (walk_in a b g)
    (pick (is_open g u) (reached true (u ∷ a) (v ∷ b) g)
    (pick (is_open g v) (reached true (u ∷ a) (v ∷ b) g)
    (onward (unify_of g (value_of g u) (value_of g v)) (walk_in a b) (reached false (u ∷ a) (v ∷ b) g))))))

-- the same in numbers: how many of the cells a and b are passed
abbrev pub in_numbers : List ℕ → List ℕ → Reached → Walked
in_numbers a b w = record { left = length a - length w.left; right = length b - length w.right; substitution = w.substitution }

abbrev pub told : List ℕ → List ℕ → Result Reached Reached → Result Walked Walked
told a b (Ok w) = Ok (in_numbers a b w)
told a b (Err w) = Err (in_numbers a b w)

-- the walk from cell i of a and cell j of b
unfoldable pub walk_on : List ℕ → List ℕ → ℕ → ℕ → List Field → Result Walked Walked
walk_on a b i j g = told a b (walk_in (drop i a) (drop j b) g)
