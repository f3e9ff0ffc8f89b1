-- The length vectors of six fields, their order, and the first of them at which an attempt succeeds.
use Rattle.std.specs.Prelude.{◌≡◌, Bool, true, false, Option, None, IsSome, IsNone, List, ◌⊎◌, ℕ, ◌<◌, ◌≤◌, get_or}
use Rattle.model.specs.Lists.{pick}
use Rattle.fields.specs.declared.Field.{Field}
use Rattle.trails.specs.Equations.{Equation}
use Rattle.trails.specs.Attempt.{answer_of}
use Rattle.inequalities.specs.Rows.{Within, rows_hold}
use Rattle.bounds.specs.Bounds.{sum_of}

-- the lengths below field k are settled
abbrev pub Settled : List ℕ → List ℕ → ℕ → Type 0
Settled lo hi k = (f : ℕ) → f < k → get_or lo f 0 ≡ get_or hi f 0

-- the vectors of a box that have a total from t to u
abbrev pub Box : List ℕ → List ℕ → ℕ → ℕ → List ℕ → Type 0
Box lo hi t u m = Within lo hi m × (t ≤ sum_of m) × (sum_of m ≤ u)

-- the shorter field 0, then the shorter field 1, and so on
pub record Before (a b : List ℕ) : Type 0 where
  pub at : ℕ
  pub inside : at < 6
  pub same : (f : ℕ) → f < at → get_or a f 0 ≡ get_or b f 0
  pub less : get_or a at 0 < get_or b at 0

-- the least total first, then as before
abbrev pub Sooner : List ℕ → List ℕ → Type 0
Sooner a b = (sum_of a < sum_of b) ⊎ ((sum_of a ≡ sum_of b) × Before a b)

-- sooner, if the first is asked for; else none comes before another
abbrev pub Order : Bool → List ℕ → List ℕ → Type 0
Order true a b = Sooner a b
Order false a b = ⊥

-- r is the answer at the first vector of C, by the order O, at which `try` succeeds; or there is none
pub record Hit (try : List ℕ → Option (List Field)) (C : List ℕ → Type 0) (O : List ℕ → List ℕ → Type 0) (r : Option (List Field)) : Type 0 where
  pub vector : List ℕ
  pub inside : C vector
  pub is : r ≡ try vector
  pub first : (m : List ℕ) → C m → O m vector → IsNone (try m)

pub record First (try : List ℕ → Option (List Field)) (C : List ℕ → Type 0) (O : List ℕ → List ℕ → Type 0) (r : Option (List Field)) : Type 0 where
  pub hit : IsSome r → Hit try C O r
  pub miss : IsNone r → (m : List ℕ) → C m → IsNone (try m)

-- what is tried at a vector: an attempt, where the rows hold
unfoldable pub try_of : List Equation → List ℕ → ℕ → List ℕ → Option (List Field)
try_of es rows count m = pick (rows_hold rows count m) (answer_of es m) None
