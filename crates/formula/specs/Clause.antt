-- The clauses of document 01, each by a name, over variables that have names too.
use Rattle.std.specs.Prelude.{Bool, true, false, not, ◌&&◌, ◌||◌, List, [], ◌∷◌, ◌++◌, map, ℕ, zero, suc, ◌+◌, ◌-◌, ◌*◌, ltb, eqb, ℤ, pos, negsuc, nat_abs, ◌+ℤ◌, ◌*ℤ◌, length, get_or}
use Rattle.std.specs.Int.Signed.{lt_z}
use Rattle.model.specs.Lists.{each, from, up_to, any, when, keep}
use Rattle.model.specs.Sheet.{Constraint, Sheet, limit, equation, constraint, coefficient}
use Rattle.model.specs.Cells.{Cell, letter, place, cells}

-- "K(f,c,a): place c of field f holds letter a, a = L meaning blank". "S(p,i,j): location (i,j) of pair p". "T(r,k,s): under rule r the
-- first k fields sum to s".
pub data Variable : Type 0 where
  K : ℕ → ℕ → ℕ → Variable
  S : ℕ → ℕ → ℕ → Variable
  T : ℕ → ℕ → ℤ → Variable

-- A literal: a variable, or its negation ("not").
pub data Literal : Type 0 where
  is : Variable → Literal
  isnt : Variable → Literal

-- The number of letters L; "a = L meaning blank"; the number of fields V.
abbrev pub letter_count : Sheet → ℕ
letter_count s = length s.letters

abbrev pub blank : Sheet → ℕ
blank s = letter_count s

abbrev pub fields : Sheet → ℕ
fields s = length s.limits

-- The two sides of an equation as cells, and cell i of a side (the default is never met).
abbrev pub left_cells : Sheet → ℕ → List Cell
left_cells s p = cells s (equation s p).left

abbrev pub right_cells : Sheet → ℕ → List Cell
right_cells s p = cells s (equation s p).right

abbrev pub cell : List Cell → ℕ → Cell
cell us i = get_or us i (letter 0)

-- A literal as document 01 writes it in a clause: of a letter cell it is known.
pub data Term : Type 0 where
  known : Bool → Term
  unknown : Literal → Term

abbrev pub yes : Variable → Term
yes x = unknown (is x)

abbrev pub no : Variable → Term
no x = unknown (isnt x)

-- "u not a", "v is a"; "u blank", "u not blank". "A letter cell is never blank."
abbrev pub holds : Cell → ℕ → Term
holds (letter b) a = known (eqb b a)
holds (place f c) a = yes (K f c a)

abbrev pub lacks : Cell → ℕ → Term
lacks (letter b) a = known (not (eqb b a))
lacks (place f c) a = no (K f c a)

abbrev pub is_blank : Sheet → Cell → Term
is_blank s (letter b) = known false
is_blank s (place f c) = yes (K f c (blank s))

abbrev pub not_blank : Sheet → Cell → Term
not_blank s (letter b) = known true
not_blank s (place f c) = no (K f c (blank s))

-- a literal that is there only if the test passes
abbrev pub only : Bool → Term → Term
only true t = t
only false t = known false

-- The names: the clauses of a place; the first clause of an equation, and those of a location, B, C, D, E and F; those of a constraint.
pub data ClauseId : Type 0 where
  SomeValue : ℕ → ℕ → ClauseId
  NotBoth : ℕ → ℕ → ℕ → ℕ → ClauseId
  BlankTail : ℕ → ℕ → ClauseId
  Start : ℕ → ClauseId
  Left : ℕ → ℕ → ℕ → ClauseId
  Right : ℕ → ℕ → ℕ → ClauseId
  Both : ℕ → ℕ → ℕ → ClauseId
  Match : ℕ → ℕ → ℕ → ℕ → ClauseId
  End : ℕ → ℕ → ℕ → ClauseId
  Zero : ℕ → ClauseId
  Add : ℕ → ℕ → ℤ → ℕ → ClauseId
  Bound : ℕ → ℤ → ClauseId

-- Each clause as document 01 writes it, letter cells not yet considered; u is the left cell i, v the right cell j.
unfoldable pub terms : Sheet → ClauseId → List Term
-- "K(f,c,0) or .. or K(f,c,L)"
terms s (SomeValue f c) = map (λ a. yes (K f c a)) (up_to (suc (blank s)))
-- "not K(f,c,a) or not K(f,c,b)"
terms s (NotBoth f c a b) = no (K f c a) ∷ no (K f c b) ∷ []
-- "not K(f,c,L) or K(f,c+1,L)"
terms s (BlankTail f c) = no (K f c (blank s)) ∷ yes (K f (suc c) (blank s)) ∷ []
-- "S(p,0,0)"
terms s (Start p) = yes (S p 0 0) ∷ []
-- "B (i<m): not S(i,j), u not blank, S(i+1,j)."
terms s (Left p i j) = no (S p i j) ∷ not_blank s (cell (left_cells s p) i) ∷ yes (S p (suc i) j) ∷ []
-- "C (j<n): not S(i,j), u blank (absent if i=m), v not blank, S(i,j+1)."
terms s (Right p i j) =
    no (S p i j)
    ∷ only (ltb i (length (left_cells s p))) (is_blank s (cell (left_cells s p) i))
    ∷ not_blank s (cell (right_cells s p) j)
    ∷ yes (S p i (suc j))
    ∷ []
-- "D (both): not S(i,j), u blank, v blank, S(i+1,j+1)."
terms s (Both p i j) =
    no (S p i j) ∷ is_blank s (cell (left_cells s p) i) ∷ is_blank s (cell (right_cells s p) j) ∷ yes (S p (suc i) (suc j)) ∷ []
-- "E (both), each letter a: not S(i,j), v blank, u not a, v is a."
terms s (Match p i j a) =
    no (S p i j) ∷ is_blank s (cell (right_cells s p) j) ∷ lacks (cell (left_cells s p) i) a ∷ holds (cell (right_cells s p) j) a ∷ []
-- "F: if i=m, j<n: not S(i,j), v blank; if j=n, i<m: not S(i,j), u blank."
terms s (End p i j) =
    no (S p i j)
    ∷ only (ltb j (length (right_cells s p))) (is_blank s (cell (right_cells s p) j))
    ∷ only (ltb i (length (left_cells s p))) (is_blank s (cell (left_cells s p) i))
    ∷ []
-- "T(r,0,0)"
terms s (Zero r) = yes (T r 0 (pos 0)) ∷ []
-- "not T(r,k,s), K(k,d-1,L) if d>0, not K(k,d,L) if d is below the limit, T(r,k+1,s + coefficient × d)"
terms s (Add r k n d) =
    no (T r k n)
    ∷ only (ltb 0 d) (yes (K k (d - 1) (blank s)))
    ∷ only (ltb d (limit s k)) (no (K k d (blank s)))
    ∷ yes (T r (suc k) (n +ℤ coefficient (constraint s r) k *ℤ pos d))
    ∷ []
-- "not T(r,V,s)"
terms s (Bound r n) = no (T r (fields s) n) ∷ []

-- "A clause with a literal always true through a letter cell is left out; a literal always false so is dropped."
abbrev pub sure : Term → Bool
sure (known b) = b
sure (unknown l) = false

abbrev pub literal_of : Term → List Literal
literal_of (known b) = []
literal_of (unknown l) = l ∷ []

unfoldable pub left_out : Sheet → ClauseId → Bool
left_out s q = any sure (terms s q)

unfoldable pub literals : Sheet → ClauseId → List Literal
literals s q = each (terms s q) literal_of

-- "s every whole number from the least to the greatest sum their limits allow": of the first k fields.
abbrev pub lowest : ℤ → ℕ → ℤ
lowest (pos a) n = pos 0
lowest (negsuc a) n = negsuc a *ℤ pos n

unfoldable pub least : Sheet → Constraint → ℕ → ℤ
least s r zero = pos 0
least s r (suc k) = least s r k +ℤ lowest (coefficient r k) (limit s k)

abbrev pub highest : ℤ → ℕ → ℤ
highest (pos a) n = pos a *ℤ pos n
highest (negsuc a) n = pos 0

unfoldable pub greatest : Sheet → Constraint → ℕ → ℤ
greatest s r zero = pos 0
greatest s r (suc k) = greatest s r k +ℤ highest (coefficient r k) (limit s k)

-- how far the greatest is above the least (`spread-is` of the proofs)
unfoldable pub spread : Sheet → Constraint → ℕ → ℕ
spread s r zero = 0
spread s r (suc k) = spread s r k + nat_abs (coefficient r k) * limit s k

unfoldable pub sums : Sheet → Constraint → ℕ → List ℤ
sums s r k = map (λ n. least s r k +ℤ pos n) (up_to (suc (spread s r k)))

-- "Clauses, in this order". "for each f, c: K(f,c,0) or ..; for a < b, by a then b: ..; if c+1 is below the limit: .."
abbrev pub not_both_ids : Sheet → ℕ → ℕ → ℕ → List ClauseId
not_both_ids s f c a = map (NotBoth f c a) (from (suc a) (blank s - a))

unfoldable pub place_ids : Sheet → ℕ → ℕ → List ClauseId
place_ids s f c =
    (SomeValue f c ∷ [])
    ++ (each (up_to (suc (blank s))) (not_both_ids s f c)
    ++ when (ltb (suc c) (limit s f)) (BlankTail f c ∷ []))

-- "B (i<m)", "C (j<n)", "D (both)", "E (both), each letter a", "F: if i=m, j<n ..; if j=n, i<m .."
unfoldable pub location_ids : Sheet → ℕ → ℕ → ℕ → ℕ → ℕ → List ClauseId
location_ids s p m n i j =
    when (ltb i m) (Left p i j ∷ [])
    ++ (when (ltb j n) (Right p i j ∷ [])
    ++ (when (ltb i m && ltb j n) (Both p i j ∷ map (Match p i j) (up_to (letter_count s)))
    ++ when (eqb i m && ltb j n || ltb i m && eqb j n) (End p i j ∷ [])))

-- "for each p: S(p,0,0). Then for each i, then j"
unfoldable pub equation_ids : Sheet → ℕ → List ClauseId
equation_ids s p =
    let m : ℕ = length (left_cells s p) in
    let n : ℕ = length (right_cells s p) in
    (Start p ∷ []) ++ each (up_to (suc m)) (λ i. each (up_to (suc n)) (λ j. location_ids s p m n i j))

-- "for each r: T(r,0,0). For each k below V, then s, then d from 0 to the limit of field k: .. Then for each final s above the rule's
-- limit: .."
abbrev pub add_ids : Sheet → ℕ → ℕ → ℤ → List ClauseId
add_ids s r k n = map (Add r k n) (up_to (suc (limit s k)))

unfoldable pub constraint_ids : Sheet → ℕ → List ClauseId
constraint_ids s r =
    (Zero r ∷ [])
    ++ (each (up_to (fields s)) (λ k. each (sums s (constraint s r) k) (add_ids s r k))
    ++ each (sums s (constraint s r) (fields s)) (λ n. when (lt_z (constraint s r).most n) (Bound r n ∷ [])))

unfoldable pub listed : Sheet → List ClauseId
listed s =
    each (up_to (fields s)) (λ f. each (up_to (limit s f)) (λ c. place_ids s f c))
    ++ (each (up_to (length s.equations)) (equation_ids s)
    ++ each (up_to (length s.constraints)) (constraint_ids s))

-- Those that are not left out: clause n is the n-th of these, counted from 1. Their number is C.
abbrev pub stays : Sheet → ClauseId → Bool
stays s q = not (left_out s q)

unfoldable pub ids : Sheet → List ClauseId
ids s = keep (stays s) (listed s)

-- the clause at a place of that list, counted from 0, and what stands past its end, which is never asked for
abbrev pub none : ClauseId
none = SomeValue 0 0

abbrev pub id_at : Sheet → ℕ → ClauseId
id_at s n = get_or (ids s) n none
