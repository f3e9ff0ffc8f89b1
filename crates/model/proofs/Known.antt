-- What callers use of accepted bytes: they are their sheet's bytes, which is within the ranges. Assumes nothing.
use mathlib.Core.Path.{◌≡◌, refl, sym, ap, subst, ◌∙◌}
use mathlib.Core.Bool.{true}
use mathlib.Core.List.{List}
use Prim.Native.Nat.{ℕ}
use native.Mathlib.Omega.{arith}
use lib.ListN.{length}
use Rattle.model.specs.Lists.{All, Bytes}
use Rattle.model.specs.Sheet as sheet
use Rattle.model.specs.Sheet.{◌then◌, Counts, opening, walk, Reading, accepted, read, counts_of, encode, is_accepted, Accepted, sheet_of}
use Rattle.model.specs.Range.{EquationIn, CountsIn, InRange}
use Rattle.model.proofs.Lists.{never}
use Rattle.model.proofs.Steps.{went}
use Rattle.model.proofs.Opening.{opening_exact}
use Rattle.model.proofs.Reading.{walk_counts, walk-equations, ended-accepted, accepted-encode}

-- Accepted bytes.
of_accepted : (b : List ℕ) (r : Reading) → read b ≡ r → is_accepted r ≡ true → read b ≡ accepted (sheet.sheet_in (read b))
of_accepted b (accepted s) e h = e ∙ ap (λ x. accepted (sheet.sheet_in x)) (sym e)
of_accepted b (sheet.refused n) e h = never h

pub accepted_sheet : (b : List ℕ) → Accepted b → read b ≡ accepted (sheet_of b)
unfolding Accepted sheet_of
accepted_sheet b h = of_accepted b (read b) refl h

-- bytes that are read as a sheet are accepted, and it is theirs
pub accepted_as : (b : List ℕ) {s : sheet.Sheet} → read b ≡ accepted s → Accepted b × (sheet_of b ≡ s)
unfolding Accepted sheet_of
accepted_as b e = (ap is_accepted e, ap sheet.sheet_in e)

-- the counts alone are in their ranges, whatever numbers stand in the list
pub accepted_counts : (b : List ℕ) → Accepted b → CountsIn (counts_of (sheet_of b))
unfolding read
accepted_counts b h =
    let g = went (opening b) walk (ended-accepted (opening b then walk) (accepted_sheet b h)) in
    subst CountsIn (sym (walk_counts g.value g.rest g.second)) (opening_exact b g.first).counts_in

-- so are the equations
pub accepted-equations : (b : List ℕ) → Accepted b → All (EquationIn (length (sheet_of b).letters) (sheet_of b).limits) (sheet_of b).equations
unfolding read
accepted-equations b h =
    let g = went (opening b) walk (ended-accepted (opening b then walk) (accepted_sheet b h)) in
    let few = (opening_exact b g.first).counts_in.of_letters in
    let e = ap (λ (c : Counts). c.letter_count) (walk_counts g.value g.rest g.second) in
    rw e (walk-equations g.value g.rest (omega (arith, few)) g.second)

pub accepted_bytes : (b : List ℕ) → Bytes b → Accepted b → b ≡ encode (sheet_of b)
accepted_bytes b y h = (accepted-encode b y (accepted_sheet b h)).0

pub accepted_in_range : (b : List ℕ) → Bytes b → Accepted b → InRange (sheet_of b)
accepted_in_range b y h = (accepted-encode b y (accepted_sheet b h)).1
