-- The answer of reading, by each way through. Assumes nothing.
use mathlib.Core.Path.{◌≡◌, refl, sym, ap, ◌∙◌}
use mathlib.Core.Bool.{true}
use mathlib.Core.List.{List, [], ◌∷◌}
use Prim.Native.Nat.{ℕ, ◌<◌, ◌≤◌}
use native.Mathlib.Omega.{arith}
use lib.ListN.{length, drop, length-drop, drop_of_length-le}
use Rattle.model.specs.Sheet as sheet
use Rattle.model.specs.Sheet.{Sheet, Step, got, fault, Counts, opening, walk, Reading, accepted, ended, read, counts_of, is_accepted, Accepted, sheet_of, rest}
use Rattle.calls.specs.Calls.{refused, finished, four_counts, reading_of, reading}
use Rattle.model.proofs.Rests.{found}
use Rattle.model.proofs.Reading.{walk_counts}
use Rattle.model.proofs.Known.{accepted_sheet}

-- The answer, by the header and the walk.
pub reading-refused : (b : List ℕ) (n : ℕ) → opening b ≡ fault n → reading b ≡ refused n
unfolding reading read
reading-refused b n e = rw e

pub reading_walked : (b : List ℕ) (c : Counts) (xs : List ℕ) → opening b ≡ got c xs → reading b ≡ reading_of (ended (walk c xs))
unfolding reading read
reading_walked b c xs e = rw e

-- How a reading ends, by what the walk left.
pub ended-fault : (w : Step Sheet) {n : ℕ} → rest w ≡ fault n → refused n ≡ reading_of (ended w)
ended-fault (got s xs) h = let z : ◌≡◌ {A = ℕ} 0 1 = cc in absurd (omega arith)
ended-fault (fault k) h = cc

left_over : (s : Sheet) (xs : List ℕ) → 1 ≤ length xs → refused 9 ≡ reading_of (ended (got s xs))
left_over s [] h = absurd (omega arith)
left_over s (x ∷ xs) h = refl

pub ended-left_over : (b : List ℕ) (w : Step Sheet) (e : ℕ) → rest w ≡ got tt (drop e b) → e < length b → refused 9 ≡ reading_of (ended w)
ended-left_over b w e h l =
    let f = found w h in
    rw f.is (left_over f.value (drop e b) (rw (length-drop e b) (omega arith)))

pub ended-whole : (c : Counts) (xs b : List ℕ) (e : ℕ) → rest (walk c xs) ≡ got tt (drop e b) → length b ≤ e → finished (four_counts c) ≡ reading_of (ended (walk c xs))
ended-whole c xs b e h l =
    let f = found (walk c xs) (h ∙ ap (got tt) (drop_of_length-le b l)) in
    sym (ap (λ w. reading_of (ended w)) f.is ∙ ap (λ n. finished (four_counts n)) (walk_counts c xs f.is))

-- A reading that finished gives the counts of an accepted sheet.
finished-accepted : (r : Reading) {vs : List ℕ} → reading_of r ≡ finished vs → is_accepted r ≡ true
finished-accepted (accepted s) h = refl
finished-accepted (sheet.refused n) h = let z : ◌≡◌ {A = ℕ} 0 1 = cc in absurd (omega arith)

pub reading-accepted : (b : List ℕ) {vs : List ℕ} → reading b ≡ finished vs → Accepted b
unfolding reading Accepted
reading-accepted b h = finished-accepted (read b) h

pub reading_counts : (b : List ℕ) → Accepted b → reading b ≡ finished (four_counts (counts_of (sheet_of b)))
unfolding reading
reading_counts b h = rw (accepted_sheet b h)
