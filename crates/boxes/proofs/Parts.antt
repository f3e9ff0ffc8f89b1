-- A box parted by the length of field k: the vectors with the least length there, and the others. Assumes nothing.
use mathlib.Core.Path.{◌≡◌}
use mathlib.Core.List.{List}
use mathlib.Core.Logic.{◌⊎◌, inl, inr}
use Prim.Native.Nat.{ℕ, ◌+◌, ◌<◌, ◌≤◌}
use native.Mathlib.Omega.{arith}
use native.Mathlib.Decide.{ℕ_discrete}
use lib.ListN.{get_or, length, set}
use lib.Seq.{get_or-set_same, get_or-set_other}
use Rattle.inequalities.specs.Rows.{Within}
use Rattle.bounds.specs.Bounds.{sum_of, Some}
use Rattle.bounds.proofs.Excluded.{total_but}
use Rattle.bounds.proofs.Sums.{sum_grows}

pub record Parting (lo hi : List ℕ) (k : ℕ) : Type 0 where
  pub inside : k < 6
  pub six_lo : length lo ≡ 6
  pub six_hi : length hi ≡ 6
  pub ranges : Some lo hi

-- the sum of lengths of which one is another
sum_set : (n : List ℕ) (k x : ℕ) → k < 6 → length n ≡ 6 → sum_of (set n k x) + get_or n k 0 ≡ sum_of n + x
unfolding sum_of
sum_set n k x h six =
    let here : get_or (set n k x) k 0 ≡ x = let l : k < length n = omega arith in get_or-set_same n k x 0 l in
    let e = total_but 6 k (λ f. get_or (set n k x) f 0) (λ f. get_or n f 0) h (λ i _ ne. get_or-set_other n k i x 0 ne) in
    rw here at e

module _ {lo hi : List ℕ} {k : ℕ} (p : Parting lo hi k) where
  -- `least` has the least length at k, `others` the rest
  abbrev pub least : List ℕ
  least = set hi k (get_or lo k 0)

  abbrev pub others : List ℕ
  others = set lo k (get_or lo k 0 + 1)

  pub least_at : get_or least k 0 ≡ get_or lo k 0
  least_at = let l : k < length hi = omega (arith, p) in get_or-set_same hi k (get_or lo k 0) 0 l

  pub least_other : (f : ℕ) → (f ≡ k → ⊥) → get_or least f 0 ≡ get_or hi f 0
  least_other f n = get_or-set_other hi k f (get_or lo k 0) 0 n

  pub others-at : get_or others k 0 ≡ get_or lo k 0 + 1
  others-at = let l : k < length lo = omega (arith, p) in get_or-set_same lo k (get_or lo k 0 + 1) 0 l

  pub others_other : (f : ℕ) → (f ≡ k → ⊥) → get_or others f 0 ≡ get_or lo f 0
  others_other f n = get_or-set_other lo k f (get_or lo k 0 + 1) 0 n

  -- what holds at k, and elsewhere
  pub by_field : (P : ℕ → Type 0) (f : ℕ) → P k → ((f ≡ k → ⊥) → P f) → P f
  by_field P f here there = go (ℕ_discrete f k)
    where
      go : Dec (f ≡ k) → P f
      go (yes e) = rw e here
      go (no n) = there n

  pub least-ranges : Some lo least
  least-ranges f h = by_field (λ f. get_or lo f 0 ≤ get_or least f 0) f (rw least_at (omega arith)) (λ n. rw (least_other f n) (p.ranges f h))

  -- a vector of a part is in the box
  pub least-within : (m : List ℕ) → Within lo least m → Within lo hi m
  least-within m c f h =
      let w = c f h in
      (w.0, by_field (λ f. get_or m f 0 ≤ get_or hi f 0) f (let v = c k p.inside in let r = p.ranges k p.inside in let e = least_at in omega (arith, v.1)) (λ n. let e = least_other f n in omega (arith, w.1)))

  pub others-within : (m : List ℕ) → Within others hi m → Within lo hi m
  others-within m c f h =
      let w = c f h in
      (by_field (λ f. get_or lo f 0 ≤ get_or m f 0) f (let v = c k p.inside in let e = others-at in omega (arith, v.0)) (λ n. let e = others_other f n in omega (arith, w.0)), w.1)

  -- a vector of the box is in the one part or in the other
  pub into_least : (m : List ℕ) → Within lo hi m → get_or m k 0 ≡ get_or lo k 0 → Within lo least m
  into_least m c e f h = let w = c f h in (w.0, by_field (λ f. get_or m f 0 ≤ get_or least f 0) f (let a = least_at in omega arith) (λ n. let a = least_other f n in omega (arith, w.1)))

  pub into_others : (m : List ℕ) → Within lo hi m → (get_or m k 0 ≡ get_or lo k 0 → ⊥) → Within others hi m
  into_others m c ne f h =
      let w = c f h in
      (by_field (λ f. get_or others f 0 ≤ get_or m f 0) f (let a = others-at in let v = c k p.inside in omega (arith, v.0, ne)) (λ n. let a = others_other f n in omega (arith, w.0)), w.1)

  pub parts : (m : List ℕ) → Within lo hi m → Within lo least m ⊎ Within others hi m
  parts m c = go (ℕ_discrete (get_or m k 0) (get_or lo k 0))
    where
      go : Dec (get_or m k 0 ≡ get_or lo k 0) → Within lo least m ⊎ Within others hi m
      go (yes e) = inl (into_least m c e)
      go (no n) = inr (into_others m c n)

  -- where field k can be longer there are others, and the ranges of both parts are shorter
  module _ (more : get_or lo k 0 < get_or hi k 0) where
    pub others-ranges : Some others hi
    others-ranges f h = by_field (λ f. get_or others f 0 ≤ get_or hi f 0) f (rw others-at (omega arith)) (λ n. rw (others_other f n) (p.ranges f h))

    pub least_falls : (sum_of least < sum_of hi) × (sum_of lo ≤ sum_of least)
    least_falls = let e = sum_set hi k (get_or lo k 0) p.inside p.six_hi in (omega arith, sum_grows lo least least-ranges)

    pub others_falls : (sum_of lo < sum_of others) × (sum_of others ≤ sum_of hi)
    others_falls = let e = sum_set lo k (get_or lo k 0 + 1) p.inside p.six_lo in (omega arith, sum_grows others hi others-ranges)
