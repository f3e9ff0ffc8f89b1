-- The value of digits, and when they are a number's: one law for each way that `value` returns. Assumes nothing.
use mathlib.Core.Path.{◌≡◌, refl, sym, ap, subst, ◌∙◌}
use mathlib.Core.Bool.{true, false, not}
use mathlib.Core.List.{List, [], ◌∷◌}
use Prim.Native.Nat.{ℕ, zero, suc, ◌+◌, ◌-◌, ◌*◌, ◌<◌, ◌≤◌}
use native.Mathlib.Numerals.{add-one}
use native.Mathlib.Omega.{arith}
use lib.Dec.{leb}
use Rattle.std.specs.Prelude.{Option, Some, None}
use lib.Arith.{lt_of_le-ne}
use lib.ListN.{length, drop, get_or, drop_of_length-le}
use lib.Seq.{drop-cons}
use borrow.Author.Tests.{le-leb, lt-leb, leb-true}
use Rattle.model.specs.Lists.{pick, between, all, All, starts_with}
use Rattle.formula.specs.Dimacs.{with_figure, value_from, value_of}
use Rattle.calls.specs.Reply.{figure, magnitude}
use Rattle.model.proofs.Lists.{never, by_test, and_split, and_join, all_here, all_fails, all_whole, all_out, weaken}
use Rattle.formula.proofs.Figures.{Figure}
use Rattle.numerals.proofs.Firsts.{starts, starts_not}

-- A bound on what i figures say.
unfoldable pub ten : ℕ → ℕ
ten zero = 1
ten (suc i) = ten i * 10

ten_more : (i k : ℕ) → ten i ≤ ten (i + k)
unfolding ten
ten_more i zero = let e : i + 0 ≡ i = omega arith in rw e (omega arith)
ten_more i (suc k) = let h = ten_more i k in let e : i + suc k ≡ suc (i + k) = omega arith in rw e (omega arith)

pub ten_most : (i : ℕ) → i ≤ 8 → ten i ≤ 100000000
unfolding ten
ten_most i h = let e : i + (8 - i) ≡ 8 = omega arith in subst (λ n. ten i ≤ ten n) e (ten_more i (8 - i))

-- The first i bytes are figures that say sum: it is below their bound, and with it the rest decides.
pub record Summed (digits : List ℕ) (i sum : ℕ) : Type 0 where
  pub small : sum < ten i
  pub figures : all figure digits ≡ all figure (drop i digits)
  pub says : value_of digits ≡ value_from sum (drop i digits)

pub summed_none : (digits : List ℕ) → Summed digits 0 0
unfolding ten
summed_none digits = record { small = omega arith; figures = refl; says = refl }

pub summed_more : (digits : List ℕ) (i sum : ℕ) → Summed digits i sum → i < length digits
    → 48 ≤ get_or digits i 0 → get_or digits i 0 ≤ 57 → Summed digits (i + 1) (sum * 10 + (get_or digits i 0 - 48))
unfolding ten value_from
summed_more digits i sum s h low high =
    let b = s.small in
    record {
      small = rw add-one (omega arith);
      figures = s.figures ∙ all_here figure digits i 0 h (and_join (le-leb _ _ low) (le-leb _ _ high));
      says = s.says ∙ rw (add-one, drop-cons digits i 0);
    }

-- The value of a list of digits, if it is a number's.
abbrev pub valued : List ℕ → Option ℕ
valued ds = pick (magnitude ds) (Some (value_of ds)) None

pub valued_empty : (ds : List ℕ) → length ds ≡ 0 → valued ds ≡ None
valued_empty [] h = refl
valued_empty (d ∷ ds) h = absurd (omega arith)

pub valued_long : (ds : List ℕ) → 9 < length ds → valued ds ≡ None
valued_long ds h = let low : 1 ≤ length ds = omega arith in rw (le-leb _ _ low, lt-leb _ _ h)

pub valued_nought : (ds : List ℕ) → 1 ≤ length ds → length ds ≤ 9 → get_or ds 0 0 ≡ 48 → valued ds ≡ None
valued_nought ds low high e =
    rw (le-leb 1 (length ds) low, le-leb (length ds) 9 high, starts 48 ds low e) (by_test (all figure ds) (λ t. rw t) (λ t. rw t))

module _ (ds : List ℕ) (i sum : ℕ) (s : Summed ds i sum) (low : 1 ≤ length ds) (high : length ds ≤ 9) where
  valued_other : i < length ds → figure (get_or ds i 0) ≡ false → valued ds ≡ None
  valued_other h e =
      rw (le-leb 1 (length ds) low, le-leb (length ds) 9 high, s.figures ∙ all_fails figure ds i 0 h e)

  pub valued_below : i < length ds → get_or ds i 0 < 48 → valued ds ≡ None
  valued_below h l = valued_other h (rw (lt-leb 48 (get_or ds i 0) l))

  pub valued_past : i < length ds → 57 < get_or ds i 0 → valued ds ≡ None
  valued_past h l = valued_other h (let b : 48 ≤ get_or ds i 0 = omega arith in rw (le-leb 48 (get_or ds i 0) b, lt-leb (get_or ds i 0) 57 l))

  pub valued_sum : length ds ≤ i → (get_or ds 0 0 ≡ 48 → ⊥) → valued ds ≡ Some sum
  unfolding value_from
  valued_sum h e =
      rw (le-leb 1 (length ds) low, le-leb (length ds) 9 high, s.figures ∙ all_whole figure ds i 0 h, starts_not 48 ds e)
      (ap Some (s.says ∙ ap (value_from sum) (drop_of_length-le ds h)))

-- What a magnitude is: figures, the first not 0. So its value is at least 1.
magnitude-parts : (ds : List ℕ) → magnitude ds ≡ true → (all figure ds ≡ true) × (not (starts_with (48 ∷ []) ds) ≡ true)
magnitude-parts ds h = and_split (all figure ds) (not (starts_with (48 ∷ []) ds)) (and_split (between 1 9 (length ds)) _ h).1

pub magnitude_figures : (ds : List ℕ) → magnitude ds ≡ true → All Figure ds
magnitude_figures ds h =
    weaken (λ x. figure x ≡ true) Figure ds
    (λ x f. let q = and_split (leb 48 x) (leb x 57) f in (leb-true 48 x q.0, leb-true x 57 q.1))
    (all_out figure ds (magnitude-parts ds h).0)

value_grows : (n : ℕ) (xs : List ℕ) → n ≤ value_from n xs
unfolding value_from
value_grows n [] = omega arith
value_grows n (x ∷ xs) = let h = value_grows (with_figure n x) xs in omega arith

pub magnitude-value : (ds : List ℕ) → magnitude ds ≡ true → 1 ≤ value_of ds
unfolding value_from All
magnitude-value [] h = never h
magnitude-value (d ∷ ds) h =
    let low = (magnitude_figures (d ∷ ds) h).0.0 in
    let other : 48 ≡ d → ⊥ = λ e. never (sym (ap not (starts 48 (d ∷ ds) (omega arith) (sym e))) ∙ (magnitude-parts (d ∷ ds) h).1) in
    let more : 49 ≤ d = lt_of_le-ne low other in
    let g = value_grows (with_figure 0 d) ds in
    omega arith

module _ (ds : List ℕ) (r : Option ℕ) (e : r ≡ valued ds) where
  pub valued_none : r ≡ None → magnitude ds ≡ false
  valued_none z = by_test (magnitude ds) (λ t. let q : None ≡ Some (value_of ds) = sym z ∙ e ∙ rw t in absurd (cc)) (λ t. t)

  pub valued_some : (n : ℕ) → r ≡ Some n → (magnitude ds ≡ true) × (n ≡ value_of ds)
  valued_some n z =
      by_test (magnitude ds)
      (λ t. let q : Some n ≡ Some (value_of ds) = sym z ∙ e ∙ rw t in (t, cc))
      (λ t. let q : Some n ≡ None = sym z ∙ e ∙ rw t in absurd (cc))
