-- Laws of the search in boxes: a box is cut only where nothing in it succeeds, and otherwise parted by the length of one field, whichever. Assumes nothing.
use mathlib.Core.Path.{◌≡◌, refl, sym, ap, subst, ◌∙◌}
use mathlib.Core.Bool.{Bool, true}
use mathlib.Core.List.{List, [], ◌∷◌}
use mathlib.Core.Logic.{◌⊎◌, inl, inr}
use Prim.Native.Nat.{ℕ, ◌+◌, ◌*◌, ◌-◌, ◌<◌, ◌≤◌}
use native.Mathlib.Omega.{arith}
use lib.ListN.{get_or, length, drop}
use borrow.Author.Tests.{leb-true}
use Rattle.model.specs.Lists.{pick, from, up_to, total}
use Rattle.model.proofs.Lists.{never, by_test, all_out, below_out}
use Rattle.model.proofs.Keeping.{all_below}
use Rattle.std.specs.Prelude.{Option, Some, None, is_some, IsSome, IsNone}
use Rattle.std.specs.declared.result.Result.TheVariants.{Ok, Err}
use Rattle.fields.specs.declared.Field.{Field}
use Rattle.trails.specs.Equations.{Equation, equations}
use Rattle.trails.specs.Attempt.{answer_of}
use Rattle.inequalities.specs.Rows.{side_sum, row_holds, hopeless_row, rows_hold, Within}
use Rattle.inequalities.proofs.Boxes.{hopeful_row}
use Rattle.bounds.specs.declared.Ranges.{Ranges}
use Rattle.bounds.specs.Bounds.{sum_of, Inside, Closed, Widest, Nowhere, total_rows, ClosedTotal}
use Rattle.bounds.proofs.Sums.{sum_grows}
use Rattle.bounds.proofs.Excluded.{hopeless_excludes}
use Rattle.bounds.proofs.Widest.{Same, total-closed, vector-within, empty_none-total}
use Rattle.trails.specs.declared.Board.{Board}
use Rattle.trails.specs.declared.Halt.{Halt}
use Rattle.trails.specs.Board.{narrow_of, Watches}
use Rattle.trails.proofs.Boards.{smaller_watches, narrow_watches, narrow_none}
use Rattle.boxes.specs.declared.Left.{Left}
use Rattle.boxes.specs.declared.Best.{Best}
use Rattle.boxes.specs.Vectors.{Settled, Box, try_of}
use Rattle.boxes.specs.Boxes.{Twins, Smaller, Nothing, taken, Answered, Betters, Seeks}
use Rattle.boxes.proofs.Tried.{try_same, tries, try_out}
use Rattle.boxes.proofs.Parts.{Parting, least, others, least-within, others-within, parts}

-- at most half as many equations as widths
pub few-equations : (x w : List ℕ) → 2 * length (equations x w) ≤ length w
unfolding equations
few-equations x [] = omega arith
few-equations x (m ∷ []) = omega arith
few-equations x (m ∷ n ∷ w) = let h = few-equations (drop (m + n) x) w in omega arith

-- a smaller box
pub inner : (lo hi l h : List ℕ) → Inside lo hi l h → (m : List ℕ) → Within l h m → Within lo hi m
inner lo hi l h inside m c f k = let w = c f k in let i = inside f k in (omega (arith, w.0, i.0), omega (arith, w.1, i.1))

-- What is left of a box.
module _ (es back : List Equation) (rows : List ℕ) (count : ℕ) (lo hi : List ℕ) (t u : ℕ) where
  -- nothing is left of a range
  pub emptied : Nowhere (ClosedTotal t u rows count) lo hi → Nothing es rows count lo hi t u
  emptied nowhere m c = by_test (is_some (try_of es rows count m))
      (λ won. never (sym (empty_none-total t u rows count lo hi nowhere m c.0 c.1 c.2) ∙ (try_out es rows count m won).rows_hold))
      (λ lost. lost)

  module _ (b : Board) (twins : Twins es back lo hi) (watches : Watches es back lo hi b) (r : Ranges) (widest : Widest (ClosedTotal t u rows count) lo hi r.lo r.hi) where
    kept : (m : List ℕ) → Box lo hi t u m → IsSome (try_of es rows count m) → Within r.lo r.hi m
    kept m c won = vector-within (ClosedTotal t u rows count) lo hi (Some r) m widest c.0 (total-closed t u rows count m c.1 c.2 (try_out es rows count m won).rows_hold)

    inside : (m : List ℕ) → Within r.lo r.hi m → Within lo hi m
    inside = inner lo hi r.lo r.hi widest.inside

    tight : Watches es back r.lo r.hi b
    tight = smaller_watches es back lo hi r.lo r.hi b inside watches

    -- the trails are walked
    pub walked : (c : Board) → narrow_of es back b r.lo r.hi ≡ Ok c → Smaller es back rows count lo hi t u (record { ranges = r; board = c })
    walked c is = record {
      inside = widest.inside;
      closed = widest.closed;
      kept = kept;
      watches = narrow_watches es back r.lo r.hi b tight c is;
    }

    -- one of them fails
    pub cut_off : (q : Halt) → narrow_of es back b r.lo r.hi ≡ Err q → Nothing es rows count lo hi t u
    cut_off q is m d = by_test (is_some (try_of es rows count m))
        (λ won.
        let i = kept m d won in
        never (sym (narrow_none es back r.lo r.hi b tight q is m i (twins m (inside m i))) ∙ (try_out es rows count m won).attempted))
        (λ lost. lost)

-- Ranges of one length each, of which no row excludes an end: the rows hold there.
closed-holds : (rows : List ℕ) (count : ℕ) (lo hi : List ℕ) → Settled lo hi 6 → Closed rows count lo hi → rows_hold rows count lo ≡ true
unfolding rows_hold
closed-holds rows count lo hi s c =
    all_below (λ i. row_holds (drop (14 * i) rows) lo) count (λ i h.
    hopeful_row (drop (14 * i) rows) lo hi s
    (by_test (hopeless_row (drop (14 * i) rows) lo hi)
    (λ e. never (sym (c.least 0 (omega arith) i h) ∙ hopeless_excludes (drop (14 * i) rows) lo hi 0 (get_or lo 0 0) (omega arith) (omega arith) (c.some 0 (omega arith)) e))
    (λ e. e)))

total-told : (t u : ℕ) (m : List ℕ) → rows_hold (total_rows t u) 2 m ≡ true → (t ≤ sum_of m) × (sum_of m ≤ u)
unfolding rows_hold row_holds side_sum sum_of from total
total-told t u m h =
    let each = below_out (λ i. row_holds (drop (14 * i) (total_rows t u)) m ≡ true) 2 (all_out (λ i. row_holds (drop (14 * i) (total_rows t u)) m) (up_to 2) h) in
    let one = leb-true (total 6 (λ f. 1 * get_or m f 0) + 0) (total 6 (λ f. 0 * get_or m f 0) + u) (each 0 (omega arith)) in
    let two = leb-true (total 6 (λ f. 0 * get_or m f 0) + t) (total 6 (λ f. 1 * get_or m f 0) + 0) (each 1 (omega arith)) in
    (omega arith, omega arith)

-- nothing that is asked for succeeds: the best answer stays
pub stays : (try : List ℕ → Option (List Field)) (lo hi : List ℕ) (t : ℕ) (shortest : Bool) (best : Best)
    → ((m : List ℕ) → Within lo hi m → t ≤ sum_of m → sum_of m < best.below → IsNone (try m)) → Betters try lo hi t shortest best best
stays try lo hi t shortest best none = record { lower = omega arith; none = none; outcome = inl refl }

module _ (es back : List Equation) (rows : List ℕ) (count : ℕ) (lo hi : List ℕ) (t : ℕ) (best : Best) (shortest : Bool) where
  abbrev try : List ℕ → Option (List Field)
  try = try_of es rows count

  -- no totals are asked for
  pub unasked : best.below ≤ t → Betters try lo hi t shortest best best
  unasked less = stays try lo hi t shortest best (λ m c low high. absurd (omega arith))

  module _ (asked : t < best.below) where
    -- nothing is left
    pub cut : Nothing es rows count lo hi t (best.below - 1) → Betters try lo hi t shortest best best
    cut nothing = stays try lo hi t shortest best (λ m c low high. nothing m (c, low, omega arith))

    module _ (left : Left) (smaller : Smaller es back rows count lo hi t (best.below - 1) left) where
      -- what succeeds is in the smaller box
      back_in : (m : List ℕ) → Within lo hi m → t ≤ sum_of m → sum_of m < best.below → (Within left.ranges.lo left.ranges.hi m → IsNone (try m)) → IsNone (try m)
      back_in m c low high go = by_test (is_some (try m)) (λ won. go (smaller.kept m (c, low, omega arith) won)) (λ lost. lost)

      -- one vector is left
      module _ (s : Settled left.ranges.lo left.ranges.hi 6) where
        abbrev n : List ℕ
        n = left.ranges.lo

        same : (m : List ℕ) → Within n left.ranges.hi m → Same m n
        same m c f h = let w = c f h in let q = s f h in omega (arith, w.0, w.1)

        totals : (t ≤ sum_of n) × (sum_of n ≤ best.below - 1)
        totals = total-told t (best.below - 1) n (closed-holds (total_rows t (best.below - 1)) 2 n left.ranges.hi s smaller.closed.0)

        tried : answer_of es n ≡ try n
        tried = tries es rows count n (closed-holds rows count n left.ranges.hi s smaller.closed.1)

        failing : answer_of es n ≡ None → (m : List ℕ) → Within n left.ranges.hi m → IsNone (try m)
        failing e m c = ap (λ (z : Option (List Field)). is_some z) (try_same es rows count m n (same m c) ∙ sym tried ∙ e)

        told : (g : List Field) → answer_of es n ≡ Some g → Betters try lo hi t shortest best (record { found = Some g; below = pick shortest (sum_of n) 0 })
        told g e = record {
          lower = by_test shortest (λ y. rw y (omega (arith, totals.1))) (λ y. rw y (omega arith));
          none = λ m c low high. by_test shortest
              (λ y.
              let less : sum_of m < sum_of n = rw y at high in
              back_in m c low (omega (arith, totals.1)) (λ d. absurd (let g = sum_grows n m (λ f h. (d f h).0) in omega arith)))
              (λ y. let less : sum_of m < 0 = rw y at high in absurd (omega arith));
          outcome = inr (record {
            some = refl;
            vector = n;
            inside = inner lo hi n left.ranges.hi smaller.inside n (λ f h. let q = s f h in (omega arith, omega arith));
            is = sym e ∙ tried;
            totals = (totals.0, omega (arith, totals.1));
            told = λ y. rw y refl;
          });
        }

        pub at_one : (r : Best) → r ≡ taken (answer_of es n) (sum_of n) best shortest → Betters try lo hi t shortest best r
        at_one r is = subst (Betters try lo hi t shortest best) (sym is) (by (answer_of es n) refl)
          where
            by : (o : Option (List Field)) → answer_of es n ≡ o → Betters try lo hi t shortest best (taken o (sum_of n) best shortest)
            by None e = stays try lo hi t shortest best (λ m c low high. back_in m c low high (failing e m))
            by (Some g) e = told g e

      -- the box is parted
      pub parted : (k : ℕ) (p : Parting left.ranges.lo left.ranges.hi k) (one two : Best) → Betters try left.ranges.lo (least p) t shortest best one → Betters try (others p) left.ranges.hi t shortest one two → Betters try lo hi t shortest best two
      parted k p one two f g = record {
        lower = omega (arith, f.lower, g.lower);
        none = λ m c low high. back_in m c low (omega (arith, f.lower, g.lower)) (λ d. by m low high (parts p m d));
        outcome = both f.outcome g.outcome;
      }
        where
          by : (m : List ℕ) → t ≤ sum_of m → sum_of m < two.below → Within left.ranges.lo (least p) m ⊎ Within (others p) left.ranges.hi m → IsNone (try m)
          by m low high (inl d) = f.none m d low (omega (arith, g.lower))
          by m low high (inr d) = g.none m d low high

          out : (m : List ℕ) → Within left.ranges.lo left.ranges.hi m → Within lo hi m
          out = inner lo hi left.ranges.lo left.ranges.hi smaller.inside

          wider : (r : Best) (l h : List ℕ) (u : ℕ) → u ≤ best.below → ((m : List ℕ) → Within l h m → Within lo hi m) → Answered try l h t u shortest r → Answered try lo hi t best.below shortest r
          wider r l h u less to a = record {
            some = a.some;
            vector = a.vector;
            inside = to a.vector a.inside;
            is = a.is;
            totals = (a.totals.0, omega (arith, a.totals.1));
            told = a.told;
          }

          both : (one ≡ best) ⊎ Answered try left.ranges.lo (least p) t best.below shortest one → (two ≡ one) ⊎ Answered try (others p) left.ranges.hi t one.below shortest two → (two ≡ best) ⊎ Answered try lo hi t best.below shortest two
          both (inl e) (inl q) = inl (q ∙ e)
          both (inr a) (inl q) = inr (subst (Answered try lo hi t best.below shortest) (sym q) (wider one left.ranges.lo (least p) best.below (omega arith) (λ m c. out m (least-within p m c)) a))
          both x (inr a) = inr (wider two (others p) left.ranges.hi one.below f.lower (λ m c. out m (others-within p m c)) a)

-- from no answer at all
pub begun : (try : List ℕ → Option (List Field)) (lo hi : List ℕ) (t u : ℕ) (shortest : Bool) (r : Best) → Betters try lo hi t shortest (record { found = None; below = u }) r → Seeks try lo hi t u shortest r
begun try lo hi t u shortest r b = record {
  none = b.none;
  missed = by_missed b.outcome;
  answered = by_answered b.outcome;
}
  where
    start : Best
    start = record { found = None; below = u }

    by_missed : (r ≡ start) ⊎ Answered try lo hi t u shortest r → IsNone r.found → r.below ≡ u
    by_missed (inl q) e = ap (λ (z : Best). z.below) q
    by_missed (inr a) e = never (sym e ∙ a.some)

    by_answered : (r ≡ start) ⊎ Answered try lo hi t u shortest r → IsSome r.found → Answered try lo hi t u shortest r
    by_answered (inl q) e = never (ap (λ (z : Best). is_some z.found) (sym q) ∙ e)
    by_answered (inr a) e = a
