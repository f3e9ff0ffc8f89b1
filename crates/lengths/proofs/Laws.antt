-- The first vector by the order: of one total field by field, the least length first; and of all totals the least. Stated of any `try`. Assumes nothing.
use mathlib.Core.Path.{◌≡◌, refl, sym, ap, ◌∙◌}
use mathlib.Core.Bool.{Bool, true, false}
use mathlib.Core.List.{List}
use mathlib.Core.Logic.{◌⊎◌, inl, inr}
use Prim.Native.Nat.{ℕ, ◌+◌, ◌<◌, ◌≤◌}
use native.Mathlib.Omega.{arith}
use lib.ListN.{get_or}
use Rattle.model.proofs.Lists.{never}
use Rattle.std.specs.Prelude.{Option, is_some, IsSome, IsNone}
use Rattle.fields.specs.declared.Field.{Field}
use Rattle.unification.proofs.Laws.{by_lt}
use Rattle.inequalities.specs.Rows.{Within}
use Rattle.bounds.specs.Bounds.{sum_of}
use Rattle.bounds.proofs.Sums.{sum_grows}
use Rattle.boxes.specs.declared.Best.{Best}
use Rattle.boxes.specs.Vectors.{Settled, Box, Before, Sooner, Order, First}
use Rattle.boxes.specs.Boxes.{Answered, Seeks}
use Rattle.boxes.proofs.Parts.{Parting, least, others, least_at, least_other, others_other, by_field, least-within, others-within, into_least, parts}

module _ (try : List ℕ → Option (List Field)) where
  -- nothing in the class succeeds
  pub nothing : (C : List ℕ → Type 0) (O : List ℕ → List ℕ → Type 0) (r : Option (List Field)) → IsNone r → ((m : List ℕ) → C m → IsNone (try m)) → First try C O r
  nothing C O r e none = record { hit = λ t. never (sym e ∙ t); miss = λ t m c. none m c }

  -- what `boxes` finds, of one total and of all
  pub any_found : (lo hi : List ℕ) (t : ℕ) (shortest : Bool) (r : Best) → Seeks try lo hi t (t + 1) shortest r → First try (Box lo hi t t) (Order false) r.found
  any_found lo hi t shortest r f = record {
    hit = λ e.
        let a = f.answered e in
        record { vector = a.vector; inside = (a.inside, a.totals.0, omega (arith, a.totals.1)); is = a.is; first = λ m c o. absurd o };
    miss = λ e m c. let u = f.missed e in f.none m c.0 c.1 (omega (arith, c.2));
  }

  module _ (lo hi : List ℕ) (u : ℕ) (all : u ≡ sum_of hi + 1) (shortest : Bool) (r : Best) (f : Seeks try lo hi 0 u shortest r) where
    none_found : IsNone r.found → (m : List ℕ) → Within lo hi m → IsNone (try m)
    none_found e m c = let q = f.missed e in let high = sum_grows m hi (λ f h. (c f h).1) in f.none m c (omega arith) (omega arith)

    pub all-missed : (O : List ℕ → List ℕ → Type 0) → IsNone r.found → First try (Within lo hi) O r.found
    all-missed O e = nothing (Within lo hi) O r.found e (none_found e)

    pub all_found : First try (Within lo hi) (Order false) r.found
    all_found = record {
      hit = λ e. let a = f.answered e in record { vector = a.vector; inside = a.inside; is = a.is; first = λ m c o. absurd o };
      miss = none_found;
    }

  -- below the total of the shortest nothing succeeds, and there something does: the first there is the first of all
  module _ (lo hi : List ℕ) (u : ℕ) (r : Best) (f : Seeks try lo hi 0 u true r) (ok : IsSome r.found) where
    abbrev answer : Answered try lo hi 0 u true r
    answer = f.answered ok

    pub short-total : u ≤ 2000 → r.below ≤ 2000
    short-total few = let e : sum_of answer.vector ≡ r.below = answer.told refl in omega (arith, answer.totals.1)

    pub shortest_first : (q : Option (List Field)) → First try (Box lo hi r.below r.below) Before q → First try (Within lo hi) Sooner q
    shortest_first q s = record {
      hit = λ e.
          let i = s.hit e in
          record {
            vector = i.vector;
            inside = i.inside.0;
            is = i.is;
            first = λ m c o. by m c i.vector i.inside (λ d b. i.first m d b) o;
          };
      miss = λ e m c. never (sym (s.miss e answer.vector (answer.inside, omega (arith, total), omega (arith, total))) ∙ ap (λ (z : Option (List Field)). is_some z) (sym answer.is) ∙ ok);
    }
      where
        total : sum_of answer.vector ≡ r.below
        total = answer.told refl

        by : (m : List ℕ) → Within lo hi m → (v : List ℕ) → Box lo hi r.below r.below v → (Box lo hi r.below r.below m → Before m v → IsNone (try m)) → Sooner m v → IsNone (try m)
        by m c v d go (inl l) = f.none m c (omega arith) (omega (arith, d.2))
        by m c v d go (inr b) = let e = b.0 in go (c, omega (arith, d.1), omega (arith, d.2)) b.1

  -- a box of one vector at most: any answer is the first
  pub one_vector : (lo hi : List ℕ) (t u : ℕ) (r : Option (List Field)) → Settled lo hi 6 → First try (Box lo hi t u) (Order false) r → First try (Box lo hi t u) Before r
  one_vector lo hi t u r s f = record {
    hit = λ q.
        let i = f.hit q in
        record {
          vector = i.vector;
          inside = i.inside;
          is = i.is;
          first = λ m c o. absurd (let e = s o.at o.inside in let a = c.0 o.at o.inside in let b = i.inside.0 o.at o.inside in let l = o.less in omega arith);
        };
    miss = f.miss;
  }

  -- A box that is parted by the length of field k, the lengths below k being settled.
  module _ {lo hi : List ℕ} {k : ℕ} (p : Parting lo hi k) (settled : Settled lo hi k) (t u : ℕ) where
    pub least-settled : Settled lo (least p) (k + 1)
    least-settled f h = by_field p (λ f. get_or lo f 0 ≡ get_or (least p) f 0) f (sym (least_at p)) (λ n. rw (least_other p f n) (settled f (omega arith)))

    pub others-settled : Settled (others p) hi k
    others-settled f h = others_other p f (λ e. omega arith) ∙ settled f h

    -- what comes before a vector with the least length at k has that length too
    before-least : (m w : List ℕ) → Within lo hi m → Within lo (least p) w → Before m w → get_or m k 0 ≡ get_or lo k 0
    before-least m w c d o =
        let e : get_or w k 0 ≡ get_or lo k 0 = let v = d k p.inside in let a = least_at p in omega (arith, v.0, v.1) in
        let ge = (c k p.inside).0 in
        let l = o.less in
        by_lt o.at k
        (λ j. let q = settled o.at j in let a = c o.at o.inside in let b = least-within p w d o.at o.inside in absurd (omega arith))
        (λ j. by_lt k o.at (λ i. o.same k i ∙ e) (λ i. let q : o.at ≡ k = omega arith in let z : get_or m k 0 < get_or w k 0 = rw q at l in absurd (omega arith)))

    -- the first part succeeds
    pub least_hits : (r : Option (List Field)) → IsSome r → First try (Box lo (least p) t u) Before r → First try (Box lo hi t u) Before r
    least_hits r ok f = record {
      hit = λ q.
          let i = f.hit q in
          record {
            vector = i.vector;
            inside = (least-within p i.vector i.inside.0, i.inside.1, i.inside.2);
            is = i.is;
            first = λ m c o. i.first m (into_least p m c.0 (before-least m i.vector c.0 i.inside.0 o), c.1, c.2) o;
          };
      miss = λ e. never (sym e ∙ ok);
    }

    -- it fails, and there is no other
    pub least_misses : (r : Option (List Field)) → IsNone r → get_or lo k 0 ≡ get_or hi k 0 → First try (Box lo (least p) t u) Before r → First try (Box lo hi t u) Before r
    least_misses r e one f = nothing (Box lo hi t u) Before r e (λ m c. f.miss e m (into_least p m c.0 (let w = c.0 k p.inside in omega (arith, w.0, w.1)), c.1, c.2))

    -- it fails, and the other part decides
    pub others_decide : (r q : Option (List Field)) → IsNone r → First try (Box lo (least p) t u) Before r → First try (Box (others p) hi t u) Before q → First try (Box lo hi t u) Before q
    others_decide r q e f g = record {
      hit = λ h.
          let i = g.hit h in
          record {
            vector = i.vector;
            inside = (others-within p i.vector i.inside.0, i.inside.1, i.inside.2);
            is = i.is;
            first = λ m c o. part m c (λ d. i.first m d o) (parts p m c.0);
          };
      miss = λ h m c. part m c (g.miss h m) (parts p m c.0);
    }
      where
        part : (m : List ℕ) → Box lo hi t u m → (Box (others p) hi t u m → IsNone (try m)) → Within lo (least p) m ⊎ Within (others p) hi m → IsNone (try m)
        part m c go (inl d) = f.miss e m (d, c.1, c.2)
        part m c go (inr d) = go (d, c.1, c.2)
