-- The order of substitutions, and the order of their length vectors: an earlier one has a sooner vector, or the same one and a lower letter. Assumes nothing.
use mathlib.Core.Path.{◌≡◌, sym, ◌∙◌}
use mathlib.Core.List.{List}
use mathlib.Core.Logic.{◌⊎◌, inl, inr}
use Prim.Native.Nat.{ℕ, ◌<◌, ◌≤◌}
use native.Mathlib.Omega.{arith}
use lib.ListN.{length, get_or}
use Rattle.model.specs.Lists.{from, total}
use Rattle.model.specs.Word.{Substitution, text}
use Rattle.model.proofs.ByFields.{Shorter, Lower, SameLengths, length_sum, ByFields, total_lengths, field-there}
use Rattle.model.proofs.Keeping.{total-same}
use Rattle.inequalities.specs.Asked.{lengths_of}
use Rattle.inequalities.proofs.Asked.{lengths_at}
use Rattle.bounds.specs.Bounds.{sum_of}
use Rattle.bounds.proofs.Widest.{Same}
use Rattle.boxes.specs.Vectors.{Before, Sooner}

-- the sum of a vector
vector_sum : (g : Substitution) → length g ≤ 6 → sum_of (lengths_of g) ≡ length_sum g
unfolding sum_of total lengths_of from
vector_sum g h = total_lengths g 6 h ∙ sym (total_lengths g (length g) (omega arith))

-- texts of the same lengths
pub same_vectors : (g h : Substitution) → SameLengths g h → Same (lengths_of g) (lengths_of h)
same_vectors g h e f k = lengths_at g f k ∙ e f ∙ sym (lengths_at h f k)

module _ (g h : Substitution) (few : length g ≤ 6) (sized : length g ≡ length h) where
  before : Shorter g h → Before (lengths_of g) (lengths_of h)
  before k =
      let inside : k.field < 6 = omega (arith, field-there h k.field (length (text g k.field)) k.shorter) in
      record {
        at = k.field;
        inside = inside;
        same = λ f l. lengths_at g f (omega arith) ∙ k.same f l ∙ sym (lengths_at h f (omega arith));
        less = let a = lengths_at g k.field inside in let b = lengths_at h k.field inside in omega (arith, k.shorter);
      }

  -- the vectors that an earlier one has
  pub earlier_vectors : ByFields g h → Sooner (lengths_of g) (lengths_of h) ⊎ (SameLengths g h × Lower g h)
  earlier_vectors (inl l) = inl (inl (let a = vector_sum g few in let b = vector_sum h (omega arith) in omega arith))
  earlier_vectors (inr (e, inl l)) = inl (inr (vector_sum g few ∙ e ∙ sym (vector_sum h (omega arith)), before l))
  earlier_vectors (inr (e, inr l)) = inr l

-- what comes sooner than a vector comes sooner than one of the same six lengths
pub sooner_same : (m a b : List ℕ) → Same a b → Sooner m a → Sooner m b
unfolding sum_of
sooner_same m a b e k = by k
  where
    sums : sum_of a ≡ sum_of b
    sums = total-same 6 (λ f. get_or a f 0) (λ f. get_or b f 0) e

    by : Sooner m a → Sooner m b
    by (inl l) = let q = sums in inl (omega arith)
    by (inr (q, l)) = inr (
      q ∙ sums,
      record {
        at = l.at;
        inside = l.inside;
        same = λ f h. l.same f h ∙ e f (let i = l.inside in omega arith);
        less = let z = e l.at l.inside in omega (arith, l.less);
      },
    )
