-- The list of every legal substitution has just the legal ones: what holds of the list holds of each, and each that it has is legal. So
-- `solvable` decides whether a sheet has a solution. Assumes nothing.
use mathlib.Core.Path.{◌≡◌, sym, ◌∙◌}
use mathlib.Core.Bool.{true, false}
use mathlib.Core.List.{List, [], ◌∷◌, map}
use Prim.Native.Nat.{ℕ, zero, suc, ◌<◌, ◌≤◌}
use native.Mathlib.Omega.{arith}
use lib.ListN.{length}
use Rattle.model.specs.Lists.{up_to, All}
use Rattle.model.specs.Sheet.{Sheet}
use Rattle.model.specs.Word.{Substitution, Admits, Texts, Legal, Solves, solves}
use Rattle.model.specs.Solvable.{all_texts, substitutions, every_legal, solvable}
use Rattle.model.proofs.Lists.{never, by_test, weaken, any_none, any_some, map_in, map_out, each_in, each_out, below_out}
use Rattle.model.proofs.Keeping.{loop_in}
use Rattle.model.proofs.Words.{solves_out, solves_in}
use Rattle.model.proofs.Fillings.{first_in, others_in, none_in, one_more_in}

-- What holds of every listed text or substitution holds of every legal one.
every_text : (P : List ℕ → Type 0) (l n : ℕ) → All P (all_texts l n) → (t : List ℕ) → length t ≤ n → All (λ a. a < l) t → P t
unfolding all_texts All
every_text P l zero h [] k i = h.0
every_text P l zero h (a ∷ t) k i = absurd (omega arith)
every_text P l (suc n) h [] k i = h.0
every_text P l (suc n) h (a ∷ t) k i =
    every_text (λ t. P (a ∷ t)) l n
    (map_out P (λ t. a ∷ t) (all_texts l n) (below_out (λ a. All P (map (λ t. a ∷ t) (all_texts l n))) l (each_out P (up_to l) (λ a. map (λ t. a ∷ t) (all_texts l n)) h.1) a i.0))
    t (omega arith) i.1

every_substitution : (P : Substitution → Type 0) (l : ℕ) (ns : List ℕ) → All P (substitutions l ns) → (g : Substitution) → Texts l ns g → P g
unfolding substitutions All
every_substitution P l [] h [] e = h.0
every_substitution P l [] h (t ∷ g) e = absurd (omega arith)
every_substitution P l (n ∷ ns) h [] e = absurd (omega arith)
every_substitution P l (n ∷ ns) h (t ∷ g) e =
    let first = first_in e in
    let here = every_text (λ t. All P (map (λ g. t ∷ g) (substitutions l ns))) l n (each_out P (all_texts l n) (λ t. map (λ g. t ∷ g) (substitutions l ns)) h) t first.no_longer first.over_letters in
    every_substitution (λ g. P (t ∷ g)) l ns (map_out P (λ g. t ∷ g) (substitutions l ns) here) g (others_in e)

pub every_legal_lem : (s : Sheet) (P : Substitution → Type 0) → All P (every_legal s) → (g : Substitution) → Legal s g → P g
every_legal_lem s P h g ok = every_substitution P (length s.letters) s.limits h g ok

-- Every listed text is one that a field admits, and every listed substitution is legal.
texts-admitted : (l n : ℕ) → All (Admits l n) (all_texts l n)
unfolding all_texts All
texts-admitted l zero = (record { over_letters = tt; no_longer = omega arith }, tt)
texts-admitted l (suc n) = (record { over_letters = tt; no_longer = omega arith }, loop_in _ l _ (λ a h. map_in _ (λ t. a ∷ t) (all_texts l n) (weaken _ _ (all_texts l n) (longer a h) (texts-admitted l n))))
  where
    longer : (a : ℕ) → a < l → (t : List ℕ) → Admits l n t → Admits l (suc n) (a ∷ t)
    longer a h t k = record { over_letters = (h, k.over_letters); no_longer = omega (arith, k.no_longer) }

substitutions-legal : (l : ℕ) (ns : List ℕ) → All (Texts l ns) (substitutions l ns)
unfolding substitutions All
substitutions-legal l [] = (none_in l, tt)
substitutions-legal l (n ∷ ns) =
    each_in _ (all_texts l n) _ (weaken _ _ (all_texts l n)
    (λ t k. map_in _ (λ g. t ∷ g) (substitutions l ns) (weaken _ _ (substitutions l ns) (λ g e. one_more_in k e) (substitutions-legal l ns)))
    (texts-admitted l n))

pub listed-legal : (s : Sheet) → All (Legal s) (every_legal s)
listed-legal s = substitutions-legal (length s.letters) s.limits

-- The test is passed exactly when there is a solution.
module _ (s : Sheet) where
  pub unsolvable : solvable s ≡ false → (g : Substitution) → Solves s g → ⊥
  unfolding solvable
  unsolvable e g h =
      never (sym (every_legal_lem s (λ g. solves s g ≡ false) (any_none (solves s) (every_legal s) e) g h.is_legal) ∙ solves_in s g h)

  pub solvable_in : (g : Substitution) → Solves s g → solvable s ≡ true
  solvable_in g h = by_test (solvable s) (λ e. e) (λ e. absurd (unsolvable e g h))

  pub solvable_out : solvable s ≡ true → (g : Substitution) × Solves s g
  unfolding solvable
  solvable_out e =
      let found = any_some (solves s) (Legal s) (every_legal s) (listed-legal s) e in
      (found.0, solves_out s found.0 found.1 found.2)

  pub none_unsolvable : ((g : Substitution) → Solves s g → ⊥) → solvable s ≡ false
  none_unsolvable none = by_test (solvable s) (λ e. let found = solvable_out e in absurd (none found.0 found.1)) (λ e. e)
