-- A field that nothing asks for is empty in a solution that none comes before: it stands in no template, and no rule counts its length. A solution in which
-- it is not empty comes after the one in which it is emptied. Assumes nothing.
use mathlib.Core.Path.{◌≡◌, refl, sym, ap, ap₂, ◌∙◌}
use mathlib.Core.List.{List, [], ◌∷◌}
use mathlib.Core.Logic.{inl}
use Prim.Native.Nat.{ℕ, zero, suc, ◌<◌}
use native.Mathlib.Decide.{ℕ_discrete}
use native.Mathlib.Omega.{arith}
use lib.IntN.{ℤ, pos, ◌+ℤ◌, ◌*ℤ◌}
use lib.ListN.{length, get_or, set, length-set}
use lib.Seq.{get_or-set_same, get_or-set_other}
use Rattle.model.specs.Lists.{All}
use Rattle.model.specs.Sheet.{Symbol, letter, field, Equation, Constraint, Sheet, coefficient}
use Rattle.model.specs.Word.{Substitution, text, Admits, symbol_word, spell, EquationHolds, weight, ConstraintHolds, Solves}
use Rattle.model.specs.Order.{total_length, IsFirst}
use Rattle.model.proofs.Lists.{weaken, each_same}
use Rattle.model.proofs.Words.{keeps_every}
use Rattle.model.proofs.Order.{steps_earlier}
use Rattle.model.proofs.ByFields.{field-there}

-- field f stands in no place of a template
abbrev pub Without : ℕ → List Symbol → Type 0
Without f t = All (λ x. x ≡ field f → ⊥) t

pub record Unasked (s : Sheet) (f : ℕ) : Type 0 where
  pub in_no_template : All (λ (e : Equation). Without f e.left × Without f e.right) s.equations
  pub in_no_constraint : All (λ (r : Constraint). coefficient r f ≡ pos 0) s.constraints

-- one field's text taken away
module _ (g : Substitution) (f : ℕ) (inside : f < length g) where
  abbrev emptied : Substitution
  emptied = set g f []

  -- what holds of the other fields' texts, and of an empty one
  by_field : (P : ℕ → List ℕ → Type 0) → P f [] → ((k : ℕ) → (k ≡ f → ⊥) → P k (text g k)) → (k : ℕ) → P k (text emptied k)
  by_field P empty others k = by (ℕ_discrete k f)
    where
      by : Dec (k ≡ f) → P k (text emptied k)
      by (yes e) = rw (e, get_or-set_same g f [] [] inside) empty
      by (no n) = rw (get_or-set_other g f k [] [] n) (others k n)

  spells_same : (t : List Symbol) → Without f t → spell emptied t ≡ spell g t
  unfolding spell
  spells_same t h = each_same (symbol_word emptied) (symbol_word g) t (weaken _ _ t one h)
    where
      one : (x : Symbol) → (x ≡ field f → ⊥) → symbol_word emptied x ≡ symbol_word g x
      one (letter a) k = refl
      one (field i) k = get_or-set_other g f i [] [] (λ e. k (ap field e))

  weighs_same : (r : Constraint) → coefficient r f ≡ pos 0 → (k : ℕ) → weight r emptied k ≡ weight r g k
  unfolding weight
  weighs_same r z zero = refl
  weighs_same r z (suc k) = ap₂ ◌+ℤ◌ (weighs_same r z k) (by_field (λ k t. coefficient r k *ℤ pos (length t) ≡ coefficient r k *ℤ pos (length (text g k))) (rw z (sym (zero_times (length (text g f))))) (λ i n. refl) k)
    where
      zero_times : (n : ℕ) → pos 0 *ℤ pos n ≡ pos 0
      zero_times n = ap pos (omega arith)

  emptied_solves : (s : Sheet) → Unasked s f → Solves s g → Solves s emptied
  unfolding All
  emptied_solves s u h = record {
    is_legal = record {
      one_each = length-set g f [] ∙ h.is_legal.one_each;
      admits = λ k l. by_field (λ k t. k < length s.limits → Admits (length s.letters) (get_or s.limits k 0) t) (λ _. none) (λ i n l. h.is_legal.admits i l) k l;
    };
    equations_hold = both (λ (e : Equation). Without f e.left × Without f e.right) (EquationHolds s g) (EquationHolds s emptied)
        (λ e w q. rw (spells_same e.left w.0, spells_same e.right w.1) q) s.equations u.in_no_template h.equations_hold;
    constraints_hold = both (λ (r : Constraint). coefficient r f ≡ pos 0) (ConstraintHolds s g) (ConstraintHolds s emptied)
        (λ r z q. rw (weighs_same r z (length s.limits)) q) s.constraints u.in_no_constraint h.constraints_hold;
    keeps_all = keeps_every s emptied;
  }
    where
      none : {l n : ℕ} → Admits l n []
      none = record { over_letters = tt; no_longer = omega arith }

      both : {A : Type 0} (P Q R : A → Type 0) → ((x : A) → P x → Q x → R x) → (xs : List A) → All P xs → All Q xs → All R xs
      both P Q R go [] p q = tt
      both P Q R go (x ∷ xs) p q = (go x p.0 q.0, both P Q R go xs p.1 q.1)

emptied_shorter : (g : Substitution) (f : ℕ) → 0 < length (text g f) → total_length (set g f []) < total_length g
unfolding total_length
emptied_shorter [] f h = absurd (omega arith)
emptied_shorter (t ∷ g) zero h = omega arith
emptied_shorter (t ∷ g) (suc f) h = let less = emptied_shorter g f h in omega arith

pub unasked_empty : (s : Sheet) (g : Substitution) → IsFirst s g → (f : ℕ) → Unasked s f → length (text g f) ≡ 0
unasked_empty s g first f u = by (ℕ_discrete (length (text g f)) 0)
  where
    by : Dec (length (text g f) ≡ 0) → length (text g f) ≡ 0
    by (yes e) = e
    by (no n) =
        let some : 0 < length (text g f) = omega arith in
        absurd (first.none_before (set g f []) (emptied_solves g f (field-there g f 0 some) s u first.is_solution) (steps_earlier (set g f []) g (inl (emptied_shorter g f some))))
