-- The number that a piece of a v line says: one law for each way that `read_number` returns. Assumes nothing.
use mathlib.Core.Path.{◌≡◌, refl, sym, ap, ◌∙◌}
use mathlib.Core.Bool.{Bool, true, false, ◌||◌}
use mathlib.Core.List.{List, [], ◌∷◌, ◌++◌}
use Prim.Native.Nat.{ℕ, ◌≤◌}
use native.Mathlib.Omega.{arith}
use lib.IntN.{pos, neg_ℤ}
use lib.ListN.{length, drop, get_or}
use Rattle.model.specs.Lists.{pick, same, starts_with}
use Rattle.formula.specs.Dimacs.{with_sign, value_of, numbers_from, numbers}
use Rattle.calls.specs.Reply.{magnitude, signless, is_number}
use Rattle.formula.proofs.Lines.{figures_read}
use Rattle.std.specs.Prelude.{Option, Some, None}
use Rattle.numerals.specs.declared.Number.TheVariants.{Plus, Minus}
use Rattle.numerals.specs.Said.{Said}
use Rattle.numerals.proofs.Firsts.{starts, starts_not, alone_not}
use Rattle.numerals.proofs.Digits.{valued, valued_none, valued_some, magnitude_figures, magnitude-value}

-- The number that a magnitude and the space after it say, with a minus or not.
magnitude-read : (minus : Bool) (ds others : List ℕ) → magnitude ds ≡ true
    → numbers_from minus 0 (ds ++ (32 ∷ others)) ≡ with_sign minus (value_of ds) ∷ numbers others
unfolding numbers_from
magnitude-read minus ds others h = figures_read minus 0 ds (32 ∷ others) (magnitude_figures ds h)

-- A piece: empty; 0; with a minus; without one.
pub said_empty : (p : List ℕ) → length p ≡ 0 → Said p None
unfolding is_number same starts_with
said_empty [] h = refl
said_empty (x ∷ p) h = absurd (omega arith)

pub said_nought : (p : List ℕ) → length p ≡ 1 → get_or p 0 0 ≡ 48 → Said p (Some (Plus 0))
unfolding is_number same numbers_from
said_nought [] h e = absurd (omega arith)
said_nought (x ∷ []) h e = rw e ((refl, λ others. refl))
said_nought (x ∷ y ∷ p) h e = absurd (omega arith)

minus_number : (p : List ℕ) → 1 ≤ length p → get_or p 0 0 ≡ 45 → is_number p ≡ magnitude (drop 1 p)
unfolding is_number
minus_number p l e =
    ap (λ b. b || magnitude (signless p)) (alone_not 48 p (λ f n. omega arith)) ∙ ap (λ b. magnitude (pick b (drop 1 p) p)) (starts 45 p l e)

minus_begins : (p : List ℕ) → 1 ≤ length p → get_or p 0 0 ≡ 45 → (others : List ℕ)
    → numbers (p ++ (32 ∷ others)) ≡ numbers_from true 0 (drop 1 p ++ (32 ∷ others))
unfolding numbers_from
minus_begins [] l e others = absurd (omega arith)
minus_begins (x ∷ p) l e others = rw e

module _ (p : List ℕ) (l : 1 ≤ length p) (first : get_or p 0 0 ≡ 45) (v : Option ℕ) (is : v ≡ valued (drop 1 p)) where
  pub said_no_minus : v ≡ None → Said p None
  said_no_minus z = minus_number p l first ∙ valued_none (drop 1 p) v is z

  pub said_minus : (n : ℕ) → v ≡ Some n → Said p (Some (Minus n))
  said_minus n z =
      let r = valued_some (drop 1 p) v is n z in
      let e = r.1 in
      let h = magnitude-value (drop 1 p) r.0 in (
        minus_number p l first ∙ r.0,
        omega arith,
        λ others.
            minus_begins p l first others ∙ magnitude-read true (drop 1 p) others r.0 ∙ ap (λ k. neg_ℤ (pos k) ∷ numbers others) (sym e),
      )

plus_number : (p : List ℕ) → (get_or p 0 0 ≡ 45 → ⊥) → (get_or p 0 0 ≡ 48 → length p ≡ 1 → ⊥) → is_number p ≡ magnitude p
unfolding is_number
plus_number p f z =
    ap (λ b. b || magnitude (signless p)) (alone_not 48 p z) ∙ ap (λ b. magnitude (pick b (drop 1 p) p)) (starts_not 45 p f)

module _ (p : List ℕ) (first : get_or p 0 0 ≡ 45 → ⊥) (more : get_or p 0 0 ≡ 48 → length p ≡ 1 → ⊥) (v : Option ℕ) (is : v ≡ valued p) where
  pub said_none : v ≡ None → Said p None
  said_none z = plus_number p first more ∙ valued_none p v is z

  pub said_plus : (n : ℕ) → v ≡ Some n → Said p (Some (Plus n))
  said_plus n z =
      let r = valued_some p v is n z in
      (plus_number p first more ∙ r.0, λ others. magnitude-read false p others r.0 ∙ ap (λ k. pos k ∷ numbers others) (sym r.1))
