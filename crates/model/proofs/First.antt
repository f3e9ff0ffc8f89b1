-- The first solution of a sheet (document 02, No. 1), computed, and its laws: where there is a solution it is one, no solution comes before it, and it is
-- the only one of which that holds. Assumes nothing.
use mathlib.Core.Path.{◌≡◌, refl, sym, subst, ◌∙◌}
use mathlib.Core.Bool.{true}
use mathlib.Core.List.{List, [], ◌∷◌, map}
use mathlib.Core.Logic.{◌⊎◌, inl, inr}
use Prim.Native.Nat.{ℕ}
use lib.ListN.{length}
use Rattle.model.specs.Lists.{pick, starts_with, each, from, all, keep, All}
use Rattle.model.specs.Sheet.{Sheet, row, times, sides, an_equation, a_constraint, walk, width, signed, opening, read, sheet_in}
use Rattle.model.specs.Word.{Substitution, spell, Solves, weight, same_letter, same_word, equation_holds, constraint_holds, keeps, solves}
use Rattle.model.specs.Solvable.{all_texts, substitutions, every_legal}
use Rattle.model.specs.Order.{total_length, field_letters, ranks, Earlier, IsFirst, lex, earlier, earliest, earliest_of, first_solution}
use Rattle.model.proofs.Computed.{P, sheet}
use Rattle.model.proofs.Lists.{never, by_test, weaken}
use Rattle.model.proofs.Keeping.{keep_out, keep_in}
use Rattle.model.proofs.Words.{solves_out, solves_in}
use Rattle.model.proofs.Solvable.{every_legal_lem, listed-legal}
use Rattle.model.proofs.Order.{lex_out, lex_in, earlier_irreflexive, earlier_transitive, earlier_compare}

-- Computed: sheets, and the first of their solutions.
record Case : Type 0 where
  bytes : List ℕ
  first : Substitution

abbrev ◌first◌ : List ℕ → Substitution → Case
◌first◌ b g = record { bytes = b; first = g }

infix 5 ◌first◌
abbrev cases : List Case
cases =
    -- document 01's sheet P: X=A, the only one
    (P first (0 ∷ []) ∷ [])
    -- its example (e), AX against XA: X empty before X=A
    ∷ (sheet 2 1 1 0 (65 ∷ 66 ∷ 1 ∷ 2 ∷ 2 ∷ 0 ∷ 128 ∷ 128 ∷ 0 ∷ []) first [] ∷ [])
    -- its example (k), aXaY against aZXb: X empty, Y=b, Z=a
    ∷ (sheet 2 3 1 0 (97 ∷ 98 ∷ 1 ∷ 1 ∷ 1 ∷ 4 ∷ 4 ∷ 0 ∷ 128 ∷ 0 ∷ 129 ∷ 0 ∷ 130 ∷ 128 ∷ 1 ∷ []) first [] ∷ (1 ∷ []) ∷ (0 ∷ []) ∷ [])
    -- XY against YX, not both empty, and Z in no template: X empty, Y=A, Z empty
    ∷ (sheet 2 3 1 1 (65 ∷ 66 ∷ 1 ∷ 1 ∷ 1 ∷ 2 ∷ 2 ∷ 128 ∷ 129 ∷ 129 ∷ 128 ∷ 255 ∷ 255 ∷ 0 ∷ 255 ∷ 255 ∷ []) first [] ∷ (0 ∷ []) ∷ [] ∷ [])
    -- X and Y alone, and X not shorter than Y: X=A, and Y is empty
    ∷ (sheet 2 2 1 2 (65 ∷ 66 ∷ 1 ∷ 1 ∷ 2 ∷ 2 ∷ 128 ∷ 129 ∷ 129 ∷ 128 ∷ 255 ∷ 255 ∷ 255 ∷ 255 ∷ 255 ∷ 1 ∷ 0 ∷ 0 ∷ []) first (0 ∷ []) ∷ [] ∷ [])
    -- AA against XXZ, and Y in no template: X=A and no more, though with X empty Z=AA would do
    ∷ (sheet 1 3 1 0 (65 ∷ 2 ∷ 0 ∷ 2 ∷ 2 ∷ 3 ∷ 0 ∷ 0 ∷ 128 ∷ 128 ∷ 130 ∷ []) first (0 ∷ []) ∷ [] ∷ [] ∷ [])
    -- BA against YX: X empty and Y=BA, though X=A and Y=B have the lower letter first
    ∷ (sheet 2 2 1 0 (65 ∷ 66 ∷ 2 ∷ 2 ∷ 2 ∷ 2 ∷ 1 ∷ 0 ∷ 129 ∷ 128 ∷ []) first [] ∷ (1 ∷ 0 ∷ []) ∷ [])
    ∷ []

first_solutions : map (λ (c : Case). first_solution (sheet_in (read c.bytes))) cases ≡ map (λ (c : Case). c.first) cases
unfolding starts_with row times sides an_equation a_constraint walk width signed opening read each from all keep spell weight same_letter same_word equation_holds constraint_holds keeps solves all_texts substitutions total_length field_letters ranks lex earliest first_solution
first_solutions = refl

-- h does not come before g
abbrev NotBefore : Substitution → Substitution → Type 0
NotBefore g h = Earlier h g → ⊥

-- what is not before something that is not before g
later : (g h k : Substitution) → length h ≡ length k → NotBefore h k → NotBefore g h → NotBefore g k
later g h k n p q r = by (earlier_compare h k n)
  where
    by : (h ≡ k) ⊎ (Earlier h k ⊎ Earlier k h) → ⊥
    by (inl e) = q (subst (λ x. Earlier x g) (sym e) r)
    by (inr (inl e)) = q (earlier_transitive h k g e r)
    by (inr (inr e)) = p e

-- The earliest of a substitution and those of a list, all of so many fields, is one of them, and none of them comes before it.
earliest_one : (P : Substitution → Type 0) (g : Substitution) (hs : List Substitution) → P g → All P hs → P (earliest g hs)
unfolding earliest All
earliest_one P g [] p ps = p
earliest_one P g (h ∷ hs) p ps =
    by_test (earlier h g)
    (λ e. rw e (earliest_one P h hs ps.0 ps.1))
    (λ e. rw e (earliest_one P g hs p ps.1))

earliest-none : (k : ℕ) (g : Substitution) (hs : List Substitution) → length g ≡ k → All (λ h. length h ≡ k) hs → All (NotBefore (earliest g hs)) (g ∷ hs)
unfolding earliest All
earliest-none k g [] n ns = (earlier_irreflexive g, tt)
earliest-none k g (h ∷ hs) n ns =
    by_test (earlier h g)
    (λ e.
    let rest = earliest-none k h hs ns.0 ns.1 in
    subst (λ b. All (NotBefore (earliest (pick b h g) hs)) (g ∷ h ∷ hs)) (sym e) (later _ h g (ns.0 ∙ sym n) (λ q. earlier_irreflexive g (earlier_transitive g h g q (lex_out (ranks h) (ranks g) e))) rest.0, rest))
    (λ e.
    let rest = earliest-none k g hs n ns.1 in
    subst (λ b. All (NotBefore (earliest (pick b h g) hs)) (g ∷ h ∷ hs)) (sym e) (rest.0, (later _ g h (n ∙ sym ns.0) (λ q. never (sym e ∙ lex_in (ranks h) (ranks g) q)) rest.0, rest.1)))

module _ (s : Sheet) where
  abbrev solutions : List Substitution
  solutions = keep (solves s) (every_legal s)

  -- the list has the solutions and no others
  all_solve : All (Solves s) solutions
  all_solve = keep_in (Solves s) (solves s) (every_legal s) (weaken _ _ (every_legal s) (λ g l e. solves_out s g l e) (listed-legal s))

  each-listed : (P : Substitution → Type 0) → All P solutions → (g : Substitution) → Solves s g → P g
  each-listed P h g k = every_legal_lem s (λ g. solves s g ≡ true → P g) (keep_out P (solves s) (every_legal s) h) g k.is_legal (solves_in s g k)

  -- where there is a solution, the first is one, and none comes before it
  module _ (g : Substitution) (h : Solves s g) where
    first-solves : Solves s (first_solution s)
    unfolding first_solution All
    first-solves = by solutions all_solve (λ none. each-listed (λ _. ⊥) none g h)
      where
        by : (xs : List Substitution) → All (Solves s) xs → (All (λ _. ⊥) xs → ⊥) → Solves s (earliest_of xs)
        by [] ok some = absurd (some tt)
        by (x ∷ xs) ok some = earliest_one (Solves s) x xs ok.0 ok.1

    none-before-first : Earlier g (first_solution s) → ⊥
    unfolding first_solution All
    none-before-first = each-listed (NotBefore (first_solution s)) (by solutions all_solve) g h
      where
        by : (xs : List Substitution) → All (Solves s) xs → All (NotBefore (earliest_of xs)) xs
        by [] ok = tt
        by (x ∷ xs) ok = earliest-none (length s.limits) x xs ok.0.is_legal.one_each (weaken _ _ xs (λ y k. k.is_legal.one_each) ok.1)

  pub first-is-first : (g : Substitution) → Solves s g → IsFirst s (first_solution s)
  first-is-first g h = record { is_solution = first-solves g h; none_before = none-before-first }

  -- and it is the only one
  pub first-only : (g : Substitution) → IsFirst s g → g ≡ first_solution s
  first-only g f = by (earlier_compare g (first_solution s) (f.is_solution.is_legal.one_each ∙ sym earliest-is.is_solution.is_legal.one_each))
    where
      earliest-is : IsFirst s (first_solution s)
      earliest-is = first-is-first g f.is_solution

      by : (g ≡ first_solution s) ⊎ (Earlier g (first_solution s) ⊎ Earlier (first_solution s) g) → g ≡ first_solution s
      by (inl e) = e
      by (inr (inl e)) = absurd (earliest-is.none_before g f.is_solution e)
      by (inr (inr e)) = absurd (f.none_before (first_solution s) earliest-is.is_solution e)
