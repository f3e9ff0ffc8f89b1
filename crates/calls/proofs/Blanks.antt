-- Where the K clauses are met, no letter stands after a blank. Assumes nothing.
use mathlib.Core.Path.{◌≡◌, refl}
use mathlib.Core.Bool.{true}
use mathlib.Core.List.{map}
use Prim.Native.Nat.{ℕ, zero, suc, ◌+◌, ◌<◌}
use native.Mathlib.Omega.{arith}
use lib.Dec.{eqb}
use borrow.Author.Tests.{eq-eqb, eqb-true}
use Rattle.model.specs.Lists.{all, from, up_to}
use Rattle.model.specs.Sheet.{Sheet, limit}
use Rattle.formula.specs.Clause.{blank, fields}
use Rattle.formula.specs.Assignment.{Assignment, held}
use Rattle.calls.specs.Reply.{blanks_last}
use Rattle.model.proofs.Lists.{and_join, by_test}
use Rattle.formula.proofs.Named.{AtPlace}
use Rattle.formula.proofs.Terms.{named, Met}
use Rattle.formula.proofs.KClauses.{tail}

-- what the places hold: h c at place c, l being blank
module _ (l : ℕ) (h : ℕ → ℕ) (most : ℕ) (next : (c : ℕ) → suc c < most → h c ≡ l → h (suc c) ≡ l) where
  -- no letter stands after a blank
  only_blanks : (n c : ℕ) → suc c + n ≡ most → h c ≡ l → all (λ x. eqb x l) (map h (from (suc c) n)) ≡ true
  unfolding all from
  only_blanks zero c e q = refl
  only_blanks (suc n) c e q =
      let this = next c (omega arith) q in
      and_join (eq-eqb (h (suc c)) l this) (only_blanks n (suc c) (omega arith) this)

  last_blanks : (n c : ℕ) → c + n ≡ most → blanks_last l (map h (from c n)) ≡ true
  unfolding blanks_last from
  last_blanks zero c e = refl
  last_blanks (suc n) c e = by_test (eqb (h c) l)
      (λ t. rw t (only_blanks n c (omega arith) (eqb-true (h c) l t)))
      (λ t. rw t (last_blanks n (suc c) (omega arith)))

module _ (s : Sheet) (w : Assignment) (places : (f c : ℕ) → f < fields s → c < limit s f → AtPlace s (Met s (named s w)) f c) where
  pub blanks_last_lem : (f : ℕ) → f < fields s → blanks_last (blank s) (map (held s w f) (up_to (limit s f))) ≡ true
  blanks_last_lem f k = last_blanks (blank s) (held s w f) (limit s f) (tail s w places f k) (limit s f) 0 (omega arith)
