-- What a substitution comes to (specs/Mismatch): a solution exactly when the tests of specs/Word pass; and by its cases, as code goes through them and as
-- document 02's No. 5 tells them. Assumes nothing.
use mathlib.Core.Path.{◌≡◌, refl, sym, ap, ap₂, subst, ◌∙◌}
use mathlib.Core.Bool.{false, ◌&&◌}
use Prim.Native.Nat.{ℕ, ◌<◌, ◌≤◌}
use native.Mathlib.Omega.{arith}
use lib.Dec.{ltb}
use lib.ListN.{length}
use borrow.Author.Tests.{ltb-true, ltb-false, lt-ltb, le-ltb}
use Rattle.model.specs.Lists.{all}
use Rattle.model.specs.Sheet.{Sheet, equation}
use Rattle.model.specs.Word.{Substitution, spell, equation_holds, constraint_holds, solves}
use Rattle.model.specs.Mismatch.{agreeing, rest_side, rest_word, Judgement, solution, differs, breaks, is_solution, difference, first_pair, first_rule, judged}
use Rattle.model.proofs.Lists.{never, by_test}
use Rattle.model.proofs.Leading.{all_lead, not_all_lead}
use Rattle.model.proofs.Words.{solves-parts}

-- the cases exclude each other
not_both : {P : Type 0} {p n side rest r : ℕ} → differs p n side rest ≡ breaks r → P
not_both z = let k : ◌≡◌ {A = ℕ} 0 1 = cc in absurd (omega arith)

no-solution : {P : Type 0} (j : Judgement) → is_solution j ≡ false → solution ≡ j → P
no-solution j e z = never (sym e ∙ sym (ap is_solution z))

same_numbers : {p n side rest p' n' side' rest' : ℕ} → differs p n side rest ≡ differs p' n' side' rest' → (p ≡ p') × (n ≡ n') × (side ≡ side') × (rest ≡ rest')
same_numbers z = (cc, cc, cc, cc)

module _ (s : Sheet) (g : Substitution) where
  pub judged-differs : first_pair s g < length s.equations
      → let p = first_pair s g in judged s g ≡ difference s p (spell g (equation s p).left) (spell g (equation s p).right)
  unfolding judged
  judged-differs h = rw (lt-ltb (first_pair s g) (length s.equations) h)

  module _ (h : length s.equations ≤ first_pair s g) where
    pub judged-breaks : first_rule s g < length s.constraints → judged s g ≡ breaks (first_rule s g)
    unfolding judged
    judged-breaks k = rw (le-ltb (first_pair s g) (length s.equations) h, lt-ltb (first_rule s g) (length s.constraints) k)

    pub judged-solution : length s.constraints ≤ first_rule s g → judged s g ≡ solution
    unfolding judged
    judged-solution k = rw (le-ltb (first_pair s g) (length s.equations) h, le-ltb (first_rule s g) (length s.constraints) k)

  -- what holds in each of the three cases holds of what it comes to
  judged_by_cases : (P : Judgement → Type 0)
      → (first_pair s g < length s.equations → let p = first_pair s g in P (difference s p (spell g (equation s p).left) (spell g (equation s p).right)))
      → (length s.equations ≤ first_pair s g → first_rule s g < length s.constraints → P (breaks (first_rule s g)))
      → (length s.equations ≤ first_pair s g → length s.constraints ≤ first_rule s g → P solution)
      → P (judged s g)
  judged_by_cases P pair rule none = by_test (ltb (first_pair s g) (length s.equations))
      (λ t.
      let h = ltb-true (first_pair s g) (length s.equations) t in
      subst P (sym (judged-differs h)) (pair h))
      (λ t.
      let h = ltb-false (first_pair s g) (length s.equations) t in
      by_test (ltb (first_rule s g) (length s.constraints))
      (λ q.
      let k = ltb-true (first_rule s g) (length s.constraints) q in
      subst P (sym (judged-breaks h k)) (rule h k))
      (λ q.
      let k = ltb-false (first_rule s g) (length s.constraints) q in
      subst P (sym (judged-solution h k)) (none h k)))

  pub solves-judged : solves s g ≡ is_solution (judged s g)
  solves-judged = solves-parts s g ∙ judged_by_cases (λ j. (all (equation_holds s g) s.equations && all (constraint_holds s g) s.constraints) ≡ is_solution j)
      (λ h. rw (not_all_lead (equation_holds s g) s.equations h) refl)
      (λ h k. rw (all_lead (equation_holds s g) s.equations h) (not_all_lead (constraint_holds s g) s.constraints k))
      (λ h k. rw (all_lead (equation_holds s g) s.equations h) (all_lead (constraint_holds s g) s.constraints k))

  -- what is told of a pair, and of a rule: the first that differs, and else the first broken
  pub record PairTold (p n side rest : ℕ) : Type 0 where
    pub is_first : first_pair s g ≡ p
    pub is_pair : p < length s.equations
    pub agree : n ≡ agreeing s (spell g (equation s p).left) (spell g (equation s p).right)
    pub on_side : side ≡ rest_side s (spell g (equation s p).left) (spell g (equation s p).right)
    pub left_over : rest ≡ length (rest_word s (spell g (equation s p).left) (spell g (equation s p).right))

  pub record RuleTold (r : ℕ) : Type 0 where
    pub pairs_hold : length s.equations ≤ first_pair s g
    pub is_first : first_rule s g ≡ r
    pub is_rule : r < length s.constraints

  module _ (p n side rest : ℕ) where
    pub told_pair : PairTold p n side rest → judged s g ≡ differs p n side rest
    told_pair t =
        let e = t.is_first in
        judged-differs (omega (arith, e, t.is_pair))
        ∙ ap (λ k. difference s k (spell g (equation s k).left) (spell g (equation s k).right)) e
        ∙ sym (ap₂ (λ a k. differs p a k (length (rest_word s (spell g (equation s p).left) (spell g (equation s p).right)))) t.agree t.on_side)
        ∙ sym (ap (differs p n side) t.left_over)

    pub pair_told : judged s g ≡ differs p n side rest → PairTold p n side rest
    pair_told e = judged_by_cases (λ j. j ≡ differs p n side rest → PairTold p n side rest) same_pair (λ h k z. not_both (sym z)) (λ h k. no-solution (differs p n side rest) refl) e
      where
        same_pair : first_pair s g < length s.equations
            → difference s (first_pair s g) (spell g (equation s (first_pair s g)).left) (spell g (equation s (first_pair s g)).right) ≡ differs p n side rest → PairTold p n side rest
        same_pair h z =
            let q = same_numbers z in
            record {
              is_first = q.0;
              is_pair = subst (λ k. k < length s.equations) q.0 h;
              agree = sym q.1 ∙ ap (λ k. agreeing s (spell g (equation s k).left) (spell g (equation s k).right)) q.0;
              on_side = sym q.2 ∙ ap (λ k. rest_side s (spell g (equation s k).left) (spell g (equation s k).right)) q.0;
              left_over = sym q.3 ∙ ap (λ k. length (rest_word s (spell g (equation s k).left) (spell g (equation s k).right))) q.0;
            }

  module _ (r : ℕ) where
    pub told_rule : RuleTold r → judged s g ≡ breaks r
    told_rule t = judged-breaks t.pairs_hold (omega (arith, t.is_first, t.is_rule)) ∙ ap breaks t.is_first

    pub rule_told : judged s g ≡ breaks r → RuleTold r
    rule_told e = judged_by_cases (λ j. j ≡ breaks r → RuleTold r)
        (λ h z. not_both z)
        (λ h k z. let i : first_rule s g ≡ r = cc in record { pairs_hold = h; is_first = i; is_rule = omega arith })
        (λ h k. no-solution (breaks r) refl) e
