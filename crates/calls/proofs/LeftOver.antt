-- Document 02, No. 5 (docs/02-change-requests.md), "Show what is left over", each sentence above the theorems that state it. What is said of checking is of
-- bytes, and of what the call's contract says. Assumes nothing.
use mathlib.Core.Path.{◌≡◌, refl, sym, ap, subst, ◌∙◌}
use mathlib.Core.Logic.{◌↔◌}
use mathlib.Core.Bool.{true}
use mathlib.Core.List.{List, [], ◌∷◌, ◌++◌}
use Prim.Native.Nat.{ℕ, zero, suc, ◌+◌, ◌<◌, ◌≤◌}
use native.Mathlib.Omega.{arith}
use lib.Dec.{ltb}
use lib.IntN.{pos}
use lib.ListN.{length, take, length-drop, take-append-drop}
use borrow.Author.Tests.{ltb-true, ltb-false}
use Rattle.model.specs.Lists.{All, Bytes}
use Rattle.model.specs.Sheet as sheet
use Rattle.model.specs.Sheet.{Sheet, Equation, Step, got, fault, Reading, read, equation, constraint, sheet_of}
use Rattle.model.specs.Word.{Substitution, spell, SameWord, EquationHolds, ConstraintHolds, Solves, equation_holds, constraint_holds, solves}
use Rattle.model.specs.Mismatch.{agreeing, rest_side, rest_word, Judgement, solution, differs, breaks, is_solution, first_pair, judged}
use Rattle.model.specs.Filling.{filling}
use Rattle.calls.specs.Calls.{finished, of_sheet, of_filling, judgement_values, checking, verdict, decision}
use Rattle.model.proofs.Lists.{never, by_test, weaken, all_out, all_in}
use Rattle.model.proofs.Known.{accepted_in_range}
use Rattle.model.proofs.Templates.{template-room}
use Rattle.model.proofs.Words.{same-word-equal, equal-same-word, equation_out, equation_in, constraint_out, constraint_in}
use Rattle.model.proofs.Mismatches.{agree_left, agree_right, agree_same, agree-most, rest-left, rest-right, same-all-agree, same-none-left, none-left-same}
use Rattle.model.proofs.Leading.{all_lead, not_all_lead, leading_have, leading_has_not, leading-first}
use Rattle.model.proofs.Judged.{solves-judged, PairTold, RuleTold, told_pair, pair_told, told_rule, rule_told}
use Rattle.calls.proofs.Passed.{decides, FillingOf, checking_judges, passed_solves}
use Rattle.calls.proofs.Operations.{same-values}

-- "The comparison of two texts now gives how many letters agree from the start": so many letters of both are the same text, and no more are.
pub record Agree (s : Sheet) (u w : List ℕ) (n : ℕ) : Type 0 where
  pub of_left : n ≤ length u
  pub of_right : n ≤ length w
  pub same : SameWord s (take n u) (take n w)
  pub no_more : (k : ℕ) → k ≤ length u → k ≤ length w → SameWord s (take k u) (take k w) → k ≤ n

module _ (s : Sheet) (u w : List ℕ) where
  pub letters_that_agree : (n : ℕ) → (n ≡ agreeing s u w) ↔ Agree s u w n
  letters_that_agree n = (
    (λ e. subst (Agree s u w) (sym e) (record { of_left = agree_left s u w; of_right = agree_right s u w; same = agree_same s u w; no_more = agree-most s u w })),
    λ a.
        let h = agree-most s u w n a.of_left a.of_right a.same in
        let k = a.no_more (agreeing s u w) (agree_left s u w) (agree_right s u w) (agree_same s u w) in
        omega arith,
  )

  -- "and the unmatched rest of the left or right text is handed over": a text is its letters that agree, and the rest. "It is the left rest,"
  pub the_left-rest : agreeing s u w < length u → (rest_side s u w ≡ 0) × (take (agreeing s u w) u ++ rest_word s u w ≡ u)
  the_left-rest h = let r = rest-left s u w h in (r.0, ap (λ t. take (agreeing s u w) u ++ t) r.1 ∙ take-append-drop (agreeing s u w) u)

  -- "unless the left text is used up; then it is the right rest,"
  pub unless_the_left-text-is-used_up : agreeing s u w ≡ length u → (rest_side s u w ≡ 1) × (take (agreeing s u w) w ++ rest_word s u w ≡ w)
  unless_the_left-text-is-used_up e =
      let r = rest-right s u w (omega arith) in
      (r.0, ap (λ t. take (agreeing s u w) w ++ t) r.1 ∙ take-append-drop (agreeing s u w) w)

  -- "which may be empty": it is so exactly when the two are the same text, and then the left text is used up.
  pub nothing-left_exactly : SameWord s u w ↔ (rest_word s u w ≡ [])
  nothing-left_exactly = (same-none-left s u w, λ e. none-left-same s u w (ap length e))

  pub all-letters-agree : SameWord s u w → (agreeing s u w ≡ length u) × (rest_side s u w ≡ 1)
  all-letters-agree h = let e = same-all-agree s u w h in (e, (rest-right s u w (omega arith)).0)

-- "for the first pair that differs, the pair's number, the count of agreeing letters, and the side and length of the rest"
pub record FirstDiffers (s : Sheet) (g : Substitution) (p n side rest : ℕ) : Type 0 where
  pub is_pair : p < length s.equations
  pub same_before : All (EquationHolds s g) (take p s.equations)
  pub not_the_same : EquationHolds s g (equation s p) → ⊥
  pub count : n ≡ agreeing s (spell g (equation s p).left) (spell g (equation s p).right)
  pub on_side : side ≡ rest_side s (spell g (equation s p).left) (spell g (equation s p).right)
  pub left_over : rest ≡ length (rest_word s (spell g (equation s p).left) (spell g (equation s p).right))

-- "or else the number of the first rule broken"
pub record FirstBroken (s : Sheet) (g : Substitution) (r : ℕ) : Type 0 where
  pub same_texts : All (EquationHolds s g) s.equations
  pub is_rule : r < length s.constraints
  pub hold_before : All (ConstraintHolds s g) (take r s.constraints)
  pub does_not_hold : ConstraintHolds s g (constraint s r) → ⊥

module _ (s : Sheet) (g : Substitution) where
  -- as `Judged.antt` has the two
  pair_out : (p n side rest : ℕ) → PairTold s g p n side rest → FirstDiffers s g p n side rest
  pair_out p n side rest t = record {
    is_pair = t.is_pair;
    same_before = leading_have (equation_holds s g) (EquationHolds s g) (equation_out s g) (equation_in s g) s.equations p t.is_first;
    not_the_same = leading_has_not (equation_holds s g) (EquationHolds s g) (equation_out s g) (equation_in s g) s.equations p (record { left = []; right = [] }) t.is_first t.is_pair;
    count = t.agree;
    on_side = t.on_side;
    left_over = t.left_over;
  }

  pair_in : (p n side rest : ℕ) → FirstDiffers s g p n side rest → PairTold s g p n side rest
  pair_in p n side rest f = record {
    is_first = leading-first (equation_holds s g) (EquationHolds s g) (equation_out s g) (equation_in s g) s.equations p (record { left = []; right = [] }) f.is_pair f.same_before f.not_the_same;
    is_pair = f.is_pair;
    agree = f.count;
    on_side = f.on_side;
    left_over = f.left_over;
  }

  rule_out : (r : ℕ) → RuleTold s g r → FirstBroken s g r
  rule_out r t = record {
    same_texts = weaken _ (EquationHolds s g) s.equations (equation_out s g) (all_out (equation_holds s g) s.equations (all_lead (equation_holds s g) s.equations t.pairs_hold));
    is_rule = t.is_rule;
    hold_before = leading_have (constraint_holds s g) (ConstraintHolds s g) (constraint_out s g) (constraint_in s g) s.constraints r t.is_first;
    does_not_hold = leading_has_not (constraint_holds s g) (ConstraintHolds s g) (constraint_out s g) (constraint_in s g) s.constraints r (record { coefficients = []; most = pos 0 }) t.is_first t.is_rule;
  }

  rule_in : (r : ℕ) → FirstBroken s g r → RuleTold s g r
  rule_in r f = record {
    pairs_hold = by_test (ltb (first_pair s g) (length s.equations))
        (λ t. never (
        sym (not_all_lead (equation_holds s g) s.equations (ltb-true (first_pair s g) (length s.equations) t))
        ∙ all_in (equation_holds s g) s.equations (weaken (EquationHolds s g) _ s.equations (equation_in s g) f.same_texts)))
        (λ t. ltb-false (first_pair s g) (length s.equations) t);
    is_first = leading-first (constraint_holds s g) (ConstraintHolds s g) (constraint_out s g) (constraint_in s g) s.constraints r (record { coefficients = []; most = pos 0 }) f.is_rule f.hold_before f.does_not_hold;
    is_rule = f.is_rule;
  }

-- the values tell the case
pair_values : (j : Judgement) (p n side rest : ℕ) → judgement_values j ≡ 0 ∷ 1 ∷ p ∷ n ∷ side ∷ rest ∷ [] → j ≡ differs p n side rest
pair_values solution p n side rest e = let z : ◌≡◌ {A = ℕ} 1 0 = cc in absurd (omega arith)
pair_values (differs p' n' side' rest') p n side rest e = cc
pair_values (breaks r) p n side rest e = let z : ◌≡◌ {A = ℕ} 2 1 = cc in absurd (omega arith)

rule_values : (j : Judgement) (r : ℕ) → judgement_values j ≡ 0 ∷ 2 ∷ r ∷ 0 ∷ 0 ∷ 0 ∷ [] → j ≡ breaks r
rule_values solution r e = let z : ◌≡◌ {A = ℕ} 1 0 = cc in absurd (omega arith)
rule_values (differs p n side rest) r e = let z : ◌≡◌ {A = ℕ} 1 2 = cc in absurd (omega arith)
rule_values (breaks r') r e = cc

module _ (b m : List ℕ) (y : Bytes b) (g : Substitution) (h : FillingOf b m g) where
  values : {vs : List ℕ} → checking b m ≡ finished vs → judgement_values (judged (sheet_of b) g) ≡ vs
  values e = same-values (sym (checking_judges b m y g h) ∙ e)

  -- "Checking a filling gives, for the first pair that differs, .."
  pub for_the_first_pair_that_differs : (p n side rest : ℕ) → (checking b m ≡ finished (0 ∷ 1 ∷ p ∷ n ∷ side ∷ rest ∷ [])) ↔ FirstDiffers (sheet_of b) g p n side rest
  for_the_first_pair_that_differs p n side rest = (
    (λ e. pair_out (sheet_of b) g p n side rest (pair_told (sheet_of b) g p n side rest (pair_values (judged (sheet_of b) g) p n side rest (values e)))),
    λ f. checking_judges b m y g h ∙ ap (λ j. finished (judgement_values j)) (told_pair (sheet_of b) g p n side rest (pair_in (sheet_of b) g p n side rest f)),
  )

  -- "or else the number of the first rule broken."
  pub or_else_for_the_first_rule_broken : (r : ℕ) → (checking b m ≡ finished (0 ∷ 2 ∷ r ∷ 0 ∷ 0 ∷ 0 ∷ [])) ↔ FirstBroken (sheet_of b) g r
  or_else_for_the_first_rule_broken r = (
    (λ e. rule_out (sheet_of b) g r (rule_told (sheet_of b) g r (rule_values (judged (sheet_of b) g) r (values e)))),
    λ f. checking_judges b m y g h ∙ ap (λ j. finished (judgement_values j)) (told_rule (sheet_of b) g r (rule_in (sheet_of b) g r f)),
  )

  -- What is left over of a pair that differs is never nothing; and the numbers are those of a text, which has at most 24 letters.
  pub something_is-left_over : (p n side rest : ℕ) → FirstDiffers (sheet_of b) g p n side rest → 1 ≤ rest
  something_is-left_over p n side zero f = absurd (f.not_the_same (none-left-same (sheet_of b) _ _ (sym f.left_over)))
  something_is-left_over p n side (suc rest) f = omega arith

  pub numbers_of_a-text : (p n side rest : ℕ) → FirstDiffers (sheet_of b) g p n side rest → (side ≤ 1) × (n + rest ≤ 24)
  numbers_of_a-text p n side rest f =
      let s = sheet_of b in
      let u = spell g (equation s p).left in
      let w = spell g (equation s p).right in
      let room = template-room s (accepted_in_range b y h.accepted) p f.is_pair g h.legal in
      by_test (ltb (agreeing s u w) (length u))
      (λ t.
      let r = rest-left s u w (ltb-true (agreeing s u w) (length u) t) in
      (omega (arith, f.on_side, r.0), omega (arith, f.count, f.left_over, ap length r.1, length-drop (agreeing s u w) u, agree_left s u w, room 0)))
      (λ t.
      let r = rest-right s u w (ltb-false (agreeing s u w) (length u) t) in
      (omega (arith, f.on_side, r.0), omega (arith, f.count, f.left_over, ap length r.1, length-drop (agreeing s u w) w, agree_right s u w, room 1)))

  -- There is no other answer to a filling: a clash, a pair that differs, or a rule broken.
  pub data Told : Type 0 where
    a_clash : checking b m ≡ finished (1 ∷ []) → Solves (sheet_of b) g → Told
    a_pair : (p n side rest : ℕ) → checking b m ≡ finished (0 ∷ 1 ∷ p ∷ n ∷ side ∷ rest ∷ []) → FirstDiffers (sheet_of b) g p n side rest → Told
    a_rule : (r : ℕ) → checking b m ≡ finished (0 ∷ 2 ∷ r ∷ 0 ∷ 0 ∷ 0 ∷ []) → FirstBroken (sheet_of b) g r → Told

  pub no_other_answer : Told
  no_other_answer = by_case (judged (sheet_of b) g) (checking_judges b m y g h)
    where
      by_case : (j : Judgement) → checking b m ≡ finished (judgement_values j) → Told
      by_case solution e = a_clash e (passed_solves b m y g h e)
      by_case (differs p n side rest) e = a_pair p n side rest e ((for_the_first_pair_that_differs p n side rest).0 e)
      by_case (breaks r) e = a_rule r e ((or_else_for_the_first_rule_broken r).0 e)

-- "Search and reply use the same comparison and answer as before." What both ask of a filling is whether it solves the sheet. A pair holds where nothing is left
-- over, and that is where its two texts are equal, as before; a filling solves the sheet where no cause is told.
pub the_same_comparison : (s : Sheet) (g : Substitution) (e : Equation) → EquationHolds s g e ↔ (rest_word s (spell g e.left) (spell g e.right) ≡ [])
the_same_comparison s g e = nothing-left_exactly s (spell g e.left) (spell g e.right)

pub equal-texts_as_before : (s : Sheet) (g : Substitution) (e : Equation) → EquationHolds s g e ↔ (spell g e.left ≡ spell g e.right)
equal-texts_as_before s g e = (same-word-equal s (spell g e.left) (spell g e.right), equal-same-word s (spell g e.left) (spell g e.right))

pub the_same_test : (s : Sheet) (g : Substitution) → (solves s g ≡ true) ↔ (judged s g ≡ solution)
the_same_test s g = ((λ e. only (judged s g) (sym (solves-judged s g) ∙ e)), λ e. solves-judged s g ∙ ap is_solution e)
  where
    only : (j : Judgement) → is_solution j ≡ true → j ≡ solution
    only solution e = refl
    only (differs p n side rest) e = never e
    only (breaks r) e = never e

-- Checking too answers as before where it answers one number: clash or no clash, or the refusal, on all bytes.
pub as_before : (b m : List ℕ) → decision (checking b m) ≡ of_sheet (read b) (λ s. of_filling (filling s m) (λ g. verdict (solves s g)))
unfolding checking
as_before b m = by_sheet (read b)
  where
    by_filling : (s : Sheet) (w : Step Substitution) → decision (of_filling w (λ g. finished (judgement_values (judged s g)))) ≡ of_filling w (λ g. verdict (solves s g))
    by_filling s (got g xs) = decides (judged s g) ∙ sym (ap verdict (solves-judged s g))
    by_filling s (fault n) = refl

    by_sheet : (r : Reading) → decision (of_sheet r (λ s. of_filling (filling s m) (λ g. finished (judgement_values (judged s g))))) ≡ of_sheet r (λ s. of_filling (filling s m) (λ g. verdict (solves s g)))
    by_sheet (sheet.accepted s) = by_filling s (filling s m)
    by_sheet (sheet.refused n) = refl
