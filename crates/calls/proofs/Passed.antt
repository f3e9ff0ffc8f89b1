-- Demands 1 and 2, of fillings and spelled texts: what `checking` and `spelling` answer, over `Solves` and `spell`, and that they finish
-- exactly when no refusal applies. Assumes nothing.
use mathlib.Core.Path.{◌≡◌, refl, sym, ap, subst, ◌∙◌}
use mathlib.Core.Bool.{Bool, true, false}
use mathlib.Core.List.{List, [], ◌∷◌}
use Prim.Native.Nat.{ℕ, ◌<◌, ◌≤◌}
use native.Mathlib.Omega.{arith}
use lib.Dec.{leb, ltb}
use lib.ListN.{length, length-map}
use borrow.Author.Tests.{ltb-true, leb-true}
use Rattle.model.specs.Lists.{Bytes}
use Rattle.model.specs.Sheet.{Sheet, got, letter_of, equation, template, Accepted, sheet_of}
use Rattle.model.specs.Word.{Substitution, Legal, letter_bytes, spell, EquationHolds, Solves, solves}
use Rattle.model.specs.Mismatch.{Judgement, solution, differs, breaks, is_solution, judged}
use Rattle.model.specs.Filling.{filling, encode_filling}
use Rattle.calls.specs.Report.{labelled_line, pair_name, pair_line}
use Rattle.calls.specs.Calls.{finished, judgement_values, verdict, checking, decision, spelling, spelling_of, spelled_text}
use Rattle.model.proofs.Lists.{never, by_test, at}
use Rattle.model.proofs.Known.{accepted_in_range}
use Rattle.model.proofs.Fillings.{filling_reads, filling_exact}
use Rattle.model.proofs.Words.{same-word-equal, solves_out, solves_in}
use Rattle.model.proofs.Judged.{solves-judged}
use Rattle.model.proofs.Templates.{template-room}
use Rattle.calls.proofs.Operations.{sheet_accepted, sheet_finished, required, filling-finished, spelling_on, spelling-text, same-values}

-- the answer tells whether the test passes
pub verdict-same : (t u : Bool) → verdict t ≡ verdict u → t ≡ u
verdict-same true true e = refl
verdict-same false false e = refl
verdict-same true false e = let z : ◌≡◌ {A = ℕ} 0 1 = cc in absurd (omega arith)
verdict-same false true e = let z : ◌≡◌ {A = ℕ} 0 1 = cc in absurd (omega arith)

-- 1 for a solution, and 0 first for all else
pub decides : (j : Judgement) → decision (finished (judgement_values j)) ≡ verdict (is_solution j)
decides solution = refl
decides (differs p agree side rest) = refl
decides (breaks r) = refl

passes : (j : Judgement) → is_solution j ≡ true → judgement_values j ≡ 1 ∷ []
passes solution e = refl
passes (differs p agree side rest) e = never e
passes (breaks r) e = never e

-- The bytes m are a filling of the accepted sheet b: those of a legal substitution g.
pub record FillingOf (b m : List ℕ) (g : Substitution) : Type 0 where
  pub accepted : Accepted b
  pub legal : Legal (sheet_of b) g
  pub bytes : m ≡ encode_filling g

module _ (b m : List ℕ) (y : Bytes b) where
  -- "If none applies, the call finishes and is not refused": the answer is the decision.
  module _ (g : Substitution) (h : FillingOf b m g) where
    pub filling-read : filling (sheet_of b) m ≡ got g []
    filling-read = ap (filling (sheet_of b)) h.bytes ∙ filling_reads (sheet_of b) g (accepted_in_range b y h.accepted) h.legal

    pub checking_judges : checking b m ≡ finished (judgement_values (judged (sheet_of b) g))
    unfolding checking
    checking_judges = sheet_accepted b _ h.accepted ∙ rw filling-read

    pub checking_decides : decision (checking b m) ≡ verdict (solves (sheet_of b) g)
    checking_decides = ap decision checking_judges ∙ decides (judged (sheet_of b) g) ∙ sym (ap verdict (solves-judged (sheet_of b) g))

    -- "A filling is passed exactly when it solves the sheet as a bounded word equation with linear length constraints."
    pub solves_passed : Solves (sheet_of b) g → checking b m ≡ finished (1 ∷ [])
    solves_passed k = checking_judges ∙ ap finished (passes (judged (sheet_of b) g) (sym (solves-judged (sheet_of b) g) ∙ solves_in (sheet_of b) g k))

    pub passed_solves : checking b m ≡ finished (1 ∷ []) → Solves (sheet_of b) g
    passed_solves e = solves_out (sheet_of b) g h.legal (verdict-same (solves (sheet_of b) g) true (sym checking_decides ∙ ap decision e))

    -- and else the answer is "no clash"
    pub fails_not_passed : (Solves (sheet_of b) g → ⊥) → decision (checking b m) ≡ verdict false
    fails_not_passed k = by_test (solves (sheet_of b) g)
        (λ t. absurd (k (solves_out (sheet_of b) g h.legal t)))
        (λ t. checking_decides ∙ ap verdict t)

    -- "Spelled texts .. are byte for byte those document 01 defines": the letter bytes of the word.
    pub spelled-text : (p side room : ℕ) → p < length (sheet_of b).equations → side ≤ 1 → length (spelled_text (sheet_of b) p side g) ≤ room
        → spelling b p side m room ≡ finished (letter_bytes (sheet_of b) (spell g (template (sheet_of b) p side)))
    spelled-text p side room i j k = spelling_on b p side m room h.accepted i j ∙ spelling-text (sheet_of b) p side m room filling-read k

  -- "If a sheet, a filling, a pair, side .. number .. breaks a rule .., or a lent buffer is too short, the call returns the first refusal
  -- number": a check that finishes is of an accepted sheet and a filling of it.
  pub record Answered : Type 0 where
    pub substitution : Substitution
    pub is_filling : FillingOf b m substitution

  pub answered : {vs : List ℕ} → checking b m ≡ finished vs → Answered
  unfolding checking
  answered e =
      let ok = sheet_finished b _ e in
      let w = filling-finished (filling (sheet_of b) m) _ (sym (sheet_accepted b _ ok) ∙ e) in
      let x = filling_exact (sheet_of b) m (accepted_in_range b y ok) w.read_as in
      record { substitution = w.value; is_filling = record { accepted = ok; legal = x.legal; bytes = x.bytes } }

  -- And a spelling that finishes is of a side of a pair of such a sheet, and its text is the word, which fits the buffer.
  pub record Spelled (p side room : ℕ) (text : List ℕ) : Type 0 where
    pub substitution : Substitution
    pub is_filling : FillingOf b m substitution
    pub is_pair : p < length (sheet_of b).equations
    pub is_side : side ≤ 1
    pub is_text : text ≡ spelled_text (sheet_of b) p side substitution
    pub fits : length text ≤ room

  pub spelling-answered : (p side room : ℕ) {text : List ℕ} → spelling b p side m room ≡ finished text → Spelled p side room text
  unfolding spelling spelling_of
  spelling-answered p side room {text} e =
      let ok = sheet_finished b _ e in
      let s = sheet_of b in
      let pair = required (ltb p (length s.equations)) 24 _ (sym (sheet_accepted b _ ok) ∙ e) in
      let sides = required (leb side 1) 25 _ pair.1 in
      let w = filling-finished (filling s m) _ sides.1 in
      let x = filling_exact s m (accepted_in_range b y ok) w.read_as in
      let t = required (leb (length (spelled_text s p side w.value)) room) 26 _ w.answers in
      let same = same-values t.1 in
      record {
        substitution = w.value;
        is_filling = record { accepted = ok; legal = x.legal; bytes = x.bytes };
        is_pair = ltb-true p (length s.equations) pair.0;
        is_side = leb-true side 1 sides.0;
        is_text = sym same;
        fits = subst (λ l. length l ≤ room) same (leb-true (length (spelled_text s p side w.value)) room t.0);
      }

  -- it has at most 24 letters
  pub spelling-short : (p side room : ℕ) {text : List ℕ} → spelling b p side m room ≡ finished text → length text ≤ 24
  spelling-short p side room e =
      let a = spelling-answered p side room e in
      let s = sheet_of b in
      let f = a.is_filling in
      let n = template-room s (accepted_in_range b y f.accepted) p a.is_pair a.substitution f.legal side in
      rw (a.is_text, length-map (spell a.substitution (template s p side)) (letter_of s)) n

-- The bytes of a solution check as a clash.
pub solution_checks : (b : List ℕ) → Bytes b → Accepted b → (g : Substitution) → Solves (sheet_of b) g → checking b (encode_filling g) ≡ finished (1 ∷ [])
solution_checks b y ok g h = solves_passed b (encode_filling g) y g (record { accepted = ok; legal = h.is_legal; bytes = refl }) h

-- In a clash a pair's right side spells what its left side does, which is what is printed.
pub pair_both : (s : Sheet) (g : Substitution) → Solves s g → (p : ℕ) → p < length s.equations → pair_line s g p ≡ labelled_line pair_name p (letter_bytes s (spell g (equation s p).right))
pair_both s g h p l =
    let e = at (EquationHolds s g) s.equations p (record { left = []; right = [] }) h.equations_hold l in
    ap (λ w. labelled_line pair_name p (letter_bytes s w)) (same-word-equal s (spell g (equation s p).left) (spell g (equation s p).right) e)
