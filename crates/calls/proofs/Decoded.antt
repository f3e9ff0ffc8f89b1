-- What is decoded of an assignment: the refusals 37 to 39, and the filling that is handed over. That the filling is legal is `spelled-legal` in
-- KClauses, of every assignment. Assumes nothing.
use mathlib.Core.Path.{◌≡◌, sym, ap}
use mathlib.Core.Bool.{true, false}
use mathlib.Core.List.{List}
use Prim.Native.Nat.{ℕ, ◌*◌}
use lib.Dec.{eqb}
use lib.ListN.{length}
use borrow.Author.Tests.{eq-eqb}
use Rattle.model.specs.Sheet.{Sheet, limit, Accepted, sheet_of}
use Rattle.model.specs.Range.{InRange}
use Rattle.model.specs.Word.{solves}
use Rattle.model.specs.Filling.{encode_filling}
use Rattle.formula.specs.Clause.{blank, fields}
use Rattle.formula.specs.Assignment.{Assignment, Satisfies, held, spelled}
use Rattle.calls.specs.Reply.{all_single, blanks_last, none_after_blank}
use Rattle.calls.specs.Calls.{refused, finished, decoding}
use Rattle.model.proofs.Keeping.{map_below, all_same, all_below}
use Rattle.model.proofs.Fillings.{legal-sized}
use Rattle.model.proofs.Words.{solves_in}
use Rattle.formula.proofs.KClauses.{spelled-legal}
use Rattle.calls.proofs.Blanks.{blanks_last_lem}
use Rattle.calls.proofs.Operations.{required, same-values}
use Rattle.formula.proofs.Satisfying.{Alike, satisfies_met, values_alike, held_alike, spelled_alike}
use Rattle.formula.proofs.Satisfiable.{sound}

-- The answer, by the first test that fails.
module _ (s : Sheet) (w : Assignment) where
  pub decoding-place : all_single s w ≡ false → decoding s w ≡ refused 37
  unfolding decoding
  decoding-place e = rw e

  module _ (single : all_single s w ≡ true) where
    pub decoding-blank : none_after_blank s w ≡ false → decoding s w ≡ refused 38
    unfolding decoding
    decoding-blank e = rw (single, e)

    module _ (last : none_after_blank s w ≡ true) where
      pub decoding_fails : solves s (spelled s w) ≡ false → decoding s w ≡ refused 39
      unfolding decoding
      decoding_fails e = rw (single, last, e)

      pub decoding_hands : solves s (spelled s w) ≡ true → decoding s w ≡ finished (encode_filling (spelled s w))
      unfolding decoding
      decoding_hands e = rw (single, last, e)

  -- what is handed over has passed each test, the check's own among them
  pub record Decoded (m : List ℕ) : Type 0 where
    pub keeps37 : all_single s w ≡ true
    pub keeps38 : none_after_blank s w ≡ true
    pub keeps39 : solves s (spelled s w) ≡ true
    pub is : m ≡ encode_filling (spelled s w)

  pub decoded : {m : List ℕ} → decoding s w ≡ finished m → Decoded m
  unfolding decoding
  decoded e =
      let single = required (all_single s w) 37 _ e in
      let last = required (none_after_blank s w) 38 _ single.1 in
      let solved = required (solves s (spelled s w)) 39 _ last.1 in
      record { keeps37 = single.0; keeps38 = last.0; keeps39 = solved.0; is = sym (same-values solved.1) }

-- Only what an assignment makes of the variables decides the answer.
pub decoding_alike : (s : Sheet) (w u : Assignment) → Alike s w u → decoding s w ≡ decoding s u
unfolding decoding all_single none_after_blank
decoding_alike s w u alike =
    let singles = all_same _ _ (fields s) (λ f k. all_same _ _ (limit s f) (λ c l.
    ap (λ (xs : List ℕ). eqb (length xs) 1) (values_alike s w u alike f c k l))) in
    let lasts = all_same _ _ (fields s) (λ f k.
    ap (blanks_last (blank s)) (map_below (held s w f) (held s u f) (limit s f) (λ c l. held_alike s w u alike f c k l))) in
    rw (singles, lasts, spelled_alike s w u alike)

-- An assignment that satisfies the clauses breaks none of 37 to 39.
pub satisfies_decoded : (b : List ℕ) → Accepted b → (w : Assignment) → Satisfies (sheet_of b) w
    → decoding (sheet_of b) w ≡ finished (encode_filling (spelled (sheet_of b) w))
unfolding all_single none_after_blank
satisfies_decoded b ok w h =
    let s = sheet_of b in
    let true-of-it = sound b ok w h in
    let met = satisfies_met s w h in
    decoding_hands s w
    (all_below _ (fields s) (λ f k. all_below _ (limit s f) (λ c l. eq-eqb _ 1 (true-of-it.0 f c k l))))
    (all_below _ (fields s) (λ f k. blanks_last_lem s w met.places f k))
    (solves_in s (spelled s w) true-of-it.2)

-- What an assignment spells has nine bytes for each field.
pub spelled-sized : (s : Sheet) → InRange s → (w : Assignment) → length (encode_filling (spelled s w)) ≡ 9 * length s.limits
spelled-sized s ok w = legal-sized s (spelled s w) ok (spelled-legal s w)
