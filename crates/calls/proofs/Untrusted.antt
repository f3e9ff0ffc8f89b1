-- Demand 3 of replies, of bytes: what a call that reads a reply leaves in the lent buffer, whatever the text is. Of the call only its contract
-- is used, `HandsOver` in specs/Calls. Assumes nothing.
use mathlib.Core.Path.{◌≡◌, refl, sym, ap, ◌∙◌}
use mathlib.Core.List.{List, [], ◌∷◌, ◌++◌}
use Prim.Native.Nat.{ℕ, ◌*◌, ◌<◌, ◌≤◌}
use lib.ListN.{length, take, drop}
use lib.Seq.{take_at, drop_at}
use Rattle.model.specs.Lists.{Bytes}
use Rattle.model.specs.Sheet.{Accepted, sheet_of}
use Rattle.model.specs.Word.{Substitution, Solves}
use Rattle.model.specs.Filling.{encode_filling}
use Rattle.formula.specs.Assignment.{Assignment, Satisfies, spelled}
use Rattle.calls.specs.Reply.{Lists}
use Rattle.calls.specs.Calls.{Answer, refused, finished, checking, replying, unnumbered, written, HandsOver}
use Rattle.model.proofs.Known.{accepted_in_range}
use Rattle.formula.proofs.Satisfiable.{assign, complete, faithful, sound}
use Rattle.calls.proofs.Operations.{not_finished}
use Rattle.calls.proofs.Passed.{solution_checks}
use Rattle.calls.proofs.Decoded.{spelled-sized}
use Rattle.calls.proofs.Listings.{has_listing}
use Rattle.calls.proofs.Replying.{replying-answered, accepts_solves, replying_lists, replying-long}

-- a call that hands over and is accepted has handed over some values
record Values (a : Answer) (before after : List ℕ) : Type 0 where
  values : List ℕ
  is : a ≡ finished values
  bytes : after ≡ values ++ drop (length values) before

handed : (a : Answer) (before after : List ℕ) → finished [] ≡ unnumbered a → after ≡ written a before → Values a before after
handed (refused n) before after e h = not_finished (sym e)
handed (finished values) before after e h = record { values = values; is = refl; bytes = h }

pub refused-is : (a : Answer) {n : ℕ} → refused n ≡ unnumbered a → a ≡ refused n
refused-is (refused k) e = sym e
refused-is (finished vs) e = not_finished e

-- A call with the sheet b and the text t, which answered and left the buffer `after` where `before` stood.
module _ (b t before after : List ℕ) (answer : Answer) (call : HandsOver (replying b t (length before)) before answer after) where
  abbrev size : ℕ
  size = 9 * length (sheet_of b).limits

  -- "no lent byte changes"
  pub refused_unchanged : {n : ℕ} → answer ≡ refused n → after ≡ before
  refused_unchanged e = call.1 ∙ ap (λ a. written a before) (refused-is (replying b t (length before)) (sym e ∙ call.0))

  -- "30 over 65,536 bytes"
  pub long-refused : Accepted b → size ≤ length before → 65536 < length t → (answer ≡ refused 30) × (after ≡ before)
  long-refused ok enough long =
      let e = replying-long b t (length before) ok enough long in
      (call.0 ∙ ap unnumbered e, call.1 ∙ ap (λ a. written a before) e)

  -- What an accepted call handed over: the answer's values are the first bytes, and what follows them is as before.
  pub record Taken : Type 0 where
    pub is : replying b t (length before) ≡ finished (take size after)
    pub others : drop size after ≡ drop size before

  module _ (y : Bytes b) where
    pub taken : answer ≡ finished [] → Taken
    taken e =
        let h = handed (replying b t (length before)) before after (sym e ∙ call.0) call.1 in
        let a = replying-answered b t (length before) h.is in
        let n : length h.values ≡ size = ap length a.decodes.is ∙ spelled-sized (sheet_of b) (accepted_in_range b y a.accepted) _ in
        let front : take size after ≡ h.values = ap (take size) h.bytes ∙ take_at h.values _ size n in
        record {
          is = h.is ∙ ap finished (sym front);
          others = ap (drop size) h.bytes ∙ drop_at h.values _ size n ∙ ap (λ k. drop k before) n;
        }

    -- "And whatever a solver writes, a reply that is accepted hands over a filling that clashes." "Accepted, the filling fills the first 9 × V
    -- bytes and no more."
    pub accepted_clashes : answer ≡ finished [] → (checking b (take size after) ≡ finished (1 ∷ [])) × (drop size after ≡ drop size before)
    accepted_clashes e =
        let h = taken e in
        let a = replying-answered b t (length before) h.is in
        (ap (checking b) a.decodes.is ∙ solution_checks b y a.accepted _ (accepts_solves b t (length before) a), h.others)

    -- "Take any assignment that satisfies them, and any text of at most 65,536 bytes that lists it in the reply form of document 01. With a long
    -- enough buffer that text is accepted, and the filling handed over is exactly the one the assignment spells, and it clashes."
    pub listed-accepted : Accepted b → size ≤ length before → (w : Assignment) → Satisfies (sheet_of b) w → Lists (sheet_of b) t w → length t ≤ 65536
        → (answer ≡ finished []) × (after ≡ encode_filling (spelled (sheet_of b) w) ++ drop size before) × Solves (sheet_of b) (spelled (sheet_of b) w)
    listed-accepted ok enough w satisfies lists short =
        let e = replying_lists b t (length before) ok w satisfies lists short enough in
        let n = spelled-sized (sheet_of b) (accepted_in_range b y ok) w in (
          call.0 ∙ ap unnumbered e,
          call.1 ∙ ap (λ a. written a before) e ∙ ap (λ k. encode_filling (spelled (sheet_of b) w) ++ drop k before) n,
          (sound b ok w satisfies).2,
        )

-- So no clash is out of a solver's reach: each has a text that hands it over.
pub clash_handed : (b : List ℕ) → Bytes b → Accepted b → (room : ℕ) → 9 * length (sheet_of b).limits ≤ room → (g : Substitution) → Solves (sheet_of b) g
    → (t : List ℕ) × (length t ≤ 65536) × (replying b t room ≡ finished (encode_filling g))
clash_handed b y ok room enough g h =
    let s = sheet_of b in
    let l = has_listing b y ok (assign s g) in
    let handed = replying_lists b l.0 room ok (assign s g) (complete b ok g h) l.3 l.2 enough in
    (l.0, l.2, handed ∙ ap (λ k. finished (encode_filling k)) (faithful b ok g h.is_legal))
