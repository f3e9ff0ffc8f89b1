-- What the number tells that `tpl_reply` returns: after 0 the lent buffer starts with a filling that clashes, and of a text that lists a satisfying
-- assignment it returns 0. Assumes nothing.
use mathlib.Core.Path.{◌≡◌, refl, sym, ap, ◌∙◌}
use mathlib.Core.List.{List, [], ◌∷◌, ◌++◌}
use Prim.Native.Nat.{ℕ, ◌*◌, ◌≤◌}
use lib.IntN.{ℤ, pos}
use lib.ListN.{length, take, drop}
use Rattle.calls.specs.Calls.{Answer, finished, checking, replying, unnumbered}
use Rattle.model.specs.Lists.{Bytes}
use Rattle.model.specs.Sheet.{Accepted, sheet_of}
use Rattle.model.specs.Filling.{encode_filling}
use Rattle.formula.specs.Assignment.{Assignment, Satisfies, spelled}
use Rattle.calls.specs.Reply.{Lists}
use Rattle.calls.proofs.Replying.{replying-refused}
use Rattle.calls.proofs.Untrusted.{accepted_clashes, listed-accepted}
use Rattle.c_answer.specs.Returned.{returned, HandedOver}
use Rattle.c_answer.proofs.Told.{zero_finished, same-returned}

module _ (b t before after : List ℕ) {r : ℤ} (y : Bytes b) (call : HandedOver (replying b t (length before)) before r after) where
  abbrev reply : Answer
  reply = replying b t (length before)

  -- demand 3: "whatever a solver writes, a reply that is accepted hands over a filling that clashes"
  pub zero_clash : r ≡ pos 0 → (checking b (take (9 * length (sheet_of b).limits) after) ≡ finished (1 ∷ []))
      × (drop (9 * length (sheet_of b).limits) after ≡ drop (9 * length (sheet_of b).limits) before)
  zero_clash e =
      let f = zero_finished reply (replying-refused b t (length before)) (sym call.0 ∙ e) in
      accepted_clashes b t before after (unnumbered reply) (refl, call.1) y (ap unnumbered f.is)

  -- "any assignment that satisfies them, and any text .. that lists it"
  pub listed_zero : Accepted b → 9 * length (sheet_of b).limits ≤ length before → (w : Assignment) → Satisfies (sheet_of b) w → Lists (sheet_of b) t w
      → length t ≤ 65536 → (r ≡ pos 0) × (after ≡ encode_filling (spelled (sheet_of b) w) ++ drop (9 * length (sheet_of b).limits) before)
  listed_zero ok enough w satisfies lists short =
      let l = listed-accepted b t before after (unnumbered reply) (refl, call.1) y ok enough w satisfies lists short in
      (call.0 ∙ sym (same-returned reply) ∙ ap returned l.0, l.1)
