-- Reading a reply: the answer, by the first test that fails; what an accepted text has; and that a text that lists a satisfying assignment is
-- accepted. Assumes nothing.
use mathlib.Core.Path.{◌≡◌, refl, sym, ap, ap₂, ◌∙◌}
use mathlib.Core.Bool.{true, false}
use mathlib.Core.List.{List}
use Prim.Native.Nat.{ℕ, ◌*◌, ◌<◌, ◌≤◌}
use native.Mathlib.Omega.{arith}
use lib.Dec.{leb}
use lib.ListN.{length, take}
use lib.Seq.{take_all, length-take-le}
use borrow.Author.Tests.{le-leb, lt-leb, leb-true, leb-false}
use Rattle.model.specs.Lists.{all}
use Rattle.model.specs.Sheet as sheet
use Rattle.model.specs.Sheet.{Sheet, Reading, read, Accepted, sheet_in, sheet_of}
use Rattle.model.specs.Word.{Solves, solves}
use Rattle.model.specs.Filling.{encode_filling}
use Rattle.formula.specs.Numbering.{variables}
use Rattle.formula.specs.Assignment.{Assignment, Satisfies, spelled}
use Rattle.calls.specs.Reply.{lines, line_ended, known, one_status, given, closed, in_count, given_once, assigned, Lists, all_single, none_after_blank}
use Rattle.calls.specs.Calls.{Answer, refused, finished, of_sheet, reading, in_size, formed, decoding, replying_of, replying}
use Rattle.calls.specs.Report.{printed}
use Rattle.model.proofs.Lists.{by_test}
use Rattle.model.proofs.Reading.{read_prefix}
use Rattle.model.proofs.Words.{solves_out}
use Rattle.calls.proofs.Operations.{sheet_refused, sheet_accepted, sheet_finished, required}
use Rattle.calls.proofs.Refusals.{not_zero, not_zero_require, not_zero_sheet}
use Rattle.formula.proofs.KClauses.{spelled-legal}
use Rattle.formula.proofs.Satisfiable.{only-variables}
use Rattle.calls.proofs.Decoded.{Decoded, decoded, decoding_hands, satisfies_decoded}

-- A text of at most 65,536 bytes, and one of more.
in_size_lem : (t : List ℕ) → length t ≤ 65536 → in_size t ≡ true
in_size_lem t h = le-leb (length t) _ (omega arith)

over_size : (t : List ℕ) → 65536 < length t → in_size t ≡ false
over_size t h = lt-leb (length t) _ (omega arith)

-- The answer, by the first test that fails.
module _ (b t : List ℕ) (room : ℕ) where
  pub replying_sheet : (n : ℕ) → reading b ≡ refused n → replying b t room ≡ refused n
  unfolding replying
  replying_sheet n e = sheet_refused b n _ e

  module _ (ok : Accepted b) where
    pub replying-room : room < 9 * length (sheet_of b).limits → replying b t room ≡ refused 27
    unfolding replying replying_of
    replying-room h = sheet_accepted b _ ok ∙ rw (lt-leb (9 * length (sheet_of b).limits) room h)

    module _ (enough : 9 * length (sheet_of b).limits ≤ room) where
      pub replying-long : 65536 < length t → replying b t room ≡ refused 30
      unfolding replying replying_of
      replying-long h = sheet_accepted b _ ok ∙ rw (le-leb (9 * length (sheet_of b).limits) room enough, over_size t h)

      pub replying-text : length t ≤ 65536
          → replying b t room ≡ formed (length (variables (sheet_of b))) t (decoding (sheet_of b) (assigned t))
      unfolding replying replying_of
      replying-text h = sheet_accepted b _ ok ∙ rw (le-leb (9 * length (sheet_of b).limits) room enough, in_size_lem t h)

-- A text that lists an assignment is of the reply form, and a text that goes on lists what it makes true.
lists_formed : (s : Sheet) (t : List ℕ) (w : Assignment) → Lists s t w → (go : Answer) → formed (length (variables s)) t go ≡ go
unfolding formed
lists_formed s t w h go = rw (h.keeps31, h.keeps32, h.keeps33, h.keeps34, h.keeps35, h.keeps36)

formed_lists : (s : Sheet) (t : List ℕ) (go : Answer) {vs : List ℕ} → formed (length (variables s)) t go ≡ finished vs → Lists s t (assigned t) × (go ≡ finished vs)
unfolding formed
formed_lists s t go e =
    let a = required (line_ended t) 31 _ e in
    let b = required (all known (lines t)) 32 _ a.1 in
    let c = required (one_status (lines t)) 33 _ b.1 in
    let d = required (closed (given t)) 34 _ c.1 in
    let f = required (in_count (length (variables s)) (given t)) 35 _ d.1 in
    let g = required (given_once (given t)) 36 _ f.1 in
    (record { keeps31 = a.0; keeps32 = b.0; keeps33 = c.0; keeps34 = d.0; keeps35 = f.0; keeps36 = g.0; same_truth = λ n low high. refl }, g.1)

-- What is known of an accepted text, and of the values that are handed over; and the other way round. So a call is refused exactly when a
-- rule is broken.
pub record Accepts (b t : List ℕ) (room : ℕ) (m : List ℕ) : Type 0 where
  pub accepted : Accepted b
  pub enough : 9 * length (sheet_of b).limits ≤ room
  pub short : length t ≤ 65536
  pub lists : Lists (sheet_of b) t (assigned t)
  pub decodes : Decoded (sheet_of b) (assigned t) m

pub replying-answered : (b t : List ℕ) (room : ℕ) {m : List ℕ} → replying b t room ≡ finished m → Accepts b t room m
unfolding replying replying_of
replying-answered b t room e =
    let ok = sheet_finished b _ e in
    let s = sheet_of b in
    let roomy = required (leb (9 * length s.limits) room) 27 _ (sym (sheet_accepted b _ ok) ∙ e) in
    let short = required (in_size t) 30 _ roomy.1 in
    let form = formed_lists s t (decoding s (assigned t)) short.1 in
    record {
      accepted = ok;
      enough = leb-true (9 * length s.limits) room roomy.0;
      short = leb-true (length t) 65536 short.0;
      lists = form.0;
      decodes = decoded s (assigned t) form.1;
    }

pub accepts_answered : (b t : List ℕ) (room : ℕ) {m : List ℕ} → Accepts b t room m → replying b t room ≡ finished m
accepts_answered b t room h =
    let d = h.decodes in
    replying-text b t room h.accepted h.enough h.short
    ∙ lists_formed (sheet_of b) t (assigned t) h.lists (decoding (sheet_of b) (assigned t))
    ∙ decoding_hands (sheet_of b) (assigned t) d.keeps37 d.keeps38 d.keeps39
    ∙ ap finished (sym d.is)

pub accepts_solves : (b t : List ℕ) (room : ℕ) {m : List ℕ} → Accepts b t room m → Solves (sheet_of b) (spelled (sheet_of b) (assigned t))
accepts_solves b t room h =
    let s = sheet_of b in
    solves_out s (spelled s (assigned t)) (spelled-legal s (assigned t)) h.decodes.keeps39

-- A listed assignment that satisfies the clauses is handed over as the filling that it spells.
module _ (b t : List ℕ) (room : ℕ) (ok : Accepted b) (w : Assignment) (satisfies : Satisfies (sheet_of b) w) (lists : Lists (sheet_of b) t w) where
  pub replying_lists : length t ≤ 65536 → 9 * length (sheet_of b).limits ≤ room → replying b t room ≡ finished (encode_filling (spelled (sheet_of b) w))
  replying_lists short enough =
      let s = sheet_of b in
      let same = only-variables b ok (assigned t) w lists.same_truth in
      replying-text b t room ok enough short
      ∙ lists_formed s t w lists (decoding s (assigned t))
      ∙ satisfies_decoded b ok (assigned t) (same.0.1 satisfies)
      ∙ ap (λ g. finished (encode_filling g)) same.1

-- Of a sheet the first 160 bytes decide the answer, of a text the first 65,537: one byte more than are allowed.
text_prefix : (s : Sheet) (t : List ℕ) (room : ℕ) → replying_of s t room ≡ replying_of s (take 65537 t) room
unfolding replying_of
text_prefix s t room = by_test (in_size t)
    (λ e. let h = leb-true (length t) 65536 e in rw (take_all 65537 t (omega arith)))
    (λ e.
    let n = leb-false (length t) 65536 e in
    let l = length-take-le 65537 t (omega arith) in
    rw (e, over_size (take 65537 t) (omega arith)))

pub replying_prefix : (b t : List ℕ) (room : ℕ) → replying b t room ≡ replying (take 160 b) (take 65537 t) room
unfolding replying
replying_prefix b t room = ap (λ r. of_sheet r (λ s. replying_of s t room)) (read_prefix b) ∙ same_text (read (take 160 b))
  where
    same_text : (r : Reading) → of_sheet r (λ s. replying_of s t room) ≡ of_sheet r (λ s. replying_of s (take 65537 t) room)
    same_text (sheet.accepted s) = text_prefix s t room
    same_text (sheet.refused n) = refl

-- so the text that the program prints is the same too
pub printed_prefix : (b t : List ℕ) (room : ℕ)
    → printed (sheet_of b) (replying b t room) ≡ printed (sheet_of (take 160 b)) (replying (take 160 b) (take 65537 t) room)
unfolding sheet_of
printed_prefix b t room = ap₂ printed (ap sheet_in (read_prefix b)) (replying_prefix b t room)

-- 0 is the number of no refusal.
pub replying-refused : (b t : List ℕ) (room n : ℕ) → replying b t room ≡ refused n → 1 ≤ n
unfolding replying replying_of formed decoding
replying-refused b t room = not_zero (replying b t room) (not_zero_sheet b _ (λ s.
    not_zero_require (leb (9 * length s.limits) room) 27 _ (omega arith)
    (not_zero_require (in_size t) 30 _ (omega arith)
    (not_zero_require (line_ended t) 31 _ (omega arith)
    (not_zero_require (all known (lines t)) 32 _ (omega arith)
    (not_zero_require (one_status (lines t)) 33 _ (omega arith)
    (not_zero_require (closed (given t)) 34 _ (omega arith)
    (not_zero_require (in_count (length (variables s)) (given t)) 35 _ (omega arith)
    (not_zero_require (given_once (given t)) 36 _ (omega arith)
    (not_zero_require (all_single s (assigned t)) 37 _ (omega arith)
    (not_zero_require (none_after_blank s (assigned t)) 38 _ (omega arith)
    (not_zero_require (solves s (spelled s (assigned t))) 39 _ (omega arith) tt))))))))))))
