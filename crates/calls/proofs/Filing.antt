-- Writing the whole clause file: the answer, by the first test that fails, and what an answer that is finished tells. Assumes nothing.
use mathlib.Core.Path.{◌≡◌, sym, ap, subst, ◌∙◌}
use mathlib.Core.List.{List}
use Prim.Native.Nat.{ℕ, ◌<◌, ◌≤◌}
use native.Mathlib.Omega.{arith}
use lib.Dec.{leb}
use lib.ListN.{length, take}
use borrow.Author.Tests.{le-leb, lt-leb, leb-true}
use Rattle.model.specs.Sheet.{Accepted, sheet_of}
use Rattle.formula.specs.Dimacs.{file}
use Rattle.calls.specs.Calls.{refused, finished, of_sheet, reading, filing_of, filing}
use Rattle.model.proofs.Reading.{read_prefix}
use Rattle.calls.proofs.Operations.{sheet_refused, sheet_accepted, sheet_finished, required, same-values}
use Rattle.calls.proofs.Refusals.{not_zero, not_zero_sheet, not_zero_require}

module _ (b : List ℕ) (room : ℕ) where
  pub filing_sheet : (k : ℕ) → reading b ≡ refused k → filing b room ≡ refused k
  unfolding filing
  filing_sheet k e = sheet_refused b k _ e

  module _ (ok : Accepted b) where
    pub filing-room : room < length (file (sheet_of b)) → filing b room ≡ refused 29
    unfolding filing filing_of
    filing-room h = sheet_accepted b _ ok ∙ rw (lt-leb (length (file (sheet_of b))) room h)

    pub filing-file : length (file (sheet_of b)) ≤ room → filing b room ≡ finished (file (sheet_of b))
    unfolding filing filing_of
    filing-file h = sheet_accepted b _ ok ∙ rw (le-leb (length (file (sheet_of b))) room h)

-- no refusal has the number 0, and the first 160 bytes of a sheet decide
pub filing-refused : (b : List ℕ) (room n : ℕ) → filing b room ≡ refused n → 1 ≤ n
unfolding filing filing_of
filing-refused b room = not_zero (filing b room) (not_zero_sheet b _ (λ s. not_zero_require (leb (length (file s)) room) 29 _ (omega arith) tt))

pub filing_prefix : (b : List ℕ) (room : ℕ) → filing b room ≡ filing (take 160 b) room
unfolding filing
filing_prefix b room = ap (λ r. of_sheet r (λ s. filing_of s room)) (read_prefix b)

pub record FileOf (b : List ℕ) (room : ℕ) (text : List ℕ) : Type 0 where
  pub accepted : Accepted b
  pub is : text ≡ file (sheet_of b)
  pub fits : length text ≤ room

pub filing-answered : (b : List ℕ) (room : ℕ) {text : List ℕ} → filing b room ≡ finished text → FileOf b room text
unfolding filing filing_of
filing-answered b room {text} e =
    let ok = sheet_finished b _ e in
    let t = required (leb (length (file (sheet_of b))) room) 29 _ (sym (sheet_accepted b _ ok) ∙ e) in
    let same = same-values t.1 in
    record {
      accepted = ok;
      is = sym same;
      fits = subst (λ z. length z ≤ room) same (leb-true (length (file (sheet_of b))) room t.0);
    }
