-- What a text that was read says of marks, and the marks before any text. Assumes nothing.
use mathlib.Core.Path.{◌≡◌, sym, ap, ◌∙◌}
use mathlib.Core.List.{List}
use Prim.Native.Nat.{ℕ, suc, ◌-◌, ◌≤◌}
use native.Mathlib.Omega.{arith}
use lib.ListN.{length, take, replicate, length-replicate}
use Rattle.model.specs.Sheet.{Sheet}
use Rattle.formula.specs.Numbering.{variables}
use Rattle.formula.specs.Assignment.{truth}
use Rattle.calls.specs.Reply.{assigned}
use Rattle.calls.specs.Calls.{refused, formed, decoding}
use Rattle.model.proofs.Seams.{take-replicate}
use Rattle.calls.proofs.Decoded.{decoding_alike}
use Rattle.listing.specs.declared.Fault.{Fault}
use Rattle.std.specs.Prelude.{Ok, Err}
use Rattle.listing.specs.Answer.{number_of, Form}

-- the text with marks for 0 and the variables of a sheet
module _ (s : Sheet) (n : ℕ) (t m : List ℕ) (all : n ≡ suc (length (variables s))) where
  -- a text that is refused, and one that goes on to what its marks say
  pub text-refused : (f : Fault) → Form n t (Err f) m → formed (length (variables s)) t (decoding s (assigned t)) ≡ refused (number_of f)
  text-refused f h =
      let e : length (variables s) ≡ n - 1 = omega arith in
      ap (λ k. formed k t (decoding s (assigned t))) e ∙ h (decoding s (assigned t))

  pub text-listed : Form n t (Ok tt) m → formed (length (variables s)) t (decoding s (assigned t)) ≡ decoding s (truth m)
  text-listed h =
      let e : length (variables s) ≡ n - 1 = omega arith in
      ap (λ k. formed k t (decoding s (assigned t))) e
      ∙ h.0 (decoding s (assigned t))
      ∙ decoding_alike s (assigned t) (truth m) (λ k low high. sym (h.2 k (omega arith)))

-- the first of marks that are not set
abbrev clear : ℕ → List ℕ
clear k = replicate k 0

pub clear_length : (n k : ℕ) → n ≤ k → length (take n (clear k)) ≡ n
clear_length n k h = ap length (take-replicate n k 0 h) ∙ length-replicate n 0

pub clear_front : (n k : ℕ) → n ≤ k → take n (clear k) ≡ clear (length (take n (clear k)))
clear_front n k h = take-replicate n k 0 h ∙ ap clear (sym (clear_length n k h))
