-- A line cut at an end byte, and the pieces of a v line noted one after another: one law for each turn of `read_values`. Assumes nothing.
use mathlib.Core.Path.{◌≡◌, refl, sym, ap, ◌∙◌}
use mathlib.Core.Bool.{true, false}
use mathlib.Core.List.{List, [], ◌∷◌, ◌++◌}
use Prim.Native.Nat.{ℕ, zero, suc, ◌+◌, ◌-◌, ◌<◌, ◌≤◌}
use native.Mathlib.Omega.{arith}
use lib.Dec.{eqb}
use lib.IntN.{ℤ, pos, negsuc, nat_abs}
use lib.ListN.{length, take, drop, drop_of_length-le, length-append}
use lib.Seq.{drop-append-le, drop-drop}
use borrow.Author.Tests.{eqb-true}
use Rattle.model.specs.Lists.{span, all, All}
use Rattle.formula.specs.Dimacs.{numbers_from, numbers}
use Rattle.calls.specs.Reply.{is_number, split, spaced}
use Rattle.model.proofs.Lists.{by_test}
use Rattle.model.proofs.Spans.{before_end}
use Rattle.calls.proofs.Splitting.{split_piece}
use Rattle.tally.specs.declared.Tally.{Tally}
use Rattle.numerals.specs.declared.Number.TheVariants.{Plus, Minus}
use Rattle.std.specs.Prelude.{Some, None}
use Rattle.tally.specs.Tally.{noted, marked, is_pos, after_number, after_numbers, value_pieces, ReadValues}
use Rattle.numerals.specs.Said.{Said}
use Rattle.tally.proofs.Marks.{marked-long}

-- A stretch up to an end byte that stands after the whole list too, and what follows it.
module _ (x : ℕ) where
  cut : (ys : List ℕ) → ys ++ (x ∷ []) ≡ take (span x ys) ys ++ (x ∷ drop (suc (span x ys)) (ys ++ (x ∷ [])))
  unfolding span
  cut [] = refl
  cut (y ∷ ys) = by_test (eqb y x)
      (λ t. rw t (ap (λ z. z ∷ (ys ++ (x ∷ []))) (eqb-true y x t)))
      (λ t. rw t (ap (λ z. y ∷ z) (cut ys)))

-- The piece of a line from an offset to the next space: the pieces, and the bytes, from there on.
pub record PieceAt (line : List ℕ) (at end : ℕ) : Type 0 where
  pub pieces_are : split 32 (drop at (spaced line)) ≡ take (end - at) (drop at line) ∷ split 32 (drop (end + 1) (spaced line))
  bytes_are : drop at (spaced line) ≡ take (end - at) (drop at line) ++ (32 ∷ drop (end + 1) (spaced line))

-- as `cut` says it of what is left of the line: the piece is k bytes long
module _ (line : List ℕ) (at end k : ℕ) (h : at ≤ length line) (n : end - at ≡ k) (past : at + suc k ≡ end + 1) where
  piece_bytes : drop at line ++ (32 ∷ []) ≡ take k (drop at line) ++ (32 ∷ drop (suc k) (drop at line ++ (32 ∷ [])))
      → drop at (spaced line) ≡ take (end - at) (drop at line) ++ (32 ∷ drop (end + 1) (spaced line))
  piece_bytes e =
      let a = drop-append-le at line (32 ∷ []) h in
      let q = ap (drop (suc k)) (sym a) ∙ drop-drop (suc k) at (spaced line) ∙ ap (λ j. drop j (spaced line)) past in
      a ∙ e ∙ ap (λ z. take k (drop at line) ++ (32 ∷ z)) q ∙ ap (λ j. take j (drop at line) ++ (32 ∷ drop (end + 1) (spaced line))) (sym n)

pub piece_at : (line : List ℕ) (at end : ℕ) → at ≤ length line → end ≡ at + span 32 (drop at line) → PieceAt line at end
piece_at line at end h e =
    let rest : List ℕ = drop at line in
    let n : end - at ≡ span 32 rest = omega arith in
    let bytes = piece_bytes line at end (span 32 rest) h n (omega arith) (cut 32 rest) in
    let plain : All (λ y. y ≡ 32 → ⊥) (take (end - at) rest) = rw n (before_end 32 rest) in
    record {
      pieces_are = ap (split 32) bytes ∙ split_piece 32 (take (end - at) rest) (drop (end + 1) (spaced line)) plain;
      bytes_are = bytes;
    }

-- The numbers of a line that are noted from its start, with which the tally and the marks came to u and k: those from an offset on are left.
pub record Noted (m : List ℕ) (t : Tally) (line : List ℕ) (at : ℕ) (k : List ℕ) (u : Tally) : Type 0 where
  pub long : length k ≡ length m
  pub form : all is_number (value_pieces line) ≡ all is_number (split 32 (drop at (spaced line)))
  pub state : after_numbers (record { tally = t; marks = m }) (numbers (drop 2 (spaced line)))
      ≡ after_numbers (record { tally = u; marks = k }) (numbers (drop at (spaced line)))

pub noted-none : (m : List ℕ) (t : Tally) (line : List ℕ) → Noted m t line 2 m t
noted-none m t line = record { long = refl; form = refl; state = refl }

module _ (m : List ℕ) (t : Tally) (line : List ℕ) (at : ℕ) (k : List ℕ) (u : Tally) (w : Noted m t line at k u) where
  pub noted-all : length line < at → ReadValues m t line (Some u) k
  unfolding split numbers_from after_numbers all
  noted-all h =
      let n = length-append line (32 ∷ []) in
      let past = drop_of_length-le (spaced line) {i = at} (omega arith) in (
        w.form ∙ ap (λ z. all is_number (split 32 z)) past,
        sym (w.state ∙ ap (λ z. after_numbers (record { tally = u; marks = k }) (numbers z)) past),
      )

  module _ (end : ℕ) (q : PieceAt line at end) where
    pub noted-unknown : Said (take (end - at) (drop at line)) None → ReadValues m t line None k
    unfolding all
    noted-unknown other = w.form ∙ ap (all is_number) q.pieces_are ∙ rw other

    noted_one : (z : ℤ) → is_number (take (end - at) (drop at line)) ≡ true
        → ((others : List ℕ) → numbers (take (end - at) (drop at line) ++ (32 ∷ others)) ≡ z ∷ numbers others)
        → (k' : List ℕ) (u' : Tally) → u' ≡ noted k u (nat_abs z) → k' ≡ marked k (nat_abs z) (is_pos z)
        → Noted m t line (end + 1) k' u'
    unfolding all after_numbers after_number
    noted_one z number is k' u' eu ek = record {
      long = ap length ek ∙ marked-long k (nat_abs z) (is_pos z) ∙ w.long;
      form = w.form ∙ ap (all is_number) q.pieces_are ∙ rw number;
      state = w.state
          ∙ ap (λ b. after_numbers (record { tally = u; marks = k }) (numbers b)) q.bytes_are
          ∙ ap (after_numbers (record { tally = u; marks = k })) (is (drop (end + 1) (spaced line)))
          ∙ rw (eu, ek);
    }

    pub noted_plus : (n : ℕ) → Said (take (end - at) (drop at line)) (Some (Plus n))
        → (k' : List ℕ) (u' : Tally) → u' ≡ noted k u n → k' ≡ marked k n true → Noted m t line (end + 1) k' u'
    noted_plus n said = noted_one (pos n) said.0 said.1

    pub noted_minus : (n : ℕ) → Said (take (end - at) (drop at line)) (Some (Minus n))
        → (k' : List ℕ) (u' : Tally) → u' ≡ noted k u n → k' ≡ marked k n false → Noted m t line (end + 1) k' u'
    noted_minus zero said = absurd (let h = said.1 in omega arith)
    noted_minus (suc n) said = noted_one (negsuc n) said.0 said.2
