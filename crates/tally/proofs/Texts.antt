-- Laws of a line and of a text's lines, one for each way that the functions go. Assumes nothing.
use mathlib.Core.Path.{◌≡◌, refl, sym, ap, ◌∙◌}
use mathlib.Core.Bool.{Bool, true, false, not, ◌&&◌, ◌||◌}
use mathlib.Core.List.{List, [], ◌∷◌}
use Prim.Native.Nat.{ℕ, suc, ◌+◌, ◌-◌, ◌<◌, ◌≤◌}
use native.Mathlib.Omega.{arith}
use lib.ListN.{length, take, drop, get_or, drop_of_length-le, length-drop}
use lib.Seq.{drop-drop, length-take-le, get_or-take}
use borrow.Author.Tests.{eq-eqb}
use Rattle.model.specs.Lists.{span, all, same, starts_with}
use Rattle.calls.specs.Reply.{is_number, split, lines, spaced, comment, status_line, v_pieces, value_line, known, line_numbers}
use Rattle.model.proofs.Lists.{or_right}
use Rattle.model.proofs.Spans.{span-short}
use Rattle.calls.proofs.Splitting.{split-first}
use Rattle.tally.specs.declared.Tally.{Tally}
use Rattle.std.specs.Prelude.{Option, Some, None}
use Rattle.tally.specs.Tally.{nothing, after_line, after_lines, value_pieces, ReadValues, ReadLine, ReadLines}
use Rattle.numerals.proofs.Firsts.{starts, starts_not, alone_not}
use Rattle.tally.proofs.Pieces.{piece_at}

-- What a line's first byte, and the offset of its first space, say of its form.
v_first : (l : List ℕ) → 1 ≤ length l → get_or l 0 0 ≡ 118 → same (take 1 l) (118 ∷ []) ≡ true
unfolding same
v_first [] h e = absurd (omega arith)
v_first (x ∷ l) h e = rw (eq-eqb x 118 e)

module _ (l : List ℕ) (end : ℕ) (e : end ≡ 0 + span 32 l) where
  value_line_lem : value_line l ≡ (same (take (end - 0) l) (118 ∷ []) && all is_number (split 32 (drop (end + 1) (spaced l))))
  unfolding value_line
  value_line_lem = ap (λ (ps : List (List ℕ)). v_pieces ps) (piece_at l 0 end (omega arith) e).pieces_are

  no_value : (get_or l 0 0 ≡ 118 → end ≡ 1 → ⊥) → value_line l ≡ false
  no_value f =
      let s = span-short 32 l in
      let n = length-take-le (end - 0) l (omega arith) in
      value_line_lem
      ∙ ap (λ b. b && all is_number (split 32 (drop (end + 1) (spaced l))))
      (alone_not 118 (take (end - 0) l) (λ g k. f (sym (get_or-take (end - 0) l 0 0 (omega arith)) ∙ g) (omega arith)))

  v_line_lem : 1 ≤ length l → get_or l 0 0 ≡ 118 → end ≡ 1 → value_line l ≡ all is_number (value_pieces l)
  v_line_lem h f one =
      value_line_lem
      ∙ ap (λ n. same (take (n - 0) l) (118 ∷ []) && all is_number (split 32 (drop (n + 1) (spaced l)))) one
      ∙ ap (λ b. b && all is_number (value_pieces l)) (v_first l h f)

-- A line: empty; an s line; a comment; none of a known form; a v line.
pub line_empty : (l : List ℕ) → length l ≡ 0 → known l ≡ false
unfolding known value_line starts_with same split
line_empty [] h = refl
line_empty (x ∷ l) h = absurd (omega arith)

no_kind : (l : List ℕ) → status_line l ≡ false → (get_or l 0 0 ≡ 99 → ⊥) → value_line l ≡ false → known l ≡ false
unfolding known
no_kind l s c v = rw (starts_not 99 l c, s, v)

pub line_other : (l : List ℕ) → status_line l ≡ false → (get_or l 0 0 ≡ 99 → ⊥)
    → (end : ℕ) → end ≡ 0 + span 32 l → (get_or l 0 0 ≡ 118 → end ≡ 1 → ⊥) → known l ≡ false
line_other l s c end e f = no_kind l s c (no_value l end e f)

module _ (m : List ℕ) (t : Tally) (l : List ℕ) where
  pub line_status : status_line l ≡ true → (a : Bool) → a ≡ (t.again || t.status)
      → ReadLine m t l (Some (record { status = true; again = a; early = t.early; after = t.after; above = t.above; twice = t.twice })) m
  unfolding known after_line
  line_status s a e = (rw s (or_right (comment l) refl), rw (s, e))

  pub line-comment : status_line l ≡ false → 1 ≤ length l → get_or l 0 0 ≡ 99 → ReadLine m t l (Some t) m
  unfolding known after_line
  line-comment s h f = (rw (starts 99 l h f), rw (s, no_value l (0 + span 32 l) refl (λ g k. omega arith)))

  module _ (s : status_line l ≡ false) (h : 1 ≤ length l) (f : get_or l 0 0 ≡ 118) (end : ℕ) (e : end ≡ 0 + span 32 l) (one : end ≡ 1) where
    pub line-values : (b : Bool) → b ≡ (t.early || not t.status) → (r : Option Tally) (m' : List ℕ)
        → ReadValues m (record { status = t.status; again = t.again; early = b; after = t.after; above = t.above; twice = t.twice }) l r m'
        → ReadLine m t l r m'
    unfolding known after_line line_numbers
    line-values b g None m' w = no_kind l s (λ k. omega arith) (v_line_lem l end e h f one ∙ w)
    line-values b g (Some u) m' w =
        let v = v_line_lem l end e h f one ∙ w.0 in
        (rw (s, v) (or_right (comment l) refl), rw (s, v) (w.1 ∙ rw g))

-- The lines of a text that are passed from its start, with which the tally and the marks came to u and k: those from an offset on are left.
pub record Passed (m text : List ℕ) (at : ℕ) (k : List ℕ) (u : Tally) : Type 0 where
  pub long : length k ≡ length m
  pub form : all known (lines text) ≡ all known (lines (drop at text))
  pub state : after_lines (record { tally = nothing; marks = m }) (lines text) ≡ after_lines (record { tally = u; marks = k }) (lines (drop at text))

pub passed_none : (m text : List ℕ) → Passed m text 0 m nothing
passed_none m text = record { long = refl; form = refl; state = refl }

module _ (m text : List ℕ) (at : ℕ) (k : List ℕ) (u : Tally) (w : Passed m text at k u) where
  pub passed_all : length text ≤ at → ReadLines m text (Some u) k
  unfolding split all after_lines
  passed_all h =
      let past = drop_of_length-le text h in
      (w.form ∙ ap (λ z. all known (lines z)) past, sym (w.state ∙ ap (λ z. after_lines (record { tally = u; marks = k }) (lines z)) past))

  module _ (inside : at < length text) (end : ℕ) (e : end ≡ at + span 10 (drop at text)) where
    line_first : lines (drop at text) ≡ take (end - at) (drop at text) ∷ lines (drop (end + 1) text)
    line_first =
        let n : span 10 (drop at text) ≡ end - at = omega arith in
        let p : at + suc (span 10 (drop at text)) ≡ end + 1 = omega arith in
        let some = length-drop at text in
        split-first 10 (drop at text) (omega arith)
        ∙ ap (λ z. take (span 10 (drop at text)) (drop at text) ∷ lines z) (drop-drop (suc (span 10 (drop at text))) at text ∙ ap (λ j. drop j text) p)
        ∙ ap (λ j. take j (drop at text) ∷ lines (drop (end + 1) text)) n

    pub passed_unknown : (k' : List ℕ) → ReadLine k u (take (end - at) (drop at text)) None k' → ReadLines m text None k'
    unfolding all
    passed_unknown k' other = w.form ∙ ap (all known) line_first ∙ rw other

    pub passed_more : (k' : List ℕ) (u' : Tally) → length k' ≡ length k → ReadLine k u (take (end - at) (drop at text)) (Some u') k'
        → Passed m text (end + 1) k' u'
    unfolding all after_lines
    passed_more k' u' n read = record {
      long = n ∙ w.long;
      form = w.form ∙ ap (all known) line_first ∙ rw read.0;
      state = w.state
          ∙ ap (after_lines (record { tally = u; marks = k })) line_first
          ∙ ap (λ st. after_lines st (lines (drop (end + 1) text))) (sym read.1);
    }
