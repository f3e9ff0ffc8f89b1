-- One number noted in the tally and in the marks, and what the marks say after it. Assumes nothing.
use mathlib.Core.Path.{◌≡◌, refl, sym, ap, ◌∙◌}
use mathlib.Core.Bool.{Bool, true, false, not, ◌&&◌, ◌||◌, and-true, and-false, or-true, or-false}
use mathlib.Core.List.{List}
use Prim.Native.Nat.{ℕ, suc, ◌<◌, ◌≤◌}
use lib.Dec.{eqb}
use lib.IntN.{ℤ, pos, negsuc, nat_abs}
use lib.ListN.{length, get_or, length-set, get_or-eq_default}
use lib.Seq.{set_out, get_or-set_same, get_or-set_other}
use borrow.Author.Tests.{le-leb, lt-leb, eqb-true, eqb-false}
use Rattle.model.specs.Lists.{pick}
use Rattle.formula.specs.Assignment.{truth}
use Rattle.calls.specs.Reply.{is_plus}
use Rattle.model.proofs.Lists.{by_test, or_right}
use Rattle.tally.specs.declared.Tally.{Tally}
use Rattle.tally.specs.Tally.{is_marked, mark_of, noted, marked, is_pos}

-- A number is noted: past the last mark, and at its mark.
module _ (m : List ℕ) (t : Tally) (n : ℕ) where
  pub noted-above : (a : Bool) → a ≡ (t.after || is_marked m 0) → length m ≤ n
      → record { status = t.status; again = t.again; early = t.early; after = a; above = true; twice = t.twice } ≡ noted m t n
  unfolding noted
  noted-above a e h =
      rw (e, get_or-eq_default m 0 h, le-leb _ _ h, or-false t.twice, or_right t.above {b = true} refl)

  pub noted_here : (a b : Bool) → a ≡ (t.after || is_marked m 0) → b ≡ (t.twice || is_marked m n) → n < length m
      → record { status = t.status; again = t.again; early = t.early; after = a; above = t.above; twice = b } ≡ noted m t n
  unfolding noted
  noted_here a b e g h = rw (e, g, lt-leb _ _ h, or-false t.above)

  pub marked-above : (plus : Bool) → length m ≤ n → m ≡ marked m n plus
  unfolding marked
  marked-above plus h = sym (set_out m n (mark_of (get_or m n 0) plus) h)

pub marked-long : (m : List ℕ) (n : ℕ) (plus : Bool) → length (marked m n plus) ≡ length m
unfolding marked
marked-long m n plus = length-set m n (mark_of (get_or m n 0) plus)

-- A mark after one number: it is set if it was or is that number's, and it is 1 if it was or is that number's and there is no minus.
mark-at : (m : List ℕ) (n k : ℕ) (plus : Bool) → k < length m
    → get_or (marked m n plus) k 0 ≡ pick (eqb n k) (mark_of (get_or m k 0) plus) (get_or m k 0)
unfolding marked
mark-at m n k plus h = by_test (eqb n k)
    (λ t. rw (t, eqb-true n k t) (get_or-set_same m k (mark_of (get_or m k 0) plus) 0 h))
    (λ t. rw t (get_or-set_other m n k (mark_of (get_or m n 0) plus) 0 (λ e. eqb-false n k t (sym e))))

pub marked_one : (m : List ℕ) (n k : ℕ) (plus : Bool) → k < length m → is_marked (marked m n plus) k ≡ (is_marked m k || eqb n k)
marked_one m n k plus h = ap (λ w. not (eqb w 0)) (mark-at m n k plus h) ∙ one (eqb n k) plus (get_or m k 0)
  where
    one : (b p : Bool) (w : ℕ) → not (eqb (pick b (mark_of w p) w) 0) ≡ (not (eqb w 0) || b)
    one false p w = sym (or-false (not (eqb w 0)))
    one true true w = sym (or-true (not (eqb w 0)))
    one true false w = by_test (eqb w 0) (λ t. rw t) (λ t. rw (t, t))

pub truth_one : (m : List ℕ) (z : ℤ) (k : ℕ) → k < length m → truth (marked m (nat_abs z) (is_pos z)) k ≡ (truth m k || is_plus k z)
unfolding truth
truth_one m z k h =
    ap (λ w. eqb w 1) (mark-at m (nat_abs z) k (is_pos z) h) ∙ one (eqb (nat_abs z) k) (is_pos z) (get_or m k 0) ∙ ap (λ b. truth m k || b) (plus z)
  where
    one : (b p : Bool) (w : ℕ) → eqb (pick b (mark_of w p) w) 1 ≡ (eqb w 1 || (b && p))
    one false p w = sym (or-false (eqb w 1))
    one true true w = sym (or-true (eqb w 1))
    one true false w = by_test (eqb w 0) (λ t. let e = eqb-true w 0 t in rw (t, e)) (λ t. rw t (sym (or-false (eqb w 1))))

    plus : (x : ℤ) → (eqb (nat_abs x) k && is_pos x) ≡ is_plus k x
    plus (pos n) = and-true (eqb n k)
    plus (negsuc n) = and-false (eqb (suc n) k)
