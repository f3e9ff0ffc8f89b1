-- What a tally and marks mean after a text's lines: the tests of the text that the tally decides, and the assignment that the marks hold.
-- Assumes nothing.
use mathlib.Core.Path.{◌≡◌, refl, sym, ap, ap₂, ◌∙◌}
use mathlib.Core.Bool.{Bool, true, false, not, ◌&&◌, ◌||◌, and-true, and-false, or-true, or-false, or_assoc, and_comm}
use mathlib.Core.List.{List, [], ◌∷◌, ◌++◌, map}
use Prim.Native.Nat.{ℕ, suc, ◌<◌}
use native.Mathlib.Omega.{arith}
use lib.Dec.{leb, eqb, eqb-suc-zero, eqb-suc-suc}
use lib.IntN.{ℤ, nat_abs}
use lib.ListN.{length, drop, replicate, length-replicate, get_or-replicate}
use borrow.Author.Tests.{leb-true, leb-false, le-leb, lt-leb}
use Rattle.model.specs.Lists.{pick, same, each, any, all, keep}
use Rattle.formula.specs.Assignment.{truth}
use Rattle.formula.specs.Dimacs.{numbers}
use Rattle.calls.specs.Reply.{split, spaced, lines, satisfiable_line, status_line, value_line, before, one_status, line_numbers, given, is_empty, closed, in_count, distinct, given_once, is_plus, assigned}
use Rattle.model.proofs.Lists.{by_test, and_split, same-equal}
use Rattle.tally.specs.declared.Tally.{Tally}
use Rattle.tally.specs.Tally.{State, is_marked, noted, marked, is_pos, after_number, after_numbers, with_values, after_line, after_lines, nothing}
use Rattle.tally.proofs.Marks.{marked-long, marked_one, truth_one}

-- Tests, in another order or form.
or_swap : (a b c d : Bool) → ((a || b) || (c || d)) ≡ ((a || c) || (b || d))
or_swap true b c d = refl
or_swap false true c d = sym (or-true c)
or_swap false false c d = refl

and_pick : (a b : Bool) → (a && b) ≡ (b && pick a true false)
and_pick true b = sym (and-true b)
and_pick false b = sym (and-false b)

leb_not : (m n : ℕ) → not (leb (suc m) n) ≡ leb n m
leb_not m n = by_test (leb n m)
    (λ t. let h = leb-true n m t in rw (t, lt-leb (suc m) n (omega arith)))
    (λ t. let h = leb-false n m t in rw (t, le-leb (suc m) n (omega arith)))

-- After several numbers: as many marks as before; the variables made true before or in them; none without a mark before or in them.
length-all : (st : State) (zs : List ℤ) → length (after_numbers st zs).marks ≡ length st.marks
unfolding after_numbers after_number
length-all st [] = refl
length-all st (z ∷ zs) = length-all (after_number st z) zs ∙ marked-long st.marks (nat_abs z) (is_pos z)

truth-all : (st : State) (zs : List ℤ) (k : ℕ) → k < length st.marks
    → truth (after_numbers st zs).marks k ≡ (truth st.marks k || any (is_plus k) zs)
unfolding after_numbers after_number any
truth-all st [] k h = sym (or-false (truth st.marks k))
truth-all st (z ∷ zs) k h =
    let kept = marked-long st.marks (nat_abs z) (is_pos z) in
    truth-all (after_number st z) zs k (omega arith)
    ∙ ap (λ b. b || any (is_plus k) zs) (truth_one st.marks z k h)
    ∙ or_assoc (truth st.marks k) (is_plus k z) (any (is_plus k) zs)

above-all : (count : ℕ) (st : State) (zs : List ℤ) → length st.marks ≡ suc count
    → not (after_numbers st zs).tally.above ≡ (not st.tally.above && in_count count zs)
unfolding after_numbers after_number noted in_count all
above-all count st [] e = sym (and-true (not st.tally.above))
above-all count st (z ∷ zs) e =
    above-all count (after_number st z) zs (marked-long st.marks (nat_abs z) (is_pos z) ∙ e)
    ∙ order st.tally.above (leb (length st.marks) (nat_abs z)) (in_count count zs)
    ∙ ap (λ b. not st.tally.above && (b && in_count count zs)) (ap (λ n. not (leb n (nat_abs z))) e ∙ leb_not count (nat_abs z))
  where
    order : (a b c : Bool) → (not (a || b) && c) ≡ (not a && (not b && c))
    order true b c = refl
    order false b c = refl

-- The 0 is met and no number after it: before these numbers, or in them.
closed_all : (st : State) (zs : List ℤ) → 0 < length st.marks
    → (is_marked (after_numbers st zs).marks 0 && not (after_numbers st zs).tally.after)
    ≡ (not st.tally.after && pick (is_marked st.marks 0) (is_empty zs) (closed zs))
unfolding after_numbers after_number noted closed
closed_all st [] h = and_pick (is_marked st.marks 0) (not st.tally.after)
closed_all st (z ∷ zs) h =
    let kept = marked-long st.marks (nat_abs z) (is_pos z) in
    closed_all (after_number st z) zs (omega arith)
    ∙ ap (λ b. not (st.tally.after || is_marked st.marks 0) && pick b (is_empty zs) (closed zs)) (marked_one st.marks (nat_abs z) 0 (is_pos z) h)
    ∙ order st.tally.after (is_marked st.marks 0) (eqb (nat_abs z) 0) (is_empty zs) (closed zs)
  where
    order : (a m n c d : Bool) → (not (a || m) && pick (m || n) c d) ≡ (not a && pick m false (pick n c d))
    order true m n c d = refl
    order false true n c d = refl
    order false false n c d = refl

-- None is met twice: none before, no two of these numbers are equal, and none of them was marked. Of one number: what it marks among others.
any-marked : (m : List ℕ) (count n : ℕ) (plus : Bool) (zs : List ℤ) → length m ≡ suc count → in_count count zs ≡ true
    → any (is_marked (marked m n plus)) (map nat_abs zs) ≡ (any (is_marked m) (map nat_abs zs) || any (eqb n) (map nat_abs zs))
unfolding any in_count all
any-marked m count n plus [] e h = refl
any-marked m count n plus (z ∷ zs) e h =
    let r = and_split (leb (nat_abs z) count) (in_count count zs) h in
    let fits = leb-true (nat_abs z) count r.0 in
    ap₂ ◌||◌ (marked_one m n (nat_abs z) plus (omega arith)) (any-marked m count n plus zs e r.1)
    ∙ or_swap (is_marked m (nat_abs z)) (eqb n (nat_abs z)) (any (is_marked m) (map nat_abs zs)) (any (eqb n) (map nat_abs zs))

twice_all : (count : ℕ) (st : State) (zs : List ℤ) → length st.marks ≡ suc count → in_count count zs ≡ true
    → not (after_numbers st zs).tally.twice ≡ (not st.tally.twice && (given_once zs && not (any (is_marked st.marks) (map nat_abs zs))))
unfolding after_numbers after_number noted in_count all distinct any
twice_all count st [] e h = sym (and-true (not st.tally.twice))
twice_all count st (z ∷ zs) e h =
    let n : ℕ = nat_abs z in
    let ns : List ℕ = map nat_abs zs in
    let r = and_split (leb n count) (in_count count zs) h in
    twice_all count (after_number st z) zs (marked-long st.marks n (is_pos z) ∙ e) r.1
    ∙ ap (λ b. not (st.tally.twice || is_marked st.marks n) && (distinct ns && not b)) (any-marked st.marks count n (is_pos z) zs e r.1)
    ∙ order st.tally.twice (is_marked st.marks n) (distinct ns) (any (is_marked st.marks) ns) (any (eqb n) ns)
  where
    order : (t a d b e : Bool) → (not (t || a) && (d && not (b || e))) ≡ (not t && ((not e && d) && not (a || b)))
    order true a d b e = refl
    order false true d b e = sym (and-false (not e && d))
    order false false d true e = and-false d ∙ sym (and-false (not e && d))
    order false false d false e = and_comm d (not e) ∙ sym (and-true (not e && d))

-- What a state says of numbers. The lines' numbers alone change it.
abbrev seen : State → State
seen st = record {
  tally = record { status = false; again = false; early = false; after = st.tally.after; above = st.tally.above; twice = st.tally.twice };
  marks = st.marks;
}

seen_numbers : (st : State) (zs : List ℤ) → seen (after_numbers st zs) ≡ after_numbers (seen st) zs
unfolding after_numbers after_number noted
seen_numbers st [] = refl
seen_numbers st (z ∷ zs) = seen_numbers (after_number st z) zs

numbers-append : (st : State) (xs ys : List ℤ) → after_numbers st (xs ++ ys) ≡ after_numbers (after_numbers st xs) ys
unfolding after_numbers
numbers-append st [] ys = refl
numbers-append st (x ∷ xs) ys = numbers-append (after_number st x) xs ys

status_no-values : (l : List ℕ) → status_line l ≡ true → value_line l ≡ false
unfolding value_line split same
status_no-values l t = ap value_line (same-equal l satisfiable_line t)

seen_line : (st : State) (l : List ℕ) → seen (after_line st l) ≡ after_numbers (seen st) (line_numbers l)
unfolding after_line line_numbers after_numbers
seen_line st l = by_test (status_line l)
    (λ s. rw (s, status_no-values l s))
    (λ s. by_test (value_line l)
    (λ v. rw (s, v) (seen_numbers (record { tally = with_values st.tally; marks = st.marks }) (numbers (drop 2 (spaced l)))))
    (λ v. rw (s, v)))

seen_lines : (st : State) (ls : List (List ℕ)) → seen (after_lines st ls) ≡ after_numbers (seen st) (each ls line_numbers)
unfolding after_lines each after_numbers
seen_lines st [] = refl
seen_lines st (l ∷ ls) =
    seen_lines (after_line st l) ls
    ∙ ap (λ s. after_numbers s (each ls line_numbers)) (seen_line st l)
    ∙ sym (numbers-append (seen st) (line_numbers l) (each ls line_numbers))

-- What a tally says of s lines and v lines, if after it there may be no s line (`more`), or one and before it no v line (`one`).
abbrev heard : Tally → Bool → Bool → Bool
heard t more one = (not t.again && not t.early) && pick t.status more one

heard_numbers : (st : State) (zs : List ℤ) (more one : Bool) → heard (after_numbers st zs).tally more one ≡ heard st.tally more one
unfolding after_numbers after_number noted
heard_numbers st [] more one = refl
heard_numbers st (z ∷ zs) more one = heard_numbers (after_number st z) zs more one

heard_lines : (st : State) (ls : List (List ℕ))
    → heard (after_lines st ls).tally true false ≡ heard st.tally (eqb (length (keep status_line ls)) 0) (one_status ls)
unfolding after_lines after_line keep one_status before any
heard_lines st [] = refl
heard_lines st (l ∷ ls) =
    let t : Tally = st.tally in
    let n : ℕ = length (keep status_line ls) in
    heard_lines (after_line st l) ls ∙ by_test (status_line l)
    (λ s. rw (s, eqb-suc-zero n, eqb-suc-suc n 0, and-true (eqb n 0)) (second t.again (not t.early) t.status (eqb n 0)))
    (λ s. by_test (value_line l)
    (λ v. rw (s, v)
    (heard_numbers (record { tally = with_values t; marks = st.marks }) (line_numbers l) (eqb n 0) (one_status ls)
    ∙ first t.again t.early t.status (eqb n 0) (one_status ls) (eqb n 1)))
    (λ v. rw (s, v)))
  where
    second : (a b s c : Bool) → ((not (a || s) && b) && c) ≡ ((not a && b) && pick s false c)
    second true b s c = refl
    second false b true c = sym (and-false b)
    second false b false c = refl

    first : (a e s c d f : Bool) → ((not a && not (e || not s)) && pick s c d) ≡ ((not a && not e) && pick s c (f && false))
    first true e s c d f = refl
    first false true s c d f = refl
    first false false true c d f = refl
    first false false false c d f = sym (and-false f)

-- All of it, of a text that is read with no mark set.
none-marked : (count : ℕ) (zs : List ℤ) → in_count count zs ≡ true → any (is_marked (replicate (suc count) 0)) (map nat_abs zs) ≡ false
unfolding any in_count all
none-marked count [] h = refl
none-marked count (z ∷ zs) h =
    let r = and_split (leb (nat_abs z) count) (in_count count zs) h in
    let fits = leb-true (nat_abs z) count r.0 in
    rw (get_or-replicate {A = ℕ} (suc count) (nat_abs z) 0 0 (omega arith)) (none-marked count zs r.1)

pub record Means (count : ℕ) (t : List ℕ) (st : State) : Type 0 where
  pub marks_count : length st.marks ≡ suc count
  pub status_is : one_status (lines t) ≡ (st.tally.status && (not st.tally.again && not st.tally.early))
  pub closed_is : closed (given t) ≡ (is_marked st.marks 0 && not st.tally.after)
  pub count_is : in_count count (given t) ≡ not st.tally.above
  pub once_is : st.tally.above ≡ false → given_once (given t) ≡ not st.tally.twice
  pub truth_is : (k : ℕ) → k < suc count → truth st.marks k ≡ assigned t k

pub means : (count : ℕ) (t : List ℕ) → Means count t (after_lines (record { tally = nothing; marks = replicate (suc count) 0 }) (lines t))
unfolding given assigned truth
means count t =
    let start : State = record { tally = nothing; marks = replicate (suc count) 0 } in
    let is = seen_lines start (lines t) in
    let size : length start.marks ≡ suc count = length-replicate (suc count) 0 in
    let end : State = after_lines start (lines t) in
    let met = above-all count start (given t) size in
    let counted : in_count count (given t) ≡ not end.tally.above = sym (ap (λ s. not s.tally.above) is ∙ met) in
    record {
      marks_count = ap (λ s. length s.marks) is ∙ length-all start (given t) ∙ size;
      status_is = sym (and_pick end.tally.status (not end.tally.again && not end.tally.early) ∙ heard_lines start (lines t));
      closed_is = sym (ap (λ s. is_marked s.marks 0 && not s.tally.after) is ∙ closed_all start (given t) (omega arith));
      count_is = counted;
      once_is = λ low.
          let fits = counted ∙ ap not low in
          sym (ap (λ s. not s.tally.twice) is ∙ twice_all count start (given t) size fits
          ∙ ap (λ b. given_once (given t) && not b) (none-marked count (given t) fits) ∙ and-true (given_once (given t)));
      truth_is = λ k h. ap (λ s. truth s.marks k) is ∙ truth-all start (given t) k (omega arith)
          ∙ ap (λ w. eqb w 1 || any (is_plus k) (given t)) (get_or-replicate {A = ℕ} (suc count) k 0 0 h);
    }
