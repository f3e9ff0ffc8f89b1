-- `crossings::put_open` meets its contract, by what stands on the right; B comes first everywhere. Assumes nothing.
use mathlib.Core.Path.{◌≡◌, refl, sym, ap, subst, ◌∙◌}
use mathlib.Core.List.{List, [], ◌∷◌, ◌++◌}
use Prim.Native.Nat.{ℕ, ◌+◌, ◌-◌, ◌*◌, ◌<◌, ◌≤◌}
use native.Mathlib.Omega.{arith}
use lib.ListN.{length, length-append}
use Rattle.model.specs.Lists.{each, up_to}
use Rattle.formula.specs.Kind.{Side, used, at_letter, at_field, SideIn}
use Rattle.shape.specs.Bytes.{side_of}
use Rattle.shape.proofs.Sides.{says_used, says_letter, says_field}
use Rattle.dimacs.specs.Codes.{codes_line}
use Rattle.model.proofs.Writing.{Writing, joined, begin, fits, next, ends}
use Rattle.crossings.specs.Codes.{open_lines}
use Rattle.matching.specs.Codes.{unlike_line, match_line}
use Rattle.crossings.proofs.put_open.Goals as goal
use Rattle.crossings.proofs.put_open.Lts as lts
use Rattle.crossings.proofs.put_open.Reads as reads
use Rattle.crossings.proofs.put_open.Tie as tie

module _ (l down here x y : ℕ) where
  abbrev line-b : List ℕ
  line-b = codes_line ((here + 1) ∷ (x + 2 * l + 1) ∷ (here + down) ∷ [])

  first_short : (v : Side) → length line-b ≤ length (open_lines l down here x v y)
  first_short used = let n = length-append line-b (codes_line ((here + 1) ∷ (x + 2 * l) ∷ [])) in omega arith
  first_short (at_letter b) =
      let n = length-append line-b (codes_line ((here + 1) ∷ (x + 2 * l) ∷ (here + down + 2) ∷ []) ++ (each (up_to b) (unlike_line here x 0) ++ each (up_to (l - b - 1)) (unlike_line here x (b + 1)))) in
      omega arith
  first_short at_field =
      let n = length-append line-b (codes_line ((here + 1) ∷ (x + 2 * l) ∷ (y + 2 * l + 1) ∷ (here + 2) ∷ []) ++ (codes_line ((here + 1) ∷ (x + 2 * l) ∷ (y + 2 * l) ∷ (here + down + 2) ∷ []) ++ each (up_to l) (match_line l here x y))) in
      omega arith

-- what is still to be written, and the codes of it
module _ (start : lts.Start tie.the-claims reads.Pre reads.Post) where
  abbrev by_side : Side → List ℕ
  by_side v = open_lines start.args.crossing.l start.args.crossing.down start.args.crossing.here start.args.x v start.args.right.code

  abbrev Still : List ℕ → List (List ℕ) → List ℕ → ℕ → Type 0
  Still = Writing start.args.buf.now start.args.at (by_side (side_of start.args.right.byte))

  abbrev not-here : ℕ
  not-here = start.args.crossing.here + 1

  abbrev past-both : ℕ
  past-both = start.args.crossing.here + start.args.crossing.down + 2

  abbrev x-blank : ℕ
  x-blank = start.args.x + 2 * start.args.crossing.l

  abbrev y-blank : ℕ
  y-blank = start.args.right.code + 2 * start.args.crossing.l

  abbrev unlike : ℕ → ℕ → List ℕ
  unlike n k = each (up_to k) (unlike_line start.args.crossing.here start.args.x n)

  abbrev matches : List ℕ
  matches = each (up_to start.args.crossing.l) (match_line start.args.crossing.l start.args.crossing.here start.args.x start.args.right.code)

abbrev start_of : lts.After-clause_line tie.the-claims reads.Pre reads.Post → lts.Start tie.the-claims reads.Pre reads.Post
start_of c = c.before.before.before.before.before.before.before

-- after B, by the side
after-b : (c : lts.After-clause_line tie.the-claims reads.Pre reads.Post) (v : Side) (p : List ℕ) (others : List (List ℕ)) → side_of (start_of c).args.right.byte ≡ v
    → by_side (start_of c) v ≡ joined (line-b (start_of c).args.crossing.l (start_of c).args.crossing.down (start_of c).args.crossing.here (start_of c).args.x (start_of c).args.right.code) (p ∷ others)
    → Still (start_of c) p others c.clause_line-b.new.buf c.clause_line-b.result
after-b c v p others e w = next (begin _ _ _ _ (p ∷ others) (ap (by_side (start_of c)) e ∙ w) (start_of c).requires.2) c.clause_line-b.ensures c.clause_line-b.auto.buf

abbrev b-of : lts.After-slice_known2 tie.the-claims reads.Pre reads.Post → lts.After-clause_line tie.the-claims reads.Pre reads.Post
b-of c = c.before.before

ended : (c : lts.Then1 tie.the-claims reads.Pre reads.Post) → Still (start_of (b-of c.before.before)) (codes_line (not-here (start_of (b-of c.before.before)) ∷ x-blank (start_of (b-of c.before.before)) ∷ [])) [] (b-of c.before.before).clause_line-b.new.buf (b-of c.before.before).clause_line-b.result
unfolding joined
ended c = after-b (b-of c.before.before) _ _ _ (says_used _ c.if-right-eq-USED.true) refl

-- D, and E before the letter and after it
abbrev b-wide : lts.After-from tie.the-claims reads.Pre reads.Post → lts.After-clause_line tie.the-claims reads.Pre reads.Post
b-wide c = b-of c.before.before.before.before.before

abbrev start-wide : lts.After-from tie.the-claims reads.Pre reads.Post → lts.Start tie.the-claims reads.Pre reads.Post
start-wide c = start_of (b-wide c)

letter : (c : lts.After-from tie.the-claims reads.Pre reads.Post) → Still (start-wide c) (codes_line (not-here (start-wide c) ∷ x-blank (start-wide c) ∷ past-both (start-wide c) ∷ []))
    (unlike (start-wide c) 0 c.from-n.result ∷ unlike (start-wide c) (c.from-n.result + 1) ((start-wide c).args.crossing.l - c.from-n.result - 1) ∷ []) (b-wide c).clause_line-b.new.buf (b-wide c).clause_line-b.result
unfolding joined
letter c = after-b (b-wide c) _ _ _ (says_letter _ c.if-right-lt-FIRST_PLACE.true ∙ ap at_letter (sym c.from-n.ensures)) refl

-- the letter is one of l
inside : (c : lts.After-from tie.the-claims reads.Pre reads.Post) → c.from-n.result < (start-wide c).args.crossing.l
inside c = rw c.from-n.ensures (subst (SideIn (start-wide c).args.crossing.l) (says_letter _ c.if-right-lt-FIRST_PLACE.true) (start-wide c).requires.1)

abbrev wide-d : lts.After-clause_line3 tie.the-claims reads.Pre reads.Post → lts.After-from tie.the-claims reads.Pre reads.Post
wide-d c = c.before.before.before

after-d : (c : lts.After-clause_line3 tie.the-claims reads.Pre reads.Post) → Still (start-wide (wide-d c)) (unlike (start-wide (wide-d c)) 0 (wide-d c).from-n.result)
    (unlike (start-wide (wide-d c)) ((wide-d c).from-n.result + 1) ((start-wide (wide-d c)).args.crossing.l - (wide-d c).from-n.result - 1) ∷ []) c.clause_line-d.new.buf c.clause_line-d.result
after-d c = next (letter (wide-d c)) c.clause_line-d.ensures c.clause_line-d.auto.buf

abbrev d-of : lts.After-put_unlike tie.the-claims reads.Pre reads.Post → lts.After-clause_line3 tie.the-claims reads.Pre reads.Post
d-of c = c.before.before.before.before

abbrev wide-e : lts.After-put_unlike tie.the-claims reads.Pre reads.Post → lts.After-from tie.the-claims reads.Pre reads.Post
wide-e c = wide-d (d-of c)

after-e : (c : lts.After-put_unlike tie.the-claims reads.Pre reads.Post) → Still (start-wide (wide-e c)) (unlike (start-wide (wide-e c)) ((wide-e c).from-n.result + 1) ((start-wide (wide-e c)).args.crossing.l - (wide-e c).from-n.result - 1)) [] c.put_unlike-e.new.buf c.put_unlike-e.result
after-e c = next (after-d (d-of c)) c.put_unlike-e.ensures c.put_unlike-e.auto.buf

-- C, D and E where a place is on the right
abbrev b-place : lts.Else2 tie.the-claims reads.Pre reads.Post → lts.After-clause_line tie.the-claims reads.Pre reads.Post
b-place c = b-of c.before.before.before.before

abbrev start-place : lts.Else2 tie.the-claims reads.Pre reads.Post → lts.Start tie.the-claims reads.Pre reads.Post
start-place c = start_of (b-place c)

place : (c : lts.Else2 tie.the-claims reads.Pre reads.Post) → Still (start-place c) (codes_line (not-here (start-place c) ∷ x-blank (start-place c) ∷ (y-blank (start-place c) + 1) ∷ ((start-place c).args.crossing.here + 2) ∷ []))
    (codes_line (not-here (start-place c) ∷ x-blank (start-place c) ∷ y-blank (start-place c) ∷ past-both (start-place c) ∷ []) ∷ matches (start-place c) ∷ []) (b-place c).clause_line-b.new.buf (b-place c).clause_line-b.result
unfolding joined
place c = after-b (b-place c) _ _ _ (says_field _ c.if-right-lt-FIRST_PLACE.false c.if-right-eq-USED.false) refl

abbrev place-c : lts.After-clause_line4 tie.the-claims reads.Pre reads.Post → lts.Else2 tie.the-claims reads.Pre reads.Post
place-c c = c.before.before.before.before.before.before

after-c : (c : lts.After-clause_line4 tie.the-claims reads.Pre reads.Post) → Still (start-place (place-c c)) (codes_line (not-here (start-place (place-c c)) ∷ x-blank (start-place (place-c c)) ∷ y-blank (start-place (place-c c)) ∷ past-both (start-place (place-c c)) ∷ []))
    (matches (start-place (place-c c)) ∷ []) c.clause_line-c.new.buf c.clause_line-c.result
after-c c = next (place (place-c c)) c.clause_line-c.ensures c.clause_line-c.auto.buf

abbrev c-of : lts.After-clause_line5 tie.the-claims reads.Pre reads.Post → lts.After-clause_line4 tie.the-claims reads.Pre reads.Post
c-of c = c.before.before.before.before.before

after-cd : (c : lts.After-clause_line5 tie.the-claims reads.Pre reads.Post) → Still (start-place (place-c (c-of c))) (matches (start-place (place-c (c-of c)))) [] c.clause_line-d-2.new.buf c.clause_line-d-2.result
after-cd c = next (after-c (c-of c)) c.clause_line-d-2.ensures c.clause_line-d-2.auto.buf

pub clause_line-b-requires : goal.clause_line-b-requires
clause_line-b-requires c =
    let a = c.args in
    omega (arith, first_short a.crossing.l a.crossing.down a.crossing.here a.x a.right.code (side_of a.right.byte), c.requires.2)

pub clause_line-requires : goal.clause_line-requires
clause_line-requires c = fits (ended c.before.before)

pub returns-then-right-eq-USED : goal.returns-then-right-eq-USED
returns-then-right-eq-USED c =
    ends _ _ (ended c.before.before.before.before.before.before) c.clause_line.ensures c.clause_line.auto.buf

pub clause_line-d-requires : goal.clause_line-d-requires
clause_line-d-requires c = fits (letter c.before.before)

pub put_unlike-e-requires : goal.put_unlike-e-requires
put_unlike-e-requires c =
    let few = (start-wide (wide-d c.before.before.before)).requires.0 in
    (few.at_here, few.at_left, omega (arith, inside (wide-d c.before.before.before), few.letters), fits (after-d c.before.before.before))

pub put_unlike-requires : goal.put_unlike-requires
put_unlike-requires c =
    let few = (start-wide (wide-e c.before.before.before.before)).requires.0 in
    (few.at_here, few.at_left, omega (arith, inside (wide-e c.before.before.before.before), few.letters), fits (after-e c.before.before.before.before))

pub returns-then-right-lt-FIRST_PLACE : goal.returns-then-right-lt-FIRST_PLACE
returns-then-right-lt-FIRST_PLACE c =
    ends _ _ (after-e c.before.before.before.before.before.before.before.before) c.put_unlike.ensures c.put_unlike.auto.buf

pub clause_line-c-requires : goal.clause_line-c-requires
clause_line-c-requires c = fits (place c.before.before.before.before.before)

pub clause_line-d-requires-2 : goal.clause_line-d-requires-2
clause_line-d-requires-2 c = fits (after-c c.before.before.before.before)

pub put_matches-requires : goal.put_matches-requires
put_matches-requires c =
    let few = (start-place (place-c (c-of c.before.before.before))).requires.0 in
    (few.letters, few.at_here, few.at_left, few.at_right, fits (after-cd c.before.before.before))

pub returns : goal.returns
returns c =
    ends _ _ (after-cd c.before.before.before.before.before.before.before) c.put_matches.ensures c.put_matches.auto.buf
