-- `crossings::put_letter` meets its contract, by what stands on the right. Assumes nothing.
use mathlib.Core.Path.{◌≡◌, refl, sym, ap, subst, ◌∙◌}
use mathlib.Core.List.{List, [], ◌∷◌}
use Prim.Native.Nat.{ℕ, ◌+◌, ◌*◌}
use lib.Dec.{eqb}
use borrow.Author.Tests.{eq-eqb, ne_eqb}
use Rattle.model.specs.Lists.{pick}
use Rattle.formula.specs.Kind.{Side}
use Rattle.model.proofs.Seams.{nothing}
use Rattle.shape.specs.Bytes.{side_of}
use Rattle.shape.proofs.Sides.{says_used, says_letter, says_field}
use Rattle.dimacs.specs.Codes.{codes_line}
use Rattle.model.proofs.Writing.{Writing, joined, begin, fits, next, ends}
use Rattle.crossings.specs.Codes.{letter_lines}
use Rattle.crossings.proofs.put_letter.Goals as goal
use Rattle.crossings.proofs.put_letter.Lts as lts
use Rattle.crossings.proofs.put_letter.Reads as reads
use Rattle.crossings.proofs.put_letter.Tie as tie

-- what is still to be written, and the codes of it
module _ (start : lts.Start tie.the-claims reads.Pre reads.Post) where
  abbrev by_side : Side → List ℕ
  by_side v = letter_lines start.args.crossing.l start.args.crossing.down start.args.crossing.here start.args.a v start.args.right.code

  abbrev Still : List ℕ → List (List ℕ) → List ℕ → ℕ → Type 0
  Still = Writing start.args.buf.now start.args.at (by_side (side_of start.args.right.byte))

  begun : (v : Side) (p : List ℕ) (others : List (List ℕ)) → side_of start.args.right.byte ≡ v → by_side v ≡ joined p others → Still p others start.args.buf.now start.args.at
  begun v p others e w = begin _ _ _ p others (ap by_side e ∙ w) start.requires.2

  abbrev not-here : ℕ
  not-here = start.args.crossing.here + 1

  abbrev past-both : ℕ
  past-both = start.args.crossing.here + start.args.crossing.down + 2

  abbrev y-blank : ℕ
  y-blank = start.args.right.code + 2 * start.args.crossing.l

  -- E of two letters, and E against a place, by the code that says that this has the letter
  abbrev unlike : List ℕ
  unlike = pick (eqb start.args.a start.args.right.byte) [] (codes_line (not-here ∷ []))

  abbrev match : ℕ → List ℕ
  match y = codes_line (not-here ∷ y-blank ∷ y ∷ [])

ended : (c : lts.Then1 tie.the-claims reads.Pre reads.Post) → Still c.before.before.before.before.before (codes_line (not-here c.before.before.before.before.before ∷ [])) [] c.args.buf.now c.args.at
unfolding joined
ended c = begun c.before.before.before.before.before _ _ _ (says_used _ c.if-right-eq-USED.true) refl

abbrev start_of : lts.Else1 tie.the-claims reads.Pre reads.Post → lts.Start tie.the-claims reads.Pre reads.Post
start_of c = c.before.before.before.before.before

-- D of two letters, and E where they differ
letters : (c : lts.Then2 tie.the-claims reads.Pre reads.Post) → Still (start_of c.before.before) (codes_line (not-here (start_of c.before.before) ∷ past-both (start_of c.before.before) ∷ [])) (unlike (start_of c.before.before) ∷ []) (start_of c.before.before).args.buf.now (start_of c.before.before).args.at
unfolding joined
letters c = begun (start_of c.before.before) _ _ _ (says_letter _ c.if-right-lt-FIRST_PLACE.true) refl

abbrev letters-of : lts.After-clause_line2 tie.the-claims reads.Pre reads.Post → lts.Then2 tie.the-claims reads.Pre reads.Post
letters-of c = c.before.before.before

after-d : (c : lts.After-clause_line2 tie.the-claims reads.Pre reads.Post) → Still (start_of (letters-of c).before.before) (unlike (start_of (letters-of c).before.before)) [] c.clause_line-past.new.buf c.clause_line-past.result
after-d c = next (letters (letters-of c)) c.clause_line-past.ensures c.clause_line-past.auto.buf

abbrev d-of : lts.After-slice_known3 tie.the-claims reads.Pre reads.Post → lts.After-clause_line2 tie.the-claims reads.Pre reads.Post
d-of c = c.before.before

-- the same letters, and others
alike : (c : lts.Then3 tie.the-claims reads.Pre reads.Post) → Still (start_of (letters-of (d-of c.before.before)).before.before) [] [] (d-of c.before.before).clause_line-past.new.buf (d-of c.before.before).clause_line-past.result
alike c = rw (eq-eqb _ _ c.if-a-right.true) at (after-d (d-of c.before.before))

differing : (c : lts.Else3 tie.the-claims reads.Pre reads.Post) → Still (start_of (letters-of (d-of c.before.before)).before.before) (codes_line (not-here (start_of (letters-of (d-of c.before.before)).before.before) ∷ [])) [] (d-of c.before.before).clause_line-past.new.buf (d-of c.before.before).clause_line-past.result
differing c = rw (ne_eqb _ _ c.if-a-right.false) at (after-d (d-of c.before.before))

-- C, D and E where a place is on the right
place : (c : lts.Else2 tie.the-claims reads.Pre reads.Post) → Still (start_of c.before.before) (codes_line (not-here (start_of c.before.before) ∷ (y-blank (start_of c.before.before) + 1) ∷ ((start_of c.before.before).args.crossing.here + 2) ∷ []))
    (codes_line (not-here (start_of c.before.before) ∷ y-blank (start_of c.before.before) ∷ past-both (start_of c.before.before) ∷ [])
    ∷ match (start_of c.before.before) ((start_of c.before.before).args.right.code + 2 * (start_of c.before.before).args.a)
    ∷ []) (start_of c.before.before).args.buf.now (start_of c.before.before).args.at
unfolding joined
place c = begun (start_of c.before.before) _ _ _ (says_field _ c.if-right-lt-FIRST_PLACE.false c.if-right-eq-USED.false) refl

abbrev start-c : lts.After-clause_line4 tie.the-claims reads.Pre reads.Post → lts.Start tie.the-claims reads.Pre reads.Post
start-c c = start_of c.before.before.before.before.before.before.before.before

after-c : (c : lts.After-clause_line4 tie.the-claims reads.Pre reads.Post) → Still (start-c c) (codes_line (not-here (start-c c) ∷ y-blank (start-c c) ∷ past-both (start-c c) ∷ [])) (match (start-c c) ((start-c c).args.right.code + 2 * (start-c c).args.a) ∷ []) c.clause_line-c.new.buf c.clause_line-c.result
after-c c = next (place c.before.before.before.before.before.before) c.clause_line-c.ensures c.clause_line-c.auto.buf

abbrev c-of : lts.After-clause_line5 tie.the-claims reads.Pre reads.Post → lts.After-clause_line4 tie.the-claims reads.Pre reads.Post
c-of c = c.before.before.before.before.before

after-cd : (c : lts.After-clause_line5 tie.the-claims reads.Pre reads.Post) → Still (start-c (c-of c)) (match (start-c (c-of c)) ((start-c (c-of c)).args.right.code + 2 * (start-c (c-of c)).args.a)) [] c.clause_line-d.new.buf c.clause_line-d.result
after-cd c = next (after-c (c-of c)) c.clause_line-d.ensures c.clause_line-d.auto.buf

abbrev place-d-of : lts.After-from tie.the-claims reads.Pre reads.Post → lts.After-clause_line5 tie.the-claims reads.Pre reads.Post
place-d-of c = c.before.before.before.before

abbrev start-wide : lts.After-from tie.the-claims reads.Pre reads.Post → lts.Start tie.the-claims reads.Pre reads.Post
start-wide c = start-c (c-of (place-d-of c))

last : (c : lts.After-from tie.the-claims reads.Pre reads.Post) → Still (start-wide c) (match (start-wide c) ((start-wide c).args.right.code + 2 * c.from.result)) [] (place-d-of c).clause_line-d.new.buf (place-d-of c).clause_line-d.result
last c = subst (λ n. Still (start-wide c) (match (start-wide c) ((start-wide c).args.right.code + 2 * n)) [] (place-d-of c).clause_line-d.new.buf (place-d-of c).clause_line-d.result) (sym c.from.ensures) (after-cd (place-d-of c))

pub clause_line-requires : goal.clause_line-requires
clause_line-requires c = fits (ended c.before.before)

pub returns-then-right-eq-USED : goal.returns-then-right-eq-USED
returns-then-right-eq-USED c =
    ends _ _ (ended c.before.before.before.before.before.before) c.clause_line.ensures c.clause_line.auto.buf

pub clause_line-past-requires : goal.clause_line-past-requires
clause_line-past-requires c = fits (letters c.before.before)

pub returns-then-a-right : goal.returns-then-a-right
returns-then-a-right c =
    let at_d = (d-of c.before.before.before).clause_line-past in
    let none = nothing at_d.new.buf at_d.result in
    ends _ _ (alike c.before) (none.past, none.holds) refl

pub clause_line-requires-then-right-lt-FIRST_PLACE : goal.clause_line-requires-then-right-lt-FIRST_PLACE
clause_line-requires-then-right-lt-FIRST_PLACE c = fits (differing c.before.before)

pub returns-then-right-lt-FIRST_PLACE : goal.returns-then-right-lt-FIRST_PLACE
returns-then-right-lt-FIRST_PLACE c =
    ends _ _ (differing c.before.before.before.before.before.before) c.clause_line-then-right-lt-FIRST_PLACE.ensures c.clause_line-then-right-lt-FIRST_PLACE.auto.buf

pub clause_line-c-requires : goal.clause_line-c-requires
clause_line-c-requires c = fits (place c.before.before.before.before.before)

pub clause_line-d-requires : goal.clause_line-d-requires
clause_line-d-requires c = fits (after-c c.before.before.before.before)

pub clause_line-requires-2 : goal.clause_line-requires-2
clause_line-requires-2 c = fits (last c.before.before)

pub returns : goal.returns
returns c =
    ends _ _ (last c.before.before.before.before.before.before) c.clause_line-2.ensures c.clause_line-2.auto.buf
