-- `crossings::put_past` meets its contract, by what stands on the right. Assumes nothing.
use mathlib.Core.Path.{◌≡◌, refl, sym, ap, subst, ◌∙◌}
use mathlib.Core.List.{List, [], ◌∷◌}
use Prim.Native.Nat.{ℕ, ◌+◌, ◌*◌}
use Rattle.model.specs.Lists.{Puts}
use Rattle.formula.specs.Kind.{Side}
use Rattle.model.proofs.Seams.{nothing}
use Rattle.shape.specs.Bytes.{side_of}
use Rattle.shape.proofs.Sides.{says_used, says_letter, says_field}
use Rattle.dimacs.specs.Codes.{codes_line}
use Rattle.model.proofs.Writing.{Writing, joined, begin, fits, next, ends}
use Rattle.crossings.specs.Codes.{past_lines}
use Rattle.crossings.proofs.put_past.Goals as goal
use Rattle.crossings.proofs.put_past.Lts as lts
use Rattle.crossings.proofs.put_past.Reads as reads
use Rattle.crossings.proofs.put_past.Tie as tie

-- what is still to be written, and the codes of it
module _ (start : lts.Start tie.the-claims reads.Pre reads.Post) where
  abbrev by_side : Side → List ℕ
  by_side v = past_lines start.args.crossing.l start.args.crossing.here v start.args.right.code

  abbrev Still : List ℕ → List (List ℕ) → List ℕ → ℕ → Type 0
  Still = Writing start.args.buf.now start.args.at (by_side (side_of start.args.right.byte))

  begun : (v : Side) (p : List ℕ) (others : List (List ℕ)) → side_of start.args.right.byte ≡ v → by_side v ≡ joined p others → Still p others start.args.buf.now start.args.at
  begun v p others e w = begin _ _ _ p others (ap by_side e ∙ w) start.requires.3

  abbrev not-here : ℕ
  not-here = start.args.crossing.here + 1

  abbrev y-blank : ℕ
  y-blank = start.args.right.code + 2 * start.args.crossing.l

abbrev start_of : lts.Else1 tie.the-claims reads.Pre reads.Post → lts.Start tie.the-claims reads.Pre reads.Post
start_of c = c.before.before.before

letter : (c : lts.Then2 tie.the-claims reads.Pre reads.Post) → Still (start_of c.before.before.before) (codes_line (not-here (start_of c.before.before.before) ∷ [])) [] (start_of c.before.before.before).args.buf.now (start_of c.before.before.before).args.at
unfolding joined
letter c = begun (start_of c.before.before.before) _ _ _ (says_letter _ c.if-right-lt-FIRST_PLACE.true) refl

-- C and F
place : (c : lts.Else2 tie.the-claims reads.Pre reads.Post) → Still (start_of c.before.before.before) (codes_line (not-here (start_of c.before.before.before) ∷ (y-blank (start_of c.before.before.before) + 1) ∷ ((start_of c.before.before.before).args.crossing.here + 2) ∷ []))
    (codes_line (not-here (start_of c.before.before.before) ∷ y-blank (start_of c.before.before.before) ∷ []) ∷ []) (start_of c.before.before.before).args.buf.now (start_of c.before.before.before).args.at
unfolding joined
place c = begun (start_of c.before.before.before) _ _ _ (says_field _ c.if-right-lt-FIRST_PLACE.false c.if-right-eq-USED.false) refl

abbrev place_of : lts.After-clause_line2 tie.the-claims reads.Pre reads.Post → lts.Else2 tie.the-claims reads.Pre reads.Post
place_of c = c.before.before.before.before.before.before

after-c : (c : lts.After-clause_line2 tie.the-claims reads.Pre reads.Post) → Still (start_of (place_of c).before.before.before) (codes_line (not-here (start_of (place_of c).before.before.before) ∷ y-blank (start_of (place_of c).before.before.before) ∷ [])) [] c.clause_line-past.new.buf c.clause_line-past.result
after-c c = next (place (place_of c)) c.clause_line-past.ensures c.clause_line-past.auto.buf

pub returns-then-right-eq-USED : goal.returns-then-right-eq-USED
returns-then-right-eq-USED c =
    let none = nothing c.args.buf.now c.args.at in
    subst (λ v. Puts c.args.buf.now c.args.at (by_side c.before.before.before.before v) c.args.buf.now c.args.at) (sym (says_used c.args.right.byte c.if-right-eq-USED.true)) (none.past, none.holds)

pub clause_line-requires : goal.clause_line-requires
clause_line-requires c = fits (letter c.before.before)

pub returns-then-right-lt-FIRST_PLACE : goal.returns-then-right-lt-FIRST_PLACE
returns-then-right-lt-FIRST_PLACE c =
    ends _ _ (letter c.before.before.before.before.before.before) c.clause_line.ensures c.clause_line.auto.buf

pub clause_line-past-requires : goal.clause_line-past-requires
clause_line-past-requires c = fits (place c.before.before.before.before.before)

pub clause_line-requires-2 : goal.clause_line-requires-2
clause_line-requires-2 c = fits (after-c c.before.before.before.before)

pub returns : goal.returns
returns c =
    ends _ _ (after-c c.before.before.before.before.before.before.before.before) c.clause_line-2.ensures c.clause_line-2.auto.buf
