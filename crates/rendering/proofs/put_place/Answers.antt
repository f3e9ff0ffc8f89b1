-- `rendering::put_place` meets its contract: three pieces, the last one empty at a field's last place. Assumes nothing.
use mathlib.Core.Path.{refl, ap}
use mathlib.Core.List.{List, [], ◌∷◌}
use Prim.Native.Nat.{ℕ, suc, ◌*◌, ◌<◌, ◌≤◌}
use native.Mathlib.Omega.{arith}
use lib.Dec.{ltb}
use borrow.Author.Tests.{lt-ltb, le-ltb}
use Rattle.model.specs.Lists.{each, up_to, when}
use Rattle.model.specs.Sheet.{Sheet, sheet_of, limit}
use Rattle.formula.specs.Clause.{SomeValue, BlankTail}
use Rattle.model.proofs.Seams.{nothing}
use Rattle.formula.proofs.Small.{letters-few, limit-small}
use Rattle.model.proofs.Writing.{Writing, joined, begin, fits, next, ends}
use Rattle.literals.specs.Name.{line_of}
use Rattle.rendering.specs.Lines.{place_lines}
use Rattle.rendering.specs.Codes.{pair_lines}
use Rattle.rendering.proofs.Whole.{place-lines}
use Rattle.rendering.proofs.put_place.Goals as goal
use Rattle.rendering.proofs.put_place.Lts as lts
use Rattle.rendering.proofs.put_place.Reads as reads
use Rattle.rendering.proofs.put_place.Tie as tie

-- the pieces, and what is still to be written of them
module _ (c : lts.After-place_number tie.the-claims reads.Pre reads.Post) where
  abbrev start_of : lts.Start tie.the-claims reads.Pre reads.Post
  start_of = c.before.before.before.before

  abbrev s : Sheet
  s = sheet_of start_of.args.sheet.now

  abbrev letters : ℕ
  letters = c.letters-letters.result

  abbrev some : List ℕ
  some = line_of s (SomeValue start_of.args.f start_of.args.c)

  abbrev pairs : List ℕ
  pairs = each (up_to (suc letters)) (pair_lines (2 * c.place_number-first.result) letters)

  abbrev tail : List ℕ
  tail = line_of s (BlankTail start_of.args.f start_of.args.c)

  abbrev some-tail : List ℕ
  some-tail = when (ltb (suc start_of.args.c) (limit s start_of.args.f)) tail

  abbrev Still : List ℕ → List (List ℕ) → List ℕ → ℕ → Type 0
  Still = Writing start_of.args.buf.now start_of.args.at (place_lines s start_of.args.f start_of.args.c)

  begun : Still some (pairs ∷ some-tail ∷ []) start_of.args.buf.now start_of.args.at
  unfolding joined
  begun = begin _ _ _ _ _ (place-lines s start_of.args.f start_of.args.c (2 * c.place_number-first.result) letters (ap (λ n. 2 * n) c.place_number-first.ensures.0) c.letters-letters.ensures) start_of.requires.2

pub put_clause-some-requires : goal.put_clause-some-requires
put_clause-some-requires c =
    let start = start_of c.before.before in
    (start.requires.0, start.requires.1, fits (begun c.before.before))

abbrev known : lts.After-put_clause tie.the-claims reads.Pre reads.Post → lts.After-place_number tie.the-claims reads.Pre reads.Post
known c = c.before.before

before-pairs : (c : lts.After-put_clause tie.the-claims reads.Pre reads.Post) → Still (known c) (pairs (known c)) (some-tail (known c) ∷ []) c.put_clause-some.new.buf c.put_clause-some.result
before-pairs c = next (begun (known c)) c.put_clause-some.ensures c.put_clause-some.auto.buf

pub put_all_pairs-past-requires : goal.put_all_pairs-past-requires
put_all_pairs-past-requires c =
    let facts = known c.before.before.before.before in
    (omega (arith, facts.place_number-first.ensures.1), omega (arith, facts.letters-letters.ensures, letters-few (s facts) (start_of facts).requires.0.1), fits (before-pairs c.before.before.before.before))

abbrev clause-of : lts.After-put_all_pairs tie.the-claims reads.Pre reads.Post → lts.After-put_clause tie.the-claims reads.Pre reads.Post
clause-of c = c.before.before.before.before

before-tail : (c : lts.After-put_all_pairs tie.the-claims reads.Pre reads.Post) → Still (known (clause-of c)) (some-tail (known (clause-of c))) [] c.put_all_pairs-past.new.buf c.put_all_pairs-past.result
before-tail c = next (before-pairs (clause-of c)) c.put_all_pairs-past.ensures c.put_all_pairs-past.auto.buf

pub overflow_add-c : goal.overflow_add-c
overflow_add-c c =
    let facts = known (clause-of c.before.before.before) in
    let start = start_of facts in
    omega (arith, start.requires.1.1, limit-small (s facts) start.requires.0.1 start.args.f)

-- a blank tail where the place is not the last, and none at the last
abbrev pairs_of : lts.After-limit tie.the-claims reads.Pre reads.Post → lts.After-put_all_pairs tie.the-claims reads.Pre reads.Post
pairs_of c = c.before.before.before

abbrev facts-of : lts.After-limit tie.the-claims reads.Pre reads.Post → lts.After-place_number tie.the-claims reads.Pre reads.Post
facts-of c = known (clause-of (pairs_of c))

inside : (c : lts.Then1 tie.the-claims reads.Pre reads.Post) → suc (start_of (facts-of c.before)).args.c < limit (s (facts-of c.before)) (start_of (facts-of c.before)).args.f
inside c = omega (arith, c.if-c-limit.true, c.limit.ensures.0)

not_last : (c : lts.Then1 tie.the-claims reads.Pre reads.Post) → Still (facts-of c.before) (tail (facts-of c.before)) [] (pairs_of c.before).put_all_pairs-past.new.buf (pairs_of c.before).put_all_pairs-past.result
not_last c = rw (lt-ltb _ _ (inside c)) at (before-tail (pairs_of c.before))

at_last : (c : lts.Else1 tie.the-claims reads.Pre reads.Post) → Still (facts-of c.before) [] [] (pairs_of c.before).put_all_pairs-past.new.buf (pairs_of c.before).put_all_pairs-past.result
at_last c =
    let facts = facts-of c.before in
    let outside : limit (s facts) (start_of facts).args.f ≤ suc (start_of facts).args.c = omega (arith, c.if-c-limit.false, c.limit.ensures.0) in
    rw (le-ltb _ _ outside) at (before-tail (pairs_of c.before))

pub put_clause-requires : goal.put_clause-requires
put_clause-requires c =
    let start = start_of (facts-of c.before.before.before) in
    (start.requires.0, (start.requires.1, inside c.before.before), fits (not_last c.before.before))

pub returns-then-c-limit : goal.returns-then-c-limit
returns-then-c-limit c =
    ends _ _ (not_last c.before.before.before.before.before) c.put_clause.ensures c.put_clause.auto.buf

pub returns : goal.returns
returns c =
    let at-pairs = (pairs_of c.before.before).put_all_pairs-past in
    let none = nothing at-pairs.new.buf at-pairs.result in
    ends _ _ (at_last c.before) (none.past, none.holds) refl
