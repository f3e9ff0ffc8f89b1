-- `book_question::put_sides` meets its contract: three pieces, one after another. Assumes nothing.
use mathlib.Core.Path.{refl}
use mathlib.Core.List.{List, [], ◌∷◌, map}
use Prim.Native.Nat.{ℕ}
use native.Mathlib.Omega.{arith}
use lib.ListN.{length, length-map}
use Rattle.model.proofs.Writing.{Writing, joined, begin, fits, next, ends}
use Rattle.book_question.specs.Bytes.{numbered, sides_bytes}
use Rattle.book_question.proofs.put_sides.Goals as goal
use Rattle.book_question.proofs.put_sides.Lts as lts
use Rattle.book_question.proofs.put_sides.Reads as reads
use Rattle.book_question.proofs.put_sides.Tie as tie

-- what is still to be written: all three pieces, two, one
module _ (c : lts.Start tie.the-claims reads.Pre reads.Post) where
  abbrev shifted : List ℕ
  shifted = map (numbered c.args.n) c.args.right.now

  abbrev Still : List ℕ → List (List ℕ) → List ℕ → ℕ → Type 0
  Still = Writing c.args.buf.now c.args.at (sides_bytes c.args.n c.args.left.now c.args.right.now)

  abbrev counts : List ℕ
  counts = length c.args.left.now ∷ length c.args.right.now ∷ []

  three : Still counts (c.args.left.now ∷ shifted ∷ []) c.args.buf.now c.args.at
  unfolding sides_bytes joined
  three = begin c.args.buf.now c.args.at _ _ _ refl c.requires.4

abbrev start : lts.After-put tie.the-claims reads.Pre reads.Post → lts.Start tie.the-claims reads.Pre reads.Post
start c = c.before.before.before.before.before.before

two : (c : lts.After-put tie.the-claims reads.Pre reads.Post) → Still c.before.before.before.before.before.before c.args.left.now (shifted c.before.before.before.before.before.before ∷ []) c.put-a.new.buf c.put-a.result
two c = next (three c.before.before.before.before.before.before) c.put-a.ensures c.put-a.auto.buf

one : (c : lts.After-put2 tie.the-claims reads.Pre reads.Post) → Still (start c.before.before.before.before) (shifted (start c.before.before.before.before)) [] c.put-b.new.buf c.put-b.result
one c = next (two c.before.before.before.before) c.put-b.ensures c.put-b.auto.buf

pub put-a-requires : goal.put-a-requires
put-a-requires c = fits (three c.before.before.before.before.before.before)

pub put-b-requires : goal.put-b-requires
put-b-requires c = fits (two c.before.before.before.before)

pub put_numbered-requires : goal.put_numbered-requires
put_numbered-requires c =
    let s = start c.before.before.before.before.before.before.before.before in
    let room = fits (one c.before.before.before.before) in
    let n = length-map s.args.right.now (numbered s.args.n) in
    (s.requires.0, s.requires.1, omega arith)

pub returns : goal.returns
returns c =
    ends _ _ (one c.before.before.before.before.before.before.before) c.put_numbered.ensures c.put_numbered.auto.buf
