-- `book_question::put_head` meets its contract: five pieces, one after another. Assumes nothing.
use mathlib.Core.Path.{refl}
use mathlib.Core.List.{List, [], ◌∷◌, ◌++◌}
use Prim.Native.Nat.{ℕ, ◌+◌}
use native.Mathlib.Omega.{arith}
use lib.ListN.{length}
use Rattle.model.specs.Sheet.{mark, bytes_of}
use Rattle.model.proofs.Writing.{Writing, joined, begin, fits, next, ends}
use Rattle.book_question.specs.Bytes.{head_bytes}
use Rattle.book_question.proofs.put_head.Goals as goal
use Rattle.book_question.proofs.put_head.Lts as lts
use Rattle.book_question.proofs.put_head.Reads as reads
use Rattle.book_question.proofs.put_head.Tie as tie

-- what is still to be written: all five pieces, four, three, two, one
module _ (c : lts.Start tie.the-claims reads.Pre reads.Post) where
  abbrev letters : List ℕ
  letters = c.args.letters.now

  abbrev left : List ℕ
  left = c.args.left.now

  abbrev right : List ℕ
  right = c.args.right.now

  abbrev Still : List ℕ → List (List ℕ) → List ℕ → ℕ → Type 0
  Still = Writing c.args.buf.now 0 (head_bytes letters left right)

  abbrev counts : List ℕ
  counts = length letters ∷ (length left + length right) ∷ 1 ∷ 0 ∷ []

  five : Still (mark ++ bytes_of 1) (counts ∷ letters ∷ left ∷ right ∷ []) c.args.buf.now 0
  unfolding head_bytes joined
  five = begin c.args.buf.now 0 _ _ _ refl (omega (arith, c.requires.3))

abbrev start : lts.After-put tie.the-claims reads.Pre reads.Post → lts.Start tie.the-claims reads.Pre reads.Post
start c = c.before.before.before.before.before.before.before.before

abbrev marked : lts.After-put2 tie.the-claims reads.Pre reads.Post → lts.After-put tie.the-claims reads.Pre reads.Post
marked c = c.before.before.before.before.before

abbrev counted : lts.After-put3 tie.the-claims reads.Pre reads.Post → lts.After-put2 tie.the-claims reads.Pre reads.Post
counted c = c.before.before.before.before

four : (c : lts.After-put tie.the-claims reads.Pre reads.Post) → let s = start c in Still s (counts s) (letters s ∷ left s ∷ right s ∷ []) c.put-a.new.buf c.put-a.result
four c = next (five (start c)) c.put-a.ensures c.put-a.auto.buf

three : (c : lts.After-put2 tie.the-claims reads.Pre reads.Post) → let s = start c.before.before.before.before.before in Still s (letters s) (left s ∷ right s ∷ []) c.put-b.new.buf c.put-b.result
three c = next (four c.before.before.before.before.before) c.put-b.ensures c.put-b.auto.buf

two : (c : lts.After-put3 tie.the-claims reads.Pre reads.Post) → let s = start (marked c.before.before.before.before) in Still s (left s) (right s ∷ []) c.put-c.new.buf c.put-c.result
two c = next (three c.before.before.before.before) c.put-c.ensures c.put-c.auto.buf

one : (c : lts.After-put4 tie.the-claims reads.Pre reads.Post) → let s = start (marked (counted c.before.before.before.before)) in Still s (right s) [] c.put-d.new.buf c.put-d.result
one c = next (two c.before.before.before.before) c.put-d.ensures c.put-d.auto.buf

pub put-a-requires : goal.put-a-requires
put-a-requires c = fits (five c.before.before.before.before.before.before.before.before)

pub put-b-requires : goal.put-b-requires
put-b-requires c = fits (four c.before.before.before.before.before)

pub put-c-requires : goal.put-c-requires
put-c-requires c = fits (three c.before.before.before.before)

pub put-d-requires : goal.put-d-requires
put-d-requires c = fits (two c.before.before.before.before)

pub put-requires : goal.put-requires
put-requires c = fits (one c.before.before.before.before)

pub returns : goal.returns
returns c =
    ends _ _ (one c.before.before.before.before.before.before.before) c.put.ensures c.put.auto.buf
