-- `report::line` meets its contract: four pieces, one after another. Assumes nothing.
use mathlib.Core.Path.{refl}
use mathlib.Core.List.{List, [], ◌∷◌}
use Prim.Native.Nat.{ℕ, ◌+◌}
use native.Mathlib.Omega.{arith}
use lib.ListN.{length-map}
use Rattle.model.specs.Sheet.{sheet_of, letter_of}
use Rattle.model.specs.Word.{letter_bytes}
use Rattle.calls.specs.Report as model
use Rattle.model.proofs.Writing.{Writing, joined, begin, fits, next, ends}
use Rattle.report.proofs.Sizes.{line_size_lem}
use Rattle.report.proofs.line.Goals as goal
use Rattle.report.proofs.line.Lts as lts
use Rattle.report.proofs.line.Reads as reads
use Rattle.report.proofs.line.Tie as tie

-- what is still to be written: the name, the number, the word, the line end
module _ (start : lts.Start tie.the-claims reads.Pre reads.Post) where
  abbrev text : List ℕ
  text = letter_bytes (sheet_of start.args.sheet.now) start.args.word.now

  abbrev digit : List ℕ
  digit = (48 + start.args.n) ∷ 61 ∷ []

  abbrev Still : List ℕ → List (List ℕ) → List ℕ → ℕ → Type 0
  Still = Writing start.args.buf.now start.args.at (model.labelled_line start.args.name.now start.args.n text)

  begun : Still start.args.name.now (digit ∷ text ∷ (10 ∷ []) ∷ []) start.args.buf.now start.args.at
  unfolding joined
  begun = begin _ _ _ _ _ refl (omega (arith, line_size_lem (sheet_of start.args.sheet.now) start.args.name.now start.args.n start.args.word.now, start.requires.3))

abbrev start_of : lts.After-put tie.the-claims reads.Pre reads.Post → lts.Start tie.the-claims reads.Pre reads.Post
start_of c = c.before.before.before.before.before.before

named : (c : lts.After-put tie.the-claims reads.Pre reads.Post) → Still (start_of c) (digit (start_of c)) (text (start_of c) ∷ (10 ∷ []) ∷ []) c.put-a.new.buf c.put-a.result
named c = next (begun (start_of c)) c.put-a.ensures c.put-a.auto.buf

abbrev put_of : lts.After-put2 tie.the-claims reads.Pre reads.Post → lts.After-put tie.the-claims reads.Pre reads.Post
put_of c = c.before.before.before.before.before

numbered : (c : lts.After-put2 tie.the-claims reads.Pre reads.Post) → Still (start_of (put_of c)) (text (start_of (put_of c))) ((10 ∷ []) ∷ []) c.put-b.new.buf c.put-b.result
numbered c = next (named (put_of c)) c.put-b.ensures c.put-b.auto.buf

abbrev put2-of : lts.After-put_letters tie.the-claims reads.Pre reads.Post → lts.After-put2 tie.the-claims reads.Pre reads.Post
put2-of c = c.before.before.before.before

lettered : (c : lts.After-put_letters tie.the-claims reads.Pre reads.Post) → Still (start_of (put_of (put2-of c))) (10 ∷ []) [] c.put_letters-c.new.buf c.put_letters-c.result
lettered c = next (numbered (put2-of c)) c.put_letters-c.ensures c.put_letters-c.auto.buf

pub put-a-requires : goal.put-a-requires
put-a-requires c = fits (begun c.before.before.before.before.before.before)

pub put-b-requires : goal.put-b-requires
put-b-requires c = fits (named c.before.before.before.before.before)

pub put_letters-c-requires : goal.put_letters-c-requires
put_letters-c-requires c =
    let start = start_of (put_of c.before.before.before.before) in
    (start.requires.0, start.requires.1, omega (arith, fits (numbered c.before.before.before.before), length-map start.args.word.now (letter_of (sheet_of start.args.sheet.now))))

pub put-requires : goal.put-requires
put-requires c = fits (lettered c.before.before.before.before.before.before)

pub returns : goal.returns
returns c =
    ends _ _ (lettered c.before.before.before.before.before.before.before.before.before) c.put.ensures c.put.auto.buf
