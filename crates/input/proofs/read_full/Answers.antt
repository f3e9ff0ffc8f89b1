-- `input::read_full` meets its contract: each read puts what it gives behind what stands there. Assumes nothing.
use Rattle.std.proofs.Common.{◌≡◌, ◌≤◌, ℕ, ◌+◌, ◌-◌, List, ◌++◌, length, take, sym, ap, subst, ◌∙◌, rules, length-take-le}
use Rattle.std.proofs.Math.Seq.{take-append-add}
use Rattle.std.proofs.lemmas.List.{take-append-le}
use borrow.Rule.Slice.PartMut.{put_mid, post_of}
use Rattle.std.specs.Io.KnownBytes.{Consumes}
use Rattle.std.proofs.KnownBytes.{Consumes-trans}
use Rattle.input.proofs.read_full.Goals as goal

-- the front of a buffer with some bytes put at an index
take_filled : (xs ys : List ℕ) (i k n : ℕ) → i ≤ length xs → n ≤ length ys → take (i + n) (put_mid i k xs ys) ≡ take i xs ++ take n ys
take_filled xs ys i k n p q =
    ap (λ j. take (j + n) (put_mid i k xs ys)) (sym (length-take-le i xs p))
    ∙ take-append-add (take i xs) (ys ++ post_of i k xs) n
    ∙ ap (λ l. take i xs ++ l) (take-append-le n ys (post_of i k xs) q)

pub loop-done-preserved : goal.loop-done-preserved
loop-done-preserved g c =
    let l = c.loop-done in
    let e = take_filled l.buf c.read.new.buf l.done (length l.buf - l.done) c.in-Ok.n l.invariant.0 c.in-Ok.ensures.bound.0 in (
      search rules,
      search rules,
      subst (Consumes (g.R.Read.remaining c.args.reader.now) (g.R.Read.remaining c.read.new.self)) (sym e)
          (Consumes-trans _ _ _ _ _ l.invariant.2 c.in-Ok.ensures.bytes.0),
    )
