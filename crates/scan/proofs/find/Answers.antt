-- `scan::find` meets its contract: the first x from the offset on, or the length. Assumes nothing.
use mathlib.Core.Path.{◌≡◌}
use native.Mathlib.Omega.{arith}
use lib.ListN.{length, take, drop, length-drop}
use lib.Seq.{take_all}
use mathlib.Core.List.{List}
use mathlib.Core.Path.{ap}
use Prim.Native.Nat.{ℕ, ◌+◌, ◌-◌}
use Rattle.std.proofs.Common.{rules}
use Rattle.std.specs.Option.{unwrap_or}
use Rattle.std.proofs.lemmas.Iterator.{YieldsList-from_slice, IsFirst-from_position}
use borrow.Author.Tests.{tests}
use Rattle.model.specs.Lists.{span}
use Rattle.model.proofs.Spans.{span-short}
use Rattle.scan.proofs.Words.{span-first}
use Rattle.scan.proofs.find.Goals as goal
use Rattle.scan.proofs.find.Lts as lts
use Rattle.scan.proofs.find.Reads as reads
use Rattle.scan.proofs.find.Tie as tie

module _ (c : lts.After-position tie.the-claims reads.Pre reads.Post tie.handed_clauses) where
  abbrev rest : List ℕ
  rest = take (length c.args.bytes.now - c.args.at) (drop c.args.at c.args.bytes.now)

  whole : rest ≡ drop c.args.at c.args.bytes.now
  whole = take_all (length c.args.bytes.now - c.args.at) (drop c.args.at c.args.bytes.now) (omega (arith, length-drop c.args.at c.args.bytes.now))

  first : c.args.at + span c.args.x (drop c.args.at c.args.bytes.now) ≡ c.args.at + unwrap_or c.position.result (length c.args.bytes.now - c.args.at)
  first =
      let n = span-first c.args.x rest c.position.result (IsFirst-from_position _ _ _ (λ y. y ≡ c.args.x) (λ y. y ≡ c.args.x → ⊥) c.position.ensures.ran (YieldsList-from_slice _ c.iter.ensures.rest) (λ x q k. search (rules, tests)) (λ x q k. search (rules, tests))) in
      ap (λ k. c.args.at + k) (rw (whole, length-drop) at n)

pub returns-in-Some : goal.returns-in-Some
returns-in-Some c =
    let n = rw c.in-Some.is at (first c.before.before) in
    let short = span-short c.args.x (drop c.args.at c.args.bytes.now) in
    (omega arith, omega arith, omega (arith, length-drop c.args.at c.args.bytes.now))

pub returns-in-None : goal.returns-in-None
returns-in-None c =
    let n = rw c.in-None.is at (first c.before.before) in
    (omega arith, omega arith, omega arith)
