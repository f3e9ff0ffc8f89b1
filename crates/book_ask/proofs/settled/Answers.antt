-- `book_ask::settled` meets its contract: the first templates that are the same clash exactly when these do; and what is known, or found, of them is right. Assumes
-- nothing.
use mathlib.Core.Path.{◌≡◌, sym, subst, ◌∙◌}
use Prim.Native.Nat.{◌+◌, ◌*◌, ◌<◌}
use native.Mathlib.Omega.{arith}
use lib.ListN.{get_or}
use Rattle.book.specs.Book.{book_of}
use Rattle.book.specs.Pairs.{clash}
use Rattle.book_ask.specs.Verdicts.{Says}
use Rattle.book_ask.proofs.Verdicts.{told_says, remembered, same-clash}
use Rattle.book_ask.proofs.settled.Goals as goal
use Rattle.book_ask.proofs.settled.Lts as lts
use Rattle.book_ask.proofs.settled.Reads as reads
use Rattle.book_ask.proofs.settled.Tie as tie

pub first_alike-a-requires : goal.first_alike-a-requires
first_alike-a-requires c = (c.requires.0, omega arith, omega (arith, c.requires.1, c.requires.2))

pub overflow_add-a : goal.overflow_add-a
overflow_add-a c = omega (arith, c.first_alike-a.ensures.1, c.requires.1, c.requires.2, c.requires.0.1.of_templates)

pub first_alike-b-requires : goal.first_alike-b-requires
first_alike-b-requires c = (c.requires.0, omega (arith, c.first_alike-a.ensures.1, c.requires.1), c.requires.2)

-- the two templates that are asked: there are at most 16
abbrev start : lts.After-first_alike2 tie.the-claims reads.Pre reads.Post tie.handed_clauses → lts.Start tie.the-claims reads.Pre reads.Post tie.handed_clauses
start c = c.before.before.before.before

first_in : (c : lts.After-first_alike2 tie.the-claims reads.Pre reads.Post tie.handed_clauses) → c.first_alike-a.result < 16
first_in c = let s = start c in omega (arith, c.first_alike-a.ensures.1, s.requires.1, s.requires.2, s.requires.0.1.of_templates)

second-in : (c : lts.After-first_alike2 tie.the-claims reads.Pre reads.Post tie.handed_clauses) → c.first_alike-b.result < 16
second-in c = let s = start c in omega (arith, c.first_alike-b.ensures.1, s.requires.2, s.requires.0.1.of_templates)

-- they are the same as these
same : (c : lts.After-first_alike2 tie.the-claims reads.Pre reads.Post tie.handed_clauses) →
    let a = (start c).args in
    clash (book_of a.book.now) c.first_alike-a.result c.first_alike-b.result ≡ clash (book_of a.book.now) a.i a.j
same c =
    let a = (start c).args in
    same-clash (book_of a.book.now) a.i a.j c.first_alike-a.result c.first_alike-b.result c.first_alike-a.ensures.2 c.first_alike-b.ensures.2

-- and what is known of them is right
known : (c : lts.After-first_alike2 tie.the-claims reads.Pre reads.Post tie.handed_clauses) →
    let a = (start c).args in
    Says (get_or a.verdicts.now (c.first_alike-a.result * 16 + c.first_alike-b.result) 0) (clash (book_of a.book.now) a.i a.j)
known c =
    let a = (start c).args in
    subst (Says _) (same c) ((start c).requires.3.right c.first_alike-a.result c.first_alike-b.result (second-in c))

pub overflow_mul-at : goal.overflow_mul-at
overflow_mul-at c = omega (arith, first_in c.before)

pub overflow_add-at : goal.overflow_add-at
overflow_add-at c = omega (arith, first_in c.before, second-in c.before)

pub bounds-verdicts-at : goal.bounds-verdicts-at
bounds-verdicts-at c = omega (arith, first_in c.before.before, second-in c.before.before, (start c.before.before).requires.3.long)

pub returns-then-verdicts-at-eq-CLASH : goal.returns-then-verdicts-at-eq-CLASH
returns-then-verdicts-at-eq-CLASH c = record { value = sym ((known c.before.before.before).1 c.if-verdicts-at-eq-CLASH.true); remembers = (start c.before.before.before).requires.3 }

pub bounds-verdicts-at-2 : goal.bounds-verdicts-at-2
bounds-verdicts-at-2 c = omega (arith, first_in c.before.before.before.before, second-in c.before.before.before.before, (start c.before.before.before.before).requires.3.long)

pub returns-then-verdicts-at-eq-APART : goal.returns-then-verdicts-at-eq-APART
returns-then-verdicts-at-eq-APART c = record { value = sym ((known c.before.before.before.before.before).0 c.if-verdicts-at-eq-APART.true); remembers = (start c.before.before.before.before.before).requires.3 }

pub clash-found-requires : goal.clash-found-requires
clash-found-requires c =
    let s = start c.before.before.before.before.before in
    (s.requires.0, omega (arith, c.first_alike-a.ensures.1, s.requires.1, s.requires.2), omega (arith, c.first_alike-b.ensures.1, s.requires.2))

-- it was not known, and is found
abbrev at_both : lts.After-verdict tie.the-claims reads.Pre reads.Post tie.handed_clauses → lts.After-first_alike2 tie.the-claims reads.Pre reads.Post tie.handed_clauses
at_both c = c.before.before.before.before.before.before

pub bounds-verdicts-at-3 : goal.bounds-verdicts-at-3
bounds-verdicts-at-3 c = let t = at_both c.before in omega (arith, first_in t, second-in t, (start t).requires.3.long)

pub returns : goal.returns
returns c =
    let t = at_both c.before in
    let s = start t in
    let found = c.clash-found in record {
      value = found.ensures ∙ same t;
      remembers = remembered (book_of s.args.book.now) s.args.verdicts.now s.requires.3 c.first_alike-a.result c.first_alike-b.result c.verdict.result (first_in t) (second-in t)
          (subst (Says c.verdict.result) found.ensures (told_says found.result c.verdict.ensures));
    }
