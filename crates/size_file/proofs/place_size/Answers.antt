-- `size_file::place_size` meets its contract: three pieces, the last one only before a field's last place. Assumes nothing.
use mathlib.Core.Path.{◌≡◌, ap, ap₂, ◌∙◌}
use Prim.Native.Nat.{ℕ, suc, ◌+◌, ◌*◌, ◌<◌, ◌≤◌}
use native.Mathlib.Omega.{arith}
use Rattle.model.specs.Sheet.{Sheet, sheet_of, limit}
use Rattle.formula.specs.Clause.{K, blank}
use Rattle.formula.specs.Numbering.{number}
use Rattle.formula.proofs.Numbering.{positive, number_small}
use Rattle.formula.proofs.Small.{letters-few, limit-small, variables-small}
use Rattle.dimacs.specs.Codes.{code_size}
use Rattle.size_file.proofs.Laws.{not_last_size, last_size}
use Rattle.size_file.proofs.place_size.Goals as goal
use Rattle.size_file.proofs.place_size.Lts as lts
use Rattle.size_file.proofs.place_size.Reads as reads
use Rattle.size_file.proofs.place_size.Tie as tie

abbrev s : lts.Start tie.the-claims reads.Pre reads.Post → Sheet
s start = sheet_of start.args.sheet.now

-- the letters, and the code of value 0
module _ (c : lts.After-place_number tie.the-claims reads.Pre reads.Post) where
  abbrev start_of : lts.Start tie.the-claims reads.Pre reads.Post
  start_of = c.before.before.before

  abbrev letters : ℕ
  letters = c.letters-letters.result

  few : letters ≤ 8
  few = omega (arith, c.letters-letters.ensures, letters-few (s start_of) start_of.requires.0.1)

  first_is : 2 * c.place_number-first.result ≡ 2 * number (s start_of) (K start_of.args.f start_of.args.c 0)
  first_is = ap (λ n. 2 * n) c.place_number-first.ensures.0

  some : 0 < 2 * c.place_number-first.result
  some = omega (arith, first_is, positive (s start_of) (K start_of.args.f start_of.args.c 0))

pub literals_size-requires : goal.literals_size-requires
literals_size-requires c = (some c.before, omega (arith, few c.before, c.place_number-first.ensures.1))

pub overflow_add-c : goal.overflow_add-c
overflow_add-c c =
    let start = start_of c.before.before.before in
    omega (arith, start.requires.1.1, limit-small (s start) start.requires.0.1 start.args.f)

abbrev facts-of : lts.After-limit tie.the-claims reads.Pre reads.Post → lts.After-place_number tie.the-claims reads.Pre reads.Post
facts-of c = c.before.before.before

-- another place follows
inside : (c : lts.Then1 tie.the-claims reads.Pre reads.Post) → suc (start_of (facts-of c.before)).args.c < limit (s (start_of (facts-of c.before))) (start_of (facts-of c.before)).args.f
inside c = omega (arith, c.if-c-limit.true, c.limit.ensures.0)

pub literal_size-here-requires : goal.literal_size-here-requires
literal_size-here-requires c =
    let facts = facts-of c.before.before.before in
    let start = start_of facts in
    omega (arith, c.place_code.ensures, number_small (s start) (K start.args.f start.args.c (letters facts)) (start.requires.1, omega (arith, facts.before.letters-letters.ensures)), variables-small (s start) start.requires.0.1)

pub literal_size-next-requires : goal.literal_size-next-requires
literal_size-next-requires c =
    let facts = facts-of c.before.before.before.before.before in
    let start = start_of facts in
    omega (arith, c.place_code-then-c-limit.ensures, number_small (s start) (K start.args.f (start.args.c + 1) (letters facts)) ((start.requires.1.0, omega (arith, inside c.before.before.before.before)), omega (arith, facts.before.letters-letters.ensures)), variables-small (s start) start.requires.0.1)

-- what the pieces have at most
sizes : (c : lts.After-literal_size2 tie.the-claims reads.Pre reads.Post)
    → (c.literals_size.result ≤ 63) × (c.pairs_size.result ≤ 1200) × (c.literal_size-here.result ≤ 7) × (c.literal_size-next.result ≤ 7)
sizes c =
    (omega (arith, few c.before.before.before.before.before.before.before.before, c.literals_size.ensures.1), c.pairs_size.ensures.1, c.literal_size-here.ensures.1, c.literal_size-next.ensures.1)

pub returns-then-c-limit : goal.returns-then-c-limit
returns-then-c-limit c =
    let first = c.before.before.before in
    let taken = first.before.before in
    let pairs = taken.before.before in
    let start = start_of pairs.before.before in
    let a = start.args in
    let l = pairs.letters-letters.ensures in
    let next : a.c + 1 ≡ suc a.c = omega arith in
    let here : first.place_code.result ≡ 2 * number (s start) (K a.f a.c (blank (s start))) + 1 = first.place_code.ensures ∙ ap (λ n. 2 * number (s start) (K a.f a.c n) + 1) l in
    let follows : c.place_code-then-c-limit.result ≡ 2 * number (s start) (K a.f (suc a.c) (blank (s start))) + 0 = c.place_code-then-c-limit.ensures ∙ ap₂ (λ m n. 2 * number (s start) (K a.f m n) + 0) next l in
    let plain : c.place_code-then-c-limit.result ≡ 2 * number (s start) (K a.f (suc a.c) (blank (s start))) = omega arith in
    let one = ap code_size here in
    let other = ap code_size plain in
    let all = not_last_size (s start) a.f a.c (2 * pairs.place_number-first.result) (letters pairs.before.before) (first_is pairs.before.before) l (inside taken) in
    (omega (arith, pairs.literals_size.ensures.0, pairs.pairs_size.ensures.0, first.literal_size-here.ensures.0, c.literal_size-next.ensures.0), omega (arith, sizes c.before))

pub returns : goal.returns
returns c =
    let pairs = c.before.before.before in
    let start = start_of pairs.before.before in
    let outside : limit (s start) start.args.f ≤ suc start.args.c = omega (arith, c.if-c-limit.false, c.limit.ensures.0) in
    let all = last_size (s start) start.args.f start.args.c (2 * pairs.place_number-first.result) (letters pairs.before.before) (first_is pairs.before.before) pairs.letters-letters.ensures outside in
    (omega (arith, pairs.literals_size.ensures.0, pairs.pairs_size.ensures.0), omega (arith, few pairs.before.before, pairs.literals_size.ensures.1, pairs.pairs_size.ensures.1))
