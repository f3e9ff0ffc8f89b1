-- `size_sum::length_size` meets its contract. Assumes nothing.
use mathlib.Core.Path.{◌≡◌, ap, ap₂, ◌∙◌}
use Prim.Native.Nat.{suc, ◌+◌, ◌*◌, ◌<◌, ◌≤◌}
use native.Mathlib.Omega.{arith}
use mir.Syntax.{w8}
use mir.Val.{to_z, of_z}
use Rattle.model.specs.Lists.{total}
use Rattle.model.specs.Sheet.{Sheet, sheet_of, constraint, coefficient}
use Rattle.model.specs.Sheet as model
use Rattle.formula.specs.Clause.{T, least}
use Rattle.formula.specs.Count.{rise}
use Rattle.formula.proofs.Small.{fields-few, coefficient_few, spread-small}
use Rattle.formula.proofs.Numbering.{positive}
use Rattle.dimacs.specs.Codes.{code_size, most_code}
use Rattle.sums.proofs.Summed.{coefficient_back}
use Rattle.size_line.proofs.Laws.{most}
use Rattle.size_sum.proofs.Laws.{least-few, length-lines, short-few, long-few}
use Rattle.size_sum.proofs.length_size.Goals as goal
use Rattle.size_sum.proofs.length_size.Lts as lts
use Rattle.size_sum.proofs.length_size.Reads as reads
use Rattle.size_sum.proofs.length_size.Tie as tie

abbrev s : lts.Start tie.the-claims reads.Pre reads.Post → Sheet
s start = sheet_of start.args.sheet.now

-- the sums are few, and their codes small
few : (start : lts.Start tie.the-claims reads.Pre reads.Post) → (start.args.n ≤ 193) × (start.args.here ≤ most_code) × (start.args.next ≤ most_code) × (0 < start.args.next)
few start =
    let ok = start.requires.0.1 in
    let r = start.args.r in
    let k = start.args.k in
    let hr = start.requires.1 in (
      omega (arith, start.requires.6, start.requires.2, spread-small (s start) ok r hr k, fields-few (s start) ok),
      omega (arith, start.requires.4, least-few (s start) ok r hr k (omega (arith, start.requires.2))),
      omega (arith, start.requires.5, least-few (s start) ok r hr (suc k) (omega (arith, start.requires.2))),
      omega (arith, positive (s start) (T r (suc k) (least (s start) (constraint (s start) r) (suc k)))),
    )

factor-back : (c : lts.After-coefficient tie.the-claims reads.Pre reads.Post) → to_z w8 (of_z w8 c.coefficient.result) ≡ coefficient (constraint (s c.before.before.before) c.args.r) c.args.k
factor-back c =
    coefficient_back (s c.before.before.before) c.requires.0.1 c.args.r c.requires.1 c.args.k c.coefficient.result c.coefficient.ensures

-- what each line has beside its sums, at most
abbrev start_of : lts.After-literal_size2 tie.the-claims reads.Pre reads.Post → lts.Start tie.the-claims reads.Pre reads.Post
start_of c = c.before.before.before.before.before.before.before.before

common : (c : lts.After-literal_size2 tie.the-claims reads.Pre reads.Post) → (start_of c).args.n * (c.literal_size-short.result + c.literal_size-long.result + 2) ≤ (start_of c).args.n * 16
common c = most (start_of c).args.n (c.literal_size-short.result + c.literal_size-long.result + 2) 16 (omega (arith, c.literal_size-short.ensures.1, c.literal_size-long.ensures.1))

pub rise-above-requires : goal.rise-above-requires
rise-above-requires c =
    (rw (factor-back c.before) (coefficient_few (s c.before.before.before.before) c.requires.0.1 c.args.r c.requires.1 c.args.k), c.limit-limit.ensures.1, omega (arith, c.requires.3, c.limit-limit.ensures.0))

pub literal_size-short-requires : goal.literal_size-short-requires
literal_size-short-requires c =
    omega (arith, c.shorter.ensures, short-few (s c.before.before.before.before.before.before) c.args.r c.args.k c.requires.0.1 c.requires.2 c.args.d c.requires.3)

pub literal_size-long-requires : goal.literal_size-long-requires
literal_size-long-requires c =
    omega (arith, c.longer.ensures, long-few (s c.before.before.before.before.before.before.before.before) c.args.r c.args.k c.requires.0.1 c.requires.2 c.args.d)

pub literals_size-requires : goal.literals_size-requires
literals_size-requires c =
    let known = few c.before.before.before.before.before.before.before.before.before in
    (omega arith, omega (arith, known))

pub overflow_mul-result : goal.overflow_mul-result
overflow_mul-result c = omega (arith, common c.before.before, few (start_of c.before.before))

pub overflow_add-result-3 : goal.overflow_add-result-3
overflow_add-result-3 c = omega (arith, common c.before.before, few (start_of c.before.before), c.literals_size.ensures.1)

pub overflow_add-next : goal.overflow_add-next
overflow_add-next c = omega (arith, few (start_of c.before.before), c.rise-above.ensures.1)

pub literals_size-requires-2 : goal.literals_size-requires-2
literals_size-requires-2 c =
    let known = few (start_of c.before.before) in
    let up = c.rise-above.ensures.1 in
    (omega (arith, known), omega (arith, known, up))

pub overflow_add-result-4 : goal.overflow_add-result-4
overflow_add-result-4 c = omega (arith, common c.before.before.before, few (start_of c.before.before.before), c.literals_size.ensures.1, c.literals_size-2.ensures.1)

pub returns : goal.returns
returns c =
    let at_long = c.before.before.before in
    let start = start_of at_long in
    let a = start.args in
    let up : at_long.rise-above.result ≡ rise (coefficient (constraint (s start) a.r) a.k) (model.limit (s start) a.k) a.d = at_long.rise-above.ensures.0 ∙ ap₂ (λ z n. rise z n a.d) (factor-back at_long.before.before.before.before.before) at_long.limit-limit.ensures.0 in
    let own = c.literals_size.ensures.0 ∙ ap (λ z. total a.n (λ m. code_size (z + 1 + 2 * m))) start.requires.4 in
    let next = c.literals_size-2.ensures.0 ∙ ap₂ (λ z w. total a.n (λ m. code_size (z + 2 * w + 2 * m))) start.requires.5 up in
    let shorter = at_long.literal_size-short.ensures.0 ∙ ap code_size at_long.shorter.ensures in
    let longer = at_long.literal_size-long.ensures.0 ∙ ap code_size at_long.longer.ensures in
    let fixed = ap₂ (λ x y. a.n * (x + y + 2)) shorter longer in
    let all = length-lines (s start) a.r a.k a.n a.d start.requires.3 in
    (omega arith, omega (arith, common at_long, few start, c.literals_size.ensures.1, c.literals_size-2.ensures.1))
