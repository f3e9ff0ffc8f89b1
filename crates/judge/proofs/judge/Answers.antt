-- `judge::judge` meets its contract: the first equation whose words differ, else the first constraint that does not hold, else a solution. Assumes nothing.
use mathlib.Core.Path.{◌≡◌, sym, ap, ◌∙◌}
use mathlib.Core.Bool.{true, false}
use mathlib.Core.List.{[]}
use Prim.Native.Nat.{ℕ, ◌<◌, ◌≤◌}
use native.Mathlib.Omega.{arith}
use lib.IntN.{pos}
use lib.ListN.{length}
use Rattle.std.proofs.Common.{rules}
use Rattle.model.specs.Sheet.{Sheet, Counts, sheet_of, equation, constraint}
use Rattle.model.specs.Word.{Substitution, equation_holds, constraint_holds}
use Rattle.model.specs.Mismatch.{first_pair, first_rule}
use Rattle.model.proofs.Judged.{judged-differs, judged-breaks, judged-solution}
use Rattle.fields.specs.Memory.{meaning}
use Rattle.judge.proofs.Asks.{leading_is}
use Rattle.judge.proofs.judge.Goals as goal

-- as many equations hold before the first that does not, and as many constraints
module _ (s : Sheet) (g : Substitution) (n k : ℕ) (within : k ≤ n) where
  pairs : n ≡ length s.equations → ((i : ℕ) → i < k → equation_holds s g (equation s i) ≡ true) → (k < n → equation_holds s g (equation s k) ≡ false) → first_pair s g ≡ k
  pairs e before first = leading_is (equation_holds s g) s.equations (record { left = []; right = [] }) k (omega arith) before (λ l. first (omega arith))

  rules_hold : n ≡ length s.constraints → ((i : ℕ) → i < k → constraint_holds s g (constraint s i) ≡ true) → (k < n → constraint_holds s g (constraint s k) ≡ false) → first_rule s g ≡ k
  rules_hold e before first = leading_is (constraint_holds s g) s.constraints (record { coefficients = []; most = pos 0 }) k (omega arith) before (λ l. first (omega arith))

pub returns-then-p-equations : goal.returns-then-p-equations
returns-then-p-equations c =
    let s = sheet_of c.args.sheet.now in
    let g = meaning c.args.sheet.now c.args.g in
    let n = c.from-equations.ensures ∙ ap (λ (n : Counts). n.equation_count) c.four_counts-counts.ensures in
    let p = pairs s g _ c.hold-p.result c.hold-p.ensures.within n (λ i l. let h = c.hold-p.ensures.before i l in search rules) (λ l. let h = c.hold-p.ensures.first l in search rules) in
    let m = c.compare_sides.ensures in
    rw (m.agree, m.on_side, m.left_over, ← p) (sym (judged-differs s g (omega arith)))

pub returns-then-r-constraints : goal.returns-then-r-constraints
returns-then-r-constraints c =
    let s = sheet_of c.args.sheet.now in
    let g = meaning c.args.sheet.now c.args.g in
    let n = c.from-equations.ensures ∙ ap (λ (n : Counts). n.equation_count) c.four_counts-counts.ensures in
    let p = pairs s g _ c.hold-p.result c.hold-p.ensures.within n (λ i l. let h = c.hold-p.ensures.before i l in search rules) (λ l. let h = c.hold-p.ensures.first l in search rules) in
    let k = c.from-constraints.ensures ∙ ap (λ (n : Counts). n.constraint_count) c.four_counts-counts.ensures in
    let r = rules_hold s g _ c.hold-r.result c.hold-r.ensures.within k (λ i l. let h = c.hold-r.ensures.before i l in search rules) (λ l. let h = c.hold-r.ensures.first l in search rules) in
    rw (← r) (sym (judged-breaks s g (omega arith) (omega arith)))

pub returns : goal.returns
returns c =
    let s = sheet_of c.args.sheet.now in
    let g = meaning c.args.sheet.now c.args.g in
    let n = c.from-equations.ensures ∙ ap (λ (n : Counts). n.equation_count) c.four_counts-counts.ensures in
    let p = pairs s g _ c.hold-p.result c.hold-p.ensures.within n (λ i l. let h = c.hold-p.ensures.before i l in search rules) (λ l. let h = c.hold-p.ensures.first l in search rules) in
    let k = c.from-constraints.ensures ∙ ap (λ (n : Counts). n.constraint_count) c.four_counts-counts.ensures in
    let r = rules_hold s g _ c.hold-r.result c.hold-r.ensures.within k (λ i l. let h = c.hold-r.ensures.before i l in search rules) (λ l. let h = c.hold-r.ensures.first l in search rules) in
    sym (judged-solution s g (omega arith) (omega arith))
