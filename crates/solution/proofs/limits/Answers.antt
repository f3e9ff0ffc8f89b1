-- `solution::limits` meets its contract: after f turns the first f limits are there, and 0 from there on. Assumes nothing.
use mathlib.Core.Path.{◌≡◌, refl, sym, ◌∙◌}
use mathlib.Core.List.{List}
use Prim.Native.Nat.{ℕ, ◌+◌, ◌<◌}
use native.Mathlib.Omega.{arith}
use native.Mathlib.Decide.{ℕ_discrete}
use lib.ListN.{length, get_or, set, replicate, length-set, get_or-eq_default}
use lib.Seq.{get_or-set_same, get_or-set_other}
use lib.Dec.{ltb}
use borrow.Author.Tests.{ltb-true, ltb-false}
use Rattle.model.specs.Sheet.{sheet_of}
use Rattle.model.proofs.Lists.{by_test}
use Rattle.formula.proofs.Small.{fields-few}
use Rattle.solution.proofs.Asked.{zeros}
use Rattle.solution.proofs.limits.Goals as goal
use Rattle.solution.proofs.limits.Invariants.{Copied}

none_first : (h : ℕ → ℕ) → Copied h (replicate 6 0) 0
none_first h = record { six = refl; there = λ k l. absurd (omega arith); none = λ k l. zeros 6 k }

one_more : (h : ℕ → ℕ) (n : List ℕ) (f x : ℕ) → f < 6 → Copied h n f → x ≡ h f → Copied h (set n f x) (f + 1)
one_more h n f x less i e = record {
  six = length-set n f x ∙ i.six;
  there = λ k l. by k l (ℕ_discrete k f);
  none = λ k l. get_or-set_other n f k x 0 (λ q. omega arith) ∙ i.none k (omega arith);
}
  where
    by : (k : ℕ) → k < f + 1 → Dec (k ≡ f) → get_or (set n f x) k 0 ≡ h k
    by k l (yes q) = rw q (get_or-set_same n f x 0 (omega (arith, i.six)) ∙ e)
    by k l (no q) = get_or-set_other n f k x 0 q ∙ i.there k (omega arith)

pub loop-f-init : goal.loop-f-init
loop-f-init c = none_first _

pub bounds-n-f : goal.bounds-n-f
bounds-n-f c =
    let few = fields-few (sheet_of c.args.sheet.now) c.requires.1 in
    omega (arith, c.fields-f-end.ensures)

pub loop-f-preserved : goal.loop-f-preserved
loop-f-preserved c =
    let s = sheet_of c.args.sheet.now in
    let few = fields-few s c.requires.1 in
    one_more _ c.loop-f.n c.loop-f.f c.limit.result (omega (arith, c.fields-f-end.ensures)) c.loop-f.invariant c.limit.ensures

pub returns : goal.returns
returns c f h =
    let s = sheet_of c.args.sheet.now in
    let all : c.loop-f.f ≡ length s.limits = omega (arith, c.fields-f-end.ensures) in
    by_test (ltb f (length s.limits))
    (λ e. c.loop-f.invariant.there f (let l = ltb-true f (length s.limits) e in omega arith))
    (λ e. let l = ltb-false f (length s.limits) e in c.loop-f.invariant.none f (omega arith) ∙ sym (get_or-eq_default s.limits 0 l))
