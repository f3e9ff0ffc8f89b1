-- An interval, by the first test that fails; and the answer, by what all tests come to. Assumes nothing.
use mathlib.Core.Path.{◌≡◌, ap, ◌∙◌}
use mathlib.Core.Bool.{true, false}
use mathlib.Core.List.{List}
use Prim.Native.Nat.{ℕ, ◌<◌, ◌≤◌}
use lib.Dec.{leb}
use borrow.Author.Tests.{le-leb, lt-leb}
use Rattle.std.specs.Prelude.{⊤, Result, Ok, Err}
use Rattle.model.specs.Lists.{pick, Bytes}
use Rattle.schedule.specs.Schedule.{Interval, Reading, accepted, refused, in_week, all_tested, read_hours}
use Rattle.schedule.specs.Offsets.{laid}
use Rattle.schedule.proofs.Reading.{accepted-admitted}
use Rattle.schedule_read.specs.Answer.{TestsAll, Reads}
use Rattle.schedule_read.specs.declared.Refusal.{Refusal}

module _ (w : Interval) (least : ℕ) (go : Reading) where
  abbrev answer : Reading
  answer = pick (in_week w) (pick (leb least w.start) go (refused 45)) (refused 44)

  pub out_of_bounds : in_week w ≡ false → answer ≡ refused 44
  out_of_bounds e = ap (λ t. pick t (pick (leb least w.start) go (refused 45)) (refused 44)) e

  module _ (inside : in_week w ≡ true) where
    within : answer ≡ pick (leb least w.start) go (refused 45)
    within = ap (λ t. pick t (pick (leb least w.start) go (refused 45)) (refused 44)) inside

    pub too_early : w.start < least → answer ≡ refused 45
    too_early h = within ∙ rw (lt-leb least w.start h)

    pub in_order : least ≤ w.start → answer ≡ go
    in_order h = within ∙ rw (le-leb least w.start h)

-- what all tests come to is the answer of reading
pub told_reads : (n : ℕ) (b : List ℕ) (r : Result ⊤ Refusal) → Bytes b → read_hours n b ≡ all_tested (laid b 5 n) (accepted (laid b 5 n)) → TestsAll (laid b 5 n) r → Reads n b r
told_reads n b (Ok x) y e h = accepted-admitted n b y (e ∙ h (accepted (laid b 5 n)))
told_reads n b (Err f) y e h = e ∙ h (accepted (laid b 5 n))
