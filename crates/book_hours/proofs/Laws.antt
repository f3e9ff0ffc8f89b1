-- A table of the pairs that share a minute wants just those. Assumes nothing.
use mathlib.Core.Path.{◌≡◌, refl, sym, ap, ◌∙◌}
use mathlib.Core.Bool.{Bool, true, false, not, ◌&&◌}
use mathlib.Core.List.{List}
use Prim.Native.Nat.{ℕ}
use lib.Dec.{eqb}
use lib.ListN.{length}
use Rattle.model.specs.Lists.{pick}
use Rattle.book.specs.Book.{Book}
use Rattle.book.specs.Pairs.{kept, clash}
use Rattle.book.proofs.Listed.{kept-agree}
use Rattle.schedule.specs.Schedule.{Schedule}
use Rattle.schedule.specs.Shared.{share, sharing}
use Rattle.calls.proofs.Comparing.{sharing-kept}
use Rattle.book_list.specs.Wanted.{wants, listed}
use Rattle.schedule_table.specs.Table.{Shows}

wanted_shown : (t : Bool) → not (eqb (pick t 1 0) 0) ≡ t
wanted_shown true = refl
wanted_shown false = refl

pub shown_sharing : (k : Book) (s : Schedule) (table : List ℕ) → Shows (length k.templates) s table → kept (listed table k) (length k.templates) ≡ sharing k s
unfolding listed wants
shown_sharing k s table h =
    kept-agree (λ i j. clash k i j && wants table i j) (λ i j. clash k i j && share s i j) (length k.templates)
    (λ i j l m. ap (λ t. clash k i j && t) (ap (λ v. not (eqb v 0)) (h i j l m) ∙ wanted_shown (share s i j)))
    ∙ sym (sharing-kept k s)
