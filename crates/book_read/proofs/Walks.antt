-- What a callee's answer says, once it is known. Assumes nothing.
use mathlib.Core.Path.{◌≡◌, sym, ap, subst, ◌∙◌}
use mathlib.Core.List.{List}
use Prim.Native.Nat.{ℕ, ◌+◌, ◌<◌, ◌≤◌}
use native.Mathlib.Nat.{add-zero}
use lib.ListN.{length, get_or, drop}
use lib.Seq.{get_or-drop}
use Rattle.std.specs.Prelude.{Option, Some, None, Result, Ok, Err}
use Rattle.std.specs.Result.{result_ok}
use Rattle.model.specs.Sheet.{Step, got, fault, rest, byte}
use Rattle.rows.specs.declared.Fault.{Fault}
use Rattle.rows.specs.Progress.{number_of, left, HasLanded}
use Rattle.book_read.specs.Walk.{Came, Counted}

module _ {A : Type 0} (b : List ℕ) (s : Step A) {r : Option ℕ} (h : Came b s r) where
  pub came_at : {e : ℕ} → r ≡ Some e → (rest s ≡ got tt (drop e b)) × (e ≤ length b)
  came_at t = subst (Came b s) t h

  pub came_stopped : r ≡ None → (n : ℕ) × (rest s ≡ fault n)
  came_stopped t = subst (Came b s) t h

pub counted_at : {A : Type 0} (b : List ℕ) (s : Step A) (k : ℕ) {r : Option ℕ} {n : ℕ} → Counted b s k r → r ≡ Some n → (rest s ≡ got tt (drop (k + 1) b)) × (k < length b) × (n ≡ byte b k)
counted_at b s k h t = subst (Counted b s k) t h

-- a row's answer, whatever its fault
abbrev Passed : {A : Type 0} → List ℕ → Step A → ℕ → Option ℕ → Type 0
Passed b s n (Some e) = (rest s ≡ got tt (drop e b)) × (e ≡ n) × (n ≤ length b)
Passed b s n None = (m : ℕ) × (rest s ≡ fault m)

passed : {A : Type 0} (b : List ℕ) (s : Step A) (n : ℕ) (r : Result ℕ Fault) → left b r ≡ rest s → HasLanded b n r → Passed b s n (result_ok r)
passed b s n (Ok e) h l = (sym h, l.0, l.1)
passed b s n (Err f) h l = (number_of f, sym h)

module _ {A : Type 0} (b : List ℕ) (s : Step A) (n : ℕ) (r : Result ℕ Fault) (o : Option ℕ) (h : left b r ≡ rest s) (l : HasLanded b n r) (is : o ≡ result_ok r) where
  pub row_read : (e : ℕ) → o ≡ Some e → (rest s ≡ got tt (drop e b)) × (e ≡ n) × (n ≤ length b)
  row_read e q = subst (Passed b s n) (sym is ∙ q) (passed b s n r h l)

  pub row_stops : o ≡ None → (m : ℕ) × (rest s ≡ fault m)
  row_stops q = subst (Passed b s n) (sym is ∙ q) (passed b s n r h l)

-- the same walk in other words
pub came_same : {A B : Type 0} (b : List ℕ) (s : Step A) (t : Step B) (r : Option ℕ) → rest s ≡ rest t → Came b s r → Came b t r
came_same b s t (Some e) q h = (rw (← q) h.0, h.1)
came_same b s t None q h = (h.0, rw (← q) h.1)

-- the first byte that is left
pub first-left : (b : List ℕ) (k : ℕ) → get_or (drop k b) 0 0 ≡ get_or b k 0
first-left b k = get_or-drop k b 0 0 ∙ ap (λ j. get_or b j 0) (add-zero k)
