-- The few words on tests and lists in which the other definitions are written.
use Rattle.std.specs.Prelude.{◌≡◌, Bool, true, false, ◌&&◌, ◌||◌, List, [], ◌∷◌, ◌++◌, ℕ, zero, suc, ◌+◌, ◌≤◌, ◌<◌, leb, eqb, length, take, drop}

-- one of two by a test
abbrev pub pick : {A : Type 0} → Bool → A → A → A
pick true a b = a
pick false a b = b

-- from the one number to the other, both included
abbrev pub between : ℕ → ℕ → ℕ → Bool
between low high n = leb low n && leb n high

-- whether the second list starts with the first
unfoldable pub starts_with : List ℕ → List ℕ → Bool
starts_with [] xs = true
starts_with (p ∷ ps) [] = false
starts_with (p ∷ ps) (x ∷ xs) = eqb x p && starts_with ps xs

-- whether two lists are equal
unfoldable pub same : List ℕ → List ℕ → Bool
same [] [] = true
same [] (y ∷ ys) = false
same (x ∷ xs) [] = false
same (x ∷ xs) (y ∷ ys) = eqb x y && same xs ys

-- how many elements come before the first that is x
unfoldable pub span : ℕ → List ℕ → ℕ
span x [] = 0
span x (y ∷ ys) = pick (eqb y x) 0 (suc (span x ys))

-- f of each element, in order, one after another
unfoldable pub each : {A B : Type 0} → List A → (A → List B) → List B
each [] f = []
each (x ∷ xs) f = f x ++ each xs f

-- the numbers from c on, n of them; and those below n
unfoldable pub from : ℕ → ℕ → List ℕ
from c zero = []
from c (suc n) = c ∷ from (suc c) n

abbrev pub up_to : ℕ → List ℕ
up_to n = from 0 n

-- whether a test passes at every element
unfoldable pub all : {A : Type 0} → (A → Bool) → List A → Bool
all p [] = true
all p (x ∷ xs) = p x && all p xs

-- whether a test passes at some element
unfoldable pub any : {A : Type 0} → (A → Bool) → List A → Bool
any p [] = false
any p (x ∷ xs) = p x || any p xs

-- how many elements from the start pass a test
unfoldable pub leading : {A : Type 0} → (A → Bool) → List A → ℕ
leading p [] = 0
leading p (x ∷ xs) = pick (p x) (suc (leading p xs)) 0

-- the list if a test passes, else nothing; and the elements that pass a test
abbrev pub when : {A : Type 0} → Bool → List A → List A
when true xs = xs
when false xs = []

unfoldable pub keep : {A : Type 0} → (A → Bool) → List A → List A
keep p [] = []
keep p (x ∷ xs) = when (p x) (x ∷ []) ++ keep p xs

-- h 0 + .. + h (n - 1)
unfoldable pub total : ℕ → (ℕ → ℕ) → ℕ
total zero h = 0
total (suc n) h = total n h + h n

-- P of every element
unfoldable pub All : {A : Type 0} → (A → Type 0) → List A → Type 0
All P [] = Unit
All P (x ∷ xs) = P x × All P xs

-- from offset k on the list b holds xs, and then others
pub record Holds (b : List ℕ) (k : ℕ) (xs : List ℕ) : Type 0 where
  pub others : List ℕ
  pub is : drop k b ≡ xs ++ others
  pub inside : k ≤ length b

-- the list s with p in the place of its elements from an offset on
abbrev pub placed : List ℕ → ℕ → List ℕ → List ℕ
placed s at p = take at s ++ (p ++ drop (at + length p) s)

-- what a function does that writes a piece into a buffer at an offset, and answers the offset past it
abbrev pub Puts : List ℕ → ℕ → List ℕ → List ℕ → ℕ → Type 0
Puts before at piece after past = (past ≡ at + length piece) × (after ≡ placed before at piece)

-- numbers below 256
abbrev pub Bytes : List ℕ → Type 0
Bytes xs = All (λ x. x < 256) xs
