-- An answer as a call for C hands it over: the number returned, and what an array that is lent to it holds afterwards.
use Rattle.std.specs.Prelude.{◌≡◌, List, [], ◌∷◌, ℕ, ℤ, pos, neg_ℤ}
use Rattle.calls.specs.Calls.{Answer, refused, finished, sized, written, following}

-- minus the refusal's number; 0 for a call whose values go to a lent array
abbrev pub returned : Answer → ℤ
returned (refused n) = neg_ℤ (pos n)
returned (finished values) = pos 0

-- "no lent byte changes"; else the values
abbrev pub lent_after : Answer → List ℕ → List ℕ
lent_after (refused n) before = before
lent_after (finished values) before = values

-- minus the refusal's number; else the answer, of a call that answers one number
abbrev pub returned_number : Answer → ℤ
returned_number (refused n) = neg_ℤ (pos n)
returned_number (finished []) = pos 0
returned_number (finished (n ∷ others)) = pos n

-- a call that writes the answer's values into a lent buffer, and returns their number
abbrev pub Handed : Answer → List ℕ → ℤ → List ℕ → Type 0
Handed a before r after = (r ≡ returned_number (sized a)) × (after ≡ written a before)

-- a call that hands the answer's values over in a lent buffer, and returns 0
abbrev pub HandedOver : Answer → List ℕ → ℤ → List ℕ → Type 0
HandedOver a before r after = (r ≡ returned a) × (after ≡ written a before)

-- a call that returns the first of the answer's values, and hands the others over in a lent buffer
abbrev pub Decided : Answer → List ℕ → ℤ → List ℕ → Type 0
Decided a before r after = (r ≡ returned_number a) × (after ≡ written (following a) before)

-- a call that returns the first of the answer's values, and puts the others into a lent array of as many numbers; where there are no others, it stays as it was
abbrev pub array_after : Answer → List ℕ → List ℕ
array_after (refused n) before = before
array_after (finished []) before = before
array_after (finished (n ∷ [])) before = before
array_after (finished (n ∷ k ∷ others)) before = k ∷ others

abbrev pub Explained : Answer → List ℕ → ℤ → List ℕ → Type 0
Explained a before r after = (r ≡ returned_number a) × (after ≡ array_after a before)
