-- A substitution as bytes (document 01: a filling's bytes): `filling` gives the substitution of a list of bytes or the first refusal,
-- `encode_filling` the bytes of a substitution.
use Rattle.std.specs.Prelude.{List, [], ◌∷◌, ◌++◌, ℕ, zero, suc, ◌-◌, ◌*◌, leb, ltb, eqb, length, replicate}
use Rattle.model.specs.Lists.{each}
use Rattle.model.specs.Sheet.{Sheet, Step, got, fault, ◌then◌, must}
use Rattle.model.specs.Word.{Substitution}

-- k places of a field, n letters and then none: "22 letter number not below L, 23 a place past the length that is not 255". What is got
-- is the text. Bytes are never missing here: their number is tested first.
unfoldable pub places : ℕ → ℕ → ℕ → List ℕ → Step (List ℕ)
places l n zero xs = got [] xs
places l n (suc k) [] = fault 20
places l zero (suc k) (x ∷ xs) = must (eqb x 255) 23 (places l zero k xs)
places l (suc n) (suc k) (x ∷ xs) = must (ltb x l) 22 (places l n k xs then (λ t ys. got (x ∷ t) ys))

-- A field of that limit: "the length, eight places"; "21 length above the limit".
unfoldable pub a_text : ℕ → ℕ → List ℕ → Step (List ℕ)
a_text l limit [] = fault 20
a_text l limit (n ∷ xs) = must (leb n limit) 21 (places l n 8 xs)

-- "by field, in byte order"
unfoldable pub texts : ℕ → List ℕ → List ℕ → Step Substitution
texts l [] xs = got [] xs
texts l (limit ∷ limits) xs = a_text l limit xs then (λ t ys. texts l limits ys then (λ ts zs. got (t ∷ ts) zs))

-- "20 not 9 × V bytes; then by field, in byte order, 21 .., 22 .., 23 .."
unfoldable pub filling : Sheet → List ℕ → Step Substitution
filling s m = must (eqb (length m) (9 * length s.limits)) 20 (texts (length s.letters) s.limits m)

-- "As bytes it is 9 per field, V fields: the length, eight places of letter numbers, 255 past the length."
abbrev pub encode_text : List ℕ → List ℕ
encode_text t = length t ∷ (t ++ replicate (8 - length t) 255)

unfoldable pub encode_filling : Substitution → List ℕ
encode_filling g = each g encode_text

-- The substitution that was read (of a fault, one without texts).
abbrev pub substitution_in : Step Substitution → Substitution
substitution_in (got g xs) = g
substitution_in (fault n) = []
