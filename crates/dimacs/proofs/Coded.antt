-- Codes and the model: what is written of the codes of a clause's literals is the clause's line; codes that agree are written alike. Assumes nothing.
use mathlib.Core.Path.{◌≡◌, refl, ap, ap₂, ◌∙◌}
use mathlib.Core.List.{List, [], ◌∷◌, ◌++◌, map, append-nil}
use Prim.Native.Nat.{ℕ, zero, suc, ◌+◌, ◌*◌, ◌/◌, ◌<◌}
use native.Mathlib.Omega.{arith}
use lib.IntN.{pos, neg_ℤ}
use Rattle.model.specs.Lists.{each, All}
use Rattle.model.specs.Sheet.{Sheet}
use Rattle.formula.specs.Clause.{Literal, is, isnt, Term, known, unknown, ClauseId, terms, literal_of, literals}
use Rattle.formula.specs.Numbering.{number, signed_number, clause}
use Rattle.formula.specs.Dimacs.{decimal, literal_bytes, clause_line}
use Rattle.model.proofs.Lists.{each_append}
use Rattle.formula.proofs.Numbering.{positive}
use Rattle.dimacs.specs.Codes.{code_bytes, codes_line, code_of, term_code}
use Rattle.dimacs.proofs.Laws.{code_none, code_even, code_odd}

minus : (n : ℕ) → 0 < n → (45 ∷ []) ++ (decimal n ++ (32 ∷ [])) ≡ literal_bytes (neg_ℤ (pos n))
minus zero h = absurd (omega arith)
minus (suc n) h = refl

-- a literal's code is written as the literal
code_bytes_lem : (s : Sheet) (l : Literal) → code_bytes (code_of s l) ≡ literal_bytes (signed_number s l)
code_bytes_lem s (is x) =
    let h = positive s x in
    let n : ℕ = number s x in
    let half : 2 * n / 2 ≡ n = omega arith in
    code_even (2 * n) (λ e. omega arith) (omega arith) ∙ ap (λ k. decimal k ++ (32 ∷ [])) half
code_bytes_lem s (isnt x) =
    let h = positive s x in
    let n : ℕ = number s x in
    let half : (2 * n + 1) / 2 ≡ n = omega arith in
    code_odd (2 * n + 1) (λ e. omega arith) (λ e. omega arith) ∙ ap (λ k. (45 ∷ []) ++ (decimal k ++ (32 ∷ []))) half ∙ minus n h

-- and of a clause's terms the known ones are not written
terms_bytes : (s : Sheet) (ts : List Term) → each (map (term_code s) ts) code_bytes ≡ each (map (signed_number s) (each ts literal_of)) literal_bytes
unfolding each
terms_bytes s [] = refl
terms_bytes s (known b ∷ ts) = ap₂ ◌++◌ code_none (terms_bytes s ts)
terms_bytes s (unknown l ∷ ts) = ap₂ ◌++◌ (code_bytes_lem s l) (terms_bytes s ts)

pub terms-line : (s : Sheet) (q : ClauseId) → codes_line (map (term_code s) (terms s q)) ≡ clause_line (clause s q)
unfolding codes_line clause_line clause literals
terms-line s q = ap (λ z. z ++ (48 ∷ 10 ∷ [])) (terms_bytes s (terms s q))

-- codes 0 after the others are not written
none_bytes : (zs : List ℕ) → All (λ z. z ≡ 0) zs → each zs code_bytes ≡ []
unfolding each All
none_bytes [] h = refl
none_bytes (z ∷ zs) h = ap₂ ◌++◌ (ap code_bytes h.0 ∙ code_none) (none_bytes zs h.1)

pub padded_line : (cs zs : List ℕ) → All (λ z. z ≡ 0) zs → codes_line (cs ++ zs) ≡ codes_line cs
unfolding codes_line
padded_line cs zs h =
    ap (λ z. z ++ (48 ∷ 10 ∷ []))
    (each_append code_bytes cs zs ∙ ap (λ z. each cs code_bytes ++ z) (none_bytes zs h) ∙ append-nil (each cs code_bytes))

-- codes that agree
pub same_three : {a b c a' b' c' : ℕ} → a ≡ a' → b ≡ b' → c ≡ c' → codes_line (a ∷ b ∷ c ∷ []) ≡ codes_line (a' ∷ b' ∷ c' ∷ [])
same_three p q r = rw (p, q, r)

pub same_four : {a b c d a' b' c' d' : ℕ} → a ≡ a' → b ≡ b' → c ≡ c' → d ≡ d' → codes_line (a ∷ b ∷ c ∷ d ∷ []) ≡ codes_line (a' ∷ b' ∷ c' ∷ d' ∷ [])
same_four p q r t = rw (p, q, r, t)
