-- Document 01's examples (a) to (k), over `Solves`: what the computed test of Examples.antt shows, for every substitution. Assumes nothing.
use mathlib.Core.Path.{◌≡◌, refl, subst}
use mathlib.Core.Bool.{Bool, true, not, ◌&&◌, ◌||◌}
use mathlib.Core.List.{List, [], ◌∷◌}
use Prim.Native.Nat.{ℕ}
use lib.Dec.{leb, ltb}
use lib.ListN.{length}
use borrow.Author.Tests.{ltb-true, leb-true}
use Rattle.model.specs.Lists.{same, All, all}
use Rattle.model.specs.Sheet.{Sheet, equation, read, is_accepted, Accepted, sheet_in, sheet_of}
use Rattle.model.specs.Word.{Substitution, Texts, Legal, letter_bytes, spell, Solves, solves}
use Rattle.model.specs.Solvable.{every_legal}
use Rattle.model.proofs.Lists.{never, and_split, or_cases, same-equal, weaken, all_out}
use Rattle.model.proofs.Words.{solves_out, solves_in}
use Rattle.model.proofs.Fillings.{none_in, one_more_in}
use Rattle.model.proofs.Solvable.{every_legal_lem}
use Rattle.model.proofs.Examples.{Claim, clashes, only, does_not, apart, spells, Example, listed, legal_texts, same_texts_lem, legal_in, clashes_in, test, passes_test, tests_pass}

-- What each claim says.
abbrev Says : Sheet → Claim → Type 0
Says s (clashes g) = Solves s g
Says s (only g) = Solves s g × ((h : Substitution) → Solves s h → h ≡ g)
Says s (does_not g) = Legal s g × (Solves s g → ⊥)
Says s apart = (h : Substitution) → Solves s h → ⊥
Says s (spells g w) = (letter_bytes s (spell g (equation s 0).left) ≡ w) × (letter_bytes s (spell g (equation s 0).right) ≡ w)

abbrev pub Said : Example → Type 0
Said c = Accepted c.bytes × Says (sheet_of c.bytes) c.claim

-- The test for legal substitutions.
texts_out : (l : ℕ) (ns : List ℕ) (g : Substitution) → legal_texts l ns g ≡ true → Texts l ns g
unfolding legal_texts
texts_out l [] [] e = none_in l
texts_out l [] (t ∷ g) e = never e
texts_out l (n ∷ ns) [] e = never e
texts_out l (n ∷ ns) (t ∷ g) e =
    let p = and_split (leb (length t) n) (all (λ a. ltb a l) t && legal_texts l ns g) e in
    let q = and_split (all (λ a. ltb a l) t) (legal_texts l ns g) p.1 in
    one_more_in
    (record { over_letters = weaken _ _ t (λ a. ltb-true a l) (all_out (λ a. ltb a l) t q.0); no_longer = leb-true (length t) n p.0 })
    (texts_out l ns g q.1)

legal_out : (s : Sheet) (g : Substitution) → legal_in s g ≡ true → Legal s g
legal_out s g e = texts_out (length s.letters) s.limits g e

clash_out : (s : Sheet) (g : Substitution) → clashes_in s g ≡ true → Solves s g
clash_out s g e =
    let r = and_split (legal_in s g) (solves s g) e in
    solves_out s g (legal_out s g r.0) r.1

same-texts_out : (g h : Substitution) → same_texts_lem g h ≡ true → g ≡ h
unfolding same_texts_lem
same-texts_out [] [] e = refl
same-texts_out [] (t ∷ h) e = never e
same-texts_out (t ∷ g) [] e = never e
same-texts_out (t ∷ g) (u ∷ h) e =
    let r = and_split (same t u) (same_texts_lem g h) e in
    let p = same-equal t u r.0 in
    let q = same-texts_out g h r.1 in
    cc

-- a test that every legal substitution passes
all-legal : (s : Sheet) (p : Substitution → Bool) → all p (every_legal s) ≡ true → (g : Substitution) → Legal s g → p g ≡ true
all-legal s p e g ok = every_legal_lem s (λ g. p g ≡ true) (all_out p (every_legal s) e) g ok

-- a solution, where the test says that there is none
no-solution : (s : Sheet) (g : Substitution) → not (solves s g) ≡ true → Solves s g → ⊥
no-solution s g e h = never (subst (λ b. not b ≡ true) (solves_in s g h) e)

-- The test shows what is claimed.
test_shows : (s : Sheet) (k : Claim) → test s k ≡ true → Says s k
test_shows s (clashes g) e = clash_out s g e
test_shows s (only g) e =
    let r = and_split (clashes_in s g) (all (λ h. not (solves s h) || same_texts_lem h g) (every_legal s)) e in (
      clash_out s g r.0,
      λ h sol.
          or_cases (not (solves s h)) (same_texts_lem h g) (all-legal s (λ h. not (solves s h) || same_texts_lem h g) r.1 h sol.is_legal)
          (λ n. absurd (no-solution s h n sol))
          (λ q. same-texts_out h g q),
    )
test_shows s (does_not g) e = let r = and_split (legal_in s g) (not (solves s g)) e in (legal_out s g r.0, no-solution s g r.1)
test_shows s apart e = λ h sol. no-solution s h (all-legal s (λ h. not (solves s h)) e h sol.is_legal) sol
test_shows s (spells g w) e =
    let left = letter_bytes s (spell g (equation s 0).left) in
    let right = letter_bytes s (spell g (equation s 0).right) in
    let r = and_split (same left w) (same right w) e in
    (same-equal left w r.0, same-equal right w r.1)

-- "Proved of the definitions together, as one list": (a) to (k).
pub examples : All Said listed
unfolding Accepted sheet_of
examples = weaken _ Said listed shows_one (all_out passes_test listed tests_pass)
  where
    shows_one : (c : Example) → passes_test c ≡ true → Said c
    shows_one c e =
        let r = and_split (is_accepted (read c.bytes)) (test (sheet_in (read c.bytes)) c.claim) e in
        (r.0, test_shows (sheet_in (read c.bytes)) c.claim r.1)
