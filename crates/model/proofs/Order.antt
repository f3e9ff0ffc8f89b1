-- The order of substitutions (document 02, No. 1), computed, and its laws: its test decides it; none is earlier than itself; what is earlier than an earlier
-- one is earlier; and of two different substitutions of one sheet one is earlier. Assumes nothing.
use mathlib.Core.Path.{◌≡◌, refl, sym, ap, ap₂, subst, ◌∙◌}
use mathlib.Core.Bool.{true, not, ◌&&◌}
use mathlib.Core.List.{List, [], ◌∷◌, ◌++◌}
use mathlib.Core.Logic.{◌⊎◌, inl, inr}
use Prim.Native.Nat.{ℕ, zero, suc, ◌+◌, ◌<◌}
use native.Mathlib.Omega.{arith}
use lib.Dec.{ltb, eqb}
use lib.ListN.{length, length-append, length-map, get_or, take, drop}
use lib.Seq.{take_at, drop_at}
use borrow.Author.Tests.{ltb-true, ltb-false, lt-ltb, eqb-true, eq-eqb}
use Rattle.model.specs.Lists.{each, all}
use Rattle.model.specs.Sheet.{Sheet}
use Rattle.model.specs.Word.{Substitution, Legal}
use Rattle.model.specs.Order.{Lex, total_length, field_lengths, field_letters, ranks, Earlier, lex, earlier}
use Rattle.model.proofs.Lists.{never, by_test, and_split, and_join, or_cases, or_left, or_right}

-- Computed: two substitutions that one step of the order decides, and the later steps would decide the other way round.
record Two : Type 0 where
  earlier_one : Substitution
  later_one : Substitution

abbrev ◌before◌ : Substitution → Substitution → Two
◌before◌ g h = record { earlier_one = g; later_one = h }

infix 5 ◌before◌
abbrev compared : List Two
compared =
    -- "least total field length": field 0 is longer, and letters are higher
    ((1 ∷ []) ∷ [] ∷ [] ∷ [] before [] ∷ [] ∷ (0 ∷ 0 ∷ []) ∷ [])
    -- "then the shorter field 0": field 1 is longer, and letters are higher
    ∷ ([] ∷ (1 ∷ 1 ∷ []) ∷ [] before (0 ∷ []) ∷ (0 ∷ []) ∷ [])
    -- "field 1 and so on": field 2 is longer, and letters are higher
    ∷ ((1 ∷ []) ∷ [] ∷ (1 ∷ []) ∷ [] before (0 ∷ []) ∷ (0 ∷ []) ∷ [] ∷ [])
    -- "then the lower letter numbers, field by field": those of field 1 are higher
    ∷ ((0 ∷ []) ∷ (1 ∷ []) ∷ [] before (1 ∷ []) ∷ (0 ∷ []) ∷ [])
    -- "from the left": the next letter of the field is higher
    ∷ ((2 ∷ []) ∷ (0 ∷ 1 ∷ []) ∷ [] before (2 ∷ []) ∷ (1 ∷ 0 ∷ []) ∷ [])
    ∷ []

decided : all (λ (c : Two). earlier c.earlier_one c.later_one && not (earlier c.later_one c.earlier_one)) compared ≡ true
unfolding each all total_length field_letters ranks lex
decided = refl

-- The test decides the order of lists.
pub lex_out : (xs ys : List ℕ) → lex xs ys ≡ true → Lex xs ys
unfolding lex Lex
lex_out [] ys e = never e
lex_out (x ∷ xs) [] e = never e
lex_out (x ∷ xs) (y ∷ ys) e =
    or_cases (ltb x y) (eqb x y && lex xs ys) e (λ k. inl (ltb-true x y k)) (λ k.
    let both = and_split (eqb x y) (lex xs ys) k in
    inr (eqb-true x y both.0, lex_out xs ys both.1))

pub lex_in : (xs ys : List ℕ) → Lex xs ys → lex xs ys ≡ true
unfolding lex Lex
lex_in [] ys h = absurd h
lex_in (x ∷ xs) [] h = absurd h
lex_in (x ∷ xs) (y ∷ ys) (inl k) = or_left (eqb x y && lex xs ys) (lt-ltb x y k)
lex_in (x ∷ xs) (y ∷ ys) (inr k) = or_right (ltb x y) (and_join (eq-eqb x y k.0) (lex_in xs ys k.1))

-- Its laws.
pub lex_irreflexive : (xs : List ℕ) → Lex xs xs → ⊥
unfolding Lex
lex_irreflexive [] h = h
lex_irreflexive (x ∷ xs) (inl k) = omega arith
lex_irreflexive (x ∷ xs) (inr k) = lex_irreflexive xs k.1

pub lex_transitive : (xs ys zs : List ℕ) → Lex xs ys → Lex ys zs → Lex xs zs
unfolding Lex
lex_transitive [] ys zs h k = absurd h
lex_transitive (x ∷ xs) [] zs h k = absurd h
lex_transitive (x ∷ xs) (y ∷ ys) [] h k = absurd k
lex_transitive (x ∷ xs) (y ∷ ys) (z ∷ zs) (inl h) (inl k) = inl (omega arith)
lex_transitive (x ∷ xs) (y ∷ ys) (z ∷ zs) (inl h) (inr k) = let e = k.0 in inl (omega arith)
lex_transitive (x ∷ xs) (y ∷ ys) (z ∷ zs) (inr h) (inl k) = let e = h.0 in inl (omega arith)
lex_transitive (x ∷ xs) (y ∷ ys) (z ∷ zs) (inr h) (inr k) = inr (h.0 ∙ k.0, lex_transitive xs ys zs h.1 k.1)

-- two lists of one length are equal, or one is lower
pub lex_compare : (xs ys : List ℕ) → length xs ≡ length ys → (xs ≡ ys) ⊎ (Lex xs ys ⊎ Lex ys xs)
unfolding Lex
lex_compare [] [] n = inl refl
lex_compare [] (y ∷ ys) n = absurd (omega arith)
lex_compare (x ∷ xs) [] n = absurd (omega arith)
lex_compare (x ∷ xs) (y ∷ ys) n =
    by_test (ltb x y) (λ e. inr (inl (inl (ltb-true x y e)))) (λ e.
    by_test (ltb y x) (λ k. inr (inr (inl (ltb-true y x k)))) (λ k.
    let same : x ≡ y = let a = ltb-false x y e in let b = ltb-false y x k in omega arith in
    rest same (lex_compare xs ys (omega arith))))
  where
    rest : x ≡ y → (xs ≡ ys) ⊎ (Lex xs ys ⊎ Lex ys xs) → (x ∷ xs ≡ y ∷ ys) ⊎ (Lex (x ∷ xs) (y ∷ ys) ⊎ Lex (y ∷ ys) (x ∷ xs))
    rest e (inl q) = inl (ap₂ ◌∷◌ e q)
    rest e (inr (inl q)) = inr (inl (inr (e, q)))
    rest e (inr (inr q)) = inr (inr (inr (sym e, q)))

-- lists of two parts, the first ones of one length: the first parts decide, or they are equal and the second ones do
pub lex-parts : (xs ys us vs : List ℕ) → length xs ≡ length ys → Lex (xs ++ us) (ys ++ vs) → Lex xs ys ⊎ ((xs ≡ ys) × Lex us vs)
unfolding Lex
lex-parts [] [] us vs n h = inr (refl, h)
lex-parts [] (y ∷ ys) us vs n h = absurd (omega arith)
lex-parts (x ∷ xs) [] us vs n h = absurd (omega arith)
lex-parts (x ∷ xs) (y ∷ ys) us vs n (inl h) = inl (inl h)
lex-parts (x ∷ xs) (y ∷ ys) us vs n (inr h) = rest (lex-parts xs ys us vs (omega arith) h.1)
  where
    rest : Lex xs ys ⊎ ((xs ≡ ys) × Lex us vs) → Lex (x ∷ xs) (y ∷ ys) ⊎ ((x ∷ xs ≡ y ∷ ys) × Lex us vs)
    rest (inl q) = inl (inr (h.0, q))
    rest (inr q) = inr (ap₂ ◌∷◌ h.0 q.0, q.1)

pub lex-first : (xs ys us vs : List ℕ) → Lex xs ys → Lex (xs ++ us) (ys ++ vs)
unfolding Lex
lex-first [] ys us vs h = absurd h
lex-first (x ∷ xs) [] us vs h = absurd h
lex-first (x ∷ xs) (y ∷ ys) us vs (inl h) = inl h
lex-first (x ∷ xs) (y ∷ ys) us vs (inr h) = inr (h.0, lex-first xs ys us vs h.1)

pub lex-second : (xs us vs : List ℕ) → Lex us vs → Lex (xs ++ us) (xs ++ vs)
unfolding Lex
lex-second [] us vs h = h
lex-second (x ∷ xs) us vs h = inr (refl, lex-second xs us vs h)

-- where two lists differ first
pub record LowerAt (xs ys : List ℕ) : Type 0 where
  pub at : ℕ
  pub same : (i : ℕ) → i < at → get_or xs i 0 ≡ get_or ys i 0
  pub less : get_or xs at 0 < get_or ys at 0

pub lex-place : (xs ys : List ℕ) → Lex xs ys → LowerAt xs ys
unfolding Lex
lex-place [] ys h = absurd h
lex-place (x ∷ xs) [] h = absurd h
lex-place (x ∷ xs) (y ∷ ys) (inl h) = record { at = 0; same = λ i k. absurd (omega arith); less = h }
lex-place (x ∷ xs) (y ∷ ys) (inr h) = let r = lex-place xs ys h.1 in record { at = suc r.at; same = same_next r; less = r.less }
  where
    same_next : (r : LowerAt xs ys) (i : ℕ) → i < suc r.at → get_or (x ∷ xs) i 0 ≡ get_or (y ∷ ys) i 0
    same_next r zero k = h.0
    same_next r (suc i) k = r.same i (omega arith)

-- The order of substitutions, in the three steps of the sentence: the least total field length; then the shorter field 0, field 1 and so on; then the
-- lower letter numbers.
abbrev pub Steps : Substitution → Substitution → Type 0
Steps g h =
    (total_length g < total_length h)
    ⊎ ((total_length g ≡ total_length h)
    × (Lex (field_lengths g) (field_lengths h) ⊎ ((field_lengths g ≡ field_lengths h) × Lex (field_letters g) (field_letters h))))

module _ (g h : Substitution) where
  pub earlier_steps : length g ≡ length h → Earlier g h → Steps g h
  unfolding ranks Lex
  earlier_steps n (inl k) = inl k
  earlier_steps n (inr k) = inr (k.0, lex-parts (field_lengths g) (field_lengths h) (field_letters g) (field_letters h) (length-map g length ∙ n ∙ sym (length-map h length)) k.1)

  pub steps_earlier : Steps g h → Earlier g h
  unfolding ranks Lex
  steps_earlier (inl k) = inl k
  steps_earlier (inr k) = inr (k.0, rest k.1)
    where
      rest : Lex (field_lengths g) (field_lengths h) ⊎ ((field_lengths g ≡ field_lengths h) × Lex (field_letters g) (field_letters h)) → Lex (field_lengths g ++ field_letters g) (field_lengths h ++ field_letters h)
      rest (inl q) = lex-first (field_lengths g) (field_lengths h) (field_letters g) (field_letters h) q
      rest (inr q) = subst (λ ls. Lex (field_lengths g ++ field_letters g) (ls ++ field_letters h)) q.0 (lex-second (field_lengths g) (field_letters g) (field_letters h) q.1)

-- there are as many letters as the total length says
letters-total : (g : Substitution) → length (field_letters g) ≡ total_length g
unfolding field_letters each total_length
letters-total [] = refl
letters-total (t ∷ g) = length-append t (each g (λ t. t)) ∙ ap (λ n. length t + n) (letters-total g)

-- lengths and letters tell a substitution
same_parts : (g h : Substitution) → field_lengths g ≡ field_lengths h → field_letters g ≡ field_letters h → g ≡ h
unfolding field_letters each
same_parts [] [] n e = refl
same_parts [] (u ∷ h) n e = absurd (omega (arith, ap length n))
same_parts (t ∷ g) [] n e = absurd (omega (arith, ap length n))
same_parts (t ∷ g) (u ∷ h) n e =
    let long : length t ≡ length u = ap (λ (xs : List ℕ). get_or xs 0 0) n in
    let here = sym (take_at t (field_letters g) (length u) long) ∙ ap (take (length u)) e ∙ take_at u (field_letters h) (length u) refl in
    let there = sym (drop_at t (field_letters g) (length u) long) ∙ ap (drop (length u)) e ∙ drop_at u (field_letters h) (length u) refl in
    ap₂ ◌∷◌ here (same_parts g h (ap (drop 1) n) there)

-- Its laws.
pub earlier_irreflexive : (g : Substitution) → Earlier g g → ⊥
earlier_irreflexive g h = lex_irreflexive (ranks g) h

pub earlier_transitive : (g h k : Substitution) → Earlier g h → Earlier h k → Earlier g k
earlier_transitive g h k p q = lex_transitive (ranks g) (ranks h) (ranks k) p q

pub earlier_compare : (g h : Substitution) → length g ≡ length h → (g ≡ h) ⊎ (Earlier g h ⊎ Earlier h g)
unfolding ranks Lex
earlier_compare g h n =
    by_test (ltb (total_length g) (total_length h)) (λ e. inr (inl (inl (ltb-true (total_length g) (total_length h) e)))) (λ e.
    by_test (ltb (total_length h) (total_length g)) (λ k. inr (inr (inl (ltb-true (total_length h) (total_length g) k)))) (λ k.
    let same : total_length g ≡ total_length h = let a = ltb-false (total_length g) (total_length h) e in let b = ltb-false (total_length h) (total_length g) k in omega arith in
    rest same (lex_compare (field_lengths g ++ field_letters g) (field_lengths h ++ field_letters h) (sized g ∙ ap₂ ◌+◌ n same ∙ sym (sized h)))))
  where
    sized : (g : Substitution) → length (field_lengths g ++ field_letters g) ≡ length g + total_length g
    sized g = length-append (field_lengths g) (field_letters g) ∙ ap₂ ◌+◌ (length-map g length) (letters-total g)

    long : length (field_lengths g) ≡ length (field_lengths h)
    long = length-map g length ∙ n ∙ sym (length-map h length)

    rest : total_length g ≡ total_length h
        → (field_lengths g ++ field_letters g ≡ field_lengths h ++ field_letters h)
        ⊎ (Lex (field_lengths g ++ field_letters g) (field_lengths h ++ field_letters h) ⊎ Lex (field_lengths h ++ field_letters h) (field_lengths g ++ field_letters g))
        → (g ≡ h) ⊎ (Earlier g h ⊎ Earlier h g)
    rest e (inl q) = inl (same_parts g h
        (sym (take_at (field_lengths g) (field_letters g) (length (field_lengths h)) long) ∙ ap (take (length (field_lengths h))) q ∙ take_at (field_lengths h) (field_letters h) (length (field_lengths h)) refl)
        (sym (drop_at (field_lengths g) (field_letters g) (length (field_lengths h)) long) ∙ ap (drop (length (field_lengths h))) q ∙ drop_at (field_lengths h) (field_letters h) (length (field_lengths h)) refl))
    rest e (inr (inl q)) = inr (inl (inr (e, q)))
    rest e (inr (inr q)) = inr (inr (inr (sym e, q)))

-- of two different legal substitutions one is earlier
pub one_is-earlier : (s : Sheet) (g h : Substitution) → Legal s g → Legal s h → (g ≡ h → ⊥) → Earlier g h ⊎ Earlier h g
one_is-earlier s g h p q differ = by (earlier_compare g h (p.one_each ∙ sym q.one_each))
  where
    by : (g ≡ h) ⊎ (Earlier g h ⊎ Earlier h g) → Earlier g h ⊎ Earlier h g
    by (inl e) = absurd (differ e)
    by (inr k) = k
