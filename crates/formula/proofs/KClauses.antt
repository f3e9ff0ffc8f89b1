-- The K clauses. Where they are met there is just one true value at each place, blanks stand at a field's end only, and what the places
-- hold is a legal substitution, as which the K variables read. The other way round, K variables that read as a legal substitution meet
-- the K clauses and spell it. Assumes nothing.
use mathlib.Core.Path.{◌≡◌, refl, sym, ap, ap₂, subst, ◌∙◌}
use mathlib.Core.Bool.{Bool, true}
use mathlib.Core.List.{List, [], ◌∷◌}
use Prim.Native.Nat.{ℕ, zero, suc, ◌+◌, ◌<◌, ◌≤◌}
use native.Mathlib.Omega.{arith}
use lib.Arith.{lt_of_le-ne}
use lib.Dec.{ltb, eqb}
use lib.ListN.{length, get_or}
use lib.Seq.{ext_get_or}
use borrow.Author.Tests.{ltb-true, ltb-false, eqb-true, eqb-false, eq-eqb}
use Rattle.model.specs.Lists.{any, up_to, All}
use Rattle.model.specs.Sheet.{Sheet, limit}
use Rattle.model.specs.Word.{Substitution, text, Legal}
use Rattle.formula.specs.Clause.{K, blank, fields, yes, terms}
use Rattle.formula.specs.Numbering.{number}
use Rattle.formula.specs.Assignment.{Assignment, true_values, OneValue, held, up_to_blank, spelled}
use Rattle.model.proofs.Lists.{at, never, by_test, or_left, imply, implied, or_last}
use Rattle.model.proofs.Keeping.{keep_in, below_in, keep_one, any_out, any_in, map-from-at, length-map-from}
use Rattle.formula.proofs.Named.{AtPlace}
use Rattle.model.proofs.Values.{place-letter, place-blank}
use Rattle.formula.proofs.Terms.{Valuation, named, truth, Met, Reads}

-- What a place holds is a letter or blank, whatever is true there.
held_small : (s : Sheet) (w : Assignment) (f c : ℕ) → held s w f c ≤ blank s
unfolding true_values
held_small s w f c =
    first (true_values s w f c) (keep_in (λ a. a ≤ blank s) (λ a. w (number s (K f c a))) (up_to (suc (blank s)))
    (below_in _ (suc (blank s)) (λ a l e. omega arith)))
  where
    first : (xs : List ℕ) → All (λ a. a ≤ blank s) xs → get_or xs 0 (blank s) ≤ blank s
    first [] h = omega arith
    first (x ∷ xs) h = at (λ a. a ≤ blank s) (x ∷ xs) 0 (blank s) h (omega arith)

-- one place
module _ (s : Sheet) (w : Assignment) (f c : ℕ) (at : AtPlace s (Met s (named s w)) f c) where
  abbrev v : ℕ → Bool
  v a = named s w (K f c a)

  some_true : (a : ℕ) × (a < 0 + suc (blank s)) × (v a ≡ true)
  unfolding terms
  some_true = any_out (truth (named s w)) (λ a. yes (K f c a)) 0 (suc (blank s)) at.some_value

  not_two : (a b : ℕ) → a < b → b ≤ blank s → v a ≡ true → v b ≡ true → ⊥
  unfolding terms any
  not_two a b l k p q = never (implied (implied (at.not_both a b l k) p) q)

  same_true : (a b : ℕ) → a ≤ blank s → b ≤ blank s → v a ≡ true → v b ≡ true → b ≡ a
  same_true a b k m p q = by_test (ltb a b)
      (λ e. absurd (not_two a b (ltb-true a b e) m p q))
      (λ e. by_test (ltb b a)
      (λ d. absurd (not_two b a (ltb-true b a d) k q p))
      (λ d. let x = ltb-false a b e in let y = ltb-false b a d in omega arith))

  values-are : true_values s w f c ≡ some_true.0 ∷ []
  unfolding true_values
  values-are =
      let l = some_true.1 in
      keep_one v (suc (blank s)) some_true.0 (omega arith) some_true.2 (λ b k q. same_true some_true.0 b (omega arith) (omega arith) some_true.2 q)

  pub one_value : OneValue s w f c
  one_value = ap length values-are

  held-is : held s w f c ≡ some_true.0
  held-is = ap (λ (xs : List ℕ). get_or xs 0 (blank s)) values-are

  held_true : v (held s w f c) ≡ true
  held_true = ap v held-is ∙ some_true.2

  held-only : (a : ℕ) → a ≤ blank s → v a ≡ eqb (held s w f c) a
  held-only a k = by_test (eqb (held s w f c) a)
      (λ t. subst (λ z. v z ≡ true) (eqb-true (held s w f c) a t) held_true ∙ sym t)
      (λ t. by_test (v a)
      (λ e. absurd (eqb-false (held s w f c) a t (same_true a (held s w f c) k (held_small s w f c) e held_true)))
      (λ e. e ∙ sym t))

  blank_next : suc c < limit s f → held s w f c ≡ blank s → named s w (K f (suc c) (blank s)) ≡ true
  unfolding terms any
  blank_next l e = or_last (implied (at.blank_tail l) (subst (λ z. v z ≡ true) e held_true))

-- a field's text, from what its places hold: h c at place c, l being blank
module _ (l : ℕ) (h : ℕ → ℕ) (most : ℕ) where
  module _ (tail : (c : ℕ) → suc c < most → h c ≡ l → h (suc c) ≡ l) where
    blank_on : (n c : ℕ) → c + n < most → h c ≡ l → h (c + n) ≡ l
    blank_on zero c k e = let q : c + 0 ≡ c = omega arith in rw q e
    blank_on (suc n) c k e =
        let q : c + suc n ≡ suc c + n = omega arith in
        rw q (blank_on n (suc c) (omega arith) (tail c (omega arith) e))

    text_at_lem : (n c i : ℕ) → c + n ≡ most → i < n → get_or (up_to_blank l h c n) i l ≡ h (c + i)
    unfolding up_to_blank
    text_at_lem zero c i e k = absurd (omega arith)
    text_at_lem (suc n) c zero e k =
        let q : c + 0 ≡ c = omega arith in
        rw q (by_test (eqb (h c) l) (λ t. rw t (sym (eqb-true (h c) l t))) (λ t. rw t))
    text_at_lem (suc n) c (suc i) e k = by_test (eqb (h c) l)
        (λ t. rw t (sym (blank_on (suc i) c (omega arith) (eqb-true (h c) l t))))
        (λ t. let q : c + suc i ≡ suc c + i = omega arith in rw (t, q) (text_at_lem n (suc c) i (omega arith) (omega arith)))

  text-short : (n c : ℕ) → length (up_to_blank l h c n) ≤ n
  unfolding up_to_blank
  text-short zero c = omega arith
  text-short (suc n) c = by_test (eqb (h c) l)
      (λ t. rw t (omega arith))
      (λ t. rw t (let others = text-short n (suc c) in omega arith))

  text_over : ((c : ℕ) → c < most → h c ≤ l) → (n c : ℕ) → c + n ≤ most → All (λ a. a < l) (up_to_blank l h c n)
  unfolding up_to_blank All
  text_over small zero c k = tt
  text_over small (suc n) c k = by_test (eqb (h c) l)
      (λ t. rw t tt)
      (λ t. rw t (lt_of_le-ne (small c (omega arith)) (eqb-false (h c) l t), text_over small n (suc c) (omega arith)))

-- An assignment spells a legal substitution.
module _ (s : Sheet) (w : Assignment) where
  pub spelled-text : (f : ℕ) → f < fields s → text (spelled s w) f ≡ up_to_blank (blank s) (held s w f) 0 (limit s f)
  unfolding spelled
  spelled-text f k =
      let q : 0 + f ≡ f = omega arith in
      map-from-at (λ f. up_to_blank (blank s) (held s w f) 0 (limit s f)) [] 0 (fields s) f k ∙ rw q

  pub spelled-legal : Legal s (spelled s w)
  unfolding spelled
  spelled-legal = record {
    one_each = length-map-from (λ f. up_to_blank (blank s) (held s w f) 0 (limit s f)) 0 (fields s);
    admits = λ f k. record {
      over_letters = rw (spelled-text f k) (text_over (blank s) (held s w f) (limit s f) (λ c l. held_small s w f c) (limit s f) 0 (omega arith));
      no_longer = rw (spelled-text f k) (text-short (blank s) (held s w f) (limit s f) (limit s f) 0);
    };
  }

-- Where the K clauses are met, the K variables read as it, and after a blank there is a blank.
module _ (s : Sheet) (w : Assignment) (places : (f c : ℕ) → f < fields s → c < limit s f → AtPlace s (Met s (named s w)) f c) where
  pub tail : (f : ℕ) → f < fields s → (c : ℕ) → suc c < limit s f → held s w f c ≡ blank s → held s w f (suc c) ≡ blank s
  tail f k c l e =
      let next = places f (suc c) k l in
      eqb-true _ _ (sym (held-only s w f (suc c) next (blank s) (omega arith)) ∙ blank_next s w f c (places f c k (omega arith)) l e)

  pub spelled_reads : Reads s (named s w) (spelled s w)
  spelled_reads f c a k l m =
      let q : 0 + c ≡ c = omega arith in
      held-only s w f c (places f c k l) a m
      ∙ ap (λ z. eqb z a) (sym (ap (λ (t : List ℕ). get_or t c (blank s)) (spelled-text s w f k)
      ∙ text_at_lem (blank s) (held s w f) (limit s f) (tail f k) (limit s f) 0 c (omega arith) l
      ∙ ap (held s w f) q))

-- What a legal substitution has at a place: a letter or blank, and after a blank a blank.
module _ (s : Sheet) (g : Substitution) (legal : Legal s g) (f c : ℕ) (h : f < fields s) where
  pub place-small : get_or (text g f) c (blank s) ≤ blank s
  place-small = by_test (ltb c (length (text g f)))
      (λ t. let b = place-letter (blank s) (text g f) c (legal.admits f h).over_letters (ltb-true _ _ t) in omega arith)
      (λ t. let b = place-blank (blank s) (text g f) c (ltb-false _ _ t) in omega arith)

  place_next : get_or (text g f) c (blank s) ≡ blank s → get_or (text g f) (suc c) (blank s) ≡ blank s
  place_next e = by_test (ltb c (length (text g f)))
      (λ t. let b = place-letter (blank s) (text g f) c (legal.admits f h).over_letters (ltb-true _ _ t) in absurd (omega arith))
      (λ t. place-blank (blank s) (text g f) (suc c) (let b = ltb-false c (length (text g f)) t in omega arith))

-- What reads as a legal substitution meets the K clauses.
pub places_met : (s : Sheet) (v : Valuation) (g : Substitution) → Legal s g → Reads s v g → (f c : ℕ) → f < fields s → c < limit s f → AtPlace s (Met s v) f c
unfolding terms any
places_met s v g legal reads f c h k =
    let x : ℕ = get_or (text g f) c (blank s) in
    let small : x ≤ blank s = place-small s g legal f c h in
    record {
      some_value = any_in (truth v) (λ a. yes (K f c a)) 0 (suc (blank s)) x (omega arith) (omega arith) (reads f c x h k small ∙ eq-eqb x x refl);
      not_both = λ a b l m. imply (v (K f c a)) (λ p. imply (v (K f c b)) (λ q.
          let ea : x ≡ a = eqb-true _ _ (sym (reads f c a h k (omega arith)) ∙ p) in
          let eb : x ≡ b = eqb-true _ _ (sym (reads f c b h k m) ∙ q) in
          absurd (omega arith)));
      blank_tail = λ l. imply (v (K f c (blank s))) (λ p.
          let e : x ≡ blank s = eqb-true _ _ (sym (reads f c (blank s) h k (omega arith)) ∙ p) in
          or_left _ (reads f (suc c) (blank s) h l (omega arith) ∙ eq-eqb _ _ (place_next s g legal f c h e)));
    }

-- two texts are equal by what they have at each place, blank past the end
text_ext : (l : ℕ) (t u : List ℕ) → All (λ a. a < l) t → All (λ a. a < l) u → ((c : ℕ) → get_or t c l ≡ get_or u c l) → t ≡ u
unfolding All
text_ext l [] [] h k e = refl
text_ext l [] (y ∷ u) h k e = let q = e 0 in let b = k.0 in absurd (omega arith)
text_ext l (x ∷ t) [] h k e = let q = e 0 in let b = h.0 in absurd (omega arith)
text_ext l (x ∷ t) (y ∷ u) h k e = ap₂ ◌∷◌ (e 0) (text_ext l t u h.1 k.1 (λ c. e (suc c)))

-- The K variables read as one legal substitution only.
module _ (s : Sheet) (v : Valuation) (g h : Substitution) (lg : Legal s g) (lh : Legal s h) (rg : Reads s v g) (rh : Reads s v h) where
  place_unique : (f c : ℕ) → f < fields s → get_or (text g f) c (blank s) ≡ get_or (text h f) c (blank s)
  place_unique f c k = by_test (ltb c (limit s f))
      (λ t.
      let a : ℕ = get_or (text h f) c (blank s) in
      let m : a ≤ blank s = place-small s h lh f c k in
      let l = ltb-true c (limit s f) t in
      eqb-true _ _ (sym (rg f c a k l m) ∙ rh f c a k l m ∙ eq-eqb a a refl))
      (λ t.
      let b = ltb-false c (limit s f) t in
      let p = (lg.admits f k).no_longer in
      let q = (lh.admits f k).no_longer in
      place-blank (blank s) (text g f) c (omega arith) ∙ sym (place-blank (blank s) (text h f) c (omega arith)))

  reads_unique : g ≡ h
  reads_unique =
      let p = lg.one_each in
      ext_get_or [] g h (p ∙ sym lh.one_each) (λ f k.
      let l : f < fields s = omega arith in
      text_ext (blank s) (text g f) (text h f) (lg.admits f l).over_letters (lh.admits f l).over_letters (λ c. place_unique f c l))

-- So an assignment whose K variables read as a legal substitution spells it.
pub reads_spelled : (s : Sheet) (w : Assignment) (g : Substitution) → Legal s g → Reads s (named s w) g → spelled s w ≡ g
reads_spelled s w g legal reads =
    let at = places_met s (named s w) g legal reads in
    reads_unique s (named s w) (spelled s w) g (spelled-legal s w) legal (spelled_reads s w at) reads
