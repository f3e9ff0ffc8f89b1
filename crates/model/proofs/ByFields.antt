-- The order of substitutions, said by fields and places: of two legal ones the one with the least total length comes first; then the one whose text is
-- shorter in the first field in which the lengths differ; then the one with the lower letter at the first place at which the texts differ. Assumes nothing.
use mathlib.Core.Path.{◌≡◌, refl, sym, ap, ◌∙◌}
use mathlib.Core.List.{List, [], ◌∷◌}
use mathlib.Core.Logic.{◌⊎◌, inl, inr, ◌↔◌}
use Prim.Native.Nat.{ℕ, zero, suc, ◌+◌, ◌<◌, ◌≤◌}
use native.Mathlib.Omega.{arith}
use lib.Dec.{ltb}
use lib.ListN.{length, length-map, get_or, drop, get_or-map, get_or-eq_default}
use lib.Seq.{ext_get_or}
use borrow.Author.Tests.{ltb-true, ltb-false}
use Rattle.model.specs.Lists.{each, total}
use Rattle.model.specs.Sheet.{Sheet}
use Rattle.model.specs.Word.{Substitution, text, Legal}
use Rattle.model.specs.Order.{Lex, total_length, field_lengths, field_letters, Earlier}
use Rattle.model.proofs.Lists.{by_test}
use Rattle.model.proofs.Keeping.{total_head}
use Rattle.model.proofs.Order.{lex-place, lex-parts, lex-first, lex-second, Steps, earlier_steps, steps_earlier}

-- "the shorter field 0, field 1 and so on"
pub record Shorter (g h : Substitution) : Type 0 where
  pub field : ℕ
  pub same : (f : ℕ) → f < field → length (text g f) ≡ length (text h f)
  pub shorter : length (text g field) < length (text h field)

-- "the lower letter numbers, field by field from the left"
pub record Lower (g h : Substitution) : Type 0 where
  pub field : ℕ
  pub place : ℕ
  pub same_texts : (f : ℕ) → f < field → text g f ≡ text h f
  pub same_letters : (c : ℕ) → c < place → get_or (text g field) c 0 ≡ get_or (text h field) c 0
  pub lower : get_or (text g field) place 0 < get_or (text h field) place 0

-- the lengths of all fields are the same
abbrev pub SameLengths : Substitution → Substitution → Type 0
SameLengths g h = (f : ℕ) → length (text g f) ≡ length (text h f)

-- the lengths of all fields added up
abbrev pub length_sum : Substitution → ℕ
length_sum g = total (length g) (λ f. length (text g f))

-- "least total field length; then the shorter field 0, field 1 and so on; then the lower letter numbers, field by field from the left"
abbrev pub ByFields : Substitution → Substitution → Type 0
ByFields g h = (length_sum g < length_sum h) ⊎ ((length_sum g ≡ length_sum h) × (Shorter g h ⊎ (SameLengths g h × Lower g h)))

-- the sum of the lengths is the total length, whatever is counted past the last field
pub total_lengths : (g : Substitution) (k : ℕ) → length g ≤ k → total k (λ f. length (text g f)) ≡ total_length g
unfolding total total_length
total_lengths [] zero h = refl
total_lengths [] (suc k) h = let e = total_lengths [] k (omega arith) in omega arith
total_lengths (t ∷ g) zero h = absurd (omega arith)
total_lengths (t ∷ g) (suc k) h = total_head k (λ f. length (text (t ∷ g) f)) ∙ ap (λ n. length t + n) (total_lengths g k (omega arith))

sum_total : (g : Substitution) → length_sum g ≡ total_length g
sum_total g = total_lengths g (length g) (omega arith)

-- where a list is lower at the first place at which two lists differ, it comes before the other
place-lex : (xs ys : List ℕ) (i : ℕ) → i < length xs → ((j : ℕ) → j < i → get_or xs j 0 ≡ get_or ys j 0) → get_or xs i 0 < get_or ys i 0 → Lex xs ys
unfolding Lex
place-lex [] ys i k same less = absurd (omega arith)
place-lex (x ∷ xs) [] i k same less = absurd (omega arith)
place-lex (x ∷ xs) (y ∷ ys) zero k same less = inl less
place-lex (x ∷ xs) (y ∷ ys) (suc i) k same less = inr (same 0 (omega arith), place-lex xs ys i (omega arith) (λ j l. same (suc j) (omega arith)) less)

length_at : (g : Substitution) (f : ℕ) → get_or (field_lengths g) f 0 ≡ length (text g f)
length_at g f = get_or-map length g f []

-- a field or a place past the end has length, or letter, 0
above-none : (xs : List ℕ) (i n : ℕ) → n < get_or xs i 0 → i < length xs
above-none xs i n h = by_test (ltb i (length xs)) (λ e. ltb-true i (length xs) e) (λ e.
    let none = get_or-eq_default xs 0 (ltb-false i (length xs) e) in absurd (omega arith))

pub field-there : (g : Substitution) (f n : ℕ) → n < length (text g f) → f < length g
field-there g f n h = let e = length_at g f in let k = above-none (field_lengths g) f n (omega arith) in omega (arith, length-map g length)

module _ (g h : Substitution) (sized : length g ≡ length h) where
  same_lengths : SameLengths g h → field_lengths g ≡ field_lengths h
  same_lengths e =
      ext_get_or 0 (field_lengths g) (field_lengths h) (length-map g length ∙ sized ∙ sym (length-map h length)) (λ f _. length_at g f ∙ e f ∙ sym (length_at h f))

  shorter_out : Lex (field_lengths g) (field_lengths h) → Shorter g h
  shorter_out k =
      let r = lex-place (field_lengths g) (field_lengths h) k in
      record {
        field = r.at;
        same = λ f l. sym (length_at g f) ∙ r.same f l ∙ length_at h f;
        shorter = let a = length_at g r.at in let b = length_at h r.at in omega (arith, r.less);
      }

  shorter_in : Shorter g h → Lex (field_lengths g) (field_lengths h)
  shorter_in k =
      let a = length_at g k.field in
      let b = length_at h k.field in
      let inside = above-none (field_lengths h) k.field (length (text g k.field)) (omega (arith, k.shorter)) in
      place-lex (field_lengths g) (field_lengths h) k.field (omega (arith, inside, length-map g length, length-map h length))
      (λ f l. length_at g f ∙ k.same f l ∙ sym (length_at h f)) (omega (arith, k.shorter))

-- one field more in front, with the same text
lower_next : (t u : List ℕ) (g h : Substitution) → t ≡ u → Lower g h → Lower (t ∷ g) (u ∷ h)
lower_next t u g h e k = record { field = suc k.field; place = k.place; same_texts = same; same_letters = k.same_letters; lower = k.lower }
  where
    same : (f : ℕ) → f < suc k.field → text (t ∷ g) f ≡ text (u ∷ h) f
    same zero l = e
    same (suc f) l = k.same_texts f (omega arith)

lower_out : (g h : Substitution) → field_lengths g ≡ field_lengths h → Lex (field_letters g) (field_letters h) → Lower g h
unfolding field_letters each Lex
lower_out [] h n k = absurd k
lower_out (t ∷ g) [] n k = absurd (omega (arith, ap length n))
lower_out (t ∷ g) (u ∷ h) n k =
    by (λ q. lower_out g h (ap (drop 1) n) q) (lex-parts t u (field_letters g) (field_letters h) (ap (λ (xs : List ℕ). get_or xs 0 0) n) k)
  where
    by : (Lex (field_letters g) (field_letters h) → Lower g h) → Lex t u ⊎ ((t ≡ u) × Lex (field_letters g) (field_letters h)) → Lower (t ∷ g) (u ∷ h)
    by rest (inl q) = let r = lex-place t u q in record { field = 0; place = r.at; same_texts = λ f l. absurd (omega arith); same_letters = r.same; lower = r.less }
    by rest (inr q) = lower_next t u g h q.0 (rest q.1)

lower_in : (g h : Substitution) → field_lengths g ≡ field_lengths h → (f c : ℕ) → ((e : ℕ) → e < f → text g e ≡ text h e) → ((d : ℕ) → d < c → get_or (text g f) d 0 ≡ get_or (text h f) d 0)
    → get_or (text g f) c 0 < get_or (text h f) c 0 → Lex (field_letters g) (field_letters h)
unfolding field_letters each Lex
lower_in [] [] n f c texts letters less = absurd (omega arith)
lower_in [] (u ∷ h) n f c texts letters less = absurd (omega (arith, ap length n))
lower_in (t ∷ g) [] n f c texts letters less = absurd (omega (arith, ap length n))
lower_in (t ∷ g) (u ∷ h) n zero c texts letters less =
    let long : length t ≡ length u = ap (λ (xs : List ℕ). get_or xs 0 0) n in
    let inside = above-none u c (get_or t c 0) less in
    lex-first t u (field_letters g) (field_letters h) (place-lex t u c (omega arith) letters less)
lower_in (t ∷ g) (u ∷ h) n (suc f) c texts letters less =
    rw (texts 0 (omega arith)) (lex-second u (field_letters g) (field_letters h) (lower_in g h (ap (drop 1) n) f c (λ e l. texts (suc e) (omega arith)) letters less))

pub earlier_by_fields : (s : Sheet) (g h : Substitution) → Legal s g → Legal s h → Earlier g h ↔ ByFields g h
earlier_by_fields s g h p q = (λ e. out (earlier_steps g h sized e), λ e. steps_earlier g h (back e))
  where
    sized : length g ≡ length h
    sized = p.one_each ∙ sym q.one_each

    lengths_out : field_lengths g ≡ field_lengths h → SameLengths g h
    lengths_out e f = sym (length_at g f) ∙ ap (λ (xs : List ℕ). get_or xs f 0) e ∙ length_at h f

    sums_out : total_length g ≡ total_length h → length_sum g ≡ length_sum h
    sums_out e = sum_total g ∙ e ∙ sym (sum_total h)

    sums_in : length_sum g ≡ length_sum h → total_length g ≡ total_length h
    sums_in e = sym (sum_total g) ∙ e ∙ sum_total h

    out : Steps g h → ByFields g h
    out (inl k) = let a = sum_total g in let b = sum_total h in inl (omega arith)
    out (inr (e, inl k)) = inr (sums_out e, inl (shorter_out g h sized k))
    out (inr (e, inr k)) = inr (sums_out e, inr (lengths_out k.0, lower_out g h k.0 k.1))

    back : ByFields g h → Steps g h
    back (inl k) = let a = sum_total g in let b = sum_total h in inl (omega arith)
    back (inr (e, inl k)) = inr (sums_in e, inl (shorter_in g h sized k))
    back (inr (e, inr (n, k))) =
        let lengths = same_lengths g h sized n in
        inr (sums_in e, inr (lengths, lower_in g h lengths k.field k.place k.same_texts k.same_letters k.lower))
