-- A filling's bytes: the bytes of a legal substitution are read back, only they are read, and what is left after each place and each field. Assumes nothing.
use mathlib.Core.Path.{◌≡◌, refl, sym, ap, subst, ◌∙◌}
use mathlib.Core.Bool.{true}
use mathlib.Core.List.{List, [], ◌∷◌, ◌++◌, append_assoc, append-nil}
use Prim.Native.Nat.{ℕ, zero, suc, ◌+◌, ◌-◌, ◌*◌, ◌<◌, ◌≤◌}
use native.Mathlib.Numerals.{add-one}
use native.Mathlib.Omega.{arith}
use lib.Dec.{leb, ltb, eqb}
use lib.ListN.{length, get_or, drop, replicate, length-append, length-replicate, drop_of_length-le}
use lib.Seq.{drop-cons, drop-drop}
use borrow.Author.Tests.{leb-true, ltb-true, eqb-true, le-leb, lt-leb, lt-ltb, le-ltb, eq-eqb, ne_eqb}
use Rattle.model.specs.Lists.{each, All, Holds}
use Rattle.model.specs.Sheet.{Sheet, Step, got, fault, rest, ◌then◌}
use Rattle.model.specs.Range.{InRange}
use Rattle.model.specs.Word.{Substitution, text, Admits, Texts, Legal}
use Rattle.model.specs.Filling.{places, a_text, texts, filling, encode_text, encode_filling}
use Rattle.model.proofs.Lists.{at}
use Rattle.model.proofs.Steps.{no-fault, same-got, went, held}
use Rattle.model.proofs.Faithful as walks
use Rattle.model.proofs.Rests.{rest_wrapped, rest_stops, found}
use Rattle.model.proofs.Places.{holds-first, holds-from, holds_even, each_at}

pub first_in : {l limit : ℕ} {limits t : List ℕ} {g : Substitution} → Texts l (limit ∷ limits) (t ∷ g) → Admits l limit t
first_in h = h.admits 0 (omega arith)

pub others_in : {l limit : ℕ} {limits t : List ℕ} {g : Substitution} → Texts l (limit ∷ limits) (t ∷ g) → Texts l limits g
others_in h = record { one_each = omega arith; admits = λ f i. h.admits (suc f) (omega arith) }

pub none_in : (l : ℕ) → Texts l [] []
none_in l = record { one_each = refl; admits = λ f i. absurd (omega arith) }

pub one_more_in : {l limit : ℕ} {limits t : List ℕ} {g : Substitution} → Admits l limit t → Texts l limits g → Texts l (limit ∷ limits) (t ∷ g)
one_more_in {l} {limit} {limits} {t} {g} h more = record { one_each = ap suc more.one_each; admits = at_field_lem }
  where
    at_field_lem : (f : ℕ) → f < suc (length limits) → Admits l (get_or (limit ∷ limits) f 0) (text (t ∷ g) f)
    at_field_lem zero i = h
    at_field_lem (suc f) i = more.admits f (omega arith)

-- The bytes of texts are read back.

-- k places of a field with the text t in them
abbrev filled : ℕ → List ℕ → List ℕ
filled k t = t ++ replicate (k - length t) 255

filled_none : (k : ℕ) → filled k [] ≡ replicate k 255
filled_none k = let e : k - 0 ≡ k = omega arith in ap (λ n. replicate n 255) e

filled_more : (k a : ℕ) (t : List ℕ) → filled (suc k) (a ∷ t) ≡ a ∷ filled k t
filled_more k a t = let e : suc k - suc (length t) ≡ k - length t = omega arith in ap (λ n. a ∷ (t ++ replicate n 255)) e

places-past : (l k : ℕ) (zs : List ℕ) → places l 0 k (replicate k 255 ++ zs) ≡ got [] zs
unfolding places
places-past l zero zs = refl
places-past l (suc k) zs = places-past l k zs

places_reads : (l k : ℕ) (t zs : List ℕ) → All (λ a. a < l) t → length t ≤ k → places l (length t) k (filled k t ++ zs) ≡ got t zs
unfolding places All
places_reads l k [] zs h i = ap (λ xs. places l 0 k (xs ++ zs)) (filled_none k) ∙ places-past l k zs
places_reads l zero (a ∷ t) zs h i = absurd (omega arith)
places_reads l (suc k) (a ∷ t) zs h i =
    ap (λ xs. places l (suc (length t)) (suc k) (xs ++ zs)) (filled_more k a t)
    ∙ rw (lt-ltb a l h.0, places_reads l k t zs h.1 (omega arith))

text_reads : (l limit : ℕ) (t zs : List ℕ) → limit ≤ 8 → Admits l limit t → a_text l limit (encode_text t ++ zs) ≡ got t zs
unfolding a_text
text_reads l limit t zs h i = rw (le-leb (length t) limit i.no_longer) (places_reads l 8 t zs i.over_letters (omega arith))

texts_reads : (l : ℕ) (limits : List ℕ) (g : Substitution) (zs : List ℕ) → All (λ n. n ≤ 8) limits → Texts l limits g → texts l limits (each g encode_text ++ zs) ≡ got g zs
unfolding texts each All
texts_reads l [] [] zs h i = refl
texts_reads l [] (t ∷ g) zs h i = absurd (omega arith)
texts_reads l (limit ∷ limits) [] zs h i = absurd (omega arith)
texts_reads l (limit ∷ limits) (t ∷ g) zs h i =
    ap (λ xs. a_text l limit xs then onward) (append_assoc (encode_text t) (each g encode_text) zs)
    ∙ rw (text_reads l limit t (each g encode_text ++ zs) h.0 (first_in i), texts_reads l limits g zs h.1 (others_in i))
  where
    onward : List ℕ → List ℕ → Step Substitution
    onward t ys = texts l limits ys then (λ ts zs. got (t ∷ ts) zs)

text-length : (t : List ℕ) → length t ≤ 8 → length (encode_text t) ≡ 9
text-length t h = simp (length-append, length-replicate) (omega arith)

-- each text takes nine bytes
nine-each : (limits : List ℕ) (g : Substitution) {l : ℕ} → All (λ n. n ≤ 8) limits → Texts l limits g → All (λ t. length (encode_text t) ≡ 9) g
unfolding All
nine-each limits [] h i = tt
nine-each [] (t ∷ g) h i = absurd (omega arith)
nine-each (limit ∷ limits) (t ∷ g) h i = (text-length t (omega (arith, (first_in i).no_longer, h.0)), nine-each limits g h.1 (others_in i))

filling-length : (g : Substitution) → All (λ t. length (encode_text t) ≡ 9) g → length (encode_filling g) ≡ 9 * length g
unfolding All each encode_filling
filling-length [] h = refl
filling-length (t ∷ g) h = let more = filling-length g h.1 in length-append (encode_text t) (each g encode_text) ∙ omega (arith, h.0)

-- "As bytes it is 9 per field"
pub legal-sized : (s : Sheet) (g : Substitution) → InRange s → Legal s g → length (encode_filling g) ≡ 9 * length s.limits
legal-sized s g r h = filling-length g (nine-each s.limits g r.limits_in h) ∙ ap (λ k. 9 * k) h.one_each

pub filling_reads : (s : Sheet) (g : Substitution) → InRange s → Legal s g → filling s (encode_filling g) ≡ got g []
unfolding filling encode_filling
filling_reads s g r h =
    rw (eq-eqb (length (encode_filling g)) (9 * length s.limits) (legal-sized s g r h))
    (ap (texts (length s.letters) s.limits) (sym (append-nil (encode_filling g))) ∙ texts_reads (length s.letters) s.limits g [] r.limits_in h)

-- Only such bytes are read.

record PlacesOf (l n k : ℕ) (xs t zs : List ℕ) : Type 0 where
  bytes : xs ≡ filled k t ++ zs
  count : length t ≡ n
  over : All (λ a. a < l) t

places_exact : (l n k : ℕ) (xs : List ℕ) {t zs : List ℕ} → n ≤ k → places l n k xs ≡ got t zs → PlacesOf l n k xs t zs
unfolding places All
places_exact l zero zero xs i h = same-got (PlacesOf l 0 0 xs) h (record { bytes = refl; count = refl; over = tt })
places_exact l (suc n) zero xs i h = absurd (omega arith)
places_exact l zero (suc k) [] i h = no-fault h
places_exact l (suc n) (suc k) [] i h = no-fault h
places_exact l zero (suc k) (x ∷ xs) {t} {zs} i h =
    let a = held (eqb x 255) 23 (places l 0 k xs) h in
    let p = places_exact l 0 k xs (omega arith) a.1 in
    past x xs t zs (eqb-true x 255 a.0) p
  where
    past : (x : ℕ) (xs t zs : List ℕ) → x ≡ 255 → PlacesOf l 0 k xs t zs → PlacesOf l 0 (suc k) (x ∷ xs) t zs
    past x xs [] zs e p = record {
      bytes = ap (λ a. a ∷ xs) e ∙ ap (λ l. 255 ∷ l) (p.bytes ∙ ap (λ l. l ++ zs) (filled_none k)) ∙ ap (λ l. l ++ zs) (sym (filled_none (suc k)));
      count = refl;
      over = tt;
    }
    past x xs (a ∷ t) zs e p = absurd (omega arith)
places_exact l (suc n) (suc k) (x ∷ xs) i h =
    let a = held (ltb x l) 22 (places l n k xs then (λ t ys. got (x ∷ t) ys)) h in
    let g = went (places l n k xs) (λ t ys. got (x ∷ t) ys) a.1 in
    let p = places_exact l n k xs (omega arith) g.first in
    same-got (PlacesOf l (suc n) (suc k) (x ∷ xs)) g.second
    (record { bytes = ap (λ l. x ∷ l) p.bytes ∙ ap (λ l. l ++ g.rest) (sym (filled_more k x g.value)); count = ap suc p.count; over = (ltb-true x l a.0, p.over) })

text_exact : (l limit : ℕ) (xs : List ℕ) {t zs : List ℕ} → limit ≤ 8 → a_text l limit xs ≡ got t zs → walks.Exact encode_text (Admits l limit) xs t zs
unfolding a_text
text_exact l limit [] h e = no-fault e
text_exact l limit (n ∷ xs) {t} {zs} h e =
    let a = held (leb n limit) 21 (places l n 8 xs) e in
    let short = leb-true n limit a.0 in
    let p = places_exact l n 8 xs (omega arith) a.1 in
    record {
      bytes = ap (λ k. k ∷ xs) (sym p.count) ∙ ap (λ l. length t ∷ l) p.bytes;
      ok = record { over_letters = p.over; no_longer = omega (arith, p.count) };
    }

texts_exact : (l : ℕ) (limits xs : List ℕ) {g : Substitution} {zs : List ℕ} → All (λ n. n ≤ 8) limits → texts l limits xs ≡ got g zs → walks.Exact encode_filling (Texts l limits) xs g zs
unfolding texts encode_filling each All
texts_exact l [] xs h e = same-got (walks.Exact encode_filling (Texts l []) xs) e (record { bytes = refl; ok = none_in l })
texts_exact l (limit ∷ limits) xs h e =
    let onward : List ℕ → List ℕ → Step Substitution = λ t ys. texts l limits ys then (λ ts zs. got (t ∷ ts) zs) in
    let a = went (a_text l limit xs) onward e in
    let b = went (texts l limits a.rest) (λ ts zs. got (a.value ∷ ts) zs) a.second in
    let one = text_exact l limit xs h.0 a.first in
    let more = texts_exact l limits a.rest h.1 b.first in
    same-got (walks.Exact encode_filling (Texts l (limit ∷ limits)) xs) b.second
    (record {
      bytes = one.bytes ∙ ap (λ l. encode_text a.value ++ l) more.bytes ∙ sym (append_assoc (encode_text a.value) (encode_filling b.value) b.rest);
      ok = one_more_in one.ok more.ok;
    })

-- what is known where a filling is read
pub record Exact (s : Sheet) (m : List ℕ) (g : Substitution) (xs : List ℕ) : Type 0 where
  pub bytes : m ≡ encode_filling g
  pub legal : Legal s g
  pub done : xs ≡ []

-- the bytes are counted, and then read
parts : (s : Sheet) (m : List ℕ) {g : Substitution} {xs : List ℕ} → filling s m ≡ got g xs → (eqb (length m) (9 * length s.limits) ≡ true) × (texts (length s.letters) s.limits m ≡ got g xs)
unfolding filling
parts s m e = held (eqb (length m) (9 * length s.limits)) 20 (texts (length s.letters) s.limits m) e

pub filling-sized : (s : Sheet) (m : List ℕ) {g : Substitution} {xs : List ℕ} → filling s m ≡ got g xs → length m ≡ 9 * length s.limits
filling-sized s m e = eqb-true (length m) (9 * length s.limits) (parts s m e).0

pub filling_exact : (s : Sheet) (m : List ℕ) → InRange s → {g : Substitution} {xs : List ℕ} → filling s m ≡ got g xs → Exact s m g xs
filling_exact s m r {g} {xs} e =
    let t = texts_exact (length s.letters) s.limits m r.limits_in (parts s m e).1 in
    let n = filling-length g (nine-each s.limits g r.limits_in t.ok) in
    let size = filling-sized s m e in
    let none : length xs ≡ 0 = omega (arith, ap length t.bytes ∙ length-append (encode_filling g) xs, t.ok.one_each) in
    let done = nothing xs none in
    record { bytes = t.bytes ∙ ap (λ l. encode_filling g ++ l) done ∙ append-nil (encode_filling g); legal = t.ok; done = done }
  where
    nothing : (ys : List ℕ) → length ys ≡ 0 → ys ≡ []
    nothing [] h = refl
    nothing (y ∷ ys) h = absurd (omega arith)

-- Where the texts of a filling stand.
module _ (s : Sheet) (m : List ℕ) (r : InRange s) {g : Substitution} {xs : List ℕ} (e : filling s m ≡ got g xs) where
  pub text-short : (f : ℕ) → f < length s.limits → length (text g f) ≤ 8
  text-short f h = let n = at (λ n. n ≤ 8) s.limits f 0 r.limits_in h in omega (arith, ((filling_exact s m r e).legal.admits f h).no_longer)

  pub text-there : (f : ℕ) → f < length s.limits → Holds m (9 * f) (encode_text (text g f))
  unfolding encode_filling
  text-there f h =
      let k = filling_exact s m r e in
      let n = k.legal.one_each in
      let all : Holds m 0 (each g encode_text) = record { others = []; is = k.bytes ∙ sym (append-nil _); inside = omega arith } in
      let even = holds_even encode_text 9 m 0 g f (nine-each s.limits g r.limits_in k.legal) (omega arith) all in
      let here = subst (Holds m (0 + f * 9)) (each_at g encode_text f [] (omega arith)) even in
      holds-from (omega arith) (holds-first (encode_text (text g f)) (each (drop (f + 1) g) encode_text) here)

-- What is left after each place of a field: what a caller that reads byte by byte needs.

pub text-long : (l limit : ℕ) (b : List ℕ) → 0 < length b → limit < get_or b 0 0 → rest (a_text l limit b) ≡ fault 21
unfolding a_text
text-long l limit [] i h = absurd (omega arith)
text-long l limit (n ∷ xs) i h = rw (lt-leb n limit h)

pub text_starts : (l limit : ℕ) (b : List ℕ) → 0 < length b → get_or b 0 0 ≤ limit → rest (a_text l limit b) ≡ rest (places l (get_or b 0 0 - 0) 8 (drop 1 b))
unfolding a_text
text_starts l limit [] i h = absurd (omega arith)
text_starts l limit (n ∷ xs) i h = let e : n ≡ n - 0 = omega arith in rw (le-leb n limit h) (ap (λ k. rest (places l k 8 xs)) e)

-- place c of k, the length being n
module _ (l n k c : ℕ) (b : List ℕ) (more : c < k) (there : c + 1 < length b) where
  this_place : k - c ≡ suc (k - (c + 1))
  this_place = omega arith

  this_byte : drop (c + 1) b ≡ get_or b (c + 1) 0 ∷ drop (c + 1 + 1) b
  this_byte = rw (add-one (c + 1)) (drop-cons b (c + 1) 0 there)

  module _ (inside : c < n) where
    this_letter : n - c ≡ suc (n - (c + 1))
    this_letter = omega arith

    pub letter_stops : l ≤ get_or b (c + 1) 0 → rest (places l (n - c) (k - c) (drop (c + 1) b)) ≡ fault 22
    unfolding places
    letter_stops h = rw (this_place, this_letter, this_byte, le-ltb (get_or b (c + 1) 0) l h)

    pub letter_goes : get_or b (c + 1) 0 < l → rest (places l (n - c) (k - c) (drop (c + 1) b)) ≡ rest (places l (n - (c + 1)) (k - (c + 1)) (drop (c + 1 + 1) b))
    unfolding places
    letter_goes h =
        rw (this_place, this_letter, this_byte, lt-ltb (get_or b (c + 1) 0) l h)
        (rest_wrapped (places l (n - (c + 1)) (k - (c + 1)) (drop (c + 1 + 1) b)) (λ t. get_or b (c + 1) 0 ∷ t))

  module _ (outside : n ≤ c) where
    no-letter : n - c ≡ 0
    no-letter = omega arith

    none-later : n - (c + 1) ≡ 0
    none-later = omega arith

    pub past_stops : (get_or b (c + 1) 0 ≡ 255 → ⊥) → rest (places l (n - c) (k - c) (drop (c + 1) b)) ≡ fault 23
    unfolding places
    past_stops h = rw (this_place, no-letter, this_byte, ne_eqb (get_or b (c + 1) 0) 255 h)

    pub past_goes : get_or b (c + 1) 0 ≡ 255 → rest (places l (n - c) (k - c) (drop (c + 1) b)) ≡ rest (places l (n - (c + 1)) (k - (c + 1)) (drop (c + 1 + 1) b))
    unfolding places
    past_goes h = rw (this_place, no-letter, none-later, this_byte, eq-eqb (get_or b (c + 1) 0) 255 h)

pub places_done : (l n k c : ℕ) (b : List ℕ) → c ≡ k → rest (places l (n - c) (k - c) (drop (c + 1) b)) ≡ got tt (drop (k + 1) b)
unfolding places
places_done l n k c b e = let none : k - c ≡ 0 = omega arith in rw (none, e)

-- What is left after each field.

module _ (s : Sheet) (m : List ℕ) where
  pub filling_size : (length m ≡ 9 * length s.limits → ⊥) → rest (filling s m) ≡ fault 20
  unfolding filling
  filling_size h = rw (ne_eqb (length m) (9 * length s.limits) h)

  pub filling_starts : length m ≡ 9 * length s.limits → rest (filling s m) ≡ rest (texts (length s.letters) (drop 0 s.limits) (drop (9 * 0) m))
  unfolding filling
  filling_starts h = rw (eq-eqb (length m) (9 * length s.limits) h)

module _ (l : ℕ) (limits : List ℕ) (f : ℕ) (m : List ℕ) where
  module _ (h : f < length limits) where
    this_text : rest (texts l (drop f limits) (drop (9 * f) m)) ≡ rest (a_text l (get_or limits f 0) (drop (9 * f) m) then (λ t ys. texts l (drop (f + 1) limits) ys then (λ ts zs. got (t ∷ ts) zs)))
    unfolding texts
    this_text = rw (add-one f, drop-cons limits f 0 h)

    pub texts_stop : {n : ℕ} → rest (a_text l (get_or limits f 0) (drop (9 * f) m)) ≡ fault n → rest (texts l (drop f limits) (drop (9 * f) m)) ≡ fault n
    texts_stop e = this_text ∙ rest_stops (a_text l (get_or limits f 0) (drop (9 * f) m)) _ e

    pub texts_go : rest (a_text l (get_or limits f 0) (drop (9 * f) m)) ≡ got tt (drop 9 (drop (9 * f) m)) → rest (texts l (drop f limits) (drop (9 * f) m)) ≡ rest (texts l (drop (f + 1) limits) (drop (9 * (f + 1)) m))
    texts_go e =
        let a = found (a_text l (get_or limits f 0) (drop (9 * f) m)) e in
        let n : 9 * f + 9 ≡ 9 * (f + 1) = omega arith in
        let onward = texts l (drop (f + 1) limits) in
        this_text ∙ rw a.is (rest_wrapped (onward (drop 9 (drop (9 * f) m))) (λ ts. a.value ∷ ts) ∙ ap (λ ys. rest (onward ys)) (drop-drop 9 (9 * f) m ∙ ap (λ k. drop k m) n))

  pub texts_done : f ≡ length limits → length m ≡ 9 * length limits → rest (texts l (drop f limits) (drop (9 * f) m)) ≡ got tt []
  unfolding texts
  texts_done e n =
      let a : length limits ≤ f = omega arith in
      let b : length m ≤ 9 * f = omega arith in
      rw (drop_of_length-le limits a, drop_of_length-le m b)
