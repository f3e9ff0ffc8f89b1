-- Laws of specs/Memory: lengths, one element more, one field more; what `load` makes of a filling's bytes, and what `store` writes. Assumes
-- nothing.
use mathlib.Core.Path.{◌≡◌, refl, sym, ap, subst, ◌∙◌}
use mathlib.Core.List.{List, [], ◌∷◌, ◌++◌, append-nil}
use Prim.Native.Nat.{ℕ, zero, suc, ◌+◌, ◌-◌, ◌*◌, ◌<◌, ◌≤◌}
use native.Mathlib.Nat.{add-zero}
use native.Mathlib.Numerals.{add-one}
use native.Mathlib.Omega.{arith}
use lib.Dec.{eqb}
use lib.ListN.{length, get_or, take, drop, set, replicate, length-append, length-map, length-replicate, length-set, take-append-drop, get_or-map}
use lib.Seq.{take-suc, take_all, take_at, drop_at, length-take-le, get_or-take, get_or-set_same, get_or-set_other, ext_get_or}
use borrow.Author.Tests.{eqb-true, eqb-false}
use borrow.Rule.Slice.PartMut.{put_mid}
use Rattle.model.specs.Lists.{each, All, Holds, Bytes}
use Rattle.model.specs.Sheet.{Sheet, got, rest, Accepted, sheet_of}
use Rattle.model.specs.Range.{InRange}
use Rattle.model.specs.Word.{Substitution, text, Legal}
use Rattle.model.specs.Filling.{filling, encode_text, encode_filling}
use Rattle.model.proofs.Lists.{by_test, at, each_append}
use Rattle.model.proofs.Rests.{found}
use Rattle.model.proofs.Known.{accepted_in_range}
use Rattle.model.proofs.Places.{holds_at_lem, holds_next}
use Rattle.model.proofs.Seams.{store_next, length_seam, length_snoc, lend_tail}
use Rattle.model.proofs.Fillings.{filling_exact, filling-sized, text-short, text-there}
use Rattle.fields.specs.declared.Field.{Field}
use Rattle.fields.specs.Memory.{text_of, texts_of, field, Whole, meaning, Held, firsts, field_bytes, field_at, loaded}

-- the bytes of the first n fields
unfoldable pub memory_bytes : ℕ → List Field → List ℕ
memory_bytes zero g = []
memory_bytes (suc n) g = memory_bytes n g ++ field_bytes (field g n)

pub length-firsts : (n : ℕ) (xs : List ℕ) → length (firsts n xs) ≡ n
unfolding firsts
length-firsts zero xs = refl
length-firsts (suc n) xs = length_snoc (firsts n xs) (get_or xs n 0) n (length-firsts n xs) ∙ omega arith

length-field : (v : Field) → length (field_bytes v) ≡ 9
unfolding field_bytes
length-field v = ap suc (length-firsts 8 v.letters)

pub length_memory : (n : ℕ) (g : List Field) → length (memory_bytes n g) ≡ 9 * n
unfolding memory_bytes
length_memory zero g = refl
length_memory (suc n) g = let a = length-field (field g n) in let b = length_memory n g in simp length-append (omega arith)

pub firsts_more : (n : ℕ) (xs : List ℕ) → firsts (n + 1) xs ≡ firsts n xs ++ (get_or xs n 0 ∷ [])
unfolding firsts
firsts_more n xs = rw add-one

-- `store_field`: a length and k letters stand at the front of d, and one letter more is stored
length_front : (a k : ℕ) (l : List ℕ) → length (a ∷ firsts k l) ≡ k + 1
length_front a k l = ap suc (length-firsts k l) ∙ omega arith

pub letters-length : (a k : ℕ) (d l : List ℕ) → k < length d → length ((a ∷ firsts k l) ++ drop (k + 1) d) ≡ length d
letters-length a k d l h = length_seam (a ∷ firsts k l) d (k + 1) (length_front a k l) (omega arith)

pub letter_turn : (a k : ℕ) (d l : List ℕ) → k + 1 < length d → set ((a ∷ firsts k l) ++ drop (k + 1) d) (k + 1) (get_or l k 0) ≡ (a ∷ firsts (k + 1) l) ++ drop (k + 1 + 1) d
letter_turn a k d l h = rw firsts_more (store_next (a ∷ firsts k l) d (k + 1) (get_or l k 0) (length_front a k l) h)

memory_more : (n : ℕ) (g : List Field) → memory_bytes (n + 1) g ≡ memory_bytes n g ++ field_bytes (field g n)
unfolding memory_bytes
memory_more n g = rw add-one

-- one turn of `store`: field f's nine bytes have come back at the front of the part from 9 * f on
pub store_turn : (d : List ℕ) (g : List Field) (buf ys : List ℕ) (f : ℕ) → buf ≡ memory_bytes f g ++ drop (9 * f) d
    → ys ≡ field_bytes (field g f) ++ drop 9 (take (length buf - 9 * f) (drop (9 * f) buf))
    → put_mid (9 * f) (length buf - 9 * f) buf ys ≡ memory_bytes (f + 1) g ++ drop (9 * (f + 1)) d
store_turn d g buf ys f e h =
    let n : 9 * (f + 1) ≡ 9 * f + 9 = omega arith in
    rw (e, memory_more, n) (lend_tail (memory_bytes f g) (field_bytes (field g f)) d ys (9 * f) 9 (length_memory f g) (rw e at h))

-- What `load` makes of bytes, field by field.

pub firsts-take : (n : ℕ) (xs : List ℕ) → n ≤ length xs → firsts n xs ≡ take n xs
unfolding firsts
firsts-take zero xs h = refl
firsts-take (suc n) xs h = rw (firsts-take n xs (omega arith)) (sym (take-suc xs n 0 h))

firsts-all : (n : ℕ) (xs : List ℕ) → length xs ≡ n → firsts n xs ≡ xs
firsts-all n xs e = firsts-take n xs (omega arith) ∙ take_all n xs (omega arith)

-- `store_field`: a length and eight letters come to the front
pub store_front : (b l : List ℕ) (n : ℕ) → 9 ≤ length b → length l ≡ length (take 8 (drop 1 (set b 0 n))) → put_mid 1 8 (set b 0 n) l ≡ (n ∷ firsts 8 l) ++ drop 9 b
store_front [] l n h e = absurd (omega arith)
store_front (x ∷ b) l n h e = rw (firsts-all 8 l (e ∙ length-take-le 8 b (omega arith)))

length-loaded : (n : ℕ) (b : List ℕ) → length (loaded n b) ≡ 6
unfolding loaded
length-loaded zero b = refl
length-loaded (suc n) b = length-set (loaded n b) n (field_at b (9 * n)) ∙ length-loaded n b

loaded_at : (n f : ℕ) (b : List ℕ) → f < n → n ≤ 6 → field (loaded n b) f ≡ field_at b (9 * f)
unfolding loaded
loaded_at zero f b h i = absurd (omega arith)
loaded_at (suc n) f b h i =
    by_test (eqb f n)
    (λ t. let e = eqb-true f n t in rw e (get_or-set_same (loaded n b) n (field_at b (9 * n)) _ (omega (arith, length-loaded n b))))
    (λ t. get_or-set_other (loaded n b) n f (field_at b (9 * n)) _ (eqb-false f n t) ∙ loaded_at n f b (other (eqb-false f n t)) (omega arith))
  where
    other : (f ≡ n → ⊥) → f < n
    other ne = omega arith

-- A whole field's bytes are its text's, and so are those of several fields.
field_encodes : (v : Field) → Whole v → field_bytes v ≡ encode_text (text_of v)
unfolding field_bytes
field_encodes v h =
    let n = length-take-le v.len v.letters (omega (arith, h)) in
    let r = sym (take-append-drop v.len v.letters) ∙ ap (λ l. text_of v ++ l) h.past in
    rw n (ap (λ l. v.len ∷ l) (firsts-all 8 v.letters h.eight ∙ r))

pub memory_encodes : (n : ℕ) (g : List Field) → All Whole g → n ≤ length g → memory_bytes n g ≡ encode_filling (take n (texts_of g))
unfolding memory_bytes encode_filling each
memory_encodes zero g h l = refl
memory_encodes (suc n) g h l =
    let v = field g n in
    let more : n < length (texts_of g) = omega (arith, length-map g text_of) in
    let t = get_or-map text_of g n (record { letters = []; len = 0 }) in
    rw (memory_encodes n g h (omega arith), field_encodes v (at Whole g n (record { letters = []; len = 0 }) h (omega arith)), take-suc (texts_of g) n [] more, t)
    (sym (each_append encode_text (take n (texts_of g)) (text_of v ∷ []) ∙ ap (λ z. each (take n (texts_of g)) encode_text ++ z) (append-nil (encode_text (text_of v)))))

-- the field of a text, and that it is what nine bytes of a filling say
abbrev field_of : List ℕ → Field
field_of t = record { letters = t ++ replicate (8 - length t) 255; len = length t }

field-there : (b : List ℕ) (k : ℕ) (t : List ℕ) → length t ≤ 8 → Holds b k (encode_text t) → field_at b k ≡ field_of t
unfolding field_at
field-there b k t h there =
    let r : List ℕ = t ++ replicate (8 - length t) 255 in
    let next = holds_next (length t ∷ []) r there in
    let n = ap (λ j. get_or b j 0) (sym (add-zero k)) ∙ holds_at_lem (encode_text t) 0 there (omega arith) in
    let e : length r ≡ 8 = simp (length-append, length-replicate) (omega arith) in
    let f = ap length next.is ∙ length-append r next.others in
    let l = firsts-take 8 (drop (k + 1) b) (omega arith) ∙ ap (take 8) next.is ∙ take_at r next.others 8 e in
    cc

text-whole : (t : List ℕ) → length t ≤ 8 → Whole (field_of t)
text-whole t h = record {
  eight = simp (length-append, length-replicate) (omega arith);
  short = h;
  past = drop_at t (replicate (8 - length t) 255) (length t) refl;
}

all_set : {A : Type 0} (P : A → Type 0) (xs : List A) (i : ℕ) (a : A) → All P xs → P a → All P (set xs i a)
unfolding All
all_set P [] i a h p = h
all_set P (x ∷ xs) zero a h p = (p, h.1)
all_set P (x ∷ xs) (suc i) a h p = (h.0, all_set P xs i a h.1 p)

all_alike : {A : Type 0} (P : A → Type 0) (n : ℕ) (a : A) → P a → All P (replicate n a)
unfolding All
all_alike P zero a p = tt
all_alike P (suc n) a p = (p, all_alike P n a p)

loaded-whole : (n : ℕ) (b : List ℕ) → ((f : ℕ) → f < n → Whole (field_at b (9 * f))) → All Whole (loaded n b)
unfolding loaded
loaded-whole zero b h = all_alike Whole 6 (field_of []) (text-whole [] (omega arith))
loaded-whole (suc n) b h = all_set Whole (loaded n b) n (field_at b (9 * n)) (loaded-whole n b (λ f i. h f (omega arith))) (h n (omega arith))

module _ (s : Sheet) (m : List ℕ) (r : InRange s) {g : Substitution} {xs : List ℕ} (e : filling s m ≡ got g xs) where
  six-at-most : length s.limits ≤ 6
  six-at-most = r.counts_in.of_fields

  field_is : (f : ℕ) → f < length s.limits → field_at m (9 * f) ≡ field_of (text g f)
  field_is f h = field-there m (9 * f) (text g f) (text-short s m r e f h) (text-there s m r e f h)

  loaded-texts : take (length s.limits) (texts_of (loaded (length s.limits) m)) ≡ g
  loaded-texts =
      let v = length s.limits in
      let n = length-map (loaded v m) text_of ∙ length-loaded v m in
      let six = six-at-most in
      let long : length (take v (texts_of (loaded v m))) ≡ v = length-take-le v (texts_of (loaded v m)) (omega arith) in
      ext_get_or [] (take v (texts_of (loaded v m))) g (long ∙ sym (filling_exact s m r e).legal.one_each) (λ f h. at_field_lem f (omega arith))
    where
      at_field_lem : (f : ℕ) → f < length s.limits → get_or (take (length s.limits) (texts_of (loaded (length s.limits) m))) f [] ≡ text g f
      at_field_lem f h =
          let v = length s.limits in
          get_or-take v (texts_of (loaded v m)) f [] h
          ∙ get_or-map text_of (loaded v m) f (record { letters = []; len = 0 })
          ∙ ap text_of (loaded_at v f m h six-at-most ∙ field_is f h)
          ∙ take_at (text g f) (replicate (8 - length (text g f)) 255) (length (text g f)) refl

  loaded-all-whole : All Whole (loaded (length s.limits) m)
  loaded-all-whole = loaded-whole (length s.limits) m (λ f h. subst Whole (sym (field_is f h)) (text-whole (text g f) (text-short s m r e f h)))

-- What is loaded of an IsAdmitted filling holds it.
module _ (b m : List ℕ) (n : ℕ) (y : Bytes b) (ok : Accepted b) (passes : rest (filling (sheet_of b) m) ≡ got tt []) (counted : n ≡ length (sheet_of b).limits) where
  pub can_load : (n ≤ 6) × (9 * n ≤ length m)
  can_load =
      let f = found (filling (sheet_of b) m) passes in
      (omega (arith, (accepted_in_range b y ok).counts_in.of_fields), omega (arith, filling-sized (sheet_of b) m f.is))

  pub loaded-held : Held b (loaded n m) × (filling (sheet_of b) m ≡ got (meaning b (loaded n m)) [])
  loaded-held =
      let f = found (filling (sheet_of b) m) passes in
      let r = accepted_in_range b y ok in
      let t = loaded-texts (sheet_of b) m r f.is in
      rw counted (
        record {
          accepted = ok;
          in_range = r;
          six = length-loaded (length (sheet_of b).limits) m;
          whole = loaded-all-whole (sheet_of b) m r f.is;
          legal = subst (Legal (sheet_of b)) (sym t) (filling_exact (sheet_of b) m r f.is).legal;
        },
        f.is ∙ ap (λ g. got g []) (sym t),
      )

-- Bytes to memory to bytes: what `store` writes of what `load` made of accepted bytes is those bytes.
pub bytes_again : (b m : List ℕ) (g : List Field) → Held b g → filling (sheet_of b) m ≡ got (meaning b g) [] → encode_filling (meaning b g) ≡ m
bytes_again b m g h e = sym (filling_exact (sheet_of b) m h.in_range e).bytes
