-- How an operation on a sheet goes on: after reading the sheet, after its own tests, after reading a filling. Assumes nothing.
use mathlib.Core.Path.{◌≡◌, refl, sym, ap, subst, ◌∙◌}
use mathlib.Core.Bool.{Bool, true, false}
use mathlib.Core.List.{List, [], ◌∷◌, ◌++◌}
use Prim.Native.Nat.{ℕ, ◌<◌, ◌≤◌}
use native.Mathlib.Omega.{arith}
use lib.Dec.{leb}
use lib.ListN.{length, take, drop}
use borrow.Author.Tests.{lt-ltb, le-ltb, le-leb, lt-leb, leb-true}
use Rattle.model.specs.Sheet as sheet
use Rattle.model.specs.Sheet.{Sheet, Step, got, fault, rest, Reading, read, is_accepted, Accepted, sheet_of}
use Rattle.model.specs.Word.{Substitution}
use Rattle.model.specs.Filling.{filling}
use Rattle.formula.specs.Clause.{ids}
use Rattle.formula.specs.Dimacs.{line}
use Rattle.calls.specs.Calls.{Answer, refused, finished, of_sheet, require, of_filling, reading_of, reading, spelled_text, spelling_of, spelling, sized, written, clause_counts, counting, writing_of, writing, HandsOver}
use Rattle.model.proofs.Reading.{read_prefix}
use Rattle.model.proofs.Known.{accepted_sheet}

pub not_finished : {P : Type 0} {n : ℕ} {vs : List ℕ} → refused n ≡ finished vs → P
not_finished e = let z : ◌≡◌ {A = ℕ} 0 1 = cc in absurd (omega arith)

-- a sheet that is refused is refused alike by every operation
pub sheet_refused : (b : List ℕ) (n : ℕ) (go : Sheet → Answer) → reading b ≡ refused n → of_sheet (read b) go ≡ refused n
unfolding reading
sheet_refused b n go h = by_reading (read b) h
  where
    by_reading : (r : Reading) → reading_of r ≡ refused n → of_sheet r go ≡ refused n
    by_reading (sheet.accepted s) e = let z : ◌≡◌ {A = ℕ} 0 1 = cc in absurd (omega arith)
    by_reading (sheet.refused k) e = e

pub sheet_accepted : (b : List ℕ) (go : Sheet → Answer) → Accepted b → of_sheet (read b) go ≡ go (sheet_of b)
sheet_accepted b go h = ap (λ r. of_sheet r go) (accepted_sheet b h)

pub sheet_finished : (b : List ℕ) (go : Sheet → Answer) {vs : List ℕ} → of_sheet (read b) go ≡ finished vs → Accepted b
unfolding Accepted
sheet_finished b go {vs} h = by_reading (read b) h
  where
    by_reading : (r : Reading) → of_sheet r go ≡ finished vs → is_accepted r ≡ true
    by_reading (sheet.accepted s) e = refl
    by_reading (sheet.refused k) e = not_finished e

-- a test of the call's own that did not stop it
pub required : (ok : Bool) (n : ℕ) (go : Answer) {vs : List ℕ} → require ok n go ≡ finished vs → (ok ≡ true) × (go ≡ finished vs)
required true n go e = (refl, e)
required false n go e = not_finished e

-- a filling that is refused, and one that is read
pub filling-refused : (w : Step Substitution) (n : ℕ) (go : Substitution → Answer) → rest w ≡ fault n → of_filling w go ≡ refused n
filling-refused (got g xs) n go h = let z : ◌≡◌ {A = ℕ} 0 1 = cc in absurd (omega arith)
filling-refused (fault k) n go h = cc

pub record Went (w : Step Substitution) (go : Substitution → Answer) (a : Answer) : Type 0 where
  pub value : Substitution
  pub others : List ℕ
  pub read_as : w ≡ got value others
  pub answers : go value ≡ a

pub filling-finished : (w : Step Substitution) (go : Substitution → Answer) {vs : List ℕ} → of_filling w go ≡ finished vs → Went w go (finished vs)
filling-finished (got g xs) go h = record { value = g; others = xs; read_as = refl; answers = h }
filling-finished (fault k) go h = not_finished h

-- Spelling: the answer, by the first test that fails.
module _ (b : List ℕ) (p side : ℕ) (m : List ℕ) (room : ℕ) where
  pub spelling_sheet : (n : ℕ) → reading b ≡ refused n → spelling b p side m room ≡ refused n
  unfolding spelling
  spelling_sheet n e = sheet_refused b n _ e

  module _ (ok : Accepted b) where
    pub spelling-equation : length (sheet_of b).equations ≤ p → spelling b p side m room ≡ refused 24
    unfolding spelling
    spelling-equation h = sheet_accepted b _ ok ∙ rw (le-ltb p (length (sheet_of b).equations) h)

    pub spelling-side : p < length (sheet_of b).equations → 1 < side → spelling b p side m room ≡ refused 25
    unfolding spelling
    spelling-side h k = sheet_accepted b _ ok ∙ rw (lt-ltb p (length (sheet_of b).equations) h, lt-leb side 1 k)

    pub spelling_on : p < length (sheet_of b).equations → side ≤ 1 → spelling b p side m room ≡ spelling_of (sheet_of b) p side m room
    unfolding spelling
    spelling_on h k = sheet_accepted b _ ok ∙ rw (lt-ltb p (length (sheet_of b).equations) h, le-leb side 1 k)

module _ (s : Sheet) (p side : ℕ) (m : List ℕ) (room : ℕ) where
  pub spelling-filling : (n : ℕ) → rest (filling s m) ≡ fault n → spelling_of s p side m room ≡ refused n
  unfolding spelling_of
  spelling-filling n e = filling-refused (filling s m) n _ e

  module _ {g : Substitution} {xs : List ℕ} (e : filling s m ≡ got g xs) where
    pub spelling-room : room < length (spelled_text s p side g) → spelling_of s p side m room ≡ refused 26
    unfolding spelling_of
    spelling-room h = rw (e, lt-leb (length (spelled_text s p side g)) room h)

    pub spelling-text : length (spelled_text s p side g) ≤ room → spelling_of s p side m room ≡ finished (spelled_text s p side g)
    unfolding spelling_of
    spelling-text h = rw (e, le-leb (length (spelled_text s p side g)) room h)

-- Counting: the sheet's refusal, or the three counts.
pub counting_sheet : (b : List ℕ) (n : ℕ) → reading b ≡ refused n → counting b ≡ refused n
unfolding counting
counting_sheet b n e = sheet_refused b n _ e

pub counting_counts : (b : List ℕ) → Accepted b → counting b ≡ finished (clause_counts (sheet_of b))
unfolding counting
counting_counts b ok = sheet_accepted b _ ok

-- The first 160 bytes of a sheet decide both calls' answers.
pub counting_prefix : (b : List ℕ) → counting b ≡ counting (take 160 b)
unfolding counting
counting_prefix b = ap (λ r. of_sheet r (λ s. finished (clause_counts s))) (read_prefix b)

pub writing_prefix : (b : List ℕ) (n room : ℕ) → writing b n room ≡ writing (take 160 b) n room
unfolding writing
writing_prefix b n room = ap (λ r. of_sheet r (λ s. writing_of s n room)) (read_prefix b)

-- Writing a line: the answer, by the first test that fails.
module _ (b : List ℕ) (n room : ℕ) where
  pub writing_sheet : (k : ℕ) → reading b ≡ refused k → writing b n room ≡ refused k
  unfolding writing
  writing_sheet k e = sheet_refused b k _ e

  module _ (ok : Accepted b) where
    pub writing-above : length (ids (sheet_of b)) < n → writing b n room ≡ refused 28
    unfolding writing writing_of
    writing-above h = sheet_accepted b _ ok ∙ rw (lt-leb n (length (ids (sheet_of b))) h)

    module _ (inside : n ≤ length (ids (sheet_of b))) where
      pub writing-room : room < length (line (sheet_of b) n) → writing b n room ≡ refused 29
      unfolding writing writing_of
      writing-room h = sheet_accepted b _ ok ∙ rw (le-leb n (length (ids (sheet_of b))) inside, lt-leb (length (line (sheet_of b) n)) room h)

      pub writing-line : length (line (sheet_of b) n) ≤ room → writing b n room ≡ finished (line (sheet_of b) n)
      unfolding writing writing_of
      writing-line h = sheet_accepted b _ ok ∙ rw (le-leb n (length (ids (sheet_of b))) inside, le-leb (length (line (sheet_of b) n)) room h)

-- what an answer that is finished tells
pub record Finished (a : Answer) : Type 0 where
  pub values : List ℕ
  pub is : a ≡ finished values

pub same-values : {us vs : List ℕ} → finished us ≡ finished vs → us ≡ vs
same-values e = cc

pub record LineOf (b : List ℕ) (n room : ℕ) (text : List ℕ) : Type 0 where
  pub accepted : Accepted b
  pub inside : n ≤ length (ids (sheet_of b))
  pub is : text ≡ line (sheet_of b) n
  pub fits : length text ≤ room

pub writing-answered : (b : List ℕ) (n room : ℕ) {text : List ℕ} → writing b n room ≡ finished text → LineOf b n room text
unfolding writing writing_of
writing-answered b n room {text} e =
    let ok = sheet_finished b _ e in
    let s = sheet_of b in
    let count = required (leb n (length (ids s))) 28 _ (sym (sheet_accepted b _ ok) ∙ e) in
    let t = required (leb (length (line s n)) room) 29 _ count.1 in
    let same = same-values t.1 in
    record {
      accepted = ok;
      inside = leb-true n (length (ids s)) count.0;
      is = sym same;
      fits = subst (λ z. length z ≤ room) same (leb-true (length (line s n)) room t.0);
    }

-- A call that writes and answers a length has written a text of that length.
pub record Sized (a : Answer) (n : ℕ) : Type 0 where
  pub text : List ℕ
  pub is : a ≡ finished text
  pub count : length text ≡ n

pub sized-finished : (a : Answer) {n : ℕ} → sized a ≡ finished (n ∷ []) → Sized a n
sized-finished (refused k) e = let z : ◌≡◌ {A = ℕ} 0 1 = cc in absurd (omega arith)
sized-finished (finished values) e = record { text = values; is = refl; count = cc }

-- What a call that writes leaves, by its answer.
pub leaves_all : {a : Answer} (n : ℕ) (buffer : List ℕ) → a ≡ refused n → (refused n ≡ sized a) × (buffer ≡ written a buffer)
leaves_all n buffer e = rw e (refl, refl)

pub leaves_text : {a : Answer} (text buffer : List ℕ) → a ≡ finished text → (finished (length text ∷ []) ≡ sized a) × ((text ++ drop (length text) buffer) ≡ written a buffer)
leaves_text text buffer e = rw e (refl, refl)

-- What a call that hands over leaves, by its answer.
pub keeps_all : {a : Answer} (n : ℕ) (buffer : List ℕ) → a ≡ refused n → HandsOver a buffer (refused n) buffer
keeps_all n buffer e = rw e (refl, refl)

pub hands_values : {a : Answer} (m buffer : List ℕ) → a ≡ finished m → HandsOver a buffer (finished []) (m ++ drop (length m) buffer)
hands_values m buffer e = rw e (refl, refl)
