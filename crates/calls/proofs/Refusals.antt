-- Every refusal of reading is a number from 1 to 15, and of a filling from 20 to 23. Each part has this of its faults, and so has the whole.
-- So 0 is the number of no refusal. Assumes nothing.
use mathlib.Core.Path.{◌≡◌, refl}
use mathlib.Core.Bool.{Bool, true, false}
use mathlib.Core.List.{List, [], ◌∷◌, map}
use Prim.Native.Nat.{ℕ, zero, suc, ◌*◌, ◌≤◌}
use native.Mathlib.Omega.{arith}
use lib.Dec.{leb, ltb, eqb}
use lib.ListN.{length, get_or}
use Rattle.model.specs.Lists.{between, starts_with}
use Rattle.model.specs.Sheet as sheet
use Rattle.model.specs.Sheet.{Sheet, symbol_of, width, sixteen, Step, got, fault, ◌then◌, must, Role, letter_byte, limit_byte, count_byte, template_byte, coefficient_byte, most_byte, passes, refusal_of, row, times, sides, an_equation, a_constraint, Counts, mark, byte, opening, walk, Reading, ended, read}
use Rattle.model.specs.Word.{Substitution}
use Rattle.model.specs.Mismatch.{Judgement, solution, differs, breaks, judged}
use Rattle.formula.specs.Clause.{ids}
use Rattle.formula.specs.Dimacs.{line}
use Rattle.model.specs.Filling.{places, a_text, texts, filling}
use Rattle.calls.specs.Calls.{refused, finished, of_sheet, of_filling, reading_of, reading, judgement_values, checking, Answer, require, spelled_text, spelling_of, spelling, counting, writing_of, writing}

-- a fault's number is from the one to the other
abbrev Numbered : {A : Type 0} → ℕ → ℕ → Step A → Type 0
Numbered low high (got a xs) = Unit
Numbered low high (fault n) = (low ≤ n) × (n ≤ high)

module _ (low high : ℕ) where
  numbered_then : {A B : Type 0} (s : Step A) (go : A → List ℕ → Step B) → Numbered low high s → ((a : A) (xs : List ℕ) → Numbered low high (go a xs)) → Numbered low high (s then go)
  numbered_then (got a xs) go h f = f a xs
  numbered_then (fault n) go h f = h

  numbered-must : {A : Type 0} (ok : Bool) (n : ℕ) (s : Step A) → (low ≤ n) × (n ≤ high) → Numbered low high s → Numbered low high (must ok n s)
  numbered-must true n s h g = g
  numbered-must false n s h g = h

of_role : (role : Role) → (1 ≤ refusal_of role) × (refusal_of role ≤ 15)
of_role letter_byte = omega arith
of_role limit_byte = omega arith
of_role count_byte = omega arith
of_role (template_byte l v) = omega arith
of_role coefficient_byte = omega arith
of_role most_byte = omega arith

of_row : (role : Role) (before n : ℕ) (xs : List ℕ) → Numbered 1 15 (row role before n xs)
unfolding row
of_row role before zero xs = tt
of_row role before (suc n) [] = omega arith
of_row role before (suc n) (x ∷ xs) =
    numbered-must 1 15 (passes role before x) (refusal_of role) _ (of_role role)
    (numbered_then 1 15 (row role x n xs) (λ ys zs. got (x ∷ ys) zs) (of_row role x n xs) (λ ys zs. tt))

of_times : {A : Type 0} (one : List ℕ → Step A) → ((xs : List ℕ) → Numbered 1 15 (one xs)) → (n : ℕ) (xs : List ℕ) → Numbered 1 15 (times n one xs)
unfolding times
of_times one h zero xs = tt
of_times one h (suc n) xs =
    numbered_then 1 15 (one xs) (λ a ys. times n one ys then (λ more zs. got (a ∷ more) zs)) (h xs)
    (λ a ys. numbered_then 1 15 (times n one ys) (λ more zs. got (a ∷ more) zs) (of_times one h n ys) (λ more zs. tt))

of_equation : (l : ℕ) (limits xs : List ℕ) → Numbered 1 15 (an_equation l limits xs)
unfolding an_equation sides
of_equation l limits xs =
    numbered_then 1 15 (row count_byte 0 2 xs) _ (of_row count_byte 0 2 xs)
    (λ counts ys. numbered_then 1 15 (row (template_byte l (length limits)) 0 (get_or counts 0 0) ys) _ (of_row (template_byte l (length limits)) 0 (get_or counts 0 0) ys)
    (λ us zs. numbered_then 1 15 (row (template_byte l (length limits)) 0 (get_or counts 1 0) zs) _ (of_row (template_byte l (length limits)) 0 (get_or counts 1 0) zs)
    (λ ws rest. numbered-must 1 15 (leb (width limits (map symbol_of us)) 24) 14 _ (omega arith) (numbered-must 1 15 (leb (width limits (map symbol_of ws)) 24) 14 _ (omega arith) tt))))

of_constraint : (v : ℕ) (xs : List ℕ) → Numbered 1 15 (a_constraint v xs)
unfolding a_constraint
of_constraint v xs =
    numbered_then 1 15 (row coefficient_byte 0 v xs) _ (of_row coefficient_byte 0 v xs)
    (λ cs ys. numbered_then 1 15 (row most_byte 0 2 ys) _ (of_row most_byte 0 2 ys) (λ m zs. tt))

of_walk : (c : Counts) (xs : List ℕ) → Numbered 1 15 (walk c xs)
unfolding walk
of_walk c xs =
    numbered_then 1 15 (row letter_byte 0 c.letter_count xs) _ (of_row letter_byte 0 c.letter_count xs)
    (λ ls ys. numbered_then 1 15 (row limit_byte 0 c.field_count ys) _ (of_row limit_byte 0 c.field_count ys)
    (λ limits zs. numbered_then 1 15 (times c.equation_count (an_equation c.letter_count limits) zs) _ (of_times (an_equation c.letter_count limits) (of_equation c.letter_count limits) c.equation_count zs)
    (λ es us. numbered_then 1 15 (times c.constraint_count (a_constraint c.field_count) us) _ (of_times (a_constraint c.field_count) (of_constraint c.field_count) c.constraint_count us)
    (λ rs ws. tt))))

of_opening : (b : List ℕ) → Numbered 1 15 (opening b)
unfolding opening
of_opening b =
    numbered-must 1 15 (leb 9 (length b)) 1 _ (omega arith)
    (numbered-must 1 15 (starts_with mark b) 2 _ (omega arith)
    (numbered-must 1 15 (eqb (sixteen (byte b 3) (byte b 4)) 1) 3 _ (omega arith)
    (numbered-must 1 15 (between 1 8 (byte b 5)) 4 _ (omega arith)
    (numbered-must 1 15 (between 0 6 (byte b 6)) 5 _ (omega arith)
    (numbered-must 1 15 (between 1 4 (byte b 7)) 6 _ (omega arith)
    (numbered-must 1 15 (between 0 4 (byte b 8)) 7 _ (omega arith) tt))))))

of_ended : (s : Step Sheet) → Numbered 1 15 s → (n : ℕ) → reading_of (ended s) ≡ refused n → (1 ≤ n) × (n ≤ 15)
of_ended (got s []) h n e = let z : ◌≡◌ {A = ℕ} 0 1 = cc in absurd (omega arith)
of_ended (got s (x ∷ xs)) h n e = let k : 9 ≡ n = cc in omega arith
of_ended (fault m) h n e = let k : m ≡ n = cc in omega arith

pub refusal_numbers : (b : List ℕ) (n : ℕ) → reading b ≡ refused n → (1 ≤ n) × (n ≤ 15)
unfolding reading read
refusal_numbers b n e = of_ended (opening b then walk) (numbered_then 1 15 (opening b) walk (of_opening b) (λ c xs. of_walk c xs)) n e

-- A filling.
of_places : (l n k : ℕ) (xs : List ℕ) → Numbered 20 23 (places l n k xs)
unfolding places
of_places l n zero xs = tt
of_places l n (suc k) [] = omega arith
of_places l zero (suc k) (x ∷ xs) = numbered-must 20 23 (eqb x 255) 23 _ (omega arith) (of_places l zero k xs)
of_places l (suc n) (suc k) (x ∷ xs) =
    numbered-must 20 23 (ltb x l) 22 _ (omega arith) (numbered_then 20 23 (places l n k xs) _ (of_places l n k xs) (λ t ys. tt))

of_text : (l limit : ℕ) (xs : List ℕ) → Numbered 20 23 (a_text l limit xs)
unfolding a_text
of_text l limit [] = omega arith
of_text l limit (n ∷ xs) = numbered-must 20 23 (leb n limit) 21 _ (omega arith) (of_places l n 8 xs)

of_texts : (l : ℕ) (limits xs : List ℕ) → Numbered 20 23 (texts l limits xs)
unfolding texts
of_texts l [] xs = tt
of_texts l (limit ∷ limits) xs =
    numbered_then 20 23 (a_text l limit xs) _ (of_text l limit xs)
    (λ t ys. numbered_then 20 23 (texts l limits ys) _ (of_texts l limits ys) (λ ts zs. tt))

of_filling_lem : (s : Sheet) (m : List ℕ) → Numbered 20 23 (filling s m)
unfolding filling
of_filling_lem s m = numbered-must 20 23 (eqb (length m) (9 * length s.limits)) 20 _ (omega arith) (of_texts (length s.letters) s.limits m)

pub filling-numbers : (s : Sheet) (m : List ℕ) (n : ℕ) → filling s m ≡ fault n → (20 ≤ n) × (n ≤ 23)
filling-numbers s m n e = by_step (filling s m) (of_filling_lem s m) e
  where
    by_step : (w : Step Substitution) → Numbered 20 23 w → w ≡ fault n → (20 ≤ n) × (n ≤ 23)
    by_step (got g xs) h e = let z : ◌≡◌ {A = ℕ} 0 1 = cc in absurd (omega arith)
    by_step (fault k) h e = let z : k ≡ n = cc in omega arith

-- An answer that is finished, or whose refusal's number is not 0: after a test, and after reading a sheet.
abbrev pub NotZero : Answer → Type 0
NotZero (refused n) = 1 ≤ n
NotZero (finished values) = Unit

pub not_zero : (a : Answer) → NotZero a → (n : ℕ) → a ≡ refused n → 1 ≤ n
not_zero (refused k) h n e = let z : k ≡ n = cc in omega arith
not_zero (finished values) h n e = let z : ◌≡◌ {A = ℕ} 0 1 = cc in absurd (omega arith)

pub not_zero_require : (ok : Bool) (k : ℕ) (go : Answer) → 1 ≤ k → NotZero go → NotZero (require ok k go)
not_zero_require true k go h f = f
not_zero_require false k go h f = h

pub not_zero_sheet : (b : List ℕ) (go : Sheet → Answer) → ((s : Sheet) → NotZero (go s)) → NotZero (of_sheet (read b) go)
unfolding reading
not_zero_sheet b go f = by_sheet (read b) (λ k h. (refusal_numbers b k h).0)
  where
    by_sheet : (r : Reading) → ((k : ℕ) → reading_of r ≡ refused k → 1 ≤ k) → NotZero (of_sheet r go)
    by_sheet (sheet.refused k) h = h k refl
    by_sheet (sheet.accepted s) h = f s

-- Spelling, counting and writing a line are such.
module _ (b : List ℕ) (p side : ℕ) (m : List ℕ) (room : ℕ) where
  spelling_of_lem : (s : Sheet) (w : Step Substitution) → Numbered 20 23 w → NotZero (of_filling w (λ g. require (leb (length (spelled_text s p side g)) room) 26 (finished (spelled_text s p side g))))
  spelling_of_lem s (fault k) h = omega arith
  spelling_of_lem s (got g xs) h = not_zero_require (leb (length (spelled_text s p side g)) room) 26 _ (omega arith) tt

  pub spelling-refused : (n : ℕ) → spelling b p side m room ≡ refused n → 1 ≤ n
  unfolding spelling spelling_of
  spelling-refused = not_zero (spelling b p side m room) (not_zero_sheet b _ (λ s.
      not_zero_require (ltb p (length s.equations)) 24 _ (omega arith)
      (not_zero_require (leb side 1) 25 _ (omega arith) (spelling_of_lem s (filling s m) (of_filling_lem s m)))))

pub counting-refused : (b : List ℕ) (n : ℕ) → counting b ≡ refused n → 1 ≤ n
unfolding counting
counting-refused b = not_zero (counting b) (not_zero_sheet b _ (λ s. tt))

pub writing-refused : (b : List ℕ) (k room n : ℕ) → writing b k room ≡ refused n → 1 ≤ n
unfolding writing writing_of
writing-refused b k room = not_zero (writing b k room) (not_zero_sheet b _ (λ s.
    not_zero_require (leb k (length (ids s))) 28 _ (omega arith)
    (not_zero_require (leb (length (line s k)) room) 29 _ (omega arith) tt)))

-- Checking answers 1; 0 and more numbers; or a refusal whose number is not 0.
module _ {P : Type 0} (b m : List ℕ) (clash : checking b m ≡ finished (1 ∷ []) → P) (none : (why : List ℕ) → checking b m ≡ finished (0 ∷ why) → P) (not-read : (n : ℕ) → checking b m ≡ refused n → 1 ≤ n → P) where
  by_judgement : (j : Judgement) → checking b m ≡ finished (judgement_values j) → P
  by_judgement solution e = clash e
  by_judgement (differs p agree side rest) e = none _ e
  by_judgement (breaks r) e = none _ e

  by_filling : (s : Sheet) (w : Step Substitution) → Numbered 20 23 w → checking b m ≡ of_filling w (λ g. finished (judgement_values (judged s g))) → P
  by_filling s (got g xs) h e = by_judgement (judged s g) e
  by_filling s (fault n) h e = not-read n e (omega arith)

  by_reading : (r : Reading) → ((n : ℕ) → reading_of r ≡ refused n → 1 ≤ n) → checking b m ≡ of_sheet r (λ s. of_filling (filling s m) (λ g. finished (judgement_values (judged s g)))) → P
  by_reading (sheet.accepted s) h e = by_filling s (filling s m) (of_filling_lem s m) e
  by_reading (sheet.refused n) h e = not-read n e (h n refl)

  pub checking_cases : P
  unfolding checking reading
  checking_cases = by_reading (read b) (λ n h. (refusal_numbers b n h).0) refl
