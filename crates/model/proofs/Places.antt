-- Where an accepted sheet's parts stand in its bytes.
-- All of it is read off `encode`, one section after another. Assumes nothing.
use mathlib.Core.Path.{◌≡◌, refl, sym, ap, subst, ◌∙◌}
use mathlib.Core.List.{List, [], ◌∷◌, ◌++◌, map, append_assoc, append-nil}
use Prim.Native.Nat.{ℕ, zero, suc, ◌+◌, ◌*◌, ◌/◌, ◌%◌, ◌<◌, ◌≤◌}
use native.Mathlib.Nat.{suc-mul, add-zero}
use native.Mathlib.Numerals.{add-one}
use native.Mathlib.Omega.{arith}
use lib.IntN.{pos, nat_abs}
use lib.ListN.{length, get_or, take, drop, length-append, length-drop, length-map, drop_of_length-le, get_or-append, get_or-map}
use lib.Seq.{take_at, drop_at, drop-drop, drop-cons, get_or-drop}
use Rattle.model.specs.Lists.{each, All, Holds, Bytes}
use Rattle.model.specs.Sheet.{Equation, Constraint, Sheet, constraint, coefficient, signed8, signed16, unsigned, symbol_byte, byte, header, counts_at, counts_of, bytes_of, encode_equation, encode_constraint, encode, Accepted, sheet_of}
use Rattle.model.specs.Range.{ConstraintIn}
use Rattle.model.proofs.Lists.{weaken, at}
use Rattle.model.proofs.Signed.{signed-unsigned, sixteen_bytes, signed16_out, small_signed}
use Rattle.model.proofs.Known.{accepted_bytes, accepted_in_range}

module _ {b : List ℕ} {k : ℕ} where
  pub holds_fits : (xs : List ℕ) → Holds b k xs → k + length xs ≤ length b
  holds_fits xs h =
      let n = ap length h.is ∙ length-append xs h.others in
      let m = length-drop k b in
      let i = h.inside in
      omega arith

  pub holds_at_lem : (xs : List ℕ) (i : ℕ) → Holds b k xs → i < length xs → get_or b (k + i) 0 ≡ get_or xs i 0
  holds_at_lem xs i h l = sym (get_or-drop k b i 0) ∙ ap (λ l. get_or l i 0) h.is ∙ get_or-append xs h.others 0 i l

  pub holds-take : (xs : List ℕ) → Holds b k xs → take (length xs) (drop k b) ≡ xs
  holds-take xs h = ap (take (length xs)) h.is ∙ take_at xs h.others (length xs) refl

  pub holds-first : (xs ys : List ℕ) → Holds b k (xs ++ ys) → Holds b k xs
  holds-first xs ys h = record { others = ys ++ h.others; is = h.is ∙ append_assoc xs ys h.others; inside = h.inside }

  pub holds_next : (xs ys : List ℕ) → Holds b k (xs ++ ys) → Holds b (k + length xs) ys
  holds_next xs ys h = record {
    others = h.others;
    is = sym (drop-drop (length xs) k b) ∙ ap (drop (length xs)) (h.is ∙ append_assoc xs ys h.others) ∙ drop_at xs (ys ++ h.others) (length xs) refl;
    inside = let f = holds_fits xs (holds-first xs ys h) in omega arith;
  }

pub holds-from : {b : List ℕ} {j k : ℕ} {xs : List ℕ} → j ≡ k → Holds b j xs → Holds b k xs
holds-from {b} {xs = xs} e h = subst (λ n. Holds b n xs) e h

-- one of several, and those after it
pub each_at : {A : Type 0} (xs : List A) (f : A → List ℕ) (i : ℕ) (d : A) → i < length xs → each (drop i xs) f ≡ f (get_or xs i d) ++ each (drop (i + 1) xs) f
unfolding each
each_at xs f i d h = rw (add-one, drop-cons xs i d)

module _ (b : List ℕ) (y : Bytes b) (h : Accepted b) where
  abbrev entries_of : Sheet → List ℕ
  entries_of s = each s.equations encode_equation ++ each s.constraints encode_constraint

  whole : Holds b 0 (header (counts_of (sheet_of b)) ++ ((sheet_of b).letters ++ ((sheet_of b).limits ++ entries_of (sheet_of b))))
  unfolding encode
  whole = record { others = []; is = accepted_bytes b y h ∙ sym (append-nil _); inside = omega arith }

  -- the header's counts
  opens : Holds b 0 (header (counts_of (sheet_of b)))
  opens = holds-first (header (counts_of (sheet_of b))) _ whole

  pub header-fits : 9 ≤ length b
  header-fits = let f = holds_fits (header (counts_of (sheet_of b))) opens in omega arith

  pub letter-count-at : byte b 5 ≡ length (sheet_of b).letters
  letter-count-at = holds_at_lem (header (counts_of (sheet_of b))) 5 opens (omega arith)

  pub field-count-at : byte b 6 ≡ length (sheet_of b).limits
  field-count-at = holds_at_lem (header (counts_of (sheet_of b))) 6 opens (omega arith)

  pub equation-count-at : byte b 7 ≡ length (sheet_of b).equations
  equation-count-at = holds_at_lem (header (counts_of (sheet_of b))) 7 opens (omega arith)

  constraint-count-at : byte b 8 ≡ length (sheet_of b).constraints
  constraint-count-at = holds_at_lem (header (counts_of (sheet_of b))) 8 opens (omega arith)

  -- all four
  pub counts_at_lem : counts_at b ≡ counts_of (sheet_of b)
  counts_at_lem = let l = letter-count-at in let v = field-count-at in let e = equation-count-at in let r = constraint-count-at in cc

  -- letters, limits, equations and constraints
  after_header : Holds b 9 ((sheet_of b).letters ++ ((sheet_of b).limits ++ entries_of (sheet_of b)))
  after_header = holds_next (header (counts_of (sheet_of b))) _ whole

  pub holds-letters : Holds b 9 (sheet_of b).letters
  holds-letters = holds-first (sheet_of b).letters _ after_header

  after_letters : Holds b (9 + length (sheet_of b).letters) ((sheet_of b).limits ++ entries_of (sheet_of b))
  after_letters = holds_next (sheet_of b).letters _ after_header

  pub holds_limits : Holds b (9 + length (sheet_of b).letters) (sheet_of b).limits
  holds_limits = holds-first (sheet_of b).limits _ after_letters

  pub holds_entries : Holds b (9 + length (sheet_of b).letters + length (sheet_of b).limits) (each (sheet_of b).equations encode_equation ++ each (sheet_of b).constraints encode_constraint)
  holds_entries = holds_next (sheet_of b).limits _ after_letters

-- An equation's bytes: its two counts, and its two templates.
pub record EquationAt (b : List ℕ) (k : ℕ) (e : Equation) : Type 0 where
  pub left_count : get_or b k 0 ≡ length e.left
  pub right_count : get_or b (k + 1) 0 ≡ length e.right
  pub holds_left : Holds b (k + 2) (map symbol_byte e.left)
  pub holds_right : Holds b (k + 2 + length e.left) (map symbol_byte e.right)
  pub fits : k + 2 + length e.left + length e.right ≤ length b

equation-at : (b : List ℕ) (k : ℕ) (e : Equation) → Holds b k (encode_equation e) → EquationAt b k e
equation-at b k e h =
    let l = map symbol_byte e.left in
    let r = map symbol_byte e.right in
    let counts : List ℕ = length e.left ∷ length e.right ∷ [] in
    let both = holds_next counts (l ++ r) h in
    let right = holds-from (ap (λ n. k + 2 + n) (length-map e.left symbol_byte)) (holds_next l r both) in
    let m = length-map e.left symbol_byte in
    let n = length-map e.right symbol_byte in
    let f = holds_fits r right in
    record {
      left_count = ap (λ j. get_or b j 0) (sym (add-zero k)) ∙ holds_at_lem (encode_equation e) 0 h (omega arith);
      right_count = holds_at_lem (encode_equation e) 1 h (omega arith);
      holds_left = holds-first l r both;
      holds_right = right;
      fits = omega arith;
    }

-- the equation at hand, and where the next one starts
module _ (b : List ℕ) (k i : ℕ) (es : List Equation) (others : List ℕ) (h : i < length es) (now : Holds b k (each (drop i es) encode_equation ++ others)) where
  here : Holds b k (encode_equation (get_or es i (record { left = []; right = [] })) ++ (each (drop (i + 1) es) encode_equation ++ others))
  here =
      let e = each_at es encode_equation i (record { left = []; right = [] }) h in
      subst (Holds b k) (ap (λ l. l ++ others) e ∙ append_assoc (encode_equation (get_or es i (record { left = []; right = [] }))) (each (drop (i + 1) es) encode_equation) others) now

  pub this_equation : EquationAt b k (get_or es i (record { left = []; right = [] }))
  this_equation = equation-at b k (get_or es i (record { left = []; right = [] })) (holds-first (encode_equation (get_or es i (record { left = []; right = [] }))) _ here)

  pub next_equation : Holds b (k + 2 + length (get_or es i (record { left = []; right = [] })).left + length (get_or es i (record { left = []; right = [] })).right) (each (drop (i + 1) es) encode_equation ++ others)
  next_equation =
      let e : Equation = get_or es i (record { left = []; right = [] }) in
      let n = length-append (map symbol_byte e.left) (map symbol_byte e.right) in
      let l = length-map e.left symbol_byte in
      let r = length-map e.right symbol_byte in
      let size : k + length (encode_equation e) ≡ k + 2 + length e.left + length e.right = omega arith in
      holds-from size (holds_next (encode_equation e) _ here)

-- Several of one size: the i-th stands i sizes further on.
pub holds_even : {A : Type 0} (f : A → List ℕ) (w : ℕ) (b : List ℕ) (k : ℕ) (xs : List A) (i : ℕ) → All (λ x. length (f x) ≡ w) xs → i ≤ length xs → Holds b k (each xs f) → Holds b (k + i * w) (each (drop i xs) f)
unfolding each All
holds_even f w b k xs zero a l h = holds-from (omega arith) h
holds_even f w b k [] (suc i) a l h = absurd (omega arith)
holds_even f w b k (x ∷ xs) (suc i) a l h =
    let s = a.0 in
    let e = suc-mul i w in
    let n : k + length (f x) + i * w ≡ k + suc i * w = omega arith in
    holds-from n (holds_even f w b (k + length (f x)) xs i a.1 (omega arith) (holds_next (f x) (each xs f) h))

-- A constraint's bytes: its coefficients, and its limit.
pub record ConstraintAt (v : ℕ) (b : List ℕ) (k : ℕ) (r : Constraint) : Type 0 where
  pub coefficient_at : (f : ℕ) → f < v → signed8 (get_or b (k + f) 0) ≡ coefficient r f
  pub most_at : signed16 (get_or b (k + v) 0) (get_or b (k + v + 1) 0) ≡ r.most
  pub fits : k + v + 2 ≤ length b

module _ (v : ℕ) (b : List ℕ) (k : ℕ) (r : Constraint) (ok : ConstraintIn v r) (h : Holds b k (encode_constraint r)) where
  coefficients-there : Holds b k (map (unsigned 128) r.coefficients)
  coefficients-there = holds-first (map (unsigned 128) r.coefficients) _ h

  most-there : Holds b (k + v) (bytes_of (unsigned 32768 r.most))
  most-there =
      holds-from (ap (λ n. k + n) (length-map r.coefficients (unsigned 128) ∙ ok.one_each)) (holds_next (map (unsigned 128) r.coefficients) _ h)

  one_coefficient : (f : ℕ) → f < v → get_or b (k + f) 0 ≡ unsigned 128 (coefficient r f)
  unfolding unsigned
  one_coefficient f l =
      holds_at_lem (map (unsigned 128) r.coefficients) f coefficients-there (omega (arith, length-map r.coefficients (unsigned 128), ok.one_each))
      ∙ get_or-map (unsigned 128) r.coefficients f (pos 0)

  pub constraint-at : ConstraintAt v b k r
  constraint-at =
      let n = unsigned 32768 r.most in
      let high : get_or b (k + v) 0 ≡ n / 256 = ap (λ j. get_or b j 0) (sym (add-zero (k + v))) ∙ holds_at_lem (bytes_of n) 0 most-there (omega arith) in
      let low : get_or b (k + v + 1) 0 ≡ n % 256 = holds_at_lem (bytes_of n) 1 most-there (omega arith) in
      record {
        coefficient_at = λ f l.
            let small = at (λ c. nat_abs c ≤ 4) r.coefficients f (pos 0) ok.small (omega (arith, ok.one_each)) in
            ap signed8 (one_coefficient f l) ∙ signed-unsigned 128 (coefficient r f) (small_signed (coefficient r f) small);
        most_at = rw (high, low, sixteen_bytes n) (signed-unsigned 32768 r.most (signed16_out r.most ok.most_in));
        fits = let f = holds_fits (bytes_of n) most-there in omega arith;
      }

-- the i-th of a sheet's constraints
pub this_constraint : (b : List ℕ) (v k i : ℕ) (rs : List Constraint) → All (ConstraintIn v) rs → i < length rs → Holds b k (each rs encode_constraint) → Holds b (k + i * (v + 2)) (encode_constraint (get_or rs i (record { coefficients = []; most = pos 0 })))
this_constraint b v k i rs ok l h =
    let none : Constraint = record { coefficients = []; most = pos 0 } in
    let even = holds_even encode_constraint (v + 2) b k rs i (weaken (ConstraintIn v) (λ c. length (encode_constraint c) ≡ v + 2) rs size ok) (omega arith) h in
    holds-first (encode_constraint (get_or rs i none)) _ (subst (Holds b (k + i * (v + 2))) (each_at rs encode_constraint i none l) even)
  where
    size : (c : Constraint) → ConstraintIn v c → length (encode_constraint c) ≡ v + 2
    size c q = length-append (map (unsigned 128) c.coefficients) (bytes_of (unsigned 32768 c.most)) ∙ ap (λ n. n + 2) (length-map c.coefficients (unsigned 128) ∙ q.one_each)

-- past the last equation stand the constraints
pub past-equations : (b : List ℕ) (k i : ℕ) (es : List Equation) (others : List ℕ) → length es ≤ i → Holds b k (each (drop i es) encode_equation ++ others) → Holds b k others
unfolding each
past-equations b k i es others l h = subst (λ xs. Holds b k (each xs encode_equation ++ others)) (drop_of_length-le es l) h

-- what an accepted sheet's constraint keeps to
pub constraint_in : (b : List ℕ) → Bytes b → Accepted b → (i : ℕ) → i < length (sheet_of b).constraints → ConstraintIn (length (sheet_of b).limits) (constraint (sheet_of b) i)
constraint_in b y h i l = at _ (sheet_of b).constraints i _ (accepted_in_range b y h).constraints_in l
