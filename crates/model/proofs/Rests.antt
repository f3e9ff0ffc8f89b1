-- What is left after each part of the walk, without the values: what callers that read byte by byte need of each definition. Assumes nothing.
use mathlib.Core.Path.{◌≡◌, refl, sym, ap, ◌∙◌}
use mathlib.Core.Bool.{Bool, true, false}
use mathlib.Core.List.{List, ◌∷◌, map}
use Prim.Native.Nat.{ℕ, zero, suc, ◌+◌, ◌-◌, ◌<◌}
use native.Mathlib.Omega.{arith}
use lib.Dec.{leb}
use lib.ListN.{length, get_or, take, drop}
use lib.Seq.{take_at, drop_at, get_or-take}
use Rattle.model.specs.Sheet.{Equation, Constraint, Step, got, fault, rest, ◌then◌, must, Role, letter_byte, limit_byte, count_byte, template_byte, coefficient_byte, most_byte, row, times, sides, an_equation, a_constraint, symbol_of, width, Counts, walk}
use Rattle.model.proofs.Steps.{no-fault, got-rest, went}
use Rattle.model.proofs.Rows.{row_exact}

-- a step that only wraps what was got
pub rest_wrapped : {A B : Type 0} (s : Step A) (f : A → B) → rest (s then (λ a zs. got (f a) zs)) ≡ rest s
rest_wrapped (got a zs) f = refl
rest_wrapped (fault n) f = refl

-- One part after another.
module _ {A B : Type 0} where
  pub rest_stops : (s : Step A) (go : A → List ℕ → Step B) {n : ℕ} → rest s ≡ fault n → rest (s then go) ≡ fault n
  rest_stops (got a xs) go h = let z : ◌≡◌ {A = ℕ} 0 1 = cc in absurd (omega arith)
  rest_stops (fault k) go h = cc

  pub rest_goes : (s : Step A) (go : List ℕ → Step B) {ys : List ℕ} → rest s ≡ got tt ys → rest (s then (λ a zs. go zs)) ≡ rest (go ys)
  rest_goes (got a xs) go h = ap (λ l. rest (go l)) (got-rest h)
  rest_goes (fault k) go h = no-fault h

  pub rest-same : {C : Type 0} (s : Step A) (f : A → List ℕ → Step B) (g : A → List ℕ → Step C) → ((a : A) (xs : List ℕ) → rest (f a xs) ≡ rest (g a xs)) → rest (s then f) ≡ rest (s then g)
  rest-same (got a xs) f g h = h a xs
  rest-same (fault k) f g h = refl

-- what was got where something is left
pub record Found {A : Type 0} (s : Step A) (ys : List ℕ) : Type 0 where
  pub value : A
  pub is : s ≡ got value ys

pub found : {A : Type 0} (s : Step A) {ys : List ℕ} → rest s ≡ got tt ys → Found s ys
found (got a xs) h = record { value = a; is = ap (got a) (got-rest h) }
found (fault k) h = no-fault h

-- a row that is read is the bytes that stand there
pub row-value : (role : Role) (before n : ℕ) (xs : List ℕ) {us ys : List ℕ} → row role before n xs ≡ got us ys → us ≡ take n xs
row-value role before n xs {us} {ys} h =
    let r = row_exact role before n xs h in
    sym (ap (take n) r.bytes ∙ take_at us ys n r.count)

-- A constraint.
pub constraint-rest : (v : ℕ) (xs : List ℕ) → rest (a_constraint v xs) ≡ rest (row coefficient_byte 0 v xs then (λ cs ys. row most_byte 0 2 ys))
unfolding a_constraint
constraint-rest v xs =
    rest-same (row coefficient_byte 0 v xs) _ (λ cs ys. row most_byte 0 2 ys) (λ cs ys. rest_wrapped (row most_byte 0 2 ys) _)

-- An equation.
module _ (l v : ℕ) (limits : List ℕ) (counted : length limits ≡ v) (m n : ℕ) (xs : List ℕ) where
  pub left_stops : {k : ℕ} → rest (row (template_byte l v) 0 m xs) ≡ fault k → rest (sides l limits m n xs) ≡ fault k
  unfolding sides
  left_stops h = rest_stops (row (template_byte l (length limits)) 0 m xs) _ (rw counted h)

  module _ (ys : List ℕ) (a : rest (row (template_byte l v) 0 m xs) ≡ got tt ys) where
    pub right_stops : {k : ℕ} → rest (row (template_byte l v) 0 n ys) ≡ fault k → rest (sides l limits m n xs) ≡ fault k
    unfolding sides
    right_stops h =
        let u = found (row (template_byte l v) 0 m xs) a in
        rw (counted, u.is) (rest_stops (row (template_byte l v) 0 n ys) _ h)

    pub both_read : (zs : List ℕ) → rest (row (template_byte l v) 0 n ys) ≡ got tt zs → rest (sides l limits m n xs) ≡ must (leb (width limits (map symbol_of (take m xs))) 24) 14 (must (leb (width limits (map symbol_of (take n ys))) 24) 14 (got tt zs))
    unfolding sides
    both_read zs h =
        let u = found (row (template_byte l v) 0 m xs) a in
        let w = found (row (template_byte l v) 0 n ys) h in
        rw (counted, u.is, w.is, row-value (template_byte l v) 0 m xs u.is, row-value (template_byte l v) 0 n ys w.is)
        (widths (record { left = map symbol_of (take m xs); right = map symbol_of (take n ys) }) (leb (width limits (map symbol_of (take m xs))) 24) (leb (width limits (map symbol_of (take n ys))) 24))
      where
        widths : (e : Equation) (p q : Bool) → rest (must p 14 (must q 14 (got e zs))) ≡ must p 14 (must q 14 (got tt zs))
        widths e true true = refl
        widths e true false = refl
        widths e false q = refl

module _ (l : ℕ) (limits xs : List ℕ) where
  pub counts_stop : {k : ℕ} → rest (row count_byte 0 2 xs) ≡ fault k → rest (an_equation l limits xs) ≡ fault k
  unfolding an_equation
  counts_stop h = rest_stops (row count_byte 0 2 xs) _ h

  pub counts_read : (ys : List ℕ) → rest (row count_byte 0 2 xs) ≡ got tt ys → rest (an_equation l limits xs) ≡ rest (sides l limits (get_or xs 0 0) (get_or xs 1 0) ys)
  unfolding an_equation
  counts_read ys h =
      let c = found (row count_byte 0 2 xs) h in
      rw (c.is, row-value count_byte 0 2 xs c.is, get_or-take 2 xs 0 0 (omega arith), get_or-take 2 xs 1 0 (omega arith))

-- Several entries: what is left of them from each turn on. The values play no part in it.
module _ {A : Type 0} (one : List ℕ → Step A) where
  abbrev valueless : List ℕ → Step Unit
  valueless xs = rest (one xs)

  each-rest : (n : ℕ) (s : Step A) → ((ys : List ℕ) → rest (times n one ys) ≡ rest (times n valueless ys)) → rest (s then (λ a ys. times n one ys then (λ more zs. got (a ∷ more) zs))) ≡ rest (rest s then (λ a ys. times n valueless ys then (λ more zs. got (a ∷ more) zs)))
  each-rest n (got a ys) h =
      rest_wrapped (times n one ys) (λ more. a ∷ more) ∙ h ys ∙ sym (rest_wrapped (times n valueless ys) (λ more. tt ∷ more))
  each-rest n (fault k) h = refl

  pub times-rest : (n : ℕ) (xs : List ℕ) → rest (times n one xs) ≡ rest (times n (λ ys. rest (one ys)) xs)
  unfolding times
  times-rest zero xs = refl
  times-rest (suc n) xs = each-rest n (one xs) (times-rest n)

module _ (one : List ℕ → Step Unit) (n i : ℕ) (xs : List ℕ) where
  pub times_starts : i ≡ 0 → rest (times n one xs) ≡ rest (times (n - i) one xs)
  times_starts e = let m : n ≡ n - i = omega arith in ap (λ k. rest (times k one xs)) m

  pub times_goes : i < n → (ys : List ℕ) → one xs ≡ got tt ys → rest (times (n - i) one xs) ≡ rest (times (n - (i + 1)) one ys)
  unfolding times
  times_goes h ys e =
      let m : n - i ≡ suc (n - (i + 1)) = omega arith in
      rw (m, e) (rest_wrapped (times (n - (i + 1)) one ys) (λ more. tt ∷ more))

  pub times_stops : i < n → {k : ℕ} → one xs ≡ fault k → rest (times (n - i) one xs) ≡ fault k
  unfolding times
  times_stops h e = let m : n - i ≡ suc (n - (i + 1)) = omega arith in rw (m, e)

  pub times_done : i ≡ n → rest (times (n - i) one xs) ≡ got tt xs
  unfolding times
  times_done e = let m : n - i ≡ 0 = omega arith in rw m

-- The whole walk: after the letters and the limits, whose value is the limits.
rest_assoc : {A B C D : Type 0} (s : Step A) (f : A → List ℕ → Step B) (k : A → B → List ℕ → Step C) (g : B → List ℕ → Step D) → ((a : A) (b : B) (zs : List ℕ) → rest (k a b zs) ≡ rest (g b zs)) → rest (s then (λ a ys. f a ys then k a)) ≡ rest ((s then f) then g)
rest_assoc (got a ys) f k g h = rest-same (f a ys) (k a) g (h a)
rest_assoc (fault n) f k g h = refl

abbrev pub tables : ℕ → ℕ → List ℕ → Step (List ℕ)
tables l v xs = row letter_byte 0 l xs then (λ ls ys. row limit_byte 0 v ys)

tables_value : (l v : ℕ) (xs : List ℕ) {limits ys : List ℕ} → tables l v xs ≡ got limits ys → limits ≡ take v (drop l xs)
tables_value l v xs h =
    let g = went (row letter_byte 0 l xs) (λ ls ys. row limit_byte 0 v ys) h in
    let r = row_exact letter_byte 0 l xs g.first in
    row-value limit_byte 0 v g.rest g.second ∙ ap (take v) (sym (ap (drop l) r.bytes ∙ drop_at g.value g.rest l r.count))

-- the equations and the constraints
abbrev pub entries_after : Counts → List ℕ → List ℕ → Step (List Constraint)
entries_after c limits ys =
    times c.equation_count (an_equation c.letter_count limits) ys then (λ es zs. times c.constraint_count (a_constraint c.field_count) zs)

module _ (c : Counts) (xs : List ℕ) where
  walk-rest : rest (walk c xs) ≡ rest (tables c.letter_count c.field_count xs then entries_after c)
  unfolding walk
  walk-rest =
      rest_assoc (row letter_byte 0 c.letter_count xs) (λ ls ys. row limit_byte 0 c.field_count ys) _ (entries_after c)
      (λ ls limits ys. rest-same (times c.equation_count (an_equation c.letter_count limits) ys) _ (λ es zs. times c.constraint_count (a_constraint c.field_count) zs)
      (λ es zs. rest_wrapped (times c.constraint_count (a_constraint c.field_count) zs) _))

  pub walk_stops : {k : ℕ} → rest (tables c.letter_count c.field_count xs) ≡ fault k → rest (walk c xs) ≡ fault k
  walk_stops h = walk-rest ∙ rest_stops (tables c.letter_count c.field_count xs) (entries_after c) h

  pub walk_goes : (ys : List ℕ) → rest (tables c.letter_count c.field_count xs) ≡ got tt ys → rest (walk c xs) ≡ rest (entries_after c (take c.field_count (drop c.letter_count xs)) ys)
  walk_goes ys h =
      let f = found (tables c.letter_count c.field_count xs) h in
      walk-rest ∙ rw (f.is, tables_value c.letter_count c.field_count xs f.is)
