-- Reading is right. `read-encode`: the bytes of a sheet within the ranges are read as that sheet. `accepted-encode`: accepted
-- bytes are those of their sheet, which is within the ranges. `read_prefix`: the first 160 bytes decide.
-- The walk is put together from its sections, each of which gives its bytes back and takes a bounded number. Assumes nothing.
use mathlib.Core.Path.{◌≡◌, refl, sym, ap, subst, ◌∙◌}
use mathlib.Core.Bool.{true}
use mathlib.Core.List.{List, [], ◌∷◌, ◌++◌, map, append-nil}
use Prim.Native.Nat.{ℕ, zero, suc, ◌+◌, ◌*◌, ◌≤◌}
use native.Mathlib.Omega.{arith}
use native.Mathlib.Nat.{mul-le-mul}
use lib.Dec.{leb}
use lib.ListN.{length, get_or, take}
use Rattle.model.specs.Lists.{each, All, Bytes}
use Rattle.model.specs.Sheet.{Sheet, width, symbol_of, Step, got, fault, ◌then◌, letter_byte, limit_byte, count_byte, template_byte, coefficient_byte, most_byte, row, times, sides, an_equation, a_constraint, Counts, opening, walk, accepted, ended, read, counts_of, encode_equation, encode_constraint, header, encode}
use Rattle.model.specs.Range.{EquationIn, ConstraintIn, CountsIn, InRange}
use Rattle.model.proofs.Steps.{same-got, went, longer, Within, within-got, within_more, within-must, within_then, within-times, prefix_decides}
use Rattle.model.proofs.Rows.{all_pass, row_reads, row_exact, within-row}
use Rattle.model.proofs.Faithful.{rest_bytes, Several, times_reads, times_exact}
use Rattle.model.proofs.Opening.{opening_reads, opening_exact, within-opening}
use Rattle.model.proofs.Sections.{letters_pass, letters-rise, letters_in_range, limits_pass, limits_in_range, two, counts_out, equation_exact, equation_faithful, constraint_faithful}

-- How many bytes each part takes at most.
within-equation : (l : ℕ) (limits : List ℕ) → Within 26 (an_equation l limits)
unfolding an_equation sides
within-equation l limits =
    within_then 2 24 (row count_byte 0 2) _ (within-row count_byte 0 2)
    (λ xs counts zs e.
    let c = row_exact count_byte 0 2 xs e in
    let n = counts_out (get_or counts 0 0) (get_or counts 1 0) (rw (two counts c.count) at c.pass) in
    within_then 12 12 (row (template_byte l (length limits)) 0 (get_or counts 0 0)) _ (within_more (within-row (template_byte l (length limits)) 0 _) n.0)
    (λ xs us zs e. within_more
    (within_then 12 0 (row (template_byte l (length limits)) 0 (get_or counts 1 0)) _ (within_more (within-row (template_byte l (length limits)) 0 _) n.1)
    (λ xs ws zs e. within-must (leb (width limits (map symbol_of us)) 24) 14 (within-must (leb (width limits (map symbol_of ws)) 24) 14 (within-got _))))
    (omega arith)))

within-constraint : (v : ℕ) → Within (v + 2) (a_constraint v)
unfolding a_constraint
within-constraint v =
    within_then v 2 (row coefficient_byte 0 v) _ (within-row coefficient_byte 0 v)
    (λ xs cs zs e. within_more (within_then 2 0 (row most_byte 0 2) _ (within-row most_byte 0 2) (λ xs m zs e. within-got _)) (omega arith))

-- a walk takes at most 150 bytes: 8 letters, 6 limits, 4 equations of 26 and 4 constraints of 8
within-walk : (c : Counts) → CountsIn c → Within 150 (walk c)
unfolding walk
within-walk c h =
    let l = c.letter_count in
    let v = c.field_count in
    let e = c.equation_count in
    let r = c.constraint_count in
    let k : v + 2 ≤ 8 = omega (arith, h.of_fields) in
    let g : r * (v + 2) ≤ 4 * 8 = mul-le-mul h.of_constraints k in
    within_more
    (within_then l _ (row letter_byte 0 l) _ (within-row letter_byte 0 l)
    (λ xs ls zs _. within_then v _ (row limit_byte 0 v) _ (within-row limit_byte 0 v)
    (λ xs limits zs _. within_then (e * 26) _ (times e (an_equation l limits)) _ (within-times 26 (an_equation l limits) (within-equation l limits) e)
    (λ xs es zs _. within_then (r * (v + 2)) 0 (times r (a_constraint v)) _ (within-times (v + 2) (a_constraint v) (within-constraint v) r)
    (λ xs rs zs _. within-got _)))))
    (omega (arith, h.of_letters.1, h.of_fields, h.of_equations.1, g))

-- A bounded prefix decides.
longer_ended : (ys : List ℕ) (s : Step Sheet) → ((a : Sheet) (zs : List ℕ) → s ≡ got a zs → 1 ≤ length zs) → ended (longer ys s) ≡ ended s
longer_ended ys (got a []) h = absurd (let z = h a [] refl in omega arith)
longer_ended ys (got a (z ∷ zs)) h = refl
longer_ended ys (fault n) h = refl

within-read : Within 159 (λ b. opening b then walk)
within-read = within_then 9 150 opening walk within-opening (λ b c zs e. within-walk c (opening_exact b e).counts_in)

read_longer : (xs ys : List ℕ) → 160 ≤ length xs → read (xs ++ ys) ≡ read xs
unfolding read
read_longer xs ys h =
    ap ended (within-read.local xs ys (omega arith))
    ∙ longer_ended ys (opening xs then walk) (λ a zs e. let k = within-read.spends xs e in omega arith)

pub read_prefix : (b : List ℕ) → read b ≡ read (take 160 b)
read_prefix = prefix_decides read 160 read_longer

-- The bytes of a sheet are read as that sheet.
module _ (s : Sheet) (ok : InRange s) where
  small : length s.letters ≤ 128
  small = omega (arith, ok.counts_in.of_letters)

  walk_reads : walk (counts_of s) (s.letters ++ (s.limits ++ (each s.equations encode_equation ++ each s.constraints encode_constraint))) ≡ got s []
  unfolding walk
  walk_reads =
      rw (
        row_reads letter_byte 0 s.letters (s.limits ++ (each s.equations encode_equation ++ each s.constraints encode_constraint)) (letters_pass 0 s.letters ok.letters_in ok.rising),
        row_reads limit_byte 0 s.limits (each s.equations encode_equation ++ each s.constraints encode_constraint) (limits_pass s.limits ok.limits_in),
        times_reads (an_equation (length s.letters) s.limits) encode_equation _ (equation_faithful (length s.letters) s.limits small) s.equations (each s.constraints encode_constraint) ok.equations_in,
        ap (times (length s.constraints) (a_constraint (length s.limits))) (sym (append-nil (each s.constraints encode_constraint))) ∙ times_reads (a_constraint (length s.limits)) encode_constraint _ (constraint_faithful (length s.limits)) s.constraints [] ok.constraints_in,
      )

  pub read-encode : read (encode s) ≡ accepted s
  unfolding read encode
  read-encode =
      rw (opening_reads (counts_of s) (s.letters ++ (s.limits ++ (each s.equations encode_equation ++ each s.constraints encode_constraint))) ok.counts_in, walk_reads)

-- Accepted bytes are those of their sheet.
pub ended-accepted : (st : Step Sheet) {s : Sheet} → ended st ≡ accepted s → st ≡ got s []
ended-accepted (got a []) h = cc
ended-accepted (got a (z ∷ zs)) h = absurd (let z : ◌≡◌ {A = ℕ} 0 1 = cc in omega arith)
ended-accepted (fault n) h = absurd (let z : ◌≡◌ {A = ℕ} 0 1 = cc in omega arith)

-- What a walk got in each section.
record Stages (c : Counts) (xs : List ℕ) (s : Sheet) (zs : List ℕ) : Type 0 where
  xs1 : List ℕ
  xs2 : List ℕ
  xs3 : List ℕ
  of_letters : row letter_byte 0 c.letter_count xs ≡ got s.letters xs1
  of_limits : row limit_byte 0 c.field_count xs1 ≡ got s.limits xs2
  of_equations : times c.equation_count (an_equation c.letter_count s.limits) xs2 ≡ got s.equations xs3
  of_constraints : times c.constraint_count (a_constraint c.field_count) xs3 ≡ got s.constraints zs

stages : (c : Counts) (xs : List ℕ) {s : Sheet} {zs : List ℕ} → walk c xs ≡ got s zs → Stages c xs s zs
unfolding walk
stages c xs h =
    let a = went (row letter_byte 0 c.letter_count xs) _ h in
    let m = went (row limit_byte 0 c.field_count a.rest) _ a.second in
    let d = went (times c.equation_count (an_equation c.letter_count m.value) m.rest) _ m.second in
    let f = went (times c.constraint_count (a_constraint c.field_count) d.rest) _ d.second in
    same-got (Stages c xs) f.second
    (record {
      xs1 = a.rest;
      xs2 = m.rest;
      xs3 = d.rest;
      of_letters = a.first;
      of_limits = m.first;
      of_equations = d.first;
      of_constraints = f.first;
    })

-- n of a kind, and what each keeps to, whatever numbers stand in the list
pub times_several : {A : Type 0} (P : A → Type 0) (one : List ℕ → Step A) → ((xs : List ℕ) (a : A) (zs : List ℕ) → one xs ≡ got a zs → P a) → (n : ℕ) (xs : List ℕ) {more : List A} {zs : List ℕ} → times n one xs ≡ got more zs → Several P n more
unfolding times All
times_several P one f zero xs h = same-got (λ more zs. Several P 0 more) h (refl, tt)
times_several P one f (suc n) xs h =
    let g = went (one xs) _ h in
    let k = went (times n one g.rest) (λ more zs. got (g.value ∷ more) zs) g.second in
    let others = times_several P one f n g.rest k.first in
    same-got (λ more zs. Several P (suc n) more) k.second (ap suc others.0, (f xs g.value g.rest g.first, others.1))

times-count : {A : Type 0} (n : ℕ) (one : List ℕ → Step A) (xs : List ℕ) {more : List A} {zs : List ℕ} → times n one xs ≡ got more zs → length more ≡ n
times-count n one xs h = (times_several (λ _. Unit) one (λ ys a zs e. tt) n xs h).0

-- A walk that got a sheet has the counts that it was sent with, and its equations are within the ranges.
pub walk_counts : (c : Counts) (xs : List ℕ) {s : Sheet} {zs : List ℕ} → walk c xs ≡ got s zs → counts_of s ≡ c
walk_counts c xs h =
    let w = stages c xs h in
    rw (
      (row_exact letter_byte 0 c.letter_count xs w.of_letters).count,
      (row_exact limit_byte 0 c.field_count w.xs1 w.of_limits).count,
      times-count c.equation_count _ w.xs2 w.of_equations,
      times-count c.constraint_count _ w.xs3 w.of_constraints,
    )

pub walk-equations : (c : Counts) (xs : List ℕ) {s : Sheet} {zs : List ℕ} → c.letter_count ≤ 128 → walk c xs ≡ got s zs → All (EquationIn c.letter_count s.limits) s.equations
walk-equations c xs {s} few h =
    let w = stages c xs h in
    (times_several (EquationIn c.letter_count s.limits) _ (λ ys a zs e. (equation_exact c.letter_count s.limits few ys e).ok) c.equation_count w.xs2 w.of_equations).1

-- what the walk of bytes got in each section
record Walked (c : Counts) (xs : List ℕ) (s : Sheet) (zs : List ℕ) : Type 0 where
  bytes : xs ≡ s.letters ++ (s.limits ++ (each s.equations encode_equation ++ (each s.constraints encode_constraint ++ zs)))
  letter_total : length s.letters ≡ c.letter_count
  limit_total : length s.limits ≡ c.field_count
  letters_ok : all_pass letter_byte 0 s.letters ≡ true
  limits_ok : all_pass limit_byte 0 s.limits ≡ true
  equations_ok : Several (EquationIn c.letter_count s.limits) c.equation_count s.equations
  constraints_ok : Several (ConstraintIn c.field_count) c.constraint_count s.constraints

walked : (c : Counts) (xs : List ℕ) {s : Sheet} {zs : List ℕ} → c.letter_count ≤ 128 → Bytes xs → walk c xs ≡ got s zs → Walked c xs s zs
walked c xs {s} few b h =
    let w = stages c xs h in
    let l = row_exact letter_byte 0 c.letter_count xs w.of_letters in
    let lb = (rest_bytes s.letters w.xs1 l.bytes b).1 in
    let m = row_exact limit_byte 0 c.field_count w.xs1 w.of_limits in
    let mb = (rest_bytes s.limits w.xs2 m.bytes lb).1 in
    let d = times_exact _ encode_equation _ (equation_faithful c.letter_count s.limits few) c.equation_count w.xs2 mb w.of_equations in
    let db = (rest_bytes (each s.equations encode_equation) w.xs3 d.bytes mb).1 in
    let f = times_exact _ encode_constraint _ (constraint_faithful c.field_count) c.constraint_count w.xs3 db w.of_constraints in
    record {
      bytes = l.bytes ∙ ap (λ ys. s.letters ++ ys) (m.bytes ∙ ap (λ ys. s.limits ++ ys) (d.bytes ∙ ap (λ ys. each s.equations encode_equation ++ ys) f.bytes));
      letter_total = l.count;
      limit_total = m.count;
      letters_ok = l.pass;
      limits_ok = m.pass;
      equations_ok = d.ok;
      constraints_ok = f.ok;
    }

-- the sheet of a header and a walk that pass
module _ (c : Counts) (xs : List ℕ) (s : Sheet) (w : Walked c xs s []) where
  body : header c ++ xs ≡ encode s
  unfolding encode
  body =
      rw (← w.letter_total, ← w.limit_total, ← w.equations_ok.0, ← w.constraints_ok.0, w.bytes, append-nil (each s.constraints encode_constraint))

  in_range : CountsIn (counts_of s) → InRange s
  in_range h = record {
    counts_in = h;
    letters_in = letters_in_range 0 s.letters w.letters_ok;
    rising = letters-rise 0 s.letters w.letters_ok;
    limits_in = limits_in_range s.limits w.limits_ok;
    equations_in = rw w.letter_total w.equations_ok.1;
    constraints_in = rw w.limit_total w.constraints_ok.1;
  }

pub accepted-encode : (b : List ℕ) {s : Sheet} → Bytes b → read b ≡ accepted s → (b ≡ encode s) × InRange s
unfolding read
accepted-encode b {s} bytes h =
    let g = went (opening b) walk (ended-accepted (opening b then walk) h) in
    let o = opening_exact b g.first in
    let small : g.value.letter_count ≤ 128 = omega (arith, o.counts_in.of_letters) in
    let w = walked g.value g.rest small (rest_bytes (header g.value) g.rest o.bytes bytes).1 g.second in
    (o.bytes ∙ body g.value g.rest s w, in_range g.value g.rest s w (subst CountsIn (sym (walk_counts g.value g.rest g.second)) o.counts_in))
