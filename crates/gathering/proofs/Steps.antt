-- The steps of the code: rows put one after the other. Assumes nothing.
use mathlib.Core.Path.{◌≡◌, refl, sym, ap, ap₂, subst, ◌∙◌}
use mathlib.Core.Bool.{Bool, true, false}
use mathlib.Core.List.{List, [], ◌∷◌, ◌++◌, map, append-nil}
use Prim.Native.Nat.{ℕ, ◌+◌, ◌*◌, ◌<◌, ◌≤◌}
use native.Mathlib.Nat.{mul-add, mul-le-mul_left}
use native.Mathlib.Omega.{arith}
use lib.ListN.{length, get_or, take, length-append, length-map}
use lib.Seq.{take_all}
use Rattle.model.specs.Lists.{each, when, All, Puts, placed}
use Rattle.model.specs.Sheet.{Sheet, symbol_byte, sheet_of, template}
use Rattle.model.specs.Range.{Admitted}
use Rattle.model.proofs.Lists.{never, each_append}
use Rattle.model.proofs.Seams.{placed-placed, Written, nothing, more}
use Rattle.model.proofs.Templates.{template_in}
use Rattle.inequalities.specs.Asked.{asked}
use Rattle.inequalities.specs.Rows.{equation_rows, constraint_rows, gathered, flat, Gathered}
use Rattle.inequalities.proofs.Asked.{asked-none, asked_next}
use Rattle.inequalities.proofs.Agreement.{gathered_sizes}

-- a template, as the sheet has it, is short
pub template-short : (b : List ℕ) (ok : Admitted b) (p : ℕ) (h : p < length (sheet_of b).equations) (k : ℕ) (t : List ℕ) → t ≡ map symbol_byte (template (sheet_of b) p k) → length t ≤ 12
template-short b ok p h k t is =
    let n = ap length is ∙ length-map (template (sheet_of b) p k) symbol_byte in
    omega (arith, (template_in (sheet_of b) ok.1 p h k).count)

-- How many numbers rows have, and rows that are put only if asked.
flat_size : (rows : List (List ℕ)) → All (λ row. length row ≡ 14) rows → length (flat rows) ≡ 14 * length rows
unfolding each All
flat_size [] h = refl
flat_size (row ∷ rows) h =
    let this = h.0 in
    let others = flat_size rows h.1 in
    let n = length-append row (flat rows) in
    omega arith

asked_size : (m : Bool) (rows : List (List ℕ)) → All (λ row. length row ≡ 14) rows → length (flat (when m rows)) ≤ 14 * length rows
unfolding each
asked_size true rows h = let n = flat_size rows h in omega arith
asked_size false rows h = omega arith

-- none, one and two rows put from row i on
module _ (i : ℕ) where
  pub no_rows : (before : List ℕ) (m : Bool) (rows : List (List ℕ)) → m ≡ false → Puts before (14 * i) (flat (when m rows)) before (14 * i)
  unfolding each
  no_rows before true rows h = never (sym h)
  no_rows before false rows h = let none = nothing before (14 * i) in (none.past, none.holds)

  pub one_row : (before after row : List ℕ) → length row ≡ 14 → after ≡ placed before (14 * i) row → Puts before (14 * i) (flat (row ∷ [])) after (14 * (i + 1))
  unfolding each
  one_row before after row size e = rw (append-nil row) (omega arith, e)

  pub two_rows : (before between after row row' : List ℕ) → length row ≡ 14 → length row' ≡ 14 → 14 * i + 28 ≤ length before
      → between ≡ placed before (14 * i) row → after ≡ placed between (14 * (i + 1)) row' → Puts before (14 * i) (flat (row ∷ row' ∷ [])) after (14 * (i + 2))
  unfolding each
  two_rows before between after row row' size size' room e e' =
      let n = length-append row row' in
      let at : 14 * (i + 1) ≡ 14 * i + length row = omega arith in
      rw (append-nil row')
      (omega arith, e' ∙ ap₂ (λ s k. placed s k row') e at ∙ placed-placed before (14 * i) row row' (omega arith))

flat_append : (rows rows' : List (List ℕ)) → flat (rows ++ rows') ≡ flat rows ++ flat rows'
flat_append rows rows' = each_append (λ row. row) rows rows'

-- The rows of what is asked among the first p elements: none, one element more, and all.
module _ {A : Type 0} (f : A → List (List ℕ)) (ms : List Bool) (xs : List A) where
  abbrev pub firsts : ℕ → List ℕ
  firsts p = flat (each (asked ms (take p xs)) f)

  firsts-none : firsts 0 ≡ []
  unfolding each
  firsts-none = rw (asked-none {A = A} ms)

  each-when : (m : Bool) (x : A) → each (when m (x ∷ [])) f ≡ when m (f x)
  unfolding each
  each-when true x = append-nil (f x)
  each-when false x = refl

  firsts_next : (p : ℕ) (d : A) → p < length xs → firsts (p + 1) ≡ firsts p ++ flat (when (get_or ms p false) (f (get_or xs p d)))
  firsts_next p d h =
      let before = asked ms (take p xs) in
      let this = when (get_or ms p false) (get_or xs p d ∷ []) in
      ap (λ z. flat (each z f)) (asked_next ms xs p d h)
      ∙ ap flat (each_append f before this)
      ∙ flat_append (each before f) (each this f)
      ∙ ap (λ z. flat (each before f) ++ flat z) (each-when (get_or ms p false) (get_or xs p d))

  firsts-all : (p : ℕ) → length xs ≤ p → firsts p ≡ flat (each (asked ms xs) f)
  firsts-all p h = ap (λ z. flat (each (asked ms z) f)) (take_all p xs h)

-- A loop that puts the rows of what is asked, k for each element, from row `start` on: how far it came after p elements; where it begins,
-- a turn, and where it ends.
abbrev pub Put : {A : Type 0} → (A → List (List ℕ)) → ℕ → List Bool → List A → List ℕ → ℕ → List ℕ → ℕ → ℕ → Type 0
Put f k ms xs rows₀ start rows i p = (p ≤ length xs) × (i ≤ start + k * p) × Written rows₀ (14 * start) (firsts f ms xs p) rows (14 * i)

module _ {A : Type 0} (f : A → List (List ℕ)) (k : ℕ) (ms : List Bool) (xs : List A) (rows₀ : List ℕ) (start : ℕ) where
  pub put_begins : Put f k ms xs rows₀ start rows₀ start 0
  put_begins = (omega arith, omega arith, subst (λ p. Written rows₀ (14 * start) p rows₀ (14 * start)) (sym (firsts-none f ms xs)) (nothing rows₀ (14 * start)))

  module _ (sizes : (x : A) → (length (f x) ≡ k) × All (λ row. length row ≡ 14) (f x)) (room : 14 * (start + k * length xs) ≤ length rows₀) where
    pub put_turn : (rows rows' : List ℕ) (i i' p : ℕ) (d : A) → Put f k ms xs rows₀ start rows i p → p < length xs
        → Puts rows (14 * i) (flat (when (get_or ms p false) (f (get_or xs p d)))) rows' (14 * i') → length rows' ≡ length rows → Put f k ms xs rows₀ start rows' i' (p + 1)
    put_turn rows rows' i i' p d put h new kept =
        let size = sizes (get_or xs p d) in
        let most = asked_size (get_or ms p false) (f (get_or xs p d)) size.1 in
        let step = mul-add k p 1 in
        let upper : k * (p + 1) ≤ k * length xs = mul-le-mul_left k (omega arith) in
        let fits : i' ≤ start + k * (p + 1) = omega (arith, new.0, size.0, put.1) in (
          omega arith,
          fits,
          subst (λ z. Written rows₀ (14 * start) z rows' (14 * i')) (sym (firsts_next f ms xs p d h))
              (more (flat (when (get_or ms p false) (f (get_or xs p d)))) rows' (14 * i') put.2 new kept (omega (arith, new.0, put.2.past))),
        )

    pub put-room : (rows : List ℕ) (i p : ℕ) → Put f k ms xs rows₀ start rows i p → p < length xs → 14 * i + 14 * k ≤ length rows
    put-room rows i p put h =
        let step = mul-add k p 1 in
        let upper : k * (p + 1) ≤ k * length xs = mul-le-mul_left k (omega arith) in
        omega (arith, put.1, put.2.long)

  pub put-ends : (rows : List ℕ) (i p : ℕ) → Put f k ms xs rows₀ start rows i p → length xs ≤ p
      → Puts rows₀ (14 * start) (flat (each (asked ms xs) f)) rows (14 * i) × (i ≤ start + k * length xs)
  put-ends rows i p put h =
      let same : p ≡ length xs = omega (arith, put.0) in
      let e = firsts-all f ms xs p h in
      let w = subst (λ z. Written rows₀ (14 * start) z rows (14 * i)) e put.2 in
      ((w.past, w.holds), subst (λ n. i ≤ start + k * n) same put.1)

-- the rows of the equations and then those of the constraints are the gathered rows
pub all-gathered : (s : Sheet) (equations constraints : List Bool) (before between after : List ℕ) (i n : ℕ) → 168 ≤ length before
    → Puts before 0 (flat (each (asked equations s.equations) equation_rows)) between (14 * i) → length between ≡ length before
    → Puts between (14 * i) (flat (each (asked constraints s.constraints) constraint_rows)) after (14 * n) → length after ≡ length between
    → n ≤ 12 → Gathered s equations constraints before after n
unfolding gathered
all-gathered s equations constraints before between after i n room first kept second kept' few =
    let es = each (asked equations s.equations) equation_rows in
    let rs = each (asked constraints s.constraints) constraint_rows in
    let e = flat_append es rs in
    let size = flat_size (es ++ rs) (gathered_sizes s equations constraints) in
    let w = more (flat rs) after (14 * n) (more (flat es) between (14 * i) (nothing before 0) first kept (omega (arith, first.0, second.0))) second kept' (omega (arith, first.0, second.0)) in
    record {
      many = omega (arith, ap length e, length-append (flat es) (flat rs), first.0, second.0);
      few = few;
      written = w.holds ∙ ap (placed before 0) (sym e);
    }
