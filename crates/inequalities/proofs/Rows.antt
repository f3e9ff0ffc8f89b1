-- What the rows say: the length of a spelled word by the occurrences of the fields, a row of an equation compares the words of its
-- templates, and a row of a constraint is the constraint. Assumes nothing.
use mathlib.Core.Path.{◌≡◌, refl, sym, ap, ◌∙◌}
use mathlib.Core.Bool.{true, ◌&&◌}
use mathlib.Core.List.{List, [], ◌∷◌, ◌++◌}
use Prim.Native.Nat.{ℕ, zero, suc, ◌+◌, ◌-◌, ◌*◌, ◌≤◌}
use native.Mathlib.Omega.{arith}
use lib.Dec.{leb, eqb}
use lib.IntN.{ℤ, pos, ◌*ℤ◌, zero-*ℤ, +ℤ_idr}
use lib.ListN.{length, length-append, get_or-eq_default}
use lib.Signed.{le_z}
use borrow.Author.Tests.{leb-true, leb-false, eq-eqb, ne_eqb}
use Rattle.model.specs.Lists.{pick, from, each, all, total, All}
use Rattle.model.specs.Sheet.{Symbol, letter, field, Equation, Constraint, Sheet, coefficient}
use Rattle.model.specs.Range.{SymbolIn, ConstraintIn}
use Rattle.model.specs.Word.{Substitution, text, symbol_word, spell, weight, constraint_holds}
use Rattle.model.proofs.Lists.{by_test}
use Rattle.inequalities.specs.Asked.{lengths_of, sides_agree}
use Rattle.inequalities.specs.Rows.{side_sum, row_holds, slot_of, occurrences, letters, excess, side, equation_row, equation_rows, positive, negative, constraint_row}
use Rattle.inequalities.proofs.Weighed.{total_sum, total_one, total_net, leb_net, order_parts, sum_parts, product_parts}

-- A row's test at the lengths of a substitution.
row_test : (factor factor' : ℕ → ℕ) (more more' : ℕ) (g : Substitution)
    → row_holds (side factor more ++ side factor' more') (lengths_of g) ≡ leb (total 6 (λ f. factor f * length (text g f)) + more) (total 6 (λ f. factor' f * length (text g f)) + more')
unfolding row_holds side_sum lengths_of from total
row_test factor factor' more more' g = refl

-- two tests of order for one of equality
both_ways : (m n : ℕ) → (leb m n && (leb n m && true)) ≡ eqb m n
both_ways m n = by_test (leb m n)
    (λ e. by_test (leb n m)
    (λ k. let a = leb-true m n e in let b = leb-true n m k in rw (e, k) (sym (eq-eqb m n (omega arith))))
    (λ k. let b = leb-false n m k in rw (e, k) (sym (ne_eqb m n (λ q. omega arith)))))
    (λ e. let a = leb-false m n e in rw e (sym (ne_eqb m n (λ q. omega arith))))

module _ (g : Substitution) where
  -- one symbol counts as long as its word
  symbol_length : (l : ℕ) (x : Symbol) → SymbolIn l 6 x → pick (eqb (slot_of x) 6) 1 0 + total 6 (λ f. pick (eqb (slot_of x) f) 1 0 * length (text g f)) ≡ length (symbol_word g x)
  unfolding total
  symbol_length l (letter a) h = omega arith
  symbol_length l (field f) h = let one = (total_one 6 f (λ k. length (text g k))).0 h in rw (ne_eqb f 6 (λ e. omega arith)) (omega arith)

  -- The length of a word: its letters, and each field's length as often as the field occurs.
  spell-length : (l : ℕ) (t : List Symbol) → All (SymbolIn l 6) t → length (spell g t) ≡ letters t + total 6 (λ f. occurrences t f * length (text g f))
  unfolding spell each occurrences All total
  spell-length l [] h = omega arith
  spell-length l (x ∷ xs) h =
      let this = symbol_length l x h.0 in
      let others = spell-length l xs h.1 in
      let both = total_sum 6 (λ f. pick (eqb (slot_of x) f) 1 0) (occurrences xs) (λ f. length (text g f)) in
      let n = length-append (symbol_word g x) (spell g xs) in
      omega arith

  -- An equation's rows: the one compares the words one way round, both together say that they are equally long.
  module _ (l : ℕ) (left right : List Symbol) (ok : All (SymbolIn l 6) left) (ok' : All (SymbolIn l 6) right) where
    pub equation-row : row_holds (equation_row left right) (lengths_of g) ≡ leb (length (spell g left)) (length (spell g right))
    unfolding equation_row
    equation-row =
        let n : ℕ = total 6 (λ f. excess left right f * length (text g f)) + letters left in
        let m : ℕ = total 6 (λ f. excess right left f * length (text g f)) + letters right in
        let a = spell-length l left ok in
        let b = spell-length l right ok' in
        let c = total_net 6 (occurrences left) (occurrences right) (λ f. length (text g f)) in
        row_test (excess left right) (excess right left) (letters left) (letters right) g
        ∙ leb_net n m (length (spell g left)) (length (spell g right)) (omega arith)

  pub equation_rows_lem : (l : ℕ) (e : Equation) → All (SymbolIn l 6) e.left → All (SymbolIn l 6) e.right
      → all (λ row. row_holds row (lengths_of g)) (equation_rows e) ≡ sides_agree g e
  unfolding all
  equation_rows_lem l e ok ok' =
      rw (equation-row l e.left e.right ok ok', equation-row l e.right e.left ok' ok)
      (both_ways (length (spell g e.left)) (length (spell g e.right)))

  -- A constraint's sum over the first k fields, by parts; and that fields past those of the sheet add nothing.
  module _ (r : Constraint) where
    weight-parts : (k : ℕ) → total k (λ f. positive (coefficient r f) * length (text g f)) + negative (weight r g k)
        ≡ total k (λ f. negative (coefficient r f) * length (text g f)) + positive (weight r g k)
    unfolding total weight
    weight-parts zero = refl
    weight-parts (suc k) =
        let before = weight-parts k in
        let this = product_parts (coefficient r k) (length (text g k)) in
        let sum = sum_parts (weight r g k) (coefficient r k *ℤ pos (length (text g k))) in
        omega (arith, this.0, this.1)

    weight-past : (n k : ℕ) → length r.coefficients ≤ n → weight r g (n + k) ≡ weight r g n
    unfolding weight
    weight-past n zero h = let e : n + 0 ≡ n = omega arith in rw e
    weight-past n (suc k) h =
        let e : n + suc k ≡ suc (n + k) = omega arith in
        let none : coefficient r (n + k) ≡ pos 0 = get_or-eq_default r.coefficients (pos 0) (omega arith) in
        rw (e, none, zero-*ℤ (pos (length (text g (n + k)))), +ℤ_idr (weight r g (n + k))) (weight-past n k h)

    pub constraint-row : (s : Sheet) → length s.limits ≤ 6 → ConstraintIn (length s.limits) r → row_holds (constraint_row r) (lengths_of g) ≡ constraint_holds s g r
    unfolding constraint_row constraint_holds
    constraint-row s few ok =
        let n : ℕ = length s.limits in
        let x : ℕ = total 6 (λ f. positive (coefficient r f) * length (text g f)) in
        let y : ℕ = total 6 (λ f. negative (coefficient r f) * length (text g f)) in
        let w : ℤ = weight r g 6 in
        let six : n + (6 - n) ≡ 6 = omega arith in
        let whole : w ≡ weight r g n = ap (weight r g) (sym six) ∙ weight-past n (6 - n) (omega (arith, ok.one_each)) in
        let parts = weight-parts 6 in
        row_test (λ f. positive (coefficient r f)) (λ f. negative (coefficient r f)) (negative r.most) (positive r.most) g
        ∙ leb_net (x + negative r.most) (y + positive r.most) (positive w + negative r.most) (negative w + positive r.most) (omega arith)
        ∙ order_parts w r.most
        ∙ ap (λ z. le_z z r.most) whole
