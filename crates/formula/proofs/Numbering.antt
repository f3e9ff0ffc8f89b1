-- The numbers of the variables: in document 01's order they are 1, 2, .. up to the variable count. Assumes nothing.
use mathlib.Core.Path.{◌≡◌, refl, sym, ap, ap₂, subst, ◌∙◌}
use mathlib.Core.List.{List, ◌∷◌, ◌++◌, map}
use Prim.Native.Nat.{ℕ, zero, suc, ◌+◌, ◌-◌, ◌*◌, ◌<◌, ◌≤◌}
use native.Mathlib.Nat.{suc-mul, mul-le-mul}
use native.Mathlib.Omega.{arith}
use lib.IntN.{ℤ, pos, nat_abs, ◌+ℤ◌, ◌-ℤ◌}
use lib.ListN.{length, get_or, length-map}
use Rattle.model.specs.Lists.{each, from, up_to, total, All}
use Rattle.model.specs.Sheet.{Sheet, limit, constraint}
use Rattle.formula.specs.Clause.{Variable, K, S, T, least, sums, blank, fields, left_cells, right_cells}
use Rattle.formula.specs.Numbering.{VariableIn, k_variables, s_variables, t_variables, variables, k_size, s_size, row_size, t_size, k_count, s_count, t_count, variable_count, number}
use Rattle.model.proofs.Lists.{append_out, map_out, below_out, from_at, each_none, each_more}
use Rattle.model.proofs.Keeping.{length_from, from_is, from_join, loop_out, loop_same, map_at, map-append, map-map, map_each, total_const, total-fits}
use Rattle.formula.proofs.Integers.{above-least}

-- consecutive blocks make one range
blocks : (h : ℕ → ℕ) (base n : ℕ) → each (up_to n) (λ i. from (base + total i h) (h i)) ≡ from base (total n h)
unfolding total from
blocks h base zero = each_none (λ i. from (base + total i h) (h i))
blocks h base (suc n) =
    let e : suc n ≡ n + 1 = omega arith in
    ap (λ z. each (up_to z) (λ i. from (base + total i h) (h i))) e
    ∙ each_more (λ i. from (base + total i h) (h i)) n
    ∙ ap (λ z. z ++ from (base + total n h) (h n)) (blocks h base n)
    ∙ sym (from_join base (total n h) (h n))

-- blocks of one width
rows : (w base n : ℕ) → each (up_to n) (λ i. from (base + i * w) w) ≡ from base (n * w)
rows w base n =
    loop_same (λ i. from (base + i * w) w) (λ i. from (base + total i (λ _. w)) w) n (λ i _. ap (λ z. from (base + z) w) (sym (total_const i w)))
    ∙ blocks (λ _. w) base n ∙ ap (from base) (total_const n w)

map_range : (g : ℕ → ℕ) (base n k : ℕ) → ((i : ℕ) → g (k + i) ≡ base + i) → map g (from k n) ≡ from base n
unfolding from
map_range g base zero k f = refl
map_range g base (suc n) k f =
    let p : k + 0 ≡ k = omega arith in let q : base + 0 ≡ base = omega arith in
    let head : g k ≡ base = rw (p, q) at (f 0) in
    ap₂ ◌∷◌ head (map_range g (suc base) n (suc k) (λ i.
    let p' : suc k + i ≡ k + suc i = omega arith in
    let q' : suc base + i ≡ base + suc i = omega arith in
    rw (p', q') (f (suc i))))

map_up_to : (g : ℕ → ℕ) (base n : ℕ) → ((i : ℕ) → g i ≡ base + i) → map g (up_to n) ≡ from base n
map_up_to g base n f = map_range g base n 0 (λ i. let p : 0 + i ≡ i = omega arith in rw p (f i))

module _ (s : Sheet) where
  k_numbers : map (number s) (k_variables s) ≡ from 1 (k_count s)
  unfolding k_variables number
  k_numbers =
      let w : ℕ = suc (blank s) in
      map_each (number s) (up_to (fields s)) _
      ∙ loop_same _ _ (fields s) (λ f _.
      map_each (number s) (up_to (limit s f)) _
      ∙ loop_same _ _ (limit s f) (λ c _. map-map (number s) (K f c) (up_to w) ∙ map_up_to _ (1 + total f (k_size s) + c * w) w (λ a. refl))
      ∙ rows w (1 + total f (k_size s)) (limit s f))
      ∙ blocks (k_size s) 1 (fields s)

  s_numbers : map (number s) (s_variables s) ≡ from (1 + k_count s) (s_count s)
  unfolding s_variables number
  s_numbers =
      map_each (number s) (up_to (length s.equations)) _
      ∙ loop_same _ _ (length s.equations) (λ p _.
      let base : ℕ = 1 + k_count s + total p (s_size s) in
      let m : ℕ = suc (length (left_cells s p)) in
      let w : ℕ = suc (length (right_cells s p)) in
      map_each (number s) (up_to m) _
      ∙ loop_same _ _ m (λ i _. map-map (number s) (S p i) (up_to w) ∙ map_up_to _ (base + i * w) w (λ j. refl))
      ∙ rows w base m)
      ∙ blocks (s_size s) (1 + k_count s) (length s.equations)

  t_numbers : map (number s) (t_variables s) ≡ from (1 + k_count s + s_count s) (t_count s)
  unfolding t_variables number sums
  t_numbers =
      map_each (number s) (up_to (length s.constraints)) _
      ∙ loop_same _ _ (length s.constraints) (λ r _.
      let base : ℕ = 1 + k_count s + s_count s + total r (t_size s) in
      map_each (number s) (up_to (suc (fields s))) _
      ∙ loop_same _ _ (suc (fields s)) (λ k _.
      let l : ℤ = least s (constraint s r) k in
      map-map (number s) (T r k) (map (λ n. l +ℤ pos n) (up_to (row_size s r k)))
      ∙ map-map (λ z. number s (T r k z)) (λ n. l +ℤ pos n) (up_to (row_size s r k))
      ∙ map_up_to _ (base + total k (row_size s r)) (row_size s r k) (λ n. ap (λ z. base + total k (row_size s r) + z) (above-least l n)))
      ∙ blocks (row_size s r) base (suc (fields s)))
      ∙ blocks (t_size s) (1 + k_count s + s_count s) (length s.constraints)

  pub numbering : map (number s) (variables s) ≡ from 1 (variable_count s)
  unfolding variables variable_count
  numbering =
      map-append (number s) (k_variables s) (s_variables s ++ t_variables s)
      ∙ ap₂ ◌++◌ k_numbers
      (map-append (number s) (s_variables s) (t_variables s) ∙ ap₂ ◌++◌ s_numbers t_numbers ∙ sym (from_join (1 + k_count s) (s_count s) (t_count s)))
      ∙ sym (from_join 1 (k_count s) (s_count s + t_count s))

  pub variable_count_lem : length (variables s) ≡ variable_count s
  variable_count_lem = sym (length-map (variables s) (number s)) ∙ ap length numbering ∙ length_from 1 (variable_count s)

  pub positive : (x : Variable) → 0 < number s x
  unfolding number
  positive (K f c a) = omega arith
  positive (S p i j) = omega arith
  positive (T r k n) = omega arith

-- one element of rows of one width
row_in : (w m i j : ℕ) → i < m → j < w → i * w + j < m * w
row_in w m i j a b =
    let e = suc-mul i w in
    let k : w ≤ w = omega arith in
    let h : suc i * w ≤ m * w = mul-le-mul a k in
    omega arith

pub value-small : (s : Sheet) (f c a : ℕ) → VariableIn s (K f c a) → number s (K f c a) ≤ k_count s
unfolding number
value-small s f c a h =
    let inside = row_in (suc (blank s)) (limit s f) c a h.0.1 (omega (arith, h.1)) in
    let whole = total-fits (fields s) (k_size s) f (c * suc (blank s) + a) h.0.0 inside in
    omega arith

pub number_small : (s : Sheet) (x : Variable) → VariableIn s x → number s x ≤ variable_count s
unfolding number variable_count
number_small s (K f c a) h = let k = value-small s f c a h in omega arith
number_small s (S p i j) h =
    let w : ℕ = suc (length (right_cells s p)) in
    let inside = row_in w (suc (length (left_cells s p))) i j (omega (arith, h.1)) (omega (arith, h.2)) in
    let whole = total-fits (length s.equations) (s_size s) p (i * w + j) h.0 inside in
    omega arith
number_small s (T r k n) h =
    let m : ℕ = nat_abs (n -ℤ least s (constraint s r) k) in
    let inside = total-fits (suc (fields s)) (row_size s r) k m (omega (arith, h.1)) (omega (arith, h.2.1)) in
    let whole = total-fits (length s.constraints) (t_size s) r (total k (row_size s r) + m) h.0 inside in
    omega arith

-- P of all variables is P of each variable in its range.
variables_out : (s : Sheet) (P : Variable → Type 0) → All P (variables s) → (x : Variable) → VariableIn s x → P x
unfolding variables k_variables s_variables t_variables sums
variables_out s P h (K f c a) k =
    let at_place = loop_out P _ _ (loop_out P _ _ (append_out P (k_variables s) _ h).0 f k.0.0) c k.0.1 in
    below_out (λ a. P (K f c a)) _ (map_out P (K f c) _ at_place) a (omega (arith, k.1))
variables_out s P h (S p i j) k =
    let others = (append_out P (s_variables s) _ (append_out P (k_variables s) _ h).1).0 in
    let at_row = loop_out P _ _ (loop_out P _ _ others p k.0) i (omega (arith, k.1)) in
    below_out (λ j. P (S p i j)) _ (map_out P (S p i) _ at_row) j (omega (arith, k.2))
variables_out s P h (T r k n) i =
    let l : ℤ = least s (constraint s r) k in
    let others = (append_out P (s_variables s) _ (append_out P (k_variables s) _ h).1).1 in
    let at_row = loop_out P _ _ (loop_out P _ _ others r i.0) k (omega (arith, i.1)) in
    let at_sum = below_out (λ m. P (T r k (l +ℤ pos m))) _ (map_out (λ z. P (T r k z)) _ _ (map_out P (T r k) _ at_row)) (nat_abs (n -ℤ l)) (omega (arith, i.2.1)) in
    subst (λ z. P (T r k z)) (sym i.2.0) at_sum

-- The variable of a number: the one in that place of the list, counted from 1.
unfoldable pub variable_of : Sheet → ℕ → Variable
variable_of s n = get_or (variables s) (n - 1) (K 0 0 0)

pub variable_of_lem : (s : Sheet) (x : Variable) → VariableIn s x → variable_of s (number s x) ≡ x
unfolding variable_of
variable_of_lem s = variables_out s (λ x. variable_of s (number s x) ≡ x) (from_at _ (K 0 0 0) (variables s) (λ i h.
    let e = map_at (number s) (K 0 0 0) 0 (variables s) i h in
    let n = variable_count_lem s in
    let m = ap (λ (xs : List ℕ). get_or xs i 0) (numbering s) ∙ from_is 1 (variable_count s) i (omega arith) in
    let q : number s (get_or (variables s) i (K 0 0 0)) - 1 ≡ i = omega arith in
    ap (λ j. get_or (variables s) j (K 0 0 0)) q))
