-- A loop over the numbers below n that writes a piece for each has written them one after another. Assumes nothing.
use mathlib.Core.Path.{◌≡◌, refl, sym, ap, subst, ◌∙◌}
use mathlib.Core.List.{List, [], ◌∷◌, ◌++◌}
use Prim.Native.Nat.{ℕ, zero, suc, ◌+◌, ◌-◌, ◌<◌, ◌≤◌}
use native.Mathlib.Omega.{arith}
use lib.ListN.{length, get_or, length-append}
use Rattle.model.specs.Lists.{each, from, up_to, Puts}
use Rattle.model.proofs.Lists.{each_append, each_none, each_more}
use Rattle.model.proofs.Keeping.{from_join, loop_same}
use Rattle.model.proofs.Seams.{Written, nothing, more}

-- the numbers from a on, counted from 0
pub each_from : {A : Type 0} (g : ℕ → List A) (a b n : ℕ) → each (from (a + b) n) g ≡ each (from b n) (λ k. g (a + k))
unfolding each from
each_from g a b zero = refl
each_from g a b (suc n) =
    let e : suc (a + b) ≡ a + suc b = omega arith in
    ap (λ z. g (a + b) ++ z) (ap (λ k. each (from k n) g) e ∙ each_from g a (suc b) n)

pub each-each : {A B C : Type 0} (xs : List A) (f : A → List B) (g : B → List C) → each (each xs f) g ≡ each xs (λ x. each (f x) g)
unfolding each
each-each [] f g = refl
each-each (x ∷ xs) f g = each_append g (f x) (each xs f) ∙ ap (λ z. each (f x) g ++ z) (each-each xs f g)

-- the elements of a list by their places
pub each_at : {A B : Type 0} (xs : List A) (d : A) (g : A → List B) → each (up_to (length xs)) (λ k. g (get_or xs k d)) ≡ each xs g
unfolding each from
each_at [] d g = refl
each_at (x ∷ xs) d g =
    ap (λ z. g x ++ z)
    (each_from (λ k. g (get_or (x ∷ xs) k d)) 1 0 (length xs)
    ∙ loop_same (λ k. g (get_or (x ∷ xs) (1 + k) d)) (λ k. g (get_or xs k d)) (length xs)
    (λ k _. let e : 1 + k ≡ suc k = omega arith in ap (λ j. g (get_or (x ∷ xs) j d)) e)
    ∙ each_at xs d g)

module _ (g : ℕ → List ℕ) {s : List ℕ} {start : ℕ} where
  pub loop_none : Written s start (each (up_to 0) g) s start
  loop_none = subst (λ p. Written s start p s start) (sym (each_none g)) (nothing s start)

  module _ (n : ℕ) (room : start + length (each (up_to n) g) ≤ length s) {i : ℕ} {b : List ℕ} {at : ℕ} (w : Written s start (each (up_to i) g) b at) where
    part : i < n → length (each (up_to i) g) + length (g i) ≤ length (each (up_to n) g)
    part h =
        let m : ℕ = n - (i + 1) in
        let e : n ≡ i + 1 + m = omega arith in
        let is = ap length (ap (λ k. each (up_to k) g) e ∙ ap (λ xs. each xs g) (from_join 0 (i + 1) m) ∙ each_append g (up_to (i + 1)) (from (0 + (i + 1)) m)) in
        let x = length-append (each (up_to (i + 1)) g) (each (from (0 + (i + 1)) m) g) in
        let y = ap length (each_more g i) in
        let z = length-append (each (up_to i) g) (g i) in
        omega arith

    -- there is room for the next piece
    pub loop_room : i < n → at + length (g i) ≤ length b
    loop_room h = let k = part h in omega (arith, w.past, w.long, room)

    -- it has been written
    pub loop_next : i < n → (b' : List ℕ) (at' : ℕ) → Puts b at (g i) b' at' → length b' ≡ length b → Written s start (each (up_to (i + 1)) g) b' at'
    loop_next h b' at' f k =
        let l = part h in
        subst (λ p. Written s start p b' at') (sym (each_more g i)) (more (g i) b' at' w f k (omega (arith, room)))

    -- it was the last
    pub loop_done : i ≡ n → Puts s start (each (up_to n) g) b at
    loop_done e = subst (λ m. Puts s start (each (up_to m) g) b at) e (w.past, w.holds)
