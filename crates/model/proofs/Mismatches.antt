-- The comparison of two texts (specs/Mismatch): letter by letter from index i on, as code goes; how many letters agree, as the greatest number of them that are
-- the same from the start; and that two words are the same text exactly when nothing is left over. Assumes nothing.
use mathlib.Core.Path.{◌≡◌, refl, sym, ap, ◌∙◌}
use mathlib.Core.Bool.{true}
use mathlib.Core.List.{List, [], ◌∷◌}
use Prim.Native.Nat.{ℕ, zero, suc, ◌+◌, ◌-◌, ◌<◌, ◌≤◌}
use native.Mathlib.Omega.{arith}
use native.Mathlib.Numerals.{add-one}
use lib.Dec.{eqb}
use lib.ListN.{length, get_or, take, drop, length-drop, drop_of_length-le}
use lib.Seq.{drop-cons, take_all}
use borrow.Author.Tests.{eq-eqb, ne_eqb, ltb-true, ltb-false, lt-ltb, le-ltb}
use Rattle.model.specs.Sheet.{Sheet}
use Rattle.model.specs.Word.{SameWord, same_letter, same_word}
use Rattle.model.specs.Mismatch.{agreeing, left_left, rest_side, rest_word}
use Rattle.model.proofs.Lists.{by_test, never, and_split}
use Rattle.model.proofs.Words.{same-letter, same-word-length, same-word_out, same-word_in}

-- no more letters agree than either text has
pub agree_left : (s : Sheet) (u w : List ℕ) → agreeing s u w ≤ length u
unfolding agreeing
agree_left s [] w = omega arith
agree_left s (a ∷ u) [] = omega arith
agree_left s (a ∷ u) (b ∷ w) = by_test (same_letter s a b) (λ t. rw t (let h = agree_left s u w in omega arith)) (λ t. rw t (omega arith))

pub agree_right : (s : Sheet) (u w : List ℕ) → agreeing s u w ≤ length w
unfolding agreeing
agree_right s [] w = omega arith
agree_right s (a ∷ u) [] = omega arith
agree_right s (a ∷ u) (b ∷ w) = by_test (same_letter s a b) (λ t. rw t (let h = agree_right s u w in omega arith)) (λ t. rw t (omega arith))

-- one letter after the other, and where one text ends
module _ (s : Sheet) (u w : List ℕ) (i : ℕ) where
  pub agree_here : i < length u → i < length w → get_or u i 0 ≡ get_or w i 0 → agreeing s (drop i u) (drop i w) ≡ suc (agreeing s (drop (i + 1) u) (drop (i + 1) w))
  unfolding agreeing
  agree_here a b e = rw (add-one, drop-cons u i 0, drop-cons w i 0, same-letter s (get_or u i 0) (get_or w i 0), eq-eqb _ _ e)

  pub agree-no-more : i < length u → i < length w → (get_or u i 0 ≡ get_or w i 0 → ⊥) → agreeing s (drop i u) (drop i w) ≡ 0
  unfolding agreeing
  agree-no-more a b e = rw (drop-cons u i 0, drop-cons w i 0, same-letter s (get_or u i 0) (get_or w i 0), ne_eqb _ _ e)

  pub agree-left-ended : length u ≤ i → agreeing s (drop i u) (drop i w) ≡ 0
  unfolding agreeing
  agree-left-ended h = rw (drop_of_length-le u h)

  pub agree-right-ended : length w ≤ i → agreeing s (drop i u) (drop i w) ≡ 0
  agree-right-ended h = rw (drop_of_length-le w h) (let k = agree_right s (drop i u) [] in omega arith)

-- as many as agree are the same text, and no more are
agree-tested : (s : Sheet) (u w : List ℕ) → same_word s (take (agreeing s u w) u) (take (agreeing s u w) w) ≡ true
unfolding agreeing same_word
agree-tested s [] w = refl
agree-tested s (a ∷ u) [] = refl
agree-tested s (a ∷ u) (b ∷ w) = by_test (same_letter s a b) (λ t. rw (t, t, agree-tested s u w)) (λ t. rw t)

pub agree_same : (s : Sheet) (u w : List ℕ) → SameWord s (take (agreeing s u w) u) (take (agreeing s u w) w)
agree_same s u w = same-word_out s (take (agreeing s u w) u) (take (agreeing s u w) w) (agree-tested s u w)

most-tested : (s : Sheet) (u w : List ℕ) (n : ℕ) → n ≤ length u → n ≤ length w → same_word s (take n u) (take n w) ≡ true → n ≤ agreeing s u w
unfolding agreeing same_word
most-tested s u w zero h k e = omega arith
most-tested s [] w (suc n) h k e = absurd (omega arith)
most-tested s (a ∷ u) [] (suc n) h k e = absurd (omega arith)
most-tested s (a ∷ u) (b ∷ w) (suc n) h k e =
    let r = and_split (same_letter s a b) (same_word s (take n u) (take n w)) e in
    rw r.0 (let l = most-tested s u w n (omega arith) (omega arith) r.1 in omega arith)

pub agree-most : (s : Sheet) (u w : List ℕ) (n : ℕ) → n ≤ length u → n ≤ length w → SameWord s (take n u) (take n w) → n ≤ agreeing s u w
agree-most s u w n h k e = most-tested s u w n h k (same-word_in s (take n u) (take n w) e)

module _ (s : Sheet) (u w : List ℕ) where
  -- the side and the rest, by whether the left text is used up
  pub rest-left : agreeing s u w < length u → (rest_side s u w ≡ 0) × (rest_word s u w ≡ drop (agreeing s u w) u)
  rest-left h = rw (lt-ltb (agreeing s u w) (length u) h) (refl, refl)

  pub rest-right : length u ≤ agreeing s u w → (rest_side s u w ≡ 1) × (rest_word s u w ≡ drop (agreeing s u w) w)
  rest-right h = rw (le-ltb (agreeing s u w) (length u) h) (refl, refl)

  -- nothing is left over exactly when the two are the same text, and then all letters agree
  pub same-all-agree : SameWord s u w → agreeing s u w ≡ length u
  same-all-agree h =
      let e = same-word-length s u w h in
      let n = agree-most s u w (length u) (omega arith) (omega arith) (rw (take_all (length u) u (omega arith), take_all (length u) w (omega arith)) h) in
      let k = agree_left s u w in
      omega arith

  pub same-none-left : SameWord s u w → rest_word s u w ≡ []
  same-none-left h =
      let e = same-all-agree h in
      let o : length w ≤ agreeing s u w = omega (arith, same-word-length s u w h) in
      (rest-right (omega arith)).1 ∙ drop_of_length-le w o

  pub none-left-same : length (rest_word s u w) ≡ 0 → SameWord s u w
  none-left-same h = by_test (left_left s u w)
      (λ t.
      let l = ltb-true (agreeing s u w) (length u) t in
      absurd (omega (arith, h, ap length (rest-left l).1, length-drop (agreeing s u w) u)))
      (λ t.
      let l = ltb-false (agreeing s u w) (length u) t in
      let k = agree_left s u w in
      let o : length w ≤ agreeing s u w = omega (arith, h, ap length (rest-right l).1, length-drop (agreeing s u w) w) in
      rw (take_all (agreeing s u w) u l, take_all (agreeing s u w) w o) at (agree_same s u w))

  pub same_by_rest : same_word s u w ≡ eqb (length (rest_word s u w)) 0
  same_by_rest = by_test (same_word s u w)
      (λ t. t ∙ sym (eq-eqb _ 0 (ap length (same-none-left (same-word_out s u w t)))))
      (λ t. t ∙ sym (ne_eqb (length (rest_word s u w)) 0 (λ e. never (sym t ∙ same-word_in s u w (none-left-same e)))))
