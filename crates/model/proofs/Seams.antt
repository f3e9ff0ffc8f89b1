-- Lists that are written from the front, or in the middle: what has been written, and what is as before. Assumes nothing.
use mathlib.Core.Path.{◌≡◌, refl, sym, ap, ◌∙◌}
use mathlib.Core.List.{List, [], ◌∷◌, ◌++◌, append_assoc, append-nil}
use Prim.Native.Nat.{ℕ, suc, ◌+◌, ◌-◌, ◌<◌, ◌≤◌}
use native.Mathlib.Numerals.{add-one}
use native.Mathlib.Omega.{arith}
use lib.ListN.{length, take, drop, get_or, set, replicate, length-append, length-drop, length-replicate, take-append-drop, replicate-append-replicate}
use lib.Seq.{take_all, drop-length, drop-cons, set_at, append_snoc, take_at, drop_at, drop-drop, drop-append-add, length-take-le, take-length, paste, set_split}
use borrow.Rule.Slice.PartMut.{put_mid}
use Rattle.model.specs.Lists.{placed, Puts}

-- The list d whose front has been replaced by p, which is as long as the front: p ++ drop n d with length p ≡ n.

-- a store at the seam
pub store_next : (p d : List ℕ) (n a : ℕ) → length p ≡ n → n < length d → set (p ++ drop n d) n a ≡ (p ++ (a ∷ [])) ++ drop (n + 1) d
store_next p d n a e h =
    rw (add-one, drop-cons d n 0, set_at p (get_or d n 0) (drop (suc n) d) a n e) (sym (append_snoc p a (drop (suc n) d)))

pub length_seam : (p d : List ℕ) (n : ℕ) → length p ≡ n → n ≤ length d → length (p ++ drop n d) ≡ length d
length_seam p d n e h = simp (length-append, length-drop) (omega arith)

pub length_snoc : (p : List ℕ) (a n : ℕ) → length p ≡ n → length (p ++ (a ∷ [])) ≡ n + 1
length_snoc p a n e = simp (length-append) (omega arith)

-- the part from the seam on is lent, and its first k elements are replaced by q
lend_next : (p q d : List ℕ) (n k : ℕ) → length p ≡ n → take n (p ++ drop n d) ++ (q ++ drop k (drop n (p ++ drop n d))) ≡ (p ++ q) ++ drop (n + k) d
lend_next p q d n k e = rw (take_at p (drop n d) n e, drop_at p (drop n d) n e, drop-drop, append_assoc)

-- `&mut s[n..]` and `&s[n..]`: what is lent
pub tail_lent : (xs : List ℕ) (n : ℕ) → take (length xs - n) (drop n xs) ≡ drop n xs
tail_lent xs n = let e : length (drop n xs) ≡ length xs - n = length-drop n xs in take_all (length xs - n) (drop n xs) (omega arith)

-- `&mut s[n..]`: the whole, when ys has come back in the part's place
tail_back : (xs ys : List ℕ) (n : ℕ) → put_mid n (length xs - n) xs ys ≡ take n xs ++ ys
tail_back xs ys n = let e : length (drop n xs) ≡ length xs - n = length-drop n xs in rw (← e, drop-length (drop n xs), append-nil)

-- a callee that was lent the part from the seam on has put q at its front
pub lend_tail : (p q d ys : List ℕ) (n k : ℕ) → length p ≡ n → ys ≡ q ++ drop k (take (length (p ++ drop n d) - n) (drop n (p ++ drop n d))) → put_mid n (length (p ++ drop n d) - n) (p ++ drop n d) ys ≡ (p ++ q) ++ drop (n + k) d
lend_tail p q d ys n k e h = tail_back (p ++ drop n d) ys n ∙ ap (λ z. take n (p ++ drop n d) ++ z) (h ∙ ap (λ z. q ++ drop k z) (tail_lent (p ++ drop n d) n)) ∙ lend_next p q d n k e

-- The list s with p placed in it at an offset.

pub placed_front : (s p : List ℕ) → placed s 0 p ≡ p ++ drop (length p) s
placed_front s p = let e : 0 + length p ≡ length p = omega arith in ap (λ n. p ++ drop n s) e

-- what was put at the front, with its length: it is the front
module _ (d w last : List ℕ) (n : ℕ) (h : Puts d 0 w last n) where
  count : n ≡ length w
  count = omega (arith, h.0)

  whole : last ≡ w ++ drop (length w) d
  whole = h.1 ∙ placed_front d w

  pub front_is : take n last ≡ w
  front_is = rw (whole, count) (take_at w (drop (length w) d) (length w) refl)

  pub front_fits : n ≤ length last
  front_fits = let e = ap length whole in let k = length-append w (drop (length w) d) in omega (arith, count)

  pub front_length : n ≡ length (take n last)
  front_length = count ∙ ap length (sym front_is)

-- all of p has been copied
pub placed_paste : (s p : List ℕ) (at : ℕ) → paste s at p (length p) ≡ placed s at p
placed_paste s p at = rw take-length (append_assoc (take at s) p (drop (at + length p) s))

-- a piece, and the next one right after it, are one piece
pub placed-placed : (s : List ℕ) (at : ℕ) (p q : List ℕ) → at + length p + length q ≤ length s → placed (placed s at p) (at + length p) q ≡ placed s at (p ++ q)
placed-placed s at p q h =
    let x : List ℕ = take at s ++ p in
    let n : length x ≡ at + length p = simp (length-append, length-take-le at s (omega arith)) in
    let k : at + length (p ++ q) ≡ at + length p + length q = simp length-append (omega arith) in
    let b : placed s at p ≡ x ++ drop (at + length p) s = sym (append_assoc (take at s) p (drop (at + length p) s)) in
    let t : take (at + length p) (placed s at p) ≡ x = ap (take (at + length p)) b ∙ take_at x (drop (at + length p) s) (at + length p) n in
    let d : drop (at + length p + length q) (placed s at p) ≡ drop (at + length p + length q) s =
    ap (drop (at + length p + length q)) b ∙ ap (λ j. drop (j + length q) (x ++ drop (at + length p) s)) (sym n) ∙ drop-append-add x (drop (at + length p) s) (length q) ∙ drop-drop (length q) (at + length p) s in
    rw (t, d, k) (simp append_assoc)

-- a single store is a piece of one element
pub put_one : (s : List ℕ) (at x : ℕ) → at < length s → Puts s at (x ∷ []) (set s at x) (at + 1)
put_one s at x h = (omega arith, rw add-one (set_split s at x h))

-- What b is after pieces were written into s from offset `start` on, up to `at`: together they are p.
pub record Written (s : List ℕ) (start : ℕ) (p b : List ℕ) (at : ℕ) : Type 0 where
  pub past : at ≡ start + length p
  pub holds : b ≡ placed s start p
  pub long : length b ≡ length s

pub nothing : (s : List ℕ) (start : ℕ) → Written s start [] s start
nothing s start =
    let e : start + 0 ≡ start = omega arith in
    record { past = sym e; holds = sym (rw e (take-append-drop start s)); long = refl }

-- one piece more
pub more : {s b : List ℕ} {start : ℕ} {p : List ℕ} {at : ℕ} (q b' : List ℕ) (at' : ℕ) → Written s start p b at → Puts b at q b' at' → length b' ≡ length b → start + length p + length q ≤ length s → Written s start (p ++ q) b' at'
more {s} {b} {start} {p} {at} q b' at' w f k h =
    let l : length (p ++ q) ≡ length p + length q = length-append p q in
    record {
      past = omega (arith, w.past, f.0);
      holds = rw (f.1, w.holds, w.past) (placed-placed s start p q h);
      long = k ∙ w.long;
    }

-- A list of equal elements in two parts.
module _ (n m a : ℕ) (h : n ≤ m) where
  two_parts : replicate m a ≡ replicate n a ++ replicate (m - n) a
  two_parts = let e : m ≡ n + (m - n) = omega arith in ap (λ k. replicate k a) e ∙ sym (replicate-append-replicate n (m - n) a)

  pub take-replicate : take n (replicate m a) ≡ replicate n a
  take-replicate = ap (take n) two_parts ∙ take_at (replicate n a) (replicate (m - n) a) n (length-replicate n a)

  pub drop-replicate : drop n (replicate m a) ≡ replicate (m - n) a
  drop-replicate = ap (drop n) two_parts ∙ drop_at (replicate n a) (replicate (m - n) a) n (length-replicate n a)
