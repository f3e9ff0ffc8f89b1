-- Pieces written one after another into a buffer. Assumes nothing.
use mathlib.Core.Path.{◌≡◌, sym, ap, subst, ◌∙◌}
use mathlib.Core.List.{List, [], ◌∷◌, ◌++◌, append_assoc}
use Prim.Native.Nat.{ℕ, ◌+◌, ◌≤◌}
use native.Mathlib.Omega.{arith}
use lib.ListN.{length, set, length-append, length-set}
use Rattle.model.specs.Lists.{Puts}
use Rattle.model.proofs.Seams.{Written, nothing, more, put_one}

-- a piece and those after it, put together
unfoldable pub joined : List ℕ → List (List ℕ) → List ℕ
joined p [] = p
joined p (q ∷ others) = p ++ joined q others

-- What b is while w is written into s from offset `start` on: the pieces p and others, the last of w, are still to be written, from `at` on.
pub record Writing (s : List ℕ) (start : ℕ) (w p : List ℕ) (others : List (List ℕ)) (b : List ℕ) (at : ℕ) : Type 0 where
  pub done : List ℕ
  pub whole : w ≡ done ++ joined p others
  pub written : Written s start done b at
  pub room : start + length w ≤ length s

pub begin : (s : List ℕ) (start : ℕ) (w p : List ℕ) (others : List (List ℕ)) → w ≡ joined p others → start + length w ≤ length s
    → Writing s start w p others s start
begin s start w p others e h = record { done = []; whole = e; written = nothing s start; room = h }

first-length : (p : List ℕ) (others : List (List ℕ)) → length p ≤ length (joined p others)
unfolding joined
first-length p [] = omega arith
first-length p (q ∷ others) = let n = length-append p (joined q others) in omega arith

module _ {s : List ℕ} {start : ℕ} {w p b : List ℕ} {at : ℕ} where
  -- there is room for the next piece
  pub fits : {others : List (List ℕ)} → Writing s start w p others b at → at + length p ≤ length b
  fits {others} v =
      let e = ap length v.whole in
      let n = length-append v.done (joined p others) in
      let m = first-length p others in
      omega (arith, v.room, v.written.past, v.written.long)

  -- the next piece has been written
  stands : {others : List (List ℕ)} (b' : List ℕ) (at' : ℕ) (v : Writing s start w p others b at) → Puts b at p b' at' → length b' ≡ length b
      → Written s start (v.done ++ p) b' at'
  stands b' at' v f k = let here = fits v in more p b' at' v.written f k (omega (arith, v.written.past, v.written.long))

  pub next : {q : List ℕ} {others : List (List ℕ)} {b' : List ℕ} {at' : ℕ} → Writing s start w p (q ∷ others) b at → Puts b at p b' at'
      → length b' ≡ length b → Writing s start w q others b' at'
  unfolding joined
  next {q} {others} {b'} {at'} v f k =
      record {
        done = v.done ++ p;
        whole = v.whole ∙ sym (append_assoc v.done p (joined q others));
        written = stands b' at' v f k;
        room = v.room;
      }

  -- and it was the last one
  pub ends : (b' : List ℕ) (at' : ℕ) → Writing s start w p [] b at → Puts b at p b' at' → length b' ≡ length b → Puts s start w b' at'
  unfolding joined
  ends b' at' v f k = let z = stands b' at' v f k in subst (λ x. Puts s start x b' at') (sym v.whole) (z.past, z.holds)

-- a single store is the last piece
pub stored : {s : List ℕ} {start : ℕ} {w b : List ℕ} {at x : ℕ} → Writing s start w (x ∷ []) [] b at
    → Puts s start w (set b at x) (at + 1)
stored {s} {start} {w} {b} {at} {x} v =
    let here = fits v in ends (set b at x) (at + 1) v (put_one b at x (omega arith)) (length-set b at x)
