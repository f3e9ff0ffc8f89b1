-- A file's mark and version, whatever the mark: what code asks one after another, the five bytes that they are, and that more bytes do not matter. Assumes nothing.
use mathlib.Core.Path.{◌≡◌, ap, ◌∙◌}
use mathlib.Core.Bool.{true, false, ◌&&◌}
use mathlib.Core.List.{List, ◌∷◌, ◌++◌}
use Prim.Native.Nat.{ℕ, ◌<◌, ◌≤◌}
use native.Mathlib.Omega.{arith}
use lib.Dec.{leb, eqb}
use lib.ListN.{length, drop, length-append, get_or-append}
use lib.Seq.{drop-cons}
use borrow.Author.Tests.{le-leb, leb-true, eqb-true}
use Rattle.model.specs.Lists.{starts_with}
use Rattle.model.specs.Sheet.{sixteen, byte, bytes_of}
use Rattle.model.proofs.Lists.{and_split}
use Rattle.model.proofs.Opening.{starts_with_lem, starts_longer}
use Rattle.book.specs.Book.{opens}

module _ (mark b : List ℕ) where
  pub opens-short : leb 5 (length b) ≡ false → opens mark b ≡ false
  unfolding opens
  opens-short e = rw e

  module _ (long : leb 5 (length b) ≡ true) where
    pub opens_unmarked : starts_with mark b ≡ false → opens mark b ≡ false
    unfolding opens
    opens_unmarked e = rw (long, e)

    pub opens_version : starts_with mark b ≡ true → opens mark b ≡ eqb (sixteen (byte b 3) (byte b 4)) 1
    unfolding opens
    opens_version e = rw (long, e)

  opens-parts : opens mark b ≡ true → (5 ≤ length b) × (starts_with mark b ≡ true) × (sixteen (byte b 3) (byte b 4) ≡ 1)
  unfolding opens
  opens-parts h =
      let a = and_split (leb 5 (length b)) (starts_with mark b && eqb (sixteen (byte b 3) (byte b 4)) 1) h in
      let c = and_split (starts_with mark b) (eqb (sixteen (byte b 3) (byte b 4)) 1) a.1 in
      (leb-true 5 (length b) a.0, c.0, eqb-true _ 1 c.1)

  pub opens-long : opens mark b ≡ true → 5 ≤ length b
  opens-long h = (opens-parts h).0

  pub five_bytes : length mark ≡ 3 → opens mark b ≡ true → b ≡ mark ++ (bytes_of 1 ++ drop 5 b)
  five_bytes three h =
      let p = opens-parts h in
      let high : byte b 3 ≡ 0 = omega (arith, p.2) in
      let low : byte b 4 ≡ 1 = omega (arith, p.2) in
      starts_with_lem mark b p.1
      ∙ ap (λ l. mark ++ l)
      (ap (λ n. drop n b) three ∙ drop-cons b 3 0 (omega (arith, p.0)) ∙ ap (λ l. byte b 3 ∷ l) (drop-cons b 4 0 (omega (arith, p.0))) ∙ rw (high, low))

pub opens_longer : (mark xs ys : List ℕ) → length mark ≡ 3 → 5 ≤ length xs → opens mark (xs ++ ys) ≡ opens mark xs
unfolding opens
opens_longer mark xs ys three h =
    let same : (k : ℕ) → k < 5 → byte (xs ++ ys) k ≡ byte xs k = λ k g. get_or-append xs ys 0 k (omega arith) in
    rw (
      le-leb 5 (length (xs ++ ys)) (rw (length-append xs ys) (omega arith)),
      le-leb 5 (length xs) h,
      starts_longer mark xs ys (omega arith),
      same 3 (omega arith),
      same 4 (omega arith),
    )
