-- The nine bytes that a sheet opens with: read back, exactly those, and no further. Assumes nothing.
use mathlib.Core.Path.{◌≡◌, refl, ap, ◌∙◌}
use mathlib.Core.Bool.{Bool, true, false, ◌&&◌}
use mathlib.Core.List.{List, [], ◌∷◌, ◌++◌}
use Prim.Native.Nat.{ℕ, suc, ◌<◌, ◌≤◌}
use native.Mathlib.Omega.{arith}
use lib.Dec.{leb, eqb}
use lib.ListN.{length, drop, length-append, length-drop, get_or-append}
use lib.Seq.{drop-append-le, drop-cons}
use borrow.Author.Tests.{le-leb, leb-true, eqb-true}
use Rattle.model.specs.Lists.{between, starts_with}
use Rattle.model.specs.Sheet.{got, fault, must, Counts, mark, byte, counts_at, sixteen, opening, header}
use Rattle.model.specs.Range.{CountsIn}
use Rattle.model.proofs.Lists.{never, and_split, and_join}
use Rattle.model.proofs.Steps.{same-got, held, longer, Within}

pub between_in : (low high n : ℕ) → low ≤ n → n ≤ high → between low high n ≡ true
between_in low high n h g = and_join (le-leb low n h) (le-leb n high g)

pub between_out : (low high n : ℕ) → between low high n ≡ true → (low ≤ n) × (n ≤ high)
between_out low high n h =
    let a = and_split (leb low n) (leb n high) h in
    (leb-true low n a.0, leb-true n high a.1)

-- read back
pub opening_reads : (c : Counts) (zs : List ℕ) → CountsIn c → opening (header c ++ zs) ≡ got c zs
unfolding opening starts_with
opening_reads c zs h =
    rw (
      le-leb 9 (length (header c ++ zs)) (omega arith),
      between_in 1 8 c.letter_count h.of_letters.0 h.of_letters.1,
      between_in 0 6 c.field_count (omega arith) h.of_fields,
      between_in 1 4 c.equation_count h.of_equations.0 h.of_equations.1,
      between_in 0 4 c.constraint_count (omega arith) h.of_constraints,
    )

-- exactly those
pub starts_with_lem : (ps xs : List ℕ) → starts_with ps xs ≡ true → xs ≡ ps ++ drop (length ps) xs
unfolding starts_with
starts_with_lem [] xs h = refl
starts_with_lem (p ∷ ps) [] h = never h
starts_with_lem (p ∷ ps) (x ∷ xs) h =
    let a = and_split (eqb x p) (starts_with ps xs) h in
    rw (eqb-true x p a.0) (ap (λ l. p ∷ l) (starts_with_lem ps xs a.1))

module _ (b : List ℕ) (long : 9 ≤ length b) (marked : starts_with mark b ≡ true) (version : sixteen (byte b 3) (byte b 4) ≡ 1) where
  next : (k : ℕ) (rest : List ℕ) → k < 9 → drop (suc k) b ≡ rest → drop k b ≡ byte b k ∷ rest
  next k rest h g = drop-cons b k 0 (omega arith) ∙ ap (λ l. byte b k ∷ l) g

  nine_bytes : b ≡ header (counts_at b) ++ drop 9 b
  nine_bytes =
      let high : byte b 3 ≡ 0 = omega arith in
      let low : byte b 4 ≡ 1 = omega arith in
      let tail = next 3 _ (omega arith) (next 4 _ (omega arith) (next 5 _ (omega arith) (next 6 _ (omega arith) (next 7 _ (omega arith) (next 8 _ (omega arith) refl))))) in
      starts_with_lem mark b marked ∙ ap (λ l. mark ++ l) (tail ∙ rw (high, low))

pub record Opened (b : List ℕ) (c : Counts) (zs : List ℕ) : Type 0 where
  pub long : 9 ≤ length b
  pub bytes : b ≡ header c ++ zs
  pub rest : zs ≡ drop 9 b
  pub counts : c ≡ counts_at b
  pub counts_in : CountsIn c

pub opening_exact : (b : List ℕ) {c : Counts} {zs : List ℕ} → opening b ≡ got c zs → Opened b c zs
unfolding opening
opening_exact b h =
    let m = held (leb 9 (length b)) 1 _ h in
    let n = held (starts_with mark b) 2 _ m.1 in
    let o = held (eqb (sixteen (byte b 3) (byte b 4)) 1) 3 _ n.1 in
    let l = held (between 1 8 (byte b 5)) 4 _ o.1 in
    let v = held (between 0 6 (byte b 6)) 5 _ l.1 in
    let e = held (between 1 4 (byte b 7)) 6 _ v.1 in
    let r = held (between 0 4 (byte b 8)) 7 _ e.1 in
    let long = leb-true 9 (length b) m.0 in
    same-got (Opened b) r.1
    (record {
      long = long;
      bytes = nine_bytes b long n.0 (eqb-true _ 1 o.0);
      rest = refl;
      counts = refl;
      counts_in = record {
        of_letters = between_out 1 8 (byte b 5) l.0;
        of_fields = (between_out 0 6 (byte b 6) v.0).1;
        of_equations = between_out 1 4 (byte b 7) e.0;
        of_constraints = (between_out 0 4 (byte b 8) r.0).1;
      };
    })

-- no further
pub starts_longer : (ps xs ys : List ℕ) → length ps ≤ length xs → starts_with ps (xs ++ ys) ≡ starts_with ps xs
unfolding starts_with
starts_longer [] xs ys h = refl
starts_longer (p ∷ ps) [] ys h = absurd (omega arith)
starts_longer (p ∷ ps) (x ∷ xs) ys h = ap (λ t. eqb x p && t) (starts_longer ps xs ys (omega arith))

opening_longer : (xs ys : List ℕ) → 9 ≤ length xs → opening (xs ++ ys) ≡ longer ys (opening xs)
unfolding opening
opening_longer xs ys h =
    let same : (k : ℕ) → k < 9 → byte (xs ++ ys) k ≡ byte xs k = λ k g. get_or-append xs ys 0 k (omega arith) in
    rw (
      le-leb 9 (length (xs ++ ys)) (rw (length-append xs ys) (omega arith)),
      le-leb 9 (length xs) h,
      starts_longer mark xs ys (omega arith),
      same 3 (omega arith),
      same 4 (omega arith),
      same 5 (omega arith),
      same 6 (omega arith),
      same 7 (omega arith),
      same 8 (omega arith),
      drop-append-le 9 xs ys h,
    )
    (longer_musts (starts_with mark xs) (eqb (sixteen (byte xs 3) (byte xs 4)) 1) (between 1 8 (byte xs 5)) (between 0 6 (byte xs 6)) (between 1 4 (byte xs 7)) (between 0 4 (byte xs 8)))
  where
    longer_musts : (m n l v e r : Bool) → must m 2 (must n 3 (must l 4 (must v 5 (must e 6 (must r 7 (got (counts_at xs) (drop 9 xs ++ ys))))))) ≡ longer ys (must m 2 (must n 3 (must l 4 (must v 5 (must e 6 (must r 7 (got (counts_at xs) (drop 9 xs))))))))
    longer_musts false n l v e r = refl
    longer_musts true false l v e r = refl
    longer_musts true true false v e r = refl
    longer_musts true true true false e r = refl
    longer_musts true true true true false r = refl
    longer_musts true true true true true false = refl
    longer_musts true true true true true true = refl

pub within-opening : Within 9 opening
within-opening = record {
  local = opening_longer;
  spends = λ xs e. let o = opening_exact xs e in omega (arith, o.long, length-drop 9 xs, ap length o.rest);
}

-- by its tests, one after another: the fault of the first that fails
module _ (b : List ℕ) where
  pub opening-short : leb 9 (length b) ≡ false → opening b ≡ fault 1
  unfolding opening
  opening-short e = rw e

  module _ (long : leb 9 (length b) ≡ true) where
    pub opening_unmarked : starts_with mark b ≡ false → opening b ≡ fault 2
    unfolding opening
    opening_unmarked e = rw (long, e)

    module _ (marked : starts_with mark b ≡ true) where
      pub opening_version : eqb (sixteen (byte b 3) (byte b 4)) 1 ≡ false → opening b ≡ fault 3
      unfolding opening
      opening_version e = rw (long, marked, e)

      module _ (version : eqb (sixteen (byte b 3) (byte b 4)) 1 ≡ true) where
        pub opening-letters : between 1 8 (byte b 5) ≡ false → opening b ≡ fault 4
        unfolding opening
        opening-letters e = rw (long, marked, version, e)

        module _ (letters : between 1 8 (byte b 5) ≡ true) where
          pub opening-fields : between 0 6 (byte b 6) ≡ false → opening b ≡ fault 5
          unfolding opening
          opening-fields e = rw (long, marked, version, letters, e)

          module _ (fields : between 0 6 (byte b 6) ≡ true) where
            pub opening-equations : between 1 4 (byte b 7) ≡ false → opening b ≡ fault 6
            unfolding opening
            opening-equations e = rw (long, marked, version, letters, fields, e)

            module _ (equations : between 1 4 (byte b 7) ≡ true) where
              pub opening-constraints : between 0 4 (byte b 8) ≡ false → opening b ≡ fault 7
              unfolding opening
              opening-constraints e = rw (long, marked, version, letters, fields, equations, e)

              pub opening-passes : between 0 4 (byte b 8) ≡ true → opening b ≡ got (counts_at b) (drop 9 b)
              unfolding opening
              opening-passes e = rw (long, marked, version, letters, fields, equations, e)
