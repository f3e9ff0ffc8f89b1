-- Every assignment of an accepted sheet's variables has a text that lists it: the line `s SATISFIABLE`, and one v line with the numbers of the
-- true variables and then 0. So what demand 3 says of texts that list an assignment is said of some text. Assumes nothing.
use mathlib.Core.Path.{◌≡◌, refl, sym, ap, ◌∙◌}
use mathlib.Core.Bool.{Bool, true, false, ◌||◌}
use mathlib.Core.List.{List, [], ◌∷◌, ◌++◌, map, append_assoc, append-nil}
use Prim.Native.Nat.{ℕ, zero, suc, ◌+◌, ◌-◌, ◌*◌, ◌<◌, ◌≤◌}
use native.Mathlib.Omega.{arith}
use lib.Arith.{lt_of_le-ne}
use lib.Dec.{leb, ltb, eqb}
use lib.IntN.{pos, nat_abs}
use lib.ListN.{length, get_or, drop, length-append, length-map}
use borrow.Author.Tests.{eq-eqb, ne_eqb, le-leb, ltb-true, eqb-true, eqb-false}
use Rattle.model.specs.Lists.{same, starts_with, each, from, all, any, keep, All, Bytes}
use Rattle.model.specs.Sheet.{Accepted, sheet_of}
use Rattle.formula.specs.Numbering.{variables}
use Rattle.formula.specs.Dimacs.{decimal, value_from, value_of, literal_bytes, numbers_from, numbers}
use Rattle.formula.specs.Assignment.{Assignment}
use Rattle.calls.specs.Reply.{split, lines, spaced, line_ended, figure, magnitude, signless, is_number, satisfiable_line, value_line, known, before, one_status, line_numbers, given, closed, in_count, distinct, given_once, is_plus, assigned, Lists}
use Rattle.model.proofs.Lists.{by_test, and_join, or_right, append_in, each_in, map_in, weaken, all_out, all_in}
use Rattle.model.proofs.Keeping.{one_in, keep_in, keep-short, from_in, each-most, length_from, second_at, map-append}
use Rattle.formula.proofs.Figures.{Figure, decimal-digits, decimal-value, decimal-first, decimal-short_four}
use Rattle.formula.proofs.Lines.{literals-read}
use Rattle.formula.proofs.Small.{variables-small}
use Rattle.formula.proofs.Numbering.{variable_count_lem}
use Rattle.model.proofs.Known.{accepted_in_range}
use Rattle.calls.proofs.Splitting.{split_piece}

-- the v line of numbers ns, and the text
abbrev values_of : List ℕ → List ℕ
values_of ns = each (map pos ns) literal_bytes

abbrev v_line : List ℕ → List ℕ
v_line ns = 118 ∷ 32 ∷ (values_of ns ++ (48 ∷ []))

unfoldable listing : List ℕ → List ℕ
listing ns = satisfiable_line ++ (10 ∷ (v_line ns ++ (10 ∷ [])))

-- numbers of 1 to 4 digits
abbrev Small : ℕ → Type 0
Small n = (1 ≤ n) × (n ≤ 9999)

-- Each of them is a number in the reply form.
digits_number : (n : ℕ) → Small n → is_number (decimal n) ≡ true
unfolding is_number starts_with value_from All
digits_number n h =
    or_right (same (decimal n) (48 ∷ [])) (of (decimal n) (decimal-value n) (decimal-digits n) (decimal-short_four n h.1) (decimal-first n h.0))
  where
    of : (ds : List ℕ) → value_of ds ≡ n → All Figure ds → length ds ≤ 4 → (get_or ds 0 0 ≡ 48 → ⊥) → magnitude (signless ds) ≡ true
    of [] e a b c = let l = h.0 in absurd (omega arith)
    of (d ∷ ds) e a b c =
        let low = a.0.0 in
        let figures = all_in figure (d ∷ ds) (weaken Figure (λ x. figure x ≡ true) (d ∷ ds) (λ x k. and_join (le-leb 48 x k.0) (le-leb x 57 k.1)) a) in
        rw (ne_eqb d 45 (λ q. omega arith), ne_eqb d 48 c)
        (and_join (and_join (le-leb 1 (suc (length ds)) (omega arith)) (le-leb (suc (length ds)) 9 (omega arith))) (and_join figures refl))

-- What a v line's pieces and numbers are.
values-split : (ns ys : List ℕ) → split 32 (values_of ns ++ ys) ≡ map decimal ns ++ split 32 ys
unfolding each
values-split [] ys = refl
values-split (n ∷ ns) ys =
    ap (split 32) (append_assoc (literal_bytes (pos n)) (values_of ns) ys ∙ append_assoc (decimal n) (32 ∷ []) (values_of ns ++ ys))
    ∙ split_piece 32 (decimal n) (values_of ns ++ ys) (weaken Figure _ (decimal n) (λ x k e. let low = k.0 in omega arith) (decimal-digits n))
    ∙ ap (λ z. decimal n ∷ z) (values-split ns ys)

v_spaced : (ns : List ℕ) → drop 2 (spaced (v_line ns)) ≡ values_of ns ++ (48 ∷ 32 ∷ [])
v_spaced ns = append_assoc (values_of ns) (48 ∷ []) (32 ∷ [])

v_known : (ns : List ℕ) → All Small ns → value_line (v_line ns) ≡ true
unfolding value_line split same is_number All
v_known ns h =
    ap (all is_number) (ap (split 32) (v_spaced ns) ∙ values-split ns (48 ∷ 32 ∷ []))
    ∙ all_in is_number (map decimal ns ++ ((48 ∷ []) ∷ []))
    (append_in (λ p. is_number p ≡ true) (map decimal ns) ((48 ∷ []) ∷ []) (map_in _ decimal ns (weaken Small _ ns digits_number h)) (refl, tt))

v_numbers : (ns : List ℕ) → All Small ns → line_numbers (v_line ns) ≡ map pos ns ++ (pos 0 ∷ [])
unfolding line_numbers numbers_from
v_numbers ns h = rw (v_known ns h) (ap numbers (v_spaced ns) ∙ literals-read (map pos ns) (48 ∷ 32 ∷ []))

-- What holds of figures and of the space holds of what stands after `v`.
v_all : (P : ℕ → Type 0) → ((x : ℕ) → Figure x → P x) → P 32 → (ns : List ℕ) → All P (values_of ns ++ (48 ∷ []))
unfolding All
v_all P figures space ns =
    append_in P (values_of ns) (48 ∷ [])
    (each_in P (map pos ns) literal_bytes (map_in _ pos ns (every ns)))
    (figures 48 (omega arith, omega arith), tt)
  where
    every : (ms : List ℕ) → All (λ n. All P (literal_bytes (pos n))) ms
    every [] = tt
    every (m ∷ ms) = (append_in P (decimal m) (32 ∷ []) (weaken Figure P (decimal m) figures (decimal-digits m)) (space, tt), every ms)

listing-lines : (ns : List ℕ) → lines (listing ns) ≡ satisfiable_line ∷ v_line ns ∷ []
unfolding listing split All
listing-lines ns =
    let none = v_all (λ x. x ≡ 10 → ⊥) (λ x k e. let low = k.0 in omega arith) (λ e. omega arith) ns in
    ap (λ ls. satisfiable_line ∷ ls) (split_piece 10 (v_line ns) [] ((λ e. omega arith), ((λ e. omega arith), none)))

listing_bytes : (ns : List ℕ) → Bytes (listing ns)
unfolding listing All all
listing_bytes ns =
    append_in (λ x. x < 256) (satisfiable_line ++ (10 ∷ 118 ∷ 32 ∷ [])) ((values_of ns ++ (48 ∷ [])) ++ (10 ∷ []))
    (weaken _ _ (satisfiable_line ++ (10 ∷ 118 ∷ 32 ∷ [])) (λ x e. ltb-true x 256 e) (all_out (λ x. ltb x 256) (satisfiable_line ++ (10 ∷ 118 ∷ 32 ∷ [])) refl))
    (append_in (λ x. x < 256) (values_of ns ++ (48 ∷ [])) (10 ∷ []) (v_all (λ x. x < 256) (λ x k. let high = k.1 in omega arith) (omega arith) ns) (omega arith, tt))

listing-ended : (ns : List ℕ) → line_ended (listing ns) ≡ true
unfolding line_ended listing
listing-ended ns = or_right (eqb (length (listing ns)) 0) (eq-eqb _ 10 (last (satisfiable_line ++ (10 ∷ v_line ns))))
  where
    last : (xs : List ℕ) → get_or (xs ++ (10 ∷ [])) (length (xs ++ (10 ∷ [])) - 1) 0 ≡ 10
    last xs =
        let n = length-append xs (10 ∷ []) in
        let e : length (xs ++ (10 ∷ [])) - 1 ≡ length xs + 0 = omega arith in
        rw e (second_at 0 xs (10 ∷ []) (length xs) 0 refl)

module _ (ns : List ℕ) (small : All Small ns) where
  listing-known : all known (lines (listing ns)) ≡ true
  unfolding known all same starts_with
  listing-known = ap (all known) (listing-lines ns) ∙ rw (v_known ns small)

  listing_status : one_status (lines (listing ns)) ≡ true
  unfolding one_status keep before any same
  listing_status = ap one_status (listing-lines ns)

  listing-given : given (listing ns) ≡ map pos (ns ++ (0 ∷ []))
  unfolding given each line_numbers value_line split same
  listing-given =
      ap (λ ls. each ls line_numbers) (listing-lines ns) ∙ append-nil (line_numbers (v_line ns)) ∙ v_numbers ns small ∙ sym (map-append pos ns (0 ∷ []))

  listing-short : length (listing ns) ≤ 18 + length ns * 5
  unfolding listing
  listing-short =
      let each-short = map_in (λ z. length (literal_bytes z) ≤ 5) pos ns (weaken Small _ ns short small) in
      let m = each-most 5 literal_bytes (map pos ns) each-short in
      let n = length-map ns pos in
      let a = length-append (values_of ns) (48 ∷ []) in
      let b = length-append (values_of ns ++ (48 ∷ [])) (10 ∷ []) in
      omega arith
    where
      short : (n : ℕ) → Small n → length (literal_bytes (pos n)) ≤ 5
      short n h = let d = decimal-short_four n h.1 in let e = length-append (decimal n) (32 ∷ []) in omega arith

-- Its numbers: the 0 is the last, and they are what they are without a sign.
closed_last : (ns : List ℕ) → All (λ n. 1 ≤ n) ns → closed (map pos (ns ++ (0 ∷ []))) ≡ true
unfolding closed All
closed_last [] h = refl
closed_last (n ∷ ns) h = let low = h.0 in rw (ne_eqb n 0 (λ e. omega arith)) (closed_last ns h.1)

unsign : (ms : List ℕ) → map nat_abs (map pos ms) ≡ ms
unsign [] = refl
unsign (m ∷ ms) = ap (λ l. m ∷ l) (unsign ms)

plus_any : (k : ℕ) (ms : List ℕ) → any (is_plus k) (map pos ms) ≡ any (λ m. eqb m k) ms
unfolding any
plus_any k [] = refl
plus_any k (m ∷ ms) = ap (λ b. eqb m k || b) (plus_any k ms)

-- The true ones of the numbers from a on, and then 0: k is among them where it is true, p being the test for k.
module _ (w : Assignment) where
  abbrev true_from : ℕ → ℕ → List ℕ
  true_from a n = keep w (from a n)

  module _ (k : ℕ) (low : 1 ≤ k) (p : ℕ → Bool) (yes : p k ≡ true) (no : (x : ℕ) → (x ≡ k → ⊥) → p x ≡ false) where
    absent : (a n : ℕ) → k < a → any p (true_from a n ++ (0 ∷ [])) ≡ false
    unfolding any keep from
    absent a zero l = rw (no 0 (λ e. omega arith))
    absent a (suc n) l = by_test (w a)
        (λ t. rw (t, no a (λ e. omega arith)) (absent (suc a) n (omega arith)))
        (λ t. rw t (absent (suc a) n (omega arith)))

    present : (a n : ℕ) → a ≤ k → k < a + n → any p (true_from a n ++ (0 ∷ [])) ≡ w k
    unfolding any keep from
    present a zero l h = absurd (omega arith)
    present a (suc n) l h = by_test (eqb a k)
        (λ e.
        let q = eqb-true a k e in
        by_test (w a)
        (λ t. rw (t, ap p q ∙ yes) (sym (ap w (sym q) ∙ t)))
        (λ t. rw t (absent (suc a) n (omega arith) ∙ sym (ap w (sym q) ∙ t))))
        (λ e.
        let q = eqb-false a k e in
        let m : a < k = lt_of_le-ne l q in
        by_test (w a)
        (λ t. rw (t, no a q) (present (suc a) n (omega arith) (omega arith)))
        (λ t. rw t (present (suc a) n (omega arith) (omega arith))))

  once : (a n : ℕ) → 1 ≤ a → distinct (true_from a n ++ (0 ∷ [])) ≡ true
  unfolding distinct keep from any
  once a zero h = refl
  once a (suc n) h = by_test (w a)
      (λ t. rw (t, absent a h (eqb a) (eq-eqb a a refl) (λ x ne. ne_eqb a x (λ e. ne (sym e))) (suc a) n (omega arith)) (once (suc a) n (omega arith)))
      (λ t. rw t (once (suc a) n (omega arith)))

-- "any text of at most 65,536 bytes that lists it in the reply form": of every assignment of an accepted sheet there is one.
pub has_listing : (b : List ℕ) → Bytes b → Accepted b → (w : Assignment) → (t : List ℕ) × Bytes t × (length t ≤ 65536) × Lists (sheet_of b) t w
unfolding in_count assigned
has_listing b y ok w =
    let s = sheet_of b in
    let count : ℕ = length (variables s) in
    let few : count ≤ 5648 = let v = variable_count_lem s in let m = variables-small s (accepted_in_range b y ok) in omega arith in
    let ns : List ℕ = true_from w 1 count in
    let in_range = keep_in (λ n. (1 ≤ n) × (n ≤ count)) w (from 1 count) (from_in _ 1 count (λ n low high e. (low, omega arith))) in
    let small = weaken _ Small ns (λ n k. let high = k.1 in (k.0, omega arith)) in_range in
    let numbers-are = listing-given ns small in
    let bounded = append_in (λ n. leb n count ≡ true) ns (0 ∷ []) (weaken _ _ ns (λ n k. le-leb n count k.1) in_range) (one_in _ (le-leb 0 count (omega arith))) in
    let size = listing-short ns small in
    let number-of-them = keep-short w (from 1 count) in
    let range_size = length_from 1 count in (
      listing ns,
      listing_bytes ns,
      omega arith,
      record {
        keeps31 = listing-ended ns;
        keeps32 = listing-known ns small;
        keeps33 = listing_status ns small;
        keeps34 = ap closed numbers-are ∙ closed_last ns (weaken _ _ ns (λ n k. k.0) in_range);
        keeps35 = ap (in_count count) numbers-are ∙ all_in _ (map pos (ns ++ (0 ∷ []))) (map_in _ pos (ns ++ (0 ∷ [])) bounded);
        keeps36 = ap given_once numbers-are ∙ ap distinct (unsign (ns ++ (0 ∷ []))) ∙ once w 1 count (omega arith);
        same_truth = λ k low high.
            ap (any (is_plus k)) numbers-are
            ∙ plus_any k (ns ++ (0 ∷ []))
            ∙ present w k low (λ m. eqb m k) (eq-eqb k k refl) (λ x ne. ne_eqb x k ne) 1 count low (omega arith);
      },
    )
