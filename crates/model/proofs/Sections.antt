-- The sections of a sheet: a row that passes is a section within the ranges, and the other way round; so an equation's walk
-- and a constraint's walk are faithful to their bytes. Assumes nothing.
use mathlib.Core.Path.{◌≡◌, refl, sym, ap, ◌∙◌}
use mathlib.Core.Bool.{true, ◌&&◌}
use mathlib.Core.List.{List, [], ◌∷◌, ◌++◌, map, append_assoc}
use Prim.Native.Nat.{ℕ, ◌+◌, ◌/◌, ◌%◌, ◌<◌, ◌≤◌}
use native.Mathlib.Omega.{arith}
use lib.Dec.{leb, ltb}
use lib.IntN.{ℤ, nat_abs}
use lib.ListN.{length, get_or, length-map}
use borrow.Author.Tests.{lt-ltb, le-ltb, le-leb, ltb-true, ltb-false, leb-true}
use Rattle.model.specs.Lists.{between, All, Bytes}
use Rattle.model.specs.Sheet.{Symbol, letter, field, Equation, Constraint, width, signed8, signed16, unsigned, sixteen, symbol_of, symbol_byte, Step, got, must, letter_byte, limit_byte, count_byte, template_byte, coefficient_byte, most_byte, passes, row, sides, an_equation, a_constraint, encode_equation, bytes_of, encode_constraint}
use Rattle.model.specs.Range.{Rising, SymbolIn, TemplateIn, EquationIn, ConstraintIn}
use Rattle.model.proofs.Lists.{by_test, and_split, and_join, or_left, or_right, or_cases, weaken, at, map_in, map_back}
use Rattle.model.proofs.Steps.{same-got, went, held}
use Rattle.model.proofs.Rows.{all_pass, all_pass_lem, pass_all, row_reads, row_exact}
use Rattle.model.proofs.Signed.{unsigned_signed, signed-unsigned, signed_in, sixteen_bytes, high_byte, low_byte, signed16_out, signed16_in, small_signed}
use Rattle.model.proofs.Faithful.{rest_bytes, Exact, Faithful}

-- letters
letter_out : (before x : ℕ) → passes letter_byte before x ≡ true → ((33 ≤ x) × (x ≤ 126)) × (before < x)
letter_out before x h =
    let a = and_split (between 33 126 x) (ltb before x) h in
    let b = and_split (leb 33 x) (leb x 126) a.0 in
    ((leb-true 33 x b.0, leb-true x 126 b.1), ltb-true before x a.1)

pub letters_pass : (before : ℕ) (xs : List ℕ) → All (λ x. (33 ≤ x) × (x ≤ 126)) xs → Rising before xs → all_pass letter_byte before xs ≡ true
unfolding all_pass All Rising
letters_pass before [] h r = refl
letters_pass before (x ∷ xs) h r =
    and_join (and_join (and_join (le-leb 33 x h.0.0) (le-leb x 126 h.0.1)) (lt-ltb before x r.0)) (letters_pass x xs h.1 r.1)

pub letters-rise : (before : ℕ) (xs : List ℕ) → all_pass letter_byte before xs ≡ true → Rising before xs
unfolding all_pass Rising
letters-rise before [] h = tt
letters-rise before (x ∷ xs) h =
    let a = and_split (passes letter_byte before x) (all_pass letter_byte x xs) h in
    ((letter_out before x a.0).1, letters-rise x xs a.1)

pub letters_in_range : (before : ℕ) (xs : List ℕ) → all_pass letter_byte before xs ≡ true → All (λ x. (33 ≤ x) × (x ≤ 126)) xs
letters_in_range before xs h = pass_all letter_byte (λ x. (33 ≤ x) × (x ≤ 126)) (λ b x e. (letter_out b x e).0) before xs h

-- limits
pub limits_pass : (xs : List ℕ) → All (λ n. n ≤ 8) xs → all_pass limit_byte 0 xs ≡ true
limits_pass xs h = all_pass_lem limit_byte (λ n. n ≤ 8) (λ b x e. le-leb x 8 e) 0 xs h

pub limits_in_range : (xs : List ℕ) → all_pass limit_byte 0 xs ≡ true → All (λ n. n ≤ 8) xs
limits_in_range xs h = pass_all limit_byte (λ n. n ≤ 8) (λ b x e. leb-true x 8 e) 0 xs h

-- a template's symbols
pub symbol_back : (x : ℕ) → symbol_byte (symbol_of x) ≡ x
symbol_back x =
    by_test (ltb x 128)
    (λ e. rw e)
    (λ e. let g = ltb-false x 128 e in rw e (omega arith))

module _ (l v : ℕ) (small : l ≤ 128) where
  symbol_in : (before x : ℕ) → passes (template_byte l v) before x ≡ true → SymbolIn l v (symbol_of x)
  symbol_in before x h =
      or_cases (ltb x l) (leb 128 x && ltb x (128 + v)) h
      (λ e. let g = ltb-true x l e in rw (lt-ltb x 128 (omega arith)) g)
      (λ e.
      let a = and_split (leb 128 x) (ltb x (128 + v)) e in
      let g = leb-true 128 x a.0 in
      let k = ltb-true x (128 + v) a.1 in
      rw (le-ltb x 128 g) (omega arith))

  pub symbol_again : (t : Symbol) → SymbolIn l v t → symbol_of (symbol_byte t) ≡ t
  symbol_again (letter a) h = rw (lt-ltb a 128 (omega arith))
  symbol_again (field f) h = rw (le-ltb (128 + f) 128 (omega arith)) (ap field (omega arith))

  symbol_pass : (t : Symbol) → SymbolIn l v t → passes (template_byte l v) 0 (symbol_byte t) ≡ true
  symbol_pass (letter a) h = or_left _ (lt-ltb a l h)
  symbol_pass (field f) h =
      or_right (ltb (128 + f) l) (and_join (le-leb 128 (128 + f) (omega arith)) (lt-ltb (128 + f) (128 + v) (omega arith)))

  symbols_pass : (t : List Symbol) → All (SymbolIn l v) t → all_pass (template_byte l v) 0 (map symbol_byte t) ≡ true
  symbols_pass t h =
      all_pass_lem (template_byte l v) (λ x. passes (template_byte l v) 0 x ≡ true) (λ b x e. e) 0 (map symbol_byte t)
      (map_in _ symbol_byte t (weaken (SymbolIn l v) _ t symbol_pass h))

  pub symbols_in : (xs : List ℕ) → all_pass (template_byte l v) 0 xs ≡ true → All (SymbolIn l v) (map symbol_of xs)
  symbols_in xs h =
      map_in (SymbolIn l v) symbol_of xs (pass_all (template_byte l v) (λ x. SymbolIn l v (symbol_of x)) symbol_in 0 xs h)

  pub symbols_again : (t : List Symbol) → All (SymbolIn l v) t → map symbol_of (map symbol_byte t) ≡ t
  symbols_again t h = map_back (SymbolIn l v) symbol_byte symbol_of t symbol_again h

pub symbols_back : (xs : List ℕ) → map symbol_byte (map symbol_of xs) ≡ xs
symbols_back [] = refl
symbols_back (x ∷ xs) = rw (symbol_back x, symbols_back xs)

-- an equation
counts_pass : (m n : ℕ) → m ≤ 12 → n ≤ 12 → all_pass count_byte 0 (m ∷ n ∷ []) ≡ true
unfolding all_pass
counts_pass m n h k = and_join (le-leb m 12 h) (and_join (le-leb n 12 k) refl)

module _ (l : ℕ) (limits : List ℕ) (small : l ≤ 128) where
  -- one template's symbols, read back
  pub template_reads : (t : List Symbol) (zs : List ℕ) → TemplateIn l limits t → row (template_byte l (length limits)) 0 (length t) (map symbol_byte t ++ zs) ≡ got (map symbol_byte t) zs
  template_reads t zs h =
      ap (λ n. row (template_byte l (length limits)) 0 n (map symbol_byte t ++ zs)) (sym (length-map t symbol_byte))
      ∙ row_reads (template_byte l (length limits)) 0 (map symbol_byte t) zs (symbols_pass l (length limits) small t h.symbols)

  equation_reads : (e : Equation) (zs : List ℕ) → EquationIn l limits e → an_equation l limits (encode_equation e ++ zs) ≡ got e zs
  unfolding an_equation sides
  equation_reads e zs h =
      let a = map symbol_byte e.left in
      let b = map symbol_byte e.right in
      rw (
        row_reads count_byte 0 (length e.left ∷ length e.right ∷ []) ((a ++ b) ++ zs) (counts_pass _ _ h.left_in.count h.right_in.count),
        append_assoc,
        template_reads e.left (b ++ zs) h.left_in,
        template_reads e.right zs h.right_in,
        symbols_again l (length limits) small e.left h.left_in.symbols,
        symbols_again l (length limits) small e.right h.right_in.symbols,
        le-leb (width limits e.left) 24 h.left_in.wide,
        le-leb (width limits e.right) 24 h.right_in.wide,
      )

pub counts_out : (m n : ℕ) → all_pass count_byte 0 (m ∷ n ∷ []) ≡ true → (m ≤ 12) × (n ≤ 12)
unfolding all_pass
counts_out m n h =
    let a = and_split (leb m 12) (leb n 12 && true) h in
    let b = and_split (leb n 12) true a.1 in
    (leb-true m 12 a.0, leb-true n 12 b.0)

-- a list of two
pub two : (ys : List ℕ) → length ys ≡ 2 → ys ≡ get_or ys 0 0 ∷ get_or ys 1 0 ∷ []
two [] h = absurd (omega arith)
two (x ∷ []) h = absurd (omega arith)
two (x ∷ y ∷ []) h = refl
two (x ∷ y ∷ z ∷ zs) h = absurd (omega arith)

module _ (l : ℕ) (limits : List ℕ) (small : l ≤ 128) where
  -- what an equation's walk got in each of its parts
  record Parts (xs : List ℕ) (e : Equation) (zs : List ℕ) : Type 0 where
    counts : List ℕ
    us : List ℕ
    ws : List ℕ
    xs1 : List ℕ
    xs2 : List ℕ
    xs3 : List ℕ
    of_counts : row count_byte 0 2 xs ≡ got counts xs1
    of_left : row (template_byte l (length limits)) 0 (get_or counts 0 0) xs1 ≡ got us xs2
    of_right : row (template_byte l (length limits)) 0 (get_or counts 1 0) xs2 ≡ got ws xs3
    left_wide : leb (width limits (map symbol_of us)) 24 ≡ true
    right_wide : leb (width limits (map symbol_of ws)) 24 ≡ true
    result : got (record { left = map symbol_of us; right = map symbol_of ws }) xs3 ≡ got e zs

  parts : (xs : List ℕ) {e : Equation} {zs : List ℕ} → an_equation l limits xs ≡ got e zs → Parts xs e zs
  unfolding an_equation sides
  parts xs h =
      let g = went (row count_byte 0 2 xs) _ h in
      let k = went (row (template_byte l (length limits)) 0 (get_or g.value 0 0) g.rest) _ g.second in
      let m = went (row (template_byte l (length limits)) 0 (get_or g.value 1 0) k.rest) _ k.second in
      let whole : Step Equation = got (record { left = map symbol_of k.value; right = map symbol_of m.value }) m.rest in
      let p = held (leb (width limits (map symbol_of k.value)) 24) 14 (must (leb (width limits (map symbol_of m.value)) 24) 14 whole) m.second in
      let q = held (leb (width limits (map symbol_of m.value)) 24) 14 whole p.1 in
      record {
        counts = g.value;
        us = k.value;
        ws = m.value;
        xs1 = g.rest;
        xs2 = k.rest;
        xs3 = m.rest;
        of_counts = g.first;
        of_left = k.first;
        of_right = m.first;
        left_wide = p.0;
        right_wide = q.0;
        result = q.1;
      }

  -- the bytes of the parts are those of the equation
  module _ (counts us ws xs3 : List ℕ) (nc : length counts ≡ 2) (nu : length us ≡ get_or counts 0 0) (nw : length ws ≡ get_or counts 1 0) where
    spelled : counts ++ (us ++ (ws ++ xs3)) ≡ encode_equation (record { left = map symbol_of us; right = map symbol_of ws }) ++ xs3
    spelled =
        ap (λ l. l ++ (us ++ (ws ++ xs3))) (two counts nc)
        ∙ rw (length-map us symbol_of, length-map ws symbol_of, symbols_back us, symbols_back ws, nu, nw, append_assoc us ws xs3)

  pub template_in : (n : ℕ) (us : List ℕ) → length us ≡ n → n ≤ 12 → all_pass (template_byte l (length limits)) 0 us ≡ true → leb (width limits (map symbol_of us)) 24 ≡ true → TemplateIn l limits (map symbol_of us)
  template_in n us e h p w = record {
    symbols = symbols_in l (length limits) small us p;
    count = rw (length-map us symbol_of) (omega arith);
    wide = leb-true _ 24 w;
  }

  pub equation_exact : (xs : List ℕ) {e : Equation} {zs : List ℕ} → an_equation l limits xs ≡ got e zs → Exact encode_equation (EquationIn l limits) xs e zs
  equation_exact xs h =
      let p = parts xs h in
      let c = row_exact count_byte 0 2 xs p.of_counts in
      let u = row_exact (template_byte l (length limits)) 0 (get_or p.counts 0 0) p.xs1 p.of_left in
      let w = row_exact (template_byte l (length limits)) 0 (get_or p.counts 1 0) p.xs2 p.of_right in
      let n = counts_out (get_or p.counts 0 0) (get_or p.counts 1 0) (rw (two p.counts c.count) at c.pass) in
      same-got (Exact encode_equation (EquationIn l limits) xs) p.result
      (record {
        bytes = c.bytes ∙ ap (λ l. p.counts ++ l) (u.bytes ∙ ap (λ l. p.us ++ l) w.bytes) ∙ spelled p.counts p.us p.ws p.xs3 c.count u.count w.count;
        ok = record {
          left_in = template_in _ p.us u.count n.0 u.pass p.left_wide;
          right_in = template_in _ p.ws w.count n.1 w.pass p.right_wide;
        };
      })

  pub equation_faithful : Faithful (an_equation l limits) encode_equation (EquationIn l limits)
  equation_faithful = record { reads = equation_reads l limits small; exact = λ xs b h. equation_exact xs h }

-- a constraint
coefficient_pass : (c : ℤ) → nat_abs c ≤ 4 → passes coefficient_byte 0 (unsigned 128 c) ≡ true
coefficient_pass c h = rw (signed-unsigned 128 c (small_signed c h)) (le-leb (nat_abs c) 4 h)

module _ (v : ℕ) where
  coefficients-read : (cs : List ℤ) (zs : List ℕ) → length cs ≡ v → All (λ c. nat_abs c ≤ 4) cs → row coefficient_byte 0 v (map (unsigned 128) cs ++ zs) ≡ got (map (unsigned 128) cs) zs
  coefficients-read cs zs e h =
      ap (λ n. row coefficient_byte 0 n (map (unsigned 128) cs ++ zs)) (sym (length-map cs (unsigned 128) ∙ e))
      ∙ row_reads coefficient_byte 0 (map (unsigned 128) cs) zs
      (all_pass_lem coefficient_byte (λ x. passes coefficient_byte 0 x ≡ true) (λ b x p. p) 0 (map (unsigned 128) cs)
      (map_in _ (unsigned 128) cs (weaken (λ c. nat_abs c ≤ 4) _ cs coefficient_pass h)))

  most-read : (m n : ℕ) (zs : List ℕ) → row most_byte 0 2 (m ∷ n ∷ zs) ≡ got (m ∷ n ∷ []) zs
  unfolding row
  most-read m n zs = refl

  constraint_reads : (r : Constraint) (zs : List ℕ) → ConstraintIn v r → a_constraint v (encode_constraint r ++ zs) ≡ got r zs
  unfolding a_constraint
  constraint_reads r zs h =
      let n = unsigned 32768 r.most in
      rw (
        append_assoc,
        coefficients-read r.coefficients (bytes_of n ++ zs) h.one_each h.small,
        most-read (n / 256) (n % 256) zs,
        map_back (λ c. nat_abs c ≤ 4) (unsigned 128) signed8 r.coefficients (λ c e. signed-unsigned 128 c (small_signed c e)) h.small,
        sixteen_bytes n,
        signed-unsigned 32768 r.most (signed16_out r.most h.most_in),
      )

  record Pieces (xs : List ℕ) (r : Constraint) (zs : List ℕ) : Type 0 where
    cs : List ℕ
    m : List ℕ
    xs1 : List ℕ
    xs2 : List ℕ
    of_coefficients : row coefficient_byte 0 v xs ≡ got cs xs1
    of_most : row most_byte 0 2 xs1 ≡ got m xs2
    result : got (record { coefficients = map signed8 cs; most = signed16 (get_or m 0 0) (get_or m 1 0) }) xs2 ≡ got r zs

  pieces : (xs : List ℕ) {r : Constraint} {zs : List ℕ} → a_constraint v xs ≡ got r zs → Pieces xs r zs
  unfolding a_constraint
  pieces xs h =
      let g = went (row coefficient_byte 0 v xs) _ h in
      let k = went (row most_byte 0 2 g.rest) _ g.second in
      record { cs = g.value; m = k.value; xs1 = g.rest; xs2 = k.rest; of_coefficients = g.first; of_most = k.first; result = k.second }

  module _ (cs m xs2 : List ℕ) (nm : length m ≡ 2) (bc : Bytes cs) (low : get_or m 1 0 < 256) (high : get_or m 0 0 < 256) where
    written : cs ++ (m ++ xs2) ≡ encode_constraint (record { coefficients = map signed8 cs; most = signed16 (get_or m 0 0) (get_or m 1 0) }) ++ xs2
    written =
        ap (λ l. cs ++ (l ++ xs2)) (two m nm)
        ∙ rw (
          append_assoc,
          map_back (λ x. x < 256) signed8 (unsigned 128) cs (λ x e. unsigned_signed 128 x e) bc,
          unsigned_signed 32768 (sixteen (get_or m 0 0) (get_or m 1 0)) (omega arith),
          high_byte (get_or m 0 0) (get_or m 1 0) low,
          low_byte (get_or m 0 0) (get_or m 1 0) low,
        )

  constraint_exact : (xs : List ℕ) {r : Constraint} {zs : List ℕ} → Bytes xs → a_constraint v xs ≡ got r zs → Exact encode_constraint (ConstraintIn v) xs r zs
  constraint_exact xs b h =
      let p = pieces xs h in
      let c = row_exact coefficient_byte 0 v xs p.of_coefficients in
      let k = row_exact most_byte 0 2 p.xs1 p.of_most in
      let bc = rest_bytes p.cs p.xs1 c.bytes b in
      let bm = (rest_bytes p.m p.xs2 k.bytes bc.1).0 in
      let high : get_or p.m 0 0 < 256 = at (λ x. x < 256) p.m 0 0 bm (omega (arith, k.count)) in
      let low : get_or p.m 1 0 < 256 = at (λ x. x < 256) p.m 1 0 bm (omega (arith, k.count)) in
      same-got (Exact encode_constraint (ConstraintIn v) xs) p.result
      (record {
        bytes = c.bytes ∙ ap (λ l. p.cs ++ l) k.bytes ∙ written p.cs p.m p.xs2 k.count bc.0 low high;
        ok = record {
          one_each = length-map p.cs signed8 ∙ c.count;
          small = map_in (λ z. nat_abs z ≤ 4) signed8 p.cs (pass_all coefficient_byte (λ x. nat_abs (signed8 x) ≤ 4) (λ before x e. leb-true _ 4 e) 0 p.cs c.pass);
          most_in = signed16_in (signed16 (get_or p.m 0 0) (get_or p.m 1 0)) (signed_in 32768 (sixteen (get_or p.m 0 0) (get_or p.m 1 0)) (omega arith));
        };
      })

  pub constraint_faithful : Faithful (a_constraint v) encode_constraint (ConstraintIn v)
  constraint_faithful = record { reads = constraint_reads; exact = constraint_exact }
