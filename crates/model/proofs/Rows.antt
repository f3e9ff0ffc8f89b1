-- A row of bytes of one role: read back whole, exactly its bytes, and no further than its end.
-- Each is an induction over the row. Assumes nothing.
use mathlib.Core.Path.{◌≡◌, refl, ap, ◌∙◌}
use mathlib.Core.Bool.{Bool, true, false, ◌&&◌}
use mathlib.Core.List.{List, [], ◌∷◌, ◌++◌}
use Prim.Native.Nat.{ℕ, zero, suc, ◌≤◌}
use native.Mathlib.Omega.{arith}
use lib.ListN.{length, length-append}
use Rattle.model.specs.Lists.{All}
use Rattle.model.specs.Sheet.{Step, got, fault, ◌then◌, Role, passes, refusal_of, row}
use Rattle.model.proofs.Lists.{by_test, and_split, and_join}
use Rattle.model.proofs.Steps.{no-fault, same-got, went, held, longer, Within}

-- each byte passes after the one before it
unfoldable pub all_pass : Role → ℕ → List ℕ → Bool
all_pass role before [] = true
all_pass role before (y ∷ ys) = passes role before y && all_pass role y ys

module _ (role : Role) where
  -- a row passes where each of its bytes does, whatever stands before it
  pub all_pass_lem : (P : ℕ → Type 0) → ((before x : ℕ) → P x → passes role before x ≡ true) → (before : ℕ) (ys : List ℕ) → All P ys → all_pass role before ys ≡ true
  unfolding all_pass All
  all_pass_lem P f before [] h = refl
  all_pass_lem P f before (y ∷ ys) h = and_join (f before y h.0) (all_pass_lem P f y ys h.1)

  pub pass_all : (P : ℕ → Type 0) → ((before x : ℕ) → passes role before x ≡ true → P x) → (before : ℕ) (ys : List ℕ) → all_pass role before ys ≡ true → All P ys
  unfolding all_pass All
  pass_all P f before [] h = tt
  pass_all P f before (y ∷ ys) h =
      let a = and_split (passes role before y) (all_pass role y ys) h in
      (f before y a.0, pass_all P f y ys a.1)

  -- one byte
  pub row-none : (before : ℕ) (xs : List ℕ) → row role before 0 xs ≡ got [] xs
  unfolding row
  row-none before xs = refl

  pub row_missing : (before n : ℕ) → row role before (suc n) [] ≡ fault 8
  unfolding row
  row_missing before n = refl

  pub row_next : (before n x : ℕ) (xs : List ℕ) → passes role before x ≡ true → row role before (suc n) (x ∷ xs) ≡ (row role x n xs then (λ ys zs. got (x ∷ ys) zs))
  unfolding row
  row_next before n x xs e = rw e

  pub row_stops : (before n x : ℕ) (xs : List ℕ) → passes role before x ≡ false → row role before (suc n) (x ∷ xs) ≡ fault (refusal_of role)
  unfolding row
  row_stops before n x xs e = rw e

  -- the whole row
  pub row_reads : (before : ℕ) (ys zs : List ℕ) → all_pass role before ys ≡ true → row role before (length ys) (ys ++ zs) ≡ got ys zs
  unfolding all_pass
  row_reads before [] zs h = row-none before zs
  row_reads before (y ∷ ys) zs h =
      let a = and_split (passes role before y) (all_pass role y ys) h in
      row_next before (length ys) y (ys ++ zs) a.0 ∙ rw (row_reads y ys zs a.1)

  pub record RowOf (before n : ℕ) (xs ys zs : List ℕ) : Type 0 where
    pub bytes : xs ≡ ys ++ zs
    pub count : length ys ≡ n
    pub pass : all_pass role before ys ≡ true

  pub row_exact : (before n : ℕ) (xs : List ℕ) {ys zs : List ℕ} → row role before n xs ≡ got ys zs → RowOf before n xs ys zs
  unfolding row all_pass
  row_exact before zero xs h = same-got (RowOf before 0 xs) h (record { bytes = refl; count = refl; pass = refl })
  row_exact before (suc n) [] h = no-fault h
  row_exact before (suc n) (x ∷ xs) h =
      let a = held (passes role before x) (refusal_of role) (row role x n xs then (λ ys zs. got (x ∷ ys) zs)) h in
      let g = went (row role x n xs) (λ ys zs. got (x ∷ ys) zs) a.1 in
      let r = row_exact x n xs g.first in
      same-got (RowOf before (suc n) (x ∷ xs)) g.second
      (record { bytes = ap (λ l. x ∷ l) r.bytes; count = ap suc r.count; pass = and_join a.0 r.pass })

  row_local : (before n : ℕ) (xs ys : List ℕ) → n ≤ length xs → row role before n (xs ++ ys) ≡ longer ys (row role before n xs)
  unfolding row
  row_local before zero xs ys h = refl
  row_local before (suc n) [] ys h = absurd (omega arith)
  row_local before (suc n) (x ∷ xs) ys h =
      by_test (passes role before x)
      (λ e. rw (e, row_local x n xs ys (omega arith)) (onward (row role x n xs)))
      (λ e. rw e)
    where
      onward : (s : Step (List ℕ)) → (longer ys s then (λ us zs. got (x ∷ us) zs)) ≡ longer ys (s then (λ us zs. got (x ∷ us) zs))
      onward (got us zs) = refl
      onward (fault k) = refl

  pub within-row : (before n : ℕ) → Within n (row role before n)
  within-row before n = record {
    local = row_local before n;
    spends = λ xs e. let r = row_exact before n xs e in omega (arith, simp length-append at (ap length r.bytes), r.count);
  }
