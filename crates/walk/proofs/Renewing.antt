-- A substitution made one of an inner box covers what it covered of texts with lengths in that box; the substitution in which all is open covers
-- everything, and made one of a box of one vector it is the start of these lengths, in which nothing is open. Assumes nothing.
use mathlib.Core.Path.{◌≡◌, refl, sym, ap, ◌∙◌}
use mathlib.Core.Bool.{Bool, true, false}
use mathlib.Core.List.{List, [], ◌∷◌}
use Prim.Native.Nat.{ℕ, ◌+◌, ◌*◌, ◌-◌, ◌/◌, ◌%◌, ◌<◌, ◌≤◌}
use native.Mathlib.Omega.{arith}
use lib.ListN.{get_or, length, get_or-eq_default}
use lib.Dec.{ltb, eqb}
use borrow.Author.Tests.{ltb-true, ltb-false, lt-ltb, le-ltb}
use Rattle.model.specs.Lists.{pick, from}
use Rattle.model.proofs.Keeping.{map-from-at}
use Rattle.fields.specs.declared.Field.{Field}
use Rattle.fields.specs.Memory.{field}
use Rattle.unification.specs.Names.{no_field, place_of, value_of, Below, Refining}
use Rattle.unification.specs.Names as names
use Rattle.unification.proofs.Laws.{pick_ind, by_lt, Renamed, value-place, value-letter, value_renamed}
use Rattle.walk.specs.Renew.{renewed_of, renew_place, renew_field, renew_at, renew_of}
use Rattle.walk.specs.Reading.{name_of, fresh_of, start_of, Reads, texts, Covers, Inside, open_field, all_open}

pub at8 : (F : ℕ → ℕ) (c : ℕ) → c < 8 → get_or (F 0 ∷ F 1 ∷ F 2 ∷ F 3 ∷ F 4 ∷ F 5 ∷ F 6 ∷ F 7 ∷ []) c 0 ≡ F c
unfolding from
at8 F c h = map-from-at F 0 0 8 c h ∙ ap F (let e : 0 + c ≡ c = omega arith in e)

at6 : (F : ℕ → Field) (f : ℕ) → f < 6 → get_or (F 0 ∷ F 1 ∷ F 2 ∷ F 3 ∷ F 4 ∷ F 5 ∷ []) f no_field ≡ F f
unfolding from
at6 F f h = map-from-at F no_field 0 6 f h ∙ ap F (let e : 0 + f ≡ f = omega arith in e)

-- a renewed substitution, place by place
renew_place_lem : (g : List Field) (lo hi : List ℕ) (f c : ℕ) → f < 6 → c < 8 → place_of (renew_of g lo hi) f c ≡ renewed_of f (get_or lo f 0) (get_or hi f 0) c (place_of g f c)
unfolding renew_of renew_field
renew_place_lem g lo hi f c h k =
    ap (λ (t : Field). get_or t.letters c 0) (at6 (renew_at g lo hi) f h)
    ∙ at8 (renew_place f (get_or lo f 0) (get_or hi f 0) (field g f)) c k

-- the start of lengths n, place by place
pub start-field : (n : List ℕ) (f : ℕ) → f < 6 → field (start_of n) f ≡ fresh_of f (get_or n f 0)
unfolding start_of
start-field n f h = at6 (λ k. fresh_of k (get_or n k 0)) f h

start-place : (n : List ℕ) (f c : ℕ) → f < 6 → c < 8 → place_of (start_of n) f c ≡ name_of f (get_or n f 0) c
unfolding fresh_of
start-place n f c h k = ap (λ (t : Field). get_or t.letters c 0) (start-field n f h) ∙ at8 (name_of f (get_or n f 0)) c k

open_place : (f c : ℕ) → f < 6 → c < 8 → place_of all_open f c ≡ 254
unfolding all_open
open_place f c h k = ap (λ (t : Field). get_or t.letters c 0) (at6 (λ _. open_field) f h) ∙ at8 (λ _. 254) c k

-- what a cell holds past the last field
none-there : (g : List Field) (u : ℕ) → 8 ≤ u → length g ≤ (u - 8) / 8 → value_of g u ≡ 0
none-there g u h k = value-place g u h ∙ rw (get_or-eq_default g no_field k)

module _ (σ : ℕ → ℕ) (p : Refining σ) (n : List ℕ) where
  abbrev given : Renamed (start_of n) (texts σ n)
  given = record { by = σ; refines = p; is = refl }

  text-letter : (u : ℕ) → u < 8 → value_of (texts σ n) u ≡ u
  text-letter u h = value-letter (texts σ n) u h

  pub text-place : (u : ℕ) → 8 ≤ u → (u - 8) / 8 < 6 → value_of (texts σ n) u ≡ σ (name_of ((u - 8) / 8) (get_or n ((u - 8) / 8) 0) ((u - 8) % 8))
  text-place u h k = value_renamed given u ∙ ap σ (value-place (start_of n) u h ∙ start-place n ((u - 8) / 8) ((u - 8) % 8) k (omega arith))

  text-none : (u : ℕ) → 8 ≤ u → 6 ≤ (u - 8) / 8 → value_of (texts σ n) u ≡ 0
  unfolding start_of
  text-none u h k = value_renamed given u ∙ ap σ (none-there (start_of n) u h k) ∙ p.letter 0 (omega arith)

  -- a substitution of six fields covers the texts if it does so at the places of these fields
  covers_by_places : (g : List Field) → length g ≡ 6
      → ((u : ℕ) → 8 ≤ u → (u - 8) / 8 < 6 → (value_of g u ≡ 254 → ⊥) → σ (value_of g u) ≡ value_of (texts σ n) u) → Covers g σ n
  unfolding Reads
  covers_by_places g six h u o =
      by_lt u 8
      (λ k. ap σ (value-letter g u k) ∙ p.letter u k ∙ sym (text-letter u k))
      (λ k. by_lt ((u - 8) / 8) 6 (λ m. h u k m o)
      (λ m. ap σ (none-there g u k (omega arith)) ∙ p.letter 0 (omega arith) ∙ sym (text-none u k m)))

  -- where all is open, all texts are covered
  pub open_covers : Covers all_open σ n
  unfolding all_open
  open_covers = covers_by_places all_open refl (λ u h k o. absurd (o (value-place all_open u h ∙ open_place ((u - 8) / 8) ((u - 8) % 8) k (omega arith))))

  pub renew_covers : (g : List Field) (lo hi : List ℕ) → Inside lo hi n → Covers g σ n → Covers (renew_of g lo hi) σ n
  unfolding Reads renew_of
  renew_covers g lo hi within covers =
      covers_by_places (renew_of g lo hi) refl
      (λ u h k.
      let f = (u - 8) / 8 in
      let c = (u - 8) % 8 in
      let here = value-place g u h in
      rw (value-place (renew_of g lo hi) u h, renew_place_lem g lo hi f c k (omega arith), text-place u h k)
      (pick_ind (λ z. (z ≡ 254 → ⊥) → σ z ≡ σ (name_of f (get_or n f 0) c)) (ltb c (get_or hi f 0))
      (λ below. pick_ind (λ z. (z ≡ 254 → ⊥) → σ z ≡ σ (name_of f (get_or n f 0) c)) (eqb (place_of g f c) 254)
      (λ was. pick_ind (λ z. (z ≡ 254 → ⊥) → σ z ≡ σ (name_of f (get_or n f 0) c)) (ltb c (get_or lo f 0))
      (λ least o. ap σ (sym (simp (lt-ltb c (get_or n f 0) (omega (arith, within f k, ltb-true c (get_or lo f 0) least))))))
      (λ least o. absurd (o refl)))
      (λ was o. ap σ (sym here) ∙ covers u (λ e. o (sym here ∙ e)) ∙ text-place u h k))
      (λ past o. ap σ (sym (simp (le-ltb c (get_or n f 0) (omega (arith, within f k, ltb-false c (get_or hi f 0) past))))))))

-- A box of one vector.
once : (b : Bool) (x y z : ℕ) → pick b (pick b x y) z ≡ pick b x z
once true x y z = refl
once false x y z = refl

fresh_is : (f n : ℕ) → renew_field f n n open_field ≡ fresh_of f n
unfolding renew_field fresh_of
fresh_is f n = rw (once (ltb 0 n), once (ltb 1 n), once (ltb 2 n), once (ltb 3 n), once (ltb 4 n), once (ltb 5 n), once (ltb 6 n), once (ltb 7 n))

pub start_is : (n : List ℕ) → renew_of all_open n n ≡ start_of n
unfolding renew_of all_open start_of
start_is n = rw (fresh_is 0, fresh_is 1, fresh_is 2, fresh_is 3, fresh_is 4, fresh_is 5)

-- a place of the start holds a name or 255, and a cell past the last field 0
start-values : (P : ℕ → Type 0) (n : List ℕ) → P 0 → P 255 → ((x : ℕ) → 8 ≤ x → x < 56 → P x) → (u : ℕ) → 8 ≤ u → P (value_of (start_of n) u)
unfolding start_of
start-values P n none past name u h =
    by_lt ((u - 8) / 8) 6
    (λ k. rw (value-place (start_of n) u h, start-place n ((u - 8) / 8) ((u - 8) % 8) k (omega arith)) (pick_ind P (ltb ((u - 8) % 8) (get_or n ((u - 8) / 8) 0)) (λ _. name _ (omega arith) (omega arith)) (λ _. past)))
    (λ k. rw (none-there (start_of n) u h k) none)

pub start-closed : (n : List ℕ) (u : ℕ) → value_of (start_of n) u ≡ 254 → ⊥
start-closed n u =
    by_lt u 8
    (λ h. rw (value-letter (start_of n) u h) (λ e. omega arith))
    (λ h. start-values (λ x. x ≡ 254 → ⊥) n (λ e. omega arith) (λ e. omega arith) (λ x p q e. omega arith) u h)

pub start-letters : (l : ℕ) → 0 < l → (n : List ℕ) → names.Inside l (start_of n)
start-letters l z n u h = start-values (Below l) n (λ _. z) (λ b. absurd (omega arith)) (λ x p q b. absurd (omega arith)) u h

-- a name of the start holds itself
pub start-value : (n : List ℕ) (f c : ℕ) → f < 6 → c < 8 → c < get_or n f 0 → value_of (start_of n) (8 + 8 * f + c) ≡ 8 + 8 * f + c
start-value n f c h k m =
    let a : (8 + 8 * f + c - 8) / 8 ≡ f = omega arith in
    let b : (8 + 8 * f + c - 8) % 8 ≡ c = omega arith in
    value-place (start_of n) (8 + 8 * f + c) (omega arith) ∙ rw (a, b, start-place n f c h k, lt-ltb c (get_or n f 0) m)
