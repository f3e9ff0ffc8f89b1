-- The refusals of a text, one for each way that `read` returns. Assumes nothing.
use mathlib.Core.Path.{◌≡◌, refl, sym, ap, subst, ◌∙◌}
use mathlib.Core.Bool.{true, false, not, ◌&&◌}
use mathlib.Core.List.{List, [], ◌∷◌}
use Prim.Native.Nat.{ℕ, suc, ◌-◌, ◌<◌, ◌≤◌}
use native.Mathlib.Omega.{arith}
use lib.Dec.{eqb}
use lib.ListN.{length, get_or, replicate}
use borrow.Author.Tests.{eq-eqb, ne_eqb}
use Rattle.model.specs.Lists.{all}
use Rattle.calls.specs.Reply.{lines, line_ended, known, given, given_once}
use Rattle.calls.specs.Calls.{Answer, require, formed}
use Rattle.model.proofs.Lists.{by_test, or_right}
use Rattle.tally.specs.declared.Tally.{Tally}
use Rattle.std.specs.Prelude.{Some, None, Ok, Err}
use Rattle.tally.specs.Tally.{nothing, is_marked, after_lines, ReadLines}
use Rattle.listing.specs.declared.Fault.TheVariants.{End, Line, Status, Closing, Above, Twice}
use Rattle.listing.specs.Answer.{Form}
use Rattle.listing.proofs.Meaning.{Means, means}

-- The text's end.
pub ended_empty : (t : List ℕ) → length t ≤ 0 → line_ended t ≡ true
unfolding line_ended
ended_empty [] h = refl
ended_empty (x ∷ t) h = absurd (omega arith)

pub ended_last : (t : List ℕ) → get_or t (length t - 1) 0 ≡ 10 → line_ended t ≡ true
unfolding line_ended
ended_last t e = or_right (eqb (length t) 0) (eq-eqb (get_or t (length t - 1) 0) 10 e)

pub ended_not : (t : List ℕ) → 0 < length t → (get_or t (length t - 1) 0 ≡ 10 → ⊥) → line_ended t ≡ false
unfolding line_ended
ended_not t h f = rw (ne_eqb (length t) 0 (λ e. omega arith), ne_eqb (get_or t (length t - 1) 0) 10 f)

pub form_end : (n : ℕ) (t m : List ℕ) → line_ended t ≡ false → Form n t (Err End) m
unfolding formed
form_end n t m e go = rw e

pub form_last : (n : ℕ) (t m : List ℕ) → 0 < length t → (get_or t (length t - 1) 0 ≡ 10 → ⊥) → Form n t (Err End) m
form_last n t m h f = form_end n t m (ended_not t h f)

-- Its lines.
pub form_line : (n : ℕ) (t m m' : List ℕ) → line_ended t ≡ true → ReadLines m t None m' → Form n t (Err Line) m'
unfolding formed
form_line n t m m' e r go = rw (e, r)

-- What a text that ends well and has known lines comes to.
pub record Come (n : ℕ) (t : List ℕ) (u : Tally) (m : List ℕ) : Type 0 where
  pub ended : line_ended t ≡ true
  lines_known : all known (lines t) ≡ true
  pub some : 0 < n
  all_means : Means (n - 1) t (record { tally = u; marks = m })

pub come : (n : ℕ) (t : List ℕ) (u : Tally) (m₀ m : List ℕ) → line_ended t ≡ true → 0 < n → m₀ ≡ replicate n 0 → ReadLines m₀ t (Some u) m
    → Come n t u m
come n t u m₀ m e h z r =
    let k : n ≡ suc (n - 1) = omega arith in
    let is : after_lines (record { tally = nothing; marks = replicate (suc (n - 1)) 0 }) (lines t) ≡ record { tally = u; marks = m } =
    ap (λ (j : ℕ). after_lines (record { tally = nothing; marks = replicate j 0 }) (lines t)) (sym k)
    ∙ ap (λ (w : List ℕ). after_lines (record { tally = nothing; marks = w }) (lines t)) (sym z)
    ∙ sym r.1 in
    record {
      ended = e;
      lines_known = r.0;
      some = h;
      all_means = subst (Means (n - 1) t) is (means (n - 1) t);
    }

module _ (n : ℕ) (t : List ℕ) (u : Tally) (m : List ℕ) (c : Come n t u m) where
  form_status : (u.status && (not u.again && not u.early)) ≡ false → Form n t (Err Status) m
  unfolding formed
  form_status f go = rw (c.ended, c.lines_known, c.all_means.status_is, f)

  pub form_none : u.status ≡ false → Form n t (Err Status) m
  form_none f = form_status (rw f)

  pub form_again : u.again ≡ true → Form n t (Err Status) m
  form_again f = by_test u.status (λ t. form_status (rw (t, f))) (λ t. form_none t)

  pub form_early : u.early ≡ true → Form n t (Err Status) m
  form_early f = by_test u.again (λ t. form_again t) (λ t. by_test u.status (λ s. form_status (rw (s, t, f))) (λ s. form_none s))

  module _ (status : u.status ≡ true) (again : u.again ≡ false) (early : u.early ≡ false) where
    form_closing : (is_marked m 0 && not u.after) ≡ false → Form n t (Err Closing) m
    unfolding formed
    form_closing f go = rw (c.ended, c.lines_known, c.all_means.status_is, status, again, early, c.all_means.closed_is, f)

    pub form_after : u.after ≡ true → Form n t (Err Closing) m
    form_after f = form_closing (by_test (eqb (get_or m 0 0) 0) (λ t. rw t) (λ t. rw (t, f)))

    pub form_open : get_or m 0 0 ≡ 0 → Form n t (Err Closing) m
    form_open f = form_closing (rw f)

    module _ (after : u.after ≡ false) (closing : get_or m 0 0 ≡ 0 → ⊥) where
      form_closed : (go : Answer) → formed (n - 1) t go ≡ require (not u.above) 35 (require (given_once (given t)) 36 go)
      unfolding formed
      form_closed go =
          rw (c.ended, c.lines_known, c.all_means.status_is, status, again, early)
          (rw (c.all_means.closed_is, ne_eqb (get_or m 0 0) 0 closing, after, c.all_means.count_is))

      pub form_above : u.above ≡ true → Form n t (Err Above) m
      form_above f go = form_closed go ∙ rw f

      pub form_twice : u.above ≡ false → u.twice ≡ true → Form n t (Err Twice) m
      form_twice f g go = form_closed go ∙ rw (f, c.all_means.once_is f, g)

      pub form_listed : u.above ≡ false → u.twice ≡ false → Form n t (Ok tt) m
      form_listed f g =
          let some = c.some in
          let count = c.all_means.marks_count in
          ((λ go. form_closed go ∙ rw (f, c.all_means.once_is f, g)), omega arith, λ k l. c.all_means.truth_is k (omega arith))
