-- Templates with the same bytes are the same. Assumes nothing.
use mathlib.Core.Path.{◌≡◌, sym, ap, ap₂, ◌∙◌}
use mathlib.Core.Bool.{true}
use mathlib.Core.List.{map}
use Prim.Native.Nat.{ℕ, ◌<◌, ◌≤◌}
use native.Mathlib.Omega.{arith}
use lib.ListN.{length}
use Rattle.model.specs.Lists.{same}
use Rattle.model.specs.Sheet.{symbol_of, symbol_byte}
use Rattle.model.proofs.Lists.{and_split, same-equal}
use Rattle.model.proofs.Sections.{symbols_again}
use Rattle.book.specs.Book.{Template, Book, template, BookIn}
use Rattle.book.proofs.Question.{own_in}
use Rattle.book_repeats.specs.Repeats.{same_template}

-- the same bytes
equal-parts : (t u : Template) → t.limits ≡ u.limits → t.symbols ≡ u.symbols → t ≡ u
equal-parts t u e f = ap₂ (λ l s. record { limits = l; symbols = s }) e f

module _ (k : Book) (ok : BookIn k) where
  pub alike_equal : (a b : ℕ) → a < length k.templates → b < length k.templates → same_template (template k a) (template k b) ≡ true → template k a ≡ template k b
  unfolding same_template
  alike_equal a b ha hb h =
      let l : ℕ = length k.letters in
      let small : l ≤ 128 = omega (arith, ok.of_letters) in
      let t = own_in k ok a ha in
      let u = own_in k ok b hb in
      let parts = and_split (same (template k a).limits (template k b).limits) (same (map symbol_byte (template k a).symbols) (map symbol_byte (template k b).symbols)) h in
      equal-parts (template k a) (template k b) (same-equal _ _ parts.0)
      (sym (symbols_again l (length (template k a).limits) small (template k a).symbols t.template_in.symbols)
      ∙ ap (map symbol_of) (same-equal _ _ parts.1)
      ∙ symbols_again l (length (template k b).limits) small (template k b).symbols u.template_in.symbols)
