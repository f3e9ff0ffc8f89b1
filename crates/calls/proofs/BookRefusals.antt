-- The call on a book asks its rules in document 02's order. The walk through a book's bytes asks in turn what the lists of specs/Rules say by offset; so the
-- answer is the refusal of the first rule that is broken, or its values. Assumes nothing.
use mathlib.Core.Path.{◌≡◌, refl, sym, ap, ◌∙◌}
use mathlib.Core.Bool.{Bool, true, false, ◌&&◌}
use mathlib.Core.List.{List, [], ◌∷◌, ◌++◌, map}
use Prim.Native.Nat.{ℕ, ◌+◌}
use native.Mathlib.Numerals.{add-one}
use native.Mathlib.Omega.{arith}
use lib.Dec.{leb, ltb, eqb}
use lib.ListN.{length, take, drop, drop_of_length-le}
use lib.Seq.{drop-cons}
use borrow.Author.Tests.{ltb-true, ltb-false, leb-true, leb-false}
use Rattle.model.specs.Lists.{pick, starts_with}
use Rattle.model.specs.Sheet.{Step, got, fault, ◌then◌, letter_byte, limit_byte, template_byte, width, byte, sixteen}
use Rattle.book.specs.Book as book
use Rattle.book.specs.Book.{Book, count, some_symbols, a_template, some_templates, body, opens, ended, read_book, book_of}
use Rattle.book.specs.Pairs.{clashing}
use Rattle.calls.specs.Calls.{refused, of_book, list_values, listing, comparing}
use Rattle.calls.specs.Rules.{Rule, ◌asks◌, symbols_at, count_rules, symbols_rules, template_rules, template_bytes, templates_at, book_end, body_rules, as_book, mark_rules, book_rules, list_rule, comparing_rules}
use Rattle.model.proofs.Lists.{by_test}
use Rattle.calls.proofs.Ordered.{in_order_lem, order_append, order_through, kept_goes, first_fails, Ordered, ordered_after, Follows, follows_from, follows_wrapped, follows_got, follows_must}
use Rattle.calls.proofs.FirstRefusals.{row_then, several_follow}

-- a mark and a version are three tests with one number
three_tests : {R : Type 0} (p q r : Bool) (n : ℕ) (go : R) (fail : ℕ → R) → pick (p && (q && r)) go (fail n) ≡ in_order_lem fail ((n asks p) ∷ (n asks q) ∷ (n asks r) ∷ []) go
unfolding in_order_lem
three_tests true true true n go fail = refl
three_tests true true false n go fail = refl
three_tests true false r n go fail = refl
three_tests false q r n go fail = refl

pub mark_follows : {R : Type 0} (mark b : List ℕ) (n : ℕ) (go : R) (fail : ℕ → R) → pick (opens mark b) go (fail n) ≡ in_order_lem fail (mark_rules n mark b) go
unfolding opens
mark_follows mark b n go fail = three_tests (leb 5 (length b)) (starts_with mark b) (eqb (sixteen (byte b 3) (byte b 4)) 1) n go fail

module _ (b : List ℕ) where
  count_follows : (low high k : ℕ) → count low high (drop k b) ≡ in_order_lem fault (count_rules b low high k) (got (byte b k) (drop (k + 1) b))
  unfolding count in_order_lem
  count_follows low high k = by_test (ltb k (length b))
      (λ t. rw (drop-cons b k 0 (ltb-true k (length b) t), t, add-one))
      (λ t. rw (drop_of_length-le b (ltb-false k (length b) t), t))

  -- a count, and what goes on with it
  count_then : {A : Type 0} (low high k : ℕ) (go : ℕ → List ℕ → Step A) {rules : List Rule} {left : List ℕ}
      → Follows (go (byte b k) (drop (k + 1) b)) rules left → Follows (count low high (drop k b) then go) (count_rules b low high k ++ rules) left
  count_then low high k go h = follows_from (count low high (drop k b)) (count_rules b low high k) (byte b k) (drop (k + 1) b) go (count_follows low high k) h

  symbols_follow : (l : ℕ) (limits : List ℕ) (k : ℕ) → Follows (some_symbols l limits (drop k b)) (symbols_rules b l limits k) (drop (k + 1 + byte b k) b)
  unfolding some_symbols symbols_rules
  symbols_follow l limits k =
      count_then 0 12 k _
      (row_then b (template_byte l (length limits)) (k + 1) (byte b k) _
      (follows_must (leb (width limits (symbols_at b (k + 1) (byte b k))) 24) 41
      (follows_got (record { limits = limits; symbols = symbols_at b (k + 1) (byte b k) }) (drop (k + 1 + byte b k) b))))

  template_follows : (l k : ℕ) → Follows (a_template l (drop k b)) (template_rules b l k) (drop (k + template_bytes b k) b)
  unfolding a_template
  template_follows l k =
      let v : ℕ = byte b k in
      let e : k + 1 + v + 1 + byte b (k + 1 + v) ≡ k + template_bytes b k = omega arith in
      count_then 0 3 k _
      (row_then b limit_byte (k + 1) v _
      (rw e at (symbols_follow l (take v (drop (k + 1) b)) (k + 1 + v))))

  body_follows : Follows (body (drop 5 b)) (body_rules b) (drop (book_end b) b)
  unfolding body some_templates body_rules
  body_follows =
      let l : ℕ = byte b 5 in
      count_then 1 8 5 _
      (row_then b letter_byte 6 l _
      (follows_wrapped (λ ts. record { letters = take l (drop 6 b); templates = ts })
      (count_then 1 16 (templates_at b) _
      (several_follow b (a_template l) (template_rules b l) (template_bytes b) (template_follows l) (byte b (templates_at b)) (templates_at b + 1)))))

  -- whatever its number, a fault of the walk is 41
  as_book_lem : (rules : List Rule) (go : book.Reading) → in_order_lem (λ n. book.refused 41) rules go ≡ in_order_lem book.refused (map as_book rules) go
  unfolding in_order_lem
  as_book_lem [] go = refl
  as_book_lem (r ∷ rules) go = ap (λ z. pick r.kept z (book.refused 41)) (as_book_lem rules go)

  ended_follows : (k : Book) (e : ℕ) → ended (got k (drop e b)) ≡ in_order_lem book.refused ((41 asks leb (length b) e) ∷ []) (book.accepted k)
  unfolding in_order_lem
  ended_follows k e = by_test (leb (length b) e)
      (λ t. rw (t, drop_of_length-le b (leb-true (length b) e t)))
      (λ t. rw (t, drop-cons b e 0 (leb-false (length b) e t)))

  -- the book that is read, where none is broken
  pub book_follows : (k : Book) × (read_book b ≡ in_order_lem book.refused (book_rules b) (book.accepted k))
  unfolding read_book book_rules
  book_follows =
      let walked = body_follows in
      let k : Book = walked.value in
      let last = (41 asks leb (length b) (book_end b)) ∷ [] in
      let first : List Rule = mark_rules 40 book.mark b in (
        k,
        mark_follows book.mark b 40 (ended (body (drop 5 b))) book.refused
            ∙ ap (in_order_lem book.refused first)
            (ap ended walked.is
            ∙ order_through ended fault (λ n. book.refused 41) (λ n. refl) (body_rules b) (got k (drop (book_end b) b))
            ∙ as_book_lem (body_rules b) (ended (got k (drop (book_end b) b)))
            ∙ ap (in_order_lem book.refused (map as_book (body_rules b))) (ended_follows k (book_end b))
            ∙ sym (order_append book.refused (map as_book (body_rules b)) last (book.accepted k)))
            ∙ sym (order_append book.refused first (map as_book (body_rules b) ++ last) (book.accepted k)),
      )

pub comparing_ordered : (b : List ℕ) (room : ℕ) → Ordered (comparing_rules b room) (comparing b room)
unfolding comparing listing comparing_rules book_of in_order_lem
comparing_ordered b room =
    let k = (book_follows b).0 in
    let is = (book_follows b).1 in
    ordered_after (book_rules b) (list_rule (clashing (book_of b)) room ∷ []) (comparing b room)
    (λ h. let r : read_book b ≡ book.accepted k = is ∙ kept_goes book.refused (book_rules b) (book.accepted k) h in rw r (record { values = list_values (clashing k); is = refl }))
    (λ n f. ap (λ x. of_book x (λ k. listing (clashing k) room)) (is ∙ first_fails book.refused (book_rules b) (book.accepted k) f))
