-- Document 02, No. 3 (docs/02-change-requests.md), "A book of templates", each sentence above the theorems that state it. What is said of a call is, as the
-- demands are (Demands.antt), of bytes and of what its contract says: the call with the book b answered `answer`, and left `after` in the list's buffer where
-- `before` stood. Assumes nothing.
use mathlib.Core.Path.{◌≡◌, refl, sym, ap, subst, ◌∙◌}
use mathlib.Core.Logic.{◌↔◌}
use mathlib.Core.Bool.{Bool, true}
use mathlib.Core.List.{List, [], ◌∷◌, ◌++◌, map}
use Prim.Native.Nat.{ℕ, ◌+◌, ◌*◌, ◌<◌, ◌≤◌}
use native.Mathlib.Omega.{arith}
use lib.Dec.{ltb}
use lib.ListN.{length, get_or, take, drop}
use Rattle.model.specs.Lists.{each, All, Bytes}
use Rattle.model.specs.Sheet.{Sheet, letter, field, read, accepted, encode}
use Rattle.model.specs.Range.{InRange}
use Rattle.model.specs.Solvable.{solvable}
use Rattle.book.specs.Book as book
use Rattle.book.specs.Book.{Book, template, read_book, encode_book, BookIn, book_of}
use Rattle.book.specs.Pairs.{numbered_after, asked, question, clash, Clash, Pair, kept, clashing, pair_bytes, list_bytes, Precedes}
use Rattle.calls.specs.Calls.{Answer, refused, finished, verdict, searching, decision, Decides, listing, comparing}
use Rattle.calls.specs.Rules.{Kept, book_rules, comparing_rules}
use borrow.Author.Tests.{ltb-true, ltb-false}
use Rattle.model.proofs.Lists.{by_test, weaken, from_at}
use Rattle.model.proofs.Known.{accepted_as}
use Rattle.book.proofs.Reading as reading
use Rattle.book.proofs.Question.{question_in_range, question-read}
use Rattle.book.proofs.Meaning.{clash_means}
use Rattle.book.proofs.Listed.{kept_pass, pass_kept, kept_in_order, kept_once, list_size, kept-few, clashing-kept}
use Rattle.calls.proofs.Searching as searches
use Rattle.calls.proofs.Comparing.{listing-short, listing-fits, comparing-accepted, Listed, finished-listed, first-same}
use Rattle.calls.proofs.Operations.{not_finished}
use Rattle.calls.proofs.Ordered.{kept_goes, first_fails, first_or_none}
use Rattle.calls.proofs.Demands.{InOrder, Unchanged, in_order}
use Rattle.calls.proofs.FirstRefusals.{decision_ordered}
use Rattle.calls.proofs.BookRefusals.{book_follows, comparing_ordered}

-- "A book has the mark TPB, version 1 in 16 bits, L and its letters, a template count of 1 to 16, then the templates. Each template has a field count of 0 to 3,
-- limits, a symbol count and symbols.": the bytes of a book within the ranges are read as that book, and no others are accepted. No accepted book has more
-- than 287 bytes, and the first 288 decide.
pub a_books_bytes_are-read : (k : Book) → BookIn k → read_book (encode_book k) ≡ book.accepted k
a_books_bytes_are-read = reading.read-encode

pub no-others-are-accepted : (b : List ℕ) → Bytes b → (k : Book) → read_book b ≡ book.accepted k → (b ≡ encode_book k) × BookIn k
no-others-are-accepted b y k = reading.accepted-encode b y

pub accepted_books_are-short : (b : List ℕ) (k : Book) → read_book b ≡ book.accepted k → length b ≤ 287
accepted_books_are-short b k = reading.book_short b

pub a_prefix_decides : (b : List ℕ) → read_book b ≡ read_book (take 288 b)
a_prefix_decides = reading.read_prefix

-- "For i below j the question is the sheet with template i on the left and j on the right, j's fields numbered after i's, without rules."
pub record Asks (k : Book) (i j : ℕ) (s : Sheet) : Type 0 where
  pub letters_are : s.letters ≡ k.letters
  -- a field of i has its own number, a field f of j the number of i's fields and f
  pub limits_are : s.limits ≡ (template k i).limits ++ (template k j).limits
  pub one_pair : s.equations ≡ record { left = (template k i).symbols; right = map (numbered_after (length (template k i).limits)) (template k j).symbols } ∷ []
  pub no_rules : s.constraints ≡ []

pub the_question-is : (k : Book) (i j : ℕ) → Asks k i j (question k i j)
unfolding asked
the_question-is k i j = record { letters_are = refl; limits_are = refl; one_pair = refl; no_rules = refl }

pub numbered_after_is : (n a f : ℕ) → (numbered_after n (letter a) ≡ letter a) × (numbered_after n (field f) ≡ field (n + f))
numbered_after_is n a f = (refl, refl)

module _ (k : Book) (ok : BookIn k) (i j : ℕ) (hi : i < length k.templates) (hj : j < length k.templates) where
  -- it is a sheet of document 01, and its bytes are accepted as that sheet
  pub the_question-is-a_sheet : InRange (question k i j)
  the_question-is-a_sheet = question_in_range k ok i j hi hj

  pub its_bytes_are-accepted : read (encode (question k i j)) ≡ accepted (question k i j)
  its_bytes_are-accepted = question-read k ok i j hi hj

  -- "Fields belong to their own template.": two templates clash exactly when texts for the fields of the one and texts for the fields of the other spell the same
  pub clashing_means : (clash k i j ≡ true) ↔ Clash k i j
  clashing_means = clash_means k ok i j hi

  -- and a search of the question's bytes says the same
  pub searching_says_the_same : (room : ℕ) → 54 ≤ room → decision (searching (encode (question k i j)) room) ≡ verdict (clash k i j)
  searching_says_the_same room h =
      let a = accepted_as (encode (question k i j)) its_bytes_are-accepted in
      let few = the_question-is-a_sheet.counts_in.of_fields in
      searches.searching-verdict (encode (question k i j)) room a.0 (subst (λ s. 9 * length s.limits ≤ room) (sym a.1) (omega arith)) ∙ ap (λ s. verdict (solvable s)) a.1

-- a pair that stands in a list
pub record Stands (p : Pair) (ps : List Pair) : Type 0 where
  pub place : ℕ
  pub inside : place < length ps
  pub there : get_or ps place (record { first = 0; second = 0 }) ≡ p

-- "The answer lists each .. (i, j) once, by i then j, one byte for i and one for j; templates .., like pairs, count from 0. It lists all of them and no others, gives
-- their number, and leaves later bytes unchanged.": of n templates all pairs of which something is so, as that they clash
pub record Lists (C : ℕ → ℕ → Type 0) (n : ℕ) (before after : List ℕ) (number : ℕ) : Type 0 where
  pub list : List Pair
  pub bytes : after ≡ each list pair_bytes ++ drop (2 * length list) before
  pub their_number : number ≡ length list
  pub all_of_them : (i j : ℕ) → i < j → j < n → C i j → Stands (record { first = i; second = j }) list
  pub no_others : All (λ p. (p.first < p.second) × (p.second < n) × C p.first p.second) list
  pub once : (d : Pair) (k m : ℕ) → k < m → m < length list → get_or list k d ≡ get_or list m d → ⊥
  -- each precedes those after it
  pub in_order : (d : Pair) (k m : ℕ) → k < m → m < length list → Precedes (get_or list k d) (get_or list m d)

all_stand : (ps : List Pair) → All (λ p. Stands p ps) ps
all_stand ps = from_at (λ p. Stands p ps) (record { first = 0; second = 0 }) ps (λ i l. record { place = i; inside = l; there = refl })

-- such is a list of those that pass a test which tells it
pub lists_kept : (t : ℕ → ℕ → Bool) (C : ℕ → ℕ → Type 0) (n : ℕ) → ((i j : ℕ) → i < j → j < n → (t i j ≡ true) ↔ C i j)
    → (before after : List ℕ) (number : ℕ) → Listed (kept t n) before after (number ∷ []) → Lists C n before after number
unfolding list_bytes
lists_kept t C n means before after number l =
    let ps : List Pair = kept t n in
    record {
      list = ps;
      bytes = l.bytes ∙ ap (λ m. list_bytes ps ++ drop m before) (list_size ps);
      their_number = first-same l.number;
      all_of_them = λ i j a c h. pass_kept t n (λ p. Stands p ps) (all_stand ps) i j a c ((means i j a c).1 h);
      no_others = weaken _ _ ps (λ p h. (h.0, h.1, (means p.first p.second h.0 h.1).0 h.2)) (kept_pass t n);
      once = kept_once t n;
      in_order = kept_in_order t n;
    }

-- "The answer lists each clashing (i, j)"
abbrev pub ListsTheClashes : Book → List ℕ → List ℕ → ℕ → Type 0
ListsTheClashes k = Lists (Clash k) (length k.templates)

module _ (b before after : List ℕ) (answer : Answer) (call : Decides (comparing b (length before)) before answer after) where
  -- "40 when the book is under five bytes or mark or version is wrong. 41 when a count, letter, limit, symbol or width breaks a range given here or a sheet's rule for
  -- it, or bytes are missing or left over. 42 when the list's buffer is shorter than the list; they are tested in this order.": the first of `comparing_rules` that is
  -- broken is given, and a refusal changes no lent byte.
  pub comparing_gives_the_first_refusal : InOrder (comparing_rules b (length before)) answer × Unchanged answer before after
  comparing_gives_the_first_refusal =
      (rw call.0 (in_order (decision_ordered (comparing_ordered b (length before)))), searches.refused_unchanged (comparing b (length before)) call)

  pub lists_the_clashes : Bytes b → (number : ℕ) → answer ≡ finished (number ∷ []) → ListsTheClashes (book_of b) before after number
  lists_the_clashes y number e =
      let c = finished-listed before after (number ∷ []) b (sym e ∙ call.0, call.1) in
      let k : Book = book_of b in
      let ok = (reading.accepted-encode b y c.0).1 in
      lists_kept (clash k) (Clash k) (length k.templates) (λ i j l m. clash_means k ok i j (omega arith)) before after number (subst (λ ps. Listed ps before after (number ∷ [])) (clashing-kept k) c.1)

-- the list has at most 120 pairs, so 240 bytes
pub lists_are-short : (k : Book) → BookIn k → length (list_bytes (clashing k)) ≤ 240
lists_are-short k ok = omega (arith, list_size (clashing k), kept-few (clash k) (length k.templates) ok.of_templates.1, ap length (clashing-kept k))

-- A book is accepted exactly when it breaks none of the rules for 40 and 41.
pub accepted-breaks-none : (b : List ℕ) → ((k : Book) × (read_book b ≡ book.accepted k)) ↔ Kept (book_rules b)
accepted-breaks-none b =
    let f = book_follows b in (
      (λ a. first_or_none (book_rules b) (λ h. h) (λ n broken. not_accepted (sym (first_fails book.refused (book_rules b) (book.accepted f.0) broken) ∙ sym f.1 ∙ a.1))),
      λ h. (f.0, f.1 ∙ kept_goes book.refused (book_rules b) (book.accepted f.0) h),
    )
  where
    not_accepted : {P : Type 0} {n : ℕ} {k : Book} → book.refused n ≡ book.accepted k → P
    not_accepted e = let z : ◌≡◌ {A = ℕ} 0 1 = cc in absurd (omega arith)

-- a list is refused with 42 exactly when there are fewer than two bytes for each of its pairs
pub short_exactly : (ps : List Pair) (room : ℕ) {a : Answer} → a ≡ listing ps room → (a ≡ refused 42) ↔ (room < 2 * length ps)
short_exactly ps room e =
    let size = list_size ps in (
      (λ q. by_test (ltb room (2 * length ps))
          (λ t. ltb-true room _ t)
          (λ t. let h = ltb-false room _ t in not_finished (sym q ∙ e ∙ listing-fits ps room (omega arith)))),
      λ h. e ∙ listing-short ps room (omega arith),
    )

-- "42 when the list's buffer is shorter than the list": of an accepted book, exactly when it has fewer than two bytes for each pair that clashes
pub too_short_exactly : (b : List ℕ) → Bytes b → (k : Book) → read_book b ≡ book.accepted k → (room : ℕ) → (comparing b room ≡ refused 42) ↔ (room < 2 * length (clashing (book_of b)))
too_short_exactly b y k e room =
    let ok = reading.accepted-admitted b y e in
    short_exactly (clashing (book_of b)) room (comparing-accepted b room ok.0)
