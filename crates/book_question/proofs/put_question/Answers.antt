-- `book_question::put_question` meets its contract: the head, then the two sides. Assumes nothing.
use mathlib.Core.Path.{◌≡◌, refl, sym, ap, subst, ◌∙◌}
use mathlib.Core.List.{List, [], ◌∷◌, map}
use Prim.Native.Nat.{ℕ, ◌+◌, ◌<◌, ◌≤◌}
use native.Mathlib.Omega.{arith}
use lib.ListN.{length, length-append, length-map}
use Rattle.model.specs.Lists.{All, Puts}
use Rattle.model.specs.Sheet.{symbol_byte, encode}
use Rattle.model.proofs.Writing.{Writing, joined, begin, fits, next, ends}
use Rattle.book.specs.Book.{Book, template, book_of}
use Rattle.book.specs.Pairs.{question}
use Rattle.book_question.specs.Bytes.{head_bytes, sides_bytes}
use Rattle.book_question.proofs.Laws.{t_in, u_in, symbols-small, question_bytes, question-small}
use Rattle.book_question.proofs.put_question.Goals as goal
use Rattle.book_question.proofs.put_question.Lts as lts
use Rattle.book_question.proofs.put_question.Reads as reads
use Rattle.book_question.proofs.put_question.Tie as tie

-- what holds of three lists holds of what they are
swap : (P : List ℕ → List ℕ → List ℕ → Type 0) {a b d x y z : List ℕ} → a ≡ x → b ≡ y → d ≡ z → P x y z → P a b d
swap P {a} {b} {d} {x} {y} {z} e f g h = subst (λ l. P l b d) (sym e) (subst (λ l. P x l d) (sym f) (subst (P x y) (sym g) h))

module _ (c : lts.Start tie.the-claims reads.Pre reads.Post) where
  abbrev k : Book
  k = book_of c.args.book.now

  abbrev head : List ℕ
  head = head_bytes k.letters (template k c.args.i).limits (template k c.args.j).limits

  abbrev tail : List ℕ
  tail = sides_bytes (length (template k c.args.i).limits) (map symbol_byte (template k c.args.i).symbols) (map symbol_byte (template k c.args.j).symbols)

  abbrev Still : List ℕ → List (List ℕ) → List ℕ → ℕ → Type 0
  Still = Writing c.args.buf.now 0 (encode (question k c.args.i c.args.j))

  -- both parts are to be written
  both : Still head (tail ∷ []) c.args.buf.now 0
  unfolding joined
  both =
      let e = question_bytes k c.requires.0.1 c.args.i c.args.j c.requires.1 c.requires.2 in
      let n = ap length e ∙ length-append head tail in
      begin c.args.buf.now 0 _ head (tail ∷ []) e (omega (arith, question-small k c.requires.0.1 c.args.i c.args.j c.requires.1 c.requires.2, c.requires.3))

  -- what the head's pieces keep to
  abbrev HeadAsks : List ℕ → List ℕ → List ℕ → Type 0
  HeadAsks letters left right = (length letters ≤ 8) × (length left ≤ 3) × (length right ≤ 3) × (length (head_bytes letters left right) ≤ length c.args.buf.now)

  head-asks : HeadAsks k.letters (template k c.args.i).limits (template k c.args.j).limits
  head-asks =
      let n = fits both in
      (c.requires.0.1.of_letters.1, (t_in k c.requires.0.1 c.args.i c.args.j c.requires.1 c.requires.2).few, (u_in k c.requires.0.1 c.args.i c.args.j c.requires.1 c.requires.2).few, omega arith)

  -- what the pieces of the two sides keep to, at an offset of a buffer
  abbrev SidesAsk : ℕ → List ℕ → List ℕ → List ℕ → List ℕ → Type 0
  SidesAsk at buf limits left right =
      (length limits ≤ 3) × All (λ x. x < 128 + 3) right × (length left ≤ 12) × (length right ≤ 12) × (at + length (sides_bytes (length limits) left right) ≤ length buf)

  sides-ask : (at : ℕ) (buf : List ℕ) → at + length tail ≤ length buf
      → SidesAsk at buf (template k c.args.i).limits (map symbol_byte (template k c.args.i).symbols) (map symbol_byte (template k c.args.j).symbols)
  sides-ask at buf h =
      let t = t_in k c.requires.0.1 c.args.i c.args.j c.requires.1 c.requires.2 in
      let u = u_in k c.requires.0.1 c.args.i c.args.j c.requires.1 c.requires.2 in
      let n = length-map (template k c.args.i).symbols symbol_byte in
      let m = length-map (template k c.args.j).symbols symbol_byte in (
        t.few,
        symbols-small (length k.letters) _ (omega (arith, c.requires.0.1.of_letters)) u.few (template k c.args.j).symbols u.template_in.symbols,
        omega (arith, t.template_in.count),
        omega (arith, u.template_in.count),
        h,
      )

-- the places past the limits and past the head
abbrev start : lts.After-limits2 tie.the-claims reads.Pre reads.Post → lts.Start tie.the-claims reads.Pre reads.Post
start c = c.before.before.before.before

left_is : (c : lts.After-limits2 tie.the-claims reads.Pre reads.Post) → c.limits-left.result.now ≡ (template (k c.before.before.before.before) c.args.i).limits
left_is c = c.limits-left.ensures

right_is : (c : lts.After-limits2 tie.the-claims reads.Pre reads.Post) → c.limits-right.result.now ≡ (template (k c.before.before.before.before) c.args.j).limits
right_is c = c.limits-right.ensures

-- the head is written
headed : (c : lts.After-put_head tie.the-claims reads.Pre reads.Post) → let s = start c.before.before.before in Still s (tail s) [] c.put_head-at.new.buf c.put_head-at.result
headed c =
    let s = start c.before.before.before in
    let e = swap (λ l m n. head_bytes l m n ≡ head s) c.letters.ensures (left_is c.before.before.before) (right_is c.before.before.before) refl in
    next (both s) (subst (λ p. Puts s.args.buf.now 0 p c.put_head-at.new.buf c.put_head-at.result) e c.put_head-at.ensures) c.put_head-at.auto.buf

pub put_head-at-requires : goal.put_head-at-requires
put_head-at-requires c =
    swap (HeadAsks c.before.before.before.before.before.before.before) c.letters.ensures (left_is c.before.before.before) (right_is c.before.before.before) (head-asks c.before.before.before.before.before.before.before)

pub overflow_cast-left : goal.overflow_cast-left
overflow_cast-left c =
    omega (arith, ap length (left_is c.before.before.before.before.before.before.before), head-asks c.before.before.before.before.before.before.before.before.before.before.before)

pub put_sides-requires : goal.put_sides-requires
put_sides-requires c =
    swap (SidesAsk c.before.before.before.before.before.before.before.before.before.before.before.before.before c.put_head-at.result c.put_head-at.new.buf) (left_is c.before.before.before.before.before.before.before.before.before) c.symbols.ensures c.symbols-2.ensures
    (sides-ask c.before.before.before.before.before.before.before.before.before.before.before.before.before c.put_head-at.result c.put_head-at.new.buf (fits (headed c.before.before.before.before.before.before)))

pub returns : goal.returns
returns c =
    let e = swap (λ l m n. sides_bytes (length l) m n ≡ tail c.before.before.before.before.before.before.before.before.before.before.before.before.before.before.before.before) (left_is c.before.before.before.before.before.before.before.before.before.before.before.before) c.symbols.ensures c.symbols-2.ensures refl in
    ends _ _ (headed c.before.before.before.before.before.before.before.before.before) (subst (λ p. Puts c.put_head-at.new.buf c.put_head-at.result p c.put_sides.new.buf c.put_sides.result) e c.put_sides.ensures) c.put_sides.auto.buf
