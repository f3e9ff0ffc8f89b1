-- The two parts are the bytes of the question, and small. Assumes nothing.
use mathlib.Core.Path.{◌≡◌, refl, sym, ap, ap₂, ◌∙◌}
use mathlib.Core.List.{List, [], ◌∷◌, ◌++◌, map, append_assoc, append-nil}
use Prim.Native.Nat.{ℕ, ◌+◌, ◌<◌, ◌≤◌}
use native.Mathlib.Omega.{arith}
use lib.ListN.{length, length-append, length-map}
use borrow.Author.Tests.{lt-ltb, le-ltb}
use Rattle.model.specs.Lists.{each, All}
use Rattle.model.specs.Sheet.{Symbol, letter, field, symbol_byte, encode_equation, header, encode}
use Rattle.model.specs.Range.{SymbolIn}
use Rattle.model.proofs.Lists.{weaken, map_in}
use Rattle.model.proofs.Sections.{symbol_again}
use Rattle.book.specs.Book.{Template, Book, template, OwnIn, BookIn}
use Rattle.book.specs.Pairs.{numbered_after, asked, question}
use Rattle.book.proofs.Question.{own_in}
use Rattle.book_question.specs.Bytes.{numbered, head_bytes, sides_bytes}

-- a symbol's byte by its two cases
module _ (n x : ℕ) where
  pub numbered-letter : x < 128 → numbered n x ≡ x
  unfolding numbered
  numbered-letter h = rw (lt-ltb x 128 h)

  pub numbered-field : 128 ≤ x → numbered n x ≡ x + n
  unfolding numbered
  numbered-field h = rw (le-ltb x 128 h) (omega arith)

-- of symbols
module _ (l v : ℕ) (small : l ≤ 128) where
  numbered_one : (n : ℕ) (t : Symbol) → SymbolIn l v t → numbered n (symbol_byte t) ≡ symbol_byte (numbered_after n t)
  unfolding numbered
  numbered_one n t h = ap (λ s. symbol_byte (numbered_after n s)) (symbol_again l v small t h)

  pub numbered-all : (n : ℕ) (t : List Symbol) → All (SymbolIn l v) t → map (numbered n) (map symbol_byte t) ≡ map symbol_byte (map (numbered_after n) t)
  unfolding All
  numbered-all n [] h = refl
  numbered-all n (s ∷ t) h = ap₂ ◌∷◌ (numbered_one n s h.0) (numbered-all n t h.1)

  symbol_small : v ≤ 3 → (t : Symbol) → SymbolIn l v t → symbol_byte t < 128 + 3
  symbol_small few (letter a) h = omega arith
  symbol_small few (field f) h = omega arith

  pub symbols-small : v ≤ 3 → (t : List Symbol) → All (SymbolIn l v) t → All (λ x. x < 128 + 3) (map symbol_byte t)
  symbols-small few t h = map_in _ symbol_byte t (weaken _ _ t (symbol_small few) h)

-- a sheet with one equation and no constraint in two parts
one_equation : (h letters limits e : List ℕ) → h ++ (letters ++ (limits ++ ((e ++ []) ++ []))) ≡ (h ++ (letters ++ limits)) ++ e
one_equation h letters limits e =
    ap (λ z. h ++ (letters ++ (limits ++ z))) (append-nil (e ++ []) ∙ append-nil e)
    ∙ ap (λ z. h ++ z) (sym (append_assoc letters limits e))
    ∙ sym (append_assoc h (letters ++ limits) e)

-- the whole question
module _ (k : Book) (ok : BookIn k) (i j : ℕ) (hi : i < length k.templates) (hj : j < length k.templates) where
  abbrev t : Template
  t = template k i

  abbrev u : Template
  u = template k j

  abbrev head : List ℕ
  head = head_bytes k.letters t.limits u.limits

  abbrev tail : List ℕ
  tail = sides_bytes (length t.limits) (map symbol_byte t.symbols) (map symbol_byte u.symbols)

  pub t_in : OwnIn (length k.letters) t
  t_in = own_in k ok i hi

  pub u_in : OwnIn (length k.letters) u
  u_in = own_in k ok j hj

  pub question_bytes : encode (question k i j) ≡ head ++ tail
  unfolding asked encode each head_bytes sides_bytes
  question_bytes =
      let limits : List ℕ = t.limits ++ u.limits in
      let right : List Symbol = map (numbered_after (length t.limits)) u.symbols in
      let e : List ℕ = encode_equation (record { left = t.symbols; right = right }) in
      let h : ℕ → List ℕ = λ v. header (record { letter_count = length k.letters; field_count = v; equation_count = 1; constraint_count = 0 }) in
      ap (λ v. h v ++ (k.letters ++ (limits ++ ((e ++ []) ++ [])))) (length-append t.limits u.limits)
      ∙ one_equation (h (length t.limits + length u.limits)) k.letters limits e
      ∙ ap (λ z. head ++ z)
      (rw (
        numbered-all (length k.letters) (length u.limits) (omega (arith, ok.of_letters)) (length t.limits) u.symbols u_in.template_in.symbols,
        length-map t.symbols symbol_byte,
        length-map u.symbols symbol_byte,
        length-map u.symbols (numbered_after (length t.limits)),
      ))

  pub head_size : length head ≡ 9 + length k.letters + length t.limits + length u.limits
  unfolding head_bytes
  head_size =
      let n = length-append k.letters (t.limits ++ u.limits) in
      let m = length-append t.limits u.limits in
      omega arith

  pub tail_size : length tail ≡ 2 + length t.symbols + length u.symbols
  unfolding sides_bytes
  tail_size =
      let n = length-append (map symbol_byte t.symbols) (map (numbered (length t.limits)) (map symbol_byte u.symbols)) in
      let a = length-map t.symbols symbol_byte in
      let b = length-map (map symbol_byte u.symbols) (numbered (length t.limits)) in
      let c = length-map u.symbols symbol_byte in
      omega arith

  pub question-small : length head + length tail ≤ 49
  question-small = omega (arith, head_size, tail_size, ok.of_letters, t_in.few, u_in.few, t_in.template_in.count, u_in.template_in.count)
