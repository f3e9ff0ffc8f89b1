-- What is left after each part of a book's walk, without the values: what code that reads byte by byte needs of each definition. Assumes nothing.
use mathlib.Core.Path.{◌≡◌, refl, sym, ap, ◌∙◌}
use mathlib.Core.Bool.{true, false}
use mathlib.Core.List.{List, [], ◌∷◌, map}
use Prim.Native.Nat.{ℕ, ◌<◌, ◌≤◌}
use native.Mathlib.Omega.{arith}
use lib.Dec.{leb}
use lib.ListN.{length, get_or, take, drop, drop_of_length-le}
use lib.Seq.{drop-cons}
use Rattle.model.specs.Lists.{between}
use Rattle.model.specs.Sheet.{Step, got, fault, rest, Role, letter_byte, limit_byte, template_byte, row, times, symbol_of, width}
use Rattle.model.proofs.Rests.{found, rest_stops, rest_wrapped, row-value}
use Rattle.book.specs.Book.{Book, count, some_symbols, a_template, some_templates, body, accepted, refused, mark, opens, ended, read_book}
use Rattle.book.proofs.Reading.{count_exact}

-- A count is the byte that stands there.
module _ (low high : ℕ) (xs : List ℕ) where
  pub count-lacks : xs ≡ [] → rest (count low high xs) ≡ fault 41
  unfolding count
  count-lacks e = rw e

  module _ (x : ℕ) (ys : List ℕ) (e : xs ≡ x ∷ ys) where
    pub count_stops : between low high x ≡ false → rest (count low high xs) ≡ fault 41
    unfolding count
    count_stops h = rw (e, h)

    pub count_goes : between low high x ≡ true → rest (count low high xs) ≡ got tt ys
    unfolding count
    count_goes h = rw (e, h)

  count-value : {n : ℕ} {ys : List ℕ} → n ≡ get_or xs 0 0 → rest (count low high xs) ≡ got tt ys → count low high xs ≡ got n ys
  count-value {n} {ys} e h =
      let f = found (count low high xs) h in
      let c = count_exact low high xs f.is in
      f.is ∙ ap (λ n. got n ys) (sym (e ∙ ap (λ zs. get_or zs 0 0) c.bytes))

-- a row that is read is the bytes that stand there
row-found : (role : Role) (n : ℕ) (xs : List ℕ) {ys : List ℕ} → rest (row role 0 n xs) ≡ got tt ys → row role 0 n xs ≡ got (take n xs) ys
row-found role n xs {ys} h = let f = found (row role 0 n xs) h in f.is ∙ ap (λ us. got us ys) (row-value role 0 n xs f.is)

-- The symbols of a template with v fields, n of them.
module _ (l v : ℕ) (limits xs : List ℕ) (counted : length limits ≡ v) where
  pub symbols-none : {k : ℕ} → rest (count 0 12 xs) ≡ fault k → rest (some_symbols l limits xs) ≡ fault k
  unfolding some_symbols
  symbols-none h = rest_stops (count 0 12 xs) _ h

  module _ (n : ℕ) (ys : List ℕ) (is : n ≡ get_or xs 0 0) (c : rest (count 0 12 xs) ≡ got tt ys) where
    pub symbols_stop : {k : ℕ} → rest (row (template_byte l v) 0 n ys) ≡ fault k → rest (some_symbols l limits xs) ≡ fault k
    unfolding some_symbols
    symbols_stop h = rw (counted, count-value 0 12 xs is c) (rest_stops (row (template_byte l v) 0 n ys) _ h)

    module _ (zs : List ℕ) (r : rest (row (template_byte l v) 0 n ys) ≡ got tt zs) where
      pub symbols-wide : leb (width limits (map symbol_of (take n ys))) 24 ≡ false → rest (some_symbols l limits xs) ≡ fault 41
      unfolding some_symbols
      symbols-wide e = rw (counted, count-value 0 12 xs is c, row-found (template_byte l v) n ys r, e)

      pub symbols-left : leb (width limits (map symbol_of (take n ys))) 24 ≡ true → rest (some_symbols l limits xs) ≡ got tt zs
      unfolding some_symbols
      symbols-left e = rw (counted, count-value 0 12 xs is c, row-found (template_byte l v) n ys r, e)

-- A template with v fields.
module _ (l : ℕ) (xs : List ℕ) where
  pub template-none : {k : ℕ} → rest (count 0 3 xs) ≡ fault k → rest (a_template l xs) ≡ fault k
  unfolding a_template
  template-none h = rest_stops (count 0 3 xs) _ h

  module _ (v : ℕ) (ys : List ℕ) (is : v ≡ get_or xs 0 0) (c : rest (count 0 3 xs) ≡ got tt ys) where
    pub template_stops : {k : ℕ} → rest (row limit_byte 0 v ys) ≡ fault k → rest (a_template l xs) ≡ fault k
    unfolding a_template
    template_stops h = rw (count-value 0 3 xs is c) (rest_stops (row limit_byte 0 v ys) _ h)

    pub template-left : (zs : List ℕ) → rest (row limit_byte 0 v ys) ≡ got tt zs → rest (a_template l xs) ≡ rest (some_symbols l (take v ys) zs)
    unfolding a_template
    template-left zs h = rw (count-value 0 3 xs is c, row-found limit_byte v ys h)

-- The templates, n of them.
module _ (l : ℕ) (xs : List ℕ) where
  pub templates-none : {k : ℕ} → rest (count 1 16 xs) ≡ fault k → rest (some_templates l xs) ≡ fault k
  unfolding some_templates
  templates-none h = rest_stops (count 1 16 xs) _ h

  pub templates-left : (n : ℕ) (ys : List ℕ) → n ≡ get_or xs 0 0 → rest (count 1 16 xs) ≡ got tt ys → rest (some_templates l xs) ≡ rest (times n (a_template l) ys)
  unfolding some_templates
  templates-left n ys is h = rw (count-value 1 16 xs is h)

-- The body, with l letters.
module _ (xs : List ℕ) where
  pub body-none : {k : ℕ} → rest (count 1 8 xs) ≡ fault k → rest (body xs) ≡ fault k
  unfolding body
  body-none h = rest_stops (count 1 8 xs) _ h

  module _ (l : ℕ) (ys : List ℕ) (is : l ≡ get_or xs 0 0) (c : rest (count 1 8 xs) ≡ got tt ys) where
    pub letters_stop : {k : ℕ} → rest (row letter_byte 0 l ys) ≡ fault k → rest (body xs) ≡ fault k
    unfolding body
    letters_stop h = rw (count-value 1 8 xs is c) (rest_stops (row letter_byte 0 l ys) _ h)

    pub letters-left : (zs : List ℕ) → rest (row letter_byte 0 l ys) ≡ got tt zs → rest (body xs) ≡ rest (some_templates l zs)
    unfolding body
    letters-left zs r = rw (count-value 1 8 xs is c, row-found letter_byte l ys r) (rest_wrapped (some_templates l zs) _)

-- The whole.
module _ (b : List ℕ) where
  pub read_shut : opens mark b ≡ false → read_book b ≡ refused 40
  unfolding read_book
  read_shut e = rw e

  module _ (o : opens mark b ≡ true) where
    read_on : {s : Step Book} → body (drop 5 b) ≡ s → read_book b ≡ ended s
    unfolding read_book
    read_on e = rw (o, e)

    pub read_stops : {n : ℕ} → rest (body (drop 5 b)) ≡ fault n → read_book b ≡ refused 41
    read_stops h = by_step (body (drop 5 b)) refl h
      where
        by_step : (s : Step Book) → body (drop 5 b) ≡ s → {n : ℕ} → rest s ≡ fault n → read_book b ≡ refused 41
        by_step (got k zs) e h = let z : ◌≡◌ {A = ℕ} 0 1 = cc in absurd (omega arith)
        by_step (fault m) e h = read_on e

    module _ (e : ℕ) (h : rest (body (drop 5 b)) ≡ got tt (drop e b)) where
      pub read_over : e < length b → read_book b ≡ refused 41
      read_over l =
          let f = found (body (drop 5 b)) h in
          read_on f.is ∙ ap (λ zs. ended (got f.value zs)) (drop-cons b e 0 l)

      pub read_done : length b ≤ e → (k : Book) × (read_book b ≡ accepted k)
      read_done l =
          let f = found (body (drop 5 b)) h in
          (f.value, read_on f.is ∙ ap (λ zs. ended (got f.value zs)) (drop_of_length-le b l))
