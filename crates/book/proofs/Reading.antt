-- Reading a book is right. `read-encode`: the bytes of a book within the ranges are read as that book. `accepted-encode`: accepted bytes are those of
-- their book, which is within the ranges. `read_prefix`: the first 288 bytes decide. Assumes nothing.
use mathlib.Core.Path.{◌≡◌, refl, sym, ap, ◌∙◌}
use mathlib.Core.Bool.{true}
use mathlib.Core.List.{List, [], ◌∷◌, ◌++◌, map, append_assoc, append-nil}
use Prim.Native.Nat.{ℕ, ◌+◌, ◌-◌, ◌≤◌}
use native.Mathlib.Omega.{arith}
use lib.Dec.{leb}
use lib.ListN.{length, take, drop, length-map, length-drop}
use lib.Seq.{drop-append-le}
use borrow.Author.Tests.{le-leb}
use Rattle.model.specs.Lists.{between, starts_with, each, All, Bytes}
use Rattle.model.specs.Sheet.{width, symbol_of, symbol_byte, Step, got, fault, letter_byte, limit_byte, template_byte, row, times, bytes_of}
use Rattle.model.specs.Range.{TemplateIn}
use Rattle.model.proofs.Lists.{by_test}
use Rattle.model.proofs.Steps.{no-fault, same-got, went, held, longer, Within, within-got, within_more, within-must, within_then, within-times, prefix_decides}
use Rattle.model.proofs.Rows.{row_reads, row_exact, within-row}
use Rattle.model.proofs.Faithful.{rest_bytes, Exact, Faithful, times_reads, times_exact}
use Rattle.model.proofs.Opening.{between_in, between_out}
use Rattle.model.proofs.Sections.{letters_pass, letters-rise, letters_in_range, limits_pass, limits_in_range, symbols_again, symbols_back, template_reads, template_in}
use Rattle.book.proofs.Opening.{five_bytes, opens_longer}
use Rattle.book.specs.Book.{Template, Book, count, some_symbols, a_template, some_templates, body, Reading, accepted, refused, mark, opens, ended, read_book, encode_template, encode_book, OwnIn, BookIn, book_in, book_of, Admitted}

-- A count.
module _ (low high : ℕ) where
  pub count_reads : (x : ℕ) (xs : List ℕ) → low ≤ x → x ≤ high → count low high (x ∷ xs) ≡ got x xs
  unfolding count
  count_reads x xs h k = rw (between_in low high x h k)

  pub record CountOf (xs : List ℕ) (x : ℕ) (zs : List ℕ) : Type 0 where
    pub bytes : xs ≡ x ∷ zs
    pub least : low ≤ x
    pub most : x ≤ high

  pub count_exact : (xs : List ℕ) {x : ℕ} {zs : List ℕ} → count low high xs ≡ got x zs → CountOf xs x zs
  unfolding count
  count_exact [] h = no-fault h
  count_exact (y ∷ ys) h =
      let a = held (between low high y) 41 (got y ys) h in
      let b = between_out low high y a.0 in
      same-got (CountOf (y ∷ ys)) a.1 (record { bytes = refl; least = b.0; most = b.1 })

  count_longer : (xs ys : List ℕ) → 1 ≤ length xs → count low high (xs ++ ys) ≡ longer ys (count low high xs)
  unfolding count
  count_longer [] ys h = absurd (omega arith)
  count_longer (x ∷ xs) ys h = by_test (between low high x) (λ e. rw e) (λ e. rw e)

  pub within_count : Within 1 (count low high)
  within_count = record { local = count_longer; spends = λ xs e. let c = ap length (count_exact xs e).bytes in omega arith }

-- A template.
module _ (l : ℕ) (small : l ≤ 128) where
  symbols-read : (t : Template) (zs : List ℕ) → TemplateIn l t.limits t.symbols → some_symbols l t.limits ((length t.symbols ∷ map symbol_byte t.symbols) ++ zs) ≡ got t zs
  unfolding some_symbols
  symbols-read t zs h =
      rw (
        count_reads 0 12 (length t.symbols) (map symbol_byte t.symbols ++ zs) (omega arith) h.count,
        template_reads l t.limits small t.symbols zs h,
        symbols_again l (length t.limits) small t.symbols h.symbols,
        le-leb (width t.limits t.symbols) 24 h.wide,
      )

  template-read : (t : Template) (zs : List ℕ) → OwnIn l t → a_template l (encode_template t ++ zs) ≡ got t zs
  unfolding a_template
  template-read t zs h =
      let rest : List ℕ = length t.symbols ∷ map symbol_byte t.symbols in
      rw (
        append_assoc t.limits rest zs,
        count_reads 0 3 (length t.limits) (t.limits ++ (rest ++ zs)) (omega arith) h.few,
        row_reads limit_byte 0 t.limits (rest ++ zs) (limits_pass t.limits h.limits_in),
      )
      (symbols-read t zs h.template_in)

  -- exactly its bytes
  record SymbolsOf (limits xs : List ℕ) (t : Template) (zs : List ℕ) : Type 0 where
    bytes : xs ≡ (length t.symbols ∷ map symbol_byte t.symbols) ++ zs
    own : t.limits ≡ limits
    in_range : TemplateIn l limits t.symbols

  symbols_exact : (limits xs : List ℕ) {t : Template} {zs : List ℕ} → some_symbols l limits xs ≡ got t zs → SymbolsOf limits xs t zs
  unfolding some_symbols
  symbols_exact limits xs h =
      let g = went (count 0 12 xs) _ h in
      let c = count_exact 0 12 xs g.first in
      let k = went (row (template_byte l (length limits)) 0 g.value g.rest) _ g.second in
      let r = row_exact (template_byte l (length limits)) 0 g.value g.rest k.first in
      let us = k.value in
      let whole : Step Template = got (record { limits = limits; symbols = map symbol_of us }) k.rest in
      let p = held (leb (width limits (map symbol_of us)) 24) 41 whole k.second in
      same-got (SymbolsOf limits xs) p.1
      (record {
        bytes = c.bytes ∙ rw (length-map us symbol_of, symbols_back us, r.count) (ap (λ ys. g.value ∷ ys) r.bytes);
        own = refl;
        in_range = template_in l limits small g.value us r.count c.most r.pass p.0;
      })

  -- the bytes and the ranges of a template from those of its parts
  joined : (t : Template) (v : ℕ) (limits xs zs : List ℕ) → t.limits ≡ limits → length limits ≡ v
      → xs ≡ v ∷ (limits ++ ((length t.symbols ∷ map symbol_byte t.symbols) ++ zs)) → xs ≡ encode_template t ++ zs
  joined t v limits xs zs own n e = e ∙ rw (own, n, append_assoc limits (length t.symbols ∷ map symbol_byte t.symbols) zs)

  in_own : (t : Template) (limits : List ℕ) → t.limits ≡ limits → length limits ≤ 3 → All (λ n. n ≤ 8) limits → TemplateIn l limits t.symbols → OwnIn l t
  in_own t limits own n h k = record { few = rw own n; limits_in = rw own h; template_in = rw own k }

  template_exact : (xs : List ℕ) {t : Template} {zs : List ℕ} → a_template l xs ≡ got t zs → Exact encode_template (OwnIn l) xs t zs
  unfolding a_template
  template_exact xs {t} {zs} h =
      let g = went (count 0 3 xs) _ h in
      let c = count_exact 0 3 xs g.first in
      let k = went (row limit_byte 0 g.value g.rest) _ g.second in
      let r = row_exact limit_byte 0 g.value g.rest k.first in
      let s = symbols_exact k.value k.rest k.second in
      record {
        bytes = joined t g.value k.value xs zs s.own r.count (c.bytes ∙ ap (λ ys. g.value ∷ ys) (r.bytes ∙ ap (λ ys. k.value ++ ys) s.bytes));
        ok = in_own t k.value s.own (omega (arith, c.most, r.count)) (limits_in_range k.value r.pass) s.in_range;
      }

  pub template_faithful : Faithful (a_template l) encode_template (OwnIn l)
  template_faithful = record { reads = template-read; exact = λ xs b h. template_exact xs h }

-- The bytes of a book are read as that book.
abbrev body_bytes : Book → List ℕ
body_bytes k = length k.letters ∷ (k.letters ++ (length k.templates ∷ each k.templates encode_template))

module _ (k : Book) (ok : BookIn k) where
  body_reads : body (body_bytes k) ≡ got k []
  unfolding body some_templates
  body_reads =
      let l : ℕ = length k.letters in
      let ts : List ℕ = each k.templates encode_template in
      rw (
        count_reads 1 8 l (k.letters ++ (length k.templates ∷ ts)) ok.of_letters.0 ok.of_letters.1,
        row_reads letter_byte 0 k.letters (length k.templates ∷ ts) (letters_pass 0 k.letters ok.letters_in ok.rising),
        count_reads 1 16 (length k.templates) ts ok.of_templates.0 ok.of_templates.1,
        ap (times (length k.templates) (a_template l)) (sym (append-nil ts)) ∙ times_reads (a_template l) encode_template _ (template_faithful l (omega (arith, ok.of_letters))) k.templates [] ok.templates_in,
      )

  pub read-encode : read_book (encode_book k) ≡ accepted k
  unfolding read_book encode_book opens starts_with
  read-encode = rw (le-leb 5 (length (mark ++ (bytes_of 1 ++ body_bytes k))) (omega arith), body_reads)

-- Accepted bytes are those of their book.
ended-accepted : (st : Step Book) {k : Book} → ended st ≡ accepted k → st ≡ got k []
ended-accepted (got a []) h = cc
ended-accepted (got a (z ∷ zs)) h = absurd (let z : ◌≡◌ {A = ℕ} 0 1 = cc in omega arith)
ended-accepted (fault n) h = absurd (let z : ◌≡◌ {A = ℕ} 0 1 = cc in omega arith)

pub accepted-body : (b : List ℕ) {k : Book} → read_book b ≡ accepted k → (opens mark b ≡ true) × (body (drop 5 b) ≡ got k [])
unfolding read_book
accepted-body b h =
    by_test (opens mark b)
    (λ e. (e, ended-accepted (body (drop 5 b)) (rw e at h)))
    (λ e. let no = rw e at h in let z : ◌≡◌ {A = ℕ} 0 1 = cc in absurd (omega arith))

module _ (xs : List ℕ) (y : Bytes xs) where
  body_exact : {k : Book} {zs : List ℕ} → body xs ≡ got k zs → (xs ≡ length k.letters ∷ (k.letters ++ (length k.templates ∷ (each k.templates encode_template ++ zs)))) × BookIn k
  unfolding body some_templates
  body_exact h =
      let g = went (count 1 8 xs) _ h in
      let l = count_exact 1 8 xs g.first in
      let a = went (row letter_byte 0 g.value g.rest) _ g.second in
      let r = row_exact letter_byte 0 g.value g.rest a.first in
      let f = went (some_templates g.value a.rest) _ a.second in
      let d = went (count 1 16 a.rest) _ f.first in
      let n = count_exact 1 16 a.rest d.first in
      let y1 = (rest_bytes (g.value ∷ []) g.rest l.bytes y).1 in
      let y2 = (rest_bytes a.value a.rest r.bytes y1).1 in
      let y3 = (rest_bytes (d.value ∷ []) d.rest n.bytes y2).1 in
      let t = times_exact (a_template g.value) encode_template _ (template_faithful g.value (omega (arith, l.most))) d.value d.rest y3 d.second in
      same-got (λ k zs. (xs ≡ length k.letters ∷ (k.letters ++ (length k.templates ∷ (each k.templates encode_template ++ zs)))) × BookIn k) f.second (
        l.bytes ∙ rw (r.count, t.ok.0) (ap (λ ys. g.value ∷ ys) (r.bytes ∙ ap (λ ys. a.value ++ ys) (n.bytes ∙ ap (λ ys. d.value ∷ ys) t.bytes))),
        record {
          of_letters = (omega (arith, l.least, r.count), omega (arith, l.most, r.count));
          letters_in = letters_in_range 0 a.value r.pass;
          rising = letters-rise 0 a.value r.pass;
          of_templates = (omega (arith, n.least, t.ok.0), omega (arith, n.most, t.ok.0));
          templates_in = rw r.count t.ok.1;
        },
      )

pub accepted-encode : (b : List ℕ) {k : Book} → Bytes b → read_book b ≡ accepted k → (b ≡ encode_book k) × BookIn k
unfolding encode_book
accepted-encode b {k} y h =
    let a = accepted-body b h in
    let f = five_bytes mark b refl a.0 in
    let e = body_exact (drop 5 b) (rest_bytes (mark ++ bytes_of 1) (drop 5 b) f y).1 a.1 in
    (f ∙ ap (λ ys. mark ++ (bytes_of 1 ++ ys)) (e.0 ∙ rw (append-nil (each k.templates encode_template))), e.1)

-- What callers use of accepted bytes.
accepted_book : (b : List ℕ) (r : Reading) {k : Book} → read_book b ≡ r → r ≡ accepted k → read_book b ≡ accepted (book_in (read_book b))
accepted_book b (accepted k) e h = e ∙ ap (λ x. accepted (book_in x)) (sym e)
accepted_book b (refused n) e h = let z : ◌≡◌ {A = ℕ} 0 1 = cc in absurd (omega arith)

pub accepted-admitted : (b : List ℕ) {k : Book} → Bytes b → read_book b ≡ accepted k → Admitted b
unfolding book_of
accepted-admitted b y h = let e = accepted_book b (read_book b) refl h in (e, (accepted-encode b y e).1)

pub admitted_bytes : (b : List ℕ) → Bytes b → Admitted b → b ≡ encode_book (book_of b)
admitted_bytes b y h = (accepted-encode b y h.0).0

-- A bounded prefix decides: the mark and the version, 1 byte and 8 letters, 1 byte, and 16 templates of at most 17 bytes.
within-symbols : (l : ℕ) (limits : List ℕ) → Within 13 (some_symbols l limits)
unfolding some_symbols
within-symbols l limits =
    within_then 1 12 (count 0 12) _ (within_count 0 12)
    (λ xs n zs e. within_then 12 0 (row (template_byte l (length limits)) 0 n) _ (within_more (within-row (template_byte l (length limits)) 0 n) (count_exact 0 12 xs e).most)
    (λ xs us zs e. within-must (leb (width limits (map symbol_of us)) 24) 41 (within-got _)))

within-template : (l : ℕ) → Within 17 (a_template l)
unfolding a_template
within-template l =
    within_then 1 16 (count 0 3) _ (within_count 0 3)
    (λ xs v zs e. within_then 3 13 (row limit_byte 0 v) _ (within_more (within-row limit_byte 0 v) (count_exact 0 3 xs e).most)
    (λ xs limits zs e. within-symbols l limits))

within-templates : (l : ℕ) → Within 273 (some_templates l)
unfolding some_templates
within-templates l =
    within_then 1 272 (count 1 16) _ (within_count 1 16)
    (λ xs n zs e. within_more (within-times 17 (a_template l) (within-template l) n) (let m = (count_exact 1 16 xs e).most in omega arith))

within-body : Within 282 body
unfolding body
within-body =
    within_then 1 281 (count 1 8) _ (within_count 1 8)
    (λ xs l zs e. within_then 8 273 (row letter_byte 0 l) _ (within_more (within-row letter_byte 0 l) (count_exact 1 8 xs e).most)
    (λ xs ls zs e. within_then 273 0 (some_templates l) _ (within-templates l) (λ xs ts zs e. within-got _)))

longer_ended : (ys : List ℕ) (s : Step Book) → ((k : Book) (zs : List ℕ) → s ≡ got k zs → 1 ≤ length zs) → ended (longer ys s) ≡ ended s
longer_ended ys (got k []) h = absurd (let z = h k [] refl in omega arith)
longer_ended ys (got k (z ∷ zs)) h = refl
longer_ended ys (fault n) h = refl

read_longer : (xs ys : List ℕ) → 288 ≤ length xs → read_book (xs ++ ys) ≡ read_book xs
unfolding read_book
read_longer xs ys h =
    let n : length (drop 5 xs) ≡ length xs - 5 = length-drop 5 xs in
    rw (
      opens_longer mark xs ys refl (omega arith),
      drop-append-le 5 xs ys (omega arith),
      within-body.local (drop 5 xs) ys (omega arith),
      longer_ended ys (body (drop 5 xs)) (λ k zs e. let m = within-body.spends (drop 5 xs) e in omega arith),
    )

pub read_prefix : (b : List ℕ) → read_book b ≡ read_book (take 288 b)
read_prefix = prefix_decides read_book 288 read_longer

-- and no accepted book is longer than 287 bytes
pub book_short : (b : List ℕ) {k : Book} → read_book b ≡ accepted k → length b ≤ 287
book_short b h =
    let a = accepted-body b h in
    let n = within-body.spends (drop 5 b) a.1 in
    let m = length-drop 5 b in
    omega arith
