-- A report's lines: their sizes, and what a filling that checks as a clash is. Assumes nothing.
use mathlib.Core.Path.{◌≡◌, ap}
use mathlib.Core.List.{List, [], ◌∷◌, ◌++◌}
use Prim.Native.Nat.{ℕ, ◌+◌, ◌*◌, ◌<◌, ◌≤◌}
use native.Mathlib.Omega.{arith}
use lib.ListN.{length, length-append, length-map}
use Rattle.model.specs.Lists.{each, up_to, Bytes}
use Rattle.model.specs.Sheet.{Sheet, got, rest, Accepted, sheet_of, equation, letter_of}
use Rattle.model.specs.Word.{text, letter_bytes, spell}
use Rattle.formula.specs.Dimacs.{decimal}
use Rattle.model.specs.Filling.{filling}
use Rattle.calls.specs.Report.{refused_line, labelled_line, clash_line, field_name, field_line, pair_name, pair_line, report, most_report}
use Rattle.calls.specs.Calls.{finished, checking}
use Rattle.model.proofs.Keeping.{each-short}
use Rattle.formula.proofs.Figures.{decimal-short_three}
use Rattle.model.proofs.Templates.{template-room}
use Rattle.calls.proofs.Passed.{answered, filling-read}
use Rattle.fields.specs.declared.Field.{Field}
use Rattle.fields.specs.Memory.{meaning, Held}
use Rattle.words.proofs.Meaning.{short-at}

-- the size of a line
pub line_size_lem : (s : Sheet) (name : List ℕ) (n : ℕ) (t : List ℕ) → length (labelled_line name n (letter_bytes s t)) ≡ length name + length t + 3
line_size_lem s name n t =
    let a = length-append name (((48 + n) ∷ 61 ∷ []) ++ (letter_bytes s t ++ (10 ∷ []))) in
    let b = length-append (letter_bytes s t) (10 ∷ []) in
    let c = length-map t (letter_of s) in
    omega arith

-- room for a line, by the word that is written as its text
pub line-room : (s : Sheet) (name : List ℕ) (n : ℕ) {w t : List ℕ} → w ≡ t → (at size : ℕ) → at + length (labelled_line name n (letter_bytes s t)) ≤ size
    → at + length name + length w + 3 ≤ size
line-room s name n {t = t} e at size room = let same = ap length e in omega (arith, line_size_lem s name n t)

module _ (b : List ℕ) (g : List Field) (ok : Held b g) where
  field_size : (f : ℕ) → f < length (sheet_of b).limits → length (field_line (sheet_of b) (meaning b g) f) ≤ 17
  field_size f h = omega (arith, line_size_lem (sheet_of b) field_name f (text (meaning b g) f), short-at b g ok f h)

  pair_size : (p : ℕ) → p < length (sheet_of b).equations → length (pair_line (sheet_of b) (meaning b g) p) ≤ 32
  pair_size p h =
      omega (arith, line_size_lem (sheet_of b) pair_name p (spell (meaning b g) (equation (sheet_of b) p).left), template-room (sheet_of b) ok.in_range p h (meaning b g) ok.legal 0)

  pub report_size : length (report (sheet_of b) (meaning b g)) ≤ most_report
  unfolding report
  report_size =
      let nf : ℕ = length (sheet_of b).limits in
      let np : ℕ = length (sheet_of b).equations in
      let fields : List ℕ = each (up_to nf) (field_line (sheet_of b) (meaning b g)) in
      let pairs : List ℕ = each (up_to np) (pair_line (sheet_of b) (meaning b g)) in
      let few-fields : length fields ≤ nf * 17 = each-short (field_line (sheet_of b) (meaning b g)) 17 nf field_size in
      let few-pairs : length pairs ≤ np * 32 = each-short (pair_line (sheet_of b) (meaning b g)) 32 np pair_size in
      omega (arith, length-append clash_line (fields ++ pairs), length-append fields pairs, ok.in_range.counts_in)

-- a filling that is answered was read whole
pub clash_ready : (b m : List ℕ) → Bytes b → {vs : List ℕ} → checking b m ≡ finished vs → Accepted b × (rest (filling (sheet_of b) m) ≡ got tt [])
clash_ready b m y e =
    let a = answered b m y e in
    (a.is_filling.accepted, ap rest (filling-read b m y a.substitution a.is_filling))

-- the line of a refusal, whose number is a byte
pub refused-short : (n : ℕ) → n ≤ 999 → length (refused_line n) ≤ 12
unfolding refused_line
refused-short n h = let d = decimal-short_three n h in let e = length-append (decimal n) (10 ∷ []) in omega arith
