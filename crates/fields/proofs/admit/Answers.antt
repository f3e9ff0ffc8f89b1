-- `fields::admit` meets its contract. The loop's invariant: the fields from f on leave what the whole filling leaves. Assumes nothing.
use mathlib.Core.Path.{◌≡◌, sym, ap, ◌∙◌}
use mathlib.Core.List.{List}
use Prim.Native.Nat.{ℕ, ◌*◌}
use native.Mathlib.Omega.{arith}
use lib.ListN.{length, drop, length-drop}
use Rattle.std.specs.Prelude.{Result}
use Rattle.std.proofs.lemmas.Result.{err_from_is_err_and}
use Rattle.model.specs.Sheet.{Counts, counts_of, rest, sheet_of}
use Rattle.model.specs.Sheet as model
use Rattle.model.specs.Filling.{a_text}
use Rattle.model.proofs.Seams.{tail_lent}
use Rattle.model.proofs.Fillings.{filling_size, filling_starts, texts_stop, texts_go, texts_done}
use Rattle.fields.specs.declared.Fault.{Fault}
use Rattle.fields.specs.Answer.{left}
use Rattle.fields.proofs.admit.Goals as goal

-- the fields are counted
sized : (b : List ℕ) (n : ℕ) (k : Counts) → n ≡ k.field_count → k ≡ counts_of (sheet_of b) → n ≡ length (sheet_of b).limits
sized b n k e h = e ∙ ap (λ (k : Counts). k.field_count) h

pub overflow_mul-fields : goal.overflow_mul-fields
overflow_mul-fields c = omega (arith, c.four_counts-counts.type_inv)

pub returns-then-bytes-fields : goal.returns-then-bytes-fields
returns-then-bytes-fields c =
    let n = sized c.args.sheet.now _ _ c.from-fields.ensures c.four_counts-counts.ensures in
    sym (filling_size (sheet_of c.args.sheet.now) c.args.bytes.now (λ e. c.if-bytes-fields.true (omega arith)))

pub loop-f-init : goal.loop-f-init
loop-f-init c =
    let n = sized c.args.sheet.now _ _ c.from-fields.ensures c.four_counts-counts.ensures in
    filling_starts (sheet_of c.args.sheet.now) c.args.bytes.now (omega arith)

pub limit-requires : goal.limit-requires
limit-requires c =
    let n = sized c.args.sheet.now _ _ c.from-fields.ensures c.four_counts-counts.ensures in
    (c.requires, omega arith)

pub check_field-requires : goal.check_field-requires
check_field-requires c = rw tail_lent (simp length-drop (omega arith))

-- what is left after field f
this-field : (b m m' : List ℕ) (f letters limit : ℕ) (r : Result Unit Fault) → letters ≡ length (sheet_of b).letters → limit ≡ model.limit (sheet_of b) f
    → m' ≡ drop (9 * f) m → left m' r ≡ rest (a_text letters limit m') → rest (a_text (length (sheet_of b).letters) (model.limit (sheet_of b) f) (drop (9 * f) m)) ≡ left (drop (9 * f) m) r
this-field b m m' f letters limit r e h l is = sym (rw (l, e, h) at is)

pub returns-in_err-check_field : goal.returns-in_err-check_field
returns-in_err-check_field c =
    let n = sized c.args.sheet.now _ _ c.from-fields.ensures c.four_counts-counts.ensures in
    let f = c.loop-f.f in
    let s = sheet_of c.args.sheet.now in
    let m = c.args.bytes.now in
    let told = err_from_is_err_and c.from_residual.result c.from_residual.ensures.1 in
    let this = this-field c.args.sheet.now m _ f _ _ _ (ap (λ (k : Counts). k.letter_count) c.four_counts-counts.ensures) c.limit.ensures (tail_lent m (9 * f)) c.check_field.ensures in
    let stops = this ∙ ap (left (drop (9 * f) m)) (c.in_err-check_field.was {u = tt}) in
    rw (told.1, told.2) (sym (c.loop-f.invariant ∙ texts_stop (length s.letters) s.limits f m (omega arith) stops))

pub loop-f-preserved : goal.loop-f-preserved
loop-f-preserved c =
    let n = sized c.args.sheet.now _ _ c.from-fields.ensures c.four_counts-counts.ensures in
    let f = c.loop-f.f in
    let s = sheet_of c.args.sheet.now in
    let m = c.args.bytes.now in
    let this = this-field c.args.sheet.now m _ f _ _ _ (ap (λ (k : Counts). k.letter_count) c.four_counts-counts.ensures) c.limit.ensures (tail_lent m (9 * f)) c.check_field.ensures in
    let goes = this ∙ ap (left (drop (9 * f) m)) (c.in_ok-check_field.was {u = tt}) in
    c.loop-f.invariant ∙ texts_go (length s.letters) s.limits f m (omega arith) goes

pub returns : goal.returns
returns c =
    let n = sized c.args.sheet.now _ _ c.from-fields.ensures c.four_counts-counts.ensures in
    let s = sheet_of c.args.sheet.now in
    sym (c.loop-f.invariant ∙ texts_done (length s.letters) s.limits c.loop-f.f c.args.bytes.now (omega arith) (omega arith))
