-- `sections::sides` meets its contract: both rows of symbols, then both widths. Assumes nothing.
use mathlib.Core.Path.{◌≡◌, sym, ◌∙◌}
use mathlib.Core.List.{List, map}
use Prim.Native.Nat.{ℕ, ◌+◌, ◌≤◌}
use lib.Dec.{leb}
use lib.ListN.{length, take, drop}
use Rattle.model.specs.Sheet as model
use Rattle.model.specs.Sheet.{rest}
use Rattle.std.proofs.lemmas.Result.{err_from_is_err_and}
use Rattle.sections.specs.Sections.{limits_in}
use Rattle.model.proofs.Rests.{left_stops, right_stops, both_read}
use Rattle.sections.proofs.Walks.{limits-length}
use Rattle.sections.proofs.sides.Goals as goal
use Rattle.sections.proofs.sides.Goals.{then-not-narrow-via-then-not-narrow, then-not-narrow-via-else-not-narrow+then-not-narrow-2}

pub returns-in_err-a-clause-result_value : goal.returns-in_err-a-clause-result_value
returns-in_err-a-clause-result_value c =
    let p = err_from_is_err_and c.from_residual.result c.from_residual.ensures.1 in
    let a = c.args in
    let b = a.sheet.now in
    rw (p.1, p.2) (sym (left_stops a.letters a.fields (limits_in b a.letters a.fields) (limits-length b a.letters a.fields c.requires.0) a.m a.n (drop a.at b) (sym c.in_err-a.ensures.result_value)))

pub returns-in_err-e-clause-result_value : goal.returns-in_err-e-clause-result_value
returns-in_err-e-clause-result_value c =
    let p = err_from_is_err_and c.from_residual-in_err-e.result c.from_residual-in_err-e.ensures.1 in
    let a = c.args in
    let b = a.sheet.now in
    rw (p.1, p.2) (sym (right_stops a.letters a.fields (limits_in b a.letters a.fields) (limits-length b a.letters a.fields c.requires.0) a.m a.n (drop a.at b) (drop c.in_ok-a.a b)
    (sym c.in_ok-a.ensures.result_value) (sym c.in_err-e.ensures.result_value)))

-- both sides' symbols are read
both : (b : List ℕ) (l v at m n a e : ℕ) → 9 + l + v ≤ length b →
    model.got tt (drop a b) ≡ rest (model.row (model.template_byte l v) 0 m (drop at b)) → model.got tt (drop e b) ≡ rest (model.row (model.template_byte l v) 0 n (drop a b)) →
    rest (model.sides l (limits_in b l v) m n (drop at b))
    ≡ model.must (leb (model.width (limits_in b l v) (map model.symbol_of (take m (drop at b)))) 24) 14
    (model.must (leb (model.width (limits_in b l v) (map model.symbol_of (take n (drop a b)))) 24) 14 (model.got tt (drop e b)))
both b l v at m n a e long left right = both_read l v (limits_in b l v) (limits-length b l v long) m n (drop at b) (drop a b) (sym left) (drop e b) (sym right)

pub returns-then-not-narrow-clause-result_value : goal.returns-then-not-narrow-clause-result_value
returns-then-not-narrow-clause-result_value c =
    let a = c.args in
    let read = both a.sheet.now a.letters a.fields a.at a.m a.n c.in_ok-a.a c.in_ok-e.e c.requires.0 c.in_ok-a.ensures.result_value c.in_ok-e.ensures.result_value in
    elim c.then-not-narrow.branch [
      | then-not-narrow-via-then-not-narrow w ↦ sym (read ∙ rw (sym w.if-not-narrow.ensures))
      | then-not-narrow-via-else-not-narrow+then-not-narrow-2 w ↦ sym (read ∙ rw (sym w.if-not-narrow.ensures, sym w.if-not-narrow-2.ensures))
    ]

pub returns-clause-result_value : goal.returns-clause-result_value
returns-clause-result_value c =
    let a = c.args in
    let read = both a.sheet.now a.letters a.fields a.at a.m a.n c.in_ok-a.a c.in_ok-e.e c.requires.0 c.in_ok-a.ensures.result_value c.in_ok-e.ensures.result_value in
    sym (read ∙ rw (sym c.if-not-narrow.ensures, sym c.if-not-narrow-2.ensures))
