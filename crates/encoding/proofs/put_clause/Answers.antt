-- `encoding::put_clause` meets its contract. Assumes nothing.
use mathlib.Core.Path.{sym, ap, subst, ◌∙◌}
use Prim.Native.Nat.{suc}
use native.Mathlib.Omega.{arith}
use lib.ListN.{length}
use Rattle.model.specs.Lists.{Puts}
use Rattle.model.specs.Sheet.{sheet_of}
use Rattle.formula.specs.Count.{IdIn}
use Rattle.formula.proofs.Lines.{line-short}
use Rattle.literals.specs.Name.{line_of}
use Rattle.encoding.proofs.Laws.{later-line, told, id_in}
use Rattle.encoding.proofs.put_clause.Goals as goal

pub put_clause-requires : goal.put_clause-requires
put_clause-requires c =
    let a = c.args in
    let s = sheet_of a.sheet.now in
    let found = told s a.n c.find.result c.in_ok-id.id c.in_ok-id.ensures.value c.find.ensures in
    let is = ap length (ap (line_of s) found.1 ∙ later-line s a.n) in
    (c.requires.0, subst (IdIn s) (sym found.1) (id_in s a.n found.0), omega (arith, is, line-short s c.requires.0.1 (suc a.n) found.0, c.requires.1))

pub returns : goal.returns
returns c =
    let a = c.args in
    let s = sheet_of a.sheet.now in
    let found = told s a.n c.find.result c.in_ok-id.id c.in_ok-id.ensures.value c.find.ensures in
    (found.0, subst (λ w. Puts a.buf.now 0 w c.put_clause.new.buf c.put_clause.result) (ap (line_of s) found.1 ∙ later-line s a.n) c.put_clause.ensures)
