-- `parts::letter` meets its contract: the letters stand after the header. Assumes nothing.
use native.Mathlib.Omega.{arith}
use Rattle.model.specs.Sheet.{sheet_of}
use Rattle.parts.proofs.Known.{lent_bytes}
use Rattle.model.proofs.Known.{accepted_counts}
use Rattle.model.proofs.Places.{holds_at_lem, holds_fits, holds-letters}
use Rattle.parts.proofs.letter.Goals as goal

pub overflow_add-result : goal.overflow_add-result
overflow_add-result c =
    let b = c.args.sheet.now in
    let n = (accepted_counts b c.requires.0).of_letters in
    omega (arith, c.requires.1)

pub bounds-sheet-a : goal.bounds-sheet-a
bounds-sheet-a c =
    let b = c.args.sheet.now in
    let y = lent_bytes b c.shared_slice_known-1.given in
    let ok = c.requires.0 in
    let f = holds_fits (sheet_of b).letters (holds-letters b y ok) in
    omega (arith, c.requires.1)

pub returns : goal.returns
returns c =
    let b = c.args.sheet.now in
    let y = lent_bytes b c.shared_slice_known-1.given in
    let ok = c.requires.0 in
    holds_at_lem (sheet_of b).letters c.args.a (holds-letters b y ok) c.requires.1
