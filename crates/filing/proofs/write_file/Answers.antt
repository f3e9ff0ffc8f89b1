-- `filing::write_file` meets its contract: the refusals in their order, or the file written. Assumes nothing.
use mathlib.Core.Path.{◌≡◌, sym, ap, ◌∙◌}
use mathlib.Core.List.{List, [], ◌∷◌}
use Prim.Native.Nat.{ℕ}
use native.Mathlib.Omega.{arith}
use lib.ListN.{length, get_or}
use Rattle.std.proofs.lemmas.Result.{err_from_is_err_and}
use Rattle.model.specs.Lists.{Bytes}
use Rattle.model.specs.Sheet.{Reading, read, accepted, refused, sheet_of}
use Rattle.model.specs.Range.{Admitted}
use Rattle.formula.specs.Dimacs.{file}
use Rattle.formula.proofs.Lines.{file_size_lem}
use Rattle.model.proofs.Known.{accepted_in_range}
use Rattle.model.proofs.Seams.{placed_front}
use Rattle.calls.specs.Calls.{finished, of_sheet, clause_counts, counting, reading, reading_of}
use Rattle.calls.specs.Calls as calls
use Rattle.calls.proofs.Operations.{leaves_all, leaves_text, sheet_finished, counting_counts, not_finished, same-values}
use Rattle.calls.proofs.Filing.{filing_sheet, filing-room, filing-file}
use Rattle.parts.proofs.Known.{lent_bytes}
use Rattle.filing.specs.Answer.{number_of, three_counts}
use Rattle.filing.specs.declared.ClauseCounts.{ClauseCounts}
use Rattle.filing.proofs.write_file.Goals as goal

-- counting refuses what reading refuses
refuses : (b : List ℕ) (n : ℕ) → counting b ≡ calls.refused n → reading b ≡ calls.refused n
unfolding counting reading
refuses b n e = by_reading (read b) e
  where
    by_reading : (r : Reading) → of_sheet r (λ s. finished (clause_counts s)) ≡ calls.refused n → reading_of r ≡ calls.refused n
    by_reading (accepted s) q = not_finished (sym q)
    by_reading (refused m) q = q

-- of a sheet that is counted: it is accepted, and the size is the file's
module _ (b : List ℕ) (bytes : Bytes b) (found : ClauseCounts) (is : finished (three_counts found) ≡ counting b) where
  ready : Admitted b
  unfolding counting
  ready = let ok = sheet_finished b _ (sym is) in (ok, accepted_in_range b bytes ok)

  bytes_are : found.bytes ≡ length (file (sheet_of b))
  bytes_are =
      ap (λ (counts : List ℕ). get_or counts 2 0) (same-values (is ∙ counting_counts b ready.0)) ∙ file_size_lem (sheet_of b)

pub returns-in_err-counts : goal.returns-in_err-counts
returns-in_err-counts c =
    let p = err_from_is_err_and c.from_residual.result c.from_residual.ensures.1 in
    let b = c.args.sheet.now in
    let n = number_of p.0 in
    rw p.1 (leaves_all n c.args.buf.now (filing_sheet b (length c.args.buf.now) n (refuses b n (sym c.in_err-counts.ensures ∙ ap (λ f. calls.refused (number_of f)) (sym p.2)))))

pub returns-then-buf-counts : goal.returns-then-buf-counts
returns-then-buf-counts c =
    let b = c.args.sheet.now in
    let y = lent_bytes b c.type_inv.sheet in
    let counts = c.in_ok-counts in
    leaves_all 29 c.args.buf.now (filing-room b (length c.args.buf.now) (ready b y counts.counts counts.ensures).0 (omega (arith, bytes_are b y counts.counts counts.ensures, c.if-buf-counts.true)))

pub put_file-requires : goal.put_file-requires
put_file-requires c =
    let b = c.args.sheet.now in
    let y = lent_bytes b c.type_inv.sheet in
    let counts = c.in_ok-counts in
    (ready b y counts.counts counts.ensures, omega (arith, bytes_are b y counts.counts counts.ensures, c.if-buf-counts.false))

pub returns : goal.returns
returns c =
    let b = c.args.sheet.now in
    let y = lent_bytes b c.type_inv.sheet in
    let counts = c.in_ok-counts in
    let w = file (sheet_of b) in
    let p = c.put_file.ensures in
    let r : c.put_file.result ≡ length w = omega (arith, p.0) in
    let all = leaves_text w c.args.buf.now (filing-file b (length c.args.buf.now) (ready b y counts.counts counts.ensures).0 (omega (arith, bytes_are b y counts.counts counts.ensures, c.if-buf-counts.false))) in
    (ap (λ k. finished (k ∷ [])) r ∙ all.0, p.1 ∙ placed_front c.args.buf.now w ∙ all.1)
