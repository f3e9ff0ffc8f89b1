-- The sizes of a clause file, of the calls' answers. Assumes nothing.
use mathlib.Core.Path.{◌≡◌, sym, ◌∙◌}
use mathlib.Core.List.{List, [], ◌∷◌}
use Prim.Native.Nat.{ℕ, ◌≤◌}
use lib.ListN.{length}
use Rattle.model.specs.Lists.{Bytes}
use Rattle.model.specs.Sheet.{sheet_of}
use Rattle.formula.specs.Dimacs.{file, file_size, most_file}
use Rattle.calls.specs.Calls.{finished, counting, writing, filing}
use Rattle.model.proofs.Known.{accepted_in_range}
use Rattle.calls.proofs.Operations.{writing-answered, sheet_finished, same-values, counting_counts}
use Rattle.formula.proofs.Lines.{line-short, file_size_lem, file-small}
use Rattle.calls.proofs.Filing.{filing-answered}

-- an answer of writing is that short
pub writing-short : (b : List ℕ) → Bytes b → (n room : ℕ) {text : List ℕ} → writing b n room ≡ finished text → length text ≤ 80
writing-short b y n room e =
    let a = writing-answered b n room e in
    rw a.is (line-short (sheet_of b) (accepted_in_range b y a.accepted) n a.inside)

-- and one of writing the file
pub filing-short : (b : List ℕ) → Bytes b → (room : ℕ) {text : List ℕ} → filing b room ≡ finished text → length text ≤ most_file
filing-short b y room e =
    let a = filing-answered b room e in
    rw a.is (file-small (sheet_of b) (accepted_in_range b y a.accepted))

-- the third of the counts is the file's length
pub counting_exact : (b : List ℕ) → {v c n : ℕ} → counting b ≡ finished (v ∷ c ∷ n ∷ []) → n ≡ length (file (sheet_of b))
unfolding counting
counting_exact b {v} {c} {n} e =
    let ok = sheet_finished b _ e in
    let same = same-values (sym (counting_counts b ok) ∙ e) in
    let is : n ≡ file_size (sheet_of b) = cc in
    is ∙ file_size_lem (sheet_of b)
