-- Reading replies, computed: texts with their answers, many with two faults at once, so that the order of the refusals is a theorem. Above each
-- stands its sheet and the text, \n being the line end, \t a tab and \r a carriage return. Assumes nothing.
use mathlib.Core.Path.{◌≡◌, refl}
use mathlib.Core.List.{List, [], ◌∷◌, ◌++◌, map}
use Prim.Native.Nat.{ℕ}
use Rattle.model.specs.Lists.{starts_with, same, each, from, all, any, keep, total}
use Rattle.model.specs.Sheet.{row, times, sides, an_equation, a_constraint, walk, width, signed, opening, read}
use Rattle.model.specs.Word.{spell, weight, same_letter, same_word, equation_holds, constraint_holds, keeps, solves}
use Rattle.model.specs.Filling.{encode_filling}
use Rattle.model.specs.Cells.{cells}
use Rattle.formula.specs.Clause.{least, spread, sums}
use Rattle.formula.specs.Numbering.{k_variables, s_variables, t_variables, variables, number}
use Rattle.formula.specs.Dimacs.{numbers_from}
use Rattle.formula.specs.Assignment.{true_values, up_to_blank, spelled}
use Rattle.calls.specs.Reply.{split, satisfiable_line, line_ended, is_number, value_line, known, before, one_status, line_numbers, given, closed, in_count, distinct, assigned, all_single, blanks_last, none_after_blank}
use Rattle.calls.specs.Calls.{Answer, refused, finished, formed, decoding, replying_of, replying}
use Rattle.model.proofs.Computed.{sheet, P}
use Rattle.calls.proofs.Answers.{asked, left_over_lem, fieldless, ruled, nine, empty}

-- X of limit 1 against A, and Y of limit 1 in no template
abbrev unused : List ℕ
unused = sheet 1 2 1 0 (65 ∷ 1 ∷ 1 ∷ 1 ∷ 1 ∷ 128 ∷ 0 ∷ [])

-- over A and B, X of limit 3 against AB
abbrev pub wide : List ℕ
wide = sheet 2 1 1 0 (65 ∷ 66 ∷ 3 ∷ 1 ∷ 2 ∷ 128 ∷ 0 ∷ 1 ∷ [])

-- the s line with its end
abbrev sat : List ℕ
sat = satisfiable_line ++ (10 ∷ [])

pub record Reply : Type 0 where
  pub on : List ℕ
  pub room : ℕ
  pub text : List ℕ
  pub answer : Answer

abbrev pub of : List ℕ → ℕ → List ℕ → Answer → Reply
of b n t a = record { on = b; room = n; text = t; answer = a }

abbrev pub replies : List Reply
replies =
    -- Accepted: only the true K need be listed, in any order, over any number of v lines, with comments and `v` alone anywhere after the s line
    -- P: s SATISFIABLE\nv 1 0\n
    (of P 9 (sat ++ (118 ∷ 32 ∷ 49 ∷ 32 ∷ 48 ∷ 10 ∷ [])) (finished (nine 1 0 255)))
    -- P: s SATISFIABLE\nv 1 3 6 0\n
    ∷ (of P 9 (sat ++ (118 ∷ 32 ∷ 49 ∷ 32 ∷ 51 ∷ 32 ∷ 54 ∷ 32 ∷ 48 ∷ 10 ∷ [])) (finished (nine 1 0 255)))
    -- P: c x\ns SATISFIABLE\nv -2 1\ncc\nv\nv 0\nv\nc\n
    ∷ (of P 9 ((99 ∷ 32 ∷ 120 ∷ 10 ∷ []) ++ (sat ++ (118 ∷ 32 ∷ 45 ∷ 50 ∷ 32 ∷ 49 ∷ 10 ∷ 99 ∷ 99 ∷ 10 ∷ 118 ∷ 10 ∷ 118 ∷ 32 ∷ 48 ∷ 10 ∷ 118 ∷ 10 ∷ 99 ∷ 10 ∷ []))) (finished (nine 1 0 255)))
    -- asked: s SATISFIABLE\nv 9 -1 3 6 26 0\n
    ∷ (of asked 18 (sat ++ (118 ∷ 32 ∷ 57 ∷ 32 ∷ 45 ∷ 49 ∷ 32 ∷ 51 ∷ 32 ∷ 54 ∷ 32 ∷ 50 ∷ 54 ∷ 32 ∷ 48 ∷ 10 ∷ [])) (finished (empty ++ empty)))
    -- fieldless: s SATISFIABLE\nv 0\n
    ∷ (of fieldless 0 (sat ++ (118 ∷ 32 ∷ 48 ∷ 10 ∷ [])) (finished []))
    -- unused: s SATISFIABLE\nv 1 4 0\n
    ∷ (of unused 18 (sat ++ (118 ∷ 32 ∷ 49 ∷ 32 ∷ 52 ∷ 32 ∷ 48 ∷ 10 ∷ [])) (finished (nine 1 0 255 ++ empty)))
    -- Texts of two and of eight letters, a field of limit 0, and a buffer that is longer than it must be
    -- wide: s SATISFIABLE\nv 1 5 9 0\n
    ∷ (of wide 9 (sat ++ (118 ∷ 32 ∷ 49 ∷ 32 ∷ 53 ∷ 32 ∷ 57 ∷ 32 ∷ 48 ∷ 10 ∷ [])) (finished (nine 2 0 1)))
    -- ruled: s SATISFIABLE\nv 1 3 5 7 9 11 13 15 0\n
    ∷ (of ruled 18 (sat ++ (118 ∷ 32 ∷ 49 ∷ 32 ∷ 51 ∷ 32 ∷ 53 ∷ 32 ∷ 55 ∷ 32 ∷ 57 ∷ 32 ∷ 49 ∷ 49 ∷ 32 ∷ 49 ∷ 51 ∷ 32 ∷ 49 ∷ 53 ∷ 32 ∷ 48 ∷ 10 ∷ [])) (finished ((8 ∷ 0 ∷ 0 ∷ 0 ∷ 0 ∷ 0 ∷ 0 ∷ 0 ∷ 0 ∷ []) ++ empty)))
    -- P: c\tx\ns SATISFIABLE\nv 1 0\n
    ∷ (of P 10 ((99 ∷ 9 ∷ 120 ∷ 10 ∷ []) ++ (sat ++ (118 ∷ 32 ∷ 49 ∷ 32 ∷ 48 ∷ 10 ∷ []))) (finished (nine 1 0 255)))
    -- Two faults, and the first is given: the sheet's before 27, 27 before 31, and then each with the next
    -- left_over_lem: x
    ∷ (of left_over_lem 0 (120 ∷ []) (refused 9))
    -- P: x
    ∷ (of P 8 (120 ∷ []) (refused 27))
    -- P: x
    ∷ (of P 9 (120 ∷ []) (refused 31))
    -- P: x\n
    ∷ (of P 9 (120 ∷ 10 ∷ []) (refused 32))
    -- P: s SATISFIABLE\ns SATISFIABLE\nv x 0\n
    ∷ (of P 9 (sat ++ (sat ++ (118 ∷ 32 ∷ 120 ∷ 32 ∷ 48 ∷ 10 ∷ []))) (refused 32))
    -- P: c\n
    ∷ (of P 9 (99 ∷ 10 ∷ []) (refused 33))
    -- P: s SATISFIABLE\ns SATISFIABLE\nv 1 0 2\n
    ∷ (of P 9 (sat ++ (sat ++ (118 ∷ 32 ∷ 49 ∷ 32 ∷ 48 ∷ 32 ∷ 50 ∷ 10 ∷ []))) (refused 33))
    -- P: v 7\ns SATISFIABLE\n
    ∷ (of P 9 ((118 ∷ 32 ∷ 55 ∷ 10 ∷ []) ++ sat) (refused 33))
    -- P: v\ns SATISFIABLE\nv 1 1 0\n
    ∷ (of P 9 ((118 ∷ 10 ∷ []) ++ (sat ++ (118 ∷ 32 ∷ 49 ∷ 32 ∷ 49 ∷ 32 ∷ 48 ∷ 10 ∷ []))) (refused 33))
    -- P: s SATISFIABLE\nv 7\n
    ∷ (of P 9 (sat ++ (118 ∷ 32 ∷ 55 ∷ 10 ∷ [])) (refused 34))
    -- P: s SATISFIABLE\nv 1 0 7\n
    ∷ (of P 9 (sat ++ (118 ∷ 32 ∷ 49 ∷ 32 ∷ 48 ∷ 32 ∷ 55 ∷ 10 ∷ [])) (refused 34))
    -- P: s SATISFIABLE\nv 1 1\n
    ∷ (of P 9 (sat ++ (118 ∷ 32 ∷ 49 ∷ 32 ∷ 49 ∷ 10 ∷ [])) (refused 34))
    -- P: s SATISFIABLE\nv 1 1 7 0\n
    ∷ (of P 9 (sat ++ (118 ∷ 32 ∷ 49 ∷ 32 ∷ 49 ∷ 32 ∷ 55 ∷ 32 ∷ 48 ∷ 10 ∷ [])) (refused 35))
    -- P: s SATISFIABLE\nv 7 -7 0\n
    ∷ (of P 9 (sat ++ (118 ∷ 32 ∷ 55 ∷ 32 ∷ 45 ∷ 55 ∷ 32 ∷ 48 ∷ 10 ∷ [])) (refused 35))
    -- P: s SATISFIABLE\nv 1 2 1 0\n
    ∷ (of P 9 (sat ++ (118 ∷ 32 ∷ 49 ∷ 32 ∷ 50 ∷ 32 ∷ 49 ∷ 32 ∷ 48 ∷ 10 ∷ [])) (refused 36))
    -- P: s SATISFIABLE\nv 1 -1 2 0\n
    ∷ (of P 9 (sat ++ (118 ∷ 32 ∷ 49 ∷ 32 ∷ 45 ∷ 49 ∷ 32 ∷ 50 ∷ 32 ∷ 48 ∷ 10 ∷ [])) (refused 36))
    -- asked: s SATISFIABLE\nv 3 4 0\n
    ∷ (of asked 18 (sat ++ (118 ∷ 32 ∷ 51 ∷ 32 ∷ 52 ∷ 32 ∷ 48 ∷ 10 ∷ [])) (refused 37))
    -- asked: s SATISFIABLE\nv 3 4 7 0\n
    ∷ (of asked 18 (sat ++ (118 ∷ 32 ∷ 51 ∷ 32 ∷ 52 ∷ 32 ∷ 55 ∷ 32 ∷ 48 ∷ 10 ∷ [])) (refused 38))
    -- One fault
    -- P: s SATISFIABLE\nv 1 0
    ∷ (of P 9 (sat ++ (118 ∷ 32 ∷ 49 ∷ 32 ∷ 48 ∷ [])) (refused 31))
    -- P: s SATISFIABLE\nv 1 0\nc\t
    ∷ (of P 9 (sat ++ (118 ∷ 32 ∷ 49 ∷ 32 ∷ 48 ∷ 10 ∷ 99 ∷ 9 ∷ [])) (refused 31))
    -- P: c\nv\ns SATISFIABLE\nv 1 0\n
    ∷ (of P 9 ((99 ∷ 10 ∷ 118 ∷ 10 ∷ []) ++ (sat ++ (118 ∷ 32 ∷ 49 ∷ 32 ∷ 48 ∷ 10 ∷ []))) (refused 33))
    -- P: s SATISFIABLE\nv -2 1 1 0\n
    ∷ (of P 9 (sat ++ (118 ∷ 32 ∷ 45 ∷ 50 ∷ 32 ∷ 49 ∷ 32 ∷ 49 ∷ 32 ∷ 48 ∷ 10 ∷ [])) (refused 36))
    -- P: s SATISFIABLE\nv 1 2 0\n
    ∷ (of P 9 (sat ++ (118 ∷ 32 ∷ 49 ∷ 32 ∷ 50 ∷ 32 ∷ 48 ∷ 10 ∷ [])) (refused 37))
    -- asked: s SATISFIABLE\nv 3 9 0\n
    ∷ (of asked 18 (sat ++ (118 ∷ 32 ∷ 51 ∷ 32 ∷ 57 ∷ 32 ∷ 48 ∷ 10 ∷ [])) (refused 37))
    -- wide: s SATISFIABLE\nv 1 6 8 0\n
    ∷ (of wide 9 (sat ++ (118 ∷ 32 ∷ 49 ∷ 32 ∷ 54 ∷ 32 ∷ 56 ∷ 32 ∷ 48 ∷ 10 ∷ [])) (refused 38))
    -- wide: s SATISFIABLE\nv 2 4 9 0\n
    ∷ (of wide 9 (sat ++ (118 ∷ 32 ∷ 50 ∷ 32 ∷ 52 ∷ 32 ∷ 57 ∷ 32 ∷ 48 ∷ 10 ∷ [])) (refused 39))
    -- ruled: s SATISFIABLE\nv 1 3 5 7 9 11 13 16 0\n
    ∷ (of ruled 18 (sat ++ (118 ∷ 32 ∷ 49 ∷ 32 ∷ 51 ∷ 32 ∷ 53 ∷ 32 ∷ 55 ∷ 32 ∷ 57 ∷ 32 ∷ 49 ∷ 49 ∷ 32 ∷ 49 ∷ 51 ∷ 32 ∷ 49 ∷ 54 ∷ 32 ∷ 48 ∷ 10 ∷ [])) (refused 39))
    -- asked: s SATISFIABLE\nv 3 4 9 0\n
    ∷ (of asked 18 (sat ++ (118 ∷ 32 ∷ 51 ∷ 32 ∷ 52 ∷ 32 ∷ 57 ∷ 32 ∷ 48 ∷ 10 ∷ [])) (refused 38))
    -- P: s SATISFIABLE\nv 2 0\n
    ∷ (of P 9 (sat ++ (118 ∷ 32 ∷ 50 ∷ 32 ∷ 48 ∷ 10 ∷ [])) (refused 39))
    -- asked: s SATISFIABLE\nv 3 6 7 0\n
    ∷ (of asked 18 (sat ++ (118 ∷ 32 ∷ 51 ∷ 32 ∷ 54 ∷ 32 ∷ 55 ∷ 32 ∷ 48 ∷ 10 ∷ [])) (refused 39))
    -- unused: s SATISFIABLE\nv 1 0\n
    ∷ (of unused 18 (sat ++ (118 ∷ 32 ∷ 49 ∷ 32 ∷ 48 ∷ 10 ∷ [])) (refused 37))
    -- Nothing at all, an empty line, and lines that look like known ones
    -- P: (empty)
    ∷ (of P 9 ([]) (refused 33))
    -- P: \n
    ∷ (of P 9 (10 ∷ []) (refused 32))
    -- P: s SATISFIABLE \nv 1 0\n
    ∷ (of P 9 (115 ∷ 32 ∷ 83 ∷ 65 ∷ 84 ∷ 73 ∷ 83 ∷ 70 ∷ 73 ∷ 65 ∷ 66 ∷ 76 ∷ 69 ∷ 32 ∷ 10 ∷ 118 ∷ 32 ∷ 49 ∷ 32 ∷ 48 ∷ 10 ∷ []) (refused 32))
    -- P: s UNSATISFIABLE\n
    ∷ (of P 9 (115 ∷ 32 ∷ 85 ∷ 78 ∷ 83 ∷ 65 ∷ 84 ∷ 73 ∷ 83 ∷ 70 ∷ 73 ∷ 65 ∷ 66 ∷ 76 ∷ 69 ∷ 10 ∷ []) (refused 32))
    -- P:  s SATISFIABLE\nv 1 0\n
    ∷ (of P 9 ((32 ∷ []) ++ (sat ++ (118 ∷ 32 ∷ 49 ∷ 32 ∷ 48 ∷ 10 ∷ []))) (refused 32))
    -- P: s SATISFIABLE\n0\n
    ∷ (of P 9 (sat ++ (48 ∷ 10 ∷ [])) (refused 32))
    -- P: s SATISFIABLE\nversion\n
    ∷ (of P 9 (sat ++ (118 ∷ 101 ∷ 114 ∷ 115 ∷ 105 ∷ 111 ∷ 110 ∷ 10 ∷ [])) (refused 32))
    -- P: s SATISFIABLE\nv \nv 1 0\n
    ∷ (of P 9 (sat ++ (118 ∷ 32 ∷ 10 ∷ 118 ∷ 32 ∷ 49 ∷ 32 ∷ 48 ∷ 10 ∷ [])) (refused 32))
    -- P: s SATISFIABLE\nv  1 0\n
    ∷ (of P 9 (sat ++ (118 ∷ 32 ∷ 32 ∷ 49 ∷ 32 ∷ 48 ∷ 10 ∷ [])) (refused 32))
    -- P: s SATISFIABLE\nv 1 0 \n
    ∷ (of P 9 (sat ++ (118 ∷ 32 ∷ 49 ∷ 32 ∷ 48 ∷ 32 ∷ 10 ∷ [])) (refused 32))
    -- P: s SATISFIABLE\nv\t1 0\n
    ∷ (of P 9 (sat ++ (118 ∷ 9 ∷ 49 ∷ 32 ∷ 48 ∷ 10 ∷ [])) (refused 32))
    -- P: s SATISFIABLE\nv\r1 0\n
    ∷ (of P 9 (sat ++ (118 ∷ 13 ∷ 49 ∷ 32 ∷ 48 ∷ 10 ∷ [])) (refused 32))
    -- P: s SATISFIABLE\nv1 0\n
    ∷ (of P 9 (sat ++ (118 ∷ 49 ∷ 32 ∷ 48 ∷ 10 ∷ [])) (refused 32))
    -- P: s SATISFIABLE\nv 1 0\r\n
    ∷ (of P 9 (sat ++ (118 ∷ 32 ∷ 49 ∷ 32 ∷ 48 ∷ 13 ∷ 10 ∷ [])) (refused 32))
    -- Numbers
    -- P: s SATISFIABLE\nv 1 -0\n
    ∷ (of P 9 (sat ++ (118 ∷ 32 ∷ 49 ∷ 32 ∷ 45 ∷ 48 ∷ 10 ∷ [])) (refused 32))
    -- P: s SATISFIABLE\nv +1 0\n
    ∷ (of P 9 (sat ++ (118 ∷ 32 ∷ 43 ∷ 49 ∷ 32 ∷ 48 ∷ 10 ∷ [])) (refused 32))
    -- P: s SATISFIABLE\nv 01 0\n
    ∷ (of P 9 (sat ++ (118 ∷ 32 ∷ 48 ∷ 49 ∷ 32 ∷ 48 ∷ 10 ∷ [])) (refused 32))
    -- P: s SATISFIABLE\nv 1 00\n
    ∷ (of P 9 (sat ++ (118 ∷ 32 ∷ 49 ∷ 32 ∷ 48 ∷ 48 ∷ 10 ∷ [])) (refused 32))
    -- P: s SATISFIABLE\nv - 0\n
    ∷ (of P 9 (sat ++ (118 ∷ 32 ∷ 45 ∷ 32 ∷ 48 ∷ 10 ∷ [])) (refused 32))
    -- P: s SATISFIABLE\nv --1 0\n
    ∷ (of P 9 (sat ++ (118 ∷ 32 ∷ 45 ∷ 45 ∷ 49 ∷ 32 ∷ 48 ∷ 10 ∷ [])) (refused 32))
    -- P: s SATISFIABLE\nv 1x 0\n
    ∷ (of P 9 (sat ++ (118 ∷ 32 ∷ 49 ∷ 120 ∷ 32 ∷ 48 ∷ 10 ∷ [])) (refused 32))
    -- P: s SATISFIABLE\nv 1/ 0\n
    ∷ (of P 9 (sat ++ (118 ∷ 32 ∷ 49 ∷ 47 ∷ 32 ∷ 48 ∷ 10 ∷ [])) (refused 32))
    -- P: s SATISFIABLE\nv 1: 0\n
    ∷ (of P 9 (sat ++ (118 ∷ 32 ∷ 49 ∷ 58 ∷ 32 ∷ 48 ∷ 10 ∷ [])) (refused 32))
    -- P: s SATISFIABLE\nv 1000000001 0\n
    ∷ (of P 9 (sat ++ (118 ∷ 32 ∷ 49 ∷ 48 ∷ 48 ∷ 48 ∷ 48 ∷ 48 ∷ 48 ∷ 48 ∷ 48 ∷ 49 ∷ 32 ∷ 48 ∷ 10 ∷ [])) (refused 32))
    -- P: s SATISFIABLE\nv 100000001 0\n
    ∷ (of P 9 (sat ++ (118 ∷ 32 ∷ 49 ∷ 48 ∷ 48 ∷ 48 ∷ 48 ∷ 48 ∷ 48 ∷ 48 ∷ 49 ∷ 32 ∷ 48 ∷ 10 ∷ [])) (refused 35))
    -- P: s SATISFIABLE\nv -100000001 0\n
    ∷ (of P 9 (sat ++ (118 ∷ 32 ∷ 45 ∷ 49 ∷ 48 ∷ 48 ∷ 48 ∷ 48 ∷ 48 ∷ 48 ∷ 48 ∷ 49 ∷ 32 ∷ 48 ∷ 10 ∷ [])) (refused 35))
    -- P: s SATISFIABLE\nv 1 0 0\n
    ∷ (of P 9 (sat ++ (118 ∷ 32 ∷ 49 ∷ 32 ∷ 48 ∷ 32 ∷ 48 ∷ 10 ∷ [])) (refused 34))
    -- P: s SATISFIABLE\nv\n
    ∷ (of P 9 (sat ++ (118 ∷ 10 ∷ [])) (refused 34))
    ∷ []

pub answers : map (λ (r : Reply). replying r.on r.text r.room) replies ≡ map (λ (r : Reply). r.answer) replies
unfolding starts_with same each from all any keep total row times sides an_equation a_constraint walk width signed opening read spell weight same_letter same_word equation_holds constraint_holds keeps solves encode_filling cells least spread sums k_variables s_variables t_variables variables number numbers_from true_values up_to_blank spelled split line_ended is_number value_line known before one_status line_numbers given closed in_count distinct assigned all_single blanks_last none_after_blank formed decoding replying_of replying
answers = refl
