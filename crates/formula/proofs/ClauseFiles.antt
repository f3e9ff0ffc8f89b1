-- Clause files, computed: of some sheets every clause as numbers, how many variables, clauses and locations of each kind there are, and the file's size; of
-- document 01's sheet P also the file's bytes. The numbers were worked out by another program from the documents alone. Assumes nothing.
use mathlib.Core.Path.{◌≡◌, refl}
use mathlib.Core.List.{List, [], ◌∷◌, map}
use Prim.Native.Nat.{ℕ}
use lib.IntN.{ℤ, pos, neg_ℤ}
use lib.ListN.{length}
use Rattle.model.specs.Lists.{each, from, up_to, any, keep, total}
use Rattle.model.specs.Sheet.{Symbol, letter, field, Sheet}
use Rattle.model.specs.Cells.{cells}
use Rattle.formula.specs.Clause.{terms, left_out, literals, least, spread, sums, place_ids, location_ids, equation_ids, constraint_ids, listed, ids}
use Rattle.formula.specs.Kind.{same_letter_twice, different_letters, letter_then_field, field_then_letter, two_fields, used_up_before_letter, used_up_before_field, both_used_up, locations_of}
use Rattle.formula.specs.Count.{added_up}
use Rattle.formula.specs.Numbering.{k_variables, s_variables, t_variables, variables, number, clause}
use Rattle.formula.specs.Dimacs.{digits, decimal, problem_line, clause_line, line, file, file_size}

abbrev pub minus : ℕ → ℤ
minus n = neg_ℤ (pos n)

-- a sheet, how many variables and clauses it has, how many bytes its file has, how many locations of each kind its equations have, in the order of document 02's
-- No. 2, and its clauses
pub record ClauseFile : Type 0 where
  pub sheet : Sheet
  pub variable_count : ℕ
  pub clause_count : ℕ
  pub bytes : ℕ
  pub kinds : List (List ℕ)
  pub clauses : List (List ℤ)

-- document 01's sheet P: "one field X of limit 1 against A"
abbrev pub P : Sheet
P = record { letters = 65 ∷ []; limits = 1 ∷ []; equations = record { left = field 0 ∷ []; right = letter 0 ∷ [] } ∷ []; constraints = [] }

abbrev clause_files : List ClauseFile
clause_files =
    -- document 01's sheet P: "one field X of limit 1 against A"
    record {
      sheet = P;
      variable_count = 6;
      clause_count = 8;
      bytes = 69;
      kinds = (0 ∷ 0 ∷ 0 ∷ 1 ∷ 0 ∷ 1 ∷ 1 ∷ 1 ∷ []) ∷ [];
      clauses =
          (pos 1 ∷ pos 2 ∷ []) ∷ (minus 1 ∷ minus 2 ∷ []) ∷ (pos 3 ∷ []) ∷ (minus 3 ∷ minus 2 ∷ pos 5 ∷ [])
          ∷ (minus 3 ∷ pos 2 ∷ pos 6 ∷ []) ∷ (minus 4 ∷ minus 2 ∷ pos 6 ∷ []) ∷ (minus 4 ∷ pos 2 ∷ []) ∷ (minus 5 ∷ []) ∷ [];
    }
    -- field against field, of limits 2 and 1; coefficients of both signs, and a limit that cuts
    ∷ record {
      sheet = record {
        letters = 65 ∷ 66 ∷ [];
        limits = 2 ∷ 1 ∷ [];
        equations = record { left = field 0 ∷ []; right = field 1 ∷ [] } ∷ [];
        constraints = record { coefficients = minus 2 ∷ pos 1 ∷ []; most = minus 1 } ∷ [];
      };
      variable_count = 27;
      clause_count = 46;
      bytes = 479;
      kinds = (0 ∷ 0 ∷ 0 ∷ 0 ∷ 2 ∷ 0 ∷ 3 ∷ 1 ∷ []) ∷ [];
      clauses =
          (pos 1 ∷ pos 2 ∷ pos 3 ∷ []) ∷ (minus 1 ∷ minus 2 ∷ []) ∷ (minus 1 ∷ minus 3 ∷ []) ∷ (minus 2 ∷ minus 3 ∷ [])
          ∷ (minus 3 ∷ pos 6 ∷ []) ∷ (pos 4 ∷ pos 5 ∷ pos 6 ∷ []) ∷ (minus 4 ∷ minus 5 ∷ []) ∷ (minus 4 ∷ minus 6 ∷ [])
          ∷ (minus 5 ∷ minus 6 ∷ []) ∷ (pos 7 ∷ pos 8 ∷ pos 9 ∷ []) ∷ (minus 7 ∷ minus 8 ∷ []) ∷ (minus 7 ∷ minus 9 ∷ [])
          ∷ (minus 8 ∷ minus 9 ∷ []) ∷ (pos 10 ∷ []) ∷ (minus 10 ∷ minus 3 ∷ pos 12 ∷ [])
          ∷ (minus 10 ∷ pos 3 ∷ minus 9 ∷ pos 11 ∷ []) ∷ (minus 10 ∷ pos 3 ∷ pos 9 ∷ pos 13 ∷ [])
          ∷ (minus 10 ∷ pos 9 ∷ minus 1 ∷ pos 7 ∷ []) ∷ (minus 10 ∷ pos 9 ∷ minus 2 ∷ pos 8 ∷ [])
          ∷ (minus 11 ∷ minus 3 ∷ pos 13 ∷ []) ∷ (minus 11 ∷ pos 3 ∷ []) ∷ (minus 12 ∷ minus 6 ∷ pos 14 ∷ [])
          ∷ (minus 12 ∷ pos 6 ∷ minus 9 ∷ pos 13 ∷ []) ∷ (minus 12 ∷ pos 6 ∷ pos 9 ∷ pos 15 ∷ [])
          ∷ (minus 12 ∷ pos 9 ∷ minus 4 ∷ pos 7 ∷ []) ∷ (minus 12 ∷ pos 9 ∷ minus 5 ∷ pos 8 ∷ [])
          ∷ (minus 13 ∷ minus 6 ∷ pos 15 ∷ []) ∷ (minus 13 ∷ pos 6 ∷ []) ∷ (minus 14 ∷ minus 9 ∷ pos 15 ∷ [])
          ∷ (minus 14 ∷ pos 9 ∷ []) ∷ (pos 16 ∷ []) ∷ (minus 16 ∷ minus 3 ∷ pos 21 ∷ [])
          ∷ (minus 16 ∷ pos 3 ∷ minus 6 ∷ pos 19 ∷ []) ∷ (minus 16 ∷ pos 6 ∷ pos 17 ∷ []) ∷ (minus 17 ∷ minus 9 ∷ pos 22 ∷ [])
          ∷ (minus 17 ∷ pos 9 ∷ pos 23 ∷ []) ∷ (minus 18 ∷ minus 9 ∷ pos 23 ∷ []) ∷ (minus 18 ∷ pos 9 ∷ pos 24 ∷ [])
          ∷ (minus 19 ∷ minus 9 ∷ pos 24 ∷ []) ∷ (minus 19 ∷ pos 9 ∷ pos 25 ∷ []) ∷ (minus 20 ∷ minus 9 ∷ pos 25 ∷ [])
          ∷ (minus 20 ∷ pos 9 ∷ pos 26 ∷ []) ∷ (minus 21 ∷ minus 9 ∷ pos 26 ∷ []) ∷ (minus 21 ∷ pos 9 ∷ pos 27 ∷ [])
          ∷ (minus 26 ∷ []) ∷ (minus 27 ∷ []) ∷ [];
    }
    -- a field on both sides, so that a location has one cell on both sides
    ∷ record {
      sheet = record {
        letters = 65 ∷ 66 ∷ [];
        limits = 1 ∷ [];
        equations = record { left = letter 0 ∷ field 0 ∷ []; right = field 0 ∷ letter 0 ∷ [] } ∷ [];
        constraints = [];
      };
      variable_count = 12;
      clause_count = 23;
      bytes = 220;
      kinds = (1 ∷ 0 ∷ 1 ∷ 1 ∷ 1 ∷ 2 ∷ 2 ∷ 1 ∷ []) ∷ [];
      clauses =
          (pos 1 ∷ pos 2 ∷ pos 3 ∷ []) ∷ (minus 1 ∷ minus 2 ∷ []) ∷ (minus 1 ∷ minus 3 ∷ []) ∷ (minus 2 ∷ minus 3 ∷ [])
          ∷ (pos 4 ∷ []) ∷ (minus 4 ∷ minus 3 ∷ pos 5 ∷ []) ∷ (minus 4 ∷ pos 3 ∷ pos 8 ∷ []) ∷ (minus 4 ∷ pos 3 ∷ pos 1 ∷ [])
          ∷ (minus 5 ∷ pos 9 ∷ []) ∷ (minus 6 ∷ []) ∷ (minus 7 ∷ minus 3 ∷ pos 10 ∷ []) ∷ (minus 7 ∷ pos 3 ∷ minus 3 ∷ pos 8 ∷ [])
          ∷ (minus 7 ∷ pos 3 ∷ pos 3 ∷ pos 11 ∷ []) ∷ (minus 7 ∷ pos 3 ∷ minus 1 ∷ pos 1 ∷ [])
          ∷ (minus 7 ∷ pos 3 ∷ minus 2 ∷ pos 2 ∷ []) ∷ (minus 8 ∷ minus 3 ∷ pos 11 ∷ []) ∷ (minus 8 ∷ pos 3 ∷ pos 12 ∷ [])
          ∷ (minus 8 ∷ minus 2 ∷ []) ∷ (minus 9 ∷ minus 3 ∷ pos 12 ∷ []) ∷ (minus 9 ∷ pos 3 ∷ [])
          ∷ (minus 10 ∷ minus 3 ∷ pos 11 ∷ []) ∷ (minus 10 ∷ pos 3 ∷ []) ∷ (minus 11 ∷ []) ∷ [];
    }
    -- a field of limit 0; two equations, one of them with an empty side and one with letters that are the same and that differ; two constraints
    ∷ record {
      sheet = record {
        letters = 65 ∷ 66 ∷ 67 ∷ [];
        limits = 0 ∷ 2 ∷ [];
        equations = record { left = []; right = field 1 ∷ [] } ∷ record { left = letter 0 ∷ field 0 ∷ letter 1 ∷ []; right = letter 0 ∷ letter 2 ∷ letter 1 ∷ [] } ∷ [];
        constraints = record { coefficients = pos 3 ∷ minus 4 ∷ []; most = pos 2 } ∷ record { coefficients = pos 0 ∷ pos 0 ∷ []; most = minus 1 } ∷ [];
      };
      variable_count = 37;
      clause_count = 47;
      bytes = 398;
      kinds = (0 ∷ 0 ∷ 0 ∷ 0 ∷ 0 ∷ 0 ∷ 2 ∷ 1 ∷ []) ∷ (2 ∷ 4 ∷ 0 ∷ 0 ∷ 0 ∷ 5 ∷ 0 ∷ 1 ∷ []) ∷ [];
      clauses =
          (pos 1 ∷ pos 2 ∷ pos 3 ∷ pos 4 ∷ []) ∷ (minus 1 ∷ minus 2 ∷ []) ∷ (minus 1 ∷ minus 3 ∷ []) ∷ (minus 1 ∷ minus 4 ∷ [])
          ∷ (minus 2 ∷ minus 3 ∷ []) ∷ (minus 2 ∷ minus 4 ∷ []) ∷ (minus 3 ∷ minus 4 ∷ []) ∷ (minus 4 ∷ pos 8 ∷ [])
          ∷ (pos 5 ∷ pos 6 ∷ pos 7 ∷ pos 8 ∷ []) ∷ (minus 5 ∷ minus 6 ∷ []) ∷ (minus 5 ∷ minus 7 ∷ []) ∷ (minus 5 ∷ minus 8 ∷ [])
          ∷ (minus 6 ∷ minus 7 ∷ []) ∷ (minus 6 ∷ minus 8 ∷ []) ∷ (minus 7 ∷ minus 8 ∷ []) ∷ (pos 9 ∷ [])
          ∷ (minus 9 ∷ minus 4 ∷ pos 10 ∷ []) ∷ (minus 9 ∷ pos 4 ∷ []) ∷ (minus 10 ∷ minus 8 ∷ pos 11 ∷ [])
          ∷ (minus 10 ∷ pos 8 ∷ []) ∷ (pos 12 ∷ []) ∷ (minus 12 ∷ pos 17 ∷ []) ∷ (minus 13 ∷ pos 18 ∷ []) ∷ (minus 13 ∷ [])
          ∷ (minus 14 ∷ pos 19 ∷ []) ∷ (minus 14 ∷ []) ∷ (minus 15 ∷ []) ∷ (minus 16 ∷ pos 21 ∷ []) ∷ (minus 16 ∷ [])
          ∷ (minus 17 ∷ pos 22 ∷ []) ∷ (minus 17 ∷ []) ∷ (minus 18 ∷ pos 23 ∷ []) ∷ (minus 19 ∷ []) ∷ (minus 20 ∷ [])
          ∷ (minus 21 ∷ []) ∷ (minus 22 ∷ []) ∷ (pos 24 ∷ []) ∷ (minus 24 ∷ pos 25 ∷ []) ∷ (minus 25 ∷ minus 4 ∷ pos 34 ∷ [])
          ∷ (minus 25 ∷ pos 4 ∷ minus 8 ∷ pos 30 ∷ []) ∷ (minus 25 ∷ pos 8 ∷ pos 26 ∷ []) ∷ (pos 35 ∷ []) ∷ (minus 35 ∷ pos 36 ∷ [])
          ∷ (minus 36 ∷ minus 4 ∷ pos 37 ∷ []) ∷ (minus 36 ∷ pos 4 ∷ minus 8 ∷ pos 37 ∷ []) ∷ (minus 36 ∷ pos 8 ∷ pos 37 ∷ [])
          ∷ (minus 37 ∷ []) ∷ [];
    }
    -- no fields, and a constraint whose limit is below 0
    ∷ record {
      sheet = record {
        letters = 65 ∷ [];
        limits = [];
        equations = record { left = letter 0 ∷ []; right = letter 0 ∷ [] } ∷ [];
        constraints = record { coefficients = []; most = minus 1 } ∷ [];
      };
      variable_count = 5;
      clause_count = 6;
      bytes = 40;
      kinds = (1 ∷ 0 ∷ 0 ∷ 0 ∷ 0 ∷ 2 ∷ 0 ∷ 1 ∷ []) ∷ [];
      clauses =
          (pos 1 ∷ []) ∷ (minus 1 ∷ pos 4 ∷ []) ∷ (minus 2 ∷ []) ∷ (minus 3 ∷ []) ∷ (pos 5 ∷ []) ∷ (minus 5 ∷ []) ∷ [];
    }
    -- both templates empty, and a field that none uses
    ∷ record {
      sheet = record {
        letters = 65 ∷ 66 ∷ [];
        limits = 1 ∷ [];
        equations = record { left = []; right = [] } ∷ [];
        constraints = record { coefficients = minus 4 ∷ []; most = pos 3 } ∷ [];
      };
      variable_count = 10;
      clause_count = 8;
      bytes = 71;
      kinds = (0 ∷ 0 ∷ 0 ∷ 0 ∷ 0 ∷ 0 ∷ 0 ∷ 1 ∷ []) ∷ [];
      clauses =
          (pos 1 ∷ pos 2 ∷ pos 3 ∷ []) ∷ (minus 1 ∷ minus 2 ∷ []) ∷ (minus 1 ∷ minus 3 ∷ []) ∷ (minus 2 ∷ minus 3 ∷ [])
          ∷ (pos 4 ∷ []) ∷ (pos 5 ∷ []) ∷ (minus 5 ∷ minus 3 ∷ pos 10 ∷ []) ∷ (minus 5 ∷ pos 3 ∷ pos 6 ∷ []) ∷ [];
    }
    -- a field twice in one template; limits that cut nothing
    ∷ record {
      sheet = record {
        letters = 65 ∷ 66 ∷ [];
        limits = 2 ∷ [];
        equations = record { left = field 0 ∷ field 0 ∷ []; right = letter 0 ∷ [] } ∷ [];
        constraints = record { coefficients = minus 1 ∷ []; most = pos 0 } ∷ record { coefficients = minus 3 ∷ []; most = pos 3 } ∷ [];
      };
      variable_count = 28;
      clause_count = 39;
      bytes = 376;
      kinds = (0 ∷ 0 ∷ 0 ∷ 4 ∷ 0 ∷ 1 ∷ 4 ∷ 1 ∷ []) ∷ [];
      clauses =
          (pos 1 ∷ pos 2 ∷ pos 3 ∷ []) ∷ (minus 1 ∷ minus 2 ∷ []) ∷ (minus 1 ∷ minus 3 ∷ []) ∷ (minus 2 ∷ minus 3 ∷ [])
          ∷ (minus 3 ∷ pos 6 ∷ []) ∷ (pos 4 ∷ pos 5 ∷ pos 6 ∷ []) ∷ (minus 4 ∷ minus 5 ∷ []) ∷ (minus 4 ∷ minus 6 ∷ [])
          ∷ (minus 5 ∷ minus 6 ∷ []) ∷ (pos 7 ∷ []) ∷ (minus 7 ∷ minus 3 ∷ pos 9 ∷ []) ∷ (minus 7 ∷ pos 3 ∷ pos 10 ∷ [])
          ∷ (minus 7 ∷ minus 2 ∷ []) ∷ (minus 8 ∷ minus 3 ∷ pos 10 ∷ []) ∷ (minus 8 ∷ pos 3 ∷ [])
          ∷ (minus 9 ∷ minus 6 ∷ pos 11 ∷ []) ∷ (minus 9 ∷ pos 6 ∷ pos 12 ∷ []) ∷ (minus 9 ∷ minus 5 ∷ [])
          ∷ (minus 10 ∷ minus 6 ∷ pos 12 ∷ []) ∷ (minus 10 ∷ pos 6 ∷ []) ∷ (minus 11 ∷ minus 3 ∷ pos 13 ∷ [])
          ∷ (minus 11 ∷ pos 3 ∷ pos 14 ∷ []) ∷ (minus 11 ∷ minus 2 ∷ []) ∷ (minus 12 ∷ minus 3 ∷ pos 14 ∷ [])
          ∷ (minus 12 ∷ pos 3 ∷ []) ∷ (minus 13 ∷ minus 6 ∷ pos 15 ∷ []) ∷ (minus 13 ∷ pos 6 ∷ pos 16 ∷ [])
          ∷ (minus 13 ∷ minus 5 ∷ []) ∷ (minus 14 ∷ minus 6 ∷ pos 16 ∷ []) ∷ (minus 14 ∷ pos 6 ∷ []) ∷ (minus 15 ∷ [])
          ∷ (pos 17 ∷ []) ∷ (minus 17 ∷ minus 3 ∷ pos 20 ∷ []) ∷ (minus 17 ∷ pos 3 ∷ minus 6 ∷ pos 19 ∷ [])
          ∷ (minus 17 ∷ pos 6 ∷ pos 18 ∷ []) ∷ (pos 21 ∷ []) ∷ (minus 21 ∷ minus 3 ∷ pos 28 ∷ [])
          ∷ (minus 21 ∷ pos 3 ∷ minus 6 ∷ pos 25 ∷ []) ∷ (minus 21 ∷ pos 6 ∷ pos 22 ∷ []) ∷ [];
    }
    -- letters against letters
    ∷ record {
      sheet = record {
        letters = 65 ∷ 66 ∷ 67 ∷ [];
        limits = [];
        equations = record { left = letter 1 ∷ []; right = letter 1 ∷ letter 1 ∷ letter 2 ∷ [] } ∷ [];
        constraints = record { coefficients = []; most = pos 0 } ∷ [];
      };
      variable_count = 9;
      clause_count = 10;
      bytes = 65;
      kinds = (2 ∷ 1 ∷ 0 ∷ 0 ∷ 0 ∷ 4 ∷ 0 ∷ 1 ∷ []) ∷ [];
      clauses =
          (pos 1 ∷ []) ∷ (minus 1 ∷ pos 6 ∷ []) ∷ (minus 2 ∷ pos 7 ∷ []) ∷ (minus 3 ∷ pos 8 ∷ []) ∷ (minus 3 ∷ []) ∷ (minus 4 ∷ [])
          ∷ (minus 5 ∷ []) ∷ (minus 6 ∷ []) ∷ (minus 7 ∷ []) ∷ (pos 9 ∷ []) ∷ [];
    }
    -- a field of limit 0 alone
    ∷ record {
      sheet = record {
        letters = 65 ∷ 66 ∷ [];
        limits = 0 ∷ [];
        equations = record { left = []; right = field 0 ∷ letter 1 ∷ [] } ∷ [];
        constraints = record { coefficients = pos 3 ∷ []; most = minus 1 } ∷ [];
      };
      variable_count = 4;
      clause_count = 5;
      bytes = 35;
      kinds = (0 ∷ 0 ∷ 0 ∷ 0 ∷ 0 ∷ 1 ∷ 0 ∷ 1 ∷ []) ∷ [];
      clauses =
          (pos 1 ∷ []) ∷ (minus 1 ∷ []) ∷ (pos 3 ∷ []) ∷ (minus 3 ∷ pos 4 ∷ []) ∷ (minus 4 ∷ []) ∷ [];
    }
    ∷ []

pub all_clauses :
    map (λ (c : ClauseFile). map (clause c.sheet) (ids c.sheet)) clause_files ≡ map (λ (c : ClauseFile). c.clauses) clause_files
unfolding each from any keep total cells terms left_out literals least spread sums place_ids location_ids equation_ids constraint_ids listed ids number clause
all_clauses = refl

pub all-variables :
    map (λ (c : ClauseFile). length (variables c.sheet)) clause_files ≡ map (λ (c : ClauseFile). c.variable_count) clause_files
unfolding each from cells spread sums k_variables s_variables t_variables variables
all-variables = refl

pub all_counts :
    map (λ (c : ClauseFile). length (ids c.sheet)) clause_files ≡ map (λ (c : ClauseFile). c.clause_count) clause_files
unfolding each from any keep cells terms left_out least spread sums place_ids location_ids equation_ids constraint_ids listed ids
all_counts = refl

-- C as it is added up by hand, and the locations of each kind
pub all_added_up :
    map (λ (c : ClauseFile). added_up c.sheet) clause_files ≡ map (λ (c : ClauseFile). c.clause_count) clause_files
unfolding each from keep total cells least spread sums
all_added_up = refl

abbrev kinds_of : Sheet → ℕ → List ℕ
kinds_of s p =
    map (locations_of s p) (same_letter_twice ∷ different_letters ∷ letter_then_field ∷ field_then_letter ∷ two_fields ∷ used_up_before_letter ∷ used_up_before_field ∷ both_used_up ∷ [])

pub all_kinds :
    map (λ (c : ClauseFile). map (kinds_of c.sheet) (up_to (length c.sheet.equations))) clause_files ≡ map (λ (c : ClauseFile). c.kinds) clause_files
unfolding each from total cells
all_kinds = refl

-- The size of each file; "For sheet P it is 69".
pub all_sizes : map (λ (c : ClauseFile). file_size c.sheet) clause_files ≡ map (λ (c : ClauseFile). c.bytes) clause_files
unfolding each from any keep total cells terms left_out literals least spread sums place_ids location_ids equation_ids constraint_ids listed ids number clause k_variables s_variables t_variables variables digits decimal problem_line clause_line line file_size
all_sizes = refl

-- Sizes of files in which numbers go from one figure to two, and from two to three: of 18 variables and 41 clauses, where one place has the variables 9 to 12;
-- of 100 variables and as many clauses; of 105 variables and 55 clauses, with sums numbered from below 100 to above it.
abbrev nine : List Symbol
nine = letter 0 ∷ letter 0 ∷ letter 0 ∷ letter 0 ∷ letter 0 ∷ letter 0 ∷ letter 0 ∷ letter 0 ∷ letter 0 ∷ []

pub more_figures :
    map file_size
    (record {
      letters = 65 ∷ 66 ∷ 67 ∷ [];
      limits = 2 ∷ 1 ∷ [];
      equations = record { left = field 0 ∷ []; right = field 1 ∷ [] } ∷ [];
      constraints = [];
    }
    ∷ record { letters = 65 ∷ []; limits = []; equations = record { left = nine; right = nine } ∷ []; constraints = [] }
    ∷ record {
      letters = 65 ∷ [];
      limits = 7 ∷ [];
      equations = record { left = []; right = [] } ∷ [];
      constraints = record { coefficients = pos 4 ∷ []; most = pos 28 } ∷ record { coefficients = pos 4 ∷ []; most = pos 28 } ∷ record { coefficients = pos 4 ∷ []; most = pos 21 } ∷ [];
    }
    ∷ [])
    ≡ 442 ∷ 847 ∷ 577 ∷ []
unfolding each from any keep total cells terms left_out literals least spread sums place_ids location_ids equation_ids constraint_ids listed ids number clause k_variables s_variables t_variables variables digits decimal problem_line clause_line line file_size
more_figures = refl

-- the clause program's nine lines for sheet P
pub file_P : file P ≡
    112 ∷ 32 ∷ 99 ∷ 110 ∷ 102 ∷ 32 ∷ 54 ∷ 32 ∷ 56 ∷ 10
    ∷ 49 ∷ 32 ∷ 50 ∷ 32 ∷ 48 ∷ 10
    ∷ 45 ∷ 49 ∷ 32 ∷ 45 ∷ 50 ∷ 32 ∷ 48 ∷ 10
    ∷ 51 ∷ 32 ∷ 48 ∷ 10
    ∷ 45 ∷ 51 ∷ 32 ∷ 45 ∷ 50 ∷ 32 ∷ 53 ∷ 32 ∷ 48 ∷ 10
    ∷ 45 ∷ 51 ∷ 32 ∷ 50 ∷ 32 ∷ 54 ∷ 32 ∷ 48 ∷ 10
    ∷ 45 ∷ 52 ∷ 32 ∷ 45 ∷ 50 ∷ 32 ∷ 54 ∷ 32 ∷ 48 ∷ 10
    ∷ 45 ∷ 52 ∷ 32 ∷ 50 ∷ 32 ∷ 48 ∷ 10
    ∷ 45 ∷ 53 ∷ 32 ∷ 48 ∷ 10
    ∷ []
unfolding each from any keep total cells terms left_out literals place_ids location_ids equation_ids listed ids number clause k_variables s_variables t_variables variables digits decimal problem_line clause_line line file
file_P = refl
