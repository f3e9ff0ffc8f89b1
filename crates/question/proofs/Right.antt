-- The search is right: the first vector at which the rows hold and an attempt succeeds gives an answer to what is asked, and no answer comes before it;
-- where there is no such vector nothing answers it. Assumes nothing.
use mathlib.Core.Path.{◌≡◌, refl, sym, ap, subst, ◌∙◌}
use mathlib.Core.Bool.{Bool, true, false}
use mathlib.Core.List.{List, map}
use mathlib.Core.Logic.{⊎_elim}
use Prim.Native.Nat.{ℕ, ◌+◌, ◌*◌, ◌<◌, ◌≤◌}
use native.Mathlib.Omega.{arith}
use lib.ListN.{length, get_or, get_or-eq_default}
use borrow.Author.Tests.{eq-eqb}
use Rattle.std.specs.Prelude.{IsSome, is_some}
use Rattle.std.specs.declared.option.Option.{Option}
use Rattle.std.specs.declared.option.Option.TheVariants as option
use Rattle.model.specs.Lists.{All, all}
use Rattle.model.specs.Sheet.{Sheet, limit, sheet_of}
use Rattle.model.specs.Sheet as sheet
use Rattle.model.specs.Range.{EquationIn, Admitted}
use Rattle.model.specs.Word.{Substitution, text, Legal, spell, EquationHolds, ConstraintHolds, constraint_holds}
use Rattle.model.proofs.Lists.{never, and_split, and_join, weaken, all_out, all_in}
use Rattle.model.proofs.Words.{same-word-equal, constraint_out, constraint_in}
use Rattle.model.specs.Order.{Earlier}
use Rattle.model.proofs.ByFields.{SameLengths, field-there, earlier_by_fields}
use Rattle.formula.proofs.Small.{fields-few}
use Rattle.fields.specs.declared.Field.{Field}
use Rattle.fields.specs.Memory.{meaning, Held}
use Rattle.unification.specs.Names.{app, value_of}
use Rattle.unification.proofs.Laws.{by_lt}
use Rattle.walk.specs.Reading.{texts}
use Rattle.trails.specs.Equations.{Equation, Solves}
use Rattle.trails.specs.Attempt.{answer_of}
use Rattle.trails.proofs.Attempts.{Instance, attempt_sound, attempt_complete, attempt_least}
use Rattle.inequalities.specs.Asked.{asked, lengths_of, sides_agree, lengths_agree}
use Rattle.inequalities.specs.Rows.{Within, rows_hold}
use Rattle.inequalities.proofs.Asked.{asked_in}
use Rattle.bounds.proofs.Widest.{Same}
use Rattle.boxes.specs.Vectors.{Sooner, Order, Hit, First, try_of}
use Rattle.boxes.proofs.Tried.{rows_same, start-same, Tried, try_out, try_in}
use Rattle.trails.specs.Mirror.{sides_of}
use Rattle.sides.proofs.Flat.{side-letters}
use Rattle.question.specs.declared.Ask.{Ask}
use Rattle.question.specs.Ask.{Asking, Answers, Finds}
use Rattle.question.proofs.Words.{letter-value, solves_in, solves_out}
use Rattle.question.proofs.Instances.{instance_held, instance_lengths, reader, memory_refines, memory_held, memory_means}
use Rattle.question.proofs.Vectors.{earlier_vectors, same_vectors, sooner_same}

-- Lengths that agree, for what holds: sides of the same word have the same length.
agrees_in : (s : Sheet) (a : Ask) (g : Substitution) → Answers s a g → lengths_agree s a.equations a.constraints g ≡ true
unfolding lengths_agree
agrees_in s a g h =
    and_join
    (all_in (sides_agree g) (asked a.equations s.equations) (weaken _ _ (asked a.equations s.equations)
    (λ e q. eq-eqb _ _ (ap length (same-word-equal s (spell g e.left) (spell g e.right) q))) h.equations_hold))
    (all_in (constraint_holds s g) (asked a.constraints s.constraints) (weaken _ _ (asked a.constraints s.constraints) (constraint_in s g) h.constraints_hold))

agrees_out : (s : Sheet) (a : Ask) (g : Substitution) → lengths_agree s a.equations a.constraints g ≡ true → All (ConstraintHolds s g) (asked a.constraints s.constraints)
unfolding lengths_agree
agrees_out s a g e =
    weaken _ _ (asked a.constraints s.constraints) (constraint_out s g)
    (all_out (constraint_holds s g) (asked a.constraints s.constraints) (and_split (all (sides_agree g) (asked a.equations s.equations)) _ e).1)

-- rows that say of every legal substitution whether its lengths agree
module _ (b : List ℕ) (ok : Admitted b) (a : Ask) (asking : Asking (sheet_of b) a) (rows : List ℕ) (count : ℕ)
    (said : (g : Substitution) → Legal (sheet_of b) g → rows_hold rows count (lengths_of g) ≡ lengths_agree (sheet_of b) a.equations a.constraints g) where
  abbrev s : Sheet
  s = sheet_of b

  abbrev l : ℕ
  l = length s.letters

  abbrev questions : List sheet.Equation
  questions = asked a.equations s.equations

  abbrev es : List Equation
  es = map (sides_of s) questions

  in_range : All (EquationIn l s.limits) questions
  in_range = asked_in (EquationIn l s.limits) a.equations s.equations ok.1.equations_in

  -- what succeeds at a vector in the ranges answers
  module _ (n : List ℕ) (within : Within a.ranges.lo a.ranges.hi n) (h : List Field) (i : Instance l n h) (solves : Solves es h) (hold : rows_hold rows count n ≡ true) where
    short : (f : ℕ) → f < 6 → get_or n f 0 ≤ limit s f
    short f k = let x = within f k in let y = asking.limited f k in omega arith

    hit-held : Held b h
    hit-held = instance_held b ok n h i short

    same_lengths : (f : ℕ) → f < 6 → get_or (lengths_of (meaning b h)) f 0 ≡ get_or n f 0
    same_lengths = instance_lengths b ok n h i short

    hit_answers : Answers s a (meaning b h)
    hit_answers = record {
      is_legal = hit-held.legal;
      within = λ f k. rw (same_lengths f k) (within f k);
      equations_hold = solves_out b h hit-held questions in_range solves;
      constraints_hold = agrees_out s a (meaning b h) (sym (said (meaning b h) hit-held.legal) ∙ rows_same rows count (lengths_of (meaning b h)) n same_lengths ∙ hold);
    }

  -- what answers: with its lengths the equations are solved, and so they succeed
  module _ (g : Substitution) (h : Answers s a g) where
    abbrev memory : List Field
    memory = texts (reader g) (lengths_of g)

    memory_solves : Solves es memory
    memory_solves =
        solves_in b memory (memory_held b ok g h.is_legal) questions in_range (subst (λ (k : Substitution). All (EquationHolds s k) questions) (sym (memory_means b ok g h.is_legal)) h.equations_hold)

    answer_tries : IsSome (try_of es rows count (lengths_of g))
    answer_tries =
        try_in es rows count (lengths_of g) (said g h.is_legal ∙ agrees_in s a g h)
        (attempt_complete es (lengths_of g) (reader g) (memory_refines b ok g h.is_legal) memory_solves)

    -- an attempt at its lengths has a higher letter nowhere
    attempt_lower : (w : List ℕ) → Same (lengths_of g) w → (r : List Field) → answer_of es w ≡ option.Some r → (u : ℕ) → value_of r u ≤ value_of memory u
    attempt_lower w e r is u =
        let start = ap (app (reader g)) (start-same (lengths_of g) w e) in
        rw start (attempt_least es w (reader g) (memory_refines b ok g h.is_legal) (subst (Solves es) start memory_solves) r is u)

  -- What is found at the first vector at which an attempt succeeds.
  module _ (O : List ℕ → List ℕ → Type 0) (r : List Field) (f : First (try_of es rows count) (Within a.ranges.lo a.ranges.hi) O (option.Some r)) where
    abbrev hit : Hit (try_of es rows count) (Within a.ranges.lo a.ranges.hi) O (option.Some r)
    hit = f.hit refl

    abbrev w : List ℕ
    w = hit.vector

    tried : Tried es rows count w
    tried = try_out es rows count w (ap is_some (sym hit.is))

    is_attempt : answer_of es w ≡ option.Some r
    is_attempt = sym (hit.is ∙ tried.is)

    sound : Instance l w r × Solves es r
    sound = attempt_sound l ok.1.counts_in.of_letters.0 es (side-letters s ok.1 questions in_range) w r is_attempt

    found-held : Held b r
    found-held = hit-held w hit.inside r sound.0 sound.1 tried.rows_hold

    found_answers : Answers s a (meaning b r)
    found_answers = hit_answers w hit.inside r sound.0 sound.1 tried.rows_hold

    found_lengths : Same (lengths_of (meaning b r)) w
    found_lengths = same_lengths w hit.inside r sound.0 sound.1 tried.rows_hold

  none_found : (O : List ℕ → List ℕ → Type 0) → First (try_of es rows count) (Within a.ranges.lo a.ranges.hi) O option.None → (g : Substitution) → Answers s a g → ⊥
  none_found O f g h = never (sym (f.miss refl (lengths_of g) h.within) ∙ answer_tries g h)

  -- The first by totals, then by the shorter field 0 and so on: of all answers none comes before it.
  module _ (r : List Field) (f : First (try_of es rows count) (Within a.ranges.lo a.ranges.hi) Sooner (option.Some r)) (g : Substitution) (h : Answers s a g) where
    abbrev found : Substitution
    found = meaning b r

    held : Held b r
    held = found-held Sooner r f

    lengths : Same (lengths_of found) (f.hit refl).vector
    lengths = found_lengths Sooner r f

    sized : length g ≡ length found
    sized = h.is_legal.one_each ∙ sym held.legal.one_each

    letter_low : SameLengths g found → (i c : ℕ) → get_or (text found i) c 0 ≤ get_or (text g i) c 0
    letter_low e i c =
        by_lt c (length (text found i))
        (λ m.
        let inside : i < length s.limits = omega (arith, field-there found i c m, held.legal.one_each) in
        let same = e i in
        let means = memory_means b ok g h.is_legal in
        let mine = letter-value b r held i c inside m in
        let its : get_or (text g i) c 0 ≡ value_of (memory g h) (8 + 8 * i + c) = rw means at (letter-value b (memory g h) (memory_held b ok g h.is_legal) i c inside (rw means (omega arith))) in
        let low = attempt_lower g h (f.hit refl).vector (λ i k. same_vectors g found e i k ∙ lengths i k) r (is_attempt Sooner r f) (8 + 8 * i + c) in
        omega arith)
        (λ m. rw (get_or-eq_default (text found i) 0 m) (omega arith))

    none-earlier : Earlier g found → ⊥
    none-earlier k =
        ⊎_elim
        (λ sooner. never (sym ((f.hit refl).first (lengths_of g) h.within (sooner_same (lengths_of g) (lengths_of found) (f.hit refl).vector lengths sooner)) ∙ answer_tries g h))
        (λ (e, k). let low = letter_low e k.field k.place in omega (arith, k.lower))
        (earlier_vectors g found (let n = h.is_legal.one_each in let six = fields-few s ok.1 in omega arith) sized ((earlier_by_fields s g found h.is_legal held.legal).0 k))

  pub first_finds : (first : Bool) (r : Option (List Field)) → First (try_of es rows count) (Within a.ranges.lo a.ranges.hi) (Order first) r → Finds b a first r
  first_finds first option.None f = none_found (Order first) f
  first_finds first (option.Some r) f = record {
    held = found-held (Order first) r f;
    answer = found_answers (Order first) r f;
    earliest = by first f;
  }
    where
      by : (first : Bool) → First (try_of es rows count) (Within a.ranges.lo a.ranges.hi) (Order first) (option.Some r) → first ≡ true → (g : Substitution) → Answers s a g → Earlier g (meaning b r) → ⊥
      by true f e = none-earlier r f
      by false f e = never e
