-- Instances of the start are the substitutions with those lengths: an instance holds a filling of the sheet, and every legal substitution is
-- what some instance means, a name being read as the letter at its place. Assumes nothing.
use mathlib.Core.Path.{◌≡◌, refl, sym, ap, ◌∙◌}
use mathlib.Core.List.{List, []}
use Prim.Native.Nat.{ℕ, ◌+◌, ◌-◌, ◌*◌, ◌/◌, ◌%◌, ◌<◌, ◌≤◌}
use native.Mathlib.Omega.{arith}
use lib.Dec.{ltb, eqb}
use lib.ListN.{length, get_or, drop, replicate, length-map, length-drop, length-replicate, get_or-replicate, get_or-map, get_or-eq_default}
use lib.Seq.{get_or-take, get_or-drop, length-take-le, ext_get_or}
use borrow.Author.Tests.{ltb-true, ltb-false, eqb-true, lt-ltb, le-ltb, ne_eqb}
use Rattle.model.specs.Lists.{pick, All}
use Rattle.model.specs.Sheet.{Sheet, limit, sheet_of}
use Rattle.model.specs.Range.{Admitted}
use Rattle.model.specs.Word.{Substitution, text, Legal}
use Rattle.model.proofs.Lists.{by_test, at, from_at}
use Rattle.formula.proofs.Small.{letters-few, fields-few, limit-small}
use Rattle.fields.specs.declared.Field.{Field}
use Rattle.fields.specs.Memory.{text_of, texts_of, field, Whole, meaning, Held}
use Rattle.unification.specs.Names.{app, map_field, no_field, Refining}
use Rattle.unification.proofs.Laws.{pick_ind}
use Rattle.walk.specs.Reading.{name_of, fresh_of, start_of}
use Rattle.walk.proofs.Renewing.{at8, start-field}
use Rattle.trails.proofs.Attempts.{Instance}
use Rattle.inequalities.specs.Asked.{lengths_of}
use Rattle.inequalities.proofs.Asked.{lengths_at}
use Rattle.question.proofs.Words.{text-length, meaning-at}

-- An instance's fields: whole, with the lengths n, and letters below l.
module _ (l : ℕ) (n : List ℕ) (h : List Field) (i : Instance l n h) (short : (f : ℕ) → f < 6 → get_or n f 0 ≤ 8) where
  six : length h ≡ 6
  unfolding app start_of
  six = ap length i.is

  module _ (f : ℕ) (inside : f < 6) where
    abbrev size : ℕ
    size = get_or n f 0

    abbrev v : Field
    v = field h f

    is_fresh : v ≡ map_field i.by (fresh_of f size)
    unfolding app
    is_fresh =
        ap (λ (g : List Field). field g f) i.is
        ∙ get_or-map (map_field i.by) (start_of n) f no_field
        ∙ ap (map_field i.by) (start-field n f inside)

    instance_len : v.len ≡ size
    unfolding fresh_of
    instance_len = ap (λ (t : Field). t.len) is_fresh

    eight-letters : length v.letters ≡ 8
    unfolding fresh_of
    eight-letters = ap (λ (t : Field). length t.letters) is_fresh

    letter_at : (c : ℕ) → c < 8 → get_or v.letters c 0 ≡ i.by (name_of f size c)
    unfolding fresh_of
    letter_at c k = ap (λ (t : Field). get_or t.letters c 0) is_fresh ∙ at8 (λ c. i.by (name_of f size c)) c k

    -- what stands past the length
    abbrev blanks : List ℕ
    blanks = replicate (8 - v.len) 255

    pub instance_whole : Whole v
    instance_whole = record {
      eight = eight-letters;
      short = rw instance_len (short f inside);
      past = ext_get_or 0 (drop v.len v.letters) blanks sized same-past;
    }
      where
        sized : length (drop v.len v.letters) ≡ length blanks
        sized = length-drop v.len v.letters ∙ ap (λ k. k - v.len) eight-letters ∙ sym (length-replicate (8 - v.len) 255)

        same-past : (k : ℕ) → k < length (drop v.len v.letters) → get_or (drop v.len v.letters) k 0 ≡ get_or blanks k 0
        same-past k less =
            let m : k < 8 - v.len = let a = length-drop v.len v.letters in let b = eight-letters in omega arith in
            let e = instance_len in
            get_or-drop v.len v.letters k 0
            ∙ letter_at (v.len + k) (omega arith)
            ∙ ap i.by (rw (le-ltb (v.len + k) size (omega arith)))
            ∙ i.refines.blank
            ∙ sym (get_or-replicate (8 - v.len) k 255 0 m)

    pub instance_text : length (text_of v) ≡ size
    instance_text = text-length v instance_whole ∙ instance_len

    pub instance_letter : (c : ℕ) → c < size → get_or (text_of v) c 0 ≡ i.by (8 + 8 * f + c)
    instance_letter c k =
        let e = instance_len in
        let few = short f inside in
        get_or-take v.len v.letters c 0 (omega arith) ∙ letter_at c (omega arith) ∙ ap i.by (rw (lt-ltb c size k))

    over_letters : All (λ a. a < l) (text_of v)
    over_letters =
        from_at (λ a. a < l) 0 (text_of v) (λ c k.
        let few = short f inside in
        let less : c < size = let e = instance_text in omega arith in
        rw (instance_letter c less) (i.letter f c inside (omega arith) less))

  instance_wholes : All Whole h
  instance_wholes = from_at Whole no_field h (λ f k. instance_whole f (omega (arith, six)))

-- Of a sheet: lengths within the limits.
module _ (b : List ℕ) (ok : Admitted b) (n : List ℕ) (h : List Field) (i : Instance (length (sheet_of b).letters) n h) (short : (f : ℕ) → f < 6 → get_or n f 0 ≤ limit (sheet_of b) f) where
  abbrev s : Sheet
  s = sheet_of b

  abbrev l : ℕ
  l = length s.letters

  small : (f : ℕ) → f < 6 → get_or n f 0 ≤ 8
  small f k = let a = short f k in let c = limit-small s ok.1 f in omega arith

  field_below : (f : ℕ) → f < length s.limits → f < 6
  field_below f k = let few = fields-few s ok.1 in omega arith

  pub instance_held : Held b h
  instance_held = record {
    accepted = ok.0;
    in_range = ok.1;
    six = six l n h i small;
    whole = instance_wholes l n h i small;
    legal = record {
      one_each = length-take-le (length s.limits) (texts_of h) (let a = length-map h text_of in let c = six l n h i small in let few = fields-few s ok.1 in omega arith);
      admits = λ f k. let e = meaning-at b h f k in let k6 = field_below f k in record {
        over_letters = rw e (over_letters l n h i small f k6);
        no_longer = rw (e, instance_text l n h i small f k6) (short f k6);
      };
    };
  }

  -- its lengths are n
  pub instance_lengths : (f : ℕ) → f < 6 → get_or (lengths_of (meaning b h)) f 0 ≡ get_or n f 0
  instance_lengths f k = lengths_at (meaning b h) f k ∙ by_test (ltb f (length s.limits))
      (λ e. let q = ltb-true f (length s.limits) e in ap length (meaning-at b h f q) ∙ instance_text l n h i small f k)
      (λ e.
      let q = ltb-false f (length s.limits) e in
      let none = get_or-eq_default s.limits 0 q in
      let low = short f k in
      let past : text (meaning b h) f ≡ [] = get_or-eq_default (meaning b h) [] (let z = instance_held.legal.one_each in omega arith) in
      rw past (omega arith))

-- A legal substitution as an instance: a name is read as the letter at its place.
unfoldable pub reader : Substitution → ℕ → ℕ
reader g x = pick (ltb x 8) x (pick (eqb x 255) 255 (get_or (text g ((x - 8) / 8)) ((x - 8) % 8) 0))

module _ (b : List ℕ) (ok : Admitted b) (g : Substitution) (legal : Legal (sheet_of b) g) where
  abbrev t : Sheet
  t = sheet_of b

  text-none : (f : ℕ) → length t.limits ≤ f → text g f ≡ []
  text-none f k = get_or-eq_default g [] (let z = legal.one_each in omega arith)

  letter-small : (f c : ℕ) → get_or (text g f) c 0 < 8
  letter-small f c = by_test (ltb f (length t.limits))
      (λ e. by_test (ltb c (length (text g f)))
      (λ q. let few = letters-few t ok.1 in let a = at (λ a. a < length t.letters) (text g f) c 0 (legal.admits f (ltb-true f (length t.limits) e)).over_letters (ltb-true c (length (text g f)) q) in omega arith)
      (λ q. rw (get_or-eq_default (text g f) 0 (ltb-false c (length (text g f)) q)) (omega arith)))
      (λ e. rw (text-none f (ltb-false f (length t.limits) e)) (omega arith))

  reader_refines : Refining (reader g)
  unfolding reader
  reader_refines = record {
    letter = λ x h. rw (lt-ltb x 8 h);
    blank = refl;
    solid = λ x. pick_ind (λ z. z ≡ 255 → x ≡ 255) (ltb x 8) (λ _ e. e)
        (λ _. pick_ind (λ z. z ≡ 255 → x ≡ 255) (eqb x 255) (λ q e. eqb-true x 255 q)
        (λ q e. let a = letter-small ((x - 8) / 8) ((x - 8) % 8) in absurd (omega arith)));
  }

  reader_at : (f c : ℕ) → f < 6 → c < 8 → reader g (8 + 8 * f + c) ≡ get_or (text g f) c 0
  unfolding reader
  reader_at f c h k =
      let a : (8 + 8 * f + c - 8) / 8 ≡ f = omega arith in
      let d : (8 + 8 * f + c - 8) % 8 ≡ c = omega arith in
      rw (le-ltb (8 + 8 * f + c) 8 (omega arith), ne_eqb (8 + 8 * f + c) 255 (λ e. omega arith), a, d)

  pub text_size : (f : ℕ) → f < 6 → get_or (lengths_of g) f 0 ≤ limit t f
  text_size f k = rw (lengths_at g f k) (by_test (ltb f (length t.limits))
      (λ e. (legal.admits f (ltb-true f (length t.limits) e)).no_longer)
      (λ e. rw (text-none f (ltb-false f (length t.limits) e)) (omega arith)))

  abbrev memory : List Field
  memory = app (reader g) (start_of (lengths_of g))

  as_instance : Instance (length t.letters) (lengths_of g) memory
  as_instance = record {
    by = reader g;
    refines = reader_refines;
    letter = λ f c h k m.
        let less : c < length (text g f) = rw (lengths_at g f h) at m in
        let inside : f < length t.limits = by_test (ltb f (length t.limits))
        (λ e. ltb-true f (length t.limits) e)
        (λ e. let none = ap length (text-none f (ltb-false f (length t.limits) e)) in absurd (omega arith)) in
        rw (reader_at f c h k) (at (λ a. a < length t.letters) (text g f) c 0 (legal.admits f inside).over_letters less);
    is = refl;
  }

  pub memory_refines : Refining (reader g)
  memory_refines = reader_refines

  pub memory_held : Held b memory
  memory_held = instance_held b ok (lengths_of g) memory as_instance text_size

  pub memory_means : meaning b memory ≡ g
  unfolding as_instance reader
  memory_means =
      let few = fields-few t ok.1 in
      ext_get_or [] (meaning b memory) g (memory_held.legal.one_each ∙ sym legal.one_each) (λ f k.
      let inside : f < length t.limits = let z = memory_held.legal.one_each in omega arith in
      same_text f inside (omega arith))
    where
      same_text : (f : ℕ) → f < length t.limits → f < 6 → text (meaning b memory) f ≡ text g f
      same_text f inside k =
          let small : (f : ℕ) → f < 6 → get_or (lengths_of g) f 0 ≤ 8 = λ f k. (let a = text_size f k in let c = limit-small t ok.1 f in omega arith) in
          let long = instance_text (length t.letters) (lengths_of g) memory as_instance small f k ∙ lengths_at g f k in
          meaning-at b memory f inside
          ∙ ext_get_or 0 (text_of (field memory f)) (text g f) long (λ c less.
          let m : c < get_or (lengths_of g) f 0 = let e = lengths_at g f k in omega arith in
          instance_letter (length t.letters) (lengths_of g) memory as_instance small f k c m
          ∙ reader_at f c k (let a = small f k in omega arith))
