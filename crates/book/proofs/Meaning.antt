-- What the question of two templates means: its solutions are texts for the fields of the one and texts for the fields of the other with which both spell the
-- same. Assumes nothing.
use mathlib.Core.Path.{◌≡◌, refl, sym, ap, subst, ◌∙◌}
use mathlib.Core.Bool.{true}
use mathlib.Core.List.{List, [], ◌∷◌, ◌++◌, map}
use mathlib.Core.Logic.{◌↔◌}
use Prim.Native.Nat.{ℕ, ◌<◌}
use native.Mathlib.Omega.{arith}
use lib.ListN.{length, get_or, take, drop, take-append-drop}
use Rattle.model.specs.Lists.{All}
use Rattle.model.specs.Sheet.{Symbol, letter, field}
use Rattle.model.specs.Range.{SymbolIn}
use Rattle.model.specs.Word.{Substitution, Texts, symbol_word, spell, SameWord, Solves}
use Rattle.model.proofs.Lists.{each_same, from_at}
use Rattle.model.proofs.Keeping.{first-at, second_at, each_map}
use Rattle.model.proofs.Words.{keeps_every, spell-agree}
use Rattle.model.proofs.Fillings.{first_in, others_in, one_more_in, none_in}
use Rattle.model.proofs.Solvable.{solvable_in, solvable_out}
use Rattle.book.specs.Book.{Template, Book, template, BookIn}
use Rattle.book.specs.Pairs.{numbered_after, asked, question, clash, Clash}
use Rattle.book.proofs.Question.{own_in}

-- Texts for the fields of both, one after the other.
module _ (l : ℕ) where
  texts_join : (xs ys : List ℕ) (g h : Substitution) → Texts l xs g → Texts l ys h → Texts l (xs ++ ys) (g ++ h)
  texts_join [] ys [] h p q = q
  texts_join [] ys (t ∷ g) h p q = absurd (omega (arith, p.one_each))
  texts_join (x ∷ xs) ys [] h p q = absurd (omega (arith, p.one_each))
  texts_join (x ∷ xs) ys (t ∷ g) h p q = one_more_in (first_in p) (texts_join xs ys g h (others_in p) q)

  texts_part : (xs ys : List ℕ) (g : Substitution) → Texts l (xs ++ ys) g → Texts l xs (take (length xs) g) × Texts l ys (drop (length xs) g)
  texts_part [] ys g p = (none_in l, p)
  texts_part (x ∷ xs) ys [] p = absurd (omega (arith, p.one_each))
  texts_part (x ∷ xs) ys (t ∷ g) p = let o = texts_part xs ys g (others_in p) in (one_more_in (first_in p) o.0, o.1)

-- What each side spells with them.
module _ (g h : Substitution) where
  spell-first : (l v : ℕ) → length g ≡ v → (t : List Symbol) → All (SymbolIn l v) t → spell (g ++ h) t ≡ spell g t
  spell-first l v e t a = spell-agree v (g ++ h) g (λ f k. first-at [] g h v f e k) l t a

  symbol_second : (v : ℕ) → length g ≡ v → (s : Symbol) → symbol_word (g ++ h) (numbered_after v s) ≡ symbol_word h s
  symbol_second v e (letter a) = refl
  symbol_second v e (field f) = second_at [] g h v f e

  spell-second : (v : ℕ) → length g ≡ v → (t : List Symbol) → spell (g ++ h) (map (numbered_after v) t) ≡ spell h t
  unfolding spell
  spell-second v e t =
      each_map (numbered_after v) t (symbol_word (g ++ h)) ∙ each_same _ _ t (from_at (λ s. symbol_word (g ++ h) (numbered_after v s) ≡ symbol_word h s) (letter 0) t (λ i l. symbol_second v e (get_or t i (letter 0))))

module _ (k : Book) (ok : BookIn k) (i j : ℕ) (hi : i < length k.templates) where
  abbrev t : Template
  t = template k i

  abbrev u : Template
  u = template k j

  -- texts with which both spell the same solve the question
  both_solve : (g h : Substitution) → Texts (length k.letters) t.limits g → Texts (length k.letters) u.limits h
      → SameWord (question k i j) (spell g t.symbols) (spell h u.symbols) → Solves (question k i j) (g ++ h)
  unfolding asked All
  both_solve g h p q e = record {
    is_legal = texts_join (length k.letters) t.limits u.limits g h p q;
    equations_hold = (
      subst (λ w. SameWord (question k i j) w (spell (g ++ h) (map (numbered_after (length t.limits)) u.symbols)))
          (sym (spell-first g h (length k.letters) (length t.limits) p.one_each t.symbols (own_in k ok i hi).template_in.symbols))
          (subst (SameWord (question k i j) (spell g t.symbols)) (sym (spell-second g h (length t.limits) p.one_each u.symbols)) e),
      tt,
    );
    constraints_hold = tt;
    keeps_all = keeps_every (question k i j) (g ++ h);
  }

  -- and what solves it is such texts
  solved_both : (f : Substitution) → Solves (question k i j) f → Clash k i j
  unfolding asked All
  solved_both f s =
      let v : ℕ = length t.limits in
      let g : Substitution = take v f in
      let h : Substitution = drop v f in
      let parts = texts_part (length k.letters) t.limits u.limits f s.is_legal in
      let whole : f ≡ g ++ h = sym (take-append-drop v f) in
      record {
        left_texts = g;
        right_texts = h;
        left_legal = parts.0;
        right_legal = parts.1;
        same_text =
            subst (λ w. SameWord (question k i j) w (spell h u.symbols))
            (ap (λ z. spell z t.symbols) whole ∙ spell-first g h (length k.letters) v parts.0.one_each t.symbols (own_in k ok i hi).template_in.symbols)
            (subst (SameWord (question k i j) (spell f t.symbols))
            (ap (λ z. spell z (map (numbered_after v) u.symbols)) whole ∙ spell-second g h v parts.0.one_each u.symbols)
            s.equations_hold.0);
      }

  pub clash_means : (clash k i j ≡ true) ↔ Clash k i j
  clash_means = (
    (λ e. let s = solvable_out (question k i j) e in solved_both s.0 s.1),
    λ c. solvable_in (question k i j) (c.left_texts ++ c.right_texts) (both_solve c.left_texts c.right_texts c.left_legal c.right_legal c.same_text),
  )
