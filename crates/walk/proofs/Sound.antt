-- In a box of one vector nothing is open, and there the walk is sound: where it does not fail, its answer makes the two words equal. And in every box it
-- brings in no letter that the cells and the substitution do not have. Assumes nothing.
use mathlib.Core.Path.{◌≡◌, refl, sym, ap, ap₂, ◌∙◌}
use mathlib.Core.Bool.{true}
use mathlib.Core.List.{List, [], ◌∷◌, ◌++◌, map}
use Rattle.std.specs.Prelude.{Bool, false}
use Rattle.std.specs.declared.result.Result.TheVariants.{Ok}
use mathlib.Core.Logic.{◌⊎◌, inl, inr}
use Prim.Native.Nat.{ℕ, suc}
use lib.Dec.{eqb}
use borrow.Author.Tests.{eqb-true, eqb-false}
use Rattle.fields.specs.declared.Field.{Field}
use Rattle.unification.specs.Names.{value_of, either, unify_of, Inside}
use Rattle.unification.proofs.Laws.{pick_ind, err-ok, of_ok, Renamed, unchanged, further, value_renamed, value_below, Unified, unify_sound, unify_inside}
use Rattle.walk.specs.Walk.{Letters, word, Reached, reached, is_open, walk_in}
use Rattle.walk.proofs.Right.{Solid, along, at_stop, at_onward, told_stop, told_onward, word_blank, word-solid, word-append, SameOpen, unify_open}

abbrev pub Closed : List Field → Type 0
Closed g = (w : ℕ) → value_of g w ≡ 254 → ⊥

-- a renaming keeps blanks blank, and makes no others
module _ {g h : List Field} (k : Renamed g h) (u : ℕ) (a : List ℕ) where
  renamed_blank : value_of g u ≡ 255 → word h (u ∷ a) ≡ word h a
  renamed_blank e = word_blank h u a (value_renamed k u ∙ ap k.by e ∙ k.refines.blank)

  renamed_solid : (value_of g u ≡ 255 → ⊥) → word h (u ∷ a) ≡ k.by (value_of g u) ∷ word h a
  renamed_solid n = word-solid h u a (λ e. n (k.refines.solid _ (sym (value_renamed k u) ∙ e))) ∙ ap (λ (x : ℕ). x ∷ word h a) (value_renamed k u)

word_renamed : {g h : List Field} (k : Renamed g h) (a : List ℕ) → word h a ≡ map k.by (word g a)
unfolding word
word_renamed k [] = refl
word_renamed {g} {h} k (u ∷ a) =
    pick_ind (λ (z : List ℕ). word h (u ∷ a) ≡ map k.by z) (eqb (value_of g u) 255)
    (λ t. renamed_blank k u a (eqb-true _ _ t) ∙ word_renamed k a)
    (λ t. renamed_solid k u a (eqb-false _ _ t) ∙ ap (λ (z : List ℕ). k.by (value_of g u) ∷ z) (word_renamed k a))

-- so an equality of words survives what is unified later
pub equal_renamed : {g h : List Field} → Renamed g h → (a b : List ℕ) → word g a ≡ word g b → word h a ≡ word h b
equal_renamed k a b e = word_renamed k a ∙ ap (map k.by) e ∙ sym (word_renamed k b)

-- h is g under a renaming, nothing is open, and the words of a and b are equal
pub record Solved (a b : List ℕ) (g h : List Field) : Type 0 where
  pub how : Renamed g h
  pub closed : Closed h
  pub equal : word h a ≡ word h b

exchanged : {a b : List ℕ} {g h : List Field} → Solved a b g h → Solved b a g h
exchanged r = record { how = r.how; closed = r.closed; equal = sym r.equal }

solved-left : {a b : List ℕ} {g h : List Field} {u : ℕ} → value_of g u ≡ 255 → Solved a b g h → Solved (u ∷ a) b g h
solved-left {a} {u = u} e r = record { how = r.how; closed = r.closed; equal = renamed_blank r.how u a e ∙ r.equal }

solved-same : {a b : List ℕ} {g h : List Field} {u v : ℕ} → u ≡ v → Solved a b g h → Solved (u ∷ a) (v ∷ b) g h
solved-same {a} {b} {h = h} {u = u} e r = record {
  how = r.how;
  closed = r.closed;
  equal = word-append h (u ∷ []) a ∙ ap₂ (λ x z. word h (x ∷ []) ++ z) e r.equal ∙ sym (word-append h (_ ∷ []) b);
}

solved_both : {a b : List ℕ} {g k h : List Field} {u v : ℕ} → Solid g u → Solid g v → Unified g (value_of g u) (value_of g v) k → Solved a b k h → Solved (u ∷ a) (v ∷ b) g h
solved_both {a} {b} {u = u} {v = v} n m q r =
    let both = further q.how r.how in
    record {
      how = both;
      closed = r.closed;
      equal = renamed_solid both u a n.present ∙ ap₂ (λ x z. x ∷ z) (ap r.how.by q.joins) r.equal ∙ sym (renamed_solid both v b m.present);
    }

pub walk_sound : (a b : List ℕ) (g : List Field) → Closed g → (w : Reached) → walk_in a b g ≡ Ok w → Solved a b g w.substitution
walk_sound = along (λ a b g r. Closed g → (w : Reached) → r ≡ Ok w → Solved a b g w.substitution) record {
  ends = λ g c. at_stop (λ w. Solved [] [] g w.substitution) true (record { how = unchanged g; closed = c; equal = refl });
  left_blank = λ u a b g r e so c w t. solved-left e (so c w t);
  right_blank = λ v a b g r e so c w t. exchanged (solved-left e (exchanged (so c w t)));
  left_over = λ u a g n c w t. absurd (c u (eqb-true _ _ (not_failed (is_open g u) (u ∷ a) [] g w t)));
  right_over = λ v b g n c w t. absurd (c v (eqb-true _ _ (not_failed (is_open g v) [] (v ∷ b) g w t)));
  same_cell = λ u v a b g r d so c w t. solved-same d (so c w t);
  waits = λ u v a b g o c w t. stuck g u v c o;
  letters = λ u v a b g m n so c.
      at_onward (λ w. Solved (u ∷ a) (v ∷ b) g w.substitution) (unify_of g (value_of g u) (value_of g v)) _
      (λ h t w e.
      let o : SameOpen g h = of_ok (SameOpen g) _ (unify_open g (value_of g u) (value_of g v) m.present n.present m.closed n.closed) h t in
      solved_both m n (unify_sound g (value_of g u) (value_of g v) m.present n.present h t) (so h (λ x z. c x ((o x).1 z)) w e));
}
  where
    stuck : {P : Type 0} (g : List Field) (u v : ℕ) → Closed g → (value_of g u ≡ 254) ⊎ (value_of g v ≡ 254) → P
    stuck g u v c (inl e) = absurd (c u e)
    stuck g u v c (inr e) = absurd (c v e)

    not_failed : (t : Bool) (a b : List ℕ) (g : List Field) (w : Reached) → reached t a b g ≡ Ok w → t ≡ true
    not_failed true a b g w e = refl
    not_failed false a b g w e = err-ok w _ e

-- letters come from nowhere else, even where the walk fails
pub walk_inside : (l : ℕ) (a b : List ℕ) (g : List Field) → Letters l a → Letters l b → Inside l g → Inside l (either (walk_in a b g)).substitution
walk_inside l = along (λ a b g r. Letters l a → Letters l b → Inside l g → Inside l (either r).substitution) record {
  ends = λ g p q ins. ins;
  left_blank = λ u a b g r e so p q. so (λ i. p (suc i)) q;
  right_blank = λ v a b g r e so p q. so p (λ i. q (suc i));
  left_over = λ u a g n p q. held (is_open g u) (u ∷ a) [] g;
  right_over = λ v b g n p q. held (is_open g v) [] (v ∷ b) g;
  same_cell = λ u v a b g r d so p q. so (λ i. p (suc i)) (λ i. q (suc i));
  waits = λ u v a b g o p q ins. ins;
  letters = λ u v a b g m n so p q ins.
      told_onward (λ w. Inside l w.substitution) (unify_of g (value_of g u) (value_of g v)) _ _
      (λ h t.
      let k : Inside l h = of_ok (Inside l) _ (unify_inside l g (value_of g u) (value_of g v) ins m.present n.present (value_below l g u ins (p 0)) (value_below l g v ins (q 0))) h t in
      so h (λ i. p (suc i)) (λ i. q (suc i)) k)
      (held false (u ∷ a) (v ∷ b) g ins);
}
  where
    held : (t : Bool) (a b : List ℕ) (g : List Field) → Inside l g → Inside l (either (reached t a b g)).substitution
    held t a b g ins = told_stop (λ w. Inside l w.substitution) t ins
