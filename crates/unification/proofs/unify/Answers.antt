-- `unification::unify` meets its contract, test by test: it answers by the same tests as `unify_of`. Assumes nothing.
use borrow.Author.Tests.{lt-ltb, le-ltb, eq-eqb, ne_eqb}
use Rattle.unification.specs.Names.{unify_of}
use Rattle.unification.proofs.unify.Goals as goal

pub returns-then-u-v : goal.returns-then-u-v
unfolding unify_of
returns-then-u-v c = simp (eq-eqb _ _ c.if-u-v.true)

pub returns-then-u-ge-FIRST_PLACE : goal.returns-then-u-ge-FIRST_PLACE
unfolding unify_of
returns-then-u-ge-FIRST_PLACE c =
    simp (ne_eqb _ _ c.if-u-v.false, le-ltb _ _ c.if-u-ge-FIRST_PLACE.true, c.replace.ensures)

pub returns-then-v-ge-FIRST_PLACE : goal.returns-then-v-ge-FIRST_PLACE
unfolding unify_of
returns-then-v-ge-FIRST_PLACE c =
    simp (ne_eqb _ _ c.if-u-v.false, lt-ltb _ _ c.if-u-ge-FIRST_PLACE.false, le-ltb _ _ c.if-v-ge-FIRST_PLACE.true, c.replace-then-v-ge-FIRST_PLACE.ensures)

pub returns-else-v-ge-FIRST_PLACE : goal.returns-else-v-ge-FIRST_PLACE
unfolding unify_of
returns-else-v-ge-FIRST_PLACE c =
    simp (ne_eqb _ _ c.if-u-v.false, lt-ltb _ _ c.if-u-ge-FIRST_PLACE.false, lt-ltb _ _ c.if-v-ge-FIRST_PLACE.false)
