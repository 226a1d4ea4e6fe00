-- The tests are those of `far_w`.
use borrow.Author.Tests.{lt-ltb, le-ltb, eq-eqb, ne_eqb}
use mathlib.Core.Path.{refl}
use Rattle.steps.specs.Outside.{reported, stayed}
use Rattle.steps.proofs.fuzzy_distance.Goals as goal
use Rattle.steps.proofs.fuzzy_distance.Goals.{then-distance-eq0-via-then-distance-eq0, then-distance-eq0-via-else-distance-eq0+then-word-distance}

pub returns-then-distance-eq0-clause-is : goal.returns-then-distance-eq0-clause-is
returns-then-distance-eq0-clause-is c = elim c.then-distance-eq0.branch [
  | then-distance-eq0-via-then-distance-eq0 w ↦ rw (eq-eqb _ _ w.if-distance-eq0.true) (reported c.reject.ensures.is)
  | then-distance-eq0-via-else-distance-eq0+then-word-distance w ↦
      rw (ne_eqb _ _ w.if-distance-eq0.false, lt-ltb _ _ (rw (w.word.ensures, w.view.ensures) at w.if-word-distance.true)) (reported c.reject.ensures.is)
]

pub returns-clause-is : goal.returns-clause-is
returns-clause-is c =
    rw (ne_eqb _ _ c.if-distance-eq0.false, le-ltb _ _ (rw (c.word.ensures, c.view.ensures) at c.if-word-distance.false)) (stayed refl refl refl)
