use Rattle.unification.proofs.Tests.{clash}
use Rattle.std.proofs.Common.{rules}
use Rattle.cells.proofs.Asking.{no_visit, asking_start, error_outside, occurring_again, occurring_new, occurring_short, occurring_yes, occurring_ends}
use Rattle.cells.proofs.Asking.{occurring_none}
use Rattle.std.proofs.lemmas.Option.{none-some, some_pair_parts}
use Rattle.cells.proofs.+occurs.Goals as goal
use Rattle.cells.proofs.+occurs.Goals.{then-eq-2+in_ok-rest-2, else-eq-2+in_ok-found+else-found}

pub returns-in_err-rest : goal.returns-in_err-rest
returns-in_err-rest t c = rw c.from_residual.ensures (no_visit (search rules))

pub returns-then-eq : goal.returns-then-eq
returns-then-eq t c = occurring_yes (search rules) c.repr-u.ensures _ (search rules) (search rules)

pub loop-j-init : goal.loop-j-init
loop-j-init t c = (asking_start _ _ _ _ _ _ _ c.part_count-j-end.ensures (search rules), error_outside _ _)

pub returns-in_err-rest-2 : goal.returns-in_err-rest-2
returns-in_err-rest-2 t c = rw c.from_residual-in_err-rest-2.ensures
    (occurring_short (search rules) c.repr-u.ensures c.loop-j.invariant c.part_ty-q.result c.loop-j-test.true c.part_ty-q.ensures (search rules) (search rules))

pub returns-in_err-found : goal.returns-in_err-found
returns-in_err-found t c = rw c.from_residual-in_err-found.ensures
    (occurring_ends (search rules) c.repr-u.ensures c.loop-j.invariant.0 c.part_ty-q.result c.loop-j-test.true c.part_ty-q.ensures c.in_err-found.ensures
    (λ l z. none-some _ z))

pub returns-then-found : goal.returns-then-found
returns-then-found t c = occurring_ends (search rules) c.repr-u.ensures c.loop-j.invariant.0 c.part_ty-q.result c.loop-j-test.true c.part_ty-q.ensures
    (rw c.if-found.true at c.in_ok-found.ensures) (λ l z. clash (cc (some_pair_parts _ _ _ _ z).0))

pub loop-j-preserved : goal.loop-j-preserved
loop-j-preserved t c = elim c.if-eq-2.branch [
  | then-eq-2+in_ok-rest-2 w ↦ occurring_again c.loop-j.invariant c.part_ty-q.result c.loop-j-test.true c.part_ty-q.ensures (search rules) (search rules)
      (search rules) w.last-is w.cost-is
  | else-eq-2+in_ok-found+else-found w ↦ occurring_new c.loop-j.invariant c.part_ty-q.result c.loop-j-test.true c.part_ty-q.ensures w.occurs.ensures
      w.in_ok-found.l (search rules) w.rest-is w.last-is w.cost-is
]

pub returns : goal.returns
returns t c = occurring_none (search rules) c.repr-u.ensures c.loop-j.invariant.0 (search rules) c.loop-j-test.false
