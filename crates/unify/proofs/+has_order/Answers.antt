use Rattle.unification.proofs.Tests.{clash}
use Rattle.std.proofs.Common.{rules}
use Rattle.std.proofs.lemmas.Option.{none-some, some_pair_parts}
use Rattle.cells.proofs.Asking.{asking_start, error_ordered, ordering_again, ordering_new, ordering_short, order_no_visit, order_fact, ordering_ends}
use Rattle.cells.proofs.Asking.{ordering_none}
use Rattle.unify.proofs.+has_order.Goals as goal
use Rattle.unify.proofs.+has_order.Goals.{then-eq+in_ok-rest-2, else-eq+in_ok-yes+else-not-yes}

pub returns-in_err-rest : goal.returns-in_err-rest
returns-in_err-rest t c = rw c.from_residual.ensures (order_no_visit (search rules))

pub returns-in-Fact : goal.returns-in-Fact
returns-in-Fact t c = order_fact (search rules) c.repr-u.ensures c.in-Fact.field-0 c.in-Fact.is _ (search rules)

pub loop-j-init : goal.loop-j-init
loop-j-init t c = (asking_start _ _ _ _ _ _ _ c.part_count-j-end.ensures (search rules), error_ordered _)

pub returns-in_err-rest-2 : goal.returns-in_err-rest-2
returns-in_err-rest-2 t c = rw c.from_residual-in_err-rest-2.ensures
    (ordering_short (search rules) c.repr-u.ensures c.loop-j.invariant c.part_ty-q.result c.loop-j-test.true c.part_ty-q.ensures (search rules) (search rules))

pub returns-in_err-yes : goal.returns-in_err-yes
returns-in_err-yes t c = rw c.from_residual-in_err-yes.ensures
    (ordering_ends (search rules) c.repr-u.ensures c.loop-j.invariant.0 c.part_ty-q.result c.loop-j-test.true c.part_ty-q.ensures c.in_err-yes.ensures
    (λ l z. none-some _ z))

pub returns-then-not-yes : goal.returns-then-not-yes
returns-then-not-yes t c = ordering_ends (search rules) c.repr-u.ensures c.loop-j.invariant.0 c.part_ty-q.result c.loop-j-test.true c.part_ty-q.ensures
    (rw c.if-not-yes.true at c.in_ok-yes.ensures) (λ l z. clash (cc (some_pair_parts _ _ _ _ z).0))

pub loop-j-preserved : goal.loop-j-preserved
loop-j-preserved t c = elim c.if-eq.branch [
  | then-eq+in_ok-rest-2 w ↦ ordering_again c.loop-j.invariant c.part_ty-q.result c.loop-j-test.true c.part_ty-q.ensures (search rules) (search rules)
      (search rules) w.last-is w.cost-is
  | else-eq+in_ok-yes+else-not-yes w ↦ ordering_new c.loop-j.invariant c.part_ty-q.result c.loop-j-test.true c.part_ty-q.ensures w.has_order.ensures
      w.in_ok-yes.l (search rules) w.rest-is w.last-is w.cost-is
]

pub returns : goal.returns
returns t c = ordering_none (search rules) c.repr-u.ensures c.loop-j.invariant.0 c.in_default.not-Fact c.loop-j-test.false
