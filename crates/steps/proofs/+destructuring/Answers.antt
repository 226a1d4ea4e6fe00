use Rattle.std.proofs.Common.{inl, inr}
use mathlib.Core.Bool.{not}
use mathlib.Core.Path.{ap}
use borrow.Enum.Refused.{opened}
use native.Mathlib.Omega.{arith}
use Rattle.steps.proofs.Unvisited.{asks_variable, asks_wildcard, asks_record, asks_other, items_lower, asking_start, asking_next, asking_stops, asking_done}
use Rattle.steps.proofs.Unvisited.{field_falls}
use Rattle.steps.proofs.+destructuring.Goals as goal

pub all_destructurable-loop-i-init : goal.all_destructurable-loop-i-init
all_destructurable-loop-i-init t c = asking_start _ _ _

pub all_destructurable-destructurable-requires : goal.all_destructurable-destructurable-requires
all_destructurable-destructurable-requires t c = omega (arith, field_falls _ _ _ c.requires c.loop-i-test.true c.field_at-e.ensures)

pub all_destructurable-returns-then-not-destructurable : goal.all_destructurable-returns-then-not-destructurable
all_destructurable-returns-then-not-destructurable t c =
    asking_stops c.loop-i.invariant c.requires c.loop-i-test.true c.field_at-e.ensures c.destructurable.ensures (ap not c.if-not-destructurable.true)

pub all_destructurable-loop-i-preserved : goal.all_destructurable-loop-i-preserved
all_destructurable-loop-i-preserved t c =
    asking_next c.loop-i.invariant c.requires c.loop-i-test.true c.field_at-e.ensures c.destructurable.ensures (ap not c.if-not-destructurable.false)

pub all_destructurable-returns : goal.all_destructurable-returns
all_destructurable-returns t c = asking_done c.loop-i.invariant c.loop-i-test.false

pub destructurable-all_destructurable-requires : goal.destructurable-all_destructurable-requires
destructurable-all_destructurable-requires t c =
    let low = items_lower c.node_at.ensures _ c.in-Record.is in (omega (arith, low.below), λ h. omega (arith, low.some h, low.below))

pub destructurable-returns-in-Var : goal.destructurable-returns-in-Var
destructurable-returns-in-Var t c = elim c.in-Var.is [ inl v ↦ asks_variable c.node_at.ensures _ v.1 | inr w ↦ asks_wildcard c.node_at.ensures w ]

pub destructurable-returns-in-Record : goal.destructurable-returns-in-Record
destructurable-returns-in-Record t c = asks_record c.node_at.ensures _ c.in-Record.is c.all_destructurable.ensures

pub destructurable-returns-in_default : goal.destructurable-returns-in_default
destructurable-returns-in_default t c = asks_other c.node_at.ensures ((opened c.in_default.in_default-own.keys3))
