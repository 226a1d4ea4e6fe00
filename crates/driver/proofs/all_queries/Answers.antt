use borrow.Author.Rules.{rules}
use native.Mathlib.Omega.{arith}
use mathlib.Core.Path.{refl}
use Rattle.driver.proofs.Telling.{midway_start, midway_on, midway_out, spends_out, midway_ends, midway_spent}
use Rattle.driver.proofs.all_queries.Goals as goal

pub loop-turn-init : goal.loop-turn-init
loop-turn-init c = (refl, midway_start _ _ _ _ _ c.requires)

pub charge-charged-requires : goal.charge-charged-requires
charge-charged-requires c = omega (arith, c.next_ceiling-ceiling.ensures, c.one_query.ensures.is.few _ _ _ c.in-Some.is)

pub overflow_add-turn : goal.overflow_add-turn
overflow_add-turn c = search (rules, c.loop-turn.invariant.1.few, c.loop-turn.invariant.1.within, c.loop-turn.invariant.1.small)

pub loop-turn-smaller : goal.loop-turn-smaller
loop-turn-smaller c = let on = c.one_query.ensures.is.onward c.loop-turn-test.true _ _ _ c.in-Some.is in omega (arith, on.0, on.1)

pub loop-turn-preserved : goal.loop-turn-preserved
loop-turn-preserved c = (
  search rules,
  midway_on c.loop-turn.invariant.1 c.loop-turn-test.true c.next_ceiling-ceiling.ensures c.one_query.ensures.is
      (search rules) c.one_query.ensures.spent _ _ _ c.in-Some.is c.charge-charged.ensures,
)

pub returns-in_default-clause-is : goal.returns-in_default-clause-is
returns-in_default-clause-is c = midway_out c.loop-turn.invariant.1 c.loop-turn-test.true c.next_ceiling-ceiling.ensures c.one_query.ensures.is
    (search rules) c.in_default.is c.charge-last.ensures c.stop.ensures

pub returns-in_default-clause-spent : goal.returns-in_default-clause-spent
returns-in_default-clause-spent c = spends_out c.loop-turn.invariant.1 c.loop-turn-test.true c.next_ceiling-ceiling.ensures c.one_query.ensures.is
    (search rules) c.one_query.ensures.spent c.in_default.is

pub returns-clause-is : goal.returns-clause-is
returns-clause-is c = rw c.ok_or.ensures.value (midway_ends c.loop-turn.invariant.1 c.loop-turn-test.false)

pub returns-clause-spent : goal.returns-clause-spent
returns-clause-spent c = midway_spent c.loop-turn.invariant.1 c.loop-turn-test.false
