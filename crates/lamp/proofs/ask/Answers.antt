use native.Mathlib.Omega.{arith}
use Prim.Native.Nat.{◌-◌}
use Rattle.lamp.proofs.Asking.{went_through, stopped_short, ask_start, ask_next, ask_stopped, ask_end}
use Rattle.lamp.proofs.ask.Goals as goal

pub loop-at-init : goal.loop-at-init
loop-at-init c = (ask_start _ _ c.requires, λ h. omega arith)

pub returns-then-unwrap_or-clause-is : goal.returns-then-unwrap_or-clause-is
returns-then-unwrap_or-clause-is c = ask_stopped c.loop-at.invariant.0 c.loop-at-test.true c.load-next.ensures c.one_query-one.ensures.is
    (stopped_short _ c.unwrap_or.ensures c.if-unwrap_or.true)

pub loop-at-smaller : goal.loop-at-smaller
loop-at-smaller c = omega (arith, c.load-next.ensures.onward c.loop-at-test.true, c.load-next.ensures.within)

pub loop-at-preserved : goal.loop-at-preserved
loop-at-preserved c = (
  ask_next c.loop-at.invariant.0 c.loop-at-test.true c.load-next.ensures c.one_query-one.ensures.is
      (went_through _ c.unwrap_or.ensures c.if-unwrap_or.false) c.one_query-one.ensures.is.words,
  λ h. omega (arith, c.loop-at.invariant.1 h, c.one_query-one.ensures.spent (omega (arith, h, c.loop-at.invariant.0.words, c.load-next.ensures.words.long, c.one_query-one.ensures.is.words))),
)

pub returns-clause-is : goal.returns-clause-is
returns-clause-is c = ask_end c.loop-at.invariant.0 c.loop-at-test.false

pub returns-then-unwrap_or-clause-spent : goal.returns-then-unwrap_or-clause-spent
returns-then-unwrap_or-clause-spent c = λ h. omega (
  arith,
  c.loop-at.invariant.1 h,
  c.one_query-one.ensures.spent (omega (arith, h, c.loop-at.invariant.0.words, c.load-next.ensures.words.long, c.one_query-one.ensures.is.words)),
)
