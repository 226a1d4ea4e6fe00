use mathlib.Core.Path.{subst}
use Rattle.growth.specs.Lines.{TellsBeside}
use Rattle.growth.proofs.Walking.{walking_none, walking_ended, walking_left, walking_same, walking_added, walking_other}
use Rattle.growth.proofs.only_added.Goals as goal

pub returns-in_default-decode : goal.returns-in_default-decode
returns-in_default-decode c = walking_none c.loop-m.invariant.2 (c.decode-in-Some.ensures.fails c.in_default-decode.is) c.in-Some.ensures.holds

pub returns-in-Other : goal.returns-in-Other
returns-in-Other c =
    walking_other c.loop-m.invariant.2 c.in-Some-decode.ensures.holds c.in-Some.ensures.holds (subst (TellsBeside _ _) c.in-Other.is c.line_beside.ensures)

pub loop-m-preserved-in-Same : goal.loop-m-preserved-in-Same
loop-m-preserved-in-Same c = (
  c.decode-in-Some.ensures.room,
  c.decode.ensures.room,
  walking_same c.loop-m.invariant.2 c.in-Some-decode.ensures.holds c.in-Some.ensures.holds (subst (TellsBeside _ _) c.in-Same.is c.line_beside.ensures),
)

pub loop-m-preserved : goal.loop-m-preserved
loop-m-preserved c = (
  c.decode-in-Some.ensures.room,
  c.decode.ensures.room,
  walking_added c.loop-m.invariant.2 c.in-Some-decode.ensures.holds c.in-Some.ensures.holds (subst (TellsBeside _ _) c.in-Added.is c.line_beside.ensures),
)

pub returns-then-old-i : goal.returns-then-old-i
returns-then-old-i c = walking_ended c.loop-m.invariant.2 (c.decode.ensures.fails c.in_default.is) c.if-old-i.true

pub returns-else-old-i : goal.returns-else-old-i
returns-else-old-i c = walking_left c.loop-m.invariant.2 (c.decode.ensures.fails c.in_default.is) c.if-old-i.false
