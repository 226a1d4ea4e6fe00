use Rattle.std.proofs.Common.{◌≡◌, refl, arith}
use Rattle.work.specs.Layout.{MARKS}
use Rattle.meaning.specs.Check.{is_in}
use Rattle.state.specs.Words.{numbers_of}
use Rattle.state.proofs.Searching.{any_more}
use Rattle.state.proofs.is_marked_within.Goals as goal

pub loop-i-init : goal.loop-i-init
unfolding is_in numbers_of
loop-i-init c = refl

pub loop-i-preserved : goal.loop-i-preserved
loop-i-preserved c = rw c.wide.ensures.0 (any_more MARKS c.args.w.now c.args.var c.loop-i.i c.loop-i.invariant)

pub returns : goal.returns
returns c = let all : c.loop-i.i ≡ c.args.n = omega (arith, c.loop-i.auto.i-end, c.loop-i-test.false) in rw all at c.loop-i.invariant
