use Rattle.std.proofs.Common.{◌≡◌, refl, arith}
use Rattle.meaning.specs.Check.{is_in}
use Rattle.state.specs.Words.{symbols_of}
use Rattle.state.proofs.Searching.{symbols_more}
use Rattle.state.proofs.block_has_symbol.Goals as goal

pub loop-i-init : goal.loop-i-init
unfolding is_in symbols_of
loop-i-init c = refl

pub loop-i-preserved : goal.loop-i-preserved
loop-i-preserved c =
    rw (c.symbol_of.ensures, c.wide.ensures.0, c.wide-in-loop-i.ensures.0)
    (symbols_more c.args.w.now c.args.symbol c.args.from c.loop-i.i c.loop-i.invariant)

pub returns : goal.returns
returns c = let all : c.loop-i.i ≡ 16 = omega (arith, c.loop-i.auto.i-end, c.loop-i-test.false) in rw all at c.loop-i.invariant
