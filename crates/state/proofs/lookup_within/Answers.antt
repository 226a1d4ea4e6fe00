use Rattle.std.proofs.Common.{◌≡◌, ◌+◌, ◌-◌, refl, sym, ◌∙◌, arith}
use Rattle.state.proofs.Searching.{block_passes}
use Rattle.state.proofs.lookup_within.Goals as goal

pub loop-end-init : goal.loop-end-init
loop-end-init c = (omega arith, refl)

pub loop-end-preserved : goal.loop-end-preserved
loop-end-preserved c =
    let block : c.loop-end.end ≡ c.loop-end.end - 16 + 16 = omega (arith, c.loop-end-test.true) in (
      omega (arith, c.loop-end.invariant.0),
      (rw block at c.loop-end.invariant.1) ∙ block_passes c.args.w.now c.args.symbol (c.loop-end.end - 16) 16 (sym c.if-not-block_has_symbol.ensures),
    )

pub returns : goal.returns
returns c = c.lookup_back.ensures ∙ sym c.loop-end.invariant.1
