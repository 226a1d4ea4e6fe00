-- `input::write` meets its contract.
use Rattle.std.proofs.Common.{rules, subst}
use Rattle.std.specs.Io.KnownBytes.{Appends}
use Rattle.std.proofs.KnownBytes.{Appends-trans}
use Rattle.input.proofs.Gains.{take_more}
use Rattle.input.proofs.write.Goals as goal

pub loop-n-preserved : goal.loop-n-preserved
loop-n-preserved g c =
    let n = c.loop-n.n in
    let bytes = c.args.bytes.now in
    (search rules, subst (Appends _ _) (take_more bytes n c.in-Ok.more (search rules)) (Appends-trans _ _ _ _ _ c.loop-n.invariant.1 c.in-Ok.ensures.bytes))
