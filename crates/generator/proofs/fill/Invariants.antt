use Rattle.std.proofs.Common.{◌≡◌, take}
use Rattle.testload.specs.Words.{words}
use Rattle.generator.proofs.fill.Given as goal

abbrev pub invariant-loop-i : goal.invariant-loop-i
invariant-loop-i l = take l.i l.w ≡ words l.seed l.i
