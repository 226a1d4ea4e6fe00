-- `reading::take_limits` meets its contract: the two limits are in their words.
use Rattle.reading.proofs.AnyLine.{limits_takes}
use Rattle.reading.proofs.take_limits.Goals as goal

pub returns : goal.returns
returns c = record {
  is = λ e. limits_takes e c.args.s.now _ _ _ _ _ c.read_limits-limits.ensures.distance c.read_limits-limits.ensures.term
      (rw c.put.ensures at c.put-2.ensures);
}
