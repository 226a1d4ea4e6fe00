use Rattle.std.proofs.Common.{arith, rules, length-set}
use Rattle.std.proofs.lemmas.Grind.{common_steps}
use Rattle.ledger.proofs.Words.{desk_put, words_are}
use Rattle.ledger.proofs.put_group.Goals as goal

pub loop-i-preserved : goal.loop-i-preserved
loop-i-preserved c = let i = c.loop-i.invariant in record {
  long = simp length-set i.long;
  count = grind (arith, common_steps);
  pool = grind (arith, common_steps);
  desks = desk_put c.args.g c.loop-i.words c.loop-i.i i.long (search rules) i.desks;
}

pub returns : goal.returns
returns c = let i = c.loop-i.invariant in words_are c.args.g c.loop-i.words i.long i.count i.pool (search rules)
