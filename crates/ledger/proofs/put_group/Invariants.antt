-- The first two words stand, and those of the desks below i.
use Rattle.std.proofs.Common.{◌≡◌, ℕ, ◌<◌, length, get_or}
use Rattle.cabinet.specs.Cabinet.{desk}
use Rattle.ledger.specs.Words.{desk_at}
use Rattle.ledger.proofs.put_group.Given as goal

abbrev pub invariant-loop-i : goal.invariant-loop-i
invariant-loop-i l = record {
  long : length l.words ≡ 50;
  count : get_or l.words 0 0 ≡ l.fn.g.count;
  pool : get_or l.words 1 0 ≡ l.fn.g.pool;
  desks : (k : ℕ) → k < l.i → desk_at l.words k ≡ desk l.fn.g k;
}
