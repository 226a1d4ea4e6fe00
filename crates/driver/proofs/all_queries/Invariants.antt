-- `driver::all_queries` meets its contract, query by query (Telling.antt). The measure is what is left of the file.
use Prim.Native.Nat.{◌-◌}
use mathlib.Core.Path.{◌≡◌}
use lib.ListN.{length}
use Rattle.driver.proofs.Telling.{Midway}
use Rattle.driver.proofs.all_queries.Given as goal

abbrev pub invariant-loop-turn : goal.invariant-loop-turn
invariant-loop-turn l =
    (length l.out ≡ length l.initial.out) × Midway l.file l.initial.charged l.initial.work l.initial.out l.work l.out l.turn.at l.turn.k l.turn.page l.charged
    l.initial.purse l.purse

abbrev pub decreases-loop-turn : goal.decreases-loop-turn
decreases-loop-turn l = length l.file - l.turn.at
