-- Every group that calls lead to is valid, and so assures each desk what the card says.
use Rattle.std.proofs.Common.{Ok, Err, refl}
use Rattle.cabinet.specs.declared.Group.{Group}
use Rattle.cabinet.specs.Cabinet.{Valid}
use Rattle.cabinet.specs.Days.{LedToGroup, set_up_lem, query, new_day, Assured}
use Rattle.cabinet.proofs.Groups as Groups

pub always : {g : Group} → LedToGroup g → Valid g
always (set_up_lem pool shares caps s) = rw s.made (Groups.set_up_valid pool shares caps (s.exactly.0 refl))
always (query {g} l d visits at k) = Groups.charged_valid g d visits (always l) at k
always (new_day {g} l (Ok h) s) = rw s.rests (Groups.rested_valid g (always l))
always (new_day {g} l (Err h) s) = rw s.unchanged (always l)

pub assured : {g : Group} → LedToGroup g → Assured g
assured {g} l = let v = always l in record { valid = v; uses = v.uses; shares = λ d at. Groups.assured g v d at }
