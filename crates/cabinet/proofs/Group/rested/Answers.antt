use Rattle.std.proofs.Common.{ap, rules}
use Rattle.cabinet.specs.declared.Desk.{Desk}
use Rattle.cabinet.proofs.Places.{places_map}
use Rattle.cabinet.proofs.Group.rested.Goals as goal

pub returns : goal.returns
returns c = ap (λ ds. record c.args.self { desks = ds })
    (places_map _ _ (λ (d : Desk). record d { used = 0 }) (λ d e p q k. search rules) c.args.self.desks c.map.result 16 c.map.ensures.items)
