use Rattle.std.proofs.Common.{ap, get_or, rules}
use Rattle.cabinet.proofs.Places.{places_from_fn}
use Rattle.ledger.specs.Words.{desk_at}
use Rattle.ledger.proofs.group.Goals as goal

pub returns : goal.returns
returns c = ap (λ ds. record { count = get_or c.args.words.now 0 0; pool = get_or c.args.words.now 1 0; desks = ds })
    (places_from_fn _ _ (desk_at c.args.words.now) (λ i d q k. search rules) _ _ c.from_fn.ensures.items)
