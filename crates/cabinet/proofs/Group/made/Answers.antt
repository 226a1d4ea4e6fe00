use Rattle.std.proofs.Common.{rules, ap, get_or, ℕ, length}
use Rattle.cabinet.proofs.Places.{places_from_fn}
use Rattle.cabinet.proofs.Group.made.Goals as goal

pub returns : goal.returns
returns c = ap (λ ds. record { count = length c.args.shares.now; pool = c.args.pool; desks = ds })
    (places_from_fn _ _ (λ (i : ℕ). record { share = get_or c.args.shares.now i 0; cap = get_or c.args.caps.now i 0; used = 0 })
    (λ i d q k. search rules) _ _ c.from_fn.ensures.items)
