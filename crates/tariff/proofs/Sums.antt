-- Over any run from zero, what the tally says is what the visits and prices add up to.
use Rattle.std.proofs.Common.{List, ◌∷◌, ◌≡◌, refl, ℕ, ◌+◌, ◌/◌, ◌-◌, arith}
use Rattle.tariff.specs.declared.Tally.{Tally}
use Rattle.tariff.specs.Tariff.{filled, next}
use Rattle.tariff.specs.Sums.{PricedQuery, TallyRun, start, counts, refuses, all_visits, all_cents, Sums}

module _ (qs : List PricedQuery) (t : Tally) (visits price : ℕ) (s : Sums qs t) where
  -- The remainder's thousands are those that all visits fill now and did not fill before.
  crossed : filled t visits ≡ (all_visits qs + visits) / 1000 - all_visits qs / 1000
  crossed = omega (arith, s.visits, s.below)

  counted : Sums (record { visits = visits; price = price } ∷ qs) (next t visits price)
  unfolding all_visits all_cents
  counted = record { visits = omega (arith, s.visits, s.below); below = omega arith; cents = cc (s.cents, crossed) }

pub sums : {qs : List PricedQuery} {t : Tally} → TallyRun qs t → Sums qs t
unfolding all_visits all_cents
sums start = record { visits = refl; below = omega arith; cents = refl }
sums (counts {qs} {t} visits price run a) = rw a.counted (counted qs t visits price (sums run))
sums (refuses visits price run a) = rw a.unchanged (sums run)
