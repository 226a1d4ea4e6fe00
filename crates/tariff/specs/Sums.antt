-- What a tally is worth after any run of queries from zero, by their visits and prices alone.
use Rattle.std.specs.Prelude.{Ok, Err, List, [], ◌∷◌, ◌≡◌, ℕ, ◌+◌, ◌*◌, ◌/◌, ◌-◌, ◌≤◌}
use Rattle.tariff.specs.declared.Tally.{Tally}
use Rattle.tariff.specs.Tariff.{zero, Adds}

pub record PricedQuery : Type 0 where
  pub visits : ℕ
  pub price : ℕ

-- The queries that a run of calls counted, the last first, and the tally after it. One that is refused is not among them,
-- and the run goes on with the tally that came back.
pub data TallyRun : List PricedQuery → Tally → Type 0 where
  start : TallyRun [] zero
  counts : {qs : List PricedQuery} {t u : Tally} (visits price : ℕ) → TallyRun qs t → Adds t visits price (Ok u)
      → TallyRun (record { visits = visits; price = price } ∷ qs) u
  refuses : {qs : List PricedQuery} {t u : Tally} (visits price : ℕ) → TallyRun qs t → Adds t visits price (Err u) → TallyRun qs u

unfoldable pub all_visits : List PricedQuery → ℕ
all_visits [] = 0
all_visits (q ∷ qs) = all_visits qs + q.visits

-- The thousands that all visits fill with this query's and did not fill before it, at this query's price.
unfoldable pub all_cents : List PricedQuery → ℕ
unfolding all_visits
all_cents [] = 0
all_cents (q ∷ qs) = all_cents qs + (all_visits (q ∷ qs) / 1000 - all_visits qs / 1000) * q.price

pub record Sums (qs : List PricedQuery) (t : Tally) : Type 0 where
  pub visits : 1000 * t.units + t.remainder ≡ all_visits qs
  pub below : t.remainder ≤ 999
  pub cents : t.cents ≡ all_cents qs
