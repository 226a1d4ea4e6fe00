-- Card 7's tally: "Each query's visits join the remainder; every full 1,000 becomes a unit, charged at that query's price
-- in cents".
use Rattle.std.specs.Prelude.{Result, IsErr, IfOk, IfErr, ◌↔◌, ◌≡◌, ℕ, ◌+◌, ◌*◌, ◌/◌, ◌%◌, ◌<◌}
use Rattle.tariff.specs.declared.Tally.{Tally}

-- "A tally starts at zero"
abbrev pub zero : Tally
zero = record { units = 0; cents = 0; remainder = 0 }

-- The thousands that a query's visits fill.
abbrev pub filled : Tally → ℕ → ℕ
filled t visits = (t.remainder + visits) / 1000

abbrev pub next : Tally → ℕ → ℕ → Tally
next t visits price = record {
  units = t.units + filled t visits;
  cents = t.cents + filled t visits * price;
  remainder = (t.remainder + visits) % 1000;
}

-- 15: "where a total would pass 32 bits or a remainder over 999 is handed in"
pub data Over (t : Tally) (visits price : ℕ) : Type 0 where
  remainder_over : 999 < t.remainder → Over t visits price
  units_over : 4294967295 < (next t visits price).units → Over t visits price
  cents_over : 4294967295 < (next t visits price).cents → Over t visits price

pub record Adds (t : Tally) (visits price : ℕ) (r : Result Tally Tally) : Type 0 where
  pub refused_exactly : IsErr r ↔ Over t visits price
  pub unchanged : IfErr r (λ u. u ≡ t)
  pub counted : IfOk r (λ u. u ≡ next t visits price)
