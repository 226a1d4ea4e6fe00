-- A run: 1,500 visits at 7 cents, then 600 at 9, which fill a thousand with the 500 that were left, then one that passes
-- 32 bits at its price.
use Rattle.std.proofs.Common.{[], ◌∷◌, rules}
use Rattle.tariff.specs.Sums.{TallyRun, start, counts, refuses, Sums}
use Rattle.tariff.proofs.Sums.{sums}

pub two_and_one : TallyRun (record { visits = 600; price = 9 } ∷ record { visits = 1500; price = 7 } ∷ []) (record { units = 2; cents = 16; remainder = 100 })
two_and_one =
    let one = counts {u = record { units = 1; cents = 7; remainder = 500 }} 1500 7 start (search rules) in
    let two = counts {u = record { units = 2; cents = 16; remainder = 100 }} 600 9 one (search rules) in
    refuses 4294967295 65535 two (search rules)

pub two_sums : Sums (record { visits = 600; price = 9 } ∷ record { visits = 1500; price = 7 } ∷ []) (record { units = 2; cents = 16; remainder = 100 })
two_sums = sums two_and_one
