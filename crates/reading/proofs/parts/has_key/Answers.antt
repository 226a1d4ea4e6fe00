use Rattle.std.proofs.Common.{◌≡◌, ◌≢◌, rules, tests}
use Rattle.std.proofs.lemmas.Iterator.{cases_from_any, YieldsList-from_slice}
use Rattle.reading.proofs.Walks.{any_among}
use Rattle.reading.proofs.parts.has_key.Goals as goal

pub returns : goal.returns
returns g c = any_among g.K.Keyed.key c.args.key c.args.parts.now c.any.result
    (cases_from_any _ _ _ (λ p. g.K.Keyed.key p ≡ c.args.key) (λ p. g.K.Keyed.key p ≢ c.args.key) c.any.ensures.ran
    (YieldsList-from_slice c.args.parts.now c.iter.ensures.rest)
    (λ y b k. search (rules, tests)) (λ y b k. search (rules, tests)))
