use Rattle.std.proofs.Common.{◌≡◌, true, false, rules, tests}
use Rattle.std.proofs.lemmas.Iterator.{cases_from_all, YieldsList-from_slice}
use Rattle.reading.specs.Parts.{is_early}
use Rattle.reading.proofs.Walks.{all_early}
use Rattle.reading.proofs.parts.are_earlier.Goals as goal

pub returns : goal.returns
returns g c = all_early g.P.Part.kind c.args.names c.args.types c.args.parts.now c.all.result
    (cases_from_all _ _ _ (λ p. is_early g.P.Part.kind c.args.names c.args.types p ≡ true) (λ p. is_early g.P.Part.kind c.args.names c.args.types p ≡ false)
    c.all.ensures.ran (YieldsList-from_slice c.args.parts.now c.iter.ensures.rest) (λ y b k. search (rules, tests)) (λ y b k. search (rules, tests)))
