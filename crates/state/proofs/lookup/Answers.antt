use mathlib.Core.List.{map-id}
use Rattle.std.proofs.Common.{rules, ◌≡◌, ◌/◌}
use Rattle.std.proofs.lemmas.Iterator.{YieldsList-from_map, first_from_find}
use Rattle.work.specs.Layout.{ENV}
use Rattle.state.proofs.Searching.{newest, find_is}
use Rattle.state.proofs.lookup.Goals as goal

pub returns : goal.returns
returns c =
    rw c.word-n.ensures at (find_is c.args.w.now c.args.symbol _ (map-id _) c.find.result
    (first_from_find _ _ c.find.result (λ e. e / 262144 ≡ c.args.symbol) (λ e. ¬ (e / 262144 ≡ c.args.symbol)) c.find.ensures.ran
    (YieldsList-from_map _ (λ y. y) (rw (← c.map.ensures.source) at (newest ENV c.args.w.now _ c.rev.ensures.source)) c.map.ensures.closure
    (λ x r q k. search rules))
    (λ x q k. search rules) (λ x q k. search rules)))
