use Rattle.std.proofs.Common.{rules, ◌≡◌}
use Rattle.std.proofs.lemmas.Iterator.{cases_from_any}
use Rattle.work.specs.Layout.{MARKS}
use Rattle.state.proofs.Searching.{newest, any_is}
use Rattle.state.proofs.is_marked.Goals as goal

pub returns : goal.returns
returns c =
    rw c.word-n.ensures at (any_is c.args.var _ c.any.result
    (cases_from_any _ _ c.any.result (λ y. y ≡ c.args.var) (λ y. ¬ (y ≡ c.args.var)) c.any.ensures.ran (newest MARKS c.args.w.now _ c.rev.ensures.source)
    (λ x q k. search rules) (λ x q k. search rules)))
