use borrow.Author.Rules.{rules}
use Rattle.convert.proofs.Places.{named_by}
use Rattle.convert.proofs.names_from.Goals as goal

pub returns : goal.returns
returns c = named_by _ _ c.place.ensures _ _ (search rules)
