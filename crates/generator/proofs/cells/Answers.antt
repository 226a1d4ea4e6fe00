-- The rows are the rule's tables but the last, by one computation over all of them.
use Rattle.std.proofs.Common.{List, [], ℕ, Bor, get_or-take}
use Rattle.std.proofs.Math.ListN.{get_or-map}
use mathlib.Core.List.{flat_map}
use Rattle.format.specs.Bytes.{bytes₂, bytes₄, ascii}
use Rattle.format.specs.Writing.{as_field, as_alternative, as_reference, as_shape, as_value_type, as_statement, as_query, as_expr}
use Rattle.testload.specs.Rule.{limits, names, base, simple, compound, predicates, leaves, pairs, singles, queries}
use Rattle.generator.specs.Promises.{cell_bytes, as_limits, as_predicate, tables, joined, content}
use Rattle.generator.proofs.cells.Goals as goal

pub returns : goal.returns
unfolding cell_bytes flat_map content joined tables limits names base simple compound predicates leaves pairs singles queries ascii as_limits as_predicate
    as_shape as_field as_alternative as_reference as_value_type as_statement as_query as_expr bytes₂ bytes₄
returns c = λ i. rw (← (get_or-map (λ (r : Bor (List ℕ)). flat_map (cell_bytes i) r.now))) (get_or-take 128 (joined (tables i)) c.args.n [] c.requires)
