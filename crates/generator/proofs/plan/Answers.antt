-- The plans are the rule's last table.
use Rattle.std.proofs.Common.{List, ℕ, Bor, refl, sym, arith}
use Rattle.std.proofs.Math.ListN.{get_or-map}
use mathlib.Core.List.{flat_map}
use Rattle.format.specs.Bytes.{bytes₂}
use Rattle.format.specs.Writing.{as_statement, as_query}
use Rattle.testload.specs.Rule.{queries}
use Rattle.generator.specs.Promises.{cell_bytes, tables, content, blocks}
use Rattle.generator.proofs.Rows.{content_at}
use Rattle.generator.proofs.plan.Goals as goal

pub returns-clause-count : goal.returns-clause-count
unfolding blocks queries
returns-clause-count c = rw (← (get_or-map (λ (p : ℕ × Bor (List ℕ)). p.0))) refl

pub returns-clause-cells : goal.returns-clause-cells
unfolding cell_bytes flat_map content tables queries as_query as_statement bytes₂
returns-clause-cells c = λ i.
    rw (← (get_or-map (λ (p : ℕ × Bor (List ℕ)). flat_map (cell_bytes i) p.1.now))) (sym (content_at i 8 c.args.v (omega arith) c.requires))
