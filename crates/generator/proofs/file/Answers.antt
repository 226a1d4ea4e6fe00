-- The schema, then the queries.
use Rattle.std.proofs.Common.{sym, arith}
use Rattle.writer.proofs.Writing.{writes_then, writes_full, writes_as, writes_to}
use Rattle.generator.proofs.Nodes.{file_is}
use Rattle.generator.proofs.file.Goals as goal

pub queries-requires : goal.queries-requires
queries-requires c = omega (arith, (writes_to c.schema.ensures c.in_ok-at.was).1, c.schema.ensures.long)

pub returns-in_err-at : goal.returns-in_err-at
returns-in_err-at c = rw c.from_residual.ensures (writes_as (sym (file_is c.args.w.now)) (writes_full c.schema.ensures c.in_err-at.was _))

pub returns : goal.returns
returns c = writes_as (sym (file_is c.args.w.now)) (writes_then c.schema.ensures c.in_ok-at.was c.queries.ensures)
