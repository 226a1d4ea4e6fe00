-- To write the queries from q on is to write them all.
use mathlib.Core.List.{flat_map}
use Rattle.format.specs.Frame.{wide}
use Rattle.format.specs.Content.{query_frames}
use Rattle.format.specs.Writing.{file_of}
use Rattle.testload.specs.Rule.{content_of}
use Rattle.writer.proofs.Writing.{Goes}
use Rattle.generator.proofs.Nodes.{queries_from}
use Rattle.generator.proofs.queries.Given as goal

abbrev pub invariant-loop-q : goal.invariant-loop-q
invariant-loop-q l = Goes l.fn.out l.fn.at (file_of wide (flat_map query_frames (content_of l.w).queries)) l.out l.at (queries_from l.w l.q-end l.q)
