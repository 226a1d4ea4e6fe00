-- To write the nodes from i on and the query is to write the whole.
use Rattle.format.specs.Frame.{wide}
use Rattle.format.specs.Content.{query_frames}
use Rattle.format.specs.Writing.{file_of}
use Rattle.testload.specs.Rule.{query_of}
use Rattle.generator.proofs.Rows.{Left}
use Rattle.generator.proofs.Nodes.{query_from}
use Rattle.generator.proofs.query.Given as goal

abbrev pub invariant-loop-i : goal.invariant-loop-i
invariant-loop-i l = Left l.fn.out l.fn.at (file_of wide (query_frames (query_of l.w l.q))) l.out l.at (query_from l.w l.q l.i-end l.i)
