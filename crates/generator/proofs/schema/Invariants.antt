-- To write the lines from l on is to write the schema.
use Rattle.format.specs.Frame.{wide}
use Rattle.format.specs.Content.{schema_frames}
use Rattle.format.specs.Writing.{file_of}
use Rattle.testload.specs.Rule.{content_of}
use Rattle.writer.proofs.Writing.{Goes}
use Rattle.generator.proofs.Lines.{schema_from}
use Rattle.generator.proofs.schema.Given as goal

abbrev pub invariant-loop-l : goal.invariant-loop-l
invariant-loop-l l = Goes l.initial.out 0 (file_of wide (schema_frames (content_of l.w))) l.out l.at (schema_from l.w l.l)
