-- What the fields passed refer to is there, and their nodes are marked.
use Rattle.reading.proofs.Going.{FieldsGoing}
use Rattle.reading.proofs.nodes.name_fields.Given as goal

abbrev pub invariant-loop-field : goal.invariant-loop-field
invariant-loop-field l = FieldsGoing l.fields l.initial.w l.names l.nodes l.field-index l.w
