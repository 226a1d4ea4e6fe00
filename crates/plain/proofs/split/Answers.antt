use Rattle.std.proofs.Common.{refl}
use Rattle.writer.proofs.Writing.{writes_then}
use Rattle.plain.proofs.Staging.{lays}
use Rattle.plain.proofs.split.Goals as goal

pub returns-clause-lays : goal.returns-clause-lays
returns-clause-lays c qs rows =
    lays c.in_ok-b.ensures (writes_then (c.in_ok-at.ensures.is rows.kind rows.first rows.second qs rows.rows rows.are) refl c.in_ok-e.ensures)
