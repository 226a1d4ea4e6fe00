use Rattle.std.proofs.Common.{refl}
use Rattle.writer.proofs.Writing.{writes_then}
use Rattle.plain.proofs.Staging.{lays}
use Rattle.plain.proofs.bind.Goals as goal

pub returns-clause-lays : goal.returns-clause-lays
returns-clause-lays c = lays (writes_then (writes_then c.in_ok-at.ensures refl c.in_ok-at-2.ensures) refl c.in_ok-b.ensures) c.in_ok-e.ensures
