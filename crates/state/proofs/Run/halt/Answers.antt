use Rattle.state.proofs.Lining.{halts, halts_not}
use Rattle.state.proofs.Run.halt.Goals as goal

pub returns-in-FirstDiagnostic-clause-is : goal.returns-in-FirstDiagnostic-clause-is
returns-in-FirstDiagnostic-clause-is c = rw (c.put.ensures, c.left.ensures) (halts (rw c.view.ensures at c.until_in.ensures) c.in-FirstDiagnostic.is)

pub returns-clause-is : goal.returns-clause-is
returns-clause-is c = halts_not (rw c.view.ensures at c.until_in.ensures) c.in_default.not-FirstDiagnostic
