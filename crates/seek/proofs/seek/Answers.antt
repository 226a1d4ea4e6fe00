-- The reading, and then the queries of what was read.
use Rattle.std.proofs.Common.{refl}
use Rattle.seek.proofs.Running.{passed_on}
use Rattle.seek.proofs.Reading.{not_read, was_read, not_read_spends, was_read_spends}
use Rattle.seek.proofs.seek.Goals as goal

pub returns-in_err-read_file-clause-is : goal.returns-in_err-read_file-clause-is
returns-in_err-read_file-clause-is c = rw (passed_on _ c.from_residual.ensures.1) (not_read c.in_err-read_file.ensures _ refl)

pub returns-in_err-read_file-clause-spent : goal.returns-in_err-read_file-clause-spent
returns-in_err-read_file-clause-spent c = not_read_spends c.in_err-read_file.ensures _ refl _

pub returns-clause-is : goal.returns-clause-is
returns-clause-is c = was_read c.in_ok-read_file.ensures refl c.find.ensures.is

pub returns-clause-spent : goal.returns-clause-spent
returns-clause-spent c = was_read_spends c.in_ok-read_file.ensures refl c.find.ensures.spent
