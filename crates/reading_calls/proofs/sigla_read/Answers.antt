-- The answer is that of `read_or_clear`, told by its case.
use mathlib.Core.Path.{sym, ap, ◌∙◌}
use Rattle.reading_calls.specs.Numbers.{read_number}
use Rattle.reading_calls.proofs.sigla_read.Goals as goal

pub returns-in-Ok : goal.returns-in-Ok
returns-in-Ok c = record { answer = c.read_or_clear.result; reads = c.read_or_clear.ensures; number = sym (ap read_number c.in-Ok.is) }

pub returns-in-Err : goal.returns-in-Err
returns-in-Err c = record {
  answer = c.read_or_clear.result;
  reads = c.read_or_clear.ensures;
  number = c.refusal_number.ensures ∙ sym (ap read_number c.in-Err.is);
}
