-- A record's field is the part found by its name; no other type has fields.
use borrow.Enum.Refused.{opened}
use Rattle.steps.proofs.Looking.{field_found, field_none, field_other}
use Rattle.steps.proofs.field_of.Goals as goal

pub returns-in_default : goal.returns-in_default
returns-in_default c = field_other ((opened c.in_default.in_default-own.keys2))

pub returns-in_ok-p-in-Record : goal.returns-in_ok-p-in-Record
returns-in_ok-p-in-Record c = field_found c.find_key.ensures c.in-Record.is _ c.in_ok-p-in-Record.was

pub returns-in_err-p-in-Record : goal.returns-in_err-p-in-Record
returns-in_err-p-in-Record c = rw c.from_residual.ensures (field_none c.find_key.ensures c.in-Record.is c.in_err-p-in-Record.was)
