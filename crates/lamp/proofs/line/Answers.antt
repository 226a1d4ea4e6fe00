-- The digits of each.
use Rattle.format.specs.Bytes.{hex_line, hex_digit}
use Rattle.lamp.specs.Promises.{lamp_line}
use Rattle.lamp.proofs.line.Goals as goal

pub returns-in-Ok-true : goal.returns-in-Ok-true
unfolding lamp_line hex_line hex_digit
returns-in-Ok-true c = rw (c.in-Ok-true.is, c.in-Ok-true.field-0-test)

pub returns-in-Ok-false : goal.returns-in-Ok-false
unfolding lamp_line hex_line hex_digit
returns-in-Ok-false c = rw (c.in-Ok-false.is, c.in-Ok-false.field-0-test)

pub returns-in-Err : goal.returns-in-Err
unfolding lamp_line
returns-in-Err c = rw c.in-Err.is c.refusal_line.ensures
