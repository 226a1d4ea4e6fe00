-- The digits of each.
use Rattle.format.specs.Bytes.{hex_line, hex_digit}
use Rattle.inspect.specs.Promises.{line_of}
use Rattle.inspect.proofs.line.Goals as goal

pub returns-in-Success : goal.returns-in-Success
unfolding line_of hex_line hex_digit
returns-in-Success c = rw c.in-Success.is

pub returns-in-Failure : goal.returns-in-Failure
unfolding line_of hex_line hex_digit
returns-in-Failure c = rw c.in-Failure.is

pub returns-in-ShutOut : goal.returns-in-ShutOut
unfolding line_of hex_line hex_digit
returns-in-ShutOut c = rw c.in-ShutOut.is

pub returns-in-Fewer : goal.returns-in-Fewer
unfolding line_of hex_line hex_digit
returns-in-Fewer c = rw c.in-Fewer.is

pub returns-in-Refused : goal.returns-in-Refused
unfolding line_of
returns-in-Refused c = rw c.in-Refused.is c.refusal_line.ensures

pub returns-in-TooFewWords : goal.returns-in-TooFewWords
unfolding line_of hex_line hex_digit
returns-in-TooFewWords c = rw c.in-TooFewWords.is
