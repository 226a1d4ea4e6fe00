-- `driver::clear_after` meets its contract, by the bytes that the outcome keeps.
use Rattle.driver.proofs.Turning.{kept_is}
use Rattle.driver.proofs.clear_after.Goals as goal

pub returns : goal.returns
returns c = record { words = c.clear.ensures; bytes = rw (kept_is c.args.r, ← c.unwrap_or.ensures) c.clear_bytes.ensures }
