-- The group that would be is valid exactly where the shares and caps are allowed.
use Rattle.std.proofs.Common.{rules}
use Rattle.cabinet.proofs.Groups.{set_up_valid, set_up_allowed}
use Rattle.cabinet.proofs.Group.set_up.Goals as goal

pub returns-then-is_valid : goal.returns-then-is_valid
returns-then-is_valid c = let a = set_up_allowed c.args.pool c.args.shares.now c.args.caps.now in search (rules, a)

pub returns-else-is_valid : goal.returns-else-is_valid
returns-else-is_valid c = let v = set_up_valid c.args.pool c.args.shares.now c.args.caps.now in search (rules, v)
