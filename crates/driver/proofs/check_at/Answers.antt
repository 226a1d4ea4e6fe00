-- `driver::check_at` meets its contract: what `run` left at the desk, cleared; or nothing ran.
use borrow.Author.Rules.{rules}
use Rattle.std.proofs.Common.{refl}
use Rattle.driver.proofs.Deciding.{checks_at, checks_none}
use Rattle.driver.proofs.Spending.{spent_at}
use Rattle.driver.proofs.check_at.Goals as goal

pub returns-in-Some-clause-is : goal.returns-in-Some-clause-is
returns-in-Some-clause-is c = checks_at (c.in-Some.ensures.at.0 refl) (rw c.in-Some.ensures.seat at c.run-s.ensures.is) c.clear_after.ensures (cc c.group.ensures)

pub returns-in-Some-clause-spent : goal.returns-in-Some-clause-spent
returns-in-Some-clause-spent c =
    let at = c.in-Some.ensures.at.0 refl in
    spent_at (rw c.in-Some.ensures.seat at c.run-s.ensures.is) (rw c.in-Some.ensures.seat at c.run-s.ensures.spent) at
    (search (rules, at.0.rules.few, at.1)) c.group.ensures

pub returns-clause-is : goal.returns-clause-is
returns-clause-is c = checks_none (λ a. let t = c.in_default.ensures.at.1 a in cc) c.clear_after-2.ensures refl
