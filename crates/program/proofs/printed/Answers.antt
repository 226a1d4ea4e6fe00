-- `program::printed` meets its contract.
use mathlib.Core.List.{◌++◌}
use mathlib.Core.Path.{◌≡◌, sym, ap}
use lib.ListN.{length, drop, length-append}
use lib.Seq.{take-length}
use borrow.Author.Rules.{rules}
use native.Mathlib.Omega.{arith}
use Rattle.program.specs.Promises.{decided_by}
use Rattle.program.proofs.Printing.{answer_printed, line_printed}
use Rattle.program.proofs.printed.Goals as goal

pub returns-in-Ok : goal.returns-in-Ok
returns-in-Ok c = record {
  prints = answer_printed (decided_by c.args.job _) c.done-arg-1.given.0.1 c.done-arg-2-1.given.0.1 _
      (rw c.in-Ok.is at c.done.ensures);
  upper_bound = omega (arith, (c.done.ensures.ends _ c.in-Ok.is).0);
}

pub returns-in-Err-clause-prints : goal.returns-in-Err-clause-prints
returns-in-Err-clause-prints c =
    let five : length c.refusal_line-line.result ≡ 5 = search rules in
    line_printed (decided_by c.args.job _) c.done-arg-1.given.0.1 c.done-arg-2-1.given.0.1 _ c.refusal_line-line.ensures (rw c.in-Err.is at c.done.ensures)
    (search rules) (sym five)
    (rw (take-length c.refusal_line-line.result, five) (ap (λ l. l ++ drop 5 c.done.new.out) c.copy_from_slice.ensures.after))

pub returns-in-Err-clause-upper_bound : goal.returns-in-Err-clause-upper_bound
returns-in-Err-clause-upper_bound c =
    let five : length c.refusal_line-line.result ≡ 5 = search rules in
    let same : length c.copy_from_slice.new.self ≡ length c.refusal_line-line.result = ap length c.copy_from_slice.ensures.after in
    rw (length-append c.copy_from_slice.new.self (drop 5 c.done.new.out)) (omega (arith, five, same))
