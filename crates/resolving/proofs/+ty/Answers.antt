use Rattle.resolving.proofs.Typing.{typing_start, typing_next, typing_full, typing_done, typing_stops, typing_ends}
use Rattle.resolving.proofs.+ty.Goals as goal

pub returns-in_err-at : goal.returns-in_err-at
returns-in_err-at g t c = rw c.from_residual.ensures (typing_full g.S.Script.script c.repr-u.result c.repr-u.ensures c.head.ensures c.in_err-at.was)

pub loop-j-init : goal.loop-j-init
loop-j-init g t c =
    typing_start g.S.Script.script c.args.w.now c.head.new.out c.in_ok-at.at c.repr-u.result c.part_count-j-end.result c.part_count-j-end.ensures

pub returns-in_err-from : goal.returns-in_err-from
returns-in_err-from g t c = rw c.from_residual-in_err-from.ensures (typing_stops g.S.Script.script c.in_ok-at.was c.part_of-p.result
    c.loop-j-test.true c.repr-u.result c.repr-u.ensures c.head.ensures c.loop-j.invariant c.part_of-p.ensures c.part_head.ensures c.in_err-from.was)

pub returns-in_err-at-2 : goal.returns-in_err-at-2
returns-in_err-at-2 g t c = rw c.from_residual-in_err-at-2.ensures (typing_ends g.S.Script.script c.in_ok-at.was c.part_of-p.result
    c.loop-j-test.true c.repr-u.result c.repr-u.ensures c.head.ensures c.loop-j.invariant c.part_of-p.ensures c.part_head.ensures
    c.in_ok-from.was c.ty.ensures c.in_err-at-2.was)

pub loop-j-preserved : goal.loop-j-preserved
loop-j-preserved g t c = typing_next g.S.Script.script c.part_of-p.result c.loop-j-test.true c.in_ok-from.was c.ty.ensures c.repr-u.result
    c.loop-j.invariant c.part_of-p.ensures c.part_head.ensures c.in_ok-at-2.was

pub returns : goal.returns
returns g t c = typing_done g.S.Script.script c.in_ok-at.was c.repr-u.result c.repr-u.ensures c.head.ensures c.loop-j.invariant c.loop-j-test.false
