use Rattle.std.proofs.lemmas.Result.{err_from_is_err_and}
use Rattle.growth.proofs.Telling.{refused_or, accepted_or, tells_1, tells_2, tells_3, tells_4, tells_0}
use Rattle.growth.proofs.compare.Goals as goal

pub returns-in_err-or : goal.returns-in_err-or
returns-in_err-or c =
    let p = err_from_is_err_and c.from_residual.result c.from_residual.ensures.1 in
    let e = refused_or _ _ _ c.in_err-or.ensures in
    rw (p.1, p.2, e.0) (tells_1 c.read_file.ensures e.2)

pub returns-in_err-or-2 : goal.returns-in_err-or-2
returns-in_err-or-2 c =
    let p = err_from_is_err_and c.from_residual-in_err-or-2.result c.from_residual-in_err-or-2.ensures.1 in
    let e = refused_or _ _ _ c.in_err-or-2.ensures in
    rw (p.1, p.2, e.0) (tells_2 c.read_file.ensures (accepted_or _ _ c.in_ok-or.ensures) c.read_file-2.ensures e.2)

pub returns-then-not-only_added : goal.returns-then-not-only_added
returns-then-not-only_added c = tells_3 c.read_file.ensures (accepted_or _ _ c.in_ok-or.ensures) c.read_file-2.ensures (accepted_or _ _ c.in_ok-or-2.ensures)
    c.only_added.ensures c.if-not-only_added.true

pub returns-then-some_from : goal.returns-then-some_from
returns-then-some_from c = tells_4 c.read_file.ensures (accepted_or _ _ c.in_ok-or.ensures) c.read_file-2.ensures (accepted_or _ _ c.in_ok-or-2.ensures)
    c.only_added.ensures c.if-not-only_added.false c.word-predicates.ensures c.some_from.ensures c.if-some_from.true

pub returns : goal.returns
returns c = tells_0 c.read_file.ensures (accepted_or _ _ c.in_ok-or.ensures) c.read_file-2.ensures (accepted_or _ _ c.in_ok-or-2.ensures)
    c.only_added.ensures c.if-not-only_added.false c.word-predicates.ensures c.some_from.ensures c.if-some_from.false
