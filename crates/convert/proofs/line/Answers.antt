-- `convert::line` meets its contract: text after text, and LF.
use Rattle.convert.proofs.Joining.{text_full, text_then, close_then, line_joined}
use Rattle.convert.proofs.line.Goals as goal

pub returns-in_err-i : goal.returns-in_err-i
returns-in_err-i c = rw c.from_residual.ensures (line_joined c.args.a.now c.args.b.now c.args.c.now (text_full c.in_err-i.ensures _))

pub returns-in_err-j : goal.returns-in_err-j
returns-in_err-j c =
    rw c.from_residual-in_err-j.ensures (line_joined c.args.a.now c.args.b.now c.args.c.now (text_then c.in_ok-i.ensures (text_full c.in_err-j.ensures _)))

pub returns-in_err-k : goal.returns-in_err-k
returns-in_err-k c =
    rw c.from_residual-in_err-k.ensures (line_joined c.args.a.now c.args.b.now c.args.c.now
    (text_then c.in_ok-i.ensures (text_then c.in_ok-j.ensures (text_full c.in_err-k.ensures _))))

pub returns : goal.returns
returns c = line_joined c.args.a.now c.args.b.now c.args.c.now
    (text_then c.in_ok-i.ensures (text_then c.in_ok-j.ensures (text_then c.in_ok-k.ensures (close_then c.close.ensures))))
