use Rattle.std.proofs.Common.{◌++◌, ◌≡◌, reverse, length, take, drop, length-append, length-take-le, arith, ap, ◌∙◌}
use Rattle.std.proofs.lemmas.List.{length-reverse}
use Rattle.answer.proofs.Exchanging.{back, middle, behind}
use Rattle.answer.proofs.exchange.Goals as goal

pub returns : goal.returns
returns c =
    let mid = c.args.mid in
    let x = take mid c.args.out.now in
    let y = drop mid c.args.out.now in
    let first = c.reverse.new.self in
    let long : length first ≡ mid = ap length c.reverse.ensures.after ∙ length-reverse x ∙ length-take-le mid c.args.out.now c.requires in
    let second = middle (first ++ y) c.reverse-2.new.self mid (length (first ++ y)) (omega (arith, length-append first y, long)) c.reverse-2.ensures.after in
    c.reverse-3.ensures.after ∙ ap reverse (second ∙ behind first y mid long ∙ ap (λ l. l ++ reverse y) c.reverse.ensures.after) ∙ back x y
