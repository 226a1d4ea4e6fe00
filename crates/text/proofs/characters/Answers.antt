use Rattle.std.proofs.Common.{◌<◌, ◌∙◌, length, length-drop, sym, arith}
use Rattle.std.proofs.lemmas.List.{take_rest}
use Rattle.std.proofs.lemmas.Bool.{eqb-true, eqb-false}
use Rattle.text.proofs.Walk.{bytes, plus_zero, on, left, stop, done, positive}
use Rattle.text.proofs.characters.Goals as goal

pub loop-rest-init : goal.loop-rest-init
loop-rest-init c = record { room = omega arith; bytes = bytes c.args.s.now (λ k. (c.type_inv.s k).fits); counted = plus_zero _ }

pub returns-in_err-n : goal.returns-in_err-n
returns-in_err-n c =
    let some : 0 < length c.loop-rest.rest.now = omega (arith, eqb-false _ _ (sym c.loop-rest-test.ensures)) in
    rw (c.from_residual.ensures, c.loop-rest.invariant.counted, stop c.loop-rest.rest.now some c.in_err-n.ensures)

pub loop-rest-preserved : goal.loop-rest-preserved
loop-rest-preserved c =
    let rest = c.loop-rest.rest.now in
    let n = c.in_ok-n.n in
    let w = c.in_ok-n.ensures in
    rw (take_rest rest n)
    (record {
      room = omega (arith, length-drop n rest, positive w);
      bytes = left rest n c.loop-rest.invariant.bytes;
      counted = c.loop-rest.invariant.counted ∙ on rest c.loop-rest.count n c.loop-rest.invariant.bytes w;
    })

pub returns : goal.returns
returns c = rw (c.loop-rest.invariant.counted, done c.loop-rest.rest.now c.loop-rest.count (eqb-true _ _ (sym c.loop-rest-test.ensures)))
