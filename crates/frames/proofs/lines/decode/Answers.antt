use Rattle.std.proofs.Common.{arith, ◌≡◌, sym, ◌∙◌, ◌+◌, ◌*◌, ◌≤◌, inr}
use Rattle.frames.proofs.Decoding.{from_start, one_on, some_on, whole, good, not_closed, no_more}
use Rattle.frames.proofs.lines.decode.Goals as goal
use Rattle.frames.proofs.lines.decode.Goals.{then-loop-n-test+then-pairs-lt8, else-loop-n-test, else-loop-n-2-test, then-loop-n-2-test+in_default}

pub loop-n-init : goal.loop-n-init
loop-n-init c = (from_start _ _ _ c.told-line, omega arith)

pub loop-n-preserved : goal.loop-n-preserved
loop-n-preserved c =
    let fits : c.loop-n.n + 8 ≤ 512 = omega (arith, c.loop-n-test.true, c.min-most.ensures) in
    let next : c.args.at + 2 * c.loop-n.n + 16 ≡ c.args.at + 2 * (c.loop-n.n + 8) = omega arith in
    let on = some_on c.loop-n.invariant.0 c.eight-pairs.new.bytes 8 (omega arith) fits c.eight-pairs.auto.bytes
    (λ k h. c.eight-pairs.ensures.are k (omega (arith, h, c.if-pairs-lt8.false))) in
    (rw next at on, c.loop-n-test.true)

pub loop-n-2-init : goal.loop-n-2-init
loop-n-2-init c = elim c.loop-n-test.branch [
  | else-loop-n-test w ↦ rw (w.line-is, w.n-is) c.loop-n.invariant
  | then-loop-n-test+then-pairs-lt8 w ↦
      let n = c.loop-n.n in
      let m = w.eight-pairs.result in
      let fits : n + 8 ≤ 512 = omega (arith, w.loop-n-test.true, c.min-most.ensures) in
      let on = some_on c.loop-n.invariant.0 w.eight-pairs.new.bytes m w.eight-pairs.ensures.most fits w.eight-pairs.auto.bytes w.eight-pairs.ensures.are in
      let next : c.args.at + 2 * n + 2 * m ≡ c.args.at + 2 * (n + m) = omega arith in
      rw (w.line-is, w.n-is) (rw next at on, omega (arith, w.loop-n-test.true, w.eight-pairs.ensures.most))
]

pub loop-n-2-preserved : goal.loop-n-2-preserved
loop-n-2-preserved c =
    let next : c.args.at + 2 * c.loop-n-2.n + 2 ≡ c.args.at + 2 * (c.loop-n-2.n + 1) = omega arith in (
      rw next at (one_on c.loop-n-2.invariant.0 _ (omega (arith, c.loop-n-2-test.true, c.min-most.ensures)) (sym c.pair.ensures ∙ c.in-Some.is)),
      omega (arith, c.loop-n-2-test.true),
    )

pub overflow_mul-end : goal.overflow_mul-end
overflow_mul-end c = omega (arith, c.loop-n-2.invariant.1, c.min-most.ensures)

pub overflow_add-end : goal.overflow_add-end
overflow_add-end c = omega (arith, c.loop-n-2.invariant.1, c.min-most.ensures, c.saturating_sub.ensures, c.ranges.at.fits)

pub returns-then-is_closed : goal.returns-then-is_closed
returns-then-is_closed c =
    let e = c.is_closed.ensures.0 c.if-is_closed.true in
    good c.loop-n-2.invariant.0 (whole c.loop-n-2.invariant.0 (omega (arith, e.1)) e.1 e.2 (omega (arith, e.0)))

pub returns-else-is_closed : goal.returns-else-is_closed
returns-else-is_closed c = not_closed c.loop-n-2.invariant.0 (elim c.loop-n-2-test.branch [
  | else-loop-n-2-test w ↦
      no_more c.args.file.now c.args.at c.loop-n-2.n c.min-most.result (omega (arith, c.min-most.ensures, c.saturating_sub.ensures)) w.loop-n-2-test.false
  | then-loop-n-2-test+in_default w ↦ inr (sym w.pair.ensures ∙ w.in_default.is)
]) (λ some here e. let q = c.is_closed.ensures.1 (some, here, e) in cc)
