-- A turn reads one half and writes into the other; what it tells says which lemma goes on.
use Rattle.std.proofs.Common.{◌≡◌, length, ap, ◌∙◌, arith}
use Rattle.std.specs.Prelude.{Ok}
use Rattle.plain.proofs.Staging.{passed_on, too_few}
use Rattle.plain.proofs.Running.{Turning, turning_up, turning_low, run_start, halves_end, halves_copied, halves_done}
use Rattle.plain.proofs.Running.{halves_drop, halves_drop_out, halves_bind, halves_bind_out, halves_split, halves_split_out}
use Rattle.plain.proofs.turns.Goals as goal
use Rattle.plain.proofs.turns.Goals.{Joined-up, then-up, else-up}

-- What one turn did, whichever half it read.
turning : (c : Joined-up) → Turning c.loop-up.up c.loop-up.low c.loop-up.high c.loop-up.b c.loop-up.p c.loop-up.e c.if-up.low c.if-up.high c.if-up.turn
turning c = elim c.if-up.branch [
  | then-up w ↦ turning_up w.if-up.true _ _ _ _ _ _ _ _ w.high-is (rw (w.low-is, w.turn-is) w.take_turn-turn.ensures)
  | else-up w ↦ turning_low w.if-up.false _ _ _ _ _ _ _ _ w.low-is (rw (w.high-is, w.turn-is) w.take_turn-turn-else-up.ensures)
]

long : (c : Joined-up) → (length c.if-up.low ≡ length c.args.high.now) × (length c.if-up.high ≡ length c.args.high.now)
long c = (omega (arith, c.if-up.auto.low, c.loop-up.auto.low, c.requires), omega (arith, c.if-up.auto.high, c.loop-up.auto.high))

pub loop-up-init : goal.loop-up-init
loop-up-init c = run_start _ _ _ _ c.requires

pub returns-in_err-turn : goal.returns-in_err-turn
returns-in_err-turn c =
    let d = (goal.at.returns-in_err-turn c).Joined-up in
    rw (passed_on _ c.from_residual.ensures.1) (halves_end c.loop-up.invariant (turning d) (long d) c.in_err-turn.was)

pub returns-then-up-2 : goal.returns-then-up-2
returns-then-up-2 c =
    let d = (goal.at.returns-then-up-2 c).Joined-up in
    halves_copied c.loop-up.invariant (turning d) (long d) (c.in_ok-turn.was ∙ ap Ok c.in-Last.is) c.if-up-2.true c.lower.ensures c.lower.auto.low

pub returns-else-up-2 : goal.returns-else-up-2
returns-else-up-2 c =
    let d = (goal.at.returns-else-up-2 c).Joined-up in
    halves_done c.loop-up.invariant (turning d) (long d) (c.in_ok-turn.was ∙ ap Ok c.in-Last.is) c.if-up-2.false

pub returns-in_err-words-in-Dropped : goal.returns-in_err-words-in-Dropped
returns-in_err-words-in-Dropped c =
    let d = (goal.at.returns-in_err-words-in-Dropped c).Joined-up in
    let e = c.in_err-words-in-Dropped.ensures in
    rw (too_few _ _ c.from_residual-in_err-words-in-Dropped.ensures.1 e.ok_part e.value)
    (halves_drop_out c.loop-up.invariant (turning d) (long d) (c.in_ok-turn.was ∙ ap Ok c.in-Dropped.is) (rw e.ok_part at c.checked_sub.ensures))

pub loop-up-preserved-in-Dropped : goal.loop-up-preserved-in-Dropped
loop-up-preserved-in-Dropped c =
    let d = (goal.at.loop-up-preserved-in-Dropped c).Joined-up in
    halves_drop c.loop-up.invariant (turning d) (long d) (c.in_ok-turn.was ∙ ap Ok c.in-Dropped.is)
    (rw c.in_ok-words-in-Dropped.ensures.ok_part at c.checked_sub.ensures).1

pub returns-in_err-unknowns-in-Bound : goal.returns-in_err-unknowns-in-Bound
returns-in_err-unknowns-in-Bound c =
    let d = (goal.at.returns-in_err-unknowns-in-Bound c).Joined-up in
    let e = c.in_err-unknowns-in-Bound.ensures in
    rw (too_few _ _ c.from_residual-in_err-unknowns-in-Bound.ensures.1 e.ok_part e.value)
    (halves_bind_out c.loop-up.invariant (turning d) (long d) (c.in_ok-turn.was ∙ ap Ok c.in-Bound.is) (rw e.ok_part at c.checked_sub-in-Bound.ensures))

pub loop-up-preserved-in-Bound : goal.loop-up-preserved-in-Bound
loop-up-preserved-in-Bound c =
    let d = (goal.at.loop-up-preserved-in-Bound c).Joined-up in
    halves_bind c.loop-up.invariant (turning d) (long d) (c.in_ok-turn.was ∙ ap Ok c.in-Bound.is)
    (rw c.in_ok-unknowns-in-Bound.ensures.ok_part at c.checked_sub-in-Bound.ensures).1 (long d).1

pub returns-in_err-words-in-Parted : goal.returns-in_err-words-in-Parted
returns-in_err-words-in-Parted c =
    let d = (goal.at.returns-in_err-words-in-Parted c).Joined-up in
    let e = c.in_err-words-in-Parted.ensures in
    rw (too_few _ _ c.from_residual-in_err-words-in-Parted.ensures.1 e.ok_part e.value)
    (halves_split_out c.loop-up.invariant (turning d) (long d) (c.in_ok-turn.was ∙ ap Ok c.in-Parted.is) (rw e.ok_part at c.checked_sub-in-Parted.ensures))

pub loop-up-preserved : goal.loop-up-preserved
loop-up-preserved c =
    let d = (goal.at.loop-up-preserved c).Joined-up in
    halves_split c.loop-up.invariant (turning d) (long d) (c.in_ok-turn.was ∙ ap Ok c.in-Parted.is)
    (rw c.in_ok-words-in-Parted.ensures.ok_part at c.checked_sub-in-Parted.ensures).1
