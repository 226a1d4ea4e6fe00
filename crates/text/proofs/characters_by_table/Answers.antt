use Rattle.std.proofs.Common.{◌≡◌, ◌+◌, drop, get_or, inl, inr, ◌∙◌, sym, arith}
use Rattle.text.specs.Machine.{wanted, after}
use Rattle.text.specs.Utf8.{characters}
use Rattle.text.proofs.Walk.{plus}
use Rattle.text.proofs.Tabled.{rest, start, on, ended}
use Rattle.text.proofs.characters_by_table.Goals as goal
use Rattle.text.proofs.characters_by_table.Goals.{then-state-eq0, else-state-eq0, Joined-state-eq0}

pub loop-b-init : goal.loop-b-init
loop-b-init c = record { few = omega arith; in_table = omega arith; counted = start c.args.s.now }

counted : (c : Joined-state-eq0) → characters c.args.s.now
    ≡ plus c.if-state-eq0.chars (rest (after (wanted c.loop-b.state) (get_or c.args.s.now c.loop-b.b-index 0)) (drop (c.loop-b.b-index + 1) c.args.s.now))
counted c =
    c.loop-b.invariant.counted ∙ on c.args.s.now c.loop-b.b-index c.loop-b.state c.loop-b.chars c.if-state-eq0.chars c.loop-b-test.true
    c.loop-b.invariant.in_table
    (elim c.if-state-eq0.branch [
      | then-state-eq0 w ↦ inl (w.if-state-eq0.true, w.chars-is)
      | else-state-eq0 w ↦ inr (w.if-state-eq0.false, w.chars-is)
    ])

pub returns-in_err-state : goal.returns-in_err-state
returns-in_err-state c = rw (c.from_residual.ensures, counted (goal.at.returns-in_err-state c).Joined-state-eq0, c.in_err-state.ensures)

pub loop-b-preserved : goal.loop-b-preserved
loop-b-preserved c =
    let steps = c.in_ok-state.ensures in
    record {
      few = elim c.if-state-eq0.branch [ then-state-eq0 w ↦ omega arith | else-state-eq0 w ↦ omega arith ];
      in_table = steps.0;
      counted = rw steps.1.is (counted (goal.at.loop-b-preserved c).Joined-state-eq0);
    }

pub returns : goal.returns
returns c = rw (c.then_some.ensures, c.loop-b.invariant.counted) (sym (ended _ _ _ _ c.loop-b-test.false c.loop-b.invariant.in_table))
