use Rattle.std.proofs.Common.{◌+◌, drop, sym}
use Rattle.std.proofs.lemmas.List.{at_drop_all}
use Rattle.messages.specs.Shown.{pieces_text}
use Rattle.messages.proofs.Parting.{pieces_more, piece_ok}
use Rattle.messages.proofs.Showing.{shows_as, shows_none, shows_where, showing_next, showing_full, showing_last}
use Rattle.messages.proofs.shown.View.write.Goals as goal

pub returns-in_err-to : goal.returns-in_err-to
returns-in_err-to c = rw c.from_residual.ensures
    (showing_full c.loop-p.invariant (shows_where (λ v S o. piece_ok _ c.args.pieces.now _ _ c.loop-p-test.true o) c.piece.ensures)
    (pieces_text (drop (c.loop-p.p-index + 1) c.args.pieces.now))
    (λ v S o. pieces_more c.args.pieces.now _ _ c.loop-p-test.true v) c.in_err-to.was)

pub loop-p-preserved : goal.loop-p-preserved
loop-p-preserved c =
    showing_next c.loop-p.invariant (shows_where (λ v S o. piece_ok _ c.args.pieces.now _ _ c.loop-p-test.true o) c.piece.ensures)
    (pieces_text (drop (c.loop-p.p-index + 1) c.args.pieces.now))
    (λ v S o. pieces_more c.args.pieces.now _ _ c.loop-p-test.true v) c.in_ok-to.was

pub returns : goal.returns
returns c = showing_last c.loop-p.invariant (shows_as (λ v S o. sym (at_drop_all (λ ps. pieces_text ps v) c.args.pieces.now _ c.loop-p-test.false)) shows_none)
