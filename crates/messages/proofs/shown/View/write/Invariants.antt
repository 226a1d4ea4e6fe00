-- To show the pieces from the index on is to show them all.
use Rattle.std.proofs.Common.{drop}
use Rattle.messages.specs.Shown.{pieces_text, ok_pieces}
use Rattle.messages.proofs.Showing.{Showing}
use Rattle.messages.proofs.shown.View.write.Given as goal

abbrev pub invariant-loop-p : goal.invariant-loop-p
invariant-loop-p l = Showing l.self.f.now l.self.w.now l.initial.out l.at (ok_pieces l.self.w.now l.pieces) (pieces_text l.pieces) l.out l.to
    (pieces_text (drop l.p-index l.pieces))
