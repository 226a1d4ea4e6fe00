-- By whether bindings are followed.
use Rattle.messages.proofs.Rendering.{look_follows}
use Rattle.messages.proofs.shown.View.look.Goals as goal

pub returns-in-Followed : goal.returns-in-Followed
returns-in-Followed c = rw c.in-Followed.is (look_follows c.repr.ensures)
