-- A mark, the name and a mark.
use Rattle.std.proofs.Common.{[], ◌∷◌, ◌++◌, refl}
use Rattle.meaning.specs.Messages.{quoted}
use Rattle.messages.specs.Shown.{name_text}
use Rattle.messages.proofs.Showing.{shows_as, shows_text, shows_then, shows_full}
use Rattle.messages.proofs.shown.View.quoted.Goals as goal

pub returns-in_err-at : goal.returns-in_err-at
unfolding quoted
returns-in_err-at c =
    rw c.from_residual.ensures (shows_as (λ v S o. refl) (shows_full (shows_text c.text.ensures) c.in_err-at.was (λ v. name_text c.args.x v ++ 96 ∷ [])))

pub returns-in_err-at-2 : goal.returns-in_err-at-2
unfolding quoted
returns-in_err-at-2 c = rw c.from_residual-in_err-at-2.ensures
    (shows_as (λ v S o. refl) (shows_then (shows_text c.text.ensures) c.in_ok-at.was (shows_full c.name.ensures c.in_err-at-2.was (λ v. 96 ∷ []))))

pub returns : goal.returns
unfolding quoted
returns c =
    shows_as (λ v S o. refl) (shows_then (shows_text c.text.ensures) c.in_ok-at.was (shows_then c.name.ensures c.in_ok-at-2.was (shows_text c.text-2.ensures)))
