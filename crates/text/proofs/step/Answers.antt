use Rattle.std.proofs.Common.{◌∙◌, ap, get_or}
use Rattle.text.specs.declared.TheConstants.{CLASS}
use Rattle.text.proofs.Machine.{class_small, stepped}
use Rattle.text.proofs.step.Goals as goal

pub bounds-class : goal.bounds-class
bounds-class c = rw (c.from-class.ensures, c.from.ensures) (class_small c.args.b c.ranges.b.fits)

pub returns : goal.returns
returns c =
    rw c.then_some.ensures
    (stepped c.args.state c.args.b c.from-class.result c.from-next.result c.requires c.ranges.b.fits
    (c.from-class.ensures ∙ ap (λ k. get_or CLASS k 0) c.from.ensures) c.from-next.ensures)
