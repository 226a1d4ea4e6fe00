-- `tree::items_of` meets its contract: the test is `count_w`'s own.
use mathlib.Core.Path.{refl, ap, ◌∙◌}
use Prim.Native.Nat.{ℕ, ◌/◌}
use borrow.Author.Tests.{eq-eqb, ne_eqb}
use Rattle.tree.proofs.ItemsOf.{no_items_first, items_there}
use Rattle.tree.proofs.items_of.Goals as goal
use Rattle.tree.proofs.items_of.Goals.{then-below-eq0, else-below-eq0}

pub returns : goal.returns
returns c = record {
  at = refl;
  n = elim c.if-below-eq0.branch [
    | then-below-eq0 w ↦ w.n-is ∙ no_items_first _ _ _ (eq-eqb _ _ w.if-below-eq0.true)
    | else-below-eq0 w ↦ w.n-is ∙ ap (λ (m : ℕ). m / c.args.each) w.saturating_sub.ensures ∙ items_there _ _ _ c.requires.0 (ne_eqb _ _ w.if-below-eq0.false)
  ];
  below = refl;
}
