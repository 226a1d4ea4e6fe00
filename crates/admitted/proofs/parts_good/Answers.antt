use Rattle.std.proofs.Common.{rules, arith, refl}
use Rattle.std.specs.Prelude.{◌≡◌, true}
use Rattle.std.proofs.lemmas.Iterator.{cases_from_all, YieldsList-from_range}
use borrow.Author.Tests.{tests}
use Rattle.cells.specs.Words.{part_of_w}
use Rattle.admitted.specs.Marks.{good_w}
use Rattle.admitted.proofs.Each.{each_below}
use Rattle.admitted.proofs.parts_good.Goals as goal

pub returns : goal.returns
returns c = each_below c.part_count.ensures (λ j. good_w c.args.w.now (part_of_w c.args.w.now c.args.t j).ty ≡ true) c.all.result
    (cases_from_all _ _ _ (λ j. good_w c.args.w.now (part_of_w c.args.w.now c.args.t j).ty ≡ true)
    (λ j. ¬ (good_w c.args.w.now (part_of_w c.args.w.now c.args.t j).ty ≡ true)) c.all.ensures.ran
    (YieldsList-from_range 0 c.part_count.result c.part_count.result refl (omega arith)) (λ x q k. search (rules, tests)) (λ x q k. search (rules, tests)))
