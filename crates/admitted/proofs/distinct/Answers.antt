use Rattle.std.proofs.Common.{rules, arith, refl, ◌+◌}
use Rattle.std.proofs.lemmas.Iterator.{cases_from_all, YieldsList-from_range}
use borrow.Author.Tests.{tests}
use Rattle.cells.specs.Words.{field_w}
use Rattle.admitted.specs.Marks.{LacksFrom}
use Rattle.admitted.proofs.Each.{each_below}
use Rattle.admitted.proofs.distinct.Goals as goal

pub returns : goal.returns
returns c = each_below c.count.ensures (λ i. LacksFrom c.args.w.now c.args.c (field_w c.args.w.now c.args.c i).key (i + 1)) c.all.result
    (cases_from_all _ _ _ (λ i. LacksFrom c.args.w.now c.args.c (field_w c.args.w.now c.args.c i).key (i + 1))
    (λ i. ¬ LacksFrom c.args.w.now c.args.c (field_w c.args.w.now c.args.c i).key (i + 1)) c.all.ensures.ran
    (YieldsList-from_range 0 c.count.result c.count.result refl (omega arith)) (λ x q k. search (rules, tests)) (λ x q k. search (rules, tests)))
