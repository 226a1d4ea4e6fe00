use Rattle.admitted.proofs.holding.Goals as goal

pub returns-in-Union : goal.returns-in-Union
returns-in-Union c = rw c.in-Union.is (rw c.in-Union.is at c.parts_good-in-Union.ensures)
