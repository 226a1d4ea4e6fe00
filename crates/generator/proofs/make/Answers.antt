-- The words, the file, and zeros after it or in its place.
use Rattle.writer.proofs.Writing.{writes_as, cleared}
use Rattle.generator.proofs.Making.{file_of_lem, makes}
use Rattle.generator.proofs.make.Goals as goal

pub returns : goal.returns
returns c = makes c.args.seed c.file-end.result (writes_as (file_of_lem c.args.seed c.fill.ensures) c.file-end.ensures) c.unwrap_or.result c.unwrap_or.ensures
    (cleared _ _ _ (c.fill-2.ensures.after (λ y e. e)))
