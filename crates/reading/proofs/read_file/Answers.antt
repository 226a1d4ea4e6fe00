-- `reading::read_file` meets its contract: the two lengths come first, then the lines.
use borrow.Author.Rules.{rules}
use mathlib.Core.Path.{refl}
use Rattle.reading.proofs.AllLines.{file_short_work, file_too_long_lem, file_taken}
use Rattle.reading.proofs.read_file.Goals as goal

pub returns-then-w-lt-WORDS : goal.returns-then-w-lt-WORDS
returns-then-w-lt-WORDS c = record { ends = file_short_work _ _ _ c.if-w-lt-WORDS.true; long = refl }

pub returns-then-file-gt-FILE : goal.returns-then-file-gt-FILE
returns-then-file-gt-FILE c = record { ends = file_too_long_lem _ _ _ c.if-w-lt-WORDS.false c.if-file-gt-FILE.true; long = refl }

pub returns : goal.returns
returns c = record { ends = file_taken _ _ _ c.if-w-lt-WORDS.false _ _ c.take_lines.ensures; long = search rules }
