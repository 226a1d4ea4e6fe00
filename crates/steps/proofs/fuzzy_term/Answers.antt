-- The test is the one of `long_w`.
use mathlib.Core.Path.{refl}
use borrow.Author.Tests.{lt-ltb, le-ltb}
use Rattle.steps.specs.Outside.{reported, stayed}
use Rattle.steps.proofs.fuzzy_term.Goals as goal

pub returns-then-word-characters-clause-is : goal.returns-then-word-characters-clause-is
returns-then-word-characters-clause-is c =
    rw (lt-ltb _ _ (rw (
      c.word-2.ensures,
      c.view-2.ensures,
      c.name_chars-characters.ensures,
      c.word.ensures,
      c.view.ensures,
      c.wide.ensures.0,
    ) at c.if-word-characters.true))
    (reported (rw (c.name_chars-characters.ensures, c.word.ensures, c.view.ensures, c.wide.ensures.0) at c.reject.ensures.is))

pub returns-clause-is : goal.returns-clause-is
returns-clause-is c =
    rw (le-ltb _ _ (rw (
      c.word-2.ensures,
      c.view-2.ensures,
      c.name_chars-characters.ensures,
      c.word.ensures,
      c.view.ensures,
      c.wide.ensures.0,
    ) at c.if-word-characters.false)) (stayed refl refl refl)
