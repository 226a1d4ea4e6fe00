-- `reading::take_type` meets its contract: each arm is one shape.
use native.Mathlib.Omega.{arith}
use mathlib.Core.Path.{sym, ◌∙◌}
use Rattle.reading.proofs.Typing.{int_takes, string_takes, bytes_takes, fact_takes, shape_takes, other_takes}
use Rattle.reading.proofs.types.take_type.Goals as goal

pub returns-in-0 : goal.returns-in-0
returns-in-0 c = shape_takes _ 0 c.args.s.now _ _ _ _ (sym c.byte.ensures.0 ∙ c.in-0.is)
    (int_takes _ _ _ _ _ _ c.requires.0 (rw c.tag.ensures at c.add_type.ensures))

pub returns-in-1 : goal.returns-in-1
returns-in-1 c = shape_takes _ 1 c.args.s.now _ _ _ _ (sym c.byte.ensures.0 ∙ c.in-1.is)
    (string_takes _ _ _ _ _ _ c.requires.0 (rw c.tag-in-1.ensures at c.add_type-in-1.ensures))

pub returns-in-2 : goal.returns-in-2
returns-in-2 c = shape_takes _ 2 c.args.s.now _ _ _ _ (sym c.byte.ensures.0 ∙ c.in-2.is)
    (bytes_takes _ _ _ _ _ _ c.requires.0 (rw c.tag-in-2.ensures at c.add_type-in-2.ensures))

pub returns-in-3 : goal.returns-in-3
returns-in-3 c = shape_takes _ 3 c.args.s.now _ _ _ _ (sym c.byte.ensures.0 ∙ c.in-3.is)
    (fact_takes _ _ _ _ _ _ _ c.reference-p.ensures c.requires.0 (rw c.tag-in-3.ensures at c.add_type-in-3.ensures))

pub returns-in-4 : goal.returns-in-4
returns-in-4 c = shape_takes _ 4 c.args.s.now _ _ _ _ (sym c.byte.ensures.0 ∙ c.in-4.is) (c.take_parts.ensures.is _)

pub returns-in_default : goal.returns-in_default
returns-in_default c = other_takes _ c.args.s.now _ _ _ _ c.requires.0 (omega (arith, c.byte.ensures.0)) (c.take_parts-in_default.ensures.is _)
