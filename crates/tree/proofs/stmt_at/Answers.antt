-- `tree::stmt_at` meets its contract: the tag byte picks the arm as `stmt_of` picks.
use borrow.Author.Tests.{ne_eqb}
use Rattle.tree.specs.Nodes.{stmt_w, stmt_of}
use Rattle.tree.proofs.stmt_at.Goals as goal

pub returns-in-0 : goal.returns-in-0
unfolding stmt_w stmt_of
returns-in-0 c = rw (← c.hex_byte-tag.ensures.0, c.in-0.is) (cc (c.hex_half.ensures.0, c.hex_half-2.ensures.0, c.lower-a.ensures, c.lower-b.ensures))

pub returns-in-1 : goal.returns-in-1
unfolding stmt_w stmt_of
returns-in-1 c = rw (← c.hex_byte-tag.ensures.0, c.in-1.is) (cc (c.hex_half.ensures.0, c.lower-a.ensures))

pub returns-in-2 : goal.returns-in-2
unfolding stmt_w stmt_of
returns-in-2 c = rw (← c.hex_byte-tag.ensures.0, c.in-2.is) (cc (c.hex_half.ensures.0, c.lower-a.ensures))

pub returns-in-3 : goal.returns-in-3
unfolding stmt_w stmt_of
returns-in-3 c = rw (← c.hex_byte-tag.ensures.0, c.in-3.is) (cc (c.hex_half.ensures.0, c.hex_half-2.ensures.0, c.lower-a.ensures, c.lower-b.ensures))

pub returns-in_default : goal.returns-in_default
unfolding stmt_w stmt_of
returns-in_default c = rw (
  ← c.hex_byte-tag.ensures.0,
  ne_eqb _ 0 c.in_default.in_default-own.rest.0.0.0.1,
  ne_eqb _ 1 c.in_default.in_default-own.rest.0.0.1,
  ne_eqb _ 2 c.in_default.in_default-own.rest.0.1,
  ne_eqb _ 3 c.in_default.in_default-own.rest.1,
)
    (cc (c.hex_half.ensures.0, c.hex_half-2.ensures.0, c.lower-a.ensures, c.lower-b.ensures))
