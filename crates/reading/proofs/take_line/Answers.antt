-- `reading::take_line` meets its contract: each end is one of a line's, and each arm takes a frame of its kind.
use mathlib.Core.Path.{◌≡◌, refl, sym, ap, ◌∙◌}
use native.Mathlib.Omega.{arith}
use borrow.Author.Rules.{rules}
use lib.ListN.{length}
use Rattle.format.specs.Frame as Frame
use Rattle.frames.specs.Promises.{kind_meant, edition_of}
use Rattle.reading.proofs.AnyLine.{line_misplaced, line_too_many, line_too_many_queries, line_no_frame, line_takes, line_takes_name}
use Rattle.reading.proofs.AnyLine.{room_for_name, room_for_predicate, room_for_node}
use Rattle.reading.proofs.AnyLine.{long_type, long_predicate, long_node}
use Rattle.reading.proofs.take_line.Goals as goal

pub returns-then-not-may_stand : goal.returns-then-not-may_stand
returns-then-not-may_stand c = line_misplaced _ _ _ c.args.line.bytes.now _ _ _ _ _ (sym c.may_stand.ensures ∙ c.if-not-may_stand.true)

pub returns-then-is_full : goal.returns-then-is_full
returns-then-is_full c =
    line_too_many _ _ _ c.args.line.bytes.now _ _ _ _ _ (sym c.may_stand.ensures ∙ c.if-not-may_stand.false) (sym c.is_full.ensures ∙ c.if-is_full.true)

pub returns-then-is_past : goal.returns-then-is_past
returns-then-is_past c = line_too_many_queries _ _ _ c.args.line.bytes.now _ _ _ _ _ (sym c.may_stand.ensures ∙ c.if-not-may_stand.false)
    (sym c.is_full.ensures ∙ c.if-is_full.false) (sym c.is_past.ensures ∙ c.if-is_past.true)

pub returns-then-not-is_frame : goal.returns-then-not-is_frame
returns-then-not-is_frame c = line_no_frame _ _ _ c.args.line.bytes.now _ _ _ _ _ (sym c.may_stand.ensures ∙ c.if-not-may_stand.false)
    (sym c.is_full.ensures ∙ c.if-is_full.false) (sym c.is_past.ensures ∙ c.if-is_past.false) (sym c.is_frame.ensures ∙ c.if-not-is_frame.true)

pub take_type-requires : goal.take_type-requires
take_type-requires c = (
  long_type (edition_of c.args.edition) c.args.line.bytes.now _ (sym c.is_frame.ensures ∙ c.if-not-is_frame.false) c.in-SchemaType.is,
  c.args.line.short,
)

pub take_predicate-requires : goal.take_predicate-requires
take_predicate-requires c = (
  long_predicate (edition_of c.args.edition) c.args.line.bytes.now _ (sym c.is_frame.ensures ∙ c.if-not-is_frame.false) c.in-Predicate.is,
  c.requires.0,
  c.requires.1,
  room_for_predicate c.args.c _ (sym c.is_full.ensures ∙ c.if-is_full.false) c.in-Predicate.is,
)

pub take_node-requires : goal.take_node-requires
take_node-requires c = (
  long_node (edition_of c.args.edition) c.args.line.bytes.now _ (sym c.is_frame.ensures ∙ c.if-not-is_frame.false) c.in-Node.is,
  room_for_node c.args.c _ (sym c.is_full.ensures ∙ c.if-is_full.false) c.in-Node.is,
)

pub returns-in-Limits : goal.returns-in-Limits
returns-in-Limits c = line_takes _ _ _ c.args.line.bytes.now _ _ _ _ _ (sym c.may_stand.ensures ∙ c.if-not-may_stand.false)
    (sym c.is_full.ensures ∙ c.if-is_full.false) (sym c.is_past.ensures ∙ c.if-is_past.false) (sym c.is_frame.ensures ∙ c.if-not-is_frame.false)
    Frame.limits (ap kind_meant c.in-Limits.is) refl _ _ ((c.take_limits.ensures.is _).is _ _)

pub returns-in-Name : goal.returns-in-Name
returns-in-Name c =
    let long : length c.args.prints.now ≡ 256 = search rules in
    line_takes_name _ _ _ c.args.line.bytes.now _ _ _ _ _ (sym c.may_stand.ensures ∙ c.if-not-may_stand.false)
    (sym c.is_full.ensures ∙ c.if-is_full.false) (sym c.is_past.ensures ∙ c.if-is_past.false) (sym c.is_frame.ensures ∙ c.if-not-is_frame.false)
    (ap kind_meant c.in-Name.is) _ _ _ (omega (arith, long, room_for_name c.args.c _ (sym c.is_full.ensures ∙ c.if-is_full.false) c.in-Name.is))
    (c.take_name.ensures.is _)

pub returns-in-SchemaType : goal.returns-in-SchemaType
returns-in-SchemaType c = line_takes _ _ _ c.args.line.bytes.now _ _ _ _ _ (sym c.may_stand.ensures ∙ c.if-not-may_stand.false)
    (sym c.is_full.ensures ∙ c.if-is_full.false) (sym c.is_past.ensures ∙ c.if-is_past.false) (sym c.is_frame.ensures ∙ c.if-not-is_frame.false)
    Frame.schema_type (ap kind_meant c.in-SchemaType.is) refl _ _ (c.take_type.ensures.is _ _)

pub returns-in-Predicate : goal.returns-in-Predicate
returns-in-Predicate c = line_takes _ _ _ c.args.line.bytes.now _ _ _ _ _ (sym c.may_stand.ensures ∙ c.if-not-may_stand.false)
    (sym c.is_full.ensures ∙ c.if-is_full.false) (sym c.is_past.ensures ∙ c.if-is_past.false) (sym c.is_frame.ensures ∙ c.if-not-is_frame.false)
    Frame.predicate (ap kind_meant c.in-Predicate.is) refl _ _ ((c.take_predicate.ensures.is _).is _ _)

pub returns-in-Node : goal.returns-in-Node
returns-in-Node c = line_takes _ _ _ c.args.line.bytes.now _ _ _ _ _ (sym c.may_stand.ensures ∙ c.if-not-may_stand.false)
    (sym c.is_full.ensures ∙ c.if-is_full.false) (sym c.is_past.ensures ∙ c.if-is_past.false) (sym c.is_frame.ensures ∙ c.if-not-is_frame.false)
    Frame.node (ap kind_meant c.in-Node.is) refl _ _ (c.take_node.ensures.is _)

pub returns-in-Query : goal.returns-in-Query
returns-in-Query c = line_takes _ _ _ c.args.line.bytes.now _ _ _ _ _ (sym c.may_stand.ensures ∙ c.if-not-may_stand.false)
    (sym c.is_full.ensures ∙ c.if-is_full.false) (sym c.is_past.ensures ∙ c.if-is_past.false) (sym c.is_frame.ensures ∙ c.if-not-is_frame.false)
    Frame.query (ap kind_meant c.in-Query.is) refl _ _ ((c.take_query.ensures.is _).is _ _)
