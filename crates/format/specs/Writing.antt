-- Document 01, "Frame lines", from the writer's side: the bytes of a frame in an edition, the line that it is written as, and
-- which frames can be written.
use mathlib.Core.List.{List, [], ◌∷◌, ◌++◌, flat_map}
use Rattle.std.specs.Prelude.{ℕ, ◌<◌, ◌≤◌, length, None, Option, Some}
use Rattle.unification.specs.Ty.{Int, String, Bytes, Fact}
use Rattle.format.specs.Syntax.{Field, QueryStmt, Query, FieldRef, Literal, ExprKind, Node}
use Rattle.format.specs.Lines.{max_bytes}
use Rattle.format.specs.Frame.{Edition, narrow, wide, kind_byte, Alternative, TypeShape, a_leaf, a_record, a_union, Frame, the_limits, a_name, a_type}
use Rattle.format.specs.Frame.{a_predicate, a_node, the_query, frame_kind}
use Rattle.format.specs.All.{All}
use Rattle.format.specs.Bytes.{bytes₂, bytes₄, hex_line}

-- ---- Bytes

unfoldable pub as_field : Field → List ℕ
unfolding bytes₂
as_field f = bytes₂ f.name ++ bytes₂ f.value

unfoldable pub as_alternative : Alternative → List ℕ
unfolding bytes₂ bytes₄
as_alternative a = bytes₂ a.name ++ bytes₄ a.discriminant ++ bytes₂ a.type

-- a reference to a predicate
unfoldable pub as_reference : Edition → ℕ → List ℕ
unfolding bytes₂ bytes₄
as_reference narrow p = bytes₂ p
as_reference wide p = bytes₄ p

unfoldable pub as_shape : Edition → TypeShape → List ℕ
unfolding as_reference as_field as_alternative flat_map
as_shape e (a_leaf Int) = 0x00 ∷ []
as_shape e (a_leaf String) = 0x01 ∷ []
as_shape e (a_leaf Bytes) = 0x02 ∷ []
as_shape e (a_leaf (Fact p)) = 0x03 ∷ as_reference e p
as_shape e (a_record fs) = 0x04 ∷ flat_map as_field fs
as_shape e (a_union alts) = 0x05 ∷ flat_map as_alternative alts

unfoldable pub as_value_type : Option ℕ → List ℕ
unfolding bytes₂
as_value_type None = 0x00 ∷ []
as_value_type (Some t) = 0x01 ∷ bytes₂ t

unfoldable pub as_statement : QueryStmt → List ℕ
unfolding bytes₂
as_statement (QueryStmt.Bind l r) = 0x00 ∷ bytes₂ l ++ bytes₂ r
as_statement (QueryStmt.Implicit e) = 0x01 ∷ bytes₂ e
as_statement (QueryStmt.Negation e) = 0x02 ∷ bytes₂ e
as_statement (QueryStmt.Deny l r) = 0x03 ∷ bytes₂ l ++ bytes₂ r
as_statement (QueryStmt.Compare l r) = 0x04 ∷ bytes₂ l ++ bytes₂ r

unfoldable pub as_query : Query → List ℕ
unfolding bytes₂ as_statement flat_map
as_query q = bytes₂ q.head ++ flat_map as_statement q.body

unfoldable pub as_expr : Edition → ExprKind → List ℕ
unfolding bytes₂ as_reference as_field as_query flat_map
as_expr e (ExprKind.Lit Literal.Int) = 0x00 ∷ []
as_expr e (ExprKind.Lit Literal.Str) = 0x01 ∷ []
as_expr e (ExprKind.Lit Literal.Bytes) = 0x02 ∷ []
as_expr e (ExprKind.Var x) = 0x03 ∷ bytes₂ x
as_expr e ExprKind.Wildcard = 0x04 ∷ []
as_expr e ExprKind.Never = 0x05 ∷ []
as_expr e (ExprKind.Prefix x) = 0x06 ∷ bytes₂ x
as_expr e (ExprKind.Fuzzy x d) = 0x07 ∷ bytes₂ x ++ d ∷ []
as_expr e (ExprKind.Record fs) = 0x08 ∷ flat_map as_field fs
as_expr e (ExprKind.Access (FieldRef.Key n) x) = 0x09 ∷ bytes₂ n ++ bytes₂ x
as_expr e (ExprKind.Access FieldRef.Value x) = 0x0a ∷ bytes₂ x
as_expr e (ExprKind.Disjunction es) = 0x0b ∷ flat_map bytes₂ es
as_expr e (ExprKind.Subquery q) = 0x0c ∷ as_query q
as_expr e (ExprKind.Fact p x) = 0x0d ∷ as_reference e p ++ bytes₂ x
as_expr e (ExprKind.Arith es) = 0x0e ∷ flat_map bytes₂ es
as_expr e ExprKind.Error = 0x0f ∷ []
as_expr e (ExprKind.Select n x) = 0x10 ∷ bytes₂ n ++ bytes₂ x

unfoldable pub as_node : Edition → Node → List ℕ
unfolding bytes₄ as_expr
as_node e n = bytes₄ n.span.start ++ bytes₄ n.span.end ++ as_expr e n.kind

unfoldable pub as_content : Edition → Frame → List ℕ
unfolding bytes₂ as_shape as_value_type as_node as_query
as_content e (the_limits d t) = d ∷ bytes₂ t
as_content e (a_name s) = s
as_content e (a_type t) = as_shape e t
as_content e (a_predicate n k v) = bytes₂ n ++ bytes₂ k ++ as_value_type v
as_content e (a_node n) = as_node e n
as_content e (the_query q) = as_query q

unfoldable pub written : Edition → Frame → List ℕ
unfolding as_content kind_byte frame_kind
written e f = kind_byte (frame_kind f) ∷ as_content e f

unfoldable pub file_of : Edition → List Frame → List ℕ
unfolding hex_line written flat_map
file_of e fs = flat_map (λ f. hex_line (written e f)) fs

-- ---- Numbers that fit in their bytes

abbrev pub Byte : ℕ → Type 0
Byte n = n < 0x100

abbrev pub InTwo : ℕ → Type 0
InTwo n = n < 0x10000

abbrev pub InFour : ℕ → Type 0
InFour n = n < 0x100000000

abbrev pub FieldFits : Field → Type 0
FieldFits f = InTwo f.name × InTwo f.value

abbrev pub AlternativeFits : Alternative → Type 0
AlternativeFits a = InTwo a.name × InFour a.discriminant × InTwo a.type

abbrev pub ReferenceFits : Edition → ℕ → Type 0
ReferenceFits narrow p = InTwo p
ReferenceFits wide p = InFour p

abbrev pub ShapeFits : Edition → TypeShape → Type 0
ShapeFits e (a_leaf Int) = Unit {0}
ShapeFits e (a_leaf String) = Unit {0}
ShapeFits e (a_leaf Bytes) = Unit {0}
ShapeFits e (a_leaf (Fact p)) = ReferenceFits e p
ShapeFits e (a_record fs) = All FieldFits fs
ShapeFits e (a_union alts) = All AlternativeFits alts

abbrev pub ValueTypeFits : Option ℕ → Type 0
ValueTypeFits None = Unit {0}
ValueTypeFits (Some t) = InTwo t

abbrev pub StatementFits : QueryStmt → Type 0
StatementFits (QueryStmt.Bind l r) = InTwo l × InTwo r
StatementFits (QueryStmt.Implicit e) = InTwo e
StatementFits (QueryStmt.Negation e) = InTwo e
StatementFits (QueryStmt.Deny l r) = InTwo l × InTwo r
StatementFits (QueryStmt.Compare l r) = InTwo l × InTwo r

abbrev pub QueryFits : Query → Type 0
QueryFits q = InTwo q.head × All StatementFits q.body

abbrev pub ExprFits : Edition → ExprKind → Type 0
ExprFits e (ExprKind.Lit l) = Unit {0}
ExprFits e (ExprKind.Var x) = InTwo x
ExprFits e ExprKind.Wildcard = Unit {0}
ExprFits e ExprKind.Never = Unit {0}
ExprFits e (ExprKind.Prefix x) = InTwo x
ExprFits e (ExprKind.Fuzzy x d) = InTwo x × Byte d
ExprFits e (ExprKind.Record fs) = All FieldFits fs
ExprFits e (ExprKind.Access (FieldRef.Key n) x) = InTwo n × InTwo x
ExprFits e (ExprKind.Access FieldRef.Value x) = InTwo x
ExprFits e (ExprKind.Disjunction es) = All InTwo es
ExprFits e (ExprKind.Subquery q) = QueryFits q
ExprFits e (ExprKind.Fact p x) = ReferenceFits e p × InTwo x
ExprFits e (ExprKind.Arith es) = All InTwo es
ExprFits e ExprKind.Error = Unit {0}
ExprFits e (ExprKind.Select n x) = InTwo n × InTwo x

abbrev pub NodeFits : Edition → Node → Type 0
NodeFits e n = InFour n.span.start × InFour n.span.end × ExprFits e n.kind

abbrev pub FrameFits : Edition → Frame → Type 0
FrameFits e (the_limits d t) = Byte d × InTwo t
FrameFits e (a_name s) = All Byte s
FrameFits e (a_type t) = ShapeFits e t
FrameFits e (a_predicate n k v) = InTwo n × InTwo k × ValueTypeFits v
FrameFits e (a_node n) = NodeFits e n
FrameFits e (the_query q) = QueryFits q

-- Its numbers fit in their bytes and it fits in a line.
pub record Writable (e : Edition) (f : Frame) : Type 0 where
  pub fits : FrameFits e f
  pub short : length (written e f) ≤ max_bytes
