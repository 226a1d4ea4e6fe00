-- A frame whose numbers fit in their bytes is written in bytes.
use mathlib.Core.List.{List, [], ◌∷◌, ◌++◌, flat_map}
use Prim.Native.Nat.{ℕ, ◌/◌}
use native.Mathlib.Omega.{arith}
use Rattle.unification.specs.Ty.{Int, String, Bytes, Fact}
use Rattle.format.specs.Syntax.{Field, QueryStmt, Query, FieldRef, Literal, ExprKind, Node}
use Rattle.format.specs.Frame.{Edition, narrow, wide, Kind, kind_byte, Alternative, TypeShape, a_leaf, a_record, a_union, Frame, the_limits, a_name}
use Rattle.format.specs.Frame.{a_type, a_predicate, a_node, the_query, frame_kind}
use Rattle.format.specs.All.{All}
use Rattle.format.specs.Writing.{Byte, InTwo, as_field, as_alternative, as_reference, as_shape, as_value_type, as_statement, as_query, as_expr, as_node}
use Rattle.format.specs.Writing.{as_content, written, FieldFits, AlternativeFits, ShapeFits, ValueTypeFits, StatementFits, QueryFits}
use Rattle.format.specs.Writing.{ExprFits, NodeFits, FrameFits}
use Rattle.format.specs.Bytes.{bytes₂, bytes₄}
use Rattle.format.proofs.Lists.{all_append}
use Rattle.std.specs.Prelude.{None, Option, Some}

two : (n : ℕ) → All Byte (bytes₂ n)
unfolding bytes₂
two n = (omega arith, (omega arith, tt))

join : (s t : List ℕ) → All Byte s → All Byte t → All Byte (s ++ t)
join s t a b = all_append Byte s t a b

twos : (n m : ℕ) → All Byte (bytes₂ n ++ bytes₂ m)
twos n m = join (bytes₂ n) (bytes₂ m) (two n) (two m)

four : (n : ℕ) → All Byte (bytes₄ n)
unfolding bytes₄
four n = twos (n / 0x10000) n

each : {A : Type 0} (w : A → List ℕ) (F : A → Type 0) → ((a : A) → F a → All Byte (w a)) → (l : List A) → All F l → All Byte (flat_map w l)
unfolding flat_map
each w F b [] h = tt
each w F b (a ∷ l) h = join (w a) (flat_map w l) (b a h.0) (each w F b l h.1)

field : (f : Field) → FieldFits f → All Byte (as_field f)
unfolding as_field
field f h = twos f.name f.value

alternative : (a : Alternative) → AlternativeFits a → All Byte (as_alternative a)
unfolding as_alternative
alternative a h = join (bytes₂ a.name ++ bytes₄ a.discriminant) (bytes₂ a.type)
    (join (bytes₂ a.name) (bytes₄ a.discriminant) (two a.name) (four a.discriminant)) (two a.type)

reference : (e : Edition) (p : ℕ) → All Byte (as_reference e p)
unfolding as_reference
reference narrow p = two p
reference wide p = four p

shape : (e : Edition) (t : TypeShape) → ShapeFits e t → All Byte (as_shape e t)
unfolding as_shape
shape e (a_leaf Int) h = (omega arith, tt)
shape e (a_leaf String) h = (omega arith, tt)
shape e (a_leaf Bytes) h = (omega arith, tt)
shape e (a_leaf (Fact p)) h = (omega arith, reference e p)
shape e (a_record fs) h = (omega arith, each as_field FieldFits field fs h)
shape e (a_union alts) h = (omega arith, each as_alternative AlternativeFits alternative alts h)

value : (v : Option ℕ) → ValueTypeFits v → All Byte (as_value_type v)
unfolding as_value_type
value None h = (omega arith, tt)
value (Some t) h = (omega arith, two t)

statement : (q : QueryStmt) → StatementFits q → All Byte (as_statement q)
unfolding as_statement
statement (QueryStmt.Bind l r) h = (omega arith, twos l r)
statement (QueryStmt.Implicit e) h = (omega arith, two e)
statement (QueryStmt.Negation e) h = (omega arith, two e)
statement (QueryStmt.Deny l r) h = (omega arith, twos l r)
statement (QueryStmt.Compare l r) h = (omega arith, twos l r)

query : (q : Query) → QueryFits q → All Byte (as_query q)
unfolding as_query
query q h = join (bytes₂ q.head) (flat_map as_statement q.body) (two q.head) (each as_statement StatementFits statement q.body h.1)

expr : (e : Edition) (x : ExprKind) → ExprFits e x → All Byte (as_expr e x)
unfolding as_expr
expr e (ExprKind.Lit Literal.Int) h = (omega arith, tt)
expr e (ExprKind.Lit Literal.Str) h = (omega arith, tt)
expr e (ExprKind.Lit Literal.Bytes) h = (omega arith, tt)
expr e (ExprKind.Var x) h = (omega arith, two x)
expr e ExprKind.Wildcard h = (omega arith, tt)
expr e ExprKind.Never h = (omega arith, tt)
expr e (ExprKind.Prefix x) h = (omega arith, two x)
expr e (ExprKind.Fuzzy x d) h = (omega arith, join (bytes₂ x) (d ∷ []) (two x) (h.1, tt))
expr e (ExprKind.Record fs) h = (omega arith, each as_field FieldFits field fs h)
expr e (ExprKind.Access (FieldRef.Key n) x) h = (omega arith, twos n x)
expr e (ExprKind.Access FieldRef.Value x) h = (omega arith, two x)
expr e (ExprKind.Disjunction es) h = (omega arith, each bytes₂ InTwo (λ n b. two n) es h)
expr e (ExprKind.Subquery q) h = (omega arith, query q h)
expr e (ExprKind.Fact p x) h = (omega arith, join (as_reference e p) (bytes₂ x) (reference e p) (two x))
expr e (ExprKind.Arith es) h = (omega arith, each bytes₂ InTwo (λ n b. two n) es h)
expr e ExprKind.Error h = (omega arith, tt)
expr e (ExprKind.Select n x) h = (omega arith, twos n x)

node : (e : Edition) (n : Node) → NodeFits e n → All Byte (as_node e n)
unfolding as_node
node e n h = join (bytes₄ n.span.start ++ bytes₄ n.span.end) (as_expr e n.kind)
    (join (bytes₄ n.span.start) (bytes₄ n.span.end) (four n.span.start) (four n.span.end)) (expr e n.kind h.2)

content : (e : Edition) (f : Frame) → FrameFits e f → All Byte (as_content e f)
unfolding as_content
content e (the_limits d t) h = (h.0, two t)
content e (a_name s) h = h
content e (a_type t) h = shape e t h
content e (a_predicate n k v) h = join (bytes₂ n ++ bytes₂ k) (as_value_type v) (twos n k) (value v h.2)
content e (a_node n) h = node e n h
content e (the_query q) h = query q h

kind : (k : Kind) → Byte (kind_byte k)
unfolding kind_byte
kind Kind.limits = omega arith
kind Kind.name = omega arith
kind Kind.schema_type = omega arith
kind Kind.predicate = omega arith
kind Kind.node = omega arith
kind Kind.query = omega arith

pub written_bytes : (e : Edition) (f : Frame) → FrameFits e f → All Byte (written e f)
unfolding written
written_bytes e f h = (kind (frame_kind f), content e f h)
