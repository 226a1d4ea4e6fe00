-- A frame is read from its bytes and from no others: production by production.
use mathlib.Core.List.{List, [], ◌++◌, flat_map, append-nil, append_assoc}
use mathlib.Core.Path.{◌≡◌, refl, ap, ◌∙◌}
use Prim.Native.Nat.{ℕ, ◌<◌}
use native.Mathlib.Omega.{arith}
use lib.ListN.{length}
use Rattle.unification.specs.Ty.{Int, String, Bytes, Fact}
use Rattle.format.specs.Syntax.{Field, QueryStmt, FieldRef, Literal, ExprKind}
use Rattle.format.specs.Frame.{Edition, narrow, wide, Kind, Alternative, TypeShape, a_leaf, a_record, a_union, Frame, the_limits, a_name, a_type}
use Rattle.format.specs.Frame.{a_predicate, a_node, the_query, frame_kind, got, nothing, pair, two, many, entry, choice, field, alternative, reference}
use Rattle.format.specs.Frame.{type_shapes, value_types, statements, head_and_body, expr_kinds, span_and_kind, rest, frame}
use Rattle.format.specs.All.{All}
use Rattle.format.specs.Writing.{Byte, InTwo, as_field, as_alternative, as_reference, as_shape, as_value_type, as_statement, as_query, as_expr, as_node}
use Rattle.format.specs.Writing.{as_content, FieldFits, AlternativeFits, ReferenceFits, ShapeFits, ValueTypeFits, StatementFits, QueryFits, ExprFits}
use Rattle.format.specs.Writing.{NodeFits, FrameFits}
use Rattle.format.specs.Bytes.{bytes₂}
use Rattle.format.proofs.Inverse.{Took, Inverse, Anything, Nothing, one_back, one_forth, pair_back, pair_forth, triple_back, triple_forth}
use Rattle.format.proofs.Inverse.{pair_inverse, triple_inverse, byte_inverse, two_inverse, four_inverse, many_inverse, Entries, end, ◌then◌}
use Rattle.format.proofs.Inverse.{choice_forth, entry_nothing, entry_one, entry_pair}
use Rattle.std.specs.Prelude.{None, Option, Some}

field_inverse : Inverse Anything field as_field FieldFits
unfolding field as_field
field_inverse = pair_inverse (λ n value. record { name = n; value = value }) two_inverse two_inverse as_field FieldFits (λ f. f.name) (λ f. f.value)
    (λ f. refl) (λ f. refl) (λ a b. refl) (λ f h. h) (λ a b x y. (x, y))

alternative_inverse : Inverse Anything alternative as_alternative AlternativeFits
unfolding alternative as_alternative
alternative_inverse = triple_inverse (λ n discriminant type. record { name = n; discriminant = discriminant; type = type }) two_inverse four_inverse
    two_inverse as_alternative AlternativeFits (λ a. a.name) (λ a. a.discriminant) (λ a. a.type) (λ a. refl) (λ a. refl) (λ a b c. refl) (λ a h. h)
    (λ a b c x y z. (x, y, z))

two_filled : (n : ℕ) → 0 < length (bytes₂ n)
unfolding bytes₂
two_filled n = omega arith

field_filled : (f : Field) → 0 < length (as_field f)
unfolding as_field
field_filled f = omega arith

alternative_filled : (a : Alternative) → 0 < length (as_alternative a)
unfolding as_alternative
alternative_filled a = omega arith

statement_filled : (q : QueryStmt) → 0 < length (as_statement q)
unfolding as_statement
statement_filled (QueryStmt.Bind l r) = omega arith
statement_filled (QueryStmt.Implicit e) = omega arith
statement_filled (QueryStmt.Negation e) = omega arith
statement_filled (QueryStmt.Deny l r) = omega arith
statement_filled (QueryStmt.Compare l r) = omega arith

statement_inverse : Inverse Anything (choice statements) as_statement StatementFits
unfolding statements as_statement choice entry
statement_inverse = record { back = back; forth = choice_forth as_statement StatementFits statements entries }
  where
    back : (q : QueryStmt) (t : List ℕ) → StatementFits q → Unit {0} → choice statements (as_statement q ++ t) ≡ got q t
    back (QueryStmt.Bind l r) t f e = pair_back QueryStmt.Bind two_inverse two_inverse l r t f.0 f.1 tt
    back (QueryStmt.Implicit x) t f e = one_back QueryStmt.Implicit two_inverse x t f tt
    back (QueryStmt.Negation x) t f e = one_back QueryStmt.Negation two_inverse x t f tt
    back (QueryStmt.Deny l r) t f e = pair_back QueryStmt.Deny two_inverse two_inverse l r t f.0 f.1 tt
    back (QueryStmt.Compare l r) t f e = pair_back QueryStmt.Compare two_inverse two_inverse l r t f.0 f.1 tt

    entries : Entries as_statement StatementFits 0 statements
    entries =
        entry_pair _ _ 0x00 QueryStmt.Bind two_inverse two_inverse (λ a b. refl) (λ a b x y. (x, y)) then
        entry_one _ _ 0x01 QueryStmt.Implicit two_inverse (λ a. refl) (λ a x. x) then
        entry_one _ _ 0x02 QueryStmt.Negation two_inverse (λ a. refl) (λ a x. x) then
        entry_pair _ _ 0x03 QueryStmt.Deny two_inverse two_inverse (λ a b. refl) (λ a b x y. (x, y)) then
        entry_pair _ _ 0x04 QueryStmt.Compare two_inverse two_inverse (λ a b. refl) (λ a b x y. (x, y)) then
        end

statements_inverse : Inverse Nothing (many (choice statements)) (flat_map as_statement) (All StatementFits)
statements_inverse = many_inverse statement_inverse statement_filled

fields_inverse : Inverse Nothing (many field) (flat_map as_field) (All FieldFits)
fields_inverse = many_inverse field_inverse field_filled

alternatives_inverse : Inverse Nothing (many alternative) (flat_map as_alternative) (All AlternativeFits)
alternatives_inverse = many_inverse alternative_inverse alternative_filled

twos_inverse : Inverse Nothing (many two) (flat_map bytes₂) (All InTwo)
twos_inverse = many_inverse two_inverse two_filled

query_inverse : Inverse Nothing head_and_body as_query QueryFits
unfolding head_and_body as_query
query_inverse = pair_inverse (λ head body. record { head = head; body = body }) two_inverse statements_inverse as_query QueryFits (λ q. q.head)
    (λ q. q.body) (λ q. refl) (λ q. refl) (λ a b. refl) (λ q h. h) (λ a b x y. (x, y))

reference_inverse : (e : Edition) → Inverse Anything (reference e) (as_reference e) (ReferenceFits e)
unfolding reference as_reference
reference_inverse narrow = two_inverse
reference_inverse wide = four_inverse

shape_inverse : (e : Edition) → Inverse Nothing (choice (type_shapes e)) (as_shape e) (ShapeFits e)
unfolding type_shapes as_shape choice entry nothing
shape_inverse ed = record { back = back; forth = choice_forth (as_shape ed) (ShapeFits ed) (type_shapes ed) entries }
  where
    back : (s : TypeShape) (t : List ℕ) → ShapeFits ed s → t ≡ [] → choice (type_shapes ed) (as_shape ed s ++ t) ≡ got s t
    back (a_leaf Int) t f e = refl
    back (a_leaf String) t f e = refl
    back (a_leaf Bytes) t f e = refl
    back (a_leaf (Fact p)) t f e = one_back (λ x. a_leaf (Fact x)) (reference_inverse ed) p t f tt
    back (a_record fs) t f e = one_back a_record fields_inverse fs t f e
    back (a_union alts) t f e = one_back a_union alternatives_inverse alts t f e

    entries : Entries (as_shape ed) (ShapeFits ed) 0 (type_shapes ed)
    entries =
        entry_nothing _ _ 0x00 (a_leaf Int) refl tt then
        entry_nothing _ _ 0x01 (a_leaf String) refl tt then
        entry_nothing _ _ 0x02 (a_leaf Bytes) refl tt then
        entry_one _ _ 0x03 (λ x. a_leaf (Fact x)) (reference_inverse ed) (λ a. refl) (λ a x. x) then
        entry_one _ _ 0x04 a_record fields_inverse (λ a. refl) (λ a x. x) then
        entry_one _ _ 0x05 a_union alternatives_inverse (λ a. refl) (λ a x. x) then
        end

value_inverse : Inverse Anything (choice value_types) as_value_type ValueTypeFits
unfolding value_types as_value_type choice entry nothing
value_inverse = record { back = back; forth = choice_forth as_value_type ValueTypeFits value_types entries }
  where
    back : (v : Option ℕ) (t : List ℕ) → ValueTypeFits v → Unit {0} → choice value_types (as_value_type v ++ t) ≡ got v t
    back None t f e = refl
    back (Some x) t f e = one_back Some two_inverse x t f tt

    entries : Entries as_value_type ValueTypeFits 0 value_types
    entries =
        entry_nothing _ _ 0x00 None refl tt then
        entry_one _ _ 0x01 Some two_inverse (λ a. refl) (λ a x. x) then
        end

expr_inverse : (e : Edition) → Inverse Nothing (choice (expr_kinds e)) (as_expr e) (ExprFits e)
unfolding expr_kinds as_expr choice entry nothing
expr_inverse ed = record { back = back; forth = choice_forth (as_expr ed) (ExprFits ed) (expr_kinds ed) entries }
  where
    back : (x : ExprKind) (t : List ℕ) → ExprFits ed x → t ≡ [] → choice (expr_kinds ed) (as_expr ed x ++ t) ≡ got x t
    back (ExprKind.Lit Literal.Int) t f e = refl
    back (ExprKind.Lit Literal.Str) t f e = refl
    back (ExprKind.Lit Literal.Bytes) t f e = refl
    back (ExprKind.Var x) t f e = one_back ExprKind.Var two_inverse x t f tt
    back ExprKind.Wildcard t f e = refl
    back ExprKind.Never t f e = refl
    back (ExprKind.Prefix x) t f e = one_back ExprKind.Prefix two_inverse x t f tt
    back (ExprKind.Fuzzy x d) t f e = pair_back ExprKind.Fuzzy two_inverse byte_inverse x d t f.0 f.1 tt
    back (ExprKind.Record fs) t f e = one_back ExprKind.Record fields_inverse fs t f e
    back (ExprKind.Access (FieldRef.Key x) y) t f e = pair_back (λ n b. ExprKind.Access (FieldRef.Key n) b) two_inverse two_inverse x y t f.0 f.1 tt
    back (ExprKind.Access FieldRef.Value y) t f e = one_back (ExprKind.Access FieldRef.Value) two_inverse y t f tt
    back (ExprKind.Disjunction es) t f e = one_back ExprKind.Disjunction twos_inverse es t f e
    back (ExprKind.Subquery q) t f e = one_back ExprKind.Subquery query_inverse q t f e
    back (ExprKind.Fact p y) t f e =
        ap (λ s. pair ExprKind.Fact (reference ed) two s) (append_assoc (as_reference ed p) (bytes₂ y) t)
        ∙ pair_back ExprKind.Fact (reference_inverse ed) two_inverse p y t f.0 f.1 tt
    back (ExprKind.Arith es) t f e = one_back ExprKind.Arith twos_inverse es t f e
    back ExprKind.Error t f e = refl
    back (ExprKind.Select x y) t f e = pair_back ExprKind.Select two_inverse two_inverse x y t f.0 f.1 tt

    entries : Entries (as_expr ed) (ExprFits ed) 0 (expr_kinds ed)
    entries =
        entry_nothing _ _ 0x00 (ExprKind.Lit Literal.Int) refl tt then
        entry_nothing _ _ 0x01 (ExprKind.Lit Literal.Str) refl tt then
        entry_nothing _ _ 0x02 (ExprKind.Lit Literal.Bytes) refl tt then
        entry_one _ _ 0x03 ExprKind.Var two_inverse (λ a. refl) (λ a x. x) then
        entry_nothing _ _ 0x04 ExprKind.Wildcard refl tt then
        entry_nothing _ _ 0x05 ExprKind.Never refl tt then
        entry_one _ _ 0x06 ExprKind.Prefix two_inverse (λ a. refl) (λ a x. x) then
        entry_pair _ _ 0x07 ExprKind.Fuzzy two_inverse byte_inverse (λ a b. refl) (λ a b x y. (x, y)) then
        entry_one _ _ 0x08 ExprKind.Record fields_inverse (λ a. refl) (λ a x. x) then
        entry_pair _ _ 0x09 (λ n b. ExprKind.Access (FieldRef.Key n) b) two_inverse two_inverse (λ a b. refl) (λ a b x y. (x, y)) then
        entry_one _ _ 0x0a (ExprKind.Access FieldRef.Value) two_inverse (λ a. refl) (λ a x. x) then
        entry_one _ _ 0x0b ExprKind.Disjunction twos_inverse (λ a. refl) (λ a x. x) then
        entry_one _ _ 0x0c ExprKind.Subquery query_inverse (λ a. refl) (λ a x. x) then
        entry_pair _ _ 0x0d ExprKind.Fact (reference_inverse ed) two_inverse (λ a b. refl) (λ a b x y. (x, y)) then
        entry_one _ _ 0x0e ExprKind.Arith twos_inverse (λ a. refl) (λ a x. x) then
        entry_nothing _ _ 0x0f ExprKind.Error refl tt then
        entry_pair _ _ 0x10 ExprKind.Select two_inverse two_inverse (λ a b. refl) (λ a b x y. (x, y)) then
        end

node_inverse : (e : Edition) → Inverse Nothing (span_and_kind e) (as_node e) (NodeFits e)
unfolding span_and_kind as_node
node_inverse e = triple_inverse (λ start end kind. record { span = record { start = start; end = end }; kind = kind }) four_inverse four_inverse
    (expr_inverse e) (as_node e) (NodeFits e) (λ n. n.span.start) (λ n. n.span.end) (λ n. n.kind) (λ n. refl) (λ n. refl) (λ a b c. refl)
    (λ n h. h) (λ a b c x y z. (x, y, z))

text_inverse : Inverse Nothing rest (λ s. s) (All Byte)
unfolding rest
text_inverse = record { back = λ s t f e. rw (e, append-nil); forth = forth }
  where
    forth : (s a t : List ℕ) → All Byte s → rest s ≡ got a t → Took (λ x. x) (All Byte) s a t
    forth s a t h e =
        let p : s ≡ a = cc in
        let q : t ≡ [] = cc in
        record { bytes = rw (q, append-nil) p; fits = rw p at h; rest = rw q tt }

-- ---- Frames

pub content_back : (e : Edition) (f : Frame) → FrameFits e f → frame e (frame_kind f) (as_content e f ++ []) ≡ got f []
unfolding frame frame_kind as_content
content_back e (the_limits d t) h = pair_back the_limits byte_inverse two_inverse d t [] h.0 h.1 tt
content_back e (a_name s) h = one_back a_name text_inverse s [] h refl
content_back e (a_type t) h = one_back a_type (shape_inverse e) t [] h refl
content_back e (a_predicate n k v) h = triple_back a_predicate two_inverse two_inverse value_inverse n k v [] h.0 h.1 h.2 tt
content_back e (a_node n) h = one_back a_node (node_inverse e) n [] h refl
content_back e (the_query q) h = one_back the_query query_inverse q [] h refl

pub record FrameTook (e : Edition) (k : Kind) (s : List ℕ) (f : Frame) (t : List ℕ) : Type 0 where
  pub kind : frame_kind f ≡ k
  pub bytes : s ≡ as_content e f ++ t
  pub fits : FrameFits e f

pub content_forth : (e : Edition) (k : Kind) (s : List ℕ) (f : Frame) (t : List ℕ) → All Byte s → frame e k s ≡ got f t → FrameTook e k s f t
unfolding frame frame_kind as_content
content_forth e Kind.limits s f t h q = let k = pair_forth the_limits byte_inverse two_inverse s f t h q in record
    { kind = rw k.is; bytes = rw k.is k.bytes; fits = rw k.is (k.fits, k.fits') }
content_forth e Kind.name s f t h q = let k = one_forth a_name text_inverse s f t h q in record
    { kind = rw k.is; bytes = rw k.is k.took.bytes; fits = rw k.is k.took.fits }
content_forth e Kind.schema_type s f t h q = let k = one_forth a_type (shape_inverse e) s f t h q in record
    { kind = rw k.is; bytes = rw k.is k.took.bytes; fits = rw k.is k.took.fits }
content_forth e Kind.predicate s f t h q = let k = triple_forth a_predicate two_inverse two_inverse value_inverse s f t h q in record
    { kind = rw k.is; bytes = rw k.is k.bytes; fits = rw k.is (k.fits, k.fits', k.fits'') }
content_forth e Kind.node s f t h q = let k = one_forth a_node (node_inverse e) s f t h q in record
    { kind = rw k.is; bytes = rw k.is k.took.bytes; fits = rw k.is k.took.fits }
content_forth e Kind.query s f t h q = let k = one_forth the_query query_inverse s f t h q in record
    { kind = rw k.is; bytes = rw k.is k.took.bytes; fits = rw k.is k.took.fits }
