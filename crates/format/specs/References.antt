-- What a frame refers to, gives and may not repeat: document 01, "When a file is turned down", conditions 7 to 10. References to
-- predicates are left out, since they "need not exist".
use Rattle.std.specs.Prelude.{List, [], ◌∷◌, map, ℕ, None, Option, Some}
use Rattle.format.specs.Syntax.{Field, QueryStmt, Query, FieldRef, ExprKind}
use Rattle.format.specs.Frame.{TypeShape, a_leaf, a_record, a_union, Frame, the_limits, a_name, a_type, a_predicate, a_node, the_query}

unfoldable pub field_names : List Field → List ℕ
field_names fs = map (λ f. f.name) fs

unfoldable pub field_values : List Field → List ℕ
field_values fs = map (λ f. f.value) fs

unfoldable pub shape_names : TypeShape → List ℕ
unfolding field_names
shape_names (a_leaf p) = []
shape_names (a_record fs) = field_names fs
shape_names (a_union alts) = map (λ a. a.name) alts

unfoldable pub shape_types : TypeShape → List ℕ
unfolding field_values
shape_types (a_leaf p) = []
shape_types (a_record fs) = field_values fs
shape_types (a_union alts) = map (λ a. a.type) alts

unfoldable pub optional : Option ℕ → List ℕ
optional None = []
optional (Some n) = n ∷ []

unfoldable pub stmt_nodes : List QueryStmt → List ℕ
stmt_nodes [] = []
stmt_nodes (QueryStmt.Bind l r ∷ ss) = l ∷ r ∷ stmt_nodes ss
stmt_nodes (QueryStmt.Deny l r ∷ ss) = l ∷ r ∷ stmt_nodes ss
stmt_nodes (QueryStmt.Compare l r ∷ ss) = l ∷ r ∷ stmt_nodes ss
stmt_nodes (QueryStmt.Implicit e ∷ ss) = e ∷ stmt_nodes ss
stmt_nodes (QueryStmt.Negation e ∷ ss) = e ∷ stmt_nodes ss

unfoldable pub query_nodes : Query → List ℕ
unfolding stmt_nodes
query_nodes q = q.head ∷ stmt_nodes q.body

unfoldable pub expr_names : ExprKind → List ℕ
unfolding field_names
expr_names (ExprKind.Lit l) = []
expr_names (ExprKind.Var x) = x ∷ []
expr_names ExprKind.Wildcard = []
expr_names ExprKind.Never = []
expr_names (ExprKind.Prefix x) = x ∷ []
expr_names (ExprKind.Fuzzy x d) = x ∷ []
expr_names (ExprKind.Record fs) = field_names fs
expr_names (ExprKind.Access (FieldRef.Key x) e) = x ∷ []
expr_names (ExprKind.Access FieldRef.Value e) = []
expr_names (ExprKind.Disjunction es) = []
expr_names (ExprKind.Subquery q) = []
expr_names (ExprKind.Fact p e) = []
expr_names (ExprKind.Arith es) = []
expr_names ExprKind.Error = []
expr_names (ExprKind.Select x e) = x ∷ []

unfoldable pub expr_nodes : ExprKind → List ℕ
unfolding field_values query_nodes
expr_nodes (ExprKind.Lit l) = []
expr_nodes (ExprKind.Var x) = []
expr_nodes ExprKind.Wildcard = []
expr_nodes ExprKind.Never = []
expr_nodes (ExprKind.Prefix x) = []
expr_nodes (ExprKind.Fuzzy x d) = []
expr_nodes (ExprKind.Record fs) = field_values fs
expr_nodes (ExprKind.Access f e) = e ∷ []
expr_nodes (ExprKind.Disjunction es) = es
expr_nodes (ExprKind.Subquery q) = query_nodes q
expr_nodes (ExprKind.Fact p e) = e ∷ []
expr_nodes (ExprKind.Arith es) = es
expr_nodes ExprKind.Error = []
expr_nodes (ExprKind.Select x e) = e ∷ []

unfoldable pub name_refs : Frame → List ℕ
unfolding shape_names expr_names
name_refs (the_limits d t) = []
name_refs (a_name s) = []
name_refs (a_type t) = shape_names t
name_refs (a_predicate n k v) = n ∷ []
name_refs (a_node n) = expr_names n.kind
name_refs (the_query q) = []

unfoldable pub type_refs : Frame → List ℕ
unfolding shape_types optional
type_refs (the_limits d t) = []
type_refs (a_name s) = []
type_refs (a_type t) = shape_types t
type_refs (a_predicate n k v) = k ∷ optional v
type_refs (a_node n) = []
type_refs (the_query q) = []

unfoldable pub node_refs : Frame → List ℕ
unfolding expr_nodes query_nodes
node_refs (the_limits d t) = []
node_refs (a_name s) = []
node_refs (a_type t) = []
node_refs (a_predicate n k v) = []
node_refs (a_node n) = expr_nodes n.kind
node_refs (the_query q) = query_nodes q

-- What may not repeat in a type: a record's names, a union's discriminants.
unfoldable pub shape_keys : TypeShape → List ℕ
unfolding field_names
shape_keys (a_leaf p) = []
shape_keys (a_record fs) = field_names fs
shape_keys (a_union alts) = map (λ a. a.discriminant) alts

-- A name's text.
unfoldable pub texts_of : Frame → List (List ℕ)
texts_of (the_limits d t) = []
texts_of (a_name s) = s ∷ []
texts_of (a_type t) = []
texts_of (a_predicate n k v) = []
texts_of (a_node n) = []
texts_of (the_query q) = []

-- What may not repeat within the frame.
unfoldable pub keys_of : Frame → List ℕ
unfolding shape_keys
keys_of (the_limits d t) = []
keys_of (a_name s) = []
keys_of (a_type t) = shape_keys t
keys_of (a_predicate n k v) = []
keys_of (a_node n) = []
keys_of (the_query q) = []
