-- The syntax tree of a query: syntax.rs, `ExprKind`, `QueryStmt`, `Query`, `SyntaxTree`, `Ast`. Symbols, predicates and
-- nodes are numbers; what `check` never reads (literal values, operators, anchors) is left out.
use Rattle.std.specs.Prelude.{Bool, true, false, List, [], ◌∷◌, ℕ, zero, suc, get_or}

pub record Span : Type 0 where
  pub start : ℕ
  pub end : ℕ

pub record Field : Type 0 where
  pub name : ℕ
  pub value : ℕ

pub data QueryStmt : Type 0 where
  Bind Deny Compare : ℕ → ℕ → QueryStmt
  Implicit Negation : ℕ → QueryStmt

pub record Query : Type 0 where
  pub head : ℕ
  pub body : List QueryStmt

pub data FieldRef : Type 0 where
  Key : ℕ → FieldRef
  Value : FieldRef

pub data Literal : Type 0 where
  Int Str Bytes : Literal

pub data ExprKind : Type 0 where
  Lit : Literal → ExprKind
  Var : ℕ → ExprKind
  Wildcard Never : ExprKind
  Prefix : ℕ → ExprKind
  -- the term, the distance
  Fuzzy : ℕ → ℕ → ExprKind
  Record : List Field → ExprKind
  Access : FieldRef → ℕ → ExprKind
  Disjunction : List ℕ → ExprKind
  Subquery : Query → ExprKind
  Fact : ℕ → ℕ → ExprKind
  Arith : List ℕ → ExprKind
  Error : ExprKind
  Select : ℕ → ℕ → ExprKind

pub record Node : Type 0 where
  pub span : Span
  pub kind : ExprKind

-- A node names only lower ones.
pub record Ast : Type 0 where
  pub nodes : List Node
  pub query : Query

unfoldable pub no_node : Node
no_node = record { span = record { start = 0; end = 0 }; kind = Error }

unfoldable pub node_at : List Node → ℕ → Node
unfolding no_node
node_at ns n = get_or ns n no_node

-- `all` of an iterator over a record's fields
unfoldable pub all_fields : (ℕ → Bool) → List Field → Bool
all_fields ask [] = true
all_fields ask (f ∷ fs) = elim (ask f.value) [ true ↦ all_fields ask fs | false ↦ false ]

unfoldable pub destructurable_kind : (ℕ → Bool) → ExprKind → Bool
unfolding all_fields
destructurable_kind below (Lit l) = false
destructurable_kind below (Var x) = true
destructurable_kind below Wildcard = true
destructurable_kind below Never = false
destructurable_kind below (Prefix x) = false
destructurable_kind below (Fuzzy x d) = false
destructurable_kind below (Record fs) = all_fields below fs
destructurable_kind below (Access f e) = false
destructurable_kind below (Disjunction es) = false
destructurable_kind below (Subquery q) = false
destructurable_kind below (Fact p e) = false
destructurable_kind below (Arith es) = false
destructurable_kind below Error = false
destructurable_kind below (Select x e) = false

-- The number bounds the depth; one more than the node's own number serves, since a node names only lower ones.
unfoldable pub destructurable_in : ℕ → List Node → ℕ → Bool
unfolding destructurable_kind node_at
destructurable_in zero ns n = false
destructurable_in (suc d) ns n = destructurable_kind (λ m. destructurable_in d ns m) (node_at ns n).kind

-- `is_destructurable`: a variable, a wildcard, or a record of them to any depth; an empty record is.
unfoldable pub is_destructurable : List Node → ℕ → Bool
unfolding destructurable_in
is_destructurable ns n = destructurable_in (suc n) ns n
