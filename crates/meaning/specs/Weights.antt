-- What a run rests on, and what the nodes under a node weigh together, by which everything that a run makes is bounded: means to demand 3 and to the
-- room that the code's regions have.
use Rattle.std.specs.Prelude.{true, false, List, [], ◌∷◌, ◌++◌, ℕ, zero, suc, ◌+◌, ◌<◌, eqb, length}
use Rattle.format.specs.Syntax.{ExprKind, Node, Ast, node_at}
use Rattle.format.specs.Schema.{Schema}
use Rattle.format.specs.References.{expr_nodes, query_nodes}
use Rattle.format.specs.All.{All, Distinct}
use Rattle.format.specs.Sound.{DeclaredPredicate, Lower, nodes_named}

-- What of a file that passes 1 to 10 the run rests on.
pub record WellFormed (schema : Schema) (ast : Ast) : Type 0 where
  pub declared : All DeclaredPredicate schema.predicates
  pub lower : Lower 0 ast.nodes
  pub once : Distinct (nodes_named ast.nodes ++ query_nodes ast.query)
  pub query : All (λ m. m < length ast.nodes) (query_nodes ast.query)

-- ---- Weights

-- 1 where two numbers are the same.
unfoldable pub same : ℕ → ℕ → ℕ
same x n = elim (eqb x n) [ true ↦ 1 | false ↦ 0 ]

unfoldable pub sum_of : (ℕ → ℕ) → List ℕ → ℕ
sum_of f [] = 0
sum_of f (n ∷ ns) = f n + sum_of f ns

-- The sum over the first n numbers.
unfoldable pub total : (ℕ → ℕ) → ℕ → ℕ
total f zero = 0
total f (suc n) = f n + total f n

-- What a node weighs with all that it names, each by its own weight. The number bounds the depth, as in `walk`.
unfoldable pub weight : List Node → (ℕ → ℕ) → ℕ → ℕ → ℕ
unfolding sum_of node_at expr_nodes
weight nodes own zero n = own n
weight nodes own (suc d) n = own n + sum_of (λ m. weight nodes own d m) (expr_nodes (node_at nodes n).kind)

-- How many nodes stand under a node, itself included.
abbrev pub size : List Node → ℕ → ℕ → ℕ
size nodes d n = weight nodes (λ m. 1) d n

-- The records under a node, and the fields of all of them: what `infer` makes of record types at most.
unfoldable pub records_of : ExprKind → ℕ
records_of (ExprKind.Record fs) = 1
records_of (ExprKind.Lit l) = 0
records_of (ExprKind.Var x) = 0
records_of ExprKind.Wildcard = 0
records_of ExprKind.Never = 0
records_of (ExprKind.Prefix x) = 0
records_of (ExprKind.Fuzzy x d) = 0
records_of (ExprKind.Access f e) = 0
records_of (ExprKind.Disjunction es) = 0
records_of (ExprKind.Subquery q) = 0
records_of (ExprKind.Fact p e) = 0
records_of (ExprKind.Arith es) = 0
records_of ExprKind.Error = 0
records_of (ExprKind.Select x e) = 0

unfoldable pub fields_of : ExprKind → ℕ
fields_of (ExprKind.Record fs) = length fs
fields_of (ExprKind.Lit l) = 0
fields_of (ExprKind.Var x) = 0
fields_of ExprKind.Wildcard = 0
fields_of ExprKind.Never = 0
fields_of (ExprKind.Prefix x) = 0
fields_of (ExprKind.Fuzzy x d) = 0
fields_of (ExprKind.Access f e) = 0
fields_of (ExprKind.Disjunction es) = 0
fields_of (ExprKind.Subquery q) = 0
fields_of (ExprKind.Fact p e) = 0
fields_of (ExprKind.Arith es) = 0
fields_of ExprKind.Error = 0
fields_of (ExprKind.Select x e) = 0

abbrev pub records : List Node → ℕ → ℕ → ℕ
records nodes d n = weight nodes (λ m. records_of (node_at nodes m).kind) d n

abbrev pub record_fields : List Node → ℕ → ℕ → ℕ
record_fields nodes d n = weight nodes (λ m. fields_of (node_at nodes m).kind) d n
