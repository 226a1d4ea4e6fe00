-- What holds of every file that passes 1 to 10 and 13 (document 01, "Frame lines"): "a node is named at most once", its parts stand before it,
-- and no type repeats a field name or a discriminant.
use mathlib.Core.List.{List, [], ◌∷◌, ◌++◌, flat_map}
use Rattle.std.specs.Prelude.{◌≡◌, ℕ, suc, ◌≤◌, length, None, Option, Some}
use Rattle.text.specs.Utf8.{Text}
use Rattle.unification.specs.Ty.{Ty}
use Rattle.unification.specs.Calls.{Declared}
use Rattle.format.specs.Syntax.{Node, Ast}
use Rattle.format.specs.Schema.{Predicate}
use Rattle.format.specs.Frame.{Kind}
use Rattle.format.specs.References.{expr_names, expr_nodes, query_nodes}
use Rattle.format.specs.SoFar.{SoFar}
use Rattle.format.specs.Conditions.{max_names, max_types, max_predicates, max_nodes, max_queries}
use Rattle.format.specs.File.{Described}
use Rattle.format.specs.All.{All, Distinct, Below}

abbrev pub DeclaredOption : Option Ty → Type 0
DeclaredOption None = Unit {0}
DeclaredOption (Some t) = Declared t

abbrev pub DeclaredPredicate : Predicate → Type 0
DeclaredPredicate p = Declared p.key × DeclaredOption p.value

-- Each node names only nodes before it; the first of the list has this number.
abbrev pub Lower : ℕ → List Node → Type 0
Lower i [] = Unit {0}
Lower i (n ∷ ns) = Below i (expr_nodes n.kind) × Lower (suc i) ns

-- The nodes that the nodes name, in order.
unfoldable pub nodes_named : List Node → List ℕ
unfolding flat_map
nodes_named ns = flat_map (λ n. expr_nodes n.kind) ns

-- What a query obeys, of so many names: "The 512 nodes are for each query", and each node is named at most once within it.
pub record LawfulQuery (names : ℕ) (a : Ast) : Type 0 where
  pub nodes_max : length a.nodes ≤ max_nodes
  pub node_names : All (λ n. Below names (expr_names n.kind)) a.nodes
  pub node_nodes : Lower 0 a.nodes
  pub query_below : Below (length a.nodes) (query_nodes a.query)
  pub once : Distinct (nodes_named a.nodes ++ query_nodes a.query)

-- What holds whenever a line has passed.
pub record Kept (so : SoFar) : Type 0 where
  pub names_max : length so.names ≤ max_names
  pub types_max : length so.types ≤ max_types
  pub predicates_max : length so.predicates ≤ max_predicates
  pub nodes_max : length so.nodes ≤ max_nodes
  pub texts : All (λ s. (n : ℕ) × Text s n) so.names
  pub distinct : Distinct so.names
  pub types : All Declared so.types
  pub predicates : All DeclaredPredicate so.predicates
  pub lower : Lower 0 so.nodes
  pub names_below : All (λ n. Below (length so.names) (expr_names n.kind)) so.nodes
  pub once : Distinct so.named
  pub named : so.named ≡ nodes_named so.nodes
  pub queries : All (LawfulQuery (length so.names)) so.queries
  pub queries_max : length so.queries ≤ max_queries
  -- after a 06 line there is a query, and no node of the next one
  pub one_ended : so.previous ≡ Some Kind.query → 1 ≤ length so.queries
  pub closed : so.previous ≡ Some Kind.query → so.nodes ≡ []

-- The same of each query that a file describes, with the schema.
pub record Sound (d : Described) : Type 0 where
  pub names_max : length d.schema.characters ≤ max_names
  pub predicates_max : length d.schema.predicates ≤ max_predicates
  pub nodes_max : length d.ast.nodes ≤ max_nodes
  pub predicates : All DeclaredPredicate d.schema.predicates
  pub lower : Lower 0 d.ast.nodes
  pub names_below : All (λ n. Below (length d.schema.characters) (expr_names n.kind)) d.ast.nodes
  pub once : Distinct (nodes_named d.ast.nodes ++ query_nodes d.ast.query)
  pub query : Below (length d.ast.nodes) (query_nodes d.ast.query)
