-- A file names no absent predicate exactly where no number in its frames is as high as the number of its predicates.
use mathlib.Core.Bool.{false}
use mathlib.Core.List.{List, [], ◌∷◌, ◌++◌, map, flat_map}
use mathlib.Core.Path.{◌≡◌}
use Prim.Native.Nat.{ℕ, ◌<◌}
use lib.Dec.{leb}
use lib.ListN.{length}
use borrow.Author.Tests.{leb-false, lt-leb}
use Rattle.unification.specs.Ty.{Int, String, Bytes, Fact}
use Rattle.format.specs.Syntax.{ExprKind, Ast}
use Rattle.format.specs.Frame.{TypeShape, a_leaf, a_record, a_union, Frame, the_limits, a_name, a_type, a_node, the_query}
use Rattle.format.specs.Conditions.{any_of}
use Rattle.format.specs.All.{All, Below}
use Rattle.format.specs.Content.{Content, predicate_frame, query_frames, schema_frames, frames_of}
use Rattle.format.proofs.Lists.{all_append, all_left, all_right}
use Rattle.format.proofs.Tests.{none_passes, passes_none}
use Rattle.editions.specs.Converted.{shape_predicates, expr_predicates, predicates}
use Rattle.laws.specs.Growth.{ShapeFacts, NodeFacts, NoAbsent}

module _ (n : ℕ) where
  -- the numbers of a frame are below
  abbrev Low : Frame → Type 0
  Low f = Below n (predicates f)

  each_low : (fs : List Frame) → Below n (flat_map predicates fs) → All Low fs
  unfolding flat_map
  each_low [] h = tt
  each_low (f ∷ fs) h = (all_left _ (predicates f) (flat_map predicates fs) h, each_low fs (all_right _ (predicates f) (flat_map predicates fs) h))

  all_low : (fs : List Frame) → All Low fs → Below n (flat_map predicates fs)
  unfolding flat_map
  all_low [] h = tt
  all_low (f ∷ fs) h = all_append _ (predicates f) (flat_map predicates fs) h.0 (all_low fs h.1)

  -- ---- A type, a node

  shape_facts : (t : TypeShape) → Below n (shape_predicates t) → ShapeFacts (λ p. p < n) t
  unfolding shape_predicates
  shape_facts (a_leaf Int) h = tt
  shape_facts (a_leaf String) h = tt
  shape_facts (a_leaf Bytes) h = tt
  shape_facts (a_leaf (Fact p)) h = h.0
  shape_facts (a_record fs) h = tt
  shape_facts (a_union alts) h = tt

  facts_shape : (t : TypeShape) → ShapeFacts (λ p. p < n) t → Below n (shape_predicates t)
  unfolding shape_predicates
  facts_shape (a_leaf Int) h = tt
  facts_shape (a_leaf String) h = tt
  facts_shape (a_leaf Bytes) h = tt
  facts_shape (a_leaf (Fact p)) h = (h, tt)
  facts_shape (a_record fs) h = tt
  facts_shape (a_union alts) h = tt

  node_facts : (k : ExprKind) → Below n (expr_predicates k) → NodeFacts (λ p. p < n) k
  unfolding expr_predicates
  node_facts (ExprKind.Fact p x) h = h.0
  node_facts (ExprKind.Lit l) h = tt
  node_facts (ExprKind.Var x) h = tt
  node_facts ExprKind.Wildcard h = tt
  node_facts ExprKind.Never h = tt
  node_facts (ExprKind.Prefix x) h = tt
  node_facts (ExprKind.Fuzzy x d) h = tt
  node_facts (ExprKind.Record fs) h = tt
  node_facts (ExprKind.Access f x) h = tt
  node_facts (ExprKind.Disjunction es) h = tt
  node_facts (ExprKind.Subquery q) h = tt
  node_facts (ExprKind.Arith es) h = tt
  node_facts ExprKind.Error h = tt
  node_facts (ExprKind.Select m x) h = tt

  facts_node : (k : ExprKind) → NodeFacts (λ p. p < n) k → Below n (expr_predicates k)
  unfolding expr_predicates
  facts_node (ExprKind.Fact p x) h = (h, tt)
  facts_node (ExprKind.Lit l) h = tt
  facts_node (ExprKind.Var x) h = tt
  facts_node ExprKind.Wildcard h = tt
  facts_node ExprKind.Never h = tt
  facts_node (ExprKind.Prefix x) h = tt
  facts_node (ExprKind.Fuzzy x d) h = tt
  facts_node (ExprKind.Record fs) h = tt
  facts_node (ExprKind.Access f x) h = tt
  facts_node (ExprKind.Disjunction es) h = tt
  facts_node (ExprKind.Subquery q) h = tt
  facts_node (ExprKind.Arith es) h = tt
  facts_node ExprKind.Error h = tt
  facts_node (ExprKind.Select m x) h = tt

  -- ---- Kind by kind

  module _ {A : Type 0} (make : A → Frame) (P : A → Type 0) where
    low_kind : ((a : A) → Low (make a) → P a) → (l : List A) → All Low (map make l) → All P l
    low_kind g [] h = tt
    low_kind g (a ∷ l) h = (g a h.0, low_kind g l h.1)

    kind_low : ((a : A) → P a → Low (make a)) → (l : List A) → All P l → All Low (map make l)
    kind_low g [] h = tt
    kind_low g (a ∷ l) h = (g a h.0, kind_low g l h.1)

  abbrev NodesLow : Ast → Type 0
  NodesLow a = All (λ m. NodeFacts (λ p. p < n) m.kind) a.nodes

  low_queries : (qs : List Ast) → All Low (flat_map query_frames qs) → All NodesLow qs
  unfolding flat_map query_frames predicates
  low_queries [] h = tt
  low_queries (a ∷ qs) h =
      let q = all_left Low (map a_node a.nodes ++ the_query a.query ∷ []) (flat_map query_frames qs) h in (
        low_kind a_node _ (λ m k. node_facts m.kind k) a.nodes (all_left Low (map a_node a.nodes) (the_query a.query ∷ []) q),
        low_queries qs (all_right Low (map a_node a.nodes ++ the_query a.query ∷ []) (flat_map query_frames qs) h),
      )

  queries_low : (qs : List Ast) → All NodesLow qs → All Low (flat_map query_frames qs)
  unfolding flat_map query_frames predicates
  queries_low [] h = tt
  queries_low (a ∷ qs) h =
      all_append Low (map a_node a.nodes ++ the_query a.query ∷ []) (flat_map query_frames qs)
      (all_append Low (map a_node a.nodes) (the_query a.query ∷ []) (kind_low a_node _ (λ m k. facts_node m.kind k) a.nodes h.0) (tt, tt))
      (queries_low qs h.1)

-- ---- The whole

module _ (c : Content) where
  abbrev count : ℕ
  count = length c.predicates

  low_absent : All (Low count) (frames_of c) → NoAbsent c
  unfolding frames_of schema_frames predicates
  low_absent h =
      let names = map a_name c.names in
      let types = map a_type c.types in
      let named = map predicate_frame c.predicates in
      let schema = all_left (Low count) (the_limits c.max_distance c.max_term_chars ∷ names ++ (types ++ named)) (flat_map query_frames c.queries) h in
      let queries = all_right (Low count) (the_limits c.max_distance c.max_term_chars ∷ names ++ (types ++ named)) (flat_map query_frames c.queries) h in
      record {
        types = low_kind count a_type _ (λ t k. shape_facts count t k) c.types
            (all_left (Low count) types named (all_right (Low count) names (types ++ named) schema.1));
        nodes = low_queries count c.queries queries;
      }

  absent_low : NoAbsent c → All (Low count) (frames_of c)
  unfolding frames_of schema_frames predicates
  absent_low h =
      let names = map a_name c.names in
      let types = map a_type c.types in
      let named = map predicate_frame c.predicates in
      let low-types = kind_low count a_type _ (λ t k. facts_shape count t k) c.types h.types in
      let low-named = kind_low count predicate_frame (λ s. Unit {0}) (λ s k. tt) c.predicates (everything c.predicates) in
      let low-names = kind_low count a_name (λ s. Unit {0}) (λ s k. tt) c.names (everything c.names) in
      all_append (Low count) (the_limits c.max_distance c.max_term_chars ∷ names ++ (types ++ named)) (flat_map query_frames c.queries)
      (tt, all_append (Low count) names (types ++ named) low-names (all_append (Low count) types named low-types low-named))
      (queries_low count c.queries h.nodes)
    where
      everything : {A : Type 0} (l : List A) → All (λ a. Unit {0}) l
      everything [] = tt
      everything (a ∷ l) = (tt, everything l)

  pub none_absent : any_of (leb count) (flat_map predicates (frames_of c)) ≡ false → NoAbsent c
  none_absent h =
      low_absent (each_low count (frames_of c) (none_passes (leb count) (λ p. p < count) (λ p q. leb-false count p q) (flat_map predicates (frames_of c)) h))

  pub absent_none : NoAbsent c → any_of (leb count) (flat_map predicates (frames_of c)) ≡ false
  absent_none h =
      passes_none (leb count) (λ p. p < count) (λ p q. lt-leb count p q) (flat_map predicates (frames_of c)) (all_low count (frames_of c) (absent_low h))
