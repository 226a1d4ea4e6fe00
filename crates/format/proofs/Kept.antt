-- What the rules keep, line by line: the parts of `Kept` that a frame changes follow from what it obeys.
use mathlib.Core.List.{List, [], ◌∷◌, ◌++◌, map, flat_map, append-nil, append_assoc}
use mathlib.Core.Path.{◌≡◌, refl, sym, ap, subst, ◌∙◌}
use Prim.Native.Nat.{ℕ, suc, ◌+◌, ◌<◌}
use native.Mathlib.Nat.{zero-add}
use native.Mathlib.Omega.{arith}
use lib.ListN.{length}
use Rattle.unification.specs.Ty.{Record, Union, Ty, Error}
use Rattle.unification.specs.Calls.{Declared, DeclaredRow, Lacks}
use Rattle.unification.specs.Calls as Calls
use Rattle.format.specs.Syntax.{Field, Node, Ast}
use Rattle.format.specs.Frame.{Kind, kind_byte, Alternative, TypeShape, a_leaf, a_record, a_union, Frame, the_limits, a_name, a_type, a_predicate, a_node}
use Rattle.format.specs.Frame.{the_query, frame_kind}
use Rattle.format.specs.References.{field_names, field_values, shape_types, shape_keys, optional, expr_names, expr_nodes, query_nodes, name_refs, type_refs}
use Rattle.format.specs.References.{node_refs, texts_of, keys_of}
use Rattle.format.specs.SoFar.{SoFar, start, type_at, field_row, alternative_row, ty_of, value_ty, predicate_of, add}
use Rattle.format.specs.All.{All, Absent, Distinct, Below}
use Rattle.format.proofs.Obeys.{Obeys, Rules, done, next}
use Rattle.format.specs.Sound.{DeclaredOption, DeclaredPredicate, Lower, nodes_named, LawfulQuery, Kept}
use Rattle.format.proofs.Lists.{all_snoc, all_map, all_at, distinct_append, length_snoc}
use Rattle.std.specs.Prelude.{None, Option, Some}

more_room : {A : Type 0} (s : List A) (x : A) (n : ℕ) → n < length s → n < length (s ++ x ∷ [])
more_room s x n h = omega (arith, length_snoc s x)

-- ---- Types

declared_at : (ts : List Ty) (n : ℕ) → All Declared ts → n < length ts → Declared (type_at ts n)
unfolding type_at
declared_at ts n a h = all_at Declared ts n Error a h

declared_value : (ts : List Ty) (v : Option ℕ) → All Declared ts → All (λ n. n < length ts) (optional v) → DeclaredOption (value_ty ts v)
unfolding value_ty optional
declared_value ts None a h = tt
declared_value ts (Some n) a h = declared_at ts n a h.0

field_lacks : (ts : List Ty) (k : ℕ) (fs : List Field) → Absent k (field_names fs) → Lacks k (field_row ts fs)
unfolding field_row field_names
field_lacks ts k [] a = tt
field_lacks ts k (f ∷ fs) a = (a.0, field_lacks ts k fs a.1)

field_distinct : (ts : List Ty) (fs : List Field) → Distinct (field_names fs) → Calls.DistinctKeys (field_row ts fs)
unfolding field_row field_names
field_distinct ts [] d = tt
field_distinct ts (f ∷ fs) d = (field_lacks ts f.name fs d.0, field_distinct ts fs d.1)

field_declared : (ts : List Ty) (fs : List Field) → All Declared ts → All (λ n. n < length ts) (field_values fs) → DeclaredRow Record (field_row ts fs)
unfolding field_row field_values
field_declared ts [] a h = tt
field_declared ts (f ∷ fs) a h = (refl, declared_at ts f.value a h.0, field_declared ts fs a h.1)

alternative_lacks : (ts : List Ty) (k : ℕ) (alts : List Alternative) → Absent k (map (λ a. a.discriminant) alts) → Lacks k (alternative_row ts alts)
unfolding alternative_row
alternative_lacks ts k [] a = tt
alternative_lacks ts k (x ∷ alts) a = (a.0, alternative_lacks ts k alts a.1)

alternative_distinct : (ts : List Ty) (alts : List Alternative) → Distinct (map (λ a. a.discriminant) alts) → Calls.DistinctKeys (alternative_row ts alts)
unfolding alternative_row
alternative_distinct ts [] d = tt
alternative_distinct ts (x ∷ alts) d = (alternative_lacks ts x.discriminant alts d.0, alternative_distinct ts alts d.1)

alternative_declared : (ts : List Ty) (alts : List Alternative) → All Declared ts → All (λ n. n < length ts) (map (λ a. a.type) alts)
    → DeclaredRow Union (alternative_row ts alts)
unfolding alternative_row
alternative_declared ts [] a h = tt
alternative_declared ts (x ∷ alts) a h = (tt, declared_at ts x.type a h.0, alternative_declared ts alts a h.1)

declared : (ts : List Ty) (t : TypeShape) → All Declared ts → All (λ n. n < length ts) (shape_types t) → Distinct (shape_keys t) → Declared (ty_of ts t)
unfolding ty_of shape_types shape_keys
declared ts (a_leaf p) a h d = tt
declared ts (a_record fs) a h d = (field_distinct ts fs d, field_declared ts fs a h)
declared ts (a_union alts) a h d = (alternative_distinct ts alts d, alternative_declared ts alts a h)

-- ---- Nodes

lower_snoc : (i : ℕ) (ns : List Node) (n : Node) → Lower i ns → All (λ m. m < i + length ns) (expr_nodes n.kind) → Lower i (ns ++ n ∷ [])
lower_snoc i [] n l a = (all_map (λ m. m < i + 0) (λ m. m < i) (expr_nodes n.kind) (λ m h. omega arith) a, tt)
lower_snoc i (x ∷ ns) n l a = (
  l.0,
  lower_snoc (suc i) ns n l.1
      (all_map (λ m. m < i + suc (length ns)) (λ m. m < suc i + length ns) (expr_nodes n.kind) (λ m h. omega arith) a),
)

named_snoc : (ns : List Node) (n : Node) → nodes_named (ns ++ n ∷ []) ≡ nodes_named ns ++ expr_nodes n.kind
unfolding nodes_named flat_map
named_snoc [] n = append-nil (expr_nodes n.kind)
named_snoc (x ∷ ns) n = ap (λ t. expr_nodes x.kind ++ t) (named_snoc ns n) ∙ sym (append_assoc (expr_nodes x.kind) (nodes_named ns) (expr_nodes n.kind))

-- ---- A frame

more_names : (so : SoFar) (s : List ℕ) (ns : List Node) → All (λ n. Below (length so.names) (expr_names n.kind)) ns
    → All (λ n. Below (length (so.names ++ s ∷ [])) (expr_names n.kind)) ns
more_names so s ns a = all_map (λ n. Below (length so.names) (expr_names n.kind))
    (λ n. Below (length (so.names ++ s ∷ [])) (expr_names n.kind)) ns
    (λ n. all_map (λ x. x < length so.names) (λ x. x < length (so.names ++ s ∷ [])) (expr_names n.kind) (λ x. more_room so.names s x)) a

query_more_names : (so : SoFar) (s : List ℕ) (a : Ast) → LawfulQuery (length so.names) a → LawfulQuery (length (so.names ++ s ∷ [])) a
query_more_names so s a q = record {
  nodes_max = q.nodes_max;
  node_names = more_names so s a.nodes q.node_names;
  node_nodes = q.node_nodes;
  query_below = q.query_below;
  once = q.once;
}

-- no query's line: what is said of a last 06 is nothing
other : {X : Type 0} (k : Kind) → kind_byte k < kind_byte Kind.query → Some k ≡ Some Kind.query → X
unfolding kind_byte
other k h e = let same : k ≡ Kind.query = cc in let less : kind_byte Kind.query < kind_byte Kind.query = subst (λ j. kind_byte j < kind_byte Kind.query)
    same h in absurd (omega arith)

kept_add : (so : SoFar) (f : Frame) → Kept so → Obeys so f → Kept (add so f)
unfolding add name_refs type_refs node_refs texts_of keys_of frame_kind kind_byte nodes_named flat_map
kept_add so (the_limits d t) k o =
    record {
      names_max = k.names_max;
      types_max = k.types_max;
      predicates_max = k.predicates_max;
      nodes_max = k.nodes_max;
      texts = k.texts;
      distinct = k.distinct;
      types = k.types;
      predicates = k.predicates;
      lower = k.lower;
      names_below = k.names_below;
      once = k.once;
      named = k.named;
      queries = k.queries;
      queries_max = k.queries_max;
      one_ended = other Kind.limits (omega arith);
      closed = other Kind.limits (omega arith);
    }
kept_add so (a_name s) k o =
    record {
      names_max = rw (length_snoc so.names s) o.room;
      types_max = k.types_max;
      predicates_max = k.predicates_max;
      nodes_max = k.nodes_max;
      texts = all_snoc _ so.names s k.texts o.text.0;
      distinct = distinct_append so.names (s ∷ []) k.distinct (tt, tt)
          (o.new.0, tt);
      types = k.types;
      predicates = k.predicates;
      lower = k.lower;
      names_below = more_names so s so.nodes k.names_below;
      once = k.once;
      named = k.named;
      queries = all_map (LawfulQuery (length so.names)) (LawfulQuery (length (so.names ++ s ∷ [])))
          so.queries (query_more_names so s) k.queries;
      queries_max = k.queries_max;
      one_ended = other Kind.name (omega arith);
      closed = other Kind.name (omega arith);
    }
kept_add so (a_type t) k o =
    record {
      names_max = k.names_max;
      types_max = rw (length_snoc so.types (ty_of so.types t)) o.room;
      predicates_max = k.predicates_max;
      nodes_max = k.nodes_max;
      texts = k.texts;
      distinct = k.distinct;
      types = all_snoc Declared so.types (ty_of so.types t) k.types (declared so.types t k.types o.types o.keys);
      predicates = k.predicates;
      lower = k.lower;
      names_below = k.names_below;
      once = k.once;
      named = k.named;
      queries = k.queries;
      queries_max = k.queries_max;
      one_ended = other Kind.schema_type (omega arith);
      closed = other Kind.schema_type (omega arith);
    }
kept_add so (a_predicate n key v) k o =
    record {
      names_max = k.names_max;
      types_max = k.types_max;
      predicates_max = rw (length_snoc so.predicates (predicate_of so.types n key v))
          o.room;
      nodes_max = k.nodes_max;
      texts = k.texts;
      distinct = k.distinct;
      types = k.types;
      predicates = all_snoc DeclaredPredicate so.predicates (predicate_of so.types n key v) k.predicates
          (declared_at so.types key k.types o.types.0, declared_value so.types v k.types o.types.1);
      lower = k.lower;
      names_below = k.names_below;
      once = k.once;
      named = k.named;
      queries = k.queries;
      queries_max = k.queries_max;
      one_ended = other Kind.predicate (omega arith);
      closed = other Kind.predicate (omega arith);
    }
kept_add so (a_node n) k o =
    record {
      names_max = k.names_max;
      types_max = k.types_max;
      predicates_max = k.predicates_max;
      nodes_max = rw (length_snoc so.nodes n) o.room;
      texts = k.texts;
      distinct = k.distinct;
      types = k.types;
      predicates = k.predicates;
      lower = lower_snoc 0 so.nodes n k.lower (rw zero-add o.nodes);
      names_below = all_snoc (λ x. All (λ y. y < length so.names) (expr_names x.kind)) so.nodes n k.names_below o.names;
      once = distinct_append so.named (expr_nodes n.kind) k.once o.once o.unnamed;
      named = rw (k.named, named_snoc);
      queries = k.queries;
      queries_max = k.queries_max;
      one_ended = other Kind.node (omega arith);
      closed = other Kind.node (omega arith);
    }
kept_add so (the_query q) k o =
    let a : Ast = record { nodes = so.nodes; query = q } in
    let whole : Distinct (nodes_named so.nodes ++ query_nodes q) = rw k.named at
    (distinct_append so.named (query_nodes q) k.once o.once o.unnamed) in
    let last : LawfulQuery (length so.names) a = record
    { nodes_max = k.nodes_max; node_names = k.names_below; node_nodes = k.lower; query_below = o.nodes; once = whole } in
    record {
      names_max = k.names_max;
      types_max = k.types_max;
      predicates_max = k.predicates_max;
      nodes_max = omega arith;
      texts = k.texts;
      distinct = k.distinct;
      types = k.types;
      predicates = k.predicates;
      lower = tt;
      names_below = tt;
      once = tt;
      named = refl;
      queries = all_snoc (LawfulQuery (length so.names)) so.queries a k.queries last;
      queries_max = rw (length_snoc so.queries a) o.room;
      one_ended = λ e. omega (arith, length_snoc so.queries a);
      closed = λ e. refl;
    }

kept_start : Kept start
unfolding start nodes_named flat_map
kept_start = record {
  names_max = omega arith;
  types_max = omega arith;
  predicates_max = omega arith;
  nodes_max = omega arith;
  texts = tt;
  distinct = tt;
  types = tt;
  predicates = tt;
  lower = tt;
  names_below = tt;
  once = tt;
  named = refl;
  queries = tt;
  queries_max = omega arith;
  one_ended = λ e. no_query e;
  closed = λ e. refl;
}
  where
    no_query : {X : Type 0} → None ≡ Some Kind.query → X
    no_query e = let z : ◌≡◌ {A = ℕ} 0 1 = cc in absurd (omega arith)

kept_from : {so end : SoFar} {fs : List Frame} → Rules so fs end → Kept so → Kept end
kept_from done k = k
kept_from (next {so = so} {f = f} o r) k = kept_from r (kept_add so f k o)

pub kept : {end : SoFar} {fs : List Frame} → Rules start fs end → Kept end
kept r = kept_from r kept_start
