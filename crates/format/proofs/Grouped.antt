-- Frames that obey the rules stand kind by kind up to the predicates, then query by query: since the kinds never fall before the first
-- query, what follows a frame of the schema has no kind below it, and after a query only nodes and queries come.
use mathlib.Core.Bool.{true, true≢false}
use mathlib.Core.List.{List, [], ◌∷◌, ◌++◌, map, flat_map, append-nil, append_assoc, map-append}
use mathlib.Core.Path.{◌≡◌, refl, sym, ap, subst, ◌∙◌}
use Prim.Native.Nat.{ℕ, ◌<◌, ◌≤◌}
use native.Mathlib.Omega.{arith}
use lib.Dec.{ltb, eqb}
use lib.ListN.{length}
use borrow.Author.Tests.{ltb-true, eqb-true}
use Rattle.format.specs.Syntax.{Query, Node, Ast}
use Rattle.format.specs.Frame.{Kind, limits, name, schema_type, predicate, node, query, kind_byte, repeatable, rises, follows, may_stand, TypeShape}
use Rattle.format.specs.Frame.{Frame, the_limits, a_name, a_type, a_predicate, a_node, the_query, frame_kind}
use Rattle.format.specs.References.{shape_names, shape_keys, optional, name_refs, type_refs, keys_of}
use Rattle.format.specs.SoFar.{SoFar, ty_of, add}
use Rattle.format.specs.All.{All, Distinct, Below}
use Rattle.format.proofs.Obeys.{Obeys, Rules, done, next}
use Rattle.format.specs.Content.{PredicateFrame, predicate_frame, query_frames, TypesBefore, types_from, predicate_with}
use Rattle.format.proofs.Tests.{cases}
use Rattle.format.proofs.Lists.{length_snoc}
use Rattle.std.specs.Prelude.{Some}

-- ---- Kinds

-- up to the predicates
not_falling : (p k : Kind) → kind_byte k < kind_byte node → follows p k ≡ true → kind_byte p ≤ kind_byte k
unfolding follows rises
not_falling p k h e = cases (eqb (kind_byte p) (kind_byte query))
    (λ o. let z : eqb (kind_byte k) (kind_byte node) ≡ true = rw (o, follows) at e in absurd
    (let same = eqb-true (kind_byte k) (kind_byte node) z in omega (arith, same, h)))
    (λ o. let r : rises p k ≡ true = rw (o, follows) at e in rising p k r)
  where
    rising : (p k : Kind) → rises p k ≡ true → kind_byte p ≤ kind_byte k
    rising p k e = cases (ltb (kind_byte p) (kind_byte k))
        (λ q. omega (arith, ltb-true (kind_byte p) (kind_byte k) q))
        (λ q. cases (eqb (kind_byte p) (kind_byte k))
        (λ r. omega (arith, eqb-true (kind_byte p) (kind_byte k) r))
        (λ r. absurd (true≢false (sym (rw (q, rises, r) at e)))))

limits_once : (p : Kind) → follows p limits ≡ true → ⊥
unfolding follows rises kind_byte repeatable
limits_once limits e = true≢false (sym e)
limits_once name e = true≢false (sym e)
limits_once schema_type e = true≢false (sym e)
limits_once predicate e = true≢false (sym e)
limits_once node e = true≢false (sym e)
limits_once query e = true≢false (sym e)

-- ---- What follows, kind by kind

-- Nodes and queries, after the nodes and queries that are there already: the queries that end, and the nodes left over.
pub record Tail (ns : List Node) (qs : List Ast) (fs : List Frame) (end : SoFar) : Type 0 where
  pub queries : List Ast
  pub are : map a_node ns ++ fs ≡ flat_map query_frames queries ++ map a_node end.nodes
  pub end_queries : end.queries ≡ qs ++ queries

no_tail : (so : SoFar) → Tail so.nodes so.queries [] so
unfolding flat_map
no_tail so = record { queries = []; are = append-nil (map a_node so.nodes); end_queries = sym (append-nil so.queries) }

node_tail : (ns : List Node) (qs : List Ast) (n : Node) (fs : List Frame) (end : SoFar) → Tail (ns ++ n ∷ []) qs fs end → Tail ns qs (a_node n ∷ fs) end
node_tail ns qs n fs end t =
    record {
      queries = t.queries;
      are = sym (append_assoc (map a_node ns) (a_node n ∷ []) fs) ∙ ap (λ l. l ++ fs) (sym (map-append a_node ns (n ∷ []))) ∙ t.are;
      end_queries = t.end_queries;
    }

query_tail : (ns : List Node) (qs : List Ast) (q : Query) (fs : List Frame) (end : SoFar)
    → Tail [] (qs ++ record { nodes = ns; query = q } ∷ []) fs end → Tail ns qs (the_query q ∷ fs) end
unfolding query_frames flat_map
query_tail ns qs q fs end t =
    let a : Ast = record { nodes = ns; query = q } in
    record {
      queries = a ∷ t.queries;
      are = sym (append_assoc (map a_node ns) (the_query q ∷ []) fs) ∙ ap (λ l. query_frames a ++ l) t.are ∙ sym
          (append_assoc (query_frames a) (flat_map query_frames t.queries) (map a_node end.nodes));
      end_queries = t.end_queries ∙ append_assoc qs (a ∷ []) t.queries;
    }

-- p: the kind before
pub record Grouped (p : Kind) (so : SoFar) (fs : List Frame) (end : SoFar) : Type 0 where
  pub names : List (List ℕ)
  pub types : List TypeShape
  pub predicates : List PredicateFrame
  pub rest : List Frame
  pub are : fs ≡ map a_name names ++ (map a_type types ++ (map predicate_frame predicates ++ rest))
  pub tail : Tail so.nodes so.queries rest end
  pub end_distance : end.max_distance ≡ so.max_distance
  pub end_term_chars : end.max_term_chars ≡ so.max_term_chars
  pub end_names : end.names ≡ so.names ++ names
  pub end_types : end.types ≡ types_from so.types types
  pub end_predicates : end.predicates ≡ so.predicates ++ map (predicate_with end.types) predicates
  pub type_names : All (λ t. Below (length end.names) (shape_names t)) types
  pub type_types : TypesBefore (length so.types) types
  pub type_keys : All (λ t. Distinct (shape_keys t)) types
  pub predicate_names : All (λ x. x.name < length end.names) predicates
  pub predicate_types : All (λ x. Below (length end.types) (x.key ∷ optional x.value)) predicates
  pub no_names : kind_byte schema_type ≤ kind_byte p → names ≡ []
  pub no_types : kind_byte predicate ≤ kind_byte p → types ≡ []
  pub no_predicates : kind_byte node ≤ kind_byte p → predicates ≡ []

nothing_follows : (p : Kind) (so : SoFar) → Grouped p so [] so
unfolding types_from
nothing_follows p so =
    record {
      names = [];
      types = [];
      predicates = [];
      rest = [];
      are = refl;
      tail = no_tail so;
      end_distance = refl;
      end_term_chars = refl;
      end_names = sym (append-nil so.names);
      end_types = refl;
      end_predicates = sym (append-nil so.predicates);
      type_names = tt;
      type_types = tt;
      type_keys = tt;
      predicate_names = tt;
      predicate_types = tt;
      no_names = λ h. refl;
      no_types = λ h. refl;
      no_predicates = λ h. refl;
    }

module _ (p : Kind) (so : SoFar) (end : SoFar) (fs : List Frame) where
  name_first : (s : List ℕ) → follows p name ≡ true → Grouped name (add so (a_name s)) fs end → Grouped p so (a_name s ∷ fs) end
  unfolding add kind_byte
  name_first s e g =
      let low = not_falling p name (omega arith) e in
      record {
        names = s ∷ g.names;
        types = g.types;
        predicates = g.predicates;
        rest = g.rest;
        tail = g.tail;
        are = ap (λ x. a_name s ∷ x) g.are;
        end_distance = g.end_distance;
        end_term_chars = g.end_term_chars;
        end_names = g.end_names ∙ append_assoc so.names (s ∷ []) g.names;
        end_types = g.end_types;
        end_predicates = g.end_predicates;
        type_names = g.type_names;
        type_types = g.type_types;
        type_keys = g.type_keys;
        predicate_names = g.predicate_names;
        predicate_types = g.predicate_types;
        no_names = λ h. absurd (omega arith);
        no_types = λ h. absurd (omega arith);
        no_predicates = λ h. absurd (omega arith);
      }

  type_first : (t : TypeShape) → follows p schema_type ≡ true → Obeys so (a_type t) → Grouped schema_type (add so (a_type t)) fs end
      → Grouped p so (a_type t ∷ fs) end
  unfolding add kind_byte types_from name_refs type_refs keys_of
  type_first t e o g =
      let low = not_falling p schema_type (omega arith) e in
      let no_names : g.names ≡ [] = g.no_names (omega arith) in
      let names : end.names ≡ so.names = g.end_names ∙ ap (λ x. so.names ++ x) no_names ∙ append-nil so.names in
      record {
        names = [];
        types = t ∷ g.types;
        predicates = g.predicates;
        rest = g.rest;
        tail = g.tail;
        are = ap (λ x. a_type t ∷ x) (g.are ∙ ap (λ x. map a_name x ++ (map a_type g.types ++ (map predicate_frame g.predicates ++ g.rest))) no_names);
        end_distance = g.end_distance;
        end_term_chars = g.end_term_chars;
        end_names = names ∙ sym (append-nil so.names);
        end_types = g.end_types;
        end_predicates = g.end_predicates;
        type_names = (subst (λ x. Below (length x) (shape_names t)) (sym names) o.names, g.type_names);
        type_types = (o.types, subst (λ n. TypesBefore n g.types) (length_snoc so.types (ty_of so.types t)) g.type_types);
        type_keys = (o.keys, g.type_keys);
        predicate_names = g.predicate_names;
        predicate_types = g.predicate_types;
        no_names = λ h. refl;
        no_types = λ h. absurd (omega arith);
        no_predicates = λ h. absurd (omega arith);
      }

  predicate_first : (x : PredicateFrame) → follows p predicate ≡ true → Obeys so (predicate_frame x)
      → Grouped predicate (add so (predicate_frame x)) fs end → Grouped p so (predicate_frame x ∷ fs) end
  unfolding add kind_byte types_from name_refs type_refs predicate_with
  predicate_first x e o g =
      let low = not_falling p predicate (omega arith) e in
      let no_names : g.names ≡ [] = g.no_names (omega arith) in
      let no-types : g.types ≡ [] = g.no_types (omega arith) in
      let names : end.names ≡ so.names = g.end_names ∙ ap (λ l. so.names ++ l) no_names ∙ append-nil so.names in
      let types : end.types ≡ so.types = g.end_types ∙ ap (types_from so.types) no-types in
      let more = map (predicate_with end.types) g.predicates in
      record {
        names = [];
        types = [];
        predicates = x ∷ g.predicates;
        rest = g.rest;
        tail = g.tail;
        are = ap (λ l. predicate_frame x ∷ l) (g.are ∙ ap
            (λ l. map a_name l ++ (map a_type g.types ++ (map predicate_frame g.predicates ++ g.rest))) no_names
            ∙ ap (λ l. map a_type l ++ (map predicate_frame g.predicates ++ g.rest)) no-types);
        end_distance = g.end_distance;
        end_term_chars = g.end_term_chars;
        end_names = names ∙ sym (append-nil so.names);
        end_types = types;
        end_predicates = g.end_predicates ∙ append_assoc so.predicates (predicate_with so.types x ∷ []) more ∙ ap
            (λ ts. so.predicates ++ predicate_with ts x ∷ more) (sym types);
        type_names = tt;
        type_types = tt;
        type_keys = tt;
        predicate_names = (subst (λ l. x.name < length l) (sym names) o.names.0, g.predicate_names);
        predicate_types = (subst (λ l. Below (length l) (x.key ∷ optional x.value)) (sym types) o.types, g.predicate_types);
        no_names = λ h. refl;
        no_types = λ h. refl;
        no_predicates = λ h. absurd (omega arith);
      }

  node_first : (n : Node) → follows p node ≡ true → Grouped node (add so (a_node n)) fs end → Grouped p so (a_node n ∷ fs) end
  unfolding add kind_byte types_from
  node_first n e g =
      let no_names : g.names ≡ [] = g.no_names (omega arith) in
      let no-types : g.types ≡ [] = g.no_types (omega arith) in
      let no-predicates : g.predicates ≡ [] = g.no_predicates (omega arith) in
      record {
        names = [];
        types = [];
        predicates = [];
        rest = a_node n ∷ g.rest;
        tail = node_tail so.nodes so.queries n g.rest end g.tail;
        are = ap (λ l. a_node n ∷ l) (g.are ∙ ap (λ l. map a_name l ++ (map a_type g.types ++ (map predicate_frame g.predicates ++ g.rest))) no_names
            ∙ ap (λ l. map a_type l ++ (map predicate_frame g.predicates ++ g.rest)) no-types
            ∙ ap (λ l. map predicate_frame l ++ g.rest) no-predicates);
        end_distance = g.end_distance;
        end_term_chars = g.end_term_chars;
        end_names = g.end_names ∙ ap (λ l. so.names ++ l) no_names;
        end_types = g.end_types ∙ ap (types_from so.types) no-types;
        end_predicates = g.end_predicates ∙ ap (λ l. so.predicates ++ map (predicate_with end.types) l) no-predicates;
        type_names = tt;
        type_types = tt;
        type_keys = tt;
        predicate_names = tt;
        predicate_types = tt;
        no_names = λ h. refl;
        no_types = λ h. refl;
        no_predicates = λ h. refl;
      }

  query_first : (q : Query) → follows p Kind.query ≡ true → Grouped Kind.query (add so (the_query q)) fs end → Grouped p so (the_query q ∷ fs) end
  unfolding add kind_byte types_from
  query_first q e g =
      let no_names : g.names ≡ [] = g.no_names (omega arith) in
      let no-types : g.types ≡ [] = g.no_types (omega arith) in
      let no-predicates : g.predicates ≡ [] = g.no_predicates (omega arith) in
      record {
        names = [];
        types = [];
        predicates = [];
        rest = the_query q ∷ g.rest;
        tail = query_tail so.nodes so.queries q g.rest end g.tail;
        are = ap (λ l. the_query q ∷ l) (g.are ∙ ap (λ l. map a_name l ++ (map a_type g.types ++ (map predicate_frame g.predicates ++ g.rest))) no_names
            ∙ ap (λ l. map a_type l ++ (map predicate_frame g.predicates ++ g.rest)) no-types
            ∙ ap (λ l. map predicate_frame l ++ g.rest) no-predicates);
        end_distance = g.end_distance;
        end_term_chars = g.end_term_chars;
        end_names = g.end_names ∙ ap (λ l. so.names ++ l) no_names;
        end_types = g.end_types ∙ ap (types_from so.types) no-types;
        end_predicates = g.end_predicates ∙ ap (λ l. so.predicates ++ map (predicate_with end.types) l) no-predicates;
        type_names = tt;
        type_types = tt;
        type_keys = tt;
        predicate_names = tt;
        predicate_types = tt;
        no_names = λ h. refl;
        no_types = λ h. refl;
        no_predicates = λ h. refl;
      }

pub grouped : {so end : SoFar} {fs : List Frame} (p : Kind) → so.previous ≡ Some p → Rules so fs end → Grouped p so fs end
unfolding add may_stand frame_kind
grouped {so} p e done = nothing_follows p so
grouped {so} {end} p e (next {f = f} {fs = fs} o r) = go f o (λ k q. grouped k q r) (rw e at o.placed)
  where
    go : (f : Frame) → Obeys so f → ((k : Kind) → (add so f).previous ≡ Some k → Grouped k (add so f) fs end) → follows p (frame_kind f) ≡ true
        → Grouped p so (f ∷ fs) end
    go (the_limits d t) o ih q = absurd (limits_once p q)
    go (a_name s) o ih q = name_first p so end fs s q (ih name refl)
    go (a_type t) o ih q = type_first p so end fs t q o (ih schema_type refl)
    go (a_predicate n k v) o ih q = predicate_first p so end fs (record { name = n; key = k; value = v }) q o (ih predicate refl)
    go (a_node n) o ih q = node_first p so end fs n q (ih node refl)
    go (the_query x) o ih q = query_first p so end fs x q (ih Kind.query refl)
