-- Lawful content is written in frames that obey the rules: kind by kind, each from the state that the kinds before it leave.
use mathlib.Core.Bool.{true}
use mathlib.Core.List.{List, [], ◌∷◌, ◌++◌, map, flat_map, append-nil, append_assoc}
use mathlib.Core.Path.{◌≡◌, refl, sym, subst, ◌∙◌}
use Prim.Native.Nat.{ℕ, ◌+◌, ◌<◌, ◌≤◌}
use native.Mathlib.Nat.{not-suc-le-zero}
use native.Mathlib.Omega.{arith}
use lib.ListN.{length}
use Rattle.text.specs.Utf8.{Text}
use Rattle.unification.specs.Ty.{Ty}
use Rattle.format.specs.Syntax.{Query, Node, Ast}
use Rattle.format.specs.Schema.{Predicate}
use Rattle.format.specs.Frame.{Edition, Kind, limits, name, schema_type, predicate, node, query, kind_byte, repeatable, rises, follows, may_stand}
use Rattle.format.specs.Frame.{TypeShape, Frame, the_limits, a_name, a_type, a_node, the_query, frame_kind}
use Rattle.format.specs.References.{shape_names, shape_keys, optional, expr_names, expr_nodes, query_nodes, name_refs, type_refs, node_refs, texts_of, keys_of}
use Rattle.format.specs.SoFar.{SoFar, start, ty_of, add}
use Rattle.format.specs.Conditions.{max_names, max_types, max_predicates, max_nodes, max_queries}
use Rattle.format.specs.All.{All, Absent, Distinct, Below}
use Rattle.format.proofs.Obeys.{Obeys, Rules, done, next}
use Rattle.format.specs.Sound.{Lower, nodes_named, LawfulQuery}
use Rattle.format.specs.Content.{PredicateFrame, predicate_frame, Content, query_frames, schema_frames, frames_of, TypesBefore, Lawful, types_from}
use Rattle.format.specs.Content.{predicate_with}
use Rattle.format.proofs.Lists.{all_left, distinct_left, distinct_right, distinct_across, length_snoc}
use Rattle.std.specs.Prelude.{Option, Some}

pub rules_append : {so mid end : SoFar} {fs gs : List Frame} → Rules so fs mid → Rules mid gs end → Rules so (fs ++ gs) end
rules_append done s = s
rules_append (next o r) s = next o (rules_append r s)

-- ---- Which kinds may come

-- any kind from this one on
Ready : Kind → Option Kind → Type 0
Ready k p = (j : Kind) → kind_byte k ≤ kind_byte j → may_stand p j ≡ true

ready_limits : Ready name (Some limits)
unfolding Ready may_stand follows rises kind_byte repeatable
ready_limits limits h = absurd (omega arith)
ready_limits name h = refl
ready_limits schema_type h = refl
ready_limits predicate h = refl
ready_limits node h = refl
ready_limits query h = refl

ready_name : Ready name (Some name)
unfolding Ready may_stand follows rises kind_byte repeatable
ready_name limits h = absurd (omega arith)
ready_name name h = refl
ready_name schema_type h = refl
ready_name predicate h = refl
ready_name node h = refl
ready_name query h = refl

ready_type : Ready schema_type (Some schema_type)
unfolding Ready may_stand follows rises kind_byte repeatable
ready_type limits h = absurd (omega arith)
ready_type name h = absurd (omega arith)
ready_type schema_type h = refl
ready_type predicate h = refl
ready_type node h = refl
ready_type query h = refl

ready_predicate : Ready predicate (Some predicate)
unfolding Ready may_stand follows rises kind_byte repeatable
ready_predicate limits h = absurd (omega arith)
ready_predicate name h = absurd (omega arith)
ready_predicate schema_type h = absurd (omega arith)
ready_predicate predicate h = refl
ready_predicate node h = refl
ready_predicate query h = refl

ready_later : (k j : Kind) (p : Option Kind) → kind_byte k ≤ kind_byte j → Ready k p → Ready j p
unfolding Ready
ready_later k j p h r i l = r i (omega arith)

types_later : kind_byte name ≤ kind_byte schema_type
unfolding kind_byte
types_later = omega arith

predicates_later : kind_byte schema_type ≤ kind_byte predicate
unfolding kind_byte
predicates_later = omega arith

nodes_later : kind_byte predicate ≤ kind_byte node
unfolding kind_byte
nodes_later = omega arith

-- frames that lead on, to a state that a last kind completes
record Leads (k : Kind) (so : SoFar) (fs : List Frame) (end : Option Kind → SoFar) : Type 0 where
  previous : Option Kind
  ready : Ready k previous
  rules : Rules so fs (end previous)

stay : (k : Kind) (p : Option Kind) (end : Option Kind → SoFar) → Ready k p → Leads k (end p) [] end
stay k p end r = record { previous = p; ready = r; rules = done }

go_on : {k : Kind} {so : SoFar} {f : Frame} {fs : List Frame} {end : Option Kind → SoFar} → Obeys so f → Leads k (add so f) fs end → Leads k so (f ∷ fs) end
go_on o l = record { previous = l.previous; ready = l.ready; rules = next o l.rules }

-- ---- Kind by kind

module _ (d t : ℕ) where
  state : List (List ℕ) → List Ty → List Predicate → List Node → List ℕ → List Ast → Option Kind → SoFar
  state ns ts ps xs m qs p = record {
    previous = p;
    max_distance = d;
    max_term_chars = t;
    names = ns;
    types = ts;
    predicates = ps;
    nodes = xs;
    named = m;
    queries = qs;
  }

  name_rules : (ns more : List (List ℕ)) (p : Option Kind) → Ready name p → All (λ s. (n : ℕ) × Text s n) more → Distinct (ns ++ more)
      → length ns + length more ≤ max_names
      → Leads name (state ns [] [] [] [] [] p) (map a_name more) (state (ns ++ more) [] [] [] [] [])
  unfolding Ready state add frame_kind texts_of name_refs type_refs node_refs keys_of
  name_rules ns [] p r a u h = rw append-nil (stay name p (state ns [] [] [] [] []) r)
  name_rules ns (s ∷ more) p r a u h =
      go_on
      (record {
        placed = r name (omega arith);
        room = omega arith;
        text = (a.0, tt);
        new = ((distinct_across ns (s ∷ more) u).0, tt);
        names = tt;
        types = tt;
        nodes = tt;
        unnamed = tt;
        once = tt;
        keys = tt;
      })
      (rw (← append_assoc ns (s ∷ []) more) (name_rules (ns ++ s ∷ []) more (Some name) ready_name a.1 (rw append_assoc u)
      (omega (arith, length_snoc ns s))))

  type_rules : (ns : List (List ℕ)) (ts : List Ty) (more : List TypeShape) (p : Option Kind) → Ready schema_type p
      → All (λ s. Below (length ns) (shape_names s)) more → TypesBefore (length ts) more
      → All (λ s. Distinct (shape_keys s)) more → length ts + length more ≤ max_types
      → Leads schema_type (state ns ts [] [] [] [] p) (map a_type more) (state ns (types_from ts more) [] [] [] [])
  unfolding Ready state add frame_kind texts_of name_refs type_refs node_refs keys_of types_from
  type_rules ns ts [] p r a b u h = stay schema_type p (state ns ts [] [] [] []) r
  type_rules ns ts (s ∷ more) p r a b u h =
      go_on
      (record {
        placed = r schema_type (omega arith);
        room = omega arith;
        text = tt;
        new = tt;
        names = a.0;
        types = b.0;
        nodes = tt;
        unnamed = tt;
        once = tt;
        keys = u.0;
      })
      (type_rules ns (ts ++ ty_of ts s ∷ []) more (Some schema_type) ready_type a.1 (rw length_snoc b.1) u.1 (omega (arith, length_snoc ts (ty_of ts s))))

  predicate_rules : (ns : List (List ℕ)) (ts : List Ty) (ps : List Predicate) (more : List PredicateFrame) (p : Option Kind) → Ready predicate p
      → All (λ x. x.name < length ns) more
      → All (λ x. Below (length ts) (x.key ∷ optional x.value)) more → length ps + length more ≤ max_predicates
      → Leads predicate (state ns ts ps [] [] [] p) (map predicate_frame more) (state ns ts (ps ++ map (predicate_with ts) more) [] [] [])
  unfolding Ready state add frame_kind texts_of name_refs type_refs node_refs keys_of predicate_with
  predicate_rules ns ts ps [] p r a b h = rw append-nil (stay predicate p (state ns ts ps [] [] []) r)
  predicate_rules ns ts ps (x ∷ more) p r a b h =
      go_on
      (record {
        placed = r predicate (omega arith);
        room = omega arith;
        text = tt;
        new = tt;
        names = (a.0, tt);
        types = b.0;
        nodes = tt;
        unnamed = tt;
        once = tt;
        keys = tt;
      })
      (rw (← append_assoc ps (predicate_with ts x ∷ []) (map (predicate_with ts) more))
      (predicate_rules ns ts (ps ++ predicate_with ts x ∷ []) more (Some predicate) ready_predicate a.1 b.1
      (omega (arith, length_snoc ps (predicate_with ts x)))))

  module _ (ns : List (List ℕ)) (ts : List Ty) (ps : List Predicate) (qs : List Ast) where
    node_obeys : (xs : List Node) (n : Node) (m rest : List ℕ) (p : Option Kind) → may_stand p node ≡ true → Below (length ns) (expr_names n.kind)
        → Below (length xs) (expr_nodes n.kind)
        → Distinct (m ++ (expr_nodes n.kind ++ rest)) → length xs < max_nodes → Obeys (state ns ts ps xs m qs p) (a_node n)
    unfolding state frame_kind texts_of name_refs type_refs node_refs keys_of
    node_obeys xs n m rest p r a l u h =
        let e = expr_nodes n.kind in
        record {
          placed = r;
          room = h;
          text = tt;
          new = tt;
          names = a;
          types = tt;
          nodes = l;
          unnamed = all_left (λ y. Absent y m) e rest (distinct_across m (e ++ rest) u);
          once = distinct_left e rest (distinct_right m (e ++ rest) u);
          keys = tt;
        }

    -- One node at least; `later`: the nodes that the query names.
    node_rules : (xs : List Node) (n : Node) (more : List Node) (m later : List ℕ) (p : Option Kind) → may_stand p node ≡ true
        → All (λ n. Below (length ns) (expr_names n.kind)) (n ∷ more) → Lower (length xs) (n ∷ more)
        → Distinct (m ++ (nodes_named (n ∷ more) ++ later)) → length xs + length (n ∷ more) ≤ max_nodes
        → Rules (state ns ts ps xs m qs p) (map a_node (n ∷ more)) (state ns ts ps (xs ++ n ∷ more) (m ++ nodes_named (n ∷ more)) qs (Some node))
    unfolding state add nodes_named flat_map may_stand follows rises kind_byte repeatable
    node_rules xs n [] m later p r a l u h =
        let e = expr_nodes n.kind in
        let split : Distinct (m ++ (e ++ later)) = rw (append-nil e) at u in
        let step : Rules (state ns ts ps xs m qs p) (a_node n ∷ []) (state ns ts ps (xs ++ n ∷ []) (m ++ e) qs (Some node)) = next
        (node_obeys xs n m later p r a.0 l.0 split (omega arith)) done in
        rw (append-nil e) step
    node_rules xs n (x ∷ more) m later p r a l u h =
        let e = expr_nodes n.kind in
        let rest = nodes_named (x ∷ more) ++ later in
        let split : Distinct (m ++ (e ++ rest)) = rw (append_assoc e (nodes_named (x ∷ more)) later) at u in
        rw (← append_assoc xs (n ∷ []) (x ∷ more), ← append_assoc m e (nodes_named (x ∷ more)))
        (next (node_obeys xs n m rest p r a.0 l.0 split (omega arith))
        (node_rules (xs ++ n ∷ []) x more (m ++ e) later (Some node) refl a.1 (rw length_snoc l.1) (rw (append_assoc m e rest) split)
        (omega (arith, length_snoc xs n))))

    -- A query has a node at least: its head.
    query_rules : (xs : List Node) (q : Query) (p : Option Kind) → may_stand p node ≡ true → LawfulQuery (length ns) (record { nodes = xs; query = q })
        → length qs < max_queries
        → Rules (state ns ts ps [] [] qs p) (query_frames (record { nodes = xs; query = q }))
        (state ns ts ps [] [] (qs ++ record { nodes = xs; query = q } ∷ []) (Some query))
    unfolding query_frames query_nodes add may_stand follows rises kind_byte repeatable state frame_kind texts_of name_refs type_refs node_refs keys_of
    query_rules [] q p r l h = absurd (not-suc-le-zero l.query_below.0)
    query_rules (n ∷ more) q p r l h =
        rules_append
        (node_rules [] n more [] (query_nodes q) p r l.node_names l.node_nodes l.once (omega (arith, l.nodes_max)))
        (next last done)
      where
        last : Obeys (state ns ts ps (n ∷ more) (nodes_named (n ∷ more)) qs (Some node)) (the_query q)
        last =
            record {
              placed = refl;
              room = h;
              text = tt;
              new = tt;
              names = tt;
              types = tt;
              nodes = l.query_below;
              unnamed = distinct_across (nodes_named (n ∷ more)) (query_nodes q) l.once;
              once = distinct_right (nodes_named (n ∷ more)) (query_nodes q) l.once;
              keys = tt;
            }

  -- One query at least.
  queries_rules : (ns : List (List ℕ)) (ts : List Ty) (ps : List Predicate) (qs : List Ast) (a : Ast) (more : List Ast) (p : Option Kind)
      → may_stand p node ≡ true
      → All (LawfulQuery (length ns)) (a ∷ more) → length qs + length (a ∷ more) ≤ max_queries
      → Rules (state ns ts ps [] [] qs p) (flat_map query_frames (a ∷ more)) (state ns ts ps [] [] (qs ++ a ∷ more) (Some query))
  unfolding flat_map may_stand follows kind_byte
  queries_rules ns ts ps qs a [] p r l h = rw append-nil (query_rules ns ts ps qs a.nodes a.query p r l.0 (omega arith))
  queries_rules ns ts ps qs a (b ∷ more) p r l h =
      rules_append (query_rules ns ts ps qs a.nodes a.query p r l.0 (omega arith))
      (rw (← append_assoc qs (a ∷ []) (b ∷ more)) (queries_rules ns ts ps (qs ++ a ∷ []) b more (Some query) refl l.1 (omega (arith, length_snoc qs a))))

pub types_length : (ts : List Ty) (more : List TypeShape) → length (types_from ts more) ≡ length ts + length more
unfolding types_from
types_length ts [] = omega arith
types_length ts (s ∷ more) = types_length (ts ++ ty_of ts s ∷ []) more ∙ omega (arith, length_snoc ts (ty_of ts s))

-- ---- The whole

unfoldable pub end_of : Content → SoFar
end_of c = record {
  previous = Some query;
  max_distance = c.max_distance;
  max_term_chars = c.max_term_chars;
  names = c.names;
  types = types_from [] c.types;
  predicates = map (predicate_with (types_from [] c.types)) c.predicates;
  nodes = [];
  named = [];
  queries = c.queries;
}

limits_obey : (d t : ℕ) → Obeys start (the_limits d t)
unfolding start may_stand kind_byte frame_kind texts_of name_refs type_refs node_refs keys_of
limits_obey d t = record { placed = refl; room = tt; text = tt; new = tt; names = tt; types = tt; nodes = tt; unnamed = tt; once = tt; keys = tt }

pub lawful_rules : {ed : Edition} (c : Content) → Lawful ed c → Rules start (frames_of c) (end_of c)
unfolding frames_of schema_frames end_of start add state Ready
lawful_rules c h =
    let d = c.max_distance in
    let t = c.max_term_chars in
    let ts = types_from [] c.types in
    let ps = map (predicate_with ts) c.predicates in
    let as_long : length ts ≡ length c.types = omega (arith, types_length [] c.types) in
    let a = name_rules d t [] c.names (Some limits) ready_limits h.texts h.distinct (omega (arith, h.names_max)) in
    let b = type_rules d t c.names [] c.types a.previous (ready_later name schema_type a.previous types_later a.ready) h.type_names
    h.type_types h.type_keys (omega (arith, h.types_max)) in
    let e = predicate_rules d t c.names ts [] c.predicates b.previous
    (ready_later schema_type predicate b.previous predicates_later b.ready) h.predicate_names
    (subst (λ n. All (λ p. Below n (p.key ∷ optional p.value)) c.predicates) (sym as_long) h.predicate_types) (omega (arith, h.predicates_max)) in
    next (limits_obey d t) (rules_append (rules_append a.rules (rules_append b.rules e.rules))
    (queries c.queries ts ps e.previous (e.ready node nodes_later) h.queries_min h.queries_max h.queries))
  where
    queries : (qs : List Ast) (ts : List Ty) (ps : List Predicate) (p : Option Kind) → may_stand p node ≡ true → 1 ≤ length qs → length qs ≤ max_queries
        → All (LawfulQuery (length c.names)) qs
        → Rules (state c.max_distance c.max_term_chars c.names ts ps [] [] [] p) (flat_map query_frames qs)
        (state c.max_distance c.max_term_chars c.names ts ps [] [] qs (Some query))
    queries [] ts ps p r i j l = absurd (not-suc-le-zero i)
    queries (a ∷ more) ts ps p r i j l = queries_rules c.max_distance c.max_term_chars c.names ts ps [] a more p r l (omega (arith, j))
