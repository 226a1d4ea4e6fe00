-- A content has grown exactly where its frames are the old ones with additions. The frames stand kind by kind, each
-- kind before the later ones; where the old file has frames of a kind left, the new one has the same ones, and where it
-- has none left, those of the new one are additions.
use mathlib.Core.List.{List, [], ◌∷◌, ◌++◌, map, flat_map, append-nil, append_assoc}
use mathlib.Core.Logic.{inl, inr}
use mathlib.Core.Path.{◌≡◌, refl, sym, ap, subst, ◌∙◌}
use Prim.Native.Nat.{ℕ, ◌≤◌, ◌<◌}
use native.Mathlib.Omega.{arith}
use lib.ListN.{length}
use Rattle.format.specs.Syntax.{Node, Query, Ast}
use Rattle.format.specs.Frame.{kind_byte, name, schema_type, predicate, node, TypeShape, Frame, the_limits, a_name, a_type, a_predicate, a_node, the_query}
use Rattle.format.specs.Frame.{frame_kind}
use Rattle.format.specs.All.{All}
use Rattle.format.specs.Content.{PredicateFrame, Content, predicate_frame, query_frames, schema_frames, frames_of}
use Rattle.format.proofs.Lists.{all_append}
use Rattle.laws.specs.Growth.{grow, Grown}
use Rattle.growth.specs.Lines.{kind_of, WithAdditions}
use Rattle.std.specs.Prelude.{Option}

-- ---- One kind

-- The first frame is of a later kind.
abbrev Starts : ℕ → List Frame → Type 0
Starts k [] = ⊥
Starts k (f ∷ fs) = k < kind_of f

later : (j k : ℕ) → j < k → (fs : List Frame) → Starts k fs → Starts j fs
later j k l [] s = s
later j k l (f ∷ fs) s = omega (arith, l, s)

module _ {A : Type 0} (make : A → Frame) (k : ℕ) (kind : (a : A) → kind_of (make a) ≡ k) where
  starts : (j : ℕ) → j < k → (l : List A) (fs : List Frame) → Starts j fs → Starts j (map make l ++ fs)
  starts j h [] fs s = s
  starts j h (a ∷ l) fs s = omega (arith, kind a, h)

  module _ (least : kind_byte name ≤ k) (most : k ≤ kind_byte predicate) where
    all_added : (fs gs : List Frame) → Starts k fs → (more : List A) → WithAdditions fs gs → WithAdditions fs (map make more ++ gs)
    all_added fs gs s [] h = h
    all_added [] gs s (m ∷ more) h = absurd s
    all_added (f ∷ fs) gs s (m ∷ more) h =
        inr (
          record {
            least = subst (λ n. kind_byte name ≤ n) (sym (kind m)) least;
            most = subst (λ n. n ≤ kind_byte predicate) (sym (kind m)) most;
            later = omega (arith, kind m, s);
          },
          all_added (f ∷ fs) gs s more h,
        )

    kind_adds : (fs gs : List Frame) → Starts k fs → (old more : List A) → WithAdditions fs gs
        → WithAdditions (map make old ++ fs) (map make (old ++ more) ++ gs)
    kind_adds fs gs s [] more h = all_added fs gs s more h
    kind_adds fs gs s (a ∷ old) more h = inl (refl, kind_adds fs gs s old more h)

  record Grew (old new : List A) (fs gs : List Frame) : Type 0 where
    more : List A
    are : new ≡ old ++ more
    rest : WithAdditions fs gs

  no_more : (a : A) (gs fs : List Frame) → Starts k fs → WithAdditions fs (make a ∷ gs) → WithAdditions fs gs
  no_more a gs [] s h = absurd s
  no_more a gs (f ∷ fs) s (inl h) = absurd (omega (arith, s, kind a, ap kind_of h.0))
  no_more a gs (f ∷ fs) s (inr h) = h.1

  none_lost : (a : A) (fs gs : List Frame) → Starts k gs → WithAdditions (make a ∷ fs) gs → ⊥
  none_lost a fs [] s h = s
  none_lost a fs (g ∷ gs) s (inl h) = omega (arith, s, kind a, ap kind_of h.0)
  none_lost a fs (g ∷ gs) s (inr h) = omega (arith, s, kind a, h.0.later)

  module _ (only : (a b : A) → make a ≡ make b → a ≡ b) where
    adds_kind : (old new : List A) (fs gs : List Frame) → Starts k fs → Starts k gs → WithAdditions (map make old ++ fs) (map make new ++ gs)
        → Grew old new fs gs
    adds_kind [] [] fs gs s t h = record { more = []; are = refl; rest = h }
    adds_kind [] (b ∷ new) fs gs s t h =
        let g = adds_kind [] new fs gs s t (no_more b (map make new ++ gs) fs s h) in
        record { more = b ∷ new; are = refl; rest = g.rest }
    adds_kind (a ∷ old) [] fs gs s t h = absurd (none_lost a (map make old ++ fs) gs t h)
    adds_kind (a ∷ old) (b ∷ new) fs gs s t (inl h) =
        let g = adds_kind old new fs gs s t h.1 in
        record { more = g.more; are = ap (λ x. x ∷ new) (sym (only a b h.0)) ∙ ap (λ l. a ∷ l) g.are; rest = g.rest }
    adds_kind (a ∷ old) (b ∷ new) fs gs s t (inr h) = absurd (omega (arith, kind a, kind b, h.0.later))

-- ---- Nodes and queries

no_additions : (fs gs : List Frame) → All (λ g. kind_byte node ≤ kind_of g) gs → WithAdditions fs gs → fs ≡ gs
unfolding kind_byte
no_additions [] [] a h = refl
no_additions [] (g ∷ gs) a h = absurd h
no_additions (f ∷ fs) [] a h = absurd h
no_additions (f ∷ fs) (g ∷ gs) a (inl h) = ap (λ l. f ∷ l) (no_additions fs gs a.1 h.1) ∙ ap (λ x. x ∷ gs) h.0
no_additions (f ∷ fs) (g ∷ gs) a (inr h) = absurd (omega (arith, a.0, h.0.most))

no_change : (fs : List Frame) → WithAdditions fs fs
no_change [] = tt
no_change (f ∷ fs) = inl (refl, no_change fs)

-- the queries that nodes and queries are, after these nodes
queries_in : List Node → List Frame → List Ast
queries_in ns [] = []
queries_in ns (a_node n ∷ fs) = queries_in (ns ++ n ∷ []) fs
queries_in ns (the_query q ∷ fs) = record { nodes = ns; query = q } ∷ queries_in [] fs
queries_in ns (the_limits d t ∷ fs) = []
queries_in ns (a_name s ∷ fs) = []
queries_in ns (a_type t ∷ fs) = []
queries_in ns (a_predicate n k v ∷ fs) = []

one_query : (ns ms : List Node) (q : Query) (fs : List Frame)
    → queries_in ns ((map a_node ms ++ the_query q ∷ []) ++ fs) ≡ record { nodes = ns ++ ms; query = q } ∷ queries_in [] fs
unfolding queries_in
one_query ns [] q fs = ap (λ (l : List Node). record { nodes = l; query = q } ∷ queries_in [] fs) (sym (append-nil ns))
one_query ns (m ∷ ms) q fs =
    one_query (ns ++ m ∷ []) ms q fs
    ∙ ap (λ (l : List Node). record { nodes = l; query = q } ∷ queries_in [] fs) (append_assoc ns (m ∷ []) ms)

all_queries : (qs : List Ast) → queries_in [] (flat_map query_frames qs) ≡ qs
unfolding queries_in query_frames flat_map
all_queries [] = refl
all_queries (a ∷ qs) = one_query [] a.nodes a.query (flat_map query_frames qs) ∙ ap (λ (l : List Ast). a ∷ l) (all_queries qs)

node_kinds : (ns : List Node) → All (λ g. kind_byte node ≤ kind_of g) (map a_node ns)
unfolding kind_byte frame_kind
node_kinds [] = tt
node_kinds (n ∷ ns) = (omega arith, node_kinds ns)

query_kinds : (qs : List Ast) → All (λ g. kind_byte node ≤ kind_of g) (flat_map query_frames qs)
unfolding kind_byte frame_kind query_frames flat_map
query_kinds [] = tt
query_kinds (a ∷ qs) =
    all_append _ (map a_node a.nodes ++ the_query a.query ∷ []) (flat_map query_frames qs)
    (all_append _ (map a_node a.nodes) (the_query a.query ∷ []) (node_kinds a.nodes) (omega arith, tt))
    (query_kinds qs)

query_starts : (qs : List Ast) → 1 ≤ length qs → Starts (kind_byte predicate) (flat_map query_frames qs)
unfolding kind_byte frame_kind query_frames flat_map
query_starts [] l = absurd (omega arith)
query_starts (a ∷ qs) l = go a.nodes
  where
    go : (ns : List Node) → Starts (kind_byte predicate) ((map a_node ns ++ the_query a.query ∷ []) ++ flat_map query_frames qs)
    go [] = omega arith
    go (n ∷ ns) = omega arith

-- ---- All kinds

limits_frame : Content → Frame
limits_frame c = the_limits c.max_distance c.max_term_chars

module _ (c : Content) where
  from_queries : List Frame
  from_queries = flat_map query_frames c.queries

  from_predicates : List Frame
  unfolding from_queries
  from_predicates = map predicate_frame c.predicates ++ from_queries

  from_types : List Frame
  unfolding from_predicates
  from_types = map a_type c.types ++ from_predicates

  from_names : List Frame
  unfolding from_types
  from_names = map a_name c.names ++ from_types

  spread : frames_of c ≡ limits_frame c ∷ from_names
  unfolding frames_of schema_frames limits_frame from_names
  spread =
      let a = map a_name c.names in
      let b = map a_type c.types in
      let p = map predicate_frame c.predicates in
      let q = flat_map query_frames c.queries in
      ap (λ l. limits_frame c ∷ l) (append_assoc a (b ++ p) q ∙ ap (λ l. a ++ l) (append_assoc b p q))

name_kind : (s : List ℕ) → kind_of (a_name s) ≡ kind_byte name
unfolding frame_kind
name_kind s = refl

type_kind : (t : TypeShape) → kind_of (a_type t) ≡ kind_byte schema_type
unfolding frame_kind
type_kind t = refl

predicate_kind : (p : PredicateFrame) → kind_of (predicate_frame p) ≡ kind_byte predicate
unfolding frame_kind
predicate_kind p = refl

module _ (c : Content) (some : 1 ≤ length c.queries) where
  after_predicates : Starts (kind_byte predicate) (from_queries c)
  unfolding from_queries
  after_predicates = query_starts c.queries some

  after_types : Starts (kind_byte schema_type) (from_predicates c)
  unfolding from_predicates kind_byte
  after_types =
      starts predicate_frame (kind_byte predicate) predicate_kind (kind_byte schema_type) (omega arith) c.predicates (from_queries c)
      (later (kind_byte schema_type) (kind_byte predicate) (omega arith) (from_queries c) after_predicates)

  after_names : Starts (kind_byte name) (from_types c)
  unfolding from_types kind_byte
  after_names =
      starts a_type (kind_byte schema_type) type_kind (kind_byte name) (omega arith) c.types (from_predicates c)
      (later (kind_byte name) (kind_byte schema_type) (omega arith) (from_predicates c) after_types)

-- A content that has grown.
pub grown_adds : (c c' : Content) → 1 ≤ length c.queries → Grown c c' → WithAdditions (frames_of c) (frames_of c')
unfolding limits_frame from_names from_types from_predicates from_queries kind_byte
grown_adds c c' some g =
    let d = grow c g.names g.types g.predicates in
    let predicates = kind_adds predicate_frame (kind_byte predicate) predicate_kind (omega arith) (omega arith)
    (from_queries c) (from_queries d) (after_predicates c some) c.predicates g.predicates (no_change (from_queries c)) in
    let types = kind_adds a_type (kind_byte schema_type) type_kind (omega arith) (omega arith)
    (from_predicates c) (from_predicates d) (after_types c some) c.types g.types predicates in
    let names = kind_adds a_name (kind_byte name) name_kind (omega arith) (omega arith)
    (from_types c) (from_types d) (after_names c some) c.names g.names types in
    let all : WithAdditions (limits_frame c ∷ from_names c) (limits_frame d ∷ from_names d) = inl (refl, names) in
    subst (λ l. WithAdditions l (frames_of c')) (sym (spread c))
    (subst (λ l. WithAdditions (limits_frame c ∷ from_names c) l) (sym (ap frames_of g.is ∙ spread d)) all)

-- And back.
abbrev content : ℕ → ℕ → List (List ℕ) → List TypeShape → List PredicateFrame → List Ast → Content
content d t names types predicates queries =
    record { max_distance = d; max_term_chars = t; names = names; types = types; predicates = predicates; queries = queries }

distance_of : Frame → ℕ
distance_of (the_limits d t) = d
distance_of (a_name s) = 0
distance_of (a_type t) = 0
distance_of (a_predicate n k v) = 0
distance_of (a_node n) = 0
distance_of (the_query q) = 0

term_of : Frame → ℕ
term_of (the_limits d t) = t
term_of (a_name s) = 0
term_of (a_type t) = 0
term_of (a_predicate n k v) = 0
term_of (a_node n) = 0
term_of (the_query q) = 0

same_name : (a b : List ℕ) → a_name a ≡ a_name b → a ≡ b
same_name a b e = cc

same_type : (a b : TypeShape) → a_type a ≡ a_type b → a ≡ b
same_type a b e = cc

same_predicate : (a b : PredicateFrame) → predicate_frame a ≡ predicate_frame b → a ≡ b
same_predicate a b e =
    let n : a.name ≡ b.name = cc in
    let k : a.key ≡ b.key = cc in
    let v : a.value ≡ b.value = cc in
    ap (λ x. of x a.key a.value) n ∙ ap (λ x. of b.name x a.value) k ∙ ap (λ x. of b.name b.key x) v
  where
    of : ℕ → ℕ → Option ℕ → PredicateFrame
    of n k v = record { name = n; key = k; value = v }

limits_adds : (f : Frame) (c' : Content) (fs gs : List Frame) → WithAdditions (f ∷ fs) (limits_frame c' ∷ gs) → (f ≡ limits_frame c') × WithAdditions fs gs
unfolding limits_frame kind_byte frame_kind
limits_adds f c' fs gs (inl h) = h
limits_adds f c' fs gs (inr h) = absurd (omega (arith, h.0.least))

pub adds_grown : (c c' : Content) → 1 ≤ length c.queries → 1 ≤ length c'.queries → WithAdditions (frames_of c) (frames_of c') → Grown c c'
unfolding limits_frame from_names from_types from_predicates from_queries kind_byte distance_of term_of
adds_grown c c' some some' h =
    let all : WithAdditions (limits_frame c ∷ from_names c) (limits_frame c' ∷ from_names c') =
    subst (λ l. WithAdditions (limits_frame c ∷ from_names c) l) (spread c') (subst (λ l. WithAdditions l (frames_of c')) (spread c) h) in
    let first = limits_adds (limits_frame c) c' (from_names c) (from_names c') all in
    let names = adds_kind a_name (kind_byte name) name_kind same_name c.names c'.names
    (from_types c) (from_types c') (after_names c some) (after_names c' some') first.1 in
    let types = adds_kind a_type (kind_byte schema_type) type_kind same_type c.types c'.types
    (from_predicates c) (from_predicates c') (after_types c some) (after_types c' some') names.rest in
    let predicates = adds_kind predicate_frame (kind_byte predicate) predicate_kind same_predicate c.predicates c'.predicates
    (from_queries c) (from_queries c') (after_predicates c some) (after_predicates c' some') types.rest in
    let frames : from_queries c ≡ from_queries c' = no_additions (from_queries c) (from_queries c') (query_kinds c'.queries) predicates.rest in
    let queries : c.queries ≡ c'.queries = sym (all_queries c.queries) ∙ ap (queries_in []) frames ∙ all_queries c'.queries in
    record {
      names = names.more;
      types = types.more;
      predicates = predicates.more;
      is =
          ap (λ d. content d c'.max_term_chars c'.names c'.types c'.predicates c'.queries) (sym (ap distance_of first.0))
          ∙ ap (λ t. content c.max_distance t c'.names c'.types c'.predicates c'.queries) (sym (ap term_of first.0))
          ∙ ap (λ l. content c.max_distance c.max_term_chars l c'.types c'.predicates c'.queries) names.are
          ∙ ap (λ l. content c.max_distance c.max_term_chars (c.names ++ names.more) l c'.predicates c'.queries) types.are
          ∙ ap (λ l. content c.max_distance c.max_term_chars (c.names ++ names.more) (c.types ++ types.more) l c'.queries) predicates.are
          ∙ ap (content c.max_distance c.max_term_chars (c.names ++ names.more) (c.types ++ types.more) (c.predicates ++ predicates.more))
          (sym queries);
    }
