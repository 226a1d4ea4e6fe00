-- What is held after a line of each kind that meets no condition. A line changes the words of its own kind; of the
-- other kinds the same is held as before.
use mathlib.Core.Bool.{true, false}
use mathlib.Core.List.{List, [], ◌∷◌, ◌++◌}
use mathlib.Core.Path.{◌≡◌, refl, ap, subst, ◌∙◌}
use Prim.Native.Nat.{ℕ, ◌+◌, ◌*◌, ◌/◌, ◌<◌, ◌≤◌}
use native.Mathlib.Omega.{arith}
use lib.ListN.{length, get_or, set, length-append}
use lib.Seq.{get_or-set_same, sets}
use Rattle.text.specs.Utf8.{characters}
use Rattle.work.specs.Layout.{MAX-DISTANCE, MAX-TERM, QUERY, NAMES, TYPES, PREDICATES, NODES, FIELDS}
use Rattle.cells.specs.Words.{pick}
use Rattle.cells.specs.Stands.{Rows, Keeps}
use Rattle.cells.proofs.Frame.{keeps_trans, keeps_wider, keeps_set}
use Rattle.sigla_hex.specs.Digits.{line_at}
use Rattle.format.specs.Syntax.{Node, Query}
use Rattle.format.specs.References.{shape_types, optional, expr_nodes}
use Rattle.format.specs.All.{Below}
use Rattle.format.specs.Frame as Frame
use Rattle.format.specs.Frame.{TypeShape, may_stand, the_limits, a_name, a_type, a_predicate, a_node, the_query, frame_of}
use Rattle.format.specs.SoFar.{SoFar, ty_of, add}
use Rattle.format.specs.Conditions.{any_of, among, same_text, given}
use Rattle.format.specs.File.{value_text}
use Rattle.work.specs.declared.Counters.{Counters}
use Rattle.reading.specs.Marks.{Marks}
use Rattle.reading.specs.Promises.{with_name, with_type, with_predicate, with_node, with_query}
use Rattle.reading.specs.Held.{LimitsHeld, TypesHeld, PredicatesHeld, NodesHeld, Marked, Held}
use Rattle.reading.proofs.Regions.{Same, same_part, under, over, same_trans, keeps_sets, WordsAt, words_kept, sets_words}
use Rattle.reading.proofs.Kept.{limits_kept, names_kept, marked_kept, marked_more, nodes_kept, types_kept, predicates_kept}
use Rattle.reading.proofs.Added.{name_added, value_word, predicate_added, node_added}
use Rattle.reading.proofs.Shapes.{shape_words, shape_head, shape_second, shape_row, with_row, older_row, new_row, shape_added}
use Rattle.format.specs.Frame.{Edition}
use Rattle.std.specs.Prelude.{Option, Some}

module _ (ed : Edition) {f : List ℕ} {at : ℕ} {w : List ℕ} {T : Rows} {c : Counters} {previous : Option Frame.Kind} {so : SoFar}
    (h : Held ed f at w T c previous so) where
  -- ---- What is held of the kinds that a line is not of
  module _ {w' : List ℕ} where
    pub types_same : Same TYPES PREDICATES w w' → Same FIELDS (FIELDS + c.fields) w w' → TypesHeld w' T c.types c.fields so.types
    types_same s p = types_kept (length so.types) c.fields w w' T T (same_part s (omega arith) (omega (arith, h.types.few))) p (λ t l. refl)
        h.types.few c.types so.types refl h.types

    pub predicates_same : Same TYPES PREDICATES w w' → Same FIELDS (FIELDS + c.fields) w w'
        → Same PREDICATES (PREDICATES + length so.predicates) w w' → PredicatesHeld w' T (length so.types) c.predicates so.predicates
    predicates_same s p q =
        predicates_kept (length so.types) c.fields w w' T T (same_part s (omega arith) (omega (arith, h.types.few))) p (λ t l. refl)
        h.types.few (length so.types) c.predicates so.predicates (omega arith) q h.predicates

    pub nodes_same : Same NODES FIELDS w w' → NodesHeld ed f w' c.nodes so.nodes
    nodes_same s = nodes_kept (λ i l. ap (λ x. x / 2) (s.at (NODES + i) (omega arith) (omega (arith, h.nodes.few)))) h.nodes

    named_same : Same NODES FIELDS w w' → Marked w' (length so.nodes) so.named
    named_same s = marked_kept h.nodes.few s h.named

    long_same : {a e : ℕ} → Keeps a e w w' → 16384 ≤ length w'
    long_same k = rw k.long h.long

    limits_same : Same MAX-DISTANCE QUERY w w' → (k j : Frame.Kind) → so.previous ≡ Some j → LimitsHeld w' (Some k) so.max_distance so.max_term_chars
    limits_same s k j e = limits_kept s (Some k) so.max_distance so.max_term_chars (rw e at h.limits)

  module _ (next : ℕ) (on : at ≤ next) (within : next ≤ length f) where
    -- ---- Limits
    pub limits_held : (d t : ℕ) → may_stand so.previous Frame.limits ≡ true
        → Held ed f next (set (set w MAX-DISTANCE d) MAX-TERM t) T c (Some Frame.limits) (add so (the_limits d t))
    unfolding add
    limits_held d t stands =
        let one : Keeps MAX-DISTANCE MAX-TERM w (set w MAX-DISTANCE d) = keeps_set w MAX-DISTANCE d (omega arith) (omega arith) in
        let two : Keeps MAX-TERM QUERY (set w MAX-DISTANCE d) (set (set w MAX-DISTANCE d) MAX-TERM t) = keeps_set (set w MAX-DISTANCE d) MAX-TERM t
        (omega arith) (omega arith) in
        let k : Keeps MAX-DISTANCE QUERY w (set (set w MAX-DISTANCE d) MAX-TERM t) = keeps_trans (keeps_wider (omega arith) (omega arith) one)
        (keeps_wider (omega arith) (omega arith) two) in
        record {
          long = long_same k;
          place = within;
          small = h.small;
          kind = refl;
          room = omega (arith, h.room);
          limits = (
            two.below MAX-DISTANCE (omega arith) ∙ get_or-set_same w MAX-DISTANCE d 0 (omega (arith, h.long)),
            get_or-set_same (set w MAX-DISTANCE d) MAX-TERM t 0 (rw one.long (omega (arith, h.long))),
          );
          names = names_kept (over k (omega arith)) h.names;
          types = types_same (over k (omega arith)) (over k (omega arith));
          predicates = predicates_same (over k (omega arith)) (over k (omega arith)) (over k (omega arith));
          nodes = nodes_same (over k (omega arith));
          named = named_same (over k (omega arith));
          queries = h.queries;
          turns = h.turns;
        }

    -- ---- A name
    pub name_held : (s : List ℕ) (chars : ℕ) (j : Frame.Kind) → may_stand so.previous Frame.name ≡ true → so.previous ≡ Some j → length so.names < 256
        → line_at f at ≡ Some (0x02 ∷ s) → characters s ≡ Some chars → chars < 512 → given so.names s ≡ false
        → Held ed f next (set w (NAMES + c.names) (at * 512 + chars)) T (with_name c (pick (same_text value_text s) (Some c.names) c.value)) (Some Frame.name)
        (add so (a_name s))
    unfolding add
    name_held s chars j stands begun room line text small new =
        let k : Keeps NAMES TYPES w (set w (NAMES + c.names) (at * 512 + chars)) = keeps_set w (NAMES + c.names) (at * 512 + chars) (omega arith)
        (omega (arith, h.names.count)) in
        record {
          long = long_same k;
          place = within;
          small = h.small;
          kind = refl;
          room = omega (arith, h.room);
          limits = limits_same (under k (omega arith)) Frame.name j begun;
          names = name_added h.names s at chars h.long room line text small new;
          types = types_same (over k (omega arith)) (over k (omega arith));
          predicates = predicates_same (over k (omega arith)) (over k (omega arith)) (over k (omega arith));
          nodes = nodes_same (over k (omega arith));
          named = named_same (over k (omega arith));
          queries = h.queries;
          turns = h.turns;
        }

    -- ---- A type
    pub type_held : (s : TypeShape) (j : Frame.Kind) → may_stand so.previous Frame.schema_type ≡ true → so.previous ≡ Some j → length so.types < 256
        → Below (length so.types) (shape_types s) → 8 * (c.fields + length (shape_words s)) ≤ next
        → Held ed f next (set (set (sets w (FIELDS + c.fields) (shape_words s)) (TYPES + 2 * c.types) (shape_head s)) (TYPES + 2 * c.types + 1)
        (shape_second c.fields s))
        (with_row T (length so.types) (shape_row so.types s)) (with_type c (length (shape_words s))) (Some Frame.schema_type) (add so (a_type s))
    unfolding add
    type_held s j stands begun room below fits = record {
      long = rw (head_second.long, parts.long) h.long;
      place = within;
      small = h.small;
      kind = refl;
      room = fits;
      limits = limits_same (same_trans (under parts (omega arith)) (under head_second (omega arith))) Frame.schema_type j begun;
      names = names_kept (same_trans (under parts (omega arith)) (under head_second (omega arith))) h.names;
      types = shape_added older s room here there words below (new_row T n (shape_row so.types s));
      predicates =
          predicates_kept n c.fields w w' T T' types_there parts_there (older_row T n (shape_row so.types s)) h.types.few
          (length (so.types ++ ty_of so.types s ∷ [])) c.predicates so.predicates
          (omega (arith, length-append so.types (ty_of so.types s ∷ [])))
          (same_trans (under parts (omega (arith, h.predicates.few))) (over head_second (omega (arith, h.types.count)))) h.predicates;
      nodes = nodes_same (same_trans (under parts (omega arith)) (over head_second (omega (arith, h.types.count))));
      named = named_same (same_trans (under parts (omega arith)) (over head_second (omega (arith, h.types.count))));
      queries = h.queries;
      turns = h.turns;
    }
      where
        n : ℕ
        n = length so.types

        v : List ℕ
        v = sets w (FIELDS + c.fields) (shape_words s)

        u : List ℕ
        u = set v (TYPES + 2 * c.types) (shape_head s)

        w' : List ℕ
        w' = set u (TYPES + 2 * c.types + 1) (shape_second c.fields s)

        T' : Rows
        T' = with_row T n (shape_row so.types s)

        parts : Keeps (FIELDS + c.fields) (FIELDS + c.fields + length (shape_words s)) w v
        parts = keeps_sets w (FIELDS + c.fields) (shape_words s) (omega arith) (omega arith)

        head : Keeps (TYPES + 2 * c.types) (TYPES + 2 * c.types + 1) v u
        head = keeps_set v (TYPES + 2 * c.types) (shape_head s) (omega arith) (omega arith)

        second : Keeps (TYPES + 2 * c.types + 1) (TYPES + 2 * c.types + 2) u w'
        second = keeps_set u (TYPES + 2 * c.types + 1) (shape_second c.fields s) (omega arith) (omega arith)

        head_second : Keeps (TYPES + 2 * c.types) (TYPES + 2 * c.types + 2) v w'
        head_second = keeps_trans (keeps_wider (omega arith) (omega arith) head) (keeps_wider (omega arith) (omega arith) second)

        types_there : Same TYPES (TYPES + 2 * n) w w'
        types_there = same_trans (under parts (omega arith)) (under head_second (omega (arith, h.types.count)))

        parts_there : Same FIELDS (FIELDS + c.fields) w w'
        parts_there = same_trans (under parts (omega arith)) (over head_second (omega (arith, h.types.count)))

        older : TypesHeld w' T' c.types c.fields so.types
        older = types_kept n c.fields w w' T T' types_there parts_there (older_row T n (shape_row so.types s)) h.types.few c.types
            so.types refl h.types

        fitting : FIELDS + c.fields + length (shape_words s) ≤ length w
        fitting = omega (arith, fits, h.small, h.long, within)

        here : get_or w' (TYPES + 2 * n) 0 ≡ shape_head s
        here = subst (λ m. get_or w' (TYPES + 2 * m) 0 ≡ shape_head s) h.types.count
            (second.below (TYPES + 2 * c.types) (omega arith) ∙ get_or-set_same v (TYPES + 2 * c.types) (shape_head s) 0
            (rw parts.long (omega (arith, h.long, h.types.count))))

        there : get_or w' (TYPES + 2 * n + 1) 0 ≡ shape_second c.fields s
        there = subst (λ m. get_or w' (TYPES + 2 * m + 1) 0 ≡ shape_second c.fields s) h.types.count
            (get_or-set_same u (TYPES + 2 * c.types + 1) (shape_second c.fields s) 0 (rw (head.long, parts.long) (omega (arith, h.long, h.types.count))))

        words : WordsAt w' (FIELDS + c.fields) (shape_words s)
        words = words_kept (over head_second (omega (arith, h.types.count))) (sets_words w (FIELDS + c.fields) (shape_words s) fitting)

    -- ---- A predicate
    pub predicate_held : (name key : ℕ) (value : Option ℕ) (j : Frame.Kind) → may_stand so.previous Frame.predicate ≡ true → so.previous ≡ Some j
        → length so.predicates < 128
        → key < length so.types → Below (length so.types) (optional value)
        → Held ed f next (set w (PREDICATES + c.predicates) (name * 131072 + key * 512 + value_word value)) T (with_predicate c) (Some Frame.predicate)
        (add so (a_predicate name key value))
    unfolding add
    predicate_held name key value j stands begun room kt vt =
        let x = name * 131072 + key * 512 + value_word value in
        let k : Keeps (PREDICATES + c.predicates) NODES w (set w (PREDICATES + c.predicates) x) = keeps_set w (PREDICATES + c.predicates) x
        (omega arith) (omega (arith, h.predicates.count)) in
        let t = types_same (under k (omega arith)) (over k (omega arith)) in
        record {
          long = long_same k;
          place = within;
          small = h.small;
          kind = refl;
          room = omega (arith, h.room);
          limits = limits_same (under k (omega arith)) Frame.predicate j begun;
          names = names_kept (under k (omega arith)) h.names;
          types = t;
          predicates =
              predicate_added t name key value (predicates_same (under k (omega arith)) (over k (omega arith))
              (under k (omega (arith, h.predicates.count)))) room
              (get_or-set_same w (PREDICATES + c.predicates) x 0 (omega (arith, h.long, h.predicates.count))) kt vt;
          nodes = nodes_same (over k (omega arith));
          named = named_same (over k (omega arith));
          queries = h.queries;
          turns = h.turns;
        }

    -- ---- A node and the query, whose line has size bytes; v are the words after the nodes that it names were marked.
    module _ (size : ℕ) (content : List ℕ) (small : size ≤ 512) (v : List ℕ) (marks : Marks w v) where
      pub node_held : (nd : Node) (j : Frame.Kind) → may_stand so.previous Frame.node ≡ true → so.previous ≡ Some j → length so.nodes < 512
          → line_at f at ≡ Some (0x05 ∷ content) → size ≡ length (0x05 ∷ content) → frame_of ed Frame.node content ≡ Some (a_node nd)
          → Marked v (length so.nodes) (so.named ++ expr_nodes nd.kind)
          → Held ed f next (set v (NODES + c.nodes) ((at * 1024 + size) * 2)) T (with_node c) (Some Frame.node) (add so (a_node nd))
      unfolding add
      node_held nd j stands begun room line sized frame marked =
          let x = (at * 1024 + size) * 2 in
          let set_here : Keeps (NODES + c.nodes) FIELDS v (set v (NODES + c.nodes) x) = keeps_set v (NODES + c.nodes) x (omega arith)
          (omega (arith, h.nodes.count)) in
          let k : Keeps NODES FIELDS w (set v (NODES + c.nodes) x) = keeps_trans marks.keeps (keeps_wider (omega arith) (omega arith) set_here) in
          let long : 16384 ≤ length v = rw marks.keeps.long h.long in
          let here : get_or (set v (NODES + c.nodes) x) (NODES + c.nodes) 0 ≡ x = get_or-set_same v (NODES + c.nodes) x 0 (omega (arith, h.nodes.count)) in
          record {
            long = long_same k;
            place = within;
            small = h.small;
            kind = refl;
            room = omega (arith, h.room);
            limits = limits_same (under k (omega arith)) Frame.node j begun;
            names = names_kept (under k (omega arith)) h.names;
            types = types_same (under k (omega arith)) (over k (omega arith));
            predicates = predicates_same (under k (omega arith)) (over k (omega arith)) (under k (omega (arith, h.predicates.few)));
            nodes = node_added at size 0x05 content line sized small {w = v} nd (nodes_kept (λ i l. marks.half i) h.nodes) long room refl frame;
            named = rw (length-append so.nodes (nd ∷ []))
                (marked_more (under set_here (omega (arith, h.nodes.count))) (rw (← h.nodes.count, here) (omega arith)) marked);
            queries = h.queries;
            turns = h.turns;
          }

      pub query_held : (q : Query) (j : Frame.Kind) → so.previous ≡ Some j → length so.queries < 64
          → Held ed f next v T (with_query c) (Some Frame.query) (add so (the_query q))
      unfolding add among any_of
      query_held q j begun turn =
          let k = marks.keeps in
          let more = length-append so.queries (record { nodes = so.nodes; query = q } ∷ []) in
          record {
            long = long_same k;
            place = within;
            small = h.small;
            kind = refl;
            room = omega (arith, h.room);
            limits = limits_same (under k (omega arith)) Frame.query j begun;
            names = names_kept (under k (omega arith)) h.names;
            types = types_same (under k (omega arith)) (over k (omega arith));
            predicates = predicates_same (under k (omega arith)) (over k (omega arith)) (under k (omega (arith, h.predicates.few)));
            nodes = record { count = refl; few = omega arith; node = λ i l. absurd (omega arith) };
            named = record { mark = λ i l. absurd (omega arith); later = λ i l. refl };
            queries = omega (arith, more, h.queries);
            turns = omega (arith, more);
          }
