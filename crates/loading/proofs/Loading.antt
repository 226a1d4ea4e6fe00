-- The walk of `load`: what lies ahead is what is left of the schema, of the query's nodes and of the queries after it; the nodes passed so far
-- stand in their words.
use mathlib.Core.List.{List, [], ◌∷◌, ◌++◌, map, flat_map, append_assoc, append-nil}
use mathlib.Core.Path.{◌≡◌, refl, sym, ap, ◌∙◌}
use Prim.Native.Nat.{ℕ, ◌+◌, ◌*◌, ◌/◌, ◌≤◌, ◌<◌}
use native.Mathlib.Omega.{arith}
use lib.ListN.{length, drop, set, length-append, length-set}
use lib.Seq.{get_or-set_same, get_or-set_other, take-length}
use Rattle.work.specs.Layout.{NODE-COUNT, QUERY, NODES, FIELDS}
use Rattle.cells.specs.Stands.{Rows}
use Rattle.cells.proofs.Frame.{more_refl}
use Rattle.format.specs.Frame as Frame
use Rattle.format.specs.Syntax.{Node, Query, Ast}
use Rattle.format.specs.Lines.{lines}
use Rattle.format.specs.Frame.{node, kind_byte, kind_of, Frame, a_node, the_query, frame_kind, frame_of}
use Rattle.format.specs.SoFar.{frames, said}
use Rattle.format.specs.File.{Described, max_file}
use Rattle.format.specs.All.{All}
use Rattle.format.specs.Content.{query_frames}
use Rattle.format.specs.Conditions.{max_names, max_predicates, max_nodes}
use Rattle.format.specs.Sound.{Sound}
use Rattle.meaning.specs.Outcome.{min_words}
use Rattle.sigla_hex.specs.Digits.{line_at}
use Rattle.frames.specs.declared.Kind.{Kind}
use Rattle.frames.specs.declared.Kind.TheVariants as Code
use Rattle.frames.specs.Promises.{PassesOver, kind_meant, known}
use Rattle.frames.proofs.Following.{same_known}
use Rattle.frames.proofs.Decoding.{holds_line}
use Rattle.tree.specs.Stands.{SchemaStands, Stands}
use Rattle.state.proofs.Standing.{schema_stands}
use Rattle.reading.specs.Held.{NodesHeld}
use Rattle.reading.proofs.Kept.{node_kept, query_kept}
use Rattle.reading.proofs.Added.{node_added, query_added}
use Rattle.loading.specs.Promises.{Ahead, Reloads, Loads}
use Rattle.loading.proofs.Lines.{line_ahead, is_ended}
use Rattle.std.specs.Prelude.{None, Option, Some}
use Rattle.std.proofs.lemmas.Option.{same_Some}

-- ---- Words

-- no word but those of the nodes and the query
Its : ℕ → Type 0
Its j = ((i : ℕ) → i < NODES → (i ≡ NODE-COUNT → ⊥) → (i ≡ QUERY → ⊥) → i ≡ j → ⊥) × (j < FIELDS)

reloads_set : {w₀ w : List ℕ} → Reloads w₀ w → (j x : ℕ) → Its j → Reloads w₀ (set w j x)
unfolding Its
reloads_set {w₀} {w} r j x its = record {
  below = λ i l m n. get_or-set_other w j i x 0 (its.0 i l m n) ∙ r.below i l m n;
  above = λ i l. get_or-set_other w j i x 0 (λ e. omega (arith, its.1)) ∙ r.above i l;
  long = length-set w j x ∙ r.long;
}

-- ---- What lies ahead in the midst of a query

abbrev Rest : Query → List Ast → List Node → List Frame → List Frame
Rest q qs left schema = schema ++ (map a_node left ++ the_query q ∷ flat_map query_frames qs)

record Midst (f w : List ℕ) (i n : ℕ) (a : Ast) (qs : List Ast) : Type 0 where
  done : List Node
  left : List Node
  schema : List Frame
  nodes : done ++ left ≡ a.nodes
  held : NodesHeld Frame.wide f w n done
  early : All (λ g. kind_byte (frame_kind g) < kind_byte node) schema
  are : map (said Frame.wide) (lines (drop i f)) ≡ map frames (Rest a.query qs left schema)

pub record Loading (f : List ℕ) (at : ℕ) (w₀ w : List ℕ) (i n : ℕ) : Type 0 where
  pub words : Reloads w₀ w
  pub here : at ≤ i
  pub small : length f ≤ 65536
  pub few : n ≤ 512
  is : (d : Described) (qs : List Ast) → Sound d → min_words ≤ length w₀ → Ahead f at (d.ast ∷ qs) → Midst f w i n d.ast qs

pub loading_start : (f : List ℕ) (at : ℕ) (w : List ℕ) → length f ≤ 65536 → Loading f at w w at 0
unfolding query_frames flat_map
loading_start f at w small = record {
  words = record { below = λ i l m n. refl; above = λ i l. refl; long = refl };
  here = omega arith;
  small = small;
  few = omega arith;
  is = λ d qs s l a. record {
    done = [];
    left = d.ast.nodes;
    schema = a.schema;
    nodes = refl;
    held = record { count = refl; few = omega arith; node = λ i l. absurd (omega arith) };
    early = a.early;
    are = a.are ∙ ap (λ x. map frames (a.schema ++ x)) (append_assoc (map a_node d.ast.nodes) (the_query d.ast.query ∷ []) (flat_map query_frames qs));
  };
}

-- a frame is ahead, whatever is left
some_frame : (q : Query) (qs : List Ast) (left : List Node) (schema : List Frame) → (g : Frame) × (gs : List Frame) × (Rest q qs left schema ≡ g ∷ gs)
some_frame q qs left (g ∷ schema) = (g, _, refl)
some_frame q qs (n ∷ left) [] = (a_node n, _, refl)
some_frame q qs [] [] = (the_query q, _, refl)

module _ {f : List ℕ} {at : ℕ} {w₀ w : List ℕ} {i n : ℕ} (m : Loading f at w₀ w i n) where
  -- ---- No query was found
  nothing : ((d : Described) (qs : List Ast) → Midst f w i n d.ast qs → ⊥) → Loads f at w₀ w (length f)
  nothing never = record {
    words = m.words;
    onward = λ l. l;
    within = omega arith;
    stands = λ T d qs s l S a. absurd (never d qs (m.is d qs s l a));
    ahead = λ d qs s l a. absurd (never d qs (m.is d qs s l a));
  }

  -- no line stands here
  pub loading_over : PassesOver f i None → Loads f at w₀ w (length f)
  loading_over p = nothing (λ d qs x.
      let g = some_frame d.ast.query qs x.left x.schema in
      let z : ◌≡◌ {A = ℕ} 0 1 = cc (p.holds (line_ahead f i g.0 g.1 (x.are ∙ ap (map frames) g.2)).bytes) in
      omega arith)

  -- ---- A line
  module _ {b size next : ℕ} (p : PassesOver f i (Some (b, size, next))) (kind : Option Kind) (e : known kind ≡ kind_of b) where
    -- the line here is the first of the frames
    record Here (g : Frame) (gs : List Frame) : Type 0 where
      content : List ℕ
      line : line_at f i ≡ Some (kind_byte (frame_kind g) ∷ content)
      long : size ≡ length (kind_byte (frame_kind g) ∷ content)
      is : frame_of Frame.wide (frame_kind g) content ≡ Some g
      says : known kind ≡ Some (frame_kind g)
      later : map (said Frame.wide) (lines (drop next f)) ≡ map frames gs

    here : (g : Frame) (gs : List Frame) → map (said Frame.wide) (lines (drop i f)) ≡ frames g ∷ map frames gs → Here g gs
    here g gs are =
        let x = line_ahead f i g gs are in
        let same = same_Some _ _ (p.holds x.bytes) in
        let long : size ≡ length x.line = ap (λ (t : ℕ × ℕ × ℕ). t.1) same in
        record {
          content = x.frame.content;
          line = holds_line f i x.line (length x.line) (i + 2 * length x.line + 1) x.bytes ∙ ap Some (take-length x.line ∙ x.frame.first);
          long = long ∙ ap length x.frame.first;
          is = x.frame.is;
          says = e ∙ ap (λ (t : ℕ × ℕ × ℕ). kind_of t.0) same ∙ x.frame.kind;
          later = ap (λ (t : ℕ × ℕ × ℕ). map (said Frame.wide) (lines (drop t.2 f))) same ∙ x.later;
        }

    byte_is : {g : Frame} {gs : List Frame} {k : Kind} → Here g gs → kind ≡ Some k → kind_byte (frame_kind g) ≡ kind_byte (kind_meant k)
    byte_is x q = ap kind_byte (same_Some _ _ (sym x.says ∙ ap known q))

    -- The 06 line: it is the query's, and the words are complete.
    module _ (k : kind ≡ Some Code.Query) where
      record AtQuery (q : Query) (qs : List Ast) (left : List Node) : Type 0 where
        none_left : left ≡ []
        line : Here (the_query q) (flat_map query_frames qs)

      at_query : (q : Query) (qs : List Ast) (left : List Node) (schema : List Frame) → All (λ g. kind_byte (frame_kind g) < kind_byte node) schema
          → map (said Frame.wide) (lines (drop i f)) ≡ map frames (Rest q qs left schema) → AtQuery q qs left
      unfolding kind_byte frame_kind
      at_query q qs left (g ∷ schema) early are = absurd (omega (arith, byte_is (here g (Rest q qs left schema) are) k, early.0))
      at_query q qs (nd ∷ left) [] early are = absurd (omega (arith, byte_is (here (a_node nd) (Rest q qs left []) are) k))
      at_query q qs [] [] early are = record {
        none_left = refl;
        line = here (the_query q) (flat_map query_frames qs) are;
      }

      at_end_lem : (a : Ast) (qs : List Ast) (x : Midst f w i n a qs) → AtQuery a.query qs x.left
      at_end_lem a qs x = at_query a.query qs x.left x.schema x.early x.are

      counted : List ℕ
      counted = set (set w QUERY (i * 1024 + size)) NODE-COUNT n

      reloaded : Reloads w₀ counted
      unfolding counted Its
      reloaded = reloads_set (reloads_set m.words QUERY (i * 1024 + size) (λ i l p q s. q s, omega arith)) NODE-COUNT n (λ i l p q s. p s, omega arith)

      stood : (T : Rows) (d : Described) (qs : List Ast) → Sound d → min_words ≤ length w₀ → SchemaStands f w₀ T d.names d.schema
          → Ahead f at (d.ast ∷ qs) → Stands f counted T d
      unfolding min_words max_names max_predicates max_nodes counted kind_byte frame_kind
      stood T d qs s l S a =
          let x = m.is d qs s l a in
          let y = at_end_lem d.ast qs x in
          let w₁ = set w QUERY (i * 1024 + size) in
          let wide : 16384 ≤ length w = omega (arith, m.words.long) in
          let wide₁ : length w₁ ≡ length w = length-set w QUERY (i * 1024 + size) in
          let nodes : x.done ≡ d.ast.nodes = sym (append-nil x.done) ∙ ap (λ t. x.done ++ t) (sym y.none_left) ∙ x.nodes in
          let l₀ = y.line in
          record {
            long = omega (arith, reloaded.long);
            schema = schema_stands w₀ counted reloaded.below (λ j lo hi. reloaded.above j lo) more_refl S s.predicates_max s.names_max;
            nodes = get_or-set_same w₁ NODE-COUNT n 0 (omega arith) ∙ x.held.count ∙ ap length nodes;
            few = s.nodes_max;
            node = λ j lt. rw (← nodes) (node_kept (ap (λ v. v / 2)
                (get_or-set_other w₁ NODE-COUNT (NODES + j) n 0 (λ q. omega arith) ∙ get_or-set_other w QUERY (NODES + j) (i * 1024 + size) 0
                (λ q. omega arith))) (x.held.node j (omega (arith, ap length nodes))));
            query = query_kept (get_or-set_other w₁ NODE-COUNT QUERY n 0 (λ q. omega arith))
                (query_added i size 0x06 l₀.content l₀.line l₀.long p.fits.most w d.ast.query wide refl l₀.is);
          }

      pub loading_query : Loads f at w₀ (set (set w QUERY (i * 1024 + size)) NODE-COUNT n) next
      unfolding counted flat_map
      loading_query = record {
        words = reloaded;
        onward = λ l. omega (arith, m.here, p.fits.on);
        within = p.fits.within;
        stands = stood;
        ahead = λ d qs s l a.
            let y = at_end_lem d.ast qs (m.is d qs s l a) in
            record {
              small = a.small;
              schema = [];
              early = tt;
              are = y.line.later;
              ended = λ none_left. is_ended f next (y.line.later ∙ ap (λ t. map frames (flat_map query_frames t)) none_left);
            };
      }

    -- A 05 line: it is the query's next node.
    module _ (k : kind ≡ Some Code.Node) where
      record AtNode (q : Query) (qs : List Ast) (left : List Node) : Type 0 where
        nd : Node
        more : List Node
        first_left : left ≡ nd ∷ more
        line : Here (a_node nd) (Rest q qs more [])

      at_node : (q : Query) (qs : List Ast) (left : List Node) (schema : List Frame) → All (λ g. kind_byte (frame_kind g) < kind_byte node) schema
          → map (said Frame.wide) (lines (drop i f)) ≡ map frames (Rest q qs left schema) → AtNode q qs left
      unfolding kind_byte frame_kind
      at_node q qs left (g ∷ schema) early are = absurd (omega (arith, byte_is (here g (Rest q qs left schema) are) k, early.0))
      at_node q qs (nd ∷ left) [] early are = record {
        nd = nd;
        more = left;
        first_left = refl;
        line = here (a_node nd) (Rest q qs left []) are;
      }
      at_node q qs [] [] early are = absurd (omega (arith, byte_is (here (the_query q) (flat_map query_frames qs) are) k))

      -- there is room for it
      module _ (d : Described) (qs : List Ast) (s : Sound d) (x : Midst f w i n d.ast qs) where
        here_node : AtNode d.ast.query qs x.left
        here_node = at_node d.ast.query qs x.left x.schema x.early x.are

        one_more : x.done ++ here_node.nd ∷ here_node.more ≡ d.ast.nodes
        one_more = ap (λ t. x.done ++ t) (sym here_node.first_left) ∙ x.nodes

        room : length x.done < 512
        unfolding max_nodes
        room = let whole : length (x.done ++ here_node.nd ∷ here_node.more) ≡ length x.done + length (here_node.nd ∷ here_node.more) =
            length-append x.done (here_node.nd ∷ here_node.more) in
            omega (arith, whole, ap length one_more, s.nodes_max)

      pub loading_full : 512 ≤ n → Loading f at w₀ w next n
      loading_full full = record {
        words = m.words;
        here = omega (arith, m.here, p.fits.on);
        small = m.small;
        few = m.few;
        is = λ d qs s l a. let x = m.is d qs s l a in absurd (omega (arith, room d qs s x, x.held.count));
      }

      pub loading_node : n < 512 → Loading f at w₀ (set w (NODES + n) ((i * 1024 + size) * 2)) next (n + 1)
      unfolding Its min_words kind_byte frame_kind
      loading_node lt = record {
        words = reloads_set m.words (NODES + n) ((i * 1024 + size) * 2) (λ i l p q s. omega arith, omega arith);
        here = omega (arith, m.here, p.fits.on);
        small = m.small;
        few = omega arith;
        is = λ d qs s l a.
            let x = m.is d qs s l a in
            let y = here_node d qs s x in
            let l₀ = y.line in
            record {
              done = x.done ++ y.nd ∷ [];
              left = y.more;
              schema = [];
              nodes = append_assoc x.done (y.nd ∷ []) y.more ∙ one_more d qs s x;
              held = node_added i size 0x05 l₀.content l₀.line l₀.long p.fits.most y.nd x.held (omega (arith, m.words.long)) (room d qs s x) refl l₀.is;
              early = tt;
              are = l₀.later;
            };
      }

    -- A line of the schema is passed over.
    module _ (k : kind ≡ Some Code.Query → ⊥) (j : kind ≡ Some Code.Node → ⊥) where
      record AtSchema (q : Query) (qs : List Ast) (left : List Node) : Type 0 where
        more : List Frame
        early : All (λ g. kind_byte (frame_kind g) < kind_byte node) more
        later : map (said Frame.wide) (lines (drop next f)) ≡ map frames (Rest q qs left more)

      at_schema : (q : Query) (qs : List Ast) (left : List Node) (schema : List Frame) → All (λ g. kind_byte (frame_kind g) < kind_byte node) schema
          → map (said Frame.wide) (lines (drop i f)) ≡ map frames (Rest q qs left schema) → AtSchema q qs left
      unfolding kind_byte frame_kind
      at_schema q qs left (g ∷ schema) early are = record { more = schema; early = early.1; later = (here g (Rest q qs left schema) are).later }
      at_schema q qs (nd ∷ left) [] early are = absurd (j (same_known kind Code.Node (here (a_node nd) (Rest q qs left []) are).says))
      at_schema q qs [] [] early are = absurd (k (same_known kind Code.Query (here (the_query q) (flat_map query_frames qs) are).says))

      pub loading_past : Loading f at w₀ w next n
      loading_past = record {
        words = m.words;
        here = omega (arith, m.here, p.fits.on);
        small = m.small;
        few = m.few;
        is = λ d qs s l a.
            let x = m.is d qs s l a in
            let y = at_schema d.ast.query qs x.left x.schema x.early x.are in
            record { done = x.done; left = x.left; schema = y.more; nodes = x.nodes; held = x.held; early = y.early; are = y.later };
      }

-- A file that is too long describes nothing.
pub loading_too_long : (f : List ℕ) (at : ℕ) (w : List ℕ) → 65536 < length f → Loads f at w w (length f)
unfolding max_file
loading_too_long f at w l = record {
  words = record { below = λ i l m n. refl; above = λ i l. refl; long = refl };
  onward = λ l. l;
  within = omega arith;
  stands = λ T d qs s e S a. absurd (omega (arith, a.small));
  ahead = λ d qs s e a. absurd (omega (arith, a.small));
}

pub ruleset loading = (loading_start, loading_node)
