-- Whatever 32-bit words it is made of, the content obeys the rules: each choice is one of sixteen rows, and each row obeys them (Tables.antt).
use mathlib.Core.List.{List, [], ◌∷◌, ◌++◌, map, flat_map}
use mathlib.Core.Path.{◌≡◌, refl, sym, ap, ap₂, subst, ◌∙◌}
use Prim.Native.Nat.{ℕ, zero, suc, ◌+◌, ◌-◌, ◌*◌, ◌<◌, ◌≤◌}
use native.Mathlib.Omega.{arith}
use lib.ListN.{length, get_or, length-append, length-map}
use Rattle.text.specs.Utf8.{Text}
use Rattle.format.specs.Syntax.{Node, Ast, no_node}
use Rattle.format.specs.References.{shape_names, shape_types, shape_keys, optional, expr_names}
use Rattle.format.specs.Frame.{wide, TypeShape, a_record, Frame, the_limits, a_name, a_type, a_predicate, a_node, the_query}
use Rattle.format.specs.Lines.{max_bytes}
use Rattle.format.specs.Conditions.{max_names, max_types, max_predicates, max_nodes, max_queries}
use Rattle.format.specs.File.{max_file, no_ast}
use Rattle.format.specs.All.{All, Distinct, Below}
use Rattle.format.specs.Bytes.{bytes₂, bytes₄, hex_line}
use Rattle.format.specs.Content.{PredicateFrame, predicate_frame, query_frames, schema_frames, frames_of, TypesBefore, Lawful}
use Rattle.format.specs.Sound.{Lower, nodes_named, LawfulQuery}
use Rattle.format.specs.Writing.{as_value_type, as_content, as_node, written, file_of, FrameFits, Writable}
use Rattle.format.proofs.Lists.{all_append, all_map, all_at}
use Rattle.format.proofs.Hex.{line_length}
use Rattle.testload.specs.Rule.{Limits, limit, limits, names, base, simple, compound, predicates, predicate, Plan, queries, counts, from, choice}
use Rattle.testload.specs.Rule.{node_of, no_plan, plan_of, query_of, limits_of, simple_of, compound_of, predicate_of, count_of, content_of}
use Rattle.testload.proofs.Tables.{TypeRow, PredicateRow, LimitsRow, NameRow, ExprRow, PlanRow, base_rows, simple_rows, compound_rows, limits_rows}
use Rattle.testload.proofs.Tables.{predicates_rows, names_rows, names_distinct, named_at, named_in, expr_at_lem, queries_rows, counts_rows, named_lower}
use Rattle.std.specs.Prelude.{None, Option, Some}

-- ---- Lists

all_mapped : {A B : Type 0} (f : A → B) (P : A → Type 0) (Q : B → Type 0) → ((a : A) → P a → Q (f a)) → (l : List A) → All P l → All Q (map f l)
all_mapped f P Q g [] a = tt
all_mapped f P Q g (x ∷ l) a = (g x a.0, all_mapped f P Q g l a.1)

all_flat : {A B : Type 0} (f : A → List B) (P : B → Type 0) (l : List A) → All (λ a. All P (f a)) l → All P (flat_map f l)
unfolding flat_map
all_flat f P [] a = tt
all_flat f P (x ∷ l) a = all_append P (f x) (flat_map f l) a.0 (all_flat f P l a.1)

-- of each number from i on
all_from : {A : Type 0} (f : ℕ → A) (P : A → Type 0) (i n : ℕ) → ((j : ℕ) → j < i + n → P (f j)) → All P (map f (from i n))
unfolding from
all_from f P i zero g = tt
all_from f P i (suc n) g = (g i (omega arith), all_from f P (suc i) n (λ j h. g j (omega arith)))

pub length_from : (i n : ℕ) → length (from i n) ≡ n
unfolding from
length_from i zero = refl
length_from i (suc n) = ap suc (length_from (suc i) n)

below_more : (n m : ℕ) → n ≤ m → (l : List ℕ) → Below n l → Below m l
below_more n m h l a = all_map (λ x. x < n) (λ x. x < m) l (λ x b. omega arith) a

-- ---- Frames

-- a frame whose line is short
pub record Short (f : Frame) : Type 0 where
  pub fits : FrameFits wide f
  pub short : length (written wide f) ≤ 32

short_writable : (f : Frame) → Short f → Writable wide f
unfolding max_bytes
short_writable f s = record { fits = s.fits; short = omega (arith, s.short) }

limits_short : (l : Limits) → LimitsRow l → Short (the_limits l.distance l.characters)
unfolding written as_content bytes₂
limits_short l r = record { fits = (r.distance, r.characters); short = omega arith }

name_short : (s : List ℕ) → NameRow s → Short (a_name s)
unfolding written as_content
name_short s r = record { fits = r.bytes; short = omega (arith, r.short) }

type_short : (n : ℕ) (t : TypeShape) → TypeRow n t → Short (a_type t)
unfolding written as_content
type_short n t r = record { fits = r.fits; short = omega (arith, r.short) }

predicate_short : (p : PredicateFrame) → PredicateRow p → Short (predicate_frame p)
unfolding written as_content bytes₂ as_value_type optional
predicate_short p r = go p.value refl
  where
    go : (v : Option ℕ) → p.value ≡ v → Short (a_predicate p.name p.key p.value)
    go None e = rw e (record { fits = (omega (arith, r.name), omega (arith, r.types.0), tt); short = omega arith })
    go (Some t) e =
        let b : Below 9 (p.key ∷ t ∷ []) = rw e at r.types in
        rw e (record { fits = (omega (arith, r.name), omega (arith, r.types.0), omega (arith, b.1.0)); short = omega arith })

node_short : (n : Node) (named : List ℕ) → n.span.start < 0x1_0000_0000 → n.span.end < 0x1_0000_0000 → ExprRow named n.kind → Short (a_node n)
unfolding written as_content as_node bytes₂ bytes₄
node_short n named s e r = record { fits = (s, e, r.fits); short = omega (arith, r.short) }

query_short : (p : Plan) → PlanRow p → Short (the_query p.query)
unfolding written as_content
query_short p r = record { fits = r.fits; short = omega (arith, r.short) }

-- ---- The file's length

file_most : (fs : List Frame) → All Short fs → length (file_of wide fs) ≤ 65 * length fs
unfolding file_of flat_map
file_most [] a = omega arith
file_most (f ∷ fs) a =
    let l : length (hex_line (written wide f)) ≡ 2 * length (written wide f) + 1 = line_length (written wide f) in
    let s : length (hex_line (written wide f) ++ file_of wide fs) ≡ length (hex_line (written wide f)) + length (file_of wide fs) = length-append
    (hex_line (written wide f)) (file_of wide fs) in
    omega (arith, a.0.short, file_most fs a.1, l, s)

-- ---- The content

pub schema_long : (ws : List ℕ) → length (schema_frames (content_of ws)) ≡ 27
unfolding schema_frames content_of names base from
schema_long ws = refl

module _ (ws : List ℕ) (small : (n : ℕ) → get_or ws n 0 < 0x1_0000_0000) where
  choice_low : (c : ℕ) → choice ws c < 16
  unfolding choice
  choice_low c = let h : get_or ws (1280 + c) 0 < 0x1_0000_0000 = small (1280 + c) in omega arith

  picked : {A : Type 0} (P : A → Type 0) (l : List A) (d : A) → All P l → length l ≡ 16 → (c : ℕ) → P (get_or l (choice ws c) d)
  picked P l d a n c = all_at P l (choice ws c) d a (omega (arith, n, choice_low c))

  limits_of_lem : LimitsRow (limits_of ws)
  unfolding limits_of limits
  limits_of_lem = picked LimitsRow limits (limit 0 0) limits_rows refl 0

  simple_of_lem : (l : ℕ) → TypeRow 3 (simple_of ws l)
  unfolding simple_of simple
  simple_of_lem l = picked (TypeRow 3) simple (a_record []) simple_rows refl l

  compound_of_lem : (l : ℕ) → TypeRow 6 (compound_of ws l)
  unfolding compound_of compound
  compound_of_lem l = picked (TypeRow 6) compound (a_record []) compound_rows refl l

  predicate_of_lem : (l : ℕ) → PredicateRow (predicate_of ws l)
  unfolding predicate_of predicates
  predicate_of_lem l = picked PredicateRow predicates (predicate 0 0 None) predicates_rows refl l

  plan_of_lem : (q : ℕ) → PlanRow (plan_of ws q)
  unfolding plan_of queries
  plan_of_lem q = picked PlanRow queries (no_plan ws) queries_rows refl (32 + 32 * q)

  pub count_of_lem : (1 ≤ count_of ws) × (count_of ws ≤ 4)
  unfolding count_of counts
  count_of_lem = picked (λ n. (1 ≤ n) × (n ≤ 4)) counts 1 counts_rows refl 27

  -- ---- Types

  -- what holds of a row, whatever it may refer to
  all_types : (P : TypeShape → Type 0) → ((n : ℕ) (t : TypeShape) → TypeRow n t → P t) → All P (content_of ws).types
  unfolding content_of base from
  all_types P f = (
    f 0 _ base_rows.0,
    (
      f 0 _ base_rows.1.0,
      (
        f 0 _ base_rows.1.1.0,
        (
          f 3 _ (simple_of_lem 17),
          (
            f 3 _ (simple_of_lem 18),
            (
              f 3 _ (simple_of_lem 19),
              (f 6 _ (compound_of_lem 20), (f 6 _ (compound_of_lem 21), (f 6 _ (compound_of_lem 22), tt))),
            ),
          ),
        ),
      ),
    ),
  )

  types_before : TypesBefore 0 (content_of ws).types
  unfolding content_of base from shape_types
  types_before = (
    tt,
    (
      tt,
      (
        tt,
        (
          (simple_of_lem 17).types,
          (
            below_more 3 4 (omega arith) (shape_types (simple_of ws 18)) (simple_of_lem 18).types,
            (
              below_more 3 5 (omega arith) (shape_types (simple_of ws 19)) (simple_of_lem 19).types,
              (
                (compound_of_lem 20).types,
                (
                  below_more 6 7 (omega arith) (shape_types (compound_of ws 21)) (compound_of_lem 21).types,
                  (below_more 6 8 (omega arith) (shape_types (compound_of ws 22)) (compound_of_lem 22).types, tt),
                ),
              ),
            ),
          ),
        ),
      ),
    ),
  )

  -- ---- Queries

  module _ (q : ℕ) where
    node_row : (i : ℕ) → i < 24 → ExprRow (named_at i) (node_of ws q i).kind
    unfolding node_of
    node_row i h = expr_at_lem ws i (choice ws (33 + 32 * q + i)) (omega arith) (choice_low (33 + 32 * q + i))

    lower_from : (i n : ℕ) → i + n ≤ 24 → Lower i (map (node_of ws q) (from i n))
    unfolding from
    lower_from i zero h = tt
    lower_from i (suc n) h =
        (subst (Below i) (sym (node_row i (omega arith)).nodes) (named_lower i (omega arith)), lower_from (suc i) n (omega arith))

    named_from : (i n : ℕ) → i + n ≤ 24 → nodes_named (map (node_of ws q) (from i n)) ≡ flat_map named_at (from i n)
    unfolding from nodes_named flat_map
    named_from i zero h = refl
    named_from i (suc n) h = ap₂ ◌++◌ (node_row i (omega arith)).nodes (named_from (suc i) n (omega arith))

    lawful_query : LawfulQuery 13 (query_of ws q)
    unfolding query_of max_nodes named_in
    lawful_query =
        let r = plan_of_lem q in
        let n = 8 * (plan_of ws q).blocks in
        let long : length (map (node_of ws q) (from 0 n)) ≡ n = length-map (from 0 n) (node_of ws q) ∙ length_from 0 n in
        record {
          nodes_max = omega (arith, long, r.blocks);
          node_names = all_from (node_of ws q) (λ x. Below 13 (expr_names x.kind)) 0 n (λ j h. (node_row j (omega (arith, r.blocks))).names);
          node_nodes = lower_from 0 n (omega (arith, r.blocks));
          query_below = rw long r.below;
          once = rw (named_from 0 n (omega (arith, r.blocks))) r.once;
        }

    node_line : (i : ℕ) → i < 24 → Short (a_node (node_of ws q i))
    unfolding node_of
    node_line i h = node_short (node_of ws q i) (named_at i) (small (55 + 64 * q + 2 * i)) (small (56 + 64 * q + 2 * i)) (node_row i h)

    query_lines : All Short (query_frames (query_of ws q))
    unfolding query_frames query_of
    query_lines =
        let n = 8 * (plan_of ws q).blocks in
        all_append Short (map a_node (map (node_of ws q) (from 0 n))) (the_query (plan_of ws q).query ∷ [])
        (all_mapped a_node (λ x. Short (a_node x)) Short (λ x s. s) (map (node_of ws q) (from 0 n))
        (all_from (node_of ws q) (λ x. Short (a_node x)) 0 n (λ j h. node_line j (omega (arith, (plan_of_lem q).blocks)))))
        (query_short (plan_of ws q) (plan_of_lem q), tt)

    query_most : length (query_frames (query_of ws q)) ≤ 25
    unfolding query_frames query_of
    query_most =
        let n = 8 * (plan_of ws q).blocks in
        let nodes = map (node_of ws q) (from 0 n) in
        let a : length (map a_node nodes ++ the_query (plan_of ws q).query ∷ []) ≡ length (map a_node nodes) + 1 = length-append (map a_node nodes)
        (the_query (plan_of ws q).query ∷ []) in
        let b : length (map a_node nodes) ≡ n = length-map nodes a_node ∙ length-map (from 0 n) (node_of ws q) ∙ length_from 0 n in
        omega (arith, a, b, (plan_of_lem q).blocks)

  queries_most : (i n : ℕ) → length (flat_map query_frames (map (query_of ws) (from i n))) ≤ 25 * n
  unfolding from flat_map
  queries_most i zero = omega arith
  queries_most i (suc n) =
      let a = length-append (query_frames (query_of ws i)) (flat_map query_frames (map (query_of ws) (from (suc i) n))) in
      omega (arith, a, query_most i, queries_most (suc i) n)

  -- ---- All of it

  schema_lines : All Short (schema_frames (content_of ws))
  unfolding schema_frames content_of from
  schema_lines =
      let ps : All Short (map predicate_frame (content_of ws).predicates) = (
        predicate_short _ (predicate_of_lem 23),
        (
          predicate_short _ (predicate_of_lem 24),
          (predicate_short _ (predicate_of_lem 25), (predicate_short _ (predicate_of_lem 26), tt)),
        ),
      ) in
      let ts : All Short (map a_type (content_of ws).types) =
      all_mapped a_type (λ t. Short (a_type t)) Short (λ t s. s) (content_of ws).types (all_types (λ t. Short (a_type t)) type_short) in (
        limits_short (limits_of ws) limits_of_lem,
        all_append Short (map a_name names) (map a_type (content_of ws).types ++ map predicate_frame (content_of ws).predicates)
            (all_mapped a_name NameRow Short name_short names names_rows)
            (all_append Short (map a_type (content_of ws).types) (map predicate_frame (content_of ws).predicates) ts ps),
      )

  query_frames_lem : All Short (flat_map query_frames (content_of ws).queries)
  unfolding content_of
  query_frames_lem = all_flat query_frames Short (map (query_of ws) (from 0 (count_of ws)))
      (all_from (query_of ws) (λ a. All Short (query_frames a)) 0 (count_of ws) (λ q h. query_lines q))

  all_short : All Short (frames_of (content_of ws))
  unfolding frames_of
  all_short = all_append Short (schema_frames (content_of ws)) (flat_map query_frames (content_of ws).queries) schema_lines query_frames_lem

  frames_most : length (frames_of (content_of ws)) ≤ 127
  unfolding frames_of content_of
  frames_most =
      let a = length-append (schema_frames (content_of ws)) (flat_map query_frames (map (query_of ws) (from 0 (count_of ws)))) in
      omega (arith, a, schema_long ws, queries_most 0 (count_of ws), count_of_lem.1)

  pub file_short : length (file_of wide (frames_of (content_of ws))) ≤ 8255
  file_short = omega (arith, file_most (frames_of (content_of ws)) all_short, frames_most)

  pub file_fits : length (file_of wide (frames_of (content_of ws))) ≤ max_file
  unfolding max_file
  file_fits = omega (arith, file_short)

  pub lawful : Lawful wide (content_of ws)
  unfolding content_of names base from max_names max_types max_predicates max_queries
  lawful =
      let long : length (map (query_of ws) (from 0 (count_of ws))) ≡ count_of ws =
      length-map (from 0 (count_of ws)) (query_of ws) ∙ length_from 0 (count_of ws) in
      record {
        names_max = omega arith;
        types_max = omega arith;
        predicates_max = omega arith;
        texts = all_map NameRow (λ s. (n : ℕ) × Text s n) names (λ s r. r.text) names_rows;
        distinct = names_distinct;
        type_names = all_types (λ t. Below 13 (shape_names t)) (λ n t r. r.names);
        type_types = types_before;
        type_keys = all_types (λ t. Distinct (shape_keys t)) (λ n t r. r.keys);
        predicate_names = ((predicate_of_lem 23).name, ((predicate_of_lem 24).name, ((predicate_of_lem 25).name, ((predicate_of_lem 26).name, tt))));
        predicate_types = ((predicate_of_lem 23).types, ((predicate_of_lem 24).types, ((predicate_of_lem 25).types, ((predicate_of_lem 26).types, tt))));
        queries = all_from (query_of ws) (LawfulQuery 13) 0 (count_of ws) (λ q h. lawful_query q);
        queries_min = omega (arith, long, count_of_lem.0);
        queries_max = omega (arith, long, count_of_lem.1);
        writable = all_map Short (Writable wide) (frames_of (content_of ws)) short_writable all_short;
      }

  -- The first node of the first query has the 56th word for the start of its span.
  start_of : List Ast → ℕ
  start_of qs = (get_or (get_or qs 0 no_ast).nodes 0 no_node).span.start

  start_suc : (c : ℕ) → start_of (map (query_of ws) (from 0 (suc c))) ≡ (get_or (map (node_of ws 0) (from 0 (8 * (plan_of ws 0).blocks))) 0 no_node).span.start
  unfolding start_of from query_of
  start_suc c = refl

  node_suc : (n : ℕ) → (get_or (map (node_of ws 0) (from 0 (suc n))) 0 no_node).span.start ≡ get_or ws 55 0
  unfolding from node_of
  node_suc n = refl

  pub first_start : (get_or (get_or (content_of ws).queries 0 no_ast).nodes 0 no_node).span.start ≡ get_or ws 55 0
  unfolding content_of start_of
  first_start =
      let c : count_of ws ≡ suc (count_of ws - 1) = omega (arith, count_of_lem.0) in
      let n : 8 * (plan_of ws 0).blocks ≡ suc (8 * (plan_of ws 0).blocks - 1) = omega (arith, (plan_of_lem 0).some) in
      ap (λ k. start_of (map (query_of ws) (from 0 k))) c
      ∙ start_suc (count_of ws - 1)
      ∙ ap (λ k. (get_or (map (node_of ws 0) (from 0 k)) 0 no_node).span.start) n
      ∙ node_suc (8 * (plan_of ws 0).blocks - 1)
