-- A query line by line, and the queries one after the other: what is left from here on.
use Rattle.std.proofs.Common.{◌≡◌, ℕ, suc, ◌+◌, ◌-◌, ◌*◌, ◌%◌, ◌<◌, ◌≤◌, List, [], ◌∷◌, ◌++◌, map, get_or, sym, ap, ◌∙◌, subst, append_assoc, append-nil}
use Rattle.std.proofs.Common.{add-one, arith}
use mathlib.Core.List.{flat_map}
use Rattle.std.proofs.lemmas.List.{get_or-map}
use Rattle.format.specs.Frame.{wide, kind_byte, a_node, the_query, frame_kind}
use Rattle.format.specs.Bytes.{bytes₄, hex_line}
use Rattle.format.specs.Content.{query_frames, schema_frames, frames_of}
use Rattle.format.specs.Writing.{as_query, as_content, written, file_of}
use Rattle.testload.specs.Rule.{queries, counts, from, choice, node_of, no_plan, plan_of, query_of, count_of, content_of}
use Rattle.generator.specs.Promises.{tables, content, blocks}
use Rattle.generator.proofs.Rows.{content_at}
use Rattle.generator.proofs.Lines.{file_cons, file_append, slots, node_frame}

from_next : (i n : ℕ) → i < n → from i (n - i) ≡ i ∷ from (i + 1) (n - (i + 1))
unfolding from
from_next i n h = let one : n - i ≡ suc (n - (i + 1)) = omega arith in ap (from i) one ∙ rw (add-one i)

from_end : (i n : ℕ) → n ≤ i → from i (n - i) ≡ []
unfolding from
from_end i n h = let none : n - i ≡ 0 = omega arith in ap (from i) none

module _ (ws : List ℕ) where
  module _ (q : ℕ) where
    planned : choice ws (32 + 32 * q) < 16 → get_or blocks (choice ws (32 + 32 * q)) 0 ≡ (plan_of ws q).blocks
    unfolding plan_of queries blocks
    planned h = get_or-map (λ p. p.blocks) queries (choice ws (32 + 32 * q)) (no_plan ws) 0 h

    -- the nodes from i on, of n, and the 06 line
    pub query_from : ℕ → ℕ → List ℕ
    query_from n i = file_of wide (map a_node (map (node_of ws q) (from i (n - i)))) ++ hex_line (written wide (the_query (plan_of ws q).query))

    start : choice ws (32 + 32 * q) < 16 → query_from (8 * get_or blocks (choice ws (32 + 32 * q)) 0) 0 ≡ file_of wide (query_frames (query_of ws q))
    unfolding query_from query_frames query_of file_of flat_map
    start h =
        let nodes = map a_node (map (node_of ws q) (from 0 (8 * (plan_of ws q).blocks))) in
        let last = hex_line (written wide (the_query (plan_of ws q).query)) in
        let zero : (n : ℕ) → n - 0 ≡ n = λ n. omega arith in
        ap (λ b. file_of wide (map a_node (map (node_of ws q) (from 0 (8 * b - 0)))) ++ last) (planned h)
        ∙ ap (λ n. file_of wide (map a_node (map (node_of ws q) (from 0 n))) ++ last) (zero (8 * (plan_of ws q).blocks))
        ∙ ap (λ s. file_of wide nodes ++ s) (sym (append-nil last))
        ∙ sym (file_append nodes (the_query (plan_of ws q).query ∷ []))

    next : (n i : ℕ) → i < n → choice ws (33 + 32 * q + i) < 16
        → query_from n i
        ≡ hex_line
        (5 ∷ bytes₄ (get_or ws (55 + 64 * q + 2 * i) 0) ++ bytes₄ (get_or ws (55 + 64 * q + 2 * i + 1) 0)
        ++ content i (16 * get_or slots (i % 8) 0 + choice ws (33 + 32 * q + i)))
        ++ query_from n (i + 1)
    unfolding query_from
    next n i l h =
        let last = hex_line (written wide (the_query (plan_of ws q).query)) in
        let more = map a_node (map (node_of ws q) (from (i + 1) (n - (i + 1)))) in
        ap (λ l. file_of wide (map a_node (map (node_of ws q) l)) ++ last) (from_next i n l)
        ∙ ap (λ s. s ++ last) (file_cons (a_node (node_of ws q i)) more)
        ∙ append_assoc (hex_line (written wide (a_node (node_of ws q i)))) (file_of wide more) last
        ∙ ap (λ s. hex_line s ++ (file_of wide more ++ last)) (node_frame ws q i h)

    last_line : (n i : ℕ) → n ≤ i → choice ws (32 + 32 * q) < 16 → query_from n i ≡ hex_line (6 ∷ content 0 (128 + choice ws (32 + 32 * q)))
    unfolding query_from file_of flat_map written as_content frame_kind kind_byte plan_of queries tables
    last_line n i l h =
        let last = hex_line (written wide (the_query (plan_of ws q).query)) in
        ap (λ l. file_of wide (map a_node (map (node_of ws q) l)) ++ last) (from_end i n l)
        ∙ ap
        (λ s. hex_line (6 ∷ s))
        (sym
        (content_at 0 8 (choice ws (32 + 32 * q)) (omega arith) h ∙ get_or-map (λ p. as_query p.query) queries (choice ws (32 + 32 * q)) (no_plan ws) [] h))

    -- the same with a choice in hand
    module _ (v : ℕ) (e : v ≡ choice ws (32 + 32 * q)) (h : v < 16) where
      pub query_start : query_from (8 * get_or blocks v 0) 0 ≡ file_of wide (query_frames (query_of ws q))
      query_start = subst (λ x. query_from (8 * get_or blocks x 0) 0 ≡ file_of wide (query_frames (query_of ws q))) (sym e) (start (subst (λ x. x < 16) e h))

      pub query_last : (n i : ℕ) → n ≤ i → query_from n i ≡ hex_line (6 ∷ content 0 (128 + v))
      query_last n i l = subst (λ x. query_from n i ≡ hex_line (6 ∷ content 0 (128 + x))) (sym e) (last_line n i l (subst (λ x. x < 16) e h))

    pub query_next : (n i v : ℕ) → i < n → v ≡ choice ws (33 + 32 * q + i) → v < 16
        → query_from n i
        ≡ hex_line (5 ∷ bytes₄ (get_or ws (55 + 64 * q + 2 * i) 0) ++ bytes₄ (get_or ws (55 + 64 * q + 2 * i + 1) 0) ++ content i
        (16 * get_or slots (i % 8) 0 + v))
        ++ query_from n (i + 1)
    query_next n i v l e h =
        subst
        (λ x. query_from n i
        ≡ hex_line (5 ∷ bytes₄ (get_or ws (55 + 64 * q + 2 * i) 0) ++ bytes₄ (get_or ws (55 + 64 * q + 2 * i + 1) 0) ++ content i
        (16 * get_or slots (i % 8) 0 + x))
        ++ query_from n (i + 1))
        (sym e)
        (next n i l (subst (λ x. x < 16) e h))

  -- ---- The queries

  pub queries_from : ℕ → ℕ → List ℕ
  queries_from n q = file_of wide (flat_map query_frames (map (query_of ws) (from q (n - q))))

  all_queries : choice ws 27 < 16 → queries_from (get_or counts (choice ws 27) 0) 0 ≡ file_of wide (flat_map query_frames (content_of ws).queries)
  unfolding queries_from content_of count_of counts
  all_queries h =
      let all : (n : ℕ) → n - 0 ≡ n = λ n. omega arith in
      let n = get_or counts (choice ws 27) 0 in
      ap (λ m. file_of wide (flat_map query_frames (map (query_of ws) (from 0 m)))) (all n ∙ get_or-map (λ x. x) counts (choice ws 27) 1 0 h)

  pub queries_start : (v : ℕ) → v ≡ choice ws 27 → v < 16 → queries_from (get_or counts v 0) 0 ≡ file_of wide (flat_map query_frames (content_of ws).queries)
  queries_start v e h =
      subst (λ x. queries_from (get_or counts x 0) 0 ≡ file_of wide (flat_map query_frames (content_of ws).queries)) (sym e)
      (all_queries (subst (λ x. x < 16) e h))

  pub queries_next : (n q : ℕ) → q < n → queries_from n q ≡ file_of wide (query_frames (query_of ws q)) ++ queries_from n (q + 1)
  unfolding queries_from flat_map
  queries_next n q l =
      let more = flat_map query_frames (map (query_of ws) (from (q + 1) (n - (q + 1)))) in
      ap (λ l. file_of wide (flat_map query_frames (map (query_of ws) l))) (from_next q n l) ∙ file_append (query_frames (query_of ws q)) more

  pub queries_end : (n q : ℕ) → n ≤ q → queries_from n q ≡ []
  unfolding queries_from file_of flat_map
  queries_end n q l = ap (λ l. file_of wide (flat_map query_frames (map (query_of ws) l))) (from_end q n l)

  pub file_is : file_of wide (frames_of (content_of ws)) ≡ file_of wide (schema_frames (content_of ws)) ++ file_of wide
      (flat_map query_frames (content_of ws).queries)
  unfolding frames_of
  file_is = file_append (schema_frames (content_of ws)) (flat_map query_frames (content_of ws).queries)
