-- A node's line and the query's: refused by what they refer to, or one more node, or the query, is held.
use mathlib.Core.Bool.{Bool, true, false, not, ◌||◌}
use mathlib.Core.List.{List, [], ◌∷◌, ◌++◌}
use mathlib.Core.Path.{◌≡◌, refl, sym, ap, subst, ◌∙◌}
use Prim.Native.Nat.{ℕ, ◌+◌, ◌*◌, ◌<◌}
use native.Mathlib.Omega.{arith}
use lib.ListN.{length, drop, set}
use Rattle.work.specs.Layout.{NODES}
use Rattle.cells.specs.Stands.{Rows}
use Rattle.format.specs.Syntax.{Node, Query}
use Rattle.format.specs.Refusal as Refused
use Rattle.format.specs.Frame as Frame
use Rattle.format.specs.Frame.{Frame, a_node, the_query, got, and_then, one, span_and_kind, head_and_body, may_stand, kind_byte, frame_kind, frame, frame_of}
use Rattle.format.specs.References.{stmt_nodes, query_nodes, expr_names, expr_nodes, texts_of, name_refs, type_refs, node_refs, keys_of}
use Rattle.format.specs.SoFar.{SoFar, add, frames}
use Rattle.format.specs.Conditions.{any_of, all_below, again, refers_earlier, refers_badly, conditions, first_of}
use Rattle.frames.specs.Promises.{half_w}
use Rattle.reading.specs.declared.Refusal.TheVariants as Refusal
use Rattle.work.specs.declared.Counters.{Counters}
use Rattle.reading.specs.Held.{Marked, Held}
use Rattle.reading.specs.Marks.{Refers, NamesNode, NamesStatements, NamesAll, Roomy}
use Rattle.reading.specs.Promises.{with_node, with_query, TakesAnywhere, TakesThere}
use Rattle.reading.proofs.Lines.{node_held, query_held}
use Rattle.reading.proofs.Order.{first_bad, first_none}
use Rattle.reading.proofs.Stepping.{refuses, goes_on, begun, nodes_room, queries_room}
use Rattle.reading.proofs.Typing.{one_made}
use Rattle.reading.proofs.Marking.{refers_then, refers_stop}
use Rattle.reading.proofs.Refs.{HeadIs, head_is}
use Rattle.format.specs.Frame.{Edition}
use Rattle.std.specs.Prelude.{◌&&◌, Err, Ok, Option, Some}
use Rattle.tree.proofs.LineParts.{whole_got}

-- ---- What a frame without types refers to

de_morgan : (a b g : Bool) → (not (a && (true && b)) || g) ≡ not (a && (b && not g))
de_morgan true true true = refl
de_morgan true true false = refl
de_morgan true false g = refl
de_morgan false b g = refl

node_refers : (so : SoFar) (nd : Node) → refers_badly so (a_node nd) ≡ not
    (all_below (length so.names) (expr_names nd.kind)
    && (all_below (length so.nodes) (expr_nodes nd.kind) && not (again so.named (expr_nodes nd.kind))))
unfolding refers_badly refers_earlier name_refs type_refs node_refs all_below
node_refers so nd = de_morgan (all_below (length so.names) (expr_names nd.kind)) (all_below (length so.nodes) (expr_nodes nd.kind))
    (again so.named (expr_nodes nd.kind))

query_refers : (so : SoFar) (q : Query) → refers_badly so (the_query q) ≡ not
    (all_below (length so.names) [] && (all_below (length so.nodes) (query_nodes q) && not (again so.named (query_nodes q))))
unfolding refers_badly refers_earlier name_refs type_refs node_refs all_below
query_refers so q = de_morgan true (all_below (length so.nodes) (query_nodes q)) (again so.named (query_nodes q))

-- the loops' answer is that test
module _ (ed : Edition) {f : List ℕ} {at : ℕ} {w : List ℕ} {T : Rows} {c : Counters} {previous : Option Frame.Kind} {so : SoFar}
    (h : Held ed f at w T c previous so)
    {xs ns v : List ℕ} {r : Bool} (a : Refers w c.names xs c.nodes ns v r) where
  roomy : Roomy w c.nodes
  roomy = record { few = omega (arith, h.nodes.count, h.nodes.few); long = h.long }

  answered : r ≡ (all_below (length so.names) xs && (all_below (length so.nodes) ns && not (again so.named ns)))
  answered = rw (← h.names.count, ← h.nodes.count) (a.is roomy so.named (subst (λ n. Marked w n so.named) (sym h.nodes.count) h.named))

  marked_after : r ≡ true → Marked v (length so.nodes) (so.named ++ ns)
  marked_after e = subst (λ n. Marked v n (so.named ++ ns)) h.nodes.count
      (a.marked roomy e so.named (subst (λ n. Marked w n so.named) (sym h.nodes.count) h.named))

-- ---- A node

node_frame : (ed : Edition) (s : List ℕ) (fr : Frame) → frame_of ed Frame.node (drop 1 s) ≡ Some fr → (nd : Node) × (fr ≡ a_node nd)
unfolding frame_of frame one
node_frame ed s fr e = let o = one_made a_node (span_and_kind ed (drop 1 s)) fr []
    (whole_got (and_then (span_and_kind ed (drop 1 s)) (λ n. got (a_node n))) fr e) in (o.0, o.2)

module _ (ed : Edition) (at : ℕ) (s w : List ℕ) (c : Counters) (v : List ℕ) where
  pub node_bad : NamesAll ed s w c.names c.nodes v false → TakesThere ed at Frame.node s w c v (Err Refusal.BadReference)
  unfolding frame_kind texts_of any_of
  node_bad a = record {
    is = λ f. record {
      is = λ next T previous so fr h l k.
          let n = node_frame ed s fr k.is in
          let r = a.is n.0 (k.is ∙ ap Some n.1) in
          refuses ed f next v (Some Frame.node) (add so fr) Refusal.BadReference _
          (subst (λ y. first_of conditions so (frames y) ≡ Some Refused.bad_reference) (sym n.1)
          (first_bad so (a_node n.0) k.placed k.room k.turn refl refl (node_refers so n.0 ∙ ap not (sym (answered ed h r)))));
    };
  }

  pub node_takes : NamesAll ed s w c.names c.nodes v true → (w' : List ℕ) → w' ≡ set v (NODES + c.nodes) ((at * 1024 + length s) * 2)
      → TakesThere ed at Frame.node s w c w' (Ok (with_node c))
  unfolding frame_kind texts_of any_of keys_of again may_stand
  node_takes a w' e = record {
    is = λ f. record {
      is = λ next T previous so fr h l k.
          let n = node_frame ed s fr k.is in
          let is = k.is ∙ ap Some n.1 in
          let r = a.is n.0 is in
          let b = begun so.previous Frame.node k.placed refl in
          rw (e, n.1)
          (goes_on ed f next (set v (NODES + c.nodes) ((at * 1024 + length s) * 2)) (Some Frame.node) (add so (a_node n.0)) (with_node c) T _
          (first_none so (a_node n.0) k.placed k.room k.turn refl refl (node_refers so n.0 ∙ ap not (sym (answered ed h r))) refl)
          (node_held ed h next (omega (arith, l.on)) l.within (length s) (drop 1 s) l.most v (r.marks (roomy ed h r) refl) n.0 b.0 k.placed b.1
          (nodes_room so k.room) (l.is ∙ ap Some k.first) (ap length k.first) is (marked_after ed h r refl)));
    };
  }

-- ---- The query

query_frame : (ed : Edition) (s : List ℕ) (fr : Frame) → 0 < length s → frame_of ed Frame.query (drop 1 s) ≡ Some fr
    → (q : Query) × (fr ≡ the_query q) × HeadIs s 1 q
unfolding frame_of frame one
query_frame ed s fr l e =
    let o = one_made the_query (head_and_body (drop 1 s)) fr [] (whole_got (and_then (head_and_body (drop 1 s)) (λ q. got (the_query q))) fr e) in
    (o.0, o.2, head_is s 1 o.0 l o.1)

query_nodes_lem : (s : List ℕ) (q : Query) → HeadIs s 1 q → query_nodes q ≡ half_w s 1 ∷ stmt_nodes q.body
unfolding query_nodes
query_nodes_lem s q h = ap (λ n. n ∷ stmt_nodes q.body) h.head

module _ (ed : Edition) (s w : List ℕ) (c : Counters) where
  no_head : (v : List ℕ) → NamesNode w (half_w s 1) c.nodes v false → (q : Query) → HeadIs s 1 q → Refers w c.names [] c.nodes (query_nodes q) v false
  no_head v n q h = rw (query_nodes_lem s q h) (refers_stop c.names c.nodes (n.is c.names) [] (stmt_nodes q.body))

  with_head : (v u : List ℕ) (r : Bool) → NamesNode w (half_w s 1) c.nodes v true → NamesStatements (drop 3 s) v c.nodes u r → (q : Query)
      → HeadIs s 1 q → Refers w c.names [] c.nodes (query_nodes q) u r
  with_head v u r n m q h = rw (query_nodes_lem s q h) (refers_then c.names c.nodes (n.is c.names) (m.is c.names q.body h.body))

  query_bad : (v : List ℕ) → ((q : Query) → HeadIs s 1 q → Refers w c.names [] c.nodes (query_nodes q) v false)
      → TakesAnywhere ed Frame.query s w c v (Err Refusal.BadReference)
  unfolding frame_kind texts_of any_of
  query_bad v a = record {
    is = λ f at. record {
      is = λ next T previous so fr h l k.
          let n = query_frame ed s fr l.some k.is in
          let r = a n.0 n.2 in
          refuses ed f next v (Some Frame.query) (add so fr) Refusal.BadReference _
          (subst (λ y. first_of conditions so (frames y) ≡ Some Refused.bad_reference) (sym n.1)
          (first_bad so (the_query n.0) k.placed k.room k.turn refl refl (query_refers so n.0 ∙ ap not (sym (answered ed h r)))));
    };
  }

  pub query_no_head : (v : List ℕ) → NamesNode w (half_w s 1) c.nodes v false → TakesAnywhere ed Frame.query s w c v (Err Refusal.BadReference)
  query_no_head v n = query_bad v (no_head v n)

  pub query_no_body : (v u : List ℕ) → NamesNode w (half_w s 1) c.nodes v true → NamesStatements (drop 3 s) v c.nodes u false
      → TakesAnywhere ed Frame.query s w c u (Err Refusal.BadReference)
  query_no_body v u n m = query_bad u (with_head v u false n m)

  pub query_takes : (v u : List ℕ) → NamesNode w (half_w s 1) c.nodes v true → NamesStatements (drop 3 s) v c.nodes u true
      → TakesAnywhere ed Frame.query s w c u (Ok (with_query c))
  unfolding frame_kind texts_of any_of keys_of again may_stand
  query_takes v u n m = record {
    is = λ f at. record {
      is = λ next T previous so fr h l k.
          let x = query_frame ed s fr l.some k.is in
          let r = with_head v u true n m x.0 x.2 in
          let b = begun so.previous Frame.query k.placed refl in
          rw x.1
          (goes_on ed f next u (Some Frame.query) (add so (the_query x.0)) (with_query c) T _
          (first_none so (the_query x.0) k.placed k.room k.turn refl refl (query_refers so x.0 ∙ ap not (sym (answered ed h r))) refl)
          (query_held ed h next (omega (arith, l.on)) l.within (length s) (drop 1 s) l.most u (r.marks (roomy ed h r) refl) x.0 b.0 b.1
          (queries_room so k.turn)));
    };
  }
