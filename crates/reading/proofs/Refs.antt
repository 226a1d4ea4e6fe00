-- What a node's frame refers to, by its shape byte and places of the line.
use mathlib.Core.Bool.{true, false}
use mathlib.Core.List.{List, [], ◌∷◌, map}
use mathlib.Core.Path.{◌≡◌, refl, sym, ap, subst, ◌∙◌}
use Prim.Native.Nat.{ℕ, zero, suc, ◌+◌, ◌-◌, ◌/◌, ◌<◌, ◌≤◌}
use native.Mathlib.Nat.{add-zero}
use native.Mathlib.Omega.{arith}
use lib.ListN.{length, drop}
use lib.Dec.{ltb}
use borrow.Author.Tests.{ltb-true, ltb-false}
use Rattle.format.proofs.Tests.{cases}
use Rattle.format.specs.Syntax.{QueryStmt, Query, FieldRef, Literal, ExprKind, Node}
use Rattle.format.specs.Frame as Frame
use Rattle.format.specs.Frame.{Frame, a_node, got, fails, Reader, and_then, nothing, one, pair, triple, two, many, field, head_and_body, entry, expr_kinds}
use Rattle.format.specs.Frame.{span_and_kind, frame, frame_of}
use Rattle.format.specs.References.{field_names, field_values, stmt_nodes, query_nodes, expr_names, expr_nodes}
use Rattle.frames.specs.Promises.{reference_size, reference_w, byte_w, half_w, full_w, expr_kind, statement}
use Rattle.frames.specs.Items.{items_at, field_at, Fill}
use Rattle.frames.proofs.Readers.{sized_reference, Sized, sized_one, sized_pair, sized_two, sized_four, sized_byte, fields_are, numbers_are}
use Rattle.frames.proofs.Statements.{choice_at, statements_are}
use Rattle.std.specs.Simd.{first_chunks}
use Rattle.reading.proofs.Cuts.{half_cut, cut_items}
use Rattle.reading.proofs.Typing.{one_made, sized_got, map_items}
use Rattle.std.proofs.lemmas.Option.{slice_get_past}
use Rattle.format.specs.Frame.{Edition}
use Rattle.std.specs.Prelude.{Some, slice_get}
use Rattle.tree.proofs.LineParts.{whole_got}

-- The names and the nodes that a kind refers to are these.
pub record RefsAre (k : ExprKind) (xs ns : List ℕ) : Type 0 where
  pub names : expr_names k ≡ xs
  pub nodes : expr_nodes k ≡ ns

abbrev made : ℕ → ℕ → ExprKind → Node
made start end kind = record { span = record { start = start; end = end }; kind = kind }

span_kind : (ed : Edition) (s : List ℕ) → 10 ≤ length s → (n : Node) → span_and_kind ed (drop 1 s) ≡ got n []
    → entry (slice_get (expr_kinds ed) (byte_w s 9)) (drop 10 s) ≡ got n.kind []
unfolding span_and_kind triple pair one and_then
span_kind ed s long n e =
    let a = sized_four.reads s 1 (omega arith) in
    let b = sized_four.reads s 5 (omega arith) in
    let f : and_then (expr_kind ed (drop 9 s)) (λ k. got (made (full_w s 1) (full_w s 5) k)) ≡ got n [] = rw (a, b) at e in
    let o = one_made (made (full_w s 1) (full_w s 5)) (expr_kind ed (drop 9 s)) n [] f in
    sym (choice_at (expr_kinds ed) s 9 (omega arith)) ∙ o.1 ∙ ap (λ k. got k []) (sym (ap (λ m. m.kind) o.2))

-- ---- A head and statements

pub record HeadIs (s : List ℕ) (i : ℕ) (q : Query) : Type 0 where
  pub room : i + 2 ≤ length s
  pub head : q.head ≡ half_w s i
  pub body : Fill (drop (i + 2) s) 0 q.body

pub head_is : (s : List ℕ) (i : ℕ) (q : Query) → i ≤ length s → head_and_body (drop i s) ≡ got q [] → HeadIs s i q
unfolding head_and_body pair one and_then
head_is s i q l e = cases (ltb (length s) (i + 2)) short whole_head
  where
    short : ltb (length s) (i + 2) ≡ true → HeadIs s i q
    short t =
        let a = sized_two.lacks s i l (ltb-true (length s) (i + 2) t) in
        let x : fails ≡ got q [] = rw a at e in
        let z : ◌≡◌ {A = ℕ} 0 1 = cc in
        absurd (omega arith)

    whole_head : ltb (length s) (i + 2) ≡ false → HeadIs s i q
    whole_head t =
        let room = ltb-false (length s) (i + 2) t in
        let a = sized_two.reads s i room in
        let x : and_then (many statement (drop (i + 2) s)) (λ body. got (record { head = half_w s i; body = body })) ≡ got q [] = rw a at e in
        let o = one_made (λ body. record { head = half_w s i; body = body }) (many statement (drop (i + 2) s)) q [] x in
        record {
          room = room;
          head = ap (λ y. y.head) o.2;
          body = subst (Fill (drop (i + 2) s) 0) (sym (ap (λ y. y.body) o.2)) (statements_are (drop (i + 2) s) 0 (omega arith) o.0 [] o.1).0;
        }

module _ (ed : Edition) (s : List ℕ) (nd : Node) (long : 10 ≤ length s) (is : frame_of ed Frame.node (drop 1 s) ≡ Some (a_node nd)) where
  -- the bytes from 10 on in pieces of n
  abbrev pub cuts : ℕ → List (List ℕ)
  cuts n = first_chunks n ((length s - 10) / n) (drop 10 s)

  cut_first : (n : ℕ) → 2 ≤ n → (k : ℕ) → map (λ p. half_w p 0) (first_chunks n k (drop 10 s)) ≡ items_at (half_w s) n 10 k
  cut_first n h k = cut_items half_w n (λ s i. half_cut n 0 s i (omega arith) ∙ ap (half_w s) (add-zero i)) s 10 k

  -- the reader that the byte chooses made the kind
  chosen : entry (slice_get (expr_kinds ed) (byte_w s 9)) (drop 10 s) ≡ got nd.kind []
  unfolding frame_of frame one
  chosen =
      let m = one_made a_node (span_and_kind ed (drop 1 s)) (a_node nd) []
      (whole_got (and_then (span_and_kind ed (drop 1 s)) (λ n. got (a_node n))) (a_node nd) is) in
      let same : m.0 ≡ nd = cc m.2 in
      span_kind ed s long nd (m.1 ∙ ap (λ n. got n []) same)

  -- the shapes that hold nothing but themselves
  nothing_refs : (k : ExprKind) → entry (Some (nothing k)) (drop 10 s) ≡ got nd.kind [] → expr_names k ≡ [] → expr_nodes k ≡ [] → RefsAre nd.kind [] []
  unfolding entry nothing
  nothing_refs k e x n = let q : k ≡ nd.kind = cc in record { names = rw q at x; nodes = rw q at n }

  pub plain_refs : byte_w s 9 < 3 → RefsAre nd.kind [] []
  unfolding entry expr_kinds expr_names expr_nodes
  plain_refs h = go (byte_w s 9) refl h chosen
    where
      go : (b : ℕ) → byte_w s 9 ≡ b → b < 3 → entry (slice_get (expr_kinds ed) (byte_w s 9)) (drop 10 s) ≡ got nd.kind [] → RefsAre nd.kind [] []
      go zero e l c = nothing_refs (ExprKind.Lit Literal.Int) (rw e at c) refl refl
      go (suc zero) e l c = nothing_refs (ExprKind.Lit Literal.Str) (rw e at c) refl refl
      go (suc (suc zero)) e l c = nothing_refs (ExprKind.Lit Literal.Bytes) (rw e at c) refl refl
      go (suc (suc (suc n))) e l c = absurd (omega arith)

  -- a reader of one size made the kind
  sized_kind : {r : Reader ExprKind} {n : ℕ} {v : List ℕ → ℕ → ExprKind} (b : ℕ) → Sized r n v → byte_w s 9 ≡ b → slice_get (expr_kinds ed) b ≡ Some r
      → nd.kind ≡ v s 10
  unfolding entry
  sized_kind {r} b p e q =
      let x : r (drop 10 s) ≡ got nd.kind [] = rw (e, q) at chosen in
      sized_got p s 10 nd.kind [] long x

  refs_of : (k : ExprKind) → nd.kind ≡ k → RefsAre nd.kind (expr_names k) (expr_nodes k)
  refs_of k e = record { names = ap expr_names e; nodes = ap expr_nodes e }

  pub var_refs : byte_w s 9 ≡ 3 → RefsAre nd.kind (half_w s 10 ∷ []) []
  unfolding expr_kinds expr_names expr_nodes
  var_refs e = refs_of (ExprKind.Var (half_w s 10)) (sized_kind 3 (sized_one ExprKind.Var sized_two) e refl)

  pub prefix_refs : byte_w s 9 ≡ 6 → RefsAre nd.kind (half_w s 10 ∷ []) []
  unfolding expr_kinds expr_names expr_nodes
  prefix_refs e = refs_of (ExprKind.Prefix (half_w s 10)) (sized_kind 6 (sized_one ExprKind.Prefix sized_two) e refl)

  pub fuzzy_refs : byte_w s 9 ≡ 7 → RefsAre nd.kind (half_w s 10 ∷ []) []
  unfolding expr_kinds expr_names expr_nodes
  fuzzy_refs e = refs_of (ExprKind.Fuzzy (half_w s 10) (byte_w s 12)) (sized_kind 7 (sized_pair ExprKind.Fuzzy sized_two sized_byte) e refl)

  pub key_refs : byte_w s 9 ≡ 9 → RefsAre nd.kind (half_w s 10 ∷ []) (half_w s 12 ∷ [])
  unfolding expr_kinds expr_names expr_nodes
  key_refs e = refs_of (ExprKind.Access (FieldRef.Key (half_w s 10)) (half_w s 12))
      (sized_kind 9 (sized_pair (λ n e. ExprKind.Access (FieldRef.Key n) e) sized_two sized_two) e refl)

  pub value_refs : byte_w s 9 ≡ 10 → RefsAre nd.kind [] (half_w s 10 ∷ [])
  unfolding expr_kinds expr_names expr_nodes
  value_refs e = refs_of (ExprKind.Access FieldRef.Value (half_w s 10)) (sized_kind 10 (sized_one (ExprKind.Access FieldRef.Value) sized_two) e refl)

  pub fact_refs : byte_w s 9 ≡ 13 → RefsAre nd.kind [] (half_w s (10 + reference_size ed) ∷ [])
  unfolding expr_kinds expr_names expr_nodes
  fact_refs e = refs_of (ExprKind.Fact (reference_w ed s 10) (half_w s (10 + reference_size ed)))
      (sized_kind 13 (sized_pair ExprKind.Fact (sized_reference ed) sized_two) e refl)

  pub select_refs : byte_w s 9 ≡ 16 → RefsAre nd.kind (half_w s 10 ∷ []) (half_w s 12 ∷ [])
  unfolding expr_kinds expr_names expr_nodes
  select_refs e = refs_of (ExprKind.Select (half_w s 10) (half_w s 12)) (sized_kind 16 (sized_pair ExprKind.Select sized_two sized_two) e refl)

  pub error_refs : byte_w s 9 ≡ 15 → RefsAre nd.kind [] []
  unfolding entry expr_kinds expr_names expr_nodes
  error_refs e = nothing_refs ExprKind.Error (rw e at chosen) refl refl

  pub wildcard_refs : byte_w s 9 ≡ 4 → RefsAre nd.kind [] []
  unfolding entry expr_kinds expr_names expr_nodes
  wildcard_refs e = nothing_refs ExprKind.Wildcard (rw e at chosen) refl refl

  pub never_refs : byte_w s 9 ≡ 5 → RefsAre nd.kind [] []
  unfolding entry expr_kinds expr_names expr_nodes
  never_refs e = nothing_refs ExprKind.Never (rw e at chosen) refl refl

  pub no_refs : 17 ≤ byte_w s 9 → ⊥
  unfolding entry expr_kinds
  no_refs h =
      let x : fails ≡ got nd.kind [] = rw (slice_get_past (expr_kinds ed) (byte_w s 9) h, entry) at chosen in
      let z : ◌≡◌ {A = ℕ} 0 1 = cc in
      omega arith

  pub record_refs : byte_w s 9 ≡ 8 → RefsAre nd.kind (map (λ p. half_w p 0) (cuts 4)) (map (λ p. half_w p 2) (cuts 4))
  unfolding entry expr_kinds one expr_names expr_nodes field_names field_values
  record_refs e =
      let x : one ExprKind.Record (many field) (drop 10 s) ≡ got nd.kind [] = rw (e, entry) at chosen in
      let o = one_made ExprKind.Record (many field (drop 10 s)) nd.kind [] x in
      let f = fields_are s 10 o.0 [] long o.1 in
      let n : length o.0 ≡ (length s - 10) / 4 = omega (arith, f.fit) in
      record {
        names = ap expr_names o.2 ∙ ap (map (λ a. a.name)) f.are ∙ map_items (λ a. a.name) (field_at s) 4 10 (length o.0)
            ∙ ap (items_at (half_w s) 4 10) n ∙ sym (cut_first 4 (omega arith) ((length s - 10) / 4));
        nodes = ap expr_nodes o.2 ∙ ap (map (λ a. a.value)) f.are ∙ map_items (λ a. a.value) (field_at s) 4 10 (length o.0)
            ∙ ap (items_at (λ i. half_w s (i + 2)) 4 10) n
            ∙ sym (cut_items (λ s i. half_w s (i + 2)) 4 (λ s i. half_cut 4 2 s i (omega arith)) s 10 ((length s - 10) / 4));
      }

  pub branches_refs : byte_w s 9 ≡ 11 → RefsAre nd.kind [] (map (λ p. half_w p 0) (cuts 2))
  unfolding entry expr_kinds one expr_names expr_nodes
  branches_refs e =
      let x : one ExprKind.Disjunction (many two) (drop 10 s) ≡ got nd.kind [] = rw (e, entry) at chosen in
      let o = one_made ExprKind.Disjunction (many two (drop 10 s)) nd.kind [] x in
      let f = numbers_are s 10 o.0 [] long o.1 in
      let n : length o.0 ≡ (length s - 10) / 2 = omega (arith, f.fit) in
      record {
        names = ap expr_names o.2;
        nodes = ap expr_nodes o.2 ∙ f.are ∙ ap (items_at (half_w s) 2 10) n ∙ sym (cut_first 2 (omega arith) ((length s - 10) / 2));
      }

  pub operands_refs : byte_w s 9 ≡ 14 → RefsAre nd.kind [] (map (λ p. half_w p 0) (cuts 2))
  unfolding entry expr_kinds one expr_names expr_nodes
  operands_refs e =
      let x : one ExprKind.Arith (many two) (drop 10 s) ≡ got nd.kind [] = rw (e, entry) at chosen in
      let o = one_made ExprKind.Arith (many two (drop 10 s)) nd.kind [] x in
      let f = numbers_are s 10 o.0 [] long o.1 in
      let n : length o.0 ≡ (length s - 10) / 2 = omega (arith, f.fit) in
      record {
        names = ap expr_names o.2;
        nodes = ap expr_nodes o.2 ∙ f.are ∙ ap (items_at (half_w s) 2 10) n ∙ sym (cut_first 2 (omega arith) ((length s - 10) / 2));
      }

  pub subquery_refs : byte_w s 9 ≡ 12 → (stmts : List QueryStmt) × Fill (drop 12 s) 0 stmts × RefsAre nd.kind [] (half_w s 10 ∷ stmt_nodes stmts)
  unfolding entry expr_kinds one expr_names expr_nodes query_nodes
  subquery_refs e =
      let x : one ExprKind.Subquery head_and_body (drop 10 s) ≡ got nd.kind [] = rw (e, entry) at chosen in
      let o = one_made ExprKind.Subquery (head_and_body (drop 10 s)) nd.kind [] x in
      let h = head_is s 10 o.0 long o.1 in
      (o.0.body, h.body, record { names = ap expr_names o.2; nodes = ap expr_nodes o.2 ∙ ap (λ n. n ∷ stmt_nodes o.0.body) h.head })
