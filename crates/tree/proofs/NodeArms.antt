-- Each arm of `node_at`: where the shape byte is this, the node made of the digits after it is the one that the line
-- says.
use mathlib.Core.Bool.{Bool, true, false}
use mathlib.Core.List.{List, [], ◌∷◌}
use mathlib.Core.Path.{◌≡◌, refl, sym, ◌∙◌, ap, ap₂}
use Prim.Native.Nat.{ℕ, zero, suc, ◌+◌, ◌-◌, ◌*◌, ◌/◌, ◌%◌, ◌≤◌, ◌<◌}
use native.Mathlib.Omega.{arith}
use lib.Dec.{T, eqb}
use lib.ListN.{length, get_or, length-map}
use borrow.Author.Tests.{eqb-true, eqb-false, ne_eqb}
use Rattle.cells.specs.Words.{pick}
use Rattle.work.specs.Layout.{NODES}
use Rattle.format.specs.Syntax as Syntax
use Rattle.format.specs.Syntax.{ExprKind, Literal, FieldRef, Query}
use Rattle.format.specs.Frame.{wide, got, fails, Reader, one, pair, two, four, many, field, head_and_body, choice, entry, expr_kinds}
use Rattle.frames.specs.Promises.{expr_kind}
use Rattle.format.specs.References.{field_values, query_nodes, expr_nodes}
use Rattle.format.specs.Conditions.{all_below}
use Rattle.sigla_hex.specs.Digits.{digits_w, half_at}
use Rattle.tree.specs.declared.items.Items.{Items}
use Rattle.tree.specs.declared.Node.{Node}
use Rattle.tree.specs.Stands.{NodeIs}
use Rattle.tree.specs.Nodes.{lower_w, full_at, ItemsAre, parent_w, SubqueryIs, ParentIs, fields_from, items_from, stmts_from, stmts_w, kind_w, LowerItems}
use Rattle.tree.specs.Nodes.{NamesLower, IsNode}
use Rattle.tree.proofs.Lowering.{lower_stays, lower_below}
use Rattle.format.proofs.Inverse.{went}
use Rattle.tree.proofs.Readers.{Reads, no_got, reads_nothing, reads_byte, reads_one, reads_pair, reads_two, Listed, listed, listed_length}
use Rattle.tree.proofs.Below.{first_below, items_are, field_at, reads_field, fields_are}
use Rattle.tree.proofs.ItemsOf.{items_count, items_some}
use Rattle.tree.proofs.LineParts.{KindAt, four_at, reads_four, kind_at, QueryAt, query_at, head_is, body_is}

-- x is none of them
abbrev pub Others : List ℕ → ℕ → Type 0
Others [] x = Unit {0}
Others (m ∷ ms) x = Others ms x × (x ≡ m → ⊥)

abbrev pub down : ℕ → List ℕ
down zero = []
down (suc n) = n ∷ down n

-- A number that is none of those below n is n or more.
beyond : (n x : ℕ) → Others (down n) x → n ≤ x
beyond zero x o = omega arith
beyond (suc n) x o = let l = beyond n x o.0 in let e = o.1 in omega arith

-- A shape byte past the table says nothing.
shape_past : (m : ℕ) (s : List ℕ) → expr_kind wide
    (suc (suc (suc (suc (suc (suc (suc (suc (suc (suc (suc (suc (suc (suc (suc (suc (suc m)))))))))))))))) ∷ s) ≡ fails
unfolding expr_kinds choice entry
shape_past m s = refl

-- Where the node's line is, and its shape byte.
pub record At (f w : List ℕ) (n start size shape : ℕ) : Type 0 where
  pub begins : start ≡ get_or w (NODES + n) 0 / 2048
  pub long : size ≡ get_or w (NODES + n) 0 / 2 % 1024
  pub says : shape ≡ digits_w f (start + 18)

module _ (f w : List ℕ) (n start size shape : ℕ) (p : At f w n start size shape) where
  -- The bytes after the shape byte, and the reader that ran on them.
  record Arm (m : ℕ) (r : Reader ExprKind) (k : ExprKind) : Type 0 where
    line : KindAt f start size k
    ran : r line.rest ≡ got k []

  after : (m : ℕ) (r : Reader ExprKind) → ((s : List ℕ) → expr_kind wide (m ∷ s) ≡ r s) → shape ≡ m → (nd : Syntax.Node) → NodeIs f w n nd → Arm m r nd.kind
  after m r same e nd h =
      let k = rw (← p.begins, ← p.long) at (kind_at f w n nd h) in
      let z : digits_w f (start + 18) ≡ m = sym p.says ∙ e in
      record { line = k; ran = sym (same k.rest) ∙ (rw z at k.kind) }

  module _ (m : ℕ) {r : Reader ExprKind} {c : ℕ → ℕ} {v : ℕ → ExprKind} (same : (s : List ℕ) → expr_kind wide (m ∷ s) ≡ r s) (R : Reads f r c v)
      (e : shape ≡ m) where
    says : (nd : Syntax.Node) → NodeIs f w n nd → v (start + 20) ≡ nd.kind
    says nd h =
        let a = after m r same e nd h in
        (R.run (start + 20) a.line.rest nd.kind [] a.line.stands a.ran).value

  -- ---- Nodes with no node below them

  pub int : shape ≡ 0 → IsNode f w n Node.Int
  unfolding expr_kinds choice entry kind_w
  int e = record { is = λ nd h b. says 0 (λ s. refl) (reads_nothing f (ExprKind.Lit Literal.Int)) e nd h; lower = tt }

  pub str : shape ≡ 1 → IsNode f w n Node.Str
  unfolding expr_kinds choice entry kind_w
  str e = record { is = λ nd h b. says 1 (λ s. refl) (reads_nothing f (ExprKind.Lit Literal.Str)) e nd h; lower = tt }

  pub bytes : shape ≡ 2 → IsNode f w n Node.Bytes
  unfolding expr_kinds choice entry kind_w
  bytes e = record { is = λ nd h b. says 2 (λ s. refl) (reads_nothing f (ExprKind.Lit Literal.Bytes)) e nd h; lower = tt }

  pub var : shape ≡ 3 → IsNode f w n (Node.Var (half_at f (start + 20)))
  unfolding expr_kinds choice entry kind_w
  var e = record { is = λ nd h b. says 3 (λ s. refl) (reads_one f ExprKind.Var (reads_two f)) e nd h; lower = tt }

  pub wildcard : shape ≡ 4 → IsNode f w n Node.Wildcard
  unfolding expr_kinds choice entry kind_w
  wildcard e = record { is = λ nd h b. says 4 (λ s. refl) (reads_nothing f ExprKind.Wildcard) e nd h; lower = tt }

  pub never : shape ≡ 5 → IsNode f w n Node.Never
  unfolding expr_kinds choice entry kind_w
  never e = record { is = λ nd h b. says 5 (λ s. refl) (reads_nothing f ExprKind.Never) e nd h; lower = tt }

  pub prefix : shape ≡ 6 → IsNode f w n (Node.Prefix (half_at f (start + 20)))
  unfolding expr_kinds choice entry kind_w
  prefix e = record { is = λ nd h b. says 6 (λ s. refl) (reads_one f ExprKind.Prefix (reads_two f)) e nd h; lower = tt }

  pub fuzzy : shape ≡ 7 → IsNode f w n (Node.Fuzzy (half_at f (start + 20)) (digits_w f (start + 20 + 4)))
  unfolding expr_kinds choice entry kind_w
  fuzzy e = record { is = λ nd h b. says 7 (λ s. refl) (reads_pair f ExprKind.Fuzzy (reads_two f) (reads_byte f)) e nd h; lower = tt }

  -- ---- Lists of nodes

  items_lower : {it : Items} {each : ℕ} → ItemsAre (start + 20) size each n it → LowerItems n it
  items_lower I = record { below = I.below; some = λ h. items_some _ _ _ (rw I.n at h) }

  some_below : (l : List ℕ) → T (all_below n l) → 0 < length l → 0 < n
  some_below [] b h = absurd (omega arith)
  some_below (x ∷ l) b h = omega (arith, first_below n x l b)

  -- A list of items of so many bytes, each read as v says; `from` reads them with `lower`, and `refs` are the nodes
  -- that they name.
  module _ {A : Type 0} (m each : ℕ) (make : List A → ExprKind) (r : Reader A) (v : ℕ → A) (refs : List A → List ℕ) (from : Items → ℕ → ℕ → List A) where
    record ListOf : Type 0 where
      some_bytes_lem : 0 < each
      same : (s : List ℕ) → expr_kind wide (m ∷ s) ≡ one make (many r) s
      reads : Reads f r (λ _. 2 * each) v
      nodes : (l : List A) → expr_nodes (make l) ≡ refs l
      lengths : (l : List A) → length (refs l) ≡ length l
      are : (it : Items) (i end : ℕ) (l : List A) → Listed (λ _. 2 * each) v (it.at + 2 * each * i) end l → T (all_below it.below (refs l))
          → from it i (length l) ≡ l

    list_is : ListOf → {it : Items} → ItemsAre (start + 20) size each n it → shape ≡ m → (nd : Syntax.Node) → NodeIs f w n nd
        → T (all_below n (expr_nodes nd.kind)) → make (from it 0 it.n) ≡ nd.kind
    unfolding one
    list_is L {it} I e nd h b =
        let a = after m (one make (many r)) L.same e nd h in
        let x = went (many r a.line.rest) (λ l. got (make l)) nd.kind [] a.ran in
        let k : make x.value ≡ nd.kind = cc x.then in
        go a.line.rest x.value a.line.long k (rw (← k, L.nodes x.value) at b)
        (listed f L.reads (start + 20) a.line.rest x.value x.after a.line.stands x.first)
      where
        go : (rest : List ℕ) (l : List A) → size ≡ 10 + length rest → make l ≡ nd.kind → T (all_below n (refs l))
            → Listed (λ _. 2 * each) v (start + 20) (start + 20 + 2 * length rest) l → make (from it 0 it.n) ≡ nd.kind
        go rest l long k low ls =
            let taken = listed_length (2 * each) v (start + 20) (start + 20 + 2 * length rest) l ls in
            let count = I.n ∙ items_count size each n (length l) L.some_bytes_lem (omega (arith, taken))
            (λ h. some_below (refs l) low (rw (L.lengths l) h)) in
            let z : start + 20 ≡ it.at + 2 * each * 0 = omega (arith, I.at) in
            ap make (ap (from it 0) count ∙ L.are it 0 _ l (rw z at ls) (rw I.below low)) ∙ k

  pub fields : {it : Items} → ItemsAre (start + 20) size 4 n it → shape ≡ 8 → IsNode f w n (Node.Record it)
  unfolding expr_kinds choice entry kind_w expr_nodes field_values
  fields I e = record {
    is = list_is 8 4 ExprKind.Record field (field_at f) field_values (fields_from f)
        (record {
          some_bytes_lem = omega arith;
          same = λ s. refl;
          reads = reads_field f;
          nodes = λ l. refl;
          lengths = λ l. length-map l (λ e. e.value);
          are = fields_are f;
        }) I e;
    lower = items_lower I;
  }

  -- nodes alone
  nodes_are : (m : ℕ) (make : List ℕ → ExprKind) → ((s : List ℕ) → expr_kind wide (m ∷ s) ≡ one make (many two) s)
      → ((l : List ℕ) → expr_nodes (make l) ≡ l) → ListOf m 2 make two (half_at f) (λ l. l) (items_from f)
  nodes_are m make same nodes = record { some_bytes_lem = omega arith; same = same; reads = reads_two f; nodes = nodes; lengths = λ l. refl; are = items_are f }

  pub disjunction : {it : Items} → ItemsAre (start + 20) size 2 n it → shape ≡ 11 → IsNode f w n (Node.Disjunction it)
  unfolding expr_kinds choice entry kind_w expr_nodes
  disjunction I e = record {
    is = list_is 11 2 ExprKind.Disjunction two (half_at f) (λ l. l) (items_from f)
        (nodes_are 11 ExprKind.Disjunction (λ s. refl) (λ l. refl)) I e;
    lower = items_lower I;
  }

  pub arithmetic : {it : Items} → ItemsAre (start + 20) size 2 n it → shape ≡ 14 → IsNode f w n (Node.Arith it)
  unfolding expr_kinds choice entry kind_w expr_nodes
  arithmetic I e = record {
    is = list_is 14 2 ExprKind.Arith two (half_at f) (λ l. l) (items_from f) (nodes_are 14 ExprKind.Arith (λ s. refl) (λ l. refl))
        I e;
    lower = items_lower I;
  }

  -- ---- Nodes with one node right below them, and subqueries

  -- The node is what the line says.
  abbrev Is : Node → Type 0
  Is r = (nd : Syntax.Node) → NodeIs f w n nd → T (all_below n (expr_nodes nd.kind)) → kind_w f r ≡ nd.kind

  parent_lower : NamesLower n (parent_w f start shape n)
  unfolding parent_w
  parent_lower = go (eqb n 0) refl (eqb shape 9) (eqb shape 10) (eqb shape 13) (eqb shape 16)
    where
      a : ℕ
      a = lower_w (half_at f (start + 20)) n

      b : ℕ
      b = lower_w (half_at f (start + 24)) n

      c : ℕ
      c = lower_w (half_at f (start + 28)) n

      go : (first : Bool) → eqb n 0 ≡ first → (p q s t : Bool) → NamesLower n
          (pick first Node.Error (pick p (Node.Key (half_at f (start + 20)) b)
          (pick q (Node.Value a) (pick s (Node.Fact (full_at f (start + 20)) c) (pick t (Node.Select (half_at f (start + 20)) b) Node.Error)))))
      go true e p q s t = tt
      go false e true q s t = lower_below (half_at f (start + 24)) n (eqb-false n 0 e)
      go false e false true s t = lower_below (half_at f (start + 20)) n (eqb-false n 0 e)
      go false e false false true t = lower_below (half_at f (start + 28)) n (eqb-false n 0 e)
      go false e false false false true = lower_below (half_at f (start + 24)) n (eqb-false n 0 e)
      go false e false false false false = tt

  -- What the node names is lower, so it is not node 0.
  module _ (m : ℕ) (r : Node) (e : shape ≡ m) where
    pair_is : (make : ℕ → ℕ → ExprKind) → ((s : List ℕ) → expr_kind wide (m ∷ s) ≡ pair make two two s) → ((a b : ℕ) → expr_nodes (make a b) ≡ b ∷ [])
        → ((n ≡ 0 → ⊥) → kind_w f r ≡ make (half_at f (start + 20)) (lower_w (half_at f (start + 24)) n)) → Is r
    pair_is make same nodes made nd h b =
        let z : start + 20 + 4 ≡ start + 24 = omega arith in
        let k = rw z at (says m same (reads_pair f make (reads_two f) (reads_two f)) e nd h) in
        let low = first_below n (half_at f (start + 24)) [] (rw (← k, nodes (half_at f (start + 20)) (half_at f (start + 24))) at b) in
        made (λ q. omega (arith, low)) ∙ ap (make (half_at f (start + 20))) (lower_stays (half_at f (start + 24)) n low) ∙ k

    one_is : (make : ℕ → ExprKind) → ((s : List ℕ) → expr_kind wide (m ∷ s) ≡ one make two s) → ((a : ℕ) → expr_nodes (make a) ≡ a ∷ [])
        → ((n ≡ 0 → ⊥) → kind_w f r ≡ make (lower_w (half_at f (start + 20)) n)) → Is r
    one_is make same nodes made nd h b =
        let k = says m same (reads_one f make (reads_two f)) e nd h in
        let low = first_below n (half_at f (start + 20)) [] (rw (← k, nodes (half_at f (start + 20))) at b) in
        made (λ q. omega (arith, low)) ∙ ap make (lower_stays (half_at f (start + 20)) n low) ∙ k

  asked : Query
  asked = record { head = lower_w (half_at f (start + 20)) n; body = stmts_from (start + 2 * size) f (start + 24) (start + 2 * size) n }

  asked_is : (q : Query) → QueryAt f (start + 20) (start + 2 * size) q → T (all_below n (query_nodes q)) → asked ≡ q
  unfolding asked
  asked_is q h b =
      let z : start + 20 + 4 ≡ start + 24 = omega arith in
      let head = head_is f (start + 20) (start + 2 * size) n q h b in
      let body = rw z at (body_is f (start + 20) (start + 2 * size) n q h b) in
      ap (λ x. record { head = x; body = asked.body }) head ∙ ap (λ x. record { head = q.head; body = x }) body

  subquery_is : (r : Node) → shape ≡ 12 → ((n ≡ 0 → ⊥) → kind_w f r ≡ ExprKind.Subquery asked) → Is r
  unfolding expr_kinds choice entry one expr_nodes query_nodes
  subquery_is r e made nd h b =
      let a = after 12 (one ExprKind.Subquery head_and_body) (λ s. refl) e nd h in
      let x = went (head_and_body a.line.rest) (λ q. got (ExprKind.Subquery q)) nd.kind [] a.ran in
      let k : ExprKind.Subquery x.value ≡ nd.kind = cc x.then in
      let q = query_at f (start + 20) (start + 2 * size) a.line.rest x.value x.after a.line.stands (omega (arith, a.line.long)) x.first in
      let low : T (all_below n (query_nodes x.value)) = rw (← k) at b in
      made (λ q. omega (arith, first_below n x.value.head _ low)) ∙ ap ExprKind.Subquery (asked_is x.value q low) ∙ k

  -- no half of it passes 16 bits
  fact_whole : 14 ≤ size → ((i : ℕ) → i < size → digits_w f (start + 2 * i) < 256) → full_at f (start + 20) ≡ four_at f (start + 20)
  unfolding full_at four_at half_at
  fact_whole l small =
      let p : start + 20 + 2 ≡ start + 2 * 11 = omega arith in
      let q : start + 20 + 4 ≡ start + 2 * 12 = omega arith in
      let r : start + 2 * 12 + 2 ≡ start + 2 * 13 = omega arith in
      let o : start + 20 ≡ start + 2 * 10 = omega arith in
      rw (p, q, r, o) (omega (arith, small 10 (omega arith), small 11 (omega arith), small 12 (omega arith), small 13 (omega arith)))

  fact_is : (r : Node) → shape ≡ 13 → ((n ≡ 0 → ⊥) → kind_w f r ≡ ExprKind.Fact (full_at f (start + 20)) (lower_w (half_at f (start + 28)) n)) → Is r
  unfolding expr_kinds choice entry expr_nodes
  fact_is r e made nd h b =
      let a = after 13 (pair ExprKind.Fact four two) (λ s. refl) e nd h in
      let ran = (reads_pair f ExprKind.Fact (reads_four f) (reads_two f)).run (start + 20) a.line.rest nd.kind [] a.line.stands a.ran in
      let z : start + 20 + 8 ≡ start + 28 = omega arith in
      let k : ExprKind.Fact (four_at f (start + 20)) (half_at f (start + 28)) ≡ nd.kind = rw z at ran.value in
      let low = first_below n (half_at f (start + 28)) [] (rw (← k) at b) in
      made (λ q. omega (arith, low)) ∙ ap₂ ExprKind.Fact (fact_whole (omega (arith, ran.long, a.line.long)) a.line.small)
      (lower_stays (half_at f (start + 28)) n low) ∙ k

  error_is : shape ≡ 15 → Is (parent_w f start shape n)
  unfolding expr_kinds choice entry kind_w parent_w
  error_is e nd h b = rw e (go (eqb n 0)) ∙ says 15 (λ s. refl) (reads_nothing f ExprKind.Error) e nd h
    where
      go : (first : Bool) → kind_w f (pick first Node.Error Node.Error) ≡ ExprKind.Error
      go true = refl
      go false = refl

  none_is : (r : Node) → 17 ≤ shape → Is r
  none_is r l nd h b = no_got (after _ (λ s. fails) (shape_past (shape - 17)) (omega arith) nd h).ran

  -- A subquery, where a node is lower.
  subquery : {r : Node} → shape ≡ 12 → 0 < n → SubqueryIs f start size n r → IsNode f w n r
  unfolding kind_w asked stmts_w
  subquery e h S = rw S.is (record {
    is = subquery_is (Node.Subquery (lower_w (half_at f (start + 20)) n) S.body) e (λ _. rw (S.stmts.at, S.stmts.end, S.stmts.below) refl);
    lower = (lower_below (half_at f (start + 20)) n (λ q. omega arith), S.stmts.below);
  })

  -- No subquery: none of node 0 stands in a file where what is named is lower.
  no_subquery : Others (14 ∷ 11 ∷ down 9) shape → (shape ≡ 12 → n ≡ 0) → IsNode f w n (parent_w f start shape n)
  unfolding expr_kinds choice entry kind_w parent_w expr_nodes
  no_subquery o first = record {
    is = go (eqb shape 9) refl (eqb shape 10) refl (eqb shape 12) refl (eqb shape 13) refl (eqb shape 15) refl (eqb shape 16) refl;
    lower = parent_lower;
  }
    where
      go : (p : Bool) → eqb shape 9 ≡ p → (q : Bool) → eqb shape 10 ≡ q → (r : Bool) → eqb shape 12 ≡ r → (s : Bool) → eqb shape 13 ≡ s → (t : Bool)
          → eqb shape 15 ≡ t → (u : Bool) → eqb shape 16 ≡ u → Is (parent_w f start shape n)
      go true e q e₁ r e₂ s e₃ t e₄ u e₅ = let e = eqb-true shape 9 e in pair_is 9 _ e (λ x e. ExprKind.Access (FieldRef.Key x) e) (λ s. refl)
          (λ a b. refl) (λ h. rw (e, ne_eqb n 0 h))
      go false e₀ true e r e₂ s e₃ t e₄ u e₅ = let e = eqb-true shape 10 e in one_is 10 _ e (ExprKind.Access FieldRef.Value) (λ s. refl) (λ a. refl)
          (λ h. rw (e, ne_eqb n 0 h))
      go false e₀ false e₁ true e s e₃ t e₄ u e₅ = let e = eqb-true shape 12 e in subquery_is _ e (λ h. absurd (h (first e)))
      go false e₀ false e₁ false e₂ true e t e₄ u e₅ = let e = eqb-true shape 13 e in fact_is _ e (λ h. rw (e, ne_eqb n 0 h))
      go false e₀ false e₁ false e₂ false e₃ true e u e₅ = error_is (eqb-true shape 15 e)
      go false e₀ false e₁ false e₂ false e₃ false e₄ true e = let e = eqb-true shape 16 e in pair_is 16 _ e ExprKind.Select (λ s. refl) (λ a b. refl)
          (λ h. rw (e, ne_eqb n 0 h))
      go false e₀ false e₁ false e₂ false e₃ false e₄ false e₅ =
          none_is _ (beyond 17 shape (
            (
              (
                (
                  ((((o.0.0, eqb-false shape 9 e₀), eqb-false shape 10 e₁), o.0.1), eqb-false shape 12 e₂),
                  eqb-false shape 13 e₃,
                ),
                o.1,
              ),
              eqb-false shape 15 e₄,
            ),
            eqb-false shape 16 e₅,
          ))

  pub parents : Others (14 ∷ 11 ∷ down 9) shape → {r : Node} → ParentIs f start size shape n r → IsNode f w n r
  parents o {r} P = go (eqb shape 12) refl (eqb n 0) refl
    where
      go : (s : Bool) → eqb shape 12 ≡ s → (z : Bool) → eqb n 0 ≡ z → IsNode f w n r
      go false e z e₁ = let h : shape ≡ 12 → n ≡ 0 = λ q. absurd (eqb-false shape 12 e q) in rw (P.other h) (no_subquery o h)
      go true e true e₁ = let h : shape ≡ 12 → n ≡ 0 = λ q. eqb-true n 0 e₁ in rw (P.other h) (no_subquery o h)
      go true e false e₁ =
          let q = eqb-true shape 12 e in
          let h : 0 < n = let z = eqb-false n 0 e₁ in omega arith in
          subquery q h (P.subquery q h)
