-- A node's line and the query's line, taken apart: which readers ran, on what bytes, and where those stand. From that
-- the kind of the node is what each arm of `node_at` makes of the shape byte and the digits after it.
use mathlib.Core.List.{List, [], ◌∷◌}
use mathlib.Core.Path.{◌≡◌, sym, ◌∙◌, ap}
use Prim.Native.Nat.{ℕ, ◌+◌, ◌*◌, ◌/◌, ◌%◌, ◌<◌}
use native.Mathlib.Omega.{arith}
use lib.Dec.{T}
use lib.ListN.{length, get_or}
use Rattle.work.specs.Layout.{NODES, QUERY}
use Rattle.format.specs.Syntax as Syntax
use Rattle.format.specs.Syntax.{ExprKind, Query}
use Rattle.format.specs.Frame.{wide, Got, got, fails, one, pair, triple, four, two, many, span_and_kind, head_and_body, frame, frame_of, whole, Frame, a_node}
use Rattle.format.specs.Frame.{the_query, node, query, expr_kinds, choice}
use Rattle.frames.specs.Promises.{expr_kind}
use Rattle.format.specs.Frame as Frame
use Rattle.format.specs.References.{query_nodes}
use Rattle.format.specs.Conditions.{all_below}
use Rattle.sigla_hex.specs.Digits.{digits_w, half_at, line_at}
use Rattle.sigla_hex.proofs.Bytes.{digits_of_line, byte_of_line}
use Rattle.tree.specs.Stands.{LineIs, NodeIs, QueryIs}
use Rattle.tree.specs.Nodes.{stmt_size_w, lower_w, stmts_from}
use Rattle.format.proofs.Inverse.{went}
use Rattle.tree.proofs.Readers.{Stand, stand, Reads, no_got, reads_pair, reads_two, Listed, listed}
use Rattle.tree.proofs.Below.{first_below, others_below, lower_is, stmt_at, reads_statement, stmts_are}
use Rattle.std.specs.Prelude.{Some}

-- A frame that was read whole left nothing.
pub whole_got : {A : Type 0} (g : Got A) (a : A) → whole g ≡ Some a → g ≡ got a []
unfolding whole
whole_got (got b []) a e = cc
whole_got (got b (c ∷ s)) a e = cc
whole_got fails a e = cc

line_stands : (f : List ℕ) (at size kind : ℕ) (content : List ℕ) → LineIs f at size kind content → Stand f (at + 2) content
line_stands f at size kind content l = (stand f at (kind ∷ content) (λ k h. digits_of_line f at (kind ∷ content) l.line k h)).1

line_small : (f : List ℕ) (at : ℕ) (s : List ℕ) → line_at f at ≡ Some s → (i : ℕ) → i < length s → digits_w f (at + 2 * i) < 256
line_small f at s e i l = rw (digits_of_line f at s e i l) (byte_of_line f at s e i l)

-- ---- A node's line

-- The shape byte and what follows it.
pub record KindAt (f : List ℕ) (start size : ℕ) (k : ExprKind) : Type 0 where
  pub rest : List ℕ
  pub stands : Stand f (start + 20) rest
  pub kind : expr_kind wide (digits_w f (start + 18) ∷ rest) ≡ got k []
  pub long : size ≡ 10 + length rest
  pub small : (i : ℕ) → i < size → digits_w f (start + 2 * i) < 256

unfoldable pub four_at : List ℕ → ℕ → ℕ
four_at f at = half_at f at * 0x10000 + half_at f (at + 4)

pub reads_four : (f : List ℕ) → Reads f four (λ _. 8) (four_at f)
unfolding four four_at
reads_four f = reads_pair f (λ high low. high * 0x10000 + low) (reads_two f) (reads_two f)

-- A span, and a kind after it.
pub record Parts (nd : Syntax.Node) (s : List ℕ) : Type 0 where
  pub start : ℕ
  pub end : ℕ
  pub s₁ : List ℕ
  pub s₂ : List ℕ
  pub first : four s ≡ got start s₁
  pub second : four s₁ ≡ got end s₂
  pub third : expr_kind wide s₂ ≡ got nd.kind []
  pub span : nd.span ≡ record { start = start; end = end }

parts_of : (nd : Syntax.Node) (s : List ℕ) → span_and_kind wide s ≡ got nd [] → Parts nd s
unfolding span_and_kind triple pair one
parts_of nd s e =
    let u = went (four s) (λ a. pair (λ b k. record { span = record { start = a; end = b }; kind = k }) four (expr_kind wide)) nd [] e in
    let v = went (four u.after) (λ b. one (λ k. record { span = record { start = u.value; end = b }; kind = k }) (expr_kind wide)) nd [] u.then in
    let x = went (expr_kind wide v.after) (λ k. got (record { span = record { start = u.value; end = v.value }; kind = k })) nd [] v.then in
    let m : record { span = record { start = u.value; end = v.value }; kind = x.value } ≡ nd = cc x.then in
    let y : x.after ≡ [] = cc x.then in
    let k : x.value ≡ nd.kind = ap (λ (n : Syntax.Node). n.kind) m in
    record {
      start = u.value;
      end = v.value;
      s₁ = u.after;
      s₂ = v.after;
      first = u.first;
      second = v.first;
      third = rw (k, y) at x.first;
      span = sym (ap (λ (n : Syntax.Node). n.span) m);
    }

pub parts : (nd : Syntax.Node) (s : List ℕ) → frame_of wide node s ≡ Some (a_node nd) → Parts nd s
unfolding frame_of frame one
parts nd s e =
    let w = went (span_and_kind wide s) (λ a. got (a_node a)) (a_node nd) [] (whole_got (frame wide node s) (a_node nd) e) in
    let n : w.value ≡ nd = cc w.then in
    let z : w.after ≡ [] = cc w.then in
    parts_of nd s (rw (n, z) at w.first)

pub kind_at : (f w : List ℕ) (n : ℕ) (nd : Syntax.Node) → NodeIs f w n nd → KindAt f (get_or w (NODES + n) 0 / 2048) (get_or w (NODES + n) 0 / 2 % 1024) nd.kind
unfolding expr_kinds
kind_at f w n nd h =
    let p = parts nd h.content h.frame in
    let st = line_stands f (get_or w (NODES + n) 0 / 2048) (get_or w (NODES + n) 0 / 2 % 1024) 0x05 h.content h.line in
    let a = (reads_four f).run (get_or w (NODES + n) 0 / 2048 + 2) h.content p.start p.s₁ st p.first in
    let b = (reads_four f).run (get_or w (NODES + n) 0 / 2048 + 2 + 8) p.s₁ p.end p.s₂ a.rest p.second in
    go (get_or w (NODES + n) 0 / 2048) (get_or w (NODES + n) 0 / 2 % 1024) p.s₂ b.rest p.third (omega (arith, h.line.long, a.long, b.long))
    (λ i l. line_small f _ (0x05 ∷ h.content) h.line.line i (rw h.line.long at l))
  where
    go : (start size : ℕ) (s : List ℕ) → Stand f (start + 2 + 8 + 8) s → expr_kind wide s ≡ got nd.kind [] → size ≡ 9 + length s
        → ((i : ℕ) → i < size → digits_w f (start + 2 * i) < 256) → KindAt f start size nd.kind
    go start size [] st e l m = no_got e
    go start size (b ∷ s) st e l m =
        let p : start + 2 + 8 + 8 ≡ start + 18 = omega arith in
        let q : start + 18 + 2 ≡ start + 20 = omega arith in
        let st' = rw p at st in
        record { rest = s; stands = rw q at st'.1; kind = rw st'.0 e; long = omega (arith, l); small = m }

-- ---- Head and statements

-- The head's digits and the statements after them, up to an end.
pub record QueryAt (f : List ℕ) (at end : ℕ) (q : Query) : Type 0 where
  pub head : half_at f at ≡ q.head
  pub body : Listed (stmt_size_w f) (stmt_at f) (at + 4) end q.body

pub query_at : (f : List ℕ) (at end : ℕ) (s : List ℕ) (q : Query) (t : List ℕ) → Stand f at s → end ≡ at + 2 * length s → head_and_body s ≡ got q t
    → QueryAt f at end q
unfolding head_and_body pair one
query_at f at end s q t st l e =
    let w = went (two s) (λ head. one (λ body. record { head = head; body = body }) (many (Frame.choice Frame.statements))) q t e in
    let ran = (reads_two f).run at s w.value w.after st w.first in
    let x = went (many (Frame.choice Frame.statements) w.after) (λ body. got (record { head = w.value; body = body })) q t w.then in
    let m : record { head = w.value; body = x.value } ≡ q = cc x.then in
    let h : w.value ≡ q.head = ap (λ (q : Query). q.head) m in
    let b : x.value ≡ q.body = ap (λ (q : Query). q.body) m in
    let z : at + 4 + 2 * length w.after ≡ end = omega (arith, ran.long, l) in
    record { head = ran.value ∙ h; body = rw (b, z) at (listed f (reads_statement f) (at + 4) w.after x.value x.after ran.rest x.first) }

module _ (f : List ℕ) (at end n : ℕ) (q : Query) (h : QueryAt f at end q) (b : T (all_below n (query_nodes q))) where
  pub head_is : lower_w (half_at f at) n ≡ q.head
  unfolding query_nodes
  head_is = lower_is n h.head (first_below n q.head _ b)

  pub body_is : stmts_from end f (at + 4) end n ≡ q.body
  unfolding query_nodes
  body_is = stmts_are f end n end (at + 4) q.body h.body (omega arith) (others_below n q.head _ b)

-- ---- The query's line

pub query_line : (f w : List ℕ) (q : Query) → QueryIs f w q
    → QueryAt f (get_or w QUERY 0 / 1024 + 2) (get_or w QUERY 0 / 1024 + 2 * (get_or w QUERY 0 % 1024)) q
unfolding frame_of frame one
query_line f w q h =
    let x = went (head_and_body h.content) (λ a. got (the_query a)) (the_query q) [] (whole_got (frame wide query h.content) (the_query q) h.frame) in
    let m : x.value ≡ q = cc x.then in
    query_at f (get_or w QUERY 0 / 1024 + 2) (get_or w QUERY 0 / 1024 + 2 * (get_or w QUERY 0 % 1024)) h.content q x.after
    (line_stands f (get_or w QUERY 0 / 1024) (get_or w QUERY 0 % 1024) 0x06 h.content h.line) (omega (arith, h.line.long)) (rw m at x.first)
