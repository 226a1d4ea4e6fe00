-- `query_head` and `query_body` give the head and the body of the query that the file says, where what it names is
-- among its nodes.
use mathlib.Core.List.{List}
use mathlib.Core.Path.{◌≡◌}
use Prim.Native.Nat.{ℕ, ◌+◌, ◌*◌, ◌/◌, ◌%◌, ◌≤◌}
use native.Mathlib.Omega.{arith}
use lib.Dec.{T}
use lib.ListN.{get_or}
use Rattle.work.specs.Layout.{QUERY}
use Rattle.format.specs.Syntax.{Query}
use Rattle.format.specs.References.{query_nodes}
use Rattle.format.specs.Conditions.{all_below}
use Rattle.tree.specs.Stands.{QueryIs}
use Rattle.tree.specs.declared.items.Stmts.{Stmts}
use Rattle.tree.specs.Nodes.{stmts_w, head_w, BodyIs}
use Rattle.tree.proofs.Below.{below_more}
use Rattle.tree.proofs.LineParts.{body_is, query_line}

module _ (f w : List ℕ) (q : Query) (h : QueryIs f w q) where
  pub query_head_is : head_w f w ≡ q.head
  unfolding head_w
  query_head_is = (query_line f w q h).head

  pub query_body_is : {s : Stmts} → BodyIs w s → (n : ℕ) → n ≤ 512 → T (all_below n (query_nodes q)) → stmts_w f s ≡ q.body
  unfolding stmts_w
  query_body_is B n few b =
      let z : get_or w QUERY 0 / 1024 + 2 + 4 ≡ get_or w QUERY 0 / 1024 + 6 = omega arith in
      rw (B.at, B.end, B.below) (rw z at (body_is f (get_or w QUERY 0 / 1024 + 2) (get_or w QUERY 0 / 1024 + 2 * (get_or w QUERY 0 % 1024)) 512 q
      (query_line f w q h) (below_more n 512 few (query_nodes q) b)))
