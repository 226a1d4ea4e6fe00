-- How nodes and statements are read from the file's digits (src/lib.rt).
use Rattle.std.specs.Prelude.{true, false, List, [], ◌∷◌, ◌≡◌, ℕ, zero, suc, ◌+◌, ◌-◌, ◌*◌, ◌/◌, ◌%◌, ◌<◌, T, eqb, ltb, get_or}
use Rattle.work.specs.Layout.{NODES, QUERY}
use Rattle.cells.specs.Words.{pick}
use Rattle.format.specs.Syntax as Syntax
use Rattle.format.specs.Syntax.{ExprKind, QueryStmt, FieldRef, Literal}
use Rattle.format.specs.References.{expr_nodes}
use Rattle.format.specs.Conditions.{all_below}
use Rattle.tree.specs.declared.items.Items.{Items}
use Rattle.tree.specs.declared.items.Stmts.{Stmts}
use Rattle.tree.specs.declared.Field.{Field}
use Rattle.tree.specs.declared.Node.{Node}
use Rattle.tree.specs.declared.Stmt.{Stmt}
use Rattle.sigla_hex.specs.Digits.{digits_w, half_at}
use Rattle.tree.specs.Stands.{NodeIs}

unfoldable pub lower_w : ℕ → ℕ → ℕ
lower_w x below = pick (ltb x below) x 0

-- The number of the eight digits at i, a predicate's. A character that is no digit counts 16, so each half is kept
-- below 65,536; in a line that was read it is.
unfoldable pub full_at : List ℕ → ℕ → ℕ
unfolding half_at
full_at f i = half_at f i % 65536 * 65536 + half_at f (i + 4) % 65536

unfoldable pub field_w : List ℕ → Items → ℕ → Field
unfolding half_at lower_w
field_w f l i = record { name = half_at f (l.at + 8 * i); value = lower_w (half_at f (l.at + 8 * i + 4)) l.below }

unfoldable pub item_w : List ℕ → Items → ℕ → ℕ
unfolding half_at lower_w
item_w f l i = lower_w (half_at f (l.at + 4 * i)) l.below

unfoldable pub stmt_of : ℕ → ℕ → ℕ → Stmt
stmt_of tag a b = pick (eqb tag 0) (Stmt.Bind a b)
    (pick (eqb tag 1) (Stmt.Implicit a) (pick (eqb tag 2) (Stmt.Negation a) (pick (eqb tag 3) (Stmt.Deny a b) (Stmt.Compare a b))))

unfoldable pub stmt_w : List ℕ → ℕ → ℕ → Stmt
unfolding stmt_of digits_w half_at lower_w
stmt_w f at below = stmt_of (digits_w f at) (lower_w (half_at f (at + 2)) below) (lower_w (half_at f (at + 6)) below)

unfoldable pub stmt_size_w : List ℕ → ℕ → ℕ
unfolding digits_w
stmt_size_w f at = pick (eqb (digits_w f at) 1) 6 (pick (eqb (digits_w f at) 2) 6 10)

unfoldable pub line_start_w : List ℕ → ℕ → ℕ
line_start_w w n = get_or w (NODES + n) 0 / 2048

-- How many items of so many bytes a line has behind its first ten; none where no node is lower.
unfoldable pub count_w : ℕ → ℕ → ℕ → ℕ
count_w size each below = pick (ltb size 10) 0 (pick (eqb below 0) 0 ((size - 10) / each))

-- The items from a place on, of a line of so many bytes, which name nodes under this one.
pub record ItemsAre (from size each under : ℕ) (l : Items) : Type 0 where
  pub at : l.at ≡ from
  pub n : l.n ≡ count_w size each under
  pub below : l.below ≡ under

-- The statements between two places, which name nodes under this one.
pub record StmtsAre (from to under : ℕ) (b : Stmts) : Type 0 where
  pub at : b.at ≡ from
  pub end : b.end ≡ to
  pub below : b.below ≡ under

-- A node with one node right below it, or Error.
unfoldable pub parent_w : List ℕ → ℕ → ℕ → ℕ → Node
unfolding half_at full_at lower_w
parent_w f start shape n =
    pick (eqb n 0) Node.Error
    (pick (eqb shape 9) (Node.Key (half_at f (start + 20)) (lower_w (half_at f (start + 24)) n))
    (pick (eqb shape 10) (Node.Value (lower_w (half_at f (start + 20)) n))
    (pick (eqb shape 13) (Node.Fact (full_at f (start + 20)) (lower_w (half_at f (start + 28)) n))
    (pick (eqb shape 16) (Node.Select (half_at f (start + 20)) (lower_w (half_at f (start + 24)) n))
    Node.Error))))

-- A subquery: its head, and the statements up to the end of a line of so many bytes.
pub record SubqueryIs (f : List ℕ) (start size n : ℕ) (r : Node) : Type 0 where
  pub body : Stmts
  pub is : r ≡ Node.Subquery (lower_w (half_at f (start + 20)) n) body
  pub stmts : StmtsAre (start + 24) (start + 2 * size) n body

-- A subquery where the shape is its and a node is lower, else what `parent_w` says.
pub record ParentIs (f : List ℕ) (start size shape n : ℕ) (r : Node) : Type 0 where
  pub subquery : shape ≡ 12 → 0 < n → SubqueryIs f start size n r
  pub other : (shape ≡ 12 → n ≡ 0) → r ≡ parent_w f start shape n

unfoldable pub head_w : List ℕ → List ℕ → ℕ
unfolding half_at
head_w f w = half_at f (get_or w QUERY 0 / 1024 + 2)

abbrev pub BodyIs : List ℕ → Stmts → Type 0
BodyIs w b = StmtsAre (get_or w QUERY 0 / 1024 + 6) (get_or w QUERY 0 / 1024 + 2 * (get_or w QUERY 0 % 1024)) 512 b

-- ---- What they stand for

unfoldable pub field_of : Field → Syntax.Field
field_of e = record { name = e.name; value = e.value }

-- n fields from number i on
unfoldable pub fields_from : List ℕ → Items → ℕ → ℕ → List Syntax.Field
unfolding field_of field_w
fields_from f l i zero = []
fields_from f l i (suc n) = field_of (field_w f l i) ∷ fields_from f l (i + 1) n

unfoldable pub items_from : List ℕ → Items → ℕ → ℕ → List ℕ
unfolding item_w
items_from f l i zero = []
items_from f l i (suc n) = item_w f l i ∷ items_from f l (i + 1) n

abbrev pub statement : Stmt → QueryStmt
statement (Stmt.Bind a b) = QueryStmt.Bind a b
statement (Stmt.Implicit a) = QueryStmt.Implicit a
statement (Stmt.Negation a) = QueryStmt.Negation a
statement (Stmt.Deny a b) = QueryStmt.Deny a b
statement (Stmt.Compare a b) = QueryStmt.Compare a b

-- The statements from a place up to the end; the number bounds how many, and the digits up to the end serve.
unfoldable pub stmts_from : ℕ → List ℕ → ℕ → ℕ → ℕ → List QueryStmt
unfolding stmt_w stmt_size_w
stmts_from zero f at end below = []
stmts_from (suc k) f at end below = elim (ltb at end) [ false ↦ [] | true ↦ statement (stmt_w f at below) ∷ stmts_from k f (at + stmt_size_w f at) end below ]

unfoldable pub stmts_w : List ℕ → Stmts → List QueryStmt
unfolding stmts_from
stmts_w f b = stmts_from b.end f b.at b.end b.below

unfoldable pub kind_w : List ℕ → Node → ExprKind
unfolding fields_from items_from stmts_w
kind_w f Node.Int = ExprKind.Lit Literal.Int
kind_w f Node.Str = ExprKind.Lit Literal.Str
kind_w f Node.Bytes = ExprKind.Lit Literal.Bytes
kind_w f (Node.Var x) = ExprKind.Var x
kind_w f Node.Wildcard = ExprKind.Wildcard
kind_w f Node.Never = ExprKind.Never
kind_w f (Node.Prefix x) = ExprKind.Prefix x
kind_w f (Node.Fuzzy x d) = ExprKind.Fuzzy x d
kind_w f (Node.Record l) = ExprKind.Record (fields_from f l 0 l.n)
kind_w f (Node.Key x e) = ExprKind.Access (FieldRef.Key x) e
kind_w f (Node.Value e) = ExprKind.Access FieldRef.Value e
kind_w f (Node.Disjunction l) = ExprKind.Disjunction (items_from f l 0 l.n)
kind_w f (Node.Subquery h b) = ExprKind.Subquery (record { head = h; body = stmts_w f b })
kind_w f (Node.Fact p e) = ExprKind.Fact p e
kind_w f (Node.Arith l) = ExprKind.Arith (items_from f l 0 l.n)
kind_w f Node.Error = ExprKind.Error
kind_w f (Node.Select x e) = ExprKind.Select x e

-- What these items name is lower than n, and there is a lower node where there is an item.
pub record LowerItems (n : ℕ) (l : Items) : Type 0 where
  pub below : l.below ≡ n
  pub some : 0 < l.n → 0 < n

-- What a node names is lower, whatever the file holds.
abbrev pub NamesLower : ℕ → Node → Type 0
NamesLower n Node.Int = Unit {0}
NamesLower n Node.Str = Unit {0}
NamesLower n Node.Bytes = Unit {0}
NamesLower n (Node.Var x) = Unit {0}
NamesLower n Node.Wildcard = Unit {0}
NamesLower n Node.Never = Unit {0}
NamesLower n (Node.Prefix x) = Unit {0}
NamesLower n (Node.Fuzzy x d) = Unit {0}
NamesLower n (Node.Record l) = LowerItems n l
NamesLower n (Node.Key x e) = e < n
NamesLower n (Node.Value e) = e < n
NamesLower n (Node.Disjunction l) = LowerItems n l
NamesLower n (Node.Subquery h b) = (h < n) × (b.below ≡ n)
NamesLower n (Node.Fact p e) = e < n
NamesLower n (Node.Arith l) = LowerItems n l
NamesLower n Node.Error = Unit {0}
NamesLower n (Node.Select x e) = e < n

-- The node that the n-th node's line says, if its references are to lower nodes.
pub record IsNode (f w : List ℕ) (n : ℕ) (r : Node) : Type 0 where
  pub is : (node : Syntax.Node) → NodeIs f w n node → T (all_below n (expr_nodes node.kind)) → kind_w f r ≡ node.kind
  pub lower : NamesLower n r
