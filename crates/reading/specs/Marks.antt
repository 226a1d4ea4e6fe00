-- What a node or query line refers to, and what naming nodes does to the words: of the nodes' words the marks alone may
-- change.
use Rattle.std.specs.Prelude.{◌&&◌, Bool, true, false, not, List, [], ◌∷◌, ◌++◌, map, ◌≡◌, ℕ, ◌+◌, ◌/◌, ◌≤◌, length, get_or, drop, Err, Ok, Result, Some}
use Rattle.work.specs.Layout.{NODES, FIELDS}
use Rattle.cells.specs.Stands.{Keeps}
use Rattle.format.specs.Syntax.{QueryStmt, Node}
use Rattle.format.specs.Frame as Frame
use Rattle.format.specs.Frame.{Edition, frame_of}
use Rattle.format.specs.References.{stmt_nodes, expr_names, expr_nodes}
use Rattle.format.specs.Conditions.{all_below, again}
use Rattle.frames.specs.Promises.{half_w}
use Rattle.frames.specs.Items.{Fill}
use Rattle.reading.specs.declared.Refusal.{Refusal}
use Rattle.reading.specs.Held.{Marked}
use Rattle.reading.specs.Parts.{names_of}

-- ---- Whether all that is referred to is there, as a refusal

abbrev pub told : Bool → Result (Unit {0}) Refusal
told true = Ok tt
told false = Err Refusal.BadReference

pub record ToldWhether (P : Bool → Type 0) (r : Result (Unit {0}) Refusal) : Type 0 where
  pub there : Bool
  pub is : r ≡ told there
  pub holds : P there

-- ---- Naming nodes

pub record Marks (w w' : List ℕ) : Type 0 where
  pub keeps : Keeps NODES FIELDS w w'
  pub half : (i : ℕ) → get_or w' (NODES + i) 0 / 2 ≡ get_or w (NODES + i) 0 / 2

-- The slice has words for the nodes.
pub record Roomy (w : List ℕ) (nodes : ℕ) : Type 0 where
  pub few : nodes ≤ 512
  pub long : 16384 ≤ length w

-- The names xs and the nodes ns are there and no node is named again; then each is marked.
pub record Refers (w : List ℕ) (names : ℕ) (xs : List ℕ) (nodes : ℕ) (ns w' : List ℕ) (r : Bool) : Type 0 where
  pub is : Roomy w nodes → (named : List ℕ) → Marked w nodes named → r ≡ (all_below names xs && (all_below nodes ns && not (again named ns)))
  pub marks : Roomy w nodes → r ≡ true → Marks w w'
  pub marked : Roomy w nodes → r ≡ true → (named : List ℕ) → Marked w nodes named → Marked w' nodes (named ++ ns)

pub record NamesNode (w : List ℕ) (m nodes : ℕ) (w' : List ℕ) (r : Bool) : Type 0 where
  pub is : (names : ℕ) → Refers w names [] nodes (m ∷ []) w' r

-- The fields, and the branches or operands, each by its bytes.
abbrev pub NamesFields : List (List ℕ) → List ℕ → ℕ → ℕ → List ℕ → Bool → Type 0
NamesFields fields w names nodes w' r = Refers w names (names_of fields) nodes (map (λ p. half_w p 2) fields) w' r

pub record NamesItems (items : List (List ℕ)) (w : List ℕ) (nodes : ℕ) (w' : List ℕ) (r : Bool) : Type 0 where
  pub is : (names : ℕ) → Refers w names [] nodes (map (λ p. half_w p 0) items) w' r

-- The statements that fill these bytes.
pub record NamesStatements (s w : List ℕ) (nodes : ℕ) (w' : List ℕ) (r : Bool) : Type 0 where
  pub is : (names : ℕ) (stmts : List QueryStmt) → Fill s 0 stmts → Refers w names [] nodes (stmt_nodes stmts) w' r

-- All that a node's frame refers to.
pub record NamesAll (e : Edition) (s w : List ℕ) (names nodes : ℕ) (w' : List ℕ) (r : Bool) : Type 0 where
  pub is : (nd : Node) → frame_of e Frame.node (drop 1 s) ≡ Some (Frame.a_node nd) → Refers w names (expr_names nd.kind) nodes (expr_nodes nd.kind) w' r
