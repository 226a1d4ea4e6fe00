-- What the functions of the cycle promise (src/lib.rt): each goes beside the step of meaning/specs/Check.antt that its
-- contract names, for every described file and every depth above the nodes that it visits.
--
-- The cycle ends since the node falls, and on one node the rank: a call's measure is 16 * n + rank, where n is the
-- node, the greater of two, or for items and statements their `below`, under which stands all that they name. Ranks:
-- 0 infer_record infer_all branches check_fields stmt   1 stmts   2 subquery   3 infer_kind   4 infer   5
-- infer_then_unify generator bind_name not_yet destructure   6 check_union bind deny compare   8 check   9 check_field
-- fact. For it the functions over items need `0 < n → 0 < below`, `subquery` that its head is under `below`, and those
-- that take a node with its items that `below` is the node: `NamesLower` of tree/specs/Nodes.antt says so, whatever the file
-- holds.
use Rattle.std.specs.Prelude.{List, [], ◌∷◌, ◌≡◌, ℕ, suc, ◌<◌, ◌≤◌, length, None, Option, Some}
use Rattle.unification.specs.Ty as Tree
use Rattle.unification.specs.Unify.{find_key}
use Rattle.cells.specs.declared.Ty.{Ty}
use Rattle.work.specs.Layout.{RECORD-COUNT, END}
use Rattle.cells.specs.Stands.{Rows, tree, Keeps}
use Rattle.format.specs.Syntax.{Field, Query, QueryStmt, ExprKind, node_at}
use Rattle.format.specs.References.{field_names, field_values, stmt_nodes, query_nodes}
use Rattle.format.specs.All.{Below}
use Rattle.meaning.specs.Diag as Diag
use Rattle.format.specs.File.{Described}
use Rattle.format.specs.Sound.{Sound}
use Rattle.tree.specs.Stands.{Stands}
use Rattle.meaning.specs.Check as Check
use Rattle.meaning.specs.Check.{Checker, Step, Does, goes, out, and_then, Walk, walk, form}
use Rattle.meaning.specs.Grades.{no_thing, Known}
use Rattle.messages.specs.declared.Message.{Message}
use Rattle.messages.specs.Said.{said, OkMessage}
use Rattle.state.specs.Runs.{Runs}
use Rattle.state.specs.Lines.{Told, AtEntry, until_of}
use Rattle.state.specs.declared.Until.{Until}
use Rattle.tree.specs.declared.items.Items.{Items}
use Rattle.tree.specs.declared.items.Stmts.{Stmts}
use Rattle.tree.specs.Nodes.{fields_from, items_from, statement, stmt_w, stmts_w}
use Rattle.steps.specs.Ends.{typed, done}
use Rattle.steps.specs.Loads.{only, infers, finds, checks, visits, parts, Beside}
use Rattle.steps.specs.Promises.{Always, Fine, FineRecord, FineUnion, nodes_of, AllNamed, Named, NodeAt}

-- ---- Nodes that are visited
abbrev pub below : Described → ℕ → Walk
below d k = walk d.schema (nodes_of d) k

-- ---- `infer`
pub record Infers (f w ou : List ℕ) (n left : ℕ) (w' ou' : List ℕ) (r : Option (Ty × ℕ)) : Type 0 where
  pub is : (d : Described) (k : ℕ) → Named d k n → Beside f w ou left w' ou' (typed w' r) d (infers (nodes_of d) k n) Always (λ T. (below d k).infer n)
  -- a variable that the environment has makes no unknown
  pub found : (d : Described) (k x : ℕ) → Named d k n → (node_at (nodes_of d) n).kind ≡ ExprKind.Var x
      → Beside f w ou left w' ou' (typed w' r) d (finds (nodes_of d) k n) (λ T c. Known x c) (λ T. (below d k).infer n)

pub record InfersKind (f w ou : List ℕ) (n left : ℕ) (w' ou' : List ℕ) (r : Option (Ty × ℕ)) : Type 0 where
  pub is : (d : Described) (k : ℕ) → NodeAt d k n
      → Beside f w ou left w' ou' (typed w' r) d (parts (nodes_of d) k (node_at (nodes_of d) n).kind) Always
      (λ T. Check.infer_kind d.schema (nodes_of d) (below d k) n (node_at (nodes_of d) n).kind)
  pub found : (d : Described) (k x : ℕ) → NodeAt d k n → (node_at (nodes_of d) n).kind ≡ ExprKind.Var x
      → Beside f w ou left w' ou' (typed w' r) d (only no_thing) (λ T c. Known x c)
      (λ T. Check.infer_kind d.schema (nodes_of d) (below d k) n (node_at (nodes_of d) n).kind)

-- Names are half words.
pub record InfersRecord (f w ou : List ℕ) (l : Items) (left : ℕ) (w' ou' : List ℕ) (r : Option (Ty × ℕ)) : Type 0 where
  pub is : (d : Described) (k id : ℕ) (fs : List Field) → fs ≡ fields_from f l 0 l.n → AllNamed d k (field_values fs) → Below 65536 (field_names fs)
      → Beside f w ou left w' ou' (typed w' r) d (parts (nodes_of d) k (ExprKind.Record fs)) Always
      (λ T. Check.infer_kind d.schema (nodes_of d) (below d k) id (ExprKind.Record fs))

-- The type comes back with which all were unified.
unfoldable pub all_with : Described → ℕ → Tree.Ty → List ℕ → Does Tree.Ty
unfolding and_then
all_with d k t es c = and_then (Check.infer_all d.schema (nodes_of d) (below d k) t es c) (λ u b. goes t b)

pub record InfersAll (f w ou : List ℕ) (l : Items) (t : Ty) (left : ℕ) (w' ou' : List ℕ) (r : Option (Ty × ℕ)) : Type 0 where
  pub is : (d : Described) (k : ℕ) (es : List ℕ) → es ≡ items_from f l 0 l.n → AllNamed d k es
      → Beside f w ou left w' ou' (typed w' r) d (visits (nodes_of d) k es) (Fine w t) (λ T. all_with d k (tree T t) es)

pub record Subqueries (f w ou : List ℕ) (head : ℕ) (body : Stmts) (left : ℕ) (w' ou' : List ℕ) (r : Option (Ty × ℕ)) : Type 0 where
  pub is : (d : Described) (k : ℕ) (q : Query) → q ≡ record { head = head; body = stmts_w f body } → AllNamed d k (query_nodes q)
      → Beside f w ou left w' ou' (typed w' r) d (parts (nodes_of d) k (ExprKind.Subquery q)) Always (λ T. Check.subquery d.schema (nodes_of d) (below d k) q)

pub record Facts (f w ou : List ℕ) (p key left : ℕ) (w' ou' : List ℕ) (r : Option (Ty × ℕ)) : Type 0 where
  pub is : (d : Described) (k : ℕ) → Named d k key
      → Beside f w ou left w' ou' (typed w' r) d (parts (nodes_of d) k (ExprKind.Fact p key)) Always (λ T. Check.fact d.schema (nodes_of d) (below d k) p key)

-- ---- `check`
pub record InfersThenUnifies (f w ou : List ℕ) (n : ℕ) (t : Ty) (left : ℕ) (w' ou' : List ℕ) (r : Option ℕ) : Type 0 where
  pub is : (d : Described) (k : ℕ) → NodeAt d k n
      → Beside f w ou left w' ou' (done r) d (checks (nodes_of d) (suc k) n) (Fine w t)
      (λ T. Check.infer_then_unify d.schema (nodes_of d) (below d k) n (tree T t))

-- A field that a record names, in a scope of its own: the expected record has it or not.
pub record Mentions (f w ou : List ℕ) (name value e left : ℕ) (w' ou' : List ℕ) (r : Option ℕ) : Type 0 where
  pub is : (d : Described) (k : ℕ) → Named d k value
      → Beside f w ou left w' ou' (done r) d (checks (nodes_of d) k value) (FineRecord w e)
      (λ T. Check.check_mentioned d.schema (nodes_of d) (below d k) (record { name = name; value = value }) (find_key name (T e)))

pub record ChecksFields (f w ou : List ℕ) (l : Items) (e left : ℕ) (w' ou' : List ℕ) (r : Option ℕ) : Type 0 where
  pub is : (d : Described) (k : ℕ) (fs : List Field) → fs ≡ fields_from f l 0 l.n → AllNamed d k (field_values fs)
      → Beside f w ou left w' ou' (done r) d (visits (nodes_of d) k (field_values fs)) (FineRecord w e)
      (λ T. Check.check_fields d.schema (nodes_of d) (below d k) fs (T e))

pub record ChecksUnion (f w ou : List ℕ) (n : ℕ) (l : Items) (e left : ℕ) (w' ou' : List ℕ) (r : Option ℕ) : Type 0 where
  pub is : (d : Described) (k : ℕ) (fs : List Field) → fs ≡ fields_from f l 0 l.n → NodeAt d k n → (node_at (nodes_of d) n).kind ≡ ExprKind.Record fs
      → Beside f w ou left w' ou' (done r) d (checks (nodes_of d) (suc k) n) (FineUnion w e)
      (λ T. Check.check_union d.schema (nodes_of d) (below d k) n fs (T e))

pub record Checks (f w ou : List ℕ) (n : ℕ) (t : Ty) (left : ℕ) (w' ou' : List ℕ) (r : Option ℕ) : Type 0 where
  pub is : (d : Described) (k : ℕ) → Named d k n
      → Beside f w ou left w' ou' (done r) d (checks (nodes_of d) k n) (Fine w t) (λ T. (below d k).check n (tree T t))

-- ---- `generator`
pub record Generates (f w ou : List ℕ) (n left : ℕ) (w' ou' : List ℕ) (r : Option (Ty × ℕ)) : Type 0 where
  pub is : (d : Described) (k : ℕ) → Named d k n → Beside f w ou left w' ou' (typed w' r) d (infers (nodes_of d) k n) Always (λ T. (below d k).generator n)

pub record Branches (f w ou : List ℕ) (l : Items) (left : ℕ) (w' ou' : List ℕ) (r : Option (Ty × ℕ)) : Type 0 where
  pub is : (d : Described) (k : ℕ) (es : List ℕ) → es ≡ items_from f l 0 l.n → AllNamed d k es
      → Beside f w ou left w' ou' (typed w' r) d (visits (nodes_of d) k es) Always
      (λ T. Check.generate_branches d.schema (nodes_of d) (below d k) Tree.Error es)

-- ---- Statements

-- A statement over two nodes, as the definition's step m of them.
pub record Sides (m : Described → Walk → ℕ → ℕ → Does (Unit {0})) (f w ou : List ℕ) (lhs rhs left : ℕ) (w' ou' : List ℕ) (r : Option ℕ) : Type 0 where
  pub is : (d : Described) (k : ℕ) → Named d k lhs → Named d k rhs
      → Beside f w ou left w' ou' (done r) d (visits (nodes_of d) k (lhs ∷ rhs ∷ [])) Always (λ T. m d (below d k) lhs rhs)

abbrev pub BindsSides : List ℕ → List ℕ → List ℕ → ℕ → ℕ → ℕ → List ℕ → List ℕ → Option ℕ → Type 0
BindsSides f w ou lhs rhs left w' ou' r =
    Sides (λ d b x y. Check.bind_form d.schema (nodes_of d) b (form d.schema (nodes_of d) x) x y) f w ou lhs rhs left w' ou' r

abbrev pub Denies : List ℕ → List ℕ → List ℕ → ℕ → ℕ → ℕ → List ℕ → List ℕ → Option ℕ → Type 0
Denies f w ou lhs rhs left w' ou' r = Sides (λ d b x y. Check.deny_form d.schema (nodes_of d) b (form d.schema (nodes_of d) x) x y) f w ou lhs rhs left w' ou' r

abbrev pub Compares : List ℕ → List ℕ → List ℕ → ℕ → ℕ → ℕ → List ℕ → List ℕ → Option ℕ → Type 0
Compares f w ou lhs rhs left w' ou' r = Sides (λ d b x y. Check.compare d.schema (nodes_of d) b x y) f w ou lhs rhs left w' ou' r

-- The same of a step that reports a message, of which the types exist.
pub record SidesSaying (m : Described → Walk → Diag.Message → ℕ → ℕ → Does (Unit {0})) (x : Message) (f w ou : List ℕ) (lhs rhs left : ℕ) (w' ou' : List ℕ)
    (r : Option ℕ) : Type 0 where
  pub is : (d : Described) (k : ℕ) → Named d k lhs → Named d k rhs
      → Beside f w ou left w' ou' (done r) d (visits (nodes_of d) k (lhs ∷ rhs ∷ [])) (λ T c. OkMessage w x)
      (λ T c. m d (below d k) (said T c.state.subst x) lhs rhs c)

abbrev pub NotYets : Message → List ℕ → List ℕ → List ℕ → ℕ → ℕ → ℕ → List ℕ → List ℕ → Option ℕ → Type 0
NotYets x f w ou lhs rhs left w' ou' r = SidesSaying (λ d b. Check.not_yet d.schema (nodes_of d) b) x f w ou lhs rhs left w' ou' r

abbrev pub Destructures : List ℕ → List ℕ → List ℕ → ℕ → ℕ → ℕ → List ℕ → List ℕ → Option ℕ → Type 0
Destructures f w ou lhs rhs left w' ou' r = Sides (λ d b x y. Check.destructure d.schema (nodes_of d) b x y) f w ou lhs rhs left w' ou' r

-- It is one of the names.
pub record BindsVariable (f w ou : List ℕ) (symbol lhs rhs left : ℕ) (w' ou' : List ℕ) (r : Option ℕ) : Type 0 where
  pub is : symbol < 256 → Sides (λ d b x y. Check.bind_variable d.schema (nodes_of d) b symbol x y) f w ou lhs rhs left w' ou' r

pub record States (f w ou : List ℕ) (at under left : ℕ) (w' ou' : List ℕ) (r : Option ℕ) : Type 0 where
  pub is : (d : Described) (k : ℕ) (s : QueryStmt) → s ≡ statement (stmt_w f at under) → AllNamed d k (stmt_nodes (s ∷ []))
      → Beside f w ou left w' ou' (done r) d (visits (nodes_of d) k (stmt_nodes (s ∷ []))) Always (λ T. Check.stmt d.schema (nodes_of d) (below d k) s)

pub record StatesAll (f w ou : List ℕ) (body : Stmts) (left : ℕ) (w' ou' : List ℕ) (r : Option ℕ) : Type 0 where
  pub is : (d : Described) (k : ℕ) (ss : List QueryStmt) → ss ≡ stmts_w f body → AllNamed d k (stmt_nodes ss)
      → Beside f w ou left w' ou' (done r) d (visits (nodes_of d) k (stmt_nodes ss)) Always (λ T. Check.stmts d.schema (nodes_of d) (below d k) ss)

-- ---- The whole

-- `query`, from words that a file was read into: the words after stand for where the run ends, or for where it ended
-- early, and then the visits left are kept; where it was to last until an entry to `unify` that came, so are the
-- entry's sides.
pub data Ran (f w' ou' : List ℕ) (d : Described) (r : Option ℕ) : Step Tree.Ty → Type 0 where
  to_the_end : {ty : Tree.Ty} {c : Checker} (T : Rows) → Runs f w' T d c → Told d w' ou' c 0 → r ≡ Some c.state.left → Ran f w' ou' d r (goes ty c)
  ended_early : {c : Checker} (T : Rows) → Runs f w' T d c → Told d w' ou' c c.state.left → AtEntry w' T c.until c.entries → r ≡ None → Ran f w' ou' d r (out c)

-- The definition's run of a query, until its end or what it is to last until.
unfoldable pub run_until : Check.Until → Described → ℕ → Step Tree.Ty
unfolding Check.query Check.begin_until
run_until u d ceiling = Check.query d.schema (nodes_of d) d.ast.query (Check.begin_until u ceiling (length (nodes_of d)))

pub record Queries (f w ou : List ℕ) (u : Until) (ceiling : ℕ) (w' ou' : List ℕ) (r : Option ℕ) : Type 0 where
  pub is : (T : Rows) (d : Described) → Sound d → Stands f w T d → Ran f w' ou' d r (run_until (until_of u) d ceiling)
  -- whatever stands in the slices: as `Lent` says of each step, with the visits that are left
  pub words : length w' ≡ length w
  pub slice : length ou' ≡ length ou
  pub keeps : Keeps RECORD-COUNT END w w'
  pub fewer : (l : ℕ) → r ≡ Some l → l ≤ ceiling
