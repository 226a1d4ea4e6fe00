-- What the steps outside of the cycle promise, as the cycle asks for them: each goes beside its namesake of
-- meaning/specs/Check.antt, for every described file.
use Rattle.std.specs.Prelude.{Bool, List, ◌≡◌, ℕ, ◌≤◌, ◌<◌, length, get_or, None, Option, Result, Some}
use Rattle.unification.specs.Ty as Tree
use Rattle.unification.specs.Calls.{Side, SideRow}
use Rattle.cells.specs.declared.Ty.{Ty}
use Rattle.cells.specs.declared.Kind.TheVariants.{Fields, Alternatives}
use Rattle.cells.specs.Stands.{Rows, tree, bound_tree, IsCell, Ok, OkBound, Keeps}
use Rattle.format.specs.Syntax.{Field, Node, all_fields, destructurable_in, is_destructurable}
use Rattle.format.specs.All.{All}
use Rattle.format.specs.File.{Described}
use Rattle.format.specs.Sound.{Sound}
use Rattle.work.specs.Layout.{RECORD-COUNT, RECORD-FIELD-COUNT, END}
use Rattle.tree.specs.Stands.{Stands}
use Rattle.meaning.specs.Check as Check
use Rattle.meaning.specs.Check.{Checker, Does, ◌>>=◌, ◌>>◌, and_then, form}
use Rattle.meaning.specs.Grades.{unknowns, no_thing, one_diagnostic, one_unknown, one_node, Known, introducing}
use Rattle.messages.specs.declared.Message.{Message}
use Rattle.messages.specs.Said.{said, OkMessage}
use Rattle.state.specs.Runs.{Runs}
use Rattle.state.specs.Lines.{Told, until_of}
use Rattle.state.specs.declared.Until.{Until}
use Rattle.cells.specs.declared.TyError.{TyError}
use Rattle.cells.specs.Promises.{error_of, OkError}
use Rattle.tree.specs.declared.items.Items.{Items}
use Rattle.tree.specs.Nodes.{fields_from}
use Rattle.steps.specs.Ends.{typed, done, silent, numbered, unified}
use Rattle.steps.specs.Loads.{only, Beside}
use Rattle.cells.specs.declared.Failure.{Failure}

abbrev pub nodes_of : Described → List Node
nodes_of d = d.ast.nodes

-- ---- Nodes that are visited

-- They are nodes, and the depth is above them.
pub record Named (d : Described) (k n : ℕ) : Type 0 where
  pub there : n < length (nodes_of d)
  pub under : n < k

abbrev pub AllNamed : Described → ℕ → List ℕ → Type 0
AllNamed d k ns = All (Named d k) ns

-- The node itself, visited from a depth that is above its parts.
pub record NodeAt (d : Described) (k n : ℕ) : Type 0 where
  pub there : n < length (nodes_of d)
  pub above : n ≤ k

-- ---- What is asked of the types in hand
abbrev pub Always : Rows → Checker → Type 0
Always T c = Unit {0}

-- It exists, and is over the unknowns that there are.
pub record Fine (w : List ℕ) (t : Ty) (T : Rows) (c : Checker) : Type 0 where
  pub ok : Ok w t
  pub side : Side (unknowns c) (tree T t)

pub record FineRecord (w : List ℕ) (e : ℕ) (T : Rows) (c : Checker) : Type 0 where
  pub cell : IsCell w Fields e
  pub side : SideRow (unknowns c) (T e)

pub record FineUnion (w : List ℕ) (e : ℕ) (T : Rows) (c : Checker) : Type 0 where
  pub cell : IsCell w Alternatives e
  pub side : Side (unknowns c) (Tree.node Tree.Union (T e))

-- ---- The steps outside of the cycle, as it asks for them

-- `annotate`: a node has this type.
abbrev pub Notes : List ℕ → List ℕ → List ℕ → ℕ → Ty → ℕ → List ℕ → List ℕ → Type 0
Notes f w ou n t left w' ou' =
    (d : Described) → n < length (nodes_of d) → Beside f w ou left w' ou' (silent left) d (only (one_node n)) (Fine w t) (λ T. Check.annotate n (tree T t))

-- `reject`; the types that the message shows exist
abbrev pub Rejects : List ℕ → List ℕ → List ℕ → ℕ → Message → ℕ → List ℕ → List ℕ → Option ℕ → Type 0
Rejects f w ou n m left w' ou' r = (d : Described) → n < length (nodes_of d)
    → Beside f w ou left w' ou' (done r) d (only one_diagnostic) (λ T c. OkMessage w m) (λ T c. Check.reject d.schema (nodes_of d) n (said T c.state.subst m) c)

-- `fresh_var_id`
abbrev pub Freshens : List ℕ → List ℕ → List ℕ → ℕ → List ℕ → List ℕ → ℕ → Type 0
Freshens f w ou left w' ou' x = (d : Described) → Beside f w ou left w' ou' (numbered x left) d (only one_unknown) Always (λ T. Check.fresh_var_id)

-- `introduce`; a variable that the environment has makes no unknown
pub record Brings (f w ou : List ℕ) (n symbol left : ℕ) (w' ou' : List ℕ) (x : ℕ) : Type 0 where
  pub is : (d : Described) → symbol < 256 → n < length (nodes_of d) → Beside f w ou left w' ou' (numbered x left) d (only one_unknown) Always
      (λ T. Check.introduce n symbol)
  pub found : (d : Described) → symbol < 256 → n < length (nodes_of d)
      → Beside f w ou left w' ou' (numbered x left) d (only no_thing) (λ T c. Known symbol c) (λ T. Check.introduce n symbol)

-- `leave`: the entries from a number on leave.
abbrev pub Leaves : List ℕ → List ℕ → List ℕ → ℕ → List ℕ → List ℕ → Type 0
Leaves f w ou scope w' ou' = (d : Described) (left : ℕ)
    → Beside f w ou left w' ou' (silent left) d (only no_thing) (λ T c. scope ≤ length c.env) (λ T. Check.leave d.schema (nodes_of d) scope)

-- `fuzzy`: both bounds of the pattern, which is a string; the term is a name
unfoldable pub fuzzy : Described → ℕ → ℕ → ℕ → Does Tree.Ty
unfolding and_then
fuzzy d n term distance = do
  Check.fuzzy_distance d.schema (nodes_of d) n distance
  Check.fuzzy_term d.schema (nodes_of d) n term
  Check.return (Tree.leaf Tree.String)

pub record Fuzzes (f w ou : List ℕ) (n term distance left : ℕ) (w' ou' : List ℕ) (r : Option (Ty × ℕ)) : Type 0 where
  pub is : (d : Described) → n < length (nodes_of d) → term < length d.schema.characters
      → Beside f w ou left w' ou' (typed w' r) d (only (record { nodes = λ x. 0; unknowns = 0; diagnostics = 2 })) Always (λ T. fuzzy d n term distance)

-- `unify`
abbrev pub UnifiesTo : List ℕ → List ℕ → List ℕ → Ty → Ty → ℕ → List ℕ → List ℕ → Result ℕ Failure → Type 0
UnifiesTo f w ou got expected left w' ou' r = (d : Described)
    → Beside f w ou left w' ou' (unified w' r) d (only no_thing) (λ T c. Fine w got T c × Fine w expected T c) (λ T. Check.unify (tree T got) (tree T expected))

-- The answer slice stays as it is, whatever it holds.
pub record UnifiesOutside (w : List ℕ) (got expected : Ty) (left : ℕ) (w' : List ℕ) (r : Result ℕ Failure) : Type 0 where
  pub is : (f ou : List ℕ) → UnifiesTo f w ou got expected left w' ou r

-- `report`; the types that the error shows exist
abbrev pub Reports : List ℕ → List ℕ → List ℕ → ℕ → TyError → ℕ → List ℕ → List ℕ → Option ℕ → Type 0
Reports f w ou n err left w' ou' r = (d : Described) → n < length (nodes_of d)
    → Beside f w ou left w' ou' (done r) d (only one_diagnostic) (λ T c. OkError w err) (λ T. Check.report d.schema (nodes_of d) n (error_of T err))

-- `rollback`, to lengths of the undo log, of the environment and of the marks
abbrev pub RollsTo : List ℕ → List ℕ → List ℕ → ℕ → ℕ → ℕ → List ℕ → List ℕ → Type 0
RollsTo f w ou undo env marks w' ou' = (d : Described) (left : ℕ) (at : Check.Mark) → at.state.undo ≡ undo → at.env ≡ env → at.marks ≡ marks
    → Beside f w ou left w' ou' (silent left) d (only no_thing) (λ T c. (env ≤ length c.env) × (marks ≤ length c.marks)) (λ T. Check.rollback at)

-- `unify_at`
pub record UnifiesAt (f w ou : List ℕ) (n : ℕ) (got expected : Ty) (left : ℕ) (w' ou' : List ℕ) (r : Option ℕ) : Type 0 where
  pub is : (d : Described) → n < length (nodes_of d)
      → Beside f w ou left w' ou' (done r) d (only one_diagnostic) (λ T c. Fine w got T c × Fine w expected T c)
      (λ T. Check.unify_at d.schema (nodes_of d) n (tree T got) (tree T expected))

-- `introduce_side`
abbrev pub BringsSide : List ℕ → List ℕ → List ℕ → ℕ → ℕ → List ℕ → List ℕ → Type 0
BringsSide f w ou n left w' ou' = (d : Described) → n < length (nodes_of d)
    → Beside f w ou left w' ou' (silent left) d (only (introducing (form d.schema (nodes_of d) n))) Always
    (λ T. Check.introduce_side d.schema (nodes_of d) n (form d.schema (nodes_of d) n))

-- `compare_types`: the right side's type unified with the left's, which must then have an order.
unfoldable pub compare_types : Described → ℕ → ℕ → Tree.Ty → Tree.Ty → Does (Unit {0})
unfolding and_then
compare_types d lhs rhs left right = do
  failed ← Check.unify right left
  elim failed [ Some err ↦ Check.report d.schema (nodes_of d) rhs err | None ↦ Check.compare_order d.schema (nodes_of d) lhs left ]

pub record ComparesTypes (f w ou : List ℕ) (lhs rhs : ℕ) (a b : Ty) (left : ℕ) (w' ou' : List ℕ) (r : Option ℕ) : Type 0 where
  pub is : (d : Described) → lhs < length (nodes_of d) → rhs < length (nodes_of d)
      → Beside f w ou left w' ou' (done r) d (only one_diagnostic) (λ T c. Fine w a T c × Fine w b T c) (λ T. compare_types d lhs rhs (tree T a) (tree T b))

-- `key_ty`
pub record KeyIs (f w : List ℕ) (p : ℕ) (r : Option Ty) : Type 0 where
  pub is : (T : Rows) (d : Described) (c : Checker) → Runs f w T d c → bound_tree T r ≡ Check.key_ty d.schema (nodes_of d) p
  pub ok : (T : Rows) (d : Described) (c : Checker) → Runs f w T d c → OkBound w r

-- `key_of`, `value_of`, `select_of`: m is the definition's step on the head.
pub record OnType (m : Described → Tree.Ty → Does Tree.Ty) (f w ou : List ℕ) (n : ℕ) (t : Ty) (left : ℕ) (w' ou' : List ℕ) (r : Option (Ty × ℕ)) : Type 0 where
  pub is : (d : Described) → n < length (nodes_of d) → Beside f w ou left w' ou' (typed w' r) d (only one_diagnostic) (Fine w t) (λ T. m d (tree T t))

-- ---- The end of a type, without the type
abbrev pub only_w : Option (Ty × ℕ) → Option ℕ
only_w (Some (t, left)) = Some left
only_w None = None

-- The type that follows a step, or that the run ended in it.
abbrev pub typed_after : Ty → Option ℕ → Option (Ty × ℕ)
typed_after t (Some left) = Some (t, left)
typed_after t None = None

-- `begin`: nothing is made yet.
pub record Starts (f w : List ℕ) (u : Until) (w' : List ℕ) : Type 0 where
  pub is : (T : Rows) (d : Described) (ceiling : ℕ) → Sound d → Stands f w T d → Runs f w' T d (Check.begin_until (until_of u) ceiling (length (nodes_of d)))
  pub lines : (ou : List ℕ) (d : Described) (ceiling : ℕ) → END ≤ length w → Told d w' ou (Check.begin_until (until_of u) ceiling (length (nodes_of d))) 0
  pub records : get_or w' RECORD-COUNT 0 ≡ 0
  pub fields : get_or w' RECORD-FIELD-COUNT 0 ≡ 0
  pub keeps : Keeps RECORD-COUNT END w w'

-- A wildcard head is rejected.
abbrev pub Heads : List ℕ → List ℕ → List ℕ → ℕ → ℕ → List ℕ → List ℕ → Option ℕ → Type 0
Heads f w ou head left w' ou' r = (d : Described) → head < length (nodes_of d)
    → Beside f w ou left w' ou' (done r) d (only one_diagnostic) Always (λ T. Check.head_form d.schema (nodes_of d) head (form d.schema (nodes_of d) head))

-- `destructurable`
pub record TellsDestructurable (f w : List ℕ) (n : ℕ) (r : Bool) : Type 0 where
  pub is : (T : Rows) (d : Described) (c : Checker) → Sound d → Runs f w T d c → n < length (nodes_of d) → r ≡ is_destructurable (nodes_of d) n

-- `all_destructurable`: any depth that is above the fields serves.
abbrev pub all_apart : Described → ℕ → List Field → Bool
all_apart d k fs = all_fields (λ m. destructurable_in k (nodes_of d) m) fs

pub record AsksAll (f w : List ℕ) (l : Items) (r : Bool) : Type 0 where
  pub is : (T : Rows) (d : Described) (c : Checker) → Sound d → Runs f w T d c → l.below ≤ length (nodes_of d) → (k : ℕ) → l.below ≤ k
      → r ≡ all_apart d k (fields_from f l 0 l.n)
