-- What the steps outside of the cycle promise (src/lib.rt): those that read or write words say which; the others go
-- beside their namesakes of meaning/specs/Check.antt.
use Rattle.std.specs.Prelude.{Bool, true, false, List, ◌≡◌, ℕ, ◌+◌, ◌*◌, ◌/◌, ◌%◌, ◌<◌, eqb, ltb, length, get_or, set, None, Option, Some}
use Rattle.work.specs.Layout.{PREDICATE-COUNT, MAX-DISTANCE, MAX-TERM, NAMES, PREDICATES, RECORD-COUNT, RECORD-FIELD-COUNT, ENV-LEN, DIAGNOSTIC-COUNT, UNKNOWNS}
use Rattle.work.specs.Layout.{MARK-COUNT, UNUSED-COUNT, TYS, UNDO-LEN}
use Rattle.cells.specs.declared.Ty.{Ty}
use Rattle.cells.specs.Words.{pick, declared_w}
use Rattle.cells.specs.Stands.{Rows, tree, bound_tree, Ok, OkBound, Cells, Keeps}
use Rattle.cells.specs.Promises.{RollsBack}
use Rattle.format.specs.Schema.{field_of}
use Rattle.format.specs.File.{Described}
use Rattle.meaning.specs.Check as Check
use Rattle.meaning.specs.Check.{Checker}
use Rattle.meaning.specs.Grades.{one_diagnostic}
use Rattle.messages.specs.declared.Message.{Message}
use Rattle.state.specs.Lines.{Rejected}
use Rattle.state.specs.Runs.{Runs}
use Rattle.steps.specs.declared.Mark.{Mark}
use Rattle.state.specs.declared.Until.{Until}
use Rattle.steps.specs.Ends.{done}
use Rattle.steps.specs.Loads.{only, Beside}
use Rattle.steps.specs.Promises.{nodes_of, Fine, OnType, BringsSide, typed_after, Heads, Starts}

-- ---- Words
unfoldable pub predicate_w : List ℕ → ℕ → Option ℕ
predicate_w w p = pick (ltb p (get_or w PREDICATE-COUNT 0)) (Some (get_or w (PREDICATES + p) 0)) None

unfoldable pub key_ty_w : List ℕ → ℕ → Option Ty
unfolding declared_w
key_ty_w w p = pick (ltb p (get_or w PREDICATE-COUNT 0)) (Some (declared_w w (get_or w (PREDICATES + p) 0 / 512 % 256))) None

unfoldable pub value_ty_w : List ℕ → ℕ → Option Ty
unfolding declared_w
value_ty_w w p =
    pick (ltb p (get_or w PREDICATE-COUNT 0))
    (pick (eqb (get_or w (PREDICATES + p) 0 % 2) 1) (Some (declared_w w (get_or w (PREDICATES + p) 0 / 2 % 256))) None) None

-- `reject_ty`
pub record RejectsTy (f w ou : List ℕ) (n : ℕ) (m : Message) (left : ℕ) (w' ou' : List ℕ) (r : Option (Ty × ℕ)) : Type 0 where
  pub end : Option ℕ
  pub rejected : Rejected f w ou n m left w' ou' end
  pub is : r ≡ typed_after Ty.Error end

-- A diagnostic by a test.
pub data RejectedIf (f w ou : List ℕ) (n : ℕ) (m : Message) (left : ℕ) (w' ou' : List ℕ) (r : Option ℕ) : Bool → Type 0 where
  reported : Rejected f w ou n m left w' ou' r → RejectedIf f w ou n m left w' ou' r true
  stayed : w' ≡ w → ou' ≡ ou → r ≡ Some left → RejectedIf f w ou n m left w' ou' r false

abbrev pub far_w : List ℕ → ℕ → Bool
far_w w distance = pick (eqb distance 0) true (ltb (get_or w MAX-DISTANCE 0) distance)

abbrev pub characters_w : List ℕ → ℕ → ℕ
characters_w w term = get_or w (NAMES + term) 0 % 512

abbrev pub long_w : List ℕ → ℕ → Bool
long_w w term = ltb (get_or w MAX-TERM 0) (characters_w w term)

-- The lengths of now.
pub record TakesMark (w : List ℕ) (at : Mark) : Type 0 where
  pub undo : at.undo ≡ get_or w UNDO-LEN 0
  pub env : at.env ≡ get_or w ENV-LEN 0
  pub marks : at.marks ≡ get_or w MARK-COUNT 0

-- The state goes back, and the environment and its marks are cut.
pub record Rewinds (w : List ℕ) (at : Mark) (w' : List ℕ) : Type 0 where
  pub between : List ℕ
  pub back : RollsBack w at.undo between
  pub cut : w' ≡ set (set between ENV-LEN at.env) MARK-COUNT at.marks

-- ---- Look-up
pub record FieldIs (w : List ℕ) (t : Ty) (name : ℕ) (r : Option Ty) : Type 0 where
  pub is : (T : Rows) → Cells w T → Ok w t → bound_tree T r ≡ field_of (tree T t) name
  pub ok : (T : Rows) → Cells w T → Ok w t → OkBound w r

pub record Shadows (w : List ℕ) (p : ℕ) (r : Bool) : Type 0 where
  pub is : (f : List ℕ) (T : Rows) (d : Described) (c : Checker) → Runs f w T d c → r ≡ Check.key_shadows_value d.schema (nodes_of d) p

-- ---- Steps on the head of a type
abbrev pub ValueOf : List ℕ → List ℕ → List ℕ → ℕ → Ty → ℕ → List ℕ → List ℕ → Option (Ty × ℕ) → Type 0
ValueOf f w ou n t left w' ou' r = OnType (λ d ty. Check.value_of d.schema (nodes_of d) n ty) f w ou n t left w' ou' r

abbrev pub FieldAt : List ℕ → List ℕ → List ℕ → ℕ → ℕ → Ty → ℕ → List ℕ → List ℕ → Option (Ty × ℕ) → Type 0
FieldAt f w ou n name t left w' ou' r = OnType (λ d ty. Check.field_at d.schema (nodes_of d) n name ty) f w ou n t left w' ou' r

abbrev pub KeyOf : List ℕ → List ℕ → List ℕ → ℕ → ℕ → Ty → ℕ → List ℕ → List ℕ → Option (Ty × ℕ) → Type 0
KeyOf f w ou n name t left w' ou' r = OnType (λ d ty. Check.key_of d.schema (nodes_of d) n name ty) f w ou n t left w' ou' r

abbrev pub SelectOf : List ℕ → List ℕ → List ℕ → ℕ → ℕ → Ty → ℕ → List ℕ → List ℕ → Option (Ty × ℕ) → Type 0
SelectOf f w ou n name t left w' ou' r = OnType (λ d ty. Check.select_of d.schema (nodes_of d) n name ty) f w ou n t left w' ou' r

-- ---- Steps that spend visits
pub record ComparesOrder (f w ou : List ℕ) (lhs : ℕ) (t : Ty) (left : ℕ) (w' ou' : List ℕ) (r : Option ℕ) : Type 0 where
  pub is : (d : Described) → lhs < length (nodes_of d) → Beside f w ou left w' ou' (done r) d (only one_diagnostic) (Fine w t)
      (λ T. Check.compare_order d.schema (nodes_of d) lhs (tree T t))

-- ---- Steps on a node, which spend none
pub record IntroducesSide (f w ou : List ℕ) (n : ℕ) (w' ou' : List ℕ) : Type 0 where
  pub is : (left : ℕ) → BringsSide f w ou n left w' ou'

-- The answer slice stays as it is, whatever it holds.
pub record IntroducesSides (f w : List ℕ) (n : ℕ) (w' : List ℕ) : Type 0 where
  pub is : (ou : List ℕ) → IntroducesSide f w ou n w' ou

pub record ChecksHead (f w ou : List ℕ) (n left : ℕ) (w' ou' : List ℕ) (r : Option ℕ) : Type 0 where
  pub is : Heads f w ou n left w' ou' r

-- ---- The start
unfoldable pub counters_w : List ℕ → List ℕ
counters_w w =
    set (set (set (set (set (set (set (set w RECORD-COUNT 0) RECORD-FIELD-COUNT 0) ENV-LEN 0) DIAGNOSTIC-COUNT 0) UNKNOWNS 0) MARK-COUNT 0) UNUSED-COUNT 0)
    UNDO-LEN 0

-- The first n nodes have no type, and only words of node types changed.
pub record Untypes (w : List ℕ) (n : ℕ) (w' : List ℕ) : Type 0 where
  pub keeps : Keeps TYS UNDO-LEN w w'
  pub untyped : (i : ℕ) → i < n → get_or w' (TYS + 2 * i) 0 ≡ 0

pub record StartsRun (w : List ℕ) (u : Until) (w' : List ℕ) : Type 0 where
  pub is : (f : List ℕ) → Starts f w u w'
