-- What the functions of src/lib.rt promise. Each that walks types or changes the state says: for all rows and every
-- state that the words stand for, the words after stand for what the definition gives.
use Rattle.std.specs.Prelude.{List, ◌≡◌, ◌+◌, ◌*◌, ℕ, ◌≤◌, ◌<◌, length, Bool, Err, None, Option, Result, Some, MatchOption, false, true}
use Rattle.unification.specs.Ty as Tree
use Rattle.unification.specs.Ty.{Row, ε, cell, app_row}
use Rattle.unification.specs.Bindings as Bindings
use Rattle.unification.specs.Bindings.{Subst, bound, Answer, any_row, State, History, Resolved}
use Rattle.unification.specs.Unify as Unify
use Rattle.unification.specs.Unify.{find_key, find_label}
use Rattle.unification.specs.Quiet.{Quiet}
use Rattle.unification.specs.Acyclic.{Acyclic}
use Rattle.work.specs.Layout.{FIELDS, RECORD-FIELDS, TYS, UNDO-LEN, END}
use Rattle.cells.specs.declared.Ty.{Ty}
use Rattle.cells.specs.declared.Ty.TheVariants.{Var, Error}
use Rattle.cells.specs.declared.Kind.{Kind}
use Rattle.cells.specs.declared.Kind.TheVariants.{Fields, Alternatives}
use Rattle.cells.specs.declared.UnionDiff.{UnionDiff}
use Rattle.cells.specs.declared.TyError.{TyError}
use Rattle.cells.specs.Words.{count_w, first_w, part_w, lower_w}
use Rattle.cells.specs.Stands.{Rows, tree, IsCell, Ok, Cells, Binds, Holds, Keeps}
use Rattle.cells.specs.declared.Failure.{Failure}
use Rattle.cells.specs.declared.Part.{Part}

-- ---- Look-up

abbrev pub found_part : Rows → Option Part → Option (ℕ × Tree.Ty)
found_part T (Some p) = Some (p.label, tree T p.ty)
found_part T None = None

abbrev pub found_ty : Rows → Option Part → Option Tree.Ty
found_ty T (Some p) = Some (tree T p.ty)
found_ty T None = None

abbrev pub OkFound : List ℕ → Option Part → Type 0
OkFound w (Some p) = Ok w p.ty
OkFound w None = Unit {0}

-- the part that stands there
abbrev pub part_at : List ℕ → Kind → ℕ → Option ℕ → Option Part
part_at w k c (Some j) = Some (part_w w k c j)
part_at w k c None = None

abbrev pub HasKey : ℕ → Option Part → Type 0
HasKey key (Some p) = p.key ≡ key
HasKey key None = Unit {0}

abbrev pub HasName : ℕ → Option Part → Type 0
HasName name (Some p) = p.label ≡ name
HasName name None = Unit {0}

-- The first place from i on with a property, below n, or none.
abbrev pub FirstPlace : (ℕ → Type 0) → ℕ → ℕ → Option ℕ → Type 0
FirstPlace P i n r = MatchOption r ((j : ℕ) → i ≤ j → j < n → ¬ P j) (λ j. (i ≤ j) × (j < n) × P j × ((m : ℕ) → i ≤ m → m < j → ¬ P m))

-- All parts of a cell are within the words.
abbrev pub PartsWithin : List ℕ → ℕ → Type 0
PartsWithin w c = (FIELDS + first_w w c + 2 * count_w w c ≤ length w) × (256 ≤ c → RECORD-FIELDS + 2 * (first_w w c + count_w w c) ≤ length w)

-- What is found has the key, or the name, whatever the words are.
pub record FindsKey (w : List ℕ) (k : Kind) (c key : ℕ) (r : Option Part) : Type 0 where
  pub is : (T : Rows) → Cells w T → IsCell w k c → found_part T r ≡ find_key key (T c)
  pub ok : (T : Rows) → Cells w T → IsCell w k c → OkFound w r
  pub has : HasKey key r

pub record FindsName (w : List ℕ) (c name : ℕ) (r : Option Part) : Type 0 where
  pub is : (T : Rows) → Cells w T → IsCell w Alternatives c → found_ty T r ≡ find_label name (T c)
  pub ok : (T : Rows) → Cells w T → IsCell w Alternatives c → OkFound w r
  pub has : HasName name r

-- ---- The alternatives of two unions, by ascending discriminant

-- The least key that is not below `from`, or `best` where that is lower.
unfoldable pub least_from : ℕ → Row → Option ℕ → Option ℕ
unfolding lower_w
least_from from ε best = best
least_from from (cell k l t r) best = least_from from r (lower_w k from best)

abbrev pub KeysBelow : ℕ → Row → Type 0
KeysBelow n ε = Unit {0}
KeysBelow n (cell k l t r) = (k < n) × KeysBelow n r

-- A key is a word.
pub record Lowers (key from : ℕ) (best r : Option ℕ) : Type 0 where
  pub is : r ≡ lower_w key from best
  pub small : key < 4294967296

-- No key below `from` is found, whatever the words are.
abbrev pub NotBelow : ℕ → Option ℕ → Type 0
NotBelow from None = Unit {0}
NotBelow from (Some k) = from ≤ k

pub record LeastFrom (w : List ℕ) (c from : ℕ) (best r : Option ℕ) : Type 0 where
  pub is : (T : Rows) → Cells w T → IsCell w Alternatives c → r ≡ least_from from (T c) best
  pub small : (T : Rows) → Cells w T → IsCell w Alternatives c → KeysBelow 4294967296 (T c)
  pub above : NotBelow from best → NotBelow from r

-- The first i alternatives are below `from`: they need not be looked at again.
pub record Passed (w : List ℕ) (c i from : ℕ) : Type 0 where
  pub past : (T : Rows) → Cells w T → IsCell w Alternatives c → (j : ℕ) → j < i → j < count_w w c → (part_w w Alternatives c j).key < from

pub record NextFrom (w : List ℕ) (c d from : ℕ) (r : Option ℕ) : Type 0 where
  pub is : (T : Rows) → Cells w T → IsCell w Alternatives c → IsCell w Alternatives d → r ≡ least_from from (T d) (least_from from (T c) None)
  pub small : (T : Rows) → Cells w T → IsCell w Alternatives c → IsCell w Alternatives d → KeysBelow 4294967296 (T c) × KeysBelow 4294967296 (T d)
  pub above : NotBelow from r

-- ---- Questions

pub record Reprs (w : List ℕ) (t r : Ty) : Type 0 where
  pub is : (T : Rows) (s : Subst) → Binds w T s → tree T r ≡ Bindings.repr s (tree T t)
  pub ok : (T : Rows) (s : Subst) → Binds w T s → Ok w t → Ok w r

abbrev pub answer_of : Option (Bool × ℕ) → Answer
answer_of (Some (true, l)) = Answer.yes_left l
answer_of (Some (false, l)) = Answer.no_left l
answer_of None = Answer.spent

abbrev pub asked_left : Option (Bool × ℕ) → ℕ
asked_left (Some (true, l)) = l
asked_left (Some (false, l)) = l
asked_left None = 0

-- The depth is any that is not below the visits left.
pub record Occurs (w : List ℕ) (x : ℕ) (t : Ty) (left : ℕ) (r : Option (Bool × ℕ)) : Type 0 where
  pub is : (T : Rows) (s : Subst) → Cells w T → Binds w T s → Ok w t → (d : ℕ) → left ≤ d → answer_of r ≡ Bindings.occurs d s x left (tree T t)
  pub fewer : asked_left r ≤ left

-- Of the type with every bound unknown replaced.
pub record IsOrderable (w : List ℕ) (t : Ty) (left : ℕ) (r : Option (Bool × ℕ)) : Type 0 where
  pub is : (T : Rows) (s : Subst) → Cells w T → Binds w T s → Acyclic s → Ok w t → answer_of r ≡ Unify.orderable (Bindings.zonk s (tree T t)) left
  pub fewer : asked_left r ≤ left

-- ---- The state

-- Back to a length of the undo log, whatever history the snapshot noted. Whatever the words are, only node types,
-- bindings and the log change.
pub record RollsBack (w : List ℕ) (mark : ℕ) (w' : List ℕ) : Type 0 where
  pub is : (T : Rows) (st : State) → Holds w T st → (past : History) → Holds w' T (Bindings.rollback st (record { undo = mark; past = past }))
  pub keeps : Keeps TYS END w w'

-- ---- Unification

abbrev pub diff_of : UnionDiff → Unify.UnionDiff
diff_of (UnionDiff.Absent n k) = Unify.Absent n k
diff_of (UnionDiff.Renamed e g k) = Unify.Renamed e g k
diff_of (UnionDiff.Payload n k) = Unify.Payload n k

abbrev pub error_of : Rows → TyError → Unify.TyError
error_of T (TyError.Mismatch e g) = Unify.Mismatch (tree T e) (tree T g)
error_of T (TyError.UnionMismatch d e g) = Unify.UnionMismatch (diff_of d) (tree T e) (tree T g)
error_of T (TyError.UnknownField n) = Unify.UnknownField n
error_of T TyError.Infinite = Unify.Infinite

-- The types that an error shows exist.
abbrev pub OkError : List ℕ → TyError → Type 0
OkError w (TyError.Mismatch e g) = Ok w e × Ok w g
OkError w (TyError.UnionMismatch d e g) = Ok w e × Ok w g
OkError w (TyError.UnknownField n) = Unit {0}
OkError w TyError.Infinite = Unit {0}

-- An error in hand stands for the definition's.
pub record IsError (w : List ℕ) (T : Rows) (x : TyError) (e : Unify.TyError) : Type 0 where
  pub is : error_of T x ≡ e
  pub ok : OkError w x

abbrev pub unified_left : Result ℕ Failure → ℕ
unified_left (Result.Ok l) = l
unified_left (Err (Failure.Bad e l)) = l
unified_left (Err Failure.Spent) = 0

-- How the words and the answer after a unification stand for how it ends over trees. Only bindings and the undo log
-- change.
pub record Stays (w w' : List ℕ) (T : Rows) (st : State) : Type 0 where
  pub holds : Holds w' T st
  pub keeps : Keeps UNDO-LEN END w w'

unfoldable pub UnifyEnds : List ℕ → List ℕ → Rows → Result ℕ Failure → Unify.Unified → Type 0
UnifyEnds w w' T r (Unify.Ok st) = (r ≡ Result.Ok st.left) × Stays w w' T st
UnifyEnds w w' T r (Unify.Err e st) = (e' : TyError) × (r ≡ Err (Failure.Bad e' st.left)) × IsError w' T e' e × Stays w w' T st
UnifyEnds w w' T r (Unify.Spent st) = (r ≡ Err Failure.Spent) × (st.left ≡ 0) × Stays w w' T st

-- Whatever the words are, the visits left do not rise, and only bindings and the undo log change.
pub record Unifies (w : List ℕ) (got expected : Ty) (left : ℕ) (w' : List ℕ) (r : Result ℕ Failure) : Type 0 where
  pub is : (T : Rows) (st : State) → Holds w T st → st.left ≡ left → Ok w got → Ok w expected → (d : ℕ) → left ≤ d
      → UnifyEnds w w' T r (Unify.unify_in d st (tree T got) (tree T expected))
  pub fewer : unified_left r ≤ left
  pub keeps : Keeps UNDO-LEN END w w'

-- A step inside it, from a state of which P holds, to what `f` gives over trees. The depth is any that is not below the
-- visits left.
pub record UnifyStep (P : Rows → State → Type 0) (f : ℕ → Rows → State → Unify.Unified) (w : List ℕ) (left : ℕ) (w' : List ℕ)
    (r : Result ℕ Failure) : Type 0 where
  pub is : (T : Rows) (st : State) → Holds w T st → st.left ≡ left → P T st → (d : ℕ) → left ≤ d → UnifyEnds w w' T r (f d T st)
  pub fewer : unified_left r ≤ left
  pub keeps : Keeps UNDO-LEN END w w'

abbrev pub unifier : ℕ → State → Tree.Ty → Tree.Ty → Unify.Unified
unifier d st a b = Unify.unify_in d st a b

-- x is a free unknown.
pub record BindsVar (w : List ℕ) (x : ℕ) (t : Ty) (left : ℕ) (w' : List ℕ) (r : Result ℕ Failure) : Type 0 where
  pub step : UnifyStep (λ T st. (bound st.subst x ≡ None) × Ok w (Var x) × Ok w t) (λ d T st. Unify.bind_var d st x (tree T t)) w left w' r

-- No unknown and not Error.
abbrev pub IsShape : Ty → Type 0
IsShape t = ((x : ℕ) → t ≡ Var x → ⊥) × (t ≡ Error → ⊥)

-- Both sides are at the end of their chains.
pub record UnifiesHeads (w : List ℕ) (a b : Ty) (left : ℕ) (w' : List ℕ) (r : Result ℕ Failure) : Type 0 where
  pub step : UnifyStep (λ T st. Ok w a × Ok w b × Resolved st.subst (tree T a) × Resolved st.subst (tree T b))
      (λ d T st. Unify.unify_heads d (unifier d) st (tree T a) (tree T b)) w left w' r

-- Neither side is an unknown or Error.
pub record UnifiesShapes (w : List ℕ) (a b : Ty) (left : ℕ) (w' : List ℕ) (r : Result ℕ Failure) : Type 0 where
  pub step : UnifyStep (λ T st. Ok w a × Ok w b × IsShape a × IsShape b) (λ d T st. Unify.unify_heads d (unifier d) st (tree T a) (tree T b)) w left w' r

pub record UnifiesRecord (w : List ℕ) (c e left : ℕ) (w' : List ℕ) (r : Result ℕ Failure) : Type 0 where
  pub step : UnifyStep (λ T st. IsCell w Fields c × IsCell w Fields e) (λ d T st. Unify.unify_record (unifier d) st (T c) (T e)) w left w' r

-- Two types once more: while the log has this length nothing was bound, so they cost this, or are stopped where fewer
-- visits are left.
pub record SettledPair (got expected : Ty) (cost log d : ℕ) (T : Rows) (s : State) : Type 0 where
  pub quiet : length s.undo ≡ log → (st : State) → st.subst ≡ s.subst → st.left ≤ d → Quiet cost st (unifier d st (tree T got) (tree T expected))

-- `unify`, where K is known of the state before, and K' after a success.
pub record UnifiesNext (w : List ℕ) (K : ℕ → Rows → State → Type 0) (got expected : Ty) (left : ℕ) (w' : List ℕ) (K' : ℕ → Rows → State → Type 0)
    (r : Result ℕ Failure) : Type 0 where
  pub is : (T : Rows) (st : State) → Holds w T st → st.left ≡ left → Ok w got → Ok w expected → (d : ℕ) → left ≤ d → K d T st
      → UnifyEnds w w' T r (unifier d st (tree T got) (tree T expected))
      × ((st' : State) → unifier d st (tree T got) (tree T expected) ≡ Unify.Ok st' → K' d T st')
  pub fewer : unified_left r ≤ left
  pub keeps : Keeps UNDO-LEN END w w'

-- n is the number of fields of c.
pub record UnifiesFields (w : List ℕ) (c e n left : ℕ) (w' : List ℕ) (r : Result ℕ Failure) : Type 0 where
  pub step : UnifyStep (λ T st. IsCell w Fields c × IsCell w Fields e × (n ≡ count_w w c)) (λ d T st. Unify.unify_fields (unifier d) st (T c) (T e)) w left w' r

pub record UnifiesUnion (w : List ℕ) (c e left : ℕ) (w' : List ℕ) (r : Result ℕ Failure) : Type 0 where
  pub step : UnifyStep (λ T st. IsCell w Alternatives c × IsCell w Alternatives e) (λ d T st. Unify.unify_union (unifier d) st (T c) (T e)) w left w' r

-- c is the found union, e the expected.
abbrev pub differs : Rows → ℕ → ℕ → Unify.UnionDiff → Unify.TyError
differs T c e diff = Unify.UnionMismatch diff (Tree.node Tree.Union (T e)) (Tree.node Tree.Union (T c))

pub record UnifiesAlternative (w : List ℕ) (c e k left : ℕ) (w' : List ℕ) (r : Result ℕ Failure) : Type 0 where
  pub step : UnifyStep (λ T st. IsCell w Alternatives c × IsCell w Alternatives e)
      (λ d T st. Unify.unify_alternative (unifier d) st (differs T c e) k (find_key k (T c)) (find_key k (T e))) w left w' r
