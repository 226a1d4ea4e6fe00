-- Demand 3's lists of calls, made by the code. A list goes by what the code gives back: the visits left, the marks of
-- snapshots, how a unification ended. Beside it goes the machine of unification/specs/Calls.antt.
use Rattle.std.specs.Prelude.{true, false, List, [], ◌∷◌, ◌++◌, ◌≡◌, ℕ, ◌+◌, ◌*◌, ◌≤◌, ◌<◌, length, get_or, drop, replicate, Err, None, Option, Result}
use Rattle.unification.specs.Ty as Tree
use Rattle.unification.specs.Bindings as Bindings
use Rattle.unification.specs.Bindings.{Subst, State}
use Rattle.unification.specs.Unify as Unify
use Rattle.unification.specs.Calls.{Declared, Side, Admitted, Assignment, Taken, Machine, begin, take_snapshot, EntryClaim}
use Rattle.unification.specs.Tie.{AsRobinson}
use Rattle.work.specs.Layout.{TYPE-COUNT, UNKNOWNS, RECORD-COUNT, RECORD-FIELD-COUNT, TYS, UNDO-LEN}
use Rattle.cells.specs.declared.Ty.{Ty}
use Rattle.cells.specs.declared.Kind.{Kind}
use Rattle.cells.specs.declared.TyError.{TyError}
use Rattle.cells.specs.Words.{declared_w, slot_w, fresh_w, annotate_w}
use Rattle.cells.specs.Stands.{Rows, tree, kind_tree, IsCell, Ok, Holds}
use Rattle.cells.specs.Inferred.{reserve_w, put_field_w, new_record_w, Reserved, Filled, rows_with}
use Rattle.cells.specs.Promises.{Unifies, RollsBack}
use Rattle.cells.specs.declared.Failure.{Failure}

-- ---- Where a list begins

-- The schema types of the words, by number: each is the one of the list, and one that a file past 1 to 10 can have.
pub record Declares (w : List ℕ) (T : Rows) (types : List Tree.Ty) : Type 0 where
  pub count : get_or w TYPE-COUNT 0 ≡ length types
  pub type : (t : ℕ) → t < length types → tree T (declared_w w t) ≡ get_or types t Tree.Error
  pub declared : (t : ℕ) → t < length types → Declared (get_or types t Tree.Error)

-- Every cell is a permitted side over the unknowns: a schema type of a file past 1 to 10, or a record of such.
pub record Permitted (w : List ℕ) (T : Rows) : Type 0 where
  pub cell : (k : Kind) (c : ℕ) → IsCell w k c → Side (get_or w UNKNOWNS 0) (Tree.node (kind_tree k) (T c))

-- No node has a type.
abbrev pub untyped : ℕ → List (Option Tree.Ty)
untyped nodes = replicate nodes None

-- ---- The machine after a call

abbrev pub with_state_lem : Machine → State → Machine
with_state_lem m st = record { state = st; taken = m.taken }

-- The state in which a unification of two types in hand ends.
abbrev pub united : Rows → State → Ty → Ty → State
united T st got expected = Unify.end_of (Unify.unify st (tree T got) (tree T expected))

-- After a rollback to the first of these snapshots. (There is one.)
abbrev pub rolled_to : State → List Taken → Machine
rolled_to st [] = record { state = st; taken = [] }
rolled_to st (to ∷ older) = record { state = Bindings.rollback st to.at; taken = to ∷ older }

-- ---- The list

-- The words with the rows of their cells, the visits left and the marks at hand, newest first, after a list of the
-- code's calls that begins with v visits left and no unknown; and the machine beside it.
pub data CodeCalls (v nodes : ℕ) : List ℕ → Rows → ℕ → List ℕ → Machine → Type 0 where
  none_yet : {w : List ℕ} {T : Rows} → Holds w T (begin v (untyped nodes)).state → Permitted w T → CodeCalls v nodes w T v [] (begin v (untyped nodes))
  -- `fresh_var_id`
  unknown : {w : List ℕ} {T : Rows} {left : ℕ} {marks : List ℕ} {m : Machine} → CodeCalls v nodes w T left marks m → get_or w UNKNOWNS 0 < 512
      → CodeCalls v nodes (fresh_w w) T left marks (with_state_lem m (Bindings.fresh m.state))
  -- An inferred record, in three calls that change no binding: `reserve`, `put_field` of a field that was given to no
  -- record yet, and `new_record`
  reserving : {w : List ℕ} {T : Rows} {left : ℕ} {marks : List ℕ} {m : Machine} (n : ℕ) → CodeCalls v nodes w T left marks m
      → get_or w RECORD-FIELD-COUNT 0 + n ≤ 512 → CodeCalls v nodes (reserve_w w n) T left marks m
  filling : {w : List ℕ} {T : Rows} {left : ℕ} {marks : List ℕ} {m : Machine} (i name : ℕ) (t : Ty) (from n : ℕ) → CodeCalls v nodes w T left marks m
      → i < 512 → name < 65536 → Reserved w from n → from ≤ i → i < from + n → CodeCalls v nodes (put_field_w w i name t) T left marks m
  record_cell : {w : List ℕ} {T : Rows} {left : ℕ} {marks : List ℕ} {m : Machine} (from n : ℕ) → CodeCalls v nodes w T left marks m
      → get_or w RECORD-COUNT 0 < 512 → Filled w from n → CodeCalls v nodes (new_record_w w from n) (rows_with w from n T) left marks m
  -- `unify`, which gave back success or a failure
  success : {w w' : List ℕ} {T : Rows} {left left' : ℕ} {marks : List ℕ} {m : Machine} (got expected : Ty) → CodeCalls v nodes w T left marks m
      → Ok w got → Ok w expected → Unifies w got expected left w' (Result.Ok left')
      → CodeCalls v nodes w' T left' marks (with_state_lem m (united T m.state got expected))
  failure : {w w' : List ℕ} {T : Rows} {left left' : ℕ} {marks : List ℕ} {m : Machine} (got expected : Ty) (e : TyError) → CodeCalls v nodes w T left marks m
      → Ok w got → Ok w expected → Unifies w got expected left w' (Err (Failure.Bad e left'))
      → CodeCalls v nodes w' T left' marks (with_state_lem m (united T m.state got expected))
  -- `snapshot`, which gave back the mark
  snapping : {w : List ℕ} {T : Rows} {left : ℕ} {marks : List ℕ} {m : Machine} (mark : ℕ) → CodeCalls v nodes w T left marks m → mark ≡ get_or w UNDO-LEN 0
      → CodeCalls v nodes w T left (mark ∷ marks) (record { state = m.state; taken = take_snapshot m.state ∷ m.taken })
  -- `rollback`, to a mark at hand
  rolling_back : {w w' : List ℕ} {T : Rows} {left : ℕ} {marks : List ℕ} {m : Machine} (newer older : List ℕ) (mark : ℕ) → CodeCalls v nodes w T left marks m
      → marks ≡ newer ++ mark ∷ older → RollsBack w mark w' → CodeCalls v nodes w' T left (mark ∷ older) (rolled_to m.state (drop (length newer) m.taken))
  -- visits spent in between; `orderable` and `occurs` give back no more than they get
  spending : {w : List ℕ} {T : Rows} {left : ℕ} {marks : List ℕ} {m : Machine} (u : ℕ) → CodeCalls v nodes w T left marks m → u ≤ left
      → CodeCalls v nodes w T u marks (with_state_lem m (Bindings.with_left m.state u))
  -- `annotate`, of a node without a type
  annotation : {w : List ℕ} {T : Rows} {left : ℕ} {marks : List ℕ} {m : Machine} (n : ℕ) (t : Ty) → CodeCalls v nodes w T left marks m
      → Ok w t → n < nodes → slot_w w (TYS + 2 * n) ≡ None
      → CodeCalls v nodes (annotate_w w n t) T left marks (with_state_lem m (Bindings.annotate m.state n (tree T t)))

-- Where a list has led: between two calls, or to where a unification passed the visit limit, which ends the list.
pub data CodeLed (v nodes : ℕ) : List ℕ → Rows → State → Type 0 where
  between_calls : {w : List ℕ} {T : Rows} {left : ℕ} {marks : List ℕ} {m : Machine} → CodeCalls v nodes w T left marks m → CodeLed v nodes w T m.state
  at_the_limit : {w w' : List ℕ} {T : Rows} {left : ℕ} {marks : List ℕ} {m : Machine} (got expected : Ty) → CodeCalls v nodes w T left marks m
      → Ok w got → Ok w expected → Unifies w got expected left w' (Err Failure.Spent) → CodeLed v nodes w' T (united T m.state got expected)

-- ---- What the code gives back

-- `unify`, of a unification from the bindings s to s': clause (a) of demand 3, and Robinson's notions. Where the visits
-- ran out nothing is said.
abbrev pub Returned : Subst → Tree.Ty → Tree.Ty → Subst → Result ℕ Failure → Type 0
Returned s a b s' (Result.Ok left) = EntryClaim Assignment s a b true s' × (Admitted s a → Admitted s b → AsRobinson s a b true s')
Returned s a b s' (Err (Failure.Bad e left)) = EntryClaim Assignment s a b false s' × (Admitted s a → Admitted s b → AsRobinson s a b false s')
Returned s a b s' (Err Failure.Spent) = Unit {0}
