-- Parts of functions that go beside a step of their own in meaning/specs/Check.antt: a field's value checked in a scope
-- of its own, a record against a type, a left side that cannot be bound.
use mathlib.Core.List.{List}
use mathlib.Core.Path.{◌≡◌}
use Prim.Native.Nat.{ℕ, suc}
use Rattle.unification.specs.Bindings.{Subst}
use Rattle.cells.specs.declared.Ty.{Ty}
use Rattle.cells.specs.Stands.{Rows, tree}
use Rattle.format.specs.Syntax.{Field, ExprKind, node_at}
use Rattle.meaning.specs.Diag as Diag
use Rattle.format.specs.File.{Described}
use Rattle.meaning.specs.Check as Check
use Rattle.meaning.specs.Check.{Does, Walk}
use Rattle.messages.specs.declared.Message.{Message}
use Rattle.messages.specs.Said.{said, OkMessage}
use Rattle.tree.specs.declared.items.Items.{Items}
use Rattle.tree.specs.Nodes.{fields_from}
use Rattle.steps.specs.Ends.{done}
use Rattle.steps.specs.Loads.{checks, Beside}
use Rattle.steps.specs.Promises.{Fine, nodes_of, Named, NodeAt}
use Rattle.checker.specs.Promises.{below, Sides, SidesSaying}
use Rattle.std.specs.Prelude.{Option}

pub record ChecksField (f w ou : List ℕ) (n : ℕ) (t : Ty) (left : ℕ) (w' ou' : List ℕ) (r : Option ℕ) : Type 0 where
  pub is : (d : Described) (k : ℕ) → Named d k n
      → Beside f w ou left w' ou' (done r) d (checks (nodes_of d) k n) (Fine w t) (λ T. Check.check_field d.schema (nodes_of d) (below d k) n (tree T t))

pub record ChecksRecord (f w ou : List ℕ) (n : ℕ) (l : Items) (t : Ty) (left : ℕ) (w' ou' : List ℕ) (r : Option ℕ) : Type 0 where
  pub is : (d : Described) (k : ℕ) (fs : List Field) → fs ≡ fields_from f l 0 l.n → NodeAt d k n → (node_at (nodes_of d) n).kind ≡ ExprKind.Record fs
      → Beside f w ou left w' ou' (done r) d (checks (nodes_of d) (suc k) n) (Fine w t)
      (λ T. Check.check_record d.schema (nodes_of d) (below d k) n fs (tree T t))

abbrev pub BadTargets : Message → List ℕ → List ℕ → List ℕ → ℕ → ℕ → ℕ → List ℕ → List ℕ → Option ℕ → Type 0
BadTargets x f w ou lhs rhs left w' ou' r = SidesSaying (λ d b. Check.bad_target d.schema (nodes_of d) b) x f w ou lhs rhs left w' ou' r

-- A message that shows no type says the same over all rows and bindings.
pub plainly : {m : Described → Walk → Diag.Message → ℕ → ℕ → Does (Unit {0})} {x : Message} {f w ou : List ℕ} {lhs rhs left : ℕ} {w' ou' : List ℕ}
    {r : Option ℕ} (y : Diag.Message)
    → ((T : Rows) (s : Subst) → said T s x ≡ y) → OkMessage w x → SidesSaying m x f w ou lhs rhs left w' ou' r
    → Sides (λ d b. m d b y) f w ou lhs rhs left w' ou' r
plainly y e ok S = record { is = λ d k nl nr. record { is = λ T c s u. rw (← e T c.state.subst) ((S.is d k nl nr).is T c s ok) } }
