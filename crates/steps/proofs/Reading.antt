-- What a node in hand is: `node_at` gives the kind that the tree has, and what the kind names is lower, so that any
-- depth above the node is above its parts.
use mathlib.Core.List.{List, [], ◌∷◌}
use mathlib.Core.Path.{◌≡◌, refl, sym, ap}
use Prim.Native.Nat.{ℕ, suc, ◌+◌, ◌-◌, ◌≤◌, ◌<◌}
use native.Mathlib.Omega.{arith}
use lib.ListN.{length}
use Rattle.cells.specs.Stands.{Rows}
use Rattle.format.specs.Syntax.{ExprKind, no_node, node_at}
use Rattle.format.specs.References.{expr_names, expr_nodes}
use Rattle.format.specs.Conditions.{max_names}
use Rattle.format.specs.All.{All, Below}
use Rattle.format.specs.File.{Described}
use Rattle.format.specs.Sound.{Sound}
use Rattle.meaning.specs.Check.{Checker, kind, form, form_of}
use Rattle.format.proofs.Lists.{all_map, all_at}
use Rattle.format.proofs.Tests.{all_below_lem}
use Rattle.format.proofs.Sound.{lower_at}
use Rattle.tree.specs.declared.items.Items.{Items}
use Rattle.tree.specs.declared.Node.{Node}
use Rattle.tree.specs.Nodes.{field_w, field_of, fields_from, kind_w, IsNode}
use Rattle.state.specs.Runs.{Runs}
use Rattle.steps.specs.Loads.{Load, Begins}
use Rattle.steps.specs.Promises.{nodes_of, Named, AllNamed}

module _ {d : Described} {n : ℕ} (s : Sound d) (there : n < length (nodes_of d)) where
  pub parts_lower : All (λ m. m < n) (expr_nodes (node_at (nodes_of d) n).kind)
  parts_lower = lower_at (nodes_of d) n s.lower there

  pub parts_named : (k : ℕ) → n ≤ k → AllNamed d k (expr_nodes (node_at (nodes_of d) n).kind)
  parts_named k le = all_map (λ m. m < n) (Named d k) (expr_nodes (node_at (nodes_of d) n).kind)
      (λ m l. record { there = omega (arith, there); under = omega arith }) parts_lower

-- The kind that the code read is the node's.
pub kind_is : {f w : List ℕ} {T : Rows} {d : Described} {c : Checker} {n : ℕ} {r : Node} → Sound d → Runs f w T d c → n < length (nodes_of d)
    → IsNode f w n r → (node_at (nodes_of d) n).kind ≡ kind_w f r
kind_is {d = d} {n = n} s R there i = sym
    (i.is (node_at (nodes_of d) n) (R.stands.node n there) (rw (all_below_lem n (expr_nodes (node_at (nodes_of d) n).kind) (parts_lower s there)) tt))

pub kind_read : {f w ou : List ℕ} {T : Rows} {d : Described} {L : Load} {left : ℕ} {c : Checker} {n : ℕ} {r : Node} → Begins f w ou T d L left c
    → n < length (nodes_of d) → IsNode f w n r → (node_at (nodes_of d) n).kind ≡ kind_w f r
kind_read b there i = kind_is b.sound b.runs there i

pub form_read : {f w ou : List ℕ} {T : Rows} {d : Described} {L : Load} {left : ℕ} {c : Checker} {n : ℕ} {nd : Node} → Begins f w ou T d L left c
    → n < length (nodes_of d) → IsNode f w n nd → form d.schema (nodes_of d) n ≡ form_of (kind_w f nd)
unfolding form kind
form_read s there i = ap form_of (kind_read s there i)

-- A variable is one of at most 256 names.
pub name_small : {d : Described} {n x : ℕ} → Sound d → n < length (nodes_of d) → (node_at (nodes_of d) n).kind ≡ ExprKind.Var x → x < 256
unfolding node_at expr_names max_names
name_small {d} {n} {x} s there e = omega (
  arith,
  (rw e at (all_at (λ m. Below (length d.schema.characters) (expr_names m.kind)) (nodes_of d) n no_node s.names_below there)).0,
  s.names_max,
)

-- ---- Lists of fields
pub fields_some : (f : List ℕ) (l : Items) (i : ℕ) → i < l.n → fields_from f l i (l.n - i) ≡ field_of (field_w f l i) ∷ fields_from f l (i + 1) (l.n - (i + 1))
unfolding fields_from
fields_some f l i h = let e : l.n - i ≡ suc (l.n - (i + 1)) = omega arith in rw e refl

pub fields_none : (f : List ℕ) (l : Items) (i : ℕ) → l.n ≤ i → fields_from f l i (l.n - i) ≡ []
unfolding fields_from
fields_none f l i h = let e : l.n - i ≡ 0 = omega arith in rw e refl
