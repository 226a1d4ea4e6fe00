-- What is written of a type in hand: the words of plain_theory/specs/Words.antt, of the type with every bound unknown
-- replaced; and of the first stage, the resolved bindings and the two sides.
use Rattle.std.specs.Prelude.{List, [], ◌∷◌, ◌++◌, ◌≡◌, ℕ, zero, ◌+◌, ◌≤◌, ◌<◌, length, get_or, None, Option, Some}
use Rattle.std.proofs.Common.{arith}
use Rattle.unification.specs.Ty as Tree
use Rattle.unification.specs.Bindings.{Subst, bound, zonk, State}
use Rattle.work.specs.Layout.{UNKNOWNS}
use Rattle.cells.specs.declared.Ty.{Ty}
use Rattle.cells.specs.declared.Ty.TheVariants.{Int, Str, Bytes, Fact, Record, Union, Var, Error}
use Rattle.cells.specs.Stands.{Rows, tree, Ok, Holds}
use Rattle.writer.specs.Writes.{Writes, Moves}
use Rattle.resolving.specs.Scripts.{Script, head_of, Resolves}
use Rattle.plain_theory.specs.Plain.{Stage, resolved_from, start}
use Rattle.plain_theory.specs.Words.{leaf_spelled, kind_tag, head_spelled, spelled, pairs_spelled, bindings_spelled}

unfoldable pub tokens : Script ℕ
unfolding leaf_spelled kind_tag head_spelled
tokens = record { leaf = leaf_spelled; node = λ k n. kind_tag k ∷ n ∷ []; unknown = λ x. 7 ∷ x ∷ []; error = 8 ∷ []; part = head_spelled }

pub head_some : (w : List ℕ) (u : Ty) → 1 ≤ length (head_of tokens w u)
unfolding tokens leaf_spelled
head_some w Int = omega arith
head_some w Str = omega arith
head_some w Bytes = omega arith
head_some w (Fact p) = omega arith
head_some w (Record c) = omega arith
head_some w (Union c) = omega arith
head_some w (Var x) = omega arith
head_some w Error = omega arith

pub record SpellsTy (w l : List ℕ) (at : ℕ) (t : Ty) (l' : List ℕ) (r : Option ℕ) : Type 0 where
  pub is : (T : Rows) (s : Subst) → Resolves w T s → Ok w t → Writes l at (spelled (zonk s (tree T t))) l' r
  pub moves : Moves l at l' r

-- ---- The bindings, by ascending unknown; a free one has none

unfoldable pub binding_spelled : Subst → ℕ → Option Tree.Ty → List ℕ
unfolding spelled zonk
binding_spelled s x None = []
binding_spelled s x (Some t) = 11 ∷ x ∷ spelled (zonk s (Tree.Var x))

pub record SpellsBinding (w l : List ℕ) (at x : ℕ) (l' : List ℕ) (r : Option ℕ) : Type 0 where
  pub is : (T : Rows) (s : Subst) → Resolves w T s → x < get_or w UNKNOWNS 0 → at ≤ length l → Writes l at (binding_spelled s x (bound s x)) l' r
  pub moves : Moves l at l' r

pub record SpellsBindings (w l : List ℕ) (at : ℕ) (l' : List ℕ) (r : Option ℕ) : Type 0 where
  pub is : (T : Rows) (s : Subst) → Resolves w T s → at ≤ length l → Writes l at (bindings_spelled (resolved_from zero s s)) l' r
  pub moves : Moves l at l' r

-- ---- The first stage

pub record SpellsPair (w l : List ℕ) (at : ℕ) (a b : Ty) (l' : List ℕ) (r : Option ℕ) : Type 0 where
  pub is : (T : Rows) (s : Subst) → Resolves w T s → Ok w a → Ok w b → Writes l at (pairs_spelled (start s (tree T a) (tree T b)).pairs) l' r
  pub moves : Moves l at l' r

-- where it ends
abbrev pub ended : Option (ℕ × ℕ) → Option ℕ
ended (Some (b, e)) = Some e
ended None = None

abbrev pub spelled_stage : Stage → List ℕ
spelled_stage g = bindings_spelled g.bindings ++ pairs_spelled g.pairs

-- The stage stands there, or does not fit; and where its bindings end and its pairs start is told. Both places lie in the slice,
-- whatever the words are.
pub record SpellsStart (w l : List ℕ) (at : ℕ) (a b : Ty) (l' : List ℕ) (r : Option (ℕ × ℕ)) : Type 0 where
  pub is : (T : Rows) (st : State) → Holds w T st → Ok w a → Ok w b → at ≤ length l
      → Writes l at (spelled_stage (start st.subst (tree T a) (tree T b))) l' (ended r)
  pub between : (T : Rows) (st : State) → Holds w T st → Ok w a → Ok w b → at ≤ length l → (m e : ℕ) → r ≡ Some (m, e)
      → m ≡ at + length (bindings_spelled (start st.subst (tree T a) (tree T b)).bindings)
  pub inside : (m e : ℕ) → r ≡ Some (m, e) → at ≤ length l → (at ≤ m) × (m ≤ e) × (e ≤ length l)
  pub long : length l' ≡ length l
