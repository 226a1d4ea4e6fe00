-- A way to write types: what stands for a shape without parts, before the parts of one that has some, and before a part.
-- And what it is to write a type in hand so, with every bound unknown replaced.
use Rattle.std.specs.Prelude.{List, [], ◌++◌, ℕ, ◌≤◌, length, Option}
use Rattle.unification.specs.Ty as Tree
use Rattle.unification.specs.Ty.{Row, ε, cell, row_len, app_row}
use Rattle.unification.specs.Bindings.{Subst, zonk}
use Rattle.unification.specs.Acyclic.{Acyclic}
use Rattle.cells.specs.declared.Ty.{Ty}
use Rattle.cells.specs.declared.Ty.TheVariants.{Int, Str, Bytes, Fact, Record, Union, Var, Error}
use Rattle.cells.specs.Words.{count_w}
use Rattle.cells.specs.declared.Kind.{Kind}
use Rattle.cells.specs.declared.Part.{Part}
use Rattle.cells.specs.Stands.{Rows, tree, kind_tree, IsCell, Ok, Cells, Binds}
use Rattle.writer.specs.Writes.{Writes, Moves}

pub record Script (A : Type 0) : Type 0 where
  pub leaf : Tree.Leaf → List A
  -- how many parts there are
  pub node : Tree.Kind → ℕ → List A
  pub unknown : ℕ → List A
  pub error : List A
  -- a part's key and label
  pub part : Tree.Kind → ℕ → ℕ → List A

unfoldable mutual
  unfolding row_len

  pub written : {A : Type 0} → Script A → Tree.Ty → List A
  written S (Tree.leaf p) = S.leaf p
  written S (Tree.node k r) = S.node k (row_len r) ++ written_row S r k
  written S (Tree.Var x) = S.unknown x
  written S Tree.Error = S.error

  pub written_row : {A : Type 0} → Script A → Row → Tree.Kind → List A
  written_row S ε k = []
  written_row S (cell key label t r) k = S.part k key label ++ (written S t ++ written_row S r k)

-- ---- A type in hand
-- What stands before the parts of a resolved type, and before the type of a part of it.
abbrev pub head_of : {A : Type 0} → Script A → List ℕ → Ty → List A
head_of S w Int = S.leaf Tree.Int
head_of S w Str = S.leaf Tree.String
head_of S w Bytes = S.leaf Tree.Bytes
head_of S w (Fact p) = S.leaf (Tree.Fact p)
head_of S w (Record c) = S.node Tree.Record (count_w w c)
head_of S w (Union c) = S.node Tree.Union (count_w w c)
head_of S w (Var x) = S.unknown x
head_of S w Error = S.error

abbrev pub part_head_of : {A : Type 0} → Script A → Ty → ℕ → ℕ → List A
part_head_of S Int key label = S.part Tree.Record key label
part_head_of S Str key label = S.part Tree.Record key label
part_head_of S Bytes key label = S.part Tree.Record key label
part_head_of S (Fact p) key label = S.part Tree.Record key label
part_head_of S (Record c) key label = S.part Tree.Record key label
part_head_of S (Union c) key label = S.part Tree.Union key label
part_head_of S (Var x) key label = S.part Tree.Record key label
part_head_of S Error key label = S.part Tree.Record key label

-- The words hold types whose unknowns can be resolved.
pub record Resolves (w : List ℕ) (T : Rows) (s : Subst) : Type 0 where
  pub cells : Cells w T
  pub binds : Binds w T s
  pub acyclic : Acyclic s

abbrev pub resolved : Subst → Row → Row
resolved s r = app_row (λ x. zonk s (Tree.Var x)) r

pub record WritesTy {A : Type 0} (S : Script A) (w : List ℕ) (out : List A) (at : ℕ) (t : Ty) (out' : List A) (r : Option ℕ) : Type 0 where
  pub is : (T : Rows) (s : Subst) → Resolves w T s → Ok w t → Writes out at (written S (zonk s (tree T t))) out' r
  pub moves : Moves out at out' r

pub record WritesPart {A : Type 0} (S : Script A) (w : List ℕ) (out : List A) (at : ℕ) (k : Kind) (p : Part) (out' : List A) (r : Option ℕ) : Type 0 where
  pub is : (T : Rows) (s : Subst) → Resolves w T s → Ok w p.ty
      → Writes out at (S.part (kind_tree k) p.key p.label ++ written S (zonk s (tree T p.ty))) out' r
  pub moves : Moves out at out' r

-- A cell may have no parts, and then nothing is written.
pub record WritesRow {A : Type 0} (S : Script A) (w : List ℕ) (out : List A) (at : ℕ) (k : Kind) (c : ℕ) (out' : List A) (r : Option ℕ) : Type 0 where
  pub is : (T : Rows) (s : Subst) → Resolves w T s → IsCell w k c → at ≤ length out → Writes out at (written_row S (resolved s (T c)) (kind_tree k)) out' r
  pub moves : Moves out at out' r
