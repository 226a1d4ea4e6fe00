-- What grew stays: a cell or an unknown that was there is there after more was made, and its tree is the same over the
-- new rows. So two stretches of a run are one.
use mathlib.Core.List.{List}
use mathlib.Core.Path.{◌∙◌}
use Prim.Native.Nat.{ℕ, ◌+◌, ◌≤◌}
use native.Mathlib.Omega.{arith}
use Rattle.cells.specs.declared.Ty.{Ty}
use Rattle.cells.specs.declared.Kind.{Kind}
use Rattle.cells.specs.Stands.{Rows, IsCell, Ok}
use Rattle.cells.specs.Inferred.{More, AddsCells}
use Rattle.cells.proofs.Frame.{cell_by, ok_by}
use Rattle.state.specs.Runs.{Grew}
use Rattle.state.proofs.Running as Running
use Rattle.state.proofs.Running.{grew_less}

-- ---- Cells that were there
pub cell_kept : {w w' : List ℕ} {k : Kind} {c : ℕ} → AddsCells w w' → IsCell w k c → IsCell w' k c
cell_kept a i = cell_by a.said a.records i

pub ok_kept : {w w' : List ℕ} → AddsCells w w' → (t : Ty) → Ok w t → Ok w' t
ok_kept {w} {w'} a t o = ok_by w w' t (λ k c i. cell_kept a i) a.unknowns o

-- ---- No stretch, and one after another
pub more_trans : {w w' : List ℕ} {T T' T'' : Rows} → AddsCells w w' → More w T T' → More w' T' T'' → More w T T''
more_trans a p q = record { same = λ k c h. q.same k c (cell_kept a h) ∙ p.same k c h }

pub grew_refl : {w : List ℕ} {n m : ℕ} → Grew w w n m
grew_refl = grew_less (omega arith) (omega arith) Running.grew_refl

pub grew_trans : {u v w : List ℕ} {n m n' m' k l : ℕ} → n + n' ≤ k → m + m' ≤ l → Grew u v n m → Grew v w n' m' → Grew u w k l
grew_trans i j p q = grew_less i j (Running.grew_trans p q)
