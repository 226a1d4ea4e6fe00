-- The state at the start of a run: no unknown, no node typed, nothing logged. The words stand for it as soon as they
-- stand for the cells.
use mathlib.Core.List.{List, []}
use mathlib.Core.Path.{◌≡◌, refl, sym}
use mathlib.Core.WellFounded.Acc
use Prim.Native.Nat.{ℕ, ◌+◌, ◌*◌, ◌<◌, ◌≤◌}
use native.Mathlib.Omega.{arith}
use lib.ListN.{length, get_or, replicate, length-replicate}
use borrow.Author.Tests.{le-ltb}
use Rattle.unification.specs.Ty as Tree
use Rattle.unification.specs.Bindings.{bound, History, State}
use Rattle.unification.proofs.Tests.{clash}
use Rattle.unification.proofs.Sides.{bound_pad}
use Rattle.unification.specs.Acyclic.{Behind, Acyclic}
use Rattle.work.specs.Layout.{UNKNOWNS, TYS, UNDO-LEN, END}
use Rattle.cells.specs.Words.{slot_w, bound_w}
use Rattle.cells.specs.Stands.{Rows, Cells, undo_of, none_set, Holds}
use Rattle.cells.proofs.State.{slot_free}
use Rattle.std.specs.Prelude.{None, Option}

acyclic_none : Acyclic []
unfolding Acyclic Behind bound
acyclic_none x = Acc.intro x (λ y b. clash (cc b.1))

no_bound : (w : List ℕ) (x : ℕ) → get_or w UNKNOWNS 0 ≡ 0 → bound_w w x ≡ None
unfolding bound_w
no_bound w x e = rw (e, le-ltb x 0 (omega arith))

abbrev pub start_state : ℕ → ℕ → History → State
start_state n v h = record { subst = []; tys = replicate n None; undo = []; left = v; history = h }

pub start_holds : {w : List ℕ} {T : Rows} (n v : ℕ) (h : History) → END ≤ length w → n ≤ 512 → Cells w T → get_or w UNKNOWNS 0 ≡ 0 → get_or w UNDO-LEN 0 ≡ 0
    → ((i : ℕ) → i < n → get_or w (TYS + 2 * i) 0 ≡ 0) → Holds w T (start_state n v h)
unfolding bound undo_of
start_holds {w} {T} n v h long few C unknowns log free = record {
  long = long;
  cells = C;
  binds = record { unknowns = sym unknowns; at = λ x. rw (no_bound w x unknowns); ok = λ x. rw (no_bound w x unknowns) tt };
  types = record {
    at = λ i lt. rw (slot i lt) (bound_pad [] n i);
    ok = λ i lt. rw (slot i lt) tt;
  };
  undo = rw log;
  logged = none_set (λ x. refl) (λ i. bound_pad [] n i);
  acyclic = acyclic_none;
  few_unknowns = omega arith;
  few_nodes = omega (arith, length-replicate {A = Option Tree.Ty} n None);
}
  where
    slot : (i : ℕ) → i < length (replicate {A = Option Tree.Ty} n None) → slot_w w (TYS + 2 * i) ≡ None
    slot i lt = slot_free w (TYS + 2 * i) (free i (omega (arith, length-replicate {A = Option Tree.Ty} n None)))
