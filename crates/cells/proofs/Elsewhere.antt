-- A change of words that the state is not read from: the environment, the diagnostics and their counts, or a new cell.
-- The words stand for the same state.
use mathlib.Core.List.{List}
use mathlib.Core.Path.{◌≡◌, sym, ◌∙◌, ap}
use Prim.Native.Nat.{ℕ, ◌+◌, ◌*◌, ◌<◌, ◌≤◌}
use native.Mathlib.Omega.{arith}
use lib.ListN.{length, get_or}
use Rattle.unification.specs.Bindings.{State}
use Rattle.work.specs.Layout.{UNKNOWNS, ENV, TYS, BINDINGS, UNDO, UNDO-LEN, END}
use Rattle.cells.specs.Words.{slot_w, bound_w}
use Rattle.cells.specs.Stands.{Rows, bound_tree, Cells, Holds, Keeps}
use Rattle.cells.specs.Inferred.{More}
use Rattle.cells.proofs.Frame.{OldCells, SameCells, same_old, more_refl, bound_more, ok_bound_old, cells_same, slot_same, bound_same, undo_same}
use Rattle.cells.proofs.Logged.{logged_length}
use Rattle.cells.proofs.Holding.{holds_log}

-- The words of bindings, node types and the undo log are as they were.
pub record SameSlots (w w' : List ℕ) : Type 0 where
  pub unknowns : get_or w' UNKNOWNS 0 ≡ get_or w UNKNOWNS 0
  pub at : (i : ℕ) → TYS ≤ i → i < END → get_or w' i 0 ≡ get_or w i 0
  pub long : length w' ≡ length w

-- Over rows that give the same trees the words stand for the same state.
pub holds_moved : {w w' : List ℕ} {T T' : Rows} {st : State} → OldCells w w' → SameSlots w w' → More w T T' → Cells w' T' → Holds w T st → Holds w' T' st
holds_moved {w} {w'} {T} {T'} {st} O S M C H = record {
  long = omega (arith, S.long, H.long);
  cells = C;
  binds = record {
    unknowns = H.binds.unknowns ∙ sym S.unknowns;
    at = λ x. H.binds.at x ∙ sym (ap (bound_tree T') (bound x) ∙ bound_more M (bound_w w x) (H.binds.ok x));
    ok = λ x. rw (bound x) (ok_bound_old O (bound_w w x) (H.binds.ok x));
  };
  types = record {
    at = λ n h. H.types.at n h ∙ sym (ap (bound_tree T') (type n h) ∙ bound_more M (slot_w w (TYS + 2 * n)) (H.types.ok n h));
    ok = λ n h. rw (type n h) (ok_bound_old O (slot_w w (TYS + 2 * n)) (H.types.ok n h));
  };
  undo = H.undo ∙ sym (rw (S.at UNDO-LEN (omega arith) (omega arith))
      (undo_same w w' (get_or w UNDO-LEN 0) (λ i h. S.at (UNDO + i) (omega arith) (omega (arith, few)))));
  logged = H.logged;
  acyclic = H.acyclic;
  few_unknowns = H.few_unknowns;
  few_nodes = H.few_nodes;
}
  where
    few : get_or w UNDO-LEN 0 ≤ 1024
    few = omega (arith, holds_log H, logged_length H.logged, H.few_unknowns, H.few_nodes)

    bound : (x : ℕ) → bound_w w' x ≡ bound_w w x
    bound x = bound_same w w' x S.unknowns (λ lt.
        let h : x < 512 = omega (arith, H.binds.unknowns, H.few_unknowns) in
        slot_same w w' (BINDINGS + 2 * x) (S.at (BINDINGS + 2 * x) (omega arith) (omega arith)) (S.at (BINDINGS + 2 * x + 1) (omega arith) (omega arith)))

    type : (n : ℕ) → n < length st.tys → slot_w w' (TYS + 2 * n) ≡ slot_w w (TYS + 2 * n)
    type n lt =
        let h : n < 512 = omega (arith, H.few_nodes) in
        slot_same w w' (TYS + 2 * n) (S.at (TYS + 2 * n) (omega arith) (omega arith)) (S.at (TYS + 2 * n + 1) (omega arith) (omega arith))

-- ---- The environment and the diagnostics
pub record SameState (w w' : List ℕ) : Type 0 where
  pub cells : SameCells w w'
  pub slots : SameSlots w w'

pub holds_same : {w w' : List ℕ} {T : Rows} {st : State} → SameState w w' → Holds w T st → Holds w' T st
holds_same S H = holds_moved (same_old S.cells H.cells) S.slots more_refl (cells_same S.cells H.cells) H

pub keeps_env : {a e : ℕ} {w w' : List ℕ} → ENV ≤ a → e ≤ TYS → Keeps a e w w' → SameState w w'
keeps_env lo hi k = record {
  cells = record {
    said = λ i h. k.below i (omega arith);
    made = λ i l h. k.below i (omega arith);
    unknowns = omega (arith, k.below UNKNOWNS (omega arith));
  };
  slots = record { unknowns = k.below UNKNOWNS (omega arith); at = λ i l h. k.above i (omega arith); long = k.long };
}
