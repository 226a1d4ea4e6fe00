-- `rollback`. Each turn takes the newest entry of the log back, in the words and in the state; what `rewind` gives of
-- the state before the loop is what it gives of the state reached, so at the mark nothing is left to take back.
use mathlib.Core.Bool.{Bool, true, false}
use mathlib.Core.List.{List, [], ◌∷◌}
use mathlib.Core.Path.{◌≡◌, refl, sym, ◌∙◌}
use Prim.Native.Nat.{ℕ, zero, suc, ◌+◌, ◌-◌, ◌*◌, ◌<◌, ◌≤◌}
use native.Mathlib.Omega.{arith}
use lib.Dec.{ltb}
use borrow.Author.Tests.{lt-ltb, ltb-true}
use lib.ListN.{length, get_or, set, length-set}
use lib.Seq.{get_or-set_same}
use Rattle.unification.specs.Ty as Tree
use Rattle.unification.specs.Bindings as Bindings
use Rattle.unification.specs.Bindings.{Subst, Undo, Binding, Annotation, History, rolled, State, revert, rewind}
use Rattle.work.specs.Layout.{TYS, UNDO-LEN, BINDINGS, UNDO, END}
use Rattle.cells.specs.Words.{pick, revert_w}
use Rattle.cells.specs.Stands.{Rows, entry_of, undo_of, Holds, Keeps}
use Rattle.cells.specs.Promises.{RollsBack}
use Rattle.cells.proofs.Frame.{keeps_refl, keeps_trans, keeps_set}
use Rattle.cells.proofs.Logged.{logged_unbind, logged_unannotate}
use Rattle.cells.proofs.Holding.{holds_history, undo_length, holds_log, unbind_holds, unannotate_holds}
use Rattle.std.specs.Prelude.{None, Option}

-- `rewind` takes the log that it is given, not that of the state.
rewind_log : (k : ℕ) (us : List Undo) (s : Subst) (tys : List (Option Tree.Ty)) (u v : List Undo) (l : ℕ) (h : History)
    → rewind k us (record { subst = s; tys = tys; undo = u; left = l; history = h }) ≡ rewind k us
    (record { subst = s; tys = tys; undo = v; left = l; history = h })
unfolding rewind revert
rewind_log zero us s tys u v l h = refl
rewind_log (suc k) [] s tys u v l h = refl
rewind_log (suc k) (Binding x p ∷ us) s tys u v l h = rewind_log k us (set s x p) tys u v l h
rewind_log (suc k) (Annotation n p ∷ us) s tys u v l h = rewind_log k us s (set tys n p) u v l h

-- what `rollback` to this mark takes back
abbrev back_to : ℕ → State → State
back_to mark st = rewind (length st.undo - mark) st.undo st

-- From the state before the loop to the state that the words stand for now, with n entries in the log.
pub record Back (w : List ℕ) (T : Rows) (st : State) (mark n : ℕ) : Type 0 where
  pub reached : State
  pub holds : Holds w T reached
  pub same : back_to mark st ≡ back_to mark reached
  pub log : get_or w UNDO-LEN 0 ≡ n

-- the words with the newest entry taken back
abbrev pub back_w : List ℕ → ℕ → List ℕ
back_w w n = set (revert_w w (get_or w (UNDO + n) 0)) UNDO-LEN n

module _ {w : List ℕ} {T : Rows} {st : State} (H : Holds w T st) (n : ℕ) (count : get_or w UNDO-LEN 0 ≡ suc n) (mark : ℕ) (above : mark < suc n) where
  newest : st.undo ≡ entry_of (get_or w (UNDO + n) 0) ∷ undo_of w n
  unfolding undo_of
  newest = H.undo ∙ rw count

  rewind_first : (u : Undo) → st.undo ≡ u ∷ undo_of w n → back_to mark st ≡ rewind (length (undo_of w n) - mark) (undo_of w n) (revert u st)
  unfolding rewind
  rewind_first u e =
      let more : length (u ∷ undo_of w n) - mark ≡ suc (length (undo_of w n) - mark) = omega (arith, undo_length w n) in
      rw (e, more)

  pop_count : (v : List ℕ) → length v ≡ length w → get_or (set v UNDO-LEN n) UNDO-LEN 0 ≡ n
  pop_count v e = get_or-set_same v UNDO-LEN n 0 (omega (arith, H.long))

  step : (e : ℕ) (b : Bool) → ltb e 65536 ≡ b → st.undo ≡ pick b (Binding e None) (Annotation (e - 65536) None) ∷ undo_of w n
      → Back (set (pick b (pick (ltb e 512) (set w (BINDINGS + 2 * e) 0) w) (pick (ltb (e - 65536) 512) (set w (TYS + 2 * (e - 65536)) 0) w)) UNDO-LEN
      n) T st mark n
  unfolding revert
  step e true q undo =
      let u = logged_unbind (rw undo at H.logged) in
      rw (lt-ltb e 512 (omega (arith, u.within, H.few_unknowns))) record {
        reached = record { subst = set st.subst e None; tys = st.tys; undo = undo_of w n; left = st.left; history = st.history };
        holds = unbind_holds H (undo_of w n) n refl u;
        same = rewind_first (Binding e None) undo ∙ rewind_log (length (undo_of w n) - mark) (undo_of w n) (set st.subst e None) st.tys st.undo
            (undo_of w n) st.left st.history;
        log = pop_count (set w (BINDINGS + 2 * e) 0) (length-set w (BINDINGS + 2 * e) 0);
      }
  step e false q undo =
      let u = logged_unannotate (rw undo at H.logged) in
      let m = e - 65536 in
      rw (lt-ltb m 512 (omega (arith, u.within, H.few_nodes))) record {
        reached = record { subst = st.subst; tys = set st.tys m None; undo = undo_of w n; left = st.left; history = st.history };
        holds = unannotate_holds H (undo_of w n) n refl u;
        same = rewind_first (Annotation m None) undo ∙ rewind_log (length (undo_of w n) - mark) (undo_of w n) st.subst (set st.tys m None)
            st.undo (undo_of w n) st.left st.history;
        log = pop_count (set w (TYS + 2 * m) 0) (length-set w (TYS + 2 * m) 0);
      }

  back_once : Back (back_w w n) T st mark n
  unfolding revert_w entry_of
  back_once = step (get_or w (UNDO + n) 0) (ltb (get_or w (UNDO + n) 0) 65536) refl newest

-- Whatever entry is read, it names a binding or a node type, or nothing is written.
back_keeps : (w : List ℕ) (n : ℕ) → Keeps TYS END w (back_w w n)
unfolding revert_w
back_keeps w n = keeps_trans (one (get_or w (UNDO + n) 0)) (keeps_set (revert_w w (get_or w (UNDO + n) 0)) UNDO-LEN n (omega arith) (omega arith))
  where
    one : (e : ℕ) → Keeps TYS END w (revert_w w e)
    one e = go (ltb e 65536) (ltb e 512) (ltb (e - 65536) 512) refl refl
      where
        go : (a b c : Bool) → ltb e 512 ≡ b → ltb (e - 65536) 512 ≡ c
            → Keeps TYS END w (pick a (pick b (set w (BINDINGS + 2 * e) 0) w) (pick c (set w (TYS + 2 * (e - 65536)) 0) w))
        go true true c p q = let h = ltb-true e 512 p in keeps_set w (BINDINGS + 2 * e) 0 (omega arith) (omega arith)
        go true false c p q = keeps_refl
        go false b true p q = let h = ltb-true (e - 65536) 512 q in keeps_set w (TYS + 2 * (e - 65536)) 0 (omega arith) (omega arith)
        go false b false p q = keeps_refl

-- ---- The loop
pub record Rolling (w₀ : List ℕ) (mark : ℕ) (w : List ℕ) (n : ℕ) : Type 0 where
  pub keeps : Keeps TYS END w₀ w
  pub to : (T : Rows) (st : State) → Holds w₀ T st → Back w T st mark n

pub roll_start : {w : List ℕ} {mark n : ℕ} → n ≡ get_or w UNDO-LEN 0 → Rolling w mark w n
roll_start e = record { keeps = keeps_refl; to = λ T st H. record { reached = st; holds = H; same = refl; log = sym e } }

module _ {w₀ : List ℕ} {mark : ℕ} {w : List ℕ} {n : ℕ} (g : Rolling w₀ mark w n) where
  pub roll_next : (w' : List ℕ) (m : ℕ) → n ≡ suc m → mark < n → w' ≡ back_w w m → Rolling w₀ mark w' m
  roll_next w' m e lt q = record { keeps = keeps_trans g.keeps (rw q (back_keeps w m)); to = λ T st H. one T st (g.to T st H) }
    where
      one : (T : Rows) (st : State) → Back w T st mark n → Back w' T st mark m
      one T st b =
          let c = back_once b.holds m (b.log ∙ e) mark (omega arith) in
          rw q record { reached = c.reached; holds = c.holds; same = b.same ∙ c.same; log = c.log }

  pub roll_end : n ≤ mark → RollsBack w₀ mark w
  unfolding Bindings.rollback rewind
  roll_end h = record { is = λ T st H past. one T st past (g.to T st H); keeps = g.keeps }
    where
      done : (T : Rows) (st : State) → Holds w T st → get_or w UNDO-LEN 0 ≡ n → Holds w T (back_to mark st)
      done T st H e =
          let None : length st.undo - mark ≡ 0 = omega (arith, holds_log H) in
          rw None H

      one : (T : Rows) (st : State) (past : History) → Back w T st mark n → Holds w T (Bindings.rollback st (record { undo = mark; past = past }))
      one T st past b =
          let H : Holds w T (back_to mark st) = rw b.same (done T b.reached b.holds b.log) in
          holds_history H (rolled past st.subst (back_to mark st).subst st.history)
