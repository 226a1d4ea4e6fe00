-- The words stand for a run: what each step of the state does to it. A step changes the state, the environment or the
-- diagnostics; the words of the others are as they were.
use mathlib.Core.List.{List, map}
use mathlib.Core.Logic.{◌≢◌}
use mathlib.Core.Path.{◌≡◌, refl, sym, ap, ◌∙◌}
use native.Mathlib.Omega.{arith}
use Prim.Native.Nat.{ℕ, zero, suc, ◌+◌, ◌<◌, ◌≤◌}
use lib.ListN.{length, get_or, length-set}
use Rattle.unification.specs.Bindings as Bindings
use Rattle.unification.specs.Bindings.{State}
use Rattle.work.specs.Layout.{RECORD-COUNT, RECORD-FIELD-COUNT, ENV-LEN, DIAGNOSTIC-COUNT, UNKNOWNS, MARK-COUNT, UNUSED-COUNT, ENV, MARKS, UNUSED, TYS}
use Rattle.work.specs.Layout.{BINDINGS, END}
use Rattle.cells.specs.declared.Ty.{Ty}
use Rattle.cells.specs.Words.{annotate_w, fresh_w}
use Rattle.cells.specs.Stands.{Rows, tree, Ok, Holds, Keeps}
use Rattle.cells.specs.Inferred.{More}
use Rattle.cells.proofs.Frame.{keeps_refl, keeps_trans, keeps_wider, OldCells, more_refl, SameCells, keeps_cells, same_old}
use Rattle.cells.proofs.Elsewhere.{SameState, holds_same}
use Rattle.cells.proofs.Holding.{annotate_keeps, annotate_holds, fresh_keeps, fresh_other, fresh_length, fresh_cells, fresh_holds}
use Rattle.cells.proofs.Making.{adds_refl, adds_trans, same_adds}
use Rattle.format.specs.Sound.{Sound}
use Rattle.format.specs.File.{Described}
use Rattle.meaning.specs.Check.{Checker, with_state}
use Rattle.state.specs.Words.{env_of, numbers_of, unused_of}
use Rattle.state.specs.Runs.{span_of, Scopes, Runs, Grew}
use Rattle.state.proofs.Standing.{stands_more}
use Rattle.std.specs.Prelude.{None, Some}

-- ---- What was made
pub grew_refl : {w : List ℕ} → Grew w w 0 0
grew_refl = record { adds = adds_refl; keeps = keeps_refl; records = omega arith; fields = omega arith }

pub grew_trans : {u v w : List ℕ} {n m n' m' : ℕ} → Grew u v n m → Grew v w n' m' → Grew u w (n + n') (m + m')
grew_trans p q = record {
  adds = adds_trans p.adds q.adds;
  keeps = keeps_trans p.keeps q.keeps;
  records = omega (arith, p.records, q.records);
  fields = omega (arith, p.fields, q.fields);
}

pub grew_less : {w w' : List ℕ} {n m n' m' : ℕ} → n ≤ n' → m ≤ m' → Grew w w' n m → Grew w w' n' m'
grew_less a b g = record { adds = g.adds; keeps = g.keeps; records = omega (arith, g.records); fields = omega (arith, g.fields) }

-- No record was made.
pub same_grew : {w w' : List ℕ} {T : Rows} {st : State} → Holds w T st → SameCells w w' → Keeps RECORD-COUNT END w w' → Grew w w' 0 0
same_grew H S K = record {
  adds = same_adds H.cells.few_records H.cells.few_fields S;
  keeps = K;
  records = omega (arith, S.said RECORD-COUNT (omega arith));
  fields = omega (arith, S.said RECORD-FIELD-COUNT (omega arith));
}

-- ---- The lists that are read from other words
pub env_same : (w w' : List ℕ) (n : ℕ) → ((i : ℕ) → i < n → get_or w' (ENV + i) 0 ≡ get_or w (ENV + i) 0) → env_of w' n ≡ env_of w n
unfolding env_of
env_same w w' zero s = refl
env_same w w' (suc n) s = rw (s n (omega arith), env_same w w' n (λ i h. s i (omega arith)))

pub numbers_same : (from : ℕ) (w w' : List ℕ) (n : ℕ) → ((i : ℕ) → i < n → get_or w' (from + i) 0 ≡ get_or w (from + i) 0)
    → numbers_of from w' n ≡ numbers_of from w n
unfolding numbers_of
numbers_same from w w' zero s = refl
numbers_same from w w' (suc n) s = rw (s n (omega arith), numbers_same from w w' n (λ i h. s i (omega arith)))

-- The environment, the marks and what left are as they were.
pub record Unscoped (w w' : List ℕ) : Type 0 where
  pub env : get_or w' ENV-LEN 0 ≡ get_or w ENV-LEN 0
  pub marks : get_or w' MARK-COUNT 0 ≡ get_or w MARK-COUNT 0
  pub unused : get_or w' UNUSED-COUNT 0 ≡ get_or w UNUSED-COUNT 0
  pub at : (i : ℕ) → ENV ≤ i → i < TYS → get_or w' i 0 ≡ get_or w i 0

pub scopes_same : {w w' : List ℕ} {d : Described} {c c' : Checker} → Unscoped w w' → c'.env ≡ c.env → c'.marks ≡ c.marks → c'.unused ≡ c.unused
    → Scopes w d c → Scopes w' d c'
scopes_same {w} {w'} {d} U e m u S =
    let gone : unused_of w' (get_or w' UNUSED-COUNT 0) ≡ unused_of w (get_or w UNUSED-COUNT 0) =
    rw U.unused (numbers_same UNUSED w w' (get_or w UNUSED-COUNT 0) (λ i h. U.at (UNUSED + i) (omega arith) (omega (arith, S.few_unused)))) in
    record {
      env = e ∙ S.env ∙ sym (rw U.env (env_same w w' (get_or w ENV-LEN 0) (λ i h. U.at (ENV + i) (omega arith) (omega (arith, S.few_env)))));
      few_env = omega (arith, U.env, S.few_env);
      makers = rw e S.makers;
      marks = m ∙ S.marks ∙ sym (rw U.marks
          (numbers_same MARKS w w' (get_or w MARK-COUNT 0) (λ i h. U.at (MARKS + i) (omega arith) (omega (arith, S.few_marks)))));
      few_marks = omega (arith, U.marks, S.few_marks);
      unused = u ∙ S.unused ∙ ap (map (span_of d)) (sym gone);
      few_unused = omega (arith, U.unused, S.few_unused);
      left = rw gone S.left;
    }

-- ---- The state alone changed

-- All but the state is as it was.
pub record Quiet (w w' : List ℕ) : Type 0 where
  pub scopes : Unscoped w w'
  pub diagnostics : get_or w' DIAGNOSTIC-COUNT 0 ≡ get_or w DIAGNOSTIC-COUNT 0
  pub long : length w' ≡ length w

pub keeps_quiet : {a e : ℕ} {w w' : List ℕ} → TYS ≤ a → Keeps a e w w' → Quiet w w'
keeps_quiet lo k = record {
  scopes = record {
    env = k.below ENV-LEN (omega arith);
    marks = k.below MARK-COUNT (omega arith);
    unused = k.below UNUSED-COUNT (omega arith);
    at = λ i l h. k.below i (omega arith);
  };
  diagnostics = k.below DIAGNOSTIC-COUNT (omega arith);
  long = k.long;
}

pub runs_state : {f w w' : List ℕ} {T T' : Rows} {d : Described} {c : Checker} {st : State} → Sound d → Runs f w T d c → OldCells w w' → More w T T'
    → Quiet w w'
    → Holds w' T' st → length st.tys ≡ length c.state.tys → Runs f w' T' d (with_state c st)
unfolding with_state
runs_state {f} {w} {w'} {T} {T'} {d} {c} sound R O M Q H nodes = record {
  stands = stands_more w w' O.said M sound Q.long R.stands;
  holds = H;
  nodes = nodes ∙ R.nodes;
  scopes = scopes_same Q.scopes refl refl refl R.scopes;
  diagnostics = R.diagnostics ∙ sym Q.diagnostics;
  few_diagnostics = omega (arith, Q.diagnostics, R.few_diagnostics);
}

module _ {f w : List ℕ} {T : Rows} {d : Described} {c : Checker} (sound : Sound d) (R : Runs f w T d c) where
  -- Node types, bindings and the undo log are the only words that changed: `annotate`, `unify`, `rollback`.
  pub runs_slots : {w' : List ℕ} {st : State} → Keeps TYS END w w' → Holds w' T st → length st.tys ≡ length c.state.tys → Runs f w' T d (with_state c st)
  runs_slots K H nodes = runs_state sound R (same_old (keeps_cells (omega arith) K) R.holds.cells) more_refl (keeps_quiet (omega arith) K) H nodes

  pub grew_slots : {w' : List ℕ} → Keeps TYS END w w' → Grew w w' 0 0
  grew_slots K = same_grew R.holds (keeps_cells (omega arith) K) (keeps_wider (omega arith) (omega arith) K)

  pub annotate_runs : (n : ℕ) (t : Ty) → n < length c.state.tys → get_or c.state.tys n None ≡ None → Ok w t
      → Runs f (annotate_w w n t) T d (with_state c (Bindings.annotate c.state n (tree T t)))
  unfolding Bindings.annotate
  annotate_runs n t lt free o = runs_slots (annotate_keeps w n t) (annotate_holds R.holds n t lt free o) (length-set c.state.tys n (Some (tree T t)))

  -- ---- `fresh_var_id`
  module _ (few : length c.state.subst < 512) where
    pub fresh_word : (i : ℕ) → i ≢ UNKNOWNS → i < BINDINGS → get_or (fresh_w w) i 0 ≡ get_or w i 0
    fresh_word i n h = fresh_other R.holds few i n (λ q. omega arith)

    pub fresh_runs : Runs f (fresh_w w) T d (with_state c (Bindings.fresh c.state))
    unfolding Bindings.fresh
    fresh_runs = runs_state sound R (same_old (fresh_cells R.holds few) R.holds.cells) more_refl
        (record {
          scopes = record {
            env = fresh_word ENV-LEN (λ q. omega arith) (omega arith);
            marks = fresh_word MARK-COUNT (λ q. omega arith) (omega arith);
            unused = fresh_word UNUSED-COUNT (λ q. omega arith) (omega arith);
            at = λ i l h. fresh_word i (λ q. omega arith) (omega arith);
          };
          diagnostics = fresh_word DIAGNOSTIC-COUNT (λ q. omega arith) (omega arith);
          long = fresh_length R.holds few;
        })
        (fresh_holds R.holds few) refl

    pub fresh_grew : Grew w (fresh_w w) 0 0
    fresh_grew = same_grew R.holds (fresh_cells R.holds few) (fresh_keeps w)

-- ---- All but the state changed
pub runs_aside : {f w w' : List ℕ} {T : Rows} {d : Described} {c c' : Checker} → Sound d → Runs f w T d c → SameState w w' → c'.state ≡ c.state
    → Scopes w' d c' → length c'.diagnostics ≡ get_or w' DIAGNOSTIC-COUNT 0 → get_or w' DIAGNOSTIC-COUNT 0 ≤ 1536 → Runs f w' T d c'
runs_aside {w = w} {w'} sound R S state scopes diagnostics few_diagnostics = record {
  stands = stands_more w w' (λ i h. S.cells.said i (omega arith)) more_refl sound S.slots.long R.stands;
  holds = rw state (holds_same S R.holds);
  nodes = rw state R.nodes;
  scopes = scopes;
  diagnostics = diagnostics;
  few_diagnostics = few_diagnostics;
}
