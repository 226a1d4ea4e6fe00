-- Steps of a unification: one that changes nothing, one that fails, one that sets an unknown, one that is another; and
-- a loop of them, of which is kept that what is to be done of the whole is what is left to do of the state reached.
use mathlib.Core.List.{List}
use mathlib.Core.Path.{◌≡◌, refl, sym, ◌∙◌, ap}
use Prim.Native.Nat.{ℕ, ◌-◌, ◌<◌, ◌≤◌}
use native.Mathlib.Omega.{arith}
use lib.ListN.{length, get_or}
use Rattle.unification.specs.Ty as Tree
use Rattle.unification.specs.Bindings as Bindings
use Rattle.unification.specs.Bindings.{bound, State}
use Rattle.unification.specs.Calls.{LeadsTo}
use Rattle.unification.specs.Unify as Unify
use Rattle.unification.specs.Unify.{and_then}
use Rattle.unification.proofs.Tests.{clash}
use Rattle.unification.specs.Quiet.{resting, Quiet, ends, stops}
use Rattle.unification.proofs.Quiet.{quiet_subst, unify_calm, errors_quiet}
use Rattle.work.specs.Layout.{UNKNOWNS, UNDO-LEN, END}
use Rattle.cells.specs.declared.Ty.{Ty}
use Rattle.cells.specs.declared.Ty.TheVariants.{Error}
use Rattle.cells.specs.declared.TyError.{TyError}
use Rattle.cells.specs.Words.{set_var_w}
use Rattle.cells.specs.Stands.{Rows, tree, Ok, Holds, Keeps}
use Rattle.cells.specs.Promises.{error_of, OkError, Stays, UnifyEnds, UnifyStep, SettledPair, Unifies, UnifiesNext, unified_left}
use Rattle.cells.proofs.Frame.{keeps_refl, keeps_trans}
use Rattle.cells.proofs.Holding.{holds_left, holds_history, holds_log, set_var_keeps, set_var_holds}
use Rattle.std.specs.Prelude.{Err, None, Some, Option, SomeIff, Result, ok_or, ℕ}
use Rattle.cells.specs.declared.Failure.{Failure}

-- ---- Ends
pub stay : {w : List ℕ} {T : Rows} {st : State} → Holds w T st → Stays w w T st
stay H = record { holds = H; keeps = keeps_refl }

pub stays_after : {u v w : List ℕ} {T : Rows} {st : State} → Keeps UNDO-LEN END u v → Stays v w T st → Stays u w T st
stays_after k s = record { holds = s.holds; keeps = keeps_trans k s.keeps }

pub ends_after : {u v : List ℕ} (w : List ℕ) (T : Rows) (r : Result ℕ Failure) (o : Unify.Unified) → Keeps UNDO-LEN END u v → UnifyEnds v w T r o
    → UnifyEnds u w T r o
unfolding UnifyEnds
ends_after w T r (Unify.Ok st) k e = (e.0, stays_after k e.1)
ends_after w T r (Unify.Err x st) k e = (e.0, e.1, e.2, stays_after k e.3)
ends_after w T r (Unify.Spent st) k e = (e.0, e.1, stays_after k e.2)

-- ---- Steps that do little
module _ {P : Rows → State → Type 0} {f : ℕ → Rows → State → Unify.Unified} {w : List ℕ} {left : ℕ} where
  pub goes_on : ((T : Rows) (st : State) (d : ℕ) → P T st → f d T st ≡ Unify.Ok st) → UnifyStep P f w left w (Result.Ok left)
  unfolding UnifyEnds
  goes_on e = record { is = λ T st H q p d h. rw (e T st d p) (ap Result.Ok (sym q), stay H); fewer = omega arith; keeps = keeps_refl }

  pub fails : (x : TyError) → ((T : Rows) (st : State) → P T st → OkError w x)
      → ((T : Rows) (st : State) (d : ℕ) → Holds w T st → P T st → f d T st ≡ Unify.Err (error_of T x) st) → UnifyStep P f w left w (Err (Failure.Bad x left))
  unfolding UnifyEnds
  fails x ok e = record {
    is = λ T st H q p d h. rw (e T st d H p) (x, ap (λ l. Err (Failure.Bad x l)) (sym q), record { is = refl; ok = ok T st p }, stay H);
    fewer = omega arith;
    keeps = keeps_refl;
  }

  pub is_other : {Q : Rows → State → Type 0} {g : ℕ → Rows → State → Unify.Unified} {w' : List ℕ} {r : Result ℕ Failure}
      → ((T : Rows) (st : State) → P T st → Q T st)
      → ((T : Rows) (st : State) (d : ℕ) → Holds w T st → P T st → f d T st ≡ g d T st) → UnifyStep Q g w left w' r → UnifyStep P f w left w' r
  is_other c e s = record { is = λ T st H q p d h. rw (e T st d H p) (s.is T st H q (c T st p) d h); fewer = s.fewer; keeps = s.keeps }

  pub sets : (x : ℕ) (t : Ty) (w' : List ℕ) → w' ≡ set_var_w w x t
      → ((T : Rows) (st : State) → P T st → Ok w t × (x < get_or w UNKNOWNS 0) × (bound st.subst x ≡ None) × (¬ LeadsTo st.subst (tree T t) (Tree.Var x)))
      → ((T : Rows) (st : State) (d : ℕ) → P T st → f d T st ≡ Unify.Ok (Bindings.set_var st x (tree T t))) → UnifyStep P f w left w' (Result.Ok left)
  unfolding UnifyEnds Bindings.set_var
  sets x t w' q c e = rw q record {
    is = λ T st H l p d h.
        let b = c T st p in
        let lt : x < length st.subst = omega (arith, H.binds.unknowns, b.1) in
        rw (e T st d p) (ap Result.Ok (sym l), record { holds = set_var_holds H x t lt b.2 b.0 b.3; keeps = set_var_keeps w x t });
    fewer = omega arith;
    keeps = set_var_keeps w x t;
  }

-- ---- A loop of steps

-- A step from a state of which K is known, to one of which K' is known.
pub record KnownStep (K : ℕ → Rows → State → Type 0) (Q : Rows → State → Type 0) (u : ℕ → Rows → State → Unify.Unified) (w : List ℕ) (left : ℕ) (w' : List ℕ)
    (K' : ℕ → Rows → State → Type 0) (r : Result ℕ Failure) : Type 0 where
  pub is : (T : Rows) (st : State) → Holds w T st → st.left ≡ left → Q T st → (d : ℕ) → left ≤ d → K d T st
      → UnifyEnds w w' T r (u d T st) × ((st' : State) → u d T st ≡ Unify.Ok st' → K' d T st')
  pub fewer : unified_left r ≤ left
  pub keeps : Keeps UNDO-LEN END w w'

pub known_step : {K : ℕ → Rows → State → Type 0} {Q : Rows → State → Type 0} {u : ℕ → Rows → State → Unify.Unified} {w : List ℕ} {left : ℕ} {w' : List ℕ}
    {r : Result ℕ Failure}
    → UnifyStep Q u w left w' r → KnownStep K Q u w left w' (λ d T s. Unit {0}) r
known_step S = record { is = λ T st H q k d h z. (S.is T st H q k d h, λ s e. tt); fewer = S.fewer; keeps = S.keeps }

-- The state that the words w stand for now, that the rest of the work from it is the whole, and what is known of it.
pub record Reached (w : List ℕ) (T : Rows) (rest : ℕ) (whole : Unify.Unified) (work : State → Unify.Unified) (K : State → Type 0) : Type 0 where
  pub state : State
  pub holds : Holds w T state
  pub visits : state.left ≡ rest
  pub same : whole ≡ work state
  pub known : K state

pub record Going (P : Rows → State → Type 0) (f : ℕ → Rows → State → Unify.Unified) (w₀ : List ℕ) (left : ℕ) (w : List ℕ) (rest : ℕ)
    (g : ℕ → Rows → State → Unify.Unified) (K : ℕ → Rows → State → Type 0) : Type 0 where
  pub fewer : rest ≤ left
  pub keeps : Keeps UNDO-LEN END w₀ w
  pub to : (T : Rows) (st : State) → Holds w₀ T st → st.left ≡ left → P T st → (d : ℕ) → left ≤ d → Reached w T rest (f d T st) (λ s. g d T s) (K d T)

pub go_start : {P : Rows → State → Type 0} {f g : ℕ → Rows → State → Unify.Unified} {w : List ℕ} {left : ℕ} {K : ℕ → Rows → State → Type 0}
    → ((T : Rows) (st : State) (d : ℕ) → Holds w T st → P T st → f d T st ≡ g d T st) → ((T : Rows) (st : State) (d : ℕ) → K d T st)
    → Going P f w left w left g K
go_start e k = record {
  fewer = omega arith;
  keeps = keeps_refl;
  to = λ T st H q p d h. record { state = st; holds = H; visits = q; same = e T st d H p; known = k T st d };
}

-- how a step that was good ended
good : (w w' : List ℕ) (T : Rows) (l : ℕ) (o : Unify.Unified) → UnifyEnds w w' T (Result.Ok l) o → (st : State) × (o ≡ Unify.Ok st) × (st.left ≡ l)
    × Stays w w' T st
unfolding UnifyEnds
good w w' T l (Unify.Ok st) e = (st, refl, cc e.0, e.1)
good w w' T l (Unify.Err x st) e = clash (cc e.1)
good w w' T l (Unify.Spent st) e = clash (cc e.0)

abbrev pub NotGood : Result ℕ Failure → Type 0
NotGood r = (l : ℕ) → r ≡ Result.Ok l → ⊥

-- what is not good ends the whole
cut : (w w' : List ℕ) (T : Rows) (r : Result ℕ Failure) → NotGood r → (o : Unify.Unified) (f : State → Unify.Unified) → UnifyEnds w w' T r o
    → UnifyEnds w w' T r (and_then o f)
unfolding UnifyEnds and_then
cut w w' T r x (Unify.Ok st) f e = absurd (x _ e.0)
cut w w' T r x (Unify.Err y st) f e = e
cut w w' T r x (Unify.Spent st) f e = e

module _ {P : Rows → State → Type 0} {f : ℕ → Rows → State → Unify.Unified} {w₀ : List ℕ} {left : ℕ} {w : List ℕ} {rest : ℕ}
    {g : ℕ → Rows → State → Unify.Unified} {K : ℕ → Rows → State → Type 0} (G : Going P f w₀ left w rest g K) where
  -- What is known of a state reached.
  abbrev pub Here : (Rows → State → ℕ → Type 0) → Type 0
  Here Q = (T : Rows) (st : State) → Holds w₀ T st → P T st → Keeps UNDO-LEN END w₀ w → (s : State) → Holds w T s → (d : ℕ) → Q T s d

  pub go_end : Here (λ T s d. g d T s ≡ Unify.Ok s) → UnifyStep P f w₀ left w (Result.Ok rest)
  unfolding UnifyEnds
  go_end e = record {
    is = λ T st H q p d h. let R = G.to T st H q p d h in rw (R.same, e T st H p G.keeps R.state R.holds d)
        (ap Result.Ok (sym R.visits), record { holds = R.holds; keeps = G.keeps });
    fewer = G.fewer;
    keeps = G.keeps;
  }

  pub go_fail : (x : TyError) → OkError w x → Here (λ T s d. g d T s ≡ Unify.Err (error_of T x) s) → UnifyStep P f w₀ left w (Err (Failure.Bad x rest))
  unfolding UnifyEnds
  go_fail x ok e = record {
    is = λ T st H q p d h.
        let R = G.to T st H q p d h in
        rw (R.same, e T st H p G.keeps R.state R.holds d)
        (x, ap (λ l. Err (Failure.Bad x l)) (sym R.visits), record { is = refl; ok = ok }, record { holds = R.holds; keeps = G.keeps });
    fewer = G.fewer;
    keeps = G.keeps;
  }

  -- A turn: a step, of which K' is known where it succeeds, and then the rest.
  module _ (g' : ℕ → Rows → State → Unify.Unified) {Q : Rows → State → Type 0} {u : ℕ → Rows → State → Unify.Unified} {w' : List ℕ} {r : Result ℕ Failure}
      {K' : ℕ → Rows → State → Type 0} (S : KnownStep K Q u w rest w' K' r)
      (has : Here (λ T s d. Q T s)) (turn : Here (λ T s d. g d T s ≡ and_then (u d T s) (λ s'. g' d T s'))) where
    ends_so : (T : Rows) (st : State) → Holds w₀ T st → P T st → (d : ℕ) → left ≤ d → (R : Reached w T rest (f d T st) (λ s. g d T s) (K d T))
        → UnifyEnds w w' T r (u d T R.state) × ((s' : State) → u d T R.state ≡ Unify.Ok s' → K' d T s')
    ends_so T st H p d h R = S.is T R.state R.holds R.visits (has T st H p G.keeps R.state R.holds d) d (omega (arith, G.fewer)) R.known

    pub go_next : (l : ℕ) → r ≡ Result.Ok l → Going P f w₀ left w' l g' K'
    unfolding and_then
    go_next l e = record {
      fewer = omega (arith, G.fewer, rw e at S.fewer);
      keeps = keeps_trans G.keeps S.keeps;
      to = λ T st H q p d h.
          let R = G.to T st H q p d h in
          let E = ends_so T st H p d h R in
          let D = good w w' T l (u d T R.state) (rw e at E.0) in
          record {
            state = D.0;
            holds = D.3.holds;
            visits = D.2;
            same = R.same ∙ turn T st H p G.keeps R.state R.holds d ∙ ap (λ (o : Unify.Unified). and_then o (λ s'. g' d T s')) D.1;
            known = E.1 D.0 D.1;
          };
    }

    pub go_stop : NotGood r → UnifyStep P f w₀ left w' r
    go_stop x = record {
      is = λ T st H q p d h.
          let R = G.to T st H q p d h in
          rw (R.same, turn T st H p G.keeps R.state R.holds d)
          (ends_after w' T r _ G.keeps (cut w w' T r x (u d T R.state) (λ s'. g' d T s') (ends_so T st H p d h R).0));
      fewer = omega (arith, G.fewer, S.fewer);
      keeps = keeps_trans G.keeps S.keeps;
    }

-- ---- The same two types again
pub settled_errors : (log d : ℕ) (T : Rows) (s : State) → SettledPair Error Error 1 log d T s
settled_errors log d T s = record { quiet = λ e st q h. errors_quiet d st h }

rested : {w : List ℕ} {T : Rows} {s : State} → Holds w T s → (v : ℕ) (h : Bindings.History) → Holds w T (resting s v h)
unfolding Bindings.with_left Bindings.with_history
rested H v h = holds_history (holds_left H v) h

-- Where nothing was bound since, they go as before.
pub next_again : {w : List ℕ} {a b : Ty} {left cost log : ℕ} → get_or w UNDO-LEN 0 ≡ log → (o : Option ℕ) → SomeIff o (cost ≤ left) (left - cost)
    → UnifiesNext w (SettledPair a b cost log) a b left w (SettledPair a b cost log) (ok_or o Failure.Spent)
unfolding UnifyEnds
next_again {w} {a} {b} {left} {cost} {log} same o m = record {
  is = λ T st H q k k' d h K. one T st H q d K (Unify.unify_in d st (tree T a) (tree T b)) (K.quiet (sym (holds_log H) ∙ same) st refl (omega arith)) o m;
  fewer = few o m;
  keeps = keeps_refl;
}
  where
    few : (o : Option ℕ) → SomeIff o (cost ≤ left) (left - cost) → unified_left (ok_or o Failure.Spent) ≤ left
    few None m = omega arith
    few (Some v) m = omega (arith, m.1)

    one : (T : Rows) (st : State) → Holds w T st → st.left ≡ left → (d : ℕ) → SettledPair a b cost log d T st → (u : Unify.Unified) → Quiet cost st u
        → (o : Option ℕ) → SomeIff o (cost ≤ left) (left - cost) → UnifyEnds w w T (ok_or o Failure.Spent) u
        × ((s : State) → u ≡ Unify.Ok s → SettledPair a b cost log d T s)
    one T st H q d K _ (ends v h l) (Some x) m =
        let same : x ≡ v = omega (arith, m.1) in
        ((ap Result.Ok same, stay (rested H v h)), λ s e. let same : resting st v h ≡ s = cc e in rw (← same) (record { quiet = K.quiet }))
    one T st H q d K _ (ends v h l) None m = absurd (m (omega arith))
    one T st H q d K _ (stops h l) (Some x) m = absurd (omega (arith, m.0))
    one T st H q d K _ (stops h l) None m = ((refl, refl, stay (rested H 0 h)), λ s e. clash (cc e))

-- What they cost when they were unified.
pub next_new : {K : ℕ → Rows → State → Type 0} {w w' : List ℕ} {a b : Ty} {left l cost log : ℕ} → Unifies w a b left w' (Result.Ok l)
    → log ≡ get_or w UNDO-LEN 0
    → cost ≡ left - l → UnifiesNext w K a b left w' (SettledPair a b cost log) (Result.Ok l)
unfolding UnifyEnds
next_new {K} {w} {w'} {a} {b} {left} {l} {cost} {log} U n c = record {
  is = λ T st H q k k' d h K. let E = U.is T st H q k k' d h in
      (E, λ s e. settled T st s d H q e (let F : UnifyEnds w w' T (Result.Ok l) (Unify.Ok s) = rw e at E in cc F.0));
  fewer = U.fewer;
  keeps = U.keeps;
}
  where
    settled : (T : Rows) (s s' : State) (d : ℕ) → Holds w T s → s.left ≡ left → Unify.unify_in d s (tree T a) (tree T b) ≡ Unify.Ok s' → l ≡ s'.left
        → SettledPair a b cost log d T s'
    settled T s s' d H v e v' = record {
      quiet = λ same.
          let long = holds_log H in
          let Q = (unify_calm d s.subst (tree T a) (tree T b)).quiet s s' refl e (omega arith) in
          let k : Q.0 ≡ cost = omega (arith, Q.1) in
          let before : s'.subst ≡ s.subst = quiet_subst Q.0 s s' (Unify.unify_in d s (tree T a) (tree T b)) (Q.2 s refl) e in
          λ st q h. rw (← k) (Q.2 st (q ∙ before));
    }

pub next_fails : {K K' : ℕ → Rows → State → Type 0} {w w' : List ℕ} {a b : Ty} {left : ℕ} {e : Failure} → Unifies w a b left w' (Err e)
    → UnifiesNext w K a b left w' K' (Err e)
unfolding UnifyEnds
next_fails {w} {w'} {e = x} U = record {
  is = λ T st H q k k' d h K. let E = U.is T st H q k k' d h in (E, λ s e. let F : UnifyEnds w w' T (Err x) (Unify.Ok s) = rw e at E in clash (cc F.0));
  fewer = U.fewer;
  keeps = U.keeps;
}
