-- What one entry does, the entries that it makes itself included: with the proviso what it demands of substitutions,
-- without it that no unknown leads back to itself. A binding is made only of a free unknown, so its success is one equation
-- more; its failure is the occurs check's.
use mathlib.Core.Bool.{Bool, true, false}
use mathlib.Core.List.{◌++◌, append-nil}
use mathlib.Core.Logic.{◌↔◌}
use mathlib.Core.Path.{◌≡◌, refl, sym, subst}
use Prim.Native.Nat.{ℕ, zero, suc, ◌-◌, ◌<◌}
use native.Mathlib.Decide.{ℕ_discrete}
use native.Mathlib.Omega.{arith}
use lib.Dec.{eqb}
use lib.ListN.{length, replicate, length-set}
use Rattle.unification.specs.Ty.{Leaf-discrete, Ty, leaf, node, Var, Error, app}
use Rattle.unification.specs.Order.{SameTy}
use Rattle.unification.specs.Bindings.{Subst, bound, repr, Answer, yes_left, no_left, spent, occurs, History, ended, State, with_left, set_var, Resolved}
use Rattle.unification.specs.Unify.{Unified, Ok, Err, Spent, bind_var, unify_nodes, unify_heads, note, unify_in, unify}
use Rattle.unification.specs.Calls.{Side, LeadsTo, itself, Admitted, Respects, live, EntryClaim, BindingsClaim, Noted}
use Rattle.unification.proofs.Tests.{clash}
use Rattle.unification.proofs.Order.{same_refl, same_sym, same_both}
use Rattle.unification.proofs.Reach.{admitted_bind, admitted_follow}
use Rattle.unification.proofs.Chain.{error_reaches, repr_resolved}
use Rattle.unification.proofs.Respects.{respects_bind, repr_same}
use Rattle.unification.proofs.Occurs.{occurs_never, occurs_no}
use Rattle.unification.specs.Log.{Wf}
use Rattle.unification.proofs.Sides.{side_follow, wf_bind}
use Rattle.unification.proofs.Kept.{After, heads_in, unify_in_spent, unify_in_visit}
use Rattle.unification.proofs.Post.{Any, Known, Step, Closing, Post, Inside, step_refl, stay, stop, under, loosen, Entry, nodes_post}
use Rattle.std.specs.Prelude.{None, Some}
use Rattle.std.proofs.lemmas.Bool.{eqb-true, eqb-false}

-- ---- Binding
set_var_step : (st : State) (x : ℕ) (t : Ty) → Wf st.subst → x < length st.subst → Side (length st.subst) t → ¬ LeadsTo st.subst t (Var x)
    → Step st.subst st.history (set_var st x t)
unfolding set_var
set_var_step st x t w lt side off = record {
  wf = wf_bind st.subst x t lt side off w;
  len = length-set st.subst x (Some t);
  moments = λ k. k.moments;
  older = λ a. a;
  held = λ σ m. m;
}

bind_var_post : (d : ℕ) (A : Type 0) (st : State) (x : ℕ) (t : Ty) → Wf st.subst → bound st.subst x ≡ None → Resolved st.subst t → ¬ (t ≡ Var x)
    → x < length st.subst → Side (length st.subst) t → (A → Admitted st.subst t)
    → Inside st.subst st.history A (λ σ. SameTy (σ x) (app σ t)) (bind_var d st x t)
unfolding bind_var set_var with_left BindingsClaim
bind_var_post d A st x t w free res n lt side a = go (occurs d st.subst x st.left t) refl
  where
    go : (o : Answer) → occurs d st.subst x st.left t ≡ o → Inside st.subst st.history A (λ σ. SameTy (σ x) (app σ t)) (bind_var d st x t)
    go (yes_left v) e = rw (e, bind_var) (record {
      step = step_refl (with_left st v) w;
      here = λ k. k.here;
      never = λ p σ R. occurs_never σ st.subst x d st.left t v res n R e;
    })
    go (no_left v) e = rw (e, bind_var) (record {
      step = set_var_step (with_left st v) x t w lt side (occurs_no st.subst x free w.acyclic d st.left t v e);
      bindings = λ k m p σ.
          let b = respects_bind σ st.subst x t lt free in
          let i = k.here.claim m σ tt in
          (λ R. let y = b.0 R in (y.1, i.0 y.0), λ y. b.1 (i.1 y.1, y.0));
      keeps = λ p u g. admitted_bind st.subst x t lt u (a p) g;
      same = λ p σ. respects_bind σ st.subst x t lt free;
    })
    go spent e = rw (e, bind_var) (record { step = step_refl (with_left st zero) w; here = λ k. k.here })

-- The same demand the other way round.
turn : (s : Subst) (h : History) (A : Type 0) (C D : (ℕ → Ty) → Type 0) (res : Unified) → ((σ : ℕ → Ty) → C σ ↔ D σ) → Inside s h A C res → Inside s h A D res
turn s h A C D (Ok b) i p = record {
  step = p.step;
  keeps = p.keeps;
  bindings = λ k m a σ. let e = p.bindings k m a σ in (λ R. let x = e.0 R in ((i σ).0 x.0, x.1), λ x. e.1 ((i σ).1 x.0, x.1));
  same = λ a σ. let e = p.same a σ in (λ R. let x = e.0 R in (x.0, (i σ).0 x.1), λ R. e.1 (R.0, (i σ).1 R.1));
}
turn s h A C D (Err e b) i p = record { step = p.step; here = p.here; never = λ a σ R d. p.never a σ R ((i σ).1 d) }
turn s h A C D (Spent b) i p = p

-- Beside Error the proviso does not hold.
beside_error : (s : Subst) (h : History) (A : Type 0) (C : (ℕ → Ty) → Type 0) (st : State) → ¬ A → Step s h st → Closing s h A C st
beside_error s h A C st no_way p = record { step = p; bindings = λ k m a. absurd (no_way a); keeps = λ a. absurd (no_way a); same = λ a. absurd (no_way a) }

-- ---- The two resolved sides
module _ (d : ℕ) (u : State → Ty → Ty → Unified) (rec : Entry u) (A : Type 0) (st : State) (w : Wf st.subst) where
  no_error : Admitted st.subst Error → ⊥
  unfolding Admitted
  no_error g = g Error itself

  -- The unknown on the right takes what is on the left.
  right_var : (a : Ty) (y : ℕ) → bound st.subst y ≡ None → Resolved st.subst a → ¬ (a ≡ Var y) → y < length st.subst
      → Side (length st.subst) a → (A → Admitted st.subst a)
      → Inside st.subst st.history A (λ σ. SameTy (app σ a) (σ y)) (bind_var d st y a)
  right_var a y free res n lt side p =
      turn st.subst st.history A (λ σ. SameTy (σ y) (app σ a)) _ (bind_var d st y a) (λ σ. (same_sym (σ y) (app σ a), same_sym (app σ a) (σ y)))
      (bind_var_post d A st y a w free res n lt side p)

  heads_post : (a b : Ty) → Resolved st.subst a → Resolved st.subst b → Side (length st.subst) a → Side (length st.subst) b
      → (A → Admitted st.subst a × Admitted st.subst b)
      → Inside st.subst st.history A (λ σ. SameTy (app σ a) (app σ b)) (unify_heads d u st a b)
  unfolding unify_heads app
  heads_post Error Error e f i j p = beside_error _ _ A _ st (λ q. no_error (p q).0) (step_refl st w)
  heads_post Error (leaf y) e f i j p = beside_error _ _ A _ st (λ q. no_error (p q).0) (step_refl st w)
  heads_post Error (node k r) e f i j p = beside_error _ _ A _ st (λ q. no_error (p q).0) (step_refl st w)
  heads_post Error (Var y) e f i j p = beside_error _ _ A _ (set_var st y Error) (λ q. no_error (p q).0)
      (set_var_step st y Error w j tt (error_reaches st.subst y))
  heads_post (leaf x) Error e f i j p = beside_error _ _ A _ st (λ q. no_error (p q).1) (step_refl st w)
  heads_post (node k r) Error e f i j p = beside_error _ _ A _ st (λ q. no_error (p q).1) (step_refl st w)
  heads_post (Var x) Error e f i j p = beside_error _ _ A _ (set_var st x Error) (λ q. no_error (p q).1)
      (set_var_step st x Error w i tt (error_reaches st.subst x))
  heads_post (Var x) (Var y) e f i j p = go (eqb x y) refl
    where
      go : (b : Bool) → eqb x y ≡ b → Inside st.subst st.history A (λ σ. SameTy (σ x) (σ y)) (unify_heads d u st (Var x) (Var y))
      go true q = rw (q, unify_heads) (loosen _ _ A _ (Ok st) (stay st A _ w (λ o σ. subst (λ (z : ℕ). SameTy (σ x) (σ z)) (eqb-true x y q) (same_refl (σ x)))))
      go false q = rw (q, unify_heads) (bind_var_post d A st x (Var y) w e f (λ o. eqb-false x y q (cc)) i j (λ o. (p o).1))
  heads_post (Var x) (leaf y) e f i j p = bind_var_post d A st x (leaf y) w e f (λ q. clash (cc)) i j (λ o. (p o).1)
  heads_post (Var x) (node k r) e f i j p = bind_var_post d A st x (node k r) w e f (λ q. clash (cc)) i j (λ o. (p o).1)
  heads_post (leaf x) (Var y) e f i j p = right_var (leaf x) y f e (λ q. clash (cc)) j i (λ o. (p o).0)
  heads_post (node k r) (Var y) e f i j p = right_var (node k r) y f e (λ q. clash (cc)) j i (λ o. (p o).0)
  heads_post (leaf x) (leaf y) e f i j p = go (Leaf-discrete ℕ_discrete x y) refl
    where
      go : (o : Dec (x ≡ y)) → Leaf-discrete ℕ_discrete x y ≡ o → Inside st.subst st.history A (λ σ. x ≡ y) (unify_heads d u st (leaf x) (leaf y))
      go (yes q) o = rw (o, unify_heads) (loosen _ _ A _ (Ok st) (stay st A _ w (λ g σ. q)))
      go (no n) o = rw (o, unify_heads) (stop st A _ w (λ g σ. n))
  heads_post (leaf x) (node k r) e f i j p = stop st A _ w (λ g σ c. c)
  heads_post (node k r) (leaf y) e f i j p = stop st A _ w (λ g σ c. c)
  heads_post (node k r) (node k' r') e f i j p = loosen _ _ A _ (unify_nodes u st k r k' r') (nodes_post u rec A st k r k' r' w i j p)

-- ---- An entry ends and is noted
pub noted_end : (s : Subst) → s ≡ s ++ replicate (length s - length s) None
noted_end s = let e : length s - length s ≡ 0 = omega arith in rw e (sym (append-nil s))

module _ (s : Subst) (h : History) (a b : Ty) where
  at_repr : (σ : ℕ → Ty) → Respects σ s → SameTy (app σ (repr s a)) (app σ (repr s b)) ↔ SameTy (app σ a) (app σ b)
  at_repr σ R =
      let p = repr_same σ s a R in
      let q = repr_same σ s b R in (
        same_both (app σ a) (app σ (repr s a)) (app σ b) (app σ (repr s b)) p q,
        same_both (app σ (repr s a)) (app σ a) (app σ (repr s b)) (app σ b) (same_sym (app σ a) (app σ (repr s a)) p) (same_sym (app σ b) (app σ (repr s b)) q),
      )

  note_post : (res : Unified) → Inside s h (Admitted s a × Admitted s b) (λ σ. SameTy (app σ (repr s a)) (app σ (repr s b))) res
      → Post s h (Admitted s a × Admitted s b) (λ σ. SameTy (app σ a) (app σ b)) (note s a b res)
  unfolding note EntryClaim BindingsClaim live Noted
  note_post (Ok st) p = record {
    step = record {
      wf = p.step.wf;
      len = p.step.len;
      moments = λ k. ((λ f g σ any. sem (f, g) σ), equal k, p.step.wf.acyclic, p.step.moments k);
      older = λ m. p.step.older m.2;
      held = λ σ m. p.step.held σ m.1;
    };
    here = λ k. record { noted = noted_end st.subst; claim = equal k };
    keeps = p.keeps;
    same = sem;
  }
    where
      sem : Admitted s a × Admitted s b → (σ : ℕ → Ty) → Respects σ st.subst ↔ (Respects σ s × SameTy (app σ a) (app σ b))
      sem g σ =
          let e = p.same g σ in
          (λ R. let x = e.0 R in (x.0, (at_repr σ x.0).0 x.1), λ R. e.1 (R.0, (at_repr σ R.0).1 R.1))

      equal : Known s h → BindingsClaim Any st.subst (ended s a b true st.subst st.history)
      equal k m σ any =
          let e = p.bindings k m.2 (m.0, m.1) σ in (
            λ R. (((sem (m.0, m.1) σ).0 R).1, (e.0 R).1),
            λ x. let R = (k.here.claim (p.step.older m.2) σ tt).1 (p.step.held σ x.1) in e.1 ((at_repr σ R).1 x.0, x.1),
          )
  note_post (Err e st) p = record {
    step = record {
      wf = p.step.wf;
      len = p.step.len;
      moments = λ k. ((λ f g σ any. sem (f, g) σ), (p.here k).claim, p.step.wf.acyclic, p.step.moments k);
      older = p.step.older;
      held = p.step.held;
    };
    here = λ k. record { noted = noted_end st.subst; claim = (p.here k).claim };
    never = sem;
  }
    where
      sem : Admitted s a × Admitted s b → (σ : ℕ → Ty) → Respects σ s → ¬ SameTy (app σ a) (app σ b)
      sem g σ R c = p.never g σ R ((at_repr σ R).1 c)
  note_post (Spent st) p = p

inner_post : (d : ℕ) → Entry (λ st a b. unify_in d st a b) → (st : State) (v : ℕ) (a b : Ty) → Wf st.subst → Side (length st.subst) a
    → Side (length st.subst) b
    → Inside st.subst st.history (Admitted st.subst a × Admitted st.subst b)
    (λ σ. SameTy (app σ (repr st.subst a)) (app σ (repr st.subst b))) (heads_in d st v a b)
unfolding heads_in with_left repr
inner_post d ih st v a b w i j =
    let s = st.subst in
    let k = suc (length s) in
    heads_post d (λ st' a' b'. unify_in d st' a' b') ih (Admitted s a × Admitted s b) (with_left st v) w (repr s a) (repr s b)
    (repr_resolved s w.acyclic a) (repr_resolved s w.acyclic b) (side_follow k s a w i) (side_follow k s b w j)
    (λ g. (admitted_follow k s a g.0, admitted_follow k s b g.1))

pub unify_in_post : (d : ℕ) → Entry (unify_in d)
unfolding unify_in
unify_in_post zero A st a b w i j p = record { step = step_refl st w; here = λ k. k.here }
unify_in_post (suc d) A st a b w i j p = go st.left refl (λ A' st' a' b'. unify_in_post d A' st' a' b')
  where
    go : (v : ℕ) → st.left ≡ v → Entry (λ st' a' b'. unify_in d st' a' b')
        → Post st.subst st.history A (λ σ. SameTy (app σ a) (app σ b)) (unify_in (suc d) st a b)
    go zero e ih = rw (unify_in_spent d st a b e) (record { step = step_refl st w; here = λ k. k.here })
    go (suc v) e ih =
        rw (unify_in_visit d st v a b e)
        (under st.subst st.history (Admitted st.subst a × Admitted st.subst b) A _ (note st.subst a b (heads_in d st v a b)) p
        (note_post st.subst st.history a b (heads_in d st v a b) (inner_post d ih st v a b w i j)))

pub unify_post : Entry unify
unfolding unify
unify_post A st a b w i j p = unify_in_post st.left A st a b w i j p

-- The bindings stay well-formed, without the proviso.
wf_after : (s : Subst) (h : History) (A : Type 0) (C : (ℕ → Ty) → Type 0) (res : Unified) → Post s h A C res → After (λ st. Wf st.subst) res
wf_after s h A C (Ok st) p = p.step.wf
wf_after s h A C (Err e st) p = p.step.wf
wf_after s h A C (Spent st) p = p.step.wf

pub unify_wf : (st : State) (a b : Ty) → Wf st.subst → Side (length st.subst) a → Side (length st.subst) b
    → After (λ st'. Wf st'.subst) (unify st a b)
unify_wf st a b w i j = wf_after _ _ _ _ (unify st a b) (unify_post (Admitted st.subst a × Admitted st.subst b) st a b w i j (λ p. p))
