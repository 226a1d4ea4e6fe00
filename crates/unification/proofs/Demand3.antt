-- Demand 3, over every list of calls. Along the list the bindings stay well-formed and every clause holds so far; each
-- snapshot keeps the state of then, from which the present one is a stretch that a rollback undoes.
use mathlib.Core.Bool.{Bool, true, false}
use mathlib.Core.List.{List, [], ◌∷◌, ◌++◌, append_assoc}
use mathlib.Core.Path.{◌≡◌, refl, ◌∙◌, ap}
use mathlib.Core.WellFounded.Acc
use Prim.Native.Nat.{ℕ, ◌+◌, ◌-◌, ◌≤◌}
use native.Mathlib.Omega.{arith}
use lib.ListN.{length, replicate, length-append, length-replicate, replicate-append-replicate}
use Rattle.unification.specs.Ty.{Ty}
use Rattle.unification.specs.Bindings.{Subst, bound, History, start, ended, rolled, State, with_left, with_history, fresh, annotate, snapshot, rollback}
use Rattle.unification.specs.Unify.{Unified, Ok, Err, Spent, unify}
use Rattle.unification.specs.Calls.{Side, Admitted, Respects, Assignment, Taken, Machine, begin, take_snapshot, Call, unknown, unification, failure}
use Rattle.unification.specs.Calls.{snapping, rolling_back, spending, annotation, Calls, none_yet, then_call, live, EntryClaim, BindingsClaim, BackTo}
use Rattle.unification.specs.Calls.{bindings_at, Noted, AtEveryMoment, Claim, GivesBack, AllGiveBack, Demand3}
use Rattle.unification.proofs.Tests.{clash}
use Rattle.unification.specs.Acyclic.{Behind, Acyclic}
use Rattle.unification.proofs.Acyclic.{no_loop}
use Rattle.unification.proofs.Respects.{respects_among}
use Rattle.unification.specs.Log.{Wf}
use Rattle.unification.proofs.Sides.{bound_pad, pad_among, wf_pad}
use Rattle.unification.proofs.Undo.{unbind, unannotate, Since, since_refl, since_trans, since_length, since_fresh, since_left, since_annotate}
use Rattle.unification.proofs.Undo.{rollback_subst, rollback_tys, rollback_undo, rollback_left}
use Rattle.unification.proofs.Kept.{After, Kept, unify_kept}
use Rattle.unification.proofs.Post.{Any, Moments, Known, Post}
use Rattle.unification.proofs.Sound.{noted_end, unify_post}
use Rattle.std.specs.Prelude.{None, Option}

-- ---- What holds of a state
pub record Sound (st : State) : Type 0 where
  pub wf : Wf st.subst
  pub known : Known st.subst st.history

claim_pad : (s : Subst) (n : ℕ) (h : History) → BindingsClaim Any s h → BindingsClaim Any (s ++ replicate n None) h
unfolding BindingsClaim
claim_pad s n h c m σ any =
    let e = c m σ tt in (
      λ R. e.0 (respects_among σ s (s ++ replicate n None) (λ x t q. bound_pad s n x ∙ q) R),
      λ q. respects_among σ (s ++ replicate n None) s (pad_among s n) (e.1 q),
    )

-- Free unknowns after free unknowns.
pad_pad : (then s : Subst) (k n : ℕ) → s ≡ then ++ replicate k None → s ++ replicate n None ≡ then ++ replicate (k + n) None
pad_pad then s k n e =
    ap {B = Subst} (λ r. r ++ replicate n None) e ∙ append_assoc then (replicate k None) (replicate n None)
    ∙ ap {B = Subst} (λ r. then ++ r) (replicate-append-replicate k n None)

pad_length : (s : Subst) (n : ℕ) → length (s ++ replicate n None) ≡ length s + n
pad_length s n = omega (arith, length-append s (replicate n None), length-replicate {A = Option Ty} n None)

noted_long : (s : Subst) (h : History) → Noted s h → length (bindings_at h) ≤ length s
unfolding Noted
noted_long s h e = omega (arith, ap length e, pad_length (bindings_at h) (length s - length (bindings_at h)))

noted_pad : (s : Subst) (n : ℕ) (h : History) → Noted s h → Noted (s ++ replicate n None) h
unfolding Noted
noted_pad s n h e =
    let b = bindings_at h in
    let more : length s - length b + n ≡ length (s ++ replicate n None) - length b = omega (arith, pad_length s n, noted_long s h e) in
    pad_pad b s (length s - length b) n e ∙ ap {B = Subst} (λ k. b ++ replicate k None) more

sound_after : (st : State) (A : Type 0) (C : (ℕ → Ty) → Type 0) (res : Unified) → Sound st → Post st.subst st.history A C res → After Sound res
sound_after st A C (Ok b) h p = record { wf = p.step.wf; known = record { moments = p.step.moments h.known; here = p.here h.known } }
sound_after st A C (Err e b) h p = record { wf = p.step.wf; known = record { moments = p.step.moments h.known; here = p.here h.known } }
sound_after st A C (Spent b) h p = record { wf = p.step.wf; known = record { moments = p.step.moments h.known; here = p.here h.known } }

pub unify_sound : (st : State) (a b : Ty) → Sound st → Side (length st.subst) a → Side (length st.subst) b → After Sound (unify st a b)
unify_sound st a b h i j =
    sound_after st _ _ (unify st a b) h (unify_post (Admitted st.subst a × Admitted st.subst b) st a b h.wf i j (λ p. p))

begin_sound : (v : ℕ) (tys : List (Option Ty)) → Sound (begin v tys).state
unfolding begin BindingsClaim Respects live Acyclic Behind bound Noted
begin_sound v tys = record {
  wf = record { acyclic = λ x. Acc.intro x (λ y b. clash (cc b.1)); sides = λ x t e. clash (cc) };
  known = record { moments = tt; here = record { noted = refl; claim = λ m σ any. (λ R. tt, λ q x t e. clash (cc)) } };
}

fresh_sound : (st : State) → Sound st → Sound (fresh st)
unfolding fresh
fresh_sound st h =
    let here = h.known.here in
    record {
      wf = wf_pad st.subst 1 h.wf;
      known = record {
        moments = h.known.moments;
        here = record { noted = noted_pad st.subst 1 st.history here.noted; claim = claim_pad st.subst 1 st.history here.claim };
      };
    }

-- ---- A rollback
module _ (n : ℕ) (then st : State) (p : Since n then st) where
  -- The bindings of then, with those that were made since free.
  back_to_lem : Sound then → BackTo (bindings_at then.history) st.subst (rollback st (snapshot then)).subst
  unfolding BackTo Noted
  back_to_lem h =
      let s = then.subst in
      let b = bindings_at then.history in
      let e = h.known.here.noted in
      let more : length s - length b + n ≡ length st.subst - length b = omega (arith, since_length p, noted_long s then.history e) in
      rollback_subst p ∙ pad_pad b s (length s - length b) n e ∙ ap {B = Subst} (λ k. b ++ replicate k None) more

  rolled_sound : Sound then → Sound st → Sound (rollback st (snapshot then))
  unfolding rollback snapshot with_history BindingsClaim live Noted
  rolled_sound h now =
      let w = rw (← rollback_subst p) at (wf_pad then.subst n h.wf) in
      let c = rw (← rollback_subst p) at (claim_pad then.subst n then.history h.known.here.claim) in
      record {
        wf = w;
        known = record { moments = (back_to_lem h, now.known.here.noted, c, w.acyclic, now.known.moments); here = record { noted = noted_end _; claim = c } };
      }

  pub rolled_since : Since n then (rollback st (snapshot then))
  unfolding unbind unannotate
  rolled_since = record {
    new = [];
    undo = rollback_undo p;
    subst = λ k. rw (rollback_subst p) (append_assoc then.subst (replicate n None) (replicate k None) ∙ ap {B = Subst} (λ r. then.subst ++ r)
        (replicate-append-replicate n k None));
    tys = rollback_tys p;
    left = omega (arith, rollback_left p, p.left);
  }

-- ---- The snapshots

-- Each was taken in a state of which the one after it is a stretch.
abbrev Stack : State → List Taken → Type 0
Stack st [] = Unit {0}
Stack st (to ∷ ts) = (then : State) × (n : ℕ) × (to ≡ take_snapshot then) × Since n then st × Sound then × Stack then ts

stack_on : {n : ℕ} (st st' : State) (ts : List Taken) → Since n st st' → Stack st ts → Stack st' ts
stack_on st st' [] p h = tt
stack_on {n} st st' (to ∷ ts) p h = (h.0, h.1 + n, h.2, since_trans h.3 p, h.4, h.5)

stack_drop : (st : State) (newer ts : List Taken) → Stack st (newer ++ ts) → Stack st ts
stack_drop st [] ts h = h
stack_drop st (to ∷ newer) ts h = stack_on h.0 st ts h.3 (stack_drop h.0 newer ts h.5)

pub record Inv (m : Machine) : Type 0 where
  pub sound : Sound m.state
  pub stack : Stack m.state m.taken

rolled_inv : (st : State) (to : Taken) (older : List Taken) → Sound st → Stack st (to ∷ older)
    → Inv (record { state = rollback st to.at; taken = to ∷ older })
unfolding take_snapshot
rolled_inv st to older now h =
    rw h.2 (record {
      sound = rolled_sound h.1 h.0 st h.3 h.4 now;
      stack = (h.0, h.1, refl, rolled_since h.1 h.0 st h.3, h.4, h.5);
    })

-- A unification leaves a state that is sound and a stretch on.
united_inv : (st st' : State) (ts : List Taken) → Stack st ts → Sound st' → Kept st st' → Inv (record { state = st'; taken = ts })
united_inv st st' ts h now k = record { sound = now; stack = stack_on st st' ts k.since h }

call_inv : (m m' : Machine) → Call m m' → Inv m → Inv m'
unfolding with_left annotate
call_inv m m' unknown h = record {
  sound = fresh_sound m.state h.sound;
  stack = stack_on m.state (fresh m.state) m.taken (since_fresh m.state) h.stack;
}
call_inv m m' (unification a b {st} i j e) h =
    united_inv m.state st m.taken h.stack (rw e at (unify_sound m.state a b h.sound i j)) (rw e at (unify_kept m.state a b))
call_inv m m' (failure a b c {st} i j e) h =
    united_inv m.state st m.taken h.stack (rw e at (unify_sound m.state a b h.sound i j)) (rw e at (unify_kept m.state a b))
call_inv m m' snapping h = record { sound = h.sound; stack = (m.state, 0, refl, since_refl m.state, h.sound, h.stack) }
call_inv m m' (rolling_back newer older to e) h = rolled_inv m.state to older h.sound (stack_drop m.state newer (to ∷ older) (rw e at h.stack))
call_inv m m' (spending v le) h = record {
  sound = record { wf = h.sound.wf; known = h.sound.known };
  stack = stack_on m.state (with_left m.state v) m.taken (since_left m.state v le) h.stack;
}
call_inv m m' (annotation n t) h = record {
  sound = record { wf = h.sound.wf; known = h.sound.known };
  stack = stack_on m.state (annotate m.state n t) m.taken (since_annotate m.state n t) h.stack;
}

pub calls_inv : (v : ℕ) (tys : List (Option Ty)) (m : Machine) → Calls v tys m → Inv m
unfolding begin
calls_inv v tys m none_yet = record { sound = begin_sound v tys; stack = tt }
calls_inv v tys m (then_call {m = m₀} cs c) = call_inv m₀ m c (calls_inv v tys m₀ cs)

-- ---- The claim

-- Over all substitutions it holds, so it holds over those that any P picks.
module _ (P : (ℕ → Ty) → Type 0) where
  entry_claim : (s : Subst) (a b : Ty) (ok : Bool) (s' : Subst) → EntryClaim Any s a b ok s' → EntryClaim P s a b ok s'
  unfolding EntryClaim
  entry_claim s a b true s' c = λ f g σ p. c f g σ tt
  entry_claim s a b false s' c = λ f g σ p. c f g σ tt

  bindings_claim : (s : Subst) (h : History) → BindingsClaim Any s h → BindingsClaim P s h
  unfolding BindingsClaim
  bindings_claim s h c m σ p = c m σ tt

  every_moment : (h : History) → Moments h → AtEveryMoment P h
  every_moment start c = tt
  every_moment (ended s a b ok s' h) c = (entry_claim s a b ok s' c.0, bindings_claim s' _ c.1, no_loop s' c.2, every_moment h c.3)
  every_moment (rolled past s s' h) c = (c.0, c.1, bindings_claim s' _ c.2, no_loop s' c.3, every_moment h c.4)

  sound_claim : (st : State) → Sound st → Claim P st
  sound_claim st h = record {
    moments = every_moment st.history h.known.moments;
    noted = h.known.here.noted;
    bindings = bindings_claim st.subst st.history h.known.here.claim;
    no_loop = no_loop st.subst h.wf.acyclic;
  }

gives_back : (st : State) (ts : List Taken) → Stack st ts → AllGiveBack st ts
unfolding GivesBack BackTo take_snapshot
gives_back st [] h = tt
gives_back st (to ∷ ts) h =
    let then = h.0 in
    let n : h.1 ≡ length st.subst - length then.subst = omega (arith, since_length h.3) in
    (rw (h.2, ← n) (rollback_subst h.3), gives_back st ts (stack_on then st ts h.3 h.5))

-- A rollback gives the annotations of then back too.
abbrev pub AllGiveTypesBack : State → List Taken → Type 0
AllGiveTypesBack st [] = Unit {0}
AllGiveTypesBack st (to ∷ ts) = ((rollback st to.at).tys ≡ to.tys) × AllGiveTypesBack st ts

gives_types_back : (st : State) (ts : List Taken) → Stack st ts → AllGiveTypesBack st ts
unfolding take_snapshot
gives_types_back st [] h = tt
gives_types_back st (to ∷ ts) h = (rw h.2 (rollback_tys h.3), gives_types_back st ts (stack_on h.0 st ts h.3 h.5))

pub annotations_given_back : (v : ℕ) (tys : List (Option Ty)) (m : Machine) → Calls v tys m → AllGiveTypesBack m.state m.taken
annotations_given_back v tys m cs = gives_types_back m.state m.taken (calls_inv v tys m cs).stack

pub demand_3 : (v : ℕ) (tys : List (Option Ty)) (m : Machine) → Calls v tys m → Demand3 m
demand_3 v tys m cs =
    let inv = calls_inv v tys m cs in
    record {
      between_calls = sound_claim Assignment m.state inv.sound;
      at_the_limit = λ a b st i j e. sound_claim Assignment st (rw e at (unify_sound m.state a b inv.sound i j));
      gives_back = gives_back m.state m.taken inv.stack;
    }
