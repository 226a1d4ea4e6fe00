-- Card 12 of the whole call: refused as the full check is, and by 18 exactly where a stage of the defined run needs more words than were lent;
-- at an entry that is there it fails exactly where `unify` fails, and the same assignments respect the bindings of both.
use mathlib.Core.List.{List}
use mathlib.Core.Logic.{◌↔◌, ◌⊎◌, inl, inr}
use mathlib.Core.Path.{◌≡◌, refl, sym, ap, ◌∙◌, subst}
use Prim.Native.Nat.{ℕ, ◌<◌}
use lib.ListN.{length, replicate}
use Rattle.unification.specs.Ty.{Ty}
use Rattle.unification.specs.Bindings.{State, Subst, zonk}
use Rattle.unification.specs.Unify.{Unified, Ok, Err, Spent, unify}
use Rattle.unification.specs.Calls.{UnifyEntry, Side, Admitted, Respects, Machine, Calls}
use Rattle.unification.specs.Acyclic.{Acyclic}
use Rattle.unification.proofs.Tests.{clash}
use Rattle.unification.proofs.Demand3.{calls_inv}
use Rattle.format.specs.Refusal.{Refusal, number}
use Rattle.meaning.specs.Entries.{Leaves, EntryLed}
use Rattle.meaning.specs.Outcome as Outcome
use Rattle.meaning.specs.Outcome.{max_visits, decide}
use Rattle.plain_theory.specs.Plain.{Binding, Stage, needs, Along, start}
use Rattle.plain_theory.specs.Answer as Solver
use Rattle.plain_theory.specs.Answer.{Pure, both, pure?, answer}
use Rattle.plain_theory.specs.Claims.{Ends, Fails, Respected}
use Rattle.plain_theory.proofs.Answers.{admitted_exactly, as_unify}
use Rattle.entries.specs.Entries.{Sought, found, fewer, turned_down, entry_at}
use Rattle.entries.proofs.Entries.{sought_refused, own_entry}
use Rattle.inspect.specs.Inspect.{Inspected, Success, Failure, ShutOut, Fewer, Refused, TooFewWords, told, inspected, decide_plain, refused_by}
use Rattle.inspect.specs.Claims.{BothAdmitted, Overflows, There, Exactly, AsUnifyFrom, BesideUnify}
use Rattle.std.specs.Prelude.{None, Option, Some}

-- ---- What the solver answers is no refusal of the reading

told_refused : (a : Solver.PlainAnswer) (r : Refusal) → ¬ (told a ≡ Refused r)
unfolding told
told_refused (Solver.Success bs) r e = clash (cc e)
told_refused Solver.Failure r e = clash (cc e)
told_refused Solver.ShutOut r e = clash (cc e)
told_refused Solver.TooFew r e = clash (cc e)

told_fewer : (a : Solver.PlainAnswer) → ¬ (told a ≡ Fewer)
unfolding told
told_fewer (Solver.Success bs) e = clash (cc e)
told_fewer Solver.Failure e = clash (cc e)
told_fewer Solver.ShutOut e = clash (cc e)
told_fewer Solver.TooFew e = clash (cc e)

told_too_few : (a : Solver.PlainAnswer) → (told a ≡ TooFewWords) ↔ (a ≡ Solver.TooFew)
unfolding told
told_too_few (Solver.Success bs) = (λ e. clash (cc e), λ e. clash (cc e))
told_too_few Solver.Failure = (λ e. clash (cc e), λ e. clash (cc e))
told_too_few Solver.ShutOut = (λ e. clash (cc e), λ e. clash (cc e))
told_too_few Solver.TooFew = (λ e. refl, λ e. refl)

told_shut_out : (a : Solver.PlainAnswer) → (told a ≡ ShutOut) ↔ (a ≡ Solver.ShutOut)
unfolding told
told_shut_out (Solver.Success bs) = (λ e. clash (cc e), λ e. clash (cc e))
told_shut_out Solver.Failure = (λ e. clash (cc e), λ e. clash (cc e))
told_shut_out Solver.ShutOut = (λ e. refl, λ e. refl)
told_shut_out Solver.TooFew = (λ e. clash (cc e), λ e. clash (cc e))

told_failure : (a : Solver.PlainAnswer) → (told a ≡ Failure) ↔ (a ≡ Solver.Failure)
unfolding told
told_failure (Solver.Success bs) = (λ e. clash (cc e), λ e. clash (cc e))
told_failure Solver.Failure = (λ e. refl, λ e. refl)
told_failure Solver.ShutOut = (λ e. clash (cc e), λ e. clash (cc e))
told_failure Solver.TooFew = (λ e. clash (cc e), λ e. clash (cc e))

told_success : (a : Solver.PlainAnswer) (bs : List Binding) → told a ≡ Success bs → a ≡ Solver.Success bs
unfolding told
told_success (Solver.Success cs) bs e = let same : cs ≡ bs = cc e in ap Solver.Success same
told_success Solver.Failure bs e = clash (cc e)
told_success Solver.ShutOut bs e = clash (cc e)
told_success Solver.TooFew bs e = clash (cc e)

refused_number : (x : Inspected) (i : ℕ) → (refused_by x ≡ Some i) ↔ (((r : Refusal) × (x ≡ Refused r) × (number r ≡ i)) ⊎ ((i ≡ 18) × (x ≡ TooFewWords)))
unfolding refused_by
refused_number (Success bs) i = (λ e. clash (cc e), λ h. elim h [ inl y ↦ clash (cc y.1) | inr y ↦ clash (cc y.1) ])
refused_number Failure i = (λ e. clash (cc e), λ h. elim h [ inl y ↦ clash (cc y.1) | inr y ↦ clash (cc y.1) ])
refused_number ShutOut i = (λ e. clash (cc e), λ h. elim h [ inl y ↦ clash (cc y.1) | inr y ↦ clash (cc y.1) ])
refused_number Fewer i = (λ e. clash (cc e), λ h. elim h [ inl y ↦ clash (cc y.1) | inr y ↦ clash (cc y.1) ])
refused_number (Refused r) i = (
  λ e. let same : number r ≡ i = cc e in inl (r, refl, same),
  λ h. elim h [ inl y ↦ (let same : r ≡ y.0 = cc y.1 in ap Some (ap number same ∙ y.2)) | inr y ↦ clash (cc y.1) ],
)
refused_number TooFewWords i = (
  λ e. let same : 18 ≡ i = cc e in inr (sym same, refl),
  λ h. elim h [ inl y ↦ clash (cc y.1) | inr y ↦ ap Some (sym y.0) ],
)

-- ---- At an entry

-- What the solver answers with the bindings of a state, beside `unify` from that state.
record Facts (lent : ℕ) (st : State) (s : Subst) (a b : Ty) : Type 0 where
  decided : Dec (Admitted s a × Admitted s b)
  shuts_out : (answer lent s a b ≡ Solver.ShutOut) ↔ (¬ (Admitted s a × Admitted s b))
  too_few : Admitted s a → Admitted s b → (answer lent s a b ≡ Solver.TooFew) ↔ ((h : Stage) × Along (start s a b) h × (lent < needs h))
  fails : Admitted s a → Admitted s b → ¬ (answer lent s a b ≡ Solver.TooFew) → (answer lent s a b ≡ Solver.Failure) ↔ Fails (unify st a b)
  bindings : Admitted s a → Admitted s b → (after : State) (bs : List Binding) → unify st a b ≡ Ok after → answer lent s a b ≡ Solver.Success bs
      → (σ : ℕ → Ty) → Respects σ after.subst ↔ Respected σ bs

-- A side is admitted or not.
admitted? : (s : Subst) → Acyclic s → (a b : Ty) → Dec (Admitted s a × Admitted s b)
admitted? s A a b = go (both (pure? (zonk s a)) (pure? (zonk s b)))
  where
    go : Dec (Pure (zonk s a) × Pure (zonk s b)) → Dec (Admitted s a × Admitted s b)
    go (yes h) = yes ((admitted_exactly s A a).1 h.0, (admitted_exactly s A b).1 h.1)
    go (no m) = no (λ h. m ((admitted_exactly s A a).0 h.0, (admitted_exactly s A b).0 h.1))

module _ (lent v : ℕ) (tys : List (Option Ty)) (m : Machine) (cs : Calls v tys m) (e : UnifyEntry) where
  facts_at : m.state.subst ≡ e.before → Side (length m.state.subst) e.got → Side (length m.state.subst) e.expected
      → Ends (unify m.state e.got e.expected) → Facts lent m.state e.before e.got e.expected
  facts_at before got expected ended =
      let A = (calls_inv v tys m cs).sound.wf.acyclic in
      let u = as_unify lent v tys m cs e.got e.expected got expected ended in
      subst (λ s. Facts lent m.state s e.got e.expected) before (record {
        decided = admitted? m.state.subst A e.got e.expected;
        shuts_out = u.shuts_out;
        too_few = u.too_few;
        fails = u.fails;
        bindings = u.bindings;
      })

-- What left a state has ended.
left_ends : (u : Unified) (after : State) → Leaves u after → Ends u
left_ends (Ok st) after h = tt
left_ends (Err x st) after h = tt
left_ends (Spent st) after h = absurd h

-- From the state in which the entry was made.
led : (lent v : ℕ) (tys : List (Option Ty)) (e : UnifyEntry) (h : EntryLed v tys e) → Facts lent h.at.state e.before e.got e.expected
led lent v tys e h = facts_at lent v tys h.at h.calls e h.before h.got h.expected (left_ends (unify h.at.state e.got e.expected) h.after h.ended)

-- ---- The whole

module _ (file : List ℕ) (n words lent : ℕ) where
  at_entry : (e : UnifyEntry) → entry_at file n words ≡ found e → decide_plain file n words lent ≡ told (answer lent e.before e.got e.expected)
  unfolding decide_plain inspected
  at_entry e q = ap (inspected lent) q

  there : (e : UnifyEntry) (q : entry_at file n words ≡ found e) → Facts lent (own_entry file n words e q).made.led.at.state e.before e.got e.expected
  there e q = let o = own_entry file n words e q in led lent max_visits (replicate (length o.query.nodes) None) e o.made.led

  -- An answer that neither the reading nor the count gives is the solver's, at an entry.
  by_entry : (x : Inspected) → ((r : Refusal) → ¬ (x ≡ Refused r)) → ¬ (x ≡ Fewer) → decide_plain file n words lent ≡ x
      → (e : UnifyEntry) × (entry_at file n words ≡ found e) × (told (answer lent e.before e.got e.expected) ≡ x)
  unfolding decide_plain inspected
  by_entry x notRefused notFewer h = go (entry_at file n words) refl h
    where
      go : (s : Sought) → entry_at file n words ≡ s → inspected lent s ≡ x
          → (e : UnifyEntry) × (entry_at file n words ≡ found e) × (told (answer lent e.before e.got e.expected) ≡ x)
      go (found e) q p = (e, q, p)
      go fewer q p = absurd (notFewer (sym p))
      go (turned_down r) q p = absurd (notRefused r (sym p))

  refused_exactly : (r : Refusal) → (decide_plain file n words lent ≡ Refused r) ↔ (decide file words ≡ Outcome.turned_down r)
  unfolding decide_plain inspected
  refused_exactly r = (
    λ e. (sought_refused file n words r).1 (go (entry_at file n words) e),
    λ e. ap (inspected lent) ((sought_refused file n words r).0 e),
  )
    where
      go : (s : Sought) → inspected lent s ≡ Refused r → s ≡ turned_down r
      go (found e) p = absurd (told_refused (answer lent e.before e.got e.expected) r p)
      go fewer p = clash (cc p)
      go (turned_down i) p = let same : i ≡ r = cc p in ap turned_down same

  fewer_exactly : (decide_plain file n words lent ≡ Fewer) ↔ (entry_at file n words ≡ fewer)
  unfolding decide_plain inspected
  fewer_exactly = (go (entry_at file n words), ap (inspected lent))
    where
      go : (s : Sought) → inspected lent s ≡ Fewer → s ≡ fewer
      go (found e) p = absurd (told_fewer (answer lent e.before e.got e.expected) p)
      go fewer p = refl
      go (turned_down i) p = clash (cc p)

  shut_out_exactly : (decide_plain file n words lent ≡ ShutOut) ↔ There file n words lent (λ e. ¬ BothAdmitted e)
  shut_out_exactly = (
    λ h. let y = by_entry ShutOut (λ r e. clash (cc e)) (λ e. clash (cc e)) h in
        (y.0, y.1, (there y.0 y.1).shuts_out.0 ((told_shut_out (answer lent y.0.before y.0.got y.0.expected)).0 y.2)),
    λ y. at_entry y.0 y.1
        ∙ (told_shut_out (answer lent y.0.before y.0.got y.0.expected)).1 ((there y.0 y.1).shuts_out.1 y.2),
  )

  too_few_exactly : (decide_plain file n words lent ≡ TooFewWords) ↔ There file n words lent (λ e. BothAdmitted e × Overflows lent e)
  too_few_exactly = (
    λ h. let y = by_entry TooFewWords (λ r e. clash (cc e)) (λ e. clash (cc e)) h in
        let few = (told_too_few (answer lent y.0.before y.0.got y.0.expected)).0 y.2 in
        (y.0, y.1, go y.0 (there y.0 y.1) few (there y.0 y.1).decided),
    λ y. at_entry y.0 y.1 ∙ (told_too_few (answer lent y.0.before y.0.got y.0.expected)).1
        (((there y.0 y.1).too_few y.2.0.0 y.2.0.1).1 y.2.1),
  )
    where
      go : (e : UnifyEntry) {st : State} → Facts lent st e.before e.got e.expected → answer lent e.before e.got e.expected ≡ Solver.TooFew
          → Dec (BothAdmitted e) → BothAdmitted e × Overflows lent e
      go e F few (yes h) = (h, (F.too_few h.0 h.1).0 few)
      go e F few (no m) = let shut = F.shuts_out.1 m in clash (cc (few, shut))

  pub exactly : Exactly file n words lent
  exactly = record {
    refused = refused_exactly;
    fewer = fewer_exactly;
    shut_out = shut_out_exactly;
    too_few = too_few_exactly;
    numbered = λ i. let m = refused_number (decide_plain file n words lent) i in (
      λ h. elim (m.0 h) [ inl y ↦ inl (y.0, (refused_exactly y.0).0 y.1, y.2) | inr y ↦ inr (y.0, too_few_exactly.0 y.1) ],
      λ h. m.1 (elim h [ inl y ↦ inl (y.0, (refused_exactly y.0).1 y.1, y.2) | inr y ↦ inr (y.0, too_few_exactly.1 y.1) ]),
    );
  }

  as_from : (e : UnifyEntry) → entry_at file n words ≡ found e → (st : State) → Facts lent st e.before e.got e.expected
      → AsUnifyFrom file n words lent e st
  as_from e q st F =
      let a = answer lent e.before e.got e.expected in
      let is = at_entry e q in
      record {
        fails = λ h few.
            let x = F.fails h.0 h.1 (λ p. few (is ∙ (told_too_few a).1 p)) in
            (λ p. x.0 ((told_failure a).0 (sym is ∙ p)), λ p. is ∙ (told_failure a).1 (x.1 p));
        bindings = λ h after bs ok p. F.bindings h.0 h.1 after bs ok (told_success a bs (sym is ∙ p));
      }

  pub beside_unify : (e : UnifyEntry) → entry_at file n words ≡ found e → BesideUnify file n words lent e
  beside_unify e q =
      let o = own_entry file n words e q in
      let l = o.made.led in
      record {
        every = λ v tys m cs before ended.
            let same : l.at.state.subst ≡ m.state.subst = l.before ∙ sym before in
            as_from e q m.state (facts_at lent v tys m cs e before (subst (λ s. Side (length s) e.got) same l.got)
            (subst (λ s. Side (length s) e.expected) same l.expected) ended);
        own = (o, as_from e q l.at.state (there e q));
      }
