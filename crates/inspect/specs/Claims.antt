-- What is claimed of the call, over the definitions alone (proofs/Promises.antt).
use Rattle.std.specs.Prelude.{List, ◌↔◌, ◌⊎◌, ◌≡◌, ℕ, ◌<◌, Option, Some}
use Rattle.unification.specs.Ty.{Ty}
use Rattle.unification.specs.Bindings.{State}
use Rattle.unification.specs.Unify.{Ok, unify}
use Rattle.unification.specs.Calls.{UnifyEntry, Admitted, Respects, Machine, Calls}
use Rattle.format.specs.Refusal.{Refusal, number}
use Rattle.meaning.specs.Outcome as Outcome
use Rattle.meaning.specs.Outcome.{decide}
use Rattle.plain_theory.specs.Plain.{Binding, Stage, needs, Along, start}
use Rattle.plain_theory.specs.Claims.{Respected, Ends, Fails}
use Rattle.entries.specs.Entries.{found, fewer, entry_at, OwnEntry}
use Rattle.inspect.specs.Inspect.{Success, Failure, ShutOut, Fewer, Refused, TooFewWords, decide_plain, refused_by}

-- Demand 3 admits both sides of an entry.
abbrev pub BothAdmitted : UnifyEntry → Type 0
BothAdmitted e = Admitted e.before e.got × Admitted e.before e.expected

-- A stage of the run from an entry on needs more words.
abbrev pub Overflows : ℕ → UnifyEntry → Type 0
Overflows lent e = (h : Stage) × Along (start e.before e.got e.expected) h × (lent < needs h)

module _ (file : List ℕ) (n words lent : ℕ) where
  -- The n-th entry is there, and P holds of it.
  abbrev pub There : (UnifyEntry → Type 0) → Type 0
  There P = (e : UnifyEntry) × (entry_at file n words ≡ found e) × P e

  -- Which answer is given where; each is one of these.
  pub record Exactly : Type 0 where
    pub refused : (r : Refusal) → (decide_plain file n words lent ≡ Refused r) ↔ (decide file words ≡ Outcome.turned_down r)
    pub fewer : (decide_plain file n words lent ≡ Fewer) ↔ (entry_at file n words ≡ fewer)
    pub shut_out : (decide_plain file n words lent ≡ ShutOut) ↔ There (λ e. ¬ BothAdmitted e)
    pub too_few : (decide_plain file n words lent ≡ TooFewWords) ↔ There (λ e. BothAdmitted e × Overflows lent e)
    -- by their numbers
    pub numbered : (i : ℕ) → (refused_by (decide_plain file n words lent) ≡ Some i)
        ↔ (((r : Refusal) × (decide file words ≡ Outcome.turned_down r) × (number r ≡ i)) ⊎ ((i ≡ 18) × There (λ e. BothAdmitted e × Overflows lent e)))

  -- The answer at an entry, beside `unify` from a state.
  pub record AsUnifyFrom (e : UnifyEntry) (st : State) : Type 0 where
    pub fails : BothAdmitted e → ¬ (decide_plain file n words lent ≡ TooFewWords)
        → (decide_plain file n words lent ≡ Failure) ↔ Fails (unify st e.got e.expected)
    pub bindings : BothAdmitted e → (after : State) (bs : List Binding) → unify st e.got e.expected ≡ Ok after
        → decide_plain file n words lent ≡ Success bs → (σ : ℕ → Ty) → Respects σ after.subst ↔ Respected σ bs

  -- From every state with the entry's bindings to which a list of calls leads and from which `unify` ends; so from the one in which the
  -- entry was made in the file's run.
  pub record BesideUnify (e : UnifyEntry) : Type 0 where
    pub every : (v : ℕ) (tys : List (Option Ty)) (m : Machine) → Calls v tys m → m.state.subst ≡ e.before
        → Ends (unify m.state e.got e.expected) → AsUnifyFrom e m.state
    pub own : (o : OwnEntry file n e) × AsUnifyFrom e o.made.led.at.state
