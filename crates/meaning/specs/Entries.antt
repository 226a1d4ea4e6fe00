-- The entries to `unify` of a run, as they were made in that run: what each was made from, and what it left.
use Rattle.std.specs.Prelude.{List, [], ◌∷◌, ◌++◌, ◌≡◌, ℕ, length, Option}
use Rattle.unification.specs.Ty.{Ty}
use Rattle.unification.specs.Bindings.{Subst, History, start, rolled, State}
use Rattle.unification.specs.Unify.{Unified, Ok, Err, Spent, unify}
use Rattle.unification.specs.Calls.{Side, Machine, Calls, UnifyEntry}
use Rattle.meaning.specs.Check.{Checker}

-- A unification ended, well or not, and left this state.
abbrev pub Leaves : Unified → State → Type 0
Leaves (Ok st) after = st ≡ after
Leaves (Err e st) after = st ≡ after
Leaves (Spent st) after = ⊥

-- An entry to `unify` that ended: a list of calls leads to the state that it is made from, its sides have the permitted form, and it left
-- a state.
pub record EntryLed (v : ℕ) (tys : List (Option Ty)) (e : UnifyEntry) : Type 0 where
  pub at : Machine
  pub calls : Calls v tys at
  pub before : at.state.subst ≡ e.before
  pub got : Side (length at.state.subst) e.got
  pub expected : Side (length at.state.subst) e.expected
  pub after : State
  pub ended : Leaves (unify at.state e.got e.expected) after

-- Entries, newest first, lead from one history to another: each is made in a state with the history of then, and what it left has the next;
-- between them are rollbacks alone. So the histories have nothing that no entry's own unification noted.
pub data EntriesLead (v : ℕ) (tys : List (Option Ty)) (from : History) : List UnifyEntry → History → Type 0 where
  no_entry : EntriesLead v tys from [] from
  rolled_back : {es : List UnifyEntry} {h : History} (past : History) (s s' : Subst) → EntriesLead v tys from es h
      → EntriesLead v tys from es (rolled past s s' h)
  then_entry : {es : List UnifyEntry} {h : History} {e : UnifyEntry} → EntriesLead v tys from es h → (led : EntryLed v tys e)
      → led.at.state.history ≡ h → EntriesLead v tys from (e ∷ es) led.after.history

-- The k-th entry, counted from 0, of a run that ended in a checker, as it was made in that run: the entries before it lead to the history of
-- its state, and those after it lead on, from the history of what it left, to the run's.
pub record EntryOfRun (v : ℕ) (tys : List (Option Ty)) (c : Checker) (k : ℕ) (e : UnifyEntry) : Type 0 where
  pub led : EntryLed v tys e
  pub older : List UnifyEntry
  pub newer : List UnifyEntry
  pub is : c.entries ≡ newer ++ e ∷ older
  pub count : length older ≡ k
  pub to_it : EntriesLead v tys start older led.at.state.history
  pub from_it : EntriesLead v tys led.after.history newer c.state.history
