-- A unification that binds nothing.
use Rattle.std.specs.Prelude.{◌≡◌, ℕ, zero, ◌+◌, ◌<◌}
use Rattle.unification.specs.Bindings.{History, State}
use Rattle.unification.specs.Unify.{Unified, Ok, Spent}

-- The state with other visits left and another history.
abbrev pub resting : State → ℕ → History → State
resting st v h = record { subst = st.subst; tys = st.tys; undo = st.undo; left = v; history = h }

-- How something ends that binds nothing and costs k visits.
pub data Quiet (k : ℕ) (st : State) : Unified → Type 0 where
  ends : (v : ℕ) (h : History) → st.left ≡ v + k → Quiet k st (Ok (resting st v h))
  stops : (h : History) → st.left < k → Quiet k st (Spent (resting st zero h))
