-- The undo log in order: every change notes that nothing stood there before, and the log is as long as there are bound unknowns and annotated nodes.
use Rattle.std.specs.Prelude.{List, [], ◌∷◌, ◌≡◌, ℕ, suc, ◌+◌, length, None, Option, Some}
use Rattle.unification.specs.Ty.{Ty}
use Rattle.unification.specs.Bindings.{Subst, bound, Undo, Binding, Annotation, State}
use Rattle.unification.specs.Calls.{Side}
use Rattle.unification.specs.Acyclic.{Acyclic}

-- Well-formed bindings.
pub record Wf (s : Subst) : Type 0 where
  pub acyclic : Acyclic s
  pub sides : (x : ℕ) (t : Ty) → bound s x ≡ Some t → Side (length s) t

-- How many places of a list are taken.
unfoldable pub taken : List (Option Ty) → ℕ
taken [] = 0
taken (None ∷ s) = taken s
taken (Some t ∷ s) = suc (taken s)

-- Nothing stood there before.
abbrev pub Blank : Undo → Type 0
Blank (Binding x prev) = prev ≡ None
Blank (Annotation n prev) = prev ≡ None

abbrev pub AllBlank : List Undo → Type 0
AllBlank [] = Unit {0}
AllBlank (u ∷ us) = Blank u × AllBlank us

pub record Log (st : State) : Type 0 where
  pub wf : Wf st.subst
  pub blank : AllBlank st.undo
  pub exact : length st.undo ≡ taken st.subst + taken st.tys
