-- A list of calls of which the law beside `unify` says something: one unknown is made, then it meets Int.
use mathlib.Core.List.{[], ◌∷◌}
use mathlib.Core.Logic.{◌↔◌}
use mathlib.Core.Path.{refl}
use Prim.Native.Nat.{ℕ}
use native.Mathlib.Decide.{dec_lt, ℕ_discrete}
use native.Mathlib.Omega.{arith}
use Rattle.unification.specs.Ty.{Int, Ty, leaf, Var}
use Rattle.unification.specs.Bindings.{with_left, with_history, fresh, set_var}
use Rattle.unification.specs.Unify.{unify}
use Rattle.unification.specs.Calls.{Respects, begin, unknown, Calls, none_yet, then_call}
use Rattle.unification.proofs.Reach.{admitted_leaf, admitted_free}
use Rattle.unification.proofs.Laws.{first_unknown, united}
use Rattle.plain_theory.specs.Answer.{answer}
use Rattle.plain_theory.specs.Claims.{Respected, Ends, AsUnify}
use Rattle.plain_theory.proofs.Answers.{as_unify}
use Rattle.std.specs.Prelude.{None}

calls_one : Calls 9 [] first_unknown
unfolding first_unknown
calls_one = then_call none_yet unknown

it_ends : Ends (unify first_unknown.state (Var 0) (leaf Int))
unfolding first_unknown unify
it_ends = tt

beside : AsUnify 8 first_unknown.state (Var 0) (leaf Int)
unfolding first_unknown begin fresh
beside = as_unify 8 9 [] first_unknown calls_one (Var 0) (leaf Int) (omega arith) tt it_ends

-- So the bindings of both are respected by the same substitutions.
both_mean : (σ : ℕ → Ty) → Respects σ united.subst ↔ Respected σ (record { unknown = 0; to = leaf Int } ∷ [])
unfolding united first_unknown begin fresh unify answer with_history set_var with_left dec_lt ℕ_discrete
both_mean σ = beside.bindings (admitted_free (None ∷ []) 0 refl) (admitted_leaf (None ∷ []) Int) united (record { unknown = 0; to = leaf Int } ∷ []) refl refl σ
