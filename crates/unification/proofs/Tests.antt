-- Two constructors are not equal.
use mathlib.Core.Path.{◌≡◌}
use Prim.Native.Nat.{ℕ}
use native.Mathlib.Omega.{arith}

-- Written `clash (cc)`.
pub clash {ℓ} : {A : Type ℓ} → ◌≡◌ {A = ℕ} 0 1 → A
clash e = absurd (omega arith)
