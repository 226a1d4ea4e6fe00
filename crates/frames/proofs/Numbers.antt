-- Past the end every byte is 0, and so are the numbers made of them.
use mathlib.Core.Path.{◌≡◌}
use Prim.Native.Nat.{ℕ, ◌+◌, ◌≤◌}
use native.Mathlib.Omega.{arith}
use mathlib.Core.List.{List}
use lib.ListN.{length, get_or-eq_default}
use Rattle.frames.specs.Promises.{byte_w, half_w, full_w}

module _ (s : List ℕ) (i : ℕ) where
  pub byte_past : length s ≤ i → byte_w s i ≡ 0
  byte_past h = get_or-eq_default s 0 h

  pub half_past : length s ≤ i → half_w s i ≡ 0
  unfolding half_w
  half_past h = rw (byte_past h, get_or-eq_default s 0 {n = i + 1} (omega arith))

pub full_past : (s : List ℕ) (i : ℕ) → length s ≤ i → full_w s i ≡ 0
unfolding full_w
full_past s i h = rw (half_past s i h, half_past s (i + 2) (omega arith))
