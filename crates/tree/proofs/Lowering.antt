-- A number that stays where it is lower, and one that does not.
use mathlib.Core.Bool.{Bool, true, false}
use mathlib.Core.Path.{◌≡◌, refl}
use Prim.Native.Nat.{ℕ, ◌≤◌, ◌<◌}
use native.Mathlib.Omega.{arith}
use lib.Dec.{ltb}
use borrow.Author.Tests.{lt-ltb, le-ltb, ltb-true, ltb-false}
use Rattle.tree.specs.Nodes.{lower_w}

pub lower_stays : (x n : ℕ) → x < n → lower_w x n ≡ x
unfolding lower_w
lower_stays x n h = rw (lt-ltb x n h)

pub lower_zero : (x n : ℕ) → n ≤ x → lower_w x n ≡ 0
unfolding lower_w
lower_zero x n h = rw (le-ltb x n h)

pub lower_below : (x n : ℕ) → (n ≡ 0 → ⊥) → lower_w x n < n
lower_below x n h = go (ltb x n) refl
  where
    go : (t : Bool) → ltb x n ≡ t → lower_w x n < n
    go true e = let l = ltb-true x n e in rw (lower_stays x n l) l
    go false e = rw (lower_zero x n (ltb-false x n e)) (omega arith)
