-- The items of a line, by the test that the code makes: none where no node is lower. A short line has none anyway.
use mathlib.Core.Bool.{Bool, true, false}
use mathlib.Core.Path.{◌≡◌, refl}
use Prim.Native.Nat.{ℕ, zero, suc, ◌+◌, ◌-◌, ◌*◌, ◌/◌, ◌<◌}
use native.Mathlib.Nat.{mul-div_cancel}
use native.Mathlib.Omega.{arith}
use lib.Dec.{eqb, ltb}
use borrow.Author.Tests.{le-ltb, ltb-true, eqb-true, eqb-false}
use Rattle.cells.specs.Words.{pick}
use Rattle.tree.specs.Nodes.{count_w}

module _ (size each below : ℕ) where
  pub no_items_first : eqb below 0 ≡ true → 0 ≡ count_w size each below
  unfolding count_w
  no_items_first e = go (ltb size 10)
    where
      go : (short : Bool) → 0 ≡ pick short 0 (pick (eqb below 0) 0 ((size - 10) / each))
      go true = refl
      go false = rw e

  pub items_there : 0 < each → eqb below 0 ≡ false → (size - 10) / each ≡ count_w size each below
  unfolding count_w
  items_there some_bytes_lem e = go (ltb size 10) refl
    where
      go : (short : Bool) → ltb size 10 ≡ short → (size - 10) / each ≡ pick short 0 (pick (eqb below 0) 0 ((size - 10) / each))
      go true h = let l = ltb-true size 10 h in let z : size - 10 ≡ 0 * each = omega (arith, l) in rw z (mul-div_cancel 0 some_bytes_lem)
      go false h = rw e

  pub items_some : 0 < count_w size each below → 0 < below
  unfolding count_w
  items_some h = go (ltb size 10) (eqb below 0) refl h
    where
      go : (short first : Bool) → eqb below 0 ≡ first → 0 < pick short 0 (pick first 0 ((size - 10) / each)) → 0 < below
      go true q e h = absurd (omega arith)
      go false true e h = absurd (omega arith)
      go false false e h = let n = eqb-false below 0 e in omega arith

  -- k items, each of so many bytes
  pub items_count : (k : ℕ) → 0 < each → size ≡ 10 + k * each → (0 < k → 0 < below) → count_w size each below ≡ k
  unfolding count_w
  items_count k some_bytes_lem long lower = rw (le-ltb size 10 (omega (arith, long))) (go (eqb below 0) refl)
    where
      none : (k : ℕ) → below ≡ 0 → (0 < k → 0 < below) → 0 ≡ k
      none zero e l = refl
      none (suc k) e l = absurd (omega (arith, l (omega arith)))

      go : (first : Bool) → eqb below 0 ≡ first → pick first 0 ((size - 10) / each) ≡ k
      go true e = none k (eqb-true below 0 e) lower
      go false e = let z : size - 10 ≡ k * each = omega (arith, long) in rw z (mul-div_cancel k some_bytes_lem)
