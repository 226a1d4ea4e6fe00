-- The table beside the definition, over all bytes.
use mathlib.Core.Path.{◌≡◌, refl, sym, ap}
use Prim.Native.Nat.{ℕ, ◌<◌, ◌≤◌}
use native.Mathlib.Omega.{arith}
use lib.Dec.{eqb, leb}
use lib.ListN.{get_or}
use borrow.Author.Tests.{eqb-true, leb-true}
use Rattle.std.specs.Prelude.{true, Some, None}
use Rattle.std.proofs.lemmas.Bool.{agree_below, agree_below_at}
use Rattle.format.specs.Lines.{digit}
use Rattle.sigla_hex.specs.declared.TheConstants.{VALUES}
use Rattle.sigla_hex.specs.Digits.{digit_w}
use Rattle.sigla_hex.proofs.Line.{is_digit_lem, no_digit}

pub value_is : (b : ℕ) → b < 256 → get_or VALUES b 0 ≡ digit_w b
unfolding digit_w
value_is b l = eqb-true _ _ (agree_below_at (λ k. eqb (get_or VALUES k 0) (digit_w k)) (λ _. true) 256 b refl l)

pub value_most : (b : ℕ) → b < 256 → get_or VALUES b 0 ≤ 16
value_most b l = leb-true _ _ (agree_below_at (λ k. leb (get_or VALUES k 0) 16) (λ _. true) 256 b refl l)

pub some : (b : ℕ) → digit_w b < 16 → Some (digit_w b) ≡ digit b
some b l = sym (is_digit_lem b l)

pub none : (b : ℕ) → 16 ≤ digit_w b → None ≡ digit b
none b l = sym (no_digit b l)

pub ruleset digit_values = (some, none)
