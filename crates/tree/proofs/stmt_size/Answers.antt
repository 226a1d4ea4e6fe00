-- `tree::stmt_size` meets its contract: the tag byte picks the size as `stmt_size_w` picks.
use mathlib.Core.Path.{◌≡◌, refl}
use Prim.Native.Nat.{ℕ, zero, suc, ◌<◌, ◌≤◌}
use native.Mathlib.Omega.{arith}
use lib.Dec.{eqb}
use borrow.Author.Tests.{ne_eqb}
use Rattle.cells.specs.Words.{pick}
use Rattle.tree.specs.Nodes.{stmt_size_w}
use Rattle.tree.proofs.stmt_size.Goals as goal

one_or_two : (x : ℕ) → 1 ≤ x → x < 3 → ◌≡◌ {A = ℕ} 6 (pick (eqb x 1) 6 (pick (eqb x 2) 6 10))
one_or_two zero l h = absurd (omega arith)
one_or_two (suc zero) l h = refl
one_or_two (suc (suc zero)) l h = refl
one_or_two (suc (suc (suc x))) l h = absurd (omega arith)

pub returns-in-1 : goal.returns-in-1
unfolding stmt_size_w
returns-in-1 c = rw (← c.hex_byte-tag.ensures.0) (one_or_two c.hex_byte-tag.result (omega arith) (omega arith))

pub returns-in_default : goal.returns-in_default
unfolding stmt_size_w
returns-in_default c = rw (← c.hex_byte-tag.ensures.0, ne_eqb c.hex_byte-tag.result 1 (λ q. omega arith), ne_eqb c.hex_byte-tag.result 2 (λ q. omega arith))

pub returns-in_default-2 : goal.returns-in_default-2
unfolding stmt_size_w
returns-in_default-2 c = rw (← c.hex_byte-tag.ensures.0, ne_eqb c.hex_byte-tag.result 1 (λ q. omega arith), ne_eqb c.hex_byte-tag.result 2 (λ q. omega arith))
