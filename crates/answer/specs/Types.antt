-- What is written of a type in hand: the digits of the bytes of meaning/specs/Answer.antt, of the type with every bound
-- unknown replaced.
use Rattle.std.specs.Prelude.{List, [], ◌∷◌, ℕ, ◌≤◌, length, Option}
use Rattle.std.proofs.Common.{arith}
use Rattle.unification.specs.Bindings.{Subst, zonk}
use Rattle.cells.specs.declared.Ty.{Ty}
use Rattle.cells.specs.declared.Ty.TheVariants.{Int, Str, Bytes, Fact, Record, Union, Var, Error}
use Rattle.cells.specs.Stands.{Rows, tree, Ok}
use Rattle.format.specs.Bytes.{bytes₂}
use Rattle.meaning.specs.Answer.{leaf_bytes, kind_byte, ty_bytes, cell_head}
use Rattle.writer.specs.Writes.{Writes, Moves, hex_of}
use Rattle.resolving.specs.Scripts.{Script, head_of, Resolves}

unfoldable pub digits : Script ℕ
unfolding hex_of bytes₂ leaf_bytes kind_byte cell_head
digits = record {
  leaf = λ p. hex_of (leaf_bytes p);
  node = λ k n. hex_of (kind_byte k ∷ bytes₂ n);
  unknown = λ x. hex_of (6 ∷ bytes₂ x);
  error = hex_of (7 ∷ []);
  part = λ k key label. hex_of (cell_head k key label);
}

pub head_some : (w : List ℕ) (u : Ty) → 1 ≤ length (head_of digits w u)
unfolding digits hex_of leaf_bytes
head_some w Int = omega arith
head_some w Str = omega arith
head_some w Bytes = omega arith
head_some w (Fact p) = omega arith
head_some w (Record c) = omega arith
head_some w (Union c) = omega arith
head_some w (Var x) = omega arith
head_some w Error = omega arith

pub record WritesHexTy (w out : List ℕ) (at : ℕ) (t : Ty) (out' : List ℕ) (r : Option ℕ) : Type 0 where
  pub is : (T : Rows) (s : Subst) → Resolves w T s → Ok w t → Writes out at (hex_of (ty_bytes (zonk s (tree T t)))) out' r
  pub moves : Moves out at out' r
