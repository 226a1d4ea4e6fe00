-- What the script of digits writes are the digits of the definition's bytes.
use Rattle.std.proofs.Common.{◌≡◌, ℕ, List, ◌∷◌, ◌++◌, Option, refl, sym, ap, ◌∙◌, append_assoc}
use Rattle.unification.specs.Ty as Tree
use Rattle.unification.specs.Ty.{Row, ε, cell, row_len}
use Rattle.unification.specs.Bindings.{zonk}
use Rattle.cells.specs.declared.Ty.{Ty}
use Rattle.cells.specs.Stands.{tree}
use Rattle.format.specs.Bytes.{bytes₂}
use Rattle.meaning.specs.Answer.{kind_byte, cell_head, ty_bytes, row_bytes}
use Rattle.writer.specs.Writes.{hex_of}
use Rattle.writer.proofs.Writing.{writes_as}
use Rattle.writer.proofs.Digits.{hex_append}
use Rattle.resolving.specs.Scripts as Scripts
use Rattle.resolving.specs.Scripts.{written, written_row}
use Rattle.answer.specs.Types.{digits, WritesHexTy}

mutual
  unfolding digits written ty_bytes hex_of

  written_hex : (t : Tree.Ty) → written digits t ≡ hex_of (ty_bytes t)
  written_hex (Tree.leaf p) = refl
  written_hex (Tree.node k r) =
      let head = kind_byte k ∷ bytes₂ (row_len r) in
      ap (λ (x : List ℕ). hex_of head ++ x) (row_hex r k) ∙ sym (hex_append head (row_bytes r k))
  written_hex (Tree.Var x) = refl
  written_hex Tree.Error = refl

  row_hex : (r : Row) (k : Tree.Kind) → written_row digits r k ≡ hex_of (row_bytes r k)
  row_hex ε k = refl
  row_hex (cell key label t r) k =
      let head = cell_head k key label in
      rw (written_hex t, row_hex r k, hex_append (head ++ ty_bytes t) (row_bytes r k), hex_append head (ty_bytes t), append_assoc)

module _ {w out : List ℕ} {at : ℕ} {t : Ty} {out' : List ℕ} {r : Option ℕ} where
  pub in_digits : Scripts.WritesTy digits w out at t out' r → WritesHexTy w out at t out' r
  in_digits f = record { is = λ T s R o. writes_as (written_hex (zonk s (tree T t))) (f.is T s R o); moves = f.moves }
