-- What the script of tokens writes is what the definition spells.
use Rattle.std.proofs.Common.{◌≡◌, ℕ, List, ◌∷◌, Option, refl, ap}
use Rattle.unification.specs.Ty as Tree
use Rattle.unification.specs.Ty.{Row, ε, cell, row_len}
use Rattle.unification.specs.Bindings.{zonk}
use Rattle.cells.specs.declared.Ty.{Ty}
use Rattle.cells.specs.Stands.{tree}
use Rattle.writer.proofs.Writing.{writes_as}
use Rattle.resolving.specs.Scripts.{written, written_row, WritesTy}
use Rattle.plain_theory.specs.Words.{kind_tag, spelled, row_spelled}
use Rattle.spelling.specs.Tokens.{tokens, SpellsTy}

mutual
  unfolding tokens written spelled

  pub written_spelled : (t : Tree.Ty) → written tokens t ≡ spelled t
  written_spelled (Tree.leaf p) = refl
  written_spelled (Tree.node k r) = ap (λ (x : List ℕ). kind_tag k ∷ row_len r ∷ x) (row_spelled_lem r k)
  written_spelled (Tree.Var x) = refl
  written_spelled Tree.Error = refl

  row_spelled_lem : (r : Row) (k : Tree.Kind) → written_row tokens r k ≡ row_spelled r k
  row_spelled_lem ε k = refl
  row_spelled_lem (cell key label t r) k = rw (written_spelled t, row_spelled_lem r k)

module _ {w l : List ℕ} {at : ℕ} {t : Ty} {l' : List ℕ} {r : Option ℕ} where
  pub spells : WritesTy tokens w l at t l' r → SpellsTy w l at t l' r
  spells f = record { is = λ T s R o. writes_as (written_spelled (zonk s (tree T t))) (f.is T s R o); moves = f.moves }
