-- The words that a type, a pair and a binding are in the lent slice. Tokens of one or two words: what it is, and the number
-- that belongs to it. Read from the front, each tells how many types or cells must follow it, so no type has its length.
use Rattle.std.specs.Prelude.{List, [], ◌∷◌, ◌++◌, ℕ}
use Rattle.unification.specs.Ty.{Leaf, Int, String, Bytes, Fact, Kind, Record, Union, Ty, leaf, node, Var, Error, Row, ε, cell, row_len}
use Rattle.unification.specs.Robinson.{Equation}
use Rattle.plain_theory.specs.Plain.{Binding}

unfoldable pub leaf_spelled : Leaf → List ℕ
leaf_spelled Int = 1 ∷ []
leaf_spelled String = 2 ∷ []
leaf_spelled Bytes = 3 ∷ []
leaf_spelled (Fact p) = 4 ∷ p ∷ []

unfoldable pub kind_tag : Kind → ℕ
kind_tag Record = 5
kind_tag Union = 6

-- a field by its name; an alternative by its name and its discriminant
unfoldable pub head_spelled : Kind → ℕ → ℕ → List ℕ
head_spelled Record key label = 9 ∷ key ∷ []
head_spelled Union key label = 10 ∷ label ∷ 9 ∷ key ∷ []

unfoldable mutual
  unfolding leaf_spelled kind_tag head_spelled row_len

  pub spelled : Ty → List ℕ
  spelled (leaf p) = leaf_spelled p
  spelled (node k r) = kind_tag k ∷ row_len r ∷ row_spelled r k
  spelled (Var x) = 7 ∷ x ∷ []
  spelled Error = 8 ∷ []

  pub row_spelled : Row → Kind → List ℕ
  row_spelled ε k = []
  row_spelled (cell key label t r) k = head_spelled k key label ++ (spelled t ++ row_spelled r k)

unfoldable pub pairs_spelled : List Equation → List ℕ
unfolding spelled
pairs_spelled [] = []
pairs_spelled (p ∷ ps) = spelled p.left ++ (spelled p.right ++ pairs_spelled ps)

unfoldable pub bindings_spelled : List Binding → List ℕ
unfolding spelled
bindings_spelled [] = []
bindings_spelled (b ∷ bs) = 11 ∷ b.unknown ∷ (spelled b.to ++ bindings_spelled bs)
