-- What is spelled takes the words that the definition counts.
use mathlib.Core.List.{List, [], ◌∷◌, ◌++◌}
use mathlib.Core.Path.{◌≡◌, refl}
use Prim.Native.Nat.{ℕ, ◌+◌, ◌*◌}
use native.Mathlib.Omega.{arith}
use lib.ListN.{length, length-append}
use Rattle.unification.specs.Ty.{Leaf, Int, String, Bytes, Fact, Kind, Record, Union, Ty, leaf, node, Var, Error, Row, ε, cell}
use Rattle.unification.specs.Robinson.{Equation}
use Rattle.plain_theory.specs.Plain.{Binding, Stage, leaf_words, head_words, words, row_words, pair_words, binding_words, sum, needs}
use Rattle.plain_theory.specs.Words.{leaf_spelled, head_spelled, spelled, row_spelled, pairs_spelled, bindings_spelled}

leaf_words_lem : (p : Leaf) → length (leaf_spelled p) ≡ leaf_words p
unfolding leaf_spelled leaf_words
leaf_words_lem Int = refl
leaf_words_lem String = refl
leaf_words_lem Bytes = refl
leaf_words_lem (Fact p) = refl

head_words_lem : (k : Kind) (key label : ℕ) → length (head_spelled k key label) ≡ head_words k
unfolding head_spelled head_words
head_words_lem Record key label = refl
head_words_lem Union key label = refl

mutual
  unfolding spelled words

  pub spelled_words : (t : Ty) → length (spelled t) ≡ words t
  spelled_words (leaf p) = leaf_words_lem p
  spelled_words (node k r) = omega (arith, row_words_lem r k)
  spelled_words (Var x) = refl
  spelled_words Error = refl

  row_words_lem : (r : Row) (k : Kind) → length (row_spelled r k) ≡ row_words r k
  row_words_lem ε k = refl
  row_words_lem (cell key label t r) k =
      omega (
        arith,
        head_words_lem k key label,
        spelled_words t,
        row_words_lem r k,
        length-append (head_spelled k key label) (spelled t ++ row_spelled r k),
        length-append (spelled t) (row_spelled r k),
      )

pairs_words : (ps : List Equation) → 2 * length (pairs_spelled ps) ≡ sum pair_words ps
unfolding pairs_spelled sum pair_words
pairs_words [] = refl
pairs_words (p ∷ ps) =
    omega (
      arith,
      pairs_words ps,
      spelled_words p.left,
      spelled_words p.right,
      length-append (spelled p.left) (spelled p.right ++ pairs_spelled ps),
      length-append (spelled p.right) (pairs_spelled ps),
    )

bindings_words : (bs : List Binding) → 2 * length (bindings_spelled bs) ≡ sum binding_words bs
unfolding bindings_spelled sum binding_words
bindings_words [] = refl
bindings_words (b ∷ bs) = omega (arith, bindings_words bs, spelled_words b.to, length-append (spelled b.to) (bindings_spelled bs))

-- A stage needs twice the words that its bindings and its pairs are.
pub needs_words : (g : Stage) → needs g ≡ 2 * (length (bindings_spelled g.bindings) + length (pairs_spelled g.pairs))
unfolding needs
needs_words g = omega (arith, pairs_words g.pairs, bindings_words g.bindings)
