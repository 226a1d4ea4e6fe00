-- What the program prints: the line of what was decided, and after a success each binding, in words.
use Rattle.std.specs.Prelude.{List, [], ◌∷◌, ◌++◌, ℕ, codes}
use Rattle.std.specs.Fmt.{decimal}
use Rattle.unification.specs.Ty.{Leaf, Int, String, Bytes, Fact, Kind, Record, Union, Ty, leaf, node, Var, Error, Row, ε, cell, row_len}
use Rattle.plain_theory.specs.Plain.{Binding}
use Rattle.inspect.specs.Inspect.{Inspected, Success, Failure, ShutOut, Fewer, Refused, TooFewWords, inspect_line}

-- ---- A type: a space before each of its words

unfoldable pub leaf_text : Leaf → List ℕ
leaf_text Int = codes " Int"
leaf_text String = codes " String"
leaf_text Bytes = codes " Bytes"
leaf_text (Fact p) = codes " fact " ++ decimal p

unfoldable pub kind_text : Kind → List ℕ
kind_text Record = codes " record "
kind_text Union = codes " union "

-- what stands before the type of a part: a field's name; an alternative's name and its discriminant
unfoldable pub part_text : Kind → ℕ → ℕ → List ℕ
part_text Record key label = codes " ." ++ decimal key
part_text Union key label = codes " |" ++ decimal label ++ codes " ." ++ decimal key

unfoldable mutual
  unfolding leaf_text kind_text part_text row_len

  pub type_text : Ty → List ℕ
  type_text (leaf p) = leaf_text p
  type_text (node k r) = kind_text k ++ decimal (row_len r) ++ parts_text k r
  type_text (Var x) = codes " ?" ++ decimal x
  type_text Error = codes " Error"

  pub parts_text : Kind → Row → List ℕ
  parts_text k ε = []
  parts_text k (cell key label t r) = part_text k key label ++ type_text t ++ parts_text k r

-- ---- Bindings, each in a line

unfoldable pub binding_line : Binding → List ℕ
unfolding type_text
binding_line b = codes "?" ++ decimal b.unknown ++ codes " =" ++ type_text b.to ++ codes "\n"

unfoldable pub bindings_text : List Binding → List ℕ
unfolding binding_line
bindings_text [] = []
bindings_text (b ∷ bs) = binding_line b ++ bindings_text bs

-- ---- The whole

unfoldable pub bound : Inspected → List Binding
bound (Success bs) = bs
bound Failure = []
bound ShutOut = []
bound Fewer = []
bound (Refused r) = []
bound TooFewWords = []

unfoldable pub inspect_text : Inspected → List ℕ
unfolding inspect_line bindings_text bound
inspect_text x = inspect_line x ++ bindings_text (bound x)
