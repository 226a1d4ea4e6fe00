-- The bytes of the answer (document 01, "Frame lines", "The answer"): for each node a line 07, for each diagnostic a line
-- 08 and one 0a with the text of its message, in lower-case hexadecimal, each closed by LF. Then card 9's lines 0c and card 7's 09.
use Rattle.std.specs.Prelude.{ℕ, suc, None, Option, Some}
use mathlib.Core.List.{List, [], ◌∷◌, ◌++◌}
use Rattle.unification.specs.Ty.{Leaf, Kind, Ty, Row, row_len}
use Rattle.format.specs.Bytes.{bytes₂, bytes₄, hex_line, ascii}
use Rattle.format.specs.Syntax.{Span}
use Rattle.meaning.specs.Diag.{Message, Diagnostic, as_str, code_of}
use Rattle.meaning.specs.Check.{Typed}

-- A type is written as a schema type is, but a record and a union have a count after the shape byte, and inner types
-- stand in place of references. In a record a cell's key is its name; in a union the key is the discriminant and the
-- label is the name.
unfoldable pub leaf_bytes : Leaf → List ℕ
unfolding bytes₄
leaf_bytes Leaf.Int = 0 ∷ []
leaf_bytes Leaf.String = 1 ∷ []
leaf_bytes Leaf.Bytes = 2 ∷ []
leaf_bytes (Leaf.Fact p) = 3 ∷ bytes₄ p

unfoldable pub kind_byte : Kind → ℕ
kind_byte Kind.Record = 4
kind_byte Kind.Union = 5

unfoldable pub cell_head : Kind → ℕ → ℕ → List ℕ
unfolding bytes₂ bytes₄
cell_head Kind.Record name label = bytes₂ name
cell_head Kind.Union disc name = bytes₂ name ++ bytes₄ disc

unfoldable mutual
  unfolding leaf_bytes kind_byte cell_head bytes₂ row_len

  pub ty_bytes : Ty → List ℕ
  ty_bytes (Ty.leaf p) = leaf_bytes p
  ty_bytes (Ty.node k r) = kind_byte k ∷ bytes₂ (row_len r) ++ row_bytes r k
  ty_bytes (Ty.Var x) = 6 ∷ bytes₂ x
  ty_bytes Ty.Error = 7 ∷ []

  pub row_bytes : Row → Kind → List ℕ
  row_bytes Row.ε k = []
  row_bytes (Row.cell key label t r) k = cell_head k key label ++ ty_bytes t ++ row_bytes r k

unfoldable pub slot_bytes : Option Ty → List ℕ
unfolding ty_bytes
slot_bytes None = 0xff ∷ []
slot_bytes (Some t) = ty_bytes t

-- ---- Lines

-- The nodes from number n on.
unfoldable pub node_lines : ℕ → List (Option Ty) → List ℕ
unfolding hex_line bytes₂ slot_bytes
node_lines n [] = []
node_lines n (slot ∷ slots) = hex_line (7 ∷ bytes₂ n ++ slot_bytes slot) ++ node_lines (suc n) slots

unfoldable pub diagnostic_bytes : Diagnostic → List ℕ
unfolding bytes₄ ascii as_str code_of
diagnostic_bytes d = 8 ∷ bytes₄ d.span.start ++ bytes₄ d.span.end ++ ascii (as_str (code_of d.message))

-- Card 9: "a line 0c with the span of the node that made it"
unfoldable pub unused_line : Span → List ℕ
unfolding hex_line bytes₄
unused_line s = hex_line (0x0c ∷ bytes₄ s.start ++ bytes₄ s.end)

unfoldable pub unused_lines : List Span → List ℕ
unfolding unused_line
unused_lines [] = []
unused_lines (s ∷ ss) = unused_line s ++ unused_lines ss

-- How a message is written is asked for, so that laws can speak of answers without their texts.
module _ (text : Message → List ℕ) where
  unfoldable pub diagnostic_line : Diagnostic → List ℕ
  unfolding hex_line diagnostic_bytes
  diagnostic_line d = hex_line (diagnostic_bytes d) ++ hex_line (0x0a ∷ text d.message)

  unfoldable pub diagnostic_lines : List Diagnostic → List ℕ
  unfolding diagnostic_line
  diagnostic_lines [] = []
  diagnostic_lines (d ∷ ds) = diagnostic_line d ++ diagnostic_lines ds

  -- Card 7: "ends with a line 09 and the visits of that query (4 bytes)"
  unfoldable pub answer_lines : Typed → List ℕ
  unfolding node_lines diagnostic_lines unused_lines hex_line bytes₄
  answer_lines t = ((node_lines 0 t.tys ++ diagnostic_lines t.diagnostics) ++ unused_lines t.unused) ++ hex_line (9 ∷ bytes₄ t.visits)

  -- ---- A form (card 3)

  -- "each query has a line 0b with its number (2 bytes)", from number k on
  unfoldable pub numbered : ℕ → List Typed → List ℕ
  unfolding hex_line bytes₂ answer_lines
  numbered k [] = []
  numbered k (t ∷ ts) = hex_line (0x0b ∷ bytes₂ k) ++ (answer_lines t ++ numbered (suc k) ts)

  -- one query alone has no such line
  unfoldable pub form_lines : List Typed → List ℕ
  unfolding answer_lines numbered
  form_lines [] = []
  form_lines (t ∷ []) = answer_lines t
  form_lines (t ∷ u ∷ ts) = numbered 0 (t ∷ u ∷ ts)
