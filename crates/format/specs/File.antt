-- Document 01, "Frame lines" and "When a file is turned down": what a file describes, and refusals 2 to 10 and 13. "1, 2, then lines in file
-- order, in each the lowest number, then the missing 06".
use Rattle.std.specs.Prelude.{Bool, true, false, List, [], ◌∷◌, map, ℕ, ltb, length, get_or, None, Option, Some}
use Rattle.text.specs.Utf8.{characters}
use Rattle.unification.specs.Ty.{Ty}
use Rattle.format.specs.Syntax.{Ast}
use Rattle.format.specs.Schema.{Schema}
use Rattle.format.specs.Bytes.{ascii}
use Rattle.format.specs.Refusal.{Refusal, file_too_long, misplaced_kind}
use Rattle.format.specs.Lines.{position, lines}
use Rattle.format.specs.Frame.{Edition, wide, Kind, limits, name, schema_type, predicate, node, query}
use Rattle.format.specs.SoFar.{Said, said, SoFar, start, after}
use Rattle.format.specs.Conditions.{same_text, conditions, first_of}

-- A schema and one tree: what a run is of. The names' texts are for messages; no step of a run looks at them.
pub record Described : Type 0 where
  pub names : List (List ℕ)
  pub schema : Schema
  pub ast : Ast

-- What a file describes: the names, the schema, and a tree for each query.
pub record Form : Type 0 where
  pub names : List (List ℕ)
  pub schema : Schema
  pub queries : List Ast

-- One of its queries, with the schema.
unfoldable pub view_of : Form → Ast → Described
view_of f a = record { names = f.names; schema = f.schema; ast = a }

-- stands for no query and is never reached
unfoldable pub no_ast : Ast
no_ast = record { nodes = []; query = record { head = 0; body = [] } }

-- By number, from 0 in file order.
unfoldable pub view_at : Form → ℕ → Described
unfolding view_of no_ast
view_at f k = view_of f (get_or f.queries k no_ast)

unfoldable pub count_of : Option ℕ → ℕ
count_of None = 0
count_of (Some n) = n

-- `VALUE_FIELD` of lower.rs
unfoldable pub value_text : List ℕ
unfolding ascii
value_text = ascii "value"

unfoldable pub schema_of : SoFar → Schema
unfolding position same_text value_text count_of characters
schema_of so = record {
  predicates = so.predicates;
  value_field = position (same_text value_text) so.names;
  characters = map (λ s. count_of (characters s)) so.names;
  max_distance = so.max_distance;
  max_term_chars = so.max_term_chars;
}

unfoldable pub describe : SoFar → Form
unfolding schema_of
describe so = record { names = so.names; schema = schema_of so; queries = so.queries }

pub data Reading : Type 0 where
  refused : Refusal → Reading
  described : Form → Reading

-- 4: "file ends without 06"; card 3: "06 must still be last"
unfoldable pub at_end : SoFar → Option Kind → Reading
unfolding describe
at_end so None = refused misplaced_kind
at_end so (Some limits) = refused misplaced_kind
at_end so (Some name) = refused misplaced_kind
at_end so (Some schema_type) = refused misplaced_kind
at_end so (Some predicate) = refused misplaced_kind
at_end so (Some node) = refused misplaced_kind
at_end so (Some query) = described (describe so)

-- line after line
unfoldable pub read_from : SoFar → List Said → Reading
unfolding first_of conditions after at_end
read_from so [] = at_end so so.previous
read_from so (l ∷ ls) = elim (first_of conditions so l) [ Some r ↦ refused r | None ↦ read_from (after so l) ls ]

unfoldable pub max_file : ℕ
max_file = 65536

-- 2: "file over 65,536 bytes"
unfoldable pub is_too_long : List ℕ → Bool
unfolding max_file
is_too_long file = ltb max_file (length file)

unfoldable pub reading_of : Edition → List ℕ → Reading
unfolding is_too_long read_from start said lines
reading_of e file = elim (is_too_long file) [ true ↦ refused file_too_long | false ↦ read_from start (map (said e) (lines file)) ]

-- Card 6: "the checker reads only this edition".
abbrev pub reading : List ℕ → Reading
reading file = reading_of wide file

-- What has been read when the last line has passed.
unfoldable pub last_of : SoFar → List Said → SoFar
unfolding after
last_of so [] = so
last_of so (l ∷ ls) = last_of (after so l) ls

-- The types that the 03 lines of a file declare, by number, named by a predicate or not.
unfoldable pub types_of : Edition → List ℕ → List Ty
unfolding last_of start said lines
types_of e file = (last_of start (map (said e) (lines file))).types
