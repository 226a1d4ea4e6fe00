-- What `load` promises (src/lib.rt): for every input, which words may change and that the place goes forward; and where queries of a described
-- file lie ahead, that the first of them stands in the words and the others lie ahead of the place that comes back.
use mathlib.Core.List.{List, [], ◌∷◌, ◌++◌, map, flat_map}
use Rattle.std.specs.Prelude.{◌≡◌, ℕ, ◌≤◌, ◌<◌, length, get_or, drop}
use Rattle.work.specs.Layout.{NODE-COUNT, QUERY, NODES, FIELDS}
use Rattle.cells.specs.Stands.{Rows}
use Rattle.format.specs.Syntax.{Ast}
use Rattle.format.specs.Lines.{lines}
use Rattle.format.specs.Frame.{wide, node, kind_byte, Frame, frame_kind}
use Rattle.format.specs.SoFar.{frames, said}
use Rattle.format.specs.File.{Described, max_file}
use Rattle.format.specs.All.{All}
use Rattle.format.specs.Content.{query_frames}
use Rattle.format.specs.Sound.{Sound}
use Rattle.meaning.specs.Outcome.{min_words}
use Rattle.tree.specs.Stands.{SchemaStands, Stands}

-- From this place on the file has these queries: lines of the schema, if any, and then the frames of each. Where there is no query left the
-- file has ended.
pub record Ahead (f : List ℕ) (at : ℕ) (qs : List Ast) : Type 0 where
  pub small : length f ≤ max_file
  pub schema : List Frame
  pub early : All (λ g. kind_byte (frame_kind g) < kind_byte node) schema
  pub are : map (said wide) (lines (drop at f)) ≡ map frames (schema ++ flat_map query_frames qs)
  pub ended : qs ≡ [] → length f ≤ at

-- Of all words those of the nodes and the query alone may be others.
pub record Reloads (w w' : List ℕ) : Type 0 where
  pub below : (i : ℕ) → i < NODES → (i ≡ NODE-COUNT → ⊥) → (i ≡ QUERY → ⊥) → get_or w' i 0 ≡ get_or w i 0
  pub above : (i : ℕ) → FIELDS ≤ i → get_or w' i 0 ≡ get_or w i 0
  pub long : length w' ≡ length w

pub record Loads (f : List ℕ) (at : ℕ) (w w' : List ℕ) (next : ℕ) : Type 0 where
  pub words : Reloads w w'
  pub onward : at < length f → at < next
  pub within : next ≤ length f
  pub stands : (T : Rows) (d : Described) (qs : List Ast) → Sound d → min_words ≤ length w → SchemaStands f w T d.names d.schema → Ahead f at (d.ast ∷ qs)
      → Stands f w' T d
  pub ahead : (d : Described) (qs : List Ast) → Sound d → min_words ≤ length w → Ahead f at (d.ast ∷ qs) → Ahead f next qs
