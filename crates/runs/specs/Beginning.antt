-- What a list of the code's calls begins on.
use Rattle.std.specs.Prelude.{List, ◌≡◌, ℕ, ◌<◌, ◌≤◌, length, get_or}
use Rattle.work.specs.Layout.{NODE-COUNT, QUERY, NODES}
use Rattle.cells.specs.Stands.{Rows}
use Rattle.cells.specs.CodeCalls.{Declares}
use Rattle.format.specs.Frame.{wide}
use Rattle.format.specs.File.{Form, types_of}
use Rattle.meaning.specs.Outcome.{min_words}
use Rattle.tree.specs.Stands.{SchemaStands}

-- What an accepted reading leaves: the schema and the names, and the file's types by number.
pub record AfterReading (f w : List ℕ) (form : Form) : Type 0 where
  pub long : min_words ≤ length w
  pub rows : Rows
  pub schema : SchemaStands f w rows form.names form.schema
  pub types : Declares w rows (types_of wide f)

-- The words of the schema are in the second as in the first; those of nodes and of a query may be others.
abbrev pub SameSchema : List ℕ → List ℕ → Type 0
SameSchema w w' = (i : ℕ) → i < NODES → (i ≡ NODE-COUNT → ⊥) → (i ≡ QUERY → ⊥) → get_or w' i 0 ≡ get_or w i 0
