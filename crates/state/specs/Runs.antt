-- What the work slice stands for in the midst of a run: the checker of meaning/specs/Check.antt, over a file that was
-- read.
use Rattle.std.specs.Prelude.{List, map, ◌≡◌, ℕ, ◌+◌, ◌≤◌, ◌<◌, length, get_or}
use Rattle.work.specs.Layout.{RECORD-COUNT, RECORD-FIELD-COUNT, ENV-LEN, DIAGNOSTIC-COUNT, MARK-COUNT, UNUSED-COUNT, END}
use Rattle.cells.specs.Stands.{Rows, Holds, Keeps}
use Rattle.cells.specs.Inferred.{AddsCells}
use Rattle.format.specs.All.{All}
use Rattle.format.specs.Syntax.{Span, node_at}
use Rattle.format.specs.File.{Described}
use Rattle.meaning.specs.Check.{Checker}
use Rattle.tree.specs.Stands.{Stands}
use Rattle.state.specs.Words.{env_of, marks_of, unused_of}

abbrev pub span_of : Described → ℕ → Span
span_of d n = (node_at d.ast.nodes n).span

-- The environment, the marks and what left unmarked; each was made by a node.
pub record Scopes (w : List ℕ) (d : Described) (c : Checker) : Type 0 where
  pub env : c.env ≡ env_of w (get_or w ENV-LEN 0)
  pub few_env : get_or w ENV-LEN 0 ≤ 512
  pub makers : All (λ e. e.maker < length d.ast.nodes) c.env
  pub marks : c.marks ≡ marks_of w (get_or w MARK-COUNT 0)
  pub few_marks : get_or w MARK-COUNT 0 ≤ 512
  pub unused : c.unused ≡ map (span_of d) (unused_of w (get_or w UNUSED-COUNT 0))
  pub few_unused : get_or w UNUSED-COUNT 0 ≤ 512
  pub left : All (λ n. n < length d.ast.nodes) (unused_of w (get_or w UNUSED-COUNT 0))

pub record Runs (f w : List ℕ) (T : Rows) (d : Described) (c : Checker) : Type 0 where
  pub stands : Stands f w T d
  pub holds : Holds w T c.state
  pub nodes : length c.state.tys ≡ length d.ast.nodes
  pub scopes : Scopes w d c
  -- their lines stand in the answer slice (`Told`, Lines.antt)
  pub diagnostics : length c.diagnostics ≡ get_or w DIAGNOSTIC-COUNT 0
  pub few_diagnostics : get_or w DIAGNOSTIC-COUNT 0 ≤ 1536

-- At most n records and m fields were made, and only words of the run changed.
pub record Grew (w w' : List ℕ) (n m : ℕ) : Type 0 where
  pub adds : AddsCells w w'
  pub keeps : Keeps RECORD-COUNT END w w'
  pub records : get_or w' RECORD-COUNT 0 ≤ get_or w RECORD-COUNT 0 + n
  pub fields : get_or w' RECORD-FIELD-COUNT 0 ≤ get_or w RECORD-FIELD-COUNT 0 + m
