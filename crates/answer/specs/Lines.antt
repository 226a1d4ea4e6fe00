-- What is written of a node: its number and what it was found to be, as a line of meaning/specs/Answer.antt; and the whole answer,
-- which is the one of the run that the work slice stands for.
use Rattle.std.specs.Prelude.{List, [], ◌∷◌, ◌++◌, map, ◌≡◌, ℕ, ◌≤◌, ◌<◌, length, get_or, None, Option}
use Rattle.unification.specs.Ty as Tree
use Rattle.unification.specs.Bindings.{State}
use Rattle.work.specs.Layout.{NODE-COUNT}
use Rattle.cells.specs.Stands.{Rows, Holds}
use Rattle.format.specs.File.{Described}
use Rattle.meaning.specs.Check.{Checker, Typed, goes, typed, checked, reversed, zonked}
use Rattle.meaning.specs.Messages.{message_text}
use Rattle.format.specs.Bytes.{bytes₂, hex_line}
use Rattle.meaning.specs.Answer.{slot_bytes, node_lines, diagnostic_lines, unused_lines, answer_lines}
use Rattle.writer.specs.Writes.{Writes, Moves, hex_of}
use Rattle.state.specs.Runs.{Runs}
use Rattle.state.specs.Lines.{Told}

-- What the node of this number was found to be, resolved.
abbrev pub found : State → ℕ → Option Tree.Ty
found st n = zonked st (get_or st.tys n None)

abbrev pub node_bytes : State → ℕ → List ℕ
node_bytes st n = 7 ∷ bytes₂ n ++ slot_bytes (found st n)

pub record WritesSlot (w out : List ℕ) (at n : ℕ) (out' : List ℕ) (r : Option ℕ) : Type 0 where
  pub is : (T : Rows) (st : State) → Holds w T st → n < length st.tys → Writes out at (hex_of (slot_bytes (found st n))) out' r
  pub moves : Moves out at out' r

pub record WritesNodeLine (w out : List ℕ) (at n : ℕ) (out' : List ℕ) (r : Option ℕ) : Type 0 where
  pub is : (T : Rows) (st : State) → Holds w T st → n < length st.tys → Writes out at (hex_line (node_bytes st n)) out' r
  pub moves : Moves out at out' r

pub record WritesNodeLines (w out : List ℕ) (at : ℕ) (out' : List ℕ) (r : Option ℕ) : Type 0 where
  pub is : (T : Rows) (st : State) → Holds w T st → get_or w NODE-COUNT 0 ≡ length st.tys → at ≤ length out
      → Writes out at (node_lines 0 (map (zonked st) st.tys)) out' r
  pub moves : Moves out at out' r

-- After a run that ended, with the lines of its diagnostics in the slice: the slice is full exactly where what is to be written is longer
-- than it (`whole_over` in writer/proofs/Writing.antt), and else begins with it, and it ends where it is said (`whole_there`). The lines of
-- the nodes and of the diagnostics:
pub record WritesLines (w out out' : List ℕ) (r : Option ℕ) : Type 0 where
  pub is : (f : List ℕ) (T : Rows) (d : Described) (c : Checker) → Runs f w T d c → Told d w out c 0
      → (ceiling : ℕ) (ty : Tree.Ty) (t : Typed) → checked ceiling (goes ty c) ≡ typed t
      → Writes out 0 (node_lines 0 t.tys ++ diagnostic_lines (message_text d.names d.schema) t.diagnostics) out' r
  pub long : length out' ≡ length out

-- The lines of the entries that left unmarked, in order of leaving:
pub record WritesUnusedLines (f w out : List ℕ) (at : ℕ) (out' : List ℕ) (r : Option ℕ) : Type 0 where
  pub is : (T : Rows) (d : Described) (c : Checker) → Runs f w T d c → at ≤ length out → Writes out at (unused_lines (reversed c.unused [])) out' r
  pub long : length out' ≡ length out

-- The whole answer, where the visits are those of the run.
pub record WritesAnswer (f w out : List ℕ) (visits : ℕ) (out' : List ℕ) (r : Option ℕ) : Type 0 where
  pub is : (T : Rows) (d : Described) (c : Checker) → Runs f w T d c → Told d w out c 0
      → (ceiling : ℕ) (ty : Tree.Ty) (t : Typed) → checked ceiling (goes ty c) ≡ typed t
      → visits ≡ t.visits → Writes out 0 (answer_lines (message_text d.names d.schema) t) out' r
  pub long : length out' ≡ length out
