-- The lines of the diagnostics so far, in the answer slice: they stand from its start to the place that two words keep,
-- or they are longer than the slice, and a word says so. More words have what ends the run early and, where that came,
-- the visits left and the sides of the entry to `unify`.
use Rattle.std.specs.Prelude.{List, [], ◌∷◌, ◌++◌, ◌≡◌, ℕ, ◌+◌, ◌*◌, ◌/◌, ◌%◌, ◌<◌, ◌≤◌, length, get_or, set, take, drop, ltb, None, Option, Some}
use Rattle.work.specs.Layout.{PLACE, PLACE-HIGH, FULL, UNTIL, LEFT, STOP, ENTERED, GOT, EXPECTED}
use Rattle.unification.specs.Bindings.{Subst, State}
use Rattle.unification.specs.Calls.{UnifyEntry}
use Rattle.cells.specs.declared.Ty.{Ty}
use Rattle.cells.specs.Words.{pick, ty_w, put_ty}
use Rattle.cells.specs.Stands.{Rows, tree, Ok, Holds, Keeps}
use Rattle.format.specs.Syntax.{Span}
use Rattle.meaning.specs.Diag as Diag
use Rattle.meaning.specs.Diag.{Diagnostic}
use Rattle.format.specs.File.{Described}
use Rattle.meaning.specs.Check as Check
use Rattle.meaning.specs.Check.{Checker, reversed}
use Rattle.meaning.specs.Messages.{message_text}
use Rattle.format.specs.Bytes.{bytes₄, hex_line}
use Rattle.meaning.specs.Answer.{diagnostic_bytes, unused_line, diagnostic_line, diagnostic_lines}
use Rattle.writer.specs.Writes.{Writes, hex_of}
use Rattle.tree.specs.Nodes.{line_start_w}
use Rattle.tree.specs.Stands.{Stands}
use Rattle.messages.specs.declared.Message.{Message}
use Rattle.messages.specs.Said.{said, OkMessage}
use Rattle.state.specs.declared.Until.{Until}
use Rattle.state.specs.Words.{counted_w}

abbrev pub AFTER-FULL : ℕ
AFTER-FULL = 9624

abbrev pub AFTER-SIDES : ℕ
AFTER-SIDES = 9632

abbrev pub place_w : List ℕ → ℕ
place_w w = get_or w PLACE 0 + get_or w PLACE-HIGH 0 * 4294967296

abbrev pub set_place_w : List ℕ → ℕ → List ℕ
set_place_w w at = set (set w PLACE (at % 4294967296)) PLACE-HIGH (at / 4294967296)

-- ---- The line of a diagnostic

-- In the line that starts here the digits of this span stand after the two of its kind.
pub record SpanAt (f : List ℕ) (line : ℕ) (s : Span) : Type 0 where
  pub there : line + 18 ≤ length f
  pub digits : take 16 (drop (line + 2) f) ≡ hex_of (bytes₄ s.start ++ bytes₄ s.end)

abbrev pub diagnosed : Rows → Subst → Message → Span → Diagnostic
diagnosed T s m p = record { message = said T s m; span = p }

-- Its lines, with the names and the schema of a file.
abbrev pub line_of : Described → Diagnostic → List ℕ
line_of d x = diagnostic_line (message_text d.names d.schema) x

pub record WritesSpan (f out : List ℕ) (at line : ℕ) (out' : List ℕ) (r : Option ℕ) : Type 0 where
  pub is : line + 18 ≤ length f → at ≤ length out → Writes out at (take 16 (drop (line + 2) f)) out' r
  pub long : length out' ≡ length out

-- The line of a node whose entry left unmarked.
pub record WritesUnusedLine (f w out : List ℕ) (at n : ℕ) (out' : List ℕ) (r : Option ℕ) : Type 0 where
  pub is : (s : Span) → SpanAt f (line_start_w w n) s → Writes out at (unused_line s) out' r
  pub long : length out' ≡ length out

-- At the node n, whose span is p.
pub record WritesCodeLine (f w out : List ℕ) (at n : ℕ) (m : Message) (out' : List ℕ) (r : Option ℕ) : Type 0 where
  pub is : (T : Rows) (s : Subst) (p : Span) → SpanAt f (line_start_w w n) p → Writes out at (hex_line (diagnostic_bytes (diagnosed T s m p))) out' r
  pub long : length out' ≡ length out

-- The bytes of the line with the text.
abbrev pub said_bytes : Described → Diag.Message → List ℕ
said_bytes d x = 0x0a ∷ message_text d.names d.schema x

pub record WritesMessageLine (f w out : List ℕ) (at : ℕ) (m : Message) (out' : List ℕ) (r : Option ℕ) : Type 0 where
  pub is : (T : Rows) (d : Described) (st : State) → Stands f w T d → Holds w T st → OkMessage w m
      → Writes out at (hex_line (said_bytes d (said T st.subst m))) out' r
  pub long : length out' ≡ length out

-- Both.
pub record WritesBothLines (f w out : List ℕ) (at n : ℕ) (m : Message) (out' : List ℕ) (r : Option ℕ) : Type 0 where
  pub is : (T : Rows) (d : Described) (st : State) (p : Span) → Stands f w T d → Holds w T st → OkMessage w m → SpanAt f (line_start_w w n) p
      → Writes out at (line_of d (diagnosed T st.subst m p)) out' r
  pub long : length out' ≡ length out

-- ---- The lines so far

-- The bytes s stand in the slice, or are longer than it.
pub data Lines (w o s : List ℕ) : Type 0 where
  within : get_or w FULL 0 ≡ 0 → place_w w ≡ length s → length s ≤ length o → take (length s) o ≡ s → Lines w o s
  beyond : get_or w FULL 0 ≡ 1 → length o < length s → Lines w o s

-- What ends a run early besides its visits, as it is named and as a word.
abbrev pub until_of : Until → Check.Until
until_of Until.TheEnd = Check.the_end
until_of Until.FirstDiagnostic = Check.first_diagnostic
until_of (Until.Entry n) = Check.entry n

abbrev pub until_w : Check.Until → ℕ
until_w Check.the_end = 0
until_w Check.first_diagnostic = 1
until_w (Check.entry n) = 2

abbrev pub stop_w : Check.Until → ℕ
stop_w Check.the_end = 0
stop_w Check.first_diagnostic = 0
stop_w (Check.entry n) = n

-- The words of a run that has told nothing and entered nothing yet.
abbrev pub no_lines_w : List ℕ → Check.Until → List ℕ
no_lines_w w u = set (set (set (set (set w PLACE 0) PLACE-HIGH 0) FULL 0) UNTIL (until_w u)) LEFT 0

abbrev pub no_entries_w : List ℕ → Check.Until → List ℕ
no_entries_w w u = set (set w STOP (stop_w u)) ENTERED 0

-- The words say so.
pub data UntilIs (w : List ℕ) : Until → Type 0 where
  at_end : ¬ (get_or w UNTIL 0 ≡ 1) → ¬ (get_or w UNTIL 0 ≡ 2) → UntilIs w Until.TheEnd
  at_diagnostic : get_or w UNTIL 0 ≡ 1 → UntilIs w Until.FirstDiagnostic
  at_entry : get_or w UNTIL 0 ≡ 2 → get_or w STOP 0 < 4294967296 → UntilIs w (Until.Entry (get_or w STOP 0))

-- A number in a word, and the greatest word for more.
unfoldable pub capped : ℕ → ℕ
capped n = pick (ltb n 4294967295) n 4294967295

-- m entries were made.
pub record Keeping (w o s : List ℕ) (u : Check.Until) (m l : ℕ) : Type 0 where
  pub lines : Lines w o s
  pub until : get_or w UNTIL 0 ≡ until_w u
  pub stop : get_or w STOP 0 ≡ stop_w u
  pub entered : get_or w ENTERED 0 ≡ capped m
  pub left : get_or w LEFT 0 ≡ l

-- The lines of a checker's diagnostics stand in the slice, the oldest first. While the run goes on the word of the
-- visits left is 0; where it ended early, by its visits or by what it was to last until, those that were left stand
-- there.
abbrev pub Told : Described → List ℕ → List ℕ → Checker → ℕ → Type 0
Told d w o c l = Keeping w o (diagnostic_lines (message_text d.names d.schema) (reversed c.diagnostics [])) c.until (length c.entries) l

-- A diagnostic's lines behind those before it, whatever they were.
pub record Tells (f w o : List ℕ) (n : ℕ) (m : Message) (w' o' : List ℕ) : Type 0 where
  pub lines : (T : Rows) (d : Described) (st : State) (s : List ℕ) (p : Span) → Stands f w T d → Holds w T st → OkMessage w m
      → SpanAt f (line_start_w w n) p → Lines w o s → Lines w' o' (s ++ line_of d (diagnosed T st.subst m p))
  pub keeps : Keeps PLACE AFTER-FULL w w'
  pub long : length o' ≡ length o

-- The run goes on; or it was to last until here, and the visits left are kept.
pub data Halts (w : List ℕ) (left : ℕ) : List ℕ → Option ℕ → Type 0 where
  goes_on : ¬ (get_or w UNTIL 0 ≡ 1) → Halts w left w (Some left)
  ends_here : get_or w UNTIL 0 ≡ 1 → Halts w left (set w LEFT left) None

pub record Rejected (f w o : List ℕ) (n : ℕ) (m : Message) (left : ℕ) (w' o' : List ℕ) (r : Option ℕ) : Type 0 where
  pub between : List ℕ
  pub tells : Tells f w o n m between o'
  pub halts : Halts (counted_w between) left w' r

-- ---- An entry to `unify`

unfoldable pub entered_w : List ℕ → List ℕ
entered_w w = pick (ltb (get_or w ENTERED 0) 4294967295) (set w ENTERED (get_or w ENTERED 0 + 1)) w

-- The sides of an entry, and the visits left.
unfoldable pub sides_w : List ℕ → Ty → Ty → ℕ → List ℕ
unfolding put_ty
sides_w w got expected left = set (put_ty (put_ty w GOT got) EXPECTED expected) LEFT left

-- It is counted, and the run goes on; or it was to last until here.
pub data Enters (w : List ℕ) (got expected : Ty) (left : ℕ) : List ℕ → Option ℕ → Type 0 where
  enters : ¬ (get_or w UNTIL 0 ≡ 2) → Enters w got expected left (entered_w w) (Some left)
  enters_before : get_or w ENTERED 0 < get_or w STOP 0 → get_or w STOP 0 < 4294967296 → Enters w got expected left (entered_w w) (Some left)
  stops_here : get_or w UNTIL 0 ≡ 2 → get_or w STOP 0 ≤ get_or w ENTERED 0 → Enters w got expected left (sides_w (entered_w w) got expected left) None

-- A type in two words.
unfoldable pub side_w : List ℕ → ℕ → Ty
unfolding ty_w
side_w w at = ty_w (get_or w at 0) (get_or w (at + 1) 0)

-- The newest entry's sides stand in the words.
abbrev pub EntrySides : List ℕ → Rows → List UnifyEntry → Type 0
EntrySides w T [] = ⊥
EntrySides w T (e ∷ es) = Ok w (side_w w GOT) × (tree T (side_w w GOT) ≡ e.got) × Ok w (side_w w EXPECTED) × (tree T (side_w w EXPECTED) ≡ e.expected)

-- Where the run was to last until an entry that came.
abbrev pub AtEntry : List ℕ → Rows → Check.Until → List UnifyEntry → Type 0
AtEntry w T Check.the_end es = Unit {0}
AtEntry w T Check.first_diagnostic es = Unit {0}
AtEntry w T (Check.entry n) es = n < length es → EntrySides w T es
