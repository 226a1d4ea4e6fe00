-- A query's turn: what its own lines are in the answer, and what it leaves for the next one.
use Rattle.std.specs.Prelude.{Bool, true, false, List, [], ◌∷◌, ◌++◌, ◌≡◌, ℕ, zero, suc, ◌+◌, ◌≤◌, ◌<◌, ltb, length, take, None, Option, Some}
use Rattle.cells.specs.Stands.{Rows}
use Rattle.format.specs.Syntax.{Ast}
use Rattle.format.specs.File.{Described}
use Rattle.format.specs.Sound.{Sound}
use Rattle.meaning.specs.Check.{Checked, typed, exhausted, check}
use Rattle.meaning.specs.Messages.{message_text}
use Rattle.format.specs.Bytes.{bytes₂, hex_line}
use Rattle.meaning.specs.Answer.{answer_lines}
use Rattle.meaning.specs.Outcome.{min_words}
use Rattle.tree.specs.Stands.{SchemaStands, Stands}
use Rattle.loading.specs.Promises.{Ahead}
use Rattle.driver.specs.declared.Turn.{Turn}

-- ---- Places

pub record Place (page : Option ℕ) (room r : ℕ) : Type 0 where
  pub within : r ≤ room
  pub is : (n : ℕ) → page ≡ Some n → n ≤ room → r ≡ n

-- ---- Lines

-- Card 3: a line 0b and the number, where there are several queries.
abbrev pub head_line : Bool → ℕ → List ℕ
head_line true k = hex_line (0x0b ∷ bytes₂ k)
head_line false k = []

-- There are several, if this is not the first or others come after it.
abbrev pub several : ℕ → List Ast → Bool
several zero [] = false
several zero (a ∷ qs) = true
several (suc k) qs = true

-- The same by the place after it and the file's end.
pub record OneOfSeveral (k next end : ℕ) (r : Bool) : Type 0 where
  pub first : k ≡ 0 → r ≡ ltb next end
  pub later : 0 < k → r ≡ true

-- A text stands from a place on, and what stood before it stays, or the slice is too short; the rest of the slice may be anything, since
-- a run leaves lines there that change places.
pub record Continues (out : List ℕ) (at : ℕ) (text out' : List ℕ) (r : Option ℕ) : Type 0 where
  pub fits : at + length text ≤ length out → (r ≡ Some (at + length text)) × (take (at + length text) out' ≡ take at out ++ text)
  pub over : length out < at + length text → r ≡ None
  pub long : length out' ≡ length out

-- A text is written after what stands on the page.
abbrev pub Follows : List ℕ → Option ℕ → List ℕ → List ℕ → Option ℕ → Type 0
Follows out page text out' r = (length out' ≡ length out) × ((n : ℕ) → page ≡ Some n → n ≤ length out → Continues out n text out' r) × (page ≡ None → r ≡ None)

-- The line before is written, if there are several.
pub record WritesHeading (k next end : ℕ) (out : List ℕ) (page : Option ℕ) (out' : List ℕ) (r : Option ℕ) : Type 0 where
  pub there_are : Bool
  pub tells : OneOfSeveral k next end there_are
  pub follows : Follows out page (head_line there_are k) out' r

-- ---- The run and its lines

-- The visits ran out; or the answer's lines stand at the start of the slice, and the schema stands as before.
unfoldable pub Answered : List ℕ → List ℕ → List ℕ → List ℕ → Option (Option ℕ × ℕ) → Described → Checked → Type 0
Answered f out w' out' r d exhausted = r ≡ None
Answered f out w' out' r d (typed t) = (a : Option ℕ) × (r ≡ Some (a, t.visits)) × ((T : Rows) × SchemaStands f w' T d.names d.schema)
    × Continues out 0 (answer_lines (message_text d.names d.schema) t) out' a

pub record AnswersQuery (f w : List ℕ) (ceiling : ℕ) (out w' out' : List ℕ) (r : Option (Option ℕ × ℕ)) : Type 0 where
  pub is : (T : Rows) (d : Described) → Sound d → Stands f w T d → Answered f out w' out' r d (check ceiling d.schema d.ast)
  pub few : (a : Option ℕ) (visits : ℕ) → r ≡ Some (a, visits) → visits ≤ ceiling
  pub words : length w' ≡ length w
  pub bytes : length out' ≡ length out

-- ---- The turn

-- The visits ran out; or the query's lines follow, the schema stands as before, and the others lie ahead.
unfoldable pub Turned : List ℕ → ℕ → List ℕ → Option ℕ → List ℕ → List ℕ → Option (ℕ × Option ℕ × ℕ) → Described → List Ast → Checked → Type 0
Turned f k out page w' out' r d qs exhausted = r ≡ None
Turned f k out page w' out' r d qs (typed t) =
    (next : ℕ) × (written : Option ℕ) × (r ≡ Some (next, written, t.visits)) × Ahead f next qs × ((T : Rows) × SchemaStands f w' T d.names d.schema)
    × Follows out page (head_line (several k qs) k ++ answer_lines (message_text d.names d.schema) t) out' written

-- For every input the place goes forward within the file; and where the query lies ahead, its run is the definition's.
pub record Turns (f : List ℕ) (at k ceiling : ℕ) (w out : List ℕ) (page : Option ℕ) (w' out' : List ℕ) (r : Option (ℕ × Option ℕ × ℕ)) : Type 0 where
  pub onward : at < length f → (next : ℕ) (written : Option ℕ) (visits : ℕ) → r ≡ Some (next, written, visits) → (at < next) × (next ≤ length f)
  pub few : (next : ℕ) (written : Option ℕ) (visits : ℕ) → r ≡ Some (next, written, visits) → visits ≤ ceiling
  pub is : (T : Rows) (d : Described) (qs : List Ast) → Sound d → min_words ≤ length w → SchemaStands f w T d.names d.schema → Ahead f at (d.ast ∷ qs)
      → Turned f k out page w' out' r d qs (check ceiling d.schema d.ast)

-- The query whose turn it is.
abbrev pub TakesTurn : List ℕ → Turn → ℕ → List ℕ → List ℕ → List ℕ → List ℕ → Option (ℕ × Option ℕ × ℕ) → Type 0
TakesTurn f turn ceiling w out w' out' r = Turns f turn.at turn.k ceiling w out turn.page w' out' r
