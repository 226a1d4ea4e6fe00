-- What the functions of src/ promise.
use Rattle.std.specs.Prelude.{Bool, true, false, List, [], ◌∷◌, ◌≡◌, ℕ, ◌+◌, ◌*◌, ◌<◌, ◌≤◌, leb, ltb, length, get_or, drop, set, replicate, Err, None, Ok}
use Rattle.std.specs.Prelude.{Option, Result, Some}
use Rattle.std.proofs.lemmas.List.Edits.{sets}
use Rattle.work.specs.Layout.{NAME-COUNT, TYPES, PREDICATES}
use Rattle.format.specs.Refusal as Refused
use Rattle.format.specs.Frame as Frame
use Rattle.format.specs.Frame.{Edition, may_stand, kind_byte, kind_of, frame_of}
use Rattle.format.specs.SoFar.{SoFar, frames, said_by, add, after}
use Rattle.format.specs.Conditions.{given, is_full, is_last_query_past, conditions, first_of}
use Rattle.format.specs.File.{Reading, refused, described, reading_of, types_of}
use Rattle.meaning.specs.Outcome.{min_words}
use Rattle.sigla_hex.specs.Digits.{line_at}
use Rattle.frames.specs.Promises.{kind_meant, known}
use Rattle.frames.specs.declared.Kind.{Kind}
use Rattle.cells.specs.CodeCalls.{Declares}
use Rattle.cells.specs.Stands.{Rows}
use Rattle.reading.specs.declared.Refusal.{Refusal}
use Rattle.work.specs.declared.Counters.{Counters}
use Rattle.reading.specs.Held.{NamesHeld, Held}
use Rattle.reading.specs.Prints.{print_of, Printed}
use Rattle.tree.specs.Stands.{SchemaStands, numbered}

-- Document 01's refusals, as the definitions have them.
abbrev pub refusal : Refusal → Refused.Refusal
refusal Refusal.WorkTooShort = Refused.work_too_short
refusal Refusal.FileTooLong = Refused.file_too_long
refusal Refusal.MalformedLine = Refused.malformed_line
refusal Refusal.MisplacedKind = Refused.misplaced_kind
refusal Refusal.TooMany = Refused.too_many
refusal Refusal.MalformedFrame = Refused.malformed_frame
refusal Refusal.BrokenText = Refused.broken_text
refusal Refusal.NameGivenBefore = Refused.name_given_before
refusal Refusal.BadReference = Refused.bad_reference
refusal Refusal.RepeatedKey = Refused.repeated_key
refusal Refusal.TooManyVisits = Refused.too_many_visits
refusal Refusal.AnswerTooLong = Refused.answer_too_long
refusal Refusal.TooManyQueries = Refused.too_many_queries
refusal Refusal.NumberTooWide = Refused.number_too_wide
refusal Refusal.TallyTooLarge = Refused.tally_too_large
refusal Refusal.CeilingPassed = Refused.ceiling_passed
refusal Refusal.OutsideTheRules = Refused.outside_the_rules

-- ---- The counters after a line of each kind

abbrev pub with_name : Counters → Option ℕ → Counters
with_name c value = record c { names = c.names + 1; value = value }

abbrev pub with_type : Counters → ℕ → Counters
with_type c words = record c { types = c.types + 1; fields = c.fields + words }

abbrev pub with_predicate : Counters → Counters
with_predicate c = record c { predicates = c.predicates + 1 }

abbrev pub with_node : Counters → Counters
with_node c = record c { nodes = c.nodes + 1 }

-- The nodes start anew.
abbrev pub with_query : Counters → Counters
with_query c = record { names = c.names; types = c.types; predicates = c.predicates; nodes = 0; fields = c.fields; value = c.value; queries = c.queries + 1 }

-- ---- One line

-- The line at a place has these bytes, and the next one starts at `next`.
pub record LineAt (f : List ℕ) (at next : ℕ) (s : List ℕ) : Type 0 where
  pub is : line_at f at ≡ Some s
  pub on : next ≡ at + 2 * length s + 1
  pub within : next ≤ length f
  pub some : 0 < length s
  pub most : length s ≤ 512

-- Said of both editions: the lines that it is about are the same in them.
pub record InEither (P : Edition → Type 0) : Type 0 where
  pub is : (e : Edition) → P e

-- A line of a kind that may come and is not one too many is this frame.
pub record Comes (e : Edition) (so : SoFar) (k : Frame.Kind) (s : List ℕ) (frame : Frame.Frame) : Type 0 where
  pub placed : may_stand so.previous k ≡ true
  pub room : is_full so k ≡ false
  pub turn : is_last_query_past so k ≡ false
  pub first : s ≡ kind_byte k ∷ drop 1 s
  pub is : frame_of e k (drop 1 s) ≡ Some frame

-- How a line ends by the first condition that holds of it, if any.
abbrev pub LineEnds : (e : Edition) (f : List ℕ) (next : ℕ) (w' : List ℕ) (kind : Option Frame.Kind) → SoFar → Result Counters Refusal
    → Option Refused.Refusal → Type 0
LineEnds e f next w' kind so r (Some i) = (i' : Refusal) × (r ≡ Err i') × (refusal i' ≡ i)
LineEnds e f next w' kind so r None = (c' : Counters) × (r ≡ Ok c') × ((T' : Rows) × Held e f next w' T' c' kind so)

pub record Takes (e : Edition) (f : List ℕ) (at : ℕ) (k : Frame.Kind) (s w : List ℕ) (c : Counters) (w' : List ℕ) (r : Result Counters Refusal) : Type 0 where
  pub is : (next : ℕ) (T : Rows) (previous : Option Frame.Kind) (so : SoFar) (frame : Frame.Frame) → Held e f at w T c previous so → LineAt f at next s
      → Comes e so k s frame → LineEnds e f next w' (Some k) (add so frame) r (first_of conditions so (frames frame))

-- Wherever the line stands.
pub record TakesAnywhere (e : Edition) (k : Frame.Kind) (s w : List ℕ) (c : Counters) (w' : List ℕ) (r : Result Counters Refusal) : Type 0 where
  pub is : (f : List ℕ) (at : ℕ) → Takes e f at k s w c w' r

-- At this place of whatever file.
pub record TakesThere (e : Edition) (at : ℕ) (k : Frame.Kind) (s w : List ℕ) (c : Counters) (w' : List ℕ) (r : Result Counters Refusal) : Type 0 where
  pub is : (f : List ℕ) → Takes e f at k s w c w' r

-- ---- Names

-- The text of a name's line.
pub record NameLine (f : List ℕ) (at : ℕ) (bytes s : List ℕ) : Type 0 where
  pub line : line_at f at ≡ Some bytes
  pub is : bytes ≡ 0x02 ∷ s

pub record GivenBefore (f : List ℕ) (at : ℕ) (bytes w prints : List ℕ) (n : ℕ) (r : Bool) : Type 0 where
  pub is : (value : Option ℕ) (names : List (List ℕ)) (s : List ℕ) → NamesHeld f w n value names → Printed prints names → NameLine f at bytes s
      → r ≡ given names s

-- As `Takes`, where the prints are those of the names so far; and its own is written where it is added.
pub record TakesName (e : Edition) (f : List ℕ) (at : ℕ) (s w prints : List ℕ) (c : Counters) (w' prints' : List ℕ) (r : Result Counters Refusal) : Type 0 where
  pub is : (next : ℕ) (T : Rows) (previous : Option Frame.Kind) (so : SoFar) (frame : Frame.Frame) → Held e f at w T c previous so → Printed prints so.names
      → LineAt f at next s → Comes e so Frame.name s frame → LineEnds e f next w' (Some Frame.name) (add so frame) r (first_of conditions so (frames frame))
  pub printed : (d : Counters) → r ≡ Ok d → prints' ≡ set prints c.names (print_of (drop 1 s))

-- ---- Types and predicates

pub record AddsType (w : List ℕ) (c : Counters) (head payload n : ℕ) (w' : List ℕ) (r : Result Counters Refusal) : Type 0 where
  pub words : w' ≡ set (set w (TYPES + 2 * c.types) head) (TYPES + 2 * c.types + 1) payload
  pub step : r ≡ Ok (with_type c n)

-- A type line whose shape byte is this.
pub record TakesType (e : Edition) (shape : ℕ) (s w : List ℕ) (c : Counters) (w' : List ℕ) (r : Result Counters Refusal) : Type 0 where
  pub is : (f : List ℕ) (at : ℕ) → get_or s 1 0 ≡ shape → Takes e f at Frame.schema_type s w c w' r

pub record AddsPredicate (w : List ℕ) (c : Counters) (entry : ℕ) (w' : List ℕ) (r : Result Counters Refusal) : Type 0 where
  pub words : w' ≡ set w (PREDICATES + c.predicates) entry
  pub step : r ≡ Ok (with_predicate c)

-- ---- Any line

-- Whether one more of a kind is too many, by the counters.
abbrev pub full_of : Counters → Frame.Kind → Bool
full_of c Frame.limits = false
full_of c Frame.name = leb 256 c.names
full_of c Frame.schema_type = leb 256 c.types
full_of c Frame.predicate = leb 128 c.predicates
full_of c Frame.node = leb 512 c.nodes
full_of c Frame.query = false

-- Whether one more query is too many, by the counters.
abbrev pub past_of : Counters → Frame.Kind → Bool
past_of c Frame.limits = false
past_of c Frame.name = false
past_of c Frame.schema_type = false
past_of c Frame.predicate = false
past_of c Frame.node = false
past_of c Frame.query = leb 64 c.queries

-- The line is refused by the first condition that holds of what it says, or that is added to what was read, and its
-- print to the prints.
pub record TakesLine (e : Edition) (f : List ℕ) (at : ℕ) (s w prints : List ℕ) (c : Counters) (previous : Option Kind) (kind : Kind) (w' prints' : List ℕ)
    (r : Result Counters Refusal) : Type 0 where
  pub is : (next : ℕ) (T : Rows) (so : SoFar) → Held e f at w T c (known previous) so → Printed prints so.names → LineAt f at next s
      → Some (kind_meant kind) ≡ kind_of (get_or s 0 0)
      → LineEnds e f next w' (Some (kind_meant kind)) (after so (said_by e (Some s))) r (first_of conditions so (said_by e (Some s)))
  pub printed : (next : ℕ) (T : Rows) (so : SoFar) (d : Counters) → Held e f at w T c (known previous) so → Printed prints so.names → LineAt f at next s
      → Some (kind_meant kind) ≡ kind_of (get_or s 0 0) → r ≡ Ok d → Printed prints' (after so (said_by e (Some s))).names

-- ---- All lines

-- The counts in the order of their words, and the words with these written.
abbrev pub counts : Counters → List ℕ
counts c = c.names ∷ c.types ∷ c.predicates ∷ c.nodes ∷ numbered c.value ∷ []

abbrev pub counted : List ℕ → Counters → List ℕ
counted w c = sets w NAME-COUNT (counts c)

-- Refused exactly as the definition says, or the schema and the names that the definition describes stand in the slice,
-- and every type of the file by its number.
unfoldable pub ReadingEnds : Edition → List ℕ → List ℕ → Result (Unit {0}) Refusal → Reading → Type 0
ReadingEnds e f w' r (refused i) = (i' : Refusal) × (r ≡ Err i') × (refusal i' ≡ i)
ReadingEnds e f w' r (described d) = (r ≡ Ok tt) × (16384 ≤ length w') × ((T : Rows) × SchemaStands f w' T d.names d.schema × Declares w' T (types_of e f))

pub record TakesLines (e : Edition) (f w w' : List ℕ) (r : Result (Unit {0}) Refusal) : Type 0 where
  pub ends : ReadingEnds e f w' r (reading_of e f)

-- ---- The file

-- Refusals 1 to 10 in document 01's order, with so many words lent: the part of `decide` (meaning/specs/Outcome.antt)
-- before the check.
unfoldable pub reading_in : Edition → List ℕ → ℕ → Reading
unfolding reading_of min_words
reading_in e f words = elim (ltb words min_words) [ true ↦ refused Refused.work_too_short | false ↦ reading_of e f ]

pub record ReadsFile (e : Edition) (f w w' : List ℕ) (r : Result (Unit {0}) Refusal) : Type 0 where
  pub ends : ReadingEnds e f w' r (reading_in e f (length w))
  pub long : length w' ≡ length w

-- The same, with zeros throughout after a refusal.
pub record Reads (e : Edition) (f w w' : List ℕ) (r : Result (Unit {0}) Refusal) : Type 0 where
  pub ends : ReadingEnds e f w' r (reading_in e f (length w))
  pub long : length w' ≡ length w
  pub cleared : (i : Refusal) → r ≡ Err i → w' ≡ replicate (length w) 0
