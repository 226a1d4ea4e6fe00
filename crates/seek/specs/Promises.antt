-- What the functions of src/ promise: the entry is `entry_at` of crates/entries, for every file and every work slice; where it is found the
-- words hold the state right before it.
use Rattle.std.specs.Prelude.{List, ◌∷◌, ◌≡◌, ℕ, ◌≤◌, ◌<◌, length, Err, None, Option, Result, Some}
use Rattle.unification.specs.Ty as Tree
use Rattle.unification.specs.Bindings.{State}
use Rattle.unification.specs.Calls.{UnifyEntry}
use Rattle.cells.specs.declared.Ty.{Ty}
use Rattle.cells.specs.Stands.{Rows, tree, Ok, Holds}
use Rattle.format.specs.Syntax.{Ast}
use Rattle.format.specs.All.{All}
use Rattle.format.specs.Refusal.{too_many_visits}
use Rattle.format.specs.File.{Form, view_of, described, reading}
use Rattle.format.specs.Sound.{Sound}
use Rattle.meaning.specs.Check.{Checker, Step, goes, out, Typed}
use Rattle.meaning.specs.Run.{run}
use Rattle.meaning.specs.Outcome.{min_words, max_visits, run_all}
use Rattle.entries.specs.Entries as Defined
use Rattle.entries.specs.Entries.{entries_of, nth, found, fewer, turned_down, among, sought_run, entry_at, FallsIn}
use Rattle.tree.specs.Stands.{SchemaStands}
use Rattle.loading.specs.Promises.{Ahead}
use Rattle.reading.specs.Promises.{refusal}
use Rattle.reading.specs.declared.Refusal.{Refusal}

-- The schema and the names stand in the words, with whatever rows.
abbrev pub SchemaIn : List ℕ → List ℕ → Form → Type 0
SchemaIn f w form = (T : Rows) × SchemaStands f w T form.names form.schema

-- ---- The queries' whole runs

-- As the definition's run ends; where it went to its end its entries are counted and the others lie ahead.
unfoldable pub EntriesCounted : List ℕ → List ℕ → Form → List Ast → Result (ℕ × ℕ) Refusal → Step Tree.Ty → Type 0
EntriesCounted f w' form qs r (goes ty c) = (next : ℕ) × (r ≡ Result.Ok (next, length c.entries)) × Ahead f next qs × SchemaIn f w' form
EntriesCounted f w' form qs r (out c) = r ≡ Err Refusal.TooManyVisits

pub record CountsEntries (f : List ℕ) (at : ℕ) (w w' : List ℕ) (r : Result (ℕ × ℕ) Refusal) : Type 0 where
  pub is : (T : Rows) (form : Form) (a : Ast) (qs : List Ast) → Sound (view_of form a) → min_words ≤ length w → SchemaStands f w T form.names form.schema
      → Ahead f at (a ∷ qs) → EntriesCounted f w' form qs r (run form.schema a max_visits)
  pub onward : (next m : ℕ) → r ≡ Result.Ok (next, m) → (at < length f → at < next) × (next ≤ length f)
  pub words : length w' ≡ length w

unfoldable pub RanOn : List ℕ → List ℕ → Form → Result (Unit {0}) Refusal → Option (List Typed) → Type 0
RanOn f w' form r None = r ≡ Err Refusal.TooManyVisits
RanOn f w' form r (Some ts) = (r ≡ Result.Ok tt) × SchemaIn f w' form

pub record RunsOn (f : List ℕ) (from : ℕ) (w w' : List ℕ) (r : Result (Unit {0}) Refusal) : Type 0 where
  pub is : (T : Rows) (form : Form) (qs : List Ast) → All (λ a. Sound (view_of form a)) qs → min_words ≤ length w
      → SchemaStands f w T form.names form.schema → Ahead f from qs → RanOn f w' form r (run_all form.schema qs)
  pub words : length w' ≡ length w

-- ---- The query in which the entry is

-- It starts here, its run goes to its end, and what is sought is this entry of that run.
pub record SoughtHere (f w : List ℕ) (form : Form) (at rest : ℕ) (s : Defined.Sought) : Type 0 where
  pub query : Ast
  pub more : List Ast
  pub sound : Sound (view_of form query)
  pub ahead : Ahead f at (query ∷ more)
  pub rows : Rows
  pub stands : SchemaStands f w rows form.names form.schema
  pub ty : Tree.Ty
  pub last : Checker
  pub ran : run form.schema query max_visits ≡ goes ty last
  pub here : rest < length (entries_of form.schema query)
  pub is : s ≡ among (nth (entries_of form.schema query) rest)

-- There is such an entry, and it is the file's n-th; there are fewer; or a query's visits ran out.
abbrev pub PlacedEntry : List ℕ → List ℕ → Form → ℕ → Result (Option (ℕ × ℕ)) Refusal → Defined.Sought → Type 0
PlacedEntry f w' form n (Result.Ok (Some place)) s =
    (here : SoughtHere f w' form place.0 place.1 s) × FallsIn form.schema form.queries n here.query place.1
PlacedEntry f w' form n (Result.Ok None) s = s ≡ fewer
PlacedEntry f w' form n (Err e) s = (e ≡ Refusal.TooManyVisits) × (s ≡ turned_down too_many_visits)

pub record Places (f : List ℕ) (n : ℕ) (w w' : List ℕ) (r : Result (Option (ℕ × ℕ)) Refusal) : Type 0 where
  pub is : (T : Rows) (form : Form) → reading f ≡ described form → min_words ≤ length w → SchemaStands f w T form.names form.schema
      → PlacedEntry f w' form n r (sought_run form.schema form.queries n (run_all form.schema form.queries))
  pub words : length w' ≡ length w

-- ---- The entry

-- The words hold a state with its bindings, and its sides are in hand.
pub record ShowsEntry (w : List ℕ) (a b : Ty) (e : UnifyEntry) : Type 0 where
  pub rows : Rows
  pub state : State
  pub holds : Holds w rows state
  pub before : state.subst ≡ e.before
  pub got_there : Ok w a
  pub got : tree rows a ≡ e.got
  pub expected_there : Ok w b
  pub expected : tree rows b ≡ e.expected

-- What was found, beside what the definition finds.
abbrev pub ToldSought : List ℕ → Result (Option (Ty × Ty)) Refusal → Defined.Sought → Type 0
ToldSought w r (found e) = (a : Ty) × (b : Ty) × (r ≡ Result.Ok (Some (a, b))) × ShowsEntry w a b e
ToldSought w r fewer = r ≡ Result.Ok None
ToldSought w r (turned_down i) = (i' : Refusal) × (r ≡ Err i') × (refusal i' ≡ i)

pub record StopsAtEntry (f : List ℕ) (at n : ℕ) (w w' : List ℕ) (r : Ty × Ty) : Type 0 where
  pub is : (form : Form) (s : Defined.Sought) → min_words ≤ length w → SoughtHere f w form at n s → ToldSought w' (Result.Ok (Some r)) s
  pub words : length w' ≡ length w

-- ---- The whole

pub record Finds (f : List ℕ) (n : ℕ) (w w' : List ℕ) (r : Result (Option (Ty × Ty)) Refusal) : Type 0 where
  pub is : (T : Rows) (form : Form) → reading f ≡ described form → min_words ≤ length w → SchemaStands f w T form.names form.schema
      → ToldSought w' r (sought_run form.schema form.queries n (run_all form.schema form.queries))
  pub words : length w' ≡ length w

pub record Seeks (f : List ℕ) (n : ℕ) (w w' : List ℕ) (r : Result (Option (Ty × Ty)) Refusal) : Type 0 where
  pub is : ToldSought w' r (entry_at f n (length w))
  pub words : length w' ≡ length w
