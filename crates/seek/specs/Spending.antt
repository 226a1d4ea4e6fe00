-- What the call spends of the purse that it is lent: the whole file is run as `check_file` (crate driver) runs it, and then the entry's query
-- once more, up to the entry.
use Rattle.std.specs.Prelude.{List, ◌∷◌, ◌≡◌, ℕ, ◌+◌, ◌-◌, ◌≤◌, length}
use Rattle.cells.specs.Stands.{Rows}
use Rattle.cabinet.specs.declared.Account.TheVariants.{Open}
use Rattle.format.specs.All.{All}
use Rattle.format.specs.Syntax.{Ast}
use Rattle.format.specs.Schema.{Schema}
use Rattle.format.specs.File.{Form, view_of, described, reading}
use Rattle.format.specs.Sound.{Sound}
use Rattle.meaning.specs.Check.{Checked, typed, exhausted, check, entry, begin_until, query}
use Rattle.meaning.specs.Run.{ending}
use Rattle.meaning.specs.Outcome.{min_words, max_visits}
use Rattle.entries.specs.Entries.{Sought, FallsIn}
use Rattle.tree.specs.Stands.{SchemaStands}
use Rattle.loading.specs.Promises.{Ahead}
use Rattle.unify.specs.declared.Purse.{Purse}
use Rattle.unify.specs.Purses.{spent}
use Rattle.driver.specs.Spending.{SpendsOn, SpendsOnQueries, SpendsOnFile}
use Rattle.seek.specs.Promises.{SoughtHere}

-- ---- The queries' whole runs

abbrev pub run_visits : Checked → ℕ
run_visits exhausted = 1048576
run_visits (typed t) = t.visits

-- Of the query that lies ahead.
pub record SpendsOnRun (f : List ℕ) (at : ℕ) (w : List ℕ) (p p' : Purse) : Type 0 where
  pub made : (T : Rows) (form : Form) (a : Ast) (qs : List Ast) → Sound (view_of form a) → min_words ≤ length w
      → SchemaStands f w T form.names form.schema → Ahead f at (a ∷ qs) → spent p' ≤ spent p + run_visits (check max_visits form.schema a)

-- Of those that lie ahead.
abbrev pub SpendsOnRest : List ℕ → ℕ → List ℕ → Purse → Purse → Type 0
SpendsOnRest f from w p p' =
    (T : Rows) (form : Form) (qs : List Ast) → All (λ a. Sound (view_of form a)) qs → min_words ≤ length w → SchemaStands f w T form.names form.schema
    → Ahead f from qs → SpendsOn form.schema qs Open p p'

-- ---- The run up to the entry

-- The visits of a query's run before its k-th entry.
unfoldable pub visits_up_to : Schema → Ast → ℕ → ℕ
unfolding ending query begin_until max_visits
visits_up_to schema a k = max_visits - (ending (query schema a.nodes a.query (begin_until (entry k) max_visits (length a.nodes)))).state.left

pub record SpendsUpTo (f : List ℕ) (at k : ℕ) (w : List ℕ) (p p' : Purse) : Type 0 where
  pub made : (form : Form) (s : Sought) → min_words ≤ length w → (here : SoughtHere f w form at k s)
      → spent p' ≤ spent p + visits_up_to form.schema here.query k

-- None, or the run up to the n-th entry of the file: that is the beginning of its query's whole run.
pub data SpendsAgain (f : List ℕ) (n : ℕ) (p p' : Purse) : Type 0 where
  not_again : spent p' ≤ spent p → SpendsAgain f n p p'
  up_to_it : (form : Form) (a : Ast) (k : ℕ) → reading f ≡ described form → FallsIn form.schema form.queries n a k
      → visits_up_to form.schema a k ≤ run_visits (check max_visits form.schema a) → spent p' ≤ spent p + visits_up_to form.schema a k
      → SpendsAgain f n p p'

-- ---- The whole

pub record SpendsOnFind (f : List ℕ) (n : ℕ) (w : List ℕ) (p p' : Purse) : Type 0 where
  pub between : Purse
  pub runs : SpendsOnQueries f w Open p between
  pub again : (T : Rows) (form : Form) → reading f ≡ described form → min_words ≤ length w → SchemaStands f w T form.names form.schema
      → SpendsAgain f n between p'

pub record SpendsOnEntry (f : List ℕ) (n words : ℕ) (p p' : Purse) : Type 0 where
  pub between : Purse
  pub runs : SpendsOnFile f words Open p between
  pub again : SpendsAgain f n between p'
