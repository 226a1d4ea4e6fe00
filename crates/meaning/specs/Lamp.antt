-- Card 4, "Red or green lamp": whether a query of a file has a diagnostic. A run is the same run of `check`, made to last until its first
-- diagnostic; the queries are asked in file order. What this has to do with the whole answer is said of each query's whole run
-- (`lamp_is`, `lamp_answered`, `lamp_refused` of crates/laws/proofs/Lamp.antt).
use Rattle.std.specs.Prelude.{true, false, List, [], ◌∷◌, ◌≢◌, ◌≡◌, ℕ, ◌+◌, ◌-◌, ltb, length}
use Rattle.unification.specs.Ty.{Ty}
use Rattle.format.specs.Syntax.{Ast}
use Rattle.format.specs.Schema.{Schema}
use Rattle.meaning.specs.Diag.{Diagnostic}
use Rattle.format.specs.Refusal.{Refusal, work_too_short, too_many_visits}
use Rattle.format.specs.Lines.{Line, closed, lines}
use Rattle.format.specs.All.{All, Any}
use Rattle.format.specs.File.{Reading, refused, described, reading_of, reading}
use Rattle.meaning.specs.Check.{Checker, Step, goes, out, first_diagnostic, begin_until, query}
use Rattle.meaning.specs.Run.{ending, run}
use Rattle.meaning.specs.Outcome.{min_words, max_visits}

-- The run that lasts until its first diagnostic.
unfoldable pub lit_run : Schema → Ast → ℕ → Step Ty
unfolding query begin_until
lit_run schema ast ceiling = query schema ast.nodes ast.query (begin_until first_diagnostic ceiling (length ast.nodes))

pub data Lamp : Type 0 where
  Yes No : Lamp
  Refused : Refusal → Lamp

-- A run that stopped: at a diagnostic, or the visits ran out before one came.
unfoldable pub stopped : List Diagnostic → Lamp
stopped [] = Refused too_many_visits
stopped (d ∷ ds) = Yes

-- One that went through has none, and the next query is asked.
unfoldable pub lamp_after : Step Ty → Lamp → Lamp
unfolding stopped
lamp_after (goes ty c) rest = rest
lamp_after (out c) rest = stopped c.diagnostics

unfoldable pub lamp_all : Schema → List Ast → Lamp
unfolding lamp_after lit_run max_visits
lamp_all schema [] = No
lamp_all schema (a ∷ more) = lamp_after (lit_run schema a max_visits) (lamp_all schema more)

unfoldable pub lamp_read : Reading → Lamp
unfolding lamp_all
lamp_read (refused r) = Refused r
lamp_read (described f) = lamp_all f.schema f.queries

-- No answer slice is lent, and the work slice is zero throughout after each.
unfoldable pub lamp : List ℕ → ℕ → Lamp
unfolding lamp_read reading_of min_words
lamp file words = elim (ltb words min_words) [ true ↦ Refused work_too_short | false ↦ lamp_read (reading file) ]

-- ---- The visits

-- Those of the queries that are asked, each run's until it ends: a call that went on after the first diagnostic would make others.
unfoldable pub visits_after : Step Ty → ℕ → ℕ
visits_after (goes ty c) rest = max_visits - c.state.left + rest
visits_after (out c) rest = max_visits - c.state.left

unfoldable pub visits_all : Schema → List Ast → ℕ
unfolding visits_after lit_run max_visits
visits_all schema [] = 0
visits_all schema (a ∷ more) = visits_after (lit_run schema a max_visits) (visits_all schema more)

unfoldable pub visits_read : Reading → ℕ
unfolding visits_all
visits_read (refused r) = 0
visits_read (described f) = visits_all f.schema f.queries

unfoldable pub lamp_visits : List ℕ → ℕ → ℕ
unfolding visits_read reading_of min_words
lamp_visits file words = elim (ltb words min_words) [ true ↦ 0 | false ↦ visits_read (reading file) ]

-- ---- Of whole runs

-- The run goes through and has no diagnostic.
abbrev pub RunsClean : Schema → Ast → Type 0
RunsClean schema a = (ty : Ty) × (c : Checker) × (run schema a max_visits ≡ goes ty c) × (c.diagnostics ≡ [])

-- It has one, whether it goes through or not.
abbrev pub HasDiagnostic : Schema → Ast → Type 0
HasDiagnostic schema a = (ending (run schema a max_visits)).diagnostics ≢ []

-- The visits run out, and none came before.
abbrev pub Silent : Schema → Ast → Type 0
Silent schema a = (c : Checker) × (run schema a max_visits ≡ out c) × (c.diagnostics ≡ [])

-- The first that is not P is Q.
pub data FirstNot {A : Type 0} (P Q : A → Type 0) : List A → Type 0 where
  here : {a : A} {more : List A} → Q a → FirstNot P Q (a ∷ more)
  later : {a : A} {more : List A} → P a → FirstNot P Q more → FirstNot P Q (a ∷ more)

pub data LampIs (schema : Schema) (qs : List Ast) : Lamp → Type 0 where
  shown : FirstNot (RunsClean schema) (HasDiagnostic schema) qs → LampIs schema qs Yes
  none_shown : All (RunsClean schema) qs → LampIs schema qs No
  ran_out : FirstNot (RunsClean schema) (Silent schema) qs → LampIs schema qs (Refused too_many_visits)

-- ---- Of the answer

-- a line that begins with 08
pub record Is08 (l : Line) : Type 0 where
  pub rest : List ℕ
  pub is : l ≡ closed (48 ∷ 56 ∷ rest)

abbrev pub Has08 : List ℕ → Type 0
Has08 answer = Any Is08 (lines answer)
