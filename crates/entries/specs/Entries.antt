-- Card 12: "the n-th entry to `unify` from outside it, counted from 0 over the file's run". The run of a file is its
-- queries' runs in order, with one count; each entry has its sides and the bindings right before it. Entries that fail,
-- that are rolled back later, or that have Error on a side are entries too.
use Rattle.std.specs.Prelude.{true, false, List, [], ◌∷◌, ◌++◌, ◌≡◌, ℕ, zero, suc, ◌+◌, ◌<◌, length, ltb, replicate, None, Option, Some}
use Rattle.unification.specs.Calls.{UnifyEntry}
use Rattle.format.specs.Syntax.{Ast}
use Rattle.format.specs.Schema.{Schema}
use Rattle.format.specs.Refusal.{Refusal, work_too_short, too_many_visits}
use Rattle.format.specs.File.{Form, Reading, refused, described, reading_of, reading}
use Rattle.meaning.specs.Check.{Typed, reversed}
use Rattle.meaning.specs.Run.{ending, run}
use Rattle.meaning.specs.Entries.{EntryOfRun}
use Rattle.meaning.specs.Outcome.{min_words, max_visits, run_all}

-- Those of a query's whole run, the first one first.
unfoldable pub entries_of : Schema → Ast → List UnifyEntry
unfolding run ending reversed max_visits
entries_of schema a = reversed (ending (run schema a max_visits)).entries []

unfoldable pub entries_all : Schema → List Ast → List UnifyEntry
unfolding entries_of
entries_all schema [] = []
entries_all schema (a ∷ more) = entries_of schema a ++ entries_all schema more

unfoldable pub nth : {A : Type 0} → List A → ℕ → Option A
nth [] n = None
nth (x ∷ xs) zero = Some x
nth (x ∷ xs) (suc n) = nth xs n

pub data Sought : Type 0 where
  found : UnifyEntry → Sought
  fewer : Sought
  turned_down : Refusal → Sought

unfoldable pub among : Option UnifyEntry → Sought
among None = fewer
among (Some e) = found e

-- "11 also where the visits run out only after the n-th": the whole file is run.
unfoldable pub sought_run : Schema → List Ast → ℕ → Option (List Typed) → Sought
unfolding entries_all nth among
sought_run schema qs n None = turned_down too_many_visits
sought_run schema qs n (Some ts) = among (nth (entries_all schema qs) n)

unfoldable pub sought_read : ℕ → Reading → Sought
unfolding sought_run run_all
sought_read n (refused r) = turned_down r
sought_read n (described f) = sought_run f.schema f.queries n (run_all f.schema f.queries)

-- The n-th entry of a file's run, with so many words lent.
unfoldable pub entry_at : List ℕ → ℕ → ℕ → Sought
unfolding sought_read reading_of min_words
entry_at file n words = elim (ltb words min_words) [ true ↦ turned_down work_too_short | false ↦ sought_read n (reading file) ]

-- The n-th entry of the runs of queries, one after the other, is the k-th of this one's.
pub data FallsIn (schema : Schema) : List Ast → ℕ → Ast → ℕ → Type 0 where
  here : {a : Ast} {more : List Ast} {k : ℕ} → k < length (entries_of schema a) → FallsIn schema (a ∷ more) k a k
  later : {a b : Ast} {more : List Ast} {n k : ℕ} → FallsIn schema more n b k → FallsIn schema (a ∷ more) (length (entries_of schema a) + n) b k

-- The n-th entry of a file's run as it was made in that run, with the run's own state.
pub record OwnEntry (file : List ℕ) (n : ℕ) (e : UnifyEntry) : Type 0 where
  pub form : Form
  pub reads : reading file ≡ described form
  pub query : Ast
  pub k : ℕ
  pub falls : FallsIn form.schema form.queries n query k
  pub made : EntryOfRun max_visits (replicate (length query.nodes) None) (ending (run form.schema query max_visits)) k e
