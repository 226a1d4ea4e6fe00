-- What a call spends of the purse that it is lent: no more than the visits of the file's queries, each within its ceiling of that moment.
use Rattle.std.specs.Prelude.{Bool, List, ◌≡◌, ℕ, ◌+◌, ◌≤◌, ◌<◌, length, None, Option, Some, sum}
use Rattle.cells.specs.Stands.{Rows}
use Rattle.cabinet.specs.declared.Account.{Account}
use Rattle.cabinet.specs.declared.Group.{Group}
use Rattle.cabinet.specs.Cabinet.{desk}
use Rattle.format.specs.Syntax.{Ast}
use Rattle.format.specs.Schema.{Schema}
use Rattle.format.specs.Refusal.{Refusal}
use Rattle.format.specs.File.{Form, refused, described, reading}
use Rattle.meaning.specs.Outcome.{min_words}
use Rattle.tree.specs.Stands.{SchemaStands}
use Rattle.unify.specs.declared.Purse.{Purse}
use Rattle.unify.specs.Purses.{spent}
use Rattle.driver.specs.Charges.{InTurn}

-- ---- A query

-- The visits that come back with the answer, or the ceiling of a query that was stopped by it.
abbrev pub answer_visits : ℕ → Option (Option ℕ × ℕ) → ℕ
answer_visits ceiling None = ceiling
answer_visits ceiling (Some r) = r.1

abbrev pub turn_visits : ℕ → Option (ℕ × Option ℕ × ℕ) → ℕ
turn_visits ceiling None = ceiling
turn_visits ceiling (Some r) = r.2

-- ---- The queries

pub record SpendsOn (schema : Schema) (qs : List Ast) (a : Account) (p p' : Purse) : Type 0 where
  pub visits : List ℕ
  pub all : Bool
  pub turns : InTurn schema a qs 0 visits all
  pub spent : spent p' ≤ spent p + sum visits

-- Of a described form whose schema and names stand in the words.
abbrev pub SpendsOnQueries : List ℕ → List ℕ → Account → Purse → Purse → Type 0
SpendsOnQueries f w a p p' =
    (T : Rows) (form : Form) → reading f ≡ described form → min_words ≤ length w → SchemaStands f w T form.names form.schema
    → SpendsOn form.schema form.queries a p p'

-- ---- The whole call

-- Nothing, where the file is refused before any query has its turn.
pub record SpendsOnFile (f : List ℕ) (words : ℕ) (a : Account) (p p' : Purse) : Type 0 where
  pub short : words < min_words → spent p' ≤ spent p
  pub refused : (i : Refusal) → reading f ≡ refused i → spent p' ≤ spent p
  pub queries : (form : Form) → min_words ≤ words → reading f ≡ described form → SpendsOn form.schema form.queries a p p'

-- The desk is charged for all that was spent.
abbrev pub ChargesSpent : Group → ℕ → Group → Purse → Purse → Type 0
ChargesSpent g d h p p' = spent p' + (desk g d).used ≤ spent p + (desk h d).used
