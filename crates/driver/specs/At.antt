-- Card 8: the queries of a file in turn, each under its ceiling of that moment, and each charged. Without a desk the ceiling is that of
-- document 01 and nothing is charged (`open_decides` in proofs/Opening.antt).
use Rattle.std.specs.Prelude.{true, false, List, [], ◌∷◌, ℕ, ltb}
use Rattle.cabinet.specs.declared.Account.{Account}
use Rattle.cabinet.specs.declared.Group.{Group}
use Rattle.cabinet.specs.Accounts.{ceiling_in, charged_to}
use Rattle.format.specs.Syntax.{Ast}
use Rattle.format.specs.Schema.{Schema}
use Rattle.format.specs.Refusal.{Refusal, work_too_short, too_many_visits, ceiling_passed}
use Rattle.format.specs.File.{Reading, refused, described, reading_of, reading}
use Rattle.meaning.specs.Check.{Typed, Checked, typed, exhausted, check}
use Rattle.meaning.specs.Diag.{Message}
use Rattle.meaning.specs.Messages.{text_in}
use Rattle.meaning.specs.Answer.{form_lines}
use Rattle.meaning.specs.Outcome.{Decided, turned_down, answered, min_words, max_visits}

-- How the queries end: all of them ran, or one was stopped.
pub data End : Type 0 where
  all : List Typed → End
  stopped : Refusal → End

-- "16 where the ceiling is under 1,048,576 and is passed, in the place of 11"
unfoldable pub stop_at : ℕ → Refusal
unfolding max_visits
stop_at ceiling = elim (ltb ceiling max_visits) [ true ↦ ceiling_passed | false ↦ too_many_visits ]

abbrev pub first : Typed → End → End
first t (all ts) = all (t ∷ ts)
first t (stopped i) = stopped i

pub record RunAt : Type 0 where
  pub account : Account
  pub end : End

-- "The visits made are charged, also on a refusal; a query stopped by its ceiling is charged the ceiling."
abbrev pub after : Account → Checked → (Account → RunAt) → RunAt
after a exhausted rest = record { account = charged_to a (ceiling_in a); end = stopped (stop_at (ceiling_in a)) }
after a (typed t) rest = record { account = (rest (charged_to a t.visits)).account; end = first t (rest (charged_to a t.visits)).end }

-- "The queries of one file are charged in turn."
unfoldable pub run_at : Schema → List Ast → Account → RunAt
unfolding check
run_at schema [] a = record { account = a; end = all [] }
run_at schema (q ∷ qs) a = after a (check (ceiling_in a) schema q) (λ b. run_at schema qs b)

-- What is decided before the answer is written, and what is charged by then.
pub record Decision : Type 0 where
  pub account : Account
  pub decided : Decided

abbrev pub decide_end : (Message → List ℕ) → End → Decided
decide_end text (all ts) = answered (form_lines text ts)
decide_end text (stopped i) = turned_down i

unfoldable pub decide_read_at : Reading → Account → Decision
unfolding run_at
decide_read_at (refused i) a = record { account = a; decided = turned_down i }
decide_read_at (described f) a = record { account = (run_at f.schema f.queries a).account; decided = decide_end (text_in f) (run_at f.schema f.queries a).end }

unfoldable pub decide_at : List ℕ → ℕ → Account → Decision
unfolding decide_read_at reading_of min_words
decide_at file words a =
    elim (ltb words min_words) [ true ↦ record { account = a; decided = turned_down work_too_short } | false ↦ decide_read_at (reading file) a ]

abbrev pub desk_account : Group → ℕ → Account
desk_account g d = Account.At (record { group = g; desk = d })
