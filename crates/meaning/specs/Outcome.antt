-- The whole call (document 01, "When a file is turned down"; "Contract and case"): the outcome and both slices at exit,
-- from the file and the lengths of the two slices alone. "1, 2, then lines in file order, in each the lowest number, then
-- the missing 06, then 11, then 12. After a refusal both slices are zero throughout."
use Rattle.std.specs.Prelude.{true, false, List, [], ◌∷◌, ◌++◌, ℕ, ◌-◌, ltb, length, replicate, None, Option, Some}
use Rattle.format.specs.Syntax.{Ast}
use Rattle.format.specs.Schema.{Schema}
use Rattle.format.specs.Refusal.{Refusal, work_too_short, too_many_visits, answer_too_long, number}
use Rattle.format.specs.File.{Reading, refused, described, reading_of, reading}
use Rattle.meaning.specs.Check.{Typed, Checked, typed, exhausted, check}
use Rattle.meaning.specs.Diag.{Message}
use Rattle.meaning.specs.Messages.{message_text, text_in}
use Rattle.format.specs.Bytes.{hex_line}
use Rattle.meaning.specs.Answer.{form_lines}

-- The words that must be lent, and the visits that a query of a form may make.
unfoldable pub min_words : ℕ
min_words = 16384

unfoldable pub max_visits : ℕ
max_visits = 1048576

-- What is decided before the answer is written: a refusal, or the answer however long it is.
pub data Decided : Type 0 where
  turned_down : Refusal → Decided
  answered : List ℕ → Decided

unfoldable pub with_checked : Checked → Option (List Typed) → Option (List Typed)
with_checked exhausted ts = None
with_checked (typed t) None = None
with_checked (typed t) (Some ts) = Some (t ∷ ts)

-- Each query's run, from no node, no unknown and no visit; none where one of them runs out of visits.
unfoldable pub run_all : Schema → List Ast → Option (List Typed)
unfolding with_checked check max_visits
run_all schema [] = Some []
run_all schema (a ∷ more) = with_checked (check max_visits schema a) (run_all schema more)

unfoldable pub decide_run : (Message → List ℕ) → Option (List Typed) → Decided
unfolding form_lines
decide_run text None = turned_down too_many_visits
decide_run text (Some ts) = answered (form_lines text ts)

-- "All lines are read before the first query runs, and one refusal turns down the whole file."
unfoldable pub decide_read : Reading → Decided
unfolding decide_run run_all message_text
decide_read (refused r) = turned_down r
decide_read (described f) = decide_run (text_in f) (run_all f.schema f.queries)

unfoldable pub decide : List ℕ → ℕ → Decided
unfolding decide_read reading_of min_words
decide file words = elim (ltb words min_words) [ true ↦ turned_down work_too_short | false ↦ decide_read (reading file) ]

pub data Result : Type 0 where
  Accepted : Result
  Refused : Refusal → Result

pub record Outcome : Type 0 where
  pub result : Result
  pub work : List ℕ
  pub answer : List ℕ

unfoldable pub refuse : Refusal → ℕ → ℕ → Outcome
refuse r words bytes = record { result = Refused r; work = replicate words 0; answer = replicate bytes 0 }

-- The answer's lines, and zeros after the last LF.
unfoldable pub accept : List ℕ → ℕ → ℕ → Outcome
accept ls words bytes = record { result = Accepted; work = replicate words 0; answer = ls ++ replicate (bytes - length ls) 0 }

unfoldable pub finish : Decided → ℕ → ℕ → Outcome
unfolding refuse accept
finish (turned_down r) words bytes = refuse r words bytes
finish (answered ls) words bytes = elim (ltb bytes (length ls)) [ true ↦ refuse answer_too_long words bytes | false ↦ accept ls words bytes ]

unfoldable pub outcome : List ℕ → ℕ → ℕ → Outcome
unfolding decide finish
outcome file words bytes = finish (decide file words) words bytes

-- What the program prints: the answer, or one line 0f and the refusal's number.
unfoldable pub printed_lines : Decided → ℕ → List ℕ
unfolding hex_line number
printed_lines (turned_down r) bytes = hex_line (0x0f ∷ number r ∷ [])
printed_lines (answered ls) bytes = elim (ltb bytes (length ls)) [ true ↦ hex_line (0x0f ∷ number answer_too_long ∷ []) | false ↦ ls ]

unfoldable pub printed : List ℕ → List ℕ
unfolding decide printed_lines min_words
printed file = printed_lines (decide file min_words) 65536
