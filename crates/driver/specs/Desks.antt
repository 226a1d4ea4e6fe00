-- When a call at a desk is refused for which reason: 17; then 1; then 2 to 10 and 13; then, query by query, 11 or 16; then 12.
use Rattle.std.specs.Prelude.{List, [], ◌∷◌, ◌≡◌, ℕ, ◌<◌, ◌≤◌, length}
use Rattle.cabinet.specs.declared.Account.{Account}
use Rattle.cabinet.specs.declared.Group.{Group}
use Rattle.cabinet.specs.Accounts.{ceiling_in, charged_to}
use Rattle.format.specs.Syntax.{Ast}
use Rattle.format.specs.Schema.{Schema}
use Rattle.format.specs.Refusal.{Refusal, work_too_short, answer_too_long}
use Rattle.format.specs.Refused.{Refused}
use Rattle.format.specs.Frame.{wide}
use Rattle.format.specs.File.{Form, described, reading}
use Rattle.meaning.specs.Check.{Typed, typed, exhausted, check}
use Rattle.meaning.specs.Messages.{text_in}
use Rattle.meaning.specs.Answer.{form_lines}
use Rattle.meaning.specs.Outcome.{min_words}
use Rattle.driver.specs.At.{stop_at, desk_account}

-- A query passes its ceiling of that moment, those before it having been charged.
pub data Stops (schema : Schema) : List Ast → Account → Refusal → Type 0 where
  here : {q : Ast} {qs : List Ast} {a : Account} → check (ceiling_in a) schema q ≡ exhausted → Stops schema (q ∷ qs) a (stop_at (ceiling_in a))
  later : {q : Ast} {qs : List Ast} {a : Account} {i : Refusal} (t : Typed) → check (ceiling_in a) schema q ≡ typed t
      → Stops schema qs (charged_to a t.visits) i → Stops schema (q ∷ qs) a i

-- Each query ends within its ceiling of that moment.
pub data EndsWithin (schema : Schema) : List Ast → Account → List Typed → Type 0 where
  none_left : {a : Account} → EndsWithin schema [] a []
  one_more : {q : Ast} {qs : List Ast} {a : Account} {ts : List Typed} (t : Typed) → check (ceiling_in a) schema q ≡ typed t
      → EndsWithin schema qs (charged_to a t.visits) ts → EndsWithin schema (q ∷ qs) a (t ∷ ts)

-- At a desk of a group that obeys the rules.
pub data RefusedAt (g : Group) (d : ℕ) (f : List ℕ) (words bytes : ℕ) : Refusal → Type 0 where
  for_work : words < min_words → RefusedAt g d f words bytes work_too_short
  for_file : {i : Refusal} → min_words ≤ words → Refused wide f i → RefusedAt g d f words bytes i
  for_visits : {i : Refusal} (form : Form) → min_words ≤ words → reading f ≡ described form → Stops form.schema form.queries (desk_account g d) i
      → RefusedAt g d f words bytes i
  for_answer : (form : Form) (ts : List Typed) → min_words ≤ words → reading f ≡ described form → EndsWithin form.schema form.queries (desk_account g d) ts
      → bytes < length (form_lines (text_in form) ts) → RefusedAt g d f words bytes answer_too_long
