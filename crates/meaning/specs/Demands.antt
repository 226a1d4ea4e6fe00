-- Document 01's three demands of the whole call, said of `outcome` (Outcome.antt), which `check_file` of crate driver gives by its contract. The
-- theorems stand in proofs/Demands.antt. What a file says is `reading` of it (crate format); there `Says` (Content.antt) is the same from the
-- writer's side by `says_exactly` of proofs/Content.antt, and `Means` (Means.antt) has what each line says, without the reader of Frame.antt.
use Rattle.std.specs.Prelude.{List, ◌++◌, ◌↔◌, ◌≡◌, ℕ, ◌-◌, ◌<◌, ◌≤◌, length, replicate}
use Rattle.text.specs.Utf8.{Text}
use Rattle.format.specs.Refusal.{Refusal, work_too_short, broken_text, too_many_visits, answer_too_long}
use Rattle.format.specs.Frame.{wide}
use Rattle.format.specs.Refused as Lines
use Rattle.format.specs.All.{All, Any, Each}
use Rattle.format.specs.SoFar.{texts_in}
use Rattle.format.specs.File.{Form, described, reading}
use Rattle.meaning.specs.Check.{Typed, typed, exhausted, check}
use Rattle.meaning.specs.Run.{RunAsRobinson}
use Rattle.meaning.specs.Messages.{text_in}
use Rattle.meaning.specs.Answer.{form_lines}
use Rattle.meaning.specs.Outcome.{Accepted, Refused, min_words, max_visits, outcome}

-- ---- Demand 1

-- When a call is refused for which reason. Each condition stands where those before it in the order do not hold: 1; then 2, the lines in
-- file order and the missing query (`Refused` of format/specs/Refused.antt, 2 to 10 and 13); then, of the form that the file describes, 11 of any query,
-- and 12 of the whole answer.
pub data RefusedWhen (file : List ℕ) (words bytes : ℕ) : Refusal → Type 0 where
  for_work : words < min_words → RefusedWhen file words bytes work_too_short
  for_file : {i : Refusal} → min_words ≤ words → Lines.Refused wide file i → RefusedWhen file words bytes i
  for_visits : (f : Form) → min_words ≤ words → reading file ≡ described f → Any (λ a. check max_visits f.schema a ≡ exhausted) f.queries
      → RefusedWhen file words bytes too_many_visits
  for_answer : (f : Form) (ts : List Typed) → min_words ≤ words → reading file ≡ described f → Each (λ a t. check max_visits f.schema a ≡ typed t) f.queries ts
      → bytes < length (form_lines (text_in f) ts) → RefusedWhen file words bytes answer_too_long

-- When a call is accepted: ts is what `check` finds of each query that the file describes, each within the visits, and the answer fits.
pub record AcceptedWhen (file : List ℕ) (words bytes : ℕ) (f : Form) (ts : List Typed) : Type 0 where
  pub enough : min_words ≤ words
  pub reads : reading file ≡ described f
  pub checks : Each (λ a t. check max_visits f.schema a ≡ typed t) f.queries ts
  pub fits : length (form_lines (text_in f) ts) ≤ bytes

abbrev pub Zeros : ℕ → List ℕ → Type 0
Zeros n l = l ≡ replicate n 0

-- Each refusal exactly under its condition, and so acceptance; zeros as document 01 has them. `text_refused` is 7 once more, by RFC 3629's grammar.
pub record Demand1 (file : List ℕ) (words bytes : ℕ) : Type 0 where
  pub refused_exactly : (i : Refusal) → ((outcome file words bytes).result ≡ Refused i) ↔ RefusedWhen file words bytes i
  pub accepted_exactly : ((outcome file words bytes).result ≡ Accepted) ↔ ((f : Form) × (ts : List Typed) × AcceptedWhen file words bytes f ts)
  pub refused_zeros : (i : Refusal) → (outcome file words bytes).result ≡ Refused i → Zeros bytes (outcome file words bytes).answer
  pub work_zeros : Zeros words (outcome file words bytes).work
  pub text_refused : ((outcome file words bytes).result ≡ Refused broken_text) ↔ ((min_words ≤ words) × Lines.BrokenText wide file)

-- ---- Demand 2

-- Of an accepted call: the answer is that of ts (`form_lines`: one query's lines, or each query's after its line 0b), and zeros after it. It has
-- the type of each node, and each diagnostic's span and code in their order; none of its bytes is zero, so it ends at the first zero. The texts
-- of the file's name lines are RFC 3629's, and the number by which a fuzzy term is tested (`characters` of the schema) is the grammar's number of
-- characters. Every unification that the runs make, inner ones too, finds what Robinson's would, wherever demand 3 admits its sides.
pub record Demand2 (file : List ℕ) (words bytes : ℕ) : Type 0 where
  pub f : Form
  pub ts : List Typed
  pub when : AcceptedWhen file words bytes f ts
  pub answer : (outcome file words bytes).answer ≡ form_lines (text_in f) ts ++ replicate (bytes - length (form_lines (text_in f) ts)) 0
  pub nonzero : All (λ b. 0 < b) (form_lines (text_in f) ts)
  pub texts : Each Text (texts_in wide file) f.schema.characters
  pub robinson : All (λ a. RunAsRobinson f.schema a max_visits) f.queries
