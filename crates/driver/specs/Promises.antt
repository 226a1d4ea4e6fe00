-- What the functions of src/ promise: the whole call is the one of meaning/specs/Outcome.antt, for every file and every two slices.
use Rattle.std.specs.Prelude as Std
use Rattle.std.specs.Prelude.{List, ◌++◌, ◌≡◌, ℕ, ◌-◌, ◌<◌, ◌≤◌, length, take, replicate, Err, Ok}
use Rattle.cells.specs.Stands.{Rows}
use Rattle.format.specs.File.{Form, described, reading}
use Rattle.meaning.specs.Messages.{text_in}
use Rattle.meaning.specs.Outcome as Defined
use Rattle.meaning.specs.Outcome.{Decided, turned_down, answered, Result, min_words, finish, decide, outcome}
use Rattle.tree.specs.Stands.{SchemaStands}
use Rattle.reading.specs.Promises.{refusal}
use Rattle.reading.specs.declared.Refusal.{Refusal}
use Rattle.format.specs.Refusal.{outside_the_rules}
use Rattle.cabinet.specs.declared.Account.{Account}
use Rattle.cabinet.specs.declared.Group.{Group}
use Rattle.cabinet.specs.Promises.{At}
use Rattle.cabinet.specs.Accounts.{group_in}
use Rattle.driver.specs.At.{run_at, decide_end, decide_at, desk_account}
use Rattle.driver.specs.Charges.{Pays}
use Rattle.driver.specs.declared.Settled.{Settled}
use Rattle.driver.specs.declared.Desked.{Desked}

-- The result as the definition has it, which leaves the answer's length out.
abbrev pub result_of : Std.Result ℕ Refusal → Result
result_of (Ok n) = Defined.Accepted
result_of (Err e) = Defined.Refused (refusal e)

-- How a call ends before the slices are cleared, by what is decided: the refusal; or the answer stands at the start of the answer slice,
-- unless it is longer than the slice.
unfoldable pub CallEnds : List ℕ → List ℕ → Std.Result ℕ Refusal → Decided → Type 0
CallEnds out out' r (turned_down e) = (e' : Refusal) × (r ≡ Err e') × (refusal e' ≡ e)
CallEnds out out' r (answered ls) =
    (length ls ≤ length out → (r ≡ Ok (length ls)) × (take (length ls) out' ≡ ls))
    × (length out < length ls → r ≡ Err Refusal.AnswerTooLong)

-- The queries of a described form whose schema and names stand in the words, and what they are charged to.
pub record RunsQueries (f w out : List ℕ) (a : Account) (out' : List ℕ) (r : Settled) : Type 0 where
  pub told : (T : Rows) (form : Form) → reading f ≡ described form → min_words ≤ length w → SchemaStands f w T form.names form.schema
      → CallEnds out out' r.outcome (decide_end (text_in form) (run_at form.schema form.queries a).end)
      × (r.account ≡ (run_at form.schema form.queries a).account)

pub record RunsFile (f w out : List ℕ) (a : Account) (w' out' : List ℕ) (r : Settled) : Type 0 where
  pub told : CallEnds out out' r.outcome (decide_at f (length w) a).decided
  pub account : r.account ≡ (decide_at f (length w) a).account
  pub words : length w' ≡ length w
  pub bytes : length out' ≡ length out

-- The bytes that a call keeps.
abbrev pub kept : Std.Result ℕ Refusal → ℕ
kept (Ok n) = n
kept (Err e) = 0

pub record Clears (r : Std.Result ℕ Refusal) (w out w' out' : List ℕ) : Type 0 where
  pub words : w' ≡ replicate (length w) 0
  pub bytes : out' ≡ take (kept r) out ++ replicate (length out - kept r) 0

-- A call that came to what is decided, with both slices cleared; where the file is accepted, the answer is the first n bytes of the answer
-- slice.
pub record Finishes (x : Decided) (w out w' out' : List ℕ) (r : Std.Result ℕ Refusal) : Type 0 where
  pub result : result_of r ≡ (finish x (length w) (length out)).result
  pub work : w' ≡ (finish x (length w) (length out)).work
  pub answer : out' ≡ (finish x (length w) (length out)).answer
  pub ends : (n : ℕ) → r ≡ Ok n → (n ≤ length out) × (x ≡ answered (take n out'))

-- The whole call, as the definition has it for the file and the two lengths alone; and where the file is accepted, the answer is the
-- first n bytes of the answer slice.
pub record ChecksFile (f w out w' out' : List ℕ) (r : Std.Result ℕ Refusal) : Type 0 where
  pub result : result_of r ≡ (outcome f (length w) (length out)).result
  pub work : w' ≡ (outcome f (length w) (length out)).work
  pub answer : out' ≡ (outcome f (length w) (length out)).answer
  pub ends : (n : ℕ) → r ≡ Ok n → (n ≤ length out) × (decide f (length w) ≡ answered (take n out'))

-- The call at a desk. "17 for a desk number [..] outside the rules, or a group handed in that breaks them [..], before 1, the group unchanged";
-- else it is as the definition has it, and the group is charged, by what the queries made.
pub record ChecksAt (g : Group) (d : ℕ) (f w out w' out' : List ℕ) (r : Desked) : Type 0 where
  pub outside : (At g d → ⊥) → Finishes (turned_down outside_the_rules) w out w' out' r.outcome × (r.group ≡ g)
  pub inside : At g d → Finishes (decide_at f (length w) (desk_account g d)).decided w out w' out' r.outcome
      × (r.group ≡ group_in (decide_at f (length w) (desk_account g d)).account)
  pub pays : Pays g d f (length w) (result_of r.outcome) r.group
