-- Days at the desks: the groups that whole calls lead to, and an answer at a desk beside the answer without one.
use Rattle.std.specs.Prelude.{Result, Ok, List, [], ◌∷◌, ◌≡◌, ℕ, ◌<◌, true, false, eqb, sum_by}
use Rattle.cabinet.specs.declared.Group.{Group}
use Rattle.cabinet.specs.declared.Account.{Account}
use Rattle.cabinet.specs.Accounts.{ceiling_in, charged_to}
use Rattle.cabinet.specs.Cabinet.{desk}
use Rattle.cabinet.specs.Promises.{Rests, SetsUp, left}
use Rattle.format.specs.Syntax.{Ast}
use Rattle.format.specs.Schema.{Schema}
use Rattle.meaning.specs.Check.{Typed, typed, exhausted, check}
use Rattle.driver.specs.declared.Desked.{Desked}
use Rattle.driver.specs.Promises.{ChecksAt}

-- Any list of calls from a set-up that is not turned down: files checked at any desks, in any slices, whatever comes of it, and new days.
pub data Days : Group → Type 0 where
  set_up_lem : (pool : ℕ) (shares caps : List ℕ) {g : Group} → SetsUp pool shares caps (Ok g) → Days g
  check_at_lem : {g : Group} → Days g → (d : ℕ) (f w out w' out' : List ℕ) (r : Desked) → ChecksAt g d f w out w' out' r → Days r.group
  new_day : {g : Group} → Days g → (r : Result Group Group) → Rests g r → Days (left r)

-- What a call at a desk was charged.
pub record Paid : Type 0 where
  pub desk : ℕ
  pub charge : ℕ

-- Any list of calls since a set-up or a new day, newest first, with what each was charged.
pub data Day : Group → List Paid → Type 0 where
  set_up_lem : (pool : ℕ) (shares caps : List ℕ) {g : Group} → SetsUp pool shares caps (Ok g) → Day g []
  new_day : {g h : Group} → Rests g (Ok h) → Day h []
  check_at_lem : {g : Group} {ps : List Paid} → Day g ps → (d : ℕ) (f w out w' out' : List ℕ) (r : Desked) (c : ChecksAt g d f w out w' out' r)
      → Day r.group (record { desk = d; charge = c.pays.charge } ∷ ps)

-- What a call adds to a desk's.
abbrev pub charge_of : ℕ → Paid → ℕ
charge_of d p = elim (eqb p.desk d) [ true ↦ p.charge | false ↦ 0 ]

-- Each desk's use is the sum of what its calls were charged.
abbrev pub UsesAddUp : Type 0
UsesAddUp = (g : Group) (ps : List Paid) → Day g ps → (d : ℕ) → d < 16 → (desk g d).used ≡ sum_by (charge_of d) ps

-- The first query that passes its ceiling of that moment, those before it having been charged: wherever it ends, it makes more visits.
pub data ShortOf (schema : Schema) : List Ast → Account → Type 0 where
  stopped : {q : Ast} {qs : List Ast} {a : Account} → check (ceiling_in a) schema q ≡ exhausted
      → ((c : ℕ) (t : Typed) → check c schema q ≡ typed t → ceiling_in a < t.visits) → ShortOf schema (q ∷ qs) a
  ran : {q : Ast} {qs : List Ast} {a : Account} (t : Typed) → check (ceiling_in a) schema q ≡ typed t
      → ShortOf schema qs (charged_to a t.visits) → ShortOf schema (q ∷ qs) a
