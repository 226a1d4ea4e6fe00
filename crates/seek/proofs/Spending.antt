-- Queries in turn without a desk: what is spent on the first of them and on the others is spent on all.
use mathlib.Core.Bool.{Bool, true, false}
use mathlib.Core.List.{List, [], ◌∷◌}
use mathlib.Core.Path.{◌≡◌, refl, ap}
use Prim.Native.Nat.{ℕ, ◌+◌, ◌≤◌}
use native.Mathlib.Omega.{arith}
use Rattle.std.proofs.lemmas.List.Sums.{sum_by-cons}
use Rattle.cabinet.specs.declared.Account.TheVariants.{Open}
use Rattle.unification.specs.Ty.{Ty}
use Rattle.unification.proofs.Tests.{clash}
use Rattle.format.specs.Syntax.{Ast}
use Rattle.format.specs.Schema.{Schema}
use Rattle.meaning.specs.Check.{Checker, Checked, goes, out, typed, exhausted, checked, check}
use Rattle.meaning.specs.Run.{run}
use Rattle.meaning.specs.Outcome.{max_visits}
use Rattle.unify.specs.declared.Purse.{Purse}
use Rattle.unify.specs.Purses.{spent}
use Rattle.driver.specs.Charges.{InTurn, over, ended, stopped}
use Rattle.driver.specs.Spending.{SpendsOn}
use Rattle.seek.specs.Spending.{run_visits}

-- Nothing is charged, so how many were made before is the same to them.
from_any : {schema : Schema} {qs : List Ast} {n : ℕ} {visits : List ℕ} {all : Bool} (m : ℕ) → InTurn schema Open qs n visits all
    → InTurn schema Open qs m visits all
from_any m over = over
from_any m (ended t e s) = ended t e (from_any (m + t.visits) s)
from_any m (stopped e) = stopped e

pub spends_none : (schema : Schema) (p : Purse) → SpendsOn schema [] Open p p
spends_none schema p = record { visits = []; all = true; turns = over; spent = omega arith }

module _ {schema : Schema} {a : Ast} (qs : List Ast) {p p₁ : Purse} (here : spent p₁ ≤ spent p + run_visits (check max_visits schema a)) where
  -- It ended, and the others have their turns.
  pub spends_first : {ty : Ty} {c : Checker} → run schema a max_visits ≡ goes ty c → {p' : Purse} → SpendsOn schema qs Open p₁ p'
      → SpendsOn schema (a ∷ qs) Open p p'
  unfolding check checked run max_visits
  spends_first {ty} {c} e {p'} rest = go (check max_visits schema a) refl (ap (checked max_visits) e)
    where
      go : (x : Checked) → check max_visits schema a ≡ x → x ≡ checked max_visits (goes ty c) → SpendsOn schema (a ∷ qs) Open p p'
      go exhausted q r = clash (cc r)
      go (typed t) q r =
          let made : spent p₁ ≤ spent p + t.visits = rw q at here in
          record {
            visits = t.visits ∷ rest.visits;
            all = rest.all;
            turns = ended t q (from_any (0 + t.visits) rest.turns);
            spent = omega (arith, made, rest.spent, sum_by-cons (λ n. n) t.visits rest.visits);
          }

  -- It was stopped.
  pub spends_stop : {c : Checker} → run schema a max_visits ≡ out c → SpendsOn schema (a ∷ qs) Open p p₁
  unfolding check checked run max_visits
  spends_stop {c} e =
      let q : check max_visits schema a ≡ exhausted = ap (checked max_visits) e in
      let made : spent p₁ ≤ spent p + 1048576 = rw q at here in
      record {
        visits = 1048576 ∷ [];
        all = false;
        turns = stopped q;
        spent = omega (arith, made, sum_by-cons (λ n. n) 1048576 []);
      }
