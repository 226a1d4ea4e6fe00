-- A stage is written: the bindings, and the pairs behind them. What a turn tells.
use Rattle.std.proofs.Common.{List, ℕ, ◌≡◌, ◌∙◌, refl, ap, arith}
use Rattle.std.proofs.lemmas.Option.{some_pair_parts}
use Rattle.std.proofs.lemmas.Result.{err_from_is_err_and}
use Rattle.std.specs.Prelude.{Err, None, Option, Result, Some}
use Rattle.std.specs.Option.{ok_or}
use Rattle.std.specs.Result.{IsErrAnd}
use Rattle.writer.specs.Writes.{Writes}
use Rattle.plain.specs.Stages.{Lays, StaysInside}
use Rattle.plain.specs.declared.Unsolved.{Unsolved}
use Rattle.plain.proofs.Slices.{slice_low, writes_low, writes_there}
use Rattle.unification.proofs.Tests.{clash}

pub lays : {out a mid : List ℕ} {m : ℕ} → Writes out 0 a mid (Some m) → {b out' : List ℕ} {n : ℕ} → Writes mid m b out' (Some n)
    → Lays a b out out' (Some (m, n))
lays {out} {a} {mid} {m} f {b} {out'} {n} g = record {
  there = λ i j e.
      let p = some_pair_parts m i n j e in
      rw (← p.0, ← p.1) (slice_low mid out' m (writes_low g refl) 0 m (omega arith) ∙ writes_there f refl, writes_there g refl);
  over = λ e. clash (cc);
}

-- ---- A turn

-- An error is passed on.
pub passed_on : {B : Type 0} (r : Result B Unsolved) {f : Unsolved} → IsErrAnd r (λ e. e ≡ f) → r ≡ Err f
passed_on r h = let p = err_from_is_err_and r h in p.1 ∙ ap Err p.2

-- A turn that cannot go on tells that it is too few words.
pub too_few : {A B : Type 0} (r : Result B Unsolved) {f : Unsolved} (o : Option A) → IsErrAnd r (λ e. e ≡ f) → o ≡ None
    → ◌≡◌ {A = Result A Unsolved} (Err f) (ok_or o Unsolved.TooFew) → r ≡ Err Unsolved.TooFew
too_few {A} r {f} o h e g =
    let z : ◌≡◌ {A = Result A Unsolved} (Err f) (Err Unsolved.TooFew) = g ∙ ap (λ (x : Option A). ok_or x Unsolved.TooFew) e in
    let same : f ≡ Unsolved.TooFew = cc in
    passed_on r h ∙ ap Err same

pub lays_as : {a b out out' : List ℕ} {r r' : Option (ℕ × ℕ)} → r ≡ r' → Lays a b out out' r → Lays a b out out' r'
lays_as e f = rw e at f

pub stays_as : {out out' : List ℕ} {r r' : Option (ℕ × ℕ)} → r ≡ r' → StaysInside out out' r → StaysInside out out' r'
stays_as e f = rw e at f
