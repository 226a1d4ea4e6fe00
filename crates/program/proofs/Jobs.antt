-- Each job's call comes to what is decided of the file by the job.
use mathlib.Core.List.{List}
use mathlib.Core.Path.{◌≡◌, sym, subst}
use Prim.Native.Nat.{ℕ}
use lib.ListN.{length}
use Rattle.meaning.specs.Outcome.{outcome}
use Rattle.driver.specs.Promises.{Finishes, ChecksFile}
use Rattle.converters.specs.Promises.{Widens, Narrows}
use Rattle.program.specs.declared.Job.{Job}
use Rattle.program.specs.Promises.{decided_by}
use Rattle.reading.specs.declared.Refusal.{Refusal}
use Rattle.std.specs.Prelude.{Result, ℕ}

abbrev Does : List ℕ → List ℕ → List ℕ → List ℕ → List ℕ → Result ℕ Refusal → Job → Type 0
Does f w out w' out' r j = Finishes (decided_by j f (length w)) w out w' out' r

module _ (f : List ℕ) {w out w' out' : List ℕ} {r : Result ℕ Refusal} (job : Job) where
  pub checked : job ≡ Job.Check → ChecksFile f w out w' out' r → Finishes (decided_by job f (length w)) w out w' out' r
  unfolding outcome
  checked e h = subst (Does f w out w' out' r) (sym e) (record { result = h.result; work = h.work; answer = h.answer; ends = h.ends })

  pub widened : job ≡ Job.Widen → Widens f w out w' out' r → Finishes (decided_by job f (length w)) w out w' out' r
  widened e h = subst (Does f w out w' out' r) (sym e) h

  pub narrowed : job ≡ Job.Narrow → Narrows f w out w' out' r → Finishes (decided_by job f (length w)) w out w' out' r
  narrowed e h = subst (Does f w out w' out' r) (sym e) h
