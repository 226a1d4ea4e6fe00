-- The reading, and then the queries of what was read: what is sought, by what the reading comes to in so many words.
use mathlib.Core.List.{List}
use mathlib.Core.Path.{◌≡◌, refl, sym, ap, ◌∙◌, subst}
use Prim.Native.Nat.{ℕ, ◌-◌, ◌≤◌}
use lib.Dec.{ltb}
use lib.ListN.{length}
use Rattle.unification.proofs.Tests.{clash}
use Rattle.format.specs.Frame.{wide}
use Rattle.format.specs.Refusal as Meaning
use Rattle.format.specs.File.{Form, Reading, refused, described, reading}
use Rattle.meaning.specs.Outcome.{min_words, max_visits, run_all}
use Rattle.format.proofs.Tests.{cases}
use Rattle.entries.specs.Entries.{sought_run, sought_read, entry_at}
use Rattle.reading.specs.Promises.{refusal, ReadingEnds, reading_in, ReadsFile}
use Rattle.reading.specs.declared.Refusal.{Refusal}
use Rattle.meaning.specs.Check.{check, checked}
use Rattle.meaning.specs.Run.{ending, run}
use Rattle.entries.specs.Entries.{Sought}
use Rattle.entries.proofs.Entries.{no_more_made}
use Rattle.seek.specs.Promises.{SoughtHere, Places, ToldSought, StopsAtEntry, Finds, Seeks}
use Rattle.seek.specs.Spending.{run_visits, visits_up_to, SpendsUpTo, SpendsAgain, not_again, up_to_it, SpendsOnFind, SpendsOnEntry}
use Rattle.cabinet.specs.declared.Account.TheVariants.{Open}
use Rattle.driver.specs.Spending.{SpendsOnQueries}
use Rattle.driver.proofs.Spending.{unread_spends, read_spends}
use Rattle.unify.specs.declared.Purse.{Purse}
use native.Mathlib.Omega.{arith}
use Rattle.std.specs.Prelude.{Err, None, Ok, Option, Result, Some}
use Rattle.cells.specs.declared.Ty.{Ty}

-- The second run of the entry's query is the beginning of the first.
beginning : {f w : List ℕ} {form : Form} {at rest : ℕ} {s : Sought} (W : SoughtHere f w form at rest s)
    → visits_up_to form.schema W.query rest ≤ run_visits (check max_visits form.schema W.query)
unfolding visits_up_to ending check checked run max_visits
beginning {form = form} {rest = rest} W =
    let e : run_visits (check max_visits form.schema W.query) ≡ max_visits - W.last.state.left = ap (λ y. run_visits (checked max_visits y)) W.ran in
    rw e (omega (arith, no_more_made form.schema W.query W.ty W.last W.ran rest))

-- ---- Of a file that was read

module _ {f : List ℕ} {n : ℕ} {w w₁ : List ℕ} where
  pub find_at : {at rest : ℕ} → Places f n w w₁ (Ok (Some (at, rest))) → {w₂ : List ℕ} {r : Ty × Ty} → StopsAtEntry f at rest w₁ w₂ r
      → Finds f n w w₂ (Ok (Some r))
  find_at P S = record {
    is = λ T form q l s. S.is form (sought_run form.schema form.queries n (run_all form.schema form.queries)) (rw P.words l) (P.is T form q l s).0;
    words = S.words ∙ P.words;
  }

  -- The query of the entry is run again, from where the whole runs left the purse.
  pub find_at_spends : {at rest : ℕ} → Places f n w w₁ (Ok (Some (at, rest))) → {p₁ : Purse} → {p : Purse} → SpendsOnQueries f w Open p p₁
      → {p' : Purse} → SpendsUpTo f at rest w₁ p₁ p' → SpendsOnFind f n w p p'
  find_at_spends {at} {rest} P {p₁} runs again = record {
    between = p₁;
    runs = runs;
    again = λ T form q l s.
        let x = P.is T form q l s in
        up_to_it form x.0.query rest q x.1 (beginning x.0)
        (again.made form (sought_run form.schema form.queries n (run_all form.schema form.queries)) (rw P.words l) x.0);
  }

  pub find_fewer : Places f n w w₁ (Ok None) → Finds f n w w₁ (Ok None)
  find_fewer P = record { is = λ T form q l s. subst (ToldSought w₁ (Ok None)) (sym (P.is T form q l s)) refl; words = P.words }

  pub find_out : {e : Refusal} → Places f n w w₁ (Err e) → Finds f n w w₁ (Err e)
  find_out {e} P = record {
    is = λ T form q l s. let h = P.is T form q l s in subst (ToldSought w₁ (Err e)) (sym h.1) (e, refl, ap refusal h.0);
    words = P.words;
  }

pub found_none_spends : {f : List ℕ} {n : ℕ} {w : List ℕ} {p p' : Purse} → SpendsOnQueries f w Open p p' → SpendsOnFind f n w p p'
found_none_spends {p' = p'} runs = record { between = p'; runs = runs; again = λ T form q l s. not_again (omega arith) }

-- ---- The reading

module _ (f : List ℕ) (n words : ℕ) where
  sought_by : entry_at f n words ≡ sought_read n (reading_in wide f words)
  unfolding entry_at reading_in sought_read
  sought_by = cases (ltb words min_words) (λ q. rw (q, entry_at, reading_in)) (λ q. rw (q, entry_at, reading_in))

enough_words : (f : List ℕ) (words : ℕ) (d : Form) → reading_in wide f words ≡ described d → reading f ≡ described d
unfolding reading_in
enough_words f words d e = cases (ltb words min_words)
    (λ q. let h : refused Meaning.work_too_short ≡ described d = rw (q, reading_in) at e in clash (cc h)) (λ q. rw (q, reading_in) at e)

module _ {f w w₁ : List ℕ} {x : Result (Unit {0}) Refusal} (h : ReadsFile wide f w w₁ x) where
  pub not_read : {e : Refusal} (n : ℕ) → x ≡ Err e → Seeks f n w w₁ (Err e)
  unfolding ReadingEnds sought_read
  not_read {e} n q = record {
    is = subst (ToldSought w₁ (Err e)) (sym (sought_by f n (length w))) (go (reading_in wide f (length w)) h.ends);
    words = h.long;
  }
    where
      go : (y : Reading) → ReadingEnds wide f w₁ x y → ToldSought w₁ (Err e) (sought_read n y)
      go (refused i) g = let same : e ≡ g.0 = cc (q, g.1) in (e, refl, ap refusal same ∙ g.2)
      go (described d) g = clash (cc (q, g.0))

  pub was_read : {n : ℕ} {w₂ : List ℕ} {r : Result (Option (Ty × Ty)) Refusal} → x ≡ Ok tt → Finds f n w₁ w₂ r → Seeks f n w w₂ r
  unfolding ReadingEnds sought_read min_words
  was_read {n} {w₂} {r} q F = record {
    is = subst (ToldSought w₂ r) (sym (sought_by f n (length w))) (go (reading_in wide f (length w)) refl h.ends);
    words = F.words ∙ h.long;
  }
    where
      go : (y : Reading) → reading_in wide f (length w) ≡ y → ReadingEnds wide f w₁ x y → ToldSought w₂ r (sought_read n y)
      go (refused i) e g = clash (cc (q, g.1))
      go (described d) e g = F.is g.2.0 d (enough_words f (length w) d e) g.1 g.2.1

  pub not_read_spends : {e : Refusal} (n : ℕ) → x ≡ Err e → (p : Purse) → SpendsOnEntry f n (length w) p p
  not_read_spends n q p = record { between = p; runs = unread_spends h q Open p; again = not_again (omega arith) }

  pub was_read_spends : {n : ℕ} → x ≡ Ok tt → {p p' : Purse} → SpendsOnFind f n w₁ p p' → SpendsOnEntry f n (length w) p p'
  unfolding ReadingEnds min_words
  was_read_spends {n} q {p} {p'} F = record {
    between = F.between;
    runs = read_spends h q F.runs;
    again = go (reading_in wide f (length w)) refl h.ends;
  }
    where
      go : (y : Reading) → reading_in wide f (length w) ≡ y → ReadingEnds wide f w₁ x y → SpendsAgain f n F.between p'
      go (refused i) e g = clash (cc (q, g.1))
      go (described d) e g = F.again g.2.0 d (enough_words f (length w) d e) g.1 g.2.1
