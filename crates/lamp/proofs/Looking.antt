-- The reading, and then the queries of what was read: the lamp by what the reading comes to in so many words.
use mathlib.Core.List.{List}
use mathlib.Core.Path.{◌≡◌, refl, sym, ap, ◌∙◌}
use Prim.Native.Nat.{ℕ, ◌≤◌}
use lib.Dec.{ltb}
use lib.ListN.{length, replicate}
use Rattle.unification.proofs.Tests.{clash}
use Rattle.format.specs.Frame.{wide}
use Rattle.format.specs.File.{Reading, refused, described}
use Rattle.meaning.specs.Outcome.{min_words}
use Rattle.meaning.specs.Lamp as Defined
use Rattle.meaning.specs.Lamp.{lamp_read, visits_read, lamp, lamp_visits}
use Rattle.format.proofs.Tests.{cases}
use Rattle.reading.specs.Promises.{refusal, ReadingEnds, reading_in, ReadsFile}
use Rattle.reading.specs.declared.Refusal.{Refusal}
use Rattle.driver.proofs.Deciding.{enough_words}
use Rattle.lamp.specs.declared.Lit.{Lit}
use Rattle.lamp.specs.Promises.{signal_of, Asks, LooksAtFile, Lights}
use Rattle.std.specs.Prelude.{Err, Ok, Result}

module _ (f : List ℕ) (words : ℕ) where
  lamp_by : lamp f words ≡ lamp_read (reading_in wide f words)
  unfolding lamp reading_in lamp_read
  lamp_by = cases (ltb words min_words) (λ q. rw (q, lamp, reading_in)) (λ q. rw (q, lamp, reading_in))

  visits_by : lamp_visits f words ≡ visits_read (reading_in wide f words)
  unfolding lamp_visits reading_in visits_read
  visits_by = cases (ltb words min_words) (λ q. rw (q, lamp_visits, reading_in)) (λ q. rw (q, lamp_visits, reading_in))

module _ {f w w₁ : List ℕ} {r : Result (Unit {0}) Refusal} (h : ReadsFile wide f w w₁ r) where
  pub not_read : {e : Refusal} → r ≡ Err e → LooksAtFile f w w₁ (record { signal = Err e; visits = 0 })
  unfolding ReadingEnds lamp_read visits_read
  not_read {e} q =
      let x = go (reading_in wide f (length w)) h.ends in
      record { lamp = x.0 ∙ sym (lamp_by f (length w)); visits = x.1 ∙ sym (visits_by f (length w)); words = h.long }
    where
      go : (x : Reading) → ReadingEnds wide f w₁ r x → (Defined.Refused (refusal e) ≡ lamp_read x) × (0 ≡ visits_read x)
      go (refused i) g = let same : e ≡ g.0 = cc (q, g.1) in (ap Defined.Refused (ap refusal same ∙ g.2), refl)
      go (described d) g = clash (cc (q, g.0))

  pub was_read : {w' : List ℕ} {o : Lit} → r ≡ Ok tt → Asks f w₁ o → length w' ≡ length w₁ → LooksAtFile f w w' o
  unfolding ReadingEnds lamp_read visits_read min_words
  was_read {w'} {o} q A long =
      let x = go (reading_in wide f (length w)) refl h.ends in
      record { lamp = x.0 ∙ sym (lamp_by f (length w)); visits = x.1 ∙ sym (visits_by f (length w)); words = long ∙ h.long }
    where
      go : (x : Reading) → reading_in wide f (length w) ≡ x → ReadingEnds wide f w₁ r x → (signal_of o.signal ≡ lamp_read x) × (o.visits ≡ visits_read x)
      go (refused i) e g = clash (cc (q, g.1))
      go (described d) e g = A.is g.2.0 d (enough_words wide f (length w) d e) g.1 g.2.1

-- A file that was read lies in words that are enough.
pub read_long : (f w w' : List ℕ) (r : Result (Unit {0}) Refusal) → ReadsFile wide f w w' r → r ≡ Ok tt → 16384 ≤ length w'
unfolding ReadingEnds
read_long f w w' r h q = go (reading_in wide f (length w)) h.ends
  where
    go : (x : Reading) → ReadingEnds wide f w' r x → 16384 ≤ length w'
    go (refused i) g = clash (cc (q, g.1))
    go (described d) g = g.1

pub lights : {f w w₁ w' : List ℕ} {o : Lit} → LooksAtFile f w w₁ o → w' ≡ replicate (length w₁) 0 → Lights f w w' o
lights L c = record { lamp = L.lamp; visits = L.visits; work = c ∙ ap (λ n. replicate n 0) L.words }
