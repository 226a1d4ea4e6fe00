-- How an outcome goes as a number: 0, or the number of the refusal. A group goes as fifty words, a tally as three (ledger/specs/Words.antt).
use Rattle.std.specs.Prelude.{Bool, true, false, Option, Some, None, unwrap_or, Result, Ok, Err, List, ◌≡◌, ℕ, ◌+◌, ◌*◌, length, replicate}
use Rattle.format.specs.Refusal.{number}
use Rattle.reading.specs.Promises.{refusal}
use Rattle.driver.specs.declared.Desked.{Desked}
use Rattle.driver.specs.Promises.{ChecksFile, ChecksAt}
use Rattle.lamp.specs.declared.Lit.{Lit}
use Rattle.lamp.specs.Promises.{Lights}
use Rattle.converters.specs.Promises.{Widens, Narrows}
use Rattle.inspect.specs.declared.Inspected.{Inspected}
use Rattle.inspect.specs.Promises.{Inspects}
use Rattle.growth.specs.Premises.{premises, FirstFailing}
use Rattle.generator.specs.Promises.{Makes}
use Rattle.tariff.specs.declared.Tally.{Tally}
use Rattle.tariff.specs.Tariff.{Adds}
use Rattle.cabinet.specs.declared.Group.{Group}
use Rattle.cabinet.specs.Promises.{SetsUp, Ceils, Rests, left}
use Rattle.ledger.specs.Words.{group_of, group_words, tally_of, tally_words}
use Rattle.reading.specs.declared.Refusal.{Refusal}

-- A version of three numbers as one.
abbrev pub version_number : ℕ → ℕ → ℕ → ℕ
version_number major minor patch = (major * 256 + minor) * 256 + patch

abbrev pub outcome_number : Result ℕ Refusal → ℕ
outcome_number (Ok n) = 0
outcome_number (Err e) = number (refusal e)

pub record CallsCheck (f w out w' out' : List ℕ) (r : ℕ) : Type 0 where
  pub outcome : Result ℕ Refusal
  pub checks : ChecksFile f w out w' out' outcome
  pub number : r ≡ outcome_number outcome

abbrev pub lit_bit : Result Bool Refusal → ℕ
lit_bit (Ok true) = 1
lit_bit (Ok false) = 0
lit_bit (Err e) = 0

abbrev pub lamp_number : Result Bool Refusal → ℕ
lamp_number (Ok true) = 0
lamp_number (Ok false) = 0
lamp_number (Err e) = number (refusal e)

pub record CallsLamp (f w w' : List ℕ) (bit r : ℕ) : Type 0 where
  pub lit : Lit
  pub lights : Lights f w w' lit
  pub shown : bit ≡ lit_bit lit.signal
  pub number : r ≡ lamp_number lit.signal

-- What is told of the plain solver's answer, and the number; 18 is its own refusal.
abbrev pub inspect_told : Inspected → ℕ
inspect_told (Inspected.Success n) = 1
inspect_told Inspected.Failure = 0
inspect_told Inspected.ShutOut = 2
inspect_told Inspected.Fewer = 3
inspect_told (Inspected.Refused e) = 0
inspect_told Inspected.TooFewWords = 0

abbrev pub inspect_number : Inspected → ℕ
inspect_number (Inspected.Success n) = 0
inspect_number Inspected.Failure = 0
inspect_number Inspected.ShutOut = 0
inspect_number Inspected.Fewer = 0
inspect_number (Inspected.Refused e) = number (refusal e)
inspect_number Inspected.TooFewWords = 18

pub record CallsInspect (f : List ℕ) (n : ℕ) (w l w' l' : List ℕ) (told r : ℕ) : Type 0 where
  pub answer : Inspected
  pub inspects : Inspects f n w l w' l' answer
  pub shown : told ≡ inspect_told answer
  pub number : r ≡ inspect_number answer

pub record CallsWiden (f w out w' out' : List ℕ) (r : ℕ) : Type 0 where
  pub outcome : Result ℕ Refusal
  pub widens : Widens f w out w' out' outcome
  pub number : r ≡ outcome_number outcome

pub record CallsNarrow (f w out w' out' : List ℕ) (r : ℕ) : Type 0 where
  pub outcome : Result ℕ Refusal
  pub narrows : Narrows f w out w' out' outcome
  pub number : r ≡ outcome_number outcome

pub record CallsGrowth (old new w w' : List ℕ) (r : ℕ) : Type 0 where
  pub told : FirstFailing (premises (length w) old new) r
  pub work : w' ≡ replicate (length w) 0

abbrev pub length_in : Option ℕ → ℕ
length_in (Some n) = n
length_in None = 0

abbrev pub wrote_number : Option ℕ → ℕ
wrote_number (Some n) = 0
wrote_number None = 12

pub record CallsLoad (seed : ℕ) (out out' : List ℕ) (m r : ℕ) : Type 0 where
  pub wrote : Option ℕ
  pub makes : Makes seed out out' wrote
  pub length : m ≡ length_in wrote
  pub number : r ≡ wrote_number wrote

-- This number where a call was refused.
abbrev pub or_else : {A : Type 0} → Result A A → ℕ → ℕ
or_else (Ok x) n = 0
or_else (Err x) n = n

pub record CallsTally (t : List ℕ) (visits price : ℕ) (t' : List ℕ) (r : ℕ) : Type 0 where
  pub tallied : Result Tally Tally
  pub adds : Adds (tally_of t) visits price tallied
  pub words : t' ≡ tally_words (left tallied)
  pub number : r ≡ or_else tallied 15

pub record CallsSetUp (pool : ℕ) (shares caps g' : List ℕ) (r : ℕ) : Type 0 where
  pub changed : Result Group Group
  pub sets_up : SetsUp pool shares caps changed
  pub words : g' ≡ group_words (left changed)
  pub number : r ≡ or_else changed 17

abbrev pub ceiling_number : Option ℕ → ℕ
ceiling_number (Some n) = 0
ceiling_number None = 17

pub record CallsCeiling (g : List ℕ) (d v' r : ℕ) : Type 0 where
  pub ceiling : Option ℕ
  pub ceils : Ceils (group_of g) d ceiling
  pub visits : v' ≡ unwrap_or ceiling 0
  pub number : r ≡ ceiling_number ceiling

pub record CallsNewDay (g g' : List ℕ) (r : ℕ) : Type 0 where
  pub changed : Result Group Group
  pub rests : Rests (group_of g) changed
  pub words : g' ≡ group_words (left changed)
  pub number : r ≡ or_else changed 17

pub record CallsCheckAt (g : List ℕ) (d : ℕ) (f w out g' w' out' : List ℕ) (r : ℕ) : Type 0 where
  pub desked : Desked
  pub checks : ChecksAt (group_of g) d f w out w' out' desked
  pub words : g' ≡ group_words desked.group
  pub number : r ≡ outcome_number desked.outcome
