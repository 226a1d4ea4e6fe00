-- 00 is told of a pair: the new file has the name `value`, a record with that field and a predicate keyed by it.
use mathlib.Core.Logic.{inr}
use mathlib.Core.Path.{refl}
use native.Mathlib.Omega.{arith}
use Rattle.meaning.specs.Outcome.{min_words}
use Rattle.laws.specs.Examples.{before, grown}
use Rattle.laws.proofs.Examples.{file, says_old, says_grown, old_present, new_grown}
use Rattle.growth.specs.Premises.{Past, OnlyAdded, NamesNoAbsent, premises, FirstFailing}

old_past : Past min_words (file (before 0))
unfolding min_words
old_past = record { enough = omega arith; form = _; says = says_old }

new_past : Past min_words (file (grown 0))
unfolding min_words
new_past = record { enough = omega arith; form = _; says = says_grown }

pub told_00 : FirstFailing (premises min_words (file (before 0)) (file (grown 0))) 0
unfolding old_past new_past
told_00 =
    let added : OnlyAdded min_words (file (before 0)) (file (grown 0)) = record { past_old = old_past; past_new = new_past; grown = new_grown } in
    let present : NamesNoAbsent min_words (file (before 0)) = record { past_old = old_past; no_absent = old_present } in
    inr (old_past, inr (new_past, inr (added, inr (present, refl))))
