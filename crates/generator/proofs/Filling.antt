-- Filling a slice with the seed's words: those up to i stand there.
use Rattle.std.proofs.Common.{◌≡◌, ℕ, ◌+◌, ◌<◌, List, length, take, set, add-one}
use Rattle.std.proofs.lemmas.List.{take_more_set}
use Rattle.testload.specs.Words.{next, words}
use Rattle.testload.proofs.Words.{next_take}

pub filled : (seed i : ℕ) (w : List ℕ) → i < length w → take i w ≡ words seed i → take (i + 1) (set w i (next seed i w)) ≡ words seed (i + 1)
unfolding words
filled seed i w h f = rw (take_more_set w i (next seed i w) h, add-one, words, next_take seed i w, f)
