-- The lamp's line is the definition's, with the words that the program lends.
use mathlib.Core.List.{List}
use mathlib.Core.Path.{◌≡◌, ap, ◌∙◌}
use Prim.Native.Nat.{ℕ}
use lib.ListN.{length, replicate}
use Rattle.meaning.specs.Outcome.{min_words}
use Rattle.meaning.specs.Lamp.{lamp}
use Rattle.lamp.specs.declared.Lit.{Lit}
use Rattle.lamp.specs.Promises.{signal_of, lamp_line, Lights}
use Rattle.program.specs.Promises.{PrintsLamp}

pub lamp_printed : {f w w' r : List ℕ} {l : Lit} → length w ≡ 16384 → Lights f w w' l → r ≡ lamp_line (signal_of l.signal) → PrintsLamp f w' r
unfolding min_words
lamp_printed {f} words h e = record {
  line = e ∙ ap lamp_line (h.lamp ∙ ap (lamp f) words);
  work = h.work ∙ ap (λ n. replicate n 0) words;
}
