-- What was written so far, and the text of the words that are left, is the text of all.
use Rattle.std.proofs.Common.{◌≡◌, ℕ, List, ◌++◌, drop}
use Rattle.std.specs.Io.KnownBytes.{Appends}
use Rattle.sigla_inspect.specs.Words.{words_text}
use Rattle.sigla_inspect.proofs.bindings.write_words.Given as goal

abbrev pub invariant-loop-word : goal.invariant-loop-word
invariant-loop-word g l = (so_far : List ℕ) × Appends (g.W.Write.contents l.initial.to) (g.W.Write.contents l.to) so_far
    × (so_far ++ words_text l.before (drop l.word-index l.words) ≡ words_text l.initial.before l.words)
