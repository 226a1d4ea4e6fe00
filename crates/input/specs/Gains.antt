-- What a writer gains of bytes that it is handed.
use Rattle.std.specs.Prelude.{ℕ, ◌≤◌, List, length, take, Option}
use Rattle.std.specs.Io.KnownBytes.{Appends}

-- known bytes stay at the front and grow by a part of bs from its start
abbrev pub GainsFrontOf : Option (List ℕ) → Option (List ℕ) → List ℕ → Type 0
GainsFrontOf old new bs = (k : ℕ) × (k ≤ length bs) × Appends old new (take k bs)
