-- What both text tests promise.
use Rattle.std.specs.Prelude.{ℕ, List, ◌≡◌, Option}
use Rattle.text.specs.Utf8.{characters}

-- `characters` and `characters_by_table`: the grammar's number of characters, or none. `agree` in proofs/Laws.antt: so they agree on every slice.
abbrev pub Tests : List ℕ → Option ℕ → Type 0
Tests s r = r ≡ characters s
