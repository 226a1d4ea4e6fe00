-- What the functions over tokens give, where they may give nothing (src/lib.rt): a part of the words, or a cell.
use Rattle.std.specs.Prelude.{List, ◌∷◌, ◌≡◌, ℕ, ◌≤◌, MatchOption, None, Option, Some}
use Rattle.std.specs.Borrow.{Bor}
use Rattle.plain.specs.Tokens.{behind, KeyAbsent, FoundAt, FirstUnlike, FirstAlike, NoNode}
use Rattle.plain.specs.declared.Cell.{Cell}

abbrev pub GoesBehind : List ℕ → ℕ → Option (Bor (List ℕ)) → Type 0
GoesBehind ws n r = MatchOption r (behind ws n ≡ None) (λ rest. behind ws n ≡ Some rest.now)

abbrev pub FindsCell : List ℕ → ℕ → ℕ → Option Cell → Type 0
FindsCell row n key r = MatchOption r (KeyAbsent row n key) (λ c. FoundAt row n key c.label c.ty.now)

abbrev pub PassesAlike : ℕ → List ℕ → List ℕ → Option (Bor (List ℕ)) → Type 0
PassesAlike n row other r = MatchOption r (FirstUnlike n row other) (λ rest. FirstAlike n row other rest.now)

-- The kind's token, how many cells it has, and their words.
abbrev pub TellsNode : List ℕ → Option (ℕ × ℕ × Bor (List ℕ)) → Type 0
TellsNode ty r = MatchOption r (NoNode ty) (λ p. (5 ≤ p.0) × (p.0 ≤ 6) × (ty ≡ p.0 ∷ p.1 ∷ p.2.now))
