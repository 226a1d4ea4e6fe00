-- A type's parts, each by its bytes: a record's fields of 4, a union's alternatives of 8. What is read of them and what
-- is written for them.
use Rattle.std.specs.Prelude.{Bool, ltb, ◌&&◌, List, [], ◌∷◌, ◌++◌, map, ℕ, ◌+◌, ◌*◌}
use Rattle.cells.specs.declared.Kind.{Kind}
use Rattle.cells.specs.declared.Kind.TheVariants.{Fields, Alternatives}
use Rattle.format.specs.Conditions.{all_below}
use Rattle.frames.specs.Promises.{half_w, full_w}

-- how many bytes a part has, and the shape byte before the parts
abbrev pub size_of : Kind → ℕ
size_of Fields = 4
size_of Alternatives = 8

abbrev pub shape_of : Kind → ℕ
shape_of Fields = 4
shape_of Alternatives = 5

-- ---- The part at a place

-- the type, behind the name, or behind name and discriminant
abbrev pub type_w : Kind → List ℕ → ℕ → ℕ
type_w Fields s i = half_w s (i + 2)
type_w Alternatives s i = half_w s (i + 6)

-- what may not repeat
abbrev pub key_w : Kind → List ℕ → ℕ → ℕ
key_w Fields s i = half_w s i
key_w Alternatives s i = full_w s (i + 2)

abbrev pub words_w : Kind → List ℕ → ℕ → List ℕ
words_w Fields s i = (half_w s i * 256 + half_w s (i + 2)) ∷ []
words_w Alternatives s i = full_w s (i + 2) ∷ (half_w s i * 256 + half_w s (i + 6)) ∷ []

-- ---- Parts, each from its first byte

abbrev pub names_of : List (List ℕ) → List ℕ
names_of parts = map (λ p. half_w p 0) parts

abbrev pub types_of : Kind → List (List ℕ) → List ℕ
types_of k parts = map (λ p. type_w k p 0) parts

-- the part's name and its type are numbers below these
abbrev pub is_early : Kind → ℕ → ℕ → List ℕ → Bool
is_early k names types p = ltb (half_w p 0) names && ltb (type_w k p 0) types

-- and each part's
abbrev pub are_early : Kind → ℕ → ℕ → List (List ℕ) → Bool
are_early k names types parts = all_below names (names_of parts) && all_below types (types_of k parts)

abbrev pub keys_of : Kind → List (List ℕ) → List ℕ
keys_of k parts = map (λ p. key_w k p 0) parts

abbrev pub words_of : Kind → List (List ℕ) → List ℕ
words_of k [] = []
words_of k (p ∷ parts) = words_w k p 0 ++ words_of k parts
