-- What the functions of src/ promise: `make` writes the file of the seed, as the rule of crates/testload/specs/Rule.antt has it.
use Rattle.std.specs.Prelude.{◌≡◌, ℕ, ◌-◌, ◌≤◌, true, false, List, [], ◌∷◌, ◌++◌, map, length, ◌==◌, slice_index_or, None, Option, Some}
use Rattle.format.specs.Refusal.{answer_too_long}
use Rattle.format.specs.Frame.{wide}
use Rattle.format.specs.Bytes.{bytes₂}
use Rattle.format.specs.Content.{PredicateFrame}
use Rattle.format.specs.Writing.{as_shape, as_value_type, as_query, as_expr}
use Rattle.meaning.specs.Outcome.{Result, Accepted, Refused, answered, finish}
use Rattle.testload.specs.Rule.{Limits, limits, names, base, simple, compound, predicates, leaves, pairs, singles, queries, load_file}

-- ---- Cells

-- a byte, or a reference to the node before node i or to the one before that: 0xfe and 0xfd are no byte of the tables
unfoldable pub cell_bytes : ℕ → ℕ → List ℕ
unfolding bytes₂
cell_bytes i x = elim (x == 0xfe) [ true ↦ bytes₂ (i - 1) | false ↦ elim (x == 0xfd) [ true ↦ bytes₂ (i - 2) | false ↦ x ∷ [] ] ]

-- ---- The contents of lines, after the kind and a node's span, table by table; of node i

unfoldable pub as_limits : Limits → List ℕ
unfolding bytes₂
as_limits l = l.distance ∷ bytes₂ l.characters

unfoldable pub as_predicate : PredicateFrame → List ℕ
unfolding bytes₂ as_value_type
as_predicate p = bytes₂ p.name ++ bytes₂ p.key ++ as_value_type p.value

unfoldable pub tables : ℕ → List (List (List ℕ))
unfolding as_limits limits names base simple compound as_predicate predicates leaves pairs singles queries as_shape as_expr as_query
tables i =
    map as_limits limits ∷
    (names ++ map (as_shape wide) base) ∷
    map (as_shape wide) simple ∷
    map (as_shape wide) compound ∷
    map as_predicate predicates ∷
    map (as_expr wide) leaves ∷
    map (as_expr wide) (pairs (i - 2) (i - 1)) ∷
    map (as_expr wide) (singles (i - 1)) ∷
    map (λ p. as_query p.query) queries ∷
    []

unfoldable pub joined : List (List (List ℕ)) → List (List ℕ)
joined [] = []
joined (t ∷ ts) = t ++ joined ts

-- row n of all tables
unfoldable pub content : ℕ → ℕ → List ℕ
unfolding joined tables
content i n = slice_index_or (joined (tables i)) n []

-- how many blocks of eight nodes the rows of the last table have
unfoldable pub blocks : List ℕ
blocks = map (λ p. p.blocks) queries

-- ---- The call

abbrev pub result_of : Option ℕ → Result
result_of (Some n) = Accepted
result_of None = Refused answer_too_long

-- "A slice shorter than the file gets 12 and zeros": else the file and zeros after it, and where the file ends.
pub record Makes (seed : ℕ) (out out' : List ℕ) (r : Option ℕ) : Type 0 where
  pub result : result_of r ≡ (finish (answered (load_file seed)) 0 (length out)).result
  pub answer : out' ≡ (finish (answered (load_file seed)) 0 (length out)).answer
  pub ends : (n : ℕ) → r ≡ Some n → (n ≡ length (load_file seed)) × (n ≤ length out)
