-- The words of types and rows read token by token: an unknown replaced, an unknown sought, what is left after a type, cells.
use Rattle.std.specs.Prelude.{Bool, true, false, List, [], ◌∷◌, ◌++◌, ◌≡◌, ℕ, zero, suc, ◌+◌, eqb, ltb, None, Option, Some}
use Rattle.unification.specs.Ty.{Kind, Record, Union, Ty, Row, cell, row_len}
use Rattle.unification.specs.Unify.{find_key}
use Rattle.unification.specs.Robinson.{Equation}
use Rattle.cells.specs.Words.{pick}
use Rattle.plain_theory.specs.Plain.{Parts, parts, unlike, part, matched}
use Rattle.plain_theory.specs.Words.{kind_tag, head_spelled, spelled, row_spelled, pairs_spelled}
use Rattle.writer.specs.Writes.{Writes, Moves}

-- Whether a token is this one word, and else a second one follows.
unfoldable pub short : ℕ → Bool
short a = pick (ltb a 4) true (eqb a 8)

-- Whether it is this unknown.
unfoldable pub is_unknown : ℕ → ℕ → ℕ → Bool
is_unknown x a b = pick (eqb a 7) (eqb b x) false

-- How many types or cells a token of two words owes.
unfoldable pub owed : ℕ → ℕ → ℕ
owed a b = pick (eqb a 5) b (pick (eqb a 6) b (pick (eqb a 9) 1 (pick (eqb a 10) 1 0)))

unfoldable pub instead_of : ℕ → List ℕ → ℕ → ℕ → List ℕ
instead_of x ts a b = pick (is_unknown x a b) ts (a ∷ b ∷ [])

-- Each token of x replaced by the words ts.
unfoldable pub swapped : ℕ → List ℕ → List ℕ → List ℕ
swapped x ts [] = []
swapped x ts (a ∷ []) = a ∷ []
swapped x ts (a ∷ b ∷ ws) = pick (short a) (a ∷ swapped x ts (b ∷ ws)) (instead_of x ts a b ++ swapped x ts ws)

-- Whether a token of x is among them.
unfoldable pub among : ℕ → List ℕ → Bool
among x [] = false
among x (a ∷ []) = false
among x (a ∷ b ∷ ws) = pick (short a) (among x (b ∷ ws)) (pick (is_unknown x a b) true (among x ws))

-- What is left after so many types or cells, if there are so many.
unfoldable pub behind : List ℕ → ℕ → Option (List ℕ)
behind [] n = elim n [ zero ↦ Some [] | suc m ↦ None ]
behind (a ∷ []) n = elim n [ zero ↦ Some (a ∷ []) | suc m ↦ pick (short a) (behind [] m) None ]
behind (a ∷ b ∷ ws) n = elim n [
  | zero ↦ Some (a ∷ b ∷ ws)
  | suc m ↦ pick (short a) (behind (b ∷ ws) m) (behind ws (owed a b + m))
]

-- The words of the first type, and those behind it.
abbrev pub NoType : List ℕ → Type 0
NoType ws = (t : Ty) (rest : List ℕ) → ¬ (ws ≡ spelled t ++ rest)

pub record FirstType (ws a b : List ℕ) : Type 0 where
  pub is : (t : Ty) (rest : List ℕ) → ws ≡ spelled t ++ rest → (a ≡ spelled t) × (b ≡ rest)
  pub parts : ws ≡ a ++ b

-- No text of an unknown, of a record or a union.
abbrev pub NoUnknown : List ℕ → Type 0
NoUnknown ty = (x : ℕ) → ¬ (ty ≡ 7 ∷ x ∷ [])

abbrev pub NoNode : List ℕ → Type 0
NoNode ty = (k : Kind) (n : ℕ) (cells : List ℕ) → ¬ (ty ≡ kind_tag k ∷ n ∷ cells)

-- ---- Rows

-- Of a field no label is spelled.
abbrev pub label_of : Kind → ℕ → ℕ
label_of Record label = 0
label_of Union label = label

-- The key and the label of the first cell, and the words from its type on.
abbrev pub NoCell : List ℕ → Type 0
NoCell row = (k : Kind) (key label : ℕ) (ws : List ℕ) → ¬ (row ≡ head_spelled k key label ++ ws)

abbrev pub FirstCell : List ℕ → ℕ → ℕ → List ℕ → Type 0
FirstCell row key label ws = (k : Kind) (x y : ℕ) (vs : List ℕ) → row ≡ head_spelled k x y ++ vs → (key ≡ x) × (label ≡ label_of k y) × (ws ≡ vs)

-- The first cell with this key, in a row of n cells.
abbrev pub KeyAbsent : List ℕ → ℕ → ℕ → Type 0
KeyAbsent row n key = (k : Kind) (s : Row) → row_len s ≡ n → row ≡ row_spelled s k → find_key key s ≡ None

pub record CellStands (k : Kind) (key : ℕ) (s : Row) (label : ℕ) (ws : List ℕ) : Type 0 where
  pub cell : ℕ × Ty
  pub is : find_key key s ≡ Some cell
  pub named : label ≡ label_of k cell.0
  pub behind : List ℕ
  pub words : ws ≡ spelled cell.1 ++ behind

abbrev pub FoundAt : List ℕ → ℕ → ℕ → ℕ → List ℕ → Type 0
FoundAt row n key label ws = (k : Kind) (s : Row) → row_len s ≡ n → row ≡ row_spelled s k → CellStands k key s label ws

-- Two rows of n cells.
pub record TwoRows (n : ℕ) (left right : List ℕ) (k : Kind) (r s : Row) : Type 0 where
  pub first : left ≡ row_spelled r k
  pub second : right ≡ row_spelled s k
  pub many : row_len r ≡ n
  pub as_many : row_len s ≡ n

-- Whether each cell of the first has its cell in the second.
abbrev pub Like : Parts → Bool
Like (parts qs) = true
Like unlike = false

abbrev pub Alike : ℕ → List ℕ → List ℕ → Bool → Type 0
Alike n left right b = (k : Kind) (r s : Row) → TwoRows n left right k r s → b ≡ Like (matched k r s)

-- Of the first cell: whether it has its cell in the other row, and then the row behind it.
abbrev pub PartLike : ℕ → List ℕ → List ℕ → (Kind → Row → Row → ℕ → ℕ → Ty → Type 0) → Type 0
PartLike n row other P = (k : Kind) (r s : Row) (key label : ℕ) (t : Ty) → row ≡ row_spelled (cell key label t r) k → other ≡ row_spelled s k → row_len s ≡ n
    → P k r s key label t

abbrev pub FirstUnlike : ℕ → List ℕ → List ℕ → Type 0
FirstUnlike n row other = PartLike n row other (λ k r s key label t. (ps : Parts) → part k label t (find_key key s) ps ≡ unlike)

abbrev pub FirstAlike : ℕ → List ℕ → List ℕ → List ℕ → Type 0
FirstAlike n row other rest = PartLike n row other (λ k r s key label t.
    (rest ≡ row_spelled r k) × ((ps : Parts) → Like (part k label t (find_key key s) ps) ≡ Like ps))

-- The pairs of cells, written from a place on, where each has its cell.
pub record Pairs (n : ℕ) (left right out : List ℕ) (at : ℕ) (out' : List ℕ) (w : Option ℕ) : Type 0 where
  pub is : (k : Kind) (r s : Row) (qs : List Equation) → TwoRows n left right k r s → matched k r s ≡ parts qs → Writes out at (pairs_spelled qs) out' w
  pub moves : Moves out at out' w
