-- Equal up to order (document 01, "What demand 3 speaks of"): the same shape and, at every depth, the same names,
-- discriminants, predicate numbers and parts, fields and alternatives in any order, repeated ones as often.
-- A finite type has no unknown in it.
use Rattle.std.specs.Prelude.{◌≡◌, ℕ}
use Rattle.unification.specs.Ty.{Ty, leaf, node, Var, Error, Row, ε, cell}

-- The second row is the first with the cell (k, l, t) put in somewhere.
pub data Inserted (k l : ℕ) (t : Ty) : Row → Row → Type 0 where
  here : {r : Row} → Inserted k l t r (cell k l t r)
  there : {m n : ℕ} {u : Ty} {r s : Row} → Inserted k l t r s → Inserted k l t (cell m n u r) (cell m n u s)

abbrev mutual
  pub SameTy : Ty → Ty → Type 0
  SameTy (leaf p) (leaf q) = p ≡ q
  SameTy (leaf p) (node k r) = ⊥
  SameTy (leaf p) (Var x) = ⊥
  SameTy (leaf p) Error = ⊥
  SameTy (node k r) (leaf p) = ⊥
  SameTy (node k r) (node k' r') = (k ≡ k') × SameRow r r'
  SameTy (node k r) (Var x) = ⊥
  SameTy (node k r) Error = ⊥
  SameTy (Var x) (leaf p) = ⊥
  SameTy (Var x) (node k r) = ⊥
  SameTy (Var x) (Var y) = x ≡ y
  SameTy (Var x) Error = ⊥
  SameTy Error (leaf p) = ⊥
  SameTy Error (node k r) = ⊥
  SameTy Error (Var x) = ⊥
  SameTy Error Error = Unit {0}

  -- Each cell of the first row has a partner of its own in the second, and none is left over there.
  pub SameRow : Row → Row → Type 0
  SameRow ε ε = Unit {0}
  SameRow ε (cell k l t s) = ⊥
  SameRow (cell k l t r) s = (t' : Ty) × (s' : Row) × SameTy t t' × SameRow r s' × Inserted k l t' s' s

abbrev mutual
  pub Finite : Ty → Type 0
  Finite (leaf p) = Unit {0}
  Finite (node k r) = FiniteRow r
  Finite (Var x) = ⊥
  Finite Error = Unit {0}

  pub FiniteRow : Row → Type 0
  FiniteRow ε = Unit {0}
  FiniteRow (cell k l t r) = Finite t × FiniteRow r
