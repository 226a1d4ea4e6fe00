-- The types of a query: `Ty` of syntax.rs, with `TyVarId` and `PredicateId` and `Symbol` as numbers.
use Rattle.std.specs.Prelude.{ℕ, zero, suc}

pub data Leaf : Type 0 where
  Int String Bytes : Leaf
  Fact : ℕ → Leaf
  deriving Discrete as Leaf-discrete

pub data Kind : Type 0 where
  Record Union : Kind
  deriving Discrete as Kind-discrete

-- A record's fields and a union's alternatives are one kind of row, so that what is said of rows is said once.
-- A cell has a key, a label and a type. In a record the key is the field's name and the label is 0; in a union the
-- key is the alternative's discriminant and the label is its name. Rows keep the order in which they were written.
mutual
  pub data Ty : Type 0 where
    leaf : Leaf → Ty
    node : Kind → Row → Ty
    Var : ℕ → Ty
    Error : Ty

  pub data Row : Type 0 where
    ε : Row
    cell : ℕ → ℕ → Ty → Row → Row

unfoldable pub row_len : Row → ℕ
row_len ε = zero
row_len (cell k l t r) = suc (row_len r)

-- A type with each unknown replaced.
unfoldable mutual
  pub app : (ℕ → Ty) → Ty → Ty
  app θ (leaf p) = leaf p
  app θ (node k r) = node k (app_row θ r)
  app θ (Var x) = θ x
  app θ Error = Error

  pub app_row : (ℕ → Ty) → Row → Row
  app_row θ ε = ε
  app_row θ (cell k l t r) = cell k l (app θ t) (app_row θ r)
