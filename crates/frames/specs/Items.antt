-- Parts of a frame by their places: fields and alternatives of a type, items of one size, and statements that fill a
-- line.
use Rattle.std.specs.Prelude.{List, [], ◌∷◌, ◌≡◌, ℕ, zero, suc, ◌+◌, ◌<◌, ◌≤◌, length, get_or}
use Rattle.format.specs.Syntax.{Field, QueryStmt}
use Rattle.format.specs.Frame.{Alternative}
use Rattle.frames.specs.Promises.{byte_w, half_w, full_w, size_w}

abbrev pub field_at : List ℕ → ℕ → Field
field_at s i = record { name = half_w s i; value = half_w s (i + 2) }

abbrev pub alternative_at : List ℕ → ℕ → Alternative
alternative_at s i = record { name = half_w s i; discriminant = full_w s (i + 2); type = half_w s (i + 6) }

-- k items, n bytes each, from a place on
unfoldable pub items_at : {A : Type 0} → (ℕ → A) → ℕ → ℕ → ℕ → List A
items_at v n i zero = []
items_at v n i (suc k) = v i ∷ items_at v n (i + n) k

-- ---- Statements

abbrev pub statement_of : ℕ → ℕ → ℕ → QueryStmt
statement_of tag a b =
    get_or (QueryStmt.Bind a b ∷ QueryStmt.Implicit a ∷ QueryStmt.Negation a ∷ QueryStmt.Deny a b ∷ QueryStmt.Compare a b ∷ []) tag (QueryStmt.Implicit a)

abbrev pub statement_at : List ℕ → ℕ → QueryStmt
statement_at s i = statement_of (byte_w s i) (half_w s (i + 1)) (half_w s (i + 3))

-- The statements from a place to the end of s.
pub data Fill (s : List ℕ) : ℕ → List QueryStmt → Type 0 where
  end : {i : ℕ} → i ≡ length s → Fill s i []
  then : {i : ℕ} {xs : List QueryStmt} → 0 < size_w (byte_w s i) → i + size_w (byte_w s i) ≤ length s
      → Fill s (i + size_w (byte_w s i)) xs → Fill s i (statement_at s i ∷ xs)
