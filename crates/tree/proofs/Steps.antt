-- Fields, items and statements one at a time: what is left from number i on is the i-th and what is left after it. What
-- each names is lower.
use mathlib.Core.List.{List, [], ◌∷◌}
use mathlib.Core.Path.{◌≡◌, refl, sym, ◌∙◌, ap}
use mathlib.Core.Bool.{Bool, true, false}
use Prim.Native.Nat.{ℕ, zero, suc, ◌+◌, ◌-◌, ◌*◌, ◌≤◌, ◌<◌}
use native.Mathlib.Omega.{arith}
use lib.Dec.{eqb, ltb}
use lib.ListN.{length}
use borrow.Author.Tests.{ltb-true, ltb-false}
use Rattle.cells.specs.Words.{pick}
use Rattle.sigla_hex.specs.Digits.{digits_w, half_at}
use Rattle.tree.specs.declared.items.Items.{Items}
use Rattle.tree.specs.declared.items.Stmts.{Stmts}
use Rattle.tree.specs.declared.Stmt.{Stmt}
use Rattle.tree.specs.Nodes.{field_w, field_of, fields_from, item_w, items_from, stmt_of, stmt_w, stmt_size_w, statement, stmts_from, stmts_w}
use Rattle.tree.proofs.Lowering.{lower_below}
use Rattle.tree.proofs.Below.{stmt_size, stmts_done, stmts_next}

-- ---- Fields and items

module _ (f : List ℕ) (l : Items) where
  pub fields_next : (i n : ℕ) → i < n → fields_from f l i (n - i) ≡ field_of (field_w f l i) ∷ fields_from f l (i + 1) (n - (i + 1))
  unfolding fields_from
  fields_next i n h = let z : n - i ≡ suc (n - (i + 1)) = omega arith in rw z

  pub fields_end : (n : ℕ) → fields_from f l n (n - n) ≡ []
  unfolding fields_from
  fields_end n = let z : n - n ≡ 0 = omega arith in rw z

  pub fields_length : (n i : ℕ) → length (fields_from f l i n) ≡ n
  unfolding fields_from
  fields_length zero i = refl
  fields_length (suc n) i = ap suc (fields_length n (i + 1))

  pub field_lower : (i : ℕ) → 0 < l.below → (field_w f l i).value < l.below
  unfolding field_w
  field_lower i h = lower_below (half_at f (l.at + 8 * i + 4)) l.below (λ e. omega arith)

  pub items_next : (i n : ℕ) → i < n → items_from f l i (n - i) ≡ item_w f l i ∷ items_from f l (i + 1) (n - (i + 1))
  unfolding items_from
  items_next i n h = let z : n - i ≡ suc (n - (i + 1)) = omega arith in rw z

  pub items_end : (n : ℕ) → items_from f l n (n - n) ≡ []
  unfolding items_from
  items_end n = let z : n - n ≡ 0 = omega arith in rw z

  pub items_length : (n i : ℕ) → length (items_from f l i n) ≡ n
  unfolding items_from
  items_length zero i = refl
  items_length (suc n) i = ap suc (items_length n (i + 1))

  pub item_lower : (i : ℕ) → 0 < l.below → item_w f l i < l.below
  unfolding item_w
  item_lower i h = lower_below (half_at f (l.at + 4 * i)) l.below (λ e. omega arith)

-- ---- Statements

-- So many steps serve as any others, if they reach the end.
stmts_enough : (f : List ℕ) (end below j k at : ℕ) → end ≤ at + j → end ≤ at + k → stmts_from j f at end below ≡ stmts_from k f at end below
stmts_enough f end below zero k at p q = stmts_done f end below zero at (omega arith) ∙ sym (stmts_done f end below k at (omega arith))
stmts_enough f end below (suc j) zero at p q = stmts_done f end below (suc j) at (omega arith) ∙ sym (stmts_done f end below zero at (omega arith))
stmts_enough f end below (suc j) (suc k) at p q = go (ltb at end) refl
    (stmts_enough f end below j k (at + stmt_size_w f at) (omega (arith, (stmt_size f at).0)) (omega (arith, (stmt_size f at).0)))
  where
    go : (t : Bool) → ltb at end ≡ t → stmts_from j f (at + stmt_size_w f at) end below ≡ stmts_from k f (at + stmt_size_w f at) end below
        → stmts_from (suc j) f at end below ≡ stmts_from (suc k) f at end below
    go false e on = stmts_done f end below (suc j) at (ltb-false at end e) ∙ sym (stmts_done f end below (suc k) at (ltb-false at end e))
    go true e on = stmts_next f end below j at (ltb-true at end e) ∙ ap (λ m. statement (stmt_w f at below) ∷ m) on ∙ sym
        (stmts_next f end below k at (ltb-true at end e))

module _ (f : List ℕ) (b : Stmts) where
  pub stmts_end : b.end ≤ b.at → stmts_w f b ≡ []
  unfolding stmts_w
  stmts_end h = stmts_done f b.end b.below b.end b.at h

  -- the first, and those after it
  pub stmts_first : b.at < b.end
      → stmts_w f b ≡ statement (stmt_w f b.at b.below) ∷ stmts_from b.end f (b.at + stmt_size_w f b.at) b.end b.below
  unfolding stmts_w
  stmts_first h =
      stmts_enough f b.end b.below b.end (suc b.end) b.at (omega arith) (omega arith)
      ∙ stmts_next f b.end b.below b.end b.at h

-- what a statement names is below n
abbrev pub LowerStmt : ℕ → Stmt → Type 0
LowerStmt n (Stmt.Bind a b) = (a < n) × (b < n)
LowerStmt n (Stmt.Implicit a) = a < n
LowerStmt n (Stmt.Negation a) = a < n
LowerStmt n (Stmt.Deny a b) = (a < n) × (b < n)
LowerStmt n (Stmt.Compare a b) = (a < n) × (b < n)

pub stmt_lower : (f : List ℕ) (at n : ℕ) → 0 < n → LowerStmt n (stmt_w f at n)
unfolding stmt_w stmt_of
stmt_lower f at n h = go (eqb (digits_w f at) 0) (eqb (digits_w f at) 1) (eqb (digits_w f at) 2) (eqb (digits_w f at) 3)
    (lower_below (half_at f (at + 2)) n (λ e. omega arith)) (lower_below (half_at f (at + 6)) n (λ e. omega arith))
  where
    go : (p q r s : Bool) {a b : ℕ} → a < n → b < n → LowerStmt n
        (pick p (Stmt.Bind a b) (pick q (Stmt.Implicit a) (pick r (Stmt.Negation a) (pick s (Stmt.Deny a b) (Stmt.Compare a b)))))
    go true q r s x y = (x, y)
    go false true r s x y = x
    go false false true s x y = x
    go false false false true x y = (x, y)
    go false false false false x y = (x, y)
