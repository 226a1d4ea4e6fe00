-- Equal up to order is an equivalence, keeps the size, and substitutions carry it.
-- It is defined by recursion on its left side, so a partner on the right is moved about by insertions.
use mathlib.Core.Path.{◌≡◌, refl, sym, ◌∙◌, ap}
use Prim.Native.Nat.{ℕ, suc, ◌+◌}
use native.Mathlib.Omega.{arith}
use Rattle.unification.specs.Ty.{Ty, leaf, node, Var, Error, Row, ε, cell, app, app_row}
use Rattle.unification.specs.Order.{SameTy, SameRow, Inserted, here, there}

mutual
  pub same_refl : (a : Ty) → SameTy a a
  same_refl (leaf p) = refl
  same_refl (node k r) = (refl, same_row_refl r)
  same_refl (Var x) = refl
  same_refl Error = tt

  pub same_row_refl : (r : Row) → SameRow r r
  same_row_refl ε = tt
  same_row_refl (cell k l t r) = (t, r, same_refl t, same_row_refl r, here)

-- ---- Insertions

-- Two insertions commute.
inserted_swap : {m n k l : ℕ} {u t : Ty} {a b c : Row} → Inserted k l t a b → Inserted m n u b c → (w : Row) × Inserted m n u a w × Inserted k l t w c
inserted_swap i here = (_, here, there i)
inserted_swap here (there j) = (_, j, here)
inserted_swap (there i) (there j) = let x = inserted_swap i j in (_, there x.1, there x.2)

-- A cell of the left side has its partner on the right.
same_row_pick : {k l : ℕ} {t : Ty} {s₀ s : Row} → Inserted k l t s₀ s → (u : Row) → SameRow s u
    → (t' : Ty) × (u₀ : Row) × SameTy t t' × SameRow s₀ u₀ × Inserted k l t' u₀ u
same_row_pick here u e = e
same_row_pick (there i) u e =
    let h = same_row_pick i e.1 e.3 in
    let w = inserted_swap h.4 e.4 in
    (h.0, w.0, h.2, (e.0, h.1, e.2, h.3, w.1), w.2)

same_row_put : {k l : ℕ} {t : Ty} (t' : Ty) {s₀ s : Row} → Inserted k l t s₀ s → (u : Row) → SameTy t t' → SameRow s₀ u → SameRow s (cell k l t' u)
same_row_put t' here u h e = (t', u, h, e, here)
same_row_put {k} {l} t' (there i) u h e = (e.0, cell k l t' e.1, e.2, same_row_put t' i e.1 h e.3, there e.4)

-- ---- Symmetry and transitivity
mutual
  pub same_sym : (a b : Ty) → SameTy a b → SameTy b a
  same_sym (leaf p) (leaf q) e = sym e
  same_sym (leaf p) (node k r) e = e
  same_sym (leaf p) (Var x) e = e
  same_sym (leaf p) Error e = e
  same_sym (node k r) (leaf p) e = e
  same_sym (node k r) (node k' r') e = (sym e.0, same_row_sym r r' e.1)
  same_sym (node k r) (Var x) e = e
  same_sym (node k r) Error e = e
  same_sym (Var x) (leaf p) e = e
  same_sym (Var x) (node k r) e = e
  same_sym (Var x) (Var y) e = sym e
  same_sym (Var x) Error e = e
  same_sym Error (leaf p) e = e
  same_sym Error (node k r) e = e
  same_sym Error (Var x) e = e
  same_sym Error Error e = tt

  pub same_row_sym : (r s : Row) → SameRow r s → SameRow s r
  same_row_sym ε ε e = tt
  same_row_sym ε (cell k l t s) e = absurd e
  same_row_sym (cell k l t r) s e = same_row_put t e.4 r (same_sym t e.0 e.2) (same_row_sym r e.1 e.3)

mutual
  pub same_trans : (a b c : Ty) → SameTy a b → SameTy b c → SameTy a c
  same_trans (leaf p) (leaf q) c e f = rw e f
  same_trans (leaf p) (node k r) c e f = absurd e
  same_trans (leaf p) (Var x) c e f = absurd e
  same_trans (leaf p) Error c e f = absurd e
  same_trans (node k r) (leaf p) c e f = absurd e
  same_trans (node k r) (node k' r') (leaf p) e f = f
  same_trans (node k r) (node k' r') (node k'' r'') e f = (e.0 ∙ f.0, same_row_trans r r' r'' e.1 f.1)
  same_trans (node k r) (node k' r') (Var x) e f = f
  same_trans (node k r) (node k' r') Error e f = f
  same_trans (node k r) (Var x) c e f = absurd e
  same_trans (node k r) Error c e f = absurd e
  same_trans (Var x) (leaf p) c e f = absurd e
  same_trans (Var x) (node k r) c e f = absurd e
  same_trans (Var x) (Var y) c e f = rw e f
  same_trans (Var x) Error c e f = absurd e
  same_trans Error (leaf p) c e f = absurd e
  same_trans Error (node k r) c e f = absurd e
  same_trans Error (Var x) c e f = absurd e
  same_trans Error Error c e f = f

  pub same_row_trans : (r s u : Row) → SameRow r s → SameRow s u → SameRow r u
  same_row_trans ε ε u e f = f
  same_row_trans ε (cell k l t s) u e f = absurd e
  same_row_trans (cell k l t r) s u e f =
      let h = same_row_pick e.4 u f in
      (h.0, h.1, same_trans t e.0 h.0 e.2 h.2, same_row_trans r e.1 h.1 e.3 h.3, h.4)

-- ---- Size
unfoldable mutual
  pub size : Ty → ℕ
  size (leaf p) = 1
  size (node k r) = suc (row_size r)
  size (Var x) = 1
  size Error = 1

  pub row_size : Row → ℕ
  row_size ε = 0
  row_size (cell k l t r) = size t + row_size r

inserted_size : {k l : ℕ} {t : Ty} {r s : Row} → Inserted k l t r s → row_size s ≡ size t + row_size r
unfolding row_size
inserted_size here = refl
inserted_size (there i) = rw (inserted_size i) (omega arith)

mutual
  unfolding size

  pub same_size : (a b : Ty) → SameTy a b → size a ≡ size b
  same_size (leaf p) (leaf q) e = refl
  same_size (leaf p) (node k r) e = absurd e
  same_size (leaf p) (Var x) e = absurd e
  same_size (leaf p) Error e = absurd e
  same_size (node k r) (leaf p) e = absurd e
  same_size (node k r) (node k' r') e = ap suc (same_row_size r r' e.1)
  same_size (node k r) (Var x) e = absurd e
  same_size (node k r) Error e = absurd e
  same_size (Var x) (leaf p) e = absurd e
  same_size (Var x) (node k r) e = absurd e
  same_size (Var x) (Var y) e = refl
  same_size (Var x) Error e = absurd e
  same_size Error (leaf p) e = absurd e
  same_size Error (node k r) e = absurd e
  same_size Error (Var x) e = absurd e
  same_size Error Error e = refl

  pub same_row_size : (r s : Row) → SameRow r s → row_size r ≡ row_size s
  same_row_size ε ε e = refl
  same_row_size ε (cell k l t s) e = absurd e
  same_row_size (cell k l t r) s e = rw (same_size t e.0 e.2, same_row_size r e.1 e.3) (sym (inserted_size e.4))

-- ---- Substitutions
mutual
  unfolding app

  pub app_same : (σ τ : ℕ → Ty) → ((x : ℕ) → SameTy (σ x) (τ x)) → (t : Ty) → SameTy (app σ t) (app τ t)
  app_same σ τ h (leaf p) = refl
  app_same σ τ h (node k r) = (refl, app_row_same σ τ h r)
  app_same σ τ h (Var x) = h x
  app_same σ τ h Error = tt

  pub app_row_same : (σ τ : ℕ → Ty) → ((x : ℕ) → SameTy (σ x) (τ x)) → (r : Row) → SameRow (app_row σ r) (app_row τ r)
  app_row_same σ τ h ε = tt
  app_row_same σ τ h (cell k l t r) = (app τ t, app_row τ r, app_same σ τ h t, app_row_same σ τ h r, here)

inserted_app : (σ : ℕ → Ty) {k l : ℕ} {t : Ty} {r s : Row} → Inserted k l t r s → Inserted k l (app σ t) (app_row σ r) (app_row σ s)
unfolding app_row
inserted_app σ here = here
inserted_app σ (there i) = there (inserted_app σ i)

mutual
  unfolding app

  pub same_app : (σ : ℕ → Ty) (a b : Ty) → SameTy a b → SameTy (app σ a) (app σ b)
  same_app σ (leaf p) (leaf q) e = e
  same_app σ (leaf p) (node k r) e = absurd e
  same_app σ (leaf p) (Var x) e = absurd e
  same_app σ (leaf p) Error e = absurd e
  same_app σ (node k r) (leaf p) e = absurd e
  same_app σ (node k r) (node k' r') e = (e.0, same_row_app σ r r' e.1)
  same_app σ (node k r) (Var x) e = absurd e
  same_app σ (node k r) Error e = absurd e
  same_app σ (Var x) (leaf p) e = absurd e
  same_app σ (Var x) (node k r) e = absurd e
  same_app σ (Var x) (Var y) e = rw e (same_refl (σ y))
  same_app σ (Var x) Error e = absurd e
  same_app σ Error (leaf p) e = absurd e
  same_app σ Error (node k r) e = absurd e
  same_app σ Error (Var x) e = absurd e
  same_app σ Error Error e = tt

  pub same_row_app : (σ : ℕ → Ty) (r s : Row) → SameRow r s → SameRow (app_row σ r) (app_row σ s)
  same_row_app σ ε ε e = tt
  same_row_app σ ε (cell k l t s) e = absurd e
  same_row_app σ (cell k l t r) s e = (app σ e.0, app_row σ e.1, same_app σ t e.0 e.2, same_row_app σ r e.1 e.3, inserted_app σ e.4)

mutual
  unfolding app

  pub app_app : (σ τ : ℕ → Ty) (t : Ty) → app τ (app σ t) ≡ app (λ x. app τ (σ x)) t
  app_app σ τ (leaf p) = refl
  app_app σ τ (node k r) = ap (node k) (app_row_app σ τ r)
  app_app σ τ (Var x) = refl
  app_app σ τ Error = refl

  app_row_app : (σ τ : ℕ → Ty) (r : Row) → app_row τ (app_row σ r) ≡ app_row (λ x. app τ (σ x)) r
  app_row_app σ τ ε = refl
  app_row_app σ τ (cell k l t r) = rw (app_app σ τ t, app_row_app σ τ r)

mutual
  unfolding app

  pub app_id : (t : Ty) → app (λ x. Var x) t ≡ t
  app_id (leaf p) = refl
  app_id (node k r) = ap (node k) (app_row_id r)
  app_id (Var x) = refl
  app_id Error = refl

  app_row_id : (r : Row) → app_row (λ x. Var x) r ≡ r
  app_row_id ε = refl
  app_row_id (cell k l t r) = rw (app_id t, app_row_id r)

-- Both sides replaced by the same.
pub same_both : (a a' b b' : Ty) → SameTy a a' → SameTy b b' → SameTy a' b' → SameTy a b
same_both a a' b b' p q e = same_trans a a' b p (same_trans a' b' b e (same_sym b b' q))
