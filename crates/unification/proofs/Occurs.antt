-- The occurs check. Where it says yes, the unknown's value is no larger than the type's under every substitution that
-- respects the bindings, so the unknown is never the same as a node that holds it. Where it says no, the type does not
-- reach the unknown. A depth not below the visits left is as good as any other.
use mathlib.Core.Bool.{Bool, true, false}
use mathlib.Core.Logic.{⊎_elim}
use mathlib.Core.Path.{◌≡◌, refl, sym, ap}
use Prim.Native.Nat.{ℕ, zero, suc, ◌≤◌}
use native.Mathlib.Omega.{arith}
use lib.Dec.{eqb}
use lib.ListN.{length}
use Rattle.unification.specs.Ty.{Leaf, Int, String, Bytes, Fact, Ty, leaf, node, Var, Error, Row, ε, cell, app, app_row}
use Rattle.unification.specs.Order.{SameTy}
use Rattle.unification.specs.Bindings.{Subst, bound, repr, Answer, yes_left, no_left, spent, any_row, occurs_in, occurs, Resolved}
use Rattle.unification.specs.Unify.{visited, leaf_orderable, orderable, all_orderable}
use Rattle.unification.specs.Calls.{LeadsTo, RowLeadsTo, Respects}
use Rattle.unification.proofs.Tests.{clash}
use Rattle.unification.proofs.Order.{size, row_size, same_size}
use Rattle.unification.proofs.Reach.{reaches_var, reaches_follow}
use Rattle.unification.specs.Acyclic.{Acyclic}
use Rattle.unification.proofs.Chain.{leaf_reaches, error_reaches, node_reaches, nil_reaches, cell_reaches, repr_resolved, repr_resolved_is}
use Rattle.unification.proofs.Respects.{repr_same}
use Rattle.std.specs.Prelude.{None}
use Rattle.std.proofs.lemmas.Bool.{eqb-true, eqb-false}

-- A row's answer is that of its first cell that says yes, or of the last.
any_cell : (ask : ℕ → Ty → Answer) (v k l : ℕ) (t : Ty) (r : Row) (a : Answer) (Q : Type 0) → any_row ask v (cell k l t r) ≡ a
    → ((w : ℕ) → ask v t ≡ yes_left w → yes_left w ≡ a → Q) → ((w : ℕ) → ask v t ≡ no_left w → any_row ask w r ≡ a → Q) → (ask v t ≡ spent → spent ≡ a → Q) → Q
unfolding any_row
any_cell ask v k l t r a Q e y n s = go (ask v t) refl
  where
    go : (b : Answer) → ask v t ≡ b → Q
    go (yes_left w) q = y w q (rw (q, any_row) at e)
    go (no_left w) q = n w q (rw (q, any_row) at e)
    go spent q = s q (rw (q, any_row) at e)

-- ---- Yes
any_yes : (ask : ℕ → Ty → Answer) (σ : ℕ → Ty) (x : ℕ) → ((v : ℕ) (t : Ty) (w : ℕ) → ask v t ≡ yes_left w → size (σ x) ≤ size (app σ t))
    → (v : ℕ) (r : Row) (w : ℕ) → any_row ask v r ≡ yes_left w → size (σ x) ≤ row_size (app_row σ r)
unfolding any_row row_size app_row
any_yes ask σ x h v ε w e = clash (cc)
any_yes ask σ x h v (cell k l t r) w e = any_cell ask v k l t r (yes_left w) _ e
    (λ u q p. omega (arith, h v t u q))
    (λ u q p. omega (arith, any_yes ask σ x h u r w p))
    (λ q p. clash (cc))

occurs_in_yes : (ask : ℕ → Ty → Answer) (σ : ℕ → Ty) (x : ℕ) → ((v : ℕ) (t : Ty) (w : ℕ) → ask v t ≡ yes_left w → size (σ x) ≤ size (app σ t))
    → (v : ℕ) (t : Ty) (w : ℕ) → occurs_in ask x v t ≡ yes_left w → size (σ x) ≤ size (app σ t)
unfolding occurs_in app size
occurs_in_yes ask σ x h v (leaf p) w e = clash (cc)
occurs_in_yes ask σ x h v (node k r) w e = omega (arith, any_yes ask σ x h v r w e)
occurs_in_yes ask σ x h v Error w e = clash (cc)
occurs_in_yes ask σ x h v (Var y) w e = go (eqb x y) refl
  where
    go : (b : Bool) → eqb x y ≡ b → size (σ x) ≤ size (σ y)
    go true q = rw (eqb-true x y q) (omega arith)
    go false q = let e' : no_left v ≡ yes_left w = rw (q, occurs_in) at e in clash (cc)

occurs_yes : (σ : ℕ → Ty) (s : Subst) (x : ℕ) → Respects σ s → (d v : ℕ) (t : Ty) (w : ℕ) → occurs d s x v t ≡ yes_left w → size (σ x) ≤ size (app σ t)
unfolding occurs
occurs_yes σ s x R zero v t w e = clash (cc)
occurs_yes σ s x R (suc d) zero t w e = clash (cc)
occurs_yes σ s x R (suc d) (suc v) t w e =
    rw (same_size (app σ t) (app σ (repr s t)) (repr_same σ s t R))
    (occurs_in_yes (λ u t'. occurs d s x u t') σ x (λ u t' w'. occurs_yes σ s x R d u t' w') v (repr s t) w e)

occurs_in_var : (ask : ℕ → Ty → Answer) (x v y w : ℕ) → occurs_in ask x v (Var y) ≡ yes_left w → x ≡ y
unfolding occurs_in
occurs_in_var ask x v y w e = go (eqb x y) refl
  where
    go : (b : Bool) → eqb x y ≡ b → x ≡ y
    go true q = eqb-true x y q
    go false q = let e' : no_left v ≡ yes_left w = rw (q, occurs_in) at e in clash (cc)

never_same : (σ : ℕ → Ty) (s : Subst) (x d v : ℕ) (t : Ty) (w : ℕ) → Respects σ s → ¬ (t ≡ Var x)
    → occurs_in (λ u t'. occurs d s x u t') x v t ≡ yes_left w → ¬ SameTy (σ x) (app σ t)
unfolding occurs_in app size
never_same σ s x d v (leaf p) w R n e q = clash (cc)
never_same σ s x d v (node k r) w R n e q =
    omega (arith, any_yes (λ u t'. occurs d s x u t') σ x (λ u t' w'. occurs_yes σ s x R d u t' w') v r w e, same_size (σ x) (node k (app_row σ r)) q)
never_same σ s x d v (Var y) w R n e q = n (ap {B = Ty} Var (sym (occurs_in_var (λ u t'. occurs d s x u t') x v y w e)))
never_same σ s x d v Error w R n e q = clash (cc)

-- No substitution that respects the bindings makes an unknown the same as another type in which it occurs.
pub occurs_never : (σ : ℕ → Ty) (s : Subst) (x d v : ℕ) (t : Ty) (w : ℕ) → Resolved s t → ¬ (t ≡ Var x) → Respects σ s → occurs d s x v t ≡ yes_left w
    → ¬ SameTy (σ x) (app σ t)
unfolding occurs
occurs_never σ s x zero v t w c n R e = clash (cc)
occurs_never σ s x (suc d) zero t w c n R e = clash (cc)
occurs_never σ s x (suc d) (suc v) t w c n R e = never_same σ s x d v t w R n (rw (repr_resolved_is s t c) at e)

-- ---- No
any_no : (ask : ℕ → Ty → Answer) (s : Subst) (x : ℕ) → ((v : ℕ) (t : Ty) (w : ℕ) → ask v t ≡ no_left w → ¬ LeadsTo s t (Var x))
    → (v : ℕ) (r : Row) (w : ℕ) → any_row ask v r ≡ no_left w → ¬ RowLeadsTo s r (Var x)
any_no ask s x h v ε w e = nil_reaches s x
any_no ask s x h v (cell k l t r) w e = any_cell ask v k l t r (no_left w) _ e
    (λ u q p. clash (cc))
    (λ u q p i. ⊎_elim (h v t u q) (any_no ask s x h u r w p) (cell_reaches s k l t r x i))
    (λ q p. clash (cc))

occurs_in_no : (ask : ℕ → Ty → Answer) (s : Subst) (x : ℕ) → ((v : ℕ) (t : Ty) (w : ℕ) → ask v t ≡ no_left w → ¬ LeadsTo s t (Var x))
    → (v : ℕ) (t : Ty) (w : ℕ) → Resolved s t → occurs_in ask x v t ≡ no_left w → ¬ LeadsTo s t (Var x)
unfolding occurs_in
occurs_in_no ask s x h v (leaf p) w c e = leaf_reaches s p x
occurs_in_no ask s x h v (node k r) w c e = λ i. any_no ask s x h v r w e (node_reaches s k r x i)
occurs_in_no ask s x h v Error w c e = error_reaches s x
occurs_in_no ask s x h v (Var y) w c e = go (eqb x y) refl
  where
    go : (b : Bool) → eqb x y ≡ b → ¬ LeadsTo s (Var y) (Var x)
    go true q i = let e' : yes_left v ≡ no_left w = rw (q, occurs_in) at e in clash (cc)
    go false q i = ⊎_elim (λ p. eqb-false x y q (cc (p))) (λ p. clash (cc (c, p.1))) (reaches_var s y (Var x) i)

pub occurs_no : (s : Subst) (x : ℕ) → bound s x ≡ None → Acyclic s → (d v : ℕ) (t : Ty) (w : ℕ) → occurs d s x v t ≡ no_left w → ¬ LeadsTo s t (Var x)
unfolding occurs repr
occurs_no s x free A zero v t w e = clash (cc)
occurs_no s x free A (suc d) zero t w e = clash (cc)
occurs_no s x free A (suc d) (suc v) t w e = λ h.
    occurs_in_no (λ u t'. occurs d s x u t') s x (λ u t' w'. occurs_no s x free A d u t' w') v (repr s t) w (repr_resolved s A t) e
    (reaches_follow (suc (length s)) s x free t h)

-- ---- Visits

-- The visits left do not grow.
abbrev pub Fewer : ℕ → Answer → Type 0
Fewer v (yes_left w) = w ≤ v
Fewer v (no_left w) = w ≤ v
Fewer v spent = Unit {0}

fewer_trans : (v w : ℕ) (a : Answer) → w ≤ v → Fewer w a → Fewer v a
fewer_trans v w (yes_left u) le h = omega arith
fewer_trans v w (no_left u) le h = omega arith
fewer_trans v w spent le h = tt

pub any_fewer : (ask : ℕ → Ty → Answer) → ((v : ℕ) (t : Ty) → Fewer v (ask v t)) → (v : ℕ) (r : Row) → Fewer v (any_row ask v r)
unfolding any_row
any_fewer ask h v ε = omega arith
any_fewer ask h v (cell k l t r) = go (ask v t) refl (h v t) (λ w. any_fewer ask h w r)
  where
    go : (a : Answer) → ask v t ≡ a → Fewer v a → ((w : ℕ) → Fewer w (any_row ask w r)) → Fewer v (any_row ask v (cell k l t r))
    go (yes_left w) q f ih = rw (q, any_row) f
    go (no_left w) q f ih = rw (q, any_row) (fewer_trans v w (any_row ask w r) f (ih w))
    go spent q f ih = rw (q, any_row) tt

pub occurs_in_fewer : (ask : ℕ → Ty → Answer) → ((v : ℕ) (t : Ty) → Fewer v (ask v t)) → (x v : ℕ) (t : Ty) → Fewer v (occurs_in ask x v t)
unfolding occurs_in
occurs_in_fewer ask h x v (leaf p) = omega arith
occurs_in_fewer ask h x v (node k r) = any_fewer ask h v r
occurs_in_fewer ask h x v Error = omega arith
occurs_in_fewer ask h x v (Var y) = go (eqb x y) refl
  where
    go : (b : Bool) → eqb x y ≡ b → Fewer v (occurs_in ask x v (Var y))
    go true q = rw (q, occurs_in) (omega arith)
    go false q = rw (q, occurs_in) (omega arith)

pub occurs_fewer : (d : ℕ) (s : Subst) (x v : ℕ) (t : Ty) → Fewer v (occurs d s x v t)
unfolding occurs
occurs_fewer zero s x v t = tt
occurs_fewer (suc d) s x zero t = tt
occurs_fewer (suc d) s x (suc v) t =
    let f = occurs_in_fewer (λ u t'. occurs d s x u t') (λ u t'. occurs_fewer d s x u t') x v (repr s t) in
    fewer_trans (suc v) v (occurs (suc d) s x (suc v) t) (omega arith) f

-- ---- Depth
any_depth : (ask ask' : ℕ → Ty → Answer) (m : ℕ) → ((v : ℕ) (t : Ty) → Fewer v (ask v t)) → ((v : ℕ) (t : Ty) → v ≤ m → ask v t ≡ ask' v t)
    → (v : ℕ) (r : Row) → v ≤ m → any_row ask v r ≡ any_row ask' v r
unfolding any_row
any_depth ask ask' m f h v ε le = refl
any_depth ask ask' m f h v (cell k l t r) le = go (ask v t) refl (f v t) (λ w p. any_depth ask ask' m f h w r p)
  where
    go : (a : Answer) → ask v t ≡ a → Fewer v a → ((w : ℕ) → w ≤ m → any_row ask w r ≡ any_row ask' w r)
        → any_row ask v (cell k l t r) ≡ any_row ask' v (cell k l t r)
    go (yes_left w) q i ih = rw (← h v t le, q, any_row)
    go (no_left w) q i ih = rw (← h v t le, q, any_row) (ih w (omega arith))
    go spent q i ih = rw (← h v t le, q, any_row)

occurs_in_depth : (ask ask' : ℕ → Ty → Answer) (x v : ℕ) → ((w : ℕ) (t : Ty) → Fewer w (ask w t)) → ((w : ℕ) (t : Ty) → w ≤ v → ask w t ≡ ask' w t)
    → (t : Ty) → occurs_in ask x v t ≡ occurs_in ask' x v t
unfolding occurs_in
occurs_in_depth ask ask' x v f h (leaf p) = refl
occurs_in_depth ask ask' x v f h (node k r) = any_depth ask ask' v f h v r (omega arith)
occurs_in_depth ask ask' x v f h (Var y) = refl
occurs_in_depth ask ask' x v f h Error = refl

pub occurs_depth : (d e : ℕ) (s : Subst) (x v : ℕ) (t : Ty) → v ≤ d → v ≤ e → occurs d s x v t ≡ occurs e s x v t
unfolding occurs
occurs_depth zero zero s x v t p q = refl
occurs_depth zero (suc e) s x zero t p q = refl
occurs_depth zero (suc e) s x (suc v) t p q = absurd (omega arith)
occurs_depth (suc d) zero s x zero t p q = refl
occurs_depth (suc d) zero s x (suc v) t p q = absurd (omega arith)
occurs_depth (suc d) (suc e) s x zero t p q = refl
occurs_depth (suc d) (suc e) s x (suc v) t p q =
    occurs_in_depth (λ u t'. occurs d s x u t') (λ u t'. occurs e s x u t') x v (λ u t'. occurs_fewer d s x u t')
    (λ u t' le. occurs_depth d e s x u t' (omega arith) (omega arith)) (repr s t)

-- ---- `orderable` makes the visits left fewer too
visited_fewer : (v : ℕ) (ask : ℕ → Answer) → ((w : ℕ) → Fewer w (ask w)) → Fewer v (visited v ask)
unfolding visited
visited_fewer zero ask h = tt
visited_fewer (suc v) ask h = fewer_trans (suc v) v (ask v) (omega arith) (h v)

pub leaf_fewer : (p : Leaf) (v : ℕ) → Fewer v (leaf_orderable p v)
unfolding leaf_orderable
leaf_fewer Int v = omega arith
leaf_fewer String v = omega arith
leaf_fewer Bytes v = omega arith
leaf_fewer (Fact p) v = omega arith

-- A row, by the answer of its first cell.
unfoldable goes_on : Row → Answer → Answer
goes_on r a = elim a [ yes_left w ↦ all_orderable r w | no_left w ↦ no_left w | spent ↦ spent ]

first_cell : (k l : ℕ) (t : Ty) (r : Row) (v : ℕ) → all_orderable (cell k l t r) v ≡ goes_on r (orderable t v)
unfolding goes_on orderable all_orderable
first_cell k l t r v = refl

goes_on_fewer : (r : Row) (v : ℕ) (a : Answer) → Fewer v a → ((w : ℕ) → Fewer w (all_orderable r w)) → Fewer v (goes_on r a)
unfolding goes_on
goes_on_fewer r v (yes_left w) f h = fewer_trans v w (all_orderable r w) f (h w)
goes_on_fewer r v (no_left w) f h = f
goes_on_fewer r v spent f h = tt

mutual
  unfolding orderable

  pub orderable_fewer : (t : Ty) (v : ℕ) → Fewer v (orderable t v)
  orderable_fewer (leaf p) v = visited_fewer v (λ w. leaf_orderable p w) (leaf_fewer p)
  orderable_fewer (node k r) v = visited_fewer v (λ w. all_orderable r w) (λ w. all_orderable_fewer r w)
  orderable_fewer (Var x) v = visited_fewer v (λ w. yes_left w) (λ w. omega arith)
  orderable_fewer Error v = visited_fewer v (λ w. yes_left w) (λ w. omega arith)

  pub all_orderable_fewer : (r : Row) (v : ℕ) → Fewer v (all_orderable r v)
  all_orderable_fewer ε v = omega arith
  all_orderable_fewer (cell k l t r) v = rw (first_cell k l t r v) (goes_on_fewer r v (orderable t v) (orderable_fewer t v) (λ w. all_orderable_fewer r w))
