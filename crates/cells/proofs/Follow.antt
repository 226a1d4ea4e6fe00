-- Along a chain of bound unknowns: what is left to follow from where the code stands is what the whole would follow.
use mathlib.Core.Bool.{Bool, true, false}
use mathlib.Core.List.{List}
use mathlib.Core.Path.{◌≡◌, refl, sym, ◌∙◌}
use native.Mathlib.Nat.{sub-zero}
use native.Mathlib.Omega.{arith}
use Prim.Native.Nat.{ℕ, zero, suc, ◌+◌, ◌-◌, ◌*◌, ◌<◌, ◌≤◌}
use lib.Dec.{eqb}
use borrow.Author.Tests.{lt-ltb, le-ltb, ne_eqb}
use lib.ListN.{get_or}
use Rattle.unification.proofs.Tests.{clash}
use Rattle.unification.specs.Bindings.{Subst, bound, follow, repr}
use Rattle.work.specs.Layout.{UNKNOWNS, BINDINGS}
use Rattle.cells.specs.declared.Ty.{Ty}
use Rattle.cells.specs.declared.Ty.TheVariants.{Int, Str, Bytes, Fact, Record, Union, Var, Error}
use Rattle.cells.specs.Words.{ty_w, slot_w, bound_w}
use Rattle.cells.specs.Stands.{Rows, tree, Ok, Binds}
use Rattle.cells.specs.Promises.{Reprs}
use Rattle.std.specs.Prelude.{None, Some, cond}

abbrev unknowns : List ℕ → ℕ
unknowns w = get_or w UNKNOWNS 0

-- after k steps, of at most one more than there are unknowns
pub record Following (w : List ℕ) (t : Ty) (k : ℕ) (at : Ty) : Type 0 where
  pub within : k ≤ suc (unknowns w)
  pub to : (T : Rows) (s : Subst) → Binds w T s → follow (suc (unknowns w)) s (tree T t) ≡ follow (suc (unknowns w) - k) s (tree T at)
  pub ok : (T : Rows) (s : Subst) → Binds w T s → Ok w t → Ok w at

pub follow_start : (w : List ℕ) (t : Ty) → Following w t 0 t
follow_start w t = record { within = omega arith; to = λ T s B. rw sub-zero; ok = λ T s B o. o }

-- No unknown.
abbrev pub Shape : Ty → Type 0
Shape t = (x : ℕ) → t ≡ Var x → ⊥

follow_shape : (m : ℕ) (T : Rows) (s : Subst) (t : Ty) → Shape t → follow m s (tree T t) ≡ tree T t
unfolding follow
follow_shape zero T s t h = refl
follow_shape (suc m) T s (Var x) h = absurd (h x refl)
follow_shape (suc m) T s Int h = refl
follow_shape (suc m) T s Str h = refl
follow_shape (suc m) T s Bytes h = refl
follow_shape (suc m) T s (Fact p) h = refl
follow_shape (suc m) T s (Record c) h = refl
follow_shape (suc m) T s (Union c) h = refl
follow_shape (suc m) T s Error h = refl

module _ {w : List ℕ} {t : Ty} {k : ℕ} {at : Ty} (g : Following w t k at) where
  whole : (T : Rows) (s : Subst) → Binds w T s → repr s (tree T t) ≡ follow (suc (unknowns w) - k) s (tree T at)
  unfolding repr
  whole T s B = rw B.unknowns (g.to T s B)

  pub ends_shape : Shape at → Reprs w t at
  ends_shape o = record { is = λ T s B. sym (whole T s B ∙ follow_shape (suc (unknowns w) - k) T s at o); ok = g.ok }

  module _ (x : ℕ) (v : at ≡ Var x) (h : k ≤ unknowns w) where
    pub ends_free : bound_w w x ≡ None → Reprs w t (Var x)
    unfolding follow
    ends_free f = record {
      is = λ T s B.
          let b : bound s x ≡ None = rw (B.at, f) in
          let one : suc (unknowns w) - k ≡ suc (unknowns w - k) = omega arith in
          sym (whole T s B ∙ rw (one, v, b, follow));
      ok = λ T s B o. rw v at (g.ok T s B o);
    }

    pub follow_next : (u : Ty) → bound_w w x ≡ Some u → Following w t (k + 1) u
    unfolding follow
    follow_next u f = record {
      within = omega arith;
      to = λ T s B.
          let b : bound s x ≡ Some (tree T u) = rw (B.at, f) in
          let one : suc (unknowns w) - k ≡ suc (suc (unknowns w) - (k + 1)) = omega arith in
          g.to T s B ∙ rw (one, v, b, follow);
      ok = λ T s B o. rw f at (B.ok x);
    }

  pub ends_last : unknowns w < k → Reprs w t at
  unfolding follow
  ends_last h = record { is = λ T s B. let none : suc (unknowns w) - k ≡ 0 = omega arith in sym (rw none at (whole T s B)); ok = g.ok }

-- the unknown is bound to a shape
pub ends_bound : {w : List ℕ} {t : Ty} {k : ℕ} {at : Ty} → Following w t k at → (x : ℕ) → at ≡ Var x → k ≤ unknowns w → (u : Ty) → bound_w w x ≡ Some u
    → Shape u → Reprs w t u
ends_bound g x v h u f o = ends_shape (follow_next g x v h u f) o

-- ---- The binding's two words
shape_of : (tag p : ℕ) → ¬ (tag ≡ 7) → Shape (ty_w tag p)
unfolding ty_w
shape_of tag p n = rw (ne_eqb tag 7 n) (six (eqb tag 1) (eqb tag 2) (eqb tag 3) (eqb tag 4) (eqb tag 5) (eqb tag 6))
  where
    six : (a b c d e f : Bool) → Shape (cond a Int (cond b Str (cond c Bytes (cond d (Fact p) (cond e (Record p) (cond f (Union p) Error))))))
    six true b c d e f x q = clash (cc q)
    six false true c d e f x q = clash (cc q)
    six false false true d e f x q = clash (cc q)
    six false false false true e f x q = clash (cc q)
    six false false false false true f x q = clash (cc q)
    six false false false false false true x q = clash (cc q)
    six false false false false false false x q = clash (cc q)

module _ {w : List ℕ} {t : Ty} {k x : ℕ} (g : Following w t k (Var x)) (h : k ≤ unknowns w) where
  pub within_past : unknowns w ≤ x → Reprs w t (Var x)
  unfolding bound_w
  within_past l = ends_free g x refl h (simp (le-ltb _ _ l))

  module _ {tag : ℕ} (lt : x < unknowns w) (a : tag ≡ get_or w (BINDINGS + 2 * x) 0) where
    pub within_free : tag ≡ 0 → Reprs w t (Var x)
    unfolding bound_w slot_w
    within_free z = ends_free g x refl h (simp (lt-ltb _ _ lt, ← a, z))

    module _ {p : ℕ} (b : p ≡ get_or w (BINDINGS + 2 * x + 1) 0) where
      bound_to : ¬ (tag ≡ 0) → bound_w w x ≡ Some (ty_w tag p)
      unfolding bound_w slot_w
      bound_to z = simp (lt-ltb _ _ lt, ← a, ← b, ne_eqb _ _ z)

      pub within_other : {r : Ty} → r ≡ ty_w tag p → ¬ (tag ≡ 7) → ¬ (tag ≡ 0) → Reprs w t r
      within_other q s z = rw q (ends_bound g x refl h (ty_w tag p) (bound_to z) (shape_of tag p s))

      pub within_next : tag ≡ 7 → Following w t (k + 1) (Var p)
      unfolding ty_w
      within_next s = follow_next g x refl h (Var p) (bound_to (λ z. let y : ◌≡◌ {A = ℕ} 0 7 = sym z ∙ s in omega (arith, y)) ∙ rw s)
