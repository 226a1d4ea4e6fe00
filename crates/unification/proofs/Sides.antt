-- Permitted sides and well-formed bindings: whatever is bound is a side again, so every entry that a unification makes
-- itself has permitted sides too.
use mathlib.Core.Bool.{Bool, true, false}
use mathlib.Core.List.{[], ◌∷◌, ◌++◌}
use mathlib.Core.Logic.{by_cases}
use mathlib.Core.Path.{◌≡◌, refl, sym, ◌∙◌}
use Prim.Native.Nat.{ℕ, zero, suc, ◌≤◌, ◌<◌}
use native.Mathlib.Decide.{ℕ_discrete}
use native.Mathlib.Omega.{arith}
use lib.Dec.{eqb}
use lib.ListN.{length, set, replicate, length-set, length-append}
use Rattle.unification.specs.Ty.{Kind, Record, Union, Ty, leaf, node, Var, Error, Row, ε, cell}
use Rattle.unification.specs.Bindings.{Subst, bound, follow}
use Rattle.unification.specs.Unify.{find_key}
use Rattle.unification.specs.Calls.{Declared, DeclaredRow, Side, SideRow, LeadsTo, inside, RowLeadsTo, first, later, Allowed, Admitted}
use Rattle.unification.proofs.Reach.{bound_same, bound_other}
use Rattle.unification.specs.Log.{Wf}
use Rattle.unification.proofs.Acyclic.{acyclic_bind, Among, acyclic_among}
use Rattle.std.specs.Prelude.{None, Option, Some}

-- ---- More unknowns, and the schema's types
mutual
  pub side_more : (n m : ℕ) → n ≤ m → (t : Ty) → Side n t → Side m t
  side_more n m le (leaf p) h = tt
  side_more n m le (node Record r) h = side_row_more n m le r h
  side_more n m le (node Union r) h = h
  side_more n m le (Var x) h = omega arith
  side_more n m le Error h = tt

  pub side_row_more : (n m : ℕ) → n ≤ m → (r : Row) → SideRow n r → SideRow m r
  side_row_more n m le ε h = tt
  side_row_more n m le (cell k l t r) h = (h.0, side_more n m le t h.1, side_row_more n m le r h.2)

mutual
  pub declared_side : (n : ℕ) (t : Ty) → Declared t → Side n t
  declared_side n (leaf p) h = tt
  declared_side n (node Record r) h = declared_row_side n r h.1
  declared_side n (node Union r) h = h
  declared_side n (Var x) h = absurd h
  declared_side n Error h = absurd h

  declared_row_side : (n : ℕ) (r : Row) → DeclaredRow Record r → SideRow n r
  declared_row_side n ε h = tt
  declared_row_side n (cell k l t r) h = (h.0, declared_side n t h.1, declared_row_side n r h.2)

-- ---- The cells of a row
abbrev pub Parts : (ℕ → Ty → Type 0) → Row → Type 0
Parts Q ε = Unit {0}
Parts Q (cell k l t r) = Q l t × Parts Q r

abbrev pub Part : (ℕ → Ty → Type 0) → Option (ℕ × Ty) → Type 0
Part Q None = Unit {0}
Part Q (Some p) = Q p.0 p.1

pub find_part : (Q : ℕ → Ty → Type 0) (k : ℕ) (r : Row) → Parts Q r → Part Q (find_key k r)
unfolding find_key
find_part Q k ε h = tt
find_part Q k (cell m l t r) h = go (eqb k m) refl (find_part Q k r h.1)
  where
    go : (b : Bool) → eqb k m ≡ b → Part Q (find_key k r) → Part Q (find_key k (cell m l t r))
    go true q i = rw (q, find_key) h.0
    go false q i = rw (q, find_key) i

pub parts_map : (Q Q' : ℕ → Ty → Type 0) → ((l : ℕ) (t : Ty) → Q l t → Q' l t) → (r : Row) → Parts Q r → Parts Q' r
parts_map Q Q' f ε h = tt
parts_map Q Q' f (cell k l t r) h = (f l t h.0, parts_map Q Q' f r h.1)

-- A record's field, of n unknowns; a union's alternative.
abbrev pub Field : ℕ → ℕ → Ty → Type 0
Field n l t = (l ≡ 0) × Side n t

abbrev pub Alternative : ℕ → ℕ → Ty → Type 0
Alternative n l t = Side n t

pub fields : (n : ℕ) (r : Row) → SideRow n r → Parts (Field n) r
fields n ε h = tt
fields n (cell k l t r) h = ((h.0, h.1), fields n r h.2)

pub alternatives : (n : ℕ) (r : Row) → DeclaredRow Union r → Parts (Alternative n) r
alternatives n ε h = tt
alternatives n (cell k l t r) h = (declared_side n t h.1, alternatives n r h.2)

-- What a row reaches, its cells do.
abbrev pub Permits : Subst → ℕ → Ty → Type 0
Permits s l t = Admitted s t

pub admitted_parts : (s : Subst) (k : Kind) (r : Row) → Admitted s (node k r) → Parts (Permits s) r
unfolding Admitted
admitted_parts s k r h = go r (λ u i. h u (inside i))
  where
    go : (r : Row) → ((u : Ty) → RowLeadsTo s r u → Allowed u) → Parts (Permits s) r
    go ε h = tt
    go (cell k l t r) h = ((λ u i. h u (first i)), go r (λ u i. h u (later i)))

-- ---- Well-formed bindings
pub side_follow : (k : ℕ) (s : Subst) (t : Ty) → Wf s → Side (length s) t → Side (length s) (follow k s t)
unfolding follow
side_follow zero s t w h = h
side_follow (suc k) s (leaf p) w h = h
side_follow (suc k) s (node c r) w h = h
side_follow (suc k) s Error w h = h
side_follow (suc k) s (Var x) w h = go (bound s x) refl (λ t. side_follow k s t w)
  where
    go : (o : Option Ty) → bound s x ≡ o → ((t : Ty) → Side (length s) t → Side (length s) (follow k s t)) → Side (length s) (follow (suc k) s (Var x))
    go None e ih = rw (e, follow) h
    go (Some t) e ih = rw (e, follow) (ih t (w.sides x t e))

pub wf_bind : (s : Subst) (x : ℕ) (t : Ty) → x < length s → Side (length s) t → ¬ LeadsTo s t (Var x) → Wf s → Wf (set s x (Some t))
wf_bind s x t lt side off w = record {
  acyclic = acyclic_bind s x t lt off w.acyclic;
  sides = λ y u e. rw (length-set s x (Some t)) (by_cases (ℕ_discrete y x)
      (λ p. let q : t ≡ u = cc (bound_same s x (Some t) lt) in rw (← q) side)
      (λ n. w.sides y u (sym (bound_other s x y (Some t) n) ∙ e)));
}

-- Free unknowns made since change nothing.
pub bound_pad : (s : Subst) (n x : ℕ) → bound (s ++ replicate n None) x ≡ bound s x
unfolding bound
bound_pad [] zero x = refl
bound_pad [] (suc n) zero = refl
bound_pad [] (suc n) (suc x) = bound_pad [] n x
bound_pad (o ∷ s) n zero = refl
bound_pad (o ∷ s) n (suc x) = bound_pad s n x

pub pad_among : (s : Subst) (n : ℕ) → Among (s ++ replicate n None) s
pad_among s n x t e = sym (bound_pad s n x) ∙ e

pub wf_pad : (s : Subst) (n : ℕ) → Wf s → Wf (s ++ replicate n None)
wf_pad s n w = record {
  acyclic = acyclic_among (s ++ replicate n None) s (pad_among s n) w.acyclic;
  sides = λ x t e. side_more (length s) (length (s ++ replicate n None)) (omega (arith, length-append s (replicate n None))) t
      (w.sides x t (pad_among s n x t e));
}
