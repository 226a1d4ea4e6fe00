-- All, Absent and Distinct of lists put together.
use mathlib.Core.List.{List, [], ◌∷◌, ◌++◌}
use mathlib.Core.Path.{◌≡◌, sym, ◌∙◌}
use Prim.Native.Nat.{ℕ, zero, suc, ◌<◌}
use native.Mathlib.Nat.{not-suc-le-zero, le_of_suc-le-suc}
use native.Mathlib.Omega.{arith}
use lib.ListN.{length, get_or, length-append}
use Rattle.format.specs.All.{All, Absent, Distinct}

module _ {A : Type 0} where
  pub all_append : (P : A → Type 0) (s t : List A) → All P s → All P t → All P (s ++ t)
  all_append P [] t a b = b
  all_append P (x ∷ s) t a b = (a.0, all_append P s t a.1 b)

  pub all_snoc : (P : A → Type 0) (s : List A) (x : A) → All P s → P x → All P (s ++ x ∷ [])
  all_snoc P s x a p = all_append P s (x ∷ []) a (p, tt)

  pub all_left : (P : A → Type 0) (s t : List A) → All P (s ++ t) → All P s
  all_left P [] t a = tt
  all_left P (x ∷ s) t a = (a.0, all_left P s t a.1)

  pub all_right : (P : A → Type 0) (s t : List A) → All P (s ++ t) → All P t
  all_right P [] t a = a
  all_right P (x ∷ s) t a = all_right P s t a.1

  pub all_map : (P Q : A → Type 0) (s : List A) → ((x : A) → P x → Q x) → All P s → All Q s
  all_map P Q [] f a = tt
  all_map P Q (x ∷ s) f a = (f x a.0, all_map P Q s f a.1)

  pub all_at : (P : A → Type 0) (s : List A) (n : ℕ) (d : A) → All P s → n < length s → P (get_or s n d)
  all_at P [] n d a h = absurd (not-suc-le-zero h)
  all_at P (x ∷ s) zero d a h = a.0
  all_at P (x ∷ s) (suc n) d a h = all_at P s n d a.1 (le_of_suc-le-suc h)

  pub not_first : (x : A) (s t : List A) → All (λ y. Absent y (x ∷ s)) t → Absent x t
  not_first x s [] a = tt
  not_first x s (y ∷ t) a = (λ e. a.0.0 (sym e), not_first x s t a.1)

  pub distinct_append : (s t : List A) → Distinct s → Distinct t → All (λ y. Absent y s) t → Distinct (s ++ t)
  distinct_append [] t d e a = e
  distinct_append (x ∷ s) t d e a = (
    all_append (λ b. (x ≡ b) → ⊥) s t d.0 (not_first x s t a),
    distinct_append s t d.1 e (all_map (λ y. Absent y (x ∷ s)) (λ y. Absent y s) t (λ y h. h.1) a),
  )

  pub distinct_left : (s t : List A) → Distinct (s ++ t) → Distinct s
  distinct_left [] t d = tt
  distinct_left (x ∷ s) t d = (all_left (λ b. (x ≡ b) → ⊥) s t d.0, distinct_left s t d.1)

  pub distinct_right : (s t : List A) → Distinct (s ++ t) → Distinct t
  distinct_right [] t d = d
  distinct_right (x ∷ s) t d = distinct_right s t d.1

  pub none_first : (x : A) (s t : List A) → Absent x t → All (λ y. Absent y s) t → All (λ y. Absent y (x ∷ s)) t
  none_first x s [] a b = tt
  none_first x s (y ∷ t) a b = ((λ e. a.0 (sym e), b.0), none_first x s t a.1 b.1)

  pub empty_absent : (t : List A) → All (λ y. Absent y []) t
  empty_absent [] = tt
  empty_absent (y ∷ t) = (tt, empty_absent t)

  pub distinct_across : (s t : List A) → Distinct (s ++ t) → All (λ y. Absent y s) t
  distinct_across [] t d = empty_absent t
  distinct_across (x ∷ s) t d = none_first x s t (all_right (λ b. (x ≡ b) → ⊥) s t d.0) (distinct_across s t d.1)

  pub length_snoc : (s : List A) (x : A) → length (s ++ x ∷ []) ≡ suc (length s)
  length_snoc s x = length-append s (x ∷ []) ∙ omega arith
