-- How many unknowns are marked: one more with each mark of one that was not, and never more than there are.
use mathlib.Core.Bool.{Bool, true, false}
use mathlib.Core.List.{List, ◌∷◌}
use mathlib.Core.Logic.{◌≢◌, by_cases}
use mathlib.Core.Path.{◌≡◌, refl, sym, ap, ◌∙◌}
use Prim.Native.Nat.{ℕ, zero, suc, ◌+◌, ◌-◌, ◌≤◌, ◌<◌}
use native.Mathlib.Decide.{ℕ_discrete}
use native.Mathlib.Omega.{arith}
use borrow.Author.Tests.{eq-eqb, ne_eqb}
use Rattle.meaning.specs.Check.{is_in}
use Rattle.meaning.specs.Weights.{total}
use Rattle.meaning.specs.Grades.{present, marks_below}

total_plus : (f : ℕ → ℕ) (n k : ℕ) → total f n ≤ total f (k + n)
unfolding total
total_plus f n zero = let e : 0 + n ≡ n = omega arith in rw e (omega arith)
total_plus f n (suc k) = let e : suc k + n ≡ suc (k + n) = omega arith in rw e (omega (arith, total_plus f n k))

pub total_more : (f : ℕ → ℕ) (n m : ℕ) → n ≤ m → total f n ≤ total f m
total_more f n m h = go (total_plus f n (m - n))
  where
    go : total f n ≤ total f ((m - n) + n) → total f n ≤ total f m
    go p = let e : (m - n) + n ≡ m = omega arith in rw e at p

present_one : (ms : List ℕ) (x : ℕ) → present ms x ≤ 1
unfolding present
present_one ms x = go (is_in x ms) refl
  where
    go : (b : Bool) → is_in x ms ≡ b → present ms x ≤ 1
    go true q = rw (q, present) (omega arith)
    go false q = rw (q, present) (omega arith)

pub marks_few : (ms : List ℕ) (n : ℕ) → marks_below ms n ≤ n
unfolding total
marks_few ms zero = omega arith
marks_few ms (suc n) = omega (arith, present_one ms n, marks_few ms n)

-- ---- One mark more
module _ (u : ℕ) (ms : List ℕ) where
  present_here : present (u ∷ ms) u ≡ 1
  unfolding present is_in
  present_here = rw (eq-eqb u u refl, present, is_in)

  present_other : (x : ℕ) → u ≢ x → present (u ∷ ms) x ≡ present ms x
  unfolding present is_in
  present_other x n = rw (ne_eqb u x n, present, is_in)

  present_under : (x : ℕ) → present ms x ≤ present (u ∷ ms) x
  present_under x = by_cases (ℕ_discrete u x)
      (λ p. omega (arith, present_one ms x, ap (present (u ∷ ms)) (sym p) ∙ present_here))
      (λ p. omega (arith, present_other x p))

  below_under : (n : ℕ) → marks_below ms n ≤ marks_below (u ∷ ms) n
  unfolding total
  below_under zero = omega arith
  below_under (suc n) = omega (arith, present_under n, below_under n)

pub present_more : (n u : ℕ) (ms : List ℕ) → u < n → is_in u ms ≡ false → marks_below ms n + 1 ≤ marks_below (u ∷ ms) n
unfolding total
present_more zero u ms lt q = absurd (omega arith)
present_more (suc n) u ms lt q = by_cases (ℕ_discrete u n)
    (λ p. let new : present ms n ≡ 0 = ap (present ms) (sym p) ∙ absent in let here : present (u ∷ ms) n ≡ 1 = ap (present (u ∷ ms)) (sym p) ∙
    present_here u ms in omega (arith, below_under u ms n))
    (λ p. omega (arith, present_other u ms n p, present_more n u ms (omega arith) q))
  where
    absent : present ms u ≡ 0
    absent = unfold present in rw (q, present)
