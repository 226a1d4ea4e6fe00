-- Sums over the numbers below n.
use Rattle.std.proofs.Common.{List, length, get_or, take, sum_by, Bool, true, false, ◌≡◌, refl, sym, ap, ℕ, zero, suc, ◌+◌, ◌<◌, ◌≤◌, eqb, add-one, arith}
use Rattle.std.proofs.lemmas.List.Sums.{sum_by_more}
use borrow.Author.Tests.{eqb-true, eqb-false, eq-eqb, ne_eqb}
use Rattle.cabinet.specs.Cabinet.{total, but}

pub total_same : (f g : ℕ → ℕ) (n : ℕ) → ((i : ℕ) → i < n → f i ≡ g i) → total f n ≡ total g n
unfolding total
total_same f g zero h = refl
total_same f g (suc n) h = cc (total_same f g n (λ i l. h i (omega arith)), h n (omega arith))

but_at : (d : ℕ) (f : ℕ → ℕ) → but d f d ≡ 0
but_at d f = rw (eq-eqb d d refl, but)

but_other : (d : ℕ) (f : ℕ → ℕ) (i : ℕ) → (i ≡ d → ⊥) → but d f i ≡ f i
but_other d f i n = rw (ne_eqb i d n, but)

-- A sum is that of all the others, and the one.
pub total_split : (d : ℕ) (f : ℕ → ℕ) (n : ℕ) → d < n → total f n ≡ total (but d f) n + f d
unfolding total
total_split d f zero l = omega arith
total_split d f (suc n) l = go (total_split d f n) (eqb d n) refl
  where
    go : (d < n → total f n ≡ total (but d f) n + f d) → (b : Bool) → eqb d n ≡ b → total f n + f n ≡ total (but d f) n + but d f n + f d
    go ih true e = let same = eqb-true d n e in
        omega (arith, total_same (but d f) f n (λ i k. but_other d f i (omega arith)), but_at d f, ap (but d f) same, ap f same)
    go ih false e = let other = eqb-false d n e in
        omega (arith, ih (omega arith), but_other d f n (λ q. other (sym q)))

-- A sum over the first n elements of a list is the sum over their numbers.
pub total_taken : {A : Type 0} (f : A → ℕ) (xs : List A) (d : A) (n : ℕ) → n ≤ length xs → sum_by f (take n xs) ≡ total (λ i. f (get_or xs i d)) n
unfolding total
total_taken f xs d zero l = refl
total_taken f xs d (suc n) l = omega (arith, ap (λ k. sum_by f (take k xs)) (sym (add-one n)), sum_by_more f xs n d l, total_taken f xs d n (omega arith))
