-- `all` over the numbers below n, said of these and not of a list.
use Rattle.std.specs.Prelude.{Bool, true, false, ◌≡◌, ◌↔◌, ℕ, ◌<◌, IsTrue, length, get_or}
use Rattle.std.specs.Bool.{MatchBool}
use Rattle.std.specs.List.{range_with_len, AllWithin, HoldsAt}
use Rattle.std.proofs.Common.{arith, refl, subst}
use Rattle.std.proofs.lemmas.List.FromFn.{length-range_with_len, get_or-range_with_len}
use Rattle.unification.proofs.Tests.{clash}

pub each_below : {n m : ℕ} → m ≡ n → (P : ℕ → Type 0) (r : Bool)
    → MatchBool r (AllWithin P (range_with_len 0 m) 0 (length (range_with_len 0 m)))
    ((k : ℕ) × (k < length (range_with_len 0 m)) × HoldsAt (λ j. ¬ P j) (range_with_len 0 m) k)
    → IsTrue r ↔ ((j : ℕ) → j < n → P j)
each_below {n} {m} e P true h = (
  λ t j l. subst P {x = get_or (range_with_len 0 m) j 0} {y = j} (omega (arith, get_or-range_with_len 0 m j 0 (omega arith)))
      (h j 0 (omega arith) (omega (arith, length-range_with_len 0 m))),
  λ a. refl,
)
each_below {n} {m} e P false h = (
  λ t. clash (cc),
  λ a.
      let l : h.0 < m = omega (arith, h.1, length-range_with_len 0 m) in
      absurd (subst (λ j. ¬ P j) {x = get_or (range_with_len 0 m) h.0 0} {y = h.0} (omega (arith, get_or-range_with_len 0 m h.0 0 l)) (h.2 0)
      (a h.0 (omega arith))),
)
