-- What antt computes at each of the 256 bytes holds of every byte.
use Rattle.std.proofs.Common.{◌≡◌, ℕ, ◌<◌, true, eqb}
use Rattle.std.proofs.lemmas.Bool.{agree_below, agree_below_at, eqb-true}

pub same_at_bytes : (f g : ℕ → ℕ) → agree_below (λ b. eqb (f b) (g b)) (λ _. true) 256 ≡ true → (b : ℕ) → b < 256 → f b ≡ g b
same_at_bytes f g e b l = eqb-true _ _ (agree_below_at (λ b. eqb (f b) (g b)) (λ _. true) 256 b e l)
