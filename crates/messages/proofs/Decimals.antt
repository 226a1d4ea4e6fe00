-- A number's text is std's: whatever the depth above the number, its tens' text and its last digit.
use Rattle.std.proofs.Common.{◌≡◌, ℕ, zero, suc, ◌+◌, ◌/◌, ◌%◌, ◌^◌, ◌<◌, ◌≤◌, List, [], ◌∷◌, ◌++◌, arith, sym}
use Rattle.std.proofs.lemmas.Fmt.{decimal_by_steps}
use Rattle.std.specs.Fmt as Fmt
use borrow.Author.Tests.{lt-ltb, le-ltb}
use Rattle.meaning.specs.Messages.{decimal_in, decimal}

abbrev Reads : ℕ → List ℕ → Type 0
Reads n s = (k : ℕ) → n < k → decimal_in k n ≡ s

one : (n : ℕ) → n < 10 → Reads n ((48 + n) ∷ [])
unfolding decimal_in
one n h zero l = absurd (omega arith)
one n h (suc k) l = rw (lt-ltb n 10 h, decimal_in)

more : (n : ℕ) (s : List ℕ) → 10 ≤ n → Reads (n / 10) s → Reads n (s ++ (48 + n % 10) ∷ [])
unfolding decimal_in
more n s h r zero l = absurd (omega arith)
more n s h r (suc k) l = rw (le-ltb n 10 h, decimal_in, r k (omega arith))

pub decimal_is : (n : ℕ) → n < 2 ^ 64 → Fmt.decimal n ≡ decimal n
unfolding decimal
decimal_is n h = sym (decimal_by_steps Reads one more n h (suc n) (omega arith))
