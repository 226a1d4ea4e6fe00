-- The start of the slice is the file.
use Rattle.std.proofs.Common.{refl, Option, Some, ℕ, List, ◌++◌, ◌≡◌, ◌≤◌, ◌-◌, length, take, replicate, ap, ◌∙◌, subst, le-ltb}
use lib.Seq.{take-append_seam}
use Rattle.meaning.specs.Outcome.{answered, finish, accept}
use Rattle.testload.specs.Rule.{load_file}
use Rattle.generator.specs.Promises.{Makes}

start_is : (ls out : List ℕ) (n bytes : ℕ) → out ≡ (finish (answered ls) 0 bytes).answer → n ≡ length ls → n ≤ bytes → take n out ≡ ls
unfolding finish accept
start_is ls out n bytes is long fits =
    let rest : List ℕ = replicate (bytes - length ls) 0 in
    let done : finish (answered ls) 0 bytes ≡ accept ls 0 bytes = rw (le-ltb bytes (length ls) (subst (λ k. k ≤ bytes) long fits), finish) refl in
    ap (take n) (is ∙ ap (λ o. o.answer) done) ∙ ap (λ k. take k (ls ++ rest)) long ∙ take-append_seam ls rest

pub made : {seed : ℕ} {out out' : List ℕ} {r : Option ℕ} → Makes seed out out' r → (n : ℕ) → r ≡ Some n → take n out' ≡ load_file seed
made {seed} {out} {out'} m n e = let h = m.ends n e in start_is (load_file seed) out' n (length out) m.answer h.0 h.1
