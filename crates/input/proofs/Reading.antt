-- What was taken is the front of what was there: all of it, or as much as there is room for.
use Rattle.std.proofs.Common.{ℕ, List, ◌++◌, ◌≡◌, ◌≤◌, ◌<◌, length, take, arith, sym, ap, ◌∙◌, append-nil, length-take-le, take_all, eq-or-lt_of_le, ⊎_elim, Option, Some, None, IfSome}
use Rattle.std.specs.Io.KnownBytes.{Consumes, IsAtEnd}
use lib.Seq.{take-append_seam}

pub front_taken : (old new : Option (List ℕ)) (into : List ℕ) (n : ℕ) → n ≤ length into → Consumes old new (take n into)
    → (n < length into → IsAtEnd new) → IfSome old (λ s. take n into ≡ take (length into) s)
front_taken None new into n fits all end = tt
front_taken (Some s) None into n fits all end = absurd all
front_taken (Some s) (Some rest) into n fits all end =
    let long : length (take n into) ≡ n = length-take-le n into fits in
    ⊎_elim
    (λ e. sym (ap (take (length into)) all ∙ ap (λ k. take k (take n into ++ rest)) (sym (long ∙ e)) ∙ take-append_seam (take n into) rest))
    (λ h.
    let is : s ≡ take n into = all ∙ ap (λ l. take n into ++ l) (end h) ∙ append-nil (take n into) in
    sym (take_all (length into) s (omega (arith, ap length is, long, fits)) ∙ is))
    (eq-or-lt_of_le fits)
