-- What is handed over piece by piece comes to the whole, or to a part of it from its start.
use Rattle.std.proofs.Common.{ℕ, ◌+◌, ◌-◌, ◌≤◌, List, [], ◌++◌, ◌≡◌, length, take, drop, arith, sym, ap, ◌∙◌, subst, length-append, take_all, le_refl, Option}
use Rattle.std.specs.Io.KnownBytes.{Appends, Keeps}
use Rattle.std.proofs.KnownBytes.{Appends-nil, Appends-trans, Appends-kept}
use lib.Seq.{take-add, take-take, take-append-le, take-append-add}
use Rattle.input.specs.Gains.{GainsFrontOf}

pub take_more : (bytes : List ℕ) (n more : ℕ) → more ≤ length bytes - n → take n bytes ++ take more (take (length bytes - n) (drop n bytes)) ≡ take (n + more) bytes
take_more bytes n more fits = ap (λ l. take n bytes ++ l) (take-take more (length bytes - n) (drop n bytes) fits) ∙ sym (take-add n more bytes)

-- the whole is a part
pub whole_gained : (a b : Option (List ℕ)) (bs : List ℕ) → Appends a b bs → GainsFrontOf a b bs
whole_gained a b bs h = (length bs, le_refl _, subst (Appends a b) (sym (take_all (length bs) bs (le_refl _))) h)

-- a part of the first of two
pub first_gained : (a b : Option (List ℕ)) (xs ys : List ℕ) → GainsFrontOf a b xs → GainsFrontOf a b (xs ++ ys)
first_gained a b xs ys (k, fits, h) =
    (k, omega (arith, fits, length-append xs ys), subst (Appends a b) (sym (take-append-le k xs ys fits)) h)

-- the first of two, and a part of the second
pub second_gained : (a b c : Option (List ℕ)) (xs ys : List ℕ) → Appends a b xs → GainsFrontOf b c ys → GainsFrontOf a c (xs ++ ys)
second_gained a b c xs ys first (k, fits, h) =
    (length xs + k, omega (arith, fits, length-append xs ys), subst (Appends a c) (sym (take-append-add xs ys k)) (Appends-trans a b c xs (take k ys) first h))

-- nothing is a part
pub none_gained : (a b : Option (List ℕ)) (bs : List ℕ) → Keeps a b → GainsFrontOf a b bs
none_gained a b bs h = (0, omega arith, Appends-kept a a b [] (Appends-nil a) h)
