-- Two blocks change places by three reversals: reverse (reverse x ++ reverse y) is y ++ x.
use Rattle.std.proofs.Common.{ℕ, ◌+◌, ◌-◌, ◌≤◌, ◌≡◌, List, ◌++◌, length, take, drop, reverse, append-nil, drop_of_length-le, drop_at, le_refl, take_all}
use Rattle.std.proofs.Common.{take_at, arith, ap, sym, ◌∙◌}
use Rattle.std.proofs.lemmas.List.{drop-take, reverse-append, reverse-reverse}
use lib.Seq.{slice}
use borrow.Rule.Slice.PartMut.{put_mid, post_of, Post-is}

pub back : {A : Type 0} (x y : List A) → reverse (reverse x ++ reverse y) ≡ y ++ x
back x y = reverse-append (reverse x) (reverse y) ∙ rw (reverse-reverse x, reverse-reverse y)

-- what a reversal of the part from f to t leaves
unfoldable pub reversed : {A : Type 0} → ℕ → ℕ → List A → List A
reversed f t a = take f a ++ (reverse (slice f t a) ++ drop t a)

-- what stands after the part from q to e alone was reversed
pub middle : {A : Type 0} (o r : List A) (q e : ℕ) → q ≤ e → r ≡ reverse (take (e - q) (drop q o)) → put_mid q (e - q) o r ≡ reversed q e o
unfolding reversed
middle o r q e h is =
    let whole : q + (e - q) ≡ e = omega (arith, h) in
    let cut : take (e - q) (drop q o) ≡ slice q e o = sym (drop-take q (e - q) o) ∙ ap (λ n. drop q (take n o)) whole in
    ap (λ l. take q o ++ (l ++ post_of q (e - q) o)) (is ∙ ap reverse cut)
    ∙ ap (λ l. take q o ++ (reverse (slice q e o) ++ l)) (Post-is q e o h)

-- the second of two parts
pub behind : {A : Type 0} (x y : List A) (q : ℕ) → length x ≡ q → reversed q (length (x ++ y)) (x ++ y) ≡ x ++ reverse y
unfolding reversed
behind x y q e =
    let long : length (x ++ y) ≤ length (x ++ y) = le_refl _ in
    rw (take_at x y q e, take_all (length (x ++ y)) (x ++ y) long, drop_at x y q e, drop_of_length-le (x ++ y) long, append-nil (reverse y))
