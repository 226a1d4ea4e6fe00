-- What the tests of File.antt say, in the terms of All.antt.
use mathlib.Core.Bool.{Bool, true, false, true≢false}
use mathlib.Core.List.{List, [], ◌∷◌}
use mathlib.Core.Logic.{◌≢◌}
use mathlib.Core.Path.{◌≡◌, refl, sym, ap, ◌∙◌}
use Prim.Native.Nat.{ℕ, ◌<◌}
use Rattle.std.proofs.lemmas.Bool.{and_parts, and_from}
use lib.Dec.{eqb, ltb}
use borrow.Author.Tests.{ltb-true, lt-ltb, eqb-true, eqb-false, eq-eqb, ne_eqb}
use Rattle.format.specs.Conditions.{any_of, all_below, among, again, same_text, given}
use Rattle.format.specs.All.{All, Absent, Distinct}
use Rattle.format.proofs.Lists.{all_map, not_first, none_first}

-- a test's two answers
pub cases : {X : Type 0} (b : Bool) → (b ≡ true → X) → (b ≡ false → X) → X
cases true t f = t refl
cases false t f = f refl

pub clash : {X : Type 0} → true ≡ false → X
clash e = absurd (true≢false e)

pub below_all : (n : ℕ) (ms : List ℕ) → all_below n ms ≡ true → All (λ m. m < n) ms
unfolding all_below
below_all n [] h = tt
below_all n (m ∷ ms) h = (ltb-true m n (and_parts (ltb m n) (all_below n ms) h).0, below_all n ms (and_parts (ltb m n) (all_below n ms) h).1)

pub all_below_lem : (n : ℕ) (ms : List ℕ) → All (λ m. m < n) ms → all_below n ms ≡ true
unfolding all_below
all_below_lem n [] h = refl
all_below_lem n (m ∷ ms) h = and_from (ltb m n) (all_below n ms) (lt-ltb m n h.0) (all_below_lem n ms h.1)

-- no element passes the test
pub none_passes : {A : Type 0} (test : A → Bool) (P : A → Type 0) → ((a : A) → test a ≡ false → P a) → (l : List A) → any_of test l ≡ false → All P l
unfolding any_of
none_passes test P f [] h = tt
none_passes test P f (a ∷ l) h = cases (test a)
    (λ q. clash (rw (q, any_of) at h))
    (λ q. (f a q, none_passes test P f l (rw (q, any_of) at h)))

pub passes_none : {A : Type 0} (test : A → Bool) (P : A → Type 0) → ((a : A) → P a → test a ≡ false) → (l : List A) → All P l → any_of test l ≡ false
unfolding any_of
passes_none test P f [] h = refl
passes_none test P f (a ∷ l) h = rw (f a h.0, any_of) (passes_none test P f l h.1)

among_absent : (n : ℕ) (ms : List ℕ) → among n ms ≡ false → Absent n ms
unfolding among
among_absent n ms h = none_passes (eqb n) (λ m. n ≢ m) (λ m q. eqb-false n m q) ms h

absent_among : (n : ℕ) (ms : List ℕ) → Absent n ms → among n ms ≡ false
unfolding among
absent_among n ms h = passes_none (eqb n) (λ m. n ≢ m) (λ m q. ne_eqb n m q) ms h

-- each of ns is none of earlier, and none of them stands twice
pub again_new : (earlier ns : List ℕ) → again earlier ns ≡ false → All (λ n. Absent n earlier) ns
unfolding again
again_new earlier [] h = tt
again_new earlier (n ∷ ns) h = cases (among n earlier)
    (λ q. clash (rw (q, again) at h))
    (λ q. (
      among_absent n earlier q,
      all_map (λ m. Absent m (n ∷ earlier)) (λ m. Absent m earlier) ns (λ m h. h.1)
          (again_new (n ∷ earlier) ns (rw (q, again) at h)),
    ))

pub again_distinct : (earlier ns : List ℕ) → again earlier ns ≡ false → Distinct ns
unfolding again
again_distinct earlier [] h = tt
again_distinct earlier (n ∷ ns) h = cases (among n earlier)
    (λ q. clash (rw (q, again) at h))
    (λ q. let rest : again (n ∷ earlier) ns ≡ false = rw (q, again) at h in
    (not_first n earlier ns (again_new (n ∷ earlier) ns rest), again_distinct (n ∷ earlier) ns rest))

pub new_again : (earlier ns : List ℕ) → All (λ n. Absent n earlier) ns → Distinct ns → again earlier ns ≡ false
unfolding again
new_again earlier [] a d = refl
new_again earlier (n ∷ ns) a d = rw (absent_among n earlier a.0, again) (new_again (n ∷ earlier) ns (none_first n earlier ns d.0 a.1) d.1)

pub same_text_lem : (s t : List ℕ) → same_text s t ≡ true → s ≡ t
unfolding same_text
same_text_lem [] [] h = refl
same_text_lem [] (b ∷ t) h = clash (sym h)
same_text_lem (a ∷ s) [] h = clash (sym h)
same_text_lem (a ∷ s) (b ∷ t) h =
    let p : a ≡ b = eqb-true a b (and_parts (eqb a b) (same_text s t) h).0 in
    let q : s ≡ t = same_text_lem s t (and_parts (eqb a b) (same_text s t) h).1 in
    cc

pub text_same : (s : List ℕ) → same_text s s ≡ true
unfolding same_text
text_same [] = refl
text_same (a ∷ s) = and_from (eqb a a) (same_text s s) (eq-eqb a a refl) (text_same s)

different : (s t : List ℕ) → same_text s t ≡ false → s ≢ t
different s t q e = true≢false (sym (text_same s) ∙ ap (same_text s) e ∙ q)

not_same : (s t : List ℕ) → s ≢ t → same_text s t ≡ false
not_same s t n = cases (same_text s t) (λ q. absurd (n (same_text_lem s t q))) (λ q. q)

pub given_absent : (ts : List (List ℕ)) (s : List ℕ) → given ts s ≡ false → Absent s ts
unfolding given
given_absent ts s h = none_passes (same_text s) (λ t. s ≢ t) (λ t q. different s t q) ts h

pub absent_given : (ts : List (List ℕ)) (s : List ℕ) → Absent s ts → given ts s ≡ false
unfolding given
absent_given ts s h = passes_none (same_text s) (λ t. s ≢ t) (λ t q. not_same s t q) ts h
