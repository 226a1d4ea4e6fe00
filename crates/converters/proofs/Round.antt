-- Out and back by the two calls' contracts: "out and back through large enough slices gives the first file again", and the other round.
use mathlib.Core.Bool.{false}
use mathlib.Core.List.{List, ◌++◌}
use mathlib.Core.Path.{◌≡◌, refl, sym, ap, subst, ◌∙◌}
use Prim.Native.Nat.{ℕ, ◌+◌, ◌-◌, ◌≤◌}
use native.Mathlib.Omega.{arith}
use lib.ListN.{length, take, replicate, length-append, length-take, length-replicate}
use lib.Seq.{length-take-le}
use borrow.Author.Tests.{le-ltb}
use Rattle.format.specs.Frame.{narrow, wide}
use Rattle.format.specs.File.{Form, described, reading_of, max_file}
use Rattle.meaning.specs.Outcome as Defined
use Rattle.meaning.specs.Outcome.{Decided, answered, min_words, accept, finish}
use Rattle.format.proofs.Content.{says_exactly}
use Rattle.driver.specs.Promises.{result_of, Finishes}
use Rattle.editions.specs.Converted.{frames_in, some_above, widened, narrowed, decide_widen, decide_narrow}
use Rattle.editions.proofs.Same.{widened_says, narrowed_says, out_and_back, back_and_out, widened_low}
use Rattle.editions.proofs.Calls.{widen_answered, narrow_answered}
use Rattle.converters.specs.Promises.{Widens, Narrows, Gives}
use Rattle.std.specs.Prelude.{Err, Ok, Result, ℕ}
use Rattle.reading.specs.declared.Refusal.{Refusal}

-- What is decided and has room is given.
given : {x : Decided} {w out w' out' : List ℕ} (r : Result ℕ Refusal) (ls : List ℕ) → x ≡ answered ls → length ls ≤ length out → Finishes x w out w' out' r
    → Gives out' ls r
unfolding finish accept
given {x} {w} {out} {w'} {out'} r ls e l h = go r (h.result ∙ ap (λ o. o.result) done) h.ends
  where
    done : finish x (length w) (length out) ≡ accept ls (length w) (length out)
    done = ap (λ y. finish y (length w) (length out)) e ∙ rw (le-ltb (length out) (length ls) l, finish)

    go : (r : Result ℕ Refusal) → result_of r ≡ Defined.Accepted → ((n : ℕ) → r ≡ Ok n → (n ≤ length out) × (x ≡ answered (take n out'))) → Gives out' ls r
    go (Ok n) q ends =
        let t = ends n refl in
        let same : answered (take n out') ≡ answered ls = sym t.1 ∙ e in
        let there : take n out' ≡ ls = cc in
        let all : out' ≡ ls ++ replicate (length out - length ls) 0 = h.answer ∙ ap (λ o. o.answer) done in
        let size : length out' ≡ length ls + (length out - length ls) =
        ap length all ∙ length-append ls (replicate (length out - length ls) 0) ∙ ap (λ m. length ls + m)
        (length-replicate {A = ℕ} (length out - length ls) 0) in
        let long : n ≡ length ls = sym (length-take-le n out' (omega (arith, size, l, t.0))) ∙ ap length there in
        record { accepted = ap Ok long; stands = subst (λ m. take m out' ≡ ls) long there }
    go (Err i) q ends = let z : ◌≡◌ {A = ℕ} 0 1 = cc in absurd (omega arith)

module _ (f : List ℕ) (d : Form) {w out w' out' v buf v' buf' : List ℕ} (r q : Result ℕ Refusal) (words : min_words ≤ length w)
    (words' : min_words ≤ length v) where
  -- of every file of the narrow edition past 1 to 10 and 13 whose wide file can be read
  pub code_out_and_back : reading_of narrow f ≡ described d → length (widened f) ≤ max_file → length (widened f) ≤ length out → length f ≤ length buf
      → Widens f w out w' out' r → Narrows (take (length (widened f)) out') v buf v' buf' q → Gives out' (widened f) r × Gives buf' f q
  code_out_and_back e small fits fits' h k =
      let there = given r (widened f) (widen_answered f (length w) d words e) fits h in
      let s = widened_says f d ((says_exactly narrow f d).0 e) small in
      let says = (says_exactly wide (widened f) d).1 s.says in
      let back : decide_narrow (take (length (widened f)) out') (length v) ≡ answered f =
      ap (λ g. decide_narrow g (length v)) there.stands ∙ narrow_answered (widened f) (length v) d words' says (widened_low f d e) ∙ ap answered
      (out_and_back f d e) in
      (there, given q f back fits' k)

  -- of every file of the wide edition past them that names no predicate above 65,535
  pub code_back_and_out : reading_of wide f ≡ described d → some_above (frames_in wide f) ≡ false → length (narrowed f) ≤ length out → length f ≤ length buf
      → Narrows f w out w' out' r → Widens (take (length (narrowed f)) out') v buf v' buf' q → Gives out' (narrowed f) r × Gives buf' f q
  code_back_and_out e low fits fits' h k =
      let there = given r (narrowed f) (narrow_answered f (length w) d words e low) fits h in
      let s = narrowed_says f d ((says_exactly wide f d).0 e) low in
      let says = (says_exactly narrow (narrowed f) d).1 s.says in
      let back : decide_widen (take (length (narrowed f)) out') (length v) ≡ answered f =
      ap (λ g. decide_widen g (length v)) there.stands ∙ widen_answered (narrowed f) (length v) d words' says ∙ ap answered (back_and_out f d e low) in
      (there, given q f back fits' k)
