-- Cards 10 and 14 over the code: by the contract of `check_file` alone, and the laws over the definition (crates/laws/proofs/Files.antt).
use mathlib.Core.List.{List}
use mathlib.Core.Path.{◌≡◌, refl, sym, ap, subst, ◌∙◌}
use Prim.Native.Nat.{ℕ, ◌+◌, ◌-◌, ◌≤◌}
use native.Mathlib.Omega.{arith}
use lib.ListN.{length, take, replicate, length-append, length-replicate}
use lib.Seq.{length-take-le}
use borrow.Author.Tests.{le-ltb}
use Rattle.format.specs.Frame.{wide}
use Rattle.format.specs.File.{Form}
use Rattle.format.specs.Content.{Says}
use Rattle.meaning.specs.Messages.{text_in}
use Rattle.meaning.specs.Answer.{form_lines}
use Rattle.meaning.specs.Outcome as Defined
use Rattle.meaning.specs.Outcome.{answered, min_words, accept, finish, decide, outcome}
use Rattle.laws.specs.Names.{Renamed, lines_beside}
use Rattle.laws.specs.Growth.{Grown, NoAbsent}
use Rattle.laws.proofs.Files.{private_files, grown_decisions}
use Rattle.driver.specs.Promises.{result_of, ChecksFile}
use Rattle.driver.specs.Calls.{Large, SameCalls, SameAnswer}
use Rattle.driver.proofs.Demands.{call_accepted}
use Rattle.std.specs.Prelude.{Err, Ok, Result, ℕ}
use Rattle.reading.specs.declared.Refusal.{Refusal}

module _ {f w out w' out' g v buf v' buf' : List ℕ} where
  -- Card 10.
  pub private_calls : (r q : Result ℕ Refusal) → ChecksFile f w out w' out' r → ChecksFile g v buf v' buf' q → min_words ≤ length w → min_words ≤ length v
      → (d e : Form) (p : Says wide f d) (p' : Says wide g e) → Renamed p.content p'.content → Large r → Large q → SameCalls out' r buf' q
  private_calls r q first second l l' d e p p' h large large' =
      let s = private_files f g d e p p' h (length w) (length out) (length v) (length buf) l l'
      (λ z. large (first.result ∙ z)) (λ z. large' (second.result ∙ z)) in
      record {
        result = first.result ∙ s.result ∙ sym second.result;
        lines = ap lines_beside first.answer ∙ s.answer ∙ sym (ap lines_beside second.answer);
      }

-- The answer lies in its slice.
answer_long : {f w out w' out' : List ℕ} (n : ℕ) → ChecksFile f w out w' out' (Ok n) → length (take n out') ≡ n
answer_long {f} {w} {out} {w'} {out'} n h =
    let x = call_accepted n h in
    let ls = form_lines (text_in x.form) x.ts in
    let zeros = replicate {A = ℕ} (length out - n) 0 in
    let size : length out' ≡ length ls + (length out - n) =
    ap length x.answer ∙ length-append ls zeros ∙ ap (λ m. length ls + m) (length-replicate {A = ℕ} (length out - n) 0) in
    length-take-le n out' (omega (arith, size, x.long))

module _ {f w out w' out' g v buf v' buf' : List ℕ} where
  -- Card 14. The slices of the second call need only be long enough.
  pub grown_calls : (n : ℕ) (q : Result ℕ Refusal) → ChecksFile f w out w' out' (Ok n) → ChecksFile g v buf v' buf' q
      → min_words ≤ length v → n ≤ length buf
      → (d e : Form) (p : Says wide f d) (p' : Says wide g e) → NoAbsent p.content → Grown p.content p'.content → SameAnswer n out' buf' q
  unfolding outcome finish accept
  grown_calls n q first second l m d e p p' a h =
      let old = call_accepted n first in
      let ls = take n out' in
      let same : decide g (length v) ≡ answered ls =
      sym (grown_decisions f g d e p p' a h (length w) (length v) old.when.enough l) ∙ (first.ends n refl).1 in
      let size : length ls ≡ n = answer_long n first in
      let ended : outcome g (length v) (length buf) ≡ accept ls (length v) (length buf) =
      ap (λ x. finish x (length v) (length buf)) same ∙ rw (le-ltb (length buf) (length ls) (subst (λ k. k ≤ length buf) (sym size) m), finish) in
      go q second (second.result ∙ ap (λ (o : Defined.Outcome). o.result) ended) same size
    where
      go : (q : Result ℕ Refusal) → ChecksFile g v buf v' buf' q → result_of q ≡ Defined.Accepted → decide g (length v) ≡ answered (take n out')
          → length (take n out') ≡ n → SameAnswer n out' buf' q
      go (Err i) second z same size = let c : ◌≡◌ {A = ℕ} 0 1 = cc in absurd (omega arith)
      go (Ok k) second z same size =
          let both : answered (take k buf') ≡ answered (take n out') = sym (second.ends k refl).1 ∙ same in
          let text : take k buf' ≡ take n out' = cc in
          let long : k ≡ n = sym (answer_long k second) ∙ ap length text ∙ size in
          record { accepted = ap Ok long; answer = ap (λ i. take i buf') (sym long) ∙ text }
