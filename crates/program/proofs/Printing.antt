-- What a call leaves is what the definition prints: after an answer the slice has it already; after a refusal the slice is zero
-- throughout, and the refusal's line takes the place of its first bytes.
use mathlib.Core.List.{List, [], ◌∷◌, ◌++◌}
use mathlib.Core.Path.{◌≡◌, refl, sym, ap, subst, ◌∙◌}
use Prim.Native.Nat.{ℕ, ◌+◌, ◌-◌, ◌≤◌}
use native.Mathlib.Omega.{arith}
use lib.Dec.{ltb}
use lib.ListN.{length, take, drop, replicate, length-append, length-take, length-replicate, replicate-append-replicate}
use lib.Seq.{drop_at, take-length, length-take-le}
use borrow.Author.Tests.{le-ltb}
use Rattle.format.specs.Refusal as Meaning
use Rattle.format.specs.Refusal.{number, answer_too_long}
use Rattle.format.specs.Bytes.{hex_line}
use Rattle.meaning.specs.Outcome as Defined
use Rattle.meaning.specs.Outcome.{Decided, turned_down, answered, min_words, refuse, accept, finish, printed_lines}
use Rattle.format.proofs.Tests.{cases}
use Rattle.reading.specs.Promises.{refusal}
use Rattle.reading.specs.declared.Refusal.{Refusal}
use Rattle.driver.specs.Promises.{Finishes}
use Rattle.program.specs.Promises.{Prints}
use Rattle.std.specs.Prelude.{Err, Ok}

abbrev zeros : ℕ → List ℕ
zeros n = replicate n 0

zeros_after : (n m : ℕ) → n ≤ m → drop n (zeros m) ≡ zeros (m - n)
zeros_after n m h =
    let whole : n + (m - n) ≡ m = omega (arith, h) in
    ap (drop n) (sym (replicate-append-replicate n (m - n) 0 ∙ ap zeros whole)) ∙ drop_at (zeros n) (zeros (m - n)) n (length-replicate n 0)

-- A refusal is printed as its line, and leaves zeros.
record Refused (x : Decided) (words bytes : ℕ) (i : Meaning.Refusal) : Type 0 where
  line : printed_lines x bytes ≡ hex_line (0x0f ∷ number i ∷ [])
  zero : finish x words bytes ≡ refuse i words bytes

refused : (x : Decided) (words bytes : ℕ) (i : Meaning.Refusal) → (finish x words bytes).result ≡ Defined.Refused i → Refused x words bytes i
unfolding printed_lines finish refuse accept
refused (turned_down j) words bytes i e = let same : j ≡ i = cc in subst (Refused (turned_down j) words bytes) same (record { line = refl; zero = refl })
refused (answered ls) words bytes i e =
    cases (ltb bytes (length ls))
    (λ q. let f : Defined.Refused answer_too_long ≡ Defined.Refused i = rw (q, finish) at e in let same : answer_too_long ≡ i = cc in subst
    (Refused (answered ls) words bytes) same (record { line = rw (q, printed_lines) refl; zero = rw (q, finish) refl }))
    (λ q. let f : Defined.Accepted ≡ Defined.Refused i = rw (q, finish) at e in absurd (apart f))
  where
    apart : Defined.Accepted ≡ Defined.Refused i → ⊥
    apart f = let z : ◌≡◌ {A = ℕ} 0 1 = cc in omega arith

-- What is decided goes by the words that are lent.
here : (by : ℕ → Decided) {n : ℕ} {w' out' : List ℕ} {r : ℕ} → n ≡ 16384 → Prints (by n) w' out' r → Prints (by min_words) w' out' r
unfolding min_words
here by {n} {w'} {out'} {r} words h = subst (λ n. Prints (by n) w' out' r) words h

module _ (by : ℕ → Decided) {w out w' out₁ : List ℕ} (words : length w ≡ 16384) (bytes : length out ≡ 65536) where
  pub answer_printed : (n : ℕ) → Finishes (by (length w)) w out w' out₁ (Ok n) → Prints (by min_words) w' out₁ n
  unfolding min_words finish accept printed_lines
  answer_printed n h =
      let x = by (length w) in
      let e = h.ends n refl in
      let ls = take n out₁ in
      let short : length ls ≤ length out = omega (arith, length-take n out₁, e.0) in
      let done : finish x (length w) (length out) ≡ accept ls (length w) (length out) = ap (λ y. finish y (length w) (length out)) e.1 ∙ rw
      (le-ltb (length out) (length ls) short, finish) in
      let all : out₁ ≡ ls ++ zeros (length out - length ls) = h.answer ∙ ap (λ o. o.answer) done in
      let size : length out₁ ≡ length ls + (length out - length ls) = ap length all ∙ length-append ls (zeros (length out - length ls)) ∙ ap
      (λ m. length ls + m) (length-replicate {A = ℕ} (length out - length ls) 0) in
      let long : length ls ≡ n = length-take-le n out₁ (omega (arith, size, short, e.0)) in
      let is : printed_lines x 65536 ≡ ls = ap (λ y. printed_lines y 65536) e.1 ∙ rw (le-ltb 65536 (length ls) (omega (arith, short, bytes)), printed_lines) in
      here by words (record {
        long = sym (ap length is ∙ long);
        out = all ∙ ap (λ l. l ++ zeros (length out - length ls)) (sym is) ∙ ap (λ k. printed_lines x 65536 ++ zeros (k - length ls)) bytes ∙ ap
            (λ k. printed_lines x 65536 ++ zeros (65536 - k)) long;
        work = h.work ∙ ap (λ o. o.work) done ∙ ap zeros words;
      })

  pub line_printed : (e : Refusal) {line out' : List ℕ} {r : ℕ} → line ≡ hex_line (0x0f ∷ number (refusal e) ∷ [])
      → Finishes (by (length w)) w out w' out₁ (Err e)
      → length line ≤ length out → r ≡ length line → out' ≡ take (length line) line ++ drop (length line) out₁ → Prints (by min_words) w' out' r
  unfolding min_words refuse
  line_printed e {line} {out'} {r} spelt h fits long copied =
      let x = by (length w) in
      let a = refused x (length w) (length out) (refusal e) (sym h.result) in
      let is : line ≡ printed_lines x 65536 = spelt ∙ sym a.line ∙ ap (printed_lines x) bytes in
      let none : out₁ ≡ zeros (length out) = h.answer ∙ ap (λ o. o.answer) a.zero in
      let rest : drop (length line) out₁ ≡ zeros (65536 - r) =
      ap (drop (length line)) none ∙ zeros_after (length line) (length out) fits ∙ ap (λ k. zeros (k - length line)) bytes ∙ ap
      (λ k. zeros (65536 - k)) (sym long) in
      here by words (record {
        long = long ∙ ap length is;
        out = copied ∙ ap (λ l. l ++ drop (length line) out₁) (take-length line ∙ is) ∙ ap (λ l. printed_lines x 65536 ++ l) rest;
        work = h.work ∙ ap (λ o. o.work) a.zero ∙ ap zeros words;
      })
