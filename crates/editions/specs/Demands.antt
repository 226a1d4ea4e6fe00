-- What card 6 asks of the two calls: when each is refused for which reason, zeros as demand 1 has them, the converted file says the same, and out
-- and back gives the first file. The theorems stand in proofs/Same.antt and proofs/Calls.antt.
use Rattle.std.specs.Prelude.{false, List, ◌++◌, ◌↔◌, ◌≡◌, ℕ, ◌-◌, ◌<◌, ◌≤◌, length, replicate}
use Rattle.format.specs.Refusal.{Refusal, work_too_short, answer_too_long, number_too_wide}
use Rattle.format.specs.Refused as Lines
use Rattle.format.specs.All.{Any}
use Rattle.format.specs.Frame.{Edition, narrow, wide}
use Rattle.format.specs.File.{Form, described, reading_of}
use Rattle.format.specs.Content.{Says}
use Rattle.meaning.specs.Demands.{Zeros}
use Rattle.meaning.specs.Outcome.{Outcome, Accepted, Refused, min_words}
use Rattle.editions.specs.Converted.{frames_in, predicates, widened, narrowed, some_above}

-- The converted file describes the same form by the same content: the same names, types, predicates and queries, every number kept.
pub record SameAs (from to : Edition) (file file' : List ℕ) (d : Form) (s : Says from file d) : Type 0 where
  pub says : Says to file' d
  pub content : says.content ≡ s.content

-- 1; then 2 to 10 and 13 of the narrow edition; then 12.
pub data WidenRefused (file : List ℕ) (words bytes : ℕ) : Refusal → Type 0 where
  for_work : words < min_words → WidenRefused file words bytes work_too_short
  for_file : {i : Refusal} → min_words ≤ words → Lines.Refused narrow file i → WidenRefused file words bytes i
  for_output : (d : Form) → min_words ≤ words → reading_of narrow file ≡ described d → bytes < length (widened file)
      → WidenRefused file words bytes answer_too_long

-- 1; then 2 to 10 and 13 of the wide edition; then 14; then 12.
pub data NarrowRefused (file : List ℕ) (words bytes : ℕ) : Refusal → Type 0 where
  for_work : words < min_words → NarrowRefused file words bytes work_too_short
  for_file : {i : Refusal} → min_words ≤ words → Lines.Refused wide file i → NarrowRefused file words bytes i
  for_number : (d : Form) → min_words ≤ words → reading_of wide file ≡ described d → Any (λ f. Any (λ p. 65536 ≤ p) (predicates f)) (frames_in wide file)
      → NarrowRefused file words bytes number_too_wide
  for_output : (d : Form) → min_words ≤ words → reading_of wide file ≡ described d → some_above (frames_in wide file) ≡ false → bytes < length (narrowed file)
      → NarrowRefused file words bytes answer_too_long

-- Each refusal exactly under its condition, zeros after it in the output, and in the work slice always; else the converted file and zeros.
pub record Converts (o : Outcome) (refused : Refusal → Type 0) (file' : List ℕ) (words bytes : ℕ) : Type 0 where
  pub refused_exactly : (i : Refusal) → (o.result ≡ Refused i) ↔ refused i
  pub refused_zeros : (i : Refusal) → o.result ≡ Refused i → Zeros bytes o.answer
  pub work_zeros : Zeros words o.work
  pub accepted : o.result ≡ Accepted → (length file' ≤ bytes) × (o.answer ≡ file' ++ replicate (bytes - length file') 0)
