-- A call is refused for 3 and for 6 exactly where the file reaches such a line (format/proofs/Reasons.antt).
use mathlib.Core.List.{List, map}
use mathlib.Core.Logic.{◌↔◌}
use mathlib.Core.Path.{◌≡◌}
use Prim.Native.Nat.{ℕ, ◌≤◌}
use lib.ListN.{length}
use Rattle.format.specs.Refusal.{Refusal, work_too_short, file_too_long, malformed_line, misplaced_kind, too_many, malformed_frame, broken_text}
use Rattle.format.specs.Refusal.{name_given_before, bad_reference, repeated_key, too_many_visits, answer_too_long, too_many_queries, number_too_wide}
use Rattle.format.specs.Refusal.{tally_too_large, ceiling_passed, outside_the_rules}
use Rattle.format.specs.Lines.{Line, lines}
use Rattle.format.specs.Frame.{wide}
use Rattle.format.specs.SoFar.{SoFar, said, start}
use Rattle.format.specs.Conditions.{conditions}
use Rattle.format.specs.File.{max_file}
use Rattle.format.specs.Refused.{First, AtLine, too_long, at_line, missing_query}
use Rattle.format.specs.Means.{Malformed}
use Rattle.format.specs.Reasons.{Reaches, NoFrame}
use Rattle.meaning.specs.Outcome.{Refused, min_words, outcome}
use Rattle.meaning.specs.Demands.{RefusedWhen, for_work, for_file, for_visits, for_answer}
use Rattle.meaning.proofs.Demands.{demand_1}
use Rattle.format.proofs.Reasons.{reaches, reached, at_malformed, malformed_at, at_no_frame, no_frame_at}

-- the refusals that are told of a line alone
abbrev OfLine : Refusal → Type 0
OfLine work_too_short = ⊥
OfLine file_too_long = ⊥
OfLine malformed_line = Unit {0}
OfLine misplaced_kind = ⊥
OfLine too_many = Unit {0}
OfLine malformed_frame = Unit {0}
OfLine broken_text = Unit {0}
OfLine name_given_before = Unit {0}
OfLine bad_reference = Unit {0}
OfLine repeated_key = Unit {0}
OfLine too_many_visits = ⊥
OfLine answer_too_long = ⊥
OfLine too_many_queries = Unit {0}
OfLine number_too_wide = ⊥
OfLine tally_too_large = ⊥
OfLine ceiling_passed = ⊥
OfLine outside_the_rules = ⊥

module _ (file : List ℕ) (words bytes : ℕ) where
  at_line_lem : {i : Refusal} → RefusedWhen file words bytes i → OfLine i
      → (min_words ≤ words) × (length file ≤ max_file) × AtLine start (map (said wide) (lines file)) i
  at_line_lem (for_work h) o = absurd o
  at_line_lem (for_file h (too_long x)) o = absurd o
  at_line_lem (for_file h (at_line x s)) o = (h, x, s)
  at_line_lem (for_file h (missing_query end x p q)) o = absurd o
  at_line_lem (for_visits f h r c) o = absurd o
  at_line_lem (for_answer f ts h r c l) o = absurd o

  -- refused for a reason that is told of a line, exactly where the file reaches such a line
  exactly : (i : Refusal) → OfLine i → (P : SoFar → Line → Type 0) → ((so : SoFar) (l : Line) → First conditions so (said wide l) i → P so l)
      → ((so : SoFar) (l : Line) → P so l → First conditions so (said wide l) i)
      → ((outcome file words bytes).result ≡ Refused i) ↔ ((min_words ≤ words) × Reaches file P)
  exactly i o P to from =
      let d = (demand_1 file words bytes).refused_exactly i in
      (λ e. let a = at_line_lem (d.0 e) o in (a.0, reaches file i P a.1 to a.2), λ r. d.1 (for_file r.0 (reached file i P from r.1)))

  pub line_refused : ((outcome file words bytes).result ≡ Refused malformed_line) ↔ ((min_words ≤ words) × Reaches file (λ so l. Malformed l))
  line_refused = exactly malformed_line tt (λ so l. Malformed l) at_malformed malformed_at

  pub frame_refused : ((outcome file words bytes).result ≡ Refused malformed_frame) ↔ ((min_words ≤ words) × Reaches file NoFrame)
  frame_refused = exactly malformed_frame tt NoFrame at_no_frame no_frame_at
