-- Card 12's call: the plain solver's answer at the n-th entry to `unify` of a file's run. "Answers: 1 to 11 and 13 as for the full check, 11 also
-- where the visits run out only after the n-th; 18 where, on sides that demand 3 admits, a step of the defined run needs more words than were lent,
-- after all others, this engine only; any of them leaves zeros in the lent slice and the work slice."
use Rattle.std.specs.Prelude.{List, [], ◌∷◌, ◌++◌, ℕ, ◌-◌, length, replicate, None, Option, Some}
use Rattle.format.specs.Refusal.{Refusal, number}
use Rattle.format.specs.Bytes.{hex_line}
use Rattle.plain_theory.specs.Plain.{Binding}
use Rattle.plain_theory.specs.Words.{bindings_spelled}
use Rattle.plain_theory.specs.Answer as Solver
use Rattle.plain_theory.specs.Answer.{answer}
use Rattle.entries.specs.Entries.{Sought, found, fewer, turned_down, entry_at}

pub data Inspected : Type 0 where
  Success : List Binding → Inspected
  Failure ShutOut Fewer : Inspected
  Refused : Refusal → Inspected
  -- refusal 18, which no other call has
  TooFewWords : Inspected

unfoldable pub told : Solver.PlainAnswer → Inspected
told (Solver.Success bs) = Success bs
told Solver.Failure = Failure
told Solver.ShutOut = ShutOut
told Solver.TooFew = TooFewWords

unfoldable pub inspected : ℕ → Sought → Inspected
unfolding told answer
inspected lent (found e) = told (answer lent e.before e.got e.expected)
inspected lent fewer = Fewer
inspected lent (turned_down r) = Refused r

-- With so many words in the work slice, and so many lent to the solver.
unfoldable pub decide_plain : List ℕ → ℕ → ℕ → ℕ → Inspected
unfolding inspected entry_at
decide_plain file n words lent = inspected lent (entry_at file n words)

-- The number of the refusal, if it is one.
unfoldable pub refused_by : Inspected → Option ℕ
unfolding number
refused_by (Success bs) = None
refused_by Failure = None
refused_by ShutOut = None
refused_by Fewer = None
refused_by (Refused r) = Some (number r)
refused_by TooFewWords = Some 18

-- ---- The slices

-- The lent slice: after a success the bindings, and zeros behind them; else zeros throughout.
unfoldable pub lent_after : ℕ → Inspected → List ℕ
unfolding bindings_spelled
lent_after lent (Success bs) = bindings_spelled bs ++ replicate (lent - length (bindings_spelled bs)) 0
lent_after lent Failure = replicate lent 0
lent_after lent ShutOut = replicate lent 0
lent_after lent Fewer = replicate lent 0
lent_after lent (Refused r) = replicate lent 0
lent_after lent TooFewWords = replicate lent 0

pub record InspectOutcome : Type 0 where
  pub result : Inspected
  pub work : List ℕ
  pub lent : List ℕ

unfoldable pub outcome : List ℕ → ℕ → ℕ → ℕ → InspectOutcome
unfolding decide_plain lent_after
outcome file n words lent = record {
  result = decide_plain file n words lent;
  work = replicate words 0;
  lent = lent_after lent (decide_plain file n words lent);
}

-- ---- The line

-- 0e with 01, 00, 02 or 03; or the refusal's.
unfoldable pub inspect_line : Inspected → List ℕ
unfolding hex_line number
inspect_line (Success bs) = hex_line (0x0e ∷ 1 ∷ [])
inspect_line Failure = hex_line (0x0e ∷ 0 ∷ [])
inspect_line ShutOut = hex_line (0x0e ∷ 2 ∷ [])
inspect_line Fewer = hex_line (0x0e ∷ 3 ∷ [])
inspect_line (Refused r) = hex_line (0x0f ∷ number r ∷ [])
inspect_line TooFewWords = hex_line (0x0f ∷ 18 ∷ [])
