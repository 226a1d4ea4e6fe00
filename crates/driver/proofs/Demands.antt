-- The demands of a call of `check_file`, by its contract and the theorems of meaning/proofs/Demands.antt.
use mathlib.Core.List.{List, [], ◌∷◌, ◌++◌}
use mathlib.Core.Path.{◌≡◌, refl, sym, ap, ◌∙◌}
use Prim.Native.Nat.{ℕ, ◌+◌, ◌-◌, ◌≤◌}
use native.Mathlib.Omega.{arith}
use lib.ListN.{length, take, replicate, length-append, length-take, length-replicate}
use lib.Seq.{length-take-le}
use borrow.Author.Tests.{lt-ltb, le-ltb}
use Rattle.format.specs.Refusal.{Refusal, number}
use Rattle.meaning.specs.Messages.{text_in}
use Rattle.format.specs.Bytes.{hex_line}
use Rattle.meaning.specs.Answer.{form_lines}
use Rattle.meaning.specs.Outcome.{answered, min_words, decide_run, decide, printed_lines, printed}
use Rattle.meaning.specs.Demands.{RefusedWhen, for_work, for_file, for_visits, for_answer}
use Rattle.meaning.proofs.Forms.{each_ran, any_out}
use Rattle.meaning.proofs.Demands.{short_decides, unread_decides, reads_decides, demand_1, demand_2}
use Rattle.reading.specs.declared.Refusal as Reading
use Rattle.reading.specs.Promises.{refusal}
use Rattle.driver.specs.Demands.{CallRefused, CallAccepted, shown}
use Rattle.driver.specs.Promises.{ChecksFile}
use Rattle.std.specs.Prelude.{Err, None, Ok, Result, Some, ℕ}

module _ {f w buf w' buf' : List ℕ} where
  pub call_refused : (e : Reading.Refusal) → ChecksFile f w buf w' buf' (Err e) → CallRefused f w buf w' buf' (refusal e)
  call_refused e h =
      let d = demand_1 f (length w) (length buf) in
      record {
        when = (d.refused_exactly (refusal e)).0 (sym h.result);
        work = h.work ∙ d.work_zeros;
        answer = h.answer ∙ d.refused_zeros (refusal e) (sym h.result);
      }

  pub call_accepted : (n : ℕ) → ChecksFile f w buf w' buf' (Ok n) → CallAccepted f w buf w' buf' n
  unfolding decide_run
  call_accepted n h =
      let x = demand_2 f (length w) (length buf) (sym h.result) in
      let a = x.when in
      let told = h.ends n refl in
      let lines = form_lines (text_in x.f) x.ts in
      let decides = reads_decides f (length w) x.f (Some x.ts) a.enough a.reads (each_ran x.f.schema x.f.queries x.ts a.checks) in
      let same : answered (take n buf') ≡ answered lines = sym told.1 ∙ decides in
      let there : take n buf' ≡ lines = cc in
      let rest = length buf - length lines in
      let all : buf' ≡ lines ++ replicate rest 0 = h.answer ∙ x.answer in
      let size : length buf' ≡ length lines + rest =
      ap length all ∙ length-append lines (replicate rest 0) ∙ ap (λ m. length lines + m) (length-replicate {A = ℕ} rest 0) in
      let long : n ≡ length lines = sym (length-take-le n buf' (omega (arith, size, a.fits, told.0))) ∙ ap length there in
      record {
        form = x.f;
        ts = x.ts;
        when = a;
        work = h.work ∙ (demand_1 f (length w) (length buf)).work_zeros;
        long = long;
        answer = all ∙ ap (λ m. lines ++ replicate (length buf - m) 0) (sym long);
      }

prints_refused : (f : List ℕ) (words bytes : ℕ) (i : Refusal) → RefusedWhen f words bytes i
    → printed_lines (decide f words) bytes ≡ hex_line (0x0f ∷ number i ∷ [])
unfolding printed_lines decide_run
prints_refused f words bytes i (for_work h) = ap (λ x. printed_lines x bytes) (short_decides f words h)
prints_refused f words bytes i (for_file h r) = ap (λ x. printed_lines x bytes) (unread_decides f words i h r)
prints_refused f words bytes i (for_visits d h s c) = ap (λ x. printed_lines x bytes) (reads_decides f words d None h s (any_out d.schema d.queries c))
prints_refused f words bytes i (for_answer d t h s c l) = ap (λ x. printed_lines x bytes)
    (reads_decides f words d (Some t) h s (each_ran d.schema d.queries t c))
    ∙ rw (lt-ltb bytes (length (form_lines (text_in d) t)) l, printed_lines)

prints_accepted : (f : List ℕ) (words bytes : ℕ) (ls : List ℕ) → decide f words ≡ answered ls → length ls ≤ bytes → printed_lines (decide f words) bytes ≡ ls
unfolding printed_lines
prints_accepted f words bytes ls e l = ap (λ x. printed_lines x bytes) e ∙ rw (le-ltb bytes (length ls) l, printed_lines)

-- What the program prints is what the definition prints.
pub call_prints : {f w buf w' buf' : List ℕ} (r : Result ℕ Reading.Refusal) → length w ≡ min_words → length buf ≡ 65536 → ChecksFile f w buf w' buf' r
    → shown r buf' ≡ printed f
unfolding shown printed
call_prints {f} {w} {buf} {w'} {buf'} (Ok n) l m h =
    let told = h.ends n refl in
    let short : length (take n buf') ≤ length buf = omega (arith, length-take n buf', told.0) in
    sym (ap (λ words. printed_lines (decide f words) 65536) (sym l) ∙ ap (λ bytes. printed_lines (decide f (length w)) bytes) (sym m) ∙ prints_accepted
    f (length w) (length buf) (take n buf') told.1 short)
call_prints {f} {w} {buf} {w'} {buf'} (Err e) l m h =
    sym (ap (λ words. printed_lines (decide f words) 65536) (sym l) ∙ ap (λ bytes. printed_lines (decide f (length w)) bytes) (sym m) ∙ prints_refused f
    (length w) (length buf) (refusal e) (call_refused e h).when)
