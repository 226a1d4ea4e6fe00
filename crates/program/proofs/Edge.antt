-- From what was read to what is written: a file of over 65,536 bytes is refused for its length, so that its first 65,537 bytes print what the
-- whole would.
use Rattle.std.specs.Prelude.{⊤}
use Rattle.std.proofs.Common.{ℕ, List, ◌++◌, ◌≡◌, ◌≤◌, ◌-◌, length, take, replicate, arith, sym, ap, refl, ◌∙◌, subst, take_all, length-take, ltb, true, false, ltb-true, ltb-false, lt-ltb, Option, Some, None, IfSome, OnOk, Result, Ok, Err}
use Rattle.std.specs.Io.KnownBytes.{Appends}
use lib.Seq.{take-append_seam}
use Rattle.format.specs.Frame.{Edition, narrow, wide}
use Rattle.format.specs.File.{reading_of, is_too_long, max_file, refused}
use Rattle.format.specs.Refusal.{file_too_long}
use Rattle.format.proofs.Tests.{cases}
use Rattle.meaning.specs.Outcome.{Decided, turned_down, decide, decide_read, min_words, printed_lines}
use Rattle.meaning.specs.Lamp as Defined
use Rattle.meaning.specs.Lamp.{lamp, lamp_read}
use Rattle.editions.specs.Converted.{decide_widen, decide_narrow, widen_read, narrow_read}
use Rattle.lamp.specs.Promises.{lamp_line}
use Rattle.program.specs.declared.Job.{Job}
use Rattle.program.specs.Promises.{decided_by, lines_by, lamp_lines, Prints, PrintsLamp}

-- What is the same for all that are too long, the first 65,537 bytes tell.
whole : {A : Type 0} (g : List ℕ → A) (a : A) → ((f : List ℕ) → ltb 65536 (length f) ≡ true → g f ≡ a) → (f : List ℕ) → g (take 65537 f) ≡ g f
whole g a long f =
    cases (ltb 65536 (length f))
    (λ q. let past = ltb-true 65536 (length f) q in
    long (take 65537 f) (lt-ltb 65536 (length (take 65537 f)) (omega (arith, length-take 65537 f, past))) ∙ sym (long f q))
    (λ q. ap g (take_all 65537 f (omega (arith, ltb-false 65536 (length f) q))))

refused_long : (e : Edition) (f : List ℕ) → ltb 65536 (length f) ≡ true → reading_of e f ≡ refused file_too_long
unfolding reading_of is_too_long max_file
refused_long e f q = rw (q, reading_of, is_too_long) refl

long_checked : (f : List ℕ) → ltb 65536 (length f) ≡ true → decide f min_words ≡ turned_down file_too_long
unfolding decide decide_read min_words
long_checked f q = ap decide_read (refused_long wide f q)

long_widened : (f : List ℕ) → ltb 65536 (length f) ≡ true → decide_widen f min_words ≡ turned_down file_too_long
unfolding decide_widen widen_read min_words
long_widened f q = ap (widen_read f) (refused_long narrow f q)

long_narrowed : (f : List ℕ) → ltb 65536 (length f) ≡ true → decide_narrow f min_words ≡ turned_down file_too_long
unfolding decide_narrow narrow_read min_words
long_narrowed f q = ap (narrow_read f) (refused_long wide f q)

long_lit : (f : List ℕ) → ltb 65536 (length f) ≡ true → lamp f min_words ≡ Defined.Refused file_too_long
unfolding lamp lamp_read min_words
long_lit f q = ap lamp_read (refused_long wide f q)

decided_whole : (job : Job) (f : List ℕ) → decided_by job (take 65537 f) min_words ≡ decided_by job f min_words
decided_whole Job.Check f = whole (λ f. decide f min_words) (turned_down file_too_long) long_checked f
decided_whole Job.Widen f = whole (λ f. decide_widen f min_words) (turned_down file_too_long) long_widened f
decided_whole Job.Narrow f = whole (λ f. decide_narrow f min_words) (turned_down file_too_long) long_narrowed f

lines_whole : (job : Job) (f : List ℕ) → lines_by job (take 65537 f) ≡ lines_by job f
lines_whole job f = ap (λ x. printed_lines x 65536) (decided_whole job f)

lamp_whole : (f : List ℕ) → lamp_lines (take 65537 f) ≡ lamp_lines f
lamp_whole f = ap lamp_line (whole (λ f. lamp f min_words) (Defined.Refused file_too_long) long_lit f)

module _ (remaining : Option (List ℕ)) (n : ℕ) (file : List ℕ) (full : length file ≡ 65537) (front : IfSome remaining (λ f. take n file ≡ take (length file) f)) where
  -- what holds of the lines of what was read, holds of those of the file
  of_whole : (P : List ℕ → Type 0) (lines : List ℕ → List ℕ) → ((f : List ℕ) → lines (take 65537 f) ≡ lines f) → {bytes : List ℕ} → bytes ≡ lines (take n file)
      → P bytes → IfSome remaining (λ f. P (lines f))
  of_whole = known remaining front
    where
      known : (remaining : Option (List ℕ)) → IfSome remaining (λ f. take n file ≡ take (length file) f) → (P : List ℕ → Type 0) (lines : List ℕ → List ℕ)
          → ((f : List ℕ) → lines (take 65537 f) ≡ lines f) → {bytes : List ℕ} → bytes ≡ lines (take n file) → P bytes → IfSome remaining (λ f. P (lines f))
      known None front P lines same is h = tt
      known (Some f) front P lines same is h = subst P (is ∙ ap lines (front ∙ ap (λ k. take k f) full) ∙ same f) h

  pub job_written : (P : List ℕ → Type 0) (job : Job) {w out : List ℕ} {m : ℕ} → Prints (decided_by job (take n file) min_words) w out m
      → P (take m out) → IfSome remaining (λ f. P (lines_by job f))
  job_written P job {w} {out} {m} p h =
      let is : take m out ≡ lines_by job (take n file) = ap (λ k. take k out) p.long ∙ ap (take _) p.out ∙ take-append_seam _ _ in
      of_whole P (lines_by job) (lines_whole job) is h

  pub lamp_written : (P : List ℕ → Type 0) {w line : List ℕ} → PrintsLamp (take n file) w line → P line → IfSome remaining (λ f. P (lamp_lines f))
  lamp_written P p h = of_whole P lamp_lines lamp_whole p.line h

pub if_ok : {E : Type 0} {A B : Type 0} (r : Result ⊤ E) → (A → B) → OnOk r A → OnOk r B
if_ok (Ok u) h x = h x
if_ok (Err e) h x = tt
