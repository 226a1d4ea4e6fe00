-- From what was answered to what is printed: the words of the bindings stand at the start of the lent slice; and a file of over 65,536 bytes is
-- refused for its length, so that its first 65,537 bytes print what the whole would.
use Rattle.std.proofs.Common.{ℕ, min, List, [], ◌≡◌, length, take, refl, sym, ap, ◌∙◌, subst, arith, ◌+◌, length-append, length-take, take_all, ltb, true, ltb-true, ltb-false, lt-ltb, Option, Some, None, IfSome, Result, Ok, Err, OnOk}
use Rattle.std.specs.Io.KnownBytes.{Appends}
use lib.Seq.{take-append_seam}
use Rattle.format.specs.File.{reading, reading_of, is_too_long, max_file, refused}
use Rattle.format.specs.Refusal.{file_too_long}
use Rattle.format.proofs.Tests.{cases}
use Rattle.meaning.specs.Outcome.{min_words}
use Rattle.entries.specs.Entries.{entry_at}
use Rattle.plain_theory.specs.Words.{bindings_spelled}
use Rattle.inspect.specs.Inspect as Defined
use Rattle.inspect.specs.Inspect.{inspect_line, decide_plain, lent_after}
use Rattle.inspect.specs.Promises.{ToldInspected, Inspects, line_of}
use Rattle.inspect.specs.declared.Inspected.{Inspected}
use Rattle.inspect.proofs.Answering.{line_is}
use Rattle.input.specs.Gains.{GainsFrontOf}
use Rattle.input.specs.declared.Failure.{Failure}
use Rattle.input.proofs.Gains.{first_gained}
use Rattle.sigla_inspect.specs.Text.{bindings_text, bound, inspect_text}
use Rattle.sigla_inspect.specs.Promises.{HandsOver, words_bound, text_at}
use Rattle.sigla_inspect.proofs.Writing.{then_written}

-- ---- The line and the bindings

nothing : (l : List ℕ) (n : ℕ) → n ≡ min 0 (length l) → take n l ≡ []
nothing l n e = let none : n ≡ 0 = omega arith in rw none refl

pub words_are : (r : Inspected) (x : Defined.Inspected) (l : List ℕ) (n : ℕ) → ToldInspected r x → l ≡ lent_after (length l) x
    → n ≡ min (words_bound r) (length l) → take n l ≡ bindings_spelled (bound x)
unfolding lent_after bound bindings_spelled
words_are r (Defined.Success bs) l n told lent e =
    let spelled = bindings_spelled bs in
    let many : words_bound r ≡ length spelled = ap words_bound told in
    let long : length l ≡ length spelled + _ = ap length lent ∙ length-append spelled _ in
    let same : n ≡ length spelled = omega (arith, e, many, long) in
    ap (λ (k : ℕ). take k l) same ∙ ap (take (length spelled)) lent ∙ take-append_seam spelled _
words_are r Defined.Failure l n told lent e = nothing l n (e ∙ ap (λ (y : Inspected). min (words_bound y) (length l)) told)
words_are r Defined.ShutOut l n told lent e = nothing l n (e ∙ ap (λ (y : Inspected). min (words_bound y) (length l)) told)
words_are r Defined.Fewer l n told lent e = nothing l n (e ∙ ap (λ (y : Inspected). min (words_bound y) (length l)) told)
words_are r (Defined.Refused i) l n told lent e = nothing l n (e ∙ ap (λ (y : Inspected). min (words_bound y) (length l)) told.1)
words_are r Defined.TooFewWords l n told lent e = nothing l n (e ∙ ap (λ (y : Inspected). min (words_bound y) (length l)) told)

module _ (r : Inspected) (x : Defined.Inspected) (told : ToldInspected r x) (a b : Option (List ℕ)) (line : List ℕ) (is : line ≡ line_of r) where
  pub line_gained : GainsFrontOf a b line → GainsFrontOf a b (inspect_text x)
  unfolding inspect_text
  line_gained h = first_gained a b (inspect_line x) (bindings_text (bound x)) (subst (GainsFrontOf a b) (is ∙ line_is r x told) h)

  pub all_written : {A : Type 0} → Appends a b line → (c : Option (List ℕ)) (o : Result A Failure) → HandsOver b c o (bindings_text (bound x))
      → HandsOver a c o (inspect_text x)
  unfolding inspect_text
  all_written first c o h = then_written a b (inspect_line x) (subst (Appends a b) (is ∙ line_is r x told) first) c o (bindings_text (bound x)) h

-- With the slices that the program lends.
pub inspected_so : {f : List ℕ} {n : ℕ} {w l w' l' : List ℕ} {r : Inspected} → Inspects f n w l w' l' r → length w ≡ 16384 → length l ≡ 65536
    → length l' ≡ 65536 → ToldInspected r (decide_plain f n min_words 65536) × (l' ≡ lent_after (length l') (decide_plain f n min_words 65536))
unfolding min_words
inspected_so {f} {n} {w} {l} {w'} {l'} {r} i lw ll long =
    let told = subst (λ (k : ℕ). ToldInspected r (decide_plain f n k (length l))) lw i.told in
    let lent = subst (λ (k : ℕ). l' ≡ lent_after (length l) (decide_plain f n k (length l))) lw i.lent in
    let there = subst (λ (k : ℕ). l' ≡ lent_after k (decide_plain f n 16384 k)) ll lent in (
      subst (λ (k : ℕ). ToldInspected r (decide_plain f n 16384 k)) ll told,
      subst (λ (k : ℕ). l' ≡ lent_after k (decide_plain f n 16384 65536)) (sym long) there,
    )

-- ---- The whole file

long_read : (f : List ℕ) → ltb 65536 (length f) ≡ true → reading f ≡ refused file_too_long
unfolding reading_of is_too_long max_file
long_read f q = rw (q, reading_of, is_too_long) refl

reading_cut : (f : List ℕ) → reading (take 65537 f) ≡ reading f
reading_cut f =
    cases (ltb 65536 (length f))
    (λ q. let past = ltb-true 65536 (length f) q in
    long_read (take 65537 f) (lt-ltb 65536 (length (take 65537 f)) (omega (arith, length-take 65537 f, past))) ∙ sym (long_read f q))
    (λ q. ap reading (take_all 65537 f (omega (arith, ltb-false 65536 (length f) q))))

text_cut : (n : ℕ) (f : List ℕ) → text_at n (take 65537 f) ≡ text_at n f
unfolding decide_plain entry_at min_words
text_cut n f = rw (reading_cut f) refl

-- What holds of the text of what was read, holds of that of the file.
pub of_whole : (remaining : Option (List ℕ)) (n m : ℕ) (file : List ℕ) → length file ≡ 65537
    → IfSome remaining (λ f. take m file ≡ take (length file) f) → (P : List ℕ → Type 0) → P (text_at n (take m file)) → IfSome remaining (λ f. P (text_at n f))
of_whole None n m file full front P h = tt
of_whole (Some f) n m file full front P h =
    subst P (ap (text_at n) (front ∙ ap (λ (k : ℕ). take k f) full) ∙ text_cut n f) h

pub if_ok : {E : Type 0} {A B : Type 0} (r : Result (Unit {0}) E) → (A → B) → OnOk r A → OnOk r B
if_ok (Ok u) h x = h x
if_ok (Err e) h x = tt
