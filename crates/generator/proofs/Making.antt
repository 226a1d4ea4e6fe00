-- The whole call: the file and zeros after it, or zeros.
use Rattle.std.proofs.Common.{◌≡◌, ℕ, ◌-◌, ◌≤◌, List, ◌++◌, length, take, replicate, None, Option, Some, refl, sym, ap, ◌∙◌, arith, le-ltb, lt-ltb}
use Rattle.std.specs.Option.{unwrap_or}
use Rattle.format.specs.Frame.{wide}
use Rattle.format.specs.Refusal.{answer_too_long}
use Rattle.format.specs.Content.{frames_of}
use Rattle.format.specs.Writing.{file_of}
use Rattle.meaning.specs.Outcome.{answered, refuse, accept, finish}
use Rattle.testload.specs.Words.{words}
use Rattle.testload.specs.Rule.{word_count, content_of, load_file}
use Rattle.writer.specs.Writes.{Writes}
use Rattle.writer.proofs.Writing.{whole_there, whole_over}
use Rattle.generator.specs.Promises.{Makes}

pub file_of_lem : (seed : ℕ) {w : List ℕ} → w ≡ words seed 1440 → file_of wide (frames_of (content_of w)) ≡ load_file seed
unfolding load_file word_count
file_of_lem seed e = ap (λ w. file_of wide (frames_of (content_of w))) e

module _ (seed : ℕ) {out mid out' : List ℕ} where
  pub makes : (r : Option ℕ) → Writes out 0 (load_file seed) mid r → (n : ℕ) → n ≡ unwrap_or r 0 → out' ≡ take n mid ++ replicate (length mid - n) 0
      → Makes seed out out' r
  unfolding finish accept refuse
  makes (Some m) f n u c =
      let file = load_file seed in
      let t = whole_there f refl in
      let fits : length file ≤ length out = omega (arith, t.0, t.1) in
      let done : finish (answered file) 0 (length out) ≡ accept file 0 (length out) = rw (le-ltb (length out) (length file) fits, finish) in
      let rest : length mid - n ≡ length out - length file = omega (arith, t.0, f.long) in
      record {
        result = sym (ap (λ o. o.result) done);
        answer = c ∙ rw (u, t.2, ← u, rest, done);
        ends = λ k p. let q = whole_there f p in (q.0, q.1);
      }
  makes None f n u c =
      let file = load_file seed in
      let done : finish (answered file) 0 (length out) ≡ refuse answer_too_long 0 (length out) =
      rw (lt-ltb (length out) (length file) (whole_over f refl), finish) in
      let all : length mid - 0 ≡ length out = omega (arith, f.long) in
      record {
        result = sym (ap (λ o. o.result) done);
        answer = c ∙ rw (u, all, done);
        ends = λ k p. cc;
      }
