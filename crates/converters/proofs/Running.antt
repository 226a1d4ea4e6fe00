-- The two calls before the slices are cleared: what was not read is turned down; what was read is written in the other edition.
use mathlib.Core.Bool.{Bool, true, false}
use mathlib.Core.List.{List, [], ◌∷◌, map}
use mathlib.Core.Path.{◌≡◌, refl, sym, ap, subst, ◌∙◌}
use Prim.Native.Nat.{ℕ, ◌≤◌, ◌<◌}
use native.Mathlib.Omega.{arith}
use lib.Dec.{ltb}
use lib.ListN.{length, take}
use Rattle.format.specs.Frame.{Edition, narrow, wide, Frame}
use Rattle.format.specs.Lines.{lines}
use Rattle.format.specs.SoFar.{said}
use Rattle.format.specs.Refusal as Meaning
use Rattle.format.specs.All.{All}
use Rattle.format.specs.File.{Form, Reading, refused, described, reading_of}
use Rattle.format.specs.Writing.{file_of, FrameFits, Writable}
use Rattle.format.specs.Content.{frames_of, Says}
use Rattle.meaning.specs.Outcome.{Decided, turned_down, answered, min_words}
use Rattle.format.proofs.Tests.{cases}
use Rattle.format.proofs.Written.{file_lines}
use Rattle.format.proofs.Content.{says_exactly}
use Rattle.reading.specs.Promises.{refusal, ReadingEnds, reading_in, ReadsFile}
use Rattle.reading.specs.declared.Refusal.{Refusal}
use Rattle.reading.specs.declared.Refusal.TheVariants as Refusal
use Rattle.writer.specs.Writes.{Writes}
use Rattle.writer.proofs.Writing.{whole_there, whole_over}
use Rattle.driver.specs.Promises.{CallEnds, Finishes, Clears}
use Rattle.driver.proofs.Deciding.{enough_words, refused_told}
use Rattle.driver.proofs.Deciding as Deciding
use Rattle.editions.specs.Converted.{frames_in, some_above, widened, narrowed, widen_read, narrow_read, decide_widen, decide_narrow}
use Rattle.editions.proofs.Same.{frames_are, all_narrow}
use Rattle.convert.specs.Lines.{LinesAre, ConvertsLines, SomeAbove}
use Rattle.converters.specs.Promises.{decide_from, RunsTo}
use Rattle.frames.specs.declared.Edition as Declared
use Rattle.frames.specs.declared.Edition.TheVariants as Code
use Rattle.frames.specs.Promises.{edition_of}
use Rattle.std.specs.Prelude.{Err, None, Ok, Option, Result, Some, ℕ, ok_or}

-- ---- What is decided goes by the reading

widen_decided : (f : List ℕ) (words : ℕ) → decide_widen f words ≡ widen_read f (reading_in narrow f words)
unfolding decide_widen widen_read reading_in
widen_decided f words = cases (ltb words min_words) (λ q. rw (q, decide_widen, reading_in)) (λ q. rw (q, decide_widen, reading_in))

narrow_decided : (f : List ℕ) (words : ℕ) → decide_narrow f words ≡ narrow_read f (reading_in wide f words)
unfolding decide_narrow narrow_read reading_in
narrow_decided f words = cases (ltb words min_words) (λ q. rw (q, decide_narrow, reading_in)) (λ q. rw (q, decide_narrow, reading_in))

-- ---- What was read is frames

record Said (ed : Edition) (f : List ℕ) : Type 0 where
  these : List Frame
  lines_are : LinesAre ed f these
  frames : frames_in ed f ≡ these
  writable : All (Writable ed) these

said_frames : (ed : Edition) (f : List ℕ) (d : Form) → reading_of ed f ≡ described d → Said ed f
said_frames ed f d e =
    let s = (says_exactly ed f d).0 e in
    let l = ap (λ x. map (said ed) (lines x)) s.is ∙ file_lines ed (frames_of s.content) s.lawful.writable in
    record { these = frames_of s.content; lines_are = l; frames = frames_are ed f (frames_of s.content) l; writable = s.lawful.writable }

-- of an accepted reading
described_by : (ed : Edition) {f w w' : List ℕ} {r : Result (Unit {0}) Refusal} → ReadsFile ed f w w' r → r ≡ Ok tt → (d : Form)
    × (reading_in ed f (length w) ≡ described d)
unfolding ReadingEnds
described_by ed {f} {w} {w'} {r} h q = go (reading_in ed f (length w)) refl h.ends
  where
    go : (x : Reading) → reading_in ed f (length w) ≡ x → ReadingEnds ed f w' r x → (d : Form) × (reading_in ed f (length w) ≡ described d)
    go (refused i) e g = let p = g.1 in let z : ◌≡◌ {A = ℕ} 0 1 = cc in absurd (omega arith)
    go (described d) e g = (d, e)

all_fit : (fs : List Frame) → All (Writable narrow) fs → All (FrameFits narrow) fs
all_fit [] w = tt
all_fit (f ∷ fs) w = (w.0.fits, all_fit fs w.1)

-- ---- What is written is told

written_told : {out ls out' : List ℕ} (r : Option ℕ) → Writes out 0 ls out' r → CallEnds out out' (ok_or r Refusal.AnswerTooLong) (answered ls)
unfolding CallEnds
written_told {out} {ls} {out'} (Some n) w =
    let h = whole_there w refl in
    (λ l. (ap Ok h.0, subst (λ m. take m out' ≡ ls) h.0 h.2), λ l. absurd (omega (arith, l, h.0, h.1)))
written_told {out} {ls} {out'} None w = (λ l. absurd (omega (arith, l, whole_over w refl)), λ l. refl)

module _ {f w w' out : List ℕ} where
  widen_refused : {r : Result (Unit {0}) Refusal} (e : Refusal) → ReadsFile narrow f w w' r → r ≡ Err e
      → RunsTo (decide_widen f (length w)) w out w' out (Err e)
  unfolding widen_read
  widen_refused {r} e h q = record {
    told = subst (CallEnds out out (Err e)) (sym (widen_decided f (length w)))
        (refused_told narrow (widen_read f) (λ i. refl) f w w' out r e h q);
    words = h.long;
    bytes = refl;
  }

  narrow_refused : {r : Result (Unit {0}) Refusal} (e : Refusal) → ReadsFile wide f w w' r → r ≡ Err e
      → RunsTo (decide_narrow f (length w)) w out w' out (Err e)
  unfolding narrow_read
  narrow_refused {r} e h q = record {
    told = subst (CallEnds out out (Err e)) (sym (narrow_decided f (length w)))
        (refused_told wide (narrow_read f) (λ i. refl) f w w' out r e h q);
    words = h.long;
    bytes = refl;
  }

  pub not_read : (from : Declared.Edition) {r : Result (Unit {0}) Refusal} (e : Refusal) → ReadsFile (edition_of from) f w w' r → r ≡ Err e
      → RunsTo (decide_from from f (length w)) w out w' out (Err e)
  not_read Code.Narrow e h q = widen_refused e h q
  not_read Code.Wide e h q = narrow_refused e h q

  pub widen_written : {r : Result (Unit {0}) Refusal} {out' : List ℕ} (x : Option ℕ) → ReadsFile narrow f w w' r → r ≡ Ok tt → ConvertsLines narrow f out out' x
      → RunsTo (decide_widen f (length w)) w out w' out' (ok_or x Refusal.AnswerTooLong)
  unfolding widen_read widened
  widen_written {r} {out'} x h q c =
      let d = described_by narrow h q in
      let s = said_frames narrow f d.0 (enough_words narrow f (length w) d.0 d.1) in
      let is : decide_widen f (length w) ≡ answered (file_of wide s.these) = widen_decided f (length w) ∙ ap (widen_read f) d.1 ∙ ap
      (λ l. answered (file_of wide l)) s.frames in
      record {
        told = subst (CallEnds out out' (ok_or x Refusal.AnswerTooLong)) (sym is)
            (written_told x (c.is s.these s.lines_are (all_fit s.these s.writable)));
        words = h.long;
        bytes = c.long;
      }

  module _ {r : Result (Unit {0}) Refusal} {b : Bool} (h : ReadsFile wide f w w' r) (q : r ≡ Ok tt) (a : SomeAbove f b) where
    pub narrow_above : b ≡ true → RunsTo (decide_narrow f (length w)) w out w' out (Err Refusal.NumberTooWide)
    unfolding narrow_read CallEnds
    narrow_above t =
        let d = described_by wide h q in
        let s = said_frames wide f d.0 (enough_words wide f (length w) d.0 d.1) in
        let high : some_above (frames_in wide f) ≡ true = ap some_above s.frames ∙ sym (a.is s.these s.lines_are) ∙ t in
        let is : decide_narrow f (length w) ≡ turned_down Meaning.number_too_wide = narrow_decided f (length w) ∙ ap (narrow_read f) d.1 ∙ rw
        (high, narrow_read) in
        record {
          told = subst (CallEnds out out (Err Refusal.NumberTooWide)) (sym is) (Refusal.NumberTooWide, refl, refl);
          words = h.long;
          bytes = refl;
        }

    pub narrow_written : {out' : List ℕ} (x : Option ℕ) → b ≡ false → ConvertsLines wide f out out' x
        → RunsTo (decide_narrow f (length w)) w out w' out' (ok_or x Refusal.AnswerTooLong)
    unfolding narrow_read narrowed
    narrow_written {out'} x t c =
        let d = described_by wide h q in
        let s = said_frames wide f d.0 (enough_words wide f (length w) d.0 d.1) in
        let low : some_above s.these ≡ false = sym (a.is s.these s.lines_are) ∙ t in
        let is : decide_narrow f (length w) ≡ answered (file_of narrow s.these) = narrow_decided f (length w) ∙ ap (narrow_read f) d.1 ∙ rw
        (ap some_above s.frames ∙ low, narrow_read) (ap (λ l. answered (file_of narrow l)) s.frames) in
        record {
          told = subst (CallEnds out out' (ok_or x Refusal.AnswerTooLong)) (sym is)
              (written_told x (c.is s.these s.lines_are (all_fit s.these (all_narrow s.these s.writable low))));
          words = h.long;
          bytes = c.long;
        }

pub cleared : {x : Decided} {w out w₁ out₁ w' out' : List ℕ} (r : Result ℕ Refusal) → RunsTo x w out w₁ out₁ r → Clears r w₁ out₁ w' out'
    → Finishes x w out w' out' r
cleared r h c = Deciding.cleared h.words h.bytes r h.told c
