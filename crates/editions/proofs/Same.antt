-- The converted file says the same, and out and back gives the first file again.
use mathlib.Core.Bool.{false}
use mathlib.Core.List.{List, [], ◌∷◌, ◌++◌, map, flat_map}
use mathlib.Core.Path.{◌≡◌, refl, sym, ap, subst, ◌∙◌}
use Prim.Native.Nat.{ℕ, ◌≤◌}
use native.Mathlib.Omega.{arith}
use lib.ListN.{length, length-append}
use Rattle.format.specs.Frame.{Edition, narrow, wide, Frame}
use Rattle.format.specs.Lines.{lines}
use Rattle.format.specs.SoFar.{frames, said}
use Rattle.format.specs.Conditions.{any_of}
use Rattle.format.specs.File.{Form, described, reading_of, max_file}
use Rattle.format.specs.All.{All}
use Rattle.format.specs.Bytes.{hex_line}
use Rattle.format.specs.Writing.{written, file_of, Writable}
use Rattle.format.specs.Content.{Content, frames_of, Lawful, Says}
use Rattle.format.proofs.Tests.{cases, clash}
use Rattle.format.proofs.Hex.{line_length}
use Rattle.meaning.proofs.Alone.{lawful_with}
use Rattle.format.proofs.Written.{file_lines}
use Rattle.format.proofs.Content.{says_exactly}
use Rattle.editions.specs.Converted.{frames_on, frames_in, widened, narrowed, is_above, predicates, some_above}
use Rattle.editions.specs.Demands.{SameAs}
use Rattle.editions.proofs.Views.{widen_writable, narrow_writable, fits_low, shorter}

-- ---- The frames of a file

all_frames : (fs : List Frame) → flat_map frames_on (map frames fs) ≡ fs
unfolding flat_map frames_on
all_frames [] = refl
all_frames (f ∷ fs) = ap (λ l. f ∷ l) (all_frames fs)

pub frames_are : (e : Edition) (file : List ℕ) (fs : List Frame) → map (said e) (lines file) ≡ map frames fs → frames_in e file ≡ fs
unfolding frames_in
frames_are e file fs h = ap (flat_map frames_on) h ∙ all_frames fs

pub frames_of_lem : (e : Edition) (fs : List Frame) → All (Writable e) fs → frames_in e (file_of e fs) ≡ fs
frames_of_lem e fs w = frames_are e (file_of e fs) fs (file_lines e fs w)

pub says_frames : (e : Edition) (file : List ℕ) (d : Form) (s : Says e file d) → frames_in e file ≡ frames_of s.content
says_frames e file d s = ap (frames_in e) s.is ∙ frames_of_lem e (frames_of s.content) s.lawful.writable

-- ---- Lawful in the other edition

all_wide : (fs : List Frame) → All (Writable narrow) fs → All (Writable wide) fs
all_wide [] w = tt
all_wide (f ∷ fs) w = (widen_writable f w.0, all_wide fs w.1)

-- none above in all of them, none above in each
pub none_first : (l m : List ℕ) → any_of is_above (l ++ m) ≡ false → any_of is_above l ≡ false
unfolding any_of
none_first [] m h = refl
none_first (p ∷ l) m h = cases (is_above p) (λ q. clash (sym (rw (q, any_of)) ∙ h)) (λ q. rw (q, any_of) (none_first l m (rw (q, any_of) at h)))

pub none_later : (l m : List ℕ) → any_of is_above (l ++ m) ≡ false → any_of is_above m ≡ false
unfolding any_of
none_later [] m h = h
none_later (p ∷ l) m h = cases (is_above p) (λ q. clash (sym (rw (q, any_of)) ∙ h)) (λ q. none_later l m (rw (q, any_of) at h))

pub all_narrow : (fs : List Frame) → All (Writable wide) fs → some_above fs ≡ false → All (Writable narrow) fs
unfolding some_above flat_map
all_narrow [] w h = tt
all_narrow (f ∷ fs) w h = (
  narrow_writable f w.0 (none_first (predicates f) (flat_map predicates fs) h),
  all_narrow fs w.1 (none_later (predicates f) (flat_map predicates fs) h),
)

as_lawful : {from to : Edition} (c : Content) → Lawful from c → All (Writable to) (frames_of c) → Lawful to c
as_lawful c h w = lawful_with c c.queries h h.queries h.queries_min h.queries_max w

-- ---- Lengths

pub narrow_short : (fs : List Frame) → length (file_of narrow fs) ≤ length (file_of wide fs)
unfolding file_of flat_map
narrow_short [] = omega arith
narrow_short (f ∷ fs) =
    let a = length-append (hex_line (written narrow f)) (file_of narrow fs) in
    let b = length-append (hex_line (written wide f)) (file_of wide fs) in
    omega (arith, a, b, line_length (written narrow f), line_length (written wide f), shorter f, narrow_short fs)

-- ---- The same content

-- A narrow file past 2 to 10 and 13 whose wide file is no longer than a file may be: that says the same.
pub widened_says : (file : List ℕ) (d : Form) (s : Says narrow file d) → length (widened file) ≤ max_file → SameAs narrow wide file (widened file) d s
unfolding widened
widened_says file d s size = record {
  says = record {
    content = s.content;
    is = ap (file_of wide) (says_frames narrow file d s);
    size = size;
    lawful = as_lawful s.content s.lawful (all_wide (frames_of s.content) s.lawful.writable);
    tree = s.tree;
  };
  content = refl;
}

-- A wide file past 2 to 10 and 13 that names no predicate above 65,535: the narrow one, which is no longer, says the same.
pub narrowed_says : (file : List ℕ) (d : Form) (s : Says wide file d) → some_above (frames_in wide file) ≡ false → SameAs wide narrow file (narrowed file) d s
unfolding narrowed
narrowed_says file d s low = record {
  says = record {
    content = s.content;
    is = ap (file_of narrow) fs;
    size = let a = narrow_short (frames_in wide file) in let b : length (file_of wide (frames_in wide file)) ≡ length file = ap length
        (ap (file_of wide) fs ∙ sym s.is) in omega (arith, a, b, s.size);
    lawful = as_lawful s.content s.lawful (all_narrow (frames_of s.content) s.lawful.writable (subst (λ l. some_above l ≡ false) fs low));
    tree = s.tree;
  };
  content = refl;
}
  where
    fs : frames_in wide file ≡ frames_of s.content
    fs = says_frames wide file d s

-- ---- Out and back

pub out_and_back : (file : List ℕ) (d : Form) → reading_of narrow file ≡ described d → narrowed (widened file) ≡ file
unfolding narrowed widened
out_and_back file d e =
    let s = (says_exactly narrow file d).0 e in
    let fs = says_frames narrow file d s in
    ap (λ l. file_of narrow (frames_in wide (file_of wide l))) fs
    ∙ ap (file_of narrow) (frames_of_lem wide (frames_of s.content) (all_wide (frames_of s.content) s.lawful.writable))
    ∙ sym s.is

pub back_and_out : (file : List ℕ) (d : Form) → reading_of wide file ≡ described d → some_above (frames_in wide file) ≡ false → widened (narrowed file) ≡ file
unfolding narrowed widened
back_and_out file d e low =
    let s = (says_exactly wide file d).0 e in
    let fs = says_frames wide file d s in
    ap (λ l. file_of wide (frames_in narrow (file_of narrow l))) fs
    ∙ ap (file_of wide) (frames_of_lem narrow (frames_of s.content)
    (all_narrow (frames_of s.content) s.lawful.writable (subst (λ l. some_above l ≡ false) fs low)))
    ∙ sym s.is

none_both : (l m : List ℕ) → any_of is_above l ≡ false → any_of is_above m ≡ false → any_of is_above (l ++ m) ≡ false
unfolding any_of
none_both [] m a b = b
none_both (p ∷ l) m a b = cases (is_above p) (λ q. clash (sym (rw (q, any_of)) ∙ a)) (λ q. rw (q, any_of) (none_both l m (rw (q, any_of) at a) b))

none_above : (fs : List Frame) → All (Writable narrow) fs → some_above fs ≡ false
unfolding some_above flat_map any_of
none_above [] w = refl
none_above (f ∷ fs) w = none_both (predicates f) (flat_map predicates fs) (fits_low f w.0.fits) (none_above fs w.1)

-- nothing of a widened file is above
pub widened_low : (file : List ℕ) (d : Form) → reading_of narrow file ≡ described d → some_above (frames_in wide (widened file)) ≡ false
unfolding widened
widened_low file d e =
    let s = (says_exactly narrow file d).0 e in
    let fs = says_frames narrow file d s in
    ap (λ l. some_above (frames_in wide (file_of wide l))) fs
    ∙ ap some_above (frames_of_lem wide (frames_of s.content) (all_wide (frames_of s.content) s.lawful.writable))
    ∙ none_above (frames_of s.content) s.lawful.writable
