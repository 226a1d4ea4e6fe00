-- The two calls: each refusal exactly under its condition, zeros, and out and back through slices that are large enough.
use mathlib.Core.Bool.{true, false}
use mathlib.Core.List.{List, [], ◌∷◌, ◌++◌, flat_map}
use mathlib.Core.Logic.{◌⊎◌, inl, inr}
use mathlib.Core.Path.{◌≡◌, refl, sym, ap, subst, ◌∙◌}
use Prim.Native.Nat.{ℕ, ◌≤◌, ◌<◌}
use native.Mathlib.Omega.{arith}
use lib.Dec.{ltb, leb}
use lib.ListN.{length}
use borrow.Author.Tests.{ltb-true, ltb-false, lt-ltb, le-ltb, leb-true, le-leb}
use Rattle.format.specs.Refusal.{Refusal, work_too_short, answer_too_long, number_too_wide}
use Rattle.format.specs.Frame.{narrow, wide, Frame}
use Rattle.format.specs.Conditions.{any_of}
use Rattle.format.specs.All.{Any}
use Rattle.format.specs.File.{Form, Reading, refused, described, reading_of, max_file}
use Rattle.meaning.specs.Outcome.{Decided, turned_down, answered, Outcome, Accepted, Refused, min_words, refuse, accept, finish}
use Rattle.format.proofs.Tests.{cases, clash}
use Rattle.format.proofs.Refused.{refused_when}
use Rattle.format.proofs.Content.{says_exactly}
use Rattle.editions.specs.Converted.{frames_in, predicates, is_above, some_above, widened, narrowed, widen_read, narrow_read, decide_widen, decide_narrow}
use Rattle.editions.specs.Converted.{outcome_widen, outcome_narrow}
use Rattle.editions.specs.Demands.{WidenRefused, NarrowRefused, Converts}
use Rattle.editions.proofs.Same.{widened_says, narrowed_says, out_and_back, back_and_out, widened_low}

-- ---- A number above 65,535, as a list of frames has it

some_above_lem : (ps : List ℕ) → any_of is_above ps ≡ true → Any (λ p. 65536 ≤ p) ps
unfolding any_of is_above
some_above_lem [] h = clash (sym h)
some_above_lem (p ∷ ps) h = cases (leb 65536 p) (λ q. inl (leb-true 65536 p q)) (λ q. inr (some_above_lem ps (rw (q, any_of) at h)))

above_some : (ps : List ℕ) → Any (λ p. 65536 ≤ p) ps → any_of is_above ps ≡ true
unfolding any_of is_above
above_some [] h = absurd h
above_some (p ∷ ps) (inl h) = rw (le-leb 65536 p h, any_of)
above_some (p ∷ ps) (inr h) = cases (leb 65536 p) (λ q. rw (q, any_of)) (λ q. rw (q, any_of) (above_some ps h))

any_append : (l m : List ℕ) → Any (λ p. 65536 ≤ p) (l ++ m) → Any (λ p. 65536 ≤ p) l ⊎ Any (λ p. 65536 ≤ p) m
any_append [] m h = inr h
any_append (p ∷ l) m (inl h) = inl (inl h)
any_append (p ∷ l) m (inr h) = go (any_append l m h)
  where
    go : Any (λ p. 65536 ≤ p) l ⊎ Any (λ p. 65536 ≤ p) m → Any (λ p. 65536 ≤ p) (p ∷ l) ⊎ Any (λ p. 65536 ≤ p) m
    go (inl x) = inl (inr x)
    go (inr x) = inr x

append_any : (l m : List ℕ) → Any (λ p. 65536 ≤ p) l ⊎ Any (λ p. 65536 ≤ p) m → Any (λ p. 65536 ≤ p) (l ++ m)
append_any [] m (inl h) = absurd h
append_any [] m (inr h) = h
append_any (p ∷ l) m (inl (inl h)) = inl h
append_any (p ∷ l) m (inl (inr h)) = inr (append_any l m (inl h))
append_any (p ∷ l) m (inr h) = inr (append_any l m (inr h))

abbrev AnyAbove : List Frame → Type 0
AnyAbove fs = Any (λ f. Any (λ p. 65536 ≤ p) (predicates f)) fs

in_frames : (fs : List Frame) → Any (λ p. 65536 ≤ p) (flat_map predicates fs) → AnyAbove fs
unfolding flat_map
in_frames [] h = absurd h
in_frames (f ∷ fs) h = go (λ x. in_frames fs x) (any_append (predicates f) (flat_map predicates fs) h)
  where
    go : (Any (λ p. 65536 ≤ p) (flat_map predicates fs) → AnyAbove fs)
        → Any (λ p. 65536 ≤ p) (predicates f) ⊎ Any (λ p. 65536 ≤ p) (flat_map predicates fs) → AnyAbove (f ∷ fs)
    go later (inl x) = inl x
    go later (inr x) = inr (later x)

frames_in_lem : (fs : List Frame) → AnyAbove fs → Any (λ p. 65536 ≤ p) (flat_map predicates fs)
unfolding flat_map
frames_in_lem [] h = absurd h
frames_in_lem (f ∷ fs) (inl h) = append_any (predicates f) (flat_map predicates fs) (inl h)
frames_in_lem (f ∷ fs) (inr h) = append_any (predicates f) (flat_map predicates fs) (inr (frames_in_lem fs h))

-- ---- How a call ends

module _ (words bytes : ℕ) (o : Outcome) (R : Refusal → Type 0) (file' : List ℕ) where
  data Ends : Type 0 where
    refuses : (i : Refusal) → R i → o ≡ refuse i words bytes → Ends
    accepts : length file' ≤ bytes → o ≡ accept file' words bytes → Ends

  converts : Ends → ((i : Refusal) → R i → o ≡ refuse i words bytes) → Converts o R file' words bytes
  unfolding refuse accept
  converts (refuses i h e) back = record {
    refused_exactly = λ j. (
      λ q. let p : ◌≡◌ {A = Outcome} o (refuse i words bytes) = e in let same : i ≡ j = refusal_same
          (sym (ap Outcome.result e) ∙ q) in subst R same h,
      λ r. ap Outcome.result (back j r),
    );
    refused_zeros = λ j q. ap Outcome.answer e;
    work_zeros = ap Outcome.work e;
    accepted = λ q. let z : Refused i ≡ Accepted = sym (ap Outcome.result e) ∙ q in let n : ◌≡◌ {A = ℕ} 0 1 = cc in absurd (omega arith);
  }
    where
      refusal_same : {i j : Refusal} → Refused i ≡ Refused j → i ≡ j
      refusal_same q = cc
  converts (accepts l e) back = record {
    refused_exactly = λ j. (
      λ q. let z : Accepted ≡ Refused j = sym (ap Outcome.result e) ∙ q in let n : ◌≡◌ {A = ℕ} 0 1 = cc in absurd (omega arith),
      λ r. ap Outcome.result (back j r),
    );
    refused_zeros = λ j q. let z : Accepted ≡ Refused j = sym (ap Outcome.result e) ∙ q in let n : ◌≡◌ {A = ℕ} 0 1 = cc in absurd (omega arith);
    work_zeros = ap Outcome.work e;
    accepted = λ q. (l, ap Outcome.answer e);
  }

fitting : (l : List ℕ) (words bytes : ℕ) → length l ≤ bytes → finish (answered l) words bytes ≡ accept l words bytes
unfolding finish
fitting l words bytes h = rw (le-ltb bytes (length l) h, finish)

overflowing : (l : List ℕ) (words bytes : ℕ) → bytes < length l → finish (answered l) words bytes ≡ refuse answer_too_long words bytes
unfolding finish
overflowing l words bytes h = rw (lt-ltb bytes (length l) h, finish)

turned : (i : Refusal) (words bytes : ℕ) → finish (turned_down i) words bytes ≡ refuse i words bytes
unfolding finish
turned i words bytes = refl

-- ---- Out

module _ (file : List ℕ) (words : ℕ) where
  widen_short : words < min_words → decide_widen file words ≡ turned_down work_too_short
  unfolding decide_widen
  widen_short h = rw (lt-ltb words min_words h, decide_widen)

  widen_reads : min_words ≤ words → decide_widen file words ≡ widen_read file (reading_of narrow file)
  unfolding decide_widen
  widen_reads h = rw (le-ltb words min_words h, decide_widen)

  widen_refused : (i : Refusal) → min_words ≤ words → reading_of narrow file ≡ refused i → decide_widen file words ≡ turned_down i
  unfolding widen_read
  widen_refused i h e = widen_reads h ∙ ap (widen_read file) e

  pub widen_answered : (d : Form) → min_words ≤ words → reading_of narrow file ≡ described d → decide_widen file words ≡ answered (widened file)
  unfolding widen_read
  widen_answered d h e = widen_reads h ∙ ap (widen_read file) e

pub widen_converts : (file : List ℕ) (words bytes : ℕ) → Converts (outcome_widen file words bytes) (WidenRefused file words bytes) (widened file) words bytes
unfolding outcome_widen
widen_converts file words bytes = converts words bytes (outcome_widen file words bytes) (WidenRefused file words bytes) (widened file) ends back
  where
    so_ends : {x : Decided} → decide_widen file words ≡ x → {o : Outcome} → finish x words bytes ≡ o → outcome_widen file words bytes ≡ o
    so_ends e q = ap (λ y. finish y words bytes) e ∙ q

    back : (i : Refusal) → WidenRefused file words bytes i → outcome_widen file words bytes ≡ refuse i words bytes
    back i (WidenRefused.for_work h) = so_ends (widen_short file words h) (turned work_too_short words bytes)
    back i (WidenRefused.for_file h r) = so_ends (widen_refused file words i h ((refused_when narrow file i).1 r)) (turned i words bytes)
    back i (WidenRefused.for_output d h e l) = so_ends (widen_answered file words d h e) (overflowing (widened file) words bytes l)

    read : min_words ≤ words → (r : Reading) → reading_of narrow file ≡ r
        → Ends words bytes (outcome_widen file words bytes) (WidenRefused file words bytes) (widened file)
    read h (refused i) e = let r = WidenRefused.for_file h ((refused_when narrow file i).0 e) in refuses i r (back i r)
    read h (described d) e = cases (ltb bytes (length (widened file)))
        (λ q. let r = WidenRefused.for_output d h e (ltb-true bytes (length (widened file)) q) in refuses answer_too_long r (back answer_too_long r))
        (λ q. let l = ltb-false bytes (length (widened file)) q in accepts l (so_ends (widen_answered file words d h e) (fitting (widened file) words bytes l)))

    ends : Ends words bytes (outcome_widen file words bytes) (WidenRefused file words bytes) (widened file)
    ends = cases (ltb words min_words)
        (λ q. let r = WidenRefused.for_work (ltb-true words min_words q) in refuses work_too_short r (back work_too_short r))
        (λ q. read (ltb-false words min_words q) (reading_of narrow file) refl)

-- ---- Back

module _ (file : List ℕ) (words : ℕ) where
  narrow_short : words < min_words → decide_narrow file words ≡ turned_down work_too_short
  unfolding decide_narrow
  narrow_short h = rw (lt-ltb words min_words h, decide_narrow)

  narrow_reads : min_words ≤ words → decide_narrow file words ≡ narrow_read file (reading_of wide file)
  unfolding decide_narrow
  narrow_reads h = rw (le-ltb words min_words h, decide_narrow)

  narrow_refused : (i : Refusal) → min_words ≤ words → reading_of wide file ≡ refused i → decide_narrow file words ≡ turned_down i
  unfolding narrow_read
  narrow_refused i h e = narrow_reads h ∙ ap (narrow_read file) e

  narrow_above : (d : Form) → min_words ≤ words → reading_of wide file ≡ described d → some_above (frames_in wide file) ≡ true
      → decide_narrow file words ≡ turned_down number_too_wide
  unfolding narrow_read
  narrow_above d h e a = narrow_reads h ∙ ap (narrow_read file) e ∙ rw (a, narrow_read)

  pub narrow_answered : (d : Form) → min_words ≤ words → reading_of wide file ≡ described d → some_above (frames_in wide file) ≡ false
      → decide_narrow file words ≡ answered (narrowed file)
  unfolding narrow_read
  narrow_answered d h e a = narrow_reads h ∙ ap (narrow_read file) e ∙ rw (a, narrow_read)

pub narrow_converts : (file : List ℕ) (words bytes : ℕ) → Converts (outcome_narrow file words bytes) (NarrowRefused file words bytes)
    (narrowed file) words bytes
unfolding outcome_narrow some_above
narrow_converts file words bytes = converts words bytes (outcome_narrow file words bytes) (NarrowRefused file words bytes) (narrowed file) ends back
  where
    so_ends : {x : Decided} → decide_narrow file words ≡ x → {o : Outcome} → finish x words bytes ≡ o → outcome_narrow file words bytes ≡ o
    so_ends e q = ap (λ y. finish y words bytes) e ∙ q

    back : (i : Refusal) → NarrowRefused file words bytes i → outcome_narrow file words bytes ≡ refuse i words bytes
    back i (NarrowRefused.for_work h) = so_ends (narrow_short file words h) (turned work_too_short words bytes)
    back i (NarrowRefused.for_file h r) = so_ends (narrow_refused file words i h ((refused_when wide file i).1 r)) (turned i words bytes)
    back i (NarrowRefused.for_number d h e a) = so_ends
        (narrow_above file words d h e (above_some (flat_map predicates (frames_in wide file)) (frames_in_lem (frames_in wide file) a)))
        (turned number_too_wide words bytes)
    back i (NarrowRefused.for_output d h e a l) = so_ends (narrow_answered file words d h e a) (overflowing (narrowed file) words bytes l)

    read : min_words ≤ words → (r : Reading) → reading_of wide file ≡ r
        → Ends words bytes (outcome_narrow file words bytes) (NarrowRefused file words bytes) (narrowed file)
    read h (refused i) e = let r = NarrowRefused.for_file h ((refused_when wide file i).0 e) in refuses i r (back i r)
    read h (described d) e = cases (some_above (frames_in wide file))
        (λ a. let r = NarrowRefused.for_number d h e (in_frames (frames_in wide file) (some_above_lem (flat_map predicates (frames_in wide file)) a)) in
        refuses number_too_wide r (back number_too_wide r))
        (λ a. cases (ltb bytes (length (narrowed file)))
        (λ q. let r = NarrowRefused.for_output d h e a (ltb-true bytes (length (narrowed file)) q) in refuses answer_too_long r (back answer_too_long r))
        (λ q. let l = ltb-false bytes (length (narrowed file)) q in accepts l
        (so_ends (narrow_answered file words d h e a) (fitting (narrowed file) words bytes l))))

    ends : Ends words bytes (outcome_narrow file words bytes) (NarrowRefused file words bytes) (narrowed file)
    ends = cases (ltb words min_words)
        (λ q. let r = NarrowRefused.for_work (ltb-true words min_words q) in refuses work_too_short r (back work_too_short r))
        (λ q. read (ltb-false words min_words q) (reading_of wide file) refl)

-- ---- Out and back

-- "out and back through large enough slices gives the first file again"
pub calls_out_and_back : (file : List ℕ) (d : Form) (words bytes bytes' : ℕ) → min_words ≤ words → reading_of narrow file ≡ described d
    → length (widened file) ≤ max_file → length (widened file) ≤ bytes → length file ≤ bytes'
    → (outcome_widen file words bytes ≡ accept (widened file) words bytes) × (outcome_narrow (widened file) words bytes' ≡ accept file words bytes')
unfolding outcome_widen outcome_narrow
calls_out_and_back file d words bytes bytes' h e small fits fits' =
    let s = widened_says file d ((says_exactly narrow file d).0 e) small in
    let r = (says_exactly wide (widened file) d).1 s.says in (
      ap (λ x. finish x words bytes) (widen_answered file words d h e) ∙ fitting (widened file) words bytes fits,
      ap (λ x. finish x words bytes') (narrow_answered (widened file) words d h r (widened_low file d e) ∙ ap answered (out_and_back file d e)) ∙
          fitting file words bytes' fits',
    )

-- and the other round, of a wide file that names no predicate above 65,535
pub calls_back_and_out : (file : List ℕ) (d : Form) (words bytes bytes' : ℕ) → min_words ≤ words → reading_of wide file ≡ described d
    → some_above (frames_in wide file) ≡ false → length (narrowed file) ≤ bytes → length file ≤ bytes'
    → (outcome_narrow file words bytes ≡ accept (narrowed file) words bytes) × (outcome_widen (narrowed file) words bytes' ≡ accept file words bytes')
unfolding outcome_widen outcome_narrow
calls_back_and_out file d words bytes bytes' h e low fits fits' =
    let s = narrowed_says file d ((says_exactly wide file d).0 e) low in
    let r = (says_exactly narrow (narrowed file) d).1 s.says in (
      ap (λ x. finish x words bytes) (narrow_answered file words d h e low) ∙ fitting (narrowed file) words bytes fits,
      ap (λ x. finish x words bytes') (widen_answered (narrowed file) words d h r ∙ ap answered (back_and_out file d e low)) ∙ fitting file words bytes' fits',
    )
