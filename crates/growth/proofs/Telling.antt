-- The first premise that fails, from what the readings and the two walks tell.
use mathlib.Core.Bool.{Bool, true, false}
use mathlib.Core.List.{List, [], ◌∷◌, map, flat_map}
use mathlib.Core.Logic.{inl, inr}
use mathlib.Core.Path.{◌≡◌, refl, sym, ap, subst, ◌∙◌}
use Prim.Native.Nat.{ℕ, ◌+◌}
use native.Mathlib.Omega.{arith}
use lib.Dec.{leb, ltb}
use lib.ListN.{length, get_or, replicate, length-map}
use borrow.Author.Tests.{ltb-false, le-ltb}
use Rattle.format.specs.Lines.{lines}
use Rattle.format.specs.Frame.{wide}
use Rattle.format.specs.SoFar.{said}
use Rattle.format.specs.Conditions.{any_of}
use Rattle.format.specs.Refusal as Meaning
use Rattle.format.specs.File.{Form, Reading, refused, described}
use Rattle.format.specs.Content.{frames_of, describes}
use Rattle.format.specs.Bytes.{hex_line}
use Rattle.meaning.specs.Outcome.{min_words}
use Rattle.format.proofs.Tests.{cases, clash}
use Rattle.format.proofs.Written.{file_lines}
use Rattle.format.proofs.Content.{says_exactly}
use Rattle.work.specs.Layout.{PREDICATE-COUNT}
use Rattle.reading.specs.Promises.{ReadingEnds, reading_in, ReadsFile}
use Rattle.reading.specs.declared.Refusal.{Refusal}
use Rattle.editions.specs.Converted.{predicates}
use Rattle.convert.specs.Lines.{LinesAre, SomeFrom}
use Rattle.growth.specs.Premises.{Past, content_of, OnlyAdded, NamesNoAbsent}
use Rattle.growth.specs.Lines.{TellsAdded}
use Rattle.growth.specs.Promises.{number, ComparesFiles, ChecksGrowth}
use Rattle.growth.proofs.Additions.{grown_adds, adds_grown}
use Rattle.growth.proofs.Absent.{none_absent, absent_none}
use Rattle.std.specs.Result.{result_or}
use Rattle.std.specs.Prelude.{Err, Ok, Result}
use Rattle.growth.specs.declared.Premise.{Premise}

-- ---- What a reading tells

-- A file past the refusals is described, and is the lines of its content's frames.
past_reads : (words : ℕ) (f : List ℕ) (p : Past words f) → reading_in wide f words ≡ described p.form
unfolding reading_in min_words
past_reads words f p = rw (le-ltb words min_words p.enough, reading_in) ((says_exactly wide f p.form).1 p.says)

reads_past : (words : ℕ) (f : List ℕ) (d : Form) → reading_in wide f words ≡ described d → Past words f
unfolding reading_in min_words
reads_past words f d e = cases (ltb words min_words)
    (λ q. let c : refused Meaning.work_too_short ≡ described d = sym (rw (q, reading_in)) ∙ e in let z : ◌≡◌ {A = ℕ} 0 1 = cc in absurd (omega arith))
    (λ q. record { enough = ltb-false words min_words q; form = d; says = (says_exactly wide f d).0 (sym (rw (q, reading_in)) ∙ e) })

past_lines : {words : ℕ} {f : List ℕ} (p : Past words f) → LinesAre wide f (frames_of (content_of p))
past_lines p = ap (λ x. map (said wide) (lines x)) p.says.is ∙ file_lines wide (frames_of (content_of p)) p.says.lawful.writable

module _ {f w w' : List ℕ} {r : Result (Unit {0}) Refusal} (h : ReadsFile wide f w w' r) where
  pub was_refused : (i : Refusal) → r ≡ Err i → Past (length w) f → ⊥
  unfolding ReadingEnds
  was_refused i q p =
      let g : ReadingEnds wide f w' r (described p.form) = subst (ReadingEnds wide f w' r) (past_reads (length w) f p) h.ends in
      let c : Err i ≡ (Ok tt) = sym q ∙ g.0 in
      let z : ◌≡◌ {A = ℕ} 0 1 = cc in
      omega arith

  pub was_accepted : r ≡ Ok tt → Past (length w) f
  unfolding ReadingEnds
  was_accepted q = go (reading_in wide f (length w)) refl h.ends
    where
      go : (x : Reading) → reading_in wide f (length w) ≡ x → ReadingEnds wide f w' r x → Past (length w) f
      go (refused i) e g = let c : (Ok tt) ≡ Err g.0 = sym q ∙ g.1 in let z : ◌≡◌ {A = ℕ} 0 1 = cc in absurd (omega arith)
      go (described d) e g = reads_past (length w) f d e

  -- the number of its predicates
  pub counted : (p : Past (length w) f) → get_or w' PREDICATE-COUNT 0 ≡ length (content_of p).predicates
  unfolding ReadingEnds describes
  counted p =
      let g : ReadingEnds wide f w' r (described p.form) = subst (ReadingEnds wide f w' r) (past_reads (length w) f p) h.ends in
      g.2.1.predicates ∙ ap (λ (x : Form). length x.schema.predicates) p.says.tree ∙ length-map (content_of p).predicates _

-- ---- What the walks tell

module _ {words : ℕ} {old new : List ℕ} {r : Bool} (t : TellsAdded old new r) where
  pub was_added : Past words old → Past words new → r ≡ true → OnlyAdded words old new
  was_added p q e = record {
    past_old = p;
    past_new = q;
    grown = adds_grown (content_of p) (content_of q) p.says.lawful.queries_min q.says.lawful.queries_min
        (t.added (frames_of (content_of p)) (frames_of (content_of q)) (past_lines p) (past_lines q) e);
  }

  pub was_other : r ≡ false → OnlyAdded words old new → ⊥
  was_other e o =
      let p = o.past_old in
      let q = o.past_new in
      t.other (frames_of (content_of p)) (frames_of (content_of q)) (past_lines p) (past_lines q) e
      (grown_adds (content_of p) (content_of q) p.says.lawful.queries_min o.grown)

module _ {words least : ℕ} {old : List ℕ} {r : Bool} (s : SomeFrom old least r) (is : (p : Past words old) → least ≡ length (content_of p).predicates) where
  found : (p : Past words old) → r ≡ any_of (leb (length (content_of p).predicates)) (flat_map predicates (frames_of (content_of p)))
  found p = s.is (frames_of (content_of p)) (past_lines p) ∙ ap (λ n. any_of (leb n) (flat_map predicates (frames_of (content_of p)))) (is p)

  pub was_present : Past words old → r ≡ false → NamesNoAbsent words old
  was_present p e = record { past_old = p; no_absent = none_absent (content_of p) (sym (found p) ∙ e) }

  pub was_absent : r ≡ true → NamesNoAbsent words old → ⊥
  was_absent e n = let c : true ≡ false = sym e ∙ found n.past_old ∙ absent_none (content_of n.past_old) n.no_absent in clash c

-- ---- A reading's end, as the first premise that fails

module _ (r : Result (Unit {0}) Refusal) (p : Premise) where
  pub refused_or : (x : Premise) → Err x ≡ result_or r (Err p) → (x ≡ p) × (i : Refusal) × (r ≡ Err i)
  refused_or x q = go r refl q
    where
      go : (o : Result (Unit {0}) Refusal) → r ≡ o → ◌≡◌ {A = Result (Unit {0}) Premise} (Err x) (result_or o (Err p)) → (x ≡ p) × (i : Refusal) × (r ≡ Err i)
      go (Ok u) e q = let z : ◌≡◌ {A = ℕ} 0 1 = cc in absurd (omega arith)
      go (Err i) e q = (cc, i, e)

  pub accepted_or : Ok tt ≡ result_or r (Err p) → r ≡ Ok tt
  accepted_or q = go r refl q
    where
      go : (o : Result (Unit {0}) Refusal) → r ≡ o → ◌≡◌ {A = Result (Unit {0}) Premise} (Ok tt) (result_or o (Err p)) → r ≡ Ok tt
      go (Ok u) e q = e
      go (Err i) e q = let z : ◌≡◌ {A = ℕ} 0 1 = cc in absurd (omega arith)

-- ---- The call

module _ {old new w w₁ : List ℕ} {r : Result (Unit {0}) Refusal} (h : ReadsFile wide old w w₁ r) where
  pub tells_1 : {i : Refusal} → r ≡ Err i → ComparesFiles old new w w₁ (Err Premise.OldRefused)
  tells_1 {i} q = record { told = inl (was_refused h i q, refl); long = h.long }

  module _ (a : r ≡ Ok tt) {w₂ : List ℕ} {r' : Result (Unit {0}) Refusal} (h' : ReadsFile wide new w₁ w₂ r') where
    p : Past (length w) old
    p = was_accepted h a

    kept : length w₂ ≡ length w
    kept = h'.long ∙ h.long

    pub tells_2 : {i : Refusal} → r' ≡ Err i → ComparesFiles old new w w₂ (Err Premise.NewRefused)
    tells_2 {i} q = record {
      told = inr (p, inl ((λ x. was_refused h' i q (subst (λ n. Past n new) (sym h.long) x)), refl));
      long = kept;
    }

    module _ (a' : r' ≡ Ok tt) {b : Bool} (t : TellsAdded old new b) where
      p' : Past (length w) new
      p' = subst (λ n. Past n new) h.long (was_accepted h' a')

      pub tells_3 : b ≡ false → ComparesFiles old new w w₂ (Err Premise.OtherChange)
      tells_3 e = record { told = inr (p, inr (p', inl (was_other t e, refl))); long = kept }

      module _ (e : b ≡ true) {least : ℕ} (is : least ≡ get_or w₁ PREDICATE-COUNT 0) {x : Bool} (s : SomeFrom old least x) where
        pub tells_4 : x ≡ true → ComparesFiles old new w w₂ (Err Premise.NamesAbsent)
        tells_4 d = record { told = inr (p, inr (p', inr (was_added t p p' e, inl (was_absent s (λ y. is ∙ counted h y) d, refl)))); long = kept }

        pub tells_0 : x ≡ false → ComparesFiles old new w w₂ (Ok tt)
        tells_0 d = record { told = inr (p, inr (p', inr (was_added t p p' e, inr (was_present s (λ y. is ∙ counted h y) p d, refl)))); long = kept }

pub cleared : {old new w w₁ w' : List ℕ} {r : Result (Unit {0}) Premise} → ComparesFiles old new w w₁ r → w' ≡ replicate (length w₁) 0
    → ChecksGrowth old new w w' r
cleared h z = record { told = h.told; work = z ∙ ap (λ n. replicate n 0) h.long }

-- ---- The line

pub line_is : (p : Result (Unit {0}) Premise) (n : ℕ) → n ≡ number p → 48 ∷ (48 + n) ∷ 10 ∷ [] ≡ hex_line (number p ∷ [])
unfolding hex_line
line_is (Ok tt) n e = rw e refl
line_is (Err Premise.OldRefused) n e = rw e refl
line_is (Err Premise.NewRefused) n e = rw e refl
line_is (Err Premise.OtherChange) n e = rw e refl
line_is (Err Premise.NamesAbsent) n e = rw e refl
