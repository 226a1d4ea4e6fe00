-- The engine in two halves of the lent slice: the first stage stands in the upper one, or is longer than half of what was lent, which is
-- where the definition's run needs too many words at once.
use Rattle.std.proofs.Common.{◌≡◌, ℕ, ◌+◌, ◌≤◌, ◌<◌, List, ◌++◌, length, take, drop, None, Option, Some, Err, Result, refl, sym, ap, ◌∙◌, append_assoc, arith}
use Rattle.std.proofs.Common.{length-append, length-take-le, length-drop, take_at}
use Rattle.std.proofs.lemmas.List.{drop_at}
use Rattle.std.proofs.Math.Decide.{dec_le}
use Rattle.plain.specs.Slices.{slice}
use Rattle.cells.specs.declared.Ty.{Ty}
use Rattle.cells.specs.Stands.{tree}
use Rattle.writer.specs.Writes.{placed, Writes}
use Rattle.plain_theory.specs.Plain.{start, needs}
use Rattle.plain_theory.specs.Solve.{solve}
use Rattle.plain_theory.specs.Words.{bindings_spelled}
use Rattle.plain_theory.proofs.Words.{needs_words}
use Rattle.plain_theory.proofs.Runs.{solve_full}
use Rattle.plain.proofs.Running.{gives_front}
use Rattle.plain.specs.Stages.{half, PlainRuns}
use Rattle.spelling.specs.Tokens.{spelled_stage, SpellsStart}
use Rattle.spelling.proofs.Staging.{start_needs}
use Rattle.solver.specs.Promises.{RunsEngine}
use Rattle.plain.specs.declared.Unsolved.{Unsolved}

-- ---- What a text that was written leaves

-- A part of the slice by where it stands in the text.
placed_slice : (l front a b rest : List ℕ) → l ≡ (front ++ (a ++ b)) ++ rest
    → (slice (length front) (length front + length a) l ≡ a)
    × (slice (length front + length a) (length front + length a + length b) l ≡ b)
unfolding slice
placed_slice l front a b rest e =
    let two : l ≡ ((front ++ a) ++ b) ++ rest = e ∙ ap (λ (z : List ℕ). z ++ rest) (sym (append_assoc front a b)) in
    let one : l ≡ (front ++ a) ++ (b ++ rest) = two ∙ append_assoc (front ++ a) b rest in
    let m : length (front ++ a) ≡ length front + length a = length-append front a in
    let n : length ((front ++ a) ++ b) ≡ length front + length a + length b = length-append (front ++ a) b ∙ ap (λ (k : ℕ). k + length b) m in (
      ap (λ (z : List ℕ). drop (length front) (take (length front + length a) z)) one
          ∙ ap (drop (length front)) (take_at (front ++ a) (b ++ rest) (length front + length a) m)
          ∙ drop_at front a (length front) refl,
      ap (λ (z : List ℕ). drop (length front + length a) (take (length front + length a + length b) z)) two
          ∙ ap (drop (length front + length a)) (take_at ((front ++ a) ++ b) rest (length front + length a + length b) n)
          ∙ drop_at (front ++ a) b (length front + length a) m,
    )

-- It fits: each part stands where it is said to.
module _ {l : List ℕ} {at : ℕ} {a b l' : List ℕ} {e : ℕ} (W : Writes l at (a ++ b) l' (Some e)) (low : at ≤ length l) where
  written_there : (slice at (at + length a) l' ≡ a) × (slice (at + length a) e l' ≡ b)
  unfolding placed
  written_there = go (dec_le (at + length (a ++ b)) (length l))
    where
      go : Dec (at + length (a ++ b) ≤ length l) → (slice at (at + length a) l' ≡ a) × (slice (at + length a) e l' ≡ b)
      go (no o) = cc (W.over (omega arith))
      go (yes o) =
          let f = W.fits o in
          let to : e ≡ at + length (a ++ b) = cc f.0 in
          let end : e ≡ at + length a + length b = omega (arith, to, length-append a b) in
          let n : length (take at l) ≡ at = length-take-le at l low in
          let x = placed_slice l' (take at l) a b (drop (at + length (a ++ b)) l) f.1 in
          rw end (rw n at x)

-- ---- From the upper half on
module _ {w l : List ℕ} {got expected : Ty} {h : ℕ} (low : h + h ≤ length l) (high : length l ≤ h + h + 1) {l₁ : List ℕ} {s : Option (ℕ × ℕ)}
    (S : SpellsStart w (take (h + h) l) h got expected l₁ s) where
  pub engine_runs : {b e : ℕ} → s ≡ Some (b, e) → {l₂ : List ℕ} {r : Result ℕ Unsolved} → PlainRuns l₁ (half l₁) (half l₁) b e l₂ r
      → RunsEngine w got expected l (l₂ ++ drop (h + h) l) r
  engine_runs {b} {e} q {l₂} {r} R = record {
    is = λ T st H o p.
        let even = length-take-le (h + h) l low in
        let g = start st.subst (tree T got) (tree T expected) in
        let room : h ≤ length (take (h + h) l) = omega (arith, even) in
        let W : Writes (take (h + h) l) h (spelled_stage g) l₁ (Some e) = rw q at (S.is T st H o p room) in
        let m : b ≡ h + length (bindings_spelled g.bindings) = S.between T st H o p room b e q in
        let n : half l₁ ≡ h = omega (arith, S.long, even) in
        let x = written_there W room in
        gives_front l₂ (drop (h + h) l) r (solve (length l) g) (R.is (length l) g (rw n low) (rw n high) (rw (n, m) x.0) (rw m x.1));
    long = simp (length-append, length-drop) (omega (arith, R.long, S.long, length-take-le (h + h) l low));
  }

  pub engine_full : s ≡ None → RunsEngine w got expected l (l₁ ++ drop (h + h) l) (Err Unsolved.TooFew)
  engine_full q = record {
    is = λ T st H o p.
        let even = length-take-le (h + h) l low in
        let g = start st.subst (tree T got) (tree T expected) in
        let more : length (take (h + h) l) < needs g = (start_needs S H o p (omega (arith, even))).0 q in
        rw (solve_full (length l) g (omega (arith, more, even, needs_words g))) refl;
    long = simp (length-append, length-drop) (omega (arith, S.long, length-take-le (h + h) l low));
  }
