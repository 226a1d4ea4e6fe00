-- What the solver left in the slices is what the definition says of the entry that was found; and where none was found they are cleared.
use mathlib.Core.List.{List, [], ◌∷◌}
use mathlib.Core.Path.{◌≡◌, refl, sym, ap, ◌∙◌, subst}
use Prim.Native.Nat.{ℕ}
use lib.ListN.{length, replicate, length-replicate}
use Rattle.unification.specs.Calls.{UnifyEntry}
use Rattle.unification.proofs.Tests.{clash}
use Rattle.cells.specs.declared.Ty.{Ty}
use Rattle.format.specs.Refusal.{number}
use Rattle.format.specs.Bytes.{hex_line}
use Rattle.plain_theory.specs.Answer as Solver
use Rattle.plain_theory.specs.Answer.{answer}
use Rattle.entries.specs.Entries as Entries
use Rattle.entries.specs.Entries.{found, fewer, turned_down, entry_at}
use Rattle.reading.specs.Promises.{refusal}
use Rattle.reading.specs.declared.Refusal.{Refusal}
use Rattle.seek.specs.Promises.{ShowsEntry, Seeks}
use Rattle.seek.specs.Promises as Seek
use Rattle.solver.specs.Promises.{Left, Solves}
use Rattle.inspect.specs.Inspect as Defined
use Rattle.inspect.specs.Inspect.{told, inspected, decide_plain, lent_after, inspect_line}
use Rattle.inspect.specs.declared.Inspected.{Inspected}
use Rattle.inspect.specs.Promises.{inspected_by, ToldInspected, Answers, Inspects, line_of}
use Rattle.std.specs.Prelude.{Err, None, Ok, Option, Result, Some, ℕ}
use Rattle.std.proofs.lemmas.Option.{some_pair_parts}
use Rattle.plain.specs.declared.Unsolved.{Unsolved}

-- The answer, and what the lent slice holds.
abbrev Right : List ℕ → ℕ → Inspected → Defined.Inspected → Type 0
Right l lent r x = ToldInspected r x × (l ≡ lent_after lent x)

solver_right : (l : List ℕ) (lent : ℕ) (p : Result ℕ Unsolved) (x : Solver.PlainAnswer) → Left l lent p x → Right l lent (inspected_by p) (told x)
unfolding told lent_after
solver_right l lent p (Solver.Success bs) h = (ap inspected_by h.0, h.1)
solver_right l lent p Solver.Failure h = (ap inspected_by h.0, h.1)
solver_right l lent p Solver.ShutOut h = (ap inspected_by h.0, h.1)
solver_right l lent p Solver.TooFew h = (ap inspected_by h.0, h.1)

module _ {f : List ℕ} {n : ℕ} {w w₁ : List ℕ} {s : Result (Option (Ty × Ty)) Refusal} (S : Seeks f n w w₁ s) (l : List ℕ) where
  answers : {w₂ l' : List ℕ} {r : Inspected} → length w₂ ≡ length w₁ → Right l' (length l) r (decide_plain f n (length w) (length l))
      → Answers f n w l w₂ l' r
  answers long h = record { told = h.0; lent = h.1; words = long ∙ S.words }

  pub solved : {a b : Ty} → s ≡ Ok (Some (a, b)) → {w₂ l' : List ℕ} {p : Result ℕ Unsolved} {r : Inspected} → Solves w₁ a b l w₂ l' p → r ≡ inspected_by p
      → Answers f n w l w₂ l' r
  unfolding decide_plain inspected
  solved {a} {b} e {w₂} {l'} {p} {r} P is = answers P.keeps.long (go (entry_at f n (length w)) S.is)
    where
      at : (e : UnifyEntry) → ShowsEntry w₁ a b e → Left l' (length l) p (answer (length l) e.before e.got e.expected)
      at e h = rw (sym h.before, sym h.got, sym h.expected) (P.is h.rows h.state h.holds h.got_there h.expected_there)

      go : (x : Entries.Sought) → Seek.ToldSought w₁ s x → Right l' (length l) r (inspected (length l) x)
      go (found x) h =
          let both : ◌≡◌ {A = Option (Ty × Ty)} (Some (h.0, h.1)) (Some (a, b)) = cc (h.2, e) in
          let one : h.0 ≡ a = (some_pair_parts _ _ _ _ both).0 in
          let other : h.1 ≡ b = (some_pair_parts _ _ _ _ both).1 in
          let shows : ShowsEntry w₁ a b x = rw (sym one, sym other) h.3 in
          subst (λ y. Right l' (length l) y (inspected (length l) (found x))) (sym is)
          (solver_right l' (length l) p (answer (length l) x.before x.got x.expected) (at x shows))
      go fewer h = clash (cc (h, e))
      go (turned_down i) h = clash (cc (h.1, e))

  module _ {l' : List ℕ} (zeros : l' ≡ replicate (length l) 0) where
    pub none_there : s ≡ Ok None → Answers f n w l w₁ l' Inspected.Fewer
    unfolding decide_plain inspected lent_after
    none_there e = answers refl (go (entry_at f n (length w)) S.is)
      where
        go : (x : Entries.Sought) → Seek.ToldSought w₁ s x → Right l' (length l) Inspected.Fewer (inspected (length l) x)
        go (found x) h = clash (cc (h.2, e))
        go fewer h = (refl, zeros)
        go (turned_down i) h = clash (cc (h.1, e))

    pub refused : {i : Refusal} → s ≡ Err i → Answers f n w l w₁ l' (Inspected.Refused i)
    unfolding decide_plain inspected lent_after
    refused {i} e = answers refl (go (entry_at f n (length w)) S.is)
      where
        go : (x : Entries.Sought) → Seek.ToldSought w₁ s x → Right l' (length l) (Inspected.Refused i) (inspected (length l) x)
        go (found x) h = clash (cc (h.2, e))
        go fewer h = clash (cc (h, e))
        go (turned_down j) h = let same : h.0 ≡ i = cc (h.1, e) in ((i, refl, sym (ap refusal same) ∙ h.2), zeros)

-- Only the length of the work slice counts.
pub inspects : {f : List ℕ} {n : ℕ} {w l w₀ w₁ l' w' : List ℕ} {r : Inspected} → w₀ ≡ replicate (length w) 0 → Answers f n w₀ l w₁ l' r
    → w' ≡ replicate (length w₁) 0 → Inspects f n w l w' l' r
inspects {f} {n} {w} {l} {w₀} {w₁} {l'} {w'} {r} z A c =
    let long : length w₀ ≡ length w = ap length z ∙ length-replicate (length w) 0 in
    record {
      told = subst (λ (k : ℕ). ToldInspected r (decide_plain f n k (length l))) long A.told;
      lent = subst (λ (k : ℕ). l' ≡ lent_after (length l) (decide_plain f n k (length l))) long A.lent;
      work = c ∙ ap (λ (k : ℕ). replicate k 0) (A.words ∙ long);
    }

-- The line of what was answered is that of what the definition decides.
pub line_is : (r : Inspected) (x : Defined.Inspected) → ToldInspected r x → line_of r ≡ inspect_line x
unfolding line_of inspect_line
line_is r (Defined.Success bs) h = rw h
line_is r Defined.Failure h = rw h
line_is r Defined.ShutOut h = rw h
line_is r Defined.Fewer h = rw h
line_is r (Defined.Refused i) h = ap line_of h.1 ∙ ap (λ j. hex_line (0x0f ∷ number j ∷ [])) h.2
line_is r Defined.TooFewWords h = rw h
