-- Card 14: one number is told of two files, and where it is 00 every call gives the new file the old one's outcome.
use mathlib.Core.List.{List, [], ◌∷◌, flat_map}
use mathlib.Core.Logic.{inl, inr}
use mathlib.Core.Path.{◌≡◌, sym, ap, ◌∙◌}
use Prim.Native.Nat.{ℕ}
use native.Mathlib.Omega.{arith}
use lib.Dec.{leb}
use lib.ListN.{length, length-map}
use Rattle.format.specs.Frame.{wide}
use Rattle.format.specs.Conditions.{any_of}
use Rattle.format.specs.File.{Form, described}
use Rattle.format.specs.Content.{frames_of, describes}
use Rattle.meaning.specs.Outcome.{outcome}
use Rattle.format.proofs.Content.{says_exactly}
use Rattle.editions.specs.Converted.{predicates}
use Rattle.editions.proofs.Same.{says_frames}
use Rattle.laws.specs.Growth.{NoAbsent}
use Rattle.laws.proofs.Files.{grown_files}
use Rattle.growth.specs.Premises.{Past, content_of, OnlyAdded, Premise, premises, FirstFailing}
use Rattle.growth.proofs.Absent.{none_absent, absent_none}

pub told_once : (ps : List Premise) (m n : ℕ) → FirstFailing ps m → FirstFailing ps n → m ≡ n
told_once [] m n h i = h ∙ sym i
told_once (p ∷ ps) m n (inl h) (inl i) = h.1 ∙ sym i.1
told_once (p ∷ ps) m n (inl h) (inr i) = absurd (h.0 i.0)
told_once (p ∷ ps) m n (inr h) (inl i) = absurd (i.0 h.0)
told_once (p ∷ ps) m n (inr h) (inr i) = told_once ps m n h.1 i.1

-- The premises that 00 tells.
pub record Hold (words : ℕ) (old new : List ℕ) : Type 0 where
  pub added : OnlyAdded words old new
  pub present : NoAbsent (content_of added.past_old)

module _ {words : ℕ} {old : List ℕ} (p q : Past words old) where
  -- Whatever content a file is said to have, it has the same frames and as many predicates.
  same_frames : frames_of (content_of p) ≡ frames_of (content_of q)
  same_frames = sym (says_frames wide old p.form p.says) ∙ says_frames wide old q.form q.says

  same_count : length (content_of p).predicates ≡ length (content_of q).predicates
  unfolding describes
  same_count =
      let d : described p.form ≡ described q.form = sym ((says_exactly wide old p.form).1 p.says) ∙ (says_exactly wide old q.form).1 q.says in
      let f : p.form ≡ q.form = cc in
      let g : describes (content_of p) ≡ describes (content_of q) = sym p.says.tree ∙ f ∙ q.says.tree in
      sym (length-map (content_of p).predicates _) ∙ ap (λ (x : Form). length x.schema.predicates) g ∙ length-map (content_of q).predicates _

  same_absent : NoAbsent (content_of p) → NoAbsent (content_of q)
  same_absent h =
      let e = absent_none (content_of p) h in
      none_absent (content_of q) (
      ap (λ n. any_of (leb n) (flat_map predicates (frames_of (content_of q)))) (sym same_count)
      ∙ ap (λ l. any_of (leb (length (content_of p).predicates)) (flat_map predicates l)) (sym same_frames)
      ∙ e)

pub all_hold : (words : ℕ) (old new : List ℕ) → FirstFailing (premises words old new) 0 → Hold words old new
all_hold words old new (inl h) = let z = h.1 in absurd (omega (arith, z))
all_hold words old new (inr (p, inl h)) = let z = h.1 in absurd (omega (arith, z))
all_hold words old new (inr (p, inr (q, inl h))) = let z = h.1 in absurd (omega (arith, z))
all_hold words old new (inr (p, inr (q, inr (a, inl h)))) = let z = h.1 in absurd (omega (arith, z))
all_hold words old new (inr (p, inr (q, inr (a, inr (n, e))))) = record { added = a; present = same_absent n.past_old a.past_old n.no_absent }

-- "an old query accepted before gets the same answer, byte for byte": so does each refusal, in both slices.
pub growth_keeps : (words : ℕ) (old new : List ℕ) → FirstFailing (premises words old new) 0 → (lent bytes : ℕ) → outcome old lent bytes ≡ outcome new lent bytes
growth_keeps words old new h =
    let x = all_hold words old new h in
    let a = x.added in
    grown_files old new a.past_old.form a.past_new.form a.past_old.says a.past_new.says x.present a.grown
