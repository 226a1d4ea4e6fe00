-- A word that is written leaves every region that it does not lie in; and what holds of each element of a list and of
-- one more holds of the longer list.
use mathlib.Core.Bool.{Bool, true, false}
use mathlib.Core.List.{List, [], ◌∷◌, ◌++◌}
use mathlib.Core.Path.{◌≡◌, refl, sym, subst, ◌∙◌}
use Prim.Native.Nat.{ℕ, zero, suc, ◌+◌, ◌<◌, ◌≤◌}
use native.Mathlib.Omega.{arith}
use lib.Dec.{ltb}
use lib.ListN.{length, get_or, set, length-set, length-append, get_or-append}
use lib.Seq.{get_or-set_same, get_or-append_seam, sets}
use borrow.Author.Tests.{ltb-true, ltb-false}
use Rattle.cells.specs.Stands.{Keeps}
use Rattle.cells.proofs.Frame.{keeps_refl, keeps_trans, keeps_set}

-- ---- Regions

-- The words from a up to e are as they were.
pub record Same (a e : ℕ) (w w' : List ℕ) : Type 0 where
  pub at : (i : ℕ) → a ≤ i → i < e → get_or w' i 0 ≡ get_or w i 0

-- What lies under or over the region that changed is as it was.
pub under : {a e b d : ℕ} {w v : List ℕ} → Keeps a e w v → d ≤ a → Same b d w v
under k o = record { at = λ i l h. k.below i (omega arith) }

pub over : {a e b d : ℕ} {w v : List ℕ} → Keeps a e w v → e ≤ b → Same b d w v
over k o = record { at = λ i l h. k.above i (omega arith) }

pub same_part : {a e b d : ℕ} {w v : List ℕ} → Same a e w v → a ≤ b → d ≤ e → Same b d w v
same_part s l h = record { at = λ i p q. s.at i (omega arith) (omega arith) }

pub same_trans : {a e : ℕ} {w v u : List ℕ} → Same a e w v → Same a e v u → Same a e w u
same_trans s t = record { at = λ i l h. t.at i l h ∙ s.at i l h }

pub keeps_sets : {a e : ℕ} (w : List ℕ) (i : ℕ) (xs : List ℕ) → a ≤ i → i + length xs ≤ e → Keeps a e w (sets w i xs)
keeps_sets w i [] lo hi = keeps_refl
keeps_sets w i (x ∷ xs) lo hi = keeps_trans (keeps_set w i x lo (omega arith)) (keeps_sets (set w i x) (suc i) xs (omega arith) (omega arith))

-- The words from a on are these.
pub record WordsAt (w : List ℕ) (a : ℕ) (xs : List ℕ) : Type 0 where
  pub at : (i : ℕ) → i < length xs → get_or w (a + i) 0 ≡ get_or xs i 0

pub words_head : {w : List ℕ} {a x : ℕ} {xs : List ℕ} → WordsAt w a (x ∷ xs) → get_or w a 0 ≡ x
words_head {w} {a} h = let z : a + 0 ≡ a = omega arith in rw z at (h.at 0 (omega arith))

pub words_tail : {w : List ℕ} {a x : ℕ} {xs : List ℕ} → WordsAt w a (x ∷ xs) → WordsAt w (a + 1) xs
words_tail {w} {a} h = record { at = λ i l. let z : a + suc i ≡ a + 1 + i = omega arith in rw z at (h.at (suc i) (omega arith)) }

pub words_kept : {w w' : List ℕ} {a : ℕ} {xs : List ℕ} → Same a (a + length xs) w w' → WordsAt w a xs → WordsAt w' a xs
words_kept {a = a} s h = record { at = λ i l. s.at (a + i) (omega arith) (omega arith) ∙ h.at i l }

pub sets_words : (w : List ℕ) (a : ℕ) (xs : List ℕ) → a + length xs ≤ length w → WordsAt (sets w a xs) a xs
sets_words w a [] h = record { at = λ i l. absurd (omega arith) }
sets_words w a (x ∷ xs) h = record { at = at (sets_words (set w a x) (suc a) xs (rw length-set (omega arith))) }
  where
    at : WordsAt (sets (set w a x) (suc a) xs) (suc a) xs → (i : ℕ) → i < length (x ∷ xs) → get_or (sets (set w a x) (suc a) xs) (a + i) 0 ≡ get_or (x ∷ xs) i 0
    at r zero l = let z : a + 0 ≡ a = omega arith in rw z
        ((keeps_sets {a = suc a} {e = suc a + length xs} (set w a x) (suc a) xs (omega arith) (omega arith)).below a (omega arith) ∙ get_or-set_same w a
        x 0 (omega arith))
    at r (suc i) l = let z : a + suc i ≡ suc a + i = omega arith in rw z (r.at i (omega arith))

-- ---- One more element
module _ {A : Type 0} (P : ℕ → A → Type 0) (d : A) (l : List A) (a : A) where
  pub snoc : ((n : ℕ) → n < length l → P n (get_or l n d)) → P (length l) a → (n : ℕ) → n < length (l ++ a ∷ []) → P n (get_or (l ++ a ∷ []) n d)
  snoc older newer n h = go (ltb n (length l)) refl
    where
      go : (b : Bool) → ltb n (length l) ≡ b → P n (get_or (l ++ a ∷ []) n d)
      go true q = let b = ltb-true n (length l) q in subst (P n) (sym (get_or-append l (a ∷ []) d n b)) (older n b)
      go false q =
          let e : length l ≡ n = omega (arith, ltb-false n (length l) q, length-append l (a ∷ [])) in
          subst (λ m. P m (get_or (l ++ a ∷ []) m d)) e (subst (P (length l)) (sym (get_or-append_seam l a [] d)) newer)
