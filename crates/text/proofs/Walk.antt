-- The walk from character to character: what one step does to the count of the bytes that are left.
use Rattle.std.proofs.Common.{◌≡◌, refl, ap, sym, ◌∙◌, ℕ, suc, ◌+◌, ◌<◌, List, [], ◌∷◌, length, length-take, get_or, take, drop, arith}
use Rattle.std.proofs.Math.ListN.{take-append-drop}
use Rattle.std.proofs.Math.Nat.{zero-add}
use Rattle.std.proofs.Math.Seq.{take-append_seam}
use Rattle.text.specs.Star.{Every, none as nil, more}
use Rattle.text.specs.Utf8.{Text, count, characters, one_more}
use Rattle.text.specs.Width.{StartsWith, StartsWithNone}
use Rattle.text.proofs.Grammar.{step, counts}
use Rattle.text.proofs.First.{nonempty}
use Rattle.text.proofs.Agree.{Byte, same_character, in_rule, each_left, each_right}
use Rattle.std.specs.Prelude.{None, Option, Some}

-- k characters before the others
abbrev pub plus : ℕ → Option ℕ → Option ℕ
plus k None = None
plus k (Some n) = Some (k + n)

pub plus_zero : (o : Option ℕ) → o ≡ plus 0 o
plus_zero None = refl
plus_zero (Some n) = ap Some (sym (zero-add n))

pub plus_more : (k : ℕ) (o : Option ℕ) → plus k (one_more o) ≡ plus (k + 1) o
plus_more k None = refl
plus_more k (Some n) = ap Some (omega arith)

-- what is known of each place, of the whole list
pub bytes : (s : List ℕ) → ((k : ℕ) → Byte (get_or s k 0)) → Every Byte s
bytes [] h = tt
bytes (b ∷ s) h = (h 0, bytes s (λ k. h (suc k)))

-- no character is empty, so the walk goes on
pub positive : {s : List ℕ} {n : ℕ} → StartsWith s n → 0 < n
positive {s} {n} w = omega (arith, nonempty w.whole, length-take n s)

-- nothing is left
pub done : (s : List ℕ) (k : ℕ) → length s ≡ 0 → plus k (characters s) ≡ Some k
unfolding characters count
done [] k h = ap Some (omega arith)
done (b ∷ s) k h = absurd (omega arith)

module _ (s : List ℕ) where
  -- past the character that s starts with
  pub on : (k n : ℕ) → Every Byte s → StartsWith s n → plus k (characters s) ≡ plus (k + 1) (characters (drop n s))
  on k n h w =
      let c = (same_character (take n s) (each_left Byte (take n s) (drop n s) (rw take-append-drop h))).0 w.whole in
      ap (plus k) (rw take-append-drop at (step (take n s) (drop n s) c)) ∙ plus_more k (characters (drop n s))

  pub left : (n : ℕ) → Every Byte s → Every Byte (drop n s)
  left n h = each_right Byte (take n s) (drop n s) (rw take-append-drop h)

  no_text : (n : ℕ) → 0 < length s → StartsWithNone s → {t : List ℕ} → Text t n → s ≡ t → ⊥
  no_text n h w nil e = omega (arith, ap length e)
  no_text n h w (more {a = a} {t = t} c r) e = w (length a) (rw (e, take-append_seam a t) (in_rule c))

  -- where none starts there is no text
  pub stop : 0 < length s → StartsWithNone s → characters s ≡ None
  stop h w = go (characters s) refl
    where
      go : (o : Option ℕ) → characters s ≡ o → characters s ≡ None
      go None e = e
      go (Some n) e = absurd (no_text n h w ((counts s n).1 e) refl)
