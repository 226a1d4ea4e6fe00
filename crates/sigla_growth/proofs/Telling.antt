-- A file of over 65,536 bytes is past no premise, and neither are its first 65,537 bytes.
use Rattle.std.proofs.Common.{ℕ, List, [], ◌∷◌, ◌≡◌, ◌<◌, length, take, arith, ap, ◌∙◌, subst, take_all, length-take, ltb, false, ltb-true, ltb-false, inl, inr, ⊎_elim, Bool, Option, Some, None, IfSome}
use Rattle.format.specs.Bytes.{hex_line}
use Rattle.format.specs.File.{max_file}
use Rattle.format.proofs.Tests.{cases}
use Rattle.meaning.specs.Outcome.{min_words}
use Rattle.growth.specs.Premises.{Past, premises, FirstFailing}
use Rattle.sigla_growth.specs.Promises.{counted, LineOf}

not_past : (w : ℕ) (f : List ℕ) → 65536 < length f → Past w f → ⊥
unfolding max_file
not_past w f long p = omega (arith, long, p.says.size)

cut_long : (f : List ℕ) → 65536 < length f → 65536 < length (take 65537 f)
cut_long f long = omega (arith, length-take 65537 f, long)

-- the new file's part
new_whole : (w : ℕ) (f g : List ℕ) (n : ℕ) → FirstFailing (premises w f (take 65537 g)) n → FirstFailing (premises w f g) n
new_whole w f g n h =
    cases (ltb 65536 (length g))
    (λ q. let long = ltb-true 65536 (length g) q in
    ⊎_elim (λ x. inl x)
    (λ y. inr (y.0, ⊎_elim (λ z. inl (not_past w g long, z.1)) (λ z. absurd (not_past w (take 65537 g) (cut_long g long) z.0)) y.1))
    h)
    (λ q. subst (λ g. FirstFailing (premises w f g) n) (take_all 65537 g (omega (arith, ltb-false 65536 (length g) q))) h)

files_whole : (w : ℕ) (f g : List ℕ) (n : ℕ) → FirstFailing (premises w (take 65537 f) (take 65537 g)) n → FirstFailing (premises w f g) n
files_whole w f g n h =
    cases (ltb 65536 (length f))
    (λ q. let long = ltb-true 65536 (length f) q in
    ⊎_elim (λ x. inl (not_past w f long, x.1)) (λ y. absurd (not_past w (take 65537 f) (cut_long f long) y.0)) h)
    (λ q. new_whole w f g n
    (subst (λ f. FirstFailing (premises w f (take 65537 g)) n) (take_all 65537 f (omega (arith, ltb-false 65536 (length f) q))) h))

abbrev pub Front : Option (List ℕ) → Bool → ℕ → List ℕ → Type 0
Front known failed n file = IfSome known (λ f. take n file ≡ take (length file) (counted failed f))

module _ (n m : ℕ) (a b line : List ℕ) (k words : ℕ) (la : length a ≡ 65537) (lb : length b ≡ 65537) (lw : words ≡ 16384)
    (first : FirstFailing (premises words (take n a) (take m b)) k) (is : line ≡ hex_line (k ∷ [])) where
  line_of : (P : List ℕ → Type 0) (f g : List ℕ) → take n a ≡ take (length a) f → take m b ≡ take (length b) g → P line → LineOf P f g
  unfolding min_words
  line_of P f g fa fb h =
      let of_old = fa ∙ ap (λ k. take k f) la in
      let of_new = fb ∙ ap (λ k. take k g) lb in
      let here : FirstFailing (premises min_words (take n a) (take m b)) k = subst (λ w. FirstFailing (premises w (take n a) (take m b)) k) lw first in
      let cut_old : FirstFailing (premises min_words (take 65537 f) (take m b)) k = subst (λ l. FirstFailing (premises min_words l (take m b)) k) of_old here in
      let cut : FirstFailing (premises min_words (take 65537 f) (take 65537 g)) k =
      subst (λ l. FirstFailing (premises min_words (take 65537 f) l) k) of_new cut_old in
      (k, files_whole min_words f g k cut, subst P is h)

  -- what holds of the line that was written, holds of that of both files, each as it counts
  pub line_told : (old new : Option (List ℕ)) (c d : Bool) → Front old c n a → Front new d m b → (P : List ℕ → Type 0) → P line
      → IfSome old (λ f. IfSome new (λ g. LineOf P (counted c f) (counted d g)))
  line_told None new c d fa fb P h = tt
  line_told (Some f) None c d fa fb P h = tt
  line_told (Some f) (Some g) c d fa fb P h = line_of P (counted c f) (counted d g) fa fb h

pub as_counted : (P : List ℕ → Type 0) (old new : Option (List ℕ)) (c d : Bool) → IfSome old (λ f. IfSome new (λ g. LineOf P (counted c f) (counted d g)))
    → IfSome old (λ f. IfSome new (λ g. (a b : Bool) × LineOf P (counted a f) (counted b g)))
as_counted P None new c d h = tt
as_counted P (Some f) None c d h = tt
as_counted P (Some f) (Some g) c d h = (c, d, h)

pub as_read : (P : List ℕ → Type 0) (old new : Option (List ℕ)) (c d : Bool) → c ≡ false → d ≡ false
    → IfSome old (λ f. IfSome new (λ g. LineOf P (counted c f) (counted d g))) → IfSome old (λ f. IfSome new (λ g. LineOf P f g))
as_read P old new c d first second h =
    let F : Bool → Bool → Type 0 = λ c d. IfSome old (λ f. IfSome new (λ g. LineOf P (counted c f) (counted d g))) in
    subst (F false) second (subst (λ x. F x d) first h)
