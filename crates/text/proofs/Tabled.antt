-- The machine's walk: what a step from state to state does to the count of the bytes that are left.
use Rattle.std.proofs.Common.{◌≡◌, refl, ap, ◌∙◌, ℕ, suc, ◌+◌, ◌≤◌, ◌<◌, Bool, true, false, ◌⊎◌, inl, inr, eqb, List, [], ◌∷◌, length, get_or, drop, add-one}
use Rattle.std.proofs.Common.{drop-cons, Some, arith}
use Rattle.std.proofs.Math.ListN.{drop_of_length-le}
use Rattle.std.proofs.lemmas.Bool.{agree_below_at, eqb-true, eqb-false, ne_eqb}
use Rattle.std.specs.Bool.{then_some}
use Rattle.text.specs.Utf8.{Range, inside, following, one_more, count, utf8_char, characters}
use Rattle.text.specs.Machine.{wanted, after}
use Rattle.text.proofs.Walk.{plus, plus_zero, plus_more}
use Rattle.std.specs.Prelude.{None, Option}

-- the count of what is left, where this is wanted first
abbrev pub rest : Option (List Range) → List ℕ → Option ℕ
rest None s = None
rest (Some rs) s = count utf8_char rs s

-- nothing is wanted: a character starts here
abbrev starts : Option (List Range) → Bool
starts None = false
starts (Some []) = true
starts (Some (r ∷ rs)) = false

first : (b : ℕ) (t : List ℕ) → rest (Some []) (b ∷ t) ≡ one_more (rest (after (Some []) b) t)
unfolding count after
first b t = go (following utf8_char b) refl
  where
    go : (o : Option (List Range)) → following utf8_char b ≡ o → rest (Some []) (b ∷ t) ≡ one_more (rest (following utf8_char b) t)
    go None q = rw (q, count)
    go (Some rs) q = rw (q, count)

later : (o : Option (List Range)) (b : ℕ) (t : List ℕ) → starts o ≡ false → rest o (b ∷ t) ≡ rest (after o b) t
unfolding count after
later None b t h = refl
later (Some []) b t h = cc
later (Some (r ∷ rs)) b t h = go (inside r b) refl
  where
    go : (i : Bool) → inside r b ≡ i → rest (Some (r ∷ rs)) (b ∷ t) ≡ rest (after (Some (r ∷ rs)) b) t
    go true q = rw (q, count, after)
    go false q = rw (q, count, after)

cut : (o : Option (List Range)) → starts o ≡ false → rest o [] ≡ None
unfolding count
cut None h = refl
cut (Some []) h = cc
cut (Some (r ∷ rs)) h = refl

begun : (state : ℕ) → state < 8 → (state ≡ 0 → ⊥) → starts (wanted state) ≡ false
begun state l n = agree_below_at (λ k. starts (wanted k)) (λ k. eqb k 0) 8 state refl l ∙ ne_eqb state 0 n

pub start : (s : List ℕ) → characters s ≡ plus 0 (rest (wanted 0) (drop 0 s))
unfolding characters
start s = plus_zero (count utf8_char [] s)

-- k' counts the character that starts here, if one does
abbrev pub Counts : ℕ → ℕ → ℕ → Type 0
Counts state k k' = ((state ≡ 0) × (k' ≡ k + 1)) ⊎ ((state ≡ 0 → ⊥) × (k' ≡ k))

module _ (state k k' b : ℕ) (t : List ℕ) (l : state < 8) where
  more : Counts state k k' → plus k (rest (wanted state) (b ∷ t)) ≡ plus k' (rest (after (wanted state) b) t)
  more (inl p) = rw (p.0, p.1) (ap (plus k) (first b t) ∙ plus_more k (rest (after (Some []) b) t))
  more (inr p) = rw p.1 (ap (plus k) (later (wanted state) b t (begun state l p.0)))

module _ (s : List ℕ) (i state k : ℕ) where
  -- past one byte
  pub on : (k' : ℕ) → i < length s → state < 8 → Counts state k k'
      → plus k (rest (wanted state) (drop i s)) ≡ plus k' (rest (after (wanted state) (get_or s i 0)) (drop (i + 1) s))
  on k' h l c = rw (add-one i, drop-cons s i 0 h) (more state k k' (get_or s i 0) (drop (suc i) s) l c)

  -- at the end of the bytes
  pub ended : length s ≤ i → state < 8 → plus k (rest (wanted state) (drop i s)) ≡ then_some (eqb state 0) k
  unfolding count
  ended h l = rw (drop_of_length-le s h) (go (eqb state 0) refl)
    where
      go : (t : Bool) → eqb state 0 ≡ t → plus k (rest (wanted state) []) ≡ then_some t k
      go true q = rw (eqb-true state 0 q) (ap Some (omega arith))
      go false q = rw (cut (wanted state) (begun state l (eqb-false state 0 q)))
