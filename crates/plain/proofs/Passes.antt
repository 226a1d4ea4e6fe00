-- The loops over tokens: what is true of the words from here on is true of all of them.
use Rattle.std.proofs.Common.{true, false, List, [], ◌∷◌, ◌++◌, ◌≡◌, ℕ, suc, ◌+◌, ◌-◌, ◌≤◌, ◌<◌, length, get_or, take, drop, refl, sym, ap, ◌∙◌, arith}
use Rattle.std.proofs.lemmas.List.{take_rest}
use Rattle.std.specs.Prelude.{None, Option, Some}
use Rattle.writer.specs.Writes.{Writes}
use Rattle.writer.proofs.Writing.{writes_as, writes_then, writes_full}
use Rattle.plain.specs.Tokens.{short, is_unknown, owed, instead_of, swapped, among, behind}
use Rattle.plain.proofs.Tokens.{swapped_short, swapped_long, among_short, behind_short, behind_long, behind_cut, Enough, behind_enough}

-- The words behind the first n.
abbrev pub rest : ℕ → List ℕ → List ℕ
rest n ws = take (length ws - n) (drop n ws)

-- ---- Replacing

-- To write the words from here on is to write all.
abbrev pub Left : List ℕ → ℕ → List ℕ → List ℕ → ℕ → List ℕ → Type 0
Left out₀ at whole out to ws = (out' : List ℕ) (r : Option ℕ) → Writes out to ws out' r → Writes out₀ at whole out' r

module _ {out₀ : List ℕ} {at : ℕ} {whole out : List ℕ} {to : ℕ} {ws : List ℕ} (a vs : List ℕ) {out' : List ℕ} (g : Left out₀ at whole out to ws)
    (e : ws ≡ a ++ vs) where
  pub left_next : {n : ℕ} → Writes out to a out' (Some n) → Left out₀ at whole out' n vs
  left_next f out'' r h = g out'' r (writes_as (sym e) (writes_then f refl h))

  pub left_full : Writes out to a out' None → Writes out₀ at whole out' None
  left_full f = g out' None (writes_as (sym e) (writes_full f refl vs))

module _ (x : ℕ) (ts : List ℕ) where
  pub swap_short : (ws : List ℕ) → 2 ≤ length ws → true ≡ short (get_or ws 0 0) → swapped x ts ws ≡ (get_or ws 0 0 ∷ []) ++ swapped x ts (rest 1 ws)
  swap_short [] h c = absurd (omega arith)
  swap_short (a ∷ []) h c = absurd (omega arith)
  swap_short (a ∷ b ∷ ws) h c = rw (take_rest (a ∷ b ∷ ws) 1) (swapped_short x ts a b ws (sym c))

  pub swap_long : (ws : List ℕ) → 2 ≤ length ws → false ≡ short (get_or ws 0 0)
      → swapped x ts ws ≡ instead_of x ts (get_or ws 0 0) (get_or ws 1 0) ++ swapped x ts (rest 2 ws)
  swap_long [] h c = absurd (omega arith)
  swap_long (a ∷ []) h c = absurd (omega arith)
  swap_long (a ∷ b ∷ ws) h c = rw (take_rest (a ∷ b ∷ ws) 2) (swapped_long x ts a b ws (sym c))

  pub swap_last : (ws : List ℕ) → length ws < 2 → swapped x ts ws ≡ ws
  unfolding swapped
  swap_last [] h = refl
  swap_last (a ∷ []) h = refl
  swap_last (a ∷ b ∷ ws) h = absurd (omega arith)

-- ---- The occurs check

module _ (x : ℕ) where
  pub seek_short : (ws : List ℕ) → 2 ≤ length ws → true ≡ short (get_or ws 0 0) → among x ws ≡ among x (rest 1 ws)
  seek_short [] h c = absurd (omega arith)
  seek_short (a ∷ []) h c = absurd (omega arith)
  seek_short (a ∷ b ∷ ws) h c = rw (take_rest (a ∷ b ∷ ws) 1) (among_short x a b ws (sym c))

  pub seek_found : (ws : List ℕ) → 2 ≤ length ws → false ≡ short (get_or ws 0 0) → true ≡ is_unknown x (get_or ws 0 0) (get_or ws 1 0) → among x ws ≡ true
  unfolding among
  seek_found [] h c q = absurd (omega arith)
  seek_found (a ∷ []) h c q = absurd (omega arith)
  seek_found (a ∷ b ∷ ws) h c q = rw (← c, ← q)

  pub seek_past : (ws : List ℕ) → 2 ≤ length ws → false ≡ short (get_or ws 0 0) → false ≡ is_unknown x (get_or ws 0 0) (get_or ws 1 0)
      → among x ws ≡ among x (rest 2 ws)
  unfolding among
  seek_past [] h c q = absurd (omega arith)
  seek_past (a ∷ []) h c q = absurd (omega arith)
  seek_past (a ∷ b ∷ ws) h c q = rw (take_rest (a ∷ b ∷ ws) 2, ← c, ← q)

  pub seek_last : (ws : List ℕ) → length ws < 2 → among x ws ≡ false
  unfolding among
  seek_last [] h = refl
  seek_last (a ∷ []) h = refl
  seek_last (a ∷ b ∷ ws) h = absurd (omega arith)

-- ---- What is left after so many

pub behind_few : (ws : List ℕ) (n : ℕ) → length ws < n → behind ws n ≡ None
behind_few ws n h = go (behind ws n) refl (behind_enough ws n)
  where
    go : (o : Option (List ℕ)) → behind ws n ≡ o → Enough ws n o → behind ws n ≡ None
    go None q e = q
    go (Some v) q e = absurd (omega arith)

module _ {ws : List ℕ} {n a : ℕ} {vs : List ℕ} (some : 0 < n) (e : ws ≡ a ∷ vs) where
  more : n ≡ suc (n - 1)
  more = omega arith

  pub behind_word : true ≡ short a → behind ws n ≡ behind vs (n - 1)
  behind_word c = rw e (ap (behind (a ∷ vs)) more ∙ behind_short a vs (n - 1) (sym c))

  module _ (c : false ≡ short a) where
    pub behind_two : {b k : ℕ} {us : List ℕ} → vs ≡ b ∷ us → k ≡ owed a b → behind ws n ≡ behind us (k + (n - 1))
    behind_two {b} {k} {us} f o = rw (e, f, o) (ap (behind (a ∷ b ∷ us)) more ∙ behind_long a b us (n - 1) (sym c))

    pub behind_broken : length vs ≡ 0 → behind ws n ≡ None
    behind_broken z = go vs z refl
      where
        go : (us : List ℕ) → length us ≡ 0 → vs ≡ us → behind ws n ≡ None
        go [] y f = rw (e, f) (ap (behind (a ∷ [])) more ∙ behind_cut a (n - 1) (sym c))
        go (b ∷ us) y f = absurd (omega arith)
