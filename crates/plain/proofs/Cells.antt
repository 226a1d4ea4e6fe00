-- The first cell of a row, and the rows behind it.
use Rattle.std.proofs.Common.{List, ◌∷◌, ◌≡◌, ℕ, ◌<◌, length, get_or, refl, arith}
use Rattle.std.proofs.lemmas.List.{take_rest}
use Rattle.unification.specs.Ty.{Record, Union}
use Rattle.plain_theory.specs.Words.{kind_tag, head_spelled}
use Rattle.plain.specs.Tokens.{NoNode, NoCell, FirstCell}
use Rattle.plain.proofs.Passes.{rest}

-- ---- A record or a union

pub no_node_short : (ty : List ℕ) → length ty < 2 → NoNode ty
no_node_short ty h k n cells e = omega (arith, simp e at h)

pub no_node : (ty : List ℕ) → (get_or ty 0 0 ≡ 5 → ⊥) → (get_or ty 0 0 ≡ 6 → ⊥) → NoNode ty
unfolding kind_tag
no_node ty f g Record n cells e = f (rw e refl)
no_node ty f g Union n cells e = g (rw e refl)

-- ---- A cell

module _ (row : List ℕ) where
  pub no_cell_short : length row < 2 → NoCell row
  unfolding head_spelled
  no_cell_short h Record x y vs e = omega (arith, simp e at h)
  no_cell_short h Union x y vs e = omega (arith, simp e at h)

  pub no_cell : (get_or row 0 0 ≡ 9 → ⊥) → (get_or row 0 0 ≡ 10 → ⊥) → NoCell row
  unfolding head_spelled
  no_cell f g Record x y vs e = f (rw e refl)
  no_cell f g Union x y vs e = g (rw e refl)

  pub key_cell : get_or row 0 0 ≡ 9 → FirstCell row (get_or row 1 0) 0 (rest 2 row)
  unfolding head_spelled
  key_cell t Record x y vs e = rw e (refl, refl, take_rest (9 ∷ x ∷ vs) 2)
  key_cell t Union x y vs e = absurd (omega (arith, rw e at t))

  module _ (t : get_or row 0 0 ≡ 10) where
    pub no_cell_label : length (rest 2 row) < 2 → NoCell row
    unfolding head_spelled
    no_cell_label h Record x y vs e = omega (arith, rw e at t)
    no_cell_label h Union x y vs e = omega (arith, rw (e, take_rest (10 ∷ y ∷ 9 ∷ x ∷ vs) 2) at h)

    pub label_cell : FirstCell row (get_or (rest 2 row) 1 0) (get_or row 1 0) (rest 2 (rest 2 row))
    unfolding head_spelled
    label_cell Record x y vs e = absurd (omega (arith, rw e at t))
    label_cell Union x y vs e = rw (e, take_rest (10 ∷ y ∷ 9 ∷ x ∷ vs) 2) (refl, refl, take_rest (9 ∷ x ∷ vs) 2)
