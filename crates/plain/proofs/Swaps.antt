-- Replacing in the words of a type is replacing in the type; an unknown is among the tokens of a type where it stands in it.
use mathlib.Core.Bool.{true, false}
use mathlib.Core.List.{List, [], ◌∷◌, ◌++◌, append_assoc, append-nil, map}
use mathlib.Core.Logic.{inl, inr, by_cases}
use mathlib.Core.Path.{◌≡◌, refl, sym, ap, ◌∙◌}
use Prim.Native.Nat.{ℕ}
use native.Mathlib.Decide.{ℕ_discrete}
use borrow.Author.Tests.{eq-eqb, ne_eqb}
use lib.Dec.{eqb}
use Rattle.unification.specs.Ty.{Leaf, Int, String, Bytes, Fact, Kind, Record, Union, Ty, leaf, node, Var, Error, Row, ε, cell, row_len, app, app_row}
use Rattle.unification.specs.Robinson.{Equation}
use Rattle.unification.proofs.Rows.{row_len_app}
use Rattle.unification.proofs.Tests.{clash}
use Rattle.plain_theory.specs.Plain.{Binding, In, InRow, in?, only, in_pair, in_binding, bind, fails, binds}
use Rattle.plain_theory.specs.Words.{leaf_spelled, kind_tag, head_spelled, spelled, row_spelled, pairs_spelled, bindings_spelled}
use Rattle.plain.specs.Tokens.{short, is_unknown, instead_of, swapped, among}
use Rattle.plain.proofs.Tokens.{swapped_short, swapped_long, among_short, var_long, error_short}

-- ---- Replacing

module _ (x : ℕ) (ts : List ℕ) where
  swap_word : (a : ℕ) (ws : List ℕ) → short a ≡ true → swapped x ts (a ∷ ws) ≡ a ∷ swapped x ts ws
  unfolding swapped
  swap_word a [] e = refl
  swap_word a (b ∷ ws) e = swapped_short x ts a b ws e

  swap_other : (a b : ℕ) (ws : List ℕ) → short a ≡ false → eqb a 7 ≡ false → swapped x ts (a ∷ b ∷ ws) ≡ a ∷ b ∷ swapped x ts ws
  unfolding instead_of is_unknown
  swap_other a b ws c q = swapped_long x ts a b ws c ∙ rw q

  swap_leaf : (p : Leaf) (ws : List ℕ) → swapped x ts (leaf_spelled p ++ ws) ≡ leaf_spelled p ++ swapped x ts ws
  unfolding leaf_spelled short
  swap_leaf Int ws = swap_word 1 ws refl
  swap_leaf String ws = swap_word 2 ws refl
  swap_leaf Bytes ws = swap_word 3 ws refl
  swap_leaf (Fact p) ws = swap_other 4 p ws refl refl

  swap_head : (k : Kind) (key label : ℕ) (ws : List ℕ) → swapped x ts (head_spelled k key label ++ ws) ≡ head_spelled k key label ++ swapped x ts ws
  unfolding head_spelled short
  swap_head Record key label ws = swap_other 9 key ws refl refl
  swap_head Union key label ws = swap_other 10 label (9 ∷ key ∷ ws) refl refl ∙ ap (λ (l : List ℕ). 10 ∷ label ∷ l) (swap_other 9 key ws refl refl)

  swap_node : (k : Kind) (n : ℕ) (ws : List ℕ) → swapped x ts (kind_tag k ∷ n ∷ ws) ≡ kind_tag k ∷ n ∷ swapped x ts ws
  unfolding kind_tag short
  swap_node Record n ws = swap_other 5 n ws refl refl
  swap_node Union n ws = swap_other 6 n ws refl refl

  swap_bound : (y : ℕ) (ws : List ℕ) → swapped x ts (11 ∷ y ∷ ws) ≡ 11 ∷ y ∷ swapped x ts ws
  unfolding short
  swap_bound y ws = swap_other 11 y ws refl refl

module _ (x : ℕ) (t : Ty) where
  swap_unknown : (y : ℕ) (ws : List ℕ) → swapped x (spelled t) (7 ∷ y ∷ ws) ≡ spelled (only x t y) ++ swapped x (spelled t) ws
  unfolding instead_of is_unknown only spelled
  swap_unknown y ws = swapped_long x (spelled t) 7 y ws var_long ∙ go (ℕ_discrete y x) refl
    where
      go : (d : Dec (y ≡ x)) → ℕ_discrete y x ≡ d → instead_of x (spelled t) 7 y ++ swapped x (spelled t) ws ≡ spelled (only x t y) ++ swapped x (spelled t) ws
      go (yes e) q = rw (q, only, eq-eqb y x e)
      go (no n) q = rw (q, only, ne_eqb y x n)

  mutual
    unfolding spelled app

    pub swap_type : (u : Ty) (ws : List ℕ) → swapped x (spelled t) (spelled u ++ ws) ≡ spelled (app (only x t) u) ++ swapped x (spelled t) ws
    swap_type (leaf p) ws = swap_leaf x (spelled t) p ws
    swap_type (node k r) ws =
        swap_node x (spelled t) k (row_len r) (row_spelled r k ++ ws)
        ∙ ap (λ (l : List ℕ). kind_tag k ∷ row_len r ∷ l) (swap_row r k ws)
        ∙ ap (λ (n : ℕ). kind_tag k ∷ n ∷ (row_spelled (app_row (only x t) r) k ++ swapped x (spelled t) ws)) (sym (row_len_app (only x t) r))
    swap_type (Var y) ws = swap_unknown y ws
    swap_type Error ws = swap_word x (spelled t) 8 ws error_short

    swap_row : (r : Row) (k : Kind) (ws : List ℕ)
        → swapped x (spelled t) (row_spelled r k ++ ws) ≡ row_spelled (app_row (only x t) r) k ++ swapped x (spelled t) ws
    swap_row ε k ws = refl
    swap_row (cell key label u r) k ws =
        rw (
          append_assoc (head_spelled k key label) (spelled u ++ row_spelled r k) ws,
          append_assoc (spelled u) (row_spelled r k) ws,
          append_assoc (head_spelled k key label) (spelled (app (only x t) u) ++ row_spelled (app_row (only x t) r) k) (swapped x (spelled t) ws),
          append_assoc (spelled (app (only x t) u)) (row_spelled (app_row (only x t) r) k) (swapped x (spelled t) ws),
        )
        (swap_head x (spelled t) k key label (spelled u ++ (row_spelled r k ++ ws))
        ∙ ap (λ (l : List ℕ). head_spelled k key label ++ l)
        (swap_type u (row_spelled r k ++ ws) ∙ ap (λ (l : List ℕ). spelled (app (only x t) u) ++ l) (swap_row r k ws)))

  pub swap_pairs : (ps : List Equation) → swapped x (spelled t) (pairs_spelled ps) ≡ pairs_spelled (map (in_pair x t) ps)
  unfolding pairs_spelled in_pair swapped
  swap_pairs [] = refl
  swap_pairs (p ∷ ps) =
      swap_type p.left (spelled p.right ++ pairs_spelled ps)
      ∙ ap (λ (l : List ℕ). spelled (app (only x t) p.left) ++ l)
      (swap_type p.right (pairs_spelled ps) ∙ ap (λ (l : List ℕ). spelled (app (only x t) p.right) ++ l) (swap_pairs ps))

  pub swap_bindings : (bs : List Binding) → swapped x (spelled t) (bindings_spelled bs) ≡ bindings_spelled (map (in_binding x t) bs)
  unfolding bindings_spelled in_binding swapped
  swap_bindings [] = refl
  swap_bindings (b ∷ bs) =
      swap_bound x (spelled t) b.unknown (spelled b.to ++ bindings_spelled bs)
      ∙ ap (λ (l : List ℕ). 11 ∷ b.unknown ∷ l)
      (swap_type b.to (bindings_spelled bs) ∙ ap (λ (l : List ℕ). spelled (app (only x t) b.to) ++ l) (swap_bindings bs))

-- ---- The occurs check

module _ (x : ℕ) where
  seek_word : (a : ℕ) (ws : List ℕ) → short a ≡ true → among x (a ∷ ws) ≡ among x ws
  unfolding among
  seek_word a [] e = refl
  seek_word a (b ∷ ws) e = among_short x a b ws e

  seek_other : (a b : ℕ) (ws : List ℕ) → short a ≡ false → eqb a 7 ≡ false → among x (a ∷ b ∷ ws) ≡ among x ws
  unfolding among is_unknown
  seek_other a b ws c q = rw (c, q)

  seek_leaf : (p : Leaf) (ws : List ℕ) → among x (leaf_spelled p ++ ws) ≡ among x ws
  unfolding leaf_spelled short
  seek_leaf Int ws = seek_word 1 ws refl
  seek_leaf String ws = seek_word 2 ws refl
  seek_leaf Bytes ws = seek_word 3 ws refl
  seek_leaf (Fact p) ws = seek_other 4 p ws refl refl

  seek_head : (k : Kind) (key label : ℕ) (ws : List ℕ) → among x (head_spelled k key label ++ ws) ≡ among x ws
  unfolding head_spelled short
  seek_head Record key label ws = seek_other 9 key ws refl refl
  seek_head Union key label ws = seek_other 10 label (9 ∷ key ∷ ws) refl refl ∙ seek_other 9 key ws refl refl

  seek_node : (k : Kind) (n : ℕ) (ws : List ℕ) → among x (kind_tag k ∷ n ∷ ws) ≡ among x ws
  unfolding kind_tag short
  seek_node Record n ws = seek_other 5 n ws refl refl
  seek_node Union n ws = seek_other 6 n ws refl refl

  seek_it : (y : ℕ) (ws : List ℕ) → x ≡ y → among x (7 ∷ y ∷ ws) ≡ true
  unfolding among is_unknown
  seek_it y ws e = rw (var_long, eq-eqb y x (sym e))

  seek_another : (y : ℕ) (ws : List ℕ) → ¬ (x ≡ y) → among x (7 ∷ y ∷ ws) ≡ among x ws
  unfolding among is_unknown
  seek_another y ws n = rw (var_long, ne_eqb y x (λ e. n (sym e)))

  mutual
    unfolding spelled

    out_among : (t : Ty) (ws : List ℕ) → ¬ In x t → among x (spelled t ++ ws) ≡ among x ws
    out_among (leaf p) ws n = seek_leaf p ws
    out_among (node k r) ws n = seek_node k (row_len r) (row_spelled r k ++ ws) ∙ out_row r k ws n
    out_among (Var y) ws n = seek_another y ws n
    out_among Error ws n = seek_word 8 ws error_short

    out_row : (r : Row) (k : Kind) (ws : List ℕ) → ¬ InRow x r → among x (row_spelled r k ++ ws) ≡ among x ws
    out_row ε k ws n = refl
    out_row (cell key label u r) k ws n =
        rw (append_assoc (head_spelled k key label) (spelled u ++ row_spelled r k) ws, append_assoc (spelled u) (row_spelled r k) ws)
        (seek_head k key label (spelled u ++ (row_spelled r k ++ ws)) ∙ out_among u (row_spelled r k ++ ws) (λ i. n (inl i)) ∙ out_row r k ws (λ i. n (inr i)))

  mutual
    unfolding spelled

    in_among : (t : Ty) (ws : List ℕ) → In x t → among x (spelled t ++ ws) ≡ true
    in_among (leaf p) ws h = absurd h
    in_among (node k r) ws h = seek_node k (row_len r) (row_spelled r k ++ ws) ∙ in_row r k ws h
    in_among (Var y) ws h = seek_it y ws h
    in_among Error ws h = absurd h

    in_row : (r : Row) (k : Kind) (ws : List ℕ) → InRow x r → among x (row_spelled r k ++ ws) ≡ true
    in_row ε k ws h = absurd h
    in_row (cell key label u r) k ws (inl h) =
        rw (append_assoc (head_spelled k key label) (spelled u ++ row_spelled r k) ws, append_assoc (spelled u) (row_spelled r k) ws)
        (seek_head k key label (spelled u ++ (row_spelled r k ++ ws)) ∙ in_among u (row_spelled r k ++ ws) h)
    in_row (cell key label u r) k ws (inr h) =
        rw (append_assoc (head_spelled k key label) (spelled u ++ row_spelled r k) ws, append_assoc (spelled u) (row_spelled r k) ws)
        (seek_head k key label (spelled u ++ (row_spelled r k ++ ws))
        ∙ by_cases (in? x u) (λ i. in_among u (row_spelled r k ++ ws) i) (λ n. out_among u (row_spelled r k ++ ws) n ∙ in_row r k ws h))

  -- What the occurs check says of the words it says of the type.
  pub bind_occurs : (t : Ty) → among x (spelled t) ≡ true → bind x t ≡ fails
  unfolding bind among
  bind_occurs t e = go (in? x t) refl
    where
      go : (d : Dec (In x t)) → in? x t ≡ d → bind x t ≡ fails
      go (yes i) q = rw (q, bind)
      go (no n) q = let z : false ≡ true = sym (out_among t [] n) ∙ ap (among x) (append-nil (spelled t)) ∙ e in clash (cc)

  pub bind_free : (t : Ty) → among x (spelled t) ≡ false → bind x t ≡ binds x t
  unfolding bind among
  bind_free t e = go (in? x t) refl
    where
      go : (d : Dec (In x t)) → in? x t ≡ d → bind x t ≡ binds x t
      go (yes i) q = let z : true ≡ false = sym (in_among t [] i) ∙ ap (among x) (append-nil (spelled t)) ∙ e in clash (cc)
      go (no n) q = rw (q, bind)
