-- A row is searched cell by cell: what is sought in the row is what is sought in the rest from here on.
use Rattle.std.proofs.Common.{List, ◌≡◌, ◌++◌, ℕ, suc, ◌+◌, ◌≤◌, ◌<◌, refl, sym, ap, ◌∙◌, arith}
use Rattle.std.specs.Prelude.{None, Some}
use borrow.Author.Tests.{eq-eqb, ne_eqb}
use Rattle.unification.specs.Ty.{Kind, Ty, Row, ε, cell, row_len}
use Rattle.unification.specs.Unify.{find_key}
use Rattle.plain_theory.specs.Words.{spelled, row_spelled}
use Rattle.plain.specs.Tokens.{behind, label_of, NoCell, FirstCell, KeyAbsent, FoundAt}
use Rattle.plain.proofs.Types.{past_type}

-- ---- The first cell of a row

pub record Held (k : Kind) (r : Row) (key label : ℕ) (ws : List ℕ) : Type 0 where
  pub name : ℕ
  pub ty : Ty
  pub others : Row
  pub is : r ≡ cell key name ty others
  pub named : label ≡ label_of k name
  pub words : ws ≡ spelled ty ++ row_spelled others k

module _ {row : List ℕ} (k : Kind) where
  pub held : {key label : ℕ} {ws : List ℕ} → FirstCell row key label ws → (r : Row) → row ≡ row_spelled r k → 0 < row_len r → Held k r key label ws
  unfolding row_spelled row_len
  held f ε e some = absurd (omega arith)
  held f (cell x y t r) e some =
      let g = f k x y (spelled t ++ row_spelled r k) e in
      record { name = y; ty = t; others = r; is = ap (λ (n : ℕ). cell n y t r) (sym g.0); named = g.1; words = g.2 }

  pub not_held : NoCell row → (r : Row) → row ≡ row_spelled r k → 0 < row_len r → ⊥
  unfolding row_spelled row_len
  not_held f ε e some = absurd (omega arith)
  not_held f (cell x y t r) e some = f k x y (spelled t ++ row_spelled r k) e

pub held_behind : {k : Kind} {r : Row} {key label : ℕ} {ws : List ℕ} (c : Held k r key label ws) → behind ws 1 ≡ Some (row_spelled c.others k)
held_behind {k} c = ap (λ (l : List ℕ). behind l 1) c.words ∙ past_type c.ty (row_spelled c.others k)

pub held_many : {k : Kind} {r : Row} {key label : ℕ} {ws : List ℕ} (c : Held k r key label ws) → row_len r ≡ suc (row_len c.others)
unfolding row_len
held_many c = ap row_len c.is

-- ---- The search that has come to the j-th cell

pub record Sought (n key : ℕ) (rest : List ℕ) (j : ℕ) (k : Kind) (s : Row) : Type 0 where
  pub row : Row
  pub stands : rest ≡ row_spelled row k
  pub same : find_key key s ≡ find_key key row
  pub many : row_len row + j ≡ n

pub record Finding (row : List ℕ) (n key : ℕ) (rest : List ℕ) (j : ℕ) : Type 0 where
  pub to : (k : Kind) (s : Row) → row_len s ≡ n → row ≡ row_spelled s k → Sought n key rest j k s

pub find_start : (row : List ℕ) (n key : ℕ) → Finding row n key row 0
find_start row n key = record { to = λ k s m e. record { row = s; stands = e; same = refl; many = omega arith } }

module _ {row : List ℕ} {n key : ℕ} {rest : List ℕ} {j : ℕ} (g : Finding row n key rest j) where
  pub find_none : n ≤ j → KeyAbsent row n key
  unfolding find_key row_len
  find_none le k s m e = let x = g.to k s m e in go s x.row x.same x.many
    where
      go : (s s' : Row) → find_key key s ≡ find_key key s' → row_len s' + j ≡ n → find_key key s ≡ None
      go s ε e m = e
      go s (cell a b u r) e m = absurd (omega arith)

  module _ (lt : j < n) where
    pub find_cut : NoCell rest → KeyAbsent row n key
    find_cut f k s m e = let x = g.to k s m e in absurd (not_held k f x.row x.stands (omega (arith, x.many)))

    module _ {a label : ℕ} {ws : List ℕ} (f : FirstCell rest a label ws) where
      here : (k : Kind) (s : Row) (m : row_len s ≡ n) (e : row ≡ row_spelled s k) → Held k (g.to k s m e).row a label ws
      here k s m e = let x = g.to k s m e in held k f x.row x.stands (omega (arith, x.many))

      pub find_broken : behind ws 1 ≡ None → KeyAbsent row n key
      find_broken q k s m e = let z : None ≡ Some (row_spelled (here k s m e).others k) = sym q ∙ held_behind (here k s m e) in absurd (cc)

      pub find_here : a ≡ key → FoundAt row n key label ws
      unfolding find_key
      find_here p k s m e =
          let c = here k s m e in
          let found : find_key key s ≡ Some (c.name, c.ty) =
          (g.to k s m e).same ∙ ap (find_key key) c.is ∙ rw (eq-eqb key a (sym p), find_key) in
          record { cell = (c.name, c.ty); is = found; named = c.named; behind = row_spelled c.others k; words = c.words }

      pub find_next : (a ≡ key → ⊥) → {more : List ℕ} → behind ws 1 ≡ Some more → Finding row n key more (j + 1)
      unfolding find_key
      find_next p {more} q = record {
        to = λ k s m e.
            let c = here k s m e in
            let x = g.to k s m e in
            let z : Some more ≡ Some (row_spelled c.others k) = sym q ∙ held_behind c in
            let other : find_key key (cell a c.name c.ty c.others) ≡ find_key key c.others = rw (ne_eqb key a (λ y. p (sym y)), find_key) in
            record { row = c.others; stands = cc; same = x.same ∙ ap (find_key key) c.is ∙ other; many = omega (arith, x.many, held_many c) };
      }
