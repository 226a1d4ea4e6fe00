-- Two rows are compared cell by cell: each cell of the first has its cell in the second exactly where the rest from here on has.
use Rattle.std.proofs.Common.{true, false, List, ◌++◌, ◌≡◌, ℕ, ◌+◌, ◌≤◌, ◌<◌, refl, sym, ap, ◌∙◌, arith}
use Rattle.std.specs.Prelude.{MatchOption, None, Option, Some}
use Rattle.std.specs.Borrow.{Bor}
use Rattle.unification.specs.Ty.{Kind, Record, Union, Ty, Row, ε, cell, row_len}
use Rattle.unification.specs.Unify.{find_key}
use Rattle.plain_theory.specs.Plain.{Parts, parts, unlike, with_part, NamedAlike, named?, part, matched}
use Rattle.plain_theory.specs.Words.{spelled, row_spelled}
use Rattle.plain.specs.Tokens.{behind, label_of, NoCell, FirstCell, KeyAbsent, FoundAt, TwoRows, Like, Alike, FirstUnlike, FirstAlike}
use Rattle.plain.proofs.Types.{past_type}

-- ---- What becomes of a cell

like_with : (t u : Ty) (ps : Parts) → Like (with_part t u ps) ≡ Like ps
unfolding with_part
like_with t u (parts qs) = refl
like_with t u unlike = refl

part_like : (k : Kind) (a : ℕ) (t : Ty) (u : ℕ × Ty) (ps : Parts) → NamedAlike k a u.0 → part k a t (Some u) ps ≡ with_part t u.1 ps
unfolding part
part_like k a t u ps h = go (named? k a u.0) refl
  where
    go : (d : Dec (NamedAlike k a u.0)) → named? k a u.0 ≡ d → part k a t (Some u) ps ≡ with_part t u.1 ps
    go (yes e) q = rw (q, part)
    go (no n) q = absurd (n h)

part_unlike : (k : Kind) (a : ℕ) (t : Ty) (u : ℕ × Ty) (ps : Parts) → ¬ NamedAlike k a u.0 → part k a t (Some u) ps ≡ unlike
unfolding part
part_unlike k a t u ps h = go (named? k a u.0) refl
  where
    go : (d : Dec (NamedAlike k a u.0)) → named? k a u.0 ≡ d → part k a t (Some u) ps ≡ unlike
    go (yes e) q = absurd (h e)
    go (no n) q = rw (q, part)

named : (k : Kind) (a b : ℕ) → label_of k a ≡ label_of k b → NamedAlike k a b
named Record a b e = tt
named Union a b e = e

not_named : (k : Kind) (a b : ℕ) → (label_of k a ≡ label_of k b → ⊥) → ¬ NamedAlike k a b
not_named Record a b n h = n refl
not_named Union a b n h = n h

-- ---- The first cell

module _ {n : ℕ} {row other : List ℕ} where
  pub no_cell : NoCell row → FirstUnlike n row other
  unfolding row_spelled
  no_cell f k r s key label t e o m ps = absurd (f k key label (spelled t ++ row_spelled r k) e)

  module _ {a y : ℕ} {ws : List ℕ} (f : FirstCell row a y ws) where
    pub no_partner : KeyAbsent other n a → FirstUnlike n row other
    unfolding row_spelled part
    no_partner g k r s key label t e o m ps =
        let c = f k key label (spelled t ++ row_spelled r k) e in
        ap (λ (x : Option (ℕ × Ty)). part k label t x ps) (ap (λ (x : ℕ). find_key x s) (sym c.0) ∙ g k s m o)

    module _ {z : ℕ} {vs : List ℕ} (g : FoundAt other n a z vs) where
      pub labels_differ : (z ≡ y → ⊥) → FirstUnlike n row other
      unfolding row_spelled
      labels_differ d k r s key label t e o m ps =
          let c = f k key label (spelled t ++ row_spelled r k) e in
          let p = g k s m o in
          ap (λ (x : Option (ℕ × Ty)). part k label t x ps) (ap (λ (x : ℕ). find_key x s) (sym c.0) ∙ p.is)
          ∙ part_unlike k label t p.cell ps (not_named k label p.cell.0 (λ q. d (p.named ∙ sym q ∙ sym c.1)))

      pub labels_agree : z ≡ y → (r : Option (Bor (List ℕ))) → MatchOption r (behind ws 1 ≡ None) (λ v. behind ws 1 ≡ Some v.now)
          → MatchOption r (FirstUnlike n row other) (λ v. FirstAlike n row other v.now)
      unfolding row_spelled
      labels_agree d None q = λ k r s key label t e o m ps.
          let c = f k key label (spelled t ++ row_spelled r k) e in
          let w : None ≡ Some (row_spelled r k) = sym q ∙ ap (λ (l : List ℕ). behind l 1) c.2 ∙ past_type t (row_spelled r k) in
          absurd (cc)
      labels_agree d (Some v) q = λ k r s key label t e o m.
          let c = f k key label (spelled t ++ row_spelled r k) e in
          let p = g k s m o in
          let w : Some v.now ≡ Some (row_spelled r k) = sym q ∙ ap (λ (l : List ℕ). behind l 1) c.2 ∙ past_type t (row_spelled r k) in (
            cc,
            λ ps. ap Like (ap (λ (x : Option (ℕ × Ty)). part k label t x ps) (ap (λ (x : ℕ). find_key x s) (sym c.0) ∙ p.is)
                ∙ part_like k label t p.cell ps (named k label p.cell.0 (sym c.1 ∙ sym d ∙ p.named))) ∙ like_with t p.cell.1 ps,
          )

-- ---- The comparison that has come to the j-th cell

pub record Compared (n : ℕ) (rest : List ℕ) (j : ℕ) (k : Kind) (r s : Row) : Type 0 where
  pub row : Row
  pub stands : rest ≡ row_spelled row k
  pub same : Like (matched k r s) ≡ Like (matched k row s)
  pub many : row_len row + j ≡ n

pub record Aliking (n : ℕ) (left right rest : List ℕ) (j : ℕ) : Type 0 where
  pub to : (k : Kind) (r s : Row) → TwoRows n left right k r s → Compared n rest j k r s

pub alike_start : (n : ℕ) (left right : List ℕ) → Aliking n left right left 0
alike_start n left right = record { to = λ k r s t. record { row = r; stands = t.first; same = refl; many = omega (arith, t.many) } }

module _ {n : ℕ} {left right rest : List ℕ} {j : ℕ} (g : Aliking n left right rest j) where
  pub alike_all : n ≤ j → Alike n left right true
  unfolding matched row_len
  alike_all le k r s t = let x = g.to k r s t in go x.row x.same x.many
    where
      go : (r' : Row) → Like (matched k r s) ≡ Like (matched k r' s) → row_len r' + j ≡ n → true ≡ Like (matched k r s)
      go ε e m = sym e
      go (cell a b u o) e m = absurd (omega arith)

  module _ (lt : j < n) where
    pub alike_not : FirstUnlike n rest right → Alike n left right false
    unfolding matched row_len
    alike_not f k r s t = let x = g.to k r s t in go x.row x.stands x.same x.many
      where
        go : (r' : Row) → rest ≡ row_spelled r' k → Like (matched k r s) ≡ Like (matched k r' s) → row_len r' + j ≡ n → false ≡ Like (matched k r s)
        go ε p e m = absurd (omega arith)
        go (cell a b u o) p e m = sym (e ∙ ap Like (f k o s a b u p t.second t.as_many (matched k o s)))

    pub alike_next : {more : List ℕ} → FirstAlike n rest right more → Aliking n left right more (j + 1)
    unfolding matched row_len
    alike_next {more} f = record { to = λ k r s t. let x = g.to k r s t in go k r s t x.row x.stands x.same x.many }
      where
        go : (k : Kind) (r s : Row) → TwoRows n left right k r s → (r' : Row) → rest ≡ row_spelled r' k → Like (matched k r s) ≡ Like (matched k r' s)
            → row_len r' + j ≡ n → Compared n more (j + 1) k r s
        go k r s t ε p e m = absurd (omega arith)
        go k r s t (cell a b u o) p e m =
            let c = f k o s a b u p t.second t.as_many in
            record { row = o; stands = c.0; same = e ∙ c.1 (matched k o s); many = omega arith }
