-- Two rows are paired cell by cell: to write the pairs of the rest from here on is to write the pairs of the whole row.
use Rattle.std.proofs.Common.{List, [], ◌∷◌, ◌++◌, ◌≡◌, ℕ, suc, ◌+◌, ◌≤◌, ◌<◌, length, refl, sym, ap, ◌∙◌, arith}
use Rattle.std.specs.Prelude.{None, Option, Some}
use Rattle.unification.specs.Ty.{Kind, Ty, Row, ε, cell, row_len}
use Rattle.unification.specs.Unify.{find_key}
use Rattle.unification.specs.Robinson.{Equation}
use Rattle.unification.proofs.Tests.{clash}
use Rattle.writer.specs.Writes.{Writes, Moves}
use Rattle.writer.proofs.Writing.{writes_as, writes_moves, full_moves, moves_none, moves_next, Goes, goes_start, goes_next, goes_full, goes_done}
use Rattle.plain_theory.specs.Plain.{Parts, parts, unlike, with_part, NamedAlike, named?, part, matched}
use Rattle.plain_theory.specs.Words.{spelled, row_spelled, pairs_spelled}
use Rattle.plain.specs.Tokens.{NoType, FirstType, NoCell, FirstCell, KeyAbsent, FoundAt, TwoRows, Pairs}
use Rattle.plain.proofs.Finding.{not_held}

-- ---- What a pair of cells gives

record Paired (t : Ty) (o : Option (ℕ × Ty)) (ps : Parts) (qs : List Equation) : Type 0 where
  other : ℕ × Ty
  found : o ≡ Some other
  rest : List Equation
  others : ps ≡ parts rest
  are : qs ≡ record { left = t; right = other.1 } ∷ rest

paired : (k : Kind) (a : ℕ) (t : Ty) (o : Option (ℕ × Ty)) (ps : Parts) (qs : List Equation) → part k a t o ps ≡ parts qs → Paired t o ps qs
unfolding part with_part
paired k a t None ps qs e = clash (cc)
paired k a t (Some u) ps qs e = go (named? k a u.0) refl ps refl
  where
    go : (d : Dec (NamedAlike k a u.0)) → named? k a u.0 ≡ d → (x : Parts) → ps ≡ x → Paired t (Some u) ps qs
    go (yes n) q (parts rest) p =
        let whole : parts (record { left = t; right = u.1 } ∷ rest) ≡ parts qs = rw (q, p, part, with_part) at e in
        record { other = u; found = refl; rest = rest; others = p; are = cc }
    go (yes n) q unlike p = let z : unlike ≡ parts qs = rw (q, p, part, with_part) at e in clash (cc)
    go (no n) q x p = let z : unlike ≡ parts qs = rw (q, part) at e in clash (cc)

-- ---- The loop that has come to the j-th cell, and writes from `to` on

-- The rest of the first row, and what is to be written of it.
pub record Left (n : ℕ) (out₀ : List ℕ) (at : ℕ) (out rest : List ℕ) (j to : ℕ) (k : Kind) (s : Row) (qs : List Equation) : Type 0 where
  pub row : Row
  pub stands : rest ≡ row_spelled row k
  pub pairs : List Equation
  pub are : matched k row s ≡ parts pairs
  pub goes : Goes out₀ at (pairs_spelled qs) out to (pairs_spelled pairs)
  pub many : row_len row + j ≡ n

pub record Pairing (n : ℕ) (left right out₀ : List ℕ) (at : ℕ) (out rest : List ℕ) (j to : ℕ) : Type 0 where
  pub moves : Moves out₀ at out (Some to)
  pub to_write : (k : Kind) (r s : Row) (qs : List Equation) → TwoRows n left right k r s → matched k r s ≡ parts qs → Left n out₀ at out rest j to k s qs

pub pair_start : (n : ℕ) (left right out : List ℕ) (at : ℕ) → at ≤ length out → Pairing n left right out at out left 0 at
pair_start n left right out at h = record {
  moves = moves_none out at;
  to_write = λ k r s qs t m. record {
    row = r;
    stands = t.first;
    pairs = qs;
    are = m;
    goes = goes_start out at (pairs_spelled qs) (pairs_spelled qs) h refl;
    many = omega (arith, t.many);
  };
}

-- The cell there, its partner, and what is to be written of them and after them.
record HeldPair (n : ℕ) (out₀ : List ℕ) (at : ℕ) (out : List ℕ) (j to : ℕ) (k : Kind) (s : Row) (qs : List Equation) (a : ℕ) (ws : List ℕ) : Type 0 where
  ty : Ty
  others : Row
  words : ws ≡ spelled ty ++ row_spelled others k
  partner : ℕ × Ty
  found : find_key a s ≡ Some partner
  pairs : List Equation
  are : matched k others s ≡ parts pairs
  goes : Goes out₀ at (pairs_spelled qs) out to (spelled ty ++ (spelled partner.1 ++ pairs_spelled pairs))
  many : suc (row_len others) + j ≡ n

-- The row is at its end.
nothing_left : (k : Kind) (r s : Row) (ps : List Equation) (j n : ℕ) → matched k r s ≡ parts ps → row_len r + j ≡ n → n ≤ j → ps ≡ []
unfolding matched row_len
nothing_left k ε s ps j n e m le = let z : parts [] ≡ parts ps = e in cc
nothing_left k (cell a b u o) s ps j n e m le = absurd (omega arith)

module _ {n : ℕ} {left right out₀ : List ℕ} {at : ℕ} {out rest : List ℕ} {j to : ℕ} (g : Pairing n left right out₀ at out rest j to) where
  never : ((k : Kind) (r s : Row) (qs : List Equation) → TwoRows n left right k r s → matched k r s ≡ parts qs → ⊥) → {out' : List ℕ}
      → length out' ≡ length out₀
      → Pairs n left right out₀ at out' None
  never f e = record { is = λ k r s qs t m. absurd (f k r s qs t m); moves = full_moves e }

  pub pair_done : n ≤ j → Pairs n left right out₀ at out (Some to)
  unfolding pairs_spelled
  pair_done le = record {
    is = λ k r s qs t m.
        let x = g.to_write k r s qs t m in
        goes_done x.goes (ap pairs_spelled (nothing_left k x.row s x.pairs j n x.are x.many le));
    moves = g.moves;
  }

  module _ (lt : j < n) where
    pub pair_cut : NoCell rest → Pairs n left right out₀ at out None
    pair_cut f = never
        (λ k r s qs t m. let x = g.to_write k r s qs t m in not_held k f x.row x.stands (omega (arith, x.many)))
        g.moves.long

    module _ {a y : ℕ} {ws : List ℕ} (f : FirstCell rest a y ws) where
      held : (k : Kind) (r s : Row) (qs : List Equation) → TwoRows n left right k r s → matched k r s ≡ parts qs → HeldPair n out₀ at out j to k s qs a ws
      unfolding matched row_spelled row_len pairs_spelled
      held k r s qs t m = let x = g.to_write k r s qs t m in go x.row x.stands x.pairs x.are x.goes x.many
        where
          go : (o : Row) → rest ≡ row_spelled o k → (ps : List Equation) → matched k o s ≡ parts ps
              → Goes out₀ at (pairs_spelled qs) out to (pairs_spelled ps) → row_len o + j ≡ n → HeldPair n out₀ at out j to k s qs a ws
          go ε e ps b c d = absurd (omega arith)
          go (cell key label u o) e ps b c d =
              let h = f k key label (spelled u ++ row_spelled o k) e in
              let w = paired k label u (find_key key s) (matched k o s) ps b in
              record {
                ty = u;
                others = o;
                words = h.2;
                partner = w.other;
                found = ap (λ (z : ℕ). find_key z s) h.0 ∙ w.found;
                pairs = w.rest;
                are = w.others;
                goes = rw w.are at c;
                many = d;
              }

      pub pair_broken : NoType ws → Pairs n left right out₀ at out None
      pair_broken h = never (λ k r s qs t m. let c = held k r s qs t m in h c.ty (row_spelled c.others k) c.words) g.moves.long

      pub pair_absent : KeyAbsent right n a → Pairs n left right out₀ at out None
      pair_absent h = never
          (λ k r s qs t m.
          let c = held k r s qs t m in
          let z : None ≡ Some c.partner = sym (h k s t.as_many t.second) ∙ c.found in
          clash (cc))
          g.moves.long

      module _ {z : ℕ} {vs : List ℕ} (p : FoundAt right n a z vs) where
        partner_words : (k : Kind) (r s : Row) (qs : List Equation) (t : TwoRows n left right k r s) (m : matched k r s ≡ parts qs)
            → (us : List ℕ) × (vs ≡ spelled (held k r s qs t m).partner.1 ++ us)
        partner_words k r s qs t m =
            let c = held k r s qs t m in
            let q = p k s t.as_many t.second in
            let e : Some q.cell ≡ Some c.partner = sym q.is ∙ c.found in
            let same : q.cell ≡ c.partner = cc in
            (q.behind, q.words ∙ ap (λ (u : ℕ × Ty). spelled u.1 ++ q.behind) same)

        pub pair_no_type : NoType vs → Pairs n left right out₀ at out None
        pair_no_type h = never
            (λ k r s qs t m. let w = partner_words k r s qs t m in h (held k r s qs t m).partner.1 w.0 w.1)
            g.moves.long

        module _ {one more : List ℕ} (F : FirstType ws one more) {two others : List ℕ} (S : FirstType vs two others) {mid : List ℕ} {r₁ : Option ℕ}
            (W : Writes out to one mid r₁) where
          one_is : (k : Kind) (r s : Row) (qs : List Equation) (t : TwoRows n left right k r s) (m : matched k r s ≡ parts qs)
              → one ≡ spelled (held k r s qs t m).ty
          one_is k r s qs t m = let c = held k r s qs t m in (F.is c.ty (row_spelled c.others k) c.words).0

          two_is : (k : Kind) (r s : Row) (qs : List Equation) (t : TwoRows n left right k r s) (m : matched k r s ≡ parts qs)
              → two ≡ spelled (held k r s qs t m).partner.1
          two_is k r s qs t m = let w = partner_words k r s qs t m in (S.is (held k r s qs t m).partner.1 w.0 w.1).0

          pub pair_full : r₁ ≡ None → Pairs n left right out₀ at mid None
          pair_full q = record {
            is = λ k r s qs t m. goes_full (held k r s qs t m).goes _ _ refl (writes_as (one_is k r s qs t m) W) q;
            moves = full_moves (W.long ∙ g.moves.long);
          }

          module _ {m₁ : ℕ} (e₁ : r₁ ≡ Some m₁) {out' : List ℕ} {r₂ : Option ℕ} (V : Writes mid m₁ two out' r₂) where
            first_gone : (k : Kind) (r s : Row) (qs : List Equation) (t : TwoRows n left right k r s) (m : matched k r s ≡ parts qs)
                → Goes out₀ at (pairs_spelled qs) mid m₁ (spelled (held k r s qs t m).partner.1 ++ pairs_spelled (held k r s qs t m).pairs)
            first_gone k r s qs t m = goes_next (held k r s qs t m).goes _ _ refl (writes_as (one_is k r s qs t m) W) e₁

            pub pair_over : r₂ ≡ None → Pairs n left right out₀ at out' None
            pair_over q = record {
              is = λ k r s qs t m. goes_full (first_gone k r s qs t m) _ _ refl (writes_as (two_is k r s qs t m) V) q;
              moves = full_moves (V.long ∙ W.long ∙ g.moves.long);
            }

            pub pair_next : {m₂ : ℕ} → r₂ ≡ Some m₂ → Pairing n left right out₀ at out' more (j + 1) m₂
            pair_next {m₂} e₂ = record {
              moves = moves_next (moves_next g.moves (writes_moves W) e₁) (writes_moves V) e₂;
              to_write = λ k r s qs t m.
                  let c = held k r s qs t m in
                  record {
                    row = c.others;
                    stands = (F.is c.ty (row_spelled c.others k) c.words).1;
                    pairs = c.pairs;
                    are = c.are;
                    goes = goes_next (first_gone k r s qs t m) _ _ refl (writes_as (two_is k r s qs t m) V) e₂;
                    many = omega (arith, c.many);
                  };
            }
