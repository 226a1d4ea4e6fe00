-- A row is written cell by cell, and the tables stand one after the other.
use Rattle.std.proofs.Common.{◌≡◌, ℕ, zero, suc, ◌+◌, ◌*◌, ◌<◌, ◌≤◌, List, [], ◌∷◌, ◌++◌, length, get_or, drop, None, Option, Some, sym, refl, ap, ◌∙◌}
use Rattle.std.proofs.Common.{append_assoc, le_of_suc-le-suc, not-suc-le-zero, add-one, arith, drop-cons, drop_of_length-le, get_or-append-add, ne_eqb}
use mathlib.Core.List.{flat_map}
use Rattle.std.proofs.lemmas.List.{get_or_append_left}
use Rattle.format.specs.Bytes.{hex_line}
use Rattle.format.specs.All.{All}
use Rattle.testload.specs.Rule.{limits, names, base, simple, compound, predicates, leaves, pairs, singles, queries, from}
use Rattle.writer.specs.Writes.{Writes, hex_of}
use Rattle.writer.proofs.Writing.{writes_then, writes_full, writes_as}
use Rattle.writer.proofs.Digits.{hex_append, line_is}
use Rattle.generator.specs.Promises.{cell_bytes, tables, joined, content}

pub from_at : (i n k : ℕ) → k < n → get_or (from i n) k 0 ≡ i + k
unfolding from
from_at i zero k h = absurd (not-suc-le-zero h)
from_at i (suc n) zero h = omega arith
from_at i (suc n) (suc k) h = from_at (suc i) n k (le_of_suc-le-suc h) ∙ omega arith

pub plain : (i x : ℕ) → (x ≡ 254 → ⊥) → (x ≡ 253 → ⊥) → x ∷ [] ≡ cell_bytes i x
unfolding cell_bytes
plain i x n m = sym (rw (ne_eqb x 254 n, ne_eqb x 253 m, cell_bytes))

-- ---- A row, cell by cell

-- What is left: to write the rest from here is to write the whole from the start.
pub record Left (out₀ : List ℕ) (at : ℕ) (whole out : List ℕ) (to : ℕ) (rest : List ℕ) : Type 0 where
  pub long : length out ≡ length out₀
  pub go : (out' : List ℕ) (r : Option ℕ) → Writes out to rest out' r → Writes out₀ at whole out' r

pub left_start : (out : List ℕ) (at : ℕ) (whole rest : List ℕ) → rest ≡ whole → Left out at whole out at rest
left_start out at whole rest e = record { long = refl; go = λ out' r f. writes_as e f }

module _ {out₀ : List ℕ} {at : ℕ} {whole out : List ℕ} {to : ℕ} {rest : List ℕ} (g : Left out₀ at whole out to rest) where
  pub left_next : (a b : List ℕ) → rest ≡ a ++ b → {mid : List ℕ} {r : Option ℕ} {n : ℕ} → Writes out to a mid r → r ≡ Some n → Left out₀ at whole mid n b
  left_next a b e f p = record { long = f.long ∙ g.long; go = λ out' r' h. g.go out' r' (writes_as (sym e) (writes_then f p h)) }

  pub left_full : (a b : List ℕ) → rest ≡ a ++ b → {mid : List ℕ} {r : Option ℕ} → Writes out to a mid r → r ≡ None → Writes out₀ at whole mid None
  left_full a b e {mid} f p = g.go mid None (writes_as (sym e) (writes_full f p b))

  pub left_last : (a : List ℕ) → rest ≡ a → {out' : List ℕ} {r : Option ℕ} → Writes out to a out' r → Writes out₀ at whole out' r
  left_last a e {out'} {r} f = g.go out' r (writes_as (sym e) f)

-- the cells from k on, and LF
pub cells_from : ℕ → List ℕ → ℕ → List ℕ
cells_from i s k = hex_of (flat_map (cell_bytes i) (drop k s)) ++ 10 ∷ []

module _ (i : ℕ) (s : List ℕ) where
  pub cells_start : cells_from i s 0 ≡ hex_line (flat_map (cell_bytes i) s)
  unfolding cells_from
  cells_start = sym (line_is (flat_map (cell_bytes i) s))

  pub cells_next : (k : ℕ) → k < length s → cells_from i s k ≡ hex_of (cell_bytes i (get_or s k 0)) ++ cells_from i s (k + 1)
  unfolding cells_from flat_map
  cells_next k h = rw (drop-cons s k 0 h, add-one k, flat_map, hex_append, append_assoc)

  pub cells_end : (k : ℕ) → length s ≤ k → cells_from i s k ≡ 10 ∷ []
  unfolding cells_from flat_map hex_of
  cells_end k h = rw (drop_of_length-le s h)

-- ---- Tables

tables_sixteen : (i : ℕ) → All (λ t. length t ≡ 16) (tables i)
unfolding tables limits names base simple compound predicates leaves pairs singles queries
tables_sixteen i = (refl, (refl, (refl, (refl, (refl, (refl, (refl, (refl, (refl, tt)))))))))

joined_at : (ts : List (List (List ℕ))) → All (λ t. length t ≡ 16) ts
    → (t v : ℕ) → t < length ts → v < 16 → get_or (joined ts) (16 * t + v) [] ≡ get_or (get_or ts t []) v []
unfolding joined
joined_at [] a t v h l = absurd (not-suc-le-zero h)
joined_at (x ∷ ts) a zero v h l = ap (λ n. get_or (x ++ joined ts) n []) (omega arith) ∙ get_or_append_left x (joined ts) [] v (omega (arith, a.0))
joined_at (x ∷ ts) a (suc t) v h l =
    ap (λ n. get_or (x ++ joined ts) n []) (omega (arith, a.0))
    ∙ get_or-append-add x (joined ts) (16 * t + v) []
    ∙ joined_at ts a.1 t v (le_of_suc-le-suc h) l

pub content_at : (i t v : ℕ) → t < 9 → v < 16 → content i (16 * t + v) ≡ get_or (get_or (tables i) t []) v []
unfolding content tables
content_at i t v h l = joined_at (tables i) (tables_sixteen i) t v h l
