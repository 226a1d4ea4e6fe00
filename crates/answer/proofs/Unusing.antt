-- To write the lines of the entries that left unmarked from number i on is to write them all. The nodes stand in the slice in order of
-- leaving, and the checker's list is the other way round.
use mathlib.Core.List.{List, [], ◌∷◌, ◌++◌, map}
use mathlib.Core.Logic.{by_cases}
use mathlib.Core.Path.{◌≡◌, refl, sym, ap, ◌∙◌}
use Prim.Native.Nat.{ℕ, zero, suc, ◌+◌, ◌-◌, ◌≤◌, ◌<◌}
use native.Mathlib.Decide.{ℕ_discrete}
use native.Mathlib.Omega.{arith}
use lib.ListN.{length, get_or}
use Rattle.work.specs.Layout.{UNUSED-COUNT, UNUSED}
use Rattle.cells.specs.Stands.{Rows}
use Rattle.format.specs.All.{All}
use Rattle.format.specs.Syntax.{Span, node_at}
use Rattle.format.specs.File.{Described}
use Rattle.meaning.specs.Check.{Checker, reversed}
use Rattle.meaning.specs.Answer.{unused_line, unused_lines}
use Rattle.state.specs.Words.{numbers_of, unused_of}
use Rattle.state.specs.Runs.{span_of, Runs}
use Rattle.state.specs.Lines.{WritesUnusedLine}
use Rattle.state.proofs.Telling.{span_at}
use Rattle.writer.specs.Writes.{Writes}
use Rattle.writer.proofs.Writing.{writes_as, Goes, goes_next, goes_full, goes_done}
use Rattle.answer.specs.Lines.{WritesUnusedLines}
use Rattle.std.specs.Prelude.{None, Option, Some}

-- ---- So many nodes from a number on, the one that left first first
unfoldable pub nodes_from : List ℕ → ℕ → ℕ → List ℕ
nodes_from w i zero = []
nodes_from w i (suc k) = get_or w (UNUSED + i) 0 ∷ nodes_from w (suc i) k

reversed_from : (w : List ℕ) (n k : ℕ) → reversed (unused_of w n) (nodes_from w n k) ≡ nodes_from w 0 (n + k)
unfolding reversed numbers_of nodes_from
reversed_from w zero k = let e : 0 + k ≡ k = omega arith in rw e
reversed_from w (suc n) k = let e : suc n + k ≡ n + suc k = omega arith in rw e (reversed_from w n (suc k))

reversed_map : (d : Described) (xs ys : List ℕ) → reversed (map (span_of d) xs) (map (span_of d) ys) ≡ map (span_of d) (reversed xs ys)
unfolding reversed
reversed_map d [] ys = refl
reversed_map d (x ∷ xs) ys = reversed_map d xs (x ∷ ys)

in_order_lem : {f w : List ℕ} {T : Rows} {d : Described} {c : Checker} → Runs f w T d c
    → reversed c.unused [] ≡ map (span_of d) (nodes_from w 0 (get_or w UNUSED-COUNT 0))
unfolding nodes_from
in_order_lem {w = w} {d = d} R =
    let n = get_or w UNUSED-COUNT 0 in
    let e : n + 0 ≡ n = omega arith in
    ap (λ (ss : List Span). reversed ss []) R.scopes.unused ∙ reversed_map d (unused_of w n) [] ∙ ap (map (span_of d))
    (reversed_from w n 0 ∙ ap (nodes_from w 0) e)

numbers_all : (P : ℕ → Type 0) (from : ℕ) (w : List ℕ) (n : ℕ) → All P (numbers_of from w n) → (i : ℕ) → i < n → P (get_or w (from + i) 0)
unfolding numbers_of
numbers_all P from w zero h i lt = absurd (omega arith)
numbers_all P from w (suc n) h i lt = by_cases (ℕ_discrete i n) (λ p. rw p h.0) (λ p. numbers_all P from w n h.1 i (omega arith))

-- ---- The lines
abbrev lines_from : Described → List ℕ → ℕ → ℕ → List ℕ
lines_from d w i k = unused_lines (map (span_of d) (nodes_from w i k))

lines_cons : (d : Described) (w : List ℕ) (n i : ℕ) → i < n → lines_from d w i (n - i) ≡ unused_line (span_of d (get_or w (UNUSED + i) 0)) ++ lines_from d w
    (i + 1) (n - (i + 1))
unfolding unused_lines nodes_from
lines_cons d w n i l = let more : n - i ≡ suc (n - (i + 1)) = omega arith in let on : i + 1 ≡ suc i = omega arith in rw (more, on)

lines_none : (d : Described) (w : List ℕ) (n i : ℕ) → n ≤ i → lines_from d w i (n - i) ≡ []
unfolding unused_lines nodes_from
lines_none d w n i l = let none : n - i ≡ 0 = omega arith in rw none

pub record Unusing (f w out₀ : List ℕ) (at n : ℕ) (out : List ℕ) (i to : ℕ) : Type 0 where
  pub within : i ≤ n
  pub all : n ≡ get_or w UNUSED-COUNT 0
  pub long : length out ≡ length out₀
  pub go : (T : Rows) (d : Described) (c : Checker) → Runs f w T d c → at ≤ length out₀ → Goes out₀ at (lines_from d w 0 n) out to (lines_from d w i (n - i))

module _ {f w out₀ : List ℕ} {at n : ℕ} {out : List ℕ} {i to : ℕ} (g : Unusing f w out₀ at n out i to) where
  module _ (l : i < n) {node place : ℕ} (q : node ≡ get_or w (UNUSED + place) 0) (p : place ≡ i) {out' : List ℕ} {r : Option ℕ}
      (h : WritesUnusedLine f w out to node out' r) where
    line : {T : Rows} {d : Described} {c : Checker} → Runs f w T d c → Writes out to (unused_line (span_of d (get_or w (UNUSED + i) 0))) out' r
    line {d = d} R =
        let at_i : node ≡ get_or w (UNUSED + i) 0 = rw p at q in
        let there : get_or w (UNUSED + i) 0 < length d.ast.nodes = numbers_all (λ m. m < length d.ast.nodes) UNUSED w (get_or w UNUSED-COUNT 0)
        R.scopes.left i (omega (arith, g.all)) in
        (rw at_i at h).is (span_of d (get_or w (UNUSED + i) 0))
        (span_at f w (get_or w (UNUSED + i) 0) (node_at d.ast.nodes (get_or w (UNUSED + i) 0)) (R.stands.node (get_or w (UNUSED + i) 0) there))

    pub unused_next : {m : ℕ} → r ≡ Some m → Unusing f w out₀ at n out' (i + 1) m
    unused_next e = record {
      within = omega arith;
      all = g.all;
      long = h.long ∙ g.long;
      go = λ T d c R b. goes_next (g.go T d c R b) _ _ (lines_cons d w n i l) (line R) e;
    }

    pub unused_full : r ≡ None → WritesUnusedLines f w out₀ at out' None
    unused_full e = record {
      is = λ T d c R b. writes_as (ap unused_lines (rw g.all (sym (in_order_lem R)))) (goes_full (g.go T d c R b) _ _ (lines_cons d w n i l) (line R) e);
      long = h.long ∙ g.long;
    }

  pub unused_done : n ≤ i → WritesUnusedLines f w out₀ at out (Some to)
  unused_done l = record {
    is = λ T d c R b. writes_as (ap unused_lines (rw g.all (sym (in_order_lem R)))) (goes_done (g.go T d c R b) (lines_none d w n i l));
    long = g.long;
  }
