-- `reading` refuses a file for a reason exactly under that reason's condition. It goes through the lines as `Pass` does, so the proof is
-- by induction on them, with the first condition that holds of each.
use mathlib.Core.Bool.{false}
use mathlib.Core.List.{List, [], ◌∷◌, ◌++◌, map}
use mathlib.Core.Logic.{◌↔◌, ◌≢◌}
use mathlib.Core.Path.{◌≡◌, refl, sym, ap, subst, ◌∙◌}
use Prim.Native.Nat.{ℕ, ◌≤◌}
use native.Mathlib.Omega.{arith}
use lib.Dec.{ltb}
use lib.ListN.{length}
use borrow.Author.Tests.{ltb-true, ltb-false, lt-ltb, le-ltb}
use Rattle.format.specs.Refusal.{Refusal, misplaced_kind}
use Rattle.format.specs.Lines.{lines}
use Rattle.format.specs.Frame.{Edition, Kind, limits, name, schema_type, predicate, node, query}
use Rattle.format.specs.SoFar.{SoFar, Said, said, start, after}
use Rattle.format.specs.Conditions.{Condition, conditions, first_of}
use Rattle.format.specs.File.{max_file, Form, describe, Reading, refused, described, at_end, read_from, reading_of}
use Rattle.format.specs.All.{All}
use Rattle.format.specs.Refused.{First, here, later, Pass, none_left, more, AtLine, Refused, too_long, at_line, missing_query}
use Rattle.format.proofs.Tests.{cases}
use Rattle.format.proofs.Conditions.{none_holds, holds_none}
use Rattle.std.specs.Prelude.{None, Option, Some}

-- ---- One line

pub some_first : (cs : List Condition) (so : SoFar) (l : Said) (i : Refusal) → first_of cs so l ≡ Some i → First cs so l i
unfolding first_of
some_first [] so l i e = let z : ◌≡◌ {A = ℕ} 0 1 = cc in absurd (omega arith)
some_first (c ∷ cs) so l i e = cases (c.holds so l)
    (λ q. let h : Some c.refusal ≡ Some i = rw (q, first_of) at e in let same : i ≡ c.refusal = cc in rw same (here q))
    (λ q. later q (some_first cs so l i (rw (q, first_of) at e)))

pub first_some : {cs : List Condition} {so : SoFar} {l : Said} {i : Refusal} → First cs so l i → first_of cs so l ≡ Some i
unfolding first_of
first_some (here q) = rw (q, first_of)
first_some (later q f) = rw (q, first_of) (first_some f)

-- ---- The lines

pub read_refused : (so : SoFar) (l : Said) (ls : List Said) (i : Refusal) → first_of conditions so l ≡ Some i → read_from so (l ∷ ls) ≡ refused i
unfolding read_from
read_refused so l ls i q = rw (q, read_from)

pub read_next : (so : SoFar) (l : Said) (ls : List Said) → first_of conditions so l ≡ None → read_from so (l ∷ ls) ≡ read_from (after so l) ls
unfolding read_from
read_next so l ls q = rw (q, read_from)

-- What follows lines that pass is read as if they were there already.
pub past : {so end : SoFar} {ls : List Said} (rest : List Said) → Pass so ls end → read_from so (ls ++ rest) ≡ read_from end rest
unfolding read_from
past rest none_left = refl
past rest (more {so = so} {l = l} {ls = ls} a p) = read_next so l (ls ++ rest) (holds_none conditions so l a) ∙ past rest p

-- How the reading of lines ends.
data Ends (so : SoFar) (ls : List Said) : Reading → Type 0 where
  stopped : {i : Refusal} → AtLine so ls i → Ends so ls (refused i)
  through : (end : SoFar) → Pass so ls end → Ends so ls (at_end end end.previous)

ahead : {so : SoFar} {l : Said} {ls : List Said} {r : Reading} → All (λ c. c.holds so l ≡ false) conditions → Ends (after so l) ls r → Ends so (l ∷ ls) r
ahead {l = l} a (stopped s) = stopped (record
    { before = l ∷ s.before; line = s.line; rest = s.rest; read = s.read; split = ap (λ x. l ∷ x) s.split; pass = more a s.pass; first = s.first })
ahead a (through end p) = through end (more a p)

ends : (so : SoFar) (ls : List Said) → Ends so ls (read_from so ls)
unfolding read_from
ends so [] = through so none_left
ends so (l ∷ ls) = go (λ h. ends (after so l) ls) (first_of conditions so l) refl
  where
    go : (Unit {0} → Ends (after so l) ls (read_from (after so l) ls)) → (o : Option Refusal) → first_of conditions so l ≡ o
        → Ends so (l ∷ ls) (read_from so (l ∷ ls))
    go ih None q = rw (q, read_from) (ahead (none_holds conditions so l q) (ih tt))
    go ih (Some i) q = rw (q, read_from) (stopped
        (record { before = []; line = l; rest = ls; read = so; split = refl; pass = none_left; first = some_first conditions so l i q }))

-- ---- The file

abbrev Other : Option Kind → Type 0
Other None = Unit {0}
Other (Some limits) = Unit {0}
Other (Some name) = Unit {0}
Other (Some schema_type) = Unit {0}
Other (Some predicate) = Unit {0}
Other (Some node) = Unit {0}
Other (Some query) = ⊥

other_kind : {o : Option Kind} → o ≡ Some Kind.query → Other o → ⊥
other_kind e h = subst Other e h

stops : {so : SoFar} {ls : List Said} {i : Refusal} → AtLine so ls i → read_from so ls ≡ refused i
stops {so = so} {i = i} s = ap (read_from so) s.split ∙ past (s.line ∷ s.rest) s.pass ∙ read_refused s.read s.line s.rest i
    (first_some s.first)

to_the_end : {so end : SoFar} {ls : List Said} → Pass so ls end → read_from so ls ≡ at_end end end.previous
unfolding read_from
to_the_end none_left = refl
to_the_end (more {so = so} {l = l} {ls = ls} a p) = read_next so l ls (holds_none conditions so l a) ∙ to_the_end p

pub not_ended : (end : SoFar) (o : Option Kind) → o ≢ Some Kind.query → at_end end o ≡ refused misplaced_kind
unfolding at_end
not_ended end None h = refl
not_ended end (Some limits) h = refl
not_ended end (Some name) h = refl
not_ended end (Some schema_type) h = refl
not_ended end (Some predicate) h = refl
not_ended end (Some node) h = refl
not_ended end (Some query) h = absurd (h refl)

module _ (ed : Edition) where
  pub within : (file : List ℕ) → length file ≤ max_file → reading_of ed file ≡ read_from start (map (said ed) (lines file))
  unfolding reading_of
  within file h = rw (le-ltb max_file (length file) h, reading_of)

  -- The ways a file can be read.
  pub data Read (file : List ℕ) : Reading → Type 0 where
    turned_down : {i : Refusal} → Refused ed file i → Read file (refused i)
    passed : (end : SoFar) → length file ≤ max_file → Pass start (map (said ed) (lines file)) end → end.previous ≡ Some Kind.query
        → Read file (described (describe end))

  pub read : (file : List ℕ) → Read file (reading_of ed file)
  unfolding reading_of at_end
  read file = cases (ltb max_file (length file))
      (λ q. rw (q, reading_of) (turned_down (too_long (ltb-true max_file (length file) q))))
      (λ q. rw (q, reading_of) (go (ltb-false max_file (length file) q) (ends start (map (said ed) (lines file)))))
    where
      end_of : length file ≤ max_file → (end : SoFar) → Pass start (map (said ed) (lines file)) end → (o : Option Kind) → end.previous ≡ o
          → Read file (at_end end o)
      end_of h end p None q = turned_down (missing_query end h p (λ e. other_kind (sym q ∙ e) tt))
      end_of h end p (Some limits) q = turned_down (missing_query end h p (λ e. other_kind (sym q ∙ e) tt))
      end_of h end p (Some name) q = turned_down (missing_query end h p (λ e. other_kind (sym q ∙ e) tt))
      end_of h end p (Some schema_type) q = turned_down (missing_query end h p (λ e. other_kind (sym q ∙ e) tt))
      end_of h end p (Some predicate) q = turned_down (missing_query end h p (λ e. other_kind (sym q ∙ e) tt))
      end_of h end p (Some node) q = turned_down (missing_query end h p (λ e. other_kind (sym q ∙ e) tt))
      end_of h end p (Some query) q = passed end h p q

      go : length file ≤ max_file → {r : Reading} → Ends start (map (said ed) (lines file)) r → Read file r
      go h (stopped s) = turned_down (at_line h s)
      go h (through end p) = end_of h end p end.previous refl

  why : {file : List ℕ} {r : Reading} (i : Refusal) → Read file r → r ≡ refused i → Refused ed file i
  why i (turned_down {i = j} h) e = let same : i ≡ j = cc in rw same h
  why i (passed end h p s) e = let z : ◌≡◌ {A = ℕ} 0 1 = cc in absurd (omega arith)

  turned_down_lem : (file : List ℕ) {i : Refusal} → Refused ed file i → reading_of ed file ≡ refused i
  unfolding reading_of at_end
  turned_down_lem file (too_long h) = rw (lt-ltb max_file (length file) h, reading_of)
  turned_down_lem file (at_line h s) = within file h ∙ stops s
  turned_down_lem file (missing_query end h p q) = within file h ∙ to_the_end p ∙ not_ended end end.previous q

  -- Refused for a reason exactly under its condition.
  pub refused_when : (file : List ℕ) (i : Refusal) → (reading_of ed file ≡ refused i) ↔ Refused ed file i
  refused_when file i = (λ e. why i (read file) e, λ h. turned_down_lem file h)

  -- Described exactly where all lines pass and the last is a query.
  pub accepted : (file : List ℕ) (end : SoFar) → length file ≤ max_file → Pass start (map (said ed) (lines file)) end → end.previous ≡ Some Kind.query
      → reading_of ed file ≡ described (describe end)
  unfolding at_end
  accepted file end h p e = within file h ∙ to_the_end p ∙ ap (at_end end) e

  -- What the lines of a described file come to.
  pub record Accepted (file : List ℕ) (d : Form) : Type 0 where
    pub end : SoFar
    pub size : length file ≤ max_file
    pub pass : Pass start (map (said ed) (lines file)) end
    pub last : end.previous ≡ Some Kind.query
    pub is : d ≡ describe end

  pub described_when : (file : List ℕ) (d : Form) → reading_of ed file ≡ described d → Accepted file d
  described_when file d e = go (read file) e
    where
      go : {r : Reading} → Read file r → r ≡ described d → Accepted file d
      go (turned_down h) s = let z : ◌≡◌ {A = ℕ} 0 1 = cc in absurd (omega arith)
      go (passed end h p s) t = record { end = end; size = h; pass = p; last = s; is = cc }
