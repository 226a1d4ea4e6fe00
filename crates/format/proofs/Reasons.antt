-- A line is refused for 3 and for 6 exactly where it is malformed, and where no frame of its kind is written so: the condition is the first
-- that holds of what the line says, and `means` says what that is. A file is refused at a line exactly where it reaches it.
use mathlib.Core.Bool.{true, false, not}
use mathlib.Core.List.{List, [], ◌∷◌, ◌++◌, map, head-eq_of_cons-eq, tail-eq_of_cons-eq}
use mathlib.Core.Logic.{◌≢◌}
use mathlib.Core.Path.{◌≡◌, refl, sym, ap, subst, ◌∙◌}
use Prim.Native.Nat.{ℕ, ◌≤◌}
use native.Mathlib.Omega.{arith}
use lib.ListN.{length}
use borrow.Author.Tests.{not-false}
use Rattle.format.specs.Refusal.{Refusal, malformed_line, malformed_frame}
use Rattle.format.specs.Lines.{Line, lines}
use Rattle.format.specs.Frame.{wide, Kind, kind_byte, may_stand, Frame}
use Rattle.format.specs.SoFar.{SoFar, Said, malformed, unknown_kind, no_frame, frames, said, start}
use Rattle.format.specs.Conditions.{is_malformed, is_misplaced, is_full, is_one_too_many, is_last_query_past, is_query_too_many, is_no_frame, conditions}
use Rattle.format.specs.File.{max_file}
use Rattle.format.specs.Writing.{written, FrameFits}
use Rattle.format.specs.Refused as Lines
use Rattle.format.specs.Refused.{First, here, later, AtLine, at_line}
use Rattle.format.specs.Means.{Malformed, WrittenAs, Means, is_malformed_lem, is_unknown_lem, is_no_frame_lem, is_frame_lem}
use Rattle.format.specs.Reasons.{Reaches, NoFrame}
use Rattle.format.proofs.Tests.{clash}
use Rattle.format.proofs.Means.{means}

-- ---- From what the lines say to the lines

record Split (ls : List Line) (a : List Said) (b : Said) : Type 0 where
  before : List Line
  line : Line
  rest : List Line
  is : ls ≡ before ++ line ∷ rest
  first : map (said wide) before ≡ a
  second : said wide line ≡ b

split : (ls : List Line) (a : List Said) (b : Said) (c : List Said) → map (said wide) ls ≡ a ++ b ∷ c → Split ls a b
split [] [] b c e = let z : ◌≡◌ {A = ℕ} 0 1 = cc in absurd (omega arith)
split [] (x ∷ a) b c e = let z : ◌≡◌ {A = ℕ} 0 1 = cc in absurd (omega arith)
split (l ∷ ls) [] b c e = record { before = []; line = l; rest = ls; is = refl; first = refl; second = head-eq_of_cons-eq e }
split (l ∷ ls) (x ∷ a) b c e = more (split ls a b c (tail-eq_of_cons-eq e))
  where
    more : Split ls a b → Split (l ∷ ls) (x ∷ a) b
    more s =
        let same : said wide l ≡ x = head-eq_of_cons-eq e in
        let later = s.first in
        record { before = l ∷ s.before; line = s.line; rest = s.rest; is = ap (λ t. l ∷ t) s.is; first = cc; second = s.second }

said_append : (a b : List Line) → map (said wide) (a ++ b) ≡ map (said wide) a ++ map (said wide) b
said_append [] b = refl
said_append (l ∷ a) b = ap (λ t. said wide l ∷ t) (said_append a b)

module _ (file : List ℕ) (i : Refusal) (P : SoFar → Line → Type 0) where
  pub reaches : length file ≤ max_file → ((so : SoFar) (l : Line) → First conditions so (said wide l) i → P so l)
      → AtLine start (map (said wide) (lines file)) i → Reaches file P
  reaches h f s =
      let x = split (lines file) s.before s.line s.rest s.split in
      record {
        size = h;
        before = x.before;
        line = x.line;
        rest = x.rest;
        read = s.read;
        split = x.is;
        pass = rw x.first s.pass;
        here = f s.read x.line (rw x.second s.first);
      }

  pub reached : ((so : SoFar) (l : Line) → P so l → First conditions so (said wide l) i) → Reaches file P → Lines.Refused wide file i
  reached f r =
      at_line r.size
      (record {
        before = map (said wide) r.before;
        line = said wide r.line;
        rest = map (said wide) r.rest;
        read = r.read;
        split = ap (map (said wide)) r.split ∙ said_append r.before (r.line ∷ r.rest);
        pass = r.pass;
        first = f r.read r.line r.here;
      })

-- ---- 3

first_holds : {so : SoFar} {x : Said} {i : Refusal} → First conditions so x i → i ≡ malformed_line → is_malformed so x ≡ true
unfolding conditions
first_holds (here q) e = q
first_holds (later q (here r)) e = let z : ◌≡◌ {A = ℕ} 0 1 = cc in absurd (omega arith)
first_holds (later q (later r (here s))) e = let z : ◌≡◌ {A = ℕ} 0 1 = cc in absurd (omega arith)
first_holds (later q (later r (later s (here t)))) e = let z : ◌≡◌ {A = ℕ} 0 1 = cc in absurd (omega arith)
first_holds (later q (later r (later s (later t (here u))))) e = let z : ◌≡◌ {A = ℕ} 0 1 = cc in absurd (omega arith)
first_holds (later q (later r (later s (later t (later u (here v)))))) e = let z : ◌≡◌ {A = ℕ} 0 1 = cc in absurd (omega arith)
first_holds (later q (later r (later s (later t (later u (later v (here w))))))) e = let z : ◌≡◌ {A = ℕ} 0 1 = cc in absurd (omega arith)
first_holds (later q (later r (later s (later t (later u (later v (later w (here x)))))))) e = let z : ◌≡◌ {A = ℕ} 0 1 = cc in absurd (omega arith)
first_holds (later q (later r (later s (later t (later u (later v (later w (later x (here y))))))))) e = let z : ◌≡◌ {A = ℕ} 0 1 = cc in absurd (omega arith)
first_holds {so = so} {i = i} (later q (later r (later s (later t (later u (later v (later w (later x (later _ h))))))))) e = elim h [ ]

-- what 6 says of the conditions before it
record Before6 (so : SoFar) (x : Said) : Type 0 where
  placed : is_misplaced so x ≡ false
  few : is_one_too_many so x ≡ false
  few_queries : is_query_too_many so x ≡ false
  frame : is_no_frame so x ≡ true

before_6 : {so : SoFar} {x : Said} {i : Refusal} → First conditions so x i → i ≡ malformed_frame → Before6 so x
unfolding conditions
before_6 (here q) e = let z : ◌≡◌ {A = ℕ} 0 1 = cc in absurd (omega arith)
before_6 (later q (here r)) e = let z : ◌≡◌ {A = ℕ} 0 1 = cc in absurd (omega arith)
before_6 (later q (later r (here s))) e = let z : ◌≡◌ {A = ℕ} 0 1 = cc in absurd (omega arith)
before_6 (later q (later r (later s (here t)))) e = let z : ◌≡◌ {A = ℕ} 0 1 = cc in absurd (omega arith)
before_6 (later q (later r (later s (later t (here u))))) e = record { placed = r; few = s; few_queries = t; frame = u }
before_6 (later q (later r (later s (later t (later u (here v)))))) e = let z : ◌≡◌ {A = ℕ} 0 1 = cc in absurd (omega arith)
before_6 (later q (later r (later s (later t (later u (later v (here w))))))) e = let z : ◌≡◌ {A = ℕ} 0 1 = cc in absurd (omega arith)
before_6 (later q (later r (later s (later t (later u (later v (later w (here x)))))))) e = let z : ◌≡◌ {A = ℕ} 0 1 = cc in absurd (omega arith)
before_6 (later q (later r (later s (later t (later u (later v (later w (later x (here y))))))))) e = let z : ◌≡◌ {A = ℕ} 0 1 = cc in absurd (omega arith)
before_6 {so = so} {i = i} (later q (later r (later s (later t (later u (later v (later w (later x (later _ h))))))))) e = elim h [ ]

only_malformed : {l : Line} {x : Said} → Means wide l x → x ≡ malformed → Malformed l
only_malformed (is_malformed_lem m) e = m
only_malformed (is_unknown_lem b t h n) e = let z : ◌≡◌ {A = ℕ} 0 1 = cc in absurd (omega arith)
only_malformed (is_no_frame_lem k t h n) e = let z : ◌≡◌ {A = ℕ} 0 1 = cc in absurd (omega arith)
only_malformed (is_frame_lem f b h) e = let z : ◌≡◌ {A = ℕ} 0 1 = cc in absurd (omega arith)

malformed_first : (so : SoFar) (x : Said) → First conditions so x malformed_line → x ≡ malformed
unfolding is_malformed
malformed_first so malformed f = refl
malformed_first so unknown_kind f = clash (sym (first_holds f refl))
malformed_first so (no_frame k) f = clash (sym (first_holds f refl))
malformed_first so (frames g) f = clash (sym (first_holds f refl))

pub at_malformed : (so : SoFar) (l : Line) → First conditions so (said wide l) malformed_line → Malformed l
at_malformed so l f = only_malformed ((means wide l (said wide l)).0 refl) (malformed_first so (said wide l) f)

pub malformed_at : (so : SoFar) (l : Line) → Malformed l → First conditions so (said wide l) malformed_line
unfolding conditions is_malformed
malformed_at so l m = subst (λ x. First conditions so x malformed_line) (sym ((means wide l malformed).1 (is_malformed_lem m))) (here refl)

-- ---- 6

-- what the line says, by which the conditions before 6 do not hold of it
record AtKind (so : SoFar) (x : Said) : Type 0 where
  kind : Kind
  is : x ≡ no_frame kind
  placed : may_stand so.previous kind ≡ true
  few : is_full so kind ≡ false
  few_queries : is_last_query_past so kind ≡ false

no_frame_first : (so : SoFar) (x : Said) → First conditions so x malformed_frame → AtKind so x
unfolding is_misplaced is_one_too_many is_query_too_many is_no_frame
no_frame_first so malformed f = clash (sym (before_6 f refl).frame)
no_frame_first so unknown_kind f = clash (sym (before_6 f refl).frame)
no_frame_first so (no_frame k) f =
    let b = before_6 f refl in
    record { kind = k; is = refl; placed = not-false (may_stand so.previous k) b.placed; few = b.few; few_queries = b.few_queries }
no_frame_first so (frames g) f = clash (sym (before_6 f refl).frame)

no_frame_lem : {so : SoFar} {l : Line} {x : Said} → Means wide l x → AtKind so x → NoFrame so l
no_frame_lem (is_malformed_lem m) a = let e = a.is in let z : ◌≡◌ {A = ℕ} 0 1 = cc in absurd (omega arith)
no_frame_lem (is_unknown_lem b t h n) a = let e = a.is in let z : ◌≡◌ {A = ℕ} 0 1 = cc in absurd (omega arith)
no_frame_lem {l = l} (is_no_frame_lem k t h n) a =
    let e = a.is in
    let same : k ≡ a.kind = cc in
    record {
      kind = a.kind;
      content = t;
      bytes = subst (λ z. WrittenAs l (kind_byte z ∷ t)) same h;
      placed = a.placed;
      few = a.few;
      few_queries = a.few_queries;
      none_written = subst (λ z. (f : Frame) → FrameFits wide f → written wide f ≢ kind_byte z ∷ t) same n;
    }
no_frame_lem (is_frame_lem f b h) a = let e = a.is in let z : ◌≡◌ {A = ℕ} 0 1 = cc in absurd (omega arith)

pub at_no_frame : (so : SoFar) (l : Line) → First conditions so (said wide l) malformed_frame → NoFrame so l
at_no_frame so l f = no_frame_lem ((means wide l (said wide l)).0 refl) (no_frame_first so (said wide l) f)

pub no_frame_at : (so : SoFar) (l : Line) → NoFrame so l → First conditions so (said wide l) malformed_frame
unfolding conditions is_malformed is_misplaced is_one_too_many is_query_too_many is_no_frame
no_frame_at so l n =
    subst (λ x. First conditions so x malformed_frame)
    (sym ((means wide l (no_frame n.kind)).1 (is_no_frame_lem n.kind n.content n.bytes n.none_written)))
    (later refl (later (ap not n.placed) (later n.few (later n.few_queries (here refl)))))
