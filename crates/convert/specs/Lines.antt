-- What the functions of src/ promise of a line and of all lines. `e` is the edition that is read; the other one is written.
use Rattle.std.specs.Prelude.{Bool, ◌≡◌, ℕ, ◌+◌, ◌≤◌, leb, length, None, Option, Some, IfSome}
use mathlib.Core.List.{List, [], ◌∷◌, map, flat_map}
use Rattle.format.specs.Lines.{lines}
use Rattle.format.specs.Frame.{Edition, narrow, wide, Frame, the_limits, a_name, a_type, a_predicate, a_node, the_query}
use Rattle.format.specs.SoFar.{frames, said}
use Rattle.format.specs.Conditions.{any_of}
use Rattle.format.specs.All.{All}
use Rattle.format.specs.Bytes.{hex_line}
use Rattle.format.specs.Writing.{written, file_of, FrameFits}
use Rattle.writer.specs.Writes.{Writes}
use Rattle.editions.specs.Converted.{shape_predicates, expr_predicates, predicates, some_above}

abbrev pub other : Edition → Edition
other narrow = wide
other wide = narrow

-- Where the number of the predicate starts in what a frame is written as; none where it names none.
abbrev pub place_at : List ℕ → ℕ → Option ℕ
place_at [] n = None
place_at (p ∷ ps) n = Some n

unfoldable pub place_of : Frame → Option ℕ
unfolding shape_predicates expr_predicates
place_of (the_limits d t) = None
place_of (a_name s) = None
place_of (a_type t) = place_at (shape_predicates t) 2
place_of (a_predicate n k v) = None
place_of (a_node n) = place_at (expr_predicates n.kind) 10
place_of (the_query q) = None

pub record Placed (s : List ℕ) (r : Option ℕ) : Type 0 where
  pub is : (e : Edition) (g : Frame) → s ≡ written e g → r ≡ place_of g
  pub room : IfSome r (λ i. i + 2 ≤ length s)

-- these bytes as a line
pub record WritesLine (out : List ℕ) (at : ℕ) (s out' : List ℕ) (r : Option ℕ) : Type 0 where
  pub is : at ≤ length out → Writes out at (hex_line s) out' r
  pub long : length out' ≡ length out

-- A frame whose numbers fit the narrow edition, in the other edition.
pub record ConvertsLine (e : Edition) (out : List ℕ) (at : ℕ) (s out' : List ℕ) (r : Option ℕ) : Type 0 where
  pub is : (g : Frame) → s ≡ written e g → FrameFits narrow g → at ≤ length out → Writes out at (hex_line (written (other e) g)) out' r
  pub long : length out' ≡ length out

-- A file whose lines are frames.
abbrev pub LinesAre : Edition → List ℕ → List Frame → Type 0
LinesAre e f fs = map (said e) (lines f) ≡ map frames fs

pub record ConvertsLines (e : Edition) (f out out' : List ℕ) (r : Option ℕ) : Type 0 where
  pub is : (fs : List Frame) → LinesAre e f fs → All (FrameFits narrow) fs → Writes out 0 (file_of (other e) fs) out' r
  pub long : length out' ≡ length out

-- ---- Predicates by this number or a higher one

pub record NamesFrom (s : List ℕ) (least : ℕ) (r : Bool) : Type 0 where
  pub is : (g : Frame) → s ≡ written wide g → FrameFits wide g → r ≡ any_of (leb least) (predicates g)

pub record SomeFrom (f : List ℕ) (least : ℕ) (r : Bool) : Type 0 where
  pub is : (fs : List Frame) → LinesAre wide f fs → r ≡ any_of (leb least) (flat_map predicates fs)

-- 14
pub record SomeAbove (f : List ℕ) (r : Bool) : Type 0 where
  pub is : (fs : List Frame) → LinesAre wide f fs → r ≡ some_above fs
