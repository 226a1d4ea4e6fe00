-- Card 6: "One program turns files of the 2-byte edition into it with every number kept, another turns them back." A converted file is the frames
-- that the file says, written in the other edition.
use Rattle.std.specs.Prelude.{Bool, true, false, ℕ, leb, ltb}
use mathlib.Core.List.{List, [], ◌∷◌, map, flat_map}
use Rattle.unification.specs.Ty.{Int, String, Bytes, Fact}
use Rattle.format.specs.Syntax.{ExprKind}
use Rattle.format.specs.Lines.{lines}
use Rattle.format.specs.Frame.{Edition, narrow, wide, TypeShape, a_leaf, a_record, a_union, Frame, the_limits, a_name, a_type, a_predicate, a_node, the_query}
use Rattle.format.specs.SoFar.{Said, malformed, unknown_kind, no_frame, frames, said}
use Rattle.format.specs.Conditions.{any_of}
use Rattle.format.specs.Refusal.{work_too_short, number_too_wide}
use Rattle.format.specs.File.{Reading, refused, described, reading_of}
use Rattle.format.specs.Writing.{file_of}
use Rattle.meaning.specs.Outcome.{Decided, turned_down, answered, min_words, Outcome, finish}

-- the frames that a file's lines say, in file order
unfoldable pub frames_on : Said → List Frame
frames_on malformed = []
frames_on unknown_kind = []
frames_on (no_frame k) = []
frames_on (frames f) = f ∷ []

unfoldable pub frames_in : Edition → List ℕ → List Frame
unfolding frames_on said lines flat_map
frames_in e file = flat_map frames_on (map (said e) (lines file))

-- ---- A file in the other edition

unfoldable pub widened : List ℕ → List ℕ
unfolding frames_in file_of
widened file = file_of wide (frames_in narrow file)

unfoldable pub narrowed : List ℕ → List ℕ
unfolding frames_in file_of
narrowed file = file_of narrow (frames_in wide file)

-- ---- 14, "a number above 65,535"

-- the predicates that a frame names by number: in a type or in a node
unfoldable pub shape_predicates : TypeShape → List ℕ
shape_predicates (a_leaf Int) = []
shape_predicates (a_leaf String) = []
shape_predicates (a_leaf Bytes) = []
shape_predicates (a_leaf (Fact p)) = p ∷ []
shape_predicates (a_record fs) = []
shape_predicates (a_union alts) = []

unfoldable pub expr_predicates : ExprKind → List ℕ
expr_predicates (ExprKind.Lit l) = []
expr_predicates (ExprKind.Var x) = []
expr_predicates ExprKind.Wildcard = []
expr_predicates ExprKind.Never = []
expr_predicates (ExprKind.Prefix x) = []
expr_predicates (ExprKind.Fuzzy x d) = []
expr_predicates (ExprKind.Record fs) = []
expr_predicates (ExprKind.Access f x) = []
expr_predicates (ExprKind.Disjunction es) = []
expr_predicates (ExprKind.Subquery q) = []
expr_predicates (ExprKind.Fact p x) = p ∷ []
expr_predicates (ExprKind.Arith es) = []
expr_predicates ExprKind.Error = []
expr_predicates (ExprKind.Select n x) = []

unfoldable pub predicates : Frame → List ℕ
unfolding shape_predicates expr_predicates
predicates (the_limits d t) = []
predicates (a_name s) = []
predicates (a_type t) = shape_predicates t
predicates (a_predicate n k v) = []
predicates (a_node n) = expr_predicates n.kind
predicates (the_query q) = []

unfoldable pub is_above : ℕ → Bool
is_above p = leb 65536 p

unfoldable pub some_above : List Frame → Bool
unfolding any_of is_above predicates flat_map
some_above fs = any_of is_above (flat_map predicates fs)

-- ---- The calls

-- "The converter reads with 1 to 10 and 13" of the edition that it is given.
unfoldable pub widen_read : List ℕ → Reading → Decided
unfolding widened
widen_read file (refused i) = turned_down i
widen_read file (described f) = answered (widened file)

unfoldable pub decide_widen : List ℕ → ℕ → Decided
unfolding widen_read reading_of min_words
decide_widen file words = elim (ltb words min_words) [ true ↦ turned_down work_too_short | false ↦ widen_read file (reading_of narrow file) ]

-- 14 comes "after the missing 06 and before 12"
unfoldable pub narrow_read : List ℕ → Reading → Decided
unfolding narrowed some_above frames_in
narrow_read file (refused i) = turned_down i
narrow_read file (described f) = elim (some_above (frames_in wide file)) [ true ↦ turned_down number_too_wide | false ↦ answered (narrowed file) ]

unfoldable pub decide_narrow : List ℕ → ℕ → Decided
unfolding narrow_read reading_of min_words
decide_narrow file words = elim (ltb words min_words) [ true ↦ turned_down work_too_short | false ↦ narrow_read file (reading_of wide file) ]

-- the outcome and both slices at exit, from the file and the lengths of the two slices alone; "12 covers its output"
unfoldable pub outcome_widen : List ℕ → ℕ → ℕ → Outcome
unfolding decide_widen finish
outcome_widen file words bytes = finish (decide_widen file words) words bytes

unfoldable pub outcome_narrow : List ℕ → ℕ → ℕ → Outcome
unfolding decide_narrow finish
outcome_narrow file words bytes = finish (decide_narrow file words) words bytes
