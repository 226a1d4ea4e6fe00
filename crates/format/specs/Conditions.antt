-- Document 01, "When a file is turned down": conditions 3 to 10 of a line and 13 of card 3, each by itself, and their order. They are tests of what a
-- line says; Means.antt has what that is, and `obeys` and `no_condition` in proofs/Conditions.antt say what a frame obeys that meets none.
use Rattle.std.specs.Prelude.{◌&&◌, Bool, true, false, not, ◌||◌, List, [], ◌∷◌, ℕ, eqb, leb, ltb, length, None, Option, Some}
use Rattle.text.specs.Utf8.{characters}
use Rattle.format.specs.Refusal.{Refusal, malformed_line, misplaced_kind, too_many, malformed_frame, broken_text, name_given_before, bad_reference}
use Rattle.format.specs.Refusal.{repeated_key, too_many_queries}
use Rattle.format.specs.Frame.{Kind, limits, name, schema_type, predicate, node, query, may_stand, Frame, frame_kind}
use Rattle.format.specs.References.{name_refs, type_refs, node_refs, texts_of, keys_of}
use Rattle.format.specs.SoFar.{Said, malformed, unknown_kind, no_frame, frames, SoFar}

-- ---- Tests

unfoldable pub any_of : {A : Type 0} → (A → Bool) → List A → Bool
any_of test [] = false
any_of test (a ∷ l) = elim (test a) [ true ↦ true | false ↦ any_of test l ]

unfoldable pub all_below : ℕ → List ℕ → Bool
all_below n [] = true
all_below n (m ∷ ms) = ltb m n && all_below n ms

unfoldable pub among : ℕ → List ℕ → Bool
unfolding any_of
among n ms = any_of (eqb n) ms

-- one of the second list stands in the first, or twice in the second
unfoldable pub again : List ℕ → List ℕ → Bool
unfolding among
again earlier [] = false
again earlier (n ∷ ns) = elim (among n earlier) [ true ↦ true | false ↦ again (n ∷ earlier) ns ]

unfoldable pub same_text : List ℕ → List ℕ → Bool
same_text [] [] = true
same_text [] (b ∷ t) = false
same_text (a ∷ s) [] = false
same_text (a ∷ s) (b ∷ t) = eqb a b && same_text s t

unfoldable pub given : List (List ℕ) → List ℕ → Bool
unfolding any_of same_text
given ts s = any_of (same_text s) ts

-- ---- The conditions

unfoldable pub max_names : ℕ
max_names = 256

unfoldable pub max_types : ℕ
max_types = 256

unfoldable pub max_predicates : ℕ
max_predicates = 128

unfoldable pub max_nodes : ℕ
max_nodes = 512

unfoldable pub max_queries : ℕ
max_queries = 64

-- 3: the line is `Malformed` (Means.antt)
unfoldable pub is_malformed : SoFar → Said → Bool
is_malformed so malformed = true
is_malformed so unknown_kind = false
is_malformed so (no_frame k) = false
is_malformed so (frames f) = false

-- 4: "kind unknown or misplaced"
unfoldable pub is_misplaced : SoFar → Said → Bool
unfolding may_stand frame_kind
is_misplaced so malformed = false
is_misplaced so unknown_kind = true
is_misplaced so (no_frame k) = not (may_stand so.previous k)
is_misplaced so (frames f) = not (may_stand so.previous (frame_kind f))

unfoldable pub is_full : SoFar → Kind → Bool
unfolding max_names max_types max_predicates max_nodes
is_full so limits = false
is_full so name = leb max_names (length so.names)
is_full so schema_type = leb max_types (length so.types)
is_full so predicate = leb max_predicates (length so.predicates)
is_full so node = leb max_nodes (length so.nodes)
is_full so query = false

-- 5: "over 256 names, 256 types, 128 predicates or 512 nodes"; by the kind alone, the nodes "for each query" (card 3)
unfoldable pub is_one_too_many : SoFar → Said → Bool
unfolding is_full frame_kind
is_one_too_many so malformed = false
is_one_too_many so unknown_kind = false
is_one_too_many so (no_frame k) = is_full so k
is_one_too_many so (frames f) = is_full so (frame_kind f)

unfoldable pub is_last_query_past : SoFar → Kind → Bool
unfolding max_queries
is_last_query_past so limits = false
is_last_query_past so name = false
is_last_query_past so schema_type = false
is_last_query_past so predicate = false
is_last_query_past so node = false
is_last_query_past so query = leb max_queries (length so.queries)

-- 13, "for a 65th query, between 5 and 6 on its line"; by the kind alone
unfoldable pub is_query_too_many : SoFar → Said → Bool
unfolding is_last_query_past frame_kind
is_query_too_many so malformed = false
is_query_too_many so unknown_kind = false
is_query_too_many so (no_frame k) = is_last_query_past so k
is_query_too_many so (frames f) = is_last_query_past so (frame_kind f)

-- 6: no frame of the line's kind is written so (`is_no_frame_lem` of Means.antt)
unfoldable pub is_no_frame : SoFar → Said → Bool
is_no_frame so malformed = false
is_no_frame so unknown_kind = false
is_no_frame so (no_frame k) = true
is_no_frame so (frames f) = false

-- A condition of frames.
unfoldable pub of_frame : (Frame → Bool) → Said → Bool
of_frame test malformed = false
of_frame test unknown_kind = false
of_frame test (no_frame k) = false
of_frame test (frames f) = test f

unfoldable pub broken : List ℕ → Bool
unfolding characters
broken s = elim (characters s) [ None ↦ true | Some n ↦ false ]

-- 7: "text breaks the rule"
unfoldable pub is_broken_text : SoFar → Said → Bool
unfolding of_frame any_of broken texts_of
is_broken_text so l = of_frame (λ f. any_of broken (texts_of f)) l

-- 8: "name text given before"
unfoldable pub is_name_given_before : SoFar → Said → Bool
unfolding of_frame any_of given texts_of
is_name_given_before so l = of_frame (λ f. any_of (given so.names) (texts_of f)) l

-- Items are numbered from 0, so an earlier one is one below the number of items so far.
unfoldable pub refers_earlier : SoFar → Frame → Bool
unfolding all_below name_refs type_refs node_refs
refers_earlier so f = all_below (length so.names) (name_refs f) && (all_below (length so.types) (type_refs f) && all_below (length so.nodes) (node_refs f))

unfoldable pub refers_badly : SoFar → Frame → Bool
unfolding refers_earlier again node_refs
refers_badly so f = not (refers_earlier so f) || again so.named (node_refs f)

-- 9: "name, type or node reference not to an earlier frame; node named again"
unfoldable pub is_bad_reference : SoFar → Said → Bool
unfolding of_frame refers_badly
is_bad_reference so l = of_frame (refers_badly so) l

-- 10: "record type repeats a field name, or union a discriminant"
unfoldable pub is_repeated_key : SoFar → Said → Bool
unfolding of_frame again keys_of
is_repeated_key so l = of_frame (λ f. again [] (keys_of f)) l

-- ---- Their order

pub record Condition : Type 0 where
  pub refusal : Refusal
  pub holds : SoFar → Said → Bool

unfoldable pub conditions : List Condition
unfolding is_malformed is_misplaced is_one_too_many is_query_too_many is_no_frame is_broken_text is_name_given_before is_bad_reference is_repeated_key
conditions =
    record { refusal = malformed_line; holds = is_malformed } ∷
    record { refusal = misplaced_kind; holds = is_misplaced } ∷
    record { refusal = too_many; holds = is_one_too_many } ∷
    record { refusal = too_many_queries; holds = is_query_too_many } ∷
    record { refusal = malformed_frame; holds = is_no_frame } ∷
    record { refusal = broken_text; holds = is_broken_text } ∷
    record { refusal = name_given_before; holds = is_name_given_before } ∷
    record { refusal = bad_reference; holds = is_bad_reference } ∷
    record { refusal = repeated_key; holds = is_repeated_key } ∷
    []

-- the first that holds of a line
unfoldable pub first_of : List Condition → SoFar → Said → Option Refusal
first_of [] so l = None
first_of (c ∷ cs) so l = elim (c.holds so l) [ true ↦ Some c.refusal | false ↦ first_of cs so l ]
