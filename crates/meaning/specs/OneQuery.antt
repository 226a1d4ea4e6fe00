-- The call before card 3 of 02-change-requests.md: one query, nothing after it, and no 13. A name that ends in `Before` is what the one without it
-- was; what did not move is used as it stands. `as_before` in proofs/OneQuery.antt says what the card keeps.
use Rattle.std.specs.Prelude.{Bool, true, false, not, List, [], ◌∷◌, ◌++◌, map, ◌≢◌, ℕ, eqb, ltb, None, Option, Some}
use Rattle.unification.specs.Ty.{Ty}
use Rattle.format.specs.Syntax.{Query, Node}
use Rattle.format.specs.Schema.{Predicate}
use Rattle.format.specs.Refusal.{Refusal, work_too_short, file_too_long, malformed_line, misplaced_kind, too_many, malformed_frame, broken_text}
use Rattle.format.specs.Refusal.{name_given_before, bad_reference, repeated_key, too_many_visits}
use Rattle.format.specs.Lines.{lines}
use Rattle.format.specs.Frame.{wide, Kind, limits, name, schema_type, predicate, node, query, kind_byte, rises, Frame, the_limits, a_name, a_type, a_predicate}
use Rattle.format.specs.Frame.{a_node, the_query, frame_kind}
use Rattle.format.specs.References.{expr_nodes, query_nodes}
use Rattle.format.specs.SoFar.{Said, malformed, unknown_kind, no_frame, frames, said, SoFar, ty_of, predicate_of}
use Rattle.format.specs.Conditions.{is_malformed, is_one_too_many, is_no_frame, is_broken_text, is_name_given_before, is_bad_reference, is_repeated_key}
use Rattle.format.specs.Conditions.{Condition, first_of}
use Rattle.format.specs.File.{Described, schema_of, is_too_long}
use Rattle.meaning.specs.Check.{Checked, typed, exhausted, check}
use Rattle.meaning.specs.Diag.{Message}
use Rattle.meaning.specs.Messages.{message_text}
use Rattle.meaning.specs.Answer.{answer_lines}
use Rattle.meaning.specs.Outcome.{Decided, turned_down, answered, Outcome, finish, min_words, max_visits}

pub record SoFarBefore : Type 0 where
  pub previous : Option Kind
  pub max_distance : ℕ
  pub max_term_chars : ℕ
  pub names : List (List ℕ)
  pub types : List Ty
  pub predicates : List Predicate
  pub nodes : List Node
  pub named : List ℕ
  pub query : Option Query

unfoldable pub start_before : SoFarBefore
start_before = record { previous = None; max_distance = 0; max_term_chars = 0; names = []; types = []; predicates = []; nodes = []; named = []; query = None }

unfoldable pub add_before : SoFarBefore → Frame → SoFarBefore
unfolding ty_of predicate_of expr_nodes query_nodes
add_before so (the_limits d t) = record so { previous = Some limits; max_distance = d; max_term_chars = t }
add_before so (a_name s) = record so { previous = Some name; names = so.names ++ s ∷ [] }
add_before so (a_type t) = record so { previous = Some schema_type; types = so.types ++ ty_of so.types t ∷ [] }
add_before so (a_predicate n k v) = record so { previous = Some predicate; predicates = so.predicates ++ predicate_of so.types n k v ∷ [] }
add_before so (a_node n) = record so { previous = Some node; nodes = so.nodes ++ n ∷ []; named = so.named ++ expr_nodes n.kind }
add_before so (the_query q) = record so { previous = Some query; named = so.named ++ query_nodes q; query = Some q }

unfoldable pub after_before : SoFarBefore → Said → SoFarBefore
unfolding add_before
after_before so malformed = so
after_before so unknown_kind = so
after_before so (no_frame k) = so
after_before so (frames f) = add_before so f

-- What the conditions look at: all but the query.
unfoldable pub as_now : SoFarBefore → SoFar
as_now so = record {
  previous = so.previous;
  max_distance = so.max_distance;
  max_term_chars = so.max_term_chars;
  names = so.names;
  types = so.types;
  predicates = so.predicates;
  nodes = so.nodes;
  named = so.named;
  queries = [];
}

-- "The kinds never fall, and one that stands once does not follow itself. So nothing follows the query."
unfoldable pub may_stand_before : Option Kind → Kind → Bool
unfolding rises kind_byte
may_stand_before None k = eqb (kind_byte k) (kind_byte limits)
may_stand_before (Some p) k = rises p k

unfoldable pub is_misplaced_before : SoFar → Said → Bool
unfolding may_stand_before frame_kind
is_misplaced_before so malformed = false
is_misplaced_before so unknown_kind = true
is_misplaced_before so (no_frame k) = not (may_stand_before so.previous k)
is_misplaced_before so (frames f) = not (may_stand_before so.previous (frame_kind f))

unfoldable pub conditions_before : List Condition
unfolding is_malformed is_misplaced_before is_one_too_many is_no_frame is_broken_text is_name_given_before is_bad_reference is_repeated_key
conditions_before =
    record { refusal = malformed_line; holds = is_malformed } ∷
    record { refusal = misplaced_kind; holds = is_misplaced_before } ∷
    record { refusal = too_many; holds = is_one_too_many } ∷
    record { refusal = malformed_frame; holds = is_no_frame } ∷
    record { refusal = broken_text; holds = is_broken_text } ∷
    record { refusal = name_given_before; holds = is_name_given_before } ∷
    record { refusal = bad_reference; holds = is_bad_reference } ∷
    record { refusal = repeated_key; holds = is_repeated_key } ∷
    []

pub data ReadingBefore : Type 0 where
  refused_before : Refusal → ReadingBefore
  described_before : Described → ReadingBefore

unfoldable pub describe_before : SoFarBefore → Query → Described
unfolding schema_of as_now
describe_before so q = record { names = so.names; schema = schema_of (as_now so); ast = record { nodes = so.nodes; query = q } }

unfoldable pub at_end_before : SoFarBefore → Option Query → ReadingBefore
unfolding describe_before
at_end_before so None = refused_before misplaced_kind
at_end_before so (Some q) = described_before (describe_before so q)

unfoldable pub read_from_before : SoFarBefore → List Said → ReadingBefore
unfolding first_of conditions_before as_now after_before at_end_before
read_from_before so [] = at_end_before so so.query
read_from_before so (l ∷ ls) = elim (first_of conditions_before (as_now so) l) [ Some r ↦ refused_before r | None ↦ read_from_before (after_before so l) ls ]

unfoldable pub reading_before : List ℕ → ReadingBefore
unfolding is_too_long read_from_before start_before said lines
reading_before file = elim (is_too_long file) [ true ↦ refused_before file_too_long | false ↦ read_from_before start_before (map (said wide) (lines file)) ]

unfoldable pub decide_checked_before : (Message → List ℕ) → Checked → Decided
unfolding answer_lines
decide_checked_before text exhausted = turned_down too_many_visits
decide_checked_before text (typed t) = answered (answer_lines text t)

unfoldable pub decide_read_before : ReadingBefore → Decided
unfolding decide_checked_before check max_visits message_text
decide_read_before (refused_before r) = turned_down r
decide_read_before (described_before d) = decide_checked_before (message_text d.names d.schema) (check max_visits d.schema d.ast)

unfoldable pub decide_before : List ℕ → ℕ → Decided
unfolding decide_read_before reading_before min_words
decide_before file words = elim (ltb words min_words) [ true ↦ turned_down work_too_short | false ↦ decide_read_before (reading_before file) ]

unfoldable pub outcome_before : List ℕ → ℕ → ℕ → Outcome
unfolding decide_before finish
outcome_before file words bytes = finish (decide_before file words) words bytes

-- ---- "A file with one 06, its last line"

-- the kind of a line that has one
abbrev pub kind_in : Said → Option Kind
kind_in malformed = None
kind_in unknown_kind = None
kind_in (no_frame k) = Some k
kind_in (frames f) = Some (frame_kind f)

-- No line but the last is a 06 line.
abbrev pub QueryLast : List Said → Type 0
QueryLast [] = Unit {0}
QueryLast (l ∷ []) = Unit {0}
QueryLast (l ∷ m ∷ ls) = (kind_in l ≢ Some query) × QueryLast (m ∷ ls)
