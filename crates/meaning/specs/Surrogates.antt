-- The call before card 2 of 02-change-requests.md: with the open grammar, which let the values d800 to dfff pass (crate text, Surrogates.antt), and
-- all else as it stands. A name that ends in `Open` is the one without it, over that grammar. `answers_as_before` in proofs/Surrogates.antt says what
-- the card keeps.
use Rattle.std.specs.Prelude.{Bool, true, false, List, [], ◌∷◌, map, ℕ, ltb, None, Option, Some}
use Rattle.text.specs.Surrogates.{HasSurrogate, characters_open}
use Rattle.format.specs.All.{All}
use Rattle.format.specs.Schema.{Schema}
use Rattle.format.specs.Refusal.{work_too_short, file_too_long, malformed_line, misplaced_kind, too_many, malformed_frame, broken_text, name_given_before}
use Rattle.format.specs.Refusal.{bad_reference, repeated_key, too_many_queries}
use Rattle.format.specs.Frame.{wide, Kind, limits, name, schema_type, predicate, node, query}
use Rattle.format.specs.References.{texts_of}
use Rattle.format.specs.Lines.{position, lines}
use Rattle.format.specs.SoFar.{Said, malformed, unknown_kind, no_frame, frames, said, SoFar, start, after}
use Rattle.format.specs.Conditions.{any_of, same_text, of_frame, Condition, first_of, is_malformed, is_misplaced, is_one_too_many, is_query_too_many}
use Rattle.format.specs.Conditions.{is_no_frame, is_name_given_before, is_bad_reference, is_repeated_key}
use Rattle.format.specs.File.{Form, count_of, value_text, Reading, refused, described, is_too_long}
use Rattle.meaning.specs.Outcome.{Decided, turned_down, decide_read, min_words, Outcome, finish}

unfoldable pub broken_open : List ℕ → Bool
unfolding characters_open
broken_open s = elim (characters_open s) [ None ↦ true | Some n ↦ false ]

unfoldable pub is_broken_open : SoFar → Said → Bool
unfolding of_frame any_of broken_open texts_of
is_broken_open so l = of_frame (λ f. any_of broken_open (texts_of f)) l

unfoldable pub conditions_open : List Condition
unfolding is_malformed is_misplaced is_one_too_many is_query_too_many is_no_frame is_broken_open is_name_given_before is_bad_reference is_repeated_key
conditions_open =
    record { refusal = malformed_line; holds = is_malformed } ∷
    record { refusal = misplaced_kind; holds = is_misplaced } ∷
    record { refusal = too_many; holds = is_one_too_many } ∷
    record { refusal = too_many_queries; holds = is_query_too_many } ∷
    record { refusal = malformed_frame; holds = is_no_frame } ∷
    record { refusal = broken_text; holds = is_broken_open } ∷
    record { refusal = name_given_before; holds = is_name_given_before } ∷
    record { refusal = bad_reference; holds = is_bad_reference } ∷
    record { refusal = repeated_key; holds = is_repeated_key } ∷
    []

unfoldable pub schema_open : SoFar → Schema
unfolding position same_text value_text count_of characters_open
schema_open so = record {
  predicates = so.predicates;
  value_field = position (same_text value_text) so.names;
  characters = map (λ s. count_of (characters_open s)) so.names;
  max_distance = so.max_distance;
  max_term_chars = so.max_term_chars;
}

unfoldable pub describe_open : SoFar → Form
unfolding schema_open
describe_open so = record { names = so.names; schema = schema_open so; queries = so.queries }

unfoldable pub at_end_open : SoFar → Option Kind → Reading
unfolding describe_open
at_end_open so None = refused misplaced_kind
at_end_open so (Some limits) = refused misplaced_kind
at_end_open so (Some name) = refused misplaced_kind
at_end_open so (Some schema_type) = refused misplaced_kind
at_end_open so (Some predicate) = refused misplaced_kind
at_end_open so (Some node) = refused misplaced_kind
at_end_open so (Some query) = described (describe_open so)

unfoldable pub read_from_open : SoFar → List Said → Reading
unfolding first_of conditions_open after at_end_open
read_from_open so [] = at_end_open so so.previous
read_from_open so (l ∷ ls) = elim (first_of conditions_open so l) [ Some r ↦ refused r | None ↦ read_from_open (after so l) ls ]

unfoldable pub reading_open : List ℕ → Reading
unfolding is_too_long read_from_open start said lines
reading_open file = elim (is_too_long file) [ true ↦ refused file_too_long | false ↦ read_from_open start (map (said wide) (lines file)) ]

unfoldable pub decide_open : List ℕ → ℕ → Decided
unfolding decide_read reading_open min_words
decide_open file words = elim (ltb words min_words) [ true ↦ turned_down work_too_short | false ↦ decide_read (reading_open file) ]

unfoldable pub outcome_open : List ℕ → ℕ → ℕ → Outcome
unfolding decide_open finish
outcome_open file words bytes = finish (decide_open file words) words bytes

-- ---- A file without such a value

-- no value from d800 to dfff in a text, on a line, in a file
abbrev pub NoSurrogate : List ℕ → Type 0
NoSurrogate s = HasSurrogate s → ⊥

abbrev pub NoSurrogateOn : Said → Type 0
NoSurrogateOn malformed = Unit {0}
NoSurrogateOn unknown_kind = Unit {0}
NoSurrogateOn (no_frame k) = Unit {0}
NoSurrogateOn (frames f) = All NoSurrogate (texts_of f)

abbrev pub NoSurrogateIn : List ℕ → Type 0
NoSurrogateIn file = All NoSurrogateOn (map (said wide) (lines file))
