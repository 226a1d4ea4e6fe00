-- The reasons for which a file is turned down: the table of document 01, "When a file is turned down", with its numbers.
use Rattle.std.specs.Prelude.{ℕ}

pub data Refusal : Type 0 where
  work_too_short file_too_long malformed_line misplaced_kind too_many malformed_frame : Refusal
  broken_text name_given_before bad_reference repeated_key too_many_visits answer_too_long : Refusal
  -- card 3
  too_many_queries : Refusal
  -- card 6, by a converter alone
  number_too_wide : Refusal
  -- cards 7 and 8
  tally_too_large ceiling_passed outside_the_rules : Refusal

unfoldable pub number : Refusal → ℕ
number work_too_short = 1
number file_too_long = 2
number malformed_line = 3
number misplaced_kind = 4
number too_many = 5
number malformed_frame = 6
number broken_text = 7
number name_given_before = 8
number bad_reference = 9
number repeated_key = 10
number too_many_visits = 11
number answer_too_long = 12
number too_many_queries = 13
number number_too_wide = 14
number tally_too_large = 15
number ceiling_passed = 16
number outside_the_rules = 17
