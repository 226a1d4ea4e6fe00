-- Card 2: a file that has no value from d800 to dfff is read and answered as before. Line after line the same condition holds first, and the
-- names read so far have none either, so that each counts the same characters.
use mathlib.Core.Bool.{Bool, true, false}
use mathlib.Core.List.{List, [], ◌∷◌, ◌++◌, map}
use mathlib.Core.Path.{◌≡◌, refl, ap, ◌∙◌}
use Prim.Native.Nat.{ℕ, ◌<◌, ◌≤◌}
use lib.Dec.{ltb}
use lib.ListN.{length}
use Rattle.text.specs.Utf8.{characters}
use Rattle.text.specs.Surrogates.{HasSurrogate, characters_open}
use Rattle.text.proofs.Surrogates.{kept, surrogate_no_text}
use Rattle.format.specs.All.{All}
use Rattle.format.specs.Refusal.{Refusal, malformed_line, misplaced_kind, too_many, malformed_frame, broken_text, name_given_before, bad_reference}
use Rattle.format.specs.Refusal.{repeated_key, too_many_queries}
use Rattle.format.specs.Frame.{wide, Kind, limits, name, schema_type, predicate, node, query, may_stand, the_limits, a_name, a_type, a_predicate}
use Rattle.format.specs.Frame.{a_node, the_query}
use Rattle.format.specs.References.{texts_of}
use Rattle.format.specs.Lines.{lines}
use Rattle.format.specs.SoFar.{Said, malformed, unknown_kind, no_frame, frames, said, SoFar, start, add, after}
use Rattle.format.specs.Conditions.{any_of, of_frame, broken, max_names, Condition, conditions, first_of, is_malformed, is_misplaced, is_one_too_many}
use Rattle.format.specs.Conditions.{is_query_too_many, is_no_frame, is_broken_text, is_name_given_before, is_bad_reference, is_repeated_key}
use Rattle.format.specs.File.{max_file, count_of, schema_of, describe, at_end, read_from, is_too_long, reading_of, reading}
use Rattle.meaning.specs.Outcome.{Refused, decide, min_words, outcome}
use Rattle.meaning.specs.Surrogates.{broken_open, is_broken_open, conditions_open, schema_open, describe_open, at_end_open, read_from_open, reading_open}
use Rattle.meaning.specs.Surrogates.{decide_open, outcome_open, NoSurrogate, NoSurrogateOn, NoSurrogateIn}
use Rattle.format.specs.Refused.{Pass}
use Rattle.format.proofs.Lists.{all_snoc}
use Rattle.meaning.proofs.Demands.{demand_1}
use Rattle.std.specs.Prelude.{None, Option, Some}

same_broken : (s : List ℕ) → NoSurrogate s → broken s ≡ broken_open s
unfolding broken broken_open
same_broken s w = go (characters_open s) refl
  where
    go : (o : Option ℕ) → characters_open s ≡ o → broken s ≡ broken_open s
    go None q = rw (kept s w ∙ q, q, broken, broken_open)
    go (Some n) q = rw (kept s w ∙ q, q, broken, broken_open)

same_any : (ts : List (List ℕ)) → All NoSurrogate ts → any_of broken ts ≡ any_of broken_open ts
unfolding any_of
same_any [] w = refl
same_any (s ∷ ts) w = go (same_any ts w.1) (broken_open s) refl
  where
    go : any_of broken ts ≡ any_of broken_open ts → (b : Bool) → broken_open s ≡ b → any_of broken (s ∷ ts) ≡ any_of broken_open (s ∷ ts)
    go ih true q = rw (same_broken s w.0, q, any_of)
    go ih false q = rw (same_broken s w.0, q, any_of) ih

same_text_lem : (so : SoFar) (l : Said) → NoSurrogateOn l → is_broken_text so l ≡ is_broken_open so l
unfolding is_broken_text is_broken_open of_frame
same_text_lem so malformed w = refl
same_text_lem so unknown_kind w = refl
same_text_lem so (no_frame k) w = refl
same_text_lem so (frames f) w = same_any (texts_of f) w

-- two lists of conditions that differ in one, on a line where the two say the same
same_among : (cs ds : List Condition) (r : Refusal) (p q : SoFar → Said → Bool) (so : SoFar) (l : Said) → p so l ≡ q so l
    → first_of (cs ++ record { refusal = r; holds = p } ∷ ds) so l ≡ first_of (cs ++ record { refusal = r; holds = q } ∷ ds) so l
unfolding first_of
same_among [] ds r p q so l e = go (q so l) refl
  where
    go : (b : Bool) → q so l ≡ b → first_of (record { refusal = r; holds = p } ∷ ds) so l ≡ first_of (record { refusal = r; holds = q } ∷ ds) so l
    go true h = rw (e, h, first_of)
    go false h = rw (e, h, first_of)
same_among (c ∷ cs) ds r p q so l e = ap (λ o. elim (c.holds so l) [ true ↦ Some c.refusal | false ↦ o ]) (same_among cs ds r p q so l e)

same_first : (so : SoFar) (l : Said) → NoSurrogateOn l → first_of conditions so l ≡ first_of conditions_open so l
unfolding conditions conditions_open
same_first so l w =
    same_among
    (record { refusal = malformed_line; holds = is_malformed } ∷
    record { refusal = misplaced_kind; holds = is_misplaced } ∷
    record { refusal = too_many; holds = is_one_too_many } ∷
    record { refusal = too_many_queries; holds = is_query_too_many } ∷
    record { refusal = malformed_frame; holds = is_no_frame } ∷
    [])
    (record { refusal = name_given_before; holds = is_name_given_before } ∷
    record { refusal = bad_reference; holds = is_bad_reference } ∷
    record { refusal = repeated_key; holds = is_repeated_key } ∷
    [])
    broken_text is_broken_text is_broken_open so l (same_text_lem so l w)

-- ---- The names read so far

names_after : (so : SoFar) (l : Said) → All NoSurrogate so.names → NoSurrogateOn l → All NoSurrogate (after so l).names
unfolding after add texts_of
names_after so malformed h w = h
names_after so unknown_kind h w = h
names_after so (no_frame k) h w = h
names_after so (frames (the_limits d t)) h w = h
names_after so (frames (a_name s)) h w = all_snoc NoSurrogate so.names s h w.0
names_after so (frames (a_type t)) h w = h
names_after so (frames (a_predicate n k v)) h w = h
names_after so (frames (a_node n)) h w = h
names_after so (frames (the_query q)) h w = h

same_counts : (ts : List (List ℕ)) → All NoSurrogate ts → map (λ s. count_of (characters s)) ts ≡ map (λ s. count_of (characters_open s)) ts
same_counts [] w = refl
same_counts (s ∷ ts) w =
    let first : count_of (characters s) ≡ count_of (characters_open s) = ap count_of (kept s w.0) in
    let more = same_counts ts w.1 in
    cc

same_end : (so : SoFar) (k : Option Kind) → All NoSurrogate so.names → at_end so k ≡ at_end_open so k
unfolding at_end at_end_open describe describe_open schema_of schema_open
same_end so None h = refl
same_end so (Some limits) h = refl
same_end so (Some name) h = refl
same_end so (Some schema_type) h = refl
same_end so (Some predicate) h = refl
same_end so (Some node) h = refl
same_end so (Some query) h = rw (same_counts so.names h)

-- ---- Line after line

same_from : (so : SoFar) (ls : List Said) → All NoSurrogate so.names → All NoSurrogateOn ls → read_from so ls ≡ read_from_open so ls
unfolding read_from read_from_open
same_from so [] h w = same_end so so.previous h
same_from so (l ∷ ls) h w = go (same_from (after so l) ls (names_after so l h w.0) w.1) (first_of conditions_open so l) refl
  where
    go : read_from (after so l) ls ≡ read_from_open (after so l) ls → (o : Option Refusal) → first_of conditions_open so l ≡ o
        → read_from so (l ∷ ls) ≡ read_from_open so (l ∷ ls)
    go ih None q = rw (same_first so l w.0 ∙ q, q, read_from, read_from_open) ih
    go ih (Some r) q = rw (same_first so l w.0 ∙ q, q, read_from, read_from_open)

pub reads_as_before : (file : List ℕ) → NoSurrogateIn file → reading file ≡ reading_open file
unfolding reading_of reading_open start
reads_as_before file w = go (is_too_long file) refl
  where
    go : (b : Bool) → is_too_long file ≡ b → reading file ≡ reading_open file
    go true q = rw (q, reading_of, reading_open)
    go false q = rw (q, reading_of, reading_open) (same_from start (map (said wide) (lines file)) tt w)

-- "Every file that has no such value answers as before": the outcome and both slices, for slices of any length.
pub answers_as_before : (file : List ℕ) (words bytes : ℕ) → NoSurrogateIn file → outcome file words bytes ≡ outcome_open file words bytes
unfolding outcome outcome_open decide decide_open
answers_as_before file words bytes w = go (ltb words min_words) refl
  where
    go : (b : Bool) → ltb words min_words ≡ b → outcome file words bytes ≡ outcome_open file words bytes
    go true q = rw (q, outcome, outcome_open, decide, decide_open)
    go false q = rw (q, reads_as_before file w, outcome, outcome_open, decide, decide_open)

-- "Such a text gets 7": lines that pass, and then a name that may stand there, with such a value in its text.
pub surrogate_gets_7 : (file : List ℕ) (words bytes : ℕ) → min_words ≤ words → length file ≤ max_file
    → (before rest : List Said) (s : List ℕ) (so : SoFar) → map (said wide) (lines file) ≡ before ++ frames (a_name s) ∷ rest → Pass start before so
    → may_stand so.previous Kind.name ≡ true → length so.names < max_names → HasSurrogate s → (outcome file words bytes).result ≡ Refused broken_text
surrogate_gets_7 file words bytes enough size before rest s so split pass placed room h =
    (demand_1 file words bytes).text_refused.1 (
      enough,
      record {
        size = size;
        before = before;
        text = s;
        rest = rest;
        read = so;
        split = split;
        pass = pass;
        placed = placed;
        room = room;
        broken = surrogate_no_text s h;
      },
    )
