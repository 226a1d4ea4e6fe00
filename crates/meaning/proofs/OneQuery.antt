-- A file without a line after a 06 line has the outcome that it had before card 3.
use mathlib.Core.Bool.{false, not}
use mathlib.Core.List.{List, [], ◌∷◌, map}
use mathlib.Core.Logic.{◌≢◌}
use mathlib.Core.Path.{◌≡◌, refl, sym, ap, subst, ◌∙◌}
use Prim.Native.Nat.{ℕ}
use native.Mathlib.Omega.{arith}
use lib.Dec.{ltb}
use Rattle.format.specs.Syntax.{Ast}
use Rattle.format.specs.Schema.{Schema}
use Rattle.format.specs.Refusal.{Refusal}
use Rattle.format.specs.Lines.{lines}
use Rattle.format.specs.Frame.{wide, Kind, limits, name, schema_type, predicate, node, query, kind_byte, follows, may_stand, the_limits}
use Rattle.format.specs.Frame.{a_name, a_type, a_predicate, a_node, the_query, frame_kind}
use Rattle.format.specs.SoFar.{Said, malformed, unknown_kind, no_frame, frames, said, SoFar, start, add, after}
use Rattle.format.specs.Conditions.{is_misplaced, is_last_query_past, is_query_too_many, max_queries, Condition, conditions, first_of}
use Rattle.format.specs.File.{schema_of, describe, Reading, refused, described, at_end, read_from, is_too_long, reading_of, reading}
use Rattle.meaning.specs.Check.{Checked, typed, exhausted, check}
use Rattle.meaning.specs.Messages.{message_text}
use Rattle.meaning.specs.Answer.{form_lines}
use Rattle.meaning.specs.Outcome.{with_checked, run_all, decide_run, decide_read, decide, finish, outcome, min_words, max_visits}
use Rattle.meaning.specs.OneQuery.{SoFarBefore, start_before, add_before, after_before, as_now, may_stand_before, is_misplaced_before, conditions_before}
use Rattle.meaning.specs.OneQuery.{ReadingBefore, refused_before, described_before, describe_before, at_end_before, read_from_before, reading_before}
use Rattle.meaning.specs.OneQuery.{decide_checked_before, decide_read_before, decide_before, outcome_before, kind_in, QueryLast}
use Rattle.format.proofs.Tests.{cases}
use Rattle.format.proofs.Conditions.{passed}
use Rattle.format.proofs.Refused.{read_next}
use Rattle.std.specs.Prelude.{None, Option, Some}

-- ---- The conditions

keep : (c : Condition) (cs ds : List Condition) (so : SoFar) (l : Said) → first_of cs so l ≡ first_of ds so l → first_of (c ∷ cs) so l ≡ first_of (c ∷ ds) so l
unfolding first_of
keep c cs ds so l e = cases (c.holds so l) (λ q. rw (q, first_of)) (λ q. rw (q, first_of) e)

swap : (c d : Condition) (cs : List Condition) (so : SoFar) (l : Said) → c.refusal ≡ d.refusal → c.holds so l ≡ d.holds so l
    → first_of (c ∷ cs) so l ≡ first_of (d ∷ cs) so l
unfolding first_of
swap c d cs so l r h = cases (d.holds so l) (λ q. rw (h ∙ q, q, first_of) (ap Some r)) (λ q. rw (h ∙ q, q, first_of))

same_conditions : (so : SoFar) (l : Said) → is_misplaced so l ≡ is_misplaced_before so l → is_query_too_many so l ≡ false
    → first_of conditions so l ≡ first_of conditions_before so l
unfolding conditions conditions_before
same_conditions so l m q =
    keep _ _ _ so l
    (swap _ _ _ so l refl m
    ∙ keep _ _ _ so l
    (keep _ _ _ so l
    (passed _ _ so l q)))

-- No query has been read.
record Open (b : SoFarBefore) : Type 0 where
  query : b.query ≡ None
  previous : b.previous ≢ Some Kind.query

same_places : (o : Option Kind) (k : Kind) → o ≢ Some Kind.query → may_stand o k ≡ may_stand_before o k
unfolding may_stand may_stand_before follows kind_byte
same_places None k h = refl
same_places (Some limits) k h = refl
same_places (Some name) k h = refl
same_places (Some schema_type) k h = refl
same_places (Some predicate) k h = refl
same_places (Some node) k h = refl
same_places (Some query) k h = absurd (h refl)

same_misplaced : (b : SoFarBefore) (l : Said) → Open b → is_misplaced (as_now b) l ≡ is_misplaced_before (as_now b) l
unfolding is_misplaced is_misplaced_before as_now
same_misplaced b malformed o = refl
same_misplaced b unknown_kind o = refl
same_misplaced b (no_frame k) o = ap not (same_places b.previous k o.previous)
same_misplaced b (frames f) o = ap not (same_places b.previous (frame_kind f) o.previous)

no_queries : (b : SoFarBefore) (k : Kind) → is_last_query_past (as_now b) k ≡ false
unfolding is_last_query_past as_now max_queries
no_queries b limits = refl
no_queries b name = refl
no_queries b schema_type = refl
no_queries b predicate = refl
no_queries b node = refl
no_queries b query = refl

not_too_many : (b : SoFarBefore) (l : Said) → is_query_too_many (as_now b) l ≡ false
unfolding is_query_too_many
not_too_many b malformed = refl
not_too_many b unknown_kind = refl
not_too_many b (no_frame k) = no_queries b k
not_too_many b (frames f) = no_queries b (frame_kind f)

same_first : (b : SoFarBefore) (l : Said) → Open b → first_of conditions (as_now b) l ≡ first_of conditions_before (as_now b) l
same_first b l o = same_conditions (as_now b) l (same_misplaced b l o) (not_too_many b l)

-- ---- A line that is no 06 line

same_after : (b : SoFarBefore) (l : Said) → kind_in l ≢ Some Kind.query → after (as_now b) l ≡ as_now (after_before b l)
unfolding after after_before add add_before as_now frame_kind
same_after b malformed h = refl
same_after b unknown_kind h = refl
same_after b (no_frame k) h = refl
same_after b (frames (the_limits d t)) h = refl
same_after b (frames (a_name s)) h = refl
same_after b (frames (a_type t)) h = refl
same_after b (frames (a_predicate n k v)) h = refl
same_after b (frames (a_node n)) h = refl
same_after b (frames (the_query q)) h = absurd (h refl)

open_after : (b : SoFarBefore) (l : Said) → kind_in l ≢ Some Kind.query → Open b → Open (after_before b l)
unfolding after_before add_before frame_kind
open_after b malformed h o = o
open_after b unknown_kind h o = o
open_after b (no_frame k) h o = o
open_after b (frames (the_limits d t)) h o = record { query = o.query; previous = h }
open_after b (frames (a_name s)) h o = record { query = o.query; previous = h }
open_after b (frames (a_type t)) h o = record { query = o.query; previous = h }
open_after b (frames (a_predicate n k v)) h o = record { query = o.query; previous = h }
open_after b (frames (a_node n)) h o = record { query = o.query; previous = h }
open_after b (frames (the_query q)) h o = absurd (h refl)

-- ---- The end

-- Where no query was read, 4; where one was, its tree with the schema.
data Alike : Reading → ReadingBefore → Type 0 where
  both_refused : (i : Refusal) → Alike (refused i) (refused_before i)
  both_described : (names : List (List ℕ)) (schema : Schema) (ast : Ast)
      → Alike (described (record { names = names; schema = schema; queries = ast ∷ [] }))
      (described_before (record { names = names; schema = schema; ast = ast }))

not_ended : (b : SoFarBefore) → Open b → Alike (at_end (as_now b) b.previous) (at_end_before b b.query)
unfolding at_end at_end_before
not_ended b o = rw o.query (go b.previous o.previous)
  where
    go : (k : Option Kind) → k ≢ Some Kind.query → Alike (at_end (as_now b) k) (at_end_before b None)
    go None h = both_refused _
    go (Some limits) h = both_refused _
    go (Some name) h = both_refused _
    go (Some schema_type) h = both_refused _
    go (Some predicate) h = both_refused _
    go (Some node) h = both_refused _
    go (Some query) h = absurd (h refl)

last_line : (b : SoFarBefore) (l : Said) → Open b → Alike (read_from (after (as_now b) l) []) (read_from_before (after_before b l) [])
unfolding read_from read_from_before after after_before add add_before as_now at_end at_end_before describe describe_before schema_of
last_line b malformed o = not_ended b o
last_line b unknown_kind o = not_ended b o
last_line b (no_frame k) o = not_ended b o
last_line b (frames (the_limits d t)) o = rw o.query (both_refused _)
last_line b (frames (a_name s)) o = rw o.query (both_refused _)
last_line b (frames (a_type t)) o = rw o.query (both_refused _)
last_line b (frames (a_predicate n k v)) o = rw o.query (both_refused _)
last_line b (frames (a_node n)) o = rw o.query (both_refused _)
last_line b (frames (the_query q)) o = both_described b.names (schema_of (as_now b)) (record { nodes = b.nodes; query = q })

next_before : (b : SoFarBefore) (l : Said) (ls : List Said) → first_of conditions_before (as_now b) l ≡ None
    → read_from_before b (l ∷ ls) ≡ read_from_before (after_before b l) ls
unfolding read_from_before
next_before b l ls q = rw (q, read_from_before)

one_more : (b : SoFarBefore) (l : Said) (ls : List Said) → Open b → kind_in l ≢ Some Kind.query → first_of conditions_before (as_now b) l ≡ None
    → Alike (read_from (as_now (after_before b l)) ls) (read_from_before (after_before b l) ls)
    → Alike (read_from (as_now b) (l ∷ ls)) (read_from_before b (l ∷ ls))
one_more b l ls o h q ih =
    let now : read_from (as_now b) (l ∷ ls) ≡ read_from (as_now (after_before b l)) ls = read_next (as_now b) l ls (same_first b l o ∙ q) ∙ ap
    (λ so. read_from so ls) (same_after b l h) in
    subst (λ r. Alike r (read_from_before b (l ∷ ls))) (sym now)
    (subst (λ r. Alike (read_from (as_now (after_before b l)) ls) r) (sym (next_before b l ls q)) ih)

alike : (b : SoFarBefore) (ls : List Said) → Open b → QueryLast ls → Alike (read_from (as_now b) ls) (read_from_before b ls)
unfolding read_from read_from_before
alike b [] o h = not_ended b o
alike b (l ∷ []) o h = go (first_of conditions_before (as_now b) l) refl
  where
    go : (r : Option Refusal) → first_of conditions_before (as_now b) l ≡ r → Alike (read_from (as_now b) (l ∷ [])) (read_from_before b (l ∷ []))
    go (Some i) q = rw (same_first b l o ∙ q, q, read_from, read_from_before) (both_refused i)
    go None q = rw (same_first b l o ∙ q, q, read_from, read_from_before) (last_line b l o)
alike b (l ∷ m ∷ ls) o h = go (alike (after_before b l) (m ∷ ls) (open_after b l h.0 o) h.1) (first_of conditions_before (as_now b) l) refl
  where
    go : Alike (read_from (as_now (after_before b l)) (m ∷ ls)) (read_from_before (after_before b l) (m ∷ ls)) → (r : Option Refusal)
        → first_of conditions_before (as_now b) l ≡ r → Alike (read_from (as_now b) (l ∷ m ∷ ls)) (read_from_before b (l ∷ m ∷ ls))
    go ih (Some i) q = rw (same_first b l o ∙ q, q, read_from, read_from_before) (both_refused i)
    go ih None q = one_more b l (m ∷ ls) o h.0 q ih

-- ---- The file

alike_decided : {r : Reading} {s : ReadingBefore} → Alike r s → decide_read r ≡ decide_read_before s
unfolding decide_read decide_read_before decide_run with_checked run_all form_lines decide_checked_before
alike_decided (both_refused i) = refl
alike_decided (both_described names schema ast) = go (check max_visits schema ast)
  where
    go : (c : Checked) → decide_run (message_text names schema) (with_checked c (run_all schema [])) ≡ decide_checked_before (message_text names schema) c
    go exhausted = refl
    go (typed t) = refl

alike_files : (file : List ℕ) → QueryLast (map (said wide) (lines file)) → Alike (reading file) (reading_before file)
unfolding reading_of reading_before start start_before as_now
alike_files file h = cases (is_too_long file)
    (λ q. rw (q, reading_of, reading_before) (both_refused _))
    (λ q. rw (q, reading_of, reading_before) (alike start_before (map (said wide) (lines file)) (record { query = refl; previous = no_kind }) h))
  where
    no_kind : None ≢ Some Kind.query
    no_kind e = let z : ◌≡◌ {A = ℕ} 0 1 = cc in omega arith

pub decided_as_before : (file : List ℕ) (words : ℕ) → QueryLast (map (said wide) (lines file)) → decide file words ≡ decide_before file words
unfolding decide decide_before
decided_as_before file words h = cases (ltb words min_words)
    (λ q. rw (q, decide, decide_before))
    (λ q. rw (q, decide, decide_before) (alike_decided (alike_files file h)))

-- "A file with one 06, its last line, prints as before": both slices and the result, whatever is lent.
pub as_before : (file : List ℕ) (words bytes : ℕ) → QueryLast (map (said wide) (lines file)) → outcome file words bytes ≡ outcome_before file words bytes
unfolding outcome outcome_before
as_before file words bytes h = ap (λ d. finish d words bytes) (decided_as_before file words h)
