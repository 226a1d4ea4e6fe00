-- The laws are not empty: each has a pair that meets its premises and that the law makes equal, and beside it, computed, a pair for each
-- premise left out that is not.
use mathlib.Core.Bool.{false}
use mathlib.Core.List.{List, [], ◌∷◌, ◌++◌}
use mathlib.Core.Logic.{◌≢◌}
use mathlib.Core.Path.{◌≡◌, refl, sym, ◌∙◌, ap}
use Prim.Native.Nat.{ℕ, ◌≤◌}
use native.Mathlib.Decide.{ℕ_discrete}
use native.Mathlib.Omega.{arith}
use lib.Dec.{eqb}
use lib.ListN.{length}
use borrow.Author.Tests.{eqb-false}
use Rattle.text.specs.Utf8.{Text, characters}
use Rattle.text.proofs.Grammar.{counts}
use Rattle.unification.specs.Ty.{leaf, Int}
use Rattle.unification.specs.Bindings as Bindings
use Rattle.unification.specs.Unify as Unify
use Rattle.format.specs.Bytes.{ascii, hex_line}
use Rattle.meaning.specs.Diag.{code_of, RejectFuzzyTerm, RejectValueShadowed, RejectNoValue}
use Rattle.format.specs.Frame.{wide}
use Rattle.format.specs.Lines.{position, lines}
use Rattle.format.specs.Conditions.{same_text, max_names, max_types, max_predicates, max_nodes, max_queries}
use Rattle.format.specs.File.{refused, described, reading_of, reading, value_text, max_file}
use Rattle.format.specs.Writing.{file_of, Writable}
use Rattle.format.specs.Content.{Content, frames_of, describes, Says}
use Rattle.format.specs.References.{shape_names, shape_types, shape_keys, optional, expr_names, expr_nodes, query_nodes}
use Rattle.format.specs.Sound.{nodes_named, LawfulQuery}
use Rattle.meaning.specs.Messages.{quoted, message_text, text_in}
use Rattle.meaning.specs.Check.{Typed, typed, exhausted, check}
use Rattle.format.specs.All.{All}
use Rattle.format.specs.SoFar.{said}
use Rattle.format.specs.Refusal.{name_given_before, answer_too_long}
use Rattle.meaning.specs.Outcome.{min_words, max_visits, Accepted, Refused, outcome}
use Rattle.laws.specs.Marks.{NoMark}
use Rattle.laws.specs.Names.{Renamed, lines_but, lines_beside, SameBeside, Fits}
use Rattle.laws.specs.Growth.{Grown, NoAbsent}
use Rattle.laws.specs.Examples.{all_codes, all_texts, one_compared, comparing, named, roomier, ab, accented, longer, short, value, each_name}
use Rattle.laws.specs.Examples.{asking, asking_grown, told, telling, before, grown, blackened}
use Rattle.unification.proofs.Tests.{clash}
use Rattle.format.proofs.Written.{are_lines}
use Rattle.format.proofs.Content.{says_exactly}
use Rattle.laws.proofs.Run.{more_visits_lem}
use Rattle.laws.proofs.Names.{answers, names_private}
use Rattle.laws.proofs.Growth.{Refers, grown_answers}
use Rattle.laws.proofs.Marks.{no_mark}
use Rattle.laws.proofs.Files.{private_files, grown_files}
use Rattle.std.specs.Prelude.{Some}

-- ---- Ceilings
abbrev three_ints : Typed
three_ints = record { tys = Some (leaf Int) ∷ Some (leaf Int) ∷ Some (leaf Int) ∷ []; diagnostics = []; unused = []; visits = 2 }

two_suffice : check 2 (describes comparing).schema one_compared ≡ typed three_ints
unfolding check code_of describes ℕ_discrete Bindings.fresh Bindings.fresh_id Bindings.annotate Bindings.snapshot Bindings.rollback Bindings.zonk Unify.unify
    Unify.orderable
two_suffice = refl

pub the_limit_too : check max_visits (describes comparing).schema one_compared ≡ typed three_ints
unfolding max_visits
the_limit_too = more_visits_lem (describes comparing).schema one_compared 2 max_visits three_ints (omega arith) two_suffice

one_is_too_few : check 1 (describes comparing).schema one_compared ≡ exhausted
unfolding check code_of describes ℕ_discrete Bindings.fresh Bindings.fresh_id Bindings.annotate Bindings.snapshot Bindings.rollback Bindings.zonk Unify.unify
    Unify.orderable
one_is_too_few = refl

-- ---- Names
renamed : Renamed (named (ab ∷ value ∷ [])) (named (accented ∷ value ∷ []))
unfolding characters position same_text value_text
renamed = record { only_names = refl; value = refl; terms = ((refl, (tt, (tt, (tt, tt)))), tt) }

pub renamed_alike : answers max_visits (named (ab ∷ value ∷ [])) ≡ answers max_visits (named (accented ∷ value ∷ []))
renamed_alike = names_private _ _ renamed max_visits

-- names of other lengths, of every node but a fuzzy term, and to a length that the limit of fuzzy terms does not allow
other_lengths : Renamed (each_name short) (each_name longer)
unfolding position same_text value_text
other_lengths = record { only_names = refl; value = refl; terms = ((tt, (tt, (tt, (tt, (tt, tt))))), tt) }

pub other_lengths_alike : answers max_visits (each_name short) ≡ answers max_visits (each_name longer)
other_lengths_alike = names_private _ _ other_lengths max_visits

both_codes : all_codes (answers 9 (named (ab ∷ value ∷ []))) ≡ (RejectFuzzyTerm ∷ RejectValueShadowed ∷ []) ∷ []
unfolding check code_of describes ℕ_discrete Bindings.fresh Bindings.fresh_id Bindings.annotate Bindings.snapshot Bindings.rollback Bindings.zonk Unify.unify
    Unify.orderable
both_codes = refl

-- another number of characters
other_length : all_codes (answers 9 (named (short ∷ value ∷ []))) ≡ (RejectValueShadowed ∷ []) ∷ []
unfolding check code_of describes ℕ_discrete Bindings.fresh Bindings.fresh_id Bindings.annotate Bindings.snapshot Bindings.rollback Bindings.zonk Unify.unify
    Unify.orderable
other_length = refl

-- no name is `value`
other_value : all_codes (answers 9 (named (ab ∷ short ∷ []))) ≡ (RejectFuzzyTerm ∷ []) ∷ []
unfolding check code_of describes ℕ_discrete Bindings.fresh Bindings.fresh_id Bindings.annotate Bindings.snapshot Bindings.rollback Bindings.zonk Unify.unify
    Unify.orderable
other_value = refl

-- more than names differ
other_limit : all_codes (answers 9 (roomier (named (ab ∷ value ∷ [])))) ≡ (RejectValueShadowed ∷ []) ∷ []
unfolding check code_of describes ℕ_discrete Bindings.fresh Bindings.fresh_id Bindings.annotate Bindings.snapshot Bindings.rollback Bindings.zonk Unify.unify
    Unify.orderable
other_limit = refl

-- ---- Growth
refers : Refers (asking 0)
unfolding shape_names optional expr_names
refers = record {
  type_names = (tt, ((omega arith, tt), (tt, tt)));
  predicate_names = (omega arith, tt);
  predicate_types = ((omega arith, tt), tt);
  node_names = ((tt, (tt, (tt, tt))), tt);
}

present : NoAbsent (asking 0)
present = record { types = (tt, (tt, (omega arith, tt))); nodes = ((tt, (omega arith, (tt, tt))), tt) }

pub grown_alike : answers max_visits (asking 0) ≡ answers max_visits (asking_grown 0)
grown_alike = grown_answers (asking 0) refers present _ _ _ max_visits

-- Nothing at all may be added too.
unchanged : Grown (asking 0) (asking 0)
unchanged = record { names = []; types = []; predicates = []; is = refl }

no_value_lem : all_codes (answers 9 (asking 0)) ≡ (RejectNoValue ∷ []) ∷ []
unfolding check code_of describes ℕ_discrete Bindings.fresh Bindings.fresh_id Bindings.annotate Bindings.snapshot Bindings.rollback Bindings.zonk Unify.unify
    Unify.orderable
no_value_lem = refl

-- a predicate that was absent
absent_before : all_codes (answers 9 (asking 1)) ≡ (RejectNoValue ∷ []) ∷ []
unfolding check code_of describes ℕ_discrete Bindings.fresh Bindings.fresh_id Bindings.annotate Bindings.snapshot Bindings.rollback Bindings.zonk Unify.unify
    Unify.orderable
absent_before = refl

there_after : all_codes (answers 9 (asking_grown 1)) ≡ (RejectValueShadowed ∷ []) ∷ []
unfolding check code_of describes ℕ_discrete Bindings.fresh Bindings.fresh_id Bindings.annotate Bindings.snapshot Bindings.rollback Bindings.zonk Unify.unify
    Unify.orderable
there_after = refl

-- ---- The files that hold these contents pass 2 to 10
old_file : reading (file_of wide (frames_of (asking 0))) ≡ described (describes (asking 0))
unfolding reading_of file_of frames_of describes
old_file = refl

named_file : reading (file_of wide (frames_of (named (ab ∷ value ∷ [])))) ≡ described (describes (named (ab ∷ value ∷ [])))
unfolding reading_of file_of frames_of describes
named_file = refl

new_file : reading (file_of wide (frames_of (asking_grown 0))) ≡ described (describes (asking_grown 0))
unfolding reading_of file_of frames_of describes
new_file = refl

-- ---- Messages with names

-- "expected .., found an integer" and ".. is not a field here"
abbrev both_texts : List ℕ → List ℕ → List (List (List ℕ))
both_texts fact field = ((ascii "expected " ++ (fact ++ ascii ", found an integer")) ∷ (field ++ ascii " is not a field here") ∷ []) ∷ []

abbrev pub file : Content → List ℕ
file c = file_of wide (frames_of c)

-- "`ab`" twice
with_names_lem : all_texts (text_in (describes (before 0))) (answers 9 (before 0)) ≡ both_texts (quoted ab) (quoted ab)
unfolding check describes message_text ℕ_discrete Bindings.fresh Bindings.fresh_id Bindings.annotate Bindings.snapshot Bindings.rollback Bindings.zonk
    Unify.unify Unify.orderable
with_names_lem = refl

other_names : all_texts (text_in (describes (blackened 0))) (answers 9 (blackened 0)) ≡ both_texts (quoted longer) (quoted longer)
unfolding check describes message_text ℕ_discrete Bindings.fresh Bindings.fresh_id Bindings.annotate Bindings.snapshot Bindings.rollback Bindings.zonk
    Unify.unify Unify.orderable
other_names = refl

-- A content that is no file's shows the mark, and a fact without its name.
without_names : all_texts (text_in (describes (telling [] 0))) (answers 9 (telling [] 0)) ≡ both_texts (ascii "a fact") (quoted (ascii "?"))
unfolding check describes message_text ℕ_discrete Bindings.fresh Bindings.fresh_id Bindings.annotate Bindings.snapshot Bindings.rollback Bindings.zonk
    Unify.unify Unify.orderable
without_names = refl

-- a predicate that was absent: its facts get a name
absent_text : all_texts (text_in (describes (before 1))) (answers 9 (before 1)) ≡ (ascii "expected a fact, found an integer" ∷ []) ∷ []
unfolding check describes message_text ℕ_discrete Bindings.fresh Bindings.fresh_id Bindings.annotate Bindings.snapshot Bindings.rollback Bindings.zonk
    Unify.unify Unify.orderable
absent_text = refl

there_text : all_texts (text_in (describes (grown 1))) (answers 9 (grown 1)) ≡ both_texts (quoted value) (quoted ab)
unfolding check describes message_text ℕ_discrete Bindings.fresh Bindings.fresh_id Bindings.annotate Bindings.snapshot Bindings.rollback Bindings.zonk
    Unify.unify Unify.orderable
there_text = refl

-- ---- Over files
unlike : {a b : ℕ} → eqb a b ≡ false → a ≢ b
unlike {a} {b} e = eqb-false a b e

other_length_of : {a b : List ℕ} → eqb (length a) (length b) ≡ false → a ≢ b
other_length_of {a} {b} e q = eqb-false (length a) (length b) e (ap length q)

told_lawful : (n : ℕ) → 1 ≤ n → LawfulQuery n (told 0)
unfolding max_nodes expr_names expr_nodes query_nodes nodes_named
told_lawful n h = record {
  nodes_max = omega arith;
  node_names = (tt, (tt, (tt, (tt, (tt, ((h, tt), tt))))));
  node_nodes = (tt, ((omega arith, tt), (tt, (tt, ((omega arith, tt), ((omega arith, tt), tt))))));
  query_below = (omega arith, (omega arith, (omega arith, tt)));
  once = (
    (unlike refl, (unlike refl, (unlike refl, (unlike refl, (unlike refl, tt))))),
    (
      (unlike refl, (unlike refl, (unlike refl, (unlike refl, tt)))),
      ((unlike refl, (unlike refl, (unlike refl, tt))), ((unlike refl, (unlike refl, tt)), ((unlike refl, tt), (tt, tt)))),
    ),
  );
}

text_of : (s : List ℕ) (n : ℕ) → characters s ≡ Some n → (m : ℕ) × Text s m
text_of s n e = (n, (counts s n).1 e)

says_telling : (t : List ℕ) (n : ℕ) → characters t ≡ Some n → t ≢ short → All (Writable wide) (frames_of (telling (t ∷ short ∷ []) 0))
    → length (file (telling (t ∷ short ∷ []) 0)) ≤ max_file → Says wide (file (telling (t ∷ short ∷ []) 0)) (describes (telling (t ∷ short ∷ []) 0))
unfolding characters max_names max_types max_predicates max_queries shape_names shape_types shape_keys optional
says_telling t n count new writable size = record {
  content = telling (t ∷ short ∷ []) 0;
  is = refl;
  size = size;
  lawful = record {
    names_max = omega arith;
    types_max = omega arith;
    predicates_max = omega arith;
    texts = (text_of t n count, (text_of short 1 refl, tt));
    distinct = ((new, tt), (tt, tt));
    type_names = (tt, ((omega arith, tt), tt));
    type_types = (tt, ((omega arith, tt), tt));
    type_keys = (tt, ((tt, tt), tt));
    predicate_names = (omega arith, tt);
    predicate_types = ((omega arith, tt), tt);
    queries = (told_lawful 2 (omega arith), tt);
    queries_min = omega arith;
    queries_max = omega arith;
    writable = writable;
  };
  tree = refl;
}

pub says_old : Says wide (file (before 0)) (describes (before 0))
unfolding characters max_file file_of frames_of lines said
says_old = says_telling ab 2 refl (other_length_of refl) (are_lines wide (lines (file (before 0))) (frames_of (before 0)) refl).writable (omega arith)

says_renamed : Says wide (file (blackened 0)) (describes (blackened 0))
unfolding characters max_file file_of frames_of lines said
says_renamed = says_telling longer 3 refl (other_length_of refl)
    (are_lines wide (lines (file (blackened 0))) (frames_of (blackened 0)) refl).writable (omega arith)

pub says_grown : Says wide (file (grown 0)) (describes (grown 0))
unfolding characters max_names max_types max_predicates max_queries shape_names shape_types shape_keys optional max_file file_of frames_of lines said
says_grown = record {
  content = grown 0;
  is = refl;
  size = omega arith;
  lawful = record {
    names_max = omega arith;
    types_max = omega arith;
    predicates_max = omega arith;
    texts = (text_of ab 2 refl, (text_of short 1 refl, (text_of value 5 refl, (text_of accented 2 refl, tt))));
    distinct = (
      (other_length_of refl, (other_length_of refl, (other_length_of refl, tt))),
      ((other_length_of refl, (other_length_of refl, tt)), ((other_length_of refl, tt), (tt, tt))),
    );
    type_names = (tt, ((omega arith, tt), ((omega arith, tt), ((omega arith, tt), tt))));
    type_types = (tt, ((omega arith, tt), ((omega arith, tt), ((omega arith, tt), tt))));
    type_keys = (tt, ((tt, tt), ((tt, tt), ((tt, tt), tt))));
    predicate_names = (omega arith, (omega arith, (omega arith, tt)));
    predicate_types = ((omega arith, tt), ((omega arith, tt), ((omega arith, (omega arith, tt)), tt)));
    queries = (told_lawful 4 (omega arith), tt);
    queries_min = omega arith;
    queries_max = omega arith;
    writable = (are_lines wide (lines (file (grown 0))) (frames_of (grown 0)) refl).writable;
  };
  tree = refl;
}

-- None of this file's messages (`with_names_lem`) has a mark.
pub told_without_mark : All (λ a. NoMark (describes (before 0)) (check max_visits (describes (before 0)).schema a)) (describes (before 0)).queries
told_without_mark = no_mark (file (before 0)) (describes (before 0)) ((says_exactly wide _ _).1 says_old)

-- The premises of card 14.
pub old_present : NoAbsent says_old.content
unfolding says_old says_telling
old_present = record { types = (tt, (tt, tt)); nodes = ((tt, (omega arith, (tt, (tt, (omega arith, (tt, tt)))))), tt) }

pub new_grown : Grown says_old.content says_grown.content
unfolding says_old says_telling says_grown
new_grown = record { names = _; types = _; predicates = _; is = refl }

-- Both messages, before and after.
pub grown_outcome : (words bytes : ℕ) → outcome (file (before 0)) words bytes ≡ outcome (file (grown 0)) words bytes
grown_outcome = grown_files _ _ _ _ says_old says_grown old_present new_grown

-- Both are answered, and their messages differ (`with_names_lem`, `other_names`).
fits : (t : List ℕ) → (outcome (file (telling (t ∷ short ∷ []) 0)) 16384 999).result ≡ Accepted → Fits (outcome (file (telling (t ∷ short ∷ []) 0)) 16384 999)
fits t e q = let z : Accepted ≡ Refused answer_too_long = sym e ∙ q in clash (cc)

old_answered : (outcome (file (before 0)) 16384 999).result ≡ Accepted
unfolding outcome check ℕ_discrete file_of frames_of Bindings.fresh Bindings.fresh_id Bindings.annotate Bindings.snapshot Bindings.rollback Bindings.zonk
    Unify.unify Unify.orderable
old_answered = refl

renamed_answered : (outcome (file (blackened 0)) 16384 999).result ≡ Accepted
unfolding outcome check ℕ_discrete file_of frames_of Bindings.fresh Bindings.fresh_id Bindings.annotate Bindings.snapshot Bindings.rollback Bindings.zonk
    Unify.unify Unify.orderable
renamed_answered = refl

pub renamed_outcome : SameBeside (outcome (file (before 0)) 16384 999) (outcome (file (blackened 0)) 16384 999)
unfolding position same_text value_text min_words says_renamed says_telling says_old
renamed_outcome =
    private_files _ _ _ _ says_old says_renamed (record { only_names = refl; value = refl; terms = ((tt, (tt, (tt, (tt, (tt, (tt, tt)))))), tt) })
    16384 999 16384 999 (omega arith) (omega arith)
    (fits ab old_answered) (fits longer renamed_answered)

-- A name that is given twice is no file's: the second file is not past 8.
given_twice : reading (file (telling (short ∷ short ∷ []) 0)) ≡ refused name_given_before
unfolding reading_of file_of frames_of
given_twice = refl

-- An answer slice that is large enough for one of the two alone.
old_just_fits : (outcome (file (before 0)) 16384 335).result ≡ Accepted
unfolding outcome check ℕ_discrete file_of frames_of Bindings.fresh Bindings.fresh_id Bindings.annotate Bindings.snapshot Bindings.rollback Bindings.zonk
    Unify.unify Unify.orderable
old_just_fits = refl

renamed_too_long : (outcome (file (blackened 0)) 16384 335).result ≡ Refused answer_too_long
unfolding outcome check ℕ_discrete file_of frames_of Bindings.fresh Bindings.fresh_id Bindings.annotate Bindings.snapshot Bindings.rollback Bindings.zonk
    Unify.unify Unify.orderable
renamed_too_long = refl

-- A message line is left out, and what follows the last LF; nothing else is.
one_left : lines_beside (hex_line (8 ∷ []) ++ (hex_line (0x0a ∷ ab) ++ (hex_line (0x0b ∷ []) ++ 0 ∷ 0 ∷ []))) ≡ ascii "08" ∷ ascii "0b" ∷ []
unfolding lines_but hex_line ascii
one_left = refl
