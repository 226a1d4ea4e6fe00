-- Card 3: the file of one query alone passes, and the answer of a form is made of the answers of these files.
use mathlib.Core.Bool.{true, false}
use mathlib.Core.List.{List, [], ◌∷◌, ◌++◌, map, flat_map, append-nil, append_assoc}
use mathlib.Core.Logic.{inl, inr, ◌≢◌, ◌↔◌}
use mathlib.Core.Path.{◌≡◌, refl, sym, ap, ◌∙◌}
use Prim.Native.Nat.{ℕ, suc, ◌+◌, ◌≤◌}
use native.Mathlib.Omega.{arith}
use lib.Dec.{ltb}
use lib.ListN.{length, length-append}
use borrow.Author.Tests.{ltb-true}
use Rattle.format.specs.Syntax.{Ast}
use Rattle.format.specs.Schema.{Schema}
use Rattle.format.specs.Refusal.{Refusal, work_too_short, too_many_visits}
use Rattle.format.specs.Frame.{Edition, wide, Frame}
use Rattle.format.specs.Conditions.{max_queries}
use Rattle.format.specs.File.{described, reading, max_file}
use Rattle.format.specs.All.{All, Any, Each}
use Rattle.meaning.specs.Check.{Typed, check}
use Rattle.meaning.specs.Diag.{Message}
use Rattle.meaning.specs.Messages.{text_in}
use Rattle.format.specs.Bytes.{bytes₂, hex_line}
use Rattle.meaning.specs.Answer.{answer_lines, numbered, form_lines}
use Rattle.format.specs.Writing.{file_of, written, Writable}
use Rattle.format.specs.Content.{Content, query_frames, schema_frames, frames_of, Lawful, describes}
use Rattle.format.specs.Sound.{LawfulQuery}
use Rattle.meaning.specs.Outcome.{Decided, turned_down, answered, with_checked, run_all, decide_run, decide_read, decide, min_words, max_visits}
use Rattle.meaning.specs.Alone.{alone, file_alone, joined, Apart}
use Rattle.format.proofs.Lists.{all_append, all_left, all_right, all_map}
use Rattle.format.proofs.Tests.{cases}
use Rattle.meaning.proofs.Forms.{Ran, RanOut, Runs, all_ran, one_out, runs}
use Rattle.format.proofs.Content.{says_exactly}
use Rattle.meaning.proofs.Demands.{short_decides}
use Rattle.std.specs.Prelude.{Option, Some}

-- ---- The file of one query alone passes

pub file_append : (e : Edition) (fs gs : List Frame) → file_of e (fs ++ gs) ≡ file_of e fs ++ file_of e gs
unfolding file_of flat_map
file_append e [] gs = refl
file_append e (f ∷ fs) gs =
    ap (λ s. hex_line (written e f) ++ s) (file_append e fs gs) ∙ sym (append_assoc (hex_line (written e f)) (file_of e fs) (file_of e gs))

-- The lines of a form are those of its schema and then those of each query; the file of one alone has the first and its own.
pub form_lines_lem : (c : Content) → file_of wide (frames_of c) ≡ file_of wide (schema_frames c) ++ file_of wide (flat_map query_frames c.queries)
unfolding frames_of
form_lines_lem c = file_append wide (schema_frames c) (flat_map query_frames c.queries)

pub alone_lines : (c : Content) (a : Ast) → file_alone c a ≡ file_of wide (schema_frames c) ++ file_of wide (query_frames a)
unfolding file_alone alone frames_of schema_frames flat_map
alone_lines c a = ap (λ l. file_of wide (schema_frames c ++ l)) (append-nil (query_frames a)) ∙ file_append wide (schema_frames c) (query_frames a)

abbrev Short : ℕ → Ast → Type 0
Short n a = length (file_of wide (query_frames a)) ≤ n

short_queries : (qs : List Ast) → All (Short (length (file_of wide (flat_map query_frames qs)))) qs
unfolding flat_map
short_queries [] = tt
short_queries (a ∷ qs) =
    let whole : length (file_of wide (query_frames a ++ flat_map query_frames qs)) ≡ length (file_of wide (query_frames a)) + length
    (file_of wide (flat_map query_frames qs)) = ap length (file_append wide (query_frames a) (flat_map query_frames qs)) ∙ length-append
    (file_of wide (query_frames a)) (file_of wide (flat_map query_frames qs)) in (
      omega (arith, whole),
      all_map (Short (length (file_of wide (flat_map query_frames qs))))
          (Short (length (file_of wide (query_frames a ++ flat_map query_frames qs)))) qs (λ b h. omega (arith, whole, h)) (short_queries qs),
    )

writable_queries : (qs : List Ast) → All (Writable wide) (flat_map query_frames qs) → All (λ a. All (Writable wide) (query_frames a)) qs
unfolding flat_map
writable_queries [] w = tt
writable_queries (a ∷ qs) w = (
  all_left (Writable wide) (query_frames a) (flat_map query_frames qs) w,
  writable_queries qs (all_right (Writable wide) (query_frames a) (flat_map query_frames qs) w),
)

-- The same names, types and predicates, with other queries or in the other edition.
pub lawful_with : {from to : Edition} (c : Content) (qs : List Ast) → Lawful from c → All (LawfulQuery (length c.names)) qs → 1 ≤ length qs
    → length qs ≤ max_queries → All (Writable to) (frames_of (record c { queries = qs })) → Lawful to (record c { queries = qs })
lawful_with c qs h queries min max w = record {
  names_max = h.names_max;
  types_max = h.types_max;
  predicates_max = h.predicates_max;
  texts = h.texts;
  distinct = h.distinct;
  type_names = h.type_names;
  type_types = h.type_types;
  type_keys = h.type_keys;
  predicate_names = h.predicate_names;
  predicate_types = h.predicate_types;
  queries = queries;
  queries_min = min;
  queries_max = max;
  writable = w;
}

lawful_alone : (c : Content) (a : Ast) → Lawful wide c → LawfulQuery (length c.names) a → All (Writable wide) (query_frames a) → Lawful wide (alone c a)
unfolding alone frames_of schema_frames flat_map max_queries
lawful_alone c a h q w = lawful_with c (a ∷ []) h (q, tt) (omega arith) (omega arith)
    (all_append (Writable wide) (schema_frames c) (query_frames a ++ [])
    (all_left (Writable wide) (schema_frames c) (flat_map query_frames c.queries) h.writable) (rw append-nil w))

-- "the answer of a file with that query alone": that file passes 1 to 10 and 13
pub alone_passes : (c : Content) → Lawful wide c → length (file_of wide (frames_of c)) ≤ max_file
    → All (λ a. reading (file_alone c a) ≡ described (describes (alone c a))) c.queries
unfolding frames_of file_alone
alone_passes c h size = go c.queries h.queries
    (writable_queries c.queries (all_right (Writable wide) (schema_frames c) (flat_map query_frames c.queries) frames)) (short_queries c.queries)
  where
    frames : All (Writable wide) (schema_frames c ++ flat_map query_frames c.queries)
    frames = h.writable

    n : ℕ
    n = length (file_of wide (flat_map query_frames c.queries))

    whole : length (file_of wide (frames_of c)) ≡ length (file_of wide (schema_frames c)) + n
    whole = ap length (form_lines_lem c) ∙ length-append (file_of wide (schema_frames c)) (file_of wide (flat_map query_frames c.queries))

    one : (a : Ast) → LawfulQuery (length c.names) a → All (Writable wide) (query_frames a) → Short n a
        → reading (file_alone c a) ≡ described (describes (alone c a))
    one a q w s =
        let part : length (file_alone c a) ≡ length (file_of wide (schema_frames c)) + length (file_of wide (query_frames a)) = ap length (alone_lines c a)
        ∙ length-append (file_of wide (schema_frames c)) (file_of wide (query_frames a)) in
        (says_exactly wide (file_alone c a) (describes (alone c a))).1
        (record { content = alone c a; is = refl; size = omega (arith, part, whole, s, size); lawful = lawful_alone c a h q w; tree = refl })

    go : (qs : List Ast) → All (LawfulQuery (length c.names)) qs → All (λ a. All (Writable wide) (query_frames a)) qs → All (Short n) qs
        → All (λ a. reading (file_alone c a) ≡ described (describes (alone c a))) qs
    go [] l w s = tt
    go (a ∷ qs) l w s = (one a l.0 w.0 s.0, go qs l.1 w.1 s.1)

-- ---- The answers

module _ (c : Content) (words : ℕ) (enough : ltb words min_words ≡ false) where
  schema : Schema
  schema = (describes c).schema

  text : Message → List ℕ
  text = text_in (describes c)

  -- the file alone is decided by its query's run
  one_decided : (a : Ast) → reading (file_alone c a) ≡ described (describes (alone c a))
      → decide (file_alone c a) words ≡ decide_run text (with_checked (check max_visits schema a) (Some []))
  unfolding decide schema text describes alone run_all
  one_decided a p = rw (enough, decide, p)

  one_answered : (a : Ast) (t : Typed) → reading (file_alone c a) ≡ described (describes (alone c a)) → Ran schema a t
      → decide (file_alone c a) words ≡ answered (answer_lines text t)
  unfolding with_checked decide_run form_lines
  one_answered a t p q = one_decided a p ∙ ap (λ x. decide_run text (with_checked x (Some []))) q

  one_ran_out : (a : Ast) → reading (file_alone c a) ≡ described (describes (alone c a)) → RanOut schema a
      → decide (file_alone c a) words ≡ turned_down too_many_visits
  unfolding with_checked decide_run
  one_ran_out a p q = one_decided a p ∙ ap (λ x. decide_run text (with_checked x (Some []))) q

  each_answered : (qs : List Ast) (ts : List Typed) → All (λ a. reading (file_alone c a) ≡ described (describes (alone c a))) qs
      → Each (Ran schema) qs ts → Each (λ a l. decide (file_alone c a) words ≡ answered l) qs (map (answer_lines text) ts)
  each_answered [] [] p e = tt
  each_answered [] (t ∷ ts) p e = e
  each_answered (a ∷ qs) [] p e = e
  each_answered (a ∷ qs) (t ∷ ts) p e = (one_answered a t p.0 e.0, each_answered qs ts p.1 e.1)

  any_ran_out : (qs : List Ast) → All (λ a. reading (file_alone c a) ≡ described (describes (alone c a))) qs → Any (RanOut schema) qs
      → Any (λ a. decide (file_alone c a) words ≡ turned_down too_many_visits) qs
  any_ran_out [] p e = e
  any_ran_out (a ∷ qs) p (inl q) = inl (one_ran_out a p.0 q)
  any_ran_out (a ∷ qs) p (inr e) = inr (any_ran_out qs p.1 e)

clashing : {ls : List ℕ} {r : Refusal} → answered ls ≡ turned_down r → ⊥
clashing e = let z : ◌≡◌ {A = ℕ} 0 1 = cc in omega arith

-- no file is both answered and turned down
not_both : {A : Type 0} (R : A → Decided) (qs : List A) (ls : List (List ℕ)) → Each (λ a l. R a ≡ answered l) qs ls
    → Any (λ a. R a ≡ turned_down too_many_visits) qs → ⊥
not_both R [] ls e a = a
not_both R (q ∷ qs) [] e a = e
not_both R (q ∷ qs) (l ∷ ls) e (inl x) = clashing (sym e.0 ∙ x)
not_both R (q ∷ qs) (l ∷ ls) e (inr a) = not_both R qs ls e.1 a

module _ (text : Message → List ℕ) where
  numbered_joined : (k : ℕ) (ts : List Typed) → numbered text k ts ≡ joined k (map (answer_lines text) ts)
  unfolding numbered joined
  numbered_joined k [] = refl
  numbered_joined k (t ∷ ts) = ap (λ s. hex_line (0x0b ∷ bytes₂ k) ++ (answer_lines text t ++ s)) (numbered_joined (suc k) ts)

  form_joined : (schema : Schema) (qs : List Ast) (ts : List Typed) → 2 ≤ length qs → Each (Ran schema) qs ts
      → form_lines text ts ≡ joined 0 (map (answer_lines text) ts)
  unfolding form_lines
  form_joined schema [] ts h e = absurd (omega arith)
  form_joined schema (a ∷ []) ts h e = absurd (omega arith)
  form_joined schema (a ∷ b ∷ qs) [] h e = absurd e
  form_joined schema (a ∷ b ∷ qs) (t ∷ []) h e = absurd e.1
  form_joined schema (a ∷ b ∷ qs) (t ∷ u ∷ ts) h e = numbered_joined 0 (t ∷ u ∷ ts)

-- ---- The theorems, of a lawful content and the file that it is written as

module _ (c : Content) (lawful : Lawful wide c) (size : length (file_of wide (frames_of c)) ≤ max_file) (words : ℕ) where
  is_read : reading (file_of wide (frames_of c)) ≡ described (describes c)
  is_read = (says_exactly wide (file_of wide (frames_of c)) (describes c)).1 (record { content = c; is = refl; size = size; lawful = lawful; tree = refl })

  is_decided : ltb words min_words ≡ false → decide (file_of wide (frames_of c)) words ≡ decide_run (text_in (describes c))
      (run_all (describes c).schema c.queries)
  unfolding decide decide_read describes
  is_decided q = rw (q, decide) (ap decide_read is_read)

  lent : (d : Decided) → decide (file_of wide (frames_of c)) words ≡ d → d ≢ turned_down work_too_short → ltb words min_words ≡ false
  unfolding decide
  lent d e n = cases (ltb words min_words) (λ q. absurd (n (sym e ∙ rw (q, decide)))) (λ q. q)

  -- "the lines after it equal the answer of a file with that query alone"
  pub apart : (whole : List ℕ) → 2 ≤ length c.queries → decide (file_of wide (frames_of c)) words ≡ answered whole → Apart c words whole
  unfolding decide_run schema text
  apart whole h e = go (runs (describes c).schema c.queries) (sym (is_decided enough) ∙ e)
    where
      enough : ltb words min_words ≡ false
      enough = lent (answered whole) e clashing

      go : {o : Option (List Typed)} → Runs (describes c).schema c.queries o → decide_run (text_in (describes c)) o ≡ answered whole → Apart c words whole
      go (one_out x) q = absurd (clashing (sym q))
      go (all_ran ts x) q =
          let same : whole ≡ form_lines (text_in (describes c)) ts = cc in
          record {
            answers = map (answer_lines (text_in (describes c))) ts;
            each = each_answered c words enough c.queries ts (alone_passes c lawful size) x;
            is = same ∙ form_joined (text_in (describes c)) (describes c).schema c.queries ts h x;
          }

  -- 11 exactly where one of the files alone gets 11
  pub ran_out : (decide (file_of wide (frames_of c)) words ≡ turned_down too_many_visits) ↔ Any
      (λ a. decide (file_alone c a) words ≡ turned_down too_many_visits) c.queries
  unfolding decide decide_run schema text
  ran_out = (λ e. forth e, λ a. back a)
    where
      not_short : turned_down too_many_visits ≢ turned_down work_too_short
      not_short e = let z : ◌≡◌ {A = ℕ} 0 1 = cc in omega arith

      forth : decide (file_of wide (frames_of c)) words ≡ turned_down too_many_visits
          → Any (λ a. decide (file_alone c a) words ≡ turned_down too_many_visits) c.queries
      forth e = go (lent _ e not_short) (runs (describes c).schema c.queries) (sym (is_decided (lent _ e not_short)) ∙ e)
        where
          go : ltb words min_words ≡ false → {o : Option (List Typed)} → Runs (describes c).schema c.queries o
              → decide_run (text_in (describes c)) o ≡ turned_down too_many_visits
              → Any (λ a. decide (file_alone c a) words ≡ turned_down too_many_visits) c.queries
          go n (one_out x) q = any_ran_out c words n c.queries (alone_passes c lawful size) x
          go n (all_ran ts x) q = absurd (clashing q)

      back : Any (λ a. decide (file_alone c a) words ≡ turned_down too_many_visits) c.queries
          → decide (file_of wide (frames_of c)) words ≡ turned_down too_many_visits
      back a = cases (ltb words min_words) (λ q. absurd (short_all q c.queries a)) (λ q. is_decided q ∙ go q (runs (describes c).schema c.queries))
        where
          short_all : ltb words min_words ≡ true → (qs : List Ast) → Any (λ a. decide (file_alone c a) words ≡ turned_down too_many_visits) qs → ⊥
          short_all q [] x = x
          short_all q (b ∷ qs) (inl x) = not_short (sym x ∙ short_decides (file_alone c b) words (ltb-true words min_words q))
          short_all q (b ∷ qs) (inr x) = short_all q qs x

          go : ltb words min_words ≡ false → {o : Option (List Typed)} → Runs (describes c).schema c.queries o
              → decide_run (text_in (describes c)) o ≡ turned_down too_many_visits
          go n (one_out x) = refl
          go n (all_ran ts x) = absurd (not_both (λ b. decide (file_alone c b) words) c.queries (map (answer_lines (text_in (describes c))) ts)
              (each_answered c words n c.queries ts (alone_passes c lawful size) x) a)
