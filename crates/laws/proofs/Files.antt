-- The same over files past 1 to 10 and 13: what they are answered, and the outcome in both slices.
use mathlib.Core.Bool.{Bool, true, false}
use mathlib.Core.List.{List, [], ◌∷◌, map}
use mathlib.Core.Path.{◌≡◌, refl, sym, ◌∙◌, ap}
use Prim.Native.Nat.{ℕ, ◌-◌, ◌≤◌}
use lib.Dec.{ltb}
use lib.ListN.{length}
use borrow.Author.Tests.{le-ltb, ltb-true, ltb-false}
use Rattle.format.specs.All.{All, Each}
use Rattle.format.specs.Syntax.{Ast}
use Rattle.format.specs.Schema.{Schema}
use Rattle.format.specs.Frame.{wide}
use Rattle.format.specs.File.{Form, described, reading}
use Rattle.format.specs.Frame.{TypeShape}
use Rattle.meaning.specs.Diag.{Message}
use Rattle.format.specs.Content.{PredicateFrame, Content, Lawful, Says, describes}
use Rattle.meaning.specs.Messages.{text_in}
use Rattle.meaning.specs.Answer.{form_lines}
use Rattle.meaning.specs.Check.{Typed, Checked, typed, exhausted, check}
use Rattle.meaning.specs.Outcome.{min_words, max_visits, answered, with_checked, run_all, decide_run, decide_read, decide, refuse, accept, finish}
use Rattle.meaning.specs.Outcome.{outcome}
use Rattle.format.proofs.Lists.{all_map}
use Rattle.format.proofs.Tests.{cases}
use Rattle.format.proofs.Content.{says_exactly}
use Rattle.meaning.proofs.Demands.{short_decides}
use Rattle.meaning.proofs.Forms.{Ran, each_ran}
use Rattle.laws.specs.Over.{Language, MessageOver, CheckedOver}
use Rattle.laws.specs.Names.{Renamed, lines_but, SameBeside, Fits}
use Rattle.laws.specs.Growth.{grow, Grown, spoken, NoAbsent}
use Rattle.laws.proofs.Run.{more_visits_lem}
use Rattle.laws.proofs.Names.{answers, names_private}
use Rattle.laws.proofs.Texts.{RunsAlike, decide_same}
use Rattle.laws.proofs.Beside.{same_form, no_lines}
use Rattle.laws.proofs.Growth.{lawful_refers, grown_answers, grown_over, grown_texts}
use Rattle.std.specs.Prelude.{None, Option, Some}

-- The answers of all queries, none where one was stopped.
abbrev together : List Checked → Option (List Typed)
together [] = Some []
together (x ∷ xs) = with_checked x (together xs)

runs_together : (schema : Schema) (qs : List Ast) → run_all schema qs ≡ together (map (λ (a : Ast). check max_visits schema a) qs)
unfolding run_all
runs_together schema [] = refl
runs_together schema (a ∷ qs) = ap (with_checked (check max_visits schema a)) (runs_together schema qs)

-- A file's runs are those of its content.
runs_of : (file : List ℕ) (f : Form) (says : Says wide file f) → run_all f.schema f.queries ≡ together (answers max_visits says.content)
unfolding describes
runs_of file f says =
    ap (λ (x : Form). run_all x.schema x.queries) says.tree
    ∙ runs_together (describes says.content).schema says.content.queries

-- Card 8. Where every query is answered within a ceiling of its own that is no higher than the limit, these are the answers of the whole
-- call. (What is stopped at its ceiling: `more_needed` in Run.antt.)
abbrev pub Within : Schema → Ast → Typed → Type 0
Within schema a t = (c : ℕ) × (c ≤ max_visits) × (check c schema a ≡ typed t)

each_within : (schema : Schema) (qs : List Ast) (ts : List Typed) → Each (Within schema) qs ts → Each (Ran schema) qs ts
each_within schema [] [] h = tt
each_within schema [] (t ∷ ts) h = absurd h
each_within schema (a ∷ qs) [] h = absurd h
each_within schema (a ∷ qs) (t ∷ ts) h = (more_visits_lem schema a h.0.0 max_visits t h.0.1 h.0.2, each_within schema qs ts h.1)

pub lower_ceiling : (file : List ℕ) (f : Form) → reading file ≡ described f → (ts : List Typed) → Each (Within f.schema) f.queries ts
    → (words : ℕ) → ltb words min_words ≡ false → decide file words ≡ answered (form_lines (text_in f) ts)
unfolding decide decide_read decide_run
lower_ceiling file f read ts h words enough =
    rw (enough, decide) (ap decide_read read ∙ ap (decide_run (text_in f)) (each_ran f.schema f.queries ts (each_within f.schema f.queries ts h)))

-- ---- The call, on a file past 1 to 10 and 13
long_enough : (file : List ℕ) (f : Form) → Says wide file f → (words : ℕ) → min_words ≤ words → decide file words ≡ decide_read (described f)
unfolding decide
long_enough file f says words l = rw (le-ltb words min_words l, decide) (ap decide_read ((says_exactly wide file f).1 says))

-- ---- Card 10

-- The same types, diagnostics (in numbers and types) and visits of every query, or both get 11.
pub private_runs : (f g : List ℕ) (d e : Form) (p : Says wide f d) (q : Says wide g e) → Renamed p.content q.content
    → run_all d.schema d.queries ≡ run_all e.schema e.queries
private_runs f g d e p q h = runs_of f d p ∙ ap together (names_private p.content q.content h max_visits) ∙ sym (runs_of g e q)

-- So the same is decided, in whatever way messages are written.
pub private_decisions : (f g : List ℕ) (d e : Form) (p : Says wide f d) (q : Says wide g e) → Renamed p.content q.content
    → (text : Message → List ℕ) → decide_run text (run_all d.schema d.queries) ≡ decide_run text (run_all e.schema e.queries)
private_decisions f g d e p q h text = ap (decide_run text) (private_runs f g d e p q h)

module _ (text text' : Message → List ℕ) (words bytes words' bytes' : ℕ) where
  -- Two answers that differ in their texts alone, where both fit.
  both_fit : (ts : List Typed) (x y : Bool) → ltb bytes (length (form_lines text ts)) ≡ x → ltb bytes' (length (form_lines text' ts)) ≡ y
      → Fits (finish (answered (form_lines text ts)) words bytes) → Fits (finish (answered (form_lines text' ts)) words' bytes')
      → SameBeside (finish (answered (form_lines text ts)) words bytes) (finish (answered (form_lines text' ts)) words' bytes')
  unfolding finish refuse accept
  both_fit ts true y p q h i = absurd (h (rw (p, finish)))
  both_fit ts false true p q h i = absurd (i (rw (q, finish)))
  both_fit ts false false p q h i = rw (p, q, finish) (record {
    result = refl;
    answer = (same_form text text' ts).before _ _ (no_lines (bytes - length (form_lines text ts)) ∙ sym (no_lines (bytes' - length (form_lines text' ts))));
  })

  decided_beside : (o : Option (List Typed)) → Fits (finish (decide_run text o) words bytes) → Fits (finish (decide_run text' o) words' bytes')
      → SameBeside (finish (decide_run text o) words bytes) (finish (decide_run text' o) words' bytes')
  unfolding decide_run finish refuse lines_but
  decided_beside None h i = record { result = refl; answer = no_lines bytes ∙ sym (no_lines bytes') }
  decided_beside (Some ts) h i = both_fit ts _ _ refl refl h i

-- The same result and the same lines but for message lines, where each answer slice is large enough.
pub private_files : (f g : List ℕ) (d e : Form) (p : Says wide f d) (q : Says wide g e) → Renamed p.content q.content
    → (words bytes words' bytes' : ℕ) → min_words ≤ words → min_words ≤ words' → Fits (outcome f words bytes) → Fits (outcome g words' bytes')
    → SameBeside (outcome f words bytes) (outcome g words' bytes')
unfolding outcome decide_read
private_files f g d e p q r words bytes words' bytes' l l' h i =
    let o = run_all e.schema e.queries in
    let first : outcome f words bytes ≡ finish (decide_run (text_in d) o) words bytes =
    ap (λ x. finish x words bytes) (long_enough f d p words l ∙ private_decisions f g d e p q r (text_in d)) in
    let second : outcome g words' bytes' ≡ finish (decide_run (text_in e) o) words' bytes' = ap (λ x. finish x words' bytes') (long_enough g e q words' l') in
    rw (first, second) (decided_beside (text_in d) (text_in e) words bytes words' bytes' o (rw first at h) (rw second at i))

-- ---- Card 14

runs_alike : (L : Language) (text text' : Message → List ℕ) → ((m : Message) → MessageOver L m → text m ≡ text' m) → (schema : Schema) (qs : List Ast)
    → All (λ a. CheckedOver L (check max_visits schema a)) qs → RunsAlike text text' (run_all schema qs)
unfolding run_all with_checked
runs_alike L text text' same schema [] h = tt
runs_alike L text text' same schema (a ∷ qs) h = go (check max_visits schema a) h.0 (run_all schema qs) (runs_alike L text text' same schema qs h.1)
  where
    go : (c : Checked) → CheckedOver L c → (o : Option (List Typed)) → RunsAlike text text' o → RunsAlike text text' (with_checked c o)
    go exhausted i o j = tt
    go (typed t) i None j = tt
    go (typed t) i (Some ts) j = (all_map (λ d. MessageOver L d.message) _ t.diagnostics (λ d k. same d.message k) i, j)

module _ (c : Content) (l : Lawful wide c) (n : NoAbsent c) (names : List (List ℕ)) (types : List TypeShape) (predicates : List PredicateFrame) where
  decided_grown : decide_read (described (describes c)) ≡ decide_read (described (describes (grow c names types predicates)))
  unfolding decide_read describes
  decided_grown =
      let r = lawful_refers c l in
      let old = describes c in
      let new = describes (grow c names types predicates) in
      let same = grown_answers c r n names types predicates max_visits in
      let over = grown_over c r n names types predicates max_visits in
      let texts = grown_texts c r n names types predicates in
      ap (decide_run (text_in old)) (runs_together old.schema c.queries ∙ ap together same ∙ sym (runs_together new.schema c.queries))
      ∙ decide_same (text_in old) (text_in new) (run_all new.schema c.queries)
      (runs_alike (spoken c) (text_in old) (text_in new) texts new.schema c.queries over)

-- The same answer, byte for byte, message lines too, or both get 11.
pub grown_decisions : (f g : List ℕ) (d e : Form) (p : Says wide f d) (q : Says wide g e) → NoAbsent p.content → Grown p.content q.content
    → (words words' : ℕ) → min_words ≤ words → min_words ≤ words' → decide f words ≡ decide g words'
grown_decisions f g d e p q n h words words' l l' =
    long_enough f d p words l
    ∙ ap (λ (x : Form). decide_read (described x)) p.tree
    ∙ decided_grown p.content p.lawful n h.names h.types h.predicates
    ∙ ap (λ (x : Content). decide_read (described (describes x))) (sym h.is)
    ∙ ap (λ (x : Form). decide_read (described x)) (sym q.tree)
    ∙ sym (long_enough g e q words' l')

-- So with slices of the same lengths the same outcome, whatever it is.
pub grown_files : (f g : List ℕ) (d e : Form) (p : Says wide f d) (q : Says wide g e) → NoAbsent p.content → Grown p.content q.content
    → (words bytes : ℕ) → outcome f words bytes ≡ outcome g words bytes
unfolding outcome
grown_files f g d e p q n h words bytes = ap (λ x. finish x words bytes) (cases (ltb words min_words) short long)
  where
    short : ltb words min_words ≡ true → decide f words ≡ decide g words
    short z = let h = ltb-true words min_words z in short_decides f words h ∙ sym (short_decides g words h)

    long : ltb words min_words ≡ false → decide f words ≡ decide g words
    long z = grown_decisions f g d e p q n h words words (ltb-false words min_words z) (ltb-false words min_words z)
