-- Card 4. Each query's run that lasts until its first diagnostic goes as its whole run does, up to there (`lit` of Agree.antt): so the lamp is
-- what the whole runs say (`lamp_is`), and of an answer, however long, whether it has a line 08 (`lamp_answered`).
use mathlib.Core.List.{List, [], ◌∷◌, ◌++◌, append_assoc, append-nil}
use mathlib.Core.Logic.{◌≢◌, inl, inr, ◌↔◌}
use mathlib.Core.Path.{◌≡◌, refl, sym, ap, ◌∙◌, subst}
use Prim.Native.Nat.{ℕ, suc, ◌%◌, ◌<◌, ◌≤◌}
use native.Mathlib.Omega.{arith}
use lib.Dec.{ltb}
use borrow.Author.Tests.{ltb-false, lt-ltb, le-ltb}
use lib.ListN.{drop}
use Rattle.unification.specs.Ty.{Ty}
use Rattle.format.specs.Syntax.{Span, Ast}
use Rattle.format.specs.Schema.{Schema}
use Rattle.meaning.specs.Diag.{Message, Diagnostic}
use Rattle.format.specs.Refusal.{Refusal, work_too_short, too_many_visits}
use Rattle.format.specs.All.{All, Any, Each}
use Rattle.format.specs.Lines.{closed, LF, lines}
use Rattle.format.specs.Bytes.{bytes₂, bytes₄, hex_digit, hex_line}
use Rattle.meaning.specs.Answer.{slot_bytes, node_lines, diagnostic_bytes, diagnostic_line, diagnostic_lines, unused_line}
use Rattle.meaning.specs.Answer.{unused_lines, answer_lines, numbered, form_lines}
use Rattle.meaning.specs.Check.{Step, goes, out, first_diagnostic, lasting, Typed, typed, reversed}
use Rattle.meaning.specs.Check.{checked, check}
use Rattle.meaning.specs.Run.{ending, run}
use Rattle.meaning.specs.Outcome.{min_words, max_visits, turned_down, answered, decide_run, decide_read, decide}
use Rattle.format.specs.File.{Form, Reading, refused, described, reading}
use Rattle.meaning.specs.Messages.{text_in}
use Rattle.meaning.specs.Lamp.{lit_run, Lamp, Yes, No, Refused, stopped, lamp_after, lamp_all, lamp_read, lamp, RunsClean, HasDiagnostic, Silent, FirstNot}
use Rattle.meaning.specs.Lamp.{here, later}
use Rattle.meaning.specs.Lamp.{LampIs, shown, none_shown, ran_out, Is08, Has08}
use Rattle.format.proofs.Tests.{cases}
use Rattle.meaning.proofs.Forms.{Ran, Runs, all_ran, one_out, runs}
use Rattle.format.proofs.Hex.{hexes, line_hexes}
use Rattle.format.proofs.Lines.{lines_closed}
use Rattle.laws.proofs.Beside.{hexes_no_LF}
use Rattle.laws.proofs.Agree.{Lit, dark_goes, dark_out, shines}
use Rattle.laws.proofs.Until.{run_until_lem}
use Rattle.std.specs.Prelude.{Option}

not_empty : (later : List Diagnostic) (d : Diagnostic) → later ++ d ∷ [] ≢ []
not_empty [] d e = let z : ◌≡◌ {A = ℕ} 0 1 = cc in omega arith
not_empty (x ∷ xs) d e = let z : ◌≡◌ {A = ℕ} 0 1 = cc in omega arith

-- ---- All of them in turn

module _ (schema : Schema) where
  clean_first : (a : Ast) (qs : List Ast) → RunsClean schema a → {l : Lamp} → LampIs schema qs l → LampIs schema (a ∷ qs) l
  clean_first a qs p (shown f) = shown (later p f)
  clean_first a qs p (none_shown f) = none_shown (p, f)
  clean_first a qs p (ran_out f) = ran_out (later p f)

  pub lamp_is : (qs : List Ast) → LampIs schema qs (lamp_all schema qs)
  unfolding lamp_all lamp_after lit_run stopped lasting ending
  lamp_is [] = none_shown tt
  lamp_is (a ∷ qs) = go (run schema a max_visits) (lit_run schema a max_visits) refl (run_until_lem schema a first_diagnostic max_visits) (lamp_is qs)
    where
      go : (s s' : Step Ty) → run schema a max_visits ≡ s → Lit first_diagnostic s s' → {l : Lamp} → LampIs schema qs l
          → LampIs schema (a ∷ qs) (lamp_after s' l)
      go s s' e (dark_goes ty c n) l = clean_first a qs (ty, c, e, n) l
      go s s' e (dark_out c n) l = rw n (ran_out (here (c, e, n)))
      go s s' e (shines _ c (d, q) p r) l =
          let all : (ending s).diagnostics ≡ p.reported ++ d ∷ [] = p.diagnostics ∙ ap {B = List Diagnostic} (λ ds. p.reported ++ ds) q in
          rw q (shown (here (λ z. not_empty p.reported d (sym all ∙ ap (λ (x : Step Ty). (ending x).diagnostics) (sym e) ∙ z))))

-- ---- Lines of an answer

line_first : (s t : List ℕ) → lines (hex_line s ++ t) ≡ closed (hexes s) ∷ lines t
line_first s t = ap (λ x. lines (x ++ t)) (line_hexes s) ∙ ap lines (append_assoc (hexes s) (LF ∷ []) t) ∙ lines_closed (hexes s) t (hexes_no_LF s)

-- A piece of an answer without a line 08 in it, and one that begins with such a line.
record Skips (a : List ℕ) : Type 0 where
  on : (rest : List ℕ) → Has08 (a ++ rest) → Has08 rest
  back : (rest : List ℕ) → Has08 rest → Has08 (a ++ rest)

record Begins (a : List ℕ) : Type 0 where
  here08 : (rest : List ℕ) → Has08 (a ++ rest)

skips_nothing : Skips []
skips_nothing = record { on = λ rest h. h; back = λ rest h. h }

skips_then : (a b : List ℕ) → Skips a → Skips b → Skips (a ++ b)
skips_then a b p q = record {
  on = λ rest h. q.on rest (p.on (b ++ rest) (subst Has08 (append_assoc a b rest) h));
  back = λ rest h. subst Has08 (sym (append_assoc a b rest)) (p.back (b ++ rest) (q.back rest h));
}

begins_then : (a b : List ℕ) → Begins a → Begins (a ++ b)
begins_then a b p = record { here08 = λ rest. subst Has08 (sym (append_assoc a b rest)) (p.here08 (b ++ rest)) }

after_then : (a b : List ℕ) → Skips a → Begins b → Begins (a ++ b)
after_then a b p q = record { here08 = λ rest. subst Has08 (sym (append_assoc a b rest)) (p.back (b ++ rest) (q.here08 rest)) }

line_skips : (s : List ℕ) → (Is08 (closed (hexes s)) → ⊥) → Skips (hex_line s)
line_skips s n = record {
  on = λ rest h. other rest (subst (Any Is08) (line_first s rest) h);
  back = λ rest h. subst (Any Is08) (sym (line_first s rest)) (inr h);
}
  where
    other : (rest : List ℕ) → Any Is08 (closed (hexes s) ∷ lines rest) → Has08 rest
    other rest (inl x) = absurd (n x)
    other rest (inr x) = x

-- the second digit of a kind
second : (b : ℕ) (s : List ℕ) → b < 16 → Is08 (closed (hexes (b ∷ s))) → hex_digit b ≡ 56
unfolding hexes
second b s h x = let low : b % 16 ≡ b = omega arith in let e : hex_digit (b % 16) ≡ 56 = cc x.is in rw low at e

nodes_skip : (n : ℕ) (slots : List (Option Ty)) → Skips (node_lines n slots)
unfolding node_lines hex_digit
nodes_skip n [] = skips_nothing
nodes_skip n (slot ∷ slots) =
    skips_then (hex_line (7 ∷ bytes₂ n ++ slot_bytes slot)) (node_lines (suc n) slots)
    (line_skips (7 ∷ bytes₂ n ++ slot_bytes slot) (λ x. let z : 55 ≡ 56 = second 7 (bytes₂ n ++ slot_bytes slot) (omega arith) x in omega arith))
    (nodes_skip (suc n) slots)

number_skips : (k : ℕ) → Skips (hex_line (0x0b ∷ bytes₂ k))
unfolding hex_digit
number_skips k = line_skips (0x0b ∷ bytes₂ k) (λ x. let z : 98 ≡ 56 = second 0x0b (bytes₂ k) (omega arith) x in omega arith)

visits_skip : (v : ℕ) → Skips (hex_line (9 ∷ bytes₄ v))
unfolding hex_digit
visits_skip v = line_skips (9 ∷ bytes₄ v) (λ x. let z : 57 ≡ 56 = second 9 (bytes₄ v) (omega arith) x in omega arith)

unused_skip : (ss : List Span) → Skips (unused_lines ss)
unfolding unused_lines unused_line hex_digit
unused_skip [] = skips_nothing
unused_skip (s ∷ ss) =
    skips_then (unused_line s) (unused_lines ss)
    (line_skips (0x0c ∷ bytes₄ s.start ++ bytes₄ s.end)
    (λ x. let z : 99 ≡ 56 = second 0x0c (bytes₄ s.start ++ bytes₄ s.end) (omega arith) x in omega arith)) (unused_skip ss)

-- some have none, then one has one
abbrev Told : List Typed → Type 0
Told ts = FirstNot (λ t. t.diagnostics ≡ []) (λ t. t.diagnostics ≢ []) ts

module _ (text : Message → List ℕ) where
  diagnostic_begins : (d : Diagnostic) → Begins (diagnostic_line text d)
  unfolding diagnostic_line diagnostic_bytes hexes hex_digit
  diagnostic_begins d = begins_then (hex_line (diagnostic_bytes d)) (hex_line (0x0a ∷ text d.message))
      (record {
        here08 = λ rest. subst (Any Is08) (sym (line_first (diagnostic_bytes d) rest))
            (inl (record { rest = hexes (drop 1 (diagnostic_bytes d)); is = refl }));
      })

  diagnostics_begin : (ds : List Diagnostic) → ds ≢ [] → Begins (diagnostic_lines text ds)
  unfolding diagnostic_lines
  diagnostics_begin [] n = absurd (n refl)
  diagnostics_begin (d ∷ ds) n = begins_then (diagnostic_line text d) (diagnostic_lines text ds) (diagnostic_begins d)

  answer_begins : (t : Typed) → t.diagnostics ≢ [] → Begins (answer_lines text t)
  unfolding answer_lines
  answer_begins t n = begins_then ((node_lines 0 t.tys ++ diagnostic_lines text t.diagnostics) ++ unused_lines t.unused)
      (hex_line (9 ∷ bytes₄ t.visits))
      (begins_then (node_lines 0 t.tys ++ diagnostic_lines text t.diagnostics) (unused_lines t.unused)
      (after_then (node_lines 0 t.tys) (diagnostic_lines text t.diagnostics) (nodes_skip 0 t.tys) (diagnostics_begin t.diagnostics n)))

  answer_skips : (t : Typed) → t.diagnostics ≡ [] → Skips (answer_lines text t)
  unfolding answer_lines diagnostic_lines
  answer_skips t e = skips_then ((node_lines 0 t.tys ++ diagnostic_lines text t.diagnostics) ++ unused_lines t.unused) (hex_line (9 ∷ bytes₄ t.visits))
      (skips_then (node_lines 0 t.tys ++ diagnostic_lines text t.diagnostics) (unused_lines t.unused)
      (skips_then (node_lines 0 t.tys) (diagnostic_lines text t.diagnostics) (nodes_skip 0 t.tys) (rw e skips_nothing))
      (unused_skip t.unused)) (visits_skip t.visits)

  numbered_skips : (k : ℕ) (ts : List Typed) → All (λ t. t.diagnostics ≡ []) ts → Skips (numbered text k ts)
  unfolding numbered
  numbered_skips k [] h = skips_nothing
  numbered_skips k (t ∷ ts) h =
      skips_then (hex_line (0x0b ∷ bytes₂ k)) (answer_lines text t ++ numbered text (suc k) ts) (number_skips k)
      (skips_then (answer_lines text t) (numbered text (suc k) ts) (answer_skips t h.0) (numbered_skips (suc k) ts h.1))

  numbered_begins : (k : ℕ) (ts : List Typed) → Told ts → Begins (numbered text k ts)
  unfolding numbered
  numbered_begins k (t ∷ ts) (here n) =
      after_then (hex_line (0x0b ∷ bytes₂ k)) (answer_lines text t ++ numbered text (suc k) ts) (number_skips k)
      (begins_then (answer_lines text t) (numbered text (suc k) ts) (answer_begins t n))
  numbered_begins k (t ∷ ts) (later e h) =
      after_then (hex_line (0x0b ∷ bytes₂ k)) (answer_lines text t ++ numbered text (suc k) ts) (number_skips k)
      (after_then (answer_lines text t) (numbered text (suc k) ts) (answer_skips t e) (numbered_begins (suc k) ts h))
  numbered_begins k [] x' = elim x' [ ]

  whole : (a : List ℕ) → a ++ [] ≡ a
  whole a = append-nil a

  form_has : (ts : List Typed) → Told ts → Has08 (form_lines text ts)
  unfolding form_lines
  form_has (t ∷ []) (here n) = subst Has08 (whole (answer_lines text t)) ((answer_begins t n).here08 [])
  form_has (t ∷ u ∷ ts) h = subst Has08 (whole (numbered text 0 (t ∷ u ∷ ts))) ((numbered_begins 0 (t ∷ u ∷ ts) h).here08 [])
  form_has [] h = elim h [ ]
  form_has (t ∷ []) (later _ h) = elim h [ ]

  form_lacks : (ts : List Typed) → All (λ t. t.diagnostics ≡ []) ts → Has08 (form_lines text ts) → ⊥
  unfolding form_lines lines
  form_lacks [] h x = x
  form_lacks (t ∷ []) h x = (answer_skips t h.0).on [] (subst Has08 (sym (whole (answer_lines text t))) x)
  form_lacks (t ∷ u ∷ ts) h x = (numbered_skips 0 (t ∷ u ∷ ts) h).on [] (subst Has08 (sym (whole (numbered text 0 (t ∷ u ∷ ts)))) x)

-- ---- Runs that went through, and what was told of them

module _ (schema : Schema) where
  reversed_some : (ds done : List Diagnostic) → done ≢ [] → reversed ds done ≢ []
  unfolding reversed
  reversed_some [] done n = n
  reversed_some (d ∷ ds) done n = reversed_some ds (d ∷ done) (λ e. let z : ◌≡◌ {A = ℕ} 0 1 = cc in omega arith)

  reversed_not_empty : (ds : List Diagnostic) → ds ≢ [] → reversed ds [] ≢ []
  unfolding reversed
  reversed_not_empty [] n = n
  reversed_not_empty (d ∷ ds) n = reversed_some ds (d ∷ []) (λ e. let z : ◌≡◌ {A = ℕ} 0 1 = cc in omega arith)

  -- of the run by what was told
  told : (a : Ast) (t : Typed) (s : Step Ty) → run schema a max_visits ≡ s → Ran schema a t → checked max_visits s ≡ typed t
  unfolding check run
  told a t s e r = ap (checked max_visits) (sym e) ∙ r

  clean_told : (a : Ast) (t : Typed) → Ran schema a t → RunsClean schema a → t.diagnostics ≡ []
  unfolding checked reversed
  clean_told a t r h = let e : t.diagnostics ≡ reversed h.1.diagnostics [] = cc (told a t (goes h.0 h.1) h.2 r) in e ∙ rw h.3

  shows_told : (a : Ast) (t : Typed) → Ran schema a t → HasDiagnostic schema a → t.diagnostics ≢ []
  unfolding checked ending
  shows_told a t r h = go (run schema a max_visits) refl
    where
      go : (s : Step Ty) → run schema a max_visits ≡ s → t.diagnostics ≢ []
      go (goes ty c) e z =
          let w = told a t (goes ty c) e r in
          let d : t.diagnostics ≡ reversed c.diagnostics [] = cc in
          reversed_not_empty c.diagnostics (λ n. h (ap (λ (x : Step Ty). (ending x).diagnostics) e ∙ n)) (sym d ∙ z)
      go (out c) e z = let w = told a t (out c) e r in let o : ◌≡◌ {A = ℕ} 0 1 = cc in omega arith

  silent_not : (a : Ast) (t : Typed) → Ran schema a t → Silent schema a → ⊥
  unfolding checked
  silent_not a t r h = let w = told a t (out h.0) h.1 r in let o : ◌≡◌ {A = ℕ} 0 1 = cc in omega arith

  all_clean : (qs : List Ast) (ts : List Typed) → Each (Ran schema) qs ts → All (RunsClean schema) qs → All (λ t. t.diagnostics ≡ []) ts
  all_clean [] [] e h = tt
  all_clean [] (t ∷ ts) e h = absurd e
  all_clean (a ∷ qs) [] e h = absurd e
  all_clean (a ∷ qs) (t ∷ ts) e h = (clean_told a t e.0 h.0, all_clean qs ts e.1 h.1)

  one_shows : (qs : List Ast) (ts : List Typed) → Each (Ran schema) qs ts → FirstNot (RunsClean schema) (HasDiagnostic schema) qs → Told ts
  one_shows (a ∷ qs) [] e h = absurd e
  one_shows (a ∷ qs) (t ∷ ts) e (here x) = here (shows_told a t e.0 x)
  one_shows (a ∷ qs) (t ∷ ts) e (later x h) = later (clean_told a t e.0 x) (one_shows qs ts e.1 h)
  one_shows [] ts e h = elim h [ ]

  none_silent : (qs : List Ast) (ts : List Typed) → Each (Ran schema) qs ts → FirstNot (RunsClean schema) (Silent schema) qs → ⊥
  none_silent (a ∷ qs) [] e h = e
  none_silent (a ∷ qs) (t ∷ ts) e (here x) = silent_not a t e.0 x
  none_silent (a ∷ qs) (t ∷ ts) e (later x h) = none_silent qs ts e.1 h
  none_silent [] ts e h = elim h [ ]

-- ---- The whole call

module _ (file : List ℕ) (words : ℕ) where
  enough_lamp : min_words ≤ words → lamp file words ≡ lamp_read (reading file)
  unfolding lamp
  enough_lamp h = rw (le-ltb words min_words h, lamp)

  short_lamp : words < min_words → lamp file words ≡ Refused work_too_short
  unfolding lamp
  short_lamp h = rw (lt-ltb words min_words h, lamp)

  -- Of a file that is read: by the whole runs of its queries, in file order.
  pub lamp_read_lem : (f : Form) → min_words ≤ words → reading file ≡ described f → LampIs f.schema f.queries (lamp file words)
  unfolding lamp_read
  lamp_read_lem f h e = rw (enough_lamp h ∙ ap lamp_read e) (lamp_is f.schema f.queries)

  -- "yes exactly when the full answer, however long, has an 08 line"
  pub lamp_answered : (answer : List ℕ) → decide file words ≡ answered answer
      → ((lamp file words ≡ Yes) ↔ Has08 answer) × ((lamp file words ≡ No) ↔ (Has08 answer → ⊥))
  unfolding decide decide_read decide_run
  lamp_answered answer e = cases (ltb words min_words) (λ q. clash_refused (rw (q, decide) at e))
      (λ q. read (ltb-false words min_words q) (reading file) refl (rw (q, decide) at e))
    where
      Both : Type 0
      Both = ((lamp file words ≡ Yes) ↔ Has08 answer) × ((lamp file words ≡ No) ↔ (Has08 answer → ⊥))

      clash_refused : {r : Refusal} → turned_down r ≡ answered answer → Both
      clash_refused z = let o : ◌≡◌ {A = ℕ} 0 1 = cc in absurd (omega arith)

      by : (f : Form) (ts : List Typed) → Each (Ran f.schema) f.queries ts → answer ≡ form_lines (text_in f) ts → {l : Lamp} → lamp file words ≡ l
          → LampIs f.schema f.queries l → Both
      by f ts r same is (shown x) =
          let has = subst Has08 (sym same) (form_has (text_in f) ts (one_shows f.schema f.queries ts r x)) in
          ((λ e. has, λ h. is), (λ e. let o : ◌≡◌ {A = ℕ} 0 1 = cc in absurd (omega arith), λ n. absurd (n has)))
      by f ts r same is (none_shown x) =
          let lacks : Has08 answer → ⊥ = λ h. form_lacks (text_in f) ts (all_clean f.schema f.queries ts r x) (subst Has08 same h) in
          ((λ e. let o : ◌≡◌ {A = ℕ} 0 1 = cc in absurd (omega arith), λ h. absurd (lacks h)), (λ e. lacks, λ n. is))
      by f ts r same is (ran_out x) = absurd (none_silent f.schema f.queries ts r x)

      runs_by : min_words ≤ words → (f : Form) → reading file ≡ described f → {o : Option (List Typed)} → Runs f.schema f.queries o
          → decide_run (text_in f) o ≡ answered answer → Both
      runs_by h f p (all_ran ts r) z = let same : answer ≡ form_lines (text_in f) ts = cc in by f ts r same refl (lamp_read_lem f h p)
      runs_by h f p (one_out r) z = clash_refused z

      read : min_words ≤ words → (r : Reading) → reading file ≡ r → decide_read (reading file) ≡ answered answer → Both
      read h (refused r) p z = clash_refused (rw p at z)
      read h (described f) p z = runs_by h f p (runs f.schema f.queries) (rw p at z)

  -- "1 to 10 and 13 as for the full check", and so never 12, which is none of a file's.
  pub lamp_refused : (r : Refusal) → r ≢ too_many_visits → (decide file words ≡ turned_down r) ↔ (lamp file words ≡ Refused r)
  unfolding decide decide_read decide_run lamp lamp_read
  lamp_refused r n = cases (ltb words min_words) (λ q. rw (q, decide, lamp) same) (λ q. rw (q, decide, lamp) (read (reading file)))
    where
      same : {i : Refusal} → (turned_down i ≡ turned_down r) ↔ (Refused i ≡ Refused r)
      same {i} = (λ e. let z : i ≡ r = cc in ap Refused z, λ e. let z : i ≡ r = cc in ap turned_down z)

      only_visits : (schema : Schema) (qs : List Ast) {l : Lamp} → LampIs schema qs l → l ≡ Refused r → r ≡ too_many_visits
      only_visits schema qs (shown x) e = let o : ◌≡◌ {A = ℕ} 0 1 = cc in absurd (omega arith)
      only_visits schema qs (none_shown x) e = let o : ◌≡◌ {A = ℕ} 0 1 = cc in absurd (omega arith)
      only_visits schema qs (ran_out x) e = cc

      read : (x : Reading) → (decide_read x ≡ turned_down r) ↔ (lamp_read x ≡ Refused r)
      read (refused i) = same
      read (described f) = (
        λ e. absurd (n (down (runs f.schema f.queries) e)),
        λ e. absurd (n (only_visits f.schema f.queries (lamp_is f.schema f.queries) e)),
      )
        where
          down : {o : Option (List Typed)} → Runs f.schema f.queries o → decide_run (text_in f) o ≡ turned_down r → r ≡ too_many_visits
          down (all_ran ts x) e = let o : ◌≡◌ {A = ℕ} 0 1 = cc in absurd (omega arith)
          down (one_out x) e = cc
