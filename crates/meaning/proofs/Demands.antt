-- Document 01's three demands of the whole call, for every file and every two lengths. What is decided follows the order of the refusals, and
-- both slices follow what is decided.
use mathlib.Core.List.{List}
use mathlib.Core.Path.{◌≡◌, refl, sym, ap, ◌∙◌, subst}
use Prim.Native.Nat.{ℕ, ◌<◌, ◌≤◌}
use native.Mathlib.Omega.{arith}
use lib.Dec.{ltb}
use lib.ListN.{length, replicate}
use borrow.Author.Tests.{ltb-true, ltb-false, lt-ltb, le-ltb}
use Rattle.format.specs.Refusal.{Refusal, work_too_short, broken_text, too_many_visits, answer_too_long}
use Rattle.format.specs.Frame.{wide}
use Rattle.format.specs.Refused as Lines
use Rattle.format.specs.All.{All, Any, Each}
use Rattle.format.specs.File.{Form, view_of, Reading, refused, described, reading}
use Rattle.format.specs.Sound.{Sound}
use Rattle.meaning.specs.Check.{Typed}
use Rattle.meaning.specs.Answer.{form_lines}
use Rattle.meaning.specs.Messages.{text_in}
use Rattle.meaning.specs.Outcome.{Decided, turned_down, answered, Outcome, Accepted, Refused, min_words, max_visits, run_all, decide_run, decide_read}
use Rattle.meaning.specs.Outcome.{decide, refuse, accept, finish, outcome}
use Rattle.meaning.specs.Demands.{RefusedWhen, for_work, for_file, for_visits, for_answer, AcceptedWhen, Demand1, Demand2}
use Rattle.meaning.specs.Run.{RunDemand3, RunAsRobinson}
use Rattle.format.proofs.Tests.{cases}
use Rattle.format.proofs.Lists.{all_map}
use Rattle.format.proofs.Refused.{refused_when}
use Rattle.meaning.proofs.Forms.{Ran, RanOut, Runs, all_ran, one_out, runs, each_ran, any_out}
use Rattle.format.proofs.Texts.{texts_counted, broken_exactly}
use Rattle.meaning.proofs.Nonzero.{form_nonzero}
use Rattle.format.proofs.Sound.{sound}
use Rattle.meaning.proofs.Run.{sound_well_formed, run_demand_3, run_robinson}
use Rattle.std.specs.Prelude.{None, Option, Some}

-- Every unification of the run on each query goes as Robinson's notions say.
all_robinson : (file : List ℕ) (f : Form) → reading file ≡ described f → All (λ a. RunAsRobinson f.schema a max_visits) f.queries
unfolding view_of
all_robinson file f s =
    all_map (λ a. Sound (view_of f a)) (λ a. RunAsRobinson f.schema a max_visits) f.queries
    (λ a h. run_robinson f.schema a (sound_well_formed (view_of f a) h) max_visits) (sound file f s)

module _ (file : List ℕ) (words : ℕ) where
  -- ---- What is decided, and when

  data Decides : Decided → Type 0 where
    short : words < min_words → Decides (turned_down work_too_short)
    unread : {i : Refusal} → min_words ≤ words → Lines.Refused wide file i → Decides (turned_down i)
    spent : (f : Form) → min_words ≤ words → reading file ≡ described f → Any (RanOut f.schema) f.queries → Decides (turned_down too_many_visits)
    answers : (f : Form) (ts : List Typed) → min_words ≤ words → reading file ≡ described f → Each (Ran f.schema) f.queries ts
        → Decides (answered (form_lines (text_in f) ts))

  pub short_decides : words < min_words → decide file words ≡ turned_down work_too_short
  unfolding decide
  short_decides h = rw (lt-ltb words min_words h, decide)

  enough_decides : min_words ≤ words → decide file words ≡ decide_read (reading file)
  unfolding decide
  enough_decides h = rw (le-ltb words min_words h, decide)

  pub unread_decides : (i : Refusal) → min_words ≤ words → Lines.Refused wide file i → decide file words ≡ turned_down i
  unfolding decide_read
  unread_decides i h r = enough_decides h ∙ ap decide_read ((refused_when wide file i).1 r)

  pub reads_decides : (f : Form) (x : Option (List Typed)) → min_words ≤ words → reading file ≡ described f → run_all f.schema f.queries ≡ x
      → decide file words ≡ decide_run (text_in f) x
  unfolding decide_read
  reads_decides f x h s e = enough_decides h ∙ ap decide_read s ∙ ap (decide_run (text_in f)) e

  decides : Decides (decide file words)
  unfolding decide_run
  decides = cases (ltb words min_words)
      (λ b. let h = ltb-true words min_words b in subst Decides (sym (short_decides h)) (short h))
      (λ b. read (ltb-false words min_words b) (reading file) refl)
    where
      checks : min_words ≤ words → (f : Form) → reading file ≡ described f → {x : Option (List Typed)} → Runs f.schema f.queries x
          → run_all f.schema f.queries ≡ x → Decides (decide file words)
      checks h f s (all_ran ts r) e = subst Decides (sym (reads_decides f (Some ts) h s e)) (answers f ts h s r)
      checks h f s (one_out r) e = subst Decides (sym (reads_decides f None h s e)) (spent f h s r)

      read : min_words ≤ words → (r : Reading) → reading file ≡ r → Decides (decide file words)
      read h (refused i) e = let r = (refused_when wide file i).0 e in subst Decides (sym (unread_decides i h r)) (unread h r)
      read h (described f) e = checks h f e (runs f.schema f.queries) refl

  module _ (bytes : ℕ) where
    -- ---- How it ends

    down : (i : Refusal) → decide file words ≡ turned_down i → outcome file words bytes ≡ refuse i words bytes
    unfolding outcome finish
    down i e = ap (λ x. finish x words bytes) e

    over : (ls : List ℕ) → decide file words ≡ answered ls → bytes < length ls → outcome file words bytes ≡ refuse answer_too_long words bytes
    unfolding outcome finish
    over ls e h = ap (λ x. finish x words bytes) e ∙ rw (lt-ltb bytes (length ls) h, finish)

    fitting : (ls : List ℕ) → decide file words ≡ answered ls → length ls ≤ bytes → outcome file words bytes ≡ accept ls words bytes
    unfolding outcome finish
    fitting ls e h = ap (λ x. finish x words bytes) e ∙ rw (le-ltb bytes (length ls) h, finish)

    -- The two ways of a call.
    data Ends : Outcome → Type 0 where
      refused_so : (i : Refusal) → RefusedWhen file words bytes i → Ends (refuse i words bytes)
      accepted_so : (f : Form) (ts : List Typed) → AcceptedWhen file words bytes f ts → Ends (accept (form_lines (text_in f) ts) words bytes)

    ends : Ends (outcome file words bytes)
    ends = go decides refl
      where
        go : {x : Decided} → Decides x → decide file words ≡ x → Ends (outcome file words bytes)
        go (short h) e = subst Ends (sym (down _ e)) (refused_so _ (for_work h))
        go (unread h r) e = subst Ends (sym (down _ e)) (refused_so _ (for_file h r))
        go (spent d h s c) e = subst Ends (sym (down _ e)) (refused_so _ (for_visits d h s c))
        go (answers d t h s c) e = cases (ltb bytes (length (form_lines (text_in d) t)))
            (λ b. let l = ltb-true bytes (length (form_lines (text_in d) t)) b in subst Ends (sym (over _ e l)) (refused_so _ (for_answer d t h s c l)))
            (λ b. let l = ltb-false bytes (length (form_lines (text_in d) t)) b in subst Ends (sym (fitting _ e l))
            (accepted_so d t (record { enough = h; reads = s; checks = c; fits = l })))

    refuses : (i : Refusal) → RefusedWhen file words bytes i → outcome file words bytes ≡ refuse i words bytes
    unfolding decide_run
    refuses i (for_work h) = down i (short_decides h)
    refuses i (for_file h r) = down i (unread_decides i h r)
    refuses i (for_visits d h s c) = down i (reads_decides d None h s (any_out d.schema d.queries c))
    refuses i (for_answer d t h s c l) = over (form_lines (text_in d) t) (reads_decides d (Some t) h s (each_ran d.schema d.queries t c)) l

    accepts : (d : Form) (t : List Typed) → AcceptedWhen file words bytes d t → outcome file words bytes ≡ accept (form_lines (text_in d) t) words bytes
    unfolding decide_run
    accepts d t a = fitting (form_lines (text_in d) t)
        (reads_decides d (Some t) a.enough a.reads (each_ran d.schema d.queries t a.checks)) a.fits

    -- Every call is accepted or refused for one of the thirteen reasons, each exactly under its condition; zeros as document 01 has them.
    pub demand_1 : Demand1 file words bytes
    unfolding refuse accept
    demand_1 = record {
      refused_exactly = λ i. (λ e. why i ends e, λ h. ap Outcome.result (refuses i h));
      accepted_exactly = (λ e. passed ends e, λ h. ap Outcome.result (accepts h.0 h.1 h.2));
      refused_zeros = λ i e. blank i ends e;
      work_zeros = cleared ends;
      text_refused = (
        λ e. broken_when (why broken_text ends e) refl,
        λ h. ap Outcome.result (refuses broken_text (for_file h.0 ((broken_exactly wide file).1 h.1))),
      );
    }
      where
        why : (i : Refusal) {o : Outcome} → Ends o → o.result ≡ Refused i → RefusedWhen file words bytes i
        why i (refused_so j h) e = let same : i ≡ j = cc in rw same h
        why i (accepted_so d t h) e = let z : ◌≡◌ {A = ℕ} 0 1 = cc in absurd (omega arith)

        broken_when : {i : Refusal} → RefusedWhen file words bytes i → i ≡ broken_text → (min_words ≤ words) × Lines.BrokenText wide file
        broken_when (for_work h) e = let z : ◌≡◌ {A = ℕ} 0 1 = cc in absurd (omega arith)
        broken_when (for_file h r) e = (h, (broken_exactly wide file).0 (subst (Lines.Refused wide file) e r))
        broken_when (for_visits f h s c) e = let z : ◌≡◌ {A = ℕ} 0 1 = cc in absurd (omega arith)
        broken_when (for_answer f ts h s c l) e = let z : ◌≡◌ {A = ℕ} 0 1 = cc in absurd (omega arith)

        passed : {o : Outcome} → Ends o → o.result ≡ Accepted → (d : Form) × (t : List Typed) × AcceptedWhen file words bytes d t
        passed (refused_so j h) e = let z : ◌≡◌ {A = ℕ} 0 1 = cc in absurd (omega arith)
        passed (accepted_so d t h) e = (d, t, h)

        blank : (i : Refusal) {o : Outcome} → Ends o → o.result ≡ Refused i → o.answer ≡ replicate bytes 0
        blank i (refused_so j h) e = refl
        blank i (accepted_so d t h) e = let z : ◌≡◌ {A = ℕ} 0 1 = cc in absurd (omega arith)

        cleared : {o : Outcome} → Ends o → o.work ≡ replicate words 0
        cleared (refused_so j h) = refl
        cleared (accepted_so d t h) = refl

    -- An accepted call answers what `check` finds of what the file describes.
    pub demand_2 : (outcome file words bytes).result ≡ Accepted → Demand2 file words bytes
    unfolding accept
    demand_2 e =
        let a = demand_1.accepted_exactly.0 e in
        record {
          f = a.0;
          ts = a.1;
          when = a.2;
          answer = ap Outcome.answer (accepts a.0 a.1 a.2);
          nonzero = form_nonzero (text_in a.0) a.1;
          texts = texts_counted file a.0 a.2.reads;
          robinson = all_robinson file a.0 a.2.reads;
        }

-- The run on each query that a file describes is a list of demand 3's calls, and the claim holds of it.
pub demand_3 : (file : List ℕ) (f : Form) → reading file ≡ described f → All (λ a. RunDemand3 f.schema a max_visits) f.queries
unfolding view_of
demand_3 file f s =
    all_map (λ a. Sound (view_of f a)) (λ a. RunDemand3 f.schema a max_visits) f.queries
    (λ a h. run_demand_3 f.schema a (sound_well_formed (view_of f a) h) max_visits) (sound file f s)
