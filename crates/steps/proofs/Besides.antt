-- The steps that the cycle asks for besides those on the head of a type: a report, a rollback, entries that leave, both
-- bounds of a fuzzy pattern, a unification. Each goes beside its namesake of meaning/specs/Check.antt.
use mathlib.Core.Bool.{Bool, true, false}
use mathlib.Core.List.{List}
use mathlib.Core.Path.{◌≡◌, refl, sym, ◌∙◌, ap, subst}
use native.Mathlib.Omega.{arith}
use Prim.Native.Nat.{ℕ, zero, suc, ◌+◌, ◌-◌, ◌<◌, ◌≤◌}
use lib.Dec.{ltb}
use lib.ListN.{length, get_or, set}
use borrow.Author.Tests.{ne_eqb}
use Rattle.unification.specs.Ty as Tree
use Rattle.unification.specs.Bindings as Bindings
use Rattle.unification.specs.Bindings.{State, with_history}
use Rattle.unification.specs.Unify as Unify
use Rattle.unification.proofs.Undo.{rewind_left}
use Rattle.unification.proofs.Kept as Kept
use Rattle.std.proofs.lemmas.List.{set-get_or}
use Rattle.work.specs.Layout.{RECORD-COUNT, RECORD-FIELD-COUNT, ENV-LEN, MARK-COUNT, LEFT, TYS, END}
use Rattle.cells.specs.declared.Ty.{Ty}
use Rattle.cells.specs.declared.Ty.TheVariants.{Str}
use Rattle.cells.specs.declared.TyError.{TyError}
use Rattle.cells.specs.Stands.{Rows, tree, Ok, Keeps}
use Rattle.cells.specs.Promises as Cells
use Rattle.cells.specs.Promises.{error_of, OkError, RollsBack, Unifies}
use Rattle.cells.proofs.Frame.{more_refl, keeps_wider}
use Rattle.format.specs.File.{Described}
use Rattle.meaning.specs.Check as Check
use Rattle.meaning.specs.Diag.{Diagnostic}
use Rattle.meaning.specs.Check.{Checker, Step, Does, goes, and_then}
use Rattle.meaning.specs.Run.{NotYet}
use Rattle.meaning.specs.Grades.{Orderly, no_thing, one_diagnostic}
use Rattle.meaning.proofs.Meets.{Meets}
use Rattle.meaning.proofs.Steps.{Nothing, reject_meets, reject_if}
use Rattle.unification.specs.Calls.{UnifyEntry}
use Rattle.unification.proofs.Tests.{clash}
use Rattle.unification.specs.Bindings.{Subst}
use Rattle.messages.specs.declared.Message.{Message}
use Rattle.messages.specs.Said.{said, report_message, OkMessage}
use Rattle.state.specs.Lines.{Rejected, entered_w, sides_w, EntrySides, AtEntry, Enters, enters, enters_before, stops_here}
use Rattle.state.proofs.Arriving.{goes_past, still_not, stops_there, entered_keeps, entered_runs, entered_grew, entered_told, stopped_runs, stopped_grew}
use Rattle.state.proofs.Arriving.{stopped_told, got_side, expected_side}
use Rattle.state.proofs.Running.{runs_slots, grew_slots}
use Rattle.state.proofs.Scoping.{runs_env_length, runs_marks_length, rollback_runs, rollback_unlined, rollback_grew}
use Rattle.state.proofs.Leaving.{leave_runs, leave_unlined, leave_grew}
use Rattle.state.specs.Words.{leave_w}
use Rattle.state.proofs.Lining.{told_same}
use Rattle.state.proofs.Lined.{keeps_unlined}
use Rattle.steps.specs.Ends.{done, silent, unified, Gone, StepEnds, went, spent}
use Rattle.steps.specs.Loads.{Load, only, both, FitsIn, Begins, Beside}
use Rattle.steps.specs.Promises.{nodes_of, Reports, RollsTo, Leaves, fuzzy, Fuzzes, UnifiesOutside, typed_after}
use Rattle.steps.specs.declared.Mark.{Mark}
use Rattle.steps.specs.Outside.{RejectedIf, reported, stayed, far_w, characters_w, long_w, Rewinds}
use Rattle.steps.proofs.Growing.{ok_kept}
use Rattle.steps.proofs.Sequel.{gone_on}
use Rattle.steps.proofs.Ending.{reject_ends}
use Rattle.steps.proofs.Results.{on_here, then_done, stop_done, done_typed}
use Rattle.std.specs.Prelude.{Err, None, Option, Result, Some, ℕ}
use Rattle.cells.specs.declared.Failure.{Failure}

-- ---- `report`
report_said : (T : Rows) (s : Subst) (err : TyError) → Check.message_of (error_of T err) ≡ said T s (report_message err)
unfolding Check.message_of
report_said T s (TyError.Mismatch e g) = refl
report_said T s (TyError.UnionMismatch d e g) = refl
report_said T s (TyError.UnknownField n) = refl
report_said T s TyError.Infinite = refl

report_ok : (w : List ℕ) (err : TyError) → OkError w err → OkMessage w (report_message err)
report_ok w (TyError.Mismatch e g) ok = ok
report_ok w (TyError.UnionMismatch d e g) ok = ok
report_ok w (TyError.UnknownField n) ok = tt
report_ok w TyError.Infinite ok = tt

pub reports : (f w : List ℕ) {ou w' ou' : List ℕ} (n : ℕ) (err : TyError) (left : ℕ) {r : Option ℕ} → Rejected f w ou n (report_message err) left w' ou' r
    → Reports f w ou n err left w' ou' r
unfolding Check.report
reports f w n err left x d there = record
    { is = λ T c B ok. rw (report_said T c.state.subst err) (reject_ends B n there (report_message err) (report_ok w err ok) x) }

-- ---- Entries leave
pub leaves : (f w : List ℕ) {ou : List ℕ} (scope : ℕ) → Leaves f w ou scope (leave_w w scope) ou
unfolding Check.leave Check.with_env Check.with_unused
leaves f w scope d left = record {
  is = λ T c B within.
      let h : scope ≤ get_or w ENV-LEN 0 = omega (arith, runs_env_length B.runs) in
      let few : length c.env + length c.unused ≤ 512 = omega (arith, B.orderly.few, B.free.unknowns) in
      went (record {
        T' = T;
        more = more_refl;
        runs = leave_runs B.sound B.runs scope few h;
        lines = told_same (leave_unlined B.sound B.runs scope few h) B.lines;
        grew = leave_grew B.sound B.runs scope few h;
        is = B.visits;
      });
}

-- ---- `rollback`
rollback_visits : (st : State) (at : Bindings.Snapshot) → (Bindings.rollback st at).left ≡ st.left
unfolding Bindings.rollback with_history
rollback_visits st at = rewind_left (length st.undo - at.undo) st.undo st

pub rolls : (f w : List ℕ) {ou : List ℕ} {m : Mark} {w' : List ℕ} → Rewinds w m w' → RollsTo f w ou m.undo m.env m.marks w' ou
unfolding Check.rollback Check.truncate_env Check.truncate_marks Check.with_state Check.with_env Check.with_marks and_then
rolls f w {ou} {w' = w'} X d left at p q r = rw (← q, ← r) (back (rw (← p) at X.back) (rw (← q, ← r) at X.cut))
  where
    back : RollsBack w at.state.undo X.between → w' ≡ set (set X.between ENV-LEN at.env) MARK-COUNT at.marks
        → Beside f w ou left w' ou (silent left) d (only no_thing) (λ T c. (at.env ≤ length c.env) × (at.marks ≤ length c.marks))
        (λ T. Check.rollback at)
    back b cut = record {
      is = λ T c B within.
          let h : at.env ≤ get_or w ENV-LEN 0 = omega (arith, within.0, runs_env_length B.runs) in
          let m : at.marks ≤ get_or w MARK-COUNT 0 = omega (arith, within.1, runs_marks_length B.runs) in
          rw cut (went (record {
            T' = T;
            more = more_refl;
            lines = told_same (rollback_unlined B.sound B.runs b at.state.past at.env at.marks h m) B.lines;
            runs = rollback_runs B.sound B.runs b at.state.past at.env at.marks h m;
            grew = rollback_grew B.sound B.runs b at.state.past at.env at.marks h m;
            is = rollback_visits c.state at.state ∙ B.visits;
          }));
    }

-- ---- Both bounds of a fuzzy pattern
module _ {f w ou : List ℕ} {T : Rows} {d : Described} {left : ℕ} {c : Checker} (B : Begins f w ou T d (only one_diagnostic) left c) (n : ℕ)
    (there : n < length (nodes_of d)) where
  -- By a test.
  reject_if_ends : (m : Message) → OkMessage w m → {w' ou' : List ℕ} {r : Option ℕ} (b : Bool) → RejectedIf f w ou n m left w' ou' r b
      → StepEnds f w ou w' ou' T d 0 0 (done r) ((elim b as (λ b. Does (Unit {0}))
      [ true ↦ Check.reject d.schema (nodes_of d) n (said T c.state.subst m) | false ↦ (λ c. goes tt c) ]) c)
  reject_if_ends m ok true (reported x) = reject_ends B n there m ok x
  reject_if_ends m ok false (stayed p q z) = rw (p, q, z) (on_here B.runs B.lines B.visits)

  distance_ends : (distance : ℕ) {w' ou' : List ℕ} {r : Option ℕ} → RejectedIf f w ou n (Message.DistanceOutside distance) left w' ou' r (far_w w distance)
      → StepEnds f w ou w' ou' T d 0 0 (done r) (Check.fuzzy_distance d.schema (nodes_of d) n distance c)
  unfolding Check.fuzzy_distance
  distance_ends zero (reported x) = reject_ends B n there (Message.DistanceOutside zero) tt x
  distance_ends (suc e) x = reject_if_ends (Message.DistanceOutside (suc e)) tt (ltb d.schema.max_distance (suc e))
      (rw (ne_eqb (suc e) 0 (λ q. omega arith), B.runs.stands.schema.distance) at x)

  term_ends : (term : ℕ) → term < length d.schema.characters → {w' ou' : List ℕ} {r : Option ℕ}
      → RejectedIf f w ou n (Message.TermTooLong (characters_w w term)) left w' ou' r (long_w w term)
      → StepEnds f w ou w' ou' T d 0 0 (done r) (Check.fuzzy_term d.schema (nodes_of d) n term c)
  unfolding Check.fuzzy_term
  term_ends term name x = reject_if_ends (Message.TermTooLong (get_or d.schema.characters term 0)) tt
      (ltb d.schema.max_term_chars (get_or d.schema.characters term 0))
      (rw (B.runs.stands.schema.term, B.runs.stands.schema.characters term name) at x)

distance_meets : (d : Described) (n distance : ℕ) (c : Checker) → Orderly c
    → Meets Nothing one_diagnostic c (Check.fuzzy_distance d.schema (nodes_of d) n distance c)
unfolding Check.fuzzy_distance
distance_meets d n zero c o = reject_meets d.schema (nodes_of d) n _ c o
distance_meets d n (suc e) c o = reject_if d.schema (nodes_of d) n _ c o (ltb d.schema.max_distance (suc e))

module _ {f w ou w₁ ou₁ : List ℕ} (n term distance : ℕ) {left : ℕ} {r : Option ℕ}
    (X : RejectedIf f w ou n (Message.DistanceOutside distance) left w₁ ou₁ r (far_w w distance)) where
  abbrev one : Load
  one = only one_diagnostic

  abbrev two : Load
  two = only (record { nodes = λ x. 0; unknowns = 0; diagnostics = 2 })

  one_one : FitsIn (both one one) two
  one_one = record {
    grade = record { nodes = λ x. omega arith; unknowns = omega arith; diagnostics = omega arith };
    records = omega arith;
    fields = omega arith;
  }

  pub fuzzy_on : {l : ℕ} {w₂ ou₂ : List ℕ} {x : Option ℕ} → r ≡ Some l
      → RejectedIf f w₁ ou₁ n (Message.TermTooLong (characters_w w₁ term)) l w₂ ou₂ x (long_w w₁ term)
      → Fuzzes f w ou n term distance left w₂ ou₂ (typed_after Str x)
  unfolding fuzzy
  fuzzy_on e Y = record {
    is = λ d there name. record {
      is = λ T c B u.
          then_done one one two one_one Nothing (Check.fuzzy_distance d.schema (nodes_of d) n distance c)
          (λ v b. and_then (Check.fuzzy_term d.schema (nodes_of d) n term b) (λ z e. goes (Tree.leaf Tree.String) e)) e B
          (λ y. distance_meets d n distance c B.orderly) (λ s. distance_ends s n there distance X)
          (λ T₁ b a. done_typed Str tt (term_ends a.begins n there term name Y));
    };
  }

  pub fuzzy_out : r ≡ None → Fuzzes f w ou n term distance left w₁ ou₁ None
  unfolding fuzzy
  fuzzy_out e = record {
    is = λ d there name. record {
      is = λ T c B u.
          stop_done one one two one_one Nothing (Check.fuzzy_distance d.schema (nodes_of d) n distance c)
          (λ v b. and_then (Check.fuzzy_term d.schema (nodes_of d) n term b) (λ z e. goes (Tree.leaf Tree.String) e)) e refl B
          (λ s. distance_ends s n there distance X);
    };
  }

-- ---- `unify`

-- Where the visits ran out the word of those that are left says so already.
pub zero_noted : {w : List ℕ} → get_or w LEFT 0 ≡ 0 → set w LEFT 0 ≡ w
zero_noted {w} e = ap (λ v. set w LEFT v) (sym e) ∙ set-get_or w LEFT 0

-- What the run is to last until has not come, so no sides are kept.
pub not_come : (u : Check.Until) (w : List ℕ) (T : Rows) (ds : List Diagnostic) (es : List UnifyEntry) → NotYet u ds es → AtEntry w T u es
not_come Check.the_end w T ds es h = tt
not_come Check.first_diagnostic w T ds es h = tt
not_come (Check.entry n) w T ds es h = λ l. absurd (omega arith)

module _ {f w ou w' : List ℕ} {T : Rows} {d : Described} {left : ℕ} {c : Checker} {r : Result ℕ Failure} (B : Begins f w ou T d (only no_thing) left c) where
  unified_ends : (res : Unify.Unified) → Cells.UnifyEnds w w' T r res → Kept.After (Kept.Kept c.state) res
      → StepEnds f w ou w' ou T d 0 0 (unified w' r) (Check.unified c res)
  unfolding Check.unified Check.with_state Cells.UnifyEnds
  unified_ends (Unify.Ok st) e k =
      let K : Keeps TYS END w w' = keeps_wider (omega arith) (omega arith) e.1.keeps in
      went (record {
        T' = T;
        more = more_refl;
        runs = runs_slots B.sound B.runs K e.1.holds (ap length k.tys);
        lines = told_same (keeps_unlined (omega arith) K) B.lines;
        grew = grew_slots B.sound B.runs K;
        is = e.0;
      })
  unified_ends (Unify.Err x st) e k =
      let K : Keeps TYS END w w' = keeps_wider (omega arith) (omega arith) e.3.keeps in
      went {a = Some x} (record {
        T' = T;
        more = more_refl;
        runs = runs_slots B.sound B.runs K e.3.holds (ap length k.tys);
        lines = told_same (keeps_unlined (omega arith) K) B.lines;
        grew = grew_slots B.sound B.runs K;
        is = (e.0, e.1, e.2);
      })
  unified_ends (Unify.Spent st) e k =
      let K : Keeps TYS END w w' = keeps_wider (omega arith) (omega arith) e.2.keeps in
      spent (record {
        T' = T;
        more = more_refl;
        runs = runs_slots B.sound B.runs K e.2.holds (ap length k.tys);
        lines = rw e.1 (told_same (keeps_unlined (omega arith) K) B.lines);
        grew = grew_slots B.sound B.runs K;
        is = (e.0, not_come c.until w' T c.diagnostics c.entries B.orderly.awaits);
      })

  united_ends : {got expected : Ty} → Unifies w got expected left w' r → Ok w got → Ok w expected
      → StepEnds f w ou w' ou T d 0 0 (unified w' r) (Check.united (tree T got) (tree T expected) c)
  unfolding Check.united Unify.unify
  united_ends {got} {expected} U p q = unified_ends (Unify.unify c.state (tree T got) (tree T expected))
      (U.is T c.state B.runs.holds B.visits p q c.state.left (omega (arith, B.visits)))
      (Kept.unify_kept c.state (tree T got) (tree T expected))

module _ {f w ou : List ℕ} (w' : List ℕ) {T : Rows} {d : Described} {left : ℕ} {c : Checker} {r : Result ℕ Failure} (B : Begins f w ou T d (only no_thing) left c) where
  noted_ends : (res : Unify.Unified) → r ≡ Err Failure.Spent → Cells.UnifyEnds w w' T r res → Kept.After (Kept.Kept c.state) res
      → StepEnds f w ou (set w' LEFT 0) ou T d 0 0 (unified (set w' LEFT 0) (Err Failure.Spent)) (Check.unified c res)
  unfolding Check.unified Check.with_state Cells.UnifyEnds
  noted_ends (Unify.Ok st) q e k = clash (cc (q, e.0))
  noted_ends (Unify.Err x st) q e k = clash (cc (q, e.1))
  noted_ends (Unify.Spent st) q e k =
      let K : Keeps TYS END w w' = keeps_wider (omega arith) (omega arith) e.2.keeps in
      rw (zero_noted (told_same (keeps_unlined (omega arith) K) B.lines).left)
      (subst (λ x. StepEnds f w ou w' ou T d 0 0 (unified w' x) (Check.unified c (Unify.Spent st))) q (unified_ends B (Unify.Spent st) e k))

  united_noted : {got expected : Ty} → r ≡ Err Failure.Spent → Unifies w got expected left w' r → Ok w got → Ok w expected
      → StepEnds f w ou (set w' LEFT 0) ou T d 0 0 (unified (set w' LEFT 0) (Err Failure.Spent)) (Check.united (tree T got) (tree T expected) c)
  unfolding Check.united Unify.unify
  united_noted {got} {expected} z U p q = noted_ends (Unify.unify c.state (tree T got) (tree T expected)) z
      (U.is T c.state B.runs.holds B.visits p q c.state.left (omega (arith, B.visits)))
      (Kept.unify_kept c.state (tree T got) (tree T expected))

-- An entry from outside: noted, and made or not.
module _ {f w ou : List ℕ} {T : Rows} {d : Described} {left : ℕ} {c : Checker} (B : Begins f w ou T d (only no_thing) left c) (a b : Tree.Ty) where
  one_more : length (Check.entered a b c).entries ≡ suc (length c.entries)
  unfolding Check.entered Check.with_entries
  one_more = refl

  noted : {got expected : Ty} {l : ℕ} {w' : List ℕ} → Enters w got expected left w' (Some l)
      → Begins f (entered_w w) ou T d (only no_thing) left (Check.entered a b c)
  unfolding Check.entered Check.with_entries
  noted E = record {
    sound = B.sound;
    runs = entered_runs B.sound B.runs B.lines a b;
    lines = entered_told B.sound B.runs B.lines a b;
    orderly = record {
      log = B.orderly.log;
      env = B.orderly.env;
      few = B.orderly.few;
      marks = B.orderly.marks;
      sides = B.orderly.sides;
      awaits = still_not B.lines (Check.entered a b c) one_more c.diagnostics c.entries B.orderly.awaits E;
    };
    visits = B.visits;
    free = record {
      ready = record { once = B.free.ready.once; there = B.free.ready.there; bare = B.free.ready.bare };
      unknowns = B.free.unknowns;
      diagnostics = B.free.diagnostics;
      records = omega (arith, B.free.records, (entered_keeps w).below RECORD-COUNT (omega arith));
      fields = omega (arith, B.free.fields, (entered_keeps w).below RECORD-FIELD-COUNT (omega arith));
    };
  }

  no_more : FitsIn (both (only no_thing) (only no_thing)) (only no_thing)
  no_more = record {
    grade = record { nodes = λ x. omega arith; unknowns = omega arith; diagnostics = omega arith };
    records = omega arith;
    fields = omega arith;
  }

  made : {got expected : Ty} {l : ℕ} {w₁ w' : List ℕ} {r : Result ℕ Failure} → Enters w got expected left w₁ (Some l)
      → StepEnds f (entered_w w) ou w' ou T d 0 0 (unified w' r) (Check.united a b (Check.entered a b c))
      → StepEnds f w ou w' ou T d 0 0 (unified w' r) (Check.unify a b c)
  unfolding Check.unify Check.enter and_then
  made {w' = w'} {r} E h =
      let g : Gone f w ou (entered_w w) ou T d 0 0 (silent left) tt (Check.entered a b c) 0 = record {
        T' = T;
        more = more_refl;
        runs = entered_runs B.sound B.runs B.lines a b;
        lines = entered_told B.sound B.runs B.lines a b;
        grew = entered_grew B.sound B.runs B.lines a b;
        is = B.visits;
      } in
      subst (λ (s : Step (Unit {0})). StepEnds f w ou w' ou T d 0 0 (unified w' r) (and_then s (λ _. Check.united a b)))
      (sym (goes_past B.lines (Check.entered a b c) one_more E))
      (gone_on (only no_thing) (only no_thing) (only no_thing) no_more g h)

  unmade : {got expected : Ty} {w' : List ℕ} → Enters w got expected left w' None → tree T got ≡ a → tree T expected ≡ b → Ok w got
      → Ok w expected → StepEnds f w ou w' ou T d 0 0 (unified w' (Err Failure.Spent)) (Check.unify a b c)
  unfolding Check.unify Check.enter and_then
  unmade {got} {expected} (stops_here z l) p q i j =
      let S = sides_w (entered_w w) got expected left in
      let E : Enters w got expected left (sides_w (entered_w w) got expected left) None = stops_here z l in
      let G = stopped_grew B.sound B.runs B.lines a b got expected left in
      let s = got_side B.sound B.runs B.lines a b got expected left in
      let t = expected_side B.sound B.runs B.lines a b got expected left in
      subst (λ (s : Step (Unit {0})). StepEnds f w ou S ou T d 0 0 (unified S (Err Failure.Spent)) (and_then s (λ _. Check.united a b)))
      (sym (stops_there B.lines (Check.entered a b c) one_more E))
      (spent (record {
        T' = T;
        more = more_refl;
        runs = stopped_runs B.sound B.runs B.lines a b got expected left;
        lines = rw B.visits (stopped_told B.sound B.runs B.lines a b got expected left);
        grew = G;
        is = (refl, there c.until (rw s (ok_kept G.adds got i), rw s p, rw t (ok_kept G.adds expected j), rw t q));
      }))
    where
      there : (u : Check.Until) → EntrySides (sides_w (entered_w w) got expected left) T (Check.entered a b c).entries
          → AtEntry (sides_w (entered_w w) got expected left) T u (Check.entered a b c).entries
      there Check.the_end h = tt
      there Check.first_diagnostic h = tt
      there (Check.entry n) h = λ l. h

-- `unify_outside`
module _ (w : List ℕ) {got expected : Ty} {left : ℕ} where
  counted_on : {w₁ : List ℕ} {l : ℕ} {x : Option ℕ} → Enters w got expected left w₁ x → x ≡ Some l
      → (w₁ ≡ entered_w w) × (left ≡ l) × Enters w got expected left (entered_w w) (Some left)
  counted_on (enters z) e = (refl, cc e, enters z)
  counted_on (enters_before z s) e = (refl, cc e, enters_before z s)
  counted_on (stops_here z l) e = clash (cc e)

  pub outside_made : {w₁ w' : List ℕ} {l : ℕ} {x : Option ℕ} {r : Result ℕ Failure} → Enters w got expected left w₁ x → x ≡ Some l
      → Unifies w₁ got expected l w' r → UnifiesOutside w got expected left w' r
  outside_made {w' = w'} {l} {r = r} F e U =
      let h = counted_on F e in
      let past : Unifies (entered_w w) got expected left w' r = rw (h.0, ← h.1) at U in
      record {
        is = λ f ou d. record {
          is = λ T c B fine.
              let A = (entered_grew B.sound B.runs B.lines (tree T got) (tree T expected)).adds in
              made B (tree T got) (tree T expected) h.2
              (united_ends (noted B (tree T got) (tree T expected) h.2) past (ok_kept A got fine.0.ok) (ok_kept A expected fine.1.ok));
        };
      }

  pub outside_noted : {w₁ w' : List ℕ} {l : ℕ} {x : Option ℕ} {r : Result ℕ Failure} → Enters w got expected left w₁ x → x ≡ Some l
      → Unifies w₁ got expected l w' r → r ≡ Err Failure.Spent → UnifiesOutside w got expected left (set w' LEFT 0) (Err Failure.Spent)
  outside_noted {w' = w'} {l} {r = r} F e U z =
      let h = counted_on F e in
      let past : Unifies (entered_w w) got expected left w' r = rw (h.0, ← h.1) at U in
      record {
        is = λ f ou d. record {
          is = λ T c B fine.
              let A = (entered_grew B.sound B.runs B.lines (tree T got) (tree T expected)).adds in
              made B (tree T got) (tree T expected) h.2
              (united_noted w' (noted B (tree T got) (tree T expected) h.2) z past (ok_kept A got fine.0.ok) (ok_kept A expected fine.1.ok));
        };
      }

  pub outside_out : {w' : List ℕ} {x : Option ℕ} → Enters w got expected left w' x → x ≡ None → UnifiesOutside w got expected left w' (Err Failure.Spent)
  outside_out (enters z) e = clash (cc e)
  outside_out (enters_before z s) e = clash (cc e)
  outside_out (stops_here z l) e = record {
    is = λ f ou d. record
        { is = λ T c B fine. unmade B (tree T got) (tree T expected) (stops_here z l) refl refl fine.0.ok fine.1.ok };
  }
