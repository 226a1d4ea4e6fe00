-- How the steps outside of the cycle end: at once with a type in hand, or after one diagnostic. The room for it is the
-- load's.
use mathlib.Core.Bool.{false}
use mathlib.Core.List.{List, ◌∷◌}
use mathlib.Core.Path.{◌≡◌, refl, sym, ◌∙◌, ap}
use native.Mathlib.Omega.{arith}
use Prim.Native.Nat.{ℕ, ◌<◌}
use lib.ListN.{length, get_or}
use Rattle.unification.specs.Ty as Tree
use Rattle.unification.specs.Bindings as Bindings
use Rattle.unification.proofs.Tests.{clash}
use Rattle.work.specs.Layout.{ENV-LEN, DIAGNOSTIC-COUNT, UNKNOWNS, MARK-COUNT}
use Rattle.cells.specs.declared.Ty.{Ty}
use Rattle.cells.specs.declared.Ty.TheVariants.{Error}
use Rattle.cells.specs.Words.{annotate_w, fresh_w}
use Rattle.cells.specs.Stands.{Rows, tree, Ok}
use Rattle.cells.proofs.Holding.{annotate_keeps}
use Rattle.cells.proofs.Frame.{more_refl}
use Rattle.format.specs.File.{Described}
use Rattle.meaning.specs.Check as Check
use Rattle.meaning.specs.Check.{Checker, Step, goes, and_then, lookup_in}
use Rattle.meaning.specs.Grades.{unknowns, one_diagnostic}
use Rattle.meaning.proofs.Marked.{marks_few, present_more}
use Rattle.meaning.proofs.Meets.{going}
use Rattle.meaning.proofs.Steps.{same_self, introduce_known}
use Rattle.messages.specs.declared.Message.{Message}
use Rattle.messages.specs.Said.{said, OkMessage}
use Rattle.state.specs.Words.{Introduces}
use Rattle.state.specs.Lines.{Told, until_w, Rejected}
use Rattle.state.proofs.Running.{grew_refl, annotate_runs, grew_slots, fresh_word, fresh_runs, fresh_grew}
use Rattle.state.proofs.Scoping.{runs_env_length, runs_marks_length, Gives, introduce_runs}
use Rattle.state.proofs.Lining.{told_same}
use Rattle.state.proofs.Lined.{rejected_runs, rejected_grew, rejected_on, rejected_out}
use Rattle.steps.specs.Ends.{typed, done, numbered, StepEnds, went, spent}
use Rattle.steps.specs.Loads.{Load, only, Begins}
use Rattle.steps.specs.Promises.{nodes_of, Rejects, Notes, Freshens, Brings}
use Rattle.steps.specs.Outside.{RejectsTy}
use Rattle.steps.proofs.Results.{done_typed}
use Rattle.std.specs.Prelude.{None, Option, Some, ℕ}

module _ {f w ou : List ℕ} {T : Rows} {d : Described} {left : ℕ} {c : Checker} (B : Begins f w ou T d (only one_diagnostic) left c) where
  -- A type in hand comes back.
  pub ends_with : (t : Ty) (ty : Tree.Ty) → Ok w t → tree T t ≡ ty → StepEnds f w ou w ou T d 0 0 (typed w (Some (t, left))) (goes ty c)
  ends_with t ty o e = went (record {
    T' = T;
    more = more_refl;
    runs = B.runs;
    lines = B.lines;
    grew = grew_refl;
    is = record { t = t; res = ap (λ l. Some (t, l)) (sym B.visits); ok = o; is = e };
  })

  module _ (n : ℕ) (there : n < length (nodes_of d)) (m : Message) (ok : OkMessage w m) where
    room : get_or w DIAGNOSTIC-COUNT 0 < 1536
    room = omega (arith, B.runs.diagnostics, B.free.diagnostics)

    -- By what the run is to last until.
    pub reject_ends : {w' ou' : List ℕ} {r : Option ℕ} → Rejected f w ou n m left w' ou' r
        → StepEnds f w ou w' ou' T d 0 0 (done r) (Check.reject d.schema (nodes_of d) n (said T c.state.subst m) c)
    unfolding Check.reject Check.diagnosed Check.with_diagnostics Check.reported
    reject_ends {w'} {ou'} {r} x = go c.until refl
      where
        on : ¬ (until_w c.until ≡ 1) → StepEnds f w ou w' ou' T d 0 0 (done r)
            (goes tt (Check.diagnosed d.schema (nodes_of d) n (said T c.state.subst m) c))
        on z =
            let h = rejected_on B.sound B.runs x room there ok B.lines z in
            went (record {
              T' = T;
              more = more_refl;
              runs = rejected_runs B.sound B.runs x room;
              lines = h.1;
              grew = rejected_grew B.sound B.runs x room;
              is = h.0 ∙ ap Some (sym B.visits);
            })

        go : (u : Check.Until) → c.until ≡ u → StepEnds f w ou w' ou' T d 0 0 (done r) (Check.reject d.schema (nodes_of d) n (said T c.state.subst m) c)
        go Check.the_end q = rw (q, Check.reported) (on (λ z. let k : ◌≡◌ {A = ℕ} 0 1 = sym (ap until_w q) ∙ z in omega arith))
        go (Check.entry k) q = rw (q, Check.reported) (on (λ z. let k : ◌≡◌ {A = ℕ} 2 1 = sym (ap until_w q) ∙ z in omega arith))
        go Check.first_diagnostic q =
            let h = rejected_out B.sound B.runs x room there ok B.lines q in
            rw (q, Check.reported) (spent (record {
              T' = T;
              more = more_refl;
              runs = rejected_runs B.sound B.runs x room;
              lines = rw B.visits h.1;
              grew = rejected_grew B.sound B.runs x room;
              is = (h.0, rw q tt);
            }))

    -- `reject_ty`
    pub reject_ty_ends : {w' ou' : List ℕ} {r : Option (Ty × ℕ)} → RejectsTy f w ou n m left w' ou' r
        → StepEnds f w ou w' ou' T d 0 0 (typed w' r) (Check.reject_ty d.schema (nodes_of d) n (said T c.state.subst m) c)
    unfolding Check.reject_ty
    reject_ty_ends x = rw x.is (done_typed Error tt (reject_ends x.rejected))

pub rejects : (f w : List ℕ) {ou w' ou' : List ℕ} (n : ℕ) (m : Message) (left : ℕ) {r : Option ℕ} → Rejected f w ou n m left w' ou' r
    → Rejects f w ou n m left w' ou' r
rejects f w n m left x d there = record { is = λ T c B ok. reject_ends B n there m ok x }

-- ---- A node's type, and a new unknown
pub notes : (f w : List ℕ) {ou : List ℕ} (n : ℕ) (t : Ty) (left : ℕ) → Notes f w ou n t left (annotate_w w n t) ou
unfolding Check.annotate Check.with_state Bindings.annotate
notes f w n t left d there = record {
  is = λ T c B fine.
      let R = B.runs in
      let free = B.free.ready.bare n (omega (arith, same_self n)) in
      went (record {
        T' = T;
        more = more_refl;
        runs = annotate_runs B.sound R n t (omega (arith, R.nodes)) free fine.ok;
        lines = told_same (record { at = λ i l h. (annotate_keeps w n t).below i (omega arith) }) B.lines;
        grew = grew_slots B.sound R (annotate_keeps w n t);
        is = B.visits;
      });
}

pub freshens : (f w : List ℕ) {ou : List ℕ} (left : ℕ) → Freshens f w ou left (fresh_w w) ou (get_or w UNKNOWNS 0)
unfolding Check.fresh_var_id Check.with_state Bindings.fresh_id Bindings.fresh
freshens f w left d = record {
  is = λ T c B u.
      let R = B.runs in
      let few : length c.state.subst < 512 = omega (arith, B.free.unknowns) in
      went (record {
        T' = T;
        more = more_refl;
        runs = fresh_runs B.sound R few;
        lines = told_same (record { at = λ i l h. fresh_word B.sound R few i (λ q. omega arith) (omega arith) }) B.lines;
        grew = fresh_grew B.sound R few;
        is = (sym R.holds.binds.unknowns, B.visits);
      });
}

-- ---- A variable's unknown
given : {f w ou w' : List ℕ} {T : Rows} {d : Described} {left x : ℕ} (c : Checker) (s : Step ℕ) → c.state.left ≡ left → Told d w ou c 0
    → Gives f w w' T d c s x → ((b : Checker) → s ≡ goes x b → b.state.left ≡ c.state.left) → StepEnds f w ou w' ou T d 0 0 (numbered x left) s
given {w = w} {ou} {w'} {d = d} c s v t G same = rw G.step
    (went (record {
      T' = _;
      more = more_refl;
      runs = G.runs;
      lines = rw (G.reported, G.entries, G.until) (told_same G.unlined t);
      grew = G.grew;
      is = (refl, same G.after G.step ∙ v);
    }))

introduce_left : (n symbol x : ℕ) (c b : Checker) → Check.introduce n symbol c ≡ goes x b → b.state.left ≡ c.state.left
unfolding Check.introduce Check.lookup Check.mark Check.with_marks Check.fresh_var_id Check.push_env Check.with_state Check.with_env and_then Bindings.fresh
introduce_left n symbol x c b e = go (lookup_in c.env symbol) refl
  where
    go : (o : Option Check.Entry) → lookup_in c.env symbol ≡ o → b.state.left ≡ c.state.left
    go (Some v) q = let z = rw (q, Check.introduce) at e in
        let k : Check.with_marks c (Check.marked n v c.marks) ≡ b = cc z in
        ap (λ (k : Checker). k.state.left) (sym k)
    go None q = let z = rw (q, Check.introduce) at e in
        let k : Check.with_env (Check.with_state c (Bindings.fresh c.state))
        (record { symbol = symbol; unknown = Bindings.fresh_id c.state; maker = n } ∷ c.env) ≡ b = cc z in
        ap (λ (k : Checker). k.state.left) (sym k)

-- There is room for one mark more: fewer are marked than there are unknowns.
mark_room : {f w ou : List ℕ} {T : Rows} {d : Described} {G : Load} {left : ℕ} {c : Checker} → Begins f w ou T d G left c
    → (symbol : ℕ) (e : Check.Entry) → lookup_in c.env symbol ≡ Some e
    → Check.is_in e.unknown c.marks ≡ false → get_or w MARK-COUNT 0 < 512
unfolding Check.introduce Check.lookup Check.mark Check.with_marks and_then
mark_room {c = c} B symbol e q new =
    let lt : e.unknown < unknowns c = (going (rw (q, Check.introduce) at (introduce_known 0 symbol c B.orderly (e, q)))).holds.0 in
    omega (
      arith,
      B.free.unknowns,
      B.orderly.marks,
      runs_marks_length B.runs,
      present_more (unknowns c) e.unknown c.marks lt new,
      marks_few (e.unknown ∷ c.marks) (unknowns c),
    )

pub brings : (f w : List ℕ) {ou : List ℕ} (n symbol left : ℕ) (w' : List ℕ) (x : ℕ) → Introduces w n symbol w' x → Brings f w ou n symbol left w' ou x
brings f w n symbol left w' x I = record {
  is = λ d small there. record {
    is = λ T c B u.
        let room : lookup_in c.env symbol ≡ None → (length c.state.subst < 512) × (get_or w ENV-LEN 0 < 512) = λ q.
        (omega (arith, B.free.unknowns), omega (arith, B.free.unknowns, B.orderly.few, runs_env_length B.runs)) in
        given c (Check.introduce n symbol c) B.visits B.lines
        (introduce_runs B.sound B.runs (omega arith) there room (mark_room B symbol) I) (introduce_left n symbol x c);
  };
  found = λ d small there. record {
    is = λ T c B known. given c (Check.introduce n symbol c) B.visits B.lines
        (introduce_runs B.sound B.runs (omega arith) there (λ q. clash (cc (q, known.1))) (mark_room B symbol) I) (introduce_left n symbol x c);
  };
}
