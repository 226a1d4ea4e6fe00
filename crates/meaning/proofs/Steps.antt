-- The single steps of the checker: a diagnostic, a new unknown, a variable, an annotation, a unification, a comparison's
-- order, a rollback. Each makes at most one thing, or none.
use mathlib.Core.Bool.{Bool, true, false}
use mathlib.Core.List.{List, [], ◌∷◌, ◌++◌}
use mathlib.Core.Logic.{◌≢◌, by_cases}
use mathlib.Core.Path.{◌≡◌, refl, sym, ◌∙◌, ap}
use Prim.Native.Nat.{ℕ, zero, ◌+◌, ◌-◌, ◌≤◌, ◌<◌}
use native.Mathlib.Decide.{ℕ_discrete}
use native.Mathlib.Omega.{arith}
use lib.Dec.{eqb, ltb}
use lib.ListN.{length, get_or, set, take, drop, replicate, length-append, length-set}
use lib.Seq.{get_or-set_same, get_or-set_other, drop_at, length-take-le}
use borrow.Author.Tests.{eq-eqb, ne_eqb, ltb-false}
use Rattle.unification.specs.Ty.{Ty}
use Rattle.unification.specs.Bindings as Bindings
use Rattle.unification.specs.Bindings.{Answer, yes_left, no_left, spent, start, State, with_history}
use Rattle.unification.specs.Unify as Unify
use Rattle.unification.specs.Unify.{TyError, Unified, Ok, Err, Spent}
use Rattle.unification.specs.Calls.{Side, UnifyEntry, take_snapshot, unknown, unification, failure, snapping, rolling_back, spending, annotation, then_call}
use Rattle.unification.proofs.Sides.{side_more, wf_pad}
use Rattle.unification.proofs.Occurs.{Fewer, orderable_fewer}
use Rattle.unification.proofs.Undo.{Since, since_refl, since_length, since_fresh, since_annotate, since_left, rollback_subst, rollback_tys, rollback_undo}
use Rattle.unification.proofs.Kept.{After, Kept, unify_kept}
use Rattle.unification.specs.Log.{Log}
use Rattle.unification.proofs.Log.{taken_pad, log_annotate, Logged, unify_logged}
use Rattle.unification.proofs.Demand3.{rolled_since}
use Rattle.unification.proofs.Tests.{clash}
use Rattle.format.specs.Syntax.{Span, Node, node_at}
use Rattle.format.specs.Schema.{Schema}
use Rattle.meaning.specs.Diag.{Message}
use Rattle.meaning.specs.Check.{Until, the_end, first_diagnostic, entry, Entry, Checker, goes, Does, and_then, with_state, with_env, with_marks}
use Rattle.meaning.specs.Check.{with_unused, with_diagnostics, with_entries, diagnosed, reported, fresh_var_id, lookup_in, lookup, push_env, is_in, marked}
use Rattle.meaning.specs.Check.{mark, introduce, annotate, unified, united, entered, arrived, enter, unify, ordered, orderable, Mark}
use Rattle.meaning.specs.Check.{truncate_env, truncate_marks, rollback, leaving, leave, reject, report, unify_at}
use Rattle.format.specs.All.{All}
use Rattle.meaning.specs.Run.{between_calls, at_the_limit, NotYet}
use Rattle.meaning.specs.Entries.{EntriesLead, rolled_back, then_entry}
use Rattle.meaning.specs.Weights.{same}
use Rattle.format.proofs.Lists.{all_map}
use Rattle.format.proofs.Tests.{cases}
use Rattle.meaning.proofs.Marked.{total_more, present_more}
use Rattle.meaning.specs.Grades.{Grade, unknowns, present, marks_below, Orderly, Ready, no_thing, one_diagnostic, one_unknown, one_node, Known}
use Rattle.meaning.proofs.Meets.{Made, Reached, Stopped, Went, Meets, went, ended, meets, made_more, made_trans, stays, meets_then}
use Rattle.std.specs.Prelude.{None, Option, Some}

-- ---- The same node
pub same_self : (x : ℕ) → same x x ≡ 1
unfolding same
same_self x = rw (eq-eqb x x refl, same)

pub same_other : (x n : ℕ) → x ≢ n → same x n ≡ 0
unfolding same
same_other x n h = rw (ne_eqb x n h, same)

-- ---- What holds of a value
abbrev pub Nothing : {A : Type 0} → A → Checker → Type 0
Nothing a c = Unit {0}

abbrev pub IsSide : Ty → Checker → Type 0
IsSide t c = Side (unknowns c) t

abbrev pub IsUnknown : ℕ → ℕ → Checker → Type 0
IsUnknown x v c = (v < unknowns c) × Known x c

-- ---- A diagnostic

-- The run goes on, or it was to last until here.
reported_meets : (g : Grade) (c c' : Checker) → (NotYet c'.until c'.diagnostics c'.entries → Orderly c')
    → ((n : ℕ) → c'.until ≡ entry n → length c'.entries ≤ n)
    → Made g c c' → Reached c c' → Stopped c c' → Meets Nothing g c (reported c')
unfolding reported
reported_meets g c c' o f m r s = go c'.until refl
  where
    go : (u : Until) → c'.until ≡ u → Meets Nothing g c (reported c')
    go the_end e = rw (e, reported) (went (record { orderly = o (rw e tt); made = m; reached = r; holds = tt }))
    go first_diagnostic e = rw (e, reported) (ended (record { made = m; stopped = s }))
    go (entry n) e = rw (e, reported) (went (record { orderly = o (rw e (f n e)); made = m; reached = r; holds = tt }))

module _ (schema : Schema) (nodes : List Node) where
  diagnosed_orderly : (n : ℕ) (m : Message) (c : Checker) → Orderly c → NotYet c.until (diagnosed schema nodes n m c).diagnostics c.entries
      → Orderly (diagnosed schema nodes n m c)
  unfolding diagnosed with_diagnostics
  diagnosed_orderly n m c o a = record { log = o.log; env = o.env; few = o.few; marks = o.marks; sides = o.sides; awaits = a }

  diagnosed_made : (n : ℕ) (m : Message) (c : Checker) → Made one_diagnostic c (diagnosed schema nodes n m c)
  unfolding diagnosed with_diagnostics
  diagnosed_made n m c = record {
    new = 0;
    since = since_refl c.state;
    unknowns = omega arith;
    pushed = [];
    env = refl;
    marked = [];
    marks = refl;
    reported = record { message = m; span = (node_at nodes n).span } ∷ [];
    diagnostics = refl;
    few = omega arith;
    elsewhere = λ x e. refl;
    nodes = refl;
    until = refl;
  }

  pub reject_meets : (n : ℕ) (m : Message) (c : Checker) → Orderly c → Meets Nothing one_diagnostic c (reject schema nodes n m c)
  unfolding reject diagnosed with_diagnostics Reached Stopped
  reject_meets n m c o =
      reported_meets one_diagnostic c (diagnosed schema nodes n m c) (diagnosed_orderly n m c o) (λ k e. rw e at o.awaits) (diagnosed_made n m c)
      (λ v tys ts cs. ([], cs, λ h. h)) (λ v tys ts cs. between_calls cs)

  -- By a test.
  module _ (n : ℕ) (m : Message) (c : Checker) (o : Orderly c) where
    pub reject_if : (b : Bool) → Meets Nothing one_diagnostic c
        ((elim b as (λ b. Does (Unit {0})) [ true ↦ reject schema nodes n m | false ↦ (λ c. goes tt c) ]) c)
    reject_if true = reject_meets n m c o
    reject_if false = stays Nothing one_diagnostic c tt o tt

    pub reject_unless : (b : Bool) → Meets Nothing one_diagnostic c
        ((elim b as (λ b. Does (Unit {0})) [ true ↦ (λ c. goes tt c) | false ↦ reject schema nodes n m ]) c)
    reject_unless true = stays Nothing one_diagnostic c tt o tt
    reject_unless false = reject_meets n m c o

-- ---- A new unknown
fresh_more : (c : Checker) → length (Bindings.fresh c.state).subst ≡ unknowns c + 1
fresh_more c = since_length (since_fresh c.state)

-- With an entry of the environment, or without.
fresh_orderly : (c : Checker) (es : List Entry) → Orderly c → All (λ e. e.unknown < unknowns c + 1) es → length es + length c.unused ≤ unknowns c + 1
    → Orderly (with_env (with_state c (Bindings.fresh c.state)) es)
unfolding Bindings.fresh with_env with_state
fresh_orderly c es o below few = record {
  log = record { wf = wf_pad c.state.subst 1 o.log.wf; blank = o.log.blank; exact = omega (arith, o.log.exact, taken_pad c.state.subst 1) };
  env = rw (fresh_more c) below;
  few = omega (arith, fresh_more c);
  marks = omega (arith, o.marks, total_more (present c.marks) (unknowns c) (length (Bindings.fresh c.state).subst) (omega (arith, fresh_more c)));
  sides = λ n t e. side_more (unknowns c) _ (omega (arith, fresh_more c)) t (o.sides n t e);
  awaits = o.awaits;
}

fresh_made : (c : Checker) (es : List Entry) → Made one_unknown c (with_env (with_state c (Bindings.fresh c.state)) (es ++ c.env))
unfolding Bindings.fresh with_env with_state
fresh_made c es = record {
  new = 1;
  since = since_fresh c.state;
  unknowns = omega arith;
  pushed = es;
  env = refl;
  marked = [];
  marks = refl;
  reported = [];
  diagnostics = refl;
  few = omega arith;
  elsewhere = λ x e. refl;
  nodes = refl;
  until = refl;
}

fresh_reached : (c : Checker) (es : List Entry) → Reached c (with_env (with_state c (Bindings.fresh c.state)) es)
unfolding Reached with_env with_state Bindings.fresh
fresh_reached c es v tys ts cs = ([], then_call cs unknown, λ h. h)

env_more : (c : Checker) → Orderly c → All (λ e. e.unknown < unknowns c + 1) c.env
env_more c o = all_map (λ e. e.unknown < unknowns c) (λ e. e.unknown < unknowns c + 1) c.env (λ e h. omega arith) o.env

pub fresh_var_id_meets : (c : Checker) → Orderly c → Meets (λ v b. v < unknowns b) one_unknown c (fresh_var_id c)
unfolding fresh_var_id with_state with_env Bindings.fresh_id
fresh_var_id_meets c o = meets (fresh_var_id c) (record {
  orderly = fresh_orderly c c.env o (env_more c o) (omega (arith, o.few));
  made = fresh_made c [];
  reached = fresh_reached c c.env;
  holds = omega (arith, fresh_more c);
})

-- ---- A variable
lookup_below : (n : ℕ) (es : List Entry) (x : ℕ) (v : Entry) → All (λ e. e.unknown < n) es → lookup_in es x ≡ Some v → v.unknown < n
unfolding lookup_in
lookup_below n [] x v h e = let z : ◌≡◌ {A = ℕ} 0 1 = cc in absurd (omega arith)
lookup_below n (a ∷ es) x v h e = go (eqb a.symbol x) refl (lookup_below n es x v h.1)
  where
    go : (b : Bool) → eqb a.symbol x ≡ b → (lookup_in es x ≡ Some v → v.unknown < n) → v.unknown < n
    go true q ih = let p : a ≡ v = (let i : Some a ≡ Some v = rw (q, lookup_in) at e in cc) in rw (← p) h.0
    go false q ih = ih (rw (q, lookup_in) at e)

-- More entries in front hide no variable.
pub known_more : (x : ℕ) (es more : List Entry) (v : Entry) → lookup_in es x ≡ Some v → (w : Entry) × (lookup_in (more ++ es) x ≡ Some w)
unfolding lookup_in
known_more x es [] v e = (v, e)
known_more x es (a ∷ more) v e = go (eqb a.symbol x) refl (known_more x es more v e)
  where
    go : (b : Bool) → eqb a.symbol x ≡ b → (w : Entry) × (lookup_in (more ++ es) x ≡ Some w) → (w : Entry) × (lookup_in (a ∷ more ++ es) x ≡ Some w)
    go true q ih = (a, rw (q, lookup_in))
    go false q ih = (ih.0, rw (q, lookup_in) ih.1)

pub made_known : (g : Grade) (c c' : Checker) (x : ℕ) → Made g c c' → Known x c → Known x c'
made_known g c c' x m k = rw m.env (known_more x c.env m.pushed k.0 k.1)

-- ---- A mark

-- One unknown more, or none.
pub mark_new : (node : ℕ) (e : Entry) (ms : List ℕ) → (new : List ℕ) × (marked node e ms ≡ new ++ ms)
unfolding marked
mark_new node e ms = go (eqb e.maker node) refl (is_in e.unknown ms) refl
  where
    go : (b : Bool) → eqb e.maker node ≡ b → (i : Bool) → is_in e.unknown ms ≡ i → (new : List ℕ) × (marked node e ms ≡ new ++ ms)
    go true p i q = ([], rw (p, marked))
    go false p true q = ([], rw (p, marked, q))
    go false p false q = (e.unknown ∷ [], rw (p, marked, q))

-- None is marked twice.
mark_once : (n node : ℕ) (e : Entry) (ms : List ℕ) → e.unknown < n → length ms ≤ marks_below ms n → length (marked node e ms) ≤ marks_below (marked node e ms) n
unfolding marked
mark_once n node e ms lt h = go (eqb e.maker node) refl (is_in e.unknown ms) refl
  where
    go : (b : Bool) → eqb e.maker node ≡ b → (i : Bool) → is_in e.unknown ms ≡ i → length (marked node e ms) ≤ marks_below (marked node e ms) n
    go true p i q = rw (p, marked) h
    go false p true q = rw (p, marked, q) h
    go false p false q = rw (p, marked, q) (omega (arith, present_more n e.unknown ms lt q))

mark_orderly : (node : ℕ) (e : Entry) (c : Checker) → Orderly c → e.unknown < unknowns c → Orderly (with_marks c (marked node e c.marks))
unfolding with_marks
mark_orderly node e c o lt = record {
  log = o.log;
  env = o.env;
  few = o.few;
  marks = mark_once (unknowns c) node e c.marks lt o.marks;
  sides = o.sides;
  awaits = o.awaits;
}

mark_made : (g : Grade) (node : ℕ) (e : Entry) (c : Checker) → Made g c (with_marks c (marked node e c.marks))
unfolding with_marks
mark_made g node e c = record {
  new = 0;
  since = since_refl c.state;
  unknowns = omega arith;
  pushed = [];
  env = refl;
  marked = (mark_new node e c.marks).0;
  marks = (mark_new node e c.marks).1;
  reported = [];
  diagnostics = refl;
  few = omega arith;
  elsewhere = λ x e. refl;
  nodes = refl;
  until = refl;
}

module _ (node x : ℕ) (c : Checker) (o : Orderly c) where
  -- It is found.
  introduce_found : (g : Grade) (e : Entry) → lookup_in c.env x ≡ Some e → Meets (IsUnknown x) g c (introduce node x c)
  unfolding introduce lookup mark with_marks and_then Reached
  introduce_found g e q =
      let lt = lookup_below (unknowns c) c.env x e o.env q in
      rw (q, introduce) (meets (goes e.unknown (with_marks c (marked node e c.marks))) (record {
        orderly = mark_orderly node e c o lt;
        made = mark_made g node e c;
        reached = λ v tys ts cs. ([], cs, λ h. h);
        holds = (lt, (e, q));
      }))

  pub introduce_known : Known x c → Meets (IsUnknown x) no_thing c (introduce node x c)
  introduce_known k = introduce_found no_thing k.0 k.1

  pub introduce_meets : Meets (IsUnknown x) one_unknown c (introduce node x c)
  unfolding introduce lookup push_env fresh_var_id with_state with_env and_then Bindings.fresh_id lookup_in
  introduce_meets = go (lookup_in c.env x) refl
    where
      go : (k : Option Entry) → lookup_in c.env x ≡ k → Meets (IsUnknown x) one_unknown c (introduce node x c)
      go (Some e) q = introduce_found one_unknown e q
      go None q =
          let new : Entry = record { symbol = x; unknown = unknowns c; maker = node } in
          rw (q, introduce) (meets (goes (unknowns c) (with_env (with_state c (Bindings.fresh c.state)) (new ∷ c.env))) (record {
            orderly = fresh_orderly c (new ∷ c.env) o (omega arith, env_more c o) (omega (arith, o.few));
            made = fresh_made c (new ∷ []);
            reached = fresh_reached c (new ∷ c.env);
            holds = (omega (arith, fresh_more c), (new, rw (eq-eqb x x refl, lookup_in)));
          }))

-- ---- An annotation
pub annotate_meets : (n : ℕ) (t : Ty) (c : Checker) → Orderly c → Ready (one_node n) c → Side (unknowns c) t → Meets Nothing (one_node n) c (annotate n t c)
unfolding annotate with_state Bindings.annotate Reached
annotate_meets n t c o r h =
    let lt : n < length c.state.tys = r.there n (omega (arith, same_self n)) in
    meets (annotate n t c) (record {
      orderly = record {
        log = log_annotate c.state n t lt (r.bare n (omega (arith, same_self n))) o.log;
        env = o.env;
        few = o.few;
        marks = o.marks;
        sides = λ m u e. by_cases (ℕ_discrete m n)
            (λ p. let q : t ≡ u = (let i : get_or (set c.state.tys n (Some t)) n None ≡ Some u = sym
            (ap (λ k. get_or (set c.state.tys n (Some t)) k None) p) ∙ e in cc (get_or-set_same c.state.tys n (Some t) None lt)) in rw (← q) h)
            (λ p. o.sides m u (sym (get_or-set_other c.state.tys n m (Some t) None p) ∙ e));
        awaits = o.awaits;
      };
      made = record {
        new = 0;
        since = since_annotate c.state n t;
        unknowns = omega arith;
        pushed = [];
        env = refl;
        marked = [];
        marks = refl;
        reported = [];
        diagnostics = refl;
        few = omega arith;
        elsewhere = λ x e. get_or-set_other c.state.tys n x (Some t) None (λ p. let z : same n n ≡ 0 = rw p at e in omega (arith, same_self n));
        nodes = length-set c.state.tys n (Some t);
        until = refl;
      };
      reached = λ v tys ts cs. ([], then_call cs (annotation n t), λ h. h);
      holds = tt;
    })

-- ---- Visits and bindings

-- A stretch with no new unknown that leaves the annotations alone, over the same environment and diagnostics.
still_orderly : (c : Checker) (st : State) → Orderly c → Log st → length st.subst ≡ unknowns c → st.tys ≡ c.state.tys → Orderly (with_state c st)
unfolding with_state
still_orderly c st o log len tys = record {
  log = log;
  env = rw len o.env;
  few = rw len o.few;
  marks = rw len o.marks;
  sides = λ n t e. rw len (o.sides n t (rw tys at e));
  awaits = o.awaits;
}

still_made : (c : Checker) (st : State) → Since 0 c.state st → st.tys ≡ c.state.tys → Made no_thing c (with_state c st)
unfolding with_state
still_made c st p tys = record {
  new = 0;
  since = p;
  unknowns = omega arith;
  pushed = [];
  env = refl;
  marked = [];
  marks = refl;
  reported = [];
  diagnostics = refl;
  few = omega arith;
  elsewhere = λ x e. rw tys;
  nodes = rw tys;
  until = refl;
}

-- An entry is noted.
module _ (a b : Ty) (c : Checker) where
  entered_orderly : Orderly c → NotYet c.until c.diagnostics (entered a b c).entries → Orderly (entered a b c)
  unfolding entered with_entries
  entered_orderly o h = record { log = o.log; env = o.env; few = o.few; marks = o.marks; sides = o.sides; awaits = h }

  entered_made : Made no_thing c (entered a b c)
  unfolding entered with_entries
  entered_made = record {
    new = 0;
    since = since_refl c.state;
    unknowns = omega arith;
    pushed = [];
    env = refl;
    marked = [];
    marks = refl;
    reported = [];
    diagnostics = refl;
    few = omega arith;
    elsewhere = λ x e. refl;
    nodes = refl;
    until = refl;
  }

  -- With what the unification left.
  united_made : (st : State) → Since 0 c.state st → st.tys ≡ c.state.tys → Made no_thing c (with_state (entered a b c) st)
  unfolding entered with_entries
  united_made st p tys = made_trans no_thing no_thing no_thing c (entered a b c) _
      (record { nodes = λ x. omega arith; unknowns = omega arith; diagnostics = omega arith }) entered_made
      (still_made (entered a b c) st p tys)

module _ (a b : Ty) (c : Checker) (o : Orderly c) (i : Side (unknowns c) a) (j : Side (unknowns c) b) where
  united_meets : NotYet c.until c.diagnostics (entered a b c).entries → (res : Unified) → Unify.unify c.state a b ≡ res
      → After (Kept c.state) res → After (Logged (unknowns c)) res
      → Meets Nothing no_thing c (unified (entered a b c) res)
  unfolding unified with_state entered with_entries Reached Stopped
  united_meets n (Ok st) e k l = went (record {
    orderly = still_orderly (entered a b c) st (entered_orderly a b c o n) l.log l.len k.tys;
    made = united_made a b c st k.since k.tys;
    reached = λ v tys ts cs. (
      [],
      then_call cs (unification a b i j e),
      λ h. then_entry h (record { at = _; calls = cs; before = refl; got = i; expected = j; after = st; ended = rw e refl }) refl,
    );
    holds = tt;
  })
  united_meets n (Err err st) e k l = went (record {
    orderly = still_orderly (entered a b c) st (entered_orderly a b c o n) l.log l.len k.tys;
    made = united_made a b c st k.since k.tys;
    reached = λ v tys ts cs. (
      [],
      then_call cs (failure a b err i j e),
      λ h. then_entry h (record { at = _; calls = cs; before = refl; got = i; expected = j; after = st; ended = rw e refl }) refl,
    );
    holds = tt;
  })
  united_meets n (Spent st) e k l = ended (record { made = united_made a b c st k.since k.tys; stopped = λ v tys ts cs. at_the_limit a b cs i j e })

  pub unify_meets : Meets Nothing no_thing c (unify a b c)
  unfolding unify enter united entered with_entries arrived and_then Stopped
  unify_meets = go c.until refl
    where
      on : NotYet c.until c.diagnostics (entered a b c).entries → Meets Nothing no_thing c (unified (entered a b c) (Unify.unify c.state a b))
      on n = united_meets n (Unify.unify c.state a b) refl (unify_kept c.state a b) (unify_logged c.state a b i j o.log)

      go : (u : Until) → c.until ≡ u → Meets Nothing no_thing c (and_then (arrived u (entered a b c)) (λ _. united a b))
      go the_end e = on (rw e tt)
      go first_diagnostic e = on (rw e (rw e at o.awaits))
      go (entry n) e = cases (ltb n (length (entered a b c).entries))
          (λ q. rw (q, arrived) (ended (record { made = entered_made a b c; stopped = λ v tys ts cs. between_calls cs })))
          (λ q. rw (q, arrived) (on (rw e (ltb-false n (length (entered a b c).entries) q))))

-- A unification, and its failure reported.
pub unify_at_meets : (schema : Schema) (nodes : List Node) (n : ℕ) (a b : Ty) (c : Checker) → Orderly c → Ready one_diagnostic c → Side (unknowns c) a
    → Side (unknowns c) b → Meets Nothing one_diagnostic c (unify_at schema nodes n a b c)
unfolding unify_at report
unify_at_meets schema nodes n a b c o r i j =
    meets_then Nothing Nothing no_thing one_diagnostic one_diagnostic c
    (record { nodes = λ x. omega arith; unknowns = omega arith; diagnostics = omega arith }) (unify a b c) _ r
    (λ r'. unify_meets a b c o i j) (λ f c' w r'. after f c' w.orderly)
  where
    after : (f : Option TyError) (c' : Checker) → Orderly c' → Meets Nothing one_diagnostic c'
        ((elim f as (λ f. Does (Unit {0})) [ None ↦ (λ c. goes tt c) | Some err ↦ report schema nodes n err ]) c')
    after None c' o' = stays Nothing one_diagnostic c' tt o' tt
    after (Some err) c' o' = reject_meets schema nodes n _ c' o'

ordered_meets : (c : Checker) (a : Answer) → Orderly c → Fewer c.state.left a → Meets Nothing no_thing c (ordered c a)
unfolding ordered with_state Bindings.with_left Reached Stopped
ordered_meets c (yes_left v) o f = went (record {
  orderly = still_orderly c (Bindings.with_left c.state v) o (record { wf = o.log.wf; blank = o.log.blank; exact = o.log.exact }) refl refl;
  made = still_made c (Bindings.with_left c.state v) (since_left c.state v f) refl;
  reached = λ w tys ts cs. ([], then_call cs (spending v f), λ h. h);
  holds = tt;
})
ordered_meets c (no_left v) o f = went (record {
  orderly = still_orderly c (Bindings.with_left c.state v) o (record { wf = o.log.wf; blank = o.log.blank; exact = o.log.exact }) refl refl;
  made = still_made c (Bindings.with_left c.state v) (since_left c.state v f) refl;
  reached = λ w tys ts cs. ([], then_call cs (spending v f), λ h. h);
  holds = tt;
})
ordered_meets c spent o f = ended (record {
  made = still_made c (Bindings.with_left c.state zero) (since_left c.state zero (omega arith)) refl;
  stopped = λ w tys ts cs. let z : zero ≤ c.state.left = omega arith in between_calls (then_call cs (spending zero z));
})

pub orderable_meets : (t : Ty) (c : Checker) → Orderly c → Meets Nothing no_thing c (orderable t c)
unfolding orderable
orderable_meets t c o = ordered_meets c (Unify.orderable (Bindings.zonk c.state.subst t) c.state.left) o
    (orderable_fewer (Bindings.zonk c.state.subst t) c.state.left)

-- ---- A rollback to where the stretch began: what it made is gone but the unknowns, the diagnostics, and what left
lead_rolled : {v : ℕ} {tys : List (Option Ty)} {es : List UnifyEntry} (st : State) (at : Bindings.Snapshot) → EntriesLead v tys start es st.history
    → EntriesLead v tys start es (Bindings.rollback st at).history
unfolding Bindings.rollback with_history
lead_rolled st at h = rolled_back _ _ _ h

module _ (g : Grade) (c c' : Checker) (o : Orderly c) (o' : Orderly c') (m : Made g c c') where
  gone : drop (length c'.env - length c.env) c'.env ≡ c.env
  gone = rw m.env (drop_at m.pushed c.env (length (m.pushed ++ c.env) - length c.env) (omega (arith, length-append m.pushed c.env)))

  unmarked : drop (length c'.marks - length c.marks) c'.marks ≡ c.marks
  unmarked = rw m.marks (drop_at m.marked c.marks (length (m.marked ++ c.marks) - length c.marks)
      (omega (arith, length-append m.marked c.marks)))

  -- Entries that are still there came before the others.
  older : length c.env ≤ length c'.env
  older = omega (arith, ap length m.env ∙ length-append m.pushed c.env)

  back_subst : (Bindings.rollback c'.state (Bindings.snapshot c.state)).subst ≡ c.state.subst ++ replicate m.new None
  back_subst = rollback_subst m.since

  back_more : length (Bindings.rollback c'.state (Bindings.snapshot c.state)).subst ≡ unknowns c + m.new
  back_more = since_length (rolled_since m.new c.state c'.state m.since)

  abbrev back : Mark
  back = record { state = Bindings.snapshot c.state; env = length c.env; marks = length c.marks }

  pub rolled_meets : Reached c c' → Meets Nothing g c
      (rollback (record { state = Bindings.snapshot c.state; env = length c.env; marks = length c.marks }) c')
  unfolding rollback truncate_env truncate_marks with_state with_env with_marks and_then take_snapshot Reached
  rolled_meets r = meets (rollback back c') (record {
    orderly = record {
      log = record {
        wf = rw back_subst (wf_pad c.state.subst m.new o.log.wf);
        blank = rw (rollback_undo m.since) o.log.blank;
        exact = rw (rollback_undo m.since, rollback_tys m.since, back_subst, taken_pad c.state.subst m.new) o.log.exact;
      };
      env = rw (gone, back_more) (all_map (λ e. e.unknown < unknowns c) (λ e. e.unknown < unknowns c + m.new) c.env (λ e h. omega arith) o.env);
      few = rw (gone, back_more) (omega (arith, o'.few, older, since_length m.since));
      marks = rw (unmarked, back_more) (omega (arith, o.marks, total_more (present c.marks) (unknowns c) (unknowns c + m.new) (omega arith)));
      sides = λ n t e. side_more (unknowns c) _ (omega (arith, back_more)) t (o.sides n t (rw (rollback_tys m.since) at e));
      awaits = o'.awaits;
    };
    made = record {
      new = m.new;
      since = rolled_since m.new c.state c'.state m.since;
      unknowns = m.unknowns;
      pushed = [];
      env = gone;
      marked = [];
      marks = unmarked;
      reported = m.reported;
      diagnostics = m.diagnostics;
      few = m.few;
      elsewhere = λ x e. rw (rollback_tys m.since);
      nodes = rw (rollback_tys m.since);
      until = m.until;
    };
    reached = λ v tys ts cs. let x = r v tys (take_snapshot c.state ∷ ts) (then_call cs snapping) in
        (take_snapshot c.state ∷ [], then_call x.1 (rolling_back x.0 ts (take_snapshot c.state) refl), λ h. lead_rolled c'.state _ (x.2 h));
    holds = tt;
  })

-- ---- The environment cut back to where the stretch began: the entries since leave
leaving_few : (schema : Schema) (nodes : List Node) (ms : List ℕ) (es : List Entry) (ss : List Span)
    → length (leaving schema nodes ms es ss) ≤ length es + length ss
unfolding leaving
leaving_few schema nodes ms [] ss = omega arith
leaving_few schema nodes ms (e ∷ es) ss = go (is_in e.unknown ms) refl (leaving_few schema nodes ms es ss)
  where
    go : (b : Bool) → is_in e.unknown ms ≡ b → length (leaving schema nodes ms es ss) ≤ length es + length ss
        → length (leaving schema nodes ms (e ∷ es) ss) ≤ length (e ∷ es) + length ss
    go true q ih = rw (q, leaving) (omega arith)
    go false q ih = rw (q, leaving) (omega arith)

pub leave_meets : (schema : Schema) (nodes : List Node) (g : Grade) (c b : Checker) (t : Ty) → Orderly c → Went IsSide g c t b
    → Meets IsSide g c (and_then (leave schema nodes (length c.env) b) (λ u e. goes t e))
unfolding Reached leave with_env with_unused and_then
leave_meets schema nodes g c b t o w =
    let m = w.made in
    let k = length b.env - length c.env in
    let o' = w.orderly in
    let e = gone g c b o o' m in
    let within : k ≤ length b.env = omega arith in
    meets (goes t (with_unused (with_env b (drop k b.env)) (leaving schema nodes b.marks (take k b.env) b.unused))) (record {
      orderly = record {
        log = o'.log;
        env = rw e (all_map (λ e. e.unknown < unknowns c) (λ e. e.unknown < unknowns b) c.env (λ e h. omega (arith, made_more g c b m)) o.env);
        few = rw e (omega (
          arith,
          o'.few,
          older g c b o o' m,
          leaving_few schema nodes b.marks (take k b.env) b.unused,
          length-take-le k b.env within,
        ));
        marks = o'.marks;
        sides = o'.sides;
        awaits = o'.awaits;
      };
      made = record {
        new = m.new;
        since = m.since;
        unknowns = m.unknowns;
        pushed = [];
        env = e;
        marked = m.marked;
        marks = m.marks;
        reported = m.reported;
        diagnostics = m.diagnostics;
        few = m.few;
        elsewhere = m.elsewhere;
        nodes = m.nodes;
        until = m.until;
      };
      reached = w.reached;
      holds = w.holds;
    })
