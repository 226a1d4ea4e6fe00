-- Each query's run is a list of demand 3's calls, so demand 3 holds of it: at the start the state is in order and no node has a type, and every
-- visit meets its grade.
-- Where a number bounds a depth, that it suffices: `walk_depth` and `destructurable_depth` in Depth.antt, `weight_depth` in
-- Weights.antt; in the unification crate `repr_resolved` in Chain.antt for `repr`, `zonk_solved` in Zonk.antt for `zonk`,
-- `occurs_depth` in Occurs.antt, `unify_depth` in Depth.antt.
use mathlib.Core.List.{List, [], ◌∷◌}
use mathlib.Core.Logic.{by_cases}
use mathlib.Core.Path.{◌≡◌, refl}
use Prim.Native.Nat.{ℕ, ◌+◌, ◌≤◌, ◌<◌}
use native.Mathlib.Decide.{dec_lt}
use native.Mathlib.Omega.{arith}
use lib.ListN.{length, replicate, length-replicate, get_or-replicate}
use Rattle.unification.specs.Ty.{Ty}
use Rattle.unification.specs.Bindings.{bound, start, State}
use Rattle.unification.specs.Calls as Calls
use Rattle.unification.specs.Calls.{Assignment, Claim, none_yet}
use Rattle.unification.specs.Tie.{AllAsRobinson}
use Rattle.unification.proofs.Tests.{clash}
use Rattle.unification.specs.Log.{taken}
use Rattle.unification.proofs.Log.{taken_pad}
use Rattle.unification.proofs.Sides.{bound_pad}
use Rattle.unification.proofs.Demand3.{calls_inv, demand_3}
use Rattle.unification.proofs.Robinson.{robinson, robinson_at_the_limit}
use Rattle.format.specs.Syntax.{Node, Ast}
use Rattle.format.specs.Schema.{Schema}
use Rattle.format.specs.References.{stmt_nodes, query_nodes}
use Rattle.format.specs.File.{Described}
use Rattle.format.specs.All.{All}
use Rattle.format.specs.Sound.{Sound}
use Rattle.meaning.specs.Check.{Until, the_end, first_diagnostic, entry, Checker, Step, goes, begin}
use Rattle.meaning.specs.Entries.{EntriesLead, no_entry}
use Rattle.meaning.specs.Run.{Led, between_calls, at_the_limit, ending, NotYet, run, RunDemand3, RunAsRobinson}
use Rattle.meaning.specs.Weights.{WellFormed, same, sum_of, total, weight, size, records, record_fields}
use Rattle.meaning.proofs.Depth.{lower_falls}
use Rattle.meaning.specs.Grades.{Grade, Orderly, Ready, visiting}
use Rattle.meaning.proofs.Meets.{Reached, Stopped, Meets, went, ended, going}
use Rattle.meaning.proofs.Steps.{IsSide}
use Rattle.meaning.proofs.Visits.{query_meets}
use Rattle.meaning.proofs.Weights.{weight_once, once_times, total_ones, total_past, total_same, records_size, fields_size}
use Rattle.std.specs.Prelude.{None, Option}

-- ---- What a list of calls that led somewhere says
led_claim : (v : ℕ) (tys : List (Option Ty)) (st : State) → Led v tys st → Claim Assignment st
led_claim v tys st (between_calls {m} cs) = (demand_3 v tys m cs).between_calls
led_claim v tys st (at_the_limit {m} a b cs i j e) = (demand_3 v tys m cs).at_the_limit a b st i j e

led_robinson : (v : ℕ) (tys : List (Option Ty)) (st : State) → Led v tys st → AllAsRobinson st.history
led_robinson v tys st (between_calls {m} cs) = robinson v tys m cs
led_robinson v tys st (at_the_limit {m} a b cs i j e) = robinson_at_the_limit v tys m cs a b st i j e

-- ---- What a step that meets its grade says
module _ {A : Type 0} (P : A → Checker → Type 0) (g : Grade) (c : Checker) where
  pub meets_led : (v : ℕ) (tys : List (Option Ty)) (ts : List Calls.Taken) (s : Step A) → Calls.Calls v tys (record { state = c.state; taken = ts })
      → Meets P g c s → Led v tys (ending s).state
  unfolding ending Reached Stopped
  meets_led v tys ts s cs (went w) = between_calls (w.reached v tys ts cs).1
  meets_led v tys ts s cs (ended w) = w.stopped v tys ts cs

-- ---- The start

-- What a run is to last until is asked nowhere but at a diagnostic and at an entry to `unify`.
pub nothing_yet : (u : Until) → NotYet u [] []
nothing_yet the_end = tt
nothing_yet first_diagnostic = refl
nothing_yet (entry n) = omega arith

pub begin_orderly : (ceiling n : ℕ) → Orderly (begin ceiling n)
unfolding begin taken Calls.begin bound
begin_orderly ceiling n = record {
  log = record { wf = (calls_inv ceiling [] (Calls.begin ceiling []) none_yet).sound.wf; blank = tt; exact = omega (arith, taken_pad [] n) };
  env = tt;
  few = omega arith;
  marks = omega arith;
  sides = λ m t e. clash (cc (bound_pad [] n m));
  awaits = tt;
}

module _ (schema : Schema) (ast : Ast) (wf : WellFormed schema ast) where
  abbrev nodes : List Node
  nodes = ast.nodes

  -- What the whole query weighs is at most what its nodes weigh by themselves.
  pub query_weight : (own : ℕ → ℕ) → sum_of (λ n. weight nodes own (length nodes) n) (query_nodes ast.query) ≤ total own (length nodes)
  query_weight own = weight_once nodes (lower_falls nodes wf.lower) own (length nodes) (length nodes) (omega arith) (query_nodes ast.query)
      wf.query (once_times nodes (query_nodes ast.query) wf.once)

  pub query_size : sum_of (λ n. size nodes (length nodes) n) (query_nodes ast.query) ≤ length nodes
  query_size = omega (arith, query_weight (λ n. 1), total_ones (length nodes))

  pub query_records : sum_of (λ n. records nodes (length nodes) n) (query_nodes ast.query) ≤ length nodes
  unfolding sum_of
  query_records = omega (arith, query_size, sums (query_nodes ast.query))
    where
      sums : (s : List ℕ) → sum_of (λ n. records nodes (length nodes) n) s ≤ sum_of (λ n. size nodes (length nodes) n) s
      sums [] = omega arith
      sums (m ∷ s) = omega (arith, records_size nodes (length nodes) m, sums s)

  -- The head is no field.
  pub query_fields : sum_of (λ n. record_fields nodes (length nodes) n) (query_nodes ast.query) < length nodes
  unfolding sum_of query_nodes
  query_fields = omega (arith, query_size, under ast.query.head wf.query.0, sums (stmt_nodes ast.query.body) wf.query.1)
    where
      under : (n : ℕ) → n < length nodes → record_fields nodes (length nodes) n + 1 ≤ size nodes (length nodes) n
      under n p = fields_size nodes (lower_falls nodes wf.lower) (length nodes) n p

      sums : (s : List ℕ) → All (λ n. n < length nodes) s → sum_of (λ n. record_fields nodes (length nodes) n) s ≤ sum_of (λ n. size nodes (length nodes) n) s
      sums [] h = omega arith
      sums (m ∷ s) h = omega (arith, under m h.0, sums s h.1)

  pub begin_ready : (ceiling : ℕ) → Ready (visiting nodes (length nodes) (query_nodes ast.query)) (begin ceiling (length nodes))
  unfolding begin
  begin_ready ceiling = record {
    once = λ x. omega (arith, query_weight (λ n. same x n), total_same x (length nodes));
    there = λ x h. omega (arith, length-replicate {A = Option Ty} (length nodes) None, inside x h);
    bare = λ x h. get_or-replicate (length nodes) x None None (inside x h);
  }
    where
      inside : (x : ℕ) → 0 < sum_of (λ n. weight nodes (λ m. same x m) (length nodes) n) (query_nodes ast.query) → x < length nodes
      inside x h = by_cases (dec_lt x (length nodes)) (λ p. p)
          (λ p. absurd (omega (arith, query_weight (λ n. same x n), total_past x (length nodes) (omega arith))))

  -- ---- The run
  pub run_meets : (ceiling : ℕ) → Meets IsSide (visiting nodes (length nodes) (query_nodes ast.query)) (begin ceiling (length nodes)) (run schema ast ceiling)
  unfolding run
  run_meets ceiling = query_meets schema nodes wf.declared ast.query (begin ceiling (length nodes)) (unfold begin in refl)
      (begin_orderly ceiling (length nodes)) (begin_ready ceiling)

  -- The run is a list of calls.
  run_led : (ceiling : ℕ) → Led ceiling (replicate (length nodes) None) (ending (run schema ast ceiling)).state
  unfolding begin Calls.begin
  run_led ceiling = meets_led IsSide _ _ ceiling (replicate (length nodes) None) [] (run schema ast ceiling) none_yet (run_meets ceiling)

  -- The entries of a run that went to its end lead to its history.
  pub run_entries : (ceiling : ℕ) (ty : Ty) (c : Checker) → run schema ast ceiling ≡ goes ty c
      → EntriesLead ceiling (replicate (length nodes) None) start c.entries c.state.history
  unfolding begin Calls.begin Reached
  run_entries ceiling ty c e = ((going (rw e at (run_meets ceiling))).reached ceiling (replicate (length nodes) None) [] none_yet).2 no_entry

  pub run_demand_3 : (ceiling : ℕ) → RunDemand3 schema ast ceiling
  run_demand_3 ceiling = record {
    calls = run_led ceiling;
    claim = led_claim ceiling (replicate (length nodes) None) (ending (run schema ast ceiling)).state (run_led ceiling);
  }

  pub run_robinson : (ceiling : ℕ) → RunAsRobinson schema ast ceiling
  run_robinson ceiling = led_robinson ceiling (replicate (length nodes) None) (ending (run schema ast ceiling)).state (run_led ceiling)

-- ---- For every query of a file that passes
pub sound_well_formed : (d : Described) → Sound d → WellFormed d.schema d.ast
sound_well_formed d s = record { declared = s.predicates; lower = s.lower; once = s.once; query = s.query }
