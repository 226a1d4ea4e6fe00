-- Every query's run of a form is a list of the code's calls: what stands between two queries has the schema's words as the reading left them,
-- since `load` changes those of nodes and of the query alone and `query` those of a run, and the queries that are left lie ahead.
use mathlib.Core.List.{List, ◌∷◌}
use mathlib.Core.Path.{◌≡◌, refl, subst, ◌∙◌}
use Prim.Native.Nat.{ℕ, suc, ◌<◌, ◌≤◌}
use native.Mathlib.Omega.{arith}
use lib.ListN.{length, get_or, drop}
use lib.Seq.{drop-cons}
use Rattle.work.specs.Layout.{FIELDS, RECORD-COUNT}
use Rattle.cells.specs.Stands.{Rows}
use Rattle.cells.proofs.Frame.{more_refl}
use Rattle.format.specs.Syntax.{Ast}
use Rattle.format.specs.Frame.{wide}
use Rattle.format.specs.File.{Form, view_of, no_ast, view_at, described, reading}
use Rattle.format.specs.Conditions.{max_names, max_predicates}
use Rattle.format.specs.Sound.{Sound}
use Rattle.format.proofs.Refused.{described_when}
use Rattle.format.proofs.Sound.{sound_at}
use Rattle.meaning.specs.Outcome.{min_words}
use Rattle.tree.specs.Stands.{SchemaStands, Stands}
use Rattle.state.proofs.Standing.{schema_stands}
use Rattle.loading.specs.Promises.{Ahead, Loads}
use Rattle.loading.proofs.Lines.{all_ahead}
use Rattle.runs.specs.Beginning.{SameSchema, AfterReading}
use Rattle.runs.specs.Sequence.{AfterQueries, after_reading, after_query, QueryCalls, EachCalls}
use Rattle.runs.proofs.Beginning.{run_begins}
use Rattle.runs.proofs.CodeRan.{code_ran}

module _ {f w : List ℕ} {form : Form} (A : AfterReading f w form) (is : reading f ≡ described form) where
  -- What k queries left alone.
  record Kept (k at : ℕ) (v : List ℕ) : Type 0 where
    same : SameSchema w v
    parts : (i : ℕ) → FIELDS ≤ i → i < RECORD-COUNT → get_or v i 0 ≡ get_or w i 0
    long : length v ≡ length w
    ahead : k ≤ length form.queries → Ahead f at (drop k form.queries)

  sound_of : (k : ℕ) → k < length form.queries → Sound (view_at form k)
  sound_of = sound_at f form is

  query_there : {k at : ℕ} {v : List ℕ} → Kept k at v → k < length form.queries → Ahead f at ((view_at form k).ast ∷ drop (suc k) form.queries)
  unfolding view_at view_of
  query_there {k} {at} K p = subst (Ahead f at) (drop-cons form.queries k no_ast p) (K.ahead (omega arith))

  kept : {k at : ℕ} {v : List ℕ} → AfterQueries f w k at v → Kept k at v
  kept after_reading = record {
    same = λ i lt m n. refl;
    parts = λ i lo hi. refl;
    long = refl;
    ahead = λ p. all_ahead f form (described_when wide f form is).size is;
  }
  kept (after_query {k} b l q) =
      let K = kept b in
      record {
        same = λ i lt m n. q.keeps.below i (omega arith) ∙ l.words.below i lt m n ∙ K.same i lt m n;
        parts = λ i lo hi. q.keeps.below i hi ∙ l.words.above i lo ∙ K.parts i lo hi;
        long = q.words ∙ l.words.long ∙ K.long;
        ahead = λ p. l.ahead (view_at form k) (drop (suc k) form.queries) (sound_of k (omega arith)) (omega (arith, A.long, K.long))
            (query_there K (omega arith));
      }

  module _ {k at : ℕ} {v : List ℕ} (K : Kept k at v) (p : k < length form.queries) where
    loaded : {next : ℕ} {v₁ : List ℕ} → Loads f at v v₁ next → Stands f v₁ A.rows (view_at form k)
    unfolding max_names max_predicates view_at view_of
    loaded l =
        let s = sound_of k p in
        let S = schema_stands w v K.same K.parts more_refl A.schema s.predicates_max s.names_max in
        l.stands A.rows (view_at form k) (drop (suc k) form.queries) s (omega (arith, A.long, K.long)) S (query_there K p)

    calls : QueryCalls f v at A.rows (view_at form k)
    calls = record {
      begins = λ l B left. run_begins A (sound_of k p) (λ i lt m n. l.words.below i lt m n ∙ K.same i lt m n) (loaded l) B left;
      ran = λ l q. code_ran (sound_of k p) (loaded l) q;
    }

  pub each_calls : EachCalls f w A.rows form
  each_calls k at v b p = calls (kept b) p
