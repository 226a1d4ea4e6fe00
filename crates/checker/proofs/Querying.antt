-- `query`: the statements, then the head, which reads variables that they bind.
use mathlib.Core.List.{List}
use mathlib.Core.Path.{◌≡◌, refl, sym, subst, ◌∙◌, ap}
use Prim.Native.Nat.{ℕ, ◌<◌, ◌≤◌}
use native.Mathlib.Omega.{arith}
use lib.ListN.{length, get_or}
use Rattle.work.specs.Layout.{LEFT}
use Rattle.unification.specs.Ty as Tree
use Rattle.unification.proofs.Tests.{clash}
use Rattle.cells.specs.declared.Ty.{Ty}
use Rattle.cells.specs.Stands.{Rows}
use Rattle.cells.proofs.Frame.{keeps_trans}
use Rattle.format.specs.Syntax.{Query}
use Rattle.format.specs.References.{stmt_nodes, query_nodes}
use Rattle.format.specs.File.{Described}
use Rattle.meaning.specs.Check.{Until, Checker, Step, goes, and_then, form, head_form, leave, infer_query, query, begin}
use Rattle.meaning.specs.Check.{begin_until}
use Rattle.meaning.specs.Weights.{sum_of}
use Rattle.format.specs.Conditions.{max_nodes}
use Rattle.format.specs.Sound.{Sound}
use Rattle.meaning.proofs.Run.{nothing_yet, begin_orderly, begin_ready, query_size, query_records, query_fields, sound_well_formed}
use Rattle.tree.specs.Stands.{Stands}
use Rattle.meaning.specs.Grades.{Grade, Orderly, Ready, no_thing, one_diagnostic}
use Rattle.meaning.proofs.Steps.{Nothing, IsSide}
use Rattle.meaning.proofs.Visits.{size_pos, stmts_meets, head_form_meets, infer_query_meets}
use Rattle.tree.specs.declared.items.Stmts.{Stmts}
use Rattle.tree.specs.Nodes.{stmts_w, head_w, BodyIs}
use Rattle.tree.proofs.QuerySays.{query_head_is, query_body_is}
use Rattle.format.proofs.Lists.{all_map}
use Rattle.format.proofs.Tests.{all_below_lem}
use Rattle.state.specs.declared.Until as Code
use Rattle.state.specs.Lines.{until_of}
use Rattle.state.proofs.Lending.{Within}
use Rattle.steps.specs.Ends.{typed, counted, silent, StepEnds, went, spent}
use Rattle.steps.specs.Loads.{Load, only, both, FitsIn, infers, visits, Begins}
use Rattle.steps.specs.Promises.{nodes_of, only_w, Leaves, Starts, Named, AllNamed, Heads}
use Rattle.steps.specs.Outside.{ChecksHead, StartsRun}
use Rattle.checker.specs.Promises.{below, Infers, StatesAll, Ran, to_the_end, ended_early, run_until, Queries}
use Rattle.steps.proofs.Sequel.{gone_as, then_ends, stop_ends}
use Rattle.steps.proofs.Results.{with_visits, then_done, stop_done}
use Rattle.checker.proofs.Inferring.{good}
use Rattle.checker.proofs.Bodies.{saying_all}
use Rattle.checker.specs.Paid.{Pays, Notes}
use Rattle.unify.specs.declared.Purse.{Purse}
use Rattle.std.specs.Prelude.{None, Option, Some, ℕ}

-- The depth is the number of nodes.
abbrev depth : Described → ℕ
depth d = length (nodes_of d)

query_fits : (d : Described) (q : Query) → FitsIn
    (both (visits (nodes_of d) (depth d) (stmt_nodes q.body)) (both (only one_diagnostic) (infers (nodes_of d) (depth d) q.head)))
    (visits (nodes_of d) (depth d) (query_nodes q))
unfolding query_nodes sum_of
query_fits d q = record { grade = omega (arith, size_pos (nodes_of d) (depth d) q.head); records = omega arith; fields = omega arith }

counted_ends : {f w ou w' ou' : List ℕ} {T : Rows} {d : Described} {n m : ℕ} {r : Option (Ty × ℕ)} {s : Step Tree.Ty}
    → StepEnds f w ou w' ou' T d n m (typed w' r) s → StepEnds f w ou w' ou' T d n m (counted (only_w r)) s
counted_ends (went g) = went (gone_as (omega arith) (omega arith) (λ R x. ap only_w x.res) g)
counted_ends (spent g) = spent (gone_as (omega arith) (omega arith) (λ R x. (ap only_w x.0, x.1)) g)

module _ {f w ou w₁ ou₁ : List ℕ} {body : Stmts} {left : ℕ} {x : Option ℕ} (S : StatesAll f w ou body left w₁ ou₁ x) (T : Rows) (d : Described)
    (c : Checker) (q : Query) (e : q.body ≡ stmts_w f body)
    (named : AllNamed d (depth d) (query_nodes q)) (s : Begins f w ou T d (visits (nodes_of d) (depth d) (query_nodes q)) left c) where
  pub query_out : x ≡ None → StepEnds f w ou w₁ ou₁ T d (visits (nodes_of d) (depth d) (query_nodes q)).records
      (visits (nodes_of d) (depth d) (query_nodes q)).fields (counted None) (infer_query d.schema (nodes_of d) q c)
  unfolding infer_query query_nodes
  query_out g = stop_done (visits (nodes_of d) (depth d) (stmt_nodes q.body)) (both (only one_diagnostic) (infers (nodes_of d) (depth d) q.head))
      (visits (nodes_of d) (depth d) (query_nodes q)) (query_fits d q) Nothing (saying_all d (depth d) q.body c)
      (λ u b. and_then (head_form d.schema (nodes_of d) q.head (form d.schema (nodes_of d) q.head) b)
      (λ u. (below d (depth d)).infer q.head)) g refl s
      (λ s₁. (S.is d (depth d) q.body e named.1).is T c s₁ tt)

  module _ {l : ℕ} (g : x ≡ Some l) {w₂ ou₂ : List ℕ} {y : Option ℕ} (H : Heads f w₁ ou₁ q.head l w₂ ou₂ y) where
    -- The head, after the statements.
    query_head : {w₃ ou₃ : List ℕ} {z : Option ℕ}
        → ((T₁ : Rows) (b : Checker) → Begins f w₁ ou₁ T₁ d (both (only one_diagnostic) (infers (nodes_of d) (depth d) q.head)) l b
        → StepEnds f w₁ ou₁ w₃ ou₃ T₁ d (both (only one_diagnostic) (infers (nodes_of d) (depth d) q.head)).records
        (both (only one_diagnostic) (infers (nodes_of d) (depth d) q.head)).fields (counted z)
        (and_then (head_form d.schema (nodes_of d) q.head (form d.schema (nodes_of d) q.head) b) (λ u. (below d (depth d)).infer q.head)))
        → StepEnds f w ou w₃ ou₃ T d (visits (nodes_of d) (depth d) (query_nodes q)).records (visits (nodes_of d) (depth d) (query_nodes q)).fields
        (counted z) (infer_query d.schema (nodes_of d) q c)
    unfolding infer_query query_nodes
    query_head rest =
        let k = depth d in
        then_done (visits (nodes_of d) k (stmt_nodes q.body)) (both (only one_diagnostic) (infers (nodes_of d) k q.head))
        (visits (nodes_of d) k (query_nodes q)) (query_fits d q) Nothing (saying_all d k q.body c)
        (λ u b. and_then (head_form d.schema (nodes_of d) q.head (form d.schema (nodes_of d) q.head) b) (λ u. (below d k).infer q.head)) g s
        (λ y. stmts_meets d.schema (nodes_of d) s.sound.predicates k (below d k) (good s k) q.body c s.orderly y)
        (λ s₁. (S.is d k q.body e named.1).is T c s₁ tt)
        (λ T₁ b a. rest T₁ b a.begins)

    abbrev head_fits : FitsIn (both (only one_diagnostic) (infers (nodes_of d) (depth d) q.head))
        (both (only one_diagnostic) (infers (nodes_of d) (depth d) q.head))
    head_fits = record { grade = omega arith; records = omega arith; fields = omega arith }

    pub query_on : {w₃ ou₃ : List ℕ} {v : ℕ} {r : Option (Ty × ℕ)} → y ≡ Some v → Infers f w₂ ou₂ q.head v w₃ ou₃ r
        → StepEnds f w ou w₃ ou₃ T d (visits (nodes_of d) (depth d) (query_nodes q)).records (visits (nodes_of d) (depth d) (query_nodes q)).fields
        (counted (only_w r)) (infer_query d.schema (nodes_of d) q c)
    unfolding query_nodes
    query_on h I = query_head (λ T₁ b s₁.
        then_done (only one_diagnostic) (infers (nodes_of d) (depth d) q.head) (both (only one_diagnostic) (infers (nodes_of d) (depth d) q.head))
        head_fits Nothing
        (head_form d.schema (nodes_of d) q.head (form d.schema (nodes_of d) q.head) b) (λ u. (below d (depth d)).infer q.head) h s₁
        (λ y. head_form_meets d.schema (nodes_of d) s.sound.predicates q.head (form d.schema (nodes_of d) q.head) b s₁.orderly)
        (λ s₂. (H d named.0.there).is T₁ b s₂ tt)
        (λ T₂ b₂ a₂. counted_ends ((I.is d (depth d) named.0).is T₂ b₂ a₂.begins tt)))

    pub query_head_out : y ≡ None
        → StepEnds f w ou w₂ ou₂ T d (visits (nodes_of d) (depth d) (query_nodes q)).records (visits (nodes_of d) (depth d) (query_nodes q)).fields
        (counted None) (infer_query d.schema (nodes_of d) q c)
    unfolding query_nodes
    query_head_out h = query_head (λ T₁ b s₁.
        stop_done (only one_diagnostic) (infers (nodes_of d) (depth d) q.head) (both (only one_diagnostic) (infers (nodes_of d) (depth d) q.head))
        head_fits Nothing
        (head_form d.schema (nodes_of d) q.head (form d.schema (nodes_of d) q.head) b) (λ u. (below d (depth d)).infer q.head) h refl s₁
        (λ s₂. (H d named.0.there).is T₁ b s₂ tt))

-- ---- At the end every entry leaves
module _ {f w ou : List ℕ} {left : ℕ} (T : Rows) (d : Described) (c : Checker) (q : Query)
    (s : Begins f w ou T d (visits (nodes_of d) (depth d) (query_nodes q)) left c) where
  abbrev whole : Load
  whole = visits (nodes_of d) (depth d) (query_nodes q)

  whole_fits : FitsIn (both (visits (nodes_of d) (depth d) (query_nodes q)) (only no_thing)) (visits (nodes_of d) (depth d) (query_nodes q))
  whole_fits = record { grade = omega arith; records = omega arith; fields = omega arith }

  pub query_stops : {w₁ ou₁ : List ℕ} → StepEnds f w ou w₁ ou₁ T d whole.records whole.fields (counted None) (infer_query d.schema (nodes_of d) q c)
      → StepEnds f w ou w₁ ou₁ T d whole.records whole.fields (counted None) (query d.schema (nodes_of d) q c)
  unfolding query
  query_stops first = stop_ends whole (only no_thing) whole whole_fits (infer_query d.schema (nodes_of d) q c)
      (λ ty b. and_then (leave d.schema (nodes_of d) 0 b) (λ u z. goes ty z))
      (λ R ty v i. clash (cc i)) (λ o. refl) s (λ s₁. first)

  left_counted : {w₁ ou₁ w₂ ou₂ : List ℕ} {T₁ : Rows} {n m v : ℕ} {x : Step (Unit {0})} (ty : Tree.Ty) → StepEnds f w₁ ou₁ w₂ ou₂ T₁ d n m (silent v) x
      → StepEnds f w₁ ou₁ w₂ ou₂ T₁ d n m (counted (Some v)) (and_then x (λ u z. goes ty z))
  unfolding and_then
  left_counted ty (went g) = went (record { T' = g.T'; more = g.more; runs = g.runs; lines = g.lines; grew = g.grew; is = ap Some (sym g.is) })
  left_counted ty (spent g) = absurd g.is.0

  pub query_leaves : {w₁ ou₁ w₂ ou₂ : List ℕ} {v : ℕ} → StepEnds f w ou w₁ ou₁ T d whole.records whole.fields (counted (Some v))
      (infer_query d.schema (nodes_of d) q c) → Leaves f w₁ ou₁ 0 w₂ ou₂
      → StepEnds f w ou w₂ ou₂ T d whole.records whole.fields (counted (Some v)) (query d.schema (nodes_of d) q c)
  unfolding query
  query_leaves {v = v} first L =
      then_ends whole (only no_thing) whole whole_fits IsSide (infer_query d.schema (nodes_of d) q c)
      (λ ty b. and_then (leave d.schema (nodes_of d) 0 b) (λ u z. goes ty z)) (λ o. clash (cc o)) s
      (λ y. infer_query_meets d.schema (nodes_of d) s.sound.predicates q c s.orderly y) (λ s₁. first)
      (λ ty b g h s₂. let visits : b.state.left ≡ v = cc g.is in left_counted ty ((L d v).is g.T' b (with_visits visits s₂) (omega arith)))

-- ---- The start: no node has a type, and all that the query's nodes make fits

module _ (u : Until) (ceiling : ℕ) where
  until_orderly : (n : ℕ) → Orderly (begin_until u ceiling n)
  unfolding begin begin_until
  until_orderly n = let o = begin_orderly ceiling n in record
      { log = o.log; env = o.env; few = o.few; marks = o.marks; sides = o.sides; awaits = nothing_yet u }

  until_ready : (g : Grade) (n : ℕ) → Ready g (begin ceiling n) → Ready g (begin_until u ceiling n)
  unfolding begin begin_until
  until_ready g n y = record { once = y.once; there = y.there; bare = y.bare }

pub query_begins : {f w w₁ ou₁ : List ℕ} (u : Code.Until) (T : Rows) (d : Described) (ceiling : ℕ) → Starts f w u w₁ → Sound d → Stands f w T d
    → Begins f w₁ ou₁ T d (visits (nodes_of d) (depth d) (query_nodes d.ast.query)) ceiling (begin_until (until_of u) ceiling (depth d))
unfolding begin_until max_nodes
query_begins u T d ceiling S sound stands =
    let wf = sound_well_formed d sound in
    record {
      sound = sound;
      runs = S.is T d ceiling sound stands;
      lines = S.lines _ d ceiling stands.long;
      orderly = until_orderly (until_of u) ceiling (depth d);
      visits = refl;
      free = record {
        ready = until_ready (until_of u) ceiling _ (depth d) (begin_ready d.schema d.ast wf ceiling);
        unknowns = omega (arith, query_size d.schema d.ast wf, sound.nodes_max);
        diagnostics = omega (arith, query_size d.schema d.ast wf, sound.nodes_max);
        records = omega (arith, S.records, query_records d.schema d.ast wf, sound.nodes_max);
        fields = omega (arith, S.fields, query_fields d.schema d.ast wf, sound.nodes_max);
      };
    }

-- ---- The whole
ran : {f w ou w' ou' : List ℕ} {T : Rows} {d : Described} {n m : ℕ} {r : Option ℕ} {s : Step Tree.Ty} → StepEnds f w ou w' ou' T d n m (counted r) s
    → Ran f w' ou' d r s
ran (went g) = to_the_end g.T' g.runs g.lines g.is
ran (spent g) = ended_early g.T' g.runs g.lines g.is.1 g.is.0

query_named : (d : Described) → Sound d → AllNamed d (depth d) (query_nodes d.ast.query)
query_named d sound = all_map (λ m. m < depth d) (Named d (depth d)) (query_nodes d.ast.query) (λ m l. record { there = l; under = l }) sound.query

from_start : {f w w₁ v : List ℕ} {u : Code.Until} → Starts f w u w₁ → Within w₁ v → Within w v
from_start s k = keeps_trans s.keeps k

module _ {f w w₁ : List ℕ} {u : Code.Until} (ceiling : ℕ) {head : ℕ} {b : Stmts} (S : StartsRun w u w₁) (hd : head ≡ head_w f w₁) (bd : BodyIs w₁ b) where
  module _ (ou : List ℕ) (T : Rows) (d : Described) (sound : Sound d) (stands : Stands f w T d) where
    starts : Begins f w₁ ou T d (visits (nodes_of d) (depth d) (query_nodes d.ast.query)) ceiling (begin_until (until_of u) ceiling (depth d))
    starts = query_begins u T d ceiling (S.is f) sound stands

    head_is : head ≡ d.ast.query.head
    head_is = hd ∙ query_head_is f w₁ d.ast.query starts.runs.stands.query

    body_says : d.ast.query.body ≡ stmts_w f b
    body_says = sym (query_body_is f w₁ d.ast.query starts.runs.stands.query bd (depth d) starts.runs.stands.few
        (rw (all_below_lem (depth d) (query_nodes d.ast.query) sound.query) tt))

  module _ {ou w₂ ou₂ : List ℕ} {x : Option ℕ} (D : StatesAll f w₁ ou b ceiling w₂ ou₂ x) where
    pub queried_out : x ≡ None → Within w₁ w₂ → length ou₂ ≡ length ou → Queries f w ou u ceiling w₂ ou₂ None
    unfolding run_until
    queried_out e keeps slice = record {
      is = λ T d sound stands. ran (query_stops T d (begin_until (until_of u) ceiling (depth d)) d.ast.query (starts ou T d sound stands)
          (query_out D T d (begin_until (until_of u) ceiling (depth d)) d.ast.query (body_says ou T d sound stands) (query_named d sound)
          (starts ou T d sound stands) e));
      words = (from_start (S.is f) keeps).long;
      slice = slice;
      keeps = from_start (S.is f) keeps;
      fewer = λ l i. clash (cc i);
    }

    module _ {w₃ ou₃ : List ℕ} {l : ℕ} {y : Option ℕ} (e : x ≡ Some l) (H : ChecksHead f w₂ ou₂ head l w₃ ou₃ y) where
      head_at : (T : Rows) (d : Described) → Sound d → Stands f w T d → Heads f w₂ ou₂ d.ast.query.head l w₃ ou₃ y
      head_at T d sound stands = subst (λ (n : ℕ). Heads f w₂ ou₂ n l w₃ ou₃ y) (head_is ou T d sound stands) H.is

      pub queried_head_out : y ≡ None → Within w₁ w₃ → length ou₃ ≡ length ou → Queries f w ou u ceiling w₃ ou₃ None
      unfolding run_until
      queried_head_out h keeps slice = record {
        is = λ T d sound stands.
            ran (query_stops T d (begin_until (until_of u) ceiling (depth d)) d.ast.query (starts ou T d sound stands)
            (query_head_out D T d (begin_until (until_of u) ceiling (depth d)) d.ast.query (body_says ou T d sound stands) (query_named d sound)
            (starts ou T d sound stands) e (head_at T d sound stands) h));
        words = (from_start (S.is f) keeps).long;
        slice = slice;
        keeps = from_start (S.is f) keeps;
        fewer = λ l i. clash (cc i);
      }

      module _ {w₄ ou₄ : List ℕ} {v : ℕ} {r : Option (Ty × ℕ)} (h : y ≡ Some v) (I : Infers f w₃ ou₃ head v w₄ ou₄ r) where
        inferred : (T : Rows) (d : Described) (sound : Sound d) (stands : Stands f w T d)
            → StepEnds f w₁ ou w₄ ou₄ T d (visits (nodes_of d) (depth d) (query_nodes d.ast.query)).records
            (visits (nodes_of d) (depth d) (query_nodes d.ast.query)).fields (counted (only_w r))
            (infer_query d.schema (nodes_of d) d.ast.query (begin_until (until_of u) ceiling (depth d)))
        inferred T d sound stands =
            query_on D T d (begin_until (until_of u) ceiling (depth d)) d.ast.query (body_says ou T d sound stands) (query_named d sound)
            (starts ou T d sound stands) e (head_at T d sound stands) h
            (subst (λ (n : ℕ). Infers f w₃ ou₃ n v w₄ ou₄ r) (head_is ou T d sound stands) I)

        pub queried_infer_out : r ≡ None → Within w₁ w₄ → length ou₄ ≡ length ou → Queries f w ou u ceiling w₄ ou₄ None
        unfolding run_until
        queried_infer_out z keeps slice = record {
          is = λ T d sound stands. ran (query_stops T d (begin_until (until_of u) ceiling (depth d)) d.ast.query (starts ou T d sound stands)
              (rw z at (inferred T d sound stands)));
          words = (from_start (S.is f) keeps).long;
          slice = slice;
          keeps = from_start (S.is f) keeps;
          fewer = λ l i. clash (cc i);
        }

        pub queried_on : {w₅ : List ℕ} {t : Ty} {l' : ℕ} → r ≡ Some (t, l') → Leaves f w₄ ou₄ 0 w₅ ou₄ → Within w₁ w₅
            → length ou₄ ≡ length ou → l' ≤ ceiling → Queries f w ou u ceiling w₅ ou₄ (Some l')
        unfolding run_until
        queried_on {l' = l'} z L keeps slice most = record {
          is = λ T d sound stands. ran (query_leaves T d (begin_until (until_of u) ceiling (depth d)) d.ast.query (starts ou T d sound stands)
              (rw z at (inferred T d sound stands)) L);
          words = (from_start (S.is f) keeps).long;
          slice = slice;
          keeps = from_start (S.is f) keeps;
          fewer = λ l i. let same : l' ≡ l = cc i in omega (arith, same, most);
        }

-- The slices that come back are those that the run had.
pub queried_as : {f w ou w₁ ou₁ w₂ ou₂ : List ℕ} {u : Code.Until} {ceiling : ℕ} {r : Option ℕ} → Queries f w ou u ceiling w₁ ou₁ r → w₂ ≡ w₁ → ou₂ ≡ ou₁
    → Queries f w ou u ceiling w₂ ou₂ r
queried_as Q p q = rw (p, q) Q

pub pays_as : (ceiling : ℕ) (p : Purse) {p' p'' : Purse} → Pays ceiling p p' → p'' ≡ p' → Pays ceiling p p''
pays_as ceiling p h e = subst (Pays ceiling p) (sym e) h

pub notes_none : {w w' : List ℕ} {p p' : Purse} → (LEFT < length w → get_or w LEFT 0 ≡ p.left) → w' ≡ w → p' ≡ p → Notes w' p' None
notes_none h q e = rw (q, e) (record { back = λ l x. clash (cc x); noted = λ n. h })

pub notes_some : {w : List ℕ} {p p' : Purse} {left : ℕ} → left ≡ p.left → p' ≡ p → Notes w p' (Some left)
notes_some {left = left} h e = rw e (record { back = λ l x. let same : left ≡ l = cc x in sym same ∙ h; noted = λ n. clash (cc n) })
