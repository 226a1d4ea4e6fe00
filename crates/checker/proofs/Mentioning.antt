-- `check_fields`: the fields that a pattern mentions, one by one. A turn finds the field's type and checks its value in
-- a scope of its own, or reports at the value that there is no such field.
use mathlib.Core.List.{List, [], ◌∷◌}
use mathlib.Core.Path.{◌≡◌, refl, sym, ◌∙◌, ap}
use Prim.Native.Nat.{ℕ, ◌+◌, ◌-◌, ◌≤◌, ◌<◌}
use native.Mathlib.Omega.{arith}
use Rattle.unification.specs.Ty as Tree
use Rattle.unification.specs.Unify.{find_key}
use Rattle.unification.specs.Calls.{SideRow}
use Rattle.unification.proofs.Tests.{clash}
use Rattle.unification.proofs.Sides.{side_more, Part, find_part, Field, fields}
use Rattle.cells.specs.declared.Part.{Part as Found}
use Rattle.cells.specs.declared.Kind.TheVariants.{Fields}
use Rattle.cells.specs.declared.Part as Cell
use Rattle.cells.specs.Stands.{Rows, tree}
use Rattle.cells.specs.Promises.{found_part, FindsKey}
use Rattle.format.specs.Syntax as Syntax
use Rattle.format.specs.References.{field_values}
use Rattle.format.specs.File.{Described}
use Rattle.meaning.specs.Check.{Checker, Step, Does, check_mentioned, check_fields}
use Rattle.meaning.specs.Weights.{sum_of}
use Rattle.meaning.specs.Grades.{unknowns, Ready, one_diagnostic, checking}
use Rattle.meaning.proofs.Meets.{Meets, meets_fits}
use Rattle.meaning.proofs.Steps.{Nothing, reject_meets}
use Rattle.meaning.proofs.Visits.{size_pos, check_field_meets}
use Rattle.messages.specs.declared.Message.TheVariants as Message
use Rattle.tree.specs.declared.items.Items.{Items}
use Rattle.tree.specs.Nodes.{field_w, field_of, fields_from}
use Rattle.steps.specs.Ends.{done, StepEnds}
use Rattle.steps.specs.Loads.{Load, both, FitsIn, checks, visits, Begins}
use Rattle.steps.specs.Promises.{nodes_of, FineRecord, Rejects, Named, AllNamed}
use Rattle.checker.specs.Promises.{below, Mentions, ChecksFields}
use Rattle.checker.proofs.Within.{ChecksField}
use Rattle.steps.proofs.Growing.{cell_kept}
use Rattle.steps.proofs.Reading.{fields_some, fields_none}
use Rattle.steps.proofs.Results.{on_here, stop_done}
use Rattle.checker.proofs.Looping.{Midway, mid_start, mid_ends, mid_led, mid_after}
use Rattle.checker.proofs.Inferring.{good}
use Rattle.checker.proofs.Against.{rejected}
use Rattle.std.specs.Prelude.{None, Option, Some}

-- ---- A turn
abbrev mentioning : Described → ℕ → Syntax.Field → Tree.Row → Does (Unit {0})
mentioning d k x row = check_mentioned d.schema (nodes_of d) (below d k) x (find_key x.name row)

module _ {f w ou w' ou' : List ℕ} {name value e left : ℕ} {found : Option Found} (F : FindsKey w Fields e name found) where
  pub mentions_field : {p : Cell.Part} {r : Option ℕ} → found ≡ Some p → ChecksField f w ou value p.ty left w' ou' r
      → Mentions f w ou name value e left w' ou' r
  unfolding check_mentioned
  mentions_field {p} g C = record {
    is = λ d k named. record {
      is = λ T c s fine.
          let q : find_key name (T e) ≡ Some (p.label, tree T p.ty) = sym (F.is T s.runs.holds.cells fine.cell) ∙ ap (found_part T) g in
          let side = (rw q at (find_part (Field (unknowns c)) name (T e) (fields (unknowns c) (T e) fine.side))).1 in
          rw q ((C.is d k named).is T c s (record { ok = rw g at (F.ok T s.runs.holds.cells fine.cell); side = side }));
    };
  }

  pub mentions_none : {r : Option ℕ} → found ≡ None → Rejects f w ou value (Message.NoField name) left w' ou' r
      → Mentions f w ou name value e left w' ou' r
  unfolding check_mentioned
  mentions_none g R = record {
    is = λ d k named. record {
      is = λ T c s fine.
          let q : find_key name (T e) ≡ None = sym (F.is T s.runs.holds.cells fine.cell) ∙ ap (found_part T) g in
          rw q (rejected k (Message.NoField name) tt R named.there s);
    };
  }

mentioned_meets : {f w ou : List ℕ} {T : Rows} {d : Described} {L : Load} {left : ℕ} {c : Checker} (k : ℕ) (x : Syntax.Field) (row : Tree.Row)
    → Begins f w ou T d L left c → SideRow (unknowns c) row → Ready (checking (nodes_of d) k x.value) c
    → Meets Nothing (checking (nodes_of d) k x.value) c (mentioning d k x row c)
unfolding check_mentioned
mentioned_meets {d = d} {c = c} k x row s side y = go (find_key x.name row) (find_part (Field (unknowns c)) x.name row (fields (unknowns c) row side))
  where
    go : (p : Option (ℕ × Tree.Ty)) → Part (Field (unknowns c)) p
        → Meets Nothing (checking (nodes_of d) k x.value) c (check_mentioned d.schema (nodes_of d) (below d k) x p c)
    go None q = meets_fits Nothing one_diagnostic (checking (nodes_of d) k x.value) c (omega (arith, size_pos (nodes_of d) k x.value))
        (reject_meets d.schema (nodes_of d) x.value _ c s.orderly)
    go (Some p) q = check_field_meets d.schema (nodes_of d) s.sound.predicates k (below d k) (good s k) x.value p.1 c s.orderly y q.1

-- ---- The loop
abbrev pub mentioning_all : Described → ℕ → Tree.Row → List Syntax.Field → Does (Unit {0})
mentioning_all d k row fs = check_fields d.schema (nodes_of d) (below d k) fs row

some_fits : (d : Described) (k : ℕ) (x : Syntax.Field) (fs : List Syntax.Field)
    → FitsIn (both (checks (nodes_of d) k x.value) (visits (nodes_of d) k (field_values fs))) (visits (nodes_of d) k (field_values (x ∷ fs)))
unfolding field_values sum_of
some_fits d k x fs = record { grade = omega arith; records = omega arith; fields = omega arith }

module _ {f w₀ ou₀ w ou : List ℕ} {T : Rows} {d : Described} {K : Load} {rest : ℕ} {c : Checker} {whole : Step (Unit {0})} (k e : ℕ)
    (fine : FineRecord w₀ e T c) where
  fields_done : Midway f w₀ ou₀ w ou T d K (visits (nodes_of d) k (field_values [])) rest c whole (mentioning_all d k (T e) [])
      → StepEnds f w₀ ou₀ w ou T d K.records K.fields (done (Some rest)) whole
  unfolding check_fields
  fields_done M = mid_ends M (on_here M.begins.runs M.begins.lines M.begins.visits)

  module _ {w' ou' : List ℕ} {r : Option ℕ} (x : Syntax.Field) (fs : List Syntax.Field)
      (M : Midway f w₀ ou₀ w ou T d K (visits (nodes_of d) k (field_values (x ∷ fs))) rest c whole (mentioning_all d k (T e) (x ∷ fs)))
      (named : Named d k x.value) (U : Mentions f w ou x.name x.value e rest w' ou' r) where
    row_side : SideRow (unknowns M.b) (T e)
    row_side = side_more (unknowns c) (unknowns M.b) M.up (Tree.node Tree.Record (T e)) fine.side

    row_same : M.T₁ e ≡ T e
    row_same = M.more.same Fields e fine.cell

    mentioned_ends : Begins f w ou M.T₁ d (checks (nodes_of d) k x.value) rest M.b
        → StepEnds f w ou w' ou' M.T₁ d (checks (nodes_of d) k x.value).records (checks (nodes_of d) k x.value).fields (done r)
        (mentioning d k x (T e) M.b)
    mentioned_ends s = rw (← row_same) ((U.is d k named).is M.T₁ M.b s
        (record { cell = cell_kept M.grew.adds fine.cell; side = rw row_same row_side }))

    fields_on : {l : ℕ} → r ≡ Some l → Midway f w₀ ou₀ w' ou' T d K (visits (nodes_of d) k (field_values fs)) l c whole (mentioning_all d k (T e) fs)
    unfolding check_fields
    fields_on {l} g =
        let L = mid_led M (checks (nodes_of d) k x.value) (visits (nodes_of d) k (field_values fs)) (some_fits d k x fs) Nothing
        (mentioning d k x (T e) M.b) (λ o. clash (cc (g, o)))
        (λ y. mentioned_meets k x (T e) M.begins row_side y) mentioned_ends in
        mid_after M (checks (nodes_of d) k x.value) (visits (nodes_of d) k (field_values fs)) (some_fits d k x fs) Nothing
        (mentioning d k x (T e) M.b) L (λ u. mentioning_all d k (T e) fs) l refl (cc (g, L.gone.is))

    fields_stop : r ≡ None → StepEnds f w₀ ou₀ w' ou' T d K.records K.fields (done None) whole
    unfolding check_fields
    fields_stop g = mid_ends M (stop_done (checks (nodes_of d) k x.value) (visits (nodes_of d) k (field_values fs))
        (visits (nodes_of d) k (field_values (x ∷ fs))) (some_fits d k x fs) Nothing (mentioning d k x (T e) M.b)
        (λ u. mentioning_all d k (T e) fs) g refl M.begins mentioned_ends)

pub record FieldsGoing (f w₀ ou₀ : List ℕ) (l : Items) (e left : ℕ) (w ou : List ℕ) (i rest : ℕ) : Type 0 where
  pub within : i ≤ l.n
  pub named : (d : Described) (k : ℕ) → AllNamed d k (field_values (fields_from f l 0 l.n)) → AllNamed d k (field_values (fields_from f l i (l.n - i)))
  pub to : (d : Described) (k : ℕ) (fs : List Syntax.Field) → fs ≡ fields_from f l 0 l.n → AllNamed d k (field_values fs) → (T : Rows) (c : Checker)
      → Begins f w₀ ou₀ T d (visits (nodes_of d) k (field_values fs)) left c → FineRecord w₀ e T c
      → Midway f w₀ ou₀ w ou T d (visits (nodes_of d) k (field_values fs)) (visits (nodes_of d) k (field_values (fields_from f l i (l.n - i)))) rest c
      (mentioning_all d k (T e) fs c) (mentioning_all d k (T e) (fields_from f l i (l.n - i)))

pub fields_start : (f w : List ℕ) {ou : List ℕ} (l : Items) (e left : ℕ) → FieldsGoing f w ou l e left w ou 0 left
fields_start f w l e left =
    let z : l.n - 0 ≡ l.n = omega arith in
    record {
      within = omega arith;
      named = λ d k h. rw z h;
      to = λ d k fs q all T c s fine. rw (z, ← q)
          (mid_start (mentioning_all d k (T e) fs c) (mentioning_all d k (T e) fs) s refl);
    }

module _ {f w₀ ou₀ w ou : List ℕ} {l : Items} {e left i rest : ℕ} (A : FieldsGoing f w₀ ou₀ l e left w ou i rest) where
  pub fields_end : l.n ≤ i → ChecksFields f w₀ ou₀ l e left w ou (Some rest)
  fields_end h = record {
    is = λ d k fs q named. record
        { is = λ T c s fine. fields_done k e fine (rw (fields_none f l i h) at (A.to d k fs q named T c s fine)) };
  }

  module _ (h : i < l.n) {w' ou' : List ℕ} {r : Option ℕ} (U : Mentions f w ou (field_w f l i).name (field_w f l i).value e rest w' ou' r) where
    first_named : (d : Described) (k : ℕ) → AllNamed d k (field_values (fields_from f l 0 l.n))
        → AllNamed d k (field_values (field_of (field_w f l i) ∷ fields_from f l (i + 1) (l.n - (i + 1))))
    first_named d k all = rw (fields_some f l i h) at (A.named d k all)

    pub fields_out : r ≡ None → ChecksFields f w₀ ou₀ l e left w' ou' None
    unfolding field_values field_of
    fields_out g = record {
      is = λ d k fs q named. record {
        is = λ T c s fine.
            fields_stop k e fine (field_of (field_w f l i)) (fields_from f l (i + 1) (l.n - (i + 1)))
            (rw (fields_some f l i h) at (A.to d k fs q named T c s fine)) (first_named d k (rw q at named)).0 U g;
      };
    }

    pub fields_next : {left' : ℕ} → r ≡ Some left' → FieldsGoing f w₀ ou₀ l e left w' ou' (i + 1) left'
    unfolding field_values field_of
    fields_next g = record {
      within = omega arith;
      named = λ d k all. (first_named d k all).1;
      to = λ d k fs q named T c s fine. fields_on k e fine (field_of (field_w f l i)) (fields_from f l (i + 1) (l.n - (i + 1)))
          (rw (fields_some f l i h) at (A.to d k fs q named T c s fine)) (first_named d k (rw q at named)).0 U g;
    }
