-- Where lists of the code's calls begin. The schema types that a reading declares are permitted sides, and stay in the words while the
-- nodes of a query are put there and a run or a list is begun.
use mathlib.Core.List.{List, []}
use mathlib.Core.Path.{◌≡◌, subst, ◌∙◌}
use Prim.Native.Nat.{ℕ, ◌<◌, ◌≤◌}
use native.Mathlib.Omega.{arith}
use lib.ListN.{length}
use borrow.Author.Tests.{le-ltb}
use Rattle.unification.specs.Calls as Calls
use Rattle.work.specs.Layout.{END}
use Rattle.cells.specs.CodeCalls.{untyped, CodeCalls, none_yet}
use Rattle.cells.proofs.Frame.{more_refl}
use Rattle.cells.proofs.CodeCalls.{declared_permitted}
use Rattle.format.specs.Frame.{wide}
use Rattle.format.specs.File.{Described, Form, view_of, view_at, described, reading, types_of}
use Rattle.format.specs.Conditions.{max_names, max_predicates}
use Rattle.meaning.specs.Check as Check
use Rattle.meaning.specs.Outcome.{min_words}
use Rattle.format.specs.Sound.{Sound}
use Rattle.format.proofs.Sound.{sound_at}
use Rattle.tree.specs.Stands.{Stands}
use Rattle.state.specs.declared.Until.{Until}
use Rattle.state.proofs.Standing.{cells_start, schema_stands}
use Rattle.steps.specs.Outside.{StartsRun}
use Rattle.calls.specs.Beginning.{begun_w}
use Rattle.calls.proofs.Beginning.{declares_kept, begun_keeps, begun_records, begun_fields, list_begins}
use Rattle.reading.specs.Promises.{ReadingEnds, reading_in, ReadsFile}
use Rattle.runs.specs.Beginning.{SameSchema, AfterReading}
use Rattle.std.specs.Prelude.{Ok}

-- `read_file` leaves it, where it accepts.
pub accepted : {f w₀ w : List ℕ} {form : Form} → min_words ≤ length w₀ → reading f ≡ described form → ReadsFile wide f w₀ w (Ok tt)
    → AfterReading f w form
unfolding ReadingEnds reading_in min_words
accepted {f} {w₀} {w} {form} enough is R =
    let x : ReadingEnds wide f w (Ok tt) (described form) = subst (ReadingEnds wide f w (Ok tt)) (past ∙ is) R.ends in
    record { long = x.1; rows = x.2.0; schema = x.2.1; types = x.2.2 }
  where
    past : reading_in wide f (length w₀) ≡ reading f
    past = rw (le-ltb (length w₀) 16384 enough, reading_in)

few_types : {f w : List ℕ} {form : Form} (A : AfterReading f w form) → length (types_of wide f) ≤ 256
few_types A = omega (arith, A.types.count, A.schema.types)

-- A run: a query's nodes are put into the words, and `begin` is called.
module _ {f w w₁ w₂ : List ℕ} {form : Form} {d : Described} (A : AfterReading f w form) (sound : Sound d)
    (same : SameSchema w w₁) (S : Stands f w₁ A.rows d) {u : Until} (B : StartsRun w₁ u w₂) where
  abbrev nodes : ℕ
  nodes = length d.ast.nodes

  pub run_begins : (v : ℕ) → CodeCalls v nodes w₂ A.rows v [] (Calls.begin v (untyped nodes))
  unfolding Calls.begin Check.begin_until
  run_begins v =
      let D = declares_kept {w = w} {w' = w₁} same (few_types A) A.types in
      none_yet ((B.is f).is A.rows d v sound S).holds
      (declared_permitted (declares_kept {w = w₁} {w' = w₂} (λ i lt m n. (B.is f).keeps.below i (omega arith)) (few_types A) D) (B.is f).records)

-- A list for programs in other languages: `sigla_begin` is called on what a reading left.
module _ {f w : List ℕ} {form : Form} (A : AfterReading f w form) (is : reading f ≡ described form) (k : ℕ) (below : k < length form.queries) where
  pub library_begins : (v : ℕ) → CodeCalls v 0 (begun_w w) A.rows v [] (Calls.begin v [])
  unfolding max_names max_predicates min_words view_at view_of
  library_begins v =
      let long : END ≤ length w = omega (arith, A.long) in
      let K = begun_keeps w long in
      let s = sound_at f form is k below in
      let S = schema_stands w (begun_w w) (λ i lt m n. K.below i (omega arith)) (λ i lo hi. K.below i hi) more_refl A.schema
      s.predicates_max s.names_max in
      list_begins w long A.types (few_types A) (cells_start S (begun_records w long) (begun_fields w long)) v
