-- How a line's step follows from the first condition that holds of it, and what a kind that may come says of the lines
-- before.
use mathlib.Core.Bool.{true, false}
use mathlib.Core.List.{List}
use mathlib.Core.Path.{◌≡◌, refl, sym, ap, subst, ◌∙◌}
use Prim.Native.Nat.{ℕ, ◌<◌}
use native.Mathlib.Omega.{arith}
use lib.ListN.{length}
use borrow.Author.Tests.{leb-false}
use Rattle.cells.specs.Stands.{Rows}
use Rattle.format.specs.Refusal as Refused
use Rattle.format.specs.Frame.{Kind, name, schema_type, predicate, node, query, may_stand}
use Rattle.format.specs.SoFar.{SoFar}
use Rattle.format.specs.Conditions.{max_names, max_types, max_predicates, max_nodes, max_queries, is_full, is_last_query_past}
use Rattle.format.proofs.Tests.{clash}
use Rattle.reading.specs.declared.Refusal.{Refusal}
use Rattle.work.specs.declared.Counters.{Counters}
use Rattle.reading.specs.Held.{Held}
use Rattle.reading.specs.Promises.{refusal, LineEnds}
use Rattle.format.specs.Frame.{Edition}
use Rattle.std.specs.Option.{ok_or}
use Rattle.std.specs.Prelude.{Err, None, Ok, Option, Result, Some}

module _ (ed : Edition) (f : List ℕ) (next : ℕ) (w : List ℕ) (kind : Option Kind) (so : SoFar) where
  pub refuses : (e : Refusal) (o : Option Refused.Refusal) → o ≡ Some (refusal e) → LineEnds ed f next w kind so (Err e) o
  refuses e o q = subst (LineEnds ed f next w kind so (Err e)) (sym q) (e, refl, refl)

  pub goes_on : (c : Counters) (T : Rows) (o : Option Refused.Refusal) → o ≡ None → Held ed f next w T c kind so → LineEnds ed f next w kind so (Ok c) o
  goes_on c T o q h = subst (LineEnds ed f next w kind so (Ok c)) (sym q) (c, refl, (T, h))

-- What `ok_or` and a failure say, or a success.
pub no_value : {A : Type 0} (o : Option A) (e x : Refusal) → ◌≡◌ {A = Result A Refusal} (Err x) (ok_or o e) → (x ≡ e) × (o ≡ None)
no_value None e x q = (cc, refl)
no_value (Some a) e x q = let z : ◌≡◌ {A = ℕ} 0 1 = cc in absurd (omega arith)

pub the_value : {A : Type 0} (o : Option A) (e : Refusal) (a : A) → ◌≡◌ {A = Result A Refusal} (Ok a) (ok_or o e) → o ≡ Some a
the_value None e a q = let z : ◌≡◌ {A = ℕ} 0 1 = cc in absurd (omega arith)
the_value (Some b) e a q = let z : a ≡ b = cc in ap Some (sym z)

-- A kind that may not come first comes after another.
pub begun : (p : Option Kind) (k : Kind) → may_stand p k ≡ true → may_stand None k ≡ false → (j : Kind) × (p ≡ Some j)
begun None k e f = clash (sym e ∙ f)
begun (Some j) k e f = (j, refl)

module _ (so : SoFar) where
  pub names_room : is_full so name ≡ false → length so.names < 256
  unfolding is_full max_names
  names_room h = leb-false max_names (length so.names) h

  pub types_room : is_full so schema_type ≡ false → length so.types < 256
  unfolding is_full max_types
  types_room h = leb-false max_types (length so.types) h

  pub predicates_room : is_full so predicate ≡ false → length so.predicates < 128
  unfolding is_full max_predicates
  predicates_room h = leb-false max_predicates (length so.predicates) h

  pub nodes_room : is_full so node ≡ false → length so.nodes < 512
  unfolding is_full max_nodes
  nodes_room h = leb-false max_nodes (length so.nodes) h

  pub queries_room : is_last_query_past so query ≡ false → length so.queries < 64
  unfolding is_last_query_past max_queries
  queries_room h = leb-false max_queries (length so.queries) h
