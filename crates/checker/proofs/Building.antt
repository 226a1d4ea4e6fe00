-- `infer_record` beside the definition's list of fields: the row is built from behind there and from the front in the
-- slice, so midway the whole is the rest with the cells so far put in front of its row.
use mathlib.Core.List.{List, [], ◌∷◌}
use mathlib.Core.Path.{◌≡◌, refl}
use Prim.Native.Nat.{ℕ, ◌+◌}
use native.Mathlib.Omega.{arith}
use lib.ListN.{length}
use Rattle.unification.specs.Ty as Tree
use Rattle.format.specs.Syntax.{Field, ExprKind}
use Rattle.format.specs.References.{field_values, expr_nodes}
use Rattle.format.specs.File.{Described}
use Rattle.meaning.specs.Check.{Checker, Step, goes, out, Does, and_then, infer_fields, infer_kind}
use Rattle.meaning.specs.Weights.{sum_of, records, records_of, record_fields, fields_of}
use Rattle.meaning.specs.Grades.{visiting}
use Rattle.meaning.proofs.Visits.{size_pos}
use Rattle.steps.specs.Loads.{Load, both, FitsIn, infers, parts}
use Rattle.steps.specs.Promises.{nodes_of}
use Rattle.checker.specs.Promises.{below}
use Rattle.steps.proofs.Sequel.{and_then_assoc}

-- The record of the cells in front and of those that are still to be inferred.
unfoldable pub built : Described → ℕ → (Tree.Row → Tree.Row) → List Field → Does Tree.Ty
unfolding and_then
built d k front fs c = and_then (infer_fields d.schema (nodes_of d) (below d k) fs c) (λ row b. goes (Tree.node Tree.Record (front row)) b)

pub built_start : (d : Described) (k n : ℕ) (fs : List Field) (c : Checker)
    → infer_kind d.schema (nodes_of d) (below d k) n (ExprKind.Record fs) c ≡ built d k (λ row. row) fs c
unfolding infer_kind built
built_start d k n fs c = refl

pub built_none : (d : Described) (k : ℕ) (front : Tree.Row → Tree.Row) (c : Checker) → built d k front [] c ≡ goes (Tree.node Tree.Record (front Tree.ε)) c
unfolding built infer_fields
built_none d k front c = refl

-- One more field is one visit, and then a cell more in front.
pub built_some : (d : Described) (k : ℕ) (front : Tree.Row → Tree.Row) (x : Field) (fs : List Field) (c : Checker)
    → built d k front (x ∷ fs) c ≡ and_then ((below d k).infer x.value c) (λ ty. built d k (λ row. front (Tree.cell x.name 0 ty row)) fs)
unfolding built infer_fields
built_some d k front x fs c = go ((below d k).infer x.value c)
  where
    go : (m : Step Tree.Ty)
        → and_then (and_then m (λ ty b. and_then (infer_fields d.schema (nodes_of d) (below d k) fs b)
        (λ row e. goes (Tree.cell x.name 0 ty row) e))) (λ row b. goes (Tree.node Tree.Record (front row)) b)
        ≡ and_then m (λ ty b. and_then (infer_fields d.schema (nodes_of d) (below d k) fs b)
        (λ row e. goes (Tree.node Tree.Record (front (Tree.cell x.name 0 ty row))) e))
    go (goes ty b) = and_then_assoc (infer_fields d.schema (nodes_of d) (below d k) fs b) (λ row e. goes (Tree.cell x.name 0 ty row) e)
        (λ row e. goes (Tree.node Tree.Record (front row)) e)
    go (out b) = refl

-- ---- Loads

-- What is left after the fields were given away: the parts' visits, and the record itself.
abbrev pub builds : Described → ℕ → List Field → Load
builds d k fs = record {
  grade = visiting (nodes_of d) k (field_values fs);
  records = 1 + sum_of (λ n. records (nodes_of d) k n) (field_values fs);
  fields = sum_of (λ n. record_fields (nodes_of d) k n) (field_values fs);
}

-- `reserve` takes the record's own fields.
pub reserve_fits : (d : Described) (k : ℕ) (fs : List Field) → FitsIn
    (both (record { grade = visiting (nodes_of d) k []; records = 0; fields = length fs }) (builds d k fs)) (parts (nodes_of d) k (ExprKind.Record fs))
unfolding expr_nodes records_of fields_of sum_of
reserve_fits d k fs = record { grade = omega arith; records = omega arith; fields = omega arith }

pub built_fits : (d : Described) (k : ℕ) (x : Field) (fs : List Field) → FitsIn (both (infers (nodes_of d) k x.value) (builds d k fs)) (builds d k (x ∷ fs))
unfolding field_values sum_of
built_fits d k x fs = record { grade = omega (arith, size_pos (nodes_of d) k x.value); records = omega arith; fields = omega arith }
