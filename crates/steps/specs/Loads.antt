-- What a step may make, and where it begins. A load is a grade of the definition's (meaning/proofs/Meets.antt) with the
-- records and the fields of records that the code makes in the slice; the loads of steps add up as their grades do.
use Rattle.std.specs.Prelude.{List, ◌≡◌, ℕ, ◌+◌, ◌≤◌, length, get_or}
use Rattle.work.specs.Layout.{RECORD-COUNT, RECORD-FIELD-COUNT}
use Rattle.cells.specs.Stands.{Rows}
use Rattle.format.specs.Syntax.{ExprKind, Node}
use Rattle.format.specs.References.{expr_nodes}
use Rattle.format.specs.File.{Described}
use Rattle.format.specs.Sound.{Sound}
use Rattle.meaning.specs.Check.{Checker, Does}
use Rattle.meaning.specs.Weights.{sum_of, records_of, records, fields_of, record_fields}
use Rattle.meaning.specs.Grades.{Grade, unknowns, Orderly, Ready, GradeFits, plus, inferring, finding, checking, visiting, within}
use Rattle.state.specs.Runs.{Runs}
use Rattle.state.specs.Lines.{Told}
use Rattle.steps.specs.Ends.{StepGives, StepEnds}

-- ---- Loads
pub record Load : Type 0 where
  pub grade : Grade
  pub records : ℕ
  pub fields : ℕ

-- A load of no record.
abbrev pub only : Grade → Load
only g = record { grade = g; records = 0; fields = 0 }

abbrev pub both : Load → Load → Load
both g h = record { grade = plus g.grade h.grade; records = g.records + h.records; fields = g.fields + h.fields }

pub record FitsIn (g h : Load) : Type 0 where
  pub grade : GradeFits g.grade h.grade
  pub records : g.records ≤ h.records
  pub fields : g.fields ≤ h.fields

-- Visits of a node: one that infers, one that finds a variable that is known, one that checks.
abbrev pub infers : List Node → ℕ → ℕ → Load
infers nodes k n = record { grade = inferring nodes k n; records = records nodes k n; fields = record_fields nodes k n }

abbrev pub finds : List Node → ℕ → ℕ → Load
finds nodes k n = record { grade = finding nodes k n; records = records nodes k n; fields = record_fields nodes k n }

abbrev pub checks : List Node → ℕ → ℕ → Load
checks nodes k n = record { grade = checking nodes k n; records = records nodes k n; fields = record_fields nodes k n }

-- Several nodes; and a node of a kind without its own annotation.
abbrev pub visits : List Node → ℕ → List ℕ → Load
visits nodes k ns = record { grade = visiting nodes k ns; records = sum_of (λ n. records nodes k n) ns; fields = sum_of (λ n. record_fields nodes k n) ns }

abbrev pub parts : List Node → ℕ → ExprKind → Load
parts nodes k kind = record {
  grade = within nodes k (expr_nodes kind);
  records = records_of kind + sum_of (λ n. records nodes k n) (expr_nodes kind);
  fields = fields_of kind + sum_of (λ n. record_fields nodes k n) (expr_nodes kind);
}

-- ---- Where a step begins

-- The nodes that the load names have no type yet, and there is room for what it makes.
pub record Free (L : Load) (w : List ℕ) (c : Checker) : Type 0 where
  pub ready : Ready L.grade c
  pub unknowns : unknowns c + L.grade.unknowns ≤ 512
  pub diagnostics : length c.diagnostics + L.grade.diagnostics ≤ 1536
  pub records : get_or w RECORD-COUNT 0 + L.records ≤ 512
  pub fields : get_or w RECORD-FIELD-COUNT 0 + L.fields ≤ 512

pub record Begins (f w ou : List ℕ) (T : Rows) (d : Described) (L : Load) (left : ℕ) (c : Checker) : Type 0 where
  pub sound : Sound d
  pub runs : Runs f w T d c
  pub lines : Told d w ou c 0
  pub orderly : Orderly c
  pub visits : c.state.left ≡ left
  pub free : Free L w c

-- A step of the code beside one of the definition: from words that stand for a checker of which P holds, to words that
-- stand for what the definition gives.
pub record Beside {A : Type 0} (f w ou : List ℕ) (left : ℕ) (w' ou' : List ℕ) (E : StepGives A) (d : Described) (L : Load) (P : Rows → Checker → Type 0)
    (m : Rows → Does A) : Type 0 where
  pub is : (T : Rows) (c : Checker) → Begins f w ou T d L left c → P T c → StepEnds f w ou w' ou' T d L.records L.fields E (m T c)
