-- The start of a run: all counters are 0 and no node has a type. The words stand for the run that `begin_until` of
-- meaning/specs/Check.antt gives, over the file that was read.
use mathlib.Core.List.{List}
use mathlib.Core.Path.{◌≡◌, sym}
use native.Mathlib.Omega.{arith}
use Prim.Native.Nat.{ℕ, ◌+◌, ◌*◌, ◌<◌}
use lib.ListN.{length, get_or, length-replicate}
use Rattle.unification.specs.Ty as Tree
use Rattle.unification.specs.Bindings.{History}
use Rattle.work.specs.Layout.{RECORD-COUNT, RECORD-FIELD-COUNT, ENV-LEN, DIAGNOSTIC-COUNT, UNKNOWNS, MARK-COUNT, UNUSED-COUNT, TYS, UNDO-LEN, END}
use Rattle.cells.specs.Stands.{Rows, Keeps}
use Rattle.cells.proofs.Frame.{more_refl}
use Rattle.cells.proofs.Starting.{start_holds}
use Rattle.format.specs.Sound.{Sound}
use Rattle.format.specs.File.{Described}
use Rattle.meaning.specs.Check.{Until, begin_until}
use Rattle.tree.specs.Stands.{Stands}
use Rattle.state.specs.Words.{env_of, numbers_of}
use Rattle.state.specs.Runs.{Runs}
use Rattle.state.proofs.Standing.{cells_start, stands_more}
use Rattle.std.specs.Prelude.{None, Option}

-- What `begin` leaves of the words.
pub record Started (w w' : List ℕ) : Type 0 where
  pub keeps : Keeps RECORD-COUNT END w w'
  pub records : get_or w' RECORD-COUNT 0 ≡ 0
  pub fields : get_or w' RECORD-FIELD-COUNT 0 ≡ 0
  pub env : get_or w' ENV-LEN 0 ≡ 0
  pub diagnostics : get_or w' DIAGNOSTIC-COUNT 0 ≡ 0
  pub unknowns : get_or w' UNKNOWNS 0 ≡ 0
  pub marks : get_or w' MARK-COUNT 0 ≡ 0
  pub unused : get_or w' UNUSED-COUNT 0 ≡ 0
  pub undo : get_or w' UNDO-LEN 0 ≡ 0
  pub untyped : (i : ℕ) → i < 512 → get_or w' (TYS + 2 * i) 0 ≡ 0

pub start_runs : {f w w' : List ℕ} {T : Rows} {d : Described} (u : Until) (ceiling : ℕ) → Sound d → Stands f w T d → Started w w'
    → Runs f w' T d (begin_until u ceiling (length d.ast.nodes))
unfolding begin_until env_of numbers_of
start_runs {f} {w} {w'} {T} {d} u ceiling sound before B =
    let n = length d.ast.nodes in
    let S : Stands f w' T d = stands_more w w' B.keeps.below more_refl sound B.keeps.long before in
    record {
      stands = S;
      holds = start_holds n ceiling History.start S.long S.few (cells_start S.schema B.records B.fields) B.unknowns B.undo
          (λ i lt. B.untyped i (omega (arith, S.few)));
      nodes = length-replicate {A = Option Tree.Ty} n None;
      scopes = record {
        env = rw B.env;
        few_env = omega (arith, B.env);
        makers = tt;
        marks = rw B.marks;
        few_marks = omega (arith, B.marks);
        unused = rw B.unused;
        few_unused = omega (arith, B.unused);
        left = rw B.unused tt;
      };
      diagnostics = sym B.diagnostics;
      few_diagnostics = omega (arith, B.diagnostics);
    }
