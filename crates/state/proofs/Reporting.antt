-- `count`: one diagnostic more, and no other word changed.
use mathlib.Core.List.{List, ◌∷◌}
use mathlib.Core.Logic.{◌≢◌}
use mathlib.Core.Path.{◌≡◌, refl, ◌∙◌, ap}
use native.Mathlib.Omega.{arith}
use Prim.Native.Nat.{ℕ, suc, ◌+◌, ◌<◌, ◌≤◌}
use lib.ListN.{length, get_or, set}
use lib.Seq.{get_or-set_same, get_or-set_other}
use borrow.Author.Tests.{lt-ltb}
use Rattle.work.specs.Layout.{ENV-LEN, DIAGNOSTIC-COUNT, UNKNOWNS, MARK-COUNT, UNUSED-COUNT, END}
use Rattle.cells.specs.Stands.{Rows}
use Rattle.cells.proofs.Elsewhere.{SameState}
use Rattle.meaning.specs.Diag.{Diagnostic}
use Rattle.format.specs.Sound.{Sound}
use Rattle.format.specs.File.{Described}
use Rattle.meaning.specs.Check.{Checker, with_diagnostics}
use Rattle.state.specs.Words.{counted_w}
use Rattle.state.specs.Runs.{Runs, Grew}
use Rattle.state.proofs.Lending.{counted_within}
use Rattle.state.proofs.Running.{same_grew, Unscoped, scopes_same, runs_aside}

module _ (w : List ℕ) (room : get_or w DIAGNOSTIC-COUNT 0 < 1536) where
  abbrev count : ℕ
  count = get_or w DIAGNOSTIC-COUNT 0

  count_is : counted_w w ≡ set w DIAGNOSTIC-COUNT (count + 1)
  unfolding counted_w
  count_is = rw (lt-ltb count 1536 room)

  pub count_other : (j : ℕ) → j ≢ DIAGNOSTIC-COUNT → get_or (counted_w w) j 0 ≡ get_or w j 0
  count_other j p = rw count_is (get_or-set_other w DIAGNOSTIC-COUNT j (count + 1) 0 p)

  count_aside : SameState w (counted_w w)
  count_aside = record {
    cells = record {
      said = λ i h. count_other i (λ q. omega arith);
      made = λ i l h. count_other i (λ q. omega arith);
      unknowns = omega (arith, count_other UNKNOWNS (λ q. omega arith));
    };
    slots = record { unknowns = count_other UNKNOWNS (λ q. omega arith); at = λ i l h. count_other i (λ q. omega arith); long = (counted_within w).long };
  }

  counted : END ≤ length w → get_or (counted_w w) DIAGNOSTIC-COUNT 0 ≡ count + 1
  counted long = rw count_is (get_or-set_same w DIAGNOSTIC-COUNT (count + 1) 0 (omega arith))

-- ---- The run after
module _ {f w : List ℕ} {T : Rows} {d : Described} {c : Checker} (sound : Sound d) (R : Runs f w T d c)
    (x : Diagnostic) (room : get_or w DIAGNOSTIC-COUNT 0 < 1536) where
  pub count_runs : Runs f (counted_w w) T d (with_diagnostics c (x ∷ c.diagnostics))
  unfolding with_diagnostics
  count_runs =
      let more = counted w room R.holds.long in
      let other = count_other w room in
      let quiet : Unscoped w (counted_w w) = record {
        env = other ENV-LEN (λ q. omega arith);
        marks = other MARK-COUNT (λ q. omega arith);
        unused = other UNUSED-COUNT (λ q. omega arith);
        at = λ i l h. other i (λ q. omega arith);
      } in
      runs_aside sound R (count_aside w room) refl (scopes_same quiet refl refl refl R.scopes)
      (ap suc R.diagnostics ∙ omega (arith, more))
      (omega (arith, more))

  pub count_grew : Grew w (counted_w w) 0 0
  count_grew = same_grew R.holds (count_aside w room).cells (counted_within w)
