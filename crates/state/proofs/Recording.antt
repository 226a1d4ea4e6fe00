-- A record in the making, in a run: the words of its fields and its cell are read by nothing else.
use mathlib.Core.List.{List}
use mathlib.Core.Path.{refl}
use native.Mathlib.Omega.{arith}
use Prim.Native.Nat.{ℕ, ◌+◌, ◌<◌, ◌≤◌}
use lib.ListN.{get_or}
use Rattle.work.specs.Layout.{RECORD-COUNT, RECORD-FIELD-COUNT, ENV-LEN, DIAGNOSTIC-COUNT, MARK-COUNT, UNUSED-COUNT}
use Rattle.cells.specs.declared.Ty.{Ty}
use Rattle.cells.specs.Stands.{Rows}
use Rattle.cells.specs.Inferred.{reserve_w, put_field_w, new_record_w, Reserved, rows_with, Filled}
use Rattle.cells.proofs.Frame.{more_refl}
use Rattle.cells.proofs.Making.{adds_old, reserve_other, reserve_keeps, reserve_count, reserve_adds, reserve_holds, put_field_keeps, put_field_old}
use Rattle.cells.proofs.Making.{put_field_holds, new_record_other, new_record_keeps, new_record_old, new_record_more, new_record_holds}
use Rattle.format.specs.Sound.{Sound}
use Rattle.format.specs.File.{Described}
use Rattle.meaning.specs.Check.{Checker, with_state}
use Rattle.state.specs.Runs.{Runs, Grew}
use Rattle.state.proofs.Running.{runs_state}

module _ {f w : List ℕ} {T : Rows} {d : Described} {c : Checker} (sound : Sound d) (R : Runs f w T d c) where
  module _ (n : ℕ) (room : get_or w RECORD-FIELD-COUNT 0 + n ≤ 512) where
    pub reserve_runs : Runs f (reserve_w w n) T d c
    unfolding with_state
    reserve_runs = runs_state sound R (adds_old R.holds.cells (reserve_adds w n room R.holds.long)) more_refl
        (record {
          scopes = record {
            env = reserve_other w n room ENV-LEN (λ q. omega arith);
            marks = reserve_other w n room MARK-COUNT (λ q. omega arith);
            unused = reserve_other w n room UNUSED-COUNT (λ q. omega arith);
            at = λ i l h. reserve_other w n room i (λ q. omega arith);
          };
          diagnostics = reserve_other w n room DIAGNOSTIC-COUNT (λ q. omega arith);
          long = (reserve_keeps w n).long;
        })
        (reserve_holds w n room R.holds) refl

    pub reserve_grew : Grew w (reserve_w w n) 0 n
    reserve_grew = record {
      adds = reserve_adds w n room R.holds.long;
      keeps = reserve_keeps w n;
      records = omega (arith, reserve_other w n room RECORD-COUNT (λ q. omega arith));
      fields = omega (arith, reserve_count w n room R.holds.long);
    }

  module _ {from n : ℕ} (S : Reserved w from n) (i name : ℕ) (t : Ty) (low : from ≤ i) (high : i < from + n) (small : name < 65536) where
    fits : i < 512
    fits = omega (arith, S.given, R.holds.cells.few_fields)

    pub put_field_runs : Runs f (put_field_w w i name t) T d c
    unfolding with_state
    put_field_runs =
        let K = put_field_keeps w i name t in
        runs_state sound R (put_field_old w i name t fits small S low high R.holds.cells.few_records) more_refl
        (record {
          scopes = record {
            env = K.below ENV-LEN (omega arith);
            marks = K.below MARK-COUNT (omega arith);
            unused = K.below UNUSED-COUNT (omega arith);
            at = λ j l h. K.above j (omega arith);
          };
          diagnostics = K.below DIAGNOSTIC-COUNT (omega arith);
          long = K.long;
        })
        (put_field_holds w i name t fits small S low high R.holds.cells.few_records R.holds) refl

  module _ (from n : ℕ) (room : get_or w RECORD-COUNT 0 < 512) (F : Filled w from n) where
    pub within : from + n ≤ 512
    within = omega (arith, F.given, R.holds.cells.few_fields)

    pub new_record_runs : Runs f (new_record_w w from n) (rows_with w from n T) d c
    unfolding with_state
    new_record_runs =
        let other = new_record_other w from n room within in
        runs_state sound R (new_record_old w from n room within R.holds.long) (new_record_more w from n room within R.holds.long T)
        (record {
          scopes = record {
            env = other ENV-LEN (λ q. omega arith) (λ q. omega arith);
            marks = other MARK-COUNT (λ q. omega arith) (λ q. omega arith);
            unused = other UNUSED-COUNT (λ q. omega arith) (λ q. omega arith);
            at = λ j l h. other j (λ q. omega arith) (λ q. omega arith);
          };
          diagnostics = other DIAGNOSTIC-COUNT (λ q. omega arith) (λ q. omega arith);
          long = (new_record_keeps w from n).long;
        })
        (new_record_holds w from n room within R.holds.long R.holds F) refl
