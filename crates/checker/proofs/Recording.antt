-- `infer_record`: its fields are given away first, and each part's type is put among them as it is inferred. Midway the
-- definition's row has the fields put so far in front; other records are made meanwhile, but none has a field among
-- these.
use mathlib.Core.List.{List, [], ◌∷◌}
use mathlib.Core.Logic.{by_cases}
use mathlib.Core.Path.{◌≡◌, refl, sym, ◌∙◌, ap}
use Prim.Native.Nat.{ℕ, zero, suc, ◌+◌, ◌-◌, ◌*◌, ◌≤◌, ◌<◌}
use native.Mathlib.Decide.{ℕ_discrete}
use native.Mathlib.Omega.{arith}
use lib.ListN.{length, get_or}
use Rattle.unification.specs.Ty as Tree
use Rattle.unification.proofs.Tests.{clash}
use Rattle.work.specs.Layout.{RECORD-COUNT, RECORD-FIELD-COUNT, RECORD-FIELDS, END}
use Rattle.cells.specs.declared.Ty.{Ty}
use Rattle.cells.specs.declared.Part as Cell
use Rattle.cells.specs.Words.{made_field}
use Rattle.cells.specs.Stands.{Rows, tree, Ok}
use Rattle.cells.specs.Inferred.{reserve_w, put_field_w, new_record_w, new_record_ty, AddsCells, More, Reserved, Filled, row_made, rows_with}
use Rattle.cells.proofs.Frame.{more_refl, keeps_trans, keeps_wider, tree_more, made_field_same, ok_old}
use Rattle.cells.proofs.Making.{reserve_other, reserve_reserved, reserved_kept, put_field_keeps, put_field_here, put_field_apart, put_field_old}
use Rattle.cells.proofs.Making.{put_field_reserved, put_field_adds, new_record_ty_lem, new_record_keeps, new_record_count, new_record_other, new_record_adds}
use Rattle.cells.proofs.Making.{new_record_row, new_record_more, new_record_cell}
use Rattle.format.specs.Syntax as Syntax
use Rattle.format.specs.Syntax.{ExprKind}
use Rattle.format.specs.References.{field_names, field_values}
use Rattle.format.specs.All.{Below}
use Rattle.format.specs.File.{Described}
use Rattle.meaning.specs.Check.{Checker, Step, Does}
use Rattle.meaning.proofs.Meets.{made_refl}
use Rattle.meaning.proofs.Steps.{IsSide}
use Rattle.meaning.specs.Grades.{visiting}
use Rattle.tree.specs.declared.items.Items.{Items}
use Rattle.tree.specs.declared.Field.{Field}
use Rattle.tree.specs.Nodes.{field_w, field_of, fields_from}
use Rattle.tree.proofs.Steps.{fields_next, fields_end, fields_length}
use Rattle.state.proofs.Lining.{told_same}
use Rattle.state.proofs.Recording.{reserve_runs, reserve_grew, put_field_runs, new_record_runs, within}
use Rattle.steps.specs.Ends.{typed, StepEnds, went}
use Rattle.steps.specs.Loads.{Load, both, FitsIn, infers, parts, Begins}
use Rattle.steps.specs.Promises.{nodes_of, Named, AllNamed}
use Rattle.checker.specs.Promises.{below, Infers, InfersRecord}
use Rattle.steps.proofs.Growing.{ok_kept, more_trans}
use Rattle.steps.proofs.Sequel.{free_after, Led}
use Rattle.steps.proofs.Results.{stop_typed, got_same}
use Rattle.checker.proofs.Looping.{Midway, mid_ends, mid_led, mid_after}
use Rattle.checker.proofs.Inferring.{good}
use Rattle.checker.proofs.Building.{built, built_start, built_some, built_none, builds, reserve_fits, built_fits}
use Rattle.std.specs.Prelude.{None, Option, Some, ℕ}

-- ---- The fields put so far

-- A field by its number among all.
abbrev made : List ℕ → ℕ → Cell.Part
made w i = made_field w (RECORD-FIELDS + 2 * i)

-- n fields from a place on in front of a row
unfoldable pub onto : Rows → List ℕ → ℕ → ℕ → Tree.Row → Tree.Row
onto T w from zero row = row
onto T w from (suc n) row = Tree.cell (made w from).key 0 (tree T (made w from).ty) (onto T w (from + 1) n row)

onto_none : (T : Rows) (w : List ℕ) (from n : ℕ) → onto T w from n Tree.ε ≡ row_made T w from n
unfolding onto row_made
onto_none T w from zero = refl
onto_none T w from (suc n) = rw (onto_none T w (from + 1) n)

onto_next : (T : Rows) (w : List ℕ) (from n : ℕ) (row : Tree.Row)
    → onto T w from n (Tree.cell (made w (from + n)).key 0 (tree T (made w (from + n)).ty) row) ≡ onto T w from (suc n) row
unfolding onto
onto_next T w from zero row = let e : from + 0 ≡ from = omega arith in rw e
onto_next T w from (suc n) row =
    let e : from + suc n ≡ from + 1 + n = omega arith in
    rw (e, onto_next T w (from + 1) n row)

-- The same fields with the same trees.
onto_same : (T T' : Rows) (w w' : List ℕ) (from n : ℕ) (row : Tree.Row) → ((j : ℕ) → from ≤ j → j < from + n → made w' j ≡ made w j)
    → ((j : ℕ) → from ≤ j → j < from + n → tree T' (made w j).ty ≡ tree T (made w j).ty)
    → onto T' w' from n row ≡ onto T w from n row
unfolding onto
onto_same T T' w w' from zero row p q = refl
onto_same T T' w w' from (suc n) row p q =
    rw (
      p from (omega arith) (omega arith),
      q from (omega arith) (omega arith),
      onto_same T T' w w' (from + 1) n row (λ j l h. p j (omega arith) (omega arith)) (λ j l h. q j (omega arith) (omega arith)),
    )

-- Of a record whose fields begin at `from`, i of n fields are put, and `fs` are left of `whole`.
pub record Recorded (f w₀ ou₀ w ou : List ℕ) (T : Rows) (d : Described) (k from n i : ℕ) (whole fs : List Syntax.Field) (left : ℕ) (c : Checker) : Type 0 where
  pub front : Tree.Row → Tree.Row
  pub mid : Midway f w₀ ou₀ w ou T d (parts (nodes_of d) k (ExprKind.Record whole)) (builds d k fs) left c (built d k (λ row. row) whole c) (built d k front fs)
  pub reserved : Reserved w from n
  pub low : get_or w₀ RECORD-FIELD-COUNT 0 ≤ from
  pub ok : (j : ℕ) → from ≤ j → j < from + i → Ok w (made w j).ty
  pub row : (row : Tree.Row) → front row ≡ onto mid.T₁ w from i row

-- ---- The fields are given away
module _ {f w ou : List ℕ} {T : Rows} {d : Described} {left : ℕ} {c : Checker} (k n : ℕ) (fs : List Syntax.Field) (many : length fs ≡ n)
    (s : Begins f w ou T d (parts (nodes_of d) k (ExprKind.Record fs)) left c) where
  abbrev given : Load
  given = record { grade = visiting (nodes_of d) k []; records = 0; fields = n }

  given_fits : FitsIn (both given (builds d k fs)) (parts (nodes_of d) k (ExprKind.Record fs))
  given_fits = rw (← many) (reserve_fits d k fs)

  given_room : get_or w RECORD-FIELD-COUNT 0 + n ≤ 512
  given_room = omega (arith, s.free.fields, given_fits.fields)

  recorded_start : Recorded f w ou (reserve_w w n) ou T d k (get_or w RECORD-FIELD-COUNT 0) n 0 fs fs left c
  unfolding onto
  recorded_start =
      let grew = reserve_grew s.sound s.runs n given_room in
      record {
        front = λ row. row;
        mid = record {
          T₁ = T;
          b = c;
          records = 0;
          fields = n;
          more = more_refl;
          grew = grew;
          few_records = given_fits.records;
          few_fields = given_fits.fields;
          up = omega arith;
          begins = record {
            sound = s.sound;
            runs = reserve_runs s.sound s.runs n given_room;
            lines = told_same (record { at = λ i l h. reserve_other w n given_room i (λ q. omega arith) }) s.lines;
            orderly = s.orderly;
            visits = s.visits;
            free = free_after given (builds d k fs) (parts (nodes_of d) k (ExprKind.Record fs)) given_fits (made_refl given.grade c) grew s.free;
          };
          same = refl;
        };
        reserved = reserve_reserved w n given_room s.runs.holds;
        low = omega arith;
        ok = λ j l h. absurd (omega arith);
        row = λ row. refl;
      }

-- ---- A field is put

-- It changes neither rows nor checker.
module _ {f w₀ ou₀ w ou : List ℕ} {T : Rows} {d : Described} {K H : Load} {left : ℕ} {c : Checker} {whole : Step Tree.Ty} {rest : Does Tree.Ty}
    (M : Midway f w₀ ou₀ w ou T d K H left c whole rest)
    {from n : ℕ} (R : Reserved w from n) (low : get_or w₀ RECORD-FIELD-COUNT 0 ≤ from) (i name : ℕ) (t : Ty) (le : from ≤ i) (lt : i < from + n)
    (small : name < 65536) where
  put_within : i < 512
  put_within = omega (arith, R.given, M.begins.runs.holds.cells.few_fields)

  put_count : (j : ℕ) → j < RECORD-FIELDS → get_or (put_field_w w i name t) j 0 ≡ get_or w j 0
  put_count j h = (put_field_keeps w i name t).below j h

  abbrev mid_put : Midway f w₀ ou₀ (put_field_w w i name t) ou T d K H left c whole rest
  mid_put = record {
    T₁ = M.T₁;
    b = M.b;
    records = M.records;
    fields = M.fields;
    more = M.more;
    grew = record {
      adds = put_field_adds w i name t put_within small M.begins.runs.holds.cells.few_records (omega arith) M.grew.adds;
      keeps = keeps_trans M.grew.keeps (keeps_wider (omega arith) (omega arith) (put_field_keeps w i name t));
      records = omega (arith, put_count RECORD-COUNT (omega arith), M.grew.records);
      fields = omega (arith, put_count RECORD-FIELD-COUNT (omega arith), M.grew.fields);
    };
    few_records = M.few_records;
    few_fields = M.few_fields;
    up = M.up;
    begins = record {
      sound = M.begins.sound;
      runs = put_field_runs M.begins.sound M.begins.runs R i name t le lt small;
      lines = told_same (record { at = λ j l h. put_count j (omega arith) }) M.begins.lines;
      orderly = M.begins.orderly;
      visits = M.begins.visits;
      free = record {
        ready = M.begins.free.ready;
        unknowns = M.begins.free.unknowns;
        diagnostics = M.begins.free.diagnostics;
        records = omega (arith, put_count RECORD-COUNT (omega arith), M.begins.free.records);
        fields = omega (arith, put_count RECORD-FIELD-COUNT (omega arith), M.begins.free.fields);
      };
    };
    same = M.same;
  }

-- The fields put before stand in the words after, and the new one is behind them.
module _ {w w₁ : List ℕ} {T T₁ : Rows} {from n : ℕ} (A : AddsCells w w₁) (more : More w T T₁) (R : Reserved w from n) (R₁ : Reserved w₁ from n)
    (long : END ≤ length w₁) (few : get_or w₁ RECORD-COUNT 0 ≤ 512)
    (few_fields : get_or w₁ RECORD-FIELD-COUNT 0 ≤ 512) (i name : ℕ) (t : Ty) (lt : i < n) (small : name < 65536)
    (ok : (j : ℕ) → from ≤ j → j < from + i → Ok w (made w j).ty) where
  field_within : from + i < 512
  field_within = omega (arith, R₁.given)

  field_here : made (put_field_w w₁ (from + i) name t) (from + i) ≡ record { key = name; label = 0; ty = t }
  field_here = put_field_here w₁ (from + i) name t field_within small long

  field_before : (j : ℕ) → from ≤ j → j < from + i → made (put_field_w w₁ (from + i) name t) j ≡ made w j
  field_before j l h =
      let at = RECORD-FIELDS + 2 * j in
      put_field_apart w₁ (from + i) name t field_within small j (λ q. omega arith) ∙ made_field_same w w₁ at
      (A.given at (omega arith) (omega (arith, R.given))) (A.given (at + 1) (omega arith) (omega (arith, R.given)))

  fields_ok : Ok w₁ t → (j : ℕ) → from ≤ j → j < from + (i + 1) → Ok (put_field_w w₁ (from + i) name t) (made (put_field_w w₁ (from + i) name t) j).ty
  fields_ok o j l h =
      let old = put_field_old w₁ (from + i) name t field_within small R₁ (omega arith) (omega arith) few in
      by_cases (ℕ_discrete j (from + i)) (λ e. rw (e, field_here) (ok_old old t o))
      (λ ne. rw (field_before j l (omega arith)) (ok_old old (made w j).ty (ok_kept A (made w j).ty (ok j l (omega arith)))))

  fields_row : (row : Tree.Row) → onto T w from i (Tree.cell name 0 (tree T₁ t) row) ≡ onto T₁ (put_field_w w₁ (from + i) name t) from (i + 1) row
  fields_row row =
      let w₂ = put_field_w w₁ (from + i) name t in
      let last : Tree.cell name 0 (tree T₁ t) row ≡ Tree.cell (made w₂ (from + i)).key 0 (tree T₁ (made w₂ (from + i)).ty) row = rw field_here refl in
      let one : i + 1 ≡ suc i = omega arith in
      rw one (sym (onto_same T T₁ w w₂ from i (Tree.cell name 0 (tree T₁ t) row) field_before (λ j l h. tree_more more (made w j).ty (ok j l h))) ∙
      ap (onto T₁ w₂ from i) last ∙ onto_next T₁ w₂ from i row)

-- ---- A turn
module _ {f w₀ ou₀ w ou w₁ ou₁ : List ℕ} {T : Rows} {d : Described} {k from n i left : ℕ} {whole : List Syntax.Field} (x : Syntax.Field)
    (fs : List Syntax.Field) {c : Checker} {r : Option (Ty × ℕ)}
    (M : Recorded f w₀ ou₀ w ou T d k from n i whole (x ∷ fs) left c) (named : Named d k x.value) (I : Infers f w ou x.value left w₁ ou₁ r) where
  abbrev inferred : Step Tree.Ty
  inferred = (below d k).infer x.value M.mid.b

  abbrev next : Tree.Ty → Does Tree.Ty
  next ty = built d k (λ row. M.front (Tree.cell x.name 0 ty row)) fs

  inferred_ends : Begins f w ou M.mid.T₁ d (infers (nodes_of d) k x.value) left M.mid.b
      → StepEnds f w ou w₁ ou₁ M.mid.T₁ d (infers (nodes_of d) k x.value).records (infers (nodes_of d) k x.value).fields (typed w₁ r) inferred
  inferred_ends s = (I.is d k named).is M.mid.T₁ M.mid.b s tt

  recorded_stop : r ≡ None → StepEnds f w₀ ou₀ w₁ ou₁ T d (parts (nodes_of d) k (ExprKind.Record whole)).records
      (parts (nodes_of d) k (ExprKind.Record whole)).fields (typed w₁ None) (built d k (λ row. row) whole c)
  recorded_stop g = mid_ends M.mid (rw (built_some d k M.front x fs M.mid.b)
      (stop_typed (infers (nodes_of d) k x.value) (builds d k fs) (builds d k (x ∷ fs)) (built_fits d k x fs) inferred next g refl M.mid.begins
      inferred_ends))

  module _ {t : Ty} {l : ℕ} (g : r ≡ Some (t, l)) (below-n : i < n) (small : x.name < 65536) where
    turn_led : Led f w ou w₁ ou₁ M.mid.T₁ d (infers (nodes_of d) k x.value) (typed w₁ r) IsSide M.mid.b inferred
    turn_led = mid_led M.mid (infers (nodes_of d) k x.value) (builds d k fs) (built_fits d k x fs) IsSide inferred (λ o. clash (cc (g, o)))
        (λ y. (good M.mid.begins k).infer x.value M.mid.b M.mid.begins.orderly y) inferred_ends

    abbrev turn_mid : Midway f w₀ ou₀ w₁ ou₁ T d (parts (nodes_of d) k (ExprKind.Record whole)) (builds d k fs) l c (built d k (λ row. row) whole c)
        (next turn_led.a)
    turn_mid = mid_after M.mid (infers (nodes_of d) k x.value) (builds d k fs) (built_fits d k x fs) IsSide inferred turn_led next l
        (built_some d k M.front x fs M.mid.b) (got_same g turn_led.gone.is).2

    turn_reserved : Reserved w₁ from n
    turn_reserved = reserved_kept M.mid.begins.runs.holds.cells turn_led.gone.grew.adds M.reserved

    recorded_next : Recorded f w₀ ou₀ (put_field_w w₁ (from + i) x.name t) ou₁ T d k from n (i + 1) whole fs l c
    recorded_next =
        let got = got_same g turn_led.gone.is in
        let H = turn_led.gone.runs.holds in
        record {
          front = λ row. M.front (Tree.cell x.name 0 turn_led.a row);
          mid = mid_put turn_mid turn_reserved M.low (from + i) x.name t (omega arith) (omega arith) small;
          reserved = put_field_reserved w₁ (from + i) x.name t
              (put_within turn_mid turn_reserved M.low (from + i) x.name t (omega arith) (omega arith) small) small turn_reserved (omega arith)
              (omega arith) H.cells.few_records;
          low = M.low;
          ok = fields_ok turn_led.gone.grew.adds turn_led.gone.more M.reserved turn_reserved H.long H.cells.few_records
              H.cells.few_fields i x.name t below-n small M.ok got.0;
          row = λ row. M.row (Tree.cell x.name 0 turn_led.a row) ∙ ap (λ ty. onto M.mid.T₁ w from i (Tree.cell x.name 0 ty row)) (sym got.1)
              ∙ fields_row turn_led.gone.grew.adds turn_led.gone.more M.reserved turn_reserved H.long H.cells.few_records
              H.cells.few_fields i x.name t below-n small M.ok row;
        }

-- ---- The record is made
module _ {f w₀ ou₀ w ou : List ℕ} {T : Rows} {d : Described} {k from n left : ℕ} {whole : List Syntax.Field} {c : Checker}
    (M : Recorded f w₀ ou₀ w ou T d k from n n whole [] left c) where
  filled : Filled w from n
  filled = record { given = M.reserved.given; ok = λ j h. M.ok (from + j) (omega arith) (omega arith) }

  record_room : get_or w RECORD-COUNT 0 < 512
  record_room = omega (arith, M.mid.begins.free.records)

  record_row : (is : Tree.Row) → is ≡ row_made M.mid.T₁ w from n → M.front Tree.ε ≡ is
  record_row is e = M.row Tree.ε ∙ onto_none M.mid.T₁ w from n ∙ sym e

  recorded_end : StepEnds f w₀ ou₀ (new_record_w w from n) ou T d (parts (nodes_of d) k (ExprKind.Record whole)).records
      (parts (nodes_of d) k (ExprKind.Record whole)).fields
      (typed (new_record_w w from n) (Some ((new_record_ty w from n), left))) (built d k (λ row. row) whole c)
  recorded_end =
      let R = M.mid.begins.runs in
      let long = R.holds.long in
      let given = within M.mid.begins.sound R from n record_room filled in
      let cell = get_or w RECORD-COUNT 0 + 256 in
      let ty = new_record_ty_lem w from n record_room given in
      rw (M.mid.same ∙ built_none d k M.front M.mid.b) (went {a = Tree.node Tree.Record (M.front Tree.ε)} (record {
        T' = rows_with w from n M.mid.T₁;
        more = more_trans M.mid.grew.adds M.mid.more (new_record_more w from n record_room given long M.mid.T₁);
        runs = new_record_runs M.mid.begins.sound R from n record_room filled;
        lines = told_same (record { at = λ i l h. new_record_other w from n record_room given i (λ q. omega arith) (λ q. omega arith) })
            M.mid.begins.lines;
        grew = record {
          adds = new_record_adds w from n record_room given long M.low M.mid.grew.adds;
          keeps = keeps_trans M.mid.grew.keeps (new_record_keeps w from n);
          records = omega (arith, new_record_count w from n record_room given long, M.mid.grew.records, M.mid.few_records);
          fields = omega (
            arith,
            new_record_other w from n record_room given RECORD-FIELD-COUNT (λ q. omega arith) (λ q. omega arith),
            M.mid.grew.fields,
            M.mid.few_fields,
          );
        };
        is = record {
          t = new_record_ty w from n;
          res = ap (λ l. Some (new_record_ty w from n, l)) (sym M.mid.begins.visits);
          ok = rw ty (new_record_cell w from n record_room given long);
          is = rw ty (ap (Tree.node Tree.Record) (sym
              (record_row (rows_with w from n M.mid.T₁ cell) (new_record_row w from n record_room given long M.mid.T₁))));
        };
      }))

-- ---- The loop
-- The loop begins at w₁, after the fields were given away.
pub record RecordGoing (f w₁ ou₁ : List ℕ) (l : Items) (left from : ℕ) (w ou : List ℕ) (i rest : ℕ) : Type 0 where
  pub within : i ≤ l.n
  pub named : (d : Described) (k : ℕ) → AllNamed d k (field_values (fields_from f l 0 l.n)) → AllNamed d k (field_values (fields_from f l i (l.n - i)))
  pub small : Below 65536 (field_names (fields_from f l 0 l.n)) → Below 65536 (field_names (fields_from f l i (l.n - i)))
  pub to : (w₀ : List ℕ) → from ≡ get_or w₀ RECORD-FIELD-COUNT 0 → w₁ ≡ reserve_w w₀ l.n
      → (d : Described) (k : ℕ) (fs : List Syntax.Field) → fs ≡ fields_from f l 0 l.n → AllNamed d k (field_values fs) → Below 65536 (field_names fs)
      → (T : Rows) (c : Checker)
      → Begins f w₀ ou₁ T d (parts (nodes_of d) k (ExprKind.Record fs)) left c
      → Recorded f w₀ ou₁ w ou T d k from l.n i fs (fields_from f l i (l.n - i)) rest c

-- In a run there is room for the fields.
pub record_full : {f w ou w₁ ou₁ : List ℕ} {l : Items} {left from : ℕ} {r : Option (Ty × ℕ)} → from ≡ get_or w RECORD-FIELD-COUNT 0 → 512 < from + l.n
    → InfersRecord f w ou l left w₁ ou₁ r
record_full {f} {l = l} e h = record {
  is = λ d k id fs q named small. record { is = λ T c s u. absurd (omega (arith, e, h, given_room k l.n fs (ap length q ∙ fields_length f l l.n 0) s)) };
}

pub record_start : (f w₁ : List ℕ) {ou₁ : List ℕ} (l : Items) (left from : ℕ) → RecordGoing f w₁ ou₁ l left from w₁ ou₁ 0 left
record_start f w₁ l left from =
    let z : l.n - 0 ≡ l.n = omega arith in
    record {
      within = omega arith;
      named = λ d k h. rw z h;
      small = λ h. rw z h;
      to = λ w₀ p q d k fs e named small T c s. rw (p, q, z, ← e) (recorded_start k l.n fs (ap length e ∙ fields_length f l l.n 0) s);
    }

module _ {f w₁ ou₁ w ou : List ℕ} {l : Items} {left from i rest : ℕ} (A : RecordGoing f w₁ ou₁ l left from w ou i rest) where
  pub record_end : {w₀ : List ℕ} → from ≡ get_or w₀ RECORD-FIELD-COUNT 0 → w₁ ≡ reserve_w w₀ l.n → l.n ≤ i
      → {w' : List ℕ} {t : Ty} → t ≡ new_record_ty w from l.n → w' ≡ new_record_w w from l.n → InfersRecord f w₀ ou₁ l left w' ou (Some (t, rest))
  record_end {w₀} p q h x y = record {
    is = λ d k id fs e named small. record {
      is = λ T c s u.
          let whole : i ≡ l.n = omega (arith, A.within) in
          rw (built_start d k id fs c, x, y) (recorded_end (rw (whole, fields_end f l l.n) at (A.to w₀ p q d k fs e named small T c s)));
    };
  }

  module _ (h : i < l.n) {x : Field} (x-is : x ≡ field_w f l i) {w₂ ou₂ : List ℕ} {r : Option (Ty × ℕ)} (I : Infers f w ou x.value rest w₂ ou₂ r) where
    turn_named : (d : Described) (k : ℕ) → AllNamed d k (field_values (fields_from f l 0 l.n))
        → AllNamed d k (field_values (field_of (field_w f l i) ∷ fields_from f l (i + 1) (l.n - (i + 1))))
    turn_named d k all = rw (fields_next f l i l.n h) at (A.named d k all)

    turn_small : Below 65536 (field_names (fields_from f l 0 l.n))
        → Below 65536 (field_names (field_of (field_w f l i) ∷ fields_from f l (i + 1) (l.n - (i + 1))))
    turn_small all = rw (fields_next f l i l.n h) at (A.small all)

    turn_infers : Infers f w ou (field_w f l i).value rest w₂ ou₂ r
    turn_infers = rw x-is at I

    pub record_out : {w₀ : List ℕ} → from ≡ get_or w₀ RECORD-FIELD-COUNT 0 → w₁ ≡ reserve_w w₀ l.n → r ≡ None
        → InfersRecord f w₀ ou₁ l left w₂ ou₂ None
    unfolding field_values field_of
    record_out {w₀} p q g = record {
      is = λ d k id fs e named small. record {
        is = λ T c s u.
            rw (built_start d k id fs c)
            (recorded_stop (field_of (field_w f l i)) (fields_from f l (i + 1) (l.n - (i + 1)))
            (rw (fields_next f l i l.n h) at (A.to w₀ p q d k fs e named small T c s)) (turn_named d k (rw e at named)).0 turn_infers g);
      };
    }

    pub record_next : {t : Ty} {v : ℕ} → r ≡ Some (t, v) → {w₃ : List ℕ} → w₃ ≡ put_field_w w₂ (from + i) x.name t
        → RecordGoing f w₁ ou₁ l left from w₃ ou₂ (i + 1) v
    unfolding field_values field_names field_of
    record_next g y = record {
      within = omega arith;
      named = λ d k all. (turn_named d k all).1;
      small = λ all. (turn_small all).1;
      to = λ w₀ p q d k fs e named small T c s.
          rw (y, x-is)
          (recorded_next (field_of (field_w f l i)) (fields_from f l (i + 1) (l.n - (i + 1)))
          (rw (fields_next f l i l.n h) at (A.to w₀ p q d k fs e named small T c s)) (turn_named d k (rw e at named)).0 turn_infers g h
          (turn_small (rw e at small)).0);
    }
