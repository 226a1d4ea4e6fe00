-- What a change of words leaves as it was. `Keeps` says that only one region changed; what is read from other words
-- stands for the same: cells (`SameCells`), a slot, the undo log.
use mathlib.Core.Bool.{Bool, true, false}
use mathlib.Core.List.{List}
use mathlib.Core.Logic.{◌⊎◌, inl, ⊎_elim}
use mathlib.Core.Path.{◌≡◌, refl, sym, ◌∙◌, ap}
use Prim.Native.Nat.{ℕ, zero, suc, ◌+◌, ◌-◌, ◌*◌, ◌%◌, ◌<◌, ◌≤◌}
use native.Mathlib.Omega.{arith}
use lib.Dec.{ltb}
use lib.ListN.{get_or, set, length-set}
use lib.Seq.{get_or-set_other}
use borrow.Author.Tests.{lt-ltb, le-ltb, ltb-true}
use Rattle.unification.specs.Ty as Tree
use Rattle.work.specs.Layout.{TYPE-COUNT, TYPES, FIELDS, RECORD-COUNT, RECORD-FIELD-COUNT, ENV-LEN, UNKNOWNS, RECORDS, RECORD-FIELDS, ENV, BINDINGS, UNDO}
use Rattle.cells.specs.declared.Ty.{Ty}
use Rattle.cells.specs.declared.Ty.TheVariants.{Int, Str, Bytes, Fact, Record, Union, Var, Error}
use Rattle.cells.specs.declared.Kind.{Kind}
use Rattle.cells.specs.declared.Kind.TheVariants.{Fields, Alternatives}
use Rattle.cells.specs.Words.{pick, declared_w, count_w, first_w, declared_field, made_field, field_w, alternative_w, part_w, slot_w, bound_w}
use Rattle.cells.specs.Inferred.{More}
use Rattle.cells.specs.Stands.{Rows, tree, bound_tree, row_from, row_w, IsCell, declared, made, Ok, OkBound, Cells, undo_of, Keeps}
use Rattle.std.specs.Prelude.{None, Option, Some}

-- ---- One region changed
pub keeps_refl : {a e : ℕ} {w : List ℕ} → Keeps a e w w
keeps_refl = record { below = λ i h. refl; above = λ i h. refl; long = refl }

pub keeps_trans : {a e : ℕ} {u v w : List ℕ} → Keeps a e u v → Keeps a e v w → Keeps a e u w
keeps_trans p q = record { below = λ i h. q.below i h ∙ p.below i h; above = λ i h. q.above i h ∙ p.above i h; long = q.long ∙ p.long }

pub keeps_sym : {a e : ℕ} {w w' : List ℕ} → Keeps a e w w' → Keeps a e w' w
keeps_sym k = record { below = λ i h. sym (k.below i h); above = λ i h. sym (k.above i h); long = sym k.long }

pub keeps_wider : {a e b f : ℕ} {w w' : List ℕ} → b ≤ a → e ≤ f → Keeps a e w w' → Keeps b f w w'
keeps_wider lo hi k = record { below = λ i h. k.below i (omega arith); above = λ i h. k.above i (omega arith); long = k.long }

pub keeps_set : {a e : ℕ} (w : List ℕ) (i v : ℕ) → a ≤ i → i < e → Keeps a e w (set w i v)
keeps_set w i v lo hi = record {
  below = λ j h. get_or-set_other w i j v 0 (λ q. omega arith);
  above = λ j h. get_or-set_other w i j v 0 (λ q. omega arith);
  long = length-set w i v;
}

pub keeps_pick : {a e : ℕ} {w u v : List ℕ} (b : Bool) → (b ≡ true → Keeps a e w u) → (b ≡ false → Keeps a e w v) → Keeps a e w (pick b u v)
keeps_pick true f g = f refl
keeps_pick false f g = g refl

-- ---- Cells

-- The words that the cells of before are read from are as they were, and no unknown went.
pub record OldCells (w w' : List ℕ) : Type 0 where
  pub said : (i : ℕ) → i < RECORD-COUNT → get_or w' i 0 ≡ get_or w i 0
  pub records : get_or w RECORD-COUNT 0 ≤ get_or w' RECORD-COUNT 0
  pub places : (c : ℕ) → 256 ≤ c → c - 256 < get_or w RECORD-COUNT 0 → get_or w' (RECORDS + (c - 256)) 0 ≡ get_or w (RECORDS + (c - 256)) 0
  pub fields : (c : ℕ) → 256 ≤ c → c - 256 < get_or w RECORD-COUNT 0
      → (i : ℕ) → RECORD-FIELDS + 2 * first_w w c ≤ i → i < RECORD-FIELDS + 2 * (first_w w c + count_w w c) → get_or w' i 0 ≡ get_or w i 0
  pub unknowns : get_or w UNKNOWNS 0 ≤ get_or w' UNKNOWNS 0

pub field_declared : (w : List ℕ) (c j : ℕ) → c < 256 → field_w w c j ≡ declared_field w (get_or w (FIELDS + first_w w c + j) 0)
unfolding field_w
field_declared w c j lt = rw (lt-ltb c 256 lt)

pub field_made : (w : List ℕ) (c j : ℕ) → 256 ≤ c → field_w w c j ≡ made_field w (RECORD-FIELDS + 2 * (first_w w c + j))
unfolding field_w
field_made w c j le = rw (le-ltb c 256 le)

pub made_field_same : (w w' : List ℕ) (at : ℕ) → get_or w' at 0 ≡ get_or w at 0 → get_or w' (at + 1) 0 ≡ get_or w (at + 1) 0
    → made_field w' at ≡ made_field w at
unfolding made_field
made_field_same w w' at p q = rw (p, q)

pub ok_by : (w w' : List ℕ) (t : Ty) → ((k : Kind) (c : ℕ) → IsCell w k c → IsCell w' k c) → get_or w UNKNOWNS 0 ≤ get_or w' UNKNOWNS 0 → Ok w t → Ok w' t
ok_by w w' Int c u o = tt
ok_by w w' Str c u o = tt
ok_by w w' Bytes c u o = tt
ok_by w w' (Fact p) c u o = tt
ok_by w w' (Record x) c u o = c Fields x o
ok_by w w' (Union x) c u o = c Alternatives x o
ok_by w w' (Var x) c u o = omega arith
ok_by w w' Error c u o = tt

pub cell_by : {w w' : List ℕ} → ((i : ℕ) → i < RECORD-COUNT → get_or w' i 0 ≡ get_or w i 0) → get_or w RECORD-COUNT 0 ≤ get_or w' RECORD-COUNT 0
    → {k : Kind} {c : ℕ} → IsCell w k c → IsCell w' k c
cell_by {w} {w'} said records (declared {k} {c} lt many tag) =
    declared lt (omega (arith, said TYPE-COUNT (omega arith))) (ap (λ (x : ℕ). x % 16) (said (TYPES + 2 * c) (omega arith)) ∙ tag)
cell_by {w} {w'} said records (made {c} le many) = made le (omega arith)

pub more_refl : {w : List ℕ} {T : Rows} → More w T T
more_refl = record { same = λ k c h. refl }

-- A type of before stands for the same tree.
module _ {w : List ℕ} {T T' : Rows} (M : More w T T') where
  pub tree_more : (t : Ty) → Ok w t → tree T' t ≡ tree T t
  tree_more Int o = refl
  tree_more Str o = refl
  tree_more Bytes o = refl
  tree_more (Fact p) o = refl
  tree_more (Record c) o = ap (Tree.node Tree.Record) (M.same Fields c o)
  tree_more (Union c) o = ap (Tree.node Tree.Union) (M.same Alternatives c o)
  tree_more (Var x) o = refl
  tree_more Error o = refl

  pub bound_more : (b : Option Ty) → OkBound w b → bound_tree T' b ≡ bound_tree T b
  bound_more None o = refl
  bound_more (Some t) o = ap Some (tree_more t o)

-- A cell that is new in w.
pub record NewCell (w : List ℕ) (T : Rows) (k : Kind) (c : ℕ) : Type 0 where
  pub row : T c ≡ row_w T w k c
  pub ok : (j : ℕ) → j < count_w w c → Ok w (part_w w k c j).ty
  pub made : 256 ≤ c
  pub fits : first_w w c + count_w w c ≤ get_or w RECORD-FIELD-COUNT 0

module _ {w w' : List ℕ} (S : OldCells w w') where
  pub cell_old : {k : Kind} {c : ℕ} → IsCell w k c → IsCell w' k c
  cell_old h = cell_by S.said S.records h

  pub ok_old : (t : Ty) → Ok w t → Ok w' t
  ok_old t o = ok_by w w' t (λ k c h. cell_old h) S.unknowns o

  pub ok_bound_old : (b : Option Ty) → OkBound w b → OkBound w' b
  ok_bound_old None o = tt
  ok_bound_old (Some t) o = ok_old t o

  pub declared_old : (t : ℕ) → t < 256 → declared_w w' t ≡ declared_w w t
  unfolding declared_w
  declared_old t h = rw (S.said (TYPES + 2 * t) (omega arith), S.said (TYPES + 2 * t + 1) (omega arith))

  -- The words of a cell are where they were.
  pub count_old : {k : Kind} {c : ℕ} → IsCell w k c → count_w w' c ≡ count_w w c
  unfolding count_w
  count_old (declared {k} {c} lt many tag) = rw (lt-ltb c 256 lt, S.said (TYPES + 2 * c) (omega arith))
  count_old (made {c} le many) = rw (le-ltb c 256 le, S.places c le many)

  pub first_old : {k : Kind} {c : ℕ} → IsCell w k c → first_w w' c ≡ first_w w c
  unfolding first_w
  first_old (declared {k} {c} lt many tag) = rw (lt-ltb c 256 lt, S.said (TYPES + 2 * c + 1) (omega arith))
  first_old (made {c} le many) = rw (le-ltb c 256 le, S.places c le many)

  declared_field_old : (c j : ℕ) → c < 256 → first_w w' c ≡ first_w w c → FIELDS + first_w w c + j < RECORD-COUNT → field_w w' c j ≡ field_w w c j
  unfolding declared_field
  declared_field_old c j lt f h =
      let at = FIELDS + first_w w c + j in
      rw (field_declared w' c j lt, field_declared w c j lt, f, S.said at (omega arith), declared_old (get_or w at 0 % 256) (omega arith))

  alternative_old : (c j : ℕ) → first_w w' c ≡ first_w w c → FIELDS + first_w w c + 2 * j + 1 < RECORD-COUNT → alternative_w w' c j ≡ alternative_w w c j
  unfolding alternative_w
  alternative_old c j f h =
      let at = FIELDS + first_w w c + 2 * j in
      rw (f, S.said at (omega arith), S.said (at + 1) (omega arith), declared_old (get_or w (at + 1) 0 % 256) (omega arith))

  module _ {T : Rows} (C : Cells w T) where
    pub part_old : {k : Kind} {c : ℕ} → IsCell w k c → (j : ℕ) → j < count_w w c → part_w w' k c j ≡ part_w w k c j
    part_old (declared {k = Fields} {c} lt many tag) j h =
        let i : IsCell w Fields c = declared lt many tag in
        declared_field_old c j lt (first_old i) (omega (arith, C.declared_fits Fields c i lt))
    part_old (declared {k = Alternatives} {c} lt many tag) j h =
        let i : IsCell w Alternatives c = declared lt many tag in
        alternative_old c j (first_old i) (omega (arith, C.declared_fits Alternatives c i lt))
    part_old (made {c} le many) j h =
        let i : IsCell w Fields c = made le many in
        let at = RECORD-FIELDS + 2 * (first_w w c + j) in
        rw (field_made w' c j le, field_made w c j le, first_old i)
        (made_field_same w w' at (S.fields c le many at (omega arith) (omega arith)) (S.fields c le many (at + 1) (omega arith) (omega arith)))

    module _ {T' : Rows} (M : More w T T') where
      row_from_old : {k : Kind} {c : ℕ} → IsCell w k c → (n j : ℕ) → j + n ≤ count_w w c → row_from T' w' k c j n ≡ row_from T w k c j n
      unfolding row_from
      row_from_old i zero j h = refl
      row_from_old {k} {c} i (suc n) j h =
          rw (part_old i j (omega arith), tree_more M (part_w w k c j).ty (C.ok k c j i (omega arith)), row_from_old i n (j + 1) (omega arith))

      pub row_old : {k : Kind} {c : ℕ} → IsCell w k c → row_w T' w' k c ≡ row_w T w k c
      unfolding row_w
      row_old {k} {c} i = rw (count_old i) (row_from_old i (count_w w c) 0 (omega arith))

      -- Each cell is one of before, or new.
      pub cells_more : ((k : Kind) (c : ℕ) → IsCell w' k c → IsCell w k c ⊎ NewCell w' T' k c) → get_or w RECORD-FIELD-COUNT 0 ≤ get_or w' RECORD-FIELD-COUNT 0
          → get_or w' RECORD-COUNT 0 ≤ 512 → get_or w' RECORD-FIELD-COUNT 0 ≤ 512 → Cells w' T'
      cells_more which more few many = record {
        row = λ k c i. ⊎_elim (λ h. M.same k c h ∙ C.row k c h ∙ sym (row_old h)) (λ n. n.row) (which k c i);
        ok = λ k c j i lt. ⊎_elim
            (λ h. let l : j < count_w w c = omega (arith, count_old h) in rw (part_old {k = k} {c = c} h j l) (ok_old (part_w w k c j).ty (C.ok k c j h l)))
            (λ n. n.ok j lt) (which k c i);
        declared_fits = λ k c i lt. ⊎_elim (λ h. rw (count_old {k = k} {c = c} h, first_old {k = k} {c = c} h) (C.declared_fits k c h lt))
            (λ n. absurd (omega (arith, n.made))) (which k c i);
        made_fits = λ c i le. ⊎_elim (λ h. omega (arith, count_old h, first_old h, C.made_fits c h le)) (λ n. n.fits) (which Fields c i);
        few_records = few;
        few_fields = many;
      }

-- All words that cells are read from are as they were, and no unknown went.
pub record SameCells (w w' : List ℕ) : Type 0 where
  pub said : (i : ℕ) → i < ENV-LEN → get_or w' i 0 ≡ get_or w i 0
  pub made : (i : ℕ) → RECORDS ≤ i → i < ENV → get_or w' i 0 ≡ get_or w i 0
  pub unknowns : get_or w UNKNOWNS 0 ≤ get_or w' UNKNOWNS 0

pub keeps_cells : {a e : ℕ} {w w' : List ℕ} → ENV ≤ a → Keeps a e w w' → SameCells w w'
keeps_cells lo k = record {
  said = λ i h. k.below i (omega arith);
  made = λ i l h. k.below i (omega arith);
  unknowns = omega (arith, k.below UNKNOWNS (omega arith));
}

module _ {w w' : List ℕ} (S : SameCells w w') where
  pub cell_same : {k : Kind} {c : ℕ} → IsCell w k c → IsCell w' k c
  cell_same h = cell_by (λ i l. S.said i (omega arith)) (omega (arith, S.said RECORD-COUNT (omega arith))) h

  pub cell_before : {k : Kind} {c : ℕ} → IsCell w' k c → IsCell w k c
  cell_before h = cell_by (λ i l. sym (S.said i (omega arith))) (omega (arith, S.said RECORD-COUNT (omega arith))) h

  pub ok_same : (t : Ty) → Ok w t → Ok w' t
  ok_same t o = ok_by w w' t (λ k c h. cell_same h) S.unknowns o

  pub ok_bound_same : (b : Option Ty) → OkBound w b → OkBound w' b
  ok_bound_same None o = tt
  ok_bound_same (Some t) o = ok_same t o

  module _ {T : Rows} (C : Cells w T) where
    pub same_old : OldCells w w'
    same_old = record {
      said = λ i h. S.said i (omega arith);
      records = omega (arith, S.said RECORD-COUNT (omega arith));
      places = λ c le many. S.made (RECORDS + (c - 256)) (omega arith) (omega (arith, C.few_records));
      fields = λ c le many i lo hi. S.made i (omega arith) (omega (arith, C.made_fits c (made le many) le, C.few_fields));
      unknowns = S.unknowns;
    }

    pub part_same : {k : Kind} {c : ℕ} → IsCell w k c → (j : ℕ) → j < count_w w c → part_w w' k c j ≡ part_w w k c j
    part_same i j h = part_old same_old C i j h

    pub cells_same : Cells w' T
    cells_same =
        let fields = S.said RECORD-FIELD-COUNT (omega arith) in
        cells_more same_old C more_refl (λ k c i. inl (cell_before i)) (omega (arith, fields))
        (omega (arith, S.said RECORD-COUNT (omega arith), C.few_records)) (omega (arith, fields, C.few_fields))

-- ---- Slots and the undo log
pub slot_same : (w w' : List ℕ) (at : ℕ) → get_or w' at 0 ≡ get_or w at 0 → get_or w' (at + 1) 0 ≡ get_or w (at + 1) 0 → slot_w w' at ≡ slot_w w at
unfolding slot_w
slot_same w w' at p q = rw (p, q)

pub bound_same : (w w' : List ℕ) (x : ℕ) → get_or w' UNKNOWNS 0 ≡ get_or w UNKNOWNS 0
    → (x < get_or w UNKNOWNS 0 → slot_w w' (BINDINGS + 2 * x) ≡ slot_w w (BINDINGS + 2 * x)) → bound_w w' x ≡ bound_w w x
unfolding bound_w
bound_same w w' x e s = rw e (go (ltb x (get_or w UNKNOWNS 0)) refl)
  where
    go : (b : Bool) → ltb x (get_or w UNKNOWNS 0) ≡ b → pick b (slot_w w' (BINDINGS + 2 * x)) None ≡ pick b (slot_w w (BINDINGS + 2 * x)) None
    go true q = s (ltb-true x (get_or w UNKNOWNS 0) q)
    go false q = refl

pub undo_same : (w w' : List ℕ) (n : ℕ) → ((i : ℕ) → i < n → get_or w' (UNDO + i) 0 ≡ get_or w (UNDO + i) 0) → undo_of w' n ≡ undo_of w n
unfolding undo_of
undo_same w w' zero s = refl
undo_same w w' (suc n) s = rw (s n (omega arith), undo_same w w' n (λ i h. s i (omega arith)))
