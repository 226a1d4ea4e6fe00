-- An inferred record in the making. Its fields are given away first and filled one by one, while other records are
-- made; no cell has a field among them (`Reserved`), so filling one changes no cell. A new record is one more cell:
-- rows of before stand.
use mathlib.Core.Bool.{Bool, true, false}
use mathlib.Core.List.{List}
use mathlib.Core.Logic.{◌≢◌, ◌⊎◌, inl, inr, ⊎_elim, by_cases}
use mathlib.Core.Path.{◌≡◌, refl, sym, ◌∙◌, ap}
use native.Mathlib.Decide.{ℕ_discrete}
use native.Mathlib.Omega.{arith}
use Prim.Native.Nat.{ℕ, zero, suc, ◌+◌, ◌-◌, ◌*◌, ◌/◌, ◌%◌, ◌<◌, ◌≤◌}
use lib.Dec.{ltb}
use lib.ListN.{length, get_or, set, length-set}
use lib.Seq.{get_or-set_same, get_or-set_other}
use borrow.Author.Tests.{lt-ltb, le-ltb, ltb-true, ltb-false, eq-eqb, ne_eqb}
use Rattle.unification.specs.Bindings.{State}
use Rattle.work.specs.Layout.{TYPE-COUNT, TYPES, RECORD-COUNT, RECORD-FIELD-COUNT, UNKNOWNS, RECORDS, RECORD-FIELDS, ENV, END}
use Rattle.cells.specs.declared.Ty.{Ty}
use Rattle.cells.specs.declared.Ty.TheVariants.{Int, Str, Bytes, Fact, Record, Union, Var, Error}
use Rattle.cells.specs.declared.Kind.{Kind}
use Rattle.cells.specs.declared.Kind.TheVariants.{Fields}
use Rattle.cells.specs.Words.{tag_w, payload_w, count_w, first_w, made_field, field_w}
use Rattle.cells.specs.Stands.{Rows, row_from, row_w, IsCell, declared, made, Cells, Holds, Keeps}
use Rattle.cells.specs.Inferred.{reserve_w, put_field_w, new_record_w, new_record_ty, More, AddsCells, Reserved, row_made, rows_with, Filled}
use Rattle.cells.proofs.Frame.{keeps_refl, keeps_trans, keeps_set, keeps_pick, cell_by, OldCells, SameCells, NewCell, more_refl, ok_old, count_old, first_old}
use Rattle.cells.proofs.Frame.{cells_more}
use Rattle.cells.proofs.Frame.{tree_more, field_made, made_field_same}
use Rattle.cells.proofs.Elsewhere.{SameSlots, holds_moved}
use Rattle.cells.proofs.State.{read_back}

pub tag_small : (t : Ty) → tag_w t < 16
tag_small Int = omega arith
tag_small Str = omega arith
tag_small Bytes = omega arith
tag_small (Fact p) = omega arith
tag_small (Record c) = omega arith
tag_small (Union c) = omega arith
tag_small (Var x) = omega arith
tag_small Error = omega arith

-- ---- The words of a made cell
pub first_made : (w : List ℕ) (c : ℕ) → 256 ≤ c → first_w w c ≡ get_or w (RECORDS + (c - 256)) 0 / 1024
unfolding first_w
first_made w c le = rw (le-ltb c 256 le)

pub count_made : (w : List ℕ) (c : ℕ) → 256 ≤ c → count_w w c ≡ get_or w (RECORDS + (c - 256)) 0 % 1024
unfolding count_w
count_made w c le = rw (le-ltb c 256 le)

module _ (w w' : List ℕ) (c : ℕ) (le : 256 ≤ c) (same : get_or w' (RECORDS + (c - 256)) 0 ≡ get_or w (RECORDS + (c - 256)) 0) where
  first_kept : first_w w' c ≡ first_w w c
  first_kept = rw (first_made w' c le, first_made w c le, same)

  count_kept : count_w w' c ≡ count_w w c
  count_kept = rw (count_made w' c le, count_made w c le, same)

-- ---- No cell is written over
pub adds_refl : {w : List ℕ} → AddsCells w w
adds_refl = record {
  said = λ i h. refl;
  records = omega arith;
  fields = omega arith;
  places = λ i l h. refl;
  given = λ i l h. refl;
  new = λ c l h. absurd (omega arith);
  unknowns = omega arith;
}

pub adds_trans : {u v w : List ℕ} → AddsCells u v → AddsCells v w → AddsCells u w
adds_trans {u} {v} {w} p q = record {
  said = λ i h. q.said i h ∙ p.said i h;
  records = omega (arith, p.records, q.records);
  fields = omega (arith, p.fields, q.fields);
  places = λ i l h. q.places i l (omega (arith, p.records)) ∙ p.places i l h;
  given = λ i l h. q.given i l (omega (arith, p.fields)) ∙ p.given i l h;
  new = λ c l h. go c l h (ltb c (256 + get_or v RECORD-COUNT 0)) refl;
  unknowns = omega (arith, p.unknowns, q.unknowns);
}
  where
    go : (c : ℕ) → 256 + get_or u RECORD-COUNT 0 ≤ c → c < 256 + get_or w RECORD-COUNT 0 → (b : Bool) → ltb c (256 + get_or v RECORD-COUNT 0) ≡ b
        → get_or u RECORD-FIELD-COUNT 0 ≤ first_w w c
    go c l h true e =
        let lt = ltb-true c (256 + get_or v RECORD-COUNT 0) e in
        omega (arith, p.new c l lt, first_kept v w c (omega arith) (q.places (RECORDS + (c - 256)) (omega arith) (omega arith)))
    go c l h false e = omega (arith, q.new c (ltb-false c (256 + get_or v RECORD-COUNT 0) e) h, p.fields)

pub same_adds : {w w' : List ℕ} → get_or w RECORD-COUNT 0 ≤ 512 → get_or w RECORD-FIELD-COUNT 0 ≤ 512 → SameCells w w' → AddsCells w w'
same_adds {w} {w'} few many S = record {
  said = λ i h. S.said i (omega arith);
  records = omega (arith, S.said RECORD-COUNT (omega arith));
  fields = omega (arith, S.said RECORD-FIELD-COUNT (omega arith));
  places = λ i l h. S.made i (omega arith) (omega arith);
  given = λ i l h. S.made i (omega arith) (omega arith);
  new = λ c l h. absurd (omega (arith, S.said RECORD-COUNT (omega arith)));
  unknowns = S.unknowns;
}

pub adds_old : {w w' : List ℕ} {T : Rows} → Cells w T → AddsCells w w' → OldCells w w'
adds_old C A = record {
  said = A.said;
  records = A.records;
  places = λ c le many. A.places (RECORDS + (c - 256)) (omega arith) (omega arith);
  fields = λ c le many i lo hi. A.given i (omega arith) (omega (arith, C.made_fits c (made le many) le));
  unknowns = A.unknowns;
}

pub reserved_kept : {w w' : List ℕ} {T : Rows} {from n : ℕ} → Cells w T → AddsCells w w' → Reserved w from n → Reserved w' from n
reserved_kept {w} {w'} {T} {from} {n} C A R = record {
  given = omega (arith, R.given, A.fields);
  apart = λ c i le. go c i le (ltb (c - 256) (get_or w RECORD-COUNT 0)) refl;
}
  where
    go : (c : ℕ) → IsCell w' Fields c → 256 ≤ c → (b : Bool) → ltb (c - 256) (get_or w RECORD-COUNT 0) ≡ b
        → (first_w w' c + count_w w' c ≤ from) ⊎ (from + n ≤ first_w w' c)
    go c i le true e =
        let old : IsCell w Fields c = made le (ltb-true (c - 256) (get_or w RECORD-COUNT 0) e) in
        rw (first_old (adds_old C A) old, count_old (adds_old C A) old) (R.apart c old le)
    go c (declared lt many tag) le false e = absurd (omega arith)
    go c (made l many) le false e = inr (omega (arith, R.given, A.new c (omega (arith, ltb-false (c - 256) (get_or w RECORD-COUNT 0) e)) (omega arith)))

-- ---- The state stands

-- No record was made.
pub holds_old : {w w' : List ℕ} {T : Rows} {st : State} → OldCells w w' → SameSlots w w'
    → get_or w' RECORD-COUNT 0 ≡ get_or w RECORD-COUNT 0 → get_or w RECORD-FIELD-COUNT 0 ≤ get_or w' RECORD-FIELD-COUNT 0 → get_or w' RECORD-FIELD-COUNT 0 ≤ 512
    → Holds w T st → Holds w' T st
holds_old O S records more few H =
    let C = cells_more O H.cells more_refl (λ k c i. inl (cell_by (λ j h. sym (O.said j h)) (omega arith) i)) more
    (omega (arith, H.cells.few_records)) few in
    holds_moved O S more_refl C H

-- ---- Which words change, whatever they are

pub reserve_keeps : (w : List ℕ) (n : ℕ) → Keeps RECORD-COUNT END w (reserve_w w n)
unfolding reserve_w
reserve_keeps w n = keeps_pick (ltb 512 (get_or w RECORD-FIELD-COUNT 0)) (λ a. keeps_refl)
    (λ a. keeps_pick (ltb (512 - get_or w RECORD-FIELD-COUNT 0) n) (λ b. keeps_refl)
    (λ b. keeps_set w RECORD-FIELD-COUNT (get_or w RECORD-FIELD-COUNT 0 + n) (omega arith) (omega arith)))

pub put_field_keeps : (w : List ℕ) (i name : ℕ) (t : Ty) → Keeps RECORD-FIELDS ENV w (put_field_w w i name t)
unfolding put_field_w
put_field_keeps w i name t = keeps_pick (ltb i 512)
    (λ a. keeps_pick (ltb name 65536)
    (λ b.
    let h = ltb-true i 512 a in
    let at = RECORD-FIELDS + 2 * i in
    keeps_trans (keeps_set w at (name * 16 + tag_w t) (omega arith) (omega arith))
    (keeps_set (set w at (name * 16 + tag_w t)) (at + 1) (payload_w t) (omega arith) (omega arith)))
    (λ b. keeps_refl)) (λ a. keeps_refl)

pub new_record_keeps : (w : List ℕ) (from n : ℕ) → Keeps RECORD-COUNT END w (new_record_w w from n)
unfolding new_record_w
new_record_keeps w from n = keeps_pick (ltb (get_or w RECORD-COUNT 0) 512)
    (λ a. keeps_pick (ltb 512 from) (λ b. keeps_refl)
    (λ b. keeps_pick (ltb 512 n) (λ c. keeps_refl)
    (λ c.
    let h = ltb-true (get_or w RECORD-COUNT 0) 512 a in
    let at = RECORDS + get_or w RECORD-COUNT 0 in
    keeps_trans (keeps_set w at (from * 1024 + n) (omega arith) (omega arith))
    (keeps_set (set w at (from * 1024 + n)) RECORD-COUNT (get_or w RECORD-COUNT 0 + 1) (omega arith) (omega arith)))))
    (λ a. keeps_refl)

-- ---- `reserve`
module _ (w : List ℕ) (n : ℕ) (room : get_or w RECORD-FIELD-COUNT 0 + n ≤ 512) where
  reserve_is : reserve_w w n ≡ set w RECORD-FIELD-COUNT (get_or w RECORD-FIELD-COUNT 0 + n)
  unfolding reserve_w
  reserve_is = rw (le-ltb 512 (get_or w RECORD-FIELD-COUNT 0) (omega arith), le-ltb (512 - get_or w RECORD-FIELD-COUNT 0) n (omega arith))

  pub reserve_other : (i : ℕ) → i ≢ RECORD-FIELD-COUNT → get_or (reserve_w w n) i 0 ≡ get_or w i 0
  reserve_other i h = rw reserve_is (get_or-set_other w RECORD-FIELD-COUNT i (get_or w RECORD-FIELD-COUNT 0 + n) 0 h)

  module _ (long : END ≤ length w) where
    pub reserve_count : get_or (reserve_w w n) RECORD-FIELD-COUNT 0 ≡ get_or w RECORD-FIELD-COUNT 0 + n
    reserve_count = rw reserve_is (get_or-set_same w RECORD-FIELD-COUNT (get_or w RECORD-FIELD-COUNT 0 + n) 0 (omega arith))

    pub reserve_adds : AddsCells w (reserve_w w n)
    reserve_adds = record {
      said = λ i h. reserve_other i (λ q. omega arith);
      records = omega (arith, reserve_other RECORD-COUNT (λ q. omega arith));
      fields = omega (arith, reserve_count);
      places = λ i l h. reserve_other i (λ q. omega arith);
      given = λ i l h. reserve_other i (λ q. omega arith);
      new = λ c l h. absurd (omega (arith, reserve_other RECORD-COUNT (λ q. omega arith)));
      unknowns = omega (arith, reserve_other UNKNOWNS (λ q. omega arith));
    }

  module _ {T : Rows} {st : State} (H : Holds w T st) where
    pub reserve_holds : Holds (reserve_w w n) T st
    reserve_holds = holds_old (adds_old H.cells (reserve_adds H.long))
        (record { unknowns = reserve_other UNKNOWNS (λ q. omega arith); at = λ i l h. reserve_other i (λ q. omega arith); long = (reserve_keeps w n).long })
        (reserve_other RECORD-COUNT (λ q. omega arith)) (omega (arith, reserve_count H.long)) (omega (arith, reserve_count H.long)) H

    pub reserve_reserved : Reserved (reserve_w w n) (get_or w RECORD-FIELD-COUNT 0) n
    reserve_reserved = record {
      given = omega (arith, reserve_count H.long);
      apart = λ c i le.
          let same = reserve_other (RECORDS + (c - 256)) (λ q. omega arith) in
          let old : IsCell w Fields c = cell_by (λ j h. sym (reserve_other j (λ q. omega arith)))
          (omega (arith, reserve_other RECORD-COUNT (λ q. omega arith))) i in
          inl (omega (arith, H.cells.made_fits c old le, first_kept w (reserve_w w n) c le same, count_kept w (reserve_w w n) c le same));
    }

-- ---- `put_field`
module _ (w : List ℕ) (i name : ℕ) (t : Ty) (lt : i < 512) (small : name < 65536) where
  put_field_is : put_field_w w i name t ≡ set (set w (RECORD-FIELDS + 2 * i) (name * 16 + tag_w t)) (RECORD-FIELDS + 2 * i + 1) (payload_w t)
  unfolding put_field_w
  put_field_is = rw (lt-ltb i 512 lt, lt-ltb name 65536 small)

  pub put_field_other : (j : ℕ) → j ≢ RECORD-FIELDS + 2 * i → j ≢ RECORD-FIELDS + 2 * i + 1 → get_or (put_field_w w i name t) j 0 ≡ get_or w j 0
  put_field_other j n m = rw put_field_is
      (get_or-set_other (set w (RECORD-FIELDS + 2 * i) (name * 16 + tag_w t)) (RECORD-FIELDS + 2 * i + 1) j (payload_w t) 0 m ∙ get_or-set_other w
      (RECORD-FIELDS + 2 * i) j (name * 16 + tag_w t) 0 n)

  -- the field is read back, and others stand
  pub put_field_here : END ≤ length w → made_field (put_field_w w i name t) (RECORD-FIELDS + 2 * i) ≡ record { key = name; label = 0; ty = t }
  unfolding made_field
  put_field_here long =
      let at = RECORD-FIELDS + 2 * i in
      let x = name * 16 + tag_w t in
      let head : get_or (put_field_w w i name t) at 0 ≡ x =
      rw put_field_is (get_or-set_other (set w at x) (at + 1) at (payload_w t) 0 (λ q. omega arith) ∙ get_or-set_same w at x 0 (omega arith)) in
      let payload : get_or (put_field_w w i name t) (at + 1) 0 ≡ payload_w t =
      rw put_field_is (get_or-set_same (set w at x) (at + 1) (payload_w t) 0 (omega (arith, length-set w at x))) in
      let key : x / 16 ≡ name = omega (arith, tag_small t) in
      let tag : x % 16 ≡ tag_w t = omega (arith, tag_small t) in
      rw (head, payload, key, tag, read_back t)

  pub put_field_apart : (j : ℕ) → j ≢ i → made_field (put_field_w w i name t) (RECORD-FIELDS + 2 * j) ≡ made_field w (RECORD-FIELDS + 2 * j)
  put_field_apart j n = made_field_same w (put_field_w w i name t) (RECORD-FIELDS + 2 * j)
      (put_field_other (RECORD-FIELDS + 2 * j) (λ q. n (omega arith)) (λ q. omega arith))
      (put_field_other (RECORD-FIELDS + 2 * j + 1) (λ q. omega arith) (λ q. n (omega arith)))

  module _ {from n : ℕ} (R : Reserved w from n) (low : from ≤ i) (high : i < from + n) (few : get_or w RECORD-COUNT 0 ≤ 512) where
    pub put_field_old : OldCells w (put_field_w w i name t)
    put_field_old = record {
      said = λ j h. (put_field_keeps w i name t).below j (omega arith);
      records = omega (arith, (put_field_keeps w i name t).below RECORD-COUNT (omega arith));
      places = λ c le many. (put_field_keeps w i name t).below (RECORDS + (c - 256)) (omega arith);
      fields = λ c le many j lo hi. ⊎_elim
          (λ h. put_field_other j (λ q. omega arith) (λ q. omega arith))
          (λ h. put_field_other j (λ q. omega arith) (λ q. omega arith)) (R.apart c (made le many) le);
      unknowns = omega (arith, (put_field_keeps w i name t).below UNKNOWNS (omega arith));
    }

    pub put_field_holds : {T : Rows} {st : State} → Holds w T st → Holds (put_field_w w i name t) T st
    put_field_holds H =
        let K = put_field_keeps w i name t in
        let fields = K.below RECORD-FIELD-COUNT (omega arith) in
        holds_old put_field_old (record { unknowns = K.below UNKNOWNS (omega arith); at = λ j l h. K.above j (omega arith); long = K.long })
        (K.below RECORD-COUNT (omega arith))
        (omega (arith, fields)) (omega (arith, fields, H.cells.few_fields)) H

    pub put_field_reserved : Reserved (put_field_w w i name t) from n
    put_field_reserved = record {
      given = omega (arith, R.given, (put_field_keeps w i name t).below RECORD-FIELD-COUNT (omega arith));
      apart = λ c j le. go c j le;
    }
      where
        go : (c : ℕ) → IsCell (put_field_w w i name t) Fields c → 256 ≤ c
            → (first_w (put_field_w w i name t) c + count_w (put_field_w w i name t) c ≤ from) ⊎ (from + n ≤ first_w (put_field_w w i name t) c)
        go c j le =
            let old : IsCell w Fields c = cell_by (λ k h. sym ((put_field_keeps w i name t).below k (omega arith)))
            (omega (arith, (put_field_keeps w i name t).below RECORD-COUNT (omega arith))) j in
            rw (first_old put_field_old old, count_old put_field_old old) (R.apart c old le)

  -- In a run of which w₀ was the beginning, the field was given away since.
  pub put_field_adds : {w₀ : List ℕ} → get_or w RECORD-COUNT 0 ≤ 512 → get_or w₀ RECORD-FIELD-COUNT 0 ≤ i → AddsCells w₀ w
      → AddsCells w₀ (put_field_w w i name t)
  put_field_adds {w₀} few low A =
      let K = put_field_keeps w i name t in
      record {
        said = λ j h. K.below j (omega arith) ∙ A.said j h;
        records = omega (arith, K.below RECORD-COUNT (omega arith), A.records);
        fields = omega (arith, K.below RECORD-FIELD-COUNT (omega arith), A.fields);
        places = λ j l h. K.below j (omega (arith, A.records)) ∙ A.places j l h;
        given = λ j l h. put_field_other j (λ q. omega arith) (λ q. omega arith) ∙ A.given j l h;
        new = λ c l h.
            let many = K.below RECORD-COUNT (omega arith) in
            omega (arith, A.new c l (omega arith), first_kept w (put_field_w w i name t) c (omega arith) (K.below (RECORDS + (c - 256)) (omega arith)));
        unknowns = omega (arith, K.below UNKNOWNS (omega arith), A.unknowns);
      }

-- ---- `new_record`
module _ (w : List ℕ) (from n : ℕ) (room : get_or w RECORD-COUNT 0 < 512) (given : from + n ≤ 512) where
  abbrev count : ℕ
  count = get_or w RECORD-COUNT 0

  new_record_is : new_record_w w from n ≡ set (set w (RECORDS + count) (from * 1024 + n)) RECORD-COUNT (count + 1)
  unfolding new_record_w
  new_record_is = rw (lt-ltb count 512 room, le-ltb 512 from (omega arith), le-ltb 512 n (omega arith))

  pub new_record_ty_lem : new_record_ty w from n ≡ Record (count + 256)
  unfolding new_record_ty
  new_record_ty_lem = rw (lt-ltb count 512 room, le-ltb 512 from (omega arith), le-ltb 512 n (omega arith))

  pub new_record_other : (i : ℕ) → i ≢ RECORD-COUNT → i ≢ RECORDS + count → get_or (new_record_w w from n) i 0 ≡ get_or w i 0
  new_record_other i p q = rw new_record_is
      (get_or-set_other (set w (RECORDS + count) (from * 1024 + n)) RECORD-COUNT i (count + 1) 0 p ∙ get_or-set_other w (RECORDS + count) i
      (from * 1024 + n) 0 q)

  module _ (long : END ≤ length w) where
    pub new_record_count : get_or (new_record_w w from n) RECORD-COUNT 0 ≡ count + 1
    new_record_count = rw new_record_is (get_or-set_same (set w (RECORDS + count) (from * 1024 + n)) RECORD-COUNT (count + 1) 0
        (omega (arith, length-set w (RECORDS + count) (from * 1024 + n))))

    new_record_place : get_or (new_record_w w from n) (RECORDS + (count + 256 - 256)) 0 ≡ from * 1024 + n
    new_record_place =
        let at : count + 256 - 256 ≡ count = omega arith in
        rw (at, new_record_is)
        (get_or-set_other (set w (RECORDS + count) (from * 1024 + n)) RECORD-COUNT (RECORDS + count) (count + 1) 0 (λ q. omega arith) ∙ get_or-set_same w
        (RECORDS + count) (from * 1024 + n) 0 (omega arith))

    new_record_first : first_w (new_record_w w from n) (count + 256) ≡ from
    new_record_first =
        let e : (from * 1024 + n) / 1024 ≡ from = omega arith in
        first_made (new_record_w w from n) (count + 256) (omega arith) ∙ rw (new_record_place, e)

    new_record_length : count_w (new_record_w w from n) (count + 256) ≡ n
    new_record_length =
        let e : (from * 1024 + n) % 1024 ≡ n = omega arith in
        count_made (new_record_w w from n) (count + 256) (omega arith) ∙ rw (new_record_place, e)

    pub new_record_old : OldCells w (new_record_w w from n)
    new_record_old = record {
      said = λ i h. new_record_other i (λ q. omega arith) (λ q. omega arith);
      records = omega (arith, new_record_count);
      places = λ c le many. new_record_other (RECORDS + (c - 256)) (λ q. omega arith) (λ q. omega arith);
      fields = λ c le many i lo hi. new_record_other i (λ q. omega arith) (λ q. omega arith);
      unknowns = omega (arith, new_record_other UNKNOWNS (λ q. omega arith) (λ q. omega arith));
    }

    pub new_record_adds : {w₀ : List ℕ} → get_or w₀ RECORD-FIELD-COUNT 0 ≤ from → AddsCells w₀ w → AddsCells w₀ (new_record_w w from n)
    new_record_adds {w₀} low A = record {
      said = λ j h. new_record_other j (λ q. omega arith) (λ q. omega arith) ∙ A.said j h;
      records = omega (arith, new_record_count, A.records);
      fields = omega (arith, new_record_other RECORD-FIELD-COUNT (λ q. omega arith) (λ q. omega arith), A.fields);
      places = λ j l h. new_record_other j (λ q. omega arith) (λ q. omega (arith, A.records)) ∙ A.places j l h;
      given = λ j l h. new_record_other j (λ q. omega arith) (λ q. omega arith) ∙ A.given j l h;
      new = λ c l h. by_cases (ℕ_discrete c (count + 256))
          (λ e. rw e (omega (arith, new_record_first)))
          (λ ne.
          let lt : c < 256 + count = omega (arith, new_record_count) in
          omega (
            arith,
            A.new c l lt,
            first_kept w (new_record_w w from n) c (omega arith)
                (new_record_other (RECORDS + (c - 256)) (λ q. omega arith) (λ q. omega arith)),
          ));
      unknowns = omega (arith, new_record_other UNKNOWNS (λ q. omega arith) (λ q. omega arith), A.unknowns);
    }

    pub new_record_row : (T : Rows) → rows_with w from n T (count + 256) ≡ row_made T w from n
    new_record_row T = rw (eq-eqb (count + 256) (count + 256) refl)

    no_cell : {k : Kind} {c : ℕ} → IsCell w k c → c ≢ count + 256
    no_cell (declared lt many tag) e = omega arith
    no_cell (made le many) e = omega arith

    pub new_record_more : (T : Rows) → More w T (rows_with w from n T)
    new_record_more T = record { same = λ k c h. rw (ne_eqb c (count + 256) (no_cell h)) }

    pub new_record_cell : IsCell (new_record_w w from n) Fields (count + 256)
    new_record_cell = made {c = count + 256} (omega arith) (omega (arith, new_record_count))

    -- a cell of now was a cell, or is the new one
    pub new_or_old : {k : Kind} {c : ℕ} → IsCell (new_record_w w from n) k c → IsCell w k c ⊎ ((k ≡ Fields) × (c ≡ count + 256))
    new_or_old (declared {k} {c} lt many tag) =
        inl (declared {k = k} {c = c} lt (omega (arith, new_record_old.said TYPE-COUNT (omega arith)))
        (rw (← new_record_old.said (TYPES + 2 * c) (omega arith)) tag))
    new_or_old (made {c} le many) = by_cases (ℕ_discrete c (count + 256)) (λ e. inr (refl, e)) (λ ne. inl (made {c = c} le (omega (arith, new_record_count))))

    module _ {T : Rows} {st : State} (H : Holds w T st) (F : Filled w from n) where
      abbrev w' : List ℕ
      w' = new_record_w w from n

      new_part : (j : ℕ) → field_w w' (count + 256) j ≡ made_field w (RECORD-FIELDS + 2 * (from + j))
      new_part j = rw (field_made w' (count + 256) j (omega arith), new_record_first)
          (made_field_same w w' (RECORD-FIELDS + 2 * (from + j))
          (new_record_other (RECORD-FIELDS + 2 * (from + j)) (λ q. omega arith) (λ q. omega arith))
          (new_record_other (RECORD-FIELDS + 2 * (from + j) + 1) (λ q. omega arith) (λ q. omega arith)))

      new_row : (m j : ℕ) → j + m ≤ n → row_made T w (from + j) m ≡ row_from (rows_with w from n T) w' Fields (count + 256) j m
      unfolding row_from row_made made_field
      new_row zero j h = refl
      new_row (suc m) j h =
          let next : from + j + 1 ≡ from + (j + 1) = omega arith in
          rw (
            new_part j,
            tree_more (new_record_more T) (made_field w (RECORD-FIELDS + 2 * (from + j))).ty (F.ok j (omega arith)),
            next,
            new_row m (j + 1) (omega arith),
          )

      new_cell : NewCell w' (rows_with w from n T) Fields (count + 256)
      unfolding row_w
      new_cell =
          let whole : from + 0 ≡ from = omega arith in
          record {
            row = rw new_record_length (new_record_row T ∙ ap (λ (x : ℕ). row_made T w x n) (sym whole) ∙ new_row n 0 (omega arith));
            ok = λ j h. rw (new_part j) (ok_old new_record_old (made_field w (RECORD-FIELDS + 2 * (from + j))).ty (F.ok j (omega (arith, new_record_length))));
            made = omega arith;
            fits = omega (arith, F.given, new_record_first, new_record_length, new_record_other RECORD-FIELD-COUNT (λ q. omega arith) (λ q. omega arith));
          }

      which : (k : Kind) (c : ℕ) → IsCell w' k c → IsCell w k c ⊎ NewCell w' (rows_with w from n T) k c
      which k c i = ⊎_elim (λ h. inl h) (λ h. inr (rw (h.0, h.1) new_cell)) (new_or_old i)

      pub new_record_holds : Holds w' (rows_with w from n T) st
      new_record_holds =
          let fields = new_record_other RECORD-FIELD-COUNT (λ q. omega arith) (λ q. omega arith) in
          let C = cells_more new_record_old H.cells (new_record_more T) which (omega (arith, fields)) (omega (arith, new_record_count))
          (omega (arith, fields, H.cells.few_fields)) in
          holds_moved new_record_old
          (record {
            unknowns = new_record_other UNKNOWNS (λ q. omega arith) (λ q. omega arith);
            at = λ i l h. new_record_other i (λ q. omega arith) (λ q. omega arith);
            long = (new_record_keeps w from n).long;
          })
          (new_record_more T) C H
