-- What a file said stands in the words below the run's: a change above them, over rows that hold those of before,
-- leaves it as it was. A schema type is no unknown, so it exists whatever the run made; where the run made nothing, the
-- schema types are all cells.
use mathlib.Core.Bool.{Bool, true, false}
use mathlib.Core.List.{List}
use mathlib.Core.Path.{◌≡◌, refl, sym, ◌∙◌, ap}
use native.Mathlib.Omega.{arith}
use Prim.Native.Nat.{ℕ, zero, suc, ◌+◌, ◌*◌, ◌/◌, ◌%◌, ◌<◌, ◌≤◌}
use lib.Dec.{eqb}
use lib.ListN.{length, get_or}
use borrow.Author.Tests.{lt-ltb, eqb-true, ne_eqb}
use Rattle.work.specs.Layout.{NAME-COUNT, TYPE-COUNT, PREDICATE-COUNT, NODE-COUNT, VALUE-NAME, MAX-DISTANCE, MAX-TERM, QUERY, NAMES, TYPES, PREDICATES}
use Rattle.work.specs.Layout.{NODES, FIELDS, RECORD-COUNT, RECORD-FIELD-COUNT}
use Rattle.cells.specs.declared.Ty.{Ty}
use Rattle.cells.specs.declared.Ty.TheVariants.{Int, Str, Bytes, Fact, Record, Union, Error}
use Rattle.cells.specs.declared.Kind.{Kind}
use Rattle.cells.specs.declared.Kind.TheVariants.{Fields, Alternatives}
use Rattle.cells.specs.declared.Part.{Part}
use Rattle.cells.specs.Words.{pick, ty_w, declared_w, count_w, first_w, declared_field, alternative_w, part_w}
use Rattle.cells.specs.Stands.{Rows, tree, row_from, row_w, tag_of, IsCell, declared, made, Ok, part_words, Cells}
use Rattle.cells.specs.Inferred.{More}
use Rattle.cells.proofs.Frame.{field_declared, tree_more}
use Rattle.format.specs.Schema.{Predicate, Schema}
use Rattle.format.specs.Conditions.{max_names, max_predicates}
use Rattle.format.specs.Sound.{Sound}
use Rattle.format.specs.File.{Described}
use Rattle.tree.specs.Stands.{TypeCells, value_of, PredicateIs, SchemaStands, Stands}
use Rattle.std.specs.Prelude.{None, Some}

-- ---- Schema types
ok_pick : (w : List ℕ) (b : Bool) (t u : Ty) → Ok w t → Ok w u → Ok w (pick b t u)
ok_pick w true t u p q = p
ok_pick w false t u p q = q

leaf_ok : (w : List ℕ) (tag p : ℕ) → eqb tag 5 ≡ false → eqb tag 6 ≡ false → tag < 7 → Ok w (ty_w tag p)
unfolding ty_w
leaf_ok w tag p five six h = rw (five, six, ne_eqb tag 7 (λ q. omega arith))
    (ok_pick w (eqb tag 1) Int _ tt (ok_pick w (eqb tag 2) Str _ tt (ok_pick w (eqb tag 3) Bytes _ tt (ok_pick w (eqb tag 4) (Fact p) Error tt tt))))

abbrev tag_at : List ℕ → ℕ → ℕ
tag_at w t = get_or w (TYPES + 2 * t) 0 % 16

pub declared_ok : (w : List ℕ) (t : ℕ) → t < 256 → t < get_or w TYPE-COUNT 0 → get_or w (TYPES + 2 * t) 0 % 16 < 7 → Ok w (declared_w w t)
unfolding declared_w
declared_ok w t lt many small = five (eqb (tag_at w t) 5) refl
  where
    six : (b : Bool) → eqb (tag_at w t) 5 ≡ false → eqb (tag_at w t) 6 ≡ b → Ok w (pick b (Union t) (ty_w (tag_at w t) (get_or w (TYPES + 2 * t + 1) 0)))
    six true n q = declared lt many (eqb-true (tag_at w t) 6 q)
    six false n q = leaf_ok w (tag_at w t) (get_or w (TYPES + 2 * t + 1) 0) n q small

    five : (b : Bool) → eqb (tag_at w t) 5 ≡ b → Ok w
        (pick b (Record t) (pick (eqb (tag_at w t) 6) (Union t) (ty_w (tag_at w t) (get_or w (TYPES + 2 * t + 1) 0))))
    five true q = declared lt many (eqb-true (tag_at w t) 5 q)
    five false q = six (eqb (tag_at w t) 6) q refl

-- A part of a schema type exists.
part_ok : {f w : List ℕ} {T : Rows} {ts : List (List ℕ)} {s : Schema} → SchemaStands f w T ts s → (k : Kind) (c j : ℕ) → c < get_or w TYPE-COUNT 0
    → get_or w (TYPES + 2 * c) 0 % 16 ≡ tag_of k → j < count_w w c → Ok w (part_w w k c j).ty
part_ok {w = w} S k c j h tag lt =
    let e = S.cells.earlier k c j h tag lt in
    let there : e.0 < get_or w TYPE-COUNT 0 = omega (arith, e.1) in
    rw e.2 (declared_ok w e.0 (omega (arith, S.types)) there (S.cells.tags e.0 there))

-- ---- No record was made
made_none : (w : List ℕ) → get_or w RECORD-COUNT 0 ≡ 0 → {k : Kind} {c : ℕ} → IsCell w k c → (c < get_or w TYPE-COUNT 0)
    × (get_or w (TYPES + 2 * c) 0 % 16 ≡ tag_of k)
made_none w empty (declared {k} {c} lt many tag) = (many, tag)
made_none w empty (made {c} le many) = absurd (omega arith)

pub cells_start : {f w : List ℕ} {T : Rows} {ts : List (List ℕ)} {s : Schema} → SchemaStands f w T ts s → get_or w RECORD-COUNT 0 ≡ 0
    → get_or w RECORD-FIELD-COUNT 0 ≡ 0 → Cells w T
cells_start {w = w} S records fields = record {
  row = λ k c i. let h = made_none w records i in S.cells.row k c h.0 h.1;
  ok = λ k c j i lt. let h = made_none w records i in part_ok S k c j h.0 h.1 lt;
  declared_fits = λ k c i lt. let h = made_none w records i in S.cells.fits k c h.0 h.1;
  made_fits = λ c i le. absurd (omega (arith, S.types, (made_none w records i).0));
  few_records = omega arith;
  few_fields = omega arith;
}

-- ---- What was said stands
-- The words of the schema are as they were; those of the nodes and the query may be others.
module _ (w w' : List ℕ) (said : (i : ℕ) → i < NODES → (i ≡ NODE-COUNT → ⊥) → (i ≡ QUERY → ⊥) → get_or w' i 0 ≡ get_or w i 0)
    (parts : (i : ℕ) → FIELDS ≤ i → i < RECORD-COUNT → get_or w' i 0 ≡ get_or w i 0) where
  declared_said : (t : ℕ) → t < 256 → declared_w w' t ≡ declared_w w t
  unfolding declared_w
  declared_said t h = rw (
    said (TYPES + 2 * t) (omega arith) (λ e. omega arith) (λ e. omega arith),
    said (TYPES + 2 * t + 1) (omega arith) (λ e. omega arith) (λ e. omega arith),
  )

  count_said : (c : ℕ) → c < 256 → count_w w' c ≡ count_w w c
  unfolding count_w
  count_said c lt = rw (lt-ltb c 256 lt, said (TYPES + 2 * c) (omega arith) (λ e. omega arith) (λ e. omega arith))

  first_said : (c : ℕ) → c < 256 → first_w w' c ≡ first_w w c
  unfolding first_w
  first_said c lt = rw (lt-ltb c 256 lt, said (TYPES + 2 * c + 1) (omega arith) (λ e. omega arith) (λ e. omega arith))

  part_said : (k : Kind) (c j : ℕ) → c < 256 → FIELDS + (first_w w c + part_words k * count_w w c) ≤ RECORD-COUNT → j < count_w w c
      → part_w w' k c j ≡ part_w w k c j
  unfolding declared_field alternative_w
  part_said Fields c j lt fits h =
      let at = FIELDS + first_w w c + j in
      rw (
        field_declared w' c j lt,
        field_declared w c j lt,
        first_said c lt,
        parts at (omega (arith, fits)) (omega (arith, fits)),
        declared_said (get_or w at 0 % 256) (omega arith),
      )
  part_said Alternatives c j lt fits h =
      let at = FIELDS + first_w w c + 2 * j in
      rw (
        first_said c lt,
        parts at (omega (arith, fits)) (omega (arith, fits)),
        parts (at + 1) (omega (arith, fits)) (omega (arith, fits)),
        declared_said (get_or w (at + 1) 0 % 256) (omega arith),
      )

  module _ {T T' : Rows} (M : More w T T') where
    module _ {f : List ℕ} {ts : List (List ℕ)} {s : Schema} (S : SchemaStands f w T ts s) where
      -- a schema type gives the same tree
      declared_stands : (t : ℕ) → t < get_or w TYPE-COUNT 0 → tree T' (declared_w w' t) ≡ tree T (declared_w w t)
      declared_stands t h =
          let lt : t < 256 = omega (arith, S.types) in
          rw (declared_said t lt) (tree_more M (declared_w w t) (declared_ok w t lt h (S.cells.tags t h)))

      module _ (k : Kind) (c : ℕ) (h : c < get_or w TYPE-COUNT 0) (tag : get_or w' (TYPES + 2 * c) 0 % 16 ≡ tag_of k) where
        few : c < 256
        few = omega (arith, S.types)

        old_tag : get_or w (TYPES + 2 * c) 0 % 16 ≡ tag_of k
        old_tag = rw (← said (TYPES + 2 * c) (omega (arith, S.types)) (λ e. omega (arith, S.types)) (λ e. omega (arith, S.types))) tag

        type_part : (j : ℕ) → j < count_w w c → part_w w' k c j ≡ part_w w k c j
        type_part j lt = part_said k c j few (S.cells.fits k c h old_tag) lt

        row_from_lem : (n j : ℕ) → j + n ≤ count_w w c → row_from T' w' k c j n ≡ row_from T w k c j n
        unfolding row_from
        row_from_lem zero j le = refl
        row_from_lem (suc n) j le =
            rw (type_part j (omega arith), tree_more M (part_w w k c j).ty (part_ok S k c j h old_tag (omega arith)), row_from_lem n (j + 1) (omega arith))

        row_said : row_w T' w' k c ≡ row_w T w k c
        unfolding row_w
        row_said = rw (count_said c few) (row_from_lem (count_w w c) 0 (omega arith))

        type_row : T' c ≡ row_w T' w' k c
        type_row = M.same k c (declared few h old_tag) ∙ S.cells.row k c h old_tag ∙ sym row_said

        type_earlier : (j : ℕ) → j < count_w w' c → (t : ℕ) × (t < c) × ((part_w w' k c j).ty ≡ declared_w w' t)
        type_earlier j lt =
            let l : j < count_w w c = omega (arith, count_said c few) in
            let e = S.cells.earlier k c j h old_tag l in
            (e.0, e.1, ap (λ (p : Part). p.ty) (type_part j l) ∙ e.2 ∙ sym (declared_said e.0 (omega (arith, e.1, S.types))))

        type_fits : FIELDS + (first_w w' c + part_words k * count_w w' c) ≤ RECORD-COUNT
        type_fits = rw (first_said c few, count_said c few) (S.cells.fits k c h old_tag)

      types_stand : TypeCells w' T' (get_or w TYPE-COUNT 0)
      types_stand = record {
        row = type_row;
        earlier = λ k c j h tag lt. type_earlier k c h tag j lt;
        fits = type_fits;
        tags = λ c h. rw (said (TYPES + 2 * c) (omega (arith, S.types)) (λ e. omega (arith, S.types)) (λ e. omega (arith, S.types))) (S.cells.tags c h);
      }

      value_stands : (x : ℕ) → (x % 2 ≡ 1 → x / 2 % 256 < get_or w TYPE-COUNT 0) → value_of T w x ≡ value_of T' w' x
      value_stands x there = go (eqb (x % 2) 1) refl
        where
          go : (b : Bool) → eqb (x % 2) 1 ≡ b → pick b (Some (tree T (declared_w w (x / 2 % 256)))) None ≡ pick b
              (Some (tree T' (declared_w w' (x / 2 % 256)))) None
          go true q = ap Some (sym (declared_stands (x / 2 % 256) (there (eqb-true (x % 2) 1 q))))
          go false q = refl

      predicate_stands : (p : ℕ) (d : Predicate) → p < 128 → PredicateIs w T (get_or w TYPE-COUNT 0) p d → PredicateIs w' T' (get_or w TYPE-COUNT 0) p d
      predicate_stands p d h P =
          let x = said (PREDICATES + p) (omega arith) (λ e. omega arith) (λ e. omega arith) in
          record {
            name = rw x P.name;
            key = rw x (P.key ∙ sym (declared_stands (get_or w (PREDICATES + p) 0 / 512 % 256) P.key_there));
            value = rw x (P.value ∙ value_stands (get_or w (PREDICATES + p) 0) P.value_there);
            key_there = rw x P.key_there;
            value_there = rw x P.value_there;
          }

      pub schema_stands : length s.predicates ≤ 128 → length s.characters ≤ 256 → SchemaStands f w' T' ts s
      schema_stands few-predicates few-names = record {
        types = omega (arith, said TYPE-COUNT (omega arith) (λ e. omega arith) (λ e. omega arith), S.types);
        cells = rw (said TYPE-COUNT (omega arith) (λ e. omega arith) (λ e. omega arith)) types_stand;
        predicates = said PREDICATE-COUNT (omega arith) (λ e. omega arith) (λ e. omega arith) ∙ S.predicates;
        predicate = λ p h. rw (said TYPE-COUNT (omega arith) (λ e. omega arith) (λ e. omega arith)) (predicate_stands p _ (omega arith) (S.predicate p h));
        value = said VALUE-NAME (omega arith) (λ e. omega arith) (λ e. omega arith) ∙ S.value;
        names = said NAME-COUNT (omega arith) (λ e. omega arith) (λ e. omega arith) ∙ S.names;
        texts = S.texts;
        name = λ n h. rw (said (NAMES + n) (omega (arith, S.texts)) (λ e. omega (arith, S.texts)) (λ e. omega (arith, S.texts))) (S.name n h);
        characters = λ n h. rw (said (NAMES + n) (omega arith) (λ e. omega arith) (λ e. omega arith)) (S.characters n h);
        distance = said MAX-DISTANCE (omega arith) (λ e. omega arith) (λ e. omega arith) ∙ S.distance;
        term = said MAX-TERM (omega arith) (λ e. omega arith) (λ e. omega arith) ∙ S.term;
      }

-- All that was said
module _ (w w' : List ℕ) (said : (i : ℕ) → i < RECORD-COUNT → get_or w' i 0 ≡ get_or w i 0) where
  module _ {T T' : Rows} (M : More w T T') where
    pub stands_more : {f : List ℕ} {d : Described} → Sound d → length w' ≡ length w → Stands f w T d → Stands f w' T' d
    unfolding max_names max_predicates
    stands_more sound long S = record {
      long = omega (arith, S.long);
      schema = schema_stands w w' (λ i l m n. said i (omega arith)) (λ i l m. said i m) M S.schema sound.predicates_max sound.names_max;
      nodes = said NODE-COUNT (omega arith) ∙ S.nodes;
      few = S.few;
      node = λ n h. let N = S.node n h in record { content = N.content; line = rw (said (NODES + n) (omega (arith, S.few))) N.line; frame = N.frame };
      query = let Q = S.query in record { content = Q.content; line = rw (said QUERY (omega arith)) Q.line; frame = Q.frame };
    }
