-- What each line of the code is in the rule: the schema's by their numbers, a node by its place in a block, a query by its row.
use Rattle.std.proofs.Common.{◌≡◌, ℕ, suc, ◌+◌, ◌-◌, ◌*◌, ◌%◌, ◌<◌, ◌≤◌, Bool, true, false, eqb, leb, ◌⊎◌, List, [], ◌∷◌, ◌++◌, map, length, get_or, drop, None}
use Rattle.std.proofs.Common.{Option, Some, sym, refl, ap, ◌∙◌, subst, ⊎_elim, append_assoc, add-one, arith, drop_of_length-le, drop-cons, eq-eqb, ne_eqb}
use Rattle.std.proofs.Common.{eqb-true, leb-true}
use mathlib.Core.List.{flat_map}
use Rattle.std.proofs.lemmas.List.{get_or-map}
use Rattle.std.specs.Prelude.{◌&&◌}
use Rattle.std.proofs.lemmas.Bool.{and_parts, agree_below, agree_below_at}
use Rattle.format.specs.Syntax.{ExprKind}
use Rattle.format.specs.Bytes.{ascii, bytes₂, bytes₄, hex_line}
use Rattle.format.specs.Frame.{wide, kind_byte, a_record, Frame, a_name, a_node, frame_kind}
use Rattle.format.specs.All.{All}
use Rattle.format.specs.Content.{schema_frames}
use Rattle.format.specs.Writing.{as_shape, as_node, as_expr, as_content, written, file_of}
use Rattle.format.proofs.Lists.{all_at}
use Rattle.testload.specs.Rule.{limit, limits, names, base, simple, compound, predicates, predicate, leaves, pairs}
use Rattle.testload.specs.Rule.{singles, exprs, expr_at, from, choice, node_of, limits_of, simple_of, compound_of, predicate_of, content_of}
use Rattle.writer.specs.Writes.{Writes, hex_of}
use Rattle.writer.proofs.Writing.{writes_then, writes_full, writes_as}
use Rattle.writer.proofs.Digits.{hex_append, line_is}
use Rattle.generator.specs.Promises.{as_limits, as_predicate, joined, tables, content}
use Rattle.generator.specs.declared.TheConstants.{LINES, SLOTS}
use Rattle.generator.proofs.Rows.{from_at, content_at}
use Rattle.testload.proofs.Lawful.{length_from, schema_long}

-- ---- Digits of a line in pieces

hex_line_lem : (a b : List ℕ) → hex_of a ++ hex_line b ≡ hex_line (a ++ b)
hex_line_lem a b =
    ap (λ s. hex_of a ++ s) (line_is b)
    ∙ sym (append_assoc (hex_of a) (hex_of b) (10 ∷ [])) ∙ ap (λ s. s ++ 10 ∷ []) (sym (hex_append a b)) ∙ sym (line_is (a ++ b))

module _ {out : List ℕ} {at : ℕ} (a b : List ℕ) {mid : List ℕ} {r : Option ℕ} (f : Writes out at (hex_of a) mid r) where
  pub line_after : {n : ℕ} {out' : List ℕ} {r' : Option ℕ} → r ≡ Some n → Writes mid n (hex_line b) out' r' → Writes out at (hex_line (a ++ b)) out' r'
  line_after e g = writes_as (hex_line_lem a b) (writes_then f e g)

  pub line_cut : r ≡ None → Writes out at (hex_line (a ++ b)) mid None
  line_cut e = writes_as (hex_line_lem a b) (writes_full f e (hex_line b))

-- ---- Lines one after the other

pub file_cons : (f : Frame) (fs : List Frame) → file_of wide (f ∷ fs) ≡ hex_line (written wide f) ++ file_of wide fs
unfolding file_of flat_map
file_cons f fs = refl

pub file_append : (fs gs : List Frame) → file_of wide (fs ++ gs) ≡ file_of wide fs ++ file_of wide gs
unfolding file_of flat_map
file_append [] gs = refl
file_append (f ∷ fs) gs =
    ap (λ s. hex_line (written wide f) ++ s) (file_append fs gs)
    ∙ sym (append_assoc (hex_line (written wide f)) (file_of wide fs) (file_of wide gs))

-- ---- The schema

-- a line's kind and the table of its row; the table of a node by its place in a block
unfoldable pub kind_at : ℕ → ℕ
kind_at l = (get_or LINES l (record { 0 = 0; 1 = 0 })).0

unfoldable pub table_at : ℕ → ℕ
table_at l = (get_or LINES l (record { 0 = 0; 1 = 0 })).1

unfoldable pub slots : List ℕ
slots = SLOTS

pub no_frame : Frame
no_frame = a_name []

kind_then : (k : ℕ) {s t : List ℕ} → s ≡ t → k ∷ t ≡ k ∷ s
kind_then k e = ap (λ s. k ∷ s) (sym e)

-- the lines that have a choice
chosen_places : List ℕ
chosen_places = 0 ∷ 17 ∷ 18 ∷ 19 ∷ 20 ∷ 21 ∷ 22 ∷ 23 ∷ 24 ∷ 25 ∷ 26 ∷ []

chosen_long : length chosen_places ≡ 11
unfolding chosen_places
chosen_long = refl

right : ℕ → Bool
right l =
    leb (table_at l) 4
    && (elim (eqb (table_at l) 1) [ true ↦ (leb 1 l && leb l 16) | false ↦ eqb (get_or chosen_places (l - 16) 0) l ])

all_right : agree_below right (λ _. true) 27 ≡ true
unfolding right table_at chosen_places
all_right = refl

module _ (l : ℕ) (h : l < 27) where
  pub table_small : table_at l ≤ 4
  unfolding right
  table_small = leb-true (table_at l) 4 (and_parts (leb (table_at l) 4) _ (agree_below_at right (λ _. true) 27 l all_right h)).0

  other : elim (eqb (table_at l) 1) [ true ↦ (leb 1 l && leb l 16) | false ↦ eqb (get_or chosen_places (l - 16) 0) l ] ≡ true
  unfolding right
  other = (and_parts (leb (table_at l) 4) _ (agree_below_at right (λ _. true) 27 l all_right h)).1

  pub fixed_within : table_at l ≡ 1 → (1 ≤ l) × (l ≤ 16)
  fixed_within e =
      let b : (leb 1 l && leb l 16) ≡ true = rw (eq-eqb (table_at l) 1 e) at other in
      (leb-true 1 l (and_parts (leb 1 l) (leb l 16) b).0, leb-true l 16 (and_parts (leb 1 l) (leb l 16) b).1)

  chosen_place : (table_at l ≡ 1 → ⊥) → get_or chosen_places (l - 16) 0 ≡ l
  chosen_place n =
      let b : eqb (get_or chosen_places (l - 16) 0) l ≡ true = rw (ne_eqb (table_at l) 1 n) at other in
      eqb-true (get_or chosen_places (l - 16) 0) l b

module _ (ws : List ℕ) where
  limits_content : choice ws 0 < 16 → content 0 (16 * 0 + choice ws 0) ≡ as_limits (limits_of ws)
  unfolding limits_of limits tables
  limits_content h = content_at 0 0 (choice ws 0) (omega arith) h ∙ get_or-map as_limits limits (choice ws 0) (limit 0 0) [] h

  simple_content : (l : ℕ) → choice ws l < 16 → content 0 (16 * 2 + choice ws l) ≡ as_shape wide (simple_of ws l)
  unfolding simple_of simple tables
  simple_content l h = content_at 0 2 (choice ws l) (omega arith) h ∙ get_or-map (as_shape wide) simple (choice ws l) (a_record []) [] h

  compound_content : (l : ℕ) → choice ws l < 16 → content 0 (16 * 3 + choice ws l) ≡ as_shape wide (compound_of ws l)
  unfolding compound_of compound tables
  compound_content l h = content_at 0 3 (choice ws l) (omega arith) h ∙ get_or-map (as_shape wide) compound (choice ws l) (a_record []) [] h

  predicate_content : (l : ℕ) → choice ws l < 16 → content 0 (16 * 4 + choice ws l) ≡ as_predicate (predicate_of ws l)
  unfolding predicate_of predicates tables
  predicate_content l h = content_at 0 4 (choice ws l) (omega arith) h ∙ get_or-map as_predicate predicates (choice ws l) (predicate 0 0 None) [] h

  -- line l of the schema has row v of its table
  HasRow : ℕ → ℕ → Type 0
  HasRow l v = written wide (get_or (schema_frames (content_of ws)) l no_frame) ≡ kind_at l ∷ content 0 (16 * table_at l + v)

  Fixed : ℕ → Type 0
  Fixed l = HasRow l (l - 1)

  Chosen : ℕ → Type 0
  Chosen l = choice ws l < 16 → HasRow l (choice ws l)

  fixed_lines : All Fixed (from 1 16)
  unfolding Fixed HasRow from kind_at table_at schema_frames content_of written as_content frame_kind kind_byte names base content joined tables as_shape ascii
      bytes₂
  fixed_lines = (refl, (refl, (refl, (refl, (refl, (refl, (refl, (refl, (refl, (refl, (refl, (refl, (refl, (refl, (refl, (refl, tt))))))))))))))))

  chosen_lines : All Chosen chosen_places
  unfolding Chosen HasRow chosen_places from kind_at table_at schema_frames content_of written as_content frame_kind kind_byte names base as_limits as_predicate
  chosen_lines = (
    λ h. kind_then 1 (limits_content h),
    (
      λ h. kind_then 3 (simple_content 17 h),
      (
        λ h. kind_then 3 (simple_content 18 h),
        (
          λ h. kind_then 3 (simple_content 19 h),
          (
            λ h. kind_then 3 (compound_content 20 h),
            (
              λ h. kind_then 3 (compound_content 21 h),
              (
                λ h. kind_then 3 (compound_content 22 h),
                (
                  λ h. kind_then 4 (predicate_content 23 h),
                  (λ h. kind_then 4 (predicate_content 24 h), (λ h. kind_then 4 (predicate_content 25 h), (λ h. kind_then 4 (predicate_content 26 h), tt))),
                ),
              ),
            ),
          ),
        ),
      ),
    ),
  )

  -- which row the code picks
  abbrev pub Picked : ℕ → ℕ → Type 0
  Picked l v = ((table_at l ≡ 1) × (v ≡ l - 1)) ⊎ ((table_at l ≡ 1 → ⊥) × (v ≡ choice ws l) × (v < 16))

  pub row_there : (l v : ℕ) → l < 27 → Picked l v → 16 * table_at l + v < 128
  row_there l v h p =
      ⊎_elim
      (λ e. omega (arith, table_small l h, fixed_within l h e.0, e.1))
      (λ e. omega (arith, table_small l h, e.2))
      p

  fixed_line : (l : ℕ) → (1 ≤ l) × (l ≤ 16) → HasRow l (l - 1)
  unfolding Fixed
  fixed_line l w =
      subst Fixed {y = l}
      (from_at 1 16 (l - 1) (omega (arith, w)) ∙ omega (arith, w))
      (all_at Fixed (from 1 16) (l - 1) 0 fixed_lines (omega (arith, w, length_from 1 16)))

  chosen_line : (l : ℕ) → l < 27 → (table_at l ≡ 1 → ⊥) → choice ws l < 16 → HasRow l (choice ws l)
  unfolding Chosen
  chosen_line l h n = subst Chosen {y = l} (chosen_place l h n) (all_at Chosen chosen_places (l - 16) 0 chosen_lines (omega (arith, chosen_long)))

  row_is : (l v : ℕ) → l < 27 → Picked l v → HasRow l v
  row_is l v h p =
      ⊎_elim
      (λ e. subst (HasRow l) (sym e.1) (fixed_line l (fixed_within l h e.0)))
      (λ e. subst (HasRow l) (sym e.1) (chosen_line l h e.0 (rw e.1 at e.2)))
      p

  -- the lines from l on
  pub schema_from : ℕ → List ℕ
  schema_from l = file_of wide (drop l (schema_frames (content_of ws)))

  schema_next : (l : ℕ) → l < 27 → schema_from l ≡ hex_line (written wide (get_or (schema_frames (content_of ws)) l no_frame)) ++ schema_from (l + 1)
  unfolding schema_from
  schema_next l h =
      ap (file_of wide) (drop-cons (schema_frames (content_of ws)) l no_frame (omega (arith, schema_long ws)))
      ∙ file_cons (get_or (schema_frames (content_of ws)) l no_frame) (drop (suc l) (schema_frames (content_of ws)))
      ∙ rw (add-one l)

  pub schema_start : schema_from 0 ≡ file_of wide (schema_frames (content_of ws))
  unfolding schema_from
  schema_start = refl

  pub schema_end : (l : ℕ) → 27 ≤ l → schema_from l ≡ []
  unfolding schema_from file_of flat_map
  schema_end l h = ap (file_of wide) (drop_of_length-le (schema_frames (content_of ws)) {i = l} (omega (arith, schema_long ws)))

  pub schema_row : (l v : ℕ) → l < 27 → Picked l v → schema_from l ≡ hex_line (kind_at l ∷ content 0 (16 * table_at l + v)) ++ schema_from (l + 1)
  unfolding HasRow
  schema_row l v h p = schema_next l h ∙ ap (λ s. hex_line s ++ schema_from (l + 1)) (row_is l v h p)

  -- ---- A query

  -- a node's table by its place in the block
  SlotIs : ℕ → ℕ → Type 0
  SlotIs i k =
      (get_or (tables i) (get_or slots k 0) [] ≡ map (as_expr wide) (get_or (exprs ws i) k []))
      × (length (get_or (exprs ws i) k []) ≡ 16)
      × (get_or slots k 0 ≤ 8)

  all_slots : (i : ℕ) → All (SlotIs i) (from 0 8)
  unfolding SlotIs from slots tables exprs leaves pairs singles
  all_slots i =
      let low : (n : ℕ) → n ≤ 8 → (n ≤ 8) = λ n h. h in
      let five = low 5 (omega arith) in
      let six = low 6 (omega arith) in
      let seven = low 7 (omega arith) in (
        (refl, refl, five),
        (
          (refl, refl, five),
          ((refl, refl, six), ((refl, refl, seven), ((refl, refl, five), ((refl, refl, seven), ((refl, refl, seven), ((refl, refl, five), tt)))))),
        ),
      )

  slot_is : (i : ℕ) → SlotIs i (i % 8)
  slot_is i =
      subst (SlotIs i) {y = i % 8}
      (from_at 0 8 (i % 8) (omega arith) ∙ omega arith)
      (all_at (SlotIs i) (from 0 8) (i % 8) 0 (all_slots i) (omega (arith, length_from 0 8)))

  pub node_content : (i v : ℕ) → v < 16 → content i (16 * get_or slots (i % 8) 0 + v) ≡ as_expr wide (expr_at ws i v)
  unfolding SlotIs expr_at
  node_content i v h =
      let s = slot_is i in
      content_at i (get_or slots (i % 8) 0) v (omega (arith, s.2)) h
      ∙ ap (λ t. get_or t v []) s.0
      ∙ get_or-map (as_expr wide) (get_or (exprs ws i) (i % 8) []) v ExprKind.Error [] (omega (arith, s.1))

  -- node i of query q, its choice c
  pub node_frame : (q i : ℕ) → choice ws (33 + 32 * q + i) < 16
      → written wide (a_node (node_of ws q i))
      ≡ 5 ∷ bytes₄ (get_or ws (55 + 64 * q + 2 * i) 0) ++ bytes₄ (get_or ws (55 + 64 * q + 2 * i + 1) 0)
      ++ content i (16 * get_or slots (i % 8) 0 + choice ws (33 + 32 * q + i))
  unfolding written as_content as_node node_of frame_kind kind_byte
  node_frame q i h =
      let place : 56 + 64 * q + 2 * i ≡ 55 + 64 * q + 2 * i + 1 = omega arith in
      let a = bytes₄ (get_or ws (55 + 64 * q + 2 * i) 0) in
      let e = as_expr wide (expr_at ws i (choice ws (33 + 32 * q + i))) in
      ap (λ n. 5 ∷ a ++ bytes₄ (get_or ws n 0) ++ e) place
      ∙ ap (λ s. 5 ∷ a ++ bytes₄ (get_or ws (55 + 64 * q + 2 * i + 1) 0) ++ s) (sym (node_content i (choice ws (33 + 32 * q + i)) h))
