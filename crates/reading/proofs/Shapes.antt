-- One more type. The older ones read other words and rows; a new record or union has a new row, which is that of the
-- words written for its parts, and these name earlier types.
use mathlib.Core.List.{List, [], ◌∷◌, ◌++◌, map}
use mathlib.Core.Path.{◌≡◌, refl, sym, subst, ◌∙◌}
use Prim.Native.Nat.{ℕ, zero, suc, ◌+◌, ◌*◌, ◌/◌, ◌%◌, ◌<◌, ◌≤◌}
use native.Mathlib.Omega.{arith}
use lib.Dec.{eqb}
use lib.ListN.{length, get_or, length-append, length-map}
use borrow.Author.Tests.{eq-eqb, ne_eqb}
use Rattle.unification.specs.Ty as Tree
use Rattle.unification.specs.Ty.{Leaf, Row, ε}
use Rattle.work.specs.Layout.{TYPES, FIELDS}
use Rattle.cells.specs.declared.Kind.{Kind}
use Rattle.cells.specs.declared.Kind.TheVariants.{Fields, Alternatives}
use Rattle.cells.specs.Words.{pick, ty_w, declared_w, count_w, first_w, declared_field, alternative_w}
use Rattle.cells.specs.Stands.{Rows, tree, kind_tree, tag_of, row_from, row_w}
use Rattle.format.specs.Syntax.{Field}
use Rattle.format.specs.Frame.{Alternative, TypeShape, a_leaf, a_record, a_union}
use Rattle.format.specs.References.{field_values, shape_types}
use Rattle.format.specs.SoFar.{type_at, field_row, alternative_row, ty_of}
use Rattle.format.specs.All.{Below}
use Rattle.reading.specs.Held.{words_of, part_type, IsOf, TypesHeld}
use Rattle.reading.proofs.Regions.{WordsAt, words_head, words_tail, snoc}
use Rattle.cells.proofs.Frame.{field_declared}
use Rattle.reading.proofs.Kept.{first_is, count_is}

-- ---- The words of parts

abbrev pub field_word : Field → ℕ
field_word f = f.name * 256 + f.value

abbrev pub alternative_words : List Alternative → List ℕ
alternative_words [] = []
alternative_words (a ∷ alts) = a.discriminant ∷ (a.name * 256 + a.type) ∷ alternative_words alts

-- ---- A type's first word without the number of parts, and its second, where it has none

abbrev pub leaf_tag : Leaf → ℕ
leaf_tag Tree.Int = 1
leaf_tag Tree.String = 2
leaf_tag Tree.Bytes = 3
leaf_tag (Tree.Fact p) = 4

abbrev pub leaf_payload : Leaf → ℕ
leaf_payload Tree.Int = 0
leaf_payload Tree.String = 0
leaf_payload Tree.Bytes = 0
leaf_payload (Tree.Fact p) = p

leaf_tree : (T : Rows) (w : List ℕ) (n : ℕ) (p : Leaf) → get_or w (TYPES + 2 * n) 0 ≡ leaf_tag p → get_or w (TYPES + 2 * n + 1) 0 ≡ leaf_payload p
    → Tree.leaf p ≡ tree T (declared_w w n)
unfolding declared_w ty_w
leaf_tree T w n Tree.Int a b = rw a
leaf_tree T w n Tree.String a b = rw a
leaf_tree T w n Tree.Bytes a b = rw a
leaf_tree T w n (Tree.Fact p) a b = rw (a, b)

no_cell : (p : Leaf) (k : Kind) (x : ℕ) → x ≡ leaf_tag p → x % 16 ≡ tag_of k → ⊥
no_cell Tree.Int Fields x a b = omega arith
no_cell Tree.Int Alternatives x a b = omega arith
no_cell Tree.String Fields x a b = omega arith
no_cell Tree.String Alternatives x a b = omega arith
no_cell Tree.Bytes Fields x a b = omega arith
no_cell Tree.Bytes Alternatives x a b = omega arith
no_cell (Tree.Fact p) Fields x a b = omega arith
no_cell (Tree.Fact p) Alternatives x a b = omega arith

leaf_small : (p : Leaf) → leaf_tag p % 16 < 7
leaf_small Tree.Int = omega arith
leaf_small Tree.String = omega arith
leaf_small Tree.Bytes = omega arith
leaf_small (Tree.Fact p) = omega arith

-- ---- One more type, whatever it is

-- What is held of the n-th type if it has parts.
record CellHeld (w : List ℕ) (T : Rows) (n fields : ℕ) (k : Kind) : Type 0 where
  row : T n ≡ row_w T w k n
  earlier : (j : ℕ) → j < count_w w n → part_type w k n j < n
  within : first_w w n + words_of k (count_w w n) ≤ fields

module _ {w : List ℕ} {T : Rows} {m fields : ℕ} {types : List Tree.Ty} (h : TypesHeld w T m fields types) where
  type_added : (x : Tree.Ty) (more : ℕ) → fields ≤ more → length types < 256 → x ≡ tree T (declared_w w (length types))
      → ((k : Kind) → IsOf w k (length types) → CellHeld w T (length types) more k)
      → get_or w (TYPES + 2 * length types) 0 % 16 < 7 → TypesHeld w T (m + 1) more (types ++ x ∷ [])
  type_added x more l room e c tag = record {
    count = rw (length-append types (x ∷ [])) (omega (arith, h.count));
    few = rw (length-append types (x ∷ [])) (omega arith);
    type = snoc (λ t y. y ≡ tree T (declared_w w t)) Tree.Error types x h.type e;
    row = λ k. snoc (λ t y. IsOf w k t → T t ≡ row_w T w k t) Tree.Error types x (h.row k) (λ i. (c k i).row);
    earlier = λ k t j b. snoc (λ t y. IsOf w k t → j < count_w w t → part_type w k t j < t) Tree.Error types x (λ t b. h.earlier k t j b)
        (λ i. (c k i).earlier j) t b;
    within = λ k. snoc (λ t y. IsOf w k t → first_w w t + words_of k (count_w w t) ≤ more) Tree.Error types x (λ t b i. omega (arith, h.within k t b i))
        (λ i. (c k i).within);
    tags = snoc (λ t y. get_or w (TYPES + 2 * t) 0 % 16 < 7) Tree.Error types x h.tags tag;
  }

  pub leaf_added : (p : Leaf) → length types < 256 → get_or w (TYPES + 2 * length types) 0 ≡ leaf_tag p
      → get_or w (TYPES + 2 * length types + 1) 0 ≡ leaf_payload p → TypesHeld w T (m + 1) fields (types ++ Tree.leaf p ∷ [])
  leaf_added p room a b = type_added (Tree.leaf p) fields (omega arith) room (leaf_tree T w (length types) p a b)
      (λ k i. absurd (no_cell p k (get_or w (TYPES + 2 * length types) 0) a i)) (rw a (leaf_small p))

-- ---- The row of a record's or a union's words

module _ {w : List ℕ} {T : Rows} {m fields : ℕ} {types : List Tree.Ty} (h : TypesHeld w T m fields types) (c : ℕ) (small : c < 256) where
  fields_row : (fs : List Field) (j : ℕ) → Below (length types) (field_values fs) → WordsAt w (FIELDS + first_w w c + j) (map field_word fs)
      → row_from T w Fields c j (length fs) ≡ field_row types fs
  unfolding row_from field_row type_at field_values declared_field
  fields_row [] j b ws = refl
  fields_row (f ∷ fs) j b ws =
      let x = words_head ws in
      let q : (f.name * 256 + f.value) / 256 ≡ f.name = omega (arith, h.few, b.0) in
      let r : (f.name * 256 + f.value) % 256 ≡ f.value = omega (arith, h.few, b.0) in
      let z : FIELDS + first_w w c + j + 1 ≡ FIELDS + first_w w c + (j + 1) = omega arith in
      rw (field_declared w c j small, x, q, r, ← h.type f.value b.0, fields_row fs (j + 1) b.1 (rw z at (words_tail ws)))

  alternatives_row : (alts : List Alternative) (j : ℕ) → Below (length types) (map (λ a. a.type) alts)
      → WordsAt w (FIELDS + first_w w c + 2 * j) (alternative_words alts) → row_from T w Alternatives c j (length alts) ≡ alternative_row types alts
  unfolding row_from alternative_row type_at alternative_w
  alternatives_row [] j b ws = refl
  alternatives_row (a ∷ alts) j b ws =
      let x = words_head ws in
      let y = words_head (words_tail ws) in
      let q : (a.name * 256 + a.type) / 256 ≡ a.name = omega (arith, h.few, b.0) in
      let r : (a.name * 256 + a.type) % 256 ≡ a.type = omega (arith, h.few, b.0) in
      let z : FIELDS + first_w w c + 2 * j + 1 + 1 ≡ FIELDS + first_w w c + 2 * (j + 1) = omega arith in
      rw (x, y, q, r, ← h.type a.type b.0, alternatives_row alts (j + 1) b.1 (rw z at (words_tail (words_tail ws))))

  fields_earlier : (n : ℕ) (fs : List Field) (j : ℕ) → n ≤ 256 → Below n (field_values fs) → WordsAt w (FIELDS + first_w w c + j) (map field_word fs)
      → (i : ℕ) → i < length fs → part_type w Fields c (j + i) < n
  unfolding field_values
  fields_earlier n (f ∷ fs) j few b ws zero l =
      let z : j + 0 ≡ j = omega arith in
      rw (z, words_head ws) (omega (arith, b.0))
  fields_earlier n (f ∷ fs) j few b ws (suc i) l =
      let z : FIELDS + first_w w c + j + 1 ≡ FIELDS + first_w w c + (j + 1) = omega arith in
      let s : j + suc i ≡ j + 1 + i = omega arith in
      rw s (fields_earlier n fs (j + 1) few b.1 (rw z at (words_tail ws)) i (omega arith))
  fields_earlier n [] j few b ws i l = absurd (omega arith)

  alternatives_earlier : (n : ℕ) (alts : List Alternative) (j : ℕ) → n ≤ 256 → Below n (map (λ a. a.type) alts)
      → WordsAt w (FIELDS + first_w w c + 2 * j) (alternative_words alts) → (i : ℕ) → i < length alts → part_type w Alternatives c (j + i) < n
  alternatives_earlier n [] j few b ws i l = absurd (omega arith)
  alternatives_earlier n (a ∷ alts) j few b ws zero l =
      let z : j + 0 ≡ j = omega arith in
      rw (z, words_head (words_tail ws)) (omega (arith, b.0))
  alternatives_earlier n (a ∷ alts) j few b ws (suc i) l =
      let z : FIELDS + first_w w c + 2 * j + 1 + 1 ≡ FIELDS + first_w w c + 2 * (j + 1) = omega arith in
      let s : j + suc i ≡ j + 1 + i = omega arith in
      rw s (alternatives_earlier n alts (j + 1) few b.1 (rw z at (words_tail (words_tail ws))) i (omega arith))

-- ---- One more record or union

cell_tree : (T : Rows) (w : List ℕ) (n : ℕ) (k : Kind) → IsOf w k n → Tree.node (kind_tree k) (T n) ≡ tree T (declared_w w n)
unfolding declared_w
cell_tree T w n Fields i = rw i
cell_tree T w n Alternatives i = rw i

cell_small : (k : Kind) → tag_of k < 7
cell_small Fields = omega arith
cell_small Alternatives = omega arith

tag_says : (k j : Kind) → tag_of j ≡ tag_of k → j ≡ k
tag_says Fields Fields e = refl
tag_says Fields Alternatives e = absurd (omega arith)
tag_says Alternatives Fields e = absurd (omega arith)
tag_says Alternatives Alternatives e = refl

module _ {w : List ℕ} {T : Rows} {m fields : ℕ} {types : List Tree.Ty} (h : TypesHeld w T m fields types) (room : length types < 256)
    (second : get_or w (TYPES + 2 * length types + 1) 0 ≡ fields) where
  abbrev n : ℕ
  n = length types

  first_here : first_w w n ≡ fields
  first_here = first_is w n room ∙ second

  cell_added : (k : Kind) (count : ℕ) → get_or w (TYPES + 2 * n) 0 ≡ count * 16 + tag_of k → T n ≡ row_from T w k n 0 count
      → ((j : ℕ) → j < count → part_type w k n j < n)
      → TypesHeld w T (m + 1) (fields + words_of k count) (types ++ Tree.node (kind_tree k) (T n) ∷ [])
  unfolding row_w
  cell_added k count e r below = type_added h (Tree.node (kind_tree k) (T n)) (fields + words_of k count) (omega arith) room
      (cell_tree T w n k (is k e)) held (rw (is k e) (cell_small k))
    where
      is : (k : Kind) → get_or w (TYPES + 2 * n) 0 ≡ count * 16 + tag_of k → IsOf w k n
      is Fields e = omega arith
      is Alternatives e = omega arith

      counted : (k : Kind) → get_or w (TYPES + 2 * n) 0 ≡ count * 16 + tag_of k → count_w w n ≡ count
      counted Fields e = count_is w n room ∙ omega arith
      counted Alternatives e = count_is w n room ∙ omega arith

      here : CellHeld w T n (fields + words_of k count) k
      here =
          let q = counted k e in
          record { row = rw q r; earlier = λ j l. below j (omega arith); within = rw (q, first_here) (omega arith) }

      held : (j : Kind) → IsOf w j n → CellHeld w T n (fields + words_of k count) j
      held j i = subst (CellHeld w T n (fields + words_of k count)) (sym (tag_says k j (sym i ∙ is k e))) here

  pub record_added : (fs : List Field) → get_or w (TYPES + 2 * n) 0 ≡ length fs * 16 + 5 → WordsAt w (FIELDS + fields) (map field_word fs)
      → Below n (field_values fs) → T n ≡ field_row types fs
      → TypesHeld w T (m + 1) (fields + length fs) (types ++ ty_of types (a_record fs) ∷ [])
  unfolding ty_of
  record_added fs e ws b r =
      let at : WordsAt w (FIELDS + first_w w n + 0) (map field_word fs) = let z : FIELDS + fields ≡ FIELDS + first_w w n + 0 = omega (arith, first_here)
      in rw z at ws in
      let one : 1 * length fs ≡ length fs = omega arith in
      rw (r, one) at (cell_added Fields (length fs) e (r ∙ sym (fields_row h n room fs 0 b at))
      (λ j l. let z : 0 + j ≡ j = omega arith in rw z at (fields_earlier h n room n fs 0 (omega arith) b at j l)))

  pub union_added : (alts : List Alternative) → get_or w (TYPES + 2 * n) 0 ≡ length alts * 16 + 6 → WordsAt w (FIELDS + fields) (alternative_words alts)
      → Below n (map (λ a. a.type) alts) → T n ≡ alternative_row types alts
      → TypesHeld w T (m + 1) (fields + 2 * length alts) (types ++ ty_of types (a_union alts) ∷ [])
  unfolding ty_of
  union_added alts e ws b r =
      let at : WordsAt w (FIELDS + first_w w n + 2 * 0) (alternative_words alts) = let z : FIELDS + fields ≡ FIELDS + first_w w n + 2 * 0 = omega
      (arith, first_here) in rw z at ws in
      rw r at (cell_added Alternatives (length alts) e (r ∙ sym (alternatives_row h n room alts 0 b at))
      (λ j l. let z : 0 + j ≡ j = omega arith in rw z at (alternatives_earlier h n room n alts 0 (omega arith) b at j l)))

-- A row for one more cell.
abbrev pub with_row : Rows → ℕ → Row → Rows
with_row T n r t = pick (eqb t n) r (T t)

pub older_row : (T : Rows) (n : ℕ) (r : Row) (t : ℕ) → t < n → with_row T n r t ≡ T t
older_row T n r t l = rw (ne_eqb t n (λ q. omega arith))

pub new_row : (T : Rows) (n : ℕ) (r : Row) → with_row T n r n ≡ r
new_row T n r = rw (eq-eqb n n refl)

-- ---- A type of any shape

-- The words of its parts, its own two words and its row.
abbrev pub shape_words : TypeShape → List ℕ
shape_words (a_leaf p) = []
shape_words (a_record fs) = map field_word fs
shape_words (a_union alts) = alternative_words alts

abbrev pub shape_head : TypeShape → ℕ
shape_head (a_leaf p) = leaf_tag p
shape_head (a_record fs) = length fs * 16 + 5
shape_head (a_union alts) = length alts * 16 + 6

abbrev pub shape_second : ℕ → TypeShape → ℕ
shape_second fields (a_leaf p) = leaf_payload p
shape_second fields (a_record fs) = fields
shape_second fields (a_union alts) = fields

abbrev pub shape_row : List Tree.Ty → TypeShape → Row
shape_row types (a_leaf p) = ε
shape_row types (a_record fs) = field_row types fs
shape_row types (a_union alts) = alternative_row types alts

pub alternative_words_lem : (alts : List Alternative) → length (alternative_words alts) ≡ 2 * length alts
alternative_words_lem [] = refl
alternative_words_lem (a ∷ alts) = omega (arith, alternative_words_lem alts)

pub shape_added : {w : List ℕ} {T : Rows} {m fields : ℕ} {types : List Tree.Ty} → TypesHeld w T m fields types → (s : TypeShape) → length types < 256
    → get_or w (TYPES + 2 * length types) 0 ≡ shape_head s → get_or w (TYPES + 2 * length types + 1) 0 ≡ shape_second fields s
    → WordsAt w (FIELDS + fields) (shape_words s) → Below (length types) (shape_types s)
    → T (length types) ≡ shape_row types s → TypesHeld w T (m + 1) (fields + length (shape_words s)) (types ++ ty_of types s ∷ [])
unfolding ty_of shape_types
shape_added {fields = fields} h (a_leaf p) room a b ws below r = let z : fields + 0 ≡ fields = omega arith in rw z (leaf_added h p room a b)
shape_added h (a_record fs) room a b ws below r = rw (length-map fs field_word) (record_added h room b fs a ws below r)
shape_added h (a_union alts) room a b ws below r = rw (alternative_words_lem alts) (union_added h room b alts a ws below r)
