-- A type line: its shape byte says what its frame is, by places of the line; the frame is refused by its references or
-- keys, or one more type is held.
use mathlib.Core.Bool.{true, false, not}
use mathlib.Core.List.{List, [], ◌∷◌, map}
use mathlib.Core.Path.{◌≡◌, refl, sym, ap, subst, ◌∙◌}
use Prim.Native.Nat.{ℕ, zero, suc, ◌+◌, ◌-◌, ◌*◌, ◌/◌, ◌≤◌}
use native.Mathlib.Nat.{add-zero, zero-mul}
use native.Mathlib.Omega.{arith}
use lib.Dec.{ltb}
use lib.ListN.{length, take, drop, set, length-drop}
use lib.Seq.{sets, take_all}
use borrow.Author.Tests.{ltb-true, ltb-false, not-false}
use Rattle.unification.specs.Ty.{Leaf, Int, String, Bytes, Fact}
use Rattle.work.specs.Layout.{TYPES, FIELDS}
use Rattle.cells.specs.declared.Kind.{Kind}
use Rattle.cells.specs.declared.Kind.TheVariants.{Fields, Alternatives}
use Rattle.cells.specs.Stands.{Rows, tag_of, part_words}
use Rattle.std.specs.Simd.{first_chunks}
use Rattle.std.proofs.lemmas.List.{drop-drop}
use Rattle.std.proofs.lemmas.Option.{slice_get_past}
use Rattle.std.proofs.Math.Bool.{and-true, or-false}
use Rattle.format.specs.Syntax.{Field}
use Rattle.format.specs.Refusal as Refused
use Rattle.format.specs.Frame as Frame
use Rattle.format.specs.Frame.{Frame, a_type, TypeShape, a_leaf, a_record, a_union, Alternative, Got, got, fails, Reader, and_then, nothing, one, two, many}
use Rattle.format.specs.Frame.{field, alternative, entry, type_shapes, may_stand, kind_byte, frame_kind, frame, frame_of}
use Rattle.format.specs.References.{field_names, field_values, shape_names, shape_types, shape_keys, texts_of, name_refs, type_refs, node_refs, keys_of}
use Rattle.format.specs.SoFar.{SoFar, add, frames}
use Rattle.format.specs.Conditions.{any_of, all_below, again, refers_earlier, refers_badly, conditions, first_of}
use Rattle.format.proofs.Tests.{cases, below_all}
use Rattle.frames.specs.Promises.{reference_w, byte_w, half_w, full_w, type_shape}
use Rattle.frames.specs.Items.{items_at, field_at, alternative_at}
use Rattle.frames.proofs.Readers.{sized_reference, Sized, sized_one, Items, fields_are, alternatives_are}
use Rattle.frames.proofs.Statements.{choice_at}
use Rattle.work.specs.declared.Counters.{Counters}
use Rattle.reading.specs.Held.{Held}
use Rattle.reading.specs.Parts.{size_of, shape_of, type_w, key_w, names_of, types_of, words_of}
use Rattle.reading.specs.Parts as Parts
use Rattle.reading.specs.Promises.{with_type, LineAt, Comes, LineEnds, TakesAnywhere, AddsType, TakesType}
use Rattle.reading.proofs.Shapes.{field_word, alternative_words, leaf_tag, leaf_payload, shape_words, shape_head, shape_second, shape_row, with_row}
use Rattle.reading.proofs.Cuts.{half_cut, full_cut, cut_items, length_cuts}
use Rattle.reading.proofs.Walks.{earlier}
use Rattle.reading.proofs.Lines.{type_held}
use Rattle.reading.proofs.Order.{first_bad, first_repeated, first_none}
use Rattle.reading.proofs.Stepping.{refuses, goes_on, begun, types_room}
use Rattle.format.specs.Frame.{Edition}
use Rattle.std.specs.Prelude.{◌&&◌, Err, None, Ok, Option, Result, Some, slice_get}
use Rattle.std.proofs.lemmas.Bool.{and_parts}
use Rattle.reading.specs.declared.Refusal.{Refusal}
use Rattle.tree.proofs.LineParts.{whole_got}

-- ---- Items said otherwise

pub map_items : {A B : Type 0} (g : A → B) (v : ℕ → A) (n i k : ℕ) → map g (items_at v n i k) ≡ items_at (λ j. g (v j)) n i k
unfolding items_at
map_items g v n i zero = refl
map_items g v n i (suc k) = ap (λ l. g (v i) ∷ l) (map_items g v n (i + n) k)

-- What a reader of one size got is what stands there.
pub sized_got : {A : Type 0} {r : Reader A} {n : ℕ} {v : List ℕ → ℕ → A} → Sized r n v → (s : List ℕ) (i : ℕ) (a : A) (t : List ℕ) → i ≤ length s
    → r (drop i s) ≡ got a t → a ≡ v s i
sized_got {n = n} p s i a t l e = cases (ltb (length s) (i + n))
    (λ q. let x = p.lacks s i l (ltb-true (length s) (i + n) q) in let z : ◌≡◌ {A = ℕ} 0 1 = cc in absurd (omega arith))
    (λ q. let x = p.reads s i (ltb-false (length s) (i + n) q) in cc)

-- ---- What the shape byte says

-- So many parts of one kind, cut from the line from byte 2 on.
abbrev pub cut : Kind → ℕ → List ℕ → List (List ℕ)
cut k n s = first_chunks (size_of k) n (drop 2 s)

-- The parts of a shape fill the line, and make what is written for it.
pub record PartsAre (s : List ℕ) (k : Kind) (t : TypeShape) : Type 0 where
  pub count : ℕ
  pub fit : 2 + count * size_of k ≡ length s
  pub names : shape_names t ≡ names_of (cut k count s)
  pub types : shape_types t ≡ types_of k (cut k count s)
  pub keys : shape_keys t ≡ Parts.keys_of k (cut k count s)
  pub words : shape_words t ≡ words_of k (cut k count s)
  pub head : shape_head t ≡ count * 16 + tag_of k
  pub second : (n : ℕ) → shape_second n t ≡ n

pub one_made : {A B : Type 0} (make : A → B) (g : Got A) (b : B) (t : List ℕ) → and_then g (λ a. got (make a)) ≡ got b t → (a : A)
    × (g ≡ got a t) × (b ≡ make a)
unfolding and_then
one_made make (got a u) b t e = (a, cc, cc)
one_made make fails b t e = let z : ◌≡◌ {A = ℕ} 0 1 = cc in absurd (omega arith)

module _ (ed : Edition) (so : SoFar) (s : List ℕ) (fr : Frame) (long : 2 ≤ length s) (k : Comes ed so Frame.schema_type s fr) where
  -- the reader that the byte chooses made the shape
  chosen : (t : TypeShape) × (entry (slice_get (type_shapes ed) (byte_w s 1)) (drop 2 s) ≡ got t []) × (fr ≡ a_type t)
  unfolding frame_of frame one
  chosen =
      let o = one_made a_type (type_shape ed (drop 1 s)) fr [] (whole_got (and_then (type_shape ed (drop 1 s)) (λ t. got (a_type t))) fr k.is) in
      (o.0, sym (choice_at (type_shapes ed) s 1 (omega arith)) ∙ o.1, o.2)

  pub leaf_is : (p : Leaf) (n : ℕ) → byte_w s 1 ≡ n → slice_get (type_shapes ed) n ≡ Some (nothing (a_leaf p)) → fr ≡ a_type (a_leaf p)
  unfolding entry nothing
  leaf_is p n e q =
      let c = chosen in
      let x : entry (Some (nothing (a_leaf p))) (drop 2 s) ≡ got c.0 [] = rw (e, q) at c.1 in
      c.2 ∙ ap a_type (cc x)

  pub fact_is : byte_w s 1 ≡ 3 → fr ≡ a_type (a_leaf (Fact (reference_w ed s 2)))
  unfolding entry type_shapes
  fact_is e =
      let c = chosen in
      let x : one (λ p. a_leaf (Fact p)) (Frame.reference ed) (drop 2 s) ≡ got c.0 [] = rw (e, entry) at c.1 in
      c.2 ∙ ap a_type (sized_got (sized_one (λ p. a_leaf (Fact p)) (sized_reference ed)) s 2 c.0 [] long x)

  pub record_is : byte_w s 1 ≡ 4 → (fs : List Field) × (fr ≡ a_type (a_record fs)) × Items (field_at s) 4 s 2 fs []
  unfolding entry type_shapes one
  record_is e =
      let c = chosen in
      let x : one a_record (many field) (drop 2 s) ≡ got c.0 [] = rw (e, entry) at c.1 in
      let o = one_made a_record (many field (drop 2 s)) c.0 [] x in
      (o.0, c.2 ∙ ap a_type o.2, fields_are s 2 o.0 [] long o.1)

  pub union_is : byte_w s 1 ≡ 5 → (alts : List Alternative) × (fr ≡ a_type (a_union alts)) × Items (alternative_at s) 8 s 2 alts []
  unfolding entry type_shapes one
  union_is e =
      let c = chosen in
      let x : one a_union (many alternative) (drop 2 s) ≡ got c.0 [] = rw (e, entry) at c.1 in
      let o = one_made a_union (many alternative (drop 2 s)) c.0 [] x in
      (o.0, c.2 ∙ ap a_type o.2, alternatives_are s 2 o.0 [] long o.1)

cut_names : (k : Kind) (s : List ℕ) (n : ℕ) → names_of (cut k n s) ≡ items_at (half_w s) (size_of k) 2 n
cut_names Fields s n = cut_items half_w 4 (λ s i. half_cut 4 0 s i (omega arith) ∙ ap (half_w s) (add-zero i)) s 2 n
cut_names Alternatives s n = cut_items half_w 8 (λ s i. half_cut 8 0 s i (omega arith) ∙ ap (half_w s) (add-zero i)) s 2 n

cut_types : (k : Kind) (s : List ℕ) (n : ℕ) → types_of k (cut k n s) ≡ items_at (type_w k s) (size_of k) 2 n
cut_types Fields s n = cut_items (type_w Fields) 4 (λ s i. half_cut 4 2 s i (omega arith)) s 2 n
cut_types Alternatives s n = cut_items (type_w Alternatives) 8 (λ s i. half_cut 8 6 s i (omega arith)) s 2 n

cut_keys : (k : Kind) (s : List ℕ) (n : ℕ) → Parts.keys_of k (cut k n s) ≡ items_at (key_w k s) (size_of k) 2 n
cut_keys Fields s n = cut_items (key_w Fields) 4 (λ s i. half_cut 4 0 s i (omega arith) ∙ ap (half_w s) (add-zero i)) s 2 n
cut_keys Alternatives s n = cut_items (key_w Alternatives) 8 (λ s i. full_cut 8 2 s i (omega arith)) s 2 n

-- the words of parts, wherever they stand
field_words : (s : List ℕ) (i n : ℕ) → words_of Fields (first_chunks 4 n (drop i s)) ≡ map field_word (items_at (field_at s) 4 i n)
unfolding items_at
field_words s i zero = refl
field_words s i (suc n) =
    let a = half_cut 4 0 s i (omega arith) in
    let b = half_cut 4 2 s i (omega arith) in
    rw (a, b, add-zero i, drop-drop 4 i s) (ap (λ l. field_word (field_at s i) ∷ l) (field_words s (i + 4) n))

alternatives_words : (s : List ℕ) (i n : ℕ) → words_of Alternatives (first_chunks 8 n (drop i s)) ≡ alternative_words (items_at (alternative_at s) 8 i n)
unfolding items_at
alternatives_words s i zero = refl
alternatives_words s i (suc n) =
    let a = half_cut 8 0 s i (omega arith) in
    let b = half_cut 8 6 s i (omega arith) in
    let d = full_cut 8 2 s i (omega arith) in
    rw (a, b, d, add-zero i, drop-drop 8 i s)
    (ap (λ l. full_w s (i + 2) ∷ (half_w s i * 256 + half_w s (i + 6)) ∷ l) (alternatives_words s (i + 8) n))

fields_parts : (s : List ℕ) (fs : List Field) → Items (field_at s) 4 s 2 fs [] → PartsAre s Fields (a_record fs)
unfolding shape_names shape_types shape_keys field_names field_values
fields_parts s fs h = record {
  count = length fs;
  fit = h.fit;
  names = ap (map (λ f. f.name)) h.are ∙ map_items (λ f. f.name) (field_at s) 4 2 (length fs) ∙ sym (cut_names Fields s (length fs));
  types = ap (map (λ f. f.value)) h.are ∙ map_items (λ f. f.value) (field_at s) 4 2 (length fs) ∙ sym (cut_types Fields s (length fs));
  keys = ap (map (λ f. f.name)) h.are ∙ map_items (λ f. f.name) (field_at s) 4 2 (length fs) ∙ sym (cut_keys Fields s (length fs));
  words = ap (map field_word) h.are ∙ sym (field_words s 2 (length fs));
  head = refl;
  second = λ n. refl;
}

alternatives_parts : (s : List ℕ) (alts : List Alternative) → Items (alternative_at s) 8 s 2 alts [] → PartsAre s Alternatives (a_union alts)
unfolding shape_names shape_types shape_keys
alternatives_parts s alts h = record {
  count = length alts;
  fit = h.fit;
  names = ap (map (λ a. a.name)) h.are ∙ map_items (λ a. a.name) (alternative_at s) 8 2 (length alts) ∙ sym (cut_names Alternatives s (length alts));
  types = ap (map (λ a. a.type)) h.are ∙ map_items (λ a. a.type) (alternative_at s) 8 2 (length alts) ∙ sym (cut_types Alternatives s (length alts));
  keys = ap (map (λ a. a.discriminant)) h.are ∙ map_items (λ a. a.discriminant) (alternative_at s) 8 2 (length alts)
      ∙ sym (cut_keys Alternatives s (length alts));
  words = ap alternative_words h.are ∙ sym (alternatives_words s 2 (length alts));
  head = refl;
  second = λ n. refl;
}

-- ---- References and keys of a type

-- A type refers badly exactly where a part's name or type is not there.
type_refers : (so : SoFar) (t : TypeShape) → refers_badly so (a_type t) ≡ not
    (all_below (length so.names) (shape_names t) && all_below (length so.types) (shape_types t))
unfolding refers_badly refers_earlier name_refs type_refs node_refs all_below again
type_refers so t = or-false (not (all_below (length so.names) (shape_names t) && (all_below (length so.types) (shape_types t) && true))) ∙ ap
    (λ b. not (all_below (length so.names) (shape_names t) && b)) (and-true (all_below (length so.types) (shape_types t)))

module _ (ed : Edition) {f : List ℕ} {at next : ℕ} {s w : List ℕ} {T : Rows} {c : Counters} {previous : Option Frame.Kind} {so : SoFar} {fr : Frame}
    (h : Held ed f at w T c previous so) (l : LineAt f at next s) (k : Comes ed so Frame.schema_type s fr) (t : TypeShape) (is : fr ≡ a_type t) where
  as_type : (o : Option Refused.Refusal) → first_of conditions so (frames (a_type t)) ≡ o → first_of conditions so (frames fr) ≡ o
  as_type o e = subst (λ x. first_of conditions so (frames x) ≡ o) (sym is) e

  -- nothing holds of it
  type_goes : (w' : List ℕ) → refers_badly so (a_type t) ≡ false → again [] (shape_keys t) ≡ false → 8 * (c.fields + length (shape_words t)) ≤ next
      → w' ≡ set (set (sets w (FIELDS + c.fields) (shape_words t)) (TYPES + 2 * c.types) (shape_head t)) (TYPES + 2 * c.types + 1) (shape_second c.fields t)
      → LineEnds ed f next w' (Some Frame.schema_type) (add so fr) (Ok (with_type c (length (shape_words t)))) (first_of conditions so (frames fr))
  unfolding frame_kind texts_of any_of keys_of may_stand
  type_goes w' r q fits e =
      let b = begun so.previous Frame.schema_type k.placed refl in
      let there : all_below (length so.types) (shape_types t) ≡ true = (and_parts (all_below (length so.names) (shape_names t))
      (all_below (length so.types) (shape_types t)) (not-false _ (sym (type_refers so t) ∙ r))).1 in
      goes_on ed f next w' (Some Frame.schema_type) (add so fr) (with_type c (length (shape_words t))) (with_row T (length so.types) (shape_row so.types t)) _
      (as_type None (first_none so (a_type t) k.placed k.room k.turn refl refl r q))
      (rw (is, e) (type_held ed h next (omega (arith, l.on)) l.within t b.0 k.placed b.1 (types_room so k.room)
      (below_all (length so.types) (shape_types t) there) fits))

  module _ (kind : Kind) (p : PartsAre s kind t) where
    abbrev parts : List (List ℕ)
    parts = cut kind p.count s

    earlier_is : refers_badly so (a_type t) ≡ not (earlier kind c.names c.types parts)
    earlier_is = type_refers so t ∙ ap not (rw (p.names, p.types, ← h.names.count, ← h.types.count))

    type_bad : earlier kind c.names c.types parts ≡ false
        → LineEnds ed f next w (Some Frame.schema_type) (add so fr) (Err Refusal.BadReference) (first_of conditions so (frames fr))
    unfolding frame_kind texts_of any_of
    type_bad e = refuses ed f next w (Some Frame.schema_type) (add so fr) Refusal.BadReference _
        (as_type _ (first_bad so (a_type t) k.placed k.room k.turn refl refl (earlier_is ∙ ap not e)))

    type_repeats : earlier kind c.names c.types parts ≡ true → again [] (Parts.keys_of kind parts) ≡ true
        → LineEnds ed f next w (Some Frame.schema_type) (add so fr) (Err Refusal.RepeatedKey) (first_of conditions so (frames fr))
    unfolding frame_kind texts_of any_of keys_of
    type_repeats e d = refuses ed f next w (Some Frame.schema_type) (add so fr) Refusal.RepeatedKey _
        (as_type _ (first_repeated so (a_type t) k.placed k.room k.turn refl refl (earlier_is ∙ ap not e) (rw p.keys d)))

-- ---- The ends of a type line

-- One more type whose words are these.
module _ (ed : Edition) (s w : List ℕ) (c : Counters) (w' : List ℕ) (r : Result Counters Refusal) where
  pub leaf_takes : (p : Leaf) (shape : ℕ) → slice_get (type_shapes ed) shape ≡ Some (nothing (a_leaf p)) → 2 ≤ length s
      → AddsType w c (leaf_tag p) (leaf_payload p) 0 w' r → TakesType ed shape s w c w' r
  unfolding shape_keys again refers_badly refers_earlier name_refs type_refs node_refs shape_names shape_types all_below kind_byte
  leaf_takes p shape q long a = record {
    is = λ f at e. record {
      is = λ next T previous so fr h l k.
          rw a.step (type_goes ed h l k (a_leaf p) (leaf_is ed so s fr long k p shape e q) w' refl refl (omega (arith, h.room, l.on)) a.words);
    };
  }

  pub fact_takes : (n : ℕ) → n ≡ reference_w ed s 2 → 2 ≤ length s → AddsType w c 4 n 0 w' r → TakesType ed 3 s w c w' r
  unfolding shape_keys again refers_badly refers_earlier name_refs type_refs node_refs shape_names shape_types all_below kind_byte
  fact_takes n e long a = record {
    is = λ f at b. record {
      is = λ next T previous so fr h l k.
          rw a.step (type_goes ed h l k (a_leaf (Fact (reference_w ed s 2))) (fact_is ed so s fr long k b) w' refl refl
          (omega (arith, h.room, l.on)) (rw e at a.words));
    };
  }

-- The pieces that the code cuts.
pub cut_all : (kind : Kind) (s t : List ℕ) (size : ℕ) (parts : List (List ℕ)) → size ≡ size_of kind → t ≡ take (length s - 2) (drop 2 s)
    → parts ≡ first_chunks size (length t / size) t → parts ≡ cut kind ((length s - 2) / size_of kind) s
cut_all kind s t size parts z q e =
    let w : t ≡ drop 2 s = q ∙ take_all (length s - 2) (drop 2 s) (omega (arith, length-drop 2 s)) in
    e ∙ ap (λ n. first_chunks n (length t / n) t) z ∙ ap (λ l. first_chunks (size_of kind) (length l / size_of kind) l) w
    ∙ ap (λ n. first_chunks (size_of kind) (n / size_of kind) (drop 2 s)) (length-drop 2 s)

pub adds_as : {v v' : List ℕ} {c : Counters} {h h' p n n' : ℕ} {w' : List ℕ} {r : Result Counters Refusal} → v ≡ v' → h ≡ h' → n ≡ n'
    → AddsType v c h p n w' r → AddsType v' c h' p n' w' r
adds_as e q m a = rw (← e, ← q, ← m) a

-- What the parts of the line are, in so many pieces.
shape_is : (ed : Edition) (so : SoFar) (s : List ℕ) (fr : Frame) → 2 ≤ length s → Comes ed so Frame.schema_type s fr → (kind : Kind)
    → byte_w s 1 ≡ shape_of kind
    → (t : TypeShape) × (fr ≡ a_type t) × PartsAre s kind t
shape_is ed so s fr long k Fields b = let x = record_is ed so s fr long k b in (a_record x.0, x.1, fields_parts s x.0 x.2)
shape_is ed so s fr long k Alternatives b = let x = union_is ed so s fr long k b in (a_union x.0, x.1, alternatives_parts s x.0 x.2)

words_long : (kind : Kind) (parts : List (List ℕ)) → length (words_of kind parts) ≡ length parts * part_words kind
words_long kind [] = sym (zero-mul (part_words kind))
words_long Fields (p ∷ parts) = omega (arith, words_long Fields parts)
words_long Alternatives (p ∷ parts) = omega (arith, words_long Alternatives parts)

room_for : (kind : Kind) (n fields at len next : ℕ) → 2 + n * size_of kind ≡ len → 8 * fields ≤ at → next ≡ at + 2 * len + 1
    → 8 * (fields + n * part_words kind) ≤ next
room_for Fields n fields at len next e h o = omega arith
room_for Alternatives n fields at len next e h o = omega arith

fit_count : (kind : Kind) (n len : ℕ) → 2 + n * size_of kind ≡ len → (len - 2) / size_of kind ≡ n
fit_count Fields n len e = omega arith
fit_count Alternatives n len e = omega arith

module _ (ed : Edition) (s w : List ℕ) (c : Counters) (long : 2 ≤ length s) (kind : Kind) where
  -- as many pieces as the line has
  abbrev all : List (List ℕ)
  all = cut kind ((length s - 2) / size_of kind) s

  same_cut : (n : ℕ) → 2 + n * size_of kind ≡ length s → cut kind n s ≡ all
  same_cut n e = ap (λ m. cut kind m s) (sym (fit_count kind n (length s) e))

  pub parts_bad : earlier kind c.names c.types all ≡ false → TakesType ed (shape_of kind) s w c w (Err Refusal.BadReference)
  parts_bad e = record {
    is = λ f at b. record {
      is = λ next T previous so fr h l k.
          let x = shape_is ed so s fr long k kind b in
          type_bad ed h l k x.0 x.1 kind x.2 (ap (earlier kind c.names c.types) (same_cut x.2.count x.2.fit) ∙ e);
    };
  }

  pub parts_repeat : earlier kind c.names c.types all ≡ true → again [] (Parts.keys_of kind all) ≡ true
      → TakesType ed (shape_of kind) s w c w (Err Refusal.RepeatedKey)
  parts_repeat e d = record {
    is = λ f at b. record {
      is = λ next T previous so fr h l k.
          let x = shape_is ed so s fr long k kind b in
          let q = same_cut x.2.count x.2.fit in
          type_repeats ed h l k x.0 x.1 kind x.2 (ap (earlier kind c.names c.types) q ∙ e) (ap (λ p. again [] (Parts.keys_of kind p)) q ∙ d);
    };
  }

  pub parts_taken : earlier kind c.names c.types all ≡ true → again [] (Parts.keys_of kind all) ≡ false → (w' : List ℕ) (r : Result Counters Refusal) (n : ℕ)
      → n ≡ (length s - 2) / size_of kind
      → AddsType (sets w (FIELDS + c.fields) (words_of kind all)) c (n * 16 + tag_of kind) c.fields (n * part_words kind) w' r
      → TakesType ed (shape_of kind) s w c w' r
  parts_taken e d w' r n m a = record {
    is = λ f at b. record {
      is = λ next T previous so fr h l k.
          let x = shape_is ed so s fr long k kind b in
          let t = x.0 in
          let p = x.2 in
          let q = same_cut p.count p.fit in
          let count : n ≡ p.count = m ∙ fit_count kind p.count (length s) p.fit in
          let words : shape_words t ≡ words_of kind all = p.words ∙ ap (words_of kind) q in
          let many : length (shape_words t) ≡ n * part_words kind = ap length p.words ∙ words_long kind (cut kind p.count s) ∙ ap
          (λ m. m * part_words kind) (length_cuts (size_of kind) p.count (drop 2 s) ∙ sym count) in
          let fits : 8 * (c.fields + length (shape_words t)) ≤ next = rw (many, count) (room_for kind p.count c.fields at (length s) next p.fit h.room l.on) in
          let head : shape_head t ≡ n * 16 + tag_of kind = rw count p.head in
          rw (a.step, ← many)
          (type_goes ed h l k t x.1 w' (earlier_is ed h l k t x.1 kind p ∙ ap not (ap (earlier kind c.names c.types) q ∙ e))
          (rw (p.keys, q) d) fits (rw (words, head, p.second c.fields) a.words));
    };
  }

-- ---- By the shape byte

no_shape : (ed : Edition) (so : SoFar) (s : List ℕ) (fr : Frame) → 2 ≤ length s → Comes ed so Frame.schema_type s fr → 6 ≤ byte_w s 1 → ⊥
unfolding entry type_shapes
no_shape ed so s fr long k h =
    let c = chosen ed so s fr long k in
    let x : fails ≡ got c.0 [] = rw (slice_get_past (type_shapes ed) (byte_w s 1) h, entry) at c.1 in
    let z : ◌≡◌ {A = ℕ} 0 1 = cc in
    omega arith

pub other_takes : (ed : Edition) (s w : List ℕ) (c : Counters) (w' : List ℕ) (r : Result Counters Refusal) → 2 ≤ length s → 5 ≤ byte_w s 1
    → TakesType ed 5 s w c w' r
    → TakesAnywhere ed Frame.schema_type s w c w' r
other_takes ed s w c w' r long h t = record {
  is = λ f at. cases (ltb 5 (byte_w s 1))
      (λ q. record { is = λ next T previous so fr held l k. absurd (no_shape ed so s fr long k (ltb-true 5 (byte_w s 1) q)) })
      (λ q. t.is f at (omega (arith, ltb-false 5 (byte_w s 1) q)));
}

pub shape_takes : (ed : Edition) (shape : ℕ) (s w : List ℕ) (c : Counters) (w' : List ℕ) (r : Result Counters Refusal) → byte_w s 1 ≡ shape
    → TakesType ed shape s w c w' r → TakesAnywhere ed Frame.schema_type s w c w' r
shape_takes ed shape s w c w' r e t = record { is = λ f at. t.is f at e }

pub int_takes : (ed : Edition) (s w : List ℕ) (c : Counters) (w' : List ℕ) (r : Result Counters Refusal) → 2 ≤ length s → AddsType w c 1 0 0 w' r
    → TakesType ed 0 s w c w' r
unfolding type_shapes
int_takes ed s w c w' r long a = leaf_takes ed s w c w' r Int 0 refl long a

pub string_takes : (ed : Edition) (s w : List ℕ) (c : Counters) (w' : List ℕ) (r : Result Counters Refusal) → 2 ≤ length s → AddsType w c 2 0 0 w' r
    → TakesType ed 1 s w c w' r
unfolding type_shapes
string_takes ed s w c w' r long a = leaf_takes ed s w c w' r String 1 refl long a

pub bytes_takes : (ed : Edition) (s w : List ℕ) (c : Counters) (w' : List ℕ) (r : Result Counters Refusal) → 2 ≤ length s → AddsType w c 3 0 0 w' r
    → TakesType ed 2 s w c w' r
unfolding type_shapes
bytes_takes ed s w c w' r long a = leaf_takes ed s w c w' r Bytes 2 refl long a
