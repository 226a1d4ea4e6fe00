-- What is held of one kind reads its own region alone, so it holds of any words that are the same there. A type's row
-- reads the words of its own parts and the types that these name, which are earlier.
use mathlib.Core.Bool.{Bool, true, false}
use mathlib.Core.List.{List}
use mathlib.Core.Path.{◌≡◌, refl, sym, ap, ◌∙◌}
use Prim.Native.Nat.{ℕ, zero, suc, ◌+◌, ◌*◌, ◌/◌, ◌%◌, ◌<◌, ◌≤◌}
use native.Mathlib.Omega.{arith}
use lib.Dec.{eqb}
use lib.ListN.{length, get_or}
use borrow.Author.Count.{below_more}
use borrow.Author.Tests.{lt-ltb, eqb-true}
use Rattle.unification.specs.Ty as Tree
use Rattle.work.specs.Layout.{MAX-DISTANCE, MAX-TERM, QUERY, NAMES, TYPES, PREDICATES, NODES, FIELDS}
use Rattle.cells.specs.declared.Ty.{Ty}
use Rattle.cells.specs.declared.Kind.{Kind}
use Rattle.cells.specs.declared.Kind.TheVariants.{Fields, Alternatives}
use Rattle.cells.specs.declared.Part.{Part}
use Rattle.cells.proofs.Frame.{field_declared}
use Rattle.cells.specs.Words.{pick, ty_w, declared_w, count_w, first_w, declared_field, alternative_w, part_w}
use Rattle.cells.specs.Stands.{Rows, tree, row_from, row_w}
use Rattle.format.specs.Syntax.{Node, Query}
use Rattle.format.specs.Schema.{Predicate}
use Rattle.format.specs.Frame as Frame
use Rattle.format.specs.Conditions.{among}
use Rattle.format.specs.Frame.{Edition}
use Rattle.tree.specs.Stands.{NodeIn, QueryIs, PredicateIs, no_predicate, value_of}
use Rattle.format.proofs.Tests.{clash}
use Rattle.reading.specs.Held.{LimitsHeld, NamesHeld, words_of, part_type, IsOf, TypesHeld, PredicatesHeld, NodesHeld, flag, Marked}
use Rattle.reading.proofs.Regions.{Same}
use Rattle.std.specs.Prelude.{None, Option, Some}

-- ---- Limits, names, nodes and the query

pub limits_kept : {w w' : List ℕ} → Same MAX-DISTANCE QUERY w w' → (p : Option Frame.Kind) (d t : ℕ) → LimitsHeld w p d t → LimitsHeld w' p d t
limits_kept s None d t h = tt
limits_kept s (Some k) d t h = (s.at MAX-DISTANCE (omega arith) (omega arith) ∙ h.0, s.at MAX-TERM (omega arith) (omega arith) ∙ h.1)

module _ {f w w' : List ℕ} where
  pub names_kept : {n : ℕ} {v : Option ℕ} {names : List (List ℕ)} → Same NAMES TYPES w w' → NamesHeld f w n v names → NamesHeld f w' n v names
  names_kept s h = record {
    count = h.count;
    few = h.few;
    name = λ i l. rw (s.at (NAMES + i) (omega arith) (omega (arith, h.few))) (h.name i l);
    characters = λ i l. ap (λ x. x % 512) (s.at (NAMES + i) (omega arith) (omega (arith, h.few))) ∙ h.characters i l;
    valued = h.valued;
  }

  -- a mark does not matter to where a node's line is
  pub node_kept : {e : Edition} {n : ℕ} {nd : Node} → get_or w' (NODES + n) 0 / 2 ≡ get_or w (NODES + n) 0 / 2 → NodeIn e f w n nd → NodeIn e f w' n nd
  node_kept {n = n} e h =
      let p : get_or w' (NODES + n) 0 / 2048 ≡ get_or w (NODES + n) 0 / 2048 = omega arith in
      record { content = h.content; line = rw (p, e) h.line; frame = h.frame }

  pub nodes_kept : {e : Edition} {n : ℕ} {nodes : List Node} → ((i : ℕ) → i < length nodes → get_or w' (NODES + i) 0 / 2 ≡ get_or w (NODES + i) 0 / 2)
      → NodesHeld e f w n nodes → NodesHeld e f w' n nodes
  nodes_kept s h = record { count = h.count; few = h.few; node = λ i l. node_kept (s i l) (h.node i l) }

  pub query_kept : get_or w' QUERY 0 ≡ get_or w QUERY 0 → {q : Query} → QueryIs f w q → QueryIs f w' q
  query_kept e h = record { content = h.content; line = rw e h.line; frame = h.frame }

-- One more node, not marked yet.
pub marked_more : {w w' : List ℕ} {m : ℕ} {named : List ℕ} → Same NODES (NODES + m) w w' → get_or w' (NODES + m) 0 % 2 ≡ 0 → Marked w m named
    → Marked w' (m + 1) named
marked_more {w} {w'} {m} {named} s e h = record {
  mark = below_more (λ i. get_or w' (NODES + i) 0 % 2 ≡ flag (among i named)) m
      (λ i l. ap (λ x. x % 2) (s.at (NODES + i) (omega arith) (omega arith)) ∙ h.mark i l) (e ∙ sym (ap flag (h.later m (omega arith))));
  later = λ i l. h.later i (omega arith);
}

pub marked_kept : {w w' : List ℕ} {m : ℕ} {named : List ℕ} → m ≤ 512 → Same NODES FIELDS w w' → Marked w m named → Marked w' m named
marked_kept few s h = record { mark = λ i l. ap (λ x. x % 2) (s.at (NODES + i) (omega arith) (omega arith)) ∙ h.mark i l; later = h.later }

-- ---- Types

pub first_is : (w : List ℕ) (c : ℕ) → c < 256 → first_w w c ≡ get_or w (TYPES + 2 * c + 1) 0
unfolding first_w
first_is w c h = rw (lt-ltb c 256 h)

pub count_is : (w : List ℕ) (c : ℕ) → c < 256 → count_w w c ≡ get_or w (TYPES + 2 * c) 0 / 16
unfolding count_w
count_is w c h = rw (lt-ltb c 256 h)

-- Rows that agree below a number make the same trees of the types below it.
module _ (T T' : Rows) where
  abbrev Agree : Ty → Type 0
  Agree x = tree T' x ≡ tree T x

  pick_agrees : (b : Bool) (x y : Ty) → (b ≡ true → Agree x) → (b ≡ false → Agree y) → Agree (pick b x y)
  pick_agrees true x y p q = p refl
  pick_agrees false x y p q = q refl

  pub tree_kept : (w : List ℕ) (t : ℕ) → T' t ≡ T t → tree T' (declared_w w t) ≡ tree T (declared_w w t)
  unfolding declared_w ty_w
  tree_kept w t e =
      pick_agrees (eqb tag 5) _ _ (λ r. ap (Tree.node Tree.Record) e) λ no_record.
      pick_agrees (eqb tag 6) _ _ (λ r. ap (Tree.node Tree.Union) e) λ no-union.
      pick_agrees (eqb tag 1) _ _ (λ r. refl) λ r.
      pick_agrees (eqb tag 2) _ _ (λ r. refl) λ r.
      pick_agrees (eqb tag 3) _ _ (λ r. refl) λ r.
      pick_agrees (eqb tag 4) _ _ (λ r. refl) λ r.
      pick_agrees (eqb tag 5) _ _ (λ r. clash (sym r ∙ no_record)) λ r.
      pick_agrees (eqb tag 6) _ _ (λ r. clash (sym r ∙ no-union)) λ r.
      pick_agrees (eqb tag 7) _ _ (λ r. refl) λ r. refl
    where
      tag : ℕ
      tag = get_or w (TYPES + 2 * t) 0 % 16

-- A part with the same key and label whose type stands for the same tree.
record PartKept (T T' : Rows) (p p' : Part) : Type 0 where
  key : p'.key ≡ p.key
  label : p'.label ≡ p.label
  type : tree T' p'.ty ≡ tree T p.ty

row_kept : (T T' : Rows) (w w' : List ℕ) (k : Kind) (c n j : ℕ) → ((i : ℕ) → i < j + n → PartKept T T' (part_w w k c i) (part_w w' k c i))
    → row_from T' w' k c j n ≡ row_from T w k c j n
unfolding row_from
row_kept T T' w w' k c zero j h = refl
row_kept T T' w w' k c (suc n) j h =
    let p = h j (omega arith) in
    let q = row_kept T T' w w' k c n (j + 1) (λ i l. h i (omega arith)) in
    rw (p.key, p.label, p.type, q)

module _ (n fields : ℕ) (w w' : List ℕ) (T T' : Rows) (words : Same TYPES (TYPES + 2 * n) w w') (parts : Same FIELDS (FIELDS + fields) w w')
    (rows : (t : ℕ) → t < n → T' t ≡ T t) (few : n ≤ 256) where
  head_kept : (t : ℕ) → t < n → get_or w' (TYPES + 2 * t) 0 ≡ get_or w (TYPES + 2 * t) 0
  head_kept t l = words.at (TYPES + 2 * t) (omega arith) (omega arith)

  second_kept : (t : ℕ) → t < n → get_or w' (TYPES + 2 * t + 1) 0 ≡ get_or w (TYPES + 2 * t + 1) 0
  second_kept t l = words.at (TYPES + 2 * t + 1) (omega arith) (omega arith)

  declared_kept : (t : ℕ) → t < n → declared_w w' t ≡ declared_w w t
  unfolding declared_w
  declared_kept t l = rw (head_kept t l, second_kept t l)

  pub type_kept : (t : ℕ) → t < n → tree T' (declared_w w' t) ≡ tree T (declared_w w t)
  type_kept t l = ap (tree T') (declared_kept t l) ∙ tree_kept T T' w t (rows t l)

  count_kept : (t : ℕ) → t < n → count_w w' t ≡ count_w w t
  count_kept t l = count_is w' t (omega arith) ∙ ap (λ x. x / 16) (head_kept t l) ∙ sym (count_is w t (omega arith))

  first_kept : (t : ℕ) → t < n → first_w w' t ≡ first_w w t
  first_kept t l = first_is w' t (omega arith) ∙ second_kept t l ∙ sym (first_is w t (omega arith))

  module _ (t : ℕ) (l : t < n) where
    word_kept : (k : Kind) (i j : ℕ) → first_w w t + words_of k (count_w w t) ≤ fields → j < words_of k (count_w w t) → i ≡ FIELDS + first_w w t + j
        → get_or w' i 0 ≡ get_or w i 0
    word_kept k i j b h e = parts.at i (omega arith) (omega arith)

    part_type_kept : (k : Kind) (j : ℕ) → first_w w t + words_of k (count_w w t) ≤ fields → j < count_w w t → part_type w' k t j ≡ part_type w k t j
    part_type_kept Fields j b h = rw (first_kept t l, word_kept Fields (FIELDS + first_w w t + j) j b (omega arith) refl)
    part_type_kept Alternatives j b h = rw (first_kept t l, word_kept Alternatives (FIELDS + first_w w t + 2 * j + 1) (2 * j + 1) b (omega arith) (omega arith))

    part_kept : (k : Kind) (j : ℕ) → first_w w t + words_of k (count_w w t) ≤ fields → j < count_w w t → part_type w k t j < t
        → PartKept T T' (part_w w k t j) (part_w w' k t j)
    unfolding declared_field alternative_w
    part_kept Fields j b h e =
        let x = word_kept Fields (FIELDS + first_w w t + j) j b (omega arith) refl in
        rw (field_declared w t j (omega arith), field_declared w' t j (omega arith), first_kept t l)
        (record { key = rw x; label = refl; type = rw x (type_kept (part_type w Fields t j) (omega arith)) })
    part_kept Alternatives j b h e =
        let x = word_kept Alternatives (FIELDS + first_w w t + 2 * j) (2 * j) b (omega arith) refl in
        let y = word_kept Alternatives (FIELDS + first_w w t + 2 * j + 1) (2 * j + 1) b (omega arith) (omega arith) in
        rw (first_kept t l) (record { key = rw x; label = rw y; type = rw y (type_kept (part_type w Alternatives t j) (omega arith)) })

  pub types_kept : (m : ℕ) (types : List Tree.Ty) → length types ≡ n → TypesHeld w T m fields types → TypesHeld w' T' m fields types
  unfolding row_w
  types_kept m types e h = record {
    count = h.count;
    few = h.few;
    type = λ t l. h.type t l ∙ sym (type_kept t (omega arith));
    row = λ k t l i.
        let j = is k t l i in
        rows t (omega arith)
        ∙ h.row k t l j
        ∙ sym (rw (count_kept t (omega arith)) (row_kept T T' w w' k t (count_w w t) 0
        (λ p b. part_kept t (omega arith) k p (h.within k t l j) (omega arith) (h.earlier k t p l j (omega arith)))));
    earlier = λ k t j l i b.
        let o = is k t l i in
        let a : j < count_w w t = omega (arith, count_kept t (omega arith)) in
        rw (part_type_kept t (omega arith) k j (h.within k t l o) a) (h.earlier k t j l o a);
    within = λ k t l i. rw (first_kept t (omega arith), count_kept t (omega arith)) (h.within k t l (is k t l i));
    tags = λ t l. rw (head_kept t (omega arith)) (h.tags t l);
  }
    where
      is : (k : Kind) (t : ℕ) → t < length types → IsOf w' k t → IsOf w k t
      is k t l i = sym (ap (λ x. x % 16) (head_kept t (omega arith))) ∙ i

  value_kept : (x : ℕ) → (x % 2 ≡ 1 → x / 2 % 256 < n) → value_of T' w' x ≡ value_of T w x
  value_kept x h = go (eqb (x % 2) 1) refl
    where
      go : (b : Bool) → eqb (x % 2) 1 ≡ b → value_of T' w' x ≡ value_of T w x
      go true q = rw q (ap Some (type_kept (x / 2 % 256) (h (eqb-true (x % 2) 1 q))))
      go false q = rw q

  predicate_kept : (m p : ℕ) (d : Predicate) → n ≤ m → get_or w' (PREDICATES + p) 0 ≡ get_or w (PREDICATES + p) 0 → PredicateIs w T n p d
      → PredicateIs w' T' m p d
  predicate_kept m p d e x h = record {
    name = rw x h.name;
    key = rw x (h.key ∙ sym (type_kept (get_or w (PREDICATES + p) 0 / 512 % 256) h.key_there));
    value = rw x (h.value ∙ sym (value_kept (get_or w (PREDICATES + p) 0) h.value_there));
    key_there = rw x (omega (arith, h.key_there));
    value_there = rw x (λ q. omega (arith, h.value_there q));
  }

  pub predicates_kept : (m p : ℕ) (ps : List Predicate) → n ≤ m → Same PREDICATES (PREDICATES + length ps) w w' → PredicatesHeld w T n p ps
      → PredicatesHeld w' T' m p ps
  predicates_kept m p ps e s h = record {
    count = h.count;
    few = h.few;
    predicate = λ i l. predicate_kept m i (get_or ps i no_predicate) e (s.at (PREDICATES + i) (omega arith) (omega arith)) (h.predicate i l);
  }
