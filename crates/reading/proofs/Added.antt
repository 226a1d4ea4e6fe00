-- One more of a kind: the older ones read other words, and the new one reads what was written for it.
use mathlib.Core.Bool.{Bool, true, false}
use mathlib.Core.List.{List, [], ◌∷◌, ◌++◌}
use mathlib.Core.Path.{◌≡◌, ap, subst, ◌∙◌}
use Prim.Native.Nat.{ℕ, ◌+◌, ◌*◌, ◌/◌, ◌%◌, ◌<◌, ◌≤◌}
use native.Mathlib.Omega.{arith}
use lib.ListN.{length, get_or, set}
use lib.Seq.{get_or-set_same}
use Rattle.text.specs.Utf8.{characters, one_more}
use Rattle.work.specs.Layout.{QUERY, NAMES, TYPES, PREDICATES, NODES, FIELDS}
use Rattle.unification.specs.Ty as Tree
use Rattle.cells.specs.Words.{pick}
use Rattle.cells.specs.Stands.{Rows}
use Rattle.cells.proofs.Frame.{keeps_set}
use Rattle.format.specs.Syntax.{Node, Query, no_node, node_at}
use Rattle.format.specs.Schema.{Predicate}
use Rattle.format.specs.References.{optional}
use Rattle.format.specs.Frame.{Edition, node, query, a_node, the_query, frame_of}
use Rattle.format.specs.Frame as Frame
use Rattle.format.specs.SoFar.{type_at, value_ty, predicate_of}
use Rattle.format.specs.All.{Below}
use Rattle.format.specs.Lines.{position}
use Rattle.format.specs.Conditions.{any_of, same_text, given}
use Rattle.format.specs.File.{value_text, count_of}
use Rattle.format.proofs.Tests.{cases, clash, same_text_lem}
use Rattle.sigla_hex.specs.Digits.{line_at}
use Rattle.tree.specs.Stands.{NameIs, NodeIn, QueryIs, PredicateIs, no_predicate}
use Rattle.reading.specs.Held.{NamesHeld, TypesHeld, PredicatesHeld, NodesHeld}
use Rattle.reading.proofs.Regions.{snoc}
use Rattle.reading.proofs.Kept.{node_kept}
use Rattle.std.specs.Prelude.{None, Option, Some}
use Rattle.std.proofs.lemmas.List.{length_push}

-- ---- Names

position_older : {A : Type 0} (test : A → Bool) (l : List A) (a : A) → test a ≡ false → position test (l ++ a ∷ []) ≡ position test l
unfolding position
position_older test [] a q = rw q
position_older test (b ∷ l) a q = cases (test b) (λ p. rw (p, position)) (λ p. rw (p, position) (ap one_more (position_older test l a q)))

position_newer : {A : Type 0} (test : A → Bool) (l : List A) (a : A) → any_of test l ≡ false → test a ≡ true → position test (l ++ a ∷ []) ≡ Some (length l)
unfolding position any_of
position_newer test [] a n q = rw q
position_newer test (b ∷ l) a n q = cases (test b)
    (λ p. clash (rw (p, any_of) at n))
    (λ p. rw (p, position) (ap one_more (position_newer test l a (rw (p, any_of) at n) q)))

module _ {f w : List ℕ} {n : ℕ} {v : Option ℕ} {names : List (List ℕ)} (h : NamesHeld f w n v names) (s : List ℕ) where
  value_added : given names s ≡ false → pick (same_text value_text s) (Some n) v ≡ position (same_text value_text) (names ++ s ∷ [])
  unfolding given
  value_added g = cases (same_text value_text s)
      (λ q. rw (q, position_newer (same_text value_text) names s (rw (← same_text_lem value_text s q) at g) q) (ap Some h.count))
      (λ q. rw (q, position_older (same_text value_text) names s q) h.valued)

  pub name_added : (at chars : ℕ) → 16384 ≤ length w → length names < 256 → line_at f at ≡ Some (0x02 ∷ s) → characters s ≡ Some chars → chars < 512
      → given names s ≡ false
      → NamesHeld f (set w (NAMES + n) (at * 512 + chars)) (n + 1) (pick (same_text value_text s) (Some n) v) (names ++ s ∷ [])
  unfolding count_of
  name_added at chars long room line text small g = record {
    count = rw (length_push names s) (omega (arith, h.count));
    few = rw (length_push names s) (omega arith);
    name = snoc (λ i t. NameIs f (set w (NAMES + n) x) i t) [] names s
        (λ i l. rw (older i l) (h.name i l))
        (subst (λ i. NameIs f (set w (NAMES + n) x) i s) h.count (rw (here, place) line));
    characters = snoc (λ i t. get_or (set w (NAMES + n) x) (NAMES + i) 0 % 512 ≡ count_of (characters t)) [] names s
        (λ i l. ap (λ y. y % 512) (older i l) ∙ h.characters i l)
        (subst (λ i. get_or (set w (NAMES + n) x) (NAMES + i) 0 % 512 ≡ count_of (characters s)) h.count (rw (here, text) (omega arith)));
    valued = value_added g;
  }
    where
      x : ℕ
      x = at * 512 + chars

      older : (i : ℕ) → i < length names → get_or (set w (NAMES + n) x) (NAMES + i) 0 ≡ get_or w (NAMES + i) 0
      older i l = (keeps_set {a = NAMES + n} {e = TYPES} w (NAMES + n) x (omega arith) (omega (arith, h.count))).below (NAMES + i) (omega (arith, h.count))

      here : get_or (set w (NAMES + n) x) (NAMES + n) 0 ≡ x
      here = get_or-set_same w (NAMES + n) x 0 (omega (arith, h.count))

      place : x / 512 ≡ at
      place = omega arith

-- ---- Nodes and the query

module _ (at size kind : ℕ) (content : List ℕ) {f : List ℕ} (line : line_at f at ≡ Some (kind ∷ content)) (long : size ≡ length (kind ∷ content))
    (small : size ≤ 512) where
  pub node_added : {e : Edition} {w : List ℕ} {n : ℕ} {nodes : List Node} (nd : Node) → NodesHeld e f w n nodes → 16384 ≤ length w
      → length nodes < 512 → kind ≡ 0x05 → frame_of e node content ≡ Some (a_node nd)
      → NodesHeld e f (set w (NODES + n) ((at * 1024 + size) * 2)) (n + 1) (nodes ++ nd ∷ [])
  unfolding node_at
  node_added {e} {w} {n} {nodes} nd h wide room k frame = record {
    count = rw (length_push nodes nd) (omega (arith, h.count));
    few = rw (length_push nodes nd) (omega arith);
    node = snoc (λ i t. NodeIn e f (set w (NODES + n) x) i t) no_node nodes nd
        (λ i l. node_kept (ap (λ y. y / 2) ((keeps_set {a = NODES + n} {e = FIELDS} w (NODES + n) x (omega arith) (omega (arith, h.count))).below
        (NODES + i) (omega (arith, h.count)))) (h.node i l))
        (subst (λ i. NodeIn e f (set w (NODES + n) x) i nd) h.count
        (record {
          content = content;
          line = record
              { line = rw (here, place) (line ∙ ap (λ b. Some (b ∷ content)) k); long = rw here (omega arith) };
          frame = frame;
        }));
  }
    where
      x : ℕ
      x = (at * 1024 + size) * 2

      here : get_or (set w (NODES + n) x) (NODES + n) 0 ≡ x
      here = get_or-set_same w (NODES + n) x 0 (omega (arith, h.count))

      place : x / 2048 ≡ at
      place = omega arith

  pub query_added : (w : List ℕ) (q : Query) → 16384 ≤ length w → kind ≡ 0x06 → frame_of Frame.wide query content ≡ Some (the_query q)
      → QueryIs f (set w QUERY (at * 1024 + size)) q
  query_added w q wide k frame = record {
    content = content;
    line = record
        { line = rw (here, place) (line ∙ ap (λ b. Some (b ∷ content)) k); long = rw here (omega arith) };
    frame = frame;
  }
    where
      x : ℕ
      x = at * 1024 + size

      here : get_or (set w QUERY x) QUERY 0 ≡ x
      here = get_or-set_same w QUERY x 0 (omega arith)

      place : x / 1024 ≡ at
      place = omega arith

-- ---- Predicates

abbrev pub value_word : Option ℕ → ℕ
value_word None = 0
value_word (Some t) = t * 2 + 1

module _ {w : List ℕ} {T : Rows} {m fields : ℕ} {types : List Tree.Ty} (h : TypesHeld w T m fields types) where
  predicate_is : (p name key : ℕ) (value : Option ℕ) → get_or w (PREDICATES + p) 0 ≡ name * 131072 + key * 512 + value_word value → key < length types
      → Below (length types) (optional value)
      → PredicateIs w T (length types) p (predicate_of types name key value)
  unfolding predicate_of type_at value_ty optional
  predicate_is p name key None x k v =
      let e : get_or w (PREDICATES + p) 0 / 512 % 256 ≡ key = omega (arith, h.few) in
      let z : get_or w (PREDICATES + p) 0 % 2 ≡ 0 = omega arith in
      record { name = omega (arith, h.few); key = rw e (h.type key k); value = rw z; key_there = rw e k; value_there = rw z (λ q. omega arith) }
  predicate_is p name key (Some t) x k v =
      let e : get_or w (PREDICATES + p) 0 / 512 % 256 ≡ key = omega (arith, h.few, v.0) in
      let q : get_or w (PREDICATES + p) 0 / 2 ≡ name * 65536 + key * 256 + t = omega arith in
      let o : get_or w (PREDICATES + p) 0 % 2 ≡ 1 = omega arith in
      let r : get_or w (PREDICATES + p) 0 / 2 / 256 ≡ name * 256 + key = omega (arith, h.few, v.0) in
      let u : get_or w (PREDICATES + p) 0 / 2 % 256 ≡ t = omega arith in
      record {
        name = omega (arith, h.few, v.0);
        key = rw e (h.type key k);
        value = rw (o, u) (ap Some (h.type t v.0));
        key_there = rw e k;
        value_there = λ q. rw u v.0;
      }

  -- The older predicates as they stand after the word was written.
  pub predicate_added : {n : ℕ} {ps : List Predicate} (name key : ℕ) (value : Option ℕ) → PredicatesHeld w T (length types) n ps → length ps < 128
      → get_or w (PREDICATES + n) 0 ≡ name * 131072 + key * 512 + value_word value → key < length types → Below (length types) (optional value)
      → PredicatesHeld w T (length types) (n + 1) (ps ++ predicate_of types name key value ∷ [])
  predicate_added {n} {ps} name key value o room x k v = record {
    count = rw (length_push ps (predicate_of types name key value)) (omega (arith, o.count));
    few = rw (length_push ps (predicate_of types name key value)) (omega arith);
    predicate = snoc (λ i d. PredicateIs w T (length types) i d) no_predicate ps (predicate_of types name key value)
        o.predicate
        (subst (λ i. PredicateIs w T (length types) i (predicate_of types name key value)) o.count (predicate_is n name key value x k v));
  }
