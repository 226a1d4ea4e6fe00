-- Whether content is a frame, as a test of its length: a reader of one size wants that size, a list wants a multiple of
-- its items', and a byte that says how to go on picks the test from a list.
use mathlib.Core.Bool.{Bool, true, false}
use mathlib.Core.List.{List, [], ◌∷◌}
use mathlib.Core.Path.{◌≡◌, refl, sym, ap, ◌∙◌}
use Prim.Native.Nat.{ℕ, zero, suc, ◌+◌, ◌-◌, ◌%◌, ◌<◌, ◌≤◌}
use native.Mathlib.Omega.{arith}
use lib.Dec.{eqb, ltb, leb}
use lib.ListN.{length, get_or, drop, drop_of_length-le, get_or-eq_default}
use borrow.Author.Tests.{ne_eqb, eqb-true, eqb-false, ltb-true, ltb-false, le-leb, lt-leb}
use Rattle.sigla_hex.proofs.Line.{from_here}
use Rattle.format.specs.Frame.{Edition, limits, name, schema_type, predicate, node, query, the_limits, a_type, a_predicate, a_node, the_query, Got, got, fails}
use Rattle.format.specs.Frame.{Reader, and_then, nothing, one, pair, triple, byte, two, many, entry, choice, type_shapes, value_types}
use Rattle.format.specs.Frame.{head_and_body, expr_kinds, span_and_kind, rest, frame, whole, frame_of}
use Rattle.frames.specs.Promises.{byte_w, half_w, reference_size, wholly, is_frame, size_w, type_shape, value_type, statement, expr_kind}
use Rattle.frames.proofs.Readers.{Sized, sized_nothing, sized_byte, sized_two, sized_four, sized_reference, sized_one, sized_pair, sized_field}
use Rattle.frames.proofs.Readers.{sized_alternative, many_end, many_stop, items_test}
use Rattle.frames.specs.Items.{statement_at}
use Rattle.frames.proofs.Statements.{choice_at, choice_past, statement_none, statement_lacks, statements_step}
use Rattle.std.specs.Prelude.{◌&&◌, Some, slice_get, slice_range}
use Rattle.std.proofs.lemmas.List.{take_all, length-drop}

-- ---- One reader

pub fails_test : {A : Type 0} (g : Got A) → g ≡ fails → wholly g ≡ false
unfolding whole
fails_test g e = ap wholly e

wholly_got : {A : Type 0} (a : A) (s : List ℕ) (i : ℕ) → i ≤ length s → wholly (got a (drop i s)) ≡ eqb (length s) i
unfolding whole
wholly_got a s i h = go (eqb (length s) i) refl
  where
    go : (t : Bool) → eqb (length s) i ≡ t → wholly (got a (drop i s)) ≡ t
    go true e = let past : length s ≤ i = omega (arith, eqb-true (length s) i e) in ap (λ l. wholly (got a l)) (drop_of_length-le s past)
    go false e = let n = eqb-false (length s) i e in ap (λ l. wholly (got a l)) (from_here s i (omega (arith, n)))

pub made_test : {A B : Type 0} (make : A → B) (g : Got A) → wholly (and_then g (λ a. got (make a))) ≡ wholly g
unfolding whole and_then
made_test make (got a []) = refl
made_test make (got a (b ∷ s)) = refl
made_test make fails = refl

pub one_test : {A B : Type 0} (make : A → B) (r : Reader A) (s : List ℕ) → wholly (one make r s) ≡ wholly (r s)
unfolding one
one_test make r s = made_test make (r s)

pub sized_test : {A : Type 0} {r : Reader A} {n : ℕ} {v : List ℕ → ℕ → A} → Sized r n v → (s : List ℕ) (i : ℕ) → i ≤ length s
    → wholly (r (drop i s)) ≡ eqb (length s) (i + n)
sized_test {r = r} {n = n} {v = v} p s i h = go (ltb (length s) (i + n)) refl
  where
    go : (t : Bool) → ltb (length s) (i + n) ≡ t → wholly (r (drop i s)) ≡ eqb (length s) (i + n)
    go true e =
        let short = ltb-true (length s) (i + n) e in
        fails_test (r (drop i s)) (p.lacks s i h short) ∙ sym (ne_eqb (length s) (i + n) (λ q. omega (arith, short, q)))
    go false e =
        let fits = ltb-false (length s) (i + n) e in
        ap wholly (p.reads s i fits) ∙ wholly_got (v s i) s (i + n) fits

-- ---- A part of one size, and what comes after it

module _ {A : Type 0} {r : Reader A} {m : ℕ} {v : List ℕ → ℕ → A} (p : Sized r (suc m) v) (s : List ℕ) (i : ℕ) where
  lacks_anywhere : length s < i + suc m → r (drop i s) ≡ fails
  lacks_anywhere h = go (ltb (length s) i) refl
    where
      go : (t : Bool) → ltb (length s) i ≡ t → r (drop i s) ≡ fails
      go true e =
          let past : length s ≤ i = omega (arith, ltb-true (length s) i e) in
          let end : length s ≤ length s = omega arith in
          ap r (drop_of_length-le s past ∙ sym (drop_of_length-le s end)) ∙ p.lacks s (length s) end (omega arith)
      go false e = p.lacks s i (ltb-false (length s) i e) h

  -- t is the test of what follows, false where there is no room for the part before it
  pub after_test : {B : Type 0} (f : A → Reader B) (t : Bool) → (i + suc m ≤ length s → wholly (f (v s i) (drop (i + suc m) s)) ≡ t)
      → (length s < i + suc m → t ≡ false) → wholly (and_then (r (drop i s)) f) ≡ t
  unfolding and_then
  after_test f t on short = go (ltb (length s) (i + suc m)) refl
    where
      go : (u : Bool) → ltb (length s) (i + suc m) ≡ u → wholly (and_then (r (drop i s)) f) ≡ t
      go true e =
          let h = ltb-true (length s) (i + suc m) e in fails_test (and_then (r (drop i s)) f) (ap (λ g. and_then g f) (lacks_anywhere h)) ∙ sym (short h)
      go false e = let h = ltb-false (length s) (i + suc m) e in ap (λ g. wholly (and_then g f)) (p.reads s i h) ∙ on h

-- ---- A byte that says how to go on

-- the tests of a table's readers at a place
pub data Rows {A : Type 0} (s : List ℕ) (i : ℕ) : List (Reader A) → List Bool → Type 0 where
  done : Rows s i [] []
  row : {r : Reader A} {rs : List (Reader A)} {t : Bool} {ts : List Bool} → wholly (r (drop i s)) ≡ t → Rows s i rs ts → Rows s i (r ∷ rs) (t ∷ ts)

row_test : {A : Type 0} {s : List ℕ} {i : ℕ} {rs : List (Reader A)} {ts : List Bool} → Rows s i rs ts → (b : ℕ)
    → wholly (entry (slice_get rs b) (drop i s)) ≡ get_or ts b false
unfolding entry
row_test done b = fails_test fails refl
row_test (row e q) zero = e
row_test (row e q) (suc b) = row_test q b

pub choice_test : {A : Type 0} {table : List (Reader A)} (ts : List Bool) (s : List ℕ) (i : ℕ) → i < length s → Rows s (i + 1) table ts
    → wholly (choice table (drop i s)) ≡ get_or ts (byte_w s i) false
choice_test {table = table} ts s i h q = ap wholly (choice_at table s i h) ∙ row_test q (byte_w s i)

-- ---- Statements

-- `&s[i..]`
pub to_end : (s : List ℕ) (i : ℕ) → slice_range s i (length s) ≡ drop i s
to_end s i = take_all (length s - i) (drop i s) (omega (arith, length-drop i s))

module _ (s : List ℕ) where
  pub fill_done : length s < 1 → true ≡ wholly (many statement s)
  unfolding whole
  fill_done h = sym (ap wholly (many_end statement s 0 (omega arith)))

  module _ (here : 1 ≤ length s) where
    pub fill_none : size_w (byte_w s 0) ≡ 0 → false ≡ wholly (many statement s)
    fill_none e = sym (fails_test (many statement s) (many_stop statement s 0 here (statement_none s 0 here e)))

    module _ (n : ℕ) (e : n ≡ size_w (byte_w s 0)) where
      pub fill_short : length s < n → false ≡ wholly (many statement s)
      fill_short h = sym (fails_test (many statement s) (many_stop statement s 0 here (statement_lacks s 0 here (omega (arith, e)))))

      pub fill_on : 0 < n → n ≤ length s → wholly (many statement s) ≡ wholly (many statement (slice_range s n (length s)))
      fill_on p h =
          let z : 0 + size_w (byte_w s 0) ≡ n = omega (arith, e) in
          ap wholly (statements_step s 0 (omega (arith, e)) (omega (arith, e))) ∙ one_test (λ more. statement_at s 0 ∷ more) (many statement) _
          ∙ ap (λ k. wholly (many statement (drop k s))) z ∙ ap (λ t. wholly (many statement t)) (sym (to_end s n))

-- The readers that stand in the tables.
module _ {A : Type 0} (s : List ℕ) (i : ℕ) (h : i ≤ length s) {rs : List (Reader A)} {ts : List Bool} where
  plain : (a : A) → Rows s i rs ts → Rows s i (nothing a ∷ rs) (eqb (length s) (i + 0) ∷ ts)
  plain a q = row (sized_test (sized_nothing a) s i h) q

  number : (make : ℕ → A) → Rows s i rs ts → Rows s i (one make two ∷ rs) (eqb (length s) (i + 2) ∷ ts)
  number make q = row (sized_test (sized_one make sized_two) s i h) q

  numbers : (make : ℕ → ℕ → A) → Rows s i rs ts → Rows s i (pair make two two ∷ rs) (eqb (length s) (i + 4) ∷ ts)
  numbers make q = row (sized_test (sized_pair make sized_two sized_two) s i h) q

  listed : {B : Type 0} {r : Reader B} {m : ℕ} {v : List ℕ → ℕ → B} → Sized r (suc m) v → (make : List B → A) → Rows s i rs ts
      → Rows s i (one make (many r) ∷ rs) (eqb ((length s - i) % suc m) 0 ∷ ts)
  listed {r = r} p make q = row (one_test make (many r) (drop i s) ∙ items_test p s i h) q

pub up : (k : ℕ) {b : ℕ} → k ≤ b → (b ≡ k → ⊥) → suc k ≤ b
up k h n = omega arith

-- ---- Each kind, by the length of the line, its kind byte first

pub limits_test : (ed : Edition) (s : List ℕ) → is_frame ed (Some limits) (drop 1 s) ≡ eqb (length s) 4
unfolding frame_of frame pair byte and_then whole
limits_test ed [] = refl
limits_test ed (b ∷ s) = sized_test (sized_pair the_limits sized_byte sized_two) (b ∷ s) 1 (omega arith)

module _ (ed : Edition) (s : List ℕ) where
  pub name_test_lem : is_frame ed (Some name) (drop 1 s) ≡ true
  unfolding frame_of frame rest one and_then whole
  name_test_lem = refl

  -- 00 to 05
  abbrev pub type_tests : List Bool
  type_tests = eqb (length s) 2 ∷ eqb (length s) 2 ∷ eqb (length s) 2 ∷ eqb (length s) (2 + reference_size ed) ∷ eqb ((length s - 2) % 4) 0 ∷ eqb
      ((length s - 2) % 8) 0 ∷ []

  pub type_test_lem : 2 ≤ length s → is_frame ed (Some schema_type) (drop 1 s) ≡ get_or type_tests (byte_w s 1) false
  unfolding frame_of frame type_shapes
  type_test_lem h =
      one_test a_type (type_shape ed) (drop 1 s)
      ∙ choice_test
      type_tests
      s
      1
      h
      (plain s 2 h _ (plain s 2 h _ (plain s 2 h _
      (row (sized_test (sized_one _ (sized_reference ed)) s 2 h) (listed s 2 h sized_field _ (listed s 2 h sized_alternative _ done))))))

  pub type_short : length s < 2 → is_frame ed (Some schema_type) (drop 1 s) ≡ false
  unfolding frame_of frame type_shapes
  type_short h = one_test a_type (type_shape ed) (drop 1 s) ∙ fails_test (type_shape ed (drop 1 s)) (choice_past (type_shapes ed) s 1 (omega arith))

  -- 00 and 01
  abbrev pub value_tests : List Bool
  value_tests = eqb (length s) 6 ∷ eqb (length s) 8 ∷ []

  value_short : length s ≤ 5 → wholly (value_type (drop 5 s)) ≡ false
  unfolding value_types
  value_short h = fails_test (value_type (drop 5 s)) (choice_past _ s 5 h)

  predicate_value : is_frame ed (Some predicate) (drop 1 s) ≡ wholly (value_type (drop 5 s))
  unfolding frame_of frame triple pair
  predicate_value =
      after_test
      sized_two
      s
      1
      (λ n. pair (a_predicate n) two value_type)
      (wholly (value_type (drop 5 s)))
      (λ h. after_test sized_two s 3 (λ k. one (a_predicate (half_w s 1) k) value_type) (wholly (value_type (drop 5 s)))
      (λ l. one_test (a_predicate (half_w s 1) (half_w s 3)) value_type (drop 5 s)) (λ l. value_short (omega arith)))
      (λ h. value_short (omega arith))

  pub predicate_test : 6 ≤ length s → is_frame ed (Some predicate) (drop 1 s) ≡ get_or value_tests (byte_w s 5) false
  unfolding value_types
  predicate_test h = predicate_value ∙ choice_test value_tests s 5 h (plain s 6 h _ (number s 6 h _ done))

  pub predicate_short : length s < 6 → is_frame ed (Some predicate) (drop 1 s) ≡ false
  predicate_short h = predicate_value ∙ value_short (omega arith)

  pub body_test : (i : ℕ) → wholly (head_and_body (drop i s)) ≡ (leb (i + 2) (length s) && wholly (many statement (drop (i + 2) s)))
  unfolding head_and_body pair
  body_test i =
      after_test
      sized_two
      s
      i
      (λ n. one (λ body. record { head = n; body = body }) (many statement))
      (leb (i + 2) (length s) && wholly (many statement (drop (i + 2) s)))
      (λ h. one_test _ (many statement) (drop (i + 2) s) ∙ ap (λ t. (t && wholly (many statement (drop (i + 2) s)))) (sym (le-leb (i + 2) (length s) h)))
      (λ h. ap (λ t. (t && wholly (many statement (drop (i + 2) s)))) (lt-leb (i + 2) (length s) h))

  pub query_test : is_frame ed (Some query) (drop 1 s) ≡ (leb 3 (length s) && wholly (many statement (drop 3 s)))
  unfolding frame_of frame
  query_test = one_test the_query head_and_body (drop 1 s) ∙ body_test 1

  pub query_body : 3 ≤ length s → wholly (many statement (slice_range s 3 (length s))) ≡ is_frame ed (Some query) (drop 1 s)
  query_body h =
      ap (λ t. wholly (many statement t)) (to_end s 3) ∙ sym (query_test ∙ ap (λ t. (t && wholly (many statement (drop 3 s)))) (le-leb 3 (length s) h))

  -- 00 to 10
  abbrev pub node_tests : List Bool
  node_tests =
      eqb (length s) 10 ∷ eqb (length s) 10 ∷ eqb (length s) 10 ∷ eqb (length s) 12 ∷
      eqb (length s) 10 ∷ eqb (length s) 10 ∷ eqb (length s) 12 ∷ eqb (length s) 13 ∷
      eqb ((length s - 10) % 4) 0 ∷ eqb (length s) 14 ∷ eqb (length s) 12 ∷ eqb ((length s - 10) % 2) 0 ∷
      (leb 12 (length s) && wholly (many statement (drop 12 s))) ∷ eqb (length s) (10 + (reference_size ed + 2)) ∷ eqb ((length s - 10) % 2) 0 ∷
      eqb (length s) 10 ∷
      eqb (length s) 14 ∷ []

  kind_short : length s ≤ 9 → wholly (expr_kind ed (drop 9 s)) ≡ false
  unfolding expr_kinds
  kind_short h = fails_test (expr_kind ed (drop 9 s)) (choice_past (expr_kinds ed) s 9 h)

  node_kind : is_frame ed (Some node) (drop 1 s) ≡ wholly (expr_kind ed (drop 9 s))
  unfolding frame_of frame span_and_kind triple pair
  node_kind =
      one_test a_node (span_and_kind ed) (drop 1 s)
      ∙ after_test
      sized_four
      s
      1
      _
      (wholly (expr_kind ed (drop 9 s)))
      (λ h. after_test sized_four s 5 _ (wholly (expr_kind ed (drop 9 s))) (λ l. one_test _ (expr_kind ed) (drop 9 s)) (λ l. kind_short (omega arith)))
      (λ h. kind_short (omega arith))

  pub node_test : 10 ≤ length s → is_frame ed (Some node) (drop 1 s) ≡ get_or node_tests (byte_w s 9) false
  unfolding expr_kinds
  node_test h =
      node_kind
      ∙ choice_test
      node_tests
      s
      9
      h
      (plain s 10 h _ (plain s 10 h _ (plain s 10 h _ (number s 10 h _
      (plain s 10 h _ (plain s 10 h _ (number s 10 h _ (row (sized_test (sized_pair _ sized_two sized_byte) s 10 h)
      (listed s 10 h sized_field _ (numbers s 10 h _ (number s 10 h _ (listed s 10 h sized_two _
      (row (one_test _ head_and_body (drop 10 s) ∙ body_test 10)
      (row (sized_test (sized_pair _ (sized_reference ed) sized_two) s 10 h) (listed s 10 h sized_two _ (plain s 10 h _
      (numbers s 10 h _ done)))))))))))))))))

  pub node_body : 12 ≤ length s → byte_w s 9 ≡ 12 → wholly (many statement (slice_range s 12 (length s))) ≡ is_frame ed (Some node) (drop 1 s)
  node_body h e =
      ap (λ t. wholly (many statement t)) (to_end s 12) ∙ sym (ap (λ t. (t && wholly (many statement (drop 12 s)))) (le-leb 12 (length s) h))
      ∙ sym (node_test (omega arith) ∙ ap (λ b. get_or node_tests b false) e)

  pub node_short : length s < 10 → is_frame ed (Some node) (drop 1 s) ≡ false
  node_short h = node_kind ∙ kind_short (omega arith)

-- What each kind's function is proved by.
pub ruleset types = (type_test_lem, type_short, get_or-eq_default, lt-leb)

pub ruleset predicates = (predicate_test, predicate_short, get_or-eq_default, lt-leb)

pub ruleset nodes = (node_test, node_body, node_short, get_or-eq_default, lt-leb)

pub ruleset queries = (query_test, query_body, lt-leb)

pub ruleset kinds = (limits_test, name_test_lem)

pub ruleset filling = (fill_done, fill_none, fill_short, fill_on)
