-- The rule's tables, row by row, by tests that are computed over each table.
use mathlib.Core.Bool.{Bool, true, false, not}
use mathlib.Core.List.{List, [], ◌∷◌, ◌++◌, flat_map}
use mathlib.Core.Path.{◌≡◌, refl, sym}
use Prim.Native.Nat.{ℕ, zero, suc, ◌-◌, ◌*◌, ◌%◌, ◌<◌, ◌≤◌}
use native.Mathlib.Nat.{not-suc-le-zero, le_of_suc-le-suc}
use native.Mathlib.Omega.{arith}
use lib.Dec.{leb}
use lib.ListN.{length, get_or}
use borrow.Author.Tests.{leb-true, not-true}
use borrow.Author.Rules.{rules}
use Rattle.text.specs.Utf8.{Text, characters}
use Rattle.text.proofs.Grammar.{counts as counted}
use Rattle.format.specs.Syntax.{ExprKind}
use Rattle.format.specs.References.{shape_names, shape_types, shape_keys, optional, field_names, field_values, stmt_nodes, query_nodes, expr_names, expr_nodes}
use Rattle.format.specs.Bytes.{ascii, bytes₂, bytes₄}
use Rattle.format.specs.Frame.{wide, TypeShape}
use Rattle.format.specs.Conditions.{any_of, all_below, among, again, same_text, given}
use Rattle.format.specs.All.{All, Distinct, Below, Each}
use Rattle.format.specs.Content.{PredicateFrame}
use Rattle.format.specs.Writing.{as_field, as_alternative, as_reference, as_shape, as_statement, as_query, as_expr, Byte, InTwo, ShapeFits}
use Rattle.format.specs.Writing.{QueryFits, ExprFits}
use Rattle.format.proofs.Lists.{all_at}
use Rattle.format.proofs.Tests.{clash, below_all, again_distinct, given_absent}
use Rattle.testload.specs.Rule.{Limits, limits, names, base, simple, compound, predicates, leaves, pairs, singles, exprs, expr_at, Plan, queries}
use Rattle.testload.specs.Rule.{counts, from}
use Rattle.std.specs.Prelude.{◌&&◌, None, Option, Some}
use Rattle.std.proofs.lemmas.Bool.{and_parts, agree_below, agree_below_at}

-- ---- What is asked of a row

-- of a type that may refer to this many types before it
pub record TypeRow (before : ℕ) (t : TypeShape) : Type 0 where
  pub fits : ShapeFits wide t
  pub names : Below 13 (shape_names t)
  pub types : Below before (shape_types t)
  pub keys : Distinct (shape_keys t)
  pub short : length (as_shape wide t) ≤ 23

pub record PredicateRow (p : PredicateFrame) : Type 0 where
  pub name : p.name < 13
  pub types : Below 9 (p.key ∷ optional p.value)

pub record LimitsRow (l : Limits) : Type 0 where
  pub distance : Byte l.distance
  pub characters : InTwo l.characters

pub record NameRow (s : List ℕ) : Type 0 where
  pub text : (n : ℕ) × Text s n
  pub bytes : All Byte s
  pub short : length s ≤ 23

-- of an expression that names just these nodes
pub record ExprRow (named : List ℕ) (e : ExprKind) : Type 0 where
  pub fits : ExprFits wide e
  pub names : Below 13 (expr_names e)
  pub nodes : expr_nodes e ≡ named
  pub short : length (as_expr wide e) ≤ 23

-- ---- A test over a table

all_of : {A : Type 0} → (A → Bool) → List A → Bool
all_of test [] = true
all_of test (a ∷ l) = test a && all_of test l

-- what fits and passes the test is as is asked
rows : {A : Type 0} (F P : A → Type 0) (test : A → Bool) → ((a : A) → F a → test a ≡ true → P a) → (l : List A) → All F l → all_of test l ≡ true → All P l
unfolding all_of
rows F P test f [] a h = tt
rows F P test f (x ∷ l) a h = (f x a.0 (and_parts (test x) (all_of test l) h).0, rows F P test f l a.1 (and_parts (test x) (all_of test l) h).1)

-- ---- Types

type_test : ℕ → TypeShape → Bool
type_test n t = all_below 13 (shape_names t) && (all_below n (shape_types t) && (not (again [] (shape_keys t)) && leb (length (as_shape wide t)) 23))

type_row : (n : ℕ) (t : TypeShape) → ShapeFits wide t → type_test n t ≡ true → TypeRow n t
unfolding type_test
type_row n t f h =
    let a = all_below 13 (shape_names t) in
    let b = all_below n (shape_types t) in
    let c = not (again [] (shape_keys t)) in
    let d = leb (length (as_shape wide t)) 23 in
    let h₁ = (and_parts a (b && (c && d)) h).1 in
    let h₂ = (and_parts b (c && d) h₁).1 in
    record {
      fits = f;
      names = below_all 13 (shape_names t) (and_parts a (b && (c && d)) h).0;
      types = below_all n (shape_types t) (and_parts b (c && d) h₁).0;
      keys = again_distinct [] (shape_keys t) (not-true (again [] (shape_keys t)) (and_parts c d h₂).0);
      short = leb-true (length (as_shape wide t)) 23 (and_parts c d h₂).1;
    }

base_fits : All (ShapeFits wide) base
unfolding base
base_fits = search rules

simple_fits : All (ShapeFits wide) simple
unfolding simple
simple_fits = search rules

compound_fits : All (ShapeFits wide) compound
unfolding compound
compound_fits = search rules

pub base_rows : All (TypeRow 0) base
unfolding base all_of type_test all_below again among any_of shape_names shape_types shape_keys as_shape
base_rows = rows (ShapeFits wide) (TypeRow 0) (type_test 0) (type_row 0) base base_fits refl

pub simple_rows : All (TypeRow 3) simple
unfolding simple all_of type_test all_below again among any_of shape_names shape_types shape_keys field_names field_values as_shape as_field as_alternative
    as_reference bytes₂ bytes₄ flat_map
simple_rows = rows (ShapeFits wide) (TypeRow 3) (type_test 3) (type_row 3) simple simple_fits refl

pub compound_rows : All (TypeRow 6) compound
unfolding compound all_of type_test all_below again among any_of shape_names shape_types shape_keys field_names field_values as_shape as_field as_alternative
    as_reference bytes₂ bytes₄ flat_map
compound_rows = rows (ShapeFits wide) (TypeRow 6) (type_test 6) (type_row 6) compound compound_fits refl

-- ---- Limits, names, predicates

pub limits_rows : All LimitsRow limits
unfolding limits
limits_rows = search rules

pub predicates_rows : All PredicateRow predicates
unfolding predicates optional
predicates_rows = search rules

-- a text of so many bytes at the most
is_text : Option ℕ → Bool
is_text None = false
is_text (Some n) = true

name_test : List ℕ → Bool
name_test s = all_below 0x100 s && (leb (length s) 23 && is_text (characters s))

name_row : (s : List ℕ) → Unit {0} → name_test s ≡ true → NameRow s
unfolding name_test is_text
name_row s u h =
    let a = all_below 0x100 s in
    let b = leb (length s) 23 in
    let c = is_text (characters s) in
    let h₁ = (and_parts a (b && c) h).1 in
    record {
      text = go (characters s) refl (and_parts b c h₁).1;
      bytes = below_all 0x100 s (and_parts a (b && c) h).0;
      short = leb-true (length s) 23 (and_parts b c h₁).0;
    }
  where
    go : (o : Option ℕ) → characters s ≡ o → is_text o ≡ true → (n : ℕ) × Text s n
    go None e t = clash (sym t)
    go (Some n) e t = (n, (counted s n).1 e)

pub names_rows : All NameRow names
unfolding names ascii all_of name_test is_text all_below characters
names_rows = rows (λ s. Unit {0}) NameRow name_test name_row names (search rules) refl

apart : List (List ℕ) → Bool
apart [] = true
apart (s ∷ ss) = not (given ss s) && apart ss

distinct_apart : (ss : List (List ℕ)) → apart ss ≡ true → Distinct ss
unfolding apart
distinct_apart [] h = tt
distinct_apart (s ∷ ss) h =
    let a = not (given ss s) in
    (given_absent ss s (not-true (given ss s) (and_parts a (apart ss) h).0), distinct_apart ss (and_parts a (apart ss) h).1)

pub names_distinct : Distinct names
unfolding names ascii apart given any_of same_text
names_distinct = distinct_apart names refl

-- ---- Expressions

expr_test : ExprKind → Bool
expr_test e = all_below 13 (expr_names e) && leb (length (as_expr wide e)) 23

expr_row : (named : List ℕ) (e : ExprKind) → ExprFits wide e × (expr_nodes e ≡ named) → expr_test e ≡ true → ExprRow named e
unfolding expr_test
expr_row named e f h =
    let a = all_below 13 (expr_names e) in
    let b = leb (length (as_expr wide e)) 23 in
    record {
      fits = f.0;
      nodes = f.1;
      names = below_all 13 (expr_names e) (and_parts a b h).0;
      short = leb-true (length (as_expr wide e)) 23
          (and_parts a b h).1;
    }

both_all : {A : Type 0} (P Q : A → Type 0) (l : List A) → All P l → All Q l → All (λ a. P a × Q a) l
both_all P Q [] a b = tt
both_all P Q (x ∷ l) a b = ((a.0, b.0), both_all P Q l a.1 b.1)

expr_rows : (named : List ℕ) (l : List ExprKind) → All (ExprFits wide) l → All (λ e. expr_nodes e ≡ named) l → all_of expr_test l ≡ true → All (ExprRow named) l
expr_rows named l a b h =
    rows (λ e. ExprFits wide e × (expr_nodes e ≡ named)) (ExprRow named) expr_test (expr_row named) l
    (both_all (ExprFits wide) (λ e. expr_nodes e ≡ named) l a b) h

leaves_fit : All (ExprFits wide) leaves
unfolding leaves
leaves_fit = (
  tt,
  (
    tt,
    (
      tt,
      (
        omega arith,
        (
          omega arith,
          (
            omega arith,
            (
              omega arith,
              (
                omega arith,
                (
                  omega arith,
                  (
                    tt,
                    (
                      tt,
                      (
                        tt,
                        (
                          omega arith,
                          (
                            (omega arith, omega arith),
                            (
                              tt,
                              (tt, tt),
                            ),
                          ),
                        ),
                      ),
                    ),
                  ),
                ),
              ),
            ),
          ),
        ),
      ),
    ),
  ),
)

pairs_fit : (l r : ℕ) → InTwo l → InTwo r → All (ExprFits wide) (pairs l r)
unfolding pairs
pairs_fit l r p q = (
  ((omega arith, p), ((omega arith, q), tt)),
  (
    ((omega arith, p), ((omega arith, q), tt)),
    (
      ((omega arith, p), ((omega arith, q), tt)),
      (
        ((omega arith, p), ((omega arith, q), tt)),
        (
          ((omega arith, p), ((omega arith, q), tt)),
          (
            ((omega arith, p), ((omega arith, q), tt)),
            (
              ((omega arith, p), ((omega arith, q), tt)),
              (
                ((omega arith, p), ((omega arith, q), tt)),
                (
                  (p, (q, tt)),
                  (
                    (p, (q, tt)),
                    (
                      (p, (q, tt)),
                      (
                        (p, (q, tt)),
                        (
                          (p, (q, tt)),
                          (
                            (p, (q, tt)),
                            (
                              (p, (q, tt)),
                              ((p, (q, tt)), tt),
                            ),
                          ),
                        ),
                      ),
                    ),
                  ),
                ),
              ),
            ),
          ),
        ),
      ),
    ),
  ),
)

singles_fit : (e : ℕ) → InTwo e → All (ExprFits wide) (singles e)
unfolding singles
singles_fit e p = (
  (omega arith, p),
  (
    (omega arith, p),
    (
      (omega arith, p),
      (
        (omega arith, p),
        (
          (omega arith, p),
          (
            (omega arith, p),
            (
              (omega arith, p),
              (
                (omega arith, p),
                (
                  (omega arith, p),
                  (
                    p,
                    (
                      (omega arith, p),
                      (
                        (omega arith, p),
                        (
                          ((omega arith, p), tt),
                          (
                            ((omega arith, p), tt),
                            (
                              (p, tt),
                              ((p, tt), tt),
                            ),
                          ),
                        ),
                      ),
                    ),
                  ),
                ),
              ),
            ),
          ),
        ),
      ),
    ),
  ),
)

leaves_name : All (λ e. expr_nodes e ≡ []) leaves
unfolding leaves expr_nodes field_values
leaves_name = (refl, (refl, (refl, (refl, (refl, (refl, (refl, (refl, (refl, (refl, (refl, (refl, (refl, (refl, (refl, (refl, tt))))))))))))))))

pairs_name : (l r : ℕ) → All (λ e. expr_nodes e ≡ l ∷ r ∷ []) (pairs l r)
unfolding pairs expr_nodes field_values query_nodes stmt_nodes
pairs_name l r = (refl, (refl, (refl, (refl, (refl, (refl, (refl, (refl, (refl, (refl, (refl, (refl, (refl, (refl, (refl, (refl, tt))))))))))))))))

singles_name : (e : ℕ) → All (λ x. expr_nodes x ≡ e ∷ []) (singles e)
unfolding singles expr_nodes field_values query_nodes stmt_nodes
singles_name e = (refl, (refl, (refl, (refl, (refl, (refl, (refl, (refl, (refl, (refl, (refl, (refl, (refl, (refl, (refl, (refl, tt))))))))))))))))

pub leaves_rows : All (ExprRow []) leaves
unfolding leaves all_of expr_test all_below expr_names field_names as_expr bytes₂ flat_map
leaves_rows = expr_rows [] leaves leaves_fit leaves_name refl

pub pairs_rows : (l r : ℕ) → InTwo l → InTwo r → All (ExprRow (l ∷ r ∷ [])) (pairs l r)
unfolding pairs all_of expr_test all_below expr_names field_names as_expr as_field as_query as_statement bytes₂ flat_map
pairs_rows l r p q = expr_rows (l ∷ r ∷ []) (pairs l r) (pairs_fit l r p q) (pairs_name l r) refl

pub singles_rows : (e : ℕ) → InTwo e → All (ExprRow (e ∷ [])) (singles e)
unfolding singles all_of expr_test all_below expr_names field_names as_expr as_reference as_field as_query as_statement bytes₂ bytes₄ flat_map
singles_rows e p = expr_rows (e ∷ []) (singles e) (singles_fit e p) (singles_name e) refl

-- ---- Nodes by their place in a block

-- what node i names
pub named_by : ℕ → List (List ℕ)
named_by i = [] ∷ [] ∷ ((i - 2) ∷ (i - 1) ∷ []) ∷ ((i - 1) ∷ []) ∷ [] ∷ ((i - 1) ∷ []) ∷ ((i - 1) ∷ []) ∷ [] ∷ []

pub named_at : ℕ → List ℕ
named_at i = get_or (named_by i) (i % 8) []

each_at : {A B : Type 0} (R : A → B → Type 0) (l : List A) (m : List B) → Each R l m → (n : ℕ) (d : A) (d' : B) → n < length l
    → R (get_or l n d) (get_or m n d')
each_at R [] [] e n d d' h = absurd (not-suc-le-zero h)
each_at R (a ∷ l) (b ∷ m) e zero d d' h = e.0
each_at R (a ∷ l) (b ∷ m) e (suc n) d d' h = each_at R l m e.1 n d d' (le_of_suc-le-suc h)
each_at {A = A} {B = B} R [] (b ∷ m) e n d d' h = elim e [ ]
each_at {A = A} {B = B} R (a ∷ l) [] e n d d' h = elim e [ ]

-- a table of sixteen expressions that name just these nodes
record Sixteen (l : List ExprKind) (named : List ℕ) : Type 0 where
  all : All (ExprRow named) l
  sixteen : length l ≡ 16

leaves_sixteen : Sixteen leaves []
unfolding leaves
leaves_sixteen = record { all = leaves_rows; sixteen = refl }

pairs_sixteen : (l r : ℕ) → InTwo l → InTwo r → Sixteen (pairs l r) (l ∷ r ∷ [])
unfolding pairs
pairs_sixteen l r p q = record { all = pairs_rows l r p q; sixteen = refl }

singles_sixteen : (e : ℕ) → InTwo e → Sixteen (singles e) (e ∷ [])
unfolding singles
singles_sixteen e p = record { all = singles_rows e p; sixteen = refl }

pub expr_at_lem : (ws : List ℕ) (i v : ℕ) → InTwo i → v < 16 → ExprRow (named_at i) (expr_at ws i v)
unfolding expr_at exprs named_at named_by
expr_at_lem ws i v h l =
    let s = singles_sixteen (i - 1) (omega arith) in
    let t = each_at Sixteen (exprs ws i) (named_by i)
    (leaves_sixteen, (leaves_sixteen, (pairs_sixteen (i - 2) (i - 1) (omega arith) (omega arith), (s, (leaves_sixteen, (s, (s, (leaves_sixteen, tt))))))))
    (i % 8) [] [] (omega arith) in
    all_at (ExprRow (named_at i)) (get_or (exprs ws i) (i % 8) []) v ExprKind.Error t.all (omega (arith, t.sixteen))

-- ---- Queries

-- the nodes that so many blocks name
unfoldable pub named_in : ℕ → List ℕ
named_in n = flat_map named_at (from 0 n)

pub record PlanRow (p : Plan) : Type 0 where
  pub fits : QueryFits p.query
  pub some : 1 ≤ p.blocks
  pub blocks : p.blocks ≤ 3
  pub below : Below (8 * p.blocks) (query_nodes p.query)
  pub once : Distinct (named_in (8 * p.blocks) ++ query_nodes p.query)
  pub short : length (as_query p.query) ≤ 23

plan_test : Plan → Bool
plan_test p = (leb 1 p.blocks && leb p.blocks 3)
    && (all_below (8 * p.blocks) (query_nodes p.query)
    && (not (again [] (named_in (8 * p.blocks) ++ query_nodes p.query)) && leb (length (as_query p.query)) 23))

plan_row : (p : Plan) → QueryFits p.query → plan_test p ≡ true → PlanRow p
unfolding plan_test
plan_row p f h =
    let once = named_in (8 * p.blocks) ++ query_nodes p.query in
    let a = (leb 1 p.blocks && leb p.blocks 3) in
    let b = all_below (8 * p.blocks) (query_nodes p.query) in
    let c = not (again [] once) in
    let d = leb (length (as_query p.query)) 23 in
    let h₁ = (and_parts a (b && (c && d)) h).1 in
    let h₂ = (and_parts b (c && d) h₁).1 in
    record {
      fits = f;
      some = leb-true 1 p.blocks (and_parts (leb 1 p.blocks) (leb p.blocks 3) ((and_parts a (b && (c && d)) h).0)).0;
      blocks = leb-true p.blocks 3 (and_parts (leb 1 p.blocks) (leb p.blocks 3) ((and_parts a (b && (c && d)) h).0)).1;
      below = below_all (8 * p.blocks) (query_nodes p.query) (and_parts b (c && d) h₁).0;
      once = again_distinct [] once (not-true (again [] once) (and_parts c d h₂).0);
      short = leb-true (length (as_query p.query)) 23 (and_parts c d h₂).1;
    }

queries_fit : All (λ p. QueryFits p.query) queries
unfolding queries
queries_fit = (
  (omega arith, tt),
  (
    (omega arith, (omega arith, tt)),
    (
      (omega arith, tt),
      (
        (omega arith, (omega arith, tt)),
        (
          (omega arith, ((omega arith, omega arith), tt)),
          (
            (omega arith, ((omega arith, omega arith), tt)),
            (
              (omega arith, ((omega arith, omega arith), tt)),
              (
                (omega arith, (omega arith, (omega arith, tt))),
                (
                  (omega arith, ((omega arith, omega arith), ((omega arith, omega arith), (omega arith, tt)))),
                  (
                    (omega arith, ((omega arith, omega arith), ((omega arith, omega arith), (omega arith, tt)))),
                    (
                      (omega arith, (omega arith, (omega arith, ((omega arith, omega arith), tt)))),
                      (
                        (omega arith, ((omega arith, omega arith), ((omega arith, omega arith), (omega arith, tt)))),
                        (
                          (omega arith, (omega arith, (omega arith, ((omega arith, omega arith), tt)))),
                          (
                            (omega arith, ((omega arith, omega arith), ((omega arith, omega arith), (omega arith, (omega arith, tt))))),
                            (
                              (omega arith, ((omega arith, omega arith), ((omega arith, omega arith), ((omega arith, omega arith), tt)))),
                              ((omega arith, ((omega arith, omega arith), ((omega arith, omega arith), (omega arith, tt)))), tt),
                            ),
                          ),
                        ),
                      ),
                    ),
                  ),
                ),
              ),
            ),
          ),
        ),
      ),
    ),
  ),
)

pub queries_rows : All PlanRow queries
unfolding queries all_of plan_test all_below again among any_of named_in named_at named_by from query_nodes stmt_nodes as_query as_statement bytes₂ flat_map
queries_rows = rows (λ p. QueryFits p.query) PlanRow plan_test plan_row queries queries_fit refl

pub counts_rows : All (λ n. (1 ≤ n) × (n ≤ 4)) counts
unfolding counts
counts_rows = search rules

-- each names only nodes before it
lower_test : ℕ → Bool
lower_test i = all_below i (named_at i)

lower_tested : agree_below lower_test (λ _. true) 24 ≡ true
unfolding lower_test all_below named_at named_by
lower_tested = refl

pub named_lower : (i : ℕ) → i < 24 → Below i (named_at i)
unfolding lower_test
named_lower i h = below_all i (named_at i) (agree_below_at lower_test (λ _. true) 24 i lower_tested h)
