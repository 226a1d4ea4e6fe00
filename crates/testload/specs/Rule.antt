-- Card 11: "A rule that you state turns the words from the 56th on into schema and query lines." Each choice has a place of its own among the words
-- and picks one of sixteen by the word's four high bits; what a line refers to does not depend on the words. docs/FORMAT.md ("Test load") has the
-- same rule line by line.
use mathlib.Core.List.{List, [], ◌∷◌, ◌++◌, map}
use Rattle.std.specs.Prelude.{ℕ, zero, suc, ◌+◌, ◌-◌, ◌*◌, ◌/◌, ◌%◌, None, Option, Some}
use Rattle.std.proofs.Math.ListN.{get_or}
use Rattle.unification.specs.Ty.{Int, String, Bytes, Fact}
use Rattle.format.specs.Syntax.{Field, QueryStmt, Query, Literal, ExprKind, Node, Ast}
use Rattle.format.specs.Syntax.ExprKind.{Lit, Var, Wildcard, Never, Prefix, Fuzzy, Record, Access, Disjunction, Subquery, Arith, Error, Select}
use Rattle.format.specs.Syntax.QueryStmt.{Bind, Deny, Compare, Implicit, Negation}
use Rattle.format.specs.Syntax.FieldRef.{Key, Value}
use Rattle.format.specs.Bytes.{ascii}
use Rattle.format.specs.Frame.{wide, Alternative, TypeShape, a_leaf, a_record, a_union}
use Rattle.format.specs.Writing.{file_of}
use Rattle.format.specs.Content.{PredicateFrame, Content, frames_of}
use Rattle.testload.specs.Words.{words}

-- ---- The tables

pub record Limits : Type 0 where
  pub distance : ℕ
  pub characters : ℕ

abbrev pub limit : ℕ → ℕ → Limits
limit d t = record { distance = d; characters = t }

infix 80 ◌is◌
abbrev pub ◌is◌ : ℕ → ℕ → Field
n is v = record { name = n; value = v }

abbrev pub alternative : ℕ → ℕ → ℕ → Alternative
alternative n d t = record { name = n; discriminant = d; type = t }

abbrev pub predicate : ℕ → ℕ → Option ℕ → PredicateFrame
predicate n k v = record { name = n; key = k; value = v }

abbrev pub query : ℕ → List QueryStmt → Query
query h b = record { head = h; body = b }

-- largest fuzzy distance, largest term length in characters
unfoldable pub limits : List Limits
limits =
    limit 2 32 ∷
    limit 2 32 ∷
    limit 2 4 ∷
    limit 1 32 ∷
    limit 3 32 ∷
    limit 2 8 ∷
    limit 0 0 ∷
    limit 255 65535 ∷
    limit 2 32 ∷
    limit 2 21 ∷
    limit 2 20 ∷
    limit 1 1 ∷
    limit 2 32 ∷
    limit 3 4 ∷
    limit 2 65535 ∷
    limit 1 21 ∷
    []

-- no choice: each file has all of them, the last of 21 characters
unfoldable pub names : List (List ℕ)
unfolding ascii
names =
    ascii "a" ∷
    ascii "b" ∷
    ascii "c" ∷
    ascii "d" ∷
    ascii "value" ∷
    ascii "x" ∷
    ascii "y" ∷
    ascii "z" ∷
    (0xc3 ∷ 0xa9 ∷ []) ∷
    (0xe2 ∷ 0x82 ∷ 0xac ∷ []) ∷
    (0xf0 ∷ 0x9d ∷ 0x84 ∷ 0x9e ∷ []) ∷
    [] ∷
    ascii "twenty-one characters" ∷
    []

-- types 0 to 2, no choice
unfoldable pub base : List TypeShape
base =
    a_leaf Int ∷
    a_leaf String ∷
    a_leaf Bytes ∷
    []

-- types 3 to 5, over types 0 to 2
unfoldable pub simple : List TypeShape
simple =
    a_record (0 is 0 ∷ 1 is 1 ∷ []) ∷
    a_record (1 is 1 ∷ 0 is 0 ∷ []) ∷
    a_record (0 is 0 ∷ []) ∷
    a_record [] ∷
    a_union (alternative 0 1 0 ∷ alternative 1 2 1 ∷ []) ∷
    a_union (alternative 1 2 1 ∷ alternative 0 1 0 ∷ []) ∷
    a_union (alternative 0 1 0 ∷ alternative 1 3 1 ∷ []) ∷
    a_union (alternative 0 1 0 ∷ alternative 2 2 1 ∷ []) ∷
    a_union (alternative 0 1 1 ∷ alternative 1 2 1 ∷ []) ∷
    a_union [] ∷
    a_leaf (Fact 0) ∷
    a_leaf (Fact 1) ∷
    a_leaf (Fact 65536) ∷
    a_record (4 is 0 ∷ 2 is 2 ∷ []) ∷
    a_record (0 is 1 ∷ 1 is 0 ∷ []) ∷
    a_union (alternative 0 0xffffffff 2 ∷ []) ∷
    []

-- types 6 to 8, over types 0 to 5
unfoldable pub compound : List TypeShape
compound =
    a_record (0 is 3 ∷ 1 is 4 ∷ []) ∷
    a_record (1 is 4 ∷ 0 is 3 ∷ []) ∷
    a_record (0 is 3 ∷ 1 is 5 ∷ []) ∷
    a_record (4 is 3 ∷ []) ∷
    a_union (alternative 0 1 3 ∷ alternative 1 2 4 ∷ []) ∷
    a_union (alternative 1 2 4 ∷ alternative 0 1 3 ∷ []) ∷
    a_union (alternative 0 1 3 ∷ alternative 1 2 5 ∷ []) ∷
    a_union (alternative 0 1 4 ∷ []) ∷
    a_leaf (Fact 2) ∷
    a_leaf (Fact 4294967295) ∷
    a_record (0 is 5 ∷ []) ∷
    a_record (0 is 0 ∷ 1 is 1 ∷ []) ∷
    a_union (alternative 0 1 0 ∷ alternative 1 2 1 ∷ []) ∷
    a_record (2 is 3 ∷ 3 is 1 ∷ []) ∷
    a_record (1 is 1 ∷ 0 is 0 ∷ []) ∷
    a_union (alternative 1 2 1 ∷ alternative 0 1 0 ∷ []) ∷
    []

unfoldable pub predicates : List PredicateFrame
predicates =
    predicate 5 6 None ∷
    predicate 6 6 (Some 7) ∷
    predicate 7 7 (Some 8) ∷
    predicate 8 8 None ∷
    predicate 9 3 (Some 4) ∷
    predicate 10 4 (Some 3) ∷
    predicate 8 0 (Some 1) ∷
    predicate 9 1 (Some 0) ∷
    predicate 10 5 (Some 6) ∷
    predicate 11 6 (Some 6) ∷
    predicate 5 7 None ∷
    predicate 6 8 (Some 8) ∷
    predicate 12 3 None ∷
    predicate 4 5 (Some 0) ∷
    predicate 7 4 None ∷
    predicate 0 2 (Some 5) ∷
    []

-- a node that names none
unfoldable pub leaves : List ExprKind
leaves =
    Lit Literal.Int ∷
    Lit Literal.Str ∷
    Lit Literal.Bytes ∷
    Var 5 ∷
    Var 5 ∷
    Var 5 ∷
    Var 6 ∷
    Var 6 ∷
    Var 7 ∷
    Wildcard ∷
    Wildcard ∷
    Never ∷
    Prefix 0 ∷
    Fuzzy 12 2 ∷
    Record [] ∷
    Error ∷
    []

-- a node that names the two before it
unfoldable pub pairs : ℕ → ℕ → List ExprKind
pairs l r =
    Record (0 is l ∷ 1 is r ∷ []) ∷
    Record (0 is l ∷ 1 is r ∷ []) ∷
    Record (1 is l ∷ 0 is r ∷ []) ∷
    Record (1 is l ∷ 0 is r ∷ []) ∷
    Record (2 is l ∷ 3 is r ∷ []) ∷
    Record (0 is l ∷ 0 is r ∷ []) ∷
    Record (0 is l ∷ 2 is r ∷ []) ∷
    Record (4 is l ∷ 2 is r ∷ []) ∷
    Disjunction (l ∷ r ∷ []) ∷
    Disjunction (l ∷ r ∷ []) ∷
    Arith (l ∷ r ∷ []) ∷
    Arith (l ∷ r ∷ []) ∷
    Subquery (query l (Implicit r ∷ [])) ∷
    Subquery (query l (Implicit r ∷ [])) ∷
    Subquery (query l (Negation r ∷ [])) ∷
    Subquery (query l (Negation r ∷ [])) ∷
    []

-- a node that names the one before it
unfoldable pub singles : ℕ → List ExprKind
singles e =
    ExprKind.Fact 0 e ∷
    ExprKind.Fact 1 e ∷
    ExprKind.Fact 2 e ∷
    ExprKind.Fact 3 e ∷
    ExprKind.Fact 0 e ∷
    ExprKind.Fact 1 e ∷
    ExprKind.Fact 65536 e ∷
    Access (Key 0) e ∷
    Access (Key 1) e ∷
    Access Value e ∷
    Select 0 e ∷
    Select 1 e ∷
    Record (0 is e ∷ []) ∷
    Record (1 is e ∷ []) ∷
    Subquery (query e []) ∷
    Subquery (query e []) ∷
    []

-- a query over so many blocks of eight nodes
pub record Plan : Type 0 where
  pub blocks : ℕ
  pub query : Query

unfoldable pub queries : List Plan
queries =
    record { blocks = 1; query = query 6 [] } ∷
    record { blocks = 1; query = query 7 (Implicit 6 ∷ []) } ∷
    record { blocks = 1; query = query 3 [] } ∷
    record { blocks = 1; query = query 7 (Implicit 3 ∷ []) } ∷
    record { blocks = 1; query = query 3 (Bind 7 6 ∷ []) } ∷
    record { blocks = 1; query = query 6 (Bind 7 3 ∷ []) } ∷
    record { blocks = 1; query = query 7 (Bind 3 6 ∷ []) } ∷
    record { blocks = 1; query = query 7 (Negation 3 ∷ Implicit 6 ∷ []) } ∷
    record { blocks = 2; query = query 15 (Bind 7 6 ∷ Compare 3 14 ∷ Implicit 11 ∷ []) } ∷
    record { blocks = 2; query = query 14 (Bind 7 6 ∷ Bind 15 11 ∷ Implicit 3 ∷ []) } ∷
    record { blocks = 2; query = query 7 (Implicit 6 ∷ Implicit 14 ∷ Bind 15 3 ∷ []) } ∷
    record { blocks = 2; query = query 3 (Deny 7 6 ∷ Bind 15 14 ∷ Negation 11 ∷ []) } ∷
    record { blocks = 2; query = query 11 (Implicit 6 ∷ Implicit 14 ∷ Compare 7 15 ∷ []) } ∷
    record { blocks = 3; query = query 23 (Bind 7 6 ∷ Bind 15 14 ∷ Implicit 22 ∷ Implicit 3 ∷ []) } ∷
    record { blocks = 3; query = query 22 (Bind 7 6 ∷ Compare 15 14 ∷ Bind 23 19 ∷ []) } ∷
    record { blocks = 3; query = query 19 (Bind 23 22 ∷ Deny 15 14 ∷ Implicit 6 ∷ []) } ∷
    []

-- how many queries
unfoldable pub counts : List ℕ
counts = 1 ∷ 1 ∷ 1 ∷ 1 ∷ 1 ∷ 1 ∷ 1 ∷ 1 ∷ 1 ∷ 1 ∷ 2 ∷ 2 ∷ 2 ∷ 3 ∷ 3 ∷ 4 ∷ []

-- ---- Choices

-- n numbers from i on
unfoldable pub from : ℕ → ℕ → List ℕ
from i zero = []
from i (suc n) = i ∷ from (suc i) n

-- the words that a file is made of
unfoldable pub word_count : ℕ
word_count = 1440

module _ (ws : List ℕ) where
  -- "from the 1,281st on": the seed enters earlier words with a small factor, so that their high bits are much alike
  unfoldable pub choice : ℕ → ℕ
  choice c = get_or ws (1280 + c) 0 / 0x1000_0000

  -- ---- Nodes

  -- in a block of eight
  unfoldable pub exprs : ℕ → List (List ExprKind)
  unfolding leaves pairs singles
  exprs i = leaves ∷ leaves ∷ pairs (i - 2) (i - 1) ∷ singles (i - 1) ∷ leaves ∷ singles (i - 1) ∷ singles (i - 1) ∷ leaves ∷ []

  -- node i with this choice
  unfoldable pub expr_at : ℕ → ℕ → ExprKind
  unfolding exprs
  expr_at i v = get_or (get_or (exprs i) (i % 8) []) v Error

  -- of query q; spans are the words from the 56th on
  unfoldable pub node_of : ℕ → ℕ → Node
  unfolding expr_at choice
  node_of q i = record {
    span = record { start = get_or ws (55 + 64 * q + 2 * i) 0; end = get_or ws (56 + 64 * q + 2 * i) 0 };
    kind = expr_at i (choice (33 + 32 * q + i));
  }

  unfoldable pub no_plan : Plan
  no_plan = record { blocks = 1; query = query 6 [] }

  unfoldable pub plan_of : ℕ → Plan
  unfolding queries choice no_plan
  plan_of q = get_or queries (choice (32 + 32 * q)) no_plan

  unfoldable pub query_of : ℕ → Ast
  unfolding plan_of node_of from
  query_of q = record { nodes = map (node_of q) (from 0 (8 * (plan_of q).blocks)); query = (plan_of q).query }

  -- ---- The schema: the line with number l, from 0, has the choice l

  unfoldable pub limits_of : Limits
  unfolding limits choice
  limits_of = get_or limits (choice 0) (limit 0 0)

  unfoldable pub simple_of : ℕ → TypeShape
  unfolding simple choice
  simple_of l = get_or simple (choice l) (a_record [])

  unfoldable pub compound_of : ℕ → TypeShape
  unfolding compound choice
  compound_of l = get_or compound (choice l) (a_record [])

  unfoldable pub predicate_of : ℕ → PredicateFrame
  unfolding predicates choice
  predicate_of l = get_or predicates (choice l) (predicate 0 0 None)

  unfoldable pub count_of : ℕ
  unfolding counts choice
  count_of = get_or counts (choice 27) 1

  unfoldable pub content_of : Content
  unfolding limits_of names base simple_of compound_of predicate_of count_of query_of from
  content_of = record {
    max_distance = limits_of.distance;
    max_term_chars = limits_of.characters;
    names = names;
    types = base ++ (map simple_of (from 17 3) ++ map compound_of (from 20 3));
    predicates = map predicate_of (from 23 4);
    queries = map query_of (from 0 count_of);
  }

-- The file of a seed.
unfoldable pub load_file : ℕ → List ℕ
unfolding file_of frames_of content_of words word_count
load_file seed = file_of wide (frames_of (content_of (words seed word_count)))
