-- Small contents on which the laws say something.
use Rattle.std.specs.Prelude.{List, [], ◌∷◌, map, ℕ, None, Some}
use Rattle.unification.specs.Ty.{Leaf}
use Rattle.format.specs.Syntax.{QueryStmt, FieldRef, Literal, ExprKind, Node, Ast}
use Rattle.meaning.specs.Diag.{Code, Message, code_of}
use Rattle.format.specs.Frame.{a_leaf, a_record}
use Rattle.meaning.specs.Check.{Checked, typed, exhausted}
use Rattle.format.specs.Content.{Content}
use Rattle.laws.specs.Growth.{grow}

abbrev pub shape : ExprKind → Node
shape k = record { span = record { start = 0; end = 0 }; kind = k }

-- The codes of each query's answer.
abbrev pub codes_of : Checked → List Code
codes_of (typed t) = map (λ d. code_of d.message) t.diagnostics
codes_of exhausted = []

abbrev pub all_codes : List Checked → List (List Code)
all_codes l = map codes_of l

-- 1 < 1, which makes two visits: one unification and one question for the order.
abbrev pub one_compared : Ast
one_compared = record {
  nodes = shape (ExprKind.Lit Literal.Int) ∷ shape (ExprKind.Lit Literal.Int) ∷ shape (ExprKind.Lit Literal.Int) ∷ [];
  query = record { head = 2; body = QueryStmt.Compare 0 1 ∷ [] };
}

abbrev pub comparing : Content
comparing = record {
  max_distance = 2;
  max_term_chars = 32;
  names = [];
  types = [];
  predicates = [];
  queries = one_compared ∷ [];
}

-- A fuzzy term of two characters where one is allowed, and `.value` of a fact whose key has a field called `value`.
abbrev pub named : List (List ℕ) → Content
named texts = record {
  max_distance = 2;
  max_term_chars = 1;
  names = texts;
  types = a_leaf Leaf.Int ∷ a_record (record { name = 1; value = 0 } ∷ []) ∷ [];
  predicates = record { name = 0; key = 1; value = Some 0 } ∷ [];
  queries = record {
    nodes = shape (ExprKind.Fuzzy 0 1) ∷ shape ExprKind.Wildcard ∷ shape (ExprKind.Fact 0 1) ∷ shape (ExprKind.Access FieldRef.Value 2) ∷ [];
    query = record { head = 3; body = QueryStmt.Implicit 0 ∷ [] };
  } ∷ [];
}

-- The same with terms of two characters allowed.
abbrev pub roomier : Content → Content
roomier c = record { max_distance = c.max_distance; max_term_chars = 2; names = c.names; types = c.types; predicates = c.predicates; queries = c.queries }

abbrev pub ab : List ℕ
ab = 0x61 ∷ 0x62 ∷ []

-- two characters in four bytes, and one character
abbrev pub accented : List ℕ
accented = 0xc3 ∷ 0xa9 ∷ 0xc3 ∷ 0xa8 ∷ []

-- three characters in six bytes
abbrev pub longer : List ℕ
longer = 0xc3 ∷ 0xa9 ∷ 0xc3 ∷ 0xa8 ∷ 0xc3 ∷ 0xa9 ∷ []

abbrev pub short : List ℕ
short = 0x78 ∷ []

abbrev pub value : List ℕ
value = 0x76 ∷ 0x61 ∷ 0x6c ∷ 0x75 ∷ 0x65 ∷ []

-- Each node but a fuzzy term that has a name.
abbrev pub each_name : List ℕ → Content
each_name text = record {
  max_distance = 2;
  max_term_chars = 1;
  names = text ∷ [];
  types = [];
  predicates = [];
  queries = record {
    nodes =
        shape (ExprKind.Var 0) ∷ shape (ExprKind.Record (record { name = 0; value = 0 } ∷ [])) ∷ shape (ExprKind.Access (FieldRef.Key 0) 1)
        ∷ shape (ExprKind.Select 0 2) ∷ shape (ExprKind.Prefix 0) ∷ [];
    query = record { head = 3; body = QueryStmt.Implicit 4 ∷ [] };
  } ∷ [];
}

-- `.value` of a fact of predicate p, where there is one predicate, without a value. A type names it too.
abbrev pub asking : ℕ → Content
asking p = record {
  max_distance = 2;
  max_term_chars = 32;
  names = ab ∷ short ∷ [];
  types = a_leaf Leaf.Int ∷ a_record (record { name = 1; value = 0 } ∷ []) ∷ a_leaf (Leaf.Fact 0) ∷ [];
  predicates = record { name = 0; key = 1; value = None } ∷ [];
  queries = record {
    nodes = shape ExprKind.Wildcard ∷ shape (ExprKind.Fact p 0) ∷ shape (ExprKind.Access FieldRef.Value 1) ∷ [];
    query = record { head = 2; body = [] };
  } ∷ [];
}

-- The same with the name `value`, a record with such a field, and a predicate keyed by it.
abbrev pub asking_grown : ℕ → Content
asking_grown p = grow (asking p) (value ∷ []) (a_record (record { name = 2; value = 0 } ∷ []) ∷ []) (record { name = 2; key = 3; value = None } ∷ [])

-- ---- Messages with names

-- A fact of predicate p against a number, and a field of it that there is not.
abbrev pub told : ℕ → Ast
told p = record {
  nodes =
      shape ExprKind.Wildcard ∷ shape (ExprKind.Fact p 0) ∷ shape (ExprKind.Lit Literal.Int) ∷ shape ExprKind.Wildcard ∷ shape (ExprKind.Fact p 3)
      ∷ shape (ExprKind.Access (FieldRef.Key 0) 4) ∷ [];
  query = record { head = 5; body = QueryStmt.Compare 1 2 ∷ [] };
}

abbrev pub telling : List (List ℕ) → ℕ → Content
telling names p = record {
  max_distance = 2;
  max_term_chars = 32;
  names = names;
  types = a_leaf Leaf.Int ∷ a_record (record { name = 1; value = 0 } ∷ []) ∷ [];
  predicates = record { name = 0; key = 1; value = None } ∷ [];
  queries = told p ∷ [];
}

abbrev pub before : ℕ → Content
before p = telling (ab ∷ short ∷ []) p

-- two more of each kind
abbrev pub grown : ℕ → Content
grown p = grow (before p) (value ∷ accented ∷ []) (a_record (record { name = 2; value = 0 } ∷ []) ∷ a_record (record { name = 3; value = 2 } ∷ []) ∷ [])
    (record { name = 2; key = 2; value = None } ∷ record { name = 3; key = 3; value = Some 1 } ∷ [])

-- another number of characters too: no term of this query is fuzzy
abbrev pub blackened : ℕ → Content
blackened p = telling (longer ∷ short ∷ []) p

-- The texts of each query's messages.
abbrev pub messages_of : (Message → List ℕ) → Checked → List (List ℕ)
messages_of text (typed t) = map (λ d. text d.message) t.diagnostics
messages_of text exhausted = []

abbrev pub all_texts : (Message → List ℕ) → List Checked → List (List (List ℕ))
all_texts text l = map (messages_of text) l
