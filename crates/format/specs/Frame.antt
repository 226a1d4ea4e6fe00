-- Document 01, "Frame lines": the six kinds, which may follow which, and what each kind holds, in either edition of card 6. A reference is a
-- number here, whatever it refers to. What is no frame meets condition 6: "unknown shape, flag or statement byte, or frame length wrong for it".
use Rattle.std.specs.Prelude.{Bool, true, false, List, [], ◌∷◌, ℕ, zero, suc, ◌+◌, ◌*◌, eqb, ltb, length, get_or, None, Option, Some, slice_get}
use Rattle.unification.specs.Ty.{Leaf, Int, String, Bytes, Fact}
use Rattle.format.specs.Syntax.{Field, QueryStmt, Query, FieldRef, Literal, ExprKind, Node}

-- Card 6: a predicate reference has two bytes in the narrow edition and four in the wide one. Nothing else differs.
pub data Edition : Type 0 where
  narrow wide : Edition

-- ---- Kinds

pub data Kind : Type 0 where
  limits name schema_type predicate node query : Kind

unfoldable pub kind_byte : Kind → ℕ
kind_byte limits = 0x01
kind_byte name = 0x02
kind_byte schema_type = 0x03
kind_byte predicate = 0x04
kind_byte node = 0x05
kind_byte query = 0x06

unfoldable pub kind_of : ℕ → Option Kind
kind_of b = get_or (None ∷ Some limits ∷ Some name ∷ Some schema_type ∷ Some predicate ∷ Some node ∷ Some query ∷ []) b None

-- Limits stand exactly once, and no query follows a query.
unfoldable pub repeatable : Kind → Bool
repeatable limits = false
repeatable name = true
repeatable schema_type = true
repeatable predicate = true
repeatable node = true
repeatable query = false

-- Within a query and before it the kinds never fall, and one that is not repeatable does not follow itself.
unfoldable pub rises : Kind → Kind → Bool
unfolding kind_byte repeatable
rises p k = elim (ltb (kind_byte p) (kind_byte k)) [ true ↦ true | false ↦ elim (eqb (kind_byte p) (kind_byte k)) [ true ↦ repeatable k | false ↦ false ] ]

-- Card 3: "a line 05, no other, may follow 06".
unfoldable pub follows : Kind → Kind → Bool
unfolding kind_byte rises
follows p k = elim (eqb (kind_byte p) (kind_byte query)) [ true ↦ eqb (kind_byte k) (kind_byte node) | false ↦ rises p k ]

-- A frame of this kind may stand after one of that kind, if any: the first is the limits.
unfoldable pub may_stand : Option Kind → Kind → Bool
unfolding follows kind_byte
may_stand None k = eqb (kind_byte k) (kind_byte limits)
may_stand (Some p) k = follows p k

-- ---- Frames

-- an alternative of a union type
pub record Alternative : Type 0 where
  pub name : ℕ
  pub discriminant : ℕ
  pub type : ℕ

-- A field's value is the number of its type.
pub data TypeShape : Type 0 where
  a_leaf : Leaf → TypeShape
  a_record : List Field → TypeShape
  a_union : List Alternative → TypeShape

pub data Frame : Type 0 where
  -- largest fuzzy distance, largest term length in characters
  the_limits : ℕ → ℕ → Frame
  a_name : List ℕ → Frame
  a_type : TypeShape → Frame
  -- name, key type, value type
  a_predicate : ℕ → ℕ → Option ℕ → Frame
  a_node : Node → Frame
  the_query : Query → Frame

unfoldable pub frame_kind : Frame → Kind
frame_kind (the_limits d t) = limits
frame_kind (a_name s) = name
frame_kind (a_type t) = schema_type
frame_kind (a_predicate n k v) = predicate
frame_kind (a_node n) = node
frame_kind (the_query q) = query

-- ---- Reading

-- A value with the bytes after it, or no such value.
pub data Got (A : Type 0) : Type 0 where
  got : A → List ℕ → Got A
  fails : Got A

abbrev pub Reader : Type 0 → Type 0
Reader A = List ℕ → Got A

unfoldable pub and_then : {A B : Type 0} → Got A → (A → Reader B) → Got B
and_then (got a s) f = f a s
and_then fails f = fails

-- nothing is read
unfoldable pub nothing : {A : Type 0} → A → Reader A
nothing a s = got a s

-- something made of one part, of two and of three
unfoldable pub one : {A B : Type 0} → (A → B) → Reader A → Reader B
unfolding and_then
one make r s = and_then (r s) (λ a. got (make a))

unfoldable pub pair : {A B C : Type 0} → (A → B → C) → Reader A → Reader B → Reader C
unfolding and_then one
pair make r q s = and_then (r s) (λ a. one (make a) q)

unfoldable pub triple : {A B C D : Type 0} → (A → B → C → D) → Reader A → Reader B → Reader C → Reader D
unfolding and_then pair
triple make r q p s = and_then (r s) (λ a. pair (make a) q p)

unfoldable pub byte : Reader ℕ
byte [] = fails
byte (b ∷ s) = got b s

-- numbers of two and of four bytes, big-endian
unfoldable pub two : Reader ℕ
unfolding pair byte
two = pair (λ high low. high * 0x100 + low) byte byte

unfoldable pub four : Reader ℕ
unfolding pair two
four = pair (λ high low. high * 0x10000 + low) two two

-- A list runs to the frame's end. The number bounds its items; each takes a byte at least, so the number of bytes serves.
unfoldable pub many_in : {A : Type 0} → ℕ → Reader A → Reader (List A)
unfolding and_then one
many_in zero r [] = got [] []
many_in zero r (b ∷ s) = fails
many_in (suc n) r [] = got [] []
many_in (suc n) r (b ∷ s) = and_then (r (b ∷ s)) (λ a. one (λ more. a ∷ more) (λ t. many_in n r t))

unfoldable pub many : {A : Type 0} → Reader A → Reader (List A)
unfolding many_in
many r s = many_in (length s) r s

unfoldable pub entry : {A : Type 0} → Option (Reader A) → Reader A
entry None s = fails
entry (Some r) s = r s

-- A byte says how to go on: it is a place in the table.
unfoldable pub choice : {A : Type 0} → List (Reader A) → Reader A
unfolding entry
choice table [] = fails
choice table (b ∷ s) = entry (slice_get table b) s

-- ---- The grammar

-- to a predicate
unfoldable pub reference : Edition → Reader ℕ
unfolding two four
reference narrow = two
reference wide = four

unfoldable pub field : Reader Field
unfolding pair two
field = pair (λ n value. record { name = n; value = value }) two two

unfoldable pub alternative : Reader Alternative
unfolding triple two four
alternative = triple (λ n discriminant type. record { name = n; discriminant = discriminant; type = type }) two four two

unfoldable pub type_shapes : Edition → List (Reader TypeShape)
unfolding nothing one reference many field alternative
type_shapes e =
    -- 00 Int, 01 String, 02 Bytes
    nothing (a_leaf Int) ∷
    nothing (a_leaf String) ∷
    nothing (a_leaf Bytes) ∷
    -- 03 Fact, 04 Record, 05 Union
    one (λ p. a_leaf (Fact p)) (reference e) ∷
    one a_record (many field) ∷
    one a_union (many alternative) ∷
    []

-- 00 none, 01 one
unfoldable pub value_types : List (Reader (Option ℕ))
unfolding nothing one two
value_types = nothing None ∷ one Some two ∷ []

unfoldable pub statements : List (Reader QueryStmt)
unfolding one pair two
statements =
    -- 00 Bind, 01 Implicit, 02 Negation, 03 Deny, 04 Compare
    pair QueryStmt.Bind two two ∷
    one QueryStmt.Implicit two ∷
    one QueryStmt.Negation two ∷
    pair QueryStmt.Deny two two ∷
    pair QueryStmt.Compare two two ∷
    []

unfoldable pub head_and_body : Reader Query
unfolding pair two many choice statements
head_and_body = pair (λ head body. record { head = head; body = body }) two (many (choice statements))

unfoldable pub expr_kinds : Edition → List (Reader ExprKind)
unfolding nothing one pair two byte many field head_and_body reference
expr_kinds e =
    -- 00, 01, 02 integer, string, bytes literal
    nothing (ExprKind.Lit Literal.Int) ∷
    nothing (ExprKind.Lit Literal.Str) ∷
    nothing (ExprKind.Lit Literal.Bytes) ∷
    -- 03 Var, 04 Wildcard, 05 Never, 06 Prefix, 07 Fuzzy
    one ExprKind.Var two ∷
    nothing ExprKind.Wildcard ∷
    nothing ExprKind.Never ∷
    one ExprKind.Prefix two ∷
    pair ExprKind.Fuzzy two byte ∷
    -- 08 Record, 09 key access, 0a value access, 0b Disjunction
    one ExprKind.Record (many field) ∷
    pair (λ n e. ExprKind.Access (FieldRef.Key n) e) two two ∷
    one (ExprKind.Access FieldRef.Value) two ∷
    one ExprKind.Disjunction (many two) ∷
    -- 0c Subquery, 0d Fact, 0e Arith, 0f Error, 10 Select
    one ExprKind.Subquery head_and_body ∷
    pair ExprKind.Fact (reference e) two ∷
    one ExprKind.Arith (many two) ∷
    nothing ExprKind.Error ∷
    pair ExprKind.Select two two ∷
    []

unfoldable pub span_and_kind : Edition → Reader Node
unfolding triple four choice expr_kinds
span_and_kind e = triple (λ start end kind. record { span = record { start = start; end = end }; kind = kind }) four four (choice (expr_kinds e))

unfoldable pub rest : Reader (List ℕ)
rest s = got s []

unfoldable pub frame : Edition → Kind → Reader Frame
unfolding one pair triple byte two rest choice type_shapes value_types span_and_kind head_and_body
frame e limits = pair the_limits byte two
frame e name = one a_name rest
frame e schema_type = one a_type (choice (type_shapes e))
frame e predicate = triple a_predicate two two (choice value_types)
frame e node = one a_node (span_and_kind e)
frame e query = one the_query head_and_body

-- a frame has no byte left over
unfoldable pub whole : {A : Type 0} → Got A → Option A
whole (got a []) = Some a
whole (got a (b ∷ s)) = None
whole fails = None

-- The frame that a kind's content is; none where condition 6 is met.
unfoldable pub frame_of : Edition → Kind → List ℕ → Option Frame
unfolding frame whole
frame_of e k s = whole (frame e k s)
