-- What the work slice holds after a file was read, together with the file's text: the schema and the tree that it
-- describes. The checker builds on this.
use Rattle.std.specs.Prelude.{List, [], ◌∷◌, ◌≡◌, ℕ, suc, ◌+◌, ◌*◌, ◌/◌, ◌%◌, ◌≤◌, ◌<◌, T, eqb, length, get_or, None, Option, Some}
use Rattle.unification.specs.Ty as Tree
use Rattle.work.specs.Layout.{NAME-COUNT, TYPE-COUNT, PREDICATE-COUNT, NODE-COUNT, VALUE-NAME, MAX-DISTANCE, MAX-TERM, QUERY, NAMES, TYPES, PREDICATES, NODES}
use Rattle.work.specs.Layout.{FIELDS, RECORD-COUNT, END}
use Rattle.cells.specs.declared.Kind.{Kind}
use Rattle.cells.specs.Words.{pick, declared_w, count_w, first_w, part_w}
use Rattle.cells.specs.Stands.{Rows, tree, tag_of, row_w, part_words}
use Rattle.format.specs.Syntax.{Node, Query, node_at}
use Rattle.format.specs.Schema.{Predicate, Schema}
use Rattle.format.specs.Frame.{Edition, wide, a_node, the_query, node, query, frame_of}
use Rattle.format.specs.File.{Described}
use Rattle.sigla_hex.specs.Digits.{line_at}

-- ---- Lines that the slice points at

-- A line of this kind and content stands at a place, and has so many bytes.
pub record LineIs (f : List ℕ) (at size kind : ℕ) (content : List ℕ) : Type 0 where
  pub line : line_at f at ≡ Some (kind ∷ content)
  pub long : size ≡ length (kind ∷ content)

-- in a file of this edition
pub record NodeIn (e : Edition) (f w : List ℕ) (n : ℕ) (nd : Node) : Type 0 where
  pub content : List ℕ
  pub line : LineIs f (get_or w (NODES + n) 0 / 2048) (get_or w (NODES + n) 0 / 2 % 1024) 0x05 content
  pub frame : frame_of e node content ≡ Some (a_node nd)

abbrev pub NodeIs : List ℕ → List ℕ → ℕ → Node → Type 0
NodeIs f w n nd = NodeIn wide f w n nd

pub record QueryIs (f w : List ℕ) (q : Query) : Type 0 where
  pub content : List ℕ
  pub line : LineIs f (get_or w QUERY 0 / 1024) (get_or w QUERY 0 % 1024) 0x06 content
  pub frame : frame_of wide query content ≡ Some (the_query q)

-- ---- The schema

-- The cells of the first n schema types: each is what its words say, over T, names only earlier types and has its
-- parts in their region. No type is an unknown.
pub record TypeCells (w : List ℕ) (T : Rows) (n : ℕ) : Type 0 where
  pub row : (k : Kind) (c : ℕ) → c < n → get_or w (TYPES + 2 * c) 0 % 16 ≡ tag_of k → T c ≡ row_w T w k c
  pub earlier : (k : Kind) (c j : ℕ) → c < n → get_or w (TYPES + 2 * c) 0 % 16 ≡ tag_of k → j < count_w w c → (t : ℕ) × (t < c)
      × ((part_w w k c j).ty ≡ declared_w w t)
  pub fits : (k : Kind) (c : ℕ) → c < n → get_or w (TYPES + 2 * c) 0 % 16 ≡ tag_of k → FIELDS + (first_w w c + part_words k * count_w w c) ≤ RECORD-COUNT
  pub tags : (c : ℕ) → c < n → get_or w (TYPES + 2 * c) 0 % 16 < 7

abbrev pub value_of : Rows → List ℕ → ℕ → Option Tree.Ty
value_of T w x = pick (eqb (x % 2) 1) (Some (tree T (declared_w w (x / 2 % 256)))) None

pub record PredicateIs (w : List ℕ) (T : Rows) (n : ℕ) (p : ℕ) (d : Predicate) : Type 0 where
  pub name : d.name ≡ get_or w (PREDICATES + p) 0 / 131072
  pub key : d.key ≡ tree T (declared_w w (get_or w (PREDICATES + p) 0 / 512 % 256))
  pub value : d.value ≡ value_of T w (get_or w (PREDICATES + p) 0)
  pub key_there : get_or w (PREDICATES + p) 0 / 512 % 256 < n
  pub value_there : get_or w (PREDICATES + p) 0 % 2 ≡ 1 → get_or w (PREDICATES + p) 0 / 2 % 256 < n

unfoldable pub no_predicate : Predicate
no_predicate = record { name = 0; key = Tree.Error; value = None }

-- one more than a number, or 0 for none
abbrev pub numbered : Option ℕ → ℕ
numbered None = 0
numbered (Some n) = suc n

-- A name's word has the place of its line, which has its text.
abbrev pub NameIs : List ℕ → List ℕ → ℕ → List ℕ → Type 0
NameIs f w n text = line_at f (get_or w (NAMES + n) 0 / 512) ≡ Some (0x02 ∷ text)

-- The schema and the names' texts.
pub record SchemaStands (f w : List ℕ) (T : Rows) (ts : List (List ℕ)) (s : Schema) : Type 0 where
  pub types : get_or w TYPE-COUNT 0 ≤ 256
  pub cells : TypeCells w T (get_or w TYPE-COUNT 0)
  pub predicates : get_or w PREDICATE-COUNT 0 ≡ length s.predicates
  pub predicate : (p : ℕ) → p < length s.predicates → PredicateIs w T (get_or w TYPE-COUNT 0) p (get_or s.predicates p no_predicate)
  pub value : get_or w VALUE-NAME 0 ≡ numbered s.value_field
  pub names : get_or w NAME-COUNT 0 ≡ length s.characters
  pub texts : length ts ≡ length s.characters
  pub name : (n : ℕ) → n < length ts → NameIs f w n (get_or ts n [])
  pub characters : (n : ℕ) → n < length s.characters → get_or w (NAMES + n) 0 % 512 ≡ get_or s.characters n 0
  pub distance : get_or w MAX-DISTANCE 0 ≡ s.max_distance
  pub term : get_or w MAX-TERM 0 ≡ s.max_term_chars

-- ---- The whole
pub record Stands (f w : List ℕ) (T : Rows) (d : Described) : Type 0 where
  pub long : END ≤ length w
  pub schema : SchemaStands f w T d.names d.schema
  pub nodes : get_or w NODE-COUNT 0 ≡ length d.ast.nodes
  pub few : length d.ast.nodes ≤ 512
  pub node : (n : ℕ) → n < length d.ast.nodes → NodeIs f w n (node_at d.ast.nodes n)
  pub query : QueryIs f w d.ast.query
