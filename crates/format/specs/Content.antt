-- Document 01, "Frame lines", from the writer's side: what a file holds, kind by kind, the rules that this obeys, how it is written, and the
-- schema and trees that it describes. `says_exactly` in proofs/Content.antt: the files that pass 2 to 10 and 13 are exactly these, and describe that.
use mathlib.Core.List.{List, [], ◌∷◌, ◌++◌, map, flat_map}
use Rattle.std.specs.Prelude.{◌≡◌, ℕ, suc, ◌<◌, ◌≤◌, length, Option}
use Rattle.text.specs.Utf8.{Text, characters}
use Rattle.unification.specs.Ty.{Ty}
use Rattle.format.specs.Syntax.{Ast}
use Rattle.format.specs.Schema.{Predicate}
use Rattle.format.specs.Lines.{position}
use Rattle.format.specs.Frame.{Edition, TypeShape, Frame, the_limits, a_name, a_type, a_predicate, a_node, the_query}
use Rattle.format.specs.References.{shape_names, shape_types, shape_keys, optional}
use Rattle.format.specs.SoFar.{ty_of, predicate_of}
use Rattle.format.specs.Conditions.{same_text, max_names, max_types, max_predicates, max_queries}
use Rattle.format.specs.File.{Form, count_of, value_text, max_file}
use Rattle.format.specs.All.{All, Distinct, Below}
use Rattle.format.specs.Writing.{file_of, Writable}
use Rattle.format.specs.Sound.{LawfulQuery}

-- references to a name, a type, and a type or none
pub record PredicateFrame : Type 0 where
  pub name : ℕ
  pub key : ℕ
  pub value : Option ℕ

pub record Content : Type 0 where
  pub max_distance : ℕ
  pub max_term_chars : ℕ
  pub names : List (List ℕ)
  pub types : List TypeShape
  pub predicates : List PredicateFrame
  pub queries : List Ast

-- ---- How it is written

abbrev pub predicate_frame : PredicateFrame → Frame
predicate_frame p = a_predicate p.name p.key p.value

-- a query: its nodes and its 06 line
unfoldable pub query_frames : Ast → List Frame
query_frames a = map a_node a.nodes ++ the_query a.query ∷ []

-- "01 limits, exactly once, first", then the names, the types and the predicates
unfoldable pub schema_frames : Content → List Frame
schema_frames c = the_limits c.max_distance c.max_term_chars ∷ map a_name c.names ++ (map a_type c.types ++ map predicate_frame c.predicates)

unfoldable pub frames_of : Content → List Frame
unfolding schema_frames flat_map query_frames
frames_of c = schema_frames c ++ flat_map query_frames c.queries

-- ---- The rules

-- Each type refers to types before it; the first of the list has this number.
abbrev pub TypesBefore : ℕ → List TypeShape → Type 0
TypesBefore i [] = Unit {0}
TypesBefore i (t ∷ ts) = Below i (shape_types t) × TypesBefore (suc i) ts

pub record Lawful (e : Edition) (c : Content) : Type 0 where
  pub names_max : length c.names ≤ max_names
  pub types_max : length c.types ≤ max_types
  pub predicates_max : length c.predicates ≤ max_predicates
  pub texts : All (λ s. (n : ℕ) × Text s n) c.names
  pub distinct : Distinct c.names
  pub type_names : All (λ t. Below (length c.names) (shape_names t)) c.types
  pub type_types : TypesBefore 0 c.types
  pub type_keys : All (λ t. Distinct (shape_keys t)) c.types
  pub predicate_names : All (λ p. p.name < length c.names) c.predicates
  pub predicate_types : All (λ p. Below (length c.types) (p.key ∷ optional p.value)) c.predicates
  pub queries : All (LawfulQuery (length c.names)) c.queries
  -- "up to 64 queries"
  pub queries_min : 1 ≤ length c.queries
  pub queries_max : length c.queries ≤ max_queries
  pub writable : All (Writable e) (frames_of c)

-- ---- What it describes

-- The types as trees, after those that are there already.
unfoldable pub types_from : List Ty → List TypeShape → List Ty
unfolding ty_of
types_from ts [] = ts
types_from ts (s ∷ ss) = types_from (ts ++ ty_of ts s ∷ []) ss

unfoldable pub predicate_with : List Ty → PredicateFrame → Predicate
unfolding predicate_of
predicate_with ts p = predicate_of ts p.name p.key p.value

unfoldable pub describes : Content → Form
unfolding types_from predicate_with position same_text value_text count_of characters
describes c = record {
  names = c.names;
  schema = record {
    predicates = map (predicate_with (types_from [] c.types)) c.predicates;
    value_field = position (same_text value_text) c.names;
    characters = map (λ s. count_of (characters s)) c.names;
    max_distance = c.max_distance;
    max_term_chars = c.max_term_chars;
  };
  queries = c.queries;
}

-- The file holds this, and so describes d.
pub record Says (e : Edition) (file : List ℕ) (d : Form) : Type 0 where
  pub content : Content
  pub is : file ≡ file_of e (frames_of content)
  pub size : length file ≤ max_file
  pub lawful : Lawful e content
  pub tree : d ≡ describes content
