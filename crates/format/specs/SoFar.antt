-- Document 01, "Frame lines": what one line says, what has been read so far, and what a frame adds to it. After a 06 line the nodes
-- start anew (card 3: "Nodes, unknowns and visits start at 0 for each query").
use mathlib.Core.List.{List, [], ◌∷◌, ◌++◌, map, flat_map}
use Rattle.std.specs.Prelude.{ℕ, get_or, None, Option, Some}
use Rattle.unification.specs.Ty.{Record, Union, Ty, leaf, Error, Row, ε, cell}
use Rattle.format.specs.Syntax.{Field, Node, Ast}
use Rattle.format.specs.Schema.{Predicate}
use Rattle.format.specs.Lines.{Line, bytes_of, lines}
use Rattle.format.specs.Frame.{Edition, Kind, limits, name, schema_type, predicate, node, query, kind_of, Alternative, TypeShape, a_leaf, a_record, a_union}
use Rattle.format.specs.Frame.{Frame, the_limits, a_name, a_type, a_predicate, a_node, the_query, frame_of}
use Rattle.format.specs.References.{expr_nodes, texts_of}

-- ---- What a line says in an edition, taken alone

pub data Said : Type 0 where
  -- condition 3
  malformed : Said
  unknown_kind : Said
  -- a kind, with content that is no frame of it
  no_frame : Kind → Said
  frames : Frame → Said

unfoldable pub said_of : Kind → Option Frame → Said
said_of k None = no_frame k
said_of k (Some f) = frames f

unfoldable pub said_in : Edition → Option Kind → List ℕ → Said
unfolding said_of frame_of
said_in e None content = unknown_kind
said_in e (Some k) content = said_of k (frame_of e k content)

unfoldable pub said_by : Edition → Option (List ℕ) → Said
unfolding said_in kind_of
said_by e None = malformed
said_by e (Some []) = malformed
said_by e (Some (k ∷ content)) = said_in e (kind_of k) content

unfoldable pub said : Edition → Line → Said
unfolding said_by bytes_of
said e l = said_by e (bytes_of l)

-- the text that a line gives, if it is a name's
unfoldable pub texts_on : Said → List (List ℕ)
unfolding texts_of
texts_on malformed = []
texts_on unknown_kind = []
texts_on (no_frame k) = []
texts_on (frames f) = texts_of f

-- the texts of a file's name lines, in file order
unfoldable pub texts_in : Edition → List ℕ → List (List ℕ)
unfolding texts_on said lines flat_map
texts_in e file = flat_map texts_on (map (said e) (lines file))

-- ---- What has been read so far, in file order

pub record SoFar : Type 0 where
  -- the kind of the last line
  pub previous : Option Kind
  pub max_distance : ℕ
  pub max_term_chars : ℕ
  -- texts
  pub names : List (List ℕ)
  pub types : List Ty
  pub predicates : List Predicate
  -- of the present query: its nodes, and those that a frame has named
  pub nodes : List Node
  pub named : List ℕ
  -- the queries that a 06 line has ended
  pub queries : List Ast

unfoldable pub start : SoFar
start = record { previous = None; max_distance = 0; max_term_chars = 0; names = []; types = []; predicates = []; nodes = []; named = []; queries = [] }

-- ---- What a frame adds

-- The tree of an earlier type; Error stands for no type and is never reached.
unfoldable pub type_at : List Ty → ℕ → Ty
type_at ts n = get_or ts n Error

unfoldable pub field_row : List Ty → List Field → Row
unfolding type_at
field_row ts [] = ε
field_row ts (f ∷ fs) = cell f.name 0 (type_at ts f.value) (field_row ts fs)

unfoldable pub alternative_row : List Ty → List Alternative → Row
unfolding type_at
alternative_row ts [] = ε
alternative_row ts (a ∷ alts) = cell a.discriminant a.name (type_at ts a.type) (alternative_row ts alts)

unfoldable pub ty_of : List Ty → TypeShape → Ty
unfolding field_row alternative_row
ty_of ts (a_leaf p) = leaf p
ty_of ts (a_record fs) = Ty.node Record (field_row ts fs)
ty_of ts (a_union alts) = Ty.node Union (alternative_row ts alts)

unfoldable pub value_ty : List Ty → Option ℕ → Option Ty
unfolding type_at
value_ty ts None = None
value_ty ts (Some t) = Some (type_at ts t)

unfoldable pub predicate_of : List Ty → ℕ → ℕ → Option ℕ → Predicate
unfolding type_at value_ty
predicate_of ts n k v = record { name = n; key = type_at ts k; value = value_ty ts v }

unfoldable pub add : SoFar → Frame → SoFar
unfolding ty_of predicate_of expr_nodes
add so (the_limits d t) = record so { previous = Some limits; max_distance = d; max_term_chars = t }
add so (a_name s) = record so { previous = Some name; names = so.names ++ s ∷ [] }
add so (a_type t) = record so { previous = Some schema_type; types = so.types ++ ty_of so.types t ∷ [] }
add so (a_predicate n k v) = record so { previous = Some predicate; predicates = so.predicates ++ predicate_of so.types n k v ∷ [] }
add so (a_node n) = record so { previous = Some node; nodes = so.nodes ++ n ∷ []; named = so.named ++ expr_nodes n.kind }
add so (the_query q) = record so { previous = Some query; nodes = []; named = []; queries = so.queries ++ record { nodes = so.nodes; query = q } ∷ [] }

unfoldable pub after : SoFar → Said → SoFar
unfolding add
after so malformed = so
after so unknown_kind = so
after so (no_frame k) = so
after so (frames f) = add so f
