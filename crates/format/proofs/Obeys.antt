-- The rules as they are met line by line: what a frame obeys after what was read so far, and a file of such frames. A means to `says_exactly`.
use mathlib.Core.Bool.{true}
use mathlib.Core.List.{List, [], ◌∷◌}
use mathlib.Core.Path.{◌≡◌}
use Prim.Native.Nat.{ℕ, ◌<◌, ◌≤◌}
use lib.ListN.{length}
use Rattle.text.specs.Utf8.{Text}
use Rattle.format.specs.Frame.{Edition, Kind, limits, name, schema_type, predicate, node, query, may_stand, Frame, frame_kind}
use Rattle.format.specs.References.{name_refs, type_refs, node_refs, texts_of, keys_of}
use Rattle.format.specs.SoFar.{SoFar, add, start}
use Rattle.format.specs.Conditions.{max_names, max_types, max_predicates, max_nodes, max_queries}
use Rattle.format.specs.File.{Form, describe, max_file}
use Rattle.format.specs.All.{All, Absent, Distinct, Below}
use Rattle.format.specs.Writing.{Writable, file_of}
use Rattle.std.specs.Prelude.{Some}

-- one more of the kind is allowed
abbrev pub Room : SoFar → Kind → Type 0
Room so limits = Unit {0}
Room so name = length so.names < max_names
Room so schema_type = length so.types < max_types
Room so predicate = length so.predicates < max_predicates
Room so node = length so.nodes < max_nodes
Room so query = length so.queries < max_queries

-- A frame may come next.
pub record Obeys (so : SoFar) (f : Frame) : Type 0 where
  pub placed : may_stand so.previous (frame_kind f) ≡ true
  pub room : Room so (frame_kind f)
  pub text : All (λ s. (n : ℕ) × Text s n) (texts_of f)
  pub new : All (λ s. Absent s so.names) (texts_of f)
  pub names : Below (length so.names) (name_refs f)
  pub types : Below (length so.types) (type_refs f)
  pub nodes : Below (length so.nodes) (node_refs f)
  pub unnamed : All (λ n. Absent n so.named) (node_refs f)
  pub once : Distinct (node_refs f)
  pub keys : Distinct (keys_of f)

-- The frames may come one after the other, from what was read so far to what is read then.
pub data Rules : SoFar → List Frame → SoFar → Type 0 where
  done : {so : SoFar} → Rules so [] so
  next : {so end : SoFar} {f : Frame} {fs : List Frame} → Obeys so f → Rules (add so f) fs end → Rules so (f ∷ fs) end

-- The file is what frames that obey the rules are written as, and d is what they describe.
pub record Written (e : Edition) (file : List ℕ) (d : Form) : Type 0 where
  pub these : List Frame
  pub is : file ≡ file_of e these
  pub size : length file ≤ max_file
  pub writable : All (Writable e) these
  pub end : SoFar
  pub rules : Rules start these end
  pub last : end.previous ≡ Some Kind.query
  pub describes : d ≡ describe end
