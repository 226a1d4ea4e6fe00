-- Where the queries of a file stand: its lines are frames of the schema, none of them a node or a query, and then the frames of each query.
-- What a second walk over the file needs to find the k-th query again.
use mathlib.Core.List.{List, [], ◌∷◌, ◌++◌, map, flat_map}
use mathlib.Core.Path.{◌≡◌, sym, ap, ◌∙◌}
use Prim.Native.Nat.{ℕ, ◌<◌}
use native.Mathlib.Omega.{arith}
use Rattle.format.specs.Lines.{lines}
use Rattle.format.specs.Frame.{wide, node, kind_byte, Frame, a_name, a_type, frame_kind}
use Rattle.format.specs.SoFar.{frames, said}
use Rattle.format.specs.File.{Form, described, reading}
use Rattle.format.specs.All.{All}
use Rattle.format.specs.Content.{predicate_frame, query_frames, Content, schema_frames, frames_of, describes}
use Rattle.format.proofs.Lists.{all_append}
use Rattle.format.proofs.Written.{file_lines}
use Rattle.format.proofs.Content.{says_exactly}

-- before the nodes: the limits, a name, a type or a predicate
abbrev pub Early : Frame → Type 0
Early g = kind_byte (frame_kind g) < kind_byte node

-- The file's lines are these frames of the schema, and then those of each query.
pub record Lined (file : List ℕ) (f : Form) : Type 0 where
  pub schema : List Frame
  pub early : All Early schema
  pub are : map (said wide) (lines file) ≡ map frames (schema ++ flat_map query_frames f.queries)

all_made : {A : Type 0} (make : A → Frame) → ((a : A) → Early (make a)) → (l : List A) → All Early (map make l)
all_made make e [] = tt
all_made make e (a ∷ l) = (e a, all_made make e l)

schema_early : (c : Content) → All Early (schema_frames c)
unfolding schema_frames kind_byte frame_kind
schema_early c = (
  omega arith,
  all_append Early (map a_name c.names) (map a_type c.types ++ map predicate_frame c.predicates) (all_made a_name (λ s. omega arith) c.names)
      (all_append Early (map a_type c.types) (map predicate_frame c.predicates) (all_made a_type (λ t. omega arith) c.types)
      (all_made predicate_frame (λ p. omega arith) c.predicates)),
)

pub lined : (file : List ℕ) (f : Form) → reading file ≡ described f → Lined file f
unfolding frames_of describes
lined file f e =
    let s = (says_exactly wide file f).0 e in
    let c = s.content in
    record {
      schema = schema_frames c;
      early = schema_early c;
      are = ap (λ x. map (said wide) (lines x)) s.is ∙ file_lines wide (frames_of c) s.lawful.writable ∙ ap
          (λ x. map frames (schema_frames c ++ flat_map query_frames x.queries)) (sym s.tree);
    }
