-- What the functions of src/ promise, in the terms of the definitions of a file's lines and frames.
use Rattle.std.specs.Prelude.{Bool, true, false, List, [], ◌∷◌, ◌≡◌, ℕ, ◌+◌, ◌*◌, ◌<◌, ◌≤◌, length, get_or, take, drop, None, Option, Some, IfSome}
use Rattle.format.specs.Lines.{Line, lines, bytes_of}
use Rattle.format.specs.Syntax.{QueryStmt, ExprKind}
use Rattle.format.specs.Frame as Frame
use Rattle.format.specs.Frame.{may_stand, Got, Reader, choice, TypeShape, type_shapes, value_types, statements, expr_kinds, whole, frame_of}
use Rattle.frames.specs.declared.Kind.{Kind}
use Rattle.frames.specs.declared.Kind.TheVariants.{Limits, Name, SchemaType, Predicate, Node, Query}
use Rattle.frames.specs.declared.Edition.{Edition}
use Rattle.frames.specs.declared.Edition.TheVariants.{Narrow, Wide}

-- ---- Lines

-- The line at a place is well formed, and its bytes are the first n of `line`; the next line starts at `next`.
pub record BytesAt (file : List ℕ) (at : ℕ) (line : List ℕ) (n next : ℕ) : Type 0 where
  pub first : Line
  pub splits : lines (drop at file) ≡ first ∷ lines (drop next file)
  pub bytes : bytes_of first ≡ Some (take n line)
  pub count : length (take n line) ≡ n
  pub some : 0 < n
  pub most : n ≤ 512
  pub on : next ≡ at + 2 * n + 1
  pub within : next ≤ length file

-- The line at a place meets condition 3.
pub record MalformedAt (file : List ℕ) (at : ℕ) : Type 0 where
  pub first : Line
  pub rest : List Line
  pub splits : lines (drop at file) ≡ first ∷ rest
  pub bytes : bytes_of first ≡ None

pub record Decodes (file : List ℕ) (at : ℕ) (line : List ℕ) (r : Option (ℕ × ℕ)) : Type 0 where
  pub room : length line ≡ 512
  pub holds : IfSome r (λ p. BytesAt file at line p.0 p.1)
  pub fails : r ≡ None → at < length file → MalformedAt file at

-- n bytes have room at a place, and the next line starts in the file.
pub record FitsAt (file : List ℕ) (at n next : ℕ) : Type 0 where
  pub some : 0 < n
  pub most : n ≤ 512
  pub on : next ≡ at + 2 * n + 1
  pub within : next ≤ length file

-- Where the line at a place is well formed: its first byte, how many it has, and where the next line starts. Of any
-- other line it may say whatever fits.
pub record PassesOver (file : List ℕ) (at : ℕ) (r : Option (ℕ × ℕ × ℕ)) : Type 0 where
  pub holds : {line : List ℕ} {n next : ℕ} → BytesAt file at line n next → r ≡ Some (get_or line 0 0, n, next)
  pub fits : IfSome r (λ p. FitsAt file at p.1 p.2)

-- ---- Kinds

-- The code's kinds in the definitions' terms.
abbrev pub kind_meant : Kind → Frame.Kind
kind_meant Limits = Frame.limits
kind_meant Name = Frame.name
kind_meant SchemaType = Frame.schema_type
kind_meant Predicate = Frame.predicate
kind_meant Node = Frame.node
kind_meant Query = Frame.query

abbrev pub known : Option Kind → Option Frame.Kind
known None = None
known (Some k) = Some (kind_meant k)

-- an unknown kind may stand nowhere
abbrev pub stands : Option Frame.Kind → Option Frame.Kind → Bool
stands previous None = false
stands previous (Some k) = may_stand previous k

-- ---- Numbers, big-endian, with 0 for each byte past the end

abbrev pub byte_w : List ℕ → ℕ → ℕ
byte_w s i = get_or s i 0

unfoldable pub half_w : List ℕ → ℕ → ℕ
half_w s i = byte_w s i * 256 + byte_w s (i + 1)

unfoldable pub full_w : List ℕ → ℕ → ℕ
unfolding half_w
full_w s i = half_w s i * 65536 + half_w s (i + 2)

-- ---- Editions (card 6)

abbrev pub edition_of : Edition → Frame.Edition
edition_of Narrow = Frame.narrow
edition_of Wide = Frame.wide

-- how many bytes a predicate reference has, and the one at a place
abbrev pub reference_size : Frame.Edition → ℕ
reference_size Frame.narrow = 2
reference_size Frame.wide = 4

abbrev pub reference_w : Frame.Edition → List ℕ → ℕ → ℕ
reference_w Frame.narrow s i = half_w s i
reference_w Frame.wide s i = full_w s i

-- ---- Frames

-- What a first byte says how to read.
abbrev pub type_shape : Frame.Edition → Reader TypeShape
type_shape e = choice (type_shapes e)

abbrev pub value_type : Reader (Option ℕ)
value_type = choice value_types

abbrev pub statement : Reader QueryStmt
statement = choice statements

abbrev pub expr_kind : Frame.Edition → Reader ExprKind
expr_kind e = choice (expr_kinds e)

abbrev pub is_some : {A : Type 0} → Option A → Bool
is_some None = false
is_some (Some a) = true

-- a reader got something, with no byte left over
abbrev pub wholly : {A : Type 0} → Got A → Bool
wholly g = is_some (whole g)

-- The content is a frame of the kind; an unknown kind has none.
abbrev pub is_frame : Frame.Edition → Option Frame.Kind → List ℕ → Bool
is_frame e None content = false
is_frame e (Some k) content = is_some (frame_of e k content)

-- The test of a kind whose frames are the same in both editions.
pub record Formed (k : Frame.Kind) (content : List ℕ) (r : Bool) : Type 0 where
  pub is : (e : Frame.Edition) → r ≡ is_frame e (Some k) content

-- how many bytes a statement takes by its first; 0 for a byte that starts none
abbrev pub size_w : ℕ → ℕ
size_w tag = get_or (5 ∷ 3 ∷ 3 ∷ 5 ∷ 5 ∷ []) tag 0
