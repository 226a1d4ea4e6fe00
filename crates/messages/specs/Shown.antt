-- What messages show of numbers, names and types: the texts of meaning/specs/Messages.antt, for whatever the file and the work slice stand for.
use Rattle.std.specs.Prelude.{Bool, true, false, List, [], ◌∷◌, ◌++◌, ◌≡◌, ℕ, ◌≤◌, length, Option}
use Rattle.unification.specs.Ty as Tree
use Rattle.unification.specs.Ty.{Row, app_row}
use Rattle.unification.specs.Bindings.{Subst, zonk, Resolved}
use Rattle.unification.specs.Acyclic.{Acyclic}
use Rattle.cells.specs.declared.Ty.{Ty}
use Rattle.cells.specs.declared.Kind.{Kind}
use Rattle.cells.specs.declared.Kind.TheVariants.{Fields, Alternatives}
use Rattle.cells.specs.Stands.{Rows, tree, kind_tree, Ok, Cells, Binds}
use Rattle.format.specs.Bytes.{ascii}
use Rattle.meaning.specs.Messages.{decimal, quoted, or_fact, name_of, fact_name, render}
use Rattle.format.specs.Schema.{Schema}
use Rattle.tree.specs.Stands.{SchemaStands}
use Rattle.writer.specs.Writes.{Writes, Moves, hex_of}
use Rattle.messages.specs.declared.shown.Piece.{Piece}
use Rattle.messages.specs.declared.shown.Bindings.{Bindings}
use Rattle.messages.specs.declared.shown.Bindings.TheVariants.{Ignored, Followed}

-- What the file and the work slice stand for, as far as a text depends on it.
pub record Sight : Type 0 where
  pub rows : Rows
  pub subst : Subst
  pub names : List (List ℕ)
  pub schema : Schema

pub record Seen (f w : List ℕ) (v : Sight) : Type 0 where
  pub schema : SchemaStands f w v.rows v.names v.schema
  pub cells : Cells w v.rows
  pub binds : Binds w v.rows v.subst
  pub acyclic : Acyclic v.subst

-- A text is written where what it shows exists; whatever the words are, the writer goes forward and stays in the slice.
pub record Shows (f w out : List ℕ) (at : ℕ) (ok : Type 0) (text : Sight → List ℕ) (out' : List ℕ) (r : Option ℕ) : Type 0 where
  pub is : (v : Sight) → Seen f w v → ok → at ≤ length out → Writes out at (hex_of (text v)) out' r
  pub moves : Moves out at out' r

-- nothing has to exist
abbrev pub NothingNeeded : Type 0
NothingNeeded = Unit {0}

-- ---- Names

abbrev pub name_text : ℕ → Sight → List ℕ
name_text x v = name_of v.names v.schema x

abbrev pub quoted_text : ℕ → Sight → List ℕ
quoted_text x v = quoted (name_text x v)

abbrev pub fact_text : ℕ → Sight → List ℕ
fact_text p v = or_fact (fact_name v.names v.schema p)

-- ---- Types

-- A type, resolved where that is asked; the parts of a cell likewise.
abbrev pub shown : Bindings → Subst → Tree.Ty → Tree.Ty
shown Followed s t = zonk s t
shown Ignored s t = t

abbrev pub shown_row : Bindings → Subst → Row → Row
shown_row Followed s r = app_row (λ x. zonk s (Tree.Var x)) r
shown_row Ignored s r = r

abbrev pub render_text : Bindings → Ty → Sight → List ℕ
render_text b t v = render v.names v.schema (shown b v.subst (tree v.rows t))

abbrev pub cell_text : Bindings → Kind → ℕ → Sight → List ℕ
cell_text b k c v = render v.names v.schema (Tree.node (kind_tree k) (shown_row b v.subst (v.rows c)))

-- What stands before and after the type of a part, the latter with what parts it from the next.
abbrev pub before_text : Kind → ℕ → ℕ → Sight → List ℕ
before_text Fields key label v = name_text key v ++ ascii " = "
before_text Alternatives key label v = name_text label v ++ ascii " : "

abbrev pub parted_by : Kind → Bool → List ℕ
parted_by Fields true = ascii ", "
parted_by Fields false = []
parted_by Alternatives true = ascii " | "
parted_by Alternatives false = []

abbrev pub discriminant_text : Kind → ℕ → List ℕ
discriminant_text Fields key = []
discriminant_text Alternatives key = ascii " = " ++ decimal key

abbrev pub after_text : Kind → ℕ → Bool → List ℕ
after_text Fields key more = parted_by Fields more
after_text Alternatives key more = ascii " = " ++ (decimal key ++ parted_by Alternatives more)

-- The end of a chain, where chains are followed.
abbrev pub Ended : Bindings → Subst → Tree.Ty → Type 0
Ended Followed s t = Resolved s t
Ended Ignored s t = Unit {0}

pub record Looks (w : List ℕ) (t : Ty) (b : Bindings) (u : Ty) : Type 0 where
  pub is : (T : Rows) (s : Subst) → Binds w T s → Acyclic s → shown b s (tree T t) ≡ shown b s (tree T u)
  pub ok : (T : Rows) (s : Subst) → Binds w T s → Ok w t → Ok w u
  pub end : (T : Rows) (s : Subst) → Binds w T s → Acyclic s → Ended b s (tree T u)

-- ---- Pieces

abbrev pub piece_text : Piece → Sight → List ℕ
piece_text (Piece.Text s) v = s.now
piece_text (Piece.Number n) v = decimal n
piece_text (Piece.Name x) v = quoted_text x v
piece_text (Piece.Type t) v = render_text Ignored t v
piece_text (Piece.Resolved t) v = render_text Followed t v

-- the types that it shows exist
abbrev pub ok_piece : List ℕ → Piece → Type 0
ok_piece w (Piece.Text s) = Unit {0}
ok_piece w (Piece.Number n) = Unit {0}
ok_piece w (Piece.Name x) = Unit {0}
ok_piece w (Piece.Type t) = Ok w t
ok_piece w (Piece.Resolved t) = Ok w t

abbrev pub pieces_text : List Piece → Sight → List ℕ
pieces_text [] v = []
pieces_text (p ∷ ps) v = piece_text p v ++ pieces_text ps v

abbrev pub ok_pieces : List ℕ → List Piece → Type 0
ok_pieces w [] = Unit {0}
ok_pieces w (p ∷ ps) = ok_piece w p × ok_pieces w ps
