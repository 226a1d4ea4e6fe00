-- What is shown of a view, the file and the words of a run (src/shown.rt): a text for which nothing has to exist, and a
-- type, a cell and pieces, for which what they name does.
use Rattle.std.specs.Prelude.{List, ℕ, Option}
use Rattle.cells.specs.declared.Kind.{Kind}
use Rattle.cells.specs.declared.Part.{Part}
use Rattle.cells.specs.declared.Ty.{Ty}
use Rattle.cells.specs.Stands.{Ok, IsCell}
use Rattle.messages.specs.declared.shown.Bindings.{Bindings}
use Rattle.messages.specs.declared.shown.Piece.{Piece}
use Rattle.messages.specs.declared.shown.View.{View}
use Rattle.messages.specs.Shown.{NothingNeeded, Shows, Sight, before_text, render_text, cell_text, ok_piece, piece_text, ok_pieces, pieces_text}

abbrev pub ShowsText : View → List ℕ → ℕ → (Sight → List ℕ) → List ℕ → Option ℕ → Type 0
ShowsText v out at text out' r = Shows v.f.now v.w.now out at NothingNeeded text out' r

-- what stands before the type of a part
abbrev pub before_part : Kind → Part → Sight → List ℕ
before_part k p = before_text k p.key p.label

abbrev pub ShowsType : View → List ℕ → ℕ → Bindings → Ty → List ℕ → Option ℕ → Type 0
ShowsType v out at b t out' r = Shows v.f.now v.w.now out at (Ok v.w.now t) (render_text b t) out' r

abbrev pub ShowsCell : View → List ℕ → ℕ → Bindings → Kind → ℕ → List ℕ → Option ℕ → Type 0
ShowsCell v out at b k c out' r = Shows v.f.now v.w.now out at (IsCell v.w.now k c) (cell_text b k c) out' r

abbrev pub ShowsPiece : View → List ℕ → ℕ → Piece → List ℕ → Option ℕ → Type 0
ShowsPiece v out at p out' r = Shows v.f.now v.w.now out at (ok_piece v.w.now p) (piece_text p) out' r

abbrev pub ShowsPieces : View → List ℕ → ℕ → List Piece → List ℕ → Option ℕ → Type 0
ShowsPieces v out at ps out' r = Shows v.f.now v.w.now out at (ok_pieces v.w.now ps) (pieces_text ps) out' r
