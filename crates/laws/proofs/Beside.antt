-- The lines of an answer beside its message lines do not depend on how messages are written.
use mathlib.Core.Bool.{Bool, true, false}
use mathlib.Core.List.{List, [], ◌∷◌, ◌++◌, append_assoc}
use mathlib.Core.Path.{◌≡◌, refl, sym, ◌∙◌, ap}
use Prim.Native.Nat.{ℕ, zero, suc, ◌+◌, ◌/◌, ◌%◌}
use native.Mathlib.Omega.{arith}
use lib.Dec.{ltb}
use lib.ListN.{replicate}
use Rattle.unification.specs.Ty.{Ty}
use Rattle.format.specs.All.{Absent}
use Rattle.format.specs.Bytes.{ascii, bytes₂, bytes₄, hex_digit, hex_line}
use Rattle.meaning.specs.Diag.{Message, Diagnostic}
use Rattle.format.specs.Lines.{closed, unclosed, LF, in_front, lines}
use Rattle.format.specs.Conditions.{same_text}
use Rattle.meaning.specs.Check.{Typed}
use Rattle.format.specs.Syntax.{Span}
use Rattle.meaning.specs.Answer.{slot_bytes, node_lines, diagnostic_line, diagnostic_lines, unused_line, unused_lines}
use Rattle.meaning.specs.Answer.{answer_lines, numbered, form_lines}
use Rattle.format.proofs.Tests.{cases}
use Rattle.format.proofs.Hex.{hexes, line_hexes}
use Rattle.format.proofs.Lines.{lines_closed}
use Rattle.laws.specs.Names.{of_kind, beside_kind, lines_but}
use Rattle.std.specs.Prelude.{Option}

-- ---- One line
digit_no_LF : (n : ℕ) → LF ≡ hex_digit n → ⊥
unfolding hex_digit
digit_no_LF n e = cases (ltb n 10)
    (λ q. let i : LF ≡ 48 + n = rw (q, hex_digit) at e in absurd (omega arith))
    (λ q. let i : LF ≡ 87 + n = rw (q, hex_digit) at e in absurd (omega arith))

-- whatever the numbers are
pub hexes_no_LF : (s : List ℕ) → Absent LF (hexes s)
unfolding hexes
hexes_no_LF [] = tt
hexes_no_LF (b ∷ s) = (digit_no_LF (b / 16), (digit_no_LF (b % 16), hexes_no_LF s))

unfoldable pub unless : Bool → List ℕ → List (List ℕ) → List (List ℕ)
unless true s ls = ls
unless false s ls = s ∷ ls

pub first_line_lem : (kind s rest : List ℕ) → lines_but kind (hex_line s ++ rest) ≡ unless (of_kind kind (hexes s)) (hexes s) (lines_but kind rest)
unfolding lines_but beside_kind unless
first_line_lem kind s rest =
    ap (λ l. lines_but kind (l ++ rest)) (line_hexes s)
    ∙ ap (lines_but kind) (append_assoc (hexes s) (LF ∷ []) rest)
    ∙ ap (beside_kind kind) (lines_closed (hexes s) rest (hexes_no_LF s))
    ∙ go (of_kind kind (hexes s)) refl
  where
    go : (b : Bool) → of_kind kind (hexes s) ≡ b → beside_kind kind (closed (hexes s) ∷ lines rest) ≡ unless (of_kind kind (hexes s)) (hexes s)
        (lines_but kind rest)
    go true e = rw (e, beside_kind, unless)
    go false e = rw (e, beside_kind, unless)

message_out : (s : List ℕ) (ls : List (List ℕ)) → unless (of_kind (ascii "0a") (hexes (0x0a ∷ s))) (hexes (0x0a ∷ s)) ls ≡ ls
unfolding of_kind same_text ascii hexes hex_digit unless
message_out s ls = refl

unused_out : (s : List ℕ) (ls : List (List ℕ)) → unless (of_kind (ascii "0c") (hexes (0x0c ∷ s))) (hexes (0x0c ∷ s)) ls ≡ ls
unfolding of_kind same_text ascii hexes hex_digit unless
unused_out s ls = refl

-- Lines 0c are none of the others.
pub unused_dropped : (ss : List Span) (rest : List ℕ) → lines_but (ascii "0c") (unused_lines ss ++ rest) ≡ lines_but (ascii "0c") rest
unfolding unused_lines unused_line
unused_dropped [] rest = refl
unused_dropped (s ∷ ss) rest =
    ap (lines_but (ascii "0c")) (append_assoc (unused_line s) (unused_lines ss) rest)
    ∙ first_line_lem (ascii "0c") (0x0c ∷ bytes₄ s.start ++ bytes₄ s.end) (unused_lines ss ++ rest)
    ∙ unused_out (bytes₄ s.start ++ bytes₄ s.end) (lines_but (ascii "0c") (unused_lines ss ++ rest))
    ∙ unused_dropped ss rest

-- ---- Pieces of an answer, one after the other, but for lines of a kind
pub record SamePiece (kind a b : List ℕ) : Type 0 where
  pub before : (rest rest' : List ℕ) → lines_but kind rest ≡ lines_but kind rest' → lines_but kind (a ++ rest) ≡ lines_but kind (b ++ rest')

module _ (kind : List ℕ) where
  pub same_nothing : SamePiece kind [] []
  same_nothing = record { before = λ rest rest' h. h }

  pub same_line : (s : List ℕ) → SamePiece kind (hex_line s) (hex_line s)
  same_line s =
      record { before = λ rest rest' h. first_line_lem kind s rest ∙ ap (unless (of_kind kind (hexes s)) (hexes s)) h ∙ sym (first_line_lem kind s rest') }

  pub same_then : {a b c d : List ℕ} → SamePiece kind a b → SamePiece kind c d → SamePiece kind (a ++ c) (b ++ d)
  same_then {a} {b} {c} {d} f g = record {
    before = λ rest rest' h.
        ap (lines_but kind) (append_assoc a c rest)
        ∙ f.before (c ++ rest) (d ++ rest') (g.before rest rest' h)
        ∙ ap (lines_but kind) (sym (append_assoc b d rest'));
  }

  pub same_nodes : (n : ℕ) (slots : List (Option Ty)) → SamePiece kind (node_lines n slots) (node_lines n slots)
  unfolding node_lines
  same_nodes n [] = same_nothing
  same_nodes n (slot ∷ slots) = same_then (same_line (7 ∷ bytes₂ n ++ slot_bytes slot)) (same_nodes (suc n) slots)

  same_unused : (ss : List Span) → SamePiece kind (unused_lines ss) (unused_lines ss)
  unfolding unused_lines unused_line
  same_unused [] = same_nothing
  same_unused (s ∷ ss) = same_then (same_line (0x0c ∷ bytes₄ s.start ++ bytes₄ s.end)) (same_unused ss)

abbrev messages : List ℕ
messages = ascii "0a"

module _ (text text' : Message → List ℕ) where
  same_diagnostic : (d : Diagnostic) → SamePiece messages (diagnostic_line text d) (diagnostic_line text' d)
  unfolding diagnostic_line
  same_diagnostic d = record { before = λ rest rest' h. simp (append_assoc, first_line_lem, message_out, h) }

  same_diagnostics : (ds : List Diagnostic) → SamePiece messages (diagnostic_lines text ds) (diagnostic_lines text' ds)
  unfolding diagnostic_lines
  same_diagnostics [] = same_nothing messages
  same_diagnostics (d ∷ ds) = same_then messages (same_diagnostic d) (same_diagnostics ds)

  same_answer : (t : Typed) → SamePiece messages (answer_lines text t) (answer_lines text' t)
  unfolding answer_lines
  same_answer t = same_then messages (same_then messages (same_then messages (same_nodes messages 0 t.tys) (same_diagnostics t.diagnostics))
      (same_unused messages t.unused)) (same_line messages (9 ∷ bytes₄ t.visits))

  same_numbered : (k : ℕ) (ts : List Typed) → SamePiece messages (numbered text k ts) (numbered text' k ts)
  unfolding numbered
  same_numbered k [] = same_nothing messages
  same_numbered k (t ∷ ts) = same_then messages (same_line messages (0x0b ∷ bytes₂ k)) (same_then messages (same_answer t) (same_numbered (suc k) ts))

  pub same_form : (ts : List Typed) → SamePiece messages (form_lines text ts) (form_lines text' ts)
  unfolding form_lines
  same_form [] = same_nothing messages
  same_form (t ∷ []) = same_answer t
  same_form (t ∷ u ∷ ts) = same_numbered 0 (t ∷ u ∷ ts)

-- ---- The zeros after an answer
zeros_open : (n : ℕ) → lines (replicate (suc n) 0) ≡ unclosed (replicate (suc n) 0) ∷ []
unfolding lines in_front
zeros_open zero = refl
zeros_open (suc n) = ap (in_front 0) (zeros_open n)

pub no_lines : (n : ℕ) → lines_but (ascii "0a") (replicate n 0) ≡ []
unfolding lines_but beside_kind lines
no_lines zero = refl
no_lines (suc n) = ap (beside_kind (ascii "0a")) (zeros_open n)
