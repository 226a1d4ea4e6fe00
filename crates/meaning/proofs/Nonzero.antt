-- No byte of an answer is zero: it is digits and LF. So an answer ends at the first zero of its slice, by which the bindings for C and Rust find
-- its length.
use mathlib.Core.List.{List, [], ◌∷◌, ◌++◌}
use Prim.Native.Nat.{ℕ, suc, ◌/◌, ◌%◌, ◌<◌}
use native.Mathlib.Omega.{arith}
use lib.Dec.{ltb}
use Rattle.unification.specs.Ty.{Ty}
use Rattle.format.specs.All.{All}
use Rattle.format.specs.Syntax.{Span}
use Rattle.meaning.specs.Diag.{Message, Diagnostic}
use Rattle.meaning.specs.Check.{Typed}
use Rattle.format.specs.Bytes.{bytes₂, bytes₄, hex_digit, hex_line}
use Rattle.meaning.specs.Answer.{diagnostic_line, slot_bytes, node_lines, diagnostic_bytes, diagnostic_lines}
use Rattle.meaning.specs.Answer.{unused_line, unused_lines, answer_lines, numbered, form_lines}
use Rattle.format.proofs.Lists.{all_append}
use Rattle.format.proofs.Tests.{cases}
use Rattle.std.specs.Prelude.{Option}

abbrev Nonzero : List ℕ → Type 0
Nonzero s = All (λ b. 0 < b) s

join : (s t : List ℕ) → Nonzero s → Nonzero t → Nonzero (s ++ t)
join s t a b = all_append (λ b. 0 < b) s t a b

digit_nonzero : (n : ℕ) → 0 < hex_digit n
unfolding hex_digit
digit_nonzero n = cases (ltb n 10) (λ q. rw (q, hex_digit) (omega arith)) (λ q. rw (q, hex_digit) (omega arith))

line_nonzero : (s : List ℕ) → Nonzero (hex_line s)
unfolding hex_line
line_nonzero [] = (omega arith, tt)
line_nonzero (b ∷ s) = (digit_nonzero (b / 16), (digit_nonzero (b % 16), line_nonzero s))

nodes_nonzero : (n : ℕ) (slots : List (Option Ty)) → Nonzero (node_lines n slots)
unfolding node_lines
nodes_nonzero n [] = tt
nodes_nonzero n (slot ∷ slots) = join (hex_line (7 ∷ bytes₂ n ++ slot_bytes slot)) (node_lines (suc n) slots)
    (line_nonzero (7 ∷ bytes₂ n ++ slot_bytes slot)) (nodes_nonzero (suc n) slots)

unused_nonzero : (ss : List Span) → Nonzero (unused_lines ss)
unfolding unused_lines unused_line
unused_nonzero [] = tt
unused_nonzero (s ∷ ss) = join (unused_line s) (unused_lines ss) (line_nonzero (0x0c ∷ bytes₄ s.start ++ bytes₄ s.end)) (unused_nonzero ss)

module _ (text : Message → List ℕ) where
  diagnostic_nonzero : (d : Diagnostic) → Nonzero (diagnostic_line text d)
  unfolding diagnostic_line
  diagnostic_nonzero d =
      join (hex_line (diagnostic_bytes d)) (hex_line (0x0a ∷ text d.message)) (line_nonzero (diagnostic_bytes d)) (line_nonzero (0x0a ∷ text d.message))

  diagnostics_nonzero : (ds : List Diagnostic) → Nonzero (diagnostic_lines text ds)
  unfolding diagnostic_lines
  diagnostics_nonzero [] = tt
  diagnostics_nonzero (d ∷ ds) = join (diagnostic_line text d) (diagnostic_lines text ds) (diagnostic_nonzero d) (diagnostics_nonzero ds)

  answer_nonzero : (t : Typed) → Nonzero (answer_lines text t)
  unfolding answer_lines
  answer_nonzero t =
      join ((node_lines 0 t.tys ++ diagnostic_lines text t.diagnostics) ++ unused_lines t.unused) (hex_line (9 ∷ bytes₄ t.visits))
      (join (node_lines 0 t.tys ++ diagnostic_lines text t.diagnostics) (unused_lines t.unused)
      (join (node_lines 0 t.tys) (diagnostic_lines text t.diagnostics) (nodes_nonzero 0 t.tys) (diagnostics_nonzero t.diagnostics))
      (unused_nonzero t.unused))
      (line_nonzero (9 ∷ bytes₄ t.visits))

  numbered_nonzero : (k : ℕ) (ts : List Typed) → Nonzero (numbered text k ts)
  unfolding numbered
  numbered_nonzero k [] = tt
  numbered_nonzero k (t ∷ ts) =
      join (hex_line (0x0b ∷ bytes₂ k)) (answer_lines text t ++ numbered text (suc k) ts) (line_nonzero (0x0b ∷ bytes₂ k))
      (join (answer_lines text t) (numbered text (suc k) ts) (answer_nonzero t) (numbered_nonzero (suc k) ts))

  pub form_nonzero : (ts : List Typed) → All (λ b. 0 < b) (form_lines text ts)
  unfolding form_lines
  form_nonzero [] = tt
  form_nonzero (t ∷ []) = answer_nonzero t
  form_nonzero (t ∷ u ∷ ts) = numbered_nonzero 0 (t ∷ u ∷ ts)
