-- Card 9: marks decide nothing but the lines 0c.
use mathlib.Core.List.{List, [], ◌∷◌}
use mathlib.Core.Path.{sym, ◌∙◌}
use Prim.Native.Nat.{ℕ}
use lib.ListN.{length}
use Rattle.unification.specs.Ty.{Ty}
use Rattle.format.specs.Syntax.{Span, Ast}
use Rattle.format.specs.Schema.{Schema, get}
use Rattle.format.specs.Bytes.{ascii, bytes₄}
use Rattle.meaning.specs.Diag.{Message, Diagnostic}
use Rattle.meaning.specs.Check.{Step, with_marks, with_unused, Typed, begin, zonked, checked, check}
use Rattle.meaning.specs.Answer.{diagnostic_bytes, diagnostic_line, diagnostic_lines, answer_lines}
use Rattle.laws.specs.Over.{everything}
use Rattle.laws.specs.Unmarked.{remarked, check_from, with_lines, SameButUnused, both_typed, both_exhausted}
use Rattle.laws.proofs.Over.{predicate_everything, names_everything}
use Rattle.laws.proofs.Agree.{Alike, both_go, both_end}
use Rattle.laws.proofs.Beside.{unused_dropped, SamePiece, same_nothing, same_line, same_then, same_nodes}
use Rattle.laws.proofs.Walk.{query_agrees}
use Rattle.laws.proofs.Run.{begin_fine, same_self}

checked_same : (ceiling : ℕ) (r r' : Step Ty) → Alike r r' → SameButUnused (checked ceiling r) (checked ceiling r')
unfolding checked remarked with_marks with_unused zonked
checked_same ceiling r r' (both_go t c ms ss) = both_typed _ _
checked_same ceiling r r' (both_end c ms ss) = both_exhausted

pub marks_aside : (schema : Schema) (ast : Ast) (ceiling : ℕ) (ms : List ℕ) (ss : List Span)
    → SameButUnused (check ceiling schema ast) (check_from ms ss ceiling schema ast)
unfolding check check_from
marks_aside schema ast ceiling ms ss =
    let same = same_self everything schema ast.nodes (λ p. tt) (names_everything ast.nodes) (λ p. predicate_everything (get schema p)) in
    checked_same ceiling _ _ ((query_agrees everything 0 schema schema ast.nodes same ast.query).alike (begin ceiling (length ast.nodes))
    (begin_fine everything schema schema ast same ceiling) ms ss)

-- ---- The answer
module _ (text : Message → List ℕ) where
  abbrev unused : List ℕ
  unused = ascii "0c"

  same_diagnostics : (ds : List Diagnostic) → SamePiece unused (diagnostic_lines text ds) (diagnostic_lines text ds)
  unfolding diagnostic_lines diagnostic_line
  same_diagnostics [] = same_nothing unused
  same_diagnostics (d ∷ ds) = same_then unused (same_then unused (same_line unused (diagnostic_bytes d)) (same_line unused (0x0a ∷ text d.message)))
      (same_diagnostics ds)

  -- But for its lines 0c an answer is the answer without them.
  pub others_same : (t : Typed) (ss : List Span) → SamePiece unused (answer_lines text t) (answer_lines text (with_lines t ss))
  unfolding answer_lines
  others_same t ss =
      same_then unused (same_then unused (same_then unused (same_nodes unused 0 t.tys) (same_diagnostics t.diagnostics))
      (record { before = λ rest rest' h. unused_dropped t.unused rest ∙ h ∙ sym (unused_dropped ss rest') })) (same_line unused (9 ∷ bytes₄ t.visits))
