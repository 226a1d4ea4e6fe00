-- Card 9: marks decide nothing but the lines 0c. A run may begin with any marks, all unknowns among them, so that no entry would leave
-- unmarked, and with any spans before its own: types, diagnostics and visits are those of `check`, and so are all the other lines.
use Rattle.std.specs.Prelude.{List, ℕ, length}
use Rattle.format.specs.Syntax.{Span, Ast}
use Rattle.format.specs.Schema.{Schema}
use Rattle.meaning.specs.Check.{Checker, with_marks, with_unused, Typed, Checked, typed, exhausted, begin, query, checked}

-- The same checker but for the marks and what left unmarked.
unfoldable pub remarked : Checker → List ℕ → List Span → Checker
unfolding with_marks with_unused
remarked c ms ss = with_unused (with_marks c ms) ss

-- `check` from these marks and spans.
unfoldable pub check_from : List ℕ → List Span → ℕ → Schema → Ast → Checked
unfolding query begin checked remarked
check_from ms ss ceiling schema ast = checked ceiling (query schema ast.nodes ast.query (remarked (begin ceiling (length ast.nodes)) ms ss))

-- The same with these lines 0c instead.
abbrev pub with_lines : Typed → List Span → Typed
with_lines t ss = record { tys = t.tys; diagnostics = t.diagnostics; unused = ss; visits = t.visits }

pub data SameButUnused : Checked → Checked → Type 0 where
  both_typed : (t : Typed) (ss : List Span) → SameButUnused (typed t) (typed (with_lines t ss))
  both_exhausted : SameButUnused exhausted exhausted
