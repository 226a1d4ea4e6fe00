-- Card 10: "Two files that differ only in name texts", where "the same name number is `value` in both or in neither and each fuzzy
-- term has the same number of characters".
use Rattle.std.specs.Prelude.{Bool, true, false, List, [], ◌∷◌, ◌≢◌, ◌≡◌, ℕ, get_or, take}
use Rattle.text.specs.Utf8.{characters}
use Rattle.format.specs.All.{All}
use Rattle.format.specs.Syntax.{ExprKind}
use Rattle.format.specs.Bytes.{ascii}
use Rattle.format.specs.Refusal as Refusal
use Rattle.format.specs.Lines.{Line, closed, unclosed, position, lines}
use Rattle.format.specs.Conditions.{same_text}
use Rattle.format.specs.File.{value_text}
use Rattle.format.specs.Content.{Content}
use Rattle.meaning.specs.Outcome.{Outcome, Refused}

-- The content with these names instead.
abbrev pub with_names : Content → List (List ℕ) → Content
with_names c names = record c { names = names }

abbrev pub TermKept : List (List ℕ) → List (List ℕ) → ExprKind → Type 0
TermKept a b (ExprKind.Fuzzy x d) = characters (get_or a x []) ≡ characters (get_or b x [])
TermKept a b (ExprKind.Fact p e) = Unit {0}
TermKept a b (ExprKind.Lit l) = Unit {0}
TermKept a b (ExprKind.Var x) = Unit {0}
TermKept a b ExprKind.Wildcard = Unit {0}
TermKept a b ExprKind.Never = Unit {0}
TermKept a b (ExprKind.Prefix x) = Unit {0}
TermKept a b (ExprKind.Record fs) = Unit {0}
TermKept a b (ExprKind.Access f e) = Unit {0}
TermKept a b (ExprKind.Disjunction es) = Unit {0}
TermKept a b (ExprKind.Subquery q) = Unit {0}
TermKept a b (ExprKind.Arith es) = Unit {0}
TermKept a b ExprKind.Error = Unit {0}
TermKept a b (ExprKind.Select x e) = Unit {0}

-- That there are as many names is not asked: a lawful file refers to none that is missing.
pub record Renamed (c c' : Content) : Type 0 where
  pub only_names : c' ≡ with_names c c'.names
  pub value : position (same_text value_text) c.names ≡ position (same_text value_text) c'.names
  pub terms : All (λ a. All (λ n. TermKept c.names c'.names n.kind) a.nodes) c.queries

-- ---- "Message lines are excepted, and an answer slice large enough for both is assumed."

-- a line of this kind, without its LF
unfoldable pub of_kind : List ℕ → List ℕ → Bool
unfolding same_text
of_kind kind s = same_text kind (take 2 s)

unfoldable pub beside_kind : List ℕ → List Line → List (List ℕ)
unfolding of_kind
beside_kind kind [] = []
beside_kind kind (closed s ∷ ls) = elim (of_kind kind s) [ true ↦ beside_kind kind ls | false ↦ s ∷ beside_kind kind ls ]
-- what stands after the last LF is no line
beside_kind kind (unclosed s ∷ ls) = beside_kind kind ls

-- The lines of an answer slice but for those of a kind.
unfoldable pub lines_but : List ℕ → List ℕ → List (List ℕ)
unfolding beside_kind lines
lines_but kind answer = beside_kind kind (lines answer)

-- But for its message lines.
abbrev pub lines_beside : List ℕ → List (List ℕ)
lines_beside answer = lines_but (ascii "0a") answer

-- Whatever slices were lent; the work slice is zero after both (`work_zeros` of crates/meaning/specs/Demands.antt).
pub record SameBeside (a b : Outcome) : Type 0 where
  pub result : a.result ≡ b.result
  pub answer : lines_beside a.answer ≡ lines_beside b.answer

-- The answer slice was large enough.
abbrev pub Fits : Outcome → Type 0
Fits o = o.result ≢ Refused Refusal.answer_too_long
