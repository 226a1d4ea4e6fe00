-- Card 14: the new file "differs only by added names, types and predicates, each after all old ones of its kind, and no predicate
-- number named in the old file was absent there".
use Rattle.std.specs.Prelude.{List, ◌++◌, ◌≡◌, ℕ, ◌<◌, length}
use Rattle.format.specs.All.{All}
use Rattle.format.specs.Syntax.{ExprKind}
use Rattle.format.specs.Frame.{TypeShape, a_leaf, a_record, a_union}
use Rattle.format.specs.Content.{PredicateFrame, Content}
use Rattle.laws.specs.Over.{Language, language_of, LeafFacts}

abbrev pub grow : Content → List (List ℕ) → List TypeShape → List PredicateFrame → Content
grow c names types predicates = record c { names = c.names ++ names; types = c.types ++ types; predicates = c.predicates ++ predicates }

pub record Grown (c c' : Content) : Type 0 where
  pub names : List (List ℕ)
  pub types : List TypeShape
  pub predicates : List PredicateFrame
  pub is : c' ≡ grow c names types predicates

abbrev pub ShapeFacts : (ℕ → Type 0) → TypeShape → Type 0
ShapeFacts P (a_leaf l) = LeafFacts P l
ShapeFacts P (a_record fs) = Unit {0}
ShapeFacts P (a_union alts) = Unit {0}

abbrev pub NodeFacts : (ℕ → Type 0) → ExprKind → Type 0
NodeFacts P (ExprKind.Fact p e) = P p
NodeFacts P (ExprKind.Fuzzy x d) = Unit {0}
NodeFacts P (ExprKind.Lit l) = Unit {0}
NodeFacts P (ExprKind.Var x) = Unit {0}
NodeFacts P ExprKind.Wildcard = Unit {0}
NodeFacts P ExprKind.Never = Unit {0}
NodeFacts P (ExprKind.Prefix x) = Unit {0}
NodeFacts P (ExprKind.Record fs) = Unit {0}
NodeFacts P (ExprKind.Access f e) = Unit {0}
NodeFacts P (ExprKind.Disjunction es) = Unit {0}
NodeFacts P (ExprKind.Subquery q) = Unit {0}
NodeFacts P (ExprKind.Arith es) = Unit {0}
NodeFacts P ExprKind.Error = Unit {0}
NodeFacts P (ExprKind.Select x e) = Unit {0}

-- The predicates that there are.
abbrev pub IsPredicate : Content → ℕ → Type 0
IsPredicate c p = p < length c.predicates

-- What there is to speak of.
abbrev pub spoken : Content → Language
spoken c = language_of (IsPredicate c) (length c.names)

pub record NoAbsent (c : Content) : Type 0 where
  pub types : All (ShapeFacts (IsPredicate c)) c.types
  pub nodes : All (λ a. All (λ n. NodeFacts (IsPredicate c) n.kind) a.nodes) c.queries
