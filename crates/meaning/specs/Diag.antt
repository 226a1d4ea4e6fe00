-- The codes that ty.rs reports, `Code::as_str` (diag.rs), and what a diagnostic says.
use Rattle.std.specs.Prelude.{ℕ}
use Prim.Native.String.{String}
use Rattle.unification.specs.Ty.{Ty}
use Rattle.unification.specs.Unify.{UnionDiff}
use Rattle.format.specs.Syntax.{Span}

pub data Code : Type 0 where
  NyiBindUnification RejectBindLhs RejectFuzzyDistance RejectFuzzyTerm RejectInfiniteType : Code
  RejectNoValue RejectNotAUnion RejectTypeMismatch RejectUnionArity RejectUnknownAlternative : Code
  RejectUnknownField RejectUnresolvedAccess RejectValueShadowed RejectWildcardInHead : Code

-- What a diagnostic says, in numbers and types; Messages.antt has the text of each. One for each place of ty.rs that reports, but for
-- places that say the same.
pub data Message : Type 0 where
  wildcard_head bound_constant denied_constant matched_patterns denied_pattern : Message
  -- the distance; the number of characters
  distance_outside term_too_long : ℕ → Message
  unknown_type value_shadowed no_value : Message
  -- a name
  no_alternative no_field : ℕ → Message
  -- how many alternatives are named
  not_one_alternative : ℕ → Message
  -- the type in hand; the last one resolved
  not_aunion not_afact no_fields no_order : Ty → Message
  -- expected, got
  mismatch : Ty → Ty → Message
  union_mismatch : UnionDiff → Ty → Ty → Message
  infinite : Message

-- `code` of each
unfoldable pub code_of : Message → Code
code_of wildcard_head = RejectWildcardInHead
code_of bound_constant = RejectBindLhs
code_of denied_constant = RejectBindLhs
code_of matched_patterns = NyiBindUnification
code_of denied_pattern = NyiBindUnification
code_of (distance_outside d) = RejectFuzzyDistance
code_of (term_too_long n) = RejectFuzzyTerm
code_of unknown_type = RejectUnresolvedAccess
code_of value_shadowed = RejectValueShadowed
code_of no_value = RejectNoValue
code_of (no_alternative x) = RejectUnknownAlternative
code_of (no_field x) = RejectUnknownField
code_of (not_one_alternative n) = RejectUnionArity
code_of (not_aunion t) = RejectNotAUnion
code_of (not_afact t) = RejectTypeMismatch
code_of (no_fields t) = RejectTypeMismatch
code_of (no_order t) = RejectTypeMismatch
code_of (mismatch e g) = RejectTypeMismatch
code_of (union_mismatch d e g) = RejectTypeMismatch
code_of infinite = RejectInfiniteType

pub record Diagnostic : Type 0 where
  pub message : Message
  pub span : Span

-- `as_str`
unfoldable pub as_str : Code → String
as_str NyiBindUnification = "nyi/bind-unification"
as_str RejectBindLhs = "reject/bind-lhs"
as_str RejectFuzzyDistance = "reject/fuzzy-distance"
as_str RejectFuzzyTerm = "reject/fuzzy-term"
as_str RejectInfiniteType = "reject/infinite-type"
as_str RejectNoValue = "reject/no-value"
as_str RejectNotAUnion = "reject/not-a-union"
as_str RejectTypeMismatch = "reject/type-mismatch"
as_str RejectUnionArity = "reject/union-arity"
as_str RejectUnknownAlternative = "reject/unknown-alternative"
as_str RejectUnknownField = "reject/unknown-field"
as_str RejectUnresolvedAccess = "reject/unresolved-access"
as_str RejectValueShadowed = "reject/value-shadowed"
as_str RejectWildcardInHead = "reject/wildcard-in-head"
