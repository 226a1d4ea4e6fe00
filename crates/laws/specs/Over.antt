-- What a run speaks of. Over a language, some predicates and some names, is a type, a state or a message in which every fact is of one of
-- the predicates and every field and alternative has one of the names.
use Rattle.std.specs.Prelude.{List, ℕ, ◌<◌, None, Option, Some}
use Rattle.unification.specs.Ty.{Leaf, Int, String, Bytes, Fact, Kind, Record, Union, Ty, leaf, node, Var, Error, Row, ε, cell}
use Rattle.unification.specs.Bindings.{Undo, Binding, Annotation, State}
use Rattle.unification.specs.Unify.{UnionDiff, Absent, Renamed, Payload, TyError}
use Rattle.format.specs.All.{All}
use Rattle.meaning.specs.Diag.{Message, Diagnostic}
use Rattle.format.specs.Schema.{Predicate}
use Rattle.meaning.specs.Check.{Checker, message_of, Checked, typed, exhausted}

pub record Language : Type 1 where
  pub predicate : ℕ → Type 0
  pub name : ℕ → Type 0

-- Nothing is left out.
abbrev pub everything : Language
everything = record { predicate = λ p. Unit {0}; name = λ x. Unit {0} }

-- These predicates, and the names below n.
abbrev pub language_of : (ℕ → Type 0) → ℕ → Language
language_of P n = record { predicate = P; name = λ x. x < n }

-- ---- Types
abbrev pub LeafFacts : (ℕ → Type 0) → Leaf → Type 0
LeafFacts P Int = Unit {0}
LeafFacts P String = Unit {0}
LeafFacts P Bytes = Unit {0}
LeafFacts P (Fact p) = P p

-- A field's name is its key, an alternative's its label.
abbrev pub cell_name : Kind → ℕ → ℕ → ℕ
cell_name Record key label = key
cell_name Union key label = label

abbrev mutual
  pub TypeOver : Language → Ty → Type 0
  TypeOver L (leaf l) = LeafFacts L.predicate l
  TypeOver L (node k r) = RowOver L r k
  TypeOver L (Var x) = Unit {0}
  TypeOver L Error = Unit {0}

  pub RowOver : Language → Row → Kind → Type 0
  RowOver L ε k = Unit {0}
  RowOver L (cell key label t r) k = L.name (cell_name k key label) × (TypeOver L t × RowOver L r k)

abbrev pub OptionOver : Language → Option Ty → Type 0
OptionOver L None = Unit {0}
OptionOver L (Some t) = TypeOver L t

-- A predicate's types, if it is there.
abbrev pub PredicateOver : Language → Option Predicate → Type 0
PredicateOver L None = Unit {0}
PredicateOver L (Some d) = TypeOver L d.key × OptionOver L d.value

-- ---- Messages
abbrev pub DiffOver : Language → UnionDiff → Type 0
DiffOver L (Absent name disc) = L.name name
DiffOver L (Renamed expected got disc) = L.name expected × L.name got
DiffOver L (Payload name disc) = L.name name

abbrev pub MessageOver : Language → Message → Type 0
MessageOver L Message.wildcard_head = Unit {0}
MessageOver L Message.bound_constant = Unit {0}
MessageOver L Message.denied_constant = Unit {0}
MessageOver L Message.matched_patterns = Unit {0}
MessageOver L Message.denied_pattern = Unit {0}
MessageOver L (Message.distance_outside d) = Unit {0}
MessageOver L (Message.term_too_long n) = Unit {0}
MessageOver L Message.unknown_type = Unit {0}
MessageOver L Message.value_shadowed = Unit {0}
MessageOver L Message.no_value = Unit {0}
MessageOver L (Message.no_alternative x) = L.name x
MessageOver L (Message.no_field x) = L.name x
MessageOver L (Message.not_one_alternative n) = Unit {0}
MessageOver L (Message.not_aunion t) = TypeOver L t
MessageOver L (Message.not_afact t) = TypeOver L t
MessageOver L (Message.no_fields t) = TypeOver L t
MessageOver L (Message.no_order t) = TypeOver L t
MessageOver L (Message.mismatch expected got) = TypeOver L expected × TypeOver L got
MessageOver L (Message.union_mismatch diff expected got) = DiffOver L diff × (TypeOver L expected × TypeOver L got)
MessageOver L Message.infinite = Unit {0}

abbrev pub ErrorOver : Language → TyError → Type 0
ErrorOver L e = MessageOver L (message_of e)

abbrev pub FailureOver : Language → Option TyError → Type 0
FailureOver L None = Unit {0}
FailureOver L (Some e) = ErrorOver L e

abbrev pub DiagnosticsOver : Language → List Diagnostic → Type 0
DiagnosticsOver L ds = All (λ d. MessageOver L d.message) ds

-- What a run tells.
abbrev pub CheckedOver : Language → Checked → Type 0
CheckedOver L (typed t) = DiagnosticsOver L t.diagnostics
CheckedOver L exhausted = Unit {0}

-- ---- States
abbrev pub UndoOver : Language → Undo → Type 0
UndoOver L (Binding x prev) = OptionOver L prev
UndoOver L (Annotation n prev) = OptionOver L prev

-- Every type that a state holds: bound, annotated, or noted to be put back.
pub record StateOver (L : Language) (s ts : List (Option Ty)) (us : List Undo) : Type 0 where
  pub subst : All (OptionOver L) s
  pub tys : All (OptionOver L) ts
  pub undo : All (UndoOver L) us

abbrev pub FineState : Language → State → Type 0
FineState L st = StateOver L st.subst st.tys st.undo

-- The diagnostics too.
abbrev pub FineChecker : Language → Checker → Type 0
FineChecker L c = FineState L c.state × DiagnosticsOver L c.diagnostics
