-- What a message in hand says: the message of meaning/specs/Diag.antt, over the rows of the cells. A type without order is shown resolved, with
-- the bindings of this moment; the others as they are.
use Rattle.std.specs.Prelude.{List, ◌≡◌, ℕ, ◌≤◌, length, Option}
use Rattle.unification.specs.Bindings.{Subst, State, zonk}
use Rattle.cells.specs.Stands.{Rows, tree, Ok, Holds}
use Rattle.cells.specs.Promises.{diff_of}
use Rattle.meaning.specs.Diag as Diag
use Rattle.format.specs.Bytes.{ascii}
use Rattle.meaning.specs.Diag.{as_str, code_of}
use Rattle.format.specs.File.{Described}
use Rattle.meaning.specs.Messages.{message_text}
use Rattle.tree.specs.Stands.{Stands}
use Rattle.writer.specs.Writes.{Writes, WritesText, Moves, hex_of}
use Rattle.messages.specs.declared.Message.{Message}
use Rattle.cells.specs.declared.TyError.{TyError}

abbrev pub said : Rows → Subst → Message → Diag.Message
said T s Message.WildcardHead = Diag.wildcard_head
said T s Message.BoundConstant = Diag.bound_constant
said T s Message.DeniedConstant = Diag.denied_constant
said T s Message.MatchedPatterns = Diag.matched_patterns
said T s Message.DeniedPattern = Diag.denied_pattern
said T s (Message.DistanceOutside d) = Diag.distance_outside d
said T s (Message.TermTooLong n) = Diag.term_too_long n
said T s Message.UnknownType = Diag.unknown_type
said T s Message.ValueShadowed = Diag.value_shadowed
said T s Message.NoValue = Diag.no_value
said T s (Message.NoAlternative x) = Diag.no_alternative x
said T s (Message.NoField x) = Diag.no_field x
said T s (Message.NotOneAlternative n) = Diag.not_one_alternative n
said T s (Message.NotAUnion t) = Diag.not_aunion (tree T t)
said T s (Message.NotAFact t) = Diag.not_afact (tree T t)
said T s (Message.NoFields t) = Diag.no_fields (tree T t)
said T s (Message.NoOrder t) = Diag.no_order (zonk s (tree T t))
said T s (Message.Mismatch e g) = Diag.mismatch (tree T e) (tree T g)
said T s (Message.UnionMismatch d e g) = Diag.union_mismatch (diff_of d) (tree T e) (tree T g)
said T s Message.Infinite = Diag.infinite

-- The message of a unification's failure.
abbrev pub report_message : TyError → Message
report_message (TyError.Mismatch e g) = Message.Mismatch e g
report_message (TyError.UnionMismatch d e g) = Message.UnionMismatch d e g
report_message (TyError.UnknownField n) = Message.NoField n
report_message TyError.Infinite = Message.Infinite

-- The types that it shows exist.
abbrev pub OkMessage : List ℕ → Message → Type 0
OkMessage w Message.WildcardHead = Unit {0}
OkMessage w Message.BoundConstant = Unit {0}
OkMessage w Message.DeniedConstant = Unit {0}
OkMessage w Message.MatchedPatterns = Unit {0}
OkMessage w Message.DeniedPattern = Unit {0}
OkMessage w (Message.DistanceOutside d) = Unit {0}
OkMessage w (Message.TermTooLong n) = Unit {0}
OkMessage w Message.UnknownType = Unit {0}
OkMessage w Message.ValueShadowed = Unit {0}
OkMessage w Message.NoValue = Unit {0}
OkMessage w (Message.NoAlternative x) = Unit {0}
OkMessage w (Message.NoField x) = Unit {0}
OkMessage w (Message.NotOneAlternative n) = Unit {0}
OkMessage w (Message.NotAUnion t) = Ok w t
OkMessage w (Message.NotAFact t) = Ok w t
OkMessage w (Message.NoFields t) = Ok w t
OkMessage w (Message.NoOrder t) = Ok w t
OkMessage w (Message.Mismatch e g) = Ok w e × Ok w g
OkMessage w (Message.UnionMismatch d e g) = Ok w e × Ok w g
OkMessage w Message.Infinite = Unit {0}

-- The code does not depend on rows and bindings.
abbrev pub CodeIs : Message → List ℕ → Type 0
CodeIs m code = (T : Rows) (s : Subst) → code ≡ ascii (as_str (code_of (said T s m)))

pub record WritesCode (out : List ℕ) (at : ℕ) (m : Message) (out' : List ℕ) (r : Option ℕ) : Type 0 where
  pub is : (T : Rows) (s : Subst) → WritesText out at (ascii (as_str (code_of (said T s m)))) out' r

-- The text of a message. Whatever the words are, the writer goes forward and stays in the slice.
pub record WritesMessage (f w out : List ℕ) (at : ℕ) (m : Message) (out' : List ℕ) (r : Option ℕ) : Type 0 where
  pub is : (T : Rows) (d : Described) (st : State) → Stands f w T d → Holds w T st → OkMessage w m → at ≤ length out
      → Writes out at (hex_of (message_text d.names d.schema (said T st.subst m))) out' r
  pub moves : Moves out at out' r
