-- An arm for several variants: which form of node, or which type, it is for.
use mathlib.Core.List.{List, [], ◌∷◌}
use mathlib.Core.Path.{◌≡◌, refl}
use Prim.Native.Nat.{ℕ}
use native.Mathlib.Omega.{arith}
use types.Run.{OneOf, miss}
use denote.Enum.Declared.{tag_of}
use Rattle.cells.specs.declared.Ty.{Ty}
use Rattle.cells.specs.declared.Ty.TheVariants.{Int, Str, Bytes, Fact, Record, Union, Var, Error}
use Rattle.cells.specs.Words.{tag_w}
use Rattle.cells.specs.contracts.Ty as ty
use Rattle.meaning.specs.Diag as Diag
use Rattle.meaning.specs.Check.{form_of, deny_form, bad_target}
use Rattle.messages.specs.declared.Message.TheVariants as Message
use Rattle.tree.specs.declared.Node.{Node}
use Rattle.tree.specs.declared.items.Items.{Items}
use Rattle.tree.specs.Nodes.{IsNode, kind_w}
use Rattle.tree.specs.contracts.Node.{the_type}
use Rattle.steps.specs.Promises.{nodes_of}
use Rattle.steps.proofs.Forms.{by_form}
use Rattle.checker.specs.Promises.{Denies, InfersThenUnifies}
use Rattle.checker.proofs.Within.{BadTargets, plainly, ChecksRecord}
use Rattle.checker.proofs.Bodies.{Later, DeniedLater, deny_as}
use Rattle.checker.proofs.Against.{Inferred, NoCell, record_other}
use Rattle.std.specs.Prelude.{Option}

pub later : (f : List ℕ) (nd : Node) → OneOf (5 ∷ 7 ∷ 9 ∷ 10 ∷ 11 ∷ 12 ∷ 13 ∷ 14 ∷ 16 ∷ []) (tag_of the_type nd) → Later (form_of (kind_w f nd))
later f nd x = by_form f (5 ∷ 7 ∷ 9 ∷ 10 ∷ 11 ∷ 12 ∷ 13 ∷ 14 ∷ 16 ∷ []) Later (record {
  wildcard = λ h. h;
  variable = λ v h. h;
  constant = λ h. h;
  fields = λ fs h. h;
  branches = λ es h. tt;
  failed = λ h. h;
  other = λ h. tt;
}) nd x

pub denied_later : (f : List ℕ) (nd : Node) → OneOf (5 ∷ 7 ∷ 8 ∷ 9 ∷ 10 ∷ 11 ∷ 12 ∷ 13 ∷ 14 ∷ 16 ∷ []) (tag_of the_type nd)
    → DeniedLater (form_of (kind_w f nd))
denied_later f nd x = by_form f (5 ∷ 7 ∷ 8 ∷ 9 ∷ 10 ∷ 11 ∷ 12 ∷ 13 ∷ 14 ∷ 16 ∷ []) DeniedLater (record {
  wildcard = λ h. h;
  variable = λ v h. h;
  constant = λ h. h;
  fields = λ fs h. tt;
  branches = λ es h. tt;
  failed = λ h. h;
  other = λ h. tt;
}) nd x

pub inferred : (f : List ℕ) (nd : Node) → OneOf (0 ∷ 1 ∷ 2 ∷ 3 ∷ 5 ∷ 6 ∷ 7 ∷ 9 ∷ 10 ∷ 11 ∷ 12 ∷ 13 ∷ 14 ∷ 15 ∷ 16 ∷ []) (tag_of the_type nd)
    → Inferred (form_of (kind_w f nd))
inferred f nd x = by_form f (0 ∷ 1 ∷ 2 ∷ 3 ∷ 5 ∷ 6 ∷ 7 ∷ 9 ∷ 10 ∷ 11 ∷ 12 ∷ 13 ∷ 14 ∷ 15 ∷ 16 ∷ []) Inferred (record {
  wildcard = λ h. h;
  variable = λ v h. tt;
  constant = λ h. tt;
  fields = λ fs h. h;
  branches = λ es h. tt;
  failed = λ h. tt;
  other = λ h. tt;
}) nd x

-- A wildcard or a constant cannot be denied.
pub deny_target : {f w ou w' ou' : List ℕ} {lhs rhs left : ℕ} {r : Option ℕ} {nd : Node} → OneOf (4 ∷ 0 ∷ 1 ∷ 2 ∷ 6 ∷ []) (tag_of the_type nd)
    → IsNode f w lhs nd → BadTargets Message.DeniedConstant f w ou lhs rhs left w' ou' r
    → Denies f w ou lhs rhs left w' ou' r
unfolding deny_form
deny_target {f} {lhs = lhs} {rhs = rhs} {nd = nd} x i S = deny_as i (λ d b x y. bad_target d.schema (nodes_of d) b Diag.denied_constant x y)
    (λ d b c. by_form f (4 ∷ 0 ∷ 1 ∷ 2 ∷ 6 ∷ [])
    (λ q. deny_form d.schema (nodes_of d) b q lhs rhs c ≡ bad_target d.schema (nodes_of d) b Diag.denied_constant lhs rhs c) (record {
      wildcard = λ h. refl;
      variable = λ v h. absurd h;
      constant = λ h. refl;
      fields = λ fs h. absurd h;
      branches = λ es h. absurd h;
      failed = λ h. absurd h;
      other = λ h. absurd h;
    }) nd x) (plainly Diag.denied_constant (λ T s. refl) tt S)

pub no_disjunction : {nd : Node} → OneOf (0 ∷ 1 ∷ 2 ∷ 3 ∷ 4 ∷ 5 ∷ 6 ∷ 7 ∷ 8 ∷ 9 ∷ 10 ∷ 12 ∷ 13 ∷ 14 ∷ 15 ∷ 16 ∷ []) (tag_of the_type nd) → (l : Items)
    → ¬ (nd ≡ Node.Disjunction l)
no_disjunction x l e = miss (0 ∷ 1 ∷ 2 ∷ 3 ∷ 4 ∷ 5 ∷ 6 ∷ 7 ∷ 8 ∷ 9 ∷ 10 ∷ 12 ∷ 13 ∷ 14 ∷ 15 ∷ 16 ∷ []) 11 tt (rw e at x)

no_cell_by : (t : Ty) → OneOf (0 ∷ 1 ∷ 2 ∷ 3 ∷ 6 ∷ 7 ∷ []) (tag_of ty.the_type t) → NoCell t
no_cell_by Int x = tt
no_cell_by Str x = tt
no_cell_by Bytes x = tt
no_cell_by (Fact p) x = tt
no_cell_by (Record c) x = miss (0 ∷ 1 ∷ 2 ∷ 3 ∷ 6 ∷ 7 ∷ []) 4 tt x
no_cell_by (Union c) x = miss (0 ∷ 1 ∷ 2 ∷ 3 ∷ 6 ∷ 7 ∷ []) 5 tt x
no_cell_by (Var v) x = tt
no_cell_by Error x = tt

pub no_error : (t : Ty) → OneOf (0 ∷ 1 ∷ 2 ∷ 3 ∷ 4 ∷ 5 ∷ 6 ∷ []) (tag_of ty.the_type t) → ¬ (tag_w t ≡ 8)
no_error Int x q = omega (arith, q)
no_error Str x q = omega (arith, q)
no_error Bytes x q = omega (arith, q)
no_error (Fact p) x q = omega (arith, q)
no_error (Record c) x q = omega (arith, q)
no_error (Union c) x q = omega (arith, q)
no_error (Var v) x q = omega (arith, q)
no_error Error x q = miss (0 ∷ 1 ∷ 2 ∷ 3 ∷ 4 ∷ 5 ∷ 6 ∷ []) 7 tt x

pub record_whole : {f w ou w' ou' : List ℕ} {n left : ℕ} {l : Items} {t : Ty} {r : Option ℕ} → InfersThenUnifies f w ou n t left w' ou' r
    → OneOf (0 ∷ 1 ∷ 2 ∷ 3 ∷ 6 ∷ 7 ∷ []) (tag_of ty.the_type t)
    → ChecksRecord f w ou n l t left w' ou' r
record_whole {t = t} I x = record_other (no_cell_by t x) I
