-- `check` of ty.rs, function by function, over the tree. A diagnostic has its message in numbers and types; the texts are those of
-- Messages.antt.
use Rattle.std.specs.Prelude.{Bool, eqb, ltb, length, get_or, take, drop, replicate, None, Option, Some}
use Rattle.std.proofs.Math.Bool.{true, false}
use mathlib.Core.List.{List, [], ◌∷◌, map}
use Prim.Native.Nat.{ℕ, zero, suc, ◌-◌}
use Rattle.unification.specs.Ty.{Leaf, Kind, Ty, Row}
use Rattle.unification.specs.Bindings as Bindings
use Rattle.unification.specs.Bindings.{Answer, State, Snapshot, History}
use Rattle.unification.specs.Unify as Unify
use Rattle.unification.specs.Unify.{TyError, Unified, find_key, find_label}
use Rattle.unification.specs.Calls as Calls
use Rattle.format.specs.Syntax.{Span, Field, QueryStmt, Query, FieldRef, Literal, ExprKind, Node, Ast, node_at, is_destructurable}
use Rattle.format.specs.Schema.{Schema, get, field_of}
use Rattle.meaning.specs.Diag.{Message, Diagnostic}

-- ---- The state, and steps over it

-- What ends a run early besides the visits: nothing, its first diagnostic (card 4), or its n-th entry to `unify`, counted from 0 (card 12).
pub data Until : Type 0 where
  the_end first_diagnostic : Until
  entry : ℕ → Until

-- An entry of the environment: the variable, its unknown, and the node that made the entry (card 9). No unknown has two entries.
pub record Entry : Type 0 where
  pub symbol : ℕ
  pub unknown : ℕ
  pub maker : ℕ

-- `Checker`. Every list is newest first. For card 12: the entries to `unify` from outside it. For card 9: the marks, by the unknowns of
-- the entries of the environment that are marked as used, and the spans of the nodes whose entries left unmarked.
pub record Checker : Type 0 where
  pub state : State
  pub env : List Entry
  pub diagnostics : List Diagnostic
  pub entries : List Calls.UnifyEntry
  pub until : Until
  pub marks : List ℕ
  pub unused : List Span

-- A step goes on with a value, or the run ends in it: the visits ran out, or what it was to last until has come.
pub data Step (A : Type 0) : Type 0 where
  goes : A → Checker → Step A
  out : Checker → Step A

abbrev pub Does : Type 0 → Type 0
Does A = Checker → Step A

unfoldable pub and_then : {A B : Type 0} → Step A → (A → Does B) → Step B
and_then (goes a c) f = f a c
and_then (out c) f = out c

infixl 20 ◌>>=◌
infixl 20 ◌>>◌
abbrev pub ◌>>=◌ : {A B : Type 0} → Does A → (A → Does B) → Does B
◌>>=◌ m f c = and_then (m c) f

abbrev pub ◌>>◌ : {A B : Type 0} → Does A → Does B → Does B
◌>>◌ m n c = and_then (m c) (λ _. n)

abbrev pub return : {A : Type 0} → A → Does A
return a c = goes a c

-- ---- State (ty.rs, "state")

unfoldable pub with_state : Checker → State → Checker
with_state c st = record { state = st; env = c.env; diagnostics = c.diagnostics; entries = c.entries; until = c.until; marks = c.marks; unused = c.unused }

unfoldable pub with_env : Checker → List Entry → Checker
with_env c es = record { state = c.state; env = es; diagnostics = c.diagnostics; entries = c.entries; until = c.until; marks = c.marks; unused = c.unused }

unfoldable pub with_marks : Checker → List ℕ → Checker
with_marks c ms = record { state = c.state; env = c.env; diagnostics = c.diagnostics; entries = c.entries; until = c.until; marks = ms; unused = c.unused }

unfoldable pub with_unused : Checker → List Span → Checker
with_unused c ss = record { state = c.state; env = c.env; diagnostics = c.diagnostics; entries = c.entries; until = c.until; marks = c.marks; unused = ss }

-- The same, to last until something else.
unfoldable pub lasting : Until → Checker → Checker
lasting u c = record { state = c.state; env = c.env; diagnostics = c.diagnostics; entries = c.entries; until = u; marks = c.marks; unused = c.unused }

unfoldable pub with_diagnostics : Checker → List Diagnostic → Checker
with_diagnostics c ds = record { state = c.state; env = c.env; diagnostics = ds; entries = c.entries; until = c.until; marks = c.marks; unused = c.unused }

unfoldable pub with_entries : Checker → List Calls.UnifyEntry → Checker
with_entries c es = record { state = c.state; env = c.env; diagnostics = c.diagnostics; entries = es; until = c.until; marks = c.marks; unused = c.unused }

-- `fresh_var_id`
unfoldable pub fresh_var_id : Does ℕ
unfolding with_state
fresh_var_id c = goes (Bindings.fresh_id c.state) (with_state c (Bindings.fresh c.state))

-- `fresh_var`
unfoldable pub fresh_var : Does Ty
unfolding fresh_var_id and_then
fresh_var = do
  var ← fresh_var_id
  return (Ty.Var var)

-- `lookup`, newest first; it tells which entry was found
unfoldable pub lookup_in : List Entry → ℕ → Option Entry
lookup_in [] symbol = None
lookup_in (e ∷ es) symbol = elim (eqb e.symbol symbol) [ true ↦ Some e | false ↦ lookup_in es symbol ]

unfoldable pub lookup : ℕ → Does (Option Entry)
unfolding lookup_in
lookup symbol c = goes (lookup_in c.env symbol) c

-- `env.push`
unfoldable pub push_env : ℕ → ℕ → ℕ → Does (Unit {0})
unfolding with_env
push_env node symbol var c = goes tt (with_env c (record { symbol = symbol; unknown = var; maker = node } ∷ c.env))

unfoldable pub is_in : ℕ → List ℕ → Bool
is_in x [] = false
is_in x (y ∷ ys) = elim (eqb y x) [ true ↦ true | false ↦ is_in x ys ]

-- Card 9: an entry that a node finds is marked, once, "unless the node that made it is the one looking".
unfoldable pub marked : ℕ → Entry → List ℕ → List ℕ
unfolding is_in
marked node e ms = elim (eqb e.maker node) [ true ↦ ms | false ↦ elim (is_in e.unknown ms) [ true ↦ ms | false ↦ e.unknown ∷ ms ] ]

unfoldable pub mark : ℕ → Entry → Does (Unit {0})
unfolding marked with_marks
mark node e c = goes tt (with_marks c (marked node e c.marks))

-- The unknown of a variable that a node names; one that is new is introduced. Every look-up is one of these.
unfoldable pub introduce : ℕ → ℕ → Does ℕ
unfolding lookup mark fresh_var_id push_env and_then
introduce node symbol = do
  known ← lookup symbol
  elim known [
    | Some e ↦ do
      mark node e
      return e.unknown
    | None ↦ do
      var ← fresh_var_id
      push_env node symbol var
      return var
  ]

-- `annotate`
unfoldable pub annotate : ℕ → Ty → Does (Unit {0})
unfolding with_state
annotate node ty c = goes tt (with_state c (Bindings.annotate c.state node ty))

-- `repr`
unfoldable pub repr : Ty → Does Ty
repr ty c = goes (Bindings.repr c.state.subst ty) c

-- `unify`, with the error as a value
unfoldable pub unified : Checker → Unified → Step (Option TyError)
unfolding with_state
unified c (Unified.Ok st) = goes None (with_state c st)
unified c (Unified.Err e st) = goes (Some e) (with_state c st)
unified c (Unified.Spent st) = out (with_state c st)

unfoldable pub united : Ty → Ty → Does (Option TyError)
unfolding unified
united got expected c = unified c (Unify.unify c.state got expected)

-- The entry is noted before it is made; nothing but a run that is to last until it reads what was noted.
unfoldable pub entered : Ty → Ty → Checker → Checker
unfolding with_entries
entered got expected c = with_entries c (record { before = c.state.subst; got = got; expected = expected } ∷ c.entries)

unfoldable pub arrived : Until → Does (Unit {0})
arrived the_end c = goes tt c
arrived first_diagnostic c = goes tt c
arrived (entry n) c = elim (ltb n (length c.entries)) [ true ↦ out c | false ↦ goes tt c ]

unfoldable pub enter : Ty → Ty → Does (Unit {0})
unfolding entered arrived
enter got expected c = arrived c.until (entered got expected c)

-- From outside: the only place of this file that calls `unify`.
unfoldable pub unify : Ty → Ty → Does (Option TyError)
unfolding enter united and_then
unify got expected = do
  enter got expected
  united got expected

-- `zonk`
unfoldable pub zonk : Ty → Does Ty
zonk ty c = goes (Bindings.zonk c.state.subst ty) c

-- `orderable` of the resolved type
unfoldable pub ordered : Checker → Answer → Step Bool
unfolding with_state
ordered c (Answer.yes_left v) = goes true (with_state c (Bindings.with_left c.state v))
ordered c (Answer.no_left v) = goes false (with_state c (Bindings.with_left c.state v))
ordered c Answer.spent = out (with_state c (Bindings.with_left c.state zero))

unfoldable pub orderable : Ty → Does Bool
unfolding ordered
orderable ty c = ordered c (Unify.orderable (Bindings.zonk c.state.subst ty) c.state.left)

-- `Snapshot`, with the lengths of the environment and of the marks
pub record Mark : Type 0 where
  pub state : Snapshot
  pub env : ℕ
  pub marks : ℕ

-- `snapshot`
unfoldable pub snapshot : Does Mark
snapshot c = goes (record { state = Bindings.snapshot c.state; env = length c.env; marks = length c.marks }) c

-- `env.truncate`
unfoldable pub truncate_env : ℕ → Does (Unit {0})
unfolding with_env
truncate_env n c = goes tt (with_env c (drop (length c.env - n) c.env))

-- Marks are taken back.
unfoldable pub truncate_marks : ℕ → Does (Unit {0})
unfolding with_marks
truncate_marks n c = goes tt (with_marks c (drop (length c.marks - n) c.marks))

-- `rollback`; what left before it stays so
unfoldable pub rollback : Mark → Does (Unit {0})
unfolding truncate_env truncate_marks with_state and_then
rollback at c = and_then (truncate_env at.env (with_state c (Bindings.rollback c.state at.state))) (λ _. truncate_marks at.marks)

-- `env.len()`, `diagnostics.len()`
unfoldable pub env_len : Does ℕ
env_len c = goes (length c.env) c

unfoldable pub diagnostics_len : Does ℕ
diagnostics_len c = goes (length c.diagnostics) c

-- ---- The walk

-- What `bind`, `deny`, `compare`, `check`, `generator` and `query` ask of a node's kind before they visit it.
pub data NodeForm : Type 0 where
  a_wildcard : NodeForm
  a_variable : ℕ → NodeForm
  -- `Lit` and `Prefix`
  a_constant : NodeForm
  a_record : List Field → NodeForm
  a_disjunction : List ℕ → NodeForm
  an_error : NodeForm
  another : NodeForm

unfoldable pub form_of : ExprKind → NodeForm
form_of ExprKind.Wildcard = NodeForm.a_wildcard
form_of (ExprKind.Var x) = NodeForm.a_variable x
form_of (ExprKind.Lit l) = NodeForm.a_constant
form_of (ExprKind.Prefix x) = NodeForm.a_constant
form_of (ExprKind.Record fs) = NodeForm.a_record fs
form_of (ExprKind.Disjunction es) = NodeForm.a_disjunction es
form_of ExprKind.Error = NodeForm.an_error
form_of ExprKind.Never = NodeForm.another
form_of (ExprKind.Fuzzy x d) = NodeForm.another
form_of (ExprKind.Access f e) = NodeForm.another
form_of (ExprKind.Subquery q) = NodeForm.another
form_of (ExprKind.Fact p e) = NodeForm.another
form_of (ExprKind.Arith es) = NodeForm.another
form_of (ExprKind.Select x e) = NodeForm.another

-- What `report` says of an error
unfoldable pub message_of : TyError → Message
message_of (TyError.Mismatch expected got) = Message.mismatch expected got
message_of (TyError.UnionMismatch diff expected got) = Message.union_mismatch diff expected got
message_of (TyError.UnknownField name) = Message.no_field name
message_of TyError.Infinite = Message.infinite

-- A diagnostic was made.
unfoldable pub reported : Does (Unit {0})
reported c = elim c.until [ the_end ↦ goes tt c | first_diagnostic ↦ out c | entry n ↦ goes tt c ]

unfoldable pub is_some : {A : Type 0} → Option A → Bool
is_some None = false
is_some (Some a) = true

-- The three ways to visit a node.
pub record Walk : Type 0 where
  pub infer : ℕ → Does Ty
  pub check : ℕ → Ty → Does (Unit {0})
  pub generator : ℕ → Does Ty

module _ (schema : Schema) (nodes : List Node) where
  unfoldable pub kind : ℕ → ExprKind
  unfolding node_at
  kind n = (node_at nodes n).kind

  unfoldable pub form : ℕ → NodeForm
  unfolding kind form_of
  form n = form_of (kind n)

  -- ---- Entries that leave (card 9)

  -- The spans of the makers of those that are unmarked, "oldest entry first", after the spans that there were.
  unfoldable pub leaving : List ℕ → List Entry → List Span → List Span
  unfolding is_in node_at
  leaving marks [] spans = spans
  leaving marks (e ∷ es) spans = elim (is_in e.unknown marks) [ true ↦ leaving marks es spans | false ↦ (node_at nodes e.maker).span ∷ leaving marks es spans ]

  -- `env.truncate` at the end of a subquery, and the end of the query
  unfoldable pub leave : ℕ → Does (Unit {0})
  unfolding leaving with_env with_unused
  leave n c = goes tt (with_unused (with_env c (drop (length c.env - n) c.env)) (leaving c.marks (take (length c.env - n) c.env) c.unused))

  -- ---- Diagnostics

  unfoldable pub diagnosed : ℕ → Message → Checker → Checker
  unfolding node_at with_diagnostics
  diagnosed node message c = with_diagnostics c (record { message = message; span = (node_at nodes node).span } ∷ c.diagnostics)

  -- `reject`, `nyi`
  unfoldable pub reject : ℕ → Message → Does (Unit {0})
  unfolding diagnosed reported
  reject node message c = reported (diagnosed node message c)

  -- `reject_ty`
  unfoldable pub reject_ty : ℕ → Message → Does Ty
  unfolding reject and_then
  reject_ty node message = do
    reject node message
    return Ty.Error

  -- `report`
  unfoldable pub report : ℕ → TyError → Does (Unit {0})
  unfolding reject message_of
  report node err = reject node (message_of err)

  -- `if let Err(err) = self.unify(got, expected) { self.report(node, err) }`
  unfoldable pub unify_at : ℕ → Ty → Ty → Does (Unit {0})
  unfolding unify report and_then
  unify_at node got expected = do
    failed ← unify got expected
    elim failed [ None ↦ return tt | Some err ↦ report node err ]

  -- `unresolved`
  unfoldable pub unresolved : ℕ → Does Ty
  unfolding reject_ty
  unresolved node = reject_ty node Message.unknown_type

  -- ---- Schema and names

  unfoldable pub key_ty : ℕ → Option Ty
  unfolding get
  key_ty p = elim (get schema p) [ None ↦ None | Some d ↦ Some d.key ]

  unfoldable pub value_ty : ℕ → Option Ty
  unfolding get
  value_ty p = elim (get schema p) [ None ↦ None | Some d ↦ d.value ]

  -- `key_shadows_value`: a key field called `value`
  unfoldable pub key_shadows_value : ℕ → Bool
  unfolding key_ty field_of is_some
  key_shadows_value p = elim (key_ty p) [
    | None ↦ false
    | Some key ↦ elim schema.value_field [ None ↦ false | Some value ↦ is_some (field_of key value) ]
  ]

  -- ---- `access`, on the resolved base

  -- `.value`
  unfoldable pub value_of : ℕ → Ty → Does Ty
  unfolding key_shadows_value value_ty reject_ty unresolved
  value_of id Ty.Error = return Ty.Error
  value_of id (Ty.leaf (Leaf.Fact p)) = elim (key_shadows_value p) [
    | true ↦ reject_ty id Message.value_shadowed
    | false ↦ elim (value_ty p) [ Some ty ↦ return ty | None ↦ reject_ty id Message.no_value ]
  ]
  value_of id (Ty.leaf Leaf.Int) = reject_ty id (Message.not_afact (Ty.leaf Leaf.Int))
  value_of id (Ty.leaf Leaf.String) = reject_ty id (Message.not_afact (Ty.leaf Leaf.String))
  value_of id (Ty.leaf Leaf.Bytes) = reject_ty id (Message.not_afact (Ty.leaf Leaf.Bytes))
  value_of id (Ty.node k r) = reject_ty id (Message.not_afact (Ty.node k r))
  value_of id (Ty.Var x) = unresolved id

  unfoldable pub field_at : ℕ → ℕ → Ty → Does Ty
  unfolding field_of reject_ty
  field_at id name ty = elim (field_of ty name) [ Some field ↦ return field | None ↦ reject_ty id (Message.no_field name) ]

  -- `.field`; on a fact it is the key's field, and a fact of an absent predicate is Error without a diagnostic
  unfoldable pub key_of : ℕ → ℕ → Ty → Does Ty
  unfolding key_ty field_at reject_ty unresolved
  key_of id name Ty.Error = return Ty.Error
  key_of id name (Ty.leaf (Leaf.Fact p)) = elim (key_ty p) [ Some key ↦ field_at id name key | None ↦ return Ty.Error ]
  key_of id name (Ty.leaf Leaf.Int) = reject_ty id (Message.no_fields (Ty.leaf Leaf.Int))
  key_of id name (Ty.leaf Leaf.String) = reject_ty id (Message.no_fields (Ty.leaf Leaf.String))
  key_of id name (Ty.leaf Leaf.Bytes) = reject_ty id (Message.no_fields (Ty.leaf Leaf.Bytes))
  key_of id name (Ty.node Kind.Record r) = field_at id name (Ty.node Kind.Record r)
  key_of id name (Ty.node Kind.Union r) = reject_ty id (Message.no_fields (Ty.node Kind.Union r))
  key_of id name (Ty.Var x) = unresolved id

  -- The `Select` arm of `infer`, on the resolved base
  unfoldable pub select_of : ℕ → ℕ → Ty → Does Ty
  unfolding find_label reject_ty unresolved
  select_of id name Ty.Error = return Ty.Error
  select_of id name (Ty.node Kind.Union r) = elim (find_label name r) [ Some payload ↦ return payload | None ↦ reject_ty id (Message.no_alternative name) ]
  select_of id name (Ty.node Kind.Record r) = reject_ty id (Message.not_aunion (Ty.node Kind.Record r))
  select_of id name (Ty.leaf p) = reject_ty id (Message.not_aunion (Ty.leaf p))
  select_of id name (Ty.Var x) = unresolved id

  -- ---- The parts of a node or a statement; `below` visits the nodes that it names

  unfoldable pub access_of : ℕ → FieldRef → Ty → Does Ty
  unfolding value_of key_of
  access_of id FieldRef.Value ty = value_of id ty
  access_of id (FieldRef.Key name) ty = key_of id name ty

  unfoldable pub access : Walk → ℕ → FieldRef → ℕ → Does Ty
  unfolding access_of repr and_then
  access below id field base = do
    baseTy ← below.infer base
    head ← repr baseTy
    access_of id field head

  unfoldable pub select : Walk → ℕ → ℕ → ℕ → Does Ty
  unfolding select_of repr and_then
  select below id name base = do
    baseTy ← below.infer base
    head ← repr baseTy
    select_of id name head

  -- Both bounds of a fuzzy pattern, the distance first
  unfoldable pub fuzzy_distance : ℕ → ℕ → Does (Unit {0})
  unfolding reject
  fuzzy_distance id zero = reject id (Message.distance_outside zero)
  fuzzy_distance id (suc d) = elim (ltb schema.max_distance (suc d)) [ true ↦ reject id (Message.distance_outside (suc d)) | false ↦ return tt ]

  unfoldable pub fuzzy_term : ℕ → ℕ → Does (Unit {0})
  unfolding reject
  fuzzy_term id text = elim (ltb schema.max_term_chars (get_or schema.characters text 0))
      [ true ↦ reject id (Message.term_too_long (get_or schema.characters text 0)) | false ↦ return tt ]

  -- A record's fields, in order
  unfoldable pub infer_fields : Walk → List Field → Does Row
  unfolding and_then
  infer_fields below [] = return Row.ε
  infer_fields below (f ∷ fs) = do
    ty ← below.infer f.value
    row ← infer_fields below fs
    return (Row.cell f.name 0 ty row)

  -- Each operand or branch, unified with one type
  unfoldable pub infer_all : Walk → Ty → List ℕ → Does (Unit {0})
  unfolding unify_at and_then
  infer_all below with-ty [] = return tt
  infer_all below with-ty (e ∷ es) = do
    ty ← below.infer e
    unify_at e ty with-ty
    infer_all below with-ty es

  unfoldable pub disjunction : Walk → List ℕ → Does Ty
  unfolding fresh_var infer_all and_then
  disjunction below branches = do
    result ← fresh_var
    infer_all below result branches
    return result

  unfoldable pub fact : Walk → ℕ → ℕ → Does Ty
  unfolding key_ty and_then
  fact below p key = elim (key_ty p) [
    | Some ty ↦ do
      below.check key ty
      return (Ty.leaf (Leaf.Fact p))
    | None ↦ return (Ty.leaf (Leaf.Fact p))
  ]

  -- `bind` and `deny` with a variable on the left; it is introduced before the right side is inferred.
  unfoldable pub bind_variable : Walk → ℕ → ℕ → ℕ → Does (Unit {0})
  unfolding introduce annotate unify_at and_then
  bind_variable below symbol lhs rhs = do
    var ← introduce lhs symbol
    annotate lhs (Ty.Var var)
    ty ← below.infer rhs
    unify_at rhs ty (Ty.Var var)

  -- A left side that can't be a target: the right side is inferred all the same.
  unfoldable pub bad_target : Walk → Message → ℕ → ℕ → Does (Unit {0})
  unfolding reject and_then
  bad_target below message lhs rhs = do
    reject lhs message
    below.infer rhs
    return tt

  unfoldable pub only_right : Walk → ℕ → Does (Unit {0})
  unfolding and_then
  only_right below rhs = do
    below.infer rhs
    return tt

  unfoldable pub not_yet : Walk → Message → ℕ → ℕ → Does (Unit {0})
  unfolding reject and_then
  not_yet below message lhs rhs = do
    reject lhs message
    below.infer lhs
    below.infer rhs
    return tt

  -- A record on the left: the left side first, so that its variables are introduced before the right side is inferred.
  unfoldable pub destructure : Walk → ℕ → ℕ → Does (Unit {0})
  unfolding unify_at and_then
  destructure below lhs rhs = do
    pattern ← below.infer lhs
    value ← below.infer rhs
    unify_at rhs value pattern

  unfoldable pub bind_wildcard : Walk → ℕ → ℕ → Does (Unit {0})
  unfolding annotate and_then
  bind_wildcard below lhs rhs = do
    ty ← below.infer rhs
    annotate lhs ty

  -- `bind`
  unfoldable pub bind_form : Walk → NodeForm → ℕ → ℕ → Does (Unit {0})
  unfolding bind_variable bad_target only_right not_yet destructure bind_wildcard is_destructurable
  bind_form below NodeForm.a_wildcard lhs rhs = bind_wildcard below lhs rhs
  bind_form below (NodeForm.a_variable symbol) lhs rhs = bind_variable below symbol lhs rhs
  bind_form below (NodeForm.a_record fs) lhs rhs =
      elim (is_destructurable nodes lhs) [ true ↦ destructure below lhs rhs | false ↦ not_yet below Message.matched_patterns lhs rhs ]
  bind_form below NodeForm.a_constant lhs rhs = bad_target below Message.bound_constant lhs rhs
  bind_form below NodeForm.an_error lhs rhs = only_right below rhs
  bind_form below (NodeForm.a_disjunction es) lhs rhs = not_yet below Message.matched_patterns lhs rhs
  bind_form below NodeForm.another lhs rhs = not_yet below Message.matched_patterns lhs rhs

  -- `deny`
  unfoldable pub deny_form : Walk → NodeForm → ℕ → ℕ → Does (Unit {0})
  unfolding bind_variable bad_target only_right not_yet
  deny_form below (NodeForm.a_variable symbol) lhs rhs = bind_variable below symbol lhs rhs
  deny_form below NodeForm.a_wildcard lhs rhs = bad_target below Message.denied_constant lhs rhs
  deny_form below NodeForm.a_constant lhs rhs = bad_target below Message.denied_constant lhs rhs
  deny_form below NodeForm.an_error lhs rhs = only_right below rhs
  deny_form below (NodeForm.a_record fs) lhs rhs = not_yet below Message.denied_pattern lhs rhs
  deny_form below (NodeForm.a_disjunction es) lhs rhs = not_yet below Message.denied_pattern lhs rhs
  deny_form below NodeForm.another lhs rhs = not_yet below Message.denied_pattern lhs rhs

  -- A side of a comparison that is a variable is introduced before anything is inferred.
  unfoldable pub introduce_side : ℕ → NodeForm → Does (Unit {0})
  unfolding introduce and_then
  introduce_side node (NodeForm.a_variable symbol) = do
    introduce node symbol
    return tt
  introduce_side node NodeForm.a_wildcard = return tt
  introduce_side node NodeForm.a_constant = return tt
  introduce_side node NodeForm.an_error = return tt
  introduce_side node (NodeForm.a_record fs) = return tt
  introduce_side node (NodeForm.a_disjunction es) = return tt
  introduce_side node NodeForm.another = return tt

  -- The two sides agree: the type must have an order.
  unfoldable pub compare_order : ℕ → Ty → Does (Unit {0})
  unfolding orderable zonk reject and_then
  compare_order lhs left = do
    hasOrder ← orderable left
    resolved ← zonk left
    elim hasOrder [ true ↦ return tt | false ↦ reject lhs (Message.no_order resolved) ]

  -- `compare`
  unfoldable pub compare : Walk → ℕ → ℕ → Does (Unit {0})
  unfolding introduce_side form unify report compare_order and_then
  compare below lhs rhs = do
    introduce_side lhs (form lhs)
    introduce_side rhs (form rhs)
    left ← below.infer lhs
    right ← below.infer rhs
    failed ← unify right left
    elim failed [ Some err ↦ report rhs err | None ↦ compare_order lhs left ]

  unfoldable pub generate : Walk → ℕ → Does (Unit {0})
  unfolding and_then
  generate below id = do
    below.generator id
    return tt

  -- `stmt`; a negation is a generator, typed as one
  unfoldable pub stmt : Walk → QueryStmt → Does (Unit {0})
  unfolding generate bind_form deny_form compare form
  stmt below (QueryStmt.Implicit id) = generate below id
  stmt below (QueryStmt.Negation id) = generate below id
  stmt below (QueryStmt.Bind lhs rhs) = bind_form below (form lhs) lhs rhs
  stmt below (QueryStmt.Deny lhs rhs) = deny_form below (form lhs) lhs rhs
  stmt below (QueryStmt.Compare lhs rhs) = compare below lhs rhs

  unfoldable pub stmts : Walk → List QueryStmt → Does (Unit {0})
  unfolding stmt and_then
  stmts below [] = return tt
  stmts below (s ∷ ss) = do
    stmt below s
    stmts below ss

  -- A subquery's variables are its own: the environment is cut back, and only that.
  unfoldable pub subquery : Walk → Query → Does Ty
  unfolding env_len stmts leave and_then
  subquery below q = do
    scope ← env_len
    stmts below q.body
    ty ← below.infer q.head
    leave scope
    return ty

  -- ---- `infer`

  unfoldable pub infer_kind : Walk → ℕ → ExprKind → Does Ty
  unfolding fuzzy_distance fuzzy_term fresh_var introduce infer_all infer_fields access fact select disjunction subquery and_then
  infer_kind below id (ExprKind.Lit Literal.Int) = return (Ty.leaf Leaf.Int)
  infer_kind below id (ExprKind.Lit Literal.Bytes) = return (Ty.leaf Leaf.Bytes)
  infer_kind below id (ExprKind.Lit Literal.Str) = return (Ty.leaf Leaf.String)
  infer_kind below id (ExprKind.Prefix x) = return (Ty.leaf Leaf.String)
  infer_kind below id (ExprKind.Fuzzy text distance) = do
    fuzzy_distance id distance
    fuzzy_term id text
    return (Ty.leaf Leaf.String)
  infer_kind below id ExprKind.Wildcard = fresh_var
  infer_kind below id ExprKind.Error = return Ty.Error
  infer_kind below id (ExprKind.Var symbol) = do
    var ← introduce id symbol
    return (Ty.Var var)
  infer_kind below id (ExprKind.Arith operands) = do
    infer_all below (Ty.leaf Leaf.Int) operands
    return (Ty.leaf Leaf.Int)
  infer_kind below id (ExprKind.Record fs) = do
    row ← infer_fields below fs
    return (Ty.node Kind.Record row)
  infer_kind below id (ExprKind.Access field base) = access below id field base
  infer_kind below id (ExprKind.Fact p key) = fact below p key
  infer_kind below id ExprKind.Never = fresh_var
  infer_kind below id (ExprKind.Select name base) = select below id name base
  infer_kind below id (ExprKind.Disjunction branches) = disjunction below branches
  infer_kind below id (ExprKind.Subquery q) = subquery below q

  unfoldable pub infer_at : Walk → ℕ → Does Ty
  unfolding infer_kind kind annotate and_then
  infer_at below id = do
    ty ← infer_kind below id (kind id)
    annotate id ty
    return ty

  -- ---- `check`

  -- `infer_then_unify`: it rolls back, and then reports
  unfoldable pub infer_then_unify : Walk → ℕ → Ty → Does (Unit {0})
  unfolding snapshot infer_at unify rollback report and_then
  infer_then_unify below id expected = do
    at ← snapshot
    inferred ← infer_at below id
    failed ← unify inferred expected
    elim failed [
      | None ↦ return tt
      | Some err ↦ do
        rollback at
        report id err
    ]

  -- A field in a scope of its own: whatever diagnostic arose inside it, it is rolled back.
  unfoldable pub check_field : Walk → ℕ → Ty → Does (Unit {0})
  unfolding diagnostics_len snapshot rollback and_then
  check_field below value ty = do
    before ← diagnostics_len
    at ← snapshot
    below.check value ty
    after ← diagnostics_len
    elim (ltb before after) [ true ↦ rollback at | false ↦ return tt ]

  -- An unknown field is reported at the value, which stays unvisited.
  unfoldable pub check_mentioned : Walk → Field → Option (ℕ × Ty) → Does (Unit {0})
  unfolding check_field reject
  check_mentioned below f (Some field) = check_field below f.value field.1
  check_mentioned below f None = reject f.value (Message.no_field f.name)

  -- Only the fields that the pattern mentions are checked.
  unfoldable pub check_fields : Walk → List Field → Row → Does (Unit {0})
  unfolding check_mentioned find_key and_then
  check_fields below [] row = return tt
  check_fields below (f ∷ fs) row = do
    check_mentioned below f (find_key f.name row)
    check_fields below fs row

  -- `{alt = p}` against a union is that alternative.
  unfoldable pub check_alternative : Walk → ℕ → Field → Row → Does (Unit {0})
  unfolding find_label annotate reject and_then
  check_alternative below id f row = elim (find_label f.name row) [
    | Some payload ↦ do
      below.check f.value payload
      annotate id (Ty.node Kind.Union row)
    | None ↦ reject id (Message.no_alternative f.name)
  ]

  unfoldable pub check_union : Walk → ℕ → List Field → Row → Does (Unit {0})
  unfolding check_alternative reject
  check_union below id [] row = reject id (Message.not_one_alternative 0)
  check_union below id (f ∷ []) row = check_alternative below id f row
  check_union below id (f ∷ g ∷ fs) row = reject id (Message.not_one_alternative (length (f ∷ g ∷ fs)))

  unfoldable pub check_record : Walk → ℕ → List Field → Ty → Does (Unit {0})
  unfolding check_fields check_union annotate infer_then_unify and_then
  check_record below id fs (Ty.node Kind.Record row) = do
    check_fields below fs row
    annotate id (Ty.node Kind.Record row)
  check_record below id fs (Ty.node Kind.Union row) = check_union below id fs row
  check_record below id fs (Ty.leaf p) = infer_then_unify below id (Ty.leaf p)
  check_record below id fs (Ty.Var x) = infer_then_unify below id (Ty.Var x)
  check_record below id fs Ty.Error = infer_then_unify below id Ty.Error

  unfoldable pub check_form : Walk → ℕ → NodeForm → Ty → Does (Unit {0})
  unfolding annotate check_record infer_then_unify
  check_form below id NodeForm.a_wildcard expected = annotate id expected
  check_form below id (NodeForm.a_record fs) expected = check_record below id fs expected
  check_form below id (NodeForm.a_variable x) expected = infer_then_unify below id expected
  check_form below id NodeForm.a_constant expected = infer_then_unify below id expected
  check_form below id NodeForm.an_error expected = infer_then_unify below id expected
  check_form below id (NodeForm.a_disjunction es) expected = infer_then_unify below id expected
  check_form below id NodeForm.another expected = infer_then_unify below id expected

  -- Against Error nothing is visited.
  unfoldable pub check_against : Walk → ℕ → Ty → Does (Unit {0})
  unfolding check_form form
  check_against below id Ty.Error = return tt
  check_against below id (Ty.leaf p) = check_form below id (form id) (Ty.leaf p)
  check_against below id (Ty.node k r) = check_form below id (form id) (Ty.node k r)
  check_against below id (Ty.Var x) = check_form below id (form id) (Ty.Var x)

  unfoldable pub check_at : Walk → ℕ → Ty → Does (Unit {0})
  unfolding repr check_against and_then
  check_at below id expected = do
    head ← repr expected
    check_against below id head

  -- ---- `generator`: branches are not unified

  unfoldable pub generate_branches : Walk → Ty → List ℕ → Does Ty
  unfolding and_then
  generate_branches below last [] = return last
  generate_branches below last (e ∷ es) = do
    ty ← below.generator e
    generate_branches below ty es

  unfoldable pub generator_form : Walk → ℕ → NodeForm → Does Ty
  unfolding generate_branches annotate infer_at and_then
  generator_form below id (NodeForm.a_disjunction es) = do
    last ← generate_branches below Ty.Error es
    annotate id last
    return last
  generator_form below id NodeForm.a_wildcard = infer_at below id
  generator_form below id (NodeForm.a_variable x) = infer_at below id
  generator_form below id NodeForm.a_constant = infer_at below id
  generator_form below id NodeForm.an_error = infer_at below id
  generator_form below id (NodeForm.a_record fs) = infer_at below id
  generator_form below id NodeForm.another = infer_at below id

  unfoldable pub generator_at : Walk → ℕ → Does Ty
  unfolding generator_form form
  generator_at below id = generator_form below id (form id)

  -- ---- The whole

  -- The number bounds the depth; a node names only lower ones, so any above the node's own number serves.
  unfoldable pub walk : ℕ → Walk
  unfolding infer_at check_at generator_at
  walk zero = record { infer = λ id. return Ty.Error; check = λ id ty. return tt; generator = λ id. return Ty.Error }
  walk (suc d) = record {
    infer = λ id. infer_at (walk d) id;
    check = λ id ty. check_at (walk d) id ty;
    generator = λ id. generator_at (walk d) id;
  }

  -- A wildcard head is rejected, and inferred all the same.
  unfoldable pub head_form : ℕ → NodeForm → Does (Unit {0})
  unfolding reject
  head_form head NodeForm.a_wildcard = reject head Message.wildcard_head
  head_form head (NodeForm.a_variable x) = return tt
  head_form head NodeForm.a_constant = return tt
  head_form head NodeForm.an_error = return tt
  head_form head (NodeForm.a_record fs) = return tt
  head_form head (NodeForm.a_disjunction es) = return tt
  head_form head NodeForm.another = return tt

  -- `query`: the head is inferred last, since it reads variables that the body binds.
  unfoldable pub infer_query : Query → Does Ty
  unfolding walk stmts head_form form and_then
  infer_query q = do
    stmts (walk (length nodes)) q.body
    head_form q.head (form q.head)
    (walk (length nodes)).infer q.head

  -- At its end every entry leaves.
  unfoldable pub query : Query → Does Ty
  unfolding infer_query leave and_then
  query q = do
    ty ← infer_query q
    leave 0
    return ty

-- `check`: what each node's type is, resolved, the diagnostics in order, and the spans of entries that left unmarked, in order of
-- leaving; or the visits ran out.
pub record Typed : Type 0 where
  pub tys : List (Option Ty)
  pub diagnostics : List Diagnostic
  pub unused : List Span
  pub visits : ℕ

pub data Checked : Type 0 where
  typed : Typed → Checked
  exhausted : Checked

-- No unknown, no diagnostic, and so many visits.
unfoldable pub begin_until : Until → ℕ → ℕ → Checker
begin_until until ceiling n = record {
  state = record { subst = []; tys = replicate n None; undo = []; left = ceiling; history = History.start };
  env = [];
  diagnostics = [];
  entries = [];
  until = until;
  marks = [];
  unused = [];
}

unfoldable pub begin : ℕ → ℕ → Checker
unfolding begin_until
begin ceiling n = begin_until the_end ceiling n

unfoldable pub zonked : State → Option Ty → Option Ty
zonked st None = None
zonked st (Some ty) = Some (Bindings.zonk st.subst ty)

unfoldable pub reversed : {A : Type 0} → List A → List A → List A
reversed [] done = done
reversed (a ∷ rest) done = reversed rest (a ∷ done)

unfoldable pub checked : ℕ → Step Ty → Checked
unfolding zonked reversed
checked ceiling (goes ty c) = typed (record {
  tys = map (zonked c.state) c.state.tys;
  diagnostics = reversed c.diagnostics [];
  unused = reversed c.unused [];
  visits = ceiling - c.state.left;
})
checked ceiling (out c) = exhausted

-- The ceiling is the number of visits that are allowed.
unfoldable pub check : ℕ → Schema → Ast → Checked
unfolding query begin checked
check ceiling schema ast = checked ceiling (query schema ast.nodes ast.query (begin ceiling (length ast.nodes)))
