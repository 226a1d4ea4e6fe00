-- What a visit of a node makes: each function of the checker meets its grade if the visits below do. A node annotates at most
-- itself and the nodes under it; it makes at most one unknown and three diagnostics of its own.
use mathlib.Core.Bool.{Bool, true, false}
use mathlib.Core.List.{List, [], ◌∷◌}
use mathlib.Core.Path.{◌≡◌, refl, ap}
use Prim.Native.Nat.{ℕ, zero, suc, ◌+◌, ◌-◌, ◌*◌, ◌≤◌}
use native.Mathlib.Omega.{arith}
use lib.Dec.{eqb, ltb}
use lib.ListN.{length, get_or}
use Rattle.unification.specs.Ty.{Leaf, Kind, Ty, Row}
use Rattle.unification.specs.Bindings as Bindings
use Rattle.unification.specs.Unify.{TyError, find_key, find_label}
use Rattle.unification.specs.Calls.{Declared, DeclaredRow, Side, SideRow}
use Rattle.unification.proofs.Tests.{clash}
use Rattle.unification.proofs.Sides.{side_row_more, declared_side, Part, find_part, Field, fields, side_follow}
use Rattle.format.specs.Syntax.{QueryStmt, Query, FieldRef, Literal, ExprKind, Node, node_at, is_destructurable}
use Rattle.format.specs.Syntax as Syntax
use Rattle.format.specs.Schema.{Predicate, Schema, get, field_of}
use Rattle.meaning.specs.Diag.{Message}
use Rattle.format.specs.References.{field_values, stmt_nodes, query_nodes, expr_nodes}
use Rattle.format.specs.All.{All}
use Rattle.format.specs.Sound.{DeclaredOption, DeclaredPredicate}
use Rattle.meaning.specs.Check.{Checker, goes, Does, and_then, fresh_var_id, fresh_var, introduce, annotate, repr, unify, orderable, snapshot, rollback}
use Rattle.meaning.specs.Check.{diagnostics_len, NodeForm, a_wildcard, a_variable, a_constant, a_record, a_disjunction, an_error, another, form_of, Walk, kind}
use Rattle.meaning.specs.Check.{form, reject, reject_ty, report, unify_at, unresolved, key_ty, value_ty, key_shadows_value, value_of, field_at, key_of}
use Rattle.meaning.specs.Check.{select_of, access_of, access, select, fuzzy_distance, fuzzy_term, infer_fields, infer_all, disjunction, fact, bind_variable}
use Rattle.meaning.specs.Check.{bad_target, only_right, not_yet, destructure, bind_wildcard, bind_form, deny_form, introduce_side, compare_order, compare}
use Rattle.meaning.specs.Check.{generate, stmt, stmts, subquery, infer_kind, infer_at, infer_then_unify, check_field, check_mentioned, check_fields}
use Rattle.meaning.specs.Check.{check_alternative, check_union, check_record, check_form, check_against, check_at, generate_branches, generator_form}
use Rattle.meaning.specs.Check.{generator_at, walk, head_form, infer_query, query}
use Rattle.meaning.specs.Weights.{same, sum_of, weight, size}
use Rattle.meaning.specs.Grades.{Grade, plus, GradeFits, unknowns, Orderly, Ready, no_thing, one_diagnostic, one_unknown, one_node, Known, inferring}
use Rattle.meaning.specs.Grades.{finding, checking, visiting, within, early, introducing}
use Rattle.meaning.proofs.Meets.{Made, Went, Meets, going, made_more, made_side, stays, ready_fits, meets_after, meets_then, meets_from, meets_fits}
use Rattle.meaning.proofs.Meets.{went_with, meets_nest}
use Rattle.meaning.proofs.Steps.{Nothing, IsSide, IsUnknown, reject_meets, reject_if, reject_unless, fresh_var_id_meets, made_known, introduce_known}
use Rattle.meaning.proofs.Steps.{introduce_meets, annotate_meets, unify_meets, unify_at_meets, orderable_meets, rolled_meets, leave_meets}
use Rattle.std.specs.Prelude.{None, Option, Some, slice_get}

pub size_pos : (nodes : List Node) (d n : ℕ) → 1 ≤ size nodes d n
unfolding weight
size_pos nodes zero n = omega arith
size_pos nodes (suc d) n = omega arith

pub own_weight : (nodes : List Node) (own : ℕ → ℕ) (d n : ℕ) → own n ≤ weight nodes own d n
unfolding weight
own_weight nodes own zero n = omega arith
own_weight nodes own (suc d) n = omega arith

-- ---- What is asked of the visits below
pub record Good (nodes : List Node) (d : ℕ) (below : Walk) : Type 0 where
  pub infer : (n : ℕ) (c : Checker) → Orderly c → Ready (inferring nodes d n) c → Meets IsSide (inferring nodes d n) c (below.infer n c)
  pub found : (n x : ℕ) (c : Checker) → (node_at nodes n).kind ≡ ExprKind.Var x → Orderly c → Ready (finding nodes d n) c → Known x c
      → Meets IsSide (finding nodes d n) c (below.infer n c)
  pub check : (n : ℕ) (t : Ty) (c : Checker) → Orderly c → Ready (checking nodes d n) c → Side (unknowns c) t
      → Meets Nothing (checking nodes d n) c (below.check n t c)
  pub generator : (n : ℕ) (c : Checker) → Orderly c → Ready (inferring nodes d n) c → Meets IsSide (inferring nodes d n) c (below.generator n c)

-- ---- Types of the schema, and parts of sides
module _ (schema : Schema) (nodes : List Node) (declared : All DeclaredPredicate schema.predicates) where
  abbrev DeclaredIn : Option Predicate → Type 0
  DeclaredIn None = Unit {0}
  DeclaredIn (Some p) = DeclaredPredicate p

  got : (ps : List Predicate) (p : ℕ) → All DeclaredPredicate ps → DeclaredIn (slice_get ps p)
  got [] p h = tt
  got (a ∷ ps) zero h = h.0
  got (a ∷ ps) (suc p) h = got ps p h.1

  pub key_declared : (p : ℕ) → DeclaredOption (key_ty schema nodes p)
  unfolding key_ty get
  key_declared p = go (get schema p) refl (got schema.predicates p declared)
    where
      go : (o : Option Predicate) → get schema p ≡ o → DeclaredIn o → DeclaredOption (key_ty schema nodes p)
      go None e h = rw (e, key_ty) tt
      go (Some q) e h = rw (e, key_ty) h.0

  pub value_declared : (p : ℕ) → DeclaredOption (value_ty schema nodes p)
  unfolding value_ty get
  value_declared p = go (get schema p) refl (got schema.predicates p declared)
    where
      go : (o : Option Predicate) → get schema p ≡ o → DeclaredIn o → DeclaredOption (value_ty schema nodes p)
      go None e h = rw (e, value_ty) tt
      go (Some q) e h = rw (e, value_ty) h.1

abbrev pub SideOption : ℕ → Option Ty → Type 0
SideOption n None = Unit {0}
SideOption n (Some t) = Side n t

field_side : (n : ℕ) (t : Ty) (name : ℕ) → Side n t → SideOption n (field_of t name)
unfolding field_of
field_side n (Ty.leaf p) name h = tt
field_side n (Ty.node Kind.Record r) name h = go (find_key name r) refl (find_part (Field n) name r (fields n r h))
  where
    go : (o : Option (ℕ × Ty)) → find_key name r ≡ o → Part (Field n) o → SideOption n (field_of (Ty.node Kind.Record r) name)
    go None e p = rw (e, field_of) tt
    go (Some f) e p = rw (e, field_of) p.1
field_side n (Ty.node Kind.Union r) name h = tt
field_side n (Ty.Var x) name h = tt
field_side n Ty.Error name h = tt

pub payload_side : (n name : ℕ) (r : Row) → DeclaredRow Kind.Union r → SideOption n (find_label name r)
unfolding find_label
payload_side n name Row.ε h = tt
payload_side n name (Row.cell k l t r) h = go (eqb name l) refl (payload_side n name r h.2)
  where
    go : (b : Bool) → eqb name l ≡ b → SideOption n (find_label name r) → SideOption n (find_label name (Row.cell k l t r))
    go true e ih = rw (e, find_label) (declared_side n t h.1)
    go false e ih = rw (e, find_label) ih

pub repr_side : (c : Checker) (t : Ty) → Orderly c → Side (unknowns c) t → Side (unknowns c) (Bindings.repr c.state.subst t)
unfolding Bindings.repr
repr_side c t o h = side_follow (suc (unknowns c)) c.state.subst t o.log.wf h

-- ---- Access and selection
module _ (schema : Schema) (nodes : List Node) (declared : All DeclaredPredicate schema.predicates) (id : ℕ) (c : Checker) (o : Orderly c) where
  reject_ty_meets : (m : Message) → Meets IsSide one_diagnostic c (reject_ty schema nodes id m c)
  unfolding reject_ty
  reject_ty_meets m = meets_from Nothing IsSide one_diagnostic one_diagnostic c (reject schema nodes id m c) _ (omega arith)
      (reject_meets schema nodes id m c o) (λ u b w. went_with IsSide Ty.Error w tt)

  field_at_meets : (name : ℕ) (t : Ty) → Side (unknowns c) t → Meets IsSide one_diagnostic c (field_at schema nodes id name t c)
  unfolding field_at
  field_at_meets name t h = go (field_of t name) refl (field_side (unknowns c) t name h)
    where
      go : (f : Option Ty) → field_of t name ≡ f → SideOption (unknowns c) f → Meets IsSide one_diagnostic c (field_at schema nodes id name t c)
      go None e p = rw (e, field_at) (reject_ty_meets _)
      go (Some u) e p = rw (e, field_at) (stays IsSide one_diagnostic c u o p)

  key_of_meets : (name : ℕ) (t : Ty) → Side (unknowns c) t → Meets IsSide one_diagnostic c (key_of schema nodes id name t c)
  unfolding key_of unresolved
  key_of_meets name Ty.Error h = stays IsSide one_diagnostic c Ty.Error o tt
  key_of_meets name (Ty.leaf (Leaf.Fact p)) h = go (key_ty schema nodes p) refl (key_declared schema nodes declared p)
    where
      go : (k : Option Ty) → key_ty schema nodes p ≡ k → DeclaredOption k
          → Meets IsSide one_diagnostic c (key_of schema nodes id name (Ty.leaf (Leaf.Fact p)) c)
      go None e q = rw (e, key_of) (stays IsSide one_diagnostic c Ty.Error o tt)
      go (Some key) e q = rw (e, key_of) (field_at_meets name key (declared_side (unknowns c) key q))
  key_of_meets name (Ty.leaf Leaf.Int) h = reject_ty_meets _
  key_of_meets name (Ty.leaf Leaf.String) h = reject_ty_meets _
  key_of_meets name (Ty.leaf Leaf.Bytes) h = reject_ty_meets _
  key_of_meets name (Ty.node Kind.Record r) h = field_at_meets name (Ty.node Kind.Record r) h
  key_of_meets name (Ty.node Kind.Union r) h = reject_ty_meets _
  key_of_meets name (Ty.Var x) h = reject_ty_meets _

  value_of_meets : (t : Ty) → Meets IsSide one_diagnostic c (value_of schema nodes id t c)
  unfolding value_of unresolved
  value_of_meets Ty.Error = stays IsSide one_diagnostic c Ty.Error o tt
  value_of_meets (Ty.leaf (Leaf.Fact p)) = go (key_shadows_value schema nodes p) refl (value_ty schema nodes p) refl (value_declared schema nodes declared p)
    where
      go : (b : Bool) → key_shadows_value schema nodes p ≡ b → (v : Option Ty) → value_ty schema nodes p ≡ v → DeclaredOption v
          → Meets IsSide one_diagnostic c (value_of schema nodes id (Ty.leaf (Leaf.Fact p)) c)
      go true e v f q = rw (e, value_of) (reject_ty_meets _)
      go false e None f q = rw (e, value_of, f) (reject_ty_meets _)
      go false e (Some t) f q = rw (e, value_of, f) (stays IsSide one_diagnostic c t o (declared_side (unknowns c) t q))
  value_of_meets (Ty.leaf Leaf.Int) = reject_ty_meets _
  value_of_meets (Ty.leaf Leaf.String) = reject_ty_meets _
  value_of_meets (Ty.leaf Leaf.Bytes) = reject_ty_meets _
  value_of_meets (Ty.node k r) = reject_ty_meets _
  value_of_meets (Ty.Var x) = reject_ty_meets _

  pub access_of_meets : (f : FieldRef) (t : Ty) → Side (unknowns c) t → Meets IsSide one_diagnostic c (access_of schema nodes id f t c)
  unfolding access_of
  access_of_meets FieldRef.Value t h = value_of_meets t
  access_of_meets (FieldRef.Key name) t h = key_of_meets name t h

  pub select_of_meets : (name : ℕ) (t : Ty) → Side (unknowns c) t → Meets IsSide one_diagnostic c (select_of schema nodes id name t c)
  unfolding select_of unresolved
  select_of_meets name Ty.Error h = stays IsSide one_diagnostic c Ty.Error o tt
  select_of_meets name (Ty.node Kind.Union r) h = go (find_label name r) refl (payload_side (unknowns c) name r h.1)
    where
      go : (p : Option Ty) → find_label name r ≡ p → SideOption (unknowns c) p
          → Meets IsSide one_diagnostic c (select_of schema nodes id name (Ty.node Kind.Union r) c)
      go None e q = rw (e, select_of) (reject_ty_meets _)
      go (Some t) e q = rw (e, select_of) (stays IsSide one_diagnostic c t o q)
  select_of_meets name (Ty.node Kind.Record r) h = reject_ty_meets _
  select_of_meets name (Ty.leaf p) h = reject_ty_meets _
  select_of_meets name (Ty.Var x) h = reject_ty_meets _

-- ---- A comparison introduces a side that is a variable, and finds it when it infers that side.
-- Of k unknowns, those that are left for later.
unfoldable pub late : NodeForm → ℕ → ℕ
late (a_variable x) k = 0
late a_wildcard k = k
late a_constant k = k
late (a_record fs) k = k
late (a_disjunction es) k = k
late an_error k = k
late another k = k

pub early_late : (f : NodeForm) (k : ℕ) → 1 ≤ k → early f + late f k ≤ k
unfolding early late
early_late (a_variable x) k h = omega arith
early_late a_wildcard k h = omega arith
early_late a_constant k h = omega arith
early_late (a_record fs) k h = omega arith
early_late (a_disjunction es) k h = omega arith
early_late an_error k h = omega arith
early_late another k h = omega arith

abbrev pub inferring_late : List Node → ℕ → ℕ → NodeForm → Grade
inferring_late nodes d n f = record { nodes = λ x. weight nodes (λ m. same x m) d n; unknowns = late f (size nodes d n); diagnostics = 3 * size nodes d n - 1 }

abbrev pub Introduced : NodeForm → Checker → Type 0
Introduced (a_variable x) c = Known x c
Introduced a_wildcard c = Unit {0}
Introduced a_constant c = Unit {0}
Introduced (a_record fs) c = Unit {0}
Introduced (a_disjunction es) c = Unit {0}
Introduced an_error c = Unit {0}
Introduced another c = Unit {0}

pub made_introduced : (g : Grade) (c c' : Checker) (f : NodeForm) → Made g c c' → Introduced f c → Introduced f c'
made_introduced g c c' (a_variable x) m k = made_known g c c' x m k
made_introduced g c c' a_wildcard m k = tt
made_introduced g c c' a_constant m k = tt
made_introduced g c c' (a_record fs) m k = tt
made_introduced g c c' (a_disjunction es) m k = tt
made_introduced g c c' an_error m k = tt
made_introduced g c c' another m k = tt

pub introduce_side_meets : (schema : Schema) (nodes : List Node) (n : ℕ) (f : NodeForm) (c : Checker) → Orderly c
    → Meets (λ u b. Introduced f b) (introducing f) c (introduce_side schema nodes n f c)
unfolding introduce_side early
introduce_side_meets schema nodes n (a_variable x) c o =
    meets_from (IsUnknown x) _ one_unknown (introducing (a_variable x)) c (introduce n x c) _ (omega arith) (introduce_meets n x c o)
    (λ v b w. went_with _ tt w w.holds.1)
introduce_side_meets schema nodes n a_wildcard c o = stays _ (introducing a_wildcard) c tt o tt
introduce_side_meets schema nodes n a_constant c o = stays _ (introducing a_constant) c tt o tt
introduce_side_meets schema nodes n (a_record fs) c o = stays _ (introducing (a_record fs)) c tt o tt
introduce_side_meets schema nodes n (a_disjunction es) c o = stays _ (introducing (a_disjunction es)) c tt o tt
introduce_side_meets schema nodes n an_error c o = stays _ (introducing an_error) c tt o tt
introduce_side_meets schema nodes n another c o = stays _ (introducing another) c tt o tt

-- Only a variable has the form of one.
pub variable_kind : (k : ExprKind) (x : ℕ) → form_of k ≡ a_variable x → k ≡ ExprKind.Var x
unfolding form_of
variable_kind (ExprKind.Var y) x e = cc
variable_kind (ExprKind.Lit l) x e = clash (cc)
variable_kind ExprKind.Wildcard x e = clash (cc)
variable_kind ExprKind.Never x e = clash (cc)
variable_kind (ExprKind.Prefix y) x e = clash (cc)
variable_kind (ExprKind.Fuzzy y t) x e = clash (cc)
variable_kind (ExprKind.Record fs) x e = clash (cc)
variable_kind (ExprKind.Access f y) x e = clash (cc)
variable_kind (ExprKind.Disjunction es) x e = clash (cc)
variable_kind (ExprKind.Subquery q) x e = clash (cc)
variable_kind (ExprKind.Fact p y) x e = clash (cc)
variable_kind (ExprKind.Arith es) x e = clash (cc)
variable_kind ExprKind.Error x e = clash (cc)
variable_kind (ExprKind.Select y z) x e = clash (cc)

-- ---- Functions of the visits below
module _ (schema : Schema) (nodes : List Node) (declared : All DeclaredPredicate schema.predicates) (d : ℕ) (below : Walk) (good : Good nodes d below) where
  pub access_meets : (id : ℕ) (f : FieldRef) (base : ℕ) (c : Checker) → Orderly c → Ready (within nodes d (base ∷ [])) c
      → Meets IsSide (within nodes d (base ∷ [])) c (access schema nodes below id f base c)
  unfolding access repr sum_of
  access_meets id f base c o r =
      meets_then IsSide IsSide (inferring nodes d base) one_diagnostic (within nodes d (base ∷ [])) c (omega (arith, size_pos nodes d base))
      (below.infer base c) _ r (good.infer base c o)
      (λ t b w r'. access_of_meets schema nodes declared id b w.orderly f (Bindings.repr b.state.subst t) (repr_side b t w.orderly w.holds))

  pub select_meets : (id name base : ℕ) (c : Checker) → Orderly c → Ready (within nodes d (base ∷ [])) c
      → Meets IsSide (within nodes d (base ∷ [])) c (select schema nodes below id name base c)
  unfolding select repr sum_of
  select_meets id name base c o r =
      meets_then IsSide IsSide (inferring nodes d base) one_diagnostic (within nodes d (base ∷ [])) c (omega (arith, size_pos nodes d base))
      (below.infer base c) _ r (good.infer base c o)
      (λ t b w r'. select_of_meets schema nodes declared id b w.orderly name (Bindings.repr b.state.subst t) (repr_side b t w.orderly w.holds))

  pub fact_meets : (p key : ℕ) (c : Checker) → Orderly c → Ready (within nodes d (key ∷ [])) c
      → Meets IsSide (within nodes d (key ∷ [])) c (fact schema nodes below p key c)
  unfolding fact sum_of
  fact_meets p key c o r = go (key_ty schema nodes p) refl (key_declared schema nodes declared p)
    where
      go : (k : Option Ty) → key_ty schema nodes p ≡ k → DeclaredOption k → Meets IsSide (within nodes d (key ∷ [])) c (fact schema nodes below p key c)
      go None e q = rw (e, fact) (stays IsSide (within nodes d (key ∷ [])) c _ o tt)
      go (Some t) e q =
          rw (e, fact) (meets_then Nothing IsSide (checking nodes d key) no_thing (within nodes d (key ∷ [])) c (omega arith) (below.check key t c) _ r
          (λ r'. good.check key t c o r' (declared_side (unknowns c) t q)) (λ u b w r'. stays IsSide no_thing b _ w.orderly tt))

  fuzzy_meets : (id text distance : ℕ) (c : Checker) → Orderly c → Ready (within nodes d []) c
      → Meets IsSide (within nodes d []) c (infer_kind schema nodes below id (ExprKind.Fuzzy text distance) c)
  unfolding infer_kind fuzzy_term sum_of
  fuzzy_meets id text distance c o r =
      meets_then Nothing IsSide one_diagnostic one_diagnostic (within nodes d []) c (omega arith) (fuzzy_distance schema nodes id distance c) _ r
      (λ r'. far distance)
      (λ u b w r'. meets_then Nothing IsSide one_diagnostic no_thing one_diagnostic b (omega arith) (fuzzy_term schema nodes id text b) _ r'
      (λ r''. long b w.orderly) (λ u' b' w' r''. stays IsSide no_thing b' _ w'.orderly tt))
    where
      far : (e : ℕ) → Meets Nothing one_diagnostic c (fuzzy_distance schema nodes id e c)
      far zero = reject_meets schema nodes id _ c o
      far (suc e) = reject_if schema nodes id _ c o (ltb schema.max_distance (suc e))

      long : (b : Checker) → Orderly b → Meets Nothing one_diagnostic b (fuzzy_term schema nodes id text b)
      long b o' = reject_if schema nodes id _ b o' (ltb schema.max_term_chars (get_or schema.characters text 0))

  pub infer_fields_meets : (fs : List Syntax.Field) (c : Checker) → Orderly c → Ready (visiting nodes d (field_values fs)) c
      → Meets (λ row b. SideRow (unknowns b) row) (visiting nodes d (field_values fs)) c (infer_fields schema nodes below fs c)
  unfolding infer_fields field_values sum_of
  infer_fields_meets [] c o r = stays _ (visiting nodes d []) c Row.ε o tt
  infer_fields_meets (f ∷ fs) c o r =
      meets_then IsSide _ (inferring nodes d f.value) (visiting nodes d (field_values fs)) (visiting nodes d (field_values (f ∷ fs))) c (omega arith)
      (below.infer f.value c) _ r (good.infer f.value c o)
      (λ t b w r'. meets_then (λ row e. SideRow (unknowns e) row) _ (visiting nodes d (field_values fs)) no_thing (visiting nodes d (field_values fs)) b
      (omega arith) (infer_fields schema nodes below fs b) _ r' (infer_fields_meets fs b w.orderly)
      (λ row b' w' r''. stays _ no_thing b' _ w'.orderly (refl, made_side _ b b' t w'.made w.holds, w'.holds)))

  pub infer_all_meets : (t : Ty) (es : List ℕ) (c : Checker) → Orderly c → Ready (visiting nodes d es) c → Side (unknowns c) t
      → Meets Nothing (visiting nodes d es) c (infer_all schema nodes below t es c)
  unfolding infer_all sum_of
  infer_all_meets t [] c o r h = stays Nothing (visiting nodes d []) c tt o tt
  infer_all_meets t (e ∷ es) c o r h =
      meets_then IsSide Nothing (inferring nodes d e) (plus one_diagnostic (visiting nodes d es)) (visiting nodes d (e ∷ es)) c
      (omega (arith, size_pos nodes d e)) (below.infer e c) _ r (good.infer e c o)
      (λ u b w r'. meets_then Nothing Nothing one_diagnostic (visiting nodes d es) (plus one_diagnostic (visiting nodes d es)) b (omega arith)
      (unify_at schema nodes e u t b) _ r'
      (λ r''. unify_at_meets schema nodes e u t b w.orderly r'' w.holds (made_side _ c b t w.made h))
      (λ u' b' w' r''. infer_all_meets t es b' w'.orderly r'' (made_side _ b b' t w'.made (made_side _ c b t w.made h))))

  pub fresh_var_meets : (c : Checker) → Orderly c → Meets IsSide one_unknown c (fresh_var c)
  unfolding fresh_var fresh_var_id
  fresh_var_meets c o = let w = going (fresh_var_id_meets c o) in went_with IsSide (Ty.Var _) w w.holds

  pub disjunction_meets : (es : List ℕ) (c : Checker) → Orderly c → Ready (within nodes d es) c
      → Meets IsSide (within nodes d es) c (disjunction schema nodes below es c)
  unfolding disjunction fresh_var fresh_var_id sum_of
  disjunction_meets es c o r =
      meets_after IsSide IsSide one_unknown (visiting nodes d es) (within nodes d es) c (omega arith) r (λ r'. fresh_var_meets c o)
      (λ w r'. meets_then Nothing IsSide (visiting nodes d es) no_thing (visiting nodes d es) _ (omega arith) (infer_all schema nodes below _ es _) _
      r' (λ r''. infer_all_meets _ es _ w.orderly r'' w.holds)
      (λ u b' w' r''. stays IsSide no_thing b' _ w'.orderly (made_side _ _ b' (Ty.Var (Bindings.fresh_id c.state)) w'.made w.holds)))

  -- ---- Statements
  pub right_meets : (g : Grade) (r : ℕ) (c : Checker) → GradeFits (inferring nodes d r) g → Orderly c → Ready g c
      → Meets Nothing g c (only_right schema nodes below r c)
  unfolding only_right
  right_meets g r c f o y =
      meets_from IsSide Nothing (inferring nodes d r) g c (below.infer r c) _ f (good.infer r c o (ready_fits (inferring nodes d r) g c f y))
      (λ t b w. meets_fits Nothing (inferring nodes d r) g c f (went_with Nothing tt w tt))

  pub bind_variable_meets : (x l r : ℕ) (c : Checker) → Orderly c → Ready (visiting nodes d (l ∷ r ∷ [])) c
      → Meets Nothing (visiting nodes d (l ∷ r ∷ [])) c (bind_variable schema nodes below x l r c)
  unfolding bind_variable annotate sum_of
  bind_variable_meets x l r c o y =
      let rest = plus (inferring nodes d r) one_diagnostic in
      meets_then (IsUnknown x) Nothing one_unknown (plus (one_node l) rest) (visiting nodes d (l ∷ r ∷ [])) c (bind_fits l r) (introduce l x c) _ y
      (λ y'. introduce_meets l x c o)
      (λ v b w y'. meets_after Nothing Nothing (one_node l) rest (plus (one_node l) rest) b (omega arith) y'
      (λ y''. annotate_meets l (Ty.Var v) b w.orderly y'' w.holds.0)
      (λ w' z. meets_then IsSide Nothing (inferring nodes d r) one_diagnostic rest _ (omega arith) (below.infer r _) _ z (good.infer r _ w'.orderly)
      (λ t b'' w'' z'. unify_at_meets schema nodes r t (Ty.Var v) b'' w''.orderly z' w''.holds
      (made_side _ _ b'' (Ty.Var v) w''.made (made_side _ b _ (Ty.Var v) w'.made w.holds.0)))))
    where
      bind_fits : (l r : ℕ) → GradeFits (plus one_unknown (plus (one_node l) (plus (inferring nodes d r) one_diagnostic))) (visiting nodes d (l ∷ r ∷ []))
      bind_fits l r = record {
        nodes = λ x. omega (arith, own_weight nodes (λ m. same x m) d l);
        unknowns = omega (arith, size_pos nodes d l);
        diagnostics = omega (arith, size_pos nodes d r);
      }

  pub bad_target_meets : (m : Message) (l r : ℕ) (c : Checker) → Orderly c → Ready (visiting nodes d (l ∷ r ∷ [])) c
      → Meets Nothing (visiting nodes d (l ∷ r ∷ [])) c (bad_target schema nodes below m l r c)
  unfolding bad_target only_right sum_of
  bad_target_meets m l r c o y =
      meets_then Nothing Nothing one_diagnostic (inferring nodes d r) (visiting nodes d (l ∷ r ∷ [])) c (omega (arith, size_pos nodes d l))
      (reject schema nodes l m c) _ y (λ y'. reject_meets schema nodes l m c o)
      (λ u b w y'. right_meets (inferring nodes d r) r b (omega arith) w.orderly y')

  only_right_meets : (l r : ℕ) (c : Checker) → Orderly c → Ready (visiting nodes d (l ∷ r ∷ [])) c
      → Meets Nothing (visiting nodes d (l ∷ r ∷ [])) c (only_right schema nodes below r c)
  unfolding sum_of
  only_right_meets l r c o y = right_meets (visiting nodes d (l ∷ r ∷ [])) r c (omega arith) o y

  pub not_yet_meets : (m : Message) (l r : ℕ) (c : Checker) → Orderly c → Ready (visiting nodes d (l ∷ r ∷ [])) c
      → Meets Nothing (visiting nodes d (l ∷ r ∷ [])) c (not_yet schema nodes below m l r c)
  unfolding not_yet only_right sum_of
  not_yet_meets m l r c o y =
      let rest = plus (inferring nodes d l) (inferring nodes d r) in
      meets_then Nothing Nothing one_diagnostic rest (visiting nodes d (l ∷ r ∷ [])) c (omega (arith, size_pos nodes d l)) (reject schema nodes l m c)
      _ y (λ y'. reject_meets schema nodes l m c o)
      (λ u b w y'. meets_then IsSide Nothing (inferring nodes d l) (inferring nodes d r) rest _ (omega arith) (below.infer l _) _ y'
      (good.infer l _ w.orderly)
      (λ t b' w' y''. right_meets (inferring nodes d r) r b' (omega arith) w'.orderly y''))

  pub destructure_meets : (l r : ℕ) (c : Checker) → Orderly c → Ready (visiting nodes d (l ∷ r ∷ [])) c
      → Meets Nothing (visiting nodes d (l ∷ r ∷ [])) c (destructure schema nodes below l r c)
  unfolding destructure sum_of
  destructure_meets l r c o y =
      let rest = plus (inferring nodes d r) one_diagnostic in
      meets_then IsSide Nothing (inferring nodes d l) rest (visiting nodes d (l ∷ r ∷ [])) c (omega (arith, size_pos nodes d r)) (below.infer l c) _
      y (good.infer l c o)
      (λ t b w y'. meets_then IsSide Nothing (inferring nodes d r) one_diagnostic rest b (omega arith) (below.infer r b) _ y' (good.infer r b w.orderly)
      (λ u b' w' y''. unify_at_meets schema nodes r u t b' w'.orderly y'' w'.holds (made_side _ b b' t w'.made w.holds)))

  pub bind_wildcard_meets : (l r : ℕ) (c : Checker) → Orderly c → Ready (visiting nodes d (l ∷ r ∷ [])) c
      → Meets Nothing (visiting nodes d (l ∷ r ∷ [])) c (bind_wildcard schema nodes below l r c)
  unfolding bind_wildcard sum_of
  bind_wildcard_meets l r c o y =
      meets_then IsSide Nothing (inferring nodes d r) (one_node l) (visiting nodes d (l ∷ r ∷ [])) c
      (record { nodes = λ x. omega (arith, own_weight nodes (λ m. same x m) d l); unknowns = omega arith; diagnostics = omega arith })
      (below.infer r c) _ y (good.infer r c o)
      (λ t b w y'. annotate_meets l t b w.orderly y' w.holds)

  pub bind_form_meets : (f : NodeForm) (l r : ℕ) (c : Checker) → Orderly c → Ready (visiting nodes d (l ∷ r ∷ [])) c
      → Meets Nothing (visiting nodes d (l ∷ r ∷ [])) c (bind_form schema nodes below f l r c)
  unfolding bind_form
  bind_form_meets a_wildcard l r c o y = bind_wildcard_meets l r c o y
  bind_form_meets (a_variable x) l r c o y = bind_variable_meets x l r c o y
  bind_form_meets a_constant l r c o y = bad_target_meets _ l r c o y
  bind_form_meets (a_record fs) l r c o y = go (is_destructurable nodes l) refl
    where
      go : (b : Bool) → is_destructurable nodes l ≡ b → Meets Nothing (visiting nodes d (l ∷ r ∷ [])) c (bind_form schema nodes below (a_record fs) l r c)
      go true e = rw (e, bind_form) (destructure_meets l r c o y)
      go false e = rw (e, bind_form) (not_yet_meets _ l r c o y)
  bind_form_meets (a_disjunction es) l r c o y = not_yet_meets _ l r c o y
  bind_form_meets an_error l r c o y = only_right_meets l r c o y
  bind_form_meets another l r c o y = not_yet_meets _ l r c o y

  pub deny_form_meets : (f : NodeForm) (l r : ℕ) (c : Checker) → Orderly c → Ready (visiting nodes d (l ∷ r ∷ [])) c
      → Meets Nothing (visiting nodes d (l ∷ r ∷ [])) c (deny_form schema nodes below f l r c)
  unfolding deny_form
  deny_form_meets a_wildcard l r c o y = bad_target_meets _ l r c o y
  deny_form_meets (a_variable x) l r c o y = bind_variable_meets x l r c o y
  deny_form_meets a_constant l r c o y = bad_target_meets _ l r c o y
  deny_form_meets (a_record fs) l r c o y = not_yet_meets _ l r c o y
  deny_form_meets (a_disjunction es) l r c o y = not_yet_meets _ l r c o y
  deny_form_meets an_error l r c o y = only_right_meets l r c o y
  deny_form_meets another l r c o y = not_yet_meets _ l r c o y

  pub infer_late : (n : ℕ) (f : NodeForm) (c : Checker) → form schema nodes n ≡ f → Orderly c → Ready (inferring_late nodes d n f) c → Introduced f c
      → Meets IsSide (inferring_late nodes d n f) c (below.infer n c)
  unfolding form kind late
  infer_late n (a_variable x) c e o y k = good.found n x c (variable_kind (node_at nodes n).kind x e) o y k
  infer_late n a_wildcard c e o y k = good.infer n c o y
  infer_late n a_constant c e o y k = good.infer n c o y
  infer_late n (a_record fs) c e o y k = good.infer n c o y
  infer_late n (a_disjunction es) c e o y k = good.infer n c o y
  infer_late n an_error c e o y k = good.infer n c o y
  infer_late n another c e o y k = good.infer n c o y

  pub compare_order_meets : (l : ℕ) (t : Ty) (c : Checker) → Orderly c → Ready one_diagnostic c
      → Meets Nothing one_diagnostic c (compare_order schema nodes l t c)
  unfolding compare_order
  compare_order_meets l t c o y =
      meets_then Nothing Nothing no_thing one_diagnostic one_diagnostic c (omega arith) (orderable t c) _ y (λ y'. orderable_meets t c o)
      (λ has b w y'. reject_unless schema nodes l _ b w.orderly has)

  pub compare_meets : (l r : ℕ) (c : Checker) → Orderly c → Ready (visiting nodes d (l ∷ r ∷ [])) c
      → Meets Nothing (visiting nodes d (l ∷ r ∷ [])) c (compare schema nodes below l r c)
  unfolding compare sum_of
  compare_meets l r c o y =
      let f = form schema nodes l in
      let h = form schema nodes r in
      let last = plus (inferring_late nodes d r h) one_diagnostic in
      let sides = plus (inferring_late nodes d l f) last in
      meets_then (λ u b. Introduced f b) Nothing (introducing f) (plus (introducing h) sides) (visiting nodes d (l ∷ r ∷ [])) c
      (omega (
        arith,
        size_pos nodes d l,
        size_pos nodes d r,
        early_late f (size nodes d l) (size_pos nodes d l),
        early_late h (size nodes d r) (size_pos nodes d r),
      ))
      (introduce_side schema nodes l f c) _ y (λ y₁. introduce_side_meets schema nodes l f c o)
      (λ u₁ c₁ w₁ y₁. meets_then (λ u b. Introduced h b) Nothing (introducing h) sides (plus (introducing h) sides) c₁ (omega arith)
      (introduce_side schema nodes r h c₁) _ y₁ (λ y₂. introduce_side_meets schema nodes r h c₁ w₁.orderly)
      (λ u₂ c₂ w₂ y₂. meets_then IsSide Nothing (inferring_late nodes d l f) last sides c₂ (omega arith) (below.infer l c₂) _ y₂
      (λ y₃. infer_late l f c₂ refl w₂.orderly y₃ (made_introduced _ c₁ c₂ f w₂.made w₁.holds))
      (λ t c₃ w₃ y₃. meets_then IsSide Nothing (inferring_late nodes d r h) one_diagnostic last c₃ (omega arith) (below.infer r c₃) _ y₃
      (λ y₄. infer_late r h c₃ refl w₃.orderly y₄ (made_introduced _ c₂ c₃ h w₃.made w₂.holds))
      (λ v c₄ w₄ y₄. meets_then Nothing Nothing no_thing one_diagnostic one_diagnostic c₄ (omega arith) (unify v t c₄) _ y₄
      (λ y₅. unify_meets v t c₄ w₄.orderly w₄.holds (made_side _ c₃ c₄ t w₄.made w₃.holds))
      (λ failed c₅ w₅ y₅. after failed t c₅ w₅.orderly y₅)))))
    where
      after : (failed : Option TyError) (t : Ty) (b : Checker) → Orderly b → Ready one_diagnostic b
          → Meets Nothing one_diagnostic b ((elim failed as (λ f. Does (Unit {0}))
          [ Some err ↦ report schema nodes r err | None ↦ compare_order schema nodes l t ]) b)
      after None t b o' y' = compare_order_meets l t b o' y'
      after (Some err) t b o' y' = unfold report in reject_meets schema nodes r _ b o'

  generate_meets : (n : ℕ) (c : Checker) → Orderly c → Ready (inferring nodes d n) c → Meets Nothing (inferring nodes d n) c (generate schema nodes below n c)
  unfolding generate
  generate_meets n c o y = meets_from IsSide Nothing (inferring nodes d n) (inferring nodes d n) c (below.generator n c) _ (omega arith)
      (good.generator n c o y) (λ t b w. went_with Nothing tt w tt)

  pub stmts_meets : (ss : List QueryStmt) (c : Checker) → Orderly c → Ready (visiting nodes d (stmt_nodes ss)) c
      → Meets Nothing (visiting nodes d (stmt_nodes ss)) c (stmts schema nodes below ss c)
  unfolding stmts stmt stmt_nodes sum_of
  stmts_meets [] c o y = stays Nothing (visiting nodes d []) c tt o tt
  stmts_meets (QueryStmt.Bind l r ∷ ss) c o y =
      meets_then Nothing Nothing (visiting nodes d (l ∷ r ∷ [])) (visiting nodes d (stmt_nodes ss)) (visiting nodes d (l ∷ r ∷ stmt_nodes ss)) c
      (omega arith) (bind_form schema nodes below (form schema nodes l) l r c) _ y
      (bind_form_meets (form schema nodes l) l r c o) (λ u b w y'. stmts_meets ss b w.orderly y')
  stmts_meets (QueryStmt.Deny l r ∷ ss) c o y =
      meets_then Nothing Nothing (visiting nodes d (l ∷ r ∷ [])) (visiting nodes d (stmt_nodes ss)) (visiting nodes d (l ∷ r ∷ stmt_nodes ss)) c
      (omega arith) (deny_form schema nodes below (form schema nodes l) l r c) _ y
      (deny_form_meets (form schema nodes l) l r c o) (λ u b w y'. stmts_meets ss b w.orderly y')
  stmts_meets (QueryStmt.Compare l r ∷ ss) c o y =
      meets_then Nothing Nothing (visiting nodes d (l ∷ r ∷ [])) (visiting nodes d (stmt_nodes ss)) (visiting nodes d (l ∷ r ∷ stmt_nodes ss)) c
      (omega arith) (compare schema nodes below l r c) _ y
      (compare_meets l r c o) (λ u b w y'. stmts_meets ss b w.orderly y')
  stmts_meets (QueryStmt.Implicit e ∷ ss) c o y =
      meets_then Nothing Nothing (inferring nodes d e) (visiting nodes d (stmt_nodes ss)) (visiting nodes d (e ∷ stmt_nodes ss)) c (omega arith)
      (generate schema nodes below e c) _ y
      (generate_meets e c o) (λ u b w y'. stmts_meets ss b w.orderly y')
  stmts_meets (QueryStmt.Negation e ∷ ss) c o y =
      meets_then Nothing Nothing (inferring nodes d e) (visiting nodes d (stmt_nodes ss)) (visiting nodes d (e ∷ stmt_nodes ss)) c (omega arith)
      (generate schema nodes below e c) _ y
      (generate_meets e c o) (λ u b w y'. stmts_meets ss b w.orderly y')

  -- The statements, then the head; the environment is cut back to where it was.
  pub subquery_meets : (q : Query) (c : Checker) → Orderly c → Ready (within nodes d (query_nodes q)) c
      → Meets IsSide (within nodes d (query_nodes q)) c (subquery schema nodes below q c)
  unfolding subquery query_nodes sum_of
  subquery_meets q c o y =
      meets_nest IsSide (within nodes d (query_nodes q)) c (stmts schema nodes below q.body c) (λ u. below.infer q.head) _
      (meets_from IsSide IsSide (within nodes d (query_nodes q)) (within nodes d (query_nodes q)) c _ _ (omega arith)
      (meets_then Nothing IsSide (visiting nodes d (stmt_nodes q.body)) (inferring nodes d q.head) (within nodes d (query_nodes q)) c
      (omega arith) (stmts schema nodes below q.body c) _ y
      (stmts_meets q.body c o) (λ u b w y'. good.infer q.head b w.orderly y'))
      (λ t b w. leave_meets schema nodes (within nodes d (query_nodes q)) c b t o w))

  -- ---- `infer`
  pub infer_kind_meets : (id : ℕ) (k : ExprKind) (c : Checker) → Orderly c → Ready (within nodes d (expr_nodes k)) c
      → Meets IsSide (within nodes d (expr_nodes k)) c (infer_kind schema nodes below id k c)
  unfolding infer_kind expr_nodes sum_of
  infer_kind_meets id (ExprKind.Lit Literal.Int) c o y = stays IsSide _ c _ o tt
  infer_kind_meets id (ExprKind.Lit Literal.Str) c o y = stays IsSide _ c _ o tt
  infer_kind_meets id (ExprKind.Lit Literal.Bytes) c o y = stays IsSide _ c _ o tt
  infer_kind_meets id (ExprKind.Var x) c o y =
      meets_from (IsUnknown x) IsSide (within nodes d []) (within nodes d []) c (introduce id x c) _ (omega arith)
      (meets_fits (IsUnknown x) one_unknown (within nodes d []) c (omega arith) (introduce_meets id x c o))
      (λ v b w. went_with IsSide (Ty.Var v) w w.holds.0)
  infer_kind_meets id ExprKind.Wildcard c o y = meets_fits IsSide one_unknown (within nodes d []) c (omega arith) (fresh_var_meets c o)
  infer_kind_meets id ExprKind.Never c o y = meets_fits IsSide one_unknown (within nodes d []) c (omega arith) (fresh_var_meets c o)
  infer_kind_meets id (ExprKind.Prefix x) c o y = stays IsSide _ c _ o tt
  infer_kind_meets id (ExprKind.Fuzzy x t) c o y = fuzzy_meets id x t c o y
  infer_kind_meets id (ExprKind.Record fs) c o y =
      meets_then (λ row b. SideRow (unknowns b) row) IsSide (visiting nodes d (field_values fs)) no_thing (within nodes d (field_values fs)) c
      (omega arith) (infer_fields schema nodes below fs c) _ y (infer_fields_meets fs c o)
      (λ row b w y'. stays IsSide no_thing b (Ty.node Kind.Record row) w.orderly w.holds)
  infer_kind_meets id (ExprKind.Access f e) c o y = access_meets id f e c o y
  infer_kind_meets id (ExprKind.Disjunction es) c o y = disjunction_meets es c o y
  infer_kind_meets id (ExprKind.Subquery q) c o y = subquery_meets q c o y
  infer_kind_meets id (ExprKind.Fact p e) c o y = fact_meets p e c o y
  infer_kind_meets id (ExprKind.Arith es) c o y =
      meets_then Nothing IsSide (visiting nodes d es) no_thing (within nodes d es) c (omega arith)
      (infer_all schema nodes below (Ty.leaf Leaf.Int) es c) _ y (λ y'. infer_all_meets (Ty.leaf Leaf.Int) es c o y' tt)
      (λ u b w y'. stays IsSide no_thing b (Ty.leaf Leaf.Int) w.orderly tt)
  infer_kind_meets id ExprKind.Error c o y = stays IsSide _ c _ o tt
  infer_kind_meets id (ExprKind.Select x e) c o y = select_meets id x e c o y

  -- The type that was inferred is the node's.
  annotated : (id : ℕ) (t : Ty) (b : Checker) → Orderly b → Ready (one_node id) b → Side (unknowns b) t
      → Meets IsSide (one_node id) b (and_then (annotate id t b) (λ u c. goes t c))
  annotated id t b o y h = meets_from Nothing IsSide (one_node id) (one_node id) b (annotate id t b) _ (omega arith) (annotate_meets id t b o y h)
      (λ u b' w. went_with IsSide t w (made_side _ b b' t w.made h))

  pub infer_at_meets : (id : ℕ) (c : Checker) → Orderly c → Ready (inferring nodes (suc d) id) c
      → Meets IsSide (inferring nodes (suc d) id) c (infer_at schema nodes below id c)
  unfolding infer_at kind weight
  infer_at_meets id c o y =
      let k = (node_at nodes id).kind in
      meets_then IsSide IsSide (within nodes d (expr_nodes k)) (one_node id) (inferring nodes (suc d) id) c (omega arith)
      (infer_kind schema nodes below id k c) _ y (infer_kind_meets id k c o)
      (λ t b w y'. annotated id t b w.orderly y' w.holds)

  infer_at_found : (id x : ℕ) (c : Checker) → (node_at nodes id).kind ≡ ExprKind.Var x → Orderly c → Ready (finding nodes (suc d) id) c → Known x c
      → Meets IsSide (finding nodes (suc d) id) c (infer_at schema nodes below id c)
  unfolding infer_at infer_kind kind
  infer_at_found id x c e o y k =
      meets_then IsSide IsSide no_thing (one_node id) (finding nodes (suc d) id) c
      (record { nodes = λ z. omega (arith, own_weight nodes (λ m. same z m) (suc d) id); unknowns = omega arith; diagnostics = omega arith })
      (infer_kind schema nodes below id (node_at nodes id).kind c) _ y
      (λ y'. rw e (meets_from (IsUnknown x) IsSide no_thing no_thing c (introduce id x c) _ (omega arith) (introduce_known id x c o k)
      (λ v b w. went_with IsSide (Ty.Var v) w w.holds.0)))
      (λ t b w y'. annotated id t b w.orderly y' w.holds)

  -- ---- `check`
  pub infer_then_unify_meets : (id : ℕ) (t : Ty) (c : Checker) → Orderly c → Ready (checking nodes (suc d) id) c → Side (unknowns c) t
      → Meets Nothing (checking nodes (suc d) id) c (infer_then_unify schema nodes below id t c)
  unfolding infer_then_unify snapshot
  infer_then_unify_meets id t c o y h =
      meets_nest Nothing (checking nodes (suc d) id) c (infer_at schema nodes below id c) (λ found. unify found t) _
      (meets_from Nothing Nothing (inferring nodes (suc d) id) (checking nodes (suc d) id) c _ _ (omega arith)
      (meets_then IsSide Nothing (inferring nodes (suc d) id) no_thing (inferring nodes (suc d) id) c (omega arith) (infer_at schema nodes below id c)
      _ (ready_fits (inferring nodes (suc d) id) (checking nodes (suc d) id) c (omega arith) y)
      (infer_at_meets id c o) (λ u b w y'. unify_meets u t b w.orderly w.holds (made_side _ c b t w.made h)))
      after)
    where
      after : (failed : Option TyError) (b : Checker) → Went Nothing (inferring nodes (suc d) id) c failed b
          → Meets Nothing (checking nodes (suc d) id) c
          ((elim failed as (λ f. Does (Unit {0})) [
            | None ↦ (λ c. goes tt c)
            | Some err ↦
                (λ b. and_then (rollback (record { state = Bindings.snapshot c.state; env = length c.env; marks = length c.marks }) b)
                (λ u. report schema nodes id err))
          ]) b)
      after None b w = meets_fits Nothing (inferring nodes (suc d) id) (checking nodes (suc d) id) c (omega arith) (went_with Nothing tt w tt)
      after (Some err) b w =
          meets_then Nothing Nothing (inferring nodes (suc d) id) one_diagnostic (checking nodes (suc d) id) c
          (omega (arith, size_pos nodes (suc d) id))
          (rollback (record { state = Bindings.snapshot c.state; env = length c.env; marks = length c.marks }) b)
          (λ u. report schema nodes id err) y
          (λ y'. rolled_meets (inferring nodes (suc d) id) c b o w.orderly w.made w.reached)
          (λ u b' w' y'. unfold report in reject_meets schema nodes id _ b' w'.orderly)

  pub check_field_meets : (n : ℕ) (t : Ty) (c : Checker) → Orderly c → Ready (checking nodes d n) c → Side (unknowns c) t
      → Meets Nothing (checking nodes d n) c (check_field schema nodes below n t c)
  unfolding check_field snapshot diagnostics_len
  check_field_meets n t c o y h =
      meets_from Nothing Nothing (checking nodes d n) (checking nodes d n) c (below.check n t c) _ (omega arith) (good.check n t c o y h)
      (λ u b w. after (ltb (length c.diagnostics) (length b.diagnostics)) u b w)
    where
      after : (grew : Bool) (u : Unit {0}) (b : Checker) → Went Nothing (checking nodes d n) c u b
          → Meets Nothing (checking nodes d n) c ((elim grew as (λ g. Does (Unit {0})) [
            | true ↦ rollback (record { state = Bindings.snapshot c.state; env = length c.env; marks = length c.marks })
            | false ↦
                (λ c. goes tt c)
          ]) b)
      after true u b w = rolled_meets (checking nodes d n) c b o w.orderly w.made w.reached
      after false u b w = went_with Nothing tt w tt

  pub check_fields_meets : (fs : List Syntax.Field) (row : Row) (c : Checker) → Orderly c → Ready (visiting nodes d (field_values fs)) c
      → SideRow (unknowns c) row → Meets Nothing (visiting nodes d (field_values fs)) c (check_fields schema nodes below fs row c)
  unfolding check_fields check_mentioned field_values sum_of
  check_fields_meets [] row c o y h = stays Nothing (visiting nodes d []) c tt o tt
  check_fields_meets (f ∷ fs) row c o y h =
      meets_then Nothing Nothing (checking nodes d f.value) (visiting nodes d (field_values fs)) (visiting nodes d (field_values (f ∷ fs))) c
      (omega arith) (check_mentioned schema nodes below f (find_key f.name row) c) _ y
      (λ y'. mentioned (find_key f.name row) (find_part (Field (unknowns c)) f.name row (fields (unknowns c) row h)) y')
      (λ u b w y'. check_fields_meets fs row b w.orderly y' (side_row_more (unknowns c) (unknowns b) (made_more _ c b w.made) row h))
    where
      mentioned : (p : Option (ℕ × Ty)) → Part (Field (unknowns c)) p → Ready (checking nodes d f.value) c
          → Meets Nothing (checking nodes d f.value) c (check_mentioned schema nodes below f p c)
      mentioned None q y' = meets_fits Nothing one_diagnostic (checking nodes d f.value) c (omega (arith, size_pos nodes d f.value))
          (reject_meets schema nodes f.value _ c o)
      mentioned (Some p) q y' = check_field_meets f.value p.1 c o y' q.1

  -- One alternative of a union: its payload, then the node itself, or one diagnostic.
  abbrev choosing : ℕ → List Syntax.Field → Grade
  choosing id fs = plus (visiting nodes d (field_values fs)) (record { nodes = λ x. same x id; unknowns = 0; diagnostics = 1 })

  check_union_meets : (id : ℕ) (fs : List Syntax.Field) (row : Row) (c : Checker) → Orderly c → Ready (choosing id fs) c
      → Declared (Ty.node Kind.Union row) → Meets Nothing (choosing id fs) c (check_union schema nodes below id fs row c)
  unfolding check_union check_alternative field_values sum_of
  check_union_meets id [] row c o y h = meets_fits Nothing one_diagnostic (choosing id []) c (omega arith) (reject_meets schema nodes id _ c o)
  check_union_meets id (f ∷ []) row c o y h = go (find_label f.name row) refl (payload_side (unknowns c) f.name row h.1)
    where
      go : (p : Option Ty) → find_label f.name row ≡ p → SideOption (unknowns c) p
          → Meets Nothing (choosing id (f ∷ [])) c (check_alternative schema nodes below id f row c)
      go None e q = rw (e, check_alternative) (meets_fits Nothing one_diagnostic (choosing id (f ∷ [])) c (omega arith) (reject_meets schema nodes id _ c o))
      go (Some t) e q =
          rw (e, check_alternative) (meets_then Nothing Nothing (checking nodes d f.value) (one_node id) (choosing id (f ∷ [])) c (omega arith)
          (below.check f.value t c) _ y (λ y'. good.check f.value t c o y' q)
          (λ u b w y'. annotate_meets id (Ty.node Kind.Union row) b w.orderly y' h))
  check_union_meets id (f ∷ g ∷ fs) row c o y h = meets_fits Nothing one_diagnostic (choosing id (f ∷ g ∷ fs)) c (omega arith)
      (reject_meets schema nodes id _ c o)

  -- A node's weight, by its kind.
  pub weight_kind : (own : ℕ → ℕ) (n : ℕ) (k : ExprKind) → (node_at nodes n).kind ≡ k
      → weight nodes own (suc d) n ≡ own n + sum_of (λ m. weight nodes own d m) (expr_nodes k)
  unfolding weight
  weight_kind own n k e = rw e

  module _ (id : ℕ) (fs : List Syntax.Field) (is : (node_at nodes id).kind ≡ ExprKind.Record fs) where
    record_fits : GradeFits (plus (visiting nodes d (field_values fs)) (record { nodes = λ x. same x id; unknowns = 0; diagnostics = 1 }))
        (checking nodes (suc d) id)
    unfolding expr_nodes
    record_fits = record {
      nodes = λ x. omega (arith, weight_kind (λ m. same x m) id (ExprKind.Record fs) is);
      unknowns = omega (arith, weight_kind (λ m. 1) id (ExprKind.Record fs) is);
      diagnostics = omega (arith, weight_kind (λ m. 1) id (ExprKind.Record fs) is);
    }

    pub check_record_meets : (t : Ty) (c : Checker) → Orderly c → Ready (checking nodes (suc d) id) c → Side (unknowns c) t
        → Meets Nothing (checking nodes (suc d) id) c (check_record schema nodes below id fs t c)
    unfolding check_record
    check_record_meets (Ty.node Kind.Record row) c o y h =
        meets_then Nothing Nothing (visiting nodes d (field_values fs)) (one_node id) (checking nodes (suc d) id) c
        (record { nodes = λ x. record_fits.nodes x; unknowns = record_fits.unknowns; diagnostics = omega (arith, record_fits.diagnostics) })
        (check_fields schema nodes below fs row c) _ y (λ y'. check_fields_meets fs row c o y' h)
        (λ u b w y'. annotate_meets id (Ty.node Kind.Record row) b w.orderly y' (side_row_more (unknowns c) (unknowns b) (made_more _ c b w.made) row h))
    check_record_meets (Ty.node Kind.Union row) c o y h = meets_fits Nothing (choosing id fs) (checking nodes (suc d) id) c record_fits
        (check_union_meets id fs row c o (ready_fits (choosing id fs) (checking nodes (suc d) id) c record_fits y) h)
    check_record_meets (Ty.leaf p) c o y h = infer_then_unify_meets id (Ty.leaf p) c o y h
    check_record_meets (Ty.Var x) c o y h = infer_then_unify_meets id (Ty.Var x) c o y h
    check_record_meets Ty.Error c o y h = infer_then_unify_meets id Ty.Error c o y h

  check_form_meets : (id : ℕ) (k : ExprKind) (t : Ty) (c : Checker) → (node_at nodes id).kind ≡ k → Orderly c → Ready (checking nodes (suc d) id) c
      → Side (unknowns c) t
      → Meets Nothing (checking nodes (suc d) id) c (check_form schema nodes below id (form_of k) t c)
  unfolding check_form form_of
  check_form_meets id (ExprKind.Lit l) t c e o y h = infer_then_unify_meets id t c o y h
  check_form_meets id (ExprKind.Var x) t c e o y h = infer_then_unify_meets id t c o y h
  check_form_meets id ExprKind.Wildcard t c e o y h =
      let fits : GradeFits (one_node id) (checking nodes (suc d) id) = record
      { nodes = λ x. own_weight nodes (λ m. same x m) (suc d) id; unknowns = omega arith; diagnostics = omega arith } in
      meets_fits Nothing (one_node id) (checking nodes (suc d) id) c fits
      (annotate_meets id t c o (ready_fits (one_node id) (checking nodes (suc d) id) c fits y) h)
  check_form_meets id ExprKind.Never t c e o y h = infer_then_unify_meets id t c o y h
  check_form_meets id (ExprKind.Prefix x) t c e o y h = infer_then_unify_meets id t c o y h
  check_form_meets id (ExprKind.Fuzzy x n) t c e o y h = infer_then_unify_meets id t c o y h
  check_form_meets id (ExprKind.Record fs) t c e o y h = check_record_meets id fs e t c o y h
  check_form_meets id (ExprKind.Access f n) t c e o y h = infer_then_unify_meets id t c o y h
  check_form_meets id (ExprKind.Disjunction es) t c e o y h = infer_then_unify_meets id t c o y h
  check_form_meets id (ExprKind.Subquery q) t c e o y h = infer_then_unify_meets id t c o y h
  check_form_meets id (ExprKind.Fact p n) t c e o y h = infer_then_unify_meets id t c o y h
  check_form_meets id (ExprKind.Arith es) t c e o y h = infer_then_unify_meets id t c o y h
  check_form_meets id ExprKind.Error t c e o y h = infer_then_unify_meets id t c o y h
  check_form_meets id (ExprKind.Select x n) t c e o y h = infer_then_unify_meets id t c o y h

  check_against_meets : (id : ℕ) (t : Ty) (c : Checker) → Orderly c → Ready (checking nodes (suc d) id) c → Side (unknowns c) t
      → Meets Nothing (checking nodes (suc d) id) c (check_against schema nodes below id t c)
  unfolding check_against form kind
  check_against_meets id Ty.Error c o y h = stays Nothing (checking nodes (suc d) id) c tt o tt
  check_against_meets id (Ty.leaf p) c o y h = check_form_meets id (node_at nodes id).kind (Ty.leaf p) c refl o y h
  check_against_meets id (Ty.node k r) c o y h = check_form_meets id (node_at nodes id).kind (Ty.node k r) c refl o y h
  check_against_meets id (Ty.Var x) c o y h = check_form_meets id (node_at nodes id).kind (Ty.Var x) c refl o y h

  pub check_at_meets : (id : ℕ) (t : Ty) (c : Checker) → Orderly c → Ready (checking nodes (suc d) id) c → Side (unknowns c) t
      → Meets Nothing (checking nodes (suc d) id) c (check_at schema nodes below id t c)
  unfolding check_at repr
  check_at_meets id t c o y h = check_against_meets id (Bindings.repr c.state.subst t) c o y (repr_side c t o h)

  -- ---- `generator`
  pub generate_branches_meets : (last : Ty) (es : List ℕ) (c : Checker) → Orderly c → Ready (visiting nodes d es) c → Side (unknowns c) last
      → Meets IsSide (visiting nodes d es) c (generate_branches schema nodes below last es c)
  unfolding generate_branches sum_of
  generate_branches_meets last [] c o y h = stays IsSide (visiting nodes d []) c last o h
  generate_branches_meets last (e ∷ es) c o y h =
      meets_then IsSide IsSide (inferring nodes d e) (visiting nodes d es) (visiting nodes d (e ∷ es)) c (omega arith) (below.generator e c) _ y
      (good.generator e c o)
      (λ t b w y'. generate_branches_meets t es b w.orderly y' w.holds)

  generator_form_meets : (id : ℕ) (k : ExprKind) (c : Checker) → (node_at nodes id).kind ≡ k → Orderly c → Ready (inferring nodes (suc d) id) c
      → Meets IsSide (inferring nodes (suc d) id) c (generator_form schema nodes below id (form_of k) c)
  unfolding generator_form form_of expr_nodes
  generator_form_meets id (ExprKind.Lit l) c e o y = infer_at_meets id c o y
  generator_form_meets id (ExprKind.Var x) c e o y = infer_at_meets id c o y
  generator_form_meets id ExprKind.Wildcard c e o y = infer_at_meets id c o y
  generator_form_meets id ExprKind.Never c e o y = infer_at_meets id c o y
  generator_form_meets id (ExprKind.Prefix x) c e o y = infer_at_meets id c o y
  generator_form_meets id (ExprKind.Fuzzy x n) c e o y = infer_at_meets id c o y
  generator_form_meets id (ExprKind.Record fs) c e o y = infer_at_meets id c o y
  generator_form_meets id (ExprKind.Access f n) c e o y = infer_at_meets id c o y
  generator_form_meets id (ExprKind.Disjunction es) c e o y =
      meets_then IsSide IsSide (visiting nodes d es) (one_node id) (inferring nodes (suc d) id) c
      (record {
        nodes = λ x. omega (arith, weight_kind (λ m. same x m) id (ExprKind.Disjunction es) e);
        unknowns = omega (arith, weight_kind (λ m. 1) id (ExprKind.Disjunction es) e);
        diagnostics = omega (arith, weight_kind (λ m. 1) id (ExprKind.Disjunction es) e);
      })
      (generate_branches schema nodes below Ty.Error es c) _ y (λ y'. generate_branches_meets Ty.Error es c o y' tt)
      (λ t b w y'. annotated id t b w.orderly y' w.holds)
  generator_form_meets id (ExprKind.Subquery q) c e o y = infer_at_meets id c o y
  generator_form_meets id (ExprKind.Fact p n) c e o y = infer_at_meets id c o y
  generator_form_meets id (ExprKind.Arith es) c e o y = infer_at_meets id c o y
  generator_form_meets id ExprKind.Error c e o y = infer_at_meets id c o y
  generator_form_meets id (ExprKind.Select x n) c e o y = infer_at_meets id c o y

  pub generator_at_meets : (id : ℕ) (c : Checker) → Orderly c → Ready (inferring nodes (suc d) id) c
      → Meets IsSide (inferring nodes (suc d) id) c (generator_at schema nodes below id c)
  unfolding generator_at form kind
  generator_at_meets id c o y = generator_form_meets id (node_at nodes id).kind c refl o y

-- ---- The walk
module _ (schema : Schema) (nodes : List Node) (declared : All DeclaredPredicate schema.predicates) where
  pub walk_good : (d : ℕ) → Good nodes d (walk schema nodes d)
  unfolding walk
  walk_good zero = record {
    infer = λ n c o y. stays IsSide (inferring nodes 0 n) c Ty.Error o tt;
    found = λ n x c e o y k. stays IsSide (finding nodes 0 n) c Ty.Error o tt;
    check = λ n t c o y h. stays Nothing (checking nodes 0 n) c tt o tt;
    generator = λ n c o y. stays IsSide (inferring nodes 0 n) c Ty.Error o tt;
  }
  walk_good (suc d) = record {
    infer = λ n c o y. infer_at_meets schema nodes declared d (walk schema nodes d) (walk_good d) n c o y;
    found = λ n x c e o y k. infer_at_found schema nodes declared d (walk schema nodes d) (walk_good d) n x c e o y k;
    check = λ n t c o y h. check_at_meets schema nodes declared d (walk schema nodes d) (walk_good d) n t c o y h;
    generator = λ n c o y. generator_at_meets schema nodes declared d (walk schema nodes d) (walk_good d) n c o y;
  }

  pub head_form_meets : (n : ℕ) (f : NodeForm) (c : Checker) → Orderly c → Meets Nothing one_diagnostic c (head_form schema nodes n f c)
  unfolding head_form
  head_form_meets n a_wildcard c o = reject_meets schema nodes n _ c o
  head_form_meets n (a_variable x) c o = stays Nothing one_diagnostic c tt o tt
  head_form_meets n a_constant c o = stays Nothing one_diagnostic c tt o tt
  head_form_meets n an_error c o = stays Nothing one_diagnostic c tt o tt
  head_form_meets n (a_record fs) c o = stays Nothing one_diagnostic c tt o tt
  head_form_meets n (a_disjunction es) c o = stays Nothing one_diagnostic c tt o tt
  head_form_meets n another c o = stays Nothing one_diagnostic c tt o tt

  pub infer_query_meets : (q : Query) (c : Checker) → Orderly c → Ready (visiting nodes (length nodes) (query_nodes q)) c
      → Meets IsSide (visiting nodes (length nodes) (query_nodes q)) c (infer_query schema nodes q c)
  unfolding infer_query query_nodes sum_of
  infer_query_meets q c o y =
      let d = length nodes in
      let good = walk_good d in
      let head = plus one_diagnostic (inferring nodes d q.head) in
      meets_then Nothing IsSide (visiting nodes d (stmt_nodes q.body)) head (visiting nodes d (query_nodes q)) c
      (omega (arith, size_pos nodes d q.head)) (stmts schema nodes (walk schema nodes d) q.body c) _ y
      (stmts_meets schema nodes declared d (walk schema nodes d) good q.body c o)
      (λ u b w y'. meets_then Nothing IsSide one_diagnostic (inferring nodes d q.head) head b (omega arith)
      (head_form schema nodes q.head (form schema nodes q.head) b) _ y' (λ y''. head_form_meets q.head (form schema nodes q.head) b w.orderly)
      (λ u' b' w' y''. good.infer q.head b' w'.orderly y''))

  -- From an environment without an entry.
  pub query_meets : (q : Query) (c : Checker) → c.env ≡ [] → Orderly c → Ready (visiting nodes (length nodes) (query_nodes q)) c
      → Meets IsSide (visiting nodes (length nodes) (query_nodes q)) c (query schema nodes q c)
  unfolding query
  query_meets q c e o y =
      let g = visiting nodes (length nodes) (query_nodes q) in
      meets_from IsSide IsSide g g c (infer_query schema nodes q c) _ (omega arith) (infer_query_meets q c o y)
      (λ t b w. rw (ap length e) at (leave_meets schema nodes g c b t o w))
