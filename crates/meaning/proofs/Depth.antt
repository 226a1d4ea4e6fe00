-- A node names only lower nodes, so any depth above its number gives the same visit: two walks that visit a node's parts alike
-- visit the node alike.
use mathlib.Core.Bool.{Bool, true, false}
use mathlib.Core.List.{List, [], ◌∷◌}
use mathlib.Core.Path.{◌≡◌, refl, ◌∙◌, fun_ext}
use mathlib.Core.Logic.{by_cases}
use Prim.Native.Nat.{ℕ, zero, suc, ◌<◌}
use native.Mathlib.Decide.{dec_lt}
use native.Mathlib.Omega.{arith}
use lib.ListN.{length, get_or-eq_default}
use Rattle.unification.specs.Ty.{Leaf, Kind, Ty, Row}
use Rattle.unification.specs.Unify.{find_key, find_label}
use Rattle.format.specs.Syntax.{Field, QueryStmt, Query, FieldRef, Literal, ExprKind, Node, no_node, node_at, all_fields, destructurable_kind}
use Rattle.format.specs.Syntax.{destructurable_in, is_destructurable}
use Rattle.format.specs.Schema.{Schema}
use Rattle.format.specs.References.{field_values, stmt_nodes, query_nodes, expr_nodes}
use Rattle.format.specs.All.{All}
use Rattle.format.specs.Sound.{Lower}
use Rattle.format.proofs.Lists.{all_map}
use Rattle.format.proofs.Sound.{lower_at}
use Rattle.meaning.specs.Check.{NodeForm, a_wildcard, a_variable, a_constant, a_record, a_disjunction, an_error, another, form_of, Walk, kind, form, key_ty}
use Rattle.meaning.specs.Check.{access, select, infer_fields, infer_all, disjunction, fact, bind_variable, bad_target, only_right, not_yet, destructure}
use Rattle.meaning.specs.Check.{bind_wildcard, bind_form, deny_form, compare, generate, stmt, stmts, subquery, infer_kind, infer_at, infer_then_unify}
use Rattle.meaning.specs.Check.{check_field, check_mentioned, check_fields, check_alternative, check_union, check_record, check_form, check_against, check_at}
use Rattle.meaning.specs.Check.{generate_branches, generator_form, generator_at, walk}
use Rattle.std.specs.Prelude.{None, Option, Some}

-- They visit this node alike.
pub record Alike (below below' : Walk) (m : ℕ) : Type 0 where
  pub infer : below.infer m ≡ below'.infer m
  pub check : below.check m ≡ below'.check m
  pub generator : below.generator m ≡ below'.generator m

module _ (schema : Schema) (nodes : List Node) (below below' : Walk) where
  -- ---- The parts of a node or a statement
  access_alike : (id : ℕ) (f : FieldRef) (base : ℕ) → Alike below below' base → access schema nodes below id f base ≡ access schema nodes below' id f base
  unfolding access
  access_alike id f base h = rw h.infer

  select_alike : (id name base : ℕ) → Alike below below' base → select schema nodes below id name base ≡ select schema nodes below' id name base
  unfolding select
  select_alike id name base h = rw h.infer

  fact_alike : (p key : ℕ) → Alike below below' key → fact schema nodes below p key ≡ fact schema nodes below' p key
  unfolding fact
  fact_alike p key h = go (key_ty schema nodes p) refl
    where
      go : (o : Option Ty) → key_ty schema nodes p ≡ o → fact schema nodes below p key ≡ fact schema nodes below' p key
      go None e = rw (e, fact)
      go (Some t) e = rw (e, fact, h.check)

  infer_fields_alike : (fs : List Field) → All (Alike below below') (field_values fs) → infer_fields schema nodes below fs ≡ infer_fields schema nodes below' fs
  unfolding infer_fields field_values
  infer_fields_alike [] h = refl
  infer_fields_alike (f ∷ fs) h = rw (h.0.infer, infer_fields_alike fs h.1)

  infer_all_alike : (t : Ty) (es : List ℕ) → All (Alike below below') es → infer_all schema nodes below t es ≡ infer_all schema nodes below' t es
  unfolding infer_all
  infer_all_alike t [] h = refl
  infer_all_alike t (e ∷ es) h = rw (h.0.infer, infer_all_alike t es h.1)

  disjunction_alike : (es : List ℕ) → All (Alike below below') es → disjunction schema nodes below es ≡ disjunction schema nodes below' es
  unfolding disjunction
  disjunction_alike es h = simp all
    where
      all : (t : Ty) → infer_all schema nodes below t es ≡ infer_all schema nodes below' t es
      all t = infer_all_alike t es h

  bind_form_alike : (f : NodeForm) (l r : ℕ) → Alike below below' l → Alike below below' r
      → bind_form schema nodes below f l r ≡ bind_form schema nodes below' f l r
  unfolding bind_form bind_variable bad_target only_right not_yet destructure bind_wildcard
  bind_form_alike a_wildcard l r p q = rw q.infer
  bind_form_alike (a_variable x) l r p q = rw q.infer
  bind_form_alike a_constant l r p q = rw q.infer
  bind_form_alike (a_record fs) l r p q = go (is_destructurable nodes l) refl
    where
      go : (b : Bool) → is_destructurable nodes l ≡ b → bind_form schema nodes below (a_record fs) l r ≡ bind_form schema nodes below' (a_record fs) l r
      go true e = rw (e, bind_form, p.infer, q.infer)
      go false e = rw (e, bind_form, p.infer, q.infer)
  bind_form_alike (a_disjunction es) l r p q = rw (p.infer, q.infer)
  bind_form_alike an_error l r p q = rw q.infer
  bind_form_alike another l r p q = rw (p.infer, q.infer)

  deny_form_alike : (f : NodeForm) (l r : ℕ) → Alike below below' l → Alike below below' r
      → deny_form schema nodes below f l r ≡ deny_form schema nodes below' f l r
  unfolding deny_form bind_variable bad_target only_right not_yet
  deny_form_alike a_wildcard l r p q = rw q.infer
  deny_form_alike (a_variable x) l r p q = rw q.infer
  deny_form_alike a_constant l r p q = rw q.infer
  deny_form_alike (a_record fs) l r p q = rw (p.infer, q.infer)
  deny_form_alike (a_disjunction es) l r p q = rw (p.infer, q.infer)
  deny_form_alike an_error l r p q = rw q.infer
  deny_form_alike another l r p q = rw (p.infer, q.infer)

  pub stmts_alike : (ss : List QueryStmt) → All (Alike below below') (stmt_nodes ss) → stmts schema nodes below ss ≡ stmts schema nodes below' ss
  unfolding stmts stmt stmt_nodes compare generate
  stmts_alike [] h = refl
  stmts_alike (QueryStmt.Bind l r ∷ ss) h = rw (bind_form_alike (form schema nodes l) l r h.0 h.1.0, stmts_alike ss h.1.1)
  stmts_alike (QueryStmt.Deny l r ∷ ss) h = rw (deny_form_alike (form schema nodes l) l r h.0 h.1.0, stmts_alike ss h.1.1)
  stmts_alike (QueryStmt.Compare l r ∷ ss) h = rw (h.0.infer, h.1.0.infer, stmts_alike ss h.1.1)
  stmts_alike (QueryStmt.Implicit e ∷ ss) h = rw (h.0.generator, stmts_alike ss h.1)
  stmts_alike (QueryStmt.Negation e ∷ ss) h = rw (h.0.generator, stmts_alike ss h.1)

  subquery_alike : (q : Query) → All (Alike below below') (query_nodes q) → subquery schema nodes below q ≡ subquery schema nodes below' q
  unfolding subquery query_nodes
  subquery_alike q h = rw (stmts_alike q.body h.1, h.0.infer)

  -- ---- `infer`
  infer_kind_alike : (id : ℕ) (k : ExprKind) → All (Alike below below') (expr_nodes k)
      → infer_kind schema nodes below id k ≡ infer_kind schema nodes below' id k
  unfolding infer_kind expr_nodes
  infer_kind_alike id (ExprKind.Lit Literal.Int) h = refl
  infer_kind_alike id (ExprKind.Lit Literal.Str) h = refl
  infer_kind_alike id (ExprKind.Lit Literal.Bytes) h = refl
  infer_kind_alike id (ExprKind.Var x) h = refl
  infer_kind_alike id ExprKind.Wildcard h = refl
  infer_kind_alike id ExprKind.Never h = refl
  infer_kind_alike id (ExprKind.Prefix x) h = refl
  infer_kind_alike id (ExprKind.Fuzzy x d) h = refl
  infer_kind_alike id (ExprKind.Record fs) h = rw (infer_fields_alike fs h)
  infer_kind_alike id (ExprKind.Access f e) h = access_alike id f e h.0
  infer_kind_alike id (ExprKind.Disjunction es) h = disjunction_alike es h
  infer_kind_alike id (ExprKind.Subquery q) h = subquery_alike q h
  infer_kind_alike id (ExprKind.Fact p e) h = fact_alike p e h.0
  infer_kind_alike id (ExprKind.Arith es) h = rw (infer_all_alike (Ty.leaf Leaf.Int) es h)
  infer_kind_alike id ExprKind.Error h = refl
  infer_kind_alike id (ExprKind.Select x e) h = select_alike id x e h.0

  module _ (id : ℕ) (parts : All (Alike below below') (expr_nodes (node_at nodes id).kind)) where
    infer_at_alike : infer_at schema nodes below id ≡ infer_at schema nodes below' id
    unfolding infer_at kind
    infer_at_alike = rw (infer_kind_alike id (node_at nodes id).kind parts)

    infer_then_unify_alike : (t : Ty) → infer_then_unify schema nodes below id t ≡ infer_then_unify schema nodes below' id t
    unfolding infer_then_unify
    infer_then_unify_alike t = rw infer_at_alike

    -- ---- `check`
    check_fields_alike : (fs : List Field) (row : Row) → All (Alike below below') (field_values fs)
        → check_fields schema nodes below fs row ≡ check_fields schema nodes below' fs row
    unfolding check_fields check_mentioned check_field field_values
    check_fields_alike [] row h = refl
    check_fields_alike (f ∷ fs) row h = rw (mentioned (find_key f.name row), check_fields_alike fs row h.1)
      where
        mentioned : (o : Option (ℕ × Ty)) → check_mentioned schema nodes below f o ≡ check_mentioned schema nodes below' f o
        mentioned None = refl
        mentioned (Some field) = rw h.0.check

    check_union_alike : (fs : List Field) (row : Row) → All (Alike below below') (field_values fs)
        → check_union schema nodes below id fs row ≡ check_union schema nodes below' id fs row
    unfolding check_union check_alternative field_values
    check_union_alike [] row h = refl
    check_union_alike (f ∷ []) row h = go (find_label f.name row) refl
      where
        go : (o : Option Ty) → find_label f.name row ≡ o → check_alternative schema nodes below id f row ≡ check_alternative schema nodes below' id f row
        go None e = rw (e, check_alternative)
        go (Some t) e = rw (e, check_alternative, h.0.check)
    check_union_alike (f ∷ g ∷ fs) row h = refl

    check_record_alike : (fs : List Field) (t : Ty) → All (Alike below below') (field_values fs)
        → check_record schema nodes below id fs t ≡ check_record schema nodes below' id fs t
    unfolding check_record
    check_record_alike fs (Ty.node Kind.Record row) h = rw (check_fields_alike fs row h)
    check_record_alike fs (Ty.node Kind.Union row) h = check_union_alike fs row h
    check_record_alike fs (Ty.leaf p) h = infer_then_unify_alike (Ty.leaf p)
    check_record_alike fs (Ty.Var x) h = infer_then_unify_alike (Ty.Var x)
    check_record_alike fs Ty.Error h = infer_then_unify_alike Ty.Error

    -- What a form holds are the parts that the kind names.
    check_kind_alike : (k : ExprKind) (t : Ty) → All (Alike below below') (expr_nodes k)
        → check_form schema nodes below id (form_of k) t ≡ check_form schema nodes below' id (form_of k) t
    unfolding check_form form_of expr_nodes
    check_kind_alike (ExprKind.Lit l) t h = infer_then_unify_alike t
    check_kind_alike (ExprKind.Var x) t h = infer_then_unify_alike t
    check_kind_alike ExprKind.Wildcard t h = refl
    check_kind_alike ExprKind.Never t h = infer_then_unify_alike t
    check_kind_alike (ExprKind.Prefix x) t h = infer_then_unify_alike t
    check_kind_alike (ExprKind.Fuzzy x d) t h = infer_then_unify_alike t
    check_kind_alike (ExprKind.Record fs) t h = check_record_alike fs t h
    check_kind_alike (ExprKind.Access f e) t h = infer_then_unify_alike t
    check_kind_alike (ExprKind.Disjunction es) t h = infer_then_unify_alike t
    check_kind_alike (ExprKind.Subquery q) t h = infer_then_unify_alike t
    check_kind_alike (ExprKind.Fact p e) t h = infer_then_unify_alike t
    check_kind_alike (ExprKind.Arith es) t h = infer_then_unify_alike t
    check_kind_alike ExprKind.Error t h = infer_then_unify_alike t
    check_kind_alike (ExprKind.Select x e) t h = infer_then_unify_alike t

    check_against_alike : (t : Ty) → check_against schema nodes below id t ≡ check_against schema nodes below' id t
    unfolding check_against form kind
    check_against_alike Ty.Error = refl
    check_against_alike (Ty.leaf p) = check_kind_alike (node_at nodes id).kind (Ty.leaf p) parts
    check_against_alike (Ty.node k r) = check_kind_alike (node_at nodes id).kind (Ty.node k r) parts
    check_against_alike (Ty.Var x) = check_kind_alike (node_at nodes id).kind (Ty.Var x) parts

    check_at_alike : (t : Ty) → check_at schema nodes below id t ≡ check_at schema nodes below' id t
    unfolding check_at
    check_at_alike t = simp check_against_alike

    -- ---- `generator`
    generate_branches_alike : (last : Ty) (es : List ℕ) → All (Alike below below') es
        → generate_branches schema nodes below last es ≡ generate_branches schema nodes below' last es
    unfolding generate_branches
    generate_branches_alike last [] h = refl
    generate_branches_alike last (e ∷ es) h = rw (h.0.generator, fun_ext (λ t. generate_branches_alike t es h.1))

    generator_kind_alike : (k : ExprKind) → All (Alike below below') (expr_nodes k)
        → generator_form schema nodes below id (form_of k) ≡ generator_form schema nodes below' id (form_of k)
    unfolding generator_form form_of expr_nodes
    generator_kind_alike (ExprKind.Lit l) h = infer_at_alike
    generator_kind_alike (ExprKind.Var x) h = infer_at_alike
    generator_kind_alike ExprKind.Wildcard h = infer_at_alike
    generator_kind_alike ExprKind.Never h = infer_at_alike
    generator_kind_alike (ExprKind.Prefix x) h = infer_at_alike
    generator_kind_alike (ExprKind.Fuzzy x d) h = infer_at_alike
    generator_kind_alike (ExprKind.Record fs) h = infer_at_alike
    generator_kind_alike (ExprKind.Access f e) h = infer_at_alike
    generator_kind_alike (ExprKind.Disjunction es) h = rw (generate_branches_alike Ty.Error es h)
    generator_kind_alike (ExprKind.Subquery q) h = infer_at_alike
    generator_kind_alike (ExprKind.Fact p e) h = infer_at_alike
    generator_kind_alike (ExprKind.Arith es) h = infer_at_alike
    generator_kind_alike ExprKind.Error h = infer_at_alike
    generator_kind_alike (ExprKind.Select x e) h = infer_at_alike

    generator_at_alike : generator_at schema nodes below id ≡ generator_at schema nodes below' id
    unfolding generator_at form kind
    generator_at_alike = generator_kind_alike (node_at nodes id).kind parts

-- ---- The walk

-- Each node names only lower ones; a number past the last is no node, and names none.
unfoldable pub Falls : List Node → Type 0
Falls nodes = (n : ℕ) → All (λ m. m < n) (expr_nodes (node_at nodes n).kind)

pub lower_falls : (nodes : List Node) → Lower 0 nodes → Falls nodes
unfolding Falls node_at no_node expr_nodes
lower_falls nodes l n = by_cases (dec_lt n (length nodes)) (λ h. lower_at nodes n l h) (λ h. rw (get_or-eq_default nodes no_node {n = n} (omega arith)) tt)

module _ (nodes : List Node) (falls : Falls nodes) where
  pub walk_depth : (schema : Schema) (d e n : ℕ) → n < d → n < e → Alike (walk schema nodes d) (walk schema nodes e) n
  unfolding walk Falls
  walk_depth schema zero e n p q = absurd (omega arith)
  walk_depth schema (suc d) zero n p q = absurd (omega arith)
  walk_depth schema (suc d) (suc e) n p q =
      let parts = all_map (λ m. m < n) (Alike (walk schema nodes d) (walk schema nodes e)) (expr_nodes (node_at nodes n).kind)
      (λ m l. walk_depth schema d e m (omega arith) (omega arith)) (falls n) in
      record {
        infer = infer_at_alike schema nodes (walk schema nodes d) (walk schema nodes e) n parts;
        check = fun_ext (check_at_alike schema nodes (walk schema nodes d) (walk schema nodes e) n parts);
        generator = generator_at_alike schema nodes (walk schema nodes d) (walk schema nodes e) n parts;
      }

  -- ---- `is_destructurable`
  all_fields_alike : (ask ask' : ℕ → Bool) (fs : List Field) → All (λ m. ask m ≡ ask' m) (field_values fs) → all_fields ask fs ≡ all_fields ask' fs
  unfolding all_fields field_values
  all_fields_alike ask ask' [] h = refl
  all_fields_alike ask ask' (f ∷ fs) h = go (ask' f.value) refl (all_fields_alike ask ask' fs h.1)
    where
      go : (b : Bool) → ask' f.value ≡ b → all_fields ask fs ≡ all_fields ask' fs → all_fields ask (f ∷ fs) ≡ all_fields ask' (f ∷ fs)
      go true e ih = rw (h.0 ∙ e, e, all_fields) ih
      go false e ih = rw (h.0 ∙ e, e, all_fields)

  destructurable_kind_alike : (ask ask' : ℕ → Bool) (k : ExprKind) → All (λ m. ask m ≡ ask' m) (expr_nodes k)
      → destructurable_kind ask k ≡ destructurable_kind ask' k
  unfolding destructurable_kind expr_nodes
  destructurable_kind_alike ask ask' (ExprKind.Lit l) h = refl
  destructurable_kind_alike ask ask' (ExprKind.Var x) h = refl
  destructurable_kind_alike ask ask' ExprKind.Wildcard h = refl
  destructurable_kind_alike ask ask' ExprKind.Never h = refl
  destructurable_kind_alike ask ask' (ExprKind.Prefix x) h = refl
  destructurable_kind_alike ask ask' (ExprKind.Fuzzy x d) h = refl
  destructurable_kind_alike ask ask' (ExprKind.Record fs) h = all_fields_alike ask ask' fs h
  destructurable_kind_alike ask ask' (ExprKind.Access f e) h = refl
  destructurable_kind_alike ask ask' (ExprKind.Disjunction es) h = refl
  destructurable_kind_alike ask ask' (ExprKind.Subquery q) h = refl
  destructurable_kind_alike ask ask' (ExprKind.Fact p e) h = refl
  destructurable_kind_alike ask ask' (ExprKind.Arith es) h = refl
  destructurable_kind_alike ask ask' ExprKind.Error h = refl
  destructurable_kind_alike ask ask' (ExprKind.Select x e) h = refl

  pub destructurable_depth : (d e n : ℕ) → n < d → n < e → destructurable_in d nodes n ≡ destructurable_in e nodes n
  unfolding destructurable_in Falls
  destructurable_depth zero e n p q = absurd (omega arith)
  destructurable_depth (suc d) zero n p q = absurd (omega arith)
  destructurable_depth (suc d) (suc e) n p q =
      destructurable_kind_alike (λ m. destructurable_in d nodes m) (λ m. destructurable_in e nodes m) (node_at nodes n).kind
      (all_map (λ m. m < n) (λ m. destructurable_in d nodes m ≡ destructurable_in e nodes m) (expr_nodes (node_at nodes n).kind)
      (λ m l. destructurable_depth d e m (omega arith) (omega arith)) (falls n))

  -- `is_destructurable` takes the least depth that serves.
  pub destructurable_is : (d n : ℕ) → n < d → destructurable_in d nodes n ≡ is_destructurable nodes n
  unfolding is_destructurable
  destructurable_is d n p = destructurable_depth d (suc n) n p (omega arith)
