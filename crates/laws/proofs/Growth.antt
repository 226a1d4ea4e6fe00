-- Card 14. Names, types and predicates are numbered kind by kind, so what is added after the old ones leaves each old number what it
-- was. An added name `value` has a number that no old type uses.
use mathlib.Core.Bool.{Bool, true, false}
use mathlib.Core.List.{List, [], ◌∷◌, ◌++◌, map, append_assoc, append-nil}
use mathlib.Core.Path.{◌≡◌, refl, sym, subst, ◌∙◌, ap}
use Prim.Native.Nat.{ℕ, zero, suc, ◌<◌, ◌≤◌}
use native.Mathlib.Nat.{zero-add, not-suc-le-zero, le_of_suc-le-suc}
use native.Mathlib.Omega.{arith}
use lib.Dec.{eqb}
use lib.ListN.{length, get_or-append}
use borrow.Author.Tests.{ne_eqb}
use Rattle.text.specs.Utf8.{characters, one_more}
use Rattle.unification.specs.Ty.{Record, Union, Ty, leaf, node, Var, Error, Row, ε, cell}
use Rattle.unification.specs.Unify.{find_key}
use Rattle.format.specs.All.{All, Below}
use Rattle.format.specs.Syntax.{ExprKind, Node, Ast}
use Rattle.format.specs.Schema.{Predicate, get, field_of}
use Rattle.format.specs.Frame.{Edition, TypeShape}
use Rattle.format.specs.References.{shape_names, optional, expr_names}
use Rattle.meaning.specs.Diag.{Message}
use Rattle.meaning.specs.Messages.{text_in}
use Rattle.format.specs.Lines.{position}
use Rattle.format.specs.Conditions.{same_text}
use Rattle.format.specs.SoFar.{type_at, ty_of, value_ty, predicate_of}
use Rattle.format.specs.File.{Form, count_of, value_text}
use Rattle.format.specs.Content.{PredicateFrame, Content, Lawful, types_from, predicate_with, describes}
use Rattle.meaning.specs.Check.{key_shadows_value, is_some, check}
use Rattle.format.specs.Sound.{LawfulQuery}
use Rattle.laws.specs.Over.{language_of, TypeOver, RowOver, PredicateOver, MessageOver, CheckedOver}
use Rattle.laws.specs.Same.{AsksAlike, Same}
use Rattle.laws.specs.Growth.{grow, NodeFacts, IsPredicate, spoken, NoAbsent}
use Rattle.laws.proofs.Described.{content_over, content_named}
use Rattle.laws.proofs.Texts.{at_append, fact_append, text_same}
use Rattle.laws.proofs.Shadows.{shadowing, shadows_is}
use Rattle.laws.proofs.Run.{same_run, told_over}
use Rattle.laws.proofs.Names.{answers, count_at}
use Rattle.format.proofs.Lawful.{types_length}
use Rattle.std.specs.Prelude.{None, Option, Some, slice_get}

-- ---- Types
types_append : (ts : List Ty) (a b : List TypeShape) → types_from ts (a ++ b) ≡ types_from (types_from ts a) b
unfolding types_from
types_append ts [] b = refl
types_append ts (s ∷ a) b = types_append (ts ++ ty_of ts s ∷ []) a b

-- The types that are there already stand first.
types_begin : (ts : List Ty) (a : List TypeShape) → (more : List Ty) × (types_from ts a ≡ ts ++ more)
unfolding types_from
types_begin ts [] = ([], sym (append-nil ts))
types_begin ts (s ∷ a) = let h = types_begin (ts ++ ty_of ts s ∷ []) a in (ty_of ts s ∷ h.0, h.1 ∙ append_assoc ts (ty_of ts s ∷ []) h.0)

-- ---- Names that are new
not_found : (P : ℕ → Type 0) (n j : ℕ) (r : Row) → n ≤ j → RowOver (language_of P n) r Record → find_key j r ≡ None
unfolding find_key
not_found P n j ε le h = refl
not_found P n j (cell k l t r) le h = let e : eqb j k ≡ false = ne_eqb j k (λ q. absurd (omega (arith, h.0))) in rw (e, find_key)
    (not_found P n j r le h.1.1)

no_field : (P : ℕ → Type 0) (n j : ℕ) (t : Ty) → n ≤ j → TypeOver (language_of P n) t → field_of t j ≡ None
unfolding field_of
no_field P n j (leaf l) le h = refl
no_field P n j (node Record r) le h = rw (not_found P n j r le h, field_of)
no_field P n j (node Union r) le h = refl
no_field P n j (Var x) le h = refl
no_field P n j Error le h = refl

-- ---- Predicates
type_at_grown : (ts more : List Ty) (n : ℕ) → n < length ts → type_at ts n ≡ type_at (ts ++ more) n
unfolding type_at
type_at_grown ts more n h = sym (get_or-append ts more Error n h)

predicate_grown : (ts more : List Ty) (p : PredicateFrame) → Below (length ts) (p.key ∷ optional p.value)
    → predicate_with ts p ≡ predicate_with (ts ++ more) p
unfolding predicate_with predicate_of optional value_ty
predicate_grown ts more p h = rw (type_at_grown ts more p.key h.0, value p.value h.1)
  where
    value : (o : Option ℕ) → Below (length ts) (optional o) → value_ty ts o ≡ value_ty (ts ++ more) o
    value None i = refl
    value (Some n) i = rw (type_at_grown ts more n i.0)

get_grown : (ts more : List Ty) (ps new : List PredicateFrame) (p : ℕ) → p < length ps → All (λ x. Below (length ts) (x.key ∷ optional x.value)) ps
    → slice_get (map (predicate_with ts) ps) p ≡ slice_get (map (predicate_with (ts ++ more)) (ps ++ new)) p
get_grown ts more [] new p l h = absurd (not-suc-le-zero l)
get_grown ts more (x ∷ ps) new zero l h = ap Some (predicate_grown ts more x h.0)
get_grown ts more (x ∷ ps) new (suc p) l h = get_grown ts more ps new p (le_of_suc-le-suc l) h.1

-- ---- The name `value`

-- It keeps its number, or is new.
data Later (n : ℕ) : Option ℕ → Option ℕ → Type 0 where
  kept : (o : Option ℕ) → Later n o o
  added : (j : ℕ) → n ≤ j → Later n None (Some j)

later_more : (n : ℕ) (o o' : Option ℕ) → Later n o o' → Later (suc n) (one_more o) (one_more o')
later_more n o o' (kept q) = kept (one_more q)
later_more n o o' (added j l) = added (suc j) (omega arith)

position_later : {A : Type 0} (test : A → Bool) (a b : List A) → Later (length a) (position test a) (position test (a ++ b))
unfolding position
position_later test [] b = go (position test b) refl
  where
    go : (o : Option ℕ) → position test b ≡ o → Later 0 None (position test b)
    go None e = rw e (kept None)
    go (Some j) e = rw e (added j (omega arith))
position_later test (x ∷ a) b = go (test x) refl (position_later test a b)
  where
    go : (t : Bool) → test x ≡ t → Later (length a) (position test a) (position test (a ++ b))
        → Later (length (x ∷ a)) (position test (x ∷ a)) (position test (x ∷ (a ++ b)))
    go true e h = rw (e, position) (kept (Some 0))
    go false e h = rw (e, position) (later_more (length a) (position test a) (position test (a ++ b)) h)

shadowing_later : (P : ℕ → Type 0) (n : ℕ) (o : Option Predicate) (v v' : Option ℕ) → PredicateOver (language_of P n) o → Later n v v'
    → shadowing o v ≡ shadowing o v'
unfolding shadowing is_some
shadowing_later P n o v v' h (kept w) = refl
shadowing_later P n None v v' h (added j l) = refl
shadowing_later P n (Some d) v v' h (added j l) = rw (no_field P n j d.key l h.0)

-- ---- The whole

-- What of a lawful content it rests on: references lead to what is there.
pub record Refers (c : Content) : Type 0 where
  pub type_names : All (λ t. Below (length c.names) (shape_names t)) c.types
  pub predicate_names : All (λ p. p.name < length c.names) c.predicates
  pub predicate_types : All (λ p. Below (length c.types) (p.key ∷ optional p.value)) c.predicates
  pub node_names : All (λ a. All (λ n. Below (length c.names) (expr_names n.kind)) a.nodes) c.queries

module _ (c : Content) (refers : Refers c) (present : NoAbsent c) (names : List (List ℕ)) (types : List TypeShape) (predicates : List PredicateFrame) where
  abbrev old : Form
  old = describes c

  abbrev new : Form
  new = describes (grow c names types predicates)

  abbrev old_types : List Ty
  old_types = types_from [] c.types

  get_same : (p : ℕ) → IsPredicate c p → get old.schema p ≡ get new.schema p
  unfolding describes get
  get_same p h =
      let more = types_begin old_types types in
      let e : types_from [] (c.types ++ types) ≡ old_types ++ more.0 = types_append [] c.types types ∙ more.1 in
      let n : length old_types ≡ length c.types = types_length [] c.types ∙ zero-add (length c.types) in
      rw e (get_grown old_types more.0 c.predicates predicates p h
      (subst (λ m. All (λ q. Below m (q.key ∷ optional q.value)) c.predicates) (sym n) refers.predicate_types))

  old_over : (p : ℕ) → PredicateOver (spoken c) (get old.schema p)
  old_over p = content_over (spoken c) c present.types refers.type_names p

  shadows_same : (ns : List Node) (p : ℕ) → IsPredicate c p → key_shadows_value old.schema ns p ≡ key_shadows_value new.schema ns p
  unfolding describes
  shadows_same ns p h =
      shadows_is old.schema ns p
      ∙ shadowing_later (IsPredicate c) (length c.names) (get old.schema p) old.schema.value_field new.schema.value_field (old_over p)
      (position_later (same_text value_text) c.names names)
      ∙ ap (λ (o : Option Predicate). shadowing o new.schema.value_field) (get_same p h)
      ∙ sym (shadows_is new.schema ns p)

  asks : (e : ExprKind) → Below (length c.names) (expr_names e) → NodeFacts (IsPredicate c) e → AsksAlike (IsPredicate c) old.schema new.schema e
  unfolding describes expr_names
  asks (ExprKind.Fuzzy x d) l h = count_at c.names x ∙ ap (λ s. count_of (characters s)) (sym (get_or-append c.names names [] x l.0)) ∙ sym
      (count_at (c.names ++ names) x)
  asks (ExprKind.Fact p e) l h = h
  asks (ExprKind.Lit x) l h = tt
  asks (ExprKind.Var x) l h = tt
  asks ExprKind.Wildcard l h = tt
  asks ExprKind.Never l h = tt
  asks (ExprKind.Prefix x) l h = tt
  asks (ExprKind.Record fs) l h = tt
  asks (ExprKind.Access f e) l h = tt
  asks (ExprKind.Disjunction es) l h = tt
  asks (ExprKind.Subquery q) l h = tt
  asks (ExprKind.Arith es) l h = tt
  asks ExprKind.Error l h = tt
  asks (ExprKind.Select x e) l h = tt

  all_ask : (ns : List Node) → All (λ n. Below (length c.names) (expr_names n.kind)) ns → All (λ n. NodeFacts (IsPredicate c) n.kind) ns
      → All (λ n. AsksAlike (IsPredicate c) old.schema new.schema n.kind) ns
  all_ask [] l h = tt
  all_ask (n ∷ ns) l h = (asks n.kind l.0 h.0, all_ask ns l.1 h.1)

  grown_same : (a : Ast) → All (λ n. Below (length c.names) (expr_names n.kind)) a.nodes → All (λ n. NodeFacts (IsPredicate c) n.kind) a.nodes
      → Same (spoken c) a.nodes old.schema new.schema
  unfolding describes
  grown_same a below facts = record {
    max_distance = refl;
    max_term_chars = refl;
    nodes = all_ask a.nodes below facts;
    names = below;
    predicates = get_same;
    shadows = shadows_same a.nodes;
    closed = λ p h. rw (← get_same p h) (old_over p);
  }

  each_grown : (v : ℕ) (qs : List Ast) → All (λ a. All (λ n. Below (length c.names) (expr_names n.kind)) a.nodes) qs
      → All (λ a. All (λ n. NodeFacts (IsPredicate c) n.kind) a.nodes) qs
      → map (λ (a : Ast). check v old.schema a) qs ≡ map (λ (a : Ast). check v new.schema a) qs
  each_grown v [] l h = refl
  each_grown v (a ∷ qs) l h =
      let first = same_run (spoken c) old.schema new.schema a (grown_same a l.0 h.0) v in
      let more = each_grown v qs l.1 h.1 in
      cc

  -- The same types, diagnostics and visits of every query, or it is stopped in both.
  pub grown_answers : (v : ℕ) → answers v c ≡ answers v (grow c names types predicates)
  grown_answers v = each_grown v c.queries refers.node_names present.nodes

  -- ---- The messages are the same, and so are their texts.
  each_over : (v : ℕ) (qs : List Ast) → All (λ a. All (λ n. Below (length c.names) (expr_names n.kind)) a.nodes) qs
      → All (λ a. All (λ n. NodeFacts (IsPredicate c) n.kind) a.nodes) qs
      → All (λ a. CheckedOver (spoken c) (check v new.schema a)) qs
  each_over v [] l h = tt
  each_over v (a ∷ qs) l h = (told_over (spoken c) old.schema new.schema a (grown_same a l.0 h.0) v, each_over v qs l.1 h.1)

  pub grown_over : (v : ℕ) → All (λ a. CheckedOver (spoken c) (check v new.schema a)) c.queries
  grown_over v = each_over v c.queries refers.node_names present.nodes

  pub grown_texts : (m : Message) → MessageOver (spoken c) m → text_in old m ≡ text_in new m
  unfolding describes
  grown_texts m h = text_same (spoken c) old.names new.names old.schema new.schema (record {
    max_distance = refl;
    max_term_chars = refl;
    texts = λ x i. at_append c.names names x i;
    facts = λ p i. fact_append c.names names old.schema new.schema p (get_same p i) (content_named c refers.predicate_names p);
  }) m h

names_below_lem : (n : ℕ) (qs : List Ast) → All (LawfulQuery n) qs → All (λ a. All (λ m. Below n (expr_names m.kind)) a.nodes) qs
names_below_lem n [] h = tt
names_below_lem n (a ∷ qs) h = (h.0.node_names, names_below_lem n qs h.1)

pub lawful_refers : {e : Edition} (c : Content) → Lawful e c → Refers c
lawful_refers c l = record {
  type_names = l.type_names;
  predicate_names = l.predicate_names;
  predicate_types = l.predicate_types;
  node_names = names_below_lem (length c.names) c.queries l.queries;
}
