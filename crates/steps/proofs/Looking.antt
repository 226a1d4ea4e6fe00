-- Look-up in what the file said: a predicate's key and value, and a field of a record. The words of a predicate stand
-- for the schema's, so what is read from them is what the definition looks up.
use mathlib.Core.Bool.{Bool, true, false}
use mathlib.Core.List.{List, [], ◌∷◌}
use mathlib.Core.Path.{◌≡◌, refl, sym, ◌∙◌, ap}
use native.Mathlib.Omega.{arith}
use Prim.Native.Nat.{ℕ, ◌+◌, ◌-◌, ◌/◌, ◌%◌, ◌<◌, ◌≤◌}
use types.Run.{OneOf, miss}
use denote.Enum.Declared.{tag_of}
use lib.Dec.{eqb, ltb}
use lib.ListN.{get_or}
use borrow.Author.Tests.{ltb-true, ltb-false, eqb-true}
use Rattle.unification.specs.Ty as Tree
use Rattle.unification.specs.Unify.{find_key}
use Rattle.work.specs.Layout.{PREDICATE-COUNT, VALUE-NAME, PREDICATES, TYPE-COUNT}
use Rattle.cells.specs.declared.Ty.{Ty}
use Rattle.cells.specs.declared.Ty.TheVariants.{Int, Str, Bytes, Fact, Record, Union, Var, Error}
use Rattle.cells.specs.declared.Kind.TheVariants.{Fields}
use Rattle.cells.specs.declared.Part.{Part}
use Rattle.cells.specs.Words.{pick, declared_w}
use Rattle.cells.specs.Stands.{Rows, tree, bound_tree, Ok, OkBound}
use Rattle.cells.specs.Promises.{FindsKey}
use Rattle.cells.specs.contracts.Ty.{the_type}
use Rattle.format.specs.Schema.{Schema, get, field_of}
use Rattle.format.specs.File.{Described}
use Rattle.std.specs.Prelude as Std
use Rattle.meaning.specs.Check.{Checker, is_some, key_ty, value_ty, key_shadows_value}
use Rattle.tree.specs.Stands.{PredicateIs, no_predicate, numbered, SchemaStands}
use Rattle.state.specs.Runs.{Runs}
use Rattle.state.proofs.Standing.{declared_ok}
use Rattle.steps.specs.Promises.{nodes_of, KeyIs}
use Rattle.steps.specs.Outside.{predicate_w, key_ty_w, value_ty_w, FieldIs, Shadows}
use Rattle.std.specs.Prelude.{None, Option, Some, slice_get}
use Rattle.std.proofs.lemmas.Option.{none-some, cond_some, slice_get-get_or, slice_get_past}

-- ---- The word of a predicate, and what it says
none_by : (b : Bool) (y : ℕ) → pick b (Some y) None ≡ None → b ≡ false
none_by true y e = absurd (none-some y (sym e))
none_by false y e = refl

module _ (w : List ℕ) (p : ℕ) {o : Option ℕ} (q : o ≡ predicate_w w p) where
  module _ {x : ℕ} (e : o ≡ Some x) where
    there_as : (ltb p (get_or w PREDICATE-COUNT 0) ≡ true) × (get_or w (PREDICATES + p) 0 ≡ x)
    unfolding predicate_w
    there_as = cond_some (ltb p (get_or w PREDICATE-COUNT 0)) (get_or w (PREDICATES + p) 0) x (sym q ∙ e)

    pub key_there : Some (declared_w w (x / 512 % 256)) ≡ key_ty_w w p
    unfolding key_ty_w
    key_there = rw (there_as.0, there_as.1)

  module _ (e : o ≡ None) where
    not_there : ltb p (get_or w PREDICATE-COUNT 0) ≡ false
    unfolding predicate_w
    not_there = none_by (ltb p (get_or w PREDICATE-COUNT 0)) (get_or w (PREDICATES + p) 0) (sym q ∙ e)

    pub key_past : None ≡ key_ty_w w p
    unfolding key_ty_w
    key_past = rw not_there

-- ---- A field
module _ {w : List ℕ} {t : Ty} {c name : ℕ} {r : Option Part} (F : FindsKey w Fields c name r) (e : t ≡ Record c) where
  pub field_found : (p : Part) → r ≡ Some p → FieldIs w t name (Some p.ty)
  unfolding field_of
  field_found p q = record {
    is = λ T C o. let found : Some (p.label, tree T p.ty) ≡ find_key name (T c) = rw q at (F.is T C (rw e at o)) in rw (e, ← found, field_of);
    ok = λ T C o. rw q at (F.ok T C (rw e at o));
  }

  pub field_none : r ≡ None → FieldIs w t name None
  unfolding field_of
  field_none q = record {
    is = λ T C o. let found : None ≡ find_key name (T c) = rw q at (F.is T C (rw e at o)) in rw (e, ← found, field_of);
    ok = λ T C o. tt;
  }

pub field_other : {w : List ℕ} {t : Ty} {name : ℕ} → OneOf (0 ∷ 1 ∷ 2 ∷ 3 ∷ 5 ∷ 6 ∷ 7 ∷ []) (tag_of the_type t) → FieldIs w t name None
unfolding field_of
field_other {w} {t} {name} x = record { is = λ T C o. go T t x; ok = λ T C o. tt }
  where
    go : (T : Rows) (t : Ty) → OneOf (0 ∷ 1 ∷ 2 ∷ 3 ∷ 5 ∷ 6 ∷ 7 ∷ []) (tag_of the_type t) → None ≡ field_of (tree T t) name
    go T Int x = refl
    go T Str x = refl
    go T Bytes x = refl
    go T (Fact p) x = refl
    go T (Record c) x = absurd (miss (0 ∷ 1 ∷ 2 ∷ 3 ∷ 5 ∷ 6 ∷ 7 ∷ []) 4 tt x)
    go T (Union c) x = refl
    go T (Var y) x = refl
    go T Error x = refl

-- ---- A predicate
module _ {f w : List ℕ} {T : Rows} {d : Described} {c : Checker} (R : Runs f w T d c) (p : ℕ) where
  abbrev schema : Schema
  schema = d.schema

  S : SchemaStands f w T d.names d.schema
  S = R.stands.schema

  predicate : p < get_or w PREDICATE-COUNT 0 → PredicateIs w T (get_or w TYPE-COUNT 0) p (get_or d.schema.predicates p no_predicate)
  predicate h = S.predicate p (omega (arith, S.predicates))

  type_ok : (t : ℕ) → t < get_or w TYPE-COUNT 0 → Ok w (declared_w w t)
  type_ok t h = declared_ok w t (omega (arith, S.types)) h (S.cells.tags t h)

  there : p < get_or w PREDICATE-COUNT 0 → get d.schema p ≡ Some (get_or d.schema.predicates p no_predicate)
  unfolding get
  there h = slice_get-get_or d.schema.predicates p no_predicate (omega (arith, S.predicates))

  past : get_or w PREDICATE-COUNT 0 ≤ p → get d.schema p ≡ None
  unfolding get
  past h = slice_get_past d.schema.predicates p (omega (arith, S.predicates))

  pub key_stands : bound_tree T (key_ty_w w p) ≡ key_ty d.schema (nodes_of d) p
  unfolding key_ty_w key_ty
  key_stands = go (ltb p (get_or w PREDICATE-COUNT 0)) refl
    where
      go : (b : Bool) → ltb p (get_or w PREDICATE-COUNT 0) ≡ b → bound_tree T (pick b (Some (declared_w w (get_or w (PREDICATES + p) 0 / 512 % 256))) None) ≡
          key_ty d.schema (nodes_of d) p
      go true q = let h = ltb-true p (get_or w PREDICATE-COUNT 0) q in rw (there h, key_ty) (ap Some (sym (predicate h).key))
      go false q = rw (past (ltb-false p (get_or w PREDICATE-COUNT 0) q), key_ty)

  pub key_ok : OkBound w (key_ty_w w p)
  unfolding key_ty_w
  key_ok = go (ltb p (get_or w PREDICATE-COUNT 0)) refl
    where
      go : (b : Bool) → ltb p (get_or w PREDICATE-COUNT 0) ≡ b → OkBound w (pick b (Some (declared_w w (get_or w (PREDICATES + p) 0 / 512 % 256))) None)
      go true q = type_ok (get_or w (PREDICATES + p) 0 / 512 % 256) (predicate (ltb-true p (get_or w PREDICATE-COUNT 0) q)).key_there
      go false q = tt

  value_tree : (b : Bool) (t : Ty) → bound_tree T (pick b (Some t) None) ≡ pick b (Some (tree T t)) None
  value_tree true t = refl
  value_tree false t = refl

  pub value_stands : bound_tree T (value_ty_w w p) ≡ value_ty d.schema (nodes_of d) p
  unfolding value_ty_w value_ty
  value_stands = go (ltb p (get_or w PREDICATE-COUNT 0)) refl
    where
      go : (b : Bool) → ltb p (get_or w PREDICATE-COUNT 0) ≡ b
          → bound_tree T (pick b (pick (eqb (get_or w (PREDICATES + p) 0 % 2) 1) (Some (declared_w w (get_or w (PREDICATES + p) 0 / 2 % 256))) None) None) ≡
          value_ty d.schema (nodes_of d) p
      go true q =
          let h = ltb-true p (get_or w PREDICATE-COUNT 0) q in
          rw (there h, value_ty) (value_tree (eqb (get_or w (PREDICATES + p) 0 % 2) 1) (declared_w w (get_or w (PREDICATES + p) 0 / 2 % 256)) ∙ sym
          (predicate h).value)
      go false q = rw (past (ltb-false p (get_or w PREDICATE-COUNT 0) q), value_ty)

  pub value_ok : OkBound w (value_ty_w w p)
  unfolding value_ty_w
  value_ok = go (ltb p (get_or w PREDICATE-COUNT 0)) refl
    where
      of : (b : Bool) → p < get_or w PREDICATE-COUNT 0 → eqb (get_or w (PREDICATES + p) 0 % 2) 1 ≡ b
          → OkBound w (pick b (Some (declared_w w (get_or w (PREDICATES + p) 0 / 2 % 256))) None)
      of true h e = type_ok (get_or w (PREDICATES + p) 0 / 2 % 256) ((predicate h).value_there (eqb-true (get_or w (PREDICATES + p) 0 % 2) 1 e))
      of false h e = tt

      go : (b : Bool) → ltb p (get_or w PREDICATE-COUNT 0) ≡ b → OkBound w
          (pick b (pick (eqb (get_or w (PREDICATES + p) 0 % 2) 1) (Some (declared_w w (get_or w (PREDICATES + p) 0 / 2 % 256))) None) None)
      go true q = of (eqb (get_or w (PREDICATES + p) 0 % 2) 1) (ltb-true p (get_or w PREDICATE-COUNT 0) q) refl
      go false q = tt

pub key_is : (f w : List ℕ) (p : ℕ) → KeyIs f w p (key_ty_w w p)
key_is f w p = record { is = λ T d c R. key_stands R p; ok = λ T d c R. key_ok R p }

-- ---- A key field called `value`
shadows_none : (schema : Schema) (nodes : List _) (p : ℕ) → schema.value_field ≡ None → key_shadows_value schema nodes p ≡ false
unfolding key_shadows_value
shadows_none schema nodes p e = go (key_ty schema nodes p) refl
  where
    go : (o : Option Tree.Ty) → key_ty schema nodes p ≡ o → key_shadows_value schema nodes p ≡ false
    go None q = rw (q, key_shadows_value)
    go (Some t) q = rw (q, e, key_shadows_value)

none_numbered : (o : Option ℕ) → 0 ≡ numbered o → o ≡ None
none_numbered None e = refl
none_numbered (Some v) e = absurd (omega arith)

some_numbered : (o : Option ℕ) (n : ℕ) → n ≡ numbered o → ¬ (n ≡ 0) → o ≡ Some (n - 1)
some_numbered None n e x = absurd (x e)
some_numbered (Some v) n e x = let p : v ≡ n - 1 = omega arith in ap Some p

module _ {w : List ℕ} (p : ℕ) {value : ℕ} (v : value ≡ get_or w VALUE-NAME 0) where
  pub no_value_name : value ≡ 0 → Shadows w p false
  no_value_name z = record {
    is = λ f T d c R. sym
        (shadows_none d.schema (nodes_of d) p (none_numbered d.schema.value_field (sym z ∙ v ∙ R.stands.schema.value)));
  }

  module _ (x : ¬ (value ≡ 0)) {key : Option Ty} (k : key ≡ key_ty_w w p) where
    pub no_key : key ≡ None → Shadows w p false
    unfolding key_shadows_value
    no_key e = record { is = λ f T d c R. let q : None ≡ key_ty d.schema (nodes_of d) p = rw (← k, e) at (key_stands R p) in rw (← q, key_shadows_value) }

    module _ (t : Ty) (e : key ≡ Some t) {r : Option Ty} (F : FieldIs w t (value - 1) r) where
      sought : {f : List ℕ} {T : Rows} {d : Described} {c : Checker} → Runs f w T d c → key_shadows_value d.schema (nodes_of d) p ≡ is_some (bound_tree T r)
      unfolding key_shadows_value
      sought {f} {T} {d} {c} R =
          let q : Some (tree T t) ≡ key_ty d.schema (nodes_of d) p = rw (← k, e) at (key_stands R p) in
          let name : d.schema.value_field ≡ Some (value - 1) = some_numbered d.schema.value_field value (v ∙ R.stands.schema.value) x in
          let o : Ok w t = rw (← k, e) at (key_ok R p) in
          rw (← q, name, key_shadows_value) (ap is_some (sym (F.is T R.holds.cells o)))

      -- where the field is found
      pub shadows : {b : Bool} → b ≡ Std.is_some r → Shadows w p b
      unfolding is_some
      shadows e = go r refl e
        where
          go : (o : Option Ty) → r ≡ o → {b : Bool} → b ≡ Std.is_some o → Shadows w p b
          go None z {b} e = record { is = λ f T d c R. e ∙ sym (sought R ∙ rw z) }
          go (Some u) z {b} e = record { is = λ f T d c R. e ∙ sym (sought R ∙ rw z) }
