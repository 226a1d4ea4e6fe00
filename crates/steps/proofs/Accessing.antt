-- Access to a field, on the head of a type: what is found comes back, else there is one diagnostic.
use mathlib.Core.Bool.{Bool, true, false}
use mathlib.Core.List.{List, [], ◌∷◌}
use mathlib.Core.Path.{◌≡◌, refl, sym, ◌∙◌}
use Prim.Native.Nat.{ℕ}
use types.Run.{OneOf, miss}
use denote.Enum.Declared.{tag_of}
use Rattle.unification.specs.Ty as Tree
use Rattle.unification.specs.Unify.{find_label}
use Rattle.unification.proofs.Sides.{declared_side}
use Rattle.cells.specs.declared.Ty.{Ty}
use Rattle.cells.specs.declared.Ty.TheVariants.{Int, Str, Bytes, Fact, Record, Union, Var, Error}
use Rattle.cells.specs.declared.Part.{Part}
use Rattle.cells.specs.Stands.{Rows, tree, Ok}
use Rattle.cells.specs.Promises.{FindsName}
use Rattle.cells.specs.contracts.Ty.{the_type}
use Rattle.format.specs.Schema.{field_of}
use Rattle.format.specs.File.{Described}
use Rattle.format.specs.Sound.{Sound}
use Rattle.meaning.specs.Check.{Checker, Does, goes, reject_ty, key_ty, value_ty, field_at, key_of, value_of, select_of, unresolved}
use Rattle.meaning.specs.Grades.{unknowns}
use Rattle.meaning.proofs.Visits.{key_declared}
use Rattle.messages.specs.declared.Message.{Message}
use Rattle.messages.specs.Said.{said, OkMessage}
use Rattle.state.specs.Runs.{Runs}
use Rattle.steps.specs.Promises.{nodes_of, Fine, OnType}
use Rattle.steps.specs.Outside.{key_ty_w, value_ty_w, RejectsTy, FieldIs, Shadows, ValueOf, FieldAt, KeyOf, SelectOf}
use Rattle.steps.proofs.Looking.{key_stands, key_ok, value_stands, value_ok}
use Rattle.steps.proofs.Ending.{ends_with, reject_ty_ends}
use Rattle.std.specs.Prelude.{None, Option, Some, ℕ}

-- ---- `field_at`
module _ {f w ou : List ℕ} {n name left : ℕ} {t : Ty} {b : Option Ty} (F : FieldIs w t name b) where
  pub field_at_found : (u : Ty) → b ≡ Some u → FieldAt f w ou n name t left w ou (Some (u, left))
  unfolding field_at
  field_at_found u q = record {
    is = λ d there. record {
      is = λ T c B fine.
          let e : Some (tree T u) ≡ field_of (tree T t) name = rw q at (F.is T B.runs.holds.cells fine.ok) in
          let o : Ok w u = rw q at (F.ok T B.runs.holds.cells fine.ok) in
          rw (← e, field_at) (ends_with B u (tree T u) o refl);
    };
  }

  pub field_at_none : b ≡ None → {w' ou' : List ℕ} {r : Option (Ty × ℕ)} → RejectsTy f w ou n (Message.NoField name) left w' ou' r
      → FieldAt f w ou n name t left w' ou' r
  unfolding field_at
  field_at_none q x = record {
    is = λ d there. record {
      is = λ T c B fine.
          let e : None ≡ field_of (tree T t) name = rw q at (F.is T B.runs.holds.cells fine.ok) in
          rw (← e, field_at) (reject_ty_ends B n there (Message.NoField name) tt x);
    };
  }

-- ---- On a head in general
module _ (m : Described → Tree.Ty → Does Tree.Ty) {f w ou : List ℕ} {n left : ℕ} {t : Ty} where
  -- A type in hand comes back.
  pub head_gives : (u : Ty) → ((T : Rows) (d : Described) (c : Checker) → Runs f w T d c → Ok w t → Ok w u × (m d (tree T t) c ≡ goes (tree T u) c))
      → OnType m f w ou n t left w ou (Some (u, left))
  head_gives u h = record {
    is = λ d there. record { is = λ T c B fine. let x = h T d c B.runs fine.ok in rw x.1 (ends_with B u (tree T u) x.0 refl) };
  }

  -- One diagnostic.
  pub head_rejects : (x : Message) → (Ok w t → OkMessage w x) →
      ((T : Rows) (d : Described) (c : Checker) → Runs f w T d c → Ok w t
      → m d (tree T t) c ≡ reject_ty d.schema (nodes_of d) n (said T c.state.subst x) c)
      → {w' ou' : List ℕ} {r : Option (Ty × ℕ)} → RejectsTy f w ou n x left w' ou' r → OnType m f w ou n t left w' ou' r
  head_rejects x ok h q = record {
    is = λ d there. record { is = λ T c B fine. rw (h T d c B.runs fine.ok) (reject_ty_ends B n there x (ok fine.ok) q) };
  }

-- ---- `select_of`
abbrev selects : ℕ → ℕ → Described → Tree.Ty → Does Tree.Ty
selects n name d ty = select_of d.schema (nodes_of d) n name ty

module _ {f w ou : List ℕ} (n name : ℕ) {left : ℕ} {t : Ty} where
  pub select_error : t ≡ Error → SelectOf f w ou n name t left w ou (Some (Error, left))
  unfolding select_of
  select_error e = head_gives (selects n name) Error (λ T d c R o. (tt, rw e))

  pub select_unknown : (x : ℕ) → t ≡ Var x → {w' ou' : List ℕ} {r : Option (Ty × ℕ)} → RejectsTy f w ou n Message.UnknownType left w' ou' r
      → SelectOf f w ou n name t left w' ou' r
  unfolding select_of unresolved
  select_unknown x e q = head_rejects (selects n name) Message.UnknownType (λ o. tt) (λ T d c R o. rw e) q

  module _ {k : ℕ} {b : Option Part} (F : FindsName w k name b) (e : t ≡ Union k) where
    pub select_found : (p : Part) → b ≡ Some p → SelectOf f w ou n name t left w ou (Some (p.ty, left))
    unfolding select_of
    select_found p q = head_gives (selects n name) p.ty (λ T d c R o.
        let z : Some (tree T p.ty) ≡ find_label name (T k) = rw q at (F.is T R.holds.cells (rw e at o)) in
        (rw q at (F.ok T R.holds.cells (rw e at o)), rw (e, ← z, select_of)))

    pub select_none : b ≡ None → {w' ou' : List ℕ} {r : Option (Ty × ℕ)} → RejectsTy f w ou n (Message.NoAlternative name) left w' ou' r
        → SelectOf f w ou n name t left w' ou' r
    unfolding select_of
    select_none q x = head_rejects (selects n name) (Message.NoAlternative name) (λ o. tt) (λ T d c R o.
        let z : None ≡ find_label name (T k) = rw q at (F.is T R.holds.cells (rw e at o)) in rw (e, ← z, select_of)) x

  pub select_other : OneOf (0 ∷ 1 ∷ 2 ∷ 3 ∷ 4 ∷ []) (tag_of the_type t) → {w' ou' : List ℕ} {r : Option (Ty × ℕ)}
      → RejectsTy f w ou n (Message.NotAUnion t) left w' ou' r → SelectOf f w ou n name t left w' ou' r
  unfolding select_of
  select_other x q = head_rejects (selects n name) (Message.NotAUnion t) (λ o. o) (λ T d c R o. go d T c t x) q
    where
      go : (d : Described) (T : Rows) (c : Checker) (t : Ty) → OneOf (0 ∷ 1 ∷ 2 ∷ 3 ∷ 4 ∷ []) (tag_of the_type t)
          → select_of d.schema (nodes_of d) n name (tree T t) c ≡ reject_ty d.schema (nodes_of d) n (said T c.state.subst (Message.NotAUnion t)) c
      go d T c Int x = refl
      go d T c Str x = refl
      go d T c Bytes x = refl
      go d T c (Fact p) x = refl
      go d T c (Record k) x = refl
      go d T c (Union k) x = absurd (miss (0 ∷ 1 ∷ 2 ∷ 3 ∷ 4 ∷ []) 5 tt x)
      go d T c (Var y) x = absurd (miss (0 ∷ 1 ∷ 2 ∷ 3 ∷ 4 ∷ []) 6 tt x)
      go d T c Error x = absurd (miss (0 ∷ 1 ∷ 2 ∷ 3 ∷ 4 ∷ []) 7 tt x)

-- ---- `key_of`
abbrev keys : ℕ → ℕ → Described → Tree.Ty → Does Tree.Ty
keys n name d ty = key_of d.schema (nodes_of d) n name ty

-- The key's type is the schema's, so it is over any unknowns.
key_fine : {f w : List ℕ} {T : Rows} {d : Described} {c : Checker} → Sound d → Runs f w T d c → (p : ℕ) {u : Ty} → Some u ≡ key_ty_w w p → Fine w u T c
key_fine {f} {w} {T} {d} {c} s R p {u} e =
    let q : Some (tree T u) ≡ key_ty d.schema (nodes_of d) p = rw (← e) at (key_stands R p) in
    record {
      ok = rw (← e) at (key_ok R p);
      side = declared_side (unknowns c) (tree T u)
          (rw (← q) at (key_declared d.schema (nodes_of d) s.predicates p));
    }

module _ {f w ou : List ℕ} (n name : ℕ) {left : ℕ} {t : Ty} where
  pub key_error : t ≡ Error → KeyOf f w ou n name t left w ou (Some (Error, left))
  unfolding key_of
  key_error e = head_gives (keys n name) Error (λ T d c R o. (tt, rw e))

  pub key_unknown : (x : ℕ) → t ≡ Var x → {w' ou' : List ℕ} {r : Option (Ty × ℕ)} → RejectsTy f w ou n Message.UnknownType left w' ou' r
      → KeyOf f w ou n name t left w' ou' r
  unfolding key_of unresolved
  key_unknown x e q = head_rejects (keys n name) Message.UnknownType (λ o. tt) (λ T d c R o. rw e) q

  pub key_record : (k : ℕ) → t ≡ Record k → {w' ou' : List ℕ} {r : Option (Ty × ℕ)} → FieldAt f w ou n name t left w' ou' r
      → KeyOf f w ou n name t left w' ou' r
  unfolding key_of
  key_record k e F = record { is = λ d there. record { is = λ T c B fine. rw e (rw e at ((F.is d there).is T c B fine)) } }

  module _ {p : ℕ} (e : t ≡ Fact p) {key : Option Ty} (k : key ≡ key_ty_w w p) where
    pub key_found : (u : Ty) → key ≡ Some u → {w' ou' : List ℕ} {r : Option (Ty × ℕ)} → FieldAt f w ou n name u left w' ou' r
        → KeyOf f w ou n name t left w' ou' r
    unfolding key_of
    key_found u q F = record {
      is = λ d there. record {
        is = λ T c B fine.
            let z : Some (tree T u) ≡ key_ty d.schema (nodes_of d) p = rw (← k, q) at (key_stands B.runs p) in
            rw (e, ← z, key_of) ((F.is d there).is T c B (key_fine B.sound B.runs p (sym q ∙ k)));
      };
    }

    pub key_absent : key ≡ None → KeyOf f w ou n name t left w ou (Some (Error, left))
    unfolding key_of
    key_absent q = head_gives (keys n name) Error (λ T d c R o.
        let z : None ≡ key_ty d.schema (nodes_of d) p = rw (← k, q) at (key_stands R p) in (tt, rw (e, ← z, key_of)))

  pub key_other : OneOf (0 ∷ 1 ∷ 2 ∷ 5 ∷ []) (tag_of the_type t) → {w' ou' : List ℕ} {r : Option (Ty × ℕ)}
      → RejectsTy f w ou n (Message.NoFields t) left w' ou' r → KeyOf f w ou n name t left w' ou' r
  unfolding key_of
  key_other x q = head_rejects (keys n name) (Message.NoFields t) (λ o. o) (λ T d c R o. go d T c t x) q
    where
      go : (d : Described) (T : Rows) (c : Checker) (t : Ty) → OneOf (0 ∷ 1 ∷ 2 ∷ 5 ∷ []) (tag_of the_type t)
          → key_of d.schema (nodes_of d) n name (tree T t) c ≡ reject_ty d.schema (nodes_of d) n (said T c.state.subst (Message.NoFields t)) c
      go d T c Int x = refl
      go d T c Str x = refl
      go d T c Bytes x = refl
      go d T c (Fact p) x = absurd (miss (0 ∷ 1 ∷ 2 ∷ 5 ∷ []) 3 tt x)
      go d T c (Record k) x = absurd (miss (0 ∷ 1 ∷ 2 ∷ 5 ∷ []) 4 tt x)
      go d T c (Union k) x = refl
      go d T c (Var y) x = absurd (miss (0 ∷ 1 ∷ 2 ∷ 5 ∷ []) 6 tt x)
      go d T c Error x = absurd (miss (0 ∷ 1 ∷ 2 ∷ 5 ∷ []) 7 tt x)

-- ---- `value_of`
abbrev values : ℕ → Described → Tree.Ty → Does Tree.Ty
values n d ty = value_of d.schema (nodes_of d) n ty

module _ {f w ou : List ℕ} (n : ℕ) {left : ℕ} {t : Ty} where
  pub value_error : t ≡ Error → ValueOf f w ou n t left w ou (Some (Error, left))
  unfolding value_of
  value_error e = head_gives (values n) Error (λ T d c R o. (tt, rw e))

  pub value_unknown : (x : ℕ) → t ≡ Var x → {w' ou' : List ℕ} {r : Option (Ty × ℕ)} → RejectsTy f w ou n Message.UnknownType left w' ou' r
      → ValueOf f w ou n t left w' ou' r
  unfolding value_of unresolved
  value_unknown x e q = head_rejects (values n) Message.UnknownType (λ o. tt) (λ T d c R o. rw e) q

  module _ {p : ℕ} (e : t ≡ Fact p) {b : Bool} (S : Shadows w p b) where
    pub value_shadowed_lem : b ≡ true → {w' ou' : List ℕ} {r : Option (Ty × ℕ)} → RejectsTy f w ou n Message.ValueShadowed left w' ou' r
        → ValueOf f w ou n t left w' ou' r
    unfolding value_of
    value_shadowed_lem q x = head_rejects (values n) Message.ValueShadowed (λ o. tt) (λ T d c R o. rw (e, ← (S.is f T d c R), q, value_of)) x

    module _ (q : b ≡ false) {value : Option Ty} (v : value ≡ value_ty_w w p) where
      pub value_found : (u : Ty) → value ≡ Some u → ValueOf f w ou n t left w ou (Some (u, left))
      unfolding value_of
      value_found u z = head_gives (values n) u (λ T d c R o.
          let y : Some (tree T u) ≡ value_ty d.schema (nodes_of d) p = rw (← v, z) at (value_stands R p) in
          (rw (← v, z) at (value_ok R p), rw (e, ← (S.is f T d c R), q, ← y, value_of)))

      pub value_absent : value ≡ None → {w' ou' : List ℕ} {r : Option (Ty × ℕ)} → RejectsTy f w ou n Message.NoValue left w' ou' r
          → ValueOf f w ou n t left w' ou' r
      unfolding value_of
      value_absent z x = head_rejects (values n) Message.NoValue (λ o. tt) (λ T d c R o.
          let y : None ≡ value_ty d.schema (nodes_of d) p = rw (← v, z) at (value_stands R p) in rw (e, ← (S.is f T d c R), q, ← y, value_of)) x

  pub value_other : OneOf (0 ∷ 1 ∷ 2 ∷ 4 ∷ 5 ∷ []) (tag_of the_type t) → {w' ou' : List ℕ} {r : Option (Ty × ℕ)}
      → RejectsTy f w ou n (Message.NotAFact t) left w' ou' r → ValueOf f w ou n t left w' ou' r
  unfolding value_of
  value_other x q = head_rejects (values n) (Message.NotAFact t) (λ o. o) (λ T d c R o. go d T c t x) q
    where
      go : (d : Described) (T : Rows) (c : Checker) (t : Ty) → OneOf (0 ∷ 1 ∷ 2 ∷ 4 ∷ 5 ∷ []) (tag_of the_type t)
          → value_of d.schema (nodes_of d) n (tree T t) c ≡ reject_ty d.schema (nodes_of d) n (said T c.state.subst (Message.NotAFact t)) c
      go d T c Int x = refl
      go d T c Str x = refl
      go d T c Bytes x = refl
      go d T c (Fact p) x = absurd (miss (0 ∷ 1 ∷ 2 ∷ 4 ∷ 5 ∷ []) 3 tt x)
      go d T c (Record k) x = refl
      go d T c (Union k) x = refl
      go d T c (Var y) x = absurd (miss (0 ∷ 1 ∷ 2 ∷ 4 ∷ 5 ∷ []) 6 tt x)
      go d T c Error x = absurd (miss (0 ∷ 1 ∷ 2 ∷ 4 ∷ 5 ∷ []) 7 tt x)
