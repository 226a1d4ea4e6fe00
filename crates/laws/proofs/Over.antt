-- What is found in, followed through or put into types over a language is over it again.
use mathlib.Core.Bool.{Bool, true, false}
use mathlib.Core.List.{List, [], ◌∷◌}
use mathlib.Core.Path.{◌≡◌, refl}
use Prim.Native.Nat.{ℕ, zero, suc, ◌-◌}
use lib.Dec.{eqb}
use lib.ListN.{length, get_or, set, replicate}
use Rattle.unification.specs.Ty.{Int, String, Bytes, Fact, Kind, Record, Union, Ty, leaf, node, Var, Error, Row, ε, cell, app, app_row}
use Rattle.unification.specs.Bindings.{Subst, bound, follow, repr, zonk_in, zonk, State, Undo, Binding, Annotation, revert, rewind, Snapshot, rollback}
use Rattle.unification.specs.Bindings.{with_history}
use Rattle.unification.specs.Unify.{find_key, find_label}
use Rattle.format.specs.All.{All}
use Rattle.format.specs.Syntax.{Node}
use Rattle.format.specs.Schema.{Predicate, field_of}
use Rattle.format.specs.References.{expr_names}
use Rattle.laws.specs.Over.{Language, everything, cell_name, TypeOver, RowOver, OptionOver, PredicateOver, UndoOver, FineState}
use Rattle.std.specs.Prelude.{None, Option, Some}

-- ---- Lists
pub all_set : {A : Type 0} (Q : A → Type 0) (l : List A) (n : ℕ) (a : A) → All Q l → Q a → All Q (set l n a)
all_set Q [] n a h p = tt
all_set Q (x ∷ l) zero a h p = (p, h.1)
all_set Q (x ∷ l) (suc n) a h p = (h.0, all_set Q l n a h.1 p)

pub all_get_d : {A : Type 0} (Q : A → Type 0) (l : List A) (n : ℕ) (d : A) → All Q l → Q d → Q (get_or l n d)
all_get_d Q [] n d h p = p
all_get_d Q (x ∷ l) zero d h p = h.0
all_get_d Q (x ∷ l) (suc n) d h p = all_get_d Q l n d h.1 p

pub all_of : {A : Type 0} (Q : A → Type 0) → ((a : A) → Q a) → (l : List A) → All Q l
all_of Q f [] = tt
all_of Q f (x ∷ l) = (f x, all_of Q f l)

pub all_replicate : {A : Type 0} (Q : A → Type 0) (n : ℕ) (a : A) → Q a → All Q (replicate n a)
all_replicate Q zero a p = tt
all_replicate Q (suc n) a p = (p, all_replicate Q n a p)

-- ---- Where nothing is left out
mutual
  pub over_everything : (t : Ty) → TypeOver everything t
  over_everything (leaf Int) = tt
  over_everything (leaf String) = tt
  over_everything (leaf Bytes) = tt
  over_everything (leaf (Fact p)) = tt
  over_everything (node k r) = row_everything r k
  over_everything (Var x) = tt
  over_everything Error = tt

  row_everything : (r : Row) (k : Kind) → RowOver everything r k
  row_everything ε k = tt
  row_everything (cell key label t r) k = (tt, (over_everything t, row_everything r k))

pub predicate_everything : (o : Option Predicate) → PredicateOver everything o
predicate_everything None = tt
predicate_everything (Some d) = (over_everything d.key, value d.value)
  where
    value : (o : Option Ty) → OptionOver everything o
    value None = tt
    value (Some t) = over_everything t

pub names_everything : (ns : List Node) → All (λ n. All everything.name (expr_names n.kind)) ns
names_everything ns = all_of _ (λ n. all_of _ (λ x. tt) (expr_names n.kind)) ns

module _ (L : Language) where
  -- ---- What is found in a row

  -- A cell that was found by its key is shown by its label: an alternative's name.
  abbrev pub LabelOver : Kind → ℕ → Type 0
  LabelOver Record label = Unit {0}
  LabelOver Union label = L.name label

  abbrev pub FoundOver : Kind → Option (ℕ × Ty) → Type 0
  FoundOver k None = Unit {0}
  FoundOver k (Some f) = LabelOver k f.0 × TypeOver L f.1

  label_over : (k : Kind) (key label : ℕ) → L.name (cell_name k key label) → LabelOver k label
  label_over Record key label h = tt
  label_over Union key label h = h

  pub find_key_over : (n : ℕ) (r : Row) (k : Kind) → RowOver L r k → FoundOver k (find_key n r)
  unfolding find_key
  find_key_over n ε k h = tt
  find_key_over n (cell key label t r) k h = go (eqb n key) refl (find_key_over n r k h.1.1)
    where
      go : (b : Bool) → eqb n key ≡ b → FoundOver k (find_key n r) → FoundOver k (find_key n (cell key label t r))
      go true e i = rw (e, find_key) (label_over k key label h.0, h.1.0)
      go false e i = rw (e, find_key) i

  pub find_label_over : (n : ℕ) (r : Row) (k : Kind) → RowOver L r k → OptionOver L (find_label n r)
  unfolding find_label
  find_label_over n ε k h = tt
  find_label_over n (cell key label t r) k h = go (eqb n label) refl (find_label_over n r k h.1.1)
    where
      go : (b : Bool) → eqb n label ≡ b → OptionOver L (find_label n r) → OptionOver L (find_label n (cell key label t r))
      go true e i = rw (e, find_label) h.1.0
      go false e i = rw (e, find_label) i

  pub field_of_over : (t : Ty) (n : ℕ) → TypeOver L t → OptionOver L (field_of t n)
  unfolding field_of
  field_of_over (leaf p) n h = tt
  field_of_over (node Record r) n h = go (find_key n r) refl (find_key_over n r Record h)
    where
      go : (o : Option (ℕ × Ty)) → find_key n r ≡ o → FoundOver Record o → OptionOver L (field_of (node Record r) n)
      go None e i = rw (e, field_of) tt
      go (Some f) e i = rw (e, field_of) i.1
  field_of_over (node Union r) n h = tt
  field_of_over (Var x) n h = tt
  field_of_over Error n h = tt

  -- ---- Along bindings
  follow_over : (k : ℕ) (s : Subst) (t : Ty) → All (OptionOver L) s → TypeOver L t → TypeOver L (follow k s t)
  unfolding follow bound
  follow_over zero s t a h = h
  follow_over (suc k) s (leaf p) a h = h
  follow_over (suc k) s (node c r) a h = h
  follow_over (suc k) s (Var x) a h = go (bound s x) refl (all_get_d (OptionOver L) s x None a tt) (λ t i. follow_over k s t a i)
    where
      go : (o : Option Ty) → bound s x ≡ o → OptionOver L o → ((t : Ty) → TypeOver L t → TypeOver L (follow k s t)) → TypeOver L (follow (suc k) s (Var x))
      go None e i ih = rw (e, follow) tt
      go (Some t) e i ih = rw (e, follow) (ih t i)
  follow_over (suc k) s Error a h = h

  pub repr_over : (s : Subst) (t : Ty) → All (OptionOver L) s → TypeOver L t → TypeOver L (repr s t)
  unfolding repr
  repr_over s t a h = follow_over (suc (length s)) s t a h

  mutual
    unfolding app

    app_over : (θ : ℕ → Ty) → ((x : ℕ) → TypeOver L (θ x)) → (t : Ty) → TypeOver L t → TypeOver L (app θ t)
    app_over θ f (leaf p) h = h
    app_over θ f (node k r) h = app_row_over θ f r k h
    app_over θ f (Var x) h = f x
    app_over θ f Error h = tt

    app_row_over : (θ : ℕ → Ty) → ((x : ℕ) → TypeOver L (θ x)) → (r : Row) (k : Kind) → RowOver L r k → RowOver L (app_row θ r) k
    app_row_over θ f ε k h = tt
    app_row_over θ f (cell key label t r) k h = (h.0, (app_over θ f t h.1.0, app_row_over θ f r k h.1.1))

  zonk_in_over : (d : ℕ) (s : Subst) (t : Ty) → All (OptionOver L) s → TypeOver L t → TypeOver L (zonk_in d s t)
  unfolding zonk_in bound
  zonk_in_over zero s t a h = h
  zonk_in_over (suc d) s t a h = app_over _ (λ x. go x (bound s x) (all_get_d (OptionOver L) s x None a tt) (λ u i. zonk_in_over d s u a i)) t h
    where
      go : (x : ℕ) (o : Option Ty) → OptionOver L o → ((u : Ty) → TypeOver L u → TypeOver L (zonk_in d s u))
          → TypeOver L (elim o [ None ↦ Var x | Some u ↦ zonk_in d s u ])
      go x None i ih = tt
      go x (Some u) i ih = ih u i

  pub zonk_over : (s : Subst) (t : Ty) → All (OptionOver L) s → TypeOver L t → TypeOver L (zonk s t)
  unfolding zonk
  zonk_over s t a h = zonk_in_over (length s) s t a h

  -- ---- Taking changes back
  revert_fine : (u : Undo) (st : State) → UndoOver L u → FineState L st → FineState L (revert u st)
  unfolding revert
  revert_fine (Binding x prev) st h i = record { subst = all_set (OptionOver L) st.subst x prev i.subst h; tys = i.tys; undo = i.undo }
  revert_fine (Annotation n prev) st h i = record { subst = i.subst; tys = all_set (OptionOver L) st.tys n prev i.tys h; undo = i.undo }

  rewind_fine : (k : ℕ) (us : List Undo) (st : State) → All (UndoOver L) us → FineState L st → FineState L (rewind k us st)
  unfolding rewind
  rewind_fine zero us st h i = record { subst = i.subst; tys = i.tys; undo = h }
  rewind_fine (suc k) [] st h i = record { subst = i.subst; tys = i.tys; undo = tt }
  rewind_fine (suc k) (u ∷ us) st h i = rewind_fine k us (revert u st) h.1 (revert_fine u st h.0 i)

  pub rollback_fine : (st : State) (at : Snapshot) → FineState L st → FineState L (rollback st at)
  unfolding rollback with_history
  rollback_fine st at i = let j = rewind_fine (length st.undo - at.undo) st.undo st i.undo i in record
      { subst = j.subst; tys = j.tys; undo = j.undo }
