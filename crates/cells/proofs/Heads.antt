-- `bind_var` and the arms of `unify_heads`, and an entry of `unify`. What stands at the end of a chain is no bound
-- unknown, so an unknown there is free; where the occurs check says no, the type does not reach it, and bindings stay
-- without a loop.
use mathlib.Core.Bool.{Bool, true, false}
use mathlib.Core.List.{List}
use mathlib.Core.Path.{◌≡◌, refl, sym, ◌∙◌, ap}
use Prim.Native.Nat.{ℕ, zero, suc, ◌<◌, ◌≤◌}
use native.Mathlib.Decide.{ℕ_discrete}
use native.Mathlib.Omega.{arith}
use lib.ListN.{length}
use borrow.Author.Tests.{eq-eqb, ne_eqb}
use Rattle.unification.specs.Ty as Tree
use Rattle.unification.specs.Ty.{Leaf, Leaf-discrete}
use Rattle.unification.specs.Bindings as Bindings
use Rattle.unification.specs.Bindings.{Subst, no_left, State, with_left, with_history, ended}
use Rattle.unification.specs.Unify as Unify
use Rattle.unification.specs.Unify.{unify_heads, bind_var, note}
use Rattle.unification.proofs.Chain.{repr_resolved, error_reaches}
use Rattle.unification.proofs.Occurs.{occurs_no}
use Rattle.unification.proofs.Kept.{heads_in, unify_in_spent, unify_in_visit}
use Rattle.cells.specs.declared.Ty.{Ty}
use Rattle.cells.specs.declared.Ty.TheVariants.{Int, Str, Bytes, Fact, Record, Union, Var, Error}
use Rattle.cells.specs.declared.TyError.TheVariants.{Mismatch, Infinite}
use Rattle.cells.specs.Words.{set_var_w}
use Rattle.cells.specs.Stands.{Rows, tree, Ok, Holds}
use Rattle.cells.specs.Promises.{Reprs, answer_of, Occurs, UnifyEnds, unifier, BindsVar, IsShape, UnifiesHeads, UnifiesShapes, UnifiesRecord, UnifiesUnion}
use Rattle.cells.specs.Promises.{Unifies}
use Rattle.cells.proofs.Holding.{holds_left, holds_history, set_var_keeps, set_var_holds}
use Rattle.cells.proofs.Frame.{keeps_refl}
use Rattle.cells.proofs.Steps.{stay, goes_on, fails, is_other, sets}
use Rattle.std.specs.Prelude.{Err, None, Option, Result, Some, ℕ}
use Rattle.cells.specs.declared.Failure.{Failure}

-- ---- `bind_var`
module _ {w : List ℕ} {x : ℕ} {t : Ty} {left : ℕ} {o : Option (Bool × ℕ)} (O : Occurs w x t left o) where
  answer : (T : Rows) (st : State) → Holds w T st → st.left ≡ left → Ok w t → (d : ℕ) → left ≤ d
      → Bindings.occurs d st.subst x st.left (tree T t) ≡ answer_of o
  answer T st H q k d h = rw q (sym (O.is T st.subst H.cells H.binds k d h))

  pub bind_occurs : (l : ℕ) → o ≡ Some (true, l) → BindsVar w x t left w (Err (Failure.Bad Infinite l))
  unfolding UnifyEnds bind_var with_left
  bind_occurs l e = record {
    step = record {
      is = λ T st H q p d h. rw (answer T st H q p.2 d h, e, bind_var) (Infinite, refl, record { is = refl; ok = tt }, stay (holds_left H l));
      fewer = rw e at O.fewer;
      keeps = keeps_refl;
    };
  }

  pub bind_sets : (l : ℕ) → o ≡ Some (false, l) → (w' : List ℕ) → w' ≡ set_var_w w x t → BindsVar w x t left w' (Result.Ok l)
  unfolding UnifyEnds bind_var with_left Bindings.set_var
  bind_sets l e w' s = rw s record {
    step = record {
      is = λ T st H q p d h.
          let a : Bindings.occurs d st.subst x st.left (tree T t) ≡ no_left l = answer T st H q p.2 d h ∙ ap answer_of e in
          let lt : x < length st.subst = omega (arith, H.binds.unknowns, p.1) in
          rw (a, bind_var) (
            refl,
            record {
              holds = set_var_holds (holds_left H l) x t lt p.0 p.2 (occurs_no st.subst x p.0 H.acyclic d st.left (tree T t) l a);
              keeps = set_var_keeps w x t;
            },
          );
      fewer = rw e at O.fewer;
      keeps = set_var_keeps w x t;
    };
  }

  pub bind_spent : o ≡ None → BindsVar w x t left w (Err Failure.Spent)
  unfolding UnifyEnds bind_var with_left
  bind_spent e = record {
    step = record {
      is = λ T st H q p d h. rw (answer T st H q p.2 d h, e, bind_var) (refl, refl, stay (holds_left H 0));
      fewer = omega arith;
      keeps = keeps_refl;
    };
  }

-- ---- The sides of `unify_heads`
module _ (d : ℕ) (u : State → Tree.Ty → Tree.Ty → Unify.Unified) (st : State) (T : Rows) where
  error_other : (b : Ty) → ((x : ℕ) → b ≡ Var x → ⊥) → unify_heads d u st Tree.Error (tree T b) ≡ Unify.Ok st
  unfolding unify_heads
  error_other Int n = refl
  error_other Str n = refl
  error_other Bytes n = refl
  error_other (Fact p) n = refl
  error_other (Record c) n = refl
  error_other (Union c) n = refl
  error_other (Var x) n = absurd (n x refl)
  error_other Error n = refl

  other_error : (a : Ty) → ((x : ℕ) → a ≡ Var x → ⊥) → unify_heads d u st (tree T a) Tree.Error ≡ Unify.Ok st
  unfolding unify_heads
  other_error Int n = refl
  other_error Str n = refl
  other_error Bytes n = refl
  other_error (Fact p) n = refl
  other_error (Record c) n = refl
  other_error (Union c) n = refl
  other_error (Var x) n = absurd (n x refl)
  other_error Error n = refl

  var_other : (x : ℕ) (b : Ty) → ¬ (b ≡ Error) → ¬ (b ≡ Var x) → unify_heads d u st (Tree.Var x) (tree T b) ≡ bind_var d st x (tree T b)
  unfolding unify_heads
  var_other x Int e n = refl
  var_other x Str e n = refl
  var_other x Bytes e n = refl
  var_other x (Fact p) e n = refl
  var_other x (Record c) e n = refl
  var_other x (Union c) e n = refl
  var_other x (Var y) e n = rw (ne_eqb x y (λ q. n (ap Var (sym q))), unify_heads)
  var_other x Error e n = absurd (e refl)

  other_var : (y : ℕ) (a : Ty) → IsShape a → unify_heads d u st (tree T a) (Tree.Var y) ≡ bind_var d st y (tree T a)
  unfolding unify_heads
  other_var y Int n = refl
  other_var y Str n = refl
  other_var y Bytes n = refl
  other_var y (Fact p) n = refl
  other_var y (Record c) n = refl
  other_var y (Union c) n = refl
  other_var y (Var x) n = absurd (n.0 x refl)
  other_var y Error n = absurd (n.1 refl)

-- ---- The arms of `unify_heads`
module _ {w : List ℕ} {a b : Ty} {left : ℕ} where
  pub error_var : (y x : ℕ) (w' : List ℕ) → a ≡ Error → b ≡ Var y → x ≡ y → w' ≡ set_var_w w x Error → UnifiesHeads w a b left w' (Result.Ok left)
  unfolding unify_heads
  error_var y x w' p q i e = record {
    step = sets y Error w' (rw i at e)
        (λ T st k. (tt, rw q at k.1, rw q at k.3, error_reaches st.subst y))
        (λ T st d k. rw (p, q));
  }

  pub var_error : (y x : ℕ) (w' : List ℕ) → a ≡ Var y → b ≡ Error → x ≡ y → w' ≡ set_var_w w x Error → UnifiesHeads w a b left w' (Result.Ok left)
  unfolding unify_heads
  var_error y x w' p q i e = record {
    step = sets y Error w' (rw i at e)
        (λ T st k. (tt, rw p at k.0, rw p at k.2, error_reaches st.subst y))
        (λ T st d k. rw (p, q));
  }

  pub error_else : a ≡ Error → ((x : ℕ) → b ≡ Var x → ⊥) → UnifiesHeads w a b left w (Result.Ok left)
  error_else p n = record { step = goes_on (λ T st d k. rw p (error_other d (unifier d) st T b n)) }

  pub else_error : b ≡ Error → ((x : ℕ) → a ≡ Var x → ⊥) → UnifiesHeads w a b left w (Result.Ok left)
  else_error p n = record { step = goes_on (λ T st d k. rw p (other_error d (unifier d) st T a n)) }

  pub var_same : (x y : ℕ) → a ≡ Var x → b ≡ Var y → x ≡ y → UnifiesHeads w a b left w (Result.Ok left)
  unfolding unify_heads
  var_same x y p q e = record { step = goes_on (λ T st d k. rw (p, q, eq-eqb x y e, unify_heads)) }

  pub var_else : (y x : ℕ) {w' : List ℕ} {r : Result ℕ Failure} → a ≡ Var y → ¬ (b ≡ Error) → ¬ (b ≡ Var y) → x ≡ y → BindsVar w x b left w' r
      → UnifiesHeads w a b left w' r
  var_else y x p e n i B = record {
    step = is_other (λ T st k. (rw p at k.2, rw p at k.0, k.1))
        (λ T st d H k. rw p (var_other d (unifier d) st T y b e n)) (rw i at B).step;
  }

  pub else_var : (y : ℕ) {w' : List ℕ} {r : Result ℕ Failure} → b ≡ Var y → IsShape a → BindsVar w y a left w' r → UnifiesHeads w a b left w' r
  else_var y q n B = record {
    step = is_other (λ T st k. (rw q at k.3, rw q at k.1, k.0))
        (λ T st d H k. rw q (other_var d (unifier d) st T y a n)) B.step;
  }

  pub shapes : {w' : List ℕ} {r : Result ℕ Failure} → IsShape a → IsShape b → UnifiesShapes w a b left w' r → UnifiesHeads w a b left w' r
  shapes m n S = record { step = is_other (λ T st k. (k.0, k.1, m, n)) (λ T st d H k. refl) S.step }

-- ---- Shapes
abbrev leaf_ty : Leaf → Ty
leaf_ty Tree.Int = Int
leaf_ty Tree.String = Str
leaf_ty Tree.Bytes = Bytes
leaf_ty (Tree.Fact p) = Fact p

leaf_tree : (T : Rows) (p : Leaf) → tree T (leaf_ty p) ≡ Tree.leaf p
leaf_tree T Tree.Int = refl
leaf_tree T Tree.String = refl
leaf_tree T Tree.Bytes = refl
leaf_tree T (Tree.Fact p) = refl

data Shaped : Ty → Type 0 where
  is_leaf : (p : Leaf) → Shaped (leaf_ty p)
  is_record : (c : ℕ) → Shaped (Record c)
  is_union : (c : ℕ) → Shaped (Union c)

shaped : (t : Ty) → IsShape t → Shaped t
shaped Int n = is_leaf Tree.Int
shaped Str n = is_leaf Tree.String
shaped Bytes n = is_leaf Tree.Bytes
shaped (Fact p) n = is_leaf (Tree.Fact p)
shaped (Record c) n = is_record c
shaped (Union c) n = is_union c
shaped (Var x) n = absurd (n.0 x refl)
shaped Error n = absurd (n.1 refl)

-- not two records and not two unions
abbrev pub Apart : Ty → Ty → Type 0
Apart a b = ((c e : ℕ) → a ≡ Record c → b ≡ Record e → ⊥) × ((c e : ℕ) → a ≡ Union c → b ≡ Union e → ⊥)

module _ (d : ℕ) (u : State → Tree.Ty → Tree.Ty → Unify.Unified) (st : State) (T : Rows) where
  leaves_same : (p : Leaf) → unify_heads d u st (Tree.leaf p) (Tree.leaf p) ≡ Unify.Ok st
  unfolding unify_heads
  leaves_same p = go (Leaf-discrete ℕ_discrete p p) refl
    where
      go : (c : Dec (p ≡ p)) → Leaf-discrete ℕ_discrete p p ≡ c → unify_heads d u st (Tree.leaf p) (Tree.leaf p) ≡ Unify.Ok st
      go (yes x) i = rw (i, unify_heads)
      go (no x) i = absurd (x refl)

  leaves_differ : (p q : Leaf) → ¬ (p ≡ q) → unify_heads d u st (Tree.leaf p) (Tree.leaf q) ≡ Unify.Err (Unify.Mismatch (Tree.leaf q) (Tree.leaf p)) st
  unfolding unify_heads
  leaves_differ p q n = go (Leaf-discrete ℕ_discrete p q) refl
    where
      go : (c : Dec (p ≡ q)) → Leaf-discrete ℕ_discrete p q ≡ c → unify_heads d u st (Tree.leaf p) (Tree.leaf q) ≡ Unify.Err
          (Unify.Mismatch (Tree.leaf q) (Tree.leaf p)) st
      go (yes x) i = absurd (n x)
      go (no x) i = rw (i, unify_heads)

  same : (a : Ty) → Shaped a → Apart a a → unify_heads d u st (tree T a) (tree T a) ≡ Unify.Ok st
  same _ (is_leaf p) n = rw (leaf_tree T p) (leaves_same p)
  same _ (is_record c) n = absurd (n.0 c c refl refl)
  same _ (is_union c) n = absurd (n.1 c c refl refl)

  differ : (a b : Ty) → Shaped a → Shaped b → Apart a b → ¬ (a ≡ b)
      → unify_heads d u st (tree T a) (tree T b) ≡ Unify.Err (Unify.Mismatch (tree T b) (tree T a)) st
  unfolding unify_heads Unify.unify_nodes
  differ _ _ (is_leaf p) (is_leaf q) n z = rw (leaf_tree T p, leaf_tree T q) (leaves_differ p q (λ e. z (ap leaf_ty e)))
  differ _ _ (is_leaf p) (is_record e) n z = rw (leaf_tree T p)
  differ _ _ (is_leaf p) (is_union e) n z = rw (leaf_tree T p)
  differ _ _ (is_record c) (is_leaf q) n z = rw (leaf_tree T q)
  differ _ _ (is_record c) (is_record e) n z = absurd (n.0 c e refl refl)
  differ _ _ (is_record c) (is_union e) n z = refl
  differ _ _ (is_union c) (is_leaf q) n z = rw (leaf_tree T q)
  differ _ _ (is_union c) (is_record e) n z = refl
  differ _ _ (is_union c) (is_union e) n z = absurd (n.1 c e refl refl)

module _ {w : List ℕ} {a b : Ty} {left : ℕ} where
  pub record_record : (c e : ℕ) {w' : List ℕ} {r : Result ℕ Failure} → a ≡ Record c → b ≡ Record e → UnifiesRecord w c e left w' r
      → UnifiesShapes w a b left w' r
  unfolding unify_heads Unify.unify_nodes
  record_record c e p q R = record { step = is_other (λ T st k. (rw p at k.0, rw q at k.1)) (λ T st d H k. rw (p, q)) R.step }

  pub union_union : (c e : ℕ) {w' : List ℕ} {r : Result ℕ Failure} → a ≡ Union c → b ≡ Union e → UnifiesUnion w c e left w' r → UnifiesShapes w a b left w' r
  unfolding unify_heads Unify.unify_nodes
  union_union c e p q R = record { step = is_other (λ T st k. (rw p at k.0, rw q at k.1)) (λ T st d H k. rw (p, q)) R.step }

  pub shapes_same : Apart a b → a ≡ b → UnifiesShapes w a b left w (Result.Ok left)
  shapes_same n e = record { step = goes_on (λ T st d k. rw (← e) (same d (unifier d) st T a (shaped a k.2) (rw (← e) at n))) }

  pub shapes_differ : Apart a b → ¬ (a ≡ b) → UnifiesShapes w a b left w (Err (Failure.Bad (Mismatch b a) left))
  shapes_differ n z = record {
    step = fails (Mismatch b a) (λ T st k. (k.1, k.0)) (λ T st d H k. differ d (unifier d) st T a b (shaped a k.2) (shaped b k.3) n z);
  }

-- ---- An entry
pub unify_none : {w : List ℕ} {a b : Ty} {left : ℕ} → left ≡ 0 → Unifies w a b left w (Err Failure.Spent)
unfolding UnifyEnds Unify.unify_in
unify_none {w} {a} {b} {left} z = record { is = λ T st H q k m d h. one T st H d (q ∙ z); fewer = omega arith; keeps = keeps_refl }
  where
    one : (T : Rows) (st : State) → Holds w T st → (d : ℕ) → st.left ≡ 0 → UnifyEnds w w T (Err Failure.Spent) (Unify.unify_in d st (tree T a) (tree T b))
    one T st H zero e = (refl, e, stay H)
    one T st H (suc d) e = rw (unify_in_spent d st (tree T a) (tree T b) e) (refl, e, stay H)

ends_note : (w w' : List ℕ) (T : Rows) (r : Result ℕ Failure) (s : Subst) (a b : Tree.Ty) (o : Unify.Unified) → UnifyEnds w w' T r o
    → UnifyEnds w w' T r (note s a b o)
unfolding UnifyEnds note with_history
ends_note w w' T r s a b (Unify.Ok st) e =
    (e.0, record { holds = holds_history e.1.holds (ended s a b true st.subst st.history); keeps = e.1.keeps })
ends_note w w' T r s a b (Unify.Err x st) e =
    (e.0, e.1, e.2, record { holds = holds_history e.3.holds (ended s a b false st.subst st.history); keeps = e.3.keeps })
ends_note w w' T r s a b (Unify.Spent st) e = e

pub unify_enter : {w : List ℕ} {got expected a b : Ty} {left v : ℕ} {w' : List ℕ} {r : Result ℕ Failure} → left ≡ suc v → Reprs w got a → Reprs w expected b
    → UnifiesHeads w a b v w' r → Unifies w got expected left w' r
unfolding heads_in with_left
unify_enter {w} {got} {expected} {a} {b} {left} {v} {w'} {r} z ra rb U = record
    { is = λ T st H q k m d h. one T st H q k m d h; fewer = omega (arith, U.step.fewer); keeps = U.step.keeps }
  where
    one : (T : Rows) (st : State) → Holds w T st → st.left ≡ left → Ok w got → Ok w expected → (d : ℕ) → left ≤ d
        → UnifyEnds w w' T r (Unify.unify_in d st (tree T got) (tree T expected))
    one T st H q k m zero h = absurd (omega arith)
    one T st H q k m (suc d) h =
        let e : st.left ≡ suc v = q ∙ z in
        let s = st.subst in
        let x : tree T a ≡ Bindings.repr s (tree T got) = ra.is T s H.binds in
        let y : tree T b ≡ Bindings.repr s (tree T expected) = rb.is T s H.binds in
        let there = U.step.is T (with_left st v) (holds_left H v) refl (
          ra.ok T s H.binds k,
          rb.ok T s H.binds m,
          rw x (repr_resolved s H.acyclic (tree T got)),
          rw y (repr_resolved s H.acyclic (tree T expected)),
        ) d (omega arith) in
        rw (unify_in_visit d st v (tree T got) (tree T expected) e)
        (ends_note w w' T r s (tree T got) (tree T expected) (heads_in d st v (tree T got) (tree T expected)) (rw (x, y) at there))
