-- `unify_union`: the discriminants from `from` on are what is left to do, and the next of them is the least that either
-- side declares. A payload's failure becomes a difference of the unions.
use mathlib.Core.Bool.{Bool, true, false}
use mathlib.Core.List.{List}
use mathlib.Core.Logic.{◌⊎◌, inl, inr, ⊎_elim}
use mathlib.Core.Path.{◌≡◌, refl, sym, ◌∙◌, ap}
use Prim.Native.Nat.{ℕ, ◌+◌, ◌≤◌}
use native.Mathlib.Omega.{arith}
use lib.Dec.{eqb}
use borrow.Author.Tests.{eq-eqb, ne_eqb, eqb-false}
use Rattle.unification.specs.Ty.{Row, ε, cell}
use Rattle.unification.specs.Bindings.{State}
use Rattle.unification.specs.Unify as Unify
use Rattle.unification.specs.Unify.{and_then, map_err, find_key, unify_alternative, unify_alternatives, unify_union}
use Rattle.unification.proofs.Tests.{clash}
use Rattle.unification.proofs.Quiet.{map_err_ok}
use Rattle.work.specs.Layout.{UNDO-LEN, END}
use Rattle.cells.specs.declared.Ty.{Ty}
use Rattle.cells.specs.declared.Ty.TheVariants.{Union}
use Rattle.cells.specs.declared.Kind.TheVariants.{Alternatives}
use Rattle.cells.specs.declared.Part.{Part}
use Rattle.cells.specs.declared.UnionDiff.{UnionDiff}
use Rattle.cells.specs.declared.UnionDiff.TheVariants.{Absent, Renamed, Payload}
use Rattle.cells.specs.declared.TyError.TheVariants.{UnionMismatch}
use Rattle.cells.specs.Stands as Are
use Rattle.cells.specs.Stands.{Rows, tree, IsCell, Holds, Keeps}
use Rattle.cells.specs.Promises.{found_part, FindsKey, NextFrom, diff_of, UnifyEnds, unifier, differs, unified_left, UnifiesNext, UnifiesUnion}
use Rattle.cells.specs.Promises.{UnifiesAlternative}
use Rattle.cells.proofs.Frame.{keeps_cells, cell_same}
use Rattle.cells.proofs.Picked.{Has, next_is_least}
use Rattle.cells.proofs.Remaining.{remaining, remaining_all, remaining_none, remaining_next}
use Rattle.cells.proofs.Steps.{fails, Going, go_start, go_end, go_next, go_stop, NotGood, KnownStep, known_step}
use Rattle.std.specs.Prelude.{Err, None, Ok, Option, Result, Some, ℕ}
use Rattle.cells.specs.declared.Failure.{Failure}

-- ---- A payload: a failure inside becomes a difference of it.
abbrev pub in_payload : ℕ → ℕ → UnionDiff → Result ℕ Failure → Result ℕ Failure
in_payload c e diff (Ok l) = Ok l
in_payload c e diff (Err (Failure.Bad x l)) = Err (Failure.Bad (UnionMismatch diff (Union e) (Union c)) l)
in_payload c e diff (Err Failure.Spent) = Err Failure.Spent

payload_step : {w : List ℕ} {K : ℕ → Rows → State → Type 0} {a b : Ty} {left : ℕ} {w' : List ℕ} {K' : ℕ → Rows → State → Type 0} {r : Result ℕ Failure}
    → UnifiesNext w K a b left w' K' r → (c e : ℕ) (diff : UnionDiff)
    → KnownStep K (λ T st. Are.Ok w a × Are.Ok w b × IsCell w Alternatives c × IsCell w Alternatives e)
    (λ d T st. map_err (differs T c e (diff_of diff)) (Unify.unify_in d st (tree T a) (tree T b))) w left w' K' (in_payload c e diff r)
unfolding UnifyEnds map_err
payload_step {w} {K} {a} {b} {left} {w'} {K'} {r} U c e diff = record {
  is = λ T st H v k d h z.
      let E = U.is T st H v k.0 k.1 d h z in
      (one T k.2 k.3 r (Unify.unify_in d st (tree T a) (tree T b)) E.0, λ s q. E.1 s (map_err_ok _ _ s q));
  fewer = few r U.fewer;
  keeps = U.keeps;
}
  where
    few : (r : Result ℕ Failure) → unified_left r ≤ left → unified_left (in_payload c e diff r) ≤ left
    few (Ok l) h = h
    few (Err (Failure.Bad x l)) h = h
    few (Err Failure.Spent) h = h

    one : (T : Rows) → IsCell w Alternatives c → IsCell w Alternatives e → (r : Result ℕ Failure) → (o : Unify.Unified) → UnifyEnds w w' T r o
        → UnifyEnds w w' T (in_payload c e diff r) (map_err (differs T c e (diff_of diff)) o)
    one T i j r (Unify.Ok st) z = rw z.0 (refl, z.1)
    one T i j r (Unify.Err y st) z =
        let same = keeps_cells (omega arith) z.3.keeps in
        rw z.1 (UnionMismatch diff (Union e) (Union c), refl, record { is = refl; ok = (cell_same same j, cell_same same i) }, z.3)
    one T i j r (Unify.Spent st) z = rw z.0 (refl, z.1, z.2)

-- ---- One discriminant
module _ {w : List ℕ} {c e k : ℕ} {x y : Option Part} (X : FindsKey w Alternatives c k x) (Y : FindsKey w Alternatives e k y) where
  -- over what was found on the two sides
  sides : (T : Rows) (st : State) (d : ℕ) → Holds w T st → IsCell w Alternatives c × IsCell w Alternatives e → {x' y' : Option Part} → x ≡ x' → y ≡ y'
      → unify_alternative (unifier d) st (differs T c e) k (find_key k (T c)) (find_key k (T e)) ≡ unify_alternative (unifier d) st (differs T c e) k
      (found_part T x') (found_part T y')
  sides T st d H i p q = rw (← X.is T H.cells i.0, ← Y.is T H.cells i.1, p, q)

  pub in_expected : (o : Part) {left : ℕ} {r : Result ℕ Failure} → x ≡ None → y ≡ Some o
      → r ≡ Err (Failure.Bad (UnionMismatch (Absent o.label k) (Union e) (Union c)) left) → UnifiesAlternative w c e k left w r
  unfolding unify_alternative
  in_expected o p q z = rw z record {
    step = fails (UnionMismatch (Absent o.label k) (Union e) (Union c)) (λ T st i. (i.1, i.0))
        (λ T st d H i. sides T st d H i p q);
  }

  pub in_found : (o : Part) {left : ℕ} {r : Result ℕ Failure} → x ≡ Some o → y ≡ None
      → r ≡ Err (Failure.Bad (UnionMismatch (Absent o.label k) (Union e) (Union c)) left)
      → UnifiesAlternative w c e k left w r
  unfolding unify_alternative
  in_found o p q z = rw z record {
    step = fails (UnionMismatch (Absent o.label k) (Union e) (Union c)) (λ T st i. (i.1, i.0))
        (λ T st d H i. sides T st d H i p q);
  }

  module _ (o m : Part) (p : x ≡ Some o) (q : y ≡ Some m) where
    pub renamed : {left : ℕ} {r : Result ℕ Failure} → ¬ (o.label ≡ m.label)
        → r ≡ Err (Failure.Bad (UnionMismatch (Renamed m.label o.label k) (Union e) (Union c)) left) → UnifiesAlternative w c e k left w r
    unfolding unify_alternative
    renamed n z = rw z record {
      step = fails (UnionMismatch (Renamed m.label o.label k) (Union e) (Union c)) (λ T st i. (i.1, i.0))
          (λ T st d H i. sides T st d H i p q ∙ rw (ne_eqb o.label m.label n, unify_alternative));
    }

    in_both : {K K' : ℕ → Rows → State → Type 0} {left : ℕ} {w' : List ℕ} {r : Result ℕ Failure} → o.label ≡ m.label → UnifiesNext w K o.ty m.ty left w' K' r
        → KnownStep K (λ T st. IsCell w Alternatives c × IsCell w Alternatives e)
        (λ d T st. unify_alternative (unifier d) st (differs T c e) k (find_key k (T c)) (find_key k (T e))) w left w' K' (in_payload c e (Payload o.label k) r)
    unfolding unify_alternative
    in_both n U =
        let P = payload_step U c e (Payload o.label k) in record {
          is = λ T st H v i d h z. rw (sides T st d H i p q, eq-eqb o.label m.label n, unify_alternative)
              (P.is T st H v (rw p at (X.ok T H.cells i.0), rw q at (Y.ok T H.cells i.1), i.0, i.1) d h z);
          fewer = P.fewer;
          keeps = P.keeps;
        }

-- ---- The loop
abbrev pub alternatives_from : ℕ → ℕ → ℕ → ℕ → Rows → State → Unify.Unified
alternatives_from c e from d T st = unify_alternatives (unifier d) st (differs T c e) (remaining from (T c) (T e)) (T c) (T e)

pub record UnionGoing (w₀ : List ℕ) (c e left : ℕ) (w : List ℕ) (from left' : ℕ) (K : ℕ → Rows → State → Type 0) : Type 0 where
  pub going : Going (λ T st. IsCell w₀ Alternatives c × IsCell w₀ Alternatives e) (λ d T st. unify_union (unifier d) st (T c) (T e)) w₀ left w left'
      (λ d T st. alternatives_from c e from d T st) K

pub union_start : {w : List ℕ} {c e left : ℕ} {K : ℕ → Rows → State → Type 0} → ((d : ℕ) (T : Rows) (s : State) → K d T s) → UnionGoing w c e left w 0 left K
unfolding unify_union
union_start {w} {c} {e} known = record {
  going = go_start (λ T st d H k.
      ap (λ (ks : List ℕ). unify_alternatives (unifier d) st (differs T c e) ks (T c) (T e)) (sym (remaining_all (T c) (T e))))
      (λ T st d. known d T st);
}

-- What one side has is found there.
has_found : (k : ℕ) (r : Row) → Has k r → find_key k r ≡ None → ⊥
unfolding find_key
has_found k ε h e = h
has_found k (cell m l t r) h e = go (eqb k m) refl h (has_found k r)
  where
    go : (b : Bool) → eqb k m ≡ b → (k ≡ m) ⊎ Has k r → (Has k r → find_key k r ≡ None → ⊥) → ⊥
    go true q i rec = clash (cc (rw (q, find_key) at e))
    go false q (inl i) rec = eqb-false k m q i
    go false q (inr i) rec = rec i (rw (q, find_key) at e)

module _ {w₀ : List ℕ} {c e left : ℕ} {w : List ℕ} {from left' : ℕ} {K : ℕ → Rows → State → Type 0}
    (g : UnionGoing w₀ c e left w from left' K) where
  module _ {next : Option ℕ} (N : NextFrom w c e from next) where
    pub union_end : next ≡ None → UnifiesUnion w₀ c e left w (Ok left')
    unfolding unify_alternatives
    union_end q = record {
      step = go_end g.going (λ T st H k K s S d.
          let same = keeps_cells (omega arith) K in
          rw (remaining_none from (T c) (T e) next (N.is T S.cells (cell_same same k.0) (cell_same same k.1)) q));
    }

    module _ {k : ℕ} (q : next ≡ Some k) where
      turn : (T : Rows) (d : ℕ) {s : State} → Holds w T s → IsCell w₀ Alternatives c → IsCell w₀ Alternatives e → Keeps UNDO-LEN END w₀ w
          → alternatives_from c e from d T s ≡ and_then (unify_alternative (unifier d) s (differs T c e) k (find_key k (T c)) (find_key k (T e)))
          (λ s'. alternatives_from c e (k + 1) d T s')
      unfolding unify_alternatives
      turn T d S i i' K =
          let same = keeps_cells (omega arith) K in
          let j = cell_same same i in
          let j' = cell_same same i' in
          rw (remaining_next from (T c) (T e) next (N.is T S.cells j j') k q)

      -- One side has what is next.
      pub union_nowhere : FindsKey w Alternatives c k None → FindsKey w Alternatives e k None → UnifiesUnion w₀ c e left w (Ok left')
      union_nowhere X Y = record {
        step = go_end g.going (λ T st H i K s S d.
            let same = keeps_cells (omega arith) K in
            let j = cell_same same i.0 in
            let j' = cell_same same i.1 in
            let L = rw q at (next_is_least N T S.cells j j') in
            absurd (⊎_elim (λ h. has_found k (T c) h (sym (X.is T S.cells j))) (λ h. has_found k (T e) h (sym (Y.is T S.cells j'))) L.one));
      }

      pub union_stop : {w' : List ℕ} {r : Result ℕ Failure} → UnifiesAlternative w c e k left' w' r → NotGood r → UnifiesUnion w₀ c e left w' r
      union_stop A x = record {
        step = go_stop g.going (λ d T st. alternatives_from c e (k + 1) d T st) (known_step A.step)
            (λ T st H i K s S d. let same = keeps_cells (omega arith) K in (cell_same same i.0, cell_same same i.1))
            (λ T st H i K s S d. turn T d S i.0 i.1 K) x;
      }

      module _ {o m : Part} (X : FindsKey w Alternatives c k (Some o)) (Y : FindsKey w Alternatives e k (Some m)) (n : o.label ≡ m.label) where
        module _ {w' : List ℕ} {K' : ℕ → Rows → State → Type 0} {r : Result ℕ Failure} (U : UnifiesNext w K o.ty m.ty left' w' K' r) where
          pub union_next : (l : ℕ) → r ≡ Ok l → UnionGoing w₀ c e left w' (k + 1) l K'
          union_next l x = record {
            going = go_next g.going (λ d T st. alternatives_from c e (k + 1) d T st) (in_both X Y o m refl refl n U)
                (λ T st H i K s S d. let same = keeps_cells (omega arith) K in (cell_same same i.0, cell_same same i.1))
                (λ T st H i K s S d. turn T d S i.0 i.1 K) l (ap (in_payload c e (Payload o.label k)) x);
          }

          pub union_payload : (r' : Result ℕ Failure) → r' ≡ in_payload c e (Payload o.label k) r → NotGood r' → UnifiesUnion w₀ c e left w' r'
          union_payload r' z x = record {
            step = go_stop g.going (λ d T st. alternatives_from c e (k + 1) d T st) (rw (← z) at (in_both X Y o m refl refl n U))
                (λ T st H i K s S d. let same = keeps_cells (omega arith) K in (cell_same same i.0, cell_same same i.1))
                (λ T st H i K s S d. turn T d S i.0 i.1 K) x;
          }
