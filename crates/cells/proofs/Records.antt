-- `unify_record` and its loop: the fields from number j on are what is left to do. The words that fields are read from
-- do not change on the way, so a field read now is the field of the cell as it was.
use mathlib.Core.List.{List}
use mathlib.Core.Path.{◌≡◌, refl, sym, ◌∙◌, ap}
use Prim.Native.Nat.{ℕ, zero, suc, ◌+◌, ◌<◌, ◌≤◌}
use native.Mathlib.Omega.{arith}
use borrow.Author.Tests.{eq-eqb, ne_eqb}
use Rattle.unification.specs.Ty as Tree
use Rattle.unification.specs.Ty.{Row, cell, row_len}
use Rattle.unification.specs.Bindings.{State}
use Rattle.unification.specs.Unify as Unify
use Rattle.unification.specs.Unify.{and_then, find_key, unify_field, unify_fields, unify_record}
use Rattle.work.specs.Layout.{UNDO-LEN, END}
use Rattle.cells.specs.declared.Ty.TheVariants.{Record}
use Rattle.cells.specs.declared.Kind.{Kind}
use Rattle.cells.specs.declared.Kind.TheVariants.{Fields}
use Rattle.cells.specs.declared.Part.{Part}
use Rattle.cells.specs.declared.TyError.TheVariants.{Mismatch, UnknownField}
use Rattle.cells.specs.Words.{count_w, part_w, field_w}
use Rattle.cells.specs.Stands.{Rows, tree, row_from, row_w, IsCell, Ok, Cells, Holds, Keeps}
use Rattle.cells.specs.Promises.{found_part, FindsKey, unifier, UnifiesRecord, UnifiesFields, UnifiesNext}
use Rattle.cells.proofs.Frame.{keeps_cells, cell_same, part_same, ok_same}
use Rattle.cells.proofs.Parts.{rest, rest_whole, rest_cell, rest_none, part_ok}
use Rattle.cells.proofs.Steps.{fails, is_other, Going, go_start, go_end, go_fail, go_next, go_stop, NotGood, KnownStep}
use Rattle.std.specs.Prelude.{Err, None, Option, Result, Some, ℕ}
use Rattle.cells.specs.declared.Failure.{Failure}

-- ---- `unify_record`
row_length : (T : Rows) (w : List ℕ) (k : Kind) (c n j : ℕ) → row_len (row_from T w k c j n) ≡ n
unfolding row_len row_from
row_length T w k c zero j = refl
row_length T w k c (suc n) j = ap suc (row_length T w k c n (j + 1))

pub cell_length : {w : List ℕ} {T : Rows} → Cells w T → (k : Kind) (c : ℕ) → IsCell w k c → row_len (T c) ≡ count_w w c
unfolding row_w
cell_length {w} {T} C k c i = ap row_len (C.row k c i) ∙ row_length T w k c (count_w w c) 0

module _ {w : List ℕ} {c e n m left : ℕ} (nc : n ≡ count_w w c) (ne : m ≡ count_w w e) where
  pub record_same : {w' : List ℕ} {r : Result ℕ Failure} → n ≡ m → UnifiesFields w c e n left w' r → UnifiesRecord w c e left w' r
  unfolding unify_record
  record_same q F = record {
    step = is_other (λ T st k. (k.0, k.1, nc)) (λ T st d H k.
        let same : row_len (T c) ≡ row_len (T e) = cell_length H.cells Fields c k.0 ∙ sym nc ∙ q ∙ ne ∙ sym (cell_length H.cells Fields e k.1) in
        rw (eq-eqb (row_len (T c)) (row_len (T e)) same, unify_record)) F.step;
  }

  pub record_differs : ¬ (n ≡ m) → UnifiesRecord w c e left w (Err (Failure.Bad (Mismatch (Record e) (Record c)) left))
  unfolding unify_record
  record_differs q = record {
    step = fails (Mismatch (Record e) (Record c)) (λ T st k. (k.1, k.0)) (λ T st d H k.
        let other : ¬ (row_len (T c) ≡ row_len (T e)) = λ x. q
        (nc ∙ sym (cell_length H.cells Fields c k.0) ∙ x ∙ cell_length H.cells Fields e k.1 ∙ sym ne) in
        rw (ne_eqb (row_len (T c)) (row_len (T e)) other, unify_record));
  }

-- ---- The loop

-- what is left to do from field j on, of the cell as it was
abbrev pub fields_from : List ℕ → ℕ → ℕ → ℕ → ℕ → ℕ → Rows → State → Unify.Unified
fields_from w₀ c e n j d T st = unify_fields (unifier d) st (rest T w₀ Fields c n j) (T e)

pub record FieldsGoing (w₀ : List ℕ) (c e n left : ℕ) (w : List ℕ) (j left' : ℕ) (K : ℕ → Rows → State → Type 0) : Type 0 where
  pub within : j ≤ n
  pub going : Going (λ T st. IsCell w₀ Fields c × IsCell w₀ Fields e × (n ≡ count_w w₀ c)) (λ d T st. unify_fields (unifier d) st (T c) (T e)) w₀ left w
      left' (λ d T st. fields_from w₀ c e n j d T st) K

pub fields_start : {w : List ℕ} {c e n left : ℕ} {K : ℕ → Rows → State → Type 0} → ((d : ℕ) (T : Rows) (s : State) → K d T s)
    → FieldsGoing w c e n left w 0 left K
fields_start {w} {c} {e} {n} known = record {
  within = omega arith;
  going = go_start (λ T st d H k. ap (λ (r : Row). unify_fields (unifier d) st r (T e)) (rest_whole T w Fields c n k.2 H.cells k.0)) (λ T st d. known d T st);
}

-- a field whose name the other side lacks, and one that it has
lacks : (u : State → Tree.Ty → Tree.Ty → Unify.Unified) (st : State) (k l : ℕ) (x : Tree.Ty) (r ys : Row) → find_key k ys ≡ None
    → unify_fields u st (cell k l x r) ys ≡ Unify.Err (Unify.UnknownField k) st
unfolding unify_fields and_then unify_field
lacks u st k l x r ys e = rw (e, unify_fields)

has : (u : State → Tree.Ty → Tree.Ty → Unify.Unified) (st : State) (k l m : ℕ) (x y : Tree.Ty) (r ys : Row) → find_key k ys ≡ Some (m, y)
    → unify_fields u st (cell k l x r) ys ≡ and_then (u st x y) (λ s. unify_fields u s r ys)
unfolding unify_fields unify_field
has u st k l m x y r ys e = rw (e, unify_fields)

module _ {w₀ : List ℕ} {c e n left : ℕ} {w : List ℕ} {j left' : ℕ} {K : ℕ → Rows → State → Type 0}
    (g : FieldsGoing w₀ c e n left w j left' K) where
  pub fields_end : n ≤ j → UnifiesFields w₀ c e n left w (Result.Ok left')
  unfolding unify_fields
  fields_end h = record { step = go_end g.going (λ T st H k K s S d. rw (rest_none T w₀ Fields c n j h)) }

  module _ {p : Part} (lt : j < n) (ep : p ≡ field_w w c j) where
    -- the field read now is that of the cell as it was
    was : {T : Rows} → Cells w₀ T → IsCell w₀ Fields c → n ≡ count_w w₀ c → Keeps UNDO-LEN END w₀ w → p ≡ part_w w₀ Fields c j
    was C i q K = ep ∙ part_same (keeps_cells (omega arith) K) C i j (omega arith)

    module _ {f : Option Part} (F : FindsKey w Fields e p.key f) where
      found : {T : Rows} {s : State} → Holds w T s → IsCell w₀ Fields e → Keeps UNDO-LEN END w₀ w → find_key p.key (T e) ≡ found_part T f
      found {T} S i K = sym (F.is T S.cells (cell_same (keeps_cells (omega arith) K) i))

      pub fields_unknown : f ≡ None → UnifiesFields w₀ c e n left w (Err (Failure.Bad (UnknownField p.key) left'))
      fields_unknown q = record {
        step = go_fail g.going (UnknownField p.key) tt (λ T st H k K s S d.
            rw (rest_cell T w₀ Fields c n j p lt (was H.cells k.0 k.2 K))
            (lacks (unifier d) s p.key p.label (tree T p.ty) _ (T e) (found S k.1 K ∙ ap (found_part T) q)));
      }

      module _ {o : Part} (q : f ≡ Some o) where
        oks : {T : Rows} {s : State} → Cells w₀ T → Holds w T s → IsCell w₀ Fields c → IsCell w₀ Fields e → n ≡ count_w w₀ c → Keeps UNDO-LEN END w₀ w
            → Ok w p.ty × Ok w o.ty
        oks {T} C S i i' z K =
            let same = keeps_cells (omega arith) K in
            (ok_same same p.ty (part_ok C Fields c n j p z i lt (was C i z K)), rw q at (F.ok T S.cells (cell_same same i')))

        turn : (T : Rows) (d : ℕ) {s : State} → Cells w₀ T → Holds w T s → IsCell w₀ Fields c → IsCell w₀ Fields e → n ≡ count_w w₀ c → Keeps UNDO-LEN END w₀ w
            → fields_from w₀ c e n j d T s ≡ and_then (Unify.unify_in d s (tree T p.ty) (tree T o.ty)) (λ s'. fields_from w₀ c e n (j + 1) d T s')
        turn T d {s} C S i i' z K =
            rw (rest_cell T w₀ Fields c n j p lt (was C i z K))
            (has (unifier d) s p.key p.label o.label (tree T p.ty) (tree T o.ty) _ (T e) (found S i' K ∙ ap (found_part T) q))

        module _ {w' : List ℕ} {K' : ℕ → Rows → State → Type 0} {r : Result ℕ Failure} (U : UnifiesNext w K p.ty o.ty left' w' K' r) where
          step : KnownStep K (λ T st. Ok w p.ty × Ok w o.ty) (λ d T st. Unify.unify_in d st (tree T p.ty) (tree T o.ty)) w left' w' K' r
          step = record { is = λ T st H l k d h K. U.is T st H l k.0 k.1 d h K; fewer = U.fewer; keeps = U.keeps }

          pub fields_next : (l : ℕ) → r ≡ Result.Ok l → FieldsGoing w₀ c e n left w' (j + 1) l K'
          fields_next l x = record {
            within = omega arith;
            going = go_next g.going (λ d T st. fields_from w₀ c e n (j + 1) d T st) step
                (λ T st H k K s S d. oks H.cells S k.0 k.1 k.2 K)
                (λ T st H k K s S d. turn T d H.cells S k.0 k.1 k.2 K) l x;
          }

          pub fields_stop : NotGood r → UnifiesFields w₀ c e n left w' r
          fields_stop x = record {
            step = go_stop g.going (λ d T st. fields_from w₀ c e n (j + 1) d T st) step
                (λ T st H k K s S d. oks H.cells S k.0 k.1 k.2 K)
                (λ T st H k K s S d. turn T d H.cells S k.0 k.1 k.2 K) x;
          }
