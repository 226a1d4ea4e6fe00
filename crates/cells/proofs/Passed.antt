-- The alternatives that a comparison of two unions has passed: the first i are below what is next, so no look-up starts
-- before them.
use mathlib.Core.Bool.{Bool, true, false}
use mathlib.Core.List.{List}
use mathlib.Core.Path.{◌≡◌, refl, sym, ◌∙◌, ap}
use Prim.Native.Nat.{ℕ, ◌+◌, ◌<◌, ◌≤◌}
use native.Mathlib.Omega.{arith}
use lib.Dec.{eqb, ltb}
use borrow.Author.Tests.{eqb-true, eqb-false}
use Rattle.work.specs.Layout.{UNDO-LEN, END}
use Rattle.cells.specs.declared.Kind.TheVariants.{Alternatives}
use Rattle.cells.specs.declared.Part.{Part}
use Rattle.cells.specs.Words.{pick, count_w, part_w, after_w}
use Rattle.cells.specs.Stands.{Rows, IsCell, Cells, Keeps}
use Rattle.cells.specs.Promises.{Passed}
use Rattle.cells.proofs.Frame.{keeps_sym, keeps_cells, cell_same, cells_same, same_old, count_old, part_same}

pub passed_start : (w : List ℕ) (c from : ℕ) → Passed w c 0 from
passed_start w c from = record { past = λ T C i j h. absurd (omega arith) }

pub passed_later : {w : List ℕ} {c i from : ℕ} (to : ℕ) → Passed w c i from → from ≤ to → Passed w c i to
passed_later to p h = record { past = λ T C i j l m. omega (arith, p.past T C i j l m) }

pub passed_keeps : {w w' : List ℕ} {c i from : ℕ} → Keeps UNDO-LEN END w w' → Passed w c i from → Passed w' c i from
passed_keeps {w} {w'} {c} K p = record {
  past = λ T C k j l m.
      let S = keeps_cells (omega arith) (keeps_sym K) in
      let part = part_same S C k j m in
      let count = count_old (same_old S C) k in
      rw (ap (λ (x : Part). x.key) part) at (p.past T (cells_same S C) (cell_same S k) j l (omega arith));
}

-- The one at a was compared, and what follows is above it.
pub passed_next : {w : List ℕ} {c i from : ℕ} → Passed w c i from → (a k : ℕ) → from ≤ k → (part_w w Alternatives c a).key ≡ k → {i' : ℕ}
    → i' ≡ after_w a i → Passed w c i' (k + 1)
unfolding after_w
passed_next {w} {c} {i} {from} p a k h e {i'} q = rw q (go (eqb a i) refl (ltb i 65536))
  where
    stay : Passed w c i (k + 1)
    stay = passed_later (k + 1) p (omega arith)

    one_more : a ≡ i → Passed w c (i + 1) (k + 1)
    one_more s = record { past = λ T C l j m n. more T C l j m n (eqb j i) refl }
      where
        more : (T : Rows) → Cells w T → IsCell w Alternatives c → (j : ℕ) → j < i + 1 → j < count_w w c → (b : Bool) → eqb j i ≡ b
            → (part_w w Alternatives c j).key < k + 1
        more T C l j m n true z = let s' : j ≡ a = eqb-true j i z ∙ sym s in rw s' (omega (arith, e))
        more T C l j m n false z = omega (arith, p.past T C l j (let other = eqb-false j i z in omega arith) n)

    go : (b : Bool) → eqb a i ≡ b → (d : Bool) → Passed w c (pick b (pick d (i + 1) i) i) (k + 1)
    go true z true = one_more (eqb-true a i z)
    go true z false = stay
    go false z d = stay
