-- With k visits more, a question that was answered is answered alike and k more are left; one in which the visits ran out is
-- stopped again, or ends with fewer than k left.
use mathlib.Core.Bool.{Bool, true, false}
use mathlib.Core.Path.{◌≡◌, refl, ◌∙◌, ap}
use Prim.Native.Nat.{ℕ, zero, suc, ◌+◌, ◌-◌, ◌<◌, ◌≤◌}
use native.Mathlib.Nat.{suc-add, zero-add}
use native.Mathlib.Omega.{arith}
use lib.Dec.{eqb, ltb}
use borrow.Author.Tests.{ltb-true, ltb-false}
use Rattle.unification.specs.Ty.{Leaf, Int, String, Bytes, Fact, Ty, leaf, node, Var, Error, Row, ε, cell}
use Rattle.unification.specs.Bindings.{Subst, repr, Answer, yes_left, no_left, spent, any_row, occurs_in, occurs}
use Rattle.unification.specs.Unify.{visited, leaf_orderable, orderable, all_orderable}
use Rattle.unification.proofs.Occurs.{Fewer, any_fewer, occurs_in_fewer, leaf_fewer, occurs_fewer, all_orderable_fewer}

pub data Longer (k : ℕ) : Answer → Answer → Type 0 where
  same_yes : (w : ℕ) → Longer k (yes_left w) (yes_left (w + k))
  same_no : (w : ℕ) → Longer k (no_left w) (no_left (w + k))
  late_yes : (w : ℕ) → w < k → Longer k spent (yes_left w)
  late_no : (w : ℕ) → w < k → Longer k spent (no_left w)
  still : Longer k spent spent

module _ (k : ℕ) where
  late : (w : ℕ) (a : Answer) → w < k → Fewer w a → Longer k spent a
  late w (yes_left v) l f = late_yes v (omega arith)
  late w (no_left v) l f = late_no v (omega arith)
  late w spent l f = still

  -- A question that costs a visit before it is asked.
  visited_longer : (v : ℕ) (ask : ℕ → Answer) → ((w : ℕ) → Fewer w (ask w)) → ((w : ℕ) → Longer k (ask w) (ask (w + k)))
      → Longer k (visited v ask) (visited (v + k) ask)
  unfolding visited
  visited_longer (suc v) ask f h = rw (suc-add v k) (h v)
  visited_longer zero ask f h = rw (zero-add k) (go k refl)
    where
      go : (j : ℕ) → j ≡ k → Longer k spent (visited j ask)
      go zero e = still
      go (suc j) e = late j (ask j) (omega arith) (f j)

  -- ---- `occurs`
  unfoldable after_cell : (ℕ → Ty → Answer) → Row → Answer → Answer
  after_cell ask r a = elim a [ yes_left w ↦ yes_left w | no_left w ↦ any_row ask w r | spent ↦ spent ]

  module _ (ask : ℕ → Ty → Answer) (fewer : (v : ℕ) (t : Ty) → Fewer v (ask v t)) (longer : (v : ℕ) (t : Ty) → Longer k (ask v t) (ask (v + k) t)) where
    after_longer : (r : Row) (a b : Answer) → ((v : ℕ) → Longer k (any_row ask v r) (any_row ask (v + k) r)) → Longer k a b
        → Longer k (after_cell ask r a) (after_cell ask r b)
    unfolding after_cell
    after_longer r a b ih (same_yes w) = same_yes w
    after_longer r a b ih (same_no w) = ih w
    after_longer r a b ih (late_yes w l) = late_yes w l
    after_longer r a b ih (late_no w l) = late w (any_row ask w r) l (any_fewer ask fewer w r)
    after_longer r a b ih still = still

    any_longer : (r : Row) (v : ℕ) → Longer k (any_row ask v r) (any_row ask (v + k) r)
    unfolding any_row after_cell
    any_longer ε v = same_no v
    any_longer (cell m l t r) v = after_longer r (ask v t) (ask (v + k) t) (any_longer r) (longer v t)

    occurs_in_longer : (x v : ℕ) (t : Ty) → Longer k (occurs_in ask x v t) (occurs_in ask x (v + k) t)
    unfolding occurs_in
    occurs_in_longer x v (leaf p) = same_no v
    occurs_in_longer x v (node c r) = any_longer r v
    occurs_in_longer x v (Var y) = go (eqb x y) refl
      where
        go : (b : Bool) → eqb x y ≡ b → Longer k (occurs_in ask x v (Var y)) (occurs_in ask x (v + k) (Var y))
        go true e = rw (e, occurs_in) (same_yes v)
        go false e = rw (e, occurs_in) (same_no v)
    occurs_in_longer x v Error = same_no v

  occurs_visit : (d : ℕ) (s : Subst) (x v : ℕ) (t : Ty) → occurs (suc d) s x v t ≡ visited v (λ w. occurs_in (λ u t'. occurs d s x u t') x w (repr s t))
  unfolding occurs visited
  occurs_visit d s x zero t = refl
  occurs_visit d s x (suc v) t = refl

  pub occurs_longer : (d : ℕ) (s : Subst) (x v : ℕ) (t : Ty) → Longer k (occurs d s x v t) (occurs d s x (v + k) t)
  unfolding occurs
  occurs_longer zero s x v t = still
  occurs_longer (suc d) s x v t =
      rw (occurs_visit d s x v t, occurs_visit d s x (v + k) t)
      (visited_longer v _ (λ w. occurs_in_fewer (λ u t'. occurs d s x u t') (λ u t'. occurs_fewer d s x u t') x w (repr s t))
      (λ w. occurs_in_longer (λ u t'. occurs d s x u t') (λ u t'. occurs_fewer d s x u t') (λ u t'. occurs_longer d s x u t') x w (repr s t)))

  -- ---- `orderable`
  leaf_longer : (p : Leaf) (v : ℕ) → Longer k (leaf_orderable p v) (leaf_orderable p (v + k))
  unfolding leaf_orderable
  leaf_longer Int v = same_yes v
  leaf_longer String v = same_yes v
  leaf_longer Bytes v = same_yes v
  leaf_longer (Fact p) v = same_no v

  unfoldable after_part : Row → Answer → Answer
  after_part r a = elim a [ yes_left w ↦ all_orderable r w | no_left w ↦ no_left w | spent ↦ spent ]

  part_longer : (r : Row) (a b : Answer) → ((v : ℕ) → Longer k (all_orderable r v) (all_orderable r (v + k))) → Longer k a b
      → Longer k (after_part r a) (after_part r b)
  unfolding after_part
  part_longer r a b ih (same_yes w) = ih w
  part_longer r a b ih (same_no w) = same_no w
  part_longer r a b ih (late_yes w l) = late w (all_orderable r w) l (all_orderable_fewer r w)
  part_longer r a b ih (late_no w l) = late_no w l
  part_longer r a b ih still = still

  first_part : (m l : ℕ) (t : Ty) (r : Row) (v : ℕ) → all_orderable (cell m l t r) v ≡ after_part r (orderable t v)
  unfolding after_part orderable
  first_part m l t r v = refl

  mutual
    unfolding orderable

    pub orderable_longer : (t : Ty) (v : ℕ) → Longer k (orderable t v) (orderable t (v + k))
    orderable_longer (leaf p) v = visited_longer v (λ w. leaf_orderable p w) (leaf_fewer p) (leaf_longer p)
    orderable_longer (node c r) v = visited_longer v (λ w. all_orderable r w) (λ w. all_orderable_fewer r w) (λ w. all_orderable_longer r w)
    orderable_longer (Var x) v = visited_longer v (λ w. yes_left w) (λ w. omega arith) (λ w. same_yes w)
    orderable_longer Error v = visited_longer v (λ w. yes_left w) (λ w. omega arith) (λ w. same_yes w)

    all_orderable_longer : (r : Row) (v : ℕ) → Longer k (all_orderable r v) (all_orderable r (v + k))
    all_orderable_longer ε v = same_yes v
    all_orderable_longer (cell m l t r) v = rw (first_part m l t r v, first_part m l t r (v + k))
        (part_longer r (orderable t v) (orderable t (v + k)) (λ w. all_orderable_longer r w) (orderable_longer t v))

-- ---- The same question again. What it cost when it was answered it costs each time; with fewer visits it is stopped.
abbrev pub said : Bool → ℕ → Answer
said true v = yes_left v
said false v = no_left v

later : {k : ℕ} (b : Bool) (w : ℕ) (o : Answer) → Longer k (said b w) o → o ≡ said b (w + k)
later true w o (same_yes v) = refl
later false w o (same_no v) = refl

data Earlier (b : Bool) (k w : ℕ) : Answer → Type 0 where
  answered : (m : ℕ) → w ≡ m + k → Earlier b k w (said b m)
  not_yet_lem : w < k → Earlier b k w spent

earlier : {k : ℕ} (b : Bool) (w : ℕ) (a : Answer) → Longer k a (said b w) → Earlier b k w a
earlier true w a (same_yes m) = answered m refl
earlier true w a (late_yes v l) = not_yet_lem l
earlier false w a (same_no m) = answered m refl
earlier false w a (late_no v l) = not_yet_lem l

module _ (ask : ℕ → Answer) (longer : (k v : ℕ) → Longer k (ask v) (ask (v + k))) (b : Bool) (left l : ℕ) (fewer : l ≤ left) (e : ask left ≡ said b l) where
  before : (v : ℕ) → v ≤ left → Earlier b (left - v) l (ask v)
  before v h = let whole : v + (left - v) ≡ left = omega arith in earlier b l (ask v) (rw (whole, e) at (longer (left - v) v))

  pub again : (v : ℕ) → left - l ≤ v → ask v ≡ said b (v - (left - l))
  again v h = go (ltb v left) refl
    where
      up : left ≤ v → ask v ≡ said b (v - (left - l))
      up p =
          let whole : left + (v - left) ≡ v = omega arith in
          let same : l + (v - left) ≡ v - (left - l) = omega arith in
          rw (whole, same) at (later b l (ask (left + (v - left))) (rw e at (longer (v - left) left)))

      down : v < left → (a : Answer) → ask v ≡ a → Earlier b (left - v) l a → ask v ≡ said b (v - (left - l))
      down p a q (answered m i) = q ∙ ap (said b) (omega arith)
      down p a q (not_yet_lem i) = absurd (omega arith)

      go : (t : Bool) → ltb v left ≡ t → ask v ≡ said b (v - (left - l))
      go true p = let less = ltb-true v left p in down less (ask v) refl (before v (omega arith))
      go false p = up (ltb-false v left p)

  pub again_stopped : (v : ℕ) → v < left - l → ask v ≡ spent
  again_stopped v h = go (ask v) refl (before v (omega arith))
    where
      go : (a : Answer) → ask v ≡ a → Earlier b (left - v) l a → ask v ≡ spent
      go a q (answered m i) = absurd (omega arith)
      go a q (not_yet_lem i) = q
