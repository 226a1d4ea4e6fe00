-- A pass over all items. Each mark that it sets is one of an admitted type, and there is one fewer that does not stand;
-- a pass that set none has asked every item.
use mathlib.Core.Bool.{Bool, true, false}
use mathlib.Core.List.{List}
use mathlib.Core.Path.{◌≡◌, refl, sym, ◌∙◌, ap}
use Prim.Native.Nat.{ℕ, zero, suc, ◌+◌, ◌<◌, ◌≤◌}
use native.Mathlib.Decide.{ℕ_discrete}
use native.Mathlib.Omega.{arith}
use borrow.Author.Count.{below_none, below_more}
use borrow.Author.Tests.{eq-eqb}
use lib.Dec.{eqb}
use lib.ListN.{length, get_or, set}
use lib.Seq.{get_or-set_same, get_or-set_other}
use Rattle.unification.specs.Ty as Tree
use Rattle.unification.specs.Bindings.{State}
use Rattle.unification.specs.Calls.{Admitted}
use Rattle.unification.proofs.Tests.{clash}
use Rattle.unification.proofs.Reach.{admitted_leaf}
use Rattle.work.specs.Layout.{ENV, TYS}
use Rattle.std.specs.Prelude.{cond, replicate}
use Rattle.std.proofs.lemmas.List.{places}
use borrow.Rule.Slice.PartMut.{put_mid}
use Rattle.cells.specs.declared.Ty.{Ty}
use Rattle.cells.specs.declared.Ty.TheVariants.{Int, Str, Bytes, Fact, Record, Union, Var, Error}
use Rattle.cells.specs.Stands.{Rows, tree, Ok, Holds, Keeps}
use Rattle.cells.proofs.Frame.{keeps_refl, keeps_trans, keeps_sym, keeps_set, keeps_cells, ok_same}
use Rattle.cells.proofs.Elsewhere.{keeps_env, holds_same}
use Rattle.admitted.specs.Marks.{marked, item_w, good_w, Settles, MarksSound, Holding, MarksItem, unmarked, PassesItems, Unmarks}
use Rattle.admitted.proofs.Telling.{Tells}
use Rattle.admitted.proofs.Reaching.{holding_admitted, item_record, item_union, item_var, few, admitted_good}

-- ---- One mark
marked_other : (w : List ℕ) (i v j : ℕ) → ¬ (j ≡ i) → marked (set w (ENV + i) v) j ≡ marked w j
unfolding marked
marked_other w i v j n = ap (λ (x : ℕ). eqb x 1) (get_or-set_other w (ENV + i) (ENV + j) v 0 (λ q. n (omega arith)))

marked_here : (w : List ℕ) (i : ℕ) → ENV + i < length w → marked (set w (ENV + i) 1) i ≡ true
unfolding marked
marked_here w i h = eq-eqb (get_or (set w (ENV + i) 1) (ENV + i) 0) 1 (get_or-set_same w (ENV + i) 1 0 h)

-- The mark that is new is the one that was set.
marked_new : (w : List ℕ) (i j : ℕ) → marked (set w (ENV + i) 1) j ≡ true → marked w j ≡ false → j ≡ i
marked_new w i j h n = go (ℕ_discrete j i)
  where
    go : Dec (j ≡ i) → j ≡ i
    go (yes e) = e
    go (no d) = let q = marked_other w i 1 j d in clash (cc)

unmarked_above : (w : List ℕ) (i v n : ℕ) → n ≤ i → unmarked (set w (ENV + i) v) n ≡ unmarked w n
unfolding unmarked
unmarked_above w i v zero h = refl
unmarked_above w i v (suc n) h = rw (marked_other w i v n (λ e. absurd (omega arith)), unmarked_above w i v n (omega arith))

unmarked_one : (w : List ℕ) (i n : ℕ) → i < n → marked w i ≡ false → ENV + i < length w → unmarked (set w (ENV + i) 1) n + 1 ≡ unmarked w n
unfolding unmarked
unmarked_one w i zero l q h = absurd (omega arith)
unmarked_one w i (suc n) l q h = go (ℕ_discrete n i) (λ m. unmarked_one w i n m q h)
  where
    go : Dec (n ≡ i) → (i < n → unmarked (set w (ENV + i) 1) n + 1 ≡ unmarked w n) → unmarked (set w (ENV + i) 1) (suc n) + 1 ≡ unmarked w (suc n)
    go (yes e) f = rw (e, marked_here w i h, q, unmarked_above w i 1 i (omega arith)) (omega arith)
    go (no d) f = rw (marked_other w i 1 n d) (omega (arith, f (omega arith)))

-- ---- No mark
module _ (w : List ℕ) (a k : ℕ) (l : a + k ≤ length w) where
  zeros_below : (i : ℕ) → i < a → get_or (put_mid a k w (replicate k 0)) i 0 ≡ get_or w i 0
  zeros_below i h = grind (arith, places)

  zeros_above : (i : ℕ) → a + k ≤ i → get_or (put_mid a k w (replicate k 0)) i 0 ≡ get_or w i 0
  zeros_above i h = grind (arith, places)

  zeros_there : (i : ℕ) → i < k → get_or (put_mid a k w (replicate k 0)) (a + i) 0 ≡ 0
  zeros_there i h = grind (arith, places)

  zeros_long : length (put_mid a k w (replicate k 0)) ≡ length w
  zeros_long = grind (arith, places)

pub unmarked_all : {w : List ℕ} {n : ℕ} {z : List ℕ} → TYS ≤ length w → n ≡ 1280 → z ≡ replicate n 0 → Unmarks w (put_mid ENV n w z)
unfolding marked
unmarked_all {w} {n} l e q = rw q (record {
  keeps = record {
    below = zeros_below w ENV n (omega arith);
    above = λ i h. zeros_above w ENV n (omega arith) i (omega arith);
    long = zeros_long w ENV n (omega arith);
  };
  none = λ i h. ap (λ (x : ℕ). eqb x 1) (zeros_there w ENV n (omega arith) i (omega arith));
})

-- ---- A mark more
module _ {w : List ℕ} {T : Rows} {st : State} (H : Holds w T st) (S : MarksSound w T st.subst) (i : ℕ) (l : i < 1280) (h : Holding w (item_w w i)) where
  kept : Keeps ENV TYS w (set w (ENV + i) 1)
  kept = keeps_set w (ENV + i) 1 (omega arith) (omega arith)

  new_admitted : (t : Ty) (j : ℕ) → Ok w t → item_w w j ≡ t → j ≡ i → Admitted st.subst (tree T t)
  new_admitted t j o e q = holding_admitted H S t o (rw (← e, q) h)

  by_mark : (t : Ty) (j : ℕ) → Ok w t → item_w w j ≡ t → (marked w j ≡ true → Admitted st.subst (tree T t))
      → marked (set w (ENV + i) 1) j ≡ true → Admitted st.subst (tree T t)
  by_mark t j o e f g = go (marked w j) refl
    where
      go : (b : Bool) → marked w j ≡ b → Admitted st.subst (tree T t)
      go true q = f q
      go false q = new_admitted t j o e (marked_new w i j g q)

  still : (t : Ty) → Ok w t → good_w (set w (ENV + i) 1) t ≡ true → Admitted st.subst (tree T t)
  unfolding MarksSound
  still Int o g = S Int o refl
  still Str o g = S Str o refl
  still Bytes o g = S Bytes o refl
  still (Fact p) o g = S (Fact p) o refl
  still (Record c) o g = by_mark (Record c) c o (item_record H c o).0 (S (Record c) o) g
  still (Union c) o g = by_mark (Union c) c o (item_union H c o).0 (S (Union c) o) g
  still (Var x) o g = by_mark (Var x) (768 + x) o (item_var H x) (S (Var x) o) g
  still Error o g = clash (cc)

  sound_set : MarksSound (set w (ENV + i) 1) T st.subst
  unfolding MarksSound
  sound_set t o g = still t (ok_same (keeps_cells (omega arith) (keeps_sym kept)) t o) g

-- ---- A pass that has come to item i
pub record Passing (w₀ w : List ℕ) (i : ℕ) (some : Bool) : Type 0 where
  pub within : i ≤ 1280
  pub keeps : Keeps ENV TYS w₀ w
  pub sound : (T : Rows) (st : State) → Holds w₀ T st → MarksSound w₀ T st.subst → MarksSound w T st.subst
  pub fewer : TYS ≤ length w₀ → unmarked w 1280 + cond some 1 0 ≤ unmarked w₀ 1280
  pub rests : some ≡ false → (w ≡ w₀) × ((j : ℕ) → j < i → marked w₀ j ≡ false → ¬ Holding w₀ (item_w w₀ j))

pub passing_start : (w : List ℕ) → Passing w w 0 false
passing_start w = record {
  within = omega arith;
  keeps = keeps_refl;
  sound = λ T st H S. S;
  fewer = λ h. omega arith;
  rests = λ e. (refl, below_none _);
}

holds_kept : {w w' : List ℕ} {T : Rows} {st : State} → Keeps ENV TYS w w' → Holds w T st → Holds w' T st
holds_kept k H = holds_same (keeps_env (omega arith) (omega arith) k) H

module _ {w₀ w : List ℕ} {i : ℕ} {some : Bool} (P : Passing w₀ w i some) (l : i < 1280) {w' : List ℕ} {r : Bool} (M : MarksItem w i w' r) where
  pub passing_marked : r ≡ true → Passing w₀ w' (i + 1) true
  passing_marked e =
      let m = M.new e in
      rw m.0 (record {
        within = omega arith;
        keeps = keeps_trans P.keeps (keeps_set w (ENV + i) 1 (omega arith) (omega arith));
        sound = λ T st H S. sound_set (holds_kept P.keeps H) (P.sound T st H S) i l m.2;
        fewer = λ h. let q = unmarked_one w i 1280 l m.1 (omega (arith, P.keeps.long)) in less some (P.fewer h) q;
        rests = λ q. clash (cc);
      })
    where
      less : (b : Bool) → unmarked w 1280 + cond b 1 0 ≤ unmarked w₀ 1280 → unmarked (set w (ENV + i) 1) 1280 + 1 ≡ unmarked w 1280
          → unmarked (set w (ENV + i) 1) 1280 + 1 ≤ unmarked w₀ 1280
      less true f q = omega arith
      less false f q = omega arith

  pub passing_on : r ≡ false → Passing w₀ w' (i + 1) some
  passing_on e =
      let m = M.old e in
      rw m.0 (record {
        within = omega arith;
        keeps = P.keeps;
        sound = P.sound;
        fewer = P.fewer;
        rests = λ q. let p = P.rests q in (p.0, below_more _ i p.1 (rw p.0 at m.1));
      })

pub passing_end : {w₀ w : List ℕ} {i : ℕ} {some : Bool} → Passing w₀ w i some → 1280 ≤ i → PassesItems w₀ w some
passing_end {w₀} {w} {i} {some} P l = record {
  keeps = P.keeps;
  sound = P.sound;
  fewer = λ h e. let f = rw e at (P.fewer h) in omega arith;
  rests = λ e j h. let p = P.rests e in rw p.0 (p.1 j (omega (arith, P.within)));
}

-- ---- Passes until one sets no mark
pub record Settling (w₀ w : List ℕ) : Type 0 where
  pub keeps : Keeps ENV TYS w₀ w
  pub long : TYS ≤ length w
  pub sound : (T : Rows) (st : State) → Holds w T st → MarksSound w T st.subst

pub settling_start : {u w : List ℕ} → TYS ≤ length u → Unmarks u w → Settling w w
unfolding MarksSound
settling_start {u} {w} l U = record { keeps = keeps_refl; long = omega (arith, U.keeps.long); sound = nothing }
  where
    none : (i : ℕ) {A : Type 0} → i < 1280 → marked w i ≡ true → A
    none i h g = let q = U.none i h in clash (cc)

    nothing : (T : Rows) (st : State) → Holds w T st → MarksSound w T st.subst
    nothing T st H Int o g = admitted_leaf st.subst Tree.Int
    nothing T st H Str o g = admitted_leaf st.subst Tree.String
    nothing T st H Bytes o g = admitted_leaf st.subst Tree.Bytes
    nothing T st H (Fact p) o g = admitted_leaf st.subst (Tree.Fact p)
    nothing T st H (Record c) o g = none c (omega (arith, (item_record H c o).1)) g
    nothing T st H (Union c) o g = none c (omega (arith, (item_union H c o).1)) g
    nothing T st H (Var x) o g = none (768 + x) (few H x o) g
    nothing T st H Error o g = clash (cc)

module _ {w₀ w : List ℕ} (S : Settling w₀ w) {w' : List ℕ} {r : Bool} (P : PassesItems w w' r) where
  after : (T : Rows) (st : State) → Holds w' T st → MarksSound w' T st.subst
  after T st H = let B = holds_kept (keeps_sym P.keeps) H in P.sound T st B (S.sound T st B)

  pub settling_next : Settling w₀ w'
  settling_next = record { keeps = keeps_trans S.keeps P.keeps; long = omega (arith, S.long, P.keeps.long); sound = after }

  pub settling_less : r ≡ true → unmarked w' 1280 < unmarked w 1280
  settling_less e = P.fewer S.long e

  pub settling_end : {u : List ℕ} → Unmarks u w₀ → r ≡ false → Settles u w'
  unfolding MarksSound
  settling_end U e = record {
    keeps = keeps_trans U.keeps (keeps_trans S.keeps P.keeps);
    settled = record { exactly = λ T st H t o. (after T st H t o, admitted_good H (P.rests e) t o) };
  }

-- A slice too short to hold a state has nothing to settle.
pub settled_short : {w : List ℕ} → length w < TYS → Settles w w
settled_short l = record { keeps = keeps_refl; settled = record { exactly = λ T st H t o. absurd (omega (arith, H.long)) } }

-- ---- For who calls both: after `settle` the words stand for the same state, and `good` tells whether a type is admitted.
module _ {w w' : List ℕ} (S : Settles w w') {T : Rows} {st : State} (H : Holds w T st) where
  pub holds_settled : Holds w' T st
  holds_settled = holds_kept S.keeps H

  pub good_tells : (t : Ty) → Ok w t → {r : Bool} → r ≡ good_w w' t → Tells (Admitted st.subst (tree T t)) r
  good_tells t o e =
      let x = S.settled.exactly T st holds_settled t (ok_same (keeps_cells (omega arith) S.keeps) t o) in
      record { yes = λ y. x.0 (sym e ∙ y); no = λ n a. let g = x.1 a in clash (cc) }
