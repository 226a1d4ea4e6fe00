-- Marks and reaching. What holds only admitted types is admitted; and where nothing is left to mark, all that is
-- admitted is marked: by the bindings, which lead from unknown to unknown in no circle, and between two of them by the
-- tree.
use mathlib.Core.Bool.{Bool, true, false}
use mathlib.Core.List.{List}
use mathlib.Core.Logic.{◌↔◌}
use mathlib.Core.Path.{◌≡◌, refl, sym, ◌∙◌, ap}
use mathlib.Core.WellFounded.{Acc}
use Prim.Native.Nat.{ℕ, zero, suc, ◌+◌, ◌-◌, ◌*◌, ◌%◌, ◌<◌, ◌≤◌}
use native.Mathlib.Decide.{ℕ_discrete}
use native.Mathlib.Omega.{arith}
use borrow.Author.Tests.{lt-ltb, le-ltb}
use lib.ListN.{get_or}
use Rattle.unification.specs.Ty as Tree
use Rattle.unification.specs.Ty.{Row, ε, cell}
use Rattle.unification.specs.Bindings.{Subst, bound, State}
use Rattle.unification.specs.Calls as Calls
use Rattle.unification.specs.Calls.{LeadsTo, itself, inside, through, RowLeadsTo, first, later, Allowed, Admitted}
use Rattle.unification.specs.Acyclic.{Behind, Acyclic}
use Rattle.unification.proofs.Tests.{clash}
use Rattle.unification.proofs.Reach.{admitted_leaf}
use Rattle.unification.proofs.Reach.{reaches_trans}
use Rattle.work.specs.Layout.{TYPES, UNKNOWNS}
use Rattle.cells.specs.declared.Ty.{Ty}
use Rattle.cells.specs.declared.Ty.TheVariants.{Int, Str, Bytes, Fact, Record, Union, Var, Error}
use Rattle.cells.specs.declared.Kind.{Kind}
use Rattle.cells.specs.declared.Kind.TheVariants.{Fields, Alternatives}
use Rattle.cells.specs.Words.{declared_w, count_w, part_w, bound_w}
use Rattle.cells.specs.Stands.{Rows, tree, bound_tree, row_from, row_w, IsCell, declared, made, Ok, OkBound, Holds}
use Rattle.admitted.specs.Marks.{marked, item_w, good_w, MarksSound, DistinctFields, BoundGood, Holding}
use Rattle.std.specs.Prelude.{None, Option, Some}

-- ---- A row, by the numbers of its cells
module _ (T : Rows) (w : List ℕ) (k : Kind) (c : ℕ) where
  lacks_row : (key j n : ℕ) → ((i : ℕ) → j ≤ i → i < j + n → ¬ (key ≡ (part_w w k c i).key)) → Calls.Lacks key (row_from T w k c j n)
  unfolding row_from
  lacks_row key j zero h = tt
  lacks_row key j (suc n) h = (h j (omega arith) (omega arith), lacks_row key (j + 1) n (λ i l m. h i (omega arith) (omega arith)))

  row_lacks : (key j n : ℕ) → Calls.Lacks key (row_from T w k c j n) → (i : ℕ) → j ≤ i → i < j + n → ¬ (key ≡ (part_w w k c i).key)
  unfolding row_from
  row_lacks key j zero h i l m e = absurd (omega arith)
  row_lacks key j (suc n) h i l m e = go (ℕ_discrete i j) (λ a. row_lacks key (j + 1) n h.1 i a (omega arith) e)
    where
      go : Dec (i ≡ j) → (j + 1 ≤ i → ⊥) → ⊥
      go (yes q) f = h.0 (e ∙ ap (λ (x : ℕ). (part_w w k c x).key) q)
      go (no q) f = f (omega arith)

  distinct_row : (j n : ℕ) → ((i : ℕ) → j ≤ i → (m : ℕ) → i + 1 ≤ m → m < j + n → ¬ ((part_w w k c i).key ≡ (part_w w k c m).key))
      → Calls.DistinctKeys (row_from T w k c j n)
  unfolding row_from
  distinct_row j zero h = tt
  distinct_row j (suc n) h =
      let first = lacks_row (part_w w k c j).key (j + 1) n (λ m a b. h j (omega arith) m a (omega arith)) in
      (first, distinct_row (j + 1) n (λ i a m b d. h i (omega arith) m b (omega arith)))

  row_distinct : (j n : ℕ) → Calls.DistinctKeys (row_from T w k c j n) → (i : ℕ) → j ≤ i → (m : ℕ) → i + 1 ≤ m → m < j + n
      → ¬ ((part_w w k c i).key ≡ (part_w w k c m).key)
  unfolding row_from
  row_distinct j zero h i a m b d = absurd (omega arith)
  row_distinct j (suc n) h i a m b d = go (ℕ_discrete i j) (λ l. row_distinct (j + 1) n h.1 i l m b (omega arith))
    where
      go : Dec (i ≡ j) → (j + 1 ≤ i → ¬ ((part_w w k c i).key ≡ (part_w w k c m).key)) → ¬ ((part_w w k c i).key ≡ (part_w w k c m).key)
      go (yes q) f e = row_lacks (part_w w k c j).key (j + 1) n h.0 m (omega arith) (omega arith) (ap (λ (x : ℕ). (part_w w k c x).key) (sym q) ∙ e)
      go (no q) f e = f (omega arith) e

  module _ (s : Subst) where
    -- What a row reaches one of its types reaches.
    row_allowed : (j n : ℕ) → ((i : ℕ) → j ≤ i → i < j + n → Admitted s (tree T (part_w w k c i).ty)) → (u : Tree.Ty)
        → RowLeadsTo s (row_from T w k c j n) u → Allowed u
    unfolding row_from Admitted
    row_allowed j zero h u i = absurd (nil i)
      where
        nil : RowLeadsTo s ε u → ⊥
        nil = elim [ ]
    row_allowed j (suc n) h u (first i) = h j (omega arith) (omega arith) u i
    row_allowed j (suc n) h u (later i) = row_allowed (j + 1) n (λ m a b. h m (omega arith) (omega arith)) u i

-- ---- What a type reaches
module _ (s : Subst) where
  node_admitted : (k : Tree.Kind) (r : Row) → Allowed (Tree.node k r) → ((u : Tree.Ty) → RowLeadsTo s r u → Allowed u) → Admitted s (Tree.node k r)
  unfolding Admitted
  node_admitted k r a h u itself = a
  node_admitted k r a h u (inside i) = h u i

  var_admitted : (x : ℕ) → ((t : Tree.Ty) → bound s x ≡ Some t → Admitted s t) → Admitted s (Tree.Var x)
  unfolding Admitted
  var_admitted x h u itself = tt
  var_admitted x h u (through {t = t} e i) = h t e u i

module _ {w : List ℕ} {T : Rows} {st : State} (H : Holds w T st) where
  cell_row : (k : Kind) (c : ℕ) → IsCell w k c → T c ≡ row_from T w k c 0 (count_w w c)
  unfolding row_w
  cell_row k c i = H.cells.row k c i

  cell_distinct : (c : ℕ) → IsCell w Fields c → DistinctFields w c ↔ Calls.DistinctKeys (T c)
  cell_distinct c i = (
    λ d. rw (cell_row Fields c i) (distinct_row T w Fields c 0 (count_w w c) (λ a l m h b. d a (omega arith) m (omega arith) h)),
    λ d a l m b h. row_distinct T w Fields c 0 (count_w w c) (rw (cell_row Fields c i) at d) a (omega arith) m h (omega arith),
  )

  bound_is : (x : ℕ) (u : Ty) → bound_w w x ≡ Some u → bound st.subst x ≡ Some (tree T u)
  bound_is x u q = H.binds.at x ∙ rw q

  -- ---- Sound
  module _ (S : MarksSound w T st.subst) where
    cell_sound : (k : Kind) (c : ℕ) → IsCell w k c → ((j : ℕ) → j < count_w w c → good_w w (part_w w k c j).ty ≡ true) → (u : Tree.Ty)
        → RowLeadsTo st.subst (T c) u → Allowed u
    unfolding MarksSound
    cell_sound k c i h u r = row_allowed T w k c st.subst 0 (count_w w c)
        (λ j a b. S (part_w w k c j).ty (H.cells.ok k c j i (omega arith)) (h j (omega arith))) u (rw (cell_row k c i) at r)

    bound_sound : (x : ℕ) (b : Option Ty) → bound_w w x ≡ b → OkBound w b → BoundGood w b → (t : Tree.Ty) → bound st.subst x ≡ Some t → Admitted st.subst t
    unfolding MarksSound
    bound_sound x None q o g t e = let z : bound_tree T (bound_w w x) ≡ Some t = sym (H.binds.at x) ∙ e in clash (cc)
    bound_sound x (Some u) q o g t e = let z : tree T u ≡ t = cc (bound_is x u q) in rw (← z) (S u o g)

    pub holding_admitted : (t : Ty) → Ok w t → Holding w t → Admitted st.subst (tree T t)
    holding_admitted Int o h = admitted_leaf st.subst Tree.Int
    holding_admitted Str o h = admitted_leaf st.subst Tree.String
    holding_admitted Bytes o h = admitted_leaf st.subst Tree.Bytes
    holding_admitted (Fact p) o h = admitted_leaf st.subst (Tree.Fact p)
    holding_admitted (Record c) o h = node_admitted st.subst Tree.Record (T c) ((cell_distinct c o).0 h.1) (cell_sound Fields c o h.0)
    holding_admitted (Union c) o h = node_admitted st.subst Tree.Union (T c) tt (cell_sound Alternatives c o h)
    holding_admitted (Var x) o h = var_admitted st.subst x (bound_sound x (bound_w w x) refl (H.binds.ok x) h)
    holding_admitted Error o h = absurd h

  -- ---- Which mark is whose
  declared_record : (c : ℕ) → get_or w (TYPES + 2 * c) 0 % 16 ≡ 5 → declared_w w c ≡ Record c
  unfolding declared_w
  declared_record c e = rw e

  declared_union : (c : ℕ) → get_or w (TYPES + 2 * c) 0 % 16 ≡ 6 → declared_w w c ≡ Union c
  unfolding declared_w
  declared_union c e = rw e

  pub item_record : (c : ℕ) → IsCell w Fields c → (item_w w c ≡ Record c) × (c < 768)
  unfolding item_w
  item_record c (declared lt many tag) = (rw (lt-ltb c 256 lt, declared_record c tag), omega arith)
  item_record c (made le many) =
      let h : c < 768 = omega (arith, H.cells.few_records) in
      (rw (le-ltb c 256 le, lt-ltb c 768 h), h)

  pub item_union : (c : ℕ) → IsCell w Alternatives c → (item_w w c ≡ Union c) × (c < 768)
  unfolding item_w
  item_union c (declared lt many tag) = (rw (lt-ltb c 256 lt, declared_union c tag), omega arith)

  pub item_var : (x : ℕ) → item_w w (768 + x) ≡ Var x
  unfolding item_w
  item_var x =
      let e : 768 + x - 768 ≡ x = omega arith in
      rw (le-ltb (768 + x) 256 (omega arith), le-ltb (768 + x) 768 (omega arith), e)

  pub few : (x : ℕ) → x < get_or w UNKNOWNS 0 → 768 + x < 1280
  few x h = omega (arith, H.binds.unknowns, H.few_unknowns)

  -- ---- Complete
  module _ (rests : (i : ℕ) → i < 1280 → marked w i ≡ false → ¬ Holding w (item_w w i)) where
    stands : (i : ℕ) (t : Ty) → i < 1280 → item_w w i ≡ t → Holding w t → marked w i ≡ true
    stands i t l e h = go (marked w i) refl
      where
        go : (b : Bool) → marked w i ≡ b → marked w i ≡ true
        go true q = q
        go false q = absurd (rests i l q (rw e h))

    good_holding : (t : Ty) → Ok w t → Holding w t → good_w w t ≡ true
    good_holding Int o h = refl
    good_holding Str o h = refl
    good_holding Bytes o h = refl
    good_holding (Fact p) o h = refl
    good_holding (Record c) o h = let i = item_record c o in stands c (Record c) (omega (arith, i.1)) i.0 h
    good_holding (Union c) o h = let i = item_union c o in stands c (Union c) (omega (arith, i.1)) i.0 h
    good_holding (Var x) o h = stands (768 + x) (Var x) (few x o) (item_var x) h
    good_holding Error o h = absurd h

    -- Every part of a cell with these parts is good.
    abbrev Parts : Row → Type 0
    Parts r = (k : Kind) (c : ℕ) → T c ≡ r → IsCell w k c → (j : ℕ) → j < count_w w c → good_w w (part_w w k c j).ty ≡ true

    node_good : (kind : Tree.Kind) (r : Row) → Parts r → Admitted st.subst (Tree.node kind r)
        → (t : Ty) → tree T t ≡ Tree.node kind r → Ok w t → good_w w t ≡ true
    unfolding Admitted
    node_good kind r p a Int e o = refl
    node_good kind r p a Str e o = refl
    node_good kind r p a Bytes e o = refl
    node_good kind r p a (Fact q) e o = refl
    node_good kind r p a (Record c) e o =
        let d : Calls.DistinctKeys (T c) = (rw (← e) at a) (Tree.node Tree.Record (T c)) itself in
        good_holding (Record c) o (p Fields c (cc) o, (cell_distinct c o).1 d)
    node_good kind r p a (Union c) e o = good_holding (Union c) o (p Alternatives c (cc) o)
    node_good kind r p a (Var x) e o = clash (cc)
    node_good kind r p a Error e o = clash (cc)

    var_is : (x : ℕ) → (Ok w (Var x) → good_w w (Var x) ≡ true) → (t : Ty) → tree T t ≡ Tree.Var x → Ok w t → good_w w t ≡ true
    var_is x g Int e o = refl
    var_is x g Str e o = refl
    var_is x g Bytes e o = refl
    var_is x g (Fact p) e o = refl
    var_is x g (Record c) e o = clash (cc)
    var_is x g (Union c) e o = clash (cc)
    var_is x g (Var y) e o = let q : y ≡ x = cc in rw q (g (rw (← q) o))
    var_is x g Error e o = clash (cc)

    leaf_is : (p : Tree.Leaf) (t : Ty) → tree T t ≡ Tree.leaf p → good_w w t ≡ true
    leaf_is p Int e = refl
    leaf_is p Str e = refl
    leaf_is p Bytes e = refl
    leaf_is p (Fact q) e = refl
    leaf_is p (Record c) e = clash (cc)
    leaf_is p (Union c) e = clash (cc)
    leaf_is p (Var x) e = clash (cc)
    leaf_is p Error e = clash (cc)

    mutual
      unfolding Admitted row_from

      tree_good : (v : Tree.Ty) → ((y : ℕ) → LeadsTo st.subst v (Tree.Var y) → Ok w (Var y) → good_w w (Var y) ≡ true)
          → Admitted st.subst v → (t : Ty) → tree T t ≡ v → Ok w t → good_w w t ≡ true
      tree_good (Tree.leaf p) b a t e o = leaf_is p t e
      tree_good (Tree.node kind r) b a t e o = node_good kind r (λ k c q i j l.
          row_good r (λ y h. b y (inside h)) (λ u h. a u (inside h)) k c i 0 (count_w w c) (sym (cell_row k c i) ∙ q)
          (omega arith) j (omega arith) (omega arith)) a t e o
      tree_good (Tree.Var x) b a t e o = var_is x (b x itself) t e o
      tree_good Tree.Error b a t e o = absurd (a Tree.Error itself)

      row_good : (r : Row) → ((y : ℕ) → RowLeadsTo st.subst r (Tree.Var y) → Ok w (Var y) → good_w w (Var y) ≡ true)
          → ((u : Tree.Ty) → RowLeadsTo st.subst r u → Allowed u) → (k : Kind) (c : ℕ) → IsCell w k c → (j n : ℕ) → row_from T w k c j n ≡ r
          → j + n ≤ count_w w c → (i : ℕ) → j ≤ i → i < j + n → good_w w (part_w w k c i).ty ≡ true
      row_good ε b a k c o j zero e f i l m = absurd (omega arith)
      row_good ε b a k c o j (suc n) e f i l m = clash (cc)
      row_good (cell key label t r) b a k c o j zero e f i l m = clash (cc)
      row_good (cell key label t r) b a k c o j (suc n) e f i l m = at (ℕ_discrete i j)
          (tree_good t (λ y h. b y (first h)) (λ u h. a u (first h)) (part_w w k c j).ty (cc) (H.cells.ok k c j o (omega arith)))
          (λ q. row_good r (λ y h. b y (later h)) (λ u h. a u (later h)) k c o (j + 1) n (cc) (omega arith) i (omega arith) (omega arith))
        where
          at : Dec (i ≡ j) → good_w w (part_w w k c j).ty ≡ true → (j + 1 ≤ i → good_w w (part_w w k c i).ty ≡ true) → good_w w (part_w w k c i).ty ≡ true
          at (yes q) g h = rw q g
          at (no q) g h = h (omega arith)

    var_good : (x : ℕ) → Acc (Behind st.subst) x → Ok w (Var x) → Admitted st.subst (Tree.Var x) → good_w w (Var x) ≡ true
    unfolding Admitted Behind
    var_good x (Acc.intro x' h) o a = good_holding (Var x') o (go (bound_w w x') refl (H.binds.ok x') (λ y b. var_good y (h y b)))
      where
        go : (b : Option Ty) → bound_w w x' ≡ b → OkBound w b
            → ((y : ℕ) → Behind st.subst y x' → Ok w (Var y) → Admitted st.subst (Tree.Var y) → good_w w (Var y) ≡ true) → BoundGood w (bound_w w x')
        go None q k f = rw q tt
        go (Some u) q k f =
            let e = bound_is x' u q in
            rw q (tree_good (tree T u) (λ y r oy. f y (tree T u, e, r) oy (λ v i. a v (through e (reaches_trans st.subst r i))))
            (λ v i. a v (through e i)) u refl k)

    pub admitted_good : (t : Ty) → Ok w t → Admitted st.subst (tree T t) → good_w w t ≡ true
    unfolding Admitted Acyclic
    admitted_good t o a = tree_good (tree T t) (λ y r oy. var_good y (H.acyclic y) oy (λ v i. a v (reaches_trans st.subst r i))) a t refl o
