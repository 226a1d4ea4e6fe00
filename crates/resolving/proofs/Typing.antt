-- To write a type is to write the one at the end of its chain: a leaf, a free unknown or the error at once; a cell by what
-- stands before its parts, and then part by part, where to write the parts from j on is to write them all.
use mathlib.Core.List.{List, ◌++◌, append_assoc}
use mathlib.Core.Path.{◌≡◌, refl, sym, ap, ◌∙◌}
use Prim.Native.Nat.{ℕ, ◌+◌, ◌≤◌, ◌<◌}
use native.Mathlib.Omega.{arith}
use lib.ListN.{length}
use Rattle.unification.specs.Ty as Tree
use Rattle.unification.specs.Ty.{Row, ε, cell, row_len, app_row}
use Rattle.unification.specs.Bindings.{State, Subst, zonk, Resolved}
use Rattle.unification.proofs.Rows.{row_len_app}
use Rattle.unification.proofs.Chain.{repr_resolved}
use Rattle.unification.proofs.Zonk.{zonk_repr, zonk_leaf, zonk_error, zonk_node, zonk_unbound, zonk_replaces}
use Rattle.cells.specs.declared.Ty.{Ty}
use Rattle.cells.specs.declared.Ty.TheVariants.{Int, Str, Bytes, Fact, Record, Union, Var, Error}
use Rattle.cells.specs.declared.Kind.{Kind}
use Rattle.cells.specs.declared.Kind.TheVariants.{Fields, Alternatives}
use Rattle.cells.specs.declared.Part.{Part}
use Rattle.cells.specs.Words.{count_w, part_w, parts_w, part_of_w}
use Rattle.cells.specs.Stands.{Rows, Holds, tree, kind_tree, IsCell, Ok}
use Rattle.cells.specs.Promises.{Reprs}
use Rattle.cells.proofs.Parts.{rest, rest_whole, rest_cell, rest_none, cell_ty, cell_ok, part_ok}
use Rattle.cells.proofs.Records.{cell_length}
use Rattle.writer.specs.Writes.{Writes, Moves}
use Rattle.writer.proofs.Writing.{writes_as, writes_to, writes_then, writes_full, writes_moves, full_moves, moves_then, moves_none, moves_next}
use Rattle.writer.proofs.Writing.{Goes, goes_start, goes_next, goes_full, goes_done}
use Rattle.resolving.specs.Scripts.{Script, written, written_row, head_of, part_head_of, Resolves, resolved, WritesTy, WritesPart, WritesRow}
use Rattle.std.specs.Prelude.{None, Option, Some}

-- ---- The parts that are counted are those that are written

counted : {w : List ℕ} {T : Rows} {s : Subst} → Resolves w T s → (k : Kind) (c : ℕ) → IsCell w k c → row_len (resolved s (T c)) ≡ count_w w c
counted {w} {T} {s} R k c i = row_len_app _ (T c) ∙ cell_length R.cells k c i

-- ---- A type
-- The words of a state say what its bindings resolve to.
pub resolves : {w : List ℕ} {T : Rows} {st : State} → Holds w T st → Resolves w T st.subst
resolves H = record { cells = H.cells; binds = H.binds; acyclic = H.acyclic }

cell_tree : (T : Rows) (k : Kind) (c : ℕ) → tree T (cell_ty k c) ≡ Tree.node (kind_tree k) (T c)
cell_tree T Fields c = refl
cell_tree T Alternatives c = refl

-- ---- Where a loop over the parts has come to
pub record Rowing {A : Type 0} (S : Script A) (w : List ℕ) (out₀ : List A) (at : ℕ) (k : Kind) (c n : ℕ) (out : List A) (j to : ℕ) : Type 0 where
  pub within : j ≤ n
  pub all : n ≡ count_w w c
  pub moves : Moves out₀ at out (Some to)
  pub go : (T : Rows) (s : Subst) → Resolves w T s → IsCell w k c → at ≤ length out₀
      → Goes out₀ at (written_row S (resolved s (T c)) (kind_tree k)) out to (written_row S (resolved s (rest T w k c n j)) (kind_tree k))

abbrev pub Along : {A : Type 0} → Script A → List ℕ → List A → ℕ → Ty → ℕ → List A → ℕ → ℕ → Type 0
Along S w mid from Int n out j to = (n ≡ 0) × (mid ≡ out) × (from ≡ to)
Along S w mid from Str n out j to = (n ≡ 0) × (mid ≡ out) × (from ≡ to)
Along S w mid from Bytes n out j to = (n ≡ 0) × (mid ≡ out) × (from ≡ to)
Along S w mid from (Fact p) n out j to = (n ≡ 0) × (mid ≡ out) × (from ≡ to)
Along S w mid from (Record c) n out j to = Rowing S w mid from Fields c n out j to
Along S w mid from (Union c) n out j to = Rowing S w mid from Alternatives c n out j to
Along S w mid from (Var x) n out j to = (n ≡ 0) × (mid ≡ out) × (from ≡ to)
Along S w mid from Error n out j to = (n ≡ 0) × (mid ≡ out) × (from ≡ to)

pub record Typing {A : Type 0} (S : Script A) (w : List ℕ) (mid : List A) (from : ℕ) (u : Ty) (n : ℕ) (out : List A) (j to : ℕ) : Type 0 where
  pub moves : Moves mid from out (Some to)
  pub along : Along S w mid from u n out j to

none_there : {A : Type 0} {n j : ℕ} → n ≡ 0 → j < n → A
none_there e h = absurd (omega arith)

module _ {A : Type 0} (S : Script A) where
  module _ {w : List ℕ} {out : List A} {at : ℕ} {t u : Ty} (rep : Reprs w t u) where
    end_of_chain : {out' : List A} {r : Option ℕ} → Moves out at out' r
        → ((T : Rows) (s : Subst) → Resolves w T s → Ok w u → Resolved s (tree T u) → Writes out at (written S (zonk s (tree T u))) out' r)
        → WritesTy S w out at t out' r
    end_of_chain m f = record {
      is = λ T s R o. writes_as
          (ap (written S) (ap (zonk s) (rep.is T s R.binds) ∙ zonk_repr s R.acyclic (tree T t)))
          (f T s R (rep.ok T s R.binds o) (rw (← rep.is T s R.binds) at (repr_resolved s R.acyclic (tree T t))));
      moves = m;
    }

    pub ty_leaf : (p : Tree.Leaf) → ((T : Rows) → tree T u ≡ Tree.leaf p) → {out' : List A} {r : Option ℕ} → Writes out at (S.leaf p) out' r
        → WritesTy S w out at t out' r
    unfolding written
    ty_leaf p e f = end_of_chain (writes_moves f) (λ T s R o v. rw (e T, zonk_leaf s p) f)

    pub ty_var : (x : ℕ) → u ≡ Var x → {out' : List A} {r : Option ℕ} → Writes out at (S.unknown x) out' r → WritesTy S w out at t out' r
    unfolding written
    ty_var x e f = end_of_chain (writes_moves f) (λ T s R o v. rw (e, zonk_unbound s x (rw e at v)) f)

    pub ty_error : u ≡ Error → {out' : List A} {r : Option ℕ} → Writes out at S.error out' r → WritesTy S w out at t out' r
    unfolding written
    ty_error e f = end_of_chain (writes_moves f) (λ T s R o v. rw (e, zonk_error s) f)

    module _ (k : Kind) (c : ℕ) (e : u ≡ cell_ty k c) (m : ℕ) (q : m ≡ count_w w c) {mid : List A} {h : Option ℕ}
        (f : Writes out at (S.node (kind_tree k) m) mid h) where
      node_text : (T : Rows) (s : Subst) → Resolves w T s → Ok w u
          → written S (zonk s (tree T u)) ≡ S.node (kind_tree k) m ++ written_row S (resolved s (T c)) (kind_tree k)
      unfolding written
      node_text T s R o = rw (e, cell_tree T k c, zonk_node s (kind_tree k) (T c), q, counted R k c (cell_ok w k c (rw e at o)))

      pub ty_cell : {n : ℕ} → h ≡ Some n → {out' : List A} {r : Option ℕ} → WritesRow S w mid n k c out' r → WritesTy S w out at t out' r
      ty_cell {n} p g = end_of_chain (moves_then (writes_moves f) p g.moves) (λ T s R o v. writes_as (sym (node_text T s R o))
          (writes_then f p (g.is T s R (cell_ok w k c (rw e at o)) (omega (arith, (writes_to f p).1, f.long)))))

      pub ty_cell_full : h ≡ None → WritesTy S w out at t mid None
      ty_cell_full p = end_of_chain (full_moves f.long) (λ T s R o v. writes_as (sym (node_text T s R o)) (writes_full f p _))

  -- ---- A part
  module _ {w : List ℕ} {out : List A} {at : ℕ} {k : Kind} {p : Part} {mid : List A} {h : Option ℕ}
      (f : Writes out at (S.part (kind_tree k) p.key p.label) mid h) where
    pub part_then : {n : ℕ} → h ≡ Some n → {out' : List A} {r : Option ℕ} → WritesTy S w mid n p.ty out' r → WritesPart S w out at k p out' r
    part_then e g = record { is = λ T s R o. writes_then f e (g.is T s R o); moves = moves_then (writes_moves f) e g.moves }

    pub part_full : h ≡ None → WritesPart S w out at k p mid None
    part_full e = record { is = λ T s R o. writes_full f e _; moves = full_moves f.long }

  -- ---- The parts of a cell
  pub row_start : (w : List ℕ) (out : List A) (at : ℕ) (k : Kind) (c n : ℕ) → n ≡ count_w w c → Rowing S w out at k c n out 0 at
  row_start w out at k c n e = record {
    within = omega arith;
    all = e;
    moves = moves_none out at;
    go = λ T s R i b. goes_start out at _ _ b (ap (λ (x : Row). written_row S (resolved s x) (kind_tree k)) (sym (rest_whole T w k c n e R.cells i)));
  }

  module _ {w : List ℕ} {out₀ : List A} {at : ℕ} {k : Kind} {c n : ℕ} {out : List A} {j to : ℕ} (g : Rowing S w out₀ at k c n out j to) where
    module _ (p : Part) (l : j < n) (e : p ≡ part_w w k c j) {out' : List A} {r : Option ℕ} (f : WritesPart S w out to k p out' r) where
      cell_text_lem : (T : Rows) (s : Subst) → written_row S (resolved s (rest T w k c n j)) (kind_tree k)
          ≡ (S.part (kind_tree k) p.key p.label ++ written S (zonk s (tree T p.ty))) ++ written_row S (resolved s (rest T w k c n (j + 1))) (kind_tree k)
      unfolding written_row app_row
      cell_text_lem T s = rw (rest_cell T w k c n j p l e, zonk_replaces s (tree T p.ty), append_assoc)

      pub row_next : {m : ℕ} → r ≡ Some m → Rowing S w out₀ at k c n out' (j + 1) m
      row_next {m} q = record {
        within = omega arith;
        all = g.all;
        moves = moves_next g.moves f.moves q;
        go = λ T s R i b. goes_next (g.go T s R i b) _ _ (cell_text_lem T s) (f.is T s R (part_ok R.cells k c n j p g.all i l e)) q;
      }

      pub row_stops : r ≡ None → WritesRow S w out₀ at k c out' None
      row_stops q = record {
        is = λ T s R i b. goes_full (g.go T s R i b) _ _ (cell_text_lem T s) (f.is T s R (part_ok R.cells k c n j p g.all i l e)) q;
        moves = full_moves (f.moves.long ∙ g.moves.long);
      }

    pub row_done : n ≤ j → WritesRow S w out₀ at k c out (Some to)
    unfolding written_row app_row
    row_done l = record {
      is = λ T s R i b. goes_done (g.go T s R i b) (rw (rest_none T w k c n j l));
      moves = g.moves;
    }

  -- ---- A type, its parts in a loop
  pub typing_start : (w : List ℕ) (mid : List A) (from : ℕ) (u : Ty) (n : ℕ) → n ≡ parts_w w u → Typing S w mid from u n mid 0 from
  typing_start w mid from u n e = record { moves = moves_none mid from; along = go u e }
    where
      go : (u : Ty) → n ≡ parts_w w u → Along S w mid from u n mid 0 from
      go Int e = (e, refl, refl)
      go Str e = (e, refl, refl)
      go Bytes e = (e, refl, refl)
      go (Fact p) e = (e, refl, refl)
      go (Record c) e = row_start w mid from Fields c n e
      go (Union c) e = row_start w mid from Alternatives c n e
      go (Var x) e = (e, refl, refl)
      go Error e = (e, refl, refl)

  module _ {w : List ℕ} {mid : List A} {from n : ℕ} {out : List A} {j to : ℕ} (p : Part) (l : j < n) {half : List A} {b : Option ℕ} {m : ℕ} (q : b ≡ Some m)
      {out' : List A} {r : Option ℕ} (x : WritesTy S w half m p.ty out' r) where
    pub typing_next : (u : Ty) → Typing S w mid from u n out j to → p ≡ part_of_w w u j → Writes out to (part_head_of S u p.key p.label) half b
        → {k : ℕ} → r ≡ Some k → Typing S w mid from u n out' (j + 1) k
    typing_next u g e f {k} z = record { moves = moves_next g.moves (moves_then (writes_moves f) q x.moves) z; along = go u g.along e f }
      where
        go : (u : Ty) → Along S w mid from u n out j to → p ≡ part_of_w w u j → Writes out to (part_head_of S u p.key p.label) half b
            → Along S w mid from u n out' (j + 1) k
        go Int g e f = none_there g.0 l
        go Str g e f = none_there g.0 l
        go Bytes g e f = none_there g.0 l
        go (Fact p) g e f = none_there g.0 l
        go (Record c) g e f = row_next g p l e (part_then f q x) z
        go (Union c) g e f = row_next g p l e (part_then f q x) z
        go (Var y) g e f = none_there g.0 l
        go Error g e f = none_there g.0 l

  module _ {w : List ℕ} {out : List A} {at : ℕ} {t : Ty} {mid : List A} {h : Option ℕ} where
    pub typing_full : (u : Ty) → Reprs w t u → Writes out at (head_of S w u) mid h → h ≡ None → WritesTy S w out at t mid None
    typing_full Int rep f e = ty_leaf rep Tree.Int (λ T. refl) (rw e at f)
    typing_full Str rep f e = ty_leaf rep Tree.String (λ T. refl) (rw e at f)
    typing_full Bytes rep f e = ty_leaf rep Tree.Bytes (λ T. refl) (rw e at f)
    typing_full (Fact p) rep f e = ty_leaf rep (Tree.Fact p) (λ T. refl) (rw e at f)
    typing_full (Record c) rep f e = ty_cell_full rep Fields c refl (count_w w c) refl f e
    typing_full (Union c) rep f e = ty_cell_full rep Alternatives c refl (count_w w c) refl f e
    typing_full (Var x) rep f e = ty_var rep x refl (rw e at f)
    typing_full Error rep f e = ty_error rep refl (rw e at f)

    module _ {from : ℕ} (z : h ≡ Some from) {n : ℕ} {now : List A} {j to : ℕ} where
      pub typing_done : (u : Ty) → Reprs w t u → Writes out at (head_of S w u) mid h → Typing S w mid from u n now j to → n ≤ j
          → WritesTy S w out at t now (Some to)
      typing_done Int rep f g l = ty_leaf rep Tree.Int (λ T. refl) (rw (← g.along.1, ← g.along.2) (rw z at f))
      typing_done Str rep f g l = ty_leaf rep Tree.String (λ T. refl) (rw (← g.along.1, ← g.along.2) (rw z at f))
      typing_done Bytes rep f g l = ty_leaf rep Tree.Bytes (λ T. refl) (rw (← g.along.1, ← g.along.2) (rw z at f))
      typing_done (Fact p) rep f g l = ty_leaf rep (Tree.Fact p) (λ T. refl) (rw (← g.along.1, ← g.along.2) (rw z at f))
      typing_done (Record c) rep f g l = ty_cell rep Fields c refl (count_w w c) refl f z (row_done g.along l)
      typing_done (Union c) rep f g l = ty_cell rep Alternatives c refl (count_w w c) refl f z (row_done g.along l)
      typing_done (Var x) rep f g l = ty_var rep x refl (rw (← g.along.1, ← g.along.2) (rw z at f))
      typing_done Error rep f g l = ty_error rep refl (rw (← g.along.1, ← g.along.2) (rw z at f))

      module _ (p : Part) (l : j < n) {half : List A} {b : Option ℕ} where
        pub typing_stops : (u : Ty) → Reprs w t u → Writes out at (head_of S w u) mid h → Typing S w mid from u n now j to → p ≡ part_of_w w u j
            → Writes now to (part_head_of S u p.key p.label) half b → b ≡ None → WritesTy S w out at t half None
        typing_stops Int rep f g e s q = none_there g.along.0 l
        typing_stops Str rep f g e s q = none_there g.along.0 l
        typing_stops Bytes rep f g e s q = none_there g.along.0 l
        typing_stops (Fact p) rep f g e s q = none_there g.along.0 l
        typing_stops (Record c) rep f g e s q = ty_cell rep Fields c refl (count_w w c) refl f z (row_stops g.along p l e (part_full s q) refl)
        typing_stops (Union c) rep f g e s q = ty_cell rep Alternatives c refl (count_w w c) refl f z (row_stops g.along p l e (part_full s q) refl)
        typing_stops (Var x) rep f g e s q = none_there g.along.0 l
        typing_stops Error rep f g e s q = none_there g.along.0 l

        pub typing_ends : (u : Ty) → Reprs w t u → Writes out at (head_of S w u) mid h → Typing S w mid from u n now j to → p ≡ part_of_w w u j
            → Writes now to (part_head_of S u p.key p.label) half b → {m : ℕ} → b ≡ Some m → {out' : List A} {r : Option ℕ}
            → WritesTy S w half m p.ty out' r → r ≡ None → WritesTy S w out at t out' None
        typing_ends Int rep f g e s q x y = none_there g.along.0 l
        typing_ends Str rep f g e s q x y = none_there g.along.0 l
        typing_ends Bytes rep f g e s q x y = none_there g.along.0 l
        typing_ends (Fact p) rep f g e s q x y = none_there g.along.0 l
        typing_ends (Record c) rep f g e s q x y = ty_cell rep Fields c refl (count_w w c) refl f z (row_stops g.along p l e (part_then s q x) y)
        typing_ends (Union c) rep f g e s q x y = ty_cell rep Alternatives c refl (count_w w c) refl f z (row_stops g.along p l e (part_then s q x) y)
        typing_ends (Var v) rep f g e s q x y = none_there g.along.0 l
        typing_ends Error rep f g e s q x y = none_there g.along.0 l
