-- What each write does to the state that the words stand for. A write sets or frees one slot, of a binding or of a
-- node's type, and changes the undo log (`Change`): the slot's value is the written one, every other stands, and cells
-- are not touched.
use mathlib.Core.Bool.{Bool, true, false}
use mathlib.Core.List.{List, ◌∷◌}
use mathlib.Core.Logic.{◌≢◌, by_cases}
use mathlib.Core.Path.{◌≡◌, refl, sym, ◌∙◌, ap}
use Prim.Native.Nat.{ℕ, suc, ◌+◌, ◌-◌, ◌*◌, ◌<◌, ◌≤◌}
use native.Mathlib.Decide.{ℕ_discrete}
use native.Mathlib.Numerals.{add-one}
use native.Mathlib.Omega.{arith}
use lib.Dec.{eqb, ltb}
use lib.ListN.{length, get_or, set, length-set}
use lib.Seq.{get_or-set_same, get_or-set_other}
use borrow.Author.Tests.{lt-ltb, le-ltb, ltb-true}
use Rattle.unification.specs.Ty as Tree
use Rattle.unification.specs.Bindings.{Subst, bound, Undo, Binding, Annotation}
use Rattle.work.specs.Layout.{UNKNOWNS, TYS, UNDO-LEN, BINDINGS, UNDO, END}
use Rattle.cells.specs.declared.Ty.{Ty}
use Rattle.cells.specs.declared.Ty.TheVariants.{Int, Str, Bytes, Fact, Record, Union, Var, Error}
use Rattle.cells.specs.Words.{pick, ty_w, tag_w, payload_w, slot_w, bound_w, put_ty, push_undo_w}
use Rattle.cells.specs.Stands.{Rows, bound_tree, OkBound, Binds, Types, entry_of, undo_of, Keeps}
use Rattle.cells.proofs.Frame.{keeps_refl, keeps_trans, keeps_wider, keeps_set, SameCells, keeps_cells, ok_bound_same, slot_same, bound_same, undo_same}
use Rattle.std.specs.Prelude.{None, Option, Some}

-- ---- A type is read back as it was written
pub read_back : (t : Ty) → ty_w (tag_w t) (payload_w t) ≡ t
unfolding ty_w
read_back Int = refl
read_back Str = refl
read_back Bytes = refl
read_back (Fact p) = refl
read_back (Record c) = refl
read_back (Union c) = refl
read_back (Var x) = refl
read_back Error = refl

tag_not_free : (t : Ty) → eqb (tag_w t) 0 ≡ false
tag_not_free Int = refl
tag_not_free Str = refl
tag_not_free Bytes = refl
tag_not_free (Fact p) = refl
tag_not_free (Record c) = refl
tag_not_free (Union c) = refl
tag_not_free (Var x) = refl
tag_not_free Error = refl

slot_set : (w : List ℕ) (at : ℕ) (t : Ty) → get_or w at 0 ≡ tag_w t → get_or w (at + 1) 0 ≡ payload_w t → slot_w w at ≡ Some t
unfolding slot_w
slot_set w at t p q = rw (p, q, tag_not_free t, read_back t)

pub slot_free : (w : List ℕ) (at : ℕ) → get_or w at 0 ≡ 0 → slot_w w at ≡ None
unfolding slot_w
slot_free w at p = rw p

module _ (w : List ℕ) (at : ℕ) (t : Ty) where
  put_other : (i : ℕ) → i ≢ at → i ≢ at + 1 → get_or (put_ty w at t) i 0 ≡ get_or w i 0
  unfolding put_ty
  put_other i n m = get_or-set_other (set w at (tag_w t)) (at + 1) i (payload_w t) 0 m ∙ get_or-set_other w at i (tag_w t) 0 n

  put_length : length (put_ty w at t) ≡ length w
  unfolding put_ty
  put_length = simp length-set

  pub put_keeps : {a e : ℕ} → a ≤ at → at + 1 < e → Keeps a e w (put_ty w at t)
  put_keeps lo hi = record {
    below = λ i h. put_other i (λ q. omega arith) (λ q. omega arith);
    above = λ i h. put_other i (λ q. omega arith) (λ q. omega arith);
    long = put_length;
  }

  put_tag : at + 1 < length w → get_or (put_ty w at t) at 0 ≡ tag_w t
  unfolding put_ty
  put_tag h = get_or-set_other (set w at (tag_w t)) (at + 1) at (payload_w t) 0 (λ q. omega arith) ∙ get_or-set_same w at (tag_w t) 0 (omega arith)

  put_payload : at + 1 < length w → get_or (put_ty w at t) (at + 1) 0 ≡ payload_w t
  unfolding put_ty
  put_payload h = get_or-set_same (set w at (tag_w t)) (at + 1) (payload_w t) 0 (omega (arith, length-set w at (tag_w t)))

-- ---- An entry is pushed
pub entry_binding : (x : ℕ) → x < 65536 → entry_of x ≡ Binding x None
unfolding entry_of
entry_binding x h = rw (lt-ltb x 65536 h)

pub entry_annotation : (n : ℕ) → entry_of (n + 65536) ≡ Annotation n None
unfolding entry_of
entry_annotation n =
    let e : n + 65536 - 65536 ≡ n = omega arith in
    rw (le-ltb (n + 65536) 65536 (omega arith), e)

module _ (w : List ℕ) (e : ℕ) where
  pub push_keeps : Keeps UNDO-LEN END w (push_undo_w w e)
  unfolding push_undo_w
  push_keeps = go (ltb (get_or w UNDO-LEN 0) 1024) refl
    where
      go : (b : Bool) → ltb (get_or w UNDO-LEN 0) 1024 ≡ b → Keeps UNDO-LEN END w
          (pick b (set (set w (UNDO + get_or w UNDO-LEN 0) e) UNDO-LEN (get_or w UNDO-LEN 0 + 1)) w)
      go true q =
          let h = ltb-true (get_or w UNDO-LEN 0) 1024 q in
          keeps_trans (keeps_set w (UNDO + get_or w UNDO-LEN 0) e (omega arith) (omega arith))
          (keeps_set (set w (UNDO + get_or w UNDO-LEN 0) e) UNDO-LEN (get_or w UNDO-LEN 0 + 1) (omega arith) (omega arith))
      go false q = keeps_refl

  module _ (room : get_or w UNDO-LEN 0 < 1024) where
    push_is : push_undo_w w e ≡ set (set w (UNDO + get_or w UNDO-LEN 0) e) UNDO-LEN (get_or w UNDO-LEN 0 + 1)
    unfolding push_undo_w
    push_is = rw (lt-ltb (get_or w UNDO-LEN 0) 1024 room)

    push_other : (i : ℕ) → i ≢ UNDO-LEN → i ≢ UNDO + get_or w UNDO-LEN 0 → get_or (push_undo_w w e) i 0 ≡ get_or w i 0
    push_other i n m = rw push_is (get_or-set_other (set w (UNDO + get_or w UNDO-LEN 0) e) UNDO-LEN i (get_or w UNDO-LEN 0 + 1) 0 n ∙ get_or-set_other w
        (UNDO + get_or w UNDO-LEN 0) i e 0 m)

    module _ (long : END ≤ length w) where
      push_count : get_or (push_undo_w w e) UNDO-LEN 0 ≡ suc (get_or w UNDO-LEN 0)
      push_count = rw (push_is, ← add-one (get_or w UNDO-LEN 0))
          (get_or-set_same (set w (UNDO + get_or w UNDO-LEN 0) e) UNDO-LEN (get_or w UNDO-LEN 0 + 1) 0
          (omega (arith, length-set w (UNDO + get_or w UNDO-LEN 0) e)))

      push_top : get_or (push_undo_w w e) (UNDO + get_or w UNDO-LEN 0) 0 ≡ e
      push_top = rw push_is
          (get_or-set_other (set w (UNDO + get_or w UNDO-LEN 0) e) UNDO-LEN (UNDO + get_or w UNDO-LEN 0) (get_or w UNDO-LEN 0 + 1) 0 (λ q. omega arith) ∙
          get_or-set_same w (UNDO + get_or w UNDO-LEN 0) e 0 (omega arith))

      push_undo : undo_of (push_undo_w w e) (get_or (push_undo_w w e) UNDO-LEN 0) ≡ entry_of e ∷ undo_of w (get_or w UNDO-LEN 0)
      unfolding undo_of
      push_undo = rw (
        push_count,
        push_top,
        undo_same w (push_undo_w w e) (get_or w UNDO-LEN 0)
            (λ i h. push_other (UNDO + i) (λ q. omega arith) (λ q. omega arith)),
      )

-- ---- One slot changed, and the log
pub record Change (w w' : List ℕ) (at : ℕ) (b : Option Ty) : Type 0 where
  pub keeps : Keeps TYS END w w'
  pub here : slot_w w' at ≡ b
  pub other : (i : ℕ) → TYS ≤ i → i < UNDO → i ≢ UNDO-LEN → i ≢ at → i ≢ at + 1 → get_or w' i 0 ≡ get_or w i 0

-- There is a slot: of a node's type, or of a binding.
pub record IsSlot (at : ℕ) : Type 0 where
  pub low : TYS ≤ at
  pub high : at + 1 < UNDO
  pub before : at ≢ UNDO-LEN
  pub behind : at + 1 ≢ UNDO-LEN

pub binding_slot : (x : ℕ) → x < 512 → IsSlot (BINDINGS + 2 * x)
binding_slot x h = record { low = omega arith; high = omega arith; before = λ q. omega arith; behind = λ q. omega arith }

pub type_slot : (n : ℕ) → n < 512 → IsSlot (TYS + 2 * n)
type_slot n h = record { low = omega arith; high = omega arith; before = λ q. omega arith; behind = λ q. omega arith }

module _ (w : List ℕ) (long : END ≤ length w) (at : ℕ) (slot : IsSlot at) where
  module _ (t : Ty) (e : ℕ) (room : get_or w UNDO-LEN 0 < 1024) where
    put_log : get_or (put_ty w at t) UNDO-LEN 0 ≡ get_or w UNDO-LEN 0
    put_log = put_other w at t UNDO-LEN (λ q. slot.before (sym q)) (λ q. slot.behind (sym q))

    pub set_change : Change w (push_undo_w (put_ty w at t) e) at (Some t)
    set_change =
        let r : get_or (put_ty w at t) UNDO-LEN 0 < 1024 = omega (arith, put_log) in
        record {
          keeps = keeps_trans (put_keeps w at t slot.low (omega (arith, slot.high)))
              (keeps_wider (omega arith) (omega arith) (push_keeps (put_ty w at t) e));
          here = slot_set (push_undo_w (put_ty w at t) e) at t
              (push_other (put_ty w at t) e r at slot.before (λ q. omega (arith, slot.high)) ∙ put_tag w at t (omega (arith, slot.high)))
              (push_other (put_ty w at t) e r (at + 1) slot.behind (λ q. omega (arith, slot.high)) ∙ put_payload w at t (omega (arith, slot.high)));
          other = λ i lo hi n m m'. push_other (put_ty w at t) e r i n (λ q. omega arith) ∙ put_other w at t i m m';
        }

    pub set_undo : undo_of (push_undo_w (put_ty w at t) e) (get_or (push_undo_w (put_ty w at t) e) UNDO-LEN 0) ≡ entry_of e ∷ undo_of w (get_or w UNDO-LEN 0)
    set_undo =
        push_undo (put_ty w at t) e (omega (arith, put_log)) (omega (arith, put_length w at t))
        ∙ rw put_log (ap {B = List Undo} (λ us. entry_of e ∷ us)
        (undo_same w (put_ty w at t) (get_or w UNDO-LEN 0)
        (λ i h. put_other w at t (UNDO + i) (λ q. omega (arith, slot.high)) (λ q. omega (arith, slot.high)))))

  module _ (n : ℕ) where
    pop_other : (i : ℕ) → i ≢ UNDO-LEN → i ≢ at → get_or (set (set w at 0) UNDO-LEN n) i 0 ≡ get_or w i 0
    pop_other i p q = get_or-set_other (set w at 0) UNDO-LEN i n 0 p ∙ get_or-set_other w at i 0 0 q

    pub pop_change : Change w (set (set w at 0) UNDO-LEN n) at None
    pop_change = record {
      keeps = keeps_trans (keeps_set w at 0 slot.low (omega (arith, slot.high))) (keeps_set (set w at 0) UNDO-LEN n (omega arith) (omega arith));
      here = slot_free (set (set w at 0) UNDO-LEN n) at
          (get_or-set_other (set w at 0) UNDO-LEN at n 0 slot.before ∙ get_or-set_same w at 0 0 (omega (arith, slot.high)));
      other = λ i lo hi p q r. pop_other i p q;
    }

    pub pop_undo : undo_of (set (set w at 0) UNDO-LEN n) (get_or (set (set w at 0) UNDO-LEN n) UNDO-LEN 0) ≡ undo_of w n
    pop_undo = rw (get_or-set_same (set w at 0) UNDO-LEN n 0 (omega (arith, length-set w at 0)))
        (undo_same w (set (set w at 0) UNDO-LEN n) n (λ i h. pop_other (UNDO + i) (λ q. omega arith) (λ q. omega (arith, slot.high))))

-- ---- The parts of the state after a change
get_d_set_at : {A : Type 0} (l : List A) (i j : ℕ) (a d : A) (Q : A → Type 0) → i < length l → (j ≡ i → Q a) → (j ≢ i → Q (get_or l j d))
    → Q (get_or (set l i a) j d)
get_d_set_at l i j a d Q lt same other = by_cases (ℕ_discrete j i)
    (λ e. rw (e, get_or-set_same l i a d lt) (same e))
    (λ n. rw (get_or-set_other l i j a d n) (other n))

-- Bindings, and the types of nodes, where a slot of their own changed; or none of theirs.
module _ {w w' : List ℕ} {at : ℕ} {b : Option Ty} (c : Change w w' at b) where
  abbrev pub cells : SameCells w w'
  cells = keeps_cells (omega arith) c.keeps

  other_slot : (i : ℕ) → IsSlot i → i ≢ at → i ≢ at + 1 → i + 1 ≢ at → slot_w w' i ≡ slot_w w i
  other_slot i s n m k = slot_same w w' i (c.other i s.low (omega (arith, s.high)) s.before n m)
      (c.other (i + 1) (omega (arith, s.low)) s.high s.behind k (λ q. n (omega arith)))

  unknowns_same : get_or w' UNKNOWNS 0 ≡ get_or w UNKNOWNS 0
  unknowns_same = c.keeps.below UNKNOWNS (omega arith)

  other_bound : (few : get_or w UNKNOWNS 0 ≤ 512) (x : ℕ) →
      (x < 512 → (BINDINGS + 2 * x ≢ at) × (BINDINGS + 2 * x ≢ at + 1) × (BINDINGS + 2 * x + 1 ≢ at)) → bound_w w' x ≡ bound_w w x
  other_bound few x apart = bound_same w w' x unknowns_same (λ h.
      let lt : x < 512 = omega arith in
      let n = apart lt in
      other_slot (BINDINGS + 2 * x) (binding_slot x lt) n.0 n.1 n.2)

  pub binds_other : {T : Rows} {s : Subst} → at + 1 < UNDO-LEN → length s ≤ 512 → Binds w T s → Binds w' T s
  binds_other {T} {s} hi few B = record {
    unknowns = B.unknowns ∙ sym unknowns_same;
    at = λ x. B.at x ∙ ap (bound_tree T) (sym (same x));
    ok = λ x. rw (same x) (ok_bound_same cells (bound_w w x) (B.ok x));
  }
    where
      same : (x : ℕ) → bound_w w' x ≡ bound_w w x
      same x = other_bound (omega (arith, B.unknowns)) x (λ h. (λ q. omega arith, λ q. omega arith, λ q. omega arith))

  pub types_other : {T : Rows} {tys : List (Option Tree.Ty)} → UNDO-LEN < at → length tys ≤ 512 → Types w T tys → Types w' T tys
  types_other {T} {tys} lo few Y = record {
    at = λ n h. Y.at n h ∙ ap (bound_tree T) (sym (same n h));
    ok = λ n h. rw (same n h) (ok_bound_same cells (slot_w w (TYS + 2 * n)) (Y.ok n h));
  }
    where
      same : (n : ℕ) → n < length tys → slot_w w' (TYS + 2 * n) ≡ slot_w w (TYS + 2 * n)
      same n h = other_slot (TYS + 2 * n) (type_slot n (omega arith)) (λ q. omega arith) (λ q. omega arith) (λ q. omega arith)

pub binds_at : {w w' : List ℕ} {x : ℕ} {b : Option Ty} {T : Rows} {s : Subst} → Change w w' (BINDINGS + 2 * x) b → OkBound w b → x < length s
    → length s ≤ 512 → Binds w T s → Binds w' T (set s x (bound_tree T b))
unfolding bound bound_w
binds_at {w} {w'} {x} {b} {T} {s} c o lt few B = record {
  unknowns = length-set s x (bound_tree T b) ∙ B.unknowns ∙ sym (unknowns_same c);
  at = λ y. get_d_set_at s x y (bound_tree T b) None (λ v. v ≡ bound_tree T (bound_w w' y)) lt
      (λ e. rw (e, here))
      (λ n. B.at y ∙ ap (bound_tree T) (sym (same y n)));
  ok = λ y. by_cases (ℕ_discrete y x)
      (λ e. rw (e, here) (ok_bound_same (cells c) b o))
      (λ n. rw (same y n) (ok_bound_same (cells c) (bound_w w y) (B.ok y)));
}
  where
    here : bound_w w' x ≡ b
    here = rw (unknowns_same c, lt-ltb x (get_or w UNKNOWNS 0) (omega (arith, B.unknowns))) c.here

    same : (y : ℕ) → y ≢ x → bound_w w' y ≡ bound_w w y
    same y n = other_bound c (omega (arith, B.unknowns)) y (λ h. (λ q. n (omega arith), λ q. omega arith, λ q. omega arith))

pub types_at : {w w' : List ℕ} {n : ℕ} {b : Option Ty} {T : Rows} {tys : List (Option Tree.Ty)} → Change w w' (TYS + 2 * n) b → OkBound w b
    → n < length tys → length tys ≤ 512 → Types w T tys → Types w' T (set tys n (bound_tree T b))
types_at {w} {w'} {n} {b} {T} {tys} c o lt few Y = record {
  at = λ m h. get_d_set_at tys n m (bound_tree T b) None (λ v. v ≡ bound_tree T (slot_w w' (TYS + 2 * m))) lt
      (λ e. rw (e, c.here))
      (λ k. Y.at m (within m h) ∙ ap (bound_tree T) (sym (same m h k)));
  ok = λ m h. by_cases (ℕ_discrete m n)
      (λ e. rw (e, c.here) (ok_bound_same (cells c) b o))
      (λ k. rw (same m h k) (ok_bound_same (cells c) (slot_w w (TYS + 2 * m)) (Y.ok m (within m h))));
}
  where
    within : (m : ℕ) → m < length (set tys n (bound_tree T b)) → m < length tys
    within m h = omega (arith, length-set tys n (bound_tree T b))

    same : (m : ℕ) → m < length (set tys n (bound_tree T b)) → m ≢ n → slot_w w' (TYS + 2 * m) ≡ slot_w w (TYS + 2 * m)
    same m h k = other_slot c (TYS + 2 * m) (type_slot m (omega (arith, within m h))) (λ q. k (omega arith)) (λ q. omega arith) (λ q. omega arith)
