-- What the words of the work slice stand for: types as trees, and the state of unification/specs/Bindings.antt. This is
-- the one relation between the code's words and the definitions.
use Rattle.std.specs.Prelude.{List, [], ◌∷◌, ◌≡◌, ℕ, zero, suc, ◌+◌, ◌-◌, ◌*◌, ◌%◌, ◌≤◌, ◌<◌, ltb, length, get_or, set, None, Option, Some}
use Rattle.unification.specs.Ty as Tree
use Rattle.unification.specs.Ty.{Row, ε, cell}
use Rattle.unification.specs.Bindings.{Subst, bound, Undo, Binding, Annotation, State}
use Rattle.unification.specs.Acyclic.{Acyclic}
use Rattle.work.specs.Layout.{TYPE-COUNT, TYPES, FIELDS, RECORD-COUNT, RECORD-FIELD-COUNT, UNKNOWNS, TYS, UNDO, UNDO-LEN, END}
use Rattle.cells.specs.declared.Ty.{Ty}
use Rattle.cells.specs.declared.Ty.TheVariants.{Int, Str, Bytes, Fact, Record, Union, Var, Error}
use Rattle.cells.specs.declared.Kind.{Kind}
use Rattle.cells.specs.declared.Kind.TheVariants.{Fields, Alternatives}
use Rattle.cells.specs.Words.{pick, count_w, first_w, part_w, slot_w, bound_w}

-- The rows of the cells, by number.
abbrev pub Rows : Type 0
Rows = ℕ → Row

-- The tree that a type in hand stands for.
abbrev pub tree : Rows → Ty → Tree.Ty
tree T Int = Tree.leaf Tree.Int
tree T Str = Tree.leaf Tree.String
tree T Bytes = Tree.leaf Tree.Bytes
tree T (Fact p) = Tree.leaf (Tree.Fact p)
tree T (Record c) = Tree.node Tree.Record (T c)
tree T (Union c) = Tree.node Tree.Union (T c)
tree T (Var x) = Tree.Var x
tree T Error = Tree.Error

abbrev pub kind_tree : Kind → Tree.Kind
kind_tree Fields = Tree.Record
kind_tree Alternatives = Tree.Union

abbrev pub bound_tree : Rows → Option Ty → Option Tree.Ty
bound_tree T None = None
bound_tree T (Some t) = Some (tree T t)

-- n parts of a cell from number j on
unfoldable pub row_from : Rows → List ℕ → Kind → ℕ → ℕ → ℕ → Row
row_from T w k c j zero = ε
row_from T w k c j (suc n) = cell (part_w w k c j).key (part_w w k c j).label (tree T (part_w w k c j).ty) (row_from T w k c (j + 1) n)

unfoldable pub row_w : Rows → List ℕ → Kind → ℕ → Row
unfolding row_from count_w
row_w T w k c = row_from T w k c 0 (count_w w c)

-- the tag of a schema type that has parts
abbrev pub tag_of : Kind → ℕ
tag_of Fields = 5
tag_of Alternatives = 6

-- There is such a cell: a schema type of this tag, or an inferred record.
pub data IsCell (w : List ℕ) : Kind → ℕ → Type 0 where
  declared : {k : Kind} {c : ℕ} → c < 256 → c < get_or w TYPE-COUNT 0 → get_or w (TYPES + 2 * c) 0 % 16 ≡ tag_of k → IsCell w k c
  made : {c : ℕ} → 256 ≤ c → c - 256 < get_or w RECORD-COUNT 0 → IsCell w Fields c

-- What a type in hand names exists.
abbrev pub Ok : List ℕ → Ty → Type 0
Ok w Int = Unit {0}
Ok w Str = Unit {0}
Ok w Bytes = Unit {0}
Ok w (Fact p) = Unit {0}
Ok w (Record c) = IsCell w Fields c
Ok w (Union c) = IsCell w Alternatives c
Ok w (Var x) = x < get_or w UNKNOWNS 0
Ok w Error = Unit {0}

abbrev pub OkBound : List ℕ → Option Ty → Type 0
OkBound w None = Unit {0}
OkBound w (Some t) = Ok w t

-- the words of a part of a schema type
abbrev pub part_words : Kind → ℕ
part_words Fields = 1
part_words Alternatives = 2

-- T is the rows of all cells: each is what its words say, over T itself. The words of each stand in their region.
pub record Cells (w : List ℕ) (T : Rows) : Type 0 where
  pub row : (k : Kind) (c : ℕ) → IsCell w k c → T c ≡ row_w T w k c
  pub ok : (k : Kind) (c j : ℕ) → IsCell w k c → j < count_w w c → Ok w (part_w w k c j).ty
  pub declared_fits : (k : Kind) (c : ℕ) → IsCell w k c → c < 256 → FIELDS + (first_w w c + part_words k * count_w w c) ≤ RECORD-COUNT
  pub made_fits : (c : ℕ) → IsCell w Fields c → 256 ≤ c → first_w w c + count_w w c ≤ get_or w RECORD-FIELD-COUNT 0
  pub few_records : get_or w RECORD-COUNT 0 ≤ 512
  pub few_fields : get_or w RECORD-FIELD-COUNT 0 ≤ 512

pub record Binds (w : List ℕ) (T : Rows) (s : Subst) : Type 0 where
  pub unknowns : length s ≡ get_or w UNKNOWNS 0
  pub at : (x : ℕ) → bound s x ≡ bound_tree T (bound_w w x)
  pub ok : (x : ℕ) → OkBound w (bound_w w x)

pub record Types (w : List ℕ) (T : Rows) (tys : List (Option Tree.Ty)) : Type 0 where
  pub at : (n : ℕ) → n < length tys → get_or tys n None ≡ bound_tree T (slot_w w (TYS + 2 * n))
  pub ok : (n : ℕ) → n < length tys → OkBound w (slot_w w (TYS + 2 * n))

-- ---- The undo log

-- What stood there before is always none.
unfoldable pub entry_of : ℕ → Undo
entry_of e = pick (ltb e 65536) (Binding e None) (Annotation (e - 65536) None)

-- newest first
unfoldable pub undo_of : List ℕ → ℕ → List Undo
unfolding entry_of
undo_of w zero = []
undo_of w (suc n) = entry_of (get_or w (UNDO + n) 0) ∷ undo_of w n

-- The log holds each slot that is set, once: taking it back whole frees all. So it is no longer than there are slots.
pub data Logged : List Undo → Subst → List (Option Tree.Ty) → Type 0 where
  none_set : {s : Subst} {tys : List (Option Tree.Ty)} → ((x : ℕ) → get_or s x None ≡ None) → ((n : ℕ) → get_or tys n None ≡ None) → Logged [] s tys
  binding : {us : List Undo} {s : Subst} {tys : List (Option Tree.Ty)} (x : ℕ) (t : Tree.Ty) → get_or s x None ≡ Some t
      → Logged us (set s x None) tys → Logged (Binding x None ∷ us) s tys
  annotation : {us : List Undo} {s : Subst} {tys : List (Option Tree.Ty)} (n : ℕ) (t : Tree.Ty) → get_or tys n None ≡ Some t
      → Logged us s (set tys n None) → Logged (Annotation n None ∷ us) s tys

-- ---- The state

pub record Holds (w : List ℕ) (T : Rows) (st : State) : Type 0 where
  pub long : END ≤ length w
  pub cells : Cells w T
  pub binds : Binds w T st.subst
  pub types : Types w T st.tys
  pub undo : st.undo ≡ undo_of w (get_or w UNDO-LEN 0)
  pub logged : Logged st.undo st.subst st.tys
  pub acyclic : Acyclic st.subst
  pub few_unknowns : length st.subst ≤ 512
  pub few_nodes : length st.tys ≤ 512

-- All words but those from `a` up to `e` are as they were.
pub record Keeps (a e : ℕ) (w w' : List ℕ) : Type 0 where
  pub below : (i : ℕ) → i < a → get_or w' i 0 ≡ get_or w i 0
  pub above : (i : ℕ) → e ≤ i → get_or w' i 0 ≡ get_or w i 0
  pub long : length w' ≡ length w
