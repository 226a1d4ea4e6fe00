-- After `sigla_begin` the words are where a list of the code's calls begins: what it wrote are the four zeros that the
-- start asks for, and the schema types stand below them.
use mathlib.Core.List.{List, []}
use mathlib.Core.Path.{◌≡◌, ◌∙◌}
use Prim.Native.Nat.{ℕ, ◌+◌, ◌*◌, ◌<◌, ◌≤◌}
use native.Mathlib.Omega.{arith}
use lib.ListN.{length, get_or, set, length-set}
use lib.Seq.{get_or-set_same, get_or-set_other}
use Rattle.unification.specs.Ty as Tree
use Rattle.unification.specs.Bindings.{start}
use Rattle.unification.specs.Calls as Calls
use Rattle.work.specs.Layout.{TYPE-COUNT, NODE-COUNT, QUERY, TYPES, NODES, RECORD-COUNT, RECORD-FIELD-COUNT, UNKNOWNS, UNDO-LEN, END}
use Rattle.cells.specs.declared.Kind.{Kind}
use Rattle.cells.specs.Words.{declared_w}
use Rattle.cells.specs.Stands.{Rows, IsCell, declared, made, Cells, Keeps}
use Rattle.cells.specs.CodeCalls.{Declares, CodeCalls, none_yet}
use Rattle.cells.proofs.Frame.{keeps_trans, keeps_set}
use Rattle.cells.proofs.Starting.{start_holds}
use Rattle.cells.proofs.CodeCalls.{declared_permitted}
use Rattle.calls.specs.Beginning.{begun_w}

-- The schema's words are as they were; those of nodes and of a query may be others.
pub declares_kept : {w w' : List ℕ} {T : Rows} {types : List Tree.Ty}
    → ((i : ℕ) → i < NODES → (i ≡ NODE-COUNT → ⊥) → (i ≡ QUERY → ⊥) → get_or w' i 0 ≡ get_or w i 0)
    → length types ≤ 256 → Declares w T types → Declares w' T types
unfolding declared_w
declares_kept {w} {w'} {T} {types} same few D = record {
  count = same TYPE-COUNT (omega arith) (λ e. omega arith) (λ e. omega arith) ∙ D.count;
  type = λ t lt. rw (word t lt, payload t lt) (D.type t lt);
  declared = D.declared;
}
  where
    word : (t : ℕ) → t < length types → get_or w' (TYPES + 2 * t) 0 ≡ get_or w (TYPES + 2 * t) 0
    word t lt = same (TYPES + 2 * t) (omega arith) (λ e. omega arith) (λ e. omega arith)

    payload : (t : ℕ) → t < length types → get_or w' (TYPES + 2 * t + 1) 0 ≡ get_or w (TYPES + 2 * t + 1) 0
    payload t lt = same (TYPES + 2 * t + 1) (omega arith) (λ e. omega arith) (λ e. omega arith)

module _ (w : List ℕ) (long : END ≤ length w) where
  abbrev a : List ℕ
  a = set w RECORD-COUNT 0

  abbrev b : List ℕ
  b = set a RECORD-FIELD-COUNT 0

  abbrev c : List ℕ
  c = set b UNKNOWNS 0

  size : (length a ≡ length w) × (length b ≡ length w) × (length c ≡ length w)
  size =
      let p = length-set w RECORD-COUNT 0 in
      let q = length-set a RECORD-FIELD-COUNT 0 ∙ p in
      (p, q, length-set b UNKNOWNS 0 ∙ q)

  pub begun_keeps : Keeps RECORD-COUNT END w (begun_w w)
  unfolding begun_w
  begun_keeps =
      keeps_trans
      (keeps_trans (keeps_trans (keeps_set w RECORD-COUNT 0 (omega arith) (omega arith)) (keeps_set a RECORD-FIELD-COUNT 0 (omega arith) (omega arith)))
      (keeps_set b UNKNOWNS 0 (omega arith) (omega arith)))
      (keeps_set c UNDO-LEN 0 (omega arith) (omega arith))

  pub begun_records : get_or (begun_w w) RECORD-COUNT 0 ≡ 0
  unfolding begun_w
  begun_records =
      get_or-set_other c UNDO-LEN RECORD-COUNT 0 0 (λ q. omega arith) ∙ get_or-set_other b UNKNOWNS RECORD-COUNT 0 0 (λ q. omega arith)
      ∙ get_or-set_other a RECORD-FIELD-COUNT RECORD-COUNT 0 0 (λ q. omega arith) ∙ get_or-set_same w RECORD-COUNT 0 0 (omega arith)

  pub begun_fields : get_or (begun_w w) RECORD-FIELD-COUNT 0 ≡ 0
  unfolding begun_w
  begun_fields =
      get_or-set_other c UNDO-LEN RECORD-FIELD-COUNT 0 0 (λ q. omega arith) ∙ get_or-set_other b UNKNOWNS RECORD-FIELD-COUNT 0 0 (λ q. omega arith)
      ∙ get_or-set_same a RECORD-FIELD-COUNT 0 0 (omega (arith, size.0))

  begun_unknowns : get_or (begun_w w) UNKNOWNS 0 ≡ 0
  unfolding begun_w
  begun_unknowns = get_or-set_other c UNDO-LEN UNKNOWNS 0 0 (λ q. omega arith) ∙ get_or-set_same b UNKNOWNS 0 0 (omega (arith, size.1))

  begun_undo : get_or (begun_w w) UNDO-LEN 0 ≡ 0
  unfolding begun_w
  begun_undo = get_or-set_same c UNDO-LEN 0 0 (omega (arith, size.2))

  -- From words whose schema types a reading declares.
  pub list_begins : {T : Rows} {types : List Tree.Ty} → Declares w T types → length types ≤ 256 → Cells (begun_w w) T
      → (v : ℕ) → CodeCalls v 0 (begun_w w) T v [] (Calls.begin v [])
  unfolding Calls.begin
  list_begins D few C v =
      none_yet
      (start_holds 0 v start (omega (arith, begun_keeps.long)) (omega arith) C begun_unknowns begun_undo (λ i lt. absurd (omega arith)))
      (declared_permitted (declares_kept (λ i lt m n. begun_keeps.below i (omega arith)) few D) begun_records)

  -- From words without a schema type.
  pub bare_begins : (T : Rows) → get_or w TYPE-COUNT 0 ≡ 0 → (v : ℕ) → CodeCalls v 0 (begun_w w) T v [] (Calls.begin v [])
  bare_begins T bare v = list_begins {types = []} bare_declares (omega arith) (record {
    row = λ k c i. absurd (none k c i);
    ok = λ k c j i lt. absurd (none k c i);
    declared_fits = λ k c i lt. absurd (none k c i);
    made_fits = λ c i le. absurd (none _ c i);
    few_records = omega (arith, begun_records);
    few_fields = omega (arith, begun_fields);
  }) v
    where
      bare_declares : Declares w T []
      bare_declares = record { count = bare; type = λ t lt. absurd (omega arith); declared = λ t lt. absurd (omega arith) }

      none : (k : Kind) (c : ℕ) → ¬ IsCell (begun_w w) k c
      none k c (declared few lt tag) = omega (arith, begun_keeps.below TYPE-COUNT (omega arith))
      none k c (made lo hi) = omega (arith, begun_records)
