-- To show a type is to show the one at the end of its chain, where chains are followed: at once, or a cell between braces, part by part.
use mathlib.Core.Bool.{Bool, true, false}
use mathlib.Core.List.{List, [], ◌∷◌, ◌++◌, append_assoc, append-nil}
use mathlib.Core.Path.{◌≡◌, refl, sym, ap, ◌∙◌}
use Prim.Native.Nat.{ℕ, ◌+◌, ◌≤◌, ◌<◌}
use native.Mathlib.Omega.{arith}
use lib.Dec.{ltb}
use lib.ListN.{length}
use borrow.Author.Tests.{ltb-true, ltb-false, lt-ltb, le-ltb}
use Rattle.unification.specs.Ty as Tree
use Rattle.unification.specs.Ty.{Row, ε, cell, app_row}
use Rattle.unification.specs.Bindings.{Subst, zonk}
use Rattle.unification.proofs.Chain.{repr_resolved}
use Rattle.unification.proofs.Zonk.{zonk_repr, zonk_leaf, zonk_error, zonk_node, zonk_unbound, zonk_replaces}
use Rattle.cells.specs.declared.Ty.{Ty}
use Rattle.cells.specs.declared.Kind.{Kind}
use Rattle.cells.specs.declared.Kind.TheVariants.{Fields, Alternatives}
use Rattle.cells.specs.declared.Part.{Part}
use Rattle.cells.specs.Words.{count_w, part_w}
use Rattle.cells.specs.Stands.{Rows, tree, kind_tree, IsCell, Ok}
use Rattle.cells.specs.Promises.{Reprs}
use Rattle.cells.proofs.Parts.{rest, rest_whole, rest_cell, rest_none, cell_ty, cell_ok, part_ok}
use Rattle.format.specs.Bytes.{ascii}
use Rattle.meaning.specs.Messages.{decimal, render, render_row, separator, part}
use Rattle.writer.specs.Writes.{Writes, WritesText, hex_of}
use Rattle.writer.proofs.Writing.{writes_to}
use Rattle.messages.specs.Shown.{Sight, Seen, Shows, NothingNeeded, shown, shown_row, render_text, cell_text, before_text, parted_by, after_text}
use Rattle.messages.specs.Shown.{name_text, discriminant_text, Ended, Looks}
use Rattle.messages.specs.declared.shown.Bindings.{Bindings}
use Rattle.messages.specs.declared.shown.Bindings.TheVariants.{Ignored, Followed}
use Rattle.messages.proofs.Showing.{shows_as, shows_where, shows_text, shows_writes, shows_then, shows_full, text_then, text_full, Showing, showing_start}
use Rattle.messages.proofs.Showing.{showing_next}
use Rattle.messages.proofs.Showing.{showing_full, showing_last}
use Rattle.std.specs.Prelude.{None, Option, Some}

-- ---- The end of a chain

pub look_follows : {w : List ℕ} {t u : Ty} → Reprs w t u → Looks w t Followed u
look_follows {w} {t} {u} rep = record {
  is = λ T s B A. sym (ap (zonk s) (rep.is T s B) ∙ zonk_repr s A (tree T t));
  ok = rep.ok;
  end = λ T s B A. rw (← rep.is T s B) at (repr_resolved s A (tree T t));
}

-- ---- A type without parts

pub leaf_shown : (b : Bindings) (s : Subst) (p : Tree.Leaf) → shown b s (Tree.leaf p) ≡ Tree.leaf p
leaf_shown Followed s p = zonk_leaf s p
leaf_shown Ignored s p = refl

pub var_shown : (b : Bindings) (s : Subst) (x : ℕ) → Ended b s (Tree.Var x) → shown b s (Tree.Var x) ≡ Tree.Var x
var_shown Followed s x e = zonk_unbound s x e
var_shown Ignored s x e = refl

pub error_shown : (b : Bindings) (s : Subst) → shown b s Tree.Error ≡ Tree.Error
error_shown Followed s = zonk_error s
error_shown Ignored s = refl

-- ---- A type is shown by the end of its chain

shown_cell : (b : Bindings) (s : Subst) (T : Rows) (k : Kind) (c : ℕ) → shown b s (tree T (cell_ty k c)) ≡ Tree.node (kind_tree k) (shown_row b s (T c))
shown_cell Followed s T Fields c = zonk_node s Tree.Record (T c)
shown_cell Followed s T Alternatives c = zonk_node s Tree.Union (T c)
shown_cell Ignored s T Fields c = refl
shown_cell Ignored s T Alternatives c = refl

shown_as : {f w : List ℕ} {t : Ty} {b : Bindings} {u : Ty} → Looks w t b u → (v : Sight) → Seen f w v → (x : Tree.Ty) → shown b v.subst (tree v.rows u) ≡ x
    → render v.names v.schema x ≡ render_text b t v
shown_as L v S x e = ap (render v.names v.schema) (sym (L.is v.rows v.subst S.binds S.acyclic ∙ e))

module _ {f w out : List ℕ} {at : ℕ} {t : Ty} {b : Bindings} {out' : List ℕ} {r : Option ℕ} where
  pub render_as : {u : Ty} → Looks w t b u → ((v : Sight) → Ended b v.subst (tree v.rows u) → shown b v.subst (tree v.rows u) ≡ tree v.rows u)
      → Shows f w out at (Ok w t) (render_text Ignored u) out' r → Shows f w out at (Ok w t) (render_text b t) out' r
  render_as {u} L e g = shows_as (λ v S o. shown_as L v S (tree v.rows u) (e v (L.end v.rows v.subst S.binds S.acyclic))) g

  pub render_cell : (k : Kind) (c : ℕ) → Looks w t b (cell_ty k c) → Shows f w out at (IsCell w k c) (cell_text b k c) out' r
      → Shows f w out at (Ok w t) (render_text b t) out' r
  render_cell k c L g =
      shows_as (λ v S o. shown_as L v S (Tree.node (kind_tree k) (shown_row b v.subst (v.rows c))) (shown_cell b v.subst v.rows k c))
      (shows_where (λ v S o. cell_ok w k c (L.ok v.rows v.subst S.binds o)) g)

-- ---- The parts of a cell

shown_cons : (b : Bindings) (s : Subst) (key label : ℕ) (t : Tree.Ty) (r : Row)
    → shown_row b s (cell key label t r) ≡ cell key label (shown b s t) (shown_row b s r)
unfolding app_row
shown_cons Followed s key label t r = rw (zonk_replaces s t)
shown_cons Ignored s key label t r = refl

shown_nil : (b : Bindings) (s : Subst) → shown_row b s ε ≡ ε
unfolding app_row
shown_nil Followed s = refl
shown_nil Ignored s = refl

-- the rest of the parts, from number j on, and the brace
abbrev row_text : Bindings → Kind → Row → Sight → List ℕ
row_text b k r v = render_row v.names v.schema (shown_row b v.subst r) (kind_tree k) ++ 125 ∷ []

in_record : (n e t p r z : List ℕ) → ((n ++ (e ++ t)) ++ (p ++ r)) ++ z ≡ (n ++ e) ++ (t ++ (p ++ (r ++ z)))
in_record n e t p r z = simp append_assoc

in_union : (n e t q d p r z : List ℕ) → ((n ++ (e ++ (t ++ (q ++ d)))) ++ (p ++ r)) ++ z ≡ (n ++ e) ++ (t ++ ((q ++ (d ++ p)) ++ (r ++ z)))
in_union n e t q d p r z = simp append_assoc

one_part : (b : Bindings) (k : Kind) (v : Sight) (key label : ℕ) (t : Tree.Ty) (r : Row) (m : Bool)
    → separator v.names v.schema (kind_tree k) (shown_row b v.subst r) ≡ parted_by k m
    → row_text b k (cell key label t r) v
    ≡ before_text k key label v ++ (render v.names v.schema (shown b v.subst t) ++ (after_text k key m ++ row_text b k r v))
unfolding render_row part
one_part b Fields v key label t r m e = rw (shown_cons b v.subst key label t r, e)
    (in_record (name_text key v) (ascii " = ") (render v.names v.schema (shown b v.subst t)) (parted_by Fields m)
    (render_row v.names v.schema (shown_row b v.subst r) Tree.Record) (125 ∷ []))
one_part b Alternatives v key label t r m e = rw (shown_cons b v.subst key label t r, e)
    (in_union (name_text label v) (ascii " : ") (render v.names v.schema (shown b v.subst t)) (ascii " = ") (decimal key) (parted_by Alternatives m)
    (render_row v.names v.schema (shown_row b v.subst r) Tree.Union) (125 ∷ []))

parted_some : (b : Bindings) (k : Kind) (v : Sight) (key label : ℕ) (t : Tree.Ty) (r : Row)
    → separator v.names v.schema (kind_tree k) (shown_row b v.subst (cell key label t r)) ≡ parted_by k true
unfolding separator
parted_some b Fields v key label t r = rw (shown_cons b v.subst key label t r)
parted_some b Alternatives v key label t r = rw (shown_cons b v.subst key label t r)

parted_none : (b : Bindings) (k : Kind) (v : Sight) → separator v.names v.schema (kind_tree k) (shown_row b v.subst ε) ≡ parted_by k false
unfolding separator
parted_none b Fields v = rw (shown_nil b v.subst)
parted_none b Alternatives v = rw (shown_nil b v.subst)

-- What stands after a type: the discriminant, and what parts it from the next part.
after_is : (k : Kind) (key : ℕ) (m : Bool) → discriminant_text k key ++ parted_by k m ≡ after_text k key m
after_is Fields key m = refl
after_is Alternatives key m = append_assoc (ascii " = ") (decimal key) (parted_by Alternatives m)

not_parted : (k : Kind) → parted_by k false ≡ []
not_parted Fields = refl
not_parted Alternatives = refl

module _ (k : Kind) (key : ℕ) {out : List ℕ} {at : ℕ} {mid : List ℕ} {r : Option ℕ} (g : WritesText out at (discriminant_text k key) mid r) where
  pub after_cut : (m : Bool) → r ≡ None → WritesText out at (after_text k key m) mid None
  after_cut m e = rw (after_is k key m) at (text_full g e (parted_by k m))

  pub after_parted : {n : ℕ} → r ≡ Some n → (i c : ℕ) → i < c → {out' : List ℕ} {r' : Option ℕ} → WritesText mid n (parted_by k true) out' r'
      → WritesText out at (after_text k key (ltb i c)) out' r'
  after_parted e i c l h = rw (lt-ltb i c l, ← after_is k key true) (text_then g e h)

  pub after_last : (i c : ℕ) → c ≤ i → WritesText out at (after_text k key (ltb i c)) mid r
  after_last i c l = rw (le-ltb i c l, ← after_is k key false, not_parted k, append-nil (discriminant_text k key)) g

-- What is written after the opening brace, as far as number j.
pub record Celling (f w out₀ : List ℕ) (at : ℕ) (b : Bindings) (k : Kind) (c n : ℕ) (out : List ℕ) (j to : ℕ) : Type 0 where
  pub within : j ≤ n
  pub all : n ≡ count_w w c
  pub showing : Showing f w out₀ at (IsCell w k c) (λ v. row_text b k (v.rows c) v) out to (λ v. row_text b k (rest v.rows w k c n j) v)

pub cell_start : (f w out : List ℕ) (at : ℕ) (b : Bindings) (k : Kind) (c n : ℕ) → n ≡ count_w w c → Celling f w out at b k c n out 0 at
cell_start f w out at b k c n e = record {
  within = omega arith;
  all = e;
  showing = showing_start _ _ (λ v S o. ap (λ (x : Row). row_text b k x v) (sym (rest_whole v.rows w k c n e S.cells o)));
}

module _ {f w out₀ : List ℕ} {at : ℕ} {b : Bindings} {k : Kind} {c n : ℕ} {out : List ℕ} {j to : ℕ} (g : Celling f w out₀ at b k c n out j to) where
  module _ (p : Part) (l : j < n) (e : p ≡ part_w w k c j) {mid : List ℕ} {x : Option ℕ}
      (before : Shows f w out to NothingNeeded (before_text k p.key p.label) mid x) where
    parted : (v : Sight) → separator v.names v.schema (kind_tree k) (shown_row b v.subst (rest v.rows w k c n (j + 1))) ≡ parted_by k (ltb (j + 1) n)
    parted v = go (ltb (j + 1) n) refl
      where
        go : (m : Bool) → ltb (j + 1) n ≡ m → separator v.names v.schema (kind_tree k) (shown_row b v.subst (rest v.rows w k c n (j + 1))) ≡
            parted_by k m
        go true q = rw (rest_cell v.rows w k c n (j + 1) (part_w w k c (j + 1)) (ltb-true (j + 1) n q) refl) (parted_some b k v _ _ _ _)
        go false q = rw (rest_none v.rows w k c n (j + 1) (ltb-false (j + 1) n q)) (parted_none b k v)

    abbrev behind : Sight → List ℕ
    behind v = after_text k p.key (ltb (j + 1) n) ++ row_text b k (rest v.rows w k c n (j + 1)) v

    split : (v : Sight) → row_text b k (rest v.rows w k c n j) v ≡ before_text k p.key p.label v ++ (render_text b p.ty v ++ behind v)
    split v = ap (λ (r : Row). row_text b k r v) (rest_cell v.rows w k c n j p l e) ∙ one_part b k v p.key p.label (tree v.rows p.ty)
        (rest v.rows w k c n (j + 1)) (ltb (j + 1) n) (parted v)

    pub before_full : x ≡ None → Shows f w out₀ at (IsCell w k c) (λ v. row_text b k (v.rows c) v) mid None
    before_full q = showing_full g.showing (shows_where (λ v S o. tt) before) (λ v. render_text b p.ty v ++ behind v) (λ v S o. split v) q

    module _ {m : ℕ} (q : x ≡ Some m) {mid₂ : List ℕ} {y : Option ℕ} (shown : Shows f w mid m (Ok w p.ty) (render_text b p.ty) mid₂ y) where
      typed : Shows f w mid m (IsCell w k c) (render_text b p.ty) mid₂ y
      typed = shows_where (λ v S o. part_ok S.cells k c n j p g.all o l e) shown

      to_type : Showing f w out₀ at (IsCell w k c) (λ v. row_text b k (v.rows c) v) mid m (λ v. render_text b p.ty v ++ behind v)
      to_type = showing_next g.showing (shows_where (λ v S o. tt) before) (λ v. render_text b p.ty v ++ behind v) (λ v S o. split v) q

      pub type_full : y ≡ None → Shows f w out₀ at (IsCell w k c) (λ v. row_text b k (v.rows c) v) mid₂ None
      type_full z = showing_full to_type typed behind (λ v S o. refl) z

      module _ {i : ℕ} (z : y ≡ Some i) {out' : List ℕ} {r : Option ℕ} (after : WritesText mid₂ i (after_text k p.key (ltb (j + 1) n)) out' r) where
        to_after : Showing f w out₀ at (IsCell w k c) (λ v. row_text b k (v.rows c) v) mid₂ i behind
        to_after = showing_next to_type typed behind (λ v S o. refl) z

        pub after_full : r ≡ None → Shows f w out₀ at (IsCell w k c) (λ v. row_text b k (v.rows c) v) out' None
        after_full u = showing_full to_after (shows_text after) (λ v. row_text b k (rest v.rows w k c n (j + 1)) v) (λ v S o. refl) u

        pub part_next : {h : ℕ} → r ≡ Some h → Celling f w out₀ at b k c n out' (j + 1) h
        part_next u = record {
          within = omega arith;
          all = g.all;
          showing = showing_next to_after (shows_text after) (λ v. row_text b k (rest v.rows w k c n (j + 1)) v) (λ v S o. refl) u;
        }

  pub parts_done : n ≤ j → {out' : List ℕ} {r : Option ℕ} → Writes out to (hex_of (125 ∷ [])) out' r
      → Shows f w out₀ at (IsCell w k c) (λ v. row_text b k (v.rows c) v) out' r
  unfolding render_row
  parts_done l h = showing_last g.showing (shows_as (λ v S o. sym (rw (rest_none v.rows w k c n j l, shown_nil b v.subst))) (shows_writes h))

-- ---- The whole cell

-- Where the parts start there is less room.
pub brace_moves : {out : List ℕ} {at : ℕ} {mid : List ℕ} {h : Option ℕ} {n : ℕ} → Writes out at (hex_of (123 ∷ [])) mid h → h ≡ Some n → (at < n)
    × (n ≤ length out)
unfolding hex_of
brace_moves f e = let g = writes_to f e in (omega (arith, g.0), g.1)

module _ (b : Bindings) (k : Kind) (c : ℕ) {f w out : List ℕ} {at : ℕ} {mid : List ℕ} {h : Option ℕ} (brace : Writes out at (hex_of (123 ∷ [])) mid h) where
  pub brace_full : h ≡ None → Shows f w out at (IsCell w k c) (cell_text b k c) mid None
  unfolding render ascii
  brace_full e = shows_as (λ v S o. refl) (shows_full (shows_writes brace) e (λ v. row_text b k (v.rows c) v))

  pub brace_then : {n : ℕ} → h ≡ Some n → {out' : List ℕ} {r : Option ℕ} → Shows f w mid n (IsCell w k c) (λ v. row_text b k (v.rows c) v) out' r
      → Shows f w out at (IsCell w k c) (cell_text b k c) out' r
  unfolding render ascii
  brace_then e g = shows_as (λ v S o. refl) (shows_then (shows_writes brace) e g)
