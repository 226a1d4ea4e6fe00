-- Where a written frame names its predicate, told from its kind byte and its shape byte; and the line with two bytes more there, or less.
use mathlib.Core.Bool.{Bool, true, false}
use mathlib.Core.List.{List, [], ◌∷◌, ◌++◌}
use mathlib.Core.Logic.{◌⊎◌, inl, inr, ⊎_elim}
use mathlib.Core.Path.{◌≡◌, refl, sym, ap, subst, ◌∙◌}
use Prim.Native.Nat.{ℕ, ◌+◌, ◌*◌, ◌/◌, ◌%◌, ◌≤◌, ◌<◌}
use native.Mathlib.Omega.{arith}
use lib.Dec.{eqb, leb}
use lib.ListN.{length, get_or, take, drop}
use borrow.Author.Tests.{eqb-true}
use Rattle.std.specs.Prelude.{None, Option, Some, MatchOption, slice_range}
use Rattle.std.proofs.lemmas.Option.{same_Some}
use Rattle.unification.specs.Ty.{Int, String, Bytes, Fact}
use Rattle.format.specs.Syntax.{FieldRef, Literal, ExprKind, Node}
use Rattle.format.specs.Frame.{Edition, narrow, wide, kind_byte, a_leaf, a_record, a_union, Frame, the_limits, a_name, a_type, a_predicate, a_node, the_query}
use Rattle.format.specs.Frame.{frame_kind}
use Rattle.format.specs.Conditions.{any_of}
use Rattle.format.specs.Bytes.{bytes₂, bytes₄}
use Rattle.format.specs.Writing.{as_reference, as_shape, as_expr, as_node, as_content, written, ExprFits, FrameFits}
use Rattle.format.proofs.Tests.{cases}
use Rattle.frames.specs.Promises.{byte_w, half_w, full_w}
use Rattle.frames.proofs.Shapes.{to_end}
use Rattle.editions.specs.Converted.{shape_predicates, expr_predicates, predicates}
use Rattle.editions.proofs.Views.{View, a_type_lem, a_node_lem, plain, view, low_bytes, node_bytes_lem}
use Rattle.convert.proofs.Joining.{converted}
use Rattle.convert.specs.Lines.{other, place_at, place_of, Placed, NamesFrom}

-- ---- The place

-- by the kind byte and the shape byte
abbrev when : Bool → ℕ → Option ℕ
when true n = Some n
when false n = None

abbrev told : ℕ → ℕ → ℕ → Option ℕ
told kind shape below = elim (eqb kind 3) [ true ↦ when (eqb shape 3) 2 | false ↦ elim (eqb kind 5) [ true ↦ when (eqb below 13) 10 | false ↦ None ] ]

node_told : (e : Edition) (k : ExprKind) → when (eqb (get_or (as_expr e k) 0 0) 13) 10 ≡ place_at (expr_predicates k) 10
unfolding as_expr expr_predicates
node_told e (ExprKind.Lit Literal.Int) = refl
node_told e (ExprKind.Lit Literal.Str) = refl
node_told e (ExprKind.Lit Literal.Bytes) = refl
node_told e (ExprKind.Var x) = refl
node_told e ExprKind.Wildcard = refl
node_told e ExprKind.Never = refl
node_told e (ExprKind.Prefix x) = refl
node_told e (ExprKind.Fuzzy x d) = refl
node_told e (ExprKind.Record fs) = refl
node_told e (ExprKind.Access (FieldRef.Key n) x) = refl
node_told e (ExprKind.Access FieldRef.Value x) = refl
node_told e (ExprKind.Disjunction es) = refl
node_told e (ExprKind.Subquery q) = refl
node_told e (ExprKind.Fact p x) = refl
node_told e (ExprKind.Arith es) = refl
node_told e ExprKind.Error = refl
node_told e (ExprKind.Select n x) = refl

place_told : (e : Edition) (g : Frame) → told (byte_w (written e g) 0) (byte_w (written e g) 1) (byte_w (written e g) 9) ≡ place_of g
unfolding written as_content as_shape as_node bytes₂ bytes₄ kind_byte frame_kind place_of
place_told e (the_limits d t) = refl
place_told e (a_name s) = refl
place_told e (a_type (a_leaf Int)) = refl
place_told e (a_type (a_leaf String)) = refl
place_told e (a_type (a_leaf Bytes)) = refl
place_told e (a_type (a_leaf (Fact p))) = refl
place_told e (a_type (a_record fs)) = refl
place_told e (a_type (a_union alts)) = refl
place_told e (a_predicate n k v) = refl
place_told e (a_node n) = node_told e n.kind
place_told e (the_query q) = refl

pub nowhere : (g : Frame) → predicates g ≡ [] → place_of g ≡ None
unfolding predicates place_of
nowhere (the_limits d t) h = refl
nowhere (a_name s) h = refl
nowhere (a_type t) h = ap (λ l. place_at l 2) h
nowhere (a_predicate n k v) h = refl
nowhere (a_node n) h = ap (λ l. place_at l 10) h
nowhere (the_query q) h = refl

node_place : (n : Node) (p x : ℕ) → n.kind ≡ ExprKind.Fact p x → place_of (a_node n) ≡ Some 10
unfolding place_of
node_place n p x q = ap (λ k. place_at (expr_predicates k) 10) q

type_place : (p : ℕ) → place_of (a_type (a_leaf (Fact p))) ≡ Some 2
unfolding place_of
type_place p = refl

-- What names a predicate does so at its place.
data Names : Frame → ℕ → Type 0 where
  in_type : (p : ℕ) → Names (a_type (a_leaf (Fact p))) 2
  in_node : (n : Node) (p x : ℕ) → n.kind ≡ ExprKind.Fact p x → Names (a_node n) 10

names : (g : Frame) {i : ℕ} → Some i ≡ place_of g → Names g i
names g {i} h = go g (view g) h
  where
    go : (g : Frame) → View g → Some i ≡ place_of g → Names g i
    go g (a_type_lem p) h = subst (Names (a_type (a_leaf (Fact p)))) (same_Some 2 i (sym (h ∙ type_place p))) (in_type p)
    go g (a_node_lem n p x q) h = subst (Names (a_node n)) (same_Some 10 i (sym (h ∙ node_place n p x q))) (in_node n p x q)
    go g (plain y) h = cc (h, nowhere g y.none)

-- A line that names one is long enough.
place_long : (e : Edition) (g : Frame) {i : ℕ} → Names g i → i + 2 ≤ length (written e g)
unfolding written as_content as_shape as_reference bytes₂ bytes₄
place_long narrow g (in_type p) = omega arith
place_long wide g (in_type p) = omega arith
place_long narrow g (in_node n p x q) = subst (λ s. 12 ≤ length s) (sym (node_bytes_lem narrow n p x q)) (omega arith)
place_long wide g (in_node n p x q) = subst (λ s. 12 ≤ length s) (sym (node_bytes_lem wide n p x q)) (omega arith)

-- ---- The code's answers

-- the bytes say a place: they are a type's or a node's
told_some : (kind shape below : ℕ) {i : ℕ} → told kind shape below ≡ Some i
    → ((kind ≡ 3) × (shape ≡ 3) × (i ≡ 2)) ⊎ ((kind ≡ 5) × (below ≡ 13) × (i ≡ 10))
told_some kind shape below {i} e = first (eqb kind 3) refl e
  where
    at : {n : ℕ} (b : Bool) → when b n ≡ Some i → (b ≡ true) × (i ≡ n)
    at true q = (refl, sym (same_Some _ _ q))
    at false q = cc

    second : (b : Bool) → eqb kind 5 ≡ b → elim b [ true ↦ when (eqb below 13) 10 | false ↦ None ] ≡ Some i → (kind ≡ 5) × (below ≡ 13) × (i ≡ 10)
    second true k q = let h = at _ q in (eqb-true kind 5 k, eqb-true below 13 h.0, h.1)
    second false k q = cc

    first : (b : Bool) → eqb kind 3 ≡ b
        → elim b [ true ↦ when (eqb shape 3) 2 | false ↦ elim (eqb kind 5) [ true ↦ when (eqb below 13) 10 | false ↦ None ] ] ≡ Some i
        → ((kind ≡ 3) × (shape ≡ 3) × (i ≡ 2)) ⊎ ((kind ≡ 5) × (below ≡ 13) × (i ≡ 10))
    first true k q = let h = at _ q in inl (eqb-true kind 3 k, eqb-true shape 3 h.0, h.1)
    first false k q = inr (second (eqb kind 5) refl q)

module _ (s : List ℕ) where
  told_by : (e : Edition) (g : Frame) → s ≡ written e g → told (byte_w s 0) (byte_w s 1) (byte_w s 9) ≡ place_of g
  told_by e g w = rw w (place_told e g)

  pub place_type : byte_w s 0 ≡ 3 → byte_w s 1 ≡ 3 → 4 ≤ length s → Placed s (Some 2)
  place_type k h l = record { is = λ e g w. rw (k, h) at (told_by e g w); room = l }

  pub place_node : byte_w s 0 ≡ 5 → byte_w s 9 ≡ 13 → 12 ≤ length s → Placed s (Some 10)
  place_node k h l = record { is = λ e g w. rw (k, h) at (told_by e g w); room = l }

  -- what names a predicate is one of the two, and long enough
  pub place_none : (byte_w s 0 ≡ 3 → byte_w s 1 ≡ 3 → length s < 4) → (byte_w s 0 ≡ 5 → byte_w s 9 ≡ 13 → length s < 12) → Placed s None
  place_none t n = record { is = λ e g w. go e g w (place_of g) refl; room = tt }
    where
      go : (e : Edition) (g : Frame) → s ≡ written e g → (o : Option ℕ) → o ≡ place_of g → None ≡ o
      go e g w None q = refl
      go e g w (Some i) q =
          let long : i + 2 ≤ length s = rw w (place_long e g (names g q)) in
          absurd (⊎_elim (λ h. omega (arith, long, h.2, t h.0 h.1)) (λ h. omega (arith, long, h.2, n h.0 h.1))
          (told_some (byte_w s 0) (byte_w s 1) (byte_w s 9) (told_by e g w ∙ sym q)))

-- ---- Two bytes more, two bytes less

put_in : (g : Frame) {i : ℕ} → FrameFits narrow g → Names g i → take i (written narrow g) ++ (0 ∷ 0 ∷ [] ++ drop i (written narrow g)) ≡ written wide g
unfolding written as_content as_shape as_reference bytes₂ bytes₄ kind_byte frame_kind
put_in g h (in_type p) = ap (λ s. 0x03 ∷ 0x03 ∷ s) (sym (low_bytes p h))
put_in g h (in_node n p x q) =
    let k = subst (ExprFits narrow) q h.2 in
    ap (λ s. take 10 s ++ (0 ∷ 0 ∷ [] ++ drop 10 s)) (node_bytes_lem narrow n p x q)
    ∙ ap (λ s. 0x05 ∷ bytes₄ n.span.start ++ bytes₄ n.span.end ++ 0x0d ∷ s ++ bytes₂ x) (sym (low_bytes p k.0))
    ∙ sym (node_bytes_lem wide n p x q)

take_out : (g : Frame) {i : ℕ} → Names g i → take i (written wide g) ++ ([] ++ drop (i + 2) (written wide g)) ≡ written narrow g
unfolding written as_content as_shape as_reference bytes₂ bytes₄ kind_byte frame_kind
take_out g (in_type p) = refl
take_out g (in_node n p x q) = ap (λ s. take 10 s ++ ([] ++ drop 12 s)) (node_bytes_lem wide n p x q) ∙ sym (node_bytes_lem narrow n p x q)

left_alone : (g : Frame) → None ≡ place_of g → written wide g ≡ written narrow g
left_alone g h = go g (view g) h
  where
    go : (g : Frame) → View g → None ≡ place_of g → written wide g ≡ written narrow g
    go g (a_type_lem p) h = cc (h, type_place p)
    go g (a_node_lem n p x q) h = cc (h, node_place n p x q)
    go g (plain y) h = y.same

-- ---- The number that a line names

one_passes : (test : ℕ → Bool) (p : ℕ) → test p ≡ any_of test (p ∷ [])
unfolding any_of
one_passes test p = cases (test p) (λ q. q ∙ sym (rw (q, any_of))) (λ q. q ∙ sym (rw (q, any_of)))

four_bytes : (p : ℕ) → p < 4294967296 → (p / 65536 / 256 % 256 * 256 + p / 65536 % 256) * 65536 + (p / 256 % 256 * 256 + p % 256) ≡ p
four_bytes p h = omega arith

module _ (least : ℕ) where
  number_is : (g : Frame) {i : ℕ} → FrameFits wide g → Names g i → leb least (full_w (written wide g) i) ≡ any_of (leb least) (predicates g)
  unfolding written as_content as_shape as_reference bytes₂ bytes₄ kind_byte frame_kind full_w half_w predicates shape_predicates expr_predicates
  number_is g h (in_type p) = ap (leb least) (four_bytes p h) ∙ one_passes (leb least) p
  number_is g h (in_node n p x q) =
      let k = subst (ExprFits wide) q h.2 in
      ap (λ s. leb least (full_w s 10)) (node_bytes_lem wide n p x q)
      ∙ ap (leb least) (four_bytes p k.0)
      ∙ one_passes (leb least) p
      ∙ ap (λ y. any_of (leb least) (expr_predicates y)) (sym q)

  no_number : (g : Frame) → None ≡ place_of g → false ≡ any_of (leb least) (predicates g)
  unfolding any_of
  no_number g h = go g (view g) h
    where
      go : (g : Frame) → View g → None ≡ place_of g → false ≡ any_of (leb least) (predicates g)
      go g (a_type_lem p) h = cc (h, type_place p)
      go g (a_node_lem n p x q) h = cc (h, node_place n p x q)
      go g (plain y) h = sym (ap (any_of (leb least)) y.none)

-- ---- A line in the other edition

pub same_line : {s : List ℕ} → Placed s None → (e : Edition) (g : Frame) → s ≡ written e g → s ≡ written (other e) g
same_line p narrow g w = w ∙ sym (left_alone g (p.is narrow g w))
same_line p wide g w = w ∙ left_alone g (p.is wide g w)

module _ {s : List ℕ} {i : ℕ} (p : Placed s (Some i)) where
  pub shorter_line : (g : Frame) → s ≡ written wide g → FrameFits narrow g → take i s ++ ([] ++ slice_range s (i + 2) (length s)) ≡ written narrow g
  shorter_line g w f = ap (λ t. take i s ++ ([] ++ t)) (to_end s (i + 2)) ∙ rw w (take_out g (names g (p.is wide g w)))

  pub longer_line : (g : Frame) → s ≡ written narrow g → FrameFits narrow g → take i s ++ (0 ∷ 0 ∷ [] ++ slice_range s i (length s)) ≡ written wide g
  longer_line g w f = ap (λ t. take i s ++ (0 ∷ 0 ∷ [] ++ t)) (to_end s i) ∙ rw w (put_in g f (names g (p.is narrow g w)))

pub named_by : (s : List ℕ) (o : Option ℕ) → Placed s o → (least : ℕ) (r : Bool) → MatchOption o (r ≡ false) (λ i. r ≡ leb least (full_w s i))
    → NamesFrom s least r
named_by s None p least r q = record { is = λ g w f. q ∙ no_number least g (p.is wide g w) }
named_by s (Some i) p least r q = record { is = λ g w f. q ∙ rw w (number_is least g f (names g (p.is wide g w))) }

pub ruleset placing = (place_type, place_node, place_none)

pub ruleset converting = (converted, same_line, shorter_line, longer_line)
