-- Which frames name a predicate by number: a type and a node. All others are written alike in both editions, and their numbers fit alike.
use mathlib.Core.Bool.{false}
use mathlib.Core.List.{[], ◌∷◌, ◌++◌}
use mathlib.Core.Path.{◌≡◌, refl, sym, ap, subst, ◌∙◌}
use Prim.Native.Nat.{ℕ, ◌/◌, ◌%◌, ◌≤◌, ◌<◌}
use native.Mathlib.Omega.{arith}
use lib.Dec.{leb}
use lib.ListN.{length}
use borrow.Author.Tests.{leb-false, lt-leb}
use Rattle.unification.specs.Ty.{Int, String, Bytes, Fact}
use Rattle.format.specs.Syntax.{FieldRef, Literal, ExprKind, Node}
use Rattle.format.specs.Frame.{Edition, narrow, wide, kind_byte, a_leaf, a_record, a_union, Frame, the_limits, a_name, a_type, a_predicate, a_node, the_query}
use Rattle.format.specs.Frame.{frame_kind}
use Rattle.format.specs.Lines.{max_bytes}
use Rattle.format.specs.Conditions.{any_of}
use Rattle.format.specs.Bytes.{bytes₂, bytes₄}
use Rattle.format.specs.Writing.{as_reference, as_shape, as_expr, as_node, as_content, written, ExprFits, FrameFits, Writable}
use Rattle.editions.specs.Converted.{shape_predicates, expr_predicates, predicates, is_above}
use Rattle.format.proofs.Tests.{cases, clash}

pub record Plain (f : Frame) : Type 0 where
  pub same : written wide f ≡ written narrow f
  pub widens : FrameFits narrow f → FrameFits wide f
  pub narrows : FrameFits wide f → FrameFits narrow f
  pub none : predicates f ≡ []

pub data View : Frame → Type 0 where
  a_type_lem : (p : ℕ) → View (a_type (a_leaf (Fact p)))
  a_node_lem : (n : Node) (p x : ℕ) → n.kind ≡ ExprKind.Fact p x → View (a_node n)
  plain : {f : Frame} → Plain f → View f

node_plain : (n : Node) (k : ExprKind) → n.kind ≡ k → as_expr wide k ≡ as_expr narrow k → (ExprFits narrow k → ExprFits wide k)
    → (ExprFits wide k → ExprFits narrow k) → expr_predicates k ≡ [] → View (a_node n)
unfolding written as_content as_node predicates
node_plain n k q same up down none =
    plain {f = a_node n} (record {
      same = ap (λ s. kind_byte (frame_kind (a_node n)) ∷ bytes₄ n.span.start ++ bytes₄ n.span.end ++ s)
          (ap (as_expr wide) q ∙ same ∙ ap (as_expr narrow) (sym q));
      widens = λ h. (h.0, h.1, subst (ExprFits wide) (sym q) (up (subst (ExprFits narrow) q h.2)));
      narrows = λ h. (h.0, h.1, subst (ExprFits narrow) (sym q) (down (subst (ExprFits wide) q h.2)));
      none = ap expr_predicates q ∙ none;
    })

pub view : (f : Frame) → View f
unfolding written as_content as_shape as_expr predicates shape_predicates expr_predicates
view (the_limits d t) = plain (record { same = refl; widens = λ h. h; narrows = λ h. h; none = refl })
view (a_name s) = plain (record { same = refl; widens = λ h. h; narrows = λ h. h; none = refl })
view (a_type (a_leaf Int)) = plain (record { same = refl; widens = λ h. h; narrows = λ h. h; none = refl })
view (a_type (a_leaf String)) = plain (record { same = refl; widens = λ h. h; narrows = λ h. h; none = refl })
view (a_type (a_leaf Bytes)) = plain (record { same = refl; widens = λ h. h; narrows = λ h. h; none = refl })
view (a_type (a_leaf (Fact p))) = a_type_lem p
view (a_type (a_record fs)) = plain (record { same = refl; widens = λ h. h; narrows = λ h. h; none = refl })
view (a_type (a_union alts)) = plain (record { same = refl; widens = λ h. h; narrows = λ h. h; none = refl })
view (a_predicate n k v) = plain (record { same = refl; widens = λ h. h; narrows = λ h. h; none = refl })
view (the_query q) = plain (record { same = refl; widens = λ h. h; narrows = λ h. h; none = refl })
view (a_node n) = go n.kind refl
  where
    go : (k : ExprKind) → n.kind ≡ k → View (a_node n)
    go (ExprKind.Lit Literal.Int) q = node_plain n _ q refl (λ h. h) (λ h. h) refl
    go (ExprKind.Lit Literal.Str) q = node_plain n _ q refl (λ h. h) (λ h. h) refl
    go (ExprKind.Lit Literal.Bytes) q = node_plain n _ q refl (λ h. h) (λ h. h) refl
    go (ExprKind.Var x) q = node_plain n _ q refl (λ h. h) (λ h. h) refl
    go ExprKind.Wildcard q = node_plain n _ q refl (λ h. h) (λ h. h) refl
    go ExprKind.Never q = node_plain n _ q refl (λ h. h) (λ h. h) refl
    go (ExprKind.Prefix x) q = node_plain n _ q refl (λ h. h) (λ h. h) refl
    go (ExprKind.Fuzzy x d) q = node_plain n _ q refl (λ h. h) (λ h. h) refl
    go (ExprKind.Record fs) q = node_plain n _ q refl (λ h. h) (λ h. h) refl
    go (ExprKind.Access (FieldRef.Key x) y) q = node_plain n _ q refl (λ h. h) (λ h. h) refl
    go (ExprKind.Access FieldRef.Value y) q = node_plain n _ q refl (λ h. h) (λ h. h) refl
    go (ExprKind.Disjunction es) q = node_plain n _ q refl (λ h. h) (λ h. h) refl
    go (ExprKind.Subquery x) q = node_plain n _ q refl (λ h. h) (λ h. h) refl
    go (ExprKind.Fact p x) q = a_node_lem n p x q
    go (ExprKind.Arith es) q = node_plain n _ q refl (λ h. h) (λ h. h) refl
    go ExprKind.Error q = node_plain n _ q refl (λ h. h) (λ h. h) refl
    go (ExprKind.Select x y) q = node_plain n _ q refl (λ h. h) (λ h. h) refl

-- ---- A number's bytes

-- the upper half is zero
pub low_bytes : (p : ℕ) → p < 65536 → bytes₄ p ≡ 0 ∷ 0 ∷ bytes₂ p
unfolding bytes₂ bytes₄
low_bytes p h = let a : p / 65536 / 256 % 256 ≡ 0 = omega arith in let b : p / 65536 % 256 ≡ 0 = omega arith in rw (a, b)

-- what a node with a fact is written as
pub node_bytes_lem : (e : Edition) (n : Node) (p x : ℕ) → n.kind ≡ ExprKind.Fact p x
    → written e (a_node n) ≡ 0x05 ∷ bytes₄ n.span.start ++ bytes₄ n.span.end ++ 0x0d ∷ as_reference e p ++ bytes₂ x
unfolding written as_content as_node as_expr kind_byte frame_kind
node_bytes_lem e n p x q = ap (λ k. 0x05 ∷ bytes₄ n.span.start ++ bytes₄ n.span.end ++ as_expr e k) q

-- ---- Writable in the one, writable in the other

pub widen_fits : (f : Frame) → FrameFits narrow f → FrameFits wide f
widen_fits f h = go f (view f) h
  where
    go : (f : Frame) → View f → FrameFits narrow f → FrameFits wide f
    go f (a_type_lem p) h = omega arith
    go f (a_node_lem n p x q) h =
        let k = subst (ExprFits narrow) q h.2 in
        (h.0, h.1, subst (ExprFits wide) (sym q) (omega (arith, k.0), k.1))
    go f (plain y) h = y.widens h

pub widen_writable : (f : Frame) → Writable narrow f → Writable wide f
unfolding written as_content as_shape as_reference bytes₂ bytes₄ max_bytes
widen_writable f w = record { fits = widen_fits f w.fits; short = go f (view f) w.short }
  where
    go : (f : Frame) → View f → length (written narrow f) ≤ max_bytes → length (written wide f) ≤ max_bytes
    go f (a_type_lem p) h = omega arith
    go f (a_node_lem n p x q) h = subst (λ s. length s ≤ max_bytes) (sym (node_bytes_lem wide n p x q)) (omega arith)
    go f (plain y) h = subst (λ s. length s ≤ max_bytes) (sym y.same) h

-- none of its numbers is above
pub narrow_fits : (f : Frame) → FrameFits wide f → any_of is_above (predicates f) ≡ false → FrameFits narrow f
unfolding predicates shape_predicates expr_predicates any_of is_above
narrow_fits f h a = go f (view f) h a
  where
    below : (p : ℕ) → any_of is_above (p ∷ []) ≡ false → p < 65536
    below p a = cases (leb 65536 p) (λ q. clash (sym (rw (q, any_of)) ∙ a)) (λ q. leb-false 65536 p q)

    go : (f : Frame) → View f → FrameFits wide f → any_of is_above (predicates f) ≡ false → FrameFits narrow f
    go f (a_type_lem p) h a = below p a
    go f (a_node_lem n p x q) h a =
        let k = subst (ExprFits wide) q h.2 in
        let b = subst (λ y. any_of is_above (expr_predicates y) ≡ false) q a in
        (h.0, h.1, subst (ExprFits narrow) (sym q) (below p b, k.1))
    go f (plain y) h a = y.narrows h

-- and back: what fits the narrow edition is not above
pub fits_low : (f : Frame) → FrameFits narrow f → any_of is_above (predicates f) ≡ false
unfolding predicates shape_predicates expr_predicates any_of is_above
fits_low f h = go f (view f) h
  where
    low : (p : ℕ) → p < 65536 → any_of is_above (p ∷ []) ≡ false
    low p l = rw (lt-leb 65536 p l, any_of)

    go : (f : Frame) → View f → FrameFits narrow f → any_of is_above (predicates f) ≡ false
    go f (a_type_lem p) h = low p h
    go f (a_node_lem n p x q) h = subst (λ y. any_of is_above (expr_predicates y) ≡ false) (sym q) (low p (subst (ExprFits narrow) q h.2).0)
    go f (plain y) h = ap (any_of is_above) y.none

pub shorter : (f : Frame) → length (written narrow f) ≤ length (written wide f)
unfolding written as_content as_shape as_reference bytes₂ bytes₄
shorter f = go f (view f)
  where
    go : (f : Frame) → View f → length (written narrow f) ≤ length (written wide f)
    go f (a_type_lem p) = omega arith
    go f (a_node_lem n p x q) = subst (λ s. length s ≤ length (written wide (a_node n))) (sym (node_bytes_lem narrow n p x q))
        (subst (λ s. 14 ≤ length s) (sym (node_bytes_lem wide n p x q)) (omega arith))
    go f (plain y) = subst (λ s. length (written narrow f) ≤ length s) (sym y.same) (omega arith)

pub narrow_writable : (f : Frame) → Writable wide f → any_of is_above (predicates f) ≡ false → Writable narrow f
narrow_writable f w a = record { fits = narrow_fits f w.fits a; short = let h = shorter f in omega (arith, h, w.short) }
