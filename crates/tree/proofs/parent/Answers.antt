-- `tree::parent` meets its contract: after the test for node 0 the shape picks the arm as `parent_w` picks, or is a
-- subquery's.
use mathlib.Core.List.{List}
use mathlib.Core.Path.{◌≡◌, refl, ap}
use Prim.Native.Nat.{ℕ, ◌+◌, ◌*◌}
use native.Mathlib.Omega.{arith}
use borrow.Author.Tests.{eq-eqb, ne_eqb}
use Rattle.sigla_hex.specs.Digits.{half_at}
use Rattle.tree.specs.declared.items.Stmts.{Stmts}
use Rattle.tree.specs.declared.Node.{Node}
use Rattle.tree.specs.Nodes.{lower_w, StmtsAre, parent_w, SubqueryIs, ParentIs}
use Rattle.tree.proofs.parent.Goals as goal

pub returns-then-n-eq0 : goal.returns-then-n-eq0
unfolding parent_w
returns-then-n-eq0 c = record { subquery = λ e h. absurd (omega (arith, c.if-n-eq0.true, h)); other = λ z. rw (eq-eqb _ _ c.if-n-eq0.true) refl }

-- Of a shape that is no subquery's.
as_said : {f : List ℕ} {start size shape n : ℕ} {r : Node} → (shape ≡ 12 → ⊥) → r ≡ parent_w f start shape n → ParentIs f start size shape n r
as_said d e = record { subquery = λ x h. absurd (d x); other = λ z. e }

pub returns-in-9 : goal.returns-in-9
unfolding parent_w
returns-in-9 c = as_said (λ e. omega (arith, c.in-9.is, e))
    (rw (c.in-9.is, ne_eqb _ _ c.if-n-eq0.false) (cc (c.hex_half-a.ensures.0, c.hex_half.ensures.0, c.lower-b.ensures)))

pub returns-in-10 : goal.returns-in-10
unfolding parent_w
returns-in-10 c = as_said (λ e. omega (arith, c.in-10.is, e))
    (rw (c.in-10.is, ne_eqb _ _ c.if-n-eq0.false) (cc (c.hex_half-a.ensures.0, c.lower.ensures)))

subquery : {f : List ℕ} {start size n a h : ℕ} {b : Stmts} → a ≡ half_at f (start + 20) → h ≡ lower_w a n → StmtsAre (start + 24) (start + 2 * size) n b
    → SubqueryIs f start size n (Node.Subquery h b)
subquery {b = b} p q s = record { body = b; is = cc; stmts = s }

pub returns-in-12 : goal.returns-in-12
returns-in-12 c = record {
  subquery = λ e h. subquery c.hex_half-a.ensures.0 c.lower-in-12.ensures
      (record { at = refl; end = ap (λ (x : ℕ). c.args.start + 2 * x) c.wide.ensures.0; below = refl });
  other = λ z. absurd (c.if-n-eq0.false (z c.in-12.is));
}

pub returns-in-13 : goal.returns-in-13
unfolding parent_w
returns-in-13 c = as_said (λ e. omega (arith, c.in-13.is, e))
    (rw (c.in-13.is, ne_eqb _ _ c.if-n-eq0.false) (cc (c.hex_full.ensures, c.hex_half-in-13.ensures.0, c.lower-in-13.ensures)))

pub returns-in-16 : goal.returns-in-16
unfolding parent_w
returns-in-16 c = as_said (λ e. omega (arith, c.in-16.is, e))
    (rw (c.in-16.is, ne_eqb _ _ c.if-n-eq0.false) (cc (c.hex_half-a.ensures.0, c.hex_half.ensures.0, c.lower-b.ensures)))

pub returns-in_default : goal.returns-in_default
unfolding parent_w
returns-in_default c =
    let none = c.in_default.in_default-own.rest in
    as_said none.0.0.1
    (rw (ne_eqb _ _ c.if-n-eq0.false, ne_eqb _ 9 none.0.0.0.0.1, ne_eqb _ 10 none.0.0.0.1, ne_eqb _ 13 none.0.1, ne_eqb _ 16 none.1) refl)
