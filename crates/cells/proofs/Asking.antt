-- Questions over the parts of a type, as `occurs` and `orderable` ask them: the answer for the row is the answer for
-- the rest of it with the visits left. A question is put to each part in turn until one ends it.
use mathlib.Core.Bool.{true, false}
use mathlib.Core.List.{List}
use mathlib.Core.Path.{◌≡◌, refl, sym, ◌∙◌, ap}
use native.Mathlib.Omega.{arith}
use Prim.Native.Nat.{ℕ, zero, suc, ◌+◌, ◌-◌, ◌<◌, ◌≤◌}
use borrow.Author.Tests.{eq-eqb, ne_eqb}
use Rattle.unification.specs.Ty as Tree
use Rattle.unification.specs.Ty.{Row, ε, cell, app, app_row}
use Rattle.unification.specs.Bindings as Bindings
use Rattle.unification.specs.Bindings.{Subst, Answer, yes_left, no_left, spent, any_row, occurs_in, Resolved}
use Rattle.unification.specs.Unify as Unify
use Rattle.unification.specs.Acyclic.{Acyclic}
use Rattle.unification.proofs.Chain.{repr_resolved}
use Rattle.unification.proofs.Occurs.{occurs_depth}
use Rattle.unification.proofs.Visits.{occurs_longer, orderable_longer, again, again_stopped}
use Rattle.unification.proofs.Zonk.{zonk_repr, zonk_leaf, zonk_error, zonk_node, zonk_unbound, zonk_replaces}
use Rattle.cells.specs.declared.Ty.{Ty}
use Rattle.cells.specs.declared.Ty.TheVariants.{Int, Str, Bytes, Fact, Record, Union, Var, Error}
use Rattle.cells.specs.declared.Kind.{Kind}
use Rattle.cells.specs.declared.Kind.TheVariants.{Fields, Alternatives}
use Rattle.cells.specs.declared.Part.{Part}
use Rattle.cells.specs.Words.{count_w, part_w, parts_w, part_of_w}
use Rattle.cells.specs.Stands.{Rows, tree, kind_tree, IsCell, Ok, Cells, Binds}
use Rattle.cells.specs.Promises.{Reprs, answer_of, asked_left, Occurs, IsOrderable}
use Rattle.std.proofs.lemmas.Option.{none-some}
use Rattle.cells.proofs.Parts.{rest, rest_whole, rest_cell, rest_none, part_ok}
use Rattle.std.specs.Prelude.{Bool, None, Option, Some, ℕ}

-- The answer is not this one, with whatever visits left.
abbrev pub IsNot : Bool → Option (Bool × ℕ) → Type 0
IsNot b a = (l : ℕ) → a ≡ Some (b, l) → ⊥

-- ---- A walk that has come to number j with v visits left: f is the question over a row, of bindings with P.
pub record Walking (P : Subst → Type 0) (f : ℕ → Subst → ℕ → Row → Answer) (w : List ℕ) (k : Kind) (c left n j v : ℕ) : Type 0 where
  pub all : n ≡ count_w w c
  pub to : (T : Rows) (s : Subst) → Cells w T → Binds w T s → P s → IsCell w k c → (d : ℕ) → left ≤ d → f d s left (T c) ≡ f d s v (rest T w k c n j)

module _ {P : Subst → Type 0} {f : ℕ → Subst → ℕ → Row → Answer} {w : List ℕ} {k : Kind} {c left n j v : ℕ} (g : Walking P f w k c left n j v) where
  -- The part at j comes next.
  walk_here : (t : Ty) → j < n → t ≡ (part_w w k c j).ty → (T : Rows) (s : Subst) → Cells w T → Binds w T s → P s → IsCell w k c → (d : ℕ) → left ≤ d
      → f d s left (T c) ≡ f d s v (cell (part_w w k c j).key (part_w w k c j).label (tree T t) (rest T w k c n (j + 1)))
  walk_here t h e T s C B A i d l = rw e (g.to T s C B A i d l ∙ ap (f d s v) (rest_cell T w k c n j (part_w w k c j) h refl))

  walk_ok : (t : Ty) → j < n → t ≡ (part_w w k c j).ty → (T : Rows) → Cells w T → IsCell w k c → Ok w t
  walk_ok t h e T C i = rw e (part_ok C k c n j (part_w w k c j) g.all i h refl)

  walk_none : n ≤ j → (T : Rows) (s : Subst) → Cells w T → Binds w T s → P s → IsCell w k c → (d : ℕ) → left ≤ d → f d s left (T c) ≡ f d s v ε
  walk_none h T s C B A i d l = g.to T s C B A i d l ∙ ap (f d s v) (rest_none T w k c n j h)

-- ---- The parts of a type in hand: it is a cell, or it has none.
pub data HasParts : Ty → Kind → ℕ → Type 0 where
  fields : {c : ℕ} → HasParts (Record c) Fields c
  alternatives : {c : ℕ} → HasParts (Union c) Alternatives c

abbrev pub NoParts : Ty → Type 0
NoParts Int = Unit {0}
NoParts Str = Unit {0}
NoParts Bytes = Unit {0}
NoParts (Fact p) = Unit {0}
NoParts (Record c) = ⊥
NoParts (Union c) = ⊥
NoParts (Var x) = Unit {0}
NoParts Error = Unit {0}

by_parts : {A : Type 0} (u : Ty) → ((k : Kind) (c : ℕ) → HasParts u k c → A) → (NoParts u → A) → A
by_parts Int f g = g tt
by_parts Str f g = g tt
by_parts Bytes f g = g tt
by_parts (Fact p) f g = g tt
by_parts (Record c) f g = f Fields c fields
by_parts (Union c) f g = f Alternatives c alternatives
by_parts (Var x) f g = g tt
by_parts Error f g = g tt

none_of : (w : List ℕ) (u : Ty) → NoParts u → parts_w w u ≡ 0
none_of w Int o = refl
none_of w Str o = refl
none_of w Bytes o = refl
none_of w (Fact p) o = refl
none_of w (Record c) o = absurd o
none_of w (Union c) o = absurd o
none_of w (Var x) o = refl
none_of w Error o = refl

count_of_lem : (w : List ℕ) {u : Ty} {k : Kind} {c : ℕ} → HasParts u k c → parts_w w u ≡ count_w w c
count_of_lem w fields = refl
count_of_lem w alternatives = refl

part_of : (w : List ℕ) (j : ℕ) {u : Ty} {k : Kind} {c : ℕ} → HasParts u k c → part_of_w w u j ≡ part_w w k c j
part_of w j fields = refl
part_of w j alternatives = refl

cell_of : {w : List ℕ} {u : Ty} {k : Kind} {c : ℕ} → HasParts u k c → Ok w u → IsCell w k c
cell_of fields o = o
cell_of alternatives o = o

tree_of : (T : Rows) {u : Ty} {k : Kind} {c : ℕ} → HasParts u k c → tree T u ≡ Tree.node (kind_tree k) (T c)
tree_of T fields = refl
tree_of T alternatives = refl

-- The walk over them. Where there are none no visit is made.
pub record Asking (P : Subst → Type 0) (f : ℕ → Subst → ℕ → Row → Answer) (w : List ℕ) (u : Ty) (left n j v : ℕ) : Type 0 where
  pub within : j ≤ n
  pub all : n ≡ parts_w w u
  pub fewer : v ≤ left
  pub unmoved : j ≡ 0 → v ≡ left
  pub walks : (k : Kind) (c : ℕ) → HasParts u k c → Walking P f w k c left n j v

pub asking_start : (P : Subst → Type 0) (f : ℕ → Subst → ℕ → Row → Answer) (w : List ℕ) (u : Ty) (left n v : ℕ) → n ≡ parts_w w u → v ≡ left
    → Asking P f w u left n 0 v
asking_start P f w u left n v e q = rw q record {
  within = omega arith;
  all = e;
  fewer = omega arith;
  unmoved = λ _. refl;
  walks = λ k c i. record { all = e ∙ count_of_lem w i; to = λ T s C B A o d h. ap (f d s left) (rest_whole T w k c n (e ∙ count_of_lem w i) C o) };
}

module _ {P : Subst → Type 0} {f : ℕ → Subst → ℕ → Row → Answer} {w : List ℕ} {u : Ty} {left n j v : ℕ} (g : Asking P f w u left n j v) where
  -- the type of the part at j, as the cell has it
  here : {t : Ty} {k : Kind} {c : ℕ} → HasParts u k c → t ≡ (part_of_w w u j).ty → t ≡ (part_w w k c j).ty
  here i e = e ∙ ap (λ (p : Part). p.ty) (part_of w j i)

  asking_next : (t : Ty) → j < n → t ≡ (part_of_w w u j).ty → (v' : ℕ) → v' ≤ v
      → ((T : Rows) (s : Subst) → Cells w T → Binds w T s → P s → Ok w t → (d : ℕ) → left ≤ d → (k m : ℕ) (r : Row)
      → f d s v (cell k m (tree T t) r) ≡ f d s v' r)
      → Asking P f w u left n (j + 1) v'
  asking_next t h e v' l q = record {
    within = omega arith;
    all = g.all;
    fewer = omega (arith, g.fewer);
    unmoved = λ z. absurd (omega arith);
    walks = λ k c i. record {
      all = (g.walks k c i).all;
      to = λ T s C B A o d b. walk_here (g.walks k c i) t h (here i e) T s C B A o d b
          ∙ q T s C B A (walk_ok (g.walks k c i) t h (here i e) T C o) d b _ _ (rest T w k c n (j + 1));
    };
  }

-- A part that did not end the walk: as often as it is asked it costs the same, and where fewer visits are left they run
-- out.
pub record Costs (asked : ℕ → Option (Bool × ℕ) → Type 0) (goes : ℕ → Option (Bool × ℕ)) (cost : ℕ) : Type 0 where
  pub enough : (v : ℕ) → cost ≤ v → asked v (goes (v - cost))
  pub short : (v : ℕ) → v < cost → asked v None

-- ---- `occurs`
abbrev pub Any : Subst → Type 0
Any s = Unit {0}

abbrev pub asks : ℕ → ℕ → Subst → ℕ → Row → Answer
asks x d s v r = any_row (λ u t. Bindings.occurs d s x u t) v r

pub no_visit : {w : List ℕ} {x : ℕ} {t : Ty} {left : ℕ} → left ≡ 0 → Occurs w x t left None
unfolding Bindings.occurs
no_visit {w} {x} {t} {left} e = record { is = λ T s C B o d h. one s d (tree T t); fewer = omega arith }
  where
    one : (s : Subst) (d : ℕ) (u : Tree.Ty) → spent ≡ Bindings.occurs d s x left u
    one s zero u = refl
    one s (suc d) u = rw (e, Bindings.occurs)

module _ {w : List ℕ} {x : ℕ} {t u : Ty} {left : ℕ} (some : ¬ (left ≡ 0)) (rep : Reprs w t u) where
  -- One visit, and on to the end of the chain.
  visit : (r : Option (Bool × ℕ)) → asked_left r ≤ left - 1
      → ((T : Rows) (s : Subst) → Cells w T → Binds w T s → Ok w u → (d : ℕ) → left - 1 ≤ d
      → answer_of r ≡ occurs_in (λ v t. Bindings.occurs d s x v t) x (left - 1) (tree T u))
      → Occurs w x t left r
  unfolding Bindings.occurs
  visit r f a = record { is = λ T s C B o d h. one T s C B o d h (left - 1) (omega arith); fewer = omega arith }
    where
      one : (T : Rows) (s : Subst) → Cells w T → Binds w T s → Ok w t → (d : ℕ) → left ≤ d → (l : ℕ) → left ≡ suc l
          → answer_of r ≡ Bindings.occurs d s x left (tree T t)
      one T s C B o zero h l e = absurd (omega arith)
      one T s C B o (suc d) h l e =
          let m : left - 1 ≡ l = omega arith in
          rw (e, Bindings.occurs, ← rep.is T s B, ← m) (a T s C B (rep.ok T s B o) d (omega arith))

-- `any` goes on after a no and ends with any other answer.
any_next : (ask : ℕ → Tree.Ty → Answer) (v l k m : ℕ) (t : Tree.Ty) (r : Row) → ask v t ≡ no_left l → any_row ask v (cell k m t r) ≡ any_row ask l r
unfolding any_row
any_next ask v l k m t r e = rw (e, any_row)

any_ends : (a : Option (Bool × ℕ)) → IsNot false a → (ask : ℕ → Tree.Ty → Answer) (v k m : ℕ) (t : Tree.Ty) (r : Row)
    → ask v t ≡ answer_of a → any_row ask v (cell k m t r) ≡ answer_of a
unfolding any_row
any_ends (Some (true, l)) h ask v k m t r e = rw (e, any_row)
any_ends None h ask v k m t r e = rw (e, any_row)
any_ends (Some (false, l)) h ask v k m t r e = absurd (h l refl)

-- A type without parts holds an unknown where it is that unknown.
not_inside : (x : ℕ) (T : Rows) (ask : ℕ → Tree.Ty → Answer) (v : ℕ) (u : Ty) → ¬ (u ≡ Var x) → NoParts u → no_left v ≡ occurs_in ask x v (tree T u)
unfolding occurs_in
not_inside x T ask v Int n o = refl
not_inside x T ask v Str n o = refl
not_inside x T ask v Bytes n o = refl
not_inside x T ask v (Fact p) n o = refl
not_inside x T ask v (Record c) n o = absurd o
not_inside x T ask v (Union c) n o = absurd o
not_inside x T ask v (Var y) n o = rw (ne_eqb x y (λ e. n (ap Var (sym e))), occurs_in)
not_inside x T ask v Error n o = refl

module _ {w : List ℕ} {x : ℕ} {u : Ty} {left n j v : ℕ} (g : Asking Any (asks x) w u left n j v) where
  pub occurring_next : (t : Ty) → j < n → t ≡ (part_of_w w u j).ty → {a : Option (Bool × ℕ)} → Occurs w x t v a → (l : ℕ) → a ≡ Some (false, l)
      → Asking Any (asks x) w u left n (j + 1) l
  occurring_next t h e o l q = asking_next g t h e l (rw q at o.fewer) (λ T s C B A i d b k m r.
      any_next (λ u t. Bindings.occurs d s x u t) v l k m _ r (sym (rw q at (o.is T s C B i d (omega (arith, g.fewer))))))

module _ {w : List ℕ} {x : ℕ} {t u : Ty} {left : ℕ} (some : ¬ (left ≡ 0)) (rep : Reprs w t u) where
  pub occurring_yes : (v : ℕ) → v ≡ left - 1 → u ≡ Var x → Occurs w x t left (Some (true, v))
  unfolding occurs_in
  occurring_yes v q e = rw q (visit some rep (Some (true, (left - 1))) (omega arith) (λ T s C B o d h. rw (e, eq-eqb x x refl, occurs_in)))

  module _ {n j v : ℕ} (g : Asking Any (asks x) w u (left - 1) n j v) where
    pub occurring_ends : (q : Ty) → j < n → q ≡ (part_of_w w u j).ty → {a : Option (Bool × ℕ)} → Occurs w x q v a → IsNot false a
        → Occurs w x t left a
    unfolding occurs_in
    occurring_ends q h e {a} o z = by_parts u
        (λ k c i. visit some rep a (omega (arith, g.fewer, o.fewer)) (λ T s C B p d b. rw (tree_of T i) (sym
        (walk_here (g.walks k c i) q h (here g i e) T s C B tt (cell_of i p) d b
        ∙ any_ends a z (λ u t. Bindings.occurs d s x u t) v (part_w w k c j).key (part_w w k c j).label (tree T q) (rest T w k c n (j + 1))
        (sym (o.is T s C B (walk_ok (g.walks k c i) q h (here g i e) T C (cell_of i p)) d (omega (arith, g.fewer))))))))
        (λ none. absurd (omega (arith, g.all, none_of w u none)))

    pub occurring_none : ¬ (u ≡ Var x) → n ≤ j → Occurs w x t left (Some (false, v))
    unfolding occurs_in any_row
    occurring_none f h = by_parts u
        (λ k c i. visit some rep (Some (false, v)) g.fewer (λ T s C B p d b. rw (tree_of T i) (sym (walk_none (g.walks k c i) h T s C B tt (cell_of i p) d b))))
        (λ none. rw (g.unmoved (omega (arith, g.all, g.within, none_of w u none)))
        (visit some rep (Some (false, (left - 1))) (omega arith) (λ T s C B o d b. not_inside x T _ (left - 1) u f none)))

abbrev pub Outside : List ℕ → ℕ → Ty → ℕ → Type 0
Outside w x t cost = Costs (λ v r. Occurs w x t v r) (λ l. Some (false, l)) cost

pub error_outside : (w : List ℕ) (x : ℕ) → Outside w x Error 1
unfolding Bindings.occurs Bindings.repr Bindings.follow occurs_in
error_outside w x = record { enough = λ v h. record { is = λ T s C B o d b. one s d v h b; fewer = omega arith }; short = λ v h. no_visit (omega arith) }
  where
    one : (s : Subst) (d v : ℕ) → 1 ≤ v → v ≤ d → no_left (v - 1) ≡ Bindings.occurs d s x v Tree.Error
    one s zero v h b = absurd (omega arith)
    one s (suc d) zero h b = absurd (omega arith)
    one s (suc d) (suc v) h b = let less : suc v - 1 ≡ v = omega arith in rw less

pub outside : {w : List ℕ} {x : ℕ} {t : Ty} {left l : ℕ} → Occurs w x t left (Some (false, l)) → Outside w x t (left - l)
outside {w} {x} {t} {left} {l} o = record {
  enough = λ v h. record {
    is = λ T s C B i d b. sym (at d s (tree T t) v b
        ∙ again (λ z. Bindings.occurs (d + left) s x z (tree T t)) (λ k z. occurs_longer k (d + left) s x z (tree T t)) false left l o.fewer
        (sym (o.is T s C B i (d + left) (omega arith))) v h);
    fewer = omega arith;
  };
  short = λ v h. record {
    is = λ T s C B i d b. sym (at d s (tree T t) v b
        ∙ again_stopped (λ z. Bindings.occurs (d + left) s x z (tree T t)) (λ k z. occurs_longer k (d + left) s x z (tree T t)) false left l
        o.fewer (sym (o.is T s C B i (d + left) (omega arith))) v h);
    fewer = omega arith;
  };
}
  where
    -- a depth that serves before and now
    at : (d : ℕ) (s : Subst) (t : Tree.Ty) (v : ℕ) → v ≤ d → Bindings.occurs d s x v t ≡ Bindings.occurs (d + left) s x v t
    at d s t v b = occurs_depth d (d + left) s x v t b (omega arith)

-- The walk with what the last part cost.
module _ {w : List ℕ} {x : ℕ} {u : Ty} {left n j v : ℕ} {last : Ty} {cost : ℕ} (g : Asking Any (asks x) w u left n j v × Outside w x last cost)
    (q : Ty) (h : j < n) (e : q ≡ (part_of_w w u j).ty) {v' cost' : ℕ} {last' : Ty} where
  pub occurring_again : q ≡ last → cost ≤ v → v' ≡ v - cost → last' ≡ last → cost' ≡ cost → Asking Any (asks x) w u left n (j + 1) v' × Outside w x last' cost'
  occurring_again s m a b c = rw (a, b, c) (occurring_next g.0 q h e (rw s (g.1.enough v m)) (v - cost) refl, g.1)

  pub occurring_new : {a : Option (Bool × ℕ)} → Occurs w x q v a → (l : ℕ) → a ≡ Some (false, l) → v' ≡ l → last' ≡ q → cost' ≡ v - l
      → Asking Any (asks x) w u left n (j + 1) v' × Outside w x last' cost'
  occurring_new o l z a b c = rw (a, b, c) (occurring_next g.0 q h e o l z, outside (rw z at o))

pub occurring_short : {w : List ℕ} {x : ℕ} {t u : Ty} {left : ℕ} → ¬ (left ≡ 0) → Reprs w t u → {n j v : ℕ} {last : Ty} {cost : ℕ}
    → Asking Any (asks x) w u (left - 1) n j v × Outside w x last cost
    → (q : Ty) → j < n → q ≡ (part_of_w w u j).ty → q ≡ last → v < cost → Occurs w x t left None
occurring_short some rep g q h e s m = occurring_ends some rep g.0 q h e (rw s (g.1.short _ m)) (λ l z. none-some _ z)

-- ---- `orderable`
abbrev pub orders : ℕ → Subst → ℕ → Row → Answer
orders d s v r = Unify.all_orderable (app_row (λ x. Bindings.zonk s (Tree.Var x)) r) v

visited_none : (v : ℕ) (ask : ℕ → Answer) → v ≡ 0 → Unify.visited v ask ≡ spent
unfolding Unify.visited
visited_none v ask e = rw (e, Unify.visited)

visited_some : (v : ℕ) (ask : ℕ → Answer) → ¬ (v ≡ 0) → Unify.visited v ask ≡ ask (v - 1)
unfolding Unify.visited
visited_some zero ask h = absurd (h refl)
visited_some (suc v) ask h = let one : suc v - 1 ≡ v = omega arith in rw one

order_spent : (t : Tree.Ty) (v : ℕ) → v ≡ 0 → Unify.orderable t v ≡ spent
unfolding Unify.orderable
order_spent (Tree.leaf p) v e = visited_none v _ e
order_spent (Tree.node k r) v e = visited_none v _ e
order_spent (Tree.Var x) v e = visited_none v _ e
order_spent Tree.Error v e = visited_none v _ e

pub order_no_visit : {w : List ℕ} {t : Ty} {left : ℕ} → left ≡ 0 → IsOrderable w t left None
order_no_visit {w} {t} {left} e = record { is = λ T s C B A o. sym (order_spent (Bindings.zonk s (tree T t)) left e); fewer = omega arith }

module _ {w : List ℕ} {t u : Ty} {left : ℕ} (some : ¬ (left ≡ 0)) (rep : Reprs w t u) where
  -- A type with its unknowns replaced is the one at the end of its chain with its unknowns replaced.
  replaced : (T : Rows) (s : Subst) → Binds w T s → Acyclic s → Bindings.zonk s (tree T t) ≡ Bindings.zonk s (tree T u)
  replaced T s B A = sym (zonk_repr s A (tree T t)) ∙ ap (Bindings.zonk s) (sym (rep.is T s B))

  order : (r : Option (Bool × ℕ)) → asked_left r ≤ left - 1
      → ((T : Rows) (s : Subst) → Cells w T → Binds w T s → Acyclic s → Ok w u → Unify.orderable (Bindings.zonk s (tree T u)) left ≡ answer_of r)
      → IsOrderable w t left r
  order r f a = record { is = λ T s C B A o. sym (rw (replaced T s B A) (a T s C B A (rep.ok T s B o))); fewer = omega arith }

  pub order_fact : (q : ℕ) → u ≡ Fact q → (l : ℕ) → l ≡ left - 1 → IsOrderable w t left (Some (false, l))
  unfolding Unify.orderable Unify.leaf_orderable
  order_fact q v l e = rw e (order (Some (false, (left - 1))) (omega arith) (λ T s C B A o. rw (v, zonk_leaf s (Tree.Fact q)) (visited_some left _ some)))

  order_node : (k : Tree.Kind) (r : Option (Bool × ℕ)) (T : Rows) (s : Subst) (c : ℕ) → tree T u ≡ Tree.node k (T c)
      → orders 0 s (left - 1) (T c) ≡ answer_of r → Unify.orderable (Bindings.zonk s (tree T u)) left ≡ answer_of r
  unfolding Unify.orderable
  order_node k r T s c v q = rw (v, zonk_node s k (T c)) (visited_some left _ some ∙ q)

-- `all` goes on after a yes and ends with any other answer.
abbrev goes_on : Row → Answer → Answer
goes_on r a = elim a [ yes_left l ↦ Unify.all_orderable r l | no_left l ↦ no_left l | spent ↦ spent ]

all_cell : (v k m : ℕ) (t : Tree.Ty) (r : Row) (a : Answer) → Unify.orderable t v ≡ a → Unify.all_orderable (cell k m t r) v ≡ goes_on r a
unfolding Unify.all_orderable
all_cell v k m t r a e = ap (goes_on r) e

all_ends : (a : Option (Bool × ℕ)) → IsNot true a → (v k m : ℕ) (t : Tree.Ty) (r : Row) → Unify.orderable t v ≡ answer_of a
    → Unify.all_orderable (cell k m t r) v ≡ answer_of a
all_ends (Some (false, l)) h v k m t r e = all_cell v k m t r (no_left l) e
all_ends None h v k m t r e = all_cell v k m t r spent e
all_ends (Some (true, l)) h v k m t r e = absurd (h l refl)

module _ {w : List ℕ} {u : Ty} {left n j v : ℕ} (g : Asking Acyclic orders w u left n j v) where
  -- the answer of a part, over its type with the unknowns replaced
  said : (t : Ty) {a : Option (Bool × ℕ)} → IsOrderable w t v a → (T : Rows) (s : Subst) → Cells w T → Binds w T s → Acyclic s → Ok w t
      → Unify.orderable (app (λ x. Bindings.zonk s (Tree.Var x)) (tree T t)) v ≡ answer_of a
  said t o T s C B A i = rw (← zonk_replaces s (tree T t)) (sym (o.is T s C B A i))

  pub ordering_next : (t : Ty) → j < n → t ≡ (part_of_w w u j).ty → {a : Option (Bool × ℕ)} → IsOrderable w t v a → (l : ℕ) → a ≡ Some (true, l)
      → Asking Acyclic orders w u left n (j + 1) l
  unfolding app_row
  ordering_next t h e o l q = asking_next g t h e l (rw q at o.fewer)
      (λ T s C B A i d b k m r. all_cell v _ _ _ _ (yes_left l) (rw q at (said t o T s C B A i)))

module _ {w : List ℕ} {t u : Ty} {left : ℕ} (some : ¬ (left ≡ 0)) (rep : Reprs w t u) {n j v : ℕ} (g : Asking Acyclic orders w u (left - 1) n j v) where
  pub ordering_ends : (q : Ty) → j < n → q ≡ (part_of_w w u j).ty → {a : Option (Bool × ℕ)} → IsOrderable w q v a → IsNot true a
      → IsOrderable w t left a
  unfolding app_row
  ordering_ends q h e {a} o z = by_parts u
      (λ k c i. order some rep a (omega (arith, g.fewer, o.fewer)) (λ T s C B A p. order_node some rep (kind_tree k) a T s c (tree_of T i)
      (walk_here (g.walks k c i) q h (here g i e) T s C B A (cell_of i p) (left - 1) (omega arith)
      ∙ all_ends a z v _ _ _ _ (said g q o T s C B A (walk_ok (g.walks k c i) q h (here g i e) T C (cell_of i p))))))
      (λ none. absurd (omega (arith, g.all, none_of w u none)))

  pub ordering_none : ((q : ℕ) → u ≡ Fact q → ⊥) → n ≤ j → IsOrderable w t left (Some (true, v))
  unfolding app_row Unify.all_orderable Unify.orderable Unify.leaf_orderable
  ordering_none f h = by_parts u
      (λ k c i. order some rep (Some (true, v)) g.fewer (λ T s C B A p. order_node some rep (kind_tree k) (Some (true, v)) T s c (tree_of T i)
      (walk_none (g.walks k c i) h T s C B A (cell_of i p) (left - 1) (omega arith))))
      (λ none. rw (g.unmoved (omega (arith, g.all, g.within, none_of w u none)))
      (order some rep (Some (true, (left - 1))) (omega arith) (λ T s C B A o. yes_at T s u f none (rw (← rep.is T s B) at (repr_resolved s A (tree T t))))))
    where
      yes_at : (T : Rows) (s : Subst) (u : Ty) → ((q : ℕ) → u ≡ Fact q → ⊥) → NoParts u → Resolved s (tree T u)
          → Unify.orderable (Bindings.zonk s (tree T u)) left ≡ yes_left (left - 1)
      yes_at T s Int h o f = rw (zonk_leaf s Tree.Int) (visited_some left _ some)
      yes_at T s Str h o f = rw (zonk_leaf s Tree.String) (visited_some left _ some)
      yes_at T s Bytes h o f = rw (zonk_leaf s Tree.Bytes) (visited_some left _ some)
      yes_at T s (Fact q) h o f = absurd (h q refl)
      yes_at T s (Record c) h o f = absurd o
      yes_at T s (Union c) h o f = absurd o
      yes_at T s (Var y) h o f = rw (zonk_unbound s y f) (visited_some left _ some)
      yes_at T s Error h o f = rw (zonk_error s) (visited_some left _ some)

abbrev pub Ordered : List ℕ → Ty → ℕ → Type 0
Ordered w t cost = Costs (λ v r. IsOrderable w t v r) (λ l. Some (true, l)) cost

pub error_ordered : (w : List ℕ) → Ordered w Error 1
unfolding Unify.orderable
error_ordered w = record {
  enough = λ v h. record { is = λ T s C B A o. rw (zonk_error s) (sym (visited_some v _ (λ z. absurd (omega arith)))); fewer = omega arith };
  short = λ v h. order_no_visit (omega arith);
}

pub ordered : {w : List ℕ} {t : Ty} {left l : ℕ} → IsOrderable w t left (Some (true, l)) → Ordered w t (left - l)
ordered {w} {t} {left} {l} o = record {
  enough = λ v h. record {
    is = λ T s C B A i. sym
        (again (λ z. Unify.orderable (Bindings.zonk s (tree T t)) z) (λ k z. orderable_longer k (Bindings.zonk s (tree T t)) z) true left l o.fewer
        (sym (o.is T s C B A i)) v h);
    fewer = omega arith;
  };
  short = λ v h. record {
    is = λ T s C B A i. sym
        (again_stopped (λ z. Unify.orderable (Bindings.zonk s (tree T t)) z) (λ k z. orderable_longer k (Bindings.zonk s (tree T t)) z) true left l
        o.fewer (sym (o.is T s C B A i)) v h);
    fewer = omega arith;
  };
}

module _ {w : List ℕ} {u : Ty} {left n j v : ℕ} {last : Ty} {cost : ℕ} (g : Asking Acyclic orders w u left n j v × Ordered w last cost)
    (q : Ty) (h : j < n) (e : q ≡ (part_of_w w u j).ty) {v' cost' : ℕ} {last' : Ty} where
  pub ordering_again : q ≡ last → cost ≤ v → v' ≡ v - cost → last' ≡ last → cost' ≡ cost → Asking Acyclic orders w u left n (j + 1) v' × Ordered w last' cost'
  ordering_again s m a b c = rw (a, b, c) (ordering_next g.0 q h e (rw s (g.1.enough v m)) (v - cost) refl, g.1)

  pub ordering_new : {a : Option (Bool × ℕ)} → IsOrderable w q v a → (l : ℕ) → a ≡ Some (true, l) → v' ≡ l → last' ≡ q → cost' ≡ v - l
      → Asking Acyclic orders w u left n (j + 1) v' × Ordered w last' cost'
  ordering_new o l z a b c = rw (a, b, c) (ordering_next g.0 q h e o l z, ordered (rw z at o))

pub ordering_short : {w : List ℕ} {t u : Ty} {left : ℕ} → ¬ (left ≡ 0) → Reprs w t u → {n j v : ℕ} {last : Ty} {cost : ℕ}
    → Asking Acyclic orders w u (left - 1) n j v × Ordered w last cost
    → (q : Ty) → j < n → q ≡ (part_of_w w u j).ty → q ≡ last → v < cost → IsOrderable w t left None
ordering_short some rep g q h e s m = ordering_ends some rep g.0 q h e (rw s (g.1.short _ m)) (λ l z. none-some _ z)
