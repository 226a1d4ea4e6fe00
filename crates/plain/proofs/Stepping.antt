-- What is told of the first pair is what the definition does with it.
use Rattle.std.proofs.Common.{true, false, List, [], ◌∷◌, ◌++◌, ◌≡◌, ℕ, ◌≤◌, nat_eq, length, get_or, refl, sym, ap, ◌∙◌, arith, length-append}
use Rattle.std.proofs.Math.Decide.{ℕ_discrete}
use Rattle.std.specs.Prelude.{MatchOption, None, Option, Some, eqb, drop}
use Rattle.std.specs.Option.{option_eq}
use Rattle.std.specs.Borrow.{Bor}
use borrow.Author.Tests.{eq-eqb, eqb-true}
use Rattle.cells.specs.Words.{pick}
use Rattle.unification.specs.Ty.{Leaf, Int, String, Bytes, Fact, Leaf-discrete, Kind, Record, Union, Ty, leaf, node, Var, Error, Row, row_len}
use Rattle.unification.specs.Robinson.{Equation}
use Rattle.unification.proofs.Tests.{clash}
use Rattle.plain_theory.specs.Plain.{Parts, parts, unlike, matched, rows, drops, fails, bind, split, nodes, step}
use Rattle.plain_theory.specs.Words.{leaf_spelled, kind_tag, spelled, row_spelled, pairs_spelled}
use Rattle.plain_theory.specs.Falls.{words_some}
use Rattle.plain_theory.proofs.Words.{spelled_words}
use Rattle.plain.specs.declared.Next.{Next}
use Rattle.plain.specs.declared.Next.TheVariants.{Done, Stuck, Drop, Bind, Split}
use Rattle.plain.specs.Tokens.{among, NoType, FirstType, NoUnknown, NoNode, TwoRows, Like, Alike}
use Rattle.plain.specs.Stages.{ToldOf, ToldNext, WithinPairs, TellsBound, TellsApart, TellsNext}
use Rattle.plain.proofs.Swaps.{bind_occurs, bind_free}

-- ---- Which type the words are

head_is : {l v : List ℕ} → l ≡ v → get_or l 0 0 ≡ get_or v 0 0
head_is e = ap (λ (l : List ℕ). get_or l 0 0) e

-- The type of no cells that the words are.
flat : List ℕ → Ty
flat ws = let a = get_or ws 0 0 in let n = get_or ws 1 0 in
    pick (eqb a 1) (leaf Int) (pick (eqb a 2) (leaf String) (pick (eqb a 3) (leaf Bytes) (pick (eqb a 4) (leaf (Fact n)) (pick (eqb a 7) (Var n) Error))))

flat_is : (t : Ty) → NoNode (spelled t) → flat (spelled t) ≡ t
unfolding flat spelled leaf_spelled
flat_is (leaf Int) h = refl
flat_is (leaf String) h = refl
flat_is (leaf Bytes) h = refl
flat_is (leaf (Fact p)) h = refl
flat_is (node k r) h = absurd (h k (row_len r) (row_spelled r k) refl)
flat_is (Var x) h = refl
flat_is Error h = refl

same_flat : (a b : Ty) → NoNode (spelled a) → spelled a ≡ spelled b → a ≡ b
same_flat a b h e = sym (flat_is a h) ∙ ap flat e ∙ flat_is b (rw e at h)

is_var : (t : Ty) (x : ℕ) → spelled t ≡ 7 ∷ x ∷ [] → t ≡ Var x
unfolding spelled leaf_spelled kind_tag
is_var (leaf Int) x e = absurd (omega (arith, head_is e))
is_var (leaf String) x e = absurd (omega (arith, head_is e))
is_var (leaf Bytes) x e = absurd (omega (arith, head_is e))
is_var (leaf (Fact p)) x e = absurd (omega (arith, head_is e))
is_var (node Record r) x e = absurd (omega (arith, head_is e))
is_var (node Union r) x e = absurd (omega (arith, head_is e))
is_var (Var y) x e = ap (λ (l : List ℕ). Var (get_or l 1 0)) e
is_var Error x e = absurd (omega (arith, head_is e))

-- A record or a union.
record IsNode (t : Ty) (tag n : ℕ) (cells : List ℕ) : Type 0 where
  kind : Kind
  row : Row
  is : t ≡ node kind row
  tagged : tag ≡ kind_tag kind
  many : n ≡ row_len row
  words : cells ≡ row_spelled row kind

is_node : (t : Ty) {tag n : ℕ} {cells : List ℕ} → (5 ≤ tag) × (tag ≤ 6) × (spelled t ≡ tag ∷ n ∷ cells) → IsNode t tag n cells
unfolding spelled leaf_spelled kind_tag
is_node (leaf Int) h = absurd (omega (arith, h, head_is h.2))
is_node (leaf String) h = absurd (omega (arith, h, head_is h.2))
is_node (leaf Bytes) h = absurd (omega (arith, h, head_is h.2))
is_node (leaf (Fact p)) h = absurd (omega (arith, h, head_is h.2))
is_node (node k r) h = record {
  kind = k;
  row = r;
  is = refl;
  tagged = sym (head_is h.2);
  many = ap (λ (l : List ℕ). get_or l 1 0) (sym h.2);
  words = ap (drop 2) (sym h.2);
}
is_node (Var x) h = absurd (omega (arith, h, head_is h.2))
is_node Error h = absurd (omega (arith, h, head_is h.2))

-- ---- What the definition does

leaves_same : (p q : Leaf) → p ≡ q → step (leaf p) (leaf q) ≡ drops
unfolding step
leaves_same p q e = go (Leaf-discrete ℕ_discrete p q) refl
  where
    go : (d : Dec (p ≡ q)) → Leaf-discrete ℕ_discrete p q ≡ d → step (leaf p) (leaf q) ≡ drops
    go (yes i) o = rw (o, step)
    go (no n) o = absurd (n e)

leaves_differ : (p q : Leaf) → (p ≡ q → ⊥) → step (leaf p) (leaf q) ≡ fails
unfolding step
leaves_differ p q n = go (Leaf-discrete ℕ_discrete p q) refl
  where
    go : (d : Dec (p ≡ q)) → Leaf-discrete ℕ_discrete p q ≡ d → step (leaf p) (leaf q) ≡ fails
    go (yes i) o = absurd (n i)
    go (no m) o = rw (o, step)

vars_same : (x : ℕ) → step (Var x) (Var x) ≡ drops
unfolding step
vars_same x = go (ℕ_discrete x x) refl
  where
    go : (d : Dec (x ≡ x)) → ℕ_discrete x x ≡ d → step (Var x) (Var x) ≡ drops
    go (yes e) q = rw (q, step)
    go (no n) q = absurd (n refl)

var_other : (x : ℕ) (t : Ty) → ¬ (t ≡ Var x) → step (Var x) t ≡ bind x t
unfolding step bind
var_other x (leaf q) n = refl
var_other x (node k r) n = refl
var_other x (Var y) n = go (ℕ_discrete x y) refl
  where
    go : (d : Dec (x ≡ y)) → ℕ_discrete x y ≡ d → step (Var x) (Var y) ≡ bind x (Var y)
    go (yes e) q = absurd (n (ap Var (sym e)))
    go (no m) q = rw (q, step, bind)
var_other x Error n = refl

abbrev NoVar : Ty → Type 0
NoVar t = (x : ℕ) → ¬ (t ≡ Var x)

-- The unknown is the second.
other_var : (s : Ty) (y : ℕ) → NoVar s → step (Var y) s ≡ step s (Var y)
unfolding step bind
other_var (leaf p) y v = refl
other_var (node k r) y v = refl
other_var (Var x) y v = absurd (v x refl)
other_var Error y v = refl

rows_same : (k : Kind) (r s : Row) → row_len r ≡ row_len s → rows k r s ≡ matched k r s
unfolding rows
rows_same k r s e = go (ℕ_discrete (row_len r) (row_len s)) refl
  where
    go : (d : Dec (row_len r ≡ row_len s)) → ℕ_discrete (row_len r) (row_len s) ≡ d → rows k r s ≡ matched k r s
    go (yes i) o = rw (o, rows)
    go (no n) o = absurd (n e)

rows_differ : (k : Kind) (r s : Row) → (row_len r ≡ row_len s → ⊥) → rows k r s ≡ unlike
unfolding rows
rows_differ k r s n = go (ℕ_discrete (row_len r) (row_len s)) refl
  where
    go : (d : Dec (row_len r ≡ row_len s)) → ℕ_discrete (row_len r) (row_len s) ≡ d → rows k r s ≡ unlike
    go (yes i) o = absurd (n i)
    go (no m) o = rw (o, rows)

nodes_same : (k : Kind) (r s : Row) → step (node k r) (node k s) ≡ split (rows k r s)
unfolding step nodes
nodes_same Record r s = refl
nodes_same Union r s = refl

nodes_differ : (j k : Kind) (r s : Row) → (kind_tag j ≡ kind_tag k → ⊥) → step (node j r) (node k s) ≡ fails
unfolding step nodes
nodes_differ Record Record r s n = absurd (n refl)
nodes_differ Record Union r s n = refl
nodes_differ Union Record r s n = refl
nodes_differ Union Union r s n = absurd (n refl)

same_kind : (j k : Kind) → kind_tag j ≡ kind_tag k → j ≡ k
unfolding kind_tag
same_kind Record Record e = refl
same_kind Record Union e = absurd (omega arith)
same_kind Union Record e = absurd (omega arith)
same_kind Union Union e = refl

like_parts : (ps : Parts) → true ≡ Like ps → (qs : List Equation) × (ps ≡ parts qs)
like_parts (parts qs) e = (qs, refl)
like_parts unlike e = clash (cc)

like_unlike : (ps : Parts) → false ≡ Like ps → ps ≡ unlike
like_unlike (parts qs) e = clash (cc)
like_unlike unlike e = refl

-- ---- Two types that are no unknowns

flat_self : (a : Ty) → NoNode (spelled a) → step a a ≡ drops
unfolding step spelled
flat_self (leaf p) h = leaves_same p p refl
flat_self (node k r) h = absurd (h k (row_len r) (row_spelled r k) refl)
flat_self (Var x) h = vars_same x
flat_self Error h = refl

flat_differ : (a b : Ty) → NoVar a → NoVar b → NoNode (spelled a) → (spelled a ≡ spelled b → ⊥) → step a b ≡ fails
unfolding step spelled
flat_differ (leaf p) (leaf q) v w h n = leaves_differ p q (λ e. n (ap leaf_spelled e))
flat_differ (leaf p) (node k s) v w h n = refl
flat_differ (leaf p) (Var y) v w h n = absurd (w y refl)
flat_differ (leaf p) Error v w h n = refl
flat_differ (node k r) b v w h n = absurd (h k (row_len r) (row_spelled r k) refl)
flat_differ (Var x) b v w h n = absurd (v x refl)
flat_differ Error (leaf q) v w h n = refl
flat_differ Error (node k s) v w h n = refl
flat_differ Error (Var y) v w h n = absurd (w y refl)
flat_differ Error Error v w h n = absurd (n refl)

node_flat : (k : Kind) (r : Row) (b : Ty) → NoVar b → NoNode (spelled b) → step (node k r) b ≡ fails
unfolding step spelled
node_flat k r (leaf q) w h = refl
node_flat k r (node j s) w h = absurd (h j (row_len s) (row_spelled s j) refl)
node_flat k r (Var y) w h = absurd (w y refl)
node_flat k r Error w h = refl

module _ (left right : List ℕ) (rest : Bor (List ℕ)) where
  pub apart_same : NoNode left → left ≡ right → TellsApart left right rest.now (Drop rest)
  apart_same h e = record {
    is = λ a b p q v w.
        let none : NoNode (spelled a) = rw p at h in
        let same : a ≡ b = same_flat a b none (sym p ∙ e ∙ q) in
        (ap (step a) (sym same) ∙ flat_self a none, refl);
    within = omega arith;
  }

  pub apart_flat : NoNode left → (left ≡ right → ⊥) → TellsApart left right rest.now Stuck
  apart_flat h n = record { is = λ a b p q v w. flat_differ a b v w (rw p at h) (λ e. n (p ∙ e ∙ sym q)); within = tt }

  module _ {tag n : ℕ} {cells : List ℕ} (l : (5 ≤ tag) × (tag ≤ 6) × (left ≡ tag ∷ n ∷ cells)) where
    first_node : (a : Ty) → left ≡ spelled a → IsNode a tag n cells
    first_node a p = is_node a (l.0, l.1, sym p ∙ l.2)

    pub apart_node : NoNode right → TellsApart left right rest.now Stuck
    apart_node h = record {
      is = λ a b p q v w. let s = first_node a p in ap (λ (t : Ty). step t b) s.is ∙ node_flat s.kind s.row b w (rw q at h);
      within = tt;
    }

    module _ {tag' n' : ℕ} {cells' : List ℕ} (r : (5 ≤ tag') × (tag' ≤ 6) × (right ≡ tag' ∷ n' ∷ cells')) where
      second_node : (b : Ty) → right ≡ spelled b → IsNode b tag' n' cells'
      second_node b q = is_node b (r.0, r.1, sym q ∙ r.2)

      pub apart_kinds : (tag ≡ tag' → ⊥) → TellsApart left right rest.now Stuck
      apart_kinds d = record {
        is = λ a b p q v w.
            let s = first_node a p in
            let t = second_node b q in
            rw (s.is, t.is) (nodes_differ s.kind t.kind s.row t.row (λ e. d (s.tagged ∙ e ∙ sym t.tagged)));
        within = tt;
      }

      module _ (k : tag ≡ tag') where
        -- both of one kind
        both : (a b : Ty) (s : IsNode a tag n cells) (t : IsNode b tag' n' cells') → step a b ≡ split (rows s.kind s.row t.row)
        both a b s t =
            let same : t.kind ≡ s.kind = same_kind t.kind s.kind (sym t.tagged ∙ sym k ∙ s.tagged) in
            rw (s.is, t.is, same) (nodes_same s.kind s.row t.row)

        pub apart_counts : (n ≡ n' → ⊥) → TellsApart left right rest.now Stuck
        unfolding split
        apart_counts d = record {
          is = λ a b p q v w.
              let s = first_node a p in
              let t = second_node b q in
              both a b s t ∙ ap split (rows_differ s.kind s.row t.row (λ e. d (s.many ∙ e ∙ sym t.many)));
          within = tt;
        }

        module _ (m : n ≡ n') where
          two_rows : (a b : Ty) (s : IsNode a tag n cells) (t : IsNode b tag' n' cells') → TwoRows n cells cells' s.kind s.row t.row
          two_rows a b s t =
              let same : t.kind ≡ s.kind = same_kind t.kind s.kind (sym t.tagged ∙ sym k ∙ s.tagged) in
              record {
                first = s.words;
                second = t.words ∙ ap (row_spelled t.row) same;
                many = sym s.many;
                as_many = sym t.many ∙ sym m;
              }

          does : (a b : Ty) (s : IsNode a tag n cells) (t : IsNode b tag' n' cells') → step a b ≡ split (matched s.kind s.row t.row)
          does a b s t = both a b s t ∙ ap split (rows_same s.kind s.row t.row (sym s.many ∙ m ∙ t.many))

          pub apart_unlike : Alike n cells cells' false → TellsApart left right rest.now Stuck
          unfolding split
          apart_unlike f = record {
            is = λ a b p q v w.
                let s = first_node a p in
                let t = second_node b q in
                does a b s t ∙ ap split (like_unlike (matched s.kind s.row t.row) (f s.kind s.row t.row (two_rows a b s t)));
            within = tt;
          }

pub apart_split : (left right : List ℕ) (cells cells' rest : Bor (List ℕ)) {tag n tag' n' : ℕ} → (5 ≤ tag) × (tag ≤ 6) × (left ≡ tag ∷ n ∷ cells.now)
    → (5 ≤ tag') × (tag' ≤ 6) × (right ≡ tag' ∷ n' ∷ cells'.now) → tag ≡ tag' → n ≡ n' → Alike n cells.now cells'.now true
    → TellsApart left right rest.now (Split n cells cells' rest)
unfolding split
apart_split left right cells cells' rest l r k m f = record {
  is = λ a b p q v w.
      let s = first_node left right rest l a p in
      let t = second_node left right rest l r b q in
      let two = two_rows left right rest l r k m a b s t in
      let g = like_parts (matched s.kind s.row t.row) (f s.kind s.row t.row two) in
      (g.0, (does left right rest l r k m a b s t ∙ ap split g.1, record { kind = s.kind; first = s.row; second = t.row; rows = two; are = g.1 }, refl));
  within = tt;
}

-- ---- An unknown and a type

module _ (x : ℕ) (ty : Bor (List ℕ)) (rest : Bor (List ℕ)) (o : Option ℕ) (u : MatchOption o (NoUnknown ty.now) (λ y. ty.now ≡ 7 ∷ y ∷ [])) where
  pub bound_same : true ≡ option_eq nat_eq o (Some x) → TellsBound x ty.now rest.now (Drop rest)
  bound_same e = record { is = λ t p. (ap (step (Var x)) (is_var t x (sym p ∙ go o u e)) ∙ vars_same x, refl); within = omega arith }
    where
      go : (o : Option ℕ) → MatchOption o (NoUnknown ty.now) (λ y. ty.now ≡ 7 ∷ y ∷ []) → true ≡ option_eq nat_eq o (Some x) → ty.now ≡ 7 ∷ x ∷ []
      go None v e = clash (cc)
      go (Some y) v e = rw (← eqb-true y x (sym e)) v

  module _ (e : false ≡ option_eq nat_eq o (Some x)) where
    other : (t : Ty) → ty.now ≡ spelled t → ¬ (t ≡ Var x)
    unfolding spelled
    other t p q = go o u e
      where
        is : ty.now ≡ 7 ∷ x ∷ []
        is = p ∙ ap spelled q

        go : (o : Option ℕ) → MatchOption o (NoUnknown ty.now) (λ y. ty.now ≡ 7 ∷ y ∷ []) → false ≡ option_eq nat_eq o (Some x) → ⊥
        go None v e = v x is
        go (Some y) v e =
            let same : y ≡ x = ap (λ (l : List ℕ). get_or l 1 0) (sym v ∙ is) in
            let z : false ≡ true = e ∙ eq-eqb y x same in
            clash (cc)

    pub bound_occurs : true ≡ among x ty.now → TellsBound x ty.now rest.now Stuck
    bound_occurs f = record { is = λ t p. var_other x t (other t p) ∙ bind_occurs x t (ap (among x) (sym p) ∙ sym f); within = tt }

    pub bound_free : false ≡ among x ty.now → TellsBound x ty.now rest.now (Bind x ty rest)
    bound_free f = record {
      is = λ t p. (t, (var_other x t (other t p) ∙ bind_free x t (ap (among x) (sym p) ∙ sym f), p, refl));
      within = tt;
    }

-- ---- The first pair

no_var : {ty : List ℕ} → NoUnknown ty → (t : Ty) → ty ≡ spelled t → NoVar t
unfolding spelled
no_var n t p x q = n x (p ∙ ap spelled q)

spelled_some : (t : Ty) → 1 ≤ length (spelled t)
spelled_some t = omega (arith, spelled_words t, words_some t)

pub step_done : (pairs : List ℕ) → length pairs ≡ 0 → TellsNext pairs Done
unfolding pairs_spelled
step_done pairs h = record { is = go; within = tt }
  where
    go : (ps : List Equation) → pairs ≡ pairs_spelled ps → ToldNext Done ps
    go [] e = refl
    go (c ∷ ps) e = absurd (omega (arith, ap length e, spelled_some c.left, length-append (spelled c.left) (spelled c.right ++ pairs_spelled ps)))

module _ (pairs : List ℕ) (some : length pairs ≡ 0 → ⊥) where
  pub step_no_left : NoType pairs → TellsNext pairs Stuck
  unfolding pairs_spelled
  step_no_left h = record { is = go; within = tt }
    where
      go : (ps : List Equation) → pairs ≡ pairs_spelled ps → ToldNext Stuck ps
      go [] e = absurd (some (ap length e))
      go (c ∷ ps) e = absurd (h c.left _ e)

  module _ {left rest : List ℕ} (F : FirstType pairs left rest) where
    pub step_no_right : NoType rest → TellsNext pairs Stuck
    unfolding pairs_spelled
    step_no_right h = record { is = go; within = tt }
      where
        go : (ps : List Equation) → pairs ≡ pairs_spelled ps → ToldNext Stuck ps
        go [] e = absurd (some (ap length e))
        go (c ∷ ps) e = absurd (h c.right _ (F.is c.left _ e).1)

    module _ {right rest' : List ℕ} (S : FirstType rest right rest') {r : Next} where
      -- what is told of the first two types is told of the pairs
      tells : WithinPairs (length rest') r → ((a b : Ty) → left ≡ spelled a → right ≡ spelled b → ToldOf r rest' (step a b)) → TellsNext pairs r
      unfolding pairs_spelled
      tells w f = record { is = go; within = inner r w }
        where
          go : (ps : List Equation) → pairs ≡ pairs_spelled ps → ToldNext r ps
          go [] e = absurd (some (ap length e))
          go (c ∷ ps) e =
              let one = F.is c.left _ e in
              let two = S.is c.right _ one.1 in
              rw (← two.1) (f c.left c.right one.0 two.0)

          shorter : length rest' ≤ length pairs
          shorter = omega (arith, ap length F.parts ∙ length-append left rest, ap length S.parts ∙ length-append right rest')

          inner : (r : Next) → WithinPairs (length rest') r → WithinPairs (length pairs) r
          inner Done w = tt
          inner Stuck w = tt
          inner (Drop o) w = omega (arith, shorter)
          inner (Bind x ts o) w = tt
          inner (Split n a b o) w = tt

      pub step_left : {x : ℕ} → left ≡ 7 ∷ x ∷ [] → TellsBound x right rest' r → TellsNext pairs r
      step_left {x} e B = tells B.within (λ a b p q. rw (is_var a x (sym p ∙ e)) (B.is b q))

      module _ (n : NoUnknown left) where
        pub step_right : {y : ℕ} → right ≡ 7 ∷ y ∷ [] → TellsBound y left rest' r → TellsNext pairs r
        step_right {y} e B = tells B.within (λ a b p q.
            rw (is_var b y (sym q ∙ e)) (rw (← other_var a y (no_var n a p)) (B.is a p)))

        pub step_apart : NoUnknown right → TellsApart left right rest' r → TellsNext pairs r
        step_apart m A = tells A.within (λ a b p q. A.is a b p q (no_var n a p) (no_var m b q))
