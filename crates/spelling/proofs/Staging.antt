-- The bindings one by one: to write those from x on is to write them all. Then the two sides.
use Rattle.std.proofs.Common.{◌≡◌, ◌↔◌, ℕ, zero, suc, ◌+◌, ◌*◌, ◌≤◌, ◌<◌, List, [], ◌∷◌, ◌++◌, length, get_or, drop, None, Option, Some, refl, sym, ap, ◌∙◌}
use Rattle.std.proofs.Common.{append-nil, add-one, arith, drop_of_length-le, drop-cons, length-append}
use Rattle.std.proofs.lemmas.Option.{some_pair_parts}
use Rattle.unification.specs.Ty as Tree
use Rattle.unification.specs.Bindings.{Subst, bound, zonk, State}
use Rattle.work.specs.Layout.{UNKNOWNS}
use Rattle.cells.specs.declared.Ty.{Ty}
use Rattle.cells.specs.declared.Ty.TheVariants.{Var}
use Rattle.cells.specs.Words.{bound_w}
use Rattle.cells.specs.Stands.{Rows, tree, Ok, Holds}
use Rattle.writer.specs.Writes.{Writes, Moves}
use Rattle.writer.proofs.Writing.{writes_none, writes_then, writes_full, writes_to, writes_over, writes_moves, full_moves, moves_then, moves_none, moves_next}
use Rattle.writer.proofs.Writing.{Goes, goes_next, goes_full, goes_done}
use Rattle.resolving.specs.Scripts.{Resolves}
use Rattle.resolving.proofs.Typing.{resolves}
use Rattle.plain_theory.specs.Plain.{Stage, needs, resolved_from, start}
use Rattle.plain_theory.specs.Words.{spelled, pairs_spelled, bindings_spelled}
use Rattle.plain_theory.proofs.Words.{needs_words}
use Rattle.spelling.specs.Tokens.{SpellsTy, binding_spelled, SpellsBinding, SpellsBindings, SpellsPair, ended, spelled_stage, SpellsStart}

-- ---- A binding
module _ {w l : List ℕ} {at x : ℕ} where
  pub binding_free : bound_w w x ≡ None → SpellsBinding w l at x l (Some at)
  unfolding binding_spelled
  binding_free e = record { is = λ T s R h b. rw (R.binds.at x, e) (writes_none l at b); moves = moves_none l at }

  module _ {t : Ty} (e : bound_w w x ≡ Some t) {mid : List ℕ} {h : Option ℕ} (f : Writes l at (11 ∷ x ∷ []) mid h) where
    pub binding_then : {n : ℕ} → h ≡ Some n → {l' : List ℕ} {r : Option ℕ} → SpellsTy w mid n (Var x) l' r → SpellsBinding w l at x l' r
    unfolding binding_spelled
    binding_then q g = record {
      is = λ T s R i b. rw (R.binds.at x, e) (writes_then f q (g.is T s R i));
      moves = moves_then (writes_moves f) q g.moves;
    }

    pub binding_full : h ≡ None → SpellsBinding w l at x mid None
    unfolding binding_spelled
    binding_full q = record {
      is = λ T s R i b. rw (R.binds.at x, e) (writes_full f q (spelled (zonk s (Tree.Var x))));
      moves = full_moves f.long;
    }

-- ---- The bindings
abbrev from : Subst → ℕ → List ℕ
from s x = bindings_spelled (resolved_from x (drop x s) s)

from_next : (s : Subst) (x : ℕ) → x < length s → from s x ≡ binding_spelled s x (bound s x) ++ from s (x + 1)
unfolding bound binding_spelled resolved_from bindings_spelled
from_next s x h = rw (drop-cons s x None h, add-one x) (go (get_or s x None))
  where
    go : (o : Option Tree.Ty) → bindings_spelled (resolved_from x (o ∷ drop (suc x) s) s)
        ≡ binding_spelled s x o ++ bindings_spelled (resolved_from (suc x) (drop (suc x) s) s)
    go None = refl
    go (Some t) = refl

from_none : (s : Subst) (x : ℕ) → length s ≤ x → from s x ≡ []
unfolding resolved_from bindings_spelled
from_none s x h = rw (drop_of_length-le s h)

pub record Listing (w l₀ : List ℕ) (at n : ℕ) (l : List ℕ) (x to : ℕ) : Type 0 where
  pub all : n ≡ get_or w UNKNOWNS 0
  pub moves : Moves l₀ at l (Some to)
  pub go : (T : Rows) (s : Subst) → Resolves w T s → at ≤ length l₀ → Goes l₀ at (bindings_spelled (resolved_from zero s s)) l to (from s x)

module _ {w l₀ : List ℕ} {at n : ℕ} {l : List ℕ} {x to : ℕ} (g : Listing w l₀ at n l x to) where
  module _ (h : x < n) {l' : List ℕ} {r : Option ℕ} (f : SpellsBinding w l to x l' r) where
    next : (T : Rows) (s : Subst) → Resolves w T s → from s x ≡ binding_spelled s x (bound s x) ++ from s (x + 1)
    next T s R = from_next s x (omega (arith, R.binds.unknowns, g.all))

    pub listing_next : {m : ℕ} → r ≡ Some m → Listing w l₀ at n l' (x + 1) m
    listing_next q = record {
      all = g.all;
      moves = moves_next g.moves f.moves q;
      go = λ T s R b. let k = g.go T s R b in goes_next k _ _ (next T s R) (f.is T s R (omega (arith, g.all)) k.inside) q;
    }

    pub listing_full : r ≡ None → SpellsBindings w l₀ at l' None
    listing_full q = record {
      is = λ T s R b. let k = g.go T s R b in goes_full k _ _ (next T s R) (f.is T s R (omega (arith, g.all)) k.inside) q;
      moves = full_moves (f.moves.long ∙ g.moves.long);
    }

  pub listing_end : n ≤ x → SpellsBindings w l₀ at l (Some to)
  listing_end h = record {
    is = λ T s R b. goes_done (g.go T s R b) (from_none s x (omega (arith, R.binds.unknowns, g.all)));
    moves = g.moves;
  }

-- ---- The two sides
module _ {w l : List ℕ} {at : ℕ} {a b : Ty} {mid : List ℕ} {h : Option ℕ} (f : SpellsTy w l at a mid h) where
  pub pair_then : {n : ℕ} → h ≡ Some n → {l' : List ℕ} {r : Option ℕ} → SpellsTy w mid n b l' r → SpellsPair w l at a b l' r
  unfolding start pairs_spelled
  pair_then q g = record {
    is = λ T s R o p. writes_then (f.is T s R o) q (rw append-nil (g.is T s R p));
    moves = moves_then f.moves q g.moves;
  }

  pub pair_full : h ≡ None → SpellsPair w l at a b mid None
  unfolding start pairs_spelled
  pair_full q = record { is = λ T s R o p. writes_full (f.is T s R o) q _; moves = full_moves f.moves.long }

-- ---- The stage
module _ {w l : List ℕ} {at : ℕ} {a b : Ty} {mid : List ℕ} {h : Option ℕ} (f : SpellsBindings w l at mid h) where
  pub start_full : h ≡ None → SpellsStart w l at a b mid None
  unfolding start
  start_full q = record {
    is = λ T st H o p i. writes_full (f.is T st.subst (resolves H) i) q _;
    between = λ T st H o p i m e z. cc;
    inside = λ m e z low. cc;
    long = f.moves.long;
  }

  module _ {n : ℕ} (q : h ≡ Some n) {l' : List ℕ} {r : Option ℕ} (g : SpellsPair w mid n a b l' r) where
    pub start_over : r ≡ None → SpellsStart w l at a b l' None
    unfolding start
    start_over z = record {
      is = λ T st H o p i. rw z at (writes_then (f.is T st.subst (resolves H) i) q (g.is T st.subst (resolves H) o p));
      between = λ T st H o p i m e y. cc;
      inside = λ m e y low. cc;
      long = g.moves.long ∙ f.moves.long;
    }

    pub start_at : {e : ℕ} → r ≡ Some e → SpellsStart w l at a b l' (Some (n, e))
    unfolding start
    start_at {e} z = record {
      is = λ T st H o p i. rw z at (writes_then (f.is T st.subst (resolves H) i) q (g.is T st.subst (resolves H) o p));
      between = λ T st H o p i m e' y. let k = (some_pair_parts n m e e' y).0 in sym k ∙ (writes_to (f.is T st.subst (resolves H) i) q).0;
      inside = λ m e' y low.
          let k = some_pair_parts n m e e' y in
          let first = f.moves.inside n q low in (
            omega (arith, f.moves.onward n q),
            omega (arith, g.moves.onward e z),
            omega (arith, f.moves.long, g.moves.inside e z (omega (arith, first, f.moves.long))),
          );
      long = g.moves.long ∙ f.moves.long;
    }

-- ---- For who lends two halves and has the second written
module _ {w l : List ℕ} {at : ℕ} {a b : Ty} {l' : List ℕ} {r : Option (ℕ × ℕ)} (S : SpellsStart w l at a b l' r) {T : Rows} {st : State} (H : Holds w T st)
    (o : Ok w a) (p : Ok w b) (half : length l ≡ 2 * at) where
  -- The slice is full exactly where the first stage needs more words than were lent.
  pub start_needs : (r ≡ None) ↔ (length l < needs (start st.subst (tree T a) (tree T b)))
  start_needs = (
    λ e. omega (arith, writes_over there (ap ended e), long, needs_words g),
    λ h. full r (there.over (omega (arith, long, needs_words g))),
  )
    where
      g : Stage
      g = start st.subst (tree T a) (tree T b)

      there : Writes l at (spelled_stage g) l' (ended r)
      there = S.is T st H o p (omega arith)

      long : length (spelled_stage g) ≡ length (bindings_spelled g.bindings) + length (pairs_spelled g.pairs)
      long = length-append (bindings_spelled g.bindings) (pairs_spelled g.pairs)

      full : (x : Option (ℕ × ℕ)) → ended x ≡ None → x ≡ None
      full (Some (m, e)) q = cc
      full None q = refl
