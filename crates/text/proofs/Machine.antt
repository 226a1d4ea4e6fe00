-- The machine's tables beside the grammar: each rule is one test that antt computes over all entries.
use Rattle.std.proofs.Common.{◌≡◌, refl, ap, sym, ◌∙◌, ℕ, ◌<◌, ◌≤◌, Bool, true, false, ◌&&◌, eqb, leb, ltb, get_or, List, [], Decides, MatchOption}
use Rattle.std.specs.Cmp.Lexicographic.{pointwise}
use Rattle.std.proofs.lemmas.Bool.{agree_below, agree_below_at, and_parts, eqb-true, eq-eqb, leb-true, ltb-true, ltb-false, and_from}
use Rattle.std.specs.Bool.{then_some}
use Rattle.std.proofs.lemmas.Slice.Eq.{slice_eq-Decides}
use Rattle.std.proofs.lemmas.List.{get_or_past}
use Rattle.text.specs.declared.TheConstants.{CLASS, NEXT}
use Rattle.text.specs.Utf8.{Range, ◌to◌, following}
use Rattle.text.proofs.Bytes.{same_at_bytes}
use Rattle.text.specs.Machine.{first_above, class_of, states, wanted, after, Steps, NoSuchByte}
use Rattle.std.specs.Prelude.{None, Option, Some}

-- ---- Classes

-- the table has each byte's class
pub class_is : (b : ℕ) → b < 256 → get_or CLASS b 0 ≡ class_of b
unfolding class_of first_above
class_is b l = same_at_bytes (λ b. get_or CLASS b 0) class_of refl b l

pub class_small : (b : ℕ) → b < 256 → get_or CLASS b 0 < 12
class_small b l = ltb-true _ _ (agree_below_at (λ b. ltb (get_or CLASS b 0) 12) (λ _. true) 256 b refl l)

-- ---- States
abbrev same_range : Range → Range → Bool
same_range r q = eqb r.low q.low && eqb r.high q.high

same_range_decides : (r q : Range) → Decides (same_range r q) (r ≡ q)
same_range_decides r q = (
  λ e. let p = and_parts _ _ e in ap (λ l. l to r.high) (eqb-true _ _ p.0) ∙ ap (λ h. q.low to h) (eqb-true _ _ p.1),
  λ e. and_from _ _ (eq-eqb _ _ (ap (λ x. x.low) e)) (eq-eqb _ _ (ap (λ x. x.high) e)),
)

abbrev same_wanted : Option (List Range) → Option (List Range) → Bool
same_wanted None None = true
same_wanted None (Some qs) = false
same_wanted (Some rs) None = false
same_wanted (Some rs) (Some qs) = pointwise same_range rs qs

same_wanted_is : (o p : Option (List Range)) → same_wanted o p ≡ true → o ≡ p
same_wanted_is None None h = refl
same_wanted_is None (Some qs) h = cc
same_wanted_is (Some rs) None h = cc
same_wanted_is (Some rs) (Some qs) h = ap Some ((slice_eq-Decides same_range_decides rs qs _ refl).0 h)

abbrev pub next_of : ℕ → ℕ → ℕ
next_of state class = get_or (get_or NEXT state []) class 0

moves : ℕ → ℕ → Bool
moves b state = leb (next_of state (class_of b)) 8 && same_wanted (wanted (next_of state (class_of b))) (after (wanted state) b)

all_move : ℕ → Bool
all_move b = agree_below (moves b) (λ _. true) 8

each_moves : (b : ℕ) → b < 256 → all_move b ≡ true
unfolding all_move moves class_of first_above after following
each_moves b l = agree_below_at all_move (λ _. true) 256 b refl l

-- a step of the two tables is the grammar's
pub steps : (state b : ℕ) → state < 8 → b < 256 → Steps state b (next_of state (get_or CLASS b 0))
unfolding all_move moves
steps state b s l =
    let m = and_parts _ _ (agree_below_at (moves b) (λ _. true) 8 state (each_moves b l) s) in
    rw (class_is b l) (record { small = leb-true _ _ m.0; is = same_wanted_is _ _ m.1 })

-- past the states no character goes on
stopped : (next : ℕ) → 8 ≤ next → wanted next ≡ None
stopped next h = get_or_past states next None h

pub stepped : (state b class next : ℕ) → state < 8 → b < 256 → class ≡ get_or CLASS b 0 → next ≡ next_of state class
    → MatchOption (then_some (ltb next 8) next) (NoSuchByte state b) (λ next. (next < 8) × Steps state b next)
stepped state b class next s l e f = go (ltb next 8) refl
  where
    one : Steps state b next
    one = rw (f, e) (steps state b s l)

    go : (t : Bool) → ltb next 8 ≡ t → MatchOption (then_some t next) (NoSuchByte state b) (λ next. (next < 8) × Steps state b next)
    go true q = (ltb-true _ _ q, one)
    go false q = sym one.is ∙ stopped next (ltb-false _ _ q)
