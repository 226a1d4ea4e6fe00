-- The run: the stage that stands in a half of the slice has the result of the first. Each turn leaves fewer unknowns in the pairs, or as
-- many and fewer words on the left sides; both are at most the words of the stage, so neither count runs out.
use Rattle.std.proofs.Common.{Bool, true, false, List, [], ◌∷◌, ◌++◌, append_assoc, map, ◌≡◌, ℕ, suc, ◌+◌, ◌-◌, ◌*◌, ◌≤◌, ◌<◌, length, take, drop, refl, sym}
use Rattle.std.proofs.Common.{ap, ◌∙◌, inl, inr, ⊎_elim, arith, length-append, length-drop}
use Rattle.std.proofs.lemmas.List.{take_at, take-append-le, take-take, length-take, length-take-le}
use Rattle.std.proofs.lemmas.Slice.{between_is}
use Rattle.std.proofs.Math.Seq.{drop-drop}
use Rattle.std.proofs.Math.Nat.{suc-mul}
use mathlib.Core.Bool.{not}
use Rattle.std.specs.Prelude.{Err, None, Ok, Option, Result, Some}
use Rattle.std.specs.Borrow.{Bor}
use Rattle.plain.specs.Slices.{slice}
use Rattle.unification.specs.Ty.{Kind, Ty, leaf, node, Var, Error, Row, ε, cell}
use Rattle.unification.specs.Robinson.{Equation}
use Rattle.unification.proofs.Tests.{clash}
use Rattle.plain_theory.specs.Plain as Theory
use Rattle.plain_theory.specs.Plain.{Stage, solved, failed, in_pair, in_binding, PlainStep, drops, fails, splits, binds, step, needs, done, on, after, next_of}
use Rattle.plain_theory.specs.Plain.{next, full}
use Rattle.plain_theory.specs.Words.{head_spelled, spelled, row_spelled, pairs_spelled, bindings_spelled}
use Rattle.plain_theory.specs.Falls.{in_pairs_append, lefts, lefts_append, words_some, replaced_pairs, StepFalls, step_falls}
use Rattle.plain_theory.specs.Solve.{without, mem_without, without_fewer, Lists, unknowns, row_unknowns, all_unknowns, all_listed, solve}
use Rattle.plain_theory.proofs.Runs.{solve_next, solve_done, solve_stuck, solve_full}
use Rattle.plain_theory.proofs.Words.{spelled_words, needs_words}
use Rattle.plain.specs.declared.Next.{Next}
use Rattle.plain.specs.declared.Next.TheVariants.{Done, Stuck, Drop, Bind, Split}
use Rattle.plain.specs.declared.Turn.{Turn}
use Rattle.plain.specs.declared.Turn.TheVariants.{Last, Dropped, Bound, Parted}
use Rattle.plain.specs.declared.Unsolved.{Unsolved}
use Rattle.plain.specs.Tokens.{swapped}
use Rattle.plain.specs.Stages.{ToldOf, ToldNext, TellsNext, Lays, StaysInside, BindLays, SplitLays, OverRoom, PlainTurned, GivesResult, PlainRuns}
use Rattle.plain.proofs.Slices.{slice_long, slice_low, slice_rest, part_is}
use Rattle.plain.proofs.Swaps.{swap_pairs, swap_bindings}

-- ---- The counts at the start

mutual
  unfolding spelled unknowns

  unknowns_few : (t : Ty) → length (unknowns t) ≤ length (spelled t)
  unknowns_few (leaf p) = omega arith
  unknowns_few (node k r) = omega (arith, row_unknowns_few r k)
  unknowns_few (Var x) = omega arith
  unknowns_few Error = omega arith

  row_unknowns_few : (r : Row) (k : Kind) → length (row_unknowns r) ≤ length (row_spelled r k)
  row_unknowns_few ε k = omega arith
  row_unknowns_few (cell key label t r) k =
      omega (
        arith,
        unknowns_few t,
        row_unknowns_few r k,
        length-append (unknowns t) (row_unknowns r),
        length-append (head_spelled k key label) (spelled t ++ row_spelled r k),
        length-append (spelled t) (row_spelled r k),
      )

all_few : (ps : List Equation) → length (all_unknowns ps) ≤ length (pairs_spelled ps)
unfolding all_unknowns pairs_spelled
all_few [] = omega arith
all_few (p ∷ ps) =
    omega (
      arith,
      all_few ps,
      unknowns_few p.left,
      unknowns_few p.right,
      length-append (unknowns p.left) (unknowns p.right ++ all_unknowns ps),
      length-append (unknowns p.right) (all_unknowns ps),
      length-append (spelled p.left) (spelled p.right ++ pairs_spelled ps),
      length-append (spelled p.right) (pairs_spelled ps),
    )

lefts_few : (ps : List Equation) → lefts ps ≤ length (pairs_spelled ps)
unfolding lefts pairs_spelled
lefts_few [] = omega arith
lefts_few (p ∷ ps) =
    omega (
      arith,
      lefts_few ps,
      spelled_words p.left,
      length-append (spelled p.left) (spelled p.right ++ pairs_spelled ps),
      length-append (spelled p.right) (pairs_spelled ps),
    )

pairs_append : (qs ps : List Equation) → pairs_spelled (qs ++ ps) ≡ pairs_spelled qs ++ pairs_spelled ps
unfolding pairs_spelled
pairs_append [] ps = refl
pairs_append (q ∷ qs) ps =
    rw (
      append_assoc (spelled q.left) (spelled q.right ++ pairs_spelled qs) (pairs_spelled ps),
      append_assoc (spelled q.right) (pairs_spelled qs)
          (pairs_spelled ps),
    )
    (ap (λ (l : List ℕ). spelled q.left ++ (spelled q.right ++ l)) (pairs_append qs ps))

-- ---- The measure

pub less_words : (u h : ℕ) {w v : ℕ} → (1 ≤ w) × (v ≡ w - 1) → u * (h + 1) + v < u * (h + 1) + w
less_words u h t = omega (arith, t)

pub less_unknowns : {u x : ℕ} (h w : ℕ) {v : ℕ} → (1 ≤ u) × (x ≡ u - 1) → v ≡ h → x * (h + 1) + v < u * (h + 1) + w
less_unknowns {u} {x} h w t e =
    let one : u ≡ suc x = omega (arith, t) in
    let all : u * (h + 1) ≡ x * (h + 1) + (h + 1) = ap (λ (k : ℕ). k * (h + 1)) one ∙ suc-mul x (h + 1) in
    omega arith

-- ---- What is told says what comes next

-- The first pair, and what is told of it.
record Taken (ps : List Equation) (r : Next) : Type 0 where
  first : Equation
  rest : List Equation
  are : ps ≡ first ∷ rest
  told : ToldOf r (pairs_spelled rest) (step first.left first.right)

taken : {r : Next} (ps : List Equation) → (r ≡ Done → ⊥) → ToldNext r ps → Taken ps r
taken [] n t = absurd (n t)
taken (c ∷ ps) n t = record { first = c; rest = ps; are = refl; told = t }

none_left : (ps : List Equation) → ToldNext Done ps → ps ≡ []
none_left [] t = refl
none_left (c ∷ ps) t = absurd t

next_none : (g : Stage) → g.pairs ≡ [] → next g ≡ done
unfolding next next_of
next_none g e = ap (λ (ps : List Equation). next_of ps g.bindings) e

next_after : (g : Stage) (c : Equation) (ps : List Equation) → g.pairs ≡ c ∷ ps → (st : PlainStep) → step c.left c.right ≡ st
    → next g ≡ after st ps g.bindings
unfolding next next_of
next_after g c ps e st f = ap (λ (qs : List Equation). next_of qs g.bindings) e ∙ ap (λ (s : PlainStep). after s ps g.bindings) f

-- ---- The halves

-- The half that the stage stands in, with the halves in order; with the halves exchanged, the room.
abbrev pub half_at : Bool → List ℕ → List ℕ → List ℕ
half_at true low high = high
half_at false low high = low

-- A turn read the half of the stage and wrote into the other.
pub record Turning (up : Bool) (low high : List ℕ) (b p e : ℕ) (low' high' : List ℕ) (r : Result Turn Unsolved) : Type 0 where
  pub turned : PlainTurned (take b (half_at up low high)) (slice p e (half_at up low high)) (half_at up high low) (half_at up high' low') r
  pub kept : half_at up low' high' ≡ half_at up low high

pub turning_up : {up : Bool} → up ≡ true → (low high : List ℕ) (b p e : ℕ) (low' high' : List ℕ) (r : Result Turn Unsolved) → high' ≡ high
    → PlainTurned (take b high) (take (e - p) (drop p high)) low low' r → Turning up low high b p e low' high' r
turning_up z low high b p e low' high' r k t = rw z (record { turned = rw (part_is high p e) at t; kept = k })

pub turning_low : {up : Bool} → up ≡ false → (low high : List ℕ) (b p e : ℕ) (low' high' : List ℕ) (r : Result Turn Unsolved) → low' ≡ low
    → PlainTurned (take b low) (take (e - p) (drop p low)) high high' r → Turning up low high b p e low' high' r
turning_low z low high b p e low' high' r k t = rw z (record { turned = rw (part_is low p e) at t; kept = k })

-- ---- The stage that stands there

pub record Standing (lent : ℕ) (g₀ : Stage) (l : List ℕ) (b p e unknowns words : ℕ) : Type 0 where
  pub stage : Stage
  pub same : solve lent g₀ ≡ solve lent stage
  pub bound : slice 0 b l ≡ bindings_spelled stage.bindings
  pub pairs : slice p e l ≡ pairs_spelled stage.pairs
  pub fewer : lefts stage.pairs ≤ words
  pub list : List ℕ
  pub lists : Lists list stage.pairs
  pub few : length list ≤ unknowns

pub record Running (l₀ : List ℕ) (b₀ e₀ : ℕ) (l room : List ℕ) (b p e unknowns words : ℕ) : Type 0 where
  pub long : length l ≡ length l₀
  pub room_long : length room ≡ length l₀
  pub b_p : b ≤ p
  pub p_e : p ≤ e
  pub e_in : e ≤ length l
  pub stands : (lent : ℕ) (g : Stage) → length l₀ + length l₀ ≤ lent → lent ≤ length l₀ + length l₀ + 1 → slice 0 b₀ l₀ ≡ bindings_spelled g.bindings
      → slice b₀ e₀ l₀ ≡ pairs_spelled g.pairs → Standing lent g l b p e unknowns words

pub run_start : (l room : List ℕ) (b e : ℕ) → (b ≤ e) × (e ≤ length l) × (length room ≡ length l) → Running l b e l room b b e (length l) (length l)
run_start l room b e h = record {
  long = refl;
  room_long = h.2;
  b_p = omega arith;
  p_e = h.0;
  e_in = h.1;
  stands = λ lent g lo hi eb ep.
      let words : length (pairs_spelled g.pairs) ≡ e - b = ap length (sym ep) ∙ slice_long l b e h.1 in
      record {
        stage = g;
        same = refl;
        bound = eb;
        pairs = ep;
        fewer = omega (arith, words, lefts_few g.pairs);
        list = all_unknowns g.pairs;
        lists = all_listed g.pairs;
        few = omega (arith, words, all_few g.pairs);
      };
}

module _ {l₀ : List ℕ} {b₀ e₀ : ℕ} {l room : List ℕ} {b p e u w : ℕ} (g : Running l₀ b₀ e₀ l room b p e u w) where
  fits : {lent : ℕ} {g₀ : Stage} → length l₀ + length l₀ ≤ lent → (s : Standing lent g₀ l b p e u w) → needs s.stage ≤ lent
  fits lo s =
      let bs : length (bindings_spelled s.stage.bindings) ≡ b - 0 = ap length (sym s.bound) ∙ slice_long l 0 b (omega (arith, g.b_p, g.p_e, g.e_in)) in
      let ps : length (pairs_spelled s.stage.pairs) ≡ e - p = ap length (sym s.pairs) ∙ slice_long l p e g.e_in in
      omega (arith, needs_words s.stage, g.b_p, g.p_e, g.e_in, g.long)

  -- what is told of the stage that stands there
  telling : {t : Next} → TellsNext (slice p e l) t → {lent : ℕ} {g₀ : Stage} (s : Standing lent g₀ l b p e u w) → ToldNext t s.stage.pairs
  telling T s = T.is s.stage.pairs s.pairs

  -- at the end the words may stand elsewhere
  pub run_done : TellsNext (slice p e l) Done → {l' : List ℕ} → take b l' ≡ take b l → length l' ≡ length l₀ → PlainRuns l₀ (length l₀) 0 b₀ e₀ l' (Ok b)
  run_done T {l'} copied long = record {
    is = λ lent g₀ lo hi eb ep.
        let s = g.stands lent g₀ lo hi eb ep in
        let bs : length (bindings_spelled s.stage.bindings) ≡ b - 0 =
        ap length (sym s.bound) ∙ slice_long l 0 b (omega (arith, g.b_p, g.p_e, g.e_in)) in
        let same : b ≡ length (bindings_spelled s.stage.bindings) = omega arith in
        rw (s.same ∙ solve_done lent s.stage (fits lo s) (next_none s.stage (none_left s.stage.pairs (telling T s))))
        (ap Ok same, ap (λ (k : ℕ). slice 0 k l') (sym same) ∙ slice_low l l' b copied 0 b (omega arith) ∙ s.bound);
    long = long;
  }

  pub run_stuck : TellsNext (slice p e l) Stuck → {l' : List ℕ} → length l' ≡ length l₀ → PlainRuns l₀ (length l₀) 0 b₀ e₀ l' (Err Unsolved.Failure)
  unfolding after
  run_stuck T long = record {
    is = λ lent g₀ lo hi eb ep.
        let s = g.stands lent g₀ lo hi eb ep in
        let c = taken s.stage.pairs (λ z. clash (cc)) (telling T s) in
        rw (s.same ∙ solve_stuck lent s.stage (fits lo s) (next_after s.stage c.first c.rest c.are fails c.told)) refl;
    long = long;
  }

  -- a pair is left where there is something to be done
  some_words : {lent : ℕ} {g₀ : Stage} (s : Standing lent g₀ l b p e u w) {r : Next} → Taken s.stage.pairs r → 0 < w
  unfolding lefts
  some_words s c = omega (arith, s.fewer, ap lefts c.are, words_some c.first.left)

  pub never_out : {t : Next} → TellsNext (slice p e l) t → (t ≡ Done → ⊥) → (1 ≤ w → ⊥) → {l' : List ℕ} → length l' ≡ length l₀
      → PlainRuns l₀ (length l₀) 0 b₀ e₀ l' (Err Unsolved.TooFew)
  never_out T n z long = record {
    is = λ lent g₀ lo hi eb ep.
        let s = g.stands lent g₀ lo hi eb ep in
        absurd (omega (arith, some_words s (taken s.stage.pairs n (telling T s))));
    long = long;
  }

  -- ---- A pair is dropped

  pub run_drop : (o : Bor (List ℕ)) → TellsNext (slice p e l) (Drop o) → {room' : List ℕ} → length room' ≡ length l₀ → {w' : ℕ} → w' ≡ w - 1
      → Running l₀ b₀ e₀ l room' b (e - length o.now) e u w'
  unfolding after lefts pairs_spelled
  run_drop o T long le = record {
    long = g.long;
    room_long = long;
    b_p = omega (arith, shorter, g.b_p, g.p_e);
    p_e = omega arith;
    e_in = g.e_in;
    stands = λ lent g₀ lo hi eb ep.
        let s = g.stands lent g₀ lo hi eb ep in
        let c = taken s.stage.pairs (λ z. clash (cc)) (telling T s) in
        let ls : Lists s.list (c.first ∷ c.rest) = rw c.are at s.lists in
        let front = spelled c.first.left ++ spelled c.first.right in
        let whole : slice p e l ≡ front ++ pairs_spelled c.rest =
        s.pairs ∙ ap pairs_spelled c.are ∙ sym (append_assoc (spelled c.first.left) (spelled c.first.right) (pairs_spelled c.rest)) in
        let place : p + length front ≡ e - length o.now = omega
        (arith, ap length whole ∙ length-append front (pairs_spelled c.rest), slice_long l p e g.e_in, ap length c.told.1) in
        record {
          stage = record { pairs = c.rest; bindings = s.stage.bindings };
          same = s.same ∙ solve_next lent s.stage (record { pairs = c.rest; bindings = s.stage.bindings }) (fits lo s)
              (next_after s.stage c.first c.rest c.are drops c.told.0);
          bound = s.bound;
          pairs = ap (λ (k : ℕ). slice k e l) (sym place) ∙ slice_rest l p e front (pairs_spelled c.rest) whole;
          fewer = omega (arith, s.fewer, ap lefts c.are, words_some c.first.left);
          list = s.list;
          lists = λ y i. ls y (inr i);
          few = s.few;
        };
  }
    where
      shorter : length o.now ≤ e - p
      shorter = omega (arith, T.within, slice_long l p e g.e_in)

  -- ---- The next stage, laid out in the room or too long for it

  over_full : {lent : ℕ} {g₀ : Stage} → length l₀ + length l₀ ≤ lent → lent ≤ length l₀ + length l₀ + 1 → (s : Standing lent g₀ l b p e u w) (g' : Stage)
      → next s.stage ≡ on g' → {room' : List ℕ} → Lays (bindings_spelled g'.bindings) (pairs_spelled g'.pairs) room room' None → solve lent g₀ ≡ full
  over_full {lent} lo hi s g' nx L =
      s.same ∙ solve_next lent s.stage g' (fits lo s) nx ∙ solve_full lent g' (omega (arith, needs_words g', L.over refl, g.room_long))

  module _ {room' : List ℕ} {j k : ℕ} (stays : StaysInside room room' (Some (j, k))) where
    k_in : k ≤ length room'
    k_in = omega (arith, stays.long, (stays.inside j k refl).1)

    landed : {lent : ℕ} {g₀ : Stage} → length l₀ + length l₀ ≤ lent → (s : Standing lent g₀ l b p e u w) (g' : Stage) → next s.stage ≡ on g'
        → Lays (bindings_spelled g'.bindings) (pairs_spelled g'.pairs) room room' (Some (j, k))
        → {u' w' : ℕ} → lefts g'.pairs ≤ w' → (us : List ℕ) → Lists us g'.pairs → length us ≤ u'
        → Standing lent g₀ room' j j k u' w'
    landed {lent} lo s g' nx L le us ls few = record {
      stage = g';
      same = s.same ∙ solve_next lent s.stage g' (fits lo s) nx;
      bound = (L.there j k refl).0;
      pairs = (L.there j k refl).1;
      fewer = le;
      list = us;
      lists = ls;
      few = few;
    }

    -- the stage that was there is the room of the next
    runs_on : {u' w' : ℕ} → ((lent : ℕ) (g₀ : Stage) → length l₀ + length l₀ ≤ lent → lent ≤ length l₀ + length l₀ + 1
        → slice 0 b₀ l₀ ≡ bindings_spelled g₀.bindings → slice b₀ e₀ l₀ ≡ pairs_spelled g₀.pairs → Standing lent g₀ room' j j k u' w')
        → Running l₀ b₀ e₀ room' l j j k u' w'
    runs_on f = record {
      long = stays.long ∙ g.room_long;
      room_long = g.long;
      b_p = omega arith;
      p_e = (stays.inside j k refl).0;
      e_in = k_in;
      stands = f;
    }

  -- ---- A pair is taken apart

  module _ {n : ℕ} {left right rest : Bor (List ℕ)} (T : TellsNext (slice p e l) (Split n left right rest)) {room' : List ℕ} {r : Option (ℕ × ℕ)}
      (S : SplitLays (take b l) room room' n left.now right.now rest.now r) where
    take_is : slice 0 b l ≡ take b l
    unfolding slice
    take_is = refl

    record Parting {lent : ℕ} {g₀ : Stage} (s : Standing lent g₀ l b p e u w) : Type 0 where
      to : Stage
      goes : next s.stage ≡ on to
      lays : Lays (bindings_spelled to.bindings) (pairs_spelled to.pairs) room room' r
      fewer : lefts to.pairs ≤ w - 1
      lists : Lists s.list to.pairs

    parting : {lent : ℕ} {g₀ : Stage} (s : Standing lent g₀ l b p e u w) → Parting s
    unfolding after lefts
    parting s =
        let c = taken s.stage.pairs (λ z. clash (cc)) (telling T s) in
        let f = c.told in
        let down : StepFalls c.first.left c.first.right (splits f.0) = rw f.1.0 at (step_falls c.first.left c.first.right) in
        let ls : Lists s.list (c.first ∷ c.rest) = rw c.are at s.lists in
        let text : pairs_spelled f.0 ++ rest.now ≡ pairs_spelled (f.0 ++ c.rest) =
        ap (λ (x : List ℕ). pairs_spelled f.0 ++ x) f.1.2 ∙ sym (pairs_append f.0 c.rest) in
        record {
          to = record { pairs = f.0 ++ c.rest; bindings = s.stage.bindings };
          goes = next_after s.stage c.first c.rest c.are (splits f.0) f.1.0;
          lays = rw (← s.bound, ← text, take_is) (S f.0 f.1.1);
          fewer = omega (arith, lefts_append f.0 c.rest, down.0, s.fewer, ap lefts c.are);
          lists = λ y j. ls y (⊎_elim (λ i. inl (down.1 y i)) inr (in_pairs_append y f.0 c.rest j));
        }

  module _ {n : ℕ} {left right rest : Bor (List ℕ)} (T : TellsNext (slice p e l) (Split n left right rest)) {room' : List ℕ} where
    run_split_full : SplitLays (take b l) room room' n left.now right.now rest.now None → {l' : List ℕ} → length l' ≡ length l₀
        → PlainRuns l₀ (length l₀) 0 b₀ e₀ l' (Err Unsolved.TooFew)
    run_split_full S long = record {
      is = λ lent g₀ lo hi eb ep.
          let s = g.stands lent g₀ lo hi eb ep in
          let c = parting T S s in
          rw (over_full lo hi s c.to c.goes c.lays) refl;
      long = long;
    }

    pub run_split : {j k : ℕ} → SplitLays (take b l) room room' n left.now right.now rest.now (Some (j, k)) → StaysInside room room' (Some (j, k))
        → {w' : ℕ} → w' ≡ w - 1 → Running l₀ b₀ e₀ room' l j j k u w'
    run_split S stays z = runs_on stays (λ lent g₀ lo hi eb ep.
        let s = g.stands lent g₀ lo hi eb ep in
        let c = parting T S s in
        landed stays lo s c.to c.goes c.lays (omega (arith, c.fewer)) s.list c.lists s.few)

  -- ---- An unknown is bound

  module _ {x : ℕ} {ts rest : Bor (List ℕ)} (T : TellsNext (slice p e l) (Bind x ts rest)) where
    record BindingNow {lent : ℕ} {g₀ : Stage} (s : Standing lent g₀ l b p e u w) : Type 0 where
      ty : Ty
      others : List Equation
      goes : next s.stage ≡ on (record {
        pairs = map (in_pair x ty) others;
        bindings = record { unknown = x; to = ty } ∷ map (in_binding x ty)
            s.stage.bindings;
      })
      stands : ts.now ≡ spelled ty
      behind : rest.now ≡ pairs_spelled others
      fewer : length (without x s.list) < length s.list
      lists : Lists (without x s.list) (map (in_pair x ty) others)

    binding_now : {lent : ℕ} {g₀ : Stage} (s : Standing lent g₀ l b p e u w) → BindingNow s
    unfolding after
    binding_now s =
        let c = taken s.stage.pairs (λ z. clash (cc)) (telling T s) in
        let f = c.told in
        let down : StepFalls c.first.left c.first.right (binds x f.0) = rw f.1.0 at (step_falls c.first.left c.first.right) in
        let ls : Lists s.list (c.first ∷ c.rest) = rw c.are at s.lists in
        record {
          ty = f.0;
          others = c.rest;
          goes = next_after s.stage c.first c.rest c.are (binds x f.0) f.1.0;
          stands = f.1.1;
          behind = f.1.2;
          fewer = without_fewer x s.list (ls x (inl down.0));
          lists = λ y j. ⊎_elim
              (λ i. mem_without x y s.list (ls y (inr i.0)) i.1)
              (λ i. mem_without x y s.list (ls y (inl (down.2 y i))) (λ z. down.1 (rw z at i)))
              (replaced_pairs x f.0 y c.rest j);
        }

    pub run_bind_none : (1 ≤ u → ⊥) → {l' : List ℕ} → length l' ≡ length l₀ → PlainRuns l₀ (length l₀) 0 b₀ e₀ l' (Err Unsolved.TooFew)
    run_bind_none z long = record {
      is = λ lent g₀ lo hi eb ep. let s = g.stands lent g₀ lo hi eb ep in absurd (omega (arith, (binding_now s).fewer, s.few));
      long = long;
    }

    module _ {room' : List ℕ} {r : Option (ℕ × ℕ)} (B : BindLays (take b l) room room' x ts.now rest.now r) where
      laid : {lent : ℕ} {g₀ : Stage} (s : Standing lent g₀ l b p e u w) (c : BindingNow s)
          → Lays (bindings_spelled (record { unknown = x; to = c.ty } ∷ map (in_binding x c.ty) s.stage.bindings))
          (pairs_spelled (map (in_pair x c.ty) c.others)) room room' r
      unfolding bindings_spelled slice
      laid s c =
          let bound : take b l ≡ bindings_spelled s.stage.bindings = s.bound in
          let bs : ts.now ++ swapped x ts.now (take b l) ≡ spelled c.ty ++ bindings_spelled (map (in_binding x c.ty) s.stage.bindings) =
          rw (c.stands, bound) (ap (λ (y : List ℕ). spelled c.ty ++ y) (swap_bindings x c.ty s.stage.bindings)) in
          let ps : swapped x ts.now rest.now ≡ pairs_spelled (map (in_pair x c.ty) c.others) =
          rw (c.stands, c.behind) (swap_pairs x c.ty c.others) in
          rw (← bs, ← ps) B

    module _ {room' : List ℕ} where
      run_bind_full : BindLays (take b l) room room' x ts.now rest.now None → {l' : List ℕ} → length l' ≡ length l₀
          → PlainRuns l₀ (length l₀) 0 b₀ e₀ l' (Err Unsolved.TooFew)
      run_bind_full B long = record {
        is = λ lent g₀ lo hi eb ep.
            let s = g.stands lent g₀ lo hi eb ep in
            let c = binding_now s in
            rw (over_full lo hi s _ c.goes (laid B s c)) refl;
        long = long;
      }

      pub run_bind : {j k : ℕ} → BindLays (take b l) room room' x ts.now rest.now (Some (j, k)) → StaysInside room room' (Some (j, k))
          → {u' w' : ℕ} → u' ≡ u - 1 → w' ≡ length l₀ → Running l₀ b₀ e₀ room' l j j k u' w'
      run_bind {j} {k} B stays y z = runs_on stays (λ lent g₀ lo hi eb ep.
          let s = g.stands lent g₀ lo hi eb ep in
          let c = binding_now s in
          let L = laid B s c in
          let words : length (pairs_spelled (map (in_pair x c.ty) c.others)) ≡ k - j =
          ap length (sym (L.there j k refl).1) ∙ slice_long room' j k (k_in stays) in
          landed stays lo s _ c.goes L
          (omega (arith, words, lefts_few (map (in_pair x c.ty) c.others), stays.inside j k refl, g.room_long))
          (without x s.list) c.lists (omega (arith, c.fewer, s.few)))

  -- ---- A turn that ends the run with an error

  ends_full : (room' : List ℕ) (t : Next) → TellsNext (slice p e l) t → OverRoom (take b l) room room' t → {l' : List ℕ} → length l' ≡ length l₀
      → PlainRuns l₀ (length l₀) 0 b₀ e₀ l' (Err Unsolved.TooFew)
  ends_full room' Done T o long = absurd o
  ends_full room' Stuck T o long = absurd o
  ends_full room' (Drop rest) T o long = absurd o
  ends_full room' (Bind x ts rest) T o long = run_bind_full T o long
  ends_full room' (Split n left right rest) T o long = run_split_full T o long

  pub run_ends : (room' : List ℕ) (f : Unsolved) → PlainTurned (take b l) (slice p e l) room room' (Err f) → {l' : List ℕ} → length l' ≡ length l₀
      → PlainRuns l₀ (length l₀) 0 b₀ e₀ l' (Err f)
  run_ends room' Unsolved.Failure T long = run_stuck T long
  run_ends room' Unsolved.ShutOut T long = absurd T
  run_ends room' Unsolved.TooFew T long = ends_full room' T.0 T.1 T.2 long

-- ---- The halves change roles

half_long : {n : ℕ} (up : Bool) (low high : List ℕ) → (length low ≡ n) × (length high ≡ n) → length (half_at up low high) ≡ n
half_long true low high e = e.1
half_long false low high e = e.0

flipped : (up : Bool) (low high : List ℕ) → half_at (not up) low high ≡ half_at up high low
flipped true low high = refl
flipped false low high = refl

module _ {l₀ : List ℕ} {b₀ e₀ : ℕ} {up : Bool} {low high : List ℕ} {b p e u w : ℕ}
    (g : Running l₀ b₀ e₀ (half_at up low high) (half_at up high low) b p e u w) {low' high' : List ℕ} {r : Result Turn Unsolved}
    (T : Turning up low high b p e low' high' r) (long : (length low' ≡ length l₀) × (length high' ≡ length l₀)) where
  room_long : length (half_at up high' low') ≡ length l₀
  room_long = half_long up high' low' (long.1, long.0)

  told : {r' : Result Turn Unsolved} → r ≡ r'
      → PlainTurned (take b (half_at up low high)) (slice p e (half_at up low high)) (half_at up high low) (half_at up high' low') r'
  told z = rw z at T.turned

  pub halves_end : {f : Unsolved} → r ≡ Err f → PlainRuns l₀ (length l₀) 0 b₀ e₀ low' (Err f)
  halves_end {f} z = run_ends g (half_at up high' low') f (told z) long.0

  -- after the last turn the upper half's bindings are copied down
  pub halves_copied : r ≡ Ok Last → up ≡ true → {l' : List ℕ} → l' ≡ take b high' ++ drop (length (take b high')) low' → length l' ≡ length low'
      → PlainRuns l₀ (length l₀) 0 b₀ e₀ l' (Ok b)
  halves_copied z y {l'} c n =
      let stands : high' ≡ half_at up low high = ap (λ (v : Bool). half_at v low' high') (sym y) ∙ T.kept in
      let fits : length (take b high') ≡ b = length-take-le b high' (omega (arith, g.b_p, g.p_e, g.e_in, ap length stands)) in
      run_done g (told z) (ap (take b) c ∙ take_at (take b high') (drop (length (take b high')) low') b fits ∙ ap (take b) stands) (n ∙ long.0)

  pub halves_done : r ≡ Ok Last → up ≡ false → PlainRuns l₀ (length l₀) 0 b₀ e₀ low' (Ok b)
  halves_done z y =
      let stands : low' ≡ half_at up low high = ap (λ (v : Bool). half_at v low' high') (sym y) ∙ T.kept in
      run_done g (told z) (ap (take b) stands) long.0

  pub halves_drop : {n w' : ℕ} → r ≡ Ok (Dropped n) → w' ≡ w - 1
      → Running l₀ b₀ e₀ (half_at up low' high') (half_at up high' low') b (e - n) e u w'
  halves_drop z y =
      let t = told z in
      rw (T.kept, t.2) (run_drop g t.0 t.1 room_long y)

  pub halves_drop_out : {n : ℕ} → r ≡ Ok (Dropped n) → (1 ≤ w → ⊥) → PlainRuns l₀ (length l₀) 0 b₀ e₀ low' (Err Unsolved.TooFew)
  halves_drop_out z y = never_out g (told z).1 (λ x. clash (cc)) y long.0

  pub halves_bind : {j k u' w' : ℕ} → r ≡ Ok (Bound j k) → u' ≡ u - 1 → w' ≡ length l₀
      → Running l₀ b₀ e₀ (half_at (not up) low' high') (half_at (not up) high' low') j j k u' w'
  halves_bind z x y =
      let t = told z in
      rw (flipped up low' high', flipped up high' low', T.kept) (run_bind g t.3 t.4 t.5 x y)

  pub halves_bind_out : {j k : ℕ} → r ≡ Ok (Bound j k) → (1 ≤ u → ⊥) → PlainRuns l₀ (length l₀) 0 b₀ e₀ low' (Err Unsolved.TooFew)
  halves_bind_out z y = run_bind_none g (told z).3 y long.0

  pub halves_split : {j k w' : ℕ} → r ≡ Ok (Parted j k) → w' ≡ w - 1
      → Running l₀ b₀ e₀ (half_at (not up) low' high') (half_at (not up) high' low') j j k u w'
  halves_split z x =
      let t = told z in
      rw (flipped up low' high', flipped up high' low', T.kept) (run_split g t.4 t.5 t.6 x)

  pub halves_split_out : {j k : ℕ} → r ≡ Ok (Parted j k) → (1 ≤ w → ⊥) → PlainRuns l₀ (length l₀) 0 b₀ e₀ low' (Err Unsolved.TooFew)
  halves_split_out z y = never_out g (told z).4 (λ x. clash (cc)) y long.0

-- ---- From the half on

slice_behind : (l : List ℕ) (h i j : ℕ) → slice i j (drop h l) ≡ slice (h + i) (h + j) l
unfolding slice
slice_behind l h i j =
    let near : h + j - h ≡ j = omega arith in
    ap (drop i) (ap (λ (k : ℕ). take k (drop h l)) (sym near) ∙ between_is l h (h + j)) ∙ drop-drop i h (take (h + j) l)

pub gives_front : (a b : List ℕ) (r : Result ℕ Unsolved) (t : Theory.PlainResult) → GivesResult a r t → GivesResult (a ++ b) r t
unfolding slice
gives_front a b r (solved bs) g =
    let n = length (bindings_spelled bs) in
    (g.0, take-append-le n a b (omega (arith, ap length g.1, length-take n a)) ∙ g.1)
gives_front a b r failed g = g
gives_front a b r full g = g

pub run_raised : {l : List ℕ} {h b e : ℕ} → h + h ≤ length l → (h ≤ b) × (b ≤ e) × (e ≤ h + h) → {low high : List ℕ} → low ≡ take h l → high ≡ drop h l
    → {low' : List ℕ} (high' : List ℕ) {r : Result ℕ Unsolved} → length high' ≡ length (take h high)
    → PlainRuns (take h high) (length (take h high)) 0 (b - h) (e - h) low' r → PlainRuns l h h b e (low' ++ (high' ++ drop h high)) r
run_raised {l} {h} {b} {e} twice pre {low} {high} el eh {low'} high' {r} kept R = record {
  is = λ lent g lo hi eb ep. gives_front low' (high' ++ drop h high) r (solve lent g)
      (R.is lent g (omega (arith, high_long)) (omega (arith, high_long)) (rw h_h at (part h b (omega arith) pre.0 pre.1) ∙ eb)
      (part b e pre.0 pre.1 (omega arith) ∙ ep));
  long = simp (length-append, length-drop) (omega (arith, R.long, kept, high_long, room_long, twice));
}
  where
    room_long : length high ≡ length l - h
    room_long = ap length eh ∙ length-drop h l

    high_long : length (take h high) ≡ h
    high_long = omega (arith, length-take h high, room_long, twice)

    h_h : h - h ≡ 0
    h_h = omega arith

    upper : take h (take h high) ≡ take h (drop h l)
    upper = take-take h h high (omega arith) ∙ ap (take h) eh

    part : (i j : ℕ) → h ≤ i → i ≤ j → j ≤ e → slice (i - h) (j - h) (take h high) ≡ slice i j l
    part i j x y z =
        let one : h + (i - h) ≡ i = omega arith in
        let two : h + (j - h) ≡ j = omega arith in
        slice_low (drop h l) (take h high) h upper (i - h) (j - h) (omega arith)
        ∙ slice_behind l h (i - h) (j - h) ∙ rw (one, two)
