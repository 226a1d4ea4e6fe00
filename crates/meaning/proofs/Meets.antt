-- What a step of the checker makes, and how steps join. A grade says how often each node may be annotated, how many unknowns
-- and how many diagnostics a step may make; the grades of steps add up. Every step keeps the state in order and is a list of
-- demand 3's calls.
use mathlib.Core.List.{List, [], ◌++◌, append_assoc}
use mathlib.Core.Path.{◌≡◌, refl, sym, ◌∙◌, ap}
use Prim.Native.Nat.{ℕ, ◌+◌, ◌≤◌}
use native.Mathlib.Omega.{arith}
use lib.ListN.{length, get_or, length-append}
use Rattle.unification.specs.Ty.{Ty}
use Rattle.unification.specs.Bindings.{start}
use Rattle.unification.specs.Calls.{Side, Taken, Calls}
use Rattle.unification.proofs.Sides.{side_more}
use Rattle.unification.proofs.Undo.{Since, since_refl, since_trans, since_length}
use Rattle.meaning.specs.Diag.{Diagnostic}
use Rattle.meaning.specs.Check.{Checker, Entry, Step, goes, out, Does, and_then}
use Rattle.meaning.specs.Run.{Led}
use Rattle.meaning.specs.Entries.{EntriesLead}
use Rattle.meaning.specs.Grades.{Grade, plus, GradeFits, unknowns, Orderly, Ready}
use Rattle.std.specs.Prelude.{None, Option}

-- From the first checker to the second no more was made than the grade allows.
pub record Made (g : Grade) (c c' : Checker) : Type 0 where
  pub new : ℕ
  pub since : Since new c.state c'.state
  pub unknowns : new ≤ g.unknowns
  pub pushed : List Entry
  pub env : c'.env ≡ pushed ++ c.env
  pub marked : List ℕ
  pub marks : c'.marks ≡ marked ++ c.marks
  pub reported : List Diagnostic
  pub diagnostics : c'.diagnostics ≡ reported ++ c.diagnostics
  pub few : length reported ≤ g.diagnostics
  pub elsewhere : (x : ℕ) → g.nodes x ≡ 0 → get_or c'.state.tys x None ≡ get_or c.state.tys x None
  pub nodes : length c'.state.tys ≡ length c.state.tys
  pub until : c'.until ≡ c.until

-- A list of calls that led to the first leads on to the second, with the same snapshots at hand, and so do the entries, by the histories.
unfoldable pub Reached : Checker → Checker → Type 0
Reached c c' = (v : ℕ) (tys : List (Option Ty)) (ts : List Taken) → Calls v tys (record { state = c.state; taken = ts })
    → (newer : List Taken) × Calls v tys (record { state = c'.state; taken = newer ++ ts }) ×
    (EntriesLead v tys start c.entries c.state.history → EntriesLead v tys start c'.entries c'.state.history)

-- The same where the run ended.
unfoldable pub Stopped : Checker → Checker → Type 0
Stopped c c' = (v : ℕ) (tys : List (Option Ty)) (ts : List Taken) → Calls v tys (record { state = c.state; taken = ts }) → Led v tys c'.state

pub record Went {A : Type 0} (P : A → Checker → Type 0) (g : Grade) (c : Checker) (a : A) (c' : Checker) : Type 0 where
  pub orderly : Orderly c'
  pub made : Made g c c'
  pub reached : Reached c c'
  pub holds : P a c'

pub record Ended (g : Grade) (c c' : Checker) : Type 0 where
  pub made : Made g c c'
  pub stopped : Stopped c c'

-- Where a step leads, with P of its value.
pub data Meets {A : Type 0} (P : A → Checker → Type 0) (g : Grade) (c : Checker) : Step A → Type 0 where
  went : {a : A} {c' : Checker} → Went P g c a c' → Meets P g c (goes a c')
  ended : {c' : Checker} → Ended g c c' → Meets P g c (out c')

-- The same of a step that is known.
abbrev pub MeetsAt : {A : Type 0} → (A → Checker → Type 0) → Grade → Checker → Step A → Type 0
MeetsAt P g c (goes a c') = Went P g c a c'
MeetsAt P g c (out c') = Ended g c c'

pub meets : {A : Type 0} {P : A → Checker → Type 0} {g : Grade} {c : Checker} (s : Step A) → MeetsAt P g c s → Meets P g c s
meets (goes a c') w = went w
meets (out c') w = ended w

pub going : {A : Type 0} {P : A → Checker → Type 0} {g : Grade} {c c' : Checker} {a : A} → Meets P g c (goes a c') → Went P g c a c'
going (went w) = w

-- ---- More unknowns
pub made_more : (g : Grade) (c c' : Checker) → Made g c c' → unknowns c ≤ unknowns c'
made_more g c c' m = omega (arith, since_length m.since)

pub made_side : (g : Grade) (c c' : Checker) (t : Ty) → Made g c c' → Side (unknowns c) t → Side (unknowns c') t
made_side g c c' t m h = side_more (unknowns c) (unknowns c') (made_more g c c' m) t h

-- ---- No step, and one after another
pub made_refl : (g : Grade) (c : Checker) → Made g c c
made_refl g c = record {
  new = 0;
  since = since_refl c.state;
  unknowns = omega arith;
  pushed = [];
  env = refl;
  marked = [];
  marks = refl;
  reported = [];
  diagnostics = refl;
  few = omega arith;
  elsewhere = λ x e. refl;
  nodes = refl;
  until = refl;
}

pub reached_refl : (c : Checker) → Reached c c
unfolding Reached
reached_refl c v tys ts cs = ([], cs, λ h. h)

pub stays : {A : Type 0} (P : A → Checker → Type 0) (g : Grade) (c : Checker) (a : A) → Orderly c → P a c → Meets P g c (goes a c)
stays P g c a o p = went (record { orderly = o; made = made_refl g c; reached = reached_refl c; holds = p })

pub made_trans : (g h k : Grade) (a b c : Checker) → GradeFits (plus g h) k → Made g a b → Made h b c → Made k a c
made_trans g h k a b c f p q = record {
  new = p.new + q.new;
  since = since_trans p.since q.since;
  unknowns = omega (arith, f.unknowns, p.unknowns, q.unknowns);
  pushed = q.pushed ++ p.pushed;
  env = q.env ∙ ap {B = List Entry} (λ es. q.pushed ++ es) p.env ∙ sym (append_assoc q.pushed p.pushed a.env);
  marked = q.marked ++ p.marked;
  marks = q.marks ∙ ap {B = List ℕ} (λ ms. q.marked ++ ms) p.marks ∙ sym (append_assoc q.marked p.marked a.marks);
  reported = q.reported ++ p.reported;
  diagnostics = q.diagnostics ∙ ap {B = List Diagnostic} (λ ds. q.reported ++ ds) p.diagnostics ∙ sym
      (append_assoc q.reported p.reported a.diagnostics);
  few = omega (arith, f.diagnostics, p.few, q.few, length-append q.reported p.reported);
  elsewhere = λ x e. q.elsewhere x (omega (arith, f.nodes x)) ∙ p.elsewhere x (omega (arith, f.nodes x));
  nodes = q.nodes ∙ p.nodes;
  until = q.until ∙ p.until;
}

pub made_fits : (g k : Grade) (a b : Checker) → GradeFits g k → Made g a b → Made k a b
made_fits g k a b f p = record {
  new = p.new;
  since = p.since;
  unknowns = omega (arith, f.unknowns, p.unknowns);
  pushed = p.pushed;
  env = p.env;
  marked = p.marked;
  marks = p.marks;
  reported = p.reported;
  diagnostics = p.diagnostics;
  few = omega (arith, f.diagnostics, p.few);
  elsewhere = λ x e. p.elsewhere x (omega (arith, f.nodes x));
  nodes = p.nodes;
  until = p.until;
}

pub reached_trans : (a b c : Checker) → Reached a b → Reached b c → Reached a c
unfolding Reached
reached_trans a b c p q v tys ts cs =
    let x = p v tys ts cs in
    let y = q v tys (x.0 ++ ts) x.1 in
    (y.0 ++ x.0, rw (append_assoc y.0 x.0 ts) y.1, λ h. y.2 (x.2 h))

stopped_trans : (a b c : Checker) → Reached a b → Stopped b c → Stopped a c
unfolding Reached Stopped
stopped_trans a b c p q v tys ts cs = let x = p v tys ts cs in q v tys (x.0 ++ ts) x.1

-- ---- Nodes that are ready
pub ready_fits : (g k : Grade) (c : Checker) → GradeFits g k → Ready k c → Ready g c
ready_fits g k c f r = record {
  once = λ x. omega (arith, f.nodes x, r.once x);
  there = λ x h. r.there x (omega (arith, f.nodes x));
  bare = λ x h. r.bare x (omega (arith, f.nodes x));
}

-- What one step annotated, the next does not.
pub ready_after : (g h k : Grade) (c c' : Checker) → GradeFits (plus g h) k → Made g c c' → Ready k c → Ready h c'
ready_after g h k c c' f m r = record {
  once = λ x. omega (arith, f.nodes x, r.once x);
  there = λ x i. rw m.nodes (r.there x (omega (arith, f.nodes x)));
  bare = λ x i. m.elsewhere x (omega (arith, f.nodes x, r.once x)) ∙ r.bare x (omega (arith, f.nodes x));
}

pub fits_left : (g h k : Grade) → GradeFits (plus g h) k → GradeFits g k
fits_left g h k f = record { nodes = λ x. omega (arith, f.nodes x); unknowns = omega (arith, f.unknowns); diagnostics = omega (arith, f.diagnostics) }

-- ---- Steps that join

module _ {A B : Type 0} (P : A → Checker → Type 0) (Q : B → Checker → Type 0) (g h k : Grade) (c : Checker) (f : GradeFits (plus g h) k) where
  went_on : {a : A} {b : Checker} {s : Step B} → Went P g c a b → Meets Q h b s → Meets Q k c s
  went_on {a} {b} p (went {c' = e} q) = went (record {
    orderly = q.orderly;
    made = made_trans g h k c b e f p.made q.made;
    reached = reached_trans c b e p.reached q.reached;
    holds = q.holds;
  })
  went_on {a} {b} p (ended {c' = e} q) = ended
      (record { made = made_trans g h k c b e f p.made q.made; stopped = stopped_trans c b e p.reached q.stopped })

  -- A step that is known to go on.
  pub meets_after : {a : A} {b : Checker} {s : Step B} → Ready k c → (Ready g c → Meets P g c (goes a b))
      → (Went P g c a b → Ready h b → Meets Q h b s) → Meets Q k c s
  meets_after {a} {b} r p q = let w = going (p (ready_fits g k c (fits_left g h k f) r)) in went_on w (q w (ready_after g h k c b f w.made r))

  joined : (m : Step A) (next : A → Does B) → Ready k c → Meets P g c m
      → ((a : A) (b : Checker) → Went P g c a b → Ready h b → Meets Q h b (next a b)) → Meets Q k c (and_then m next)
  unfolding and_then
  joined m next r (went {a} {c' = b} w) q = went_on w (q a b w (ready_after g h k c b f w.made r))
  joined m next r (ended {c' = b} w) q = ended (record { made = made_fits g k c b (fits_left g h k f) w.made; stopped = w.stopped })

  pub meets_then : (m : Step A) (next : A → Does B) → Ready k c → (Ready g c → Meets P g c m)
      → ((a : A) (b : Checker) → Went P g c a b → Ready h b → Meets Q h b (next a b)) → Meets Q k c (and_then m next)
  meets_then m next r p q = joined m next r (p (ready_fits g k c (fits_left g h k f) r)) q

-- What follows a step, said from before the step.
pub meets_from : {A B : Type 0} (P : A → Checker → Type 0) (Q : B → Checker → Type 0) (g k : Grade) (c : Checker) (m : Step A) (next : A → Does B)
    → GradeFits g k → Meets P g c m
    → ((a : A) (b : Checker) → Went P g c a b → Meets Q k c (next a b)) → Meets Q k c (and_then m next)
unfolding and_then
meets_from P Q g k c m next f (went {a} {c' = b} w) q = q a b w
meets_from P Q g k c m next f (ended {c' = b} w) q = ended (record { made = made_fits g k c b f w.made; stopped = w.stopped })

pub meets_fits : {A : Type 0} (P : A → Checker → Type 0) (g k : Grade) (c : Checker) {m : Step A} → GradeFits g k → Meets P g c m → Meets P k c m
meets_fits P g k c f (went {c' = b} w) = went (record { orderly = w.orderly; made = made_fits g k c b f w.made; reached = w.reached; holds = w.holds })
meets_fits P g k c f (ended {c' = b} w) = ended (record { made = made_fits g k c b f w.made; stopped = w.stopped })

-- Another value, and what holds of it.
pub went_with : {A B : Type 0} {P : A → Checker → Type 0} {g : Grade} {c b : Checker} {a : A} (Q : B → Checker → Type 0) (x : B) → Went P g c a b
    → Q x b → Meets Q g c (goes x b)
went_with Q x w p = went (record { orderly = w.orderly; made = w.made; reached = w.reached; holds = p })

-- Two steps taken as one.
pub meets_nest : {A B C : Type 0} (P : C → Checker → Type 0) (g : Grade) (c : Checker) (m : Step A) (f : A → Does B) (next : B → Does C)
    → Meets P g c (and_then (and_then m f) next) → Meets P g c (and_then m (λ a b. and_then (f a b) next))
unfolding and_then
meets_nest P g c (goes a b) f next p = p
meets_nest P g c (out b) f next p = p
