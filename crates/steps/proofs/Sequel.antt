-- One step after another. If the first step of the code ends beside the definition's first, and the second beside what
-- follows, the two end beside `and_then`: rows and words grew twice, and what the first step made of a load leaves the
-- rest of it free for the second.
use mathlib.Core.List.{List}
use mathlib.Core.Path.{◌≡◌, refl, ◌∙◌, ap}
use Prim.Native.Nat.{ℕ, ◌+◌, ◌≤◌}
use native.Mathlib.Omega.{arith}
use lib.ListN.{length, length-append}
use Rattle.unification.proofs.Undo.{since_length}
use Rattle.cells.specs.Stands.{Rows}
use Rattle.format.specs.File.{Described}
use Rattle.meaning.specs.Check.{Checker, Step, goes, out, Does, and_then}
use Rattle.meaning.specs.Grades.{Grade, unknowns, Ready}
use Rattle.meaning.proofs.Meets.{Made, Went, Meets, going, ready_fits, ready_after}
use Rattle.state.specs.Runs.{Runs, Grew}
use Rattle.state.specs.Lines.{Told}
use Rattle.steps.specs.Ends.{StepGives, Gone, StepEnds, went, spent}
use Rattle.steps.specs.Loads.{Load, both, FitsIn, Free, Begins}
use Rattle.cells.proofs.Frame.{more_refl}
use Rattle.steps.proofs.Growing.{more_trans, grew_refl, grew_trans}
use Rattle.state.proofs.Running.{grew_less}

-- ---- Steps one after another, grouped otherwise
pub and_then_assoc : {A B C : Type 0} (m : Step A) (f : A → Does B) (g : B → Does C) → and_then (and_then m f) g ≡ and_then m (λ a c. and_then (f a c) g)
unfolding and_then
and_then_assoc (goes a c) f g = refl
and_then_assoc (out c) f g = refl

pub and_then_first : {A B C D : Type 0} (m : Step A) (u : A → Does B) (r : B → Does C) (k : C → Does D)
    → and_then (and_then m (λ a c. and_then (u a c) r)) k ≡ and_then (and_then m u) (λ b c. and_then (r b c) k)
unfolding and_then
and_then_first (goes a c) u r k = and_then_assoc (u a c) r k
and_then_first (out c) u r k = refl

-- ---- The room that is left
made_diagnostics : (g : Grade) (c c' : Checker) → Made g c c' → length c'.diagnostics ≤ length c.diagnostics + g.diagnostics
made_diagnostics g c c' m = omega (arith, m.few, ap length m.diagnostics ∙ length-append m.reported c.diagnostics)

made_unknowns : (g : Grade) (c c' : Checker) → Made g c c' → unknowns c' ≤ unknowns c + g.unknowns
made_unknowns g c c' m = omega (arith, m.unknowns, since_length m.since)

pub free_part : (G K : Load) {w : List ℕ} {c : Checker} → FitsIn G K → Free K w c → Free G w c
free_part G K {w} {c} h x = record {
  ready = ready_fits G.grade K.grade c h.grade x.ready;
  unknowns = omega (arith, h.grade.unknowns, x.unknowns);
  diagnostics = omega (arith, h.grade.diagnostics, x.diagnostics);
  records = omega (arith, h.records, x.records);
  fields = omega (arith, h.fields, x.fields);
}

pub free_after : (G H K : Load) {w w' : List ℕ} {c c' : Checker} → FitsIn (both G H) K → Made G.grade c c' → Grew w w' G.records G.fields
    → Free K w c → Free H w' c'
free_after G H K {w} {w'} {c} {c'} h m g x = record {
  ready = ready_after G.grade H.grade K.grade c c' h.grade m x.ready;
  unknowns = omega (arith, h.grade.unknowns, x.unknowns, made_unknowns G.grade c c' m);
  diagnostics = omega (arith, h.grade.diagnostics, x.diagnostics, made_diagnostics G.grade c c' m);
  records = omega (arith, h.records, x.records, g.records);
  fields = omega (arith, h.fields, x.fields, g.fields);
}

pub holds_left : (G H K : Load) → FitsIn (both G H) K → FitsIn G K
holds_left G H K h = record {
  grade = record {
    nodes = λ x. omega (arith, h.grade.nodes x);
    unknowns = omega (arith, h.grade.unknowns);
    diagnostics = omega (arith, h.grade.diagnostics);
  };
  records = omega (arith, h.records);
  fields = omega (arith, h.fields);
}

pub begins_part : (G K : Load) {f w ou : List ℕ} {T : Rows} {d : Described} {left : ℕ} {c : Checker} → FitsIn G K → Begins f w ou T d K left c
    → Begins f w ou T d G left c
begins_part G K h b = record { sound = b.sound; runs = b.runs; lines = b.lines; orderly = b.orderly; visits = b.visits; free = free_part G K h b.free }

-- ---- Ends
pub ends_here : {A : Type 0} {f w ou : List ℕ} {T : Rows} {d : Described} {n m : ℕ} {E : StepGives A} (a : A) (c : Checker) → Runs f w T d c
    → Told d w ou c 0 → E.Is T a c.state.left → StepEnds f w ou w ou T d n m E (goes a c)
ends_here {T = T} a c r t i = went (record { T' = T; more = more_refl; runs = r; lines = t; grew = grew_refl; is = i })

-- More may have been made than was; and another result by the same words.
pub gone_as : {A B : Type 0} {f w ou w' ou' : List ℕ} {T : Rows} {d : Described} {n m k l : ℕ} {E : StepGives A} {E' : StepGives B} {a : A} {a' : B}
    {c : Checker} {h : ℕ}
    → n ≤ k → m ≤ l → ((R : Rows) → E.Is R a c.state.left → E'.Is R a' c.state.left) → Gone f w ou w' ou' T d n m E a c h
    → Gone f w ou w' ou' T d k l E' a' c h
gone_as i j to g = record { T' = g.T'; more = g.more; runs = g.runs; lines = g.lines; grew = grew_less i j g.grew; is = to g.T' g.is }

pub ends_wider : {A : Type 0} {f w ou w' ou' : List ℕ} {T : Rows} {d : Described} {n m k l : ℕ} {E : StepGives A} {s : Step A} → n ≤ k → m ≤ l
    → StepEnds f w ou w' ou' T d n m E s → StepEnds f w ou w' ou' T d k l E s
ends_wider i j (went g) = went (gone_as i j (λ R x. x) g)
ends_wider i j (spent g) = spent (gone_as i j (λ R x. x) g)

-- ---- Where a step that goes on leads
pub record Led {A : Type 0} (f w ou w' ou' : List ℕ) (T : Rows) (d : Described) (G : Load) (E : StepGives A) (P : A → Checker → Type 0) (c : Checker)
    (m : Step A) : Type 0 where
  pub a : A
  pub b : Checker
  pub is : m ≡ goes a b
  pub gone : Gone f w ou w' ou' T d G.records G.fields E a b 0
  pub went : Went P G.grade c a b

pub led : {A : Type 0} {f w ou w' ou' : List ℕ} {T : Rows} {d : Described} (G : Load) {E : StepGives A} (P : A → Checker → Type 0) {c : Checker}
    {m : Step A} → ¬ E.Out → Meets P G.grade c m → StepEnds f w ou w' ou' T d G.records G.fields E m
    → Led f w ou w' ou' T d G E P c m
led G P never meets (went {a} {c = b} g) = record { a = a; b = b; is = refl; gone = g; went = going meets }
led G P never meets (spent g) = absurd (never g.is.0)

-- ---- One after another
pub gone_trans : {A B : Type 0} {f w ou w₁ ou₁ w₂ ou₂ : List ℕ} {T : Rows} {d : Described} (G H K : Load) {E : StepGives A} {E' : StepGives B} {a : A}
    {b : Checker} {a' : B} {b' : Checker} {v : ℕ} → FitsIn (both G H) K
    → (g : Gone f w ou w₁ ou₁ T d G.records G.fields E a b 0) → Gone f w₁ ou₁ w₂ ou₂ g.T' d H.records H.fields E' a' b' v
    → Gone f w ou w₂ ou₂ T d K.records K.fields E' a' b' v
gone_trans G H K fits g h = record {
  T' = h.T';
  more = more_trans g.grew.adds g.more h.more;
  runs = h.runs;
  lines = h.lines;
  grew = grew_trans fits.records fits.fields g.grew h.grew;
  is = h.is;
}

pub gone_on : {A B : Type 0} {f w ou w₁ ou₁ w₂ ou₂ : List ℕ} {T : Rows} {d : Described} (G H K : Load) {E : StepGives A} {E' : StepGives B} {a : A}
    {b : Checker} {s : Step B} → FitsIn (both G H) K
    → (g : Gone f w ou w₁ ou₁ T d G.records G.fields E a b 0) → StepEnds f w₁ ou₁ w₂ ou₂ g.T' d H.records H.fields E' s
    → StepEnds f w ou w₂ ou₂ T d K.records K.fields E' s
gone_on G H K fits g (went h) = went (gone_trans G H K fits g h)
gone_on G H K fits g (spent h) = spent (gone_trans G H K fits g h)

pub begins_after : {A : Type 0} {f w ou w₁ ou₁ : List ℕ} {T : Rows} {d : Described} {left : ℕ} {c : Checker} (G H K : Load) {E : StepGives A}
    (P : A → Checker → Type 0) {a : A} {b : Checker} → FitsIn (both G H) K
    → (g : Gone f w ou w₁ ou₁ T d G.records G.fields E a b 0) → Went P G.grade c a b → Begins f w ou T d K left c
    → Begins f w₁ ou₁ g.T' d H b.state.left b
begins_after G H K P fits g v s = record {
  sound = s.sound;
  runs = g.runs;
  lines = g.lines;
  orderly = v.orderly;
  visits = refl;
  free = free_after G H K fits v.made g.grew s.free;
}

ends_there : {A B : Type 0} {f w ou w₁ ou₁ : List ℕ} {T : Rows} {d : Described} {n m k l : ℕ} {E : StepGives A} {E' : StepGives B} → n ≤ k → m ≤ l
    → (s : Step A) (next : A → Does B)
    → ((R : Rows) (a : A) (v : ℕ) → ¬ (E.Is R a v)) → (E.Out → E'.Out) → StepEnds f w ou w₁ ou₁ T d n m E s
    → StepEnds f w ou w₁ ou₁ T d k l E' (and_then s next)
unfolding and_then
ends_there i j s next never so (went {a} {c = b} g) = absurd (never g.T' a b.state.left g.is)
ends_there i j s next never so (spent g) = spent (gone_as i j (λ R x. (so x.0, x.1)) g)

module _ {A B : Type 0} {f w ou w₁ ou₁ : List ℕ} {T : Rows} {d : Described} {left : ℕ} {c : Checker} (G H K : Load) (fits : FitsIn (both G H) K)
    {E : StepGives A} {E' : StepGives B} where
  after : {w₂ ou₂ : List ℕ} (P : A → Checker → Type 0) (m : Step A) (next : A → Does B) → ¬ E.Out → Begins f w ou T d K left c → Meets P G.grade c m
      → StepEnds f w ou w₁ ou₁ T d G.records G.fields E m
      → ((a : A) (b : Checker) (g : Gone f w ou w₁ ou₁ T d G.records G.fields E a b 0) → Went P G.grade c a b
      → Begins f w₁ ou₁ g.T' d H b.state.left b → StepEnds f w₁ ou₁ w₂ ou₂ g.T' d H.records H.fields E' (next a b))
      → StepEnds f w ou w₂ ou₂ T d K.records K.fields E' (and_then m next)
  unfolding and_then
  after P m next go s meets (went {a} {c = b} g) rest = gone_on G H K fits g (rest a b g (going meets) (begins_after G H K P fits g (going meets) s))
  after P m next go s meets (spent g) rest = absurd (go g.is.0)

  -- The first step goes on.
  pub then_ends : {w₂ ou₂ : List ℕ} (P : A → Checker → Type 0) (m : Step A) (next : A → Does B) → ¬ E.Out → Begins f w ou T d K left c
      → (Ready G.grade c → Meets P G.grade c m)
      → (Begins f w ou T d G left c → StepEnds f w ou w₁ ou₁ T d G.records G.fields E m)
      → ((a : A) (b : Checker) (g : Gone f w ou w₁ ou₁ T d G.records G.fields E a b 0) → Went P G.grade c a b
      → Begins f w₁ ou₁ g.T' d H b.state.left b → StepEnds f w₁ ou₁ w₂ ou₂ g.T' d H.records H.fields E' (next a b))
      → StepEnds f w ou w₂ ou₂ T d K.records K.fields E' (and_then m next)
  then_ends P m next go s meets first rest = let s₁ = begins_part G K (holds_left G H K fits) s in after P m next go s (meets s₁.free.ready) (first s₁) rest

  -- The run ended in it.
  pub stop_ends : (m : Step A) (next : A → Does B) → ((R : Rows) (a : A) (v : ℕ) → ¬ (E.Is R a v)) → (E.Out → E'.Out) → Begins f w ou T d K left c
      → (Begins f w ou T d G left c → StepEnds f w ou w₁ ou₁ T d G.records G.fields E m) → StepEnds f w ou w₁ ou₁ T d K.records K.fields E' (and_then m next)
  stop_ends m next never so s first = ends_there (omega (arith, fits.records)) (omega (arith, fits.fields)) m next never so
      (first (begins_part G K (holds_left G H K fits) s))
