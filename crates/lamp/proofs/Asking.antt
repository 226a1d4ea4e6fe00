-- A query's run until its first diagnostic, and the queries one after the other: those that were asked had none, and what is left is asked
-- as the whole was.
use mathlib.Core.List.{List, [], ◌∷◌}
use mathlib.Core.Path.{◌≡◌, refl, sym, ap, ◌∙◌}
use Prim.Native.Nat.{ℕ, ◌+◌, ◌-◌, ◌*◌, ◌≤◌, ◌<◌}
use native.Mathlib.Omega.{arith}
use lib.ListN.{length, get_or}
use Rattle.unification.specs.Ty as Tree
use Rattle.unification.proofs.Tests.{clash}
use Rattle.work.specs.Layout.{DIAGNOSTIC-COUNT, LEFT}
use Rattle.cells.specs.Stands.{Rows}
use Rattle.format.specs.Syntax.{Ast}
use Rattle.meaning.specs.Diag.{Diagnostic}
use Rattle.format.specs.File.{Described, Form, view_of, described, reading, max_file}
use Rattle.format.specs.All.{All}
use Rattle.format.specs.Sound.{Sound}
use Rattle.meaning.specs.Check.{Step, goes, out, first_diagnostic}
use Rattle.meaning.specs.Outcome.{min_words, max_visits}
use Rattle.meaning.specs.Lamp as Defined
use Rattle.meaning.specs.Lamp.{lit_run, stopped, lamp_after, lamp_all, visits_after, visits_all}
use Rattle.format.proofs.Sound.{sound}
use Rattle.tree.specs.Stands.{SchemaStands, Stands}
use Rattle.state.specs.declared.Until.TheVariants as Until
use Rattle.checker.specs.Promises.{Ran, to_the_end, ended_early, run_until, Queries}
use Rattle.loading.specs.Promises.{Ahead, Loads}
use Rattle.loading.proofs.Lines.{query_ahead, all_ahead}
use Rattle.reading.specs.declared.Refusal.TheVariants as Refusal
use Rattle.reading.specs.declared.Refusal as Declared
use Rattle.lamp.specs.declared.Lit.{Lit}
use Rattle.lamp.specs.Promises.{signal_of, glow_of, Glowed, Glows, Asks}
use Rattle.std.specs.Result.{result_unwrap_or}
use Rattle.std.specs.Prelude.{Bool, Err, None, Ok, Option, Result, Some, false, true}

-- ---- A query

abbrev dark : ℕ → Lit
dark v = record { signal = Ok false; visits = v }

lit_is : (d : Described) → lit_run d.schema d.ast max_visits ≡ run_until first_diagnostic d 1048576
unfolding lit_run run_until max_visits
lit_is d = refl

module _ {f w o w' o' : List ℕ} {x : Option ℕ} (Q : Queries f w o Until.FirstDiagnostic 1048576 w' o' x) where
  module _ (g : Lit) (ends : (d : Described) (s : Step Tree.Ty) → Ran f w' o' d x s → Glowed f w' d g s) where
    glowed : (T : Rows) (d : Described) → Sound d → Stands f w T d → Glowed f w' d g (lit_run d.schema d.ast max_visits)
    glowed T d s S = rw (lit_is d) (ends d (run_until first_diagnostic d 1048576) (Q.is T d s S))

  -- It went through.
  pub glow_dark : {left v : ℕ} → x ≡ Some left → v ≡ 1048576 - left → Glows f w w' (record { signal = Ok false; visits = v })
  unfolding Glowed max_visits
  glow_dark {left} {v} e m = record { is = glowed (dark v) go; few = omega arith; words = Q.words }
    where
      go : (d : Described) (s : Step Tree.Ty) → Ran f w' o' d x s → Glowed f w' d (dark v) s
      go d (goes ty c) (to_the_end T R t p) = let same : left ≡ c.state.left = cc (e, p) in
          (ap dark (m ∙ ap (λ n. 1048576 - n) same), (T, R.stands.schema))
      go d (out c) (ended_early T R t k p) = clash (cc (e, p))

  module _ (e : x ≡ None) {left count v : ℕ} (l : left ≡ get_or w' LEFT 0) (m : v ≡ 1048576 - left) (n : count ≡ get_or w' DIAGNOSTIC-COUNT 0) where
    module _ (g : Lit) (by : (ds : List Diagnostic) → length ds ≡ count → g ≡ glow_of ds v) where
      ended : (d : Described) (s : Step Tree.Ty) → Ran f w' o' d x s → Glowed f w' d g s
      unfolding Glowed max_visits
      ended d (goes ty c) (to_the_end T R t p) = clash (cc (e, p))
      ended d (out c) (ended_early T R t k p) =
          by c.diagnostics (R.diagnostics ∙ sym n) ∙ ap (glow_of c.diagnostics) (m ∙ ap (λ k. 1048576 - k) (l ∙ t.left))

    pub glow_out : count ≡ 0 → Glows f w w' (record { signal = Err Refusal.TooManyVisits; visits = v })
    glow_out z = record { is = glowed it (ended it by); few = omega arith; words = Q.words }
      where
        it : Lit
        it = record { signal = Err Refusal.TooManyVisits; visits = v }

        by : (ds : List Diagnostic) → length ds ≡ count → it ≡ glow_of ds v
        by [] h = refl
        by (d ∷ ds) h = absurd (omega (arith, h, z))

    pub glow_shown : ¬ (count ≡ 0) → Glows f w w' (record { signal = Ok true; visits = v })
    glow_shown z = record { is = glowed it (ended it by); few = omega arith; words = Q.words }
      where
        it : Lit
        it = record { signal = Ok true; visits = v }

        by : (ds : List Diagnostic) → length ds ≡ count → it ≡ glow_of ds v
        by [] h = absurd (z (sym h))
        by (d ∷ ds) h = refl

not_dark : (ds : List Diagnostic) (u : ℕ) {g : Lit} → g ≡ glow_of ds u → g.signal ≡ Ok false → ⊥
not_dark [] u h e = let s : ◌≡◌ {A = Result Bool Declared.Refusal} (Ok false) (Err Refusal.TooManyVisits) = sym e ∙ ap (λ (x : Lit). x.signal) h in clash (cc s)
not_dark (d ∷ ds) u h e = let s : ◌≡◌ {A = Result Bool Declared.Refusal} (Ok false) (Ok true) = sym e ∙ ap (λ (x : Lit). x.signal) h in clash (cc s)

-- Whether it stopped is read off what it shows.
pub went_through : (s : Result Bool Declared.Refusal) {b : Bool} → b ≡ result_unwrap_or s true → b ≡ false → s ≡ Ok false
went_through (Ok false) e q = refl
went_through (Ok true) e q = let z : ◌≡◌ {A = Bool} true false = sym e ∙ q in clash (cc z)
went_through (Err i) e q = let z : ◌≡◌ {A = Bool} true false = sym e ∙ q in clash (cc z)

pub stopped_short : (s : Result Bool Declared.Refusal) {b : Bool} → b ≡ result_unwrap_or s true → b ≡ true → s ≡ Ok false → ⊥
stopped_short s e q h = let z : ◌≡◌ {A = Bool} true false = sym q ∙ e ∙ ap (λ (x : Result Bool Declared.Refusal). result_unwrap_or x true) h in
    clash (cc z)

-- ---- Between two queries

record Between (f : List ℕ) (form : Form) (w : List ℕ) (at visits : ℕ) : Type 0 where
  left : List Ast
  ahead : Ahead f at left
  sound : All (λ a. Sound (view_of form a)) left
  rows : Rows
  stands : SchemaStands f w rows form.names form.schema
  lamp : lamp_all form.schema form.queries ≡ lamp_all form.schema left
  made : visits_all form.schema form.queries ≡ visits + visits_all form.schema left

pub record Asking (f w₀ w : List ℕ) (at visits : ℕ) : Type 0 where
  pub words : length w ≡ length w₀
  pub few : visits ≤ at * 1048576
  pub within : at ≤ length f
  pub small : length f ≤ 65536
  is : (T : Rows) (form : Form) → reading f ≡ described form → min_words ≤ length w₀ → SchemaStands f w₀ T form.names form.schema
      → Between f form w at visits

pub ask_start : (f w : List ℕ) → length f ≤ 65536 → Asking f w w 0 0
unfolding max_file
ask_start f w small = record {
  words = refl;
  few = omega arith;
  within = omega arith;
  small = small;
  is = λ T form e l S. record {
    left = form.queries;
    ahead = all_ahead f form small e;
    sound = sound f form e;
    rows = T;
    stands = S;
    lamp = refl;
    made = omega arith;
  };
}

module _ {f w₀ w : List ℕ} {at visits : ℕ} (A : Asking f w₀ w at visits) where
  -- None is left.
  pub ask_end : length f ≤ at → Asks f w₀ (record { signal = (Ok false); visits = visits })
  unfolding lamp_all visits_all
  ask_end end = record { is = λ T form e l S. let b = A.is T form e l S in go b b.left b.ahead b.lamp b.made }
    where
      go : {form : Form} → Between f form w at visits → (qs : List Ast) → Ahead f at qs → lamp_all form.schema form.queries ≡ lamp_all form.schema qs
          → visits_all form.schema form.queries ≡ visits + visits_all form.schema qs
          → (Defined.No ≡ lamp_all form.schema form.queries) × (visits ≡ visits_all form.schema form.queries)
      go b [] a p q = (sym p, omega (arith, q))
      go b (x ∷ qs) a p q = absurd (omega (arith, query_ahead a))

  module _ (here : at < length f) {w₁ : List ℕ} {next : ℕ} (L : Loads f at w w₁ next) {w₂ : List ℕ} {g : Lit} (G : Glows f w₁ w₂ g) where
    -- The query that is asked, and what is left after it.
    record Turn (form : Form) : Type 0 where
      a : Ast
      qs : List Ast
      ahead : Ahead f next qs
      sound : All (λ a. Sound (view_of form a)) qs
      lamp : lamp_all form.schema form.queries ≡ lamp_after (lit_run form.schema a max_visits) (lamp_all form.schema qs)
      made : visits_all form.schema form.queries ≡ visits + visits_after (lit_run form.schema a max_visits) (visits_all form.schema qs)
      glowed : Glowed f w₂ (view_of form a) g (lit_run form.schema a max_visits)

    turn : (T : Rows) (form : Form) → reading f ≡ described form → min_words ≤ length w₀ → SchemaStands f w₀ T form.names form.schema → Turn form
    unfolding lamp_all visits_all view_of
    turn T form e l S = let b = A.is T form e l S in go b b.left b.ahead b.sound b.lamp b.made
      where
        go : Between f form w at visits → (qs : List Ast) → Ahead f at qs → All (λ a. Sound (view_of form a)) qs
            → lamp_all form.schema form.queries ≡ lamp_all form.schema qs
            → visits_all form.schema form.queries ≡ visits + visits_all form.schema qs → Turn form
        go b [] a s p q = absurd (omega (arith, a.ended refl))
        go b (x ∷ qs) a s p q =
            let enough : min_words ≤ length w = omega (arith, A.words) in
            record {
              a = x;
              qs = qs;
              ahead = L.ahead (view_of form x) qs s.0 enough a;
              sound = s.1;
              lamp = p;
              made = q;
              glowed = G.is b.rows (view_of form x) s.0 (L.stands b.rows (view_of form x) qs s.0 enough b.stands a);
            }

    -- It had no diagnostic.
    pub ask_next : g.signal ≡ Ok false → length w₂ ≡ length w₁ → Asking f w₀ w₂ next (visits + g.visits)
    unfolding Glowed lamp_after visits_after view_of
    ask_next e long = record {
      words = long ∙ L.words.long ∙ A.words;
      few = omega (arith, G.few, A.few, L.onward here);
      within = L.within;
      small = A.small;
      is = λ T form q l S. let t = turn T form q l S in go t (lit_run form.schema t.a max_visits) t.lamp t.made t.glowed;
    }
      where
        go : {form : Form} (t : Turn form) (s : Step Tree.Ty) → lamp_all form.schema form.queries ≡ lamp_after s (lamp_all form.schema t.qs)
            → visits_all form.schema form.queries ≡ visits + visits_after s (visits_all form.schema t.qs)
            → Glowed f w₂ (view_of form t.a) g s → Between f form w₂ next (visits + g.visits)
        go t (goes ty c) p q h =
            let same : g.visits ≡ max_visits - c.state.left = ap (λ (x : Lit). x.visits) h.0 in
            record { left = t.qs; ahead = t.ahead; sound = t.sound; rows = h.1.0; stands = h.1.1; lamp = p; made = omega (arith, q, same) }
        go t (out c) p q h = absurd (not_dark c.diagnostics (max_visits - c.state.left) h e)

    -- It stopped.
    stops : (ds : List Diagnostic) (u : ℕ) → g ≡ glow_of ds u → (signal_of g.signal ≡ stopped ds) × (g.visits ≡ u)
    unfolding stopped
    stops [] u h = (ap (λ (x : Lit). signal_of x.signal) h, ap (λ (x : Lit). x.visits) h)
    stops (d ∷ ds) u h = (ap (λ (x : Lit). signal_of x.signal) h, ap (λ (x : Lit). x.visits) h)

    pub ask_stopped : ¬ (g.signal ≡ Ok false) → Asks f w₀ (record { signal = g.signal; visits = visits + g.visits })
    unfolding Glowed lamp_after visits_after
    ask_stopped light = record {
      is = λ T form q l S. let t = turn T form q l S in go t (lit_run form.schema t.a max_visits) t.lamp t.made t.glowed;
    }
      where
        go : {form : Form} (t : Turn form) (s : Step Tree.Ty) → lamp_all form.schema form.queries ≡ lamp_after s (lamp_all form.schema t.qs)
            → visits_all form.schema form.queries ≡ visits + visits_after s (visits_all form.schema t.qs) → Glowed f w₂ (view_of form t.a) g s
            → (signal_of g.signal ≡ lamp_all form.schema form.queries) × (visits + g.visits ≡ visits_all form.schema form.queries)
        go t (goes ty c) p q h = absurd (light (ap (λ (x : Lit). x.signal) h.0))
        go t (out c) p q h =
            let x = stops c.diagnostics (max_visits - c.state.left) h in
            (x.0 ∙ sym p, ap (λ n. visits + n) x.1 ∙ sym q)
