-- The query in which the n-th entry is: the count falls by the entries of each query before it, and the queries after it are run too.
use Rattle.std.proofs.Common.{List, [], ◌∷◌, ◌≡◌, ℕ, ◌+◌, ◌-◌, ◌≤◌, ◌<◌, length, refl, sym, ap, ◌∙◌, subst, arith}
use Rattle.std.specs.Prelude.{Err, None, Ok, Option, Result, Some}
use Rattle.reading.specs.declared.Refusal.{Refusal}
use Rattle.unification.specs.Ty as Tree
use Rattle.unification.specs.Calls.{UnifyEntry}
use Rattle.unification.proofs.Tests.{clash}
use Rattle.cells.specs.Stands.{Rows}
use Rattle.format.specs.Syntax.{Ast}
use Rattle.format.specs.All.{All}
use Rattle.format.specs.Frame.{wide}
use Rattle.format.specs.File.{Form, view_of, described, reading}
use Rattle.format.specs.Sound.{Sound}
use Rattle.meaning.specs.Check.{Checker, Step, goes, out, Typed, check}
use Rattle.meaning.specs.Run.{run}
use Rattle.meaning.specs.Outcome.{min_words, max_visits, run_all}
use Rattle.format.specs.Refusal.{too_many_visits}
use Rattle.format.proofs.Sound.{sound}
use Rattle.format.proofs.Content.{says_exactly}
use Rattle.entries.proofs.Entries.{entries_many}
use Rattle.entries.specs.Entries as Defined
use Rattle.entries.specs.Entries.{entries_of, entries_all, nth, fewer, turned_down, among, sought_run, FallsIn}
use Rattle.tree.specs.Stands.{SchemaStands}
use Rattle.loading.specs.Promises.{Ahead}
use Rattle.loading.proofs.Lines.{query_ahead, all_ahead}
use Rattle.seek.specs.Promises.{SchemaIn, EntriesCounted, CountsEntries, RanOn, RunsOn, SoughtHere, Places}
use Rattle.seek.specs.Spending.{run_visits, SpendsOnRun, SpendsOnRest}
use Rattle.seek.proofs.Spending.{spends_none, spends_first, spends_stop}
use Rattle.cabinet.specs.declared.Account.TheVariants.{Open}
use Rattle.driver.specs.Spending.{SpendsOn, SpendsOnQueries}
use Rattle.unify.specs.declared.Purse.{Purse}
use Rattle.unify.specs.Purses.{spent}
use Rattle.seek.proofs.Running.{ok_parts}
use Rattle.seek.proofs.Counting.{unless_out, sought_is, out_first, in_first, in_later}

-- Those that are left, with the entries that are still to come before the one that is sought.
record Left (f w : List ℕ) (form : Form) (n at rest : ℕ) (x : Defined.Sought) (p₀ p : Purse) : Type 0 where
  qs : List Ast
  sound : All (λ a. Sound (view_of form a)) qs
  ahead : Ahead f at qs
  stands : SchemaIn f w form
  is : x ≡ unless_out (nth (entries_all form.schema qs) rest) (run_all form.schema qs)
  falls : (a : Ast) (k : ℕ) → FallsIn form.schema qs rest a k → FallsIn form.schema form.queries n a k
  spends : (p' : Purse) → SpendsOn form.schema qs Open p p' → SpendsOn form.schema form.queries Open p₀ p'

abbrev sought : Form → ℕ → Defined.Sought
sought form n = sought_run form.schema form.queries n (run_all form.schema form.queries)

pub record Placing (f : List ℕ) (n : ℕ) (w₀ w : List ℕ) (at rest : ℕ) (p₀ p : Purse) : Type 0 where
  pub words : length w ≡ length w₀
  is : (T : Rows) (form : Form) → reading f ≡ described form → min_words ≤ length w₀ → SchemaStands f w₀ T form.names form.schema
      → Left f w form n at rest (sought form n) p₀ p

pub place_start : (f : List ℕ) (n : ℕ) (w : List ℕ) (p : Purse) → Placing f n w w 0 n p p
place_start f n w p = record {
  words = refl;
  is = λ T form e l S. record {
    qs = form.queries;
    sound = sound f form e;
    ahead = all_ahead f form ((says_exactly wide f form).0 e).size e;
    stands = (T, S);
    is = sought_is form.schema form.queries n (run_all form.schema form.queries);
    falls = λ a k h. h;
    spends = λ p' s. s;
  };
}

module _ {f : List ℕ} {n : ℕ} {w₀ w : List ℕ} {at rest : ℕ} {p₀ p : Purse} (P : Placing f n w₀ w at rest p₀ p) where
  -- All were run, and it was in none.
  pub place_end : length f ≤ at → Places f n w₀ w (Ok None)
  unfolding unless_out entries_all nth run_all among
  place_end end = record { is = λ T form e l S. let b = P.is T form e l S in go form b.qs b.ahead b.is; words = P.words }
    where
      go : (form : Form) {x : Defined.Sought} (qs : List Ast) → Ahead f at qs
          → x ≡ unless_out (nth (entries_all form.schema qs) rest) (run_all form.schema qs) → x ≡ fewer
      go form [] a p = p
      go form (y ∷ qs) a p = absurd (omega (arith, query_ahead a))

  pub place_end_spends : length f ≤ at → SpendsOnQueries f w₀ Open p₀ p
  place_end_spends end = λ T form e l S. let b = P.is T form e l S in go form b b.qs b.ahead b.spends
    where
      go : (form : Form) → Left f w form n at rest (sought form n) p₀ p → (qs : List Ast) → Ahead f at qs
          → ((p' : Purse) → SpendsOn form.schema qs Open p p' → SpendsOn form.schema form.queries Open p₀ p')
          → SpendsOn form.schema form.queries Open p₀ p
      go form b [] a m = m p (spends_none form.schema p)
      go form b (y ∷ qs) a m = absurd (omega (arith, query_ahead a))

  module _ (here : at < length f) {w₁ : List ℕ} {t : Result (ℕ × ℕ) Refusal} (G : CountsEntries f at w w₁ t) {p₁ : Purse} (G' : SpendsOnRun f at w p p₁) where
    -- The query that is run, and what is left after it.
    record First (form : Form) (x : Defined.Sought) : Type 0 where
      a : Ast
      qs : List Ast
      fine : Sound (view_of form a)
      sound : All (λ a. Sound (view_of form a)) qs
      ahead : Ahead f at (a ∷ qs)
      is : x ≡ unless_out (nth (entries_all form.schema (a ∷ qs)) rest) (run_all form.schema (a ∷ qs))
      turned : EntriesCounted f w₁ form qs t (run form.schema a max_visits)
      falls : (b : Ast) (k : ℕ) → FallsIn form.schema (a ∷ qs) rest b k → FallsIn form.schema form.queries n b k
      spends : (p' : Purse) → SpendsOn form.schema (a ∷ qs) Open p p' → SpendsOn form.schema form.queries Open p₀ p'
      made : spent p₁ ≤ spent p + run_visits (check max_visits form.schema a)

    first : (T : Rows) (form : Form) → reading f ≡ described form → min_words ≤ length w₀ → SchemaStands f w₀ T form.names form.schema
        → First form (sought form n)
    first T form e l S = let b = P.is T form e l S in go b b.qs b.sound b.ahead b.is b.falls b.spends
      where
        go : Left f w form n at rest (sought form n) p₀ p → (qs : List Ast) → All (λ a. Sound (view_of form a)) qs → Ahead f at qs
            → sought form n ≡ unless_out (nth (entries_all form.schema qs) rest) (run_all form.schema qs)
            → ((b : Ast) (k : ℕ) → FallsIn form.schema qs rest b k → FallsIn form.schema form.queries n b k)
            → ((p' : Purse) → SpendsOn form.schema qs Open p p' → SpendsOn form.schema form.queries Open p₀ p') → First form (sought form n)
        go b [] s a h u m = absurd (omega (arith, a.ended refl))
        go b (y ∷ qs) s a h u m =
            let enough : min_words ≤ length w = omega (arith, P.words, l) in
            record {
              a = y;
              qs = qs;
              fine = s.0;
              sound = s.1;
              ahead = a;
              is = h;
              turned = G.is b.stands.0 form y qs s.0 enough b.stands.1 a;
              falls = u;
              spends = m;
              made = G'.made b.stands.0 form y qs s.0 enough b.stands.1 a;
            }

    pub place_out : {fault : Refusal} → t ≡ Err fault → Places f n w₀ w₁ (Err fault)
    unfolding EntriesCounted unless_out
    place_out {fault} e = record {
      is = λ T form q l S. let b = first T form q l S in go b (run form.schema b.a max_visits) refl b.turned;
      words = G.words ∙ P.words;
    }
      where
        go : {form : Form} {x : Defined.Sought} (b : First form x) (s : Step Tree.Ty) → run form.schema b.a max_visits ≡ s → EntriesCounted f w₁ form b.qs t s
            → (fault ≡ Refusal.TooManyVisits) × (x ≡ turned_down too_many_visits)
        go b (goes ty c) q h = clash (cc (h.1, e))
        go {form} b (out c) q h =
            (cc (h, e), b.is ∙ ap (unless_out (nth (entries_all form.schema (b.a ∷ b.qs)) rest)) (out_first form.schema b.a b.qs q))

    pub place_out_spends : {fault : Refusal} → t ≡ Err fault → SpendsOnQueries f w₀ Open p₀ p₁
    unfolding EntriesCounted
    place_out_spends {fault} e = λ T form q l S. let b = first T form q l S in go b (run form.schema b.a max_visits) refl b.turned
      where
        go : {form : Form} {x : Defined.Sought} (b : First form x) (s : Step Tree.Ty) → run form.schema b.a max_visits ≡ s → EntriesCounted f w₁ form b.qs t s
            → SpendsOn form.schema form.queries Open p₀ p₁
        go b (goes ty c) q h = clash (cc (h.1, e))
        go b (out c) q h = b.spends p₁ (spends_stop b.qs b.made q)

    module _ {next m : ℕ} (e : t ≡ Ok (next, m)) where
      pub place_next : m ≤ rest → Placing f n w₀ w₁ next (rest - m) p₀ p₁
      unfolding EntriesCounted
      place_next before = record {
        words = G.words ∙ P.words;
        is = λ T form q l S. let b = first T form q l S in go b (run form.schema b.a max_visits) refl b.turned;
      }
        where
          go : {form : Form} {x : Defined.Sought} (b : First form x) (s : Step Tree.Ty) → run form.schema b.a max_visits ≡ s
              → EntriesCounted f w₁ form b.qs t s → Left f w₁ form n next (rest - m) x p₀ p₁
          go {form} b (goes ty c) q h =
              let place : h.0 ≡ next = (ok_parts (sym h.1 ∙ e)).0 in
              let count : length c.entries ≡ m = (ok_parts (sym h.1 ∙ e)).1 in
              record {
                qs = b.qs;
                sound = b.sound;
                ahead = rw (sym place) h.2;
                stands = h.3;
                is = b.is ∙ in_later form.schema b.a b.qs q rest (omega (arith, count, before))
                    ∙ ap (λ k. unless_out (nth (entries_all form.schema b.qs) (rest - k)) (run_all form.schema b.qs)) count;
                falls = λ a k u.
                    let place : length (entries_of form.schema b.a) + (rest - m) ≡ rest = omega (arith, entries_many form.schema b.a _ _ q, count, before) in
                    b.falls a k (subst (λ i. FallsIn form.schema (b.a ∷ b.qs) i a k) place (FallsIn.later u));
                spends = λ p' r. b.spends p' (spends_first b.qs b.made q r);
              }
          go b (out c) q h = clash (cc (h, e))

      module _ (within : rest < m) {w₂ : List ℕ} {r : Result (Unit {0}) Refusal} (O : RunsOn f next w₁ w₂ r) where
        -- It is in this one, by what becomes of the others.
        record Here (form : Form) (x : Defined.Sought) : Type 0 where
          first : First form x
          ty : Tree.Ty
          last : Checker
          ran : run form.schema first.a max_visits ≡ goes ty last
          few : rest < length last.entries
          others : RanOn f w₂ form r (run_all form.schema first.qs)
          others_spend : {p₂ : Purse} → SpendsOnRest f next w₁ p₁ p₂ → SpendsOn form.schema first.qs Open p₁ p₂

        here_is : (T : Rows) (form : Form) → reading f ≡ described form → min_words ≤ length w₀ → SchemaStands f w₀ T form.names form.schema
            → Here form (sought form n)
        unfolding EntriesCounted
        here_is T form q l S = let b = first T form q l S in go b (run form.schema b.a max_visits) refl b.turned
          where
            go : (b : First form (sought form n)) (s : Step Tree.Ty) → run form.schema b.a max_visits ≡ s → EntriesCounted f w₁ form b.qs t s
                → Here form (sought form n)
            go b (goes ty c) q h =
                let place : h.0 ≡ next = (ok_parts (sym h.1 ∙ e)).0 in
                let count : length c.entries ≡ m = (ok_parts (sym h.1 ∙ e)).1 in
                let enough : min_words ≤ length w₁ = omega (arith, G.words, P.words, l) in
                record {
                  first = b;
                  ty = ty;
                  last = c;
                  ran = q;
                  few = omega (arith, count, within);
                  others = O.is h.3.0 form b.qs b.sound enough h.3.1 (rw (sym place) h.2);
                  others_spend = λ {p₂} m. m h.3.0 form b.qs b.sound enough h.3.1 (rw (sym place) h.2);
                }
            go b (out c) q h = clash (cc (h, e))

        -- Whatever becomes of them.
        pub place_rest_spends : {p₂ : Purse} → SpendsOnRest f next w₁ p₁ p₂ → SpendsOnQueries f w₀ Open p₀ p₂
        place_rest_spends {p₂} O' = λ T form q l S. let y = here_is T form q l S in
            y.first.spends p₂ (spends_first y.first.qs y.first.made y.ran (y.others_spend O'))

        -- In a later query the visits ran out.
        pub place_late : {fault : Refusal} → r ≡ Err fault → Places f n w₀ w₂ (Err fault)
        unfolding RanOn unless_out
        place_late {fault} z = record {
          is = λ T form q l S. let y = here_is T form q l S in
              let b = y.first in
              let g = go form (nth (entries_of form.schema b.a) rest) (run_all form.schema b.qs) y.others in
              (g.0, b.is ∙ in_first form.schema b.a b.qs y.ran rest y.few ∙ g.1);
          words = O.words ∙ G.words ∙ P.words;
        }
          where
            go : (form : Form) (d : Option UnifyEntry) (o : Option (List Typed)) → RanOn f w₂ form r o
                → (fault ≡ Refusal.TooManyVisits) × (unless_out d o ≡ turned_down too_many_visits)
            go form d None h = (cc (h, z), refl)
            go form d (Some ts) h = clash (cc (h.0, z))

        pub place_here : r ≡ Ok tt → Places f n w₀ w₂ (Ok (Some (at, rest)))
        unfolding RanOn unless_out
        place_here z = record {
          is = λ T form q l S. let y = here_is T form q l S in
              let b = y.first in
              go y (run_all form.schema b.qs) (b.is ∙ in_first form.schema b.a b.qs y.ran rest y.few) y.others;
          words = O.words ∙ G.words ∙ P.words;
        }
          where
            go : {form : Form} {x : Defined.Sought} (y : Here form x) (o : Option (List Typed))
                → x ≡ unless_out (nth (entries_of form.schema y.first.a) rest) o → RanOn f w₂ form r o
                → (here : SoughtHere f w₂ form at rest x) × FallsIn form.schema form.queries n here.query rest
            go y None p h = clash (cc (h, z))
            go {form} y (Some ts) p h = (
              record {
                query = y.first.a;
                more = y.first.qs;
                sound = y.first.fine;
                ahead = y.first.ahead;
                rows = h.1.0;
                stands = h.1.1;
                ty = y.ty;
                last = y.last;
                ran = y.ran;
                here = omega (arith, entries_many form.schema y.first.a _ _ y.ran, y.few);
                is = p;
              },
              y.first.falls y.first.a rest (FallsIn.here (omega (arith, entries_many form.schema y.first.a _ _ y.ran, y.few))),
            )
