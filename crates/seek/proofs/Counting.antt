-- One count over the queries: what is sought among all is sought among those that are left, fewer by the entries of those that were run; and a
-- run that is to last until an entry keeps to it.
use mathlib.Core.List.{List, ◌∷◌, ◌++◌}
use mathlib.Core.Path.{◌≡◌, refl, ap, ◌∙◌}
use Prim.Native.Nat.{ℕ, ◌+◌, ◌-◌, ◌<◌, ◌≤◌}
use native.Mathlib.Omega.{arith}
use lib.ListN.{length}
use Rattle.unification.specs.Ty.{Ty}
use Rattle.unification.specs.Calls.{UnifyEntry}
use Rattle.unification.proofs.Tests.{clash}
use Rattle.format.specs.Syntax.{Ast}
use Rattle.format.specs.Schema.{Schema, get}
use Rattle.format.specs.Refusal.{too_many_visits}
use Rattle.meaning.specs.Check.{Until, Checker, goes, out, begin, begin_until, query, Typed, Checked, typed, exhausted, checked, check}
use Rattle.meaning.specs.Run.{ending, run}
use Rattle.meaning.specs.Outcome.{max_visits, with_checked, run_all}
use Rattle.laws.specs.Over.{everything}
use Rattle.laws.proofs.Over.{predicate_everything, names_everything}
use Rattle.laws.proofs.Walk.{query_agrees}
use Rattle.laws.proofs.Run.{begin_fine, same_self}
use Rattle.entries.specs.Entries.{entries_of, entries_all, nth, Sought, turned_down, among, sought_run}
use Rattle.entries.proofs.Entries.{entries_many, nth_first, nth_later}
use Rattle.std.specs.Prelude.{None, Option, Some}

-- ---- What is left

-- An entry, unless a query that is still to be run runs out of visits.
unfoldable pub unless_out : Option UnifyEntry → Option (List Typed) → Sought
unfolding among
unless_out o None = turned_down too_many_visits
unless_out o (Some ts) = among o

pub sought_is : (schema : Schema) (qs : List Ast) (n : ℕ) (x : Option (List Typed)) → sought_run schema qs n x ≡ unless_out (nth (entries_all schema qs) n) x
unfolding sought_run unless_out
sought_is schema qs n None = refl
sought_is schema qs n (Some ts) = refl

unless_typed : (o : Option UnifyEntry) (t : Typed) (x : Option (List Typed)) → unless_out o (with_checked (typed t) x) ≡ unless_out o x
unfolding unless_out with_checked
unless_typed o t None = refl
unless_typed o t (Some ts) = refl

module _ (schema : Schema) (a : Ast) (qs : List Ast) where
  -- Its visits run out, whatever the others do.
  pub out_first : {c : Checker} → run schema a max_visits ≡ out c → run_all schema (a ∷ qs) ≡ None
  unfolding run_all with_checked check checked run
  out_first {c} e = ap (λ s. with_checked (checked max_visits s) (run_all schema qs)) e

  module _ {ty : Ty} {c : Checker} (e : run schema a max_visits ≡ goes ty c) where
    -- It goes to its end.
    pub goes_first : (t : Typed) × (run_all schema (a ∷ qs) ≡ with_checked (typed t) (run_all schema qs))
    unfolding run_all check checked run
    goes_first = go (checked max_visits (goes ty c)) refl
      where
        go : (x : Checked) → checked max_visits (goes ty c) ≡ x → (t : Typed) × (run_all schema (a ∷ qs) ≡ with_checked (typed t) (run_all schema qs))
        go exhausted q = clash (cc q)
        go (typed t) q = (t, ap (λ s. with_checked (checked max_visits s) (run_all schema qs)) e ∙ ap (λ x. with_checked x (run_all schema qs)) q)

    left_by : (o : Option UnifyEntry) → unless_out o (run_all schema (a ∷ qs)) ≡ unless_out o (run_all schema qs)
    left_by o = let r = goes_first in ap (unless_out o) r.1 ∙ unless_typed o r.0 (run_all schema qs)

    pub in_first : (n : ℕ) → n < length c.entries
        → unless_out (nth (entries_all schema (a ∷ qs)) n) (run_all schema (a ∷ qs)) ≡ unless_out (nth (entries_of schema a) n) (run_all schema qs)
    unfolding entries_all
    in_first n h =
        left_by (nth (entries_all schema (a ∷ qs)) n) ∙ ap (λ o. unless_out o (run_all schema qs))
        (nth_first (entries_of schema a) (entries_all schema qs) n (omega (arith, entries_many schema a ty c e)))

    pub in_later : (n : ℕ) → length c.entries ≤ n
        → unless_out (nth (entries_all schema (a ∷ qs)) n) (run_all schema (a ∷ qs))
        ≡ unless_out (nth (entries_all schema qs) (n - length c.entries)) (run_all schema qs)
    unfolding entries_all
    in_later n h =
        let k : n ≡ length (entries_of schema a) + (n - length c.entries) = omega (arith, entries_many schema a ty c e) in
        left_by (nth (entries_all schema (a ∷ qs)) n) ∙ ap (λ o. unless_out o (run_all schema qs))
        (ap {B = Option UnifyEntry} (λ m. nth (entries_of schema a ++ entries_all schema qs) m) k
        ∙ nth_later (entries_of schema a) (entries_all schema qs) (n - length c.entries))

-- ---- What a run is to last until

pub until_kept : (schema : Schema) (a : Ast) (u : Until) (c : ℕ) → (ending (query schema a.nodes a.query (begin_until u c (length a.nodes)))).until ≡ u
unfolding begin begin_until
until_kept schema a u c =
    let same = same_self everything schema a.nodes (λ p. tt) (names_everything a.nodes) (λ p. predicate_everything (get schema p)) in
    ((query_agrees everything 0 schema schema a.nodes same a.query).grows (begin_until u c (length a.nodes))
    (begin_fine everything schema schema a same c)).until
