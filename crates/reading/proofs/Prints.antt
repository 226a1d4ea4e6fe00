-- The prints after a line: one more after a name's, and the same after every other.
use mathlib.Core.Bool.{Bool, true, false}
use mathlib.Core.List.{List, [], ◌∷◌, ◌++◌}
use mathlib.Core.Path.{◌≡◌, refl, sym, subst, ◌∙◌}
use Prim.Native.Nat.{ℕ, ◌<◌}
use native.Mathlib.Omega.{arith}
use lib.ListN.{length, get_or, set}
use lib.Seq.{get_or-set_same, get_or-set_other}
use Rattle.format.specs.Frame as Frame
use Rattle.format.specs.Frame.{Kind, Frame, the_limits, a_name, a_type, a_predicate, a_node, the_query, frame_kind}
use Rattle.format.specs.SoFar.{SoFar, add}
use Rattle.format.proofs.Tests.{clash}
use Rattle.work.specs.declared.Counters.{Counters}
use Rattle.reading.specs.declared.Refusal.{Refusal}
use Rattle.reading.specs.Prints.{print_of, Printed}
use Rattle.reading.proofs.Regions.{snoc}
use Rattle.std.specs.Prelude.{Err, Ok, Result}

-- before the first line
pub no_prints : (prints : List ℕ) → Printed prints []
no_prints prints = record { is = λ j l. absurd (omega arith) }

pub printed_added : {prints : List ℕ} {names : List (List ℕ)} (n : ℕ) (t : List ℕ) → n ≡ length names → n < length prints → Printed prints names
    → Printed (set prints n (print_of t)) (names ++ t ∷ [])
printed_added {prints} {names} n t count room p = record {
  is = snoc (λ j s. get_or (set prints n (print_of t)) j 0 ≡ print_of s) [] names t
      (λ j l. get_or-set_other prints n j (print_of t) 0 (λ q. omega (arith, count)) ∙ p.is j l)
      (subst (λ j. get_or (set prints n (print_of t)) j 0 ≡ print_of t) count (get_or-set_same prints n (print_of t) 0 room));
}

-- any kind but a name's
abbrev pub is_other : Kind → Bool
is_other Frame.limits = true
is_other Frame.name = false
is_other Frame.schema_type = true
is_other Frame.predicate = true
is_other Frame.node = true
is_other Frame.query = true

-- a frame of such a kind adds no name
pub same_names : (so : SoFar) (fr : Frame) → is_other (frame_kind fr) ≡ true → (add so fr).names ≡ so.names
unfolding add frame_kind
same_names so (the_limits d t) o = refl
same_names so (a_name s) o = clash (sym o)
same_names so (a_type t) o = refl
same_names so (a_predicate n k v) o = refl
same_names so (a_node n) o = refl
same_names so (the_query q) o = refl

-- a refusal is no step
pub no_step : {P : Type 0} {i : Refusal} {d : Counters} → ◌≡◌ {A = Result Counters Refusal} (Err i) (Ok d) → P
no_step e = let z : ◌≡◌ {A = ℕ} 0 1 = cc in absurd (omega arith)
