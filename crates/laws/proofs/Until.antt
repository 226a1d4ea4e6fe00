-- Cards 4 and 12: a query's run that is to last until something goes as its whole run does, up to there.
use mathlib.Core.Path.{◌≡◌, refl}
use Prim.Native.Nat.{ℕ, ◌≤◌}
use native.Mathlib.Omega.{arith}
use lib.ListN.{length}
use Rattle.unification.specs.Ty.{Ty}
use Rattle.format.specs.Syntax.{Ast}
use Rattle.format.specs.Schema.{Schema, get}
use Rattle.meaning.specs.Check.{Until, Checker, goes, lasting, begin, begin_until, query}
use Rattle.meaning.specs.Run.{run}
use Rattle.meaning.proofs.Run.{nothing_yet}
use Rattle.laws.specs.Over.{everything}
use Rattle.laws.specs.Same.{Same}
use Rattle.laws.proofs.Over.{predicate_everything, names_everything}
use Rattle.laws.proofs.Agree.{Lit}
use Rattle.laws.proofs.Walk.{query_agrees}
use Rattle.laws.proofs.Run.{begin_fine, same_self}

module _ (schema : Schema) (a : Ast) where
  itself : Same everything a.nodes schema schema
  itself = same_self everything schema a.nodes (λ p. tt) (names_everything a.nodes) (λ p. predicate_everything (get schema p))

  pub run_until_lem : (u : Until) (c : ℕ) → Lit u (run schema a c) (query schema a.nodes a.query (begin_until u c (length a.nodes)))
  unfolding run begin begin_until lasting
  run_until_lem u c = (query_agrees everything 0 schema schema a.nodes itself a.query).lit u (begin c (length a.nodes))
      (begin_fine everything schema schema a itself c) refl (nothing_yet u)

  -- Each entry of a run that went to its end has made a visit.
  pub run_few : (ceiling : ℕ) (ty : Ty) (c : Checker) → run schema a ceiling ≡ goes ty c → length c.entries ≤ ceiling
  unfolding run begin begin_until
  run_few ceiling ty c e =
      let w = (query_agrees everything 0 schema schema a.nodes itself a.query).safe (begin ceiling (length a.nodes))
      (begin_fine everything schema schema a itself ceiling) in
      omega (arith, (rw e at w).few)
