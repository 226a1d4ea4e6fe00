use native.Mathlib.Omega.{arith}
use Rattle.std.proofs.lemmas.Bool.Decides.{Decides-eqb}
use Rattle.std.proofs.lemmas.Slice.Eq.{slice_eq-Decides}
use Rattle.growth.proofs.Walking.{unequal, beside_same, beside_added, beside_other}
use Rattle.growth.proofs.line_beside.Goals as goal

pub returns-then-eq : goal.returns-then-eq
returns-then-eq c = beside_same ((slice_eq-Decides Decides-eqb _ _ _ c.eq.ensures).0 c.if-eq.true)

pub returns-in-2-to-4 : goal.returns-in-2-to-4
returns-in-2-to-4 c =
    beside_added (omega (arith, c.byte.ensures.0)) (omega (arith, c.byte.ensures.0)) (omega (arith, c.byte.ensures.0, c.byte-then-this-lt5.ensures.0))

pub returns-in_default : goal.returns-in_default
returns-in_default c = beside_other (unequal c.eq.ensures c.if-eq.false) (λ l m k. omega (arith, c.byte.ensures.0))

pub returns-in_default-2 : goal.returns-in_default-2
returns-in_default-2 c = beside_other (unequal c.eq.ensures c.if-eq.false) (λ l m k. omega (arith, c.byte.ensures.0, c.byte-then-this-lt5.ensures.0))

pub returns-in_default-3 : goal.returns-in_default-3
returns-in_default-3 c = beside_other (unequal c.eq.ensures c.if-eq.false) (λ l m k. omega (arith, c.byte.ensures.0))
