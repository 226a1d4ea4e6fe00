use Rattle.std.proofs.Common.{◌≡◌, ◌<◌, ◌-◌, ℕ, take, length, length-take, arith}
use Rattle.std.proofs.lemmas.Grind.{common_steps}
use Rattle.text.specs.Rule.{alone}
use Rattle.text.proofs.First.{none_starts, some_one, decided}
use Rattle.text.proofs.width.Goals as goal

pub returns-then-first-lt128 : goal.returns-then-first-lt128
returns-then-first-lt128 c = rw c.in_ok-first.ensures.cases.0 (record { within = omega arith; whole = alone c.if-first-lt128.true })

pub overflow_sub-n : goal.overflow_sub-n
overflow_sub-n c = omega (arith, some_one)

pub is_sequence-requires : goal.is_sequence-requires
is_sequence-requires c = omega (arith, some_one, c.in_ok-later.ensures.lookup)

pub returns-in_err-later : goal.returns-in_err-later
returns-in_err-later c =
    let first = c.in_ok-first.ensures.cases.0 in
    let lookup = c.in_err-later.ensures.lookup in
    let short : length c.in_ok-first.rest.now < c.ones-n.result - 1 = grind (arith, lookup) in
    rw (c.from_residual-in_err-later.ensures, first)
    (none_starts _ _ _ c.ones-n.ensures c.if-first-lt128.false (λ q. omega (arith, q.long, length-take {A = ℕ})))

pub returns : goal.returns
returns c =
    let first = c.in_ok-first.ensures.cases.0 in
    let lookup = c.in_ok-later.ensures.lookup.0 in
    let later : c.in_ok-later.later.now ≡ take (c.ones-n.result - 1) c.in_ok-first.rest.now = grind (arith, common_steps, lookup) in
    rw (c.then_some.ensures, first)
    (decided _ _ _ c.ones-n.ensures c.if-first-lt128.false lookup.1 _ (rw later at c.is_sequence.ensures))
