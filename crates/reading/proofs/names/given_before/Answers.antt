use mathlib.Core.Logic.{⊎_elim}
use mathlib.Core.Path.{◌≡◌, refl}
use Prim.Native.Nat.{◌+◌, ◌*◌, ◌/◌, ◌<◌, ◌≤◌}
use native.Mathlib.Omega.{arith}
use lib.ListN.{length}
use Rattle.reading.proofs.Texts.{name_nowhere, name_compared, look_start, look_found, look_next, look_other, look_block, look_up_to, look_none}
use Rattle.reading.proofs.names.given_before.Goals as goal

pub loop-b-init : goal.loop-b-init
loop-b-init c = look_start _ _ _ _ _ _

pub loop-b-preserved-then-none_has : goal.loop-b-preserved-then-none_has
loop-b-preserved-then-none_has c =
    let next : 16 * (c.loop-b.b + 1) ≡ 16 * c.loop-b.b + 16 = omega arith in
    rw next (look_block _ c.requires.1 16 (c.none_has.ensures.0 c.if-none_has.true) c.loop-b.invariant)

pub loop-j-preserved-then-prints-j : goal.loop-j-preserved-then-prints-j
loop-j-preserved-then-prints-j c = look_other c.loop-j.invariant _ c.requires.1 c.if-prints-j.true

pub loop-j-preserved-in_default : goal.loop-j-preserved-in_default
loop-j-preserved-in_default c =
    let here : c.loop-j.j < c.args.names = omega (arith, c.loop-j-test.true, c.min-j-end.ensures, c.wide-names.ensures.0) in
    let far : length c.args.line.file.now < c.word.result / 512 =
    ⊎_elim (λ l. omega (arith, c.wide.ensures.0, c.name_place.ensures)) (λ l. absurd (omega arith)) c.in_default.ensures.lookup.0 in
    look_next c.loop-j.invariant here c.word.ensures (name_nowhere c.args.line.file.now c.word.result c.args.line.at c.args.line.bytes.now far) refl

pub returns-then-starts_with : goal.returns-then-starts_with
returns-then-starts_with c =
    let here : c.loop-j.j < c.args.names = omega (arith, c.loop-j-test.true, c.min-j-end.ensures, c.wide-names.ensures.0) in
    look_found c.loop-j.invariant here c.word.ensures
    (name_compared c.args.line.file.now c.word.result c.args.line.at c.args.line.bytes.now _ _ c.digits-digits.ensures
    (rw (c.wide.ensures.0, c.name_place.ensures) at c.in-Some.ensures.lookup.0.2) _ c.starts_with.ensures.value) c.if-starts_with.true

pub loop-j-preserved : goal.loop-j-preserved
loop-j-preserved c =
    let here : c.loop-j.j < c.args.names = omega (arith, c.loop-j-test.true, c.min-j-end.ensures, c.wide-names.ensures.0) in
    look_next c.loop-j.invariant here c.word.ensures
    (name_compared c.args.line.file.now c.word.result c.args.line.at c.args.line.bytes.now _ _ c.digits-digits.ensures
    (rw (c.wide.ensures.0, c.name_place.ensures) at c.in-Some.ensures.lookup.0.2) _ c.starts_with.ensures.value) c.if-starts_with.false

pub loop-b-preserved : goal.loop-b-preserved
loop-b-preserved c =
    let here : 16 * c.loop-b.b ≤ c.min-j-end.result = omega (arith, c.loop-b-test.true, c.div_ceil-b-end.ensures, c.min-j-end.ensures) in
    let all : c.loop-j.j ≡ c.min-j-end.result = omega (arith, c.loop-j-test.false, c.loop-j.auto.j-end here) in
    look_up_to _ (omega (arith, all, c.min-j-end.ensures, c.wide-names.ensures.0)) c.loop-j.invariant

pub returns : goal.returns
returns c = look_none c.loop-b.invariant (omega (arith, c.loop-b-test.false, c.div_ceil-b-end.ensures, c.wide-names.ensures.0))
