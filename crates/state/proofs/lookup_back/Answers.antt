use Rattle.std.proofs.Common.{◌≡◌, ◌+◌, ◌-◌, ◌/◌, get_or, refl, sym, ◌∙◌, arith}
use Rattle.work.specs.Layout.{ENV}
use Rattle.state.proofs.Searching.{fits, passes, nothing}
use Rattle.state.proofs.lookup_back.Goals as goal

pub loop-i-init : goal.loop-i-init
loop-i-init c = refl

pub returns-then-symbol_of-symbol : goal.returns-then-symbol_of-symbol
returns-then-symbol_of-symbol c =
    let here : c.loop-i.i ≡ c.wide.result + 1 = omega (arith, c.loop-i-test.true, c.wide.ensures.0) in
    sym ((rw here at c.loop-i.invariant) ∙ fits c.args.w.now c.args.symbol c.wide.result (sym c.symbol_of.ensures ∙ c.if-symbol_of-symbol.true))

pub loop-i-preserved : goal.loop-i-preserved
loop-i-preserved c =
    let here : c.loop-i.i ≡ c.loop-i.i - 1 + 1 = omega (arith, c.loop-i-test.true) in
    let other : (get_or c.args.w.now (ENV + (c.loop-i.i - 1)) 0 / 262144 ≡ c.args.symbol) → ⊥ =
    λ q. c.if-symbol_of-symbol.false (rw c.wide.ensures.0 at c.symbol_of.ensures ∙ q) in
    (rw here at c.loop-i.invariant) ∙ passes c.args.w.now c.args.symbol (c.loop-i.i - 1) other

pub returns : goal.returns
returns c = sym (c.loop-i.invariant ∙ nothing c.args.w.now c.args.symbol (omega (arith, c.loop-i-test.false)))
