use mathlib.Core.Path.{refl, sym, ap, ◌∙◌}
use native.Mathlib.Omega.{arith}
use borrow.Author.Rules.{rules}
use Rattle.std.proofs.lemmas.Result.{err_from_is_err_and}
use Rattle.frames.specs.Promises.{known, edition_of}
use Rattle.reading.proofs.Stepping.{no_value, the_value}
use Rattle.reading.proofs.AllLines.{midway_start, midway_on, midway_off, midway_unknown, midway_value, midway_asks, midway_placed, midway_bad, midway_whole}
use Rattle.reading.proofs.AllLines.{midway_missing, decoded, line_holds}
use Rattle.reading.proofs.take_lines.Goals as goal

pub loop-at-init : goal.loop-at-init
loop-at-init c = (refl, refl, rw c.new-c.ensures (midway_start _ _ _ _ c.requires.0 c.requires.1))

pub returns-in_err-n : goal.returns-in_err-n
returns-in_err-n c =
    let p = err_from_is_err_and c.from_residual.result c.from_residual.ensures.1 in
    let n = no_value _ _ _ c.in_err-n.ensures.value in
    rw (p.1, p.2, n.0) (record { ends = midway_bad _ c.loop-at.invariant.2 (c.decode.ensures.fails n.1 c.loop-at-test.true) })

pub returns-in_err-kind : goal.returns-in_err-kind
returns-in_err-kind c =
    let p = err_from_is_err_and c.from_residual-in_err-kind.result c.from_residual-in_err-kind.ensures.1 in
    let k = no_value _ _ _ c.in_err-kind.ensures.value in
    let h = decoded c.decode.ensures (the_value _ _ _ c.in_ok-n.ensures.value) in
    rw (p.1, p.2, k.0) (record { ends = midway_unknown _ c.loop-at.invariant.2 h (sym (ap known k.1) ∙ c.kind_of.ensures) })

pub slice_bounds-bytes-end : goal.slice_bounds-bytes-end
slice_bounds-bytes-end c =
    let h = decoded c.decode.ensures (the_value _ _ _ c.in_ok-n.ensures.value) in
    omega (arith, h.most, c.decode.ensures.room)

pub slice_bounds-line-end : goal.slice_bounds-line-end
slice_bounds-line-end c = sym (decoded c.decode.ensures (the_value _ _ _ c.in_ok-n.ensures.value)).count

pub invariant_of-line : goal.invariant_of-line
invariant_of-line c =
    let h = line_holds (edition_of c.args.edition) (decoded c.decode.ensures (the_value _ _ _ c.in_ok-n.ensures.value)) in
    record { placed = midway_placed _ c.loop-at.invariant.2 c.loop-at-test.true; some = h.some; short = h.most; within = omega (arith, h.on, h.within) }

pub take_line-requires : goal.take_line-requires
take_line-requires c = midway_asks _ c.loop-at.invariant.2

pub returns-in_err-c : goal.returns-in_err-c
returns-in_err-c c =
    let p = err_from_is_err_and c.from_residual-in_err-c.result c.from_residual-in_err-c.ensures.1 in
    let h = decoded c.decode.ensures (the_value _ _ _ c.in_ok-n.ensures.value) in
    let k = sym (ap known (the_value _ _ _ c.in_ok-kind.ensures.value)) ∙ c.kind_of.ensures in
    rw (p.1, p.2) (record { ends = midway_off _ c.loop-at.invariant.2 h _ k _ _ _ c.in_err-c.ensures })

pub loop-at-smaller : goal.loop-at-smaller
loop-at-smaller c =
    let h = decoded c.decode.ensures (the_value _ _ _ c.in_ok-n.ensures.value) in
    omega (arith, h.on, h.within)

pub loop-at-preserved : goal.loop-at-preserved
loop-at-preserved c =
    let h = decoded c.decode.ensures (the_value _ _ _ c.in_ok-n.ensures.value) in
    let k = sym (ap known (the_value _ _ _ c.in_ok-kind.ensures.value)) ∙ c.kind_of.ensures in
    (c.decode.ensures.room, c.take_line.auto.w ∙ c.loop-at.invariant.1, midway_on _ c.loop-at.invariant.2 h _ k _ _ _ c.in_ok-c.ensures)

pub returns-then-ne : goal.returns-then-ne
returns-then-ne c = let h = c.ne.ensures in record { ends = midway_missing _ c.loop-at.invariant.2 c.loop-at-test.false (search rules) }

pub put_counts-requires : goal.put_counts-requires
put_counts-requires c = midway_value _ c.loop-at.invariant.2

pub returns : goal.returns
returns c = record { ends = rw c.put_counts.ensures (midway_whole _ c.loop-at.invariant.2 c.loop-at-test.false (search rules)) }
