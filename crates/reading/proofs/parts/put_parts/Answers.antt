use mathlib.Core.Path.{sym, ap, ◌∙◌}
use Prim.Native.Nat.{ℕ, ◌+◌}
use native.Mathlib.Omega.{arith}
use lib.ListN.{drop}
use lib.Seq.{sets}
use Rattle.cells.specs.Stands.{part_words}
use Rattle.reading.specs.Parts.{words_of}
use Rattle.std.proofs.lemmas.List.{drop_all}
use Rattle.reading.proofs.Walks.{front_is, few_words, words_next}
use Rattle.reading.proofs.parts.put_parts.Goals as goal

pub put-requires : goal.put-requires
put-requires g c = omega (arith, c.loop-bytes.invariant.place, c.loop-bytes-test.true)

pub loop-bytes-preserved : goal.loop-bytes-preserved
loop-bytes-preserved g c =
    let k = g.P.Part.kind in
    let left = drop (c.loop-bytes.bytes-index + 1) c.args.parts.now in
    let n = c.WORDS-at.ensures ∙ g.met.P.Part.sizes.1 in
    record {
      place = omega (arith, c.loop-bytes.invariant.place, few_words k, n);
      words = c.loop-bytes.invariant.words
          ∙ ap (λ l. sets c.loop-bytes.w c.loop-bytes.at (words_of k l))
          (front_is c.args.parts.now _ c.bytes-item.result c.loop-bytes-test.true c.bytes-item.is)
          ∙ words_next k c.bytes-item.result left c.loop-bytes.w c.loop-bytes.at
          ∙ ap (λ v. sets v (c.loop-bytes.at + part_words k) (words_of k left)) (sym c.put.ensures)
          ∙ ap (λ (m : ℕ). sets c.put.new.w (c.loop-bytes.at + m) (words_of k left)) (sym n);
    }

pub returns : goal.returns
returns g c = sym (c.loop-bytes.invariant.words ∙ ap (λ l. sets c.loop-bytes.w c.loop-bytes.at (words_of g.P.Part.kind l))
    (drop_all _ c.args.parts.now c.loop-bytes-test.false))
