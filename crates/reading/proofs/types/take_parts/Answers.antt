use mathlib.Core.List.{[]}
use mathlib.Core.Path.{refl, sym, ap, ◌∙◌}
use Prim.Native.Nat.{ℕ, ◌+◌, ◌*◌}
use lib.ListN.{length}
use lib.Seq.{sets}
use borrow.Author.Tests.{not-true, not-false}
use Rattle.work.specs.Layout.{FIELDS}
use Rattle.format.specs.Conditions.{again}
use Rattle.reading.specs.Parts.{keys_of, words_of}
use Rattle.reading.proofs.Walks.{earlier}
use Rattle.reading.proofs.Cuts.{length_cuts}
use Rattle.reading.proofs.Typing.{cut_all, adds_as, parts_bad, parts_repeat, parts_taken}
use Rattle.reading.proofs.types.take_parts.Goals as goal

pub returns-then-not-are_earlier : goal.returns-then-not-are_earlier
returns-then-not-are_earlier g c =
    let q = cut_all g.P.Part.kind c.args.s.now _ _ _ g.met.P.Part.sizes.0 refl c.as_chunks.ensures.front in
    let e = ap (earlier g.P.Part.kind c.args.room.c.names c.args.room.c.types) (sym q) ∙ sym c.are_earlier.ensures ∙ c.if-not-are_earlier.true in
    record { is = λ ed. parts_bad ed c.args.s.now _ _ c.requires.0 g.P.Part.kind e }

pub returns-then-not-are_distinct : goal.returns-then-not-are_distinct
returns-then-not-are_distinct g c =
    let q = cut_all g.P.Part.kind c.args.s.now _ _ _ g.met.P.Part.sizes.0 refl c.as_chunks.ensures.front in
    let e = ap (earlier g.P.Part.kind c.args.room.c.names c.args.room.c.types) (sym q) ∙ sym c.are_earlier.ensures ∙ c.if-not-are_earlier.false in
    let d = ap (λ l. again [] (keys_of g.P.Part.kind l)) (sym q) ∙ not-false _ (sym c.are_distinct.ensures ∙ c.if-not-are_distinct.true) in
    record { is = λ ed. parts_repeat ed c.args.s.now _ _ c.requires.0 g.P.Part.kind e d }

pub returns : goal.returns
returns g c =
    let k = g.P.Part.kind in
    let t = g.met.P.Part.sizes in
    let q = cut_all k c.args.s.now _ _ _ t.0 refl c.as_chunks.ensures.front in
    let e = ap (earlier k c.args.room.c.names c.args.room.c.types) (sym q) ∙ sym c.are_earlier.ensures ∙ c.if-not-are_earlier.false in
    let d = ap (λ l. again [] (keys_of k l)) (sym q) ∙ not-true _ (sym c.are_distinct.ensures ∙ c.if-not-are_distinct.false) in
    let a = adds_as (c.put_parts.ensures ∙ ap (λ l. sets c.args.w.now (FIELDS + c.args.room.c.fields) (words_of k l)) q)
    (c.with_tag-head.ensures ∙ ap (λ (m : ℕ). length c.as_chunks.result.0.now * 16 + m) (c.TAG.ensures ∙ t.2))
    (ap (λ (m : ℕ). length c.as_chunks.result.0.now * m) (c.WORDS.ensures ∙ t.1)) c.add_type.ensures in
    record { is = λ ed. parts_taken ed c.args.s.now _ _ c.requires.0 k e d _ _ _ (ap length q ∙ length_cuts _ _ _) a }
