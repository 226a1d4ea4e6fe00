use Rattle.std.proofs.Common.{◌/◌, ◌∙◌, ap}
use Prim.Native.Nat.{min}
use lib.Count.{count_trailing_zeros}
use Rattle.frames.proofs.Digits.{mask_is, long, pairs_are}
use Rattle.frames.proofs.lines.eight.Goals as goal

pub returns-clause-are : goal.returns-clause-are
returns-clause-are c =
    let f = c.args.file.now in
    let v = c.values-values.result in
    let are = c.values-values.ensures in
    let counted = c.min.ensures ∙ ap (λ m. min (count_trailing_zeros 64 m / 2) 8) (mask_is v (long f c.args.i v c.requires.file are)) in
    pairs_are f c.args.i v c.requires.file are c.args.bytes.now c.requires.bytes c.min.result counted
