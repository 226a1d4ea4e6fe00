-- A refusal says nothing of the slice, so it may be cleared.
use borrow.Author.Rules.{rules}
use mathlib.Core.Path.{sym, ap, ◌∙◌}
use lib.ListN.{replicate}
use Rattle.reading.proofs.AllLines.{ends_cleared, refused_by}
use Rattle.reading.proofs.read_or_clear.Goals as goal

pub returns-then-is_err : goal.returns-then-is_err
returns-then-is_err c =
    let e = refused_by c.read_file-r.result (sym c.is_err.ensures.value ∙ c.if-is_err.true) in
    record {
      ends = ends_cleared _ _ _ _ _ _ _ e.1 c.read_file-r.ensures.ends;
      long = search rules;
      cleared = λ i q. c.clear.ensures ∙ ap (λ n. replicate n 0) c.read_file-r.ensures.long;
    }
