use borrow.Author.Rules.{rules}
use Rattle.loading.proofs.Loading.{loading_full, loading_over, loading_past, loading_query, loading_too_long}
use Rattle.loading.proofs.load.Goals as goal

pub returns-then-file-gt-FILE : goal.returns-then-file-gt-FILE
returns-then-file-gt-FILE c = loading_too_long _ _ _ c.if-file-gt-FILE.true

pub loop-kind-preserved-in-Some : goal.loop-kind-preserved-in-Some
loop-kind-preserved-in-Some c = loading_past c.loop-kind.invariant c.in-Some.ensures _ c.kind_of.ensures (search rules) (search rules)

pub loop-kind-preserved : goal.loop-kind-preserved
loop-kind-preserved c = loading_past c.loop-kind.invariant c.in-Some.ensures _ c.kind_of.ensures (search rules) (search rules)

pub loop-kind-preserved-else-nodes-lt-NODES : goal.loop-kind-preserved-else-nodes-lt-NODES
loop-kind-preserved-else-nodes-lt-NODES c = loading_full c.loop-kind.invariant c.in-Some.ensures _ c.kind_of.ensures (search rules) c.if-nodes-lt-NODES.false

pub returns-in-Some-Query : goal.returns-in-Some-Query
returns-in-Some-Query c = rw (c.put-in-Some-Query.ensures, c.put.ensures, c.line_word.ensures)
    (loading_query c.loop-kind.invariant c.in-Some.ensures _ c.kind_of.ensures (search rules))

pub returns : goal.returns
returns c = loading_over c.loop-kind.invariant c.in_default.ensures
