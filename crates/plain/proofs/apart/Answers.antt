use Rattle.std.specs.Cmp.Lexicographic.{same_text, other_text}
use Rattle.plain.proofs.Stepping.{apart_same, apart_flat, apart_node, apart_kinds, apart_counts, apart_unlike, apart_split}
use Rattle.plain.proofs.apart.Goals as goal
use Rattle.plain.proofs.apart.Goals.{else-kind-other-via-then-kind-other+then-n-m+else-alike, else-kind-other-via-then-kind-other+else-n-m}
use Rattle.plain.proofs.apart.Goals.{else-kind-other-via-else-kind-other}

pub returns-then-eq : goal.returns-then-eq
returns-then-eq c = apart_same _ _ c.args.rest c.in_default.ensures (same_text _ _ c.if-eq.ensures)

pub returns-else-eq : goal.returns-else-eq
returns-else-eq c = apart_flat _ _ c.args.rest c.in_default.ensures (other_text _ _ c.if-eq.ensures)

pub returns-in_default-node : goal.returns-in_default-node
returns-in_default-node c = apart_node _ _ c.args.rest c.in-Some.ensures c.in_default-node.ensures

pub returns-then-alike : goal.returns-then-alike
returns-then-alike c = apart_split _ _ c.in-Some.first c.in-Some-node.second c.args.rest c.in-Some.ensures c.in-Some-node.ensures c.if-kind-other.true
    c.if-n-m.true c.if-alike.ensures

pub returns-else-kind-other : goal.returns-else-kind-other
returns-else-kind-other c = elim c.else-kind-other.branch [
  | else-kind-other-via-then-kind-other+then-n-m+else-alike w ↦
      apart_unlike _ _ c.args.rest c.in-Some.ensures c.in-Some-node.ensures w.if-kind-other.true w.if-n-m.true w.if-alike.ensures
  | else-kind-other-via-then-kind-other+else-n-m w ↦ apart_counts _ _ c.args.rest c.in-Some.ensures c.in-Some-node.ensures w.if-kind-other.true w.if-n-m.false
  | else-kind-other-via-else-kind-other w ↦ apart_kinds _ _ c.args.rest c.in-Some.ensures c.in-Some-node.ensures w.if-kind-other.false
]
