-- An entry costs a visit, and the visits left never grow: the measure is the visits left, and among calls with as many
-- left the place of a function on the way down from `unify_heads` to the next `unify_sides`. Each arm is a law of its own.
use Prim.Native.Nat.{◌+◌, ◌-◌, ◌*◌}
use Rattle.cells.proofs.Records.{FieldsGoing}
use Rattle.cells.proofs.Unions.{UnionGoing}
use Rattle.cells.specs.Promises.{Passed}
use Rattle.unify.specs.Last.{Remembers}
use Rattle.unify.proofs.+unifying.Given as goal

abbrev pub decreases-unify_sides : goal.decreases-unify_sides
decreases-unify_sides l = 8 * l.left

abbrev pub decreases-unify_heads : goal.decreases-unify_heads
decreases-unify_heads l = 8 * l.left + 7

abbrev pub decreases-unify_shapes : goal.decreases-unify_shapes
decreases-unify_shapes l = 8 * l.left + 6

abbrev pub decreases-unify_record : goal.decreases-unify_record
decreases-unify_record l = 8 * l.left + 5

abbrev pub decreases-unify_union : goal.decreases-unify_union
decreases-unify_union l = 8 * l.left + 5

abbrev pub decreases-unify_fields : goal.decreases-unify_fields
decreases-unify_fields l = 8 * l.left + 4

abbrev pub decreases-unify_next : goal.decreases-unify_next
decreases-unify_next l = 8 * l.left + 3

abbrev pub invariant-unify_fields-loop-j : goal.invariant-unify_fields-loop-j
invariant-unify_fields-loop-j l = FieldsGoing l.initial.w l.c l.d l.n l.left l.w l.j l.rest (Remembers l.last)

abbrev pub invariant-unify_union-loop-k : goal.invariant-unify_union-loop-k
invariant-unify_union-loop-k l =
    UnionGoing l.initial.w l.c l.d l.left l.w l.from l.rest (Remembers l.last) × Passed l.w l.c l.i l.from × Passed l.w l.d l.j l.from

abbrev pub decreases-unify_union-loop-k : goal.decreases-unify_union-loop-k
decreases-unify_union-loop-k l = 4294967296 - l.from
