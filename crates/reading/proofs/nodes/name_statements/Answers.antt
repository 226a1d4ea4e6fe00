use mathlib.Core.Path.{refl, sym, ap, subst}
use Prim.Native.Nat.{ℕ, ◌+◌, min}
use native.Mathlib.Omega.{arith}
use lib.ListN.{length, length-drop}
use Rattle.std.proofs.lemmas.Result.{err_from_is_err_and}
use Rattle.reading.proofs.Marking.{told_there, told_missing, missing, all_there}
use Rattle.reading.proofs.Stating.{Stating, state_start, rest_start, rest_on, rest_no_first, rest_one, rest_no_second, rest_two, rest_end}
use Rattle.reading.proofs.nodes.name_statements.Goals as goal
use Rattle.reading.proofs.nodes.name_statements.Goals.{in-1, in_default-tag+in_ok-name_node-in_default-tag, in_default-tag-via-then-tag-lt1}
use Rattle.reading.proofs.nodes.name_statements.Goals.{in_default-tag-via-else-tag-lt1+else-tag-lt3}

pub loop-rest-init : goal.loop-rest-init
loop-rest-init c = (0, rest_start _, state_start _ _ _)

pub returns-in_err-name_node : goal.returns-in_err-name_node
returns-in_err-name_node c =
    let m = told_missing c.in_err-name_node.ensures refl in
    let p = err_from_is_err_and c.from_residual.result c.from_residual.ensures.1 in
    rw (p.1, p.2) (missing m.0 (rest_no_first c.loop-rest.invariant.1 c.loop-rest.invariant.2 (omega (arith, c.in-len1-up.len_at_least)) _
    (rw c.half.ensures.0 at m.1)))

pub returns-in_err-name_node-in_default-tag : goal.returns-in_err-name_node-in_default-tag
returns-in_err-name_node-in_default-tag c =
    let m = told_missing c.in_err-name_node-in_default-tag.ensures refl in
    let n = told_there c.in_ok-name_node.ensures refl in
    let p = err_from_is_err_and c.from_residual-in_err-name_node-in_default-tag.result c.from_residual-in_err-name_node-in_default-tag.ensures.1 in
    rw (p.1, p.2) (missing m.0 (rest_no_second c.loop-rest.invariant.1 c.loop-rest.invariant.2 (omega (arith, c.in-len1-up.len_at_least))
    (λ q. elim c.in_default-tag.branch [ in_default-tag-via-then-tag-lt1 w ↦ omega arith | in_default-tag-via-else-tag-lt1+else-tag-lt3 w ↦ omega arith ])
    (λ q. elim c.in_default-tag.branch [ in_default-tag-via-then-tag-lt1 w ↦ omega arith | in_default-tag-via-else-tag-lt1+else-tag-lt3 w ↦ omega arith ])
    _ (rw c.half.ensures.0 at n) _ (rw c.half-in_default-tag.ensures.0 at m.1)))

pub loop-rest-preserved : goal.loop-rest-preserved
loop-rest-preserved c = (
  c.loop-rest.invariant.0 + min c.if-tag-lt1.size (length c.loop-rest.rest.now),
  rest_on c.loop-rest.invariant.1 c.if-tag-lt1.size _ _ refl c.past-rest.ensures,
  elim c.if-tag-lt1.branch [
    | in-1 w ↦
        let n = told_there c.in_ok-name_node.ensures refl in
        subst (λ v. Stating c.args.s.now c.args.w.now c.args.nodes (c.loop-rest.invariant.0 + min c.if-tag-lt1.size (length c.loop-rest.rest.now)) v)
        (sym w.w-is)
        (rest_one c.loop-rest.invariant.1 c.loop-rest.invariant.2 (omega (arith, c.in-len1-up.len_at_least)) _ (omega arith) (omega arith)
        (rw c.half.ensures.0 at n) _ (ap (λ (x : ℕ). min x (length c.loop-rest.rest.now)) w.size-is))
    | in_default-tag+in_ok-name_node-in_default-tag w ↦
        let n = told_there c.in_ok-name_node.ensures refl in
        let m = told_there w.in_ok-name_node-in_default-tag.ensures refl in
        subst (λ v. Stating c.args.s.now c.args.w.now c.args.nodes (c.loop-rest.invariant.0 + min c.if-tag-lt1.size (length c.loop-rest.rest.now)) v)
        (sym w.w-is)
        (rest_two c.loop-rest.invariant.1 c.loop-rest.invariant.2 (omega (arith, c.in-len1-up.len_at_least))
        (λ q. elim w.in_default-tag.branch [ in_default-tag-via-then-tag-lt1 v ↦ omega arith | in_default-tag-via-else-tag-lt1+else-tag-lt3 v ↦ omega arith ])
        (λ q. elim w.in_default-tag.branch [ in_default-tag-via-then-tag-lt1 v ↦ omega arith | in_default-tag-via-else-tag-lt1+else-tag-lt3 v ↦ omega arith ])
        _ (rw c.half.ensures.0 at n) _ (rw w.half-in_default-tag.ensures.0 at m) _ (ap (λ (x : ℕ). min x (length c.loop-rest.rest.now)) w.size-is))
  ],
)

pub loop-rest-smaller : goal.loop-rest-smaller
loop-rest-smaller c =
    let shorter = ap length c.past-rest.ensures in
    elim c.if-tag-lt1.branch [
      | in-1 w ↦ omega (arith, shorter, length-drop c.if-tag-lt1.size c.loop-rest.rest.now, w.size-is, c.in-len1-up.len_at_least)
      | in_default-tag+in_ok-name_node-in_default-tag w ↦ omega
          (arith, shorter, length-drop c.if-tag-lt1.size c.loop-rest.rest.now, w.size-is, c.in-len1-up.len_at_least)
    ]

pub returns : goal.returns
returns c = all_there (rest_end c.loop-rest.invariant.1 c.loop-rest.invariant.2 c.in_default.len_below)
