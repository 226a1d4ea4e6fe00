-- `reading::take_predicate` meets its contract: each end is one of a predicate line's.
use native.Mathlib.Omega.{arith}
use mathlib.Core.Path.{sym, ◌∙◌}
use Rattle.reading.proofs.Predicates.{predicate_bad, predicate_takes, no_name, no_key, no_value_lem, value_none, value_some, none_there, some_there}
use Rattle.reading.proofs.types.take_predicate.Goals as goal
use Rattle.reading.proofs.types.take_predicate.Goals.{then-c-p-via-then-c-p, then-c-p-via-else-c-p+then-c-p-2}
use Rattle.std.specs.Prelude.{None}

pub returns-then-c-p : goal.returns-then-c-p
returns-then-c-p c = record {
  is = λ e. predicate_bad e c.args.s.now _ _ c.requires.0 (λ v a. elim c.then-c-p.branch [
    | then-c-p-via-then-c-p w ↦ no_name e c.args.s.now c.args.w.now c.args.c c.requires.0 (rw c.read_predicate-p.ensures.name at w.if-c-p.true) v
    | then-c-p-via-else-c-p+then-c-p-2 w ↦ no_key e c.args.s.now c.args.w.now c.args.c c.requires.0 (rw c.read_predicate-p.ensures.key at w.if-c-p-2.true) v
  ]);
}

pub returns-then-p-eq0 : goal.returns-then-p-eq0
returns-then-p-eq0 c = record {
  is = λ e. predicate_takes e c.args.s.now _ _ c.requires.0 None (value_none c.args.s.now (sym c.read_predicate-p.ensures.flag ∙ c.if-p-eq0.true))
      (none_there e c.args.s.now c.args.w.now c.args.c c.requires.0 (rw c.read_predicate-p.ensures.name at c.if-c-p.false)
      (rw c.read_predicate-p.ensures.key at c.if-c-p-2.false)) _ _ _
      (omega (arith, c.read_predicate-p.ensures.name, c.read_predicate-p.ensures.key, c.predicate_word-entry.ensures)) c.add_predicate.ensures;
}

pub returns-then-c-p-3 : goal.returns-then-c-p-3
returns-then-c-p-3 c =
    record {
      is = λ e. predicate_bad e c.args.s.now _ _ c.requires.0
          (λ v a. no_value_lem e c.args.s.now c.args.w.now c.args.c c.requires.0 (λ q. c.if-p-eq0.false (c.read_predicate-p.ensures.flag ∙ q))
          (rw c.read_predicate-p.ensures.value at c.if-c-p-3.true) v a);
    }

pub returns : goal.returns
returns c = record {
  is = λ e. predicate_takes e c.args.s.now _ _ c.requires.0 _ (value_some c.args.s.now (λ q. c.if-p-eq0.false (c.read_predicate-p.ensures.flag ∙ q)))
      (some_there e c.args.s.now c.args.w.now c.args.c c.requires.0 (rw c.read_predicate-p.ensures.name at c.if-c-p.false)
      (rw c.read_predicate-p.ensures.key at c.if-c-p-2.false) (rw c.read_predicate-p.ensures.value at c.if-c-p-3.false)) _ _ _
      (omega (
        arith,
        c.read_predicate-p.ensures.name,
        c.read_predicate-p.ensures.key,
        c.read_predicate-p.ensures.value,
        c.predicate_word-entry.ensures,
        c.with_value.ensures,
      )) c.add_predicate-2.ensures;
}
