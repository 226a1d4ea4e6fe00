-- `lamp::one_query` meets its contract: by the end of the run, and where it stopped by the number of its diagnostics.
use native.Mathlib.Omega.{arith}
use Rattle.lamp.proofs.Asking.{glow_dark, glow_out, glow_shown}
use Rattle.lamp.proofs.one_query.Goals as goal

pub returns-in-Some-clause-is : goal.returns-in-Some-clause-is
returns-in-Some-clause-is c = rw c.wide.ensures.0 (glow_dark c.query-d.ensures.is c.in-Some.is c.saturating_sub.ensures)

pub returns-then-word-eq0-clause-is : goal.returns-then-word-eq0-clause-is
returns-then-word-eq0-clause-is c = rw c.wide-visits.ensures.0
    (glow_out c.query-d.ensures.is c.in_default.is c.word.ensures c.saturating_sub-2.ensures c.word-2.ensures c.if-word-eq0.true)

pub returns-else-word-eq0-clause-is : goal.returns-else-word-eq0-clause-is
returns-else-word-eq0-clause-is c = rw c.wide-visits.ensures.0
    (glow_shown c.query-d.ensures.is c.in_default.is c.word.ensures c.saturating_sub-2.ensures c.word-2.ensures c.if-word-eq0.false)

pub returns-in-Some-clause-spent : goal.returns-in-Some-clause-spent
returns-in-Some-clause-spent c = λ h. omega
    (arith, c.query-d.ensures.pays, c.query-d.ensures.noted.back _ c.in-Some.is, c.saturating_sub.ensures, c.wide.ensures.0)

pub returns-then-word-eq0-clause-spent : goal.returns-then-word-eq0-clause-spent
returns-then-word-eq0-clause-spent c = λ h. omega
    (arith, c.query-d.ensures.pays, c.query-d.ensures.noted.noted c.in_default.is h, c.word.ensures, c.saturating_sub-2.ensures, c.wide-visits.ensures.0)

pub returns-else-word-eq0-clause-spent : goal.returns-else-word-eq0-clause-spent
returns-else-word-eq0-clause-spent c = λ h. omega
    (arith, c.query-d.ensures.pays, c.query-d.ensures.noted.noted c.in_default.is h, c.word.ensures, c.saturating_sub-2.ensures, c.wide-visits.ensures.0)
