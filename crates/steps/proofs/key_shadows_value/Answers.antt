-- The name `value`, the key and the field found are those of the definition.
use native.Mathlib.Omega.{arith}
use Rattle.steps.proofs.Looking.{no_value_name, no_key, shadows}
use Rattle.steps.proofs.key_shadows_value.Goals as goal

pub returns-in_default : goal.returns-in_default
returns-in_default c = no_value_name _ c.word.ensures (omega (arith, rw c.in_default.is at c.checked_sub.ensures))

pub returns-in_default-key_ty : goal.returns-in_default-key_ty
returns-in_default-key_ty c =
    no_key _ c.word.ensures (omega (arith, (rw c.in-Some.is at c.checked_sub.ensures).0)) c.key_ty.ensures c.in_default-key_ty.is

pub returns : goal.returns
returns c =
    let s = rw c.in-Some.is at c.checked_sub.ensures in
    shadows _ c.word.ensures (omega (arith, s.0)) c.key_ty.ensures _ c.in-Some-key_ty.is (rw s.1 at c.field_of.ensures) c.is_some.ensures
