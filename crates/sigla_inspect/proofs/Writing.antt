-- One text behind another.
use Rattle.std.proofs.Common.{ℕ, List, ◌++◌, Option, Result, Ok, Err, OnOk}
use Rattle.std.specs.Io.KnownBytes.{Appends}
use Rattle.std.proofs.KnownBytes.{Appends-trans}
use Rattle.input.specs.declared.Failure.{Failure}
use Rattle.input.proofs.Gains.{second_gained}
use Rattle.sigla_inspect.specs.Promises.{HandsOver}

pub then_written : {A : Type 0} (a b : Option (List ℕ)) (xs : List ℕ) → Appends a b xs → (c : Option (List ℕ)) (r : Result A Failure) (ys : List ℕ)
    → HandsOver b c r ys → HandsOver a c r (xs ++ ys)
then_written {A} a b xs first c r ys h = record { whole = go r h.whole; front = second_gained a b c xs ys first h.front }
  where
    go : (r : Result A Failure) → OnOk r (Appends b c ys) → OnOk r (Appends a c (xs ++ ys))
    go (Ok u) second = Appends-trans a b c xs ys first second
    go (Err e) second = tt
