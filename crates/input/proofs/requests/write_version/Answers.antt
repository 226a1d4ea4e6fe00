-- `requests::write_version` meets its contract: of the four parts one is written after the other.
use Rattle.std.proofs.Common.{List, ℕ, Option, ◌++◌, subst}
use Rattle.std.specs.Prelude.{codes}
use Rattle.std.specs.Io.KnownBytes.{Appends}
use Rattle.std.proofs.KnownBytes.{Appends-trans}
use Rattle.input.specs.declared.requests.TheConstants.{VERSION}
use Rattle.input.specs.Gains.{GainsFrontOf}
use Rattle.input.specs.Endings.{version_line}
use Rattle.input.proofs.Gains.{first_gained, second_gained}
use Rattle.input.proofs.requests.write_version.Goals as goal

module _ (name : List ℕ) (contents named spaced : Option (List ℕ)) (first : Appends contents named name) where
  space_gained : GainsFrontOf named spaced (codes " ") → GainsFrontOf contents spaced (version_line name)
  space_gained h =
      first_gained _ _ ((name ++ codes " ") ++ VERSION.now) _ (first_gained _ _ (name ++ codes " ") _ (second_gained _ named _ _ _ first h))

  module _ (numbered : Option (List ℕ)) (second : Appends named spaced (codes " ")) where
    number_gained : GainsFrontOf spaced numbered VERSION.now → GainsFrontOf contents numbered (version_line name)
    number_gained h =
        first_gained _ _ ((name ++ codes " ") ++ VERSION.now) _ (second_gained _ spaced _ _ _ (Appends-trans _ named _ _ _ first second) h)

    line_gained : (ended : Option (List ℕ)) → Appends spaced numbered VERSION.now → GainsFrontOf numbered ended (codes "\n")
        → GainsFrontOf contents ended (version_line name)
    line_gained ended third h =
        second_gained _ numbered _ _ _ (Appends-trans _ spaced _ _ _ (Appends-trans _ named _ _ _ first second) third) h

pub returns-in_err-write-2-clause-front : goal.returns-in_err-write-2-clause-front
returns-in_err-write-2-clause-front g c =
    space_gained _ _ _ _ (subst (Appends _ _) c.as_bytes.ensures.value c.in_ok-write.ensures.whole) c.write-2.ensures.front

pub returns-in_err-write-3-clause-front : goal.returns-in_err-write-3-clause-front
returns-in_err-write-3-clause-front g c =
    number_gained _ _ _ _ (subst (Appends _ _) c.as_bytes.ensures.value c.in_ok-write.ensures.whole) _ c.in_ok-write-2.ensures.whole
    (subst (GainsFrontOf _ _) c.as_bytes-2.ensures.value c.write-3.ensures.front)

pub returns-clause-front : goal.returns-clause-front
returns-clause-front g c =
    line_gained _ _ _ _ (subst (Appends _ _) c.as_bytes.ensures.value c.in_ok-write.ensures.whole) _ c.in_ok-write-2.ensures.whole _
    (subst (Appends _ _) c.as_bytes-2.ensures.value c.in_ok-write-3.ensures.whole) c.write-4.ensures.front
