-- Lines pass exactly where they are frames that obey the rules.
use mathlib.Core.Bool.{false}
use mathlib.Core.List.{List, [], ◌∷◌, map}
use mathlib.Core.Path.{◌≡◌, refl}
use Rattle.format.specs.Frame.{Frame}
use Rattle.format.specs.SoFar.{SoFar, Said, malformed, unknown_kind, no_frame, frames, after}
use Rattle.format.specs.Conditions.{is_malformed, is_misplaced, is_no_frame, conditions}
use Rattle.format.specs.All.{All}
use Rattle.format.proofs.Obeys.{Obeys, Rules, done, next}
use Rattle.format.specs.Refused.{Pass, none_left, more}
use Rattle.format.proofs.Tests.{clash}
use Rattle.format.proofs.Conditions.{none_holds, holds_none, obeys, no_condition}

record Framed (so : SoFar) (l : Said) : Type 0 where
  frame : Frame
  is : l ≡ frames frame
  obeys : Obeys so frame

framed : (so : SoFar) (l : Said) → All (λ c. c.holds so l ≡ false) conditions → Framed so l
unfolding conditions is_malformed is_misplaced is_no_frame
framed so malformed a = clash a.0
framed so unknown_kind a = clash a.1.0
framed so (no_frame k) a = clash a.1.1.1.1.0
framed so (frames f) a = record { frame = f; is = refl; obeys = obeys so f (holds_none conditions so (frames f) a) }

pub record Obeying (so : SoFar) (ls : List Said) (end : SoFar) : Type 0 where
  pub these : List Frame
  pub are : ls ≡ map frames these
  pub rules : Rules so these end

pub pass_rules : {so end : SoFar} {ls : List Said} → Pass so ls end → Obeying so ls end
unfolding after
pass_rules none_left = record { these = []; are = refl; rules = done }
pass_rules (more {so = so} {end = end} {l = l} {ls = ls} a p) = go (framed so l a) (pass_rules p)
  where
    go : Framed so l → Obeying (after so l) ls end → Obeying so (l ∷ ls) end
    go f r =
        record {
          these = f.frame ∷ r.these;
          are = cc (f.is, r.are);
          rules = next f.obeys (rw f.is at r.rules);
        }

pub rules_pass : {so end : SoFar} {fs : List Frame} → Rules so fs end → Pass so (map frames fs) end
unfolding after
rules_pass done = none_left
rules_pass (next {so = so} {f = f} o r) = more (none_holds conditions so (frames f) (no_condition so f o)) (rules_pass r)
