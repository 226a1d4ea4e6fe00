-- What the functions over a line promise, from the words and prints before to those after (src/): the relations of
-- Promises.antt name the line's parts; a contract names the line.
use Rattle.std.specs.Prelude.{Bool, List, ℕ, Option, Result}
use Rattle.format.specs.Frame as Frame
use Rattle.work.specs.declared.Counters.{Counters}
use Rattle.frames.specs.declared.Edition.{Edition}
use Rattle.frames.specs.declared.Kind.{Kind}
use Rattle.frames.specs.Promises.{edition_of}
use Rattle.reading.specs.declared.Refusal.{Refusal}
use Rattle.reading.specs.declared.decoded.Line.{Line}
use Rattle.reading.specs.Promises.{InEither, GivenBefore, TakesName, TakesThere, TakesLine}

abbrev pub TakesLineOf : Line → Edition → Option Kind → Kind → List ℕ → List ℕ → Counters → List ℕ → List ℕ → Result Counters Refusal → Type 0
TakesLineOf l e previous kind w prints c w' prints' r =
    TakesLine (edition_of e) l.file.now l.at l.bytes.now w prints c previous kind w' prints' r

abbrev pub GivenBeforeIn : Line → List ℕ → List ℕ → ℕ → Bool → Type 0
GivenBeforeIn l w prints names r = GivenBefore l.file.now l.at l.bytes.now w prints names r

abbrev pub TakesNameOf : Line → List ℕ → List ℕ → Counters → List ℕ → List ℕ → Result Counters Refusal → Type 0
TakesNameOf l w prints c w' prints' r = InEither (λ e. TakesName e l.file.now l.at l.bytes.now w prints c w' prints' r)

abbrev pub TakesNodeOf : Line → Edition → List ℕ → Counters → List ℕ → Result Counters Refusal → Type 0
TakesNodeOf l e w c w' r = TakesThere (edition_of e) l.at Frame.node l.bytes.now w c w' r
