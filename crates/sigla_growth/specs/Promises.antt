-- What the program's functions promise.
use Rattle.std.specs.Prelude.{Bool, true, false, List, [], ◌∷◌, ℕ, IfSome, Option, Some, None}
use Rattle.std.specs.Io.KnownBytes.{Appends}
use Rattle.input.specs.Endings.{text_about}
use Rattle.input.specs.Gains.{GainsFrontOf}
use Rattle.input.specs.declared.requests.Page.{Page}
use Rattle.input.specs.declared.requests.Request.{Request}
use Rattle.format.specs.Bytes.{hex_line}
use Rattle.meaning.specs.Outcome.{min_words}
use Rattle.growth.specs.Premises.{premises, FirstFailing}

-- the bytes of a file, where they are known; one that is not there counts as empty
abbrev pub known : {R : Type 0} → (R → Option (List ℕ)) → Option R → Option (List ℕ)
known remaining None = Some []
known remaining (Some r) = remaining r

-- a file counts as empty too where reading it failed
abbrev pub counted : Bool → List ℕ → List ℕ
counted true f = []
counted false f = f

-- the line of the first premise that fails of the files f and g is one that P holds of
abbrev pub LineOf : (List ℕ → Type 0) → List ℕ → List ℕ → Type 0
LineOf P f g = (n : ℕ) × FirstFailing (premises min_words f g) n × P (hex_line (n ∷ []))

-- the writer gains the line of both files, and nothing else
abbrev pub Tells : {R W : Type 0} → (R → Option (List ℕ)) → (W → Option (List ℕ)) → Option R → Option R → W → W → Type 0
Tells remaining contents old new to to' =
    IfSome (known remaining old) (λ f. IfSome (known remaining new) (λ g. LineOf (Appends (contents to) (contents to')) f g))

-- the same of both as they count, where reading one failed
abbrev pub TellsWithout : {R W : Type 0} → (R → Option (List ℕ)) → (W → Option (List ℕ)) → Option R → Option R → W → W → Type 0
TellsWithout remaining contents old new to to' =
    IfSome (known remaining old) (λ f. IfSome (known remaining new) (λ g.
    (a b : Bool) × LineOf (Appends (contents to) (contents to')) (counted a f) (counted b g)))

-- whatever comes of it, the writer gains a part of such a line from its start
abbrev pub TellsFront : {R W : Type 0} → (R → Option (List ℕ)) → (W → Option (List ℕ)) → Option R → Option R → W → W → Type 0
TellsFront remaining contents old new to to' =
    IfSome (known remaining old) (λ f. IfSome (known remaining new) (λ g.
    (a b : Bool) × LineOf (GainsFrontOf (contents to) (contents to')) (counted a f) (counted b g)))

-- ---- By what is asked

abbrev pub Says : {R W : Type 0} → Page → Request → (R → Option (List ℕ)) → (W → Option (List ℕ)) → Option R → Option R → W → W → Type 0
Says page Request.Answer remaining contents old new to to' = Tells remaining contents old new to to'
Says page (Request.About about) remaining contents old new to to' = Appends (contents to) (contents to') (text_about page about)

abbrev pub SaysFront : {R W : Type 0} → Page → Request → (R → Option (List ℕ)) → (W → Option (List ℕ)) → Option R → Option R → W → W → Type 0
SaysFront page Request.Answer remaining contents old new to to' = TellsFront remaining contents old new to to'
SaysFront page (Request.About about) remaining contents old new to to' = GainsFrontOf (contents to) (contents to') (text_about page about)
