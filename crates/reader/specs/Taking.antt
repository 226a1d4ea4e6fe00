-- What a reader takes from a line at an index: the number that stands there, and where the next one starts; and the
-- frames' parts that are read number by number.
use Rattle.std.specs.Prelude.{◌≡◌, ℕ, ◌+◌, ◌<◌, List, Bool, true, false, length, ltb}
use Rattle.frames.specs.Promises.{byte_w, half_w, full_w}
use Rattle.reader.specs.declared.Reader.{Reader}
use Rattle.reader.specs.declared.Limits.{Limits}
use Rattle.reader.specs.declared.Field.{Field}
use Rattle.reader.specs.declared.Alternative.{Alternative}
use Rattle.reader.specs.declared.Predicate.{Predicate}

abbrev pub moved : Bool → ℕ → ℕ → ℕ
moved true at size = at + size
moved false at size = at

-- Past the end the index stays.
abbrev pub past : List ℕ → ℕ → ℕ → ℕ
past line at size = moved (ltb at (length line)) at size

-- ---- Numbers

-- the reader goes on behind so many bytes
abbrev pub Passes : Reader → ℕ → Reader → Type 0
Passes r size r' = (r'.line ≡ r.line) × (r'.at ≡ past r.line.now r.at size)

abbrev pub TakesByte : Reader → Reader → ℕ → Type 0
TakesByte r r' n = (n ≡ byte_w r.line.now r.at) × Passes r 1 r'

abbrev pub TakesHalf : Reader → Reader → ℕ → Type 0
TakesHalf r r' n = (n ≡ half_w r.line.now r.at) × (n < 65536) × Passes r 2 r'

abbrev pub TakesFull : Reader → Reader → ℕ → Type 0
TakesFull r r' n = (n ≡ full_w r.line.now r.at) × Passes r 4 r'

-- ---- Parts of frames

pub record ReadsLimits (line : List ℕ) (at : ℕ) (r : Limits) : Type 0 where
  pub distance : r.distance ≡ byte_w line at
  pub term : r.term ≡ half_w line (at + 1)

pub record ReadsField (line : List ℕ) (at : ℕ) (r : Field) : Type 0 where
  pub name : r.name ≡ half_w line at
  pub ty : r.ty ≡ half_w line (at + 2)
  pub small : (r.name < 65536) × (r.ty < 65536)

pub record ReadsAlternative (line : List ℕ) (at : ℕ) (r : Alternative) : Type 0 where
  pub name : r.name ≡ half_w line at
  pub discriminant : r.discriminant ≡ full_w line (at + 2)
  pub ty : r.ty ≡ half_w line (at + 6)
  pub small : (r.name < 65536) × (r.ty < 65536)

-- past the end the value type's number is 0
pub record ReadsPredicate (line : List ℕ) (at : ℕ) (r : Predicate) : Type 0 where
  pub name : r.name ≡ half_w line at
  pub key : r.key ≡ half_w line (at + 2)
  pub flag : r.flag ≡ byte_w line (at + 4)
  pub value : r.value ≡ half_w line (at + 5)
