-- The promises of src/lib.rt, from the run before to the run after: which parts of a run each reads and writes. The
-- relations over words (Promises.antt, Outside.antt) name each part; a contract names the run.
use Rattle.std.specs.Prelude.{Bool, ℕ, Option, Result}
use Rattle.cells.specs.declared.Ty.{Ty}
use Rattle.cells.specs.declared.TyError.{TyError}
use Rattle.messages.specs.declared.Message.{Message}
use Rattle.messages.specs.declared.Message.TheVariants as Message
use Rattle.state.specs.declared.Run.{Run}
use Rattle.state.specs.Running.{with_left, left_if}
use Rattle.unify.specs.Purses.{ok_left}
use Rattle.steps.specs.Outside.{RejectsTy, RejectedIf, far_w, characters_w, long_w, IntroducesSides, ComparesOrder, ValueOf, FieldAt, KeyOf, SelectOf, ChecksHead}
use Rattle.steps.specs.Promises.{UnifiesOutside, UnifiesAt, ComparesTypes, Fuzzes}

abbrev pub RejectsTyIn : Run → ℕ → Message → Run → Option Ty → Type 0
RejectsTyIn r n m r' o =
    RejectsTy r.file.now r.words.now r.out.now n m r.purse.now.left r'.words.now r'.out.now (with_left o r'.purse.now.left)

-- `unify` from outside it
abbrev pub UnifiesOutsideIn : Run → Ty → Ty → Run → Option (Result (Unit {0}) TyError) → Type 0
UnifiesOutsideIn r got expected r' o =
    UnifiesOutside r.words.now got expected r.purse.now.left r'.words.now (ok_left o r'.purse.now.left)

abbrev pub UnifiesAtIn : Run → ℕ → Ty → Ty → Run → Option (Unit {0}) → Type 0
UnifiesAtIn r n got expected r' o =
    UnifiesAt r.file.now r.words.now r.out.now n got expected r.purse.now.left r'.words.now r'.out.now (left_if o r'.purse.now.left)

-- a comparison, of types that agree and of any
abbrev pub ComparesOrderIn : Run → ℕ → Ty → Run → Option (Unit {0}) → Type 0
ComparesOrderIn r lhs t r' o =
    ComparesOrder r.file.now r.words.now r.out.now lhs t r.purse.now.left r'.words.now r'.out.now (left_if o r'.purse.now.left)

abbrev pub ComparesTypesIn : Run → ℕ → ℕ → Ty → Ty → Run → Option (Unit {0}) → Type 0
ComparesTypesIn r lhs rhs x y r' o =
    ComparesTypes r.file.now r.words.now r.out.now lhs rhs x y r.purse.now.left r'.words.now r'.out.now (left_if o r'.purse.now.left)

-- on the head of a type
abbrev pub ValueOfIn : Run → ℕ → Ty → Run → Option Ty → Type 0
ValueOfIn r n base r' o =
    ValueOf r.file.now r.words.now r.out.now n base r.purse.now.left r'.words.now r'.out.now (with_left o r'.purse.now.left)

abbrev pub FieldAtIn : Run → ℕ → ℕ → Ty → Run → Option Ty → Type 0
FieldAtIn r n name t r' o =
    FieldAt r.file.now r.words.now r.out.now n name t r.purse.now.left r'.words.now r'.out.now (with_left o r'.purse.now.left)

abbrev pub KeyOfIn : Run → ℕ → ℕ → Ty → Run → Option Ty → Type 0
KeyOfIn r n name base r' o =
    KeyOf r.file.now r.words.now r.out.now n name base r.purse.now.left r'.words.now r'.out.now (with_left o r'.purse.now.left)

abbrev pub SelectOfIn : Run → ℕ → ℕ → Ty → Run → Option Ty → Type 0
SelectOfIn r n name base r' o =
    SelectOf r.file.now r.words.now r.out.now n name base r.purse.now.left r'.words.now r'.out.now (with_left o r'.purse.now.left)

-- a fuzzy pattern: a diagnostic by a test of the words before
abbrev pub RejectsIfIn : Bool → Run → ℕ → Message → Run → Option (Unit {0}) → Type 0
RejectsIfIn b r n m r' o =
    RejectedIf r.file.now r.words.now r.out.now n m r.purse.now.left r'.words.now r'.out.now (left_if o r'.purse.now.left) b

abbrev pub DistanceIn : Run → ℕ → ℕ → Run → Option (Unit {0}) → Type 0
DistanceIn r n distance r' o = RejectsIfIn (far_w r.words.now distance) r n (Message.DistanceOutside distance) r' o

abbrev pub TermIn : Run → ℕ → ℕ → Run → Option (Unit {0}) → Type 0
TermIn r n term r' o =
    RejectsIfIn (long_w r.words.now term) r n (Message.TermTooLong (characters_w r.words.now term)) r' o

abbrev pub FuzzesIn : Run → ℕ → ℕ → ℕ → Run → Option Ty → Type 0
FuzzesIn r n term distance r' o =
    Fuzzes r.file.now r.words.now r.out.now n term distance r.purse.now.left r'.words.now r'.out.now (with_left o r'.purse.now.left)

-- nodes that are looked at, not visited
abbrev pub IntroducesSideIn : Run → ℕ → Run → Type 0
IntroducesSideIn r n r' = IntroducesSides r.file.now r.words.now n r'.words.now

abbrev pub ChecksHeadIn : Run → ℕ → Run → Option (Unit {0}) → Type 0
ChecksHeadIn r n r' o =
    ChecksHead r.file.now r.words.now r.out.now n r.purse.now.left r'.words.now r'.out.now (left_if o r'.purse.now.left)
