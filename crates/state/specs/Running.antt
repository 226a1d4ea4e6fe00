-- A run as one value: what a step of it gives back, what its methods promise of the run before and after, and what each
-- step leaves as it was (src/lib.rt).
use Rattle.std.specs.Prelude.{◌≡◌, ℕ, ◌≤◌, ◌<◌, get_or, length, None, Option, Some}
use Rattle.work.specs.Layout.{LEFT, RECORD-COUNT, END}
use Rattle.cells.specs.declared.Ty.{Ty}
use Rattle.cells.specs.Stands.{Keeps}
use Rattle.messages.specs.declared.Message.{Message}
use Rattle.state.specs.declared.Run.{Run}
use Rattle.state.specs.Lines.{Tells, Halts, Rejected, Enters}
use Rattle.state.specs.Words.{Introduces}

-- What was given back, with the visits left.
abbrev pub with_left : {A : Type 0} → Option A → ℕ → Option (A × ℕ)
with_left (Some a) left = Some (a, left)
with_left None left = None

-- The visits left, where the run goes on.
abbrev pub left_if : Option (Unit {0}) → ℕ → Option ℕ
left_if (Some u) left = Some left
left_if None left = None

-- What always holds of a step of a run, whatever its words are: the same file, and the same two slices lent, as long as
-- they were; the visits left do not rise, and what was read into the words stays.
abbrev pub Lent : Run → Run → Type 0
Lent before after =
    (after.file ≡ before.file)
    × (after.words.ghost_name ≡ before.words.ghost_name) × (after.out.ghost_name ≡ before.out.ghost_name)
    × (length after.words.now ≡ length before.words.now) × (length after.out.now ≡ length before.out.now)
    × (after.purse.now.left ≤ before.purse.now.left) × Keeps RECORD-COUNT END before.words.now after.words.now
    × (after.purse.ghost_name ≡ before.purse.ghost_name) × (after.purse.now.given ≡ before.purse.now.given)

-- Where a run ended, the visits that are left in the purse are those that were noted.
abbrev pub Ends : {A : Type 0} → Option A → Run → Type 0
Ends o r = o ≡ None → LEFT < length r.words.now → get_or r.words.now LEFT 0 ≡ r.purse.now.left

-- ---- The methods, from the run before to the run after: which of its parts each reads and writes

abbrev pub TellsIn : Run → ℕ → Message → Run → Type 0
TellsIn r n m r' = Tells r.file.now r.words.now r.out.now n m r'.words.now r'.out.now

abbrev pub HaltsIn : Run → Run → Option (Unit {0}) → Type 0
HaltsIn r r' o = Halts r.words.now r.purse.now.left r'.words.now (left_if o r'.purse.now.left)

abbrev pub RejectsIn : Run → ℕ → Message → Run → Option (Unit {0}) → Type 0
RejectsIn r n m r' o = Rejected r.file.now r.words.now r.out.now n m r.purse.now.left r'.words.now r'.out.now (left_if o r'.purse.now.left)

abbrev pub EntersIn : Run → Ty → Ty → Run → Option (Unit {0}) → Type 0
EntersIn r got expected r' o = Enters r.words.now got expected r.purse.now.left r'.words.now (left_if o r'.purse.now.left)

abbrev pub IntroducesIn : Run → ℕ → ℕ → Run → ℕ → Type 0
IntroducesIn r node symbol r' x = Introduces r.words.now node symbol r'.words.now x
