-- The promises of src/lib.rt, from the run before to the run after: which parts of a run each reads and writes. The
-- relations over words (Promises.antt) name each part; a contract names the run.
use Rattle.std.specs.Prelude.{ℕ, Option}
use Rattle.cells.specs.declared.Ty.{Ty}
use Rattle.tree.specs.declared.items.Stmts.{Stmts}
use Rattle.tree.specs.declared.items.Items.{Items}
use Rattle.messages.specs.declared.Message.{Message}
use Rattle.state.specs.declared.Run.{Run}
use Rattle.state.specs.Running.{with_left, left_if}
use Rattle.checker.specs.Promises.{Infers, InfersKind, Subqueries, InfersRecord, InfersAll, Facts, InfersThenUnifies, Mentions, ChecksFields, ChecksUnion, Checks, Generates, Branches, BindsVariable, NotYets, Destructures, BindsSides, Denies, Compares, States, StatesAll}

-- ---- `infer`
abbrev pub InfersIn : Run → ℕ → Run → Option Ty → Type 0
InfersIn r n r' o =
    Infers r.file.now r.words.now r.out.now n r.purse.now.left r'.words.now r'.out.now (with_left o r'.purse.now.left)

abbrev pub InfersKindIn : Run → ℕ → Run → Option Ty → Type 0
InfersKindIn r n r' o =
    InfersKind r.file.now r.words.now r.out.now n r.purse.now.left r'.words.now r'.out.now (with_left o r'.purse.now.left)

abbrev pub SubqueriesIn : Run → ℕ → Stmts → Run → Option Ty → Type 0
SubqueriesIn r head body r' o =
    Subqueries r.file.now r.words.now r.out.now head body r.purse.now.left r'.words.now r'.out.now (with_left o r'.purse.now.left)

abbrev pub InfersRecordIn : Run → Items → Run → Option Ty → Type 0
InfersRecordIn r items r' o =
    InfersRecord r.file.now r.words.now r.out.now items r.purse.now.left r'.words.now r'.out.now (with_left o r'.purse.now.left)

abbrev pub InfersAllIn : Run → Items → Ty → Run → Option Ty → Type 0
InfersAllIn r items ty r' o =
    InfersAll r.file.now r.words.now r.out.now items ty r.purse.now.left r'.words.now r'.out.now (with_left o r'.purse.now.left)

abbrev pub FactsIn : Run → ℕ → ℕ → Run → Option Ty → Type 0
FactsIn r p key r' o =
    Facts r.file.now r.words.now r.out.now p key r.purse.now.left r'.words.now r'.out.now (with_left o r'.purse.now.left)

-- ---- `check`
abbrev pub InfersThenUnifiesIn : Run → ℕ → Ty → Run → Option (Unit {0}) → Type 0
InfersThenUnifiesIn r n expected r' o =
    InfersThenUnifies r.file.now r.words.now r.out.now n expected r.purse.now.left r'.words.now r'.out.now (left_if o r'.purse.now.left)

abbrev pub MentionsIn : Run → ℕ → ℕ → ℕ → Run → Option (Unit {0}) → Type 0
MentionsIn r name value c r' o =
    Mentions r.file.now r.words.now r.out.now name value c r.purse.now.left r'.words.now r'.out.now (left_if o r'.purse.now.left)

abbrev pub ChecksFieldsIn : Run → Items → ℕ → Run → Option (Unit {0}) → Type 0
ChecksFieldsIn r items c r' o =
    ChecksFields r.file.now r.words.now r.out.now items c r.purse.now.left r'.words.now r'.out.now (left_if o r'.purse.now.left)

abbrev pub ChecksUnionIn : Run → ℕ → Items → ℕ → Run → Option (Unit {0}) → Type 0
ChecksUnionIn r n items c r' o =
    ChecksUnion r.file.now r.words.now r.out.now n items c r.purse.now.left r'.words.now r'.out.now (left_if o r'.purse.now.left)

abbrev pub ChecksIn : Run → ℕ → Ty → Run → Option (Unit {0}) → Type 0
ChecksIn r n expected r' o =
    Checks r.file.now r.words.now r.out.now n expected r.purse.now.left r'.words.now r'.out.now (left_if o r'.purse.now.left)

-- ---- `generator`
abbrev pub GeneratesIn : Run → ℕ → Run → Option Ty → Type 0
GeneratesIn r n r' o =
    Generates r.file.now r.words.now r.out.now n r.purse.now.left r'.words.now r'.out.now (with_left o r'.purse.now.left)

abbrev pub BranchesIn : Run → Items → Run → Option Ty → Type 0
BranchesIn r items r' o =
    Branches r.file.now r.words.now r.out.now items r.purse.now.left r'.words.now r'.out.now (with_left o r'.purse.now.left)

-- ---- Statements
abbrev pub BindsVariableIn : Run → ℕ → ℕ → ℕ → Run → Option (Unit {0}) → Type 0
BindsVariableIn r symbol lhs rhs r' o =
    BindsVariable r.file.now r.words.now r.out.now symbol lhs rhs r.purse.now.left r'.words.now r'.out.now (left_if o r'.purse.now.left)

abbrev pub NotYetsIn : Run → Message → ℕ → ℕ → Run → Option (Unit {0}) → Type 0
NotYetsIn r m lhs rhs r' o =
    NotYets m r.file.now r.words.now r.out.now lhs rhs r.purse.now.left r'.words.now r'.out.now (left_if o r'.purse.now.left)

abbrev pub DestructuresIn : Run → ℕ → ℕ → Run → Option (Unit {0}) → Type 0
DestructuresIn r lhs rhs r' o =
    Destructures r.file.now r.words.now r.out.now lhs rhs r.purse.now.left r'.words.now r'.out.now (left_if o r'.purse.now.left)

abbrev pub BindsSidesIn : Run → ℕ → ℕ → Run → Option (Unit {0}) → Type 0
BindsSidesIn r lhs rhs r' o =
    BindsSides r.file.now r.words.now r.out.now lhs rhs r.purse.now.left r'.words.now r'.out.now (left_if o r'.purse.now.left)

abbrev pub DeniesIn : Run → ℕ → ℕ → Run → Option (Unit {0}) → Type 0
DeniesIn r lhs rhs r' o =
    Denies r.file.now r.words.now r.out.now lhs rhs r.purse.now.left r'.words.now r'.out.now (left_if o r'.purse.now.left)

abbrev pub ComparesIn : Run → ℕ → ℕ → Run → Option (Unit {0}) → Type 0
ComparesIn r lhs rhs r' o =
    Compares r.file.now r.words.now r.out.now lhs rhs r.purse.now.left r'.words.now r'.out.now (left_if o r'.purse.now.left)

abbrev pub StatesIn : Run → ℕ → ℕ → Run → Option (Unit {0}) → Type 0
StatesIn r at low r' o =
    States r.file.now r.words.now r.out.now at low r.purse.now.left r'.words.now r'.out.now (left_if o r'.purse.now.left)

abbrev pub StatesAllIn : Run → Stmts → Run → Option (Unit {0}) → Type 0
StatesAllIn r body r' o =
    StatesAll r.file.now r.words.now r.out.now body r.purse.now.left r'.words.now r'.out.now (left_if o r'.purse.now.left)
