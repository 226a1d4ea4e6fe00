-- A stage in the lent slice: the bindings from its start on and behind them the pairs. What is told of the first pair, what a
-- step leaves, what a turn comes to, and what the run gives.
use Rattle.std.specs.Prelude.{List, [], ◌∷◌, ◌++◌, ◌≡◌, ℕ, ◌+◌, ◌/◌, ◌≤◌, ◌<◌, length, Err, None, Ok, Option, Result, Some}
use Rattle.std.specs.Borrow.{Bor}
use Rattle.plain.specs.Slices.{slice}
use Rattle.unification.specs.Ty.{Kind, Ty, Var, Row}
use Rattle.unification.specs.Robinson.{Equation}
use Rattle.plain_theory.specs.Plain as Theory
use Rattle.plain_theory.specs.Plain.{Stage, parts, matched, step, drops, fails, splits, binds, solved, failed, full}
use Rattle.plain_theory.specs.Solve.{solve}
use Rattle.plain_theory.specs.Words.{spelled, pairs_spelled, bindings_spelled}
use Rattle.plain.specs.Tokens.{TwoRows, swapped}
use Rattle.plain.specs.declared.Next.{Next}
use Rattle.plain.specs.declared.Next.TheVariants.{Done, Stuck, Drop, Bind, Split}
use Rattle.plain.specs.declared.Turn.{Turn}
use Rattle.plain.specs.declared.Turn.TheVariants.{Last, Dropped, Bound, Parted}
use Rattle.plain.specs.declared.Unsolved.{Unsolved}

-- ---- What is to be done with the first pair

-- Two rows of n cells, of which these are the pairs.
pub record PairedRows (n : ℕ) (left right : List ℕ) (qs : List Equation) : Type 0 where
  pub kind : Kind
  pub first : Row
  pub second : Row
  pub rows : TwoRows n left right kind first second
  pub are : matched kind first second ≡ parts qs

-- Of a pair with such a step, before the words ws.
abbrev pub ToldOf : Next → List ℕ → Theory.PlainStep → Type 0
ToldOf Done ws st = ⊥
ToldOf Stuck ws st = st ≡ fails
ToldOf (Drop rest) ws st = (st ≡ drops) × (rest.now ≡ ws)
ToldOf (Bind x ts rest) ws st = (t : Ty) × ((st ≡ binds x t) × (ts.now ≡ spelled t) × (rest.now ≡ ws))
ToldOf (Split n left right rest) ws st = (qs : List Equation) × ((st ≡ splits qs) × PairedRows n left.now right.now qs × (rest.now ≡ ws))

abbrev pub ToldNext : Next → List Equation → Type 0
ToldNext r [] = r ≡ Done
ToldNext r (c ∷ ps) = ToldOf r (pairs_spelled ps) (step c.left c.right)

-- What is behind a dropped pair is no longer than the pairs.
abbrev pub WithinPairs : ℕ → Next → Type 0
WithinPairs n Done = Unit {0}
WithinPairs n Stuck = Unit {0}
WithinPairs n (Drop rest) = length rest.now ≤ n
WithinPairs n (Bind x ts rest) = Unit {0}
WithinPairs n (Split m left right rest) = Unit {0}

pub record TellsNext (pairs : List ℕ) (r : Next) : Type 0 where
  pub is : (ps : List Equation) → pairs ≡ pairs_spelled ps → ToldNext r ps
  pub within : WithinPairs (length pairs) r

-- Of an unknown and a type alone.
pub record TellsBound (x : ℕ) (ty rest : List ℕ) (r : Next) : Type 0 where
  pub is : (t : Ty) → ty ≡ spelled t → ToldOf r rest (step (Var x) t)
  pub within : WithinPairs (length rest) r

-- Of two types alone that are no unknowns.
pub record TellsApart (left right rest : List ℕ) (r : Next) : Type 0 where
  pub is : (a b : Ty) → left ≡ spelled a → right ≡ spelled b → ((x : ℕ) → ¬ (a ≡ Var x)) → ((x : ℕ) → ¬ (b ≡ Var x)) → ToldOf r rest (step a b)
  pub within : WithinPairs (length rest) r

-- ---- What a step leaves

-- Two texts, one behind the other from the start on; or they are longer than the room.
pub record Lays (a b out out' : List ℕ) (r : Option (ℕ × ℕ)) : Type 0 where
  pub there : (m n : ℕ) → r ≡ Some (m, n) → (slice 0 m out' ≡ a) × (slice m n out' ≡ b)
  pub over : r ≡ None → length out < length a + length b

pub record StaysInside (out out' : List ℕ) (r : Option (ℕ × ℕ)) : Type 0 where
  pub inside : (m n : ℕ) → r ≡ Some (m, n) → (m ≤ n) × (n ≤ length out)
  pub long : length out' ≡ length out

-- The stage that comes to stand in the room: with the unknown x bound to the words ts, with two rows of n cells paired.
abbrev pub BindLays : List ℕ → List ℕ → List ℕ → ℕ → List ℕ → List ℕ → Option (ℕ × ℕ) → Type 0
BindLays bindings room room' x ts rest r = Lays (11 ∷ x ∷ (ts ++ swapped x ts bindings)) (swapped x ts rest) room room' r

abbrev pub SplitLays : List ℕ → List ℕ → List ℕ → ℕ → List ℕ → List ℕ → List ℕ → Option (ℕ × ℕ) → Type 0
SplitLays bindings room room' n left right rest r = (qs : List Equation) → PairedRows n left right qs → Lays bindings (pairs_spelled qs ++ rest) room room' r

-- ---- A turn

-- The next stage is longer than the room.
abbrev pub OverRoom : List ℕ → List ℕ → List ℕ → Next → Type 0
OverRoom bindings room room' Done = ⊥
OverRoom bindings room room' Stuck = ⊥
OverRoom bindings room room' (Drop rest) = ⊥
OverRoom bindings room room' (Bind x ts rest) = BindLays bindings room room' x ts.now rest.now None
OverRoom bindings room room' (Split n left right rest) = SplitLays bindings room room' n left.now right.now rest.now None

-- What is told of the first pair, and what is done with it.
abbrev pub PlainTurned : List ℕ → List ℕ → List ℕ → List ℕ → Result Turn Unsolved → Type 0
PlainTurned bindings pairs room room' (Ok Last) = TellsNext pairs Done
PlainTurned bindings pairs room room' (Ok (Dropped n)) = (rest : Bor (List ℕ)) × TellsNext pairs (Drop rest) × (n ≡ length rest.now)
PlainTurned bindings pairs room room' (Ok (Bound m n)) = (x : ℕ) × (ts rest : Bor (List ℕ)) × TellsNext pairs (Bind x ts rest)
    × BindLays bindings room room' x ts.now rest.now (Some (m, n)) × StaysInside room room' (Some (m, n))
PlainTurned bindings pairs room room' (Ok (Parted m n)) = (k : ℕ) × (left right rest : Bor (List ℕ)) × TellsNext pairs (Split k left right rest)
    × SplitLays bindings room room' k left.now right.now rest.now (Some (m, n)) × StaysInside room room' (Some (m, n))
PlainTurned bindings pairs room room' (Err Unsolved.Failure) = TellsNext pairs Stuck
PlainTurned bindings pairs room room' (Err Unsolved.ShutOut) = ⊥
PlainTurned bindings pairs room room' (Err Unsolved.TooFew) = (t : Next) × TellsNext pairs t × OverRoom bindings room room' t

-- ---- The run

abbrev pub GivesResult : List ℕ → Result ℕ Unsolved → Theory.PlainResult → Type 0
GivesResult l r (solved bs) = (r ≡ Ok (length (bindings_spelled bs))) × (slice 0 (length (bindings_spelled bs)) l ≡ bindings_spelled bs)
GivesResult l r failed = r ≡ Err Unsolved.Failure
GivesResult l r full = r ≡ Err Unsolved.TooFew

-- How many words each half of a slice has.
abbrev pub half : List ℕ → ℕ
half l = length l / 2

-- In a slice of twice h words the stage stands from a place on, its bindings up to b and its pairs up to e. Of the words that
-- were lent an odd one is left over.
pub record PlainRuns (l : List ℕ) (h from b e : ℕ) (l' : List ℕ) (r : Result ℕ Unsolved) : Type 0 where
  pub is : (lent : ℕ) (g : Stage) → h + h ≤ lent → lent ≤ h + h + 1 → slice from b l ≡ bindings_spelled g.bindings → slice b e l ≡ pairs_spelled g.pairs
      → GivesResult l' r (solve lent g)
  pub long : length l' ≡ length l
