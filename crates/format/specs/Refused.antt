-- When a file is turned down, and for which reason: document 01, "1, 2, then lines in file order, in each the lowest number, then the
-- missing 06", for 2 to 10 and 13. `refused_when` in proofs/Refused.antt says that `reading_of` refuses exactly so. A condition is a test of what a
-- line says (Conditions.antt); `means` in proofs/Means.antt says what that is without the reader: 3 where the line is `Malformed`, 6 where no
-- frame of its kind is written so; `line_refused` and `frame_refused` in meaning/proofs/Reasons.antt have both of a whole call.
use Rattle.std.specs.Prelude.{true, false, List, [], ◌∷◌, ◌++◌, map, ◌≢◌, ◌≡◌, ℕ, ◌<◌, ◌≤◌, length, Some}
use Rattle.text.specs.Utf8.{Text}
use Rattle.format.specs.Refusal.{Refusal, file_too_long, misplaced_kind}
use Rattle.format.specs.Lines.{lines}
use Rattle.format.specs.Frame.{Edition, Kind, may_stand, a_name}
use Rattle.format.specs.SoFar.{SoFar, Said, frames, said, start, after}
use Rattle.format.specs.Conditions.{max_names, Condition, conditions}
use Rattle.format.specs.File.{max_file}
use Rattle.format.specs.All.{All}

-- The condition of this refusal holds of the line, and none that stands before it in the list does.
pub data First : List Condition → SoFar → Said → Refusal → Type 0 where
  here : {c : Condition} {cs : List Condition} {so : SoFar} {l : Said} → c.holds so l ≡ true → First (c ∷ cs) so l c.refusal
  later : {c : Condition} {cs : List Condition} {so : SoFar} {l : Said} {i : Refusal} → c.holds so l ≡ false → First cs so l i → First (c ∷ cs) so l i

-- No condition holds of these lines, from what was read before them to what is read with them.
pub data Pass : SoFar → List Said → SoFar → Type 0 where
  none_left : {so : SoFar} → Pass so [] so
  more : {so end : SoFar} {l : Said} {ls : List Said} → All (λ c. c.holds so l ≡ false) conditions → Pass (after so l) ls end → Pass so (l ∷ ls) end

-- Lines that pass, and then a line for which this refusal is the first.
pub record AtLine (so : SoFar) (ls : List Said) (i : Refusal) : Type 0 where
  pub before : List Said
  pub line : Said
  pub rest : List Said
  pub read : SoFar
  pub split : ls ≡ before ++ line ∷ rest
  pub pass : Pass so before read
  pub first : First conditions read line i

pub data Refused (e : Edition) (file : List ℕ) : Refusal → Type 0 where
  too_long : max_file < length file → Refused e file file_too_long
  at_line : {i : Refusal} → length file ≤ max_file → AtLine start (map (said e) (lines file)) i → Refused e file i
  missing_query : (end : SoFar) → length file ≤ max_file → Pass start (map (said e) (lines file)) end → end.previous ≢ Some Kind.query
      → Refused e file misplaced_kind

-- 7 in full: lines that pass, and then a name that may stand there, is not one too many, and whose text is not in RFC 3629's grammar.
pub record BrokenText (e : Edition) (file : List ℕ) : Type 0 where
  pub size : length file ≤ max_file
  pub before : List Said
  pub text : List ℕ
  pub rest : List Said
  pub read : SoFar
  pub split : map (said e) (lines file) ≡ before ++ frames (a_name text) ∷ rest
  pub pass : Pass start before read
  pub placed : may_stand read.previous Kind.name ≡ true
  pub room : length read.names < max_names
  pub broken : (n : ℕ) → Text text n → ⊥
