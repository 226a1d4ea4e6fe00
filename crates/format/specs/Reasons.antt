-- Refusals 3 and 6 of a whole file in document 01's words, without the reader of Frame.antt: the file has lines that pass, and then one of which the
-- condition holds. `line_refused` and `frame_refused` in meaning/proofs/Reasons.antt say that a call is refused exactly so; 7 is `BrokenText` of
-- Refused.antt.
use Rattle.std.specs.Prelude.{true, false, List, ◌∷◌, ◌++◌, map, ◌≢◌, ◌≡◌, ℕ, ◌≤◌, length}
use Rattle.format.specs.Lines.{Line, lines}
use Rattle.format.specs.Frame.{wide, Kind, kind_byte, may_stand, Frame}
use Rattle.format.specs.SoFar.{SoFar, said, start}
use Rattle.format.specs.Conditions.{is_full, is_last_query_past}
use Rattle.format.specs.File.{max_file}
use Rattle.format.specs.Refused.{Pass}
use Rattle.format.specs.Writing.{written, FrameFits}
use Rattle.format.specs.Means.{WrittenAs}

pub record Reaches (file : List ℕ) (P : SoFar → Line → Type 0) : Type 0 where
  pub size : length file ≤ max_file
  pub before : List Line
  pub line : Line
  pub rest : List Line
  pub read : SoFar
  pub split : lines file ≡ before ++ line ∷ rest
  pub pass : Pass start (map (said wide) before) read
  pub here : P read line

-- 6: the line is of a kind that may stand there and is not one too many, and no frame is written so.
pub record NoFrame (so : SoFar) (l : Line) : Type 0 where
  pub kind : Kind
  pub content : List ℕ
  pub bytes : WrittenAs l (kind_byte kind ∷ content)
  pub placed : may_stand so.previous kind ≡ true
  pub few : is_full so kind ≡ false
  pub few_queries : is_last_query_past so kind ≡ false
  pub none_written : (f : Frame) → FrameFits wide f → written wide f ≢ kind_byte kind ∷ content
