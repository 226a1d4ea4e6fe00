-- What a line says, in document 01's words and from the writer's side: `said` (SoFar.antt) without the reader of Frame.antt. `means` in
-- proofs/Means.antt has both directions, so that conditions 3 and 6 are met exactly where `Malformed` and `is_no_frame_lem` say; the other
-- conditions speak of the frame.
use Rattle.std.specs.Prelude.{List, [], ◌∷◌, ◌≢◌, ◌≡◌, ℕ, ◌*◌, ◌%◌, ◌<◌, ◌≤◌, length}
use Rattle.format.specs.Lines.{Line, closed, unclosed, lines, digits, max_bytes}
use Rattle.format.specs.Frame.{Edition, Kind, kind_byte, Frame}
use Rattle.format.specs.SoFar.{Said, malformed, unknown_kind, no_frame, frames}
use Rattle.format.specs.All.{All, Any, Absent}
use Rattle.format.specs.Bytes.{hex_line}
use Rattle.format.specs.Writing.{Byte, written, FrameFits}

-- Condition 3: "line empty, odd, other characters, over 512 bytes decoded, or without LF". A byte is two digits.
pub data Malformed : Line → Type 0 where
  empty : Malformed (closed [])
  odd : {s : List ℕ} → length s % 2 ≡ 1 → Malformed (closed s)
  other_character : {s : List ℕ} → Any (λ c. Absent c digits) s → Malformed (closed s)
  over : {s : List ℕ} → 2 * max_bytes < length s → Malformed (closed s)
  without_lf : {s : List ℕ} → Malformed (unclosed s)

-- The line is what these bytes are written as.
pub record WrittenAs (l : Line) (bytes : List ℕ) : Type 0 where
  pub is : lines (hex_line bytes) ≡ l ∷ []
  pub each : All Byte bytes
  pub short : length bytes ≤ max_bytes

-- Condition 6, "unknown shape, flag or statement byte, or frame length wrong for it": no frame of the kind is written so.
pub data Means (e : Edition) (l : Line) : Said → Type 0 where
  is_malformed_lem : Malformed l → Means e l malformed
  is_unknown_lem : (b : ℕ) (content : List ℕ) → WrittenAs l (b ∷ content) → ((k : Kind) → kind_byte k ≢ b) → Means e l unknown_kind
  is_no_frame_lem : (k : Kind) (content : List ℕ) → WrittenAs l (kind_byte k ∷ content) → ((f : Frame) → FrameFits e f → written e f ≢ kind_byte k ∷ content)
      → Means e l (no_frame k)
  is_frame_lem : (f : Frame) → FrameFits e f → WrittenAs l (written e f) → Means e l (frames f)
