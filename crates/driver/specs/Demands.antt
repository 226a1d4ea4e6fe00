-- Document 01's three demands of the whole call (meaning/specs/Demands.antt) as a caller of `check_file` sees them. The theorems stand in
-- proofs/Demands.antt.
use Rattle.std.specs.Prelude.{List, [], ◌∷◌, ◌++◌, ◌≡◌, ℕ, ◌-◌, length, take, replicate, Err, Ok, Result}
use Rattle.format.specs.Refusal.{Refusal, number}
use Rattle.format.specs.File.{Form}
use Rattle.meaning.specs.Check.{Typed}
use Rattle.meaning.specs.Messages.{text_in}
use Rattle.format.specs.Bytes.{hex_line}
use Rattle.meaning.specs.Answer.{form_lines}
use Rattle.meaning.specs.Demands.{RefusedWhen, AcceptedWhen, Zeros}
use Rattle.reading.specs.declared.Refusal as Reading
use Rattle.reading.specs.Promises.{refusal}

pub record CallRefused (f w out w' out' : List ℕ) (i : Refusal) : Type 0 where
  pub when : RefusedWhen f (length w) (length out) i
  pub work : Zeros (length w) w'
  pub answer : Zeros (length out) out'

pub record CallAccepted (f w out w' out' : List ℕ) (n : ℕ) : Type 0 where
  pub form : Form
  pub ts : List Typed
  pub when : AcceptedWhen f (length w) (length out) form ts
  pub work : Zeros (length w) w'
  pub long : n ≡ length (form_lines (text_in form) ts)
  pub answer : out' ≡ form_lines (text_in form) ts ++ replicate (length out - n) 0

-- What the program prints of a call: the answer's bytes, or the refusal's line.
unfoldable pub shown : Result ℕ Reading.Refusal → List ℕ → List ℕ
unfolding hex_line number
shown (Ok n) out' = take n out'
shown (Err e) out' = hex_line (0x0f ∷ number (refusal e) ∷ [])
