-- Card 3: "each query has a line 0b with its number (2 bytes), and the lines after it equal the answer of a file with that query alone, with
-- the names and schema before it." Proofs/Alone.antt: that file passes (`alone_passes`), the answer of a form is made so (`apart`), and 11 comes
-- exactly where one of these files gets it (`ran_out`).
use Rattle.std.specs.Prelude.{List, [], ◌∷◌, ◌++◌, ◌≡◌, ℕ, suc}
use Rattle.format.specs.Syntax.{Ast}
use Rattle.format.specs.All.{Each}
use Rattle.format.specs.Bytes.{bytes₂, hex_line}
use Rattle.format.specs.Frame.{wide}
use Rattle.format.specs.Writing.{file_of}
use Rattle.format.specs.Content.{Content, frames_of}
use Rattle.meaning.specs.Outcome.{answered, decide}

-- the same names and schema, and that query
unfoldable pub alone : Content → Ast → Content
alone c a = record c { queries = a ∷ [] }

unfoldable pub file_alone : Content → Ast → List ℕ
unfolding file_of frames_of alone
file_alone c a = file_of wide (frames_of (alone c a))

-- Answers, each after its line 0b, the first with this number.
unfoldable pub joined : ℕ → List (List ℕ) → List ℕ
unfolding hex_line bytes₂
joined k [] = []
joined k (l ∷ ls) = hex_line (0x0b ∷ bytes₂ k) ++ (l ++ joined (suc k) ls)

-- The whole answer is made of each query's own, the answer of the file with that query alone.
pub record Apart (c : Content) (words : ℕ) (whole : List ℕ) : Type 0 where
  pub answers : List (List ℕ)
  pub each : Each (λ a l. decide (file_alone c a) words ≡ answered l) c.queries answers
  pub is : whole ≡ joined 0 answers
