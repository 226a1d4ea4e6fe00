-- Texts one after the other make a line.
use mathlib.Core.List.{List, [], ◌∷◌, ◌++◌, append_assoc}
use mathlib.Core.Path.{◌≡◌, refl, sym, ap, ◌∙◌}
use Prim.Native.Nat.{ℕ, ◌≤◌}
use native.Mathlib.Omega.{arith}
use lib.ListN.{length}
use Rattle.format.specs.Frame.{Edition, narrow, Frame}
use Rattle.format.specs.Bytes.{hex_line}
use Rattle.format.specs.Writing.{written, FrameFits}
use Rattle.writer.specs.Writes.{Writes, WritesText, hex_of}
use Rattle.writer.proofs.Writing.{writes_then, writes_full, writes_as, writes_to}
use Rattle.writer.proofs.Digits.{hex_append, line_is}
use Rattle.convert.specs.Lines.{other, WritesLine, ConvertsLine}
use Rattle.std.specs.Prelude.{None, Option, Some}

-- From a place within the slice.
pub record Within (out : List ℕ) (at : ℕ) (t out' : List ℕ) (r : Option ℕ) : Type 0 where
  pub is : at ≤ length out → Writes out at t out' r
  pub long : length out' ≡ length out

pub text_full : {out : List ℕ} {at : ℕ} {a mid : List ℕ} → WritesText out at a mid None → (t : List ℕ) → Within out at (hex_of a ++ t) mid None
text_full w t = record { is = λ l. writes_full (w.is l) refl t; long = w.moves.long }

pub text_then : {out : List ℕ} {at : ℕ} {a mid : List ℕ} {i : ℕ} {t out' : List ℕ} {r : Option ℕ} → WritesText out at a mid (Some i)
    → Within mid i t out' r → Within out at (hex_of a ++ t) out' r
text_then w k = record {
  is = λ l. let f = w.is l in let h = writes_to f refl in writes_then f refl (k.is (omega (arith, h.1, f.long)));
  long = k.long ∙ w.moves.long;
}

pub close_then : {out : List ℕ} {at : ℕ} {out' : List ℕ} {r : Option ℕ} → Writes out at (10 ∷ []) out' r → Within out at (10 ∷ []) out' r
close_then w = record { is = λ l. w; long = w.long }

pub line_joined : (a b c : List ℕ) {out : List ℕ} {at : ℕ} {out' : List ℕ} {r : Option ℕ}
    → Within out at (hex_of a ++ (hex_of b ++ (hex_of c ++ 10 ∷ []))) out' r → WritesLine out at (a ++ (b ++ c)) out' r
line_joined a b c w = record { is = λ l. writes_as same (w.is l); long = w.long }
  where
    same : hex_of a ++ (hex_of b ++ (hex_of c ++ 10 ∷ [])) ≡ hex_line (a ++ (b ++ c))
    same =
        sym (line_is (a ++ (b ++ c))
        ∙ ap (λ s. s ++ 10 ∷ []) (hex_append a (b ++ c) ∙ ap (λ s. hex_of a ++ s) (hex_append b c))
        ∙ append_assoc (hex_of a) (hex_of b ++ hex_of c) (10 ∷ [])
        ∙ ap (λ s. hex_of a ++ s) (append_assoc (hex_of b) (hex_of c) (10 ∷ [])))

-- The bytes that were written are the frame's in the other edition.
pub converted : (e : Edition) {out : List ℕ} {at : ℕ} {s t out' : List ℕ} {r : Option ℕ} → WritesLine out at t out' r
    → ((g : Frame) → s ≡ written e g → FrameFits narrow g → t ≡ written (other e) g) → ConvertsLine e out at s out' r
converted e w same = record { is = λ g q f l. writes_as (ap hex_line (same g q f)) (w.is l); long = w.long }
