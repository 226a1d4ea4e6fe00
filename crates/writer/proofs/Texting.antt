-- A text is written byte by byte, two digits to a byte.
use Rattle.std.proofs.Common.{◌≡◌, ℕ, ◌+◌, ◌-◌, ◌*◌, ◌/◌, ◌%◌, ◌≤◌, ◌<◌, List, [], ◌∷◌, ◌++◌, length, get_or, set, take, None, Some, refl, arith, length-set}
use Rattle.std.proofs.Common.{take_all}
use Rattle.std.proofs.lemmas.List.{take_more}
use Rattle.format.specs.Bytes.{hex_digit}
use Rattle.writer.specs.Writes.{Writes, WritesText, hex_of}
use Rattle.writer.proofs.Writing.{writes_none, writes_one, writes_then, writes_as, writes_moves, full_moves}
use Rattle.writer.proofs.Digits.{hex_append}

hex_length : (s : List ℕ) → length (hex_of s) ≡ 2 * length s
unfolding hex_of
hex_length [] = refl
hex_length (b ∷ s) = omega (arith, hex_length s)

-- What the loop has done: the digits of the first i bytes stand there.
pub record Filling (s out₀ : List ℕ) (at : ℕ) (out : List ℕ) (i to : ℕ) : Type 0 where
  pub done : Writes out₀ at (hex_of (take i s)) out (Some to)
  pub place : to ≡ at + 2 * i
  pub room : at + 2 * length s ≤ length out

pub fill_start : (s out : List ℕ) (at : ℕ) → at ≤ length out → length s ≤ (length out - at) / 2 → Filling s out at out 0 at
unfolding hex_of
fill_start s out at l room = record { done = writes_none out at l; place = omega arith; room = omega arith }

module _ {s out₀ : List ℕ} {at : ℕ} {out : List ℕ} {i to : ℕ} (g : Filling s out₀ at out i to) where
  pub fill_next : i < length s → {h l : ℕ} → h ≡ hex_digit (get_or s i 0 / 16) → l ≡ hex_digit (get_or s i 0 % 16)
      → Filling s out₀ at (set (set out to h) (to + 1) l) (i + 1) (to + 2)
  unfolding hex_of
  fill_next lt {h} {l} p q =
      let inside : to + 1 < length out = omega (arith, g.place, g.room) in
      let on : to + 1 + 1 ≡ to + 2 = omega arith in
      let two = writes_then (writes_one out to h (omega arith)) refl (writes_one (set out to h) (to + 1) l (omega (arith, length-set out to h))) in
      let digits : hex_of (take i s) ++ h ∷ l ∷ [] ≡ hex_of (take (i + 1) s) = rw (take_more s i 0 lt, hex_append, p, q) in
      record { done = rw on at (writes_as digits (writes_then g.done refl two)); place = omega (arith, g.place); room = rw two.long g.room }

  pub text_done : length s ≤ i → WritesText out₀ at s out (Some to)
  text_done l = let all = rw (take_all i s l) at g.done in record { is = λ _. all; moves = writes_moves all }

pub no_room : {s out : List ℕ} {at : ℕ} → at ≤ length out → (length out - at) / 2 < length s → WritesText out at s out None
no_room {s} b l = record {
  is = λ _. record { fits = λ h. absurd (omega (arith, hex_length s)); over = λ _. refl; long = refl };
  moves = full_moves refl;
}
