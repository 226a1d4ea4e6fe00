-- The digits of joined bytes are the joined digits, byte by byte.
use Rattle.std.proofs.Common.{◌≡◌, ℕ, ◌/◌, ◌%◌, List, [], ◌∷◌, ◌++◌, get_or, None, Option, Some, Bool, true, eqb, eqb-true, ◌<◌, refl, sym, ap}
use Rattle.std.specs.Int.{w32, to_be_bytes}
use Rattle.std.proofs.lemmas.Bool.{agree_below, agree_below_at}
use Rattle.writer.specs.declared.TheConstants.{DIGITS}
use Rattle.format.specs.Bytes.{hex_digit, hex_line, bytes₂}
use Rattle.writer.specs.Writes.{Writes, hex_of}
use Rattle.writer.proofs.Writing.{writes_then, writes_full, writes_as}

-- The table, by one computation over all of it.
right : ℕ → Bool
right n = eqb (get_or DIGITS.now n 0) (hex_digit n)

all_right : agree_below right (λ _. true) 16 ≡ true
unfolding right hex_digit
all_right = refl

pub digit_at : (n : ℕ) → n < 16 → get_or DIGITS.now n 0 ≡ hex_digit n
unfolding right
digit_at n l = eqb-true _ _ (agree_below_at right (λ _. true) 16 n all_right l)

pub hex_append : (a b : List ℕ) → hex_of (a ++ b) ≡ hex_of a ++ hex_of b
unfolding hex_of
hex_append [] b = refl
hex_append (x ∷ a) b = ap (λ l. hex_digit (x / 16) ∷ hex_digit (x % 16) ∷ l) (hex_append a b)

pub line_is : (a : List ℕ) → hex_line a ≡ hex_of a ++ 10 ∷ []
unfolding hex_of hex_line
line_is [] = refl
line_is (x ∷ a) = ap (λ l. hex_digit (x / 16) ∷ hex_digit (x % 16) ∷ l) (line_is a)

-- Bytes after bytes.
pub hex_then : {out : List ℕ} {at : ℕ} (a b : List ℕ) {mid : List ℕ} {r : Option ℕ} {n : ℕ} {out' : List ℕ} {r' : Option ℕ}
    → Writes out at (hex_of a) mid r → r ≡ Some n → Writes mid n (hex_of b) out' r' → Writes out at (hex_of (a ++ b)) out' r'
hex_then a b f e g = writes_as (sym (hex_append a b)) (writes_then f e g)

pub hex_full : {out : List ℕ} {at : ℕ} (a b : List ℕ) {mid : List ℕ} {r : Option ℕ} → Writes out at (hex_of a) mid r → r ≡ None
    → Writes out at (hex_of (a ++ b)) mid None
hex_full a b f e = writes_as (sym (hex_append a b)) (writes_full f e (hex_of b))

-- The two low ones of a number's four bytes.
pub low_bytes : (x : ℕ) {bs : List ℕ} → bs ≡ to_be_bytes w32 x → get_or bs 2 0 ∷ get_or bs 3 0 ∷ [] ≡ bytes₂ x
unfolding bytes₂
low_bytes x e = rw e refl

-- A line is its digits and LF.
module _ {out : List ℕ} {at : ℕ} (a : List ℕ) {mid : List ℕ} {r : Option ℕ} (f : Writes out at (hex_of a) mid r) where
  pub line_then : {n : ℕ} {out' : List ℕ} {r' : Option ℕ} → r ≡ Some n → Writes mid n (10 ∷ []) out' r' → Writes out at (hex_line a) out' r'
  line_then e g = writes_as (sym (line_is a)) (writes_then f e g)

  pub line_full : r ≡ None → Writes out at (hex_line a) mid None
  line_full e = writes_as (sym (line_is a)) (writes_full f e (10 ∷ []))
