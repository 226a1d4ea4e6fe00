-- What callers cite: what the answer None says in the grammar's terms, and how many characters there can be.
use Rattle.std.proofs.Common.{◌≡◌, refl, sym, ◌∙◌, ℕ, ◌≤◌, ◌<◌, List, [], ◌∷◌, length, length-append, arith, Option, Some, None}
use Rattle.text.specs.Star.{Every, none as nil, more}
use Rattle.text.specs.Utf8.{this, then, end, Character, Text, count, characters}
use Rattle.text.specs.Answer.{Tests}
use Rattle.text.proofs.Grammar.{range, not_empty, counts}

-- `None`: no text
pub answer_none : (s : List ℕ) → None ≡ characters s → (n : ℕ) → Text s n → ⊥
answer_none s e n t = let h : None ≡ Some n = rw ((counts s n).0 t) at e in cc

-- Two tests under this contract agree on every slice, text or not, and count the same characters.
pub agree : (s : List ℕ) (r q : Option ℕ) → Tests s r → Tests s q → r ≡ q
agree s r q e f = e ∙ sym f

pub characters_empty : characters [] ≡ Some 0
unfolding characters count
characters_empty = refl

one_byte : (a : List ℕ) → Character a → 0 < length a
one_byte [] c = absurd (not_empty c)
one_byte (b ∷ a) c = omega arith

text_le : {s : List ℕ} {n : ℕ} → Text s n → n ≤ length s
text_le nil = omega arith
text_le (more {a = a} {t = t} c r) = rw (length-append a t) (omega (arith, one_byte a c, text_le r))

-- no more characters than bytes
pub characters_le : (s : List ℕ) (n : ℕ) → characters s ≡ Some n → n ≤ length s
characters_le s n e = text_le ((counts s n).1 e)

-- bytes below 80 are a character each
pub characters_ascii : (s : List ℕ) → Every (λ b. b < 0x80) s → characters s ≡ Some (length s)
characters_ascii s h = (counts s (length s)).0 (go s h)
  where
    go : (s : List ℕ) → Every (λ b. b < 0x80) s → Text s (length s)
    go [] h = nil
    go (b ∷ s) h = more {a = b ∷ []} (this (then (range 0x00 0x7f b (omega arith) (omega (arith, h.0))) end)) (go s h.1)
