-- The words by their places: each is where it was once it is made, so the card's three sentences hold of `word_at`.
use mathlib.Core.List.{List, [], ◌∷◌}
use mathlib.Core.Path.{◌≡◌, refl, ap, sym, ◌∙◌}
use Prim.Native.Nat.{ℕ, zero, suc, ◌+◌, ◌-◌, ◌%◌, ◌^◌, ◌≤◌, ◌<◌}
use native.Mathlib.Omega.{arith}
use native.Mathlib.Decide.{dec_le}
use lib.ListN.{length, get_or, take, length-append}
use lib.Seq.{get_or-take, take-append-le, take_all, get_or_at}
use borrow.Author.Tests.{eq-eqb, ne_eqb, lt-ltb, le-ltb}
use Rattle.testload.specs.Words.{plus, next, words, word_at}

pub length_words : (seed n : ℕ) → length (words seed n) ≡ n
unfolding words
length_words seed zero = refl
length_words seed (suc n) = rw (length-append (words seed n) (next seed n (words seed n) ∷ [])) (omega (arith, length_words seed n))

module _ (seed n : ℕ) (ws : List ℕ) where
  pub next_first : n ≡ 0 → next seed n ws ≡ seed
  unfolding next
  next_first e = rw (eq-eqb n 0 e, next)

  pub next_early : (n ≡ 0 → ⊥) → n < 55 → next seed n ws ≡ (get_or ws (n - 1) 0 + 2654435769) % 2 ^ 32
  unfolding next plus
  next_early e h = rw (ne_eqb n 0 e, lt-ltb n 55 h, next)

  pub next_later : 55 ≤ n → next seed n ws ≡ (get_or ws (n - 24) 0 + get_or ws (n - 55) 0) % 2 ^ 32
  unfolding next plus
  next_later h = rw (ne_eqb n 0 (λ e. omega arith), le-ltb n 55 h, next)

-- only words before the place are read
pub next_take : (seed n : ℕ) (ws : List ℕ) → next seed n ws ≡ next seed n (take n ws)
next_take seed n ws =
    elim (dec_le n 0) [
      | yes l ↦
          let e : n ≡ 0 = omega arith in
          next_first seed n ws e ∙ sym (next_first seed n (take n ws) e)
      | no l ↦
          elim (dec_le 55 n) [
            | yes h ↦
                next_later seed n ws h
                ∙ rw (← (get_or-take n ws (n - 24) 0 (omega arith)), ← (get_or-take n ws (n - 55) 0 (omega arith))) (sym (next_later seed n (take n ws) h))
            | no h ↦
                next_early seed n ws (λ e. omega arith) (omega arith)
                ∙ rw (← (get_or-take n ws (n - 1) 0 (omega arith))) (sym (next_early seed n (take n ws) (λ e. omega arith) (omega arith)))
          ]
    ]

-- ---- Each word stays where it was made
pub words_take : (seed n m : ℕ) → n ≤ m → take n (words seed m) ≡ words seed n
unfolding words
words_take seed n zero h = let z : n ≡ 0 = omega arith in rw z
words_take seed n (suc m) h =
    elim (dec_le n m) [
      | yes l ↦ shorter l (words_take seed n m l)
      | no l ↦ let z : n ≡ suc m = omega arith in rw z (take_all (suc m) (words seed (suc m)) (omega (arith, length_words seed (suc m))))
    ]
  where
    shorter : n ≤ m → take n (words seed m) ≡ words seed n → take n (words seed (suc m)) ≡ words seed n
    shorter l ih = take-append-le n (words seed m) (next seed m (words seed m) ∷ []) (omega (arith, length_words seed m)) ∙ ih

pub words_at : (seed n m : ℕ) → n < m → get_or (words seed m) n 0 ≡ word_at seed n
unfolding word_at
words_at seed n m h = sym (get_or-take (suc n) (words seed m) n 0 (omega arith)) ∙ ap (λ ws. get_or ws n 0) (words_take seed (suc n) m h)

-- ---- The card's sentences
module _ (seed : ℕ) where
  made : (n : ℕ) → word_at seed n ≡ next seed n (words seed n)
  unfolding word_at words
  made n = get_or_at (words seed n) (next seed n (words seed n)) [] 0 n (length_words seed n)

  -- "the first is the seed"
  pub first_word : word_at seed 0 ≡ seed
  first_word = made 0 ∙ next_first seed 0 (words seed 0) refl

  -- "each of the next 54 is the one before it plus 2,654,435,769, wrapping"
  pub next_54 : (n : ℕ) → 1 ≤ n → n ≤ 54 → word_at seed n ≡ (word_at seed (n - 1) + 2654435769) % 2 ^ 32
  next_54 n l h =
      made n
      ∙ next_early seed n (words seed n) (λ e. omega arith) (omega arith)
      ∙ ap (λ a. (a + 2654435769) % 2 ^ 32) (words_at seed (n - 1) n (omega arith))

  -- "each 32-bit word is the sum, wrapping, of the words 24 and 55 before it"
  pub later_words : (n : ℕ) → 55 ≤ n → word_at seed n ≡ (word_at seed (n - 24) + word_at seed (n - 55)) % 2 ^ 32
  later_words n h =
      made n
      ∙ next_later seed n (words seed n) h
      ∙ rw (words_at seed (n - 24) n (omega arith), words_at seed (n - 55) n (omega arith))

-- The 56th and the 57th word of the seed 0, computed.
word_56 : word_at 0 55 ≡ 0x28b7bd67
unfolding word_at words next plus
word_56 = refl

word_57 : word_at 0 56 ≡ 0x6526b0d9
unfolding word_at words next plus
word_57 = refl
