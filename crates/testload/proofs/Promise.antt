-- Card 11's promises of the definition: every file made is past refusals 2 to 10 and 13, and two seeds below 2^31 give two files.
use mathlib.Core.List.{List, [], ◌∷◌}
use mathlib.Core.Path.{◌≡◌, refl, sym, ap, ◌∙◌}
use Prim.Native.Nat.{ℕ, zero, suc, ◌+◌, ◌-◌, ◌*◌, ◌%◌, ◌^◌, ◌<◌, ◌≤◌}
use native.Mathlib.Decide.{dec_le}
use native.Mathlib.Omega.{arith}
use lib.ListN.{length, get_or}
use Rattle.format.specs.Syntax.{no_node}
use Rattle.format.specs.Frame.{wide}
use Rattle.format.specs.File.{Form, no_ast, refused, described, reading_of, reading}
use Rattle.format.specs.Refusal.{Refusal}
use Rattle.format.specs.Refused.{Refused}
use Rattle.format.specs.All.{All}
use Rattle.format.specs.Content.{describes, Says}
use Rattle.format.proofs.Lists.{all_snoc}
use Rattle.format.proofs.Content.{says_exactly}
use Rattle.format.proofs.Refused.{refused_when}
use Rattle.testload.specs.Words.{next, words, word_at}
use Rattle.testload.specs.Rule.{content_of, word_count, load_file}
use Rattle.testload.proofs.Words.{next_first, next_early, next_later, words_at, first_word, next_54, later_words}
use Rattle.testload.proofs.Lawful.{lawful, file_short, file_fits, first_start}

-- ---- Words have 32 bits

module _ (seed : ℕ) (h : seed < 0x1_0000_0000) where
  next_small : (n : ℕ) (ws : List ℕ) → next seed n ws < 0x1_0000_0000
  next_small n ws = elim (dec_le n 0) [
    | yes l ↦ let e : n ≡ 0 = omega arith in omega (arith, next_first seed n ws e)
    | no l ↦ elim (dec_le 55 n) [
      | yes k ↦ omega (arith, next_later seed n ws k)
      | no k ↦ omega (arith, next_early seed n ws (λ e. omega arith) (omega arith))
    ]
  ]

  words_small : (n : ℕ) → All (λ x. x < 0x1_0000_0000) (words seed n)
  unfolding words
  words_small zero = tt
  words_small (suc n) = all_snoc (λ x. x < 0x1_0000_0000) (words seed n) (next seed n (words seed n)) (words_small n) (next_small n (words seed n))

  each_small : (l : List ℕ) → All (λ x. x < 0x1_0000_0000) l → (n : ℕ) → get_or l n 0 < 0x1_0000_0000
  each_small [] a n = omega arith
  each_small (x ∷ l) a zero = a.0
  each_small (x ∷ l) a (suc n) = each_small l a.1 n

  pub word_small : (m n : ℕ) → get_or (words seed m) n 0 < 0x1_0000_0000
  word_small m n = each_small (words seed m) (words_small m) n

  -- ---- Every file passes

  -- "Every file made is past refusals 2 to 10 and 13": it is the writing of a lawful content.
  pub load_says : Says wide (load_file seed) (describes (content_of (words seed word_count)))
  unfolding load_file
  load_says =
      let ws = words seed word_count in
      record { content = content_of ws; is = refl; size = file_fits ws (word_small word_count); lawful = lawful ws (word_small word_count); tree = refl }

  pub load_passes : reading (load_file seed) ≡ described (describes (content_of (words seed word_count)))
  load_passes = (says_exactly wide (load_file seed) (describes (content_of (words seed word_count)))).1 load_says

  -- A slice of this length always suffices.
  pub load_short : length (load_file seed) ≤ 8255
  unfolding load_file
  load_short = file_short (words seed word_count) (word_small word_count)

  pub never_refused : (i : Refusal) → Refused wide (load_file seed) i → ⊥
  never_refused i r =
      let e : reading_of wide (load_file seed) ≡ refused i = (refused_when wide (load_file seed) i).1 r in
      let p = load_passes in
      let z : ◌≡◌ {A = ℕ} 0 1 = cc in
      omega arith

-- ---- Two seeds, two files

early_words : (seed : ℕ) → seed < 0x1_0000_0000 → (n : ℕ) → n ≤ 54 → word_at seed n ≡ (seed + n * 2654435769) % 0x1_0000_0000
early_words seed h zero l = omega (arith, first_word seed)
early_words seed h (suc n) l =
    let e : suc n - 1 ≡ n = omega arith in
    let step : word_at seed (suc n) ≡ (word_at seed n + 2654435769) % 2 ^ 32 = next_54 seed (suc n) (omega arith) l ∙ ap
    (λ m. (word_at seed m + 2654435769) % 2 ^ 32) e in
    omega (arith, step, early_words seed h n (omega arith))

word_56 : (seed : ℕ) → seed < 0x1_0000_0000 → word_at seed 55 ≡ ((seed + 31 * 2654435769) % 0x1_0000_0000 + seed) % 0x1_0000_0000
word_56 seed h = omega (arith, later_words seed 55 (omega arith), early_words seed h 31 (omega arith), first_word seed)

start_of : Form → ℕ
start_of f = (get_or (get_or f.queries 0 no_ast).nodes 0 no_node).span.start

start_is : (seed : ℕ) → seed < 0x1_0000_0000 → start_of (describes (content_of (words seed word_count))) ≡ word_at seed 55
unfolding start_of describes word_count
start_is seed h = first_start (words seed 1440) (word_small seed h 1440) ∙ words_at seed 55 1440 (omega arith)

-- with a seed below 2^31 it is twice the seed and a constant, wrapping at most once
at_56 : (s : ℕ) → s < 2 ^ 31 → word_at s 55 ≡ (2 * s + 0x28b7bd67) % 0x1_0000_0000
at_56 s h =
    let once : (s + 31 * 2654435769) % 0x1_0000_0000 ≡ s + 0x28b7bd67 = omega arith in
    word_56 s (omega arith) ∙ ap (λ x. (x + s) % 0x1_0000_0000) once ∙ ap (λ x. x % 0x1_0000_0000) (omega arith)

not_over : (x : ℕ) → x < 0x1_0000_0000 → x % 0x1_0000_0000 ≡ x
not_over x h = omega arith

over_once : (x : ℕ) → 0x1_0000_0000 ≤ x → x < 0x2_0000_0000 → x % 0x1_0000_0000 ≡ x - 0x1_0000_0000
over_once x h l = omega arith

halves : (s t : ℕ) → s < 2 ^ 31 → t < 2 ^ 31 → (2 * s + 0x28b7bd67) % 0x1_0000_0000 ≡ (2 * t + 0x28b7bd67) % 0x1_0000_0000 → s ≡ t
halves s t p q e = go (dec_le 0x1_0000_0000 (2 * s + 0x28b7bd67)) (dec_le 0x1_0000_0000 (2 * t + 0x28b7bd67))
  where
    go : Dec (0x1_0000_0000 ≤ 2 * s + 0x28b7bd67) → Dec (0x1_0000_0000 ≤ 2 * t + 0x28b7bd67) → s ≡ t
    go (yes a) (yes b) = omega (arith, over_once (2 * s + 0x28b7bd67) a (omega arith), over_once (2 * t + 0x28b7bd67) b (omega arith), e)
    go (yes a) (no b) = omega (arith, over_once (2 * s + 0x28b7bd67) a (omega arith), not_over (2 * t + 0x28b7bd67) (omega arith), e)
    go (no a) (yes b) = omega (arith, not_over (2 * s + 0x28b7bd67) (omega arith), over_once (2 * t + 0x28b7bd67) b (omega arith), e)
    go (no a) (no b) = omega (arith, not_over (2 * s + 0x28b7bd67) (omega arith), not_over (2 * t + 0x28b7bd67) (omega arith), e)

pub unlike : (s t : ℕ) → s < 2 ^ 31 → t < 2 ^ 31 → load_file s ≡ load_file t → s ≡ t
unlike s t p q e =
    let ps = load_passes s (omega arith) in
    let pt = load_passes t (omega arith) in
    let same : described (describes (content_of (words s word_count))) ≡ described (describes (content_of (words t word_count))) = sym ps ∙ ap reading e ∙ pt in
    let forms : describes (content_of (words s word_count)) ≡ describes (content_of (words t word_count)) = cc in
    let w : word_at s 55 ≡ word_at t 55 = sym (start_is s (omega arith)) ∙ ap start_of forms ∙ start_is t (omega arith) in
    halves s t p q (sym (at_56 s p) ∙ w ∙ at_56 t q)
