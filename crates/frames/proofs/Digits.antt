-- Sixteen digits at a time: each lane of a vector is held to the definition at each of the 256 bytes, and the lowest bit of a mask is where
-- the first lane is no digit.
use Rattle.std.proofs.Common.{◌≡◌, ℕ, zero, suc, ◌+◌, ◌-◌, ◌*◌, ◌/◌, ◌%◌, ◌^◌, ◌<◌, List, [], ◌∷◌, ◌++◌, Bool, true, false, not, cond, eqb, leb, length, get_or, map, replicate}
use Rattle.std.proofs.Common.{refl, sym, ap, ap₂, ◌∙◌, arith, w8, Fits, take_all}
use Rattle.std.specs.Prelude.{Some}
use Rattle.std.specs.List.{prefix_len}
use Prim.Native.Nat.{min}
use borrow.Author.Tests.{leb-false}
use borrow.Rule.Simd.Lanes.{act2}
use borrow.Table.Row.{s_int}
use mir.Syntax.{mask, lt, unsigned, wrap_sub, wrap_add}
use lib.Lanes.{zip2, sel_l, mask_l, top, chunk, put_chunk, Each1}
use lib.Count.{count_trailing_zeros}
use Rattle.std.proofs.lemmas.Simd.{zip2_splat_left, tops_compared, mask_l-mod, first_set_mask_l, run_in_chunk_fails, length-chunk, get_or-chunk, put_chunk_whole}
use Rattle.std.proofs.lemmas.List.{get_or-map, length-map}
use Rattle.std.proofs.lemmas.List.FromFn.{get_or-map-range_with_len}
use Rattle.std.proofs.Math.ListN.{get_or-append}
use Rattle.text.proofs.Bytes.{same_at_bytes}
use Rattle.sigla_hex.specs.Digits.{digit_w, pair_at}
use Rattle.sigla_hex.proofs.Line.{is_digit_lem}
use Rattle.frames.proofs.Decoding.{both_digits}

-- ---- The values of the lanes

abbrev less : ℕ → ℕ → ℕ
less = act2 (mask (lt unsigned)) (s_int w8) (s_int w8) (s_int w8)

abbrev minus : ℕ → ℕ → ℕ
minus = act2 wrap_sub (s_int w8) (s_int w8) (s_int w8)

abbrev plus : ℕ → ℕ → ℕ
plus = act2 wrap_add (s_int w8) (s_int w8) (s_int w8)

-- what the code computes of one lane
abbrev lane : ℕ → ℕ
lane b = cond (top 7 (less (minus b 48) 10)) (minus b 48) (plus (cond (top 7 (less (minus b 97) 6)) (minus b 97) 6) 10)

lane_is : (b : ℕ) → b < 256 → lane b ≡ digit_w b
unfolding digit_w
lane_is b l = same_at_bytes lane digit_w refl b l

pub lanes : (n : ℕ) (v : List ℕ) → length v ≡ n → Each1 (Fits w8) v
    → sel_l (map (top 7) (zip2 less (zip2 minus v (replicate n 48)) (replicate n 10))) (zip2 minus v (replicate n 48))
    (zip2 plus (sel_l (map (top 7) (zip2 less (zip2 minus v (replicate n 97)) (replicate n 6))) (zip2 minus v (replicate n 97)) (replicate n 6))
    (replicate n 10))
    ≡ map digit_w v
lanes n [] e fits = refl
lanes zero (b ∷ v) e fits = absurd (omega arith)
lanes (suc n) (b ∷ v) e fits = ap₂ (λ x xs. x ∷ xs) (lane_is b fits.0.fits) (lanes n v (omega arith) fits.1)

-- ---- The lanes before the first that is no digit

pub mask_is : (v : List ℕ) → length v ≡ 16
    → mask_l (map (top 7) (zip2 (λ a b. cond (leb a b) (2 ^ 8 - 1) 0) (replicate 16 16) v)) % 2 ^ 64 ≡ mask_l (map (leb 16) v)
mask_is v long =
    ap (λ ms. mask_l ms % 2 ^ 64) (tops_compared w8 leb (replicate 16 16) v ∙ zip2_splat_left leb 16 16 v long)
    ∙ mask_l-mod (map (leb 16) v) 64 (omega (arith, length-map v (leb 16)))

pub early : (v : List ℕ) → length v ≡ 16 → (j : ℕ) → j < 16 → j < count_trailing_zeros 64 (mask_l (map (leb 16) v)) → get_or v j 0 < 16
early v long j h l = go (eqb m 0) refl
  where
    m : ℕ
    m = mask_l (map (leb 16) v)

    passed : (r : ℕ) → r ≡ cond (eqb m 0) 16 (count_trailing_zeros 64 m) → j < r → get_or v j 0 < 16
    passed r e q =
        let whole : chunk 0 16 v ≡ v = take_all 16 v (omega (arith, long)) in
        let counted : r ≡ prefix_len (λ x. not (leb 16 x)) (chunk 0 16 v) = rw whole (e ∙ first_set_mask_l (leb 16) v 16 long (omega arith)) in
        leb-false 16 (get_or v j 0) (run_in_chunk_fails (leb 16) v 0 16 r 0 (omega (arith, long)) counted j (omega arith) (omega (arith, q)))

    go : (t : Bool) → eqb m 0 ≡ t → get_or v j 0 < 16
    go true e = passed 16 (rw e refl) h
    go false e = passed (count_trailing_zeros 64 m) (rw e refl) l

-- ---- The bytes of the pairs

module _ (f : List ℕ) (i : ℕ) (v : List ℕ) (room : i + 15 < length f) (are : v ≡ map digit_w (chunk i 16 f)) where
  pub long : length v ≡ 16
  long = ap length are ∙ length-map (chunk i 16 f) digit_w ∙ length-chunk i 16 f (omega arith)

  value : (j : ℕ) → j < 16 → get_or v j 0 ≡ digit_w (get_or f (i + j) 0)
  value j h = ap (λ l. get_or l j 0) are ∙ get_or-map digit_w (chunk i 16 f) j 0 0 (omega (arith, length-chunk i 16 f (omega arith))) ∙ ap digit_w
      (get_or-chunk i 16 f j 0 h)

  -- a lane of the sum, which the code takes from two copies of the values
  abbrev two : ℕ → ℕ
  two k = (get_or (v ++ v) (2 * k) 0 * 16 % 256 + get_or (v ++ v) (2 * k + 1) 0) % 256

  two_is : (k : ℕ) → k < 8 → get_or v (2 * k) 0 < 16 → get_or v (2 * k + 1) 0 < 16 → pair_at f (i + 2 * k) ≡ Some (two k)
  two_is k h p q =
      let next : i + (2 * k + 1) ≡ i + 2 * k + 1 = omega arith in
      let high = value (2 * k) (omega arith) in
      let low = rw next at (value (2 * k + 1) (omega arith)) in
      let first = is_digit_lem (get_or f (i + 2 * k) 0) (omega (arith, high, p)) in
      let second = is_digit_lem (get_or f (i + 2 * k + 1) 0) (omega (arith, low, q)) in
      let sum : two k ≡ digit_w (get_or f (i + 2 * k) 0) * 16 + digit_w (get_or f (i + 2 * k + 1) 0) =
      rw (get_or-append v v 0 (2 * k) (omega (arith, long)), get_or-append v v 0 (2 * k + 1) (omega (arith, long))) (omega (arith, high, low, p, q)) in
      sym (both_digits f (i + 2 * k) first (omega arith) second) ∙ ap Some (sym sum)

  pub pairs_are : (bytes : List ℕ) → length bytes ≡ 8 → (r : ℕ) → r ≡ min (count_trailing_zeros 64 (mask_l (map (leb 16) v)) / 2) 8 → (k : ℕ) → k < r
      → pair_at f (i + 2 * k) ≡ Some (get_or (put_chunk 0 bytes (two 0 ∷ two 1 ∷ two 2 ∷ two 3 ∷ two 4 ∷ two 5 ∷ two 6 ∷ two 7 ∷ [])) k 0)
  pairs_are bytes e r is k h =
      let few : k < 8 = omega (arith, is) in
      let below : (j : ℕ) → j < 2 * k + 2 → get_or v j 0 < 16 = λ j l. early v long j (omega arith) (omega (arith, is)) in
      let written = put_chunk_whole bytes (two 0 ∷ two 1 ∷ two 2 ∷ two 3 ∷ two 4 ∷ two 5 ∷ two 6 ∷ two 7 ∷ []) e in
      two_is k few (below (2 * k) (omega arith)) (below (2 * k + 1) (omega arith))
      ∙ ap Some (sym (ap (λ l. get_or l k 0) written ∙ get_or-map-range_with_len two 0 8 k k 0 few (omega arith)))
