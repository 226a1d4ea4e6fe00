-- A line's bytes cut into pieces of one size: what a piece says from its first byte is what the line says where the
-- piece stands.
use mathlib.Core.List.{List, ◌∷◌, map}
use mathlib.Core.Path.{◌≡◌, refl, ap, ◌∙◌}
use Prim.Native.Nat.{ℕ, zero, suc, ◌+◌, ◌≤◌}
use native.Mathlib.Omega.{arith}
use lib.ListN.{length, take, drop, get_or}
use Rattle.std.proofs.lemmas.List.{get_or-take, get_or-drop, drop-drop}
use Rattle.std.specs.Simd.{first_chunks}
use Rattle.frames.specs.Promises.{half_w, full_w}
use Rattle.frames.specs.Items.{items_at}

byte_cut : (n o : ℕ) (s : List ℕ) (i : ℕ) → o + 1 ≤ n → get_or (take n (drop i s)) o 0 ≡ get_or s (i + o) 0
byte_cut n o s i h = get_or-take n (drop i s) o 0 (omega arith) ∙ get_or-drop i s o 0

pub half_cut : (n o : ℕ) (s : List ℕ) (i : ℕ) → o + 2 ≤ n → half_w (take n (drop i s)) o ≡ half_w s (i + o)
unfolding half_w
half_cut n o s i h =
    let a = byte_cut n o s i (omega arith) in
    let b = byte_cut n (o + 1) s i (omega arith) in
    let z : i + (o + 1) ≡ i + o + 1 = omega arith in
    rw (a, b, z)

pub full_cut : (n o : ℕ) (s : List ℕ) (i : ℕ) → o + 4 ≤ n → full_w (take n (drop i s)) o ≡ full_w s (i + o)
unfolding full_w
full_cut n o s i h =
    let a = half_cut n o s i (omega arith) in
    let b = half_cut n (o + 2) s i (omega arith) in
    let z : i + (o + 2) ≡ i + o + 2 = omega arith in
    rw (a, b, z)

module _ {X : Type 0} (v : List ℕ → ℕ → X) (n : ℕ) (local : (s : List ℕ) (i : ℕ) → v (take n (drop i s)) 0 ≡ v s i) where
  pub cut_items : (s : List ℕ) (i k : ℕ) → map (λ p. v p 0) (first_chunks n k (drop i s)) ≡ items_at (v s) n i k
  unfolding items_at
  cut_items s i zero = refl
  cut_items s i (suc k) = rw (local s i, drop-drop n i s) (ap (λ l. v s i ∷ l) (cut_items s (i + n) k))

pub length_cuts : (n k : ℕ) (s : List ℕ) → length (first_chunks n k s) ≡ k
length_cuts n zero s = refl
length_cuts n (suc k) s = ap suc (length_cuts n k (drop n s))
