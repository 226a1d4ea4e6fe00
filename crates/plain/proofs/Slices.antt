-- Parts of a list, and what a writer leaves of them.
use Rattle.std.proofs.Common.{List, ◌++◌, ◌≡◌, ℕ, ◌+◌, ◌-◌, ◌≤◌, length, take, drop, refl, sym, ap, ◌∙◌, arith, length-append, length-drop}
use Rattle.std.proofs.lemmas.List.{length-take-le, take-take, take_at, drop_at, take-append-le}
use Rattle.std.proofs.lemmas.Slice.{between_is}
use Rattle.std.proofs.Math.Seq.{drop-drop}
use Rattle.std.specs.Prelude.{Option, Some}
use Rattle.plain.specs.Slices.{slice}
use Rattle.writer.specs.Writes.{placed, Writes}
use Rattle.writer.proofs.Writing.{writes_to}

pub slice_long : (l : List ℕ) (from to : ℕ) → to ≤ length l → length (slice from to l) ≡ to - from
unfolding slice
slice_long l from to h = simp (length-drop, length-take-le to l h)

pub part_is : (l : List ℕ) (from to : ℕ) → take (to - from) (drop from l) ≡ slice from to l
unfolding slice
part_is l from to = between_is l from to

-- A part that is two parts: the second.
pub slice_rest : (l : List ℕ) (from to : ℕ) (a b : List ℕ) → slice from to l ≡ a ++ b → slice (from + length a) to l ≡ b
unfolding slice
slice_rest l from to a b e = sym (drop-drop (length a) from (take to l)) ∙ ap (drop (length a)) e ∙ drop_at a b (length a) refl

-- The same words up to a place, the same parts up to it.
pub slice_low : (l l' : List ℕ) (at : ℕ) → take at l' ≡ take at l → (from to : ℕ) → to ≤ at → slice from to l' ≡ slice from to l
unfolding slice
slice_low l l' at e from to h = ap (drop from) (sym (take-take to at l' h) ∙ ap (take to) e ∙ take-take to at l h)

-- ---- A writer changes nothing below its place

take_placed : (at : ℕ) (a l : List ℕ) → at ≤ length l → take at (placed at a l) ≡ take at l
unfolding placed
take_placed at a l h =
    let low : length (take at l) ≡ at = length-take-le at l h in
    take-append-le at (take at l ++ a) (drop (at + length a) l) (omega (arith, low, length-append (take at l) a)) ∙ take_at (take at l) a at low

pub writes_low : {l : List ℕ} {at : ℕ} {a l' : List ℕ} {r : Option ℕ} {n : ℕ} → Writes l at a l' r → r ≡ Some n → take at l' ≡ take at l
writes_low {l} {at} {a} {l'} f e =
    let g = writes_to f e in
    rw (f.fits (omega (arith, g.0, g.1))).1 (take_placed at a l (omega (arith, g.0, g.1)))

-- What stands where it was written.
pub writes_there : {l : List ℕ} {at : ℕ} {a l' : List ℕ} {r : Option ℕ} {n : ℕ} → Writes l at a l' r → r ≡ Some n → slice at n l' ≡ a
unfolding slice placed
writes_there {l} {at} {a} {l'} {r} {n} f e =
    let g = writes_to f e in
    let low : length (take at l) ≡ at = length-take-le at l (omega (arith, g.0, g.1)) in
    let both : length (take at l ++ a) ≡ n = omega (arith, low, length-append (take at l) a, g.0) in
    ap (drop at) (ap (take n) (f.fits (omega (arith, g.0, g.1))).1 ∙ take_at (take at l ++ a) (drop (at + length a) l) n both)
    ∙ drop_at (take at l) a at low

-- What is written at the start.
pub writes_first : {l a l' : List ℕ} {r : Option ℕ} → length a ≤ length l → Writes l 0 a l' r → l' ≡ a ++ drop (length a) l
unfolding placed
writes_first {l} {a} h f =
    let all : 0 + length a ≡ length a = omega arith in
    (f.fits (omega (arith, h))).1 ∙ ap (λ (k : ℕ). a ++ drop k l) all
