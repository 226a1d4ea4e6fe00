-- Hexadecimal read and written. A digit's value is its place among the digits, which are tested one by one.
use mathlib.Core.Bool.{Bool, true, false, not}
use mathlib.Core.List.{List, [], ◌∷◌, ◌++◌}
use mathlib.Core.Path.{◌≡◌, refl, sym, ap, ◌∙◌}
use Prim.Native.Nat.{ℕ, suc, ◌+◌, ◌*◌, ◌/◌, ◌%◌, ◌<◌}
use native.Mathlib.Nat.{div-add-mod'}
use native.Mathlib.Omega.{arith}
use lib.Dec.{eqb}
use lib.ListN.{length, get_or}
use borrow.Author.Tests.{eqb-true, eqb-false, not-true}
use Rattle.text.specs.Utf8.{one_more}
use Rattle.format.specs.Bytes.{ascii, hex_digit, hex_line}
use Rattle.format.specs.Lines.{LF, position, digits, digit, pair, decoded}
use Rattle.format.specs.All.{All, Absent}
use Rattle.format.specs.Writing.{Byte}
use Rattle.format.proofs.Tests.{cases, clash}
use Rattle.std.specs.Prelude.{◌&&◌, None, Option, Some}
use Rattle.std.proofs.lemmas.Bool.{and_parts, agree_below, agree_below_at}

-- ---- One digit

is : Option ℕ → ℕ → Bool
is None v = false
is (Some w) v = eqb w v

is_some : (o : Option ℕ) (v : ℕ) → is o v ≡ true → o ≡ Some v
unfolding is
is_some None v h = clash (sym h)
is_some (Some w) v h = ap Some (eqb-true w v h)

reads_back : ℕ → Bool
unfolding is digit digits ascii hex_digit
reads_back v = (is (digit (hex_digit v)) v && eqb (hex_digit v) (get_or digits v 0)) && not (eqb (hex_digit v) LF)

each_reads_back : agree_below reads_back (λ _. true) 16 ≡ true
unfolding reads_back
each_reads_back = refl

pub digit_of : (v : ℕ) → v < 16 → digit (hex_digit v) ≡ Some v
unfolding reads_back
digit_of v h = is_some _ v (and_parts _ _ ((and_parts _ _ (agree_below_at reads_back (λ _. true) 16 v each_reads_back h)).0)).0

digit_at : (v : ℕ) → v < 16 → hex_digit v ≡ get_or digits v 0
unfolding reads_back
digit_at v h = eqb-true _ _ (and_parts (is (digit (hex_digit v)) v) _ ((and_parts _ _ (agree_below_at reads_back (λ _. true) 16 v each_reads_back h)).0)).1

digit_no_LF : (v : ℕ) → v < 16 → LF ≡ hex_digit v → ⊥
unfolding reads_back
digit_no_LF v h e = eqb-false (hex_digit v) LF
    (not-true _ (and_parts (is (digit (hex_digit v)) v && eqb (hex_digit v) (get_or digits v 0)) _
    (agree_below_at reads_back (λ _. true) 16 v each_reads_back h)).1) (sym e)

-- where an element stands, it is
record Stands (c : ℕ) (l : List ℕ) (v : ℕ) : Type 0 where
  at : get_or l v 0 ≡ c
  inside : v < length l

next : {c a v : ℕ} {l : List ℕ} → Stands c l v → Stands c (a ∷ l) (suc v)
next s = record { at = s.at; inside = omega (arith, s.inside) }

stands : (c : ℕ) (l : List ℕ) (v : ℕ) → position (eqb c) l ≡ Some v → Stands c l v
unfolding position
stands c [] v e = cc
stands c (a ∷ l) v e = cases (eqb c a)
    (λ q. let h : Some 0 ≡ Some v = rw (q, position) at e in let z : v ≡ 0 = cc in rw z (record { at = sym (eqb-true c a q); inside = omega arith }))
    (λ q. go (λ w p. stands c l w p) (position (eqb c) l) refl (rw (q, position) at e))
  where
    go : ((w : ℕ) → position (eqb c) l ≡ Some w → Stands c l w) → (o : Option ℕ) → position (eqb c) l ≡ o → one_more (position (eqb c) l) ≡ Some v
        → Stands c (a ∷ l) v
    go ih None q h = cc (rw q at h)
    go ih (Some w) q h = let k : Some (suc w) ≡ Some v = rw q at h in let z : v ≡ suc w = cc in rw z (next (ih w q))

digit_stands : (c v : ℕ) → digit c ≡ Some v → (hex_digit v ≡ c) × (v < 16)
unfolding digit digits ascii
digit_stands c v e = let s = stands c digits v e in (digit_at v s.inside ∙ s.at, s.inside)

same_some : {A : Type 0} {x y : A} → Some x ≡ Some y → x ≡ y
same_some e = cc

-- ---- Lines of digits

-- a line without its LF
unfoldable pub hexes : List ℕ → List ℕ
hexes [] = []
hexes (b ∷ s) = hex_digit (b / 16) ∷ hex_digit (b % 16) ∷ hexes s

pub line_hexes : (s : List ℕ) → hex_line s ≡ hexes s ++ LF ∷ []
unfolding hex_line hexes
line_hexes [] = refl
line_hexes (b ∷ s) = ap (λ t. hex_digit (b / 16) ∷ hex_digit (b % 16) ∷ t) (line_hexes s)

pub line_length : (s : List ℕ) → length (hex_line s) ≡ 2 * length s + 1
unfolding hex_line
line_length [] = refl
line_length (b ∷ s) = omega (arith, line_length s)

pub decoded_hex : (s : List ℕ) → All Byte s → decoded (hexes s) ≡ Some s
unfolding hexes decoded pair
decoded_hex [] a = refl
decoded_hex (b ∷ s) a = rw (digit_of (b / 16) (omega (arith, a.0)), digit_of (b % 16) (omega arith), decoded_hex s a.1, div-add-mod' b 16)

pub hex_no_LF : (s : List ℕ) → All Byte s → Absent LF (hexes s)
unfolding hexes
hex_no_LF [] a = tt
hex_no_LF (b ∷ s) a = (digit_no_LF (b / 16) (omega (arith, a.0)), (digit_no_LF (b % 16) (omega arith), hex_no_LF s a.1))

pub record Hex (l s : List ℕ) : Type 0 where
  pub is : l ≡ hexes s
  pub bytes : All Byte s

byte_hex : (h l v w : ℕ) (t s : List ℕ) → digit h ≡ Some v → digit l ≡ Some w → Hex t s → Hex (h ∷ l ∷ t) ((v * 16 + w) ∷ s)
unfolding hexes
byte_hex h l v w t s p q r =
    let a = digit_stands h v p in
    let b = digit_stands l w q in
    let high : (v * 16 + w) / 16 ≡ v = omega (arith, b.1) in
    let low : (v * 16 + w) % 16 ≡ w = omega (arith, b.1) in
    record {
      is = rw (high, low, a.0, b.0, r.is);
      bytes = (omega (arith, a.1, b.1), r.bytes);
    }

pub hex_decoded : (l s : List ℕ) → decoded l ≡ Some s → Hex l s
unfolding decoded pair hexes
hex_decoded [] s e = let z : s ≡ [] = cc in rw z (record { is = refl; bytes = tt })
hex_decoded (h ∷ []) s e = cc
hex_decoded (h ∷ l ∷ t) s e = go (λ r q. hex_decoded t r q) (digit h) refl (digit l) refl (decoded t) refl e
  where
    go : ((r : List ℕ) → decoded t ≡ Some r → Hex t r) → (x : Option ℕ) → digit h ≡ x → (y : Option ℕ) → digit l ≡ y → (z : Option (List ℕ))
        → decoded t ≡ z → pair x y z ≡ Some s → Hex (h ∷ l ∷ t) s
    go ih None p y q z r c = cc
    go ih (Some v) p None q z r c = cc
    go ih (Some v) p (Some w) q None r c = cc
    go ih (Some v) p (Some w) q (Some x) r c = rw (sym (same_some c)) (byte_hex h l v w t x p q (ih x r))
