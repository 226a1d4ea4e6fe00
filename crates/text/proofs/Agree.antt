-- The rule of 01-scope.md and the grammar of RFC 3629 have the same characters, and so the same texts. A computed test
-- says which bytes have two, three or four leading ones, and what such a byte holds after them; the rest is arithmetic
-- on the value.
use Rattle.std.proofs.Common.{◌≡◌, refl, sym, ◌∙◌, ◌↔◌, ℕ, zero, suc, ◌+◌, ◌-◌, ◌*◌, ◌%◌, ◌≤◌, ◌<◌, Bool, true, ◌&&◌, T, eqb, leb, ltb, lit<, List, [], ◌∷◌}
use Rattle.std.proofs.Common.{◌++◌, length, get_or, arith}
use Rattle.std.proofs.Math.Dec.{leb→le}
use Rattle.std.proofs.Math.Nat.{le_trans, le_of_suc-le-suc, not-suc-le-zero}
use Rattle.std.proofs.lemmas.Bool.{agree_below, agree_below_at, and_parts, eq-eqb, eqb-true}
use native.Mathlib.Decide.{dec_le}
use Rattle.text.specs.Star.{Every, Star, none as nil, more}
use Rattle.text.specs.Utf8 as utf8
use Rattle.text.specs.Utf8.{Range, ◌to◌, InRange, FitsRanges, end, then, OneOf, this, later, inside}
use Rattle.text.specs.Rule as rule
use Rattle.text.specs.Rule.{ones_of, ones, head, value, least, Later, Scalar, Sequence, alone, several}
use Rattle.text.proofs.Grammar.{range, inside_in, in_inside}

-- the bytes with n leading ones are those from low to high, and hold what is above low
record Lead (n low high : ℕ) : Type 0 where
  found : (b : ℕ) → b < 256 → ones b ≡ n → InRange (low to high) b
  given : (b : ℕ) → b < 256 → InRange (low to high) b → ones b ≡ n
  holds : (b : ℕ) → b < 256 → ones b ≡ n → head b ≡ b - low

has : ℕ → ℕ → Bool
has n b = eqb (ones b) n

above : ℕ → ℕ → Bool
above low b = eqb (head b) (b - low)

leads : (n low high : ℕ) → agree_below (has n) (inside (low to high)) 256 ≡ true
    → agree_below (λ b. has n b && above low b) (has n) 256 ≡ true → Lead n low high
unfolding has above
leads n low high t u =
    record {
      found = λ b l e. inside_in (low to high) b (sym (which b l) ∙ eq-eqb (ones b) n e);
      given = λ b l i. eqb-true (ones b) n (which b l ∙ in_inside (low to high) b i);
      holds = λ b l e. eqb-true _ _ (and_parts _ _ (agree_below_at (λ b. has n b && above low b) (has n) 256 b u l ∙ eq-eqb (ones b) n e)).1;
    }
  where
    which : (b : ℕ) → b < 256 → eqb (ones b) n ≡ inside (low to high) b
    which b l = agree_below_at (has n) (inside (low to high)) 256 b t l

two : Lead 2 0xc0 0xdf
unfolding has above ones_of ones head
two = leads 2 0xc0 0xdf refl refl

three : Lead 3 0xe0 0xef
unfolding has above ones_of ones head
three = leads 3 0xe0 0xef refl refl

four : Lead 4 0xf0 0xf7
unfolding has above ones_of ones head
four = leads 4 0xf0 0xf7 refl refl

module _ {n low high : ℕ} (lead : Lead n low high) (b : ℕ) (byte : b < 256) (t : List ℕ) where
  make : 2 ≤ n → n ≤ 4 → InRange (low to high) b → 1 + length t ≡ n → Every Later t → least n ≤ value (b - low) t → value (b - low) t ≤ 0x10ffff
      → Scalar (value (b - low) t) → Sequence b t
  make h₂ h₄ i long tail l h whole =
      let e = lead.given b byte i in
      let v = lead.holds b byte e in
      record { two = rw e h₂; four = rw e h₄; long = long ∙ sym e; tail = tail; low = rw (e, v) l; high = rw v h; scalar = rw v whole }

  taken : ones b ≡ n → Sequence b t → InRange (low to high) b × (least n ≤ value (b - low) t) × (value (b - low) t ≤ 0x10ffff) × Scalar (value (b - low) t)
  taken e q =
      let v = lead.holds b byte e in
      (lead.found b byte e, rw (e, v) at q.low, rw v at q.high, rw v at q.scalar)

tail : {b : ℕ} → Later b → InRange utf8.tail b
tail h = record { low = h.low; high = h.high }

choose : (g : List (List Range)) (k : ℕ) {s : List ℕ} → k < length g → FitsRanges (get_or g k []) s → OneOf g s
choose [] k h f = absurd (not-suc-le-zero h)
choose (rs ∷ g) zero h f = this f
choose (rs ∷ g) (suc k) h f = later (choose g k (le_of_suc-le-suc h) f)

-- the alternatives of UTF8-char, counted from 0
alternative : (k : ℕ) {s : List ℕ} → T (ltb k 9) → FitsRanges (get_or utf8.utf8_char k []) s → utf8.Character s
alternative k h f = choose utf8.utf8_char k (lit< h) f

-- ed's second byte, where the value is not from d800 to dfff
below_half : (b x y : ℕ) → b ≡ 0xed → Later x → Later y → Scalar (((b - 0xe0) * 64 + x % 64) * 64 + y % 64) → x ≤ 0x9f
below_half b x y e i j s =
    elim (dec_le x 0x9f) [
      | yes h ↦ h
      | no h ↦ absurd (omega (arith, i, j, s (omega (arith, i, j))))
    ]

in_grammar : (b : ℕ) (t : List ℕ) → b < 256 → Sequence b t → utf8.Character (b ∷ t)
unfolding value
in_grammar b [] l q = absurd (omega (arith, q.two, q.long))
in_grammar b (x ∷ []) l q =
    let p = taken two b l (x ∷ []) (omega (arith, q.long)) q in
    alternative 1 tt (then (range 0xc2 0xdf b (omega (arith, p)) p.0.high) (then (tail q.tail.0) end))
in_grammar b (x ∷ y ∷ []) l q =
    let p = taken three b l (x ∷ y ∷ []) (omega (arith, q.long)) q in
    let i = q.tail.0 in
    let rest = then (tail q.tail.1.0) end in
    elim (dec_le b 0xe0) [
      | yes h ↦ alternative 2 tt (then (range 0xe0 0xe0 b p.0.low h) (then (range 0xa0 0xbf x (omega (arith, p, i)) i.high) rest))
      | no h₁ ↦
          elim (dec_le b 0xec) [
            | yes h ↦ alternative 3 tt (then (range 0xe1 0xec b (omega arith) h) (then (tail i) rest))
            | no h₂ ↦
                elim (dec_le b 0xed) [
                  | yes h ↦ alternative 4 tt (then (range 0xed 0xed b (omega arith) h)
                      (then (range 0x80 0x9f x i.low (below_half b x y (omega arith) i q.tail.1.0 p.3)) rest))
                  | no h₃ ↦ alternative 5 tt (then (range 0xee 0xef b (omega arith) p.0.high) (then (tail i) rest))
                ]
          ]
    ]
in_grammar b (x ∷ y ∷ z ∷ []) l q =
    let p = taken four b l (x ∷ y ∷ z ∷ []) (omega (arith, q.long)) q in
    let i = q.tail.0 in
    let rest = then (tail q.tail.1.0) (then (tail q.tail.1.1.0) end) in
    elim (dec_le b 0xf0) [
      | yes h ↦ alternative 6 tt (then (range 0xf0 0xf0 b p.0.low h) (then (range 0x90 0xbf x (omega (arith, p, i)) i.high) rest))
      | no h₁ ↦
          elim (dec_le b 0xf3) [
            | yes h ↦ alternative 7 tt (then (range 0xf1 0xf3 b (omega arith) h) (then (tail i) rest))
            | no h₂ ↦ alternative 8 tt (then (range 0xf4 0xf4 b (omega arith) (omega (arith, p, i)))
                (then (range 0x80 0x8f x i.low (omega (arith, p, i))) rest))
          ]
    ]
in_grammar b (x ∷ y ∷ z ∷ u ∷ t) l q = absurd (omega (arith, q.four, q.long))

-- a byte of a range is in a wider one
narrow : {low high low' high' b : ℕ} → InRange (low' to high') b → T (leb low low') → T (leb high' high) → InRange (low to high) b
narrow i l h = record { low = le_trans (leb→le _ _ l) i.low; high = le_trans i.high (leb→le _ _ h) }

-- and a later byte where the range lies within the tail's
follows : {low high b : ℕ} → InRange (low to high) b → T (leb 0x80 low) → T (leb high 0xbf) → Later b
follows {b = b} i l h =
    let wide : InRange (0x80 to 0xbf) b = narrow i l h in
    record { low = wide.low; high = wide.high }

of_two : (b x : ℕ) → InRange (0xc0 to 0xdf) b → Later x → 0x80 ≤ (b - 0xc0) * 64 + x % 64 → rule.Character (b ∷ x ∷ [])
unfolding value
of_two b x i j low = several (make two b (omega (arith, i)) (x ∷ []) (omega arith) (omega arith) i refl (j, tt) low (omega (arith, i, j))
    (λ h. omega (arith, i, j)))

of_three : (b x y : ℕ) → InRange (0xe0 to 0xef) b → Later x → Later y → 0x800 ≤ ((b - 0xe0) * 64 + x % 64) * 64 + y % 64
    → Scalar (((b - 0xe0) * 64 + x % 64) * 64 + y % 64)
    → rule.Character (b ∷ x ∷ y ∷ [])
unfolding value
of_three b x y i j k low whole =
    several
    (make three b (omega (arith, i)) (x ∷ y ∷ []) (omega arith) (omega arith) i refl (j, (k, tt)) low (omega (arith, i, j, k)) whole)

of_four : (b x y z : ℕ) → InRange (0xf0 to 0xf4) b → Later x → Later y → Later z
    → 0x10000 ≤ (((b - 0xf0) * 64 + x % 64) * 64 + y % 64) * 64 + z % 64
    → (((b - 0xf0) * 64 + x % 64) * 64 + y % 64) * 64 + z % 64 ≤ 0x10ffff
    → rule.Character (b ∷ x ∷ y ∷ z ∷ [])
unfolding value
of_four b x y z i j k l low high =
    several
    (make four b (omega (arith, i)) (x ∷ y ∷ z ∷ []) (omega arith) (omega arith) (narrow i tt tt) refl
    (j, (k, (l, tt))) low high (λ h. omega (arith, i, low)))

pub in_rule : {s : List ℕ} → utf8.Character s → rule.Character s
in_rule (this (then {b = b} i end)) = alone {b = b} (omega (arith, i))
in_rule (later (this (then {b = b} i (then {b = x} j end)))) =
    of_two b x (narrow i tt tt) (follows j tt tt) (omega (arith, i))
in_rule (later (later (this (then {b = b} i (then {b = x} j (then {b = y} k end)))))) =
    of_three b x y (narrow i tt tt) (follows j tt tt) (follows k tt tt) (omega (arith, j)) (λ h. omega (arith, i, j, k))
in_rule (later (later (later (this (then {b = b} i (then {b = x} j (then {b = y} k end))))))) =
    of_three b x y (narrow i tt tt) (follows j tt tt) (follows k tt tt) (omega (arith, i)) (λ h. omega (arith, i, j, k))
in_rule (later (later (later (later (this (then {b = b} i (then {b = x} j (then {b = y} k end)))))))) =
    of_three b x y (narrow i tt tt) (follows j tt tt) (follows k tt tt) (omega (arith, i)) (λ h. omega (arith, i, j, k))
in_rule (later (later (later (later (later (this (then {b = b} i (then {b = x} j (then {b = y} k end))))))))) =
    of_three b x y (narrow i tt tt) (follows j tt tt) (follows k tt tt) (omega (arith, i)) (λ h. omega (arith, i, j, k))
in_rule (later (later (later (later (later (later (this (then {b = b} i (then {b = x} j (then {b = y} k (then {b = z} l end))))))))))) =
    of_four b x y z (narrow i tt tt) (follows j tt tt) (follows k tt tt) (follows l tt tt)
    (omega (arith, i, j)) (omega (arith, i))
in_rule (later (later (later (later (later (later (later (this (then {b = b} i (then {b = x} j (then {b = y} k (then {b = z} l end)))))))))))) =
    of_four b x y z (narrow i tt tt) (follows j tt tt) (follows k tt tt) (follows l tt tt)
    (omega (arith, i)) (omega (arith, i))
in_rule (later (later (later (later (later (later (later (later (this (then {b = b} i (then {b = x} j (then {b = y} k (then {b = z} l end))))))))))))) =
    of_four b x y z (narrow i tt tt) (follows j tt tt) (follows k tt tt) (follows l tt tt)
    (omega (arith, i)) (omega (arith, i, j))
in_rule {s = s} (later (later (later (later (later (later (later (later (later h))))))))) = elim h [ ]

abbrev pub Byte : ℕ → Type 0
Byte b = b < 256

-- The rule and the grammar have the same characters.
pub same_character : (s : List ℕ) → Every Byte s → rule.Character s ↔ utf8.Character s
same_character s bytes = (go s bytes, in_rule)
  where
    go : (s : List ℕ) → Every Byte s → rule.Character s → utf8.Character s
    go (b ∷ []) bytes (alone h) = alternative 0 tt (then (range 0x00 0x7f b (omega arith) (omega arith)) end)
    go (b ∷ t) bytes (several q) = in_grammar b t bytes.0 q
    go [] bytes h = elim h [ ]

pub each_left : (P : ℕ → Type 0) (a t : List ℕ) → Every P (a ++ t) → Every P a
each_left P [] t h = tt
each_left P (b ∷ a) t h = (h.0, each_left P a t h.1)

pub each_right : (P : ℕ → Type 0) (a t : List ℕ) → Every P (a ++ t) → Every P t
each_right P [] t h = h
each_right P (b ∷ a) t h = each_right P a t h.1

-- pieces of one kind that are pieces of another
recast : {C D : List ℕ → Type 0} {s : List ℕ} {n : ℕ} → ((a : List ℕ) → Every Byte a → C a → D a) → Every Byte s → Star C s n → Star D s n
recast f bytes nil = nil
recast f bytes (more {a = a} {t = t} c r) = more (f a (each_left Byte a t bytes) c) (recast f (each_right Byte a t bytes) r)

-- The rule and the grammar have the same texts, with the same number of characters.
pub same_text_lem : (s : List ℕ) (n : ℕ) → Every Byte s → rule.Text s n ↔ utf8.Text s n
same_text_lem s n bytes =
    (λ r. recast (λ a h. (same_character a h).0) bytes r, λ r. recast (λ a h. (same_character a h).1) bytes r)
