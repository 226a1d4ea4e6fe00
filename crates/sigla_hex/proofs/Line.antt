-- A line is read two characters at a time: what stands at a place says what the line holds from there on, by what it holds two places on.
use mathlib.Core.Bool.{Bool, true, false}
use mathlib.Core.List.{List, [], ◌∷◌, ◌++◌, append_assoc}
use mathlib.Core.Path.{◌≡◌, refl, sym, ap, ◌∙◌}
use Prim.Native.Nat.{ℕ, suc, ◌+◌, ◌*◌, ◌<◌, ◌≤◌}
use native.Mathlib.Numerals.{add-one}
use native.Mathlib.Omega.{arith}
use lib.Dec.{eqb, ltb}
use lib.ListN.{length, get_or, drop, drop_of_length-le}
use lib.Seq.{drop-cons}
use borrow.Author.Tests.{eq-eqb, ne_eqb, eqb-true, eqb-false, lt-ltb, le-ltb, ltb-true, ltb-false}
use Rattle.text.specs.Utf8.{one_more}
use Rattle.format.specs.Bytes.{ascii}
use Rattle.format.specs.Lines.{Line, closed, unclosed, LF, in_front, lines, position, digits, digit, pair, decoded}
use Rattle.sigla_hex.specs.Digits.{digit_w, byte_of, pair_at}
use Rattle.std.specs.Prelude.{None, Option, Some, unwrap_or}

-- ---- Digits

one_later : (b : Bool) (o : Option ℕ) (k n : ℕ) → ((m : ℕ) → o ≡ Some m → m < k) → elim b [ true ↦ Some 0 | false ↦ one_more o ] ≡ Some n → n < suc k
one_later true o k n below e = let z : 0 ≡ n = cc in omega arith
one_later false None k n below e = cc
one_later false (Some m) k n below e = let s : suc m ≡ n = cc in omega (arith, below m refl)

pub place_below : {A : Type 0} (test : A → Bool) (l : List A) (n : ℕ) → position test l ≡ Some n → n < length l
unfolding position
place_below test [] n e = cc
place_below test (a ∷ l) n e = one_later (test a) (position test l) (length l) n (λ m q. place_below test l m q) e

pub digit_below : (c n : ℕ) → digit c ≡ Some n → n < 16
unfolding digit digits ascii
digit_below c n e = place_below (eqb c) digits n e

character : (c : ℕ) (l : List ℕ) (n : ℕ) → position (eqb c) l ≡ Some n → c ≡ get_or l n 0
unfolding position
character c [] n e = cc
character c (a ∷ l) n e = go (eqb c a) refl (position (eqb c) l) (λ m q. character c l m q) e
  where
    go : (b : Bool) → eqb c a ≡ b → (o : Option ℕ) → ((m : ℕ) → o ≡ Some m → c ≡ get_or l m 0) → elim b [ true ↦ Some 0 | false ↦ one_more o ] ≡ Some n
        → c ≡ get_or (a ∷ l) n 0
    go true t o at e = let z : n ≡ 0 = cc in rw z (eqb-true c a t)
    go false t None at e = cc
    go false t (Some m) at e = let z : n ≡ suc m = cc in rw z (at m refl)

-- A digit's value says which digit it is.
pub digit_same : (c d n : ℕ) → digit c ≡ Some n → digit d ≡ Some n → c ≡ d
unfolding digit
digit_same c d n p q = character c digits n p ∙ sym (character d digits n q)

digit_LF : digit LF ≡ None
unfolding digit digits ascii position
digit_LF = refl

pub digit_other : (c n : ℕ) → digit c ≡ Some n → c ≡ LF → ⊥
digit_other c n e q = cc (digit_LF)

-- The code's digit tells whether there is one.
pub is_digit_lem : (c : ℕ) → digit_w c < 16 → digit c ≡ Some (digit_w c)
unfolding digit_w
is_digit_lem c h = go (digit c) h
  where
    go : (o : Option ℕ) → unwrap_or o 16 < 16 → o ≡ Some (unwrap_or o 16)
    go None h = absurd (omega arith)
    go (Some n) h = refl

pub no_digit : (c : ℕ) → 16 ≤ digit_w c → digit c ≡ None
unfolding digit_w
no_digit c h = go (digit c) refl h
  where
    go : (o : Option ℕ) → digit c ≡ o → 16 ≤ unwrap_or o 16 → o ≡ None
    go None e h = refl
    go (Some n) e h = absurd (omega (arith, digit_below c n e))

pub pair_within : (f : List ℕ) (i : ℕ) → i + 1 < length f → pair_at f i ≡ byte_of (digit (get_or f i 0)) (digit (get_or f (i + 1) 0))
unfolding pair_at
pair_within f i h = ap (λ t. elim t [ true ↦ byte_of (digit (get_or f i 0)) (digit (get_or f (i + 1) 0)) | false ↦ None ]) (lt-ltb (i + 1) (length f) h)

pub pair_past : (f : List ℕ) (i : ℕ) → length f ≤ i + 1 → pair_at f i ≡ None
unfolding pair_at
pair_past f i h = ap (λ t. elim t [ true ↦ byte_of (digit (get_or f i 0)) (digit (get_or f (i + 1) 0)) | false ↦ None ]) (le-ltb (i + 1) (length f) h)

pub pair_below : (f : List ℕ) (i n : ℕ) → pair_at f i ≡ Some n → n < 256
unfolding pair_at byte_of
pair_below f i n e =
    go (ltb (i + 1) (length f)) (digit (get_or f i 0)) (digit (get_or f (i + 1) 0)) (digit_below (get_or f i 0)) (digit_below (get_or f (i + 1) 0)) e
  where
    go : (b : Bool) (o p : Option ℕ) → ((m : ℕ) → o ≡ Some m → m < 16) → ((m : ℕ) → p ≡ Some m → m < 16)
        → elim b [ true ↦ byte_of o p | false ↦ None ] ≡ Some n → n < 256
    go false o p h l e = cc
    go true None p h l e = cc
    go true (Some x) None h l e = cc
    go true (Some x) (Some y) h l e = let q : x * 16 + y ≡ n = cc in omega (arith, h x refl, l y refl)

-- ---- The line at a place

abbrev pub head_line : List Line → Line
head_line [] = unclosed []
head_line (l ∷ ls) = l

abbrev pub others : List Line → List Line
others [] = []
others (l ∷ ls) = ls

abbrev pub longer : ℕ → Line → Line
longer b (closed s) = closed (b ∷ s)
longer b (unclosed s) = unclosed (b ∷ s)

-- what the digits of a line say, however many they are
abbrev pub decoded_line : Line → Option (List ℕ)
decoded_line (closed s) = decoded s
decoded_line (unclosed s) = None

in_front_lem : (b : ℕ) (ls : List Line) → in_front b ls ≡ longer b (head_line ls) ∷ others ls
unfolding in_front
in_front_lem b [] = refl
in_front_lem b (closed s ∷ ls) = refl
in_front_lem b (unclosed s ∷ ls) = refl

lines_LF : (b : ℕ) (s : List ℕ) → b ≡ LF → lines (b ∷ s) ≡ closed [] ∷ lines s
unfolding lines
lines_LF b s e = rw (eq-eqb b LF e, lines)

lines_other : (b : ℕ) (s : List ℕ) → (b ≡ LF → ⊥) → lines (b ∷ s) ≡ longer b (head_line (lines s)) ∷ others (lines s)
unfolding lines
lines_other b s n = rw (ne_eqb b LF n, lines) (in_front_lem b (lines s))

-- bytes in front of those that follow, if those are any
abbrev pub prefixed : List ℕ → Option (List ℕ) → Option (List ℕ)
prefixed s None = None
prefixed s (Some t) = Some (s ++ t)

pub prefixed_nil : (o : Option (List ℕ)) → prefixed [] o ≡ o
prefixed_nil None = refl
prefixed_nil (Some t) = refl

pub prefixed_twice : (r s : List ℕ) (o : Option (List ℕ)) → prefixed r (prefixed s o) ≡ prefixed (r ++ s) o
prefixed_twice r s None = refl
prefixed_twice r s (Some t) = ap Some (sym (append_assoc r s t))

two_digits : (h l : ℕ) (o : Option (List ℕ)) → pair (Some h) (Some l) o ≡ prefixed ((h * 16 + l) ∷ []) o
unfolding pair
two_digits h l None = refl
two_digits h l (Some t) = refl

no_digits : (o p : Option ℕ) (q : Option (List ℕ)) → byte_of o p ≡ None → pair o p q ≡ None
unfolding pair byte_of
no_digits None p q e = refl
no_digits (Some h) None q e = refl
no_digits (Some h) (Some l) q e = cc

longer_two : (x y h l : ℕ) (ln : Line) → digit x ≡ Some h → digit y ≡ Some l
    → decoded_line (longer x (longer y ln)) ≡ prefixed ((h * 16 + l) ∷ []) (decoded_line ln)
unfolding decoded
longer_two x y h l (closed s) e q = rw (e, q) (two_digits h l (decoded s))
longer_two x y h l (unclosed s) e q = refl

longer_none : (x y : ℕ) (ln : Line) → byte_of (digit x) (digit y) ≡ None → decoded_line (longer x (longer y ln)) ≡ None
unfolding decoded
longer_none x y (closed s) e = no_digits (digit x) (digit y) (decoded s) e
longer_none x y (unclosed s) e = refl

-- ---- At a place of the file

abbrev pub decoded_at : List ℕ → ℕ → Option (List ℕ)
decoded_at f i = decoded_line (head_line (lines (drop i f)))

abbrev pub others_at : List ℕ → ℕ → List Line
others_at f i = others (lines (drop i f))

-- the digits of the byte b
pub record DigitsAt (f : List ℕ) (i b : ℕ) : Type 0 where
  pub room : i + 1 < length f
  pub h : ℕ
  pub l : ℕ
  pub high : digit (get_or f i 0) ≡ Some h
  pub low : digit (get_or f (i + 1) 0) ≡ Some l
  pub is : h * 16 + l ≡ b

pub pair_digits : (f : List ℕ) (i b : ℕ) → pair_at f i ≡ Some b → DigitsAt f i b
unfolding pair_at byte_of
pair_digits f i b e = go (ltb (i + 1) (length f)) refl (digit (get_or f i 0)) refl (digit (get_or f (i + 1) 0)) refl e
  where
    go : (t : Bool) → ltb (i + 1) (length f) ≡ t → (o : Option ℕ) → digit (get_or f i 0) ≡ o → (p : Option ℕ) → digit (get_or f (i + 1) 0) ≡ p
        → elim t [ true ↦ byte_of o p | false ↦ None ] ≡ Some b → DigitsAt f i b
    go false t o h p l e = cc
    go true t None h p l e = cc
    go true t (Some x) h None l e = cc
    go true t (Some x) h (Some y) l e = record { room = ltb-true (i + 1) (length f) t; h = x; l = y; high = h; low = l; is = cc }

module _ (f : List ℕ) (i : ℕ) where
  pub from_here : i < length f → drop i f ≡ get_or f i 0 ∷ drop (i + 1) f
  from_here h = rw add-one (drop-cons f i 0 h)

  pub lines_at_LF : i < length f → get_or f i 0 ≡ LF → lines (drop i f) ≡ closed [] ∷ lines (drop (i + 1) f)
  lines_at_LF h e = ap lines (from_here h) ∙ lines_LF (get_or f i 0) (drop (i + 1) f) e

  pub lines_at_other : i < length f → (get_or f i 0 ≡ LF → ⊥) → lines (drop i f) ≡ longer (get_or f i 0) (head_line (lines (drop (i + 1) f))) ∷
      others_at f (i + 1)
  lines_at_other h n = ap lines (from_here h) ∙ lines_other (get_or f i 0) (drop (i + 1) f) n

  pub lines_at_end : length f ≤ i → lines (drop i f) ≡ []
  unfolding lines
  lines_at_end h = rw (drop_of_length-le f h)

  pub lines_split : i < length f → lines (drop i f) ≡ head_line (lines (drop i f)) ∷ others_at f i
  lines_split h = go (eqb (get_or f i 0) LF) refl
    where
      same : (l : Line) (ls all : List Line) → all ≡ l ∷ ls → all ≡ head_line all ∷ others all
      same l ls all e = rw e refl

      go : (t : Bool) → eqb (get_or f i 0) LF ≡ t → lines (drop i f) ≡ head_line (lines (drop i f)) ∷ others_at f i
      go true e = same _ _ _ (lines_at_LF h (eqb-true (get_or f i 0) LF e))
      go false e = same _ _ _ (lines_at_other h (eqb-false (get_or f i 0) LF e))

module _ (f : List ℕ) (i : ℕ) where
  two_on : i + 1 + 1 ≡ i + 2
  two_on = omega arith

  -- two characters, neither LF
  lines_at_two : i + 1 < length f → (get_or f i 0 ≡ LF → ⊥) → (get_or f (i + 1) 0 ≡ LF → ⊥)
      → lines (drop i f) ≡ longer (get_or f i 0) (longer (get_or f (i + 1) 0) (head_line (lines (drop (i + 2) f)))) ∷ others_at f (i + 2)
  lines_at_two h x y =
      let first = lines_at_other f i (omega arith) x in
      let second = rw two_on at (lines_at_other f (i + 1) h y) in
      rw second at first

  module _ {b : ℕ} (e : pair_at f i ≡ Some b) where
    lines_at_pair : lines (drop i f) ≡ longer (get_or f i 0) (longer (get_or f (i + 1) 0) (head_line (lines (drop (i + 2) f)))) ∷ others_at f (i + 2)
    lines_at_pair =
        let d = pair_digits f i b e in
        lines_at_two d.room (digit_other (get_or f i 0) d.h d.high) (digit_other (get_or f (i + 1) 0) d.l d.low)

    pub decoded_on : decoded_at f i ≡ prefixed (b ∷ []) (decoded_at f (i + 2))
    decoded_on =
        let d = pair_digits f i b e in
        ap (λ ls. decoded_line (head_line ls)) lines_at_pair
        ∙ longer_two (get_or f i 0) (get_or f (i + 1) 0) d.h d.l (head_line (lines (drop (i + 2) f))) d.high d.low
        ∙ ap (λ n. prefixed (n ∷ []) (decoded_at f (i + 2))) d.is

    pub others_on : others_at f i ≡ others_at f (i + 2)
    others_on = ap others lines_at_pair

  pub decoded_none : i < length f → (get_or f i 0 ≡ LF → ⊥) → pair_at f i ≡ None → decoded_at f i ≡ None
  unfolding pair_at decoded
  decoded_none h n e = go (ltb (i + 1) (length f)) refl e
    where
      odd : lines (drop (i + 1) f) ≡ closed [] ∷ lines (drop (i + 1 + 1) f) → decoded_at f i ≡ None
      odd q = ap (λ ls. decoded_line (head_line ls)) (rw q at (lines_at_other f i h n))

      close : (t : Bool) → eqb (get_or f (i + 1) 0) LF ≡ t → i + 1 < length f → byte_of (digit (get_or f i 0)) (digit (get_or f (i + 1) 0)) ≡ None
          → decoded_at f i ≡ None
      close true q l none_here = odd (lines_at_LF f (i + 1) l (eqb-true (get_or f (i + 1) 0) LF q))
      close false q l none_here = ap (λ ls. decoded_line (head_line ls)) (lines_at_two l n (eqb-false (get_or f (i + 1) 0) LF q)) ∙ longer_none
          (get_or f i 0) (get_or f (i + 1) 0) (head_line (lines (drop (i + 2) f))) none_here

      go : (t : Bool) → ltb (i + 1) (length f) ≡ t → ◌≡◌ {A = Option ℕ}
          (elim t [ true ↦ byte_of (digit (get_or f i 0)) (digit (get_or f (i + 1) 0)) | false ↦ None ]) None → decoded_at f i ≡ None
      go true q e = close (eqb (get_or f (i + 1) 0) LF) refl (ltb-true (i + 1) (length f) q) e
      go false q e = ap (λ ls. decoded_line (head_line ls)) (rw (lines_at_end f (i + 1) (ltb-false (i + 1) (length f) q)) at (lines_at_other f i h n))
