-- What the file's characters are where a line has bytes: two digits for each byte, in order, and LF after them.
use mathlib.Core.Bool.{Bool, true, false}
use mathlib.Core.List.{List, [], ◌∷◌}
use mathlib.Core.Path.{◌≡◌, refl, sym, ap, subst, ◌∙◌}
use Prim.Native.Nat.{ℕ, zero, suc, ◌+◌, ◌*◌, ◌<◌, ◌≤◌}
use native.Mathlib.Nat.{add-zero, not-suc-le-zero, le_of_suc-le-suc}
use native.Mathlib.Omega.{arith}
use lib.Dec.{eqb, ltb, leb}
use lib.ListN.{length, get_or, drop}
use lib.Seq.{ext_get_or}
use borrow.Author.Tests.{eqb-true, eqb-false, lt-ltb, le-ltb, le-leb, lt-leb, leb-true, ltb-true, ltb-false}
use Rattle.format.specs.Lines.{Line, closed, unclosed, LF, lines, digit, decoded, max_bytes, at_most, some_bytes, bytes_of}
use Rattle.sigla_hex.specs.Digits.{digit_w, digits_w, pair_at, first_line, line_at}
use Rattle.sigla_hex.proofs.Line.{digit_below, digit_same, digit_other, pair_below, head_line, decoded_line, decoded_at, prefixed, pair_digits}
use Rattle.sigla_hex.proofs.Line.{lines_at_LF, lines_at_end, decoded_on, decoded_none}
use Rattle.std.specs.Prelude.{None, Option, Some, unwrap_or}

-- ---- One place

-- What stands where a line holds something from i on.
pub data From (f : List ℕ) (i : ℕ) : List ℕ → Type 0 where
  ends : i < length f → get_or f i 0 ≡ LF → From f i []
  more : {b : ℕ} {s : List ℕ} → pair_at f i ≡ Some b → decoded_at f (i + 2) ≡ Some s → From f i (b ∷ s)

module _ (f : List ℕ) (i : ℕ) (s : List ℕ) (e : decoded_at f i ≡ Some s) where
  at_LF : i < length f → get_or f i 0 ≡ LF → From f i s
  unfolding decoded
  at_LF h q =
      let z : [] ≡ s = cc (ap (λ ls. decoded_line (head_line ls)) (lines_at_LF f i h q)) in
      subst (From f i) z (ends h q)

  at_pair : (b : ℕ) → pair_at f i ≡ Some b → (o : Option (List ℕ)) → decoded_at f (i + 2) ≡ o → From f i s
  at_pair b q None r = cc (decoded_on f i q, ap (prefixed (b ∷ [])) r)
  at_pair b q (Some t) r =
      let z : b ∷ t ≡ s = cc (decoded_on f i q ∙ ap (prefixed (b ∷ [])) r) in
      subst (From f i) z (more q r)

  at_other : i < length f → (get_or f i 0 ≡ LF → ⊥) → (o : Option ℕ) → pair_at f i ≡ o → From f i s
  at_other h n None q = cc (decoded_none f i h n q)
  at_other h n (Some b) q = at_pair b q (decoded_at f (i + 2)) refl

  pub from : From f i s
  from = within (ltb i (length f)) refl
    where
      here : (t : Bool) → eqb (get_or f i 0) LF ≡ t → i < length f → From f i s
      here true q h = at_LF h (eqb-true (get_or f i 0) LF q)
      here false q h = at_other h (eqb-false (get_or f i 0) LF q) (pair_at f i) refl

      within : (t : Bool) → ltb i (length f) ≡ t → From f i s
      within true q = here (eqb (get_or f i 0) LF) refl (ltb-true i (length f) q)
      within false q = cc (ap (λ ls. decoded_line (head_line ls)) (lines_at_end f i (ltb-false i (length f) q)))

-- ---- The whole line

-- The k-th byte is that of the two digits at at + 2 * k, LF follows the last, and none stands before it.
pub record Spells (f : List ℕ) (at : ℕ) (s : List ℕ) : Type 0 where
  pub pairs : (k : ℕ) → k < length s → pair_at f (at + 2 * k) ≡ Some (get_or s k 0)
  pub inner : (k : ℕ) → k < 2 * length s → get_or f (at + k) 0 ≡ LF → ⊥
  pub within : at + 2 * length s < length f
  pub close : get_or f (at + 2 * length s) 0 ≡ LF

spells_none : (f : List ℕ) (at : ℕ) → From f at [] → Spells f at []
spells_none f at (ends h q) =
    let z : at + 2 * 0 ≡ at = omega arith in
    record { pairs = λ k l. absurd (not-suc-le-zero l); inner = λ k l. absurd (omega arith); within = rw z h; close = rw z q }

spells_more : (f : List ℕ) (at b : ℕ) (s : List ℕ) → pair_at f at ≡ Some b → Spells f (at + 2) s → Spells f at (b ∷ s)
spells_more f at b s q r =
    let z : at + 2 * suc (length s) ≡ at + 2 + 2 * length s = omega arith in
    record { pairs = pairs; inner = inner; within = rw z r.within; close = rw z r.close }
  where
    pairs : (k : ℕ) → k < suc (length s) → pair_at f (at + 2 * k) ≡ Some (get_or (b ∷ s) k 0)
    pairs zero l = let z : at + 2 * 0 ≡ at = omega arith in rw z q
    pairs (suc k) l = let z : at + 2 * suc k ≡ at + 2 + 2 * k = omega arith in rw z (r.pairs k (le_of_suc-le-suc l))

    inner : (k : ℕ) → k < 2 * suc (length s) → get_or f (at + k) 0 ≡ LF → ⊥
    inner zero l e = let z : at + 0 ≡ at = omega arith in let d = pair_digits f at b q in digit_other (get_or f at 0) d.h d.high (rw z at e)
    inner (suc zero) l e = let d = pair_digits f at b q in digit_other (get_or f (at + 1) 0) d.l d.low e
    inner (suc (suc k)) l e = let z : at + suc (suc k) ≡ at + 2 + k = omega arith in r.inner k (omega arith) (rw z at e)

pub spells : (f : List ℕ) (at : ℕ) (s : List ℕ) → decoded_at f at ≡ Some s → Spells f at s
spells f at [] e = spells_none f at (from f at [] e)
spells f at (b ∷ s) e = go (from f at (b ∷ s) e) (λ r. spells f (at + 2) s r)
  where
    go : From f at (b ∷ s) → (decoded_at f (at + 2) ≡ Some s → Spells f (at + 2) s) → Spells f at (b ∷ s)
    go (more q r) on = spells_more f at b s q (on r)

-- ---- Condition 3

pub bytes_of_lem : (l : Line) → bytes_of l ≡ some_bytes (decoded_line l)
unfolding bytes_of some_bytes
bytes_of_lem (closed s) = refl
bytes_of_lem (unclosed s) = refl

pub line_at_lem : (f : List ℕ) (at : ℕ) → line_at f at ≡ some_bytes (decoded_at f at)
unfolding line_at first_line some_bytes
line_at_lem f at = go (lines (drop at f))
  where
    go : (ls : List Line) → first_line ls ≡ some_bytes (decoded_line (head_line ls))
    go [] = refl
    go (l ∷ ls) = bytes_of_lem l

pub record Takes (o : Option (List ℕ)) (s : List ℕ) : Type 0 where
  pub is : o ≡ Some s
  pub some : 0 < length s
  pub most : length s ≤ 512

pub takes : (o : Option (List ℕ)) (s : List ℕ) → some_bytes o ≡ Some s → Takes o s
unfolding some_bytes at_most max_bytes
takes None s e = cc
takes (Some []) s e = cc
takes (Some (b ∷ t)) s e = go (leb (length (b ∷ t)) 512) refl e
  where
    go : (u : Bool) → leb (length (b ∷ t)) 512 ≡ u → ◌≡◌ {A = Option (List ℕ)} (elim u [ true ↦ Some (b ∷ t) | false ↦ None ]) (Some s) → Takes (Some (b ∷ t)) s
    go false u q = cc
    go true u q =
        let z : b ∷ t ≡ s = cc in
        let l = ap length z in
        record { is = q; some = omega (arith, l); most = omega (arith, l, leb-true (length (b ∷ t)) 512 u) }

pub bytes_enough : (s : List ℕ) → 0 < length s → length s ≤ 512 → some_bytes (Some s) ≡ Some s
unfolding some_bytes at_most max_bytes
bytes_enough [] h l = absurd (not-suc-le-zero h)
bytes_enough (b ∷ s) h l = ap (λ t. elim t [ true ↦ Some (b ∷ s) | false ↦ None ]) (le-leb (length (b ∷ s)) 512 l)

pub bytes_too_many : (s : List ℕ) → 512 < length s → some_bytes (Some s) ≡ None
unfolding some_bytes at_most max_bytes
bytes_too_many [] h = absurd (not-suc-le-zero h)
bytes_too_many (b ∷ s) h = ap (λ t. elim t [ true ↦ Some (b ∷ s) | false ↦ None ]) (lt-leb (length (b ∷ s)) 512 h)

-- ---- The same for a line that condition 3 leaves

digit_is : (c n : ℕ) → digit c ≡ Some n → digit_w c ≡ n
unfolding digit_w
digit_is c n e = ap (λ o. unwrap_or o 16) e

pub digits_there : (f : List ℕ) (i : ℕ) → i + 1 < length f → digits_w f i ≡ digit_w (get_or f i 0) * 16 + digit_w (get_or f (i + 1) 0)
unfolding digits_w
digits_there f i h = rw (lt-ltb (i + 1) (length f) h, digits_w)

pub digits_past : (f : List ℕ) (i : ℕ) → length f ≤ i + 1 → digits_w f i ≡ 0
unfolding digits_w
digits_past f i h = rw (le-ltb (i + 1) (length f) h, digits_w)

pub pair_digits_w : (f : List ℕ) (i b : ℕ) → pair_at f i ≡ Some b → digits_w f i ≡ b
pair_digits_w f i b e =
    let d = pair_digits f i b e in
    omega (arith, digits_there f i d.room, digit_is (get_or f i 0) d.h d.high, digit_is (get_or f (i + 1) 0) d.l d.low, d.is)

module _ (f : List ℕ) (at : ℕ) (s : List ℕ) (e : line_at f at ≡ Some s) where
  pub line_takes : Takes (decoded_at f at) s
  line_takes = takes (decoded_at f at) s (sym (line_at_lem f at) ∙ e)

  pub line_spells : Spells f at s
  line_spells = spells f at s line_takes.is

  pub digits_of_line : (k : ℕ) → k < length s → digits_w f (at + 2 * k) ≡ get_or s k 0
  digits_of_line k h = pair_digits_w f (at + 2 * k) (get_or s k 0) (line_spells.pairs k h)

  pub byte_of_line : (k : ℕ) → k < length s → get_or s k 0 < 256
  byte_of_line k h = pair_below f (at + 2 * k) (get_or s k 0) (line_spells.pairs k h)

-- ---- Two lines

pub same_pair : (f : List ℕ) (a b c : ℕ) → pair_at f a ≡ Some c → pair_at f b ≡ Some c → (get_or f a 0 ≡ get_or f b 0)
    × (get_or f (a + 1) 0 ≡ get_or f (b + 1) 0)
same_pair f a b c p q =
    let x = pair_digits f a c p in
    let y = pair_digits f b c q in
    let lx = digit_below (get_or f (a + 1) 0) x.l x.low in
    let ly = digit_below (get_or f (b + 1) 0) y.l y.low in
    let h : y.h ≡ x.h = omega (arith, x.is, y.is, lx, ly) in
    let l : y.l ≡ x.l = omega (arith, x.is, y.is, lx, ly) in (
      digit_same (get_or f a 0) (get_or f b 0) x.h x.high (y.high ∙ ap Some h),
      digit_same (get_or f (a + 1) 0) (get_or f (b + 1) 0) x.l x.low (y.low ∙ ap Some l),
    )

-- The same bytes have the same digits, up to LF.
pub same_digits : (f s : List ℕ) (a b : ℕ) → decoded_at f a ≡ Some s → decoded_at f b ≡ Some s → (k : ℕ) → k ≤ 2 * length s
    → get_or f (a + k) 0 ≡ get_or f (b + k) 0
same_digits f [] a b p q k h =
    let z : k ≡ 2 * 0 = omega arith in
    rw z ((spells f a [] p).close ∙ sym (spells f b [] q).close)
same_digits f (c ∷ s) a b p q k h = go (from f a (c ∷ s) p) (from f b (c ∷ s) q) (λ m n j l. same_digits f s (a + 2) (b + 2) m n j l) k h
  where
    go : From f a (c ∷ s) → From f b (c ∷ s) →
        (decoded_at f (a + 2) ≡ Some s → decoded_at f (b + 2) ≡ Some s → (k : ℕ) → k ≤ 2 * length s → get_or f (a + 2 + k) 0 ≡ get_or f (b + 2 + k) 0)
        → (k : ℕ) → k ≤ 2 * suc (length s) → get_or f (a + k) 0 ≡ get_or f (b + k) 0
    go (more m x) (more n y) on zero h = rw (add-zero a, add-zero b) (same_pair f a b c m n).0
    go (more m x) (more n y) on (suc zero) h = (same_pair f a b c m n).1
    go (more m x) (more n y) on (suc (suc k)) h =
        let u : a + suc (suc k) ≡ a + 2 + k = omega arith in
        let v : b + suc (suc k) ≡ b + 2 + k = omega arith in
        rw (u, v) (on x y k (omega arith))

-- Two bytes with the same digits are the same.
same_byte : (f : List ℕ) (a b x y : ℕ) → pair_at f a ≡ Some x → pair_at f b ≡ Some y → get_or f a 0 ≡ get_or f b 0 → get_or f (a + 1) 0 ≡ get_or f (b + 1) 0
    → x ≡ y
same_byte f a b x y p q u v =
    let c = pair_digits f a x p in
    let d = pair_digits f b y q in
    let h : c.h ≡ d.h = cc (ap digit u) in
    let l : c.l ≡ d.l = cc (ap digit v) in
    omega (arith, c.is, d.is)

-- Lines whose digits are the same up to LF have the same bytes.
module _ (f : List ℕ) (a b n : ℕ) (s t : List ℕ) (p : Spells f a s) (q : Spells f b t) (same : (k : ℕ) → k ≤ n → get_or f (a + k) 0 ≡ get_or f (b + k) 0)
    (close : get_or f (a + n) 0 ≡ LF) where
  first_LF : (c m : ℕ) (u : List ℕ) → Spells f c u → get_or f (c + m) 0 ≡ LF → 2 * length u ≤ m
  first_LF c m u r e = go (ltb m (2 * length u)) refl
    where
      go : (t : Bool) → ltb m (2 * length u) ≡ t → 2 * length u ≤ m
      go true h = absurd (r.inner m (ltb-true m (2 * length u) h) e)
      go false h = ltb-false m (2 * length u) h

  ends_first : 2 * length s ≤ n
  ends_first = first_LF a n s p close

  same_length : length s ≡ length t
  same_length =
      let t≤s = first_LF b (2 * length s) t q (sym (same (2 * length s) ends_first) ∙ p.close) in
      let s≤t = first_LF a (2 * length t) s p (same (2 * length t) (omega (arith, t≤s, ends_first)) ∙ q.close) in
      omega (arith, t≤s, s≤t)

  pub same_bytes : s ≡ t
  same_bytes = ext_get_or 0 s t same_length byte
    where
      byte : (k : ℕ) → k < length s → get_or s k 0 ≡ get_or t k 0
      byte k h =
          let u : a + 2 * k + 1 ≡ a + (2 * k + 1) = omega arith in
          let v : b + 2 * k + 1 ≡ b + (2 * k + 1) = omega arith in
          same_byte
          f
          (a + 2 * k)
          (b + 2 * k)
          (get_or s k 0)
          (get_or t k 0)
          (p.pairs k h)
          (q.pairs k (omega (arith, same_length)))
          (same (2 * k) (omega (arith, ends_first)))
          (rw (u, v) (same (2 * k + 1) (omega (arith, ends_first))))
