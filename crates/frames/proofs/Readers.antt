-- The readers of frames by places of the bytes: a reader of one size gives what stands at its place and goes on behind
-- it, and a list of such items is read exactly where their size divides what is left.
use mathlib.Core.Bool.{Bool, true, false}
use mathlib.Core.List.{List, [], ◌∷◌}
use mathlib.Core.Path.{◌≡◌, refl, sym, ap, ◌∙◌}
use Prim.Native.Nat.{ℕ, zero, suc, ◌+◌, ◌-◌, ◌*◌, ◌%◌, ◌<◌, ◌≤◌}
use native.Mathlib.Nat.{zero-mul, suc-mul, mul-mod_left, mod-eq_of_lt, mod-eq-sub-mod, not-suc-le-zero}
use native.Mathlib.Omega.{arith}
use lib.Dec.{eqb, ltb}
use lib.ListN.{length, drop, length-drop, drop_of_length-le}
use borrow.Author.Tests.{eq-eqb, ne_eqb, ltb-true, ltb-false}
use Rattle.sigla_hex.proofs.Line.{from_here}
use Rattle.format.specs.Syntax.{Field}
use Rattle.format.specs.Frame.{Edition, narrow, wide, Alternative, Got, got, fails, Reader, and_then, nothing, one, pair, triple, byte, two, four, many_in}
use Rattle.format.specs.Frame.{many, field, alternative, reference, whole}
use Rattle.frames.specs.Promises.{byte_w, half_w, full_w, reference_size, reference_w, wholly}
use Rattle.frames.specs.Items.{field_at, alternative_at, items_at}

-- ---- Readers of one size

-- The reader takes n bytes, whatever they are, and gives v of the place where they start.
pub record Sized {A : Type 0} (r : Reader A) (n : ℕ) (v : List ℕ → ℕ → A) : Type 0 where
  pub reads : (s : List ℕ) (i : ℕ) → i + n ≤ length s → r (drop i s) ≡ got (v s i) (drop (i + n) s)
  pub lacks : (s : List ℕ) (i : ℕ) → i ≤ length s → length s < i + n → r (drop i s) ≡ fails

pub sized_byte : Sized byte 1 byte_w
unfolding byte
sized_byte =
    record {
      reads = λ s i h. ap byte (from_here s i (omega arith));
      lacks = λ s i l h. let past : length s ≤ i = omega arith in ap byte (drop_of_length-le s past);
    }

pub sized_nothing : {A : Type 0} (a : A) → Sized (nothing a) 0 (λ s i. a)
unfolding nothing
sized_nothing a = record { reads = λ s i h. let here : i ≡ i + 0 = omega arith in ap (λ j. got a (drop j s)) here; lacks = λ s i l h. absurd (omega arith) }

-- the same reader with what it gives said otherwise
pub sized_as : {A : Type 0} {r : Reader A} {n : ℕ} {v w : List ℕ → ℕ → A} → ((s : List ℕ) (i : ℕ) → v s i ≡ w s i) → Sized r n v → Sized r n w
sized_as {n = n} same r = record { reads = λ s i h. r.reads s i h ∙ ap (λ a. got a (drop (i + n) s)) (same s i); lacks = r.lacks }

pub sized_then : {A B : Type 0} {r : Reader A} {m n : ℕ} {v : List ℕ → ℕ → A} {f : A → Reader B} {w : A → List ℕ → ℕ → B} → Sized r m v
    → ((a : A) → Sized (f a) n (w a)) → Sized (λ s. and_then (r s) f) (m + n) (λ s i. w (v s i) s (i + m))
unfolding and_then
sized_then {r = r} {m = m} {n = n} {v = v} {f = f} {w = w} p q = record { reads = reads; lacks = lacks }
  where
    reads : (s : List ℕ) (i : ℕ) → i + (m + n) ≤ length s → and_then (r (drop i s)) f ≡ got (w (v s i) s (i + m)) (drop (i + (m + n)) s)
    reads s i h =
        let z : i + m + n ≡ i + (m + n) = omega arith in
        ap (λ g. and_then g f) (p.reads s i (omega arith)) ∙ rw z at ((q (v s i)).reads s (i + m) (omega arith))

    lacks : (s : List ℕ) (i : ℕ) → i ≤ length s → length s < i + (m + n) → and_then (r (drop i s)) f ≡ fails
    lacks s i l h = go (ltb (length s) (i + m)) refl
      where
        go : (t : Bool) → ltb (length s) (i + m) ≡ t → and_then (r (drop i s)) f ≡ fails
        go true e = ap (λ g. and_then g f) (p.lacks s i l (ltb-true (length s) (i + m) e))
        go false e =
            let fits = ltb-false (length s) (i + m) e in
            ap (λ g. and_then g f) (p.reads s i fits) ∙ (q (v s i)).lacks s (i + m) fits (omega arith)

pub sized_one : {A B : Type 0} {r : Reader A} {n : ℕ} {v : List ℕ → ℕ → A} (make : A → B) → Sized r n v → Sized (one make r) n (λ s i. make (v s i))
unfolding one and_then
sized_one make p = record {
  reads = λ s i h. ap (λ g. and_then g (λ a. got (make a))) (p.reads s i h);
  lacks = λ s i l h. ap (λ g. and_then g (λ a. got (make a))) (p.lacks s i l h);
}

pub sized_pair : {A B C : Type 0} {r : Reader A} {q : Reader B} {m n : ℕ} {v : List ℕ → ℕ → A} {w : List ℕ → ℕ → B} (make : A → B → C) → Sized r m v
    → Sized q n w → Sized (pair make r q) (m + n) (λ s i. make (v s i) (w s (i + m)))
unfolding pair
sized_pair make p q = sized_then p (λ a. sized_one (make a) q)

pub sized_triple : {A B C D : Type 0} {r : Reader A} {q : Reader B} {p : Reader C} {l m n : ℕ} {u : List ℕ → ℕ → A} {v : List ℕ → ℕ → B}
    {w : List ℕ → ℕ → C} (make : A → B → C → D) → Sized r l u → Sized q m v → Sized p n w
    → Sized (triple make r q p) (l + (m + n)) (λ s i. make (u s i) (v s (i + l)) (w s (i + l + m)))
unfolding triple
sized_triple make x y z = sized_then x (λ a. sized_pair (make a) y z)

pub sized_two : Sized two 2 half_w
unfolding two half_w
sized_two = sized_pair (λ high low. high * 0x100 + low) sized_byte sized_byte

pub sized_four : Sized four 4 full_w
unfolding four full_w
sized_four = sized_pair (λ high low. high * 0x10000 + low) sized_two sized_two

pub sized_reference : (e : Edition) → Sized (reference e) (reference_size e) (reference_w e)
unfolding reference
sized_reference narrow = sized_two
sized_reference wide = sized_four

pub sized_field : Sized field 4 field_at
unfolding field
sized_field = sized_pair (λ n value. record { name = n; value = value }) sized_two sized_two

pub sized_alternative : Sized alternative 8 alternative_at
unfolding alternative
sized_alternative =
    sized_as
    (λ s i. let z : i + 2 + 4 ≡ i + 6 = omega arith in ap (λ j. record { name = half_w s i; discriminant = full_w s (i + 2); type = half_w s j }) z)
    (sized_triple (λ n discriminant type. record { name = n; discriminant = discriminant; type = type }) sized_two sized_four sized_two)

-- ---- Lists to the frame's end

-- The reader takes a byte at least where it reads at all.
abbrev pub Shrinks : {A : Type 0} → Reader A → Type 0
Shrinks {A} r = (b : ℕ) (s : List ℕ) (a : A) (t : List ℕ) → r (b ∷ s) ≡ got a t → length t ≤ length s

-- Any bound that the bytes do not pass gives the same list.
many_bound : {A : Type 0} (r : Reader A) → Shrinks r → (m n : ℕ) (s : List ℕ) → length s ≤ m → length s ≤ n → many_in m r s ≡ many_in n r s
unfolding many_in and_then one
many_bound r c zero zero s h l = refl
many_bound r c zero (suc n) [] h l = refl
many_bound r c zero (suc n) (b ∷ s) h l = absurd (not-suc-le-zero h)
many_bound r c (suc m) zero [] h l = refl
many_bound r c (suc m) zero (b ∷ s) h l = absurd (not-suc-le-zero l)
many_bound r c (suc m) (suc n) [] h l = refl
many_bound r c (suc m) (suc n) (b ∷ s) h l = go (r (b ∷ s)) refl (λ t k. many_bound r c m n t (omega arith) (omega arith))
  where
    go : (g : Got _) → r (b ∷ s) ≡ g → ((t : List ℕ) → length t ≤ length s → many_in m r t ≡ many_in n r t)
        → and_then g (λ a. one (λ more. a ∷ more) (λ t. many_in m r t)) ≡ and_then g (λ a. one (λ more. a ∷ more) (λ t. many_in n r t))
    go (got a t) e same = ap (λ g. and_then g (λ more. got (a ∷ more))) (same t (c b s a t e))
    go fails e same = refl

module _ {A : Type 0} (r : Reader A) (s : List ℕ) (i : ℕ) where
  pub many_end : length s ≤ i → many r (drop i s) ≡ got [] []
  unfolding many many_in
  many_end h = ap (many r) (drop_of_length-le s h)

  module _ (h : i < length s) where
    pub many_stop : r (drop i s) ≡ fails → many r (drop i s) ≡ fails
    unfolding many many_in and_then
    many_stop e = ap (many r) (from_here s i h) ∙ ap (λ g. and_then g (λ a. one (λ more. a ∷ more) (λ t. many_in (length (drop (i + 1) s)) r t)))
        (ap r (sym (from_here s i h)) ∙ e)

    pub many_step : Shrinks r → (a : A) (j : ℕ) → i < j → r (drop i s) ≡ got a (drop j s) → many r (drop i s) ≡ one (λ more. a ∷ more) (many r) (drop j s)
    unfolding many many_in and_then one
    many_step c a j l e =
        ap (many r) (from_here s i h)
        ∙ ap (λ g. and_then g (λ a. one (λ more. a ∷ more) (λ t. many_in (length (drop (i + 1) s)) r t))) (ap r (sym (from_here s i h)) ∙ e)
        ∙ ap (λ g. and_then g (λ more. got (a ∷ more)))
        (many_bound r c (length (drop (i + 1) s)) (length (drop j s)) (drop j s) (omega (arith, length-drop (i + 1) s, length-drop j s)) (omega arith))

-- ---- Items of one size

pub length_items : {A : Type 0} (v : ℕ → A) (n i k : ℕ) → length (items_at v n i k) ≡ k
unfolding items_at
length_items v n i zero = refl
length_items v n i (suc k) = ap suc (length_items v n (i + n) k)

-- What a list of items is read from: k of them fill the bytes, or they fit no number of them.
pub data Filled {A : Type 0} (r : Reader A) (n : ℕ) (v : List ℕ → ℕ → A) (s : List ℕ) (i : ℕ) : Type 0 where
  fills : (k : ℕ) → i + k * n ≡ length s → many r (drop i s) ≡ got (items_at (v s) n i k) [] → Filled r n v s i
  misfits : ((length s - i) % n ≡ 0 → ⊥) → many r (drop i s) ≡ fails → Filled r n v s i

-- xs are the items from i to the end of s, and t is empty
pub record Items {A : Type 0} (v : ℕ → A) (n : ℕ) (s : List ℕ) (i : ℕ) (xs : List A) (t : List ℕ) : Type 0 where
  pub fit : i + length xs * n ≡ length s
  pub are : xs ≡ items_at v n i (length xs)
  pub all : t ≡ []

module _ {A : Type 0} {r : Reader A} {m : ℕ} {v : List ℕ → ℕ → A} (p : Sized r (suc m) v) where
  sized_shrinks : Shrinks r
  sized_shrinks b s a t e = go (ltb (length (b ∷ s)) (0 + suc m)) refl
    where
      go : (u : Bool) → ltb (length (b ∷ s)) (0 + suc m) ≡ u → length t ≤ length s
      go true q = let z : ◌≡◌ {A = ℕ} 0 1 = cc (p.lacks (b ∷ s) 0 (omega arith) (ltb-true (length (b ∷ s)) (0 + suc m) q)) in absurd (omega arith)
      go false q =
          let z : t ≡ drop (0 + suc m) (b ∷ s) = cc (p.reads (b ∷ s) 0 (ltb-false (length (b ∷ s)) (0 + suc m) q)) in
          omega (arith, ap length z, length-drop (0 + suc m) (b ∷ s))

  fills_none : (s : List ℕ) (i : ℕ) → i ≡ length s → Filled r (suc m) v s i
  unfolding items_at
  fills_none s i e = fills 0 (omega (arith, zero-mul (suc m))) (many_end r s i (omega arith))

  fills_short : (s : List ℕ) (i : ℕ) → i < length s → length s < i + suc m → Filled r (suc m) v s i
  fills_short s i h l =
      let small : length s - i < suc m = omega arith in
      misfits (λ z. omega (arith, mod-eq_of_lt small)) (many_stop r s i h (p.lacks s i (omega arith) l))

  fills_more : (s : List ℕ) (i : ℕ) → i + suc m ≤ length s → Filled r (suc m) v s (i + suc m) → Filled r (suc m) v s i
  unfolding items_at one and_then
  fills_more s i h f = go f
    where
      on : many r (drop i s) ≡ one (λ more. v s i ∷ more) (many r) (drop (i + suc m) s)
      on = many_step r s i (omega arith) sized_shrinks (v s i) (i + suc m) (omega arith) (p.reads s i h)

      go : Filled r (suc m) v s (i + suc m) → Filled r (suc m) v s i
      go (fills k e q) = fills (suc k) (omega (arith, suc-mul k (suc m))) (on ∙ ap (λ g. and_then g (λ more. got (v s i ∷ more))) q)
      go (misfits n q) =
          let fits : suc m ≤ length s - i = omega arith in
          let less : length s - i - suc m ≡ length s - (i + suc m) = omega arith in
          misfits (λ z. n (ap (λ k. k % suc m) (sym less) ∙ sym (mod-eq-sub-mod fits) ∙ z)) (on ∙ ap (λ g. and_then g (λ more. got (v s i ∷ more))) q)

  filled_in : (bound : ℕ) (s : List ℕ) (i : ℕ) → i ≤ length s → length s ≤ i + bound → Filled r (suc m) v s i
  filled_in zero s i h l = fills_none s i (omega arith)
  filled_in (suc bound) s i h l = start (ltb i (length s)) refl (λ k. filled_in bound s (i + suc m) k (omega arith))
    where
      item : (u : Bool) → ltb (length s) (i + suc m) ≡ u → i < length s → (i + suc m ≤ length s → Filled r (suc m) v s (i + suc m)) → Filled r (suc m) v s i
      item true q l on = fills_short s i l (ltb-true (length s) (i + suc m) q)
      item false q l on = let room = ltb-false (length s) (i + suc m) q in fills_more s i room (on room)

      start : (u : Bool) → ltb i (length s) ≡ u → (i + suc m ≤ length s → Filled r (suc m) v s (i + suc m)) → Filled r (suc m) v s i
      start true q on = item (ltb (length s) (i + suc m)) refl (ltb-true i (length s) q) on
      start false q on = fills_none s i (omega (arith, ltb-false i (length s) q))

  pub filled : (s : List ℕ) (i : ℕ) → i ≤ length s → Filled r (suc m) v s i
  filled s i h = filled_in (length s) s i h (omega arith)

  -- whatever is read is such items
  pub items_are : (s : List ℕ) (i : ℕ) (xs : List A) (t : List ℕ) → i ≤ length s → many r (drop i s) ≡ got xs t → Items (v s) (suc m) s i xs t
  items_are s i xs t h e = go (filled s i h)
    where
      go : Filled r (suc m) v s i → Items (v s) (suc m) s i xs t
      go (fills k q is) =
          let are : xs ≡ items_at (v s) (suc m) i k = cc in
          let n : length xs ≡ k = ap length are ∙ length_items (v s) (suc m) i k in
          record { fit = ap (λ j. i + j * suc m) n ∙ q; are = are ∙ ap (items_at (v s) (suc m) i) (sym n); all = cc }
      go (misfits n is) = let z : ◌≡◌ {A = ℕ} 0 1 = cc in absurd (omega arith)

  pub items_test : (s : List ℕ) (i : ℕ) → i ≤ length s → wholly (many r (drop i s)) ≡ eqb ((length s - i) % suc m) 0
  unfolding whole
  items_test s i h = go (filled s i h)
    where
      go : Filled r (suc m) v s i → wholly (many r (drop i s)) ≡ eqb ((length s - i) % suc m) 0
      go (fills k q is) =
          let left : length s - i ≡ k * suc m = omega (arith, q) in
          ap wholly is ∙ sym (eq-eqb ((length s - i) % suc m) 0 (ap (λ n. n % suc m) left ∙ mul-mod_left k (suc m)))
      go (misfits n is) = ap wholly is ∙ sym (ne_eqb ((length s - i) % suc m) 0 n)

-- The lists of the grammar, by the place where they start.
pub fields_are : (s : List ℕ) (i : ℕ) (xs : List Field) (t : List ℕ) → i ≤ length s → many field (drop i s) ≡ got xs t → Items (field_at s) 4 s i xs t
fields_are s i xs t h e = items_are sized_field s i xs t h e

pub numbers_are : (s : List ℕ) (i : ℕ) (xs t : List ℕ) → i ≤ length s → many two (drop i s) ≡ got xs t → Items (half_w s) 2 s i xs t
numbers_are s i xs t h e = items_are sized_two s i xs t h e

pub alternatives_are : (s : List ℕ) (i : ℕ) (xs : List Alternative) (t : List ℕ) → i ≤ length s → many alternative (drop i s) ≡ got xs t
    → Items (alternative_at s) 8 s i xs t
alternatives_are s i xs t h e = items_are sized_alternative s i xs t h e
