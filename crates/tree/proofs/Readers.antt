-- What a reader of the frame grammar gives is what the file's digits say where its bytes stand: for each reader, how
-- many digits it takes and its value as a function of the place.
use mathlib.Core.List.{List, [], ◌∷◌}
use mathlib.Core.Path.{◌≡◌, ◌∙◌, ap}
use Prim.Native.Nat.{ℕ, zero, suc, ◌+◌, ◌*◌, ◌<◌}
use native.Mathlib.Nat.{zero-lt-suc}
use native.Mathlib.Omega.{arith}
use lib.ListN.{length, get_or}
use Rattle.format.specs.Frame.{got, fails, Reader, nothing, one, pair, byte, two, many_in, many}
use Rattle.format.proofs.Inverse.{Went, went}
use Rattle.sigla_hex.specs.Digits.{digits_w, half_at}

-- ---- Bytes that stand at a place

abbrev pub Stand : List ℕ → ℕ → List ℕ → Type 0
Stand f at [] = Unit {0}
Stand f at (b ∷ s) = (digits_w f at ≡ b) × Stand f (at + 2) s

pub stand : (f : List ℕ) (at : ℕ) (s : List ℕ) → ((k : ℕ) → k < length s → digits_w f (at + 2 * k) ≡ get_or s k 0) → Stand f at s
stand f at [] h = tt
stand f at (b ∷ s) h =
    let z : at + 2 * 0 ≡ at = omega arith in (
      rw z at (h 0 (zero-lt-suc (length s))),
      stand f (at + 2) s
          (λ k l. let z : at + 2 * suc k ≡ at + 2 + 2 * k = omega arith in rw z at (h (suc k) (omega arith))),
    )

-- ---- Readers

-- A reader gave a value of the bytes s at a place, and left t.
pub record Ran {A : Type 0} (f : List ℕ) (size : ℕ → ℕ) (val : ℕ → A) (at : ℕ) (s : List ℕ) (a : A) (t : List ℕ) : Type 0 where
  pub value : val at ≡ a
  pub rest : Stand f (at + size at) t
  pub long : 2 * length s ≡ size at + 2 * length t

pub record Reads {A : Type 0} (f : List ℕ) (r : Reader A) (size : ℕ → ℕ) (val : ℕ → A) : Type 0 where
  pub run : (at : ℕ) (s : List ℕ) (a : A) (t : List ℕ) → Stand f at s → r s ≡ got a t → Ran f size val at s a t

pub no_got : {A B : Type 0} {a : A} {s : List ℕ} → fails ≡ got a s → B
no_got e = let z : ◌≡◌ {A = ℕ} 0 1 = cc in absurd (omega arith)

module _ (f : List ℕ) where
  pub reads_nothing : {A : Type 0} (a : A) → Reads f (nothing a) (λ _. 0) (λ _. a)
  unfolding nothing
  reads_nothing {A} a = record { run = run }
    where
      run : (at : ℕ) (s : List ℕ) (b : A) (t : List ℕ) → Stand f at s → nothing a s ≡ got b t → Ran f (λ _. 0) (λ _. a) at s b t
      run at s b t st e =
          let p : s ≡ t = cc in
          let z : at + 0 ≡ at = omega arith in
          record { value = cc; rest = rw (z, ← p) st; long = rw (← p) (omega arith) }

  pub reads_byte : Reads f byte (λ _. 2) (digits_w f)
  unfolding byte
  reads_byte = record { run = run }
    where
      run : (at : ℕ) (s : List ℕ) (b : ℕ) (t : List ℕ) → Stand f at s → byte s ≡ got b t → Ran f (λ _. 2) (digits_w f) at s b t
      run at [] b t st e = no_got e
      run at (x ∷ s) b t st e =
          let p : s ≡ t = cc in
          let q : x ≡ b = cc in
          record { value = st.0 ∙ q; rest = rw (← p) st.1; long = rw (← p) (omega arith) }

  module _ {A B : Type 0} (make : A → B) {r : Reader A} {m : ℕ → ℕ} {v : ℕ → A} (R : Reads f r m v) where
    pub reads_one : Reads f (one make r) m (λ at. make (v at))
    unfolding one
    reads_one = record { run = run }
      where
        run : (at : ℕ) (s : List ℕ) (b : B) (t : List ℕ) → Stand f at s → one make r s ≡ got b t → Ran f m (λ at. make (v at)) at s b t
        run at s b t st e =
            let w = went (r s) (λ a. got (make a)) b t e in
            let ran = R.run at s w.value w.after st w.first in
            let p : w.after ≡ t = cc w.then in
            let q : make w.value ≡ b = cc w.then in
            record { value = ap make ran.value ∙ q; rest = rw p at ran.rest; long = rw p at ran.long }

  module _ {A B C : Type 0} (make : A → B → C) {r : Reader A} {m : ℕ → ℕ} {v : ℕ → A} {q : Reader B} {n : ℕ → ℕ} {u : ℕ → B} (R : Reads f r m v)
      (Q : Reads f q n u) where
    pub reads_pair : Reads f (pair make r q) (λ at. m at + n (at + m at)) (λ at. make (v at) (u (at + m at)))
    unfolding pair
    reads_pair = record { run = run }
      where
        run : (at : ℕ) (s : List ℕ) (c : C) (t : List ℕ) → Stand f at s → pair make r q s ≡ got c t
            → Ran f (λ at. m at + n (at + m at)) (λ at. make (v at) (u (at + m at))) at s c t
        run at s c t st e =
            let w = went (r s) (λ a. one (make a) q) c t e in
            let ran = R.run at s w.value w.after st w.first in
            let on = (reads_one (make w.value) Q).run (at + m at) w.after c t ran.rest w.then in
            let z : at + m at + n (at + m at) ≡ at + (m at + n (at + m at)) = omega arith in
            record { value = ap (λ a. make a (u (at + m at))) ran.value ∙ on.value; rest = rw z at on.rest; long = omega (arith, ran.long, on.long) }

  pub reads_two : Reads f two (λ _. 4) (half_at f)
  unfolding two half_at
  reads_two = reads_pair (λ high low. high * 0x100 + low) reads_byte reads_byte

-- ---- Lists

-- The elements of a list, each at the place where the one before it ends.
abbrev pub Listed : {A : Type 0} → (ℕ → ℕ) → (ℕ → A) → ℕ → ℕ → List A → Type 0
Listed size val at end [] = at ≡ end
Listed size val at end (a ∷ l) = (val at ≡ a) × (at < end) × Listed size val (at + size at) end l

module _ (f : List ℕ) {A : Type 0} {r : Reader A} {m : ℕ → ℕ} {v : ℕ → A} (R : Reads f r m v) where
  listed_in : (n at : ℕ) (s : List ℕ) (l : List A) (t : List ℕ) → Stand f at s → many_in n r s ≡ got l t → Listed m v at (at + 2 * length s) l
  unfolding many_in one
  listed_in zero at [] l t st e = let p : [] ≡ l = cc in rw (← p) (omega arith)
  listed_in zero at (b ∷ s) l t st e = no_got e
  listed_in (suc n) at [] l t st e = let p : [] ≡ l = cc in rw (← p) (omega arith)
  listed_in (suc n) at (b ∷ s) l t st e =
      let w = went (r (b ∷ s)) (λ a. one (λ more. a ∷ more) (λ t. many_in n r t)) l t e in
      let ran = R.run at (b ∷ s) w.value w.after st w.first in
      step w ran (λ more u q. listed_in n (at + m at) w.after more u ran.rest q)
    where
      step : (w : Went (r (b ∷ s)) (λ a. one (λ more. a ∷ more) (λ t. many_in n r t)) l t) → Ran f m v at (b ∷ s) w.value w.after
          → ((more : List A) (u : List ℕ) → many_in n r w.after ≡ got more u → Listed m v (at + m at) (at + m at + 2 * length w.after) more)
          → Listed m v at (at + 2 * length (b ∷ s)) l
      step w ran on =
          let x = went (many_in n r w.after) (λ more. got (w.value ∷ more)) l t w.then in
          let p : w.value ∷ x.value ≡ l = cc x.then in
          let z : at + m at + 2 * length w.after ≡ at + 2 * length (b ∷ s) = omega (arith, ran.long) in
          rw (← p) (ran.value, omega arith, rw z at (on x.value x.after x.first))

  pub listed : (at : ℕ) (s : List ℕ) (l : List A) (t : List ℕ) → Stand f at s → many r s ≡ got l t → Listed m v at (at + 2 * length s) l
  unfolding many
  listed at s l t st e = listed_in (length s) at s l t st e

-- Items of one size take that many digits each.
pub listed_length : {A : Type 0} (c : ℕ) (v : ℕ → A) (at end : ℕ) (l : List A) → Listed (λ _. c) v at end l → end ≡ at + c * length l
listed_length c v at end [] h = omega arith
listed_length c v at end (a ∷ l) h = let e = listed_length c v (at + c) end l h.2 in omega (arith, e)
