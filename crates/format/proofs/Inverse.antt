-- Reading and writing undo each other: the parts of the grammar in Frame.antt, against the bytes of Writing.antt.
use mathlib.Core.List.{List, [], ◌∷◌, ◌++◌, flat_map, append-nil, append_assoc}
use mathlib.Core.Path.{◌≡◌, refl, sym, ap, ◌∙◌}
use Prim.Native.Nat.{ℕ, zero, suc, ◌+◌, ◌*◌, ◌/◌, ◌%◌, ◌<◌, ◌≤◌}
use native.Mathlib.Nat.{div-add-mod', add-zero, add-suc, suc-add, zero-add}
use native.Mathlib.Omega.{arith}
use lib.ListN.{length, length-append}
use Rattle.format.specs.Frame.{Got, got, fails, Reader, and_then, nothing, one, pair, triple, byte, two, four, many_in, many, entry, choice}
use Rattle.format.specs.All.{All}
use Rattle.format.specs.Writing.{Byte, InTwo, InFour}
use Rattle.format.specs.Bytes.{bytes₂, bytes₄}
use Rattle.std.specs.Prelude.{None, Option, Some, slice_get}

-- ---- What a reading took

-- the value's bytes came first, and it fits in them
pub record Took {A : Type 0} (w : A → List ℕ) (F : A → Type 0) (s : List ℕ) (a : A) (t : List ℕ) : Type 0 where
  pub bytes : s ≡ w a ++ t
  pub fits : F a
  pub rest : All Byte t

-- T: what may stand after the value.
pub record Inverse {A : Type 0} (T : List ℕ → Type 0) (r : Reader A) (w : A → List ℕ) (F : A → Type 0) : Type 0 where
  pub back : (a : A) (t : List ℕ) → F a → T t → r (w a ++ t) ≡ got a t
  pub forth : (s : List ℕ) (a : A) (t : List ℕ) → All Byte s → r s ≡ got a t → Took w F s a t

abbrev pub Anything : List ℕ → Type 0
Anything t = Unit {0}

abbrev pub Nothing : List ℕ → Type 0
Nothing t = t ≡ []

-- a reading that went on had something to go on from
pub record Went {A B : Type 0} (g : Got A) (f : A → Reader B) (b : B) (t : List ℕ) : Type 0 where
  pub value : A
  pub after : List ℕ
  pub first : g ≡ got value after
  pub then : f value after ≡ got b t

pub went : {A B : Type 0} (g : Got A) (f : A → Reader B) (b : B) (t : List ℕ) → and_then g f ≡ got b t → Went g f b t
unfolding and_then
went (got a s) f b t e = record { value = a; after = s; first = refl; then = e }
went fails f b t e = let z : ◌≡◌ {A = ℕ} 0 1 = cc in absurd (omega arith)

same_got : {A : Type 0} {a b : A} {s t : List ℕ} → got a s ≡ got b t → (a ≡ b) × (s ≡ t)
same_got e = (cc, cc)

-- ---- One part, two and three

module _ {A B : Type 0} (make : A → B) {T : List ℕ → Type 0} {r : Reader A} {w : A → List ℕ} {F : A → Type 0} (i : Inverse T r w F) where
  pub one_back : (a : A) (t : List ℕ) → F a → T t → one make r (w a ++ t) ≡ got (make a) t
  unfolding one and_then
  one_back a t f e = rw (i.back a t f e)

  pub record OneTook (s : List ℕ) (b : B) (t : List ℕ) : Type 0 where
    pub value : A
    pub is : b ≡ make value
    pub took : Took w F s value t

  pub one_forth : (s : List ℕ) (b : B) (t : List ℕ) → All Byte s → one make r s ≡ got b t → OneTook s b t
  unfolding one
  one_forth s b t h e =
      let g = went (r s) (λ a. got (make a)) b t e in
      let same = same_got g.then in
      record { value = g.value; is = sym same.0; took = rw same.1 at (i.forth s g.value g.after h g.first) }

module _ {A B C : Type 0} (make : A → B → C) {T : List ℕ → Type 0} {r : Reader A} {w : A → List ℕ} {F : A → Type 0} (i : Inverse Anything r w F)
    {q : Reader B} {v : B → List ℕ} {G : B → Type 0} (j : Inverse T q v G) where
  pub pair_back : (a : A) (b : B) (t : List ℕ) → F a → G b → T t → pair make r q (w a ++ (v b ++ t)) ≡ got (make a b) t
  unfolding pair and_then
  pair_back a b t f g e = rw (i.back a (v b ++ t) f tt) (one_back (make a) j b t g e)

  pub record PairTook (s : List ℕ) (c : C) (t : List ℕ) : Type 0 where
    pub first : A
    pub second : B
    pub is : c ≡ make first second
    pub bytes : s ≡ w first ++ (v second ++ t)
    pub fits : F first
    pub fits' : G second
    pub rest : All Byte t

  pub pair_forth : (s : List ℕ) (c : C) (t : List ℕ) → All Byte s → pair make r q s ≡ got c t → PairTook s c t
  unfolding pair
  pair_forth s c t h e =
      let g = went (r s) (λ a. one (make a) q) c t e in
      let k = i.forth s g.value g.after h g.first in
      let o = one_forth (make g.value) j g.after c t k.rest g.then in
      record {
        first = g.value;
        second = o.value;
        is = o.is;
        bytes = k.bytes ∙ ap (λ x. w g.value ++ x) o.took.bytes;
        fits = k.fits;
        fits' = o.took.fits;
        rest = o.took.rest;
      }

module _ {A B C D : Type 0} (make : A → B → C → D) {T : List ℕ → Type 0} {r : Reader A} {w : A → List ℕ} {F : A → Type 0} (i : Inverse Anything r w F)
    {q : Reader B} {v : B → List ℕ} {G : B → Type 0} (j : Inverse Anything q v G) {p : Reader C} {u : C → List ℕ} {H : C → Type 0} (k : Inverse T p u H) where
  pub triple_back : (a : A) (b : B) (c : C) (t : List ℕ) → F a → G b → H c → T t → triple make r q p (w a ++ (v b ++ (u c ++ t))) ≡ got (make a b c) t
  unfolding triple and_then
  triple_back a b c t f g h e = rw (i.back a (v b ++ (u c ++ t)) f tt) (pair_back (make a) j k b c t g h e)

  pub record TripleTook (s : List ℕ) (d : D) (t : List ℕ) : Type 0 where
    pub first : A
    pub second : B
    pub third : C
    pub is : d ≡ make first second third
    pub bytes : s ≡ w first ++ (v second ++ (u third ++ t))
    pub fits : F first
    pub fits' : G second
    pub fits'' : H third
    pub rest : All Byte t

  pub triple_forth : (s : List ℕ) (d : D) (t : List ℕ) → All Byte s → triple make r q p s ≡ got d t → TripleTook s d t
  unfolding triple
  triple_forth s d t h e =
      let g = went (r s) (λ a. pair (make a) q p) d t e in
      let l = i.forth s g.value g.after h g.first in
      let o = pair_forth (make g.value) j k g.after d t l.rest g.then in
      record {
        first = g.value;
        second = o.first;
        third = o.second;
        is = o.is;
        bytes = l.bytes ∙ ap (λ x. w g.value ++ x) o.bytes;
        fits = l.fits;
        fits' = o.fits;
        fits'' = o.fits';
        rest = o.rest;
      }

-- ---- Values with two parts or three, taken apart again

module _ {A B C : Type 0} (make : A → B → C) {T : List ℕ → Type 0} {r : Reader A} {w : A → List ℕ} {F : A → Type 0} (i : Inverse Anything r w F)
    {q : Reader B} {v : B → List ℕ} {G : B → Type 0} (j : Inverse T q v G)
    (wC : C → List ℕ) (FC : C → Type 0) (first : C → A) (second : C → B) where
  pub pair_inverse : ((c : C) → make (first c) (second c) ≡ c) → ((c : C) → wC c ≡ w (first c) ++ v (second c))
      → ((a : A) (b : B) → wC (make a b) ≡ w a ++ v b) → ((c : C) → FC c → F (first c) × G (second c)) → ((a : A) (b : B) → F a → G b → FC (make a b))
      → Inverse T (pair make r q) wC FC
  pair_inverse whole bytes bytes' parts fits = record { back = back; forth = forth }
    where
      back : (c : C) (t : List ℕ) → FC c → T t → pair make r q (wC c ++ t) ≡ got c t
      back c t f e =
          ap (λ x. pair make r q (x ++ t)) (bytes c)
          ∙ ap (pair make r q) (append_assoc (w (first c)) (v (second c)) t)
          ∙ pair_back make i j (first c) (second c) t (parts c f).0 (parts c f).1 e
          ∙ ap (λ x. got x t) (whole c)

      forth : (s : List ℕ) (c : C) (t : List ℕ) → All Byte s → pair make r q s ≡ got c t → Took wC FC s c t
      forth s c t h e =
          let k = pair_forth make i j s c t h e in
          record {
            bytes = k.bytes ∙ sym (append_assoc (w k.first) (v k.second) t) ∙ ap (λ x. x ++ t)
                (sym (bytes' k.first k.second) ∙ ap wC (sym k.is));
            fits = rw k.is (fits k.first k.second k.fits k.fits');
            rest = k.rest;
          }

module _ {A B C D : Type 0} (make : A → B → C → D) {T : List ℕ → Type 0} {r : Reader A} {w : A → List ℕ} {F : A → Type 0} (i : Inverse Anything r w F)
    {q : Reader B} {v : B → List ℕ} {G : B → Type 0} (j : Inverse Anything q v G) {p : Reader C} {u : C → List ℕ} {H : C → Type 0} (k : Inverse T p u H)
    (wD : D → List ℕ) (FD : D → Type 0) (first : D → A) (second : D → B) (third : D → C) where
  pub triple_inverse : ((d : D) → make (first d) (second d) (third d) ≡ d) → ((d : D) → wD d ≡ w (first d) ++ v (second d) ++ u (third d))
      → ((a : A) (b : B) (c : C) → wD (make a b c) ≡ w a ++ v b ++ u c) → ((d : D) → FD d → F (first d) × G (second d) × H (third d))
      → ((a : A) (b : B) (c : C) → F a → G b → H c → FD (make a b c)) → Inverse T (triple make r q p) wD FD
  triple_inverse whole bytes bytes' parts fits = record { back = back; forth = forth }
    where
      regroup : (a b c t : List ℕ) → (a ++ b ++ c) ++ t ≡ a ++ (b ++ (c ++ t))
      regroup a b c t = simp append_assoc

      back : (d : D) (t : List ℕ) → FD d → T t → triple make r q p (wD d ++ t) ≡ got d t
      back d t f e =
          ap (λ x. triple make r q p (x ++ t)) (bytes d)
          ∙ ap (triple make r q p) (regroup (w (first d)) (v (second d)) (u (third d)) t)
          ∙ triple_back make i j k (first d) (second d) (third d) t (parts d f).0 (parts d f).1 (parts d f).2 e
          ∙ ap (λ x. got x t) (whole d)

      forth : (s : List ℕ) (d : D) (t : List ℕ) → All Byte s → triple make r q p s ≡ got d t → Took wD FD s d t
      forth s d t h e =
          let o = triple_forth make i j k s d t h e in
          record {
            bytes = o.bytes ∙ sym (regroup (w o.first) (v o.second) (u o.third) t) ∙ ap (λ x. x ++ t)
                (sym (bytes' o.first o.second o.third) ∙ ap wD (sym o.is));
            fits = rw o.is (fits o.first o.second o.third o.fits o.fits' o.fits'');
            rest = o.rest;
          }

-- ---- Numbers

pub byte_inverse : Inverse Anything byte (λ n. n ∷ []) Byte
unfolding byte
byte_inverse = record { back = λ a t f e. refl; forth = forth }
  where
    forth : (s : List ℕ) (a : ℕ) (t : List ℕ) → All Byte s → byte s ≡ got a t → Took (λ n. n ∷ []) Byte s a t
    forth [] a t h e = let z : ◌≡◌ {A = ℕ} 0 1 = cc in absurd (omega arith)
    forth (b ∷ s) a t h e = let p = same_got e in record { bytes = cc (p.0, p.1); fits = rw p.0 at h.0; rest = rw p.1 at h.1 }

pub two_inverse : Inverse Anything two bytes₂ InTwo
unfolding two bytes₂
two_inverse = record { back = back; forth = forth }
  where
    back : (n : ℕ) (t : List ℕ) → InTwo n → Unit {0} → two (bytes₂ n ++ t) ≡ got n t
    back n t f e =
        let is : n / 0x100 % 0x100 * 0x100 + n % 0x100 ≡ n = omega arith in
        pair_back (λ high low. high * 0x100 + low) byte_inverse byte_inverse (n / 0x100 % 0x100) (n % 0x100) t (omega arith) (omega arith) tt ∙ ap
        (λ m. got m t) is

    forth : (s : List ℕ) (n : ℕ) (t : List ℕ) → All Byte s → two s ≡ got n t → Took bytes₂ InTwo s n t
    forth s n t h e =
        let k = pair_forth (λ high low. high * 0x100 + low) byte_inverse byte_inverse s n t h e in
        let is : n ≡ k.first * 0x100 + k.second = k.is in
        let high : n / 0x100 % 0x100 ≡ k.first = omega (arith, k.fits, k.fits') in
        let low : n % 0x100 ≡ k.second = omega (arith, k.fits') in
        record { bytes = rw (high, low) k.bytes; fits = omega (arith, k.fits, k.fits'); rest = k.rest }

-- the low half of a number is written as the number is
low_half : (n : ℕ) → bytes₂ n ≡ bytes₂ (n % 0x10000)
unfolding bytes₂
low_half n =
    let high : n / 0x100 % 0x100 ≡ n % 0x10000 / 0x100 % 0x100 = omega arith in
    let low : n % 0x100 ≡ n % 0x10000 % 0x100 = omega arith in
    cc

pub four_inverse : Inverse Anything four bytes₄ InFour
unfolding four bytes₄
four_inverse = record { back = back; forth = forth }
  where
    halves : (n : ℕ) (t : List ℕ) → bytes₄ n ++ t ≡ bytes₂ (n / 0x10000) ++ (bytes₂ (n % 0x10000) ++ t)
    halves n t = append_assoc (bytes₂ (n / 0x10000)) (bytes₂ n) t ∙ ap (λ l. bytes₂ (n / 0x10000) ++ (l ++ t)) (low_half n)

    back : (n : ℕ) (t : List ℕ) → InFour n → Unit {0} → four (bytes₄ n ++ t) ≡ got n t
    back n t f e =
        ap four (halves n t)
        ∙ pair_back (λ high low. high * 0x10000 + low) two_inverse two_inverse (n / 0x10000) (n % 0x10000) t (omega arith) (omega arith) tt
        ∙ ap (λ m. got m t) (div-add-mod' n 0x10000)

    forth : (s : List ℕ) (n : ℕ) (t : List ℕ) → All Byte s → four s ≡ got n t → Took bytes₄ InFour s n t
    forth s n t h e =
        let k = pair_forth (λ high low. high * 0x10000 + low) two_inverse two_inverse s n t h e in
        let is : n ≡ k.first * 0x10000 + k.second = k.is in
        let high : n / 0x10000 ≡ k.first = omega (arith, k.fits') in
        let low : n % 0x10000 ≡ k.second = omega (arith, k.fits') in
        record {
          bytes = k.bytes ∙ ap (λ m. bytes₂ m ++ (bytes₂ k.second ++ t)) (sym high) ∙ ap (λ m. bytes₂ (n / 0x10000) ++ (bytes₂ m ++ t)) (sym low)
              ∙ sym (halves n t);
          fits = omega (arith, k.fits, k.fits');
          rest = k.rest;
        }

-- ---- Lists to the end

module _ {A : Type 0} {r : Reader A} {w : A → List ℕ} {F : A → Type 0} (i : Inverse Anything r w F) (filled : (a : A) → 0 < length (w a)) where
  many_step : (n : ℕ) (s : List ℕ) → 0 < length s → many_in (suc n) r s ≡ and_then (r s) (λ a. one (λ more. a ∷ more) (λ t. many_in n r t))
  unfolding many_in
  many_step n [] h = absurd (omega arith)
  many_step n (b ∷ s) h = refl

  -- each item takes a byte at least, so there are no more of them than bytes
  many_back : (n : ℕ) (l : List A) → All F l → length (flat_map w l) ≤ n → many_in n r (flat_map w l) ≡ got l []
  unfolding many_in flat_map and_then one
  many_back zero [] a h = refl
  many_back (suc n) [] a h = refl
  many_back zero (x ∷ l) a h = absurd (omega (arith, filled x, length-append (w x) (flat_map w l)))
  many_back (suc n) (x ∷ l) a h =
      many_step n (w x ++ flat_map w l) (omega (arith, filled x, length-append (w x) (flat_map w l)))
      ∙ rw (i.back x (flat_map w l) a.0 tt) (rw (many_back n l a.1 (omega (arith, filled x, length-append (w x) (flat_map w l)))))

  nothing_took : (s : List ℕ) (l : List A) (t : List ℕ) → s ≡ [] → got [] [] ≡ got l t → Took (flat_map w) (All F) s l t
  unfolding flat_map
  nothing_took s l t h e = let p = same_got e in record { bytes = rw (← p.0, ← p.1) h; fits = rw (← p.0) tt; rest = rw (← p.1) tt }

  item_took : (s s' : List ℕ) (a : A) (l' : List A) (t' : List ℕ) (l : List A) (t : List ℕ) → s ≡ w a ++ s' → F a → Took (flat_map w) (All F) s' l' t'
      → got (a ∷ l') t' ≡ got l t → Took (flat_map w) (All F) s l t
  unfolding flat_map
  item_took s s' a l' t' l t q f m e =
      let p = same_got e in
      record {
        bytes = rw (← p.0, append_assoc, ← p.1) (q ∙ ap (λ x. w a ++ x) m.bytes);
        fits = rw (← p.0) (f, m.fits);
        rest = rw p.1 at m.rest;
      }

  many_forth : (n : ℕ) (s : List ℕ) (l : List A) (t : List ℕ) → All Byte s → many_in n r s ≡ got l t → Took (flat_map w) (All F) s l t
  unfolding many_in flat_map one
  many_forth zero [] l t h e = nothing_took [] l t refl e
  many_forth zero (b ∷ s) l t h e = let z : ◌≡◌ {A = ℕ} 0 1 = cc in absurd (omega arith)
  many_forth (suc n) [] l t h e = nothing_took [] l t refl e
  many_forth (suc n) (b ∷ s) l t h e = go (λ s' l' t'. many_forth n s' l' t') (went (r (b ∷ s)) (λ a. one (λ more. a ∷ more) (λ t. many_in n r t)) l t e)
    where
      go : ((s' : List ℕ) (l' : List A) (t' : List ℕ) → All Byte s' → many_in n r s' ≡ got l' t' → Took (flat_map w) (All F) s' l' t')
          → Went (r (b ∷ s)) (λ a. one (λ more. a ∷ more) (λ t. many_in n r t)) l t → Took (flat_map w) (All F) (b ∷ s) l t
      go ih g =
          let k = i.forth (b ∷ s) g.value g.after h g.first in
          let o = went (many_in n r g.after) (λ more. got (g.value ∷ more)) l t g.then in
          let m = ih g.after o.value o.after k.rest o.first in
          item_took (b ∷ s) g.after g.value o.value o.after l t k.bytes k.fits m o.then

  pub many_inverse : Inverse Nothing (many r) (flat_map w) (All F)
  unfolding many
  many_inverse = record {
    back = λ l t f e. rw (e, append-nil) (many_back (length (flat_map w l)) l f (omega arith));
    forth = λ s l t h e. many_forth (length s) s l t h e;
  }

-- ---- Tables

module _ {B : Type 0} (w : B → List ℕ) (F : B → Type 0) where
  -- what a table's entry reads is written with the entry's place in front
  abbrev pub Entry : ℕ → Reader B → Type 0
  Entry n q = (s : List ℕ) (b : B) (t : List ℕ) → All Byte s → q s ≡ got b t → Took w F (n ∷ s) b t

  infixr 30 ◌then◌
  pub data Entries : ℕ → List (Reader B) → Type 0 where
    end : {n : ℕ} → Entries n []
    ◌then◌ : {n : ℕ} {q : Reader B} {qs : List (Reader B)} → Entry n q → Entries (suc n) qs → Entries n (q ∷ qs)

  entry_at : (n i : ℕ) (table : List (Reader B)) (q : Reader B) → Entries n table → slice_get table i ≡ Some q → Entry (n + i) q
  entry_at n i [] q end e = let z : ◌≡◌ {A = ℕ} 0 1 = cc in absurd (omega arith)
  entry_at n zero (p ∷ table) q (a then rest) e = let same : p ≡ q = cc in rw (← same, add-zero) a
  entry_at n (suc i) (p ∷ table) q (a then rest) e = rw (add-suc, ← suc-add n i) (entry_at (suc n) i table q rest e)

  pub choice_forth : (table : List (Reader B)) → Entries 0 table → (s : List ℕ) (b : B) (t : List ℕ) → All Byte s → choice table s ≡ got b t → Took w F s b t
  unfolding choice entry
  choice_forth table a [] b t h e = let z : ◌≡◌ {A = ℕ} 0 1 = cc in absurd (omega arith)
  choice_forth table a (x ∷ s) b t h e = go (slice_get table x) refl e
    where
      go : (o : Option (Reader B)) → slice_get table x ≡ o → entry o s ≡ got b t → Took w F (x ∷ s) b t
      go None q c = let z : ◌≡◌ {A = ℕ} 0 1 = cc in absurd (omega arith)
      go (Some r) q c = rw zero-add at (entry_at 0 x table r a q s b t h.1 c)

  pub entry_nothing : (n : ℕ) (b : B) → w b ≡ n ∷ [] → F b → Entry n (nothing b)
  unfolding nothing
  entry_nothing n b e f s c t h q = let p = same_got q in record { bytes = rw (← p.0, e, ← p.1); fits = rw p.0 at f; rest = rw p.1 at h }

  pub entry_one : (n : ℕ) {A : Type 0} (make : A → B) {T : List ℕ → Type 0} {r : Reader A} {v : A → List ℕ} {G : A → Type 0} → Inverse T r v G
      → ((a : A) → w (make a) ≡ n ∷ v a) → ((a : A) → G a → F (make a)) → Entry n (one make r)
  entry_one n make i e f s b t h q =
      let k = one_forth make i s b t h q in
      record { bytes = rw (k.is, e k.value) (ap (λ x. n ∷ x) k.took.bytes); fits = rw k.is (f k.value k.took.fits); rest = k.took.rest }

  pub entry_pair : (n : ℕ) {A C : Type 0} (make : A → C → B) {T : List ℕ → Type 0} {r : Reader A} {v : A → List ℕ} {G : A → Type 0} → Inverse Anything r v G
      → {q : Reader C} {u : C → List ℕ} {H : C → Type 0} → Inverse T q u H
      → ((a : A) (c : C) → w (make a c) ≡ n ∷ v a ++ u c) → ((a : A) (c : C) → G a → H c → F (make a c)) → Entry n (pair make r q)
  entry_pair n make {v = v} i {u = u} j e f s b t h q =
      let k = pair_forth make i j s b t h q in
      record {
        bytes = rw (k.is, e k.first k.second) (ap (λ x. n ∷ x) (k.bytes ∙ sym (append_assoc (v k.first) (u k.second) t)));
        fits = rw k.is (f k.first k.second k.fits k.fits');
        rest = k.rest;
      }
