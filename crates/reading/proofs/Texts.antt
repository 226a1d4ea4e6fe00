-- Two lines have the same text exactly where the digits of one, with its end, are what the file goes on with where the
-- other starts. A text was given before exactly where that is so of one of the names.
use mathlib.Core.Bool.{Bool, true, false}
use mathlib.Core.List.{List, [], ◌∷◌}
use mathlib.Core.Path.{◌≡◌, refl, sym, ap, subst, ◌∙◌}
use Prim.Native.Nat.{ℕ, zero, suc, ◌+◌, ◌*◌, ◌/◌, ◌<◌, ◌≤◌, min}
use native.Mathlib.Numerals.{add-one}
use native.Mathlib.Omega.{arith}
use lib.Dec.{eqb, ltb}
use lib.ListN.{length, get_or, take, drop, length-drop, length-take, drop_of_length-le}
use lib.Seq.{drop-cons, get_or-drop, ext_get_or}
use borrow.Author.Tests.{eqb-true, eqb-false, ne_eqb, eq-eqb, ltb-true, ltb-false}
use Rattle.std.proofs.lemmas.List.{get_or-take}
use Rattle.std.specs.Bool.{Decides}
use Rattle.std.specs.List.{slice_range, starts_with}
use Rattle.std.proofs.lemmas.Bool.Decides.{Decides-eqb}
use Rattle.std.proofs.lemmas.Slice.Eq.{slice_eq-Decides}
use Rattle.work.specs.Layout.{NAMES}
use Rattle.sigla_hex.specs.Digits.{line_at}
use Rattle.frames.proofs.Shapes.{to_end}
use Rattle.sigla_hex.proofs.Bytes.{line_takes, line_spells, same_digits, same_bytes}
use Rattle.format.specs.Bytes.{ascii}
use Rattle.format.specs.Conditions.{any_of, same_text, given}
use Rattle.format.specs.File.{value_text}
use Rattle.format.proofs.Tests.{cases, clash, same_text_lem, text_same}
use Rattle.reading.specs.Held.{NamesHeld}
use Rattle.reading.specs.Prints.{print_of, Printed}
use Rattle.reading.specs.Promises.{NameLine, GivenBefore}
use Rattle.std.specs.Prelude.{Option, Some}

-- ---- Two lines

-- so many digits from a place on
abbrev pub digits : List ℕ → ℕ → ℕ → List ℕ
digits f at n = take n (drop at f)

digits_long : (f : List ℕ) (at n : ℕ) → at + n ≤ length f → length (digits f at n) ≡ n
digits_long f at n h = let e = length-take n (drop at f) in omega (arith, e, length-drop at f)

digit_is : (f : List ℕ) (at n k : ℕ) → k < n → get_or (digits f at n) k 0 ≡ get_or f (at + k) 0
digit_is f at n k h = get_or-take n (drop at f) k 0 h ∙ get_or-drop at f k 0

module _ (f : List ℕ) (a b : ℕ) (s t : List ℕ) (p : line_at f a ≡ Some s) (q : line_at f b ≡ Some t) where
  abbrev n : ℕ
  n = 2 * length t + 1

  long : length (digits f b n) ≡ n
  long = digits_long f b n (let x = line_spells f b t q in omega (arith, x.within))

  same_goes_on : s ≡ t → digits f a n ≡ digits f b n
  same_goes_on e =
      let r : line_at f a ≡ Some t = p ∙ ap Some e in
      let x = line_spells f a t r in
      ext_get_or 0 (digits f a n) (digits f b n) (digits_long f a n (omega (arith, x.within)) ∙ sym long)
      (λ k l. let h : k < n = omega (arith, digits_long f a n (omega (arith, x.within))) in
      digit_is f a n k h ∙ same_digits f t a b (line_takes f a t r).is (line_takes f b t q).is k (omega arith) ∙ sym (digit_is f b n k h))

  goes_on_same : digits f a n ≡ digits f b n → s ≡ t
  goes_on_same e =
      let y = line_spells f b t q in
      let each : (k : ℕ) → k < n → get_or f (a + k) 0 ≡ get_or f (b + k) 0 = λ k h. sym (digit_is f a n k h) ∙ ap (λ l. get_or l k 0) e ∙ digit_is f b n k h in
      same_bytes f a b (2 * length t) s t (line_spells f a s p) y (λ k h. each k (omega arith)) (each (2 * length t) (omega arith) ∙ y.close)

-- ---- One name

pub record SameName (f : List ℕ) (x at : ℕ) (bytes : List ℕ) (r : Bool) : Type 0 where
  pub is : (s t : List ℕ) → line_at f (x / 512) ≡ Some (0x02 ∷ s) → NameLine f at bytes t → r ≡ same_text s t

module _ (f : List ℕ) (x at : ℕ) (bytes : List ℕ) where
  abbrev own : List ℕ
  own = digits f at (2 * length bytes + 1)

  -- no text has both the name's word and the line
  unlike : ((s : List ℕ) → line_at f (x / 512) ≡ Some (0x02 ∷ s) → NameLine f at bytes s → ⊥) → SameName f x at bytes false
  unlike n = record {
    is = λ s t p l. cases (same_text s t) (λ e. absurd (n s p (subst (NameLine f at bytes) (sym (same_text_lem s t e)) l))) (λ e. sym e);
  }

  pub name_nowhere : length f < x / 512 → SameName f x at bytes false
  name_nowhere h = unlike (λ s p l. let y = line_spells f (x / 512) (0x02 ∷ s) p in omega (arith, y.within))

  name_goes_on : (r : Bool) → Decides r (own ≡ take (length own) (drop (x / 512) f)) → SameName f x at bytes r
  unfolding same_text
  name_goes_on r d = record {
    is = λ s t p l.
        let q : line_at f at ≡ Some (0x02 ∷ t) = l.line ∙ ap Some l.is in
        let m : own ≡ digits f at (2 * length (0x02 ∷ t) + 1) = ap (λ u. digits f at (2 * length u + 1)) l.is in
        let z : length own ≡ 2 * length (0x02 ∷ t) + 1 = ap length m ∙ long f (x / 512) at (0x02 ∷ s) (0x02 ∷ t) p q in
        cases (same_text s t)
        (λ e. d.1 (m ∙ sym (same_goes_on f (x / 512) at (0x02 ∷ s) (0x02 ∷ t) p q (ap (λ u. 0x02 ∷ u) (same_text_lem s t e)))
        ∙ ap (λ n. take n (drop (x / 512) f)) (sym z)) ∙ sym e)
        (λ e. go s t e r refl p q m z);
  }
    where
      tail : (s t : List ℕ) → ◌≡◌ {A = List ℕ} (0x02 ∷ s) (0x02 ∷ t) → s ≡ t
      tail s t e = cc

      go : (s t : List ℕ) → same_text s t ≡ false → (b : Bool) → r ≡ b → (p : line_at f (x / 512) ≡ Some (0x02 ∷ s)) (q : line_at f at ≡ Some (0x02 ∷ t))
          → own ≡ digits f at (2 * length (0x02 ∷ t) + 1) → length own ≡ 2 * length (0x02 ∷ t) + 1 → r ≡ same_text s t
      go s t e false y p q m z = y ∙ sym e
      go s t e true y p q m z =
          let same = goes_on_same f (x / 512) at (0x02 ∷ s) (0x02 ∷ t) p q (ap (λ n. take n (drop (x / 512) f)) (sym z) ∙ sym (d.0 y) ∙ m) in
          clash (sym (subst (λ u. same_text s u ≡ true) (tail s t same) (text_same s)) ∙ e)

  -- what the code compares: its digits, and the file from the name's place on
  pub name_compared : (d earlier : List ℕ) → d ≡ own → earlier ≡ slice_range f (x / 512) (length f) → (r : Bool) → r ≡ starts_with eqb earlier d
      → SameName f x at bytes r
  name_compared d earlier is from r e =
      name_goes_on r (rw (is, from ∙ to_end f (x / 512)) at (slice_eq-Decides Decides-eqb d (take (length d) earlier) r e))

-- ---- The names so far

eqb_swapped : (a b : ℕ) → eqb a b ≡ eqb b a
eqb_swapped a b = cases (eqb a b)
    (λ q. q ∙ sym (eq-eqb b a (sym (eqb-true a b q))))
    (λ q. q ∙ sym (ne_eqb b a (λ e. eqb-false a b q (sym e))))

same_swapped : (s t : List ℕ) → same_text s t ≡ same_text t s
unfolding same_text
same_swapped [] [] = refl
same_swapped [] (b ∷ t) = refl
same_swapped (a ∷ s) [] = refl
same_swapped (a ∷ s) (b ∷ t) = rw (eqb_swapped a b, same_swapped s t)

-- What is left to look at from name j on.
pub record Looking (f : List ℕ) (at : ℕ) (bytes w prints : List ℕ) (n j : ℕ) : Type 0 where
  pub to : (value : Option ℕ) (names : List (List ℕ)) (s : List ℕ) → NamesHeld f w n value names → Printed prints names → NameLine f at bytes s
      → given names s ≡ any_of (same_text s) (drop j names)

pub look_start : (f : List ℕ) (at : ℕ) (bytes w prints : List ℕ) (n : ℕ) → Looking f at bytes w prints n 0
unfolding given
look_start f at bytes w prints n = record { to = λ v names s h p l. refl }

module _ {f : List ℕ} {at : ℕ} {bytes w prints : List ℕ} {n : ℕ} where
  -- past the last name nothing is left
  pub look_past : {j : ℕ} (k : ℕ) → n ≤ j → n ≤ k → Looking f at bytes w prints n j → Looking f at bytes w prints n k
  look_past {j} k a b g = record {
    to = λ v names s h p l.
        let jn : length names ≤ j = omega (arith, h.count) in
        let kn : length names ≤ k = omega (arith, h.count) in
        g.to v names s h p l ∙ ap (any_of (same_text s)) (drop_of_length-le names jn ∙ sym (drop_of_length-le names kn));
  }

  -- as many as there are, up to a place
  pub look_up_to : {j : ℕ} (i : ℕ) → j ≡ min n i → Looking f at bytes w prints n j → Looking f at bytes w prints n i
  look_up_to {j} i e g = cases (ltb n i)
      (λ q. let past : n < i = ltb-true n i q in look_past i (omega arith) (omega arith) g)
      (λ q. let here : i ≤ n = ltb-false n i q in let same : i ≡ j = omega arith in rw same g)

  pub look_none : {j : ℕ} → Looking f at bytes w prints n j → n ≤ j → GivenBefore f at bytes w prints n false
  unfolding any_of
  look_none {j} g h = record {
    is = λ v names s held p l. sym
        (g.to v names s held p l ∙ ap (any_of (same_text s)) (let past : length names ≤ j = omega (arith, held.count) in drop_of_length-le names past));
  }

  module _ {j : ℕ} (g : Looking f at bytes w prints n j) where
    -- by what is known of the j-th name's text
    at_name : (here : j < n) (r : Bool) (v : Option ℕ) (names : List (List ℕ)) (s : List ℕ) → NamesHeld f w n v names → Printed prints names
        → NameLine f at bytes s → r ≡ same_text (get_or names j []) s
        → given names s ≡ elim r [ true ↦ true | false ↦ any_of (same_text s) (drop (j + 1) names) ]
    unfolding any_of
    at_name here r v names s h p l q =
        let b : j < length names = omega (arith, h.count) in
        let e : drop j names ≡ get_or names j [] ∷ drop (j + 1) names = rw add-one (drop-cons names j [] b) in
        g.to v names s h p l ∙ ap (any_of (same_text s)) e ∙ ap (λ t. elim t [ true ↦ true | false ↦ any_of (same_text s) (drop (j + 1) names) ])
        (same_swapped s (get_or names j []) ∙ sym q)

    -- by the name's word
    module _ (here : j < n) {x : ℕ} (word : x ≡ get_or w (NAMES + j) 0) {r : Bool} (same : SameName f x at bytes r) where
      told : (v : Option ℕ) (names : List (List ℕ)) (s : List ℕ) → NamesHeld f w n v names → NameLine f at bytes s → r ≡ same_text (get_or names j []) s
      told v names s h l =
          let b : j < length names = omega (arith, h.count) in
          same.is (get_or names j []) s (subst (λ y. line_at f (y / 512) ≡ Some (0x02 ∷ get_or names j [])) (sym word) (h.name j b)) l

      pub look_found : r ≡ true → GivenBefore f at bytes w prints n true
      look_found e = record { is = λ v names s h p l. sym (at_name here r v names s h p l (told v names s h l) ∙ rw e) }

      pub look_next : r ≡ false → Looking f at bytes w prints n (j + 1)
      look_next e = record { to = λ v names s h p l. at_name here r v names s h p l (told v names s h l) ∙ rw e }

    module _ (print : ℕ) (own : print ≡ print_of (drop 1 bytes)) where
      -- a name with another print has another text
      other_text : (get_or prints j 0 ≡ print → ⊥) → (names : List (List ℕ)) (s : List ℕ) → j < length names → Printed prints names → NameLine f at bytes s
          → false ≡ same_text (get_or names j []) s
      other_text o names s b p l = cases (same_text (get_or names j []) s)
          (λ e. absurd (o (p.is j b ∙ ap print_of (same_text_lem (get_or names j []) s e ∙ sym (ap (drop 1) l.is)) ∙ sym own)))
          (λ e. sym e)

      pub look_other : (get_or prints j 0 ≡ print → ⊥) → Looking f at bytes w prints n (j + 1)
      look_other o = cases (ltb j n)
          (λ q. let here : j < n = ltb-true j n q in
          record { to = λ v names s h p l. at_name here false v names s h p l (other_text o names s (omega (arith, h.count)) p l) })
          (λ q. let past : n ≤ j = ltb-false j n q in look_past (j + 1) past (omega arith) g)

  -- none of the next k has the print
  pub look_block : {i : ℕ} (print : ℕ) → print ≡ print_of (drop 1 bytes) → (k : ℕ) → ((m : ℕ) → m < k → get_or prints (i + m) 0 ≡ print → ⊥)
      → Looking f at bytes w prints n i → Looking f at bytes w prints n (i + k)
  look_block {i} print own zero o g = let e : i + 0 ≡ i = omega arith in rw e g
  look_block {i} print own (suc k) o g =
      let e : i + suc k ≡ i + k + 1 = omega arith in
      rw e (look_other (look_block print own k (λ m l. o m (omega arith)) g) print own (o k (omega arith)))

-- ---- The name `value`

pub value_told : (t : List ℕ) (r : Bool) → Decides r (t ≡ 0x76 ∷ 0x61 ∷ 0x6c ∷ 0x75 ∷ 0x65 ∷ []) → r ≡ same_text value_text t
unfolding value_text ascii
value_told t r d = cases (same_text value_text t)
    (λ q. d.1 (sym (same_text_lem value_text t q)) ∙ sym q)
    (λ q. go r refl q)
  where
    go : (b : Bool) → r ≡ b → same_text value_text t ≡ false → r ≡ same_text value_text t
    go false e q = e ∙ sym q
    go true e q = clash (sym (subst (λ u. same_text value_text u ≡ true) (sym (d.0 e)) (text_same value_text)) ∙ q)
