-- Card 2: a text with a value from d800 to dfff is none any more, and every other one is what it was.
use Rattle.std.proofs.Common.{◌≡◌, refl, ap, sym, ◌∙◌, ◌↔◌, ℕ, Bool, true, false, ◌&&◌, eqb, ltb, List, [], ◌∷◌, ◌++◌, arith}
use Rattle.std.proofs.lemmas.Bool.{and_parts, and_right, eqb-true, eqb-false, lt-leb, ltb-true, false_from_ne_true}
use native.Mathlib.Decide.{dec_le}
use Rattle.text.specs.Utf8.{Range, ◌to◌, only, tail, InRange, Text, utf8_1, utf8_2, utf8_4, utf8_char, inside, following, one_more, count, characters}
use Rattle.text.specs.Rule.{ones_of, ones, head, value}
use Rattle.text.specs.Surrogates.{utf8_char_open, characters_open, HasSurrogate, here, later}
use Rattle.text.proofs.Grammar.{range, inside_in, in_inside, counts}
use Rattle.std.specs.Prelude.{None, Option, Some}

-- ---- Which bytes they are

-- Of the characters of three bytes that begin with ed, those whose value is from d800 to dfff have a0 to bf next.
pub surrogate_values : (x y : ℕ) → InRange tail x → InRange tail y → InRange (0xa0 to 0xbf) x ↔ InRange (0xd800 to 0xdfff) (value (head 0xed) (x ∷ y ∷ []))
unfolding value head ones ones_of
surrogate_values x y i j = (
  λ h. range 0xd800 0xdfff _ (omega (arith, h, i, j)) (omega (arith, h, i, j)),
  λ v. range 0xa0 0xbf x (omega (arith, v, i, j)) i.high,
)

-- ---- What is kept
-- two grammars that differ in one alternative, at a byte that does not choose it
elsewhere : (g h : List (List Range)) (r : Range) (rs rs' : List Range) (b : ℕ) → inside r b ≡ false
    → following (g ++ (r ∷ rs) ∷ h) b ≡ following (g ++ (r ∷ rs') ∷ h) b
unfolding following
elsewhere [] h r rs rs' b e = rw (e, following)
elsewhere ([] ∷ g) h r rs rs' b e = elsewhere g h r rs rs' b e
elsewhere ((q ∷ qs) ∷ g) h r rs rs' b e = ap (λ o. elim (inside q b) [ true ↦ Some qs | false ↦ o ]) (elsewhere g h r rs rs' b e)

outside_ed : (b : ℕ) → (b ≡ 0xed → ⊥) → inside (only 0xed) b ≡ false
outside_ed b n = false_from_ne_true _ (λ q. n (omega (arith, inside_in (only 0xed) b q)))

same_following : (b : ℕ) → (b ≡ 0xed → ⊥) → following utf8_char b ≡ following utf8_char_open b
same_following b n =
    elsewhere
    (utf8_1 ++ utf8_2 ++ (only 0xe0 ∷ 0xa0 to 0xbf ∷ tail ∷ []) ∷ (0xe1 to 0xec ∷ tail ∷ tail ∷ []) ∷ [])
    ((0xee to 0xef ∷ tail ∷ tail ∷ []) ∷ utf8_4)
    (only 0xed) (0x80 to 0x9f ∷ tail ∷ []) (0x80 to 0xbf ∷ tail ∷ []) b (outside_ed b n)

above_9f : (x : ℕ) → inside (0x80 to 0x9f) x ≡ false → InRange (0x80 to 0xbf) x → InRange (0xa0 to 0xbf) x
above_9f x e i =
    elim (dec_le x 0x9f) [
      | yes h ↦ cc (in_inside (0x80 to 0x9f) x (range 0x80 0x9f x i.low h))
      | no h ↦ range 0xa0 0xbf x (omega arith) i.high
    ]

outside_9f : (x : ℕ) → InRange (0xa0 to 0xbf) x → inside (0x80 to 0x9f) x ≡ false
outside_9f x i = and_right _ _ (lt-leb x 0x9f (omega (arith, i)))

-- the two counts of s, and the two counts of s after ed
record Same (s : List ℕ) : Type 0 where
  owing : (HasSurrogate s → ⊥) → (rs : List Range) → count utf8_char rs s ≡ count utf8_char_open rs s
  after_ed : (HasSurrogate (0xed ∷ s) → ⊥) → count utf8_char (0x80 to 0x9f ∷ tail ∷ []) s ≡ count utf8_char_open (0x80 to 0xbf ∷ tail ∷ []) s

module _ (b : ℕ) (s : List ℕ) (ih : Same s) where
  owing_more : (HasSurrogate (b ∷ s) → ⊥) → (rs : List Range) → count utf8_char rs (b ∷ s) ≡ count utf8_char_open rs (b ∷ s)
  unfolding count following
  owing_more n (r ∷ rs) = ap (λ o. elim (inside r b) [ true ↦ o | false ↦ None ]) (ih.owing (λ h. n (later h)) rs)
  owing_more n [] = first (eqb b 0xed) refl
    where
      chosen : (o : Option (List Range)) → following utf8_char b ≡ o → following utf8_char_open b ≡ o
          → count utf8_char [] (b ∷ s) ≡ count utf8_char_open [] (b ∷ s)
      chosen None p q = rw (p, q, count)
      chosen (Some rs) p q = rw (p, q, count) (ap one_more (ih.owing (λ h. n (later h)) rs))

      first : (e : Bool) → eqb b 0xed ≡ e → count utf8_char [] (b ∷ s) ≡ count utf8_char_open [] (b ∷ s)
      first true q = rw (eqb-true b 0xed q) (ap one_more (ih.after_ed (rw (eqb-true b 0xed q) at n)))
      first false q = chosen (following utf8_char_open b) (same_following b (eqb-false b 0xed q)) refl

  after_ed_more : (HasSurrogate (0xed ∷ b ∷ s) → ⊥) → count utf8_char (0x80 to 0x9f ∷ tail ∷ []) (b ∷ s) ≡ count utf8_char_open
      (0x80 to 0xbf ∷ tail ∷ []) (b ∷ s)
  unfolding count
  after_ed_more n = go (inside (0x80 to 0x9f) b) refl (inside (0x80 to 0xbf) b) refl
    where
      third : (s : List ℕ) → (HasSurrogate (0xed ∷ b ∷ s) → ⊥) → InRange (0xa0 to 0xbf) b → None ≡ count utf8_char_open (tail ∷ []) s
      third [] n i = refl
      third (y ∷ s) n i = last (inside tail y) refl
        where
          last : (t : Bool) → inside tail y ≡ t → None ≡ count utf8_char_open (tail ∷ []) (y ∷ s)
          last true q = absurd (n (here i (inside_in tail y q)))
          last false q = rw (q, count)

      go : (t : Bool) → inside (0x80 to 0x9f) b ≡ t → (u : Bool) → inside (0x80 to 0xbf) b ≡ u
          → count utf8_char (0x80 to 0x9f ∷ tail ∷ []) (b ∷ s) ≡ count utf8_char_open (0x80 to 0xbf ∷ tail ∷ []) (b ∷ s)
      go true p true q = rw (p, q, count) (ih.owing (λ h. n (later (later h))) (tail ∷ []))
      go true p false q =
          let i = inside_in (0x80 to 0x9f) b p in
          cc (in_inside (0x80 to 0xbf) b (range 0x80 0xbf b i.low (omega (arith, i))))
      go false p true q = rw (p, q, count) (third s n (above_9f b p (inside_in (0x80 to 0xbf) b q)))
      go false p false q = rw (p, q, count)

same_counts : (s : List ℕ) → Same s
unfolding count
same_counts [] = record { owing = λ n rs. none_left rs; after_ed = λ n. refl }
  where
    none_left : (rs : List Range) → count utf8_char rs [] ≡ count utf8_char_open rs []
    none_left [] = refl
    none_left (r ∷ rs) = refl
same_counts (b ∷ s) = record { owing = owing_more b s (same_counts s); after_ed = after_ed_more b s (same_counts s) }

-- "Every file that has no such value answers as before": its texts.
pub kept : (s : List ℕ) → (HasSurrogate s → ⊥) → characters s ≡ characters_open s
unfolding characters characters_open
kept s n = (same_counts s).owing n []

-- ---- What is turned down
-- No range that is owed reaches up to ed, so ed only starts a character.
abbrev low : List Range → Bool
low [] = true
low (r ∷ rs) = ltb r.high 0xed && low rs

abbrev low_after : List (List Range) → Bool
low_after [] = true
low_after ([] ∷ g) = low_after g
low_after ((r ∷ rs) ∷ g) = low rs && low_after g

low_following : (g : List (List Range)) (b : ℕ) (rs : List Range) → low_after g ≡ true → following g b ≡ Some rs → low rs ≡ true
unfolding following
low_following [] b rs h e = cc
low_following ([] ∷ g) b rs h e = low_following g b rs h e
low_following ((r ∷ ts) ∷ g) b rs h e = go (λ k. low_following g b rs ((and_parts _ _ h).1) k) (inside r b) refl
  where
    go : (following g b ≡ Some rs → low rs ≡ true) → (i : Bool) → inside r b ≡ i → low rs ≡ true
    go ih true q =
        let k : Some ts ≡ Some rs = rw (q, following) at e in
        let same : rs ≡ ts = cc in
        rw same ((and_parts _ _ h).0)
    go ih false q = ih (rw (q, following) at e)

outside_low : (r : Range) → ltb r.high 0xed ≡ true → inside r 0xed ≡ false
outside_low r h = and_right _ _ (lt-leb 0xed r.high (ltb-true r.high 0xed h))

none_counted : {s : List ℕ} → HasSurrogate s → (rs : List Range) → low rs ≡ true → count utf8_char rs s ≡ None
unfolding count following
none_counted (here {x = x} {y = y} {t = t} i j) [] l =
    let inner : count utf8_char (0x80 to 0x9f ∷ tail ∷ []) (x ∷ y ∷ t) ≡ None = rw (outside_9f x i, count) in ap one_more inner
none_counted (here i j) (r ∷ rs) l = rw (outside_low r (and_parts _ _ l).0, count)
none_counted (later {b = b} {s = s} h) (r ∷ rs) l = go (none_counted h rs (and_parts _ _ l).1) (inside r b) refl
  where
    go : count utf8_char rs s ≡ None → (i : Bool) → inside r b ≡ i → count utf8_char (r ∷ rs) (b ∷ s) ≡ None
    go ih true q = rw (q, count) ih
    go ih false q = rw (q, count)
none_counted (later {b = b} {s = s} h) [] l = go (λ rs k. none_counted h rs k) (following utf8_char b) refl
  where
    go : ((rs : List Range) → low rs ≡ true → count utf8_char rs s ≡ None) → (o : Option (List Range)) → following utf8_char b ≡ o
        → count utf8_char [] (b ∷ s) ≡ None
    go ih None q = rw (q, count)
    go ih (Some rs) q = rw (q, count) (ap one_more (ih rs (low_following utf8_char b rs refl q)))

-- "Text with such a value is turned down from now on."
pub turned_down : (s : List ℕ) → HasSurrogate s → characters s ≡ None
unfolding characters
turned_down s h = none_counted h [] refl

-- Such a text is not in RFC 3629's grammar.
pub surrogate_no_text : (s : List ℕ) → HasSurrogate s → (n : ℕ) → Text s n → ⊥
surrogate_no_text s h n t = cc (turned_down s h, (counts s n).0 t)

-- What the card changes, in one sentence: the texts are those of before that have no such value, with the same number
-- of characters.
pub exactly : (s : List ℕ) (n : ℕ) → (characters s ≡ Some n) ↔ ((characters_open s ≡ Some n) × (HasSurrogate s → ⊥))
exactly s n = (λ e. (sym (kept s (without e)) ∙ e, without e), λ p. kept s p.1 ∙ p.0)
  where
    without : characters s ≡ Some n → HasSurrogate s → ⊥
    without e h = cc (turned_down s h)
